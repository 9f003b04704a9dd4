-- Layouts in another format.
use Rattle.std.proofs.Common.{◌≡◌, ◌≢◌, ℕ, ℤ, ◌+◌, ◌≤◌, true, false, Bool, Option, Some, None, IsSome, List, [], ◌∷◌, length, drop, refl, sym, ap, subst, ◌∙◌, arith, inr}
use Rattle.ts_row.specs.Row.{Heading, has_long_decimal, Element, has_hidden}
use Rattle.std.specs.Option.{option_and_then}
use Rattle.ts_page.specs.Pages.{bytes_at, EqualPages, with_page, first_element_page}
use Rattle.ts_space.specs.Directory.{Directory}
use Rattle.ts_offset.specs.declared.shape.Shape.{Shape}
use Rattle.ts_model.specs.Catalogue.{old_format, newest_format}
use Rattle.ts_model.specs.declared.kind.Kind.{Kind}
use Rattle.ts_model.specs.declared.kind.Kind.TheVariants as kinds
use Rattle.ts_model.specs.declared.def.Def.{Def}
use Rattle.ts_model.specs.declared.def.Def.TheVariants as defs
use Rattle.ts_model.specs.Definitions.{Definitions, SeriesDef, at_slot, with_format, references, IsDefinitions}
use Rattle.ts_layout.specs.Slot.{header_bytes, slot_size, slot_bytes, page_of_slot, byte_of_slot, slots_in_page, bytes_of_slots}
use Rattle.ts_layout.specs.Meaning.{IsOfFormat, AreOfFormat, IsDef, IsSlotOf, Layout, ElementPage, Free, Cells, element_page, def_at, heading_at, shape_of, shape_at, HoldsElements, HoldsLayout, KeepLimits, IsThere, AreSound, IsSound}
use Rattle.ts_layout.specs.Sheets.{Sheet, HoldsSheet}
use Rattle.ts_layout.specs.Changed.{layout_in}
use Rattle.ts_layout.specs.Chains.{AreFilled}
use Rattle.ts_layout.specs.Placed.{AreKept}
use Rattle.ts_layout.proofs.PlaceLemmas.{page_low}
use Rattle.ts_layout.proofs.LayoutLemmas.{same_page}
use Rattle.ts_layout.proofs.PageLemmas.{same_cells}
use Rattle.ts_layout.proofs.WrittenLemmas.{there_now, elsewhere}

-- no other format asks for anything
pub not_old : newest_format ≢ old_format
not_old same = omega (arith, same)

pub of_format_short : (format : ℕ) (h : Heading) → has_long_decimal h.columns ≡ false → IsOfFormat format h
of_format_short format h short old = short

pub of_format_new : (format : ℕ) (h : Heading) → format ≢ old_format → IsOfFormat format h
of_format_new format h new old = absurd (new old)

pub elements_of_new : (format : ℕ) (es : List Element) → format ≢ old_format → AreOfFormat format es
elements_of_new format es new old = absurd (new old)

-- the elements of a page are of the format, and so are those that hide none anew
not_true : (b : Bool) → (b ≡ true → ⊥) → b ≡ false
not_true true not = absurd (not refl)
not_true false not = refl

true_and_false : (b : Bool) → b ≡ false → b ≡ true → ⊥
true_and_false b is_false is_true = cc

pub format_edited : (format : ℕ) (old es : List Element) → AreOfFormat format old → (has_hidden es ≡ true → has_hidden old ≡ true) → AreOfFormat format es
format_edited format old es before fewer is = not_true (has_hidden es) (λ hides. true_and_false (has_hidden old) (before is) (fewer hides))

-- what stands in a slot by another format
def_same : (kind : Kind) (slot format : ℕ) (d : Definitions) → def_at kind slot (with_format format d) ≡ def_at kind slot d
def_same kinds.RowType slot format d = refl
def_same kinds.Pattern slot format d = refl
def_same kinds.Calendar slot format d = refl
def_same kinds.Container slot format d = refl
def_same kinds.Series slot format d = refl

shape_of_same : (format : ℕ) (d : Definitions) (regular : Option (ℕ × ℤ)) → shape_of (with_format format d) regular ≡ shape_of d regular
shape_of_same format d None = refl
shape_of_same format d (Some regular) = refl

shape_same : (format : ℕ) (d : Definitions) (slot : ℕ) → shape_at (with_format format d) slot ≡ shape_at d slot
shape_same format d slot = λ i. option_and_then (λ (s : SeriesDef). shape_of_same format d s.regular i) (at_slot slot d.series)

there_same : (format : ℕ) (d : Definitions) (targets : List (Kind × ℕ)) → IsThere d targets → IsThere (with_format format d) targets
there_same format d [] there = tt
there_same format d (target ∷ rest) there = (subst (λ (o : Option Def). IsSome o) (sym (def_same target.0 target.1 format d)) there.0, there_same format d rest there.1)

def_renewed : (format : ℕ) (def : Def) → IsDef format def → IsDef newest_format def
def_renewed format (defs.RowType name h) is = record { name = is.name; stamp = is.stamp; columns = is.columns; rules = is.rules; of_format = of_format_new newest_format h not_old }
def_renewed format (defs.Pattern name pattern) is = is
def_renewed format (defs.Calendar name calendar by) is = is
def_renewed format (defs.Container name row_type quota) is = is
def_renewed format (defs.Series key container regular) is = is

slot_renewed : (format : ℕ) (kind : Kind) (o : Option Def) → IsSlotOf format kind o → IsSlotOf newest_format kind o
slot_renewed format kind None is = tt
slot_renewed format kind (Some def) is = (is.0, def_renewed format def is.1)

tables_renewed : (d : Definitions) → IsDefinitions d → IsDefinitions (with_format newest_format d)
tables_renewed d rules = record {
  format = inr refl;
  row_types = rules.row_types;
  patterns = rules.patterns;
  calendars = rules.calendars;
  containers = rules.containers;
  series = rules.series;
}

limits_renewed : (d : Definitions) → KeepLimits d → KeepLimits (with_format newest_format d)
limits_renewed d limits = record {
  each = λ kind slot within. subst (IsSlotOf newest_format kind) (sym (def_same kind slot newest_format d)) (slot_renewed d.format kind (def_at kind slot d) (limits.each kind slot within));
}

-- a page has one sheet, in whichever format
pub one_held : (d : Definitions) (page : List ℕ) (s t : ℕ) (h g : Heading) (one other : Shape) (a b : Sheet) → KeepLimits d → IsDefinitions d → heading_at d s ≡ Some h → heading_at d t ≡ Some g → shape_at d s ≡ Some one → shape_at d t ≡ Some other
    → HoldsSheet one s h.columns a page → HoldsSheet other t g.columns b page → (s ≡ t) × (a ≡ b)
one_held d page s t h g one other a b limits rules there there' lies lies' is is' =
    same_cells s t a b
    (same_page (with_format newest_format d) page (Cells s a) (Cells t b) (limits_renewed d limits) (tables_renewed d rules)
    (record { heading = h; shape = one; columns = there; lies = shape_same newest_format d s ∙ lies; bytes = is; of_format = elements_of_new newest_format a.1 not_old })
    (record { heading = g; shape = other; columns = there'; lies = shape_same newest_format d t ∙ lies'; bytes = is'; of_format = elements_of_new newest_format b.1 not_old }))

pub rules_renewed : (pages : ℕ) (d : Definitions) → AreSound pages d → AreSound pages (with_format newest_format d)
rules_renewed pages d sound = record {
  tables = tables_renewed d sound.tables;
  limits = limits_renewed d sound.limits;
  references = λ kind slot def within here.
      there_same newest_format d (references def) (sound.references kind slot def within (sym (def_same kind slot newest_format d) ∙ here));
  follow = sound.follow;
  valid = sound.valid;
  quotas = sound.quotas;
  origins = sound.origins;
}

pub sound_renewed : (l : Layout) → IsSound l → IsSound (layout_in newest_format l)
sound_renewed l sound = record {
  some = sound.some;
  most = sound.most;
  definitions = rules_renewed (length l.element_pages) l.definitions sound.definitions;
  sequences = λ slot h shape heading lies. sound.sequences slot h shape heading (sym (shape_same newest_format l.definitions slot) ∙ lies);
  charges = sound.charges;
}

pub filled_renewed : (l : Layout) → AreFilled l → AreFilled (layout_in newest_format l)
filled_renewed l filled i slot sheet is =
    let fill = filled i slot sheet is in
    record {
      heading = fill.heading;
      shape = fill.shape;
      columns = fill.columns;
      lies = shape_same newest_format l.definitions slot ∙ fill.lies;
      fill = fill.fill;
      of_format = elements_of_new newest_format sheet.1 not_old;
    }

pub kept_renewed : (d : Definitions) (space : Directory) (free : List ℕ) (count : ℕ) → AreKept d space free count → AreKept (with_format newest_format d) space free count
kept_renewed d space free count kept = record {
  some = kept.some;
  most = kept.most;
  sound = rules_renewed _ d kept.sound;
  placed = record {
    slots = kept.placed.slots;
    rising = kept.placed.rising;
    places = λ slot within k e inside.
        let one = kept.placed.places slot within k e inside in
        record {
          element = one.element;
          below = one.below;
          some = one.some;
          heading = one.heading;
          shape = one.shape;
          columns = one.columns;
          lies = shape_same newest_format d slot ∙ one.lies;
          room = one.room;
        };
    numbers = kept.placed.numbers;
    different = kept.placed.different;
    all = kept.placed.all;
  };
  quotas = kept.quotas;
}

-- the bytes: the header alone changes
holds_renewed : (d : Definitions) (page : List ℕ) (e : ElementPage) → HoldsElements d page e → HoldsElements (with_format newest_format d) page e
holds_renewed d page Free holds = holds
holds_renewed d page (Cells slot sheet) holds = record {
  heading = holds.heading;
  shape = holds.shape;
  columns = holds.columns;
  lies = shape_same newest_format d slot ∙ holds.lies;
  bytes = holds.bytes;
  of_format = elements_of_new newest_format sheet.1 not_old;
}

above_first : (n : ℕ) → 257 ≤ n → n ≢ 0
above_first n low is = omega (arith, low, is)

pub layout_renewed : (l : Layout) (v w : ℕ → List ℕ) → EqualPages (with_page 0 (header_bytes newest_format (length l.element_pages)) v) w → HoldsLayout v l → HoldsLayout w (layout_in newest_format l)
layout_renewed l v w same holds =
    let bytes : List ℕ = header_bytes newest_format (length l.element_pages) in
    let stays : (n : ℕ) → 257 ≤ n → w n ≡ v n = λ n low. elsewhere 0 n bytes v w (above_first n low) same in
    record {
      header = there_now 0 bytes v w same;
      definitions = record {
        slots = λ kind slot within.
            ap (bytes_at (byte_of_slot kind slot) (slot_size kind)) (stays (page_of_slot kind slot) (page_low kind slot)) ∙ holds.definitions.slots kind slot within
            ∙ ap (slot_bytes kind) (sym (def_same kind slot newest_format l.definitions));
        behind = λ n low high. ap (λ (p : List ℕ). drop (bytes_of_slots (slots_in_page n)) p) (stays n low) ∙ holds.definitions.behind n low high;
      };
      elements = λ i within.
          subst (λ (p : List ℕ). HoldsElements (with_format newest_format l.definitions) p (element_page i l.element_pages)) (sym (stays (first_element_page + i) (omega arith)))
          (holds_renewed l.definitions (v (first_element_page + i)) (element_page i l.element_pages) (holds.elements i within));
    }
