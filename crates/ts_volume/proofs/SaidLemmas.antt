-- What pages say is what the layout has that they are laid out from.
use Rattle.std.specs.Prelude.{Contains}
use Rattle.std.proofs.Common.{◌≡◌, ℕ, zero, suc, ◌+◌, ◌-◌, ◌<◌, ◌≤◌, Option, Some, None, IsSome, List, [], ◌∷◌, length, get_or, refl, sym, ap, ◌∙◌, subst, arith, inl, inr}
use Rattle.std.specs.Option.{option_map}
use Rattle.std.proofs.lemmas.Bool.{cases_lt}
use Rattle.std.proofs.lemmas.List.{get_or_past, length-map}
use Rattle.ts_page.specs.Pages.{first_element_page}
use Rattle.ts_model.specs.declared.kind.Kind.{Kind}
use Rattle.ts_model.specs.declared.kind.Kind.TheVariants as kinds
use Rattle.ts_model.specs.declared.def.Def.{Def}
use Rattle.ts_model.specs.Definitions.{Definitions, KindDef, PatternDef, CalendarDef, IsTable, IsDefinitions, limit, name_of, name_in, to_def, of_pattern, of_calendar, table_of, slots, at_slot, references, pattern_reference}
use Rattle.ts_model.proofs.PartsLemmas.{table-rules}
use Rattle.ts_layout.specs.Slot.{header_bytes}
use Rattle.ts_layout.specs.Meaning.{Layout, def_at, element_page, HoldsElements, IsThere, AreFollowing, IsLaidOut}
use Rattle.ts_layout.proofs.CallerLemmas.{AreInPages, unique, header_format, slot_written, as_written, name_written, references_written, own, at_slot-map, calendar_limit, same_page, same_pages}
use Rattle.ts_volume.specs.FirstBad.{HasHeader, AreSaid, AllSaid}

some_or_none : {A : Type 0} (a : A) → Some a ≡ None → ⊥
some_or_none a same = cc

pub there_of : {A : Type 0} (o : Option A) → IsSome o → (a : A) × (o ≡ Some a)
there_of (Some a) some = (a, refl)
there_of None some = absurd (cc)

-- what stands in a slot is one of the table's
pub within_table : {A : Type 0} (table : List (Option A)) (i : ℕ) (a : A) → at_slot i table ≡ Some a → i < length table
within_table table i a here =
    elim (cases_lt i (length table)) [
      | inl low ↦ low
      | inr high ↦ absurd (some_or_none a (sym here ∙ get_or_past table i None high))
    ]

-- what is read of a slot, by what is read of another that has the same
alike : {A B : Type 0} (f : A → B) (o : Option A) (a : A) → option_map f (Some a) ≡ option_map f o → (b : A) × (o ≡ Some b) × (f a ≡ f b)
alike f None a same = absurd (cc)
alike f (Some b) a same = (b, refl, cc)

-- each of some references is there
pub refers_there : (d : Definitions) (targets : List (Kind × ℕ)) (target : Kind × ℕ) → IsThere d targets → Contains targets target → IsSome (def_at target.0 target.1 d)
refers_there d [] target there (k, below, is) = absurd (omega (arith, below))
refers_there d (t ∷ targets) target there (zero, below, is) = subst (λ (x : Kind × ℕ). IsSome (def_at x.0 x.1 d)) is there.0
refers_there d (t ∷ targets) target there (suc k, below, is) = refers_there d targets target there.1 (k, omega (arith, below), is)

module _ (count : ℕ) (pages : ℕ → List ℕ) (l : Layout) (laid : IsLaidOut count pages l) where
  -- the volume has so many element pages
  pub element_count : count - first_element_page ≡ length l.element_pages
  element_count = let size = laid.size in omega (arith, size)

  pub own_format : (format : ℕ) → HasHeader count pages format → format ≡ l.definitions.format
  own_format format header = header_format format l.definitions.format (count - first_element_page) (length l.element_pages) (sym header.bytes ∙ laid.bytes.header)

  pub own_header : HasHeader count pages l.definitions.format
  own_header = record {
    one = laid.rules.definitions.tables.format;
    bytes = laid.bytes.header ∙ ap (header_bytes l.definitions.format) (sym element_count);
  }

  -- a slot of the layout that is filled is one of its kind
  pub own_within : (kind : Kind) (slot : ℕ) (a : Def) → def_at kind slot l.definitions ≡ Some a → slot < limit kind
  own_within kind slot a here =
      let s = own (to_def kind) slot (table_of kind l.definitions) a here in
      let low = within_table (table_of kind l.definitions) slot s.0 s.1 in
      let size = (table-rules l.definitions laid.rules.definitions.tables kind).size in
      omega (arith, low, size)

  own_apart : (kind : Kind) (i j : ℕ) (a b : Def) → def_at kind i l.definitions ≡ Some a → def_at kind j l.definitions ≡ Some b → name_of a ≡ name_of b → i ≡ j
  own_apart kind i j a b first second same =
      let s = own (to_def kind) i (table_of kind l.definitions) a first in
      let t = own (to_def kind) j (table_of kind l.definitions) b second in
      (table-rules l.definitions laid.rules.definitions.tables kind).apart i j s.0 t.0 s.1 t.1 (ap name_of s.2 ∙ same ∙ sym (ap name_of t.2))

  module _ (d : Definitions) (said : AreSaid count pages d) where
    -- slot by slot the same is written
    pub written : (kind : Kind) (slot : ℕ) → slot < limit kind → option_map as_written (def_at kind slot d) ≡ option_map as_written (def_at kind slot l.definitions)
    written kind slot within =
        slot_written d.format l.definitions.format kind (def_at kind slot d) (def_at kind slot l.definitions) (said.limits.each kind slot within) (laid.rules.definitions.limits.each kind slot within)
        (sym (said.bytes.slots kind slot within) ∙ laid.bytes.definitions.slots kind slot within)

    pub said_within : (kind : Kind) (slot : ℕ) (a : Def) → def_at kind slot d ≡ Some a → slot < limit kind
    said_within kind slot a here =
        let s = own (to_def kind) slot (table_of kind d) a here in
        let low = within_table (table_of kind d) slot s.0 s.1 in
        let size = said.sizes kind in
        omega (arith, low, size)

    pub there : (kind : Kind) (slot : ℕ) (a : Def) → def_at kind slot d ≡ Some a → (b : Def) × (def_at kind slot l.definitions ≡ Some b) × (as_written a ≡ as_written b)
    there kind slot a here = alike as_written (def_at kind slot l.definitions) a (ap (option_map as_written) (sym here) ∙ written kind slot (said_within kind slot a here))

    -- no two slots of a kind have one name
    pub said_apart : (kind : Kind) (i j : ℕ) (a b : Def) → def_at kind i d ≡ Some a → def_at kind j d ≡ Some b → name_of a ≡ name_of b → i ≡ j
    said_apart kind i j a b first second same =
        let s = there kind i a first in
        let t = there kind j b second in
        own_apart kind i j s.0 t.0 s.1 t.1
        (sym (name_written s.0) ∙ sym (ap name_of s.2) ∙ name_written a ∙ same ∙ sym (name_written b) ∙ ap name_of t.2 ∙ name_written t.0)

    -- and what a definition refers to is there
    pub said_there : (kind : Kind) (slot : ℕ) (a : Def) → def_at kind slot d ≡ Some a → (target : Kind) (at : ℕ) → Contains (references a) (target, at) → (b : Def) × (def_at target at d ≡ Some b)
    said_there kind slot a here target at refers =
        let s = there kind slot a here in
        let same : references s.0 ≡ references a = sym (references_written s.0) ∙ sym (ap references s.2) ∙ references_written a in
        let all = laid.rules.definitions.references kind slot s.0 (said_within kind slot a here) s.1 in
        let found = there_of (def_at target at l.definitions) (refers_there l.definitions (references a) (target, at) (subst (IsThere l.definitions) same all) refers) in
        let back = alike as_written (def_at target at d) found.0 (ap (option_map as_written) (sym found.1) ∙ sym (written target at (own_within target at found.0 found.1))) in
        (back.0, back.1)

    said_table : (kind : Kind) → IsTable (name_in kind) (limit kind) (table_of kind d)
    said_table kind = record {
      size = said.sizes kind;
      apart = λ i j a b first second same.
          said_apart kind i j (to_def kind a) (to_def kind b) (at_slot-map (to_def kind) i (table_of kind d) ∙ ap (option_map (to_def kind)) first)
          (at_slot-map (to_def kind) j (table_of kind d) ∙ ap (option_map (to_def kind)) second) same;
    }

    said_rules : IsDefinitions d
    said_rules = record {
      format = said.header.one;
      row_types = said_table kinds.RowType;
      patterns = said_table kinds.Pattern;
      calendars = said_table kinds.Calendar;
      containers = said_table kinds.Container;
      series = said_table kinds.Series;
    }

    said_follow : AreFollowing d
    said_follow slot c here at by =
        let def : def_at kinds.Calendar slot d ≡ Some (of_calendar c) = at_slot-map of_calendar slot d.calendars ∙ ap (option_map of_calendar) here in
        let first : references (of_calendar c) ≡ (kinds.Pattern, at) ∷ [] = refers c.by at by in
        let found = said_there kinds.Calendar slot (of_calendar c) def kinds.Pattern at (0, subst (λ (ts : List (Kind × ℕ)). 0 < length ts) (sym first) (omega arith), ap (λ (ts : List (Kind × ℕ)). get_or ts 0 (kinds.Pattern, at)) first) in
        let p = own of_pattern at d.patterns found.0 found.1 in
        ap (option_map (λ (x : PatternDef). x.pattern)) p.1 ∙ ap (λ x. Some x) (sym (said.patterns slot at c p.0 here by p.1)) where
          refers : (by : Option ℕ) (at : ℕ) → by ≡ Some at → pattern_reference by ≡ (kinds.Pattern, at) ∷ []
          refers None at is = absurd (cc)
          refers (Some slot) at is = let same : slot ≡ at = cc in ap (λ (n : ℕ). (kinds.Pattern, n) ∷ []) same

    -- so there is one list of definitions that pages say
    pub said_same : d ≡ l.definitions
    said_same =
        unique pages d l.definitions (record { holds = said.bytes; limits = said.limits; rules = said_rules; follow = said_follow })
        (record { holds = laid.bytes.definitions; limits = laid.rules.definitions.limits; rules = laid.rules.definitions.tables; follow = laid.rules.definitions.follow })
        (own_format d.format said.header)

  -- and one layout
  pub all_same : (k : Layout) → AllSaid count pages k → k ≡ l
  all_same k said =
      let definitions : k.definitions ≡ l.definitions = said_same k.definitions said.definitions in
      let first = said.size in
      let second = laid.size in
      let long : length k.element_pages ≡ length l.element_pages = omega (arith, first, second) in
      let element_pages : k.element_pages ≡ l.element_pages = same_pages k.element_pages l.element_pages long (λ i within.
      same_page l.definitions (pages (first_element_page + i)) (element_page i k.element_pages) (element_page i l.element_pages) laid.rules.definitions.limits laid.rules.definitions.tables
      (subst (λ (d : Definitions). HoldsElements d (pages (first_element_page + i)) (element_page i k.element_pages)) definitions (said.elements i within))
      (laid.bytes.elements i (omega (arith, within, long)))) in
      λ i. record { definitions = definitions i; element_pages = element_pages i }
