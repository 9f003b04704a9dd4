-- Pages of series with their sheets, as they were found.
use Rattle.std.specs.Prelude.{All}
use Rattle.std.proofs.Common.{◌≡◌, ℕ, suc, ◌<◌, ◌==◌, Bool, true, false, cond, if◌then◌else◌, Option, Some, List, [], ◌∷◌, ◌++◌, length, map, filter, get_or, refl, sym, ap, subst, ◌∙◌, arith, ℤ, ◌≤ℤ◌}
use Rattle.std.specs.Option.{unwrap_or}
use Rattle.std.proofs.lemmas.Int.{ints}
use Rattle.std.proofs.lemmas.List.{map-append}
use Rattle.std.proofs.lemmas.List.Elements.{All-cons, All-nil, All-append, filter-append}
use Rattle.ts_row.specs.Row.{Heading}
use Rattle.ts_row.specs.declared.kind.Column.{Column}
use Rattle.ts_cells.specs.IrregularPage.{Element, FillPage, AreRising, first_stamp, last_stamp}
use Rattle.ts_offset.specs.declared.shape.Shape.{Shape}
use Rattle.ts_offset.specs.declared.shape.Shape.TheVariants.{Irregular, Regular}
use Rattle.ts_model.specs.Definitions.{Definitions}
use Rattle.ts_layout.specs.Sheets.{Sheet, FillSheet}
use Rattle.ts_layout.specs.Meaning.{ElementPage, Free, Cells, element_page, heading_at, shape_at, HoldsElements, sheets_on, sheets_of}
use Rattle.ts_layout.proofs.CallerLemmas.{fill_of}
use Rattle.ts_container.specs.declared.span.Span.{Span}
use Rattle.ts_container.specs.Spans.{end_of, shape_in, span_of, span_on, spans_from, spans_in}

-- a page of a series: its span and its sheet
abbrev pub Seen : Type 0
Seen = Span × Sheet

abbrev pub span : Seen → Span
span p = p.0

abbrev pub sheet : Seen → Sheet
sheet p = p.1

abbrev pub elements : Seen → List Element
elements p = p.1.1

pub lists_seen : (ps : List Seen) → map (λ (one : Sheet). one.1) (map sheet ps) ≡ map elements ps
lists_seen [] = refl
lists_seen (p ∷ ps) = ap (λ (l : List (List Element)). p.1.1 ∷ l) (lists_seen ps)

-- the pages of series among all, page after page
abbrev pub seen_on : Definitions → ℕ → ElementPage → List Seen
seen_on d number Free = []
seen_on d number (Cells slot one) = (span_of (shape_in d slot) slot number one, one) ∷ []

abbrev pub seen_from : Definitions → ℕ → List ElementPage → List Seen
seen_from d first [] = []
seen_from d first (e ∷ rest) = seen_on d first e ++ seen_from d (suc first) rest

-- those of the series in a slot
abbrev pub seen_in : ℕ → List Seen → List Seen
seen_in slot = filter (λ p. p.0.slot == slot)

-- their spans are those that are found
spans_on : (d : Definitions) (number : ℕ) (e : ElementPage) → map span (seen_on d number e) ≡ span_on d number e
spans_on d number Free = refl
spans_on d number (Cells slot one) = refl

pub spans_seen : (d : Definitions) (first : ℕ) (es : List ElementPage) → map span (seen_from d first es) ≡ spans_from d first es
spans_seen d first [] = refl
spans_seen d first (e ∷ rest) = map-append span (seen_on d first e) (seen_from d (suc first) rest) ∙ (λ i. spans_on d first e i ++ spans_seen d (suc first) rest i)

-- and so are those of one series
pub spans_seen_in : (slot : ℕ) (ps : List Seen) → map span (seen_in slot ps) ≡ spans_in slot (map span ps)
spans_seen_in slot [] = refl
spans_seen_in slot (p ∷ ps) = of_test (p.0.slot == slot) p (seen_in slot ps) ∙ ap (λ (l : List Span). cond (p.0.slot == slot) (p.0 ∷ l) l) (spans_seen_in slot ps) where
  of_test : (b : Bool) (p : Seen) (ps : List Seen) → map span (cond b (p ∷ ps) ps) ≡ cond b (p.0 ∷ map span ps) (map span ps)
  of_test true p ps = refl
  of_test false p ps = refl

-- the sheets of the pages of a series
sheets_seen_on : (d : Definitions) (slot number : ℕ) (e : ElementPage) → map sheet (seen_in slot (seen_on d number e)) ≡ sheets_on slot e
sheets_seen_on d slot number Free = refl
sheets_seen_on d slot number (Cells s one) = of_test (s == slot) _ where
  of_test : (b : Bool) (a : Span) → map sheet (cond b ((a, one) ∷ []) []) ≡ (if b then one ∷ [] else [])
  of_test true a = refl
  of_test false a = refl

pub sheets_seen : (d : Definitions) (slot first : ℕ) (es : List ElementPage) → map sheet (seen_in slot (seen_from d first es)) ≡ sheets_of slot es
sheets_seen d slot first [] = refl
sheets_seen d slot first (e ∷ rest) =
    ap (map sheet) (filter-append (λ (p : Seen). p.0.slot == slot) (seen_on d first e) (seen_from d (suc first) rest))
    ∙ map-append sheet (seen_in slot (seen_on d first e)) (seen_in slot (seen_from d (suc first) rest))
    ∙ (λ i. sheets_seen_on d slot first e i ++ sheets_seen d slot (suc first) rest i)

-- the sheet is such as a page can have, and the span is its
pub record IsSpanned (shape : Shape) (columns : List Column) (p : Seen) : Type 0 where
  pub fill : FillSheet shape columns p.1
  pub first : p.1.0 ≡ p.0.first
  pub last : end_of shape p.1 ≡ p.0.last
  pub count : length p.1.1 ≡ p.0.count

-- by the columns and the shape of the series
pub record IsSeen (d : Definitions) (p : Seen) : Type 0 where
  pub heading : Heading
  pub shape : Shape
  pub there : heading_at d p.0.slot ≡ Some heading
  pub lies : shape_at d p.0.slot ≡ Some shape
  pub spanned : IsSpanned shape heading.columns p

-- each page holds something
abbrev pub AllHeld : Definitions → List ElementPage → Type 0
AllHeld d es = (j : ℕ) → j < length es → (bytes : List ℕ) × HoldsElements d bytes (element_page j es)

seen_held : (d : Definitions) (number : ℕ) (e : ElementPage) (bytes : List ℕ) → HoldsElements d bytes e → All (IsSeen d) (seen_on d number e)
seen_held d number Free bytes held = All-nil (IsSeen d)
seen_held d number (Cells slot one) bytes held =
    All-cons (IsSeen d) (span_of (shape_in d slot) slot number one, one) []
    (record {
      heading = held.heading;
      shape = held.shape;
      there = held.columns;
      lies = held.lies;
      spanned = record {
        fill = fill_of held.shape slot held.heading.columns one bytes held.bytes;
        first = refl;
        last = ap (λ (o : Option Shape). end_of (unwrap_or o Irregular) one) (sym held.lies);
        count = refl;
      };
    }) (All-nil (IsSeen d))

pub all_seen : (d : Definitions) (first : ℕ) (es : List ElementPage) → AllHeld d es → All (IsSeen d) (seen_from d first es)
all_seen d first [] held = All-nil (IsSeen d)
all_seen d first (e ∷ rest) held =
    let here = held 0 (omega arith) in
    All-append (IsSeen d) (seen_on d first e) (seen_from d (suc first) rest) (seen_held d first e here.0 here.1) (all_seen d (suc first) rest (λ j within. held (suc j) (omega (arith, within))))

-- by those of one series
pub spanned_in : (d : Definitions) (slot : ℕ) (h : Heading) (shape : Shape) (ps : List Seen) → heading_at d slot ≡ Some h → shape_at d slot ≡ Some shape → All (λ p. p.0.slot ≡ slot) ps → All (IsSeen d) ps → All (IsSpanned shape h.columns) ps
spanned_in d slot h shape ps there lies own all k p within =
    let one = all k p within in
    let headings : one.heading ≡ h = same_one (heading_at d slot) one.heading h (ap (heading_at d) (sym (own k p within)) ∙ one.there) there in
    let shapes : one.shape ≡ shape = same_one (shape_at d slot) one.shape shape (ap (shape_at d) (sym (own k p within)) ∙ one.lies) lies in
    subst (λ (s : Shape). IsSpanned s h.columns (get_or ps k p)) shapes (subst (λ (x : Heading). IsSpanned one.shape x.columns (get_or ps k p)) headings one.spanned) where
      same_one : {A : Type 0} (o : Option A) (a b : A) → o ≡ Some a → o ≡ Some b → a ≡ b
      same_one o a b first second = cc

-- the ends of elements: the first stamp is the least, and the last one the greatest
pub record IsEnded (columns : List Column) (es : List Element) (first last : ℤ) : Type 0 where
  pub fill : FillPage columns es
  pub begins : first_stamp es ≡ Some first
  pub ends : last_stamp es ≡ Some last

last_there : (es : List Element) (first z last : ℤ) → first_stamp es ≡ Some first → unwrap_or (last_stamp es) z ≡ last → last_stamp es ≡ Some last
last_there [] first z last begins is = absurd (cc)
last_there (e ∷ []) first z last begins is = ap Some is
last_there (e ∷ f ∷ es) first z last begins is = last_there (f ∷ es) f.0 z last refl is

pub ended : (columns : List Column) (p : Seen) → IsSpanned Irregular columns p → IsEnded columns p.1.1 p.0.first p.0.last
ended columns p spanned = record {
  fill = spanned.fill.0;
  begins = spanned.fill.1 ∙ ap Some spanned.first;
  ends = last_there p.1.1 p.1.0 p.1.0 p.0.last spanned.fill.1 spanned.last;
}

pub first_low : (e : Element) (es : List Element) (last : ℤ) → AreRising (e ∷ es) → last_stamp (e ∷ es) ≡ Some last → e.0 ≤ℤ last
first_low e [] last rising is = let same : e.0 ≡ last = cc in omega (arith, ints, same)
first_low e (f ∷ es) last rising is =
    let next = rising.0 in
    let low = first_low f es last rising.1 is in
    omega (arith, ints, next, low)

ends_behind : (columns : List Column) (es : List Element) (first last : ℤ) → IsEnded columns es first last → first ≤ℤ last
ends_behind columns [] first last is = absurd (let none = is.fill.some in omega (arith, none))
ends_behind columns (e ∷ es) first last is =
    let begins = is.begins in
    let same : e.0 ≡ first = cc in
    subst (λ (z : ℤ). z ≤ℤ last) same (first_low e es last is.fill.elements.rising is.ends)

pub spans_end : (shape : Shape) (columns : List Column) (p : Seen) → IsSpanned shape columns p → p.0.first ≤ℤ p.0.last
spans_end Irregular columns p spanned = ends_behind columns p.1.1 p.0.first p.0.last (ended columns p spanned)
spans_end (Regular grid) columns p spanned = let first = spanned.first in let last = spanned.last in omega (arith, ints, first, last)
