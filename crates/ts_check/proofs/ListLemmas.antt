-- Pages that are read into a list, judged in their order, and added to what was found before.
use Rattle.std.proofs.Common.{◌≡◌, ◌≢◌, ◌⊎◌, inl, inr, ⊎_elim, ℕ, suc, ◌+◌, ◌-◌, ◌<◌, ◌≤◌, Bool, IsTrue, Option, Some, None, List, [], ◌∷◌, ◌++◌, length, get_or, set, refl, sym, ap, subst, ◌∙◌, arith, append_assoc, length-append, length-set}
use Rattle.std.specs.List.{slice_get}
use Rattle.std.proofs.lemmas.Bool.{cases_eq, cases_lt}
use Rattle.std.proofs.lemmas.List.{append-nil, get_or-set_other, get_or_append_left, get_or-append_right}
use Rattle.std.proofs.lemmas.Option.{slice_get_within, get_or_from_slice_get, slice_get-get_or, slice_get_cases}
use Rattle.std.proofs.lemmas.Grind.{get_or-set_at}
use Rattle.ts_page.specs.Pages.{Contents, EqualPages, first_element_page}
use Rattle.ts_model.specs.Definitions.{Definitions}
use Rattle.ts_layout.specs.Meaning.{ElementPage, Free, element_page, HoldsElements}
use Rattle.ts_layout.proofs.CallerLemmas.{before, at_end}
use Rattle.ts_container.specs.declared.content.Content.{Content}
use Rattle.ts_container.specs.declared.elements.Elements.{Elements}
use Rattle.ts_container.specs.declared.span.Span.{Span}
use Rattle.ts_container.specs.Elements.{Describes, IsContentOf, Listed, IsReadAs, AllRead, IsBadElement}
use Rattle.ts_volume.specs.FirstBad.{IsLeast}
use Rattle.ts_check.specs.declared.page_list.PageRead.{PageRead}
use Rattle.ts_check.specs.Judged.{AreNumbered, AreBytesOf, AllAdded, IsFirstBadIn}

-- what stands in a place of a list of which one changed
pub item_of_set : {X : Type 0} (xs : List X) (i k : ℕ) (y x : X) → slice_get (set xs i y) k ≡ Some x → ((k ≡ i) × (x ≡ y)) ⊎ ((k ≢ i) × (slice_get xs k ≡ Some x))
item_of_set {X} xs i k y x is =
    let long : length (set xs i y) ≡ length xs = length-set xs i y in
    let below = slice_get_within (set xs i y) k x is in
    let within : k < length xs = omega (arith, below, long) in
    let found : get_or (set xs i y) k x ≡ x = get_or_from_slice_get (set xs i y) k x x is in
    elim (cases_eq k i) [
      | inl same ↦ inl (same, sym found ∙ get_or-set_at xs i k y x same (omega (arith, within, same)))
      | inr other ↦ inr (other, slice_get-get_or xs k x within ∙ ap (λ (z : X). Some z) (sym (get_or-set_other xs i k y x other) ∙ found))
    ]

-- there is one in each place
pub item_at : {X : Type 0} (xs : List X) (k : ℕ) → k < length xs → (x : X) × (slice_get xs k ≡ Some x)
item_at xs k within = elim ((slice_get_cases xs k).1) [
  | inl there ↦ (there.0, there.2)
  | inr past ↦ absurd (omega (arith, past.0, within))
]

one_item : {X : Type 0} (o : Option X) (x y : X) → o ≡ Some x → o ≡ Some y → x ≡ y
one_item o x y a b = cc

-- no page was added yet
pub none_added : (d : Definitions) (list : List PageRead) (old : Elements) → AllAdded d list 0 old old
none_added d list old = record {
  elements = [];
  size = refl;
  held = λ place read below there. absurd (omega arith);
  listed = λ es numbered is. subst (λ (x : List ElementPage). Listed d old.spans.items old.free.items x) (sym (append-nil es)) is;
}

-- one more was
module _ (d : Definitions) (list : List PageRead) (place : ℕ) (old mid : Elements) (read : PageRead) (added : AllAdded d list place old mid) (there : slice_get list place ≡ Some read) where
  pub one_added : (new : Elements) (content : Content) → IsContentOf d read.number read.page.bytes (Some content)
      → ((x : Definitions) (es : List ElementPage) (e : ElementPage) → read.number ≡ first_element_page + length es → Describes x read.number content e → Listed x mid.spans.items mid.free.items es → Listed x new.spans.items new.free.items (es ++ e ∷ []))
      → AllAdded d list (place + 1) old new
  one_added new content found adds =
      let e : ElementPage = found.0 in
      record {
        elements = added.elements ++ e ∷ [];
        size = omega (arith, length-append added.elements (e ∷ []), added.size);
        held = λ k other below at. elim (cases_lt k place) [
          | inl lower ↦ subst (HoldsElements d other.page.bytes) (sym (before added.elements e k (omega (arith, lower, added.size)))) (added.held k other lower at)
          | inr last ↦
              let end : k ≡ place = omega (arith, last, below) in
              let same : other ≡ read = one_item (slice_get list place) other read (ap (slice_get list) (sym end) ∙ at) there in
              subst (HoldsElements d other.page.bytes) (sym (at_end added.elements e k (end ∙ sym added.size)))
              (subst (λ (r : PageRead). HoldsElements d r.page.bytes e) (sym same) found.1)
        ];
        listed = λ es numbered is.
            let at : read.number ≡ first_element_page + length (es ++ added.elements) = omega (arith, numbered place read there, length-append es added.elements, added.size) in
            subst (λ (x : List ElementPage). Listed d new.spans.items new.free.items x) (append_assoc es added.elements (e ∷ []))
            (adds d (es ++ added.elements) e at found.2 (added.listed es numbered is));
      }

  -- one is neither free nor has a sheet
  pub one_bad : IsContentOf d read.number read.page.bytes None → IsFirstBadIn d list read.number
  one_bad none = record {
    place = place;
    read = read;
    there = there;
    number = refl;
    bad = none;
    before = λ lower other below at. (element_page lower added.elements, added.held lower other below at);
  }

-- a list of pages was read from a number on, behind those that were read before
module _ (tells : Bool) (d : Definitions) (u : Contents) (number : ℕ) (low : first_element_page ≤ number) (list : List PageRead) (numbers : AreNumbered number list) (bytes : AreBytesOf tells u list) (spans : List Span) (free : List ℕ) (read : AllRead tells (number - first_element_page) d u spans free) where
  module _ (old new : Elements) (same_spans : old.spans.items ≡ spans) (same_free : old.free.items ≡ free) (added : AllAdded d list (length list) old new) where
    at_here : number ≡ first_element_page + length read.elements
    at_here = omega (arith, read.size, low)

    is_listed : Listed d old.spans.items old.free.items read.elements
    is_listed = subst (λ (l : List ℕ). Listed d old.spans.items l read.elements) (sym same_free) (subst (λ (l : List Span). Listed d l free read.elements) (sym same_spans) read.listed)

    behind : (j : ℕ) → number - first_element_page ≤ j → j < number + length list - first_element_page → IsReadAs tells u d (first_element_page + j) (element_page j (read.elements ++ added.elements))
    behind j higher below =
        let k : ℕ = j - (number - first_element_page) in
        let within : k < length list = omega (arith, below, higher, low) in
        let one = item_at list k within in
        let its : one.0.number ≡ first_element_page + j = omega (arith, numbers k one.0 one.1, higher, low) in
        let here : element_page j (read.elements ++ added.elements) ≡ element_page k added.elements = get_or-append_right read.elements added.elements (number - first_element_page) j Free read.size higher in
        subst (λ (x : ElementPage). IsReadAs tells u d (first_element_page + j) x) (sym here)
        (one.0.page.bytes, added.held k one.0 within one.1, λ told. ap u.page (sym its) ∙ sym (bytes k one.0 one.1 told))

    pub list_added : AllRead tells (number + length list - first_element_page) d u new.spans.items new.free.items
    list_added = record {
      elements = read.elements ++ added.elements;
      size = omega (arith, length-append read.elements added.elements, added.size, at_here);
      listed = added.listed read.elements (λ place one there. numbers place one there ∙ ap (λ (n : ℕ). n + place) at_here) is_listed;
      seen = λ j below. elim (cases_lt j (number - first_element_page)) [
        | inl lower ↦ subst (λ (x : ElementPage). IsReadAs tells u d (first_element_page + j) x) (sym (get_or_append_left read.elements added.elements Free j (omega (arith, lower, read.size)))) (read.seen j lower)
        | inr higher ↦ behind j higher below
      ];
    }

  -- the first bad page of the list is the least of all
  module _ (count page : ℕ) (within : number + length list ≤ count) (bad : IsFirstBadIn d list page) (told : IsTrue tells) where
    place_of : bad.place < length list
    place_of = slice_get_within list bad.place bad.read bad.there

    number_of : page ≡ number + bad.place
    number_of = bad.number ∙ numbers bad.place bad.read bad.there

    -- a lower page is free or has a sheet
    good_below : (other : ℕ) → first_element_page ≤ other → other < page → (e : ElementPage) × HoldsElements d (u.page other) e
    good_below other from below = elim (cases_lt other number) [
      | inl lower ↦
          let j : ℕ = other - first_element_page in
          let one = read.seen j (omega (arith, lower, from)) in
          let e = element_page j read.elements in
          (e, subst (λ (n : ℕ). HoldsElements d (u.page n) e) (let z : first_element_page + j ≡ other = omega (arith, from) in z) (subst (λ (l : List ℕ). HoldsElements d l e) (sym (one.2 told)) one.1))
      | inr higher ↦
          let k : ℕ = other - number in
          let inside : k < length list = omega (arith, below, number_of, place_of, higher) in
          let one = item_at list k inside in
          let held = bad.before k one.0 (omega (arith, below, number_of, higher)) one.1 in
          let its : one.0.number ≡ other = omega (arith, numbers k one.0 one.1, higher) in
          (held.0, subst (λ (n : ℕ). HoldsElements d (u.page n) held.0) its (subst (λ (l : List ℕ). HoldsElements d l held.0) (bytes k one.0 one.1 told) held.1))
    ]

    pub list_bad : IsLeast (IsBadElement (count - first_element_page) d u.page) page
    list_bad = record {
      has = (
        omega (arith, number_of, low),
        omega (arith, number_of, place_of, within, low),
        λ e holds. bad.bad e (subst (λ (l : List ℕ). HoldsElements d l e) (ap u.page bad.number ∙ sym (bytes bad.place bad.read bad.there told)) holds),
      );
      least = λ other is. elim (cases_lt other page) [
        | inl lower ↦ let good = good_below other is.0 lower in absurd (is.2 good.0 good.1)
        | inr higher ↦ higher
      ];
    }

-- pages that stayed are those that were read before
pub bytes_before : (tells : Bool) (u v : Contents) (list : List PageRead) → (IsTrue tells → EqualPages u.page v.page) → AreBytesOf tells v list → AreBytesOf tells u list
bytes_before tells u v list same bytes place read there told = bytes place read there told ∙ same told read.number
