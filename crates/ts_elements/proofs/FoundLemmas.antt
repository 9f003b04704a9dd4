-- The element that is found by a stamp in a series that is seen, and those at its ends, as they are said.
use Rattle.std.proofs.Common.{◌≡◌, ℕ, ◌<◌, Bool, IsTrue, ℤ, Option, Some, None, Ok, Err, List, map, refl, ap, sym, ◌∙◌}
use Rattle.std.specs.Option.{option_map, option_to_list}
use Rattle.std.specs.FinMap.{get}
use Rattle.ts_base.specs.declared.refusal.Refusal.{Refusal}
use Rattle.ts_row.specs.declared.kind.Column.{Column}
use Rattle.ts_row.specs.Row.{Heading, Row, Element, seen}
use Rattle.ts_space.specs.declared.place.Place.{Place}
use Rattle.ts_space.specs.Directory.{places_of}
use Rattle.ts_irregular.specs.Edit.{element_at}
use Rattle.ts_offset.specs.declared.shape.Shape.{Shape}
use Rattle.ts_model.specs.Catalogue.{Elements, Series, columns_of}
use Rattle.ts_layout.specs.Meaning.{Layout, heading_at, shape_at, elements_at, catalogue_of}
use Rattle.ts_answer.specs.Answer.{Tried, an_address, addressed, reached, seen_elements, element_at as element_at_stamp}
use Rattle.ts_answer.specs.Reply.{elements_text}
use Rattle.ts_answer.specs.View.{View, Shows}
use Rattle.ts_shelf.specs.Shelf.{IsShelfIn}
use Rattle.ts_shelf.proofs.SeenLemmas.{HasSeen, elements_seen, entries_in}
use Rattle.ts_elements.specs.Stamps.{IsTold}
use Rattle.ts_offset.specs.Shape.{IsLaidOut}
use Rattle.ts_elements.specs.Calls.{IsFound}
use Rattle.ts_elements.proofs.LawLemmas.{as_maps}
use Rattle.ts_elements.proofs.AddressLemmas.{address_is}

-- all that is found by a stamp, and in what order
pub found_in : (shape : Shape) (slot : ℕ) (columns : List Column) (pages : ℕ → List ℕ) (places : List Place) (l : Layout) (es : List Element) → HasSeen shape slot columns pages places l es → (stamp : ℤ)
    → get (elements_at slot l.element_pages) stamp ≡ element_at stamp es
found_in shape slot columns pages places l es has stamp = ap (λ (m : Elements). get m stamp) has.elements ∙ as_maps.found stamp es

-- what a stamp addresses, as a list of one or none
seen_at : (o : Option ℤ) (m : Elements) (es : List Element) (found shown : Option Element) → ((at : ℤ) → o ≡ Some at → found ≡ option_map (λ row. (at, row)) (get m at)) → (o ≡ None → found ≡ None) → option_to_list shown ≡ seen (option_to_list found)
    → element_at_stamp o m ≡ option_to_list shown
seen_at None m es found shown there none says = sym (says ∙ ap (λ (e : Option Element). seen (option_to_list e)) (none refl))
seen_at (Some at) m es found shown there none says = ap seen (listed (get m at)) ∙ sym (says ∙ ap (λ (e : Option Element). seen (option_to_list e)) (there at refl)) where
  listed : (o : Option Row) → map {B = Element} (λ r. (at, r)) (option_to_list o) ≡ option_to_list (option_map (λ row. (at, row)) o)
  listed (Some row) = refl
  listed None = refl

-- what is reached of an address
reached_some : (t : Tried ℤ) (at : ℤ) → reached t ≡ Some at → t ≡ Ok at
reached_some (Ok s) at is = let same : s ≡ at = cc in ap Ok same
reached_some (Err why) at is = absurd (cc)

reached_none : (t : Tried ℤ) → reached t ≡ None → (why : Refusal) × (t ≡ Err why)
reached_none (Ok s) is = absurd (cc)
reached_none (Err why) is = (why, refl)

-- of a series that is seen
module _ (tells : Bool) (x : View) (l : Layout) (shape : Shape) (laid : IsLaidOut shape) (slot : ℕ) (h : Heading) (told : IsTrue tells) (shows : Shows tells x l) (columns : heading_at x.definitions slot ≡ Some h) (lies : shape_at x.definitions slot ≡ Some shape)
    (within : slot < 4096) where
  -- the element that a stamp addresses, as it is said
  pub element_text : (key : List ℕ) (series : Series) (stamp : ℤ) (found shown : Option Element) → IsShelfIn l key shape slot h series → IsFound tells shape slot h.columns stamp (places_of slot x.space) x.pages found
      → option_to_list shown ≡ seen (option_to_list found)
      → elements_text (columns_of (catalogue_of l) series) (element_at_stamp (reached (an_address series stamp (catalogue_of l))) series.elements) ≡ elements_text h.columns (option_to_list shown)
  element_text key series stamp found shown is at says =
      let es = (elements_seen tells x l shape laid slot h told shows columns lies within).0 in
      let has = (elements_seen tells x l shape laid slot h told shows columns lies within).1 in
      let m = elements_at slot l.element_pages in
      let here = at told es has.have in
      let t = addressed shape stamp in
      let address = address_is series stamp (catalogue_of l) shape is.lies in
      let elements : series.elements ≡ m = ap (λ (s : Series). s.elements) is.stands.is.2 in
      let rows = seen_at (reached t) m es found shown
      (λ s some. here.0 s (reached_some t s some) ∙ ap (option_map (λ (r : Row). (s, r))) (sym (found_in shape slot h.columns x.pages.page (places_of slot x.space) l es has s)))
      (λ none. let no = reached_none t none in here.1 no.0 no.1) says in
      (λ i. elements_text (is.columns i) (element_at_stamp (reached (address i)) (elements i))) ∙ ap (elements_text h.columns) rows

  -- one of the elements that aren't hidden, as it is said
  pub one_text : (pick : List Element → Option Element) (key : List ℕ) (series : Series) (found : Option Element) → IsShelfIn l key shape slot h series
      → IsTold tells shape slot h.columns (places_of slot x.space) x.pages (λ es. found ≡ pick (seen es))
      → elements_text (columns_of (catalogue_of l) series) (option_to_list (pick (seen_elements series.elements))) ≡ elements_text h.columns (option_to_list found)
  one_text pick key series found is at =
      let es = (elements_seen tells x l shape laid slot h told shows columns lies within).0 in
      let has = (elements_seen tells x l shape laid slot h told shows columns lies within).1 in
      let elements : option_to_list (pick (seen_elements series.elements)) ≡ option_to_list found =
      ap (λ (s : Series). option_to_list (pick (seen_elements s.elements))) is.stands.is.2
      ∙ ap (λ (fs : List Element). option_to_list (pick (seen fs))) (entries_in shape slot h.columns x.pages.page (places_of slot x.space) l es has)
      ∙ ap option_to_list (sym (at told es has.have)) in
      λ i. elements_text (is.columns i) (elements i)
