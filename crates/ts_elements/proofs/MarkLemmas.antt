-- The mark of an element that is set, on pages.
use Rattle.std.proofs.Common.{◌≡◌, ◌≢◌, ℕ, ◌+◌, ◌≤◌, inl, inr, Bool, true, false, IsTrue, ℤ, Option, Some, None, IsSome, Ok, Err, List, [], length, refl, sym, subst, ap, ◌∙◌, arith}
use Rattle.std.proofs.lemmas.List.{set-get_or}
use Rattle.std.specs.FinMap.{insert}
use Rattle.ts_base.specs.declared.fault.Trouble.{Trouble}
use Rattle.ts_base.specs.declared.refusal.Refusal.{Refusal}
use Rattle.ts_base.specs.declared.refusal.Refusal.TheVariants as refusals
use Rattle.ts_page.specs.Pages.{Contents, IsLawful}
use Rattle.ts_row.specs.Row.{Heading, marked, Element}
use Rattle.ts_space.specs.Directory.{places_of}
use Rattle.ts_irregular.specs.Edit.{element_at, with_element}
use Rattle.ts_offset.specs.declared.shape.Shape.{Shape}
use Rattle.ts_model.specs.declared.kind.Kind.TheVariants as kinds
use Rattle.ts_model.specs.Catalogue.{Catalogue, Elements, Series, old_format}
use Rattle.ts_model.specs.Definitions.{Definitions}
use Rattle.ts_layout.specs.Meaning.{Layout, elements_at, series_of, catalogue_of}
use Rattle.ts_answer.specs.declared.effect.Effect.TheVariants.{Pages}
use Rattle.ts_answer.specs.declared.stop.Stop.TheVariants as stops
use Rattle.ts_answer.specs.Answer.{Tried, Answered, ◌>>=◌, wanted, row_at, an_address, addressed, beyond_old_format, with_elements, mark_element, carried_out, outcome, with_element as with_element_of}
use Rattle.ts_command.specs.Boundary.{is_writing}
use Rattle.ts_answer.specs.Reply.{stamp_line}
use Rattle.ts_answer.specs.Slots.{IsSlotNamed}
use Rattle.ts_answer.specs.Tried.{IsRefusedAs}
use Rattle.ts_answer.specs.View.{View, IsViewOf, Shows, KeepsRules}
use Rattle.ts_answer.specs.CarriedOut.{CarriedOut}
use Rattle.ts_answer.proofs.CallerLemmas.{wanted-there, format-has, row-there, row-missing, on_ok, on_err, refused_as, refuses_still, stopped}
use Rattle.ts_shelf.specs.Shelf.{IsShelf}
use Rattle.ts_shelf.proofs.SeenLemmas.{SeriesIn, HasSeen, series_seen, shape_same, elements_seen}
use Rattle.ts_elements.specs.Elements.{mark_of}
use Rattle.ts_offset.specs.Shape.{IsLaidOut}
use Rattle.ts_elements.specs.Calls.{IsMarked, IsMarkSet, IsUnmarked}
use Rattle.ts_elements.proofs.LawLemmas.{as_maps}
use Rattle.ts_elements.proofs.AddressLemmas.{address_is}
use Rattle.ts_elements.proofs.FoundLemmas.{found_in}
use Rattle.ts_elements.proofs.MemoryLemmas.{pays_less}
use Rattle.ts_elements.proofs.RewriteLemmas.{Becomes, stays_moved, rewritten_carried}

-- once it is known where the element stands that a stamp addresses: it has to be there
abbrev mark_from : Bool → List ℕ → Catalogue → Series → ℤ → Tried Answered
mark_from hidden key cat s at = row_at at s.elements >>= (λ old. Ok (stamp_line at, with_element_of key s at (marked hidden old) cat))

-- once the series is known
abbrev mark_rest : Bool → List ℕ → ℤ → Catalogue → Series → Tried Answered
mark_rest hidden key stamp cat s = an_address s stamp cat >>= mark_from hidden key cat s

-- what the command comes to: the series, then the format, then the element
pub marks : (hidden : Bool) (key : List ℕ) (stamp : ℤ) (cat : Catalogue)
    → outcome (Ok (mark_of hidden key stamp)) cat ≡ (wanted key cat.series >>= (λ s. beyond_old_format true cat.format >>= (λ has. mark_rest hidden key stamp cat s)))
unfolding outcome carried_out mark_element
marks true key stamp cat = refl
marks false key stamp cat = refl

mark_goes : (hidden : Bool) (key : List ℕ) (slot : ℕ) (stamp : ℤ) (l : Layout) (on : SeriesIn l key slot) → l.definitions.format ≢ old_format
    → outcome (Ok (mark_of hidden key stamp)) (catalogue_of l) ≡ mark_rest hidden key stamp (catalogue_of l) (series_of l slot on.s)
mark_goes hidden key slot stamp l on new =
    marks hidden key stamp (catalogue_of l) ∙ on_ok _ (series_of l slot on.s) _ (wanted-there key (catalogue_of l).series (series_of l slot on.s) on.listed)
    ∙ on_ok _ tt _ (format-has true (catalogue_of l).format (λ old. absurd (new old)))

-- the series is there: it is refused for its format as the test of that is
pub format_first : (x : View) (l : Layout) → IsViewOf x l → (hidden : Bool) (key : List ℕ) (slot : ℕ) (stamp : ℤ) → IsSlotNamed kinds.Series slot key x.definitions → (trouble : Trouble)
    → IsRefusedAs trouble (beyond_old_format true x.definitions.format) → IsRefusedAs trouble (outcome (Ok (mark_of hidden key stamp)) (catalogue_of l))
format_first x l kept hidden key slot stamp named trouble refused =
    let on = series_seen x l kept slot key named in
    subst (λ (t : Tried Answered). IsRefusedAs trouble t)
    (sym (marks hidden key stamp (catalogue_of l) ∙ on_ok _ (series_of l slot on.s) _ (wanted-there key (catalogue_of l).series (series_of l slot on.s) on.listed)))
    (refused_as trouble _ _ (subst (λ (d : Definitions). IsRefusedAs trouble (beyond_old_format true d.format)) kept.definitions refused))

writes_mark : (hidden : Bool) (key : List ℕ) (stamp : ℤ) → is_writing (mark_of hidden key stamp) ≡ true
writes_mark true key stamp = refl
writes_mark false key stamp = refl

-- what is there
some_of : {A : Type 0} (o : Option A) → IsSome o → (a : A) × (o ≡ Some a)
some_of (Some a) some = (a, refl)
some_of None some = absurd (cc)

module _ (tells : Bool) (hidden : Bool) (key : List ℕ) (shape : Shape) (laid : IsLaidOut shape) (slot : ℕ) (stamp : ℤ) (h : Heading) (x : View) (shelf : IsShelf shape slot h key x.definitions) (kept : KeepsRules x) (new : x.definitions.format ≢ old_format)
    (w : Contents) (count : w.count ≡ x.pages.count) (no_fault : w.faults ≡ x.pages.faults) (bytes : w.change_bytes ≤ x.pages.change_bytes + 4101) where
  newer : (l : Layout) → Shows tells x l → l.definitions.format ≢ old_format
  newer l shows old = new (ap (λ (d : Definitions). d.format) shows.kept.definitions ∙ old)

  -- where a stamp addresses an element, and where it addresses none
  goes_at : (l : Layout) (shows : Shows tells x l) (on : SeriesIn l key slot) (at : ℤ) → addressed shape stamp ≡ Ok at
      → outcome (Ok (mark_of hidden key stamp)) (catalogue_of l) ≡ mark_from hidden key (catalogue_of l) (series_of l slot on.s) at
  goes_at l shows on at address =
      mark_goes hidden key slot stamp l on (newer l shows)
      ∙ on_ok (an_address (series_of l slot on.s) stamp (catalogue_of l)) at (mark_from hidden key (catalogue_of l) (series_of l slot on.s))
      (address_is (series_of l slot on.s) stamp (catalogue_of l) shape (on.kind ∙ ap Some (shape_same x l shows.kept slot key shape on shelf.lies)) ∙ address)

  goes_off : (l : Layout) (shows : Shows tells x l) (on : SeriesIn l key slot) (why : Refusal) → addressed shape stamp ≡ Err why → outcome (Ok (mark_of hidden key stamp)) (catalogue_of l) ≡ Err why
  goes_off l shows on why address =
      mark_goes hidden key slot stamp l on (newer l shows)
      ∙ on_err (an_address (series_of l slot on.s) stamp (catalogue_of l)) why (mark_from hidden key (catalogue_of l) (series_of l slot on.s))
      (address_is (series_of l slot on.s) stamp (catalogue_of l) shape (on.kind ∙ ap Some (shape_same x l shows.kept slot key shape on shelf.lies)) ∙ address)

  -- it is set
  module _ (at : ℤ) (put : IsMarkSet tells shape slot h.columns stamp hidden at (places_of slot x.space) x.pages w) where
    becomes_marked : IsTrue tells → (l : Layout) → Shows tells x l → (es : List Element) → HasSeen shape slot h.columns x.pages.page (places_of slot x.space) l es
        → Becomes tells (mark_of hidden key stamp) key shape slot h (places_of slot x.space) (stamp_line at) x w l
    becomes_marked told l shows es seen =
        let old = some_of (element_at at es) (put.there told es seen.have) in
        record {
          elements = with_element at (marked hidden old.0) es;
          written = put.put told es seen.have old.0 old.1;
          of_format = λ format. absurd (newer l shows format);
          says = λ on.
              goes_at l shows on at put.address
              ∙ on_ok _ old.0 _ (row-there at (elements_at slot l.element_pages) old.0 (found_in shape slot h.columns x.pages.page (places_of slot x.space) l es seen at ∙ old.1))
              ∙ ap (λ (m : Elements). Ok (stamp_line at, with_elements key (series_of l slot on.s) m (catalogue_of l)))
              (ap (λ (m : Elements). insert m at (marked hidden old.0)) seen.elements ∙ sym (as_maps.put at (marked hidden old.0) es));
        }

    pub marked_carried : IsLawful tells w → (out : List ℕ) → out ≡ stamp_line at → CarriedOut tells (mark_of hidden key stamp) (Ok Pages) out x w
    marked_carried lawful out said =
        let free = ap (λ (ns : List ℕ). length ns) put.free in
        rewritten_carried tells (mark_of hidden key stamp) key shape slot h (places_of slot x.space) (stamp_line at) x w
        (record {
          shelf = shelf;
          laid = laid;
          moved = stays_moved shape slot h x w kept shelf.named.within shelf.columns shelf.lies put.free;
          pays = λ s c is. pays_less x kept slot shelf.named.within h shelf.columns shape shelf.lies s c is (places_of slot x.space) (omega arith);
          told = becomes_marked;
        }) kept lawful count Pages refl (sym (set-get_or x.space.lists slot [])) tt refl (writes_mark hidden key stamp) no_fault (omega (arith, bytes, free)) out said

  -- it is refused
  unmarked : (refusal : Refusal) (l : Layout) (shows : Shows tells x l) (on : SeriesIn l key slot) (es : List Element) → HasSeen shape slot h.columns x.pages.page (places_of slot x.space) l es → IsUnmarked shape stamp es refusal
      → outcome (Ok (mark_of hidden key stamp)) (catalogue_of l) ≡ Err refusal
  unmarked refusal l shows on es seen (inl off) = goes_off l shows on refusal off
  unmarked refusal l shows on es seen (inr none) =
      goes_at l shows on none.1 none.2
      ∙ on_err _ refusals.Missing _ (row-missing none.1 (elements_at slot l.element_pages) (found_in shape slot h.columns x.pages.page (places_of slot x.space) l es seen none.1 ∙ none.3))
      ∙ ap Err (sym none.0)

  pub unmarked_carried : (refusal : Refusal) → IsMarked tells shape slot h.columns stamp hidden (places_of slot x.space) x.pages w (Err refusal) → (out : List ℕ) → CarriedOut tells (mark_of hidden key stamp) (Err (stops.Refused refusal)) out x w
  unmarked_carried refusal none out =
      stopped tells (mark_of hidden key stamp) out x (Err (stops.Refused refusal)) (stops.Refused refusal) w refl
      (refuses_still tells (mark_of hidden key stamp) out x refusal w none.0 (omega (arith, bytes)) no_fault
      (λ told l shows.
      let seen = elements_seen tells x l shape laid slot h told shows shelf.columns shelf.lies shelf.named.within in
      unmarked refusal l shows (series_seen x l shows.kept slot key shelf.named) seen.0 seen.1 (none.1 told seen.0 seen.1.have))) count
