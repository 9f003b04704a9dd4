-- Elements that are taken away, on pages.
use Rattle.std.proofs.Common.{◌≡◌, ℕ, ◌+◌, ◌≤◌, Bool, not, IsTrue, ℤ, Option, Some, None, IsSome, Ok, Err, List, [], ◌++◌, take, drop, length, length-append, length-take, length-drop, refl, sym, ap, ◌∙◌, arith}
use Rattle.std.proofs.lemmas.List.{length-map}
use Rattle.std.proofs.lemmas.List.Sorted.{length_permutation}
use Rattle.std.specs.Prelude.{IfSome}
use Rattle.std.specs.Ordering.{int_eq}
use Rattle.std.specs.FinMap.{get, remove, entries, from_entries}
use Rattle.ts_command.specs.declared.command.Command.{Command}
use Rattle.ts_command.specs.declared.command.Command.TheVariants.{DelElem, DelClip}
use Rattle.ts_page.specs.Pages.{Contents, IsLawful}
use Rattle.ts_row.specs.Row.{Heading, Element}
use Rattle.ts_space.specs.declared.place.Place.{Place}
use Rattle.ts_space.specs.declared.moved.Come.{Come}
use Rattle.ts_space.specs.declared.moved.Come.TheVariants as comes
use Rattle.ts_space.specs.declared.moved.Moved.{Moved}
use Rattle.ts_space.specs.Place.{pages_of}
use Rattle.ts_space.specs.Moved.{list_of, moved_to}
use Rattle.ts_space.specs.Directory.{places_of}
use Rattle.ts_irregular.specs.Edit.{element_at, without_element}
use Rattle.ts_sheets.specs.Stamped.{is_within, within_range, without_range}
use Rattle.ts_offset.specs.declared.shape.Shape.{Shape}
use Rattle.ts_model.specs.Catalogue.{Elements}
use Rattle.ts_layout.specs.Meaning.{Layout, elements_at, series_of, catalogue_of}
use Rattle.ts_layout.specs.Placed.{AreMoved}
use Rattle.ts_answer.specs.declared.effect.Effect.TheVariants.{Nothing, Places}
use Rattle.ts_answer.specs.Answer.{Tried, Answered, outcome, carried_out, an_address, addressed, reached, with_elements, count_if_any, count_at, without_one, delete_element, delete_range}
use Rattle.ts_answer.specs.Reply.{count_line}
use Rattle.ts_answer.specs.View.{View, Shows, KeepsRules}
use Rattle.ts_answer.specs.CarriedOut.{CarriedOut, Grows, Stays}
use Rattle.ts_answer.proofs.CallerLemmas.{wanted-there, on_ok, shows_still, kept_still, grows_one, element_not_there, range_not_there}
use Rattle.ts_shelf.specs.Shelf.{IsShelf}
use Rattle.ts_shelf.proofs.SeenLemmas.{SeriesIn, HasSeen, entries_in, series_seen, shape_same, elements_seen}
use Rattle.ts_elements.specs.Stamps.{IsTold}
use Rattle.ts_offset.specs.Shape.{IsLaidOut}
use Rattle.ts_elements.specs.Calls.{IsTakenAway, AreCleared}
use Rattle.ts_elements.proofs.LawLemmas.{as_maps}
use Rattle.ts_elements.proofs.AddressLemmas.{address_is}
use Rattle.ts_elements.proofs.FoundLemmas.{found_in}
use Rattle.ts_elements.proofs.MemoryLemmas.{pays_less}
use Rattle.ts_elements.proofs.FormatLemmas.{left_visible}
use Rattle.ts_elements.proofs.RewriteLemmas.{Becomes, rewritten_carried}

-- a command that changes nothing
module _ (tells : Bool) (command : Command) (x : View) (w : Contents) (stay : Stays tells x.pages w) (count : w.count ≡ x.pages.count) (no_fault : w.faults ≡ x.pages.faults) (bytes : w.change_bytes ≤ x.pages.change_bytes + 16424) where
  pub nothing_carried : (out said : List ℕ) → out ≡ said → (IsTrue tells → (l : Layout) → Shows tells x l → outcome (Ok command) (catalogue_of l) ≡ Ok (said, catalogue_of l)) → CarriedOut tells command (Ok Nothing) out x w
  nothing_carried out said is says = record {
    keeps = λ kept. kept_still x.definitions x.space tells x.pages w kept count stay;
    done = λ told l shows. record {
      layout = l;
      shows = shows_still tells x.definitions x.space x.pages w l shows count stay;
      comes = λ again. says told l shows ∙ ap (λ (text : List ℕ). let a : Answered = (text, catalogue_of l) in Ok a) (sym is);
    };
    applies = tt;
    reads = λ reads. refl;
    stays = λ none. stay;
    stopped = tt;
    count = count;
    grows = let free = ap (λ (ns : List ℕ). length ns) stay.free in grows_one command x.pages w (omega (arith, bytes, free));
    no_fault = no_fault;
  }

-- a change of places takes two pages at most
few_come : (come : Come) → length (list_of come) ≤ 2
few_come comes.Nothing = omega arith
few_come (comes.One place) = omega arith
few_come (comes.Two first second) = omega arith

few_more : (moved : Moved) (places : List Place) → length (moved_to moved places) ≤ length places + 2
few_more moved places =
    let come = few_come moved.come in
    let both = length-append (take moved.index places) (list_of moved.come) in
    let all = length-append (take moved.index places ++ list_of moved.come) (drop (moved.index + moved.gone) places) in
    let front = length-take moved.index places in
    let back = length-drop (moved.index + moved.gone) places in
    omega (arith, come, both, all, front, back)

moved_grows : (room : ℕ) (moved : Moved) (places : List Place) (v w : Contents) → AreMoved room places (moved_to moved places) v w → w.change_bytes ≤ v.change_bytes + 4106 → Grows 1 v w
moved_grows room moved places v w is bytes =
    let few = few_more moved places in
    let same = length_permutation (v.free ++ pages_of places) (w.free ++ pages_of (moved_to moved places)) is.pages in
    let old = length-append v.free (pages_of places) ∙ ap (λ (n : ℕ). length v.free + n) (length-map places (λ place. place.page)) in
    let new = length-append w.free (pages_of (moved_to moved places)) ∙ ap (λ (n : ℕ). length w.free + n) (length-map (moved_to moved places) (λ place. place.page)) in
    omega (arith, few, same, old, new, bytes)

-- what is there, and none
some_of : {A : Type 0} (o : Option A) → IsSome o → (a : A) × (o ≡ Some a)
some_of (Some a) some = (a, refl)
some_of None some = absurd (cc)

-- what the command on one element comes to
deletes : (key : List ℕ) (stamp : ℤ) (slot : ℕ) (l : Layout) (on : SeriesIn l key slot) → outcome (Ok (DelElem key stamp)) (catalogue_of l)
    ≡ Ok (
      count_line (count_at (reached (an_address (series_of l slot on.s) stamp (catalogue_of l))) (elements_at slot l.element_pages)),
      with_elements key (series_of l slot on.s) (without_one (reached (an_address (series_of l slot on.s) stamp (catalogue_of l))) (elements_at slot l.element_pages)) (catalogue_of l),
    )
unfolding outcome carried_out delete_element
deletes key stamp slot l on = on_ok _ (series_of l slot on.s) _ (wanted-there key (catalogue_of l).series (series_of l slot on.s) on.listed)

-- and that on a range of them
clips : (key : List ℕ) (from to : ℤ) (slot : ℕ) (l : Layout) (on : SeriesIn l key slot) → outcome (Ok (DelClip key from to)) (catalogue_of l)
    ≡ Ok (count_line (length (within_range from to (entries (elements_at slot l.element_pages)))), with_elements key (series_of l slot on.s) (from_entries (without_range from to (entries (elements_at slot l.element_pages)))) (catalogue_of l))
unfolding outcome carried_out delete_range
clips key from to slot l on = on_ok _ (series_of l slot on.s) _ (wanted-there key (catalogue_of l).series (series_of l slot on.s) on.listed)

-- none is counted where none stands
none_counted : (o : Option ℤ) (m : Elements) → ((at : ℤ) → o ≡ Some at → get m at ≡ None) → (count_at o m ≡ 0) × IfSome o (λ at. get m at ≡ None)
none_counted None m none = (refl, tt)
none_counted (Some at) m none = (ap count_if_any (none at refl), none at refl)

reached_some : (t : Tried ℤ) (at : ℤ) → reached t ≡ Some at → t ≡ Ok at
reached_some (Ok s) at is = let same : s ≡ at = cc in ap Ok same
reached_some (Err why) at is = absurd (cc)

module _ (tells : Bool) (key : List ℕ) (shape : Shape) (laid : IsLaidOut shape) (slot : ℕ) (h : Heading) (x : View) (shelf : IsShelf shape slot h key x.definitions) (kept : KeepsRules x) (w : Contents) (count : w.count ≡ x.pages.count)
    (no_fault : w.faults ≡ x.pages.faults) where
  -- where the element stands that a stamp addresses
  address_in : (stamp : ℤ) (l : Layout) (shows : Shows tells x l) (on : SeriesIn l key slot) → an_address (series_of l slot on.s) stamp (catalogue_of l) ≡ addressed shape stamp
  address_in stamp l shows on = address_is (series_of l slot on.s) stamp (catalogue_of l) shape (on.kind ∙ ap Some (shape_same x l shows.kept slot key shape on shelf.lies))

  -- one element
  module _ (stamp : ℤ) where
    module _ (moved : Moved) (taken : IsTakenAway tells shape slot h.columns stamp (places_of slot x.space) (moved_to moved (places_of slot x.space)) x.pages w) where
      becomes_less : IsTrue tells → (l : Layout) → Shows tells x l → (es : List Element) → HasSeen shape slot h.columns x.pages.page (places_of slot x.space) l es
          → Becomes tells (DelElem key stamp) key shape slot h (moved_to moved (places_of slot x.space)) (count_line 1) x w l
      becomes_less told l shows es seen =
          let at = taken.at in
          let old = some_of (element_at at es) (taken.there told es seen.have) in
          record {
            elements = without_element at es;
            written = taken.left told es seen.have;
            of_format = λ format. left_visible (λ e. not (int_eq at e.0)) es (seen.of_format format);
            says = λ on.
                let address : reached (an_address (series_of l slot on.s) stamp (catalogue_of l)) ≡ Some at = ap reached (address_in stamp l shows on ∙ taken.address) in
                let m = elements_at slot l.element_pages in
                deletes key stamp slot l on
                ∙ (λ i. Ok (count_line (count_at (address i) m), with_elements key (series_of l slot on.s) (without_one (address i) m) (catalogue_of l)))
                ∙ (λ i. Ok (
                  count_line (count_if_any ((found_in shape slot h.columns x.pages.page (places_of slot x.space) l es seen at ∙ old.1) i)),
                  with_elements key (series_of l slot on.s) ((ap (λ (m : Elements). remove m at) seen.elements ∙ sym (as_maps.taken at es)) i) (catalogue_of l),
                ));
          }

      pub taken_carried : IsLawful tells w → w.change_bytes ≤ x.pages.change_bytes + 4106 → (out : List ℕ) → out ≡ count_line 1 → CarriedOut tells (DelElem key stamp) (Ok (Places slot moved)) out x w
      taken_carried lawful bytes out said =
          rewritten_carried tells (DelElem key stamp) key shape slot h (moved_to moved (places_of slot x.space)) (count_line 1) x w
          (record {
            shelf = shelf;
            laid = laid;
            moved = taken.places;
            pays = λ s c is. pays_less x kept slot shelf.named.within h shelf.columns shape shelf.lies s c is (moved_to moved (places_of slot x.space)) taken.pays;
            told = becomes_less;
          }) kept lawful count (Places slot moved) refl refl shelf.named.within refl refl no_fault (moved_grows _ moved (places_of slot x.space) x.pages w taken.places bytes) out said

    -- none is there
    pub none_carried : Stays tells x.pages w → IsTold tells shape slot h.columns (places_of slot x.space) x.pages (λ es. (at : ℤ) → addressed shape stamp ≡ Ok at → element_at at es ≡ None) → w.change_bytes ≤ x.pages.change_bytes + 4106
        → (out : List ℕ) → out ≡ count_line 0 → CarriedOut tells (DelElem key stamp) (Ok Nothing) out x w
    none_carried same none bytes out said =
        nothing_carried tells (DelElem key stamp) x w same count no_fault (omega (arith, bytes)) out (count_line 0) said (λ told l shows.
        let on = series_seen x l shows.kept slot key shelf.named in
        let seen = elements_seen tells x l shape laid slot h told shows shelf.columns shelf.lies shelf.named.within in
        let es = seen.0 in
        let o = reached (an_address (series_of l slot on.s) stamp (catalogue_of l)) in
        let absent = none_counted o (elements_at slot l.element_pages) (λ at is.
        found_in shape slot h.columns x.pages.page (places_of slot x.space) l es seen.1 at
        ∙ none told es seen.1.have at (reached_some (addressed shape stamp) at (sym (ap reached (address_in stamp l shows on)) ∙ is))) in
        deletes key stamp slot l on ∙ (λ i. Ok (count_line (absent.0 i), element_not_there key (series_of l slot on.s) o (catalogue_of l) on.listed absent.1 i)))

  -- a range of them
  module _ (from to : ℤ) (removed : ℕ) where
    module _ (moved : Moved) (cleared : AreCleared tells shape slot h.columns from to removed (places_of slot x.space) (moved_to moved (places_of slot x.space)) x.pages w) where
      becomes_clipped : IsTrue tells → (l : Layout) → Shows tells x l → (es : List Element) → HasSeen shape slot h.columns x.pages.page (places_of slot x.space) l es
          → Becomes tells (DelClip key from to) key shape slot h (moved_to moved (places_of slot x.space)) (count_line removed) x w l
      becomes_clipped told l shows es seen =
          let entries_are = entries_in shape slot h.columns x.pages.page (places_of slot x.space) l es seen in
          record {
            elements = without_range from to es;
            written = cleared.left told es seen.have;
            of_format = λ format. left_visible (λ e. not (is_within from to e)) es (seen.of_format format);
            says = λ on.
                clips key from to slot l on
                ∙ (λ i. Ok (
                  count_line ((ap (λ (fs : List Element). length (within_range from to fs)) entries_are ∙ sym (cleared.number told es seen.have)) i),
                  with_elements key (series_of l slot on.s) (from_entries (without_range from to (entries_are i))) (catalogue_of l),
                ));
          }

      pub cleared_carried : IsLawful tells w → w.change_bytes ≤ x.pages.change_bytes + 344084 → Grows 1 x.pages w → (out : List ℕ) → out ≡ count_line removed → CarriedOut tells (DelClip key from to) (Ok (Places slot moved)) out x w
      cleared_carried lawful bytes grows out said =
          rewritten_carried tells (DelClip key from to) key shape slot h (moved_to moved (places_of slot x.space)) (count_line removed) x w
          (record {
            shelf = shelf;
            laid = laid;
            moved = cleared.places;
            pays = λ s c is. pays_less x kept slot shelf.named.within h shelf.columns shape shelf.lies s c is (moved_to moved (places_of slot x.space)) cleared.pays;
            told = becomes_clipped;
          }) kept lawful count (Places slot moved) refl refl shelf.named.within refl refl no_fault grows out said

    -- none is there
    pub none_cleared : Stays tells x.pages w → removed ≡ 0 → IsTold tells shape slot h.columns (places_of slot x.space) x.pages (λ es. within_range from to es ≡ []) → Grows 1 x.pages w → (out : List ℕ) → out ≡ count_line removed
        → CarriedOut tells (DelClip key from to) (Ok Nothing) out x w
    none_cleared same number none grows out said =
        nothing_carried tells (DelClip key from to) x w same count no_fault (let free = ap (λ (ns : List ℕ). length ns) same.free in omega (arith, grows, free)) out (count_line removed) said (λ told l shows.
        let on = series_seen x l shows.kept slot key shelf.named in
        let seen = elements_seen tells x l shape laid slot h told shows shelf.columns shelf.lies shelf.named.within in
        let es = seen.0 in
        let entries_are = entries_in shape slot h.columns x.pages.page (places_of slot x.space) l es seen.1 in
        let empty : within_range from to (entries (elements_at slot l.element_pages)) ≡ [] = ap (within_range from to) entries_are ∙ none told es seen.1.have in
        clips key from to slot l on
        ∙ (λ i. Ok (count_line ((ap (λ (fs : List Element). length fs) empty ∙ sym number) i), range_not_there key (series_of l slot on.s) from to (catalogue_of l) on.listed empty i)))
