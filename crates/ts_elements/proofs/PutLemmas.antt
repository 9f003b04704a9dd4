-- An edit at a stamp, carried out on pages.
use Rattle.std.proofs.Common.{◌≡◌, ℕ, ◌+◌, ◌-◌, ◌<◌, ◌≤◌, inl, inr, min, Bool, true, IsTrue, ℤ, Some, Ok, Err, List, [], length, refl, ap, sym, ◌∙◌, subst, arith}
use Rattle.std.proofs.lemmas.List.{set-get_or}
use Rattle.ts_base.specs.declared.refusal.Refusal.{Refusal}
use Rattle.ts_base.specs.declared.refusal.Refusal.TheVariants as refusals
use Rattle.ts_page.specs.Pages.{Contents, IsLawful}
use Rattle.ts_row.specs.declared.value.Literal.{Literal}
use Rattle.ts_row.specs.Row.{Heading, Row, Element}
use Rattle.ts_space.specs.declared.place.Place.{Place}
use Rattle.ts_space.specs.declared.moved.Moved.{Moved}
use Rattle.ts_space.specs.Moved.{moved_to}
use Rattle.ts_space.specs.Directory.{places_of}
use Rattle.ts_cells.specs.IrregularPage.{page_room}
use Rattle.ts_irregular.specs.Edit.{with_element}
use Rattle.ts_series.specs.declared.edits.EditKind.{EditKind}
use Rattle.ts_series.specs.declared.edits.EditKind.TheVariants as kinds
use Rattle.ts_offset.specs.declared.shape.Shape.{Shape}
use Rattle.ts_model.specs.Catalogue.{shape_of}
use Rattle.ts_model.specs.Definitions.{Definitions, ContainerDef, SeriesDef}
use Rattle.ts_layout.specs.Meaning.{Layout, series_of, catalogue_of, shape_of as shape_in}
use Rattle.ts_layout.specs.Charges.{container_charge}
use Rattle.ts_layout.specs.Held.{IsHeldOf}
use Rattle.ts_answer.specs.declared.effect.Effect.TheVariants.{Pages, Places}
use Rattle.ts_answer.specs.declared.stop.Stop.TheVariants as stops
use Rattle.ts_answer.specs.Answer.{outcome}
use Rattle.ts_command.specs.Boundary.{is_writing}
use Rattle.ts_answer.specs.Reply.{stamp_line}
use Rattle.ts_answer.specs.View.{View, Shows, KeepsRules}
use Rattle.ts_answer.specs.CarriedOut.{CarriedOut, Grows, Stays}
use Rattle.ts_answer.proofs.CallerLemmas.{refuses_still, stopped}
use Rattle.ts_shelf.specs.Shelf.{IsSeries}
use Rattle.ts_shelf.proofs.LawLemmas.{room_left}
use Rattle.ts_shelf.proofs.SeenLemmas.{SeriesIn, HasSeen, series_seen, columns_same, shape_same, shape_there, shape_in_layout, elements_seen}
use Rattle.ts_elements.specs.Elements.{HasRow, edit_of}
use Rattle.ts_elements.specs.Room.{IsBudget}
use Rattle.ts_elements.specs.Stamps.{charge_by, charge_with_one}
use Rattle.ts_offset.specs.Shape.{IsLaidOut}
use Rattle.ts_elements.specs.Calls.{IsPut, IsGivenRow, IsRefused, IsFull}
use Rattle.ts_elements.proofs.MemoryLemmas.{charge_same, paid_in, pays_less, pays_within}
use Rattle.ts_elements.proofs.RewriteLemmas.{Becomes, stays_moved, rewritten_carried}
use Rattle.ts_elements.proofs.RowLemmas.{row_visible}
use Rattle.ts_elements.proofs.FormatLemmas.{with_visible}
use Rattle.ts_elements.proofs.EditLemmas.{charge_with, charge_written, edit_done, edit_refused, edit_full}

-- each edit writes
writes_edit : (how : EditKind) (key : List ℕ) (stamp : ℤ) (literals : List Literal) → is_writing (edit_of how key stamp literals) ≡ true
writes_edit kinds.Put key stamp literals = refl
writes_edit kinds.PutNoDups key stamp literals = refl
writes_edit kinds.Insert key stamp literals = refl
writes_edit kinds.Update key stamp literals = refl

-- A series with a row for it; what the other series of its container are charged, the quota, and how many pages there are for it.
module _ (tells : Bool) (how : EditKind) (key : List ℕ) (literals : List Literal) (shape : Shape) (laid : IsLaidOut shape) (slot : ℕ) (stamp : ℤ) (h : Heading) (row : Row) (x : View) (has : HasRow key literals shape slot h row x.definitions) (kept : KeepsRules x)
    (others quota room : ℕ) (budget : (s : SeriesDef) (c : ContainerDef) (y : Heading) → IsSeries slot s c y x.definitions → IsBudget slot s c y x.definitions x.space others quota) (within_quota : others ≤ quota)
    (room_is : room ≡ min (quota - others) (length x.pages.free + length (places_of slot x.space))) where
  within : slot < 4096
  within = has.shelf.named.within

  left : others + room ≤ quota
  left = omega (arith, room_is, within_quota)

  module _ (told : IsTrue tells) (l : Layout) (shows : Shows tells x l) (on : SeriesIn l key slot) where
    in_layout : IsSeries slot on.s on.c h l.definitions
    in_layout = subst (λ (y : Heading). IsSeries slot on.s on.c y l.definitions) (columns_same x l shows.kept slot key h on has.shelf.columns) on.is

    in_memory : IsSeries slot on.s on.c h x.definitions
    in_memory = subst (λ (d : Definitions). IsSeries slot on.s on.c h d) (sym shows.kept.definitions) in_layout

    shape_is : shape_in l.definitions on.s.regular ≡ Some shape
    shape_is = shape_there l.definitions slot on.s shape on.is.there (shape_in_layout x l shows.kept slot shape has.shelf.lies)

    kind_is : shape_of (catalogue_of l) (series_of l slot on.s).kind ≡ Some shape
    kind_is = on.kind ∙ ap Some (shape_same x l shows.kept slot key shape on has.shelf.lies)

    budget_in : IsBudget slot on.s on.c h l.definitions x.space others quota
    budget_in = subst (λ (d : Definitions). IsBudget slot on.s on.c h d x.space others quota) shows.kept.definitions (budget on.s on.c h in_memory)

    -- what the series costs now is within the quota
    now_within : others + charge_by shape h.columns (places_of slot x.space) ≤ quota
    now_within =
        let paid = subst (λ (d : Definitions). container_charge d x.space on.s.container (page_room h.columns) ≤ on.c.quota) shows.kept.definitions (paid_in x kept slot within h has.shelf.columns on.s on.c in_memory) in
        let all = budget_in.all in
        let own = charge_same l.definitions on.s.regular shape shape_is h.columns (places_of slot x.space) in
        let same = budget_in.quota_is in
        omega (arith, paid, all, own, same)

    -- what the pages are told of is all that the quota leaves
    all_left : room ≡ quota - others
    all_left =
        let same = budget_in.quota_is in
        let all = budget_in.all in
        let more = room_left.room l x.space x.pages.free x.pages.count slot (quota - others) on.s on.c h (subst (λ (d : Definitions). IsHeldOf d x.space x.pages.count x.pages.free l) shows.kept.definitions shows.kept) kept.placed.slots within
        in_layout.there in_layout.container in_layout.heading (omega (arith, same, all, within_quota)) in
        omega (arith, room_is, more)

  -- a row is put, within the room or for no more than before
  module _ (at : ℤ) (moved : Moved) (w : Contents) (put : IsPut tells shape slot h.columns how stamp row room at (places_of slot x.space) (moved_to moved (places_of slot x.space)) x.pages w) where
    abbrev new : List Place
    new = moved_to moved (places_of slot x.space)

    becomes_put : IsTrue tells → (l : Layout) → Shows tells x l → (es : List Element) → HasSeen shape slot h.columns x.pages.page (places_of slot x.space) l es
        → Becomes tells (edit_of how key stamp literals) key shape slot h new (stamp_line at) x w l
    becomes_put told l shows es seen =
        let written = put.put told es seen.have in
        record {
          elements = with_element at row es;
          written = written;
          of_format = λ old. with_visible at row es (seen.of_format old) (row_visible h.columns literals row has.gives);
          says = λ on.
              let k = shows.kept in
              let budget_now = budget_in told l shows on in
              let charge = charge_written l x.space key shape laid slot h row x.pages.page es k.rules k.filled k.places within on (in_layout told l shows on) (shape_is told l shows on) (kind_is told l shows on) seen others quota budget_now
              at new w.page put.places.rising written.have in
              let most = budget_now.quota_is in
              let now = now_within told l shows on in
              let fits : others + charge_by shape h.columns new ≤ quota = elim put.pays [
                | inl room ↦ omega (arith, room, left)
                | inr less ↦ omega (arith, less, now)
              ] in
              edit_done l x.space key shape laid slot h row x.pages.page es k.rules k.filled k.places within on (in_layout told l shows on) (shape_is told l shows on) (kind_is told l shows on) seen how stamp literals has.gives at
              (put.target_is told es seen.have) (omega (arith, charge, most, fits));
        }

    pub put_carried : IsLawful tells w → w.count ≡ x.pages.count → w.faults ≡ x.pages.faults → w.change_bytes ≤ x.pages.change_bytes + 16424 → Grows 1 x.pages w → (out : List ℕ) → out ≡ stamp_line at
        → CarriedOut tells (edit_of how key stamp literals) (Ok (Places slot moved)) out x w
    put_carried lawful count no_fault bytes grows out said =
        rewritten_carried tells (edit_of how key stamp literals) key shape slot h new (stamp_line at) x w
        (record {
          shelf = has.shelf;
          laid = laid;
          moved = put.places;
          pays = λ s c is. elim put.pays [
            | inl room ↦ pays_within x kept slot within h has.shelf.columns shape has.shelf.lies s c is new others quota _ (budget s c h is) left room
            | inr less ↦ pays_less x kept slot within h has.shelf.columns shape has.shelf.lies s c is new less
          ];
          told = becomes_put;
        }) kept lawful count (Places slot moved) refl refl within refl (writes_edit how key stamp literals) no_fault grows out said

  -- the element at the stamp gets the row
  module _ (w : Contents) (given : IsGivenRow tells shape slot h.columns how stamp row (places_of slot x.space) x.pages w) where
    becomes_given : IsTrue tells → (l : Layout) → Shows tells x l → (es : List Element) → HasSeen shape slot h.columns x.pages.page (places_of slot x.space) l es
        → Becomes tells (edit_of how key stamp literals) key shape slot h (places_of slot x.space) (stamp_line stamp) x w l
    becomes_given told l shows es seen =
        let written = given.put told es seen.have in
        record {
          elements = with_element stamp row es;
          written = written;
          of_format = λ old. with_visible stamp row es (seen.of_format old) (row_visible h.columns literals row has.gives);
          says = λ on.
              let k = shows.kept in
              let budget_now = budget_in told l shows on in
              let charge = charge_written l x.space key shape laid slot h row x.pages.page es k.rules k.filled k.places within on (in_layout told l shows on) (shape_is told l shows on) (kind_is told l shows on) seen others quota budget_now
              stamp (places_of slot x.space) w.page (kept.placed.rising slot within) written.have in
              let most = budget_now.quota_is in
              let now = now_within told l shows on in
              edit_done l x.space key shape laid slot h row x.pages.page es k.rules k.filled k.places within on (in_layout told l shows on) (shape_is told l shows on) (kind_is told l shows on) seen how stamp literals has.gives stamp
              (given.target_is told es seen.have) (omega (arith, charge, most, now));
        }

    pub given_carried : IsLawful tells w → w.count ≡ x.pages.count → w.faults ≡ x.pages.faults → w.change_bytes ≤ x.pages.change_bytes + 16424 → Grows 1 x.pages w → (out : List ℕ) → out ≡ stamp_line stamp
        → CarriedOut tells (edit_of how key stamp literals) (Ok Pages) out x w
    given_carried lawful count no_fault bytes grows out said =
        rewritten_carried tells (edit_of how key stamp literals) key shape slot h (places_of slot x.space) (stamp_line stamp) x w
        (record {
          shelf = has.shelf;
          laid = laid;
          moved = stays_moved shape slot h x w kept within has.shelf.columns has.shelf.lies given.free;
          pays = λ s c is. pays_less x kept slot within h has.shelf.columns shape has.shelf.lies s c is (places_of slot x.space) (omega arith);
          told = becomes_given;
        }) kept lawful count Pages refl (sym (set-get_or x.space.lists slot [])) tt refl (writes_edit how key stamp literals) no_fault grows out said

  -- it is refused, and everything stays
  module _ (w : Contents) (count : w.count ≡ x.pages.count) (no_fault : w.faults ≡ x.pages.faults) (bytes : w.change_bytes ≤ x.pages.change_bytes + 16424) (out : List ℕ) where
    refused_with : (refusal : Refusal) → Stays tells x.pages w → (IsTrue tells → (l : Layout) → Shows tells x l → outcome (Ok (edit_of how key stamp literals)) (catalogue_of l) ≡ Err refusal)
        → CarriedOut tells (edit_of how key stamp literals) (Err (stops.Refused refusal)) out x w
    refused_with refusal same why =
        stopped tells (edit_of how key stamp literals) out x (Err (stops.Refused refusal)) (stops.Refused refusal) w refl
        (refuses_still tells (edit_of how key stamp literals) out x refusal w same bytes no_fault why) count

    pub refused_carried : (refusal : Refusal) → IsRefused tells shape slot h.columns how stamp refusal (places_of slot x.space) x.pages w → CarriedOut tells (edit_of how key stamp literals) (Err (stops.Refused refusal)) out x w
    refused_carried refusal refused = refused_with refusal refused.same (λ told l shows.
        let on = series_seen x l shows.kept slot key has.shelf.named in
        let k = shows.kept in
        let seen = elements_seen tells x l shape laid slot h told shows has.shelf.columns has.shelf.lies within in
        edit_refused l x.space key shape laid slot h row x.pages.page seen.0 k.rules k.filled k.places within on (in_layout told l shows on) (shape_is told l shows on) (kind_is told l shows on) seen.1 how stamp literals has.gives
        refusal (refused.why told seen.0 seen.1.have))

    pub full_carried : (refusal : Refusal) → refusal ≡ refusals.ContainerFull (others + charge_with_one shape h.columns (places_of slot x.space)) quota → IsFull tells shape slot h.columns how stamp row room (places_of slot x.space) x.pages w
        → CarriedOut tells (edit_of how key stamp literals) (Err (stops.Refused refusal)) out x w
    full_carried refusal is full = refused_with refusal full.same (λ told l shows.
        let on = series_seen x l shows.kept slot key has.shelf.named in
        let k = shows.kept in
        let seen = elements_seen tells x l shape laid slot h told shows has.shelf.columns has.shelf.lies within in
        let budget_now = budget_in told l shows on in
        let new = full.new told seen.0 seen.1.have in
        let over = full.over in
        let most = all_left told l shows on in
        let charged = charge_with l x.space key shape laid slot h row x.pages.page seen.0 k.rules k.filled k.places within on (in_layout told l shows on) (shape_is told l shows on) (kind_is told l shows on) seen.1 others quota budget_now
        new.at (charge_with_one shape h.columns (places_of slot x.space)) new.costs in
        edit_full l x.space key shape laid slot h row x.pages.page seen.0 k.rules k.filled k.places within on (in_layout told l shows on) (shape_is told l shows on) (kind_is told l shows on) seen.1 how stamp literals has.gives
        new.at (others + charge_with_one shape h.columns (places_of slot x.space)) quota new.target_is new.absent charged (sym budget_now.quota_is) (omega (arith, over, most, within_quota))
        ∙ ap Err (sym is))
