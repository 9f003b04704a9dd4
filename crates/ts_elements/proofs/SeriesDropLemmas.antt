-- A series that is dropped with its pages.
use Rattle.std.proofs.Common.{◌≡◌, ◌≢◌, ℕ, ◌+◌, ◌*◌, ◌<◌, ◌≤◌, Bool, IsTrue, IfErr, IsErrAnd, Some, None, Ok, Err, Result, IsPermutation, Contains, All, AllPairs, List, [], ◌++◌, length, get_or, length-append, refl, ap, sym, ◌∙◌, subst, arith}
use Rattle.std.proofs.lemmas.List.{length-map}
use Rattle.std.proofs.lemmas.List.Elements.{All-map, All-contains}
use Rattle.std.proofs.lemmas.List.Sorted.{length_permutation}
use Rattle.std.specs.FinMap.{get, remove}
use Rattle.ts_command.specs.declared.command.Command.TheVariants.{DropSeries}
use Rattle.ts_page.specs.Pages.{Contents, IsFreePage, first_element_page}
use Rattle.ts_page.proofs.PagesLemmas.{zero_is_free}
use Rattle.ts_space.specs.declared.place.Place.{Place}
use Rattle.ts_space.specs.Place.{pages_of}
use Rattle.ts_space.specs.Directory.{Directory, places_of}
use Rattle.ts_row.specs.declared.kind.Column.{Column}
use Rattle.ts_irregular.specs.OnePage.{IsPlace}
use Rattle.ts_regular.specs.Places as cells
use Rattle.ts_offset.specs.declared.shape.Shape.{Shape}
use Rattle.ts_offset.specs.declared.shape.Shape.TheVariants.{Irregular, Regular}
use Rattle.ts_sheets.specs.Places.{CanBeFreed}
use Rattle.ts_chain.specs.Call.{AreFreed}
use Rattle.ts_model.specs.declared.kind.Kind.TheVariants as kinds
use Rattle.ts_model.specs.Definitions.{Definitions, with_slot}
use Rattle.ts_model.specs.Catalogue.{Catalogue, Series as SomeSeries}
use Rattle.ts_layout.specs.Slot.{page_of_slot}
use Rattle.ts_layout.specs.Meaning.{Layout, HoldsLayout, series_of, catalogue_of}
use Rattle.ts_layout.specs.Chains.{without_series}
use Rattle.ts_layout.specs.Held.{IsHeldOf}
use Rattle.ts_layout.specs.Changed.{with_slot_bytes}
use Rattle.ts_layout.proofs.CallerLemmas.{page_low, page_high, elsewhere, definitions_stay}
use Rattle.ts_container.specs.Survey.{SlotWritten}
use Rattle.ts_base.specs.declared.fault.StoreFault.{StoreFault}
use Rattle.ts_base.specs.declared.fault.StoreFault.TheVariants as faults
use Rattle.ts_answer.specs.declared.stop.Stop.{Stop}
use Rattle.ts_answer.specs.declared.stop.Stop.TheVariants.{Refused, Failed, Memory}
use Rattle.ts_answer.specs.Stop.{store_stop}
use Rattle.ts_answer.specs.declared.effect.Effect.{Effect}
use Rattle.ts_answer.specs.declared.effect.Effect.TheVariants.{Series}
use Rattle.ts_answer.specs.Reply.{ok_line}
use Rattle.ts_answer.specs.Answer.{drop_series, carried_out, outcome}
use Rattle.ts_answer.specs.View.{View, Shows, KeepsRules}
use Rattle.ts_answer.specs.CarriedOut.{CarriedOut, Comes}
use Rattle.ts_answer.specs.Slots.{IsSlotNamed}
use Rattle.ts_answer.proofs.CallerLemmas.{held_same, wanted-there, on_ok}
use Rattle.ts_shelf.proofs.MemoryLemmas.{series_kept, places_seen}
use Rattle.ts_shelf.proofs.SeenLemmas.{series_seen}
use Rattle.ts_elements.specs.Drops.{IsDropped, LeavesRefused}
use Rattle.ts_elements.specs.Stamps.{ArePlaces}
use Rattle.ts_elements.proofs.LawLemmas.{dropped, kept_same, kept_without}
use Rattle.ts_elements.proofs.MemoryLemmas.{with_places}

-- what the command comes to
drops : (key : List ℕ) (cat : Catalogue) (s : SomeSeries) → get cat.series key ≡ Some s → outcome (Ok (DropSeries key)) cat ≡ Ok (ok_line, record cat { series = remove cat.series key })
unfolding outcome carried_out drop_series
drops key cat s there = on_ok _ s _ (wanted-there key cat.series s there)

-- the pages of a series can be freed
freeable : (shape : Shape) (columns : List Column) (c : Contents) (places : List Place) → ArePlaces shape columns c places → All (CanBeFreed c) (pages_of places) × AllPairs (λ a b. a ≢ b) (pages_of places)
freeable Irregular columns c places are = (
  All-map (CanBeFreed c) (λ place. place.page) places (λ k d inside.
      let one : IsPlace columns c (get_or places k d) = are.each k d inside in
      record { element = one.element; below = one.below; used = one.used }),
  are.different,
)
freeable (Regular grid) columns c places are = (
  All-map (CanBeFreed c) (λ place. place.page) places (λ k d inside.
      let one : cells.IsPlace columns c (get_or places k d) = are.each k d inside in
      record { element = one.readable.element; below = one.readable.below; used = one.used }),
  are.different,
)

pub can_be_freed : (x : View) → KeepsRules x → (key : List ℕ) (slot : ℕ) → IsSlotNamed kinds.Series slot key x.definitions
    → All (CanBeFreed x.pages) (pages_of (places_of slot x.space)) × AllPairs (λ a b. a ≢ b) (pages_of (places_of slot x.space))
can_be_freed x kept key slot named =
    let on = series_kept x kept slot named.within key named in
    freeable on.shape on.h.columns x.pages (places_of slot x.space) (places_seen x kept slot named.within on.h on.columns on.shape on.lies)

above_slot : (slot n : ℕ) → slot < 4096 → first_element_page ≤ n → n ≢ page_of_slot kinds.Series slot
above_slot slot n within high same = let top = page_high kinds.Series slot within in omega (arith, top, high, same)

-- its pages are freed, and then its slot is emptied
module _ (tells : Bool) (x : View) (key : List ℕ) (slot : ℕ) (named : IsSlotNamed kinds.Series slot key x.definitions) (kept : KeepsRules x) (between w : Contents) (count : between.count ≡ x.pages.count)
    (gone : AreFreed tells (places_of slot x.space) x.pages between) (emptied : SlotWritten tells kinds.Series slot None (Ok tt) between w) where
  abbrev space_after : Directory
  space_after = with_places slot [] x.space

  within : slot < 4096
  within = named.within

  free_after : IsPermutation (x.pages.free ++ pages_of (places_of slot x.space)) w.free
  free_after = subst (λ (ns : List ℕ). IsPermutation (x.pages.free ++ pages_of (places_of slot x.space)) ns) (sym emptied.free) gone.free

  none_below : (n : ℕ) → n < first_element_page → ¬ Contains (pages_of (places_of slot x.space)) n
  none_below n low there =
      let can = All-contains (CanBeFreed x.pages) (pages_of (places_of slot x.space)) n (can_be_freed x kept key slot named).0 there in
      let high = can.element in
      omega (arith, low, high)

  module _ (told : IsTrue tells) (l : Layout) (shows : Shows tells x l) where
    -- an element page isn't that of the slot, nor is the first page
    slot_stays : (n : ℕ) → n ≢ page_of_slot kinds.Series slot → w.page n ≡ between.page n
    slot_stays n other = elsewhere (page_of_slot kinds.Series slot) n (with_slot_bytes kinds.Series slot None (between.page (page_of_slot kinds.Series slot))) between.page w.page other (emptied.written told)

    first_page : 0 ≢ page_of_slot kinds.Series slot
    first_page same = let low = page_low kinds.Series slot in omega (arith, low, same)

    bytes_after : HoldsLayout w.page (without_series slot l)
    bytes_after =
        let holds = shows.holds told in
        let defined = definitions_stay x.pages.page between.page l.definitions (λ n below. gone.others told n (none_below n below)) holds.definitions in
        dropped.bytes l x.space slot x.pages.page w.page shows.kept.rules shows.kept.places within (emptied.definitions told l.definitions shows.kept.rules.definitions.tables defined)
        (slot_stays 0 first_page ∙ gone.others told 0 (none_below 0 (omega arith)))
        (record {
          freed = λ n there.
              let can = All-contains (CanBeFreed x.pages) (pages_of (places_of slot x.space)) n (can_be_freed x kept key slot named).0 there in
              subst IsFreePage (sym (slot_stays n (above_slot slot n within can.element) ∙ gone.zero told n there)) zero_is_free;
          others = λ n high other. slot_stays n (above_slot slot n within high) ∙ gone.others told n other;
        })
        holds

    held_after : IsHeldOf (with_slot kinds.Series slot None l.definitions) space_after x.pages.count w.free (without_series slot l)
    held_after = dropped.kept l x.space space_after slot x.pages.count x.pages.free w.free (subst (λ (d : Definitions). IsHeldOf d x.space x.pages.count x.pages.free l) shows.kept.definitions shows.kept) within kept.placed.slots refl free_after

    comes_without : Comes tells (DropSeries key) (Series slot) ok_line x w l
    comes_without =
        let on = series_seen x l shows.kept slot key named in
        record {
          layout = without_series slot l;
          shows = record {
            kept = held_same (with_slot kinds.Series slot None l.definitions) (with_slot kinds.Series slot None x.definitions) space_after space_after x.pages.count w.count w.free w.free (without_series slot l) held_after
                (ap (with_slot kinds.Series slot None) shows.kept.definitions) refl (emptied.count ∙ count) refl;
            holds = λ again. bytes_after;
          };
          comes = λ again.
              drops key (catalogue_of l) (series_of l slot on.s) on.listed
              ∙ ap (λ (k : List ℕ). Ok (ok_line, record (catalogue_of l) { series = remove (catalogue_of l).series k })) (sym on.named)
              ∙ ap (λ (cat : Catalogue). Ok (ok_line, cat)) (sym (dropped.catalogue l slot on.s shows.kept.rules on.is.there));
        }

  -- what was freed
  freed_many : length w.free ≡ length x.pages.free + length (places_of slot x.space)
  freed_many =
      let freed = length_permutation (x.pages.free ++ pages_of (places_of slot x.space)) w.free free_after in
      let parts = length-append x.pages.free (pages_of (places_of slot x.space)) ∙ ap (λ (n : ℕ). length x.pages.free + n) (length-map (places_of slot x.space) (λ place. place.page)) in
      omega (arith, freed, parts)

  -- its slot's page is written, and no page below those of elements loses its image
  pub drop_images : between.change_bytes ≤ x.pages.change_bytes + 5 * length (places_of slot x.space) → w.change_bytes ≤ between.change_bytes + 4101 → IsDropped slot x.pages w
  drop_images freed_bytes bytes =
      let freed = freed_many in
      let stays : (n : ℕ) → n < first_element_page → IsTrue (x.pages.imaged n) → IsTrue (between.imaged n) = λ n low there. gone.images n (none_below n low) there in
      record {
        within = within;
        grows = omega (arith, freed_bytes, bytes, freed);
        again = λ there.
            let less = emptied.again (stays (page_of_slot kinds.Series slot) (page_high kinds.Series slot within) there) in
            omega (arith, freed_bytes, less, freed);
        images = λ n low there. emptied.images n (stays n low there);
        imaged = emptied.imaged;
      }

  pub series_dropped : (out : List ℕ) → out ≡ ok_line → w.faults ≡ x.pages.faults → w.change_bytes ≤ x.pages.change_bytes + 5 * length (places_of slot x.space) + 4101 → CarriedOut tells (DropSeries key) (Ok (Series slot)) out x w
  series_dropped out said no_fault bytes =
      let freed = freed_many in
      record {
        keeps = λ rules.
            kept_same (with_slot kinds.Series slot None x.definitions) (with_slot kinds.Series slot None x.definitions) space_after space_after w.free w.free x.pages.count w.count
            (kept_without x.definitions x.space space_after x.pages.free w.free x.pages.count slot kept within refl free_after) refl refl refl (emptied.count ∙ count);
        done = λ told l shows. subst (λ (text : List ℕ). Comes tells (DropSeries key) (Series slot) text x w l) (sym said) (comes_without told l shows);
        applies = within;
        reads = λ reads. absurd (cc);
        stays = λ none. absurd (cc);
        stopped = tt;
        count = emptied.count ∙ count;
        grows = omega (arith, bytes, freed);
        no_fault = no_fault;
      }

-- what refuses a drop comes before any call on the pages
left_same : (stop : Stop) (v : Contents) → LeavesRefused stop v v
left_same (Refused refusal) v = refl
left_same Failed v = tt
left_same (Memory error) v = tt

pub refused_first : (r : Result Effect Stop) (stop : Stop) (v : Contents) → IsErrAnd r (λ s. s ≡ stop) → IfErr r (λ s. LeavesRefused s v v)
refused_first (Ok effect) stop v is = tt
refused_first (Err other) stop v is = left_same other v

-- what stops a call on them is no refusal
never_left : (fault : StoreFault) (v w : Contents) → LeavesRefused (store_stop fault) v w
never_left faults.Failed v w = tt
never_left (faults.Memory error) v w = tt

pub unrefused : (r : Result Effect Stop) (fault : StoreFault) (v w : Contents) → IsErrAnd r (λ s. s ≡ store_stop fault) → IfErr r (λ s. LeavesRefused s v w)
unrefused (Ok effect) fault v w is = tt
unrefused (Err other) fault v w is = subst (λ (s : Stop). LeavesRefused s v w) (sym is) (never_left fault v w)
