-- A series that gets other elements: the one lemma behind every edit, whatever the shape.
use Rattle.std.proofs.Common.{◌≡◌, ℕ, ◌+◌, ◌<◌, ◌≤◌, Bool, true, false, IsTrue, Some, Ok, IsPermutation, List, ◌++◌, get_or, refl, ap, sym, ◌∙◌, subst}
use Rattle.std.proofs.lemmas.List.Sorted.{IsPermutation-refl}
use Rattle.ts_command.specs.declared.command.Command.{Command}
use Rattle.ts_page.specs.Pages.{Contents, IsLawful}
use Rattle.ts_row.specs.Row.{Heading, Element}
use Rattle.ts_space.specs.declared.place.Place.{Place}
use Rattle.ts_space.specs.Place.{pages_of}
use Rattle.ts_space.specs.Directory.{Directory, places_of}
use Rattle.ts_cells.specs.IrregularPage.{page_room}
use Rattle.ts_offset.specs.declared.shape.Shape.{Shape}
use Rattle.ts_model.specs.Catalogue.{Catalogue}
use Rattle.ts_model.specs.Definitions.{Definitions, ContainerDef, SeriesDef}
use Rattle.ts_layout.specs.Meaning.{AreOfFormat, Layout, heading_at, shape_at, series_of, catalogue_of, charge_of_container}
use Rattle.ts_layout.specs.Sheets.{Sheet, room_of}
use Rattle.ts_layout.specs.Charges.{container_charge}
use Rattle.ts_layout.specs.Placed.{AreMoved, IsPlaceIn}
use Rattle.ts_layout.specs.Surveyed.{ListsPlaces}
use Rattle.ts_layout.specs.Chains.{by_stamp, KeepsQuotaOf, rewritten as rewritten_layout}
use Rattle.ts_layout.specs.Held.{IsHeldOf, IsRewrittenIn}
use Rattle.ts_layout.proofs.CallerLemmas.{one_of}
use Rattle.ts_answer.specs.declared.effect.Effect.{Effect}
use Rattle.ts_answer.specs.Answer.{outcome, with_elements}
use Rattle.ts_command.specs.Boundary.{is_writing}
use Rattle.ts_answer.specs.View.{View, Shows, KeepsRules}
use Rattle.ts_answer.specs.CarriedOut.{CarriedOut, CanApply, Comes, Grows, is_nothing, definitions_after, lists_after}
use Rattle.ts_answer.proofs.CallerLemmas.{held_same, grows_one}
use Rattle.ts_shelf.specs.Shelf.{IsShelf, IsSeries}
use Rattle.ts_shelf.proofs.LawLemmas.{charges}
use Rattle.ts_shelf.proofs.SeenLemmas.{SeriesIn, HasSeen, heading_there, series_seen, columns_in, shape_in_layout, elements_seen}
use Rattle.ts_elements.specs.Stamps.{AreWritten}
use Rattle.ts_offset.specs.Shape.{IsLaidOut}
use Rattle.ts_elements.proofs.LawLemmas.{rewritten, kept_same}
use Rattle.ts_elements.proofs.SeriesLemmas.{AreSheets, sheets_of}
use Rattle.ts_elements.proofs.MemoryLemmas.{with_places, rules_after}

-- the elements of a series become these, and so a command answers
pub record Becomes (tells : Bool) (command : Command) (key : List ℕ) (shape : Shape) (slot : ℕ) (h : Heading) (new : List Place) (out : List ℕ) (x : View) (w : Contents) (l : Layout) : Type 0 where
  pub elements : List Element
  pub written : AreWritten shape slot h.columns elements (places_of slot x.space) new x.pages w
  pub of_format : AreOfFormat l.definitions.format elements
  pub says : (on : SeriesIn l key slot) → outcome (Ok command) (catalogue_of l) ≡ Ok (out, with_elements key (series_of l slot on.s) (by_stamp elements) (catalogue_of l))

-- What an edit of a series did: its places are others, its container is charged its quota at most, and where the pages are told its
-- elements are others.
pub record Rewrites (tells : Bool) (command : Command) (key : List ℕ) (shape : Shape) (slot : ℕ) (h : Heading) (new : List Place) (out : List ℕ) (x : View) (w : Contents) : Type 0 where
  pub shelf : IsShelf shape slot h key x.definitions
  pub laid : IsLaidOut shape
  pub moved : AreMoved (room_of shape h.columns) (places_of slot x.space) new x.pages w
  pub pays : (s : SeriesDef) (c : ContainerDef) → IsSeries slot s c h x.definitions → container_charge x.definitions (with_places slot new x.space) s.container (page_room h.columns) ≤ c.quota
  pub told : IsTrue tells → (l : Layout) → Shows tells x l → (es : List Element) → HasSeen shape slot h.columns x.pages.page (places_of slot x.space) l es
      → Becomes tells command key shape slot h new out x w l

-- places that stay are no others
pub stays_moved : (shape : Shape) (slot : ℕ) (h : Heading) (x : View) (w : Contents) → KeepsRules x → slot < 4096 → heading_at x.definitions slot ≡ Some h → shape_at x.definitions slot ≡ Some shape → w.free ≡ x.pages.free
    → AreMoved (room_of shape h.columns) (places_of slot x.space) (places_of slot x.space) x.pages w
stays_moved shape slot h x w kept within columns lies free = record {
  pages = subst (λ (ns : List ℕ). IsPermutation (x.pages.free ++ pages_of (places_of slot x.space)) (ns ++ pages_of (places_of slot x.space))) (sym free) (IsPermutation-refl (x.pages.free ++ pages_of (places_of slot x.space)));
  rising = kept.placed.rising slot within;
  counts = λ k d inside.
      let one : IsPlaceIn x.definitions x.pages.count slot (get_or (places_of slot x.space) k d) = kept.placed.places slot within k d inside in
      let heads : one.heading ≡ h = one_of (heading_at x.definitions slot) one.heading h one.columns columns in
      let shapes : one.shape ≡ shape = one_of (shape_at x.definitions slot) one.shape shape one.lies lies in
      record { some = one.some; most = subst (λ (r : ℕ). (get_or (places_of slot x.space) k d).count ≤ r) (λ i. room_of (shapes i) (heads i).columns) one.room };
}

module _ (tells : Bool) (command : Command) (key : List ℕ) (shape : Shape) (slot : ℕ) (h : Heading) (new : List Place) (out : List ℕ) (x : View) (w : Contents) (rewrites : Rewrites tells command key shape slot h new out x w) (kept : KeepsRules x) (lawful : IsLawful tells w)
    (count : w.count ≡ x.pages.count) where
  abbrev space_after : Directory
  space_after = with_places slot new x.space

  within : slot < 4096
  within = rewrites.shelf.named.within

  module _ (told : IsTrue tells) (l : Layout) (shows : Shows tells x l) where
    on : SeriesIn l key slot
    on = series_seen x l shows.kept slot key rewrites.shelf.named

    abbrev becomes : Becomes tells command key shape slot h new out x w l
    becomes =
        let seen = elements_seen tells x l shape rewrites.laid slot h told shows rewrites.shelf.columns rewrites.shelf.lies within in
        rewrites.told told l shows seen.0 seen.1

    abbrev made : AreSheets shape slot h.columns w.page new becomes.elements
    made = sheets_of shape slot h.columns w.page new becomes.elements rewrites.moved.rising becomes.written.have

    abbrev sheets : List Sheet
    sheets = made.sheets

    abbrev layout : Layout
    layout = rewritten_layout slot (pages_of new) sheets l

    given : IsRewrittenIn shape slot h x.space new sheets x.pages w l
    given = record {
      held = subst (λ (d : Definitions). IsHeldOf d x.space x.pages.count x.pages.free l) shows.kept.definitions shows.kept;
      slots = kept.placed.slots;
      heading = columns_in x l shows.kept slot h rewrites.shelf.columns;
      lies = shape_in_layout x l shows.kept slot shape rewrites.shelf.lies;
      of_format = subst (λ (es : List Element). AreOfFormat l.definitions.format es) (sym made.all) becomes.of_format;
      count = count;
      edit = record {
        is = made.is;
        on = made.on;
        rising = rewrites.moved.rising;
        pages = rewrites.moved.pages;
        freed = λ k d inside. (lawful.listed k d inside).free told;
        others = becomes.written.others;
      };
    }

    lists : ListsPlaces space_after layout
    lists = rewritten.places l x.space space_after shape slot h new sheets x.pages w given refl

    quota : KeepsQuotaOf slot layout
    quota s c y there container heading =
        let is : IsSeries slot s c y l.definitions = record { there = there; container = container; heading = heading } in
        let same : y ≡ h = one_of (heading_at l.definitions slot) y h (heading_there l.definitions slot s c y is) (columns_in x l shows.kept slot h rewrites.shelf.columns) in
        let mine : IsSeries slot s c h x.definitions = subst (λ (d : Definitions). IsSeries slot s c h d) (sym shows.kept.definitions) (subst (λ (z : Heading). IsSeries slot s c z l.definitions) same is) in
        let base = subst (λ (d : Definitions). container_charge d space_after s.container (page_room h.columns) ≤ c.quota) shows.kept.definitions (rewrites.pays s c mine) in
        let pages = charges.pages layout space_after s.container (page_room h.columns) shows.kept.rules.definitions.tables lists in
        subst (λ (z : Heading). charge_of_container layout s.container (page_room z.columns) ≤ c.quota) (sym same) (subst (λ (n : ℕ). n ≤ c.quota) pages base)

    held : IsHeldOf l.definitions space_after w.count w.free layout
    held = rewritten.kept l x.space space_after shape slot h new sheets x.pages w given refl quota

    catalogue_is : catalogue_of layout ≡ with_elements key (series_of l slot on.s) (by_stamp becomes.elements) (catalogue_of l)
    catalogue_is =
        rewritten.catalogue l x.space shape slot h on.s new sheets x.pages w given on.is.there
        ∙ ap (λ (es : List Element). with_elements on.s.key (series_of l slot on.s) (by_stamp es) (catalogue_of l)) made.all
        ∙ ap (λ (k : List ℕ). with_elements k (series_of l slot on.s) (by_stamp becomes.elements) (catalogue_of l)) on.named

    comes_with : (effect : Effect) → definitions_after effect x.definitions ≡ x.definitions → lists_after effect x.space.lists ≡ space_after.lists → Comes tells command effect out x w l
    comes_with effect definitions places = record {
      layout = layout;
      shows = record {
        kept = held_same l.definitions (definitions_after effect x.definitions) space_after (record x.space { lists = lists_after effect x.space.lists }) w.count w.count w.free w.free layout held (definitions ∙ shows.kept.definitions) places refl refl;
        holds = λ again. rewritten.bytes l x.space shape slot h new sheets x.pages w given (shows.holds told);
      };
      comes = λ again. becomes.says on ∙ ap (λ (cat : Catalogue). Ok (out, cat)) (sym catalogue_is);
    }

  pub rewritten_carried : (effect : Effect) → definitions_after effect x.definitions ≡ x.definitions → lists_after effect x.space.lists ≡ space_after.lists → CanApply effect x.definitions → is_nothing effect ≡ false → is_writing command ≡ true
      → w.faults ≡ x.pages.faults → Grows 1 x.pages w → (said : List ℕ) → said ≡ out → CarriedOut tells command (Ok effect) said x w
  rewritten_carried effect definitions places applies some writes no_fault grows said is = record {
    keeps = λ rules.
        kept_same x.definitions (definitions_after effect x.definitions) space_after (record x.space { lists = lists_after effect x.space.lists }) w.free w.free w.count w.count
        (rules_after x kept slot within h rewrites.shelf.columns shape rewrites.shelf.lies key rewrites.shelf.named new w rewrites.moved count rewrites.pays) definitions places refl refl;
    done = λ told l shows. subst (λ (text : List ℕ). Comes tells command effect text x w l) (sym is) (comes_with told l shows effect definitions places);
    applies = applies;
    reads = λ reads. absurd (cc);
    stays = λ none. absurd (cc);
    stopped = tt;
    count = count;
    grows = grows_one command x.pages w grows;
    no_fault = no_fault;
  }
