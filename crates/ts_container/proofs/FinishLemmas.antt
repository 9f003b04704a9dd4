-- What is finished of the element pages: a layout that keeps the rules, or the first bad page.
use Rattle.std.specs.Prelude.{All, IsPermutation}
use Rattle.std.proofs.Common.{◌≡◌, ℕ, suc, ◌+◌, ◌-◌, ◌*◌, ◌<◌, ◌≤◌, ◌==◌, if◌then◌else◌, true, false, [], ◌∷◌, lit≤, length-append, Bool, List, length, refl, sym, ap, subst, ◌∙◌, arith, inl, inr}
use Rattle.std.proofs.lemmas.List.Sorted.{length_permutation, sum_by-IsPermutation}
use Rattle.ts_space.specs.declared.place.Place.{Place}
use Rattle.ts_space.specs.Place.{count_of, IsRising}
use Rattle.ts_space.specs.Directory.{Directory}
use Rattle.ts_row.specs.declared.kind.Column.{Column}
use Rattle.ts_page.specs.Pages.{first_element_page}
use Rattle.ts_offset.specs.declared.shape.Shape.{Shape}
use Rattle.ts_offset.specs.declared.shape.Shape.TheVariants.{Irregular, Regular}
use Rattle.ts_model.specs.Definitions.{Definitions}
use Rattle.ts_layout.specs.Meaning.{ElementPage, Free, Cells, elements_on, elements_of, sheets_on, sheets_of, HoldsElements, AreSound, IsSound}
use Rattle.ts_layout.specs.Sheets.{room_of}
use Rattle.ts_layout.specs.Surveyed.{ListsPlaces, places_from}
use Rattle.ts_layout.specs.Charges.{AreCountable, KeepQuotas}
use Rattle.ts_layout.specs.Chains.{AreFilled}
use Rattle.ts_layout.specs.Placed.{AreKept}
use Rattle.ts_layout.proofs.CallerLemmas.{within_list, kept_in, AreCounted, count_places, many_places, sheet_counted, fill_of, quotas_kept}
use Rattle.ts_volume.specs.FirstBad.{IsLeast}
use Rattle.ts_container.specs.declared.span.Span.{Span}
use Rattle.ts_container.specs.Spans.{spans_from, places_in, AreSorted, AreDifferent, AreApart, AreDense, IsSpan, Lists, IsClash, IsThin, IsOverQuota}
use Rattle.ts_container.specs.Elements.{AreListed}
use Rattle.ts_container.specs.Survey.{IsSurveyOf, IsFirstLate}
use Rattle.ts_container.proofs.SpanLemmas.{rising_in}
use Rattle.ts_container.proofs.SeenLemmas.{AllHeld}
use Rattle.ts_container.proofs.SortedLemmas.{places_listed, ends_found, in_sequence}
use Rattle.ts_container.proofs.ClashLemmas.{none_clash}
use Rattle.ts_container.proofs.ThinLemmas.{none_thin}
use Rattle.ts_container.proofs.LateLemmas.{different_sorted, least_overlap, no_overlap, least_sparse, no_sparse, over_quota}

-- the spans of the pages that were read, in the order of a sort
abbrev pub IsSortOf : List Span → List Span → Type 0
IsSortOf spans sorted = IsPermutation spans sorted × AreSorted sorted

all_moved : (d : Definitions) (spans sorted : List Span) (es : List ElementPage) → spans ≡ spans_from d first_element_page es → IsPermutation spans sorted → IsPermutation (spans_from d first_element_page es) sorted
all_moved d spans sorted es found moved = subst (λ (l : List Span). IsPermutation l sorted) found moved

-- a page has at most so many elements
few_room : (shape : Shape) (columns : List Column) → room_of shape columns ≤ 4064
few_room Irregular columns = omega arith
few_room (Regular grid) columns = omega arith

few_on : (d : Definitions) (slot : ℕ) (bytes : List ℕ) (e : ElementPage) → HoldsElements d bytes e → (length (elements_on slot e) ≤ 4064) × (length (sheets_on slot e) ≤ 1)
few_on d slot bytes Free holds = (lit≤ tt, lit≤ tt)
few_on d slot bytes (Cells s one) holds = of_test (s == slot) where
  of_test : (b : Bool) → (length (if b then one.1 else []) ≤ 4064) × (length (if b then one ∷ [] else []) ≤ 1)
  of_test true =
      let room = few_room holds.shape holds.heading.columns in
      let fits = (sheet_counted holds.shape holds.heading.columns one (fill_of holds.shape s holds.heading.columns one bytes holds.bytes)).1 in
      (omega (arith, room, fits), lit≤ tt)
  of_test false = (lit≤ tt, lit≤ tt)

few_of : (d : Definitions) (slot : ℕ) (es : List ElementPage) → AllHeld d es → (length (elements_of slot es) ≤ 4064 * length es) × (length (sheets_of slot es) ≤ length es)
few_of d slot [] held = (lit≤ tt, lit≤ tt)
few_of d slot (e ∷ es) held =
    let here = held 0 (omega arith) in
    let one = few_on d slot here.0 e here.1 in
    let rest = few_of d slot es (λ j within. held (suc j) (omega (arith, within))) in
    (omega (arith, one.0, rest.0, length-append (elements_on slot e) (elements_of slot es)), omega (arith, one.1, rest.1, length-append (sheets_on slot e) (sheets_of slot es)))

-- what was found of so many pages, in the order of a sort
module _ (count : ℕ) (d : Definitions) (spans sorted : List Span) (spare : List ℕ) (es : List ElementPage) (read : AreListed (count - first_element_page) d spans spare es) (moved : IsSortOf spans sorted) where
  moved_all : IsPermutation (spans_from d first_element_page es) sorted
  moved_all = all_moved d spans sorted es read.listed.found moved.0

  pub ends_read : All IsSpan sorted
  unfolding moved_all
  ends_read = ends_found d es sorted read.held moved_all moved.1

  pub different_read : AreDifferent sorted
  unfolding moved_all
  different_read = different_sorted d es sorted moved_all

  -- the places count the elements and the sheets
  counted : (space : Directory) → Lists sorted space → (slot : ℕ) → slot < 4096 → AreCounted space es slot
  unfolding moved_all
  counted space lists slot within =
      let all = places_listed d slot es sorted moved_all in
      let is = lists.places slot within in
      record {
        elements = ap count_of is ∙ sym (sum_by-IsPermutation (λ (p : Place). p.count) (places_in slot sorted) (places_from slot first_element_page es) all) ∙ count_places slot first_element_page es;
        pages = ap (λ (ps : List Place). length ps) is ∙ sym (length_permutation (places_in slot sorted) (places_from slot first_element_page es) all) ∙ many_places slot first_element_page es;
      }

  -- so they can be counted
  pub countable : (space : Directory) → count ≤ 66466 → Lists sorted space → AreCountable space
  unfolding counted
  countable space high lists slot within =
      let same = counted space lists slot within in
      let few = few_of d slot es read.held in
      omega (arith, same.elements, same.pages, few.0, few.1, read.size, high)

  -- each page that was read is filled
  filled_read : AreFilled (record { definitions = d; element_pages = es })
  filled_read i slot sheet is =
      let one = read.held i (within_list es i slot sheet is) in
      let here = subst (HoldsElements d one.0) is one.1 in
      record {
        heading = here.heading;
        shape = here.shape;
        columns = here.columns;
        lies = here.lies;
        fill = fill_of here.shape slot here.heading.columns sheet one.0 here.bytes;
        of_format = here.of_format;
      }

  -- the places of each series, in order
  places_read : (space : Directory) → AreApart sorted → Lists sorted space → ListsPlaces space (record { definitions = d; element_pages = es })
  unfolding moved_all ends_read
  places_read space apart lists slot within =
      let all = places_listed d slot es sorted moved_all in
      let is = lists.places slot within in
      record {
        rising = subst IsRising (sym is) (rising_in slot sorted moved.1 ends_read apart);
        all = subst (λ (ps : List Place). IsPermutation ps (places_from slot first_element_page es)) (sym is) all;
      }

  -- the layout that was read keeps the rules
  pub finished_sound : (space : Directory) → 931 ≤ count → count ≤ 66466 → AreSound (count - first_element_page) d → AreApart sorted → AreDense d sorted → Lists sorted space → KeepQuotas d space → IsSound (record { definitions = d; element_pages = es })
  unfolding moved_all counted
  finished_sound space low high sound apart dense lists kept = record {
    some = omega (arith, read.size, low);
    most = omega (arith, read.size, high);
    definitions = subst (λ (n : ℕ). AreSound n d) (sym read.size) sound;
    sequences = λ slot h shape there lies. in_sequence d es sorted read.held moved_all moved.1 apart dense slot h shape there lies;
    charges = quotas_kept d space es sound.tables (counted space lists) kept;
  }

  pub finished_survey : (space : Directory) → AreApart sorted → Lists sorted space → IsSurveyOf d space spare (record { definitions = d; element_pages = es })
  unfolding filled_read places_read
  finished_survey space apart lists = record { definitions = refl; places = places_read space apart lists; free = read.listed.spare; filled = filled_read }

  pub finished_kept : (space : Directory) → 931 ≤ count → count ≤ 66466 → AreSound (count - first_element_page) d → AreApart sorted → AreDense d sorted → Lists sorted space → KeepQuotas d space → AreKept d space spare count
  unfolding finished_sound filled_read places_read
  finished_kept space low high sound apart dense lists kept =
      let size : count ≡ first_element_page + length es = omega (arith, read.size, low) in
      kept_in (record { definitions = d; element_pages = es }) space spare count (finished_sound space low high sound apart dense lists kept) filled_read (places_read space apart lists) lists.slots read.listed.spare size

  -- or the first bad page of the last steps
  pub late_overlap : (page : ℕ) → IsLeast (IsClash sorted) page → IsFirstLate (record { definitions = d; element_pages = es }) page
  unfolding moved_all ends_read
  late_overlap page least = inl (least_overlap d es sorted read.held moved_all moved.1 ends_read page least)

  pub late_sparse : (page : ℕ) → AreApart sorted → IsLeast (IsThin d sorted) page → IsFirstLate (record { definitions = d; element_pages = es }) page
  unfolding moved_all ends_read
  late_sparse page apart least = inr (
    no_overlap d es sorted read.held moved_all moved.1 ends_read (none_clash sorted moved.1 ends_read apart),
    inl (least_sparse d es sorted read.held moved_all moved.1 ends_read apart page least),
  )

  pub late_charge : (space : Directory) → AreSound (count - first_element_page) d → AreApart sorted → AreDense d sorted → Lists sorted space → IsOverQuota d space → IsFirstLate (record { definitions = d; element_pages = es }) 833
  unfolding moved_all ends_read counted
  late_charge space sound apart dense lists over = inr (
    no_overlap d es sorted read.held moved_all moved.1 ends_read (none_clash sorted moved.1 ends_read apart),
    inr (
      no_sparse d es sorted read.held moved_all moved.1 ends_read apart (none_thin d sorted dense),
      inl (over_quota d space es sound.tables (counted space lists) over),
    ),
  )
