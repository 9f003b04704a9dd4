-- Pages of which a step finds one bad are laid out as nothing.
use Rattle.std.specs.Prelude.{All}
use Rattle.std.proofs.Common.{◌≡◌, ℕ, ℤ, ◌+◌, ◌-◌, ◌<◌, ◌≤◌, Option, Some, None, List, length, refl, sym, ap, ◌∙◌, subst, arith, inl, inr}
use Rattle.std.specs.Option.{IfSome}
use Rattle.ts_row.specs.declared.kind.Column.{Column}
use Rattle.ts_page.specs.Pages.{first_element_page}
use Rattle.ts_offset.specs.declared.shape.Shape.{Shape}
use Rattle.ts_offset.specs.declared.shape.Shape.TheVariants.{Irregular, Regular}
use Rattle.ts_model.specs.Catalogue.{Catalogue}
use Rattle.ts_model.specs.Definitions.{Definitions, at_slot, def_at}
use Rattle.ts_layout.specs.Meaning.{IsSlotOf, Layout, Cells, element_page, sheets_of, shape_at, sum_of_quotas, IsOnCalendar, HoldsSeries, HoldsElements, IsLaidOut, Means}
use Rattle.ts_layout.specs.Sheets.{Sheet, HoldsSheet}
use Rattle.ts_layout.proofs.CallerLemmas.{one_of, within_list, sheets_each}
use Rattle.ts_journal.specs.Journal.{IsVolumeSize, page_count, records, pages}
use Rattle.ts_volume.specs.Volume.{MeansCatalogue, MeansNothing}
use Rattle.ts_volume.specs.FirstBad.{Step, Header, Slots, Names, Rules, Grants, Elements, Overlaps, Neighbours, Charges, Finds, IsBadDefinitionPage, AreSaid, IsUnresolved, IsInvalid, IsOvergranted, IsAstray, IsBadElementPage, IsOverlap, IsSparse, IsOvercharged, all_steps, IsFirstBad, IsFirstBadOf}
use Rattle.ts_volume.specs.FirstBadLaws.{BadPagesMeanNothing}
use Rattle.ts_volume.proofs.SaidLemmas.{element_count, own_format, own_header, said_apart, said_there, said_same, all_same}
use Rattle.ts_volume.proofs.PageOrderLemmas.{Begin, never_meet, never_sparse}
use Rattle.ts_volume.proofs.FirstBadLemmas.{found_by}

none_or_some : {A : Type 0} (o : Option A) (a : A) → o ≡ None → o ≡ Some a → ⊥
none_or_some o a none some = cc

begins : (shape : Shape) (slot : ℕ) (columns : List Column) (sheet : Sheet) (page : List ℕ) → HoldsSheet shape slot columns sheet page → Begin shape sheet
begins Irregular slot columns sheet page holds = holds.1
begins (Regular grid) slot columns sheet page holds = tt

module _ (count : ℕ) (pages : ℕ → List ℕ) (l : Layout) (laid : IsLaidOut count pages l) where
  good_slots : (number : ℕ) → IsBadDefinitionPage count pages number → ⊥
  good_slots number found =
      let format = own_format count pages l laid found.format found.header in
      found.bad (record {
        slots = λ kind slot within page. (
          def_at kind slot l.definitions,
          subst (λ (f : ℕ). IsSlotOf f kind (def_at kind slot l.definitions)) (sym format) (laid.rules.definitions.limits.each kind slot within),
          laid.bytes.definitions.slots kind slot within,
        );
        behind = laid.bytes.definitions.behind number found.low found.high;
      })

  good_names : (d : Definitions) (number : ℕ) → AreSaid count pages d → IsUnresolved d number → ⊥
  good_names d number said found = elim found.flaw [
    | inl repeats ↦
        let same = said_apart count pages l laid d said found.kind repeats.lower found.slot repeats.first repeats.second repeats.before repeats.there repeats.names in
        let below = repeats.below in
        absurd (omega (arith, same, below))
    | inr dangles ↦
        let there = said_there count pages l laid d said found.kind found.slot dangles.def dangles.there dangles.target dangles.at dangles.refers in
        none_or_some (def_at dangles.target dangles.at d) there.0 dangles.empty there.1
  ]

  good_rules : (number : ℕ) → IsInvalid l.definitions number → ⊥
  good_rules number found = found.breaks (laid.rules.definitions.valid found.slot found.c found.there)

  good_quotas : (number : ℕ) → IsOvergranted count l.definitions number → ⊥
  good_quotas number found =
      let most = laid.rules.definitions.quotas in
      let more = found.more in
      let size = element_count count pages l laid in
      absurd (omega (arith, most, more, size))

  good_origins : (number : ℕ) → IsAstray l.definitions number → ⊥
  good_origins number found =
      found.astray
      (subst (λ (o : Option (ℕ × ℤ)). IfSome o (IsOnCalendar l.definitions)) found.lies (laid.rules.definitions.origins found.slot found.s found.there) found.c found.calendar)

  good_elements : (number : ℕ) → IsBadElementPage count pages l.definitions number → ⊥
  good_elements number found =
      let low = found.low in
      let high = found.high in
      let size = laid.size in
      let at : first_element_page + (number - first_element_page) ≡ number = omega (arith, low) in
      let e = element_page (number - first_element_page) l.element_pages in
      found.bad e (subst (λ (n : ℕ). HoldsElements l.definitions (pages n) e) at (laid.bytes.elements (number - first_element_page) (omega (arith, low, high, size))))

  -- the page of a sheet of a series
  page_held : (i slot : ℕ) (sheet : Sheet) → element_page i l.element_pages ≡ Cells slot sheet → HoldsSeries l.definitions (pages (first_element_page + i)) slot sheet
  page_held i slot sheet here =
      subst (HoldsElements l.definitions (pages (first_element_page + i))) here (laid.bytes.elements i (within_list l.element_pages i slot sheet here))

  all_begin : (slot : ℕ) (shape : Shape) → shape_at l.definitions slot ≡ Some shape → All (Begin shape) (sheets_of slot l.element_pages)
  all_begin slot shape lies =
      sheets_each (Begin shape) slot l.element_pages (λ i sheet here.
      let held = page_held i slot sheet here in
      let same : held.shape ≡ shape = one_of (shape_at l.definitions slot) held.shape shape held.lies lies in
      begins shape slot held.heading.columns sheet (pages (first_element_page + i)) (subst (λ (x : Shape). HoldsSheet x slot held.heading.columns sheet (pages (first_element_page + i))) same held.bytes))

  good_overlaps : (number : ℕ) → IsOverlap l number → ⊥
  good_overlaps number found =
      let held = page_held found.lower found.slot found.a found.first in
      let sequence = laid.rules.sequences found.slot held.heading found.shape held.columns found.lies in
      never_meet found.shape held.heading.columns found.slot l.element_pages sequence.sheets sequence.is sequence.all (all_begin found.slot found.shape found.lies)
      found.lower found.upper found.a found.b found.first found.second found.below found.meet

  good_neighbours : (number : ℕ) → IsSparse l number → ⊥
  good_neighbours number found =
      let sequence = laid.rules.sequences found.slot found.heading Irregular found.columns found.lies in
      let more = never_sparse found.heading.columns found.slot l.element_pages sequence.sheets sequence.is sequence.all (all_begin found.slot Irregular found.lies) found.at found.a found.b found.there found.next in
      let fit = found.fit in
      absurd (omega (arith, more, fit))

  good_charges : (number : ℕ) → IsOvercharged l number → ⊥
  good_charges number found =
      let most = laid.rules.charges found.slot found.c found.heading found.there found.columns in
      let more = found.more in
      absurd (omega (arith, most, more))

  -- so no step finds a page bad
  pub none_found : (step : Step) (number : ℕ) → Finds count pages step number → ⊥
  none_found Header number found = found.1 l.definitions.format (own_header count pages l laid)
  none_found Slots number found = good_slots number found
  none_found Names number (d, said, found) = good_names d number said found
  none_found Rules number (d, said, found) = good_rules number (subst (λ (x : Definitions). IsInvalid x number) (said_same count pages l laid d said) found)
  none_found Grants number (d, said, inl found) = good_quotas number (subst (λ (x : Definitions). IsOvergranted count x number) (said_same count pages l laid d said) found)
  none_found Grants number (d, said, inr found) = good_origins number (subst (λ (x : Definitions). IsAstray x number) (said_same count pages l laid d said) found)
  none_found Elements number (d, said, found) = good_elements number (subst (λ (x : Definitions). IsBadElementPage count pages x number) (said_same count pages l laid d said) found)
  none_found Overlaps number (k, said, found) = good_overlaps number (subst (λ (x : Layout). IsOverlap x number) (all_same count pages l laid k said) found)
  none_found Neighbours number (k, said, found) = good_neighbours number (subst (λ (x : Layout). IsSparse x number) (all_same count pages l laid k said) found)
  none_found Charges number (k, said, found) = good_charges number (subst (λ (x : Layout). IsOvercharged x number) (all_same count pages l laid k said) found)

no_layout : (count : ℕ) (pages : ℕ → List ℕ) (page : ℕ) → IsFirstBad count pages page → (cat : Catalogue) → Means count pages cat → ⊥
no_layout count pages page first cat (l, laid, is) = let found = found_by (Finds count pages) all_steps page first in none_found count pages l laid found.0 page found.1

no_catalogue : (bytes : List ℕ) (page : ℕ) → IsFirstBadOf bytes page → MeansNothing bytes
no_catalogue bytes page (inl first) cat means = first.0 means.size
no_catalogue bytes page (inr (size, inl first)) cat means = none_or_some (records bytes) means.sound.0 first.0 means.sound.1
no_catalogue bytes page (inr (size, inr first)) cat means = no_layout (page_count (length bytes)) (pages bytes) page first.first cat means.pages

pub nothing_meant : BadPagesMeanNothing
nothing_meant = record { pages = no_layout; bytes = no_catalogue }
