-- The elements of a regular series stand at on starts of its grid.
use Rattle.std.specs.Prelude.{All}
use Rattle.std.proofs.Common.{◌≡◌, ℕ, ℤ, Some, List, [], ◌∷◌, sym, subst, ◌∙◌}
use Rattle.std.proofs.lemmas.List.Elements.{All-nil, All-append, All-head, All-tail}
use Rattle.std.specs.FinMap.{get}
use Rattle.ts_row.specs.Row.{Row, Element}
use Rattle.ts_regular.specs.RegularPage.{elements_from}
use Rattle.ts_offset.specs.Grid.{GridPlan, stamp_of}
use Rattle.ts_offset.specs.declared.shape.Shape.{Shape}
use Rattle.ts_offset.specs.declared.shape.Shape.TheVariants.{Regular}
use Rattle.ts_layout.specs.Sheets.{Sheet, FillSheet, elements_in}
use Rattle.ts_layout.specs.Meaning.{Layout, elements_of, elements_at, sheets_of, shape_at}
use Rattle.ts_layout.specs.Chains.{AreFilled}
use Rattle.ts_layout.proofs.MemberLemmas.{all_among}
use Rattle.ts_layout.proofs.OptionLemmas.{one_of}
use Rattle.ts_layout.proofs.PairLemmas.{sheets_all, sheets_each}
use Rattle.ts_layout.proofs.SheetLemmas.{IsOnStart, stamped_each}
use Rattle.ts_layout.proofs.StampLemmas.{found_among, map_found}

-- what holds of the elements of each sheet
each_in : (P : Element → Type 0) (sheets : List Sheet) → All (λ sheet. All P sheet.1) sheets → All P (elements_in sheets)
each_in P [] each = All-nil P
each_in P (sheet ∷ sheets) each =
    let Q : Sheet → Type 0 = λ sheet. All P sheet.1 in
    All-append P sheet.1 (elements_in sheets) (All-head Q sheet sheets each) (each_in P sheets (All-tail Q sheet sheets each))

-- those of a page are those of its cells, each at the on start of its offset
abbrev AreOnStarts : GridPlan → Sheet → Type 0
AreOnStarts grid sheet = All (IsOnStart grid) sheet.1

pub starts_each : (l : Layout) (slot : ℕ) (grid : GridPlan) → AreFilled l → shape_at l.definitions slot ≡ Some (Regular grid) → All (IsOnStart grid) (elements_of slot l.element_pages)
starts_each l slot grid filled lies =
    subst (All (IsOnStart grid)) (sym (sheets_all slot l.element_pages))
    (each_in (IsOnStart grid) (sheets_of slot l.element_pages) (sheets_each (AreOnStarts grid) slot l.element_pages (λ i sheet is.
    let fill = filled i slot sheet is in
    let own = subst (λ (x : Shape). FillSheet x fill.heading.columns sheet) (one_of (shape_at l.definitions slot) fill.shape (Regular grid) fill.lies lies) fill.fill in
    subst (All (IsOnStart grid)) (sym own.on.elements) (stamped_each grid (elements_from own.base own.cells) own.on.starts))))

pub on_its_grid : (l : Layout) (slot : ℕ) (grid : GridPlan) → AreFilled l → shape_at l.definitions slot ≡ Some (Regular grid) → (stamp : ℤ) (row : Row) → get (elements_at slot l.element_pages) stamp ≡ Some row → (n : ℕ) × (stamp_of grid n ≡ Some stamp)
on_its_grid l slot grid filled lies stamp row is =
    all_among (IsOnStart grid) (elements_of slot l.element_pages) (stamp, row) (starts_each l slot grid filled lies)
    (found_among stamp row (elements_of slot l.element_pages) (sym (map_found stamp (elements_of slot l.element_pages)) ∙ is))
