-- What was read of a grid in one call and in the next.
use Rattle.std.proofs.Common.{◌≡◌, ℕ, ◌<◌, ◌≤◌, All, Bool, true, false, Result, Ok, Err, List, [], ◌∷◌, length, refl, sym, ap, subst, arith}
use Rattle.std.specs.Prelude.{if◌then◌else◌, nat_lt}
use Rattle.std.proofs.lemmas.Bool.Decides.{nat_tests}
use Rattle.ts_base.specs.declared.refusal.Refusal.{Refusal}
use Rattle.ts_base.specs.declared.refusal.Refusal.TheVariants.{TooLarge}
use Rattle.ts_page.specs.Pages.{Contents, EqualPages}
use Rattle.ts_space.specs.declared.place.Place.{Place}
use Rattle.ts_row.specs.declared.kind.Column.{Column}
use Rattle.ts_row.specs.Row.{Element}
use Rattle.ts_calendar.specs.Calendars.{IsLaid}
use Rattle.ts_offset.specs.Grid.{GridPlan}
use Rattle.ts_offset.specs.declared.shape.Shape.TheVariants.{Regular}
use Rattle.ts_regular.specs.Places.{OffsetPage, ArePlaces, AreOn, CanBeRead, IsOn, IsPlace, all_in}
use Rattle.ts_entry.specs.Entry.{Entry, AreTaken, reading}
use Rattle.ts_base.specs.Answer.{most_rows, within_rows}
use Rattle.ts_clip.specs.Call.{IsRead}
use Rattle.ts_clip.specs.Series.{HaveCells}
use Rattle.ts_clip.proofs.GridReadingLemmas.{IsReading, own_reading}

-- places that can be read, also once some of them were
pub readable : (columns : List Column) (c : Contents) (places : List Place) → ArePlaces columns c places → All (CanBeRead c) places
readable columns c places are k d within = let one : IsPlace columns c _ = are.each k d within in one.readable

pub readable_kept : (v w : Contents) (places : List Place) → w.count ≡ v.count → All (CanBeRead v) places → All (CanBeRead w) places
readable_kept v w places count each k d within =
    let one : CanBeRead v _ = each k d within in
    let below = one.below in
    record { element = one.element; below = omega (arith, below, count) }

-- pages with cells keep them
on_kept : (slot : ℕ) (columns : List Column) (u w : ℕ → List ℕ) (places : List Place) (ps : List OffsetPage) → EqualPages u w → AreOn slot columns u places ps → AreOn slot columns w places ps
on_kept slot columns u w [] [] same on = tt
on_kept slot columns u w [] (p ∷ ps) same on = absurd on
on_kept slot columns u w (q ∷ places) [] same on = absurd on
on_kept slot columns u w (q ∷ places) (p ∷ ps) same on = (subst (λ (b : List ℕ). IsOn slot columns b q p) (sym (same q.page)) on.0, on_kept slot columns u w places ps same on.1)

pub cells_kept : (grid : GridPlan) (slot : ℕ) (columns : List Column) (u w : ℕ → List ℕ) (places : List Place) (es : List Element) → EqualPages u w → HaveCells grid slot columns u places es → HaveCells grid slot columns w places es
cells_kept grid slot columns u w places es same have = record { cells = have.cells; on = on_kept slot columns u w places have.cells same have.on; starts = have.starts; all = have.all }

-- what is read of them
pub reading_of : (grid : GridPlan) → IsLaid grid.calendar → (slot : ℕ) (columns : List Column) (pages : ℕ → List ℕ) (places : List Place) (es : List Element) → HaveCells grid slot columns pages places es → IsReading grid es (length (reading (Regular grid) es))
reading_of grid laid slot columns pages places es have = subst (λ (l : List Element). IsReading grid l (length (reading (Regular grid) l))) have.all (own_reading grid laid (all_in have.cells) have.starts)

-- rows are taken where they are few enough, and else refused
either : {A : Type 0} (b : Bool) (x y : A) → b ≡ true → (if b then x else y) ≡ x
either true x y is = refl
either false x y is = absurd (cc)

neither : {A : Type 0} (b : Bool) (x y : A) → b ≡ false → (if b then x else y) ≡ y
neither true x y is = absurd (cc)
neither false x y is = refl

pub read_taken : (took : List Entry → Type 0) (rows : List Entry) (count : ℕ) → length rows ≤ most_rows → AreTaken took rows count → IsRead took (within_rows rows) (Ok count)
read_taken took rows count few taken =
    subst (λ (r : Result (List Entry) Refusal). IsRead took r (Ok count)) (sym (neither (nat_lt most_rows (length rows)) (Err (TooLarge (length rows))) (Ok rows) (few_enough (length rows) few))) taken
  where
    few_enough : (n : ℕ) → n ≤ most_rows → nat_lt most_rows n ≡ false
    few_enough n few = grind (arith, nat_tests)

pub read_refused : (took : List Entry → Type 0) (rows : List Entry) (count : ℕ) → most_rows < length rows → count ≡ length rows → took [] → IsRead took (within_rows rows) (Err (TooLarge count))
read_refused took rows count many is none =
    subst (λ (r : Result (List Entry) Refusal). IsRead took r (Err (TooLarge count))) (sym (either (nat_lt most_rows (length rows)) (Err (TooLarge (length rows))) (Ok rows) (too_many (length rows) many)))
    (ap TooLarge is, none)
  where
    too_many : (n : ℕ) → most_rows < n → nat_lt most_rows n ≡ true
    too_many n many = grind (arith, nat_tests)
