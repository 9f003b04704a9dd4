-- Cells one behind the other in two parts, and how far their elements stand before an end.
use Rattle.std.proofs.Common.{◌≡◌, ℕ, zero, suc, ◌+◌, ◌-◌, ◌*◌, ◌<◌, ◌≤◌, ℤ, ◌<ℤ◌, Bool, true, false, not, Option, Some, None, List, [], ◌∷◌, length, map, take, take-take, drop, drop-drop, refl, inl, inr, sym, ap, subst, ◌∙◌, arith}
use Rattle.std.specs.Prelude.{IfSome, int_lt, nat_le, slice_index, slice_get}
use Rattle.std.specs.Int.{w64, cast_signed, from_be_bytes}
use Rattle.std.proofs.lemmas.Int.{ints}
use Rattle.std.proofs.lemmas.Bool.Decides.{nat_tests}
use Rattle.std.specs.Borrow.{Bor}
use Rattle.std.proofs.lemmas.List.{take_all, drop_all, drop-take}
use Rattle.std.proofs.lemmas.Bool.{cases_lt}
use Rattle.std.proofs.lemmas.Option.{same_Some}
use Rattle.ts_sheets.proofs.StartLemmas.{stamps_rise}
use Rattle.std.proofs.Math.Nat.{suc-mul, mul_comm}
use Rattle.ts_base.specs.Moment.{IsStamp}
use Rattle.ts_row.specs.declared.kind.Column.{Column}
use Rattle.ts_row.specs.Row.{width_of, Element}
use Rattle.ts_cells.specs.IrregularPage.{stamp_bytes}
use Rattle.ts_calendar.specs.Calendars.{IsBefore, IsLaid}
use Rattle.ts_calendar.proofs.StampLemmas.{int_lt-true}
use Rattle.ts_offset.specs.Grid.{GridPlan, stamp_of, starts_before}
use Rattle.ts_clip.proofs.GridOffsetLemmas.{lower_side}
use Rattle.ts_entry.specs.declared.stamps.Stamps.{Stamps}
use Rattle.ts_entry.specs.declared.stamps.Stamps.TheVariants.{InCells, OnGrid}
use Rattle.ts_entry.specs.Rows.{IsCellWith, AreCellsWith, AreStamped, elements_in, row_if_any}
use Rattle.ts_entry.proofs.CallerLemmas.{units_are}
use Rattle.ts_aggregate.specs.Groups.{AreBefore, AreOrdered, IsFirstBefore, HasBefore, IsAhead}

-- so many cells have no more bytes than all of them
pub some_fit : (n left size len : ℕ) → n ≤ left → len ≡ left * size → n * size ≤ len
some_fit zero left size len within whole = omega arith
some_fit (suc n) zero size len within whole = absurd (omega (arith, within))
some_fit (suc n) (suc left) size len within whole =
    let rest : n * size ≤ left * size = some_fit n left size (left * size) (omega (arith, within)) refl in
    omega (arith, rest, whole, suc-mul n size, suc-mul left size)

-- and there is room for one more
pub more_fit : (n left size len : ℕ) → n < left → len ≡ left * size → n * size + size ≤ len
more_fit n left size len below whole =
    let all : suc n * size ≤ len = some_fit (suc n) left size len (omega (arith, below)) whole in
    omega (arith, all, suc-mul n size)

-- the stamp of a cell stands within it
pub stamp_part : (size : ℕ) (bytes : List ℕ) → 9 ≤ size → take 8 (drop 1 (take size bytes)) ≡ take 8 (drop 1 bytes)
stamp_part size bytes wide =
    let parts : size ≡ 1 + (size - 1) = omega (arith, wide) in
    ap (λ (n : ℕ). take 8 (drop 1 (take n bytes))) parts ∙ ap (take 8) (drop-take 1 (size - 1) bytes)
    ∙ take-take 8 (size - 1) (drop 1 bytes) (omega (arith, wide))

-- the first of some cells, and those behind them
module _ (cs : List Column) (front : ℕ) where
  pub cells_front : (n m : ℕ) (cells : List ℕ) (fs : List (Option Element)) → m ≡ n * (front + width_of cs)
      → AreCellsWith cs front cells (map row_if_any fs) → AreCellsWith cs front (take m cells) (map row_if_any (take n fs))
  cells_front zero m cells fs is are =
      let none : m ≡ 0 = omega (arith, is) in
      ap (λ (k : ℕ). take k cells) none
  cells_front (suc n) m cells [] is are = ap (take m) are ∙ take_all m [] (omega arith)
  cells_front (suc n) m cells (f ∷ fs) is are =
      let size : ℕ = front + width_of cs in
      let more : m ≡ size + n * size = omega (arith, is, suc-mul n size) in (
        subst (λ (l : List ℕ). IsCellWith cs front l (row_if_any f)) (sym (take-take size m cells (omega (arith, more)))) are.0,
        subst (λ (l : List ℕ). AreCellsWith cs front l (map row_if_any (take n fs)))
            (sym (ap (λ (k : ℕ). drop size (take k cells)) more ∙ drop-take size (n * size) cells))
            (cells_front n (n * size) (drop size cells) fs refl are.1),
      )

  pub cells_behind : (n m : ℕ) (cells : List ℕ) (fs : List (Option Element)) → m ≡ n * (front + width_of cs)
      → AreCellsWith cs front cells (map row_if_any fs) → AreCellsWith cs front (drop m cells) (map row_if_any (drop n fs))
  cells_behind zero m cells fs is are =
      let none : 0 ≡ m = omega (arith, is) in
      subst (λ (k : ℕ). AreCellsWith cs front (drop k cells) (map row_if_any fs)) none are
  cells_behind (suc n) m cells [] is are = ap (drop m) are ∙ drop_all m [] (omega arith)
  cells_behind (suc n) m cells (f ∷ fs) is are =
      let size : ℕ = front + width_of cs in
      let more : size + n * size ≡ m = omega (arith, is, suc-mul n size) in
      subst (λ (l : List ℕ). AreCellsWith cs front l (map row_if_any (drop n fs)))
      (drop-drop (n * size) size cells ∙ ap (λ (k : ℕ). drop k cells) more)
      (cells_behind n (n * size) (drop size cells) fs refl are.1)

-- the stamps of those behind
pub stamped_behind : (stamps : Stamps) (size n m number : ℕ) (cells : List ℕ) (fs : List (Option Element)) → m ≡ n * size
    → AreStamped stamps size number cells fs → AreStamped stamps size (number + n) (drop m cells) (drop n fs)
stamped_behind stamps size zero m number cells fs is are =
    let none : 0 ≡ m = omega (arith, is) in
    let same : number ≡ number + 0 = omega arith in
    subst (λ (k : ℕ). AreStamped stamps size (number + 0) (drop k cells) fs) none
    (subst (λ (k : ℕ). AreStamped stamps size k cells fs) same are)
stamped_behind stamps size (suc n) m number cells [] is are = tt
stamped_behind stamps size (suc n) m number cells (f ∷ fs) is are =
    let more : size + n * size ≡ m = omega (arith, is, suc-mul n size) in
    let same : number + 1 + n ≡ number + suc n = omega arith in
    subst (λ (l : List ℕ). AreStamped stamps size (number + suc n) l (drop n fs))
    (drop-drop (n * size) size cells ∙ ap (λ (k : ℕ). drop k cells) more)
    (subst (λ (k : ℕ). AreStamped stamps size k (drop (n * size) (drop size cells)) (drop n fs)) same
    (stamped_behind stamps size n (n * size) (number + 1) (drop size cells) fs refl are.1))

not_false : (b : Bool) → not b ≡ false → b ≡ true
not_false true is = refl
not_false false is = sym is

-- the start of an offset that is less than how many starts come before an end
pub start_before : (grid : GridPlan) → IsLaid grid.calendar → (end : ℤ) (behind : ℕ) → behind ≡ starts_before grid end → (i : ℕ) (s : ℤ)
    → i < behind → stamp_of grid i ≡ Some s → s <ℤ end
start_before grid laid end behind is i s low at =
    let side = lower_side grid laid end behind is i s at in
    let under : nat_le behind i ≡ false = grind (arith, nat_tests) in
    int_lt-true s end (not_false (int_lt s end) (sym side ∙ under))

-- that of one which isn't greater than another whose start comes before it
pub up_to_last : (grid : GridPlan) → IsLaid grid.calendar → (end : ℤ) (n : ℕ) (t : ℤ) → stamp_of grid n ≡ Some t → t <ℤ end → (i : ℕ) (s : ℤ)
    → i ≤ n → stamp_of grid i ≡ Some s → s <ℤ end
up_to_last grid laid end n t own less i s le is = elim (cases_lt i n) [
  | inl below ↦ let up = stamps_rise grid laid i n s t below is own in omega (arith, ints, up, less)
  | inr above ↦
      let same : i ≡ n = omega (arith, le, above) in
      subst (λ (z : ℤ). z <ℤ end) (same_Some t s (sym own ∙ ap (stamp_of grid) (sym same) ∙ is)) less
]

-- the first of what is left behind some, and the second
pub first_left : (xs : List ℤ) (n : ℕ) → slice_get (drop n xs) 0 ≡ slice_get xs n
first_left [] zero = refl
first_left [] (suc n) = refl
first_left (x ∷ xs) zero = refl
first_left (x ∷ xs) (suc n) = first_left xs n

pub second_left : (xs : List ℤ) (n : ℕ) → slice_get (drop 1 (drop n xs)) 0 ≡ slice_get xs (suc n)
second_left [] zero = refl
second_left [] (suc n) = refl
second_left (x ∷ xs) zero = first_left xs 0
second_left (x ∷ xs) (suc n) = second_left xs n

-- a stamp that is known on a grid is that of its cell
pub ahead_on : (grid : Bor GridPlan) (first number count : ℕ) (next : Option ℤ) → IfSome next (λ s. stamp_of grid.now (first + number + count) ≡ Some s)
    → IsAhead (OnGrid grid first) (number + count) next
ahead_on grid first number count None at = tt
ahead_on grid first number count (Some s) at = λ cell t has.
    let same : first + (number + count) ≡ first + number + count = omega arith in
    same_Some t s (sym has.1 ∙ ap (stamp_of grid.now) same ∙ at)

-- no end is there
pub none_behind : (es : List Element) → AreBefore None es
none_behind [] = tt
none_behind (e ∷ es) = (tt, none_behind es)

-- the element of a cell before those of others
cons_before : (end : Option ℤ) (f : Option Element) (fs : List (Option Element)) → IfSome f (λ e. IsBefore e.0 end)
    → AreBefore end (elements_in fs) → AreBefore end (elements_in (f ∷ fs))
cons_before end None fs first rest = rest
cons_before end (Some e) fs first rest = (first, rest)

uncons_before : (end : Option ℤ) (f : Option Element) (fs : List (Option Element)) → AreBefore end (elements_in (f ∷ fs))
    → IfSome f (λ e. IsBefore e.0 end) × AreBefore end (elements_in fs)
uncons_before end None fs all = (tt, all)
uncons_before end (Some e) fs all = (all.0, all.1)

pub first_before : (end : Option ℤ) (fs : List (Option Element)) → IsFirstBefore end fs → AreBefore end (elements_in (take 1 fs))
first_before end [] first = tt
first_before end (f ∷ fs) first = cons_before end f [] first tt

-- the units of a cell's stamp are the stamp
units_of : (s : ℤ) → IsStamp s → (size : ℕ) → 9 ≤ size → (cells : List ℕ) → take 8 (drop 1 (take size cells)) ≡ stamp_bytes s
    → cast_signed w64 (from_be_bytes w64 (take 8 (drop 1 cells))) ≡ s
units_of s stamp size wide cells is =
    units_are cells (cast_signed w64 (from_be_bytes w64 (take 8 (drop 1 cells)))) s 1 refl stamp (sym (stamp_part size cells wide) ∙ is) refl

-- no element stands in a cell that says so
not_there : (size : ℕ) (cells : List ℕ) → 9 ≤ size → slice_get (take size cells) 0 ≡ Some 0 → slice_index cells 0 ≡ 1 → ⊥
not_there zero cells wide none there = omega (arith, wide)
not_there (suc n) [] wide none there = cc
not_there (suc n) (b ∷ cells) wide none there = let zero_ : b ≡ 0 = cc in let one : b ≡ 1 = there in omega (arith, zero_, one)

-- elements that rise, of which the last stands before an end
record AreUpTo (end : ℤ) (es : List Element) : Type 0 where
  some : 1 ≤ length es
  before : AreBefore (Some end) es

up_to_more : (end : ℤ) (e : Element) (es : List Element) → AreOrdered (e ∷ es) → AreUpTo end es → AreUpTo end (e ∷ es)
up_to_more end e [] ordered are = absurd (omega (arith, are.some))
up_to_more end e (f ∷ es) ordered are =
    let next = ordered.1.0 in
    let below = are.before.0 in
    record { some = omega arith; before = (omega (arith, ints, next, below), are.before) }

module _ (cs : List Column) (front size : ℕ) (end : ℤ) (size_is : size ≡ front + width_of cs) (wide : 9 ≤ size) where
  -- so do those before one that does
  up_to : (n m number : ℕ) (cells : List ℕ) (fs : List (Option Element)) → m ≡ n * size → HasBefore end (drop m cells)
      → AreCellsWith cs front cells (map row_if_any fs) → AreStamped InCells size number cells fs
      → AreOrdered (elements_in (take (suc n) fs)) → AreUpTo end (elements_in (take (suc n) fs))
  up_to n m number cells [] is has are stamped ordered =
      let gone : slice_index (drop m cells) 0 ≡ slice_index [] 0 = ap (λ (l : List ℕ). slice_index l 0) (ap (drop m) are ∙ drop_all m [] (omega arith)) in
      absurd (let there : slice_index (drop m cells) 0 ≡ 1 = has.there in omega (arith, gone, there))
  up_to zero m number cells (f ∷ fs) is has are stamped ordered =
      by f (subst (λ (k : ℕ). IsCellWith cs front (take k cells) (row_if_any f)) (sym size_is) are.0) stamped.0 where
        here : drop m cells ≡ cells
        here = ap (λ (k : ℕ). drop k cells) (let none : m ≡ 0 = omega (arith, is) in none)

        by : (f : Option Element) → IsCellWith cs front (take size cells) (row_if_any f)
            → IfSome f (λ e. IsStamp e.0 × (take 8 (drop 1 (take size cells)) ≡ stamp_bytes e.0)) → AreUpTo end (elements_in (f ∷ []))
        by None cell there = absurd (not_there size cells wide cell (ap (λ (l : List ℕ). slice_index l 0) (sym here) ∙ has.there))
        by (Some e) cell there =
            let units = units_of e.0 there.0 size wide cells there.1 in
            let below = subst (λ (l : List ℕ). cast_signed w64 (from_be_bytes w64 (take 8 (drop 1 l))) <ℤ end) here has.before in
            record { some = omega arith; before = (subst (λ (s : ℤ). s <ℤ end) units below, tt) }
  up_to (suc n) m number cells (f ∷ fs) is has are stamped ordered = by f ordered
      (λ rises. up_to n (n * size) (number + 1) (drop size cells) fs refl
      (subst (λ (l : List ℕ). HasBefore end l) (ap (λ (k : ℕ). drop k cells) more ∙ sym (drop-drop (n * size) size cells)) has)
      (subst (λ (k : ℕ). AreCellsWith cs front (drop k cells) (map row_if_any fs)) (sym size_is) are.1) stamped.1 rises) where
        more : m ≡ size + n * size
        more = omega (arith, is, suc-mul n size)

        by : (f : Option Element) → AreOrdered (elements_in (f ∷ take (suc n) fs))
            → (AreOrdered (elements_in (take (suc n) fs)) → AreUpTo end (elements_in (take (suc n) fs)))
            → AreUpTo end (elements_in (f ∷ take (suc n) fs))
        by None rises rest = rest rises
        by (Some e) rises rest = up_to_more end e (elements_in (take (suc n) fs)) rises (rest rises.2)

-- so many cells, of which the last has an element before the end, or which are one
pub all_before : (end : ℤ) (cs : List Column) (front size n number : ℕ) (cells : List ℕ) (fs : List (Option Element)) → size ≡ front + width_of cs → 9 ≤ size
    → 1 ≤ n → (1 < n → HasBefore end (drop (size * (n - 1)) cells)) → AreCellsWith cs front cells (map row_if_any fs)
    → AreStamped InCells size number cells fs → IsFirstBefore (Some end) fs → AreOrdered (elements_in (take n fs)) → AreBefore (Some end) (elements_in (take n fs))
all_before end cs front size zero number cells fs is wide some has are stamped first ordered = absurd (omega (arith, some))
all_before end cs front size (suc zero) number cells fs is wide some has are stamped first ordered = first_before (Some end) fs first
all_before end cs front size (suc (suc n)) number cells fs is wide some has are stamped first ordered =
    let one : suc (suc n) - 1 ≡ suc n = omega arith in
    let there : HasBefore end (drop (size * suc n) cells) = subst (λ (k : ℕ). HasBefore end (drop (size * k) cells)) one (has (omega arith)) in
    (up_to cs front size end is wide (suc n) (size * suc n) number cells fs (mul_comm size (suc n)) there are stamped ordered).before

-- cells on a grid, by their offsets
module _ (grid : Bor GridPlan) (first size : ℕ) (end : ℤ) where
  all_from : (n number : ℕ) (cells : List ℕ) (fs : List (Option Element)) → AreStamped (OnGrid grid first) size number cells fs
      → ((k : ℕ) (s : ℤ) → IsLaid grid.now.calendar → k < n → stamp_of grid.now (first + (number + k)) ≡ Some s → s <ℤ end)
      → AreBefore (Some end) (elements_in (take n fs))
  all_from zero number cells fs are all = tt
  all_from (suc n) number cells [] are all = tt
  all_from (suc n) number cells (f ∷ fs) are all =
      cons_before (Some end) f (take n fs) (by f are.0) (all_from n (number + 1) (drop size cells) fs are.1
      (λ k s laid low is. all (suc k) s laid (omega (arith, low)) (subst (λ (m : ℕ). stamp_of grid.now m ≡ Some s) (one k) is)))
    where
      here : first + number ≡ first + (number + 0)
      here = omega arith

      one : (k : ℕ) → first + (number + 1 + k) ≡ first + (number + suc k)
      one k = omega arith

      by : (f : Option Element) → IfSome f (λ e. IsLaid grid.now.calendar × (stamp_of grid.now (first + number) ≡ Some e.0))
          → IfSome f (λ e. IsBefore e.0 (Some end))
      by None there = tt
      by (Some e) there = all 0 e.0 there.0 (omega arith) (subst (λ (m : ℕ). stamp_of grid.now m ≡ Some e.0) here there.1)

  pub offsets_all : (n number : ℕ) (cells : List ℕ) (fs : List (Option Element)) → AreStamped (OnGrid grid first) size number cells fs
      → IsFirstBefore (Some end) fs
      → ((k : ℕ) (s : ℤ) → IsLaid grid.now.calendar → 0 < k → k < n → stamp_of grid.now (first + number + k) ≡ Some s → s <ℤ end)
      → AreBefore (Some end) (elements_in (take n fs))
  offsets_all zero number cells fs are head all = tt
  offsets_all (suc n) number cells [] are head all = tt
  offsets_all (suc n) number cells (f ∷ fs) are head all =
      cons_before (Some end) f (take n fs) head (all_from n (number + 1) (drop size cells) fs are.1
      (λ k s laid low is. all (suc k) s laid (omega arith) (omega (arith, low)) (subst (λ (m : ℕ). stamp_of grid.now m ≡ Some s) (one k) is)))
    where
      one : (k : ℕ) → first + (number + 1 + k) ≡ first + number + suc k
      one k = omega arith
