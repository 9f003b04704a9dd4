-- Numbers of at most four bytes, gathered cell by cell.
use Rattle.std.proofs.Common.{◌≡◌, ℕ, ◌+◌, ◌-◌, ◌*◌, ◌<◌, ◌≤◌, ◌^◌, true, false, ℤ, ◌+ℤ◌, unsigned_abs, List, ◌∷◌, length, map, take, drop, IsTrue, refl, sym, subst, ap, ◌∙◌, arith}
use Rattle.std.specs.Int.{int_min, int_max}
use Rattle.std.proofs.lemmas.Int.{ints}
use Rattle.ts_aggregate.specs.declared.cells.Cells.{Cells}
use Rattle.ts_aggregate.specs.declared.totals.GatheredShort.{GatheredShort}
use Rattle.ts_aggregate.specs.declared.numbers.NumberSize.{NumberSize}
use Rattle.ts_aggregate.specs.declared.totals.Sought.{Sought}
use Rattle.ts_aggregate.specs.Column.{has_value, bytes_of, found_in, AreCells}
use Rattle.ts_aggregate.specs.Totals.{number_of_size, sized_numbers, gathered}
use Rattle.ts_aggregate.proofs.CellsLemmas.{one_less, first_of, seen, unseen}
use Rattle.ts_aggregate.proofs.TotalsLemmas.{SoFar, more_gathered}

-- of the numbers in cells so many were gathered, before the cells that are left
pub record AreGathered (size : NumberSize) (sought : Sought) (cells : Cells) (left : ℕ) (bytes : List ℕ) (count : ℕ) (g : GatheredShort) : Type 0 where
  pub whole : AreCells cells.position left bytes
  pub few : count + left ≤ cells.left
  pub room : unsigned_abs g.sum ≤ count * 2 ^ 31
  pub gathered : SoFar (2 ^ 63 - 1) (sized_numbers size cells) sought (gathered count g.sum g.least g.greatest)
      (map (number_of_size size) (found_in cells.position left bytes))

module _ (size : NumberSize) (sought : Sought) (cells : Cells) (left : ℕ) (bytes cell rest : List ℕ) (some : 0 < left) (front : cell ≡ take cells.position.size bytes)
    (back : rest ≡ drop cells.position.size bytes) (less : length rest + cells.position.size ≡ length bytes) (count : ℕ) (g : GatheredShort)
    (was : AreGathered size sought cells left bytes count g) where
  whole : AreCells cells.position (left - 1) rest
  whole = record {
    front = was.whole.front;
    place = was.whole.place;
    whole = one_less left cells.position.size (length bytes) (length rest) some was.whole.whole less;
  }

  -- one more number
  pub one_gathered : (h : GatheredShort) (z : ℤ) → has_value cells.position cell ≡ true → z ≡ number_of_size size (bytes_of cells.position cell)
      → unsigned_abs z ≤ 2 ^ 31 → h.sum ≡ g.sum +ℤ z → (IsTrue sought.least → h.least ≡ int_min g.least z)
      → (IsTrue sought.greatest → h.greatest ≡ int_max g.greatest z) → AreGathered size sought cells (left - 1) rest (count + 1) h
  one_gathered h z has is short sum least greatest = record {
    whole = whole;
    few = omega (arith, was.few, some);
    room = omega (arith, ints, was.room, short, sum);
    gathered = more_gathered (2 ^ 63 - 1) (sized_numbers size cells) sought (gathered count g.sum g.least g.greatest)
        (gathered (count + 1) h.sum h.least h.greatest) z (map (number_of_size size) (found_in cells.position left bytes))
        (map (number_of_size size) (found_in cells.position (left - 1) rest)) was.gathered
        (ap (map (number_of_size size)) split ∙ ap (λ (x : ℤ). x ∷ map (number_of_size size) (found_in cells.position (left - 1) rest)) (sym is))
        (omega (arith, ints, short)) (omega (arith, ints, short)) refl (λ digits near. sum) least greatest;
  } where
    split : found_in cells.position left bytes ≡ bytes_of cells.position cell ∷ found_in cells.position (left - 1) rest
    split = first_of cells.position left bytes cell rest some front back
        ∙ seen cells.position cell (found_in cells.position (left - 1) rest) has

  -- a cell without one
  pub none_more : has_value cells.position cell ≡ false → AreGathered size sought cells (left - 1) rest count g
  none_more none = record {
    whole = whole;
    few = omega (arith, was.few, some);
    room = was.room;
    gathered = subst (λ (l : List (List ℕ)). SoFar (2 ^ 63 - 1) (sized_numbers size cells) sought (gathered count g.sum g.least g.greatest)
        (map (number_of_size size) l)) same was.gathered;
  } where
    same : found_in cells.position left bytes ≡ found_in cells.position (left - 1) rest
    same = first_of cells.position left bytes cell rest some front back
        ∙ unseen cells.position cell (found_in cells.position (left - 1) rest) none
