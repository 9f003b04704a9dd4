-- Rows that are listed, one start after the other.
use Rattle.std.proofs.Common.{◌≡◌, ◌∙◌, ℕ, zero, suc, ◌+◌, ◌<◌, ℤ, pos, ◌+ℤ◌, ◌≤ℤ◌, Option, Some, IsSome, length, List, [], ◌∷◌, ◌++◌, sym, ap, subst, arith}
use Rattle.std.proofs.lemmas.List.{append-nil, append_assoc, map-append, length-map}
use Rattle.std.proofs.lemmas.Int.{ints}
use Rattle.ts_calendar.specs.Calendars.{CalendarPlan, start_at}
use Rattle.ts_offset.proofs.ListLemmas.{taken-zero, taken-more-some, taken-count-some}
use Rattle.ts_offset.proofs.CountLemmas.{gap-le}
use Rattle.ts_offset.specs.Grid.{gap}
use Rattle.ts_combine.specs.Rows.{Gathers}
use Rattle.ts_combine.specs.Line.{starts_of_next, starts_up_to, AllExist}
use Rattle.ts_combine.specs.Reach.{rows_with}
use Rattle.ts_combine.specs.declared.joined.Joined.{Joined}
use Rattle.ts_combine.specs.declared.rows.Rows.{Rows}

-- the rows at the next n starts are there besides those of before
pub record AreListed (before rows : Rows Joined) (line : CalendarPlan) (from : ℤ) (first second : Option ℕ) (n : ℕ) : Type 0 where
  pub count : rows.count ≡ before.count + n
  pub gathers : (all : List Joined) → Gathers before all → Gathers rows (all ++ rows_with first second (starts_of_next line from n))

pub none-listed : (rows : Rows Joined) (line : CalendarPlan) (from : ℤ) (first second : Option ℕ) → AreListed rows rows line from first second 0
none-listed rows line from first second = record {
  count = omega arith;
  gathers = λ all gathers.
      subst (Gathers rows) (sym (ap (λ l. all ++ rows_with first second l) (taken-zero (start_at line) from) ∙ append-nil all)) gathers;
}

pub one-listed : (before rows more : Rows Joined) (line : CalendarPlan) (from : ℤ) (first second : Option ℕ) (n : ℕ) (s : ℤ) → AreListed before rows line from first second n
    → start_at line (from +ℤ pos n) ≡ Some s
    → ((all : List Joined) → Gathers rows all → Gathers more (all ++ record { stamp = s; first = first; second = second } ∷ []))
    → more.count ≡ rows.count + 1
    → AreListed before more line from first second (n + 1)
one-listed before rows more line from first second n s listed start gathers count =
    let row : Joined = record { stamp = s; first = first; second = second } in
    let so_far = rows_with first second (starts_of_next line from n) in
    let longer : rows_with first second (starts_of_next line from (n + 1)) ≡ so_far ++ row ∷ [] =
    ap (rows_with first second) (taken-more-some (start_at line) from n s start)
    ∙ map-append (λ (t : ℤ). record { stamp = t; first = first; second = second }) (starts_of_next line from n) (s ∷ []) in
    record {
      count = let before_it = listed.count in omega (arith, before_it, count);
      gathers = λ all here.
          subst (Gathers more) (append_assoc all so_far (row ∷ []) ∙ ap (λ l. all ++ l) (sym longer)) (gathers (all ++ so_far) (listed.gathers all here));
    }

-- as many starts as intervals that exist
all-there : (line : CalendarPlan) (from : ℤ) (n : ℕ) → ((i : ℕ) → i < n → IsSome (start_at line (from +ℤ pos i))) → length (starts_of_next line from n) ≡ n
all-there line from n there = go n (λ i lt. there i lt) where
  go : (m : ℕ) → ((i : ℕ) → i < m → IsSome (start_at line (from +ℤ pos i))) → length (starts_of_next line from m) ≡ m
  go zero each = ap length (taken-zero (start_at line) from)
  go (suc m) each =
      let one : suc m ≡ m + 1 = omega arith in
      let rest = go m (λ i lt. each i (omega (arith, lt))) in
      ap (λ k. length (starts_of_next line from k)) one ∙ taken-count-some (start_at line) from m (each m (omega arith)) ∙ omega (arith, rest)

pub all-between : (line : CalendarPlan) (from to : ℤ) → from ≤ℤ to → AllExist line from to → length (starts_up_to line from to) ≡ gap from to
all-between line from to le exist =
    let size = gap-le from to le in
    all-there line from (gap from to) (λ i lt. exist (from +ℤ pos i) (omega (arith, ints)) (omega (arith, ints, lt, size, le)))

pub rows-length : (first second : Option ℕ) (stamps : List ℤ) → length (rows_with first second stamps) ≡ length stamps
rows-length first second stamps = length-map {B = Joined} stamps (λ (s : ℤ). record { stamp = s; first = first; second = second })
