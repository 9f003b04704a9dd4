-- Keys of the series of a rolling set are keys, and no calendar has as many windows as keys have numbers.
use Rattle.std.proofs.Common.{◌≡◌, ℕ, zero, suc, ℤ, pos, negsuc, ◌^◌, ◌<◌, ◌≤◌, ◌+ℤ◌, ◌≤ℤ◌, ◌==◌, Bool, true, false, cond, ◌&&◌, not, Option, Some, None, Ok, Err, Result, IsTrue, List, [], ◌∷◌, length, filter, filter_map, nat_le, unsigned_abs, refl, ap, arith}
use Rattle.std.specs.Prelude.{codes, int_lt}
use Rattle.std.specs.List.{cons_option, list_any}
use Rattle.std.proofs.lemmas.Bool.{and_parts}
use Rattle.std.proofs.lemmas.Bool.Decides.{nat_tests}
use Rattle.std.proofs.lemmas.Int.{ints}
use Rattle.ts_base.specs.Name.{is_key}
use Rattle.ts_base.specs.declared.refusal.Refusal.{Refusal}
use Rattle.ts_base.specs.declared.refusal.Refusal.TheVariants.{BeforeOrigin, WindowGone}
use Rattle.ts_calendar.specs.Calendars.{near_count}
use Rattle.ts_offset.specs.Grid.{numbers_from, on_start, on_starts, GridPlan, held_start, starts_before, offset_at, offset_of}
use Rattle.ts_rolling.specs.Sets.{most_windows, is_set, window_key, control_key, Planned, a_plan, greatest, going, is_gone, plan_for, plan_at, planned}
use Rattle.ts_rolling.proofs.KeyLemmas.{is_key-numbered}

-- lists of which some are left out
length_from : (k : ℤ) (n : ℕ) → length (numbers_from k n) ≡ n
unfolding numbers_from
length_from k zero = refl
length_from k (suc n) = ap suc (length_from (k +ℤ pos 1) n)

fewer_taken : {X Y : Type 0} (f : X → Option Y) (xs : List X) → length (filter_map f xs) ≤ length xs
fewer_taken f [] = omega arith
fewer_taken {X} {Y} f (x ∷ xs) = by (f x) (fewer_taken f xs) where
  by : (o : Option Y) → length (filter_map f xs) ≤ length xs → length (cons_option o (filter_map f xs)) ≤ suc (length xs)
  by (Some y) rest = omega (arith, rest)
  by None rest = omega (arith, rest)

fewer_kept : {X : Type 0} (p : X → Bool) (xs : List X) → length (filter p xs) ≤ length xs
fewer_kept p [] = omega arith
fewer_kept {X} p (x ∷ xs) = by (p x) (fewer_kept p xs) where
  by : (b : Bool) → length (filter p xs) ≤ length xs → length (cond b (x ∷ filter p xs) (filter p xs)) ≤ suc (length xs)
  by true rest = omega (arith, rest)
  by false rest = omega (arith, rest)

-- no calendar has as many on starts
starts_few : (g : GridPlan) (s : ℤ) → starts_before g s ≤ near_count
unfolding on_starts
starts_few g s =
    let kept = fewer_kept (λ x. not (int_lt x g.origin) && int_lt x s) (on_starts g.calendar) in
    let taken = fewer_taken (on_start g.calendar) (numbers_from (negsuc 399_999_999_999) near_count) in
    let all = length_from (negsuc 399_999_999_999) near_count in
    omega (arith, kept, taken, all)

offset_few : (g : GridPlan) (stamp : ℤ) (n : ℕ) → offset_of g stamp ≡ Ok n → n < most_windows
offset_few g stamp n is = at (held_start g.calendar stamp) is where
  at : (o : Option ℤ) → offset_at g o ≡ Ok n → n < most_windows
  at None is = absurd (let never : ⊥ = cc in never)
  at (Some s) is = by (int_lt s g.origin) is where
    by : (b : Bool) → cond b (Err BeforeOrigin) (Ok (starts_before g s)) ≡ Ok n → n < most_windows
    by true is = absurd (let never : ⊥ = cc in never)
    by false is = let same : starts_before g s ≡ n = cc in let few = starts_few g s in omega (arith, same, few)

-- the window of a plan is an offset
pub window_few : (g : GridPlan) (n : ℕ) (live : List ℕ) (stamp : ℤ) (plan : Planned) → planned g n live stamp ≡ Ok plan → plan.window < most_windows
unfolding plan_for
window_few g n live stamp plan is = at (offset_of g stamp) refl is where
  at : (o : Result ℕ Refusal) → offset_of g stamp ≡ o → plan_at n live o ≡ Ok plan → plan.window < most_windows
  at (Err refusal) own is = absurd (let never : ⊥ = cc in never)
  at (Ok window) own is = by (is_gone n live window) is where
    by : (b : Bool) → cond b (Err (WindowGone (greatest live))) (Ok (a_plan window (not (list_any (λ k. k == window) live)) (going n live window))) ≡ Ok plan → plan.window < most_windows
    by true is = absurd (let never : ⊥ = cc in never)
    by false is =
        let same : window ≡ plan.window = cc in
        let few = offset_few g stamp window own in
        omega (arith, same, few)

-- a set's key is short
set_is : (set : List ℕ) → is_set set ≡ true → (is_key set ≡ true) × (length set ≤ 40)
set_is set is =
    let front = and_parts (is_key set && nat_le (length set) 40) _ is in
    let parts = and_parts (is_key set) (nat_le (length set) 40) front.0 in
    (parts.0, at_most (length set) parts.1) where
      at_most : (n : ℕ) → nat_le n 40 ≡ true → n ≤ 40
      at_most n h = grind (arith, nat_tests)

pub window_is_key : (set : List ℕ) (j : ℕ) → IsTrue (is_set set) → j < most_windows → IsTrue (is_key (window_key set j))
unfolding window_key
window_is_key set j is few =
    let own = set_is set is in
    let short = own.1 in
    is_key-numbered set (codes "#") 12 j own.0 refl (omega (arith, short)) (omega (arith, few))

pub control_is_key : (set : List ℕ) (kept : ℤ) → IsTrue (is_set set) → pos 1 ≤ℤ kept → kept ≤ℤ pos 1000 → IsTrue (is_key (control_key set (unsigned_abs kept)))
unfolding control_key
control_is_key set kept is some most =
    let own = set_is set is in
    let short = own.1 in
    is_key-numbered set (codes "#w") 4 (unsigned_abs kept) own.0 refl (omega (arith, short)) (few kept some most) where
      few : (k : ℤ) → pos 1 ≤ℤ k → k ≤ℤ pos 1000 → unsigned_abs k < 10 ^ 4
      few (pos n) some most = omega (arith, ints, most)
      few (negsuc n) some most = absurd (omega (arith, ints, some))
