-- What a call answers of the elements that it took.
use Rattle.std.proofs.Common.{◌≡◌, ℕ, ◌<◌, ◌≤◌, ◌^◌, Bool, true, false, nat_lt, cond, ℤ, List, [], ◌∷◌, length, Option, Some, None, Result, Ok, Err, refl, sym, ap, subst, ◌∙◌, arith}
use Rattle.std.specs.Prelude.{MatchOption, not}
use Rattle.std.specs.List.{enumerate_from}
use Rattle.std.proofs.lemmas.Bool.{lt-ltb, le-ltb}
use Rattle.std.proofs.lemmas.List.{length-map}
use Rattle.std.proofs.lemmas.List.FromFn.{length-enumerate_from}
use Rattle.ts_base.specs.declared.refusal.Refusal.{Refusal}
use Rattle.ts_base.specs.declared.refusal.Refusal.TheVariants.{TooLarge, Overflow}
use Rattle.ts_row.specs.Row.{Element, seen}
use Rattle.ts_sheets.specs.Stamped.{is_within, within_range}
use Rattle.ts_entry.specs.Entry.{elements_of}
use Rattle.ts_base.specs.Answer.{most_rows}
use Rattle.ts_clip.specs.Call.{AreElementsTaken}
use Rattle.ts_entry.specs.Handed.{AreHanded}
use Rattle.ts_aggregate.proofs.ToldLemmas.{few_kept}
use Rattle.ts_expr.specs.declared.item.BoundItem.{BoundItem}
use Rattle.ts_running.specs.Rows.{Window, window, running, applied_to, applied_all, or_overflow, applied_rows}
use Rattle.ts_running.specs.Binding.{with_others, Sourced}
use Rattle.ts_running_rows.specs.Call.{rows_by, rows_within}
use Rattle.ts_running_rows.specs.Run.{Runner, Runs, Begins, run, runner}
use Rattle.ts_running_rows.specs.Application.{Applier, Applies, applier}
use Rattle.ts_running_rows.proofs.RunLemmas.{numbered_row, run_is}

-- the elements of a range that aren't hidden are no more than all
abbrev ranged : ℤ → ℤ → List Element → List Element
ranged from to es = within_range from to (seen es)

few_ranged : (from to : ℤ) (es : List Element) → length es < 2 ^ 32 → length (ranged from to es) < 2 ^ 32
few_ranged from to es few =
    omega (arith, few, few_kept (is_within from to) (seen es), few_kept (λ (e : Element). not e.1.hidden) es)

-- rows of elements that are no more than a reply may have, and of too many
module _ (took : List Element → Type 0) (make : List Element → Result (List Element) Refusal) (from to : ℤ) (es : List Element) where
  within : length (ranged from to es) ≤ most_rows → (done : Result ℕ Refusal) →
      AreHanded took (make (ranged from to es)) done → AreHanded took (rows_within make from to es) done
  within few done handed =
      let test : nat_lt most_rows (length (ranged from to es)) ≡ false = le-ltb most_rows (length (ranged from to es)) few in
      subst (λ (b : Bool). AreHanded took (rows_by make (cond b (Err (TooLarge (length (ranged from to es)))) (Ok (ranged from to es)))) done)
      (sym test) handed

  beyond : (count : ℕ) → count ≡ length (ranged from to es) → most_rows < count →
      AreHanded took (rows_within make from to es) (Err (TooLarge count))
  beyond count is many =
      let test : nat_lt most_rows (length (ranged from to es)) ≡ true =
      lt-ltb most_rows (length (ranged from to es)) (omega (arith, is, many)) in
      subst (λ (b : Bool). AreHanded took
      (rows_by make (cond b (Err (TooLarge (length (ranged from to es)))) (Ok (ranged from to es)))) (Err (TooLarge count)))
      (sym test) (ap TooLarge is)

running_length : (item : BoundItem) (n : ℕ) (es : List Element) → length (running item.function item.column n es) ≡ length es
running_length item n es =
    length-map (enumerate_from 0 es) (numbered_row item.function item.column n es) ∙ length-enumerate_from 0 es

-- running values, once what took them is no longer borrowed
module _ {V Name : Type 0} (took : V → List Element → V → Type 0) (w : Window) (item : BoundItem) (begins : Begins w item)
    (first final : V) (name begun going : Name) (v u : Runner) (x y : V) (from to : ℤ) (es : List Element)
    (begin : begun ≡ name) (starts : x ≡ first) (state : v ≡ runner w item 0)
    (taken : AreElementsTaken (λ entries. (going ≡ begun) × Runs took v x (elements_of entries) u y) from to es)
    (back : name ≡ going → final ≡ y) (few : length es < 2 ^ 32) where
  runs : Runs took (runner w item 0) x (ranged from to es) u y
  runs = subst (λ (a : Runner). Runs took a x (ranged from to es) u y) state
      (subst (λ (l : List Element). Runs took v x l u y) taken.are taken.taken.1)

  counted : u.count ≡ length (ranged from to es)
  counted = runs.counted (omega (arith, few_ranged from to es few)) ∙ omega arith

  abbrev rows : List Element
  rows = running item.function item.column w.size (ranged from to es)

  rows_taken : u.count ≤ most_rows → took first rows final
  rows_taken few_rows =
      let fresh : w ≡ window [] w.size = ap (λ l. window l w.size) begins.empty in
      let made : run item.function item.column w (ranged from to es) ≡ rows =
      ap (λ (v : Window). run item.function item.column v (ranged from to es)) fresh
      ∙ run_is item.function item.column w.size begins.running (ranged from to es) in
      subst (λ (s : V). took s rows final) starts
      (subst (λ (s : V). took x rows s) (sym (back (sym (taken.taken.0 ∙ begin))))
      (subst (λ (l : List Element). took x l y) made (runs.taken few_rows)))

  pub few_running : (count : ℕ) → count ≡ u.count → count ≤ most_rows → AreHanded (λ rows. took first rows final)
      (rows_within (λ some. Ok (running item.function item.column w.size some)) from to es) (Ok count)
  few_running count is low =
      within (λ rows. took first rows final) (λ some. Ok (running item.function item.column w.size some)) from to es
      (omega (arith, is, low, counted)) (Ok count)
      (rows_taken (omega (arith, is, low)), is ∙ counted ∙ sym (running_length item w.size (ranged from to es)))

  pub many_running : (count : ℕ) → count ≡ u.count → most_rows < count → AreHanded (λ rows. took first rows final)
      (rows_within (λ some. Ok (running item.function item.column w.size some)) from to es) (Err (TooLarge count))
  many_running count is many =
      beyond (λ rows. took first rows final) (λ some. Ok (running item.function item.column w.size some)) from to es count
      (is ∙ counted) many

-- as many rows as elements
one_before : (e : Element) (es : List Element) (first : Option Element) (others : Option (List Element)) →
    MatchOption others (Unit {0}) (λ rows. length rows ≡ length es) →
    MatchOption (with_others first others) (Unit {0}) (λ rows. length rows ≡ length (e ∷ es))
one_before e es None others same = tt
one_before e es (Some one) None same = tt
one_before e es (Some one) (Some rows) same = omega (arith, same)

applied_length : (exprs : List Sourced) (es : List Element) →
    MatchOption (applied_all exprs es) (Unit {0}) (λ rows. length rows ≡ length es)
applied_length exprs [] = refl
applied_length exprs (e ∷ es) = one_before e es (applied_to exprs e) (applied_all exprs es) (applied_length exprs es)

-- values of expressions, once what took them is no longer borrowed
module _ {V Name : Type 0} (took : V → List Element → V → Type 0) (exprs : List Sourced) (first final : V)
    (name begun going : Name) (v u : Applier) (x y : V) (from to : ℤ) (es : List Element) (begin : begun ≡ name)
    (starts : x ≡ first) (state : v ≡ applier exprs 0 false)
    (taken : AreElementsTaken (λ entries. (going ≡ begun) × Applies took v x (elements_of entries) u y) from to es)
    (back : name ≡ going → final ≡ y) (few : length es < 2 ^ 32) where
  applies : Applies took (applier exprs 0 false) x (ranged from to es) u y
  applies = subst (λ (a : Applier). Applies took a x (ranged from to es) u y) state
      (subst (λ (l : List Element). Applies took v x l u y) taken.are taken.taken.1)

  number : u.count ≡ length (ranged from to es)
  number = applies.counted (omega (arith, few_ranged from to es few)) ∙ omega arith

  -- the rows were handed on, or a number has no place
  abbrev Was : Option (List Element) → Type 0
  Was found = MatchOption found (u.overflowed ≡ true) (λ rows. (u.overflowed ≡ false) × took first rows final)

  was : u.count ≤ most_rows → Was (applied_all exprs (ranged from to es))
  was few_rows =
      subst (λ (s : V). MatchOption (applied_all exprs (ranged from to es)) (u.overflowed ≡ true) (λ rows. (u.overflowed ≡ false) × took s rows final)) starts
      (subst (λ (s : V). MatchOption (applied_all exprs (ranged from to es)) (u.overflowed ≡ true) (λ rows. (u.overflowed ≡ false) × took x rows s))
      (sym (back (sym (taken.taken.0 ∙ begin)))) (applies.taken refl few_rows))

  fine : (found : Option (List Element)) → Was found → u.overflowed ≡ false → (count : ℕ) →
      count ≡ length (ranged from to es) →
      MatchOption found (Unit {0}) (λ rows. length rows ≡ length (ranged from to es)) →
      AreHanded (λ rows. took first rows final) (or_overflow found) (Ok count)
  fine None over not_over count is long = absurd (let both : true ≡ false = sym over ∙ not_over in cc)
  fine (Some found) taken_ not_over count is long = (taken_.1, is ∙ sym long)

  over : (found : Option (List Element)) → Was found → u.overflowed ≡ true →
      AreHanded (λ rows. took first rows final) (or_overflow found) (Err Overflow)
  over None was_over is_over = refl
  over (Some found) taken_ is_over = absurd (let both : true ≡ false = sym is_over ∙ taken_.0 in cc)

  pub few_applied : (count : ℕ) → count ≡ u.count → count ≤ most_rows → u.overflowed ≡ false →
      AreHanded (λ rows. took first rows final) (rows_within (applied_rows exprs) from to es) (Ok count)
  few_applied count is low fine_ =
      within (λ rows. took first rows final) (applied_rows exprs) from to es (omega (arith, is, low, number)) (Ok count)
      (fine (applied_all exprs (ranged from to es)) (was (omega (arith, is, low))) fine_ count (is ∙ number)
      (applied_length exprs (ranged from to es)))

  pub overflow_applied : u.count ≤ most_rows → u.overflowed ≡ true →
      AreHanded (λ rows. took first rows final) (rows_within (applied_rows exprs) from to es) (Err Overflow)
  overflow_applied low is_over =
      within (λ rows. took first rows final) (applied_rows exprs) from to es (omega (arith, low, number)) (Err Overflow)
      (over (applied_all exprs (ranged from to es)) (was low) is_over)

  pub many_applied : (count : ℕ) → count ≡ u.count → most_rows < count →
      AreHanded (λ rows. took first rows final) (rows_within (applied_rows exprs) from to es) (Err (TooLarge count))
  many_applied count is many =
      beyond (λ rows. took first rows final) (applied_rows exprs) from to es count (is ∙ number) many
