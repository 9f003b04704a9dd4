-- Steps and expressions that are bound one after the other.
use Rattle.std.proofs.Common.{◌≡◌, ℕ, List, [], ◌∷◌, ◌++◌, Some, None, Result, Ok, Err, refl, sym, ap, ◌∙◌, append_assoc}
use Rattle.ts_base.specs.declared.refusal.Refusal.{Refusal}
use Rattle.ts_base.specs.declared.refusal.Refusal.TheVariants.{BadExpression}
use Rattle.ts_base.specs.declared.fault.Trouble.{Trouble}
use Rattle.ts_base.specs.declared.fault.Trouble.TheVariants.{Refused, Memory}
use Rattle.ts_row.specs.declared.kind.Column.{Column as TheColumn}
use Rattle.ts_base.specs.Answer.{Answers, Fails}
use Rattle.ts_running.specs.declared.step.Step.{Step}
use Rattle.ts_running.specs.declared.step.Step.TheVariants as step
use Rattle.ts_running.specs.declared.bind.Source.{Source}
use Rattle.ts_running.specs.Grammar.{Column, Digits, Opposite, Joined, steps_of, all_steps, Named}
use Rattle.ts_running.specs.Binding.{made_of_all, after_steps, exprs_of, Sourced, source_named, with_one, with_two, bound_expr, bound_exprs, part_scales, if_small, with_scales, binding, bound_step, bound_steps}
use Rattle.ts_running.proofs.StepLemmas.{seen_as, made_some, made_none}
use Rattle.std.specs.Prelude.{reverse}

-- steps before others, if these are bound
abbrev pub before_steps : List (Step Source) → Result (List (Step Source)) Refusal → Result (List (Step Source)) Refusal
before_steps front (Ok others) = Ok (front ++ others)
before_steps front (Err why) = Err why

-- one more step is bound
pub before_more : (columns : List TheColumn) (front : List (Step Source)) (s : Step (List ℕ)) (steps : List (Step (List ℕ))) (one : Step Source) → bound_step columns s ≡ Ok one →
    before_steps front (bound_steps columns (s ∷ steps)) ≡ before_steps (front ++ one ∷ []) (bound_steps columns steps)
before_more columns front s steps one is = ap (λ r. before_steps front (with_two (λ x others. x ∷ others) r (bound_steps columns steps))) is ∙ by_others (bound_steps columns steps) where
  by_others : (others : Result (List (Step Source)) Refusal) → before_steps front (with_two (λ x more. x ∷ more) (Ok one) others) ≡ before_steps (front ++ one ∷ []) others
  by_others (Ok more) = ap (λ (l : List (Step Source)). Ok l) (sym (append_assoc front (one ∷ []) more))
  by_others (Err why) = refl

-- a step is refused
pub before_refused : (columns : List TheColumn) (front : List (Step Source)) (s : Step (List ℕ)) (steps : List (Step (List ℕ))) (why : Refusal) → bound_step columns s ≡ Err why →
    before_steps front (bound_steps columns (s ∷ steps)) ≡ Err why
before_refused columns front s steps why is = ap (λ r. before_steps front (with_two (λ x others. x ∷ others) r (bound_steps columns steps))) is

abbrev Bound : Type 0
Bound = Result (List (Step Source)) Refusal

-- the steps of an expression before others
abbrev before : Result Sourced Refusal → Bound → Bound
before found others = with_two (λ e more. steps_of e ++ more) found others

-- the steps of an expression are bound as it is
bound_first : (columns : List TheColumn) (e : Named) (steps : List (Step (List ℕ))) → bound_steps columns (steps_of e ++ steps) ≡ before (bound_expr columns e) (bound_steps columns steps)
bound_first columns (Column name) steps = of_source (source_named columns name) (bound_steps columns steps) where
  of_source : (found : Result Source Refusal) (others : Bound) →
      with_two (λ x more. x ∷ more) (with_one (λ s. step.Column s) found) others ≡ before (with_one (λ s. Column s) found) others
  of_source (Err why) others = refl
  of_source (Ok s) (Err why) = refl
  of_source (Ok s) (Ok more) = refl
bound_first columns (Digits n) steps = of_others (bound_steps columns steps) where
  of_others : (others : Bound) → with_two (λ x more. x ∷ more) (Ok (step.Digits n)) others ≡ before (Ok (Digits n)) others
  of_others (Err why) = refl
  of_others (Ok more) = refl
bound_first columns (Opposite e) steps =
    ap (bound_steps columns) (append_assoc (steps_of e) (step.Opposite ∷ []) steps)
    ∙ bound_first columns e (step.Opposite ∷ steps) ∙ of_expr (bound_expr columns e) (bound_steps columns steps) where
      of_expr : (found : Result Sourced Refusal) (others : Bound) →
          before found (with_two (λ x more. x ∷ more) (Ok step.Opposite) others) ≡ before (with_one (λ x. Opposite x) found) others
      of_expr (Err why) others = refl
      of_expr (Ok x) (Err why) = refl
      of_expr (Ok x) (Ok more) = ap (λ (l : List (Step Source)). Ok l) (sym (append_assoc (steps_of x) (step.Opposite ∷ []) more))
bound_first columns (Joined operation a b) steps =
    ap (bound_steps columns) (append_assoc (steps_of a) (steps_of b ++ step.Joined operation ∷ []) steps)
    ∙ bound_first columns a ((steps_of b ++ step.Joined operation ∷ []) ++ steps)
    ∙ ap (λ (others : Bound). before (bound_expr columns a) others)
    (ap (bound_steps columns) (append_assoc (steps_of b) (step.Joined operation ∷ []) steps) ∙ bound_first columns b (step.Joined operation ∷ steps))
    ∙ of_two (bound_expr columns a) (bound_expr columns b) (bound_steps columns steps) where
      of_two : (first second : Result Sourced Refusal) (others : Bound) →
          before first (before second (with_two (λ x more. x ∷ more) (Ok (step.Joined operation)) others)) ≡ before (with_two (λ x y. Joined operation x y) first second) others
      of_two (Err why) second others = refl
      of_two (Ok x) (Err why) others = refl
      of_two (Ok x) (Ok y) (Err why) = refl
      of_two (Ok x) (Ok y) (Ok more) = ap (λ (l : List (Step Source)). Ok l)
          (sym (append_assoc (steps_of x) (steps_of y ++ step.Joined operation ∷ []) more ∙ ap (λ (l : List (Step Source)). steps_of x ++ l) (append_assoc (steps_of y) (step.Joined operation ∷ []) more)))

-- and those of a list as the list is
pub bound_all : (columns : List TheColumn) (exprs : List Named) → bound_steps columns (all_steps exprs) ≡ with_one all_steps (bound_exprs columns exprs)
bound_all columns [] = refl
bound_all columns (e ∷ exprs) =
    bound_first columns e (all_steps exprs) ∙ ap (λ (others : Bound). before (bound_expr columns e) others) (bound_all columns exprs) ∙ of_both (bound_expr columns e) (bound_exprs columns exprs) where
      of_both : (first : Result Sourced Refusal) (others : Result (List Sourced) Refusal) → before first (with_one all_steps others) ≡ with_one all_steps (with_two (λ x more. x ∷ more) first others)
      of_both (Err why) others = refl
      of_both (Ok x) (Err why) = refl
      of_both (Ok x) (Ok more) = refl

-- steps that were bound are those of a list that is bound
pub record IsBound (columns : List TheColumn) (exprs : List Named) (steps : List (Step Source)) : Type 0 where
  pub list : List Sourced
  pub bound : bound_exprs columns exprs ≡ Ok list
  pub steps_are : steps ≡ all_steps list

pub is_bound : (columns : List TheColumn) (exprs : List Named) (steps : List (Step Source)) → bound_steps columns (all_steps exprs) ≡ Ok steps → IsBound columns exprs steps
is_bound columns exprs steps is = of_list (bound_exprs columns exprs) refl (sym (bound_all columns exprs) ∙ is) where
  of_list : (found : Result (List Sourced) Refusal) → bound_exprs columns exprs ≡ found → with_one all_steps found ≡ Ok steps → IsBound columns exprs steps
  of_list (Err why) e at = absurd (cc)
  of_list (Ok list) e at = let same : all_steps list ≡ steps = cc in record { list = list; bound = e; steps_are = sym same }

-- a name is refused
pub name_refused : (columns : List TheColumn) (exprs : List Named) (why : Refusal) → bound_steps columns (all_steps exprs) ≡ Err why → binding columns exprs ≡ Err why
name_refused columns exprs why is = of_list (bound_exprs columns exprs) refl (sym (bound_all columns exprs) ∙ is) where
  of_list : (found : Result (List Sourced) Refusal) → bound_exprs columns exprs ≡ found → with_one all_steps found ≡ Err why → binding columns exprs ≡ Err why
  of_list (Err other) e at = let same : other ≡ why = cc in ap with_scales e ∙ ap (λ (r : Refusal). Err r) same
  of_list (Ok list) e at = absurd (cc)

module _ (columns : List TheColumn) (exprs : List Named) (steps : List (Step Source)) (is : bound_steps columns (all_steps exprs) ≡ Ok steps) where
  list : IsBound columns exprs steps
  list = is_bound columns exprs steps is

  seen : exprs_of steps ≡ list.list
  seen = seen_as steps list.list list.steps_are

  -- each part has a scale that may be
  pub scales_there : (found : List ℕ) → after_steps part_scales steps [] ≡ Some (reverse found) → made_of_all part_scales (exprs_of steps) ≡ Some found
  scales_there found at =
      ap (made_of_all part_scales) seen ∙ made_some part_scales list.list found (ap (λ (l : List (Step Source)). after_steps part_scales l []) (sym list.steps_are) ∙ at)

  pub list_bound : (found : List ℕ) → after_steps part_scales steps [] ≡ Some (reverse found) → binding columns exprs ≡ Ok (exprs_of steps)
  list_bound found at =
      ap with_scales list.bound
      ∙ ap (if_small list.list) (made_some part_scales list.list found (ap (λ (l : List (Step Source)). after_steps part_scales l []) (sym list.steps_are) ∙ at))
      ∙ ap (λ (l : List Sourced). Ok l) (sym seen)

  -- some part has none
  pub scales_refused : after_steps part_scales steps [] ≡ None → binding columns exprs ≡ Err (BadExpression 0)
  scales_refused at =
      ap with_scales list.bound ∙ ap (if_small list.list) (made_none part_scales list.list (ap (λ (l : List (Step Source)). after_steps part_scales l []) (sym list.steps_are) ∙ at))

-- a step that isn't bound decides
pub steps_fail : (columns : List TheColumn) (exprs : List Named) (trouble : Trouble) → Fails (bound_steps columns (all_steps exprs)) trouble → Answers {A = List Sourced} (binding columns exprs) (Err trouble)
steps_fail columns exprs (Refused why) is = name_refused columns exprs why is
steps_fail columns exprs (Memory error) is = tt
