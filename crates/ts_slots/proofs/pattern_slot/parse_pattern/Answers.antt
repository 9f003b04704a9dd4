use Rattle.std.proofs.Common.{◌≡◌, ℕ, ◌-◌, Some, None, List, length, take, drop, replicate, ap, ◌∙◌}
use Rattle.ts_model.specs.declared.def.Def.TheVariants as defs
use Rattle.ts_layout.specs.Slot.{def_bytes, plan_bytes}
use Rattle.ts_layout.proofs.CallerLemmas.{pattern_name, length-name, patterns_only, behind_pattern}
use Rattle.ts_slots.proofs.ParseLemmas.{one, none_some}
use Rattle.ts_slots.proofs.pattern_slot.parse_pattern.Goals as goal

pub returns-in_default-clause-found : goal.returns-in_default-clause-found
returns-in_default-clause-found c =
    λ format. patterns_only format (λ def. c.args.page.now ≡ def_bytes def → None ≡ Some def) (λ name p is bytes.
    none_some c.in_ok-name.field-0 name c.in_default.is
    (c.in_ok-name.ensures name is.name (ap (λ (l : List ℕ). take 33 (drop 1 l)) bytes ∙ pattern_name name p (length-name name is.name))))

pub returns-in_default-2-clause-found : goal.returns-in_default-2-clause-found
returns-in_default-2-clause-found c =
    λ format. patterns_only format (λ def. c.args.page.now ≡ def_bytes def → None ≡ Some def) (λ name p is bytes.
    none_some c.in_ok-pattern.field-0 p c.in_default-2.is
    (c.in_ok-pattern.ensures p (replicate (4062 - length (plan_bytes p)) 0) is.runs (behind_pattern c.args.page.now name p is bytes)))

pub returns-clause-found : goal.returns-clause-found
returns-clause-found c =
    λ format. patterns_only format (λ def. c.args.page.now ≡ def_bytes def → Some (defs.Pattern c.in-Some.name c.in-Some-2.pattern) ≡ Some def) (λ name p is bytes.
    let named = one c.in_ok-name.field-0 c.in-Some.name name c.in-Some.is
    (c.in_ok-name.ensures name is.name (ap (λ (l : List ℕ). take 33 (drop 1 l)) bytes ∙ pattern_name name p (length-name name is.name))) in
    let same = one c.in_ok-pattern.field-0 c.in-Some-2.pattern p c.in-Some-2.is
    (c.in_ok-pattern.ensures p (replicate (4062 - length (plan_bytes p)) 0) is.runs (behind_pattern c.args.page.now name p is bytes)) in
    λ i. Some (defs.Pattern (named i) (same i)))
