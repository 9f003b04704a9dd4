use Rattle.std.proofs.Common.{◌≡◌, ◌≤◌, ◌↔◌, Some, option_and_then, codes, sym, ap, subst, ◌∙◌}
use Rattle.ts_rolling.specs.Sets.{read_number, kept_number, read_control, control_key, most_kept}
use Rattle.ts_rolling.proofs.KeyLemmas.{control_form}
use Rattle.ts_rolling.proofs.keys.read_control.Goals as goal

pub returns-in-Some-clause-value : goal.returns-in-Some-clause-value
unfolding read_control
returns-in-Some-clause-value c =
    c.kept_number.ensures
    ∙ ap (option_and_then kept_number) (sym c.in-Some.is ∙ c.read_number.ensures ∙ (λ i. read_number (codes "#w") 4 (c.as_slice.ensures.value i) (c.as_slice-2.ensures.value i)))

pub returns-in-Some-clause-form : goal.returns-in-Some-clause-form
returns-in-Some-clause-form c n =
    subst (λ r. (r ≡ Some n) ↔ ((1 ≤ n) × (n ≤ most_kept) × (c.args.key.now ≡ control_key c.args.set.now n))) (sym (returns-in-Some-clause-value c)) (control_form c.args.key.now c.args.set.now n)

pub returns-in-None-clause-value : goal.returns-in-None-clause-value
unfolding read_control
returns-in-None-clause-value c =
    ap (option_and_then kept_number) (sym c.in-None.is ∙ c.read_number.ensures ∙ (λ i. read_number (codes "#w") 4 (c.as_slice.ensures.value i) (c.as_slice-2.ensures.value i)))

pub returns-in-None-clause-form : goal.returns-in-None-clause-form
returns-in-None-clause-form c n =
    subst (λ r. (r ≡ Some n) ↔ ((1 ≤ n) × (n ≤ most_kept) × (c.args.key.now ≡ control_key c.args.set.now n))) (sym (returns-in-None-clause-value c)) (control_form c.args.key.now c.args.set.now n)
