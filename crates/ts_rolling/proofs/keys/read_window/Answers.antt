use Rattle.std.proofs.Common.{◌≡◌, ◌<◌, ◌↔◌, Some, codes, sym, subst, ◌∙◌}
use Rattle.ts_rolling.specs.Sets.{read_number, read_window, window_key, most_windows}
use Rattle.ts_rolling.proofs.KeyLemmas.{window_form}
use Rattle.ts_rolling.proofs.keys.read_window.Goals as goal

pub returns-clause-value : goal.returns-clause-value
unfolding read_window
returns-clause-value c =
    c.read_number.ensures ∙ (λ i. read_number (codes "#") 12 (c.as_slice.ensures.value i) (c.as_slice-2.ensures.value i))

pub returns-clause-form : goal.returns-clause-form
returns-clause-form c j =
    subst (λ r. (r ≡ Some j) ↔ ((j < most_windows) × (c.args.key.now ≡ window_key c.args.set.now j))) (sym (returns-clause-value c)) (window_form c.args.key.now c.args.set.now j)
