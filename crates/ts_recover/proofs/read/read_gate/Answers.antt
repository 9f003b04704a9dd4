use Rattle.std.proofs.Common.{ℕ, List, take, drop, ap, ◌∙◌}
use Rattle.std.specs.Str.{bytes_eq}
use Rattle.ts_journal.specs.Journal.{is_open, open_gate}
use Rattle.ts_recover.proofs.read.read_gate.Goals as goal

pub returns-clause-ok : goal.returns-clause-ok
unfolding is_open
returns-clause-ok g c told =
    let held = (g.V.Volume.device c.args.vol.now).held in
    c.eq.ensures ∙ ap (λ (l : List ℕ). bytes_eq l open_gate) (c.in_ok-read_at.ensures.read told ∙ ap (λ (n : ℕ). take n (drop c.args.at held)) c.read_at.auto.into)
