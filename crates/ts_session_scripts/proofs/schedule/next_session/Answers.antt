use Rattle.std.proofs.Common.{◌%◌, ℕ, length, map, ap, sym, ◌∙◌}
use Rattle.std.specs.Prelude.{slice_get}
use Rattle.ts_multi.specs.Schedule.{waiting}
use Rattle.ts_session_scripts.proofs.ScheduleLemmas.{chosen_none, chosen_some, counts_waiting, is_none, is_some_of}
use Rattle.ts_session_scripts.proofs.schedule.next_session.Goals as goal

pub returns-then-count-eq0-clause-chosen : goal.returns-then-count-eq0-clause-chosen
returns-then-count-eq0-clause-chosen c =
    let scripts = c.args.scripts.now in
    let ns = waiting 0 (map length scripts) in
    sym (chosen_none c.args.pick ns (is_none c.count_waiting-count.result (length ns) (c.count_waiting-count.ensures ∙ counts_waiting 0 scripts) c.if-count-eq0.true))

pub returns-clause-chosen : goal.returns-clause-chosen
returns-clause-chosen c =
    let scripts = c.args.scripts.now in
    let ns = waiting 0 (map length scripts) in
    let same = c.count_waiting-count.ensures ∙ counts_waiting 0 scripts in
    c.waiting_at.ensures.value ∙ ap (λ (n : ℕ). slice_get ns (c.args.pick % n)) same ∙ sym (chosen_some c.args.pick ns (is_some_of c.count_waiting-count.result (length ns) same c.if-count-eq0.false))
