use Rattle.std.specs.declared.alloc.AllocError.{AllocError}
use Rattle.std.proofs.Common.{List, length, refl, ap}
use Rattle.ts_command.specs.declared.command.Command.{Command}
use Rattle.ts_session_engine.proofs.OwnLemmas.{no_copy, no_effect, noted_now}
use Rattle.ts_session_engine.proofs.view.keep_writing.Goals as goal

pub returns-in_err-note : goal.returns-in_err-note
returns-in_err-note c =
    no_copy c.args.command.now c.args.effect c.from_residual.result c.in_err-note.field-0.0 c.args.changes.entries c.args.free.items c.args.view.now c.note.new.view c.from_residual.ensures.1 c.in_err-note.ensures.others c.in_err-note.ensures.unnoted

pub returns-in-Ok : goal.returns-in-Ok
returns-in-Ok c =
    noted_now AllocError c.args.command.now c.args.effect c.args.changes.entries c.args.free.items c.args.view.now c.note.new.view c.take_effect.new.view c.in_ok-note.ensures.others c.in_ok-note.ensures.noted c.in-Ok.ensures.taken c.in-Ok.ensures.nothing c.in-Ok.ensures.commands

pub returns-in-Err : goal.returns-in-Err
returns-in-Err c =
    let y = c.take_effect.new.view in
    no_effect c.args.command.now c.args.effect c.in-Err.error c.args.changes.entries c.args.free.items c.args.view.now c.note.new.view y (record y { commands = c.truncate.new.self }) (length c.as_slice-count.result.now)
    c.in_ok-note.ensures.others c.in_ok-note.ensures.noted c.in-Err.ensures.err c.in-Err.ensures.commands refl c.truncate.ensures.items (ap (λ (l : List Command). length l) c.as_slice-count.ensures.value)
