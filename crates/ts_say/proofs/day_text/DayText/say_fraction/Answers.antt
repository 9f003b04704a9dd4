use Rattle.std.proofs.Common.{[], sym, ◌∙◌}
use Rattle.std.proofs.lemmas.List.{append-nil}
use Rattle.std.proofs.lemmas.Result.{on_err_weaker}
use Rattle.ts_say.proofs.day_text.DayText.say_fraction.Goals as goal

pub returns-clause-err : goal.returns-clause-err
returns-clause-err c = on_err_weaker c.extend_from_slice.result (λ same. ([], same ∙ sym (append-nil c.args.out.now))) c.extend_from_slice.ensures.err
