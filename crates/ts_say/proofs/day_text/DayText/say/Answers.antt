-- The text of the day, that of the time, and the fraction.
use Rattle.std.proofs.Common.{ℕ, List, [], ◌∷◌, ◌++◌, ◌-◌, ◌*◌, ◌/◌, take, refl, sym, ap, ◌∙◌, arith}
use Rattle.std.proofs.lemmas.List.{append-nil, append_assoc}
use Rattle.std.proofs.lemmas.Result.{on_ok_weaker, on_err_weaker}
use Rattle.ts_base.specs.Moment.{day_of, five_digits}
use Rattle.ts_say.specs.Day.{day_text, seconds_text, no_fraction}
use Rattle.ts_say.proofs.DayLemmas.{stamp_said}
use Rattle.ts_say.proofs.day_text.DayText.say.Goals as goal

pub returns-then-fraction-gt0-clause-ok : goal.returns-then-fraction-gt0-clause-ok
returns-then-fraction-gt0-clause-ok c =
    on_ok_weaker c.say_fraction.result
    (λ said. stamp_said c.args.stamp c.turn-clock.new.self.midnight c.turn-clock.result (c.turn-clock.result / 100_000) (c.turn-clock.result - c.turn-clock.result / 100_000 * 100_000)
    c.args.out.now c.say_fraction.new.out c.turn-clock.ensures.day c.turn-clock.ensures.clock refl refl
    (said ∙ ap (λ (l : List ℕ). c.args.out.now ++ take 19 l ++ 46 ∷ five_digits (c.turn-clock.result - c.turn-clock.result / 100_000 * 100_000) ++ 32 ∷ []) c.with_time.ensures.text))
    c.say_fraction.ensures.ok

pub returns-clause-ok : goal.returns-clause-ok
returns-clause-ok c =
    on_ok_weaker c.extend_from_slice.result
    (λ said. stamp_said c.args.stamp c.turn-clock.new.self.midnight c.turn-clock.result (c.turn-clock.result / 100_000) 0
    c.args.out.now c.extend_from_slice.new.self c.turn-clock.ensures.day c.turn-clock.ensures.clock refl (omega arith)
    (said ∙ ap (λ (l : List ℕ). c.args.out.now ++ l) c.with_time.ensures.text
    ∙ sym (append_assoc c.args.out.now (day_text (day_of c.turn-clock.new.self.midnight) ++ seconds_text (c.turn-clock.result / 100_000)) no_fraction)
    ∙ sym (append_assoc (c.args.out.now ++ (day_text (day_of c.turn-clock.new.self.midnight) ++ seconds_text (c.turn-clock.result / 100_000))) (46 ∷ five_digits 0) (32 ∷ []))))
    c.extend_from_slice.ensures.ok

pub returns-clause-err : goal.returns-clause-err
returns-clause-err c = on_err_weaker c.extend_from_slice.result (λ same. ([], same ∙ sym (append-nil c.args.out.now))) c.extend_from_slice.ensures.err
