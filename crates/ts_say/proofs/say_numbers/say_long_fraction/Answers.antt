-- The digits behind a one, without it.
use Rattle.std.proofs.Common.{◌≡◌, ◌%◌, ◌^◌, ◌∷◌, ◌++◌, [], ap, ◌∙◌, arith}
use Rattle.std.proofs.lemmas.Result.{on_ok_weaker}
use Rattle.std.proofs.Math.Nat.{mod-eq_of_lt}
use Rattle.ts_row.specs.Row.{last_digits}
use Rattle.ts_say.proofs.NumberLemmas.{behind_short, without_one}
use Rattle.ts_say.proofs.say_numbers.say_long_fraction.Goals as goal

pub overflow_add-short_power : goal.overflow_add-short_power
overflow_add-short_power c =
    let same : c.args.part % 10 ^ c.args.scale ≡ c.args.part = mod-eq_of_lt c.requires.part in
    omega (arith, behind_short c.args.scale c.args.part c.requires.scale, same, c.short_power.ensures)

pub returns-clause-ok : goal.returns-clause-ok
returns-clause-ok c =
    let digits : c.say_without_first.new.out ≡ c.args.out.now ++ last_digits c.args.scale c.args.part =
    without_one c.args.scale c.args.part c.short_power.result c.args.out.now c.say_without_first.new.out c.short_power.ensures (omega arith) c.requires.part c.in_ok-say_without_first.ensures.ok in
    on_ok_weaker c.push.result (λ said. said ∙ ap (λ l. l ++ c.args.behind ∷ []) digits) c.push.ensures.ok
