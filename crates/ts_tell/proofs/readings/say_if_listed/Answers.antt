use Rattle.std.proofs.Common.{List, ℕ, Some, ◌++◌, ap, sym, ◌∙◌}
use Rattle.std.specs.Option.{option_copied}
use Rattle.ts_tell.proofs.InOrderLemmas.{line_of_one}
use Rattle.ts_tell.proofs.readings.say_if_listed.Goals as goal

pub returns-in_ok-say_series-in-Some-Series-clause-said : goal.returns-in_ok-say_series-in-Some-Series-clause-said
returns-in_ok-say_series-in-Some-Series-clause-said c =
    let def = sym c.get.ensures ∙ ap option_copied c.in-Some-Series.is ∙ ap Some c.in-Some-Series.field-0-is in
    c.in_ok-say_series-in-Some-Series.ensures.ok
    ∙ ap (λ (l : List ℕ). c.args.out.now ++ l) (line_of_one c.args.defs.now.definitions c.args.space.now c.args.container c.args.slot _ _ _ def c.if-own-container.true c.as_slice.result.now c.is_some.result c.count.result c.as_slice.ensures.value c.is_some.ensures c.count.ensures)
