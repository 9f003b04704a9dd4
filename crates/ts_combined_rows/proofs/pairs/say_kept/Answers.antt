use Rattle.std.proofs.Common.{Ok, List, map, ap, sym, ◌∙◌}
use Rattle.ts_combine.specs.Series.{side_of}
use Rattle.ts_combine.specs.Call.{joined_row}
use Rattle.ts_combine.specs.declared.joined.Joined.{Joined}
use Rattle.ts_combined_rows.proofs.PairLemmas.{kept_said}
use Rattle.ts_combined_rows.proofs.pairs.say_kept.Goals as goal

pub returns-in-Ok : goal.returns-in-Ok
returns-in-Ok c =
    let one = c.side_of-one.result in
    let other = c.side_of-other.result in
    kept_said c.args.pair.now c.args.ones.now c.args.others.now c.args.from c.args.to c.args.count c.args.out.now c.say_few.new.out one other c.deref.result.now c.say_few.result
    c.side_of-one.ensures.side c.side_of-other.ensures.side
    (λ series series'. c.in-Ok.ensures.rows series series' ∙ ap (λ (rows : List Joined). Ok (map (joined_row (side_of one) (side_of other)) rows)) (sym c.deref.ensures.value)) c.say_few.ensures
