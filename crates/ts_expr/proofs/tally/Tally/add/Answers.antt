use Rattle.std.proofs.Common.{◌≡◌, rules}
use Rattle.ts_expr.specs.declared.tally.Tally.TheVariants as tally
use Rattle.ts_expr.specs.Running.{with_sums}
use Rattle.ts_expr.proofs.CallerLemmas.{added_at_once}
use Rattle.ts_expr.proofs.tally.Tally.add.Goals as goal

pub returns-in-Sum-clause-at_once : goal.returns-in-Sum-clause-at_once
returns-in-Sum-clause-at_once c = λ f values more summed was many all.
    let is : tally.Sum c.add_many.new.self ≡ with_sums c.args.self.now c.args.count c.args.sum = search rules in
    added_at_once f values more c.args.self.now (tally.Sum c.add_many.new.self) c.args.count c.args.sum is summed was many all

pub returns-in-Avg-clause-at_once : goal.returns-in-Avg-clause-at_once
returns-in-Avg-clause-at_once c = λ f values more summed was many all.
    let is : tally.Avg c.add_many-in-Avg.new.self ≡ with_sums c.args.self.now c.args.count c.args.sum = search rules in
    added_at_once f values more c.args.self.now (tally.Avg c.add_many-in-Avg.new.self) c.args.count c.args.sum is summed was many all
