-- The rows of a stretch are as many as its starts, and are listed or passed over.
use Rattle.std.proofs.Common.{◌∙◌, ◌++◌, [], Bool, cond, ℕ, sym, subst, arith, to_z-of_z}
use Rattle.std.proofs.lemmas.Int.{ints}
use Rattle.ts_combine.specs.Rows.{Gathers}
use Rattle.ts_combine.specs.Line.{starts_up_to, starts_of_next, AllExist}
use Rattle.ts_combine.specs.Reach.{rows_with}
use Rattle.ts_combine.proofs.ListingLemmas.{all-between, rows-length}
use Rattle.ts_combine.proofs.sweep.add.Goals as goal

pub returns-then-not-may_have-clause-gathers : goal.returns-then-not-may_have-clause-gathers
returns-then-not-may_have-clause-gathers c = λ all here.
    let line = c.args.line.now in
    let stamps = starts_up_to line.calendar.now c.args.from c.args.to in
    let rows = rows_with c.args.first c.args.second stamps in
    let low = c.requires.low in
    let high = c.requires.high in
    let exist : AllExist line.calendar.now c.args.from c.args.to = λ k from to. line.exist k (omega (arith, ints, low, from)) (omega (arith, ints, high, to)) in
    let count = rw (to_z-of_z c.ranges.from, to_z-of_z c.ranges.to) at c.steps-count.ensures in
    let many = rows-length c.args.first c.args.second stamps ∙ all-between line.calendar.now c.args.from c.args.to c.requires.order exist ∙ sym count in
    subst (λ (b : Bool). Gathers c.skip.new.self (all ++ cond b rows [])) c.if-not-is_kept.ensures (c.skip.ensures.gathers all rows many here)

pub returns-clause-gathers : goal.returns-clause-gathers
returns-clause-gathers c = λ all here.
    let line = c.args.line.now.calendar.now in
    let more = c.list.new.rows in
    let rows = rows_with c.args.first c.args.second (starts_up_to line c.args.from c.args.to) in
    let count = rw (to_z-of_z c.ranges.from, to_z-of_z c.ranges.to) at c.steps-count.ensures in
    let listed = rw (to_z-of_z c.ranges.from) at (c.in_ok-list.ensures.gathers all here) in
    subst (λ (b : Bool). Gathers more (all ++ cond b rows [])) c.if-not-is_kept.ensures
    (subst (λ (n : ℕ). Gathers more (all ++ rows_with c.args.first c.args.second (starts_of_next line c.args.from n))) count listed)
