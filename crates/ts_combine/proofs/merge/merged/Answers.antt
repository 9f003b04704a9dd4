-- One stamp on, up to the ends of both lists.
use Rattle.std.proofs.Common.{Bool, ◌∷◌, [], ◌++◌, cond, ℕ, ℤ, Option, sym, subst}
use Rattle.ts_combine.specs.Rows.{Gathers}
use Rattle.ts_combine.specs.Merge.{IsTaken, behind}
use Rattle.ts_combine.proofs.MergedLemmas.{IsUnderWay, one-on, all-gathered}
use Rattle.ts_combine.proofs.merge.merged.Goals as goal

pub loop-i-preserved : goal.loop-i-preserved
loop-i-preserved c =
    let row = c.next_of-row.result in
    let more = c.push_if.new.self in
    subst (λ (i : ℕ). IsUnderWay c.args.junction c.args.first.now c.args.second.now c.args.from c.args.to more i c.behind-j.result) (sym c.behind-i.ensures)
    (subst (λ (j : ℕ). IsUnderWay c.args.junction c.args.first.now c.args.second.now c.args.from c.args.to more (behind row.first c.loop-i.i) j) (sym c.behind-j.ensures)
    (one-on c.args.junction c.args.first.now c.args.second.now c.args.from c.args.to c.loop-i.rows more c.loop-i.i c.loop-i.j row c.loop-i.invariant
    (subst (λ (o : Option ℤ). IsTaken o c.loop-i.i row.stamp row.first) c.stamp_at-here.ensures c.next_of-row.ensures.first)
    (subst (λ (o : Option ℤ). IsTaken o c.loop-i.j row.stamp row.second) c.stamp_at-there.ensures c.next_of-row.ensures.second) c.next_of-row.ensures.some
    (λ all gathers. subst (λ (b : Bool). Gathers more (all ++ cond b (row ∷ []) [])) c.belongs.ensures (c.in_ok-push_if.ensures.gathers all gathers)) c.in_ok-push_if.ensures.count))

pub returns : goal.returns
returns c = all-gathered c.args.junction c.args.first.now c.args.second.now c.args.from c.args.to c.loop-i.rows c.loop-i.i c.loop-i.j c.loop-i.invariant c.if-i-first.false c.if-j-second.false
