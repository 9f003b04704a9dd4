-- A stretch of the line after the other.
use Rattle.std.proofs.Common.{◌≡◌, ◌++◌, [], cond, ◌⊎◌, ℤ, ◌≤ℤ◌, ◌<ℤ◌, Option, ℕ, to_z, of_z, w64, subst, arith}
use Rattle.std.proofs.lemmas.Int.{ints}
use Rattle.ts_offset.proofs.CountLemmas.{gap-le}
use Rattle.ts_combine.specs.Combine.{is_kept}
use Rattle.ts_combine.specs.Rows.{Gathers}
use Rattle.ts_combine.specs.Line.{starts_up_to}
use Rattle.ts_combine.specs.Reach.{reach_end, index_at, rows_with}
use Rattle.ts_combine.proofs.SweptLemmas.{IsSwept, swept-first, swept-on, all-swept, sweep-ends}
use Rattle.ts_combine.proofs.sweep.swept.Goals as goal
use Rattle.ts_combine.proofs.sweep.swept.Goals.{After-stretch_end-end, After-next_reach-there}

pub loop-at-init : goal.loop-at-init
loop-at-init c =
    let line = c.args.line.now in
    let near = line.near in
    let low : line.low ≡ to_z w64 (of_z w64 line.low) = omega (arith, ints, near.0.0, near.0.1) in
    subst (λ (k : ℤ). IsSwept c.args.junction line.calendar.now line.low line.limit c.args.first.now c.args.calendar.now c.args.second.now c.args.other.now c.new-rows.result k c.reach_of-here.result c.reach_of-there.result) low
    (swept-first c.args.junction line.calendar.now line.low line.limit c.args.first.now c.args.calendar.now c.args.second.now c.args.other.now c.new-rows.result c.reach_of-here.result c.reach_of-there.result
    c.new-rows.ensures.gathers c.reach_of-here.ensures.reach c.reach_of-here.ensures.index c.reach_of-there.ensures.reach c.reach_of-there.ensures.index)

-- the stretch lies before the limit
record IsStretch (c : After-stretch_end-end) : Type 0 where
  less : to_z w64 c.loop-at.at-bits <ℤ c.args.line.now.limit
  le : to_z w64 c.loop-at.at-bits ≤ℤ to_z w64 (of_z w64 c.stretch_end-end.result)
  to : to_z w64 (of_z w64 c.stretch_end-end.result) ≤ℤ c.args.line.now.limit
  within : to_z w64 c.loop-at.at-bits <ℤ to_z w64 (of_z w64 c.stretch_end-end.result)
      → (to_z w64 (of_z w64 c.stretch_end-end.result) ≤ℤ reach_end c.loop-at.here (to_z w64 c.loop-at.at-bits)) × (to_z w64 (of_z w64 c.stretch_end-end.result) ≤ℤ reach_end c.loop-at.there (to_z w64 c.loop-at.at-bits))
  over : to_z w64 (of_z w64 c.stretch_end-end.result) ≤ℤ to_z w64 c.loop-at.at-bits
      → (reach_end c.loop-at.here (to_z w64 c.loop-at.at-bits) ≤ℤ to_z w64 c.loop-at.at-bits) ⊎ (reach_end c.loop-at.there (to_z w64 c.loop-at.at-bits) ≤ℤ to_z w64 c.loop-at.at-bits)

a-stretch : (c : After-stretch_end-end) → IsStretch c
a-stretch c =
    let near = c.args.line.now.near in
    let limit_is : to_z w64 (of_z w64 c.args.line.now.limit) ≡ c.args.line.now.limit = omega (arith, ints, near.1.0, near.1.1) in
    let end_is : c.stretch_end-end.result ≡ to_z w64 (of_z w64 c.stretch_end-end.result) = omega (arith, ints) in
    let e = c.stretch_end-end.ensures in
    let test = c.loop-at-test.true in
    let less : to_z w64 c.loop-at.at-bits <ℤ to_z w64 (of_z w64 c.args.line.now.limit) = grind (arith, ints) in
    record {
      less = omega (arith, ints, less, limit_is);
      le = omega (arith, ints, e.from, end_is);
      to = omega (arith, ints, e.to, end_is, limit_is);
      within = subst (λ (k : ℤ). to_z w64 c.loop-at.at-bits <ℤ k → (k ≤ℤ reach_end c.loop-at.here (to_z w64 c.loop-at.at-bits)) × (k ≤ℤ reach_end c.loop-at.there (to_z w64 c.loop-at.at-bits))) end_is e.within;
      over = subst (λ (k : ℤ). k ≤ℤ to_z w64 c.loop-at.at-bits → (reach_end c.loop-at.here (to_z w64 c.loop-at.at-bits) ≤ℤ to_z w64 c.loop-at.at-bits) ⊎ (reach_end c.loop-at.there (to_z w64 c.loop-at.at-bits) ≤ℤ to_z w64 c.loop-at.at-bits)) end_is e.over;
    }

pub add-requires-clause-fits : goal.add-requires-clause-fits
add-requires-clause-fits c =
    let s = a-stretch (goal.at.add-requires-clause-fits c).After-stretch_end-end in
    let near = c.args.line.now.near in
    let way = c.loop-at.invariant in
    let few = way.few in
    let from = way.from in
    omega (arith, ints, few, from, near.0.0, near.1.1, s.less, s.le, s.to, gap-le c.args.line.now.low (to_z w64 c.loop-at.at-bits) way.from, gap-le (to_z w64 c.loop-at.at-bits) (to_z w64 (of_z w64 c.stretch_end-end.result)) s.le)

pub loop-at-smaller : goal.loop-at-smaller
loop-at-smaller c =
    let s = a-stretch (goal.at.loop-at-smaller c).After-stretch_end-end in
    let way = c.loop-at.invariant in
    sweep-ends c.args.calendar.now c.args.other.now c.args.line.now.calendar.now c.args.line.now.limit c.args.first.now.elems.now c.args.second.now.elems.now
    c.loop-at.here c.loop-at.there c.next_reach-here.result c.next_reach-there.result (to_z w64 c.loop-at.at-bits) (to_z w64 (of_z w64 c.stretch_end-end.result))
    way.first.reach way.second.reach c.next_reach-here.ensures.reach c.next_reach-there.ensures.reach s.less s.le s.to s.over c.next_reach-here.ensures.next c.next_reach-there.ensures.next

pub loop-at-preserved : goal.loop-at-preserved
loop-at-preserved c =
    let s = a-stretch (goal.at.loop-at-preserved c).After-stretch_end-end in
    let line = c.args.line.now in
    let at = to_z w64 c.loop-at.at-bits in
    let end = to_z w64 (of_z w64 c.stretch_end-end.result) in
    let more = c.add.new.rows in
    let stamps = starts_up_to line.calendar.now at end in
    swept-on c.args.junction line.calendar.now line.low line.limit c.args.first.now c.args.calendar.now c.args.second.now c.args.other.now c.loop-at.rows more at end
    c.loop-at.here c.loop-at.there c.next_reach-here.result c.next_reach-there.result c.requires.first c.requires.second c.loop-at.invariant s.less s.le s.to s.within
    (λ all gathers. subst (λ (u : Option ℕ). Gathers more (all ++ cond (is_kept c.args.junction u (index_at c.loop-at.there at)) (rows_with u (index_at c.loop-at.there at) stamps) [])) c.index_at-index.ensures
    (subst (λ (v : Option ℕ). Gathers more (all ++ cond (is_kept c.args.junction c.index_at-index.result v) (rows_with c.index_at-index.result v stamps) [])) c.index_at-other_index.ensures
    (c.in_ok-add.ensures.gathers all gathers)))
    c.in_ok-add.ensures.count c.next_reach-here.ensures.reach c.next_reach-here.ensures.next c.next_reach-there.ensures.reach c.next_reach-there.ensures.next

pub returns : goal.returns
returns c =
    let line = c.args.line.now in
    let near = line.near in
    let limit_is : to_z w64 (of_z w64 line.limit) ≡ line.limit = omega (arith, ints, near.1.0, near.1.1) in
    let test = c.loop-at-test.false in
    let over : to_z w64 (of_z w64 line.limit) ≤ℤ to_z w64 c.loop-at.at-bits = grind (arith, ints) in
    all-swept c.args.junction line.calendar.now line.low line.limit c.args.first.now c.args.calendar.now c.args.second.now c.args.other.now c.loop-at.rows (to_z w64 c.loop-at.at-bits) c.loop-at.here c.loop-at.there
    c.loop-at.invariant (omega (arith, ints, over, limit_is))
