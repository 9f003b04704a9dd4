use Rattle.std.proofs.Common.{◌≡◌, ℕ, ◌+◌, ◌-◌, ◌≤◌, length, vec_capacity, arith, subst, sym}
use Rattle.ts_space.proofs.DirectoryLemmas.{Grown, more_grown}
use Rattle.ts_space.proofs.space.grow.Goals as goal

pub loop-preserved : goal.loop-preserved
loop-preserved c =
    let old = c.args.lists.now.items in
    let long : length old ≤ c.loop.counter = omega (arith, c.loop.auto.counter, c.len-counter.ensures, c.args.lists.now.ok.0) in
    let next : c.loop.counter - length old + 1 ≡ c.loop.counter + 1 - length old = omega (arith, long) in
    let free = c.new.ensures.capacity in
    record {
      grown = subst (λ (n : ℕ). Grown n old c.push.new.self.items c.args.counts.now.items c.push-in-loop.new.self.items) next
          (more_grown old c.loop.lists.items c.push.new.self.items c.new.result (c.loop.counter - length old) c.loop.invariant.grown c.in-Ok.ensures.items c.in-Ok-push.ensures.items c.new.ensures.items (omega (arith, free)));
      last = omega (arith, c.loop-test.true);
      room = omega (arith, c.loop.invariant.room, c.push.ensures.capacity);
      counts_room = omega (arith, c.loop.invariant.counts_room, c.push-in-loop.ensures.capacity);
    }

pub returns-clause-grown : goal.returns-clause-grown
returns-clause-grown c =
    let old = c.args.lists.now.items in
    let size = c.len-counter.ensures in
    let known = c.args.lists.now.ok.0 in
    let low = c.loop.auto.counter in
    let last = c.loop.invariant.last in
    let past = c.loop-test.false in
    let n : c.loop.counter - length old ≡ c.args.slot + 1 - length old = omega (arith, size, known, low, last, past) in
    subst (λ (n : ℕ). Grown n old c.loop.lists.items c.args.counts.now.items c.loop.counts.items) n c.loop.invariant.grown
