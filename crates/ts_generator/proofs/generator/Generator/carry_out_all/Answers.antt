use Rattle.std.proofs.Common.{arith}
use Rattle.ts_generator.proofs.ReachedLemmas.{reached_first, reached_ready, reached_few, reached_random, reached_more, reached_stopped}
use Rattle.ts_generator.proofs.ReachedLemmas.{reached_all}
use Rattle.ts_generator.proofs.generator.Generator.carry_out_all.Goals as goal

pub loop-number-init : goal.loop-number-init
loop-number-init g c =
    let v = g.S.Volume.device c.args.site.now in
    record {
      bound = c.first_drawn-random.ensures.bound;
      reached =
          reached_first g.S.Volume.tells c.args.count c.args.seed c.args.self.now.engine v c.first_drawn-random.result c.args.self.now v
          c.first_drawn-random.ensures.value c.requires.start;
    }

pub carry_out_next-requires-clause-ready : goal.carry_out_next-requires-clause-ready
carry_out_next-requires-clause-ready g c = λ lifetimes outlive.
    let v = g.S.Volume.device c.args.site.now in
    let x = g.S.Volume.device c.loop-number.site in
    reached_ready g.S.Volume.tells c.args.count c.args.seed c.args.self.now.engine v c.loop-number.number c.loop-number.random
    c.loop-number.self x c.loop-number.invariant.reached

pub carry_out_next-requires-clause-few : goal.carry_out_next-requires-clause-few
carry_out_next-requires-clause-few g c = λ lifetimes outlive.
    let v = g.S.Volume.device c.args.site.now in
    let x = g.S.Volume.device c.loop-number.site in
    reached_few g.S.Volume.tells c.args.count c.args.seed c.args.self.now.engine v c.loop-number.number c.loop-number.random
    c.loop-number.self x c.loop-number.invariant.reached c.requires.count

pub loop-number-preserved : goal.loop-number-preserved
loop-number-preserved g c =
    let tells = g.S.Volume.tells in
    let e = c.args.self.now.engine in
    let v = g.S.Volume.device c.args.site.now in
    let x = g.S.Volume.device c.loop-number.site in
    let w = g.S.Volume.device c.carry_out_next.new.site in
    let random =
    reached_random tells c.args.count c.args.seed e v c.loop-number.number c.loop-number.random c.loop-number.self x
    c.loop-number.invariant.reached c.draw-random.result c.draw-random.ensures.value in
    record {
      bound = c.draw-random.ensures.bound;
      reached =
          reached_more tells c.args.count c.args.seed e v c.loop-number.number c.loop-number.random c.loop-number.self x
          c.loop-number.invariant.reached c.draw-random.result c.carry_out_next.new.self w
          (omega (arith, c.loop-number-test.true, c.command_count.ensures)) random (c.in-Ok.ensures.next c.args.seed random);
    }

pub returns-in-Err-clause-stopped : goal.returns-in-Err-clause-stopped
returns-in-Err-clause-stopped g c = λ is.
    let tells = g.S.Volume.tells in
    let e = c.args.self.now.engine in
    let v = g.S.Volume.device c.args.site.now in
    let x = g.S.Volume.device c.loop-number.site in
    let w = g.S.Volume.device c.carry_out_next.new.site in
    let random =
    reached_random tells c.args.count c.args.seed e v c.loop-number.number c.loop-number.random c.loop-number.self x
    c.loop-number.invariant.reached c.draw-random.result c.draw-random.ensures.value in
    reached_stopped tells c.args.count c.args.seed e v c.loop-number.number c.loop-number.random c.loop-number.self x
    c.loop-number.invariant.reached c.carry_out_next.new.self w c.in-Err.fault (c.in-Err.ensures.stopped c.args.seed random)

pub returns-clause-behind : goal.returns-clause-behind
returns-clause-behind g c =
    let v = g.S.Volume.device c.args.site.now in
    let x = g.S.Volume.device c.loop-number.site in
    reached_all g.S.Volume.tells c.args.count c.args.seed c.args.self.now.engine v c.loop-number.number c.loop-number.random
    c.loop-number.self x c.loop-number.invariant.reached (omega (arith, c.loop-number-test.false, c.command_count.ensures))
