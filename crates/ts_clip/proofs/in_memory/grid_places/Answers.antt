use Rattle.std.proofs.Common.{arith}
use Rattle.ts_clip.proofs.RangePlaceLemmas.{grid_held, none_held}
use Rattle.ts_clip.proofs.in_memory.grid_places.Goals as goal

pub returns-then-offsets : goal.returns-then-offsets
returns-then-offsets c =
    let o = c.offsets_of-offsets in
    record {
      holds = none_held c.args.grid.now c.requires.laid c.args.kind.now.columns c.args.from c.args.to o.result.lower o.result.upper o.ensures.offsets c.args.places.now (omega (arith, c.if-offsets.true));
    }

pub returns : goal.returns
returns c =
    let o = c.offsets_of-offsets in
    record {
      holds = grid_held c.args.grid.now c.requires.laid c.args.kind.now.columns c.args.from c.args.to o.result.lower o.result.upper o.ensures.offsets c.args.places.now o.result.order c.places_between.result.now
          c.places_between.ensures.between;
    }
