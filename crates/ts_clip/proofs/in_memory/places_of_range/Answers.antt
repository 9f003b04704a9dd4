use Rattle.std.proofs.Common.{sym, subst}
use Rattle.ts_offset.specs.declared.shape.Shape.{Shape}
use Rattle.ts_clip.specs.Series.{HoldRange}
use Rattle.ts_clip.proofs.in_memory.places_of_range.Goals as goal

pub returns-in-Irregular : goal.returns-in-Irregular
returns-in-Irregular c = record {
  holds = subst (λ (s : Shape). HoldRange s c.args.kind.now.columns c.args.from c.args.to c.args.places.now c.chain_places.result.now) (sym c.in-Irregular.is)
      (c.chain_places.ensures.holds c.args.kind.now.columns);
}
