use Rattle.std.proofs.Common.{arith}
use Rattle.ts_engine.proofs.reading.read_in_view_over.Goals as goal

pub read_in_pages-requires-clause-few : goal.read_in_pages-requires-clause-few
read_in_pages-requires-clause-few g c = omega (arith, c.requires.seen.kept.most)
