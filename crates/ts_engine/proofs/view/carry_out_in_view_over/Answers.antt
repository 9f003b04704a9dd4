use Rattle.std.proofs.Common.{arith}
use Rattle.ts_engine.proofs.view.carry_out_in_view_over.Goals as goal

pub carry_out_in_pages-requires-clause-few : goal.carry_out_in_pages-requires-clause-few
carry_out_in_pages-requires-clause-few g c = omega (arith, c.requires.given.seen.kept.most)
