use Rattle.std.proofs.Common.{drop, length, sym, ap, ◌∙◌, arith}
use Rattle.ts_store_vectors.proofs.stores.taken.Goals as goal

pub take-requires : goal.take-requires
take-requires g c = omega (arith, ap length c.requires)

pub returns-clause-free : goal.returns-clause-free
returns-clause-free g c = ap (drop 1) (sym c.take.ensures.taken.listed ∙ c.requires)
