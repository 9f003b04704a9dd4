use Rattle.std.proofs.Common.{◌≡◌, ◌-◌, pos, ◌+ℤ◌, to_z, of_z, w64, ap, sym, ◌∙◌, arith, length}
use Rattle.std.proofs.lemmas.Int.{ints}
use Rattle.ts_base.specs.Moment.{stamp_if_any}
use Rattle.ts_irregular.proofs.BytesLemmas.{cell_within}
use Rattle.ts_chain.proofs.BehindLemmas.{full, none_before, behind_it, is_stamp}
use Rattle.ts_chain.proofs.place.behind_last.Goals as goal

pub returns-in_default : goal.returns-in_default
returns-in_default c = λ es order count same. full c.args.end es c.in_default.field-0 c.args.kind.now.columns order (sym c.in_default.is ∙ c.search.ensures.ok es order count same)

pub returns-then-rank-eq0 : goal.returns-then-rank-eq0
returns-then-rank-eq0 c = λ es order count same. none_before c.args.end es c.in-Err.rank c.args.kind.now.columns order (sym c.in-Err.is ∙ c.search.ensures.ok es order count same) c.if-rank-eq0.true

pub units_at-requires-clause-within : goal.units_at-requires-clause-within
units_at-requires-clause-within c =
    cell_within c.args.kind.now.columns c.cell_size.result (c.in-Err.rank - 1) (length c.args.behind.now) c.cell_size.ensures.value (omega (arith, c.in-Err.ensures.within, c.if-rank-eq0.false, c.requires.room)) c.requires.size

pub returns-in_err-last : goal.returns-in_err-last
returns-in_err-last c = λ es order count same.
    absurd (is_stamp c.args.kind.now.columns c.args.end c.cell_size.result c.in-Err.rank (c.in-Err.rank - 1) c.units_at.result es c.args.behind.now c.requires.last c.cell_size.ensures.value (omega (arith, c.if-rank-eq0.false)) order (omega (arith, c.in-Err.ensures.within, count))
    same (sym c.in-Err.is ∙ c.search.ensures.ok es order count same) c.units_at.ensures (sym c.in_err-last.was ∙ c.of.ensures))

pub returns : goal.returns
returns c = λ es order count same.
    let more : to_z w64 (of_z w64 (to_z w64 (of_z w64 c.units.result) +ℤ pos 1)) ≡ c.in_ok-last.last +ℤ pos 1 = omega (arith, ints, c.units.ensures.value, c.units.ensures.within.0, c.units.ensures.within.1) in
    behind_it c.args.kind.now.columns c.args.end c.cell_size.result c.in-Err.rank (c.in-Err.rank - 1) c.units_at.result es c.args.behind.now c.requires.last c.cell_size.ensures.value (omega (arith, c.if-rank-eq0.false)) order (omega (arith, c.in-Err.ensures.within, count))
    same (sym c.in-Err.is ∙ c.search.ensures.ok es order count same) c.units_at.ensures c.in_ok-last.last (sym c.in_ok-last.was ∙ c.of.ensures) c.of-2.result (c.of-2.ensures ∙ ap stamp_if_any more)
