-- The starts of the common grid are those of one of the calendars, from the later start on.
use Rattle.std.proofs.Common.{◌≡◌, ◌∙◌, ℤ, to_z, of_z, w64, sym, ap, subst, arith}
use Rattle.std.specs.Int.{int_max}
use Rattle.std.proofs.lemmas.Int.{ints}
use Rattle.ts_calendar.proofs.JoinedLemmas.{grid-parts}
use Rattle.ts_offset.specs.Grid.{IsFirstFrom}
use Rattle.ts_combine.specs.Line.{starts_up_to, AllExist}
use Rattle.ts_combine.proofs.CommonLemmas.{line-is, common-starts, all-exist}
use Rattle.ts_combine.proofs.line.common_line.Goals as goal

pub finer-calendar-requires : goal.finer-calendar-requires
finer-calendar-requires c = (grid-parts c.args.first.now c.args.second.now c.args.grid c.requires.grid).0

pub invariant_of-result : goal.invariant_of-result
invariant_of-result c =
    let line = c.finer-calendar.result.now in
    let low = c.first_from.result in
    let limit = c.first_after.result in
    let from = c.first_from.ensures in
    let to = c.first_after.ensures in
    let low_is : low ≡ to_z w64 (of_z w64 low) = omega (arith, ints) in
    let limit_is : limit ≡ to_z w64 (of_z w64 limit) = omega (arith, ints) in
    let near = from.first.near in
    let far = to.first.near in
    record {
      near = ((omega (arith, ints, low_is, near.0), omega (arith, ints, low_is, near.1)), (omega (arith, ints, limit_is, far.0), omega (arith, ints, limit_is, far.1)));
      exist = subst (λ (k : ℤ). AllExist line k (to_z w64 (of_z w64 limit))) low_is (subst (AllExist line low) limit_is
          (all-exist line c.later-start.result c.args.to low limit from.laid from.stamp to.stamp from.line to.line));
    }

pub returns : goal.returns
returns c =
    let a = c.args.first.now in
    let b = c.args.second.now in
    let line = c.finer-calendar.result.now in
    let low = c.first_from.result in
    let limit = c.first_after.result in
    let low_is : low ≡ to_z w64 (of_z w64 low) = omega (arith, ints) in
    let limit_is : limit ≡ to_z w64 (of_z w64 limit) = omega (arith, ints) in
    let start : c.later-start.result ≡ int_max c.args.from (int_max a.start b.start) =
    c.later-start.ensures ∙ ap (int_max c.args.from) (c.later.ensures ∙ ap (λ s. int_max s c.start.result) c.start_of.ensures.value ∙ ap (int_max a.start) c.start.ensures.value) in
    let is = line-is a b line c.args.grid c.start_of.ensures.laid c.first_from.ensures.laid c.requires.early c.requires.grid c.finer-calendar.ensures in
    sym (common-starts a b line c.args.grid is c.args.from c.args.to low limit (subst (λ (s : ℤ). IsFirstFrom line s low) start c.first_from.ensures.first) c.first_after.ensures.first
    ∙ ap (λ k. starts_up_to line k limit) low_is ∙ ap (starts_up_to line (to_z w64 (of_z w64 low))) limit_is)
