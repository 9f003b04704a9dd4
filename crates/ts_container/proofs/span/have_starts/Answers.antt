use Rattle.std.proofs.Common.{◌≡◌, ℕ, ◌+◌, sym, ap, ◌∙◌, arith}
use Rattle.std.specs.Option.{is_some}
use Rattle.ts_offset.specs.Grid.{stamp_of}
use Rattle.ts_container.proofs.StartLemmas.{starts_all, start_last, few_with_start}
use Rattle.ts_container.proofs.span.have_starts.Goals as goal

pub returns-in-Some-clause-starts : goal.returns-in-Some-clause-starts
returns-in-Some-clause-starts c = λ base cells has.
    let grid = c.args.grid.now in
    let extent = c.args.extent.now in
    let at : c.in-Some.last ≡ base + extent.last = c.in-Some.ensures.1 ∙ ap (λ (n : ℕ). n + extent.last) (sym has.begins) in
    let same = c.is_some.ensures ∙ ap (λ o. is_some o) (c.stamp_of.ensures.value ∙ ap (stamp_of grid) at) in (
      λ there. starts_all grid base cells extent has (sym same ∙ there),
      λ all. same ∙ start_last grid base cells extent has all,
    )

pub returns-in-Some-clause-low : goal.returns-in-Some-clause-low
returns-in-Some-clause-low c = λ there.
    let some = sym (c.is_some.ensures ∙ ap (λ o. is_some o) c.stamp_of.ensures.value) ∙ there in
    omega (arith, few_with_start c.args.grid.now c.in-Some.last some, c.in-Some.ensures.1)

pub returns-in-None-clause-starts : goal.returns-in-None-clause-starts
returns-in-None-clause-starts c = λ base cells has. (
  λ there. absurd (cc),
  λ all.
      let few = few_with_start c.args.grid.now (base + c.args.extent.now.last) (start_last c.args.grid.now base cells c.args.extent.now has all) in
      absurd (c.in-None.ensures (omega (arith, few, has.begins))),
)
