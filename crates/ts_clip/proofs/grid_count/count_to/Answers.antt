use Rattle.std.proofs.Common.{◌≡◌, ℕ, ◌^◌, ◌<◌, true, not, is_some, sym, ap, ◌∙◌, arith}
use Rattle.std.specs.Prelude.{int_lt}
use Rattle.std.proofs.lemmas.Option.{slice_get_within}
use Rattle.ts_offset.specs.Grid.{GridPlan, starts_of, stamp_of, on_starts}
use Rattle.ts_regular_edits.proofs.StampLemmas.{some_start}
use Rattle.ts_sheets.proofs.StartLemmas.{all_few, filtered_fewer}
use Rattle.ts_clip.proofs.grid_count.count_to.Goals as goal

-- there are few on starts
few_offsets : (grid : GridPlan) (n : ℕ) → is_some (stamp_of grid n) ≡ true → n < 2 ^ 62
few_offsets grid n some =
    let s = some_start (stamp_of grid n) some in
    let within = slice_get_within (starts_of grid) n s.0 s.1 in
    let fewer = filtered_fewer (λ x. not (int_lt x grid.origin)) (on_starts grid.calendar) in
    let all = all_few grid.calendar in
    omega (arith, within, fewer, all)

pub overflow_add-result : goal.overflow_add-result
overflow_add-result c = let few = few_offsets c.args.grid.now c.in-Some.offset (ap is_some (sym c.stamp_of.ensures.value) ∙ c.if-is_none.ensures) in omega (arith, few)

pub returns-clause-few : goal.returns-clause-few
returns-clause-few c = let few = few_offsets c.args.grid.now c.in-Some.offset (ap is_some (sym c.stamp_of.ensures.value) ∙ c.if-is_none.ensures) in omega (arith, few)
