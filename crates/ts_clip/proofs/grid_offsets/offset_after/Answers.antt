-- An on start at the stamp is the one whose offset is how many are before it.
use Rattle.std.proofs.Common.{◌≡◌, ℤ, Option, Some, None, refl, sym, ap, ◌∙◌, arith}
use Rattle.ts_regular_edits.proofs.RangeLemmas.{few_before, one_start, up_to_none, up_to_one}
use Rattle.ts_clip.proofs.grid_offsets.offset_after.Goals as goal

pub overflow_add-result : goal.overflow_add-result
overflow_add-result c = let few = few_before c.args.grid.now c.args.stamp in omega (arith, few, c.offset_from-before.ensures)

pub returns-in-Some-clause-few : goal.returns-in-Some-clause-few
returns-in-Some-clause-few c = let few = few_before c.args.grid.now c.args.stamp in omega (arith, few, c.offset_from-before.ensures)

pub returns-in_default-clause-few : goal.returns-in_default-clause-few
returns-in_default-clause-few c = let few = few_before c.args.grid.now c.args.stamp in omega (arith, few, c.offset_from-before.ensures)

pub returns-in_default-2-clause-few : goal.returns-in_default-2-clause-few
returns-in_default-2-clause-few c = let few = few_before c.args.grid.now c.args.stamp in omega (arith, few, c.offset_from-before.ensures)

pub returns-in-Some-clause-after : goal.returns-in-Some-clause-after
returns-in-Some-clause-after c =
    let same : c.in-Some.start ≡ c.args.stamp = c.if-is_same.ensures.yes refl in
    up_to_one c.args.grid.now c.args.stamp c.offset_from-before.result c.offset_from-before.ensures (sym c.stamp_of.ensures.value ∙ c.in-Some.is ∙ ap Some same)

pub returns-in_default-clause-after : goal.returns-in_default-clause-after
returns-in_default-clause-after c = up_to_none c.args.grid.now c.args.stamp c.offset_from-before.result c.offset_from-before.ensures
    (λ there. c.if-is_same.ensures.no refl (one_start c.in-Some.start c.args.stamp (sym c.in-Some.is ∙ c.stamp_of.ensures.value ∙ there)))

pub returns-in_default-2-clause-after : goal.returns-in_default-2-clause-after
returns-in_default-2-clause-after c = up_to_none c.args.grid.now c.args.stamp c.offset_from-before.result c.offset_from-before.ensures
    (λ there. absurd (let clash : ◌≡◌ {A = Option ℤ} None (Some c.args.stamp) = sym c.in_default.is ∙ c.stamp_of.ensures.value ∙ there in cc))
