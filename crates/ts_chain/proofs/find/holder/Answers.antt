use Rattle.std.proofs.Common.{◌≡◌, ℤ, ◌-◌, ap, sym, ◌∙◌, arith, w64, to_z, of_z}
use Rattle.std.proofs.lemmas.Int.{to_z-of_z, ints}
use Rattle.ts_space.specs.Place.{search_of}
use Rattle.ts_chain.proofs.PlaceLemmas.{holder_ok, holder_err, holder_none}
use Rattle.ts_chain.proofs.find.holder.Goals as goal

pub returns-in-Ok-clause-some : goal.returns-in-Ok-clause-some
returns-in-Ok-clause-some c =
    let units : to_z w64 (of_z w64 c.units.result) ≡ c.args.stamp =
    to_z-of_z w64 c.units.result (omega (arith, ints, c.units.ensures.within.0, c.units.ensures.within.1)) ∙ c.units.ensures.value in
    holder_ok c.args.stamp c.args.places.now c.in-Ok.index c.requires (sym c.in-Ok.is ∙ c.search.ensures.ok ∙ ap (λ (z : ℤ). search_of z c.args.places.now) units)

pub returns-in-Err-eq0-clause-none : goal.returns-in-Err-eq0-clause-none
returns-in-Err-eq0-clause-none c = λ none.
    let units : to_z w64 (of_z w64 c.units.result) ≡ c.args.stamp =
    to_z-of_z w64 c.units.result (omega (arith, ints, c.units.ensures.within.0, c.units.ensures.within.1)) ∙ c.units.ensures.value in
    holder_none c.args.stamp c.args.places.now c.in-Err-eq0.field-0 c.requires (sym c.in-Err-eq0.is ∙ c.search.ensures.ok ∙ ap (λ (z : ℤ). search_of z c.args.places.now) units) c.in-Err-eq0.field-0-test

pub returns-in-Err-clause-some : goal.returns-in-Err-clause-some
returns-in-Err-clause-some c =
    let units : to_z w64 (of_z w64 c.units.result) ≡ c.args.stamp =
    to_z-of_z w64 c.units.result (omega (arith, ints, c.units.ensures.within.0, c.units.ensures.within.1)) ∙ c.units.ensures.value in
    holder_err c.args.stamp c.args.places.now c.in-Err.index (c.in-Err.index - 1) c.requires (sym c.in-Err.is ∙ c.search.ensures.ok ∙ ap (λ (z : ℤ). search_of z c.args.places.now) units) (omega arith)
