use Rattle.std.proofs.Common.{[], ◌∷◌, ap, sym, ◌∙◌, arith, pos}
use Rattle.ts_space.specs.declared.place.Place.{Place}
use Rattle.ts_regular.proofs.CutsLemmas.{kept_is}
use Rattle.ts_regular.proofs.clear.kept.Goals as goal

pub returns-in-false-false : goal.returns-in-false-false
returns-in-false-false c =
    let d : Place = record { at = pos 0; page = 0; count = 0 } in
    sym ((kept_is c.args.left.front c.args.left.back c.args.places.now d c.requires.some c.requires.alone).0 (omega (arith, c.in-false-false.is-0)) (omega (arith, c.in-false-false.is-1)))

pub returns-in-true-false : goal.returns-in-true-false
returns-in-true-false c =
    let d : Place = record { at = pos 0; page = 0; count = 0 } in
    ap (λ (p : Place). p ∷ []) c.recounted-front.ensures ∙ sym ((kept_is c.args.left.front c.args.left.back c.args.places.now d c.requires.some c.requires.alone).1 c.in-true-false.is-0 (omega (arith, c.in-true-false.is-1)))

pub returns-in-false-true : goal.returns-in-false-true
returns-in-false-true c =
    let d : Place = record { at = pos 0; page = 0; count = 0 } in
    ap (λ (p : Place). p ∷ []) c.recounted-back.ensures ∙ sym ((kept_is c.args.left.front c.args.left.back c.args.places.now d c.requires.some c.requires.alone).2 (omega (arith, c.in-false-true.is-0)) c.in-false-true.is-1)

pub returns-in-true-true : goal.returns-in-true-true
returns-in-true-true c =
    let d : Place = record { at = pos 0; page = 0; count = 0 } in
    (λ j. c.recounted-front.ensures j ∷ c.recounted-back.ensures j ∷ []) ∙ sym ((kept_is c.args.left.front c.args.left.back c.args.places.now d c.requires.some c.requires.alone).3 c.in-true-true.is-0 c.in-true-true.is-1)
