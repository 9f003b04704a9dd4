-- The digits two by two.
use Rattle.std.proofs.Common.{◌∷◌, [], slice_index_or, sym, ◌∙◌}
use Rattle.ts_say.proofs.NumberLemmas.{eight_pairs}
use Rattle.ts_say.proofs.say_numbers.eight_digits.Goals as goal

pub returns : goal.returns
returns c =
    let made-1 = c.two_digits.ensures in
    let made-2 = c.two_digits-2.ensures in
    let made-3 = c.two_digits-3.ensures in
    let made-4 = c.two_digits-4.ensures in
    (λ j. slice_index_or (made-1 j) 0 0 ∷ slice_index_or (made-1 j) 1 0 ∷ slice_index_or (made-2 j) 0 0 ∷ slice_index_or (made-2 j) 1 0 ∷ slice_index_or (made-3 j) 0 0 ∷ slice_index_or (made-3 j) 1 0 ∷ slice_index_or (made-4 j) 0 0 ∷ slice_index_or (made-4 j) 1 0 ∷ [])
    ∙ sym (eight_pairs c.args.number c.requires)
