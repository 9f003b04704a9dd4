-- The digits two by two, the first of them left out where it is none.
use Rattle.std.proofs.Common.{◌≡◌, ℕ, ◌/◌, ◌%◌, List, [], ◌∷◌, ◌++◌, slice_index_or, sym, ap, ◌∙◌, append_assoc, arith}
use Rattle.std.specs.Fmt.{decimal}
use Rattle.std.proofs.lemmas.Result.{on_ok_weaker}
use Rattle.ts_base.specs.Moment.{digit, two_digits}
use Rattle.ts_say.proofs.DigitsLemmas.{one_digit, both_digits, behind_four}
use Rattle.ts_say.proofs.say_numbers.say_four_digits.Goals as goal

pub returns-then-number-lt1000-clause-ok : goal.returns-then-number-lt1000-clause-ok
returns-then-number-lt1000-clause-ok c =
    let made-1 = c.two_digits.ensures in
    let made-2 = c.two_digits-2.ensures in
    let said : digit (c.args.number / 100) ∷ two_digits (c.args.number % 100) ++ c.args.behind ∷ [] ≡ decimal c.args.number ++ c.args.behind ∷ [] = sym (behind_four c.args.number c.args.behind (digit (c.args.number / 100) ∷ []) c.requires.least (omega (arith, c.requires.most)) (one_digit (c.args.number / 100) (omega (arith, c.if-number-lt1000.true)))) in
    on_ok_weaker c.extend_from_slice.result (λ last. last ∙ (λ j. c.args.out.now ++ slice_index_or (made-1 j) 1 0 ∷ slice_index_or (made-2 j) 0 0 ∷ slice_index_or (made-2 j) 1 0 ∷ c.args.behind ∷ []) ∙ ap (λ (l : List ℕ). c.args.out.now ++ l) said
    ∙ sym (append_assoc c.args.out.now (decimal c.args.number) (c.args.behind ∷ []))) c.extend_from_slice.ensures.ok

pub returns-clause-ok : goal.returns-clause-ok
returns-clause-ok c =
    let made-1 = c.two_digits.ensures in
    let made-2 = c.two_digits-2.ensures in
    let said : two_digits (c.args.number / 100) ++ two_digits (c.args.number % 100) ++ c.args.behind ∷ [] ≡ decimal c.args.number ++ c.args.behind ∷ [] = sym (behind_four c.args.number c.args.behind (two_digits (c.args.number / 100)) c.requires.least (omega (arith, c.requires.most)) (both_digits (c.args.number / 100) (omega (arith, c.if-number-lt1000.false)) (omega (arith, c.requires.most)))) in
    on_ok_weaker c.extend_from_slice-2.result (λ last. last ∙ (λ j. c.args.out.now ++ slice_index_or (made-1 j) 0 0 ∷ slice_index_or (made-1 j) 1 0 ∷ slice_index_or (made-2 j) 0 0 ∷ slice_index_or (made-2 j) 1 0 ∷ c.args.behind ∷ []) ∙ ap (λ (l : List ℕ). c.args.out.now ++ l) said
    ∙ sym (append_assoc c.args.out.now (decimal c.args.number) (c.args.behind ∷ []))) c.extend_from_slice-2.ensures.ok
