-- The digits two by two, the first of them left out where it is none.
use Rattle.std.proofs.Common.{◌≡◌, ℕ, List, [], ◌∷◌, ◌++◌, slice_index_or, sym, ap, ◌∙◌, append_assoc}
use Rattle.std.specs.Fmt.{decimal}
use Rattle.std.proofs.lemmas.Result.{on_ok_weaker}
use Rattle.ts_base.specs.Moment.{digit, two_digits}
use Rattle.ts_say.proofs.DigitsLemmas.{one_digit, both_digits}
use Rattle.ts_say.proofs.say_numbers.say_two_digits.Goals as goal

pub returns-then-number-lt10-clause-ok : goal.returns-then-number-lt10-clause-ok
returns-then-number-lt10-clause-ok c =
    let made-1 = c.two_digits.ensures in
    let said : digit c.args.number ∷ c.args.behind ∷ [] ≡ decimal c.args.number ++ c.args.behind ∷ [] = sym (ap (λ (l : List ℕ). l ++ c.args.behind ∷ []) (one_digit c.args.number c.if-number-lt10.true)) in
    on_ok_weaker c.extend_from_slice.result (λ last. last ∙ (λ j. c.args.out.now ++ slice_index_or (made-1 j) 1 0 ∷ c.args.behind ∷ []) ∙ ap (λ (l : List ℕ). c.args.out.now ++ l) said
    ∙ sym (append_assoc c.args.out.now (decimal c.args.number) (c.args.behind ∷ []))) c.extend_from_slice.ensures.ok

pub returns-clause-ok : goal.returns-clause-ok
returns-clause-ok c =
    let made-1 = c.two_digits.ensures in
    let said : two_digits c.args.number ++ c.args.behind ∷ [] ≡ decimal c.args.number ++ c.args.behind ∷ [] = sym (ap (λ (l : List ℕ). l ++ c.args.behind ∷ []) (both_digits c.args.number c.if-number-lt10.false c.requires)) in
    on_ok_weaker c.extend_from_slice-2.result (λ last. last ∙ (λ j. c.args.out.now ++ slice_index_or (made-1 j) 0 0 ∷ slice_index_or (made-1 j) 1 0 ∷ c.args.behind ∷ []) ∙ ap (λ (l : List ℕ). c.args.out.now ++ l) said
    ∙ sym (append_assoc c.args.out.now (decimal c.args.number) (c.args.behind ∷ []))) c.extend_from_slice-2.ensures.ok
