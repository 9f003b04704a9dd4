use Rattle.std.proofs.Common.{ℕ, List, [], ◌∷◌, ◌++◌, decimal, sym, ◌∙◌, ap, subst}
use Rattle.ts_syntax.specs.Lines.{IsLine}
use Rattle.ts_syntax.proofs.LineLemmas.{line_is}
use Rattle.ts_syntax.proofs.line.make_line.Goals as goal

pub returns : goal.returns
returns c = λ mistake here named.
    let position = c.args.position in
    let name : List ℕ = c.args.name.now in
    let words = c.in_ok-push_words.ensures in
    let number = c.in_ok-push_number.ensures ∙ ap (λ (l : List ℕ). l ++ decimal position.line) c.new-line.ensures in
    let colon = c.in_ok-push.ensures.ok ∙ ap (λ (l : List ℕ). l ++ 58 ∷ []) number in
    let second = c.in_ok-push_number-2.ensures ∙ ap (λ (l : List ℕ). l ++ decimal position.column) colon in
    let place = c.in_ok-extend_from_slice.ensures.ok ∙ ap (λ (l : List ℕ). l ++ 58 ∷ 32 ∷ []) second in
    let named_so = c.in_ok-extend_from_slice-2.ensures.ok ∙ ap (λ (l : List ℕ). l ++ name) place in
    let front = c.in_ok-extend_from_slice-3.ensures.ok ∙ ap (λ (l : List ℕ). l ++ 58 ∷ 32 ∷ []) named_so in
    let whole = c.in_ok-push-2.ensures.ok ∙ ap (λ (l : List ℕ). l ++ 10 ∷ []) (words.1 ∙ ap (λ (l : List ℕ). l ++ words.0) front) in
    subst (IsLine mistake) (sym whole) (line_is mistake position name words.0 here named words.2)
