use Rattle.std.proofs.Common.{ℕ, List, [], ◌∷◌, ◌++◌, refl, sym, ◌∙◌, ap, append_assoc}
use Rattle.std.proofs.lemmas.List.{append-nil}
use Rattle.ts_syntax.proofs.LineLemmas.{text_on}
use Rattle.ts_syntax.proofs.line.push_words.Goals as goal

pub loop-byte-init : goal.loop-byte-init
loop-byte-init c = ([], sym (append-nil c.args.line.now), refl)

pub loop-byte-preserved : goal.loop-byte-preserved
loop-byte-preserved c =
    let shown = c.loop-byte.invariant in
    let b = c.mark.result in
    (shown.0 ++ b ∷ [], c.in_ok-push.ensures.ok ∙ ap (λ (l : List ℕ). l ++ b ∷ []) shown.1 ∙ append_assoc c.args.line.now shown.0 (b ∷ []), text_on shown.0 b shown.2 c.mark.ensures)

pub returns : goal.returns
returns c = c.loop-byte.invariant
