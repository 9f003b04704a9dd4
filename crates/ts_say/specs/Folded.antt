-- The law of lines that are said behind others. It stands here since the law of a trait takes its proof from specs/.
use Rattle.std.specs.Prelude.{◌≡◌, ℕ, List, ◌++◌}
use Rattle.std.specs.List.{flat_map}
use Rattle.std.proofs.Common.{sym, ap, ◌∙◌, append_assoc}
use Rattle.std.proofs.lemmas.List.Concat.{flat_map-append}
use Rattle.ts_row.specs.Row.{Element}
use Rattle.ts_answer.specs.Reply.{folded_line}

-- lines, and others behind them with the same scales, are those of both
pub folded_then : (scales same a b c : List ℕ) (es fs : List Element) → same ≡ scales →
    b ≡ a ++ flat_map (folded_line scales) es → c ≡ b ++ flat_map (folded_line same) fs →
    c ≡ a ++ flat_map (folded_line scales) (es ++ fs)
folded_then scales same a b c es fs is first second =
    second ∙ ap (λ (l : List ℕ). b ++ flat_map (folded_line l) fs) is
    ∙ ap (λ (l : List ℕ). l ++ flat_map (folded_line scales) fs) first
    ∙ append_assoc a (flat_map (folded_line scales) es) (flat_map (folded_line scales) fs)
    ∙ ap (λ (l : List ℕ). a ++ l) (sym (flat_map-append (folded_line scales) es fs))
