use Rattle.std.proofs.Common.{◌≡◌, ◌+◌, ◌*◌, ◌%◌, ℕ, suc, sym, ◌∙◌, ap, arith}
use Rattle.ts_generator.specs.Generated.{edits_before}
use Rattle.ts_generator.proofs.GeneratedLemmas.{drawn_more}
use Rattle.ts_generator.proofs.generated.draw.Goals as goal

pub returns-then-number-count-clause-value : goal.returns-then-number-count-clause-value
returns-then-number-count-clause-value c = λ seed is.
    let more : edits_before c.args.count (c.args.number + 1) ≡ suc (edits_before c.args.count c.args.number) = omega (arith, c.if-number-ge-OPENING.true, c.if-number-count.true) in
    ap (λ (x : ℕ). (1_103_515_245 * x + 12_345) % 2_147_483_648) is ∙ sym (drawn_more seed (edits_before c.args.count c.args.number) (edits_before c.args.count (c.args.number + 1)) more)
