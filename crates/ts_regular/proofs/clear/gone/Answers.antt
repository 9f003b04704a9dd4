use Rattle.std.proofs.Common.{ap, ◌∙◌, arith}
use mir.Val.{bool_byte}
use Rattle.ts_regular.proofs.OffsetLemmas.{lt_yes, lt_no}
use Rattle.ts_regular.proofs.CutsLemmas.{gone_is}
use Rattle.ts_regular.proofs.clear.gone.Goals as goal

pub returns : goal.returns
returns c =
    gone_is c.args.left.front c.args.left.back c.from-start.result c.from.result c.args.places.now c.requires.some c.requires.alone
    (λ none. c.from-start.ensures ∙ ap bool_byte (lt_no 0 c.args.left.front (omega (arith, none)))) (λ some. c.from-start.ensures ∙ ap bool_byte (lt_yes 0 c.args.left.front some))
    (λ none. c.from.ensures ∙ ap bool_byte (lt_no 0 c.args.left.back (omega (arith, none)))) (λ some. c.from.ensures ∙ ap bool_byte (lt_yes 0 c.args.left.back some))
