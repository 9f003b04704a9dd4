use Rattle.std.proofs.Common.{sym, ◌∙◌}
use Rattle.ts_tokens.proofs.TextLemmas.{undoubled_more, undoubled_end, rest_of}
use Rattle.ts_tokens.proofs.text.undoubled.Goals as goal

pub loop-rest-preserved : goal.loop-rest-preserved
loop-rest-preserved c =
    rw (c.in_ok-push.ensures.ok, c.behind_byte-rest.ensures.value, rest_of c.loop-rest.rest.now c.in-len1-up.len_at_least)
    (sym (undoubled_more c.loop-rest.bytes c.loop-rest.rest.now c.in-len1-up.len_at_least) ∙ c.loop-rest.invariant)

pub returns : goal.returns
returns c = sym (undoubled_end c.loop-rest.bytes c.loop-rest.rest.now c.in_default.len_below) ∙ c.loop-rest.invariant
