use Rattle.std.proofs.Common.{sym, ◌∙◌, arith}
use Rattle.ts_tokens.proofs.TokenLemmas.{past_byte, at_other_byte, at_single_quote, past_doubled_quote, at_end}
use Rattle.ts_tokens.proofs.token.closing.Goals as goal

pub returns-then-not-is_doubled-clause-value : goal.returns-then-not-is_doubled-clause-value
returns-then-not-is_doubled-clause-value c =
    sym (c.loop-at.invariant.same ∙ at_single_quote c.loop-at.last c.args.bytes.now c.loop-at.at c.loop-at-test.true c.if-bytes-at-eq39.true (sym c.is_doubled.ensures.value ∙ c.if-not-is_doubled.true))

pub loop-at-preserved-then-bytes-at-eq39 : goal.loop-at-preserved-then-bytes-at-eq39
loop-at-preserved-then-bytes-at-eq39 c = record {
  within = omega (arith, c.is_doubled.ensures.within c.if-not-is_doubled.false);
  last = omega arith;
  same = c.loop-at.invariant.same ∙ past_doubled_quote c.loop-at.last c.args.bytes.now c.loop-at.at c.loop-at-test.true c.if-bytes-at-eq39.true (sym c.is_doubled.ensures.value ∙ c.if-not-is_doubled.false);
}

pub loop-at-preserved : goal.loop-at-preserved
loop-at-preserved c = record {
  within = omega arith;
  last = c.loop-at.invariant.last;
  same = c.loop-at.invariant.same ∙ past_byte c.loop-at.last c.args.bytes.now c.loop-at.at c.loop-at-test.true c.if-bytes-at-eq39.false (sym c.is_text_byte.ensures ∙ c.if-is_text_byte.true);
}

pub returns-else-is_text_byte-clause-value : goal.returns-else-is_text_byte-clause-value
returns-else-is_text_byte-clause-value c =
    sym (c.loop-at.invariant.same ∙ at_other_byte c.loop-at.last c.args.bytes.now c.loop-at.at c.loop-at-test.true c.if-bytes-at-eq39.false (sym c.is_text_byte.ensures ∙ c.if-is_text_byte.false))

pub returns-clause-value : goal.returns-clause-value
returns-clause-value c = sym (c.loop-at.invariant.same ∙ at_end c.loop-at.last c.args.bytes.now c.loop-at.at c.loop-at-test.false)
