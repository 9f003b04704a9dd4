use Rattle.std.proofs.Common.{arith}
use Rattle.std.proofs.lemmas.Grind.{common_steps}
use Rattle.ts_items.proofs.ItemLemmas.{past_end, past_more, blank_end, statement_end, blank_limit, too_long, goes_on}
use Rattle.ts_items.proofs.reader.Reader.take.Goals as goal

pub returns-then-byte-eq59-clause-after : goal.returns-then-byte-eq59-clause-after
returns-then-byte-eq59-clause-after c = grind (arith, common_steps, past_end)

pub returns-else-byte-eq59-clause-after : goal.returns-else-byte-eq59-clause-after
returns-else-byte-eq59-clause-after c = grind (arith, common_steps, past_more)

pub returns-then-self-clause-after : goal.returns-then-self-clause-after
returns-then-self-clause-after c = grind (arith, common_steps, blank_end)

pub returns-then-ends-2-clause-after : goal.returns-then-ends-2-clause-after
returns-then-ends-2-clause-after c = grind (arith, common_steps, statement_end)

pub returns-then-blank-clause-after : goal.returns-then-blank-clause-after
returns-then-blank-clause-after c = grind (arith, common_steps, blank_limit)

pub returns-then-len-eq-LIMIT-clause-after : goal.returns-then-len-eq-LIMIT-clause-after
returns-then-len-eq-LIMIT-clause-after c = grind (arith, common_steps, too_long)

pub returns-clause-after : goal.returns-clause-after
returns-clause-after c = grind (arith, common_steps, goes_on)
