use Rattle.ts_answer_laws.proofs.IntervalLemmas.{addressed_any, addressed_there, addressed_before, addressed_off}
use Rattle.ts_answer_laws.proofs.laws.a_stamp_addresses_its_interval.Goals as goal

pub returns : goal.returns
returns c = record { any = addressed_any; there = addressed_there; before = addressed_before; off = addressed_off }
