use Rattle.ts_pattern.proofs.PrintLemmas.{read-printed}
use Rattle.ts_pattern.proofs.text.printed_patterns_are_read.Goals as goal

pub returns : goal.returns
returns c = read-printed
