use Rattle.ts_row.proofs.DigitsLemmas.{number_text-writes}
use Rattle.ts_row.proofs.laws.printed_digits_write_the_size.Goals as goal

pub returns : goal.returns
returns c = number_text-writes
