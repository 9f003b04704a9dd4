use Rattle.ts_row.specs.Row.{scale_of, literal_of, literals_of}
use Rattle.ts_arguments.proofs.PrintedLemmas.{value-read, values-read}
use Rattle.ts_arguments.proofs.laws.printed_values_are_read_again.Goals as goal

pub returns-clause-value : goal.returns-clause-value
returns-clause-value c = λ kind value rest valid held ends. (
  literal_of (scale_of kind) value,
  value-read c.printed_digits_write_the_size.ensures kind value rest valid held ends,
  c.printed_values_fit_again.ensures.value kind value valid held,
)

pub returns-clause-row : goal.returns-clause-row
returns-clause-row c = λ columns row rest some valid fit. (
  literals_of columns row,
  values-read c.printed_digits_write_the_size.ensures columns row.values rest some valid fit,
  c.printed_values_fit_again.ensures.row columns row valid fit,
)
