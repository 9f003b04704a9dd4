-- Each step goes on with a number of one digit less.
use Rattle.ts_row.proofs.print.+print_decimal.Given as goal

abbrev pub decreases-print_decimal : goal.decreases-print_decimal
decreases-print_decimal l = l.number
