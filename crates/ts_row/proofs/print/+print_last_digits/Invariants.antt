-- Each step goes on with one digit less.
use Rattle.ts_row.proofs.print.+print_last_digits.Given as goal

abbrev pub decreases-print_last_digits : goal.decreases-print_last_digits
decreases-print_last_digits l = l.count
