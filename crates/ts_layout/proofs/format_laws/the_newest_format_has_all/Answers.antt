use Rattle.ts_layout.proofs.FormatLemmas.{of_format_short, of_format_new, elements_of_new, not_old}
use Rattle.ts_layout.proofs.format_laws.the_newest_format_has_all.Goals as goal

pub returns : goal.returns
returns c = record {
  short = of_format_short;
  heading = of_format_new;
  elements = elements_of_new;
  newest = not_old;
}
