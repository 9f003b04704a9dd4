use Rattle.ts_layout.proofs.FormatLemmas.{format_edited}
use Rattle.ts_layout.proofs.format_laws.the_elements_of_a_page_are_of_the_format.Goals as goal

pub returns : goal.returns
returns c = record { edited = format_edited }
