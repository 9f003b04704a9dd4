use Rattle.ts_layout.proofs.LayoutLemmas.{same_definitions, same_element_pages, same_layout, same_catalogue}
use Rattle.ts_layout.proofs.laws.pages_mean_one_catalogue.Goals as goal

pub returns : goal.returns
returns c = record {
  definitions = same_definitions;
  element_pages = same_element_pages;
  layout = same_layout;
  catalogue = same_catalogue;
}
