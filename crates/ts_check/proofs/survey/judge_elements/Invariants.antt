-- The element pages below a number are read.
use Rattle.std.proofs.Common.{◌-◌, ◌<◌, ◌≤◌, Ok, length}
use Rattle.ts_page.specs.Pages.{first_element_page}
use Rattle.ts_container.specs.Elements.{AllRead}
use Rattle.ts_container.specs.Survey.{Reads}
use Rattle.ts_check.proofs.survey.judge_elements.Given as goal

abbrev pub invariant-loop-number : goal.invariant-loop-number
invariant-loop-number g l = record {
  call : Reads {T = Unit {0}} g.P.Pages.tells (Ok tt) (g.P.Pages.contents l.fn.pages) (g.P.Pages.contents l.pages);
  undisturbed : g.P.Pages.undisturbed l.fn.pages l.pages;
  low : first_element_page ≤ l.number;
  high : l.number ≤ l.count;
  some : l.number < l.count → 0 < length l.list.items;
  few : length l.list.items ≤ 4096;
  read : AllRead g.P.Pages.tells (l.number - first_element_page) l.defs.definitions (g.P.Pages.contents l.fn.pages) l.elements.spans.items l.elements.free.items;
}

abbrev pub decreases-loop-number : goal.decreases-loop-number
decreases-loop-number g l = l.count - l.number
