use Rattle.std.proofs.Common.{Ok, IsTrue}
use Rattle.ts_layout.specs.Rank.{rank_of_page}
use Rattle.ts_container.specs.Reading.{IsReadTo}
use Rattle.ts_container.specs.Survey.{Reads}
use Rattle.ts_container.proofs.SurveyLemmas.{KnownTo}
use Rattle.ts_container.proofs.definitions.read_definitions.Given as goal

abbrev pub invariant-loop-number : goal.invariant-loop-number
invariant-loop-number g l = record {
  call : Reads {T = Unit {0}} g.P.Pages.tells (Ok tt) (g.P.Pages.contents l.fn.pages) (g.P.Pages.contents l.pages);
  undisturbed : g.P.Pages.undisturbed l.fn.pages l.pages;
  read : IsReadTo l.fn.defs.definitions.format (rank_of_page l.number) l.defs.definitions l.broken.items;
  known : IsTrue g.P.Pages.tells → KnownTo l.fn.defs.definitions.format l.number (g.P.Pages.contents l.fn.pages).page l.defs.definitions l.broken.items;
}
