use Rattle.std.proofs.Common.{ℕ, ◌<◌, ◌≤◌, Ok, IsTrue}
use Rattle.ts_volume.specs.FirstBad.{HoldsSlots}
use Rattle.ts_container.specs.Survey.{Reads}
use Rattle.ts_container.proofs.judge.judge_pages.Given as goal

abbrev pub invariant-loop-number : goal.invariant-loop-number
invariant-loop-number g l = record {
  call : Reads {T = Unit {0}} g.P.Pages.tells (Ok tt) (g.P.Pages.contents l.fn.pages) (g.P.Pages.contents l.pages);
  undisturbed : g.P.Pages.undisturbed l.fn.pages l.pages;
  all : IsTrue g.P.Pages.tells → (n : ℕ) → l.first ≤ n → n < l.number → HoldsSlots l.format (g.P.Pages.contents l.fn.pages).page n;
}
