-- The first pages are read.
use Rattle.std.proofs.Common.{◌≡◌, ℕ, ◌+◌, ◌<◌, IsTrue, Some, Ok}
use Rattle.std.specs.List.{slice_get}
use Rattle.ts_container.specs.Survey.{Reads}
use Rattle.ts_check.specs.declared.page_list.PageRead.{PageRead}
use Rattle.ts_check.proofs.page_list.read_list.Given as goal

abbrev pub invariant-loop-place : goal.invariant-loop-place
invariant-loop-place g l = record {
  call : Reads {T = Unit {0}} g.P.Pages.tells (Ok tt) (g.P.Pages.contents l.fn.pages) (g.P.Pages.contents l.pages);
  undisturbed : g.P.Pages.undisturbed l.fn.pages l.pages;
  numbers : (k : ℕ) (read : PageRead) → k < l.place → slice_get l.list k ≡ Some read → read.number ≡ l.first + k;
  bytes : (k : ℕ) (read : PageRead) → k < l.place → slice_get l.list k ≡ Some read → IsTrue g.P.Pages.tells → read.page.bytes ≡ (g.P.Pages.contents l.fn.pages).page read.number;
}
