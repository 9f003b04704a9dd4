-- The windows so far are dropped.
use Rattle.std.proofs.Common.{◌≡◌, take}
use Rattle.ts_container.specs.KeptCharges.{AreCharges}
use Rattle.ts_answer.specs.Elements.{without_windows}
use Rattle.ts_rolling_edits.specs.Parts.{seen_on, Came, GrowsByPages}
use Rattle.ts_rolling_edits.proofs.parts.drop_windows.Given as goal

abbrev pub invariant-loop-window : goal.invariant-loop-window
invariant-loop-window g l = record {
  came : Came g.P.Pages.tells (λ cat after. after ≡ without_windows l.set (take l.window-index l.windows) cat) (seen_on l.fn.copies (g.P.Pages.contents l.fn.pages)) (seen_on l.copies (g.P.Pages.contents l.pages));
  charged : AreCharges l.copies.charges l.copies.defs.definitions l.copies.space;
  grows : GrowsByPages (g.P.Pages.contents l.fn.pages) (g.P.Pages.contents l.pages);
  undisturbed : g.P.Pages.undisturbed l.fn.pages l.pages;
}
