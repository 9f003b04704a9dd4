use Rattle.std.proofs.Common.{◌≡◌, ◌≤◌, ◌+◌, IsTrue}
use Rattle.ts_store_vectors.proofs.often.put_often.Given as goal

abbrev pub invariant-loop-time : goal.invariant-loop-time
invariant-loop-time g l = record {
  undisturbed : g.P.Pages.undisturbed l.fn.pages l.pages;
  count : (g.P.Pages.contents l.pages).count ≡ (g.P.Pages.contents l.fn.pages).count;
  free : (g.P.Pages.contents l.pages).free ≡ (g.P.Pages.contents l.fn.pages).free;
  none : l.time ≡ 0 → (g.P.Pages.contents l.pages).change_bytes ≤ (g.P.Pages.contents l.fn.pages).change_bytes;
  bytes : (g.P.Pages.contents l.pages).change_bytes ≤ (g.P.Pages.contents l.fn.pages).change_bytes + 4101;
  imaged : 1 ≤ l.time → IsTrue ((g.P.Pages.contents l.pages).imaged 930);
}
