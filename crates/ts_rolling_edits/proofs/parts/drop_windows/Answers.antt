use Rattle.std.proofs.Common.{◌≡◌, ℕ, ◌+◌, List, take, refl, ap, ◌∙◌, arith}
use Rattle.std.proofs.lemmas.List.{take_all}
use Rattle.ts_layout.specs.Meaning.{catalogue_of}
use Rattle.ts_answer.specs.Elements.{without_windows}
use Rattle.ts_rolling_edits.specs.Parts.{seen_on, IsWithout, Never}
use Rattle.ts_rolling_edits.proofs.PartLemmas.{came_copied, came_then, came_as, seen_then, stopped_then, part_done, part_stopped}
use Rattle.ts_rolling_edits.proofs.GrowthLemmas.{still_grows, grows_then}
use Rattle.ts_rolling_edits.proofs.RollingLemmas.{windows_next}
use Rattle.ts_rolling_edits.proofs.parts.drop_windows.Goals as goal

pub loop-window-init : goal.loop-window-init
loop-window-init g c =
    let v = g.P.Pages.contents c.args.pages.now in
    let copies = c.args.copies.now in
    record {
      came = came_copied g.P.Pages.tells copies.defs.definitions copies.defs.definitions copies.space copies.space v refl refl;
      charged = c.requires.charged;
      grows = still_grows v v refl;
      undisturbed = g.met.P.Pages.stays c.args.pages.now;
    }

pub drop_if_there-requires-clause-seen : goal.drop_if_there-requires-clause-seen
drop_if_there-requires-clause-seen g c =
    let x = seen_on c.args.copies.now (g.P.Pages.contents c.args.pages.now) in
    let y = seen_on c.loop-window.copies (g.P.Pages.contents c.loop-window.pages) in
    seen_then g.P.Pages.tells (λ cat after. after ≡ without_windows c.args.set.now (take c.loop-window.window-index c.args.windows.now) cat) x y c.requires.seen c.loop-window.invariant.came

pub loop-window-preserved : goal.loop-window-preserved
loop-window-preserved g c =
    let tells = g.P.Pages.tells in
    let set : List ℕ = c.args.set.now in
    let windows : List ℕ = c.args.windows.now in
    let index : ℕ = c.loop-window.window-index in
    let u = g.P.Pages.contents c.args.pages.now in
    let v = g.P.Pages.contents c.loop-window.pages in
    let w = g.P.Pages.contents c.drop_if_there.new.pages in
    let i = c.loop-window.invariant in
    let part = c.in_ok-drop_if_there.ensures.part in
    record {
      came = came_then tells (λ cat after. after ≡ without_windows set (take index windows) cat) (IsWithout c.in_ok-key.key) (λ cat after. after ≡ without_windows set (take (index + 1) windows) cat)
          (seen_on c.args.copies.now u) (seen_on c.loop-window.copies v) (seen_on c.drop_if_there.new.copies w)
          (λ a b d first second. windows_next set windows index c.loop-window-test.true c.in_ok-key.key c.in_ok-key.ensures a b d first second) i.came part.came;
      charged = part.charged;
      grows = grows_then u v w i.grows c.in_ok-drop_if_there.ensures.grows;
      undisturbed = g.met.P.Pages.«then» c.args.pages.now c.loop-window.pages c.drop_if_there.new.pages i.undisturbed c.in_ok-drop_if_there.ensures.undisturbed;
    }

pub returns-clause-part : goal.returns-clause-part
returns-clause-part g c =
    let tells = g.P.Pages.tells in
    let set : List ℕ = c.args.set.now in
    let windows : List ℕ = c.args.windows.now in
    let x = seen_on c.args.copies.now (g.P.Pages.contents c.args.pages.now) in
    let y = seen_on c.loop-window.copies (g.P.Pages.contents c.loop-window.pages) in
    let i = c.loop-window.invariant in
    let end = c.loop-window-test.false in
    let whole : take c.loop-window.window-index windows ≡ windows = take_all c.loop-window.window-index windows (omega (arith, end)) in
    part_done tells (λ cat after. after ≡ without_windows set windows cat) Never c.loop-window.copies.charges x y
    (came_as tells (λ cat after. after ≡ without_windows set (take c.loop-window.window-index windows) cat) (λ cat after. after ≡ without_windows set windows cat) x y
    (λ told l shows after is. is ∙ ap (λ (ws : List ℕ). without_windows set ws (catalogue_of l)) whole) i.came) i.charged

-- a key or a drop is stopped
pub returns-in_err-key-clause-part : goal.returns-in_err-key-clause-part
returns-in_err-key-clause-part g c =
    let set : List ℕ = c.args.set.now in
    let windows : List ℕ = c.args.windows.now in
    let x = seen_on c.args.copies.now (g.P.Pages.contents c.args.pages.now) in
    let y = seen_on c.loop-window.copies (g.P.Pages.contents c.loop-window.pages) in
    let came = c.loop-window.invariant.came in
    part_stopped g.P.Pages.tells (λ cat after. after ≡ without_windows set windows cat) Never c.loop-window.copies.charges x y c.from_residual.result _ c.from_residual.ensures.1 came.no_fault came.count

pub returns-in_err-drop_if_there-clause-part : goal.returns-in_err-drop_if_there-clause-part
returns-in_err-drop_if_there-clause-part g c =
    let tells = g.P.Pages.tells in
    let set : List ℕ = c.args.set.now in
    let windows : List ℕ = c.args.windows.now in
    let index : ℕ = c.loop-window.window-index in
    let w = g.P.Pages.contents c.drop_if_there.new.pages in
    let x = seen_on c.args.copies.now (g.P.Pages.contents c.args.pages.now) in
    let y = seen_on c.loop-window.copies (g.P.Pages.contents c.loop-window.pages) in
    let z = seen_on c.drop_if_there.new.copies w in
    let came = c.loop-window.invariant.came in
    let part = c.in_err-drop_if_there.ensures.part in
    part_stopped tells (λ cat after. after ≡ without_windows set windows cat) Never c.drop_if_there.new.copies.charges x z c.from_residual-in_err-drop_if_there.result _ c.from_residual-in_err-drop_if_there.ensures.1
    (stopped_then tells (λ cat after. after ≡ without_windows set (take index windows) cat) Never Never _ x y w (λ refusal a b one never. never) came part.stopped) (part.count ∙ came.count)
