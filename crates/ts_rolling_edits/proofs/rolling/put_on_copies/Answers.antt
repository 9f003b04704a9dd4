use Rattle.std.proofs.Common.{◌≡◌, ℕ, List, refl, subst}
use Rattle.ts_answer.specs.View.{view}
use Rattle.ts_effects.proofs.CallerLemmas.{can_count}
use Rattle.ts_answer.specs.Elements.{without_windows}
use Rattle.ts_rolling_edits.specs.Parts.{seen_on, Came}
use Rattle.ts_rolling_edits.proofs.PartLemmas.{came_copied, seen_then, stops_all}
use Rattle.ts_rolling_edits.proofs.GrowthLemmas.{grown}
use Rattle.ts_rolling_sets.proofs.CallerLemmas.{short_set}
use Rattle.ts_rolling_edits.proofs.RollingLemmas.{Gone, Opened, Not, gone_first, opened_then, put_then, gone_stopped, opened_stopped, put_stopped}
use Rattle.ts_rolling_edits.proofs.rolling.put_on_copies.Goals as goal

pub of-requires : goal.of-requires
of-requires g c =
    let v = g.P.Pages.contents c.args.pages.now in
    record { can = can_count c.args.defs.now.definitions c.args.space.now v.free v.count c.requires.seen.kept }

pub drop_windows-requires-clause-short : goal.drop_windows-requires-clause-short
drop_windows-requires-clause-short g c = short_set c.args.put.now.set.now c.requires.set

pub drop_windows-requires-clause-seen : goal.drop_windows-requires-clause-seen
drop_windows-requires-clause-seen g c =
    let v = g.P.Pages.contents c.args.pages.now in
    let d = c.args.defs.now.definitions in
    let space = c.args.space.now in
    let copies = c.in_ok-copies.copies in
    let made = c.in_ok-copies.ensures in
    seen_then g.P.Pages.tells (λ cat after. after ≡ cat) (view d space v) (seen_on copies v) c.requires.seen
    (came_copied g.P.Pages.tells d copies.defs.definitions space copies.space v made.definitions made.lists)

pub open_window-requires-clause-seen : goal.open_window-requires-clause-seen
open_window-requires-clause-seen g c =
    let tells = g.P.Pages.tells in
    let set = c.args.put.now.set.now in
    let planned = c.args.put.now.planned in
    let plan = planned.plan in
    let d = c.args.defs.now.definitions in
    let space = c.args.space.now in
    let v = g.P.Pages.contents c.args.pages.now in
    let copies = c.in_ok-copies.copies in
    let made = c.in_ok-copies.ensures in
    let x = view d space v in
    let y = seen_on copies v in
    let z = seen_on c.drop_windows.new.copies (g.P.Pages.contents c.drop_windows.new.pages) in
    seen_then tells (Gone tells set planned.container.now plan.window c.args.put.now.stamp c.args.put.now.values.now plan.attach plan.purge.items c.args.put.now.key c.requires.key) y z
    (seen_then tells (λ cat after. after ≡ cat) x y c.requires.seen (came_copied tells d copies.defs.definitions space copies.space v made.definitions made.lists)) (subst (λ (ws : List ℕ). Came tells (λ a b. b ≡ without_windows set ws a) y z) c.deref.ensures.value c.in_ok-drop_windows.ensures.part.came)

pub put_in_window-requires-clause-seen : goal.put_in_window-requires-clause-seen
put_in_window-requires-clause-seen g c =
    let tells = g.P.Pages.tells in
    let set = c.args.put.now.set.now in
    let planned = c.args.put.now.planned in
    let plan = planned.plan in
    let stamp = c.args.put.now.stamp in
    let values = c.args.put.now.values.now in
    let key = c.requires.key in
    let d = c.args.defs.now.definitions in
    let space = c.args.space.now in
    let v = g.P.Pages.contents c.args.pages.now in
    let copies = c.in_ok-copies.copies in
    let made = c.in_ok-copies.ensures in
    let x = view d space v in
    let y = seen_on copies v in
    let z = seen_on c.drop_windows.new.copies (g.P.Pages.contents c.drop_windows.new.pages) in
    let u = seen_on c.open_window.new.copies (g.P.Pages.contents c.open_window.new.pages) in
    let first = came_copied tells d copies.defs.definitions space copies.space v made.definitions made.lists in
    let gone = gone_first tells set planned.container.now plan.window stamp values plan.attach plan.purge.items c.args.put.now.key key x y z first (subst (λ (ws : List ℕ). Came tells (λ a b. b ≡ without_windows set ws a) y z) c.deref.ensures.value c.in_ok-drop_windows.ensures.part.came) in
    seen_then tells (Opened tells set planned.container.now plan.window stamp values plan.attach plan.purge.items c.args.put.now.key key) x u c.requires.seen
    (opened_then tells set planned.container.now plan.window stamp values plan.attach plan.purge.items c.args.put.now.key key x z u gone c.in_ok-open_window.ensures.part.came)

-- all is done
pub returns-clause-done : goal.returns-clause-done
returns-clause-done g c =
    let tells = g.P.Pages.tells in
    let set = c.args.put.now.set.now in
    let planned = c.args.put.now.planned in
    let plan = planned.plan in
    let stamp = c.args.put.now.stamp in
    let values = c.args.put.now.values.now in
    let key = c.requires.key in
    let d = c.args.defs.now.definitions in
    let space = c.args.space.now in
    let v = g.P.Pages.contents c.args.pages.now in
    let copies = c.in_ok-copies.copies in
    let made = c.in_ok-copies.ensures in
    let out = c.put_in_window.new.out in
    let gone_pages = g.P.Pages.contents c.drop_windows.new.pages in
    let made_pages = g.P.Pages.contents c.open_window.new.pages in
    let put_pages = g.P.Pages.contents c.put_in_window.new.pages in
    let x = view d space v in
    let y = seen_on copies v in
    let z = seen_on c.drop_windows.new.copies gone_pages in
    let u = seen_on c.open_window.new.copies made_pages in
    let w = seen_on c.put_in_window.new.copies put_pages in
    let first = came_copied tells d copies.defs.definitions space copies.space v made.definitions made.lists in
    let gone = gone_first tells set planned.container.now plan.window stamp values plan.attach plan.purge.items c.args.put.now.key key x y z first (subst (λ (ws : List ℕ). Came tells (λ a b. b ≡ without_windows set ws a) y z) c.deref.ensures.value c.in_ok-drop_windows.ensures.part.came) in
    let opened = opened_then tells set planned.container.now plan.window stamp values plan.attach plan.purge.items c.args.put.now.key key x z u gone c.in_ok-open_window.ensures.part.came in
    record {
      copies = c.put_in_window.new.copies;
      whole = c.in_ok-effect.ensures;
      came = put_then tells set planned.container.now plan.window stamp values plan.attach plan.purge.items c.args.put.now.key key out x u w opened c.in_ok-put_in_window.ensures.part.came;
      grows = grown v gone_pages made_pages put_pages c.in_ok-drop_windows.ensures.grows c.in_ok-open_window.ensures.grows c.in_ok-put_in_window.ensures.grows;
    }

-- or stopped
pub returns-in_err-copies-clause-stopped : goal.returns-in_err-copies-clause-stopped
returns-in_err-copies-clause-stopped g c =
    let set = c.args.put.now.set.now in
    let planned = c.args.put.now.planned in
    let plan = planned.plan in
    let v = g.P.Pages.contents c.args.pages.now in
    let x = view c.args.defs.now.definitions c.args.space.now v in
    stops_all g.P.Pages.tells c.from_residual.result x v (Not g.P.Pages.tells set planned.container.now plan.window c.args.put.now.stamp c.args.put.now.values.now plan.attach plan.purge.items c.args.put.now.key c.requires.key) _ c.from_residual.ensures.1 refl

pub returns-in_err-drop_windows-clause-stopped : goal.returns-in_err-drop_windows-clause-stopped
returns-in_err-drop_windows-clause-stopped g c =
    let tells = g.P.Pages.tells in
    let set = c.args.put.now.set.now in
    let planned = c.args.put.now.planned in
    let plan = planned.plan in
    let stamp = c.args.put.now.stamp in
    let values = c.args.put.now.values.now in
    let key = c.requires.key in
    let d = c.args.defs.now.definitions in
    let space = c.args.space.now in
    let v = g.P.Pages.contents c.args.pages.now in
    let w = g.P.Pages.contents c.drop_windows.new.pages in
    let copies = c.in_ok-copies.copies in
    let made = c.in_ok-copies.ensures in
    let x = view d space v in
    let first = came_copied tells d copies.defs.definitions space copies.space v made.definitions made.lists in
    stops_all tells c.from_residual-in_err-drop_windows.result x w (Not tells set planned.container.now plan.window stamp values plan.attach plan.purge.items c.args.put.now.key key) _ c.from_residual-in_err-drop_windows.ensures.1
    (gone_stopped tells set planned.container.now plan.window stamp values plan.attach plan.purge.items c.args.put.now.key key _ x (seen_on copies v) w first c.in_err-drop_windows.ensures.part.stopped)

pub returns-in_err-open_window-clause-stopped : goal.returns-in_err-open_window-clause-stopped
returns-in_err-open_window-clause-stopped g c =
    let tells = g.P.Pages.tells in
    let set = c.args.put.now.set.now in
    let planned = c.args.put.now.planned in
    let plan = planned.plan in
    let stamp = c.args.put.now.stamp in
    let values = c.args.put.now.values.now in
    let key = c.requires.key in
    let d = c.args.defs.now.definitions in
    let space = c.args.space.now in
    let v = g.P.Pages.contents c.args.pages.now in
    let w = g.P.Pages.contents c.open_window.new.pages in
    let copies = c.in_ok-copies.copies in
    let made = c.in_ok-copies.ensures in
    let x = view d space v in
    let y = seen_on copies v in
    let z = seen_on c.drop_windows.new.copies (g.P.Pages.contents c.drop_windows.new.pages) in
    let first = came_copied tells d copies.defs.definitions space copies.space v made.definitions made.lists in
    let gone = gone_first tells set planned.container.now plan.window stamp values plan.attach plan.purge.items c.args.put.now.key key x y z first (subst (λ (ws : List ℕ). Came tells (λ a b. b ≡ without_windows set ws a) y z) c.deref.ensures.value c.in_ok-drop_windows.ensures.part.came) in
    stops_all tells c.from_residual-in_err-open_window.result x w (Not tells set planned.container.now plan.window stamp values plan.attach plan.purge.items c.args.put.now.key key) _ c.from_residual-in_err-open_window.ensures.1
    (opened_stopped tells set planned.container.now plan.window stamp values plan.attach plan.purge.items c.args.put.now.key key _ x z w gone c.in_err-open_window.ensures.part.stopped)

pub returns-in_err-put_in_window-clause-stopped : goal.returns-in_err-put_in_window-clause-stopped
returns-in_err-put_in_window-clause-stopped g c =
    let tells = g.P.Pages.tells in
    let set = c.args.put.now.set.now in
    let planned = c.args.put.now.planned in
    let plan = planned.plan in
    let stamp = c.args.put.now.stamp in
    let values = c.args.put.now.values.now in
    let key = c.requires.key in
    let d = c.args.defs.now.definitions in
    let space = c.args.space.now in
    let v = g.P.Pages.contents c.args.pages.now in
    let w = g.P.Pages.contents c.put_in_window.new.pages in
    let copies = c.in_ok-copies.copies in
    let made = c.in_ok-copies.ensures in
    let x = view d space v in
    let y = seen_on copies v in
    let z = seen_on c.drop_windows.new.copies (g.P.Pages.contents c.drop_windows.new.pages) in
    let u = seen_on c.open_window.new.copies (g.P.Pages.contents c.open_window.new.pages) in
    let first = came_copied tells d copies.defs.definitions space copies.space v made.definitions made.lists in
    let gone = gone_first tells set planned.container.now plan.window stamp values plan.attach plan.purge.items c.args.put.now.key key x y z first (subst (λ (ws : List ℕ). Came tells (λ a b. b ≡ without_windows set ws a) y z) c.deref.ensures.value c.in_ok-drop_windows.ensures.part.came) in
    let opened = opened_then tells set planned.container.now plan.window stamp values plan.attach plan.purge.items c.args.put.now.key key x z u gone c.in_ok-open_window.ensures.part.came in
    stops_all tells c.from_residual-in_err-put_in_window.result x w (Not tells set planned.container.now plan.window stamp values plan.attach plan.purge.items c.args.put.now.key key) _ c.from_residual-in_err-put_in_window.ensures.1
    (put_stopped tells set planned.container.now plan.window stamp values plan.attach plan.purge.items c.args.put.now.key key _ x u w opened c.in_err-put_in_window.ensures.part.stopped)

pub returns-in_err-effect-clause-stopped : goal.returns-in_err-effect-clause-stopped
returns-in_err-effect-clause-stopped g c =
    let tells = g.P.Pages.tells in
    let set = c.args.put.now.set.now in
    let planned = c.args.put.now.planned in
    let plan = planned.plan in
    let stamp = c.args.put.now.stamp in
    let values = c.args.put.now.values.now in
    let key = c.requires.key in
    let d = c.args.defs.now.definitions in
    let space = c.args.space.now in
    let v = g.P.Pages.contents c.args.pages.now in
    let w = g.P.Pages.contents c.put_in_window.new.pages in
    let copies = c.in_ok-copies.copies in
    let made = c.in_ok-copies.ensures in
    let x = view d space v in
    let y = seen_on copies v in
    let z = seen_on c.drop_windows.new.copies (g.P.Pages.contents c.drop_windows.new.pages) in
    let u = seen_on c.open_window.new.copies (g.P.Pages.contents c.open_window.new.pages) in
    let first = came_copied tells d copies.defs.definitions space copies.space v made.definitions made.lists in
    let gone = gone_first tells set planned.container.now plan.window stamp values plan.attach plan.purge.items c.args.put.now.key key x y z first (subst (λ (ws : List ℕ). Came tells (λ a b. b ≡ without_windows set ws a) y z) c.deref.ensures.value c.in_ok-drop_windows.ensures.part.came) in
    let opened = opened_then tells set planned.container.now plan.window stamp values plan.attach plan.purge.items c.args.put.now.key key x z u gone c.in_ok-open_window.ensures.part.came in
    let came = put_then tells set planned.container.now plan.window stamp values plan.attach plan.purge.items c.args.put.now.key key c.put_in_window.new.out x u (seen_on c.put_in_window.new.copies w) opened c.in_ok-put_in_window.ensures.part.came in
    stops_all tells c.from_residual-in_err-effect.result x w (Not tells set planned.container.now plan.window stamp values plan.attach plan.purge.items c.args.put.now.key key) _ c.from_residual-in_err-effect.ensures.1 came.no_fault
