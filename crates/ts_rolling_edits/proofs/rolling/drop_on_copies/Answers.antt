use Rattle.std.proofs.Common.{◌≡◌, ℕ, List, refl, subst}
use Rattle.ts_answer.specs.Elements.{without_windows}
use Rattle.ts_answer.specs.View.{view}
use Rattle.ts_effects.proofs.CallerLemmas.{can_count}
use Rattle.ts_rolling_edits.specs.Parts.{seen_on, Came, Never}
use Rattle.ts_rolling_edits.proofs.PartLemmas.{came_copied, seen_then, stopped_then, stops_all}
use Rattle.ts_rolling_edits.proofs.GrowthLemmas.{grows_then, grown_alone}
use Rattle.ts_rolling_sets.proofs.CallerLemmas.{short_set}
use Rattle.ts_rolling_edits.proofs.RollingLemmas.{set_gone, control_gone}
use Rattle.ts_rolling_edits.proofs.rolling.drop_on_copies.Goals as goal

pub of-requires : goal.of-requires
of-requires g c =
    let v = g.P.Pages.contents c.args.pages.now in
    record { can = can_count c.args.defs.now.definitions c.args.space.now v.free v.count c.requires.seen.kept }

pub drop_windows-requires-clause-short : goal.drop_windows-requires-clause-short
drop_windows-requires-clause-short g c = short_set c.args.set.now c.requires.set

pub drop_windows-requires-clause-seen : goal.drop_windows-requires-clause-seen
drop_windows-requires-clause-seen g c =
    let v = g.P.Pages.contents c.args.pages.now in
    let d = c.args.defs.now.definitions in
    let space = c.args.space.now in
    let copies = c.in_ok-copies.copies in
    let made = c.in_ok-copies.ensures in
    seen_then g.P.Pages.tells (λ cat after. after ≡ cat) (view d space v) (seen_on copies v) c.requires.seen
    (came_copied g.P.Pages.tells d copies.defs.definitions space copies.space v made.definitions made.lists)

pub drop_if_there-requires-clause-seen : goal.drop_if_there-requires-clause-seen
drop_if_there-requires-clause-seen g c =
    let tells = g.P.Pages.tells in
    let set = c.args.set.now in
    let d = c.args.defs.now.definitions in
    let space = c.args.space.now in
    let v = g.P.Pages.contents c.args.pages.now in
    let copies = c.in_ok-copies.copies in
    let made = c.in_ok-copies.ensures in
    let x = view d space v in
    let y = seen_on copies v in
    let z = seen_on c.drop_windows.new.copies (g.P.Pages.contents c.drop_windows.new.pages) in
    seen_then tells (λ cat after. after ≡ without_windows set c.args.planned.now.windows.items cat) y z
    (seen_then tells (λ cat after. after ≡ cat) x y c.requires.seen (came_copied tells d copies.defs.definitions space copies.space v made.definitions made.lists)) (subst (λ (ws : List ℕ). Came tells (λ a b. b ≡ without_windows set ws a) y z) c.deref.ensures.value c.in_ok-drop_windows.ensures.part.came)

-- all of them went
pub returns-clause-done : goal.returns-clause-done
returns-clause-done g c =
    let tells = g.P.Pages.tells in
    let set = c.args.set.now in
    let planned = c.args.planned.now in
    let windows = planned.windows.items in
    let d = c.args.defs.now.definitions in
    let space = c.args.space.now in
    let v = g.P.Pages.contents c.args.pages.now in
    let copies = c.in_ok-copies.copies in
    let made = c.in_ok-copies.ensures in
    let gone_pages = g.P.Pages.contents c.drop_windows.new.pages in
    let left_pages = g.P.Pages.contents c.drop_if_there.new.pages in
    let x = view d space v in
    let y = seen_on copies v in
    let z = seen_on c.drop_windows.new.copies gone_pages in
    let w = seen_on c.drop_if_there.new.copies left_pages in
    let first = came_copied tells d copies.defs.definitions space copies.space v made.definitions made.lists in
    let gone = set_gone tells set windows x y z first (subst (λ (ws : List ℕ). Came tells (λ a b. b ≡ without_windows set ws a) y z) c.deref.ensures.value c.in_ok-drop_windows.ensures.part.came) in
    record {
      copies = c.drop_if_there.new.copies;
      whole = c.in_ok-effect.ensures;
      came = control_gone tells set windows planned.control x z w gone c.in_ok-drop_if_there.ensures.part.came;
      grows = grown_alone v left_pages (grows_then v gone_pages left_pages c.in_ok-drop_windows.ensures.grows c.in_ok-drop_if_there.ensures.grows);
    }

-- or not
pub returns-in_err-copies-clause-stopped : goal.returns-in_err-copies-clause-stopped
returns-in_err-copies-clause-stopped g c =
    let v = g.P.Pages.contents c.args.pages.now in
    let x = view c.args.defs.now.definitions c.args.space.now v in
    stops_all g.P.Pages.tells c.from_residual.result x v Never _ c.from_residual.ensures.1 refl

pub returns-in_err-drop_windows-clause-stopped : goal.returns-in_err-drop_windows-clause-stopped
returns-in_err-drop_windows-clause-stopped g c =
    let tells = g.P.Pages.tells in
    let d = c.args.defs.now.definitions in
    let space = c.args.space.now in
    let v = g.P.Pages.contents c.args.pages.now in
    let w = g.P.Pages.contents c.drop_windows.new.pages in
    let copies = c.in_ok-copies.copies in
    let made = c.in_ok-copies.ensures in
    let x = view d space v in
    let first = came_copied tells d copies.defs.definitions space copies.space v made.definitions made.lists in
    stops_all tells c.from_residual-in_err-drop_windows.result x w Never _ c.from_residual-in_err-drop_windows.ensures.1
    (stopped_then tells (λ a b. b ≡ a) Never Never _ x (seen_on copies v) w (λ refusal a b one never. never) first c.in_err-drop_windows.ensures.part.stopped)

pub returns-in_err-drop_if_there-clause-stopped : goal.returns-in_err-drop_if_there-clause-stopped
returns-in_err-drop_if_there-clause-stopped g c =
    let tells = g.P.Pages.tells in
    let set = c.args.set.now in
    let windows = c.args.planned.now.windows.items in
    let d = c.args.defs.now.definitions in
    let space = c.args.space.now in
    let v = g.P.Pages.contents c.args.pages.now in
    let w = g.P.Pages.contents c.drop_if_there.new.pages in
    let copies = c.in_ok-copies.copies in
    let made = c.in_ok-copies.ensures in
    let x = view d space v in
    let y = seen_on copies v in
    let z = seen_on c.drop_windows.new.copies (g.P.Pages.contents c.drop_windows.new.pages) in
    let first = came_copied tells d copies.defs.definitions space copies.space v made.definitions made.lists in
    let gone = set_gone tells set windows x y z first (subst (λ (ws : List ℕ). Came tells (λ a b. b ≡ without_windows set ws a) y z) c.deref.ensures.value c.in_ok-drop_windows.ensures.part.came) in
    stops_all tells c.from_residual-in_err-drop_if_there.result x w Never _ c.from_residual-in_err-drop_if_there.ensures.1
    (stopped_then tells (λ a b. b ≡ without_windows set windows a) Never Never _ x z w (λ refusal a b one never. never) gone c.in_err-drop_if_there.ensures.part.stopped)

pub returns-in_err-effect-clause-stopped : goal.returns-in_err-effect-clause-stopped
returns-in_err-effect-clause-stopped g c =
    let tells = g.P.Pages.tells in
    let set = c.args.set.now in
    let windows = c.args.planned.now.windows.items in
    let d = c.args.defs.now.definitions in
    let space = c.args.space.now in
    let v = g.P.Pages.contents c.args.pages.now in
    let w = g.P.Pages.contents c.drop_if_there.new.pages in
    let copies = c.in_ok-copies.copies in
    let made = c.in_ok-copies.ensures in
    let x = view d space v in
    let y = seen_on copies v in
    let z = seen_on c.drop_windows.new.copies (g.P.Pages.contents c.drop_windows.new.pages) in
    let first = came_copied tells d copies.defs.definitions space copies.space v made.definitions made.lists in
    let gone = set_gone tells set windows x y z first (subst (λ (ws : List ℕ). Came tells (λ a b. b ≡ without_windows set ws a) y z) c.deref.ensures.value c.in_ok-drop_windows.ensures.part.came) in
    let came = control_gone tells set windows c.args.planned.now.control x z (seen_on c.drop_if_there.new.copies w) gone c.in_ok-drop_if_there.ensures.part.came in
    stops_all tells c.from_residual-in_err-effect.result x w Never _ c.from_residual-in_err-effect.ensures.1 came.no_fault
