use Rattle.std.proofs.Common.{ℕ, List}
use Rattle.ts_shelf.proofs.ReadingLemmas.{seen_still, layout_still}
use Rattle.ts_rolling_sets.specs.Windows.{seen_in}
use Rattle.ts_rolling_sets.proofs.SaidLemmas.{elements_said, rows_within, rows_beyond}
use Rattle.ts_rolling_sets.proofs.clip.say_all.Goals as goal

pub count_windows-requires-clause-seen : goal.count_windows-requires-clause-seen
count_windows-requires-clause-seen g c =
    seen_still g.P.Pages.tells c.in_ok-said.said c.args.defs.now.definitions c.args.space.now (g.P.Pages.contents c.args.pages.now) (g.P.Pages.contents c.say_windows.new.pages) c.requires.seen c.in_ok-said.ensures.call

pub returns-in_default-clause-said : goal.returns-in_default-clause-said
returns-in_default-clause-said g c = λ told columns l has shows.
    let tells = g.P.Pages.tells in
    let u = g.P.Pages.contents c.args.pages.now in
    let v = g.P.Pages.contents c.say_windows.new.pages in
    let slots : List ℕ = c.args.slots.now in
    rows_beyond (seen_in l c.args.from c.args.to slots) c.in_ok-rows.rows (c.in_ok-said.ensures.many c.in_default.is told l shows)
    (c.in_ok-rows.ensures.count told l (layout_still tells c.in_ok-said.said c.args.defs.now.definitions c.args.space.now u v l shows c.in_ok-said.ensures.call))

pub returns-clause-said : goal.returns-clause-said
returns-clause-said g c = λ told columns l has shows.
    let slots : List ℕ = c.args.slots.now in
    let es = seen_in l c.args.from c.args.to slots in
    let taken = (rw c.in-Some.is at c.in_ok-said.ensures.taken) told columns l has shows in
    let number = (rw c.in-Some.is at c.in_ok-said.ensures.counted) told l shows in
    let few = rw c.in-Some.is at c.in_ok-said.ensures.few in (
      rows_within es c.in-Some.count number few,
      elements_said columns es c.args.out.now c.behind-lines.result.out.now c.say_windows.new.visitor.out.now _ c.say_count.new.out c.in-Some.count _ _ _ c.requires.empty c.behind-lines.ensures.none c.behind-lines.ensures.same
          taken number c.in_ok-say_count.ensures.ok assumption,
    )
