use Rattle.std.proofs.Common.{◌≡◌, ℕ, List, length, take, get_or, ap, ◌∙◌, arith}
use Rattle.std.proofs.lemmas.List.{take_all}
use Rattle.ts_answer.specs.View.{view}
use Rattle.ts_shelf.proofs.ReadingLemmas.{then_reads, reads_as, seen_still, layout_still}
use Rattle.ts_rolling_sets.specs.Windows.{seen_in}
use Rattle.ts_rolling_sets.proofs.OrderLemmas.{next_of}
use Rattle.ts_rolling_sets.proofs.ClipLemmas.{long_push}
use Rattle.ts_rolling_sets.proofs.SaidLemmas.{few_so_far}
use Rattle.ts_rolling_sets.proofs.clip.count_windows.Goals as goal

pub count_window-requires-clause-seen : goal.count_window-requires-clause-seen
count_window-requires-clause-seen g c =
    seen_still g.P.Pages.tells tt c.args.defs.now.definitions c.args.space.now (g.P.Pages.contents c.args.pages.now) (g.P.Pages.contents c.loop-slot.pages) c.requires.seen c.loop-slot.invariant.call

pub loop-slot-preserved : goal.loop-slot-preserved
loop-slot-preserved g c =
    let tells = g.P.Pages.tells in
    let d = c.args.defs.now.definitions in
    let space = c.args.space.now in
    let u = g.P.Pages.contents c.args.pages.now in
    let v = g.P.Pages.contents c.loop-slot.pages in
    let w = g.P.Pages.contents c.count_window.new.pages in
    let i = c.loop-slot.invariant in
    let from = c.args.from in
    let to = c.args.to in
    let slots : List ℕ = c.args.slots.now in
    let index : ℕ = c.loop-slot.slot-index in
    let slot : ℕ = get_or slots index 0 in
    let more : ℕ = c.in_ok-more.more in
    let done = c.in_ok-more.ensures in
    let next = next_of slots index c.loop-slot-test.true in
    record {
      call = reads_as tells more tt u w (then_reads tells tt more u v w i.call done.call);
      undisturbed = g.met.P.Pages.«then» c.args.pages.now c.loop-slot.pages c.count_window.new.pages i.undisturbed done.undisturbed;
      counted = λ told l shows.
          let before = i.counted told l shows in
          let now = done.count told l (layout_still tells tt d space u v l shows i.call) in
          let both = ap (λ (ss : List ℕ). length (seen_in l from to ss)) next ∙ long_push l from to (take index slots) slot in
          let few = few_so_far (view d space u) c.requires.seen.kept l shows.kept from to slots index c.requires.windows c.requires.few c.loop-slot-test.true in
          let added = c.saturating_add-count.ensures in
          omega (arith, before, now, both, few, added);
    }

pub returns-clause-count : goal.returns-clause-count
returns-clause-count g c = λ told l shows.
    let slots : List ℕ = c.args.slots.now in
    let end = c.loop-slot-test.false in
    let whole : take c.loop-slot.slot-index slots ≡ slots = take_all c.loop-slot.slot-index slots (omega (arith, end)) in
    c.loop-slot.invariant.counted told l shows ∙ ap (λ (ss : List ℕ). length (seen_in l c.args.from c.args.to ss)) whole
