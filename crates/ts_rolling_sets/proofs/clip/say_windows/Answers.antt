use Rattle.std.proofs.Common.{◌≡◌, ℕ, ◌+◌, List, map, length, take, get_or, sym, ap, subst, ◌∙◌, arith}
use Rattle.std.proofs.lemmas.List.{take_all}
use Rattle.ts_entry.specs.Entry.{Entry, filled}
use Rattle.ts_shelf.proofs.ReadingLemmas.{then_reads, reads_as, seen_still, layout_still}
use Rattle.ts_rolling_sets.specs.Windows.{seen_at, seen_in, entries_in}
use Rattle.ts_rolling_sets.proofs.OrderLemmas.{next_of}
use Rattle.ts_rolling_sets.proofs.ClipLemmas.{entries_push, long_push, long_part}
use Rattle.ts_rolling_sets.proofs.clip.say_windows.Goals as goal

pub say_window-requires-clause-seen : goal.say_window-requires-clause-seen
say_window-requires-clause-seen g c =
    seen_still g.P.Pages.tells tt c.args.defs.now.definitions c.args.space.now (g.P.Pages.contents c.args.pages.now) (g.P.Pages.contents c.loop-slot.pages) c.requires.seen c.loop-slot.invariant.call

pub loop-slot-preserved : goal.loop-slot-preserved
loop-slot-preserved g c =
    let tells = g.P.Pages.tells in
    let d = c.args.defs.now.definitions in
    let space = c.args.space.now in
    let u = g.P.Pages.contents c.args.pages.now in
    let v = g.P.Pages.contents c.loop-slot.pages in
    let w = g.P.Pages.contents c.say_window.new.pages in
    let i = c.loop-slot.invariant in
    let from = c.args.from in
    let to = c.args.to in
    let slots : List ℕ = c.args.slots.now in
    let index : ℕ = c.loop-slot.slot-index in
    let slot : ℕ = get_or slots index 0 in
    let more : ℕ = c.in-Some.more in
    let done = c.in_ok-more.ensures in
    let next = next_of slots index c.loop-slot-test.true in
    record {
      call = reads_as tells c.in_ok-more.field-0 tt u w (then_reads tells tt c.in_ok-more.field-0 u v w i.call done.call);
      undisturbed = g.met.P.Pages.«then» c.args.pages.now c.loop-slot.pages c.say_window.new.pages i.undisturbed done.undisturbed;
      few = (let room = rw c.in-Some.is at done.few in let few = i.few in omega (arith, few, room));
      taken = λ told columns l has shows.
          let before = i.taken told columns l has shows in
          let now = (rw c.in-Some.is at done.taken) told columns l (has index c.loop-slot-test.true) (layout_still tells tt d space u v l shows i.call) in
          subst (λ (es : List Entry). g.V.EntryVisitor.took columns c.args.visitor.now es c.say_window.new.visitor)
          (sym (ap (entries_in l from to) next ∙ entries_push l from to (take index slots) slot))
          (g.met.V.EntryVisitor.«then» columns c.args.visitor.now c.loop-slot.visitor c.say_window.new.visitor (entries_in l from to (take index slots)) (map filled (seen_at l from to slot)) before now);
      counted = λ told l shows.
          let before = i.counted told l shows in
          let now = (rw c.in-Some.is at done.counted) told l (layout_still tells tt d space u v l shows i.call) in
          (λ k. before k + now k) ∙ sym (ap (λ (ss : List ℕ). length (seen_in l from to ss)) next ∙ long_push l from to (take index slots) slot);
    }

pub returns-clause-taken : goal.returns-clause-taken
returns-clause-taken g c = λ told columns l has shows.
    let slots : List ℕ = c.args.slots.now in
    let end = c.loop-slot-test.false in
    let whole : take c.loop-slot.slot-index slots ≡ slots = take_all c.loop-slot.slot-index slots (omega (arith, end)) in
    subst (λ (ss : List ℕ). g.V.EntryVisitor.took columns c.args.visitor.now (entries_in l c.args.from c.args.to ss) c.loop-slot.visitor) whole (c.loop-slot.invariant.taken told columns l has shows)

pub returns-clause-counted : goal.returns-clause-counted
returns-clause-counted g c = λ told l shows.
    let slots : List ℕ = c.args.slots.now in
    let end = c.loop-slot-test.false in
    let whole : take c.loop-slot.slot-index slots ≡ slots = take_all c.loop-slot.slot-index slots (omega (arith, end)) in
    c.loop-slot.invariant.counted told l shows ∙ ap (λ (ss : List ℕ). length (seen_in l c.args.from c.args.to ss)) whole

pub returns-in_default-clause-many : goal.returns-in_default-clause-many
returns-in_default-clause-many g c = λ none told l shows.
    let tells = g.P.Pages.tells in
    let u = g.P.Pages.contents c.args.pages.now in
    let v = g.P.Pages.contents c.loop-slot.pages in
    let i = c.loop-slot.invariant in
    let slots : List ℕ = c.args.slots.now in
    let index : ℕ = c.loop-slot.slot-index in
    let here = c.in_ok-more.ensures.many c.in_default.is told l (layout_still tells tt c.args.defs.now.definitions c.args.space.now u v l shows i.call) in
    let part = long_part l c.args.from c.args.to slots index c.loop-slot-test.true in
    let so_far = i.counted told l shows in
    let few = i.few in
    omega (arith, here, part, so_far, few)

pub returns-in_err-more-clause-undisturbed : goal.returns-in_err-more-clause-undisturbed
returns-in_err-more-clause-undisturbed g c =
    g.met.P.Pages.«then» c.args.pages.now c.loop-slot.pages c.say_window.new.pages c.loop-slot.invariant.undisturbed c.in_err-more.ensures.undisturbed
