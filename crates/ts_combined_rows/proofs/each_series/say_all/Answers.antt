use Rattle.std.proofs.Common.{◌≡◌, ℕ, ◌+◌, ◌<◌, All, List, length, take, drop, get_or, refl, ap, sym, subst, ◌∙◌, arith}
use Rattle.std.specs.List.{flat_map}
use Rattle.std.specs.FinMap.{values}
use Rattle.std.proofs.lemmas.List.{length-drop, take_all, get_or-drop, length-take-le}
use Rattle.std.proofs.lemmas.List.Elements.{All-filter}
use Rattle.std.proofs.lemmas.Slice.Zip.{AllZip-long}
use Rattle.ts_row.specs.Row.{Row}
use Rattle.ts_aggregate.specs.declared.series_pages.Stack.{Stack}
use Rattle.ts_aggregate.specs.Stacks.{IsFoldOf}
use Rattle.ts_model.specs.declared.kind.Kind.TheVariants as kinds
use Rattle.ts_model.specs.Definitions.{Definitions, at_slot, slots as slots_of, slots_by_name}
use Rattle.ts_shelf.proofs.ReadingLemmas.{then_reads, reads_as, layout_still}
use Rattle.ts_combined_rows.specs.Aggregates.{folded_at, AreSaid}
use Rattle.ts_combined_rows.specs.Gathered.{seen_by, stands_in, inside, HasSeries, IsGathered}
use Rattle.ts_combined_rows.proofs.EachSeriesLemmas.{said_first, said_next}
use Rattle.ts_combined_rows.proofs.GatheredLemmas.{all_series, all_below, rest_below, passed_below, gathered_rest}
use Rattle.ts_combined_rows.proofs.StackLemmas.{AreStacksSaid, lines_of, lines_made, few_lines}
use Rattle.ts_combined_rows.proofs.each_series.say_all.Goals as goal

pub gather-requires-clause-slots : goal.gather-requires-clause-slots
gather-requires-clause-slots g c = all_below c.in_order-slots.result.now c.in_order-slots.ensures.within

pub gather-requires-then-current-eq0-clause-slots : goal.gather-requires-then-current-eq0-clause-slots
gather-requires-then-current-eq0-clause-slots g c = rest_below c.in_order-slots.result.now (c.loop-at.at + 1) c.in_order-slots.ensures.within

pub loop-at-preserved-in_ok-gather-2 : goal.loop-at-preserved-in_ok-gather-2
loop-at-preserved-in_ok-gather-2 g c =
    let tells = g.P.Pages.tells in
    let range = c.args.range.now in
    let d = range.defs.now.definitions in
    let space = range.space.now in
    let v = g.P.Pages.contents c.args.pages.now in
    let u = g.P.Pages.contents c.loop-at.pages in
    let w = g.P.Pages.contents c.say_if_inside.new.pages in
    let z = g.P.Pages.contents c.gather-then-current-eq0.new.pages in
    let slots : List ℕ = c.in_order-slots.result.now in
    let at = c.loop-at.at in
    let so_far = c.loop-at.invariant in
    let said = c.in_ok-count.field-0 in
    let next = c.in_ok-gather-2.ensures in
    let first = then_reads tells tt said v u w so_far.call c.in_ok-count.ensures.call in
    let below = c.loop-at-test.true in
    let long = length-drop at slots in
    record {
      call = reads_as tells tt tt v z (then_reads tells said tt v w z first next.call);
      undisturbed = g.met.P.Pages.«then» c.args.pages.now c.say_if_inside.new.pages c.gather-then-current-eq0.new.pages
          (g.met.P.Pages.«then» c.args.pages.now c.loop-at.pages c.say_if_inside.new.pages so_far.undisturbed c.in_ok-count.ensures.undisturbed) next.undisturbed;
      within = omega (arith, below);
      few = (let before = so_far.few in let one = c.in_ok-count.ensures.one in omega (arith, before, one));
      gathered = gathered_rest tells said range v w slots (at + 1) c.gather-then-current-eq0.new.gathered first next.gathered;
      said = λ told layout shows.
          let before = so_far.said told layout shows in
          let now = c.in_ok-count.ensures.said told layout (layout_still tells tt d space v u layout shows so_far.call) before.0 in
          let b = c.args.bound.now in
          let f = folded_at b range.from range.to layout range.container in
          let on : at + 0 ≡ at = omega arith in
          let here : get_or (drop at slots) 0 0 ≡ get_or slots at 0 = get_or-drop at slots 0 0 ∙ ap (λ (n : ℕ). get_or slots n 0) on in
          let own = subst (λ (slot : ℕ). AreSaid b (f slot) c.loop-at.out c.say_if_inside.new.out said) (sym here) now.1 in
          let next = said_first b f (drop at slots) 0 c.loop-at.out c.say_if_inside.new.out said (omega (arith, below, long)) own in
          (now.0, said_next b f slots (drop at slots) at 1 c.args.out.now c.loop-at.out c.say_if_inside.new.out c.loop-at.count said refl before.1 next);
    }

pub fold_and_gather-requires-clause-slots : goal.fold_and_gather-requires-clause-slots
fold_and_gather-requires-clause-slots g c κs within = rest_below c.in_order-slots.result.now (c.loop-at.at + c.loop-at.current.passed) c.in_order-slots.ensures.within

pub say_rows-requires-clause-series : goal.say_rows-requires-clause-series
say_rows-requires-clause-series g c =
    let x = seen_by c.args.range.now (g.P.Pages.contents c.args.pages.now) in
    let container = c.args.range.now.container in
    let slots : List ℕ = c.in_order-slots.result.now in
    let Below : ℕ → Type 0 = λ slot. slot < 4096 in
    let now = c.loop-at.current in
    let first : List ℕ = take now.passed (drop c.loop-at.at slots) in
    let below = All-filter (λ slot. stands_in container (at_slot slot x.definitions.series)) Below first (passed_below slots c.loop-at.at now.passed c.in_order-slots.ensures.within) in
    subst (All (HasSeries x.definitions)) (sym c.deref.ensures.value)
    (all_series g.P.Pages.tells x c.args.range.now.from c.args.range.now.to now.pages (inside x.definitions container first) now.stacks.items below c.loop-at.invariant.gathered.stacks)

pub say_rows-requires-clause-as_many : goal.say_rows-requires-clause-as_many
say_rows-requires-clause-as_many g c =
    let now = c.loop-at.current in
    let same = AllZip-long (IsFoldOf c.args.bound.now c.args.range.now.from c.args.range.now.to now.pages) now.stacks.items c.in_ok-rows.rows.items c.in_ok-rows.ensures.folded in
    ap (λ (rs : List Row). length rs) c.deref-else-current-eq0.ensures.value ∙ same ∙ sym (ap (λ (ss : List Stack). length ss) c.deref.ensures.value)

pub loop-at-preserved : goal.loop-at-preserved
loop-at-preserved g c =
    let tells = g.P.Pages.tells in
    let range = c.args.range.now in
    let from = range.from in
    let to = range.to in
    let d = range.defs.now.definitions in
    let v = g.P.Pages.contents c.args.pages.now in
    let u = g.P.Pages.contents c.loop-at.pages in
    let w = g.P.Pages.contents c.fold_and_gather.new.pages in
    let x = seen_by range v in
    let b = c.args.bound.now in
    let slots : List ℕ = c.in_order-slots.result.now in
    let at = c.loop-at.at in
    let now = c.loop-at.current in
    let first : List ℕ = take now.passed (drop at slots) in
    let so_far = c.loop-at.invariant in
    let stacks : List Stack = now.stacks.items in
    let done = c.in_ok-rows.ensures in
    let rows : List Row = c.in_ok-rows.rows.items in
    let count = c.in_ok-count-2.field-0 in
    let said =
    subst (λ (ss : List Stack). AreStacksSaid b d ss rows c.loop-at.out c.say_rows.new.out count) c.deref.ensures.value
    (subst (λ (rs : List Row). AreStacksSaid b d c.deref.result.now rs c.loop-at.out c.say_rows.new.out count) c.deref-else-current-eq0.ensures.value c.in_ok-count-2.ensures.said) in
    let lines = lines_of b from to d now.pages stacks rows said.0 done.folded said.1 in
    let long = length-drop at slots in
    let most = so_far.gathered.passed in
    record {
      call = reads_as tells c.in_ok-rows.rows tt v w (then_reads tells tt c.in_ok-rows.rows v u w so_far.call done.call);
      undisturbed = g.met.P.Pages.«then» c.args.pages.now c.loop-at.pages c.fold_and_gather.new.pages so_far.undisturbed done.undisturbed;
      within = (let below = so_far.within in omega (arith, most, below, long));
      few =
          (let few = few_lines tells x from to now.pages b range.container first stacks said.0 so_far.gathered.stacks lines in
          let number = said.2.number in
          let size = length-take-le now.passed (drop at slots) most in
          let before = so_far.few in
          omega (arith, few, number, size, before));
      gathered =
          subst (IsGathered tells v range (drop (at + now.passed) slots)) (sym c.swap.ensures.x_after)
          (gathered_rest tells tt range v u slots (at + now.passed) c.fold_and_gather.new.next so_far.call done.gathered);
      said = λ told layout shows.
          let before = so_far.said told layout shows in
          let f = folded_at b from to layout range.container in
          let made = lines_made tells x layout c.requires.seen.kept told shows b from to now.pages range.container c.requires.columns first stacks said.0 (passed_below slots at now.passed c.in_order-slots.ensures.within) so_far.gathered.stacks lines in
          let next = subst (λ (ls : List (List ℕ × Row)). AreSaid b ls c.loop-at.out c.say_rows.new.out count) (sym made) said.2 in
          (before.0, said_next b f slots (drop at slots) at now.passed c.args.out.now c.loop-at.out c.say_rows.new.out c.loop-at.count count refl before.1 next);
    }

pub returns-clause-said : goal.returns-clause-said
returns-clause-said g c = λ told layout shows.
    let slots : List ℕ = c.in_order-slots.result.now in
    let range = c.args.range.now in
    let at = c.loop-at.at in
    let b = c.args.bound.now in
    let end = c.loop-at-test.false in
    let whole : take at slots ≡ values (slots_by_name (slots_of kinds.Series layout.definitions)) =
    take_all at slots (omega (arith, end)) ∙ c.in_order-slots.ensures.value ∙ ap (λ (d : Definitions). values (slots_by_name (slots_of kinds.Series d))) shows.kept.definitions in
    subst (λ (ns : List ℕ). AreSaid b (flat_map (folded_at b range.from range.to layout range.container) ns) c.args.out.now c.loop-at.out c.loop-at.count) whole (c.loop-at.invariant.said told layout shows).1

pub returns-in_err-gather-2-clause-undisturbed : goal.returns-in_err-gather-2-clause-undisturbed
returns-in_err-gather-2-clause-undisturbed g c =
    g.met.P.Pages.«then» c.args.pages.now c.say_if_inside.new.pages c.gather-then-current-eq0.new.pages
    (g.met.P.Pages.«then» c.args.pages.now c.loop-at.pages c.say_if_inside.new.pages c.loop-at.invariant.undisturbed c.in_ok-count.ensures.undisturbed) c.in_err-gather-2.ensures.undisturbed
