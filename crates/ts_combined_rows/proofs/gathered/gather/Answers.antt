use Rattle.std.proofs.Common.{ℕ, List, [], ◌∷◌, ◌++◌, take, get_or, sym, subst, arith}
use Rattle.std.specs.List.{AllZip}
use Rattle.std.proofs.lemmas.Slice.Zip.{all_zipped_more}
use Rattle.ts_page.specs.declared.page.Page.{Page}
use Rattle.ts_aggregate.specs.declared.series_pages.Stack.{Stack}
use Rattle.ts_shelf.proofs.ReadingLemmas.{then_reads, reads_as}
use Rattle.ts_combined_rows.specs.Gathered.{seen_by, inside, IsStackOf}
use Rattle.ts_combined_rows.proofs.GatheredLemmas.{stands_named, one_inside, stack_same, stacks_still}
use Rattle.ts_combined_rows.proofs.gathered.gather.Goals as goal

pub stack_at-requires-clause-named : goal.stack_at-requires-clause-named
stack_at-requires-clause-named g c =
    let x = seen_by c.args.range.now (g.P.Pages.contents c.args.pages.now) in
    stands_named x c.requires.seen.kept c.args.range.now.container _ (c.requires.slots c.loop-passed.passed 0 c.loop-passed-test.true) (sym c.if-not-stands_in.ensures)

pub returns-in_err-push-clause-undisturbed : goal.returns-in_err-push-clause-undisturbed
returns-in_err-push-clause-undisturbed g c =
    g.met.P.Pages.«then» c.args.pages.now c.loop-passed.pages c.stack_at.new.pages c.loop-passed.invariant.undisturbed c.in_ok-stack.ensures.undisturbed

pub returns-in_default-clause-gathered : goal.returns-in_default-clause-gathered
returns-in_default-clause-gathered g c =
    let range = c.args.range.now in
    let x = seen_by range (g.P.Pages.contents c.args.pages.now) in
    let passed = c.loop-passed.passed in
    let so_far = c.loop-passed.gathered in
    let behind = c.in_ok-stack.ensures.behind in
    let below = c.loop-passed-test.true in
    record {
      passed = omega (arith, below);
      stacks = stacks_still g.P.Pages.tells x range.from range.to so_far.pages behind.0 c.stack_at.new.held (inside x.definitions range.container (take passed c.args.slots.now)) so_far.stacks.items behind.1 c.loop-passed.invariant.stacks;
    }

pub loop-passed-preserved : goal.loop-passed-preserved
loop-passed-preserved g c =
    let tells = g.P.Pages.tells in
    let range = c.args.range.now in
    let d = range.defs.now.definitions in
    let space = range.space.now in
    let u = g.P.Pages.contents c.args.pages.now in
    let v = g.P.Pages.contents c.loop-passed.pages in
    let w = g.P.Pages.contents c.stack_at.new.pages in
    let so_far = c.loop-passed.invariant in
    let passed = c.loop-passed.passed in
    let slots : List ℕ = c.args.slots.now in
    let slot : ℕ = get_or slots passed 0 in
    let stack : Stack = c.in-Some.stack in
    let before : List Stack = c.loop-passed.gathered.stacks.items in
    let held : List Page = c.stack_at.new.held in
    let behind = c.in_ok-stack.ensures.behind in
    let Is : ℕ → Stack → Type 0 = IsStackOf tells (seen_by range u) range.from range.to held in
    let own = stack_same tells tt d space u v range.from range.to held slot stack so_far.call (rw c.in-Some.is at c.in_ok-stack.ensures.stack) in
    let others = stacks_still tells (seen_by range u) range.from range.to c.loop-passed.gathered.pages behind.0 held (inside d range.container (take passed slots)) before behind.1 so_far.stacks in
    record {
      call = reads_as tells c.in_ok-stack.field-0 tt u w (then_reads tells tt c.in_ok-stack.field-0 u v w so_far.call c.in_ok-stack.ensures.call);
      undisturbed = g.met.P.Pages.«then» c.args.pages.now c.loop-passed.pages c.stack_at.new.pages so_far.undisturbed c.in_ok-stack.ensures.undisturbed;
      stacks =
          subst (λ (ns : List ℕ). AllZip Is ns c.push.new.self.items) (sym (one_inside d range.container slots passed 0 c.loop-passed-test.true (sym c.if-not-stands_in.ensures)))
          (subst (λ (ss : List Stack). AllZip Is (inside d range.container (take passed slots) ++ slot ∷ []) ss) (sym c.in_ok-push.ensures.items)
          (all_zipped_more Is (inside d range.container (take passed slots)) before slot stack others own));
    }
