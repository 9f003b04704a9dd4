use Rattle.std.proofs.Common.{◌≡◌, ℕ, List, [], length, take, refl, sym, subst, arith}
use Rattle.std.specs.Slice.Iter.{iter_rest}
use Rattle.std.specs.Iterator.Adapters.{zip_first, zip_second}
use Rattle.std.proofs.lemmas.List.{length_push, take_all}
use Rattle.std.proofs.lemmas.Slice.Zip.{zip_turn, zip_end}
use Rattle.ts_row.specs.Row.{Row}
use Rattle.ts_aggregate.specs.declared.series_pages.Stack.{Stack}
use Rattle.ts_combined_rows.specs.Gathered.{HasSeries}
use Rattle.ts_combined_rows.proofs.EachSeriesLemmas.{none_said}
use Rattle.ts_combined_rows.proofs.StackLemmas.{AreStacksSaid, stack_said}
use Rattle.ts_combined_rows.proofs.each_series.say_rows.Goals as goal

pub key_at-key-requires : goal.key_at-key-requires
key_at-key-requires c =
    let first : iter_rest (zip_first c.into_iter-stack-iterator.result) ≡ c.args.stacks.now = cc in
    let second : iter_rest (zip_second c.into_iter-stack-iterator.result) ≡ c.args.rows.now = cc in
    let turn = zip_turn c.args.stacks.now c.args.rows.now c.loop-stack.yielded _ _ c.next.new.self c.next.result first second c.loop-stack.yielded_by (c.in-Some.stack, c.in-Some.row) c.in-Some.is c.next.ensures.steps in
    let stack : Stack = c.in-Some.stack.now in
    let has = subst (HasSeries c.args.defs.now.definitions) (sym (turn.2 stack)) (c.requires.series (length c.loop-stack.yielded) stack turn.0) in
    record { within = has.within; some = has.some }

pub loop-stack-init : goal.loop-stack-init
loop-stack-init c = ([], record { keyed = tt; folded = refl }, none_said c.args.bound.now [] c.args.out.now refl)

pub loop-stack-preserved : goal.loop-stack-preserved
loop-stack-preserved c =
    let first : iter_rest (zip_first c.into_iter-stack-iterator.result) ≡ c.args.stacks.now = cc in
    let second : iter_rest (zip_second c.into_iter-stack-iterator.result) ≡ c.args.rows.now = cc in
    let turn = zip_turn c.args.stacks.now c.args.rows.now c.loop-stack.yielded _ _ c.next.new.self c.next.result first second c.loop-stack.yielded_by (c.in-Some.stack, c.in-Some.row) c.in-Some.is c.next.ensures.steps in
    let stacks : List Stack = c.args.stacks.now in
    let rows : List Row = c.args.rows.now in
    let index = length c.loop-stack.yielded in
    let d = c.args.defs.now.definitions in
    let more = length_push c.loop-stack.yielded (c.in-Some.stack, c.in-Some.row) in
    subst (λ (n : ℕ). AreStacksSaid c.args.bound.now d (take n stacks) (take n rows) c.args.out.now c.say_series_folded.new.out n) (sym more)
    (stack_said c.args.bound.now d stacks rows index c.in-Some.stack.now c.in-Some.row.now c.key_at-key.result.now c.scales.result.now c.args.out.now c.loop-stack.out c.say_series_folded.new.out turn.0 turn.1
    (turn.2 c.in-Some.stack.now) (turn.3 c.in-Some.row.now) c.key_at-key.ensures c.scales.ensures.value c.in_ok-say_series_folded.ensures.ok c.loop-stack.invariant)

pub returns : goal.returns
returns c =
    let first : iter_rest (zip_first c.into_iter-stack-iterator.result) ≡ c.args.stacks.now = cc in
    let second : iter_rest (zip_second c.into_iter-stack-iterator.result) ≡ c.args.rows.now = cc in
    let all = zip_end c.args.stacks.now c.args.rows.now c.loop-stack.yielded _ _ c.next.new.self c.next.result first second c.loop-stack.yielded_by c.in-None.is c.next.ensures.steps in
    let stacks : List Stack = c.args.stacks.now in
    let rows : List Row = c.args.rows.now in
    let same = c.requires.as_many in
    let index : length c.loop-stack.yielded ≡ length stacks = omega (arith, all, same) in
    let d = c.args.defs.now.definitions in
    let Said : List Stack → List Row → ℕ → Type 0 = λ ss rs n. AreStacksSaid c.args.bound.now d ss rs c.args.out.now c.loop-stack.out n in
    let size = length stacks in
    record {
      said = subst (λ (ss : List Stack). Said ss rows size) (take_all size stacks (omega arith))
          (subst (λ (rs : List Row). Said (take size stacks) rs size) (take_all size rows (omega (arith, same))) (subst (λ (n : ℕ). Said (take n stacks) (take n rows) n) index c.loop-stack.invariant));
    }
