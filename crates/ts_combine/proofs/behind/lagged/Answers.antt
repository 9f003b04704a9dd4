-- One element after the other, with or without a start.
use Rattle.std.proofs.Common.{◌≡◌, ◌∙◌, ◌+◌, ℤ, ℕ, to_z, of_z, w64, refl, length, filter_map, sym, subst, arith}
use Rattle.std.proofs.lemmas.Int.{ints}
use Rattle.std.proofs.lemmas.Option.{slice_get_read}
use Rattle.ts_entry.specs.Entry.{elements_in}
use Rattle.ts_combine.specs.Moved.{moved, last_offset, GathersLagged}
use Rattle.ts_combine.specs.declared.joined.Lagged.{Lagged}
use Rattle.ts_combine.specs.declared.rows.Rows.{Rows}
use Rattle.ts_combine.proofs.LaggedLemmas.{IsLagging, lagging-none, lagging-some, all-lagged}
use Rattle.ts_combine.proofs.behind.lagged.Goals as goal
use Rattle.ts_combine.proofs.behind.lagged.Goals.{in-Some+in_ok-push, in_default}

pub loop-index-preserved : goal.loop-index-preserved
loop-index-preserved c =
    let grid = c.args.grid.now in
    let by = to_z w64 (of_z w64 c.args.by) in
    let last = c.last_offset-last.result in
    let elems = c.args.elems.now in
    let n = c.loop-index.index in
    let e = c.index-elems-index.result in
    let there = slice_get_read elems (length elems) n e refl (omega arith) c.index-elems-index.is in
    elim c.match-start_behind.branch [
      | in-Some+in_ok-push w ↦
          subst (λ (rows : Rows Lagged). IsLagging grid by last elems rows (n + 1)) (sym w.rows-is)
          (lagging-some grid by last elems c.loop-index.rows w.push.new.self n e w.in-Some.stamp c.loop-index.invariant there (sym c.start_behind.ensures ∙ w.in-Some.is)
          w.in_ok-push.ensures.gathers w.in_ok-push.ensures.count)
      | in_default w ↦
          subst (λ (rows : Rows Lagged). IsLagging grid by last elems rows (n + 1)) (sym w.rows-is)
          (lagging-none grid by last elems c.loop-index.rows n e c.loop-index.invariant there (sym c.start_behind.ensures ∙ w.in_default.is))
    ]

pub returns : goal.returns
returns c =
    let by_is : to_z w64 (of_z w64 c.args.by) ≡ c.args.by = omega (arith, ints) in
    let gathered = all-lagged c.args.grid.now (to_z w64 (of_z w64 c.args.by)) c.last_offset-last.result c.args.elems.now c.loop-index.rows c.loop-index.index c.loop-index.invariant (omega arith) in
    subst (λ (k : ℤ). GathersLagged c.args.elems.now (filter_map (moved c.args.grid.now k (last_offset c.args.grid.now (elements_in c.args.elems.now))) (elements_in c.args.elems.now)) c.loop-index.rows) by_is
    (subst (λ (m : ℕ). GathersLagged c.args.elems.now (filter_map (moved c.args.grid.now (to_z w64 (of_z w64 c.args.by)) m) (elements_in c.args.elems.now)) c.loop-index.rows) c.last_offset-last.ensures gathered)
