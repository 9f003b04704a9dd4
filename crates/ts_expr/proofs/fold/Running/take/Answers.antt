use Rattle.std.proofs.Common.{false, rules, ◌≡◌, ◌<◌, ◌^◌, ℕ, ◌∙◌, ap, sym, subst, arith, length, All, List}
use Rattle.std.proofs.lemmas.List.{with_items_is}
use Rattle.ts_row.specs.Row.{Values}
use Rattle.ts_expr.specs.declared.item.BoundItem.{BoundItem}
use Rattle.ts_expr.specs.declared.tally.Tally.{Tally}
use Rattle.ts_expr.specs.Running.{count_of, all_taken, IsSmall}
use Rattle.ts_expr.proofs.FoldLemmas.{after_seen, hold_small, hold-length, few_all}
use Rattle.ts_expr.proofs.fold.Running.take.Goals as goal

pub take_values-requires-clause-places : goal.take_values-requires-clause-places
take_values-requires-clause-places c =
    let columns = c.args.bound.now.columns in
    let values = c.args.row.now.values in
    let size : length columns ≡ length c.values.result.now = sym (hold-length columns values c.requires.fits) ∙ ap length (sym c.values.ensures) in
    subst (λ (n : ℕ). All (λ (i : BoundItem). i.column < n) c.items.result.now) size
    (subst (λ (l : List BoundItem). All (λ (i : BoundItem). i.column < length columns) l) (sym c.items.ensures.value) c.items.ensures.rules.places)

pub take_values-requires-clause-few : goal.take_values-requires-clause-few
take_values-requires-clause-few c =
    let is = c.requires.so_far in
    let items = c.args.bound.now.items in
    subst (λ (l : List Tally). All (λ t. count_of t < 2 ^ 32) l) (sym (c.deref_mut.ensures.value ∙ c.self.view_is ∙ is.so_far)) (few_all items is.rows is.few)

pub take_values-requires-clause-small : goal.take_values-requires-clause-small
take_values-requires-clause-small c =
    subst (λ (l : Values). All IsSmall l) (sym c.values.ensures) (hold_small c.args.bound.now.columns c.args.row.now.values c.items.ensures.rules.kinds c.requires.fits)

pub returns : goal.returns
returns c = λ rows is.
    let row = c.args.row.now in
    let items = c.args.bound.now.items in
    let seen : row.hidden ≡ false = search rules in
    let size : length c.take_values.new.tallies ≡ c.self.inside.tallies.len = omega (arith, c.take_values.auto.tallies, c.deref_mut.ensures.len) in
    with_items_is c.self.inside.tallies c.take_values.new.tallies size
    ∙ c.in_ok-take_values.ensures
    ∙ ap (λ (l : List BoundItem). all_taken l c.values.result.now c.deref_mut.result.now) c.items.ensures.value
    ∙ ap (λ (l : Values). all_taken items l c.deref_mut.result.now) c.values.ensures
    ∙ ap (all_taken items row.values) (c.deref_mut.ensures.value ∙ c.self.view_is ∙ is)
    ∙ after_seen items rows row seen
