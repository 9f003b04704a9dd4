use Rattle.std.proofs.Common.{◌≡◌, List, Option, Some, None, ℕ, set, length, ap, sym, subst, ◌∙◌, arith}
use Rattle.std.specs.Option.{option_copied}
use Rattle.std.specs.List.{remove}
use Rattle.std.specs.Vec.{vec_capacity}
use Rattle.ts_model.specs.declared.def.Def.{Def}
use Rattle.ts_model.specs.Definitions.{at_slot, name_of}
use Rattle.ts_model.specs.Table.{Slots, place_of, IsIndexed, AreApart}
use Rattle.ts_model.proofs.IndexLemmas.{index, index-length, index-place}
use Rattle.ts_model.proofs.TableLemmas.{at-padded, padded-set, filled-within, padded-table, kept-clear, more-memory}
use Rattle.ts_model.proofs.table.Table.clear.Goals as goal

pub remove-requires : goal.remove-requires
remove-requires c =
    let items = c.self.inside.slots.items in
    let def = c.in-Some.def.now in
    let here : at_slot c.args.slot items ≡ Some def = sym (at-padded c.self.inside.count items c.args.slot) ∙ ap (λ (t : Slots). at_slot c.args.slot t.slots) c.self.view_is ∙ sym c.get.ensures ∙ ap option_copied c.in-Some.is in
    let place : c.place_in-place.result ≡ place_of (name_of def) (index items) = c.place_in-place.ensures.place ∙ (λ i. place_of (c.name.ensures i) (index (c.as_slice.ensures.value i))) in
    let size : length c.self.inside.order.items ≡ length (index items) = ap length c.self.invariant.kept.index ∙ index-length items in
    let within = index-place items c.args.slot def c.self.invariant.kept.apart here in
    omega (arith, place, size, within)

pub invariant_of-self : goal.invariant_of-self
invariant_of-self c =
    let items = c.self.inside.slots.items in
    let def = c.in-Some.def.now in
    let here : at_slot c.args.slot items ≡ Some def = sym (at-padded c.self.inside.count items c.args.slot) ∙ ap (λ (t : Slots). at_slot c.args.slot t.slots) c.self.view_is ∙ sym c.get.ensures ∙ ap option_copied c.in-Some.is in
    let place : c.place_in-place.result ≡ place_of (name_of def) (index items) = c.place_in-place.ensures.place ∙ (λ i. place_of (c.name.ensures i) (index (c.as_slice.ensures.value i))) in
    let kept = kept-clear c.self.inside.count items c.self.inside.order.items c.self.inside.vacant c.self.inside.room c.args.slot c.place_in-place.result def c.self.invariant.kept here place in
    record {
      kept =
          subst (λ (order : List ℕ). IsIndexed c.self.inside.count (set items c.args.slot None) order (Some c.lower.result) c.self.inside.room) (sym c.remove.ensures.items)
          (subst (λ (n : ℕ). IsIndexed c.self.inside.count (set items c.args.slot None) (remove c.self.inside.order.items c.place_in-place.result) (Some n) c.self.inside.room) (sym c.lower.ensures) kept);
      memory = more-memory c.self.inside.count c.self.inside.room (vec_capacity c.self.inside.slots) (vec_capacity c.self.inside.order) (vec_capacity c.self.inside.slots) (vec_capacity c.remove.new.self) c.self.invariant.memory
          (omega arith) (let same = c.remove.ensures.capacity in omega (arith, same));
    }

pub returns-clause-apart : goal.returns-clause-apart
returns-clause-apart c =
    subst (λ (t : Slots). AreApart t.slots) c.self.view_is (padded-table c.self.inside.count c.self.inside.slots.items c.self.invariant.kept.size c.self.invariant.kept.apart).apart

pub returns-clause-slot : goal.returns-clause-slot
returns-clause-slot c =
    let items = c.self.inside.slots.items in
    let def = c.in-Some.def.now in
    let here : at_slot c.args.slot items ≡ Some def = sym (at-padded c.self.inside.count items c.args.slot) ∙ ap (λ (t : Slots). at_slot c.args.slot t.slots) c.self.view_is ∙ sym c.get.ensures ∙ ap option_copied c.in-Some.is in
    ap (λ (l : List (Option Def)). record { count = c.self.inside.count; slots = l; room = c.self.inside.room }) (padded-set c.self.inside.count items c.args.slot None (filled-within items c.args.slot def here))
    ∙ ap (λ (t : Slots). record { count = t.count; slots = set t.slots c.args.slot None; room = t.room }) c.self.view_is

pub returns-in_default-clause-apart : goal.returns-in_default-clause-apart
returns-in_default-clause-apart c =
    subst (λ (t : Slots). AreApart t.slots) c.self.view_is (padded-table c.self.inside.count c.self.inside.slots.items c.self.invariant.kept.size c.self.invariant.kept.apart).apart
