use Rattle.std.proofs.Common.{◌≡◌, ◌≤◌, ◌++◌, ℕ, List, Option, length, ap, ◌∙◌, arith}
use Rattle.std.specs.Vec.{vec_capacity}
use Rattle.ts_model.specs.Table.{Slots, padded}
use Rattle.ts_model.specs.declared.def.Def.{Def}
use Rattle.ts_model.proofs.TableLemmas.{kept-copied}
use Rattle.ts_model.proofs.table.Table.copy.Goals as goal

pub invariant_of-result : goal.invariant_of-result
invariant_of-result c =
    let items = c.self.inside.slots.items in
    let same : c.in_ok-slots.slots.items ≡ items = c.in_ok-slots.ensures.slots ∙ c.as_slice.ensures.value in
    let sorted : c.extend_from_slice.new.self.items ≡ c.self.inside.order.items =
    c.in_ok-extend_from_slice.ensures.items ∙ ap (λ (l : List ℕ). l ++ c.as_slice-2.result.now) c.in_ok-order.ensures.items ∙ c.as_slice-2.ensures.value in
    record {
      kept = kept-copied c.self.inside.count items c.in_ok-slots.slots.items c.self.inside.order.items c.extend_from_slice.new.self.items c.self.inside.vacant c.self.inside.room c.self.invariant.kept same sorted;
      memory = record {
        slots = λ taken. (let all = c.memory_for-size.ensures taken in omega (arith, all, c.in_ok-slots.ensures.room));
        order = λ taken. (let all = c.memory_for-size.ensures taken in omega (arith, all, c.in_ok-order.ensures.capacity, c.extend_from_slice.ensures.capacity));
      };
    }

pub returns : goal.returns
returns c =
    let count = c.self.inside.count in
    let same : c.in_ok-slots.slots.items ≡ c.self.inside.slots.items = c.in_ok-slots.ensures.slots ∙ c.as_slice.ensures.value in
    let read : List (Option Def) → Slots = λ items. record { count = count; slots = padded count items; room = c.self.inside.room } in
    ap read same ∙ c.self.view_is
