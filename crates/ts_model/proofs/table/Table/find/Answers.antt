use Rattle.std.proofs.Common.{◌≡◌, ◌<◌, List, Option, get_or, length, subst, ap, sym, ◌∙◌, arith, true, false}
use Rattle.ts_model.specs.Definitions.{slot_of, has_name}
use Rattle.ts_model.specs.Table.{Slots, padded, place_of, stands_at}
use Rattle.ts_model.specs.declared.def.Def.{Def}
use Rattle.ts_model.proofs.OrderLemmas.{stands_within}
use Rattle.ts_model.proofs.IndexLemmas.{index, index-length, search-found, search-none}
use Rattle.ts_model.proofs.TableLemmas.{padded-length, slot-within}
use Rattle.ts_model.proofs.table.Table.find.Goals as goal

pub bounds-order-place : goal.bounds-order-place
bounds-order-place c =
    let items = c.self.inside.slots.items in
    let here = stands_within (index c.as_slice-slots.result.now) c.place_in-place.result c.args.name.now (sym c.is_at.ensures ∙ c.if-is_at.true) in
    let same = ap (λ (l : List (Option Def)). length (index l)) c.as_slice-slots.ensures.value in
    let size : length c.as_slice-order.result.now ≡ length (index items) = ap length (c.as_slice-order.ensures.value ∙ c.self.invariant.kept.index) ∙ index-length items in
    omega (arith, here, same, size)

pub returns-then-is_at : goal.returns-then-is_at
returns-then-is_at c =
    let items = c.self.inside.slots.items in
    let slots = c.as_slice-slots.ensures.value in
    let place : c.place_in-place.result ≡ place_of c.args.name.now (index items) = c.place_in-place.ensures.place ∙ ap (λ (l : List (Option Def)). place_of c.args.name.now (index l)) slots in
    let found : stands_at c.place_in-place.result c.args.name.now (index items) ≡ true = ap (λ (l : List (Option Def)). stands_at c.place_in-place.result c.args.name.now (index l)) (sym slots) ∙ sym c.is_at.ensures ∙ c.if-is_at.true in
    let here = search-found c.self.inside.count items c.as_slice-order.result.now c.args.name.now c.place_in-place.result (c.as_slice-order.ensures.value ∙ c.self.invariant.kept.index) place found in
    let size = padded-length c.self.inside.count items c.self.invariant.kept.size in
    record {
      value = here ∙ ap (λ (t : Slots). slot_of c.args.name.now t.slots) c.self.view_is;
      within = subst (λ (t : Slots). get_or c.as_slice-order.result.now c.place_in-place.result 0 < t.count) c.self.view_is (slot-within (has_name c.args.name.now) (padded c.self.inside.count items) c.self.inside.count _ size (sym here));
    }

pub returns-else-is_at : goal.returns-else-is_at
returns-else-is_at c =
    let items = c.self.inside.slots.items in
    let slots = c.as_slice-slots.ensures.value in
    let place : c.place_in-place.result ≡ place_of c.args.name.now (index items) = c.place_in-place.ensures.place ∙ ap (λ (l : List (Option Def)). place_of c.args.name.now (index l)) slots in
    let none : stands_at c.place_in-place.result c.args.name.now (index items) ≡ false = ap (λ (l : List (Option Def)). stands_at c.place_in-place.result c.args.name.now (index l)) (sym slots) ∙ sym c.is_at.ensures ∙ c.if-is_at.false in
    record {
      value = search-none c.self.inside.count items c.args.name.now c.place_in-place.result place none ∙ ap (λ (t : Slots). slot_of c.args.name.now t.slots) c.self.view_is;
      within = tt;
    }
