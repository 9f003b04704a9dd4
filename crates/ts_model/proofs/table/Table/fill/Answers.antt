use Rattle.std.proofs.Common.{◌≡◌, ◌<◌, Bool, true, List, Option, Some, ℕ, length, set, ap, sym, subst, ◌∙◌, arith, length-set}
use Rattle.std.specs.Option.{IsSome}
use Rattle.std.specs.Vec.{vec_capacity}
use Rattle.ts_model.specs.Definitions.{at_slot, name_of, vacant_slot, slots_by_name}
use Rattle.std.specs.FinMap.{values}
use Rattle.ts_model.specs.Table.{Slots, padded, place_of, IsIndexed}
use Rattle.ts_model.specs.declared.def.Def.{Def}
use Rattle.ts_model.proofs.IndexLemmas.{index}
use Rattle.ts_model.proofs.VacantLemmas.{vacant-fill}
use Rattle.ts_model.proofs.TableLemmas.{fillable, long, padded-length, padded-set, at-padded, more-memory, index-room, lowest-filled-first, option-same, option-other, kept-fill}
use Rattle.ts_model.proofs.table.Table.fill.Goals as goal

-- what callers see of the filled slot
filled : (t : Slots) (count : ℕ) (first items : List (Option Def)) (room : Bool) (slot : ℕ) (a : Def) → record { count = count; slots = padded count first; room = room } ≡ t → slot < length items → padded count items ≡ padded count first
    → ◌≡◌ {A = Slots} (record { count = count; slots = padded count (set items slot (Some a)); room = room }) (record { count = t.count; slots = set t.slots slot (Some a); room = t.room })
filled t count first items room slot a view within same =
    ap (λ (l : List (Option Def)). record { count = count; slots = l; room = room }) (padded-set count items slot (Some a) within ∙ ap (λ (l : List (Option Def)). set l slot (Some a)) same)
    ∙ ap (λ (u : Slots). record { count = u.count; slots = set u.slots slot (Some a); room = u.room }) view

pub unreachable-requires : goal.unreachable-requires
unreachable-requires c =
    let first = c.self.inside.slots.items in
    let items = c.extend.new.slots.items in
    let f = fillable c.args.self.now c.self.inside.count first c.self.inside.room c.args.slot (name_of c.args.def) c.self.view_is c.requires.slot c.requires.empty c.requires.name c.requires.room in
    let l = long c.self.inside.count first items c.self.inside.order.items c.self.inside.vacant c.self.inside.room c.args.slot (name_of c.args.def) c.self.invariant.kept f c.extend.ensures.within c.extend.ensures.empty in
    let room = index-room items c.self.inside.order.items c.args.slot l.kept.index l.within l.empty in
    let spare = c.self.invariant.memory.order f.taken in
    let size = l.kept.size in
    let short = c.in_default.ensures.full in
    omega (arith, room, spare, size, short)

pub vacant_behind-self-inside-requires-clause-most : goal.vacant_behind-self-inside-requires-clause-most
vacant_behind-self-inside-requires-clause-most c =
    let first = c.self.inside.slots.items in
    let items = c.extend.new.slots.items in
    let f = fillable c.args.self.now c.self.inside.count first c.self.inside.room c.args.slot (name_of c.args.def) c.self.view_is c.requires.slot c.requires.empty c.requires.name c.requires.room in
    let l = long c.self.inside.count first items c.self.inside.order.items c.self.inside.vacant c.self.inside.room c.args.slot (name_of c.args.def) c.self.invariant.kept f c.extend.ensures.within c.extend.ensures.empty in
    let most = l.kept.size in
    let size : length c.as_slice-then-eq.result.now ≡ length items = ap length c.as_slice-then-eq.ensures.value ∙ length-set items c.args.slot (Some c.args.def) in
    omega (arith, most, size)

pub vacant_behind-self-inside-requires-clause-filled : goal.vacant_behind-self-inside-requires-clause-filled
vacant_behind-self-inside-requires-clause-filled c = λ i upto.
    let first = c.self.inside.slots.items in
    let items = c.extend.new.slots.items in
    let f = fillable c.args.self.now c.self.inside.count first c.self.inside.room c.args.slot (name_of c.args.def) c.self.view_is c.requires.slot c.requires.empty c.requires.name c.requires.room in
    let l = long c.self.inside.count first items c.self.inside.order.items c.self.inside.vacant c.self.inside.room c.args.slot (name_of c.args.def) c.self.invariant.kept f c.extend.ensures.within c.extend.ensures.empty in
    let lowest : vacant_slot (padded c.self.inside.count items) ≡ Some c.args.slot = sym l.kept.lowest ∙ option-same c.self.inside.vacant c.args.slot (sym c.eq.ensures ∙ c.if-eq.true) in
    subst (λ (l : List (Option Def)). IsSome (at_slot i l)) (sym c.as_slice-then-eq.ensures.value) (lowest-filled-first c.self.inside.count items c.args.slot c.args.def l.within lowest i upto)

pub invariant_of-self : goal.invariant_of-self
invariant_of-self c =
    let first = c.self.inside.slots.items in
    let items = c.extend.new.slots.items in
    let f = fillable c.args.self.now c.self.inside.count first c.self.inside.room c.args.slot (name_of c.args.def) c.self.view_is c.requires.slot c.requires.empty c.requires.name c.requires.room in
    let l = long c.self.inside.count first items c.self.inside.order.items c.self.inside.vacant c.self.inside.room c.args.slot (name_of c.args.def) c.self.invariant.kept f c.extend.ensures.within c.extend.ensures.empty in
    let place : c.place_in-place.result ≡ place_of (name_of c.args.def) (index items) = c.place_in-place.ensures.place ∙ (λ i. place_of (c.name.ensures i) (index (c.as_slice.ensures.value i))) in
    let lowest : c.vacant_behind-self-inside.result ≡ vacant_slot (padded c.self.inside.count (set items c.args.slot (Some c.args.def))) =
    c.vacant_behind-self-inside.ensures ∙ ap (λ (s : List (Option Def)). vacant_slot {A = Def} (padded c.self.inside.count s)) c.as_slice-then-eq.ensures.value in
    record {
      kept = subst (λ (room : Bool). IsIndexed c.self.inside.count (set items c.args.slot (Some c.args.def)) c.insert.new.self.items c.vacant_behind-self-inside.result room) (sym f.taken)
          (subst (λ (order : List ℕ). IsIndexed c.self.inside.count (set items c.args.slot (Some c.args.def)) order c.vacant_behind-self-inside.result true) (sym c.in-Ok.ensures.items)
          (kept-fill c.self.inside.count items c.self.inside.order.items c.self.inside.vacant _ true c.args.slot c.place_in-place.result c.args.def l.kept l.within l.empty l.new place lowest));
      memory = more-memory c.self.inside.count c.self.inside.room (vec_capacity c.self.inside.slots) (vec_capacity c.self.inside.order) (vec_capacity c.extend.new.slots) (vec_capacity c.insert.new.self) c.self.invariant.memory c.extend.ensures.room c.in-Ok.ensures.capacity;
    }

pub invariant_of-self-else-eq : goal.invariant_of-self-else-eq
invariant_of-self-else-eq c =
    let first = c.self.inside.slots.items in
    let items = c.extend.new.slots.items in
    let f = fillable c.args.self.now c.self.inside.count first c.self.inside.room c.args.slot (name_of c.args.def) c.self.view_is c.requires.slot c.requires.empty c.requires.name c.requires.room in
    let l = long c.self.inside.count first items c.self.inside.order.items c.self.inside.vacant c.self.inside.room c.args.slot (name_of c.args.def) c.self.invariant.kept f c.extend.ensures.within c.extend.ensures.empty in
    let place : c.place_in-place.result ≡ place_of (name_of c.args.def) (index items) = c.place_in-place.ensures.place ∙ (λ i. place_of (c.name.ensures i) (index (c.as_slice.ensures.value i))) in
    let other = option-other c.self.inside.vacant c.args.slot (sym c.eq.ensures ∙ c.if-eq.false) in
    let below : c.args.slot < length (padded c.self.inside.count items) = (let all = padded-length c.self.inside.count items l.kept.size in omega (arith, all, f.below)) in
    let lowest : c.self.inside.vacant ≡ vacant_slot (padded c.self.inside.count (set items c.args.slot (Some c.args.def))) =
    l.kept.lowest ∙ sym (vacant-fill (padded c.self.inside.count items) c.args.slot c.args.def below (at-padded c.self.inside.count items c.args.slot ∙ l.empty) (λ h. other (l.kept.lowest ∙ h)))
    ∙ ap (vacant_slot {A = Def}) (sym (padded-set c.self.inside.count items c.args.slot (Some c.args.def) l.within)) in
    record {
      kept = subst (λ (room : Bool). IsIndexed c.self.inside.count (set items c.args.slot (Some c.args.def)) c.insert.new.self.items c.self.inside.vacant room) (sym f.taken)
          (subst (λ (order : List ℕ). IsIndexed c.self.inside.count (set items c.args.slot (Some c.args.def)) order c.self.inside.vacant true) (sym c.in-Ok.ensures.items)
          (kept-fill c.self.inside.count items c.self.inside.order.items c.self.inside.vacant _ true c.args.slot c.place_in-place.result c.args.def l.kept l.within l.empty l.new place lowest));
      memory = more-memory c.self.inside.count c.self.inside.room (vec_capacity c.self.inside.slots) (vec_capacity c.self.inside.order) (vec_capacity c.extend.new.slots) (vec_capacity c.insert.new.self) c.self.invariant.memory c.extend.ensures.room c.in-Ok.ensures.capacity;
    }

pub extend-requires-clause-room : goal.extend-requires-clause-room
extend-requires-clause-room c =
    let first = c.self.inside.slots.items in
    let f = fillable c.args.self.now c.self.inside.count first c.self.inside.room c.args.slot (name_of c.args.def) c.self.view_is c.requires.slot c.requires.empty c.requires.name c.requires.room in
    let room = c.self.invariant.memory.slots f.taken in
    let below = f.below in
    omega (arith, room, below)

pub place_in-place-requires : goal.place_in-place-requires
place_in-place-requires c =
    let first = c.self.inside.slots.items in
    let items = c.extend.new.slots.items in
    let f = fillable c.args.self.now c.self.inside.count first c.self.inside.room c.args.slot (name_of c.args.def) c.self.view_is c.requires.slot c.requires.empty c.requires.name c.requires.room in
    let l = long c.self.inside.count first items c.self.inside.order.items c.self.inside.vacant c.self.inside.room c.args.slot (name_of c.args.def) c.self.invariant.kept f c.extend.ensures.within c.extend.ensures.empty in
    record { index = c.as_slice-2.ensures.value ∙ l.kept.index ∙ ap (λ (s : List (Option Def)). values (slots_by_name s)) (sym c.as_slice.ensures.value) }

pub returns-then-eq : goal.returns-then-eq
returns-then-eq c =
    let first = c.self.inside.slots.items in
    let items = c.extend.new.slots.items in
    let f = fillable c.args.self.now c.self.inside.count first c.self.inside.room c.args.slot (name_of c.args.def) c.self.view_is c.requires.slot c.requires.empty c.requires.name c.requires.room in
    let l = long c.self.inside.count first items c.self.inside.order.items c.self.inside.vacant c.self.inside.room c.args.slot (name_of c.args.def) c.self.invariant.kept f c.extend.ensures.within c.extend.ensures.empty in
    filled c.args.self.now c.self.inside.count first items c.self.inside.room c.args.slot c.args.def c.self.view_is l.within l.same

pub returns-else-eq : goal.returns-else-eq
returns-else-eq c =
    let first = c.self.inside.slots.items in
    let items = c.extend.new.slots.items in
    let f = fillable c.args.self.now c.self.inside.count first c.self.inside.room c.args.slot (name_of c.args.def) c.self.view_is c.requires.slot c.requires.empty c.requires.name c.requires.room in
    let l = long c.self.inside.count first items c.self.inside.order.items c.self.inside.vacant c.self.inside.room c.args.slot (name_of c.args.def) c.self.invariant.kept f c.extend.ensures.within c.extend.ensures.empty in
    filled c.args.self.now c.self.inside.count first items c.self.inside.room c.args.slot c.args.def c.self.view_is l.within l.same
