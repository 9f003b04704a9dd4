use Rattle.std.proofs.Common.{◌≡◌, ℕ, ◌+◌, ◌<◌, Some, None, List, get_or, set, length, sym, ap, subst, ◌∙◌, arith, rules}
use Rattle.std.specs.Option.{option_copied}
use Rattle.std.proofs.lemmas.Grind.{common_steps}
use Rattle.ts_model.specs.Definitions.{at_slot}
use Rattle.ts_layout.proofs.CallerLemmas.{series_limit}
use Rattle.ts_space.specs.Directory.{places_of}
use Rattle.ts_layout.specs.Charges.{places_charge}
use Rattle.ts_container.specs.KeptCharges.{charged_to}
use Rattle.ts_container.proofs.RoomLemmas.{room_in}
use Rattle.ts_container.proofs.ChargedLemmas.{empty_charged, none_charged, series_added, read_within}
use Rattle.ts_container.proofs.kept_charges.Charges.add.Goals as goal

pub returns-in_default : goal.returns-in_default
returns-in_default c =
    let empty : at_slot c.args.slot c.args.defs.now.definitions.series ≡ None = first_of (search rules, grind (arith, common_steps)) in
    let none : (container : ℕ) → get_or c.args.self.now container 0 ≡ get_or c.args.self.now container 0 + charged_to c.args.defs.now.definitions c.args.space.now container c.args.slot =
    λ container. let zero = none_charged c.args.defs.now.definitions c.args.space.now container c.args.slot empty in omega (arith, zero) in
    record { added = λ container within. none container; bound = λ container. omega arith }

pub returns-in_default-2-clause-added : goal.returns-in_default-2-clause-added
returns-in_default-2-clause-added c container within =
    let none = empty_charged c.args.defs.now.definitions c.args.space.now container c.args.slot (sym c.get.ensures ∙ ap option_copied c.in_default.is) in
    omega (arith, none)

pub row_type_in-requires-clause-slot : goal.row_type_in-requires-clause-slot
row_type_in-requires-clause-slot c =
    series_limit c.args.defs.now.definitions c.requires.limits c.args.slot c.requires.slot _ c.in-Some-Series.container c.in-Some-Series.regular
    (sym c.get.ensures ∙ ap option_copied c.in-Some-Series.is ∙ ap Some c.in-Some-Series.field-0-is)

pub charge_of_places-charge-requires-clause-room : goal.charge_of_places-charge-requires-clause-room
charge_of_places-charge-requires-clause-room c =
    let there = sym c.get.ensures ∙ ap option_copied c.in-Some-Series.is ∙ ap Some c.in-Some-Series.field-0-is in
    let within = series_limit c.args.defs.now.definitions c.requires.limits c.args.slot c.requires.slot _ c.in-Some-Series.container c.in-Some-Series.regular there in
    subst (λ (n : ℕ). 0 < n) (sym c.page_room.ensures.value) (room_in c.args.defs.now.definitions c.requires.limits c.in-Some-Series.container c.in-Some.kind.now within c.in-Some.ensures)

pub index-sum-requires : goal.index-sum-requires
index-sum-requires c =
    let there = sym c.get.ensures ∙ ap option_copied c.in-Some-Series.is ∙ ap Some c.in-Some-Series.field-0-is in
    let within = series_limit c.args.defs.now.definitions c.requires.limits c.args.slot c.requires.slot _ c.in-Some-Series.container c.in-Some-Series.regular there in
    let size = c.self.invariant in
    first_of (omega (arith, within, size), grind (arith, within, size))

pub overflow_add-sum : goal.overflow_add-sum
overflow_add-sum c =
    let own = c.in-Some-Series.container in
    let there = sym c.get.ensures ∙ ap option_copied c.in-Some-Series.is ∙ ap Some c.in-Some-Series.field-0-is in
    let within = series_limit c.args.defs.now.definitions c.requires.limits c.args.slot c.requires.slot _ own c.in-Some-Series.regular there in
    let size = c.self.invariant in
    let read = read_within c.self.inside.sums.items own c.index-sum.result.now (omega (arith, within, size)) c.index-sum.ensures in
    let same = ap (λ (l : List ℕ). get_or l own 0) c.self.view_is in
    let room = c.requires.room own in
    let bound = c.charge_of_places-charge.ensures.bound in
    omega (arith, read, same, room, bound)

pub index_mut-requires : goal.index_mut-requires
index_mut-requires c =
    let there = sym c.get.ensures ∙ ap option_copied c.in-Some-Series.is ∙ ap Some c.in-Some-Series.field-0-is in
    let within = series_limit c.args.defs.now.definitions c.requires.limits c.args.slot c.requires.slot _ c.in-Some-Series.container c.in-Some-Series.regular there in
    let size = c.self.invariant in
    first_of (omega (arith, within, size), grind (arith, within, size))

pub returns-clause-added : goal.returns-clause-added
returns-clause-added c container below =
    let d = c.args.defs.now.definitions in
    let space = c.args.space.now in
    let sums = c.self.inside.sums.items in
    let own = c.in-Some-Series.container in
    let regular = c.in-Some-Series.regular in
    let charge = c.charge_of_places-charge.result in
    let there = sym c.get.ensures ∙ ap option_copied c.in-Some-Series.is ∙ ap Some c.in-Some-Series.field-0-is in
    let within = series_limit d c.requires.limits c.args.slot c.requires.slot _ own regular there in
    let size = c.self.invariant in
    let inside : own < length sums = omega (arith, within, size) in
    let read = read_within sums own c.index-sum.result.now inside c.index-sum.ensures in
    let cost = c.charge_of_places-charge.ensures.value ∙ ap (λ (n : ℕ). places_charge n regular (places_of c.args.slot space)) c.page_room.ensures.value in
    ap (λ (n : ℕ). get_or (set sums own (n + charge)) container 0) read
    ∙ series_added d space c.args.slot _ own regular there c.in-Some.kind.now sums charge c.in-Some.ensures cost inside container
    ∙ ap (λ (l : List ℕ). get_or l container 0 + charged_to d space container c.args.slot) c.self.view_is
