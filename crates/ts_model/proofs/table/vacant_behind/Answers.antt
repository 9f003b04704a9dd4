use Rattle.std.proofs.Common.{◌≡◌, ℕ, ◌+◌, ◌-◌, ◌≤◌, List, Option, None, replicate, refl, length, take, drop, sym, ◌∙◌, ap, arith, length-drop}
use Rattle.std.proofs.lemmas.List.{take_all}
use Rattle.std.specs.Option.{option_map, IsSome}
use Rattle.ts_model.specs.Definitions.{at_slot, vacant_slot}
use Rattle.ts_model.specs.Table.{padded}
use Rattle.ts_model.specs.declared.def.Def.{Def}
use Rattle.ts_model.proofs.VacantLemmas.{or_later, vacant-behind, vacant-append, vacant-behind-all}
use Rattle.ts_model.proofs.table.vacant_behind.Goals as goal

-- a part up to the end is what is left
rest-of : (xs : List (Option Def)) (n : ℕ) → take (length xs - n) (drop n xs) ≡ drop n xs
rest-of xs n = let size = length-drop n xs in take_all (length xs - n) (drop n xs) (omega (arith, size))

behind : (count slot len : ℕ) (slots : List (Option Def)) (found : Option ℕ) → len ≡ length slots → ((i : ℕ) → i ≤ slot → IsSome (at_slot i slots)) → found ≡ vacant_slot (take (length slots - (slot + 1)) (drop (slot + 1) slots))
    → vacant_slot (padded count slots) ≡ or_later (option_map (λ m. (slot + 1) + m) found) len (vacant_slot {A = Def} (replicate (count - len) None))
behind count slot len slots found size filled here =
    let all = vacant-behind slots (slot + 1) (λ j below. filled j (omega (arith, below))) in
    let first : vacant_slot slots ≡ option_map (λ m. (slot + 1) + m) found = all ∙ ap (option_map (λ m. (slot + 1) + m)) (ap (vacant_slot {A = Def}) (sym (rest-of slots (slot + 1))) ∙ sym here) in
    vacant-append slots (replicate (count - length slots) None)
    ∙ (λ i. or_later (first i) (sym size i) (vacant_slot {A = Def} (replicate (count - sym size i) None)))

pub returns-in-Some : goal.returns-in-Some
returns-in-Some c =
    let here = c.first_empty.ensures.value in
    let all = behind c.args.count c.args.slot (length c.args.slots.now) c.args.slots.now c.first_empty.result refl c.requires.filled here in
    sym (all ∙ ap (λ (o : Option ℕ). or_later (option_map (λ m. (c.args.slot + 1) + m) o) (length c.args.slots.now) (vacant_slot {A = Def} (replicate (c.args.count - length c.args.slots.now) None))) c.in-Some.is)

pub returns-in-None : goal.returns-in-None
returns-in-None c =
    let here = c.first_empty.ensures.value in
    let all = behind c.args.count c.args.slot (length c.args.slots.now) c.args.slots.now c.first_empty.result refl c.requires.filled here in
    sym (all ∙ ap (λ (o : Option ℕ). or_later (option_map (λ m. (c.args.slot + 1) + m) o) (length c.args.slots.now) (vacant_slot {A = Def} (replicate (c.args.count - length c.args.slots.now) None))) c.in-None.is
    ∙ vacant-behind-all c.args.count (length c.args.slots.now) ∙ sym c.slot_behind.ensures)
