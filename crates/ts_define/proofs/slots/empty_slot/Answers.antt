use Rattle.std.proofs.Common.{◌≡◌, ℕ, true, false, Option, Some, None, is_some, refl, sym, ◌∙◌}
use Rattle.ts_answer.proofs.CallerLemmas.{name_new, name_taken, name_beyond}
use Rattle.ts_define.proofs.slots.empty_slot.Goals as goal

-- a slot was found, or none
found : (o : Option ℕ) → is_some o ≡ true → (slot : ℕ) × (o ≡ Some slot)
found None there = absurd (cc)
found (Some slot) there = (slot, refl)

missed : (o : Option ℕ) → is_some o ≡ false → o ≡ None
missed None there = refl
missed (Some slot) there = absurd (cc)

pub returns-then-is_some-clause-tried : goal.returns-then-is_some-clause-tried
returns-then-is_some-clause-tried c count l by =
    let there = found c.find.result (sym c.is_some.ensures ∙ c.if-is_some.true) in
    name_taken c.args.kind c.args.defs.now.definitions count l by c.args.name.now there.0 (sym c.find.ensures.value ∙ there.1)

pub returns-in-Some-clause-tried : goal.returns-in-Some-clause-tried
returns-in-Some-clause-tried c count l by =
    name_new c.args.kind c.args.defs.now.definitions count l by c.args.name.now c.in-Some.slot (record {
      within = c.in-Some.ensures.within;
      new = sym c.find.ensures.value ∙ missed c.find.result (sym c.is_some.ensures ∙ c.if-is_some.false);
      lowest = sym c.in-Some.ensures.value;
    })

pub returns-in-None-clause-tried : goal.returns-in-None-clause-tried
returns-in-None-clause-tried c count l by =
    name_beyond c.args.kind c.args.defs.now.definitions count l by c.args.name.now (sym c.find.ensures.value ∙ missed c.find.result (sym c.is_some.ensures ∙ c.if-is_some.false)) (sym c.in-None.ensures.value)
