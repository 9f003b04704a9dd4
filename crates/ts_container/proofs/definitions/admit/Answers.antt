use Rattle.std.proofs.Common.{◌≡◌, ℕ, List, Option, Some, None, Ok, Err, IsSome, refl, sym, ap, subst, ◌∙◌, inl, inr}
use Rattle.ts_model.specs.Definitions.{Definitions, name_of, slots, slot_of, with_slot}
use Rattle.ts_slots.specs.Written.{name_written}
use Rattle.ts_slots.proofs.WrittenLemmas.{name_same}
use Rattle.ts_slots.proofs.ParseLemmas.{both_ways}
use Rattle.ts_container.specs.declared.found.Broken.{Broken}
use Rattle.ts_container.specs.Reading.{AreFilledAmong, IsTakenAmong, Completes, references_written}
use Rattle.ts_container.proofs.definitions.admit.Goals.{then-is_taken-via-then-is_taken, then-is_taken-via-else-is_taken+then-not-is_resolved}
use Rattle.ts_container.proofs.definitions.admit.Goals as goal

none_left : (o : Option ℕ) → (IsSome o → ⊥) → o ≡ None
none_left None never = refl
none_left (Some n) never = absurd (never refl)

pub returns-then-is_taken : goal.returns-then-is_taken
returns-then-is_taken c =
    let d = c.args.defs.now.definitions in
    elim c.then-is_taken.branch [
      | then-is_taken-via-then-is_taken w ↦ inl (subst (λ (p : List Broken × List ℕ). IsTakenAmong d p.0 c.args.kind p.1) (λ i. (c.deref.ensures.value i, c.name.ensures i)) (c.is_taken.ensures.0 w.if-is_taken.true))
      | then-is_taken-via-else-is_taken+then-not-is_resolved w ↦ inr (λ filled. both_ways (w.is_resolved.ensures.1 (subst (λ (b : List Broken). AreFilledAmong d b (references_written c.args.written)) (sym w.deref-else-is_taken.ensures.value) filled)) w.if-not-is_resolved.true)
    ]

pub set-requires-clause-name : goal.set-requires-clause-name
set-requires-clause-name c =
    let d = c.args.defs.now.definitions in
    let done = subst (Completes d c.args.written) c.in-Ok.is c.in_ok-def.ensures in
    let name = sym (name_same c.in-Ok.def) ∙ ap name_written done.1 ∙ sym c.name.ensures in
    inl (ap (λ (d : Definitions). slot_of (name_of c.in-Ok.def) (slots c.args.kind d)) c.in_ok-reserve-in-Ok.ensures.others
    ∙ ap (λ (n : List ℕ). slot_of n (slots c.args.kind d)) name
    ∙ none_left (slot_of c.name.result.now (slots c.args.kind d)) (λ some. both_ways (c.is_taken.ensures.1 (inl some)) c.if-is_taken.false))

pub returns-in_ok-reserve-in-Ok : goal.returns-in_ok-reserve-in-Ok
returns-in_ok-reserve-in-Ok c =
    let d = c.args.defs.now.definitions in
    let done = subst (Completes d c.args.written) c.in-Ok.is c.in_ok-def.ensures in (
      (
        λ taken. both_ways (c.is_taken.ensures.1 (subst (λ (p : List Broken × List ℕ). IsTakenAmong d p.0 c.args.kind p.1) (λ i. (sym c.deref.ensures.value i, sym c.name.ensures i)) taken)) c.if-is_taken.false,
        subst (λ (b : List Broken). AreFilledAmong d b (references_written c.args.written)) c.deref-else-is_taken.ensures.value (c.is_resolved.ensures.0 c.if-not-is_resolved.false),
      ),
      (Ok c.in-Ok.def, done, (c.set.ensures.slot ∙ ap (λ (d : Definitions). with_slot c.args.kind c.args.slot (Some c.in-Ok.def) d) c.in_ok-reserve-in-Ok.ensures.others, refl)),
    )

pub returns-in_ok-push-in-Err : goal.returns-in_ok-push-in-Err
returns-in_ok-push-in-Err c =
    let d = c.args.defs.now.definitions in
    let done = subst (Completes d c.args.written) c.in-Err.is c.in_ok-def.ensures in (
      (
        λ taken. both_ways (c.is_taken.ensures.1 (subst (λ (p : List Broken × List ℕ). IsTakenAmong d p.0 c.args.kind p.1) (λ i. (sym c.deref.ensures.value i, sym c.name.ensures i)) taken)) c.if-is_taken.false,
        subst (λ (b : List Broken). AreFilledAmong d b (references_written c.args.written)) c.deref-else-is_taken.ensures.value (c.is_resolved.ensures.0 c.if-not-is_resolved.false),
      ),
      (Err c.in-Err.name, done, (refl, c.in_ok-push-in-Err.ensures.items)),
    )
