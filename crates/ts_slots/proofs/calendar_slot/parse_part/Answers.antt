use Rattle.std.proofs.Common.{◌≡◌, ℕ, ◌-◌, ◌++◌, Option, Some, None, List, length, take, drop, get_or, replicate, length-drop, sym, ap, ◌∙◌, arith}
use Rattle.std.proofs.lemmas.List.{take_all}
use Rattle.ts_pattern.specs.Patterns.{Plan}
use Rattle.ts_layout.specs.Slot.{padded, part_bytes, plan_bytes}
use Rattle.ts_layout.proofs.CallerLemmas.{part_named, part_slot, part_own, part_plan}
use Rattle.ts_slots.specs.declared.calendar_slot.Part.{Part}
use Rattle.ts_slots.specs.declared.calendar_slot.Part.TheVariants.{By, Own}
use Rattle.ts_slots.specs.Written.{part_on_page}
use Rattle.ts_slots.proofs.ParseLemmas.{one, none_some}
use Rattle.ts_slots.proofs.calendar_slot.parse_part.Goals as goal

-- where the first byte is 0, a slot is said
named : (p : Plan) (by : Option ℕ) (bytes : List ℕ) → bytes ≡ padded 4046 (part_bytes p by) → get_or bytes 0 0 ≡ 0 → ◌≡◌ {A = Option Part} (Some (By (get_or bytes 1 0))) (Some (part_on_page p by))
named p (Some slot) bytes is zero = let same = ap (λ (l : List ℕ). get_or l 1 0) is ∙ part_slot p slot in λ i. Some (By (same i))
named p None bytes is zero = absurd (omega (arith, zero, ap (λ (l : List ℕ). get_or l 0 0) is, part_own p))

-- else a pattern
owned : (p : Plan) (by : Option ℕ) (bytes : List ℕ) (found : Option Plan) → length bytes ≡ 4046 → bytes ≡ padded 4046 (part_bytes p by) → (get_or bytes 0 0 ≡ 0 → ⊥)
    → ((rest : List ℕ) → take (length bytes - 2) (drop 2 bytes) ≡ plan_bytes p ++ rest → found ≡ Some p) → (found ≡ Some p) × (part_on_page p by ≡ Own p)
owned p (Some slot) bytes found long is some parsed = absurd (some (ap (λ (l : List ℕ). get_or l 0 0) is ∙ part_named p slot))
owned p None bytes found long is some parsed =
    let whole = take_all (length bytes - 2) (drop 2 bytes) (omega (arith, length-drop 2 bytes)) in
    (parsed (replicate (4044 - length (plan_bytes p)) 0) (whole ∙ ap (drop 2) is ∙ part_plan p), λ i. Own p)

pub returns-then-bytes-eq0 : goal.returns-then-bytes-eq0
returns-then-bytes-eq0 c = λ p by pattern is. named p by c.args.bytes.now is c.if-bytes-eq0.true

pub returns-in_default : goal.returns-in_default
returns-in_default c = λ p by pattern is.
    let both = owned p by c.args.bytes.now c.in_ok-pattern.field-0 c.requires is c.if-bytes-eq0.false (λ rest begins. c.in_ok-pattern.ensures p rest pattern begins) in
    none_some c.in_ok-pattern.field-0 p c.in_default.is both.0

pub returns : goal.returns
returns c = λ p by pattern is.
    let both = owned p by c.args.bytes.now c.in_ok-pattern.field-0 c.requires is c.if-bytes-eq0.false (λ rest begins. c.in_ok-pattern.ensures p rest pattern begins) in
    let same = one c.in_ok-pattern.field-0 c.in-Some.pattern p c.in-Some.is both.0 in
    (λ i. Some (Own (same i))) ∙ ap Some (sym both.1)
