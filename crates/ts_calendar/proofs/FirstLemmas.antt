-- The first number that passes.
use Rattle.std.proofs.Common.{◌≡◌, ℕ, zero, suc, ◌<◌, true, false, refl, sym, ap, ◌∙◌, arith, ℤ, pos, ◌+ℤ◌, ◌≤ℤ◌, ◌<ℤ◌, Some, None, Bool, inl, inr}
use Rattle.std.proofs.lemmas.Bool.{cases_Bool}
use Rattle.std.proofs.lemmas.Int.{by_lt_z, ints}
use Rattle.ts_calendar.specs.Calendars.{first_from}

-- it is the one that passes after numbers that don't
pub first_from-found : (test : ℤ → Bool) (k : ℤ) (more d : ℕ) → d < more → test (k +ℤ pos d) ≡ true → ((i : ℕ) → i < d → test (k +ℤ pos i) ≡ false)
    → first_from test k more ≡ Some (k +ℤ pos d)
unfolding first_from
first_from-found test k zero d h found before = absurd (omega arith)
first_from-found test k (suc more) zero h found before =
    let same : k +ℤ pos 0 ≡ k = omega (arith, ints) in
    let here : test k ≡ true = sym (ap test same) ∙ found in
    rw here (ap Some (sym same))
first_from-found test k (suc more) (suc d) h found before =
    let start : k +ℤ pos 0 ≡ k = omega (arith, ints) in
    let next : k +ℤ pos 1 +ℤ pos d ≡ k +ℤ pos (suc d) = omega (arith, ints) in
    let here : test k ≡ false = sym (ap test start) ∙ before 0 (omega arith) in
    rw here (first_from-found test (k +ℤ pos 1) more d (omega arith) (ap test next ∙ found)
    (λ i lt. let later : k +ℤ pos 1 +ℤ pos i ≡ k +ℤ pos (suc i) = omega (arith, ints) in ap test later ∙ before (suc i) (omega arith))
    ∙ ap Some next)

-- none passes
pub first_from-none : (test : ℤ → Bool) (k : ℤ) (more : ℕ) → ((i : ℕ) → i < more → test (k +ℤ pos i) ≡ false) → first_from test k more ≡ None
unfolding first_from
first_from-none test k zero h = refl
first_from-none test k (suc more) h =
    let start : k +ℤ pos 0 ≡ k = omega (arith, ints) in
    let here : test k ≡ false = sym (ap test start) ∙ h 0 (omega arith) in
    rw here (first_from-none test (k +ℤ pos 1) more
    (λ i lt. let later : k +ℤ pos 1 +ℤ pos i ≡ k +ℤ pos (suc i) = omega (arith, ints) in ap test later ∙ h (suc i) (omega arith)))

-- the first number that passes: it passes, and none before it does
pub first_from-is : (test : ℤ → Bool) (k r : ℤ) (more : ℕ) → first_from test k more ≡ Some r
    → (test r ≡ true) × ((j : ℤ) → k ≤ℤ j → j <ℤ r → test j ≡ false)
unfolding first_from
first_from-is test k r zero h = absurd (cc)
first_from-is test k r (suc more) h = elim (cases_Bool (test k)) [
  | inl here ↦
      let found = rw here at h in
      let same : k ≡ r = cc in
      (rw (← same) here, λ j low high. absurd (omega (arith, ints, same)))
  | inr not_here ↦
      let later = first_from-is test (k +ℤ pos 1) r more (rw not_here at h) in (
        later.0,
        λ j low high. by_lt_z k j
            (λ lt. later.1 j (omega (arith, ints)) high)
            (λ le. let same : j ≡ k = omega (arith, ints) in ap test same ∙ not_here),
      )
]

-- where none is found, none passes
pub first_from-no : (test : ℤ → Bool) (k : ℤ) (more : ℕ) → first_from test k more ≡ None → (j : ℤ) → k ≤ℤ j → j <ℤ (k +ℤ pos more) → test j ≡ false
unfolding first_from
first_from-no test k zero h j low high = absurd (omega (arith, ints))
first_from-no test k (suc more) h j low high = elim (cases_Bool (test k)) [
  | inl here ↦ absurd (let found = rw here at h in cc)
  | inr not_here ↦
      let rest = rw not_here at h in
      by_lt_z k j
      (λ lt. first_from-no test (k +ℤ pos 1) more rest j (omega (arith, ints)) (omega (arith, ints)))
      (λ le. let same : j ≡ k = omega (arith, ints) in ap test same ∙ not_here)
]
