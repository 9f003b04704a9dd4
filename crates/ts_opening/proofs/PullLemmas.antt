-- Pieces pulled, one behind another.
use Rattle.std.proofs.Common.{◌≡◌, ℕ, ◌+◌, ◌-◌, ◌^◌, ◌<◌, ◌≤◌, ◌==◌, ◌||◌, Bool, true, false, min, List, [], ◌++◌, take, refl, sym, ◌∙◌, ap, arith, append_assoc}
use Rattle.std.proofs.lemmas.Bool.{ne_eqb}
use Rattle.ts_disk.specs.Device.{Input}
use Rattle.ts_opening.specs.Opening.{HasEnded}

or_true : (b : Bool) → (b || true) ≡ true
or_true true = refl
or_true false = refl

-- a pull that answers 0 is the end
pub end_told : (second third : Input) (n : ℕ) → n ≡ 0 → third.ended ≡ (second.ended || (n == 0)) → HasEnded third
end_told second third n zero ended = ended ∙ ap (λ (k : ℕ). second.ended || (k == 0)) zero ∙ or_true second.ended

-- one pull more
pub pulls_on : (a b : ℕ) → b ≡ min (a + 1) (2 ^ 64 - 1) → b ≤ a + 1
pulls_on a b is = omega (arith, is)

-- one piece more
pub taken_on : (first second third taken piece : List ℕ) → first ≡ taken ++ second → second ≡ piece ++ third → first ≡ (taken ++ piece) ++ third
taken_on first second third taken piece one two = one ∙ ap (λ (l : List ℕ). taken ++ l) two ∙ sym (append_assoc taken piece third)

-- an end leaves nothing
pub nothing_left : (second third buffer : List ℕ) (n : ℕ) → n ≡ 0 → second ≡ [] → second ≡ take n buffer ++ third → third ≡ []
nothing_left second third buffer n zero none moved = sym (ap (λ (k : ℕ). take k buffer ++ third) zero) ∙ sym moved ∙ none

-- and nothing was moved
pub taken_all : (first second third taken : List ℕ) → first ≡ taken ++ second → second ≡ [] → third ≡ [] → first ≡ taken ++ third
taken_all first second third taken one none end = one ∙ ap (λ (l : List ℕ). taken ++ l) (none ∙ sym end)

-- where a source hadn't ended at first, it hasn't since, and no pull followed an end
pub record IsOnce (first second : Input) : Type 0 where
  pub live : first.ended ≡ false → second.ended ≡ false
  pub once : first.ended ≡ false → second.past_end ≡ first.past_end

or_false : (b : Bool) → (b || false) ≡ b
or_false true = refl
or_false false = refl

pub once_now : (i : Input) → IsOnce i i
once_now i = record { live = λ is. is; once = λ is. refl }

-- the next pull follows none
pub once_pulled : (first second third : Input) → IsOnce first second → third.past_end ≡ (second.past_end || second.ended) → first.ended ≡ false → third.past_end ≡ first.past_end
once_pulled first second third so_far past is =
    past ∙ ap (λ (b : Bool). second.past_end || b) (so_far.live is) ∙ or_false second.past_end ∙ so_far.once is

-- nor does one behind a pull that gave bytes
pub once_more : (first second third : Input) (n : ℕ) → IsOnce first second → third.ended ≡ (second.ended || (n == 0)) → third.past_end ≡ (second.past_end || second.ended) → 0 < n → IsOnce first third
once_more first second third n so_far ended past some = record {
  live = λ is. ended ∙ ap (λ (b : Bool). b || (n == 0)) (so_far.live is) ∙ ne_eqb n 0 (λ zero. omega (arith, zero, some));
  once = once_pulled first second third so_far past;
}
