-- A conflict is with the first commit behind the Begin that wrote what the transaction writes or names.
use Rattle.std.proofs.Common.{◌≡◌, ℕ, ◌+◌, ◌-◌, ◌<◌, ◌≤◌, Bool, false, List, [], length, drop, get_or, Option, Some, None, refl, sym, ◌∙◌, ap, arith, inl, inr}
use Rattle.std.specs.Prelude.{option_map, position, nat_lt}
use Rattle.std.specs.List.{position_or_len}
use Rattle.std.proofs.lemmas.Bool.{cases_Bool}
use Rattle.std.proofs.lemmas.Bool.Decides.{nat_tests}
use Rattle.std.proofs.lemmas.List.{get_or-drop, length-drop}
use Rattle.std.proofs.lemmas.List.Sums.{fails_before_first}
use Rattle.std.proofs.lemmas.List.Quantifiers.{position-Some}
use Rattle.ts_multi.specs.declared.object.Object.{Object}
use Rattle.ts_multi.specs.declared.object.Touched.{Touched}
use Rattle.ts_multi.specs.Objects.{meets}
use Rattle.ts_multi.specs.Log.{conflict_after, commit_at, IsFirstConflict}

record Placed (begun : ℕ) (o : Option ℕ) (number : ℕ) : Type 0 where
  place : ℕ
  is : o ≡ Some place
  number_is : number ≡ begun + 1 + place

placed : (begun : ℕ) (o : Option ℕ) (number : ℕ) → option_map (λ place. begun + 1 + place) o ≡ Some number → Placed begun o number
placed begun None number e = absurd (cc)
placed begun (Some place) number e = let same : begun + 1 + place ≡ number = cc in record { place = place; is = refl; number_is = sym same }

-- commits are counted from 1
commit_behind : (begun place number : ℕ) (commits : List (List Object)) → number ≡ begun + 1 + place → commit_at number commits ≡ get_or (drop begun commits) place []
commit_behind begun place number commits e =
    let here : number - 1 ≡ begun + place = omega arith in
    ap (λ (k : ℕ). get_or commits k []) here ∙ sym (get_or-drop begun commits place [])

pub first_conflict : (begun : ℕ) (noted : List Touched) (commits : List (List Object)) (number : ℕ) → conflict_after begun noted commits ≡ Some number → IsFirstConflict begun noted commits number
first_conflict begun noted commits number e =
    let test : List Object → Bool = λ wrote. meets wrote noted in
    let at = placed begun (position test (drop begun commits)) number e in
    let facts = position-Some test (drop begun commits) at.place [] at.is in
    record {
      later = omega (arith, at.number_is);
      within = omega (arith, at.number_is, facts.0, length-drop begun commits);
      met = ap test (commit_behind begun at.place number commits at.number_is) ∙ facts.1;
      first = λ earlier after before.
          let back : earlier ≡ begun + 1 + (earlier - (begun + 1)) = omega arith in
          ap test (commit_behind begun (earlier - (begun + 1)) earlier commits back) ∙ facts.2 (earlier - (begun + 1)) (omega (arith, at.number_is));
    }

no_place : (test : List Object → Bool) (xs : List (List Object)) → option_map (λ (place : ℕ). place) (position test xs) ≡ None → length xs ≤ position_or_len test xs
no_place test xs e = elim (cases_Bool (nat_lt (position_or_len test xs) (length xs))) [
  | inl t ↦ let found = rw t at e in absurd (cc)
  | inr f ↦ grind (arith, nat_tests)
]

none_of : (begun : ℕ) (o : Option ℕ) → option_map (λ place. begun + 1 + place) o ≡ None → option_map (λ (place : ℕ). place) o ≡ None
none_of begun None e = refl
none_of begun (Some place) e = absurd (cc)

pub no_conflict : (begun : ℕ) (noted : List Touched) (commits : List (List Object)) → conflict_after begun noted commits ≡ None → (number : ℕ) → begun < number → number ≤ length commits → meets (commit_at number commits) noted ≡ false
no_conflict begun noted commits e number after within =
    let test : List Object → Bool = λ wrote. meets wrote noted in
    let past = no_place test (drop begun commits) (none_of begun (position test (drop begun commits)) e) in
    let back : number ≡ begun + 1 + (number - (begun + 1)) = omega arith in
    ap test (commit_behind begun (number - (begun + 1)) number commits back)
    ∙ fails_before_first test (drop begun commits) (number - (begun + 1)) [] (omega (arith, past, length-drop begun commits))
