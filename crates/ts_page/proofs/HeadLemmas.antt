-- A head that was written is read again, and what is read is a head that is written so.
use Rattle.std.proofs.Common.{◌≡◌, ◌⊎◌, inl, inr, ℕ, ◌+◌, ◌<◌, ◌≤◌, Bool, true, false, cond, ◌&&◌, Option, Some, None, List, [], ◌∷◌, ◌++◌, length, take, drop, get_or, replicate, refl, ap, sym, ◌∙◌, subst, arith}
use Rattle.std.specs.Prelude.{◌==◌}
use Rattle.std.specs.Int.{from_be_bytes, to_be_bytes, w16, w64}
use Rattle.std.proofs.lemmas.Nat.{from_be_bytes-to_be_bytes_2, from_be_bytes-to_be_bytes_8, be_bytes_2, be_bytes_8}
use Rattle.std.proofs.lemmas.Bool.{cond-true, and_parts, eqb-true, eq-eqb, cases_lt}
use Rattle.std.proofs.lemmas.Option.{none-some, same_Some}
use Rattle.std.proofs.lemmas.List.{get_or-take, get_or-drop, get_or_past, length-take-le, take-append-drop}
use Rattle.std.proofs.Math.Seq.{take-add}
use Rattle.std.proofs.lemmas.List.{length-drop}
use Rattle.ts_page.specs.declared.page.Head.{Head}
use Rattle.ts_page.specs.declared.page.Head.TheVariants.{Free, Regular, Irregular}
use Rattle.ts_page.specs.Pages.{head_of, head_bytes, bytes_at, are_zero, FitsHead, HasHead}

-- what is written over the first bytes of a page is read as its head
pub head_of-written : (head : Head) (rest : List ℕ) → FitsHead head → head_of (head_bytes head ++ rest) ≡ Some head
head_of-written Free rest fits = refl
head_of-written (Regular series count base) rest fits =
    λ i. Some (Regular (from_be_bytes-to_be_bytes_2 series fits.0 i) (from_be_bytes-to_be_bytes_2 count fits.1 i) (from_be_bytes-to_be_bytes_8 base fits.2 i))
head_of-written (Irregular series count) rest fits =
    λ i. Some (Irregular (from_be_bytes-to_be_bytes_2 series fits.0 i) (from_be_bytes-to_be_bytes_2 count fits.1 i))

-- a page that begins as a head is written is read as that head
pub head_written : (page : List ℕ) (head : Head) → FitsHead head → HasHead page head → head_of page ≡ Some head
head_written page Free fits has = cond-true _ _ _ (eq-eqb (get_or page 0 0) 0 has)
head_written page (Regular series count base) fits has =
    subst (λ (l : List ℕ). head_of l ≡ Some (Regular series count base)) (ap (λ (l : List ℕ). l ++ drop 32 page) (sym has) ∙ take-append-drop 32 page)
    (head_of-written (Regular series count base) (drop 32 page) fits)
head_written page (Irregular series count) fits has =
    subst (λ (l : List ℕ). head_of l ≡ Some (Irregular series count)) (ap (λ (l : List ℕ). l ++ drop 32 page) (sym has) ∙ take-append-drop 32 page)
    (head_of-written (Irregular series count) (drop 32 page) fits)

either : {A : Type 0} (b : Bool) (x : A) (rest : Option A) (y : A) → cond b (Some x) rest ≡ Some y → ((b ≡ true) × (x ≡ y)) ⊎ (rest ≡ Some y)
either true x rest y is = inl (refl, same_Some x y is)
either false x rest y is = inr is

zeros : (bytes : List ℕ) → are_zero bytes ≡ true → bytes ≡ replicate (length bytes) 0
zeros [] all = refl
zeros (x ∷ xs) all = let parts = and_parts (x == 0) (are_zero xs) all in (λ i. eqb-true x 0 parts.0 i ∷ zeros xs parts.1 i)

front_one : (page : List ℕ) → 0 < length page → take 3 page ≡ get_or page 0 0 ∷ bytes_at 1 2 page
front_one [] some = absurd (omega (arith, some))
front_one (x ∷ xs) some = refl

module _ (page : List ℕ) (long : length page ≡ 4096) (small : (i : ℕ) → get_or page i 0 < 256) where
  part_length : (at n : ℕ) → at + n ≤ 32 → length (bytes_at at n page) ≡ n
  part_length at n within = length-take-le n (drop at page) (omega (arith, length-drop at page, long, within))

  part_small : (at n k : ℕ) → at + n ≤ 32 → get_or (bytes_at at n page) k 0 < 256
  part_small at n k within = elim (cases_lt k n) [
    | inl below ↦ subst (λ (b : ℕ). b < 256) (sym (get_or-take n (drop at page) k 0 below ∙ get_or-drop at page k 0)) (small (at + k))
    | inr past ↦ subst (λ (b : ℕ). b < 256) (sym (get_or_past (bytes_at at n page) k 0 (omega (arith, past, part_length at n within)))) (omega arith)
  ]

  -- the first bytes of a page, by the fields of a head
  five : (kind : ℕ) → get_or page 0 0 ≡ kind → take 5 page ≡ (kind ∷ bytes_at 1 2 page) ++ bytes_at 3 2 page
  five kind is = take-add 3 2 page ∙ (λ i. (front_one page (omega (arith, long)) ∙ ap (λ (k : ℕ). k ∷ bytes_at 1 2 page) is) i ++ bytes_at 3 2 page)

  two_again : (at : ℕ) → at + 2 ≤ 32 → bytes_at at 2 page ≡ to_be_bytes w16 (from_be_bytes w16 (bytes_at at 2 page))
  two_again at within = sym (be_bytes_2 (bytes_at at 2 page) (from_be_bytes w16 (bytes_at at 2 page)) (part_length at 2 within) (λ k. part_small at 2 k within) refl)

  eight_again : (at : ℕ) → at + 8 ≤ 32 → bytes_at at 8 page ≡ to_be_bytes w64 (from_be_bytes w64 (bytes_at at 8 page))
  eight_again at within = sym (be_bytes_8 (bytes_at at 8 page) (from_be_bytes w64 (bytes_at at 8 page)) (part_length at 8 within) (λ k. part_small at 8 k within) refl)

  zeros_at : (at n : ℕ) → at + n ≤ 32 → are_zero (bytes_at at n page) ≡ true → bytes_at at n page ≡ replicate n 0
  zeros_at at n within all = zeros (bytes_at at n page) all ∙ ap (λ (k : ℕ). replicate k 0) (part_length at n within)

  fields : (kind : ℕ) → get_or page 0 0 ≡ kind → take 5 page ≡ (kind ∷ to_be_bytes w16 (from_be_bytes w16 (bytes_at 1 2 page))) ++ to_be_bytes w16 (from_be_bytes w16 (bytes_at 3 2 page))
  fields kind is = five kind is ∙ (λ i. (kind ∷ two_again 1 (omega arith) i) ++ two_again 3 (omega arith) i)

  abbrev regular : Head
  regular = Regular (from_be_bytes w16 (bytes_at 1 2 page)) (from_be_bytes w16 (bytes_at 3 2 page)) (from_be_bytes w64 (bytes_at 5 8 page))

  abbrev irregular : Head
  irregular = Irregular (from_be_bytes w16 (bytes_at 1 2 page)) (from_be_bytes w16 (bytes_at 3 2 page))

  regular_bytes : get_or page 0 0 ≡ 1 → are_zero (bytes_at 13 19 page) ≡ true → take 32 page ≡ head_bytes regular
  regular_bytes kind all = take-add 13 19 page ∙ (λ i. (take-add 5 8 page ∙ (λ j. fields 1 kind j ++ eight_again 5 (omega arith) j)) i ++ zeros_at 13 19 (omega arith) all i)

  irregular_bytes : get_or page 0 0 ≡ 2 → are_zero (bytes_at 5 27 page) ≡ true → take 32 page ≡ head_bytes irregular
  irregular_bytes kind all = take-add 5 27 page ∙ (λ i. fields 2 kind i ++ zeros_at 5 27 (omega arith) all i)

  abbrev kind : ℕ
  kind = get_or page 0 0

  read_so : (head : Head) → head_of page ≡ Some head → HasHead page head
  read_so head is =
      let or_irregular = cond ((kind == 2) && are_zero (bytes_at 5 27 page)) (Some irregular) None in
      let or_regular = cond ((kind == 1) && are_zero (bytes_at 13 19 page)) (Some regular) or_irregular in
      elim (either (kind == 0) Free or_regular head is) [
        | inl free ↦ subst (HasHead page) free.1 (eqb-true kind 0 free.0)
        | inr more ↦ elim (either ((kind == 1) && are_zero (bytes_at 13 19 page)) regular or_irregular head more) [
          | inl one ↦
              let tests = and_parts (kind == 1) (are_zero (bytes_at 13 19 page)) one.0 in
              subst (HasHead page) one.1 (regular_bytes (eqb-true kind 1 tests.0) tests.1)
          | inr last ↦ elim (either ((kind == 2) && are_zero (bytes_at 5 27 page)) irregular None head last) [
            | inl two ↦
                let tests = and_parts (kind == 2) (are_zero (bytes_at 5 27 page)) two.0 in
                subst (HasHead page) two.1 (irregular_bytes (eqb-true kind 2 tests.0) tests.1)
            | inr none ↦ absurd (none-some head none)
          ]
        ]
      ]

-- what a head is read as is one that is written so
pub head_read : (page : List ℕ) (head : Head) → length page ≡ 4096 → ((i : ℕ) → get_or page i 0 < 256) → head_of page ≡ Some head → HasHead page head
head_read page head long small is = read_so page long small head is
