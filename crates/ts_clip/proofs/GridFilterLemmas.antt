-- A part of a list by its places, and what a test of places keeps.
use Rattle.std.proofs.Common.{◌≡◌, ℕ, zero, suc, ◌+◌, ◌-◌, ◌<◌, ◌≤◌, min, Bool, true, false, cond, Some, List, [], ◌∷◌, filter, length, map, take, drop, refl, sym, ap, ◌∙◌, inl, inr, arith}
use Rattle.std.specs.List.{slice_get}
use Rattle.std.specs.Option.{option_to_list}
use Rattle.std.proofs.lemmas.Bool.{cases_lt}
use Rattle.std.proofs.lemmas.Bool.Decides.{nat_tests}
use Rattle.std.proofs.lemmas.List.{drop-map, drop-take, drop_all, length-drop, length-take, take-map, take-take, take_all}
use Rattle.std.proofs.Math.Seq.{drop-nil, take-nil}
use Rattle.ts_regular.specs.Range.{is_between}

-- the part of a list from a place up to, not including, another
abbrev pub part : {A : Type 0} → ℕ → ℕ → List A → List A
part lower upper xs = take (upper - lower) (drop lower xs)

between_none : (i : ℕ) → is_between 0 0 i ≡ false
between_none i = grind (arith, nat_tests)

between_first : (upper : ℕ) → is_between 0 (suc upper) 0 ≡ true
between_first upper = grind (arith, nat_tests)

between_next : (upper i : ℕ) → is_between 0 (suc upper) (suc i) ≡ is_between 0 upper i
between_next upper i = grind (arith, nat_tests)

between_before : (lower upper : ℕ) → is_between (suc lower) upper 0 ≡ false
between_before lower upper = grind (arith, nat_tests)

between_less : (lower upper i : ℕ) → is_between (suc lower) upper (suc i) ≡ is_between lower (upper - 1) i
between_less lower upper i = grind (arith, nat_tests)

module _ {A : Type 0} (keep : A → Bool) where
  kept : (x : A) (xs : List A) → keep x ≡ true → filter keep (x ∷ xs) ≡ x ∷ filter keep xs
  kept x xs is = ap (λ (b : Bool). cond b (x ∷ filter keep xs) (filter keep xs)) is

  left_out : (x : A) (xs : List A) → keep x ≡ false → filter keep (x ∷ xs) ≡ filter keep xs
  left_out x xs is = ap (λ (b : Bool). cond b (x ∷ filter keep xs) (filter keep xs)) is

  -- a test that is true at the places of a part alone
  pub filter_between : (lower upper : ℕ) (xs : List A) → ((i : ℕ) (x : A) → slice_get xs i ≡ Some x → keep x ≡ is_between lower upper i) → filter keep xs ≡ part lower upper xs
  filter_between lower upper [] test = sym (ap (take (upper - lower)) (drop-nil lower) ∙ take-nil (upper - lower))
  filter_between zero zero (x ∷ xs) test =
      left_out x xs (test 0 x refl ∙ between_none 0)
      ∙ filter_between zero zero xs (λ i y is. test (suc i) y is ∙ between_none (suc i) ∙ sym (between_none i))
  filter_between zero (suc upper) (x ∷ xs) test =
      kept x xs (test 0 x refl ∙ between_first upper)
      ∙ ap (λ (l : List A). x ∷ l) (filter_between zero upper xs (λ i y is. test (suc i) y is ∙ between_next upper i))
      ∙ ap (λ (n : ℕ). take n (x ∷ xs)) (let same : suc (upper - 0) ≡ suc upper - 0 = omega arith in same)
  filter_between (suc lower) upper (x ∷ xs) test =
      left_out x xs (test 0 x refl ∙ between_before lower upper)
      ∙ filter_between lower (upper - 1) xs (λ i y is. test (suc i) y is ∙ between_less lower upper i)
      ∙ ap (λ (n : ℕ). take n (drop lower xs)) (let same : upper - 1 - lower ≡ upper - suc lower = omega arith in same)

module _ {A : Type 0} (xs : List A) where
  nothing : (n : ℕ) (ys : List A) → length ys ≤ 0 → take n ys ≡ []
  nothing n [] none = take-nil n
  nothing n (y ∷ ys) none = absurd (omega (arith, none))

  -- a part as far as the list goes
  pub part_within : (lower upper low high : ℕ) → high ≡ min upper (length xs) → low ≡ min lower high → part lower upper xs ≡ part low high xs
  part_within lower upper low high high_is low_is = elim (cases_lt high lower) [
    | inl past ↦
        let same : low ≡ high = omega (arith, low_is, past) in
        let none : take (upper - lower) (drop lower xs) ≡ [] = elim (cases_lt (length xs) upper) [
          | inl over ↦ nothing (upper - lower) (drop lower xs) (omega (arith, length-drop lower xs, high_is, past, over))
          | inr under ↦ ap (λ (n : ℕ). take n (drop lower xs)) (let zeros : upper - lower ≡ 0 = omega (arith, high_is, past, under) in zeros)
        ] in
        none ∙ sym (ap (λ (n : ℕ). take n (drop low xs)) (let zeros : high - low ≡ 0 = omega (arith, same) in zeros))
    | inr inside ↦
        let same : lower ≡ low = omega (arith, low_is, inside) in
        let long = length-drop lower xs in
        let all : take (upper - lower) (drop lower xs) ≡ take (high - lower) (drop lower xs) = elim (cases_lt (length xs) upper) [
          | inl over ↦
              take_all (upper - lower) (drop lower xs) (omega (arith, long, high_is, over))
              ∙ sym (take_all (high - lower) (drop lower xs) (omega (arith, long, high_is, over)))
          | inr under ↦ ap (λ (n : ℕ). take (n - lower) (drop lower xs)) (let one : upper ≡ high = omega (arith, high_is, under) in one)
        ] in
        all ∙ ap (λ (n : ℕ). take (high - n) (drop n xs)) same
  ]

  pub length-part : (lower upper : ℕ) → lower ≤ upper → upper ≤ length xs → length (part lower upper xs) ≡ upper - lower
  length-part lower upper order within = omega (arith, length-take (upper - lower) (drop lower xs), length-drop lower xs, order, within)

  -- the first ones of a part
  pub part_first : (lower low high k : ℕ) → low ≡ min lower (length xs) → high ≡ min (length xs) (low + k) → take k (part lower (length xs) xs) ≡ part low high xs
  part_first lower low high k low_is high_is =
      let all : part lower (length xs) xs ≡ drop low xs = elim (cases_lt (length xs) lower) [
        | inl past ↦
            nothing (length xs - lower) (drop lower xs) (omega (arith, length-drop lower xs, past))
            ∙ sym (drop_all low xs (omega (arith, low_is, past)))
        | inr inside ↦
            take_all (length xs - lower) (drop lower xs) (omega (arith, length-drop lower xs))
            ∙ ap (λ (n : ℕ). drop n xs) (let one : lower ≡ low = omega (arith, low_is, inside) in one)
      ] in
      ap (take k) all ∙ elim (cases_lt (length xs) (low + k)) [
        | inl over ↦ take_all k (drop low xs) (omega (arith, length-drop low xs, over)) ∙ sym (take_all (high - low) (drop low xs) (omega (arith, length-drop low xs, high_is, over)))
        | inr under ↦ ap (λ (n : ℕ). take n (drop low xs)) (let one : k ≡ high - low = omega (arith, high_is, low_is, under) in one)
      ]

  -- and the last ones
  pub part_last : (upper low high k : ℕ) → high ≡ min upper (length xs) → low ≡ high - k → drop (length (part 0 upper xs) - k) (part 0 upper xs) ≡ part low high xs
  part_last upper low high k high_is low_is =
      let all : part 0 upper xs ≡ take high xs = part_within 0 upper 0 high high_is (omega arith) ∙ ap (λ (n : ℕ). take n xs) (let one : high - 0 ≡ high = omega arith in one) in
      let long : length (take high xs) ≡ high = omega (arith, length-take high xs, high_is) in
      ap (λ (l : List A). drop (length l - k) l) all ∙ ap (λ (n : ℕ). drop n (take high xs)) (let one : length (take high xs) - k ≡ low = omega (arith, long, low_is) in one)
      ∙ ap (λ (n : ℕ). drop low (take n xs)) (let sum : high ≡ low + (high - low) = omega (arith, low_is) in sum) ∙ drop-take low (high - low) xs

  -- one of them
  pub part_one : (n : ℕ) → n < length xs → option_to_list (slice_get xs n) ≡ part n (n + 1) xs
  part_one n within = one xs n within ∙ ap (λ (k : ℕ). take k (drop n xs)) (let same : 1 ≡ n + 1 - n = omega arith in same)
    where
      one : (ys : List A) (n : ℕ) → n < length ys → option_to_list (slice_get ys n) ≡ take 1 (drop n ys)
      one [] n within = absurd (omega (arith, within))
      one (y ∷ ys) zero within = refl
      one (y ∷ ys) (suc n) within = one ys n (omega (arith, within))

  -- a part of the first ones
  pub part_taken : (lower upper n : ℕ) → lower ≤ upper → upper ≤ n → part lower upper (take n xs) ≡ part lower upper xs
  part_taken lower upper n order within =
      ap (λ (k : ℕ). take (upper - lower) (drop lower (take k xs))) (let sum : n ≡ lower + (n - lower) = omega (arith, order, within) in sum)
      ∙ ap (take (upper - lower)) (drop-take lower (n - lower) xs) ∙ take-take (upper - lower) (n - lower) (drop lower xs) (omega (arith, within))

pub part_mapped : {A B : Type 0} (f : A → B) (lower upper : ℕ) (xs : List A) → part lower upper (map f xs) ≡ map f (part lower upper xs)
part_mapped f lower upper xs = ap (take (upper - lower)) (drop-map f lower xs) ∙ take-map f (upper - lower) (drop lower xs)
