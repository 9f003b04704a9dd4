-- Numbers and the images that there are of their pages, as the entries that these are together.
use Rattle.std.proofs.Common.{◌≡◌, inl, inr, ℕ, zero, suc, add-zero, ◌+◌, ◌^◌, ◌<◌, ◌≤◌, eqb, Option, Some, None, List, [], ◌∷◌, length, drop, get_or, refl, ap, sym, ◌∙◌, subst, arith}
use Rattle.std.specs.Option.{unwrap_or}
use Rattle.std.proofs.lemmas.List.{length-map, get_or-map, get_or-drop, drop-map, drop-drop}
use Rattle.std.proofs.lemmas.Bool.{cond-true, cond-false, cases_eq, cases_lt, eq-eqb, ne_eqb, lt-ltb, le-ltb}
use Rattle.ts_journal.specs.declared.batch.Change.{Change}
use Rattle.ts_journal.specs.Journal.{Entry, IsRising, IsWhole, AreWhole, IsBatch, change_of, put}
use Rattle.ts_journal.specs.Stored.{with_images, Sets}

pub joined_rising : (images es : List Entry) (least top : ℕ) → IsRising least top es → IsRising least top (with_images images es)
joined_rising images [] least top rising = rising
joined_rising images (e ∷ es) least top rising = (rising.0, joined_rising images es (e.0 + 1) top rising.1)

whole_image : (images : List Entry) (number : ℕ) (change : Change) → AreWhole images → IsWhole change → IsWhole (unwrap_or (change_of number images) change)
whole_image [] number change whole own = own
whole_image (e ∷ es) number change whole own = elim (cases_eq e.0 number) [
  | inl here ↦ subst (λ (o : Option Change). IsWhole (unwrap_or o change)) (sym (cond-true _ _ _ (eq-eqb e.0 number here))) whole.0
  | inr there ↦ subst (λ (o : Option Change). IsWhole (unwrap_or o change)) (sym (cond-false _ _ _ (ne_eqb e.0 number there))) (whole_image es number change whole.1 own)
]

joined_whole : (images es : List Entry) → AreWhole images → AreWhole es → AreWhole (with_images images es)
joined_whole images [] whole own = tt
joined_whole images (e ∷ es) whole own = (whole_image images e.0 e.1 whole own.0, joined_whole images es whole own.1)

pub joined_batch : (images es : List Entry) → IsBatch images → IsBatch es → IsBatch (with_images images es)
joined_batch images es batch own = record {
  rising = joined_rising images es _ _ own.rising;
  whole = joined_whole images es batch.whole own.whole;
}

-- where the images of the numbers are the same, the entries are
same_above : (images others es : List Entry) (least top : ℕ) → IsRising least top es → ((k : ℕ) → least ≤ k → change_of k others ≡ change_of k images) → with_images others es ≡ with_images images es
same_above images others [] least top rising same = refl
same_above images others (e ∷ es) least top rising same =
    (λ i. (e.0, unwrap_or (same e.0 rising.0 i) e.1) ∷ same_above images others es (e.0 + 1) top rising.1 (λ k above. same k (omega (arith, rising.0, above))) i)

-- the image of a number that isn't there counts for nothing
pub joined_without : (images others es : List Entry) (number : ℕ) (image : Option Change) → Sets number image images others → change_of number es ≡ None → with_images others es ≡ with_images images es
joined_without images others [] number image sets none = refl
joined_without images others (e ∷ es) number image sets none = elim (cases_eq e.0 number) [
  | inl here ↦ absurd (cc (sym (cond-true (eqb e.0 number) (Some e.1) (change_of number es) (eq-eqb e.0 number here)) ∙ none))
  | inr there ↦
      let rest = joined_without images others es number image sets (sym (cond-false (eqb e.0 number) (Some e.1) (change_of number es) (ne_eqb e.0 number there)) ∙ none) in
      (λ i. (e.0, unwrap_or (sets.others e.0 there i) e.1) ∷ rest i)
]

-- an image is set, and then its number is put
pub joined_put : (images others es : List Entry) (number least top : ℕ) (own : Change) (image : Option Change) → Sets number image images others → IsRising least top es
    → with_images others (put number own es) ≡ put number (unwrap_or image own) (with_images images es)
joined_put images others [] number least top own image sets rising = ap (λ (o : Option Change). (number, unwrap_or o own) ∷ []) sets.at
joined_put images others (e ∷ es) number least top own image sets rising = elim (cases_lt number e.0) [
  | inl lower ↦
      let above : with_images others (e ∷ es) ≡ with_images images (e ∷ es) = same_above images others (e ∷ es) e.0 top (omega arith, rising.1) (λ k at_least. sets.others k (λ same. absurd (omega (arith, same, at_least, lower)))) in
      ap (with_images others) (cond-true _ _ _ (lt-ltb number e.0 lower)) ∙ (λ i. (number, unwrap_or (sets.at i) own) ∷ above i) ∙ sym (cond-true _ _ _ (lt-ltb number e.0 lower))
  | inr high ↦ elim (cases_eq number e.0) [
    | inl same ↦
        let above : with_images others es ≡ with_images images es = same_above images others es (e.0 + 1) top rising.1 (λ k more. sets.others k (λ at_. absurd (omega (arith, at_, more, same)))) in
        ap (with_images others) (cond-false _ _ _ (le-ltb number e.0 high) ∙ cond-true _ _ _ (eq-eqb number e.0 same)) ∙ (λ i. (number, unwrap_or (sets.at i) own) ∷ above i)
        ∙ sym (cond-false _ _ _ (le-ltb number e.0 high) ∙ cond-true _ _ _ (eq-eqb number e.0 same))
    | inr other ↦
        let rest = joined_put images others es number (e.0 + 1) top own image sets rising.1 in
        ap (with_images others) (cond-false _ _ _ (le-ltb number e.0 high) ∙ cond-false _ _ _ (ne_eqb number e.0 other)) ∙ (λ i. (e.0, unwrap_or (sets.others e.0 (λ same. other (sym same)) i) e.1) ∷ rest i)
        ∙ sym (cond-false _ _ _ (le-ltb number e.0 high) ∙ cond-false _ _ _ (ne_eqb number e.0 other))
  ]
]

-- what is found of a number that is there, and of another
pub joined_there : (images es : List Entry) (number : ℕ) (change : Change) → change_of number es ≡ Some change → change_of number (with_images images es) ≡ Some (unwrap_or (change_of number images) change)
joined_there images [] number change there = absurd (cc)
joined_there images (e ∷ es) number change there = elim (cases_eq e.0 number) [
  | inl here ↦
      let own : e.1 ≡ change = cc (sym (cond-true (eqb e.0 number) (Some e.1) (change_of number es) (eq-eqb e.0 number here)) ∙ there) in
      cond-true _ _ _ (eq-eqb e.0 number here) ∙ (λ i. Some (unwrap_or (change_of (here i) images) (own i)))
  | inr other ↦
      cond-false _ _ _ (ne_eqb e.0 number other) ∙ joined_there images es number change (sym (cond-false (eqb e.0 number) (Some e.1) (change_of number es) (ne_eqb e.0 number other)) ∙ there)
]

pub joined_none : (images es : List Entry) (number : ℕ) → change_of number es ≡ None → change_of number (with_images images es) ≡ None
joined_none images [] number none = refl
joined_none images (e ∷ es) number none = elim (cases_eq e.0 number) [
  | inl here ↦ absurd (cc (sym (cond-true (eqb e.0 number) (Some e.1) (change_of number es) (eq-eqb e.0 number here)) ∙ none))
  | inr other ↦
      cond-false _ _ _ (ne_eqb e.0 number other) ∙ joined_none images es number (sym (cond-false (eqb e.0 number) (Some e.1) (change_of number es) (ne_eqb e.0 number other)) ∙ none)
]

pub joined_length : (images es : List Entry) → length (with_images images es) ≡ length es
joined_length images es = length-map es (λ (x : Entry). (x.0, unwrap_or (change_of x.0 images) x.1))

pub joined_at : (images es : List Entry) (i : ℕ) (d e : Entry) → i < length es → get_or (with_images images es) i e ≡ ((get_or es i d).0, unwrap_or (change_of (get_or es i d).0 images) (get_or es i d).1)
joined_at images es i d e within = get_or-map (λ (x : Entry). (x.0, unwrap_or (change_of x.0 images) x.1)) es i d e within

-- From this place on the numbers, with the images that are left, are these entries.
abbrev pub IsLeft : ℕ → List Entry → List Entry → List Entry → Type 0
IsLeft i images es all = drop i (with_images images es) ≡ drop i all

behind_rising : (es : List Entry) (least top i : ℕ) (d : Entry) → IsRising least top es → i < length es → IsRising ((get_or es i d).0 + 1) top (drop (suc i) es)
behind_rising [] least top i d rising within = absurd (omega arith)
behind_rising (e ∷ es) least top zero d rising within = rising.1
behind_rising (e ∷ es) least top (suc i) d rising within = behind_rising es (e.0 + 1) top i d rising.1 (omega arith)

module _ (i : ℕ) (images es all : List Entry) (d e : Entry) (left : IsLeft i images es all) (within : i < length es) where
  pub left_here : get_or all i e ≡ ((get_or es i d).0, unwrap_or (change_of (get_or es i d).0 images) (get_or es i d).1)
  left_here =
      let at : (l : List Entry) → get_or (drop i l) 0 e ≡ get_or l i e = λ l. get_or-drop i l 0 e ∙ ap (λ (n : ℕ). get_or l n e) (add-zero i) in
      sym (at all) ∙ ap (λ (l : List Entry). get_or l 0 e) (sym left) ∙ at (with_images images es) ∙ joined_at images es i d e within

  pub left_more : (others : List Entry) → IsRising 0 (2 ^ 32) es → Sets (get_or es i d).0 None images others → IsLeft (i + 1) others es all
  left_more others rising sets =
      let next : suc i ≡ i + 1 = omega arith in
      let map_drop : (l : List Entry) → drop (i + 1) (with_images l es) ≡ with_images l (drop (i + 1) es) = λ l. drop-map (λ (x : Entry). (x.0, unwrap_or (change_of x.0 l) x.1)) (i + 1) es in
      let same = same_above images others (drop (i + 1) es) ((get_or es i d).0 + 1) (2 ^ 32) (subst (λ (n : ℕ). IsRising ((get_or es i d).0 + 1) (2 ^ 32) (drop n es)) next (behind_rising es 0 (2 ^ 32) i d rising within)) (λ k above. sets.others k (λ is. absurd (omega (arith, is, above)))) in
      map_drop others ∙ same ∙ sym (map_drop images) ∙ sym (drop-drop 1 i (with_images images es)) ∙ ap (drop 1) left ∙ drop-drop 1 i all
