-- What drops add to a record: an image for each page of slots that had none, whatever their number.
use Rattle.std.proofs.Common.{◌≡◌, ℕ, zero, suc, ◌+◌, ◌/◌, ◌<◌, ◌≤◌, Bool, true, false, cond, IsTrue, inl, inr, refl, sym, subst, arith}
use Rattle.std.proofs.lemmas.Bool.{cases_eq}
use Rattle.ts_page.specs.Pages.{Contents}
use Rattle.ts_layout.specs.Slot.{first_series_page}
use Rattle.ts_answer.specs.CarriedOut.{Grows}
use Rattle.ts_elements.specs.Drops.{IsDropped}
use Rattle.ts_rolling_edits.specs.Parts.{series_pages, unimaged, GrowsByPages}

-- so many at most
few_unimaged : (n : ℕ) (c : Contents) → unimaged n c ≤ n
unfolding unimaged
few_unimaged zero c = omega arith
few_unimaged (suc n) c = let rest = few_unimaged n c in one (c.imaged (first_series_page + n)) rest
  where
    one : (b : Bool) → unimaged n c ≤ n → cond b 0 1 + unimaged n c ≤ suc n
    one true rest = omega (arith, rest)
    one false rest = omega (arith, rest)

-- what keeps the images of a page has it counted no more often
kept_one : (a b : Bool) → (IsTrue a → IsTrue b) → cond b 0 1 ≤ cond a 0 1
kept_one true true stays = omega arith
kept_one true false stays = absurd (let is = stays refl in cc)
kept_one false true stays = omega arith
kept_one false false stays = omega arith

abbrev StayBelow : ℕ → Contents → Contents → Type 0
StayBelow n v w = (k : ℕ) → k < n → IsTrue (v.imaged (first_series_page + k)) → IsTrue (w.imaged (first_series_page + k))

kept_all : (n : ℕ) (v w : Contents) → StayBelow n v w → unimaged n w ≤ unimaged n v
unfolding unimaged
kept_all zero v w stays = omega arith
kept_all (suc n) v w stays =
    let rest = kept_all n v w (λ k below. stays k (omega (arith, below))) in
    let here = kept_one (v.imaged (first_series_page + n)) (w.imaged (first_series_page + n)) (stays n (omega arith)) in
    omega (arith, rest, here)

-- and one that gets an image is counted no more
one_less : (a b : Bool) → a ≡ false → b ≡ true → cond b 0 1 + 1 ≤ cond a 0 1
one_less a b lacks has = subst (λ (x : Bool). cond x 0 1 + 1 ≤ cond a 0 1) (sym has) (subst (λ (x : Bool). cond true 0 1 + 1 ≤ cond x 0 1) (sym lacks) (omega arith))

made_one : (n : ℕ) (v w : Contents) (k : ℕ) → k < n → v.imaged (first_series_page + k) ≡ false → w.imaged (first_series_page + k) ≡ true → StayBelow n v w → unimaged n w + 1 ≤ unimaged n v
unfolding unimaged
made_one zero v w k below lacks has stays = absurd (omega (arith, below))
made_one (suc n) v w k below lacks has stays =
    elim (cases_eq k n) [
      | inl last ↦
          let rest = kept_all n v w (λ i under. stays i (omega (arith, under))) in
          let here = one_less (v.imaged (first_series_page + n)) (w.imaged (first_series_page + n)) (subst (λ (i : ℕ). v.imaged (first_series_page + i) ≡ false) last lacks) (subst (λ (i : ℕ). w.imaged (first_series_page + i) ≡ true) last has) in
          omega (arith, rest, here)
      | inr other ↦
          let rest = made_one n v w k (omega (arith, below, other)) lacks has (λ i under. stays i (omega (arith, under))) in
          let here = kept_one (v.imaged (first_series_page + n)) (w.imaged (first_series_page + n)) (stays n (omega arith)) in
          omega (arith, rest, here)
    ]

-- a drop adds an image where its slot's page had none
pub drop_grows : (slot : ℕ) (v w : Contents) → IsDropped slot v w → GrowsByPages v w
drop_grows slot v w dropped = by_image (v.imaged (first_series_page + slot / 43)) refl
  where
    within : slot / 43 < series_pages
    within = let below = dropped.within in omega (arith, below)

    stays : StayBelow series_pages v w
    stays k below there = dropped.images (first_series_page + k) (omega (arith, below)) there

    by_image : (b : Bool) → v.imaged (first_series_page + slot / 43) ≡ b → GrowsByPages v w
    by_image true there =
        let fewer = kept_all series_pages v w stays in
        let more = dropped.again there in
        omega (arith, fewer, more)
    by_image false none =
        let fewer = made_one series_pages v w (slot / 43) within none dropped.imaged stays in
        let more = dropped.grows in
        omega (arith, fewer, more)

pub still_grows : (v w : Contents) → w ≡ v → GrowsByPages v w
still_grows v w same = subst (λ (c : Contents). GrowsByPages v c) (sym same) (omega arith)

pub grows_then : (u v w : Contents) → GrowsByPages u v → GrowsByPages v w → GrowsByPages u w
grows_then u v w first second = omega (arith, first, second)

-- drops, and two edits more
pub grown : (u v w z : Contents) → GrowsByPages u v → Grows 1 v w → Grows 1 w z → Grows 26 u z
grown u v w z pages one two = let few = few_unimaged series_pages u in omega (arith, few, pages, one, two)

-- and none more
pub grown_alone : (u v : Contents) → GrowsByPages u v → Grows 26 u v
grown_alone u v pages = let few = few_unimaged series_pages u in omega (arith, few, pages)
