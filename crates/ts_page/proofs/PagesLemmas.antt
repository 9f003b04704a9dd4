-- What keeps a keeper of pages lawful; and pages that differ behind the heads of free ones.
use Rattle.std.proofs.Common.{◌≡◌, ◌≢◌, inl, inr, ⊎_elim, ℕ, suc, ◌<◌, ◌≤◌, Bool, IsTrue, List, [], ◌∷◌, All, AllPairs, Contains, length, take, get_or, refl, sym, ◌∙◌, ap, subst, arith}
use Rattle.std.proofs.lemmas.Bool.{ne_eqb, eq-eqb, eqb-true}
use Rattle.std.proofs.lemmas.Bool.Decides.{Decides-eqb}
use Rattle.std.proofs.lemmas.List.{get_or_default}
use Rattle.std.proofs.lemmas.List.Elements.{All-cons}
use Rattle.std.proofs.lemmas.List.Kept.{AllPairs-cons}
use Rattle.std.proofs.lemmas.Map.Made.{IsDistinct-from_AllPairs}
use Rattle.std.proofs.lemmas.Map.Steps.{length-le_from_distinct_below}
use Rattle.std.proofs.lemmas.Map.Views.{Contains-from_any}
use Rattle.ts_page.specs.Pages.{zero_page, Contents, IsListed, IsLawful, IsElementPage, IsFreePage, EqualPages, with_page, SameButFreed, HasFreeHead}

pub absent_all : (xs : List ℕ) (n : ℕ) → ¬ Contains xs n → All (λ x. n ≢ x) xs
absent_all xs n absent k d within is = absent (k, within, get_or_default xs k n d within ∙ sym is)

pub zero_is_free : IsFreePage zero_page
unfolding zero_page
zero_is_free = refl

pub with_same : (number : ℕ) (bytes : List ℕ) (pages : ℕ → List ℕ) → with_page number bytes pages number ≡ bytes
with_same number bytes pages = rw (eq-eqb number number refl)

pub with_other : (changed number : ℕ) (bytes : List ℕ) (pages : ℕ → List ℕ) → changed ≢ number → with_page changed bytes pages number ≡ pages number
with_other changed number bytes pages other = rw (ne_eqb changed number other)

-- no more pages can be taken than there are
pub few_free : (tells : Bool) (c : Contents) → IsLawful tells c → length c.free ≤ c.count
few_free tells c lawful = length-le_from_distinct_below c.free c.count (IsDistinct-from_AllPairs Decides-eqb c.free lawful.different)
    (λ q has. let found : Contains c.free q = Contains-from_any eqb-true q c.free has in
    subst (λ (n : ℕ). n < c.count) found.2 (lawful.listed found.0 q found.1).below)

-- each holds of one state and the next with as many pages
module _ (tells : Bool) (v w : Contents) (lawful : IsLawful tells v) (count : w.count ≡ v.count) where
  listed_still : (n : ℕ) → IsListed tells v n → (IsTrue tells → w.page n ≡ v.page n) → IsListed tells w n
  listed_still n listed same = record {
    element = listed.element;
    below = omega (arith, listed.below, count);
    free = λ told. subst IsFreePage (sym (same told)) (listed.free told);
  }

  pub lawful_same : (IsTrue tells → EqualPages v.page w.page) → w.free ≡ v.free → IsLawful tells w
  lawful_same pages free = record {
    different = subst (λ (l : List ℕ). AllPairs (λ a b. a ≢ b) l) (sym free) lawful.different;
    listed = subst (λ (l : List ℕ). All (IsListed tells w) l) (sym free) (λ k d within. listed_still (get_or v.free k d) (lawful.listed k d within) (λ told. pages told (get_or v.free k d)));
  }

  pub lawful_put : (number : ℕ) (bytes : List ℕ) → ¬ Contains v.free number → (IsTrue tells → EqualPages (with_page number bytes v.page) w.page) → w.free ≡ v.free → IsLawful tells w
  lawful_put number bytes absent pages free = record {
    different = subst (λ (l : List ℕ). AllPairs (λ a b. a ≢ b) l) (sym free) lawful.different;
    listed = subst (λ (l : List ℕ). All (IsListed tells w) l) (sym free) (λ k d within.
        listed_still (get_or v.free k d) (lawful.listed k d within)
        (λ told. pages told (get_or v.free k d) ∙ with_other number (get_or v.free k d) bytes v.page (absent_all v.free number absent k d within)));
  }

  pub lawful_freed : (number : ℕ) → IsElementPage number → number < v.count → ¬ Contains v.free number
      → (IsTrue tells → EqualPages (with_page number zero_page v.page) w.page) → w.free ≡ number ∷ v.free → IsLawful tells w
  lawful_freed number element below absent pages free = record {
    different = subst (λ (l : List ℕ). AllPairs (λ a b. a ≢ b) l) (sym free)
        (AllPairs-cons (λ a b. a ≢ b) number v.free (absent_all v.free number absent) lawful.different);
    listed = subst (λ (l : List ℕ). All (IsListed tells w) l) (sym free) (All-cons (IsListed tells w) number v.free
        (record {
          element = element;
          below = omega (arith, below, count);
          free = λ told. subst IsFreePage (sym (pages told number ∙ with_same number zero_page v.page)) zero_is_free;
        })
        (λ k d within. listed_still (get_or v.free k d) (lawful.listed k d within)
        (λ told. pages told (get_or v.free k d) ∙ with_other number (get_or v.free k d) zero_page v.page (absent_all v.free number absent k d within))));
  }

  pub lawful_taken : (number : ℕ) → (IsTrue tells → EqualPages v.page w.page) → v.free ≡ number ∷ w.free → IsLawful tells w
  lawful_taken number pages free =
      let different = subst (λ (l : List ℕ). AllPairs (λ a b. a ≢ b) l) free lawful.different in
      let listed = subst (λ (l : List ℕ). All (IsListed tells v) l) free lawful.listed in
      record {
        different = λ i j d before within. different (suc i) (suc j) d (omega (arith, before)) (omega (arith, within));
        listed = λ k d within. listed_still (get_or w.free k d) (listed (suc k) d (omega (arith, within))) (λ told. pages told (get_or w.free k d));
      }

-- the relation is an equivalence
pub same_refl : (pages : ℕ → List ℕ) → SameButFreed pages pages
same_refl pages number = inl refl

pub same_sym : (a b : ℕ → List ℕ) → SameButFreed a b → SameButFreed b a
same_sym a b same number = ⊎_elim (λ equal. inl (sym equal)) (λ freed. inr (freed.0, freed.2, freed.1)) (same number)

pub same_trans : (a b c : ℕ → List ℕ) → SameButFreed a b → SameButFreed b c → SameButFreed a c
same_trans a b c first second number = elim (first number) [
  | inl equal ↦ elim (second number) [
    | inl equal2 ↦ inl (equal2 ∙ equal)
    | inr freed2 ↦ inr (freed2.0, sym (ap (take 32) equal) ∙ freed2.1, freed2.2)
  ]
  | inr freed ↦ elim (second number) [
    | inl equal2 ↦ inr (freed.0, freed.1, ap (take 32) equal2 ∙ freed.2)
    | inr freed2 ↦ inr (freed.0, freed.1, freed2.2)
  ]
]

pub same_from_equal : (a b : ℕ → List ℕ) → EqualPages a b → SameButFreed a b
same_from_equal a b equal number = inl (equal number)

-- a page with the head of a free one is free
pub free_headed : (page : List ℕ) → HasFreeHead page → IsFreePage page
free_headed [] head = refl
free_headed (x ∷ xs) head = cc

-- what is free stays free
pub same_free : (a b : ℕ → List ℕ) (number : ℕ) → SameButFreed a b → IsFreePage (a number) → IsFreePage (b number)
same_free a b number same free =
    ⊎_elim (λ equal. subst IsFreePage (sym equal) free) (λ freed. free_headed (b number) freed.2) (same number)
