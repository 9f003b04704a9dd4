use Rattle.std.proofs.Common.{◌≡◌, ℕ, zero, suc, ◌<◌, ◌≤◌, true, List, [], ◌∷◌, All, length, replicate, slice_index_or, sym, ◌∙◌, ap, subst, arith, rules, lit≤, lit<}
use Rattle.std.proofs.lemmas.List.{get_or-replicate, length-replicate}
use Rattle.ts_page.specs.declared.page.Page.{Page}
use Rattle.ts_page.specs.Pages.{zero_page, IsListed, IsFreePage, kept}
use Rattle.ts_page.proofs.PagesLemmas.{zero_is_free}
use Rattle.ts_journal_vectors.proofs.pages.two_free.Goals as goal

of_zeros : (pages : List Page) (zeros : Page) (n : ℕ) (free : List ℕ) (number : ℕ) → zeros.bytes ≡ zero_page → pages ≡ replicate n zeros → 930 ≤ number → number < n → IsListed true (kept pages free) number
of_zeros pages zeros n free number bytes are element below = record {
  element = element;
  below = omega (arith, ap length are, length-replicate n zeros, below);
  free = λ told. subst IsFreePage
      (sym (ap (λ (l : List Page). (slice_index_or l number (record { bytes = [] })).bytes) are ∙ ap (λ (p : Page). p.bytes) (get_or-replicate n number zeros (record { bytes = [] }) below) ∙ bytes))
      zero_is_free;
}

both : (P : ℕ → Type 0) (a b : ℕ) → P a → P b → All P (a ∷ b ∷ [])
both P a b first second zero d within = first
both P a b first second (suc zero) d within = second
both P a b first second (suc (suc k)) d within = absurd (omega (arith, within))

pub new-requires-clause-listed : goal.new-requires-clause-listed
new-requires-clause-listed c =
    let pages = c.in_ok-pages.pages.items in
    let zeros : pages ≡ replicate 932 c.zero.result = c.in_ok-pages.ensures.items_if_clones_equal (λ y is. search rules) in
    let free : c.in_ok-free.free.items ≡ 930 ∷ 931 ∷ [] = c.in_ok-free.ensures.items in
    let two : List ℕ = 930 ∷ 931 ∷ [] in
    subst (λ (l : List ℕ). All (IsListed true (kept pages l)) l) (sym free) (both (IsListed true (kept pages two)) 930 931
    (of_zeros pages c.zero.result 932 two 930 c.zero.ensures zeros (lit≤ tt) (lit< tt))
    (of_zeros pages c.zero.result 932 two 931 c.zero.ensures zeros (lit≤ tt) (lit< tt)))
