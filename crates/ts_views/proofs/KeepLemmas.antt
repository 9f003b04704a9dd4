-- What keeping an image, and a commit, do to what a view reads.
use Rattle.std.proofs.Common.{◌≡◌, ◌⊎◌, inl, inr, ℕ, Bool, true, false, cond, eqb, Option, Some, None, is_some, IsSome, List, [], ◌∷◌, refl, ap, sym, ◌∙◌, subst}
use Rattle.std.proofs.lemmas.Bool.{cond-true, cond-false, cases_eq, eq-eqb, ne_eqb}
use Rattle.ts_page.specs.declared.page.Page.{Page}
use Rattle.ts_page.specs.Pages.{IsElementPage, HasFreeHead, EqualPages, SameButFreed, with_page}
use Rattle.ts_page.proofs.PagesLemmas.{same_trans, same_from_equal}
use Rattle.ts_journal.specs.declared.batch.Change.{Change}
use Rattle.ts_journal.specs.declared.batch.Change.TheVariants.{Image}
use Rattle.ts_journal.specs.Journal.{Entry, change_of, changed, over, put}
use Rattle.ts_journal.proofs.CallerLemmas.{over_put, change_of-put}
use Rattle.ts_views.specs.Pages.{view_pages, keep_image}
use Rattle.ts_views.specs.Laws.{Covers, keep_images, AreOf, HasNumber, KeepLeavesView, KeepCovers, CommitLeavesView, KeptCommitLeavesView}

none_or_some : (o : Option Change) → (o ≡ None) ⊎ ((change : Change) × (o ≡ Some change))
none_or_some None = inl refl
none_or_some (Some change) = inr (change, refl)

-- an image is put where there is none of its number
pub kept_new : (old : List Entry) (number : ℕ) (page : Page) → change_of number old ≡ None → keep_image number page old ≡ put number (Image page) old
kept_new old number page none = ap (λ (o : Option Change). cond (is_some o) old (put number (Image page) old)) none

-- one that is there stays
pub kept_same : (old : List Entry) (number : ℕ) (page : Page) (change : Change) → change_of number old ≡ Some change → keep_image number page old ≡ old
kept_same old number page change some = ap (λ (o : Option Change). cond (is_some o) old (put number (Image page) old)) some

-- the page as it is changes nothing
with_itself : (number : ℕ) (bytes : List ℕ) (pages : ℕ → List ℕ) (k : ℕ) → bytes ≡ pages number → with_page number bytes pages k ≡ pages k
with_itself number bytes pages k is = elim (cases_eq number k) [
  | inl here ↦ cond-true (eqb number k) bytes (pages k) (eq-eqb number k here) ∙ is ∙ ap pages here
  | inr there ↦ cond-false (eqb number k) bytes (pages k) (ne_eqb number k there)
]

over_kept : (old : List Entry) (newest : ℕ → List ℕ) (number : ℕ) (page : Page) → page.bytes ≡ newest number → (k : ℕ) → over (keep_image number page old) newest k ≡ over old newest k
over_kept old newest number page is k = elim (none_or_some (change_of number old)) [
  | inl none ↦
      ap (λ (es : List Entry). over es newest k) (kept_new old number page none) ∙ over_put old number (Image page) newest k
      ∙ with_itself number page.bytes (over old newest) k (is ∙ ap (λ (o : Option Change). changed o (newest number)) (sym none))
  | inr some ↦ ap (λ (es : List Entry). over es newest k) (kept_same old number page some.0 some.1)
]

pub keep_leaves : KeepLeavesView
keep_leaves old own newest number page is k = ap (changed (change_of k own)) (over_kept old newest number page is k)

some_cond : (b : Bool) (change : Change) (o : Option Change) → IsSome o → IsSome (cond b (Some change) o)
some_cond true change o some = refl
some_cond false change o some = some

pub keep_covers : KeepCovers
keep_covers old number page = elim (none_or_some (change_of number old)) [
  | inl none ↦
      let found : (k : ℕ) → change_of k (keep_image number page old) ≡ cond (eqb number k) (Some (Image page)) (change_of k old) =
      λ k. ap (change_of k) (kept_new old number page none) ∙ change_of-put old number (Image page) k in (
        ap is_some (found number ∙ cond-true (eqb number number) (Some (Image page)) (change_of number old) (eq-eqb number number refl)),
        λ k there. subst IsSome (sym (found k)) (some_cond (eqb number k) (Image page) (change_of k old) there),
      )
  | inr some ↦
      let same = kept_same old number page some.0 some.1 in (
        ap (λ (es : List Entry). is_some (change_of number es)) same ∙ ap is_some some.1,
        λ k there. ap (λ (es : List Entry). is_some (change_of k es)) same ∙ there,
      )
]

-- the two pages are equal, or both have the head of a free one
abbrev Alike : ℕ → List ℕ → List ℕ → Type 0
Alike number wanted page = (page ≡ wanted) ⊎ (IsElementPage number × HasFreeHead wanted × HasFreeHead page)

same_changed : (number : ℕ) (o : Option Change) (a b : List ℕ) → Alike number a b → Alike number (changed o a) (changed o b)
same_changed number None a b same = same
same_changed number (Some change) a b same = inl refl

-- what stands over pages leaves only what those differ in
over_same : (es : List Entry) (a b : ℕ → List ℕ) → SameButFreed a b → SameButFreed (over es a) (over es b)
over_same es a b same k = same_changed k (change_of k es) (a k) (b k) (same k)

-- an old image hides what the batch changed
hidden : (number : ℕ) (old batch : Option Change) (before after : List ℕ) → (IsSome batch → IsSome old) → Alike number (changed batch before) after → Alike number (changed old before) (changed old after)
hidden number (Some image) batch before after covers same = inl refl
hidden number None None before after covers same = same
hidden number None (Some change) before after covers same = absurd (cc (covers refl))

pub commit_leaves : CommitLeavesView
commit_leaves old own batch before after covers same =
    over_same own (over old before) (over old after) (λ k. hidden k (change_of k old) (change_of k batch) (before k) (after k) (covers k) (same k))

-- the images of the newest pages leave what a view reads
kept_leave : (images : List (ℕ × Page)) (old own : List Entry) (newest : ℕ → List ℕ) → AreOf newest images → EqualPages (view_pages old own newest) (view_pages (keep_images images old) own newest)
kept_leave [] old own newest are k = refl
kept_leave (image ∷ images) old own newest are k =
    kept_leave images (keep_image image.0 image.1 old) own newest are.1 k ∙ keep_leaves old own newest image.0 image.1 are.0 k

-- what is there stays there
kept_stay : (images : List (ℕ × Page)) (old : List Entry) → Covers (keep_images images old) old
kept_stay [] old k there = there
kept_stay (image ∷ images) old k there = kept_stay images (keep_image image.0 image.1 old) k ((keep_covers old image.0 image.1).1 k there)

kept_has : (images : List (ℕ × Page)) (old : List Entry) (k : ℕ) → HasNumber k images → IsSome (change_of k (keep_images images old))
kept_has [] old k among = absurd among
kept_has (image ∷ images) old k (inl here) =
    kept_stay images (keep_image image.0 image.1 old) k (subst (λ (n : ℕ). IsSome (change_of n (keep_image image.0 image.1 old))) (sym here) (keep_covers old image.0 image.1).0)
kept_has (image ∷ images) old k (inr further) = kept_has images (keep_image image.0 image.1 old) k further

pub kept_commit_leaves : KeptCommitLeavesView
kept_commit_leaves old own batch images before after are named same =
    same_trans (view_pages old own before) (view_pages (keep_images images old) own before) (view_pages (keep_images images old) own after)
    (same_from_equal (view_pages old own before) (view_pages (keep_images images old) own before) (kept_leave images old own before are))
    (commit_leaves (keep_images images old) own batch before after (λ k some. kept_has images old k (named k some)) same)
