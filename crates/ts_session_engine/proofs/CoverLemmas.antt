-- The pages that are to be changed, and the old images of them.
use Rattle.std.proofs.Common.{◌≡◌, inl, inr, ℕ, suc, ◌+◌, ◌<◌, eqb, Bool, false, IsTrue, Option, Some, IsSome, IfSome, Result, Ok, Err, OnOk, IsErrAnd, List, [], ◌∷◌, ◌++◌, length, slice_index_or, refl, ap, sym, ◌∙◌, subst, arith, length-append}
use Rattle.std.specs.declared.alloc.AllocError.{AllocError}
use Rattle.std.specs.Result.{is_err as std_is_err}
use Rattle.ts_base.specs.declared.fault.StoreFault.{StoreFault}
use Rattle.ts_base.specs.declared.fault.StoreFault.TheVariants.{Failed as StoreFailed, Memory as StoreMemory}
use Rattle.std.proofs.lemmas.Bool.{cond-false, cases_eq, ne_eqb}
use Rattle.std.proofs.lemmas.List.{get_or_append_left, get_or-append-add}
use Rattle.ts_page.specs.declared.page.Page.{Page}
use Rattle.ts_journal.specs.declared.batch.Change.TheVariants.{Free}
use Rattle.ts_journal.specs.Journal.{Entry, change_of}
use Rattle.ts_store.specs.OpenBatch.{State as Store}
use Rattle.ts_views.specs.declared.view.View.{View}
use Rattle.ts_views.specs.Pages.{view_pages}
use Rattle.ts_views.specs.View.{view_of, HasImage, OfEachOpen, KeepsImage, MayKeepImage, EachTurns}
use Rattle.ts_views.proofs.CallerLemmas.{each_weaker, keep_leaves}
use Rattle.ts_session_engine.specs.Beside.{HasMore, AllHaveMore, AreCovered}

-- a page that has a change stands at some place among the changes
named : (es : List Entry) (k : ℕ) (other : Entry) → IsSome (change_of k es) → (i : ℕ) × (i < length es) × ((slice_index_or es i other).0 ≡ k)
named [] k other some = absurd (cc)
named (e ∷ es) k other some = elim (cases_eq e.0 k) [
  | inl here ↦ (0, omega arith, here)
  | inr there ↦
      let rest = named es k other (subst IsSome (cond-false (eqb e.0 k) (Some e.1) (change_of k es) (ne_eqb e.0 k there)) some) in
      (suc rest.0, omega (arith, rest.1), rest.2)
]

-- where each page at a place has an old image, all that are to be changed have
pub covered_all : (s : Store) (views : List (Option View)) → ((i : ℕ) (other : Entry) → i < length (s.transaction ++ s.batch) → OfEachOpen (HasImage (slice_index_or (s.transaction ++ s.batch) i other).0) views) → AreCovered s views
covered_all s views each number either who =
    let t = s.transaction in
    let b = s.batch in
    let other : Entry = (0, Free) in
    elim either [
      | inl some ↦
          let at = named t number other some in
          subst (λ (n : ℕ). IfSome (view_of who views) (HasImage n)) (ap (λ (e : Entry). e.0) (get_or_append_left t b other at.0 at.1) ∙ at.2) (each at.0 other (omega (arith, at.1, length-append t b)) who)
      | inr some ↦
          let at = named b number other some in
          subst (λ (n : ℕ). IfSome (view_of who views) (HasImage n)) (ap (λ (e : Entry). e.0) (get_or-append-add t b at.0 other) ∙ at.2) (each (length t + at.0) other (omega (arith, at.1, length-append t b)) who)
    ]

-- an image of a page as it was committed leaves what a view reads
one_more : (tells : Bool) (committed : ℕ → List ℕ) (number : ℕ) (page : Page) → (IsTrue tells → page.bytes ≡ committed number) → (v w : View) → MayKeepImage number page v w → HasMore tells committed v w
one_more tells committed number page is v w may = record {
  same = may.others;
  reads = λ told k.
      let own : view_pages w.old.entries w.own.entries committed k ≡ view_pages w.old.entries v.own.entries committed k = ap (λ (es : List Entry). view_pages w.old.entries es committed k) (ap (λ b. b.entries) may.others.own) in
      own ∙ (elim may.old [
        | inl same ↦ ap (λ (es : List Entry). view_pages es v.own.entries committed k) same
        | inr keeps ↦ ap (λ (es : List Entry). view_pages es v.own.entries committed k) keeps ∙ keep_leaves v.old.entries v.own.entries committed number page (is told) k
      ]);
}

pub kept_more : (tells : Bool) (committed : ℕ → List ℕ) (number : ℕ) (page : Page) → (IsTrue tells → page.bytes ≡ committed number) → (old new : List (Option View)) → EachTurns (MayKeepImage number page) old new → AllHaveMore tells committed old new
kept_more tells committed number page is old new turns = each_weaker (MayKeepImage number page) (HasMore tells committed) (one_more tells committed number page is) old new turns

pub kept_may : (number : ℕ) (page : Page) (old new : List (Option View)) → EachTurns (KeepsImage number page) old new → EachTurns (MayKeepImage number page) old new
kept_may number page old new turns = each_weaker (KeepsImage number page) (MayKeepImage number page) (λ v w keeps. record { old = inr keeps.old; others = keeps.others }) old new turns

-- one place more
pub one_covered : (es : List Entry) (i : ℕ) (old new : List (Option View)) → ((k : ℕ) (other : Entry) → k < i → OfEachOpen (HasImage (slice_index_or es k other).0) old) → ((number : ℕ) → OfEachOpen (HasImage number) old → OfEachOpen (HasImage number) new)
    → ((other : Entry) → OfEachOpen (HasImage (slice_index_or es i other).0) new) → (k : ℕ) (other : Entry) → k < i + 1 → OfEachOpen (HasImage (slice_index_or es k other).0) new
one_covered es i old new below still here k other lower = elim (cases_eq k i) [
  | inl is ↦ subst (λ (n : ℕ). OfEachOpen (HasImage (slice_index_or es n other).0) new) (sym is) (here other)
  | inr off ↦ still (slice_index_or es k other).0 (below k other (omega (arith, lower, off)))
]

-- a fault that is passed on
pub is_err : {E : Type 0} (r : Result Unit E) (fault : E) → IsErrAnd r (λ k. k ≡ fault) → r ≡ Err fault
is_err (Ok done) fault is = absurd is
is_err (Err k) fault is = ap Err is

pub not_ok : {E : Type 0} (r : Result Unit E) (P : Type 0) (Q : E → Type 0) → IsErrAnd r Q → OnOk r P
not_ok (Ok y) P Q is = absurd is
not_ok (Err k) P Q is = tt

-- what holds where a call answered Ok
pub is_ok : {E : Type 0} (r : Result Unit E) → std_is_err r ≡ false → r ≡ Ok tt
is_ok (Ok done) right = refl
is_ok (Err k) right = absurd (cc)

pub of_ok : {E P : Type 0} (r : Result Unit E) → r ≡ Ok tt → OnOk r P → P
of_ok (Ok y) ok holds = holds
of_ok (Err k) ok holds = absurd (cc)

-- want of memory isn't a failed call
pub memory_failed : (error : AllocError) → ◌≡◌ {A = Result Unit StoreFault} (Err (StoreMemory error)) (Err StoreFailed) → ⊥
memory_failed error same = cc
