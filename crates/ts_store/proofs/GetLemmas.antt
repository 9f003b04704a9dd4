-- A page that is read in memory, or else from the volume.
use Rattle.std.proofs.Common.{◌≡◌, ℕ, ◌+◌, ◌*◌, ◌≤◌, ◌⊎◌, Bool, false, IsTrue, Result, Ok, Err, OnOk, IsOk, Option, Some, None, IsSome, IfSome, List, length, take, drop, refl, ap, sym, ◌∙◌, subst, arith}
use Rattle.ts_disk.specs.Device.{Device, ReadAt}
use Rattle.ts_page.specs.Pages.{IsLawful, IsOutsideJournal, Got}
use Rattle.ts_page.proofs.PagesLemmas.{lawful_same}
use Rattle.ts_journal.specs.declared.batch.Change.{Change}
use Rattle.ts_journal.specs.Journal.{change_of, changed, own_page}
use Rattle.ts_journal.specs.Moment.{OnlyReads}
use Rattle.ts_cache.specs.Cache.{Cache, page_of, after_put}
use Rattle.ts_store.specs.OpenBatch.{State, IsInPlace, AreInPlace, change_read, page_or, in_memory, after_read, committed_pages, read_pages, contents_over}
use Rattle.ts_store.specs.Undisturbed.{Undisturbed}
use Rattle.ts_store.proofs.ReadLemmas.{read_clean, own_outside}
use Rattle.ts_store.proofs.CacheLemmas.{each_read, kept_cached, memory_is_read}

both_some : (o : Option (List ℕ)) (P : List ℕ → Type 0) (into : List ℕ) → IsSome o → IfSome o (λ bytes. into ≡ bytes) → IfSome o P → P into
both_some None P into some is holds = absurd cc
both_some (Some bytes) P into some is holds = subst P (sym is) holds

-- a page is read in memory
pub got_memory : (tells : Bool) (s t : State) (number : ℕ) (into : List ℕ) (v : Device) → t ≡ record s { cache = t.cache } → IsSome (in_memory number s) → IfSome (in_memory number s) (λ bytes. into ≡ bytes)
    → (IsTrue tells → AreInPlace v.held s.cache) → Got tells number into (Ok tt) (contents_over s v) (contents_over t v)
got_memory tells s t number into v is there found cached = subst (λ (x : State). Got tells number into (Ok tt) (contents_over s v) (contents_over x v)) (sym is) (record {
  call = record { count = refl; faults = omega arith; cause = λ failed. absurd (cc); no_fault = λ other. refl };
  read = λ told outside. both_some (in_memory number s) (λ bytes. bytes ≡ read_pages s v.held number) into there found (memory_is_read v.held number s (cached told) outside);
  pages = λ told n. refl;
  free = refl;
  change_bytes = refl;
  images = λ n is. is;
})

-- it is read from the volume
pub got_clean : {E : Type 0} (tells : Bool) (s t : State) (number at : ℕ) (into : List ℕ) (r : Result Unit E) (v w : Device) → t ≡ record s { cache = t.cache } → at ≡ 4096 * number → length into ≡ 4096
    → change_read number s ≡ None → ReadAt tells at into r v w → IsOk r → (IsTrue tells → into ≡ take (length into) (drop at v.held)) → Got tells number into (Ok tt) (contents_over s v) (contents_over t w)
got_clean tells s t number at into r v w is place size none read answered done = subst (λ (x : State). Got tells number into (Ok tt) (contents_over s v) (contents_over x w)) (sym is) (record {
  call = record { count = refl; faults = read.call.faults; cause = λ failed. absurd (cc); no_fault = λ other. read.call.no_fault answered };
  read = λ told outside. done told ∙ (λ i. take (size i) (drop (place i) v.held)) ∙ sym (read_clean s v.held number none outside);
  pages = λ told n. ap (λ (h : List ℕ). read_pages s h n) read.held;
  free = refl;
  change_bytes = refl;
  images = λ n is. is;
})

-- and is the one in its place
pub read_in_place : (number at : ℕ) (into held : List ℕ) → at ≡ 4096 * number → length into ≡ 4096 → into ≡ take (length into) (drop at held) → IsInPlace held number into
read_in_place number at into held place size done outside =
    done ∙ (λ i. take (size i) (drop (place i) held)) ∙ sym (own_outside held number outside)

-- where memory has no page, the page has no change
pub not_in_memory : (number : ℕ) (s : State) (found : Bool) → found ≡ false → (IsSome (in_memory number s) → IsTrue found) → change_read number s ≡ None
not_in_memory number s found is all = here (change_read number s) (λ some. all some)
  where
    here : (o : Option Change) → (IsSome (page_or o (page_of number s.cache.pages)) → IsTrue found) → o ≡ None
    here None h = refl
    here (Some change) h = let yes : IsTrue found = h refl in absurd cc

-- a store whose cache alone changed
pub own_cache : (s t : State) (c : Cache) → t ≡ record s { cache = c } → t ≡ record s { cache = t.cache }
own_cache s t c is = is ∙ ap (λ (d : Cache). record s { cache = d }) (sym (ap (λ (x : State). x.cache) is))

-- so it is after two calls of which each changes the cache alone
pub cache_twice : (s r t : State) (c : Cache) → r ≡ record s { cache = c } → t ≡ record r { cache = t.cache } → t ≡ record s { cache = t.cache }
cache_twice s r t c first second = second ∙ ap (λ (x : State). record x { cache = t.cache }) first

pub undisturbed_but_cache : (tells : Bool) (s t : State) (v w : Device) → t ≡ record s { cache = t.cache } → OnlyReads tells v w
    → (IsTrue tells → AreInPlace v.held s.cache → AreInPlace w.held t.cache) → Undisturbed tells s t v w
undisturbed_but_cache tells s t v w is reads cached = record {
  pages = ap (λ (x : State). x.pages) is;
  journal = ap (λ (x : State). x.journal) is;
  overlay = ap (λ (x : State). x.overlay) is;
  transaction = ap (λ (x : State). x.transaction) is;
  kept_free = ap (λ (x : State). x.kept_free) is;
  base_free = ap (λ (x : State). x.base_free) is;
  reads = reads;
  cached = cached;
}

-- what is in the cache after a page was asked for
pub read_cached : (s t : State) (held new : List ℕ) (number : ℕ) → t ≡ record s { cache = after_read (change_read number s) number s.cache } → new ≡ held → AreInPlace held s.cache → AreInPlace new t.cache
read_cached s t held new number is same cached =
    subst (λ (bytes : List ℕ). AreInPlace bytes t.cache) (sym same)
    (subst (AreInPlace held) (sym (ap (λ (x : State). x.cache) is)) (record { each = each_read (IsInPlace held) (change_read number s) number s.cache cached.each }))

-- what is in the cache once a page was read from the volume
pub got_cached : {E : Type 0} (tells : Bool) (s r t : State) (number at : ℕ) (into : List ℕ) (answer : Result Unit E) (v w : Device) → r ≡ record s { cache = after_read (change_read number s) number s.cache }
    → (t.cache ≡ r.cache) ⊎ (t.cache ≡ after_put number into r.cache) → at ≡ 4096 * number → length into ≡ 4096 → ReadAt tells at into answer v w → into ≡ take (length into) (drop at v.held)
    → AreInPlace v.held s.cache → AreInPlace w.held t.cache
got_cached tells s r t number at into answer v w is kept place size read done cached =
    subst (λ (bytes : List ℕ). AreInPlace bytes t.cache) (sym read.held)
    (kept_cached v.held number into r.cache t.cache kept (read_in_place number at into v.held place size done) (read_cached s r v.held v.held number is refl cached))

-- what a change of the cache alone leaves
module _ (tells : Bool) (s t : State) (v w : Device) (is : t ≡ record s { cache = t.cache }) (held : w.held ≡ v.held) where
  pub lawful_but_cache : IsLawful tells (contents_over s v) → IsLawful tells (contents_over t w)
  lawful_but_cache lawful = lawful_same tells (contents_over s v) (contents_over t w) lawful (ap (λ (x : State). x.pages) is)
      (λ told k. ap (λ (x : State). read_pages x w.held k) is ∙ ap (λ (bytes : List ℕ). read_pages s bytes k) held) (ap (λ (x : State). x.free) is)

  pub size_but_cache : w.size ≡ v.size → v.size ≡ 4096 * s.pages → w.size ≡ 4096 * t.pages
  size_but_cache same size = same ∙ size ∙ ap (λ (x : State). 4096 * x.pages) (sym is)

-- a page without a change of the overlay is read in its place
pub committed_read : {E : Type 0} (tells : Bool) (s : State) (number at : ℕ) (into : List ℕ) (r : Result Unit E) (v w : Device) → at ≡ 4096 * number → length into ≡ 4096 → change_of number s.overlay ≡ None → ReadAt tells at into r v w
    → OnOk r (IsTrue tells → IsOutsideJournal number → into ≡ committed_pages s v.held number)
committed_read tells s number at into (Err e) v w place size none read = tt
committed_read tells s number at into (Ok done) v w place size none read = λ told outside.
    read_in_place number at into v.held place size (read.read told) outside ∙ sym (ap (λ (o : Option Change). changed o (own_page v.held number)) none)

-- a read is one call
pub one_call : {E : Type 0} (tells : Bool) (at : ℕ) (into : List ℕ) (r : Result Unit E) (v w : Device) → ReadAt tells at into r v w → OnOk r (IsTrue tells → w.clock ≤ v.clock + 1)
one_call tells at into (Err e) v w read = tt
one_call tells at into (Ok done) v w read = λ told. omega (arith, read.call.tick told refl)
