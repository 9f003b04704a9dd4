-- What is in the cache: no page that has a change, and each page as it is in its place.
use Rattle.std.proofs.Common.{◌≡◌, ℕ, ◌<◌, ◌^◌, ◌⊎◌, inl, inr, Result, Ok, Err, OnOk, OnErr, Option, Some, None, IfSome, List, [], eqb, refl, ap, sym, ◌∙◌, subst, arith}
use Rattle.std.proofs.lemmas.Bool.{cond-false, ne_eqb}
use Rattle.ts_page.specs.Pages.{IsOutsideJournal}
use Rattle.ts_journal.specs.declared.batch.Change.{Change}
use Rattle.ts_journal.specs.Journal.{Entry, IsAllowed, change_of, changed, change_or, over, put, put_all, own_page, pages, StandsOver, ReadsButFreed, SameOrFreed}
use Rattle.ts_journal.proofs.CallerLemmas.{put_rising, change_of-put, over_pages, put_all_none}
use Rattle.ts_recover.proofs.CallerLemmas.{put_allowed}
use Rattle.ts_cache.specs.Cache.{Cache, EachPage, page_of, after_get, after_put, after_forget}
use Rattle.ts_cache.proofs.CallerLemmas.{each_got, each_put, each_forgotten}
use Rattle.ts_store.specs.OpenBatch.{State, AreSound, IsSound, AreClean, IsInPlace, AreInPlace, page_or, in_memory, after_read, read_pages}
use Rattle.ts_store.proofs.JoinLemmas.{all_allowed, joined_rising}

-- clean entries stay so where a page is taken out of the cache, was asked for, or was put that has no change
module _ (es : List Entry) (number : ℕ) (c d : Cache) (clean : AreClean es c) where
  clean_forgot : d ≡ after_forget number c → AreClean es d
  clean_forgot forgot = subst (AreClean es) (sym forgot) (each_forgotten (λ k kept. change_of k es ≡ None) number c clean (λ k kept. change_of k es ≡ None) (λ k kept apart none. none))

  clean_got : d ≡ after_get number c → AreClean es d
  clean_got got = subst (AreClean es) (sym got) (each_got (λ k kept. change_of k es ≡ None) number c clean)

  clean_kept : (bytes : List ℕ) → d ≡ after_put number bytes c → change_of number es ≡ None → AreClean es d
  clean_kept bytes kept none = subst (AreClean es) (sym kept) (each_put (λ k kept. change_of k es ≡ None) number c clean bytes none)

  -- so do those with one entry more, whose page is taken out
  clean_set : (change : Change) → d ≡ after_forget number c → AreClean (put number change es) d
  clean_set change forgot = subst (AreClean (put number change es)) (sym forgot)
      (each_forgotten (λ k kept. change_of k es ≡ None) number c clean (λ k kept. change_of k (put number change es) ≡ None)
      (λ k kept apart none. change_of-put es number change k ∙ cond-false (eqb number k) (Some change) (change_of k es) (ne_eqb number k (λ e. apart (sym e))) ∙ none))

-- the rules on entries beside another cache
under : (count : ℕ) (es : List Entry) (c d : Cache) → AreSound count es c → AreClean es d → AreSound count es d
under count es c d sound clean = record { allowed = sound.allowed; rising = sound.rising; clean = clean }

no_sound : (count : ℕ) (es : List Entry) (c : Cache) → es ≡ [] → AreSound count es c
no_sound count es c none = subst (λ (l : List Entry). AreSound count l c) (sym none) (record { allowed = tt; rising = omega arith; clean = λ k kept found. refl })

-- the entries keep the rules with one more, if its page is taken out of the cache
pub sound_set : (count number : ℕ) (overlay transaction batch new : List Entry) (c d : Cache) (change : Change) → new ≡ put number change batch → d ≡ after_forget number c
    → IsSound count overlay transaction batch c → IsAllowed count (number, change) → number < 2 ^ 32 → IsSound count overlay transaction new d
sound_set count number overlay transaction batch new c d change is forgot sound allowed small = record {
  overlay_clean = clean_forgot overlay number c d sound.overlay_clean forgot;
  transaction_sound = under count transaction c d sound.transaction_sound (clean_forgot transaction number c d sound.transaction_sound.clean forgot);
  batch_sound = subst (λ (es : List Entry). AreSound count es d) (sym is) (record {
    allowed = put_allowed count batch number change sound.batch_sound.allowed allowed;
    rising = put_rising batch 0 (2 ^ 32) number change sound.batch_sound.rising (omega arith) small;
    clean = clean_set batch number c d sound.batch_sound.clean change forgot;
  });
}

-- so they do where nothing changed
pub sound_same : (count : ℕ) (overlay transaction batch new : List Entry) (c : Cache) → new ≡ batch → IsSound count overlay transaction batch c → IsSound count overlay transaction new c
sound_same count overlay transaction batch new c is sound = subst (λ (es : List Entry). IsSound count overlay transaction es c) (sym is) sound

-- where the batch is dropped, and the transaction with it or not
pub sound_dropped : (count : ℕ) (overlay transaction batch left new : List Entry) (c : Cache) → (left ≡ transaction) ⊎ (left ≡ []) → new ≡ [] → IsSound count overlay transaction batch c
    → IsSound count overlay left new c
sound_dropped count overlay transaction batch left new c (inl same) none sound =
    record { overlay_clean = sound.overlay_clean; transaction_sound = subst (λ (es : List Entry). AreSound count es c) (sym same) sound.transaction_sound; batch_sound = no_sound count new c none }
sound_dropped count overlay transaction batch left new c (inr gone) none sound =
    record { overlay_clean = sound.overlay_clean; transaction_sound = no_sound count left c gone; batch_sound = no_sound count new c none }

-- where a page was asked for
pub sound_got : (count number : ℕ) (overlay transaction batch : List Entry) (c d : Cache) → d ≡ after_get number c → IsSound count overlay transaction batch c → IsSound count overlay transaction batch d
sound_got count number overlay transaction batch c d got sound = record {
  overlay_clean = clean_got overlay number c d sound.overlay_clean got;
  transaction_sound = under count transaction c d sound.transaction_sound (clean_got transaction number c d sound.transaction_sound.clean got);
  batch_sound = under count batch c d sound.batch_sound (clean_got batch number c d sound.batch_sound.clean got);
}

-- where none has a change, each has none
none_of : (b t o : Option Change) → change_or b (change_or t o) ≡ None → (b ≡ None) × (t ≡ None) × (o ≡ None)
none_of None None o is = (refl, refl, is)
none_of None (Some change) o is = absurd cc
none_of (Some change) t o is = absurd cc

-- or put that has no change
pub sound_kept : {E : Type 0} (r : Result Unit E) (count number : ℕ) (bytes : List ℕ) (overlay transaction batch : List Entry) (c d : Cache) → OnOk r (d ≡ after_put number bytes c) → OnErr r (d ≡ c)
    → change_or (change_of number batch) (change_or (change_of number transaction) (change_of number overlay)) ≡ None → IsSound count overlay transaction batch c → IsSound count overlay transaction batch d
sound_kept (Ok done) count number bytes overlay transaction batch c d ok err none sound =
    let each = none_of (change_of number batch) (change_of number transaction) (change_of number overlay) none in
    record {
      overlay_clean = clean_kept overlay number c d sound.overlay_clean bytes ok each.2;
      transaction_sound = under count transaction c d sound.transaction_sound (clean_kept transaction number c d sound.transaction_sound.clean bytes ok each.1);
      batch_sound = under count batch c d sound.batch_sound (clean_kept batch number c d sound.batch_sound.clean bytes ok each.0);
    }
sound_kept (Err e) count number bytes overlay transaction batch c d ok err none sound = subst (IsSound count overlay transaction batch) (sym err) sound

-- and after a page was read
pub each_read : (P : ℕ → List ℕ → Type 0) (o : Option Change) (number : ℕ) (c : Cache) → EachPage P c → EachPage P (after_read o number c)
each_read P None number c each = each_got P number c each
each_read P (Some change) number c each = each

-- what is put into the cache and forgotten there, where its pages are those in their places
module _ (held : List ℕ) (number : ℕ) where
  pub forget_cached : (c : Cache) → AreInPlace held c → AreInPlace held (after_forget number c)
  forget_cached c cached = record { each = each_forgotten (IsInPlace held) number c cached.each (IsInPlace held) (λ k kept apart own. own) }

  pub forgot_cached : {E : Type 0} (r : Result Unit E) (s t : State) → OnOk r (t.cache ≡ after_forget number s.cache) → OnErr r (t.cache ≡ s.cache) → AreInPlace held s.cache → AreInPlace held t.cache
  forgot_cached (Ok done) s t ok err cached = subst (AreInPlace held) (sym ok) (forget_cached s.cache cached)
  forgot_cached (Err e) s t ok err cached = subst (AreInPlace held) (sym err) cached

  pub kept_cached : (bytes : List ℕ) (c d : Cache) → (d ≡ c) ⊎ (d ≡ after_put number bytes c) → IsInPlace held number bytes → AreInPlace held c → AreInPlace held d
  kept_cached bytes c d (inl same) own cached = subst (AreInPlace held) (sym same) cached
  kept_cached bytes c d (inr put) own cached = subst (AreInPlace held) (sym put) (record { each = each_put (IsInPlace held) number c cached.each bytes own })

  -- what is in memory is what is read
  pub memory_is_read : (s : State) → AreInPlace held s.cache → IsOutsideJournal number → IfSome (in_memory number s) (λ bytes. bytes ≡ read_pages s held number)
  memory_is_read s cached outside =
      here (change_of number s.batch) (change_of number s.transaction) (change_of number s.overlay) (page_of number s.cache.pages) (λ bytes found. cached.each number bytes found outside)
    where
      here : (b t o : Option Change) (p : Option (List ℕ)) → ((bytes : List ℕ) → p ≡ Some bytes → bytes ≡ own_page held number)
          → IfSome (page_or (change_or b (change_or t o)) p) (λ bytes. bytes ≡ changed b (changed t (changed o (own_page held number))))
      here (Some c) t o p each = refl
      here None (Some c) o p each = refl
      here None None (Some c) p each = refl
      here None None None (Some bytes) each = each bytes refl
      here None None None None each = tt

-- a page with no change is what is read
read_unchanged : (b t o : List Entry) (own : ℕ → List ℕ) (k : ℕ) → change_of k b ≡ None → change_of k t ≡ None → change_of k o ≡ None → over b (over t (over o own)) k ≡ own k
read_unchanged b t o own k first second third = λ i. changed (first i) (changed (second i) (changed (third i) (own k)))

-- what an emptied journal leaves of a page that the entries don't free
not_freed : (es : List Entry) (k : ℕ) (a b : List ℕ) → change_of k es ≡ None → SameOrFreed es k a b → b ≡ a
not_freed es k a b none (inl same) = same
not_freed es k a b none (inr freed) = let one = sym none ∙ freed.0 in absurd cc

-- A page of the cache has no change before and after, so what reads as before, but for the heads, has it in its place.
pub cached_next : (s t : State) (bytes : ℕ) (held new : List ℕ) → IsSound s.pages s.overlay s.transaction s.batch s.cache → AreClean t.overlay t.cache → t.cache ≡ s.cache
    → StandsOver t.journal t.overlay new → ReadsButFreed bytes s.overlay (read_pages s held) new → AreInPlace held s.cache → AreInPlace new t.cache
cached_next s t bytes held new sound after same stands reads cached = record {
  each = λ k kept found outside.
      let there : page_of k s.cache.pages ≡ Some kept = ap (λ (c : Cache). page_of k c.pages) (sym same) ∙ found in
      let none = sound.overlay_clean k kept there in
      cached.each k kept there outside
      ∙ sym (read_unchanged s.batch s.transaction s.overlay (own_page held) k (sound.batch_sound.clean k kept there) (sound.transaction_sound.clean k kept there) none)
      ∙ sym (not_freed s.overlay k (read_pages s held k) (pages new k) none (reads.same k))
      ∙ over_pages t.journal t.overlay new stands k
      ∙ ap (λ (o : Option Change). changed o (own_page new k)) (after k kept found);
}

-- The batch is put into the transaction, over an overlay that stays or is emptied.
module _ (count next : ℕ) (old mid transaction batch joined emptied : List Entry) (c : Cache) (sound : IsSound count old transaction batch c) (same : next ≡ count)
    (no_more : (k : ℕ) → change_of k old ≡ None → change_of k mid ≡ None) (is : joined ≡ put_all transaction batch) (none : emptied ≡ []) where
  joined_sound : AreSound count joined c
  joined_sound = subst (λ (es : List Entry). AreSound count es c) (sym is) (record {
    allowed = all_allowed count transaction batch sound.transaction_sound.allowed sound.batch_sound.allowed;
    rising = joined_rising batch transaction 0 (2 ^ 32) sound.transaction_sound.rising sound.batch_sound.rising;
    clean = λ k kept found. put_all_none k transaction batch (sound.transaction_sound.clean k kept found) (sound.batch_sound.clean k kept found);
  })

  pub sound_joined : IsSound next mid joined emptied c
  sound_joined = record {
    overlay_clean = λ k kept found. no_more k (sound.overlay_clean k kept found);
    transaction_sound = subst (λ (n : ℕ). AreSound n joined c) (sym same) joined_sound;
    batch_sound = no_sound next emptied c none;
  }

  -- and then into the overlay
  pub sound_committed : (new gone : List Entry) → new ≡ put_all mid joined → gone ≡ [] → IsSound next new gone emptied c
  sound_committed new gone covers left = record {
    overlay_clean = λ k kept found. ap (change_of k) covers ∙ put_all_none k mid joined (no_more k (sound.overlay_clean k kept found)) (joined_sound.clean k kept found);
    transaction_sound = no_sound next gone c left;
    batch_sound = no_sound next emptied c none;
  }
