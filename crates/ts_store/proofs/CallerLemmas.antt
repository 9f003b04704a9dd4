-- What a caller needs between the calls of a store.
use Rattle.std.proofs.Common.{◌≡◌, ℕ, ◌*◌, ◌<◌, ◌≤◌, Bool, IsTrue, Some, List, [], length, refl, ap, sym, ◌∙◌, subst, arith}
use Rattle.ts_disk.specs.Device.{Device, Only}
use Rattle.ts_page.specs.Pages.{IsLawful, SameButFreed, first_element_page}
use Rattle.ts_page.proofs.PagesLemmas.{lawful_same, same_trans, same_from_equal}
use Rattle.ts_journal.specs.Journal.{Entry, AreAllowed, entries_bytes, over, put_all, IsVolumeSize, page_count, own_page, records, pages, StandsOver, ReadsButFreed}
use Rattle.ts_journal.specs.Moment.{OnlyReads}
use Rattle.ts_recover.proofs.CallerLemmas.{still_only}
use Rattle.ts_cache.proofs.CallerLemmas.{none_has}
use Rattle.ts_store.specs.OpenBatch.{State, IsInPlace, AreInPlace, IsReadOver, IsOver, IsIdle, IsClosed, IsFresh, Closes, cache_pages, to_commit, committed_pages, read_pages, rolled_back, contents_over}
use Rattle.ts_store.specs.Undisturbed.{Undisturbed}
pub use Rattle.ts_journal.proofs.CallerLemmas.{keeps_refl, keeps_then}
pub use Rattle.ts_recover.proofs.CallerLemmas.{reads_none, reads_then}
pub use Rattle.ts_store.proofs.ReadLemmas.{read_closed, same_but_freed}
use Rattle.ts_store.proofs.CommitLemmas.{over_same}
pub use Rattle.ts_store.proofs.JoinLemmas.{joined_bytes, joined_alone, none_joined}
pub use Rattle.ts_store.proofs.CommitLemmas.{counted}

-- a store whose journal was just read can be read over its volume
pub read_fresh : (tells : Bool) (count position : ℕ) (entries : List Entry) (s : State) (d : Device) → IsFresh count position entries s → d.size ≡ 4096 * count → IsVolumeSize d.size
    → (IsTrue tells → StandsOver position entries d.held) → AreAllowed count entries → IsReadOver tells s d
read_fresh tells count position entries s d fresh size volume stands allowed = record {
  size = size ∙ ap (λ (n : ℕ). 4096 * n) (sym fresh.pages);
  volume = volume;
  stands = λ told. subst (λ (p : ℕ). StandsOver p s.overlay d.held) (sym fresh.journal) (subst (λ (es : List Entry). StandsOver position es d.held) (sym fresh.overlay) (stands told));
  allowed = subst (λ (n : ℕ). AreAllowed n s.overlay) (sym fresh.pages) (subst (AreAllowed count) (sym fresh.overlay) allowed);
  lawful = record {
    different = λ i j e before within same. none_within j within;
    listed = λ k e within. absurd (none_within k within);
  };
  cached = λ told. subst (AreInPlace d.held) (sym fresh.cache) (record { each = none_has (IsInPlace d.held) cache_pages });
}
  where
    none_within : (k : ℕ) → k < length s.free → ⊥
    none_within k within = omega (arith, within, ap length fresh.free)

-- so can one whose journal was read from it
pub read_recovered : (tells : Bool) (count position : ℕ) (entries : List Entry) (s : State) (v w : Device) → IsFresh count position entries s → OnlyReads tells v w → v.size ≡ 4096 * count → IsVolumeSize v.size
    → (IsTrue tells → StandsOver position entries v.held) → AreAllowed (page_count v.size) entries → IsReadOver tells s w
read_recovered tells count position entries s v w fresh reads size volume stands allowed =
    read_fresh tells count position entries s w fresh (reads.keeps.size ∙ size) (subst IsVolumeSize (sym reads.keeps.size) volume)
    (λ told. subst (StandsOver position entries) (sym reads.held) (stands told)) (subst (λ (n : ℕ). AreAllowed n entries) (counted v.size count size) allowed)

-- where nothing is pending there, it is over its volume
pub over_recovered : (tells : Bool) (count position : ℕ) (entries : List Entry) (s : State) (v w : Device) → IsFresh count position entries s → OnlyReads tells v w → v.size ≡ 4096 * count → IsVolumeSize v.size
    → Only v.held v.images → (IsTrue tells → StandsOver position entries v.held) → AreAllowed (page_count v.size) entries → IsOver tells s w
over_recovered tells count position entries s v w fresh reads size volume settled stands allowed =
    record { read = read_recovered tells count position entries s v w fresh reads size volume stands allowed; settled = still_only tells v w reads settled }

-- calls on an open batch leave a store readable over its volume
pub read_still : (tells : Bool) (s t : State) (v w : Device) → IsReadOver tells s v → Undisturbed tells s t v w → IsLawful tells (contents_over t w) → IsReadOver tells t w
read_still tells s t v w over calls lawful = record {
  size = calls.reads.keeps.size ∙ over.size ∙ ap (λ (n : ℕ). 4096 * n) (sym calls.pages);
  volume = subst IsVolumeSize (sym calls.reads.keeps.size) over.volume;
  stands = λ told. subst (λ (p : ℕ). StandsOver p t.overlay w.held) (sym calls.journal) (subst (λ (es : List Entry). StandsOver s.journal es w.held) (sym calls.overlay) (subst (StandsOver s.journal s.overlay) (sym calls.reads.held) (over.stands told)));
  allowed = subst (λ (n : ℕ). AreAllowed n t.overlay) (sym calls.pages) (subst (AreAllowed s.pages) (sym calls.overlay) over.allowed);
  lawful = lawful;
  cached = λ told. calls.cached told (over.cached told);
}

-- and over it, if it was
pub over_still : (tells : Bool) (s t : State) (v w : Device) → IsOver tells s v → Undisturbed tells s t v w → IsLawful tells (contents_over t w) → IsOver tells t w
over_still tells s t v w over calls lawful =
    record { read = read_still tells s t v w over.read calls lawful; settled = still_only tells v w calls.reads over.settled }

-- so does the taking of memory
pub over_prepared : (tells : Bool) (s t : State) (d : Device) → t ≡ record s { spare = t.spare; join_spare = t.join_spare } → IsOver tells s d → IsOver tells t d
over_prepared tells s t d is over =
    subst (λ (x : State). IsOver tells x d) (sym is)
    (record {
      read = record { size = over.read.size; volume = over.read.volume; stands = over.read.stands; allowed = over.read.allowed; lawful = over.read.lawful; cached = over.read.cached };
      settled = over.settled;
    })

-- each volume has an element page
pub first_element : (tells : Bool) (s : State) (d : Device) → IsOver tells s d → first_element_page < s.pages
first_element tells s d over = omega (arith, over.read.size, over.read.volume.1, over.read.volume.3)

-- once their batch is dropped, the pages and those that can be taken are as they were
pub read_dropped : (tells : Bool) (s t : State) (v w : Device) → Undisturbed tells s t v w → s.batch ≡ [] → (k : ℕ) → read_pages (record t { batch = []; free = t.kept_free }) w.held k ≡ read_pages s v.held k
read_dropped tells s t v w calls none k = λ i. read_pages (record s { batch = sym none i; transaction = calls.transaction i; overlay = calls.overlay i }) (calls.reads.held i) k

pub over_dropped : (tells : Bool) (s t u : State) (v w : Device) → IsOver tells s v → Undisturbed tells s t v w → s.batch ≡ [] → s.free ≡ s.kept_free → u ≡ record t { batch = []; free = t.kept_free } → IsOver tells u w
over_dropped tells s t u v w over calls none kept dropped =
    let back : State = record t { batch = []; free = t.kept_free } in
    subst (λ (x : State). IsOver tells x w) (sym dropped)
    (over_still tells s back v w over (record { pages = calls.pages; journal = calls.journal; overlay = calls.overlay; transaction = calls.transaction; kept_free = calls.kept_free; base_free = calls.base_free; reads = calls.reads; cached = calls.cached })
    (lawful_same tells (contents_over s v) (contents_over back w) over.read.lawful calls.pages (λ told k. read_dropped tells s t v w calls none k) (calls.kept_free ∙ sym kept)))

-- after a commit the pages are those that were read in its batch, but for what the emptying of the journal may change
pub read_committed : (tells : Bool) (told : IsTrue tells) (s t : State) (v w : Device) → IsOver tells s v → t.transaction ≡ [] → t.batch ≡ [] → IsOver tells t w → ReadsButFreed v.size s.overlay (read_pages s v.held) w.held
    → SameButFreed (read_pages s v.held) (read_pages t w.held)
read_committed tells told s t v w before closed none over reads =
    same_trans (read_pages s v.held) (pages w.held) (read_pages t w.held) (same_but_freed s.pages v.size s.overlay (read_pages s v.held) w.held before.read.allowed reads)
    (same_from_equal (pages w.held) (read_pages t w.held) (λ k. read_closed t w.held closed none (over.read.stands told) k))

-- a store whose journal was just read has no batch open
pub idle_recovered : (tells : Bool) (count position : ℕ) (entries : List Entry) (s : State) (d : Device) → IsFresh count position entries s → IsOver tells s d → IsIdle tells s d
idle_recovered tells count position entries s d fresh over = record { over = over; batch = fresh.batch; kept_free = fresh.kept_free ∙ sym fresh.free }

pub idle_closed : (tells : Bool) (s t : State) (d : Device) → Closes s t → IsOver tells t d → IsIdle tells t d
idle_closed tells s t d closes over = record { over = over; batch = closes.batch; kept_free = closes.kept_free ∙ sym closes.free }

pub idle_dropped : (tells : Bool) (s t u : State) (v w : Device) → IsIdle tells s v → Undisturbed tells s t v w → u ≡ record t { batch = []; free = t.kept_free } → IsIdle tells u w
idle_dropped tells s t u v w idle calls dropped = record {
  over = over_dropped tells s t u v w idle.over calls idle.batch (sym idle.kept_free) dropped;
  batch = ap (λ (x : State). x.batch) dropped;
  kept_free = ap (λ (x : State). x.kept_free) dropped ∙ sym (ap (λ (x : State). x.free) dropped);
}

-- What a caller takes from a store that is over its volume.
module _ (tells : Bool) (s : State) (v : Device) (over : IsOver tells s v) where
  -- the volume has as many pages as the store
  pub over_counted : page_count v.size ≡ s.pages
  over_counted = counted v.size s.pages over.read.size

  -- no record of its journal is malformed
  pub over_sound : IsTrue tells → (rs : List (List Entry)) × (records v.held ≡ Some rs)
  over_sound told = ((over.read.stands told).rs, (over.read.stands told).stands.records)

  -- a stop leaves the bytes that are held
  pub over_only : (image : List ℕ) → v.images image → image ≡ v.held
  over_only image now = over.settled image now

  -- what reads as some pages, but for the heads of the pages that the overlay frees, differs from them behind the heads of free pages alone
  pub over_alike : (wanted : ℕ → List ℕ) (image : List ℕ) → ReadsButFreed v.size s.overlay wanted image → SameButFreed wanted (pages image)
  over_alike wanted image reads = same_but_freed s.pages v.size s.overlay wanted image over.read.allowed reads

  -- so it is once the volume did something that leaves its bytes, as a say
  pub over_kept : (w : Device) → w.size ≡ v.size → w.held ≡ v.held → ((image : List ℕ) → w.images image → v.images image) → IsOver tells s w
  over_kept w size held within = record {
    read = record {
      size = size ∙ over.read.size;
      volume = subst IsVolumeSize (sym size) over.read.volume;
      stands = λ told. subst (StandsOver s.journal s.overlay) (sym held) (over.read.stands told);
      allowed = over.read.allowed;
      lawful = lawful_same tells (contents_over s v) (contents_over s w) over.read.lawful refl (λ told k. ap (λ (bytes : List ℕ). read_pages s bytes k) held) refl;
      cached = λ told. subst (λ (bytes : List ℕ). AreInPlace bytes s.cache) (sym held) (over.read.cached told);
    };
    settled = λ image now. over.settled image (within image now) ∙ sym held;
  }

-- between two batches, where no transaction is open, the pages that are read are those of the volume
pub idle_reads : (tells : Bool) (s : State) (d : Device) → IsIdle tells s d → IsClosed s → IsTrue tells → (k : ℕ) → read_pages s d.held k ≡ pages d.held k
idle_reads tells s d idle closed told k = read_closed s d.held closed.transaction idle.batch (idle.over.read.stands told) k

-- no transaction is open where a journal was just read, nor after a commit
pub closed_recovered : (count position : ℕ) (entries : List Entry) (s : State) → IsFresh count position entries s → IsClosed s
closed_recovered count position entries s fresh = record { transaction = fresh.transaction; base_free = fresh.base_free ∙ sym fresh.free }

pub closed_committed : (s t : State) → Closes s t → IsClosed t
closed_committed s t closes = record { transaction = closes.transaction; base_free = closes.base_free ∙ sym closes.free }

-- nor after calls on a batch that was dropped, where none was before
pub closed_dropped : (tells : Bool) (s t u : State) (v w : Device) → IsClosed s → s.kept_free ≡ s.free → Undisturbed tells s t v w → u ≡ record t { batch = []; free = t.kept_free } → IsClosed u
closed_dropped tells s t u v w closed kept calls dropped = record {
  transaction = ap (λ (x : State). x.transaction) dropped ∙ calls.transaction ∙ closed.transaction;
  base_free = ap (λ (x : State). x.base_free) dropped ∙ calls.base_free ∙ closed.base_free ∙ sym kept ∙ sym calls.kept_free ∙ sym (ap (λ (x : State). x.free) dropped);
}

-- with no batch and no transaction nothing is to be committed
pub none_to_commit : (s : State) → s.transaction ≡ [] → s.batch ≡ [] → to_commit s ≡ []
none_to_commit s closed none = λ i. put_all (closed i) (none i)

-- what is to be committed takes at most the bytes that a keeper of pages counts
pub commit_bytes : (s : State) (d : Device) → length (entries_bytes (to_commit s)) ≤ (contents_over s d).change_bytes
commit_bytes s d = joined_bytes s.transaction s.batch

-- Where no transaction is open, the batch alone is over the pages that were committed.
pub read_alone : (s : State) (held : List ℕ) → s.transaction ≡ [] → (k : ℕ) → read_pages s held k ≡ over s.batch (committed_pages s held) k
read_alone s held closed k = λ i. over s.batch (over (closed i) (committed_pages s held)) k

-- A keep leaves the pages that are read, and counts no more bytes of changes.
module _ (tells : Bool) (s t : State) (d : Device) (is : t ≡ record s { transaction = to_commit s; batch = []; kept_free = s.free; join_spare = t.join_spare })
    (same : (held : List ℕ) → (k : ℕ) → read_pages t held k ≡ read_pages s held k) where
  pub over_joined : IsOver tells s d → IsOver tells t d
  over_joined over = over_same tells s t d over (ap (λ (x : State). x.pages) is) (ap (λ (x : State). x.journal) is) (ap (λ (x : State). x.overlay) is) (ap (λ (x : State). x.cache) is) (ap (λ (x : State). x.free) is) (same d.held)

  pub idle_joined : IsOver tells s d → IsIdle tells t d
  idle_joined over = record {
    over = over_joined over;
    batch = ap (λ (x : State). x.batch) is;
    kept_free = ap (λ (x : State). x.kept_free) is ∙ sym (ap (λ (x : State). x.free) is);
  }

  pub joined_counts : (contents_over t d).change_bytes ≤ (contents_over s d).change_bytes
  joined_counts = omega (arith, joined_bytes s.transaction s.batch, ap (λ (x : State). length (entries_bytes x.transaction)) is, ap (λ (x : State). length (entries_bytes x.batch)) is)

-- What a rollback goes back to stays over its volume: while calls are made on a batch, memory is taken for its end, and it is dropped
-- or kept.
pub base_still : (tells : Bool) (s t : State) (v w : Device) → IsOver tells (rolled_back s) v → Undisturbed tells s t v w → IsOver tells (rolled_back t) w
base_still tells s t v w base calls =
    over_still tells (rolled_back s) (rolled_back t) v w base
    (record { pages = calls.pages; journal = calls.journal; overlay = calls.overlay; transaction = refl; kept_free = calls.base_free; base_free = calls.base_free; reads = calls.reads; cached = calls.cached })
    (lawful_same tells (contents_over (rolled_back s) v) (contents_over (rolled_back t) w) base.read.lawful calls.pages (λ told k i. over (calls.overlay i) (own_page (calls.reads.held i)) k) calls.base_free)

pub base_prepared : (tells : Bool) (s t : State) (d : Device) → t ≡ record s { spare = t.spare; join_spare = t.join_spare } → IsOver tells (rolled_back s) d → IsOver tells (rolled_back t) d
base_prepared tells s t d is base = over_prepared tells (rolled_back s) (rolled_back t) d (ap rolled_back is) base

pub base_dropped : (tells : Bool) (t u : State) (d : Device) → u ≡ record t { batch = []; free = t.kept_free } → IsOver tells (rolled_back t) d → IsOver tells (rolled_back u) d
base_dropped tells t u d is base = subst (λ (x : State). IsOver tells x d) (sym (ap rolled_back is)) base

pub base_joined : (tells : Bool) (s t : State) (d : Device) → t ≡ record s { transaction = to_commit s; batch = []; kept_free = s.free; join_spare = t.join_spare } → IsOver tells (rolled_back s) d → IsOver tells (rolled_back t) d
base_joined tells s t d is base =
    over_same tells (rolled_back s) (rolled_back t) d base (ap (λ (x : State). x.pages) is) (ap (λ (x : State). x.journal) is) (ap (λ (x : State). x.overlay) is) (ap (λ (x : State). x.cache) is) (ap (λ (x : State). x.base_free) is)
    (λ k. ap (λ (x : State). committed_pages x d.held k) is)

-- where none is open, it is the store itself
pub rolled_back_closed : (tells : Bool) (s : State) (d : Device) → IsIdle tells s d → IsClosed s → rolled_back s ≡ s
rolled_back_closed tells s d idle closed =
    λ i. record s { transaction = sym closed.transaction i; batch = sym idle.batch i; free = closed.base_free i; kept_free = (closed.base_free ∙ sym idle.kept_free) i }

-- its pages are those that were committed
pub read_rolled_back : (s : State) (held : List ℕ) (k : ℕ) → read_pages (rolled_back s) held k ≡ committed_pages s held k
read_rolled_back s held k = refl

-- once it was rolled back, the store is over its volume, no batch and no transaction is open
module _ (tells : Bool) (s t : State) (d : Device) (is : t ≡ record (rolled_back s) { join_spare = t.join_spare }) where
  pub over_rolled_back : IsOver tells (rolled_back s) d → IsOver tells t d
  over_rolled_back over = over_same tells (rolled_back s) t d over (ap (λ (x : State). x.pages) is) (ap (λ (x : State). x.journal) is) (ap (λ (x : State). x.overlay) is) (ap (λ (x : State). x.cache) is) (ap (λ (x : State). x.free) is)
      (λ k. ap (λ (x : State). read_pages x d.held k) is)

  pub idle_rolled_back : IsOver tells (rolled_back s) d → IsIdle tells t d
  idle_rolled_back over =
      record { over = over_rolled_back over; batch = ap (λ (x : State). x.batch) is; kept_free = ap (λ (x : State). x.kept_free) is ∙ sym (ap (λ (x : State). x.free) is) }

  pub closed_rolled_back : IsClosed t
  closed_rolled_back = record { transaction = ap (λ (x : State). x.transaction) is; base_free = ap (λ (x : State). x.base_free) is ∙ sym (ap (λ (x : State). x.free) is) }
