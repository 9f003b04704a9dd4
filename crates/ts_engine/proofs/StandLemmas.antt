-- What an engine keeps, and what its volume means.
use Rattle.std.proofs.Common.{◌≡◌, inl, ℕ, Bool, IsTrue, Option, Some, None, List, [], length, refl, ap, sym, ◌∙◌, subst, arith}
use Rattle.ts_disk.specs.Device.{Device, Lawful}
use Rattle.ts_page.proofs.PagesLemmas.{lawful_same}
use Rattle.ts_journal.specs.Journal.{Entry, entries_bytes, over, own_page, page_count, pages}
use Rattle.ts_journal.specs.Moment.{OnlyReads}
use Rattle.ts_store.proofs.CallerLemmas.{reads_none, counted, over_still, idle_reads}
use Rattle.ts_store.specs.OpenBatch.{State as Store, AreInPlace, IsIdle, IsClosed, read_pages, contents_over}
use Rattle.ts_store.specs.OpenBatch.{rolled_back as store_rolled_back}
use Rattle.ts_store.specs.Undisturbed.{Undisturbed}
use Rattle.ts_model.specs.Catalogue.{Catalogue}
use Rattle.ts_layout.specs.Meaning.{Layout, HoldsLayout, Means, catalogue_of}
use Rattle.ts_layout.specs.Placed.{AreKept}
use Rattle.ts_layout.proofs.CallerLemmas.{kept_alike, same_catalogue}
use Rattle.ts_answer.proofs.CallerLemmas.{held_same}
use Rattle.ts_answer.specs.View.{IsSeen}
use Rattle.ts_volume.specs.Volume.{MeansCatalogue}
use Rattle.ts_engine.specs.declared.transaction.Saved.{Saved}
use Rattle.ts_command.specs.declared.command.Command.{Command}
use Rattle.ts_hidden.specs.Hidden.{IsCountShown}
use Rattle.ts_hidden.specs.Marks.{Cover, Include, IsUnmarked}
use Rattle.ts_hidden.proofs.CallerLemmas.{covered_more}
use Rattle.ts_engine.specs.Engine.{Kept, IsKeptOf, AreMarked, IsStanding, IsSmall, seen_by, back_to}
use Rattle.ts_engine.specs.Change.{ReadsAlike, IsStill}
use Rattle.ts_volume.proofs.CallerLemmas.{means_layout}

-- what is kept stays what a layout has
pub kept_same : (e f : Kept) (l : Layout) → IsKeptOf e l → f.tables.definitions ≡ e.tables.definitions → f.space.lists ≡ e.space.lists → f.store.pages ≡ e.store.pages → f.store.free ≡ e.store.free → IsKeptOf f l
kept_same e f l kept definitions lists pages free =
    held_same e.tables.definitions f.tables.definitions e.space f.space e.store.pages f.store.pages e.store.free f.store.free l kept definitions lists pages free

pub rules_same : (e f : Kept) → AreKept e.tables.definitions e.space e.store.free e.store.pages → f.tables.definitions ≡ e.tables.definitions → f.space.lists ≡ e.space.lists → f.store.pages ≡ e.store.pages → f.store.free ≡ e.store.free → AreKept f.tables.definitions f.space f.store.free f.store.pages
rules_same e f kept definitions lists pages free = kept_alike e.tables.definitions f.tables.definitions e.space f.space e.store.free f.store.free e.store.pages f.store.pages kept definitions lists free pages

-- and so is all that is seen, where the same is read
pub seen_same : (tells : Bool) (e f : Kept) (v w : Device) → IsSeen tells (seen_by e v) → f.tables.definitions ≡ e.tables.definitions → f.space.lists ≡ e.space.lists → f.store.pages ≡ e.store.pages → f.store.free ≡ e.store.free
    → ((number : ℕ) → read_pages f.store w.held number ≡ read_pages e.store v.held number) → IsSeen tells (seen_by f w)
seen_same tells e f v w seen definitions lists pages free same = record {
  kept = rules_same e f seen.kept definitions lists pages free;
  layout = λ told.
      let known = seen.layout told in (
        known.0,
        record {
          kept = kept_same e f known.0 known.1.kept definitions lists pages free;
          holds = λ t. subst (λ (p : ℕ → List ℕ). HoldsLayout p known.0) (sym (λ i k. same k i)) (known.1.holds t);
        },
      );
}

-- where the same is read, marks cover what it means, and so do more
pub marked_same : (tells : Bool) (e f : Kept) (v w : Device) → AreMarked tells e v → Include f.hidden e.hidden → f.store.pages ≡ e.store.pages → ((number : ℕ) → read_pages f.store w.held number ≡ read_pages e.store v.held number) → AreMarked tells f w
marked_same tells e f v w marked more pages same told cat means =
    covered_more e.hidden f.hidden cat more
    (marked told cat (subst (λ (n : ℕ). Means n (read_pages e.store v.held) cat) pages (subst (λ (p : ℕ → List ℕ). Means f.store.pages p cat) (λ i k. same k i) means)))

-- A store over which nothing was written.
module _ (tells : Bool) (s t : Store) (v w : Device) (still : IsStill tells s t v w) where
  pub still_reads : (k : ℕ) → read_pages t w.held k ≡ read_pages s v.held k
  still_reads k = λ i. over (still.batch i) (over (still.calls.transaction i) (over (still.calls.overlay i) (own_page (still.calls.reads.held i)))) k

  pub still_idle : IsIdle tells s v → IsIdle tells t w
  still_idle idle = record {
    over = over_still tells s t v w idle.over still.calls
        (lawful_same tells (contents_over s v) (contents_over t w) idle.over.read.lawful still.calls.pages (λ told k. still_reads k) still.free);
    batch = still.batch ∙ idle.batch;
    kept_free = still.calls.kept_free ∙ idle.kept_free ∙ sym still.free;
  }

  pub still_closed : IsClosed s → IsClosed t
  still_closed closed = record {
    transaction = still.calls.transaction ∙ closed.transaction;
    base_free = still.calls.base_free ∙ closed.base_free ∙ sym still.free;
  }

  -- what it changes is as small
  pub still_small : (accepted : ℕ) → IsSmall accepted (contents_over (store_rolled_back s) v) (contents_over s v) → IsSmall accepted (contents_over (store_rolled_back t) w) (contents_over t w)
  still_small accepted small = record {
    few = small.few;
    grown = omega (
      arith,
      small.grown,
      ap (λ (es : List Entry). length (entries_bytes es)) still.calls.transaction,
      ap (λ (es : List Entry). length (entries_bytes es)) still.batch,
      ap (λ (ns : List ℕ). length ns) still.free,
      ap (λ (ns : List ℕ). length ns) still.calls.base_free,
    );
  }

-- nothing is done
pub still_none : (tells : Bool) (s : Store) (v : Device) → Lawful tells v → IsStill tells s s v v
still_none tells s v lawful = record {
  calls = record { pages = refl; journal = refl; overlay = refl; transaction = refl; kept_free = refl; base_free = refl; reads = reads_none tells v lawful; cached = λ told now. now };
  batch = refl;
  free = refl;
  no_fault = refl;
}

-- a batch in which pages were read is dropped
pub still_dropped : (tells : Bool) (s t u : Store) (v w : Device) → IsIdle tells s v → Undisturbed tells s t v w → u ≡ record t { batch = []; free = t.kept_free } → w.faults ≡ v.faults → IsStill tells s u v w
still_dropped tells s t u v w idle calls dropped no_fault =
    subst (λ (x : Store). IsStill tells s x v w) (sym dropped)
    (record {
      calls = record { pages = calls.pages; journal = calls.journal; overlay = calls.overlay; transaction = calls.transaction; kept_free = calls.kept_free; base_free = calls.base_free; reads = calls.reads; cached = calls.cached };
      batch = sym idle.batch;
      free = calls.kept_free ∙ idle.kept_free;
      no_fault = no_fault;
    })

-- what a rollback goes back to stays
pub still_back : (tells : Bool) (s t : Store) (v w : Device) → t.pages ≡ s.pages → t.journal ≡ s.journal → t.overlay ≡ s.overlay → t.base_free ≡ s.base_free → OnlyReads tells v w
    → (IsTrue tells → AreInPlace v.held s.cache → AreInPlace w.held t.cache) → w.faults ≡ v.faults → IsStill tells (store_rolled_back s) (store_rolled_back t) v w
still_back tells s t v w pages journal overlay base_free reads cached no_fault = record {
  calls = record { pages = pages; journal = journal; overlay = overlay; transaction = refl; kept_free = base_free; base_free = base_free; reads = reads; cached = cached };
  batch = refl;
  free = base_free;
  no_fault = no_fault;
}

-- what stands stands still where nothing is written
pub standing_still : (tells : Bool) (e f : Kept) (v w : Device) → IsStanding tells e v → IsStill tells e.store f.store v w → f.tables.definitions ≡ e.tables.definitions → f.space.lists ≡ e.space.lists → Include f.hidden e.hidden → IsStanding tells f w
standing_still tells e f v w standing still definitions lists more = record {
  idle = still_idle tells e.store f.store v w still standing.idle;
  seen = seen_same tells e f v w standing.seen definitions lists still.calls.pages still.free (still_reads tells e.store f.store v w still);
  marked = marked_same tells e f v w standing.marked more still.calls.pages (still_reads tells e.store f.store v w still);
}

-- the copies of two engines are the same
abbrev pub SameCopies : Option Saved → Option Saved → Type 0
SameCopies None None = Unit {0}
SameCopies None (Some b) = ⊥
SameCopies (Some a) None = ⊥
SameCopies (Some a) (Some b) = (b.defs.definitions ≡ a.defs.definitions) × (b.space.lists ≡ a.space.lists)

pub same_copies : (o : Option Saved) → SameCopies o o
same_copies None = tt
same_copies (Some a) = (refl, refl)

-- the base stands still while work goes on; where none is open, it is that work
pub base_still : (tells : Bool) (e f : Kept) (v w : Device) (o p : Option Saved) → SameCopies o p → IsStill tells (store_rolled_back e.store) (store_rolled_back f.store) v w → Include f.hidden e.hidden → (p ≡ None → IsStanding tells f w)
    → IsStanding tells (back_to e o) v → IsStanding tells (back_to f p) w
base_still tells e f v w None None same back more now base = now refl
base_still tells e f v w None (Some b) same back more now base = absurd same
base_still tells e f v w (Some a) None same back more now base = absurd same
base_still tells e f v w (Some a) (Some b) same back more now base =
    standing_still tells (back_to e (Some a)) (back_to f (Some b)) v w base back same.0 same.1 more

-- The layout that is seen is the one of what the pages mean.
pub seen_means : (tells : Bool) (e : Kept) (v : Device) (seen : IsSeen tells (seen_by e v)) (told : IsTrue tells) → Means e.store.pages (read_pages e.store v.held) (catalogue_of (seen.layout told).0)
seen_means tells e v seen told =
    let known = seen.layout told in
    (known.0, record { size = known.1.kept.size; bytes = known.1.holds told; rules = known.1.kept.rules }, refl)

pub one_layout : (tells : Bool) (e : Kept) (v : Device) (seen : IsSeen tells (seen_by e v)) (told : IsTrue tells) (cat : Catalogue) → Means e.store.pages (read_pages e.store v.held) cat → cat ≡ catalogue_of (seen.layout told).0
one_layout tells e v seen told cat means = same_catalogue e.store.pages (read_pages e.store v.held) cat (catalogue_of (seen.layout told).0) means (seen_means tells e v seen told)

-- marks that cover the catalogue of the layout that is seen cover what the pages mean
pub marked_of : (tells : Bool) (e : Kept) (v : Device) (seen : IsSeen tells (seen_by e v)) → ((told : IsTrue tells) → Cover e.hidden (catalogue_of (seen.layout told).0)) → AreMarked tells e v
marked_of tells e v seen cover told cat means = subst (Cover e.hidden) (sym (one_layout tells e v seen told cat means)) (cover told)

-- where a command counts the entries of a series that isn't marked, none of its elements is hidden
pub count_shown : (tells shown : Bool) (command : Command) (e : Kept) (marks : List (List ℕ)) (v : Device) → AreMarked tells e v → Include marks e.hidden → IsUnmarked shown command marks → IsCountShown shown tells command (seen_by e v)
count_shown tells shown command e marks v marked more unmarked key counts told_so told l shows =
    marked told (catalogue_of l) (l, record { size = shows.kept.size; bytes = shows.holds told; rules = shows.kept.rules }, refl) key (more key (unmarked told_so key counts))

-- With no transaction, the pages that are read are those of the volume.
module _ (tells : Bool) (s : Store) (v : Device) (lawful : Lawful tells v) (idle : IsIdle tells s v) (closed : IsClosed s) (told : IsTrue tells) where
  same_count : page_count (length v.held) ≡ s.pages
  same_count = ap page_count (lawful.size told) ∙ counted v.size s.pages idle.over.read.size

  same_pages : read_pages s v.held ≡ pages v.held
  same_pages = λ i k. idle_reads tells s v idle closed told k i

  -- what they mean is what it means
  pub read_means : (cat : Catalogue) → MeansCatalogue v.held cat → Means s.pages (read_pages s v.held) cat
  unfolding same_count same_pages
  read_means cat means =
      subst (λ (n : ℕ). Means n (read_pages s v.held) cat) same_count (subst (λ (p : ℕ → List ℕ). Means (page_count (length v.held)) p cat) (sym same_pages) means.pages)

-- bytes that read as the pages of an idle store mean what these mean
pub means_alike : (tells : Bool) (s : Store) (v : Device) (cat : Catalogue) → IsIdle tells s v → (image : List ℕ) → Means s.pages (read_pages s v.held) cat → ReadsAlike v.size (read_pages s v.held) image → MeansCatalogue image cat
means_alike tells s v cat idle image means reads =
    let laid = means.1 in
    subst (MeansCatalogue image) (sym means.2)
    (means_layout v.size (read_pages s v.held) image means.0 idle.over.read.volume reads.size reads.sound reads.alike (counted v.size s.pages idle.over.read.size ∙ laid.size) laid.bytes laid.rules)

-- and so do those of the volume, where no transaction is open
pub means_held : (tells : Bool) (s : Store) (v : Device) (cat : Catalogue) → Lawful tells v → IsIdle tells s v → IsClosed s → IsTrue tells → Means s.pages (read_pages s v.held) cat → MeansCatalogue v.held cat
means_held tells s v cat lawful idle closed told means =
    means_alike tells s v cat idle v.held means (record {
      size = lawful.size told;
      sound = ((idle.over.read.stands told).rs, (idle.over.read.stands told).stands.records);
      alike = λ k. inl (sym (idle_reads tells s v idle closed told k));
    })
