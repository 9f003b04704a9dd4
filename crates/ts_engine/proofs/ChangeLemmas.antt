-- A change: work in an open batch, its end, and what a stop within it leaves.
use Rattle.std.specs.declared.alloc.AllocError.{AllocError}
use Rattle.std.proofs.Common.{◌≡◌, ◌⊎◌, inl, inr, ⊎_elim, ℕ, ◌≤◌, Bool, IsTrue, Some, None, Result, Ok, Err, IsOk, OnOk, List, [], refl, ap, sym, ◌∙◌, subst, arith}
use Rattle.ts_base.specs.declared.fault.StoreFault.{StoreFault}
use Rattle.ts_base.specs.declared.fault.StoreFault.TheVariants.{Failed as StoreFailed}
use Rattle.ts_disk.specs.Device.{Device, Lawful, Rose, LeavesOnly}
use Rattle.ts_disk.proofs.Moments.{started, then_on, leaves_map}
use Rattle.ts_page.specs.Pages.{Contents, SameButFreed}
use Rattle.ts_journal.specs.Journal.{pages, ReadsButFreed}
use Rattle.ts_journal.specs.Moment.{Keeps, OnlyReads}
use Rattle.ts_store.proofs.CallerLemmas.{keeps_refl, keeps_then, reads_then, reads_none, read_closed, same_but_freed, read_committed, closed_committed}
use Rattle.ts_store.specs.OpenBatch.{State, AreInPlace, IsOver, IsIdle, IsClosed, Closes, BeforeOrRead, read_pages, contents_over}
use Rattle.ts_store.specs.Undisturbed.{Undisturbed}
use Rattle.ts_engine.specs.declared.fault.StepFault.{StepFault}
use Rattle.ts_engine.specs.declared.fault.StepFault.TheVariants.{Disk, Memory, Closed}
use Rattle.ts_engine.specs.Engine.{Kept}
use Rattle.ts_engine.specs.Change.{ReadsAlike, Dropped, FinishLeaves, Finished, IsStill, ChangeLeaves, Changed}
use Rattle.ts_engine.proofs.OpenLemmas.{rose_on}

-- a fact that a call gives where it answers Ok
on_ok : {E : Type 0} (r : Result Unit E) (P : Type 0) → IsOk r → OnOk r P → P
on_ok (Ok done) P ok holds = holds
on_ok (Err e) P ok holds = absurd (cc)

-- bytes of which an emptied journal leaves the pages
alike_but_freed : (tells : Bool) (s : State) (v : Device) (wanted : ℕ → List ℕ) (image : List ℕ) → IsOver tells s v → ReadsButFreed v.size s.overlay wanted image → ReadsAlike v.size wanted image
alike_but_freed tells s v wanted image over reads = record { size = reads.size; sound = reads.sound; alike = same_but_freed s.pages v.size s.overlay wanted image over.read.allowed reads }

-- a commit of a batch on which the work was done
module _ (tells : Bool) (e f : Kept) (v w : Device) (before : IsOver tells e.store v) (moments : IsTrue tells → LeavesOnly v w (BeforeOrRead e.store v)) (keeps : Keeps tells v w) where
  finish_moments : IsTrue tells → LeavesOnly v w (FinishLeaves (Ok tt) e.store v)
  finish_moments told =
      leaves_map v w (BeforeOrRead e.store v) (FinishLeaves (Ok tt) e.store v)
      (λ image said now. (
        ⊎_elim (λ old. inl (alike_but_freed tells e.store v (pages v.held) image before old))
            (λ new. inr (refl, alike_but_freed tells e.store v (read_pages e.store v.held) image before new)) now.0,
        now.1,
      )) (moments told)

  pub committed : (tables : f.tables ≡ e.tables) → (space : f.space ≡ e.space) → (charges : f.charges ≡ e.charges) → (hidden : f.hidden ≡ e.hidden) → (saved : f.saved ≡ e.saved) → (spent : f.spent ≡ e.spent) → Closes e.store f.store → IsOver tells f.store w
      → (IsTrue tells → ReadsButFreed v.size e.store.overlay (read_pages e.store v.held) w.held) → w.faults ≡ v.faults → Finished tells (Ok tt) (Ok tt) e f v w
  committed tables space charges hidden saved spent closes over reads no_fault = record {
    tables = tables;
    space = space;
    charges = charges;
    hidden = hidden;
    saved = saved;
    done = refl;
    over = over;
    count = closes.pages;
    batch = closes.batch;
    free = closes.free;
    kept_free = closes.kept_free;
    closed = closed_committed e.store f.store closes;
    spent = spent;
    alike = λ told. read_committed tells told e.store f.store v w before closes.transaction closes.batch over (reads told);
    fault = tt;
    tried = inr refl;
    moments = finish_moments;
    others = keeps;
    no_fault = no_fault;
  }

  pub uncommitted : (tables : f.tables ≡ e.tables) → (space : f.space ≡ e.space) → (charges : f.charges ≡ e.charges) → (hidden : f.hidden ≡ e.hidden) → (saved : f.saved ≡ e.saved) → (spent : f.spent ≡ Some w.faults) → Rose v.faults w.faults → Finished tells (Ok tt) (Err Disk) e f v w
  uncommitted tables space charges hidden saved spent rose = record {
    tables = tables;
    space = space;
    charges = charges;
    hidden = hidden;
    saved = saved;
    done = tt;
    over = tt;
    count = tt;
    batch = tt;
    free = tt;
    kept_free = tt;
    closed = tt;
    spent = tt;
    alike = tt;
    fault = (inl rose, spent, keeps.faults);
    tried = inr refl;
    moments = finish_moments;
    others = keeps;
    no_fault = tt;
  }

-- work that was done
is_done : {E : Type 0} (r : Result Unit E) → IsOk r → r ≡ Ok tt
is_done (Ok done) ok = refl
is_done (Err e) ok = absurd (cc)

-- it didn't fail
not_failed : (r : Result Unit StoreFault) → IsOk r → r ≡ Err StoreFailed → ⊥
not_failed r ok failed = cc

-- taking memory before changes nothing
module _ (tells : Bool) (worked : Result Unit StoreFault) (done : IsOk worked) (e g f : Kept) (v w : Device) (is : g ≡ record e { store = record e.store { spare = g.store.spare; join_spare = g.store.join_spare } }) where
  same_finish : (result : Result Unit StepFault) → Finished tells (Ok tt) result (record e { store = record e.store { spare = g.store.spare; join_spare = g.store.join_spare } }) f v w → Finished tells (Ok tt) result e f v w
  same_finish (Ok done) x = record {
    tables = x.tables;
    space = x.space;
    charges = x.charges;
    hidden = x.hidden;
    saved = x.saved;
    done = x.done;
    over = x.over;
    count = x.count;
    batch = x.batch;
    free = x.free;
    kept_free = x.kept_free;
    closed = x.closed;
    spent = x.spent;
    alike = x.alike;
    fault = tt;
    tried = x.tried;
    moments = x.moments;
    others = x.others;
    no_fault = x.no_fault;
  }
  same_finish (Err Disk) x = record {
    tables = x.tables;
    space = x.space;
    charges = x.charges;
    hidden = x.hidden;
    saved = x.saved;
    done = tt;
    over = tt;
    count = tt;
    batch = tt;
    free = tt;
    kept_free = tt;
    closed = tt;
    spent = tt;
    alike = tt;
    fault = x.fault;
    tried = x.tried;
    moments = x.moments;
    others = x.others;
    no_fault = tt;
  }
  same_finish (Err (Memory error)) x = record {
    tables = x.tables;
    space = x.space;
    charges = x.charges;
    hidden = x.hidden;
    saved = x.saved;
    done = tt;
    over = tt;
    count = tt;
    batch = tt;
    free = tt;
    kept_free = tt;
    closed = tt;
    spent = tt;
    alike = tt;
    fault = (record { pages = x.fault.0.pages; journal = x.fault.0.journal; overlay = x.fault.0.overlay; transaction = x.fault.0.transaction; batch = x.fault.0.batch; free = x.fault.0.free; kept_free = x.fault.0.kept_free; base_free = x.fault.0.base_free; cache = x.fault.0.cache; spent = x.fault.0.spent; reads = x.fault.0.reads; no_fault = x.fault.0.no_fault }, x.fault.1);
    tried = x.tried;
    moments = x.moments;
    others = x.others;
    no_fault = tt;
  }
  same_finish (Err (Closed faults)) x = absurd x.fault

  pub finished_prepared : (result : Result Unit StepFault) → Finished tells (Ok tt) result g f v w → Finished tells worked result e f v w
  finished_prepared result finished =
      subst (λ (r : Result Unit StoreFault). Finished tells r result e f v w) (sym (is_done worked done)) (same_finish result (subst (λ (x : Kept). Finished tells (Ok tt) result x f v w) is finished))

-- the bytes held read as their pages
alike_held : (tells : Bool) (told : IsTrue tells) (s : State) (v : Device) → Lawful tells v → IsOver tells s v → ReadsAlike v.size (pages v.held) v.held
alike_held tells told s v lawful over = record { size = lawful.size told; sound = ((over.read.stands told).rs, (over.read.stands told).stands.records); alike = λ k. inl refl }

-- a moment before anything is written
before_finish : (tells : Bool) (worked : Result Unit StoreFault) (s : State) (v : Device) → Lawful tells v → IsOver tells s v → IsTrue tells → LeavesOnly v v (FinishLeaves worked s v)
before_finish tells worked s v lawful over told =
    started tells v (FinishLeaves worked s v) lawful
    (λ image now. (inl (subst (ReadsAlike v.size (pages v.held)) (sym (over.settled image now)) (alike_held tells told s v lawful over)), refl))

-- a batch that isn't committed, as the disk failed in its work or there was no memory
module _ (tells : Bool) (worked : Result Unit StoreFault) (e g f : Kept) (v : Device) (lawful : Lawful tells v) (before : IsOver tells e.store v) (is : g ≡ record e { store = record e.store { spare = g.store.spare; join_spare = g.store.join_spare } }) where
  pub unworked : worked ≡ Err StoreFailed → f ≡ record g { spent = Some v.faults } → Finished tells worked (Err Disk) e f v v
  unworked failed spent = record {
    tables = ap (λ (x : Kept). x.tables) spent ∙ ap (λ (x : Kept). x.tables) is;
    space = ap (λ (x : Kept). x.space) spent ∙ ap (λ (x : Kept). x.space) is;
    charges = ap (λ (x : Kept). x.charges) spent ∙ ap (λ (x : Kept). x.charges) is;
    hidden = ap (λ (x : Kept). x.hidden) spent ∙ ap (λ (x : Kept). x.hidden) is;
    saved = ap (λ (x : Kept). x.saved) spent ∙ ap (λ (x : Kept). x.saved) is;
    done = tt;
    over = tt;
    count = tt;
    batch = tt;
    free = tt;
    kept_free = tt;
    closed = tt;
    spent = tt;
    alike = tt;
    fault = (inr failed, ap (λ (x : Kept). x.spent) spent, omega arith);
    tried = inl (reads_none tells v lawful);
    moments = before_finish tells worked e.store v lawful before;
    others = keeps_refl tells v;
    no_fault = tt;
  }

  pub dropped : (error : AllocError) → (worked ≡ Err StoreFailed → ⊥) → f ≡ record g { store = record g.store { batch = []; free = g.store.kept_free } } → Finished tells worked (Err (Memory error)) e f v v
  dropped error other drop = record {
    tables = ap (λ (x : Kept). x.tables) drop ∙ ap (λ (x : Kept). x.tables) is;
    space = ap (λ (x : Kept). x.space) drop ∙ ap (λ (x : Kept). x.space) is;
    charges = ap (λ (x : Kept). x.charges) drop ∙ ap (λ (x : Kept). x.charges) is;
    hidden = ap (λ (x : Kept). x.hidden) drop ∙ ap (λ (x : Kept). x.hidden) is;
    saved = ap (λ (x : Kept). x.saved) drop ∙ ap (λ (x : Kept). x.saved) is;
    done = tt;
    over = tt;
    count = tt;
    batch = tt;
    free = tt;
    kept_free = tt;
    closed = tt;
    spent = tt;
    alike = tt;
    fault = (
      record {
        pages = ap (λ (x : Kept). x.store.pages) drop ∙ ap (λ (x : Kept). x.store.pages) is;
        journal = ap (λ (x : Kept). x.store.journal) drop ∙ ap (λ (x : Kept). x.store.journal) is;
        overlay = ap (λ (x : Kept). x.store.overlay) drop ∙ ap (λ (x : Kept). x.store.overlay) is;
        transaction = ap (λ (x : Kept). x.store.transaction) drop ∙ ap (λ (x : Kept). x.store.transaction) is;
        batch = ap (λ (x : Kept). x.store.batch) drop;
        free = ap (λ (x : Kept). x.store.free) drop ∙ ap (λ (x : Kept). x.store.kept_free) is;
        kept_free = ap (λ (x : Kept). x.store.kept_free) drop ∙ ap (λ (x : Kept). x.store.kept_free) is;
        base_free = ap (λ (x : Kept). x.store.base_free) drop ∙ ap (λ (x : Kept). x.store.base_free) is;
        cache = ap (λ (x : Kept). x.store.cache) drop ∙ ap (λ (x : Kept). x.store.cache) is;
        spent = ap (λ (x : Kept). x.spent) drop ∙ ap (λ (x : Kept). x.spent) is;
        reads = reads_none tells v lawful;
        no_fault = refl;
      },
      other,
    );
    tried = inl (reads_none tells v lawful);
    moments = before_finish tells worked e.store v lawful before;
    others = keeps_refl tells v;
    no_fault = tt;
  }

-- a count that rose before
rose_before : (a b c : ℕ) → Rose a b → b ≤ c → Rose a c
rose_before a b c rose le = omega arith

-- Work over an idle store with no transaction, and the end of its batch.
module _ (tells : Bool) (Work : Contents → Contents → Type 0) (worked : Result Unit StoreFault) (e g f : Kept) (v x w : Device) (lawful : Lawful tells v) (idle : IsIdle tells e.store v) (closed : IsClosed e.store)
    (calls : Undisturbed tells e.store g.store v x) (work : OnOk worked (Work (contents_over e.store v) (contents_over g.store x))) (cause : worked ≡ Err StoreFailed → Rose v.faults x.faults) (quiet : (worked ≡ Err StoreFailed → ⊥) → x.faults ≡ v.faults) where
  -- what is read before the work is what the pages are
  before_work : IsTrue tells → read_pages e.store v.held ≡ pages v.held
  before_work told = λ i k. read_closed e.store v.held closed.transaction idle.batch (idle.over.read.stands told) k i

  alike_before : IsTrue tells → ReadsAlike v.size (read_pages e.store v.held) v.held
  unfolding before_work
  alike_before told = subst (λ (p : ℕ → List ℕ). ReadsAlike v.size p v.held) (sym (before_work told)) (alike_held tells told e.store v lawful idle.over)

  -- each moment of the work
  work_moments : IsTrue tells → LeavesOnly v x (ChangeLeaves Work e.store v)
  work_moments told =
      leaves_map v x (λ image said. v.images image × (said ≡ v.said)) (ChangeLeaves Work e.store v)
      (λ image said now. (inl (subst (ReadsAlike v.size (read_pages e.store v.held)) (sym (idle.over.settled image now.0)) (alike_before told)), now.1)) calls.reads.moments

  -- an image that reads as the pages did before
  alike_after : IsTrue tells → (image : List ℕ) → ReadsAlike x.size (pages x.held) image → ReadsAlike v.size (read_pages e.store v.held) image
  unfolding before_work
  alike_after told image reads = record {
    size = reads.size ∙ calls.reads.keeps.size;
    sound = reads.sound;
    alike = subst (λ (p : ℕ → List ℕ). SameButFreed p (pages image)) (ap pages calls.reads.held ∙ sym (before_work told)) reads.alike;
  }

  -- each moment of both
  all_moments : IsTrue tells → LeavesOnly x w (FinishLeaves worked g.store x) → LeavesOnly v w (ChangeLeaves Work e.store v)
  all_moments told moments =
      then_on v x w (ChangeLeaves Work e.store v) (work_moments told)
      (leaves_map x w (FinishLeaves worked g.store x) (ChangeLeaves Work e.store v)
      (λ image said now. (
        ⊎_elim (λ old. inl (alike_after told image old))
            (λ new. inr (contents_over g.store x, on_ok worked (Work (contents_over e.store v) (contents_over g.store x)) new.0 work, record { size = new.1.size ∙ calls.reads.keeps.size; sound = new.1.sound; alike = new.1.alike })) now.0,
        now.1 ∙ calls.reads.keeps.said,
      )) moments)

  -- the batch was dropped
  still : Dropped tells g f x w → (worked ≡ Err StoreFailed → ⊥) → IsStill tells e.store f.store v w
  still drop other = record {
    calls = record {
      pages = drop.pages ∙ calls.pages;
      journal = drop.journal ∙ calls.journal;
      overlay = drop.overlay ∙ calls.overlay;
      transaction = drop.transaction ∙ calls.transaction;
      kept_free = drop.kept_free ∙ calls.kept_free;
      base_free = drop.base_free ∙ calls.base_free;
      reads = reads_then tells v x w calls.reads drop.reads;
      cached = λ told now. subst (AreInPlace w.held) (sym drop.cache) (subst (λ (bytes : List ℕ). AreInPlace bytes g.store.cache) (sym drop.reads.held) (calls.cached told now));
    };
    batch = drop.batch ∙ sym idle.batch;
    free = drop.free ∙ calls.kept_free ∙ idle.kept_free;
    no_fault = drop.no_fault ∙ quiet other;
  }

  -- nothing was written, or the work was done
  reads_or_work : OnlyReads tells x w ⊎ IsOk worked → OnlyReads tells v w ⊎ ((read : Contents) × Work (contents_over e.store v) read)
  reads_or_work tried =
      ⊎_elim (λ reads. inl (reads_then tells v x w calls.reads reads)) (λ ok. inr (contents_over g.store x, on_ok worked (Work (contents_over e.store v) (contents_over g.store x)) ok work)) tried

  pub changed : (result : Result Unit StepFault) → g.spent ≡ None → Finished tells worked result g f x w → Changed tells Work result e.store f.store f.spent v w
  changed (Ok done) unspent finished = record {
    idle = record { over = finished.over; batch = finished.batch; kept_free = finished.kept_free ∙ sym finished.free };
    closed = finished.closed;
    done = record {
      read = contents_over g.store x;
      work = on_ok worked (Work (contents_over e.store v) (contents_over g.store x)) finished.done work;
      pages = finished.count ∙ calls.pages;
      free = finished.free;
      alike = finished.alike;
    };
    unspent = finished.spent ∙ unspent;
    fault = tt;
    tried = tt;
    moments = λ told. all_moments told (finished.moments told);
    others = keeps_then tells v x w calls.reads.keeps finished.others;
    no_fault = finished.no_fault ∙ quiet (not_failed worked finished.done);
  }
  changed (Err Disk) unspent finished = record {
    idle = tt;
    closed = tt;
    done = tt;
    unspent = tt;
    fault = (⊎_elim (λ rose. rose_on v.faults x.faults w.faults calls.reads.keeps.faults rose) (λ failed. rose_before v.faults x.faults w.faults (cause failed) finished.fault.2) finished.fault.0, finished.fault.1);
    tried = reads_or_work finished.tried;
    moments = λ told. all_moments told (finished.moments told);
    others = keeps_then tells v x w calls.reads.keeps finished.others;
    no_fault = tt;
  }
  changed (Err (Memory error)) unspent finished = record {
    idle = tt;
    closed = tt;
    done = tt;
    unspent = tt;
    fault = (still finished.fault.0 finished.fault.1, finished.fault.0.spent ∙ unspent);
    tried = reads_or_work finished.tried;
    moments = λ told. all_moments told (finished.moments told);
    others = keeps_then tells v x w calls.reads.keeps finished.others;
    no_fault = tt;
  }
  changed (Err (Closed faults)) unspent finished = absurd finished.fault
