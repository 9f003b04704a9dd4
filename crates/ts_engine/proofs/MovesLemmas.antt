-- An engine goes from one state to another: it is left as it was, or by work of which the layout that comes is known by what was
-- read at its end.
use Rattle.std.specs.declared.alloc.AllocError.{AllocError}
use Rattle.std.proofs.Common.{◌≡◌, inl, inr, ⊎_elim, ℕ, ◌+◌, Bool, IsTrue, None, Some, Option, IfSome, Result, Ok, Err, List, length, refl, ap, sym, ◌∙◌, subst}
use Rattle.ts_disk.specs.Device.{Device, Lawful, Rose, LeavesOnly}
use Rattle.ts_disk.proofs.Moments.{leaves_map}
use Rattle.ts_page.specs.Pages.{Contents, first_element_page}
use Rattle.ts_journal.specs.Moment.{OnlyReads}
use Rattle.ts_store.specs.OpenBatch.{IsClosed, read_pages, contents_over}
use Rattle.ts_store.specs.OpenBatch.{rolled_back as store_rolled_back}
use Rattle.ts_store.proofs.CallerLemmas.{counted}
use Rattle.ts_model.specs.Catalogue.{Catalogue}
use Rattle.ts_layout.specs.Meaning.{Layout, HoldsLayout, IsSound, Means, catalogue_of}
use Rattle.ts_layout.specs.Placed.{AreKept}
use Rattle.ts_container.specs.KeptCharges.{AreCharges}
use Rattle.ts_answer.specs.Answer.{State, Transaction, resting, newest}
use Rattle.ts_engine.specs.declared.fault.StepFault.{StepFault}
use Rattle.ts_engine.specs.declared.fault.StepFault.TheVariants.{Disk, Memory, Closed}
use Rattle.ts_engine.specs.declared.transaction.Saved.{Saved}
use Rattle.ts_volume.specs.Volume.{MeansCatalogue}
use Rattle.ts_hidden.specs.Marks.{Cover, Include}
use Rattle.ts_answer.specs.View.{IsSeen}
use Rattle.ts_engine.specs.Engine.{Kept, IsKeptOf, IsSmall, IsStanding, IsReady, IsAt, seen_by, back_to}
use Rattle.ts_engine.specs.Moves.{BeforeOrAfter, IsUntouched, Moves}
use Rattle.ts_engine.specs.Change.{IsStill, ChangeLeaves, Changed}
use Rattle.ts_effects.proofs.CallerLemmas.{charges_same}
use Rattle.ts_engine.proofs.StateLemmas.{accepted_of, accepted_by}
use Rattle.ts_volume.proofs.CallerLemmas.{holds_still, means_layout}
use Rattle.ts_engine.proofs.StandLemmas.{SameCopies, same_copies, seen_same, marked_same, marked_of, still_reads, still_idle, still_closed, still_small, still_back, base_still, one_layout, read_means, means_alike, means_held}

-- a call that only reads leaves what the volume means
pub read_moments : (tells : Bool) (after : State → State) (e : Kept) (v w : Device) → IsReady tells e v → OnlyReads tells v w → (state : State) → IsAt tells e state v → LeavesOnly v w (BeforeOrAfter state (after state) v)
read_moments tells after e v w ready reads state at =
    leaves_map v w (λ image said. v.images image × (said ≡ v.said)) (BeforeOrAfter state (after state) v)
    (λ image said now. (inl (subst (λ (bytes : List ℕ). MeansCatalogue bytes state.base) (sym (ready.idle.over.settled image now.0)) at.means), now.1)) reads.moments

-- with the same copies none is open in both, or in none
none_copied : (o p : Option Saved) → SameCopies o p → p ≡ None → o ≡ None
none_copied None p same none = refl
none_copied (Some a) None same none = absurd same
none_copied (Some a) (Some b) same none = absurd (cc)

if_some : (o : Option Saved) (P Q : Saved → Type 0) → ((s : Saved) → P s → Q s) → IfSome o P → IfSome o Q
if_some None P Q more holds = tt
if_some (Some s) P Q more holds = more s holds

-- the next state has the base and the newest catalogue of the one before, and as many accepted commands as an engine counts
pub record Follows (saved : Option Saved) (state next : State) : Type 0 where
  pub base : next.base ≡ state.base
  pub newest : newest next ≡ newest state
  pub accepted : accepted_by saved ≡ accepted_of next.transaction

-- nothing is written
module _ (tells : Bool) (after : State → State) (e f : Kept) (v w : Device) (ready : IsReady tells e v) (still : IsStill tells e.store f.store v w) (unspent : f.spent ≡ None)
    (definitions : f.tables.definitions ≡ e.tables.definitions) (lists : f.space.lists ≡ e.space.lists) (charges : f.charges ≡ e.charges) (more : Include f.hidden e.hidden) where
  -- a transaction counts perhaps more
  module _ (saved : Option Saved) (is : f.saved ≡ saved) (copies : SameCopies e.saved saved) (small : IfSome saved (λ s. IsSmall s.accepted (contents_over (store_rolled_back e.store) v) (contents_over e.store v))) where
    standing : IsStanding tells f w
    standing = record {
      idle = still_idle tells e.store f.store v w still ready.idle;
      seen = seen_same tells e f v w ready.seen definitions lists still.calls.pages still.free (still_reads tells e.store f.store v w still);
      marked = marked_same tells e f v w ready.marked more still.calls.pages (still_reads tells e.store f.store v w still);
    }

    pub ready_still : IsReady tells f w
    unfolding standing
    ready_still = record {
      idle = standing.idle;
      seen = standing.seen;
      marked = standing.marked;
      base = subst (λ (o : Option Saved). IsStanding tells (back_to f o) w) (sym is)
          (base_still tells e f v w e.saved saved copies
          (still_back tells e.store f.store v w still.calls.pages still.calls.journal still.calls.overlay still.calls.base_free still.calls.reads still.calls.cached still.no_fault)
          more (λ none. standing) ready.base);
      closed = λ none. still_closed tells e.store f.store v w still (ready.closed (none_copied e.saved saved copies (sym is ∙ none)));
      small = subst (λ (o : Option Saved). IfSome o (λ s. IsSmall s.accepted (contents_over (store_rolled_back f.store) w) (contents_over f.store w))) (sym is)
          (if_some saved (λ s. IsSmall s.accepted (contents_over (store_rolled_back e.store) v) (contents_over e.store v)) (λ s. IsSmall s.accepted (contents_over (store_rolled_back f.store) w) (contents_over f.store w))
          (λ s. still_small tells e.store f.store v w still s.accepted) small);
      charges = charges_same e.charges f.charges e.tables.definitions f.tables.definitions e.space f.space ready.charges charges definitions lists;
      unspent = unspent;
    }

    pub moves_still : ((told : IsTrue tells) (state : State) → IsAt tells e state v → Follows saved state (after state)) → Moves tells after (Ok tt) e f v w
    unfolding ready_still
    moves_still follows = record {
      ready = ready_still;
      at = λ told state at.
          let next = follows told state at in
          record {
            ready = ready_still;
            means = subst (MeansCatalogue w.held) (sym next.base) (subst (λ (bytes : List ℕ). MeansCatalogue bytes state.base) (sym still.calls.reads.held) at.means);
            newest = subst (Means f.store.pages (read_pages f.store w.held)) (sym next.newest)
                (subst (λ (n : ℕ). Means n (read_pages f.store w.held) (newest state)) (sym still.calls.pages)
                (subst (λ (p : ℕ → List ℕ). Means e.store.pages p (newest state)) (sym (λ i k. still_reads tells e.store f.store v w still k i)) at.newest));
            accepted = ap accepted_by is ∙ next.accepted;
          };
      fault = tt;
      moments = λ told. read_moments tells after e v w ready still.calls.reads;
      others = still.calls.reads.keeps;
      no_fault = still.no_fault;
    }

  -- the transaction stays
  module _ (same : f.saved ≡ e.saved) where
    pub untouched : IsUntouched tells e f v w
    untouched = record {
      disk = still.calls.reads;
      kept = record {
        definitions = definitions;
        lists = lists;
        transaction = still.calls.transaction;
        free = still.free;
        base_free = still.calls.base_free;
        charges = charges;
        saved = same;
        spent = unspent ∙ sym ready.unspent;
      };
    }

    pub moves_memory : (error : AllocError) → Moves tells after (Err (Memory error)) e f v w
    unfolding untouched
    moves_memory error = record {
      ready = tt;
      at = tt;
      fault = (untouched, ready_still e.saved same (same_copies e.saved) ready.small, still.no_fault);
      moments = λ told. read_moments tells after e v w ready still.calls.reads;
      others = still.calls.reads.keeps;
      no_fault = tt;
    }

-- the disk failed while it was read
pub moves_disk : (tells : Bool) (after : State → State) (e f : Kept) (v w : Device) → IsReady tells e v → OnlyReads tells v w → Rose v.faults w.faults → f.spent ≡ Some w.faults → Moves tells after (Err Disk) e f v w
moves_disk tells after e f v w ready reads rose spent = record {
  ready = tt;
  at = tt;
  fault = (rose, spent);
  moments = λ told. read_moments tells after e v w ready reads;
  others = reads.keeps;
  no_fault = tt;
}

-- what an engine answers by is that of the layout that its pages hold
pub stands : (tells : Bool) (e : Kept) (v : Device) (ready : IsReady tells e v) (told : IsTrue tells) (state : State) → IsAt tells e state v → newest state ≡ catalogue_of (ready.seen.layout told).0
stands tells e v ready told state at = one_layout tells e v ready.seen told (newest state) at.newest

-- where it has no transaction, the state has none
none_of : (p : Option Saved) (o : Option Transaction) → p ≡ None → accepted_by p ≡ accepted_of o → o ≡ None
none_of p None none same = refl
none_of None (Some t) none same = absurd (cc)
none_of (Some s) (Some t) none same = absurd (cc)

pub rests : (tells : Bool) (e : Kept) (v : Device) → e.saved ≡ None → (state : State) → IsAt tells e state v → state.transaction ≡ None
rests tells e v none state at = none_of e.saved state.transaction none at.accepted

is_resting : (base : Catalogue) (o : Option Transaction) (cat : Catalogue) → o ≡ None → newest (record { base = base; transaction = o }) ≡ cat → ◌≡◌ {A = State} (record { base = base; transaction = o }) (resting cat)
is_resting base None cat none is = ap resting is
is_resting base (Some t) cat none is = absurd (cc)

pub stands_resting : (tells : Bool) (e : Kept) (v : Device) (ready : IsReady tells e v) → e.saved ≡ None → (told : IsTrue tells) (state : State) → IsAt tells e state v → state ≡ resting (catalogue_of (ready.seen.layout told).0)
stands_resting tells e v ready none told state at =
    is_resting state.base state.transaction (catalogue_of (ready.seen.layout told).0) (rests tells e v none state at) (stands tells e v ready told state at)

-- an engine with no transaction stands at what its pages mean
pub at_resting : (tells : Bool) (f : Kept) (w : Device) → Lawful tells w → IsReady tells f w → f.saved ≡ None → IsTrue tells → (cat : Catalogue) → Means f.store.pages (read_pages f.store w.held) cat → IsAt tells f (resting cat) w
at_resting tells f w lawful ready none told cat means = record {
  ready = ready;
  means = means_held tells f.store w cat lawful ready.idle (ready.closed none) told means;
  newest = means;
  accepted = ap accepted_by none;
}

-- so it does at what its volume means
pub at_meant : (tells : Bool) (f : Kept) (w : Device) → Lawful tells w → IsReady tells f w → f.saved ≡ None → IsTrue tells → (cat : Catalogue) → MeansCatalogue w.held cat → IsAt tells f (resting cat) w
at_meant tells f w lawful ready none told cat means = record {
  ready = ready;
  means = means;
  newest = read_means tells f.store w lawful ready.idle (ready.closed none) told cat means;
  accepted = ap accepted_by none;
}

-- an engine with no transaction is ready where it stands
pub ready_resting : (tells : Bool) (f : Kept) (w : Device) → f.saved ≡ None → (standing : IsStanding tells f w) → IsClosed f.store → AreCharges f.charges f.tables.definitions f.space → f.spent ≡ None → IsReady tells f w
ready_resting tells f w none standing closed charges unspent = record {
  idle = standing.idle;
  seen = standing.seen;
  marked = standing.marked;
  base = subst (λ (o : Option Saved). IsStanding tells (back_to f o) w) (sym none) standing;
  closed = λ same. closed;
  small = subst (λ (o : Option Saved). IfSome o (λ s. IsSmall s.accepted (contents_over (store_rolled_back f.store) w) (contents_over f.store w))) (sym none) tt;
  charges = charges;
  unspent = unspent;
}

-- the layout that comes next
pub record Next (tells : Bool) (after : State → State) (l : Layout) (read : Contents) : Type 0 where
  pub layout : Layout
  pub size : length layout.element_pages ≡ length l.element_pages
  pub rules : IsSound layout
  pub holds : IsTrue tells → HoldsLayout read.page layout
  pub comes : IsTrue tells → after (resting (catalogue_of l)) ≡ resting (catalogue_of layout)

module _ (tells : Bool) (after : State → State) (Work : Contents → Contents → Type 0) (e f : Kept) (v w : Device) (lawful : Lawful tells v) (later : Lawful tells w) (ready : IsReady tells e v) (none : e.saved ≡ None)
    (next : (told : IsTrue tells) (read : Contents) → Work (contents_over e.store v) read → Next tells after (ready.seen.layout told).0 read) where
  goes : (told : IsTrue tells) (state : State) → IsAt tells e state v → (read : Contents) (work : Work (contents_over e.store v) read) → after state ≡ resting (catalogue_of (next told read work).layout)
  goes told state at read work = ap after (stands_resting tells e v ready none told state at) ∙ (next told read work).comes told

  next_moments : (result : Result Unit StepFault) (spent : Option ℕ) → Changed tells Work result e.store f.store spent v w → IsTrue tells → (state : State) → IsAt tells e state v → LeavesOnly v w (BeforeOrAfter state (after state) v)
  next_moments result spent changed told state at =
      leaves_map v w (ChangeLeaves Work e.store v) (BeforeOrAfter state (after state) v)
      (λ image said now. (
        ⊎_elim (λ old. inl (means_alike tells e.store v state.base ready.idle image (read_means tells e.store v lawful ready.idle (ready.closed none) told state.base at.means) old))
            (λ new.
            let to = next told new.0 new.1 in
            inr (subst (λ (s : State). MeansCatalogue image s.base) (sym (goes told state at new.0 new.1))
            (means_layout v.size new.0.page image to.layout ready.idle.over.read.volume new.2.size new.2.sound new.2.alike (counted v.size e.store.pages ready.idle.over.read.size ∙ (ready.seen.layout told).1.kept.size ∙ ap (λ (n : ℕ). first_element_page + n) (sym to.size)) (to.holds told) to.rules))) now.0,
        now.1,
      ))
      (changed.moments told)

  pub moves_ok : (changed : Changed tells Work (Ok tt) e.store f.store f.spent v w) → f.saved ≡ None → AreKept f.tables.definitions f.space f.store.free f.store.pages → ((told : IsTrue tells) → IsKeptOf f (next told changed.done.read changed.done.work).layout) → ((told : IsTrue tells) → Cover f.hidden (catalogue_of (next told changed.done.read changed.done.work).layout)) → AreCharges f.charges f.tables.definitions f.space → Moves tells after (Ok tt) e f v w
  moves_ok changed closed rules' kept' covers charged =
      let to : (told : IsTrue tells) → Next tells after (ready.seen.layout told).0 changed.done.read = λ told. next told changed.done.read changed.done.work in
      let holds' : (told : IsTrue tells) → HoldsLayout (read_pages f.store w.held) (to told).layout = λ told. holds_still changed.done.read.page (read_pages f.store w.held) (to told).layout (changed.done.alike told) ((to told).holds told) in
      let seen' : IsSeen tells (seen_by f w) = record { kept = rules'; layout = λ told. ((to told).layout, record { kept = kept' told; holds = λ t. holds' told }) } in
      let ready' : IsReady tells f w = ready_resting tells f w closed (record { idle = changed.idle; seen = seen'; marked = marked_of tells f w seen' covers }) changed.closed charged changed.unspent in
      record {
        ready = ready';
        at = λ told state at.
            let kept = kept' told in
            subst (λ (s : State). IsAt tells f s w) (sym (goes told state at changed.done.read changed.done.work))
            (at_resting tells f w later ready' closed told (catalogue_of (to told).layout) ((to told).layout, record { size = kept.size; bytes = holds' told; rules = kept.rules }, refl));
        fault = tt;
        moments = next_moments (Ok tt) f.spent changed;
        others = changed.others;
        no_fault = changed.no_fault;
      }

  pub moves_fault : (fault : StepFault) → Changed tells Work (Err fault) e.store f.store f.spent v w → f.tables.definitions ≡ e.tables.definitions → f.space.lists ≡ e.space.lists → f.charges ≡ e.charges → Include f.hidden e.hidden → f.saved ≡ e.saved → Moves tells after (Err fault) e f v w
  moves_fault Disk changed definitions lists charges more saved = record {
    ready = tt;
    at = tt;
    fault = changed.fault;
    moments = next_moments (Err Disk) f.spent changed;
    others = changed.others;
    no_fault = tt;
  }
  moves_fault (Memory error) changed definitions lists charges more saved =
      let stays = moves_memory tells after e f v w ready changed.fault.0 changed.fault.1 definitions lists charges more saved error in
      record {
        ready = tt;
        at = tt;
        fault = stays.fault;
        moments = next_moments (Err (Memory error)) f.spent changed;
        others = changed.others;
        no_fault = tt;
      }
  moves_fault (Closed faults) changed definitions lists charges more saved = absurd changed.fault
