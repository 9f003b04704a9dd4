-- A step on a view: what becomes of it and of the engine.
use Rattle.std.specs.declared.alloc.AllocError.{AllocError}
use Rattle.std.proofs.Common.{◌≡◌, ◌⊎◌, inl, inr, ℕ, Bool, true, false, if◌then◌else◌, IsTrue, Some, None, Result, Ok, Err, IsErrAnd, List, [], ◌∷◌, ◌++◌, length, take, reverse, Vec, Global, refl, ap, sym, ◌∙◌, subst, arith}
use Rattle.std.proofs.lemmas.List.{take-append-le, take_all}
use Rattle.ts_base.specs.declared.refusal.Refusal.{Refusal}
use Rattle.ts_command.specs.declared.command.Command.{Command}
use Rattle.ts_command.specs.Boundary.{is_writing}
use Rattle.ts_disk.specs.Device.{Device, Lawful, Rose}
use Rattle.ts_page.specs.Pages.{Contents, EqualPages}
use Rattle.ts_page.proofs.PagesLemmas.{same_from_equal}
use Rattle.ts_journal.specs.Journal.{Entry, change_of, changed, over}
use Rattle.ts_store.specs.OpenBatch.{State as Store, committed_pages, read_pages, contents_over}
use Rattle.ts_store.specs.Undisturbed.{Undisturbed}
use Rattle.ts_store.proofs.CallerLemmas.{rolled_back_closed}
use Rattle.ts_model.specs.Catalogue.{Catalogue}
use Rattle.ts_layout.specs.Meaning.{Layout, catalogue_of}
use Rattle.ts_answer.specs.declared.effect.Effect.{Effect}
use Rattle.ts_answer.specs.declared.stop.Stop.{Stop}
use Rattle.ts_answer.specs.Answer.{outcome}
use Rattle.ts_answer.specs.Reply.{refusal_line}
use Rattle.ts_answer.specs.CarriedOut.{CarriedOut, definitions_after, lists_after, is_nothing}
use Rattle.ts_answer.specs.View.{View as Seen, view, IsSeen, Shows}
use Rattle.ts_views.specs.declared.view.View.{View}
use Rattle.ts_views.specs.View.{pages_of}
use Rattle.ts_views.specs.Pages.{view_contents}
use Rattle.ts_view_catalogues.specs.Catalogues.{IsViewReady, ViewMeans}
use Rattle.ts_view_catalogues.proofs.CallerLemmas.{means_still}
use Rattle.ts_engine.specs.declared.fault.StepFault.{StepFault}
use Rattle.ts_engine.specs.declared.fault.StepFault.TheVariants.{Disk, Memory}
use Rattle.ts_engine.specs.Change.{IsStill, reply_of}
use Rattle.ts_engine.specs.Ended.{with_dropped}
use Rattle.ts_engine.specs.Engine.{Kept, IsReady}
use Rattle.ts_hidden.specs.Marks.{Include}
use Rattle.ts_hidden.proofs.CallerLemmas.{all_included}
use Rattle.ts_engine.proofs.CallerLemmas.{moves_disk, moves_memory, moves_still, same_copies, still_dropped, still_none}
use Rattle.ts_session_engine.specs.Proceeds.{Proceeds}
use Rattle.ts_session_engine.specs.Beside.{newest, SamePages}
use Rattle.ts_session_engine.specs.Viewed.{IsSameView, KeepsEffect, KeepsWriting, TakesEffect, StepsOwn}
use Rattle.ts_session_engine.proofs.ProceedLemmas.{proceeds_moved}
use Rattle.ts_session_engine.proofs.StayLemmas.{same_newest, view_alike}
use Rattle.ts_session_engine.proofs.ViewLemmas.{ready_then, answered_then, refused_in, none_defined, none_listed}

-- a test is true or false
either : (b : Bool) → (b ≡ true) ⊎ (b ≡ false)
either true = inl refl
either false = inr refl

-- one command more, or none
more_or_none : (b : Bool) (command : Command) (now before : List Command) → now ≡ (if b then before ++ command ∷ [] else before) → (now ≡ before) ⊎ ((now ≡ before ++ command ∷ []) × (b ≡ true))
more_or_none true command now before is = inr (is, refl)
more_or_none false command now before is = inl is

-- what reads the same in a view
leaf : (old own changes : List Entry) (a b : ℕ → List ℕ) (k : ℕ) → a k ≡ b k → over changes (over own (over old a)) k ≡ over changes (over own (over old b)) k
leaf old own changes a b k same = ap (λ (p : List ℕ). changed (change_of k changes) (changed (change_of k own) (changed (change_of k old) p))) same

-- a view that keeps the same, over pages that are the same
module _ (tells : Bool) (x y : View) (same : IsSameView x y) (before after : Contents) (pages : SamePages before after) where
  reads_alike : (k : ℕ) → pages_of y after.page k ≡ pages_of x before.page k
  reads_alike k =
      (λ i. over (same.own i) (over (same.old i).entries after.page) k) ∙ leaf x.old.entries x.own.entries [] after.page before.page k (pages.pages k)

  pub same_ready : IsViewReady tells x before → IsViewReady tells y after
  same_ready ready = view_alike tells x y before after same.definitions same.lists same.free pages.count (λ told. same_from_equal (pages_of x before.page) (pages_of y after.page) reads_alike) ready

  pub same_means : IsTrue tells → (cat : Catalogue) → ViewMeans x before cat → ViewMeans y after cat
  same_means told cat means = means_still before.count after.count (pages_of x before.page) (pages_of y after.page) cat pages.count (same_from_equal (pages_of x before.page) (pages_of y after.page) reads_alike) means

pub is_itself : (x : View) → IsSameView x x
is_itself x = record { definitions = refl; lists = refl; own = refl; old = refl; free = refl }

-- nothing was done
pub unstepped : (tells : Bool) (command : Command) (error : AllocError) (out : List ℕ) (e : Kept) (x : View) (v : Device) → Lawful tells v → IsReady tells e v → IsViewReady tells x (newest e v) → StepsOwn tells command (Err (Memory error)) out e e x x v v
unstepped tells command error out e x v lawful ready xready =
    let still = still_none tells e.store v lawful in
    record {
      proceeds = proceeds_moved tells (λ s. s) (Err (Memory error)) e e v v (moves_memory tells (λ s. s) e e v v ready still ready.unspent refl refl refl (all_included e.hidden) refl error);
      rests = refl;
      reads = still.calls.reads;
      still = still;
      own = record { ready = xready; answered = tt; means = λ told cat means. means; unnoted = refl; one_more = inl refl };
    }

module _ (tells : Bool) (command : Command) (e g h : Kept) (v d : Device) (ready : IsReady tells e v) (rests : e.saved ≡ None) (x : View) (xready : IsViewReady tells x (newest e v)) (calls : Undisturbed tells e.store g.store v d)
    (reads : IsTrue tells → EqualPages (read_pages e.store v.held) (read_pages g.store d.held)) (is : g ≡ record e { store = g.store }) (drop : h ≡ with_dropped g) where
  abbrev before : Contents
  before = newest e v

  abbrev after : Contents
  after = newest h d

  includes : Include h.hidden e.hidden
  includes = subst (λ (marks : List (List ℕ)). Include marks e.hidden) (sym (ap (λ (k : Kept). k.hidden) drop ∙ ap (λ (k : Kept). k.hidden) is)) (all_included e.hidden)

  same_saved : h.saved ≡ e.saved
  same_saved = ap (λ (k : Kept). k.saved) drop ∙ ap (λ (k : Kept). k.saved) is

  same_pages : SamePages before after
  same_pages = same_newest e.store h.store v d (ap (λ (k : Kept). k.store.pages) drop ∙ calls.pages) (ap (λ (k : Kept). k.store.overlay) drop ∙ calls.overlay) calls.reads.held

  -- the volume was read alone
  module _ (no_fault : d.faults ≡ v.faults) where
    still : IsStill tells e.store h.store v d
    still = still_dropped tells e.store g.store h.store v d ready.idle calls (ap (λ (k : Kept). k.store) drop) no_fault

    unspent : h.spent ≡ None
    unspent = ap (λ (k : Kept). k.spent) drop ∙ ap (λ (k : Kept). k.spent) is ∙ ready.unspent

    proceeds_ok : Proceeds tells (λ s. s) (Ok tt) e h v d
    proceeds_ok =
        proceeds_moved tells (λ s. s) (Ok tt) e h v d
        (moves_still tells (λ s. s) e h v d ready still unspent (ap (λ (k : Kept). k.tables.definitions) drop ∙ ap (λ (k : Kept). k.tables.definitions) is) (ap (λ (k : Kept). k.space.lists) drop ∙ ap (λ (k : Kept). k.space.lists) is)
        (ap (λ (k : Kept). k.charges) drop ∙ ap (λ (k : Kept). k.charges) is) includes e.saved same_saved (same_copies e.saved) ready.small (λ told state at. record { base = refl; newest = refl; accepted = at.accepted }))

    proceeds_memory : (error : AllocError) → Proceeds tells (λ s. s) (Err (Memory error)) e h v d
    proceeds_memory error =
        proceeds_moved tells (λ s. s) (Err (Memory error)) e h v d
        (moves_memory tells (λ s. s) e h v d ready still unspent (ap (λ (k : Kept). k.tables.definitions) drop ∙ ap (λ (k : Kept). k.tables.definitions) is) (ap (λ (k : Kept). k.space.lists) drop ∙ ap (λ (k : Kept). k.space.lists) is)
        (ap (λ (k : Kept). k.charges) drop ∙ ap (λ (k : Kept). k.charges) is) includes same_saved error)

    -- for want of memory the view keeps what it kept
    pub wanting_own : (y : View) → IsSameView x y → y.commands.items ≡ x.commands.items → (error : AllocError) (out : List ℕ) → StepsOwn tells command (Err (Memory error)) out e h x y v d
    unfolding still
    wanting_own y same unnoted error out = record {
      proceeds = proceeds_memory error;
      rests = same_saved;
      reads = calls.reads;
      still = still;
      own = record { ready = same_ready tells x y same before after same_pages xready; answered = tt; means = same_means tells x y same before after same_pages; unnoted = unnoted; one_more = inl unnoted };
    }

    -- the command was refused
    pub refused_own : (y : View) → IsSameView x y → y.commands.items ≡ x.commands.items → (refusal : Refusal)
        → (IsTrue tells → (l : Layout) → Shows tells (view x.defs.definitions x.space (view_contents x.old.entries x.own.entries [] (reverse x.free.items) before)) l → outcome (Ok command) (catalogue_of l) ≡ Err refusal)
        → StepsOwn tells command (Ok tt) (refusal_line refusal) e h x y v d
    unfolding still
    refused_own y same unnoted refusal refused = record {
      proceeds = proceeds_ok;
      rests = same_saved;
      reads = calls.reads;
      still = still;
      own = record {
        ready = same_ready tells x y same before after same_pages xready;
        answered = refused_in tells command x before after xready y refusal unnoted refused (same_means tells x y same before after same_pages);
        means = tt;
        unnoted = tt;
        one_more = inl unnoted;
      };
    }

    -- it was answered
    module _ (effect : Effect) (out : List ℕ) (changes : List Entry) (free : List ℕ) (y : View)
        (carried : CarriedOut tells command (Ok effect) out (view x.defs.definitions x.space (view_contents x.old.entries x.own.entries [] (reverse x.free.items) before)) (view_contents x.old.entries x.own.entries changes (reverse free) (contents_over g.store d)))
        (keeps : KeepsEffect {E = AllocError} command effect (Ok tt) changes free x y) where
      abbrev left : Contents
      left = view_contents x.old.entries x.own.entries changes (reverse free) (contents_over g.store d)

      -- what was committed last is what the engine read
      leaf_read : IsTrue tells → (k : ℕ) → after.page k ≡ read_pages g.store d.held k
      leaf_read told k =
          same_pages.pages k ∙ sym (λ i. over (ready.idle.batch i) (over ((ready.closed rests).transaction i) (committed_pages e.store v.held)) k) ∙ sym (reads told k)

      taken_pages : TakesEffect effect changes free x y → IsTrue tells → EqualPages left.page (pages_of y after.page)
      taken_pages takes told k =
          takes.own (over y.old.entries after.page) k ∙ (λ i. over changes (over x.own.entries (over (takes.old i).entries after.page)) k)
          ∙ leaf x.old.entries x.own.entries changes after.page (read_pages g.store d.held) k (leaf_read told k)

      same_left : IsSameView x y → is_nothing effect ≡ true → IsTrue tells → EqualPages left.page (pages_of y after.page)
      same_left same none told k = reads_alike tells x y same before after same_pages k ∙ sym ((carried.stays none).pages told k)

      turns_by : y.defs.definitions ≡ definitions_after effect x.defs.definitions → y.space.lists ≡ lists_after effect x.space.lists → reverse y.free.items ≡ left.free → (IsTrue tells → EqualPages left.page (pages_of y after.page)) → StepsOwn tells command (Ok tt) out e h x y v d
      unfolding still
      turns_by definitions lists frees pages = record {
        proceeds = proceeds_ok;
        rests = same_saved;
        reads = calls.reads;
        still = still;
        own = record {
          ready = ready_then tells command x before after xready effect out left carried y same_pages.count definitions lists frees pages;
          answered = answered_then tells command x before after xready effect out left carried y same_pages.count definitions lists frees pages keeps.noted;
          means = tt;
          unnoted = tt;
          one_more = more_or_none (is_writing command) command y.commands.items x.commands.items keeps.noted;
        };
      }

      -- what has an effect writes
      writes : is_nothing effect ≡ false → is_writing command ≡ true
      writes some = elim (either (is_writing command)) [
        | inl is ↦ is
        | inr none ↦ let wrong = carried.reads none in absurd (cc)
      ]

      pub answered_own : StepsOwn tells command (Ok tt) out e h x y v d
      answered_own = elim (either (is_nothing effect)) [
        | inl none ↦
            let same = keeps.nothing none in
            turns_by (same.definitions ∙ sym (none_defined effect x.defs.definitions none)) (same.lists ∙ sym (none_listed effect x.space.lists none))
            (ap (λ (l : List ℕ). reverse l) same.free ∙ sym (carried.stays none).free) (same_left same none)
        | inr some ↦
            let takes = keeps.taken (writes some) some in
            turns_by takes.definitions takes.lists (ap (λ (l : List ℕ). reverse l) takes.free) (taken_pages takes)
      ]

  -- the disk failed
  pub failed_own : (f : Kept) (y : View) (out : List ℕ) → Rose v.faults d.faults → f ≡ record h { spent = Some d.faults } → StepsOwn tells command (Err Disk) out e f x y v d
  failed_own f y out rose spends = record {
    proceeds = proceeds_moved tells (λ s. s) (Err Disk) e f v d (moves_disk tells (λ s. s) e f v d ready calls.reads rose (ap (λ (k : Kept). k.spent) spends));
    rests = ap (λ (k : Kept). k.saved) spends ∙ same_saved;
    reads = calls.reads;
    still = tt;
    own = tt;
  }

-- an engine without a transaction has committed all that it has
pub newest_is : (tells : Bool) (e : Kept) (v : Device) → IsReady tells e v → e.saved ≡ None → newest e v ≡ contents_over e.store v
newest_is tells e v ready rests = ap (λ (s : Store). contents_over s v) (rolled_back_closed tells e.store v ready.idle (ready.closed rests))

-- what a view is seen as over what the engine reads, with no change yet
module _ (tells : Bool) (e : Kept) (v : Device) (ready : IsReady tells e v) (rests : e.saved ≡ None) (x : View) (changes : List Entry) (free : List ℕ) (none : changes ≡ []) (same : free ≡ x.free.items) where
  abbrev At : List Entry × List ℕ × Contents → Seen
  At p = view x.defs.definitions x.space (view_contents x.old.entries x.own.entries p.0 (reverse p.1) p.2)

  there : ◌≡◌ {A = List Entry × List ℕ × Contents} ([], x.free.items, newest e v) (changes, free, contents_over e.store v)
  there = λ i. (sym none i, sym same i, newest_is tells e v ready rests i)

  pub seen_given : IsViewReady tells x (newest e v) → IsSeen tells (At (changes, free, contents_over e.store v))
  seen_given xready = subst (λ (p : List Entry × List ℕ × Contents). IsSeen tells (At p)) there xready

  pub carried_given : (command : Command) (r : Result Effect Stop) (out : List ℕ) (c : Contents) → CarriedOut tells command r out (At (changes, free, contents_over e.store v)) c → CarriedOut tells command r out (At ([], x.free.items, newest e v)) c
  carried_given command r out c carried = subst (λ (p : List Entry × List ℕ × Contents). CarriedOut tells command r out (At p) c) (sym there) carried

-- the same, where want of memory is passed on
pub own_by_want : (tells : Bool) (command : Command) (r : Result Unit StepFault) (out : List ℕ) (e f : Kept) (x y : View) (v w : Device) (error : AllocError) → IsErrAnd r (λ k. k ≡ Memory error) → StepsOwn tells command (Err (Memory error)) [] e f x y v w
    → StepsOwn tells command r (reply_of r out) e f x y v w
own_by_want tells command (Ok done) out e f x y v w error is steps = absurd is
own_by_want tells command (Err k) out e f x y v w error is steps = subst (λ (z : StepFault). StepsOwn tells command (Err z) [] e f x y v w) (sym is) steps

-- what a view keeps of a command that writes, and of one that doesn't
pub of_writing : {E : Type 0} (command : Command) (effect : Effect) (result : Result Unit E) (changes : List Entry) (free : List ℕ) (x y : View) → is_writing command ≡ true
    → KeepsWriting command effect result changes free x y → KeepsEffect command effect result changes free x y
of_writing command effect (Ok done) changes free x y writes keeps = record {
  noted = subst (λ (b : Bool). y.commands.items ≡ (if b then x.commands.items ++ command ∷ [] else x.commands.items)) (sym writes) keeps.noted;
  taken = λ is. keeps.taken;
  nothing = keeps.nothing;
  unnoted = tt;
  err = tt;
}
of_writing command effect (Err error) changes free x y writes keeps = record { noted = tt; taken = tt; nothing = tt; unnoted = keeps.unnoted; err = keeps.err }

pub of_reading : (E : Type 0) (command : Command) (effect : Effect) (changes : List Entry) (free : List ℕ) (x : View) → is_writing command ≡ false → KeepsEffect {E = E} command effect (Ok tt) changes free x x
of_reading E command effect changes free x reads = record {
  noted = subst (λ (b : Bool). x.commands.items ≡ (if b then x.commands.items ++ command ∷ [] else x.commands.items)) (sym reads) refl;
  taken = λ writes. absurd (cc);
  nothing = λ is. is_itself x;
  unnoted = tt;
  err = tt;
}

-- other commands leave the rest
same_but_noted : (x m : View) → m ≡ record x { commands = m.commands } → IsSameView x m
same_but_noted x m is = record {
  definitions = ap (λ (v : View). v.defs.definitions) is;
  lists = ap (λ (v : View). v.space.lists) is;
  own = ap (λ (v : View). v.own.entries) is;
  old = ap (λ (v : View). v.old) is;
  free = ap (λ (v : View). v.free.items) is;
}

same_then : (x m y : View) → IsSameView x m → IsSameView m y → IsSameView x y
same_then x m y one two = record {
  definitions = two.definitions ∙ one.definitions;
  lists = two.lists ∙ one.lists;
  own = two.own ∙ one.own;
  old = two.old ∙ one.old;
  free = two.free ∙ one.free;
}

takes_between : (effect : Effect) (changes : List Entry) (free : List ℕ) (x m y : View) → IsSameView x m → TakesEffect effect changes free m y → TakesEffect effect changes free x y
takes_between effect changes free x m y one takes = record {
  definitions = takes.definitions ∙ ap (definitions_after effect) one.definitions;
  lists = takes.lists ∙ ap (lists_after effect) one.lists;
  own = λ pages number. takes.own pages number ∙ ap (λ (es : List Entry). over changes (over es pages) number) one.own;
  old = takes.old ∙ one.old;
  free = takes.free;
}

-- there is no memory for a copy of the command
pub no_copy : (command : Command) (effect : Effect) (r : Result Unit AllocError) (error : AllocError) (changes : List Entry) (free : List ℕ) (x m : View) → IsErrAnd r (λ k. k ≡ error) → m ≡ record x { commands = m.commands } → m.commands.items ≡ x.commands.items
    → KeepsWriting command effect r changes free x m
no_copy command effect (Ok done) error changes free x m err others items = absurd err
no_copy command effect (Err e) error changes free x m err others items = record { noted = tt; taken = tt; nothing = tt; unnoted = items; err = same_but_noted x m others }

-- there is none for its changes, and it is forgotten
pub no_effect : (command : Command) (effect : Effect) (error : AllocError) (changes : List Entry) (free : List ℕ) (x m y z : View) (count : ℕ) → m ≡ record x { commands = m.commands } → m.commands.items ≡ x.commands.items ++ command ∷ []
    → IsSameView m y → y.commands ≡ m.commands → z ≡ record y { commands = z.commands } → z.commands.items ≡ take count y.commands.items → count ≡ length x.commands.items → KeepsWriting command effect (Err error) changes free x z
no_effect command effect error changes free x m y z count others items same commands only cut is =
    let xs = x.commands.items in
    record {
      noted = tt;
      taken = tt;
      nothing = tt;
      unnoted = cut ∙ (λ i. take (is i) (commands i).items) ∙ ap (take (length xs)) items ∙ take-append-le (length xs) xs (command ∷ []) (omega arith) ∙ take_all (length xs) xs (omega arith);
      err = same_then x y z (same_then x m y (same_but_noted x m others) same) (same_but_noted y z only);
    }

-- the command is noted
pub noted_now : (E : Type 0) (command : Command) (effect : Effect) (changes : List Entry) (free : List ℕ) (x m y : View) → m ≡ record x { commands = m.commands } → m.commands.items ≡ x.commands.items ++ command ∷ []
    → (is_nothing effect ≡ false → TakesEffect effect changes free m y) → (is_nothing effect ≡ true → y ≡ m) → y.commands ≡ m.commands → KeepsWriting {E = E} command effect (Ok tt) changes free x y
noted_now E command effect changes free x m y others items taken nothing commands = record {
  noted = ap (λ (c : Vec Command Global). c.items) commands ∙ items;
  taken = λ is. takes_between effect changes free x m y (same_but_noted x m others) (taken is);
  nothing = λ is. subst (λ (v : View). IsSameView x v) (sym (nothing is)) (same_but_noted x m others);
  unnoted = tt;
  err = tt;
}
