-- The commands of a view in a transaction of the engine: begun, carried out, and committed or given up.
use Rattle.std.specs.declared.alloc.AllocError.{AllocError}
use Rattle.std.proofs.Common.{◌≡◌, ◌⊎◌, ℕ, ◌+◌, ◌<◌, Bool, true, false, IsTrue, Option, Some, None, IfSome, Result, Ok, Err, IsErrAnd, IsSome, List, length, refl, ap, sym, ◌∙◌, subst, arith}
use Rattle.std.specs.Option.{option_map}
use Rattle.ts_base.specs.declared.refusal.Refusal.{Refusal}
use Rattle.ts_command.specs.declared.command.Command.{Command}
use Rattle.ts_command.specs.declared.command.Command.TheVariants as commands
use Rattle.ts_disk.specs.Device.{Device, Lawful, Rose, LeavesOnly}
use Rattle.ts_disk.proofs.Moments.{leaves_map, then_on}
use Rattle.ts_journal.specs.Moment.{OnlyReads}
use Rattle.ts_journal.proofs.CallerLemmas.{keeps_then}
use Rattle.ts_store.proofs.CallerLemmas.{reads_none, reads_then}
use Rattle.ts_model.specs.Catalogue.{Catalogue}
use Rattle.ts_volume.specs.Volume.{MeansCatalogue}
use Rattle.ts_answer.specs.Reply.{Tried, ok_line}
use Rattle.ts_answer.specs.Answer.{State, resting, opened}
use Rattle.ts_answer.proofs.CallerLemmas.{opened_outside, rolled_back_inside}
use Rattle.ts_sessions.specs.Machine.{replayed}
use Rattle.ts_views.specs.declared.view.View.{View}
use Rattle.ts_engine.specs.declared.fault.StepFault.{StepFault}
use Rattle.ts_engine.specs.declared.fault.StepFault.TheVariants.{Disk, Memory, Closed}
use Rattle.ts_engine.specs.declared.transaction.Saved.{Saved}
use Rattle.ts_engine.specs.Engine.{Kept, IsReady, IsAt}
use Rattle.ts_engine.specs.Moves.{BeforeOrAfter}
use Rattle.ts_engine.specs.Step.{Stepped, state_after}
use Rattle.ts_engine.specs.Transaction.{Begins, RollsBackTo}
use Rattle.ts_engine.proofs.CallerLemmas.{begins_step, read_moments, rests, rolled_step, run_answers}
use Rattle.ts_view_catalogues.specs.Catalogues.{IsViewReady}
use Rattle.ts_session_engine.specs.Beside.{newest, GoesOn, Stays, AllStay, AreViewsReady, SamePages}
use Rattle.ts_session_engine.specs.Committed.{CommitsBeside, IsCommitReply, come_to, state_behind}
use Rattle.ts_session_engine.specs.Replayed.{IsOpenWith, ComesTo, Replays, EndsAt, Ends, CommitsKept}
use Rattle.ts_session_engine.proofs.ReplayLemmas.{goes_all, goes_both}
use Rattle.ts_session_engine.proofs.TurnLemmas.{each_has}
use Rattle.ts_session_engine.proofs.StayLemmas.{same_stay, same_newest, stay_then}

-- what commands come to, where all were accepted, and where one was refused
module _ (tells : Bool) (list : List Command) (out : List ℕ) (e f : Kept) (v w : Device) (told : IsTrue tells) (cat : Catalogue) (at : IsAt tells e (opened cat cat 0) v) where
  accepted_all : Replays tells 0 list (Ok true) out e f v w → (next : Catalogue) × (replayed cat list ≡ Ok next) × IsAt tells f (opened cat next (length list)) w
  accepted_all p = by (replayed cat list) refl (p.comes told cat cat at)
    where
      by : (t : Tried Catalogue) → replayed cat list ≡ t → ComesTo tells t cat 0 (length list) true out f w → (next : Catalogue) × (replayed cat list ≡ Ok next) × IsAt tells f (opened cat next (length list)) w
      by (Ok next) is comes =
          let same : 0 + length list ≡ length list = omega arith in
          (next, is, subst (λ (k : ℕ). IsAt tells f (opened cat next k) w) same comes.1)
      by (Err refusal) is comes = let wrong = comes.0 in absurd (cc)

  refused_some : Replays tells 0 list (Ok false) out e f v w → EndsAt tells list (Ok false) out cat f w
  refused_some p = by (replayed cat list) refl (p.comes told cat cat at)
    where
      by : (t : Tried Catalogue) → replayed cat list ≡ t → ComesTo tells t cat 0 (length list) false out f w → EndsAt tells list (Ok false) out cat f w
      by (Ok next) is comes = let wrong = comes.0 in absurd (cc)
      by (Err refusal) is comes = let here = p.base told cat cat at in (refusal, here.0, here.1, is, comes.1, here.2)

-- where a commit of them leads
behind_ok : (list : List Command) (cat next : Catalogue) → replayed cat list ≡ Ok next → state_behind list (resting cat) ≡ resting next
behind_ok list cat next is = ap (λ (t : Tried Catalogue). resting (come_to cat t)) is

behind_err : (list : List Command) (cat : Catalogue) (refusal : Refusal) → replayed cat list ≡ Err refusal → state_behind list (resting cat) ≡ resting cat
behind_err list cat refusal is = ap (λ (t : Tried Catalogue). resting (come_to cat t)) is

module _ (tells : Bool) (list : List Command) (e f : Kept) (v w : Device) (ready : IsReady tells e v) where
  quiet : OnlyReads tells v w → IsTrue tells → (cat : Catalogue) → IsAt tells e (opened cat cat 0) v → LeavesOnly v w (BeforeOrAfter (resting cat) (state_behind list (resting cat)) v)
  quiet reads told cat at = read_moments tells (λ s. state_behind list (resting cat)) e v w ready reads (opened cat cat 0) at

  -- one was refused
  pub ends_refused : (out : List ℕ) (views : List (Option View)) → Replays tells 0 list (Ok false) out e f v w → Ends tells list (Ok false) out e f views views v w
  ends_refused out views p = record {
    ready = p.ready;
    rests = λ is. absurd (cc);
    ends = λ told cat at. refused_some tells list out e f v w told cat at p;
    disk = λ is. absurd (cc);
    closed = p.closed;
    moments = quiet p.reads;
    quiet = λ not. p.reads;
    others = p.reads.keeps;
    no_fault = p.no_fault;
    views = same_stay tells (newest e v) (newest f w) views p.newest;
  }

  -- they weren't all tried
  pub ends_stopped : (fault : StepFault) (out : List ℕ) (views : List (Option View)) → Replays tells 0 list (Err fault) out e f v w → Ends tells list (Err fault) out e f views views v w
  ends_stopped fault out views p = record {
    ready = p.ready;
    rests = λ is. absurd (cc);
    ends = ends_by_base fault p.base;
    disk = p.disk;
    closed = p.closed;
    moments = quiet p.reads;
    quiet = goes_all {T = Bool} (Err fault) ((◌≡◌ {A = Result Bool StepFault} (Err fault) (Ok true) → ⊥) → OnlyReads tells v w) (λ not. p.reads);
    others = p.reads.keeps;
    no_fault = p.no_fault;
    views = goes_both {T = Bool} (Err fault) (SamePages (newest e v) (newest f w)) (AllStay tells (newest e v) (newest f w) views views) (λ same. same_stay tells (newest e v) (newest f w) views same) p.newest;
  }
    where
      ends_by_base : (k : StepFault) → GoesOn {T = Bool} (Err k) (IsTrue tells → (base work : Catalogue) → IsAt tells e (opened base work 0) v → (next : Catalogue) × (count : ℕ) × IsAt tells f (opened base next count) w)
          → GoesOn {T = Bool} (Err k) (IsTrue tells → (cat : Catalogue) → IsAt tells e (opened cat cat 0) v → EndsAt tells list (Err k) out cat f w)
      ends_by_base Disk base = tt
      ends_by_base (Memory error) base = λ told cat at. base told cat cat at
      ends_by_base (Closed faults) base = tt

  -- all were accepted: it was committed, or not
  module _ (before out : List ℕ) (g : Kept) (old new : List (Option View)) (z : Device) (p : Replays tells 0 list (Ok true) before e f v w) where
    moments_then : (r : Result Unit StepFault) → CommitsKept tells r out f g old new w z → IsTrue tells → (cat : Catalogue) → IsAt tells e (opened cat cat 0) v → LeavesOnly v z (BeforeOrAfter (resting cat) (state_behind list (resting cat)) v)
    moments_then r kept told cat at =
        let done = accepted_all tells list before e f v w told cat at p in
        then_on v w z (BeforeOrAfter (resting cat) (state_behind list (resting cat)) v) (quiet p.reads told cat at)
        (leaves_map w z (BeforeOrAfter (resting cat) (resting done.0) w) (BeforeOrAfter (resting cat) (state_behind list (resting cat)) v)
        (λ image said now. (subst (λ (s : State). MeansCatalogue image cat ⊎ MeansCatalogue image s.base) (sym (behind_ok list cat done.0 done.1)) now.0, now.1 ∙ p.reads.keeps.said))
        (kept.moments told cat done.0 (length list) done.2))

    views_then : AllStay tells (newest f w) (newest g z) old new → AllStay tells (newest e v) (newest g z) old new
    views_then stay = stay_then tells (newest e v) (newest f w) (newest g z) old old new (same_stay tells (newest e v) (newest f w) old p.newest) stay

    pub ends_done : CommitsKept tells (Ok tt) out f g old new w z → Ends tells list (Ok true) out e g old new v z
    ends_done kept = record {
      ready = kept.ready;
      rests = λ is. kept.rests;
      ends = λ told cat at.
          let done = accepted_all tells list before e f v w told cat at p in
          let ends = kept.ends told cat done.0 (length list) done.2 in
          (done.0, done.1, ends.0, ends.1);
      disk = λ is. absurd (cc);
      closed = λ faults is. absurd (cc);
      moments = moments_then (Ok tt) kept;
      quiet = λ not. absurd (not refl);
      others = keeps_then tells v w z p.reads.keeps kept.others;
      no_fault = kept.no_fault ∙ p.no_fault;
      views = views_then kept.views;
    }

    pub ends_kept : (fault : StepFault) → CommitsKept tells (Err fault) out f g old new w z → Ends tells list (Err fault) out e g old new v z
    ends_kept Disk kept = record {
      ready = tt;
      rests = λ is. absurd (cc);
      ends = tt;
      disk = λ is. let now = kept.disk refl in (subst (λ (n : ℕ). Rose n z.faults) p.no_fault now.0, now.1);
      closed = λ faults is. absurd (cc);
      moments = moments_then (Err Disk) kept;
      quiet = tt;
      others = keeps_then tells v w z p.reads.keeps kept.others;
      no_fault = tt;
      views = tt;
    }
    ends_kept (Memory error) kept = record {
      ready = kept.ready;
      rests = λ is. absurd (cc);
      ends = λ told cat at.
          let done = accepted_all tells list before e f v w told cat at p in
          (done.0, length list, kept.stays told (opened cat done.0 (length list)) done.2);
      disk = λ is. absurd (cc);
      closed = λ faults is. absurd (cc);
      moments = moments_then (Err (Memory error)) kept;
      quiet = λ not. reads_then tells v w z p.reads kept.quiet;
      others = keeps_then tells v w z p.reads.keeps kept.others;
      no_fault = kept.no_fault ∙ p.no_fault;
      views = views_then kept.views;
    }
    ends_kept (Closed faults) kept = absurd (kept.closed faults refl)

-- a state without a transaction
at_rest : (state : State) → state.transaction ≡ None → state ≡ resting state.base
at_rest state none = λ i. record { base = state.base; transaction = none i }

-- the transaction is begun
begin_state : (cat : Catalogue) → state_after commands.Begin (resting cat) ≡ opened cat cat 0
begin_state cat = ap (λ (a : List ℕ × State). a.1) (run_answers (resting cat) commands.Begin (ok_line, opened cat cat 0) (opened_outside commands.Begin cat refl))

roll_state : (base work : Catalogue) (count : ℕ) → state_after commands.Rollback (opened base work count) ≡ resting base
roll_state base work count = ap (λ (a : List ℕ × State). a.1) (run_answers (opened base work count) commands.Rollback (ok_line, resting base) (rolled_back_inside commands.Rollback base work count refl))

pub begun_open : (e f : Kept) → Begins e f → IsOpenWith 0 f
begun_open e f begins = ap (λ (k : Kept). option_map (λ (s : Saved). s.accepted) k.saved) begins.now ∙ ap Some begins.accepted

module _ (tells : Bool) (e f : Kept) (v : Device) (lawful : Lawful tells v) (ready : IsReady tells e v) (none : e.saved ≡ None) (begins : Begins e f) where
  begun : Stepped tells commands.Begin (Ok tt) ok_line e f v v
  begun = begins_step tells commands.Begin e f v lawful ready (Ok tt) ok_line refl none refl begins tt

  pub begun_ready : IsReady tells f v
  unfolding begun
  begun_ready = begun.moves.ready

  pub begun_at : IsTrue tells → (cat : Catalogue) → IsAt tells e (resting cat) v → IsAt tells f (opened cat cat 0) v
  unfolding begun
  begun_at told cat at = subst (λ (s : State). IsAt tells f s v) (begin_state cat) (begun.moves.at told (resting cat) at)

  pub begun_newest : SamePages (newest e v) (newest f v)
  begun_newest = same_newest e.store f.store v v (ap (λ (k : Kept). k.store.pages) begins.now) (ap (λ (k : Kept). k.store.overlay) begins.now) refl

-- it is given up
module _ (tells : Bool) (f h : Kept) (w : Device) (lawful : Lawful tells w) (ready : IsReady tells f w) (rolls : IfSome f.saved (RollsBackTo f h)) (same : f.saved ≡ None → h ≡ f) where
  pub given_none : h.saved ≡ None
  given_none = by f.saved refl rolls
    where
      by : (o : Option Saved) → f.saved ≡ o → IfSome o (RollsBackTo f h) → h.saved ≡ None
      by None is rolls = ap (λ (k : Kept). k.saved) (same is) ∙ is
      by (Some s) is rolls = ap (λ (k : Kept). k.saved) rolls.now

  pub given_ready : IsReady tells h w
  given_ready = by f.saved refl rolls
    where
      by : (o : Option Saved) → f.saved ≡ o → IfSome o (RollsBackTo f h) → IsReady tells h w
      by None is rolls = subst (λ (k : Kept). IsReady tells k w) (sym (same is)) ready
      by (Some s) is rolls = (rolled_step tells commands.Rollback f w lawful ready refl s is h rolls).moves.ready

  pub given_at : IsTrue tells → (base work : Catalogue) (count : ℕ) → IsAt tells f (opened base work count) w → IsAt tells h (resting base) w
  given_at told base work count at = by f.saved refl rolls
    where
      by : (o : Option Saved) → f.saved ≡ o → IfSome o (RollsBackTo f h) → IsAt tells h (resting base) w
      by None is rolls = let wrong = sym (ap (option_map (λ (s : Saved). s.accepted)) is) ∙ at.accepted in absurd (cc)
      by (Some s) is rolls =
          subst (λ (t : State). IsAt tells h t w) (roll_state base work count) ((rolled_step tells commands.Rollback f w lawful ready refl s is h rolls).moves.at told (opened base work count) at)

  pub given_newest : SamePages (newest f w) (newest h w)
  given_newest = by f.saved refl rolls
    where
      by : (o : Option Saved) → f.saved ≡ o → IfSome o (RollsBackTo f h) → SamePages (newest f w) (newest h w)
      by None is rolls = same_newest f.store h.store w w (ap (λ (k : Kept). k.store.pages) (same is)) (ap (λ (k : Kept). k.store.overlay) (same is)) refl
      by (Some s) is rolls = same_newest f.store h.store w w (ap (λ (k : Kept). k.store.pages) rolls.now) (ap (λ (k : Kept). k.store.overlay) rolls.now) refl

-- All of it.
module _ (tells : Bool) (list : List Command) (e0 e : Kept) (v : Device) (lawful : Lawful tells v) (ready : IsReady tells e0 v) (none : e0.saved ≡ None) where
  -- a state at which the engine stands
  stands_at : (state : State) → IsAt tells e0 state v → IsAt tells e0 (resting state.base) v
  stands_at state at = subst (λ (s : State). IsAt tells e0 s v) (at_rest state (rests tells e0 v none state at)) at

  behind_at : (state : State) → IsAt tells e0 state v → state_behind list state ≡ state_behind list (resting state.base)
  behind_at state at = refl

  -- there was no memory to begin
  pub commits_unbegun : (error : AllocError) (out : List ℕ) (h : Kept) (views : List (Option View)) → h ≡ e0 → CommitsBeside tells list (Err (Memory error)) out e0 h views views v v
  commits_unbegun error out h views same =
      subst (λ (k : Kept). CommitsBeside tells list (Err (Memory error)) out e0 k views views v v) (sym same)
      (record {
        proceeds = record {
          ready = tt;
          at = tt;
          fault = (ready, λ told state at. at, refl);
          moments = λ told state at. read_moments tells (state_behind list) e0 v v ready (reads_none tells v lawful) state at;
          others = (reads_none tells v lawful).keeps;
          no_fault = tt;
        };
        quiet = λ not. reads_none tells v lawful;
        rests = none;
        views = same_stay tells (newest e0 v) (newest e0 v) views (record { count = refl; pages = λ k. refl });
        answered = tt;
      })

  module _ (begins : Begins e0 e) (out : List ℕ) (f : Kept) (old new : List (Option View)) (w : Device) where
    opened_at : IsTrue tells → (state : State) → IsAt tells e0 state v → IsAt tells e (opened state.base state.base 0) v
    opened_at told state at = begun_at tells e0 e v lawful ready none begins told state.base (stands_at state at)

    moments_of : (r : Result Bool StepFault) → Ends tells list r out e f old new v w → IsTrue tells → (state : State) → IsAt tells e0 state v → LeavesOnly v w (BeforeOrAfter state (state_behind list state) v)
    moments_of r ends told state at = ends.moments told state.base (opened_at told state at)

    views_of : (h : Kept) → SamePages (newest f w) (newest h w) → AllStay tells (newest e v) (newest f w) old new → AllStay tells (newest e0 v) (newest h w) old new
    views_of h same stay =
        stay_then tells (newest e0 v) (newest e v) (newest h w) old old new (same_stay tells (newest e0 v) (newest e v) old (begun_newest tells e0 e v lawful ready none begins))
        (stay_then tells (newest e v) (newest f w) (newest h w) old new new stay (same_stay tells (newest f w) (newest h w) new same))

    -- committed
    pub commits_done : Ends tells list (Ok true) out e f old new v w → CommitsBeside tells list (Ok true) out e0 f old new v w
    commits_done ends = record {
      proceeds = record {
        ready = ends.ready;
        at = λ told state at.
            let done = ends.ends told state.base (opened_at told state at) in
            subst (λ (s : State). IsAt tells f s w) (sym (behind_ok list state.base done.0 done.1)) done.3;
        fault = tt;
        moments = moments_of (Ok true) ends;
        others = ends.others;
        no_fault = ends.no_fault;
      };
      quiet = λ not. absurd (not refl);
      rests = ends.rests refl;
      views = views_of f (record { count = refl; pages = λ k. refl }) ends.views;
      answered = λ told cat at.
          let done = ends.ends told cat (opened_at told (resting cat) at) in
          subst (λ (t : Tried Catalogue). IsCommitReply (length list) t true out) (sym done.1) (refl, done.2);
    }

    -- the disk failed
    pub commits_failed : Ends tells list (Err Disk) out e f old new v w → CommitsBeside tells list (Err Disk) out e0 f old new v w
    commits_failed ends = record {
      proceeds = record { ready = tt; at = tt; fault = ends.disk refl; moments = moments_of (Err Disk) ends; others = ends.others; no_fault = tt };
      quiet = tt;
      rests = tt;
      views = tt;
      answered = tt;
    }

    -- given up
    module _ (h : Kept) (later : Lawful tells w) where
      pub commits_refused : (ends : Ends tells list (Ok false) out e f old new v w) → IfSome f.saved (RollsBackTo f h) → (f.saved ≡ None → h ≡ f) → CommitsBeside tells list (Ok false) out e0 h old new v w
      commits_refused ends rolls same = record {
        proceeds = record {
          ready = given_ready tells f h w later ends.ready rolls same;
          at = λ told state at.
              let came = ends.ends told state.base (opened_at told state at) in
              subst (λ (s : State). IsAt tells h s w) (sym (behind_err list state.base came.0 came.3)) (given_at tells f h w later ends.ready rolls same told state.base came.1 came.2 came.5);
          fault = tt;
          moments = moments_of (Ok false) ends;
          others = ends.others;
          no_fault = ends.no_fault;
        };
        quiet = ends.quiet;
        rests = given_none tells f h w later ends.ready rolls same;
        views = views_of h (given_newest tells f h w later ends.ready rolls same) ends.views;
        answered = λ told cat at.
            let came = ends.ends told cat (opened_at told (resting cat) at) in
            subst (λ (t : Tried Catalogue). IsCommitReply (length list) t false out) (sym came.3) (refl, came.4);
      }

      pub commits_wanting : (error : AllocError) (ends : Ends tells list (Err (Memory error)) out e f old new v w) → IfSome f.saved (RollsBackTo f h) → (f.saved ≡ None → h ≡ f) → CommitsBeside tells list (Err (Memory error)) out e0 h old new v w
      commits_wanting error ends rolls same = record {
        proceeds = record {
          ready = tt;
          at = tt;
          fault = (
            given_ready tells f h w later ends.ready rolls same,
            λ told state at.
                let came = ends.ends told state.base (opened_at told state at) in
                subst (λ (s : State). IsAt tells h s w) (sym (at_rest state (rests tells e0 v none state at))) (given_at tells f h w later ends.ready rolls same told state.base came.0 came.1 came.2),
            ends.no_fault,
          );
          moments = moments_of (Err (Memory error)) ends;
          others = ends.others;
          no_fault = tt;
        };
        quiet = ends.quiet;
        rests = given_none tells f h w later ends.ready rolls same;
        views = views_of h (given_newest tells f h w later ends.ready rolls same) ends.views;
        answered = tt;
      }

-- a transaction is open
pub open_is : (n : ℕ) (e : Kept) → IsOpenWith n e → IsSome e.saved
open_is n e open_n = by e.saved open_n
  where
    by : (o : Option Saved) → option_map (λ (s : Saved). s.accepted) o ≡ Some n → IsSome o
    by None is = absurd (cc)
    by (Some s) is = refl

-- views stay ready
pub views_ready : (tells : Bool) (e f : Kept) (v w : Device) (views : List (Option View)) → SamePages (newest e v) (newest f w) → AreViewsReady tells e v views → AreViewsReady tells f w views
views_ready tells e f v w views same ready =
    each_has (Stays tells (newest e v) (newest f w)) (λ x. IsViewReady tells x (newest e v)) (λ x. IsViewReady tells x (newest f w)) (λ x y stays here. stays.catalogue.ready here) views views
    (same_stay tells (newest e v) (newest f w) views same) ready

-- a fault is passed on
pub ends_by : (tells : Bool) (list : List Command) (r : Result Bool StepFault) (fault : StepFault) (out : List ℕ) (e f : Kept) (old new : List (Option View)) (v w : Device) → IsErrAnd r (λ k. k ≡ fault) → Ends tells list (Err fault) out e f old new v w → Ends tells list r out e f old new v w
ends_by tells list (Ok done) fault out e f old new v w is ends = absurd is
ends_by tells list (Err k) fault out e f old new v w is ends = subst (λ (z : StepFault). Ends tells list (Err z) out e f old new v w) (sym is) ends

-- a fault is passed on
pub commits_by : (tells : Bool) (list : List Command) (r : Result Bool StepFault) (fault : StepFault) (out : List ℕ) (e f : Kept) (old new : List (Option View)) (v w : Device) → IsErrAnd r (λ k. k ≡ fault) → CommitsBeside tells list (Err fault) out e f old new v w → CommitsBeside tells list r out e f old new v w
commits_by tells list (Ok done) fault out e f old new v w is commits = absurd is
commits_by tells list (Err k) fault out e f old new v w is commits = subst (λ (z : StepFault). CommitsBeside tells list (Err z) out e f old new v w) (sym is) commits

-- an engine that the disk didn't fail before isn't closed
pub never_closed : {A : Type 0} (tells : Bool) (list : List Command) (faults : ℕ) (out : List ℕ) (e f : Kept) (old new : List (Option View)) (v w : Device) → Ends tells list (Err (Closed faults)) out e f old new v w → A
never_closed tells list faults out e f old new v w ends = absurd (ends.closed faults refl)

-- with fewer commands than it may have there is place for one
pub few_open : (n : ℕ) (e : Kept) → IsOpenWith n e → n < 32 → IfSome e.saved (λ (s : Saved). s.accepted < 32)
few_open n e open_n few = by e.saved open_n
  where
    by : (o : Option Saved) → option_map (λ (s : Saved). s.accepted) o ≡ Some n → IfSome o (λ (s : Saved). s.accepted < 32)
    by None is = tt
    by (Some s) is = let same : s.accepted ≡ n = cc in omega (arith, same, few)
