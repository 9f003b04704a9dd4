-- Where one session alone has turns, it is answered as a run is.
use Rattle.std.proofs.Common.{◌≡◌, ◌≢◌, ℕ, ◌+◌, ◌-◌, ◌<◌, ◌≤◌, Bool, true, false, cond, pos, Option, Some, None, option_map, Ok, Err, List, [], ◌∷◌, ◌++◌, length, map, take, drop, get_or, set, replicate, refl, ap, sym, ◌∙◌, subst, arith}
use Rattle.std.specs.Prelude.{position}
use Rattle.std.specs.List.{AllByRecursion}
use Rattle.std.proofs.lemmas.List.{get_or-set_same, length-set, length-map, length-replicate, take_all, drop_all}
use Rattle.ts_base.specs.declared.refusal.Refusal.{Refusal}
use Rattle.ts_base.specs.declared.refusal.Refusal.TheVariants as refusals
use Rattle.ts_command.specs.declared.command.Command.{Command}
use Rattle.ts_command.specs.declared.boundary.Boundary.{Boundary}
use Rattle.ts_command.specs.declared.boundary.Boundary.TheVariants.{Opens, Commits, RollsBack, Alone}
use Rattle.ts_command.specs.Boundary.{boundary_of, is_writing}
use Rattle.ts_command.specs.Grammar.{Request}
use Rattle.ts_model.specs.Catalogue.{Catalogue}
use Rattle.ts_multi.specs.declared.object.Object.{Object}
use Rattle.ts_multi.specs.Objects.{written, meets}
use Rattle.ts_multi.specs.Touched.{objects}
use Rattle.ts_answer.specs.Reply.{ok_line, number_line, refusal_line}
use Rattle.ts_answer.specs.Answer.{Tried, Answered, outcome, State, resting, opened, committed, run_outcome, run_answer}
use Rattle.ts_answer.proofs.CallerLemmas.{run_refused, run_came, misread_refused, outside_refused, outside_came, opened_outside, committed_outside, rolled_back_outside, opened_inside, committed_inside, rolled_back_inside}
use Rattle.ts_answer_laws.specs.TransactionLaws.{said_to, behind}
use Rattle.ts_sessions.specs.Machine.{Commit, Snapshot, Machine, start, latest, snapshot_at, behind_commits, carried, replayed, begun_at, seen, wrote_by, conflict, state_of}
use Rattle.ts_sessions.specs.Steps.{Turn, Stepped, with_snapshot, with_commit, fresh, replied, unless_conflict, noted, accepted_or, as_alone, in_session, step_of, session_line, machine_answer}
use Rattle.ts_sessions.specs.Turns.{replies_by, behind_all}
use Rattle.ts_sessions.specs.Laws.{IsSound}
use Rattle.ts_sessions.proofs.CallerLemmas.{behind_commits_more, cleared, no_snapshot, sound_start, sound_step, count_step}
use Rattle.ts_session_laws.specs.Laws.{IsOfSessions, OneSessionIsARun}
use Rattle.ts_session_laws.proofs.InsideLemmas.{Inside, inside_step, reads_only}
use Rattle.ts_session_laws.proofs.SnapshotLemmas.{fresh_seen}

-- a transaction behind whose Begin nothing was committed
abbrev IsNewest : Machine → Option Snapshot → Type 0
IsNewest m pending = (s : Snapshot) → pending ≡ Some s → s.begun ≡ length m.commits

-- a turn and the same request of a run: the same reply, and the run's state is where the session stands
record Goes (who : ℕ) (stepped : Stepped) (ran : List ℕ × State) : Type 0 where
  reply : stepped.0 ≡ ran.0
  state : ran.1 ≡ state_of stepped.1 (snapshot_at who stepped.1)
  newest : IsNewest stepped.1 (snapshot_at who stepped.1)

-- where a transaction is there, or none
settles : (who : ℕ) (stepped : Stepped) (ran : List ℕ × State) (pending : Option Snapshot) → snapshot_at who stepped.1 ≡ pending → stepped.0 ≡ ran.0 → ran.1 ≡ state_of stepped.1 pending
    → IsNewest stepped.1 pending → Goes who stepped ran
settles who stepped ran pending at reply state newest = record {
  reply = reply;
  state = state ∙ (λ i. state_of stepped.1 (sym at i));
  newest = λ s is. newest s (sym at ∙ is);
}

none_newest : (m : Machine) → IsNewest m None
none_newest m s is = absurd (cc)

module _ (who : ℕ) (m : Machine) (within : who < length m.sessions) where
  module _ (request : Request) where
    refused_goes : (pending : Option Snapshot) → snapshot_at who m ≡ pending → IsNewest m pending → (refusal : Refusal) → run_outcome request (state_of m pending) ≡ Err refusal
        → Goes who (refusal_line refusal, m) (run_answer (state_of m pending) request)
    refused_goes pending at newest refusal is =
        let ran = run_refused request (state_of m pending) refusal is in
        settles who (refusal_line refusal, m) (run_answer (state_of m pending) request) pending at (λ i. (sym ran i).0) (λ i. (ran i).1) newest

  module _ (command : Command) where
    abbrev Run : Option Snapshot → List ℕ × State
    Run pending = run_answer (state_of m pending) (Ok command)

    by_outcome : (boundary : Option Boundary) (pending : Option Snapshot) (t : Tried (List ℕ × State)) → run_outcome (Ok command) (state_of m pending) ≡ t
        → Goes who (accepted_or who command boundary pending m t) (Run pending) → Goes who (as_alone who command boundary pending m) (Run pending)
    by_outcome boundary pending t is goes = subst (λ (u : Tried (List ℕ × State)). Goes who (accepted_or who command boundary pending m u) (Run pending)) (sym is) goes

    refused_alone : (boundary : Option Boundary) (pending : Option Snapshot) → snapshot_at who m ≡ pending → IsNewest m pending → (refusal : Refusal)
        → run_outcome (Ok command) (state_of m pending) ≡ Err refusal → Goes who (as_alone who command boundary pending m) (Run pending)
    refused_alone boundary pending at newest refusal is = by_outcome boundary pending (Err refusal) is (refused_goes (Ok command) pending at newest refusal is)

    -- Begin
    begins_goes : boundary_of command ≡ Some Opens → Goes who (as_alone who command (Some Opens) None m) (Run None)
    begins_goes opens =
        let came = opened_outside command (latest m) opens in
        let ran = run_came (Ok command) (resting (latest m)) ok_line (opened (latest m) (latest m) 0) came in
        by_outcome (Some Opens) None (Ok (ok_line, opened (latest m) (latest m) 0)) came
        (settles who (ok_line, with_snapshot who (Some (fresh m)) m) (Run None) (Some (fresh m)) (get_or-set_same m.sessions who (Some (fresh m)) None within)
        (λ i. (sym ran i).0) ((λ i. (ran i).1) ∙ (λ i. opened (latest m) (sym (fresh_seen m) i) 0)) (λ s is. let same : fresh m ≡ s = cc in sym (ap (λ (x : Snapshot). x.begun) same)))

    -- Rollback
    rolls_goes : (s : Snapshot) → boundary_of command ≡ Some RollsBack → Goes who (as_alone who command (Some RollsBack) (Some s) m) (Run (Some s))
    rolls_goes s rolls =
        let came = rolled_back_inside command (latest m) (seen m s) (length s.commands) rolls in
        let ran = run_came (Ok command) (state_of m (Some s)) ok_line (resting (latest m)) came in
        by_outcome (Some RollsBack) (Some s) (Ok (ok_line, resting (latest m))) came
        (settles who (ok_line, with_snapshot who None m) (Run (Some s)) None (cleared m.sessions who) (λ i. (sym ran i).0) (λ i. (ran i).1) (none_newest (with_snapshot who None m)))

    -- outside a transaction
    outside_goes : snapshot_at who m ≡ None → boundary_of command ≡ None → (writes : Bool) → is_writing command ≡ writes → (came : Tried Answered) → outcome (Ok command) (latest m) ≡ came
        → Goes who (as_alone who command None None m) (Run None)
    outside_goes at plain true w (Ok a) is =
        let came = outside_came command (latest m) a.0 a.1 plain is in
        let ran = run_came (Ok command) (resting (latest m)) a.0 (resting a.1) came in
        let after : Machine = with_commit a.1 (objects command).wrote m in
        let newer : latest after ≡ a.1 = behind_commits_more m.first m.commits (record { catalogue = a.1; wrote = (objects command).wrote }) in
        let goes = settles who (a.0, after) (Run None) None at (λ i. (sym ran i).0) ((λ i. (ran i).1) ∙ (λ i. resting (sym newer i))) (none_newest after) in
        by_outcome None None (Ok (a.0, resting a.1)) came (subst (λ (x : Bool). Goes who (a.0, cond x after m) (Run None)) (sym w) goes)
    outside_goes at plain false w (Ok a) is =
        let came = outside_came command (latest m) a.0 a.1 plain is in
        let ran = run_came (Ok command) (resting (latest m)) a.0 (resting a.1) came in
        let goes = settles who (a.0, m) (Run None) None at (λ i. (sym ran i).0) ((λ i. (ran i).1) ∙ (λ i. resting (reads_only (latest m) command a w is i))) (none_newest m) in
        by_outcome None None (Ok (a.0, resting a.1)) came (subst (λ (x : Bool). Goes who (a.0, cond x (with_commit a.1 (objects command).wrote m) m) (Run None)) (sym w) goes)
    outside_goes at plain writes w (Err refusal) is = refused_alone None None at (none_newest m) refusal (outside_refused command (latest m) refusal is)

    -- Commit: nothing was committed behind the Begin, so nothing stands in the way, and all is accepted again
    module _ (s : Snapshot) (newest : s.begun ≡ length m.commits) (accepted : replayed (begun_at m s) s.commands ≡ Ok (seen m s)) where
      none_behind : drop s.begun (wrote_by m.commits) ≡ []
      none_behind = drop_all s.begun (wrote_by m.commits) (omega (arith, newest, length-map m.commits (λ (c : Commit). c.wrote)))

      no_conflict : conflict m s ≡ None
      no_conflict = ap (λ (l : List (List Object)). option_map (λ place. s.begun + 1 + place) (position (λ wrote. meets wrote (map objects s.commands)) l)) none_behind

      same_base : begun_at m s ≡ latest m
      same_base = ap (behind_commits m.first) (take_all s.begun m.commits (omega (arith, newest)))

      all_accepted : replayed (latest m) s.commands ≡ Ok (seen m s)
      all_accepted = (λ i. replayed (sym same_base i) s.commands) ∙ accepted

      commit_goes : boundary_of command ≡ Some Commits → Goes who (unless_conflict who s m (conflict m s)) (Run (Some s))
      commit_goes commits =
          let came = committed_inside command (latest m) (seen m s) (length s.commands) commits in
          let ran = run_came (Ok command) (state_of m (Some s)) (number_line (pos (length s.commands))) (resting (seen m s)) came in
          let wrote : List Object = written (map objects s.commands) in
          let after : Machine = with_commit (seen m s) wrote (with_snapshot who None m) in
          let newer : latest after ≡ seen m s = behind_commits_more m.first m.commits (record { catalogue = seen m s; wrote = wrote }) in
          let goes = settles who (number_line (pos (length s.commands)), after) (Run (Some s)) None (cleared m.sessions who) (λ i. (sym ran i).0)
          ((λ i. (ran i).1) ∙ (λ i. resting (sym newer i))) (none_newest after) in
          subst (λ (c : Option ℕ). Goes who (unless_conflict who s m c) (Run (Some s))) (sym no_conflict)
          (subst (λ (t : Tried Catalogue). Goes who (replied who s m t) (Run (Some s))) (sym all_accepted) goes)

  module _ (sound : IsSound m) where
    inside_goes : (command : Command) (s : Snapshot) → snapshot_at who m ≡ Some s → boundary_of command ≡ None → IsNewest m (Some s)
        → Goes who (step_of who (Ok command) m) (run_answer (state_of m (Some s)) (Ok command))
    inside_goes command s at plain newest =
        let x = inside_step who m s (latest m) within at (Ok command) plain in
        let after : Machine = (step_of who (Ok command) m).1 in
        settles who (step_of who (Ok command) m) (run_answer (state_of m (Some s)) (Ok command)) (Some x.next) x.at x.reply
        (x.state ∙ (λ i. opened (sym x.latest_still i) (seen after x.next) (length x.next.commands)))
        (λ t is.
        let same : x.next ≡ t = cc in
        let commits : length after.commits ≡ length m.commits = ap length x.commits in
        let begun : x.next.begun ≡ t.begun = ap (λ (y : Snapshot). y.begun) same in
        omega (arith, begun, x.begun, newest s refl, commits))

    boundary_goes : (command : Command) (boundary : Option Boundary) → boundary_of command ≡ boundary → boundary ≢ Some Alone → (pending : Option Snapshot) → snapshot_at who m ≡ pending → IsNewest m pending
        → Goes who (in_session who command boundary pending m) (run_answer (state_of m pending) (Ok command))
    boundary_goes command (Some Opens) is other None at newest = begins_goes command is
    boundary_goes command (Some Opens) is other (Some s) at newest =
        refused_alone command (Some Opens) (Some s) at newest refusals.AlreadyOpen (opened_inside command (latest m) (seen m s) (length s.commands) is)
    boundary_goes command (Some Commits) is other None at newest = refused_alone command (Some Commits) None at newest refusals.NotOpen (committed_outside command (latest m) is)
    boundary_goes command (Some Commits) is other (Some s) at newest = commit_goes command s (newest s refl) (sound who s at).accepted is
    boundary_goes command (Some RollsBack) is other None at newest = refused_alone command (Some RollsBack) None at newest refusals.NotOpen (rolled_back_outside command (latest m) is)
    boundary_goes command (Some RollsBack) is other (Some s) at newest = rolls_goes command s is
    boundary_goes command (Some Alone) is other pending at newest = absurd (other refl)
    boundary_goes command None is other None at newest = outside_goes command at is (is_writing command) refl (outcome (Ok command) (latest m)) refl
    boundary_goes command None is other (Some s) at newest =
        subst (λ (x : Stepped). Goes who x (run_answer (state_of m (Some s)) (Ok command))) (λ i. in_session who command (is i) (at i) m) (inside_goes command s at is newest)

    turn_goes : (request : Request) → IsOfSessions request → IsNewest m (snapshot_at who m) → Goes who (step_of who request m) (run_answer (state_of m (snapshot_at who m)) request)
    turn_goes (Ok command) other newest = boundary_goes command (boundary_of command) refl other (snapshot_at who m) refl newest
    turn_goes (Err refusal) other newest = refused_goes (Err refusal) (snapshot_at who m) refl newest refusal (misread_refused refusal (state_of m (snapshot_at who m)))

base_is : (m : Machine) (pending : Option Snapshot) → (state_of m pending).base ≡ latest m
base_is m None = refl
base_is m (Some s) = refl

-- a session stands where a run does
record Alike (who : ℕ) (m : Machine) (state : State) : Type 0 where
  within : who - 1 < length m.sessions
  is : state ≡ state_of m (snapshot_at (who - 1) m)
  newest : IsNewest m (snapshot_at (who - 1) m)
  sound : IsSound m

abbrev turns_of : ℕ → List Request → List Turn
turns_of who requests = map (λ request. (who, request)) requests

record Ran (who : ℕ) (m : Machine) (state : State) (requests : List Request) : Type 0 where
  said : replies_by machine_answer m (turns_of who requests) ≡ map (λ reply. session_line who ++ reply) (said_to state requests)
  left : latest (behind_all machine_answer m (turns_of who requests)) ≡ committed (behind state requests)

alike_ran : (who : ℕ) (requests : List Request) → AllByRecursion IsOfSessions requests → (m : Machine) (state : State) → Alike who m state → Ran who m state requests
alike_ran who [] all m state x = record { said = refl; left = sym (ap (λ (y : State). y.base) x.is ∙ base_is m (snapshot_at (who - 1) m)) }
alike_ran who (request ∷ requests) all m state x =
    let w : ℕ = who - 1 in
    let goes = turn_goes w m x.within x.sound request all.0 x.newest in
    let after : Machine = (step_of w request m).1 in
    let next : State = (run_answer state request).1 in
    let same : run_answer (state_of m (snapshot_at w m)) request ≡ run_answer state request = λ i. run_answer (sym x.is i) request in
    let count : length after.sessions ≡ length m.sessions = count_step m (who, request) in
    let x_within = x.within in
    let y : Alike who after next = record {
      within = omega (arith, x_within, count);
      is = (λ i. (sym same i).1) ∙ goes.state;
      newest = goes.newest;
      sound = sound_step m (who, request) x.sound;
    } in
    let rest = alike_ran who requests all.1 after next y in
    record {
      said =
          (λ i. (session_line who ++ (goes.reply ∙ (λ j. (same j).0)) i) ∷ replies_by machine_answer after (turns_of who requests))
          ∙ (λ i. (session_line who ++ (run_answer state request).0) ∷ rest.said i);
      left = rest.left;
    }

pub one_session : (count : ℕ) (cat : Catalogue) (who : ℕ) (requests : List Request) → 0 < who → who ≤ count → AllByRecursion IsOfSessions requests → OneSessionIsARun count cat who requests
one_session count cat who requests some within all =
    let w : ℕ = who - 1 in
    let none : snapshot_at w (start count cat) ≡ None = no_snapshot cat count w in
    let x : Alike who (start count cat) (resting cat) = record {
      within = omega (arith, some, within, length-replicate count (let none_there : Option Snapshot = None in none_there));
      is = λ i. state_of (start count cat) (sym none i);
      newest = λ s is. let no : None ≡ Some s = sym none ∙ is in absurd (cc);
      sound = sound_start count cat;
    } in
    let ran = alike_ran who requests all (start count cat) (resting cat) x in
    record { said = ran.said; left = ran.left }
