-- Within a transaction a session is answered as a run is, whatever is committed elsewhere.
use Rattle.std.proofs.Common.{◌≡◌, ℕ, ◌+◌, ◌-◌, ◌<◌, ◌≤◌, Bool, true, false, cond, nat_lt, Option, Some, None, Ok, Err, List, [], ◌∷◌, ◌++◌, length, get_or, set, refl, ap, sym, ◌∙◌, subst, arith}
use Rattle.std.proofs.lemmas.Bool.Decides.{nat_tests}
use Rattle.std.proofs.lemmas.List.{get_or-set_same, length-append}
use Rattle.ts_base.specs.declared.refusal.Refusal.{Refusal}
use Rattle.ts_base.specs.declared.refusal.Refusal.TheVariants as refusals
use Rattle.ts_command.specs.declared.command.Command.{Command}
use Rattle.ts_command.specs.declared.boundary.Boundary.{Boundary}
use Rattle.ts_command.specs.Boundary.{boundary_of, is_writing}
use Rattle.ts_command.specs.Grammar.{Request}
use Rattle.ts_model.specs.Catalogue.{Catalogue}
use Rattle.ts_answer.specs.Reply.{refusal_line}
use Rattle.ts_answer.specs.Answer.{Tried, Answered, outcome, State, resting, opened, counted, run_outcome, run_answer}
use Rattle.ts_answer.proofs.CallerLemmas.{run_refused, run_came, misread_refused, full_inside, refused_inside, came_inside}
use Rattle.ts_answer_laws.specs.TransactionLaws.{IsPlain}
use Rattle.ts_answer_laws.proofs.ReadingLemmas.{leaves}
use Rattle.ts_sessions.specs.Machine.{Snapshot, Machine, latest, snapshot_at, begun_at, seen, state_of}
use Rattle.ts_sessions.specs.Steps.{Stepped, with_snapshot, with_command, noted, accepted_or, as_alone, in_session, step_of}
use Rattle.ts_sessions.proofs.CallerLemmas.{accepted_answer, carried_more}

-- a reading leaves the catalogue
pub reads_only : (cat : Catalogue) (command : Command) (a : Answered) → is_writing command ≡ false → outcome (Ok command) cat ≡ Ok a → a.1 ≡ cat
reads_only cat command a reads is = sym (λ i. (accepted_answer cat command a is i).1) ∙ leaves cat command reads

-- a turn within a transaction, beside the same request of a run
pub record Inside (who : ℕ) (m : Machine) (s : Snapshot) (base : Catalogue) (stepped : Stepped) (ran : List ℕ × State) : Type 0 where
  pub reply : stepped.0 ≡ ran.0
  pub next : Snapshot
  pub at : snapshot_at who stepped.1 ≡ Some next
  pub begun : next.begun ≡ s.begun
  pub commits : stepped.1.commits ≡ m.commits
  pub latest_still : latest stepped.1 ≡ latest m
  pub state : ran.1 ≡ opened base (seen stepped.1 next) (length next.commands)

module _ (who : ℕ) (m : Machine) (s : Snapshot) (base : Catalogue) (within : who < length m.sessions) (at : snapshot_at who m ≡ Some s) where
  refused_so : (request : Request) (refusal : Refusal) → run_outcome request (opened base (seen m s) (length s.commands)) ≡ Err refusal
      → Inside who m s base (refusal_line refusal, m) (run_answer (opened base (seen m s) (length s.commands)) request)
  refused_so request refusal is =
      let state : State = opened base (seen m s) (length s.commands) in
      let ran = run_refused request state refusal is in
      record {
        reply = λ i. (sym ran i).0;
        next = s;
        at = at;
        begun = refl;
        commits = refl;
        latest_still = refl;
        state = λ i. (ran i).1;
      }

  module _ (command : Command) (plain : boundary_of command ≡ None) where
    abbrev Run : List ℕ × State
    Run = run_answer (opened base (seen m s) (length s.commands)) (Ok command)

    by_outcome : (t : Tried (List ℕ × State)) → run_outcome (Ok command) (state_of m (Some s)) ≡ t → Inside who m s base (accepted_or who command None (Some s) m t) Run
        → Inside who m s base (as_alone who command None (Some s) m) Run
    by_outcome t is inside = subst (λ (u : Tried (List ℕ × State)). Inside who m s base (accepted_or who command None (Some s) m u) Run) (sym is) inside

    module _ (few : is_writing command ≡ true → length s.commands < 32) (a : Answered) (came : outcome (Ok command) (seen m s) ≡ Ok a) where
      ran : Run ≡ (a.0, opened base a.1 (counted command (length s.commands)))
      ran =
          run_came (Ok command) (opened base (seen m s) (length s.commands)) a.0 (opened base a.1 (counted command (length s.commands)))
          (came_inside command base (seen m s) (length s.commands) plain few a.0 a.1 came)

      one_more : seen m (with_command command s) ≡ a.1
      one_more = carried_more (begun_at m s) s.commands command ∙ (λ i. (accepted_answer (seen m s) command a came i).1)

      noted_so : is_writing command ≡ true → Inside who m s base (a.0, with_snapshot who (Some (with_command command s)) m) Run
      noted_so writes =
          let count : counted command (length s.commands) ≡ length (s.commands ++ command ∷ []) =
          (λ i. length s.commands + cond (writes i) 1 0) ∙ omega (arith, length-append s.commands (command ∷ [])) in
          record {
            reply = λ i. (sym ran i).0;
            next = with_command command s;
            at = get_or-set_same m.sessions who (Some (with_command command s)) None within;
            begun = refl;
            commits = refl;
            latest_still = refl;
            state = (λ i. (ran i).1) ∙ (λ i. opened base (sym one_more i) (count i));
          }

      read_so : is_writing command ≡ false → Inside who m s base (a.0, m) Run
      read_so reads =
          let count : counted command (length s.commands) ≡ length s.commands = (λ i. length s.commands + cond (reads i) 1 0) ∙ omega arith in
          record {
            reply = λ i. (sym ran i).0;
            next = s;
            at = at;
            begun = refl;
            commits = refl;
            latest_still = refl;
            state = (λ i. (ran i).1) ∙ (λ i. opened base (reads_only (seen m s) command a reads came i) (count i));
          }

      came_so : (writes : Bool) → is_writing command ≡ writes → Inside who m s base (a.0, cond (is_writing command) (noted who command (Some s) (latest m) m) m) Run
      came_so true writes = subst (λ (w : Bool). Inside who m s base (a.0, cond w (noted who command (Some s) (latest m) m) m) Run) (sym writes) (noted_so writes)
      came_so false writes = subst (λ (w : Bool). Inside who m s base (a.0, cond w (noted who command (Some s) (latest m) m) m) Run) (sym writes) (read_so writes)

    few_so : (is_writing command ≡ true → length s.commands < 32) → (came : Tried Answered) → outcome (Ok command) (seen m s) ≡ came
        → Inside who m s base (as_alone who command None (Some s) m) Run
    few_so few (Ok a) came =
        by_outcome (Ok (a.0, opened (latest m) a.1 (counted command (length s.commands)))) (came_inside command (latest m) (seen m s) (length s.commands) plain few a.0 a.1 came)
        (came_so few a came (is_writing command) refl)
    few_so few (Err refusal) came =
        by_outcome (Err refusal) (refused_inside command (latest m) (seen m s) (length s.commands) plain few refusal came)
        (refused_so (Ok command) refusal (refused_inside command base (seen m s) (length s.commands) plain few refusal came))

    plain_so : (writes : Bool) → is_writing command ≡ writes → (fits : Bool) → nat_lt (length s.commands) 32 ≡ fits → Inside who m s base (as_alone who command None (Some s) m) Run
    plain_so writes w true fits = few_so (λ e. grind (arith, nat_tests)) (outcome (Ok command) (seen m s)) refl
    plain_so true w false fits =
        let full : 32 ≤ length s.commands = grind (arith, nat_tests) in
        by_outcome (Err refusals.TransactionFull) (full_inside command (latest m) (seen m s) (length s.commands) plain w full)
        (refused_so (Ok command) refusals.TransactionFull (full_inside command base (seen m s) (length s.commands) plain w full))
    plain_so false w false fits = few_so (λ e. absurd (cc)) (outcome (Ok command) (seen m s)) refl

    command_so : Inside who m s base (step_of who (Ok command) m) Run
    command_so =
        subst (λ (x : Stepped). Inside who m s base x Run) (λ i. in_session who command (sym plain i) (sym at i) m)
        (plain_so (is_writing command) refl (nat_lt (length s.commands) 32) refl)

  pub inside_step : (request : Request) → IsPlain request → Inside who m s base (step_of who request m) (run_answer (opened base (seen m s) (length s.commands)) request)
  inside_step (Ok command) plain = command_so command plain
  inside_step (Err refusal) plain = refused_so (Err refusal) refusal (misread_refused refusal (opened base (seen m s) (length s.commands)))
