-- The replies of sessions are told apart from the memory line behind the same session's line, and are heard as what they are.
use Rattle.std.proofs.Common.{◌≡◌, ◌⊎◌, inl, inr, ℕ, ◌==◌, ◌-◌, Bool, true, false, cond, pos, Option, Some, None, option_map, Ok, Err, List, [], ◌∷◌, ◌++◌, length, codes, decimal, refl, ap, sym, ◌∙◌, subst, append_assoc, arith}
use Rattle.std.specs.List.{concat}
use Rattle.std.proofs.lemmas.Bool.Decides.{nat_tests}
use Rattle.std.proofs.lemmas.List.{append-nil}
use Rattle.ts_base.specs.declared.refusal.Refusal.{Refusal}
use Rattle.ts_base.specs.declared.refusal.Refusal.TheVariants as refusals
use Rattle.ts_command.specs.declared.command.Command.{Command}
use Rattle.ts_command.specs.declared.boundary.Boundary.{Boundary}
use Rattle.ts_command.specs.declared.boundary.Boundary.TheVariants.{Opens, Commits, RollsBack, Alone}
use Rattle.ts_command.specs.Boundary.{boundary_of}
use Rattle.ts_command.specs.Grammar.{Request}
use Rattle.ts_model.specs.Catalogue.{Catalogue}
use Rattle.ts_replies.specs.Acknowledged.{Protocol, behind, memory_line, AllAnswered, TellsApart}
use Rattle.ts_replies.proofs.Hearing.{heard-nothing}
use Rattle.ts_replies.proofs.Steps.{one_answered, answered_then}
use Rattle.ts_answer.specs.Reply.{number_line, refusal_line}
use Rattle.ts_answer.specs.Answer.{Tried, Answered, may_lack_memory, State, opened, run_outcome, run_answer, stand_in}
use Rattle.ts_answer.proofs.CallerLemmas.{run_came, run_refused, misread_refused, committed_inside}
use Rattle.ts_answer.proofs.ApartLemmas.{apart}
use Rattle.ts_sessions.specs.Machine.{Snapshot, Machine, latest, snapshot_at, replayed, seen, conflict, state_of}
use Rattle.ts_sessions.specs.Steps.{Turn, conflict_lines, replied, unless_conflict, accepted_or, as_alone, committed, in_session, step_of, session_line, machine_step, machine_answer}
use Rattle.ts_sessions.specs.Turns.{replies_by, behind_all, sessions_by}
use Rattle.ts_sessions.specs.Laws.{spoken, RepliesAreHeard}

-- neither begins with the other
record IsApart (text : List ℕ) : Type 0 where
  memory : (x : List ℕ) → behind text (memory_line ++ x) ≡ None
  reply : behind memory_line text ≡ None

-- what a run says at a state is apart
run_apart : (state : State) (request : Request) → IsApart (run_answer state request).0
run_apart state request = record { memory = apart.memory state request; reply = apart.reply state request }

refusal_apart : (refusal : Refusal) (state : State) → IsApart (refusal_line refusal)
refusal_apart refusal state =
    subst IsApart (λ i. (run_refused (Err refusal) state refusal (misread_refused refusal state) i).0) (run_apart state (Err refusal))

conflict_apart : (number : ℕ) → IsApart (conflict_lines number)
unfolding conflict_lines
conflict_apart number = record { memory = λ x. refl; reply = refl }

number_apart : (command : Command) (base work : Catalogue) (n : ℕ) → boundary_of command ≡ Some Commits → IsApart (number_line (pos n))
number_apart command base work n commits =
    let came = run_came (Ok command) (opened base work n) (number_line (pos n)) _ (committed_inside command base work n commits) in
    subst IsApart (λ i. (came i).0) (run_apart (opened base work n) (Ok command))

module _ (who : ℕ) (command : Command) (m : Machine) where
  accepted_apart : (boundary : Option Boundary) (pending : Option Snapshot) (t : Tried (List ℕ × State)) → run_outcome (Ok command) (state_of m pending) ≡ t
      → IsApart (accepted_or who command boundary pending m t).0
  accepted_apart boundary pending (Ok stepped) is =
      subst IsApart (λ i. (run_came (Ok command) (state_of m pending) stepped.0 stepped.1 is i).0) (run_apart (state_of m pending) (Ok command))
  accepted_apart boundary pending (Err refusal) is = refusal_apart refusal (state_of m pending)

  alone_apart : (boundary : Option Boundary) (pending : Option Snapshot) → IsApart (as_alone who command boundary pending m).0
  alone_apart boundary pending = accepted_apart boundary pending (run_outcome (Ok command) (state_of m pending)) refl

  replied_apart : (s : Snapshot) → boundary_of command ≡ Some Commits → (came : Tried Catalogue) → IsApart (replied who s m came).0
  replied_apart s commits (Ok next) = number_apart command (latest m) (seen m s) (length s.commands) commits
  replied_apart s commits (Err refusal) = refusal_apart refusal (state_of m None)

  commit_apart : (s : Snapshot) → boundary_of command ≡ Some Commits → (number : Option ℕ) → IsApart (unless_conflict who s m number).0
  commit_apart s commits (Some number) = conflict_apart number
  commit_apart s commits None = replied_apart s commits (replayed (latest m) s.commands)

  committed_apart : boundary_of command ≡ Some Commits → (pending : Option Snapshot) → IsApart (committed who command pending m).0
  committed_apart commits (Some s) = commit_apart s commits (conflict m s)
  committed_apart commits None = alone_apart (Some Commits) None

  session_apart : (boundary : Option Boundary) → boundary_of command ≡ boundary → (pending : Option Snapshot) → IsApart (in_session who command boundary pending m).0
  session_apart (Some Commits) is pending = committed_apart is pending
  session_apart (Some Opens) is pending = alone_apart (Some Opens) pending
  session_apart (Some RollsBack) is pending = alone_apart (Some RollsBack) pending
  session_apart (Some Alone) is pending = refusal_apart (refusals.Syntax 0) (state_of m None)
  session_apart None is pending = alone_apart None pending

step_apart : (who : ℕ) (request : Request) (m : Machine) → IsApart (step_of who request m).0
step_apart who (Ok command) m = session_apart who command m (boundary_of command) refl (snapshot_at who m)
step_apart who (Err refusal) m = refusal_apart refusal (state_of m None)

-- a common front plays no part
same_front : (front text said : List ℕ) → behind (front ++ text) (front ++ said) ≡ behind text said
same_front [] text said = refl
same_front (b ∷ front) text said =
    let one : (b == b) ≡ true = grind (arith, nat_tests) in
    (λ i. cond (one i) (behind (front ++ text) (front ++ said)) None) ∙ same_front front text said

-- the line that may stand in the place of a reply
line_is : (lacks : Bool) (front line : List ℕ) → option_map (λ l. front ++ l) (cond lacks (Some memory_line) None) ≡ Some line → line ≡ front ++ memory_line
line_is true front line is = cc
line_is false front line is = absurd (cc)

-- the line before each reply isn't empty
not_empty : (number : ℕ) (text : List ℕ) → behind (session_line number ++ text) [] ≡ None
unfolding session_line
not_empty number text = refl

pub told_apart : (means : List ℕ → Catalogue → Type 0) → TellsApart (sessions_by means)
told_apart means = record {
  line = λ m turn line x is.
      let front : List ℕ = session_line turn.0 in
      let here : line ≡ front ++ memory_line = line_is (may_lack_memory turn.1) front line is in
      (λ i. behind (front ++ (machine_step m turn).0) (here i ++ x)) ∙ (λ i. behind (front ++ (machine_step m turn).0) (append_assoc front memory_line x i))
      ∙ same_front front (machine_step m turn).0 (memory_line ++ x) ∙ (step_apart (turn.0 - 1) turn.1 m).memory x;
  reply = λ m turn line is.
      let front : List ℕ = session_line turn.0 in
      let here : line ≡ front ++ memory_line = line_is (may_lack_memory turn.1) front line is in
      (λ i. behind (here i) (front ++ (machine_step m turn).0)) ∙ same_front front memory_line (machine_step m turn).0 ∙ (step_apart (turn.0 - 1) turn.1 m).reply;
  some = λ m turn. not_empty turn.0 (machine_step m turn).0;
}

-- all replies are heard
pub heard_all : RepliesAreHeard
heard_all m [] = heard-nothing spoken (told_apart (λ image cat. Unit {0})) m []
heard_all m (turn ∷ turns) =
    let apart_so = told_apart (λ image cat. Unit {0}) in
    let next : Machine = (machine_answer m turn).1 in
    answered_then spoken apart_so m (turn ∷ []) turns (machine_answer m turn).0 (concat (replies_by machine_answer next turns)) next (behind_all machine_answer next turns)
    (one_answered spoken apart_so m turn (machine_answer m turn).0 next (inl (refl, refl))) (heard_all next turns)
