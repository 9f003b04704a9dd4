-- What a turn of a session does to a machine, by cases.
use Rattle.std.proofs.Common.{◌≡◌, ◌≢◌, ◌⊎◌, inl, inr, ℕ, zero, suc, ◌+◌, ◌<◌, ◌≤◌, Bool, true, false, cond, nat_lt, Option, Some, None, Ok, Err, List, [], ◌∷◌, ◌++◌, length, map, get_or, set, refl, ap, sym, ◌∙◌, subst, arith}
use Rattle.std.proofs.lemmas.Bool.{cases_Bool}
use Rattle.std.proofs.lemmas.Bool.Decides.{nat_tests, eqb_tells}
use Rattle.std.proofs.lemmas.List.{get_or-set_other, get_or-set_same, set_past}
use Rattle.ts_base.specs.declared.refusal.Refusal.TheVariants as refusals
use Rattle.ts_command.specs.declared.command.Command.{Command}
use Rattle.ts_command.specs.declared.boundary.Boundary.{Boundary}
use Rattle.ts_command.specs.declared.boundary.Boundary.TheVariants.{Opens, Commits, RollsBack, Alone}
use Rattle.ts_command.specs.Boundary.{boundary_of, is_writing}
use Rattle.ts_command.specs.Grammar.{Request}
use Rattle.ts_model.specs.Catalogue.{Catalogue}
use Rattle.ts_multi.specs.Objects.{written}
use Rattle.ts_multi.specs.Touched.{objects}
use Rattle.ts_answer.specs.Reply.{ok_line}
use Rattle.ts_answer.specs.Answer.{Tried, Answered, outcome, State, resting, opened, counted, run_outcome}
use Rattle.ts_answer.proofs.CallerLemmas.{outside_refused, outside_came, opened_outside, committed_outside, rolled_back_outside, opened_inside, rolled_back_inside, full_inside, refused_inside, came_inside}
use Rattle.ts_sessions.specs.Machine.{Snapshot, Machine, latest, snapshot_at, replayed, seen, conflict, state_of}
use Rattle.ts_sessions.specs.Laws.{CanBeNoted}
use Rattle.ts_sessions.specs.Steps.{with_snapshot, with_commit, fresh, with_command, replied, unless_conflict, noted, accepted_or, as_alone, in_session, step_of}

-- a place that is set, and every other
pub set_cases : (xs : List (Option Snapshot)) (who k : ℕ) (p : Option Snapshot) → (get_or (set xs who p) k None ≡ get_or xs k None) ⊎ ((k ≡ who) × (who < length xs) × (get_or (set xs who p) k None ≡ p))
set_cases xs who k p = elim (cases_Bool (nat_lt who (length xs))) [
  | inl t ↦
      let within : who < length xs = grind (arith, nat_tests) in
      elim (eqb_tells k who) [
        | inl same ↦ inr (same.1, within, ap (λ (n : ℕ). get_or (set xs who p) n None) same.1 ∙ get_or-set_same xs who p None within)
        | inr other ↦ inl (get_or-set_other xs who k p None other.1)
      ]
  | inr f ↦
      let past : length xs ≤ who = grind (arith, nat_tests) in
      inl (ap (λ (l : List (Option Snapshot)). get_or l k None) (set_past xs who p past))
]

-- a place that is cleared
pub cleared : (xs : List (Option Snapshot)) (who : ℕ) → get_or (set xs who None) who None ≡ None
cleared [] zero = refl
cleared [] (suc who) = refl
cleared (p ∷ xs) zero = refl
cleared (p ∷ xs) (suc who) = cleared xs who

pub data Moves (who : ℕ) (pending : Option Snapshot) (request : Request) (m after : Machine) : Type 0 where
  -- nothing is changed
  stays : after ≡ m → Moves who pending request m after
  begins : pending ≡ None → after ≡ with_snapshot who (Some (fresh m)) m → Moves who pending request m after
  -- a transaction ends without a commit
  ends : after ≡ with_snapshot who None m → Moves who pending request m after
  -- it has a command more
  notes : (s : Snapshot) (command : Command) (a : Answered) → pending ≡ Some s → CanBeNoted command → length s.commands < 32
      → outcome (Ok command) (seen m s) ≡ Ok a → after ≡ with_snapshot who (Some (with_command command s)) m → Moves who pending request m after
  -- a command outside is a commit
  commits_alone : (command : Command) (a : Answered) → pending ≡ None → request ≡ Ok command → CanBeNoted command
      → outcome (Ok command) (latest m) ≡ Ok a → after ≡ with_commit a.1 (objects command).wrote m → Moves who pending request m after
  -- a whole transaction is one
  commits_all : (s : Snapshot) (command : Command) (next : Catalogue) → pending ≡ Some s → request ≡ Ok command → boundary_of command ≡ Some Commits
      → conflict m s ≡ None → replayed (latest m) s.commands ≡ Ok next
      → after ≡ with_commit next (written (map objects s.commands)) (with_snapshot who None m) → Moves who pending request m after

module _ (who : ℕ) (command : Command) (m : Machine) where
  abbrev Comes : Option Snapshot → Machine → Type 0
  Comes pending after = Moves who pending (Ok command) m after

  by_outcome : (boundary : Option Boundary) (pending : Option Snapshot) (t : Tried (List ℕ × State)) → run_outcome (Ok command) (state_of m pending) ≡ t
      → Comes pending (accepted_or who command boundary pending m t).1 → Comes pending (as_alone who command boundary pending m).1
  by_outcome boundary pending t is moves = subst (λ (u : Tried (List ℕ × State)). Comes pending (accepted_or who command boundary pending m u).1) (sym is) moves

  plain_outside : boundary_of command ≡ None → (writes : Bool) → is_writing command ≡ writes → (came : Tried Answered) → outcome (Ok command) (latest m) ≡ came
      → Comes None (as_alone who command None None m).1
  plain_outside plain true w (Ok a) is =
      by_outcome None None (Ok (a.0, resting a.1)) (outside_came command (latest m) a.0 a.1 plain is)
      (commits_alone command a refl refl (w, plain) is (λ i. cond (w i) (noted who command None a.1 m) m))
  plain_outside plain false w (Ok a) is =
      by_outcome None None (Ok (a.0, resting a.1)) (outside_came command (latest m) a.0 a.1 plain is) (stays (λ i. cond (w i) (noted who command None a.1 m) m))
  plain_outside plain w is_w (Err refusal) is = by_outcome None None (Err refusal) (outside_refused command (latest m) refusal is) (stays refl)

  module _ (s : Snapshot) where
    few_inside : boundary_of command ≡ None → (writes : Bool) → is_writing command ≡ writes → (is_writing command ≡ true → length s.commands < 32)
        → (came : Tried Answered) → outcome (Ok command) (seen m s) ≡ came → Comes (Some s) (as_alone who command None (Some s) m).1
    few_inside plain true w few (Ok a) is =
        by_outcome None (Some s) (Ok (a.0, opened (latest m) a.1 (counted command (length s.commands)))) (came_inside command (latest m) (seen m s) (length s.commands) plain few a.0 a.1 is)
        (notes s command a refl (w, plain) (few w) is (λ i. cond (w i) (noted who command (Some s) (latest m) m) m))
    few_inside plain false w few (Ok a) is =
        by_outcome None (Some s) (Ok (a.0, opened (latest m) a.1 (counted command (length s.commands)))) (came_inside command (latest m) (seen m s) (length s.commands) plain few a.0 a.1 is)
        (stays (λ i. cond (w i) (noted who command (Some s) (latest m) m) m))
    few_inside plain writes w few (Err refusal) is =
        by_outcome None (Some s) (Err refusal) (refused_inside command (latest m) (seen m s) (length s.commands) plain few refusal is) (stays refl)

    plain_inside : boundary_of command ≡ None → (writes : Bool) → is_writing command ≡ writes → (fits : Bool) → nat_lt (length s.commands) 32 ≡ fits
        → Comes (Some s) (as_alone who command None (Some s) m).1
    plain_inside plain writes w true fits = few_inside plain writes w (λ e. grind (arith, nat_tests)) (outcome (Ok command) (seen m s)) refl
    plain_inside plain true w false fits =
        let full : 32 ≤ length s.commands = grind (arith, nat_tests) in
        by_outcome None (Some s) (Err refusals.TransactionFull) (full_inside command (latest m) (seen m s) (length s.commands) plain w full) (stays refl)
    plain_inside plain false w false fits = few_inside plain false w (λ e. absurd (cc)) (outcome (Ok command) (seen m s)) refl

    commit_replied : boundary_of command ≡ Some Commits → conflict m s ≡ None → (came : Tried Catalogue) → replayed (latest m) s.commands ≡ came
        → Comes (Some s) (replied who s m (replayed (latest m) s.commands)).1
    commit_replied commits none (Ok next) is =
        subst (λ (t : Tried Catalogue). Comes (Some s) (replied who s m t).1) (sym is) (commits_all s command next refl refl commits none is refl)
    commit_replied commits none (Err refusal) is = subst (λ (t : Tried Catalogue). Comes (Some s) (replied who s m t).1) (sym is) (ends refl)

    commit_moves : boundary_of command ≡ Some Commits → (number : Option ℕ) → conflict m s ≡ number → Comes (Some s) (unless_conflict who s m (conflict m s)).1
    commit_moves commits (Some number) is = subst (λ (c : Option ℕ). Comes (Some s) (unless_conflict who s m c).1) (sym is) (ends refl)
    commit_moves commits None is =
        subst (λ (c : Option ℕ). Comes (Some s) (unless_conflict who s m c).1) (sym is) (commit_replied commits is (replayed (latest m) s.commands) refl)

  by_boundary : (boundary : Option Boundary) → boundary_of command ≡ boundary → (pending : Option Snapshot) → Comes pending (in_session who command boundary pending m).1
  by_boundary (Some Opens) opens None =
      by_outcome (Some Opens) None (Ok (ok_line, opened (latest m) (latest m) 0)) (opened_outside command (latest m) opens) (begins refl refl)
  by_boundary (Some Opens) opens (Some s) =
      by_outcome (Some Opens) (Some s) (Err refusals.AlreadyOpen) (opened_inside command (latest m) (seen m s) (length s.commands) opens) (stays refl)
  by_boundary (Some Commits) commits None = by_outcome (Some Commits) None (Err refusals.NotOpen) (committed_outside command (latest m) commits) (stays refl)
  by_boundary (Some Commits) commits (Some s) = commit_moves s commits (conflict m s) refl
  by_boundary (Some RollsBack) rolls None = by_outcome (Some RollsBack) None (Err refusals.NotOpen) (rolled_back_outside command (latest m) rolls) (stays refl)
  by_boundary (Some RollsBack) rolls (Some s) =
      by_outcome (Some RollsBack) (Some s) (Ok (ok_line, resting (latest m))) (rolled_back_inside command (latest m) (seen m s) (length s.commands) rolls) (ends refl)
  by_boundary (Some Alone) alone pending = stays refl
  by_boundary None plain None = plain_outside plain (is_writing command) refl (outcome (Ok command) (latest m)) refl
  by_boundary None plain (Some s) = plain_inside s plain (is_writing command) refl (nat_lt (length s.commands) 32) refl

pub moves : (who : ℕ) (request : Request) (m : Machine) → Moves who (snapshot_at who m) request m (step_of who request m).1
moves who (Ok command) m = by_boundary who command m (boundary_of command) refl (snapshot_at who m)
moves who (Err refusal) m = stays refl
