-- What each turn of the machine comes to.
use Rattle.std.proofs.Common.{◌≡◌, ℕ, ◌<◌, ◌≤◌, true, if◌then◌else◌, pos, Some, None, Ok, Err, length, map, ap, ◌∙◌}
use Rattle.ts_base.specs.declared.refusal.Refusal.{Refusal}
use Rattle.ts_base.specs.declared.refusal.Refusal.TheVariants as refusals
use Rattle.ts_command.specs.declared.command.Command.{Command}
use Rattle.ts_command.specs.declared.boundary.Boundary.TheVariants.{Opens, Commits, RollsBack, Alone}
use Rattle.ts_command.specs.Boundary.{boundary_of, is_writing}
use Rattle.ts_model.specs.Catalogue.{Catalogue}
use Rattle.ts_multi.specs.Objects.{written}
use Rattle.ts_multi.specs.Touched.{objects}
use Rattle.ts_answer.specs.Answer.{Answered, outcome}
use Rattle.ts_answer.specs.Reply.{ok_line, number_line, refusal_line}
use Rattle.ts_answer.proofs.CallerLemmas.{came_inside, committed_outside, full_inside, opened_inside, opened_outside, outside_came, outside_refused, refused_inside, rolled_back_inside, rolled_back_outside}
use Rattle.ts_sessions.specs.Machine.{Snapshot, Machine, latest, snapshot_at, seen, conflict, replayed}
use Rattle.ts_sessions.specs.Steps.{with_snapshot, with_commit, fresh, with_command, conflict_lines, accepted_or, unless_conflict, replied, in_session, step_of}

module _ (who : ℕ) (command : Command) (m : Machine) where
  -- where it begins a transaction
  pub begins_again : (s : Snapshot) → boundary_of command ≡ Some Opens → snapshot_at who m ≡ Some s → step_of who (Ok command) m ≡ (refusal_line refusals.AlreadyOpen, m)
  begins_again s opens at =
      (λ i. in_session who command (opens i) (at i) m) ∙ ap (accepted_or who command (Some Opens) (Some s) m) (opened_inside command (latest m) (seen m s) (length s.commands) opens)

  pub begins_new : boundary_of command ≡ Some Opens → snapshot_at who m ≡ None → step_of who (Ok command) m ≡ (ok_line, with_snapshot who (Some (fresh m)) m)
  begins_new opens at =
      (λ i. in_session who command (opens i) (at i) m) ∙ ap (accepted_or who command (Some Opens) None m) (opened_outside command (latest m) opens)

  -- where it rolls one back
  pub rolls_none : boundary_of command ≡ Some RollsBack → snapshot_at who m ≡ None → step_of who (Ok command) m ≡ (refusal_line refusals.NotOpen, m)
  rolls_none rolls at =
      (λ i. in_session who command (rolls i) (at i) m) ∙ ap (accepted_or who command (Some RollsBack) None m) (rolled_back_outside command (latest m) rolls)

  pub rolls_back : (s : Snapshot) → boundary_of command ≡ Some RollsBack → snapshot_at who m ≡ Some s → step_of who (Ok command) m ≡ (ok_line, with_snapshot who None m)
  rolls_back s rolls at =
      (λ i. in_session who command (rolls i) (at i) m) ∙ ap (accepted_or who command (Some RollsBack) (Some s) m) (rolled_back_inside command (latest m) (seen m s) (length s.commands) rolls)

  -- where it commits one
  pub commits_none : boundary_of command ≡ Some Commits → snapshot_at who m ≡ None → step_of who (Ok command) m ≡ (refusal_line refusals.NotOpen, m)
  commits_none commits at =
      (λ i. in_session who command (commits i) (at i) m) ∙ ap (accepted_or who command (Some Commits) None m) (committed_outside command (latest m) commits)

  module _ (s : Snapshot) (commits : boundary_of command ≡ Some Commits) (at : snapshot_at who m ≡ Some s) where
    pub commits_conflict : (number : ℕ) → conflict m s ≡ Some number → step_of who (Ok command) m ≡ (conflict_lines number, with_snapshot who None m)
    commits_conflict number is = (λ i. in_session who command (commits i) (at i) m) ∙ ap (unless_conflict who s m) is

    pub commits_done : (cat : Catalogue) → conflict m s ≡ None → replayed (latest m) s.commands ≡ Ok cat
        → step_of who (Ok command) m ≡ (number_line (pos (length s.commands)), with_commit cat (written (map objects s.commands)) (with_snapshot who None m))
    commits_done cat none is = (λ i. in_session who command (commits i) (at i) m) ∙ ap (unless_conflict who s m) none ∙ ap (replied who s m) is

    pub commits_refused : (refusal : Refusal) → conflict m s ≡ None → replayed (latest m) s.commands ≡ Err refusal → step_of who (Ok command) m ≡ (refusal_line refusal, with_snapshot who None m)
    commits_refused refusal none is = (λ i. in_session who command (commits i) (at i) m) ∙ ap (unless_conflict who s m) none ∙ ap (replied who s m) is

  -- a rolling routine is no command here
  pub alone_refused : boundary_of command ≡ Some Alone → step_of who (Ok command) m ≡ (refusal_line (refusals.Syntax 0), m)
  alone_refused alone = λ i. in_session who command (alone i) (snapshot_at who m) m

  -- a command that neither begins nor ends one
  module _ (plain : boundary_of command ≡ None) where
    -- inside
    module _ (s : Snapshot) (at : snapshot_at who m ≡ Some s) where
      pub inside_full : is_writing command ≡ true → 32 ≤ length s.commands → step_of who (Ok command) m ≡ (refusal_line refusals.TransactionFull, m)
      inside_full writes full =
          (λ i. in_session who command (plain i) (at i) m) ∙ ap (accepted_or who command None (Some s) m) (full_inside command (latest m) (seen m s) (length s.commands) plain writes full)

      pub inside_refused : (is_writing command ≡ true → length s.commands < 32) → (refusal : Refusal) → outcome (Ok command) (seen m s) ≡ Err refusal → step_of who (Ok command) m ≡ (refusal_line refusal, m)
      inside_refused few refusal is =
          (λ i. in_session who command (plain i) (at i) m) ∙ ap (accepted_or who command None (Some s) m) (refused_inside command (latest m) (seen m s) (length s.commands) plain few refusal is)

      pub inside_came : (is_writing command ≡ true → length s.commands < 32) → (a : Answered) → outcome (Ok command) (seen m s) ≡ Ok a
          → step_of who (Ok command) m ≡ (a.0, if is_writing command then with_snapshot who (Some (with_command command s)) m else m)
      inside_came few a is =
          (λ i. in_session who command (plain i) (at i) m) ∙ ap (accepted_or who command None (Some s) m) (came_inside command (latest m) (seen m s) (length s.commands) plain few a.0 a.1 is)

    -- outside
    module _ (at : snapshot_at who m ≡ None) where
      pub outside_no : (refusal : Refusal) → outcome (Ok command) (latest m) ≡ Err refusal → step_of who (Ok command) m ≡ (refusal_line refusal, m)
      outside_no refusal is =
          (λ i. in_session who command (plain i) (at i) m) ∙ ap (accepted_or who command None None m) (outside_refused command (latest m) refusal is)

      pub outside_yes : (a : Answered) → outcome (Ok command) (latest m) ≡ Ok a → step_of who (Ok command) m ≡ (a.0, if is_writing command then with_commit a.1 (objects command).wrote m else m)
      outside_yes a is =
          (λ i. in_session who command (plain i) (at i) m) ∙ ap (accepted_or who command None None m) (outside_came command (latest m) a.0 a.1 plain is)
