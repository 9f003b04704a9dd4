-- From a Begin on a session is answered as a run is.
use Rattle.std.proofs.Common.{◌≡◌, ◌≢◌, ◌⊎◌, inl, inr, ℕ, zero, suc, ◌+◌, ◌-◌, ◌==◌, ◌<◌, ◌≤◌, Bool, true, false, cond, Option, Some, None, Ok, Err, List, [], ◌∷◌, ◌++◌, length, get_or, set, All, refl, ap, sym, ◌∙◌, subst, arith}
use Rattle.std.proofs.lemmas.Bool.Decides.{nat_tests, eqb_tells}
use Rattle.std.proofs.lemmas.List.{get_or-set_same, length-set, take_all}
use Rattle.ts_command.specs.declared.command.Command.TheVariants as commands
use Rattle.ts_command.specs.declared.boundary.Boundary.TheVariants.{Opens}
use Rattle.ts_command.specs.Grammar.{Request}
use Rattle.ts_model.specs.Catalogue.{Catalogue}
use Rattle.ts_multi.specs.Schedule.{items_of}
use Rattle.ts_answer.specs.Reply.{ok_line}
use Rattle.ts_answer.specs.Answer.{Tried, State, resting, opened, run_outcome, run_answer}
use Rattle.ts_answer.proofs.CallerLemmas.{run_came, opened_outside}
use Rattle.ts_answer_laws.specs.TransactionLaws.{IsPlain, said_to}
use Rattle.ts_sessions.specs.Machine.{Snapshot, Machine, latest, snapshot_at, behind_commits, carried, seen}
use Rattle.ts_sessions.specs.Steps.{Turn, Stepped, with_snapshot, fresh, accepted_or, in_session, step_of, machine_step}
use Rattle.ts_sessions.specs.Turns.{replies_to}
use Rattle.ts_sessions.proofs.CallerLemmas.{count_step, other_turn}
use Rattle.ts_session_laws.specs.Laws.{SnapshotsAreRuns}
use Rattle.ts_session_laws.proofs.InsideLemmas.{Inside, inside_step}

-- a transaction that begins sees what was committed last
pub fresh_seen : (m : Machine) → seen m (fresh m) ≡ latest m
fresh_seen m = λ i. behind_commits m.first (take_all (length m.commits) m.commits (omega arith) i)

-- the turns of a session, and of others
own_item : (who : ℕ) (turn : Turn) (turns : List Turn) → (turn.0 == who) ≡ true → items_of who (turn ∷ turns) ≡ turn.1 ∷ items_of who turns
own_item who turn turns t = λ i. cond (t i) (turn.1 ∷ items_of who turns) (items_of who turns)

no_item : (who : ℕ) (turn : Turn) (turns : List Turn) → (turn.0 == who) ≡ false → items_of who (turn ∷ turns) ≡ items_of who turns
no_item who turn turns f = λ i. cond (f i) (turn.1 ∷ items_of who turns) (items_of who turns)

own_reply : (who : ℕ) (m : Machine) (turn : Turn) (turns : List Turn) → (turn.0 == who) ≡ true → replies_to who m (turn ∷ turns) ≡ (machine_step m turn).0 ∷ replies_to who (machine_step m turn).1 turns
own_reply who m turn turns t = λ i. cond (t i) ((machine_step m turn).0 ∷ replies_to who (machine_step m turn).1 turns) (replies_to who (machine_step m turn).1 turns)

no_reply : (who : ℕ) (m : Machine) (turn : Turn) (turns : List Turn) → (turn.0 == who) ≡ false → replies_to who m (turn ∷ turns) ≡ replies_to who (machine_step m turn).1 turns
no_reply who m turn turns f = λ i. cond (f i) ((machine_step m turn).0 ∷ replies_to who (machine_step m turn).1 turns) (replies_to who (machine_step m turn).1 turns)

module _ (who : ℕ) (some : 0 < who) (base : Catalogue) where
  -- at a machine, within a transaction
  record Stands (m : Machine) (s : Snapshot) : Type 0 where
    within : who ≤ length m.sessions
    at : snapshot_at (who - 1) m ≡ Some s
    begun : s.begun ≤ length m.commits

  abbrev Said : Machine → Snapshot → List Turn → Type 0
  Said m s turns = replies_to who m turns ≡ said_to (opened base (seen m s) (length s.commands)) (items_of who turns)

  abbrev IsSaid : List Turn → Type 0
  IsSaid turns = (m : Machine) (s : Snapshot) → Stands m s → All (λ turn. 0 < turn.0) turns → All IsPlain (items_of who turns) → Said m s turns

  own_turn : (m : Machine) (s : Snapshot) (turn : Turn) (turns : List Turn) → Stands m s → turn.0 ≡ who → (turn.0 == who) ≡ true → All (λ t. 0 < t.0) turns
      → All IsPlain (turn.1 ∷ items_of who turns) → IsSaid turns → Said m s (turn ∷ turns)
  own_turn m s turn turns x same t numbered plain others =
      let x_within = x.within in
      let inside = inside_step (who - 1) m s base (omega (arith, some, x_within)) x.at turn.1 (plain 0 turn.1 (omega arith)) in
      let after : Machine = (step_of (who - 1) turn.1 m).1 in
      let step : machine_step m turn ≡ step_of (who - 1) turn.1 m = λ i. step_of (same i - 1) turn.1 m in
      let count : length after.sessions ≡ length m.sessions = count_step m (who, turn.1) in
      let y : Stands after inside.next = record {
        within = omega (arith, x_within, count);
        at = inside.at;
        begun = let commits : length after.commits ≡ length m.commits = ap length inside.commits in omega (arith, x.begun, inside.begun, commits);
      } in
      let state : State = opened base (seen m s) (length s.commands) in
      own_reply who m turn turns t
      ∙ (λ i. (step i).0 ∷ replies_to who (step i).1 turns)
      ∙ (λ i. inside.reply i ∷ others after inside.next y numbered (λ k d less. plain (suc k) d (omega (arith, less))) i)
      ∙ (λ i. (run_answer state turn.1).0 ∷ said_to (sym inside.state i) (items_of who turns))
      ∙ (λ i. said_to state (sym (own_item who turn turns t) i))

  other_turns : (m : Machine) (s : Snapshot) (turn : Turn) (turns : List Turn) → Stands m s → turn.0 ≢ who → (turn.0 == who) ≡ false → 0 < turn.0 → All (λ t. 0 < t.0) turns
      → All IsPlain (items_of who turns) → IsSaid turns → Said m s (turn ∷ turns)
  other_turns m s turn turns x differ f there numbered plain others =
      let after : Machine = (machine_step m turn).1 in
      let stays = other_turn m who s turn some there differ x.begun in
      let count : length after.sessions ≡ length m.sessions = count_step m turn in
      let x_within = x.within in
      let y : Stands after s = record {
        within = omega (arith, x_within, count);
        at = stays.at ∙ x.at;
        begun = omega (arith, x.begun, stays.more);
      } in
      no_reply who m turn turns f
      ∙ others after s y numbered plain
      ∙ (λ i. said_to (opened base (carried (stays.begun i) s.commands) (length s.commands)) (sym (no_item who turn turns f) i))

  said_inside : (turns : List Turn) → IsSaid turns
  said_inside [] m s x numbered plain = refl
  said_inside (turn ∷ turns) m s x numbered plain =
      let rest : All (λ t. 0 < t.0) turns = λ k d less. numbered (suc k) d (omega (arith, less)) in
      elim (eqb_tells turn.0 who) [
        | inl same ↦ own_turn m s turn turns x same.1 same.0 rest (subst (All IsPlain) (own_item who turn turns same.0) plain) (said_inside turns)
        | inr other ↦
            other_turns m s turn turns x other.1 other.0 (numbered 0 turn (omega arith)) rest (subst (All IsPlain) (no_item who turn turns other.0) plain) (said_inside turns)
      ]

-- a transaction begins
pub begins_so : (who : ℕ) (m : Machine) → snapshot_at who m ≡ None → step_of who (Ok commands.Begin) m ≡ (ok_line, with_snapshot who (Some (fresh m)) m)
begins_so who m at =
    (λ i. in_session who commands.Begin (Some Opens) (at i) m)
    ∙ (λ i. accepted_or who commands.Begin (Some Opens) None m (opened_outside commands.Begin (latest m) refl i))

pub snapshots : SnapshotsAreRuns
snapshots m who turns some within at numbered plain =
    let w : ℕ = who - 1 in
    let after : Machine = with_snapshot w (Some (fresh m)) m in
    let step : machine_step m (who, Ok commands.Begin) ≡ (ok_line, after) = begins_so w m at in
    let itself : (who == who) ≡ true = grind (arith, nat_tests) in
    let inside : w < length m.sessions = omega (arith, some, within) in
    let x : Stands who some (latest m) after (fresh m) = record {
      within = omega (arith, within, length-set m.sessions w (Some (fresh m)));
      at = get_or-set_same m.sessions w (Some (fresh m)) None inside;
      begun = omega arith;
    } in
    let ran = run_came (Ok commands.Begin) (resting (latest m)) ok_line (opened (latest m) (latest m) 0) (opened_outside commands.Begin (latest m) refl) in
    own_reply who m (who, Ok commands.Begin) turns itself
    ∙ (λ i. (step i).0 ∷ replies_to who (step i).1 turns)
    ∙ (λ i. ok_line ∷ said_inside who some (latest m) turns after (fresh m) x numbered plain i)
    ∙ (λ i. ok_line ∷ said_to (opened (latest m) (fresh_seen m i) 0) (items_of who turns))
    ∙ (λ i. (sym ran i).0 ∷ said_to (sym ran i).1 (items_of who turns))
