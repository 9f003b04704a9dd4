-- Every turn keeps what holds of a machine's transactions.
use Rattle.std.proofs.Common.{◌≡◌, ◌⊎◌, inl, inr, ℕ, zero, suc, ◌+◌, ◌-◌, ◌<◌, ◌≤◌, true, Option, Some, None, Ok, List, [], ◌∷◌, ◌++◌, length, map, take, get_or, set, All, refl, ap, sym, ◌∙◌, subst, arith}
use Rattle.std.proofs.lemmas.List.{length-append, length-set, take-append-le}
use Rattle.std.proofs.lemmas.List.Elements.{All-append}
use Rattle.ts_command.specs.declared.command.Command.{Command}
use Rattle.ts_command.specs.Grammar.{Request}
use Rattle.ts_model.specs.Catalogue.{Catalogue}
use Rattle.ts_multi.specs.declared.object.Object.{Object}
use Rattle.ts_multi.specs.Objects.{written}
use Rattle.ts_multi.specs.Touched.{objects}
use Rattle.ts_answer.specs.Answer.{Answered, outcome}
use Rattle.ts_sessions.specs.Machine.{Commit, Snapshot, Machine, start, snapshot_at, behind_commits, replayed, begun_at, carried, seen}
use Rattle.ts_sessions.specs.Steps.{Turn, with_snapshot, with_commit, fresh, with_command, machine_step}
use Rattle.ts_sessions.specs.Laws.{CanBeNoted, IsSoundAt, IsSound, MachinesStaySound}
use Rattle.ts_sessions.proofs.CarriedLemmas.{accepted_answer, carried_more, replayed_more}
use Rattle.ts_sessions.proofs.MoveLemmas.{set_cases, Moves, stays, begins, ends, notes, commits_alone, commits_all, moves}

-- the Begin of a transaction stays where a commit comes
pub begun_still : (first : Catalogue) (commits more : List Commit) (begun : ℕ) → begun ≤ length commits → behind_commits first (take begun (commits ++ more)) ≡ behind_commits first (take begun commits)
begun_still first commits more begun within = ap (behind_commits first) (take-append-le begun commits more within)

module _ (m : Machine) where
  pub sound_set : IsSound m → (who : ℕ) (p : Option Snapshot) → ((s : Snapshot) → p ≡ Some s → IsSoundAt m s) → IsSound (with_snapshot who p m)
  sound_set sound who p of k s at = elim (set_cases m.sessions who k p) [
    | inl same ↦ again (sound k s (sym same ∙ at))
    | inr set ↦ again (of s (sym set.2 ∙ at))
  ] where
    again : IsSoundAt m s → IsSoundAt (with_snapshot who p m) s
    again x = record { begun = x.begun; few = x.few; writing = x.writing; accepted = x.accepted }

  pub sound_commit : IsSound m → (cat : Catalogue) (wrote : List Object) → IsSound (with_commit cat wrote m)
  sound_commit sound cat wrote k s at =
      let x = sound k s at in
      let more : List Commit = record { catalogue = cat; wrote = wrote } ∷ [] in
      let same = begun_still m.first m.commits more s.begun x.begun in
      record {
        begun = omega (arith, x.begun, length-append m.commits more);
        few = x.few;
        writing = x.writing;
        accepted = (λ i. replayed (same i) s.commands) ∙ x.accepted ∙ (λ i. Ok (carried (sym same i) s.commands));
      }

  sound_fresh : IsSoundAt m (fresh m)
  sound_fresh = record { begun = omega arith; few = omega arith; writing = λ k d within. absurd (omega (arith, within)); accepted = refl }

  sound_more : (s : Snapshot) (command : Command) (a : Answered) → IsSoundAt m s → CanBeNoted command → length s.commands < 32 → outcome (Ok command) (seen m s) ≡ Ok a → IsSoundAt m (with_command command s)
  sound_more s command a x writes few is = record {
    begun = x.begun;
    few = omega (arith, few, length-append s.commands (command ∷ []));
    writing = All-append CanBeNoted s.commands (command ∷ []) x.writing (one writes);
    accepted =
        replayed_more (begun_at m s) s.commands command (seen m s) a x.accepted is
        ∙ (λ i. Ok (sym (carried_more (begun_at m s) s.commands command ∙ (λ j. (accepted_answer (seen m s) command a is j).1)) i));
  } where
    one : CanBeNoted command → All CanBeNoted (command ∷ [])
    one w zero d within = w
    one w (suc k) d within = absurd (omega (arith, within))

sound_moved : (who : ℕ) (request : Request) (m after : Machine) → IsSound m → Moves who (snapshot_at who m) request m after → IsSound after
sound_moved who request m after sound (stays e) = subst IsSound (sym e) sound
sound_moved who request m after sound (begins none e) =
    subst IsSound (sym e) (sound_set m sound who (Some (fresh m)) (λ s is. subst (IsSoundAt m) (let same : fresh m ≡ s = cc in same) (sound_fresh m)))
sound_moved who request m after sound (ends e) = subst IsSound (sym e) (sound_set m sound who None (λ s is. absurd (cc)))
sound_moved who request m after sound (notes s command a some writes few is e) =
    let more = sound_more m s command a (sound who s some) writes few is in
    subst IsSound (sym e) (sound_set m sound who (Some (with_command command s)) (λ t at. subst (IsSoundAt m) (let same : with_command command s ≡ t = cc in same) more))
sound_moved who request m after sound (commits_alone command a none asked writes is e) = subst IsSound (sym e) (sound_commit m sound a.1 (objects command).wrote)
sound_moved who request m after sound (commits_all s command next some asked commits free is e) =
    subst IsSound (sym e) (sound_commit (with_snapshot who None m) (sound_set m sound who None (λ t at. absurd (cc))) next (written (map objects s.commands)))

count_moved : (who : ℕ) (request : Request) (m after : Machine) → Moves who (snapshot_at who m) request m after → length after.sessions ≡ length m.sessions
count_moved who request m after (stays e) = ap (λ (x : Machine). length x.sessions) e
count_moved who request m after (begins none e) = ap (λ (x : Machine). length x.sessions) e ∙ length-set m.sessions who (Some (fresh m))
count_moved who request m after (ends e) = ap (λ (x : Machine). length x.sessions) e ∙ length-set m.sessions who None
count_moved who request m after (notes s command a some writes few is e) = ap (λ (x : Machine). length x.sessions) e ∙ length-set m.sessions who (Some (with_command command s))
count_moved who request m after (commits_alone command a none asked writes is e) = ap (λ (x : Machine). length x.sessions) e
count_moved who request m after (commits_all s command next some asked commits free is e) = ap (λ (x : Machine). length x.sessions) e ∙ length-set m.sessions who None

pub no_snapshot : (cat : Catalogue) (count who : ℕ) → snapshot_at who (start count cat) ≡ None
no_snapshot cat zero zero = refl
no_snapshot cat zero (suc who) = refl
no_snapshot cat (suc count) zero = refl
no_snapshot cat (suc count) (suc who) = no_snapshot cat count who

pub sound_start : (count : ℕ) (cat : Catalogue) → IsSound (start count cat)
sound_start count cat who s at = let none : None ≡ Some s = sym (no_snapshot cat count who) ∙ at in absurd (cc)

pub sound_step : (m : Machine) (turn : Turn) → IsSound m → IsSound (machine_step m turn).1
sound_step m turn sound = sound_moved (turn.0 - 1) turn.1 m (machine_step m turn).1 sound (moves (turn.0 - 1) turn.1 m)

pub count_step : (m : Machine) (turn : Turn) → length (machine_step m turn).1.sessions ≡ length m.sessions
count_step m turn = count_moved (turn.0 - 1) turn.1 m (machine_step m turn).1 (moves (turn.0 - 1) turn.1 m)

pub stay_sound : MachinesStaySound
stay_sound = record { start = sound_start; turn = sound_step; count = count_step }
