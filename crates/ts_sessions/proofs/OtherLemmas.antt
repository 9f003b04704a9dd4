-- What the turns of other sessions leave.
use Rattle.std.proofs.Common.{◌≡◌, ◌≢◌, ◌⊎◌, inl, inr, ℕ, zero, suc, ◌+◌, ◌-◌, ◌<◌, ◌≤◌, Option, Some, None, List, [], ◌∷◌, ◌++◌, length, refl, ap, sym, ◌∙◌, subst, arith}
use Rattle.std.proofs.lemmas.List.{length-append, get_or-set_other}
use Rattle.ts_command.specs.Grammar.{Request}
use Rattle.ts_model.specs.Catalogue.{Catalogue}
use Rattle.ts_multi.specs.declared.object.Object.{Object}
use Rattle.ts_sessions.specs.Machine.{Commit, Snapshot, Machine, snapshot_at, begun_at, carried, seen}
use Rattle.ts_sessions.specs.Steps.{Turn, with_snapshot, with_commit, machine_step, machine_answer}
use Rattle.ts_sessions.specs.Turns.{behind_all}
use Rattle.ts_sessions.specs.Laws.{AreOthers, IsLeft, OthersLeaveASnapshot}
use Rattle.ts_sessions.proofs.MoveLemmas.{Moves, stays, begins, ends, notes, commits_alone, commits_all, moves}
use Rattle.ts_sessions.proofs.SoundLemmas.{begun_still}

-- the transaction of a session stays, and what it sees
pub record Stays (k : ℕ) (s : Snapshot) (m after : Machine) : Type 0 where
  pub at : snapshot_at k after ≡ snapshot_at k m
  pub begun : begun_at after s ≡ begun_at m s
  pub more : length m.commits ≤ length after.commits

module _ (k who : ℕ) (s : Snapshot) (away : k ≢ who) where
  set_stays : (m : Machine) (p : Option Snapshot) → Stays k s m (with_snapshot who p m)
  set_stays m p = record { at = get_or-set_other m.sessions who k p None away; begun = refl; more = omega arith }

  commit_stays : (m : Machine) (cat : Catalogue) (wrote : List Object) → s.begun ≤ length m.commits → Stays k s m (with_commit cat wrote m)
  commit_stays m cat wrote within =
      let more : List Commit = record { catalogue = cat; wrote = wrote } ∷ [] in
      record { at = refl; begun = begun_still m.first m.commits more s.begun within; more = omega (arith, length-append m.commits more) }

  pub other_stays : (pending : Option Snapshot) (request : Request) (m after : Machine) → s.begun ≤ length m.commits → Moves who pending request m after → Stays k s m after
  other_stays pending request m after within (stays e) = subst (Stays k s m) (sym e) (record { at = refl; begun = refl; more = omega arith })
  other_stays pending request m after within (begins none e) = subst (Stays k s m) (sym e) (set_stays m _)
  other_stays pending request m after within (ends e) = subst (Stays k s m) (sym e) (set_stays m None)
  other_stays pending request m after within (notes t command a some writes few is e) = subst (Stays k s m) (sym e) (set_stays m _)
  other_stays pending request m after within (commits_alone command a none asked writes is e) = subst (Stays k s m) (sym e) (commit_stays m a.1 _ within)
  other_stays pending request m after within (commits_all t command next some asked commits free is e) =
      let set = set_stays m None in
      let made = commit_stays (with_snapshot who None m) next _ within in
      subst (Stays k s m) (sym e) (record { at = made.at ∙ set.at; begun = made.begun ∙ set.begun; more = omega (arith, made.more, set.more) })

-- sessions are counted from 1
pub apart_from : (who other : ℕ) → 0 < who → 0 < other → other ≢ who → who - 1 ≢ other - 1
apart_from who other some there differ same = differ (omega (arith, same, some, there))

pub other_turn : (m : Machine) (who : ℕ) (s : Snapshot) (turn : Turn) → 0 < who → 0 < turn.0 → turn.0 ≢ who → s.begun ≤ length m.commits → Stays (who - 1) s m (machine_step m turn).1
other_turn m who s turn some there differ within =
    other_stays (who - 1) (turn.0 - 1) s (apart_from who turn.0 some there differ) (snapshot_at (turn.0 - 1) m) turn.1 m (machine_step m turn).1 within (moves (turn.0 - 1) turn.1 m)

pub left_by_others : OthersLeaveASnapshot
left_by_others m who s [] some others at within = record { open_still = at; same = refl }
left_by_others m who s (turn ∷ turns) some others at within =
    let first = others 0 turn (omega arith) in
    let next : Machine = (machine_step m turn).1 in
    let left = other_turn m who s turn some first.0 first.1 within in
    let rest = left_by_others next who s turns some (λ k d less. others (suc k) d (omega (arith, less))) (left.at ∙ at) (omega (arith, within, left.more)) in
    record { open_still = rest.open_still; same = rest.same ∙ (λ i. carried (left.begun i) s.commands) }
