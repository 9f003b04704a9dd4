-- The transaction of a session begins, or ends without a commit.
use Rattle.std.proofs.Common.{◌≡◌, ℕ, ◌<◌, Bool, false, IsTrue, Option, Some, None, Ok, is_some, IfSome, List, [], length, set, refl, ap, sym, ◌∙◌, subst, length-set, arith}
use Rattle.std.proofs.lemmas.List.{get_or-set_same, take_all}
use Rattle.ts_disk.specs.Device.{Device, Lawful}
use Rattle.ts_page.specs.Pages.{Contents}
use Rattle.ts_command.specs.declared.command.Command.{Command}
use Rattle.ts_command.specs.declared.boundary.Boundary.TheVariants.{Opens}
use Rattle.ts_command.specs.Boundary.{boundary_of}
use Rattle.ts_store.specs.OpenBatch.{contents_over}
use Rattle.ts_layout.specs.Meaning.{Means}
use Rattle.ts_answer.specs.Reply.{ok_line}
use Rattle.ts_multi.specs.Log.{Log, Pending, pending_at, after_begin, after_end}
use Rattle.ts_sessions.specs.Machine.{Snapshot, Machine, latest, seen, behind_commits}
use Rattle.ts_sessions.specs.Steps.{fresh, step_of, with_snapshot}
use Rattle.ts_sessions.specs.LogOf.{log_of}
use Rattle.ts_views.specs.declared.view.View.{View}
use Rattle.ts_view_catalogues.specs.Catalogues.{IsViewReady, ViewMeans}
use Rattle.ts_session_engine.specs.Engine.{Kept}
use Rattle.ts_session_engine.specs.Beside.{newest, SamePages, OthersStay}
use Rattle.ts_session_engine.specs.Committed.{AreCommands}
use Rattle.ts_session_engine.specs.Opened.{IsNewest}
use Rattle.ts_session_engine.proofs.CallerLemmas.{newest_is, others_set, same_stay}
use Rattle.ts_session_turns.specs.Hand.{Hand, hand, IsHandReady, IsAtMachine, ShowsSnapshot}
use Rattle.ts_session_turns.specs.Turned.{Turned}
use Rattle.ts_session_turns.proofs.LogLemmas.{follows}
use Rattle.ts_session_turns.proofs.MachineLemmas.{begins_new}
use Rattle.ts_session_turns.proofs.OpenLemmas.{closed_there, within_there}
use Rattle.ts_session_turns.proofs.ReadyLemmas.{alike_set, each_set}
use Rattle.ts_session_turns.proofs.StandLemmas.{others_show_with}
use Rattle.ts_session_turns.proofs.TurnedLemmas.{sound_then, turned_quiet}

-- no command
no_commands : (list : List Command) → list ≡ [] → AreCommands list
no_commands list none = subst AreCommands (sym none) (record {
  few = omega arith;
  writing = λ k d within. absurd (omega (arith, within));
  between = λ k d within. absurd (omega (arith, within));
  form = λ k d within. absurd (omega (arith, within));
})

-- pages that are the same
same_pages : (c : Contents) → SamePages c c
same_pages c = record { count = refl; pages = λ k. refl }

-- no view but that of a session is another one
others_left : (tells : Bool) (who : ℕ) (c : Contents) (views : List (Option View)) (o : Option View) → OthersStay tells who c c views (set views who o)
others_left tells who c views o = others_set tells who c c views views o (same_stay tells c c views (same_pages c))

-- what is in hand without the room of the log
module _ (tells : Bool) (e : Kept) (views : List (Option View)) (log : Log) (v : Device) (who : ℕ) (within : who < length views) (ready : IsHandReady tells (hand e views log) v) where
  abbrev h : Hand
  h = hand e views log

  -- The transaction of the session is another one, and so is its view.
  module _ (p : Option Pending) (o : Option View) (same : is_some p ≡ is_some o) (view : IfSome o (λ x. IsViewReady tells x (newest e v))) (commands : IfSome o (λ x. AreCommands x.commands.items)) where
    abbrev k : Hand
    k = hand e (set views who o) (record log { sessions = set log.sessions who p })

    pub changed_ready : IsHandReady tells k v
    changed_ready = record {
      beside = record { ready = ready.beside.ready; rests = ready.beside.rests; views = each_set (λ x. IsViewReady tells x (newest e v)) views who o within ready.beside.views view };
      count = length-set log.sessions who p ∙ ready.count ∙ sym (length-set views who o);
      alike = alike_set log.sessions views who p o ready.count within same ready.alike;
      commands = each_set (λ x. AreCommands x.commands.items) views who o within ready.commands commands;
    }

    -- the machine goes on to one with another transaction of the session
    pub changed_at : (told : IsTrue tells) (m : Machine) (at : IsAtMachine tells h m v) (q : Option Snapshot) (command : Command) (reply : List ℕ) → step_of who (Ok command) m ≡ (reply, with_snapshot who q m)
        → (room : Bool) × (k.log ≡ log_of room (with_snapshot who q m)) → ShowsSnapshot m (newest e v) o q → IsAtMachine tells k (step_of who (Ok command) m).1 v
    changed_at told m at q command reply step logged shows =
        subst (λ (n : Machine). IsAtMachine tells k n v) (sym (λ i. (step i).1))
        (record {
          at = record { ready = at.at.ready; means = at.at.means; newest = at.at.newest; accepted = at.at.accepted };
          log = logged;
          views = others_show_with tells told m (newest e v) (newest e v) views (set views who o) at.views who q (within_there tells h m v at who ready.count within) (others_left tells who (newest e v) views o)
              (subst (λ (x : Option View). ShowsSnapshot m (newest e v) x q) (sym (get_or-set_same views who o None within)) shows);
          sound = sound_then who (Ok command) m (with_snapshot who q m) reply step at.sound;
        })

  -- A view was opened: the transaction begins.
  pub opened_turned : Lawful tells v → (x : View) → IsNewest e x → (command : Command) → boundary_of command ≡ Some Opens → is_some (pending_at who log) ≡ false → (out : List ℕ) → out ≡ ok_line
      → Turned tells who (Ok command) (Ok tt) out h (hand e (set views who (Some x)) (after_begin who log)) v v
  opened_turned lawful x is command opens closed out said =
      let p : Option Pending = Some (record { begun = length log.commits; noted = [] }) in
      let same : newest e v ≡ contents_over e.store v = newest_is tells e v ready.beside.ready ready.beside.rests in
      let view : IsViewReady tells x (newest e v) = subst (IsViewReady tells x) (sym same) (is.ready tells (contents_over e.store v) refl ready.beside.ready.seen) in
      let commands : AreCommands x.commands.items = no_commands x.commands.items is.commands in
      turned_quiet tells who (Ok command) h (k p (Some x) refl view commands) v lawful (length-set views who (Some x)) (omega arith) out (changed_ready p (Some x) refl view commands)
      (λ told m at.
      let none = closed_there tells h m v at who closed in
      let step = begins_new who command m opens none in
      let latest_is : seen m (fresh m) ≡ latest m = ap (behind_commits m.first) (take_all (length m.commits) m.commits (omega arith)) in
      let means : Means (newest e v).count (newest e v).page (latest m) = subst (λ (c : Contents). Means c.count c.page (latest m)) (sym same) at.at.newest in (
        said ∙ sym (λ i. (step i).0),
        changed_at p (Some x) refl view commands told m at (Some (fresh m)) command ok_line step
            (at.log.0, ap (after_begin who) at.log.1 ∙ sym (follows who m at.log.0).begins)
            (is.commands, subst (ViewMeans x (newest e v)) (sym latest_is) (is.means (newest e v) (latest m) means)),
      ))

  -- It was closed: the transaction ends with this reply.
  pub ended_turned : Lawful tells v → (command : Command) (line out : List ℕ) → out ≡ line → (IsTrue tells → (m : Machine) → IsAtMachine tells h m v → step_of who (Ok command) m ≡ (line, with_snapshot who None m))
      → Turned tells who (Ok command) (Ok tt) out h (hand e (set views who None) (after_end who log)) v v
  ended_turned lawful command line out said is =
      turned_quiet tells who (Ok command) h (k None None refl tt tt) v lawful (length-set views who None) (omega arith) out (changed_ready None None refl tt tt)
      (λ told m at.
      let step = is told m at in (
        said ∙ sym (λ i. (step i).0),
        changed_at None None refl tt tt told m at None command line step (at.log.0, ap (after_end who) at.log.1 ∙ sym (follows who m at.log.0).ends) tt,
      ))
