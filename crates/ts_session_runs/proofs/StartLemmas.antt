-- What is in hand before the first turn.
use Rattle.std.proofs.Common.{◌≡◌, ℕ, zero, suc, Bool, false, Option, None, List, [], ◌∷◌, map, replicate, get_or, refl, ap, sym, subst}
use Rattle.std.specs.Option.{option_map}
use Rattle.ts_disk.specs.Device.{Device}
use Rattle.ts_model.specs.Catalogue.{Catalogue}
use Rattle.ts_answer.specs.Answer.{resting}
use Rattle.ts_multi.specs.Log.{Pending}
use Rattle.ts_multi.specs.Log.{start as start_log}
use Rattle.ts_sessions.specs.Machine.{Snapshot, snapshot_at, start}
use Rattle.ts_sessions.specs.LogOf.{pending_of}
use Rattle.ts_sessions.proofs.CallerLemmas.{no_snapshot, sound_start}
use Rattle.ts_views.specs.declared.view.View.{View}
use Rattle.ts_views.specs.View.{view_of}
use Rattle.ts_session_turns.specs.Engine.{Kept, IsAt}
use Rattle.ts_session_turns.specs.Passed.{newest}
use Rattle.ts_session_turns.specs.Hand.{Hand, hand, IsAtMachine, ShowsSnapshot}

-- no session has a transaction
abbrev nothing : {A : Type 0} → Option A
nothing = None

none_open : {A : Type 0} (count who : ℕ) → get_or (replicate count (nothing {A = A})) who (nothing {A = A}) ≡ nothing {A = A}
none_open zero zero = refl
none_open zero (suc who) = refl
none_open (suc count) zero = refl
none_open {A} (suc count) (suc who) = none_open {A = A} count who

same_nothing : (count : ℕ) → map (option_map pending_of) (replicate count (nothing {A = Snapshot})) ≡ replicate count (nothing {A = Pending})
same_nothing zero = refl
same_nothing (suc count) = ap (λ (l : List (Option Pending)). nothing {A = Pending} ∷ l) (same_nothing count)

-- what is in hand at the beginning
abbrev pub at_start : Kept → ℕ → Hand
at_start e count = hand e (replicate count None) (start_log count)

module _ (tells : Bool) (e : Kept) (count : ℕ) (v : Device) where
  none_seen : (who : ℕ) → view_of who (replicate count (nothing {A = View})) ≡ nothing {A = View}
  none_seen who = none_open {A = View} count who

  start_shows : (cat : Catalogue) (who : ℕ) → ShowsSnapshot (start count cat) (newest e v) (view_of who (replicate count (nothing {A = View}))) (snapshot_at who (start count cat))
  start_shows cat who =
      subst (λ (o : Option View). ShowsSnapshot (start count cat) (newest e v) o (snapshot_at who (start count cat))) (sym (none_seen who))
      (subst (λ (q : Option Snapshot). ShowsSnapshot (start count cat) (newest e v) None q) (sym (no_snapshot cat count who)) tt)

  pub start_at : (cat : Catalogue) → IsAt tells e (resting cat) v → IsAtMachine tells (at_start e count) (start count cat) v
  start_at cat at = record {
    at = at;
    log = (false, λ i. record { commits = []; sessions = sym (same_nothing count) i; room = false });
    views = start_shows cat;
    sound = sound_start count cat;
  }
