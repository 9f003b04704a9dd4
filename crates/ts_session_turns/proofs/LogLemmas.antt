-- What is kept of a machine goes through its steps with it: the law of ts_sessions, once more as a lemma.
use Rattle.std.proofs.Common.{◌≡◌, ℕ, zero, suc, Bool, false, Option, Some, None, option_map, List, [], ◌∷◌, ◌++◌, length, map, get_or, set, refl, ap, sym, ◌∙◌}
use Rattle.std.proofs.lemmas.List.{map-set, map-append, length-map}
use Rattle.ts_command.specs.declared.command.Command.{Command}
use Rattle.ts_model.specs.Catalogue.{Catalogue}
use Rattle.ts_multi.specs.declared.object.Object.{Object}
use Rattle.ts_multi.specs.Objects.{written}
use Rattle.ts_multi.specs.Touched.{objects}
use Rattle.ts_multi.specs.Log.{Pending, pending_at, conflict_of, with_noted, wrote_of}
use Rattle.ts_sessions.specs.Machine.{Commit, Snapshot, Machine, snapshot_at, wrote_by}
use Rattle.ts_sessions.specs.Steps.{fresh, with_command}
use Rattle.ts_sessions.specs.LogOf.{pending_of, log_of}
use Rattle.ts_sessions.specs.Laws.{LogsFollow}

pending_there : (xs : List (Option Snapshot)) (who : ℕ) → get_or (map (option_map pending_of) xs) who None ≡ option_map pending_of (get_or xs who None)
pending_there [] zero = refl
pending_there [] (suc who) = refl
pending_there (p ∷ xs) zero = refl
pending_there (p ∷ xs) (suc who) = pending_there xs who

module _ (who : ℕ) (m : Machine) (room : Bool) where
  same_sessions : (p : Option Snapshot) (q : Option Pending) → option_map pending_of p ≡ q
      → map (option_map pending_of) (set m.sessions who p) ≡ set (map (option_map pending_of) m.sessions) who q
  same_sessions p q is = map-set (option_map pending_of) m.sessions who p ∙ ap (set (map (option_map pending_of) m.sessions) who) is

  pending_is : pending_at who (log_of room m) ≡ option_map pending_of (snapshot_at who m)
  pending_is = pending_there m.sessions who

  open_is : (s : Snapshot) → snapshot_at who m ≡ Some s → pending_at who (log_of room m) ≡ Some (pending_of s)
  open_is s at = pending_is ∙ ap (option_map pending_of) at

  wrote_more : (cat : Catalogue) (wrote : List Object) → wrote_by (m.commits ++ record { catalogue = cat; wrote = wrote } ∷ []) ≡ wrote_by m.commits ++ wrote ∷ []
  wrote_more cat wrote = map-append (λ (c : Commit). c.wrote) m.commits (record { catalogue = cat; wrote = wrote } ∷ [])

  noted_more : (s : Snapshot) (command : Command) → Some (pending_of (with_command command s)) ≡ with_noted (objects command) (Some (pending_of s))
  noted_more s command = λ i. Some (record { begun = s.begun; noted = map-append objects s.commands (command ∷ []) i })

  pub follows : LogsFollow who m room
  follows = record {
    pending = pending_is;
    conflict = λ s at. ap (λ (p : Option Pending). conflict_of p (wrote_by m.commits)) (open_is s at);
    begins = λ i. record {
      commits = wrote_by m.commits;
      sessions = same_sessions (Some (fresh m)) (Some (record { begun = length (wrote_by m.commits); noted = [] }))
          (λ j. Some (record { begun = sym (length-map m.commits (λ (c : Commit). c.wrote)) j; noted = [] })) i;
      room = room;
    };
    ends = λ i. record { commits = wrote_by m.commits; sessions = same_sessions None None refl i; room = room };
    notes = λ s command at i. record {
      commits = wrote_by m.commits;
      sessions = same_sessions (Some (with_command command s)) (with_noted (objects command) (pending_at who (log_of room m)))
          (noted_more s command ∙ ap (with_noted (objects command)) (sym (open_is s at))) i;
      room = false;
    };
    commits = λ s cat at i. record {
      commits = (wrote_more cat (written (map objects s.commands)) ∙ (λ j. wrote_by m.commits ++ wrote_of (sym (open_is s at) j) ∷ [])) i;
      sessions = same_sessions None None refl i;
      room = false;
    };
    alone = λ command cat i. record {
      commits = wrote_more cat (objects command).wrote i;
      sessions = map (option_map pending_of) m.sessions;
      room = false;
    };
  }
