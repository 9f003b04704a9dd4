-- The commands that begin and end a transaction.
use Rattle.std.proofs.Common.{◌≡◌, ◌≢◌, ℕ, Bool, true, Option, Some, None, Ok, Err, refl}
use Rattle.ts_base.specs.declared.refusal.Refusal.TheVariants.{NotOpen}
use Rattle.ts_command.specs.declared.command.Command.{Command}
use Rattle.ts_command.specs.declared.command.Command.TheVariants as commands
use Rattle.ts_command.specs.declared.boundary.Boundary.{Boundary}
use Rattle.ts_command.specs.declared.boundary.Boundary.TheVariants.{Opens, Commits, RollsBack, Alone}
use Rattle.ts_command.specs.Boundary.{boundary_of, is_between}
use Rattle.ts_model.specs.Catalogue.{Catalogue}
use Rattle.ts_answer.specs.Answer.{outcome, carried_out, begun}
use Rattle.ts_answer.specs.Reply.{ok_line}
use Rattle.ts_answer.specs.CarriedOut.{growth_of}
use Rattle.ts_engine.specs.Transaction.{misplaced_in}
use Rattle.ts_engine.specs.Work.{Boundaries, work_of}

-- one is begun where none is open
pub begins_anew : (command : Command) → boundary_of command ≡ Some Opens → (cat : Catalogue) → outcome (Ok command) cat ≡ Ok (ok_line, cat)
unfolding outcome carried_out
begins_anew commands.Begin is cat = refl
begins_anew other is cat = absurd (cc)

-- and none is there to be ended
pub none_to_commit : (command : Command) → boundary_of command ≡ Some Commits → (cat : Catalogue) → outcome (Ok command) cat ≡ Err NotOpen
unfolding outcome carried_out
none_to_commit commands.Commit is cat = refl
none_to_commit other is cat = absurd (cc)

pub none_to_roll_back : (command : Command) → boundary_of command ≡ Some RollsBack → (cat : Catalogue) → outcome (Ok command) cat ≡ Err NotOpen
unfolding outcome carried_out
none_to_roll_back commands.Rollback is cat = refl
none_to_roll_back other is cat = absurd (cc)

-- all others are carried out on pages or in memory
pub works_between : (command : Command) → is_between (boundary_of command) ≡ true → work_of command ≢ Boundaries
works_between commands.Begin between is = absurd (cc)
works_between commands.Commit between is = absurd (cc)
works_between commands.Rollback between is = absurd (cc)
works_between other between is = absurd (cc)

-- such a command leaves no transaction open where none is
pub begun_between : (b : Option Boundary) → is_between b ≡ true → (cat : Catalogue) → begun b cat ≡ None
begun_between None between cat = refl
begun_between (Some Opens) between cat = absurd (cc)
begun_between (Some Commits) between cat = refl
begun_between (Some RollsBack) between cat = refl
begun_between (Some Alone) between cat = refl

-- there it has its place
pub placed_outside : (b : Option Boundary) → is_between b ≡ true → (writes : Bool) → misplaced_in b writes None ≡ None
placed_outside None between writes = refl
placed_outside (Some Opens) between writes = refl
placed_outside (Some Commits) between writes = absurd (cc)
placed_outside (Some RollsBack) between writes = absurd (cc)
placed_outside (Some Alone) between writes = refl

-- and where one is open, if it can stand in one
pub none_inside : (b : Option Boundary) → is_between b ≡ true → (writes : Bool) (n : ℕ) → misplaced_in b writes (Some n) ≡ None → b ≡ None
none_inside None between writes n placed = refl
none_inside (Some Opens) between writes n placed = absurd (cc)
none_inside (Some Commits) between writes n placed = absurd (cc)
none_inside (Some RollsBack) between writes n placed = absurd (cc)
none_inside (Some Alone) between writes n placed = absurd (cc)

-- what can stand in one is one edit
pub one_edit : (command : Command) → boundary_of command ≡ None → growth_of command ≡ 1
one_edit (commands.RollingPut set stamp literals) none = absurd (cc)
one_edit (commands.RollingDrop set) none = absurd (cc)
one_edit command none = refl
