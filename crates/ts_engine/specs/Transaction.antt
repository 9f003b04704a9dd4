-- A transaction of an engine: which commands it refuses, and what its beginning, its commit and its rollback do.
use Rattle.std.specs.Prelude.{◌≡◌, ◌&&◌, nat_le, if◌then◌else◌, ℕ, Bool, Option, Some, None, Result, Err, OnOk}
use Rattle.std.specs.Prelude.{OnErr}
use Rattle.ts_base.specs.declared.fault.StoreFault.{StoreFault}
use Rattle.ts_base.specs.declared.fault.StoreFault.TheVariants.{Failed as StoreFailed}
use Rattle.ts_base.specs.declared.refusal.Refusal.{Refusal}
use Rattle.ts_base.specs.declared.refusal.Refusal.TheVariants.{NotOpen, AlreadyOpen, TransactionFull}
use Rattle.ts_command.specs.declared.command.Command.{Command}
use Rattle.ts_command.specs.declared.boundary.Boundary.{Boundary}
use Rattle.ts_command.specs.declared.boundary.Boundary.TheVariants.{Opens, Commits, RollsBack, Alone}
use Rattle.ts_disk.specs.Device.{Device}
use Rattle.ts_store.specs.OpenBatch.{rolled_back as store_rolled_back}
use Rattle.ts_answer.specs.Answer.{most_accepted, counted}
use Rattle.ts_container.specs.KeptCharges.{AreCharges}
use Rattle.ts_engine.specs.declared.fault.StepFault.{StepFault}
use Rattle.ts_engine.specs.declared.transaction.Saved.{Saved}
use Rattle.ts_engine.specs.Change.{Finished}
use Rattle.ts_engine.specs.Engine.{Kept}

-- Why a command is refused before all else: it can't begin or end a transaction there, or stands in none, or writes in
-- one that has all that it may have.
abbrev pub misplaced_in : Option Boundary → Bool → Option ℕ → Option Refusal
misplaced_in (Some Opens) writes None = None
misplaced_in (Some Opens) writes (Some accepted) = Some AlreadyOpen
misplaced_in (Some Commits) writes None = Some NotOpen
misplaced_in (Some Commits) writes (Some accepted) = None
misplaced_in (Some RollsBack) writes None = Some NotOpen
misplaced_in (Some RollsBack) writes (Some accepted) = None
misplaced_in (Some Alone) writes None = None
misplaced_in (Some Alone) writes (Some accepted) = Some AlreadyOpen
misplaced_in None writes None = None
misplaced_in None writes (Some accepted) = if writes && nat_le most_accepted accepted then Some TransactionFull
    else None

-- how many commands that write were accepted
abbrev pub accepted_in : Option Saved → ℕ
accepted_in None = 0
accepted_in (Some saved) = saved.accepted

-- the count with an accepted command
abbrev pub counted_in : Command → Option Saved → Option Saved
counted_in command None = None
counted_in command (Some saved) = Some (record saved { accepted = counted command saved.accepted })

-- a transaction is begun: copies of the definitions and of the directory are kept
pub record Begins (e f : Kept) : Type 0 where
  pub copies : Saved
  pub definitions : copies.defs.definitions ≡ e.tables.definitions
  pub lists : copies.space.lists ≡ e.space.lists
  pub accepted : copies.accepted ≡ 0
  pub now : f ≡ record e { saved = Some copies }

-- a transaction is committed, or not for want of memory, or the disk failed
pub record CommitsAll (tells : Bool) (result : Result Unit StepFault) (e f : Kept) (v w : Device) : Type 0 where
  -- the memory that was taken for the reply, and the engine at the end of the batch
  pub said : Result Unit StoreFault
  pub cause : said ≡ Err StoreFailed → ⊥
  pub ended : Kept
  pub finished : Finished tells said result e ended v w
  pub now : f ≡ record ended { saved = f.saved }
  pub closed : OnOk result (f.saved ≡ None)
  pub stays : OnErr result (f.saved ≡ e.saved)

-- a transaction is rolled back: the copies are what is kept, and what containers are charged is counted anew
pub record RollsBackTo (e f : Kept) (saved : Saved) : Type 0 where
  pub now : f ≡ record e {
    store = record (store_rolled_back e.store) { join_spare = f.store.join_spare };
    tables = saved.defs;
    space = saved.space;
    charges = f.charges;
    saved = None;
  }
  pub charges : AreCharges f.charges saved.defs.definitions saved.space
