-- What a command does to one view, and to the engine that carries it out.
use Rattle.std.specs.Prelude.{◌≡◌, ℕ, Bool, true, false, IsTrue, if◌then◌else◌, Result, OnOk, OnErr, List, [], ◌∷◌}
use Rattle.std.specs.Prelude.{◌++◌, reverse}
use Rattle.ts_command.specs.declared.command.Command.{Command}
use Rattle.ts_command.specs.Boundary.{is_writing}
use Rattle.ts_disk.specs.Device.{Device}
use Rattle.ts_page.specs.Pages.{EqualPages}
use Rattle.ts_journal.specs.Journal.{Entry, over}
use Rattle.ts_journal.specs.Moment.{OnlyReads}
use Rattle.ts_answer.specs.declared.effect.Effect.{Effect}
use Rattle.ts_answer.specs.declared.stop.Stop.{Stop}
use Rattle.ts_answer.specs.CarriedOut.{CarriedOut, definitions_after, lists_after, is_nothing}
use Rattle.ts_store.specs.OpenBatch.{read_pages, contents_over}
use Rattle.ts_store.specs.Undisturbed.{Undisturbed}
use Rattle.ts_views.specs.Pages.{view_contents}
use Rattle.ts_view_catalogues.specs.Catalogues.{seen_through}
use Rattle.ts_engine.specs.Ended.{with_dropped}
use Rattle.ts_views.specs.declared.view.View.{View}
use Rattle.ts_engine.specs.declared.fault.StepFault.{StepFault}
use Rattle.ts_engine.specs.Change.{IsStill}
use Rattle.ts_engine.specs.Engine.{Kept}
use Rattle.ts_session_engine.specs.Proceeds.{Proceeds}
use Rattle.ts_session_engine.specs.Beside.{newest, GoesOn}
use Rattle.ts_session_engine.specs.Stepped.{ViewTurns}

-- a view takes an effect, these changes, and these free pages
pub record TakesEffect (effect : Effect) (changes : List Entry) (numbers : List ℕ) (v w : View) : Type 0 where
  pub definitions : w.defs.definitions ≡ definitions_after effect v.defs.definitions
  pub lists : w.space.lists ≡ lists_after effect v.space.lists
  pub own : (pages : ℕ → List ℕ) (number : ℕ) → over w.own.entries pages number
      ≡ over changes (over v.own.entries pages) number
  pub old : w.old ≡ v.old
  pub free : w.free.items ≡ numbers

-- all but the commands is the same, but for memory that was taken
pub record IsSameView (v w : View) : Type 0 where
  pub definitions : w.defs.definitions ≡ v.defs.definitions
  pub lists : w.space.lists ≡ v.space.lists
  pub own : w.own.entries ≡ v.own.entries
  pub old : w.old ≡ v.old
  pub free : w.free.items ≡ v.free.items

-- what a view keeps of a command that writes, which was carried out
pub record KeepsWriting {E : Type 0} (command : Command) (effect : Effect) (result : Result Unit E)
    (changes : List Entry) (free : List ℕ) (v w : View) : Type 0 where
  pub noted : OnOk result (w.commands.items ≡ v.commands.items ++ command ∷ [])
  pub taken : OnOk result (is_nothing effect ≡ false → TakesEffect effect changes free v w)
  pub nothing : OnOk result (is_nothing effect ≡ true → IsSameView v w)
  pub unnoted : OnErr result (w.commands.items ≡ v.commands.items)
  pub err : OnErr result (IsSameView v w)

-- what a view keeps of a command that was carried out
pub record KeepsEffect {E : Type 0} (command : Command) (effect : Effect) (result : Result Unit E)
    (changes : List Entry) (free : List ℕ) (v w : View) : Type 0 where
  pub noted : OnOk result (w.commands.items
      ≡ (if is_writing command then v.commands.items ++ command ∷ [] else v.commands.items))
  pub taken : OnOk result (is_writing command ≡ true → is_nothing effect ≡ false → TakesEffect effect changes free v w)
  pub nothing : OnOk result (is_nothing effect ≡ true → IsSameView v w)
  pub unnoted : OnErr result (w.commands.items ≡ v.commands.items)
  pub err : OnErr result (IsSameView v w)

-- what a command does to the view on which it is carried out, and to an engine that no call of the disk's failed before
pub record StepsOwn (tells : Bool) (command : Command) (result : Result Unit StepFault) (out : List ℕ) (e f : Kept)
    (x y : View) (v w : Device) : Type 0 where
  pub proceeds : Proceeds tells (λ state. state) result e f v w
  pub rests : f.saved ≡ e.saved
  pub reads : OnlyReads tells v w
  pub still : GoesOn result (IsStill tells e.store f.store v w)
  pub own : GoesOn result (ViewTurns tells command result out (newest e v) (newest f w) x y)

-- A command was carried out on the pages of a view over those that were committed last, which were read in an open
-- batch that was dropped then.
pub record WorksInView (tells : Bool) (command : Command) (result : Result Effect Stop) (out : List ℕ) (e f : Kept)
    (x : View) (changes : List Entry) (free : List ℕ) (v w : Device) : Type 0 where
  pub middle : Kept
  pub is : middle ≡ record e { store = middle.store }
  pub drop : f ≡ with_dropped middle
  pub calls : Undisturbed tells e.store middle.store v w
  pub reads : IsTrue tells → EqualPages (read_pages e.store v.held) (read_pages middle.store w.held)
  pub carried : CarriedOut tells command result out (seen_through x (newest e v))
      (view_contents x.old.entries x.own.entries changes (reverse free) (contents_over middle.store w))
