-- What one command does: on a view, or on the newest catalogue beside views.
use Rattle.std.specs.Prelude.{◌≡◌, ◌⊎◌, ℕ, Bool, true, IsTrue, if◌then◌else◌, Option, Result, Ok, Err, OnOk, OnErr}
use Rattle.std.specs.Prelude.{IsErr}
use Rattle.std.specs.Prelude.{List, [], ◌∷◌, ◌++◌}
use Rattle.ts_command.specs.declared.command.Command.{Command}
use Rattle.ts_command.specs.Boundary.{is_writing}
use Rattle.ts_disk.specs.Device.{Device}
use Rattle.ts_journal.specs.Moment.{OnlyReads}
use Rattle.ts_page.specs.Pages.{Contents}
use Rattle.ts_model.specs.Catalogue.{Catalogue}
use Rattle.ts_answer.specs.Reply.{Tried, Answered}
use Rattle.ts_answer.specs.Answer.{answer, outcome}
use Rattle.ts_views.specs.declared.view.View.{View}
use Rattle.ts_views.specs.View.{view_of, Turns}
use Rattle.ts_view_catalogues.specs.Catalogues.{IsViewReady, ViewMeans}
use Rattle.ts_engine.specs.declared.fault.StepFault.{StepFault}
use Rattle.ts_engine.specs.Engine.{Kept}
use Rattle.ts_engine.specs.Step.{Stepped, state_after}
use Rattle.ts_session_engine.specs.Proceeds.{Proceeds}
use Rattle.ts_session_engine.specs.Beside.{newest, GoesOn, AllStay, OthersStay}

-- the commands of a transaction with one that came to this: an accepted one that writes is noted
abbrev pub noted_in : Command → Tried Answered → List Command → List Command
noted_in command (Ok answered) commands = if is_writing command then commands ++ command ∷ [] else commands
noted_in command (Err refusal) commands = commands

-- a command was answered by the catalogue that a view means, which goes to the next one
pub record AnsweredIn (command : Command) (out : List ℕ) (before after : Contents) (v w : View)
    (cat : Catalogue) : Type 0 where
  pub means : ViewMeans w after (answer cat (Ok command)).1
  pub said : out ≡ (answer cat (Ok command)).0
  pub noted : w.commands.items ≡ noted_in command (outcome (Ok command) cat) v.commands.items

-- what becomes of the view on which a command was carried out, or not for want of memory
pub record ViewTurns (tells : Bool) (command : Command) (result : Result Unit StepFault) (out : List ℕ)
    (before after : Contents) (v w : View) : Type 0 where
  pub ready : IsViewReady tells w after
  pub answered : OnOk result (IsTrue tells → (cat : Catalogue) → ViewMeans v before cat
      → AnsweredIn command out before after v w cat)
  -- for want of memory it means what it meant, and has the commands that it had
  pub means : OnErr result (IsTrue tells → (cat : Catalogue) → ViewMeans v before cat → ViewMeans w after cat)
  pub unnoted : OnErr result (w.commands.items ≡ v.commands.items)
  -- on every volume it has one more at most, which writes
  pub one_more : (w.commands.items ≡ v.commands.items)
      ⊎ ((w.commands.items ≡ v.commands.items ++ command ∷ []) × (is_writing command ≡ true))

-- What a command on a session's view does, by an engine that no call of the disk's failed before. The volume is only
-- read, and the engine stays at its state.
pub record StepsView (tells : Bool) (who : ℕ) (command : Command) (result : Result Unit StepFault) (out : List ℕ)
    (e f : Kept) (old new : List (Option View)) (v w : Device) : Type 0 where
  pub proceeds : Proceeds tells (λ state. state) result e f v w
  pub rests : f.saved ≡ e.saved
  pub reads : OnlyReads tells v w
  pub others : GoesOn result (OthersStay tells who (newest e v) (newest f w) old new)
  pub own : GoesOn result (Turns (ViewTurns tells command result out (newest e v) (newest f w)) (view_of who old)
      (view_of who new))
  pub empty : IsErr result → out ≡ []

-- What a command on the newest catalogue does beside views: what it does without them, and every view stays.
pub record StepsBeside (tells : Bool) (command : Command) (result : Result Unit StepFault) (out : List ℕ)
    (e f : Kept) (old new : List (Option View)) (v w : Device) : Type 0 where
  pub stepped : Stepped tells command result out e f v w
  pub proceeds : Proceeds tells (state_after command) result e f v w
  pub rests : f.saved ≡ e.saved
  pub views : GoesOn result (AllStay tells (newest e v) (newest f w) old new)
