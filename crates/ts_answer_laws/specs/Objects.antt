-- What stays in a catalogue but for objects that are written.
use Rattle.std.specs.Prelude.{◌≡◌, Option, Some, None, List, ℕ, Contains}
use Rattle.std.specs.FinMap.{get}
use Rattle.ts_command.specs.declared.command.Command.{Command}
use Rattle.ts_command.specs.declared.command.Command.TheVariants as commands
use Rattle.ts_model.specs.Catalogue.{Catalogue, named}
use Rattle.ts_multi.specs.declared.object.Object.{Object}

-- the catalogue after has the same format and as many pages, and the same under the name of each object but these
pub record StaysBut (wrote : List Object) (cat after : Catalogue) : Type 0 where
  pub format : after.format ≡ cat.format
  pub pages : after.pages ≡ cat.pages
  pub others : (object : Object) → ¬ Contains wrote object → get (named object.kind after) object.name
      ≡ get (named object.kind cat) object.name

-- the same of all objects but such
pub record Leaves (Written : Object → Type 0) (cat after : Catalogue) : Type 0 where
  pub format : after.format ≡ cat.format
  pub pages : after.pages ≡ cat.pages
  pub others : (object : Object) → ¬ Written object → get (named object.kind after) object.name
      ≡ get (named object.kind cat) object.name

-- the rolling set that a command is of, if it is of one
abbrev pub set_of : Command → Option (List ℕ)
set_of (commands.RollingCreate set calendar origin container kept) = Some set
set_of (commands.RollingPut set stamp literals) = Some set
set_of (commands.RollingClip set from to) = Some set
set_of (commands.RollingDrop set) = Some set
set_of command = None
