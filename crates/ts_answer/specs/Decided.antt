-- What is decided on a command that changes definitions: a slot of a kind and what goes there, or a refusal.
use Rattle.std.specs.Prelude.{◌≡◌, ℕ, ◌+◌, ◌<◌, Option, Some, None, IfSome, Result, Ok, List, length}
use Rattle.ts_base.specs.declared.fault.Trouble.{Trouble}
use Rattle.ts_command.specs.declared.command.Command.{Command}
use Rattle.ts_page.specs.Pages.{first_element_page}
use Rattle.ts_space.specs.Directory.{Directory}
use Rattle.ts_model.specs.declared.kind.Kind.{Kind}
use Rattle.ts_model.specs.declared.def.Def.{Def}
use Rattle.ts_model.specs.declared.def.Def.TheVariants as defs
use Rattle.ts_model.specs.Definitions.{Definitions, limit, kind_of, name_of, slots, with_slot, IsNewName}
use Rattle.ts_layout.specs.Meaning.{Layout, IsSound, catalogue_of}
use Rattle.ts_layout.specs.Changed.{layout_with, KeepsElements}
use Rattle.ts_layout.specs.Placed.{AreKept}
use Rattle.ts_answer.specs.Answer.{Answered, outcome}
use Rattle.ts_answer.specs.Reply.{ok_line, stamp_line}
use Rattle.ts_answer.specs.Tried.{IsTried}
use Rattle.ts_answer.specs.View.{IsDefinedBy}

-- what is said of a definition that is made or dropped: of a regular series its origin
abbrev pub made_line : Option Def → List ℕ
made_line None = ok_line
made_line (Some (defs.RowType name kind)) = ok_line
made_line (Some (defs.Pattern name pattern)) = ok_line
made_line (Some (defs.Calendar name calendar by)) = ok_line
made_line (Some (defs.Container name row_type quota)) = ok_line
made_line (Some (defs.Series key container None)) = ok_line
made_line (Some (defs.Series key container (Some regular))) = stamp_line regular.1

-- a definition goes into a slot, or out of it, and the answer is its line with the catalogue that comes
pub record DefinesAs (kind : Kind) (slot : ℕ) (def : Option Def) (l : Layout) (answered : Answered) : Type 0 where
  pub rules : IsSound (layout_with kind slot def l)
  pub headings : KeepsElements (with_slot kind slot def l.definitions) l
  -- what is kept in memory with these definitions keeps its rules
  pub kept : (space : Directory) (free : List ℕ) (count : ℕ) → count ≡ first_element_page + length l.element_pages
      → AreKept l.definitions space free count
      → AreKept (with_slot kind slot def l.definitions) space free count
  pub comes : answered ≡ (made_line def, catalogue_of (layout_with kind slot def l))

-- what is decided is what the catalogue of each layout with these definitions answers
abbrev pub IsDecision : Kind → Command → Result (ℕ × Option Def) Trouble → Definitions → ℕ → Type 0
IsDecision kind command decided d count =
    (l : Layout) → IsDefinedBy d count l
    → IsTried decided (outcome (Ok command) (catalogue_of l))
    (λ change answered. DefinesAs kind change.0 change.1 l answered)

-- this can go into the slot
pub record FitsSlot (kind : Kind) (slot : ℕ) (def : Option Def) (d : Definitions) : Type 0 where
  pub within : slot < limit kind
  pub fits : IfSome def (λ x. kind_of x ≡ kind)
  pub name : IfSome def (λ x. IsNewName (name_of x) slot (slots kind d))
