-- The refused statements of a script, each at its place.
use Rattle.std.specs.Prelude.{ℕ, ◌-◌, List, [], ◌∷◌, ◌++◌, length, take, if◌then◌else◌, Option, Some, None, Result, Ok}
use Rattle.std.specs.Prelude.{Err}
use Rattle.std.specs.List.{flat_map}
use Rattle.ts_base.specs.declared.refusal.Refusal.{Refusal}
use Rattle.ts_items.specs.Items.{Unended, after, place_from, is_unended_at}
use Rattle.ts_command.specs.Grammar.{command_of, Request, request_of}
use Rattle.ts_command.specs.declared.command.Command.{Command}

-- a refused statement: what stands before its place in the script, and why it is refused
pub record Mistake : Type 0 where
  pub before : List ℕ
  pub refusal : Refusal

-- where the grammar refuses the bytes of a statement; their end, where it takes them
abbrev pub place_in : List ℕ → Result Command ℕ → ℕ
place_in text (Ok command) = length text
place_in text (Err place) = place

-- what stands in a script before a place of these bytes, with which its first part ends
abbrev pub before_place : List ℕ → List ℕ → ℕ → List ℕ
before_place front text place = take (length front - (length text - place)) front

-- what is wrong with these bytes of a statement, with which the first part of a script ends, if its item asks for this
abbrev pub mistakes_of : List ℕ → List ℕ → Request → List Mistake
mistakes_of front text (Ok command) = []
mistakes_of front text (Err refusal) = record {
  before = before_place front text (place_in text (command_of text));
  refusal = refusal;
} ∷ []

-- the bytes of the statement so far
abbrev pub text_at : Option (List ℕ) → List ℕ
text_at None = []
text_at (Some text) = text

-- what is wrong with the items that end within these bytes, which come behind the first part of a script, at this place
abbrev pub mistakes_from : List ℕ → Option (List ℕ) → List ℕ → List Mistake
mistakes_from front place [] = []
mistakes_from front place (b ∷ bytes) =
    flat_map (λ item. mistakes_of (front ++ b ∷ []) (text_at place ++ b ∷ []) (request_of item)) (after place b).0
    ++ mistakes_from (front ++ b ∷ []) (after place b).1 bytes

-- what is wrong with the statement that the end of a script cuts off, if one is
abbrev pub mistakes_at_end : List ℕ → Option (List ℕ) → List Mistake
mistakes_at_end script place = if is_unended_at place then mistakes_of script (text_at place) (request_of Unended)
    else []

-- all that is wrong with the statements of a script
abbrev pub mistakes : List ℕ → List Mistake
mistakes script = mistakes_from [] (Some []) script ++ mistakes_at_end script (place_from (Some []) script)
