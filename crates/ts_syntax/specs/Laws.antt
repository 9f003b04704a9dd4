-- What holds of the mistakes of every script, in the words of one who writes it.
use Rattle.std.specs.Prelude.{◌≡◌, ◌⊎◌, ℕ, ◌+◌, ◌≤◌, IsTrue, List, [], ◌∷◌, ◌++◌, length, take, Option, Some, Ok, Err}
use Rattle.std.specs.Prelude.{⊤}
use Rattle.std.specs.List.{flat_map}
use Rattle.ts_base.specs.declared.refusal.Refusal.{Refusal}
use Rattle.ts_items.specs.Items.{Item, Unended, after, place_from, is_unended_at}
use Rattle.ts_command.specs.Grammar.{command_of, Request, request_of, requests, last_request}
use Rattle.ts_syntax.specs.Mistakes.{Mistake, place_in}

-- why a request is refused, if it is
abbrev pub refusals_of : Request → List Refusal
refusals_of (Ok command) = []
refusals_of (Err refusal) = refusal ∷ []

-- why the statements of a script are refused that are
abbrev pub refusals : List ℕ → List Refusal
refusals script = flat_map refusals_of (requests script ++ last_request script)

-- These bytes, which come behind the first part of a script, are all those of an item that ends with the last of them.
pub record IsEnded (start text : List ℕ) (item : Item) : Type 0 where
  pub front : List ℕ
  pub last : ℕ
  pub bytes : text ≡ front ++ last ∷ []
  -- those before the last are its statement so far
  pub so_far : place_from (Some []) (start ++ front) ≡ Some front
  pub ends : (after (Some front) last).0 ≡ item ∷ []

-- These bytes, which come behind the first part of a script, are all those of a statement that the script's end cuts
-- off.
pub record IsCutOff (start text rest : List ℕ) (item : Item) : Type 0 where
  pub end : rest ≡ []
  pub so_far : place_from (Some []) (start ++ text) ≡ Some text
  pub unended : IsTrue (is_unended_at (Some text))
  pub made : item ≡ Unended

-- A mistake stands in these bytes of a script, which come behind its first part: they are those of an item that is
-- refused for its cause, and before its place stand that part and as many of them as the grammar takes.
pub record StandsIn (script start text : List ℕ) (mistake : Mistake) : Type 0 where
  pub rest : List ℕ
  pub whole : script ≡ start ++ (text ++ rest)
  pub item : Item
  pub bytes : IsEnded start text item ⊎ IsCutOff start text rest item
  pub refused : request_of item ≡ Err mistake.refusal
  pub before : mistake.before ≡ start ++ take (place_in text (command_of text)) text

-- behind so many bytes of a script each mistake stands in an item of its own, in the order of the items
abbrev pub StandInTurn : List ℕ → ℕ → List Mistake → Type 0
StandInTurn script count [] = ⊤
StandInTurn script count (mistake ∷ mistakes) =
    (start : List ℕ) × (text : List ℕ) × (count ≤ length start) × StandsIn script start text mistake
    × StandInTurn script (length start + length text) mistakes
