-- Texts of statements as a script, one a line, and what it asks for.
use Rattle.std.specs.Prelude.{◌≡◌, ℕ, ◌==◌, ◌&&◌, ◌≤◌, Bool, true, false, not, if◌then◌else◌, Ok, List, [], ◌∷◌}
use Rattle.std.specs.Prelude.{◌++◌, length, map}
use Rattle.std.specs.List.{flat_map}
use Rattle.ts_base.specs.Name.{begins_word}
use Rattle.ts_command.specs.Grammar.{requests, last_request, command_of}
use Rattle.ts_command.specs.declared.command.Command.{Command}

-- a text and a line feed
abbrev pub line_of : List ℕ → List ℕ
line_of text = text ++ 10 ∷ []

-- texts, one a line
abbrev pub script_of : List (List ℕ) → List ℕ
script_of texts = flat_map line_of texts

-- The bytes have one `;` that stands in no quotes, and it is the last; they begin inside of quotes or not.
abbrev pub ends_once : Bool → List ℕ → Bool
ends_once inside [] = false
ends_once inside (b ∷ bytes) =
    if b == 39 then ends_once (not inside) bytes
    else (if (b == 59) && not inside then length bytes == 0 else ends_once inside bytes)

-- the first byte begins a word
abbrev pub begins_so : List ℕ → Bool
begins_so [] = false
begins_so (b ∷ bytes) = begins_word b

-- a text is one statement: it begins with a word, ends with its only `;`, and has at most 65535 bytes
pub record IsLine (text : List ℕ) : Type 0 where
  pub word : begins_so text ≡ true
  pub once : ends_once false text ≡ true
  pub short : length text ≤ 65535

-- each is
abbrev pub AreLines : List (List ℕ) → Type 0
AreLines [] = Unit {0}
AreLines (text ∷ texts) = IsLine text × AreLines texts

-- a script of such texts asks for the commands that they are read as, one behind the other, and for nothing more
abbrev pub ScriptsAskForLines : Type 0
ScriptsAskForLines =
    (texts : List (List ℕ)) (commands : List Command) → AreLines texts → map command_of texts ≡ map Ok commands
    → (requests (script_of texts) ≡ map Ok commands) × (last_request (script_of texts) ≡ [])
