-- What the law of statements says.
use Rattle.std.specs.Prelude.{◌≡◌, ◌↔◌, ℕ, List, Ok}
use Rattle.ts_command.specs.Grammar.{command_of}
use Rattle.ts_command.specs.declared.command.Command.{Command}
use Rattle.ts_statement_laws.specs.Statements.{IsStatementOf}

-- a text is read as a command exactly where it is the command's statement
abbrev pub StatementsAreTokens : Type 0
StatementsAreTokens = (text : List ℕ) (command : Command) → command_of text ≡ Ok command ↔ IsStatementOf command text
