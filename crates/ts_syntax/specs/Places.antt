-- Where a byte of a script stands, by the bytes before it.
use Rattle.std.specs.Prelude.{◌≡◌, ℕ, ◌+◌, ◌==◌, not, List, count_by, reverse}
use Rattle.std.specs.List.{prefix_len}
use Rattle.ts_syntax.specs.declared.position.Position.{Position}

-- its line, counted from 1: one more than the line feeds before it
abbrev pub line_behind : List ℕ → ℕ
line_behind before = 1 + count_by (λ b. b == 10) before

-- its column in bytes, counted from 1: one more than the bytes behind the last line feed before it
abbrev pub column_behind : List ℕ → ℕ
column_behind before = 1 + prefix_len (λ b. not (b == 10)) (reverse before)

-- the position of the byte behind these
pub record IsBehind (before : List ℕ) (position : Position) : Type 0 where
  pub line : position.line ≡ line_behind before
  pub column : position.column ≡ column_behind before
