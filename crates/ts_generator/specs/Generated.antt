-- The commands that `gen` carries out, by a count and a seed: a regular and an irregular series are made, that many
-- elements are put into them in turn, and both are folded.
use Rattle.std.specs.Prelude.{◌≡◌, ℕ, zero, suc, ◌+◌, ◌-◌, ◌*◌, ◌/◌, ◌%◌, ◌==◌, min, if◌then◌else◌, ℤ, pos, ◌+ℤ◌, List}
use Rattle.std.specs.Prelude.{[], ◌∷◌, ◌++◌, take, codes}
use Rattle.ts_multi.specs.Picks.{drawn}
use Rattle.ts_row.specs.declared.kind.ColumnKind.TheVariants.{Integer}
use Rattle.ts_row.specs.declared.value.Literal.TheVariants.{Number}
use Rattle.ts_command.specs.declared.command.Command.{Command}
use Rattle.ts_command.specs.declared.command.Command.TheVariants.{CreateRowType, CreatePattern, CreateCalendar}
use Rattle.ts_command.specs.declared.command.Command.TheVariants.{TSContainerCreate, TSCreate, TSCreateIrr, PutElem}
use Rattle.ts_command.specs.declared.command.Command.TheVariants.{AggregateRange}

-- 2011-01-03 00:00:00, where both series begin, and 2012-01-01 00:00:00, which lies behind their elements
abbrev pub beginning : ℤ
beginning = pos 129_401_280_000_000

abbrev pub ending : ℤ
ending = pos 132_537_600_000_000

-- the keys of the regular series and the irregular one
abbrev pub regular_key : List ℕ
regular_key = codes "genr"

abbrev pub irregular_key : List ℕ
irregular_key = codes "geni"

-- both series are made, with what they stand on
unfoldable pub opening : List Command
opening =
    CreateRowType (codes "gent") (codes "t") (record { name = codes "v"; kind = Integer } ∷ [])
    ∷ CreatePattern (codes "genp") (codes "{1 on},minute")
    ∷ CreateCalendar (codes "genc")
    (codes "startdate(2011-01-03 00:00:00), pattstart(2011-01-03 00:00:00), pattname(genp)")
    ∷ TSContainerCreate (codes "genk") (codes "gent") (pos 4096)
    ∷ TSCreate regular_key (codes "genc") beginning (codes "genk")
    ∷ TSCreateIrr irregular_key (codes "genk")
    ∷ []

-- a value goes into a series, so many units of time behind the beginning
abbrev pub put_behind : List ℕ → ℕ → ℕ → Command
put_behind key units value = PutElem key (beginning +ℤ pos units) (Number (pos value) 0 ∷ [])

-- Edit number i, by its number drawn: the last three digits are the value, the five before them the place. That counts
-- minutes of the regular series where i is odd, and else seconds of the irregular one.
unfoldable pub edit : ℕ → ℕ → Command
edit i x =
    if i % 2 == 1 then put_behind regular_key (x / 1000 % 100_000 * 6_000_000) (x % 1000)
    else put_behind irregular_key (x / 1000 % 100_000 * 100_000) (x % 1000)

-- the first so many edits, counted from 1
unfoldable pub edits : ℕ → ℕ → List Command
edits seed zero = []
edits seed (suc i) = edits seed i ++ edit (suc i) (drawn seed (suc i)) ∷ []

-- all elements of a series are added up and counted
abbrev pub add_up : List ℕ → Command
add_up key = AggregateRange (codes "sum($v),count($v)") key beginning ending

unfoldable pub closing : List Command
closing = add_up regular_key ∷ add_up irregular_key ∷ []

-- all commands, in their order
unfoldable pub generated : ℕ → ℕ → List Command
generated count seed = opening ++ edits seed count ++ closing

-- how many edits stand among the first so many commands
abbrev pub edits_before : ℕ → ℕ → ℕ
edits_before count number = min (number - 6) count

-- the command that stands behind the first so many
abbrev pub IsNext : List Command → ℕ → Command → Type 0
IsNext commands number command = take (number + 1) commands ≡ take number commands ++ command ∷ []
