-- What is kept of a commit.
use Rattle.std.specs.Prelude.{List}
use Rattle.ts_multi.specs.declared.object.Object.{Object}
use Rattle.ts_multi.specs.declared.commit.Source.{Source}
use Rattle.ts_multi.specs.declared.commit.Source.TheVariants.{Alone, Transaction}
use Rattle.ts_multi.specs.Objects.{written}

-- the objects that the commands of a commit wrote
abbrev pub wrote_by : Source → List Object
wrote_by (Alone command) = command.wrote
wrote_by (Transaction commands) = written commands.items
