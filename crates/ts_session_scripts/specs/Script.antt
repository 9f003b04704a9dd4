-- What the scripts of sessions ask for.
use Rattle.std.specs.Prelude.{List, map}
use Rattle.ts_items.specs.Items.{Item}
use Rattle.ts_command.specs.Grammar.{Request, request_of}

-- what the items ask for that are left of each script
abbrev pub requests_left : List (List Item) → List (List Request)
requests_left scripts = map (map request_of) scripts
