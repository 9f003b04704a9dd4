use Rattle.std.proofs.Common.{[], List, Some, ap, ◌∙◌, map}
use Rattle.std.proofs.lemmas.List.{map-append}
use Rattle.ts_items.specs.Items.{Item, items, items_from, place_from}
use Rattle.ts_items.proofs.ItemLaws.{items_from-append}
use Rattle.ts_command.specs.Grammar.{request_of}
use Rattle.ts_command.proofs.laws.requests_of_a_front_come_first.Goals as goal

pub returns : goal.returns
returns c = λ front rest.
    ap (λ (l : List Item). map request_of l) (items_from-append (Some []) front rest)
    ∙ map-append request_of (items front) (items_from (place_from (Some []) front) rest)
