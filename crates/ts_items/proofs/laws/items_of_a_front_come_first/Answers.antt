use Rattle.std.proofs.Common.{[], Some}
use Rattle.ts_items.proofs.ItemLaws.{items_from-append}
use Rattle.ts_items.proofs.laws.items_of_a_front_come_first.Goals as goal

pub returns : goal.returns
returns c = λ front rest. items_from-append (Some []) front rest
