use Rattle.std.proofs.Common.{◌≡◌, map, take}
use Rattle.ts_items.specs.Items.{items_to_end}
use Rattle.ts_session_scripts.proofs.script.scripts_of.Given as goal

abbrev pub invariant-loop-section : goal.invariant-loop-section
invariant-loop-section l = l.scripts.items ≡ map items_to_end (take l.section-index l.sections)
