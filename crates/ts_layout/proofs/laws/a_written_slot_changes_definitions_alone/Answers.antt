use Rattle.ts_model.specs.Definitions.{with_slot}
use Rattle.ts_model.proofs.PartsLemmas.{format-stays}
use Rattle.ts_layout.specs.Slot.{page_of_slot}
use Rattle.ts_layout.specs.Changed.{with_slot_bytes}
use Rattle.ts_layout.proofs.LayoutLemmas.{layout_written}
use Rattle.ts_layout.proofs.laws.a_written_slot_changes_definitions_alone.Goals as goal

pub returns : goal.returns
returns c = λ kind slot def v w l within holds written definitions headings.
    layout_written kind slot (with_slot_bytes kind slot def (v (page_of_slot kind slot))) v w (with_slot kind slot def l.definitions) l (format-stays kind slot def l.definitions) within holds written definitions headings
