use Rattle.std.proofs.Common.{ℕ, List, ◌∷◌, [], get_or, ap, ◌∙◌}
use Rattle.std.specs.Int.{w32, from_be_bytes}
use Rattle.ts_layout.proofs.CallerLemmas.{container_quota}
use Rattle.ts_slots.proofs.container_slot.quota_in.Goals as goal

pub returns : goal.returns
returns c = λ name row_type quota short fits is.
    c.from_be_bytes.ensures
    ∙ ap (λ (l : List ℕ). from_be_bytes w32 (get_or l 35 0 ∷ get_or l 36 0 ∷ get_or l 37 0 ∷ get_or l 38 0 ∷ [])) is
    ∙ container_quota name row_type quota short fits
