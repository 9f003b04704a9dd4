use Rattle.std.proofs.Common.{sym, ap, ◌∙◌}
use Rattle.std.specs.Option.{option_and_then}
use Rattle.ts_irregular.specs.Edit.{last_seen}
use Rattle.ts_regular.specs.Places.{all_in}
use Rattle.ts_sheets.specs.Stamped.{stamped_one}
use Rattle.ts_clip.proofs.GridReadingLemmas.{last_seen_stamped}
use Rattle.ts_clip.proofs.grid_ends.grid_last.Goals as goal

pub returns-clause-last : goal.returns-clause-last
returns-clause-last g c = λ t es have.
    c.on_start.ensures.start ∙ ap (option_and_then (stamped_one c.args.grid.now)) (c.in_ok-last.ensures.last t have.cells have.on)
    ∙ sym (last_seen_stamped c.args.grid.now (all_in have.cells) have.starts) ∙ ap last_seen have.all
