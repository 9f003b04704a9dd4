use Rattle.std.proofs.Common.{sym, ap, ◌∙◌}
use Rattle.std.specs.Option.{option_and_then}
use Rattle.ts_regular.specs.Places.{all_in}
use Rattle.ts_sheets.specs.Stamped.{stamped_one}
use Rattle.ts_entry.specs.Entry.{first_seen}
use Rattle.ts_clip.proofs.GridFirstLemmas.{first_seen_stamped}
use Rattle.ts_clip.proofs.grid_ends.grid_first.Goals as goal

pub returns-clause-first : goal.returns-clause-first
returns-clause-first g c = λ t es have.
    c.on_start.ensures.start ∙ ap (option_and_then (stamped_one c.args.grid.now)) (c.in_ok-first.ensures.first t have.cells have.on)
    ∙ sym (first_seen_stamped c.args.grid.now (all_in have.cells) have.starts) ∙ ap first_seen have.all
