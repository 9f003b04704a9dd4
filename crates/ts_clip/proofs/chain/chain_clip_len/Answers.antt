use Rattle.std.proofs.Common.{length, sym, ap, ◌∙◌}
use Rattle.std.proofs.lemmas.List.{length-map}
use Rattle.std.proofs.lemmas.Result.{IfOk-weaker}
use Rattle.ts_row.specs.Row.{seen}
use Rattle.ts_space.specs.Directory.{places_of}
use Rattle.ts_sheets.specs.Stamped.{within_range}
use Rattle.ts_entry.specs.Entry.{filled}
use Rattle.ts_clip.proofs.ChainReadingLemmas.{clipped_filled}
use Rattle.ts_clip.proofs.ChainShownLemmas.{ends_told}
use Rattle.ts_clip.proofs.ChainToldLemmas.{count_told}
use Rattle.ts_clip.proofs.chain.chain_clip_len.Goals as goal

pub returns-then-shown-clause-read : goal.returns-then-shown-clause-read
returns-then-shown-clause-read g c =
    IfOk-weaker c.count_ends.result _ _
    (λ n counted told es have shown.
    ends_told c.args.shelf.now.series c.args.shelf.now.kind.now.columns (g.P.Pages.contents c.args.pages.now).page (places_of c.args.shelf.now.series c.args.space.now) c.places-places.result.now
    c.places_between-first.result.0 c.places_between-first.result.1 c.args.from c.args.to es c.places-places.ensures.ok c.places_between-first.ensures.range have (shown c.if-shown.true) n (counted told)
    ∙ sym (ap length (clipped_filled c.args.from c.args.to (seen es)) ∙ length-map (within_range c.args.from c.args.to (seen es)) filled))
    c.count_ends.ensures.count

pub returns-else-shown-clause-read : goal.returns-else-shown-clause-read
returns-else-shown-clause-read g c =
    IfOk-weaker c.count_pages.result _ _
    (λ n counted told es have shown.
    count_told c.args.shelf.now.series c.args.shelf.now.kind.now.columns (g.P.Pages.contents c.args.pages.now).page (places_of c.args.shelf.now.series c.args.space.now) c.places-places.result.now
    c.places_between-first.result.0 c.places_between-first.result.1 c.args.from c.args.to es c.places-places.ensures.ok c.places_between-first.ensures.range have n (counted told)
    ∙ sym (ap length (clipped_filled c.args.from c.args.to (seen es)) ∙ length-map (within_range c.args.from c.args.to (seen es)) filled))
    c.count_pages.ensures.count
