use Rattle.ts_command.specs.declared.command.Command.TheVariants.{DropSeries}
use Rattle.ts_rolling_edits.specs.Parts.{seen_on, IsWithout, Never}
use Rattle.ts_rolling_edits.proofs.PartLemmas.{part_by, part_failed, part_lacking, part_unkept, can_charge}
use Rattle.ts_rolling_edits.proofs.RollingLemmas.{drop_came, missed, still_missed}
use Rattle.ts_rolling_edits.proofs.GrowthLemmas.{drop_grows}
use Rattle.ts_rolling_edits.proofs.parts.drop_if_there.Goals as goal

pub take-requires-clause-can : goal.take-requires-clause-can
take-requires-clause-can g c = c.in-Ok.ensures.carried.applies

pub take-requires-clause-charge : goal.take-requires-clause-charge
take-requires-clause-charge g c =
    let x = seen_on c.args.copies.now (g.P.Pages.contents c.args.pages.now) in
    can_charge g.P.Pages.tells (DropSeries c.args.key.now) x c.args.copies.now.charges c.requires.seen.kept c.requires.charged c.in-Ok.effect c.drop_series.new.out (g.P.Pages.contents c.drop_series.new.pages)
    c.in-Ok.ensures.carried

-- the effect finds no memory
pub returns-in_err-take-in-Ok-clause-part : goal.returns-in_err-take-in-Ok-clause-part
returns-in_err-take-in-Ok-clause-part g c =
    let x = seen_on c.args.copies.now (g.P.Pages.contents c.args.pages.now) in
    let y = seen_on c.take.new.self (g.P.Pages.contents c.drop_series.new.pages) in
    part_unkept g.P.Pages.tells (IsWithout c.args.key.now) Never (DropSeries c.args.key.now) c.drop_series.new.out x c.take.new.self.charges y c.in-Ok.effect c.from_residual.result _ c.from_residual.ensures.1
    c.in-Ok.ensures.carried

-- the series went
pub returns-in-Ok-clause-part : goal.returns-in-Ok-clause-part
returns-in-Ok-clause-part g c =
    let x = seen_on c.args.copies.now (g.P.Pages.contents c.args.pages.now) in
    let w = g.P.Pages.contents c.drop_series.new.pages in
    let took = c.in_ok-take-in-Ok.ensures in
    let copies = c.take.new.self in
    part_by g.P.Pages.tells (IsWithout c.args.key.now) Never (DropSeries c.args.key.now) c.drop_series.new.out x c.in-Ok.effect w copies.defs.definitions copies.space copies.charges c.in-Ok.ensures.carried took.definitions
    took.lists took.charges (λ a b is. drop_came c.args.key.now a c.drop_series.new.out b is)

pub returns-in-Ok-clause-grows : goal.returns-in-Ok-clause-grows
returns-in-Ok-clause-grows g c =
    let images = c.in-Ok.ensures.images in
    drop_grows images.0 (g.P.Pages.contents c.args.pages.now) (g.P.Pages.contents c.drop_series.new.pages) images.1

-- it wasn't there
pub returns-in-Err-Refused-clause-part : goal.returns-in-Err-Refused-clause-part
returns-in-Err-Refused-clause-part g c =
    let x = seen_on c.args.copies.now (g.P.Pages.contents c.args.pages.now) in
    let why = c.in-Err-Refused in
    missed g.P.Pages.tells c.args.key.now c.drop_series.new.out why.field-0 why.field-0-0 x (g.P.Pages.contents c.drop_series.new.pages) c.args.copies.now.charges why.field-0-is why.ensures.refused c.requires.charged
    why.ensures.carried

pub returns-in-Err-Refused-clause-grows : goal.returns-in-Err-Refused-clause-grows
returns-in-Err-Refused-clause-grows g c =
    let why = c.in-Err-Refused in
    still_missed why.field-0 why.field-0-0 (g.P.Pages.contents c.args.pages.now) (g.P.Pages.contents c.drop_series.new.pages) why.field-0-is why.ensures.refused

-- it was stopped
pub returns-in-Err-Failed-clause-part : goal.returns-in-Err-Failed-clause-part
returns-in-Err-Failed-clause-part g c =
    let x = seen_on c.args.copies.now (g.P.Pages.contents c.args.pages.now) in
    let y = seen_on c.args.copies.now (g.P.Pages.contents c.drop_series.new.pages) in
    let why = c.in-Err-Failed in
    part_failed g.P.Pages.tells (IsWithout c.args.key.now) Never (DropSeries c.args.key.now) c.drop_series.new.out x c.args.copies.now.charges y why.field-0 why.field-0-is why.ensures.carried

pub returns-clause-part : goal.returns-clause-part
returns-clause-part g c =
    let x = seen_on c.args.copies.now (g.P.Pages.contents c.args.pages.now) in
    let y = seen_on c.args.copies.now (g.P.Pages.contents c.drop_series.new.pages) in
    let why = c.in-Err-Memory in
    part_lacking g.P.Pages.tells (IsWithout c.args.key.now) Never (DropSeries c.args.key.now) c.drop_series.new.out x c.args.copies.now.charges y why.field-0 why.error why.field-0-is why.ensures.carried
