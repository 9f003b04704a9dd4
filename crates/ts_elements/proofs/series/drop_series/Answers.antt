use Rattle.std.proofs.Common.{◌≢◌, All, AllPairs, List, length, ap, sym, subst, ◌∙◌, arith}
use Rattle.ts_space.specs.declared.place.Place.{Place}
use Rattle.ts_space.specs.Place.{pages_of}
use Rattle.ts_sheets.specs.Places.{CanBeFreed}
use Rattle.ts_chain.specs.Call.{AreFreed}
use Rattle.ts_command.specs.declared.command.Command.TheVariants.{DropSeries}
use Rattle.ts_answer.specs.Answer.{outcome, carried_out, drop_series}
use Rattle.ts_answer.specs.Reply.{ok_line}
use Rattle.ts_answer.specs.View.{view}
use Rattle.ts_answer.proofs.CallerLemmas.{stopped_first, tried_stopped, defined_by, refused_as, said_line}
use Rattle.ts_elements.proofs.SeriesDropLemmas.{can_be_freed, drop_images, series_dropped, refused_first}
use Rattle.ts_elements.proofs.series.drop_series.Goals as goal

pub returns-in_err-slot-clause-carried : goal.returns-in_err-slot-clause-carried
unfolding outcome carried_out drop_series
returns-in_err-slot-clause-carried g c =
    let x = view c.args.defs.now.definitions c.args.space.now (g.P.Pages.contents c.args.pages.now) in
    let command = DropSeries c.args.key.now in
    let trouble = c.in_err-slot.field-0.0 in
    stopped_first g.P.Pages.tells command c.args.out.now x c.from_residual.result _ c.from_residual.ensures.1
    (tried_stopped g.P.Pages.tells command c.args.out.now x trouble (λ l kept. refused_as trouble _ _ (c.in_err-slot.ensures.tried _ l (defined_by kept)).err))

pub free_pages-requires-clause-each : goal.free_pages-requires-clause-each
free_pages-requires-clause-each g c =
    let x = view c.args.defs.now.definitions c.args.space.now (g.P.Pages.contents c.args.pages.now) in
    subst (λ (ps : List Place). All (CanBeFreed x.pages) (pages_of ps)) (sym c.places.ensures.ok) (can_be_freed x c.requires.seen.kept c.args.key.now c.in_ok-slot.slot c.in_ok-slot.ensures.found).0

pub free_pages-requires-clause-different : goal.free_pages-requires-clause-different
free_pages-requires-clause-different g c =
    let x = view c.args.defs.now.definitions c.args.space.now (g.P.Pages.contents c.args.pages.now) in
    subst (λ (ps : List Place). AllPairs (λ a b. a ≢ b) (pages_of ps)) (sym c.places.ensures.ok) (can_be_freed x c.requires.seen.kept c.args.key.now c.in_ok-slot.slot c.in_ok-slot.ensures.found).1

pub returns-clause-carried : goal.returns-clause-carried
returns-clause-carried g c =
    let tells = g.P.Pages.tells in
    let slot = c.in_ok-slot.slot in
    let v = g.P.Pages.contents c.args.pages.now in
    let between = g.P.Pages.contents c.free_pages.new.pages in
    let w = g.P.Pages.contents c.write_slot.new.pages in
    let x = view c.args.defs.now.definitions c.args.space.now v in
    let freed = c.in_ok-free_pages.ensures in
    let written = c.in_ok-write_slot.ensures.written in
    let few = ap (λ (ps : List Place). length ps) c.places.ensures.ok in
    series_dropped tells x c.args.key.now slot c.in_ok-slot.ensures.found c.requires.seen.kept between w freed.call.count
    (subst (λ (ps : List Place). AreFreed tells ps v between) c.places.ensures.ok freed.freed) written
    c.say_ok.new.out (said_line ok_line c.args.out.now c.say_ok.new.out c.requires.empty c.in_ok-say_ok.ensures.ok)
    (written.no_fault (λ failed. cc) ∙ freed.call.no_fault (λ failed. cc)) (omega (arith, c.write_slot.ensures.bytes, freed.change, few))

pub returns-clause-images : goal.returns-clause-images
returns-clause-images g c =
    let tells = g.P.Pages.tells in
    let slot = c.in_ok-slot.slot in
    let v = g.P.Pages.contents c.args.pages.now in
    let between = g.P.Pages.contents c.free_pages.new.pages in
    let w = g.P.Pages.contents c.write_slot.new.pages in
    let x = view c.args.defs.now.definitions c.args.space.now v in
    let freed = c.in_ok-free_pages.ensures in
    let few = ap (λ (ps : List Place). length ps) c.places.ensures.ok in (
      slot,
      drop_images tells x c.args.key.now slot c.in_ok-slot.ensures.found c.requires.seen.kept between w freed.call.count (subst (λ (ps : List Place). AreFreed tells ps v between) c.places.ensures.ok freed.freed)
          c.in_ok-write_slot.ensures.written (omega (arith, freed.change, few)) c.write_slot.ensures.bytes,
    )

pub returns-in_err-slot-clause-refused : goal.returns-in_err-slot-clause-refused
returns-in_err-slot-clause-refused g c = refused_first c.from_residual.result _ (g.P.Pages.contents c.args.pages.now) c.from_residual.ensures.1
