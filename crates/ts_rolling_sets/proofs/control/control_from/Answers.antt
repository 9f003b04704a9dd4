use Rattle.std.proofs.Common.{◌≡◌, ℕ, None, List, sym, ap, rules, ◌∙◌}
use Rattle.std.specs.Option.{option_map}
use Rattle.ts_offset.specs.declared.shape.Shape.TheVariants.{Regular, Irregular}
use Rattle.ts_layout.specs.Meaning.{catalogue_of}
use Rattle.ts_rolling.specs.Sets.{control_key}
use Rattle.ts_answer.specs.View.{view}
use Rattle.ts_rolling_sets.specs.declared.live.KeptBy.{KeptBy}
use Rattle.ts_rolling_sets.proofs.ControlLemmas.{control_missing, control_there, ungridded_none, ungridded, key_named, shelf_is, control_shelf}
use Rattle.ts_rolling_sets.proofs.control.control_from.Goals as goal

pub shelf_at-shape-requires-clause-named : goal.shelf_at-shape-requires-clause-named
shelf_at-shape-requires-clause-named g c =
    let x = view c.args.defs.now.definitions c.args.space.now (g.P.Pages.contents c.args.pages.now) in
    let control = c.in-Some.control in
    (control.key.now, key_named x c.requires.seen.kept control.slot control.key.now c.in-Some.ensures.there)

pub returns-in_default-clause-err : goal.returns-in_default-clause-err
returns-in_default-clause-err g c l held =
    let x = view c.args.defs.now.definitions c.args.space.now (g.P.Pages.contents c.args.pages.now) in
    let none : c.first_control.result ≡ None = search rules in
    ungridded_none c.args.set.now (catalogue_of l) (control_missing x l held c.args.set.now (sym (ap (option_map (λ (o : KeptBy). o.kept)) none) ∙ c.first_control.ensures.value))

pub returns-in-Irregular-clause-err : goal.returns-in-Irregular-clause-err
returns-in-Irregular-clause-err g c l held =
    let x = view c.args.defs.now.definitions c.args.space.now (g.P.Pages.contents c.args.pages.now) in
    let set : List ℕ = c.args.set.now in
    let control = c.in-Some.control in
    let e = c.in-Some.ensures in
    let at = c.shelf_at-shape in
    let there = control_there x l held set control.kept e.value e.few.0 e.few.1 in
    let shelf = shelf_is x c.requires.seen.kept control.slot control.key.now e.there at.result.0.series at.result.1 Irregular at.result.0.kind.now at.ensures.slot at.ensures.columns at.ensures.lies c.in-Irregular.is in
    ungridded set (catalogue_of l) control.kept there.0 there.1
    (control_shelf x l held control.key.now (control_key set control.kept) Irregular at.result.0.series at.result.0.kind.now there.0 e.key shelf there.2).lies

pub returns-in-Regular-clause-ok : goal.returns-in-Regular-clause-ok
returns-in-Regular-clause-ok g c l held =
    let x = view c.args.defs.now.definitions c.args.space.now (g.P.Pages.contents c.args.pages.now) in
    let set : List ℕ = c.args.set.now in
    let control = c.in-Some.control in
    let e = c.in-Some.ensures in
    let at = c.shelf_at-shape in
    let grid = c.in-Regular.grid in
    let there = control_there x l held set control.kept e.value e.few.0 e.few.1 in
    let shelf = shelf_is x c.requires.seen.kept control.slot control.key.now e.there at.result.0.series at.result.1 (Regular grid) at.result.0.kind.now at.ensures.slot at.ensures.columns at.ensures.lies c.in-Regular.is in
    record {
      series = there.0;
      is = there.1;
      shelf = control_shelf x l held control.key.now (control_key set control.kept) (Regular grid) at.result.0.series at.result.0.kind.now there.0 e.key shelf there.2;
    }

pub returns-in-Regular-clause-found : goal.returns-in-Regular-clause-found
returns-in-Regular-clause-found g c =
    let x = view c.args.defs.now.definitions c.args.space.now (g.P.Pages.contents c.args.pages.now) in
    let control = c.in-Some.control in
    let at = c.shelf_at-shape in
    shelf_is x c.requires.seen.kept control.slot control.key.now c.in-Some.ensures.there at.result.0.series at.result.1 (Regular c.in-Regular.grid) at.result.0.kind.now at.ensures.slot at.ensures.columns at.ensures.lies c.in-Regular.is
