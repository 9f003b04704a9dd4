use Rattle.std.proofs.Common.{Some, refl, sym, subst, ◌∙◌, arith}
use Rattle.std.specs.FinMap.{empty}
use Rattle.ts_base.specs.Moment.{IsStamp}
use Rattle.ts_model.specs.Catalogue.{Series, Regular, with_named}
use Rattle.ts_model.specs.Definitions.{SeriesDef}
use Rattle.ts_model.specs.declared.kind.Kind.TheVariants.{Calendar, Container, Series as AllSeries}
use Rattle.ts_model.specs.declared.def.Def.{Def}
use Rattle.ts_model.specs.declared.def.Def.TheVariants as defs
use Rattle.ts_layout.specs.Meaning.{catalogue_of}
use Rattle.ts_layout.proofs.CallerLemmas.{regular_named, vacant_found}
use Rattle.ts_answer.specs.Answer.{Answered, outcome, carried_out, create_regular}
use Rattle.ts_answer.specs.Decided.{DefinesAs}
use Rattle.ts_answer.specs.Reply.{stamp_line}
use Rattle.ts_answer.proofs.CallerLemmas.{goes, stops, no_memory, comes, on_err, tried_ok, tried_err}
use Rattle.ts_define.proofs.DefinedLemmas.{defined, fits_free, named_there, no_page}
use Rattle.ts_define.proofs.PatternLemmas.{filled, found, its_plan}
use Rattle.ts_define.proofs.GridLemmas.{grid_tried, grid_on}
use Rattle.ts_define.proofs.series.new_regular.Goals as goal

pub calendar_at-requires-clause-filled : goal.calendar_at-requires-clause-filled
calendar_at-requires-clause-filled c = filled Calendar c.in_ok-on.on c.args.calendar.now c.args.defs.now.definitions c.in_ok-on.ensures.found

pub returns-in_err-on-clause-decision : goal.returns-in_err-on-clause-decision
unfolding outcome carried_out create_regular
returns-in_err-on-clause-decision c count l by =
    stops _ c.in_err-on.field-0.0 c.from_residual.ensures.1 (c.in_err-on.ensures.tried count l by)

pub returns-in_err-target-clause-decision : goal.returns-in_err-target-clause-decision
unfolding outcome carried_out create_regular
returns-in_err-target-clause-decision c count l by =
    goes _ c.in_ok-on.on (c.in_ok-on.ensures.tried count l by) (λ plan calendar.
    stops _ c.in_err-target.field-0.0 c.from_residual-in_err-target.ensures.1 (c.in_err-target.ensures.tried count l by))

pub returns-in_err-slot-clause-decision : goal.returns-in_err-slot-clause-decision
unfolding outcome carried_out create_regular
returns-in_err-slot-clause-decision c count l by =
    goes _ c.in_ok-on.on (c.in_ok-on.ensures.tried count l by) (λ plan calendar.
    goes _ c.in_ok-target.target (c.in_ok-target.ensures.tried count l by) (λ container there.
    stops _ c.in_err-slot.field-0.0 c.from_residual-in_err-slot.ensures.1 (c.in_err-slot.ensures.tried count l by)))

pub returns-in-Err-clause-decision : goal.returns-in-Err-clause-decision
unfolding outcome carried_out create_regular
returns-in-Err-clause-decision c count l by =
    goes _ c.in_ok-on.on (c.in_ok-on.ensures.tried count l by) (λ plan calendar.
    goes _ c.in_ok-target.target (c.in_ok-target.ensures.tried count l by) (λ container there.
    goes _ c.in_ok-slot.slot (c.in_ok-slot.ensures.tried count l by) (λ new free.
    let same = its_plan c.args.defs.now.definitions l c.args.calendar.now c.in_ok-on.on plan c.calendar_at.result.now by.definitions calendar c.calendar_at.ensures in
    tried_err c.in-Err.why (on_err _ c.in-Err.why _ (grid_tried plan _ c.args.origin _ same c.in-Err.ensures.answer)))))

pub returns-in_err-copied-clause-decision : goal.returns-in_err-copied-clause-decision
returns-in_err-copied-clause-decision c count l by = no_memory c.in_err-copied.field-0.0 c.from_residual-in_err-copied.ensures.1

pub returns-clause-decision : goal.returns-clause-decision
unfolding outcome carried_out create_regular
returns-clause-decision c count l by =
    goes _ c.in_ok-on.on (c.in_ok-on.ensures.tried count l by) (λ plan calendar.
    goes _ c.in_ok-target.target (c.in_ok-target.ensures.tried count l by) (λ container there.
    goes _ c.in_ok-slot.slot (c.in_ok-slot.ensures.tried count l by) (λ new free.
    let same = its_plan c.args.defs.now.definitions l c.args.calendar.now c.in_ok-on.on plan c.calendar_at.result.now by.definitions calendar c.calendar_at.ensures in
    let made_of = grid_tried plan _ c.args.origin _ same c.in-Ok.ensures.answer in
    found (λ g. g) _ c.in-Ok.grid (tried_ok c.in-Ok.grid c.in-Ok.grid made_of refl) (
    let key = c.args.key.now in
    let on = c.in_ok-on.on in
    let origin = c.in-Ok.grid.origin in
    let slot = c.in_ok-slot.slot in
    let made : SeriesDef = record { key = key; container = c.in_ok-target.target; regular = Some (on, origin) } in
    let value : Series = record { container = c.args.container.now; kind = Regular c.args.calendar.now origin; elements = empty } in
    let none = no_page slot l by.filled (vacant_found AllSeries slot l by.rules free.lowest).1 in
    let stamp : IsStamp origin = subst IsStamp (c.units-units.ensures.value ∙ c.origin-start.ensures.value) c.units-units.ensures.within in
    comes _ _ (subst (λ (x : Def). let a : Answered = (stamp_line origin, with_named AllSeries key value (catalogue_of l)) in DefinesAs AllSeries slot (Some x) l a)
    (λ i. defs.Series (sym c.in_ok-copied.ensures i) c.in_ok-target.target (Some (on, sym c.origin-start.ensures.value i)))
    (defined l by.rules by.filled (defs.Series key c.in_ok-target.target (Some (on, origin))) slot made value refl free
    (record { key = c.requires.form.0; container = there.at.within; regular = record { calendar = calendar.at.within; origin = stamp } })
    (named_there Container l c.args.container.now c.in_ok-target.target by.rules there.at.is, (named_there Calendar l c.args.calendar.now on by.rules calendar.at.is, tt)) tt
    (grid_on l c.args.calendar.now on plan c.args.origin c.in-Ok.grid calendar made_of c.origin-start.result c.origin-start.ensures.value c.origin-start.ensures.on)
    (omega (arith, by.rules.definitions.quotas)) (regular_named l slot on origin made c.args.container.now c.args.calendar.now none there.at.is refl calendar.at.is)))))))

pub returns-clause-fits : goal.returns-clause-fits
returns-clause-fits c = fits_free _ c.in_ok-slot.slot _ c.args.defs.now.definitions c.in_ok-copied.ensures c.in_ok-slot.ensures.free
