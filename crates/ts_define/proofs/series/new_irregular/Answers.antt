use Rattle.std.proofs.Common.{ℕ, List, Some, None, refl, sym, subst, arith}
use Rattle.std.specs.FinMap.{empty}
use Rattle.ts_model.specs.Catalogue.{Series, Irregular, with_named}
use Rattle.ts_model.specs.Definitions.{SeriesDef}
use Rattle.ts_model.specs.declared.kind.Kind.TheVariants.{Container, Series as AllSeries}
use Rattle.ts_model.specs.declared.def.Def.TheVariants as defs
use Rattle.ts_layout.specs.Meaning.{catalogue_of}
use Rattle.ts_layout.proofs.CallerLemmas.{irregular_named, vacant_found}
use Rattle.ts_answer.specs.Answer.{Answered, outcome, carried_out, create_irregular}
use Rattle.ts_answer.specs.Decided.{DefinesAs}
use Rattle.ts_answer.specs.Reply.{ok_line}
use Rattle.ts_answer.proofs.CallerLemmas.{goes, stops, no_memory, comes}
use Rattle.ts_define.proofs.DefinedLemmas.{defined, fits_free, named_there, no_page}
use Rattle.ts_define.proofs.series.new_irregular.Goals as goal

pub returns-in_err-target-clause-decision : goal.returns-in_err-target-clause-decision
unfolding outcome carried_out create_irregular
returns-in_err-target-clause-decision c count l by = stops _ c.in_err-target.field-0.0 c.from_residual.ensures.1 (c.in_err-target.ensures.tried count l by)

pub returns-in_err-slot-clause-decision : goal.returns-in_err-slot-clause-decision
unfolding outcome carried_out create_irregular
returns-in_err-slot-clause-decision c count l by =
    goes _ c.in_ok-target.target (c.in_ok-target.ensures.tried count l by) (λ container there. stops _ c.in_err-slot.field-0.0 c.from_residual-in_err-slot.ensures.1 (c.in_err-slot.ensures.tried count l by))

pub returns-in_err-copied-clause-decision : goal.returns-in_err-copied-clause-decision
returns-in_err-copied-clause-decision c count l by = no_memory c.in_err-copied.field-0.0 c.from_residual-in_err-copied.ensures.1

pub returns-clause-decision : goal.returns-clause-decision
unfolding outcome carried_out create_irregular
returns-clause-decision c count l by =
    goes _ c.in_ok-target.target (c.in_ok-target.ensures.tried count l by) (λ container there. goes _ c.in_ok-slot.slot (c.in_ok-slot.ensures.tried count l by) (λ new free.
    let key = c.args.key.now in
    let holder = c.args.container.now in
    let target = c.in_ok-target.target in
    let slot = c.in_ok-slot.slot in
    let made : SeriesDef = record { key = key; container = target; regular = None } in
    let value : Series = record { container = holder; kind = Irregular; elements = empty } in
    let none = no_page slot l by.filled (vacant_found AllSeries slot l by.rules free.lowest).1 in
    comes _ _ (subst (λ (x : List ℕ). let a : Answered = (ok_line, with_named AllSeries key value (catalogue_of l)) in DefinesAs AllSeries slot (Some (defs.Series x target None)) l a) (sym c.in_ok-copied.ensures)
    (defined l by.rules by.filled (defs.Series key target None) slot made value refl free (record { key = c.requires.form.0; container = there.at.within; regular = tt }) (named_there Container l holder target by.rules there.at.is, tt) tt tt
    (omega (arith, by.rules.definitions.quotas)) (irregular_named l slot made holder none there.at.is refl)))))

pub returns-clause-fits : goal.returns-clause-fits
returns-clause-fits c = fits_free _ c.in_ok-slot.slot _ c.args.defs.now.definitions c.in_ok-copied.ensures c.in_ok-slot.ensures.free
