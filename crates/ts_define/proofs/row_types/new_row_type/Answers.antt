use Rattle.std.proofs.Common.{Some, refl, ap, sym, ◌∙◌, subst, arith}
use Rattle.ts_row.specs.Row.{Heading, has_long_decimal}
use Rattle.ts_model.specs.Catalogue.{with_named}
use Rattle.ts_model.specs.Definitions.{Definitions, RowTypeDef}
use Rattle.ts_model.specs.declared.kind.Kind.TheVariants.{RowType as RowTypes}
use Rattle.ts_model.specs.declared.def.Def.{Def}
use Rattle.ts_model.specs.declared.def.Def.TheVariants as defs
use Rattle.ts_layout.specs.Meaning.{catalogue_of}
use Rattle.ts_answer.specs.Answer.{Answered, outcome, carried_out, create_row_type}
use Rattle.ts_answer.specs.Decided.{DefinesAs}
use Rattle.ts_answer.specs.Reply.{ok_line}
use Rattle.ts_answer.proofs.CallerLemmas.{goes, stops, no_memory, comes}
use Rattle.ts_define.proofs.DefinedLemmas.{defined, fits_free}
use Rattle.ts_define.proofs.RowTypeLemmas.{all_names, of_format}
use Rattle.ts_define.proofs.row_types.new_row_type.Goals as goal

pub returns-in_err-kind-clause-decision : goal.returns-in_err-kind-clause-decision
unfolding outcome carried_out create_row_type
returns-in_err-kind-clause-decision c count l by = stops _ c.in_err-kind.field-0.0 c.from_residual.ensures.1 c.in_err-kind.ensures

pub returns-in_err-in_format-clause-decision : goal.returns-in_err-in_format-clause-decision
unfolding outcome carried_out create_row_type
returns-in_err-in_format-clause-decision c count l by =
    goes _ c.in_ok-kind.kind c.in_ok-kind.ensures (λ good makes. stops _ c.in_err-in_format.field-0.0 c.from_residual-in_err-in_format.ensures.1
    (of_format _ _ _ _ _ (c.has_long_decimal.ensures ∙ ap (λ (h : Heading). has_long_decimal h.columns) makes.made) (ap (λ (d : Definitions). d.format) by.definitions) c.in_err-in_format.ensures))

pub returns-in_err-slot-clause-decision : goal.returns-in_err-slot-clause-decision
unfolding outcome carried_out create_row_type
returns-in_err-slot-clause-decision c count l by =
    goes _ c.in_ok-kind.kind c.in_ok-kind.ensures (λ good makes. goes _ tt (of_format _ _ _ _ _ (c.has_long_decimal.ensures ∙ ap (λ (h : Heading). has_long_decimal h.columns) makes.made) (ap (λ (d : Definitions). d.format) by.definitions) c.in_ok-in_format.ensures)
    (λ done has. stops _ c.in_err-slot.field-0.0 c.from_residual-in_err-slot.ensures.1 (c.in_err-slot.ensures.tried count l by)))

pub returns-in_err-copied-clause-decision : goal.returns-in_err-copied-clause-decision
returns-in_err-copied-clause-decision c count l by = no_memory c.in_err-copied.field-0.0 c.from_residual-in_err-copied.ensures.1

pub returns-clause-decision : goal.returns-clause-decision
unfolding outcome carried_out create_row_type
returns-clause-decision c count l by =
    goes _ c.in_ok-kind.kind c.in_ok-kind.ensures (λ good makes. goes _ tt (of_format _ _ _ _ _ (c.has_long_decimal.ensures ∙ ap (λ (h : Heading). has_long_decimal h.columns) makes.made) (ap (λ (d : Definitions). d.format) by.definitions) c.in_ok-in_format.ensures)
    (λ done has. goes _ c.in_ok-slot.slot (c.in_ok-slot.ensures.tried count l by) (λ new free.
    let name = c.args.name.now in
    let heading : Heading = record { stamp = c.args.stamp.now; columns = c.args.columns.now } in
    let form = c.requires.form in
    let made : RowTypeDef = record { name = name; heading = heading } in
    comes _ _ (subst (λ (x : Def). let a : Answered = (ok_line, with_named RowTypes name heading (catalogue_of l)) in DefinesAs RowTypes c.in_ok-slot.slot (Some x) l a)
    (λ i. defs.RowType (sym c.in_ok-copied.ensures i) (sym makes.made i))
    (defined l by.rules by.filled (defs.RowType name heading) c.in_ok-slot.slot made heading refl free (record { name = form.0; stamp = form.1; columns = all_names c.args.columns.now form.3; rules = makes.rules; of_format = has }) tt tt tt
    (omega (arith, by.rules.definitions.quotas)) refl)))))

pub returns-clause-fits : goal.returns-clause-fits
returns-clause-fits c = fits_free _ c.in_ok-slot.slot _ c.args.defs.now.definitions c.in_ok-copied.ensures c.in_ok-slot.ensures.free
