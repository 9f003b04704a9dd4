use Rattle.std.proofs.Common.{IsTrue, Some, refl, sym, subst, arith}
use Rattle.ts_base.specs.Moment.{IsStamp}
use Rattle.ts_pattern.specs.Patterns.{Plan, is_pattern}
use Rattle.ts_model.specs.Catalogue.{with_named}
use Rattle.ts_model.specs.Definitions.{CalendarDef}
use Rattle.ts_model.specs.declared.kind.Kind.TheVariants.{Calendar}
use Rattle.ts_model.specs.declared.def.Def.{Def}
use Rattle.ts_model.specs.declared.def.Def.TheVariants as defs
use Rattle.ts_layout.specs.Meaning.{catalogue_of, text_of}
use Rattle.ts_answer.specs.Answer.{Answered}
use Rattle.ts_answer.specs.Decided.{DefinesAs}
use Rattle.ts_answer.specs.Reply.{ok_line}
use Rattle.ts_answer.proofs.CallerLemmas.{comes}
use Rattle.ts_define.proofs.DefinedLemmas.{defined, fits_free}
use Rattle.ts_define.proofs.PatternLemmas.{reference}
use Rattle.ts_define.proofs.made_calendars.calendar_in.Goals as goal

pub returns-clause-fits : goal.returns-clause-fits
returns-clause-fits c d free = fits_free _ c.args.slot _ d c.in_ok-copied.ensures free

pub returns-clause-made : goal.returns-clause-made
returns-clause-made c l rules filled free by =
    let name = c.args.name.now in
    let made : CalendarDef = record { name = name; calendar = c.args.calendar; by = c.args.by } in
    let its = reference c.args.by c.args.calendar.pattern l.definitions by in
    let start : IsStamp c.args.calendar.start = subst IsStamp c.start.ensures.value (subst IsStamp c.units-start.ensures.value c.units-start.ensures.within) in
    comes _ _ (subst (λ (x : Def). let a : Answered = (ok_line, with_named Calendar name (text_of l.definitions made) (catalogue_of l)) in DefinesAs Calendar c.args.slot (Some x) l a)
    (λ i. defs.Calendar (sym c.in_ok-copied.ensures i) (sym c.in_ok-counter.ensures.ok i) c.args.by)
    (defined l rules filled (defs.Calendar name c.args.calendar c.args.by) c.args.slot made (text_of l.definitions made) refl free
    (record { name = c.requires; start = start; patt_start = c.patt_start-patt_start.ensures.laid.stamp; runs = subst (λ (p : Plan). IsTrue (is_pattern p.runs)) c.pattern.ensures c.length-length.ensures.pattern; by = its.within }) its.there (c.start.ensures.valid, its.follows) tt
    (omega (arith, rules.definitions.quotas)) refl))
