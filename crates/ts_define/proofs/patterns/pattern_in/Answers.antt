use Rattle.std.proofs.Common.{ℕ, List, Some, refl, sym, subst, arith}
use Rattle.ts_model.specs.Catalogue.{with_named}
use Rattle.ts_model.specs.Definitions.{PatternDef}
use Rattle.ts_model.specs.declared.kind.Kind.TheVariants.{Pattern}
use Rattle.ts_model.specs.declared.def.Def.TheVariants as defs
use Rattle.ts_layout.specs.Meaning.{catalogue_of}
use Rattle.ts_answer.specs.Answer.{Answered}
use Rattle.ts_answer.specs.Decided.{DefinesAs}
use Rattle.ts_answer.specs.Reply.{ok_line}
use Rattle.ts_answer.proofs.CallerLemmas.{comes}
use Rattle.ts_define.proofs.DefinedLemmas.{defined, fits_free}
use Rattle.ts_define.proofs.patterns.pattern_in.Goals as goal

pub returns-clause-fits : goal.returns-clause-fits
returns-clause-fits c d free = fits_free _ c.args.slot _ d c.in_ok-copied.ensures free

pub returns-clause-made : goal.returns-clause-made
returns-clause-made c l rules filled free =
    let name = c.args.name.now in
    let made : PatternDef = record { name = name; pattern = c.args.pattern } in
    comes _ _ (subst (λ (x : List ℕ). let a : Answered = (ok_line, with_named Pattern name c.args.pattern (catalogue_of l)) in DefinesAs Pattern c.args.slot (Some (defs.Pattern x c.args.pattern)) l a) (sym c.in_ok-copied.ensures)
    (defined l rules filled (defs.Pattern name c.args.pattern) c.args.slot made c.args.pattern refl free (record { name = c.requires; runs = c.length-length.ensures.pattern }) tt tt tt (omega (arith, rules.definitions.quotas)) refl))
