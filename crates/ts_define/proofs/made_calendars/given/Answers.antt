use Rattle.std.proofs.Common.{◌≡◌, Ok, Some, ap, sym, ◌∙◌, subst}
use Rattle.std.specs.Option.{option_map}
use Rattle.ts_calendar.specs.declared.text.PatternPart.{PatternPart}
use Rattle.ts_model.specs.declared.kind.Kind.TheVariants.{Pattern}
use Rattle.ts_model.specs.Definitions.{Definitions, PatternDef, at_slot}
use Rattle.ts_layout.specs.Meaning.{catalogue_of}
use Rattle.ts_layout.proofs.CallerLemmas.{text_named}
use Rattle.ts_answer.specs.Answer.{given, wanted}
use Rattle.ts_answer.specs.Tried.{IsTried}
use Rattle.ts_answer.proofs.CallerLemmas.{fails, tried_ok}
use Rattle.ts_define.specs.Patterns.{IsGivenPattern}
use Rattle.ts_define.proofs.PatternLemmas.{filled}
use Rattle.ts_define.proofs.made_calendars.given.Goals as goal

pub pattern_at-requires-clause-filled : goal.pattern_at-requires-clause-filled
pattern_at-requires-clause-filled c = filled Pattern c.in_ok-slot-in-Named.slot c.in-Named.name c.args.defs.now.definitions c.in_ok-slot-in-Named.ensures.found

pub returns-in_err-slot-in-Named : goal.returns-in_err-slot-in-Named
unfolding wanted
returns-in_err-slot-in-Named c count l by =
    subst (λ (part : PatternPart). IsTried c.from_residual.result (given part (catalogue_of l)) (IsGivenPattern part l)) (sym c.in-Named.is)
    (fails c.in_err-slot-in-Named.field-0.0 c.from_residual.ensures.1 (c.in_err-slot-in-Named.ensures.tried count l by))

pub returns-in_ok-copied-in-Named : goal.returns-in_ok-copied-in-Named
unfolding wanted
returns-in_ok-copied-in-Named c count l by =
    let slot = c.in_ok-slot-in-Named.slot in
    let pattern = c.in_ok-copied-in-Named.copied in
    let tried = (c.in_ok-slot-in-Named.ensures.tried count l by).ok in
    let its = tried.2.is in
    let at : option_map (λ (p : PatternDef). p.pattern) (at_slot slot l.definitions.patterns) ≡ Some pattern =
    ap (λ (d : Definitions). option_map (λ (p : PatternDef). p.pattern) (at_slot slot d.patterns)) (sym by.definitions) ∙ c.pattern_at.ensures ∙ ap Some (sym c.in_ok-copied-in-Named.ensures.ok) in
    let same : Some pattern ≡ Some its.0.pattern = sym at ∙ ap (option_map (λ (p : PatternDef). p.pattern)) its.1 in
    subst (λ (part : PatternPart). IsTried (Ok (pattern, Some slot)) (given part (catalogue_of l)) (IsGivenPattern part l)) (sym c.in-Named.is)
    (tried_ok _ tried.0 tried.1 (record {
      same = let e : pattern ≡ its.0.pattern = cc in e ∙ sym its.2;
      by = (tried.2.at.within, at);
      text = λ calendar has is. text_named l calendar slot c.in-Named.name is tried.2.at.is;
    }))
