use Rattle.std.proofs.Common.{◌++◌, Err, ℕ, List, sym, ap, subst, ◌∙◌}
use Rattle.ts_model.specs.Definitions.{Definitions}
use Rattle.ts_dump.specs.Chosen.{chosen_texts, texts_defined, texts_within}
use Rattle.ts_dump.specs.Held.{IsLayoutOf}
use Rattle.ts_dump.proofs.SayingLemmas.{texts_failed, texts_same, texts_stop, texts_then}
use Rattle.ts_dump.proofs.dump.say_texts.Goals as goal

pub returns-in_err-say_definitions-clause-said : goal.returns-in_err-say_definitions-clause-said
returns-in_err-say_definitions-clause-said g c = λ told l lay.
    let v = g.S.Volume.device c.args.site.now in
    let w = g.S.Volume.device c.say_definitions.new.site in
    let d = c.args.opened.now.found.defs.definitions in
    let choice = c.args.choice in
    let before = c.args.grouping.now in
    let behind = c.say_definitions.new.grouping in
    let e = c.in_err-say_definitions.field-0.0 in
    texts_failed before behind behind (chosen_texts l choice) c.from_residual.result e v w c.from_residual.ensures.1
    (texts_same before behind (texts_defined d choice ++ texts_within l choice) (chosen_texts l choice) (Err e) v w
    (ap (λ (x : Definitions). texts_defined x choice ++ texts_within l choice) lay.definitions)
    (texts_stop before behind behind (texts_defined d choice) (texts_within l choice) e v w (c.in_err-say_definitions.ensures.said told)))

pub returns-clause-said : goal.returns-clause-said
returns-clause-said g c = λ told l lay.
    let v = g.S.Volume.device c.args.site.now in
    let x = g.S.Volume.device c.say_definitions.new.site in
    let w = g.S.Volume.device c.say_elements.new.site in
    let found = c.args.opened.now.found in
    let d = found.defs.definitions in
    let choice = c.args.choice in
    let before = c.args.grouping.now in
    let here = c.say_definitions.new.grouping in
    let behind = c.say_elements.new.grouping in
    let lies = subst (λ (held : List ℕ). IsLayoutOf d found.space held l) (sym c.in_ok-say_definitions.ensures.caused.stays.held) lay in
    texts_same before behind (texts_defined d choice ++ texts_within l choice) (chosen_texts l choice) c.say_elements.result v w
    (ap (λ (y : Definitions). texts_defined y choice ++ texts_within l choice) lay.definitions)
    (texts_then before here behind (texts_defined d choice) (texts_within l choice) c.say_elements.result v x w (c.in_ok-say_definitions.ensures.said told)
    (c.say_elements.ensures.said told l lies))
