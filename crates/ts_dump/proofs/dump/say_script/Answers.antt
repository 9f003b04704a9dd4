use Rattle.std.proofs.Common.{◌++◌, Err, ℕ, List, sym, ap, subst, ◌∙◌}
use Rattle.ts_dump_texts.specs.Script.{script_of}
use Rattle.ts_dump.specs.Grouping.{first_of, ending, behind}
use Rattle.ts_dump.specs.Chosen.{chosen_texts}
use Rattle.ts_dump.specs.Dumped.{grouped}
use Rattle.ts_dump.proofs.EndingLemmas.{script_cut, script_said}
use Rattle.ts_dump.proofs.dump.say_script.Goals as goal

pub returns-in_err-say_texts-clause-said : goal.returns-in_err-say_texts-clause-said
returns-in_err-say_texts-clause-said g c = λ told l lay.
    let v = g.S.Volume.device c.args.site.now in
    let w = g.S.Volume.device c.say_texts.new.site in
    script_cut c.args.in_transactions (chosen_texts l c.args.choice) c.first-grouping.result c.say_texts.new.grouping c.from_residual.result c.in_err-say_texts.field-0.0 v w c.first-grouping.ensures c.from_residual.ensures.1
    (c.in_err-say_texts.ensures.said told l lay)

pub returns-clause-said : goal.returns-clause-said
returns-clause-said g c = λ told l lay.
    let v = g.S.Volume.device c.args.site.now in
    let x = g.S.Volume.device c.say_texts.new.site in
    let w = g.S.Volume.device c.say_ending.new.site in
    script_said c.args.in_transactions (chosen_texts l c.args.choice) c.first-grouping.result c.say_texts.new.grouping c.say_ending.result v x w c.first-grouping.ensures
    (c.in_ok-say_texts.ensures.said told l lay) (c.say_ending.ensures.said told)
