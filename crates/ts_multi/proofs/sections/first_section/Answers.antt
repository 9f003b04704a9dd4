use Rattle.std.proofs.Common.{◌+◌, length, arith, refl, sym, ◌∙◌}
use Rattle.std.proofs.lemmas.Grind.{common_steps}
use Rattle.std.proofs.lemmas.List.{take_rest}
use Rattle.ts_multi.proofs.SectionLemmas.{onto-sections, section_goes_on, section_ends, section_is_last}
use Rattle.ts_multi.proofs.sections.first_section.Goals as goal

pub loop-len-init : goal.loop-len-init
loop-len-init c = record { within = omega arith; sections = onto-sections c.args.text.now }

pub loop-len-preserved : goal.loop-len-preserved
loop-len-preserved c =
    let line = rw (take_rest c.args.text.now c.loop-len.len) at c.first_line-line.ensures.line in
    let within = rw (take_rest c.args.text.now c.loop-len.len) at c.first_line-line.ensures.within in
    record {
      within = grind (arith, common_steps);
      sections = section_goes_on c.args.text.now c.loop-len.len _ c.first_line-line.result.now (omega arith) line (omega arith) (sym c.is_mark.ensures ∙ c.if-is_mark.false) c.loop-len.invariant.sections;
    }

pub returns-then-is_mark : goal.returns-then-is_mark
returns-then-is_mark c =
    let line = rw (take_rest c.args.text.now c.loop-len.len) at c.first_line-line.ensures.line in
    rw (take_rest c.args.text.now (c.loop-len.len + length c.first_line-line.result.now))
    (section_ends c.args.text.now c.loop-len.len (c.loop-len.len + length c.first_line-line.result.now) c.first_line-line.result.now (omega arith) line refl (sym c.is_mark.ensures ∙ c.if-is_mark.true) c.loop-len.invariant.sections)

pub returns : goal.returns
returns c = section_is_last c.args.text.now c.loop-len.len (omega arith) c.loop-len.invariant.sections
