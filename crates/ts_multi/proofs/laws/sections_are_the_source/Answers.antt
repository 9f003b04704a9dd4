use Rattle.ts_multi.proofs.SectionLemmas.{concat-lines, lines-first, sections-split}
use Rattle.ts_multi.proofs.laws.sections_are_the_source.Goals as goal

pub returns-clause-lines : goal.returns-clause-lines
returns-clause-lines c = λ bytes. concat-lines bytes

pub returns-clause-first : goal.returns-clause-first
returns-clause-first c = λ bytes some. lines-first bytes some

pub returns-clause-sections : goal.returns-clause-sections
returns-clause-sections c = λ bytes. sections-split bytes
