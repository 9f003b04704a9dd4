use Rattle.ts_dump_texts.proofs.LineLemmas.{row_type_line, pattern_line, calendar_line, container_line, irregular_line, regular_line, element_line, hiding_line}
use Rattle.ts_dump_texts.proofs.laws.texts_are_lines.Goals as goal

pub returns : goal.returns
returns c = record {
  row_type = row_type_line;
  pattern = pattern_line;
  calendar = calendar_line;
  container = container_line;
  irregular = irregular_line;
  regular = regular_line;
  element = element_line;
  hiding = hiding_line;
}
