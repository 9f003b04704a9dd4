use Rattle.std.proofs.Common.{refl}
use Rattle.std.specs.Fmt.{digits}
use Rattle.ts_base.specs.Moment.{civil_of, civil_in_year, civil_in_years, stamp_text}
use Rattle.ts_answer.specs.Reply.{ok_line, refusal_line, count_line, counts_line, number_line, pattern_lines, calendar_lines, stamps_text, series_line, series_text}
use Rattle.ts_answer_laws.proofs.laws.lines_are_printed_so.Goals as goal

pub returns : goal.returns
unfolding ok_line refusal_line count_line counts_line number_line pattern_lines calendar_lines stamps_text series_line series_text digits stamp_text civil_of civil_in_year civil_in_years
returns c = record { syntax = refl; unended = refl; unknown = refl; full = refl; count = refl; usage = refl; before = refl; after = refl; pattern = refl; calendar = refl; stamps = refl; series = refl; regular = refl }
