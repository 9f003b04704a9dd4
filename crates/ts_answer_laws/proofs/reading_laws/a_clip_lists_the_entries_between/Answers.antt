use Rattle.ts_answer_laws.proofs.ClipLemmas.{clip_lists}
use Rattle.ts_answer_laws.proofs.reading_laws.a_clip_lists_the_entries_between.Goals as goal

pub returns : goal.returns
returns c = clip_lists
