-- What the crates above cite: tests in a row, the grid of an origin, names of a kind, deletions of nothing, how a command ends on pages, what is said,
-- commands one behind the other, what a command comes to at a state, and what the last lines of replies tell.
pub use Rattle.ts_answer.proofs.TriedLemmas.{refused, passed, wanted-there, good-columns, bad-columns, good-row, bad-row, row-there, row-missing, format-has, format-hasnt, quota-kept, quota-passed, on_ok, on_err, goes, goes_refused, refused_as, stops, fails, no_memory, comes, passes, refuses, tried_ok, tried_err, answered, answered_list, stamp_there, stamp_past}
pub use Rattle.ts_answer.proofs.GridLemmas.{grid-made, grid-start}
pub use Rattle.ts_answer.proofs.NameLemmas.{defined_by, name_wanted, name_unknown, name_new, name_taken, name_beyond, calendar_tried}
pub use Rattle.ts_answer.proofs.ViewLemmas.{held_same}
pub use Rattle.ts_answer.proofs.DeletedLemmas.{element_not_there, range_not_there}
pub use Rattle.ts_answer.proofs.CarriedLemmas.{shows_still, kept_still, grows_one, refuses_still, stopped, stopped_first, read_stopped_first, tried_stopped, read_carried, said_carried, said_not_carried, said_line}
pub use Rattle.ts_answer.proofs.StateLemmas.{after_more, replies_more, length-replies, run_refused, run_came, misread_refused, outside_refused, outside_came, plain_answer, opened_outside, alone_outside, alone_inside, committed_outside, rolled_back_outside, opened_inside, committed_inside, rolled_back_inside, full_inside, refused_inside, came_inside}
pub use Rattle.ts_answer.proofs.OutcomeLemmas.{ok_lines_are_answers}
