use Rattle.std.proofs.Common.{sym, ap}
use Rattle.std.specs.Fmt.{digits}
use Rattle.ts_sessions.specs.Steps.{session_line}
use Rattle.ts_session_runs.proofs.line.session_line.Goals as goal

pub returns-in-1 : goal.returns-in-1
unfolding session_line digits
returns-in-1 c = sym (ap session_line c.in-1.is)

pub returns-in-2 : goal.returns-in-2
unfolding session_line digits
returns-in-2 c = sym (ap session_line c.in-2.is)

pub returns-in-3 : goal.returns-in-3
unfolding session_line digits
returns-in-3 c = sym (ap session_line c.in-3.is)

pub returns-in-4 : goal.returns-in-4
unfolding session_line digits
returns-in-4 c = sym (ap session_line c.in-4.is)

pub returns-in-5 : goal.returns-in-5
unfolding session_line digits
returns-in-5 c = sym (ap session_line c.in-5.is)

pub returns-in-6 : goal.returns-in-6
unfolding session_line digits
returns-in-6 c = sym (ap session_line c.in-6.is)

pub returns-in-7 : goal.returns-in-7
unfolding session_line digits
returns-in-7 c = sym (ap session_line c.in-7.is)

pub returns-in-8 : goal.returns-in-8
unfolding session_line digits
returns-in-8 c = sym (ap session_line c.in-8.is)

pub returns-in-9 : goal.returns-in-9
unfolding session_line digits
returns-in-9 c = sym (ap session_line c.in-9.is)

pub returns-in-10 : goal.returns-in-10
unfolding session_line digits
returns-in-10 c = sym (ap session_line c.in-10.is)

pub returns-in-11 : goal.returns-in-11
unfolding session_line digits
returns-in-11 c = sym (ap session_line c.in-11.is)

pub returns-in-12 : goal.returns-in-12
unfolding session_line digits
returns-in-12 c = sym (ap session_line c.in-12.is)

pub returns-in-13 : goal.returns-in-13
unfolding session_line digits
returns-in-13 c = sym (ap session_line c.in-13.is)

pub returns-in-14 : goal.returns-in-14
unfolding session_line digits
returns-in-14 c = sym (ap session_line c.in-14.is)

pub returns-in-15 : goal.returns-in-15
unfolding session_line digits
returns-in-15 c = sym (ap session_line c.in-15.is)

pub returns-in-16 : goal.returns-in-16
unfolding session_line digits
returns-in-16 c = sym (ap session_line c.in-16.is)
