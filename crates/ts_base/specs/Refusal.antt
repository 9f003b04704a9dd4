-- Why a command is refused.
use Rattle.std.specs.Prelude.{ℕ, List, codes}
use Rattle.ts_base.specs.declared.refusal.Refusal.{Refusal}
use Rattle.ts_base.specs.declared.refusal.Refusal.TheVariants.{Syntax, TooLong, Unended, UnknownName, NameTaken}
use Rattle.ts_base.specs.declared.refusal.Refusal.TheVariants.{BadRowType, BadPattern, BadCalendar, AllOff}
use Rattle.ts_base.specs.declared.refusal.Refusal.TheVariants.{UnitMismatch, PatternTooLong, NotAligned, OffStamp}
use Rattle.ts_base.specs.declared.refusal.Refusal.TheVariants.{BeforeOrigin, PastEnd, Duplicate, Missing, SecondFull}
use Rattle.ts_base.specs.declared.refusal.Refusal.TheVariants.{RowMismatch, ContainerFull, VolumeFull, InUse, TooMany}
use Rattle.ts_base.specs.declared.refusal.Refusal.TheVariants.{TooLarge, NotRegular, BadExpression, UnknownColumn}
use Rattle.ts_base.specs.declared.refusal.Refusal.TheVariants.{Overflow, OldFormat, WindowGone, NotOpen, AlreadyOpen}
use Rattle.ts_base.specs.declared.refusal.Refusal.TheVariants.{TransactionFull, Conflict}

-- the number and the name in the line `error NN Name`
abbrev pub code_and_name : Refusal → ℕ × List ℕ
code_and_name (Syntax place) = (1, codes "Syntax")
code_and_name TooLong = (2, codes "TooLong")
code_and_name Unended = (3, codes "Unended")
code_and_name UnknownName = (10, codes "UnknownName")
code_and_name NameTaken = (11, codes "NameTaken")
code_and_name (BadRowType column) = (12, codes "BadRowType")
code_and_name (BadPattern place) = (13, codes "BadPattern")
code_and_name (BadCalendar place) = (14, codes "BadCalendar")
code_and_name AllOff = (15, codes "AllOff")
code_and_name UnitMismatch = (16, codes "UnitMismatch")
code_and_name (PatternTooLong length runs) = (17, codes "PatternTooLong")
code_and_name NotAligned = (18, codes "NotAligned")
code_and_name OffStamp = (20, codes "OffStamp")
code_and_name BeforeOrigin = (21, codes "BeforeOrigin")
code_and_name PastEnd = (22, codes "PastEnd")
code_and_name Duplicate = (23, codes "Duplicate")
code_and_name Missing = (24, codes "Missing")
code_and_name SecondFull = (25, codes "SecondFull")
code_and_name (RowMismatch column) = (26, codes "RowMismatch")
code_and_name (ContainerFull charge quota) = (30, codes "ContainerFull")
code_and_name (VolumeFull sum pages) = (31, codes "VolumeFull")
code_and_name InUse = (32, codes "InUse")
code_and_name TooMany = (33, codes "TooMany")
code_and_name (TooLarge rows) = (34, codes "TooLarge")
code_and_name NotRegular = (40, codes "NotRegular")
code_and_name (BadExpression place) = (41, codes "BadExpression")
code_and_name UnknownColumn = (42, codes "UnknownColumn")
code_and_name Overflow = (43, codes "Overflow")
code_and_name OldFormat = (44, codes "OldFormat")
code_and_name (WindowGone newest) = (45, codes "WindowGone")
code_and_name NotOpen = (50, codes "NotOpen")
code_and_name AlreadyOpen = (51, codes "AlreadyOpen")
code_and_name TransactionFull = (52, codes "TransactionFull")
code_and_name (Conflict commit) = (53, codes "Conflict")

-- the number in that line
abbrev pub refusal_code : Refusal → ℕ
refusal_code refusal = (code_and_name refusal).0

-- the name in that line
abbrev pub refusal_name : Refusal → List ℕ
refusal_name refusal = (code_and_name refusal).1
