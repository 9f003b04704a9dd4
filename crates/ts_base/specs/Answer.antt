-- What a call answers.
use Rattle.std.specs.Prelude.{◌≡◌, ℕ, nat_lt, if◌then◌else◌, Result, Ok, Err, List, ◌++◌, length, Vec}
use Rattle.ts_base.specs.declared.refusal.Refusal.{Refusal}
use Rattle.ts_base.specs.declared.refusal.Refusal.TheVariants.{TooLarge}
use Rattle.ts_base.specs.declared.fault.Trouble.{Trouble}
use Rattle.ts_base.specs.declared.fault.Trouble.TheVariants.{Refused, Memory}

-- a call answers this, or that there is no memory
abbrev pub Answers : {A : Type 0} → Result A Refusal → Result A Trouble → Type 0
Answers answer (Ok value) = answer ≡ Ok value
Answers answer (Err (Refused why)) = answer ≡ Err why
Answers answer (Err (Memory error)) = Unit {0}

-- a call answers these rows or this refusal, or that there is no memory
abbrev pub AnswersList : {T A : Type 0} → Result (List T) Refusal → Result (Vec T A) Trouble → Type 0
AnswersList answer (Ok rows) = answer ≡ Ok rows.items
AnswersList answer (Err (Refused why)) = answer ≡ Err why
AnswersList answer (Err (Memory error)) = Unit {0}

-- the call fails for this, or for want of memory
abbrev pub Fails : {A : Type 0} → Result A Refusal → Trouble → Type 0
Fails answer (Refused why) = answer ≡ Err why
Fails answer (Memory error) = Unit {0}

-- the most rows of a reply
abbrev pub most_rows : ℕ
most_rows = 1_000_000

-- rows, where they are no more than a reply may have; else how many they would be
abbrev pub within_rows : {A : Type 0} → List A → Result (List A) Refusal
within_rows rows = if nat_lt most_rows (length rows) then Err (TooLarge (length rows)) else Ok rows

-- a text has become longer at its end, if at all
abbrev pub Extends : List ℕ → List ℕ → Type 0
Extends old new = (more : List ℕ) × (new ≡ old ++ more)
