-- What `gen` does: it carries out the generated commands, and says what the last two come to and how many there were of
-- each kind.
use Rattle.std.specs.Prelude.{◌≡◌, ◌≢◌, ◌⊎◌, ℕ, ◌+◌, ◌-◌, ◌≤◌, Bool, not, IsTrue, List, [], ◌∷◌, ◌++◌, length, take}
use Rattle.std.specs.Prelude.{drop, codes, decimal, flat_map, Result, Ok, OnOk, IfErr}
use Rattle.std.specs.List.{count_by}
use Rattle.ts_disk.specs.Device.{Device, Rose, FirstSync, LeavesOnly, Saying}
use Rattle.ts_journal.specs.Moment.{Keeps, OnlyReads}
use Rattle.ts_command.specs.declared.command.Command.{Command}
use Rattle.ts_model.specs.Catalogue.{Catalogue}
use Rattle.ts_answer.specs.Answer.{State, resting, committed, after, replies}
use Rattle.ts_answer.specs.Outcomes.{ends_with_ok}
use Rattle.ts_opening.specs.Engine.{StepFault}
use Rattle.ts_opening.specs.Faults.{Disk, Memory, Closed}
use Rattle.ts_volume.specs.Volume.{MeansCatalogue}
use Rattle.ts_opening.specs.Engine.{Kept, IsReady, IsAt, NothingIsPending}
use Rattle.ts_opening.specs.Engine.{Stepped}
use Rattle.ts_generator.specs.declared.generator.Generator.{Generator}
use Rattle.ts_opening.specs.Opening.{OpensStore}
use Rattle.ts_generator.specs.Generated.{generated, IsNext}

-- the last two of some replies, one behind the other
abbrev pub last_two : List (List ℕ) → List ℕ
last_two rs = flat_map (λ r. r) (drop (length rs - 2) rs)

-- `done`, how many replies end with an `ok` line, and how many don't
abbrev pub done_line : List (List ℕ) → List ℕ
done_line rs =
    codes "done " ++ decimal (count_by ends_with_ok rs) ++ codes " "
    ++ decimal (count_by (λ r. not (ends_with_ok r)) rs) ++ codes "\n"

-- what is said of all replies
unfoldable pub summary : List (List ℕ) → List ℕ
summary rs = last_two rs ++ done_line rs

-- what an engine keeps of replies: the last two (nothing for one that isn't there), and how many end with an `ok` line
-- and how many don't
pub record IsTally (rs : List (List ℕ)) (before reply : List ℕ) (answered refused : ℕ) : Type 0 where
  pub front : List (List ℕ)
  pub two : [] ∷ [] ∷ rs ≡ front ++ before ∷ reply ∷ []
  pub counted : answered ≡ count_by ends_with_ok rs
  pub others : refused ≡ count_by (λ r. not (ends_with_ok r)) rs

-- an image that means the state after the first commands, however many, and nothing said
pub record IsAmong (state : State) (commands : List Command) (before image said : List ℕ) : Type 0 where
  pub count : ℕ
  pub within : count ≤ length commands
  pub means : MeansCatalogue image (committed (after state (take count commands)))
  pub silent : said ≡ before

-- why not all commands were carried out; an engine that no call of the disk's failed before isn't closed
abbrev pub QuietFault : StepFault → Device → Device → Type 0
QuietFault Disk v w = Rose v.faults w.faults
QuietFault (Memory error) v w = w.faults ≡ v.faults
QuietFault (Closed faults) v w = ⊥

-- what carrying out commands in their order does, with nothing said, and with an engine that is `e` before and `f`
-- behind
pub record RanQuietly (tells : Bool) (commands : List Command) (result : Result Unit StepFault) (e f : Kept)
    (v w : Device) : Type 0 where
  pub ready : OnOk result (IsReady tells f w)
  pub at : OnOk result (IsTrue tells → (state : State) → IsAt tells e state v
      → IsAt tells f (after state commands) w)
  pub fault : IfErr result (λ fault. QuietFault fault v w)
  pub moments : IsTrue tells → (state : State) → IsAt tells e state v → LeavesOnly v w (IsAmong state commands v.said)
  pub others : Keeps tells v w
  pub no_fault : OnOk result (w.faults ≡ v.faults)

-- Commands were carried out from an engine `e` on, with nothing said: what is in hand behind them is their engine, and
-- what is kept of their replies.
pub record IsBehind (tells : Bool) (commands : List Command) (e : Kept) (v : Device) (hand : Generator)
    (w : Device) : Type 0 where
  pub ran : RanQuietly tells commands (Ok (tt {0})) e hand.engine v w
  pub tally : IsTrue tells → (state : State) → IsAt tells e state v
      → IsTally (replies state commands) hand.before hand.reply hand.answered hand.refused
  pub total : hand.answered + hand.refused ≡ length commands

-- the command behind the first so many was carried out, or not
pub record IsNextStep (tells : Bool) (commands : List Command) (number : ℕ) (result : Result Unit StepFault)
    (hand more : Generator) (v w : Device) : Type 0 where
  pub command : Command
  pub next : IsNext commands number command
  pub stepped : Stepped tells command result more.reply hand.engine more.engine v w
  pub tally : OnOk result ((rs : List (List ℕ)) → IsTally rs hand.before hand.reply hand.answered hand.refused
      → IsTally (rs ++ more.reply ∷ []) more.before more.reply more.answered more.refused)
  pub total : OnOk result (more.answered + more.refused ≡ hand.answered + hand.refused + 1)

-- want of memory
abbrev pub IsMemory : StepFault → Type 0
IsMemory Disk = ⊥
IsMemory (Memory error) = Unit {0}
IsMemory (Closed faults) = ⊥

-- there was no memory to make it, and nothing was done
pub record IsUnmade (tells : Bool) (fault : StepFault) (v w : Device) : Type 0 where
  pub memory : IsMemory fault
  pub reads : OnlyReads tells v w
  pub no_fault : w.faults ≡ v.faults

-- An image and the bytes said by then: the image means the state after the first commands, however many, and what was
-- said is a front of the summary of all replies; once a byte was said, these are all commands.
pub record IsWithin (state : State) (commands : List Command) (before image said : List ℕ) : Type 0 where
  pub count : ℕ
  pub within : count ≤ length commands
  pub means : MeansCatalogue image (committed (after state (take count commands)))
  pub part : Saying before (summary (replies state commands)) said
  pub all : (said ≡ before) ⊎ (count ≡ length commands)

-- What is said of commands that are carried out from a state on, and what they leave.
pub record SaysSummary (state : State) (commands : List Command) (status : ℕ) (v w : Device) : Type 0 where
  -- at each status what was said is a front of the summary of all replies, and at 0 the whole
  pub part : Saying v.said (summary (replies state commands)) w.said
  pub said : status ≡ 0 → w.said ≡ v.said ++ summary (replies state commands)
  -- at 0, and where saying failed, the volume means the catalogue after all commands
  pub means : (status ≡ 0) ⊎ (status ≡ 4) → MeansCatalogue w.held (committed (after state commands))

-- the same over an engine that stood at this state, and what a stop leaves
pub record GeneratedOn (state : State) (commands : List Command) (status : ℕ) (v w : Device) : Type 0 where
  pub says : SaysSummary state commands status v w
  pub moments : LeavesOnly v w (IsWithin state commands v.said)

-- What commands do over an engine.
pub record OpenedGen (tells : Bool) (commands : List Command) (e : Kept) (status : ℕ) (v w : Device) : Type 0 where
  pub on : IsTrue tells → (state : State) → IsAt tells e state v → GeneratedOn state commands status v w
  pub settled : status ≡ 0 → NothingIsPending w
  pub output : status ≡ 4 → Rose v.say_faults w.say_faults
  pub disk : status ≡ 5 → Rose v.faults w.faults
  pub no_fault : status ≢ 5 → w.faults ≡ v.faults
  pub no_say_fault : status ≢ 4 → w.say_faults ≡ v.say_faults
  pub quiet : (status ≡ 0) ⊎ ((status ≡ 4) ⊎ (w.said ≡ v.said))
  pub size : w.size ≡ v.size
  pub faults : v.faults ≤ w.faults
  pub say_faults : v.say_faults ≤ w.say_faults
  pub syncs : IsTrue tells → v.syncs ≤ w.syncs
  pub statuses : (status ≡ 0) ⊎ ((status ≡ 4) ⊎ ((status ≡ 5) ⊎ (status ≡ 7)))

-- What `gen` does with these commands over a volume that means this catalogue at the entry.
pub record GeneratedFrom (commands : List Command) (cat : Catalogue) (status : ℕ) (v w : Device) : Type 0 where
  pub says : SaysSummary (resting cat) commands status v w
  -- From the end of the first sync on each moment means the catalogue after the first commands, and after all once a
  -- byte was said; before it, and in the whole call where no sync answered Ok, each is an image of the entry with
  -- nothing said.
  pub moments : FirstSync v w (IsWithin (resting cat) commands v.said)
  -- where nothing was pending at the entry, each moment of the call means it so
  pub at_rest : NothingIsPending v → (image said : List ℕ) → w.since v.clock image said
      → IsWithin (resting cat) commands v.said image said
  -- unless a call fails all is done, or there is no memory for it
  pub complete : ¬ Rose v.faults w.faults → ¬ Rose v.say_faults w.say_faults → (status ≡ 0) ⊎ (status ≡ 7)

-- What `gen` does.
pub record GenRan (tells : Bool) (count seed status : ℕ) (v w : Device) : Type 0 where
  pub store : OpensStore tells status v w
  pub from : IsTrue tells → (cat : Catalogue) → MeansCatalogue v.held cat
      → GeneratedFrom (generated count seed) cat status v w
  -- at 0 nothing is pending
  pub settled : status ≡ 0 → NothingIsPending w
  -- a piece could not be said at 4, and at no other status
  pub output : status ≡ 4 → Rose v.say_faults w.say_faults
  pub no_say_fault : status ≢ 4 → w.say_faults ≡ v.say_faults
  -- but for 0 and 4 nothing was said
  pub quiet : (status ≡ 0) ⊎ ((status ≡ 4) ⊎ (w.said ≡ v.said))
  pub say_faults : v.say_faults ≤ w.say_faults
  pub statuses : (status ≡ 0) ⊎ ((status ≡ 4) ⊎ ((status ≡ 5) ⊎ ((status ≡ 6) ⊎ (status ≡ 7))))
