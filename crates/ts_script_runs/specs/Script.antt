-- What a run of a script has done.
use Rattle.std.specs.Prelude.{ℕ, ◌+◌, ◌≤◌, Bool, false, IsTrue, if◌then◌else◌, List, [], ◌++◌, ◌∷◌, map, Option, Err}
use Rattle.std.specs.Prelude.{◌≡◌, ◌⊎◌, length, take, ◌≢◌}
use Rattle.ts_disk.specs.Device.{Device, Within, Rose, LeavesOnly, Input}
use Rattle.ts_base.specs.declared.refusal.Refusal.TheVariants as refusals
use Rattle.ts_model.specs.Catalogue.{Catalogue}
use Rattle.ts_volume.specs.Volume.{MeansCatalogue}
use Rattle.ts_items.specs.Items.{items_from, is_unended_at}
use Rattle.ts_command.specs.Grammar.{Request, requests, last_request, request_of}
use Rattle.ts_replies.specs.Acknowledged.{Protocol, IsGoodMoment}
use Rattle.ts_replies.specs.Said.{SaysFairly, AllDone}
use Rattle.ts_answer.specs.Answer.{State, resting, committed, run_answer, stand_in}
use Rattle.ts_carriers.specs.Run.{Carrier}
use Rattle.ts_opening.specs.Engine.{Kept, IsReady, IsAt}
use Rattle.ts_opening.specs.Opening.{OpensStore, HasEnded, Took, TookTooMuch, TookEnough, RanFrom}

-- A run over an engine: what a script asks for, and how it is answered.

-- what the items ask for that end within these bytes, which come at this place of a script
abbrev pub requests_from : Option (List ℕ) → List ℕ → List Request
requests_from place bytes = map request_of (items_from place bytes)

-- what a script asks for besides that ends at this place
abbrev pub requests_at_end : Option (List ℕ) → List Request
requests_at_end place = if is_unended_at place then Err refusals.Unended ∷ [] else []

-- How the requests of a script are answered from one state to the next. An image means the catalogue that is committed
-- there.
abbrev pub script : Protocol State Request
script = record {
  answer = run_answer;
  stand_in = stand_in;
  means =
      λ image state. MeansCatalogue image (committed state);
}

-- an engine stands at a state, whose base its volume means
abbrev pub by_engine : Bool → Carrier Kept State
by_engine tells =
    record { tells = tells; ready = IsReady tells; stands = λ e state d. IsAt tells e state d }

-- What carrying out the script of a source does.

-- what those items ask for that end within these bytes, and within the first 268435456 bytes of the script
abbrev pub asked_in : List ℕ → List Request
asked_in taken = requests (take 268435456 taken)

-- the same, and what the end of the script asks for, where it has ended
abbrev pub asked_of : Bool → List ℕ → List Request
asked_of ended taken = asked_in taken ++ (if ended then last_request taken else [])

-- the most bytes of a script
abbrev pub most_script : ℕ
most_script = 268435456

-- a script that was taken to its end ends so: every request is answered, or only the last reply may be missing
abbrev pub IsScriptEnd : List ℕ → ℕ → Type 0
IsScriptEnd taken status = (status ≡ 0) ⊎ (status ≡ 4)

-- Everything was taken up to the end of the source, which it has answered, and every request of the script is answered.
-- A transaction that is open behind them is given up.
pub record DoneToEnd (state : State) (v w : Device) (i j : Input) : Type 0 where
  pub ended : HasEnded j
  pub none_left : j.left ≡ []
  pub done : AllDone script state (requests i.left ++ last_request i.left) v w

-- every request is answered of those items that end within the bytes taken, up to the limit
pub record DoneSoFar (state : State) (v w : Device) (i j : Input) : Type 0 where
  pub taken : List ℕ
  pub cut : i.left ≡ taken ++ j.left
  pub done : AllDone script state (asked_in taken) v w

-- What was said over an engine that stood at this state, and what a stop left. `asked` tells the items of what was
-- taken.
pub record RanOn {C I : Type 0} (p : Protocol C I) (limit : ℕ) (IsEnd : List ℕ → ℕ → Type 0)
    (asked : Bool → List ℕ → List I) (state : C) (status : ℕ) (v w : Device) (i j : Input) : Type 0 where
  pub took : Took limit IsEnd status i j
  pub fair : SaysFairly p state (asked took.ended took.taken) v w
  pub moments : LeavesOnly v w (IsGoodMoment p state (asked took.ended took.taken) v.said)

-- What a script does over an engine.
pub record OpenedRan (tells told : Bool) (e : Kept) (status : ℕ) (v w : Device) (i j : Input) : Type 0 where
  pub fair : IsTrue tells → IsTrue told → (state : State) → IsAt tells e state v
      → RanOn script most_script IsScriptEnd asked_of state status v w i j
  pub all : status ≡ 0 → IsTrue tells → IsTrue told → (state : State) → IsAt tells e state v → DoneToEnd state v w i j
  pub so_far : (status ≡ 3) ⊎ (status ≡ 8) → IsTrue tells → IsTrue told → (state : State) → IsAt tells e state v
      → DoneSoFar state v w i j
  pub pull : status ≡ 3 → Rose i.pull_faults j.pull_faults
  pub output : status ≡ 4 → Rose v.say_faults w.say_faults
  pub disk : status ≡ 5 → Rose v.faults w.faults
  pub too_long : status ≡ 8 → IsTrue told → TookTooMuch most_script i j
  pub short : IsTrue told → (status ≡ 8) ⊎ TookEnough most_script i j
  pub statuses : (status ≡ 0) ⊎ ((status ≡ 3) ⊎ ((status ≡ 4) ⊎ ((status ≡ 5) ⊎ (status ≡ 8))))
  pub size : w.size ≡ v.size
  pub syncs : IsTrue tells → v.syncs ≤ w.syncs
  pub faults : v.faults ≤ w.faults
  pub say_faults : v.say_faults ≤ w.say_faults
  pub pull_faults : i.pull_faults ≤ j.pull_faults
  pub no_fault : status ≢ 5 → w.faults ≡ v.faults
  pub no_say_fault : status ≢ 4 → w.say_faults ≡ v.say_faults
  pub no_pull_fault : status ≢ 3 → j.pull_faults ≡ i.pull_faults
  pub pulls : IsTrue told → j.pulls + length j.left ≤ i.pulls + length i.left + 1
  pub pulls_most : j.pulls ≤ i.pulls + 268435457
  pub ended : status ≡ 0 → HasEnded j
  pub once : i.ended ≡ false → j.past_end ≡ i.past_end

-- What was said and what a stop leaves, over a volume that means this catalogue at the entry: with no transaction, the
-- run is there.
abbrev pub ScriptFrom : Catalogue → ℕ → Device → Device → Input → Input → Type 0
ScriptFrom cat status v w i j = RanFrom script most_script IsScriptEnd asked_of (λ taken. resting cat) status v w i j

-- What carrying out the script of a source does.
pub record ScriptRan (tells told : Bool) (status : ℕ) (v w : Device) (i j : Input) : Type 0 where
  pub store : OpensStore tells status v w
  -- what was said is replies to the script taken, and what a stop leaves agrees with them
  pub fair : IsTrue tells → IsTrue told → (cat : Catalogue) → MeansCatalogue v.held cat → ScriptFrom cat status v w i j
  -- at 0 the script is read to its end and every request has its reply
  pub all : status ≡ 0 → IsTrue tells → IsTrue told → (cat : Catalogue) → MeansCatalogue v.held cat
      → DoneToEnd (resting cat) v w i j
  -- at 3 and 8 every item has its reply that ends within the bytes taken, up to the limit
  pub so_far : (status ≡ 3) ⊎ (status ≡ 8) → IsTrue tells → IsTrue told → (cat : Catalogue) → MeansCatalogue v.held cat
      → DoneSoFar (resting cat) v w i j
  pub pull : status ≡ 3 → Rose i.pull_faults j.pull_faults
  pub output : status ≡ 4 → Rose v.say_faults w.say_faults
  -- 8 comes exactly where a pull gave bytes past the first 268435456
  pub too_long : status ≡ 8 → IsTrue told → TookTooMuch most_script i j
  pub short : IsTrue told → (status ≡ 8) ⊎ TookEnough most_script i j
  -- at 6 and 7 nothing was said or written, and the script wasn't pulled
  pub quiet : (status ≡ 6) ⊎ (status ≡ 7) → w.said ≡ v.said
  pub unwritten : status ≡ 7 → (w.held ≡ v.held) × Within v.images w.images
  pub unread : (status ≡ 6) ⊎ (status ≡ 7) → j ≡ i
  pub statuses : (status ≡ 0)
      ⊎ ((status ≡ 3) ⊎ ((status ≡ 4) ⊎ ((status ≡ 5) ⊎ ((status ≡ 6) ⊎ ((status ≡ 7) ⊎ (status ≡ 8))))))
  -- no fault is forgotten
  pub say_faults : v.say_faults ≤ w.say_faults
  pub pull_faults : i.pull_faults ≤ j.pull_faults
  -- no count rises but the one that the status names
  pub no_say_fault : status ≢ 4 → w.say_faults ≡ v.say_faults
  pub no_pull_fault : status ≢ 3 → j.pull_faults ≡ i.pull_faults
  -- as many pulls at most as bytes were taken, and one more; of a source that tells nothing as many as the limit has,
  -- and one more
  pub pulls : IsTrue told → j.pulls + length j.left ≤ i.pulls + length i.left + 1
  pub pulls_most : j.pulls ≤ i.pulls + 268435457
  -- each source, told or not, has answered its end at 0, and of none is more asked once it did so in this run
  pub ended : status ≡ 0 → HasEnded j
  pub once : i.ended ≡ false → j.past_end ≡ i.past_end
  -- a volume that means a catalogue and a source that ends within the limit: unless a count rose, the script is carried
  -- out whole, or there was no memory to open the volume
  pub complete : IsTrue tells → IsTrue told → (cat : Catalogue) → MeansCatalogue v.held cat → length i.left ≤ 268435456
      → ¬ Rose v.faults w.faults → ¬ Rose v.say_faults w.say_faults → ¬ Rose i.pull_faults j.pull_faults → (status ≡ 0)
      ⊎ (status ≡ 7)
