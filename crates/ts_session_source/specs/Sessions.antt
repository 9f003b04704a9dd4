-- What `sessions` does: it takes the whole text of a source, and carries its sections out as the scripts of sessions, in
-- the order that a seed decides.
use Rattle.std.specs.Prelude.{◌≡◌, ◌≢◌, ◌⊎◌, ℕ, ◌+◌, ◌<◌, ◌≤◌, ◌&&◌, nat_le, if◌then◌else◌, Bool, false, IsTrue, List}
use Rattle.std.specs.Prelude.{[], length, map}
use Rattle.ts_disk.specs.Device.{Device, Rose, FirstSync, Input}
use Rattle.ts_model.specs.Catalogue.{Catalogue}
use Rattle.ts_multi.specs.Sections.{sections}
use Rattle.ts_multi.specs.Picks.{picks_of}
use Rattle.ts_multi.specs.Schedule.{total}
use Rattle.ts_sessions.specs.Machine.{Machine, start}
use Rattle.ts_sessions.specs.Steps.{Turn}
use Rattle.ts_sessions.specs.Turns.{requests_of, turns}
use Rattle.ts_volume.specs.Volume.{MeansCatalogue}
use Rattle.ts_opening.specs.Engine.{StillMeans}
use Rattle.ts_replies.specs.Said.{AllDone}
use Rattle.ts_opening.specs.Opening.{OpensStore, HasEnded, TookTooMuch, TookEnough, RanFrom}
use Rattle.ts_session_runs.specs.Carrier.{sessions as protocol}
use Rattle.ts_session_source.specs.Text.{most_text}

-- what the sections of a text ask for, in the order that the picks of a seed decide
abbrev pub turns_of : ℕ → List ℕ → List Turn
turns_of seed text = turns (sections text) (picks_of seed (length text))

-- the same, where the source ended and there are at most 16 sections
abbrev pub asked_of : ℕ → Bool → List ℕ → List Turn
asked_of seed ended taken = if ended && nat_le (length (sections taken)) 16 then turns_of seed taken else []

-- before the first turn: no commits over a catalogue, and a session for each section
abbrev pub begun : Catalogue → List ℕ → Machine
begun cat taken = start (length (sections taken)) cat

-- A source that was taken to its end ends so: with at most 16 sections in their run, or for want of memory before it;
-- with more by a status of its own.
abbrev pub IsTextEnd : List ℕ → ℕ → Type 0
IsTextEnd taken status = (status ≡ 7)
    ⊎ (((length (sections taken) ≤ 16) × ((status ≡ 0) ⊎ ((status ≡ 4) ⊎ (status ≡ 5))))
    ⊎ ((16 < length (sections taken)) × (status ≡ 9)))

-- What was said and what a stop leaves, over a volume that means this catalogue at the entry.
abbrev pub SessionsFrom : ℕ → Catalogue → ℕ → Device → Device → Input → Input → Type 0
SessionsFrom seed cat status v w i j = RanFrom protocol most_text IsTextEnd (asked_of seed) (begun cat) status v w i j

-- Everything was taken up to the end of the source, which it has answered, each item of its sections has its turn, and
-- every turn is answered. A transaction that is open behind them is given up.
pub record SessionsDone (seed : ℕ) (cat : Catalogue) (v w : Device) (i j : Input) : Type 0 where
  pub ended : HasEnded j
  pub none_left : j.left ≡ []
  pub few : length (sections i.left) ≤ 16
  pub each : length (turns_of seed i.left) ≡ total (map requests_of (sections i.left))
  pub done : AllDone protocol (begun cat i.left) (turns_of seed i.left) v w

-- the source was taken to its end, within the limit, and has more than 16 sections
pub record EndsWithMany (i j : Input) : Type 0 where
  pub ended : HasEnded j
  pub none_left : j.left ≡ []
  pub short : length i.left ≤ most_text
  pub many : 16 < length (sections i.left)

-- nothing was carried out
abbrev pub IsUnbegun : ℕ → Type 0
IsUnbegun status = (status ≡ 3) ⊎ ((status ≡ 7) ⊎ ((status ≡ 8) ⊎ (status ≡ 9)))

-- What a status shows of the source.
pub record ShowsSource (told : Bool) (status : ℕ) (i j : Input) : Type 0 where
  -- a pull failed at 3, and at no other status
  pub pull : status ≡ 3 → Rose i.pull_faults j.pull_faults
  pub no_pull_fault : status ≢ 3 → j.pull_faults ≡ i.pull_faults
  pub pull_faults : i.pull_faults ≤ j.pull_faults
  -- 8 comes exactly where a pull gave bytes past the first 1048576
  pub too_long : status ≡ 8 → IsTrue told → TookTooMuch most_text i j
  pub short : IsTrue told → (status ≡ 8) ⊎ TookEnough most_text i j
  -- 9 comes exactly where the source ended within these and has more than 16 sections, but for a fault, a volume that is
  -- no store or want of memory that came first
  pub too_many : status ≡ 9 → IsTrue told → EndsWithMany i j
  pub many : IsTrue told → length i.left ≤ most_text → 16 < length (sections i.left)
      → (status ≡ 3) ⊎ ((status ≡ 5) ⊎ ((status ≡ 6) ⊎ ((status ≡ 7) ⊎ (status ≡ 9))))
  -- as many pulls at most as bytes were taken, and one more; of a source that tells nothing as many as the limit has,
  -- and one more
  pub pulls : IsTrue told → j.pulls + length j.left ≤ i.pulls + length i.left + 1
  pub pulls_most : j.pulls ≤ i.pulls + 1048577
  -- each source, told or not, has answered its end at 0 and 9, and of none is more asked once it did so in this run
  pub ended : (status ≡ 0) ⊎ (status ≡ 9) → HasEnded j
  pub once : i.ended ≡ false → j.past_end ≡ i.past_end

-- What `sessions` does.
pub record SessionsRan (tells told : Bool) (seed status : ℕ) (v w : Device) (i j : Input) : Type 0 where
  pub store : OpensStore tells status v w
  pub source : ShowsSource told status i j
  -- what was said is replies to the turns, and what a stop leaves agrees with them
  pub fair : IsTrue tells → IsTrue told → (cat : Catalogue) → MeansCatalogue v.held cat
      → SessionsFrom seed cat status v w i j
  -- at 0 the source is read to its end, and every item of every session has its reply
  pub all : status ≡ 0 → IsTrue tells → IsTrue told → (cat : Catalogue) → MeansCatalogue v.held cat
      → SessionsDone seed cat v w i j
  -- at 3, 7, 8 and 9 each image from the end of the first sync on means the catalogue of the entry
  pub kept : IsUnbegun status → IsTrue tells → (cat : Catalogue) → MeansCatalogue v.held cat
      → FirstSync v w (StillMeans cat v)
  -- but for 0, 4 and 5 nothing was said; at 6 the source wasn't pulled
  pub quiet : (status ≡ 6) ⊎ IsUnbegun status → w.said ≡ v.said
  pub unread : status ≡ 6 → j ≡ i
  pub statuses : (status ≡ 0) ⊎ ((status ≡ 4) ⊎ ((status ≡ 5) ⊎ ((status ≡ 6) ⊎ IsUnbegun status)))
  -- a reply could not be said whole at 4, and at no other status
  pub output : status ≡ 4 → Rose v.say_faults w.say_faults
  pub no_say_fault : status ≢ 4 → w.say_faults ≡ v.say_faults
  pub say_faults : v.say_faults ≤ w.say_faults
  -- a volume that means a catalogue, and a source that ends within the limit and has at most 16 sections: unless a count
  -- rose, all is carried out, or there was no memory for it
  pub complete : IsTrue tells → IsTrue told → (cat : Catalogue) → MeansCatalogue v.held cat → length i.left ≤ most_text
      → length (sections i.left) ≤ 16 → ¬ Rose v.faults w.faults → ¬ Rose v.say_faults w.say_faults
      → ¬ Rose i.pull_faults j.pull_faults → (status ≡ 0) ⊎ (status ≡ 7)
