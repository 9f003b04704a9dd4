-- When each answer of a recovery comes, and what a settling leaves in memory.
use Rattle.std.specs.Prelude.{◌≡◌, ◌⊎◌, ℕ, ◌+◌, ◌≤◌, Bool, IsTrue, Result, Ok, Err, None, List, [], length}
use Rattle.ts_disk.specs.Device.{Device, Rose}
use Rattle.ts_journal.specs.Journal.{Entries, IsVolumeSize, records, IsMalformed}
use Rattle.ts_recover.specs.declared.replay.RecoverFault.{RecoverFault}
use Rattle.ts_recover.specs.declared.replay.RecoverFault.TheVariants.{Failed, NotAStore, Memory}

-- Page 0 is bad where the length is none of a volume, and else page 1 where a record of the journal is malformed. The
-- disk failed only where its count rose; want of memory is free.
abbrev pub RecoverCause : {T : Type 0} → Bool → Result T RecoverFault → Device → Device → Type 0
RecoverCause tells (Ok replayed) v w = Unit {0}
RecoverCause tells (Err Failed) v w = Rose v.faults w.faults
RecoverCause tells (Err (NotAStore page)) v w =
    ((page ≡ 0) × (IsVolumeSize v.size → ⊥))
    ⊎ ((page ≡ 1) × IsVolumeSize v.size × (IsTrue tells → records v.held ≡ None))
RecoverCause tells (Err (Memory e)) v w = Unit {0}

-- Where page 1 is bad, a record of the journal that is reached through open gates is malformed; and nowhere else.
abbrev pub PageOneCause : {T : Type 0} → Result T RecoverFault → List ℕ → Type 0
PageOneCause (Ok replayed) held = ¬ IsMalformed held
PageOneCause (Err Failed) held = Unit {0}
PageOneCause (Err (NotAStore page)) held = page ≡ 1 → IsMalformed held
PageOneCause (Err (Memory e)) held = Unit {0}

-- the same for what only reads on: it finds no page bad by itself
abbrev pub ReadCause : {T : Type 0} → Result T RecoverFault → Device → Device → Type 0
ReadCause (Ok done) v w = Unit {0}
ReadCause (Err Failed) v w = Rose v.faults w.faults
ReadCause (Err (NotAStore page)) v w = ⊥
ReadCause (Err (Memory e)) v w = Unit {0}

-- the next record goes to the front, no page has an overlay, and the memory of the overlay's entries is free for others
pub record IsEmptied (old new : Entries) (position : ℕ) : Type 0 where
  pub emptied : position ≡ 0
  pub overlay : new.entries ≡ []
  pub spare : old.spare + length old.entries ≤ new.spare
  pub image_spare : old.image_spare ≤ new.image_spare
