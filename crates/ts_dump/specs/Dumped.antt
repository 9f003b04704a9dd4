-- What a dump of a volume does: it says a script that makes what is wished of what the volume means, or a front of it,
-- and changes nothing.
use Rattle.std.specs.Prelude.{◌≡◌, ◌≢◌, ◌⊎◌, ℕ, Bool, true, false, IsTrue, Option, Some, None, unwrap_or, List, []}
use Rattle.std.specs.Prelude.{◌++◌}
use Rattle.std.specs.Option.{option_map}
use Rattle.std.specs.FinMap.{get}
use Rattle.ts_disk.specs.Device.{Device, Rose, Saying}
use Rattle.ts_volume.specs.Volume.{MeansCatalogue, MeansNothing}
use Rattle.ts_volume.specs.FirstBad.{IsFirstBadOf}
use Rattle.ts_model.specs.Catalogue.{Catalogue, in_newest_format}
use Rattle.ts_dump_texts.specs.Script.{script_of}
use Rattle.ts_dump_texts.specs.OfCatalogue.{texts_of}
use Rattle.ts_dump_laws.specs.Statements.{without_elements}
use Rattle.ts_dump_laws.specs.Alone.{alone}
use Rattle.ts_dump_laws.specs.Said.{Makes, texts_in_transactions}
use Rattle.ts_dump.specs.declared.wish.Wish.{Wish}
use Rattle.ts_dump.specs.declared.wish.Part.{Part}
use Rattle.ts_dump.specs.declared.wish.Part.TheVariants.{All, DefinitionsAlone, Series}
use Rattle.ts_dump.specs.declared.ended.Ended.{Ended}
use Rattle.ts_dump.specs.declared.ended.Ended.TheVariants.{Whole, NoSeries, Bad, OutputFailed, VolumeFailed, NoMemory}
use Rattle.ts_dump.specs.Saying.{Stays}

-- what is wished of a catalogue: all of it, the same without elements, or a series with what it stands on alone; none
-- where no series has the key
abbrev pub wished : Part → Catalogue → Option Catalogue
wished All cat = Some cat
wished DefinitionsAlone cat = Some (without_elements cat)
wished (Series key) cat = option_map (λ s. alone key.now s cat) (get cat.series key.now)

-- texts, each by itself, or in transactions of 32
abbrev pub grouped : Bool → List (List ℕ) → List (List ℕ)
grouped false texts = texts
grouped true texts = texts_in_transactions texts

-- the script of a catalogue: the texts of its statements, one a line
abbrev pub script_for : Bool → Catalogue → List ℕ
script_for in_transactions cat = script_of (grouped in_transactions (texts_of cat))

-- the script of what is wished of a catalogue; nothing where it isn't there
abbrev pub script_wished : Wish → Catalogue → List ℕ
script_wished wish cat = unwrap_or (option_map (script_for wish.in_transactions) (wished wish.part cat)) []

-- The script of what is wished of what the volume means was said. Carried out on an empty catalogue with as many pages,
-- it makes that, in the newest format.
pub record SaidScript (wish : Wish) (v w : Device) : Type 0 where
  pub cat : Catalogue
  pub means : MeansCatalogue v.held cat
  pub made : Catalogue
  pub is_wished : wished wish.part cat ≡ Some made
  pub said : w.said ≡ v.said ++ script_for wish.in_transactions made
  pub makes : Makes (script_for wish.in_transactions made) cat.pages (in_newest_format made)

-- a front of that script was said
abbrev pub SaidFront : Wish → Device → Device → Type 0
SaidFront wish v w = (cat : Catalogue) → MeansCatalogue v.held cat → Saying v.said (script_wished wish cat) w.said

-- what the volume means has nothing of what is wished
pub record IsMissing (part : Part) (v : Device) : Type 0 where
  pub cat : Catalogue
  pub means : MeansCatalogue v.held cat
  pub none : wished part cat ≡ None

-- a series is wished
abbrev pub IsOfSeries : Part → Type 0
IsOfSeries All = ⊥
IsOfSeries DefinitionsAlone = ⊥
IsOfSeries (Series key) = Unit {0}

-- it was cut off
abbrev pub IsCut : Ended → Type 0
IsCut ended = (ended ≡ OutputFailed) ⊎ ((ended ≡ VolumeFailed) ⊎ (ended ≡ NoMemory))

-- what a dump does
pub record DumpRan (tells : Bool) (wish : Wish) (ended : Ended) (v w : Device) : Type 0 where
  pub whole : ended ≡ Whole → IsTrue tells → SaidScript wish v w
  -- a volume is called bad exactly where it means no catalogue, but for a fault or want of memory that came first, and
  -- with its first bad page; nothing was said then
  pub bad : (page : ℕ) → ended ≡ Bad page → IsTrue tells → IsFirstBadOf v.held page
  pub no_store : (page : ℕ) → ended ≡ Bad page → IsTrue tells → MeansNothing v.held
  pub quiet : (page : ℕ) → ended ≡ Bad page → w.said ≡ v.said
  pub not_a_store : IsTrue tells → MeansNothing v.held → (ended ≢ Whole) × (ended ≢ OutputFailed)
  pub unsaid : IsTrue tells → MeansNothing v.held → w.said ≡ v.said
  -- a series is called missing exactly where it is, but for a fault or want of memory that came first; nothing was said
  -- then
  pub missing : ended ≡ NoSeries → IsTrue tells → IsMissing wish.part v
  pub of_series : ended ≡ NoSeries → IsOfSeries wish.part
  pub mute : ended ≡ NoSeries → w.said ≡ v.said
  pub not_there : IsTrue tells → IsMissing wish.part v → (ended ≢ Whole) × (ended ≢ OutputFailed)
  pub none_said : IsTrue tells → IsMissing wish.part v → w.said ≡ v.said
  -- where it was cut off, a front of the script was said
  pub front : IsCut ended → IsTrue tells → SaidFront wish v w
  -- however it ends, the bytes held stay, and so does all that a stop may leave
  pub stays : Stays v w
  -- the output failed, or a call of the volume, exactly where its count rose
  pub output : ended ≡ OutputFailed → Rose v.say_faults w.say_faults
  pub disk : ended ≡ VolumeFailed → Rose v.faults w.faults
  pub no_say_fault : ended ≢ OutputFailed → w.say_faults ≡ v.say_faults
  pub no_fault : ended ≢ VolumeFailed → w.faults ≡ v.faults
  -- unless a call fails, the script is said whole, or the volume is called bad, or the series missing, or there was no
  -- memory
  pub complete : ¬ Rose v.faults w.faults → ¬ Rose v.say_faults w.say_faults → (ended ≡ Whole)
      ⊎ (((page : ℕ) × (ended ≡ Bad page)) ⊎ ((ended ≡ NoSeries) ⊎ (ended ≡ NoMemory)))
