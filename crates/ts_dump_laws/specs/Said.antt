-- The texts of the statements of a catalogue as scripts, and what holds of them.
pub use Rattle.ts_dump_texts.specs.OfCatalogue.{text_made_as, texts_of_definitions, texts_of_hiding, texts_of_element}
pub use Rattle.ts_dump_texts.specs.OfCatalogue.{texts_of_series, texts_of}
use Rattle.std.specs.Prelude.{◌≡◌, ℕ, zero, suc, Ok, Some, List, [], ◌∷◌, map, codes}
use Rattle.std.specs.FinMap.{get}
use Rattle.ts_command.specs.declared.command.Command.{Command}
use Rattle.ts_command.specs.Grammar.{requests, last_request}
use Rattle.ts_catalogue_laws.specs.Catalogue.{IsCatalogue}
use Rattle.ts_volume.specs.Volume.{MeansCatalogue}
use Rattle.ts_model.specs.Catalogue.{Series, Catalogue, newest_format, empty_catalogue, in_newest_format}
use Rattle.ts_dump_texts.specs.Script.{script_of}
use Rattle.ts_dump_laws.specs.Statements.{without_elements}
use Rattle.ts_dump_laws.specs.CarriedOut.{Make}
use Rattle.ts_dump_laws.specs.Alone.{alone}

-- Texts in transactions of 32: those that are left, where so many more have a place in the one that is open.
abbrev pub texts_in_groups : ℕ → List (List ℕ) → List (List ℕ)
texts_in_groups room [] = codes "Commit;" ∷ []
texts_in_groups zero (text ∷ more) = codes "Commit;" ∷ codes "Begin;" ∷ text ∷ texts_in_groups 31 more
texts_in_groups (suc room) (text ∷ more) = text ∷ texts_in_groups room more

-- texts in transactions of 32; none where there are no texts
abbrev pub texts_in_transactions : List (List ℕ) → List (List ℕ)
texts_in_transactions [] = []
texts_in_transactions (text ∷ more) = codes "Begin;" ∷ text ∷ texts_in_groups 31 more

-- A script asks for these commands and for nothing more.
pub record AsksFor (script : List ℕ) (commands : List Command) : Type 0 where
  pub asked : requests script ≡ map Ok commands
  pub whole : last_request script ≡ []

-- A script makes a catalogue of an empty one with as many element pages: what it asks for are commands, which are
-- answered, each by `ok`, and leave it.
pub record Makes (script : List ℕ) (pages : ℕ) (cat : Catalogue) : Type 0 where
  pub commands : List Command
  pub asks : AsksFor script commands
  pub makes : Make commands (empty_catalogue newest_format pages) cat

-- The script of the texts of a catalogue makes it, in the newest format, also in transactions of 32; and the script of
-- its definitions makes it without elements.
pub record IsMadeByScripts (cat : Catalogue) : Type 0 where
  pub all : Makes (script_of (texts_of cat)) cat.pages (in_newest_format cat)
  pub in_transactions : Makes (script_of (texts_in_transactions (texts_of cat))) cat.pages (in_newest_format cat)
  pub definitions : Makes (script_of (texts_of_definitions cat)) cat.pages (in_newest_format (without_elements cat))
  pub definitions_in_transactions : Makes (script_of (texts_in_transactions (texts_of_definitions cat))) cat.pages
      (in_newest_format (without_elements cat))

-- so is each catalogue
abbrev pub ScriptsMakeCatalogues : Type 0
ScriptsMakeCatalogues = (cat : Catalogue) → IsCatalogue cat → IsMadeByScripts cat

-- and whatever the bytes of a volume mean
abbrev pub ScriptsMakeVolumes : Type 0
ScriptsMakeVolumes = (bytes : List ℕ) (cat : Catalogue) → MeansCatalogue bytes cat → IsMadeByScripts cat

-- and each series of what the bytes of a volume mean, with what it stands on alone
abbrev pub ScriptsMakeSeries : Type 0
ScriptsMakeSeries = (bytes : List ℕ) (cat : Catalogue) (key : List ℕ) (s : Series) → MeansCatalogue bytes cat
    → get cat.series key ≡ Some s
    → IsMadeByScripts (alone key s cat)
