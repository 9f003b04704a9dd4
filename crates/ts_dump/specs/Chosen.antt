-- What is said of a volume that was read, by slots.
use Rattle.std.specs.Prelude.{ℕ, ◌<◌, Option, Some, List, [], ◌++◌}
use Rattle.std.specs.Option.{option_map}
use Rattle.ts_model.specs.declared.kind.Kind.TheVariants as kinds
use Rattle.ts_model.specs.Definitions.{Definitions, series_slots, slot_of, slots}
use Rattle.ts_layout.specs.Meaning.{Layout}
use Rattle.ts_dump.specs.declared.wish.Part.{Part}
use Rattle.ts_dump.specs.declared.wish.Part.TheVariants as parts
use Rattle.ts_dump.specs.declared.choice.Choice.{Choice}
use Rattle.ts_dump.specs.declared.choice.Choice.TheVariants.{All, DefinitionsAlone, Series}
use Rattle.ts_dump.specs.Listed.{definition_texts, texts_under}
use Rattle.ts_dump.specs.Elements.{all_series_texts, series_texts}

-- what is wished, where the series is in its slot; none where no slot has the key
abbrev pub chosen : Definitions → Part → Option Choice
chosen d parts.All = Some All
chosen d parts.DefinitionsAlone = Some DefinitionsAlone
chosen d (parts.Series key) = option_map (λ slot. Series slot) (slot_of key.now (slots kinds.Series d))

-- the slot is one of a series
abbrev pub IsWithin : Choice → Type 0
IsWithin All = Unit {0}
IsWithin DefinitionsAlone = Unit {0}
IsWithin (Series slot) = slot < series_slots

-- the texts of the definitions
abbrev pub texts_defined : Definitions → Choice → List (List ℕ)
texts_defined d All = definition_texts d
texts_defined d DefinitionsAlone = definition_texts d
texts_defined d (Series slot) = texts_under d slot

-- those of the elements
abbrev pub texts_within : Layout → Choice → List (List ℕ)
texts_within l All = all_series_texts l
texts_within l DefinitionsAlone = []
texts_within l (Series slot) = series_texts l slot

-- all of them
abbrev pub chosen_texts : Layout → Choice → List (List ℕ)
chosen_texts l choice = texts_defined l.definitions choice ++ texts_within l choice
