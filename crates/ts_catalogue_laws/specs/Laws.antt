-- What the laws of catalogues say.
use Rattle.std.specs.Prelude.{ℕ, ◌≤◌, List, IfSome}
use Rattle.ts_page.specs.Pages.{most_element_pages}
use Rattle.ts_command.specs.Grammar.{Request}
use Rattle.ts_model.specs.Catalogue.{Catalogue, empty_catalogue}
use Rattle.ts_model.specs.Definitions.{IsFormat}
use Rattle.ts_layout.specs.Meaning.{Means}
use Rattle.ts_volume.specs.Volume.{MeansCatalogue}
use Rattle.ts_answer.specs.Answer.{answer, State, run_answer}
use Rattle.ts_catalogue_laws.specs.Catalogue.{IsCatalogue}
use Rattle.ts_catalogue_laws.specs.Commands.{IsFormed}

-- what bytes mean, and what pages mean, is a catalogue
pub record VolumesMeanCatalogues : Type 0 where
  pub bytes : (bytes : List ℕ) (cat : Catalogue) → MeansCatalogue bytes cat → IsCatalogue cat
  pub pages : (count : ℕ) (pages : ℕ → List ℕ) (cat : Catalogue) → Means count pages cat → IsCatalogue cat

-- a store that holds nothing is one
abbrev pub EmptyStoresAreCatalogues : Type 0
EmptyStoresAreCatalogues = (format pages : ℕ) → IsFormat format → 1 ≤ pages → pages ≤ most_element_pages
    → IsCatalogue (empty_catalogue format pages)

-- whatever is asked of a catalogue, what stands behind the reply is one
abbrev pub AnswersKeepCatalogues : Type 0
AnswersKeepCatalogues = (cat : Catalogue) (request : Request) → IsCatalogue cat → IsFormed request
    → IsCatalogue (answer cat request).1

-- what a run is at has catalogues: the one that its volume means, and the one of a transaction
pub record HasCatalogues (state : State) : Type 0 where
  pub base : IsCatalogue state.base
  pub work : IfSome state.transaction (λ t. IsCatalogue t.work)

-- so it is behind each request of a run
abbrev pub RunsKeepCatalogues : Type 0
RunsKeepCatalogues = (state : State) (request : Request) → HasCatalogues state → IsFormed request
    → HasCatalogues (run_answer state request).1
