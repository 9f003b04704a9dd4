-- What a journal that is emptied leaves of what bytes mean.
use Rattle.std.proofs.Common.{◌≡◌, ℕ, List, length, sym, ◌∙◌}
use Rattle.ts_journal.specs.Journal.{Entry, AreAllowed, page_count, pages, ReadsButFreed}
use Rattle.ts_store.proofs.CallerLemmas.{same_but_freed}
use Rattle.ts_model.specs.Catalogue.{Catalogue}
use Rattle.ts_volume.specs.Volume.{MeansCatalogue}
use Rattle.ts_volume.proofs.CallerLemmas.{same_means}

-- the settling of a journal keeps what bytes mean
pub still_means : (size : ℕ) (held : List ℕ) (overlay : List Entry) (image : List ℕ) (cat : Catalogue) → length held ≡ size → AreAllowed (page_count size) overlay → ReadsButFreed size overlay (pages held) image
    → MeansCatalogue held cat → MeansCatalogue image cat
still_means size held overlay image cat same allowed reads means =
    same_means held image cat (reads.size ∙ sym same) reads.sound
    (same_but_freed (page_count size) size overlay (pages held) image allowed reads) means
