-- What bytes mean by the layout that their pages hold.
pub use Rattle.ts_volume.proofs.BadPageLemmas.{nothing_meant}
use Rattle.std.proofs.Common.{◌≡◌, ℕ, ◌+◌, List, Some, None, length, refl, ap, sym, ◌∙◌, subst}
use Rattle.ts_page.specs.Pages.{SameButFreed, first_element_page}
use Rattle.ts_journal.specs.Journal.{IsVolumeSize, page_count, pages, records}
use Rattle.ts_model.specs.Catalogue.{Catalogue}
use Rattle.ts_layout.specs.Meaning.{Layout, HoldsLayout, IsSound, IsLaidOut, catalogue_of}
use Rattle.ts_layout.proofs.CallerLemmas.{layout_stays, same_catalogue}
use Rattle.ts_volume.specs.Volume.{MeansCatalogue, MeansNothing}
use Rattle.ts_volume.specs.Laws.{HasWholeRecords, BytesMeanOneCatalogue, LayoutsAreMeant, SamePagesMeanTheSame, NoVolumeMeansNothing}

-- what pages hold they hold still, but for a journal and the bytes of freed pages
pub holds_still : (wanted pages : ℕ → List ℕ) (l : Layout) → SameButFreed wanted pages → HoldsLayout wanted l → HoldsLayout pages l
holds_still wanted pages l same holds = layout_stays wanted pages l (λ k outside. same k) holds

-- bytes whose pages are those that hold a layout mean its catalogue
pub means_layout : (size : ℕ) (wanted : ℕ → List ℕ) (image : List ℕ) (l : Layout) → IsVolumeSize size → length image ≡ size → HasWholeRecords image
    → SameButFreed wanted (pages image) → page_count size ≡ first_element_page + length l.element_pages → HoldsLayout wanted l → IsSound l → MeansCatalogue image (catalogue_of l)
means_layout size wanted image l volume same sound alike count holds rules = record {
  size = subst IsVolumeSize (sym same) volume;
  sound = sound;
  pages = (l, record { size = ap page_count same ∙ count; bytes = holds_still wanted (pages image) l alike holds; rules = rules }, refl);
}

pub layout_meant : LayoutsAreMeant
layout_meant bytes wanted l volume sound alike laid =
    means_layout (length bytes) wanted bytes l volume refl sound alike laid.size laid.bytes laid.rules

-- bytes with the same pages mean the same
pub same_means : SamePagesMeanTheSame
same_means held image cat size sound alike means =
    let laid = means.pages.1 in
    subst (MeansCatalogue image) (sym means.pages.2)
    (means_layout (length held) (pages held) image means.pages.0 means.size size sound alike laid.size laid.bytes laid.rules)

-- and there is no other catalogue that they mean
pub one_catalogue : BytesMeanOneCatalogue
one_catalogue bytes a b first second = same_catalogue (page_count (length bytes)) (pages bytes) a b first.pages second.pages

pub none_meant : NoVolumeMeansNothing
none_meant = record {
  size = λ bytes no cat means. no means.size;
  malformed = λ bytes none cat means. absurd (cc (sym means.sound.1 ∙ none));
}
