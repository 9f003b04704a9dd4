-- What leaves the catalogue of a view.
use Rattle.std.proofs.Common.{◌≡◌, ◌⊎◌, inl, inr, ℕ, Bool, IsTrue, Option, Some, None, List, [], reverse, refl, ap, sym, ◌∙◌, subst}
use Rattle.std.specs.Option.{IsSome}
use Rattle.ts_page.specs.declared.page.Page.{Page}
use Rattle.ts_page.specs.Pages.{Contents, EqualPages, SameButFreed}
use Rattle.ts_space.specs.Directory.{Directory}
use Rattle.ts_journal.specs.Journal.{Entry, change_of, over}
use Rattle.ts_model.specs.Definitions.{Definitions}
use Rattle.ts_model.specs.Catalogue.{Catalogue}
use Rattle.ts_layout.specs.Placed.{AreKept}
use Rattle.ts_layout.specs.Meaning.{Layout, HoldsLayout, Means}
use Rattle.ts_layout.specs.Held.{IsHeldOf}
use Rattle.ts_volume.proofs.CallerLemmas.{holds_still}
use Rattle.ts_views.specs.declared.view.View.{View}
use Rattle.ts_views.specs.Pages.{view_pages, keep_image}
use Rattle.ts_views.specs.View.{pages_of, HasImage, MayKeepImage}
use Rattle.ts_views.proofs.CallerLemmas.{commit_leaves, keep_leaves}
use Rattle.ts_answer.specs.View.{view, IsSeen, ShowsSome, Shows}
use Rattle.ts_view_catalogues.specs.Catalogues.{seen_through, IsViewReady, ViewMeans}
use Rattle.ts_view_catalogues.specs.Laws.{CatalogueStays, CommitsLeaveCatalogues, KeptImagesLeaveCatalogues, OpenedViewsAreNewest}

-- pages that are the same mean the same
pub means_still : (count n : ℕ) (before after : ℕ → List ℕ) (cat : Catalogue) → n ≡ count → SameButFreed before after → Means count before cat → Means n after cat
means_still count n before after cat size same means =
    (means.0, record { size = size ∙ means.1.size; bytes = holds_still before after means.0 same means.1.bytes; rules = means.1.rules }, means.2)

-- the same in memory over pages that are the same is seen still
seen_still : (tells : Bool) (v w : View) (before after : Contents) → w.defs ≡ v.defs → w.space ≡ v.space → w.free ≡ v.free → after.count ≡ before.count
    → (IsTrue tells → SameButFreed (pages_of v before.page) (pages_of w after.page)) → IsViewReady tells v before → IsViewReady tells w after
seen_still tells v w before after defs space free count same seen =
    let d : w.defs.definitions ≡ v.defs.definitions = ap (λ t. t.definitions) defs in
    let f : reverse w.free.items ≡ reverse v.free.items = ap (λ l. reverse l.items) free in
    record {
      kept = subst (λ (n : ℕ). AreKept w.defs.definitions w.space (reverse w.free.items) n) (sym count)
          (subst (λ (l : List ℕ). AreKept w.defs.definitions w.space l before.count) (sym f)
          (subst (λ (s : Directory). AreKept w.defs.definitions s (reverse v.free.items) before.count) (sym space)
          (subst (λ (x : Definitions). AreKept x v.space (reverse v.free.items) before.count) (sym d) seen.kept)));
      layout = λ told.
          let known = seen.layout told in (
            known.0,
            record {
              kept = subst (λ (n : ℕ). IsHeldOf w.defs.definitions w.space n (reverse w.free.items) known.0) (sym count)
                  (subst (λ (l : List ℕ). IsHeldOf w.defs.definitions w.space before.count l known.0) (sym f)
                  (subst (λ (s : Directory). IsHeldOf w.defs.definitions s before.count (reverse v.free.items) known.0) (sym space)
                  (subst (λ (x : Definitions). IsHeldOf x v.space before.count (reverse v.free.items) known.0) (sym d) known.1.kept)));
              holds = λ t. holds_still (pages_of v before.page) (pages_of w after.page) known.0 (same told) (known.1.holds t);
            },
          );
    }

pub commits_leave : CommitsLeaveCatalogues
commits_leave tells v batch before after count covers same =
    let alike : IsTrue tells → SameButFreed (pages_of v before.page) (pages_of v after.page) =
    λ told. commit_leaves v.old.entries v.own.entries batch before.page after.page covers (same told) in
    record {
      ready = seen_still tells v v before after refl refl refl count alike;
      means = λ told cat. means_still before.count after.count (pages_of v before.page) (pages_of v after.page) cat count (alike told);
    }

-- pages that are equal are the same
equal_alike : (wanted pages : ℕ → List ℕ) → ((k : ℕ) → pages k ≡ wanted k) → SameButFreed wanted pages
equal_alike wanted pages same k = inl (same k)

kept_alike : (v w : View) (newest : ℕ → List ℕ) (number : ℕ) (page : Page) → page.bytes ≡ newest number → MayKeepImage number page v w → (k : ℕ) → pages_of w newest k ≡ pages_of v newest k
kept_alike v w newest number page is may k =
    let own : view_pages w.old.entries w.own.entries newest k ≡ view_pages w.old.entries v.own.entries newest k = ap (λ (es : List Entry). view_pages w.old.entries es newest k) (ap (λ b. b.entries) may.others.own) in
    own ∙ (elim may.old [
      | inl same ↦ ap (λ (es : List Entry). view_pages es v.own.entries newest k) same
      | inr keeps ↦ ap (λ (es : List Entry). view_pages es v.own.entries newest k) keeps ∙ keep_leaves v.old.entries v.own.entries newest number page is k
    ])

pub kept_images_leave : KeptImagesLeaveCatalogues
kept_images_leave tells v w newest number page is may =
    let alike : IsTrue tells → SameButFreed (pages_of v newest.page) (pages_of w newest.page) =
    λ told. equal_alike (pages_of v newest.page) (pages_of w newest.page) (kept_alike v w newest.page number page (is told) may) in
    record {
      ready = seen_still tells v w newest newest may.others.defs may.others.space may.others.free refl alike;
      means = λ told cat. means_still newest.count newest.count (pages_of v newest.page) (pages_of w newest.page) cat refl (alike told);
    }

-- a view without images reads the newest pages
bare : (v : View) (newest : ℕ → List ℕ) → v.old.entries ≡ [] → v.own.entries ≡ [] → (k : ℕ) → pages_of v newest k ≡ newest k
bare v newest old own k = (λ i. view_pages (old i) (own i) newest k)

pub opened_is_newest : OpenedViewsAreNewest
opened_is_newest = record {
  ready = λ tells v newest old own free seen. record {
    kept = subst (λ (l : List ℕ). AreKept v.defs.definitions v.space l newest.count) (sym free) seen.kept;
    layout = λ told.
        let known = seen.layout told in (
          known.0,
          record {
            kept = subst (λ (l : List ℕ). IsHeldOf v.defs.definitions v.space newest.count l known.0) (sym free) known.1.kept;
            holds = λ t. holds_still newest.page (pages_of v newest.page) known.0 (equal_alike newest.page (pages_of v newest.page) (bare v newest.page old own)) (known.1.holds t);
          },
        );
  };
  means = λ v newest cat old own means.
      means_still newest.count newest.count newest.page (pages_of v newest.page) cat refl (equal_alike newest.page (pages_of v newest.page) (bare v newest.page old own)) means;
}
