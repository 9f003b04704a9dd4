-- A series as it is seen, as one that is combined, by what was read of it.
use Rattle.std.proofs.Common.{◌≡◌, ℕ, ℤ, Bool, not, IsTrue, Result, Ok, Err, Some, List, refl, ap, sym, subst, ◌∙◌}
use Rattle.ts_base.specs.declared.fault.Trouble.{Trouble}
use Rattle.ts_page.specs.Pages.{Contents, EqualPages}
use Rattle.ts_row.specs.declared.kind.Column.{Column}
use Rattle.ts_row.specs.Row.{Heading, Element, seen}
use Rattle.ts_space.specs.Directory.{places_of}
use Rattle.ts_sheets.specs.Stamped.{within_range}
use Rattle.ts_offset.specs.declared.shape.Shape.{Shape}
use Rattle.ts_clip.specs.Series.{HaveElements, IsTold}
use Rattle.ts_offset.specs.Shape.{IsLaidOut}
use Rattle.ts_model.specs.Catalogue.{Series, Catalogue, columns_of, shape_of}
use Rattle.ts_layout.specs.Meaning.{Layout, catalogue_of}
use Rattle.ts_answer.specs.Answer.{Tried, ◌>>=◌, wanted, seen_elements}
use Rattle.ts_answer.specs.Tried.{IsTried}
use Rattle.ts_answer.specs.View.{View, Shows}
use Rattle.ts_answer.proofs.CallerLemmas.{on_ok, refused_as}
use Rattle.ts_shelf.specs.Shelf.{IsShelf}
use Rattle.ts_shelf.proofs.SeenLemmas.{elements_seen, entries_in, shelf_seen}
use Rattle.ts_combined_rows.proofs.SideLemmas.{HasSide, on_pages, tested}

-- a series of a key in a catalogue, with these elements that aren't hidden
pub record IsSide (cat : Catalogue) (key : List ℕ) (shape : Shape) (columns : List Column) (es : List Element) : Type 0 where
  pub series : Series
  pub there : wanted key cat.series ≡ Ok series
  pub columns_are : columns_of cat series ≡ columns
  pub lies : shape_of cat series.kind ≡ Some shape
  pub elements : seen_elements series.elements ≡ es
  pub has : HasSide shape columns es

-- one that is seen, by what was read of it
module _ (tells : Bool) (x : View) (l : Layout) (told : IsTrue tells) (shows : Shows tells x l) (shape : Shape) (laid : IsLaidOut shape) (slot : ℕ) (h : Heading) (key : List ℕ) (found : IsShelf shape slot h key x.definitions) where
  pub seen_es : List Element
  seen_es = seen (elements_seen tells x l shape laid slot h told shows found.columns found.lies found.named.within).0

  pub side_seen : IsSide (catalogue_of l) key shape h.columns seen_es
  unfolding seen_es
  side_seen =
      let all = elements_seen tells x l shape laid slot h told shows found.columns found.lies found.named.within in
      let tried = shelf_seen x l shows.kept key shape slot h found in
      record {
        series = tried.0;
        there = tried.1;
        columns_are = tried.2.columns;
        lies = tried.2.lies;
        elements = ap (λ (s : Series). seen_elements s.elements) tried.2.stands.is.2 ∙ ap seen (entries_in shape slot h.columns x.pages.page (places_of slot x.space) l all.0 all.1);
        has = tested (λ (e : Element). not e.1.hidden) shape h.columns all.0 (on_pages shape slot h.columns x.pages.page (places_of slot x.space) all.0 all.1.order all.1.have);
      }

  -- they are those of elements that the pages have
  pub seen_told : (es : List Element) × HaveElements shape slot h.columns x.pages.page (places_of slot x.space) es × (seen_es ≡ seen es)
  unfolding seen_es
  seen_told =
      let all = elements_seen tells x l shape laid slot h told shows found.columns found.lies found.named.within in
      (all.0, all.1.have, refl)

  -- what is told of the elements that aren't hidden holds of those that are seen
  pub told_seen : (v : Contents) (Holds : List Element → Type 0) → EqualPages x.pages.page v.page → IsTold tells shape slot h.columns (places_of slot x.space) v (λ es. Holds (seen es)) → Holds seen_es
  unfolding seen_es
  told_seen v Holds same read =
      let all = elements_seen tells x l shape laid slot h told shows found.columns found.lies found.named.within in
      read told all.0 (subst (λ (p : ℕ → List ℕ). HaveElements shape slot h.columns p (places_of slot x.space) all.0) (sym (λ i k. same k i)) all.1.have)
