-- The last element that isn't hidden, by the cells of a page and by the pages up to an index.
use Rattle.std.proofs.Common.{◌≡◌, ℕ, zero, suc, ◌+◌, ◌-◌, ◌<◌, not, Bool, true, false, IsTrue, Option, Some, None, Ok, List, [], ◌∷◌, ◌++◌, length, take, get_or, refl, sym, ap, subst, ◌∙◌, arith, append-nil}
use Rattle.std.specs.List.{slice_get}
use Rattle.std.proofs.lemmas.List.{take_all}
use Rattle.std.proofs.lemmas.List.Elements.{filter-append}
use Rattle.ts_space.specs.declared.place.Place.{Place}
use Rattle.ts_page.specs.Pages.{Contents}
use Rattle.ts_row.specs.declared.kind.Column.{Column}
use Rattle.ts_row.specs.Row.{Row}
use Rattle.ts_regular.specs.RegularPage.{Cell, OffsetElement, elements_from, seen, last_of, last_seen}
use Rattle.ts_regular.specs.Places.{OffsetPage, all_in, IsOn, AreOn}
use Rattle.ts_regular.specs.OnePage.{cell_at, is_seen, IsLastCell}
use Rattle.ts_regular.specs.Call.{Reads, IsLastIn}
use Rattle.ts_regular.proofs.PlaceLemmas.{all_both}

-- the last of two lists is that of the second, where it has one
last_more : (x y : OffsetElement) (ys : List OffsetElement) → last_of (x ∷ y ∷ ys) ≡ last_of (y ∷ ys)
last_more x y ys = ap (slice_get (x ∷ y ∷ ys)) (let one : length (x ∷ y ∷ ys) - 1 ≡ suc (length (y ∷ ys) - 1) = omega arith in one)

last_back : (xs : List OffsetElement) (y : OffsetElement) (ys : List OffsetElement) → last_of (xs ++ y ∷ ys) ≡ last_of (y ∷ ys)
last_back [] y ys = refl
last_back (x ∷ []) y ys = last_more x y ys
last_back (x ∷ z ∷ xs) y ys = last_more x z (xs ++ y ∷ ys) ∙ last_back (z ∷ xs) y ys

last_none : (xs : List OffsetElement) → last_of xs ≡ None → xs ≡ []
last_none [] none = refl
last_none (x ∷ []) none = absurd (cc)
last_none (x ∷ y ∷ xs) none = absurd (let empty = last_none (y ∷ xs) (sym (last_more x y xs) ∙ none) in cc)

last_some : (xs ys : List OffsetElement) (e : OffsetElement) → last_of ys ≡ Some e → last_of (xs ++ ys) ≡ Some e
last_some xs [] e last = absurd (cc)
last_some xs (y ∷ ys) e last = last_back xs y ys ∙ last

seen_both : (xs ys : List OffsetElement) → seen (xs ++ ys) ≡ seen xs ++ seen ys
seen_both xs ys = filter-append (λ (e : OffsetElement). not e.1.hidden) xs ys

-- and so it is with the last one that isn't hidden
pub seen_front : (xs ys : List OffsetElement) → last_seen ys ≡ None → last_seen (xs ++ ys) ≡ last_seen xs
seen_front xs ys none = ap last_of (seen_both xs ys ∙ ap (λ (l : List OffsetElement). seen xs ++ l) (last_none (seen ys) none) ∙ append-nil (seen xs))

pub seen_back : (xs ys : List OffsetElement) (e : OffsetElement) → last_seen ys ≡ Some e → last_seen (xs ++ ys) ≡ Some e
seen_back xs ys e last = ap last_of (seen_both xs ys) ∙ last_some (seen xs) (seen ys) e last

-- one element, hidden or not
seen_no : (e : OffsetElement) (es : List OffsetElement) → not e.1.hidden ≡ false → seen (e ∷ es) ≡ seen es
seen_no e es hidden = rw hidden refl

seen_yes : (e : OffsetElement) (es : List OffsetElement) → not e.1.hidden ≡ true → seen (e ∷ es) ≡ e ∷ seen es
seen_yes e es shown = rw shown refl

-- cells of which each has no element or a hidden one
pub none_seen : (at : ℕ) (cells : List Cell) → ((other : ℕ) → other < length cells → is_seen (cell_at cells other) ≡ false) → seen (elements_from at cells) ≡ []
none_seen at [] none = refl
none_seen at (None ∷ cells) none = none_seen (at + 1) cells (λ other below. none (suc other) (omega (arith, below)))
none_seen at (Some row ∷ cells) none =
    seen_no (at, row) (elements_from (at + 1) cells) (none 0 (omega arith)) ∙ none_seen (at + 1) cells (λ other below. none (suc other) (omega (arith, below)))

-- the last cell with one that isn't hidden
pub last_cell : (at i n : ℕ) (cells : List Cell) (row : Row) → n ≡ at + i → i < length cells → cell_at cells i ≡ Some row → not row.hidden ≡ true → ((other : ℕ) → i < other → other < length cells → is_seen (cell_at cells other) ≡ false)
    → last_seen (elements_from at cells) ≡ Some (n, row)
last_cell at i n [] row is within cell shown none = absurd (omega (arith, within))
last_cell at zero n (None ∷ cells) row is within cell shown none = absurd (cc)
last_cell at zero n (Some own ∷ cells) row is within cell shown none =
    let same : own ≡ row = cc in
    let P : Row → Type 0 = λ r. not r.hidden ≡ true in
    let first : at ≡ n = omega (arith, is) in
    let rest = none_seen (at + 1) cells (λ other below. none (suc other) (omega arith) (omega (arith, below))) in
    ap last_of (seen_yes (at, own) (elements_from (at + 1) cells) (subst P (sym same) shown) ∙ ap (λ (l : List OffsetElement). (at, own) ∷ l) rest)
    ∙ (λ j. Some (first j, same j))
last_cell at (suc i) n (None ∷ cells) row is within cell shown none =
    last_cell (at + 1) i n cells row (omega (arith, is)) (omega (arith, within)) cell shown (λ other above below. none (suc other) (omega (arith, above)) (omega (arith, below)))
last_cell at (suc i) n (Some own ∷ cells) row is within cell shown none =
    seen_back ((at, own) ∷ []) (elements_from (at + 1) cells) (n, row)
    (last_cell (at + 1) i n cells row (omega (arith, is)) (omega (arith, within)) cell shown (λ other above below. none (suc other) (omega (arith, above)) (omega (arith, below))))

-- what stands in that cell
pub seen_some : (cell : Cell) (row : Row) → IsTrue (is_seen cell) → cell ≡ Some row → not row.hidden ≡ true
seen_some None row shown is = absurd (cc)
seen_some (Some own) row shown is = let same : own ≡ row = cc in let P : Row → Type 0 = λ r. not r.hidden ≡ true in subst P same shown

pub seen_none : (cell : Cell) → IsTrue (is_seen cell) → cell ≡ None → ⊥
seen_none None shown is = cc
seen_none (Some own) shown is = cc

pub last_found : (base : ℕ) (cells : List Cell) (i : ℕ) (row : Row) → i < length cells → IsLastCell cells (Some i) → Some row ≡ cell_at cells i → ◌≡◌ {A = Option OffsetElement} (Some (base + i, row)) (last_seen (elements_from base cells))
last_found base cells i row within last is = sym (last_cell base i (base + i) cells row refl within (sym is) (seen_some (cell_at cells i) row last.0 (sym is)) last.1)

-- the page of an index, behind those before it
record PageAt (slot : ℕ) (columns : List Column) (pages : ℕ → List ℕ) (place : Place) (i : ℕ) (ps : List OffsetPage) : Type 0 where
  page : OffsetPage
  more : all_in (take (suc i) ps) ≡ all_in (take i ps) ++ elements_from page.0 page.1
  on : IsOn slot columns (pages place.page) place page

taken : (slot : ℕ) (columns : List Column) (pages : ℕ → List ℕ) (places : List Place) (i : ℕ) (d : Place) (ps : List OffsetPage) → AreOn slot columns pages places ps → i < length places
    → (p : OffsetPage) × (take (suc i) ps ≡ take i ps ++ p ∷ []) × IsOn slot columns (pages (get_or places i d).page) (get_or places i d) p
taken slot columns pages [] i d ps on within = absurd (omega (arith, within))
taken slot columns pages (q ∷ places) i d [] on within = absurd on
taken slot columns pages (q ∷ places) zero d (p ∷ ps) on within = (p, refl, on.0)
taken slot columns pages (q ∷ places) (suc i) d (p ∷ ps) on within =
    let rest = taken slot columns pages places i d ps on.1 (omega (arith, within)) in
    (rest.0, ap (λ (l : List OffsetPage). p ∷ l) rest.1, rest.2)

page_at : (slot : ℕ) (columns : List Column) (pages : ℕ → List ℕ) (places : List Place) (i : ℕ) (d : Place) (ps : List OffsetPage) → AreOn slot columns pages places ps → i < length places → PageAt slot columns pages (get_or places i d) i ps
page_at slot columns pages places i d ps on within =
    let t = taken slot columns pages places i d ps on within in
    record {
      page = t.0;
      more = ap all_in t.1 ∙ all_both (take i ps) (t.0 ∷ []) ∙ ap (λ (l : List OffsetElement). all_in (take i ps) ++ l) (append-nil (elements_from t.0.0 t.0.1));
      on = t.2;
    }

-- the pages are as many as the places
pages_count : (slot : ℕ) (columns : List Column) (pages : ℕ → List ℕ) (places : List Place) (ps : List OffsetPage) → AreOn slot columns pages places ps → length ps ≡ length places
pages_count slot columns pages [] [] on = refl
pages_count slot columns pages [] (p ∷ ps) on = absurd on
pages_count slot columns pages (q ∷ places) [] on = absurd on
pages_count slot columns pages (q ∷ places) (p ∷ ps) on = ap suc (pages_count slot columns pages places ps on.1)

-- the last one that isn't hidden is among the first so many pages
abbrev pub IsAmong : Bool → ℕ → List Column → List Place → Contents → ℕ → Type 0
IsAmong tells slot columns places v left =
    IsTrue tells → (ps : List OffsetPage) → AreOn slot columns v.page places ps → last_seen (all_in ps) ≡ last_seen (all_in (take left ps))

pub among_all : (tells : Bool) (slot : ℕ) (columns : List Column) (places : List Place) (v : Contents) → IsAmong tells slot columns places v (length places)
among_all tells slot columns places v = λ told ps on.
    ap (λ (l : List OffsetPage). last_seen (all_in l)) (sym (take_all (length places) ps (omega (arith, pages_count slot columns v.page places ps on))))

-- what the page says of an index, where the pages before it were read since
module _ (tells : Bool) (slot : ℕ) (columns : List Column) (places : List Place) (i left : ℕ) (d : Place) (u v : Contents) (next : left ≡ suc i) (within : i < length places)
    (reads : Reads tells (Ok (tt {0})) u v) (among : IsAmong tells slot columns places u left) where
  page_last : (last : Option OffsetElement) → IsLastIn tells slot columns (get_or places i d ∷ []) v last → IsTrue tells → (ps : List OffsetPage) → AreOn slot columns u.page places ps
      → (es : List OffsetElement) × (last ≡ last_seen es) × (last_seen (all_in ps) ≡ last_seen (all_in (take i ps) ++ es))
  page_last last is told ps on =
      let p = page_at slot columns u.page places i d ps on within in
      let place : Place = get_or places i d in (
        elements_from p.page.0 p.page.1,
        is told (p.page ∷ []) (subst (λ (b : List ℕ). IsOn slot columns b place p.page) (sym (reads.pages told place.page)) p.on, tt) ∙ ap last_seen (append-nil (elements_from p.page.0 p.page.1)),
        among told ps on ∙ ap (λ (n : ℕ). last_seen (all_in (take n ps))) next ∙ ap last_seen p.more,
      )

  pub among_before : IsLastIn tells slot columns (get_or places i d ∷ []) v None → IsAmong tells slot columns places u i
  among_before is = λ told ps on.
      let p = page_last None is told ps on in
      p.2 ∙ seen_front (all_in (take i ps)) p.0 (sym p.1)

  pub last_here : (e : OffsetElement) → IsLastIn tells slot columns (get_or places i d ∷ []) v (Some e) → IsTrue tells → (ps : List OffsetPage) → AreOn slot columns u.page places ps → ◌≡◌ {A = Option OffsetElement} (Some e) (last_seen (all_in ps))
  last_here e is = λ told ps on.
      let p = page_last (Some e) is told ps on in
      sym (p.2 ∙ seen_back (all_in (take i ps)) p.0 e (sym p.1))

-- of one page
pub alone : (tells : Bool) (slot : ℕ) (columns : List Column) (place : Place) (v : Contents) (last : Option OffsetElement) → (IsTrue tells → (p : OffsetPage) → IsOn slot columns (v.page place.page) place p → last ≡ last_seen (elements_from p.0 p.1))
    → IsLastIn tells slot columns (place ∷ []) v last
alone tells slot columns place v last told t [] on = absurd on
alone tells slot columns place v last told t (p ∷ []) on = told t p on.0 ∙ ap last_seen (sym (append-nil (elements_from p.0 p.1)))
alone tells slot columns place v last told t (p ∷ q ∷ ps) on = absurd on.1
