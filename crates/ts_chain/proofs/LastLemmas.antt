-- The last element that isn't hidden, by the pages up to an index.
use Rattle.std.proofs.Common.{◌≡◌, ℕ, zero, suc, ◌-◌, ◌<◌, not, Bool, IsTrue, Option, Some, None, Ok, List, [], ◌∷◌, ◌++◌, length, take, get_or, refl, sym, ap, subst, ◌∙◌, arith, append-nil}
use Rattle.std.specs.List.{slice_get}
use Rattle.std.proofs.lemmas.List.{take_all}
use Rattle.std.proofs.lemmas.List.Elements.{filter-append}
use Rattle.ts_space.specs.declared.place.Place.{Place}
use Rattle.ts_page.specs.Pages.{Contents}
use Rattle.ts_row.specs.declared.kind.Column.{Column}
use Rattle.ts_row.specs.Row.{Element, seen}
use Rattle.ts_irregular.specs.Edit.{last_of, last_seen}
use Rattle.ts_irregular.specs.OnePage.{IsOn}
use Rattle.ts_irregular.specs.Call.{Reads, IsLast}
use Rattle.ts_sheets.specs.Stamped.{all_in}
use Rattle.ts_sheets.specs.Places.{AreChained}
use Rattle.ts_sheets.proofs.OrderLemmas.{all_in-append}

-- the last of two lists is that of the second, where it has one
last_more : (x y : Element) (ys : List Element) → last_of (x ∷ y ∷ ys) ≡ last_of (y ∷ ys)
last_more x y ys = ap (slice_get (x ∷ y ∷ ys)) (let one : length (x ∷ y ∷ ys) - 1 ≡ suc (length (y ∷ ys) - 1) = omega arith in one)

pub last_back : (xs : List Element) (y : Element) (ys : List Element) → last_of (xs ++ y ∷ ys) ≡ last_of (y ∷ ys)
last_back [] y ys = refl
last_back (x ∷ []) y ys = last_more x y ys
last_back (x ∷ z ∷ xs) y ys = last_more x z (xs ++ y ∷ ys) ∙ last_back (z ∷ xs) y ys

last_none : (xs : List Element) → last_of xs ≡ None → xs ≡ []
last_none [] none = refl
last_none (x ∷ []) none = absurd (cc)
last_none (x ∷ y ∷ xs) none = absurd (let empty = last_none (y ∷ xs) (sym (last_more x y xs) ∙ none) in cc)

pub last_some : (xs ys : List Element) (e : Element) → last_of ys ≡ Some e → last_of (xs ++ ys) ≡ Some e
last_some xs [] e last = absurd (cc)
last_some xs (y ∷ ys) e last = last_back xs y ys ∙ last

seen_both : (xs ys : List Element) → seen (xs ++ ys) ≡ seen xs ++ seen ys
seen_both xs ys = filter-append (λ (e : Element). not e.1.hidden) xs ys

-- and so it is with the last one that isn't hidden
pub seen_front : (xs ys : List Element) → last_seen ys ≡ None → last_seen (xs ++ ys) ≡ last_seen xs
seen_front xs ys none = ap last_of (seen_both xs ys ∙ ap (λ (l : List Element). seen xs ++ l) (last_none (seen ys) none) ∙ append-nil (seen xs))

pub seen_back : (xs ys : List Element) (e : Element) → last_seen ys ≡ Some e → last_seen (xs ++ ys) ≡ Some e
seen_back xs ys e last = ap last_of (seen_both xs ys) ∙ last_some (seen xs) (seen ys) e last

-- the page of an index, behind those before it
record PageAt (slot : ℕ) (columns : List Column) (pages : ℕ → List ℕ) (place : Place) (i : ℕ) (chain : List (List Element)) : Type 0 where
  elements : List Element
  more : all_in (take (suc i) chain) ≡ all_in (take i chain) ++ elements
  on : IsOn slot columns (pages place.page) place elements

page_at : (slot : ℕ) (columns : List Column) (pages : ℕ → List ℕ) (places : List Place) (i : ℕ) (d : Place) (chain : List (List Element)) → AreChained slot columns pages places chain → i < length places → PageAt slot columns pages (get_or places i d) i chain
page_at slot columns pages places i d chain on within =
    let t = taken places i chain on within in
    record {
      elements = t.0;
      more = ap all_in t.1 ∙ all_in-append (take i chain) (t.0 ∷ []) ∙ ap (λ (l : List Element). all_in (take i chain) ++ l) (append-nil t.0);
      on = t.2;
    }
  where
    taken : (places : List Place) (i : ℕ) (chain : List (List Element)) → AreChained slot columns pages places chain → i < length places
        → (es : List Element) × (take (suc i) chain ≡ take i chain ++ es ∷ []) × IsOn slot columns (pages (get_or places i d).page) (get_or places i d) es
    taken [] i chain on within = absurd (omega (arith, within))
    taken (p ∷ places) i [] on within = absurd on
    taken (p ∷ places) zero (es ∷ chain) on within = (es, refl, on.0)
    taken (p ∷ places) (suc i) (es ∷ chain) on within =
        let rest = taken places i chain on.1 (omega (arith, within)) in
        (rest.0, ap (λ (l : List (List Element)). es ∷ l) rest.1, rest.2)

-- the pages are as many as the places
pub chained_count : (slot : ℕ) (columns : List Column) (pages : ℕ → List ℕ) (places : List Place) (chain : List (List Element)) → AreChained slot columns pages places chain → length chain ≡ length places
chained_count slot columns pages [] [] on = refl
chained_count slot columns pages [] (es ∷ chain) on = absurd on
chained_count slot columns pages (p ∷ places) [] on = absurd on
chained_count slot columns pages (p ∷ places) (es ∷ chain) on = ap suc (chained_count slot columns pages places chain on.1)

-- the last one that isn't hidden is among the first so many pages
abbrev pub IsAmong : Bool → ℕ → List Column → List Place → Contents → ℕ → Type 0
IsAmong tells slot columns places v left =
    IsTrue tells → (chain : List (List Element)) → AreChained slot columns v.page places chain → last_seen (all_in chain) ≡ last_seen (all_in (take left chain))

pub among_all : (tells : Bool) (slot : ℕ) (columns : List Column) (places : List Place) (v : Contents) → IsAmong tells slot columns places v (length places)
among_all tells slot columns places v = λ told chain on.
    ap (λ (l : List (List Element)). last_seen (all_in l)) (sym (take_all (length places) chain (omega (arith, chained_count slot columns v.page places chain on))))

-- what the page says of an index, where the pages before it were read since
module _ (tells : Bool) (slot : ℕ) (columns : List Column) (places : List Place) (i left : ℕ) (d : Place) (u v : Contents) (next : left ≡ suc i) (within : i < length places)
    (reads : Reads tells (Ok (tt {0})) u v) (among : IsAmong tells slot columns places u left) where
  page_last : (last : Option Element) → IsLast tells slot columns (get_or places i d ∷ []) v last → IsTrue tells → (chain : List (List Element)) → AreChained slot columns u.page places chain
      → (es : List Element) × (last ≡ last_seen es) × (last_seen (all_in chain) ≡ last_seen (all_in (take i chain) ++ es))
  page_last last is told chain on =
      let p = page_at slot columns u.page places i d chain on within in
      let place : Place = get_or places i d in (
        p.elements,
        is told p.elements (subst (λ (b : List ℕ). IsOn slot columns b place p.elements) (sym (reads.pages told place.page)) p.on),
        among told chain on ∙ ap (λ (n : ℕ). last_seen (all_in (take n chain))) next ∙ ap last_seen p.more,
      )

  pub among_before : IsLast tells slot columns (get_or places i d ∷ []) v None → IsAmong tells slot columns places u i
  among_before is = λ told chain on.
      let p = page_last None is told chain on in
      p.2 ∙ seen_front (all_in (take i chain)) p.0 (sym p.1)

  pub last_here : (e : Element) → IsLast tells slot columns (get_or places i d ∷ []) v (Some e) → IsTrue tells → (chain : List (List Element)) → AreChained slot columns u.page places chain → ◌≡◌ {A = Option Element} (Some e) (last_seen (all_in chain))
  last_here e is = λ told chain on.
      let p = page_last (Some e) is told chain on in
      sym (p.2 ∙ seen_back (all_in (take i chain)) p.0 e (sym p.1))
