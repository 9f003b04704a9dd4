-- A page that was read and lost an element, and what was said of pages that were read since.
use Rattle.std.proofs.Common.{◌≡◌, ◌≢◌, ℕ, ◌<◌, ℤ, Bool, IsTrue, Option, Some, None, IsSome, List, [], ◌∷◌, ◌++◌, length, drop, refl, sym, ap, subst, ◌∙◌}
use Rattle.std.specs.Prelude.{Contains, IsPermutation}
use Rattle.std.proofs.lemmas.List.Elements.{All-weaker}
use Rattle.ts_space.specs.declared.place.Place.{Place}
use Rattle.ts_space.specs.Place.{IsRising}
use Rattle.ts_page.specs.Pages.{Contents, EqualPages}
use Rattle.ts_row.specs.declared.kind.Column.{Column}
use Rattle.ts_row.specs.Row.{Row, Element}
use Rattle.ts_cells.specs.IrregularPage.{AreInOrder, behind_head, irregular_page}
use Rattle.ts_irregular.specs.Edit.{element_at, without_element}
use Rattle.ts_irregular.specs.OnePage.{IsOn, IsPlace}
use Rattle.ts_irregular.proofs.EditLemmas.{take_none}
use Rattle.ts_irregular.proofs.SeeLemmas.{behind_told}
use Rattle.ts_space.specs.declared.moved.Moved.{Moved}
use Rattle.ts_space.specs.Moved.{moved_to}
use Rattle.ts_space.specs.Place.{pages_of}
use Rattle.ts_sheets.specs.Places.{AreChained, ArePlaces, IsHolder}
use Rattle.ts_chain.specs.Call.{IsMissing, IsRemoved}
use Rattle.ts_chain.specs.Window.{IsRestOf}
use Rattle.ts_chain.proofs.FindLemmas.{cut_told}
use Rattle.ts_chain.proofs.LessLemmas.{none_gone}
use Rattle.ts_chain.proofs.TakeLemmas.{found}

-- a page from which an element was taken
module _ (tells : Bool) (slot : ℕ) (columns : List Column) (stamp : ℤ) (place : Place) (v : Contents) (read own left : List ℕ) (had count : ℕ) (same : IsTrue tells → read ≡ v.page place.page)
    (taken : (es : List Element) → IsOn slot columns read place es → (length es ≡ had) × (own ≡ read))
    (number : (es : List Element) → AreInOrder columns es → length es ≡ had → drop 32 own ≡ behind_head columns es → length (without_element stamp es) ≡ count) where
  -- its elements behind its head
  told_behind : IsTrue tells → (es : List Element) → IsOn slot columns (v.page place.page) place es → (length es ≡ had) × (drop 32 own ≡ behind_head columns es)
  told_behind told es on =
      let here : IsOn slot columns read place es = subst (λ (b : List ℕ). IsOn slot columns b place es) (sym (same told)) on in
      let one = taken es here in
      (one.0, ap (drop 32) one.1 ∙ behind_told slot columns es read here.bytes)

  pub rest_of : ((es : List Element) → AreInOrder columns es → length es ≡ had → drop 32 own ≡ behind_head columns es → left ≡ irregular_page slot columns (without_element stamp es)) → count ≢ had → IsRestOf tells slot columns stamp place count left v
  rest_of bytes less = λ told es on.
      let b = told_behind told es on in
      let order = on.bytes.fill.elements in
      let size = number es order b.0 b.1 in
      record { there = by_row es b.0 size (element_at stamp es) refl; count_is = size; bytes_are = bytes es order b.0 b.1 }
    where
      by_row : (es : List Element) → length es ≡ had → length (without_element stamp es) ≡ count → (o : Option Row) → element_at stamp es ≡ o → IsSome (element_at stamp es)
      by_row es whole size None is = absurd (less (sym size ∙ ap length (take_none stamp es is) ∙ whole))
      by_row es whole size (Some row) is = subst IsSome (sym is) refl

  pub none_of : count ≡ had → IsTrue tells → (es : List Element) → IsOn slot columns (v.page place.page) place es → element_at stamp es ≡ None
  none_of all told es on =
      let b = told_behind told es on in
      let order = on.bytes.fill.elements in
      none_gone stamp es order.rising (number es order b.0 b.1 ∙ all ∙ sym b.0)

-- the same, said of an equal place
pub rest_at : (tells : Bool) (slot : ℕ) (columns : List Column) (stamp : ℤ) (p place : Place) → p ≡ place → (v : Contents) (read own left : List ℕ) (had count : ℕ) → (IsTrue tells → read ≡ v.page place.page) → ((es : List Element) → IsOn slot columns read p es → (length es ≡ had) × (own ≡ read))
    → ((es : List Element) → AreInOrder columns es → length es ≡ had → drop 32 own ≡ behind_head columns es → length (without_element stamp es) ≡ count)
    → ((es : List Element) → AreInOrder columns es → length es ≡ had → drop 32 own ≡ behind_head columns es → left ≡ irregular_page slot columns (without_element stamp es)) → count ≢ had → IsRestOf tells slot columns stamp place count left v
rest_at tells slot columns stamp p place held v read own left had count same taken number bytes less =
    subst (λ (q : Place). IsRestOf tells slot columns stamp q count left v) held
    (rest_of tells slot columns stamp p v read own left had count (subst (λ (q : Place). IsTrue tells → read ≡ v.page q.page) (sym held) same) taken number bytes less)

pub none_at : (tells : Bool) (slot : ℕ) (columns : List Column) (stamp : ℤ) (p place : Place) → p ≡ place → (v : Contents) (read own left : List ℕ) (had count : ℕ) → (IsTrue tells → read ≡ v.page place.page) → ((es : List Element) → IsOn slot columns read p es → (length es ≡ had) × (own ≡ read))
    → ((es : List Element) → AreInOrder columns es → length es ≡ had → drop 32 own ≡ behind_head columns es → length (without_element stamp es) ≡ count) → count ≡ had
    → IsTrue tells → (es : List Element) → IsOn slot columns (v.page place.page) place es → element_at stamp es ≡ None
none_at tells slot columns stamp p place held v read own left had count same taken number all =
    subst (λ (q : Place). IsTrue tells → (es : List Element) → IsOn slot columns (v.page q.page) q es → element_at stamp es ≡ None) held
    (none_of tells slot columns stamp p v read own left had count (subst (λ (q : Place). IsTrue tells → read ≡ v.page q.page) (sym held) same) taken number all)

-- none is there
pub missing_on : (tells : Bool) (slot : ℕ) (columns : List Column) (stamp : ℤ) (places : List Place) (index : ℕ) (v : Contents) (h : IsHolder stamp places index) → IsRising places → ArePlaces columns v places
    → (IsTrue tells → (es : List Element) → IsOn slot columns (v.page h.place.page) h.place es → element_at stamp es ≡ None) → IsMissing tells slot columns stamp places v v
missing_on tells slot columns stamp places index v h rising are none = record {
  absent = λ told chain on is. let c = cut_told slot columns stamp places index v.page chain h on in found tells slot columns stamp places index v v h rising are chain on is ∙ none told c.elements c.on;
  same = record { free = refl; pages = λ told n. refl };
}

-- pages that were read
pub chained_same : (slot : ℕ) (columns : List Column) (v u : ℕ → List ℕ) (places : List Place) (chain : List (List Element)) → EqualPages v u → AreChained slot columns v places chain → AreChained slot columns u places chain
chained_same slot columns v u [] [] same on = tt
chained_same slot columns v u [] (es ∷ chain) same on = absurd on
chained_same slot columns v u (p ∷ places) [] same on = absurd on
chained_same slot columns v u (p ∷ places) (es ∷ chain) same on = (subst (λ (b : List ℕ). IsOn slot columns b p es) (sym (same p.page)) on.0, chained_same slot columns v u places chain same on.1)

pub places_same : (columns : List Column) (v u : Contents) (places : List Place) → u.count ≡ v.count → u.free ≡ v.free → ArePlaces columns v places → ArePlaces columns u places
places_same columns v u places count free are = record {
  each = All-weaker (IsPlace columns v) (IsPlace columns u) (λ p is. record {
    element = is.element;
    below = subst (λ (n : ℕ). p.page < n) (sym count) is.below;
    used = subst (λ (l : List ℕ). ¬ Contains l p.page) (sym free) is.used;
    some = is.some;
    room = is.room;
  }) places are.each;
  different = are.different;
}

pub removed_since : (tells : Bool) (slot : ℕ) (columns : List Column) (stamp : ℤ) (places : List Place) (v u w : Contents) (o : Option Moved) → u.free ≡ v.free → (IsTrue tells → EqualPages v.page u.page) → IsRemoved tells slot columns stamp places u w o
    → IsRemoved tells slot columns stamp places v w o
removed_since tells slot columns stamp places v u w (Some moved) free same r = record {
  places = record {
    pages = subst (λ (l : List ℕ). IsPermutation (l ++ pages_of places) (w.free ++ pages_of (moved_to moved places))) free r.places.pages;
    rising = r.places.rising;
    counts = r.places.counts;
  };
  count = r.count;
  there = λ told chain on is. r.there told chain (chained_same slot columns v.page u.page places chain (same told) on) is;
  left = λ told chain on is.
      let a = r.left told chain (chained_same slot columns v.page u.page places chain (same told) on) is in record {
        chain = a.chain;
        is = a.is;
        all = a.all;
        on = a.on;
        others = λ n not none. a.others n not (subst (λ (l : List ℕ). ¬ Contains l n) (sym free) none) ∙ same told n;
      };
}
removed_since tells slot columns stamp places v u w None free same r = record {
  absent = λ told chain on is. r.absent told chain (chained_same slot columns v.page u.page places chain (same told) on) is;
  same = record { free = r.same.free ∙ free; pages = λ told n. r.same.pages told n ∙ same told n };
}
