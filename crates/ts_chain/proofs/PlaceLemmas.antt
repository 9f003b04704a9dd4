-- The place that a stamp belongs to, and the page that its chain has there.
use Rattle.std.proofs.Common.{◌≡◌, ℕ, zero, suc, true, false, ℤ, ◌<ℤ◌, ◌≤ℤ◌, Option, Some, None, is_some, Result, Ok, Err, cond, List, [], ◌∷◌, ◌++◌, length, refl, sym, ap, subst, ◌∙◌, arith}
use Rattle.std.proofs.lemmas.Int.{by_lt_z, ints}
use Rattle.ts_space.specs.declared.place.Place.{Place}
use Rattle.ts_space.specs.Place.{AreAbove, IsRising, place_at, rank_of, search_of}
use Rattle.ts_space.proofs.PlaceLemmas.{int_lt_yes, int_lt_no, int_eq_same, int_eq_lower, int_eq_higher, none_found}
use Rattle.ts_row.specs.declared.kind.Column.{Column}
use Rattle.ts_row.specs.Row.{Element}
use Rattle.ts_cells.specs.IrregularPage.{AreRising, first_stamp}
use Rattle.ts_irregular.specs.OnePage.{IsOn}
use Rattle.ts_sheets.specs.Stamped.{all_in, AreEarlier, AreLater, AreBefore, ArePages, IsAround}
use Rattle.ts_sheets.specs.Places.{AreChained, IsHolder}
use Rattle.ts_sheets.proofs.OrderLemmas.{later_than, earlier_than, later_of, later_both, all_in-append, some_z}

-- places above a lower stamp
pub above_than : (low high : ℤ) (ps : List Place) → low ≤ℤ high → AreAbove high ps → AreAbove low ps
above_than low high [] below above = tt
above_than low high (p ∷ ps) below above =
    let first = above.0 in
    (omega (arith, ints, below, first), above_than low high ps below above.1)

-- a place more before it
holder_more : (at : ℤ) (p : Place) (ps : List Place) (n : ℕ) → IsHolder at ps n → IsHolder at (p ∷ ps) (suc n)
holder_more at p ps n h = record {
  front = p ∷ h.front;
  place = h.place;
  back = h.back;
  parts = ap (λ (l : List Place). p ∷ l) h.parts;
  index_is = ap suc h.index_is;
  begins = h.begins;
  above = h.above;
}

holder_first : (at : ℤ) (p : Place) (ps : List Place) → p.at ≤ℤ at → AreAbove at ps → IsHolder at (p ∷ ps) 0
holder_first at p ps begins above = record { front = []; place = p; back = ps; parts = refl; index_is = refl; begins = begins; above = above }

rank_lower : (at : ℤ) (p : Place) (ps : List Place) → p.at <ℤ at → rank_of at (p ∷ ps) ≡ suc (rank_of at ps)
rank_lower at p ps low = rw (int_lt_yes p.at at low) refl

rank_higher : (at : ℤ) (p : Place) (ps : List Place) → at ≤ℤ p.at → rank_of at (p ∷ ps) ≡ 0
rank_higher at p ps high = rw (int_lt_no p.at at high) refl

at_lower : (at : ℤ) (p : Place) (ps : List Place) → p.at <ℤ at → place_at at (p ∷ ps) ≡ place_at at ps
at_lower at p ps low = rw (int_eq_lower p.at at low) refl

at_higher : (at : ℤ) (p : Place) (ps : List Place) → at <ℤ p.at → place_at at (p ∷ ps) ≡ place_at at ps
at_higher at p ps high = rw (int_eq_higher p.at at high) refl

at_same : (at : ℤ) (p : Place) (ps : List Place) → p.at ≡ at → place_at at (p ∷ ps) ≡ Some p
at_same at p ps same = rw (int_eq_same p.at at same) refl

-- where a place begins at the stamp, it is that one
found_holder : (at : ℤ) (ps : List Place) → IsRising ps → is_some (place_at at ps) ≡ true → IsHolder at ps (rank_of at ps)
found_holder at [] rising found = absurd (cc)
found_holder at (p ∷ ps) rising found = by_lt_z p.at at
    (λ low. let rest = found_holder at ps rising.1 (ap is_some (sym (at_lower at p ps low)) ∙ found) in
    subst (IsHolder at (p ∷ ps)) (sym (rank_lower at p ps low)) (holder_more at p ps (rank_of at ps) rest))
    (λ high. by_lt_z at p.at
    (λ above. absurd (let none = at_higher at p ps above ∙ none_found ps at p.at rising.0 high in cc))
    (λ below. subst (IsHolder at (p ∷ ps)) (sym (rank_higher at p ps high)) (holder_first at p ps below (above_than at p.at ps high rising.0))))

-- where none does, and all begin later
pub none_above : (at : ℤ) (ps : List Place) → IsRising ps → is_some (place_at at ps) ≡ false → rank_of at ps ≡ 0 → AreAbove at ps
none_above at [] rising none rank = tt
none_above at (p ∷ ps) rising none rank = by_lt_z p.at at
    (λ low. absurd (let one = rank_lower at p ps low in omega (arith, one, rank)))
    (λ high. by_lt_z at p.at
    (λ above. (above, above_than at p.at ps high rising.0))
    (λ below. absurd (let some = at_same at p ps (omega (arith, ints, high, below)) in cc)))

-- or else the last one that begins earlier
pub missing_holder : (at : ℤ) (ps : List Place) (n : ℕ) → IsRising ps → is_some (place_at at ps) ≡ false → rank_of at ps ≡ suc n → IsHolder at ps n
missing_holder at [] n rising none rank = absurd (omega (arith, rank))
missing_holder at (p ∷ ps) n rising none rank = by_lt_z p.at at
    (λ low. by_rest low (rank_of at ps) refl (λ m same. missing_holder at ps m rising.1 (others low) same))
    (λ high. absurd (let no = rank_higher at p ps high in omega (arith, no, rank)))
  where
    others : p.at <ℤ at → is_some (place_at at ps) ≡ false
    others low = ap is_some (sym (at_lower at p ps low)) ∙ none

    by_rest : p.at <ℤ at → (m : ℕ) → rank_of at ps ≡ m → ((k : ℕ) → rank_of at ps ≡ suc k → IsHolder at ps k) → IsHolder at (p ∷ ps) n
    by_rest low zero same rest =
        let first : 0 ≡ n = let one = rank_lower at p ps low in omega (arith, one, rank, same) in
        subst (IsHolder at (p ∷ ps)) first (holder_first at p ps (omega (arith, ints, low)) (none_above at ps rising.1 (others low) same))
    by_rest low (suc m) same rest =
        let next : suc m ≡ n = let one = rank_lower at p ps low in omega (arith, one, rank, same) in
        subst (IsHolder at (p ∷ ps)) next (holder_more at p ps m (rest m same))

-- what a search says
cases_ok : (o : Option Place) (r i : ℕ) → ◌≡◌ {A = Result ℕ ℕ} (Ok i) (cond (is_some o) (Ok r) (Err r)) → (is_some o ≡ true) × (i ≡ r)
cases_ok (Some x) r i same = (refl, cc)
cases_ok None r i same = absurd (cc)

cases_err : (o : Option Place) (r i : ℕ) → ◌≡◌ {A = Result ℕ ℕ} (Err i) (cond (is_some o) (Ok r) (Err r)) → (is_some o ≡ false) × (i ≡ r)
cases_err (Some x) r i same = absurd (cc)
cases_err None r i same = (refl, cc)

pub holder_ok : (at : ℤ) (ps : List Place) (i : ℕ) → IsRising ps → ◌≡◌ {A = Result ℕ ℕ} (Ok i) (search_of at ps) → IsHolder at ps i
holder_ok at ps i rising same =
    let s = cases_ok (place_at at ps) (rank_of at ps) i same in
    subst (IsHolder at ps) (sym s.1) (found_holder at ps rising s.0)

pub holder_err : (at : ℤ) (ps : List Place) (i n : ℕ) → IsRising ps → ◌≡◌ {A = Result ℕ ℕ} (Err i) (search_of at ps) → i ≡ suc n → IsHolder at ps n
holder_err at ps i n rising same next =
    let s = cases_err (place_at at ps) (rank_of at ps) i same in
    missing_holder at ps n rising s.0 (sym s.1 ∙ next)

pub holder_none : (at : ℤ) (ps : List Place) (i : ℕ) → IsRising ps → ◌≡◌ {A = Result ℕ ℕ} (Err i) (search_of at ps) → i ≡ 0 → AreAbove at ps
holder_none at ps i rising same none =
    let s = cases_err (place_at at ps) (rank_of at ps) i same in
    none_above at ps rising s.0 (sym s.1 ∙ none)

-- the page of one of the places, and those before it and behind it
pub record Cut (slot : ℕ) (columns : List Column) (pages : ℕ → List ℕ) (front : List Place) (place : Place) (back : List Place) (chain : List (List Element)) : Type 0 where
  pub before : List (List Element)
  pub elements : List Element
  pub behind : List (List Element)
  pub parts : chain ≡ before ++ elements ∷ behind
  pub count : length before ≡ length front
  pub front_on : AreChained slot columns pages front before
  pub on : IsOn slot columns (pages place.page) place elements
  pub back_on : AreChained slot columns pages back behind

pub cut : (slot : ℕ) (columns : List Column) (pages : ℕ → List ℕ) (front : List Place) (place : Place) (back : List Place) (chain : List (List Element)) → AreChained slot columns pages (front ++ place ∷ back) chain
    → Cut slot columns pages front place back chain
cut slot columns pages [] place back [] on = absurd on
cut slot columns pages [] place back (es ∷ chain) on = record { before = []; elements = es; behind = chain; parts = refl; count = refl; front_on = tt; on = on.0; back_on = on.1 }
cut slot columns pages (p ∷ front) place back [] on = absurd on
cut slot columns pages (p ∷ front) place back (es ∷ chain) on =
    let rest = cut slot columns pages front place back chain on.1 in record {
      before = es ∷ rest.before;
      elements = rest.elements;
      behind = rest.behind;
      parts = ap (λ (l : List (List Element)). es ∷ l) rest.parts;
      count = ap suc rest.count;
      front_on = (on.0, rest.front_on);
      on = rest.on;
      back_on = rest.back_on;
    }

-- pages put side by side
pub chained_both : (slot : ℕ) (columns : List Column) (pages : ℕ → List ℕ) (front back : List Place) (before behind : List (List Element)) → AreChained slot columns pages front before → AreChained slot columns pages back behind
    → AreChained slot columns pages (front ++ back) (before ++ behind)
chained_both slot columns pages [] back [] behind first second = second
chained_both slot columns pages [] back (es ∷ before) behind first second = absurd first
chained_both slot columns pages (p ∷ front) back [] behind first second = absurd first
chained_both slot columns pages (p ∷ front) back (es ∷ before) behind first second = (first.0, chained_both slot columns pages front back before behind first.1 second)

-- pages that begin above a stamp have later elements alone
first_later : (at : ℤ) (begins : ℤ) (es : List Element) → first_stamp es ≡ Some begins → AreRising es → at <ℤ begins → AreLater at es
first_later at begins [] first rise above = tt
first_later at begins (e ∷ es) first rise above =
    let same : e.0 ≡ begins = some_z first in
    let low : at <ℤ e.0 = subst (λ (z : ℤ). at <ℤ z) (sym same) above in
    (low, later_than at e.0 es (omega (arith, ints, low)) (later_of e es rise))

pub chain_later : (slot : ℕ) (columns : List Column) (pages : ℕ → List ℕ) (at : ℤ) (places : List Place) (chain : List (List Element)) → AreChained slot columns pages places chain → AreAbove at places → AreLater at (all_in chain)
chain_later slot columns pages at [] [] on above = tt
chain_later slot columns pages at [] (es ∷ chain) on above = absurd on
chain_later slot columns pages at (p ∷ places) [] on above = absurd on
chain_later slot columns pages at (p ∷ places) (es ∷ chain) on above =
    later_both at es (all_in chain) (first_later at p.at es on.0.first on.0.bytes.fill.elements.rising above.0) (chain_later slot columns pages at places chain on.1 above.1)

-- what stands before an element is earlier
pub before_first : (xs : List Element) (e : Element) (ys : List Element) → AreBefore xs (e ∷ ys) → AreEarlier e.0 xs
before_first [] e ys before = tt
before_first (x ∷ xs) e ys before = (before.0.0, before_first xs e ys before.1)

before_front : (xs ys zs : List Element) → AreBefore (xs ++ ys) zs → AreBefore ys zs
before_front [] ys zs before = before
before_front (x ∷ xs) ys zs before = before_front xs ys zs before.1

-- all pages before one are earlier than its first element
pub chain_earlier : (columns : List Column) (at : ℤ) (before : List (List Element)) (es : List Element) (behind : List (List Element)) → ArePages columns (before ++ es ∷ behind) → first_stamp es ≡ Some at → AreEarlier at (all_in before)
chain_earlier columns at [] es behind pages first = tt
chain_earlier columns at (xs ∷ before) es behind pages first =
    both at xs (all_in before) (own xs (subst (AreBefore xs) (all_in-append before (es ∷ behind)) pages.1)) (chain_earlier columns at before es behind pages.2 first)
  where
    both : (at : ℤ) (xs ys : List Element) → AreEarlier at xs → AreEarlier at ys → AreEarlier at (xs ++ ys)
    both at [] ys one two = two
    both at (x ∷ xs) ys one two = (one.0, both at xs ys one.1 two)

    later_at : (z : ℤ) (ys fs rest : List Element) → first_stamp fs ≡ Some at → AreLater z (ys ++ (fs ++ rest)) → z <ℤ at
    later_at z [] [] rest is later = absurd (cc)
    later_at z [] (f ∷ fs) rest is later = let same : f.0 ≡ at = cc in subst (λ (y : ℤ). z <ℤ y) same later.0
    later_at z (y ∷ ys) fs rest is later = later_at z ys fs rest is later.1

    own : (xs : List Element) → AreBefore xs (all_in before ++ (es ++ all_in behind)) → AreEarlier at xs
    own [] all = tt
    own (x ∷ xs) all = (later_at x.0 (all_in before) es (all_in behind) first all.0, own xs all.1)

-- so the page of the place that holds a stamp is the one that the stamp belongs to
pub holder_around : (slot : ℕ) (columns : List Column) (pages : ℕ → List ℕ) (stamp : ℤ) (front : List Place) (place : Place) (back : List Place) (chain : List (List Element)) → ArePages columns chain → place.at ≤ℤ stamp → AreAbove stamp back
    → (c : Cut slot columns pages front place back chain) → IsAround stamp c.before c.behind
holder_around slot columns pages stamp front place back chain are begins above c = record {
  earlier = earlier_than place.at stamp (all_in c.before) begins (chain_earlier columns place.at c.before c.elements c.behind (subst (ArePages columns) c.parts are) c.on.first);
  later = chain_later slot columns pages stamp back c.behind c.back_on above;
}
