-- The place that a search finds, or where one would stand; and the pages beside it.
use Rattle.std.proofs.Common.{◌≡◌, ℕ, suc, ◌+◌, ◌*◌, ◌/◌, ◌%◌, ◌<◌, ◌≤◌, true, false, ℤ, pos, ◌<ℤ◌, ◌≤ℤ◌, Option, Some, None, is_some, Result, Ok, Err, cond, List, [], ◌∷◌, ◌++◌, length, refl, sym, ap, subst, ◌∙◌, arith, append_assoc, inl, inr}
use Rattle.std.proofs.lemmas.Int.{by_lt_z, ints}
use Rattle.std.proofs.lemmas.Bool.{cases_lt}
use Rattle.std.proofs.Math.Nat.{mod-add-div, mul-le-mul_left}
use Rattle.ts_space.specs.declared.place.Place.{Place}
use Rattle.ts_space.specs.Place.{AreAbove, AreBelow, IsRising, place_at, rank_of, search_of}
use Rattle.ts_space.proofs.PlaceLemmas.{int_lt_yes, int_lt_no, int_eq_same, int_eq_lower, int_eq_higher, none_found}
use Rattle.ts_row.specs.declared.kind.Column.{Column}
use Rattle.ts_regular.specs.RegularPage.{regular_room, OffsetElement, AreRising, elements_from}
use Rattle.ts_regular.specs.Places.{OffsetPage, all_in, IsOn, AreOn}
use Rattle.ts_regular.proofs.OffsetLemmas.{AreLess, AreMore, less_both, more_both}
use Rattle.ts_regular.proofs.CellsLemmas.{less_cells, more_cells, rising_cells}

-- the place of an index begins here
pub record IsFound (at : ℤ) (places : List Place) (index : ℕ) : Type 0 where
  pub front : List Place
  pub place : Place
  pub back : List Place
  pub parts : places ≡ front ++ place ∷ back
  pub index_is : length front ≡ index
  pub begins : place.at ≡ at
  pub below : AreBelow at front
  pub above : AreAbove at back

-- none begins here; one would stand at this index
pub record IsGap (at : ℤ) (places : List Place) (index : ℕ) : Type 0 where
  pub front : List Place
  pub back : List Place
  pub parts : places ≡ front ++ back
  pub index_is : length front ≡ index
  pub below : AreBelow at front
  pub above : AreAbove at back

-- places above a lower number
pub above_than : (low high : ℤ) (ps : List Place) → low ≤ℤ high → AreAbove high ps → AreAbove low ps
above_than low high [] below above = tt
above_than low high (p ∷ ps) below above =
    let first = above.0 in
    (omega (arith, ints, below, first), above_than low high ps below above.1)

pub rank_lower : (at : ℤ) (p : Place) (ps : List Place) → p.at <ℤ at → rank_of at (p ∷ ps) ≡ suc (rank_of at ps)
rank_lower at p ps low = rw (int_lt_yes p.at at low) refl

pub rank_higher : (at : ℤ) (p : Place) (ps : List Place) → at ≤ℤ p.at → rank_of at (p ∷ ps) ≡ 0
rank_higher at p ps high = rw (int_lt_no p.at at high) refl

pub at_lower : (at : ℤ) (p : Place) (ps : List Place) → p.at <ℤ at → place_at at (p ∷ ps) ≡ place_at at ps
at_lower at p ps low = rw (int_eq_lower p.at at low) refl

at_higher : (at : ℤ) (p : Place) (ps : List Place) → at <ℤ p.at → place_at at (p ∷ ps) ≡ place_at at ps
at_higher at p ps high = rw (int_eq_higher p.at at high) refl

at_same : (at : ℤ) (p : Place) (ps : List Place) → p.at ≡ at → place_at at (p ∷ ps) ≡ Some p
at_same at p ps same = rw (int_eq_same p.at at same) refl

found_more : (at : ℤ) (p : Place) (ps : List Place) (n : ℕ) → p.at <ℤ at → IsFound at ps n → IsFound at (p ∷ ps) (suc n)
found_more at p ps n low f = record {
  front = p ∷ f.front;
  place = f.place;
  back = f.back;
  parts = ap (λ (l : List Place). p ∷ l) f.parts;
  index_is = ap suc f.index_is;
  begins = f.begins;
  below = (low, f.below);
  above = f.above;
}

found_place : (at : ℤ) (ps : List Place) → IsRising ps → is_some (place_at at ps) ≡ true → IsFound at ps (rank_of at ps)
found_place at [] rising found = absurd (cc)
found_place at (p ∷ ps) rising found = by_lt_z p.at at
    (λ low. let rest = found_place at ps rising.1 (ap is_some (sym (at_lower at p ps low)) ∙ found) in
    subst (IsFound at (p ∷ ps)) (sym (rank_lower at p ps low)) (found_more at p ps (rank_of at ps) low rest))
    (λ high. by_lt_z at p.at
    (λ above. absurd (let none = at_higher at p ps above ∙ none_found ps at p.at rising.0 high in cc))
    (λ below.
    let same : p.at ≡ at = omega (arith, ints, high, below) in
    subst (IsFound at (p ∷ ps)) (sym (rank_higher at p ps high))
    (record { front = []; place = p; back = ps; parts = refl; index_is = refl; begins = same; below = tt; above = above_than at p.at ps high rising.0 })))

gap_more : (at : ℤ) (p : Place) (ps : List Place) (n : ℕ) → p.at <ℤ at → IsGap at ps n → IsGap at (p ∷ ps) (suc n)
gap_more at p ps n low f = record {
  front = p ∷ f.front;
  back = f.back;
  parts = ap (λ (l : List Place). p ∷ l) f.parts;
  index_is = ap suc f.index_is;
  below = (low, f.below);
  above = f.above;
}

gap_place : (at : ℤ) (ps : List Place) → IsRising ps → is_some (place_at at ps) ≡ false → IsGap at ps (rank_of at ps)
gap_place at [] rising none = record { front = []; back = []; parts = refl; index_is = refl; below = tt; above = tt }
gap_place at (p ∷ ps) rising none = by_lt_z p.at at
    (λ low. let rest = gap_place at ps rising.1 (ap is_some (sym (at_lower at p ps low)) ∙ none) in
    subst (IsGap at (p ∷ ps)) (sym (rank_lower at p ps low)) (gap_more at p ps (rank_of at ps) low rest))
    (λ high. by_lt_z at p.at
    (λ above. subst (IsGap at (p ∷ ps)) (sym (rank_higher at p ps high))
    (record { front = []; back = p ∷ ps; parts = refl; index_is = refl; below = tt; above = (above, above_than at p.at ps high rising.0) }))
    (λ below. absurd (let some = at_same at p ps (omega (arith, ints, high, below)) in cc)))

-- what a search says
cases_ok : (o : Option Place) (r i : ℕ) → ◌≡◌ {A = Result ℕ ℕ} (Ok i) (cond (is_some o) (Ok r) (Err r)) → (is_some o ≡ true) × (i ≡ r)
cases_ok (Some x) r i same = (refl, cc)
cases_ok None r i same = absurd (cc)

cases_err : (o : Option Place) (r i : ℕ) → ◌≡◌ {A = Result ℕ ℕ} (Err i) (cond (is_some o) (Ok r) (Err r)) → (is_some o ≡ false) × (i ≡ r)
cases_err (Some x) r i same = absurd (cc)
cases_err None r i same = (refl, cc)

pub found_ok : (at : ℤ) (ps : List Place) (i : ℕ) → IsRising ps → ◌≡◌ {A = Result ℕ ℕ} (Ok i) (search_of at ps) → IsFound at ps i
found_ok at ps i rising same =
    let s = cases_ok (place_at at ps) (rank_of at ps) i same in
    subst (IsFound at ps) (sym s.1) (found_place at ps rising s.0)

pub gap_err : (at : ℤ) (ps : List Place) (i : ℕ) → IsRising ps → ◌≡◌ {A = Result ℕ ℕ} (Err i) (search_of at ps) → IsGap at ps i
gap_err at ps i rising same =
    let s = cases_err (place_at at ps) (rank_of at ps) i same in
    subst (IsGap at ps) (sym s.1) (gap_place at ps rising s.0)

none_of : (o : Option Place) → is_some o ≡ false → o ≡ None
none_of None none = refl
none_of (Some p) none = absurd (cc)

pub none_err : (at : ℤ) (ps : List Place) (i : ℕ) → ◌≡◌ {A = Result ℕ ℕ} (Err i) (search_of at ps) → place_at at ps ≡ None
none_err at ps i same = none_of (place_at at ps) (cases_err (place_at at ps) (rank_of at ps) i same).0

-- of two multiples the greater is greater by one of them at least
pub multiples : (r a b : ℕ) → a % r ≡ 0 → b % r ≡ 0 → a < b → a + r ≤ b
multiples r a b first second less =
    let one = mod-add-div a r in
    let two = mod-add-div b r in
    elim (cases_lt (a / r) (b / r)) [
      | inl low ↦
          let more : r * suc (a / r) ≤ r * (b / r) = mul-le-mul_left r (omega (arith, low)) in
          let split : r * suc (a / r) ≡ r * (a / r) + r = grind arith in
          omega (arith, one, two, first, second, more, split)
      | inr high ↦
          let more : r * (b / r) ≤ r * (a / r) = mul-le-mul_left r (omega (arith, high)) in
          absurd (omega (arith, one, two, first, second, more, less))
    ]

-- the pages of two parts of the places
pub record Parted (slot : ℕ) (columns : List Column) (pages : ℕ → List ℕ) (front back : List Place) (ps : List OffsetPage) : Type 0 where
  pub before : List OffsetPage
  pub behind : List OffsetPage
  pub parts : ps ≡ before ++ behind
  pub front_on : AreOn slot columns pages front before
  pub back_on : AreOn slot columns pages back behind

pub part : (slot : ℕ) (columns : List Column) (pages : ℕ → List ℕ) (front back : List Place) (ps : List OffsetPage) → AreOn slot columns pages (front ++ back) ps → Parted slot columns pages front back ps
part slot columns pages [] back ps on = record { before = []; behind = ps; parts = refl; front_on = tt; back_on = on }
part slot columns pages (q ∷ front) back [] on = absurd on
part slot columns pages (q ∷ front) back (p ∷ ps) on =
    let rest = part slot columns pages front back ps on.1 in
    record { before = p ∷ rest.before; behind = rest.behind; parts = ap (λ (l : List OffsetPage). p ∷ l) rest.parts; front_on = (on.0, rest.front_on); back_on = rest.back_on }

-- and one of them
pub record Cut (slot : ℕ) (columns : List Column) (pages : ℕ → List ℕ) (front : List Place) (place : Place) (back : List Place) (ps : List OffsetPage) : Type 0 where
  pub before : List OffsetPage
  pub page : OffsetPage
  pub behind : List OffsetPage
  pub parts : ps ≡ before ++ page ∷ behind
  pub front_on : AreOn slot columns pages front before
  pub on : IsOn slot columns (pages place.page) place page
  pub back_on : AreOn slot columns pages back behind

pub cut : (slot : ℕ) (columns : List Column) (pages : ℕ → List ℕ) (front : List Place) (place : Place) (back : List Place) (ps : List OffsetPage) → AreOn slot columns pages (front ++ place ∷ back) ps → Cut slot columns pages front place back ps
cut slot columns pages front place back ps on = by_behind (part slot columns pages front (place ∷ back) ps on)
  where
    with_behind : (before behind : List OffsetPage) → ps ≡ before ++ behind → AreOn slot columns pages front before → AreOn slot columns pages (place ∷ back) behind → Cut slot columns pages front place back ps
    with_behind before [] parts first second = absurd second
    with_behind before (p ∷ behind) parts first second = record { before = before; page = p; behind = behind; parts = parts; front_on = first; on = second.0; back_on = second.1 }

    by_behind : Parted slot columns pages front (place ∷ back) ps → Cut slot columns pages front place back ps
    by_behind c = with_behind c.before c.behind c.parts c.front_on c.back_on

-- pages put side by side
pub on_both : (slot : ℕ) (columns : List Column) (pages : ℕ → List ℕ) (front back : List Place) (before behind : List OffsetPage) → AreOn slot columns pages front before → AreOn slot columns pages back behind → AreOn slot columns pages (front ++ back) (before ++ behind)
on_both slot columns pages [] back [] behind first second = second
on_both slot columns pages [] back (p ∷ before) behind first second = absurd first
on_both slot columns pages (q ∷ front) back [] behind first second = absurd first
on_both slot columns pages (q ∷ front) back (p ∷ before) behind first second = (first.0, on_both slot columns pages front back before behind first.1 second)

pub all_both : (before behind : List OffsetPage) → all_in (before ++ behind) ≡ all_in before ++ all_in behind
all_both [] behind = refl
all_both (p ∷ before) behind = ap (λ (l : List OffsetElement). elements_from p.0 p.1 ++ l) (all_both before behind) ∙ sym (append_assoc (elements_from p.0 p.1) (all_in before) (all_in behind))

-- pages before a base have lesser offsets alone
pub pages_less : (slot : ℕ) (columns : List Column) (pages : ℕ → List ℕ) (n base : ℕ) (places : List Place) (ps : List OffsetPage) → base % regular_room columns ≡ 0 → base ≤ n → AreBelow (pos base) places → AreOn slot columns pages places ps → AreLess n (all_in ps)
pages_less slot columns pages n base [] [] whole low below on = tt
pages_less slot columns pages n base [] (p ∷ ps) whole low below on = absurd on
pages_less slot columns pages n base (q ∷ places) [] whole low below on = absurd on
pages_less slot columns pages n base (q ∷ places) (p ∷ ps) whole low below on =
    let first = below.0 in
    let same = on.0.at in
    let less : p.0 < base = omega (arith, ints, first, same) in
    let step = multiples (regular_room columns) p.0 base on.0.bytes.whole whole less in
    let room = on.0.bytes.fill.room in
    less_both n (elements_from p.0 p.1) (all_in ps) (less_cells n p.0 p.1 (omega (arith, step, room, low))) (pages_less slot columns pages n base places ps whole low below.1 on.1)

-- and those behind it greater ones
pub pages_more : (slot : ℕ) (columns : List Column) (pages : ℕ → List ℕ) (n base : ℕ) (places : List Place) (ps : List OffsetPage) → base % regular_room columns ≡ 0 → n < base + regular_room columns → AreAbove (pos base) places → AreOn slot columns pages places ps → AreMore n (all_in ps)
pages_more slot columns pages n base [] [] whole high above on = tt
pages_more slot columns pages n base [] (p ∷ ps) whole high above on = absurd on
pages_more slot columns pages n base (q ∷ places) [] whole high above on = absurd on
pages_more slot columns pages n base (q ∷ places) (p ∷ ps) whole high above on =
    let first = above.0 in
    let same = on.0.at in
    let less : base < p.0 = omega (arith, ints, first, same) in
    let step = multiples (regular_room columns) base p.0 whole on.0.bytes.whole less in
    more_both n (elements_from p.0 p.1) (all_in ps) (more_cells n p.0 p.1 (omega (arith, step, high))) (pages_more slot columns pages n base places ps whole high above.1 on.1)

-- the elements of all pages rise
pub pages_rise : (slot : ℕ) (columns : List Column) (pages : ℕ → List ℕ) (places : List Place) (ps : List OffsetPage) → AreOn slot columns pages places ps → IsRising places → AreRising (all_in ps)
pages_rise slot columns pages [] [] on rising = tt
pages_rise slot columns pages [] (p ∷ ps) on rising = absurd on
pages_rise slot columns pages (q ∷ places) [] on rising = absurd on
pages_rise slot columns pages (q ∷ places) (p ∷ ps) on rising =
    let above : AreAbove (pos p.0) places = subst (λ (z : ℤ). AreAbove z places) on.0.at rising.0 in
    let room = on.0.bytes.fill.room in
    rising_cells p.0 p.1 (all_in ps) (λ n below. pages_more slot columns pages n p.0 places ps on.0.bytes.whole (omega (arith, below, room)) above on.1) (pages_rise slot columns pages places ps on.1 rising.1)
