-- How many different pages the offsets of elements belong to, by the places of their pages.
use Rattle.std.proofs.Common.{◌≡◌, ◌≢◌, ℕ, suc, ◌+◌, ◌-◌, ◌*◌, ◌/◌, ◌%◌, ◌<◌, ◌≤◌, ◌==◌, Bool, true, false, cond, Option, Some, None, is_some, List, [], ◌∷◌, ◌++◌, length, map, refl, sym, ap, ◌∙◌, subst, arith, inl, inr, ℤ, pos}
use Rattle.std.specs.Prelude.{◌||◌}
use Rattle.std.specs.List.{list_any}
use Rattle.std.specs.Ordering.{int_eq}
use Rattle.std.proofs.lemmas.Bool.{cases_lt}
use Rattle.std.proofs.lemmas.Int.{ints}
use Rattle.std.proofs.lemmas.List.Folds.{list_any-append}
use Rattle.std.proofs.Math.Nat.{mod-add-div, mul-le-mul_left}
use Rattle.ts_space.specs.declared.place.Place.{Place}
use Rattle.ts_space.specs.Place.{AreAbove, IsRising, place_at}
use Rattle.ts_space.specs.Charge.{distinct_count}
use Rattle.ts_space.proofs.PlaceLemmas.{int_eq_same, int_eq_lower, int_eq_higher}
use Rattle.ts_row.specs.declared.kind.Column.{Column}
use Rattle.ts_row.specs.Row.{Row}
use Rattle.ts_regular.specs.RegularPage.{Cell, regular_room, base_of, OffsetElement, elements_from, with_element}
use Rattle.ts_regular.specs.Places.{OffsetPage, IsOn, AreOn, all_in}
use Rattle.ts_regular.proofs.OffsetLemmas.{AreMore, eq_yes, eq_no, with_above, with_below, with_same}
use Rattle.ts_regular.proofs.CellsLemmas.{count_in, count_within}
use Rattle.ts_regular.proofs.PlaceLemmas.{pages_more}
use Rattle.ts_sheets.specs.Charge.{charge_of, pages_with}

-- the numbers of the pages of r offsets each that elements belong to
abbrev pages_hit : ℕ → List OffsetElement → List ℕ
pages_hit r es = map (λ offset. offset / r) (map (λ e. e.0) es)

-- some of these is the page of a number
abbrev hits : ℕ → List ℕ → Bool
hits page pages = list_any (λ y. y == page) pages

-- all elements belong to one page
abbrev AllOn : ℕ → ℕ → List OffsetElement → Type 0
AllOn r page [] = Unit {0}
AllOn r page (e ∷ es) = (e.0 / r ≡ page) × AllOn r page es

-- one page, and others behind it
pub one_page : (r page : ℕ) (es fs : List OffsetElement) → AllOn r page es → 1 ≤ length es → hits page (pages_hit r fs) ≡ false
    → distinct_count (pages_hit r (es ++ fs)) ≡ 1 + distinct_count (pages_hit r fs)
one_page r page [] fs all some none = absurd (omega (arith, some))
one_page r page (e ∷ []) fs all some none =
    ap (λ (t : Bool). cond t 0 1 + distinct_count (pages_hit r fs)) (ap (λ (n : ℕ). hits n (pages_hit r fs)) all.0 ∙ none)
one_page r page (e ∷ f ∷ es) fs all some none =
    let rest = pages_hit r (es ++ fs) in
    let same : (f.0 / r == e.0 / r) ≡ true = eq_yes (f.0 / r) (e.0 / r) (all.1.0 ∙ sym all.0) in
    let here : ◌≡◌ {A = ℕ} (cond (hits (e.0 / r) (f.0 / r ∷ rest)) 0 1) 0 = ap (λ (t : Bool). cond (t || hits (e.0 / r) rest) 0 1) same in
    let behind = one_page r page (f ∷ es) fs all.1 (omega arith) none in
    ap (λ (n : ℕ). n + distinct_count (f.0 / r ∷ rest)) here ∙ omega (arith, behind)

-- an offset belongs to the page of the base that it is among the cells of
page_of_base : (r base at : ℕ) → base % r ≡ 0 → base ≤ at → at < base + r → at / r ≡ base / r
page_of_base r base at whole low high =
    let some : 0 < r = omega (arith, low, high) in
    let one = mod-add-div base r in
    let two = mod-add-div at r in
    elim (cases_lt (base / r) (at / r)) [
      | inl less ↦
          let more : r * suc (base / r) ≤ r * (at / r) = mul-le-mul_left r (omega (arith, less)) in
          let split : r * suc (base / r) ≡ r * (base / r) + r = grind arith in
          absurd (omega (arith, one, two, whole, more, split, high))
      | inr not_less ↦ elim (cases_lt (at / r) (base / r)) [
        | inl less ↦
            let more : r * suc (at / r) ≤ r * (base / r) = mul-le-mul_left r (omega (arith, less)) in
            let split : r * suc (at / r) ≡ r * (at / r) + r = grind arith in
            absurd (omega (arith, some, one, two, whole, more, split, low))
        | inr not_more ↦ omega (arith, not_less, not_more)
      ]
    ]

pub cells_on : (r base at : ℕ) (cells : List Cell) → base % r ≡ 0 → base ≤ at → at + length cells ≤ base + r → AllOn r (base / r) (elements_from at cells)
cells_on r base at [] whole low high = tt
cells_on r base at (None ∷ cells) whole low high = cells_on r base (at + 1) cells whole (omega (arith, low)) (omega (arith, high))
cells_on r base at (Some row ∷ cells) whole low high =
    (page_of_base r base at whole low (omega (arith, high)), cells_on r base (at + 1) cells whole (omega (arith, low)) (omega (arith, high)))

-- greater offsets belong to other pages
other_page : (r base n at : ℕ) → base % r ≡ 0 → 0 < r → n + 1 ≡ base + r → n < at → at / r ≢ base / r
other_page r base n at whole some last more same =
    let one = mod-add-div base r in
    let two = mod-add-div at r in
    let times = ap (λ (x : ℕ). r * x) same in
    omega (arith, one, two, whole, some, last, more, times)

pub none_hit : (r base n : ℕ) (es : List OffsetElement) → base % r ≡ 0 → 0 < r → n + 1 ≡ base + r → AreMore n es → hits (base / r) (pages_hit r es) ≡ false
none_hit r base n [] whole some last more = refl
none_hit r base n (e ∷ es) whole some last more =
    ap (λ (t : Bool). t || hits (base / r) (pages_hit r es)) (eq_no (e.0 / r) (base / r) (other_page r base n e.0 whole some last more.0)) ∙ none_hit r base n es whole some last more.1

-- what one page has
module _ (slot : ℕ) (columns : List Column) (page : List ℕ) (place : Place) (p : OffsetPage) (on : IsOn slot columns page place p) where
  room_some : 0 < regular_room columns
  room_some = omega (arith, on.bytes.fill.room, on.bytes.fill.some, count_within p.1)

  own_on : AllOn (regular_room columns) (p.0 / regular_room columns) (elements_from p.0 p.1)
  own_on = cells_on (regular_room columns) p.0 p.0 p.1 on.bytes.whole (omega arith) (omega (arith, on.bytes.fill.room))

  own_some : 1 ≤ length (elements_from p.0 p.1)
  own_some = omega (arith, on.bytes.fill.some, count_in p.0 p.1)

pub charged : (slot : ℕ) (columns : List Column) (pages : ℕ → List ℕ) (places : List Place) (ps : List OffsetPage) → AreOn slot columns pages places ps → IsRising places → charge_of columns (all_in ps) ≡ length places
charged slot columns pages [] [] on rising = refl
charged slot columns pages [] (p ∷ ps) on rising = absurd on
charged slot columns pages (q ∷ places) [] on rising = absurd on
charged slot columns pages (q ∷ places) (p ∷ ps) on rising =
    let r = regular_room columns in
    let some = room_some slot columns (pages q.page) q p on.0 in
    let last = p.0 + r - 1 in
    let is_last : last + 1 ≡ p.0 + r = omega (arith, some) in
    let above : AreAbove (pos p.0) places = subst (λ (z : ℤ). AreAbove z places) on.0.at rising.0 in
    let more : AreMore last (all_in ps) = pages_more slot columns pages last p.0 places ps on.0.bytes.whole (omega (arith, is_last)) above on.1 in
    let whole = one_page r (p.0 / r) (elements_from p.0 p.1) (all_in ps) (own_on slot columns (pages q.page) q p on.0) (own_some slot columns (pages q.page) q p on.0)
    (none_hit r p.0 last (all_in ps) on.0.bytes.whole some is_last more) in
    let rest = charged slot columns pages places ps on.1 rising.1 in
    whole ∙ omega (arith, rest)

-- one element more
or_same : (x y : Bool) → (x || y) ≡ (x || (x || y))
or_same true y = refl
or_same false y = refl

or_swap : (x y z : Bool) → (x || (y || z)) ≡ (y || (x || z))
or_swap true true z = refl
or_swap true false z = refl
or_swap false true z = refl
or_swap false false z = refl

module _ (r n : ℕ) (row : Row) where
  hits_with : (page : ℕ) (es : List OffsetElement) → hits page (pages_hit r (with_element n row es)) ≡ ((n / r == page) || hits page (pages_hit r es))
  hits_with page [] = refl
  hits_with page (e ∷ es) = elim (cases_lt n e.0) [
    | inl low ↦ ap (λ (l : List OffsetElement). hits page (pages_hit r l)) (with_above n row e es low)
    | inr high ↦ elim (cases_lt e.0 n) [
      | inl above ↦ ap (λ (l : List OffsetElement). hits page (pages_hit r l)) (with_below n row e es above)
          ∙ ap (λ (t : Bool). (e.0 / r == page) || t) (hits_with page es) ∙ or_swap (e.0 / r == page) (n / r == page) (hits page (pages_hit r es))
      | inr below ↦
          let same : n ≡ e.0 = omega (arith, high, below) in
          ap (λ (l : List OffsetElement). hits page (pages_hit r l)) (with_same n row e es same)
          ∙ or_same (e.0 / r == page) (hits page (pages_hit r es))
          ∙ ap (λ (m : ℕ). (m / r == page) || ((e.0 / r == page) || hits page (pages_hit r es))) (sym same)
    ]
  ]

  -- two pages in either order
  either_order : (a b : ℕ) (pages : List ℕ) (more : ℕ) → cond ((b == a) || hits a pages) 0 1 + (cond (hits b pages) 0 1 + more) ≡ cond ((a == b) || hits b pages) 0 1 + (cond (hits a pages) 0 1 + more)
  either_order a b pages more = elim (cases_lt a b) [
    | inl low ↦ apart (eq_no b a (λ same. omega (arith, same, low))) (eq_no a b (λ same. omega (arith, same, low)))
    | inr high ↦ elim (cases_lt b a) [
      | inl above ↦ apart (eq_no b a (λ same. omega (arith, same, above))) (eq_no a b (λ same. omega (arith, same, above)))
      | inr below ↦ alike (omega (arith, high, below))
    ]
  ]
    where
      swap : (x y z : ℕ) → x + (y + z) ≡ y + (x + z)
      swap x y z = omega arith

      apart : (b == a) ≡ false → (a == b) ≡ false → cond ((b == a) || hits a pages) 0 1 + (cond (hits b pages) 0 1 + more) ≡ cond ((a == b) || hits b pages) 0 1 + (cond (hits a pages) 0 1 + more)
      apart first second =
          ap (λ (t : Bool). cond (t || hits a pages) 0 1 + (cond (hits b pages) 0 1 + more)) first
          ∙ swap (cond (hits a pages) 0 1) (cond (hits b pages) 0 1) more
          ∙ ap (λ (t : Bool). cond (t || hits b pages) 0 1 + (cond (hits a pages) 0 1 + more)) (sym second)

      alike : a ≡ b → cond ((b == a) || hits a pages) 0 1 + (cond (hits b pages) 0 1 + more) ≡ cond ((a == b) || hits b pages) 0 1 + (cond (hits a pages) 0 1 + more)
      alike same = λ i. cond ((sym same i == same i) || hits (same i) pages) 0 1 + (cond (hits (sym same i) pages) 0 1 + more)

  distinct_with : (es : List OffsetElement) → distinct_count (pages_hit r (with_element n row es)) ≡ cond (hits (n / r) (pages_hit r es)) 0 1 + distinct_count (pages_hit r es)
  distinct_with [] = refl
  distinct_with (e ∷ es) = elim (cases_lt n e.0) [
    | inl low ↦ ap (λ (l : List OffsetElement). distinct_count (pages_hit r l)) (with_above n row e es low)
    | inr high ↦ elim (cases_lt e.0 n) [
      | inl above ↦ ap (λ (l : List OffsetElement). distinct_count (pages_hit r l)) (with_below n row e es above)
          ∙ ap (λ (t : Bool). cond t 0 1 + distinct_count (pages_hit r (with_element n row es))) (hits_with (e.0 / r) es)
          ∙ ap (λ (m : ℕ). cond ((n / r == e.0 / r) || hits (e.0 / r) (pages_hit r es)) 0 1 + m) (distinct_with es)
          ∙ either_order (e.0 / r) (n / r) (pages_hit r es) (distinct_count (pages_hit r es))
      | inr below ↦
          let same : n ≡ e.0 = omega (arith, high, below) in
          let here : ◌≡◌ {A = ℕ} (cond (hits (n / r) (pages_hit r (e ∷ es))) 0 1) 0 = ap (λ (t : Bool). cond (t || hits (n / r) (pages_hit r es)) 0 1) (eq_yes (e.0 / r) (n / r) (ap (λ (m : ℕ). m / r) (sym same))) in
          ap (λ (l : List OffsetElement). distinct_count (pages_hit r l)) (with_same n row e es same)
          ∙ omega (arith, here)
    ]
  ]

-- elements of one page hit that one
none_or : (x : Bool) → (x || false) ≡ x
none_or true = refl
none_or false = refl

hits_more : (r page other : ℕ) (es : List OffsetElement) → AllOn r page es → ((page == other) || hits other (pages_hit r es)) ≡ (page == other)
hits_more r page other [] all = none_or (page == other)
hits_more r page other (e ∷ es) all =
    ap (λ (n : ℕ). (page == other) || ((n == other) || hits other (pages_hit r es))) all.0
    ∙ sym (or_same (page == other) (hits other (pages_hit r es)))
    ∙ hits_more r page other es all.1

hits_all : (r page other : ℕ) (es : List OffsetElement) → AllOn r page es → 1 ≤ length es → hits other (pages_hit r es) ≡ (page == other)
hits_all r page other [] all some = absurd (omega (arith, some))
hits_all r page other (e ∷ es) all some = ap (λ (n : ℕ). (n == other) || hits other (pages_hit r es)) all.0 ∙ hits_more r page other es all.1

-- the page of an offset is hit exactly where a place begins at its base
begins_same : (r base offset : ℕ) (at : ℤ) → base % r ≡ 0 → 0 < r → at ≡ pos base → int_eq at (pos ((offset / r) * r)) ≡ (base / r == offset / r)
begins_same r base offset at whole some is =
    let one = mod-add-div base r in
    let own : base ≡ (base / r) * r = omega (arith, one, whole) in
    elim (cases_lt (base / r) (offset / r)) [
      | inl less ↦
          let more : r * suc (base / r) ≤ r * (offset / r) = mul-le-mul_left r (omega (arith, less)) in
          let split : r * suc (base / r) ≡ r * (base / r) + r = grind arith in
          int_eq_lower at (pos ((offset / r) * r)) (omega (arith, ints, is, one, whole, some, more, split)) ∙ sym (eq_no (base / r) (offset / r) (λ same. omega (arith, same, less)))
      | inr not_less ↦ elim (cases_lt (offset / r) (base / r)) [
        | inl less ↦
            let more : r * suc (offset / r) ≤ r * (base / r) = mul-le-mul_left r (omega (arith, less)) in
            let split : r * suc (offset / r) ≡ r * (offset / r) + r = grind arith in
            int_eq_higher at (pos ((offset / r) * r)) (omega (arith, ints, is, one, whole, some, more, split)) ∙ sym (eq_no (base / r) (offset / r) (λ same. omega (arith, same, less)))
        | inr not_more ↦
            let same : base / r ≡ offset / r = omega (arith, not_less, not_more) in
            int_eq_same at (pos ((offset / r) * r)) (is ∙ ap pos (own ∙ ap (λ (x : ℕ). x * r) same)) ∙ sym (eq_yes (base / r) (offset / r) same)
      ]
    ]

some_or : (t : Bool) (q : Place) (o : Option Place) → is_some (cond t (Some q) o) ≡ (t || is_some o)
some_or true q o = refl
some_or false q o = refl

pages_both : (r : ℕ) (es fs : List OffsetElement) → pages_hit r (es ++ fs) ≡ pages_hit r es ++ pages_hit r fs
pages_both r [] fs = refl
pages_both r (e ∷ es) fs = ap (λ (l : List ℕ). e.0 / r ∷ l) (pages_both r es fs)

hit_is_place : (slot : ℕ) (columns : List Column) (pages : ℕ → List ℕ) (offset : ℕ) (places : List Place) (ps : List OffsetPage) → AreOn slot columns pages places ps
    → hits (offset / regular_room columns) (pages_hit (regular_room columns) (all_in ps)) ≡ is_some (place_at (pos (base_of columns offset)) places)
hit_is_place slot columns pages offset [] [] on = refl
hit_is_place slot columns pages offset [] (p ∷ ps) on = absurd on
hit_is_place slot columns pages offset (q ∷ places) [] on = absurd on
hit_is_place slot columns pages offset (q ∷ places) (p ∷ ps) on =
    let r = regular_room columns in
    let page = offset / r in
    let own = elements_from p.0 p.1 in
    let rest = hit_is_place slot columns pages offset places ps on.1 in
    let some = room_some slot columns (pages q.page) q p on.0 in
    let here = hits_all r (p.0 / r) page own (own_on slot columns (pages q.page) q p on.0) (own_some slot columns (pages q.page) q p on.0) in
    let begins = begins_same r p.0 offset q.at on.0.bytes.whole some on.0.at in
    ap (hits page) (pages_both r own (all_in ps))
    ∙ list_any-append (λ y. y == page) (pages_hit r own) (pages_hit r (all_in ps))
    ∙ (λ i. here i || rest i)
    ∙ ap (λ (t : Bool). t || is_some (place_at (pos (base_of columns offset)) places)) (sym begins)
    ∙ sym (some_or (int_eq q.at (pos (base_of columns offset))) q (place_at (pos (base_of columns offset)) places))

one_more : (t : Bool) (n : ℕ) → cond t 0 1 + n ≡ cond t n (n + 1)
one_more true n = omega arith
one_more false n = omega arith

pub charged_with : (slot : ℕ) (columns : List Column) (pages : ℕ → List ℕ) (places : List Place) (ps : List OffsetPage) → AreOn slot columns pages places ps → IsRising places
    → (offset : ℕ) (row : Row) → charge_of columns (with_element offset row (all_in ps)) ≡ pages_with columns offset places
charged_with slot columns pages places ps on rising offset row =
    let r = regular_room columns in
    distinct_with r offset row (all_in ps)
    ∙ ap (λ (t : Bool). cond t 0 1 + distinct_count (pages_hit r (all_in ps))) (hit_is_place slot columns pages offset places ps on)
    ∙ ap (λ (n : ℕ). cond (is_some (place_at (pos (base_of columns offset)) places)) 0 1 + n) (charged slot columns pages places ps on rising)
    ∙ one_more (is_some (place_at (pos (base_of columns offset)) places)) (length places)
