-- The elements of a range, among elements in the order of their stamps.
use Rattle.std.proofs.Common.{◌≡◌, ℕ, zero, suc, ◌-◌, ◌≤◌, ℤ, ◌<ℤ◌, ◌≤ℤ◌, List, [], ◌∷◌, ◌++◌, length, take, drop, refl, sym, ap, subst, ◌∙◌, not, arith, length-drop, append-nil}
use Rattle.std.specs.Prelude.{int_lt}
use Rattle.std.proofs.lemmas.Int.{by_lt_z, ints}
use Rattle.std.proofs.lemmas.List.{take_at, drop_at}
use Rattle.std.proofs.lemmas.List.Elements.{filter-append}
use Rattle.std.proofs.lemmas.List.Filters.{length-filter_both}
use Rattle.ts_space.specs.declared.place.Place.{Place}
use Rattle.ts_space.specs.Place.{AreAbove}
use Rattle.ts_row.specs.declared.kind.Column.{Column}
use Rattle.ts_row.specs.Row.{Element}
use Rattle.ts_cells.specs.IrregularPage.{AreRising}
use Rattle.ts_irregular.proofs.EditLemmas.{int_lt_yes, int_lt_no}
use Rattle.ts_sheets.specs.Stamped.{all_in, AreEarlier, AreLater, ArePages, earlier, is_within, within_range}
use Rattle.ts_sheets.specs.Places.{AreChained}
use Rattle.ts_sheets.proofs.OrderLemmas.{all_in-append, later_than, later_of, rising_tail}
use Rattle.ts_chain.proofs.LastLemmas.{chained_count}
use Rattle.ts_chain.proofs.PlaceLemmas.{chain_later}
use Rattle.ts_series.specs.Ends.{later, IsRange}
use Rattle.ts_series.proofs.ChainLemmas.{part_in, before_range}
use Rattle.ts_series.proofs.RangeLemmas.{later_all, earlier_none}
use Rattle.ts_clip.specs.Chain.{HaveRange}

-- one element more
within_low : (from to : ℤ) (e : Element) (es : List Element) → e.0 <ℤ from → within_range from to (e ∷ es) ≡ within_range from to es
within_low from to e es low = rw (int_lt_yes e.0 from low) refl

within_high : (from to : ℤ) (e : Element) (es : List Element) → from ≤ℤ e.0 → to <ℤ e.0 → within_range from to (e ∷ es) ≡ within_range from to es
within_high from to e es low high = rw (int_lt_no e.0 from low, int_lt_yes to e.0 high) refl

pub within_here : (from to : ℤ) (e : Element) (es : List Element) → from ≤ℤ e.0 → e.0 ≤ℤ to → within_range from to (e ∷ es) ≡ e ∷ within_range from to es
within_here from to e es low high = rw (int_lt_no e.0 from low, int_lt_no to e.0 high) refl

-- none of the earlier ones, and none of the later ones
pub within_earlier : (from to : ℤ) (es : List Element) → AreEarlier from es → within_range from to es ≡ []
within_earlier from to [] are = refl
within_earlier from to (e ∷ es) are = within_low from to e es are.0 ∙ within_earlier from to es are.1

pub within_later : (from to : ℤ) (es : List Element) → AreLater to es → within_range from to es ≡ []
within_later from to [] are = refl
within_later from to (e ∷ es) are = by_lt_z e.0 from
    (λ low. within_low from to e es low ∙ within_later from to es are.1)
    (λ high. within_high from to e es high are.0 ∙ within_later from to es are.1)

-- Of elements in order the first i are earlier than the one stamp, and those from j on later than the other: the range is between.
take_none : (n : ℕ) → ◌≡◌ {A = List Element} (take n []) []
take_none zero = refl
take_none (suc n) = refl

pub cut_none : (n i : ℕ) → ◌≡◌ {A = List Element} (take n (drop i [])) []
cut_none n zero = take_none n
cut_none n (suc i) = take_none n

earlier_low : (from : ℤ) (e : Element) (es : List Element) → e.0 <ℤ from → earlier from (e ∷ es) ≡ e ∷ earlier from es
earlier_low from e es low = rw (int_lt_yes e.0 from low) refl

earlier_high : (from : ℤ) (e : Element) (es : List Element) → from ≤ℤ e.0 → earlier from (e ∷ es) ≡ earlier from es
earlier_high from e es high = rw (int_lt_no e.0 from high) refl

later_low : (to : ℤ) (e : Element) (es : List Element) → e.0 ≤ℤ to → later to (e ∷ es) ≡ later to es
later_low to e es low = rw (int_lt_no to e.0 low) refl

later_high : (to : ℤ) (e : Element) (es : List Element) → to <ℤ e.0 → later to (e ∷ es) ≡ e ∷ later to es
later_high to e es high = rw (int_lt_yes to e.0 high) refl

few_later : (to : ℤ) (es : List Element) → length (later to es) ≤ length es
few_later to es = omega (arith, length-filter_both (λ (e : Element). int_lt to e.0) (λ (e : Element). not (int_lt to e.0)) (λ e. refl) es)

-- the first of them is later, and so are all
module _ (from to : ℤ) (e : Element) (es : List Element) (rise : AreRising (e ∷ es)) (above : to <ℤ e.0) where
  none_left : (j : ℕ) → later to (e ∷ es) ≡ drop j (e ∷ es) → j ≡ 0
  none_left j back =
      let all : later to (e ∷ es) ≡ e ∷ es = later_high to e es above ∙ ap (λ (l : List Element). e ∷ l) (later_all to es (later_than to e.0 es (omega (arith, ints, above)) (later_of e es rise))) in
      omega (arith, ap length back, ap length all, length-drop j (e ∷ es))

  none_within : (i j : ℕ) → later to (e ∷ es) ≡ drop j (e ∷ es) → within_range from to (e ∷ es) ≡ take (j - i) (drop i (e ∷ es))
  none_within i j back =
      let zero_is = none_left j back in
      within_later from to (e ∷ es) (above, later_than to e.0 es (omega (arith, ints, above)) (later_of e es rise))
      ∙ ap (λ (n : ℕ). take n (drop i (e ∷ es))) (let none : 0 ≡ j - i = omega (arith, zero_is) in none)

pub within_between : (from to : ℤ) (es : List Element) (i j : ℕ) → AreRising es → earlier from es ≡ take i es → later to es ≡ drop j es → within_range from to es ≡ take (j - i) (drop i es)
within_between from to [] i j rise front back = sym (cut_none (j - i) i)
within_between from to (e ∷ es) i j rise front back = by_lt_z to e.0
    (λ above. none_within from to e es rise above i j back)
    (λ below. by_lt_z e.0 from
    (λ low. lower (λ k n. within_between from to es k n (rising_tail e es rise)) low below i j front back)
    (λ high. higher (λ k n. within_between from to es k n (rising_tail e es rise)) high below i j front back))
  where
    some_later : e.0 ≤ℤ to → (j : ℕ) → later to (e ∷ es) ≡ drop j (e ∷ es) → (k : ℕ) × (j ≡ suc k) × (later to es ≡ drop k es)
    some_later below zero back = absurd (let none = few_later to es in omega (arith, none, ap length (sym (later_low to e es below) ∙ back)))
    some_later below (suc k) back = (k, refl, sym (later_low to e es below) ∙ back)

    lower : ((k n : ℕ) → earlier from es ≡ take k es → later to es ≡ drop n es → within_range from to es ≡ take (n - k) (drop k es)) → e.0 <ℤ from → e.0 ≤ℤ to → (i j : ℕ) → earlier from (e ∷ es) ≡ take i (e ∷ es) → later to (e ∷ es) ≡ drop j (e ∷ es) → within_range from to (e ∷ es) ≡ take (j - i) (drop i (e ∷ es))
    lower others low below zero j front back = absurd (let some = sym (earlier_low from e es low) ∙ front in cc)
    lower others low below (suc i) j front back =
        let b = some_later below j back in
        let rest : earlier from es ≡ take i es = let both = sym (earlier_low from e es low) ∙ front in cc in
        within_low from to e es low ∙ others i b.0 rest b.2
        ∙ ap (λ (n : ℕ). take n (drop i es)) (let same : b.0 - i ≡ j - suc i = omega (arith, b.1) in same)

    higher : ((k n : ℕ) → earlier from es ≡ take k es → later to es ≡ drop n es → within_range from to es ≡ take (n - k) (drop k es)) → from ≤ℤ e.0 → e.0 ≤ℤ to → (i j : ℕ) → earlier from (e ∷ es) ≡ take i (e ∷ es) → later to (e ∷ es) ≡ drop j (e ∷ es) → within_range from to (e ∷ es) ≡ take (j - i) (drop i (e ∷ es))
    higher others high below (suc i) j front back =
        absurd (let none = sym (earlier_none from es (later_than from e.0 es high (later_of e es rise))) ∙ sym (earlier_high from e es high) ∙ front in cc)
    higher others high below zero j front back =
        let b = some_later below j back in
        let rest : earlier from es ≡ take 0 es = earlier_none from es (later_than from e.0 es high (later_of e es rise)) in
        within_here from to e es high below
        ∙ ap (λ (l : List Element). e ∷ l) (others 0 b.0 rest b.2 ∙ ap (λ (n : ℕ). take n es) (let same : b.0 - 0 ≡ b.0 = omega arith in same))
        ∙ ap (λ (n : ℕ). take n (e ∷ es)) (let same : suc b.0 ≡ j - 0 = omega (arith, b.1) in same)

-- from a later stamp to an earlier one none stands
pub within_turned : (from to : ℤ) (es : List Element) → to <ℤ from → within_range from to es ≡ []
within_turned from to [] turned = refl
within_turned from to (e ∷ es) turned = by_lt_z e.0 from
    (λ low. within_low from to e es low ∙ within_turned from to es turned)
    (λ high. within_high from to e es high (omega (arith, ints, high, turned)) ∙ within_turned from to es turned)

-- the elements of a range stand on the pages of the places that hold it
pub range_turned : (from to : ℤ) (places : List Place) → to <ℤ from → HaveRange from to places 0 0
range_turned from to places turned = λ slot columns pages chain on are. within_turned from to (all_in chain) turned

pub range_before : (from to : ℤ) (places : List Place) → AreAbove to places → HaveRange from to places 0 0
range_before from to places above = λ slot columns pages chain on are. within_later from to (all_in chain) (chain_later slot columns pages to places chain on above)

pub range_held : (from to : ℤ) (places : List Place) (first stop : ℕ) → IsRange from to places first stop → HaveRange from to places first stop
range_held from to places first stop r = λ slot columns pages chain on are.
    let one = part_in slot columns pages r.front (r.mid ++ r.back) chain (subst (λ (ps : List Place). AreChained slot columns pages ps chain) r.parts on) in
    let two = part_in slot columns pages r.mid r.back one.behind one.back_on in
    let whole : chain ≡ one.before ++ (two.before ++ two.behind) = one.parts ∙ ap (λ (l : List (List Element)). one.before ++ l) two.parts in
    let low = before_range slot columns pages from r.front r.mid one.before two.before two.behind r.some r.begins one.front_on two.front_on (subst (ArePages columns) whole are) in
    let high = chain_later slot columns pages to r.back two.behind two.back_on r.above in
    let count = chained_count slot columns pages r.front one.before one.front_on in
    let more = chained_count slot columns pages r.mid two.before two.front_on in
    let mid : take (stop - first) (drop first chain) ≡ two.before =
    ap (λ (l : List (List Element)). take (stop - first) (drop first l)) whole
    ∙ ap (take (stop - first)) (drop_at one.before (two.before ++ two.behind) first (omega (arith, count, r.first_is)))
    ∙ take_at two.before two.behind (stop - first) (omega (arith, count, more, r.first_is, r.stop_is)) in
    ap (λ (l : List (List Element)). within_range from to (all_in l)) whole
    ∙ ap (within_range from to) (all_in-append one.before (two.before ++ two.behind) ∙ ap (λ (l : List Element). all_in one.before ++ l) (all_in-append two.before two.behind))
    ∙ filter-append (is_within from to) (all_in one.before) (all_in two.before ++ all_in two.behind)
    ∙ (λ j. within_earlier from to (all_in one.before) low j ++ filter-append (is_within from to) (all_in two.before) (all_in two.behind) j)
    ∙ ap (λ (l : List Element). within_range from to (all_in two.before) ++ l) (within_later from to (all_in two.behind) high)
    ∙ append-nil (within_range from to (all_in two.before))
    ∙ ap (λ (l : List (List Element)). within_range from to (all_in l)) (sym mid)

-- a part of the pages, and of their places
pub chained_first : (slot : ℕ) (columns : List Column) (pages : ℕ → List ℕ) (n : ℕ) (places : List Place) (chain : List (List Element)) → AreChained slot columns pages places chain → AreChained slot columns pages (take n places) (take n chain)
chained_first slot columns pages zero places chain on = tt
chained_first slot columns pages (suc n) [] [] on = tt
chained_first slot columns pages (suc n) [] (es ∷ chain) on = absurd on
chained_first slot columns pages (suc n) (p ∷ places) [] on = absurd on
chained_first slot columns pages (suc n) (p ∷ places) (es ∷ chain) on = (on.0, chained_first slot columns pages n places chain on.1)

pub chained_others : (slot : ℕ) (columns : List Column) (pages : ℕ → List ℕ) (n : ℕ) (places : List Place) (chain : List (List Element)) → AreChained slot columns pages places chain → AreChained slot columns pages (drop n places) (drop n chain)
chained_others slot columns pages zero places chain on = on
chained_others slot columns pages (suc n) [] [] on = tt
chained_others slot columns pages (suc n) [] (es ∷ chain) on = absurd on
chained_others slot columns pages (suc n) (p ∷ places) [] on = absurd on
chained_others slot columns pages (suc n) (p ∷ places) (es ∷ chain) on = chained_others slot columns pages n places chain on.1

pub chained_part : (slot : ℕ) (columns : List Column) (pages : ℕ → List ℕ) (n k : ℕ) (places : List Place) (chain : List (List Element)) → AreChained slot columns pages places chain
    → AreChained slot columns pages (take n (drop k places)) (take n (drop k chain))
chained_part slot columns pages n k places chain on = chained_first slot columns pages n (drop k places) (drop k chain) (chained_others slot columns pages k places chain on)
