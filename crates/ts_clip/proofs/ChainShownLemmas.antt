-- Elements none of which is hidden: what is counted of them is what their places tell.
use Rattle.std.proofs.Common.{◌≡◌, ℕ, ◌+◌, ◌-◌, ◌^◌, ℤ, ◌<ℤ◌, ◌≤ℤ◌, min, Bool, true, false, ◌||◌, not, cond, List, [], ◌∷◌, ◌++◌, length, take, drop, refl, sym, ap, subst, ◌∙◌, arith, append-nil, length-append}
use Rattle.std.proofs.lemmas.Int.{ints}
use Rattle.std.proofs.lemmas.List.{take-append-drop, take_at, drop_at}
use Rattle.std.specs.Prelude.{All}
use Rattle.std.proofs.lemmas.List.Elements.{filter-append, All-cons, All-head, All-tail}
use Rattle.std.proofs.lemmas.List.Folds.{list_any-append}
use Rattle.std.proofs.Math.Seq.{drop-append-add}
use Rattle.ts_space.specs.declared.place.Place.{Place}
use Rattle.ts_space.specs.Place.{AreAbove, count_of}
use Rattle.ts_row.specs.declared.kind.Column.{Column}
use Rattle.ts_row.specs.Row.{Element, seen, has_hidden}
use Rattle.ts_cells.specs.IrregularPage.{AreInOrder}
use Rattle.ts_irregular.specs.OnePage.{IsOn}
use Rattle.ts_sheets.specs.Stamped.{all_in, AreEarlier, AreLater, ArePages, is_within, within_range}
use Rattle.ts_sheets.specs.Places.{AreChained}
use Rattle.ts_sheets.proofs.OrderLemmas.{all_in-append, elements_back, elements_front, rising_back, rising_front, pages_in_order, pages_made}
use Rattle.ts_chain.proofs.PlaceLemmas.{chain_later}
use Rattle.ts_series.specs.Ends.{EndsAt, IsRange}
use Rattle.ts_series.proofs.ChainLemmas.{part_in, counted, sized_on, before_range}
use Rattle.ts_clip.specs.Series.{HaveChain}
use Rattle.ts_clip.specs.Chain.{AreBounded, HaveRange}
use Rattle.ts_clip.proofs.ChainCellLemmas.{seen_both}
use Rattle.ts_clip.proofs.ChainPageLemmas.{within_both}
use Rattle.ts_clip.proofs.ChainRangeLemmas.{within_here, chained_first, chained_part}
use Rattle.ts_clip.proofs.ChainReadingLemmas.{seen_within}
use Rattle.ts_clip.proofs.ChainToldLemmas.{few_told}

neither : (a b : Bool) → (a || b) ≡ false → (a ≡ false) × (b ≡ false)
neither true b is = absurd (let never : ⊥ = cc in never)
neither false b is = (refl, is)

-- all elements are seen
pub shown_all : (es : List Element) → has_hidden es ≡ false → seen es ≡ es
shown_all [] none = refl
shown_all (e ∷ es) none =
    let parts = neither e.1.hidden (has_hidden es) none in
    ap (λ h. cond (not h) (e ∷ seen es) (seen es)) parts.0 ∙ ap (λ (l : List Element). e ∷ l) (shown_all es parts.1)

pub shown_parts : (xs ys : List Element) → has_hidden (xs ++ ys) ≡ false → (has_hidden xs ≡ false) × (has_hidden ys ≡ false)
shown_parts xs ys none = neither (has_hidden xs) (has_hidden ys) (sym (list_any-append (λ (e : Element). e.1.hidden) xs ys) ∙ none)

-- and so are those of a range
pub shown_within : (from to : ℤ) (es : List Element) → has_hidden es ≡ false → seen (within_range from to es) ≡ within_range from to es
shown_within from to es none = seen_within from to es ∙ ap (within_range from to) (shown_all es none)

-- elements between two stamps are all in the range
pub within_inside : (from to : ℤ) (es : List Element) → AreLater from es → AreEarlier to es → within_range from to es ≡ es
within_inside from to [] later earlier = refl
within_inside from to (e ∷ es) later earlier =
    let low : from <ℤ e.0 = later.0 in
    let high : e.0 <ℤ to = earlier.0 in
    within_here from to e es (omega (arith, ints, low)) (omega (arith, ints, high)) ∙ ap (λ (l : List Element). e ∷ l) (within_inside from to es later.1 earlier.1)

-- the pages before an index and those from it on
pub parts_in : (i : ℕ) (chain : List (List Element)) → all_in (take i chain) ++ all_in (drop i chain) ≡ all_in chain
parts_in i chain = sym (all_in-append (take i chain) (drop i chain)) ∙ ap all_in (take-append-drop i chain)

-- the elements from a page on, where those before it are told by their places
pub number_from : (slot : ℕ) (columns : List Column) (pages : ℕ → List ℕ) (places : List Place) (index skip n : ℕ) (chain : List (List Element)) → AreChained slot columns pages places chain → count_of (take index places) + skip ≡ n
    → seen (all_in (take index chain)) ≡ all_in (take index chain) → drop n (seen (all_in chain)) ≡ drop skip (seen (all_in (drop index chain)))
number_from slot columns pages places index skip n chain on number shown =
    let front : List Element = all_in (take index chain) in
    let back : List Element = seen (all_in (drop index chain)) in
    let told : length front ≡ count_of (take index places) = counted slot columns pages (take index places) (take index chain) (chained_first slot columns pages index places chain on) in
    let both : seen (all_in chain) ≡ front ++ back = ap seen (sym (parts_in index chain)) ∙ seen_both front (all_in (drop index chain)) ∙ ap (λ (l : List Element). l ++ back) shown in
    ap (drop n) both ∙ ap (λ (k : ℕ). drop k (front ++ back)) (let sum : n ≡ length front + skip = omega (arith, number, told) in sum) ∙ drop-append-add front back skip

-- of the pages before an index, the first of all or of a series that hides none
pub shown_front : (shown : Bool) (index : ℕ) (chain : List (List Element)) → (shown ≡ false → index ≡ 0) → (shown ≡ true → has_hidden (all_in chain) ≡ false) → seen (all_in (take index chain)) ≡ all_in (take index chain)
shown_front true index chain first none = shown_all (all_in (take index chain)) (shown_parts (all_in (take index chain)) (all_in (drop index chain)) (ap has_hidden (parts_in index chain) ∙ none refl)).0
shown_front false index chain first none = ap (λ (i : ℕ). seen (all_in (take i chain))) (first refl) ∙ sym (ap (λ (i : ℕ). all_in (take i chain)) (first refl))

-- the last of places that begin so
ends_is : (to : ℤ) (front : List Place) (p : Place) → EndsAt to (front ++ p ∷ []) → p.at ≤ℤ to
ends_is to [] p ends = ends
ends_is to (q ∷ []) p ends = ends
ends_is to (q ∷ r ∷ front) p ends = ends_is to (r ∷ front) p ends

ends_behind : (to : ℤ) (q : Place) (front : List Place) (p : Place) → EndsAt to (q ∷ (front ++ p ∷ [])) → p.at ≤ℤ to
ends_behind to q front p ends = ends_is to (q ∷ front) p ends

above_front : (at : ℤ) (front back : List Place) → AreAbove at (front ++ back) → AreAbove at front
above_front at [] back above = tt
above_front at (p ∷ front) back above = (above.0, above_front at front back above.1)

-- The elements of a range on pages of which the first and the last are read.
pub record EndsCounted (from to : ℤ) (slot : ℕ) (columns : List Column) (pages : ℕ → List ℕ) (first : Place) (middle : List Place) (last : Place) (chain : List (List Element)) : Type 0 where
  pub front : List Element
  pub back : List Element
  pub front_on : IsOn slot columns (pages first.page) first front
  pub back_on : IsOn slot columns (pages last.page) last back
  pub number : length (within_range from to (all_in chain)) ≡ length (seen (within_range from to front)) + count_of middle + length (seen (within_range from to back))

module _ (from to : ℤ) (slot : ℕ) (columns : List Column) (pages : ℕ → List ℕ) (first : Place) (middle : List Place) (last : Place) where
  split : (front back : List Element) (before : List (List Element)) → AreChained slot columns pages middle before → IsOn slot columns (pages first.page) first front → IsOn slot columns (pages last.page) last back
      → ArePages columns (before ++ (back ∷ [])) → AreAbove from (middle ++ last ∷ []) → last.at ≤ℤ to → has_hidden (all_in (front ∷ (before ++ back ∷ []))) ≡ false
      → EndsCounted from to slot columns pages first middle last (front ∷ (before ++ back ∷ []))
  split front back before on front_on back_on are above ends none =
      let inner : all_in (before ++ back ∷ []) ≡ all_in before ++ back = all_in-append before (back ∷ []) ∙ ap (λ (l : List Element). all_in before ++ l) (append-nil back) in
      let later : AreLater from (all_in before) = chain_later slot columns pages from middle before on (above_front from middle (last ∷ []) above) in
      let earlier : AreEarlier to (all_in before) = before_range slot columns pages to middle (last ∷ []) before (back ∷ []) [] (omega arith) (λ some. ends) on (back_on, tt) are in
      let hides = shown_parts front (all_in (before ++ back ∷ [])) none in
      let behind = shown_parts (all_in before) back (ap has_hidden (sym inner) ∙ hides.1) in
      let whole : within_range from to (front ++ all_in (before ++ back ∷ [])) ≡ within_range from to front ++ (within_range from to (all_in before) ++ within_range from to back) =
      filter-append (is_within from to) front (all_in (before ++ back ∷ []))
      ∙ ap (λ (l : List Element). within_range from to front ++ l) (ap (within_range from to) inner ∙ filter-append (is_within from to) (all_in before) back) in
      let mid : length (within_range from to (all_in before)) ≡ count_of middle = ap length (within_inside from to (all_in before) later earlier) ∙ counted slot columns pages middle before on in
      record {
        front = front;
        back = back;
        front_on = front_on;
        back_on = back_on;
        number = omega (
          arith,
          ap length whole,
          length-append (within_range from to front) (within_range from to (all_in before) ++ within_range from to back),
          length-append (within_range from to (all_in before)) (within_range from to back),
          mid,
          ap length (shown_within from to front hides.0),
          ap length (shown_within from to back behind.1),
        );
      }

  parted : (front : List Element) (rest before behind : List (List Element)) → rest ≡ before ++ behind → IsOn slot columns (pages first.page) first front → AreChained slot columns pages middle before → AreChained slot columns pages (last ∷ []) behind
      → ArePages columns rest → AreAbove from (middle ++ last ∷ []) → last.at ≤ℤ to → has_hidden (all_in (front ∷ rest)) ≡ false → EndsCounted from to slot columns pages first middle last (front ∷ rest)
  parted front rest before [] parts front_on on back_on are above ends none = absurd back_on
  parted front rest before (back ∷ (more ∷ others)) parts front_on on back_on are above ends none = absurd back_on.1
  parted front rest before (back ∷ []) parts front_on on back_on are above ends none =
      subst (λ (l : List (List Element)). EndsCounted from to slot columns pages first middle last (front ∷ l)) (sym parts)
      (split front back before on front_on back_on.0 (subst (ArePages columns) parts are) above ends (subst (λ (l : List (List Element)). has_hidden (all_in (front ∷ l)) ≡ false) parts none))

  pub ends_counted : (chain : List (List Element)) → AreChained slot columns pages (first ∷ (middle ++ last ∷ [])) chain → ArePages columns chain → AreBounded from to (first ∷ (middle ++ last ∷ [])) → has_hidden (all_in chain) ≡ false
      → EndsCounted from to slot columns pages first middle last chain
  ends_counted [] on are bounded none = absurd on
  ends_counted (front ∷ rest) on are bounded none =
      let p = part_in slot columns pages middle (last ∷ []) rest on.1 in
      parted front rest p.before p.behind p.parts on.0 p.front_on p.back_on are.2 bounded.others (ends_behind to first middle last bounded.ends) none

-- of both ends together
pub two_ends : (from to : ℤ) (front back : List Element) → length (seen (within_range from to (front ++ (back ++ [])))) ≡ length (seen (within_range from to front)) + length (seen (within_range from to back))
two_ends from to front back =
    ap (λ (l : List Element). length (seen (within_range from to (front ++ l)))) (append-nil back) ∙ ap length (within_both from to front back) ∙ length-append (seen (within_range from to front)) (seen (within_range from to back))

-- all pages were read
pub all_counted : (from to : ℤ) (n : ℕ) (chain : List (List Element)) → n ≡ min (length (seen (within_range from to (all_in chain)))) (2 ^ 64 - 1) → has_hidden (all_in chain) ≡ false → n ≡ min (length (within_range from to (all_in chain))) (2 ^ 64 - 1)
all_counted from to n chain is none = is ∙ ap (λ (l : List Element). min (length l) (2 ^ 64 - 1)) (shown_within from to (all_in chain) none)

-- what is so of all of some places is so of the first and the last
last_one : (P : Place → Type 0) (middle : List Place) (last : Place) → All P (middle ++ last ∷ []) → P last
last_one P [] last all = All-head P last [] all
last_one P (p ∷ middle) last all = last_one P middle last (All-tail P p (middle ++ last ∷ []) all)

pub both_ends : (P : Place → Type 0) (places : List Place) (first : Place) (middle : List Place) (last : Place) → places ≡ first ∷ (middle ++ last ∷ []) → All P places → All P (first ∷ last ∷ [])
both_ends P places first middle last parts all =
    let own : All P (first ∷ (middle ++ last ∷ [])) = subst (All P) parts all in
    All-cons P first (last ∷ []) (All-head P first (middle ++ last ∷ []) own) (All-cons P last [] (last_one P middle last (All-tail P first (middle ++ last ∷ []) own)) (λ k d within. absurd (omega (arith, within))))

-- the bounds of the places that hold a range
pub bounds_held : (from to : ℤ) (places : List Place) (first stop : ℕ) → IsRange from to places first stop → AreBounded from to (take (stop - first) (drop first places))
bounds_held from to places first stop r =
    let mid : take (stop - first) (drop first places) ≡ r.mid =
    ap (λ (l : List Place). take (stop - first) (drop first l)) r.parts
    ∙ ap (take (stop - first)) (drop_at r.front (r.mid ++ r.back) first (omega (arith, r.first_is)))
    ∙ take_at r.mid r.back (stop - first) (omega (arith, r.first_is, r.stop_is)) in
    subst (AreBounded from to) (sym mid) (record { others = r.others; ends = r.ends })

-- elements in order, of the pages from one index on and before another
part_order : (columns : List Column) (xs ys zs : List Element) → AreInOrder columns (xs ++ (ys ++ zs)) → AreInOrder columns ys
part_order columns xs ys zs order = record {
  each = elements_front columns ys zs (elements_back columns xs (ys ++ zs) order.each);
  rising = rising_front ys zs (rising_back xs (ys ++ zs) order.rising);
}

-- of the pages of a range of a series that hides none
module _ (slot : ℕ) (columns : List Column) (pages : ℕ → List ℕ) (listed places : List Place) (first stop : ℕ) (from to : ℤ) (es : List Element) (same : places ≡ listed) (range : HaveRange from to places first stop)
    (have : HaveChain slot columns pages listed es) (none : has_hidden es ≡ false) where
  pub ends_told : (n : ℕ)
      → ((chain : List (List Element)) → AreChained slot columns pages (take (stop - first) (drop first places)) chain → ArePages columns chain → has_hidden (all_in chain) ≡ false → n ≡ min (length (within_range from to (all_in chain))) (2 ^ 64 - 1))
      → n ≡ length (within_range from to (seen es))
  ends_told n all =
      let on : AreChained slot columns pages places have.chain = subst (λ (ps : List Place). AreChained slot columns pages ps have.chain) (sym same) have.on in
      let part : List (List Element) = take (stop - first) (drop first have.chain) in
      let front : List Element = all_in (take first have.chain) in
      let rest : List Element = all_in (drop (stop - first) (drop first have.chain)) in
      let parts : front ++ (all_in part ++ rest) ≡ all_in have.chain = ap (λ (l : List Element). front ++ l) (parts_in (stop - first) (drop first have.chain)) ∙ parts_in first have.chain in
      let part_on = chained_part slot columns pages (stop - first) first places have.chain on in
      let order = part_order columns front (all_in part) rest (subst (AreInOrder columns) (sym parts) (pages_in_order columns have.chain have.is.pages)) in
      let hides : has_hidden (front ++ (all_in part ++ rest)) ≡ false = ap has_hidden (parts ∙ have.all) ∙ none in
      let own = (shown_parts (all_in part) rest (shown_parts front (all_in part ++ rest) hides).1).0 in
      let is = all part part_on (pages_made columns part (sized_on slot columns pages (take (stop - first) (drop first places)) part part_on) order) own in
      let eq : within_range from to (all_in part) ≡ within_range from to (seen es) =
      sym (range slot columns pages have.chain on have.is.pages) ∙ ap (within_range from to) have.all ∙ ap (within_range from to) (sym (shown_all es none)) in
      omega (arith, is, ap length eq, few_told slot columns pages listed from to es have)
