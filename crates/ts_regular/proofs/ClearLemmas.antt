-- A series without the elements in a range, over all of its pages.
use Rattle.std.proofs.Common.{◌≡◌, ◌≢◌, ℕ, zero, suc, ◌+◌, ◌-◌, ◌^◌, ◌<◌, ◌≤◌, ◌==◌, All, AllPairs, Bool, true, false, not, IsTrue, ℤ, pos, List, [], ◌∷◌, ◌++◌, length, take, drop, refl, sym, ap, subst, ◌∙◌, arith, append_assoc, append-nil, length-append}
use Rattle.std.specs.Prelude.{Contains, IsPermutation}
use Rattle.std.proofs.lemmas.Bool.Decides.{nat_tests}
use Rattle.std.proofs.lemmas.Int.{ints}
use Rattle.std.proofs.lemmas.List.{take_at, drop_at, get_or_append_left}
use Rattle.std.proofs.lemmas.List.Elements.{All-append, All-cons, All-drop, All-head, All-nil, All-tail, All-take, Contains-append_left, Contains-append_right, filter-append}
use Rattle.std.proofs.lemmas.List.Filters.{length-filter_both}
use Rattle.std.proofs.lemmas.List.Sorted.{All-permutation, IsPermutation-refl, IsPermutation-sym, IsPermutation-trans, IsPermutation-append, IsPermutation-append_comm, Contains-permutation}
use Rattle.std.proofs.Math.Nat.{mod-add-div}
use Rattle.ts_space.specs.declared.place.Place.{Place}
use Rattle.ts_space.specs.declared.moved.Moved.{Moved}
use Rattle.ts_space.specs.Place.{AreAbove, AreBelow, IsRising, count_of, pages_of}
use Rattle.ts_space.specs.Moved.{list_of, moved_to}
use Rattle.ts_page.specs.Pages.{Contents}
use Rattle.ts_row.specs.declared.kind.Column.{Column}
use Rattle.ts_regular.specs.RegularPage.{regular_room, base_of, OffsetElement, elements_from}
use Rattle.ts_regular.specs.Places.{OffsetPage, all_in, IsOn, AreOn, IsCounted, IsPlace, ArePlaces, AreMoved}
use Rattle.ts_regular.specs.Call.{AreWritten}
use Rattle.ts_regular.specs.Range.{is_between, within, outside, AreCleared, HasNoneWithin}
use Rattle.ts_regular.specs.Cut.{Cut, AreCutTo, AreFreed, AreNotBelow, CanBeFreed, IsRange, cuts_of, gone_of, kept_of}
use Rattle.ts_regular.proofs.BytesLemmas.{few_fit}
use Rattle.ts_regular.proofs.OffsetLemmas.{AreLess, AreMore, more_both}
use Rattle.ts_regular.proofs.CellsLemmas.{count_in, count_within, more_cells}
use Rattle.ts_regular.proofs.PlaceLemmas.{all_both, multiples, on_both, pages_less, part}
use Rattle.ts_regular.proofs.EditLemmas.{count_both, counted, empty, moved_middle, pages_both, pairs_tail, whole_base}
use Rattle.ts_regular.proofs.FreeLemmas.{pairs_moved}
use Rattle.ts_regular.proofs.RangeLemmas.{between_before, between_behind}
use Rattle.ts_regular.proofs.CutsLemmas.{count_kept, counted_kept, kept_all, kept_on, kept_pages, left_count, left_cut, left_few, left_in, left_whole, pages_parted, places_cut, places_in, rising_kept, told_count}

-- elements before a range, and behind it
within_less : (from to : ℕ) (es : List OffsetElement) → AreLess from es → within from to es ≡ []
within_less from to [] less = refl
within_less from to (e ∷ es) less = rw (between_before from to e.0 less.0) (within_less from to es less.1)

outside_less : (from to : ℕ) (es : List OffsetElement) → AreLess from es → outside from to es ≡ es
outside_less from to [] less = refl
outside_less from to (e ∷ es) less = rw (between_before from to e.0 less.0) (ap (λ (l : List OffsetElement). e ∷ l) (outside_less from to es less.1))

within_more : (from to n : ℕ) (es : List OffsetElement) → to ≤ n + 1 → AreMore n es → within from to es ≡ []
within_more from to n [] high more = refl
within_more from to n (e ∷ es) high more = let above = more.0 in let no : is_between from to e.0 ≡ false = between_behind from to e.0 (omega (arith, high, above)) in rw no (within_more from to n es high more.1)

outside_more : (from to n : ℕ) (es : List OffsetElement) → to ≤ n + 1 → AreMore n es → outside from to es ≡ es
outside_more from to n [] high more = refl
outside_more from to n (e ∷ es) high more =
    let above = more.0 in
    let no : is_between from to e.0 ≡ false = between_behind from to e.0 (omega (arith, high, above)) in
    rw no (ap (λ (l : List OffsetElement). e ∷ l) (outside_more from to n es high more.1))

-- the elements of a range and the others are all
pub parted_count : (from to : ℕ) (es : List OffsetElement) → length (within from to es) + length (outside from to es) ≡ length es
parted_count from to es = length-filter_both (λ (e : OffsetElement). is_between from to e.0) (λ (e : OffsetElement). not (is_between from to e.0)) (λ e. refl) es

-- pages from an offset on
pages_from : (slot : ℕ) (columns : List Column) (pages : ℕ → List ℕ) (n to : ℕ) (places : List Place) (ps : List OffsetPage) → n < to → AreNotBelow (pos to) places → AreOn slot columns pages places ps → AreMore n (all_in ps)
pages_from slot columns pages n to [] [] low above on = tt
pages_from slot columns pages n to [] (p ∷ ps) low above on = absurd on
pages_from slot columns pages n to (q ∷ places) [] low above on = absurd on
pages_from slot columns pages n to (q ∷ places) (p ∷ ps) low above on =
    let first = above.0 in
    let same = on.0.at in
    more_both n (elements_from p.0 p.1) (all_in ps) (more_cells n p.0 p.1 (omega (arith, ints, low, first, same))) (pages_from slot columns pages n to places ps low above.1 on.1)

-- pages that begin below an offset have no more elements than there are offsets up to it and on one page
pub few_below : (slot : ℕ) (columns : List Column) (pages : ℕ → List ℕ) (to : ℕ) (q : Place) (places : List Place) (p : OffsetPage) (ps : List OffsetPage) → IsRising (q ∷ places) → AreBelow (pos to) (q ∷ places) → AreOn slot columns pages (q ∷ places) (p ∷ ps)
    → p.0 + length (all_in (p ∷ ps)) ≤ to + regular_room columns
few_below slot columns pages to q [] p [] rising below on =
    let under = below.0 in
    let at = on.0.at in
    let room = on.0.bytes.fill.room in
    omega (arith, ints, under, at, room, count_within p.1, count_in p.0 p.1, length-append (elements_from p.0 p.1) [])
few_below slot columns pages to q [] p (s ∷ ps) rising below on = absurd on.1
few_below slot columns pages to q (r ∷ places) p [] rising below on = absurd on.1
few_below slot columns pages to q (r ∷ places) p (s ∷ ps) rising below on =
    let up = rising.0.0 in
    let at = on.0.at in
    let next = on.1.0.at in
    let room = on.0.bytes.fill.room in
    let less : p.0 < s.0 = omega (arith, ints, up, at, next) in
    let step = multiples (regular_room columns) p.0 s.0 on.0.bytes.whole on.1.0.bytes.whole less in
    let rest = few_below slot columns pages to r places s ps rising.1 below.1 on.1 in
    omega (arith, step, rest, room, count_within p.1, count_in p.0 p.1, length-append (elements_from p.0 p.1) (all_in (s ∷ ps)))

few_told : (slot : ℕ) (columns : List Column) (pages : ℕ → List ℕ) (to : ℕ) (places : List Place) (ps : List OffsetPage) → IsRising places → AreBelow (pos to) places → AreOn slot columns pages places ps → length (all_in ps) ≤ to + regular_room columns
few_told slot columns pages to [] [] rising below on = omega arith
few_told slot columns pages to [] (p ∷ ps) rising below on = absurd on
few_told slot columns pages to (q ∷ places) [] rising below on = absurd on
few_told slot columns pages to (q ∷ places) (p ∷ ps) rising below on = let few = few_below slot columns pages to q places p ps rising below on in omega (arith, few)

-- no page of one list is one of another
apart_lists : (xs ys : List ℕ) (n : ℕ) → AllPairs (λ a b. a ≢ b) (xs ++ ys) → Contains xs n → ¬ Contains ys n
apart_lists [] ys n pairs first second = let below = first.1 in omega (arith, below)
apart_lists (x ∷ xs) ys n pairs (zero, below, is) second =
    let there = Contains-append_right xs ys n second in
    let within = there.1 in
    pairs 0 (suc there.0) n (omega arith) (omega (arith, within)) (is ∙ sym there.2)
apart_lists (x ∷ xs) ys n pairs (suc k, below, is) second = apart_lists xs ys n (pairs_tail x (xs ++ ys) pairs) (k, omega (arith, below), is) second

pairs_front : (xs ys : List ℕ) → AllPairs (λ a b. a ≢ b) (xs ++ ys) → AllPairs (λ a b. a ≢ b) xs
pairs_front xs ys pairs i j d before within same =
    let less : i < length xs = omega (arith, before, within) in
    pairs i j d before (omega (arith, within, length-append xs ys)) (get_or_append_left xs ys d i less ∙ same ∙ sym (get_or_append_left xs ys d j within))

pairs_back : (xs ys : List ℕ) → AllPairs (λ a b. a ≢ b) (xs ++ ys) → AllPairs (λ a b. a ≢ b) ys
pairs_back [] ys pairs = pairs
pairs_back (x ∷ xs) ys pairs = pairs_back xs ys (pairs_tail x (xs ++ ys) pairs)

-- pages that stay
on_kept : (slot : ℕ) (columns : List Column) (u w : ℕ → List ℕ) (places : List Place) (ps : List OffsetPage) → ((n : ℕ) → Contains (pages_of places) n → w n ≡ u n) → AreOn slot columns u places ps → AreOn slot columns w places ps
on_kept slot columns u w [] [] same on = tt
on_kept slot columns u w [] (p ∷ ps) same on = absurd on
on_kept slot columns u w (q ∷ places) [] same on = absurd on
on_kept slot columns u w (q ∷ places) (p ∷ ps) same on = (
  subst (λ (b : List ℕ). IsOn slot columns b q p) (sym (same q.page (0, omega arith, refl))) on.0,
  on_kept slot columns u w places ps (λ n has. same n (Contains-append_right (q.page ∷ []) (pages_of places) n has)) on.1,
)

-- the free pages and those of the places, once some went
pages_moved : (free front gone kept mid back now : List ℕ) → IsPermutation mid (gone ++ kept) → IsPermutation (free ++ gone) now → IsPermutation (free ++ (front ++ (mid ++ back))) (now ++ (front ++ (kept ++ back)))
pages_moved free front gone kept mid back now parted freed =
    let step1 : IsPermutation (front ++ (mid ++ back)) (front ++ ((gone ++ kept) ++ back)) = IsPermutation-append front front (mid ++ back) ((gone ++ kept) ++ back) (IsPermutation-refl front) (IsPermutation-append mid (gone ++ kept) back back parted (IsPermutation-refl back)) in
    let step2 : IsPermutation ((front ++ gone) ++ (kept ++ back)) ((gone ++ front) ++ (kept ++ back)) = IsPermutation-append (front ++ gone) (gone ++ front) (kept ++ back) (kept ++ back) (IsPermutation-append_comm front gone) (IsPermutation-refl (kept ++ back)) in
    let left : front ++ ((gone ++ kept) ++ back) ≡ (front ++ gone) ++ (kept ++ back) = ap (λ (l : List ℕ). front ++ l) (append_assoc gone kept back) ∙ sym (append_assoc front gone (kept ++ back)) in
    let right : (gone ++ front) ++ (kept ++ back) ≡ gone ++ (front ++ (kept ++ back)) = append_assoc gone front (kept ++ back) in
    let moved : IsPermutation (front ++ (mid ++ back)) (gone ++ (front ++ (kept ++ back))) =
    IsPermutation-trans (front ++ (mid ++ back)) ((front ++ gone) ++ (kept ++ back)) (gone ++ (front ++ (kept ++ back))) (subst (IsPermutation (front ++ (mid ++ back))) left step1) (subst (IsPermutation ((front ++ gone) ++ (kept ++ back))) right step2) in
    IsPermutation-trans (free ++ (front ++ (mid ++ back))) (free ++ (gone ++ (front ++ (kept ++ back)))) (now ++ (front ++ (kept ++ back)))
    (IsPermutation-append free free (front ++ (mid ++ back)) (gone ++ (front ++ (kept ++ back))) (IsPermutation-refl free) moved)
    (subst (λ (l : List ℕ). IsPermutation l (now ++ (front ++ (kept ++ back)))) (append_assoc free gone (front ++ (kept ++ back))) (IsPermutation-append (free ++ gone) now (front ++ (kept ++ back)) (front ++ (kept ++ back)) freed (IsPermutation-refl (front ++ (kept ++ back)))))

-- a base is no greater than its offsets
base_low : (columns : List Column) (n : ℕ) → base_of columns n ≤ n
base_low columns n = let parts = mod-add-div n (regular_room columns) in grind arith

-- as many pages go as there are, or fewer
gone_long : (cuts : List Cut) → length (gone_of cuts) ≤ length (places_in cuts)
gone_long [] = omega arith
gone_long ((place, zero) ∷ cuts) = let rest = gone_long cuts in omega (arith, rest)
gone_long ((place, suc n) ∷ cuts) = let rest = gone_long cuts in omega (arith, rest)

pub length_pages : (places : List Place) → length (pages_of places) ≡ length places
length_pages [] = refl
length_pages (q ∷ places) = ap suc (length_pages places)

all_first : (P : ℕ → Type 0) (xs ys : List ℕ) → All P (xs ++ ys) → All P xs
all_first P xs ys all k d within = subst P (get_or_append_left xs ys d k within) (all k d (omega (arith, within, length-append xs ys)))

-- the pages of places can be freed, once others were written
freed_each : (columns : List Column) (v u : Contents) (places : List Place) → u.free ≡ v.free → u.count ≡ v.count → All (IsPlace columns v) places → All (CanBeFreed u) (pages_of places)
freed_each columns v u [] free count each = All-nil (CanBeFreed u)
freed_each columns v u (q ∷ places) free count each =
    let first = All-head (IsPlace columns v) q places each in
    let below = first.readable.below in
    All-cons (CanBeFreed u) q.page (pages_of places) (record { element = first.readable.element; below = omega (arith, below, count); used = λ has. first.used (subst (λ (l : List ℕ). Contains l q.page) free has) })
    (freed_each columns v u places free count (All-tail (IsPlace columns v) q places each))

-- the pages of the places before a range, of those in it, and of those behind it
pub record Told (slot : ℕ) (columns : List Column) (pages : ℕ → List ℕ) (front mid back : List Place) (ps : List OffsetPage) : Type 0 where
  pub before : List OffsetPage
  pub own : List OffsetPage
  pub behind : List OffsetPage
  pub parts : ps ≡ before ++ (own ++ behind)
  pub front_on : AreOn slot columns pages front before
  pub own_on : AreOn slot columns pages mid own
  pub back_on : AreOn slot columns pages back behind

told_parts : (slot : ℕ) (columns : List Column) (pages : ℕ → List ℕ) (front mid back : List Place) (ps : List OffsetPage) → AreOn slot columns pages (front ++ (mid ++ back)) ps → Told slot columns pages front mid back ps
told_parts slot columns pages front mid back ps on =
    let one = part slot columns pages front (mid ++ back) ps on in
    let two = part slot columns pages mid back one.behind one.back_on in
    record {
      before = one.before;
      own = two.before;
      behind = two.behind;
      parts = one.parts ∙ ap (λ (l : List OffsetPage). one.before ++ l) two.parts;
      front_on = one.front_on;
      own_on = two.front_on;
      back_on = two.back_on;
    }

all_parts : (before own behind : List OffsetPage) → all_in (before ++ (own ++ behind)) ≡ all_in before ++ (all_in own ++ all_in behind)
all_parts before own behind = all_both before (own ++ behind) ∙ ap (λ (l : List OffsetElement). all_in before ++ l) (all_both own behind)

module _ (slot : ℕ) (columns : List Column) (from to first stop : ℕ) (places : List Place) (v : Contents) (order : from < to) (r : IsRange columns from to places first stop) where
  -- the places of the range
  pub range_is : take (stop - first) (drop first places) ≡ r.mid
  range_is =
      ap (λ (l : List Place). take (stop - first) (drop first l)) r.parts ∙ ap (take (stop - first)) (drop_at r.front (r.mid ++ r.back) first r.first_is)
      ∙ take_at r.mid r.back (stop - first) (omega (arith, r.first_is, r.stop_is))

  front_is : take first places ≡ r.front
  front_is = ap (take first) r.parts ∙ take_at r.front (r.mid ++ r.back) first r.first_is

  back_is : drop stop places ≡ r.back
  back_is = ap (drop stop) (r.parts ∙ sym (append_assoc r.front r.mid r.back)) ∙ drop_at (r.front ++ r.mid) r.back stop (length-append r.front r.mid ∙ r.stop_is)

  pub range_none : true ≡ (length (take (stop - first) (drop first places)) == 0) → length r.mid ≡ 0
  range_none is = let none : length (take (stop - first) (drop first places)) ≡ 0 = grind (arith, nat_tests) in omega (arith, none, ap length range_is)

  pub range_some : false ≡ (length (take (stop - first) (drop first places)) == 0) → 1 ≤ length (take (stop - first) (drop first places))
  range_some is = grind (arith, nat_tests)

  told_range : (ps : List OffsetPage) → AreOn slot columns v.page places ps → Told slot columns v.page r.front r.mid r.back ps
  told_range ps on = told_parts slot columns v.page r.front r.mid r.back ps (subst (λ (l : List Place). AreOn slot columns v.page l ps) r.parts on)

  -- the elements before it are less, and those behind it more
  front_less : (ps : List OffsetPage) (t : Told slot columns v.page r.front r.mid r.back ps) → AreLess from (all_in t.before)
  front_less ps t = pages_less slot columns v.page from (base_of columns from) r.front t.before (whole_base columns from) (base_low columns from) r.before t.front_on

  back_more : (ps : List OffsetPage) (t : Told slot columns v.page r.front r.mid r.back ps) → AreMore (to - 1) (all_in t.behind)
  back_more ps t = pages_from slot columns v.page (to - 1) to r.back t.behind (omega (arith, order)) r.behind t.back_on

  within_all : (ps : List OffsetPage) (t : Told slot columns v.page r.front r.mid r.back ps) → within from to (all_in ps) ≡ within from to (all_in t.own)
  within_all ps t =
      let test : OffsetElement → Bool = λ e. is_between from to e.0 in
      ap (λ (l : List OffsetPage). within from to (all_in l)) t.parts ∙ ap (within from to) (all_parts t.before t.own t.behind)
      ∙ filter-append test (all_in t.before) (all_in t.own ++ all_in t.behind)
      ∙ (λ j. within_less from to (all_in t.before) (front_less ps t) j ++ filter-append test (all_in t.own) (all_in t.behind) j)
      ∙ ap (λ (l : List OffsetElement). within from to (all_in t.own) ++ l) (within_more from to (to - 1) (all_in t.behind) (omega (arith, order)) (back_more ps t))
      ∙ append-nil (within from to (all_in t.own))

  outside_all : (ps : List OffsetPage) (t : Told slot columns v.page r.front r.mid r.back ps) → outside from to (all_in ps) ≡ all_in t.before ++ (outside from to (all_in t.own) ++ all_in t.behind)
  outside_all ps t =
      let test : OffsetElement → Bool = λ e. not (is_between from to e.0) in
      ap (λ (l : List OffsetPage). outside from to (all_in l)) t.parts ∙ ap (outside from to) (all_parts t.before t.own t.behind)
      ∙ filter-append test (all_in t.before) (all_in t.own ++ all_in t.behind)
      ∙ (λ j. outside_less from to (all_in t.before) (front_less ps t) j ++ filter-append test (all_in t.own) (all_in t.behind) j)
      ∙ ap (λ (l : List OffsetElement). all_in t.before ++ (outside from to (all_in t.own) ++ l)) (outside_more from to (to - 1) (all_in t.behind) (omega (arith, order)) (back_more ps t))

  -- no place has a cell in it
  pub none_range : (tells : Bool) → length r.mid ≡ 0 → HasNoneWithin tells slot columns from to 0 places v v
  none_range tells none = record {
    number = refl;
    none = λ told ps on. let t = told_range ps on in within_all ps t ∙ ap (within from to) (nothing r.mid t.own none t.own_on);
    same = record { free = refl; pages = λ told number. refl };
  }
    where
      nothing : (mid : List Place) (own : List OffsetPage) → length mid ≡ 0 → AreOn slot columns v.page mid own → all_in own ≡ []
      nothing [] [] none on = refl
      nothing [] (p ∷ own) none on = absurd on
      nothing (q ∷ mid) own none on = absurd (omega (arith, none))

  module _ (rising : IsRising places) (are : ArePlaces columns v places) where
    mid_rising : IsRising r.mid
    mid_rising = rising_mid r.front r.mid r.back (subst IsRising r.parts rising)
      where
        above_mid : (at : ℤ) (xs ys : List Place) → AreAbove at (xs ++ ys) → AreAbove at xs
        above_mid at [] ys above = tt
        above_mid at (q ∷ xs) ys above = (above.0, above_mid at xs ys above.1)

        rising_first : (xs ys : List Place) → IsRising (xs ++ ys) → IsRising xs
        rising_first [] ys rise = tt
        rising_first (q ∷ xs) ys rise = (above_mid q.at xs ys rise.0, rising_first xs ys rise.1)

        rising_mid : (xs ys zs : List Place) → IsRising (xs ++ (ys ++ zs)) → IsRising ys
        rising_mid [] ys zs rise = rising_first ys zs rise
        rising_mid (q ∷ xs) ys zs rise = rising_mid xs ys zs rise.1

    pub range_rising : IsRising (take (stop - first) (drop first places))
    range_rising = subst IsRising (sym range_is) mid_rising

    mid_each : (P : Place → Type 0) → All P places → All P r.mid
    mid_each P each = subst (All P) range_is (All-take P (stop - first) (drop first places) (All-drop P first places each))

    all_different : AllPairs (λ a b. a ≢ b) (pages_of r.front ++ (pages_of r.mid ++ pages_of r.back))
    all_different = subst (AllPairs (λ a b. a ≢ b)) (ap pages_of r.parts ∙ pages_both r.front (r.mid ++ r.back) ∙ ap (λ (l : List ℕ). pages_of r.front ++ l) (pages_both r.mid r.back)) are.different

    mid_different : AllPairs (λ a b. a ≢ b) (pages_of r.mid)
    mid_different = pairs_front (pages_of r.mid) (pages_of r.back) (pairs_back (pages_of r.front) (pages_of r.mid ++ pages_of r.back) all_different)

    pub range_are : ArePlaces columns v (take (stop - first) (drop first places))
    range_are = subst (ArePlaces columns v) (sym range_is) (record { each = mid_each (IsPlace columns v) are.each; different = mid_different })

    -- some elements are left of its two ends
    module _ (tells : Bool) (front back : ℕ) (u : Contents) (some : 1 ≤ length (take (stop - first) (drop first places))) (alone : length (take (stop - first) (drop first places)) ≡ 1 → back ≡ 0)
        (cut_to : AreCutTo tells slot columns from to (take (stop - first) (drop first places)) (cuts_of front back (take (stop - first) (drop first places))) v u) where
      cut : AreCutTo tells slot columns from to r.mid (cuts_of front back r.mid) v u
      cut = subst (λ (l : List Place). AreCutTo tells slot columns from to l (cuts_of front back l) v u) range_is cut_to

      mid_some : 1 ≤ length r.mid
      mid_some = subst (λ (l : List Place). 1 ≤ length l) range_is some

      left_is : left_in (cuts_of front back r.mid) ≡ front + back
      left_is = left_cut front back r.mid mid_some (subst (λ (l : List Place). length l ≡ 1 → back ≡ 0) range_is alone)

      mid_is : places_in (cuts_of front back r.mid) ≡ r.mid
      mid_is = places_cut front back r.mid

      few_left : front + back ≤ count_of r.mid
      few_left = let few = left_few (cuts_of front back r.mid) cut.fewer in omega (arith, few, left_is, ap count_of mid_is)

      pub range_few : front + back ≤ count_of (take (stop - first) (drop first places))
      range_few = subst (λ (l : List Place). front + back ≤ count_of l) (sym range_is) few_left

      own_left : IsTrue tells → (ps : List OffsetPage) (t : Told slot columns v.page r.front r.mid r.back ps) → length (outside from to (all_in t.own)) ≡ front + back
      own_left told ps t = left_count slot columns from to u.page (cuts_of front back r.mid) t.own (cut.rests told t.own t.own_on) ∙ left_is

      own_counted : (ps : List OffsetPage) (t : Told slot columns v.page r.front r.mid r.back ps) → length (within from to (all_in t.own)) + length (outside from to (all_in t.own)) ≡ count_of r.mid
      own_counted ps t = parted_count from to (all_in t.own) ∙ told_count slot columns v.page r.mid t.own t.own_on

      -- as many as there were
      pub none_removed : count_of (take (stop - first) (drop first places)) ≤ front + back → HasNoneWithin tells slot columns from to 0 places v u
      none_removed most = record {
        number = refl;
        none = λ told ps on.
            let t = told_range ps on in
            let counted = own_counted ps t in
            let left = own_left told ps t in
            within_all ps t ∙ empty (within from to (all_in t.own)) (omega (arith, counted, left, most, ap count_of range_is));
        same = cut.same (left_whole (cuts_of front back r.mid) cut.fewer (omega (arith, most, left_is, ap count_of mid_is, ap count_of range_is)));
      }

      -- the pages of the places that go
      parted : IsPermutation (pages_of r.mid) (pages_of (gone_of (cuts_of front back r.mid)) ++ pages_of (kept_of (cuts_of front back r.mid)))
      parted = subst (λ (l : List Place). IsPermutation (pages_of l) (pages_of (gone_of (cuts_of front back r.mid)) ++ pages_of (kept_of (cuts_of front back r.mid)))) mid_is (pages_parted (cuts_of front back r.mid))

      module _ (goes : List Place) (goes_are : goes ≡ gone_of (cuts_of front back (take (stop - first) (drop first places)))) where
        goes_is : goes ≡ gone_of (cuts_of front back r.mid)
        goes_is = goes_are ∙ ap (λ (l : List Place). gone_of (cuts_of front back l)) range_is

        parts : IsPermutation (pages_of r.mid) (pages_of goes ++ pages_of (kept_of (cuts_of front back r.mid)))
        parts = subst (λ (l : List Place). IsPermutation (pages_of r.mid) (pages_of l ++ pages_of (kept_of (cuts_of front back r.mid)))) (sym goes_is) parted

        parts_different : AllPairs (λ a b. a ≢ b) (pages_of goes ++ pages_of (kept_of (cuts_of front back r.mid)))
        parts_different = pairs_moved (pages_of r.mid) (pages_of goes ++ pages_of (kept_of (cuts_of front back r.mid))) parts mid_different

        pub goes_each : u.count ≡ v.count → All (CanBeFreed u) (pages_of goes)
        goes_each count =
            all_first (CanBeFreed u) (pages_of goes) (pages_of (kept_of (cuts_of front back r.mid)))
            (All-permutation (CanBeFreed u) (pages_of r.mid) (pages_of goes ++ pages_of (kept_of (cuts_of front back r.mid))) parts (freed_each columns v u r.mid cut.free count (mid_each (IsPlace columns v) are.each)))

        pub goes_different : AllPairs (λ a b. a ≢ b) (pages_of goes)
        goes_different = pairs_front (pages_of goes) (pages_of (kept_of (cuts_of front back r.mid))) parts_different

        pub goes_few : length goes ≤ length places
        goes_few =
            omega (arith, ap length goes_is, gone_long (cuts_of front back r.mid), ap length mid_is, ap length r.parts, length-append r.front (r.mid ++ r.back), length-append r.mid r.back)

        module _ (w : Contents) (freed : AreFreed tells goes u w) where
          -- a page of no place that goes
          stays : IsTrue tells → (n : ℕ) → ¬ Contains (pages_of r.mid) n → w.page n ≡ v.page n
          stays told n not =
              freed.others told n (λ has. not (Contains-permutation (pages_of goes ++ pages_of (kept_of (cuts_of front back r.mid))) (pages_of r.mid) n
              (IsPermutation-sym (pages_of r.mid) (pages_of goes ++ pages_of (kept_of (cuts_of front back r.mid))) parts) (Contains-append_left (pages_of goes) (pages_of (kept_of (cuts_of front back r.mid))) n has)))
              ∙ cut.others told n not

          front_stays : IsTrue tells → (n : ℕ) → Contains (pages_of r.front) n → w.page n ≡ v.page n
          front_stays told n has = stays told n (λ own. apart_lists (pages_of r.front) (pages_of r.mid ++ pages_of r.back) n all_different has (Contains-append_left (pages_of r.mid) (pages_of r.back) n own))

          back_stays : IsTrue tells → (n : ℕ) → Contains (pages_of r.back) n → w.page n ≡ v.page n
          back_stays told n has = stays told n (λ own. apart_lists (pages_of r.mid) (pages_of r.back) n (pairs_back (pages_of r.front) (pages_of r.mid ++ pages_of r.back) all_different) own has)

          kept_stays : IsTrue tells → (n : ℕ) → Contains (pages_of (kept_of (cuts_of front back r.mid))) n → w.page n ≡ u.page n
          kept_stays told n has = freed.others told n (λ gone. apart_lists (pages_of goes) (pages_of (kept_of (cuts_of front back r.mid))) n parts_different gone has)

          written : IsTrue tells → (ps : List OffsetPage) → AreOn slot columns v.page places ps → AreWritten slot columns (outside from to (all_in ps)) places (r.front ++ (kept_of (cuts_of front back r.mid) ++ r.back)) v w
          written told ps on =
              let t = told_range ps on in
              let cells = kept_pages from to (cuts_of front back r.mid) t.own in
              let rests = cut.rests told t.own t.own_on in
              record {
                cells = t.before ++ (cells ++ t.behind);
                all = all_parts t.before cells t.behind
                    ∙ ap (λ (l : List OffsetElement). all_in t.before ++ (l ++ all_in t.behind)) (kept_all slot columns from to u.page (cuts_of front back r.mid) t.own rests)
                    ∙ sym (outside_all ps t);
                on = on_both slot columns w.page r.front (kept_of (cuts_of front back r.mid) ++ r.back) t.before (cells ++ t.behind) (on_kept slot columns v.page w.page r.front t.before (front_stays told) t.front_on)
                    (on_both slot columns w.page (kept_of (cuts_of front back r.mid)) r.back cells t.behind
                    (on_kept slot columns u.page w.page (kept_of (cuts_of front back r.mid)) cells (kept_stays told) (kept_on slot columns from to u.page (cuts_of front back r.mid) t.own rests))
                    (on_kept slot columns v.page w.page r.back t.behind (back_stays told) t.back_on));
                others = λ n not free. stays told n (λ own. not (subst (λ (l : List ℕ). Contains l n) (sym (ap pages_of r.parts ∙ pages_both r.front (r.mid ++ r.back) ∙ ap (λ (l : List ℕ). pages_of r.front ++ l) (pages_both r.mid r.back)))
                    (Contains-append_right (pages_of r.front) (pages_of r.mid ++ pages_of r.back) n (Contains-append_left (pages_of r.mid) (pages_of r.back) n own))));
              }

          moved : AreMoved columns places (r.front ++ (kept_of (cuts_of front back r.mid) ++ r.back)) v w
          moved =
              let kept : List Place = kept_of (cuts_of front back r.mid) in
              let P : Place → Type 0 = IsCounted columns in
              let each : All P places = counted columns v places are in
              record {
                pages = subst (λ (l : List ℕ). IsPermutation (v.free ++ l) (w.free ++ pages_of (r.front ++ (kept ++ r.back)))) (sym (ap pages_of r.parts ∙ pages_both r.front (r.mid ++ r.back) ∙ ap (λ (l : List ℕ). pages_of r.front ++ l) (pages_both r.mid r.back)))
                    (subst (λ (l : List ℕ). IsPermutation (v.free ++ (pages_of r.front ++ (pages_of r.mid ++ pages_of r.back))) (w.free ++ l)) (sym (pages_both r.front (kept ++ r.back) ∙ ap (λ (l : List ℕ). pages_of r.front ++ l) (pages_both kept r.back)))
                    (pages_moved v.free (pages_of r.front) (pages_of goes) (pages_of kept) (pages_of r.mid) (pages_of r.back) w.free parts (subst (λ (l : List ℕ). IsPermutation (l ++ pages_of goes) w.free) cut.free freed.free)));
                rising = rising_kept r.front (cuts_of front back r.mid) r.back (subst (λ (l : List Place). IsRising (r.front ++ (l ++ r.back))) (sym mid_is) (subst IsRising r.parts rising));
                counts = All-append P r.front (kept ++ r.back) (subst (All P) front_is (All-take P first places each)) (All-append P kept r.back (counted_kept columns (cuts_of front back r.mid) (subst (All P) (sym mid_is) (mid_each P each)) cut.fewer) (subst (All P) back_is (All-drop P stop places each)));
              }

          -- so many as there were and aren't left
          module _ (limit : to < 2 ^ 63) (removed : ℕ) (removed_is : count_of (take (stop - first) (drop first places)) < 2 ^ 64 → removed + (front + back) ≡ count_of (take (stop - first) (drop first places))) where
            number : IsTrue tells → (ps : List OffsetPage) → AreOn slot columns v.page places ps → removed ≡ length (within from to (all_in ps))
            number told ps on =
                let t = told_range ps on in
                let counted = own_counted ps t in
                let left = own_left told ps t in
                let few = few_told slot columns v.page to r.mid t.own mid_rising r.ends t.own_on in
                let sum = told_count slot columns v.page r.mid t.own t.own_on in
                let all = removed_is (omega (arith, few, sum, limit, few_fit columns, ap count_of range_is)) in
                let here : removed ≡ length (within from to (all_in t.own)) = omega (arith, counted, left, all, ap count_of range_is) in
                here ∙ ap length (sym (within_all ps t))

            pub cleared : (move : Moved) → move.index ≡ first → move.gone ≡ length (take (stop - first) (drop first places)) → list_of move.come ≡ kept_of (cuts_of front back (take (stop - first) (drop first places)))
                → AreCleared tells slot columns from to removed places (moved_to move places) v w
            cleared move index gone come =
                let kept : List Place = kept_of (cuts_of front back r.mid) in
                let made : AreCleared tells slot columns from to removed places (r.front ++ (kept ++ r.back)) v w = record {
                  places = moved;
                  count = omega (arith, few_left, left_is, count_kept (cuts_of front back r.mid), ap count_of r.parts, count_both r.front (r.mid ++ r.back), count_both r.mid r.back, count_both r.front (kept ++ r.back), count_both kept r.back);
                  number = number;
                  left = written;
                } in
                subst (λ (l : List Place). AreCleared tells slot columns from to removed places l v w)
                (sym (moved_middle r.front r.mid kept r.back move places r.parts (r.first_is ∙ sym index) (ap length (sym range_is) ∙ sym gone) (come ∙ ap (λ (l : List Place). kept_of (cuts_of front back l)) range_is))) made
