-- Pages side by side of a series that lose an element.
use Rattle.std.proofs.Common.{◌≡◌, ◌≢◌, ℕ, ◌+◌, ◌<◌, ◌≤◌, ◌^◌, ℤ, ◌≤ℤ◌, All, AllPairs, Some, List, [], ◌∷◌, ◌++◌, length, refl, sym, ap, subst, ◌∙◌, arith, append_assoc, append-nil}
use Rattle.std.specs.Prelude.{Contains, IsPermutation}
use Rattle.std.proofs.lemmas.Int.{ints}
use Rattle.std.proofs.lemmas.List.Elements.{All-cons, All-head, All-tail}
use Rattle.std.proofs.lemmas.List.Sums.{sum_by-append, sum_by-cons}
use Rattle.ts_space.specs.declared.place.Place.{Place}
use Rattle.ts_space.specs.Place.{AreAbove, IsRising, count_of}
use Rattle.ts_page.specs.Pages.{zero_page, Contents, EqualPages, with_page}
use Rattle.ts_row.specs.declared.kind.Column.{Column}
use Rattle.ts_row.specs.Row.{Element}
use Rattle.ts_cells.specs.IrregularPage.{page_room, irregular_page, first_stamp}
use Rattle.ts_irregular.specs.Edit.{without_element}
use Rattle.ts_sheets.specs.Stamped.{all_in, ArePages, AreSized, IsDense, IsChain, IsAround}
use Rattle.ts_space.specs.Place.{pages_of}
use Rattle.ts_sheets.specs.Places.{AreChained, AreMoved, IsCounted}
use Rattle.ts_chain.specs.Call.{AreWritten}
use Rattle.ts_chain.specs.Window.{AreOnOne}
use Rattle.ts_sheets.proofs.OrderLemmas.{sized_pages, sized_back}
use Rattle.ts_sheets.proofs.DenseLemmas.{MeetsLeft, MeetsRight, dense_front, dense_back, dense_left, dense_right, dense_cons, dense_made, dense_tail, meets_left, meets_right}
use Rattle.ts_chain.proofs.WindowLemmas.{without_window}
use Rattle.ts_chain.proofs.PlaceLemmas.{chained_both}
use Rattle.ts_chain.proofs.PagesLemmas.{AreApart, changed_page, other_page, page_there, apart_behind, apart_before, chained_other}
use Rattle.ts_chain.proofs.TakenLemmas.{one_freed, none_moved}

-- the pages of places with another place instead of one, and without one
pages_put : (front : List Place) (a b : Place) (back : List Place) → b.page ≡ a.page → pages_of (front ++ b ∷ back) ≡ pages_of (front ++ a ∷ back)
pages_put [] a b back same = ap (λ (n : ℕ). n ∷ pages_of back) same
pages_put (p ∷ front) a b back same = ap (λ (l : List ℕ). p.page ∷ l) (pages_put front a b back same)

pub pages_both : (front back : List Place) → pages_of (front ++ back) ≡ pages_of front ++ pages_of back
pages_both [] back = refl
pages_both (p ∷ front) back = ap (λ (l : List ℕ). p.page ∷ l) (pages_both front back)

-- they rise
above_put : (at : ℤ) (front : List Place) (a b : Place) (back : List Place) → a.at ≤ℤ b.at → AreAbove at (front ++ a ∷ back) → AreAbove at (front ++ b ∷ back)
above_put at [] a b back more above = let first = above.0 in (omega (arith, ints, more, first), above.1)
above_put at (p ∷ front) a b back more above = (above.0, above_put at front a b back more above.1)

rising_put : (front : List Place) (a b : Place) (back : List Place) → a.at ≤ℤ b.at → AreAbove b.at back → IsRising (front ++ a ∷ back) → IsRising (front ++ b ∷ back)
rising_put [] a b back more above rising = (above, rising.1)
rising_put (p ∷ front) a b back more above rising = (above_put p.at front a b back more rising.0, rising_put front a b back more above rising.1)

above_free : (at : ℤ) (front : List Place) (a : Place) (back : List Place) → AreAbove at (front ++ a ∷ back) → AreAbove at (front ++ back)
above_free at [] a back above = above.1
above_free at (p ∷ front) a back above = (above.0, above_free at front a back above.1)

rising_free : (front : List Place) (a : Place) (back : List Place) → IsRising (front ++ a ∷ back) → IsRising (front ++ back)
rising_free [] a back rising = rising.1
rising_free (p ∷ front) a back rising = (above_free p.at front a back rising.0, rising_free front a back rising.1)

pub rising_at : (front : List Place) (a : Place) (back : List Place) → IsRising (front ++ a ∷ back) → AreAbove a.at back
rising_at [] a back rising = rising.0
rising_at (p ∷ front) a back rising = rising_at front a back rising.1

-- what holds of each
all_put : (P : Place → Type 0) (front : List Place) (a b : Place) (back : List Place) → P b → All P (front ++ a ∷ back) → All P (front ++ b ∷ back)
all_put P [] a b back is all = All-cons P b back is (All-tail P a back all)
all_put P (p ∷ front) a b back is all = All-cons P p (front ++ b ∷ back) (All-head P p (front ++ a ∷ back) all) (all_put P front a b back is (All-tail P p (front ++ a ∷ back) all))

all_free : (P : Place → Type 0) (front : List Place) (a : Place) (back : List Place) → All P (front ++ a ∷ back) → All P (front ++ back)
all_free P [] a back all = All-tail P a back all
all_free P (p ∷ front) a back all = All-cons P p (front ++ back) (All-head P p (front ++ a ∷ back) all) (all_free P front a back (All-tail P p (front ++ a ∷ back) all))

-- how many elements they have
pub count_parts : (front : List Place) (a : Place) (back : List Place) → count_of (front ++ a ∷ back) ≡ count_of front + (a.count + count_of back)
count_parts front a back =
    sum_by-append (λ (p : Place). p.count) front (a ∷ back) ∙ ap (λ (n : ℕ). count_of front + n) (sum_by-cons (λ (p : Place). p.count) a back)

pub count_both : (front back : List Place) → count_of (front ++ back) ≡ count_of front + count_of back
count_both front back = sum_by-append (λ (p : Place). p.count) front back

module _ (columns : List Column) (front : List Place) (a : Place) (back : List Place) (rising : IsRising (front ++ a ∷ back)) (counts : All (IsCounted columns) (front ++ a ∷ back)) (v w : Contents) where
  -- another place of the same page
  pub moved_put : (b : Place) → w.free ≡ v.free → b.page ≡ a.page → a.at ≤ℤ b.at → AreAbove b.at back → IsCounted columns b → AreMoved columns (front ++ a ∷ back) (front ++ b ∷ back) v w
  moved_put b free page more above counted = record {
    pages = subst (λ (l : List ℕ). IsPermutation (v.free ++ pages_of (front ++ a ∷ back)) (w.free ++ l)) (sym (pages_put front a b back page)) (none_moved v.free w.free (pages_of (front ++ a ∷ back)) free);
    rising = rising_put front a b back more above rising;
    counts = all_put (IsCounted columns) front a b back counted counts;
  }

  -- the page is freed
  pub moved_free : w.free ≡ a.page ∷ v.free → AreMoved columns (front ++ a ∷ back) (front ++ back) v w
  moved_free free = record {
    pages =
        let whole : IsPermutation (v.free ++ pages_of (front ++ a ∷ back)) ((a.page ∷ v.free) ++ (pages_of front ++ pages_of back)) =
        subst (λ (l : List ℕ). IsPermutation (v.free ++ l) ((a.page ∷ v.free) ++ (pages_of front ++ pages_of back))) (sym (pages_both front (a ∷ back))) (one_freed v.free (pages_of front) a.page (pages_of back)) in
        let left : IsPermutation (v.free ++ pages_of (front ++ a ∷ back)) ((a.page ∷ v.free) ++ pages_of (front ++ back)) =
        subst (λ (l : List ℕ). IsPermutation (v.free ++ pages_of (front ++ a ∷ back)) ((a.page ∷ v.free) ++ l)) (sym (pages_both front back)) whole in
        subst (λ (l : List ℕ). IsPermutation (v.free ++ pages_of (front ++ a ∷ back)) (l ++ pages_of (front ++ back))) (sym free) left;
    rising = rising_free front a back rising;
    counts = all_free (IsCounted columns) front a back counts;
  }

-- two places become one of the first one's page
pub moved_both : (columns : List Column) (front : List Place) (a b : Place) (back : List Place) → IsRising (front ++ a ∷ b ∷ back) → All (IsCounted columns) (front ++ a ∷ b ∷ back) → (v w : Contents) (one : Place) → w.free ≡ b.page ∷ v.free → one.page ≡ a.page
    → a.at ≤ℤ one.at → AreAbove one.at (b ∷ back) → IsCounted columns one → AreMoved columns (front ++ a ∷ b ∷ back) (front ++ one ∷ back) v w
moved_both columns front a b back rising counts v w one free page more above counted =
    let first = moved_put columns front a (b ∷ back) rising counts v v one refl page more above counted in
    let whole : (front ++ one ∷ []) ++ b ∷ back ≡ front ++ one ∷ b ∷ back = append_assoc front (one ∷ []) (b ∷ back) in
    let less : (front ++ one ∷ []) ++ back ≡ front ++ one ∷ back = append_assoc front (one ∷ []) back in
    let second = moved_free columns (front ++ one ∷ []) b back (subst IsRising (sym whole) first.rising) (subst (All (IsCounted columns)) (sym whole) first.counts) v w free in
    let after : AreMoved columns (front ++ one ∷ b ∷ back) (front ++ one ∷ back) v w = subst (λ (ps : List Place). AreMoved columns ps (front ++ one ∷ back) v w) whole (subst (λ (ps : List Place). AreMoved columns ((front ++ one ∷ []) ++ b ∷ back) ps v w) less second) in
    record {
      pages = subst (λ (l : List ℕ). IsPermutation (v.free ++ l) (w.free ++ pages_of (front ++ one ∷ back))) (pages_put front a one (b ∷ back) page) after.pages;
      rising = after.rising;
      counts = after.counts;
    }

-- the pages from one on
pub pages_from : (columns : List Column) (front back : List (List Element)) → ArePages columns (front ++ back) → ArePages columns back
pages_from columns [] back are = are
pages_from columns (es ∷ front) back are = pages_from columns front back are.2

apart_front : (n : ℕ) (front back : List Place) → AreApart n (front ++ back) → AreApart n front
apart_front n [] back apart = tt
apart_front n (p ∷ front) back apart = (apart.0, apart_front n front back apart.1)

-- a page of one element goes from among its neighbours
dense_less : (q : ℕ) (front : List (List Element)) (es : List Element) (back : List (List Element)) → length es ≤ 1 → AreSized q back → IsDense q (front ++ es ∷ back) → IsDense q (front ++ back)
dense_less q front es [] few sized dense = subst (IsDense q) (sym (append-nil front)) (dense_front q front (es ∷ []) dense)
dense_less q front es (fs ∷ back) few sized dense =
    let some = sized.0 in
    dense_made q front fs back (dense_front q front (es ∷ fs ∷ back) dense)
    (meets_left q front (length es) (length fs) (omega (arith, few, some)) (dense_left q front es (fs ∷ back) dense))
    (dense_tail q es (fs ∷ back) (dense_back q front (es ∷ fs ∷ back) dense))

module _ (slot : ℕ) (columns : List Column) (stamp : ℤ) (number : slot < 2 ^ 16) (front : List Place) (a : Place) (back : List Place) (before : List (List Element)) (x : List Element) (behind : List (List Element)) (v w : Contents)
    (pairs : AllPairs (λ m n. m ≢ n) (pages_of (front ++ a ∷ back))) (is : IsChain columns (before ++ x ∷ behind))
    (front_on : AreChained slot columns v.page front before) (back_on : AreChained slot columns v.page back behind) (around : IsAround stamp before behind) where
  -- the elements of the page with one less
  abbrev pub rest : List Element
  rest = without_element stamp x

  other : (bytes : List ℕ) → EqualPages (with_page a.page bytes v.page) w.page → (n : ℕ) → ¬ Contains (pages_of (front ++ a ∷ back)) n → w.page n ≡ v.page n
  other bytes put n not = put n ∙ other_page a.page n bytes v.page (λ same. not (subst (Contains (pages_of (front ++ a ∷ back))) (sym same) (page_there front a back)))

  -- are put on it
  pub put_written : (b : Place) → b.page ≡ a.page → length rest ≡ b.count → 1 ≤ b.count → b.count ≤ page_room columns → first_stamp rest ≡ Some b.at → MeetsLeft (page_room columns) before (length rest) → MeetsRight (page_room columns) (length rest) behind
      → EqualPages (with_page a.page (irregular_page slot columns rest) v.page) w.page → AreWritten slot columns (without_element stamp (all_in (before ++ x ∷ behind))) (front ++ a ∷ back) (front ++ b ∷ back) v w
  put_written b page count some room first left right put =
      let q : ℕ = page_room columns in
      let tail = dense_tail q x behind (dense_back q before (x ∷ behind) is.dense) in
      let dense = dense_made q before rest behind (dense_front q before (x ∷ behind) is.dense) left (dense_cons q rest behind right tail) in
      let made = without_window columns stamp before (x ∷ []) (rest ∷ []) behind is around (omega (arith, count, some), omega (arith, count, room), tt) dense (append-nil rest ∙ ap (without_element stamp) (sym (append-nil x))) in
      record {
        chain = before ++ rest ∷ behind;
        is = made.0;
        all = made.1;
        on = chained_both slot columns w.page front (b ∷ back) before (rest ∷ behind)
            (chained_other slot columns a.page (irregular_page slot columns rest) v.page w.page front before put (apart_before front a back pairs) front_on) (
              record {
                bytes = record {
                  number = number;
                  fill = (pages_from columns before (rest ∷ behind) made.0.pages).0;
                  bytes = ap w.page page ∙ put a.page ∙ changed_page a.page (irregular_page slot columns rest) v.page;
                };
                count = count;
                first = first;
              },
              chained_other slot columns a.page (irregular_page slot columns rest) v.page w.page back behind put (apart_behind front a back pairs) back_on,
            );
        others = λ n not free. other (irregular_page slot columns rest) put n not;
      }

  -- are none, and it is freed
  pub freed_written : length x ≤ 1 → rest ≡ [] → EqualPages (with_page a.page zero_page v.page) w.page
      → AreWritten slot columns (without_element stamp (all_in (before ++ x ∷ behind))) (front ++ a ∷ back) (front ++ back) v w
  freed_written few none put =
      let q : ℕ = page_room columns in
      let sized = sized_back q (x ∷ []) behind (sized_back q before (x ∷ behind) (sized_pages columns (before ++ x ∷ behind) is.pages)) in
      let made = without_window columns stamp before (x ∷ []) [] behind is around tt (dense_less q before x behind few sized is.dense) (sym none ∙ ap (without_element stamp) (sym (append-nil x))) in
      record {
        chain = before ++ behind;
        is = made.0;
        all = made.1;
        on = chained_both slot columns w.page front back before behind
            (chained_other slot columns a.page zero_page v.page w.page front before put (apart_before front a back pairs) front_on)
            (chained_other slot columns a.page zero_page v.page w.page back behind put (apart_behind front a back pairs) back_on);
        others = λ n not free. other zero_page put n not;
      }

-- two pages become one
pub both_written : (slot : ℕ) (columns : List Column) (stamp : ℤ) → slot < 2 ^ 16 → (front : List Place) (a b : Place) (back : List Place) (before : List (List Element)) (x y : List Element) (behind : List (List Element)) (v w : Contents)
    → AllPairs (λ m n. m ≢ n) (pages_of (front ++ a ∷ b ∷ back)) → IsChain columns (before ++ x ∷ y ∷ behind) → AreChained slot columns v.page front before → AreChained slot columns v.page back behind → IsAround stamp before behind
    → (one : Place) (es : List Element) → es ≡ without_element stamp (x ++ y) → length x ≤ length es → length y ≤ length es → IsCounted columns one → one.page ≡ a.page → first_stamp es ≡ Some one.at → AreOnOne slot columns es one b.page v w
    → AreWritten slot columns (without_element stamp (all_in (before ++ x ∷ y ∷ behind))) (front ++ a ∷ b ∷ back) (front ++ one ∷ back) v w
both_written slot columns stamp number front a b back before x y behind v w pairs is front_on back_on around one es own more1 more2 counted page first h =
    let q : ℕ = page_room columns in
    let bytes : List ℕ = irregular_page slot columns es in
    let u : ℕ → List ℕ = with_page one.page bytes v.page in
    let count : length es ≡ one.count = h.count in
    let some = counted.some in
    let room = counted.room in
    let whole : (front ++ a ∷ []) ++ b ∷ back ≡ front ++ a ∷ b ∷ back = append_assoc front (a ∷ []) (b ∷ back) in
    let pairs2 : AllPairs (λ m n. m ≢ n) (pages_of ((front ++ a ∷ []) ++ b ∷ back)) = subst (λ (ps : List Place). AllPairs (λ m n. m ≢ n) (pages_of ps)) (sym whole) pairs in
    let before_a : AreApart one.page front = subst (λ (n : ℕ). AreApart n front) (sym page) (apart_before front a (b ∷ back) pairs) in
    let behind_a : AreApart one.page (b ∷ back) = subst (λ (n : ℕ). AreApart n (b ∷ back)) (sym page) (apart_behind front a (b ∷ back) pairs) in
    let before_b : AreApart b.page front = apart_front b.page front (a ∷ []) (apart_before (front ++ a ∷ []) b back pairs2) in
    let behind_b : AreApart b.page back = apart_behind (front ++ a ∷ []) b back pairs2 in
    let first_dense = dense_back q before (x ∷ y ∷ behind) is.dense in
    let next_dense = dense_tail q x (y ∷ behind) first_dense in
    let dense = dense_made q before es behind (dense_front q before (x ∷ y ∷ behind) is.dense) (meets_left q before (length x) (length es) more1 (dense_left q before x (y ∷ behind) is.dense))
    (dense_cons q es behind (meets_right q (length y) (length es) behind more2 (dense_right q y behind next_dense)) (dense_tail q y behind next_dense)) in
    let made = without_window columns stamp before (x ∷ y ∷ []) (es ∷ []) behind is around (omega (arith, count, some), omega (arith, count, room), tt) dense
    (append-nil es ∙ own ∙ ap (λ (l : List Element). without_element stamp (x ++ l)) (sym (append-nil y))) in
    let put : EqualPages (with_page b.page zero_page u) w.page = h.pages in
    record {
      chain = before ++ es ∷ behind;
      is = made.0;
      all = made.1;
      on = chained_both slot columns w.page front (one ∷ back) before (es ∷ behind)
          (chained_other slot columns b.page zero_page u w.page front before put before_b (chained_other slot columns one.page bytes v.page u front before (λ n. refl) before_a front_on)) (
            record {
              bytes = record {
                number = number;
                fill = (pages_from columns before (es ∷ behind) made.0.pages).0;
                bytes = put one.page ∙ other_page b.page one.page zero_page u (λ same. behind_a.0 (sym same)) ∙ changed_page one.page bytes v.page;
              };
              count = count;
              first = first;
            },
            chained_other slot columns b.page zero_page u w.page back behind put behind_b (chained_other slot columns one.page bytes v.page u back behind (λ n. refl) behind_a.1 back_on),
          );
      others = λ n not free.
          let first_not : n ≢ one.page = λ same. not (subst (Contains (pages_of (front ++ a ∷ b ∷ back))) (sym (same ∙ page)) (page_there front a (b ∷ back))) in
          let next_not : n ≢ b.page = λ same. not (subst (Contains (pages_of (front ++ a ∷ b ∷ back))) (sym same) (subst (λ (ps : List Place). Contains (pages_of ps) b.page) whole (page_there (front ++ a ∷ []) b back))) in
          put n ∙ other_page b.page n zero_page u next_not ∙ other_page one.page n bytes v.page first_not;
    }
