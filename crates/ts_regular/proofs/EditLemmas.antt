-- What an edit of one page does to the series.
use Rattle.std.proofs.Common.{◌≡◌, ◌≢◌, ℕ, suc, ◌+◌, ◌/◌, ◌%◌, ◌<◌, ◌≤◌, All, AllPairs, Bool, true, false, IsTrue, ℤ, ◌<ℤ◌, pos, Option, Some, None, IsSome, IfOk, Result, Ok, Err, List, [], ◌∷◌, ◌++◌, length, take, drop, get_or, refl, sym, ap, subst, ◌∙◌, arith, append_assoc, append-nil, length-append, inl, inr}
use Rattle.std.specs.Prelude.{Contains, IsPermutation, slice_set}
use Rattle.std.specs.Option.{option_map}
use Rattle.std.proofs.lemmas.Int.{ints}
use Rattle.std.proofs.lemmas.List.{take_at, drop_at, length-replicate}
use Rattle.std.proofs.lemmas.List.Elements.{All-cons, All-head, All-tail, All-weaker}
use Rattle.std.proofs.lemmas.List.Sums.{sum_by-append, sum_by-cons}
use Rattle.std.proofs.lemmas.List.Sorted.{IsPermutation-refl, IsPermutation-sym, IsPermutation-middle}
use Rattle.std.proofs.Math.Nat.{mul-mod_left}
use Rattle.std.proofs.Math.Seq.{get_or-append_seam}
use Rattle.ts_space.specs.declared.place.Place.{Place}
use Rattle.ts_space.specs.Place.{AreAbove, AreBelow, IsRising, count_of, pages_of, place_at, search_of}
use Rattle.ts_space.specs.declared.moved.Moved.{Moved}
use Rattle.ts_space.specs.declared.moved.Come.{Come}
use Rattle.ts_space.specs.declared.moved.Come.TheVariants.{Nothing, One, Two}
use Rattle.ts_space.specs.Moved.{list_of, moved_to}
use Rattle.ts_page.specs.Pages.{Contents}
use Rattle.ts_row.specs.declared.kind.Column.{Column}
use Rattle.ts_row.specs.Row.{Row, marked}
use Rattle.ts_regular.specs.RegularPage.{Cell, regular_room, base_of, OffsetElement, elements_from, element_at, with_element, without_element}
use Rattle.ts_regular.specs.Places.{OffsetPage, all_in, IsOn, AreOn, IsCounted, IsPlace, ArePlaces, AreMoved}
use Rattle.ts_regular.specs.OnePage.{cell_at, with_row, without_row, with_mark, no_cells, IsToldOn, IsEditedOn, IsPutAlone, IsEmptyOn, IsMarkedOn, IsTakenFrom, IsFreedOn, IsTakenOn}
use Rattle.ts_regular.specs.Call.{Stays, IsRowIn, AreWritten, IsPut, IsMissing, IsMarked, IsTakenAway, IsRemoved}
use Rattle.ts_regular.proofs.OffsetLemmas.{AreLess, AreMore, at_front, at_back, with_front, with_back, without_front, without_back, none_more, first_more}
use Rattle.ts_regular.proofs.CellsLemmas.{found_in, put_in, taken_in, count_in}
use Rattle.ts_regular.proofs.KeptLemmas.{no_count, pos_one}
use Rattle.ts_space.proofs.PlaceLemmas.{none_found}
use Rattle.ts_regular.proofs.PlaceLemmas.{IsFound, IsGap, at_lower, found_ok, gap_err, Cut, cut, Parted, part, on_both, all_both, pages_less, pages_more}

-- the page of a place among all
pub page_there : (front : List Place) (place : Place) (back : List Place) → Contains (pages_of (front ++ place ∷ back)) place.page
page_there [] place back = (0, omega arith, refl)
page_there (p ∷ front) place back =
    let rest = page_there front place back in
    let below = rest.1 in
    (suc rest.0, omega (arith, below), rest.2)

-- each place has another page than this
abbrev pub AreApart : ℕ → List Place → Type 0
AreApart n [] = Unit {0}
AreApart n (p ∷ places) = (p.page ≢ n) × AreApart n places

pub pairs_tail : (x : ℕ) (xs : List ℕ) → AllPairs (λ a b. a ≢ b) (x ∷ xs) → AllPairs (λ a b. a ≢ b) xs
pairs_tail x xs pairs i j d before within = pairs (suc i) (suc j) d (omega arith) (omega arith)

behind_apart : (n : ℕ) (places : List Place) → ((j : ℕ) (d : ℕ) → j < length (pages_of places) → n ≢ get_or (pages_of places) j d) → AreApart n places
behind_apart n [] others = tt
behind_apart n (p ∷ places) others = ((λ same. others 0 0 (omega arith) (sym same)), behind_apart n places (λ j d within. others (suc j) d (omega arith)))

pub apart_behind : (front : List Place) (place : Place) (back : List Place) → AllPairs (λ a b. a ≢ b) (pages_of (front ++ place ∷ back)) → AreApart place.page back
apart_behind [] place back pairs = behind_apart place.page back (λ j d within. pairs 0 (suc j) d (omega arith) (omega arith))
apart_behind (p ∷ front) place back pairs = apart_behind front place back (pairs_tail p.page (pages_of (front ++ place ∷ back)) pairs)

apart_before : (front : List Place) (place : Place) (back : List Place) → AllPairs (λ a b. a ≢ b) (pages_of (front ++ place ∷ back)) → AreApart place.page front
apart_before [] place back pairs = tt
apart_before (p ∷ front) place back pairs =
    let here = page_there front place back in
    let below = here.1 in (
      (λ same. pairs 0 (suc here.0) place.page (omega arith) (omega (arith, below)) (same ∙ sym here.2)),
      apart_before front place back (pairs_tail p.page (pages_of (front ++ place ∷ back)) pairs),
    )

-- a page that `take` gave is none of theirs
taken_apart : (columns : List Column) (c : Contents) (n : ℕ) (places : List Place) → Contains c.free n → All (IsPlace columns c) places → AreApart n places
taken_apart columns c n [] has each = tt
taken_apart columns c n (p ∷ places) has each =
    ((λ same. (All-head (IsPlace columns c) p places each).used (subst (Contains c.free) (sym same) has)), taken_apart columns c n places has (All-tail (IsPlace columns c) p places each))

-- pages of which none is the one that changed
pub on_other : (slot : ℕ) (columns : List Column) (n : ℕ) (v w : ℕ → List ℕ) (places : List Place) (ps : List OffsetPage) → ((other : ℕ) → other ≢ n → w other ≡ v other) → AreApart n places → AreOn slot columns v places ps → AreOn slot columns w places ps
on_other slot columns n v w [] [] others apart on = tt
on_other slot columns n v w [] (p ∷ ps) others apart on = absurd on
on_other slot columns n v w (q ∷ places) [] others apart on = absurd on
on_other slot columns n v w (q ∷ places) (p ∷ ps) others apart on =
    (subst (λ (b : List ℕ). IsOn slot columns b q p) (sym (others q.page apart.0)) on.0, on_other slot columns n v w places ps others apart.1 on.1)

-- the pages of places with another place instead of one, with one more and without one
pages_put : (front : List Place) (a b : Place) (back : List Place) → b.page ≡ a.page → pages_of (front ++ b ∷ back) ≡ pages_of (front ++ a ∷ back)
pages_put [] a b back same = ap (λ (n : ℕ). n ∷ pages_of back) same
pages_put (p ∷ front) a b back same = ap (λ (l : List ℕ). p.page ∷ l) (pages_put front a b back same)

pub pages_both : (front back : List Place) → pages_of (front ++ back) ≡ pages_of front ++ pages_of back
pages_both [] back = refl
pages_both (p ∷ front) back = ap (λ (l : List ℕ). p.page ∷ l) (pages_both front back)

pub one_freed : (free before : List ℕ) (n : ℕ) (behind : List ℕ) → IsPermutation (free ++ (before ++ n ∷ behind)) ((n ∷ free) ++ (before ++ behind))
one_freed free before n behind =
    let one : (free ++ before) ++ n ∷ behind ≡ free ++ (before ++ n ∷ behind) = append_assoc free before (n ∷ behind) in
    let two : n ∷ ((free ++ before) ++ behind) ≡ (n ∷ free) ++ (before ++ behind) = ap (λ (l : List ℕ). n ∷ l) (append_assoc free before behind) in
    subst (λ (l : List ℕ). IsPermutation l ((n ∷ free) ++ (before ++ behind))) one
    (subst (λ (l : List ℕ). IsPermutation ((free ++ before) ++ n ∷ behind) l) two (IsPermutation-middle (free ++ before) n behind))

pages_freed : (free : List ℕ) (front : List Place) (a : Place) (back : List Place) → IsPermutation (free ++ pages_of (front ++ a ∷ back)) ((a.page ∷ free) ++ pages_of (front ++ back))
pages_freed free front a back =
    subst (λ (l : List ℕ). IsPermutation (free ++ l) ((a.page ∷ free) ++ pages_of (front ++ back))) (sym (pages_both front (a ∷ back)))
    (subst (λ (l : List ℕ). IsPermutation (free ++ (pages_of front ++ a.page ∷ pages_of back)) ((a.page ∷ free) ++ l)) (sym (pages_both front back)) (one_freed free (pages_of front) a.page (pages_of back)))

-- they rise
above_at : (at : ℤ) (front : List Place) (a b : Place) (back : List Place) → b.at ≡ a.at → AreAbove at (front ++ a ∷ back) → AreAbove at (front ++ b ∷ back)
above_at at [] a b back same above = let first = above.0 in (omega (arith, ints, same, first), above.1)
above_at at (p ∷ front) a b back same above = (above.0, above_at at front a b back same above.1)

rising_at : (front : List Place) (a b : Place) (back : List Place) → b.at ≡ a.at → IsRising (front ++ a ∷ back) → IsRising (front ++ b ∷ back)
rising_at [] a b back same rising = (subst (λ (z : ℤ). AreAbove z back) (sym same) rising.0, rising.1)
rising_at (p ∷ front) a b back same rising = (above_at p.at front a b back same rising.0, rising_at front a b back same rising.1)

above_free : (at : ℤ) (front : List Place) (a : Place) (back : List Place) → AreAbove at (front ++ a ∷ back) → AreAbove at (front ++ back)
above_free at [] a back above = above.1
above_free at (p ∷ front) a back above = (above.0, above_free at front a back above.1)

rising_free : (front : List Place) (a : Place) (back : List Place) → IsRising (front ++ a ∷ back) → IsRising (front ++ back)
rising_free [] a back rising = rising.1
rising_free (p ∷ front) a back rising = (above_free p.at front a back rising.0, rising_free front a back rising.1)

above_new : (at : ℤ) (front : List Place) (a : Place) (back : List Place) → at <ℤ a.at → AreAbove at (front ++ back) → AreAbove at (front ++ a ∷ back)
above_new at [] a back low above = (low, above)
above_new at (p ∷ front) a back low above = (above.0, above_new at front a back low above.1)

rising_new : (front : List Place) (a : Place) (back : List Place) → AreBelow a.at front → AreAbove a.at back → IsRising (front ++ back) → IsRising (front ++ a ∷ back)
rising_new [] a back below above rising = (above, rising)
rising_new (p ∷ front) a back below above rising = (above_new p.at front a back below.0 rising.0, rising_new front a back below.1 above rising.1)

-- what holds of each
all_put : (P : Place → Type 0) (front : List Place) (a b : Place) (back : List Place) → P b → All P (front ++ a ∷ back) → All P (front ++ b ∷ back)
all_put P [] a b back is all = All-cons P b back is (All-tail P a back all)
all_put P (p ∷ front) a b back is all = All-cons P p (front ++ b ∷ back) (All-head P p (front ++ a ∷ back) all) (all_put P front a b back is (All-tail P p (front ++ a ∷ back) all))

all_free : (P : Place → Type 0) (front : List Place) (a : Place) (back : List Place) → All P (front ++ a ∷ back) → All P (front ++ back)
all_free P [] a back all = All-tail P a back all
all_free P (p ∷ front) a back all = All-cons P p (front ++ back) (All-head P p (front ++ a ∷ back) all) (all_free P front a back (All-tail P p (front ++ a ∷ back) all))

all_new : (P : Place → Type 0) (front : List Place) (a : Place) (back : List Place) → P a → All P (front ++ back) → All P (front ++ a ∷ back)
all_new P [] a back is all = All-cons P a back is all
all_new P (p ∷ front) a back is all = All-cons P p (front ++ a ∷ back) (All-head P p (front ++ back) all) (all_new P front a back is (All-tail P p (front ++ back) all))

-- how many elements they have
pub count_parts : (front : List Place) (a : Place) (back : List Place) → count_of (front ++ a ∷ back) ≡ count_of front + (a.count + count_of back)
count_parts front a back = sum_by-append (λ (p : Place). p.count) front (a ∷ back) ∙ ap (λ (n : ℕ). count_of front + n) (sum_by-cons (λ (p : Place). p.count) a back)

pub count_both : (front back : List Place) → count_of (front ++ back) ≡ count_of front + count_of back
count_both front back = sum_by-append (λ (p : Place). p.count) front back

-- the places after a change of some in the middle
pub moved_middle : (front gone come back : List Place) (moved : Moved) (places : List Place) → places ≡ front ++ (gone ++ back) → length front ≡ moved.index → length gone ≡ moved.gone → list_of moved.come ≡ come → moved_to moved places ≡ front ++ (come ++ back)
moved_middle front gone come back moved places parts index number is =
    let first : take moved.index places ≡ front = ap (take moved.index) parts ∙ take_at front (gone ++ back) moved.index index in
    let whole : places ≡ (front ++ gone) ++ back = parts ∙ sym (append_assoc front gone back) in
    let last : drop (moved.index + moved.gone) places ≡ back = ap (drop (moved.index + moved.gone)) whole ∙ drop_at (front ++ gone) back (moved.index + moved.gone) (omega (arith, length-append front gone, index, number)) in
    (λ j. (first j ++ is j) ++ last j) ∙ append_assoc front come back

-- an offset among those of the cells from its base on
pub whole_base : (columns : List Column) (offset : ℕ) → base_of columns offset % regular_room columns ≡ 0
whole_base columns offset = mul-mod_left (offset / regular_room columns) (regular_room columns)

-- the elements of all pages, by those of one
module _ (slot : ℕ) (columns : List Column) (pages : ℕ → List ℕ) (base i n : ℕ) (front : List Place) (place : Place) (back : List Place) (whole : base % regular_room columns ≡ 0) (is : n ≡ base + i) (small : i < regular_room columns)
    (begins : place.at ≡ pos base) (below : AreBelow (pos base) front) (above : AreAbove (pos base) back) (ps : List OffsetPage) (c : Cut slot columns pages front place back ps) where
  less : AreLess n (all_in c.before)
  less = pages_less slot columns pages n base front c.before whole (omega (arith, is)) below c.front_on

  more : AreMore n (all_in c.behind)
  more = pages_more slot columns pages n base back c.behind whole (omega (arith, is, small)) above c.back_on

  own : c.page.0 ≡ base
  own = pos_one c.page.0 base place.at c.on.at begins

  within : i < length c.page.1
  within = omega (arith, small, c.on.bytes.fill.room)

  split : (cells : List Cell) → all_in (c.before ++ (c.page.0, cells) ∷ c.behind) ≡ all_in c.before ++ (elements_from c.page.0 cells ++ all_in c.behind)
  split cells = all_both c.before ((c.page.0, cells) ∷ c.behind)

  place_of_offset : n ≡ c.page.0 + i
  place_of_offset = omega (arith, is, own)

  pub found_cell : element_at n (all_in ps) ≡ cell_at c.page.1 i
  found_cell =
      ap (λ (l : List OffsetPage). element_at n (all_in l)) c.parts ∙ ap (element_at n) (split c.page.1)
      ∙ at_front n (all_in c.before) (elements_from c.page.0 c.page.1 ++ all_in c.behind) less ∙ at_back n (elements_from c.page.0 c.page.1) (all_in c.behind) more
      ∙ found_in c.page.0 i n c.page.1 place_of_offset within

  pub put_cell : (row : Row) → all_in (c.before ++ (c.page.0, with_row i row c.page.1) ∷ c.behind) ≡ with_element n row (all_in ps)
  put_cell row =
      split (with_row i row c.page.1)
      ∙ ap (λ (l : List OffsetElement). all_in c.before ++ (l ++ all_in c.behind)) (put_in c.page.0 i n row c.page.1 place_of_offset within)
      ∙ sym (ap (λ (l : List OffsetPage). with_element n row (all_in l)) c.parts ∙ ap (with_element n row) (split c.page.1)
      ∙ with_front n row (all_in c.before) (elements_from c.page.0 c.page.1 ++ all_in c.behind) less
      ∙ ap (λ (l : List OffsetElement). all_in c.before ++ l) (with_back n row (elements_from c.page.0 c.page.1) (all_in c.behind) more))

  pub taken_cell : all_in (c.before ++ (c.page.0, without_row i c.page.1) ∷ c.behind) ≡ without_element n (all_in ps)
  taken_cell =
      split (without_row i c.page.1)
      ∙ ap (λ (l : List OffsetElement). all_in c.before ++ (l ++ all_in c.behind)) (taken_in c.page.0 i n c.page.1 place_of_offset within)
      ∙ sym (ap (λ (l : List OffsetPage). without_element n (all_in l)) c.parts ∙ ap (without_element n) (split c.page.1)
      ∙ without_front n (all_in c.before) (elements_from c.page.0 c.page.1 ++ all_in c.behind) less
      ∙ ap (λ (l : List OffsetElement). all_in c.before ++ l) (without_back n (elements_from c.page.0 c.page.1) (all_in c.behind) more))

pub empty : (es : List OffsetElement) → length es ≡ 0 → es ≡ []
empty [] same = refl
empty (e ∷ es) same = absurd (omega (arith, same))

-- places, counted
pub counted : (columns : List Column) (v : Contents) (places : List Place) → ArePlaces columns v places → All (IsCounted columns) places
counted columns v places are = All-weaker (IsPlace columns v) (IsCounted columns) (λ p is. is.counted) places are.each

module _ (tells : Bool) (slot : ℕ) (columns : List Column) (n : ℕ) (places : List Place) (index : ℕ) (v w : Contents) (f : IsFound (pos (base_of columns n)) places index) (i : ℕ) (is : n ≡ base_of columns n + i) (small : i < regular_room columns) where
  abbrev pub here : (ps : List OffsetPage) → AreOn slot columns v.page places ps → Cut slot columns v.page f.front f.place f.back ps
  here ps on = cut slot columns v.page f.front f.place f.back ps (subst (λ (l : List Place). AreOn slot columns v.page l ps) f.parts on)

  pub found_there : (ps : List OffsetPage) (on : AreOn slot columns v.page places ps) → element_at n (all_in ps) ≡ cell_at (here ps on).page.1 i
  found_there ps on = found_cell slot columns v.page (base_of columns n) i n f.front f.place f.back (whole_base columns n) is small f.begins f.below f.above ps (here ps on)

  -- the row that was read of the page
  pub row_there : (row : Option Row) → IsToldOn tells slot columns f.place v (λ p. row ≡ cell_at p.1 i) → IsRowIn tells slot columns n places v row
  row_there row told t ps on = told t (here ps on).page (here ps on).on ∙ sym (found_there ps on)

  pub missing : IsEmptyOn tells slot columns i f.place v w → IsMissing tells slot columns n places v w
  missing none = record {
    absent = λ t ps on. found_there ps on ∙ none.absent t (here ps on).page (here ps on).on;
    same = none.same;
  }

  module _ (rising : IsRising places) (are : ArePlaces columns v places) where
    whole_rising : IsRising (f.front ++ f.place ∷ f.back)
    whole_rising = subst IsRising f.parts rising

    whole_are : ArePlaces columns v (f.front ++ f.place ∷ f.back)
    whole_are = subst (λ (l : List Place). ArePlaces columns v l) f.parts are

    whole_counts : All (IsCounted columns) (f.front ++ f.place ∷ f.back)
    whole_counts = counted columns v (f.front ++ f.place ∷ f.back) whole_are

    not_ours : (number : ℕ) → ¬ Contains (pages_of places) number → number ≢ f.place.page
    not_ours number not same = not (subst (Contains (pages_of places)) (sym same) (subst (λ (l : List Place). Contains (pages_of l) f.place.page) (sym f.parts) (page_there f.front f.place f.back)))

    -- other cells on the page
    written : (new : Place) (edit : List Cell → List Cell) (es : List OffsetElement) → IsEditedOn tells slot columns edit f.place new v w → IsTrue tells → (ps : List OffsetPage) (on : AreOn slot columns v.page places ps)
        → all_in ((here ps on).before ++ ((here ps on).page.0, edit (here ps on).page.1) ∷ (here ps on).behind) ≡ es → AreWritten slot columns es places (f.front ++ new ∷ f.back) v w
    written new edit es e t ps on all =
        let c = here ps on in
        record {
          cells = c.before ++ (c.page.0, edit c.page.1) ∷ c.behind;
          all = all;
          on = on_both slot columns w.page f.front (new ∷ f.back) c.before ((c.page.0, edit c.page.1) ∷ c.behind)
              (on_other slot columns f.place.page v.page w.page f.front c.before (e.others t) (apart_before f.front f.place f.back whole_are.different) c.front_on) (
                subst (λ (k : ℕ). IsOn slot columns (w.page k) new (c.page.0, edit c.page.1)) (sym e.number) (e.on t c.page c.on),
                on_other slot columns f.place.page v.page w.page f.back c.behind (e.others t) (apart_behind f.front f.place f.back whole_are.different) c.back_on,
              );
          others = λ number not free. e.others t number (not_ours number not);
        }

    moved_edit : (new : Place) (edit : List Cell → List Cell) → IsEditedOn tells slot columns edit f.place new v w → AreMoved columns places (f.front ++ new ∷ f.back) v w
    moved_edit new edit e = subst (λ (l : List Place). AreMoved columns l (f.front ++ new ∷ f.back) v w) (sym f.parts) (record {
      pages = subst (λ (l : List ℕ). IsPermutation (v.free ++ pages_of (f.front ++ f.place ∷ f.back)) (w.free ++ l)) (sym (pages_put f.front f.place new f.back e.number))
          (subst (λ (l : List ℕ). IsPermutation (v.free ++ pages_of (f.front ++ f.place ∷ f.back)) (l ++ pages_of (f.front ++ f.place ∷ f.back))) (sym e.free) (IsPermutation-refl _));
      rising = rising_at f.front f.place new f.back e.at whole_rising;
      counts = all_put (IsCounted columns) f.front f.place new f.back e.counted whole_counts;
    })

    pub put_there : (new : Place) (row : Row) → IsEditedOn tells slot columns (with_row i row) f.place new v w → new.count ≤ f.place.count + 1 → IsPut tells slot columns n row places (moved_to (record { index = index; gone = 1; come = One new }) places) v w
    put_there new row e few =
        let made : IsPut tells slot columns n row places (f.front ++ new ∷ f.back) v w = record {
          places = moved_edit new (with_row i row) e;
          count = omega (arith, count_parts f.front f.place f.back, count_parts f.front new f.back, few, ap count_of f.parts);
          pages = inl (omega (arith, ap length f.parts, length-append f.front (f.place ∷ f.back), length-append f.front (new ∷ f.back)));
          put = λ t ps on. written new (with_row i row) _ e t ps on (put_cell slot columns v.page (base_of columns n) i n f.front f.place f.back (whole_base columns n) is small f.begins f.below f.above ps (here ps on) row);
        } in
        subst (λ (l : List Place). IsPut tells slot columns n row places l v w) (sym (moved_middle f.front (f.place ∷ []) (new ∷ []) f.back (record { index = index; gone = 1; come = One new }) places f.parts f.index_is refl refl)) made

    pub taken_there : (new : Place) → IsTakenFrom tells slot columns i f.place new v w → IsRemoved tells slot columns n places v w (Some (record { index = index; gone = 1; come = One new }))
    taken_there new e =
        let made : IsTakenAway tells slot columns n places (f.front ++ new ∷ f.back) v w = record {
          places = moved_edit new (without_row i) e.edited;
          count = omega (arith, count_parts f.front f.place f.back, count_parts f.front new f.back, e.fewer, ap count_of f.parts);
          there = λ t ps on. subst IsSome (sym (found_there ps on)) (e.there t (here ps on).page (here ps on).on);
          left = λ t ps on. written new (without_row i) _ e.edited t ps on (taken_cell slot columns v.page (base_of columns n) i n f.front f.place f.back (whole_base columns n) is small f.begins f.below f.above ps (here ps on));
        } in
        subst (λ (l : List Place). IsTakenAway tells slot columns n places l v w) (sym (moved_middle f.front (f.place ∷ []) (new ∷ []) f.back (record { index = index; gone = 1; come = One new }) places f.parts f.index_is refl refl)) made

    pub freed_there : IsFreedOn tells slot columns i f.place v w → IsRemoved tells slot columns n places v w (Some (record { index = index; gone = 1; come = Nothing }))
    freed_there e =
        let made : IsTakenAway tells slot columns n places (f.front ++ f.back) v w = record {
          places = subst (λ (l : List Place). AreMoved columns l (f.front ++ f.back) v w) (sym f.parts) (record {
            pages = subst (λ (l : List ℕ). IsPermutation (v.free ++ pages_of (f.front ++ f.place ∷ f.back)) (l ++ pages_of (f.front ++ f.back))) (sym e.free) (pages_freed v.free f.front f.place f.back);
            rising = rising_free f.front f.place f.back whole_rising;
            counts = all_free (IsCounted columns) f.front f.place f.back whole_counts;
          });
          count = omega (arith, count_parts f.front f.place f.back, count_both f.front f.back, ap count_of f.parts);
          there = λ t ps on. subst IsSome (sym (found_there ps on)) (e.there t (here ps on).page (here ps on).on);
          left = λ t ps on.
              let c = here ps on in
              let none : elements_from c.page.0 (without_row i c.page.1) ≡ [] = empty _ (count_in c.page.0 (without_row i c.page.1) ∙ e.left t c.page c.on) in
              record {
                cells = c.before ++ c.behind;
                all = all_both c.before c.behind
                    ∙ ap (λ (l : List OffsetElement). all_in c.before ++ (l ++ all_in c.behind)) (sym none)
                    ∙ sym (all_both c.before ((c.page.0, without_row i c.page.1) ∷ c.behind))
                    ∙ taken_cell slot columns v.page (base_of columns n) i n f.front f.place f.back (whole_base columns n) is small f.begins f.below f.above ps c;
                on = on_both slot columns w.page f.front f.back c.before c.behind
                    (on_other slot columns f.place.page v.page w.page f.front c.before (e.others t) (apart_before f.front f.place f.back whole_are.different) c.front_on)
                    (on_other slot columns f.place.page v.page w.page f.back c.behind (e.others t) (apart_behind f.front f.place f.back whole_are.different) c.back_on);
                others = λ number not free. e.others t number (not_ours number not);
              };
        } in
        subst (λ (l : List Place). IsTakenAway tells slot columns n places l v w) (sym (moved_middle f.front (f.place ∷ []) [] f.back (record { index = index; gone = 1; come = Nothing }) places f.parts f.index_is refl refl)) made

    pub removed : (come : Come) → IsTakenOn tells slot columns i f.place v w (Some come) → IsRemoved tells slot columns n places v w (Some (record { index = index; gone = 1; come = come }))
    removed Nothing e = freed_there e
    removed (One new) e = taken_there new e
    removed (Two first second) e = absurd e

    pub marked_there : (hidden done : Bool) → IsMarkedOn tells slot columns i hidden f.place v w done → IsMarked tells slot columns n hidden places v w done
    marked_there hidden true e = record {
      free = e.edited.free;
      there = λ t ps on. subst IsSome (sym (found_there ps on)) (e.there t (here ps on).page (here ps on).on);
      put = λ t ps on row there.
          let c = here ps on in
          let cell : cell_at c.page.1 i ≡ Some row = sym (found_there ps on) ∙ there in
          let cells : with_mark i hidden c.page.1 ≡ with_row i (marked hidden row) c.page.1 = ap (λ (x : Cell). slice_set c.page.1 i (option_map (marked hidden) x)) cell in
          subst (λ (l : List Place). AreWritten slot columns (with_element n (marked hidden row) (all_in ps)) places l v w) (sym f.parts)
          (written f.place (with_mark i hidden) _ e.edited t ps on (ap (λ (l : List Cell). all_in (c.before ++ (c.page.0, l) ∷ c.behind)) cells
          ∙ put_cell slot columns v.page (base_of columns n) i n f.front f.place f.back (whole_base columns n) is small f.begins f.below f.above ps c (marked hidden row)));
    }
    marked_there hidden false e = missing e

-- places of which some begin below a place, and the others above it, have none there
gap_none : (at : ℤ) (front back : List Place) → AreBelow at front → AreAbove at back → place_at at (front ++ back) ≡ None
gap_none at [] back below above = none_found back at at above (omega (arith, ints))
gap_none at (p ∷ front) back below above = at_lower at p (front ++ back) below.0 ∙ gap_none at front back below.1 above

-- where no page has cells for the offset
module _ (tells : Bool) (slot : ℕ) (columns : List Column) (n : ℕ) (places : List Place) (index : ℕ) (v w : Contents) (f : IsGap (pos (base_of columns n)) places index) (i : ℕ) (is : n ≡ base_of columns n + i) (small : i < regular_room columns) where
  apart : (ps : List OffsetPage) → AreOn slot columns v.page places ps → Parted slot columns v.page f.front f.back ps
  apart ps on = part slot columns v.page f.front f.back ps (subst (λ (l : List Place). AreOn slot columns v.page l ps) f.parts on)

  all_less : (ps : List OffsetPage) (on : AreOn slot columns v.page places ps) → AreLess n (all_in (apart ps on).before)
  all_less ps on = pages_less slot columns v.page n (base_of columns n) f.front (apart ps on).before (whole_base columns n) (omega (arith, is)) f.below (apart ps on).front_on

  all_more : (ps : List OffsetPage) (on : AreOn slot columns v.page places ps) → AreMore n (all_in (apart ps on).behind)
  all_more ps on = pages_more slot columns v.page n (base_of columns n) f.back (apart ps on).behind (whole_base columns n) (omega (arith, is, small)) f.above (apart ps on).back_on

  pub none_there : (ps : List OffsetPage) (on : AreOn slot columns v.page places ps) → element_at n (all_in ps) ≡ None
  none_there ps on =
      let c = apart ps on in
      ap (λ (l : List OffsetPage). element_at n (all_in l)) c.parts ∙ ap (element_at n) (all_both c.before c.behind)
      ∙ at_front n (all_in c.before) (all_in c.behind) (all_less ps on) ∙ none_more n (all_in c.behind) (all_more ps on)

  pub none_missing_to : Stays tells v w → IsMissing tells slot columns n places v w
  none_missing_to same = record { absent = λ t ps on. none_there ps on; same = same }

  -- a first page for it
  module _ (rising : IsRising places) (are : ArePlaces columns v places) where
    gap_rising : IsRising (f.front ++ f.back)
    gap_rising = subst IsRising f.parts rising

    gap_are : ArePlaces columns v (f.front ++ f.back)
    gap_are = subst (λ (l : List Place). ArePlaces columns v l) f.parts are

    gap_front : (P : Place → Type 0) (xs ys : List Place) → All P (xs ++ ys) → All P xs
    gap_front P xs [] all = subst (All P) (append-nil xs) all
    gap_front P xs (y ∷ ys) all = gap_front P xs ys (all_free P xs y ys all)

    gap_back : (P : Place → Type 0) (xs ys : List Place) → All P (xs ++ ys) → All P ys
    gap_back P [] ys all = all
    gap_back P (x ∷ xs) ys all = gap_back P xs ys (All-tail P x (xs ++ ys) all)

    pub put_first : (new : Place) (row : Row) → IsPutAlone tells slot columns (base_of columns n) i row new v w → IsPut tells slot columns n row places (moved_to (record { index = index; gone = 0; come = One new }) places) v w
    put_first new row e =
        let has : Contains v.free new.page = subst (λ (l : List ℕ). Contains l new.page) (sym e.free) (0, omega arith, refl) in
        let made : IsPut tells slot columns n row places (f.front ++ new ∷ f.back) v w = record {
          places = subst (λ (l : List Place). AreMoved columns l (f.front ++ new ∷ f.back) v w) (sym f.parts) (record {
            pages = subst (λ (l : List ℕ). IsPermutation (l ++ pages_of (f.front ++ f.back)) (w.free ++ pages_of (f.front ++ new ∷ f.back))) (sym e.free)
                (IsPermutation-sym _ _ (pages_freed w.free f.front new f.back));
            rising = rising_new f.front new f.back (subst (λ (z : ℤ). AreBelow z f.front) (sym e.at) f.below) (subst (λ (z : ℤ). AreAbove z f.back) (sym e.at) f.above) gap_rising;
            counts = all_new (IsCounted columns) f.front new f.back (record { some = omega (arith, e.count); room = omega (arith, e.count, small) }) (counted columns v (f.front ++ f.back) gap_are);
          });
          count = omega (arith, count_parts f.front new f.back, count_both f.front f.back, e.count, ap count_of f.parts);
          pages = inr (
            ap (place_at (pos (base_of columns n))) f.parts ∙ gap_none (pos (base_of columns n)) f.front f.back f.below f.above,
            omega (arith, ap length f.parts, length-append f.front f.back, length-append f.front (new ∷ f.back)),
          );
          put = λ t ps on.
              let c = apart ps on in
              let cells : List Cell = with_row i row (no_cells columns) in
              let size : length (no_cells columns) ≡ regular_room columns = length-replicate (regular_room columns) None in
              let none : elements_from (base_of columns n) (no_cells columns) ≡ [] = empty _ (count_in (base_of columns n) (no_cells columns) ∙ no_count (regular_room columns)) in
              let own : elements_from (base_of columns n) cells ≡ (n, row) ∷ [] = put_in (base_of columns n) i n row (no_cells columns) is (omega (arith, small, size)) ∙ ap (with_element n row) none in
              record {
                cells = c.before ++ (base_of columns n, cells) ∷ c.behind;
                all = all_both c.before ((base_of columns n, cells) ∷ c.behind)
                    ∙ ap (λ (l : List OffsetElement). all_in c.before ++ (l ++ all_in c.behind)) own
                    ∙ sym (ap (λ (l : List OffsetPage). with_element n row (all_in l)) c.parts ∙ ap (with_element n row) (all_both c.before c.behind)
                    ∙ with_front n row (all_in c.before) (all_in c.behind) (all_less ps on)
                    ∙ ap (λ (l : List OffsetElement). all_in c.before ++ l) (first_more n row (all_in c.behind) (all_more ps on)));
                on = on_both slot columns w.page f.front (new ∷ f.back) c.before ((base_of columns n, cells) ∷ c.behind)
                    (on_other slot columns new.page v.page w.page f.front c.before (e.others t) (taken_apart columns v new.page f.front has (gap_front (IsPlace columns v) f.front f.back gap_are.each)) c.front_on)
                    (e.on t, on_other slot columns new.page v.page w.page f.back c.behind (e.others t) (taken_apart columns v new.page f.back has (gap_back (IsPlace columns v) f.front f.back gap_are.each)) c.back_on);
                others = λ number not free. e.others t number (λ same. free (subst (Contains v.free) (sym same) has));
              };
        } in
        subst (λ (l : List Place). IsPut tells slot columns n row places l v w) (sym (moved_middle f.front [] (new ∷ []) f.back (record { index = index; gone = 0; come = One new }) places f.parts f.index_is refl refl)) made

-- the place of an index
pub found_get : (at : ℤ) (places : List Place) (index : ℕ) (d : Place) → (f : IsFound at places index) → get_or places index d ≡ f.place
found_get at places index d f = (λ j. get_or (f.parts j) (sym f.index_is j) d) ∙ get_or-append_seam f.front f.place f.back d

pub found_within : (at : ℤ) (places : List Place) (index : ℕ) → IsFound at places index → index < length places
found_within at places index f = omega (arith, ap length f.parts, length-append f.front (f.place ∷ f.back), f.index_is)

-- a search that finds none
pub gap_not : (at : ℤ) (ps : List Place) (r : Result ℕ ℕ) → IsRising ps → r ≡ search_of at ps → ((i : ℕ) → r ≡ Ok i → ⊥) → (i : ℕ) × IsGap at ps i
gap_not at ps (Ok i) rising same not = absurd (not i refl)
gap_not at ps (Err i) rising same not = (i, gap_err at ps i rising same)

-- none is there, and nothing changed
pub none_missing : (tells : Bool) (slot : ℕ) (columns : List Column) (n : ℕ) (places : List Place) (index : ℕ) (v : Contents) → IsGap (pos (base_of columns n)) places index → (i : ℕ) → n ≡ base_of columns n + i → i < regular_room columns → IsMissing tells slot columns n places v v
none_missing tells slot columns n places index v f i is small = none_missing_to tells slot columns n places index v v f i is small (record { free = refl; pages = λ t number. refl })

-- a search that finds one finds it among the places
pub search_within : (at : ℤ) (ps : List Place) (r : Result ℕ ℕ) → IsRising ps → r ≡ search_of at ps → IfOk r (λ i. i < length ps)
search_within at ps (Ok i) rising same = found_within at ps i (found_ok at ps i rising same)
search_within at ps (Err i) rising same = tt
