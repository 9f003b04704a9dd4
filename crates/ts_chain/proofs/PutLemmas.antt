-- A row is put on pages side by side of a series: what they become, whatever stands before and behind them.
use Rattle.std.proofs.Common.{◌≡◌, ◌≢◌, ℕ, zero, suc, ◌+◌, ◌≤◌, ℤ, ◌≤ℤ◌, ◌⊎◌, inl, inr, All, AllPairs, Bool, IsTrue, List, [], ◌∷◌, ◌++◌, length, refl, sym, ap, subst, ◌∙◌, arith, append_assoc, append-nil, length-append}
use Rattle.std.specs.Prelude.{Contains, IsPermutation}
use Rattle.std.proofs.lemmas.Int.{ints}
use Rattle.std.proofs.lemmas.List.Elements.{All-append, All-head, All-tail}
use Rattle.std.proofs.lemmas.List.Sums.{sum_by-cons}
use Rattle.std.proofs.lemmas.List.Sorted.{IsPermutation-refl, IsPermutation-trans, IsPermutation-append, IsPermutation-append_right, IsPermutation-append_comm}
use Rattle.ts_space.specs.declared.place.Place.{Place}
use Rattle.ts_space.specs.Place.{AreAbove, IsRising, count_of, pages_of}
use Rattle.ts_page.specs.Pages.{Contents}
use Rattle.ts_row.specs.declared.kind.Column.{Column}
use Rattle.ts_row.specs.Row.{Row, Element}
use Rattle.ts_cells.specs.IrregularPage.{IsElement, page_room}
use Rattle.ts_irregular.specs.Edit.{with_element}
use Rattle.ts_irregular.specs.OnePage.{IsOn, IsPlace}
use Rattle.ts_sheets.specs.Stamped.{all_in, AreBefore, ArePages, IsDense, IsChain, IsAround}
use Rattle.ts_sheets.specs.Places.{AreChained, AreMoved, ArePlaces, IsCounted}
use Rattle.ts_chain.specs.Call.{AreWritten, ChangesOnlyPages}
use Rattle.ts_chain.specs.Window.{HavePart, StartsWith, EndsWith}
use Rattle.ts_sheets.proofs.OrderLemmas.{all_in-append, later_front, sized_pages}
use Rattle.ts_sheets.proofs.DenseLemmas.{MeetsLeft, MeetsRight, dense_front, dense_back, dense_made, dense_cons, meets_left, meets_right}
use Rattle.ts_chain.proofs.WindowLemmas.{with_window}
use Rattle.ts_chain.proofs.PlaceLemmas.{above_than, chained_both}
use Rattle.ts_chain.proofs.FreeLemmas.{contains_first, contains_second}
use Rattle.ts_chain.proofs.RemoveLemmas.{pages_both}

-- a chain has a page for each place, and as many elements as the places tell
pub chained_length : (slot : ℕ) (columns : List Column) (pages : ℕ → List ℕ) (places : List Place) (chain : List (List Element)) → AreChained slot columns pages places chain → length chain ≡ length places
chained_length slot columns pages [] [] on = refl
chained_length slot columns pages [] (es ∷ chain) on = absurd on
chained_length slot columns pages (p ∷ places) [] on = absurd on
chained_length slot columns pages (p ∷ places) (es ∷ chain) on = ap suc (chained_length slot columns pages places chain on.1)

pub chained_count : (slot : ℕ) (columns : List Column) (pages : ℕ → List ℕ) (places : List Place) (chain : List (List Element)) → AreChained slot columns pages places chain → length (all_in chain) ≡ count_of places
chained_count slot columns pages [] [] on = refl
chained_count slot columns pages [] (es ∷ chain) on = absurd on
chained_count slot columns pages (p ∷ places) [] on = absurd on
chained_count slot columns pages (p ∷ places) (es ∷ chain) on =
    let rest = chained_count slot columns pages places chain on.1 in
    let own = on.0.count in
    omega (arith, length-append es (all_in chain), own, rest, count_cons p places)
  where
    count_cons : (p : Place) (places : List Place) → count_of (p ∷ places) ≡ p.count + count_of places
    count_cons p places = sum_by-cons (λ (q : Place). q.count) p places

-- the pages of two parts of the places
pub record Split (slot : ℕ) (columns : List Column) (pages : ℕ → List ℕ) (front back : List Place) (chain : List (List Element)) : Type 0 where
  pub before : List (List Element)
  pub behind : List (List Element)
  pub parts : chain ≡ before ++ behind
  pub front_on : AreChained slot columns pages front before
  pub back_on : AreChained slot columns pages back behind

pub chained_split : (slot : ℕ) (columns : List Column) (pages : ℕ → List ℕ) (front back : List Place) (chain : List (List Element)) → AreChained slot columns pages (front ++ back) chain → Split slot columns pages front back chain
chained_split slot columns pages [] back chain on = record { before = []; behind = chain; parts = refl; front_on = tt; back_on = on }
chained_split slot columns pages (p ∷ front) back [] on = absurd on
chained_split slot columns pages (p ∷ front) back (es ∷ chain) on =
    let rest = chained_split slot columns pages front back chain on.1 in
    record { before = es ∷ rest.before; behind = rest.behind; parts = ap (λ (l : List (List Element)). es ∷ l) rest.parts; front_on = (on.0, rest.front_on); back_on = rest.back_on }

-- pages that stay have what they had
pub chained_stay : (slot : ℕ) (columns : List Column) (v w : ℕ → List ℕ) (places : List Place) (chain : List (List Element)) → ((n : ℕ) → Contains (pages_of places) n → w n ≡ v n) → AreChained slot columns v places chain → AreChained slot columns w places chain
chained_stay slot columns v w [] [] stay on = tt
chained_stay slot columns v w [] (es ∷ chain) stay on = absurd on
chained_stay slot columns v w (p ∷ places) [] stay on = absurd on
chained_stay slot columns v w (p ∷ places) (es ∷ chain) stay on = (
  subst (λ (b : List ℕ). IsOn slot columns b p es) (sym (stay p.page (0, omega arith, refl))) on.0,
  chained_stay slot columns v w places chain (λ n has. stay n (suc has.0, (let below = has.1 in omega (arith, below)), has.2)) on.1,
)

-- the first pages of some
before_front : (xs ys : List Element) (es : List Element) → AreBefore es (xs ++ ys) → AreBefore es xs
before_front xs ys [] before = tt
before_front xs ys (e ∷ es) before = (later_front e.0 xs ys before.0, before_front xs ys es before.1)

pub pages_until : (columns : List Column) (front back : List (List Element)) → ArePages columns (front ++ back) → ArePages columns front
pages_until columns [] back are = tt
pages_until columns (es ∷ front) back are =
    (are.0, before_front (all_in front) (all_in back) es (subst (AreBefore es) (all_in-append front back) are.1), pages_until columns front back are.2)

pub pages_three : (front gone back : List Place) → pages_of (front ++ (gone ++ back)) ≡ pages_of front ++ (pages_of gone ++ pages_of back)
pages_three [] gone back = pages_both gone back
pages_three (p ∷ front) gone back = ap (λ (l : List ℕ). p.page ∷ l) (pages_three front gone back)

pub gone_there : (front gone back : List Place) (n : ℕ) → Contains (pages_of gone) n → Contains (pages_of (front ++ (gone ++ back))) n
gone_there front gone back n has =
    subst (λ (l : List ℕ). Contains l n) (sym (pages_three front gone back))
    (contains_second (pages_of front) (pages_of gone ++ pages_of back) n (contains_first (pages_of gone) (pages_of back) n has))

-- different numbers of two parts
pub apart_parts : (xs ys : List ℕ) → AllPairs (λ a b. a ≢ b) (xs ++ ys) → (n : ℕ) → Contains xs n → ¬ Contains ys n
apart_parts [] ys pairs n first second = let below = first.1 in omega (arith, below)
apart_parts (x ∷ xs) ys pairs n (zero, below, is) second =
    let has = contains_second xs ys n second in
    let within = has.1 in
    pairs 0 (suc has.0) n (omega arith) (omega (arith, within)) (is ∙ sym has.2)
apart_parts (x ∷ xs) ys pairs n (suc k, below, is) second =
    apart_parts xs ys (λ i j d before within. pairs (suc i) (suc j) d (omega (arith, before)) (omega (arith, within))) n (k, omega (arith, below), is) second

pub pairs_from : (xs ys : List ℕ) → AllPairs (λ a b. a ≢ b) (xs ++ ys) → AllPairs (λ a b. a ≢ b) ys
pairs_from [] ys pairs = pairs
pairs_from (x ∷ xs) ys pairs = pairs_from xs ys (λ i j d before within. pairs (suc i) (suc j) d (omega (arith, before)) (omega (arith, within)))

-- a page of the places isn't one that can be taken
pub place_used : (columns : List Column) (c : Contents) (places : List Place) → All (IsPlace columns c) places → (n : ℕ) → Contains (pages_of places) n → ¬ Contains c.free n
place_used columns c [] each n has = absurd (let below = has.1 in omega (arith, below))
place_used columns c (p ∷ places) each n (zero, below, is) = subst (λ (m : ℕ). ¬ Contains c.free m) is (All-head (IsPlace columns c) p places each).used
place_used columns c (p ∷ places) each n (suc k, below, is) = place_used columns c places (All-tail (IsPlace columns c) p places each) n (k, omega (arith, below), is)

-- what stands before some places, and behind them
module _ (columns : List Column) (v w : Contents) (front gone come back : List Place) (are : ArePlaces columns v (front ++ (gone ++ back))) where
  apart : AllPairs (λ a b. a ≢ b) (pages_of front ++ (pages_of gone ++ pages_of back))
  apart = subst (AllPairs (λ a b. a ≢ b)) (pages_three front gone back) are.different

  pub front_stays : (tells : Bool) → IsTrue tells → ChangesOnlyPages tells gone v w → (n : ℕ) → Contains (pages_of front) n → w.page n ≡ v.page n
  front_stays tells told others n has =
      others told n (λ own. apart_parts (pages_of front) (pages_of gone ++ pages_of back) apart n has (contains_first (pages_of gone) (pages_of back) n own))
      (place_used columns v (front ++ (gone ++ back)) are.each n
      (subst (λ (l : List ℕ). Contains l n) (sym (pages_three front gone back)) (contains_first (pages_of front) (pages_of gone ++ pages_of back) n has)))

  pub back_stays : (tells : Bool) → IsTrue tells → ChangesOnlyPages tells gone v w → (n : ℕ) → Contains (pages_of back) n → w.page n ≡ v.page n
  back_stays tells told others n has =
      others told n (λ own. apart_parts (pages_of gone) (pages_of back) (pairs_from (pages_of front) (pages_of gone ++ pages_of back) apart) n own has)
      (place_used columns v (front ++ (gone ++ back)) are.each n
      (subst (λ (l : List ℕ). Contains l n) (sym (pages_three front gone back))
      (contains_second (pages_of front) (pages_of gone ++ pages_of back) n (contains_second (pages_of gone) (pages_of back) n has))))

  -- the pages are the same ones before and after
  shuffled : (a f g b : List ℕ) → IsPermutation (a ++ (f ++ (g ++ b))) ((a ++ g) ++ (f ++ b))
  shuffled a f g b =
      let one : IsPermutation ((f ++ g) ++ b) ((g ++ f) ++ b) = IsPermutation-append (f ++ g) (g ++ f) b b (IsPermutation-append_comm f g) (IsPermutation-refl b) in
      let two : IsPermutation (f ++ (g ++ b)) (g ++ (f ++ b)) = subst (λ (l : List ℕ). IsPermutation l (g ++ (f ++ b))) (append_assoc f g b) (subst (IsPermutation ((f ++ g) ++ b)) (append_assoc g f b) one) in
      subst (IsPermutation (a ++ (f ++ (g ++ b)))) (sym (append_assoc a g (f ++ b))) (IsPermutation-append_right a (f ++ (g ++ b)) (g ++ (f ++ b)) two)

  gathered : (a f g b : List ℕ) → IsPermutation ((a ++ g) ++ (f ++ b)) (a ++ (f ++ (g ++ b)))
  gathered a f g b =
      let one : IsPermutation ((g ++ f) ++ b) ((f ++ g) ++ b) = IsPermutation-append (g ++ f) (f ++ g) b b (IsPermutation-append_comm g f) (IsPermutation-refl b) in
      let two : IsPermutation (g ++ (f ++ b)) (f ++ (g ++ b)) = subst (λ (l : List ℕ). IsPermutation l (f ++ (g ++ b))) (append_assoc g f b) (subst (IsPermutation ((g ++ f) ++ b)) (append_assoc f g b) one) in
      subst (λ (l : List ℕ). IsPermutation l (a ++ (f ++ (g ++ b)))) (sym (append_assoc a g (f ++ b))) (IsPermutation-append_right a (g ++ (f ++ b)) (f ++ (g ++ b)) two)

  pub window_moved : IsPermutation (v.free ++ pages_of gone) (w.free ++ pages_of come) → IsRising (front ++ (come ++ back)) → All (IsCounted columns) (front ++ (gone ++ back)) → All (IsCounted columns) come
      → AreMoved columns (front ++ (gone ++ back)) (front ++ (come ++ back)) v w
  window_moved moved rising old new = record {
    pages =
        let f : List ℕ = pages_of front in
        let g : List ℕ = pages_of gone in
        let c : List ℕ = pages_of come in
        let b : List ℕ = pages_of back in
        let first : IsPermutation (v.free ++ (f ++ (g ++ b))) ((v.free ++ g) ++ (f ++ b)) = shuffled v.free f g b in
        let second : IsPermutation ((v.free ++ g) ++ (f ++ b)) ((w.free ++ c) ++ (f ++ b)) = IsPermutation-append (v.free ++ g) (w.free ++ c) (f ++ b) (f ++ b) moved (IsPermutation-refl (f ++ b)) in
        let third : IsPermutation ((w.free ++ c) ++ (f ++ b)) (w.free ++ (f ++ (c ++ b))) = gathered w.free f c b in
        let all : IsPermutation (v.free ++ (f ++ (g ++ b))) (w.free ++ (f ++ (c ++ b))) =
        IsPermutation-trans (v.free ++ (f ++ (g ++ b))) ((v.free ++ g) ++ (f ++ b)) (w.free ++ (f ++ (c ++ b))) first
        (IsPermutation-trans ((v.free ++ g) ++ (f ++ b)) ((w.free ++ c) ++ (f ++ b)) (w.free ++ (f ++ (c ++ b))) second third) in
        subst (λ (l : List ℕ). IsPermutation (v.free ++ l) (w.free ++ pages_of (front ++ (come ++ back)))) (sym (pages_three front gone back))
        (subst (λ (l : List ℕ). IsPermutation (v.free ++ (f ++ (g ++ b))) (w.free ++ l)) (sym (pages_three front come back)) all);
    rising = rising;
    counts = counted_three front gone come back old new;
  }
    where
      counted_front : (front back : List Place) → All (IsCounted columns) (front ++ back) → All (IsCounted columns) front
      counted_front [] back all k d within = absurd (omega (arith, within))
      counted_front (p ∷ front) back all zero d within = all 0 d (omega arith)
      counted_front (p ∷ front) back all (suc k) d within = counted_front front back (All-tail (IsCounted columns) p (front ++ back) all) k d (omega (arith, within))

      counted_back : (front back : List Place) → All (IsCounted columns) (front ++ back) → All (IsCounted columns) back
      counted_back [] back all = all
      counted_back (p ∷ front) back all = counted_back front back (All-tail (IsCounted columns) p (front ++ back) all)

      counted_three : (front gone come back : List Place) → All (IsCounted columns) (front ++ (gone ++ back)) → All (IsCounted columns) come → All (IsCounted columns) (front ++ (come ++ back))
      counted_three front gone come back old new =
          All-append (IsCounted columns) front (come ++ back) (counted_front front (gone ++ back) old)
          (All-append (IsCounted columns) come back new (counted_back gone back (counted_back front (gone ++ back) old)))

-- pages that are dense, before others
pub starts_meet : (q n : ℕ) (front chain : List (List Element)) → StartsWith n chain → MeetsLeft q front n → IsDense q front → IsDense q chain → IsDense q (front ++ chain)
starts_meet q n front [] starts meets first second = subst (IsDense q) (sym (append-nil front)) first
starts_meet q n front (es ∷ chain) starts meets first second = dense_made q front es chain first (meets_left q front n (length es) starts meets) second

pub ends_meet : (q n : ℕ) (chain back : List (List Element)) → EndsWith n chain → MeetsRight q n back → IsDense q chain → IsDense q back → IsDense q (chain ++ back)
ends_meet q n [] back ends meets first second = second
ends_meet q n (es ∷ []) back ends meets first second = dense_cons q es back (meets_right q n (length es) back ends meets) second
ends_meet q n (es ∷ fs ∷ chain) back ends meets first second = (first.0, ends_meet q n (fs ∷ chain) back ends meets first.1 second)

starts_both : (n : ℕ) (chain back : List (List Element)) → 1 ≤ length chain → StartsWith n chain → StartsWith n (chain ++ back)
starts_both n [] back some starts = absurd (omega (arith, some))
starts_both n (es ∷ chain) back some starts = starts

-- the edited elements stand on the pages that come
module _ (slot : ℕ) (columns : List Column) (stamp : ℤ) (row : Row) (element : IsElement columns (stamp, row)) (left right : ℕ) (before old behind : List (List Element)) (is : IsChain columns (before ++ (old ++ behind))) (around : IsAround stamp before behind)
    (come : List Place) (some : 1 ≤ length come) (pages : ℕ → List ℕ) (part : HavePart slot columns (with_element stamp row (all_in old)) left right come pages) (meets1 : MeetsLeft (page_room columns) before left) (meets2 : MeetsRight (page_room columns) right behind) where
  pub window_chain : IsChain columns (before ++ (part.chain ++ behind)) × (all_in (before ++ (part.chain ++ behind)) ≡ with_element stamp row (all_in (before ++ (old ++ behind))))
  window_chain =
      let q : ℕ = page_room columns in
      let long : length part.chain ≡ length come = chained_length slot columns pages come part.chain part.on in
      let behind_dense : IsDense q behind = dense_back q old behind (dense_back q before (old ++ behind) is.dense) in
      let both : IsDense q (part.chain ++ behind) = ends_meet q right part.chain behind part.ends meets2 part.dense behind_dense in
      let dense : IsDense q (before ++ (part.chain ++ behind)) =
      starts_meet q left before (part.chain ++ behind) (starts_both left part.chain behind (omega (arith, long, some)) part.starts) meets1 (dense_front q before (old ++ behind) is.dense) both in
      with_window columns stamp before old part.chain behind is around (sized_pages columns part.chain part.are) dense row element part.all

pub window_written : (tells : Bool) (slot : ℕ) (columns : List Column) (stamp : ℤ) (row : Row) → IsElement columns (stamp, row) → IsTrue tells → (left right : ℕ) (before old behind : List (List Element)) → IsChain columns (before ++ (old ++ behind)) → IsAround stamp before behind
    → (front gone come back : List Place) (v w : Contents) → ArePlaces columns v (front ++ (gone ++ back)) → AreChained slot columns v.page front before → AreChained slot columns v.page back behind → 1 ≤ length come
    → HavePart slot columns (with_element stamp row (all_in old)) left right come w.page → MeetsLeft (page_room columns) before left → MeetsRight (page_room columns) right behind → ChangesOnlyPages tells gone v w
    → AreWritten slot columns (with_element stamp row (all_in (before ++ (old ++ behind)))) (front ++ (gone ++ back)) (front ++ (come ++ back)) v w
window_written tells slot columns stamp row element told left right before old behind is around front gone come back v w are front_on back_on some part meets1 meets2 others =
    let made = window_chain slot columns stamp row element left right before old behind is around come some w.page part meets1 meets2 in
    record {
      chain = before ++ (part.chain ++ behind);
      is = made.0;
      all = made.1;
      on = chained_both slot columns w.page front (come ++ back) before (part.chain ++ behind)
          (chained_stay slot columns v.page w.page front before (front_stays columns v w front gone come back are tells told others) front_on)
          (chained_both slot columns w.page come back part.chain behind part.on
          (chained_stay slot columns v.page w.page back behind (back_stays columns v w front gone come back are tells told others) back_on));
      others = λ n not free. others told n (λ own. not (gone_there front gone back n own)) free;
    }

-- places that rise, two of them others
above_end : (at : ℤ) (front : List Place) (g : Place) (more : List Place) (a : Place) (back : List Place) → g.at ≤ℤ a.at → AreAbove a.at back → AreAbove at (front ++ g ∷ more) → AreAbove at (front ++ a ∷ back)
above_end at [] g more a back low beyond above = let first = above.0 in (omega (arith, ints, low, first), above_than at a.at back (omega (arith, ints, low, first)) beyond)
above_end at (p ∷ front) g more a back low beyond above = (above.0, above_end at front g more a back low beyond above.1)

rising_end : (front : List Place) (g : Place) (more : List Place) (a : Place) (back : List Place) → g.at ≤ℤ a.at → AreAbove a.at back → IsRising back → IsRising (front ++ g ∷ more) → IsRising (front ++ a ∷ back)
rising_end [] g more a back low beyond rest rising = (beyond, rest)
rising_end (p ∷ front) g more a back low beyond rest rising = (above_end p.at front g more a back low beyond rising.0, rising_end front g more a back low beyond rest rising.1)

-- from one place on others come, the first of which begins no earlier, or where none stands before
pub rising_come : (front : List Place) (g : Place) (more : List Place) (a : Place) (back : List Place) → (g.at ≤ℤ a.at) ⊎ (front ≡ []) → AreAbove a.at back → IsRising back → IsRising (front ++ g ∷ more) → IsRising (front ++ a ∷ back)
rising_come front g more a back (inl low) beyond rest rising = rising_end front g more a back low beyond rest rising
rising_come front g more a back (inr none) beyond rest rising = subst (λ (l : List Place). IsRising (l ++ a ∷ back)) (sym none) (beyond, rest)

pub rising_behind : (front back : List Place) → IsRising (front ++ back) → IsRising back
rising_behind [] back rising = rising
rising_behind (p ∷ front) back rising = rising_behind front back rising.1

pub above_behind : (at : ℤ) (front back : List Place) → AreAbove at (front ++ back) → AreAbove at back
above_behind at [] back above = above
above_behind at (p ∷ front) back above = above_behind at front back above.1
