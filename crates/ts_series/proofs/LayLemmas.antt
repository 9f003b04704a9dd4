-- Pieces that are put on the pages of places that go.
use Rattle.std.proofs.Common.{◌≡◌, ◌≢◌, ℕ, zero, suc, ◌+◌, ◌-◌, ◌<◌, ◌≤◌, ◌^◌, ℤ, ◌<ℤ◌, ◌≤ℤ◌, All, AllPairs, inr, Bool, IsTrue, Some, List, [], ◌∷◌, ◌++◌, length, get_or, take, drop, refl, sym, ap, subst, ◌∙◌, arith, append-nil, length-append, length-drop}
use Rattle.std.specs.Prelude.{Contains, IsPermutation}
use Rattle.std.proofs.lemmas.Int.{ints}
use Rattle.std.proofs.Math.Seq.{take-length}
use Rattle.std.proofs.lemmas.List.{length-map}
use Rattle.std.proofs.lemmas.List.Elements.{All-cons, All-head, All-tail, All-weaker}
use Rattle.std.proofs.lemmas.List.Sorted.{IsPermutation-sym, IsPermutation-trans, IsPermutation-cons, IsPermutation-middle, length_permutation}
use Rattle.ts_space.specs.declared.place.Place.{Place}
use Rattle.ts_space.specs.Place.{AreAbove, IsRising, pages_of}
use Rattle.ts_page.specs.Pages.{Contents, EqualPages, with_page, IsOutsideJournal}
use Rattle.ts_row.specs.declared.kind.Column.{Column}
use Rattle.ts_row.specs.Row.{Element}
use Rattle.ts_cells.specs.IrregularPage.{page_room, AreElements, AreInOrder, irregular_page, first_stamp}
use Rattle.ts_irregular.specs.OnePage.{IsOn, IsPlace, place_of}
use Rattle.ts_sheets.specs.Places.{ArePlaces, CanBeFreed, IsBeginning, IsCounted}
use Rattle.ts_chain.specs.Call.{AreFreed}
use Rattle.ts_chain.proofs.ChangeLemmas.{place_first}
use Rattle.ts_sheets.proofs.OrderLemmas.{elements_front, elements_back, rising_front, rising_back}
use Rattle.ts_chain.proofs.PagesLemmas.{changed_page, other_page}
use Rattle.ts_series.specs.Ends.{AreUsed, AreKept, HasElements, BeginsWithin, BeginTogether, BeginApart}

-- pages that can be freed
pub used_places : (columns : List Column) (c : Contents) (places : List Place) → All (IsPlace columns c) places → All (CanBeFreed c) (pages_of places)
used_places columns c [] are = λ k d within. absurd (omega (arith, within))
used_places columns c (p ∷ places) are =
    let one = All-head (IsPlace columns c) p places are in
    All-cons (CanBeFreed c) p.page (pages_of places) (record { element = one.element; below = one.below; used = one.used }) (used_places columns c places (All-tail (IsPlace columns c) p places are))

pub used_of : (columns : List Column) (c : Contents) (places : List Place) → ArePlaces columns c places → AreUsed c places
used_of columns c places are = record { each = used_places columns c places are.each; different = are.different }

pub used_at : (c : Contents) (places : List Place) (i : ℕ) (d : Place) → All (CanBeFreed c) (pages_of places) → i < length places → CanBeFreed c (get_or places i d).page
used_at c [] i d all within = absurd (omega (arith, within))
used_at c (p ∷ places) zero d all within = All-head (CanBeFreed c) p.page (pages_of places) all
used_at c (p ∷ places) (suc i) d all within = used_at c places i d (All-tail (CanBeFreed c) p.page (pages_of places) all) (omega (arith, within))

-- a page can be put there
pub put_within : (v u : Contents) (places : List Place) (i : ℕ) (d : Place) → All (CanBeFreed v) (pages_of places) → i < length places → u.count ≡ v.count → (get_or places i d).page < u.count
put_within v u places i d all within count = let below = (used_at v places i d all within).below in omega (arith, below, count)

pub put_outside : (v : Contents) (places : List Place) (i : ℕ) (d : Place) → All (CanBeFreed v) (pages_of places) → i < length places → IsOutsideJournal (get_or places i d).page
put_outside v places i d all within = let element = (used_at v places i d all within).element in inr (omega (arith, element))

pub put_used : (v u : Contents) (places : List Place) (i : ℕ) (d : Place) → All (CanBeFreed v) (pages_of places) → i < length places → u.free ≡ v.free → ¬ Contains u.free (get_or places i d).page
put_used v u places i d all within free has = (used_at v places i d all within).used (subst (λ (l : List ℕ). Contains l (get_or places i d).page) free has)

all_since : (v u : Contents) (ns : List ℕ) → u.count ≡ v.count → u.free ≡ v.free → All (CanBeFreed v) ns → All (CanBeFreed u) ns
all_since v u ns count free all = All-weaker (CanBeFreed v) (CanBeFreed u) (λ n is. record {
  element = is.element;
  below = subst (λ (m : ℕ). n < m) (sym count) is.below;
  used = subst (λ (l : List ℕ). ¬ Contains l n) (sym free) is.used;
}) ns all

all_rest : (c : Contents) (k : ℕ) (places : List Place) → All (CanBeFreed c) (pages_of places) → All (CanBeFreed c) (pages_of (drop k places))
all_rest c zero places all = all
all_rest c (suc k) [] all = all
all_rest c (suc k) (p ∷ places) all = all_rest c k places (All-tail (CanBeFreed c) p.page (pages_of places) all)

pub pairs_tail : (x : ℕ) (xs : List ℕ) → AllPairs (λ a b. a ≢ b) (x ∷ xs) → AllPairs (λ a b. a ≢ b) xs
pairs_tail x xs pairs i j d before within = pairs (suc i) (suc j) d (omega arith) (omega arith)

pub pairs_rest : (k : ℕ) (places : List Place) → AllPairs (λ a b. a ≢ b) (pages_of places) → AllPairs (λ a b. a ≢ b) (pages_of (drop k places))
pairs_rest zero places pairs = pairs
pairs_rest (suc k) [] pairs = pairs
pairs_rest (suc k) (p ∷ places) pairs = pairs_rest k places (pairs_tail p.page (pages_of places) pairs)

pub each_rest : (v u : Contents) (k : ℕ) (places : List Place) → u.count ≡ v.count → u.free ≡ v.free → All (CanBeFreed v) (pages_of places) → All (CanBeFreed u) (pages_of (drop k places))
each_rest v u k places count free all = all_since v u (pages_of (drop k places)) count free (all_rest v k places all)

-- all places behind some
pub rest_all : (k : ℕ) (places : List Place) → take (length places - k) (drop k places) ≡ drop k places
rest_all k places = ap (λ (n : ℕ). take n (drop k places)) (let e : length places - k ≡ length (drop k places) = sym (length-drop k places) in e) ∙ take-length (drop k places)

-- what can be freed of them, and what is
pub rest_each : (v u : Contents) (k : ℕ) (places : List Place) → u.count ≡ v.count → u.free ≡ v.free → AreUsed v places → All (CanBeFreed u) (pages_of (take (length places - k) (drop k places)))
rest_each v u k places count free are = subst (λ (ps : List Place). All (CanBeFreed u) (pages_of ps)) (sym (rest_all k places)) (each_rest v u k places count free are.each)

pub rest_different : (v : Contents) (k : ℕ) (places : List Place) → AreUsed v places → AllPairs (λ a b. a ≢ b) (pages_of (take (length places - k) (drop k places)))
rest_different v k places are = subst (λ (ps : List Place). AllPairs (λ a b. a ≢ b) (pages_of ps)) (sym (rest_all k places)) (pairs_rest k places are.different)

pub rest_freed : (tells : Bool) (v w : Contents) (k : ℕ) (places : List Place) → AreFreed tells (take (length places - k) (drop k places)) v w → AreFreed tells (drop k places) v w
rest_freed tells v w k places freed = subst (λ (ps : List Place). AreFreed tells ps v w) (rest_all k places) freed

-- a page is none of the others
first_alone : (p : Place) (places : List Place) → AllPairs (λ a b. a ≢ b) (pages_of (p ∷ places)) → ¬ Contains (pages_of places) p.page
first_alone p places pairs has = let below = has.1 in pairs 0 (suc has.0) p.page (omega arith) (omega (arith, below)) (sym has.2)

more_there : (x : ℕ) (xs : List ℕ) (n : ℕ) → Contains xs n → Contains (x ∷ xs) n
more_there x xs n has = let below = has.1 in (suc has.0, omega (arith, below), has.2)

not_first : (x : ℕ) (xs : List ℕ) (n : ℕ) → ¬ Contains (x ∷ xs) n → n ≢ x
not_first x xs n not same = not (0, omega arith, sym same)

-- one page is put, and those behind it are freed
module _ (v u w : ℕ → List ℕ) (bytes : List ℕ) where
  pub put_first : (gone : List Place) (d : Place) → 1 ≤ length gone → AllPairs (λ a b. a ≢ b) (pages_of gone) → EqualPages (with_page (get_or gone 0 d).page bytes v) u
      → ((n : ℕ) → ¬ Contains (pages_of (drop 1 gone)) n → w n ≡ u n) → (a : Place) (gs : List Place) → gone ≡ a ∷ gs → w a.page ≡ bytes
  put_first [] d some pairs put others a gs same = absurd (omega (arith, some))
  put_first (p ∷ gone) d some pairs put others a gs same =
      let one : p ≡ a = cc in
      subst (λ (q : Place). w q.page ≡ bytes) one (others p.page (first_alone p gone pairs) ∙ put p.page ∙ changed_page p.page bytes v)

  pub put_others : (gone : List Place) (d : Place) → 1 ≤ length gone → EqualPages (with_page (get_or gone 0 d).page bytes v) u
      → ((n : ℕ) → ¬ Contains (pages_of (drop 1 gone)) n → w n ≡ u n) → (n : ℕ) → ¬ Contains (pages_of gone) n → w n ≡ v n
  put_others [] d some put others n not = absurd (omega (arith, some))
  put_others (p ∷ gone) d some put others n not =
      others n (λ has. not (more_there p.page (pages_of gone) n has)) ∙ put n ∙ other_page p.page n bytes v (not_first p.page (pages_of gone) n not)

-- two are
module _ (v u z w : ℕ → List ℕ) (one two : List ℕ) where
  pub put_both : (gone : List Place) (d d2 : Place) → 2 ≤ length gone → AllPairs (λ a b. a ≢ b) (pages_of gone) → EqualPages (with_page (get_or gone 0 d).page one v) u → EqualPages (with_page (get_or gone 1 d2).page two u) z
      → ((n : ℕ) → ¬ Contains (pages_of (drop 2 gone)) n → w n ≡ z n) → (a b : Place) (gs : List Place) → gone ≡ a ∷ b ∷ gs → (w a.page ≡ one) × (w b.page ≡ two)
  put_both [] d d2 some pairs put next others a b gs same = absurd (omega (arith, some))
  put_both (p ∷ []) d d2 some pairs put next others a b gs same = absurd (omega (arith, some))
  put_both (p ∷ q ∷ gone) d d2 some pairs put next others a b gs same =
      let first : p ≡ a = cc in
      let second : q ≡ b = cc in
      let alone : ¬ Contains (pages_of (q ∷ gone)) p.page = first_alone p (q ∷ gone) pairs in (
        subst (λ (r : Place). w r.page ≡ one) first
            (others p.page (λ has. alone (more_there q.page (pages_of gone) p.page has)) ∙ next p.page ∙ other_page q.page p.page two u (not_first q.page (pages_of gone) p.page alone) ∙ put p.page ∙ changed_page p.page one v),
        subst (λ (r : Place). w r.page ≡ two) second
            (others q.page (first_alone q gone (pairs_tail p.page (pages_of (q ∷ gone)) pairs)) ∙ next q.page ∙ changed_page q.page two u),
      )

  pub both_others : (gone : List Place) (d d2 : Place) → 2 ≤ length gone → EqualPages (with_page (get_or gone 0 d).page one v) u → EqualPages (with_page (get_or gone 1 d2).page two u) z
      → ((n : ℕ) → ¬ Contains (pages_of (drop 2 gone)) n → w n ≡ z n) → (n : ℕ) → ¬ Contains (pages_of gone) n → w n ≡ v n
  both_others [] d d2 some put next others n not = absurd (omega (arith, some))
  both_others (p ∷ []) d d2 some put next others n not = absurd (omega (arith, some))
  both_others (p ∷ q ∷ gone) d d2 some put next others n not =
      let rest : ¬ Contains (pages_of (q ∷ gone)) n = λ has. not (more_there p.page (pages_of (q ∷ gone)) n has) in
      others n (λ has. rest (more_there q.page (pages_of gone) n has)) ∙ next n ∙ other_page q.page n two u (not_first q.page (pages_of gone) n rest) ∙ put n ∙ other_page p.page n one v (not_first p.page (pages_of (q ∷ gone)) n not)

-- how many pages can be taken then
pub freed_length : (free now : List ℕ) (places : List Place) → IsPermutation (free ++ pages_of places) now → length now ≡ length free + length places
freed_length free now places same =
    let long : length (pages_of places) ≡ length places = length-map places (λ (p : Place). p.page) in
    length_permutation (free ++ pages_of places) now same ∙ omega (arith, length-append free (pages_of places), long)

-- the places that rise
pub rising_back_of : (gone back : List Place) → IsRising (gone ++ back) → IsRising back
rising_back_of [] back rising = rising
rising_back_of (p ∷ gone) back rising = rising_back_of gone back rising.1

above_back_of : (at : ℤ) (gone back : List Place) → AreAbove at (gone ++ back) → AreAbove at back
above_back_of at [] back above = above
above_back_of at (p ∷ gone) back above = above_back_of at gone back above.1

pub rising_first : (gone back : List Place) (d : Place) → 1 ≤ length gone → IsRising (gone ++ back) → IsRising (get_or gone 0 d ∷ back)
rising_first [] back d some rising = absurd (omega (arith, some))
rising_first (p ∷ gone) back d some rising = (above_back_of p.at gone back rising.0, rising_back_of gone back rising.1)

pub rising_second : (gone back : List Place) (d : Place) → 2 ≤ length gone → IsRising (gone ++ back) → IsRising (get_or gone 1 d ∷ back)
rising_second [] back d some rising = absurd (omega (arith, some))
rising_second (p ∷ gone) back d some rising = rising_first gone back d (omega (arith, some)) rising.1

-- a page that goes to the front of those that can be taken
page_back : (free now : List ℕ) (n : ℕ) (rest : List ℕ) → IsPermutation (free ++ rest) now → IsPermutation (free ++ n ∷ rest) (now ++ n ∷ [])
page_back free now n rest same =
    IsPermutation-trans (free ++ n ∷ rest) (n ∷ (free ++ rest)) (now ++ n ∷ []) (IsPermutation-middle free n rest)
    (IsPermutation-trans (n ∷ (free ++ rest)) (n ∷ now) (now ++ n ∷ []) (IsPermutation-cons n (free ++ rest) now same)
    (IsPermutation-sym (now ++ n ∷ []) (n ∷ now) (subst (λ (l : List ℕ). IsPermutation (now ++ n ∷ []) (n ∷ l)) (append-nil now) (IsPermutation-middle now n []))))

module _ (tells : Bool) (columns : List Column) (gone back : List Place) (rising : IsRising (gone ++ back)) (v w : Contents) where
  -- all pages are freed
  pub kept_none : AreFreed tells gone v w → AreKept tells columns gone [] back v w
  kept_none freed = record {
    pages = subst (λ (l : List ℕ). IsPermutation (v.free ++ pages_of gone) l) (sym (append-nil w.free)) freed.free;
    counts = λ k d within. absurd (omega (arith, within));
    rising = rising_back_of gone back rising;
    begins = λ at above. tt;
    others = freed.others;
  }

  module _ (others : IsTrue tells → (n : ℕ) → ¬ Contains (pages_of gone) n → w.page n ≡ v.page n) where
    -- one stays
    pub kept_one : (d one : Place) → 1 ≤ length gone → one.page ≡ (get_or gone 0 d).page → (get_or gone 0 d).at ≤ℤ one.at → AreAbove one.at back → IsCounted columns one → IsPermutation (v.free ++ pages_of (drop 1 gone)) w.free
        → AreKept tells columns gone (one ∷ []) back v w
    kept_one d one some page low above counted free = record {
      pages = pages gone some page free;
      counts = All-cons (IsCounted columns) one [] counted (λ k e within. absurd (omega (arith, within)));
      rising = (above, rising_back_of gone back rising);
      begins = λ at over. (start gone some low at over, tt);
      others = others;
    }
      where
        pages : (gs : List Place) → 1 ≤ length gs → one.page ≡ (get_or gs 0 d).page → IsPermutation (v.free ++ pages_of (drop 1 gs)) w.free → IsPermutation (v.free ++ pages_of gs) (w.free ++ one.page ∷ [])
        pages [] more same perm = absurd (omega (arith, more))
        pages (p ∷ gs) more same perm = subst (λ (n : ℕ). IsPermutation (v.free ++ pages_of (p ∷ gs)) (w.free ++ n ∷ [])) (sym same) (page_back v.free w.free p.page (pages_of gs) perm)

        start : (gs : List Place) → 1 ≤ length gs → (get_or gs 0 d).at ≤ℤ one.at → (at : ℤ) → AreAbove at gs → at <ℤ one.at
        start [] more least at over = absurd (omega (arith, more))
        start (p ∷ gs) more least at over = let first = over.0 in omega (arith, ints, first, least)

    -- two stay
    pub kept_two : (d d2 one two : Place) → 2 ≤ length gone → one.page ≡ (get_or gone 0 d).page → two.page ≡ (get_or gone 1 d2).page → one.at ≡ (get_or gone 0 d).at → (get_or gone 1 d2).at ≤ℤ two.at → AreAbove two.at back
        → IsCounted columns one → IsCounted columns two → IsPermutation (v.free ++ pages_of (drop 2 gone)) w.free → AreKept tells columns gone (one ∷ two ∷ []) back v w
    kept_two d d2 one two some page1 page2 at1 low above counted1 counted2 free = record {
      pages = pages gone some page1 page2 free;
      counts = All-cons (IsCounted columns) one (two ∷ []) counted1 (All-cons (IsCounted columns) two [] counted2 (λ k e within. absurd (omega (arith, within))));
      rising = (order gone some at1 low rising, (above, rising_back_of gone back rising));
      begins = λ at over. let next = order gone some at1 low rising in let up = next.0 in let first = start gone some at1 at over in (first, (omega (arith, ints, first, up), tt));
      others = others;
    }
      where
        pages : (gs : List Place) → 2 ≤ length gs → one.page ≡ (get_or gs 0 d).page → two.page ≡ (get_or gs 1 d2).page → IsPermutation (v.free ++ pages_of (drop 2 gs)) w.free
            → IsPermutation (v.free ++ pages_of gs) (w.free ++ one.page ∷ two.page ∷ [])
        pages [] more same1 same2 perm = absurd (omega (arith, more))
        pages (p ∷ []) more same1 same2 perm = absurd (omega (arith, more))
        pages (p ∷ q ∷ gs) more same1 same2 perm =
            let inner = page_back v.free w.free q.page (pages_of gs) perm in
            let outer : IsPermutation (v.free ++ p.page ∷ q.page ∷ pages_of gs) (p.page ∷ (w.free ++ q.page ∷ [])) =
            IsPermutation-trans (v.free ++ p.page ∷ q.page ∷ pages_of gs) (p.page ∷ (v.free ++ q.page ∷ pages_of gs)) (p.page ∷ (w.free ++ q.page ∷ [])) (IsPermutation-middle v.free p.page (q.page ∷ pages_of gs))
            (IsPermutation-cons p.page (v.free ++ q.page ∷ pages_of gs) (w.free ++ q.page ∷ []) inner) in
            let whole : IsPermutation (v.free ++ p.page ∷ q.page ∷ pages_of gs) (w.free ++ p.page ∷ q.page ∷ []) =
            IsPermutation-trans (v.free ++ p.page ∷ q.page ∷ pages_of gs) (p.page ∷ (w.free ++ q.page ∷ [])) (w.free ++ p.page ∷ q.page ∷ []) outer
            (IsPermutation-sym (w.free ++ p.page ∷ q.page ∷ []) (p.page ∷ (w.free ++ q.page ∷ [])) (IsPermutation-middle w.free p.page (q.page ∷ []))) in
            subst (λ (n : ℕ). IsPermutation (v.free ++ pages_of (p ∷ q ∷ gs)) (w.free ++ n ∷ two.page ∷ [])) (sym same1)
            (subst (λ (n : ℕ). IsPermutation (v.free ++ pages_of (p ∷ q ∷ gs)) (w.free ++ p.page ∷ n ∷ [])) (sym same2) whole)

        order : (gs : List Place) → 2 ≤ length gs → one.at ≡ (get_or gs 0 d).at → (get_or gs 1 d2).at ≤ℤ two.at → IsRising (gs ++ back) → (one.at <ℤ two.at) × AreAbove one.at back
        order [] more same least rise = absurd (omega (arith, more))
        order (p ∷ []) more same least rise = absurd (omega (arith, more))
        order (p ∷ q ∷ gs) more same least rise = let first = rise.0.0 in (omega (arith, ints, first, same, least), subst (λ (z : ℤ). AreAbove z back) (sym same) (above_back_of p.at gs back rise.0.1))

        start : (gs : List Place) → 2 ≤ length gs → one.at ≡ (get_or gs 0 d).at → (at : ℤ) → AreAbove at gs → at <ℤ one.at
        start [] more same at over = absurd (omega (arith, more))
        start (p ∷ gs) more same at over = let first = over.0 in omega (arith, ints, first, same)

-- what stands on the pages
module _ (slot : ℕ) (columns : List Column) (number : slot < 2 ^ 16) where
  pub is_on : (page : List ℕ) (place : Place) (es : List Element) (count : ℕ) (bytes : List ℕ) → 1 ≤ count → count ≤ page_room columns → HasElements slot columns es count bytes → AreInOrder columns es → page ≡ bytes → place.count ≡ count → first_stamp es ≡ Some place.at
      → IsOn slot columns page place es
  is_on page place es count bytes some room has order same counted first = record {
    bytes = record {
      number = number;
      fill = record { some = omega (arith, has.number, some); room = omega (arith, has.number, room); elements = order };
      bytes = same ∙ has.bytes;
    };
    count = has.number ∙ sym counted;
    first = first;
  }

  -- where they begin
  pub begins_on : (place read : Place) (back : List Place) (begins : ℤ) (n : ℕ) (es : List Element) → place_of n es ≡ read ∷ [] → BeginsWithin place back es → IsBeginning read.at begins place back → first_stamp es ≡ Some begins
  begins_on place read back begins n es listed within is =
      let first : first_stamp es ≡ Some read.at = place_first n es read listed in
      let room = within read.at first in
      first ∙ ap Some (sym (is.told room.0 room.1))

-- a part of elements in order
pub order_front : (columns : List Column) (xs ys : List Element) → AreInOrder columns (xs ++ ys) → AreInOrder columns xs
order_front columns xs ys order = record { each = elements_front columns xs ys order.each; rising = rising_front xs ys order.rising }

pub order_back : (columns : List Column) (xs ys : List Element) → AreInOrder columns (xs ++ ys) → AreInOrder columns ys
order_back columns xs ys order = record { each = elements_back columns xs ys order.each; rising = rising_back xs ys order.rising }

-- the first of some places
pub begin_first : (gone back : List Place) (d : Place) (es : List Element) → 1 ≤ length gone → BeginTogether gone back es → BeginsWithin (get_or gone 0 d) back es
begin_first [] back d es some can = absurd (omega (arith, some))
begin_first (p ∷ gone) back d es some can = can p gone refl

pub begin_at : (gone back : List Place) (d : Place) (xs ys : List Element) (at : ℤ) → 2 ≤ length gone → at ≡ (get_or gone 0 d).at → BeginApart gone back xs ys → first_stamp xs ≡ Some at
begin_at [] back d xs ys at some same can = absurd (omega (arith, some))
begin_at (p ∷ gone) back d xs ys at some same can = can.first p gone refl ∙ ap Some (sym same)

pub begin_second : (gone back : List Place) (d : Place) (xs ys : List Element) → 2 ≤ length gone → BeginApart gone back xs ys → BeginsWithin (get_or gone 1 d) back ys
begin_second [] back d xs ys some can = absurd (omega (arith, some))
begin_second (p ∷ []) back d xs ys some can = absurd (omega (arith, some))
begin_second (p ∷ q ∷ gone) back d xs ys some can = can.second p q gone refl

-- a piece stands on the page where it was put
pub piece_on : (slot : ℕ) (columns : List Column) → slot < 2 ^ 16 → (page : List ℕ) (one read place : Place) (back : List Place) (n count : ℕ) (bytes : List ℕ) (es : List Element) → 1 ≤ count → count ≤ page_room columns → one.count ≡ count → page ≡ bytes
    → IsBeginning read.at one.at place back → ((fs : List Element) → AreElements columns fs → length fs ≡ count → bytes ≡ irregular_page slot columns fs → place_of n fs ≡ read ∷ [])
    → HasElements slot columns es count bytes → AreInOrder columns es → BeginsWithin place back es → IsOn slot columns page one es
piece_on slot columns number page one read place back n count bytes es some room counted here begins listed has order within =
    is_on slot columns number page one es count bytes some room has order here counted (begins_on slot columns number place read back one.at n es (listed es order.each has.number has.bytes) within begins)

pub put_at : (w : ℕ → List ℕ) (bytes : List ℕ) (gone : List Place) (d : Place) (n : ℕ) → 1 ≤ length gone → n ≡ (get_or gone 0 d).page → ((a : Place) (gs : List Place) → gone ≡ a ∷ gs → w a.page ≡ bytes) → w n ≡ bytes
put_at w bytes [] d n some same put = absurd (omega (arith, some))
put_at w bytes (p ∷ gone) d n some same put = ap w same ∙ put p gone refl

pub put_both_at : (w : ℕ → List ℕ) (one two : List ℕ) (gone : List Place) (d d2 : Place) (n m : ℕ) → 2 ≤ length gone → n ≡ (get_or gone 0 d).page → m ≡ (get_or gone 1 d2).page
    → ((a b : Place) (gs : List Place) → gone ≡ a ∷ b ∷ gs → (w a.page ≡ one) × (w b.page ≡ two)) → (w n ≡ one) × (w m ≡ two)
put_both_at w one two [] d d2 n m some same next put = absurd (omega (arith, some))
put_both_at w one two (p ∷ []) d d2 n m some same next put = absurd (omega (arith, some))
put_both_at w one two (p ∷ q ∷ gone) d d2 n m some same next put = let h = put p q gone refl in (ap w same ∙ h.0, ap w next ∙ h.1)
