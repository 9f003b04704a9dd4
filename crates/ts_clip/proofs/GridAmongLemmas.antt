-- The pages of a range of offsets among all of a series.
use Rattle.std.proofs.Common.{◌≡◌, ℕ, zero, suc, ◌+◌, ◌-◌, ◌<◌, ◌≤◌, All, ℤ, pos, Option, None, List, [], ◌∷◌, ◌++◌, map, take, drop, sym, ap, subst, ◌∙◌, arith, length-append, append-nil}
use Rattle.std.proofs.lemmas.Int.{ints}
use Rattle.std.proofs.lemmas.List.{get_or_append_left}
use Rattle.std.proofs.lemmas.List.Elements.{All-tail}
use Rattle.std.proofs.Math.Nat.{mod-add-div}
use Rattle.ts_space.specs.declared.place.Place.{Place}
use Rattle.ts_space.specs.Place.{AreAbove, IsRising}
use Rattle.ts_row.specs.declared.kind.Column.{Column}
use Rattle.ts_row.specs.Row.{Row}
use Rattle.ts_regular.specs.RegularPage.{base_of, regular_room, OffsetElement, elements_from}
use Rattle.ts_regular.specs.Places.{OffsetPage, all_in, AreOn}
use Rattle.ts_regular.specs.Cut.{AreNotBelow}
use Rattle.ts_regular.proofs.OffsetLemmas.{AreLess, AreMore, more_both}
use Rattle.ts_regular.proofs.CellsLemmas.{more_cells}
use Rattle.ts_regular.proofs.PlaceLemmas.{all_both, pages_less, part}
use Rattle.ts_regular.proofs.EditLemmas.{whole_base}
use Rattle.ts_clip.specs.Between.{AreBetween}
use Rattle.ts_clip.specs.Numbered.{numbered, seen_at}
use Rattle.ts_regular.specs.Range.{within}
use Rattle.ts_clip.proofs.GridWithinLemmas.{within_before, within_behind, within_both, within_none}
use Rattle.ts_clip.proofs.GridStartLemmas.{few_taken}
use Rattle.ts_clip.proofs.GridNumberLemmas.{numbered_none, numbered_parts, numbered_same}
use Rattle.ts_clip.proofs.GridSeenLemmas.{none_before, none_behind, seen_first, seen_second}

-- the pages of a range, among all
pages_from : (slot : ℕ) (columns : List Column) (pages : ℕ → List ℕ) (n upper : ℕ) (places : List Place) (ps : List OffsetPage) → n < upper → AreNotBelow (pos upper) places → AreOn slot columns pages places ps → AreMore n (all_in ps)
pages_from slot columns pages n upper [] [] low above on = tt
pages_from slot columns pages n upper [] (p ∷ ps) low above on = absurd on
pages_from slot columns pages n upper (q ∷ places) [] low above on = absurd on
pages_from slot columns pages n upper (q ∷ places) (p ∷ ps) low above on =
    let first = above.0 in
    let same = on.0.at in
    more_both n (elements_from p.0 p.1) (all_in ps) (more_cells n p.0 p.1 (omega (arith, ints, low, first, same))) (pages_from slot columns pages n upper places ps low above.1 on.1)

base_low : (columns : List Column) (n : ℕ) → base_of columns n ≤ n
base_low columns n = let parts = mod-add-div n (regular_room columns) in grind arith

rising_first : (xs ys : List Place) → IsRising (xs ++ ys) → IsRising xs
rising_first [] ys rise = tt
rising_first (q ∷ xs) ys rise = (above_first q.at xs ys rise.0, rising_first xs ys rise.1)
  where
    above_first : (at : ℤ) (xs ys : List Place) → AreAbove at (xs ++ ys) → AreAbove at xs
    above_first at [] ys above = tt
    above_first at (q ∷ xs) ys above = (above.0, above_first at xs ys above.1)

rising_mid : (xs ys zs : List Place) → IsRising (xs ++ (ys ++ zs)) → IsRising ys
rising_mid [] ys zs rise = rising_first ys zs rise
rising_mid (q ∷ xs) ys zs rise = rising_mid xs ys zs rise.1

pub all_first : {A : Type 0} (P : A → Type 0) (xs ys : List A) → All P (xs ++ ys) → All P xs
all_first P xs ys all k d within = subst P (get_or_append_left xs ys d k within) (all k d (omega (arith, within, length-append xs ys)))

pub all_second : {A : Type 0} (P : A → Type 0) (xs ys : List A) → All P (xs ++ ys) → All P ys
all_second P [] ys all = all
all_second P (q ∷ xs) ys all = all_second P xs ys (All-tail P q (xs ++ ys) all)

module _ (columns : List Column) (lower upper : ℕ) (places among : List Place) (between : AreBetween columns lower upper places among) where
  pub among_rising : IsRising places → IsRising among
  among_rising rising = rising_mid between.front among between.back (subst IsRising between.parts rising)

  pub among_each : (P : Place → Type 0) → All P places → All P among
  among_each P each = all_first P among between.back (all_second P between.front (among ++ between.back) (subst (All P) between.parts each))

  -- their pages among all: those before have lesser offsets than the range, and those behind greater ones
  pub record Among (slot : ℕ) (pages : ℕ → List ℕ) (ps : List OffsetPage) : Type 0 where
    pub before : List OffsetPage
    pub own : List OffsetPage
    pub behind : List OffsetPage
    pub on : AreOn slot columns pages among own
    pub parts : all_in ps ≡ all_in before ++ (all_in own ++ all_in behind)
    pub less : (n : ℕ) → lower ≤ n → AreLess n (all_in before)
    pub more : (n : ℕ) → n < upper → AreMore n (all_in behind)

  pub among_told : (slot : ℕ) (pages : ℕ → List ℕ) (ps : List OffsetPage) → AreOn slot columns pages places ps → Among slot pages ps
  among_told slot pages ps on =
      let one = part slot columns pages between.front (among ++ between.back) ps (subst (λ (l : List Place). AreOn slot columns pages l ps) between.parts on) in
      let two = part slot columns pages among between.back one.behind one.back_on in
      let base : ℕ = base_of columns lower in
      let low = base_low columns lower in
      record {
        before = one.before;
        own = two.before;
        behind = two.behind;
        on = two.front_on;
        parts = ap all_in one.parts ∙ all_both one.before one.behind ∙ ap (λ (l : List OffsetPage). all_in one.before ++ all_in l) two.parts
            ∙ ap (λ (l : List OffsetElement). all_in one.before ++ l) (all_both two.before two.behind);
        less = λ n above. pages_less slot columns pages n base between.front one.before (whole_base columns lower) (omega (arith, low, above)) between.before one.front_on;
        more = λ n below. pages_from slot columns pages n upper between.back two.behind below between.behind two.back_on;
      }

  -- what stands on them stands on all, at an offset of the range
  pub among_same : (slot : ℕ) (pages : ℕ → List ℕ) (ps : List OffsetPage) (told : Among slot pages ps) (n : ℕ) → lower ≤ n → n < upper → seen_at (all_in ps) n ≡ seen_at (all_in told.own) n
  among_same slot pages ps told n above below =
      ap (λ (l : List OffsetElement). seen_at l n) told.parts
      ∙ seen_second n (all_in told.before) (all_in told.own ++ all_in told.behind) (none_before n (all_in told.before) (told.less n above))
      ∙ seen_first n (all_in told.own) (all_in told.behind) (none_behind n (all_in told.behind) (told.more n below))

-- all entries of a range, once those of its pages were handed on
pub whole_entries : (own all : List OffsetElement) (lower end upper : ℕ) (starts : List ℤ) → lower ≤ end → end ≤ upper → ((n : ℕ) → lower ≤ n → n < upper → seen_at all n ≡ seen_at own n) → ((n : ℕ) → end ≤ n → n < upper → seen_at own n ≡ None)
    → numbered (seen_at own) lower (take (end - lower) starts) ++ map (λ start. (start, None)) (take (upper - end) (drop (end - lower) starts)) ≡ numbered (seen_at all) lower (take (upper - lower) starts)
whole_entries own all lower end upper starts low high same none =
    let f : ℕ → Option Row = seen_at all in
    let first : List ℤ = take (end - lower) starts in
    let others : List ℤ = take (upper - end) (drop (end - lower) starts) in
    let few = few_taken (end - lower) starts in
    let fewer = few_taken (upper - end) (drop (end - lower) starts) in
    let one : numbered (seen_at own) lower first ≡ numbered f lower first = sym (numbered_same f (seen_at own) lower lower first (λ i within. same (lower + i) (omega arith) (omega (arith, few, within, low, high)))) in
    let two : map (λ start. (start, None)) others ≡ numbered f end others =
    numbered_none f end others (λ i within. same (end + i) (omega (arith, low)) (omega (arith, fewer, within)) ∙ none (end + i) (omega arith) (omega (arith, fewer, within))) in
    (λ j. one j ++ two j) ∙ sym (numbered_parts f lower end (end - lower) (upper - end) (upper - lower) starts (omega (arith, low)) (omega (arith, low, high)))

-- those of a range stand on the pages of its places
pub among_within : (columns : List Column) (lower upper : ℕ) (places among : List Place) (between : AreBetween columns lower upper places among) (slot : ℕ) (pages : ℕ → List ℕ) (ps : List OffsetPage) → lower ≤ upper → (told : Among columns lower upper places among between slot pages ps)
    → within lower upper (all_in ps) ≡ within lower upper (all_in told.own)
among_within columns lower upper places among between slot pages ps order told =
    ap (within lower upper) told.parts ∙ within_both lower upper (all_in told.before) (all_in told.own ++ all_in told.behind)
    ∙ (λ j. within_before lower upper (all_in told.before) (told.less lower (omega arith)) j ++ within_both lower upper (all_in told.own) (all_in told.behind) j)
    ∙ ap (λ (l : List OffsetElement). within lower upper (all_in told.own) ++ l) (none_behind upper told.more) ∙ append-nil (within lower upper (all_in told.own))
  where
    none_behind : (to : ℕ) → ((n : ℕ) → n < to → AreMore n (all_in told.behind)) → within lower to (all_in told.behind) ≡ []
    none_behind zero more = within_none lower 0 (all_in told.behind) (omega arith)
    none_behind (suc n) more = within_behind lower (suc n) n (all_in told.behind) (omega arith) (more n (omega arith))
