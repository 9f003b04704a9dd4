-- Two series as one, a part of the range after the other: what is said of each part is what they come to in the whole range.
use Rattle.std.proofs.Common.{◌≡◌, ℕ, ◌+◌, ◌<◌, ◌≤◌, ◌^◌, ℤ, pos, ◌+ℤ◌, ◌<ℤ◌, ◌≤ℤ◌, Bool, true, false, not, nat_lt, cond, IsTrue, Contains, Result, Ok, Err, IfOk, All, List, [], ◌∷◌, ◌++◌, map, get_or, length, append-nil, append_assoc, length-append, refl, ap, sym, subst, ◌∙◌, arith}
use Rattle.std.specs.List.{flat_map}
use Rattle.std.proofs.lemmas.Bool.{lt-ltb, le-ltb}
use Rattle.std.proofs.lemmas.Int.{ints}
use Rattle.std.proofs.lemmas.List.Concat.{flat_map-append}
use Rattle.std.proofs.lemmas.Result.{IfOk-weaker}
use Rattle.ts_base.specs.declared.refusal.Refusal.{Refusal}
use Rattle.ts_base.specs.declared.refusal.Refusal.TheVariants.{TooLarge}
use Rattle.ts_page.specs.Pages.{Contents}
use Rattle.ts_row.specs.declared.kind.Column.{Column}
use Rattle.ts_row.specs.Row.{Element, seen}
use Rattle.ts_space.specs.declared.place.Place.{Place}
use Rattle.ts_space.specs.Directory.{places_of}
use Rattle.ts_irregular.specs.Call.{Reads}
use Rattle.ts_sheets.specs.Stamped.{is_within, within_range}
use Rattle.ts_calendar.specs.Calendars.{near_count}
use Rattle.ts_offset.specs.declared.shape.Shape.{Shape}
use Rattle.ts_offset.specs.declared.shape.Shape.TheVariants.{Irregular, Regular}
use Rattle.ts_base.specs.Answer.{most_rows, within_rows}
use Rattle.ts_clip.specs.Series.{ArePlaces, HaveElements, IsTold}
use Rattle.ts_combine.specs.Combine.{Side, joined}
use Rattle.ts_combine.specs.Series.{IsSeries, side_of}
use Rattle.ts_entry.specs.Entry.{elements_in}
use Rattle.ts_combine.specs.Call.{joined_row}
use Rattle.ts_combine.specs.declared.joined.Joined.{Joined}
use Rattle.ts_combine.specs.declared.side.Side as given
use Rattle.ts_aggregate.proofs.ToldLemmas.{count_told, few_kept}
use Rattle.ts_model.specs.Definitions.{Definitions}
use Rattle.ts_answer.specs.Reply.{element_line}
use Rattle.ts_shelf.proofs.OrderLemmas.{in_order}
use Rattle.ts_combined_rows.specs.Combining.{AllFit, AreOfSeries, IsReadable, side_with}
use Rattle.ts_combined_rows.specs.Pairs.{AreAdded, AreTold, CanBeJoined, IsPartSaid, columns_in, joined_by}
use Rattle.ts_combined_rows.specs.declared.pairs.Pair.{Pair}
use Rattle.ts_combined_rows.proofs.CutLemmas.{AreCut, cut_rows}
use Rattle.ts_combined_rows.proofs.SideLemmas.{HasSide, of_series, on_pages, tested}

-- rows that a reply may have, and more
pub few_are : (rows : List Element) → length rows ≤ most_rows → within_rows rows ≡ Ok rows
few_are rows few = ap (λ (b : Bool). cond b (Err (TooLarge (length rows))) (Ok rows)) (le-ltb most_rows (length rows) few)

pub many_are : (rows : List Element) → most_rows < length rows → within_rows rows ≡ Err (TooLarge (length rows))
many_are rows many = ap (λ (b : Bool). cond b (Err (TooLarge (length rows))) (Ok rows)) (lt-ltb most_rows (length rows) many)

-- what is told of them is how many they are, and of few the rows
told_in : Refusal → ℕ
told_in (TooLarge n) = n
told_in why = 0

count_in : Result (List Element) Refusal → ℕ
count_in (Ok rows) = length rows
count_in (Err why) = told_in why

rows_in : Result (List Element) Refusal → List Element
rows_in (Ok rows) = rows
rows_in (Err why) = []

count_is : (rows : List Element) → count_in (within_rows rows) ≡ length rows
unfolding count_in told_in
count_is rows = by (nat_lt most_rows (length rows)) where
  by : (b : Bool) → count_in (cond b (Err (TooLarge (length rows))) (Ok rows)) ≡ length rows
  by true = refl
  by false = refl

same_count : (rows others : List Element) → within_rows rows ≡ within_rows others → length rows ≡ length others
same_count rows others same = sym (count_is rows) ∙ ap count_in same ∙ count_is others

same_rows : (rows others : List Element) → length rows ≤ most_rows → within_rows rows ≡ within_rows others → rows ≡ others
unfolding rows_in
same_rows rows others few same =
    let number = same_count rows others same in
    ap rows_in (sym (few_are rows few) ∙ same ∙ few_are others (omega (arith, few, number)))

-- those of an answer
pub answer_rows : (rows others : List Element) → within_rows rows ≡ Ok others → rows ≡ others
unfolding rows_in
answer_rows rows others = by (nat_lt most_rows (length rows)) where
  by : (b : Bool) → cond b (Err (TooLarge (length rows))) (Ok rows) ≡ Ok others → rows ≡ others
  by true is = absurd (cc)
  by false is = ap rows_in is

-- rows that are said, part after part
pub added_none : (columns : List Column) (out : List ℕ) → AreAdded columns [] 0 out 0 out
added_none columns out = record { more = omega arith; number = λ few. refl; lines = λ few. sym (append-nil out) }

pub added_then : (columns : List Column) (rows others : List Element) (n m k : ℕ) (out middle said : List ℕ) → AreAdded columns rows n out m middle → AreAdded columns others m middle k said
    → AreAdded columns (rows ++ others) n out k said
added_then columns rows others n m k out middle said before then_ =
    let line = element_line columns in
    let both = length-append rows others in
    let up = before.more in
    let more = then_.more in
    record {
      more = omega (arith, up, more);
      number = λ few.
          let first = before.number (omega (arith, few, both)) in
          let second = then_.number (omega (arith, few, both, first)) in
          omega (arith, first, second, both);
      lines = λ few.
          then_.lines few ∙ ap (λ (l : List ℕ). l ++ flat_map line others) (before.lines (omega (arith, few, more)))
          ∙ append_assoc out (flat_map line rows) (flat_map line others) ∙ ap (λ (l : List ℕ). out ++ l) (sym (flat_map-append line rows others));
    }

-- rows that are told as others are
pub added_as : (columns : List Column) (rows others : List Element) (n m : ℕ) (out said : List ℕ) → within_rows rows ≡ within_rows others → n + length rows < 2 ^ 64 → AreAdded columns rows n out m said
    → AreAdded columns others n out m said
added_as columns rows others n m out said same fits added =
    let number = same_count rows others same in
    let all = added.number fits in
    record {
      more = added.more;
      number = λ few. omega (arith, all, number);
      lines = λ few. added.lines few ∙ ap (λ (l : List Element). out ++ flat_map (element_line columns) l) (same_rows rows others (omega (arith, few, all)) same);
    }

-- of a series that is told of
module _ (shape : Shape) (slot : ℕ) (columns : List Column) (d : Definitions) (places : List Place) (v : Contents) (can : IsReadable shape slot columns d places v) (es : List Element)
    (have : HaveElements shape slot columns v.page places es) where
  pub side_told : HasSide shape columns (seen es)
  side_told = tested (λ (e : Element). not e.1.hidden) shape columns es
      (on_pages shape slot columns v.page places es (in_order shape can.laid slot columns v.page places es can.rising have) have)

  pub few_told : length (seen es) < 2 ^ 32
  few_told =
      let least = few_kept (λ (e : Element). not e.1.hidden) es in
      let count = count_told shape slot columns v.page places es have in
      let few = can.few in
      omega (arith, least, count, few)

module _ (pair : Pair) where
  abbrev shape : Shape
  shape = pair.first.now.1

  abbrev columns : List Column
  columns = pair.first.now.0.kind.now.columns

  abbrev slot : ℕ
  slot = pair.first.now.0.series

  abbrev places : List Place
  places = places_of slot pair.space.now

  abbrev shape' : Shape
  shape' = pair.second.now.1

  abbrev columns' : List Column
  columns' = pair.second.now.0.kind.now.columns

  abbrev slot' : ℕ
  slot' = pair.second.now.0.series

  abbrev places' : List Place
  places' = places_of slot' pair.space.now

  -- what is told of both is told of them before they were read
  pub told_still : {A : Type 0} (tells : Bool) (a : A) (v w : Contents) → Reads tells (Ok a) v w → (Holds : List Element → List Element → Type 0) → AreTold tells pair w Holds → AreTold tells pair v Holds
  told_still tells a v w reads Holds read = λ told es have again fs have'.
      read told es (subst (λ (p : ℕ → List ℕ). HaveElements shape slot columns p places es) (sym (λ i k. reads.pages told k i)) have) again fs
      (subst (λ (p : ℕ → List ℕ). HaveElements shape' slot' columns' p places' fs) (sym (λ i k. reads.pages told k i)) have')

  -- a part, by the rows of what was kept of each
  pub kept_said : {E : Type 0} (ones others : List Element) (from to : ℤ) (count : ℕ) (out said : List ℕ) (a b : given.Side) (rows : List Joined) (r : Result ℕ E)
      → side_of a ≡ side_with shape columns ones → side_of b ≡ side_with shape' columns' others
      → (IsSeries (side_of a) → IsSeries (side_of b) → joined pair.junction (side_of a) (side_of b) from to ≡ Ok (map (joined_row (side_of a) (side_of b)) rows))
      → IfOk r (λ all. AllFit columns (elements_in a.elems.now) → AllFit columns' (elements_in b.elems.now)
      → AreAdded (columns_in pair) (map (joined_row (side_of a) (side_of b)) rows) count out all said)
      → IfOk r (λ all. AreOfSeries shape columns ones → AreOfSeries shape' columns' others → IsPartSaid pair ones others from to count out all said)
  kept_said ones others from to count out said a b rows r one other comes done =
      IfOk-weaker r _ _
      (λ all added near near' answer is.
      let all_rows : within_rows answer ≡ Ok (map (joined_row (side_of a) (side_of b)) rows) =
      sym is ∙ (λ i. joined pair.junction (sym one i) (sym other i) from to) ∙ comes (subst IsSeries (sym one) near.series) (subst IsSeries (sym other) near'.series) in
      subst (λ (l : List Element). AreAdded (columns_in pair) l count out all said) (sym (answer_rows answer _ all_rows))
      (added (subst (AllFit columns) (sym (ap (λ (s : Side). s.elements) one)) near.fit) (subst (AllFit columns') (sym (ap (λ (s : Side). s.elements) other)) near'.fit))) done

  -- a part, by the elements that were read of each
  module _ {A : Type 0} (tells : Bool) (v w : Contents) (can : CanBeJoined pair v) (a : A) (reads : Reads tells (Ok a) v w) (from to low low' : ℤ) (ones others : List Element)
      (one : IsTold tells shape slot columns places v (λ es. ones ≡ within_range low to (seen es)))
      (other : IsTold tells shape' slot' columns' places' w (λ fs. others ≡ within_range low' to (seen fs)))
      (enough : (es fs : List Element) → IsSeries (side_with shape columns es) → IsSeries (side_with shape' columns' fs)
      → joined_by pair (within_range low to es) (within_range low' to fs) from to ≡ joined_by pair es fs from to) where
    pub part_said : (count all : ℕ) (out said : List ℕ) → (AreOfSeries shape columns ones → AreOfSeries shape' columns' others → IsPartSaid pair ones others from to count out all said)
        → AreTold tells pair v (λ es fs. IsPartSaid pair es fs from to count out all said)
    part_said count all out said says = λ told es have again fs have' rows is.
        let kept = one told es have in
        let kept' = other told fs (subst (λ (p : ℕ → List ℕ). HaveElements shape' slot' columns' p places' fs) (sym (λ i k. reads.pages told k i)) have') in
        let has = side_told shape slot columns _ places v can.first es have in
        let has' = side_told shape' slot' columns' _ places' v can.second fs have' in
        let near = subst (AreOfSeries shape columns) (sym kept) (of_series shape columns (within_range low to (seen es)) (tested (is_within low to) shape columns (seen es) has)) in
        let near' = subst (AreOfSeries shape' columns') (sym kept') (of_series shape' columns' (within_range low' to (seen fs)) (tested (is_within low' to) shape' columns' (seen fs) has')) in
        says near near' rows
        ((λ i. joined_by pair (kept i) (kept' i) from to)
        ∙ enough (seen es) (seen fs) (of_series shape columns (seen es) has).series (of_series shape' columns' (seen fs) has').series ∙ is)

  module _ (es fs : List Element) where
    abbrev pub AreCutOf : Type 0
    AreCutOf = AreCut pair.junction (side_with shape columns es) (side_with shape' columns' fs)

  -- up to a stamp the rows are said
  abbrev pub IsUnderWay : List Element → List Element → ℤ → ℤ → ℤ → List ℕ → ℕ → List ℕ → Type 0
  IsUnderWay es fs from low to out count said =
      (cut : AreCutOf es fs) → (rows : List Element) × AreAdded (columns_in pair) rows 0 out count said × (rows ++ cut.rows low to ≡ cut.rows from to)

  pub begun : (es fs : List Element) (from to : ℤ) (out : List ℕ) → IsUnderWay es fs from from to out 0 out
  begun es fs from to out = λ cut. ([], added_none (columns_in pair) out, refl)

  pub gone_on : (es fs : List Element) (from low end to : ℤ) (out middle said : List ℕ) (count all : ℕ) → low ≤ℤ end → end ≤ℤ to → IsUnderWay es fs from low to out count middle
      → IsPartSaid pair es fs low end count middle all said → IsUnderWay es fs from (end +ℤ pos 1) to out all said
  gone_on es fs from low end to out middle said count all up down way part = λ cut.
      let before = way cut in
      let here = cut.rows low end in (
        before.0 ++ here,
        added_then (columns_in pair) before.0 here 0 count all out middle said before.1 (part here (cut.are low end)),
        append_assoc before.0 here (cut.rows (end +ℤ pos 1) to)
            ∙ ap (λ (l : List Element). before.0 ++ l) (sym (cut.cut low end to (omega (arith, ints, up)) down)) ∙ before.2,
      )

  module _ (v : Contents) (can : CanBeJoined pair v) (es fs : List Element) (have : HaveElements shape slot columns v.page places es) (have' : HaveElements shape' slot' columns' v.page places' fs) where
    pub cut_told : AreCutOf (seen es) (seen fs)
    cut_told = cut_rows pair.junction (side_with shape columns (seen es)) (side_with shape' columns' (seen fs)) can.first.laid can.grid

    pub few_rows : (from to : ℤ) → 0 + length (cut_told.rows from to) < 2 ^ 64
    few_rows from to =
        let few = few_told shape slot columns _ places v can.first es have in
        let few' = few_told shape' slot' columns' _ places' v can.second fs have' in
        let all = cut_told.few from to in
        omega (arith, few, few', all)

    -- at the end all are
    pub all_said : (from low to : ℤ) (out said : List ℕ) (count : ℕ) → to <ℤ low → IsUnderWay (seen es) (seen fs) from low to out count said → IsPartSaid pair (seen es) (seen fs) from to 0 out count said
    all_said from low to out said count over way = λ rows is.
        let before = way cut_told in
        let whole : before.0 ≡ cut_told.rows from to =
        sym (append-nil before.0) ∙ ap (λ (l : List Element). before.0 ++ l) (sym (cut_told.none low to over)) ∙ before.2 in
        added_as (columns_in pair) (cut_told.rows from to) rows 0 count out said (sym (cut_told.are from to) ∙ is) (few_rows from to)
        (subst (λ (l : List Element). AreAdded (columns_in pair) l 0 out count said) whole before.1)
