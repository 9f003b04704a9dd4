-- What GetNthElem and Lag list of a series on a grid, by offsets.
use Rattle.std.specs.Prelude.{AllPairs, Contains, int_lt, unsigned_abs}
use Rattle.std.proofs.Common.{◌≡◌, ℕ, Bool, true, false, cond, not, Option, Some, None, option_map, option_and_then, List, [], ◌∷◌, length, filter_map, map, slice_get, refl, sym, ap, subst, ◌∙◌, arith, inl, inr, ℤ, pos, negsuc, ◌-ℤ◌, ◌<ℤ◌}
use Rattle.std.proofs.lemmas.Int.{ints}
use Rattle.std.proofs.lemmas.List.Kept.{AllPairs-filter}
use Rattle.std.proofs.lemmas.Option.{slice_get-map, option_and_then_some, some_pair_parts}
use Rattle.std.specs.FinMap.{entries}
use Rattle.std.specs.Option.{option_to_list}
use Rattle.ts_row.specs.Row.{Row, Element, seen}
use Rattle.ts_calendar.specs.Calendars.{IsLaid}
use Rattle.ts_calendar.proofs.StampLemmas.{int_lt_yes, int_lt_no, int_lt-false}
use Rattle.ts_irregular.specs.Edit.{element_at, last_of}
use Rattle.ts_offset.specs.Grid.{on_starts, GridPlan, starts_of, starts_before, stamp_of}
use Rattle.ts_offset.specs.declared.shape.Shape.TheVariants as shapes
use Rattle.ts_entry.specs.Entry.{Entry, entry_at, entry_number, is_reached, starts_to_last, reading}
use Rattle.ts_combine.specs.Combine.{from_origin, start_before, lagged_at, lagged}
use Rattle.ts_model.specs.Catalogue.{Series, columns_of, shape_of}
use Rattle.ts_answer.specs.Answer.{outcome, carried_out, wanted, known, a_reading, get_nth_element, lag_series}
use Rattle.ts_answer.specs.Reply.{elements_text, entries_text}
use Rattle.ts_answer.proofs.CallerLemmas.{on_ok, wanted-there}
use Rattle.ts_answer_laws.specs.ReadingLaws.{IsSeenAt, IsReached, NumbersAreOffsets, IsLagged, LagsAreByOffsets}
use Rattle.ts_answer_laws.proofs.RowLemmas.{Among, among_from, among_contains, among_place, place_among, among_filter, among_filtered, among_mapped, among_taken, among_came, filter_both, few_listed, front_kept, front_keeps, taken_rise, rank_at, not_false}
use Rattle.ts_answer_laws.proofs.SeenLemmas.{seen_later, seen_there, there_seen, among_found, found_among, reached, reached_by}
use Rattle.ts_answer_laws.proofs.ClipLemmas.{starts_rise, few_rows, reading_there}
use Rattle.ts_answer_laws.proofs.CameLemmas.{came, same_answer}

-- what a last element reaches it reaches before
reached_before : (last : Option Element) (a b : ℤ) → a <ℤ b → is_reached last b ≡ true → is_reached last a ≡ true
reached_before None a b below is = absurd (cc)
reached_before (Some last) a b below is =
    let high = int_lt-false last.0 b (not_false (int_lt last.0 b) is) in
    ap not (int_lt_no last.0 a (omega (arith, ints, high, below)))

-- the number of an entry is its offset
entry_offset : (g : GridPlan) (es : List Element) (n : ℕ) (e : Entry) → IsLaid g.calendar → slice_get (map (entry_at es) (starts_to_last g es)) n ≡ Some e → stamp_of g n ≡ Some e.0
entry_offset g es n e laid is = by (slice_get (starts_to_last g es) n) refl (sym (slice_get-map (entry_at es) (starts_to_last g es) n) ∙ is)
  where
    by : (o : Option ℤ) → slice_get (starts_to_last g es) n ≡ o → option_map (entry_at es) o ≡ Some e → stamp_of g n ≡ Some e.0
    by None none is = absurd (cc)
    by (Some start) there is =
        let same : entry_at es start ≡ e = cc in
        front_kept (is_reached (last_of es)) (reached_before (last_of es)) (starts_of g) n start (starts_rise g laid) there ∙ ap (λ (f : Entry). Some f.0) same

listed_one : {A : Type 0} (o : Option A) (a : A) → Contains (option_to_list o) a → o ≡ Some a
listed_one None a there = absurd (among_from [] a there)
listed_one (Some b) a there = elim (among_from (b ∷ []) a there) [ inl is ↦ ap Some (sym is) | inr none ↦ absurd none ]

one_listed : {A : Type 0} (o : Option A) (a : A) → o ≡ Some a → Contains (option_to_list o) a
one_listed {A} o a is = subst (λ (l : Option A). Contains (option_to_list l) a) (sym is) (0, omega arith, refl)

-- the entry of an offset
module _ (g : GridPlan) (s : Series) (n : ℕ) where
  -- stands where an element that is seen stands at it or later, and has the one at its stamp
  entry_found : (e : Entry) → slice_get (reading (shapes.Regular g) (entries s.elements)) n ≡ Some e
      → IsReached s e.0 × ((row : Row) → e.1 ≡ Some row → IsSeenAt s e.0 row)
  entry_found e is =
      let es = seen (entries s.elements) in
      let one = among_mapped (entry_at es) (starts_to_last g es) e (among_place (map (entry_at es) (starts_to_last g es)) n e is) in
      let at = ap (λ (f : Entry). f.0) one.2 in
      let found = ap (λ (f : Entry). f.1) one.2 in (
        subst (IsReached s) (sym at) (reached_by s one.0 (among_filtered (is_reached (last_of es)) (starts_of g) one.0 one.1).1),
        λ row some. seen_there s e.0 row (found_among e.0 row es (ap (λ (t : ℤ). element_at t es) at ∙ sym found ∙ some)),
      )

  -- an on start up to such an element has its entry
  entry_there : (start : ℤ) → IsLaid g.calendar → stamp_of g n ≡ Some start → IsReached s start
      → slice_get (reading (shapes.Regular g) (entries s.elements)) n ≡ Some (entry_at (seen (entries s.elements)) start)
  entry_there start laid is until =
      let es = seen (entries s.elements) in
      let passes = reached es (until.last, until.row) (seen_later s.elements) (there_seen s until.last until.row until.at) start until.until in
      slice_get-map (entry_at es) (starts_to_last g es) n
      ∙ ap (option_map (entry_at es)) (front_keeps (is_reached (last_of es)) (reached_before (last_of es)) (starts_of g) n start (starts_rise g laid) is passes)

pub nth_at_offset : NumbersAreOffsets
unfolding outcome carried_out get_nth_element
nth_at_offset cat answered key n s g there shaped laid is =
    let es = seen (entries s.elements) in
    let all = reading (shapes.Regular g) (entries s.elements) in
    let named = sym (on_ok (wanted key cat.series) s _ (wanted-there key cat.series s there)) ∙ is in
    let read = sym (on_ok (a_reading s cat) all _ (reading_there cat s (shapes.Regular g) shaped)) ∙ named in
    record {
      rows = entry_number n all;
      one = few_listed (slice_get all n);
      at = λ e listed.
          let is = listed_one (slice_get all n) e listed in
          (entry_offset g es n e laid is, (entry_found g s n e is).0);
      listed = λ start is until. (element_at start es, one_listed (slice_get all n) (entry_at es start) (entry_there g s n start laid is until));
      theirs = λ stamp row listed. (entry_found g s n (stamp, Some row) (listed_one (slice_get all n) (stamp, Some row) listed)).1 row refl;
      each = λ stamp row is at.
          let until : IsReached s stamp = record { last = stamp; row = row; at = at; until = omega (arith, ints) } in
          let found = among_found stamp row es (seen_later s.elements) (there_seen s stamp row at) in
          subst (λ (o : Option Row). Contains (entry_number n all) (stamp, o)) found
          (one_listed (slice_get all n) (entry_at es stamp) (entry_there g s n stamp laid is until));
      lines = same_answer (entries_text (columns_of cat s) (entry_number n all), cat) answered read;
    }

-- so many on starts stand before the on start of an offset
offset_rank : (g : GridPlan) (n : ℕ) (start : ℤ) → IsLaid g.calendar → stamp_of g n ≡ Some start → starts_before g start ≡ n
offset_rank g n start laid is =
    ap (λ (l : List ℤ). length l) (filter_both (λ x. not (int_lt x g.origin)) (λ x. int_lt x start) (on_starts g.calendar))
    ∙ rank_at (starts_of g) n start (starts_rise g laid) is

-- an offset that isn't before the origin
from_origin_is : (z : ℤ) (n : ℕ) → from_origin z ≡ Some n → z ≡ pos n
from_origin_is (pos m) n is = by (int_lt (pos m) (pos 0)) is
  where
    by : (b : Bool) → cond b None (Some m) ≡ Some n → pos m ≡ pos n
    by true is = absurd (cc)
    by false is = let same : m ≡ n = cc in ap pos same
from_origin_is (negsuc m) n is = absurd (let before = int_lt_yes (negsuc m) (pos 0) (omega (arith, ints)) in
    let none = sym (ap (λ (b : Bool). cond b (let o : Option ℕ = None in o) (Some (unsigned_abs (negsuc m)))) before) ∙ is in cc)

from_origin_yes : (n : ℕ) → from_origin (pos n) ≡ Some n
from_origin_yes n = ap (λ (b : Bool). cond b None (Some n)) (int_lt_no (pos n) (pos 0) (omega (arith, ints)))

-- an element at a stamp
abbrev at_start : ℤ → Row → Element
at_start start row = (start, row)

-- what is listed at an on start has its stamp
lagged_stamp : (g : GridPlan) (by : ℤ) (es : List Element) (start : ℤ) (e : Element) → lagged_at g by es start ≡ Some e → e.0 ≡ start
lagged_stamp g by es start e is = made (option_and_then (λ t. element_at t es) (start_before g by start)) is
  where
    made : (o : Option Row) → option_map (at_start start) o ≡ Some e → e.0 ≡ start
    made None never = absurd (cc)
    made (Some row) same = let one : at_start start row ≡ e = cc in sym (ap (λ (f : Element). f.0) one)

module _ (g : GridPlan) (by : ℤ) (s : Series) (laid : IsLaid g.calendar) where
  -- what is listed at an on start
  lag_there : (stamp : ℤ) (row : Row) → Among (stamp, row) (filter_map (lagged_at g by (seen (entries s.elements))) (starts_to_last g (seen (entries s.elements)))) → IsLagged g by s stamp row
  lag_there stamp row there =
      let es = seen (entries s.elements) in
      let at = among_came (lagged_at g by es) (starts_to_last g es) (stamp, row) there in
      mapped at.0 (place_among (starts_of g) at.0 (among_filtered (is_reached (last_of es)) (starts_of g) at.0 at.1).0)
      (option_and_then (λ t. element_at t es) (start_before g by at.0)) refl at.2
    where
      sourced : (offset source : ℕ) (start stood : ℤ) → stamp_of g offset ≡ Some start → from_origin (pos (starts_before g start) -ℤ by) ≡ Some source → stamp_of g source ≡ Some stood
          → element_at stood (seen (entries s.elements)) ≡ Some row → start ≡ stamp → IsLagged g by s stamp row
      sourced offset source start stood here from stands found same =
          let rank = offset_rank g offset start laid here in
          let lag = from_origin_is (pos (starts_before g start) -ℤ by) source from in
          record {
            offset = offset;
            at = here ∙ ap Some same;
            source = source;
            lag = omega (arith, ints, lag, rank);
            stood = stood;
            there = stands;
            seen = seen_there s stood row (found_among stood row (seen (entries s.elements)) found);
          }

      mapped : (start : ℤ) → (n : ℕ) × (stamp_of g n ≡ Some start) → (o : Option Row) → option_and_then (λ t. element_at t (seen (entries s.elements))) (start_before g by start) ≡ o
          → option_map (at_start start) o ≡ Some (stamp, row) → IsLagged g by s stamp row
      mapped start place None none is = absurd (cc)
      mapped start place (Some r) found is =
          let same = some_pair_parts start stamp r row is in
          option_and_then_some (λ t. element_at t (seen (entries s.elements))) (start_before g by start) row (found ∙ ap Some same.1)
          (λ stood stands at. option_and_then_some (stamp_of g) (from_origin (pos (starts_before g start) -ℤ by)) stood stands
          (λ source from stood_there. sourced place.0 source start stood place.1 from stood_there at same.0))

  -- up to the last element
  lag_reached : (stamp : ℤ) (row : Row) → Among (stamp, row) (filter_map (lagged_at g by (seen (entries s.elements))) (starts_to_last g (seen (entries s.elements)))) → IsReached s stamp
  lag_reached stamp row there =
      let es = seen (entries s.elements) in
      let at = among_came (lagged_at g by es) (starts_to_last g es) (stamp, row) there in
      subst (IsReached s) (sym (lagged_stamp g by es at.0 (stamp, row) at.2))
      (reached_by s at.0 (among_filtered (is_reached (last_of es)) (starts_of g) at.0 at.1).1)

  there_lag : (stamp : ℤ) (row : Row) → IsLagged g by s stamp row → IsReached s stamp
      → Among (stamp, row) (filter_map (lagged_at g by (seen (entries s.elements))) (starts_to_last g (seen (entries s.elements))))
  there_lag stamp row lagged until =
      let es = seen (entries s.elements) in
      let rank = offset_rank g lagged.offset stamp laid lagged.at in
      let sum = lagged.lag in
      let from : pos (starts_before g stamp) -ℤ by ≡ pos lagged.source = omega (arith, ints, rank, sum) in
      let source : start_before g by stamp ≡ Some lagged.stood = ap (λ (z : ℤ). option_and_then (stamp_of g) (from_origin z)) from
      ∙ ap (option_and_then (stamp_of g)) (from_origin_yes lagged.source) ∙ lagged.there in
      let found = among_found lagged.stood row es (seen_later s.elements) (there_seen s lagged.stood row lagged.seen) in
      let taken : lagged_at g by es stamp ≡ Some (stamp, row) =
      ap (λ (o : Option ℤ). option_map (at_start stamp) (option_and_then (λ t. element_at t es) o)) source
      ∙ ap (option_map (at_start stamp)) found in
      among_taken (lagged_at g by es) (starts_to_last g es) stamp (stamp, row)
      (among_filter (is_reached (last_of es)) (starts_of g) stamp (among_place (starts_of g) lagged.offset stamp lagged.at)
      (reached es (until.last, until.row) (seen_later s.elements) (there_seen s until.last until.row until.at) stamp until.until)) taken

pub lag_by_offsets : LagsAreByOffsets
unfolding outcome carried_out lag_series
lag_by_offsets cat answered key by s g there shaped laid is =
    let es = seen (entries s.elements) in
    let all = filter_map (lagged_at g by es) (starts_to_last g es) in
    let named = sym (on_ok (wanted key cat.series) s _ (wanted-there key cat.series s there)) ∙ is in
    let regular = sym (on_ok (known (shape_of cat s.kind)) (shapes.Regular g) _ (ap known shaped)) ∙ named in
    let rows = came (lagged (shapes.Regular g) by es) _ answered regular in
    let same = few_rows all rows.0 rows.1 in
    record {
      rows = rows.0;
      rising = subst (λ (l : List Element). AllPairs (λ a b. a.0 <ℤ b.0) l) same
          (taken_rise (λ (e : Element). e.0) (lagged_at g by es) (lagged_stamp g by es) (starts_to_last g es)
          (AllPairs-filter (λ a b. a <ℤ b) (is_reached (last_of es)) (starts_of g) (starts_rise g laid)));
      theirs = λ stamp row listed.
          let there = subst (λ (l : List Element). Among (stamp, row) l) (sym same) (among_from rows.0 (stamp, row) listed) in
          (lag_there g by s laid stamp row there, lag_reached g by s laid stamp row there);
      each = λ stamp row lag until.
          among_contains rows.0 (stamp, row) (subst (λ (l : List Element). Among (stamp, row) l) same (there_lag g by s laid stamp row lag until));
      lines = same_answer (elements_text (columns_of cat s) rows.0, cat) answered rows.2;
    }
