-- What Clip lists, and that ClipGetCount counts it.
use Rattle.std.specs.Prelude.{Contains, int_lt, nat_lt}
use Rattle.std.proofs.Common.{◌≡◌, ℕ, ◌<◌, Bool, true, false, cond, not, ◌&&◌, Option, Some, None, Ok, Err, List, length, map, get_or, refl, sym, ap, subst, ◌∙◌, arith, ℤ, ◌<ℤ◌, ◌≤ℤ◌}
use Rattle.std.proofs.lemmas.Int.{ints}
use Rattle.std.proofs.lemmas.List.Kept.{AllPairs-filter}
use Rattle.std.proofs.lemmas.Option.{slice_get-get_or}
use Rattle.std.specs.FinMap.{entries, find, get}
use Rattle.std.specs.Ordering.{int_cmp}
use Rattle.ts_base.specs.declared.refusal.Refusal.{Refusal}
use Rattle.ts_base.specs.declared.refusal.Refusal.TheVariants as refusals
use Rattle.ts_row.specs.Row.{Row, Element, seen}
use Rattle.ts_calendar.specs.Calendars.{IsLaid}
use Rattle.ts_calendar.proofs.StampLemmas.{int_lt_no, int_lt-false}
use Rattle.ts_command.specs.declared.command.Command.TheVariants as commands
use Rattle.ts_irregular.specs.Edit.{last_of}
use Rattle.ts_offset.specs.Grid.{on_starts, GridPlan, starts_of}
use Rattle.ts_offset.specs.declared.shape.Shape.{Shape}
use Rattle.ts_offset.specs.declared.shape.Shape.TheVariants as shapes
use Rattle.ts_offset.proofs.ListedLemmas.{listed-start, start-listed, listed-rise}
use Rattle.ts_entry.specs.Entry.{Entry, filled, entry_at, is_reached, starts_to_last, reading, clipped}
use Rattle.ts_base.specs.Answer.{within_rows}
use Rattle.ts_model.specs.Catalogue.{Catalogue, Series, columns_of, shape_of}
use Rattle.ts_answer.specs.Answer.{Answered, Tried, ◌>>=◌, outcome, carried_out, wanted, known, a_reading, clip_series, count_clip}
use Rattle.ts_answer.specs.Reply.{count_line, entries_text}
use Rattle.ts_answer.proofs.CallerLemmas.{on_ok, wanted-there}
use Rattle.ts_answer_laws.specs.ReadingLaws.{IsSeenAt, IsReached, CanStand, AreEntriesOf, ListsEntries, CountsAreOfClips}
use Rattle.ts_offset.specs.Shape.{IsLaidOut}
use Rattle.ts_answer_laws.proofs.RowLemmas.{Among, Rise, among_from, among_contains, among_place, place_among, among_filter, among_filtered, among_map, among_mapped, pairs_map, between_true, between_yes, not_false}
use Rattle.ts_answer_laws.proofs.SeenLemmas.{seen_later, seen_there, there_seen, among_found, found_among, reached, reached_by}
use Rattle.ts_answer_laws.proofs.CameLemmas.{came, same_answer}

-- the on starts of a grid from its origin on
pub starts_rise : (g : GridPlan) → IsLaid g.calendar → Rise (starts_of g)
starts_rise g laid = AllPairs-filter (λ a b. a <ℤ b) (λ x. not (int_lt x g.origin)) (on_starts g.calendar)
    (λ i j d below within.
    let xs = on_starts g.calendar in
    let few : i < length xs = omega (arith, below, within) in
    listed-rise g.calendar i j (get_or xs i d) (get_or xs j d) laid below (slice_get-get_or xs i d few) (slice_get-get_or xs j d within))

start_stands : (g : GridPlan) (start : ℤ) → Among start (starts_of g) → CanStand (shapes.Regular g) start
start_stands g start there =
    let kept = among_filtered (λ x. not (int_lt x g.origin)) (on_starts g.calendar) start there in
    let place = place_among (on_starts g.calendar) start kept.0 in
    (start-listed g.calendar start place.0 place.1, int_lt-false start g.origin (not_false (int_lt start g.origin) kept.1))

stands_start : (g : GridPlan) (start : ℤ) → IsLaid g.calendar → CanStand (shapes.Regular g) start → Among start (starts_of g)
stands_start g start laid stands =
    let listed = listed-start g.calendar start laid stands.0 in
    among_filter (λ x. not (int_lt x g.origin)) (on_starts g.calendar) start (among_place (on_starts g.calendar) listed.0 start listed.1) (ap not (int_lt_no start g.origin stands.1))

-- an entry between two stamps
abbrev is_between : ℤ → ℤ → Entry → Bool
is_between from to e = not (int_lt e.0 from) && not (int_lt to e.0)

module _ (s : Series) (from to : ℤ) where
  -- in an irregular series
  any_entries : AreEntriesOf s shapes.Irregular from to (clipped from to (reading shapes.Irregular (entries s.elements)))
  any_entries = record {
    rising = AllPairs-filter (λ (a b : Entry). a.0 <ℤ b.0) (is_between from to) (map filled (seen (entries s.elements)))
        (pairs_map filled (λ (a b : Entry). a.0 <ℤ b.0) (seen (entries s.elements)) (seen_later s.elements));
    within = λ e there. let kept = listed e there in let both = between_true from to e.0 kept.1 in (both.0, both.1, tt);
    theirs = λ stamp row there.
        let one = among_mapped filled (seen (entries s.elements)) (stamp, Some row) (listed (stamp, Some row) there).0 in
        seen_there s stamp row (subst (λ (e : Element). Among e (seen (entries s.elements))) (sym (same_one stamp row one.0 one.2)) one.1);
    each = λ stamp row at stands low high.
        among_contains _ (stamp, Some row)
        (among_filter (is_between from to) (map filled (seen (entries s.elements))) (stamp, Some row)
        (among_map filled (seen (entries s.elements)) (stamp, row) (there_seen s stamp row at)) (between_yes from to stamp low high));
    padded = no_empty;
    reached = λ stamp there. absurd (no_empty stamp there);
  } where
    listed : (e : Entry) → Contains (clipped from to (map filled (seen (entries s.elements)))) e → Among e (map filled (seen (entries s.elements))) × (is_between from to e ≡ true)
    listed e there = among_filtered (is_between from to) (map filled (seen (entries s.elements))) e (among_from _ e there)

    no_empty : (stamp : ℤ) → Contains (clipped from to (map filled (seen (entries s.elements)))) (stamp, None) → ⊥
    no_empty stamp there =
        let one = among_mapped filled (seen (entries s.elements)) (stamp, None) (listed (stamp, None) there).0 in
        let no = ap (λ (e : Entry). e.1) one.2 in
        (cc)

    same_one : (stamp : ℤ) (row : Row) (e : Element) → (let entry : Entry = (stamp, Some row) in entry ≡ filled e) → (stamp, row) ≡ e
    same_one stamp row e is = let same : row ≡ e.1 = let at = ap (λ (f : Entry). f.1) is in cc in let stood = ap (λ (f : Entry). f.0) is in λ i. (stood i, same i)

  -- on a grid
  module _ (g : GridPlan) (laid : IsLaid g.calendar) where
    starts_there : (start : ℤ) → Among start (starts_to_last g (seen (entries s.elements))) → CanStand (shapes.Regular g) start
    starts_there start there = start_stands g start (among_filtered (is_reached (last_of (seen (entries s.elements)))) (starts_of g) start there).0

    there_starts : (start last : ℤ) (row : Row) → IsSeenAt s last row → CanStand (shapes.Regular g) start → start ≤ℤ last → Among start (starts_to_last g (seen (entries s.elements)))
    there_starts start last row at stands before =
        among_filter (is_reached (last_of (seen (entries s.elements)))) (starts_of g) start (stands_start g start laid stands)
        (reached (seen (entries s.elements)) (last, row) (seen_later s.elements) (there_seen s last row at) start before)

    listed : (e : Entry) → Contains (clipped from to (reading (shapes.Regular g) (entries s.elements))) e
        → (start : ℤ) × Among start (starts_to_last g (seen (entries s.elements))) × (e ≡ entry_at (seen (entries s.elements)) start) × (is_between from to e ≡ true)
    listed e there =
        let kept = among_filtered (is_between from to) (map (entry_at (seen (entries s.elements))) (starts_to_last g (seen (entries s.elements)))) e (among_from _ e there) in
        let one = among_mapped (entry_at (seen (entries s.elements))) (starts_to_last g (seen (entries s.elements))) e kept.0 in
        (one.0, one.1, one.2, kept.1)

    there_listed : (start last : ℤ) (row : Row) → IsSeenAt s last row → CanStand (shapes.Regular g) start → start ≤ℤ last → from ≤ℤ start → start ≤ℤ to
        → Contains (clipped from to (reading (shapes.Regular g) (entries s.elements))) (entry_at (seen (entries s.elements)) start)
    there_listed start last row at stands before low high =
        among_contains _ (entry_at (seen (entries s.elements)) start)
        (among_filter (is_between from to) (map (entry_at (seen (entries s.elements))) (starts_to_last g (seen (entries s.elements)))) (entry_at (seen (entries s.elements)) start)
        (among_map (entry_at (seen (entries s.elements))) (starts_to_last g (seen (entries s.elements))) start (there_starts start last row at stands before)) (between_yes from to start low high))

    grid_entries : AreEntriesOf s (shapes.Regular g) from to (clipped from to (reading (shapes.Regular g) (entries s.elements)))
    grid_entries = record {
      rising = AllPairs-filter (λ (a b : Entry). a.0 <ℤ b.0) (is_between from to) (map (entry_at (seen (entries s.elements))) (starts_to_last g (seen (entries s.elements))))
          (pairs_map (entry_at (seen (entries s.elements))) (λ (a b : Entry). a.0 <ℤ b.0) (starts_to_last g (seen (entries s.elements)))
          (AllPairs-filter (λ a b. a <ℤ b) (is_reached (last_of (seen (entries s.elements)))) (starts_of g) (starts_rise g laid)));
      within = λ e there.
          let one = listed e there in
          let both = between_true from to e.0 one.3 in
          (both.0, both.1, subst (λ (t : ℤ). CanStand (shapes.Regular g) t) (sym (ap (λ (f : Entry). f.0) one.2)) (starts_there one.0 one.1));
      theirs = λ stamp row there.
          let one = listed (stamp, Some row) there in
          let at = ap (λ (f : Entry). f.0) one.2 in
          let is = ap (λ (f : Entry). f.1) one.2 in
          seen_there s stamp row (found_among stamp row (seen (entries s.elements)) (ap (λ (t : ℤ). find int_cmp t (seen (entries s.elements))) at ∙ sym is));
      each = λ stamp row at stands low high.
          let found = among_found stamp row (seen (entries s.elements)) (seen_later s.elements) (there_seen s stamp row at) in
          subst (λ (o : Option Row). Contains (clipped from to (reading (shapes.Regular g) (entries s.elements))) (stamp, o)) found
          (there_listed stamp stamp row at stands (omega (arith, ints)) low high);
      padded = λ start last row at stands before low high. (find int_cmp start (seen (entries s.elements)), there_listed start last row at stands before low high);
      reached = λ stamp there.
          let one = listed (stamp, None) there in
          let kept = among_filtered (is_reached (last_of (seen (entries s.elements)))) (starts_of g) one.0 one.1 in
          subst (IsReached s) (sym (ap (λ (f : Entry). f.0) one.2)) (reached_by s one.0 kept.1);
    }

entries_clipped : (s : Series) (shape : Shape) (from to : ℤ) → IsLaidOut shape → AreEntriesOf s shape from to (clipped from to (reading shape (entries s.elements)))
entries_clipped s shapes.Irregular from to laid = any_entries s from to
entries_clipped s (shapes.Regular g) from to laid = grid_entries s from to g laid

-- rows that are few enough
pub few_rows : {A : Type 0} (rows all : List A) → within_rows rows ≡ Ok all → rows ≡ all
few_rows rows all is = by (nat_lt 1_000_000 (length rows)) is
  where
    by : (b : Bool) → cond b (Err (refusals.TooLarge (length rows))) (Ok rows) ≡ Ok all → rows ≡ all
    by true is = absurd (cc)
    by false is = cc

many_rows : {A : Type 0} (rows : List A) (n : ℕ) → within_rows rows ≡ Err (refusals.TooLarge n) → length rows ≡ n
many_rows rows n is = by (nat_lt 1_000_000 (length rows)) is
  where
    by : (b : Bool) → cond b (Err (refusals.TooLarge (length rows))) (Ok rows) ≡ Err (refusals.TooLarge n) → length rows ≡ n
    by true is = cc
    by false is = absurd (cc)

-- what is read of a series whose shape is known
pub reading_there : (cat : Catalogue) (s : Series) (shape : Shape) → shape_of cat s.kind ≡ Some shape → a_reading s cat ≡ Ok (reading shape (entries s.elements))
unfolding a_reading
reading_there cat s shape is = on_ok (known (shape_of cat s.kind)) shape _ (ap known is)

pub clip_lists : (cat : Catalogue) (answered : Answered) (key : List ℕ) (from to : ℤ) (s : Series) (shape : Shape) → get cat.series key ≡ Some s
    → shape_of cat s.kind ≡ Some shape → IsLaidOut shape → outcome (Ok (commands.Clip key from to)) cat ≡ Ok answered → ListsEntries s shape from to cat answered
unfolding outcome carried_out clip_series
clip_lists cat answered key from to s shape there shaped laid is =
    let named = sym (on_ok (wanted key cat.series) s _ (wanted-there key cat.series s there)) ∙ is in
    let read = sym (on_ok (a_reading s cat) (reading shape (entries s.elements)) _ (reading_there cat s shape shaped)) ∙ named in
    let rows = came (within_rows (clipped from to (reading shape (entries s.elements)))) _ answered read in
    let same = few_rows (clipped from to (reading shape (entries s.elements))) rows.0 rows.1 in
    record {
      rows = rows.0;
      are = subst (AreEntriesOf s shape from to) same (entries_clipped s shape from to laid);
      lines = same_answer (entries_text (columns_of cat s) rows.0, cat) answered rows.2;
    }

-- a refusal that isn't that of the first test comes behind it
refused_behind : {A B : Type 0} (m : Tried A) (f : A → Tried B) (why : Refusal) → (m ≡ Err why → ⊥) → (m >>= f) ≡ Err why → (a : A) × (m ≡ Ok a) × (f a ≡ Err why)
unfolding ◌>>=◌
refused_behind (Ok a) f why other is = (a, refl, is)
refused_behind (Err refusal) f why other is = absurd (other (let same : refusal ≡ why = cc in ap Err same))

refused_last : {A B : Type 0} (m : Tried A) (f : A → B) (why : Refusal) → (m >>= (λ a. Ok (f a))) ≡ Err why → m ≡ Err why
unfolding ◌>>=◌
refused_last (Ok a) f why is = absurd (cc)
refused_last (Err refusal) f why is = let same : refusal ≡ why = cc in ap Err same

never_large : {X : Type 0} (o : Option X) (rows : ℕ) → known o ≡ Err (refusals.TooLarge rows) → ⊥
never_large (Some x) rows is = cc
never_large None rows is = cc

name_not_large : (key : List ℕ) (cat : Catalogue) (rows : ℕ) → wanted key cat.series ≡ Err (refusals.TooLarge rows) → ⊥
unfolding wanted
name_not_large key cat rows is = never_large (get cat.series key) rows is

shape_not_large : (s : Series) (cat : Catalogue) (rows : ℕ) → a_reading s cat ≡ Err (refusals.TooLarge rows) → ⊥
unfolding a_reading
shape_not_large s cat rows is =
    never_large (shape_of cat s.kind) rows (refused_last (known (shape_of cat s.kind)) (λ shape. reading shape (entries s.elements)) (refusals.TooLarge rows) is)

-- the same rows are counted
pub clip_counted_so : CountsAreOfClips
unfolding outcome carried_out clip_series count_clip
clip_counted_so = record {
  listed = λ cat answered key from to is.
      let named = came (wanted key cat.series) _ answered is in
      let read = came (a_reading named.0 cat) _ answered named.2 in
      let rows = came (within_rows (clipped from to read.0)) _ answered read.2 in
      let same = few_rows (clipped from to read.0) rows.0 rows.1 in
      let counted : Answered = (count_line (length (clipped from to read.0)), cat) in (
        counted,
        on_ok (wanted key cat.series) named.0 _ named.1 ∙ on_ok (a_reading named.0 cat) read.0 _ read.1,
        record {
          columns = columns_of cat named.0;
          rows = rows.0;
          lines = same_answer (entries_text (columns_of cat named.0) rows.0, cat) answered rows.2;
          count = ap (λ (l : List Entry). let line : Answered = (count_line (length l), cat) in line) same;
        },
      );
  large = λ cat key from to rows is.
      let named = refused_behind (wanted key cat.series) _ (refusals.TooLarge rows) (name_not_large key cat rows) is in
      let read = refused_behind (a_reading named.0 cat) _ (refusals.TooLarge rows) (shape_not_large named.0 cat rows) named.2 in
      let many = many_rows (clipped from to read.0) rows (refused_last (within_rows (clipped from to read.0)) (λ (all : List Entry). let line : Answered = (entries_text (columns_of cat named.0) all, cat) in line) (refusals.TooLarge rows) read.2) in
      on_ok (wanted key cat.series) named.0 _ named.1 ∙ on_ok (a_reading named.0 cat) read.0 _ read.1
      ∙ ap (λ (n : ℕ). let line : Tried Answered = Ok (count_line n, cat) in line) many;
}
