-- What Union and Intersect list: by the stamps of elements, and by the starts of grids.
use Rattle.std.specs.Prelude.{AllPairs, Result, int_lt}
use Rattle.std.proofs.Common.{◌≡◌, ◌⊎◌, ℕ, zero, suc, ℤ, pos, negsuc, ◌≤ℤ◌, ◌<ℤ◌, ◌-◌, ◌%◌, ◌<◌, Bool, true, false, cond, not, ◌&&◌, ◌||◌, Option, Some, None, is_some, option_map, Ok, Err, List, [], ◌∷◌, ◌++◌, map, length, get_or, refl, sym, ap, subst, ◌∙◌, arith, inl, inr}
use Rattle.std.specs.Int.{int_max}
use Rattle.std.proofs.lemmas.Int.{ints, clamps}
use Rattle.std.proofs.lemmas.Bool.{and_parts}
use Rattle.std.proofs.lemmas.List.{length-map}
use Rattle.std.proofs.lemmas.List.Kept.{AllPairs-filter}
use Rattle.std.specs.Cmp.{int_cmp_total}
use Rattle.std.specs.Ordering.{eq_by_cmp, int_cmp}
use Rattle.std.specs.FinMap.{entries, find, get, get-entries, get-from_entries, int_cmp-IsAntisymmetric}
use Rattle.ts_base.specs.Moment.{IsStamp}
use Rattle.ts_base.specs.declared.unit.Unit as unit
use Rattle.ts_base.specs.declared.refusal.Refusal.{Refusal}
use Rattle.ts_row.specs.Row.{Row, Element}
use Rattle.ts_pattern.specs.declared.junction.Junction.{Junction}
use Rattle.ts_pattern.specs.declared.junction.Junction.TheVariants.{And, Or}
use Rattle.ts_pattern.specs.Patterns.{flag, smaller_unit}
use Rattle.ts_pattern.proofs.RunLemmas.{lt_yes}
use Rattle.ts_calendar.specs.Calendars.{CalendarPlan, common_grid, IsLaid, start_in, start_at, starts_from}
use Rattle.ts_calendar.specs.declared.grid.CommonGrid.{CommonGrid}
use Rattle.ts_calendar.proofs.JoinedLemmas.{grid-parts}
use Rattle.ts_calendar.proofs.LawLemmas.{steps-lead}
use Rattle.ts_calendar.proofs.StampLemmas.{int_lt_no, int_lt-false}
use Rattle.ts_calendar.proofs.ValidLemmas.{early-smaller}
use Rattle.ts_offset.specs.Grid.{IsOnStart, on_starts, starts_between, GridPlan, held_start}
use Rattle.ts_offset.specs.declared.shape.Shape.{Shape}
use Rattle.ts_offset.specs.declared.shape.Shape.TheVariants as shapes
use Rattle.ts_offset.proofs.ListedLemmas.{listed-start, start-listed, listed-rise}
use Rattle.ts_irregular.specs.Edit.{element_at}
use Rattle.ts_base.specs.Answer.{within_rows}
use Rattle.ts_combine.specs.Combine.{Side, by_stamp, merged_stamps, stamps_between, every_start, row_around, is_kept, rows_on, rows_there, joined_there, joined_on, joined_of, joined}
use Rattle.ts_model.specs.Catalogue.{SeriesKind, Irregular, Regular, Series, Catalogue, calendar_named, columns_of, shape_of}
use Rattle.ts_answer.specs.Answer.{Answered, outcome, carried_out, wanted, known, join_series}
use Rattle.ts_answer.specs.Elements.{a_side, seen_elements}
use Rattle.ts_answer.specs.Reply.{elements_text}
use Rattle.ts_answer.proofs.CallerLemmas.{on_ok, wanted-there}
use Rattle.ts_answer_laws.specs.ReadingLaws.{OneIsIrregular}
use Rattle.ts_offset.specs.Shape.{IsLaidOut}
use Rattle.ts_catalogue_laws.specs.Catalogue.{IsCatalogue}
use Rattle.ts_catalogue_laws.specs.JoinLaws.{SeenAt, SeenAround, IsCommonStart, ListsByStamps, ListsByStarts, SpreadsFirst, SpreadsSecond, BothAreRegular, JoinsListBoth}
use Rattle.ts_catalogue_laws.proofs.OnceLemmas.{rising}
use Rattle.ts_catalogue_laws.proofs.ListLemmas.{Among, one_of, found_among, among_filter, among_filtered, among_place, place_among}
use Rattle.ts_catalogue_laws.proofs.StampLemmas.{start_stamp}
use Rattle.ts_catalogue_laws.proofs.JoinLemmas.{same_answer, passes, placed, few_rows, at_stamp, stamp_at_is, around, around_is, tests_within, within_tests, lists}
use Rattle.ts_catalogue_laws.proofs.CommandLemmas.{came, known_is, shape_laid}

-- by stamps: what is found in one of two lists is found in both together
front_found : (stamp : ℤ) (row : Row) (es fs : List Element) → find int_cmp stamp es ≡ Some row → find int_cmp stamp (es ++ fs) ≡ Some row
front_found stamp row [] fs there = absurd (let never : ⊥ = cc in never)
front_found stamp row (e ∷ es) fs there = elim (eq_by_cmp int_cmp stamp e.0) as (λ (b : Bool). cond b (Some e.1) (find int_cmp stamp es) ≡ Some row → cond b (Some e.1) (find int_cmp stamp (es ++ fs)) ≡ Some row) [
  | true ↦ λ is. is
  | false ↦ λ is. front_found stamp row es fs is
] there

back_found : (stamp : ℤ) (row : Row) (es fs : List Element) → find int_cmp stamp fs ≡ Some row → (other : Row) × (find int_cmp stamp (es ++ fs) ≡ Some other)
back_found stamp row [] fs there = (row, there)
back_found stamp row (e ∷ es) fs there = elim (eq_by_cmp int_cmp stamp e.0) as (λ (b : Bool). (other : Row) × (cond b (Some e.1) (find int_cmp stamp (es ++ fs)) ≡ Some other)) [
  | true ↦ (e.1, refl)
  | false ↦ back_found stamp row es fs there
]

among_map : {X Y : Type 0} (f : X → Y) (xs : List X) (x : X) → Among x xs → Among (f x) (map f xs)
among_map f [] x there = absurd there
among_map f (y ∷ ys) x (inl is) = inl (ap f is)
among_map f (y ∷ ys) x (inr there) = inr (among_map f ys x there)

map_pairs : {X Y : Type 0} (R : Y → Y → Type 0) (f : X → Y) (xs : List X) → AllPairs (λ x z. R (f x) (f z)) xs → AllPairs R (map f xs)
map_pairs {X} {Y} R f xs pairs = λ i j d low within.
    let j_in : j < length xs = omega (arith, within, length-map xs f) in
    let i_in : i < length xs = omega (arith, low, j_in) in
    let a = at_map f xs i d i_in in
    let b = at_map f xs j d j_in in
    subst (λ (y : Y). R y (get_or (map f xs) j d)) (sym a.1) (subst (λ (y : Y). R (f a.0) y) (sym b.1)
    (subst (λ (x : X). R (f x) (f b.0)) (a.2 a.0) (subst (λ (x : X). R (f (get_or xs i a.0)) (f x)) (b.2 a.0) (pairs i j a.0 low j_in)))) where
      at_map : {X Y : Type 0} (f : X → Y) (xs : List X) (k : ℕ) (d : Y) → k < length xs → (x : X) × (get_or (map f xs) k d ≡ f x) × ((e : X) → get_or xs k e ≡ x)
      at_map f [] k d low = absurd (omega (arith, low))
      at_map f (x ∷ xs) zero d low = (x, refl, λ e. refl)
      at_map f (x ∷ xs) (suc k) d low = at_map f xs k d (omega (arith, low))

module _ (junction : Junction) (cat : Catalogue) (a b : Series) (shape other : Shape) (from to : ℤ) where
  abbrev es : List Element
  es = seen_elements a.elements

  abbrev fs : List Element
  fs = seen_elements b.elements

  abbrev all_stamps : List ℤ
  all_stamps = merged_stamps es fs

  merged : (stamp : ℤ) (row : Row) → find int_cmp stamp (es ++ fs) ≡ Some row → Among stamp all_stamps
  merged stamp row there =
      let m = by_stamp (es ++ fs) in
      among_map (λ (e : Element). e.0) (entries m) (stamp, row) (found_among int_cmp int_cmp-IsAntisymmetric stamp row (entries m) (sym (get-entries m stamp) ∙ get-from_entries int_cmp_total (es ++ fs) stamp ∙ there))

  kept_listed : (stamp : ℤ) (x y : Option Row) → element_at stamp es ≡ x → element_at stamp fs ≡ y → is_kept junction x y ≡ true → Among stamp all_stamps
  kept_listed stamp (Some row) y one two kept = merged stamp row (front_found stamp row es fs one)
  kept_listed stamp None (Some row) one two kept = let found = back_found stamp row es fs two in merged stamp found.0 found.1
  kept_listed stamp None None one two kept = absurd (never junction kept) where
    never : (junction : Junction) → is_kept {A = Row} junction None None ≡ true → ⊥
    never And is = let no : ⊥ = cc in no
    never Or is = let no : ⊥ = cc in no

  stamps_rise : AllPairs (λ (x y : ℤ). x <ℤ y) (stamps_between from to all_stamps)
  stamps_rise = AllPairs-filter (λ (x y : ℤ). x <ℤ y) (λ (s : ℤ). not (int_lt s from) && not (int_lt to s)) all_stamps (map_pairs (λ (x y : ℤ). x <ℤ y) (λ (e : Element). e.0) (entries (by_stamp (es ++ fs))) (rising (by_stamp (es ++ fs))))

  by_stamps : (answered : Answered) (rows : List Element) → joined_there junction (a_side a shape cat) (a_side b other cat) from to ≡ Ok rows → answered ≡ (elements_text (columns_of cat a ++ columns_of cat b) rows, cat)
      → ListsByStamps junction from to a b cat answered
  by_stamps answered rows is line =
      lists junction cat a b shape other from to (stamps_between from to all_stamps) (λ stamp. Unit {0}) (SeenAt a) (SeenAt b) (λ stamp. element_at stamp es) (λ stamp. element_at stamp fs)
      stamps_rise
      (λ stamp there. let w = tests_within from to stamp (passes (λ (s : ℤ). not (int_lt s from) && not (int_lt to s)) all_stamps stamp there) in (tt, w.0, w.1))
      (λ stamp at. at_stamp a stamp (element_at stamp es) refl)
      (λ stamp at. at_stamp b stamp (element_at stamp fs) refl)
      (λ stamp x at is. stamp_at_is a stamp x is)
      (λ stamp x at is. stamp_at_is b stamp x is)
      (λ stamp at low high kept. among_filter (λ (s : ℤ). not (int_lt s from) && not (int_lt to s)) all_stamps stamp (kept_listed stamp (element_at stamp es) (element_at stamp fs) refl refl kept) (within_tests from to stamp low high))
      answered
      (line ∙ ap (λ (l : List Element). (elements_text (columns_of cat a ++ columns_of cat b) l, cat)) (sym (few_rows (rows_there junction (a_side a shape cat) (a_side b other cat) from to) rows is)))

-- by starts
always : (k : ℤ) → flag (record { on = true; count = 1 } ∷ []) k ≡ true
always (pos n) = let small : n % 1 < 1 = omega arith in ap (λ t. cond t true false) (lt_yes (n % 1) 1 small)
always (negsuc n) = let small : 1 - 1 - n % 1 < 1 = omega arith in ap (λ t. cond t true false) (lt_yes (1 - 1 - n % 1) 1 small)

module _ (c d : CalendarPlan) (grid : CommonGrid) (laid : IsLaid c) (is : common_grid c d ≡ Ok grid) where
  abbrev every : CalendarPlan
  every = every_start c d grid

  every_laid : IsLaid every
  every_laid = record { stamp = laid.stamp; early = early-smaller c.pattern.unit d.pattern.unit grid.unit c.patt_start (grid-parts c d grid is).0 laid.early }

  common_of : (stamp : ℤ) → IsOnStart every stamp → IsCommonStart c d stamp
  common_of stamp on =
      let parts = grid-parts c d grid is in
      let tests = and_parts (starts_from every.start (start_at every on.interval)) (flag every.pattern.runs on.interval) on.on in
      let late : starts_from every.start (Some stamp) ≡ true = sym (ap (starts_from every.start) on.start) ∙ tests.0 in
      let after : int_max c.start d.start ≤ℤ stamp = int_lt-false stamp (int_max c.start d.start) (off (int_lt stamp (int_max c.start d.start)) late) in
      record {
        unit = grid.unit;
        smaller = parts.0;
        steps = grid.steps;
        aligned = steps-lead grid.unit c.patt_start d.patt_start grid.steps parts.1;
        number = on.interval;
        start = on.start;
        after_first = omega (arith, ints, clamps, after);
        after_second = omega (arith, ints, clamps, after);
      } where
        off : (b : Bool) → not b ≡ true → b ≡ false
        off true is = absurd (let never : ⊥ = cc in never)
        off false is = refl

  of_common : (stamp : ℤ) → IsCommonStart c d stamp → IsOnStart every stamp
  of_common stamp at =
      let parts = grid-parts c d grid is in
      let same : at.unit ≡ grid.unit = one_of (smaller_unit c.pattern.unit d.pattern.unit) at.unit grid.unit at.smaller parts.0 in
      let start : start_at every at.number ≡ Some stamp = subst (λ (u : unit.Unit). start_in u c.patt_start at.number ≡ Some stamp) same at.start in
      let first = at.after_first in
      let second = at.after_second in
      let after : every.start ≤ℤ stamp = omega (arith, ints, clamps, first, second) in
      record {
        interval = at.number;
        on = ap (λ (o : Option ℤ). starts_from every.start o && flag every.pattern.runs at.number) start ∙ ap (λ (t : Bool). not t && flag every.pattern.runs at.number) (int_lt_no stamp every.start after) ∙ always at.number;
        start = start;
      }

  starts_rise : AllPairs (λ (x y : ℤ). x <ℤ y) (on_starts every)
  starts_rise = λ i j d low within.
      let i_in : i < length (on_starts every) = omega (arith, low, within) in
      listed-rise every i j (get_or (on_starts every) i d) (get_or (on_starts every) j d) every_laid low (placed (on_starts every) i d i_in) (placed (on_starts every) j d within)

  common_listed : (stamp : ℤ) → IsCommonStart c d stamp → Among stamp (on_starts every)
  common_listed stamp at = let place = listed-start every stamp every_laid (of_common stamp at) in among_place (on_starts every) place.0 stamp place.1

  listed_common : (stamp : ℤ) → Among stamp (on_starts every) → IsCommonStart c d stamp
  listed_common stamp there = let place = place_among (on_starts every) stamp there in common_of stamp (start-listed every stamp place.0 place.1)

  common_stamp : (stamp : ℤ) → IsCommonStart c d stamp → IsStamp stamp
  common_stamp stamp at = start_stamp every stamp every_laid (of_common stamp at)

module _ (junction : Junction) (cat : Catalogue) (a b : Series) (g h : GridPlan) (laid : IsLaid g.calendar) (other_laid : IsLaid h.calendar) (from to : ℤ) (grid : CommonGrid) (is : common_grid g.calendar h.calendar ≡ Ok grid) where
  abbrev line : CalendarPlan
  line = every_start g.calendar h.calendar grid

  by_starts : (answered : Answered) (rows : List Element) → within_rows (rows_on junction (a_side a (shapes.Regular g) cat) g (a_side b (shapes.Regular h) cat) h from to grid) ≡ Ok rows
      → answered ≡ (elements_text (columns_of cat a ++ columns_of cat b) rows, cat) → ListsByStarts junction g h from to a b cat answered
  by_starts answered rows few line_is =
      let test : ℤ → Bool = λ s. not (int_lt s from) && not (int_lt to s) in
      lists junction cat a b (shapes.Regular g) (shapes.Regular h) from to (starts_between line from to) (IsCommonStart g.calendar h.calendar) (SeenAround g.calendar a) (SeenAround h.calendar b)
      (row_around g (seen_elements a.elements)) (row_around h (seen_elements b.elements))
      (AllPairs-filter (λ (x y : ℤ). x <ℤ y) test (on_starts line) (starts_rise g.calendar h.calendar grid laid is))
      (λ stamp there. let w = tests_within from to stamp (passes test (on_starts line) stamp there) in (listed_common g.calendar h.calendar grid laid is stamp (among_filtered test (on_starts line) stamp there), w.0, w.1))
      (λ stamp at. around a g laid stamp (held_start g.calendar stamp) (row_around g (seen_elements a.elements) stamp) (common_stamp g.calendar h.calendar grid laid is stamp at) refl refl)
      (λ stamp at. around b h other_laid stamp (held_start h.calendar stamp) (row_around h (seen_elements b.elements) stamp) (common_stamp g.calendar h.calendar grid laid is stamp at) refl refl)
      (λ stamp x at so. around_is a g laid stamp x (common_stamp g.calendar h.calendar grid laid is stamp at) so)
      (λ stamp x at so. around_is b h other_laid stamp x (common_stamp g.calendar h.calendar grid laid is stamp at) so)
      (λ stamp at low high kept. among_filter test (on_starts line) stamp (common_listed g.calendar h.calendar grid laid is stamp at) (within_tests from to stamp low high))
      answered
      (line_is ∙ ap (λ (l : List Element). (elements_text (columns_of cat a ++ columns_of cat b) l, cat)) (sym (few_rows (rows_on junction (a_side a (shapes.Regular g) cat) g (a_side b (shapes.Regular h) cat) h from to grid) rows few)))

  some_or : (b : Bool) → (b || true) ≡ true
  some_or true = refl
  some_or false = refl

  first_spread : (answered : Answered) (l : ListsByStarts Or g h from to a b cat answered) → SpreadsFirst g h from to a b cat l.rows
  first_spread answered l stamp start row at low high held seen =
      let y = row_around h (seen_elements b.elements) stamp in
      let there = around b h other_laid stamp (held_start h.calendar stamp) y (common_stamp g.calendar h.calendar grid laid is stamp at) refl refl in
      (y, l.each stamp (Some row) y at low high (start, held, seen) there refl)

  second_spread : (answered : Answered) (l : ListsByStarts Or g h from to a b cat answered) → SpreadsSecond g h from to a b cat l.rows
  second_spread answered l stamp start row at low high held seen =
      let x = row_around g (seen_elements a.elements) stamp in
      let there = around a g laid stamp (held_start g.calendar stamp) x (common_stamp g.calendar h.calendar grid laid is stamp at) refl refl in
      (x, l.each stamp x (Some row) at low high there (start, held, seen) (some_or (is_some x)))

-- what was joined
record IsJoined (junction : Junction) (cat : Catalogue) (a b : Series) (from to : ℤ) (answered : Answered) : Type 0 where
  shape : Shape
  other : Shape
  shape_is : shape_of cat a.kind ≡ Some shape
  other_is : shape_of cat b.kind ≡ Some other
  rows : List Element
  joined : joined_of junction (a_side a shape cat) (a_side b other cat) shape other from to ≡ Ok rows
  line : answered ≡ (elements_text (columns_of cat a ++ columns_of cat b) rows, cat)

is_joined : (junction : Junction) (cat : Catalogue) (answered : Answered) (first second : List ℕ) (from to : ℤ) (a b : Series) → get cat.series first ≡ Some a → get cat.series second ≡ Some b
    → join_series junction first second from to cat ≡ Ok answered → IsJoined junction cat a b from to answered
unfolding join_series
is_joined junction cat answered first second from to a b one two is =
    let named = sym (on_ok (wanted first cat.series) a _ (wanted-there first cat.series a one)) ∙ is in
    let both = sym (on_ok (wanted second cat.series) b _ (wanted-there second cat.series b two)) ∙ named in
    let shape = came (known (shape_of cat a.kind)) _ answered both in
    let other = came (known (shape_of cat b.kind)) _ answered shape.2 in
    let rows = came (joined junction (a_side a shape.0 cat) (a_side b other.0 cat) from to) _ answered other.2 in
    record {
      shape = shape.0;
      other = other.0;
      shape_is = known_is (shape_of cat a.kind) shape.0 shape.1;
      other_is = known_is (shape_of cat b.kind) other.0 other.1;
      rows = rows.0;
      joined = rows.1;
      line = same_answer (elements_text (columns_of cat a ++ columns_of cat b) rows.0, cat) answered rows.2;
    }

irregular_is : (cat : Catalogue) (kind : SeriesKind) (shape : Shape) → kind ≡ Irregular → shape_of cat kind ≡ Some shape → shape ≡ shapes.Irregular
irregular_is cat Irregular shape is lies = let same : shapes.Irregular ≡ shape = cc in sym same
irregular_is cat (Regular calendar origin) shape is lies = absurd (let never : ⊥ = cc in never)

is_irregular : (cat : Catalogue) (kind : SeriesKind) (shape : Shape) → shape ≡ shapes.Irregular → shape_of cat kind ≡ Some shape → kind ≡ Irregular
is_irregular cat Irregular shape is lies = refl
is_irregular cat (Regular calendar origin) shape is lies = absurd (by (calendar_named cat calendar) (lies ∙ ap Some is)) where
  by : (o : Option CalendarPlan) → option_map (λ (plan : CalendarPlan). shapes.Regular (record { calendar = plan; origin = origin })) o ≡ Some shapes.Irregular → ⊥
  by None at = let never : ⊥ = cc in never
  by (Some plan) at = let never : ⊥ = cc in never

there_of : (junction : Junction) (a b : Side) (x y : Shape) (from to : ℤ) → (x ≡ shapes.Irregular) ⊎ (y ≡ shapes.Irregular) → joined_of junction a b x y from to ≡ joined_there junction a b from to
there_of junction a b (shapes.Regular g) (shapes.Regular h) from to (inl one) = absurd (let never : ⊥ = cc in never)
there_of junction a b (shapes.Regular g) (shapes.Regular h) from to (inr other) = absurd (let never : ⊥ = cc in never)
there_of junction a b (shapes.Regular g) shapes.Irregular from to one = refl
there_of junction a b shapes.Irregular (shapes.Regular h) from to one = refl
there_of junction a b shapes.Irregular shapes.Irregular from to one = refl

stamps_listed : (junction : Junction) (cat : Catalogue) (answered : Answered) (first second : List ℕ) (from to : ℤ) (a b : Series) → get cat.series first ≡ Some a → get cat.series second ≡ Some b → OneIsIrregular a b
    → join_series junction first second from to cat ≡ Ok answered → ListsByStamps junction from to a b cat answered
stamps_listed junction cat answered first second from to a b one two irregular is =
    let j = is_joined junction cat answered first second from to a b one two is in
    let off : (j.shape ≡ shapes.Irregular) ⊎ (j.other ≡ shapes.Irregular) = elim irregular [ inl i ↦ inl (irregular_is cat a.kind j.shape i j.shape_is) | inr i ↦ inr (irregular_is cat b.kind j.other i j.other_is) ] in
    by_stamps junction cat a b j.shape j.other from to answered j.rows (sym (there_of junction (a_side a j.shape cat) (a_side b j.other cat) j.shape j.other from to off) ∙ j.joined) j.line

-- two grids that were joined
record AreGrids (junction : Junction) (cat : Catalogue) (a b : Series) (from to : ℤ) (answered : Answered) : Type 0 where
  g : GridPlan
  h : GridPlan
  g_is : shape_of cat a.kind ≡ Some (shapes.Regular g)
  h_is : shape_of cat b.kind ≡ Some (shapes.Regular h)
  g_laid : IsLaid g.calendar
  h_laid : IsLaid h.calendar
  grid : CommonGrid
  common : common_grid g.calendar h.calendar ≡ Ok grid
  rows : List Element
  joined : within_rows (rows_on junction (a_side a (shapes.Regular g) cat) g (a_side b (shapes.Regular h) cat) h from to grid) ≡ Ok rows
  line : answered ≡ (elements_text (columns_of cat a ++ columns_of cat b) rows, cat)

grids_of : (junction : Junction) (cat : Catalogue) (a b : Series) (from to : ℤ) (answered : Answered) (shape other : Shape) (rows : List Element) → BothAreRegular a b
    → shape_of cat a.kind ≡ Some shape → shape_of cat b.kind ≡ Some other → IsLaidOut shape → IsLaidOut other
    → joined_of junction (a_side a shape cat) (a_side b other cat) shape other from to ≡ Ok rows → answered ≡ (elements_text (columns_of cat a ++ columns_of cat b) rows, cat) → AreGrids junction cat a b from to answered
grids_of junction cat a b from to answered shapes.Irregular other rows regular one two laid other_laid is line = absurd (regular (inl (is_irregular cat a.kind shapes.Irregular refl one)))
grids_of junction cat a b from to answered (shapes.Regular g) shapes.Irregular rows regular one two laid other_laid is line = absurd (regular (inr (is_irregular cat b.kind shapes.Irregular refl two)))
grids_of junction cat a b from to answered (shapes.Regular g) (shapes.Regular h) rows regular one two laid other_laid is line = by (common_grid g.calendar h.calendar) refl is where
  by : (r : Result CommonGrid Refusal) → common_grid g.calendar h.calendar ≡ r → joined_on junction (a_side a (shapes.Regular g) cat) g (a_side b (shapes.Regular h) cat) h from to r ≡ Ok rows → AreGrids junction cat a b from to answered
  by (Err why) common is = absurd (let never : ⊥ = cc in never)
  by (Ok grid) common is = record { g = g; h = h; g_is = one; h_is = two; g_laid = laid; h_laid = other_laid; grid = grid; common = common; rows = rows; joined = is; line = line }

are_grids : (junction : Junction) (cat : Catalogue) (answered : Answered) (first second : List ℕ) (from to : ℤ) (a b : Series) → IsCatalogue cat → get cat.series first ≡ Some a → get cat.series second ≡ Some b → BothAreRegular a b
    → join_series junction first second from to cat ≡ Ok answered → AreGrids junction cat a b from to answered
are_grids junction cat answered first second from to a b good one two regular is =
    let j = is_joined junction cat answered first second from to a b one two is in
    let x = good.series first a one in
    let y = good.series second b two in
    let laid = subst IsLaidOut (one_of (shape_of cat a.kind) x.shape j.shape x.shape_there j.shape_is) (shape_laid cat good first a one) in
    let other_laid = subst IsLaidOut (one_of (shape_of cat b.kind) y.shape j.other y.shape_there j.other_is) (shape_laid cat good second b two) in
    grids_of junction cat a b from to answered j.shape j.other j.rows regular j.shape_is j.other_is laid other_laid j.joined j.line

starts_listed : (junction : Junction) (cat : Catalogue) (a b : Series) (from to : ℤ) (answered : Answered) (j : AreGrids junction cat a b from to answered) → ListsByStarts junction j.g j.h from to a b cat answered
starts_listed junction cat a b from to answered j = by_starts junction cat a b j.g j.h j.g_laid j.h_laid from to j.grid j.common answered j.rows j.joined j.line

pub joins_list : JoinsListBoth
unfolding outcome carried_out
joins_list = record {
  union = λ cat answered first second from to a b one two irregular is. stamps_listed Or cat answered first second from to a b one two irregular is;
  intersection = λ cat answered first second from to a b one two irregular is. stamps_listed And cat answered first second from to a b one two irregular is;
  union_of_grids = λ cat answered first second from to a b good one two regular is.
      let j = are_grids Or cat answered first second from to a b good one two regular is in
      let l = starts_listed Or cat a b from to answered j in
      record {
        first = j.g;
        second = j.h;
        first_is = j.g_is;
        second_is = j.h_is;
        so = record {
          lists = l;
          first_spreads = first_spread Or cat a b j.g j.h j.g_laid j.h_laid from to j.grid j.common answered l;
          second_spreads = second_spread Or cat a b j.g j.h j.g_laid j.h_laid from to j.grid j.common answered l;
        };
      };
  intersection_of_grids = λ cat answered first second from to a b good one two regular is.
      let j = are_grids And cat answered first second from to a b good one two regular is in
      record { first = j.g; second = j.h; first_is = j.g_is; second_is = j.h_is; so = starts_listed And cat a b from to answered j };
}
