-- Elements outside a range play no part in what is joined in it.
use Rattle.std.proofs.Common.{◌≡◌, ◌∙◌, ℕ, Bool, true, false, ◌&&◌, not, cond, ℤ, pos, ◌+ℤ◌, ◌<ℤ◌, ◌≤ℤ◌, Option, Some, None, option_and_then, Result, Ok, Err, List, [], ◌∷◌, ◌++◌, map, filter, filter_map, refl, sym, ap, arith}
use Rattle.std.specs.Prelude.{int_lt}
use Rattle.std.specs.List.{cons_option}
use Rattle.std.specs.Ordering.{int_cmp}
use Rattle.std.specs.Cmp.{int_cmp_total}
use Rattle.std.specs.FinMap.{entries, entries_sorted, get-entries, get-from_entries, int_cmp-IsAntisymmetric}
use Rattle.std.specs.FinMap.Entries.{find-where_key, is_sorted-where_key, same_entries}
use Rattle.std.proofs.lemmas.Bool.{and_parts}
use Rattle.std.proofs.lemmas.Int.{by_lt_z, ints}
use Rattle.std.proofs.lemmas.List.Elements.{filter-append}
use Rattle.std.proofs.lemmas.Option.{same_Some}
use Rattle.ts_base.specs.Moment.{IsStamp, is_between}
use Rattle.ts_base.specs.declared.refusal.Refusal.{Refusal}
use Rattle.ts_base.specs.declared.refusal.Refusal.TheVariants.{BeforeOrigin}
use Rattle.ts_row.specs.Row.{Row, Element}
use Rattle.ts_irregular.specs.Edit.{element_at}
use Rattle.ts_base.specs.Answer.{within_rows}
use Rattle.ts_calendar.specs.Calendars.{CalendarPlan, common_grid, IsLaid, IsBefore, start_at}
use Rattle.ts_calendar.specs.declared.grid.CommonGrid.{CommonGrid}
use Rattle.ts_calendar.proofs.StampLemmas.{int_lt_no, int_lt-false}
use Rattle.ts_offset.specs.Grid.{GridPlan, held_start, stamp_of, starts_of, starts_before, offset_at, offset_of, on_starts}
use Rattle.ts_offset.specs.declared.shape.Shape.{Shape}
use Rattle.ts_offset.specs.declared.shape.Shape.TheVariants.{Irregular, Regular}
use Rattle.ts_offset.proofs.OwnLemmas.{held-from, from-held}
use Rattle.ts_pattern.specs.declared.junction.Junction.{Junction}
use Rattle.ts_combine.specs.Combine.{Side, by_stamp, merged_stamps, stamps_between, every_start, row_around, joined_at, joined_on, joined_there, joined_of, joined}
use Rattle.ts_combine.specs.Series.{IsStartOf, AreOnStarts, IsSeries, IsEnough, side_within}
use Rattle.ts_offset.specs.Shape.{IsLaidOut}
use Rattle.ts_combine.proofs.RisingLemmas.{risen-kept, kept-one, one-at}
use Rattle.ts_combine.proofs.OrderLemmas.{rising-risen, risen-rising}

-- the elements whose stamps pass
abbrev passing : (ℤ → Bool) → List Element → List Element
passing p es = filter (λ e. p e.0) es

-- an element at a stamp that passes
at-passing : (p : ℤ → Bool) (s : ℤ) (es : List Element) → element_at s (passing p es) ≡ cond (p s) (element_at s es) None
at-passing p s es = find-where_key int_cmp p s (λ x same. ap p (sym (int_cmp-IsAntisymmetric s x same))) es

-- the map of elements that pass
entries-passing : (p : ℤ → Bool) (es : List Element) → entries (by_stamp (passing p es)) ≡ passing p (entries (by_stamp es))
entries-passing p es = same_entries int_cmp int_cmp_total int_cmp-IsAntisymmetric (entries (by_stamp (passing p es))) (passing p (entries (by_stamp es)))
    (entries_sorted (by_stamp (passing p es))) (is_sorted-where_key int_cmp p (entries (by_stamp es)) (entries_sorted (by_stamp es)))
    (λ q. sym (get-entries (by_stamp (passing p es)) q) ∙ get-from_entries int_cmp_total (passing p es) q ∙ at-passing p q es
    ∙ ap (λ o. cond (p q) o None) (sym (sym (get-entries (by_stamp es) q) ∙ get-from_entries int_cmp_total es q)) ∙ sym (at-passing p q (entries (by_stamp es))))

stamps-passing : (p : ℤ → Bool) (es : List Element) → filter p (map (λ e. e.0) es) ≡ map (λ e. e.0) (passing p es)
stamps-passing p [] = refl
stamps-passing p (e ∷ es) = by (p e.0) (stamps-passing p es) where
  by : (b : Bool) → filter p (map (λ e. e.0) es) ≡ map (λ e. e.0) (passing p es)
      → cond b (e.0 ∷ filter p (map (λ e. e.0) es)) (filter p (map (λ e. e.0) es)) ≡ map (λ e. e.0) (cond b (e ∷ passing p es) (passing p es))
  by true rest = ap (λ l. e.0 ∷ l) rest
  by false rest = rest

-- of elements that pass a wider test those that pass a narrower one are the same
passing-twice : (p q : ℤ → Bool) (es : List Element) → ((s : ℤ) → p s ≡ true → q s ≡ true) → passing p (passing q es) ≡ passing p es
passing-twice p q [] wider = refl
passing-twice p q (e ∷ es) wider = by (q e.0) refl (p e.0) refl (passing-twice p q es wider) where
  by : (b : Bool) → q e.0 ≡ b → (d : Bool) → p e.0 ≡ d → passing p (passing q es) ≡ passing p es → passing p (cond b (e ∷ passing q es) (passing q es)) ≡ cond d (e ∷ passing p es) (passing p es)
  by true q_is d p_is rest = ap (λ k. cond k (e ∷ passing p (passing q es)) (passing p (passing q es))) p_is ∙ ap (λ l. cond d (e ∷ l) l) rest
  by false q_is true p_is rest = absurd (let yes_ = wider e.0 p_is in cc)
  by false q_is false p_is rest = rest

-- the stamps of two lists in a range are those of what passes a wider test
same-stamps : (p q : ℤ → Bool) (from to : ℤ) (es fs : List Element) → ((s : ℤ) → is_between from to s ≡ true → p s ≡ true) → ((s : ℤ) → is_between from to s ≡ true → q s ≡ true)
    → stamps_between from to (merged_stamps (passing p es) (passing q fs)) ≡ stamps_between from to (merged_stamps es fs)
same-stamps p q from to es fs p_wider q_wider =
    let r = is_between from to in
    let e = λ (e : Element). r e.0 in
    stamps-passing r (entries (by_stamp (passing p es ++ passing q fs))) ∙ ap (map (λ e. e.0)) (sym (entries-passing r (passing p es ++ passing q fs)))
    ∙ ap (λ l. map (λ e. e.0) (entries (by_stamp l)))
    (filter-append e (passing p es) (passing q fs) ∙ ap (λ l. l ++ passing r (passing q fs)) (passing-twice r p es p_wider)
    ∙ ap (λ l. passing r es ++ l) (passing-twice r q fs q_wider) ∙ sym (filter-append e es fs))
    ∙ ap (map (λ e. e.0)) (entries-passing r (es ++ fs)) ∙ sym (stamps-passing r (entries (by_stamp (es ++ fs))))

-- what two functions give is the same where they agree at all that pass
same-kept : (f g : ℤ → Option Element) (p : ℤ → Bool) (ts : List ℤ) → ((s : ℤ) → p s ≡ true → f s ≡ g s) → filter_map f (filter p ts) ≡ filter_map g (filter p ts)
same-kept f g p [] same = refl
same-kept f g p (t ∷ ts) same = by (p t) refl (same-kept f g p ts same) where
  by : (b : Bool) → p t ≡ b → filter_map f (filter p ts) ≡ filter_map g (filter p ts) → filter_map f (cond b (t ∷ filter p ts) (filter p ts)) ≡ filter_map g (cond b (t ∷ filter p ts) (filter p ts))
  by true pass rest = ap (λ o. cons_option o (filter_map f (filter p ts))) (same t pass) ∙ ap (cons_option (g t)) rest
  by false pass rest = rest

not-true : (b : Bool) → not b ≡ true → b ≡ false
not-true true h = sym h
not-true false h = refl

-- what a range is
in-range : (from to s : ℤ) → is_between from to s ≡ true → (from ≤ℤ s) × (s ≤ℤ to)
in-range from to s pass =
    let parts = and_parts (not (int_lt s from)) (not (int_lt to s)) pass in
    (int_lt-false s from (not-true (int_lt s from) parts.0), int_lt-false to s (not-true (int_lt to s) parts.1))

range-in : (from to s : ℤ) → from ≤ℤ s → s ≤ℤ to → is_between from to s ≡ true
range-in from to s low high = ap (λ b. not b && not (int_lt to s)) (int_lt_no s from low) ∙ ap not (int_lt_no to s high)

wider : (from to low s : ℤ) → low ≤ℤ from → is_between from to s ≡ true → is_between low to s ≡ true
wider from to low s early pass = let range = in-range from to s pass in range-in low to s (omega (arith, ints, early, range.0)) range.1

-- an element in the wider range
at-within : (low to s : ℤ) (es : List Element) → is_between low to s ≡ true → element_at s (passing (is_between low to) es) ≡ element_at s es
at-within low to s es pass = at-passing (is_between low to) s es ∙ ap (λ b. cond b (element_at s es) None) pass

-- an on start from the origin on
start-late : (grid : GridPlan) (s : ℤ) → IsStartOf grid s → grid.origin ≤ℤ s
start-late grid s start =
    let kept = kept-one (λ x. not (int_lt x grid.origin)) s (on_starts grid.calendar) (one-at (starts_of grid) start.0 s start.1) in
    int_lt-false s grid.origin (not-true (int_lt s grid.origin) kept.1)

before-earlier : (s t : ℤ) (o : Option ℤ) → s ≤ℤ t → IsBefore t o → IsBefore s o
before-earlier s t None le before = tt
before-earlier s t (Some end) le before = omega (arith, ints, le, before)

-- an interval that holds a later stamp and starts at an earlier one holds those between
held-between : (c : CalendarPlan) (t from s : ℤ) → IsLaid c → IsStamp from → held_start c s ≡ Some t → t ≤ℤ from → from ≤ℤ s → held_start c from ≡ Some t
held-between c t from s laid stamp held start le =
    let w = from-held c s t held in
    let same : w.held.from ≡ t = same_Some w.held.from t (sym w.held.exists_from ∙ w.start) in
    held-from c from t laid stamp (record {
      interval = w.interval;
      on = w.on;
      start = w.start;
      held = record {
        from = w.held.from;
        exists_from = w.held.exists_from;
        after = omega (arith, ints, same, start);
        before = before-earlier from s (start_at c (w.interval +ℤ pos 1)) le w.held.before;
      };
    })

-- what a series on a grid can have, and how far back its elements are needed
abbrev AreStarts : GridPlan → List Element → Type 0
AreStarts grid es = (stamp : ℤ) (row : Row) → element_at stamp es ≡ Some row → IsStartOf grid stamp

-- the row that a series on a grid has at a stamp in the range
row-within : (grid : GridPlan) (es : List Element) (from to low s : ℤ) → IsLaid grid.calendar → IsStamp from → AreStarts grid es → IsEnough (Regular grid) from low → is_between from to s ≡ true
    → row_around grid (passing (is_between low to) es) s ≡ row_around grid es s
row-within grid es from to low s laid stamp starts enough pass = by (held_start grid.calendar s) refl where
  missing : (t : ℤ) → held_start grid.calendar s ≡ Some t → t <ℤ low → (o : Option Row) → element_at t es ≡ o → element_at t (passing (is_between low to) es) ≡ o
  missing t held lt None none = at-passing (is_between low to) t es ∙ ap (λ o. cond (is_between low to t) o None) none ∙ same (is_between low to t) where
    same : (b : Bool) → ◌≡◌ {A = Option Row} (cond b None None) None
    same true = refl
    same false = refl
  missing t held lt (Some row) there =
      let range = in-range from to s pass in
      let early = enough.early in
      let here = held-between grid.calendar t from s laid stamp held (omega (arith, ints, early, lt)) range.0 in
      let late = enough.held t here (start-late grid t (starts t row there)) in
      absurd (omega (arith, ints, late, lt))

  by : (o : Option ℤ) → held_start grid.calendar s ≡ o → option_and_then (λ t. element_at t (passing (is_between low to) es)) o ≡ option_and_then (λ t. element_at t es) o
  by None held = refl
  by (Some t) held = by_lt_z t low
      (λ lt. missing t held lt (element_at t es) refl)
      (λ ge.
      let range = in-range from to s pass in
      let after = (from-held grid.calendar s t held).held.after in
      let same = same_Some (from-held grid.calendar s t held).held.from t (sym (from-held grid.calendar s t held).held.exists_from ∙ (from-held grid.calendar s t held).start) in
      at-within low to t es (range-in low to t ge (omega (arith, ints, after, same, range.1))))

-- at the stamps of elements
there-within : (junction : Junction) (a b : Side) (from to low other : ℤ) → low ≤ℤ from → other ≤ℤ from
    → joined_there junction (side_within low to a) (side_within other to b) from to ≡ joined_there junction a b from to
there-within junction a b from to low other first second =
    let r = is_between from to in
    let x = passing (is_between low to) a.elements in
    let y = passing (is_between other to) b.elements in
    ap within_rows (
    ap (filter_map (λ s. joined_at junction a b s (element_at s x) (element_at s y)))
    (same-stamps (is_between low to) (is_between other to) from to a.elements b.elements (λ s pass. wider from to low s first pass) (λ s pass. wider from to other s second pass))
    ∙ same-kept (λ s. joined_at junction a b s (element_at s x) (element_at s y)) (λ s. joined_at junction a b s (element_at s a.elements) (element_at s b.elements)) r
    (merged_stamps a.elements b.elements)
    (λ s pass. ap (λ o. joined_at junction a b s o (element_at s y)) (at-within low to s a.elements (wider from to low s first pass))
    ∙ ap (λ o. joined_at junction a b s (element_at s a.elements) o) (at-within other to s b.elements (wider from to other s second pass))))

-- at the starts of a common grid
on-within : (junction : Junction) (a b : Side) (g h : GridPlan) (from to low other : ℤ) → IsStamp from → IsLaid g.calendar → IsLaid h.calendar → AreStarts g a.elements → AreStarts h b.elements
    → IsEnough (Regular g) from low → IsEnough (Regular h) from other → (grid : Result CommonGrid Refusal)
    → joined_on junction (side_within low to a) g (side_within other to b) h from to grid ≡ joined_on junction a g b h from to grid
on-within junction a b g h from to low other stamp g_laid h_laid a_starts b_starts first second (Err why) = refl
on-within junction a b g h from to low other stamp g_laid h_laid a_starts b_starts first second (Ok grid) =
    let x = passing (is_between low to) a.elements in
    let y = passing (is_between other to) b.elements in
    ap within_rows (same-kept (λ s. joined_at junction a b s (row_around g x s) (row_around h y s)) (λ s. joined_at junction a b s (row_around g a.elements s) (row_around h b.elements s)) (is_between from to)
    (on_starts (every_start g.calendar h.calendar grid))
    (λ s pass. ap (λ o. joined_at junction a b s o (row_around h y s)) (row-within g a.elements from to low s g_laid stamp a_starts first pass)
    ∙ ap (λ o. joined_at junction a b s (row_around g a.elements s) o) (row-within h b.elements from to other s h_laid stamp b_starts second pass)))

pub joined-within : (junction : Junction) (a b : Side) (from to low other : ℤ) → IsStamp from → IsLaidOut a.shape → IsLaidOut b.shape → IsSeries a → IsSeries b
    → IsEnough a.shape from low → IsEnough b.shape from other → joined junction (side_within low to a) (side_within other to b) from to ≡ joined junction a b from to
joined-within junction a b from to low other stamp a_laid b_laid a_series b_series first second =
    by a.shape b.shape a_laid b_laid a_series.on_starts b_series.on_starts first second
  where
    by : (s t : Shape) → IsLaidOut s → IsLaidOut t → AreOnStarts s a.elements → AreOnStarts t b.elements → IsEnough s from low → IsEnough t from other
        → joined_of junction (side_within low to a) (side_within other to b) s t from to ≡ joined_of junction a b s t from to
    by Irregular Irregular a_laid b_laid a_starts b_starts first second = there-within junction a b from to low other first.early second.early
    by Irregular (Regular h) a_laid b_laid a_starts b_starts first second = there-within junction a b from to low other first.early second.early
    by (Regular g) Irregular a_laid b_laid a_starts b_starts first second = there-within junction a b from to low other first.early second.early
    by (Regular g) (Regular h) a_laid b_laid a_starts b_starts first second =
        on-within junction a b g h from to low other stamp a_laid b_laid a_starts b_starts first second (common_grid g.calendar h.calendar)

-- the elements of a series in a range are those of a series
pub series-within : (s : Side) (low to : ℤ) → IsSeries s → IsSeries (side_within low to s)
series-within s low to series = record {
  rising = risen-rising (passing (is_between low to) s.elements) (risen-kept (λ e. e.0) (λ e. is_between low to e.0) s.elements (rising-risen s.elements series.rising));
  on_starts = by s.shape series.on_starts;
}
  where
    there : (stamp : ℤ) (row : Row) → element_at stamp (passing (is_between low to) s.elements) ≡ Some row → element_at stamp s.elements ≡ Some row
    there stamp row found = go (is_between low to stamp) (sym (at-passing (is_between low to) stamp s.elements) ∙ found) where
      go : (b : Bool) → cond b (element_at stamp s.elements) None ≡ Some row → element_at stamp s.elements ≡ Some row
      go true is = is
      go false is = absurd (cc)

    by : (shape : Shape) → AreOnStarts shape s.elements → AreOnStarts shape (passing (is_between low to) s.elements)
    by Irregular starts = tt
    by (Regular grid) starts = λ stamp row found. starts stamp row (there stamp row found)

-- the start of the interval that a stamp addresses
pub held-enough : (grid : GridPlan) (from : ℤ) (n : ℕ) (start : ℤ) → stamp_of grid n ≡ held_start grid.calendar from → stamp_of grid n ≡ Some start → IsEnough (Regular grid) from start
held-enough grid from n start again at =
    let w = from-held grid.calendar from start (sym again ∙ at) in
    let same : w.held.from ≡ start = same_Some w.held.from start (sym w.held.exists_from ∙ w.start) in
    let after = w.held.after in
    record {
      early = omega (arith, ints, same, after);
      held = λ other held late. let one = same_Some start other (sym at ∙ again ∙ held) in omega (arith, ints, one);
    }

pub none-enough : (grid : GridPlan) (from : ℤ) (n : ℕ) → stamp_of grid n ≡ held_start grid.calendar from → stamp_of grid n ≡ None → IsEnough (Regular grid) from from
none-enough grid from n again at = record {
  early = omega (arith, ints);
  held = λ other held late. absurd (let none = sym at ∙ again ∙ held in cc);
}

-- where it addresses none
pub off-enough : (grid : GridPlan) (from : ℤ) (why : Refusal) → offset_of grid from ≡ Err why → IsEnough (Regular grid) from from
off-enough grid from why off = record {
  early = omega (arith, ints);
  held = λ start held late. absurd (
      let found = ap (offset_at grid) held ∙ ap (λ b. cond b (Err BeforeOrigin) (Ok (starts_before grid start))) (int_lt_no start grid.origin late) in
      let clash = sym off ∙ found in cc);
}
