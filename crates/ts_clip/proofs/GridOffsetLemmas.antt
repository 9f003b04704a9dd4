-- The entries from a stamp on and up to one, by the offsets of their starts.
use Rattle.std.proofs.Common.{◌≡◌, ℕ, ◌+◌, ◌-◌, ◌<◌, ◌≤◌, min, Bool, true, false, not, ◌&&◌, nat_le, nat_lt, ℤ, pos, Some, List, [], filter, length, take, drop, refl, sym, ap, ◌∙◌, inl, inr, arith}
use Rattle.std.specs.Prelude.{int_lt, if◌then◌else◌, unsigned_abs}
use Rattle.std.specs.List.{slice_get}
use Rattle.std.specs.Option.{option_map}
use Rattle.std.proofs.lemmas.Bool.{cases_lt}
use Rattle.std.proofs.lemmas.Bool.Decides.{nat_tests}
use Rattle.std.proofs.lemmas.Int.{by_lt_z, ints}
use Rattle.std.proofs.lemmas.Option.{slice_get-map, slice_get_within}
use Rattle.ts_calendar.specs.Calendars.{IsLaid}
use Rattle.ts_space.proofs.PlaceLemmas.{int_lt_yes, int_lt_no}
use Rattle.ts_offset.specs.Grid.{GridPlan, starts_before, starts_of, stamp_of}
use Rattle.ts_row.specs.Row.{Row}
use Rattle.ts_regular.specs.Range.{is_between}
use Rattle.ts_regular_edits.specs.Range.{AreOffsetsOf, AreUpTo}
use Rattle.ts_regular_edits.proofs.RangeLemmas.{offsets_of, one_start}
use Rattle.ts_sheets.proofs.StartLemmas.{stamps_rise}
use Rattle.ts_entry.specs.Entry.{Entry, clipped, counted}
use Rattle.ts_clip.specs.Grid.{AreAtStarts, between}
use Rattle.ts_clip.proofs.GridFilterLemmas.{filter_between, part_first, part_last, part_within}
use Rattle.ts_clip.proofs.GridStampLemmas.{start_behind}

-- the start of an entry is that of its number
pub entry_start : (grid : GridPlan) (entries : List Entry) (i : ℕ) (e : Entry) → AreAtStarts grid entries → slice_get entries i ≡ Some e → stamp_of grid i ≡ Some e.0
entry_start grid entries i e at is =
    let first = λ (f : Entry). f.0 in
    let got : slice_get (take (length entries) (starts_of grid)) i ≡ Some e.0 = ap (λ (l : List ℤ). slice_get l i) (sym at) ∙ slice_get-map first entries i ∙ ap (option_map first) is in
    ap (slice_get (starts_of grid)) (let same : i ≡ 0 + i = omega arith in same) ∙ start_behind (starts_of grid) 0 (length entries) i e.0 got

-- what a row of no meaning is good for: the stamp alone is tested
abbrev some_row : Row
some_row = record { values = []; hidden = false }

lt_yes : (a b : ℕ) → a < b → nat_lt a b ≡ true
lt_yes a b h = grind (arith, nat_tests)

lt_no : (a b : ℕ) → b ≤ a → nat_lt a b ≡ false
lt_no a b h = grind (arith, nat_tests)

and_true : (b c : Bool) → c ≡ true → (b && c) ≡ b
and_true true c is = is
and_true false c is = refl

true_and : (b c : Bool) → b ≡ true → (b && c) ≡ c
true_and true c is = refl
true_and false c is = absurd (cc)

module _ (grid : GridPlan) (laid : IsLaid grid.calendar) where
  -- the offsets up to that of a start
  pub up_to_own : (n : ℕ) (s : ℤ) → stamp_of grid n ≡ Some s → AreUpTo grid s (n + 1)
  up_to_own n s own laid m t is = (
    (λ less. elim (cases_lt m n) [
      | inl below ↦ let up = stamps_rise grid laid m n t s below is own in omega (arith, ints, up)
      | inr above ↦
          let same : m ≡ n = omega (arith, less, above) in
          let one = one_start t s (sym is ∙ ap (stamp_of grid) same ∙ own) in
          omega (arith, ints, one)
    ]),
    (λ low. elim (cases_lt n m) [
      | inl above ↦ absurd (let up = stamps_rise grid laid n m s t above own is in omega (arith, ints, up, low))
      | inr below ↦ omega (arith, below)
    ]),
  )

  pub upper_side : (to : ℤ) (upper : ℕ) → AreUpTo grid to upper → (i : ℕ) (s : ℤ) → stamp_of grid i ≡ Some s → nat_lt i upper ≡ not (int_lt to s)
  upper_side to upper up_to i s is = elim (cases_lt i upper) [
    | inl below ↦ lt_yes i upper below ∙ sym (ap not (int_lt_no to s ((up_to laid i s is).0 below)))
    | inr above ↦ lt_no i upper above ∙ by_lt_z to s
        (λ late. sym (ap not (int_lt_yes to s late)))
        (λ low. absurd (let below = (up_to laid i s is).1 low in omega (arith, above, below)))
  ]

  pub lower_side : (from : ℤ) (lower : ℕ) → lower ≡ starts_before grid from → (i : ℕ) (s : ℤ) → stamp_of grid i ≡ Some s → nat_le lower i ≡ not (int_lt s from)
  lower_side from lower number i s is =
      let whole : is_between lower (i + 1) i ≡ (not (int_lt s from) && not (int_lt s s)) = offsets_of grid from s lower (i + 1) number (up_to_own i s is) laid i (s, some_row) is in
      sym (and_true (nat_le lower i) (nat_lt i (i + 1)) (lt_yes i (i + 1) (omega arith))) ∙ whole
      ∙ and_true (not (int_lt s from)) (not (int_lt s s)) (ap not (int_lt_no s s (omega (arith, ints))))

  module _ (entries : List Entry) (at : AreAtStarts grid entries) where
    -- from one stamp to another
    pub clipped_between : (from to : ℤ) (lower upper low high : ℕ) → AreOffsetsOf grid from to lower upper → high ≡ min upper (length entries) → low ≡ min lower high → clipped from to entries ≡ between low high entries
    clipped_between from to lower upper low high offsets high_is low_is =
        filter_between (λ (e : Entry). not (int_lt e.0 from) && not (int_lt to e.0)) lower upper entries
        (λ i e is. sym (offsets laid i (e.0, some_row) (entry_start grid entries i e at is)))
        ∙ part_within entries lower upper low high high_is low_is

    -- so many from a stamp on, and so many up to one
    pub counted_from : (stamp n : ℤ) (lower low high : ℕ) → int_lt n (pos 0) ≡ false → lower ≡ starts_before grid stamp → low ≡ min lower (length entries) → high ≡ min (length entries) (low + unsigned_abs n) → counted stamp n entries ≡ between low high entries
    counted_from stamp n lower low high sign number low_is high_is =
        ap (λ (b : Bool). if b then drop (length (filter (λ e. not (int_lt stamp e.0)) entries) - unsigned_abs n) (filter (λ e. not (int_lt stamp e.0)) entries) else take (unsigned_abs n) (filter (λ e. not (int_lt e.0 stamp)) entries)) sign
        ∙ ap (take (unsigned_abs n)) (filter_between (λ (e : Entry). not (int_lt e.0 stamp)) lower (length entries) entries
        (λ i e is. sym (lower_side stamp lower number i e.0 (entry_start grid entries i e at is)) ∙ sym (and_true (nat_le lower i) (nat_lt i (length entries)) (lt_yes i (length entries) (slice_get_within entries i e is)))))
        ∙ part_first entries lower low high (unsigned_abs n) low_is high_is

    pub counted_to : (stamp n : ℤ) (upper low high : ℕ) → int_lt n (pos 0) ≡ true → AreUpTo grid stamp upper → high ≡ min upper (length entries) → low ≡ high - unsigned_abs n → counted stamp n entries ≡ between low high entries
    counted_to stamp n upper low high sign up_to high_is low_is =
        let k : ℕ = unsigned_abs n in
        ap (λ (b : Bool). if b then drop (length (filter (λ e. not (int_lt stamp e.0)) entries) - k) (filter (λ e. not (int_lt stamp e.0)) entries) else take k (filter (λ e. not (int_lt e.0 stamp)) entries)) sign
        ∙ ap (λ (l : List Entry). drop (length l - k) l) (filter_between (λ (e : Entry). not (int_lt stamp e.0)) 0 upper entries
        (λ i e is. sym (upper_side stamp upper up_to i e.0 (entry_start grid entries i e at is)) ∙ sym (true_and (nat_le 0 i) (nat_lt i upper) (first_of_all i))))
        ∙ part_last entries upper low high k high_is low_is
      where
        first_of_all : (i : ℕ) → nat_le 0 i ≡ true
        first_of_all i = grind (arith, nat_tests)

-- offsets from no later than they end
pub offsets_least : (grid : GridPlan) (from to : ℤ) (lower upper low : ℕ) → low ≡ min lower upper → AreOffsetsOf grid from to lower upper → AreOffsetsOf grid from to low upper
offsets_least grid from to lower upper low is offsets laid n e at = least n ∙ offsets laid n e at
  where
    least : (n : ℕ) → is_between low upper n ≡ is_between lower upper n
    least n = grind (arith, nat_tests)
