-- The list of all on starts.
use Rattle.std.proofs.Common.{◌≡◌, ℕ, ◌+◌, ◌-◌, ◌<◌, ◌≤◌, cond, length, slice_get, Option, Some, None, refl, ap, ◌∙◌, arith, ℤ, pos, neg_ℤ, ◌+ℤ◌, ◌-ℤ◌, ◌<ℤ◌, unsigned_abs, length-append, filter_map}
use Rattle.std.proofs.lemmas.Int.{by_lt_z, ints}
use Rattle.ts_calendar.specs.Calendars.{CalendarPlan, start_at, IsLaid}
use Rattle.ts_calendar.proofs.LawLemmas.{line-near}
use Rattle.ts_offset.specs.Grid.{numbers_from, on_start, on_starts, IsOnStart}
use Rattle.ts_offset.proofs.ListLemmas.{taken-at, taken-from, taken-append}
use Rattle.ts_offset.proofs.StartLemmas.{on-line, rise}
use Rattle.ts_offset.proofs.WindowLemmas.{on-start}

abbrev low : ℤ
low = neg_ℤ (pos 400_000_000_000)

-- each on start is listed
pub listed-start : (c : CalendarPlan) (s : ℤ) → IsLaid c → IsOnStart c s → (n : ℕ) × (slice_get (on_starts c) n ≡ Some s)
unfolding on_starts
listed-start c s laid w =
    let k = w.interval in
    let here = on-line c k s laid w.start in
    let near = line-near c.pattern.unit c.patt_start k laid.stamp (omega (arith, ints, here.0, here.1.0), omega (arith, ints, here.0, here.1.1)) in
    let d = unsigned_abs (k -ℤ low) in
    let there : low +ℤ pos d ≡ k = omega (arith, ints, near.0) in
    let start : on_start c k ≡ Some s = ap (λ b. cond b (start_at c k) None) w.on ∙ w.start in
    let n = length (filter_map (on_start c) (numbers_from low d)) in
    (n, taken-at (on_start c) low n 800_000_000_001 d s (omega (arith, ints, near.0, near.1)) (ap (on_start c) there ∙ start) refl)

-- and nothing else is
pub start-listed : (c : CalendarPlan) (s : ℤ) (n : ℕ) → slice_get (on_starts c) n ≡ Some s → IsOnStart c s
unfolding on_starts
start-listed c s n e =
    let w = taken-from (on_start c) low n 800_000_000_001 s e in
    let on = on-start c (low +ℤ pos w.0) s w.2 in
    record { interval = low +ℤ pos w.0; on = on.0; start = on.1 }

-- more numbers give no fewer starts
taken-more-le : (f : ℤ → Option ℤ) (k : ℤ) (i j : ℕ) → i ≤ j → length (filter_map f (numbers_from k i)) ≤ length (filter_map f (numbers_from k j))
taken-more-le f k i j le =
    let whole : j ≡ i + (j - i) = omega arith in
    let split = ap (λ n. length (filter_map f (numbers_from k n))) whole ∙ ap length (taken-append f k i (j - i))
    ∙ length-append (filter_map f (numbers_from k i)) (filter_map f (numbers_from (k +ℤ pos i) (j - i))) in
    omega (arith, split)

-- later ones stand later
pub listed-rise : (c : CalendarPlan) (m n : ℕ) (s t : ℤ) → IsLaid c → m < n → slice_get (on_starts c) m ≡ Some s → slice_get (on_starts c) n ≡ Some t → s <ℤ t
unfolding on_starts
listed-rise c m n s t laid lt a b =
    let f = on_start c in
    let x = taken-from f low m 800_000_000_001 s a in
    let y = taken-from f low n 800_000_000_001 t b in
    let from = on-line c (low +ℤ pos x.0) s laid (on-start c (low +ℤ pos x.0) s x.2).1 in
    let to = on-line c (low +ℤ pos y.0) t laid (on-start c (low +ℤ pos y.0) t y.2).1 in
    by_lt_z (low +ℤ pos x.0) (low +ℤ pos y.0)
    (λ less. let up = rise c (low +ℤ pos x.0) (low +ℤ pos y.0) laid less in omega (arith, ints, from.0, to.0))
    (λ ge. let le = taken-more-le f low y.0 x.0 (omega (arith, ints)) in absurd (omega (arith, le, x.3, y.3)))
