-- Offsets and stamps of a grid, from its origin's interval on.
use Rattle.std.proofs.Common.{◌≡◌, ℕ, ◌<◌, true, false, cond, length, slice_get, Some, None, Ok, Err, sym, ap, ◌∙◌, arith, ℤ, pos, ◌+ℤ◌, ◌-ℤ◌, ◌≤ℤ◌, ◌<ℤ◌, unsigned_abs}
use Rattle.std.proofs.lemmas.Int.{by_lt_z, ints}
use Rattle.ts_base.specs.Moment.{IsStamp}
use Rattle.ts_base.specs.declared.refusal.Refusal.TheVariants.{OffStamp, BeforeOrigin}
use Rattle.ts_calendar.specs.Calendars.{CalendarPlan, start_at, is_on, Holds, IsOnStamp, IsLaid, IsNear}
use Rattle.ts_calendar.proofs.StampLemmas.{int_lt_yes, int_lt_no}
use Rattle.ts_calendar.proofs.LineLemmas.{line-rises}
use Rattle.ts_offset.specs.Grid.{gap, count, on_start, starts_among, IsFirstFrom, IsEnd, GridPlan, held_start, starts_before, offset_at, offset_of, stamp_of, IsHeldBefore}
use Rattle.ts_offset.proofs.ListLemmas.{taken-at, taken-from}
use Rattle.ts_offset.proofs.StartLemmas.{IsAt, on-line, start-one, first-at}
use Rattle.ts_offset.proofs.WindowLemmas.{on-start, gap-none, gap-up}
use Rattle.ts_offset.proofs.HeldLemmas.{on-exists, held-on, held-off, around-holds, around-only}
use Rattle.ts_offset.proofs.CountLemmas.{before-span, from-rest, from-far, count-walk, gap-le}

-- no on interval holds the stamp
pub off-answer : (g : GridPlan) (t k : ℤ) → IsLaid g.calendar → IsStamp t → IsAt g.calendar t k → is_on g.calendar k ≡ false → offset_of g t ≡ Err OffStamp
off-answer g t k laid stamp around off = ap (offset_at g) (held-off g.calendar t k laid stamp around off)

pub off-none : (g : GridPlan) (t k : ℤ) → IsLaid g.calendar → IsStamp t → IsAt g.calendar t k → is_on g.calendar k ≡ false → IsOnStamp g.calendar t → ⊥
off-none g t k laid stamp around off w =
    let same = around-only g.calendar t k w.interval laid stamp around w.held in
    let on = sym (ap (is_on g.calendar) same) ∙ w.on in cc

pub off-held : (g : GridPlan) (t k : ℤ) → IsLaid g.calendar → IsStamp t → IsAt g.calendar t k → is_on g.calendar k ≡ false → IsHeldBefore g t → ⊥
off-held g t k laid stamp around off w = off-none g t k laid stamp around off (record { interval = w.interval; on = w.on; held = w.held })

-- the interval around the stamp is on
pub on-stamp : (g : GridPlan) (t k : ℤ) → IsLaid g.calendar → IsAt g.calendar t k → is_on g.calendar k ≡ true → IsOnStamp g.calendar t
on-stamp g t k laid around on = record { interval = k; on = on; held = around-holds g.calendar t k laid around on }

-- it starts before the origin
pub early-answer : (g : GridPlan) (t k i : ℤ) → IsLaid g.calendar → IsStamp t → IsNear k → IsAt g.calendar t k → is_on g.calendar k ≡ true
    → IsFirstFrom g.calendar g.origin i → k <ℤ i → offset_of g t ≡ Err BeforeOrigin
early-answer g t k i laid stamp near around on from lt =
    let f = on-exists g.calendar k on in
    let early = from.earlier k f.0 lt f.1 in
    ap (offset_at g) (held-on g.calendar t k laid stamp near around on ∙ f.1)
    ∙ ap (λ b. cond b (Err BeforeOrigin) (Ok (starts_before g f.0))) (int_lt_yes f.0 g.origin early)

pub early-held : (g : GridPlan) (t k i : ℤ) → IsLaid g.calendar → IsAt g.calendar t k → is_on g.calendar k ≡ true
    → IsFirstFrom g.calendar g.origin i → k <ℤ i → IsHeldBefore g t
early-held g t k i laid around on from lt =
    let held = around-holds g.calendar t k laid around on in
    record { interval = k; on = on; held = held; early = from.earlier k held.from lt held.exists_from }

-- it starts at the origin or later
pub late-answer : (g : GridPlan) (t k i : ℤ) → IsLaid g.calendar → IsStamp t → IsNear k → IsAt g.calendar t k → is_on g.calendar k ≡ true
    → IsFirstFrom g.calendar g.origin i → i ≤ℤ k → offset_of g t ≡ Ok (length (starts_among g.calendar i (gap i k)))
late-answer g t k i laid stamp near around on from le =
    let f = on-exists g.calendar k on in
    let late = from.later k f.0 le f.1 in
    ap (offset_at g) (held-on g.calendar t k laid stamp near around on ∙ f.1)
    ∙ ap (λ b. cond b (Err BeforeOrigin) (Ok (starts_before g f.0))) (int_lt_no f.0 g.origin late)
    ∙ ap Ok (before-span g f.0 i k from (first-at g.calendar k f.0 laid near f.1))

pub late-held : (g : GridPlan) (t k i : ℤ) → IsLaid g.calendar → IsStamp t → IsAt g.calendar t k → IsFirstFrom g.calendar g.origin i → i ≤ℤ k → IsHeldBefore g t → ⊥
late-held g t k i laid stamp around from le w =
    let same = around-only g.calendar t k w.interval laid stamp around w.held in
    let late = from.later w.interval w.held.from (omega (arith, ints)) w.held.exists_from in
    omega (arith, ints, w.early)

-- the offset is the number of on intervals from the origin's up to the stamp's
pub late-walk : (g : GridPlan) (t k i x y : ℤ) → IsLaid g.calendar → IsStamp t → IsAt g.calendar t k → start_at g.calendar i ≡ Some g.origin
    → start_at g.calendar x ≡ Some g.origin → Holds g.calendar y t → length (starts_among g.calendar i (gap i k)) ≡ count g.calendar x y
late-walk g t k i x y laid stamp around origin start held =
    let from = start-one g.calendar i x g.origin laid origin start in
    let to = around-only g.calendar t k y laid stamp around held in
    ap (λ z. length (starts_among g.calendar z (gap z k))) from ∙ ap (λ z. length (starts_among g.calendar x (gap x z))) (sym to) ∙ sym (count-walk g.calendar x y)

-- the stamp of that offset is the interval's start
pub late-again : (g : GridPlan) (t k i : ℤ) → IsLaid g.calendar → IsStamp t → IsNear k → IsAt g.calendar t k → is_on g.calendar k ≡ true
    → IsFirstFrom g.calendar g.origin i → i ≤ℤ k → stamp_of g (length (starts_among g.calendar i (gap i k))) ≡ held_start g.calendar t
late-again g t k i laid stamp near around on from le =
    let f = on-exists g.calendar k on in
    let d = unsigned_abs (k -ℤ i) in
    let there : i +ℤ pos d ≡ k = omega (arith, ints) in
    let start : on_start g.calendar (i +ℤ pos d) ≡ Some f.0 = ap (on_start g.calendar) there ∙ ap (λ b. cond b (start_at g.calendar k) None) on ∙ f.1 in
    let far = gap-up i (pos 400_000_000_001) (omega (arith, ints, from.near.1)) in
    let few : d < gap i (pos 400_000_000_001) = omega (arith, ints, far, near.1, from.near.1) in
    ap (λ l. slice_get l (length (starts_among g.calendar i (gap i k)))) (from-far g i from)
    ∙ taken-at (on_start g.calendar) i (length (starts_among g.calendar i (gap i k))) (gap i (pos 400_000_000_001)) d f.0 few start
    (ap (λ n. length (starts_among g.calendar i n)) (sym (gap-le i k le)))
    ∙ sym (held-on g.calendar t k laid stamp near around on ∙ f.1)

-- an interval is around its start
pub around-start : (c : CalendarPlan) (k s : ℤ) → IsLaid c → start_at c k ≡ Some s → IsAt c s k
around-start c k s laid e =
    let here = on-line c k s laid e in
    let up = line-rises c.pattern.unit c.patt_start k (k +ℤ pos 1) laid.stamp laid.early (omega (arith, ints)) in
    record { after = omega (arith, ints, here.0); before = omega (arith, ints, here.0, up) }

-- the offset of the stamp of an offset
pub stamp-again : (g : GridPlan) (n : ℕ) (s i j : ℤ) → IsLaid g.calendar → IsFirstFrom g.calendar g.origin i → IsEnd g.calendar j
    → stamp_of g n ≡ Some s → offset_of g s ≡ Ok n
stamp-again g n s i j laid from to e =
    let w = taken-from (on_start g.calendar) i n (gap i j) s (sym (ap (λ l. slice_get l n) (from-rest g i j from to)) ∙ e) in
    let k = i +ℤ pos w.0 in
    let start = on-start g.calendar k s w.2 in
    let up : i <ℤ j = by_lt_z i j (λ lt. lt) (λ ge. let none = gap-none i j ge in absurd (omega (arith, w.1))) in
    let few : w.0 < unsigned_abs (j -ℤ i) = omega (arith, w.1, gap-up i j up) in
    let near : IsNear k = (omega (arith, ints, from.near.0), omega (arith, ints, few, up, to.near.1)) in
    let around = around-start g.calendar k s laid start.1 in
    let stamp = (on-line g.calendar k s laid start.1).1 in
    let le : i ≤ℤ k = omega (arith, ints) in
    let same : gap i k ≡ w.0 = gap-le i k le ∙ omega (arith, ints) in
    late-answer g s k i laid stamp near around start.0 from le ∙ ap (λ m. Ok (length (starts_among g.calendar i m))) same ∙ ap Ok w.3
