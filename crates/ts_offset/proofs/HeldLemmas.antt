-- The start of the on interval that holds a stamp.
use Rattle.std.proofs.Common.{◌≡◌, Bool, true, false, ◌&&◌, not, Option, Some, None, refl, sym, ap, ◌∙◌, arith, ℤ, pos, negsuc, ◌+ℤ◌, ◌-ℤ◌, ◌≤ℤ◌, unsigned_abs, option_and_then, cond, IfSome, IfNone}
use Rattle.std.specs.Prelude.{int_lt, is_some}
use Rattle.std.proofs.lemmas.Bool.{and_parts}
use Rattle.std.proofs.lemmas.Int.{ints}
use Rattle.ts_base.specs.Moment.{IsStamp}
use Rattle.ts_calendar.specs.Calendars.{CalendarPlan, start_at, is_on, IsOnStamp, IsBefore, Holds, starts_from, first_from, IsLaid, IsNear}
use Rattle.ts_calendar.proofs.StampLemmas.{int_lt_yes, int_lt_no, int_lt-true, int_lt-false}
use Rattle.ts_calendar.proofs.HeldLemmas.{holds-around, holds-only}
use Rattle.ts_calendar.proofs.FirstLemmas.{first_from-found, first_from-none}
use Rattle.ts_offset.specs.Grid.{IsOnStart, on_start, starts_by, ends_after, holds_on, held_start}
use Rattle.ts_offset.proofs.StartLemmas.{IsAt}

not-true : (b : Bool) → not b ≡ true → b ≡ false
not-true true h = sym h
not-true false h = refl

false-unless : (b : Bool) → (b ≡ true → ⊥) → b ≡ false
false-unless true h = absurd (h refl)
false-unless false h = refl

from-by : (t : ℤ) (o : Option ℤ) → starts_by t o ≡ true → (f : ℤ) × (o ≡ Some f) × (f ≤ℤ t)
from-by t (Some f) h = (f, refl, int_lt-false t f (not-true (int_lt t f) h))
from-by t None h = absurd (cc)

by-from : (t f : ℤ) (o : Option ℤ) → o ≡ Some f → f ≤ℤ t → starts_by t o ≡ true
by-from t f o e le = ap (starts_by t) e ∙ ap not (int_lt_no t f le)

before-after : (t : ℤ) (o : Option ℤ) → ends_after t o ≡ true → IsBefore t o
before-after t None h = tt
before-after t (Some end) h = int_lt-true t end h

after-before : (t : ℤ) (o : Option ℤ) → IsBefore t o → ends_after t o ≡ true
after-before t None h = refl
after-before t (Some end) h = int_lt_yes t end h

-- the test of an interval that is on and holds the stamp
pub holds-test : (c : CalendarPlan) (t k : ℤ) → holds_on c t k ≡ true → (is_on c k ≡ true) × Holds c k t
holds-test c t k h =
    let a = and_parts (is_on c k && starts_by t (start_at c k)) (ends_after t (start_at c (k +ℤ pos 1))) h in
    let b = and_parts (is_on c k) (starts_by t (start_at c k)) a.0 in
    let f = from-by t (start_at c k) b.1 in
    (b.0, record { from = f.0; exists_from = f.1; after = f.2; before = before-after t (start_at c (k +ℤ pos 1)) a.1 })

pub test-holds : (c : CalendarPlan) (t k : ℤ) → is_on c k ≡ true → Holds c k t → holds_on c t k ≡ true
test-holds c t k on held =
    let starts = by-from t held.from (start_at c k) held.exists_from held.after in
    let ends = after-before t (start_at c (k +ℤ pos 1)) held.before in
    rw (on, starts, ends) refl

-- an interval that is on exists
on-some : (start : ℤ) (o : Option ℤ) (b : Bool) → (starts_from start o && b) ≡ true → (f : ℤ) × (o ≡ Some f)
on-some start (Some f) b h = (f, refl)
on-some start None b h = absurd (cc)

pub on-exists : (c : CalendarPlan) (k : ℤ) → is_on c k ≡ true → (f : ℤ) × (start_at c k ≡ Some f)
on-exists c k h = on-some c.start (start_at c k) _ h

-- the interval around a stamp holds it, where it is on
pub around-holds : (c : CalendarPlan) (t k : ℤ) → IsLaid c → IsAt c t k → is_on c k ≡ true → Holds c k t
around-holds c t k laid around on =
    let f = on-exists c k on in
    holds-around c.pattern.unit c.patt_start t k f.0 laid.stamp laid.early around f.1

-- no other one does
pub around-only : (c : CalendarPlan) (t k n : ℤ) → IsLaid c → IsStamp t → IsAt c t k → Holds c n t → n ≡ k
around-only c t k n laid stamp around held = holds-only c.pattern.unit c.patt_start t k n laid.stamp laid.early stamp around held

abbrev low : ℤ
low = negsuc 399_999_999_999

pub held-on : (c : CalendarPlan) (t k : ℤ) → IsLaid c → IsStamp t → IsNear k → IsAt c t k → is_on c k ≡ true → held_start c t ≡ start_at c k
held-on c t k laid stamp near around on =
    let test = holds_on c t in
    let d = unsigned_abs (k -ℤ low) in
    let same : low +ℤ pos d ≡ k = omega (arith, ints, near.0, near.1) in
    let found : first_from test low 800_000_000_001 ≡ Some (low +ℤ pos d) =
    first_from-found test low 800_000_000_001 d (omega (arith, ints, near.0, near.1))
    (ap test same ∙ test-holds c t k on (around-holds c t k laid around on))
    (λ i lt. false-unless (test (low +ℤ pos i)) (λ yes_.
    let other = around-only c t k (low +ℤ pos i) laid stamp around (holds-test c t (low +ℤ pos i) yes_).1 in
    omega (arith, ints))) in
    ap (option_and_then (start_at c)) (found ∙ ap Some same)

pub held-off : (c : CalendarPlan) (t k : ℤ) → IsLaid c → IsStamp t → IsAt c t k → is_on c k ≡ false → held_start c t ≡ None
held-off c t k laid stamp around off =
    let test = holds_on c t in
    ap (option_and_then (start_at c)) (first_from-none test low 800_000_000_001
    (λ i lt. false-unless (test (low +ℤ pos i)) (λ yes_.
    let h = holds-test c t (low +ℤ pos i) yes_ in
    let other = around-only c t k (low +ℤ pos i) laid stamp around h.1 in
    let on = sym (ap (is_on c) other) ∙ h.0 in cc)))

-- in one
pub held-at : (c : CalendarPlan) (t k : ℤ) → IsLaid c → IsStamp t → IsNear k → IsAt c t k → held_start c t ≡ on_start c k
held-at c t k laid stamp near around = by (is_on c k) refl
  where
    by : (b : Bool) → is_on c k ≡ b → held_start c t ≡ on_start c k
    by true e = held-on c t k laid stamp near around e ∙ rw e refl
    by false e = held-off c t k laid stamp around e ∙ rw e refl

pub on-start-is : (c : CalendarPlan) (k s : ℤ) → (is_on c k ≡ true) × (start_at c k ≡ Some s) → IsOnStart c s
on-start-is c k s e = record { interval = k; on = e.0; start = e.1 }

-- what holds of each start that is there
pub started : (P : ℤ → Type 0) (o : Option ℤ) → ((s : ℤ) → o ≡ Some s → P s) → IfSome o P
started P (Some s) h = h s refl
started P None h = tt

pub none-is : (o : Option ℤ) → is_some o ≡ false → o ≡ None
none-is (Some s) h = absurd (cc)
none-is None h = refl

pub missing : (P : Type 0) (o : Option ℤ) → (o ≡ None → P) → IfNone o P
missing P (Some s) h = tt
missing P None h = h refl

-- where the interval around a stamp gives no start, no on interval holds the stamp
pub none-on : (c : CalendarPlan) (t k : ℤ) → IsLaid c → IsStamp t → IsAt c t k → on_start c k ≡ None → IsOnStamp c t → ⊥
none-on c t k laid stamp around none w =
    let same = around-only c t k w.interval laid stamp around w.held in
    let on : is_on c k ≡ true = ap (is_on c) (sym same) ∙ w.on in
    let f = on-exists c k on in
    let there = sym none ∙ ap (λ b. cond b (start_at c k) None) on ∙ f.1 in
    absurd (cc)
