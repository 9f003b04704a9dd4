-- A run of writes, one piece behind the other.
use Rattle.std.proofs.Common.{◌≡◌, ℕ, ◌+◌, ◌≤◌, Bool, IsTrue, Result, Ok, Err, OnOk, OnErr, IsOk, IsErr, IsErrAnd, IsErrOf, List, [], ◌++◌, length, refl, ap, sym, ◌∙◌, subst, arith, length-append}
use Rattle.std.proofs.lemmas.Bool.{false≢true}
use Rattle.ts_disk.specs.Device.{Device, Lawful, Torn, Follows, LeavesOnly, WrittenAt, Synced, Rose, overwritten}
use Rattle.ts_disk.proofs.Moments.{started, calls_on, leaves_map, then_on}
use Rattle.ts_disk.proofs.Ranges.{Torn-within, Follows-within, overwritten-append}
use Rattle.ts_journal.specs.Moment.{Keeps, TornFrom, WritesWithin, Writes, MakesLast}
use Rattle.ts_journal.proofs.RangeLemmas.{Torn-refl, overwritten-none}

pub keeps_refl : (tells : Bool) (v : Device) → Keeps tells v v
keeps_refl tells v = record { size = refl; said = refl; say_faults = refl; faults = omega arith; syncs = λ told. omega arith }

pub keeps_then : (tells : Bool) (v w x : Device) → Keeps tells v w → Keeps tells w x → Keeps tells v x
keeps_then tells v w x first second = record {
  size = second.size ∙ first.size;
  said = second.said ∙ first.said;
  say_faults = second.say_faults ∙ first.say_faults;
  faults = omega (arith, first.faults, second.faults);
  syncs = λ told. omega (arith, first.syncs told, second.syncs told);
}

pub keeps_write : {E : Type 0} (tells : Bool) (at : ℕ) (from : List ℕ) (r : Result Unit E) (v w : Device) → WrittenAt tells at from r v w → Keeps tells v w
keeps_write tells at from r v w write = record {
  size = write.size;
  said = write.call.said;
  say_faults = write.call.say_faults;
  faults = write.call.faults;
  syncs = λ told. omega (arith, write.syncs);
}

pub keeps_sync : {E : Type 0} (tells : Bool) (r : Result Unit E) (v w : Device) → Synced tells r v w → Keeps tells v w
keeps_sync tells (Ok done) v w sync = record {
  size = sync.size;
  said = sync.call.said;
  say_faults = sync.call.say_faults;
  faults = sync.call.faults;
  syncs = λ told. omega (arith, sync.syncs told);
}
keeps_sync tells (Err e) v w sync = record {
  size = sync.size;
  said = sync.call.said;
  say_faults = sync.call.say_faults;
  faults = sync.call.faults;
  syncs = λ told. omega (arith, sync.syncs_stay);
}

-- a count that rose later
pub rose_after : (v w x : Device) → v.faults ≤ w.faults → Rose w.faults x.faults → Rose v.faults x.faults
rose_after v w x first rose = omega (arith, first, rose)

pub on_ok_map : {E : Type 0} (r : Result Unit E) (P Q : Type 0) → (P → Q) → OnOk r P → OnOk r Q
on_ok_map (Ok done) P Q f p = f p
on_ok_map (Err e) P Q f p = tt

pub on_err_const : {E : Type 0} (r : Result Unit E) (P : Type 0) → P → OnErr r P
on_err_const (Ok done) P p = tt
on_err_const (Err e) P p = p

pub on_err_both : {E : Type 0} (r : Result Unit E) (P Q R : Type 0) → (P → Q → R) → OnErr r P → OnErr r Q → OnErr r R
on_err_both (Ok done) P Q R f p q = tt
on_err_both (Err e) P Q R f p q = f p q

pub writes_joined : {E : Type 0} (tells : Bool) (at : ℕ) (bytes : List ℕ) (r : Result Unit E) (v w : Device) → WritesWithin tells at (length bytes) v w → OnOk r (IsTrue tells → w.held ≡ overwritten at bytes v.held) → (IsErr r → Rose v.faults w.faults) → (IsOk r → w.faults ≡ v.faults) → Writes tells at bytes r v w
writes_joined tells at bytes r v w run written cause no_fault = record { within = run; written = written; cause = cause; no_fault = no_fault }

-- before the first write
pub within_start : (tells : Bool) (at n : ℕ) (v : Device) → Lawful tells v → WritesWithin tells at n v v
within_start tells at n v lawful = record {
  keeps = keeps_refl tells v;
  crash = λ image now. (image, now, Torn-refl at n image);
  moments = started tells v (TornFrom at n v) lawful (λ image now. (image, now, Torn-refl at n image, refl));
}

-- a wider range
pub within_wider : (tells : Bool) (at n from m : ℕ) (v w : Device) → at ≤ from → from + m ≤ at + n → WritesWithin tells from m v w → WritesWithin tells at n v w
within_wider tells at n from m v w low high run =
    let wider : (old new : List ℕ) → Torn from m old new → Torn at n old new =
    λ old new torn. Torn-within at n from m old old new low high (Torn-refl at n old) torn in
    record {
      keeps = run.keeps;
      crash = λ image now. let from = run.crash image now in (from.0, from.1, wider from.0 image from.2);
      moments = leaves_map v w (TornFrom from m v) (TornFrom at n v) (λ image said torn. (torn.0, torn.1, wider torn.0 image torn.2, torn.3)) run.moments;
    }

-- one write more
pub within_more : {E : Type 0} (tells : Bool) (at n place : ℕ) (from : List ℕ) (r : Result Unit E) (v w x : Device) → at ≤ place → place + length from ≤ at + n → WritesWithin tells at n v w → WrittenAt tells place from r w x → WritesWithin tells at n v x
within_more tells at n place from r v w x low high run write =
    let crash : Follows (Torn at n) v.images x.images = Follows-within at n place (length from) v.images w.images x.images low high run.crash write.crash in
    record {
      keeps = keeps_then tells v w x run.keeps (keeps_write tells place from r w x write);
      crash = crash;
      moments = calls_on tells r v w x (TornFrom at n v) run.moments write.call (λ image now. let start = crash image now in (start.0, start.1, start.2, run.keeps.said));
    }

-- two runs
pub within_then : (tells : Bool) (at n : ℕ) (v w x : Device) → WritesWithin tells at n v w → WritesWithin tells at n w x → WritesWithin tells at n v x
within_then tells at n v w x first second = record {
  keeps = keeps_then tells v w x first.keeps second.keeps;
  crash = Follows-within at n at n v.images w.images x.images (omega arith) (omega arith) first.crash second.crash;
  moments = then_on v w x (TornFrom at n v) first.moments
      (leaves_map w x (TornFrom at n w) (TornFrom at n v)
      (λ image said torn.
      let start = first.crash torn.0 torn.1 in
      (start.0, start.1, Torn-within at n at n start.0 torn.0 image (omega arith) (omega arith) start.2 torn.2, torn.3 ∙ first.keeps.said))
      second.moments);
}

-- a single write
pub writes_one : {E : Type 0} (tells : Bool) (at : ℕ) (from bytes : List ℕ) (r : Result Unit E) (v w : Device) → Lawful tells v → from ≡ bytes → WrittenAt tells at from r v w → Writes tells at bytes r v w
writes_one tells at from bytes r v w lawful is write =
    subst (λ (l : List ℕ). Writes tells at l r v w) is
    record {
      within = within_more tells at (length from) at from r v v w (omega arith) (omega arith) (within_start tells at (length from) v lawful) write;
      written = write.written;
      cause = write.call.cause;
      no_fault = write.call.no_fault;
    }

-- nothing is written yet
pub writes_none : {E : Type 0} (tells : Bool) (at : ℕ) (v : Device) → Lawful tells v → Writes {E = E} tells at [] (Ok tt) v v
writes_none tells at v lawful = record {
  within = within_start tells at 0 v lawful;
  written = λ told. sym (overwritten-none at v.held);
  cause = λ err. absurd (false≢true err);
  no_fault = λ done. refl;
}

-- a failure on the way
pub writes_failed : {E : Type 0} (tells : Bool) (at : ℕ) (bytes : List ℕ) (r : Result Unit E) (v w : Device) → IsErr r → WritesWithin tells at (length bytes) v w → Rose v.faults w.faults → Writes tells at bytes r v w
writes_failed tells at bytes (Ok done) v w err run rose = absurd (false≢true err)
writes_failed tells at bytes (Err e) v w err run rose = record { within = run; written = tt; cause = λ failed. rose; no_fault = λ done. absurd (false≢true done) }

-- one piece behind another
pub writes_then : {E F : Type 0} (tells : Bool) (at place : ℕ) (xs ys : List ℕ) (r : Result Unit F) (v w x : Device) → Lawful tells v → at + length xs + length ys ≤ v.size → place ≡ at + length xs
    → Writes {E = E} tells at xs (Ok tt) v w → Writes tells place ys r w x → Writes tells at (xs ++ ys) r v x
writes_then tells at place xs ys r v w x lawful room is_place first second =
    let long : length (xs ++ ys) ≡ length xs + length ys = length-append xs ys in
    let run : WritesWithin tells at (length (xs ++ ys)) v x =
    within_then tells at (length (xs ++ ys)) v w x
    (within_wider tells at (length (xs ++ ys)) at (length xs) v w (omega arith) (omega arith) first.within)
    (within_wider tells at (length (xs ++ ys)) place (length ys) w x (omega arith) (omega arith) second.within) in
    writes_joined tells at (xs ++ ys) r v x run
    (on_ok_map r _ _ (λ written told.
    written told ∙ (λ j. overwritten (is_place j) ys (first.written told j)) ∙ overwritten-append at xs ys v.held (omega (arith, lawful.size told))) second.written)
    (λ err. rose_after v w x first.within.keeps.faults (second.cause err))
    (λ done. second.no_fault done ∙ first.no_fault refl)

-- the first piece, and then a failure before the rest
pub writes_stopped : {E F : Type 0} (tells : Bool) (at : ℕ) (xs ys : List ℕ) (q : Result Unit E) (r : Result Unit F) (v w : Device) → IsErr q → IsErr r → Writes tells at xs q v w → Writes tells at (xs ++ ys) r v w
writes_stopped tells at xs ys q r v w failed err first =
    writes_failed tells at (xs ++ ys) r v w err (within_wider tells at (length (xs ++ ys)) at (length xs) v w (omega arith) (omega (arith, length-append xs ys)) first.within) (first.cause failed)

-- an answer that is this error
pub err_of : {E : Type 0} (r : Result Unit E) (e : E) → IsErrAnd r (λ x. x ≡ e) → IsErrOf r e
err_of (Ok done) e is = absurd is
err_of (Err other) e is = ap Err is

-- a call that the disk failed made nothing last
pub lasts_failed : {E : Type 0} (tells : Bool) (after : List ℕ → Type 0) (moment : List ℕ → List ℕ → Type 0) (failed : Type 0) (r : Result Unit E) (v w : Device) → IsErr r → failed → Rose v.faults w.faults → Keeps tells v w
    → (IsTrue tells → LeavesOnly v w moment) → MakesLast tells after moment failed r v w
lasts_failed tells after moment failed (Ok done) v w err is rose keeps moments = absurd (false≢true err)
lasts_failed tells after moment failed (Err e) v w err is rose keeps moments =
    record { ok = tt; durable = tt; cause = λ again. rose; no_fault = λ none. absurd (none is); others = keeps; moments = moments }
