-- Pieces put behind what is on its way.
use Rattle.std.proofs.Common.{◌≡◌, ℕ, ◌+◌, ◌≤◌, Bool, Result, Ok, Err, IsErr, OnOk, IsTrue, List, [], ◌++◌, length, take, refl, sym, ◌∙◌, ap, subst, arith, append_assoc, length-append}
use Rattle.std.proofs.lemmas.Bool.{false≢true}
use Rattle.std.proofs.lemmas.List.{append-nil}
use Rattle.ts_disk.specs.Device.{Device, Lawful, WrittenAt, overwritten}
use Rattle.ts_disk.proofs.Ranges.{overwritten-append}
use Rattle.ts_disk.specs.declared.volume.Failed.{Failed}
use Rattle.ts_journal.specs.declared.pen.Pen.{Pen}
use Rattle.ts_journal.specs.Moment.{Writes}
use Rattle.ts_journal.specs.Pen.{pending, Adds}
use Rattle.ts_journal.proofs.WriteLemmas.{writes_one, writes_none, writes_then, writes_stopped, writes_failed}

pub adds_none : (tells : Bool) (p : Pen) (v : Device) → Lawful tells v → Adds tells [] (Ok tt) p p v v
adds_none tells p v lawful = record {
  added = record { written = []; all = sym (append-nil (pending p)); place = omega arith; writes = writes_none tells p.at v lawful };
  stopped = tt;
}

-- one piece behind another
pub adds_then : (tells : Bool) (xs ys : List ℕ) (r : Result Unit Failed) (p q s : Pen) (v w x : Device) → Lawful tells v → p.at + length (pending p) + length xs + length ys ≤ v.size
    → Adds tells xs (Ok tt) p q v w → Adds tells ys r q s w x → Adds tells (xs ++ ys) r p s v x
adds_then tells xs ys (Ok done) p q s v w x lawful room first second =
    let f = first.added in
    let g = second.added in
    let all : (f.written ++ g.written) ++ pending s ≡ pending p ++ (xs ++ ys) =
    append_assoc f.written g.written (pending s) ∙ ap (λ (l : List ℕ). f.written ++ l) g.all ∙ sym (append_assoc f.written (pending q) ys) ∙ ap (λ (l : List ℕ). l ++ ys) f.all ∙ append_assoc (pending p) xs ys in
    let fits : p.at + length f.written + length g.written ≤ v.size =
    omega (arith, ap length all, length-append (f.written ++ g.written) (pending s), length-append f.written g.written, length-append (pending p) (xs ++ ys), length-append xs ys, room) in
    record {
      added = record {
        written = f.written ++ g.written;
        all = all;
        place = omega (arith, f.place, g.place, length-append f.written g.written);
        writes = writes_then {E = Failed} tells p.at q.at f.written g.written (Ok tt) v w x lawful fits f.place f.writes g.writes;
      };
      stopped = tt;
    }
adds_then tells xs ys (Err e) p q s v w x lawful room first second =
    let f = first.added in
    let all : f.written ++ (pending q ++ ys) ≡ pending p ++ (xs ++ ys) = sym (append_assoc f.written (pending q) ys) ∙ ap (λ (l : List ℕ). l ++ ys) f.all ∙ append_assoc (pending p) xs ys in
    let fits : p.at + length f.written + length (pending q ++ ys) ≤ v.size =
    omega (arith, ap length all, length-append f.written (pending q ++ ys), length-append (pending p) (xs ++ ys), length-append xs ys, room) in
    record {
      added = tt;
      stopped = subst (λ (l : List ℕ). Writes tells p.at l (Err e) v x) all (writes_then {E = Failed} tells p.at q.at f.written (pending q ++ ys) (Err e) v w x lawful fits f.place f.writes second.stopped);
    }

-- the first piece fails
pub adds_failed : (tells : Bool) (xs ys : List ℕ) (e : Failed) (r : Result Unit Failed) (p q s : Pen) (v w : Device) → IsErr r → Adds tells xs (Err e) p q v w → Adds tells (xs ++ ys) r p s v w
adds_failed tells xs ys e (Ok done) p q s v w err first = absurd (false≢true err)
adds_failed tells xs ys e (Err f) p q s v w err first = record {
  added = tt;
  stopped = subst (λ (l : List ℕ). Writes tells p.at l (Err f) v w) (append_assoc (pending p) xs ys)
      (writes_stopped tells p.at (pending p ++ xs) ys (Err e) (Err f) v w refl refl first.stopped);
}

-- the buffer is written
pub flushed : (tells : Bool) (from : List ℕ) (p q : Pen) (v w : Device) → Lawful tells v → from ≡ pending p → pending q ≡ [] → q.at ≡ p.at + length (pending p) → WrittenAt {E = Failed} tells p.at from (Ok tt) v w → Adds tells [] (Ok tt) p q v w
flushed tells from p q v w lawful is none place write = record {
  added = record {
    written = pending p;
    all = ap (λ (l : List ℕ). pending p ++ l) none;
    place = place;
    writes = writes_one tells p.at from (pending p) (Ok tt) v w lawful is write;
  };
  stopped = tt;
}

pub flush_failed : (tells : Bool) (from : List ℕ) (e : Failed) (r : Result Unit Failed) (p q : Pen) (v w : Device) → IsErr r → Lawful tells v → from ≡ pending p → WrittenAt tells p.at from (Err e) v w → Adds tells [] r p q v w
flush_failed tells from e (Ok done) p q v w err lawful is write = absurd (false≢true err)
flush_failed tells from e (Err f) p q v w err lawful is write = record {
  added = tt;
  stopped = writes_stopped tells p.at (pending p) [] (Err e) (Err f) v w refl refl (writes_one tells p.at from (pending p) (Err e) v w lawful is write);
}

-- a piece that has room
pub held : (tells : Bool) (piece : List ℕ) (p q : Pen) (v : Device) → Lawful tells v → pending q ≡ pending p ++ piece → q.at ≡ p.at → Adds tells piece (Ok tt) p q v v
held tells piece p q v lawful is place = record {
  added = record { written = []; all = is; place = omega (arith, place); writes = writes_none tells p.at v lawful };
  stopped = tt;
}

-- all that was added is written
pub all_written : (tells : Bool) (bytes : List ℕ) (r : Result Unit Failed) (p q : Pen) (v w : Device) (at : ℕ) → p.at ≡ at → pending p ≡ [] → (r ≡ Ok tt → pending q ≡ []) → Adds tells bytes r p q v w → Writes tells at bytes r v w
all_written tells bytes (Ok done) p q v w at place none last adds =
    let a = adds.added in
    let all : a.written ≡ bytes = sym (append-nil a.written) ∙ ap (λ (l : List ℕ). a.written ++ l) (sym (last refl)) ∙ a.all ∙ ap (λ (l : List ℕ). l ++ bytes) none in
    subst (λ (n : ℕ). Writes {E = Failed} tells n bytes (Ok tt) v w) place (subst (λ (l : List ℕ). Writes {E = Failed} tells p.at l (Ok tt) v w) all a.writes)
all_written tells bytes (Err e) p q v w at place none last adds =
    subst (λ (n : ℕ). Writes tells n bytes (Err e) v w) place (subst (λ (l : List ℕ). Writes tells p.at l (Err e) v w) (ap (λ (l : List ℕ). l ++ bytes) none) adds.stopped)

-- how far it has come, and the volume is as long as before
pub adds_size : (tells : Bool) (xs : List ℕ) (p q : Pen) (v w : Device) → Adds tells xs (Ok tt) p q v w → q.at + length (pending q) ≡ p.at + length (pending p) + length xs
adds_size tells xs p q v w adds =
    let a = adds.added in
    omega (arith, a.place, ap length a.all, length-append a.written (pending q), length-append (pending p) xs)

pub adds_within : (tells : Bool) (xs : List ℕ) (p q : Pen) (v w : Device) → Adds tells xs (Ok tt) p q v w → w.size ≡ v.size
adds_within tells xs p q v w adds = adds.added.writes.within.keeps.size

-- a flush writes all that was on its way
pub all_flushed : (tells : Bool) (r : Result Unit Failed) (p q : Pen) (v w : Device) → OnOk r (q.filled ≡ 0) → Adds tells [] r p q v w → Writes tells p.at (pending p) r v w
all_flushed tells (Ok done) p q v w none adds =
    let a = adds.added in
    let empty : pending q ≡ [] = ap (λ (n : ℕ). take n q.bytes) none in
    subst (λ (l : List ℕ). Writes {E = Failed} tells p.at l (Ok tt) v w) (sym (append-nil a.written) ∙ ap (λ (l : List ℕ). a.written ++ l) (sym empty) ∙ a.all ∙ append-nil (pending p)) a.writes
all_flushed tells (Err e) p q v w none adds = subst (λ (l : List ℕ). Writes tells p.at l (Err e) v w) (append-nil (pending p)) adds.stopped

-- an error is passed on
pub stopped_as : (tells : Bool) (bytes : List ℕ) (at : ℕ) (e : Failed) (r : Result Unit Failed) (v w : Device) → IsErr r → Writes tells at bytes (Err e) v w → Writes tells at bytes r v w
stopped_as tells bytes at e r v w err writes = writes_failed tells at bytes r v w err writes.within (writes.cause refl)

-- bytes on their way count as written
abbrev pub ahead : Pen → List ℕ → List ℕ
ahead p held = overwritten p.at (pending p) held

-- a piece more, as if it were written
pub ahead_added : (tells : Bool) (piece : List ℕ) (p q : Pen) (v w : Device) → Lawful tells v → IsTrue tells → p.at + length (pending p) + length piece ≤ v.size → Adds tells piece (Ok tt) p q v w
    → ahead q w.held ≡ overwritten (p.at + length (pending p)) piece (ahead p v.held)
ahead_added tells piece p q v w lawful told room adds =
    let a = adds.added in
    let size : length v.held ≡ v.size = lawful.size told in
    let long : length a.written + length (pending q) ≡ length (pending p) + length piece = sym (length-append a.written (pending q)) ∙ ap length a.all ∙ length-append (pending p) piece in
    (λ j. overwritten (a.place j) (pending q) (a.writes.written told j)) ∙ overwritten-append p.at a.written (pending q) v.held (omega (arith, long, room, size))
    ∙ ap (λ (l : List ℕ). overwritten p.at l v.held) a.all ∙ sym (overwritten-append p.at (pending p) piece v.held (omega (arith, room, size)))
