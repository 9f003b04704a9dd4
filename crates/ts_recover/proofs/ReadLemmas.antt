-- A run of reads.
use Rattle.std.proofs.Common.{◌≡◌, ℕ, Bool, Result, Ok, Err, List, refl, ◌∙◌, arith}
use Rattle.ts_disk.specs.Device.{Device, Lawful, ReadAt}
use Rattle.ts_disk.proofs.Moments.{started, calls_on, leaves_map, then_on}
use Rattle.ts_journal.specs.Moment.{OnlyReads}
use Rattle.ts_journal.proofs.CallerLemmas.{keeps_refl, keeps_then}

-- what is Ok is no error
pub no_error : {T E : Type 0} (x : T) (e : E) → Ok x ≡ Err e → ⊥
no_error x e is = cc

pub reads_none : (tells : Bool) (v : Device) → Lawful tells v → OnlyReads tells v v
reads_none tells v lawful = record {
  keeps = keeps_refl tells v;
  held = refl;
  images = λ image now. now;
  no_fewer = λ image now. now;
  moments = started tells v (λ image said. v.images image × (said ≡ v.said)) lawful (λ image now. (now, refl));
}

pub reads_one : {E : Type 0} (tells : Bool) (at : ℕ) (into : List ℕ) (r : Result Unit E) (v w : Device) → Lawful tells v → ReadAt tells at into r v w → OnlyReads tells v w
reads_one tells at into r v w lawful read = record {
  keeps = record {
    size = read.size;
    said = read.call.said;
    say_faults = read.call.say_faults;
    faults = read.call.faults;
    syncs = λ told. omega (arith, read.syncs);
  };
  held = read.held;
  images = read.crash;
  no_fewer = read.no_fewer;
  moments =
      calls_on tells r v v w (λ image said. v.images image × (said ≡ v.said)) (reads_none tells v lawful).moments read.call (λ image now. (read.crash image now, refl));
}

pub reads_then : (tells : Bool) (v w x : Device) → OnlyReads tells v w → OnlyReads tells w x → OnlyReads tells v x
reads_then tells v w x first second = record {
  keeps = keeps_then tells v w x first.keeps second.keeps;
  held = second.held ∙ first.held;
  images = λ image now. first.images image (second.images image now);
  no_fewer = λ image now. second.no_fewer image (first.no_fewer image now);
  moments = then_on v w x (λ image said. v.images image × (said ≡ v.said)) first.moments
      (leaves_map w x (λ image said. w.images image × (said ≡ w.said)) (λ image said. v.images image × (said ≡ v.said))
      (λ image said now. (first.images image now.0, now.1 ∙ first.keeps.said)) second.moments);
}
