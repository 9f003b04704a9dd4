-- How a routine ends that reads pages: they fail, or what they tell is refused or said.
use Rattle.std.proofs.Common.{◌≡◌, ℕ, IsTrue, Bool, Result, Ok, Err, IsErrAnd, List, length, refl, ap, sym, subst, ◌∙◌, arith}
use Rattle.ts_base.specs.declared.fault.Trouble.{Trouble}
use Rattle.ts_base.specs.declared.fault.Trouble.TheVariants as troubles
use Rattle.ts_base.specs.declared.fault.StoreFault.{StoreFault}
use Rattle.ts_base.specs.declared.fault.StoreFault.TheVariants as faults
use Rattle.ts_command.specs.declared.command.Command.{Command}
use Rattle.ts_page.specs.Pages.{Contents}
use Rattle.ts_page.proofs.ReadsLemmas.{reads_more, reads_ok}
use Rattle.ts_irregular.specs.Call.{Reads}
use Rattle.ts_space.specs.Directory.{Directory}
use Rattle.ts_model.specs.Definitions.{Definitions}
use Rattle.ts_layout.specs.Meaning.{Layout, catalogue_of}
use Rattle.ts_answer.specs.declared.stop.Stop.{Stop}
use Rattle.ts_answer.specs.Stop.{store_stop, trouble_stop}
use Rattle.ts_answer.specs.Answer.{outcome}
use Rattle.ts_answer.specs.Tried.{IsRefusedAs}
use Rattle.ts_answer.specs.View.{View, view, IsSeen, Shows}
use Rattle.ts_answer.specs.CarriedOut.{ReadOut, IsStopped, Stays}
use Rattle.ts_answer.proofs.CallerLemmas.{shows_still, kept_still}

module _ (tells : Bool) (command : Command) (out : List ℕ) (x : View) (c : Contents) where
  -- it is stopped
  stopped_out : {T : Type 0} (r : Result Unit Stop) (stop : Stop) (read : Result T StoreFault) → IsErrAnd r (λ s. s ≡ stop) → Reads tells read x.pages c → IsStopped tells command stop x c → ReadOut tells command r out x c
  stopped_out (Ok done) stop read is reads why = absurd is
  stopped_out (Err other) stop read is reads why = record {
    said = tt;
    stopped = subst (λ (s : Stop). IsStopped tells command s x c) (sym is) why;
    stays = record { free = reads.free; pages = reads.pages };
    count = reads.call.count;
    bytes = reads.change_bytes;
    no_fault = tt;
  }

  fault_stops : {T : Type 0} (fault : StoreFault) → Reads {T = T} tells (Err fault) x.pages c → IsStopped tells command (store_stop fault) x c
  fault_stops faults.Failed reads = reads.call.cause refl
  fault_stops (faults.Memory error) reads = reads.call.no_fault (λ failed. cc)

  -- the pages can't be read
  pub failed_out : {T : Type 0} (r : Result Unit Stop) (fault : StoreFault) → IsErrAnd r (λ s. s ≡ store_stop fault) → Reads {T = T} tells (Err fault) x.pages c → ReadOut tells command r out x c
  failed_out r fault is reads = stopped_out r (store_stop fault) (Err fault) is reads (fault_stops fault reads)

  trouble_stops : {T : Type 0} (t : T) (trouble : Trouble) → Reads tells (Ok t) x.pages c → (IsTrue tells → (l : Layout) → Shows tells x l → IsRefusedAs trouble (outcome (Ok command) (catalogue_of l)))
      → IsStopped tells command (trouble_stop trouble) x c
  trouble_stops t (troubles.Refused why) reads refused =
      let stays : Stays tells x.pages c = record { free = reads.free; pages = reads.pages } in
      let bytes = reads.change_bytes in
      let free = ap (λ (ns : List ℕ). length ns) reads.free in
      (λ one. stays, λ one. omega (arith, bytes, free), reads.call.no_fault (λ failed. cc), refused)
  trouble_stops t (troubles.Memory error) reads refused = reads.call.no_fault (λ failed. cc)

  -- they can, and the command is refused, or there is no memory
  pub trouble_out : {T : Type 0} (r : Result Unit Stop) (t : T) (trouble : Trouble) → IsErrAnd r (λ s. s ≡ trouble_stop trouble) → Reads tells (Ok t) x.pages c
      → (IsTrue tells → (l : Layout) → Shows tells x l → IsRefusedAs trouble (outcome (Ok command) (catalogue_of l))) → ReadOut tells command r out x c
  trouble_out r t trouble is reads refused = stopped_out r (trouble_stop trouble) (Ok t) is reads (trouble_stops t trouble reads refused)

  -- it is said
  pub said_out : {T : Type 0} (t : T) → Reads tells (Ok t) x.pages c → (IsTrue tells → (l : Layout) → Shows tells x l → outcome (Ok command) (catalogue_of l) ≡ Ok (out, catalogue_of l)) → ReadOut tells command (Ok tt) out x c
  said_out t reads says = record {
    said = says;
    stopped = tt;
    stays = record { free = reads.free; pages = reads.pages };
    count = reads.call.count;
    bytes = reads.change_bytes;
    no_fault = reads.call.no_fault (λ failed. cc);
  }

-- one reading after another is one
pub then_reads : {A B : Type 0} (tells : Bool) (a : A) (b : B) (u v w : Contents) → Reads tells (Ok a) u v → Reads tells (Ok b) v w → Reads tells (Ok b) u w
then_reads tells a b u v w first second = reads_more tells a (Ok b) u v w first second

-- what was read, with another answer
pub reads_as : {A B : Type 0} (tells : Bool) (a : A) (b : B) (v w : Contents) → Reads tells (Ok a) v w → Reads tells (Ok b) v w
reads_as tells a b v w reads = reads_ok tells a b v w reads

-- what is seen is seen still on pages that were only read
pub seen_still : {A : Type 0} (tells : Bool) (a : A) (d : Definitions) (space : Directory) (v w : Contents) → IsSeen tells (view d space v) → Reads tells (Ok a) v w → IsSeen tells (view d space w)
seen_still tells a d space v w seen reads =
    let stays : Stays tells v w = record { free = reads.free; pages = reads.pages } in
    record {
      kept = kept_still d space tells v w seen.kept reads.call.count stays;
      layout = λ told. let some = seen.layout told in (some.0, shows_still tells d space v w some.0 some.1 reads.call.count stays);
    }

pub layout_still : {A : Type 0} (tells : Bool) (a : A) (d : Definitions) (space : Directory) (v w : Contents) (l : Layout) → Shows tells (view d space v) l → Reads tells (Ok a) v w → Shows tells (view d space w) l
layout_still tells a d space v w l shows reads = shows_still tells d space v w l shows reads.call.count (record { free = reads.free; pages = reads.pages })
