-- One read of pages after another.
use Rattle.std.proofs.Common.{Bool, Result, Ok, refl, ◌∙◌, arith}
use Rattle.ts_base.specs.declared.fault.StoreFault.{StoreFault}
use Rattle.ts_page.specs.Pages.{Contents}
use Rattle.ts_page.specs.Unchanged.{Reads}

-- none at all
pub reads_none : (tells : Bool) (v : Contents) → Reads tells (Ok (tt {0})) v v
reads_none tells v = record {
  call = record { count = refl; faults = omega arith; cause = λ failed. absurd (cc); no_fault = λ fine. refl };
  pages = λ told n. refl;
  free = refl;
  change_bytes = refl;
  images = λ n is. is;
}

pub reads_more : {S T : Type 0} (tells : Bool) (x : S) (r : Result T StoreFault) (u v w : Contents) → Reads tells (Ok x) u v → Reads tells r v w → Reads tells r u w
reads_more tells x r u v w first second = record {
  call = record {
    count = second.call.count ∙ first.call.count;
    faults = omega (arith, first.call.faults, second.call.faults);
    cause = λ failed. omega (arith, first.call.faults, second.call.cause failed);
    no_fault = λ fine. second.call.no_fault fine ∙ first.call.no_fault (λ failed. cc);
  };
  pages = λ told n. second.pages told n ∙ first.pages told n;
  free = second.free ∙ first.free;
  change_bytes = second.change_bytes ∙ first.change_bytes;
  images = λ n is. second.images n (first.images n is);
}

-- a read that went well, seen as another answer
pub reads_ok : {S T : Type 0} (tells : Bool) (x : S) (y : T) (v w : Contents) → Reads tells (Ok x) v w → Reads tells (Ok y) v w
reads_ok tells x y v w reads = record {
  call = record { count = reads.call.count; faults = reads.call.faults; cause = λ failed. absurd (cc); no_fault = λ fine. reads.call.no_fault (λ failed. cc) };
  pages = reads.pages;
  free = reads.free;
  change_bytes = reads.change_bytes;
  images = reads.images;
}
