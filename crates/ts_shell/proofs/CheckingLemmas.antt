-- The statuses of a check.
use Rattle.std.proofs.Common.{◌≡◌, ◌≢◌, ◌⊎◌, inl, inr, ℕ, ◌≤◌, Bool, IsTrue, List, ◌++◌, Result, Ok, Err, refl, sym, ◌∙◌, subst, arith}
use Rattle.ts_base.specs.declared.fault.StoreFault.{StoreFault}
use Rattle.ts_base.specs.declared.fault.StoreFault.TheVariants as store
use Rattle.ts_disk.specs.Device.{Device, Rose, Says}
use Rattle.ts_journal.specs.Moment.{OnlyReads}
use Rattle.ts_volume.specs.Volume.{MeansNothing}
use Rattle.ts_volume.proofs.CallerLemmas.{nothing_meant}
use Rattle.ts_check.specs.declared.verdict.Verdict.{Verdict}
use Rattle.ts_check.specs.declared.verdict.Verdict.TheVariants.{Good, Bad}
use Rattle.ts_check.specs.Report.{IsReport}
use Rattle.ts_shell.specs.Checking.{CheckRan, status_of_verdict}

module _ (tells : Bool) (v y : Device) (reads : OnlyReads tells v y) where
  -- nothing was said, since a call of the volume failed
  pub check_failed : Rose v.faults y.faults → CheckRan tells 5 v y
  check_failed rose = record {
    report = λ is. absurd (omega arith);
    bad = λ is. absurd (omega arith);
    no_store = λ is. absurd (omega arith);
    not_a_store = λ told nothing is. absurd (omega arith);
    part = λ is. absurd (omega arith);
    quiet = λ is. reads.keeps.said;
    held = reads.held;
    size = reads.keeps.size;
    no_more = reads.images;
    no_fewer = reads.no_fewer;
    output = λ is. absurd (omega arith);
    disk = λ is. rose;
    no_say_fault = λ is. reads.keeps.say_faults;
    no_fault = λ other. absurd (other refl);
    say_faults = omega (arith, reads.keeps.say_faults);
    faults = reads.keeps.faults;
    complete = λ no_rise no_say. absurd (no_rise rose);
    statuses = inr (inr (inl refl));
  }

  module _ (quiet : y.faults ≡ v.faults) where
    -- or since there was no memory
    pub check_wanting : CheckRan tells 7 v y
    check_wanting = record {
      report = λ is. absurd (omega arith);
      bad = λ is. absurd (omega arith);
      no_store = λ is. absurd (omega arith);
      not_a_store = λ told nothing is. absurd (omega arith);
      part = λ is. absurd (omega arith);
      quiet = λ is. reads.keeps.said;
      held = reads.held;
      size = reads.keeps.size;
      no_more = reads.images;
      no_fewer = reads.no_fewer;
      output = λ is. absurd (omega arith);
      disk = λ is. absurd (omega arith);
      no_say_fault = λ is. reads.keeps.say_faults;
      no_fault = λ other. quiet;
      say_faults = omega (arith, reads.keeps.say_faults);
      faults = reads.keeps.faults;
      complete = λ no_rise no_say. inr (inr refl);
      statuses = inr (inr (inr (inr refl)));
    }

    -- the report was said whole, or not
    module _ (verdict : Verdict) (text : List ℕ) (w : Device) (is : IsTrue tells → IsReport v.held verdict text) where
      -- what is the same at each status
      said_on : (says : List ℕ) → w.said ≡ y.said ++ says → w.said ≡ v.said ++ says
      said_on says said = said ∙ (λ i. reads.keeps.said i ++ says)

      pub check_cut : {E : Type 0} (e : E) → Says {E = E} tells text (Err e) y w → CheckRan tells 4 v w
      check_cut e says = record {
        report = λ at. absurd (omega arith);
        bad = λ at. absurd (omega arith);
        no_store = λ at. absurd (omega arith);
        not_a_store = λ told nothing at. absurd (omega arith);
        part = λ at told. record { verdict = verdict; text = text; is = is told; said = (says.part.0, said_on _ says.part.1) };
        quiet = λ at. absurd (neither at);
        held = says.held ∙ reads.held;
        size = says.size ∙ reads.keeps.size;
        no_more = λ image now. reads.images image (says.crash image now);
        no_fewer = λ image now. says.no_fewer image (reads.no_fewer image now);
        output = λ at. subst (λ (n : ℕ). Rose n w.say_faults) reads.keeps.say_faults (says.cause refl);
        disk = λ at. absurd (omega arith);
        no_say_fault = λ other. absurd (other refl);
        no_fault = λ other. says.faults ∙ quiet;
        say_faults = omega (arith, says.say_faults, reads.keeps.say_faults);
        faults = omega (arith, says.faults, reads.keeps.faults);
        complete = λ no_rise no_say. absurd (no_say (subst (λ (n : ℕ). Rose n w.say_faults) reads.keeps.say_faults (says.cause refl)));
        statuses = inr (inl refl);
      }
        where
          neither : (◌≡◌ {A = ℕ} 4 5) ⊎ (◌≡◌ {A = ℕ} 4 7) → ⊥
          neither (inl at) = omega arith
          neither (inr at) = omega arith

    -- of a volume that means a catalogue
    pub check_good : {E : Type 0} (text : List ℕ) (w : Device) → (IsTrue tells → IsReport v.held Good text) → Says {E = E} tells text (Ok (tt {0})) y w → CheckRan tells 0 v w
    check_good text w is says = record {
      report = λ at told. record { text = text; is = is told; said = said_on Good text w is text (says.said told) };
      bad = λ at. absurd (omega arith);
      no_store = λ at. absurd (omega arith);
      not_a_store = λ told nothing at. nothing (is told).cat (is told).means;
      part = λ at. absurd (omega arith);
      quiet = λ at. absurd (neither at);
      held = says.held ∙ reads.held;
      size = says.size ∙ reads.keeps.size;
      no_more = λ image now. reads.images image (says.crash image now);
      no_fewer = λ image now. says.no_fewer image (reads.no_fewer image now);
      output = λ at. absurd (omega arith);
      disk = λ at. absurd (omega arith);
      no_say_fault = λ other. says.no_fault refl ∙ reads.keeps.say_faults;
      no_fault = λ other. says.faults ∙ quiet;
      say_faults = omega (arith, says.say_faults, reads.keeps.say_faults);
      faults = omega (arith, says.faults, reads.keeps.faults);
      complete = λ no_rise no_say. inl refl;
      statuses = inl refl;
    }
      where
        neither : (◌≡◌ {A = ℕ} 0 5) ⊎ (◌≡◌ {A = ℕ} 0 7) → ⊥
        neither (inl at) = omega arith
        neither (inr at) = omega arith

    -- of one whose first bad page is this
    pub check_bad : {E : Type 0} (page : ℕ) (text : List ℕ) (w : Device) → (IsTrue tells → IsReport v.held (Bad page) text) → Says {E = E} tells text (Ok (tt {0})) y w → CheckRan tells 6 v w
    check_bad page text w is says = record {
      report = λ at. absurd (omega arith);
      bad = λ at told. record { page = page; is = (is told).0; said = said_on (Bad page) text w is _ (says.said told ∙ (λ i. y.said ++ (is told).1 i)) };
      no_store = λ at told. nothing_meant.bytes v.held page (is told).0;
      not_a_store = λ told nothing at. absurd (omega arith);
      part = λ at. absurd (omega arith);
      quiet = λ at. absurd (neither at);
      held = says.held ∙ reads.held;
      size = says.size ∙ reads.keeps.size;
      no_more = λ image now. reads.images image (says.crash image now);
      no_fewer = λ image now. says.no_fewer image (reads.no_fewer image now);
      output = λ at. absurd (omega arith);
      disk = λ at. absurd (omega arith);
      no_say_fault = λ other. says.no_fault refl ∙ reads.keeps.say_faults;
      no_fault = λ other. says.faults ∙ quiet;
      say_faults = omega (arith, says.say_faults, reads.keeps.say_faults);
      faults = omega (arith, says.faults, reads.keeps.faults);
      complete = λ no_rise no_say. inr (inl refl);
      statuses = inr (inr (inr (inl refl)));
    }
      where
        neither : (◌≡◌ {A = ℕ} 6 5) ⊎ (◌≡◌ {A = ℕ} 6 7) → ⊥
        neither (inl at) = omega arith
        neither (inr at) = omega arith

    -- of either
    pub check_said : {E : Type 0} (verdict : Verdict) (text : List ℕ) (w : Device) → (IsTrue tells → IsReport v.held verdict text) → Says {E = E} tells text (Ok (tt {0})) y w → CheckRan tells (status_of_verdict verdict) v w
    check_said Good text w is says = check_good text w is says
    check_said (Bad page) text w is says = check_bad page text w is says
