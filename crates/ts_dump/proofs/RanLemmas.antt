-- How a dump ends.
use Rattle.std.proofs.Common.{◌≡◌, ◌≢◌, inl, inr, ℕ, Bool, IsTrue, Option, Some, None, Result, Ok, Err, List, [], ◌++◌, refl, sym, ◌∙◌, ap, subst, append-nil}
use Rattle.std.specs.Option.{option_map, unwrap_or}
use Rattle.ts_disk.specs.Device.{Device, Rose, Saying}
use Rattle.ts_space.specs.Directory.{Directory}
use Rattle.ts_model.specs.Catalogue.{Catalogue}
use Rattle.ts_model.specs.Definitions.{Definitions}
use Rattle.ts_layout.specs.Meaning.{Layout, catalogue_of}
use Rattle.ts_container.specs.declared.fault.SurveyFault.{SurveyFault}
use Rattle.ts_container.specs.declared.fault.SurveyFault.TheVariants as survey
use Rattle.ts_container.specs.declared.surveyed.Surveyed.{Surveyed}
use Rattle.ts_volume.specs.Volume.{MeansCatalogue}
use Rattle.ts_volume.specs.FirstBad.{IsFirstBadOf}
use Rattle.ts_volume.proofs.CallerLemmas.{nothing_meant, one_catalogue}
use Rattle.ts_check.specs.Checked.{IsLaidIn, VolumeSurveyed}
use Rattle.ts_dump_texts.specs.Script.{script_of}
use Rattle.ts_dump_laws.specs.Said.{ScriptsMakeSeries, ScriptsMakeVolumes}
use Rattle.ts_dump.specs.declared.ended.Ended.TheVariants.{Whole, Bad, NoSeries}
use Rattle.ts_dump.specs.declared.ended.Fault.{Fault}
use Rattle.ts_dump.specs.declared.ended.Fault.TheVariants as faults
use Rattle.ts_dump.specs.declared.wish.Wish.{Wish}
use Rattle.ts_dump.specs.declared.choice.Choice.{Choice}
use Rattle.ts_dump.specs.Ended.{ended_of, read_as}
use Rattle.ts_dump.specs.Saying.{Stays, Caused, SaysText}
use Rattle.ts_dump.specs.Held.{IsLayoutOf}
use Rattle.ts_dump.specs.Chosen.{chosen, chosen_texts}
use Rattle.ts_dump.specs.Dumped.{wished, grouped, script_for, script_wished, IsMissing, SaidFront, IsCut, DumpRan}
use Rattle.ts_dump.proofs.SayingLemmas.{stays_read, stays_then}
use Rattle.ts_dump.proofs.ChosenLemmas.{IsThere, part_there, part_missing, series_wished, makes_wished}

-- what was found is a layout that the bytes have
pub layout_found : (held : List ℕ) (d : Definitions) (space : Directory) (free : List ℕ) (laid : IsLaidIn held d space free) → IsLayoutOf d space held laid.layout
layout_found held d space free laid = record {
  definitions = laid.found.definitions;
  places = laid.found.places;
  filled = laid.found.filled;
  rules = laid.laid.rules;
  holds = laid.laid.bytes;
}

-- nothing was said
front_none : (wish : Wish) (v w : Device) → w.said ≡ v.said → SaidFront wish v w
front_none wish v w said cat means = (0, said ∙ sym (append-nil v.said))

failed_not : {T : Type 0} (e : SurveyFault) → e ≢ survey.Failed → ◌≡◌ {A = Result T SurveyFault} (Err e) (Err survey.Failed) → ⊥
failed_not e other is = other (cc)

-- the volume wasn't found to be a store
module _ (tells : Bool) (wish : Wish) (v w : Device) where
  pub ran_unread : (e : SurveyFault) → VolumeSurveyed tells (Err e) v w → DumpRan tells wish (read_as e) v w
  ran_unread survey.Failed s = record {
    whole = λ is. absurd (cc);
    bad = λ page is. absurd (cc);
    no_store = λ page is. absurd (cc);
    quiet = λ page is. absurd (cc);
    not_a_store = λ told none. (λ is. absurd (cc), λ is. absurd (cc));
    unsaid = λ told none. s.others.keeps.said;
    missing = λ is. absurd (cc);
    of_series = λ is. absurd (cc);
    mute = λ is. absurd (cc);
    not_there = λ told gone. (λ is. absurd (cc), λ is. absurd (cc));
    none_said = λ told gone. s.others.keeps.said;
    front = λ cut told. front_none wish v w s.others.keeps.said;
    stays = stays_read tells v w s.others;
    output = λ is. absurd (cc);
    disk = λ is. s.cause refl;
    no_say_fault = λ other. s.others.keeps.say_faults;
    no_fault = λ other. absurd (other refl);
    complete = λ no_rise no_say. absurd (no_rise (s.cause refl));
  }
  ran_unread (survey.Memory error) s = record {
    whole = λ is. absurd (cc);
    bad = λ page is. absurd (cc);
    no_store = λ page is. absurd (cc);
    quiet = λ page is. absurd (cc);
    not_a_store = λ told none. (λ is. absurd (cc), λ is. absurd (cc));
    unsaid = λ told none. s.others.keeps.said;
    missing = λ is. absurd (cc);
    of_series = λ is. absurd (cc);
    mute = λ is. absurd (cc);
    not_there = λ told gone. (λ is. absurd (cc), λ is. absurd (cc));
    none_said = λ told gone. s.others.keeps.said;
    front = λ cut told. front_none wish v w s.others.keeps.said;
    stays = stays_read tells v w s.others;
    output = λ is. absurd (cc);
    disk = λ is. absurd (cc);
    no_say_fault = λ other. s.others.keeps.say_faults;
    no_fault = λ other. s.no_fault (λ is. cc);
    complete = λ no_rise no_say. inr (inr (inr refl));
  }
  ran_unread (survey.NotAStore page) s = record {
    whole = λ is. absurd (cc);
    bad = λ n is told. subst (IsFirstBadOf v.held) (same n is) (s.refused told);
    no_store = λ n is told. nothing_meant.bytes v.held page (s.refused told);
    quiet = λ n is. s.others.keeps.said;
    not_a_store = λ told none. (λ is. absurd (cc), λ is. absurd (cc));
    unsaid = λ told none. s.others.keeps.said;
    missing = λ is. absurd (cc);
    of_series = λ is. absurd (cc);
    mute = λ is. absurd (cc);
    not_there = λ told gone. (λ is. absurd (cc), λ is. absurd (cc));
    none_said = λ told gone. s.others.keeps.said;
    front = λ cut told. absurd (never cut);
    stays = stays_read tells v w s.others;
    output = λ is. absurd (cc);
    disk = λ is. absurd (cc);
    no_say_fault = λ other. s.others.keeps.say_faults;
    no_fault = λ other. s.no_fault (λ is. cc);
    complete = λ no_rise no_say. inr (inl (page, refl));
  }
    where
      same : (n : ℕ) → Bad page ≡ Bad n → page ≡ n
      same n is = cc

      never : IsCut (Bad page) → ⊥
      never (inl is) = cc
      never (inr (inl is)) = cc
      never (inr (inr is)) = cc

  -- nothing of what is wished is there
  pub ran_missing : (found : Surveyed) → VolumeSurveyed tells (Ok found) v w → chosen found.defs.definitions wish.part ≡ None → DumpRan tells wish NoSeries v w
  ran_missing found s none = record {
    whole = λ is. absurd (cc);
    bad = λ page is. absurd (cc);
    no_store = λ page is. absurd (cc);
    quiet = λ page is. absurd (cc);
    not_a_store = λ told nothing. (λ is. absurd (cc), λ is. absurd (cc));
    unsaid = λ told nothing. s.others.keeps.said;
    missing = λ is told.
        let laid : IsLaidIn v.held found.defs.definitions found.space found.free.items = s.laid told in
        record {
          cat = catalogue_of laid.layout;
          means = laid.means;
          none = part_missing laid.layout wish.part (sym (ap (λ (d : Definitions). chosen d wish.part) laid.found.definitions) ∙ none);
        };
    of_series = λ is. series_wished found.defs.definitions wish.part none;
    mute = λ is. s.others.keeps.said;
    not_there = λ told gone. (λ is. absurd (cc), λ is. absurd (cc));
    none_said = λ told gone. s.others.keeps.said;
    front = λ cut told. absurd (never cut);
    stays = stays_read tells v w s.others;
    output = λ is. absurd (cc);
    disk = λ is. absurd (cc);
    no_say_fault = λ other. s.others.keeps.say_faults;
    no_fault = λ other. s.no_fault (λ is. cc);
    complete = λ no_rise no_say. inr (inr (inl refl));
  }
    where
      never : IsCut NoSeries → ⊥
      never (inl is) = cc
      never (inr (inl is)) = cc
      never (inr (inr is)) = cc

  -- its script was said, or a front of it
  module _ (x : Device) (found : Surveyed) (s : VolumeSurveyed tells (Ok found) v x) (volumes : ScriptsMakeVolumes) (series : ScriptsMakeSeries)
      (choice : Choice) (is_chosen : chosen found.defs.definitions wish.part ≡ Some choice) where
    quiet : x.faults ≡ v.faults
    quiet = s.no_fault (λ is. cc)

    laid : (told : IsTrue tells) → IsLaidIn v.held found.defs.definitions found.space found.free.items
    laid told = s.laid told

    its : (told : IsTrue tells) → IsThere (laid told).layout wish.part choice
    its told =
        let l = laid told in
        part_there l.layout l.laid.rules wish.part choice (sym (ap (λ (d : Definitions). chosen d wish.part) l.found.definitions) ∙ is_chosen)

    -- each catalogue that the bytes mean is that of the layout
    one : (told : IsTrue tells) (cat : Catalogue) → MeansCatalogue v.held cat → catalogue_of (laid told).layout ≡ cat
    one told cat means = one_catalogue v.held (catalogue_of (laid told).layout) cat (laid told).means means

    script_is : (told : IsTrue tells) (cat : Catalogue) → MeansCatalogue v.held cat → script_for wish.in_transactions (its told).made ≡ script_wished wish cat
    script_is told cat means =
        sym (ap (λ (o : Option Catalogue). unwrap_or (option_map (script_for wish.in_transactions) o) []) (its told).is)
        ∙ ap (script_wished wish) (one told cat means)

    not_gone : (told : IsTrue tells) → IsMissing wish.part v → ⊥
    not_gone told gone =
        let no : Some (its told).made ≡ None = sym (its told).is ∙ ap (wished wish.part) (one told gone.cat gone.means) ∙ gone.none in cc

    module _ (r : Result Unit Fault) (caused : Caused r x w)
        (says : IsTrue tells → (l : Layout) → IsLayoutOf found.defs.definitions found.space x.held l
        → SaysText (script_of (grouped wish.in_transactions (chosen_texts l choice))) r x w) where
      text : (told : IsTrue tells) → SaysText (script_for wish.in_transactions (its told).made) r x w
      text told =
          let l = laid told in
          subst (λ (texts : List (List ℕ)). SaysText (script_of (grouped wish.in_transactions texts)) r x w) (its told).texts
          (says told l.layout (subst (λ (held : List ℕ). IsLayoutOf found.defs.definitions found.space held l.layout) (sym s.others.held)
          (layout_found v.held found.defs.definitions found.space found.free.items l)))

      -- a front of the text that was found is one of the script of each catalogue that the bytes mean
      front : (e : Fault) → r ≡ Err e → (told : IsTrue tells) → SaidFront wish v w
      front e is told cat means =
          let script = script_for wish.in_transactions (its told).made in
          let part : Saying x.said script w.said =
          (let P : Result Unit Fault → Type 0 = λ q. SaysText script q x w in subst P is (text told)).part in
          subst (λ (said : List ℕ). Saying said (script_wished wish cat) w.said) s.others.keeps.said
          (subst (λ (bytes : List ℕ). Saying x.said bytes w.said) (script_is told cat means) part)

      rose_volume : Caused r x w → r ≡ Err faults.Volume → Rose v.faults w.faults
      rose_volume c is = subst (λ (n : ℕ). Rose n w.faults) quiet (c.volume is)

      rose_output : Caused r x w → r ≡ Err faults.Output → Rose v.say_faults w.say_faults
      rose_output c is = subst (λ (n : ℕ). Rose n w.say_faults) s.others.keeps.say_faults (c.output is)

      stays : Stays v w
      stays = stays_then v x w (stays_read tells v x s.others) caused.stays

      silent : (r ≡ Err faults.Output → ⊥) → w.say_faults ≡ v.say_faults
      silent other = caused.no_say_fault other ∙ s.others.keeps.say_faults

      still : (r ≡ Err faults.Volume → ⊥) → w.faults ≡ v.faults
      still other = caused.no_fault other ∙ quiet

      pub ran_whole : r ≡ Ok tt → DumpRan tells wish Whole v w
      ran_whole is = record {
        whole = λ same told.
            let l = laid told in
            let there = its told in
            let script = script_for wish.in_transactions there.made in
            let said : w.said ≡ x.said ++ script =
            (let P : Result Unit Fault → Type 0 = λ q. SaysText script q x w in subst P is (text told)).whole in
            record {
              cat = catalogue_of l.layout;
              means = l.means;
              made = there.made;
              is_wished = there.is;
              said = said ∙ ap (λ (before : List ℕ). before ++ script) s.others.keeps.said;
              makes = makes_wished volumes series v.held (catalogue_of l.layout) l.means wish.in_transactions wish.part there.made there.is;
            };
        bad = λ page wrong. absurd (cc);
        no_store = λ page wrong. absurd (cc);
        quiet = λ page wrong. absurd (cc);
        not_a_store = λ told none. absurd (none (catalogue_of (laid told).layout) (laid told).means);
        unsaid = λ told none. absurd (none (catalogue_of (laid told).layout) (laid told).means);
        missing = λ wrong. absurd (cc);
        of_series = λ wrong. absurd (cc);
        mute = λ wrong. absurd (cc);
        not_there = λ told gone. absurd (not_gone told gone);
        none_said = λ told gone. absurd (not_gone told gone);
        front = λ cut told. absurd (never cut);
        stays = stays;
        output = λ wrong. absurd (cc);
        disk = λ wrong. absurd (cc);
        no_say_fault = λ other. silent (λ wrong. clash faults.Output (sym is ∙ wrong));
        no_fault = λ other. still (λ wrong. clash faults.Volume (sym is ∙ wrong));
        complete = λ no_rise no_say. inl refl;
      }
        where
          never : IsCut Whole → ⊥
          never (inl wrong) = cc
          never (inr (inl wrong)) = cc
          never (inr (inr wrong)) = cc

          clash : (e : Fault) → ◌≡◌ {A = Result Unit Fault} (Ok tt) (Err e) → ⊥
          clash e wrong = cc

      pub ran_cut : (e : Fault) → r ≡ Err e → DumpRan tells wish (ended_of (Err e)) v w
      ran_cut faults.Output is = record {
        whole = λ wrong. absurd (cc);
        bad = λ page wrong. absurd (cc);
        no_store = λ page wrong. absurd (cc);
        quiet = λ page wrong. absurd (cc);
        not_a_store = λ told none. absurd (none (catalogue_of (laid told).layout) (laid told).means);
        unsaid = λ told none. absurd (none (catalogue_of (laid told).layout) (laid told).means);
        missing = λ wrong. absurd (cc);
        of_series = λ wrong. absurd (cc);
        mute = λ wrong. absurd (cc);
        not_there = λ told gone. absurd (not_gone told gone);
        none_said = λ told gone. absurd (not_gone told gone);
        front = λ cut told. front faults.Output is told;
        stays = stays;
        output = λ same. rose_output caused is;
        disk = λ wrong. absurd (cc);
        no_say_fault = λ other. absurd (other refl);
        no_fault = λ other. still (λ wrong. clash (sym is ∙ wrong));
        complete = λ no_rise no_say. absurd (no_say (rose_output caused is));
      }
        where
          clash : ◌≡◌ {A = Result Unit Fault} (Err faults.Output) (Err faults.Volume) → ⊥
          clash wrong = cc
      ran_cut faults.Volume is = record {
        whole = λ wrong. absurd (cc);
        bad = λ page wrong. absurd (cc);
        no_store = λ page wrong. absurd (cc);
        quiet = λ page wrong. absurd (cc);
        not_a_store = λ told none. absurd (none (catalogue_of (laid told).layout) (laid told).means);
        unsaid = λ told none. absurd (none (catalogue_of (laid told).layout) (laid told).means);
        missing = λ wrong. absurd (cc);
        of_series = λ wrong. absurd (cc);
        mute = λ wrong. absurd (cc);
        not_there = λ told gone. absurd (not_gone told gone);
        none_said = λ told gone. absurd (not_gone told gone);
        front = λ cut told. front faults.Volume is told;
        stays = stays;
        output = λ wrong. absurd (cc);
        disk = λ same. rose_volume caused is;
        no_say_fault = λ other. silent (λ wrong. clash (sym is ∙ wrong));
        no_fault = λ other. absurd (other refl);
        complete = λ no_rise no_say. absurd (no_rise (rose_volume caused is));
      }
        where
          clash : ◌≡◌ {A = Result Unit Fault} (Err faults.Volume) (Err faults.Output) → ⊥
          clash wrong = cc
      ran_cut faults.Memory is = record {
        whole = λ wrong. absurd (cc);
        bad = λ page wrong. absurd (cc);
        no_store = λ page wrong. absurd (cc);
        quiet = λ page wrong. absurd (cc);
        not_a_store = λ told none. absurd (none (catalogue_of (laid told).layout) (laid told).means);
        unsaid = λ told none. absurd (none (catalogue_of (laid told).layout) (laid told).means);
        missing = λ wrong. absurd (cc);
        of_series = λ wrong. absurd (cc);
        mute = λ wrong. absurd (cc);
        not_there = λ told gone. absurd (not_gone told gone);
        none_said = λ told gone. absurd (not_gone told gone);
        front = λ cut told. front faults.Memory is told;
        stays = stays;
        output = λ wrong. absurd (cc);
        disk = λ wrong. absurd (cc);
        no_say_fault = λ other. silent (λ wrong. clash faults.Output (sym is ∙ wrong));
        no_fault = λ other. still (λ wrong. other_clash (sym is ∙ wrong));
        complete = λ no_rise no_say. inr (inr (inr refl));
      }
        where
          clash : (e : Fault) → ◌≡◌ {A = Result Unit Fault} (Err faults.Memory) (Err faults.Output) → ⊥
          clash e wrong = cc

          other_clash : ◌≡◌ {A = Result Unit Fault} (Err faults.Memory) (Err faults.Volume) → ⊥
          other_clash wrong = cc

      pub ran_said : (q : Result Unit Fault) → r ≡ q → DumpRan tells wish (ended_of q) v w
      ran_said (Ok done) is = ran_whole is
      ran_said (Err e) is = ran_cut e is
