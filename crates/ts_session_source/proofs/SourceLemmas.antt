-- What a status shows of the source.
use Rattle.std.proofs.Common.{◌≡◌, ◌⊎◌, inl, inr, ⊎_elim, ℕ, ◌≤◌, Bool, true, false, IsTrue, List, [], ◌++◌, length, Ok, Err, refl, sym, ◌∙◌, ap, arith, length-append}
use Rattle.std.proofs.lemmas.List.{append-nil}
use Rattle.ts_disk.specs.Device.{Input}
use Rattle.ts_multi.specs.Sections.{sections}
use Rattle.ts_carriers.proofs.CallerLemmas.{never}
use Rattle.ts_opening.specs.Opening.{Took, TookEnough, TookTooMuch}
use Rattle.ts_session_source.specs.declared.fault.TextFault.{TextFault}
use Rattle.ts_session_source.specs.declared.fault.TextFault.TheVariants.{Pull, TooLong, Memory}
use Rattle.ts_session_source.specs.Fault.{status_of_text}
use Rattle.ts_session_source.specs.Text.{most_text, TakesText}
use Rattle.ts_session_source.specs.Sessions.{IsTextEnd, IsUnbegun, ShowsSource}

-- nothing was taken
abbrev pub none_taken : (status : ℕ) (i : Input) → Took most_text IsTextEnd status i i
none_taken status i = record { taken = []; ended = false; cut = refl; end = λ yes. never yes }

-- the source wasn't pulled
pub unpulled : (told : Bool) (status : ℕ) (i : Input) → (status ≡ 5) ⊎ ((status ≡ 6) ⊎ (status ≡ 7)) → ShowsSource told status i i
unpulled told status i which = record {
  pull = λ three. absurd (omega (arith, which, three));
  no_pull_fault = λ no. refl;
  pull_faults = omega arith;
  too_long = λ eight. absurd (omega (arith, which, eight));
  short = λ s. inr (record { taken = []; cut = refl; short = omega arith });
  too_many = λ nine. absurd (omega (arith, which, nine));
  many = λ s short many. elim which [
    | inl five ↦ inr (inl five)
    | inr (inl six) ↦ inr (inr (inl six))
    | inr (inr seven) ↦ inr (inr (inr (inl seven)))
  ];
  pulls = λ s. omega arith;
  pulls_most = omega arith;
  ended = λ end. absurd (omega (arith, which, end));
  once = λ live. refl;
}

-- the faults are told apart
pull_is_long : ◌≡◌ {A = TextFault} Pull TooLong → ⊥
pull_is_long e = cc

memory_is_long : (error : _) → ◌≡◌ {A = TextFault} (Memory error) TooLong → ⊥
memory_is_long error e = cc

-- a text that wasn't taken: some bytes were, with no end
module _ (told : Bool) (i j : Input) where
  enough_of : (fault : TextFault) → (fault ≡ TooLong → ⊥) → TakesText told (Err fault) i j → IsTrue told → TookEnough most_text i j
  enough_of fault other takes s = ⊎_elim (λ is. absurd (other (let e : fault ≡ TooLong = cc in e))) (λ enough. enough) (takes.enough s)

  part_of : (fault : TextFault) → (status : ℕ) → TakesText told (Err fault) i j → IsTrue told → Took most_text IsTextEnd status i j
  part_of fault status takes s = ⊎_elim
      (λ is. let much = takes.too_long is s in record { taken = much.taken; ended = false; cut = much.cut; end = λ yes. never yes })
      (λ enough. record { taken = enough.taken; ended = false; cut = enough.cut; end = λ yes. never yes })
      (takes.enough s)

  -- with more bytes than the limit it isn't short
  pub not_short : TookTooMuch most_text i j → length i.left ≤ most_text → ⊥
  not_short much short = omega (arith, much.long, short, ap length much.cut, length-append much.taken j.left)

  pub untaken : (fault : TextFault) → TakesText told (Err fault) i j → ShowsSource told (status_of_text fault) i j
  untaken Pull takes = record {
    pull = λ three. takes.pull refl;
    no_pull_fault = λ no. absurd (no refl);
    pull_faults = takes.pull_faults;
    too_long = λ eight. absurd (omega (arith, eight));
    short = λ s. inr (enough_of Pull pull_is_long takes s);
    too_many = λ nine. absurd (omega (arith, nine));
    many = λ s short many. inl refl;
    pulls = takes.pulls;
    pulls_most = takes.pulls_most;
    ended = λ end. absurd (omega (arith, end));
    once = takes.once;
  }
  untaken TooLong takes = record {
    pull = λ three. absurd (omega (arith, three));
    no_pull_fault = λ no. takes.no_pull_fault (λ is. absurd (cc));
    pull_faults = takes.pull_faults;
    too_long = λ eight s. takes.too_long refl s;
    short = λ s. inl refl;
    too_many = λ nine. absurd (omega (arith, nine));
    many = λ s short many. absurd (not_short (takes.too_long refl s) short);
    pulls = takes.pulls;
    pulls_most = takes.pulls_most;
    ended = λ end. absurd (omega (arith, end));
    once = takes.once;
  }
  untaken (Memory error) takes = record {
    pull = λ three. absurd (omega (arith, three));
    no_pull_fault = λ no. takes.no_pull_fault (λ is. absurd (cc));
    pull_faults = takes.pull_faults;
    too_long = λ eight. absurd (omega (arith, eight));
    short = λ s. inr (enough_of (Memory error) (memory_is_long error) takes s);
    too_many = λ nine. absurd (omega (arith, nine));
    many = λ s short many. inr (inr (inr (inl refl)));
    pulls = takes.pulls;
    pulls_most = takes.pulls_most;
    ended = λ end. absurd (omega (arith, end));
    once = takes.once;
  }

  -- and the status is one at which nothing was carried out
  pub untaken_status : (fault : TextFault) → IsUnbegun (status_of_text fault)
  untaken_status Pull = inl refl
  untaken_status TooLong = inr (inr (inl refl))
  untaken_status (Memory error) = inr (inl refl)

  pub part_taken : (fault : TextFault) → TakesText told (Err fault) i j → IsTrue told → Took most_text IsTextEnd (status_of_text fault) i j
  part_taken fault takes s = part_of fault (status_of_text fault) takes s

  -- a text that was taken to its end
  module _ (text : List ℕ) (takes : TakesText told (Ok text) i j) where
    pub whole_is : IsTrue told → i.left ≡ text
    whole_is s = (takes.whole s).0

    pub cut_whole : IsTrue told → i.left ≡ text ++ j.left
    cut_whole s = (takes.whole s).0 ∙ sym (append-nil text) ∙ ap (λ (l : List ℕ). text ++ l) (sym (takes.whole s).1)

    abbrev pub all_taken : (status : ℕ) → IsTextEnd text status → IsTrue told → Took most_text IsTextEnd status i j
    all_taken status ends s = record { taken = text; ended = true; cut = cut_whole s; end = λ yes. (takes.ended, (takes.whole s).1, takes.short, ends) }

    pub taken_shows : (status : ℕ) → IsTextEnd text status → ShowsSource told status i j
    taken_shows status ends = record {
      pull = λ three. absurd (omega (arith, ends, three));
      no_pull_fault = λ no. takes.no_pull_fault (λ is. absurd (cc));
      pull_faults = takes.pull_faults;
      too_long = λ eight. absurd (omega (arith, ends, eight));
      short = λ s. inr (record { taken = text; cut = cut_whole s; short = takes.short });
      too_many = λ nine s. record {
        ended = takes.ended;
        none_left = (takes.whole s).1;
        short = (let size = ap length (whole_is s) in let kept = takes.short in omega (arith, size, kept));
        many = (let size = ap (λ (l : List ℕ). length (sections l)) (whole_is s) in omega (arith, size, ends, nine));
      };
      many = λ s short many.
          let size = ap (λ (l : List ℕ). length (sections l)) (whole_is s) in elim ends [
            | inl seven ↦ inr (inr (inr (inl seven)))
            | inr (inl few) ↦ absurd (omega (arith, size, few.0, many))
            | inr (inr nine) ↦ inr (inr (inr (inr nine.1)))
          ];
      pulls = takes.pulls;
      pulls_most = takes.pulls_most;
      ended = λ end. takes.ended;
      once = takes.once;
    }
