-- How a check ends.
use Rattle.std.proofs.Common.{◌≡◌, ◌≢◌, ◌⊎◌, inl, inr, ⊎_elim, ℕ, ◌≤◌, ◌<◌, Bool, true, false, IsTrue, List, [], ◌∷◌, ◌++◌, length, take, Some, Result, Ok, Err, refl, sym, ◌∙◌, ap, subst, arith, append_assoc}
use Rattle.std.proofs.lemmas.List.{append-nil}
use Rattle.ts_disk.specs.Device.{Rose, Input}
use Rattle.ts_items.specs.Items.{place_from}
use Rattle.ts_syntax.specs.Mistakes.{Mistake, mistakes, mistakes_from, mistakes_at_end}
use Rattle.ts_syntax.specs.Output.{Heard}
use Rattle.ts_syntax.specs.Lines.{SaysAll, SaysFirst}
use Rattle.ts_syntax.specs.Reading.{Told, are_some}
use Rattle.ts_syntax.specs.Checked.{Checked, IsWhole}
use Rattle.ts_syntax.specs.Statuses.{status_of, status_at_end}
use Rattle.ts_syntax.specs.declared.checker.CheckFault.{CheckFault}
use Rattle.ts_syntax.specs.declared.checker.CheckFault.TheVariants.{Output, Memory}
use Rattle.ts_syntax.proofs.MistakeLemmas.{mistakes_from-append}
use Rattle.ts_syntax.proofs.ToldLemmas.{first_more}

pub rose_on : (a b c : ℕ) → a ≤ b → Rose b c → Rose a c
rose_on a b c le rose = omega arith

-- the mistakes of the bytes taken come first
pub mistakes_front : (script taken rest : List ℕ) → script ≡ taken ++ rest → mistakes script ≡ mistakes_from [] (Some []) taken ++ (mistakes_from taken (place_from (Some []) taken) rest ++ mistakes_at_end script (place_from (Some []) script))
mistakes_front script taken rest is =
    let last = mistakes_at_end script (place_from (Some []) script) in
    ap (λ (l : List ℕ). mistakes_from [] (Some []) l ++ last) is ∙ ap (λ (l : List Mistake). l ++ last) (mistakes_from-append [] (Some []) taken rest)
    ∙ append_assoc (mistakes_from [] (Some []) taken) (mistakes_from taken (place_from (Some []) taken) rest) last

pub first_front : (script taken rest before said : List ℕ) → script ≡ taken ++ rest → SaysFirst (mistakes_from [] (Some []) taken) before said → SaysFirst (mistakes script) before said
first_front script taken rest before said is first =
    subst (λ (l : List Mistake). SaysFirst l before said) (sym (mistakes_front script taken rest is))
    (first_more (mistakes_from [] (Some []) taken) (mistakes_from taken (place_from (Some []) taken) rest ++ mistakes_at_end script (place_from (Some []) script)) before said first)

never_whole : (status : ℕ) → 1 < status → IsWhole status → ⊥
never_whole status above whole = ⊎_elim (λ zero. omega (arith, above, zero)) (λ one. omega (arith, above, one)) whole

are_none : (found : List Mistake) → are_some found ≡ false → found ≡ []
are_none [] is = refl
are_none (m ∷ found) is = absurd (cc)

not_none : (found : List Mistake) → are_some found ≡ true → found ≡ [] → ⊥
not_none [] is none = absurd (cc)
not_none (m ∷ found) is none = absurd (cc)

module _ (tells told : Bool) (v w : Heard) (i j : Input) where
  -- a check that ends before its script does
  early : (status : ℕ) → 1 < status → (IsTrue tells → IsTrue told → SaysFirst (mistakes i.left) v.said w.said) → (status ≡ 3 → Rose i.pull_faults j.pull_faults) → (status ≡ 4 → Rose v.say_faults w.say_faults)
      → (status ≡ 8 → IsTrue told → 268435456 < length i.left) → (status ≢ 3 → j.pull_faults ≡ i.pull_faults) → (status ≢ 4 → w.say_faults ≡ v.say_faults)
      → (IsWhole status ⊎ ((status ≡ 3) ⊎ ((status ≡ 4) ⊎ ((status ≡ 7) ⊎ (status ≡ 8))))) → Checked tells told status v w i j
  early status above first pull output too_long no_pull no_say statuses = record {
    all = λ whole. absurd (never_whole status above whole);
    first = first;
    none = λ zero. absurd (omega (arith, above, zero));
    some = λ one. absurd (omega (arith, above, one));
    ended = λ whole. absurd (never_whole status above whole);
    pull = pull;
    output = output;
    too_long = too_long;
    no_pull_fault = no_pull;
    no_say_fault = no_say;
    statuses = statuses;
  }

  module _ (taken rest : List ℕ) (cut : IsTrue told → i.left ≡ taken ++ rest) where
    -- the source failed
    pub stopped : (value : Unit {0}) (f g : Bool) → Rose i.pull_faults j.pull_faults → Told tells (mistakes_from [] (Some []) taken) (Ok value) f g v w → Checked tells told 3 v w i j
    stopped value f g rose run = early 3 (omega arith) (λ yes is. first_front i.left taken rest v.said w.said (cut is) (run.first yes)) (λ is. rose) (λ is. absurd (omega (arith, is))) (λ is. absurd (omega (arith, is)))
        (λ no. absurd (no refl)) (λ no. run.no_fault (λ is. absurd (cc))) (inr (inl refl))

    -- the script is too long
    pub overlong : (value : Unit {0}) (f g : Bool) → (IsTrue told → 268435456 < length i.left) → j.pull_faults ≡ i.pull_faults → Told tells (mistakes_from [] (Some []) taken) (Ok value) f g v w → Checked tells told 8 v w i j
    overlong value f g long no_fault run = early 8 (omega arith) (λ yes is. first_front i.left taken rest v.said w.said (cut is) (run.first yes)) (λ is. absurd (omega (arith, is))) (λ is. absurd (omega (arith, is))) (λ is. long)
        (λ no. no_fault) (λ no. run.no_fault (λ is. absurd (cc))) (inr (inr (inr (inr refl))))

    -- a line wasn't said
    pub failed : (fault : CheckFault) (f g : Bool) → j.pull_faults ≡ i.pull_faults → Told {T = Unit {0}} tells (mistakes_from [] (Some []) taken) (Err fault) f g v w → Checked tells told (status_of fault) v w i j
    failed Output f g no_fault run = early 4 (omega arith) (λ yes is. first_front i.left taken rest v.said w.said (cut is) (run.first yes)) (λ is. absurd (omega (arith, is))) (λ is. run.output refl) (λ is. absurd (omega (arith, is)))
        (λ no. no_fault) (λ no. absurd (no refl)) (inr (inr (inl refl)))
    failed Memory f g no_fault run = early 7 (omega arith) (λ yes is. first_front i.left taken rest v.said w.said (cut is) (run.first yes)) (λ is. absurd (omega (arith, is))) (λ is. absurd (omega (arith, is))) (λ is. absurd (omega (arith, is)))
        (λ no. no_fault) (λ no. run.no_fault (λ is. absurd (let e : Memory ≡ Output = cc in cc))) (inr (inr (inr (inl refl))))

  module _ (taken : List ℕ) (short : length taken ≤ 268435456) (whole : IsTrue told → (i.left ≡ taken) × (j.left ≡ [])) (no_fault : j.pull_faults ≡ i.pull_faults) where
    -- the script ended
    pub ended : (outcome : Result Unit CheckFault) (found : Bool) → Told tells (mistakes taken) outcome false found v w → Checked tells told (status_at_end outcome found) v w i j
    ended (Err Output) found run = early 4 (omega arith) (λ yes is. subst (λ (l : List ℕ). SaysFirst (mistakes l) v.said w.said) (sym (whole is).0) (run.first yes)) (λ is. absurd (omega (arith, is))) (λ is. run.output refl) (λ is. absurd (omega (arith, is)))
        (λ no. no_fault) (λ no. absurd (no refl)) (inr (inr (inl refl)))
    ended (Err Memory) found run = early 7 (omega arith) (λ yes is. subst (λ (l : List ℕ). SaysFirst (mistakes l) v.said w.said) (sym (whole is).0) (run.first yes)) (λ is. absurd (omega (arith, is))) (λ is. absurd (omega (arith, is)))
        (λ is. absurd (omega (arith, is))) (λ no. no_fault) (λ no. run.no_fault (λ is. absurd (let e : Memory ≡ Output = cc in cc))) (inr (inr (inr (inl refl))))
    ended (Ok done) true run = record {
      all = λ is yes told. subst (λ (l : List ℕ). SaysAll (mistakes l) v.said w.said) (sym (whole told).0) (run.all yes);
      first = λ yes is. subst (λ (l : List ℕ). SaysFirst (mistakes l) v.said w.said) (sym (whole is).0) (run.first yes);
      none = λ is. absurd (omega (arith, is));
      some = λ is told none. not_none (mistakes taken) (sym run.found) (ap mistakes (sym (whole told).0) ∙ none);
      ended = λ is told. ((whole told).1, omega (arith, short, ap length (whole told).0));
      pull = λ is. absurd (omega (arith, is));
      output = λ is. absurd (omega (arith, is));
      too_long = λ is. absurd (omega (arith, is));
      no_pull_fault = λ no. no_fault;
      no_say_fault = λ no. run.no_fault (λ is. absurd (cc));
      statuses = inl (inr refl);
    }
    ended (Ok done) false run = record {
      all = λ is yes told. subst (λ (l : List ℕ). SaysAll (mistakes l) v.said w.said) (sym (whole told).0) (run.all yes);
      first = λ yes is. subst (λ (l : List ℕ). SaysFirst (mistakes l) v.said w.said) (sym (whole is).0) (run.first yes);
      none = λ is told. ap mistakes (whole told).0 ∙ are_none (mistakes taken) (sym run.found);
      some = λ is. absurd (omega (arith, is));
      ended = λ is told. ((whole told).1, omega (arith, short, ap length (whole told).0));
      pull = λ is. absurd (omega (arith, is));
      output = λ is. absurd (omega (arith, is));
      too_long = λ is. absurd (omega (arith, is));
      no_pull_fault = λ no. no_fault;
      no_say_fault = λ no. run.no_fault (λ is. absurd (cc));
      statuses = inl (inl refl);
    }

  -- no memory before the first pull
  pub wanting : (w ≡ v) → (j ≡ i) → (IsTrue tells → IsTrue told → SaysFirst (mistakes i.left) v.said w.said) → Checked tells told 7 v w i j
  wanting same still first = early 7 (omega arith) first (λ is. absurd (omega (arith, is))) (λ is. absurd (omega (arith, is))) (λ is. absurd (omega (arith, is)))
      (λ no. ap (λ (k : Input). k.pull_faults) still) (λ no. ap (λ (k : Heard). k.say_faults) same) (inr (inr (inr (inl refl))))

-- one piece more
pub taken_on : (first second third taken piece : List ℕ) → first ≡ taken ++ second → second ≡ piece ++ third → first ≡ (taken ++ piece) ++ third
taken_on first second third taken piece one two = one ∙ ap (λ (l : List ℕ). taken ++ l) two ∙ sym (append_assoc taken piece third)

-- nothing is left
pub taken_all : (first second taken : List ℕ) → first ≡ taken ++ second → second ≡ [] → first ≡ taken
taken_all first second taken one none = one ∙ ap (λ (l : List ℕ). taken ++ l) none ∙ append-nil taken

-- an end leaves nothing
pub nothing_left : (second third buffer : List ℕ) (n : ℕ) → n ≡ 0 → second ≡ [] → second ≡ take n buffer ++ third → third ≡ []
nothing_left second third buffer n zero none moved = sym (ap (λ (k : ℕ). take k buffer ++ third) zero) ∙ sym moved ∙ none
