-- One item, whatever carries it out: what is said, and what a stop within it leaves.
use Rattle.std.proofs.Common.{◌≡◌, ◌⊎◌, inl, ℕ, ◌≤◌, false, IsTrue, List, [], ◌∷◌, ◌++◌, Result, Ok, Err, IsErr, refl, sym, ◌∙◌, ap, arith}
use Rattle.std.proofs.lemmas.List.{append-nil}
use Rattle.ts_disk.specs.Device.{Device, Lawful, Within, LeavesOnly, Says, Rose}
use Rattle.ts_disk.proofs.Moments.{started, goes_on, leaves_map}
use Rattle.ts_journal.specs.Moment.{Keeps}
use Rattle.ts_replies.specs.Acknowledged.{Protocol, IsStep, TellsApart, IsGoodMoment}
use Rattle.ts_replies.proofs.Steps.{one_answered, one_fair, one_good, one_waits}
use Rattle.ts_carriers.specs.declared.fault.RunFault.{RunFault}
use Rattle.ts_carriers.specs.declared.fault.RunFault.TheVariants.{Disk, Output}
use Rattle.ts_carriers.specs.Run.{Carrier, Ran, SaysReply}
use Rattle.ts_carriers.proofs.ReplyLemmas.{reply_said}

-- the two truth values are apart
pub never : {A : Type 0} → IsTrue false → A
never is = absurd (cc)

-- a count that rose later
pub rose_on : (a b c : ℕ) → a ≤ b → Rose b c → Rose a c
rose_on a b c le rose = omega arith

-- What has to hold of a carrier and its protocol: the replies tell one another apart, a stop between two items leaves an image that means
-- the state, and where nothing is written what carries items out stands where it stood.
pub record IsSteady {E C I : Type 0} (c : Carrier E C) (p : Protocol C I) : Type 1 where
  pub apart : TellsApart p
  pub means : (e : E) (state : C) (d : Device) → c.stands e state d → (image : List ℕ) → d.images image → p.means image state
  pub ready : (e : E) (v w : Device) → w.size ≡ v.size → w.held ≡ v.held → w.faults ≡ v.faults → Within v.images w.images → c.ready e v → c.ready e w
  pub stands : (e : E) (state : C) (v w : Device) → w.size ≡ v.size → w.held ≡ v.held → w.faults ≡ v.faults → Within v.images w.images → c.stands e state v → c.stands e state w

-- an image that means the state before an item or the one after it, and nothing said
abbrev pub Waits : {C I : Type 0} → Protocol C I → C → I → Device → List ℕ → List ℕ → Type 0
Waits p state item v image said = (p.means image state ⊎ p.means image (p.answer state item).1) × (said ≡ v.said)

-- It goes on by one item, with no word said. This line is the reply.
pub record Steps {E C I : Type 0} (c : Carrier E C) (p : Protocol C I) (item : I) (line : List ℕ) (e f : E) (v x : Device) : Type 0 where
  pub ready : c.ready f x
  pub step : IsTrue c.tells → (state : C) → c.stands e state v → (next : C) × IsStep p state item line next × c.stands f next x
  pub waits : IsTrue c.tells → (state : C) → c.stands e state v → LeavesOnly v x (Waits p state item v)
  pub keeps : Keeps c.tells v x
  pub no_fault : x.faults ≡ v.faults

module _ {E C I : Type 0} (c : Carrier E C) (p : Protocol C I) (steady : IsSteady c p) (item : I) (line : List ℕ) where
  -- nothing but the reply is said
  pub steps_here : (e : E) (v : Device) → Lawful c.tells v → c.ready e v → ((state : C) → IsStep p state item line state) → Steps c p item line e e v v
  steps_here e v lawful ready step = record {
    ready = ready;
    step = λ told state at. (state, step state, at);
    waits = λ told state at. started c.tells v (Waits p state item v) lawful (λ image now. (inl (steady.means e state v at image now), refl));
    keeps = record { size = refl; said = refl; say_faults = refl; faults = omega arith; syncs = λ told. omega arith };
    no_fault = refl;
  }

  module _ (e f : E) (v x : Device) (steps : Steps c p item line e f v x) where
    module _ (told : IsTrue c.tells) (state : C) (at : c.stands e state v) where
      waits_good : (image said : List ℕ) → Waits p state item v image said → IsGoodMoment p state (item ∷ []) v.said image said
      waits_good image said now = ([], now.1 ∙ sym (append-nil v.said), one_waits p steady.apart (p.means image) state item now.0)

      pub silent_moments : LeavesOnly v x (IsGoodMoment p state (item ∷ []) v.said)
      silent_moments = leaves_map v x (Waits p state item v) (IsGoodMoment p state (item ∷ []) v.said) waits_good (steps.waits told state at)

      module _ {F : Type 0} (w : Device) (q : Result Unit F) (says : SaysReply c.tells line q x w) where
        pub saying_moments : LeavesOnly v w (IsGoodMoment p state (item ∷ []) v.said)
        saying_moments =
            let next = steps.step told state at in
            goes_on v x w (IsGoodMoment p state (item ∷ []) v.said) _ silent_moments (says.time told) (λ image said now.
            let here : p.means image next.0 = steady.means f next.0 x next.2 image (says.crash image now.0) in (
              now.1.0,
              now.1.1 ∙ ap (λ (l : List ℕ). l ++ now.1.0) steps.keeps.said,
              one_good p steady.apart (p.means image) state item line now.1.0 next.0 next.1 now.1.2 here,
            ))

    -- its reply is said
    pub answered_ran : (w : Device) (q : Result Unit RunFault) → SaysReply c.tells line q x w → (IsErr q → q ≡ Err Output) → Ran c p (item ∷ []) q e f v w
    answered_ran w (Ok y) says fault = record {
      ready = steady.ready f x w says.size says.held says.faults says.crash steps.ready;
      answered = λ told state at.
          let next = steps.step told state at in
          record {
            gained = line;
            last = next.0;
            said = says.said told ∙ ap (λ (l : List ℕ). l ++ line) steps.keeps.said;
            all = one_answered p steady.apart state item line next.0 next.1;
            at = steady.stands f next.0 x w says.size says.held says.faults says.crash next.2;
          };
      fair = λ told state at.
          let next = steps.step told state at in (
            line,
            says.said told ∙ ap (λ (l : List ℕ). l ++ line) steps.keeps.said,
            one_fair p steady.apart state item line line next.0 next.1 ([], sym (append-nil line)),
          );
      moments = λ told state at. saying_moments told state at w (Ok y) says;
      disk = λ is. absurd (cc);
      output = λ is. absurd (cc);
      no_fault = λ no. says.faults ∙ steps.no_fault;
      no_say_fault = λ no. says.no_fault refl ∙ steps.keeps.say_faults;
      size = says.size ∙ steps.keeps.size;
      faults = omega (arith, steps.keeps.faults, says.faults);
      say_faults = omega (arith, steps.keeps.say_faults, says.say_faults);
      syncs = λ told. omega (arith, steps.keeps.syncs told, says.syncs);
    }
    answered_ran w (Err y) says fault = record {
      ready = tt;
      answered = tt;
      fair = λ told state at.
          let next = steps.step told state at in
          let part = says.part told in (
            part.0,
            part.1 ∙ ap (λ (l : List ℕ). l ++ part.0) steps.keeps.said,
            one_fair p steady.apart state item line part.0 next.0 next.1 part.2,
          );
      moments = λ told state at. saying_moments told state at w (Err y) says;
      disk = λ is. absurd (let clash : ◌≡◌ {A = Result Unit RunFault} (Err Disk) (Err Output) = sym is ∙ fault refl in cc);
      output = λ is. rose_on v.say_faults x.say_faults w.say_faults (omega (arith, steps.keeps.say_faults)) (says.cause refl);
      no_fault = λ no. says.faults ∙ steps.no_fault;
      no_say_fault = λ no. absurd (no (fault refl));
      size = says.size ∙ steps.keeps.size;
      faults = omega (arith, steps.keeps.faults, says.faults);
      say_faults = omega (arith, steps.keeps.say_faults, says.say_faults);
      syncs = λ told. omega (arith, steps.keeps.syncs told, says.syncs);
    }

    -- in one piece
    pub said_ran : (w : Device) (q : Result Unit RunFault) → Says c.tells line q x w → (IsErr q → q ≡ Err Output) → Ran c p (item ∷ []) q e f v w
    said_ran w q says fault = answered_ran w q (reply_said c.tells line x w q says) fault

  -- a line is said, and nothing else is done
  pub answered_line : (e : E) (v w : Device) (q : Result Unit RunFault) → Lawful c.tells v → c.ready e v → ((state : C) → IsStep p state item line state) → SaysReply c.tells line q v w → (IsErr q → q ≡ Err Output)
      → Ran c p (item ∷ []) q e e v w
  answered_line e v w q lawful ready step = answered_ran e e v v (steps_here e v lawful ready step) w q

  pub said_line : (e : E) (v w : Device) (q : Result Unit RunFault) → Lawful c.tells v → c.ready e v → ((state : C) → IsStep p state item line state) → Says c.tells line q v w → (IsErr q → q ≡ Err Output)
      → Ran c p (item ∷ []) q e e v w
  said_line e v w q lawful ready step = said_ran e e v v (steps_here e v lawful ready step) w q
