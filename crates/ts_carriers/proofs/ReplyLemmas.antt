-- Replies that are said in pieces.
use Rattle.std.proofs.Common.{◌≡◌, inl, inr, ⊎_elim, ℕ, Bool, IsTrue, List, ◌++◌, take, drop, Result, Ok, Err, refl, sym, ◌∙◌, ap, arith, append_assoc, take-append-drop}
use Rattle.ts_disk.specs.Device.{Device, Elapses, Says, Saying}
use Rattle.ts_replies.specs.Acknowledged.{IsFront}
use Rattle.ts_carriers.specs.Run.{SaysFront, SaysReply}

-- a front of a piece
pub front_of : (n : ℕ) (piece : List ℕ) → IsFront (take n piece) piece
front_of n piece = (drop n piece, sym (take-append-drop n piece))

front_said : (before piece said : List ℕ) → Saying before piece said → SaysFront before piece said
front_said before piece said part = (take part.0 piece, part.1, front_of part.0 piece)

-- a front of the first piece, and one of the second behind the first
front_first : (before first second said : List ℕ) → SaysFront before first said → SaysFront before (first ++ second) said
front_first before first second said front =
    (front.0, front.1, (front.2.0 ++ second, ap (λ (l : List ℕ). l ++ second) front.2.1 ∙ append_assoc front.0 front.2.0 second))

front_second : (before first second middle said : List ℕ) → middle ≡ before ++ first → SaysFront middle second said → SaysFront before (first ++ second) said
front_second before first second middle said is front = (
  first ++ front.0,
  front.1 ∙ ap (λ (l : List ℕ). l ++ front.0) is ∙ append_assoc before first front.0,
  (front.2.0, ap (λ (l : List ℕ). first ++ l) front.2.1 ∙ sym (append_assoc first front.0 front.2.0)),
)

-- more moments
elapses_map : (v w : Device) (P Q : List ℕ → List ℕ → Type 0) → ((image said : List ℕ) → P image said → Q image said) → Elapses v w P → Elapses v w Q
elapses_map v w P Q weaker time = record {
  later = time.later;
  nothing_else = λ t image said le left. ⊎_elim (λ was. inl was) (λ now. inr (weaker image said now)) (time.nothing_else t image said le left);
  keeps = time.keeps;
}

module _ {E : Type 0} (tells : Bool) where
  module _ (piece : List ℕ) (v w : Device) where
    said_time : (q : Result Unit E) → Says tells piece q v w → Elapses v w (λ image said. w.images image × SaysFront v.said piece said)
    said_time q says =
        elapses_map v w (λ image said. w.images image × Saying v.said piece said) (λ image said. w.images image × SaysFront v.said piece said) (λ image said now. (now.0, front_said v.said piece said now.1)) says.time

    -- in one piece
    pub reply_said : (q : Result Unit E) → Says tells piece q v w → SaysReply tells piece q v w
    reply_said (Ok done) says = record {
      time = λ told. said_time (Ok done) says;
      said = says.said;
      part = tt;
      say_faults = says.say_faults;
      cause = says.cause;
      no_fault = says.no_fault;
      syncs = says.syncs;
      faults = says.faults;
      size = says.size;
      held = says.held;
      crash = says.crash;
      no_fewer = says.no_fewer;
    }
    reply_said (Err fault) says = record {
      time = λ told. said_time (Err fault) says;
      said = tt;
      part = λ told. front_said v.said piece w.said says.part;
      say_faults = says.say_faults;
      cause = says.cause;
      no_fault = says.no_fault;
      syncs = says.syncs;
      faults = says.faults;
      size = says.size;
      held = says.held;
      crash = says.crash;
      no_fewer = says.no_fewer;
    }

  module _ (first second : List ℕ) where
    -- the first piece wasn't said whole, so the second wasn't begun
    pub reply_front : (fault : E) (v w : Device) → SaysReply tells first (Err fault) v w → SaysReply tells (first ++ second) (Err fault) v w
    reply_front fault v w says = record {
      time = λ told.
          elapses_map v w (λ image said. w.images image × SaysFront v.said first said) (λ image said. w.images image × SaysFront v.said (first ++ second) said)
          (λ image said now. (now.0, front_first v.said first second said now.1)) (says.time told);
      said = tt;
      part = λ told. front_first v.said first second w.said (says.part told);
      say_faults = says.say_faults;
      cause = says.cause;
      no_fault = says.no_fault;
      syncs = says.syncs;
      faults = says.faults;
      size = says.size;
      held = says.held;
      crash = says.crash;
      no_fewer = says.no_fewer;
    }

    -- the first was, and the second behind it, whole or not
    module _ (v x w : Device) (front : SaysReply {E = E} tells first (Ok tt) v x) where
      both_time : (q : Result Unit E) → SaysReply tells second q x w → IsTrue tells → Elapses v w (λ image said. w.images image × SaysFront v.said (first ++ second) said)
      both_time q says told =
          let one = front.time told in
          let two = says.time told in
          record {
            later = omega (arith, one.later, two.later);
            nothing_else = λ t image said le left.
                ⊎_elim
                (λ was. ⊎_elim (λ earlier. inl earlier) (λ now. inr (says.no_fewer image now.0, front_first v.said first second said now.1)) (one.nothing_else t image said le was))
                (λ now. inr (now.0, front_second v.said first second x.said said (front.said told) now.1))
                (two.nothing_else t image said (omega (arith, le, one.later)) left);
            keeps = λ t image said le was. two.keeps t image said (omega (arith, le, one.later)) (one.keeps t image said le was);
          }

      pub reply_both : (q : Result Unit E) → SaysReply tells second q x w → SaysReply tells (first ++ second) q v w
      reply_both (Ok done) says = record {
        time = λ told. both_time (Ok done) says told;
        said = λ told. says.said told ∙ ap (λ (l : List ℕ). l ++ second) (front.said told) ∙ append_assoc v.said first second;
        part = tt;
        say_faults = omega (arith, front.say_faults, says.say_faults);
        cause = λ is. absurd (cc);
        no_fault = λ is. says.no_fault refl ∙ front.no_fault refl;
        syncs = says.syncs ∙ front.syncs;
        faults = says.faults ∙ front.faults;
        size = says.size ∙ front.size;
        held = says.held ∙ front.held;
        crash = λ image now. front.crash image (says.crash image now);
        no_fewer = λ image now. says.no_fewer image (front.no_fewer image now);
      }
      reply_both (Err fault) says = record {
        time = λ told. both_time (Err fault) says told;
        said = tt;
        part = λ told. front_second v.said first second x.said w.said (front.said told) (says.part told);
        say_faults = omega (arith, front.say_faults, says.say_faults);
        cause = λ is. omega (arith, front.say_faults, says.cause refl);
        no_fault = λ is. absurd (cc);
        syncs = says.syncs ∙ front.syncs;
        faults = says.faults ∙ front.faults;
        size = says.size ∙ front.size;
        held = says.held ∙ front.held;
        crash = λ image now. front.crash image (says.crash image now);
        no_fewer = λ image now. says.no_fewer image (front.no_fewer image now);
      }
