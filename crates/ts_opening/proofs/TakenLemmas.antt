-- A run of what a source asks for: before anything is said it is fair, and good where the volume means its beginning.
use Rattle.std.proofs.Common.{◌≡◌, ⊎_elim, ℕ, Bool, List, [], sym, ◌∙◌, subst}
use Rattle.std.proofs.lemmas.List.{append-nil}
use Rattle.ts_disk.specs.Device.{Device, FirstSync, Input}
use Rattle.ts_replies.specs.Acknowledged.{Protocol, TellsApart, IsGoodMoment}
use Rattle.ts_replies.proofs.Steps.{none_good}
use Rattle.ts_replies.specs.Said.{SaysFairly}
use Rattle.ts_opening.specs.Opening.{Took, RanFrom}

module _ {C I : Type 0} (p : Protocol C I) (apart : TellsApart p) where
  -- nothing said is fair
  pub silent : (state : C) (asked : List I) (v w : Device) → w.said ≡ v.said → SaysFairly p state asked v w
  silent state asked v w same = ([], same ∙ sym (append-nil v.said), (none_good p apart (λ state. Unit {0}) state asked tt).fair)

  -- and good where the image means the state
  pub good_first : (state : C) (asked : List I) (before image said : List ℕ) → p.means image state → said ≡ before → IsGoodMoment p state asked before image said
  good_first state asked before image said means same = ([], same ∙ sym (append-nil before), none_good p apart (p.means image) state asked means)

  -- where nothing was pending, each moment is good
  pub ran_from : (limit : ℕ) (IsEnd : List ℕ → ℕ → Type 0) (asked : Bool → List ℕ → List I) (from : List ℕ → C) (status : ℕ) (v w : Device) (i j : Input) (took : Took limit IsEnd status i j)
      → p.means v.held (from took.taken) → SaysFairly p (from took.taken) (asked took.ended took.taken) v w → FirstSync v w (IsGoodMoment p (from took.taken) (asked took.ended took.taken) v.said) → RanFrom p limit IsEnd asked from status v w i j
  ran_from limit IsEnd asked from status v w i j took means fair moments = record {
    took = took;
    fair = fair;
    moments = moments;
    at_rest = λ only image said left. ⊎_elim
        (λ before. good_first (from took.taken) (asked took.ended took.taken) v.said image said (subst (λ (l : List ℕ). p.means l (from took.taken)) (sym (only image before.0)) means) before.1)
        (λ good. good)
        (moments.each image said left);
  }
