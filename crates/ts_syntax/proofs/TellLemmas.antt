-- What is told of an item.
use Rattle.std.proofs.Common.{◌≡◌, ℕ, ◌-◌, ◌≤◌, List, [], ◌∷◌, ◌++◌, length, take, Option, Some, None, Result, Ok, Err, refl, sym, ◌∙◌, ap, subst, arith}
use Rattle.ts_base.specs.declared.fault.Trouble.{Trouble}
use Rattle.ts_base.specs.declared.fault.Trouble.TheVariants.{Refused}
use Rattle.ts_base.specs.declared.refusal.Refusal.{Refusal}
use Rattle.ts_base.specs.declared.refusal.Refusal.TheVariants as refusals
use Rattle.ts_base.specs.Refusal.{refusal_name}
use Rattle.ts_items.specs.Reader.{item_of}
use Rattle.ts_items.specs.declared.reader.Cut.{Cut}
use Rattle.ts_items.specs.declared.reader.Cut.TheVariants as cuts
use Rattle.ts_text.specs.Phrase.{unblanked}
use Rattle.ts_command.specs.Grammar.{command_of, request_of, or_syntax}
use Rattle.ts_command.specs.Misfit.{IsCause}
use Rattle.ts_command.specs.declared.command.Command.{Command}
use Rattle.ts_syntax.specs.Mistakes.{Mistake, place_in, before_place, mistakes_of}
use Rattle.ts_syntax.specs.Reading.{refused_at, syntax_place, told_at, name_of}
use Rattle.ts_syntax.proofs.GrammarLemmas.{same_place, same_command, before_tail, place-le}

-- the place of the refusal that a reading of a statement gives
cause_at : (refusal : Refusal) (outcome : Result Command ℕ) → IsCause (Refused refusal) outcome → syntax_place refusal ≡ refused_at outcome
cause_at (refusals.Syntax place) outcome is = sym (ap refused_at is)
cause_at other outcome is = absurd is

pub cause_place : (trouble : Trouble) (refusal : Refusal) (outcome : Result Command ℕ) → trouble ≡ Refused refusal → IsCause trouble outcome → syntax_place refusal ≡ refused_at outcome
cause_place trouble refusal outcome same is = cause_at refusal outcome (let P : Trouble → Type 0 = λ t. IsCause t outcome in subst P same is)

-- the place that is told lies within the statement
pub told-le : (cut : Cut) (text : List ℕ) (refused : Option ℕ) (place : ℕ) → refused ≡ refused_at (command_of text) → told_at cut (length text) refused ≡ Some place → place ≤ length text
told-le cut text refused place is told = go (command_of text) refl cut (sym (ap (told_at cut (length text)) is) ∙ told) where
  go : (outcome : Result Command ℕ) → command_of text ≡ outcome → (cut : Cut) → told_at cut (length text) (refused_at outcome) ≡ Some place → place ≤ length text
  go (Err at) same cut told = let e : at ≡ place = cc in place-le text place (same ∙ ap Err e)
  go (Ok command) same cuts.Statement told = absurd (cc)
  go (Ok command) same cuts.TooLong told = let e : length text ≡ place = cc in omega (arith, e)
  go (Ok command) same cuts.Unended told = let e : length text ≡ place = cc in omega (arith, e)

-- A mistake at this place, and its name.
pub record Named (start tail : List ℕ) (place : ℕ) (cut : Cut) (mistakes : List Mistake) : Type 0 where
  pub refusal : Refusal
  pub one : mistakes ≡ record { before = start ++ take place tail; refusal = refusal } ∷ []
  pub name : refusal_name refusal ≡ name_of cut

-- the refusal of an item whose statement is refused there
refusal_at : Cut → ℕ → Refusal
refusal_at cuts.Statement place = refusals.Syntax place
refusal_at cuts.TooLong place = refusals.TooLong
refusal_at cuts.Unended place = refusals.Unended

name_at : (cut : Cut) (place : ℕ) → refusal_name (refusal_at cut place) ≡ name_of cut
unfolding refusal_at
name_at cuts.Statement place = refl
name_at cuts.TooLong place = refl
name_at cuts.Unended place = refl

refused_item : (cut : Cut) (text : List ℕ) (place : ℕ) → command_of text ≡ Err place → request_of (item_of cut text) ≡ Err (refusal_at cut place)
unfolding refusal_at
refused_item cuts.Statement text place is = ap or_syntax is
refused_item cuts.TooLong text place is = refl
refused_item cuts.Unended text place is = refl

long_item : (text : List ℕ) → request_of (item_of cuts.TooLong text) ≡ Err (refusal_at cuts.TooLong 0)
unfolding refusal_at
long_item text = refl

end_item : (text : List ℕ) → request_of (item_of cuts.Unended text) ≡ Err (refusal_at cuts.Unended 0)
unfolding refusal_at
end_item text = refl

one_mistake : (front start tail text : List ℕ) (cut : Cut) (place whole n : ℕ) (outcome : Result Command ℕ) → front ≡ start ++ tail → command_of text ≡ outcome → place_in text outcome ≡ whole → length text - whole ≡ length tail - place → place ≤ length tail
    → request_of (item_of cut text) ≡ Err (refusal_at cut n) → Named start tail place cut (mistakes_of front text (request_of (item_of cut text)))
one_mistake front start tail text cut place whole n outcome split same at left within request =
    let before : before_place front text (place_in text (command_of text)) ≡ start ++ take place tail =
    ap (λ (r : Result Command ℕ). before_place front text (place_in text r)) same ∙ ap (before_place front text) at ∙ ap (λ (l : List ℕ). before_place l text whole) split ∙ before_tail start tail text place whole left within in
    record {
      refusal = refusal_at cut n;
      one = ap (mistakes_of front text) request ∙ ap (λ (l : List ℕ). record { before = l; refusal = refusal_at cut n } ∷ []) before;
      name = name_at cut n;
    }

module _ (front text start tail : List ℕ) (kept : tail ≡ unblanked text) (split : front ≡ start ++ tail) (cut : Cut) (refused : Option ℕ) (is : refused ≡ refused_at (command_of tail)) where
  pub told_some : (place : ℕ) → told_at cut (length tail) refused ≡ Some place → Named start tail place cut (mistakes_of front text (request_of (item_of cut text)))
  told_some place told = go (command_of (unblanked text)) refl cut (sym (ap (told_at cut (length tail)) (is ∙ ap (λ (l : List ℕ). refused_at (command_of l)) kept)) ∙ told) where
    go : (outcome : Result Command ℕ) → command_of (unblanked text) ≡ outcome → (cut : Cut) → told_at cut (length tail) (refused_at outcome) ≡ Some place → Named start tail place cut (mistakes_of front text (request_of (item_of cut text)))
    go (Err at) same cut told =
        let e : at ≡ place = cc in
        let here = same_place text place (same ∙ ap Err e) in
        one_mistake front start tail text cut place here.whole here.whole (Err here.whole) split here.refused refl
        (here.left ∙ sym (ap (λ (l : List ℕ). length l - place) kept)) (omega (arith, here.within, ap length kept)) (refused_item cut text here.whole here.refused)
    go (Ok command) same cuts.Statement told = absurd (cc)
    go (Ok command) same cuts.TooLong told =
        let e : length tail ≡ place = cc in
        one_mistake front start tail text cuts.TooLong place (length text) 0 (Ok command) split (same_command text command same) refl (omega (arith, e)) (omega (arith, e)) (long_item text)
    go (Ok command) same cuts.Unended told =
        let e : length tail ≡ place = cc in
        one_mistake front start tail text cuts.Unended place (length text) 0 (Ok command) split (same_command text command same) refl (omega (arith, e)) (omega (arith, e)) (end_item text)

  pub told_none_at : told_at cut (length tail) refused ≡ None → mistakes_of front text (request_of (item_of cut text)) ≡ []
  told_none_at told = go (command_of (unblanked text)) refl cut (sym (ap (told_at cut (length tail)) (is ∙ ap (λ (l : List ℕ). refused_at (command_of l)) kept)) ∙ told) where
    go : (outcome : Result Command ℕ) → command_of (unblanked text) ≡ outcome → (cut : Cut) → told_at cut (length tail) (refused_at outcome) ≡ None → mistakes_of front text (request_of (item_of cut text)) ≡ []
    go (Err at) same cut told = absurd (cc)
    go (Ok command) same cuts.Statement told = ap (λ (r : Result Command ℕ). mistakes_of front text (or_syntax r)) (same_command text command same)
    go (Ok command) same cuts.TooLong told = absurd (cc)
    go (Ok command) same cuts.Unended told = absurd (cc)
