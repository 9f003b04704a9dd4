-- Views that are changed one after the other.
use Rattle.std.proofs.Common.{◌≡◌, inl, inr, ℕ, zero, suc, ◌+◌, ◌<◌, ◌≤◌, false, Option, Some, None, is_none, IsSome, IfSome, List, [], ◌∷◌, length, set, refl, sym, ◌∙◌, subst, arith, length-set}
use Rattle.std.specs.List.{list_any}
use Rattle.std.proofs.lemmas.Bool.{cases_lt, cases_eq, or_parts}
use Rattle.std.proofs.lemmas.List.{get_or-set_same, get_or-set_other, get_or_past}
use Rattle.ts_page.specs.declared.page.Page.{Page}
use Rattle.ts_views.specs.declared.view.View.{View}
use Rattle.ts_journal.specs.declared.batch.Change.{Change}
use Rattle.ts_journal.specs.Journal.{change_of}
use Rattle.ts_views.specs.View.{view_of, lacks_image, HasImage, KeepsImage, MayKeepImage, OfEachOpen, Turns, EachTurns}

abbrev pub Relation : Type 1
Relation = View → View → Type 0

-- a weaker relation
pub turns_weaker : (R S : Relation) → ((v w : View) → R v w → S v w) → (old new : Option View) → Turns R old new → Turns S old new
turns_weaker R S weaker None None turns = tt
turns_weaker R S weaker None (Some w) turns = turns
turns_weaker R S weaker (Some v) None turns = turns
turns_weaker R S weaker (Some v) (Some w) turns = weaker v w turns

turns_same : (R : Relation) → ((v : View) → R v v) → (o : Option View) → Turns R o o
turns_same R same None = tt
turns_same R same (Some v) = same v

-- the first of them have turned, the others are as they were
pub record TurnsBelow (R : Relation) (i : ℕ) (old new : List (Option View)) : Type 0 where
  pub count : length new ≡ length old
  pub below : (who : ℕ) → who < i → Turns R (view_of who old) (view_of who new)
  pub above : (who : ℕ) → i ≤ who → view_of who new ≡ view_of who old

pub none_turned : (R : Relation) (views : List (Option View)) → TurnsBelow R 0 views views
none_turned R views = record { count = refl; below = λ who lower. absurd (omega (arith, lower)); above = λ who at_least. refl }

-- one more
pub one_turned : (R : Relation) (i : ℕ) (old new : List (Option View)) (view : Option View) → i < length new → TurnsBelow R i old new
    → Turns R (view_of i new) view → TurnsBelow R (i + 1) old (set new i view)
one_turned R i old new view within so_far turns = record {
  count = length-set new i view ∙ so_far.count;
  below = λ who lower. elim (cases_eq who i) [
    | inl here ↦ subst (λ (n : ℕ). Turns R (view_of n old) (view_of n (set new i view))) (sym here)
        (subst (λ (o : Option View). Turns R (view_of i old) o) (sym (get_or-set_same new i view None within))
        (subst (λ (o : Option View). Turns R o view) (so_far.above i (omega arith)) turns))
    | inr other ↦ subst (λ (o : Option View). Turns R (view_of who old) o) (sym (get_or-set_other new i who view None other))
        (so_far.below who (omega (arith, lower, other)))
  ];
  above = λ who at_least. get_or-set_other new i who view None (λ (here : who ≡ i). absurd (omega (arith, at_least, here))) ∙ so_far.above who (omega (arith, at_least));
}

-- all of them, where those that are left stand in the relation to themselves
each_left : (R : Relation) (i : ℕ) (old new : List (Option View)) → ((who : ℕ) → i ≤ who → Turns R (view_of who old) (view_of who old)) → TurnsBelow R i old new → EachTurns R old new
each_left R i old new left so_far = record {
  count = so_far.count;
  each = λ who. elim (cases_lt who i) [
    | inl lower ↦ so_far.below who lower
    | inr at_least ↦ subst (λ (o : Option View). Turns R (view_of who old) o) (sym (so_far.above who at_least)) (left who at_least)
  ];
}

pub all_turned : (R : Relation) (i : ℕ) (old new : List (Option View)) → length old ≤ i → TurnsBelow R i old new → EachTurns R old new
all_turned R i old new all so_far = each_left R i old new
    (λ who at_least. subst (λ (o : Option View). Turns R o o) (sym (get_or_past old who None (omega (arith, all, at_least)))) tt) so_far

keeps_may : (number : ℕ) (page : Page) (v w : View) → KeepsImage number page v w → MayKeepImage number page v w
keeps_may number page v w keeps = record { old = inr keeps.old; others = keeps.others }

same_may : (number : ℕ) (page : Page) (v : View) → MayKeepImage number page v v
same_may number page v = record { old = inl refl; others = record { defs = refl; space = refl; free = refl; own = refl; commands = refl } }

-- the memory ran out at one of them
pub some_turned : (number : ℕ) (page : Page) (i : ℕ) (old new : List (Option View)) (view : Option View) → i < length new → TurnsBelow (KeepsImage number page) i old new
    → Turns (MayKeepImage number page) (view_of i new) view → EachTurns (MayKeepImage number page) old (set new i view)
some_turned number page i old new view within so_far turns =
    let may : TurnsBelow (MayKeepImage number page) i old new = record {
      count = so_far.count;
      below = λ who lower. turns_weaker (KeepsImage number page) (MayKeepImage number page) (keeps_may number page) (view_of who old) (view_of who new) (so_far.below who lower);
      above = so_far.above;
    } in
    each_left (MayKeepImage number page) (i + 1) old (set new i view) (λ who at_least. turns_same (MayKeepImage number page) (same_may number page) (view_of who old))
    (one_turned (MayKeepImage number page) i old new view within may turns)

has_change : (o : Option Change) → is_none o ≡ false → IsSome o
has_change None lacks = absurd (cc)
has_change (Some change) lacks = refl

has_image : (number : ℕ) (o : Option View) → lacks_image number o ≡ false → IfSome o (HasImage number)
has_image number None none = tt
has_image number (Some v) none = has_change (change_of number v.old.entries) none

-- where none lacks it, each open view has the image
pub none_lacks : (number : ℕ) (views : List (Option View)) → list_any (lacks_image number) views ≡ false → OfEachOpen (HasImage number) views
none_lacks number [] none who = tt
none_lacks number (view ∷ views) none zero = has_image number view (or_parts (lacks_image number view) (list_any (lacks_image number) views) none).0
none_lacks number (view ∷ views) none (suc who) = none_lacks number views (or_parts (lacks_image number view) (list_any (lacks_image number) views) none).1 who
