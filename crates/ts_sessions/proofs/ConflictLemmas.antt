-- A conflict is with the first commit that stands in the way, in terms of the objects themselves.
use Rattle.std.proofs.Common.{◌≡◌, ◌⊎◌, inl, inr, ℕ, zero, suc, ◌+◌, ◌-◌, ◌<◌, ◌≤◌, Bool, true, false, ◌&&◌, ◌||◌, Option, Some, None, List, [], ◌∷◌, ◌++◌, length, map, get_or, Contains, refl, ap, sym, ◌∙◌, subst, arith}
use Rattle.std.specs.List.{list_any, flat_map}
use Rattle.std.specs.Str.{bytes_eq}
use Rattle.std.proofs.lemmas.Bool.{cases_Bool}
use Rattle.std.proofs.lemmas.List.{length-map}
use Rattle.std.proofs.lemmas.List.Elements.{Contains-append_left, Contains-append_right, Contains-append_cases}
use Rattle.std.proofs.lemmas.List.Folds.{Any-from_list_any, list_any-from_Any}
use Rattle.std.proofs.lemmas.Slice.Eq.{bytes_eq-Decides}
use Rattle.ts_command.specs.declared.command.Command.{Command}
use Rattle.ts_model.specs.declared.kind.Kind.{Kind}
use Rattle.ts_model.specs.declared.kind.Kind.TheVariants as kinds
use Rattle.ts_multi.specs.declared.object.Object.{Object}
use Rattle.ts_multi.specs.declared.object.Touched.{Touched}
use Rattle.ts_multi.specs.Objects.{same_kind, same_object, has_object, touched_by, is_touched, meets}
use Rattle.ts_multi.specs.Touched.{objects}
use Rattle.ts_multi.specs.Log.{conflict_after, commit_at}
use Rattle.ts_multi.proofs.ConflictLemmas.{first_conflict, no_conflict}
use Rattle.ts_sessions.specs.Machine.{Commit, Snapshot, Machine, wrote_by, conflict}
use Rattle.ts_sessions.specs.Laws.{StandsInWay, IsFirstInWay, ConflictsAreFirst}

kinds_alike : (a b : Kind) → same_kind a b ≡ true → a ≡ b
kinds_alike kinds.RowType kinds.RowType e = refl
kinds_alike kinds.Pattern kinds.Pattern e = refl
kinds_alike kinds.Calendar kinds.Calendar e = refl
kinds_alike kinds.Container kinds.Container e = refl
kinds_alike kinds.Series kinds.Series e = refl
kinds_alike a b e = absurd (cc)

kind_itself : (a : Kind) → same_kind a a ≡ true
kind_itself kinds.RowType = refl
kind_itself kinds.Pattern = refl
kind_itself kinds.Calendar = refl
kind_itself kinds.Container = refl
kind_itself kinds.Series = refl

both : (a b : Bool) → (a && b) ≡ true → (a ≡ true) × (b ≡ true)
both true true e = (refl, refl)
both true false e = absurd (cc)
both false b e = absurd (cc)

objects_alike : (a b : Object) → same_object a b ≡ true → a ≡ b
objects_alike a b e =
    let parts = both (same_kind a.kind b.kind) (bytes_eq a.name b.name) e in
    let kind = kinds_alike a.kind b.kind parts.0 in
    let name = (bytes_eq-Decides a.name b.name).0 parts.1 in
    λ i. record { kind = kind i; name = name i }

object_itself : (a : Object) → same_object a a ≡ true
object_itself a = (λ i. kind_itself a.kind i && bytes_eq a.name a.name) ∙ (bytes_eq-Decides a.name a.name).1 refl

has_it : (object : Object) (others : List Object) → has_object object others ≡ true → Contains others object
has_it object others e =
    let at = Any-from_list_any (λ other. same_object other object) others e in
    subst (Contains others) (objects_alike at.1 object at.4) (at.0, at.2, at.3)

it_has : (object : Object) (others : List Object) → Contains others object → has_object object others ≡ true
it_has object others there = list_any-from_Any (λ other. same_object other object) others (there.0, object, there.1, there.2, object_itself object)

-- what is touched is among what each touched
is_among : (object : Object) (commands : List Command) → is_touched object (map objects commands) ≡ true → Contains (flat_map (λ command. touched_by (objects command)) commands) object
is_among object [] e = absurd (cc)
is_among object (command ∷ commands) e = elim (cases_Bool (has_object object (touched_by (objects command)))) [
  | inl t ↦ Contains-append_left (touched_by (objects command)) (flat_map (λ c. touched_by (objects c)) commands) object (has_it object (touched_by (objects command)) t)
  | inr f ↦ Contains-append_right (touched_by (objects command)) (flat_map (λ c. touched_by (objects c)) commands) object
      (is_among object commands (sym (λ i. f i || is_touched object (map objects commands)) ∙ e))
]

among_is : (object : Object) (commands : List Command) → Contains (flat_map (λ command. touched_by (objects command)) commands) object → is_touched object (map objects commands) ≡ true
among_is object [] there = absurd (omega (arith, there.1))
among_is object (command ∷ commands) there = elim (Contains-append_cases (touched_by (objects command)) (flat_map (λ c. touched_by (objects c)) commands) object there) [
  | inl here ↦ (λ i. it_has object (touched_by (objects command)) here i || is_touched object (map objects commands))
  | inr later ↦ either (has_object object (touched_by (objects command))) (is_touched object (map objects commands)) (among_is object commands later)
] where
  either : (a b : Bool) → b ≡ true → (a || b) ≡ true
  either true b e = refl
  either false b e = e

-- what meets the commands stands in their way, and the other way round
record Meets (wrote : List Object) (commands : List Command) : Type 0 where
  object : Object
  wrote_it : Contains wrote object
  touched : Contains (flat_map (λ command. touched_by (objects command)) commands) object

meets_so : (wrote : List Object) (commands : List Command) → meets wrote (map objects commands) ≡ true → Meets wrote commands
meets_so wrote commands e =
    let at = Any-from_list_any (λ object. is_touched object (map objects commands)) wrote e in
    record { object = at.1; wrote_it = (at.0, at.2, at.3); touched = is_among at.1 commands at.4 }

so_meets : (wrote : List Object) (commands : List Command) → Meets wrote commands → meets wrote (map objects commands) ≡ true
so_meets wrote commands x =
    list_any-from_Any (λ object. is_touched object (map objects commands)) wrote (x.wrote_it.0, x.object, x.wrote_it.1, x.wrote_it.2, among_is x.object commands x.touched)

module _ (m : Machine) (s : Snapshot) where
  stands : (number : ℕ) → meets (commit_at number (wrote_by m.commits)) (map objects s.commands) ≡ true → StandsInWay m s number
  stands number e =
      let x = meets_so (commit_at number (wrote_by m.commits)) s.commands e in
      record { object = x.object; wrote = x.wrote_it; touched = x.touched }

  stands_not : (number : ℕ) → meets (commit_at number (wrote_by m.commits)) (map objects s.commands) ≡ false → ¬ StandsInWay m s number
  stands_not number e x =
      let yes = so_meets (commit_at number (wrote_by m.commits)) s.commands (record { object = x.object; wrote_it = x.wrote; touched = x.touched }) in
      absurd (cc)

  count : length (wrote_by m.commits) ≡ length m.commits
  count = length-map m.commits (λ commit. commit.wrote)

  first_in_way : (number : ℕ) → conflict m s ≡ Some number → IsFirstInWay m s number
  first_in_way number is =
      let x = first_conflict s.begun (map objects s.commands) (wrote_by m.commits) number is in
      record {
        later = x.later;
        within = omega (arith, x.within, count);
        stands = stands number x.met;
        first = λ earlier after before. stands_not earlier (x.first earlier after before);
      }

  none_in_way : conflict m s ≡ None → (number : ℕ) → s.begun < number → number ≤ length m.commits → ¬ StandsInWay m s number
  none_in_way is number after within =
      stands_not number (no_conflict s.begun (map objects s.commands) (wrote_by m.commits) is number after (omega (arith, within, count)))

pub conflicts : ConflictsAreFirst
conflicts = record { some = first_in_way; none = none_in_way }
