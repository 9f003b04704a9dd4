-- A run keeps catalogues, and a store that holds nothing is one.
use Rattle.std.proofs.Common.{◌≡◌, ℕ, ◌≤◌, Option, Some, None, Ok, Err, List, [], ◌∷◌, map, sum, length, refl, sym, ap, subst, ◌∙◌, arith}
use Rattle.std.specs.Prelude.{IfSome}
use Rattle.std.specs.FinMap.{empty, entries, get, get-empty, len, len-empty, len-entries}
use Rattle.ts_command.specs.Boundary.{boundary_of}
use Rattle.ts_command.specs.declared.boundary.Boundary.{Boundary}
use Rattle.ts_command.specs.declared.boundary.Boundary.TheVariants.{Opens, Commits, RollsBack, Alone}
use Rattle.ts_command.specs.declared.command.Command.{Command}
use Rattle.ts_model.specs.declared.kind.Kind.{Kind}
use Rattle.ts_model.specs.declared.kind.Kind.TheVariants as kinds
use Rattle.ts_model.specs.Catalogue.{Container, Catalogue, name_cmp, empty_catalogue, quotas, In, named}
use Rattle.ts_model.specs.Definitions.{limit}
use Rattle.ts_answer.specs.Answer.{Answered, Tried, ◌>>=◌, settled, outcome, answer, State, Transaction, begun, outside, inside, carried_out_in, run_outcome, run_answer}
use Rattle.ts_catalogue_laws.specs.Catalogue.{IsCatalogue}
use Rattle.ts_catalogue_laws.specs.Commands.{IsFormed}
use Rattle.ts_catalogue_laws.specs.Laws.{AnswersKeepCatalogues, EmptyStoresAreCatalogues, HasCatalogues, RunsKeepCatalogues}
use Rattle.ts_catalogue_laws.proofs.OnceLemmas.{once}

module _ (keeps : AnswersKeepCatalogues) (command : Command) (formed : IsFormed (Ok command)) where
  came : (cat : Catalogue) (answered : Answered) → IsCatalogue cat → outcome (Ok command) cat ≡ Ok answered → IsCatalogue answered.1
  unfolding answer
  came cat answered good is = subst IsCatalogue (ap (λ (m : Tried Answered). (settled cat m).1) is) (keeps cat (Ok command) good formed)

  -- what a step comes to has catalogues
  Comes : Tried (List ℕ × State) → Type 0
  Comes (Ok stepped) = HasCatalogues stepped.1
  Comes (Err refusal) = Unit {0}

  comes : {A : Type 0} (m : Tried A) (f : A → Tried (List ℕ × State)) → ((a : A) → m ≡ Ok a → Comes (f a)) → Comes (m >>= f)
  unfolding ◌>>=◌ Comes
  comes (Ok a) f each = each a refl
  comes (Err refusal) f each = tt

  begun_work : (boundary : Option Boundary) (cat : Catalogue) → IsCatalogue cat → IfSome (begun boundary cat) (λ t. IsCatalogue t.work)
  begun_work (Some Opens) cat good = good
  begun_work (Some Commits) cat good = tt
  begun_work (Some RollsBack) cat good = tt
  begun_work (Some Alone) cat good = tt
  begun_work None cat good = tt

  from_outside : (base : Catalogue) → IsCatalogue base → Comes (outside command base)
  unfolding Comes outside
  from_outside base good = comes _ _ (λ answered is. let next = came base answered good is in record { base = next; work = begun_work (boundary_of command) answered.1 next })

  from_inside : (boundary : Option Boundary) (base work : Catalogue) (accepted : ℕ) → IsCatalogue base → IsCatalogue work → Comes (inside boundary command base work accepted)
  unfolding Comes inside
  from_inside (Some Opens) base work accepted good done = tt
  from_inside (Some Commits) base work accepted good done = record { base = done; work = tt }
  from_inside (Some RollsBack) base work accepted good done = record { base = good; work = tt }
  from_inside (Some Alone) base work accepted good done = tt
  from_inside None base work accepted good done = comes _ _ (λ room a. comes _ _ (λ answered is. record { base = good; work = came work answered done is }))

  from_each : (base : Catalogue) (transaction : Option Transaction) → IsCatalogue base → IfSome transaction (λ t. IsCatalogue t.work) → Comes (carried_out_in command base transaction)
  from_each base None good done = from_outside base good
  from_each base (Some t) good done = from_inside (boundary_of command) base t.work t.accepted good done

  settles : (state : State) (m : Tried (List ℕ × State)) → HasCatalogues state → Comes m → HasCatalogues (settled state m).1
  unfolding Comes
  settles state (Ok stepped) good so = so
  settles state (Err refusal) good so = good

  run_command : (state : State) → HasCatalogues state → HasCatalogues (run_answer state (Ok command)).1
  unfolding run_answer run_outcome
  run_command state good = settles state (carried_out_in command state.base state.transaction) good (from_each state.base state.transaction good.base good.work)

pub run_keeps : AnswersKeepCatalogues → RunsKeepCatalogues
unfolding run_answer run_outcome
run_keeps keeps state (Ok command) good formed = run_command keeps command formed state good
run_keeps keeps state (Err refusal) good formed = good

-- nothing is there
nothing : {X : Type 0} (name : List ℕ) (x : X) → get (empty {X = X} {R = name_cmp}) name ≡ Some x → ⊥
nothing {X} name x there = let none = sym there ∙ get-empty {X = X} name_cmp name in cc

none_few : (X : Type 0) (most : ℕ) → len (empty {X = X} {R = name_cmp}) ≤ most
none_few X most = let none = len-empty name_cmp X in omega (arith, none)

empty_few : (format pages : ℕ) (kind : Kind) → len (named kind (empty_catalogue format pages)) ≤ limit kind
empty_few format pages kinds.RowType = none_few (In kinds.RowType) (limit kinds.RowType)
empty_few format pages kinds.Pattern = none_few (In kinds.Pattern) (limit kinds.Pattern)
empty_few format pages kinds.Calendar = none_few (In kinds.Calendar) (limit kinds.Calendar)
empty_few format pages kinds.Container = none_few (In kinds.Container) (limit kinds.Container)
empty_few format pages kinds.Series = none_few (In kinds.Series) (limit kinds.Series)

none_listed : {A : Type 0} (es : List A) → length es ≡ 0 → es ≡ []
none_listed [] none = refl
none_listed (e ∷ es) none = absurd (omega (arith, none))

no_quotas : (format pages : ℕ) → quotas (empty_catalogue format pages) ≡ 0
no_quotas format pages =
    let none : entries (empty {X = Container} {R = name_cmp}) ≡ [] =
    none_listed (entries (empty {X = Container} {R = name_cmp})) (sym (len-entries (empty {X = Container} {R = name_cmp})) ∙ len-empty name_cmp Container) in
    ap (λ (es : List (List ℕ × Container)). sum (map (λ (c : Container). c.quota) (map (λ (e : List ℕ × Container). e.1) es))) none

pub empty_is : EmptyStoresAreCatalogues
empty_is format pages of_format some most = record {
  format = of_format;
  some_pages = some;
  most_pages = most;
  few = empty_few format pages;
  once = once (empty_catalogue format pages);
  row_types = λ name x there. absurd (nothing name x there);
  patterns = λ name x there. absurd (nothing name x there);
  calendars = λ name x there. absurd (nothing name x there);
  containers = λ name x there. absurd (nothing name x there);
  quotas = let none = no_quotas format pages in omega (arith, none);
  series = λ name x there. absurd (nothing name x there);
}
