-- Commands of a catalogue one behind the other: outside of transactions, and in transactions of 32.
use Rattle.std.proofs.Common.{◌≡◌, ℕ, zero, suc, ◌+◌, ◌<◌, Bool, true, false, ◌&&◌, cond, None, Ok, Err, List, [], ◌∷◌, ◌++◌, map, refl, ap, sym, ◌∙◌, subst, arith}
use Rattle.std.specs.List.{list_all, flat_map}
use Rattle.std.proofs.lemmas.List.{append-nil, append_assoc}
use Rattle.ts_command.specs.declared.command.Command.{Command}
use Rattle.ts_command.specs.declared.command.Command.TheVariants as commands
use Rattle.ts_command.specs.Boundary.{boundary_of, is_writing}
use Rattle.ts_model.specs.Catalogue.{Catalogue}
use Rattle.ts_answer.specs.Answer.{outcome, State, resting, opened, counted, run_outcome, run_answer, after, replies}
use Rattle.ts_answer.specs.Outcomes.{ends_with_ok, is_answered, are_answered}
use Rattle.ts_answer.proofs.CallerLemmas.{run_came, outside_came, opened_outside, committed_inside, came_inside, ok_lines_are_answers}
use Rattle.ts_dump_laws.specs.Statements.{in_groups, in_transactions}
use Rattle.ts_dump_laws.specs.CarriedOut.{AreCarriedOut, Make}

-- a command that writes, and is no boundary, is answered by a catalogue and makes another of it
pub record IsStep (command : Command) (before next : Catalogue) : Type 0 where
  pub reply : List ℕ
  pub comes : outcome (Ok command) before ≡ Ok (reply, next)
  pub plain : boundary_of command ≡ None
  pub writes : is_writing command ≡ true

-- one behind the other
abbrev pub Steps : List Command → Catalogue → Catalogue → Type 0
Steps [] before last = before ≡ last
Steps (command ∷ more) before last = (next : Catalogue) × IsStep command before next × Steps more next last

pub one_step : (command : Command) (before next : Catalogue) → IsStep command before next → Steps (command ∷ []) before next
one_step command before next step = (next, step, refl)

pub steps_join : (xs ys : List Command) (a b c : Catalogue) → Steps xs a b → Steps ys b c → Steps (xs ++ ys) a c
steps_join [] ys a b c first rest = subst (λ (k : Catalogue). Steps ys k c) (sym first) rest
steps_join (x ∷ xs) ys a b c first rest = (first.0, first.1, steps_join xs ys first.0 b c first.2 rest)

pub steps_to : (xs : List Command) (a b c : Catalogue) → Steps xs a b → b ≡ c → Steps xs a c
steps_to xs a b c steps same = subst (λ (k : Catalogue). Steps xs a k) same steps

-- Each of a list makes its step: what holds of the front that was made and of what is left holds in the end.
module _ {A M : Type 0} (S : M → Catalogue) (P : List A → List A → M → Type 0) (statements : A → List Command) where
  abbrev pub GoesOn : Type 0
  GoesOn = (pre : List A) (e : A) (post : List A) (m : M) → P pre (e ∷ post) m → (next : M) × Steps (statements e) (S m) (S next) × P (pre ++ e ∷ []) post next

  pub all_made : GoesOn → (pre post : List A) (m : M) → P pre post m → (last : M) × Steps (flat_map statements post) (S m) (S last) × P (pre ++ post) [] last
  all_made on pre [] m here = (m, refl, subst (λ (l : List A). P l [] m) (sym (append-nil pre)) here)
  all_made on pre (e ∷ post) m here =
      let one = on pre e post m here in
      let rest = all_made on (pre ++ e ∷ []) post one.0 one.2 in (
        rest.0,
        steps_join (statements e) (flat_map statements post) (S m) (S one.0) (S rest.0) one.1 rest.1,
        subst (λ (l : List A). P l [] rest.0) (append_assoc pre (e ∷ []) post) rest.2,
      )

-- one statement of each
pub one_of_each : {A : Type 0} (statement : A → Command) (es : List A) → flat_map (λ e. statement e ∷ []) es ≡ map statement es
one_of_each statement [] = refl
one_of_each statement (e ∷ es) = ap (λ (l : List Command). statement e ∷ l) (one_of_each statement es)

both_true : (a b : Bool) → a ≡ true → b ≡ true → (a && b) ≡ true
both_true a b first second = ap (λ (x : Bool). x && b) first ∙ second

-- one command more before those that are carried out
module _ (command : Command) (more : List Command) (state next last : State) (reply : List ℕ) (comes : run_outcome (Ok command) state ≡ Ok (reply, next)) (rest : AreCarriedOut more next last) where
  to_next : (run_answer state (Ok command)).1 ≡ next
  to_next = ap (λ (a : List ℕ × State). a.1) (run_came (Ok command) state reply next comes)

  is_yes : is_answered state command ≡ true
  is_yes = ap (λ (t : _). elim t [ Ok answered ↦ true | Err refusal ↦ false ]) comes

  pub carried_on : AreCarriedOut (command ∷ more) state last
  carried_on = record {
    answered = both_true (is_answered state command) (list_all (λ yes. yes) (are_answered (run_answer state (Ok command)).1 more)) is_yes
        (ap (λ (s : State). list_all (λ yes. yes) (are_answered s more)) to_next ∙ rest.answered);
    said = both_true (ends_with_ok (run_answer state (Ok command)).0) (list_all ends_with_ok (replies (run_answer state (Ok command)).1 more)) (ok_lines_are_answers state command ∙ is_yes)
        (ap (λ (s : State). list_all ends_with_ok (replies s more)) to_next ∙ rest.said);
    comes = ap (λ (s : State). after s more) to_next ∙ rest.comes;
  }

nothing_more : (state last : State) → state ≡ last → AreCarriedOut [] state last
nothing_more state last same = record { answered = refl; said = refl; comes = same }

-- outside of transactions
pub steps_make : (xs : List Command) (before last : Catalogue) → Steps xs before last → Make xs before last
steps_make [] before last steps = nothing_more (resting before) (resting last) (ap resting steps)
steps_make (command ∷ more) before last steps =
    carried_on command more (resting before) (resting steps.0) (resting last) steps.1.reply (outside_came command before steps.1.reply steps.0 steps.1.plain steps.1.comes)
    (steps_make more steps.0 last steps.2)

-- in transactions
one_more : (command : Command) (accepted : ℕ) → is_writing command ≡ true → counted command accepted ≡ accepted + 1
one_more command accepted writes = ap (λ (b : Bool). accepted + cond b 1 0) writes

into_open : (command : Command) (more : List Command) (base work next : Catalogue) (last : State) (accepted : ℕ) → accepted < 32 → IsStep command work next
    → AreCarriedOut more (opened base next (accepted + 1)) last → AreCarriedOut (command ∷ more) (opened base work accepted) last
into_open command more base work next last accepted few step rest =
    carried_on command more (opened base work accepted) (opened base next (counted command accepted)) last step.reply
    (came_inside command base work accepted step.plain (λ _. few) step.reply next step.comes)
    (subst (λ (n : ℕ). AreCarriedOut more (opened base next n) last) (sym (one_more command accepted step.writes)) rest)

grouped : (room accepted : ℕ) (xs : List Command) (base work last : Catalogue) → accepted + room ≡ 32 → Steps xs work last
    → AreCarriedOut (in_groups room xs) (opened base work accepted) (resting last)
grouped room accepted [] base work last full steps =
    carried_on commands.Commit [] (opened base work accepted) (resting work) (resting last) _ (committed_inside commands.Commit base work accepted refl)
    (nothing_more (resting work) (resting last) (ap resting steps))
grouped zero accepted (command ∷ more) base work last full steps =
    carried_on commands.Commit _ (opened base work accepted) (resting work) (resting last) _ (committed_inside commands.Commit base work accepted refl)
    (carried_on commands.Begin _ (resting work) (opened work work 0) (resting last) _ (opened_outside commands.Begin work refl)
    (into_open command _ work work steps.0 (resting last) 0 (omega arith) steps.1 (grouped 31 1 more work steps.0 last (omega arith) steps.2)))
grouped (suc room) accepted (command ∷ more) base work last full steps =
    into_open command _ base work steps.0 (resting last) accepted (omega (arith, full)) steps.1 (grouped room (accepted + 1) more base steps.0 last (omega (arith, full)) steps.2)

pub steps_in_transactions : (xs : List Command) (before last : Catalogue) → Steps xs before last → Make (in_transactions xs) before last
steps_in_transactions [] before last steps = nothing_more (resting before) (resting last) (ap resting steps)
steps_in_transactions (command ∷ more) before last steps =
    carried_on commands.Begin _ (resting before) (opened before before 0) (resting last) _ (opened_outside commands.Begin before refl)
    (into_open command _ before before steps.0 (resting last) 0 (omega arith) steps.1 (grouped 31 1 more before steps.0 last (omega arith) steps.2))
