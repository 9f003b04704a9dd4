-- What commands come to at a state, the state after them, and the replies to them.
use Rattle.std.proofs.Common.{◌≡◌, ℕ, ◌+◌, suc, ℤ, pos, ◌≤◌, ◌<◌, nat_le, Bool, true, false, ◌&&◌, cond, Option, Some, None, Ok, Err, List, [], ◌∷◌, ◌++◌, length, refl, ap, ◌∙◌, subst}
use Rattle.std.proofs.lemmas.Bool.{le-leb, lt-leb}
use Rattle.ts_base.specs.declared.refusal.Refusal.{Refusal}
use Rattle.ts_base.specs.declared.refusal.Refusal.TheVariants as refusals
use Rattle.ts_command.specs.declared.command.Command.{Command}
use Rattle.ts_command.specs.declared.command.Command.TheVariants as commands
use Rattle.ts_command.specs.declared.boundary.Boundary.{Boundary}
use Rattle.ts_command.specs.declared.boundary.Boundary.TheVariants.{Opens, Commits, RollsBack, Alone}
use Rattle.ts_command.specs.Boundary.{boundary_of, is_writing}
use Rattle.ts_command.specs.Grammar.{Request}
use Rattle.ts_model.specs.Catalogue.{Catalogue}
use Rattle.ts_answer.specs.Reply.{ok_line, number_line, refusal_line}
use Rattle.ts_answer.specs.Answer.{Tried, Answered, ◌>>=◌, refused_if, carried_out, outcome, settled, answer, State, resting, opened, begun, counted, within_transaction, outside, inside, carried_out_in, run_outcome, run_answer, after, replies}

-- one command more
pub after_more : (state : State) (xs : List Command) (c : Command) → after state (xs ++ c ∷ []) ≡ (run_answer (after state xs) (Ok c)).1
after_more state [] c = refl
after_more state (x ∷ xs) c = after_more (run_answer state (Ok x)).1 xs c

pub replies_more : (state : State) (xs : List Command) (c : Command) → replies state (xs ++ c ∷ []) ≡ replies state xs ++ (run_answer (after state xs) (Ok c)).0 ∷ []
replies_more state [] c = refl
replies_more state (x ∷ xs) c = ap (λ (l : List (List ℕ)). (run_answer state (Ok x)).0 ∷ l) (replies_more (run_answer state (Ok x)).1 xs c)

pub length-replies : (state : State) (xs : List Command) → length (replies state xs) ≡ length xs
length-replies state [] = refl
length-replies state (x ∷ xs) = ap suc (length-replies (run_answer state (Ok x)).1 xs)

-- a reply that isn't the line of a refusal has a property
abbrev pub IsSaidSo : {A : Type 0} → (List ℕ → Type 0) → Tried (List ℕ × A) → Type 0
IsSaidSo P (Ok answered) = P answered.0
IsSaidSo P (Err refusal) = Unit {0}

-- what catalogues reply has it, and so have `ok` and numbers: then what a state replies has it
module _ (P : List ℕ → Type 0) (one : P ok_line) (many : (n : ℤ) → P (number_line n)) where
  outside_said : (base : Catalogue) (command : Command) (came : Tried Answered) → IsSaidSo P came
      → IsSaidSo {A = State} P (came >>= λ a. Ok (a.0, record { base = a.1; transaction = begun (boundary_of command) a.1 }))
  unfolding ◌>>=◌
  outside_said base command (Ok a) said = said
  outside_said base command (Err refusal) said = tt

  plain_said : (base : Catalogue) (accepted : ℕ) (command : Command) (room : Tried (Unit {0})) (came : Tried Answered) → IsSaidSo P came
      → IsSaidSo P (room >>= λ r. came >>= λ a. Ok (a.0, opened base a.1 (counted command accepted)))
  unfolding ◌>>=◌
  plain_said base accepted command (Ok r) (Ok a) said = said
  plain_said base accepted command (Ok r) (Err refusal) said = tt
  plain_said base accepted command (Err refusal) came said = tt

  inside_said : (boundary : Option Boundary) (command : Command) (base work : Catalogue) (accepted : ℕ) → IsSaidSo P (outcome (Ok command) work)
      → IsSaidSo P (inside boundary command base work accepted)
  unfolding inside
  inside_said (Some Opens) command base work accepted said = tt
  inside_said (Some Commits) command base work accepted said = many (pos accepted)
  inside_said (Some RollsBack) command base work accepted said = one
  inside_said (Some Alone) command base work accepted said = tt
  inside_said None command base work accepted said = plain_said base accepted command (within_transaction command accepted) (outcome (Ok command) work) said

  command_said : (command : Command) (base : Catalogue) (transaction : Option _) → ((cat : Catalogue) → IsSaidSo P (outcome (Ok command) cat))
      → IsSaidSo P (carried_out_in command base transaction)
  unfolding outside
  command_said command base None said = outside_said base command (outcome (Ok command) base) (said base)
  command_said command base (Some t) said = inside_said (boundary_of command) command base t.work t.accepted (said t.work)

  pub run_said : (request : Request) (state : State) → ((cat : Catalogue) → IsSaidSo P (outcome request cat)) → IsSaidSo P (run_outcome request state)
  unfolding run_outcome
  run_said (Ok command) state said = command_said command state.base state.transaction said
  run_said (Err refusal) state said = tt

-- a request that is refused leaves the state, and so a reply comes with its state
pub run_refused : (request : Request) (state : State) (refusal : Refusal) → run_outcome request state ≡ Err refusal → run_answer state request ≡ (refusal_line refusal, state)
unfolding run_answer
run_refused request state refusal is = ap (settled state) is

pub run_came : (request : Request) (state : State) (reply : List ℕ) (next : State) → run_outcome request state ≡ Ok (reply, next) → run_answer state request ≡ (reply, next)
unfolding run_answer
run_came request state reply next is = ap (settled state) is

-- a request that isn't in the grammar is refused at every state
pub misread_refused : (refusal : Refusal) (state : State) → run_outcome (Err refusal) state ≡ Err refusal
unfolding run_outcome
misread_refused refusal state = refl

-- Where no transaction is open, a command is refused as the catalogue refuses it.
pub outside_refused : (command : Command) (base : Catalogue) (refusal : Refusal) → outcome (Ok command) base ≡ Err refusal → run_outcome (Ok command) (resting base) ≡ Err refusal
unfolding run_outcome outside ◌>>=◌
outside_refused command base refusal is = λ i. is i >>= λ a. Ok (a.0, record { base = a.1; transaction = begun (boundary_of command) a.1 })

-- One that is no boundary leaves none open, with what the catalogue answers.
pub outside_came : (command : Command) (base : Catalogue) (reply : List ℕ) (next : Catalogue) → boundary_of command ≡ None → outcome (Ok command) base ≡ Ok (reply, next)
    → run_outcome (Ok command) (resting base) ≡ Ok (reply, resting next)
unfolding run_outcome outside ◌>>=◌
outside_came command base reply next plain is = λ i. is i >>= λ a. Ok (a.0, record { base = a.1; transaction = begun (plain i) a.1 })

plain_comes : (cat : Catalogue) (command : Command) (came : Tried Answered) → outcome (Ok command) cat ≡ came → boundary_of command ≡ None
    → run_answer (resting cat) (Ok command) ≡ ((settled cat came).0, resting (settled cat came).1)
plain_comes cat command (Ok a) is plain = run_came (Ok command) (resting cat) a.0 (resting a.1) (outside_came command cat a.0 a.1 plain is)
plain_comes cat command (Err refusal) is plain = run_refused (Ok command) (resting cat) refusal (outside_refused command cat refusal is)

-- there its answer is that of the catalogue
pub plain_answer : (cat : Catalogue) (command : Command) → boundary_of command ≡ None
    → run_answer (resting cat) (Ok command) ≡ ((answer cat (Ok command)).0, resting (answer cat (Ok command)).1)
unfolding answer
plain_answer cat command plain = plain_comes cat command (outcome (Ok command) cat) refl plain

-- what a boundary comes to at a catalogue: `ok` where a transaction opens, and else a refusal
abbrev ComesAs : Option Boundary → Catalogue → Tried Answered → Type 0
ComesAs None cat came = Unit {0}
ComesAs (Some Opens) cat came = came ≡ Ok (ok_line, cat)
ComesAs (Some Commits) cat came = came ≡ Err refusals.NotOpen
ComesAs (Some RollsBack) cat came = came ≡ Err refusals.NotOpen
ComesAs (Some Alone) cat came = Unit {0}

boundary_comes : (command : Command) (cat : Catalogue) → ComesAs (boundary_of command) cat (outcome (Ok command) cat)
unfolding outcome carried_out
boundary_comes commands.Begin cat = refl
boundary_comes commands.Commit cat = refl
boundary_comes commands.Rollback cat = refl
boundary_comes command cat = tt

comes_as : (command : Command) (cat : Catalogue) (boundary : Option Boundary) → boundary_of command ≡ boundary → ComesAs boundary cat (outcome (Ok command) cat)
comes_as command cat boundary is = subst (λ (b : Option Boundary). ComesAs b cat (outcome (Ok command) cat)) is (boundary_comes command cat)

-- a transaction is opened where none is
pub opened_outside : (command : Command) (base : Catalogue) → boundary_of command ≡ Some Opens → run_outcome (Ok command) (resting base) ≡ Ok (ok_line, opened base base 0)
unfolding run_outcome outside ◌>>=◌
opened_outside command base opens =
    let is = comes_as command base (Some Opens) opens in
    λ i. is i >>= λ a. Ok (a.0, record { base = a.1; transaction = begun (opens i) a.1 })

-- and none is ended there
pub committed_outside : (command : Command) (base : Catalogue) → boundary_of command ≡ Some Commits → run_outcome (Ok command) (resting base) ≡ Err refusals.NotOpen
committed_outside command base commits = outside_refused command base refusals.NotOpen (comes_as command base (Some Commits) commits)

pub rolled_back_outside : (command : Command) (base : Catalogue) → boundary_of command ≡ Some RollsBack → run_outcome (Ok command) (resting base) ≡ Err refusals.NotOpen
rolled_back_outside command base rolls = outside_refused command base refusals.NotOpen (comes_as command base (Some RollsBack) rolls)

-- one that stands in no transaction leaves none open, with what the catalogue answers
pub alone_outside : (command : Command) (base : Catalogue) (reply : List ℕ) (next : Catalogue) → boundary_of command ≡ Some Alone → outcome (Ok command) base ≡ Ok (reply, next)
    → run_outcome (Ok command) (resting base) ≡ Ok (reply, resting next)
unfolding run_outcome outside ◌>>=◌
alone_outside command base reply next alone is = λ i. is i >>= λ a. Ok (a.0, record { base = a.1; transaction = begun (alone i) a.1 })

-- Where one is open, what a boundary comes to.
module _ (command : Command) (base work : Catalogue) (accepted : ℕ) where
  pub opened_inside : boundary_of command ≡ Some Opens → run_outcome (Ok command) (opened base work accepted) ≡ Err refusals.AlreadyOpen
  unfolding run_outcome inside
  opened_inside opens = λ i. inside (opens i) command base work accepted

  pub committed_inside : boundary_of command ≡ Some Commits → run_outcome (Ok command) (opened base work accepted) ≡ Ok (number_line (pos accepted), resting work)
  unfolding run_outcome inside
  committed_inside commits = λ i. inside (commits i) command base work accepted

  pub rolled_back_inside : boundary_of command ≡ Some RollsBack → run_outcome (Ok command) (opened base work accepted) ≡ Ok (ok_line, resting base)
  unfolding run_outcome inside
  rolled_back_inside rolls = λ i. inside (rolls i) command base work accepted

  pub alone_inside : boundary_of command ≡ Some Alone → run_outcome (Ok command) (opened base work accepted) ≡ Err refusals.AlreadyOpen
  unfolding run_outcome inside
  alone_inside alone = λ i. inside (alone i) command base work accepted

-- a command that writes has a place while fewer than 32 were accepted, and every other has one
has_room : (writes : Bool) (accepted : ℕ) → (writes ≡ true → accepted < 32) → (writes && nat_le 32 accepted) ≡ false
has_room true accepted few = lt-leb 32 accepted (few refl)
has_room false accepted few = refl

pub within_few : (command : Command) (accepted : ℕ) → (is_writing command ≡ true → accepted < 32) → within_transaction command accepted ≡ Ok tt
unfolding within_transaction refused_if
within_few command accepted few = λ i. cond (has_room (is_writing command) accepted few i) (Err refusals.TransactionFull) (Ok tt)

is_full : (writes : Bool) (accepted : ℕ) → writes ≡ true → 32 ≤ accepted → (writes && nat_le 32 accepted) ≡ true
is_full true accepted is full = le-leb 32 accepted full
is_full false accepted is full = absurd (cc)

beyond_full : (command : Command) (accepted : ℕ) → is_writing command ≡ true → 32 ≤ accepted → within_transaction command accepted ≡ Err refusals.TransactionFull
unfolding within_transaction refused_if
beyond_full command accepted writes full = λ i. cond (is_full (is_writing command) accepted writes full i) (Err refusals.TransactionFull) (Ok tt)

-- and what another command does
module _ (command : Command) (base work : Catalogue) (accepted : ℕ) (plain : boundary_of command ≡ None) where
  by_plain : run_outcome (Ok command) (opened base work accepted) ≡ inside None command base work accepted
  unfolding run_outcome
  by_plain = λ i. inside (plain i) command base work accepted

  pub full_inside : is_writing command ≡ true → 32 ≤ accepted → run_outcome (Ok command) (opened base work accepted) ≡ Err refusals.TransactionFull
  unfolding inside ◌>>=◌
  full_inside writes full =
      by_plain ∙ (λ i. beyond_full command accepted writes full i >>= λ r. outcome (Ok command) work >>= λ a. Ok (a.0, opened base a.1 (counted command accepted)))

  module _ (few : is_writing command ≡ true → accepted < 32) where
    pub refused_inside : (refusal : Refusal) → outcome (Ok command) work ≡ Err refusal → run_outcome (Ok command) (opened base work accepted) ≡ Err refusal
    unfolding inside ◌>>=◌
    refused_inside refusal is =
        by_plain ∙ (λ i. within_few command accepted few i >>= λ r. is i >>= λ a. Ok (a.0, opened base a.1 (counted command accepted)))

    pub came_inside : (reply : List ℕ) (next : Catalogue) → outcome (Ok command) work ≡ Ok (reply, next)
        → run_outcome (Ok command) (opened base work accepted) ≡ Ok (reply, opened base next (counted command accepted))
    unfolding inside ◌>>=◌
    came_inside reply next is =
        by_plain ∙ (λ i. within_few command accepted few i >>= λ r. is i >>= λ a. Ok (a.0, opened base a.1 (counted command accepted)))
