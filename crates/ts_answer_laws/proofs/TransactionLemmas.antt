-- Transactions: what moves the base, what is rolled back, what is committed, and how many commands one has.
use Rattle.std.proofs.Common.{◌≡◌, ◌⊎◌, inl, inr, ℕ, pos, ◌+◌, ◌≤◌, ◌<◌, nat_le, Bool, true, false, ◌&&◌, cond, Option, Some, None, Ok, Err, IfSome, List, [], ◌∷◌, ◌++◌, refl, ap, sym, ◌∙◌, arith}
use Rattle.std.proofs.lemmas.Bool.{leb-false}
use Rattle.ts_base.specs.declared.refusal.Refusal.TheVariants.{TransactionFull}
use Rattle.ts_command.specs.declared.command.Command.{Command}
use Rattle.ts_command.specs.declared.command.Command.TheVariants as commands
use Rattle.ts_command.specs.declared.boundary.Boundary.{Boundary}
use Rattle.ts_command.specs.declared.boundary.Boundary.TheVariants.{Opens, Commits, RollsBack, Alone}
use Rattle.ts_command.specs.Boundary.{boundary_of, is_writing}
use Rattle.ts_command.specs.Grammar.{Request}
use Rattle.ts_model.specs.Catalogue.{Catalogue}
use Rattle.ts_answer.specs.Reply.{ok_line, number_line, refusal_line}
use Rattle.ts_answer.specs.Answer.{Tried, Answered, ◌>>=◌, refused_if, outcome, settled, answer, State, Transaction, resting, opened, begun, counted, within_transaction, outside, inside, carried_out_in, run_outcome, run_answer}
use Rattle.ts_answer.proofs.CallerLemmas.{run_refused, run_came, misread_refused, outside_refused, outside_came, opened_outside, committed_inside, rolled_back_inside, refused_inside, came_inside}
use Rattle.ts_answer_laws.specs.TransactionLaws.{said_to, behind, IsCommit, OnlyCommitsMoveTheBase, ArePlain, WhatIsRolledBackLeavesNothing, counted_at, accepted_of, HavePlaces, WhatIsCommittedIsMade, IsFew, TransactionsAreNeverOverfull}
use Rattle.ts_answer_laws.proofs.ReadingLemmas.{leaves}

-- a command that doesn't write leaves the catalogue
reads_only : (command : Command) (cat : Catalogue) (a : Answered) → is_writing command ≡ false → outcome (Ok command) cat ≡ Ok a → a.1 ≡ cat
unfolding answer
reads_only command cat a reads is = ap (λ (t : Tried Answered). (settled cat t).1) (sym is) ∙ leaves cat command reads

-- where no transaction is open
abbrev leaving : Command → Answered → List ℕ × State
leaving command a = (a.0, record { base = a.1; transaction = begun (boundary_of command) a.1 })

outside_moves : (base : Catalogue) (command : Command) (came : Tried Answered) → outcome (Ok command) base ≡ came → (writes : Bool) → is_writing command ≡ writes
    → ((settled (resting base) (came >>= λ a. Ok (leaving command a))).1.base ≡ base) ⊎ IsCommit (resting base) command
unfolding run_outcome outside ◌>>=◌
outside_moves base command (Err refusal) is writes same = inl refl
outside_moves base command (Ok a) is false same = inl (reads_only command base a same is)
outside_moves base command (Ok a) is true same = inr (record { stepped = leaving command a; accepted = λ i. is i >>= λ a. Ok (leaving command a); is = inl (refl, same) })

-- where one is
plain_moves : (base work : Catalogue) (count : ℕ) (command : Command) (room : Tried (Unit {0})) (came : Tried Answered)
    → (settled (opened base work count) (room >>= λ r. came >>= λ a. Ok (a.0, opened base a.1 (counted command count)))).1.base ≡ base
unfolding ◌>>=◌
plain_moves base work count command (Ok r) (Ok a) = refl
plain_moves base work count command (Ok r) (Err refusal) = refl
plain_moves base work count command (Err refusal) came = refl

inside_moves : (base work : Catalogue) (count : ℕ) (command : Command) (boundary : Option Boundary) → boundary_of command ≡ boundary
    → ((settled (opened base work count) (inside boundary command base work count)).1.base ≡ base) ⊎ IsCommit (opened base work count) command
unfolding inside
inside_moves base work count command (Some Opens) is = inl refl
inside_moves base work count command (Some Commits) is = inr (record { stepped = (number_line (pos count), resting work); accepted = committed_inside command base work count is; is = inr (refl, is) })
inside_moves base work count command (Some RollsBack) is = inl refl
inside_moves base work count command (Some Alone) is = inl refl
inside_moves base work count command None is = inl (plain_moves base work count command (within_transaction command count) (outcome (Ok command) work))

moves_at : (base : Catalogue) (transaction : Option Transaction) (command : Command)
    → ((settled (record { base = base; transaction = transaction }) (carried_out_in command base transaction)).1.base ≡ base) ⊎ IsCommit (record { base = base; transaction = transaction }) command
unfolding outside
moves_at base None command = outside_moves base command (outcome (Ok command) base) refl (is_writing command) refl
moves_at base (Some t) command = inside_moves base t.work t.accepted command (boundary_of command) refl

pub only_commits_move : OnlyCommitsMoveTheBase
unfolding run_answer run_outcome
only_commits_move state (Err refusal) = inl refl
only_commits_move state (Ok command) = moves_at state.base state.transaction command

-- what is counted of what came
abbrev one_if : Command → Tried Answered → ℕ
one_if command (Ok a) = cond (is_writing command) 1 0
one_if command (Err refusal) = 0

plain_outside : (cat : Catalogue) (command : Command) (came : Tried Answered) → boundary_of command ≡ None → outcome (Ok command) cat ≡ came
    → run_answer (resting cat) (Ok command) ≡ ((settled cat came).0, resting (settled cat came).1)
plain_outside cat command (Ok a) plain is = run_came (Ok command) (resting cat) a.0 (resting a.1) (outside_came command cat a.0 a.1 plain is)
plain_outside cat command (Err refusal) plain is = run_refused (Ok command) (resting cat) refusal (outside_refused command cat refusal is)

plain_inside : (base work : Catalogue) (count : ℕ) (command : Command) (came : Tried Answered) → boundary_of command ≡ None → (is_writing command ≡ true → count < 32)
    → outcome (Ok command) work ≡ came → run_answer (opened base work count) (Ok command) ≡ ((settled work came).0, opened base (settled work came).1 (count + one_if command came))
plain_inside base work count command (Ok a) plain few is =
    run_came (Ok command) (opened base work count) a.0 (opened base a.1 (counted command count)) (came_inside command base work count plain few a.0 a.1 is)
plain_inside base work count command (Err refusal) plain few is =
    let none : count + 0 ≡ count = omega arith in
    run_refused (Ok command) (opened base work count) refusal (refused_inside command base work count plain few refusal is)
    ∙ ap (λ (n : ℕ). (refusal_line refusal, opened base work n)) (sym none)

-- behind these requests and a Commit
record Same (base cat : Catalogue) (count : ℕ) (requests : List Request) : Type 0 where
  said : said_to (opened base cat count) (requests ++ Ok commands.Commit ∷ []) ≡ said_to (resting cat) requests ++ number_line (pos (count + accepted_of cat requests)) ∷ []
  same : behind (opened base cat count) (requests ++ Ok commands.Commit ∷ []) ≡ behind (resting cat) requests

-- one request more, before the others
one_more : (base cat : Catalogue) (count : ℕ) (request : Request) (requests : List Request)
    → run_answer (resting cat) request ≡ ((answer cat request).0, resting (answer cat request).1)
    → run_answer (opened base cat count) request ≡ ((answer cat request).0, opened base (answer cat request).1 (count + counted_at cat request))
    → Same base (answer cat request).1 (count + counted_at cat request) requests → Same base cat count (request ∷ requests)
one_more base cat count request requests out inn others =
    let reply : List ℕ = (answer cat request).0 in
    let next : Catalogue = (answer cat request).1 in
    let one : ℕ = counted_at cat request in
    let sums : (count + one) + accepted_of next requests ≡ count + (one + accepted_of next requests) = omega arith in
    record {
      said = (λ i. (inn i).0 ∷ said_to (inn i).1 (requests ++ Ok commands.Commit ∷ []))
          ∙ ap (λ (rs : List (List ℕ)). reply ∷ rs) others.said
          ∙ ap (λ (n : ℕ). reply ∷ (said_to (resting next) requests ++ number_line (pos n) ∷ [])) sums
          ∙ sym (λ i. (out i).0 ∷ (said_to (out i).1 requests ++ number_line (pos (count + (one + accepted_of next requests))) ∷ []));
      same = (λ i. behind (inn i).1 (requests ++ Ok commands.Commit ∷ [])) ∙ others.same ∙ sym (λ i. behind (out i).1 requests);
    }

-- of a command, by what it comes to
command_outside : (cat : Catalogue) (command : Command) → boundary_of command ≡ None → run_answer (resting cat) (Ok command) ≡ ((answer cat (Ok command)).0, resting (answer cat (Ok command)).1)
unfolding answer
command_outside cat command plain = plain_outside cat command (outcome (Ok command) cat) plain refl

counts_if : (cat : Catalogue) (command : Command) (came : Tried Answered) → outcome (Ok command) cat ≡ came → one_if command came ≡ counted_at cat (Ok command)
counts_if cat command (Ok a) is = λ i. elim (sym is i) [ Ok answered ↦ cond (is_writing command) 1 0 | Err refusal ↦ 0 ]
counts_if cat command (Err refusal) is = λ i. elim (sym is i) [ Ok answered ↦ cond (is_writing command) 1 0 | Err refusal ↦ 0 ]

command_inside : (base cat : Catalogue) (count : ℕ) (command : Command) → boundary_of command ≡ None → (is_writing command ≡ true → count < 32)
    → run_answer (opened base cat count) (Ok command) ≡ ((answer cat (Ok command)).0, opened base (answer cat (Ok command)).1 (count + counted_at cat (Ok command)))
unfolding answer
command_inside base cat count command plain few =
    let came = outcome (Ok command) cat in
    plain_inside base cat count command came plain few refl
    ∙ ap (λ (n : ℕ). ((settled cat came).0, opened base (settled cat came).1 (count + n))) (counts_if cat command came refl)

-- a request that isn't in the grammar
misread_outside : (cat : Catalogue) (refusal : _) → run_answer (resting cat) (Err refusal) ≡ ((answer cat (Err refusal)).0, resting (answer cat (Err refusal)).1)
unfolding answer outcome
misread_outside cat refusal = run_refused (Err refusal) (resting cat) refusal (misread_refused refusal (resting cat))

misread_inside : (base cat : Catalogue) (count : ℕ) (refusal : _)
    → run_answer (opened base cat count) (Err refusal) ≡ ((answer cat (Err refusal)).0, opened base (answer cat (Err refusal)).1 (count + 0))
unfolding answer outcome
misread_inside base cat count refusal =
    let none : count + 0 ≡ count = omega arith in
    run_refused (Err refusal) (opened base cat count) refusal (misread_refused refusal (opened base cat count))
    ∙ ap (λ (n : ℕ). (refusal_line refusal, opened base cat n)) (sym none)

all_same : (base cat : Catalogue) (count : ℕ) (requests : List Request) → ArePlain requests → HavePlaces count cat requests → Same base cat count requests
all_same base cat count [] plain places =
    let none : count + 0 ≡ count = omega arith in
    let ends = run_came (Ok commands.Commit) (opened base cat count) (number_line (pos count)) (resting cat) (committed_inside commands.Commit base cat count refl) in
    record {
      said = (λ i. (ends i).0 ∷ []) ∙ ap (λ (n : ℕ). number_line (pos n) ∷ []) (sym none);
      same = λ i. (ends i).1;
    }
all_same base cat count (Err refusal ∷ requests) plain places =
    one_more base cat count (Err refusal) requests (misread_outside cat refusal) (misread_inside base cat count refusal)
    (all_same base (answer cat (Err refusal)).1 (count + 0) requests plain.1 places.1)
all_same base cat count (Ok command ∷ requests) plain places =
    one_more base cat count (Ok command) requests (command_outside cat command plain.0) (command_inside base cat count command plain.0 places.0)
    (all_same base (answer cat (Ok command)).1 (count + counted_at cat (Ok command)) requests plain.1 places.1)

-- a transaction is begun
begins : (cat : Catalogue) → run_answer (resting cat) (Ok commands.Begin) ≡ (ok_line, opened cat cat 0)
begins cat = run_came (Ok commands.Begin) (resting cat) ok_line (opened cat cat 0) (opened_outside commands.Begin cat refl)

pub what_is_committed : WhatIsCommittedIsMade
what_is_committed = record {
  said = λ cat requests plain places.
      let none : 0 + accepted_of cat requests ≡ accepted_of cat requests = omega arith in
      (λ i. (begins cat i).0 ∷ said_to (begins cat i).1 (requests ++ Ok commands.Commit ∷ []))
      ∙ ap (λ (rs : List (List ℕ)). ok_line ∷ rs) (all_same cat cat 0 requests plain places).said
      ∙ ap (λ (n : ℕ). ok_line ∷ (said_to (resting cat) requests ++ number_line (pos n) ∷ [])) none;
  same = λ cat requests plain places.
      (λ i. behind (begins cat i).1 (requests ++ Ok commands.Commit ∷ [])) ∙ (all_same cat cat 0 requests plain places).same;
}

-- a plain command leaves the transaction open
stays_by : (base work : Catalogue) (count : ℕ) (command : Command) (room : Tried (Unit {0})) (came : Tried Answered)
    → (next : Catalogue) × (n : ℕ) × ((settled (opened base work count) (room >>= λ r. came >>= λ a. Ok (a.0, opened base a.1 (counted command count)))).1 ≡ opened base next n)
unfolding ◌>>=◌
stays_by base work count command (Ok r) (Ok a) = (a.1, counted command count, refl)
stays_by base work count command (Ok r) (Err refusal) = (work, count, refl)
stays_by base work count command (Err refusal) came = (work, count, refl)

stays_open : (base work : Catalogue) (count : ℕ) (command : Command) → boundary_of command ≡ None
    → (next : Catalogue) × (n : ℕ) × ((run_answer (opened base work count) (Ok command)).1 ≡ opened base next n)
unfolding run_answer run_outcome inside
stays_open base work count command plain =
    let stays = stays_by base work count command (within_transaction command count) (outcome (Ok command) work) in
    (stays.0, stays.1, (λ i. (settled (opened base work count) (inside (plain i) command base work count)).1) ∙ stays.2)

-- so all are taken back with it
taken_back : (base work : Catalogue) (count : ℕ) (requests : List Request) → ArePlain requests → behind (opened base work count) (requests ++ Ok commands.Rollback ∷ []) ≡ resting base
unfolding run_answer run_outcome
taken_back base work count [] plain =
    ap (λ (t : Tried (List ℕ × State)). (settled (opened base work count) t).1) (rolled_back_inside commands.Rollback base work count refl)
taken_back base work count (Err refusal ∷ requests) plain = taken_back base work count requests plain.1
taken_back base work count (Ok command ∷ requests) plain =
    let stays = stays_open base work count command plain.0 in
    (λ i. behind (stays.2 i) (requests ++ Ok commands.Rollback ∷ [])) ∙ taken_back base stays.0 stays.1 requests plain.1

pub what_is_rolled_back : WhatIsRolledBackLeavesNothing
what_is_rolled_back cat requests plain =
    (λ i. behind (begins cat i).1 (requests ++ Ok commands.Rollback ∷ [])) ∙ taken_back cat cat 0 requests plain

-- how many are accepted
counts : (writes : Bool) (count : ℕ) → count ≤ 32 → (writes && nat_le 32 count) ≡ false → count + cond writes 1 0 ≤ 32
counts true count few room = let less = leb-false 32 count room in omega (arith, less)
counts false count few room = omega (arith, few)

few_plain : (base work : Catalogue) (count : ℕ) (command : Command) → count ≤ 32 → (full : Bool) → (is_writing command && nat_le 32 count) ≡ full → (came : Tried Answered)
    → IsFew (settled (opened base work count) (refused_if full TransactionFull >>= λ r. came >>= λ a. Ok (a.0, opened base a.1 (counted command count)))).1
unfolding ◌>>=◌ refused_if
few_plain base work count command few true room came = few
few_plain base work count command few false room (Ok a) = counts (is_writing command) count few room
few_plain base work count command few false room (Err refusal) = few

few_inside : (base work : Catalogue) (count : ℕ) (command : Command) (boundary : Option Boundary) → count ≤ 32 → IsFew (settled (opened base work count) (inside boundary command base work count)).1
unfolding inside within_transaction
few_inside base work count command (Some Opens) few = few
few_inside base work count command (Some Commits) few = tt
few_inside base work count command (Some RollsBack) few = tt
few_inside base work count command (Some Alone) few = few
few_inside base work count command None few = few_plain base work count command few (is_writing command && nat_le 32 count) refl (outcome (Ok command) work)

few_begun : (boundary : Option Boundary) (cat : Catalogue) → IfSome (begun boundary cat) (λ t. t.accepted ≤ 32)
few_begun (Some Opens) cat = omega arith
few_begun (Some Commits) cat = tt
few_begun (Some RollsBack) cat = tt
few_begun (Some Alone) cat = tt
few_begun None cat = tt

few_outside : (base : Catalogue) (command : Command) (came : Tried Answered) → IsFew (settled (resting base) (came >>= λ a. Ok (leaving command a))).1
unfolding ◌>>=◌
few_outside base command (Ok a) = few_begun (boundary_of command) a.1
few_outside base command (Err refusal) = tt

few_at : (base : Catalogue) (transaction : Option Transaction) (command : Command) → IfSome transaction (λ t. t.accepted ≤ 32)
    → IsFew (settled (record { base = base; transaction = transaction }) (carried_out_in command base transaction)).1
unfolding outside
few_at base None command few = few_outside base command (outcome (Ok command) base)
few_at base (Some t) command few = few_inside base t.work t.accepted command (boundary_of command) few

pub never_overfull : TransactionsAreNeverOverfull
unfolding run_answer run_outcome
never_overfull state (Err refusal) few = few
never_overfull state (Ok command) few = few_at state.base state.transaction command few
