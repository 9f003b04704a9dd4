-- What a state makes of a command, by what is answered to it at the newest catalogue, and by what an engine counts.
use Rattle.std.proofs.Common.{◌≡◌, ℕ, ◌+◌, ◌≤◌, ◌<◌, ◌*◌, Bool, true, false, ◌&&◌, nat_le, if◌then◌else◌, Option, Some, None, IfSome, Ok, Err, List, length, refl, ap, sym, ◌∙◌, subst, arith}
use Rattle.std.specs.Option.{option_map}
use Rattle.std.proofs.lemmas.Bool.{leb-false}
use Rattle.ts_base.specs.declared.refusal.Refusal.{Refusal}
use Rattle.ts_base.specs.declared.refusal.Refusal.TheVariants.{NotOpen, AlreadyOpen, TransactionFull}
use Rattle.ts_command.specs.declared.command.Command.{Command}
use Rattle.ts_command.specs.declared.boundary.Boundary.{Boundary}
use Rattle.ts_command.specs.declared.boundary.Boundary.TheVariants.{Opens, Commits, RollsBack, Alone}
use Rattle.ts_command.specs.Boundary.{boundary_of, is_between, is_writing}
use Rattle.ts_page.specs.Pages.{Contents}
use Rattle.ts_model.specs.Catalogue.{Catalogue}
use Rattle.ts_answer.specs.Answer.{Answered, outcome, settled, ◌>>=◌, refused_if, State, Transaction, resting, opened, newest_of, counted, within_transaction, begun, outside, inside, carried_out_in, run_outcome, run_answer}
use Rattle.ts_answer.specs.Reply.{refusal_line}
use Rattle.ts_engine.specs.declared.transaction.Saved.{Saved}
use Rattle.ts_engine.specs.Engine.{IsSmall}
use Rattle.ts_engine.specs.Transaction.{misplaced_in, counted_in}
use Rattle.ts_engine.proofs.BoundaryLemmas.{none_to_commit, none_to_roll_back, begun_between, none_inside}

-- the state after a command that neither begins nor ends a transaction, where this is the newest catalogue then
abbrev pub plain_next : Command → Catalogue → Option Transaction → Catalogue → State
plain_next command base None cat = resting cat
plain_next command base (Some t) cat = opened base cat (counted command t.accepted)

abbrev pub accepted_of : Option Transaction → Option ℕ
accepted_of o = option_map (λ (t : Transaction). t.accepted) o

abbrev pub accepted_by : Option Saved → Option ℕ
accepted_by o = option_map (λ (s : Saved). s.accepted) o

-- a test that refuses or not
test_none : (b : Bool) (r : Refusal) → ◌≡◌ {A = Option Refusal} (if b then Some r else None) None → b ≡ false
test_none true r is = absurd (cc)
test_none false r is = refl

test_some : (b : Bool) (r q : Refusal) → ◌≡◌ {A = Option Refusal} (if b then Some r else None) (Some q) → (b ≡ true) × (r ≡ q)
test_some true r q is = (refl, cc)
test_some false r q is = absurd (cc)

-- there is room for a command in a transaction where it has its place there
room_none : (command : Command) (accepted : ℕ) → is_between (boundary_of command) ≡ true → misplaced_in (boundary_of command) (is_writing command) (Some accepted) ≡ None → (is_writing command && nat_le 32 accepted) ≡ false
room_none command accepted between placed =
    let none = none_inside (boundary_of command) between (is_writing command) accepted placed in
    test_none (is_writing command && nat_le 32 accepted) TransactionFull (subst (λ (b : Option Boundary). misplaced_in b (is_writing command) (Some accepted) ≡ None) none placed)

-- a command that neither begins nor ends a transaction, where there is place for it
module _ (command : Command) (base : Catalogue) (between : is_between (boundary_of command) ≡ true) where
  in_none : (accepted : ℕ) → misplaced_in (boundary_of command) (is_writing command) (Some accepted) ≡ None → boundary_of command ≡ None
  in_none accepted placed = none_inside (boundary_of command) between (is_writing command) accepted placed

  room : (accepted : ℕ) → misplaced_in (boundary_of command) (is_writing command) (Some accepted) ≡ None → within_transaction command accepted ≡ Ok tt
  unfolding within_transaction refused_if
  room accepted placed = λ i. if room_none command accepted between placed i then Err TransactionFull else Ok tt

  pub plain_ok : (o : Option Transaction) (out : List ℕ) (cat : Catalogue) → misplaced_in (boundary_of command) (is_writing command) (accepted_of o) ≡ None → outcome (Ok command) (newest_of base o) ≡ Ok (out, cat)
      → carried_out_in command base o ≡ Ok (out, plain_next command base o cat)
  unfolding room outside inside ◌>>=◌
  plain_ok None out cat placed is =
      (λ i. is i >>= λ (a : Answered). Ok (a.0, record { base = a.1; transaction = begun (boundary_of command) a.1 }))
      ∙ (λ i. Ok (out, record { base = cat; transaction = begun_between (boundary_of command) between cat i }))
  plain_ok (Some t) out cat placed is =
      (λ i. inside (in_none t.accepted placed i) command base t.work t.accepted)
      ∙ (λ i. room t.accepted placed i >>= λ r. is i >>= λ (a : Answered). Ok (a.0, opened base a.1 (counted command t.accepted)))

  pub plain_err : (o : Option Transaction) (refusal : Refusal) → misplaced_in (boundary_of command) (is_writing command) (accepted_of o) ≡ None → outcome (Ok command) (newest_of base o) ≡ Err refusal
      → carried_out_in command base o ≡ Err refusal
  unfolding room outside inside ◌>>=◌
  plain_err None refusal placed is = λ i. is i >>= λ (a : Answered). Ok (a.0, record { base = a.1; transaction = begun (boundary_of command) a.1 })
  plain_err (Some t) refusal placed is =
      (λ i. inside (in_none t.accepted placed i) command base t.work t.accepted)
      ∙ (λ i. room t.accepted placed i >>= λ r. is i >>= λ (a : Answered). Ok (a.0, opened base a.1 (counted command t.accepted)))

-- the catalogue then, and the count
pub newest_next : (command : Command) (base : Catalogue) (o : Option Transaction) (cat : Catalogue) → newest_of (plain_next command base o cat).base (plain_next command base o cat).transaction ≡ cat
newest_next command base None cat = refl
newest_next command base (Some t) cat = refl

pub accepted_next : (command : Command) (base : Catalogue) (p : Option Saved) (o : Option Transaction) (cat : Catalogue) → accepted_by p ≡ accepted_of o → accepted_by (counted_in command p) ≡ accepted_of (plain_next command base o cat).transaction
accepted_next command base None None cat same = refl
accepted_next command base None (Some t) cat same = absurd (cc)
accepted_next command base (Some s) None cat same = absurd (cc)
accepted_next command base (Some s) (Some t) cat same = let is : s.accepted ≡ t.accepted = cc in ap (λ (n : ℕ). Some (counted command n)) is

-- where an engine has a transaction, the state has one
pub some_of : (p : Option Saved) (o : Option Transaction) → accepted_by p ≡ accepted_of o → (p ≡ None → ⊥) → o ≡ None → ⊥
some_of None o same one none = one refl
some_of (Some s) None same one none = cc
some_of (Some s) (Some t) same one none = cc

-- what is refused before all else
pub misplaced_refused : (command : Command) (base : Catalogue) (b : Option Boundary) → boundary_of command ≡ b → (o : Option Transaction) (refusal : Refusal) → misplaced_in b (is_writing command) (accepted_of o) ≡ Some refusal
    → carried_out_in command base o ≡ Err refusal
unfolding outside inside within_transaction refused_if ◌>>=◌
misplaced_refused command base (Some Opens) is None refusal misplaced = absurd (cc)
misplaced_refused command base (Some Opens) is (Some t) refusal misplaced =
    let why : AlreadyOpen ≡ refusal = cc in (λ i. inside (is i) command base t.work t.accepted) ∙ ap Err why
misplaced_refused command base (Some Commits) is None refusal misplaced =
    let why : NotOpen ≡ refusal = cc in
    (λ i. none_to_commit command is base i >>= λ (a : Answered). Ok (a.0, record { base = a.1; transaction = begun (boundary_of command) a.1 })) ∙ ap Err why
misplaced_refused command base (Some Commits) is (Some t) refusal misplaced = absurd (cc)
misplaced_refused command base (Some RollsBack) is None refusal misplaced =
    let why : NotOpen ≡ refusal = cc in
    (λ i. none_to_roll_back command is base i >>= λ (a : Answered). Ok (a.0, record { base = a.1; transaction = begun (boundary_of command) a.1 })) ∙ ap Err why
misplaced_refused command base (Some RollsBack) is (Some t) refusal misplaced = absurd (cc)
misplaced_refused command base (Some Alone) is None refusal misplaced = absurd (cc)
misplaced_refused command base (Some Alone) is (Some t) refusal misplaced =
    let why : AlreadyOpen ≡ refusal = cc in (λ i. inside (is i) command base t.work t.accepted) ∙ ap Err why
misplaced_refused command base None is None refusal misplaced = absurd (cc)
misplaced_refused command base None is (Some t) refusal misplaced =
    let full = test_some (is_writing command && nat_le 32 t.accepted) TransactionFull refusal misplaced in
    (λ i. inside (is i) command base t.work t.accepted)
    ∙ (λ i. (if full.0 i then Err TransactionFull else Ok tt) >>= λ r. outcome (Ok command) t.work >>= λ (a : Answered). Ok (a.0, opened base a.1 (counted command t.accepted)))
    ∙ ap Err full.1

-- what a request comes to is what is answered
pub run_answers : (state : State) (command : Command) (answered : List ℕ × State) → run_outcome (Ok command) state ≡ Ok answered → run_answer state (Ok command) ≡ answered
unfolding run_answer
run_answers state command answered is = ap (settled state) is

pub run_refuses : (state : State) (command : Command) (refusal : Refusal) → run_outcome (Ok command) state ≡ Err refusal → run_answer state (Ok command) ≡ (refusal_line refusal, state)
unfolding run_answer
run_refuses state command refusal is = ap (settled state) is

pub run_by : (state : State) (command : Command) → run_outcome (Ok command) state ≡ carried_out_in command state.base state.transaction
unfolding run_outcome
run_by state command = refl

-- a command that writes, for which there was place, is within what a transaction may have
pub placed_few : (command : Command) (n : ℕ) → is_between (boundary_of command) ≡ true → is_writing command ≡ true → misplaced_in (boundary_of command) (is_writing command) (Some n) ≡ None → n + 1 ≤ 32
placed_few command n between writes placed =
    let free : nat_le 32 n ≡ false = sym (ap (λ (w : Bool). w && nat_le 32 n) writes) ∙ room_none command n between placed in
    let below : n < 32 = leb-false 32 n free in
    omega arith

-- a command that was accepted is one more at most, and there was place for it
one_more : (command : Command) (n : ℕ) → is_between (boundary_of command) ≡ true → misplaced_in (boundary_of command) (is_writing command) (Some n) ≡ None → n ≤ 32 → counted command n ≤ 32
one_more command n between placed few = by (is_writing command) refl
  where
    by : (b : Bool) → is_writing command ≡ b → counted command n ≤ 32
    by true writes =
        let open_ : nat_le 32 n ≡ false = sym (ap (λ (w : Bool). w && nat_le 32 n) writes) ∙ room_none command n between placed in
        let below : n < 32 = leb-false 32 n open_ in
        subst (λ (w : Bool). n + (if w then 1 else 0) ≤ 32) (sym writes) (omega arith)
    by false reads = subst (λ (w : Bool). n + (if w then 1 else 0) ≤ 32) (sym reads) (omega arith)

-- so the changes stay small where they stay
pub small_counted : (command : Command) (o : Option Saved) (base now : Contents) → is_between (boundary_of command) ≡ true → misplaced_in (boundary_of command) (is_writing command) (accepted_by o) ≡ None → IfSome o (λ s. IsSmall s.accepted base now) → IfSome (counted_in command o) (λ s. IsSmall s.accepted base now)
small_counted command None base now between placed small = tt
small_counted command (Some s) base now between placed small = record {
  few = one_more command s.accepted between placed small.few;
  grown = more small.grown;
}
  where
    more : now.change_bytes + 5 * length base.free ≤ base.change_bytes + 5 * length now.free + s.accepted * 16424
        → now.change_bytes + 5 * length base.free ≤ base.change_bytes + 5 * length now.free + counted command s.accepted * 16424
    more grown = by (if is_writing command then 1 else 0)
      where
        by : (k : ℕ) → now.change_bytes + 5 * length base.free ≤ base.change_bytes + 5 * length now.free + (s.accepted + k) * 16424
        by k = omega (arith, grown)
