-- The commands of a view that are carried out in a transaction of the engine, one behind the other.
use Rattle.std.specs.declared.alloc.AllocError.{AllocError}
use Rattle.std.proofs.Common.{◌≡◌, ℕ, ◌+◌, ◌<◌, nat_le, ◌&&◌, Bool, true, false, if◌then◌else◌, IsTrue, Option, Some, None, IfSome, Result, Ok, Err, IfOk, IsErrAnd, List, [], ◌∷◌, ◌++◌, length, length-append, refl, ap, sym, ◌∙◌, subst, arith}
use Rattle.std.specs.Option.{option_map}
use Rattle.std.proofs.lemmas.Bool.{lt-leb}
use Rattle.ts_base.specs.declared.refusal.Refusal.{Refusal}
use Rattle.ts_base.specs.declared.refusal.Refusal.TheVariants.{TransactionFull}
use Rattle.ts_command.specs.declared.command.Command.{Command}
use Rattle.ts_command.specs.Boundary.{boundary_of, is_between, is_writing}
use Rattle.ts_disk.specs.Device.{Device, Lawful, Rose}
use Rattle.ts_page.specs.Pages.{Contents}
use Rattle.ts_journal.specs.Moment.{OnlyReads}
use Rattle.ts_store.specs.OpenBatch.{contents_over}
use Rattle.ts_store.proofs.CallerLemmas.{reads_none, reads_then}
use Rattle.ts_model.specs.Catalogue.{Catalogue}
use Rattle.ts_layout.specs.Meaning.{catalogue_of}
use Rattle.ts_answer.specs.declared.effect.Effect.{Effect}
use Rattle.ts_answer.specs.CarriedOut.{CarriedOut, Comes}
use Rattle.ts_answer.specs.Answer.{Answered, Tried, ◌>>=◌, outcome, State, opened, counted}
use Rattle.ts_answer.specs.Reply.{refusal_line}
use Rattle.ts_answer.specs.View.{view}
use Rattle.ts_sessions.specs.Machine.{replayed}
use Rattle.ts_engine.specs.declared.fault.StepFault.{StepFault}
use Rattle.ts_engine.specs.declared.fault.StepFault.TheVariants.{Disk, Memory, Closed}
use Rattle.ts_engine.specs.declared.transaction.Saved.{Saved}
use Rattle.ts_engine.specs.Engine.{Kept, IsReady, IsAt}
use Rattle.ts_engine.specs.Step.{Stepped}
use Rattle.ts_engine.specs.Transaction.{misplaced_in, counted_in}
use Rattle.ts_engine.proofs.CallerLemmas.{accepted_by, comes_to, refused_to, run_answers, run_refuses, stands}
use Rattle.ts_session_engine.specs.Beside.{newest, GoesOn, SamePages}
use Rattle.ts_session_engine.specs.Replayed.{IsOpenWith, ComesTo, Replays}
use Rattle.ts_session_engine.proofs.ProceedLemmas.{at_untouched}
use Rattle.ts_session_engine.proofs.StayLemmas.{same_newest}

-- one command, and commands behind others
replayed_one : (cat : Catalogue) (command : Command) (a : Answered) → outcome (Ok command) cat ≡ Ok a → replayed cat (command ∷ []) ≡ Ok a.1
unfolding ◌>>=◌
replayed_one cat command a is = λ i. is i >>= λ x. Ok x.1

refused_one_of : (cat : Catalogue) (command : Command) (refusal : Refusal) → outcome (Ok command) cat ≡ Err refusal → replayed cat (command ∷ []) ≡ Err refusal
unfolding ◌>>=◌
refused_one_of cat command refusal is = λ i. is i >>= λ x. Ok x.1

-- what follows where the first commands come to this
abbrev onward : Tried Catalogue → List Command → Tried Catalogue
onward (Ok cat) commands = replayed cat commands
onward (Err refusal) commands = Err refusal

onward_by : (came : Tried Answered) (commands more : List Command) → ((b : Answered) → replayed b.1 (commands ++ more) ≡ onward (replayed b.1 commands) more)
    → (came >>= λ a. replayed a.1 (commands ++ more)) ≡ onward (came >>= λ a. replayed a.1 commands) more
unfolding ◌>>=◌
onward_by (Ok b) commands more each = each b
onward_by (Err refusal) commands more each = refl

replayed_append : (cat : Catalogue) (commands more : List Command) → replayed cat (commands ++ more) ≡ onward (replayed cat commands) more
replayed_append cat [] more = refl
replayed_append cat (command ∷ commands) more = onward_by (outcome (Ok command) cat) commands more (λ b. replayed_append b.1 commands more)

-- a transaction is open with so many, and there is place for one more
pub open_some : (o : Option Saved) (n : ℕ) → option_map (λ (s : Saved). s.accepted) o ≡ Some n → (o ≡ None → ⊥)
open_some None n is none = cc
open_some (Some s) n is none = cc

open_counted : (command : Command) (o p : Option Saved) (n : ℕ) → is_writing command ≡ true → option_map (λ (s : Saved). s.accepted) o ≡ Some n → p ≡ counted_in command o → option_map (λ (s : Saved). s.accepted) p ≡ Some (n + 1)
open_counted command None p n writes is same = absurd (cc)
open_counted command (Some s) p n writes is same =
    let one : counted command s.accepted ≡ s.accepted + 1 = ap (λ (w : Bool). s.accepted + (if w then 1 else 0)) writes in
    let here : s.accepted ≡ n = cc in
    ap (option_map (λ (t : Saved). t.accepted)) same ∙ ap Some (one ∙ ap (λ (k : ℕ). k + 1) here)

counted_one : (command : Command) (n : ℕ) → is_writing command ≡ true → counted command n ≡ n + 1
counted_one command n writes = ap (λ (w : Bool). n + (if w then 1 else 0)) writes

full_not : (writes : Bool) (n : ℕ) → n < 32 → ◌≡◌ {A = Option Refusal} (if writes && nat_le 32 n then Some TransactionFull else None) None
full_not false n few = refl
full_not true n few = ap (λ (b : Bool). if b then Some TransactionFull else None) (lt-leb 32 n few)

pub placed_open : (command : Command) (o : Option Saved) → IfSome o (λ s. s.accepted < 32) → misplaced_in None (is_writing command) (accepted_by o) ≡ None
placed_open command None few = refl
placed_open command (Some s) few = full_not (is_writing command) s.accepted few

module _ (tells : Bool) (command : Command) (n : ℕ) (e f : Kept) (v x : Device) (open_e : IsOpenWith n e) (pages : f.store.pages ≡ e.store.pages) (overlay : f.store.overlay ≡ e.store.overlay) (reads : OnlyReads tells v x) where
  same : SamePages (newest e v) (newest f x)
  same = same_newest e.store f.store v x pages overlay reads.held

  -- it is accepted
  pub accepted_one : (ready : IsReady tells e v) (between : is_between (boundary_of command) ≡ true) (placed : misplaced_in (boundary_of command) (is_writing command) (accepted_by e.saved) ≡ None) (writes : is_writing command ≡ true) (effect : Effect) (out : List ℕ) (c : Contents)
      → CarriedOut tells command (Ok effect) out (view e.tables.definitions e.space (contents_over e.store v)) c → x.faults ≡ v.faults → f.saved ≡ counted_in command e.saved → Stepped tells command (Ok tt) out e f v x
      → Replays tells n (command ∷ []) (Ok true) out e f v x
  accepted_one ready between placed writes effect out c carried no_fault counts stepped =
      let open_f = open_counted command e.saved f.saved n writes open_e counts in
      let comes : (told : IsTrue tells) → Comes tells command effect out (view e.tables.definitions e.space (contents_over e.store v)) c (ready.seen.layout told).0 = λ told. carried.done told (ready.seen.layout told).0 (ready.seen.layout told).1 in
      let came : (told : IsTrue tells) (base work : Catalogue) → IsAt tells e (opened base work n) v → outcome (Ok command) work ≡ Ok (out, catalogue_of (comes told).layout) =
      λ told base work at. ap (λ (cat : Catalogue). outcome (Ok command) cat) (stands tells e v ready told (opened base work n) at) ∙ (comes told).comes told in
      let at_then : (told : IsTrue tells) (base work : Catalogue) → IsAt tells e (opened base work n) v → IsAt tells f (opened base (catalogue_of (comes told).layout) (n + 1)) x =
      λ told base work at.
      let to = comes_to tells command e v between placed (opened base work n) at out (catalogue_of (comes told).layout) (came told base work at) in
      subst (λ (k : ℕ). IsAt tells f (opened base (catalogue_of (comes told).layout) k) x) (counted_one command n writes)
      (subst (λ (s : State). IsAt tells f s x) (ap (λ (a : List ℕ × State). a.1) (run_answers (opened base work n) command (out, opened base (catalogue_of (comes told).layout) (counted command n)) to)) (stepped.moves.at told (opened base work n) at)) in
      record {
        ready = stepped.moves.ready;
        reads = reads;
        no_fault = no_fault;
        newest = same;
        transaction = (n + 1, open_f);
        all = λ done. open_f;
        base = λ told base work at. (catalogue_of (comes told).layout, n + 1, at_then told base work at);
        comes = λ told base work at.
            subst (λ (t : Tried Catalogue). ComesTo tells t base n 1 true out f x) (sym (replayed_one work command (out, catalogue_of (comes told).layout) (came told base work at))) (refl, at_then told base work at);
        disk = λ is. absurd (cc);
        closed = λ faults is. absurd (cc);
      }

  -- it is refused
  pub refused_one : (ready : IsReady tells e v) (between : is_between (boundary_of command) ≡ true) (placed : misplaced_in (boundary_of command) (is_writing command) (accepted_by e.saved) ≡ None) (refusal : Refusal)
      → ((told : IsTrue tells) → outcome (Ok command) (catalogue_of (ready.seen.layout told).0) ≡ Err refusal) → x.faults ≡ v.faults → f.saved ≡ e.saved → Stepped tells command (Ok tt) (refusal_line refusal) e f v x
      → Replays tells n (command ∷ []) (Ok false) (refusal_line refusal) e f v x
  refused_one ready between placed refusal stopped no_fault saved stepped =
      let came : (told : IsTrue tells) (base work : Catalogue) → IsAt tells e (opened base work n) v → outcome (Ok command) work ≡ Err refusal =
      λ told base work at. ap (λ (cat : Catalogue). outcome (Ok command) cat) (stands tells e v ready told (opened base work n) at) ∙ stopped told in
      let at_then : (told : IsTrue tells) (base work : Catalogue) → IsAt tells e (opened base work n) v → IsAt tells f (opened base work n) x =
      λ told base work at.
      let to = refused_to tells command e v between placed (opened base work n) at refusal (came told base work at) in
      subst (λ (s : State). IsAt tells f s x) (ap (λ (a : List ℕ × State). a.1) (run_refuses (opened base work n) command refusal to)) (stepped.moves.at told (opened base work n) at) in
      record {
        ready = stepped.moves.ready;
        reads = reads;
        no_fault = no_fault;
        newest = same;
        transaction = (n, ap (option_map (λ (s : Saved). s.accepted)) saved ∙ open_e);
        all = λ done. absurd (cc);
        base = λ told base work at. (work, n, at_then told base work at);
        comes = λ told base work at.
            subst (λ (t : Tried Catalogue). ComesTo tells t base n 1 false (refusal_line refusal) f x) (sym (refused_one_of work command refusal (came told base work at))) (refl, refl);
        disk = λ is. absurd (cc);
        closed = λ faults is. absurd (cc);
      }

  -- there is no memory for it
  pub wanting_one : (error : AllocError) → x.faults ≡ v.faults → f.saved ≡ e.saved → Stepped tells command (Err (Memory error)) [] e f v x → (out : List ℕ) → Replays tells n (command ∷ []) (Err (Memory error)) out e f v x
  wanting_one error no_fault saved stepped out = record {
    ready = stepped.moves.fault.1;
    reads = reads;
    no_fault = no_fault;
    newest = same;
    transaction = (n, ap (option_map (λ (s : Saved). s.accepted)) saved ∙ open_e);
    all = tt;
    base = λ told base work at. (work, n, at_untouched tells told e f v x stepped.moves.fault.0 stepped.moves.fault.1 (opened base work n) at);
    comes = tt;
    disk = λ is. absurd (cc);
    closed = λ faults is. absurd (cc);
  }

  -- the disk failed
  pub failed_one : Stepped tells command (Err Disk) [] e f v x → (out : List ℕ) → Replays tells n (command ∷ []) (Err Disk) out e f v x
  failed_one stepped out = record {
    ready = tt;
    reads = reads;
    no_fault = tt;
    newest = tt;
    transaction = tt;
    all = tt;
    base = tt;
    comes = tt;
    disk = λ is. stepped.moves.fault;
    closed = λ faults is. absurd (cc);
  }

-- No command is carried out.
pub replays_none : (tells : Bool) (n : ℕ) (out : List ℕ) (e : Kept) (v : Device) → Lawful tells v → IsReady tells e v → IsOpenWith n e → Replays tells n [] (Ok true) out e e v v
replays_none tells n out e v lawful ready open_e =
    let same : n ≡ n + 0 = omega arith in
    record {
      ready = ready;
      reads = reads_none tells v lawful;
      no_fault = refl;
      newest = record { count = refl; pages = λ k. refl };
      transaction = (n, open_e);
      all = λ done. subst (λ (k : ℕ). IsOpenWith k e) same open_e;
      base = λ told base work at. (work, n, at);
      comes = λ told base work at. (refl, subst (λ (k : ℕ). IsAt tells e (opened base work k) v) same at);
      disk = λ is. absurd (cc);
      closed = λ faults is. absurd (cc);
    }

-- what holds where the engine goes on
pub goes_both : {T : Type 0} (r : Result T StepFault) (P Q : Type 0) → (P → Q) → GoesOn r P → GoesOn r Q
goes_both (Ok y) P Q f p = f p
goes_both (Err Disk) P Q f p = tt
goes_both (Err (Memory error)) P Q f p = f p
goes_both (Err (Closed faults)) P Q f p = tt

-- what holds always
pub goes_all : {T : Type 0} (r : Result T StepFault) (P : Type 0) → P → GoesOn r P
goes_all (Ok y) P p = p
goes_all (Err Disk) P p = tt
goes_all (Err (Memory error)) P p = p
goes_all (Err (Closed faults)) P p = tt

pages_then : (a b c : Contents) → SamePages a b → SamePages b c → SamePages a c
pages_then a b c p q = record { count = q.count ∙ p.count; pages = λ k. q.pages k ∙ p.pages k }

-- All of some commands were accepted; then others are carried out behind them.
module _ (tells : Bool) (n : ℕ) (first second : List Command) (r : Result Bool StepFault) (before out : List ℕ) (e f g : Kept) (v w z : Device)
    (p : Replays tells n first (Ok true) before e f v w) (q : Replays tells (n + length first) second r out f g w z) where
  done_first : (told : IsTrue tells) (base work : Catalogue) → IsAt tells e (opened base work n) v → (next : Catalogue) × (replayed work first ≡ Ok next) × IsAt tells f (opened base next (n + length first)) w
  done_first told base work at = by (replayed work first) refl (p.comes told base work at)
    where
      by : (t : Tried Catalogue) → replayed work first ≡ t → ComesTo tells t base n (length first) true before f w → (next : Catalogue) × (replayed work first ≡ Ok next) × IsAt tells f (opened base next (n + length first)) w
      by (Ok next) is comes = (next, is, comes.1)
      by (Err refusal) is comes = let wrong = comes.0 in absurd (cc)

  -- from where it stood, it comes to stand in the same transaction
  abbrev Stands : Kept → ℕ → Device → Type 0
  Stands k count d = IsTrue tells → (base work : Catalogue) → IsAt tells k (opened base work count) d → (next : Catalogue) × (more : ℕ) × IsAt tells g (opened base next more) z

  long : n + length (first ++ second) ≡ n + length first + length second
  long = omega (arith, length-append first second)

  -- what they come to together
  comes_both : (base work next : Catalogue) (done : Bool) → replayed work first ≡ Ok next → ComesTo tells (replayed next second) base (n + length first) (length second) done out g z → ComesTo tells (replayed work (first ++ second)) base n (length (first ++ second)) done out g z
  comes_both base work next done is comes =
      subst (λ (t : Tried Catalogue). ComesTo tells t base n (length (first ++ second)) done out g z) (sym (replayed_append work first second ∙ ap (λ (t : Tried Catalogue). onward t second) is))
      (by (replayed next second) comes)
    where
      by : (t : Tried Catalogue) → ComesTo tells t base (n + length first) (length second) done out g z → ComesTo tells t base n (length (first ++ second)) done out g z
      by (Ok last) comes = (comes.0, subst (λ (k : ℕ). IsAt tells g (opened base last k) z) (sym long) comes.1)
      by (Err refusal) comes = comes

  pub replays_then : Replays tells n (first ++ second) r out e g v z
  unfolding comes_both done_first
  replays_then = record {
    ready = q.ready;
    reads = reads_then tells v w z p.reads q.reads;
    no_fault = goes_both r (z.faults ≡ w.faults) (z.faults ≡ v.faults) (λ same. same ∙ p.no_fault) q.no_fault;
    newest = goes_both r (SamePages (newest f w) (newest g z)) (SamePages (newest e v) (newest g z)) (pages_then (newest e v) (newest f w) (newest g z) p.newest) q.newest;
    transaction = q.transaction;
    all = all_by r q.all;
    base = goes_both r (Stands f (n + length first) w) (Stands e n v) (λ more told base work at. let here = done_first told base work at in more told base here.0 here.2) q.base;
    comes = comes_by r q.comes;
    disk = λ is. let now = q.disk is in (subst (λ (k : ℕ). Rose k z.faults) p.no_fault now.0, now.1);
    closed = q.closed;
  }
    where
      all_by : (s : Result Bool StepFault) → IfOk s (λ done. done ≡ true → IsOpenWith (n + length first + length second) g) → IfOk s (λ done. done ≡ true → IsOpenWith (n + length (first ++ second)) g)
      all_by (Ok done) all = λ is. subst (λ (k : ℕ). IsOpenWith k g) (sym long) (all is)
      all_by (Err fault) all = tt

      comes_by : (s : Result Bool StepFault) → IfOk s (λ done. IsTrue tells → (base work : Catalogue) → IsAt tells f (opened base work (n + length first)) w → ComesTo tells (replayed work second) base (n + length first) (length second) done out g z)
          → IfOk s (λ done. IsTrue tells → (base work : Catalogue) → IsAt tells e (opened base work n) v → ComesTo tells (replayed work (first ++ second)) base n (length (first ++ second)) done out g z)
      comes_by (Ok done) comes = λ told base work at. let here = done_first told base work at in comes_both base work here.0 done here.1 (comes told base here.0 here.2)
      comes_by (Err fault) comes = tt

-- One was refused: so are all with others behind them. And so it is where there was no memory, or the disk failed.
pub refused_more : (tells : Bool) (n : ℕ) (first more : List Command) (out : List ℕ) (e f : Kept) (v w : Device) → Replays tells n first (Ok false) out e f v w → Replays tells n (first ++ more) (Ok false) out e f v w
refused_more tells n first more out e f v w p = record {
  ready = p.ready;
  reads = p.reads;
  no_fault = p.no_fault;
  newest = p.newest;
  transaction = p.transaction;
  all = λ done. absurd (cc);
  base = p.base;
  comes = λ told base work at. by base work (replayed work first) refl (p.comes told base work at);
  disk = p.disk;
  closed = p.closed;
}
  where
    by : (base work : Catalogue) (t : Tried Catalogue) → replayed work first ≡ t → ComesTo tells t base n (length first) false out f w → ComesTo tells (replayed work (first ++ more)) base n (length (first ++ more)) false out f w
    by base work (Ok next) is comes = let wrong = comes.0 in absurd (cc)
    by base work (Err refusal) is comes = subst (λ (t : Tried Catalogue). ComesTo tells t base n (length (first ++ more)) false out f w) (sym (replayed_append work first more ∙ ap (λ (t : Tried Catalogue). onward t more) is)) comes

pub stopped_more : (tells : Bool) (n : ℕ) (first all : List Command) (fault : StepFault) (out : List ℕ) (e f : Kept) (v w : Device) → Replays tells n first (Err fault) out e f v w → Replays tells n all (Err fault) out e f v w
stopped_more tells n first all fault out e f v w p = record { ready = p.ready; reads = p.reads; no_fault = p.no_fault; newest = p.newest; transaction = p.transaction; all = tt; base = p.base; comes = tt; disk = p.disk; closed = p.closed }

-- a fault is passed on
pub replays_by : (tells : Bool) (n : ℕ) (list : List Command) (r : Result Bool StepFault) (fault : StepFault) (out : List ℕ) (e f : Kept) (v w : Device) → IsErrAnd r (λ k. k ≡ fault) → Replays tells n list (Err fault) out e f v w → Replays tells n list r out e f v w
replays_by tells n list (Ok done) fault out e f v w is replays = absurd is
replays_by tells n list (Err k) fault out e f v w is replays = subst (λ (z : StepFault). Replays tells n list (Err z) out e f v w) (sym is) replays
