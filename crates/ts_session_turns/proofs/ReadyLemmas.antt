-- When commands of sessions can be carried out with what is in hand.
use Rattle.std.proofs.Common.{◌≡◌, ◌⊎◌, inl, inr, ℕ, zero, suc, ◌<◌, Bool, true, Option, Some, None, is_some, IfSome, List, [], ◌∷◌, ◌++◌, length, set, slice_index_or, All, refl, ap, sym, ◌∙◌, subst, arith}
use Rattle.std.proofs.lemmas.Bool.{cases_eq}
use Rattle.std.proofs.lemmas.List.{get_or-set_same, get_or-set_other, length-append}
use Rattle.std.proofs.lemmas.List.Elements.{All-append}
use Rattle.ts_command.specs.declared.command.Command.{Command}
use Rattle.ts_command.specs.Boundary.{boundary_of, is_writing}
use Rattle.ts_command.specs.Form.{HasForm}
use Rattle.ts_page.specs.Pages.{Contents}
use Rattle.ts_multi.specs.Log.{Log, Pending, pending_at}
use Rattle.ts_views.specs.declared.view.View.{View}
use Rattle.ts_views.specs.View.{view_of, OfEachOpen, Turns}
use Rattle.ts_view_catalogues.specs.Catalogues.{IsViewReady}
use Rattle.ts_session_engine.specs.Beside.{Stays, AllStay, OthersStay}
use Rattle.ts_session_engine.specs.Committed.{AreCommands, listed}

-- what a view is that another one turned to
pub turns_is : (R : View → View → Type 0) (Q : View → Type 0) → ((v w : View) → R v w → Q w) → (a b : Option View) → Turns R a b → IfSome b Q
turns_is R Q is None None r = tt
turns_is R Q is None (Some w) r = absurd r
turns_is R Q is (Some v) None r = absurd r
turns_is R Q is (Some v) (Some w) r = is v w r

-- the same by what the view was
pub turns_has : (R : View → View → Type 0) (P Q : View → Type 0) → ((v w : View) → R v w → P v → Q w) → (a b : Option View) → Turns R a b → IfSome a P → IfSome b Q
turns_has R P Q has None None r p = tt
turns_has R P Q has None (Some w) r p = absurd r
turns_has R P Q has (Some v) None r p = absurd r
turns_has R P Q has (Some v) (Some w) r p = has v w r p

-- a view is there still, where it turns
pub turns_some : (R : View → View → Type 0) (a b : Option View) → Turns R a b → is_some b ≡ is_some a
turns_some R None None r = refl
turns_some R None (Some w) r = absurd r
turns_some R (Some v) None r = absurd r
turns_some R (Some v) (Some w) r = refl

pub turns_weaker : (R S : View → View → Type 0) → ((v w : View) → R v w → S v w) → (a b : Option View) → Turns R a b → Turns S a b
turns_weaker R S weaker None None r = tt
turns_weaker R S weaker None (Some w) r = absurd r
turns_weaker R S weaker (Some v) None r = absurd r
turns_weaker R S weaker (Some v) (Some w) r = weaker v w r

pub if_both : (P Q : View → Type 0) (o : Option View) → IfSome o P → IfSome o Q → IfSome o (λ v. P v × Q v)
if_both P Q None p q = tt
if_both P Q (Some v) p q = (p, q)

-- what holds of each open view still holds where that of one session is another one
pub each_set : (P : View → Type 0) (views : List (Option View)) (who : ℕ) (o : Option View) → who < length views → OfEachOpen P views → IfSome o P → OfEachOpen P (set views who o)
each_set P views who o within each here other = elim (cases_eq other who) [
  | inl same ↦
      subst (λ (n : ℕ). IfSome (view_of n (set views who o)) P) (sym same) (subst (λ (q : Option View). IfSome q P) (sym (get_or-set_same views who o None within)) here)
  | inr off ↦ subst (λ (q : Option View). IfSome q P) (sym (get_or-set_other views who other o None off)) (each other)
]

-- whether a session has a transaction
abbrev pub pending_is : List (Option Pending) → ℕ → Bool
pending_is sessions who = is_some (slice_index_or sessions who None)

-- a transaction and a view are both there, or both not
pub alike_set : (sessions : List (Option Pending)) (views : List (Option View)) (who : ℕ) (p : Option Pending) (o : Option View) → length sessions ≡ length views → who < length views
    → is_some p ≡ is_some o
    → ((k : ℕ) → pending_is sessions k ≡ is_some (view_of k views)) → (k : ℕ) → pending_is (set sessions who p) k ≡ is_some (view_of k (set views who o))
alike_set sessions views who p o count within same alike k = elim (cases_eq k who) [
  | inl here ↦
      ap (λ (n : ℕ). pending_is (set sessions who p) n) here ∙ ap is_some (get_or-set_same sessions who p None (omega (arith, count, within))) ∙ same
      ∙ sym (ap is_some (get_or-set_same views who o None within)) ∙ ap (λ (n : ℕ). is_some (view_of n (set views who o))) (sym here)
  | inr off ↦ ap is_some (get_or-set_other sessions who k p None off) ∙ alike k ∙ sym (ap is_some (get_or-set_other views who k o None off))
]

-- The views of all sessions but one stay.
module _ (tells : Bool) (who : ℕ) (a b : Contents) (old new : List (Option View)) (others : OthersStay tells who a b old new) where
  pub others_ready : OfEachOpen (λ x. IsViewReady tells x a) old → IfSome (view_of who new) (λ x. IsViewReady tells x b) → OfEachOpen (λ x. IsViewReady tells x b) new
  others_ready ready own k = elim (cases_eq k who) [
    | inl same ↦ subst (λ (n : ℕ). IfSome (view_of n new) (λ x. IsViewReady tells x b)) (sym same) own
    | inr off ↦
        turns_has (Stays tells a b) (λ x. IsViewReady tells x a) (λ x. IsViewReady tells x b) (λ v w stays is. stays.catalogue.ready is) (view_of k old) (view_of k new) (others.each k off) (ready k)
  ]

  pub others_commands : OfEachOpen (λ x. AreCommands x.commands.items) old → IfSome (view_of who new) (λ x. AreCommands x.commands.items) → OfEachOpen (λ x. AreCommands x.commands.items) new
  others_commands are own k = elim (cases_eq k who) [
    | inl same ↦ subst (λ (n : ℕ). IfSome (view_of n new) (λ x. AreCommands x.commands.items)) (sym same) own
    | inr off ↦
        turns_has (Stays tells a b) (λ x. AreCommands x.commands.items) (λ x. AreCommands x.commands.items) (λ v w stays is. subst AreCommands (sym (λ i. (stays.same.commands i).items)) is) (view_of k old) (view_of k new) (others.each k off) (are k)
  ]

  pub others_alike : (log : Log) → ((k : ℕ) → is_some (pending_at k log) ≡ is_some (view_of k old)) → is_some (pending_at who log) ≡ is_some (view_of who new) → (k : ℕ) → is_some (pending_at k log) ≡ is_some (view_of k new)
  others_alike log alike own k = elim (cases_eq k who) [
    | inl same ↦ ap (λ (n : ℕ). is_some (pending_at n log)) same ∙ own ∙ ap (λ (n : ℕ). is_some (view_of n new)) (sym same)
    | inr off ↦ alike k ∙ sym (turns_some (Stays tells a b) (view_of k old) (view_of k new) (others.each k off))
  ]

  -- where the transaction of that session is another one
  pub others_alike_with : (log : Log) (p : Option Pending) → who < length log.sessions → ((k : ℕ) → is_some (pending_at k log) ≡ is_some (view_of k old)) → is_some p ≡ is_some (view_of who new)
      → (k : ℕ) → pending_is (set log.sessions who p) k ≡ is_some (view_of k new)
  others_alike_with log p within alike own k = elim (cases_eq k who) [
    | inl same ↦
        ap (λ (n : ℕ). pending_is (set log.sessions who p) n) same ∙ ap is_some (get_or-set_same log.sessions who p None within) ∙ own
        ∙ ap (λ (n : ℕ). is_some (view_of n new)) (sym same)
    | inr off ↦ ap is_some (get_or-set_other log.sessions who k p None off) ∙ alike k ∙ sym (turns_some (Stays tells a b) (view_of k old) (view_of k new) (others.each k off))
  ]

  -- that one's stays, too
  pub all_of : Turns (Stays tells a b) (view_of who old) (view_of who new) → AllStay tells a b old new
  all_of own = record {
    count = others.count;
    each = λ k. elim (cases_eq k who) [
      | inl same ↦ subst (λ (n : ℕ). Turns (Stays tells a b) (view_of n old) (view_of n new)) (sym same) own
      | inr off ↦ others.each k off
    ];
  }

-- each view stays
pub all_ready : (tells : Bool) (a b : Contents) (old new : List (Option View)) → AllStay tells a b old new → OfEachOpen (λ x. IsViewReady tells x a) old → OfEachOpen (λ x. IsViewReady tells x b) new
all_ready tells a b old new stay ready k =
    turns_has (Stays tells a b) (λ x. IsViewReady tells x a) (λ x. IsViewReady tells x b) (λ v w stays is. stays.catalogue.ready is) (view_of k old) (view_of k new) (stay.each k) (ready k)

pub all_commands : (tells : Bool) (a b : Contents) (old new : List (Option View)) → AllStay tells a b old new → OfEachOpen (λ x. AreCommands x.commands.items) old → OfEachOpen (λ x. AreCommands x.commands.items) new
all_commands tells a b old new stay are k =
    turns_has (Stays tells a b) (λ x. AreCommands x.commands.items) (λ x. AreCommands x.commands.items) (λ v w stays is. subst AreCommands (sym (λ i. (stays.same.commands i).items)) is) (view_of k old) (view_of k new) (stay.each k) (are k)

pub all_alike : (tells : Bool) (a b : Contents) (old new : List (Option View)) → AllStay tells a b old new → (k : ℕ) → is_some (view_of k new) ≡ is_some (view_of k old)
all_alike tells a b old new stay k = turns_some (Stays tells a b) (view_of k old) (view_of k new) (stay.each k)

-- a command more keeps them such as a transaction may have
one : (P : Command → Type 0) (command : Command) → P command → All P (command ∷ [])
one P command here zero d within = here
one P command here (suc k) d within = absurd (omega (arith, within))

pub more_commands : (command : Command) (x y : List Command) → boundary_of command ≡ None → HasForm command → AreCommands x → (is_writing command ≡ true → length x < 32)
    → (y ≡ x) ⊎ ((y ≡ x ++ command ∷ []) × (is_writing command ≡ true)) → AreCommands y
more_commands command x y plain form are few (inl same) = subst AreCommands (sym same) are
more_commands command x y plain form are few (inr more) =
    let room : length x < 32 = few more.1 in
    subst AreCommands (sym more.0)
    (record {
      few = omega (arith, room, length-append x (command ∷ []));
      writing = All-append (λ (c : Command). is_writing c ≡ true) x (command ∷ []) are.writing (one (λ (c : Command). is_writing c ≡ true) command more.1);
      between = All-append (λ (c : Command). boundary_of c ≡ None) x (command ∷ []) are.between (one (λ (c : Command). boundary_of c ≡ None) command plain);
      form = All-append HasForm x (command ∷ []) are.form (one HasForm command form);
    })

-- a view has room where its commands are few
pub room_listed : (o : Option View) → length (listed o) < 32 → IfSome o (λ x. length x.commands.items < 32)
room_listed None few = tt
room_listed (Some x) few = few
