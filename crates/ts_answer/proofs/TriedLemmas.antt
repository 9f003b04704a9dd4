-- Tests in a row: `?` in code is `>>=` of what is tried.
use Rattle.std.proofs.Common.{◌≡◌, ℕ, ◌<◌, ◌≤◌, Bool, true, false, Option, Some, None, Result, Ok, Err, IsErrAnd, List, is_some, ℤ, refl, ap, sym, subst}
use Rattle.std.specs.Prelude.{Vec}
use Rattle.std.specs.declared.alloc.AllocError.{AllocError}
use Rattle.std.specs.FinMap.{get, len}
use Rattle.std.proofs.lemmas.Bool.{lt-ltb, le-ltb, le-leb, lt-leb, eq-eqb, ne_eqb}
use Rattle.ts_base.specs.declared.refusal.Refusal.{Refusal}
use Rattle.ts_base.specs.declared.refusal.Refusal.TheVariants as refusals
use Rattle.ts_base.specs.declared.fault.Trouble.{Trouble}
use Rattle.ts_base.specs.declared.fault.Trouble.TheVariants.{Refused, Memory}
use Rattle.ts_row.specs.declared.kind.Column.{Column}
use Rattle.ts_row.specs.declared.value.Literal.{Literal}
use Rattle.ts_row.specs.Row.{bad_column, Row, row_of}
use Rattle.ts_base.specs.Answer.{Answers, AnswersList}
use Rattle.ts_model.specs.Catalogue.{Named, Elements, old_format}
use Rattle.ts_answer.specs.Answer.{Tried, ◌>>=◌, refused_if, known, wanted, unused, within_limit, no_bad_column, beyond_old_format, present, row_at, row_or_mismatch, a_row, within_quota, in_time}
use Rattle.ts_answer.specs.Tried.{IsTried, IsRefusedAs}

-- the tests, passed and failed
pub refused : (test : Bool) (refusal : Refusal) → test ≡ true → refused_if test refusal ≡ Err refusal
unfolding refused_if
refused test refusal h = rw h refl

pub passed : (test : Bool) (refusal : Refusal) → test ≡ false → refused_if test refusal ≡ Ok tt
unfolding refused_if
passed test refusal h = rw h refl

pub wanted-there : {X : Type 0} (name : List ℕ) (named : Named X) (x : X) → get named name ≡ Some x → wanted name named ≡ Ok x
unfolding wanted
wanted-there name named x h = ap known h

pub wanted-missing : {X : Type 0} (name : List ℕ) (named : Named X) → get named name ≡ None → wanted name named ≡ Err refusals.UnknownName
unfolding wanted
wanted-missing name named h = ap known h

pub unused-free : {X : Type 0} (name : List ℕ) (named : Named X) → get named name ≡ None → unused name named ≡ Ok tt
unfolding unused
unused-free name named h = passed (is_some (get named name)) refusals.NameTaken (ap is_some h)

pub unused-taken : {X : Type 0} (name : List ℕ) (named : Named X) (x : X) → get named name ≡ Some x → unused name named ≡ Err refusals.NameTaken
unfolding unused
unused-taken name named x h = refused (is_some (get named name)) refusals.NameTaken (ap is_some h)

pub room-left : {X : Type 0} (most : ℕ) (named : Named X) → len named < most → within_limit most named ≡ Ok tt
unfolding within_limit
room-left most named h = passed _ refusals.TooMany (lt-leb most (len named) h)

pub no-room : {X : Type 0} (most : ℕ) (named : Named X) → most ≤ len named → within_limit most named ≡ Err refusals.TooMany
unfolding within_limit
no-room most named h = refused _ refusals.TooMany (le-leb most (len named) h)

pub good-columns : (stamp : List ℕ) (columns : List Column) → bad_column stamp columns ≡ None → no_bad_column (bad_column stamp columns) ≡ Ok tt
good-columns stamp columns h = ap no_bad_column h

pub bad-columns : (stamp : List ℕ) (columns : List Column) (column : ℕ) → bad_column stamp columns ≡ Some column → no_bad_column (bad_column stamp columns) ≡ Err (refusals.BadRowType column)
bad-columns stamp columns column h = ap no_bad_column h

pub good-row : (columns : List Column) (literals : List Literal) (row : Row) → row_of columns literals ≡ Ok row → a_row columns literals ≡ Ok row
unfolding a_row
good-row columns literals row h = ap row_or_mismatch h

pub bad-row : (columns : List Column) (literals : List Literal) (column : ℕ) → row_of columns literals ≡ Err column → a_row columns literals ≡ Err (refusals.RowMismatch column)
unfolding a_row
bad-row columns literals column h = ap row_or_mismatch h

pub row-there : (stamp : ℤ) (elements : Elements) (row : Row) → get elements stamp ≡ Some row → row_at stamp elements ≡ Ok row
unfolding row_at
row-there stamp elements row h = ap present h

pub row-missing : (stamp : ℤ) (elements : Elements) → get elements stamp ≡ None → row_at stamp elements ≡ Err refusals.Missing
unfolding row_at
row-missing stamp elements h = ap present h

-- what format 1 hasn't
pub format-has : (beyond : Bool) (format : ℕ) → (format ≡ old_format → beyond ≡ false) → beyond_old_format beyond format ≡ Ok tt
unfolding beyond_old_format
format-has true format has = passed _ refusals.OldFormat (ne_eqb format old_format (λ old. absurd (let no = has old in cc)))
format-has false format has = passed _ refusals.OldFormat refl

pub format-hasnt : (format : ℕ) → format ≡ old_format → beyond_old_format true format ≡ Err refusals.OldFormat
unfolding beyond_old_format
format-hasnt format old = refused _ refusals.OldFormat (eq-eqb format old_format old)

pub quota-kept : (charge quota : ℕ) → charge ≤ quota → within_quota charge quota ≡ Ok tt
unfolding within_quota
quota-kept charge quota h = passed _ (refusals.ContainerFull charge quota) (le-ltb quota charge h)

pub quota-passed : (charge quota : ℕ) → quota < charge → within_quota charge quota ≡ Err (refusals.ContainerFull charge quota)
unfolding within_quota
quota-passed charge quota h = refused _ (refusals.ContainerFull charge quota) (lt-ltb quota charge h)

-- a test that is passed goes on
pub on_ok : {B D : Type 0} (m : Tried B) (b : B) (f : B → Tried D) → m ≡ Ok b → (m >>= f) ≡ f b
unfolding ◌>>=◌
on_ok m b f h = ap (λ t. t >>= f) h

pub on_err : {B D : Type 0} (m : Tried B) (refusal : Refusal) (f : B → Tried D) → m ≡ Err refusal → (m >>= f) ≡ Err refusal
unfolding ◌>>=◌
on_err m refusal f h = ap (λ t. t >>= f) h

pub goes : {A B C D : Type 0} {tried : Tried B} {Alike : A → B → Type 0} {Like : C → D → Type 0} {r : Result C Trouble} (f : B → Tried D) (a : A) → IsTried (Ok a) tried Alike → ((b : B) → Alike a b → IsTried r (f b) Like) → IsTried r (tried >>= f) Like
goes {tried = tried} {Like = Like} {r = r} f a passes rest = subst (λ t. IsTried r t Like) (sym (on_ok tried passes.ok.0 f passes.ok.1)) (rest passes.ok.0 passes.ok.2)

-- one that isn't stops
pub refused_as : {B D : Type 0} (t : Trouble) (tried : Tried B) (f : B → Tried D) → IsRefusedAs t tried → IsRefusedAs t (tried >>= f)
refused_as (Refused refusal) tried f is = on_err tried refusal f is
refused_as (Memory error) tried f is = tt

pub stops : {A B C D : Type 0} {tried : Tried B} {Alike : A → B → Type 0} {Like : C → D → Type 0} {r : Result C Trouble} (f : B → Tried D) (t : Trouble) → IsErrAnd r (λ x. x ≡ t) → IsTried (Err t) tried Alike → IsTried r (tried >>= f) Like
stops {r = Ok a} f t is fails = absurd is
stops {tried = tried} {r = Err other} f t is fails = record { ok = tt; err = subst (λ (x : Trouble). IsRefusedAs x (tried >>= f)) (sym is) (refused_as t tried f fails.err) }

pub goes_refused : {A B D : Type 0} {tried : Tried B} {Alike : A → B → Type 0} (f : B → Tried D) (a : A) (t : Trouble) → IsTried (Ok a) tried Alike → ((b : B) → Alike a b → IsRefusedAs t (f b)) → IsRefusedAs t (tried >>= f)
goes_refused {tried = tried} f a t passes rest = subst (λ m. IsRefusedAs t m) (sym (on_ok tried passes.ok.0 f passes.ok.1)) (rest passes.ok.0 passes.ok.2)

pub fails : {A B C : Type 0} {tried : Tried B} {Alike : A → B → Type 0} {Like : C → B → Type 0} {r : Result C Trouble} (t : Trouble) → IsErrAnd r (λ x. x ≡ t) → IsTried (Err t) tried Alike → IsTried r tried Like
fails {r = Ok a} t is failed = absurd is
fails {tried = tried} {r = Err other} t is failed = record { ok = tt; err = subst (λ (x : Trouble). IsRefusedAs x tried) (sym is) failed.err }

-- no memory
pub no_memory : {C D : Type 0} {tried : Tried D} {Like : C → D → Type 0} {r : Result C Trouble} (error : AllocError) → IsErrAnd r (λ x. x ≡ Memory error) → IsTried r tried Like
no_memory {r = Ok a} error is = absurd is
no_memory {tried = tried} {r = Err other} error is = record { ok = tt; err = subst (λ (x : Trouble). IsRefusedAs x tried) (sym is) tt }

-- all are passed
pub comes : {C D : Type 0} {Like : C → D → Type 0} (c : C) (d : D) → Like c d → IsTried (Ok c) (Ok d) Like
comes c d like = record { ok = (d, refl, like); err = tt }

-- a test of a Bool
pub passes : {C D : Type 0} {test : Bool} {Like : C → D → Type 0} {r : Result C Trouble} (refusal : Refusal) (f : Unit {0} → Tried D) → test ≡ false → IsTried r (f tt) Like → IsTried r (refused_if test refusal >>= f) Like
passes {test = test} {Like = Like} {r = r} refusal f is rest = subst (λ t. IsTried r t Like) (sym (on_ok (refused_if test refusal) tt f (passed test refusal is))) rest

pub refuses : {C D : Type 0} {test : Bool} {Like : C → D → Type 0} (refusal : Refusal) (f : Unit {0} → Tried D) → test ≡ true → IsTried (Err (Refused refusal)) (refused_if test refusal >>= f) Like
refuses {test = test} refusal f is = record { ok = tt; err = on_err (refused_if test refusal) refusal f (refused test refusal is) }

-- what is known to pass, or to be refused
pub tried_ok : {A B : Type 0} {tried : Tried B} {Alike : A → B → Type 0} (a : A) (b : B) → tried ≡ Ok b → Alike a b → IsTried (Ok a) tried Alike
tried_ok a b is like = record { ok = (b, is, like); err = tt }

pub tried_err : {A B : Type 0} {tried : Tried B} {Alike : A → B → Type 0} (refusal : Refusal) → tried ≡ Err refusal → IsTried (Err (Refused refusal)) tried Alike
tried_err refusal is = record { ok = tt; err = is }

-- what a call answers is what is tried
pub answered : {A : Type 0} (tried : Tried A) (result : Result A Trouble) → Answers tried result → IsTried result tried ◌≡◌
answered tried (Ok a) is = tried_ok a a is refl
answered tried (Err (Refused refusal)) is = tried_err refusal is
answered tried (Err (Memory error)) is = no_memory error refl

pub answered_list : {A : Type 0} (tried : Tried (List ℤ)) (result : Result (Vec ℤ A) Trouble) → AnswersList tried result → IsTried result tried (λ listed stamps. listed.items ≡ stamps)
answered_list tried (Ok listed) is = tried_ok listed listed.items is refl
answered_list tried (Err (Refused refusal)) is = tried_err refusal is
answered_list tried (Err (Memory error)) is = no_memory error refl

-- the stamp that is sought
pub stamp_there : (found : Option ℤ) (stamp : ℤ) → found ≡ Some stamp → IsTried (Ok stamp) (in_time found) ◌≡◌
stamp_there found stamp is = tried_ok stamp stamp (ap in_time is) refl

pub stamp_past : (found : Option ℤ) → found ≡ None → IsTried (Err (Refused refusals.PastEnd)) (in_time found) (λ (stamp : ℤ) (same : ℤ). stamp ≡ same)
stamp_past found none = tried_err refusals.PastEnd (ap in_time none)
