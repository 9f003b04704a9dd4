-- Tests in a row: what came to something passed each, and a test that is passed goes on.
use Rattle.std.proofs.Common.{◌≡◌, Bool, true, false, Option, Some, None, Ok, Err, List, ℕ, refl, sym, ap}
use Rattle.std.specs.FinMap.{get}
use Rattle.ts_base.specs.declared.refusal.Refusal.{Refusal}
use Rattle.ts_row.specs.declared.kind.Column.{Column}
use Rattle.ts_row.specs.declared.value.Literal.{Literal}
use Rattle.ts_row.specs.Row.{Row, Values, visible_if_any, values_from}
use Rattle.std.specs.Prelude.{Result}
use Rattle.ts_model.specs.Catalogue.{Named}
use Rattle.ts_answer.specs.Answer.{Tried, ◌>>=◌, known, wanted, refused_if, a_row, row_or_mismatch}

pub came : {A B : Type 0} (m : Tried A) (f : A → Tried B) (b : B) → (m >>= f) ≡ Ok b → (a : A) × (m ≡ Ok a) × (f a ≡ Ok b)
unfolding ◌>>=◌
came (Ok a) f b is = (a, refl, is)
came (Err refusal) f b is = absurd (cc)

pub on_ok : {A B : Type 0} (m : Tried A) (a : A) (f : A → Tried B) → m ≡ Ok a → (m >>= f) ≡ f a
unfolding ◌>>=◌
on_ok m a f is = ap (λ r. r >>= f) is

pub same_Ok : {A : Type 0} (a b : A) → let left : Tried A = Ok a in left ≡ Ok b → a ≡ b
same_Ok a b is = cc

pub known_is : {X : Type 0} (o : Option X) (x : X) → known o ≡ Ok x → o ≡ Some x
known_is None x is = absurd (cc)
known_is (Some y) x is = ap Some (same_Ok y x is)

pub wanted_is : {X : Type 0} (name : List ℕ) (m : Named X) (x : X) → wanted name m ≡ Ok x → get m name ≡ Some x
unfolding wanted
wanted_is name m x is = known_is (get m name) x is

pub not_refused : (b : Bool) (why : Refusal) (u : Unit {0}) → refused_if b why ≡ Ok u → b ≡ false
unfolding refused_if
not_refused true why u is = absurd (cc)
not_refused false why u is = refl

-- a row that is given is visible
pub row_seen : (columns : List Column) (literals : List Literal) (row : Row) → a_row columns literals ≡ Ok row → row.hidden ≡ false
unfolding a_row
row_seen columns literals row is = by (values_from 1 columns literals) is
  where
    by : (v : Result Values ℕ) → row_or_mismatch (visible_if_any v) ≡ Ok row → row.hidden ≡ false
    by (Ok values) e = sym (ap (λ (r : Row). r.hidden) (same_Ok _ row e))
    by (Err column) e = absurd (cc)
