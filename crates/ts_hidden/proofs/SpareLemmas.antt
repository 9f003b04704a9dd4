-- What an edit of one series leaves of the others and of itself.
use Rattle.std.proofs.Common.{◌≡◌, ℕ, Bool, true, false, cond, Option, Some, None, Result, Ok, Err, List, refl, ap, sym, subst, ◌∙◌}
use Rattle.std.specs.FinMap.{get, get-insert, get-remove}
use Rattle.std.specs.Ordering.{eq_by_cmp}
use Rattle.ts_row.specs.declared.kind.Column.{Column}
use Rattle.ts_row.specs.declared.value.Literal.{Literal}
use Rattle.ts_row.specs.Row.{Values, Row, visible, visible_if_any, values_from}
use Rattle.ts_model.specs.declared.kind.Kind.TheVariants as kinds
use Rattle.ts_model.specs.Catalogue.{name_cmp, Named, Elements, Series, Catalogue, with_named, without}
use Rattle.ts_model.proofs.OrderLemmas.{total, ties-same}
use Rattle.ts_answer.specs.Answer.{known, wanted, a_row, row_or_mismatch, with_elements}
use Rattle.ts_hidden.specs.Hidden.{AreShown, IsShown}

-- what a test that was passed says
known_is : {X : Type 0} (o : Option X) (x : X) → known o ≡ Ok x → o ≡ Some x
known_is (Some y) x is = let same : y ≡ x = cc in ap Some same
known_is None x is = absurd (cc)

pub there_is : (name : List ℕ) (named : Named Series) (x : Series) → wanted name named ≡ Ok x → get named name ≡ Some x
unfolding wanted
there_is name named x is = known_is (get named name) x is

-- a row of literals is visible
row_visible : (r : Result Values ℕ) (row : Row) → row_or_mismatch (visible_if_any r) ≡ Ok row → row.hidden ≡ false
row_visible (Ok values) row is = let same : visible values ≡ row = cc in sym (ap (λ (r : Row). r.hidden) same)
row_visible (Err number) row is = absurd (cc)

pub row_shown : (columns : List Column) (literals : List Literal) (row : Row) → a_row columns literals ≡ Ok row → row.hidden ≡ false
unfolding a_row
row_shown columns literals row is = row_visible (values_from 1 columns literals) row is

-- a series of this key that has no hidden element has none afterwards
module _ (q : List ℕ) where
  abbrev pub Spares : Catalogue → Catalogue → Type 0
  Spares cat after = IsShown q cat → IsShown q after

  pub whole : (cat : Catalogue) → Spares cat cat
  whole cat shown = shown

  pub series_put : (cat : Catalogue) (name : List ℕ) (value : Series) → (q ≡ name → IsShown q cat → AreShown value.elements) → Spares cat (with_named kinds.Series name value cat)
  series_put cat name value own shown s there = by (eq_by_cmp name_cmp q name) refl (sym (get-insert total cat.series name value q) ∙ there)
    where
      by : (b : Bool) → eq_by_cmp name_cmp q name ≡ b → cond b (Some value) (get cat.series q) ≡ Some s → AreShown s.elements
      by true tie is = let same : value ≡ s = cc in subst (λ (x : Series). AreShown x.elements) same (own (ties-same q name tie) shown)
      by false apart is = shown s is

  pub edited : (cat : Catalogue) (key : List ℕ) (s : Series) (es : Elements) → wanted key cat.series ≡ Ok s → (q ≡ key → AreShown s.elements → AreShown es) → Spares cat (with_elements key s es cat)
  edited cat key s es is keeps =
      series_put cat key (record s { elements = es })
      (λ same shown. keeps same (shown s (ap (get cat.series) same ∙ there_is key cat.series s is)))

  still : (b : Bool) (o : Option Series) (s : Series) → cond b None o ≡ Some s → o ≡ Some s
  still true o s is = absurd (cc)
  still false o s is = is

  pub gone : (cat : Catalogue) (name : List ℕ) → Spares cat (without kinds.Series name cat)
  gone cat name shown s there = shown s (still (eq_by_cmp name_cmp q name) (get cat.series q) s (sym (get-remove total cat.series name q) ∙ there))
