-- The row type that columns make.
use Rattle.std.proofs.Common.{◌≡◌, ℕ, Bool, true, false, ◌&&◌, IsTrue, None, Result, Ok, Err, IfOk, OnOk, MatchResult, List, [], ◌∷◌, refl, sym, ◌∙◌, subst}
use Rattle.std.specs.List.{AllByRecursion, list_all}
use Rattle.ts_base.specs.declared.fault.Trouble.{Trouble}
use Rattle.ts_base.specs.Name.{is_name}
use Rattle.ts_row.specs.declared.kind.Column.{Column}
use Rattle.ts_row.specs.Row.{Heading, is_row_type, bad_column, IsBadRowType}
use Rattle.ts_command.specs.Form.{IsColumn}
use Rattle.ts_answer.specs.Answer.{no_bad_column, beyond_old_format}
use Rattle.ts_answer.specs.Tried.{IsTried, IsRefusedAs}
use Rattle.ts_answer.proofs.CallerLemmas.{good-columns, bad-columns}
use Rattle.ts_define.specs.Format.{IsInFormat}
use Rattle.ts_define.specs.RowTypes.{MakesRowType}

-- two tests that are passed
both : (a b : Bool) → IsTrue a → IsTrue b → IsTrue (a && b)
both true b first second = second
both false b first second = absurd (cc)

-- names of words
pub all_names : (columns : List Column) → AllByRecursion IsColumn columns → IsTrue (list_all (λ c. is_name c.name) columns)
all_names [] all = refl
all_names (c ∷ columns) all = both (is_name c.name) (list_all (λ x. is_name x.name) columns) all.0 (all_names columns all.1)

-- the row type of copies
pub made_row_type : (result : Result Heading Trouble) (stamp copied : List ℕ) (columns others : List Column) → copied ≡ stamp → others ≡ columns → IfOk result (λ made. made ≡ record { stamp = copied; columns = others })
    → OnOk result (IsTrue (is_row_type copied others)) → MatchResult result (λ made. bad_column copied others ≡ None) (IsBadRowType copied others) → IsTried result (no_bad_column (bad_column stamp columns)) (MakesRowType stamp columns)
made_row_type (Ok made) stamp copied columns others same alike is rules good =
    let P : List ℕ → List Column → Type 0 = λ s cs. IsTrue (is_row_type s cs) in
    record {
      ok = (
        tt,
        good-columns stamp columns (sym (λ i. bad_column (same i) (alike i)) ∙ good),
        record { made = is ∙ (λ i. record { stamp = same i; columns = alike i }); rules = subst (P stamp) alike (subst (λ (s : List ℕ). P s others) same rules) },
      );
      err = tt;
    }
made_row_type (Err trouble) stamp copied columns others same alike is rules bad = record {
  ok = tt;
  err = subst (λ (t : Trouble). IsRefusedAs t (no_bad_column (bad_column stamp columns))) (sym bad.2) (bad-columns stamp columns bad.0 (sym (λ i. bad_column (same i) (alike i)) ∙ bad.1));
}

-- its decimals are of the format, the same one under other names
pub of_format : (result : Result Unit Trouble) (long other : Bool) (format same : ℕ) → long ≡ other → format ≡ same → IsTried result (beyond_old_format long format) (λ done has. IsInFormat long format)
    → IsTried result (beyond_old_format other same) (λ done has. IsInFormat other same)
of_format result long other format same is also tried =
    subst (λ (n : ℕ). IsTried result (beyond_old_format other n) (λ done has. IsInFormat other n)) also
    (subst (λ (b : Bool). IsTried result (beyond_old_format b format) (λ done has. IsInFormat b format)) is tried)
