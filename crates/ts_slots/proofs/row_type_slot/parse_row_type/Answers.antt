use Rattle.std.proofs.Common.{ℕ, ◌≡◌, ◌-◌, ◌++◌, Some, None, List, length, take, drop, replicate, get_or, sym, ap, subst, ◌∙◌, arith}
use Rattle.ts_row.specs.Row.{bad_column}
use Rattle.ts_row.specs.declared.kind.Column.{Column}
use Rattle.ts_model.specs.declared.def.Def.TheVariants as defs
use Rattle.ts_layout.specs.Slot.{def_bytes, columns_bytes}
use Rattle.ts_layout.specs.Meaning.{IsOfFormat}
use Rattle.ts_layout.proofs.CallerLemmas.{row_type_name, row_type_stamp, row_type_count, length-name, row_types_only, behind_stamp}
use Rattle.ts_slots.proofs.ParseLemmas.{one, none_some, both_ways, few_columns, good_columns}
use Rattle.ts_slots.proofs.row_type_slot.parse_row_type.Goals as goal

pub returns-then-count-gt-COLUMNS-clause-found : goal.returns-then-count-gt-COLUMNS-clause-found
returns-then-count-gt-COLUMNS-clause-found c =
    row_types_only c.args.format (λ def. c.args.page.now ≡ def_bytes def → None ≡ Some def) (λ name h is bytes.
    let count = ap (λ (l : List ℕ). get_or l 67 0) bytes ∙ row_type_count name h (length-name name is.name) (length-name h.stamp is.stamp) in
    absurd (omega (arith, count, few_columns h.stamp h.columns is.rules)))

pub returns-in_default-clause-found : goal.returns-in_default-clause-found
returns-in_default-clause-found c =
    row_types_only c.args.format (λ def. c.args.page.now ≡ def_bytes def → None ≡ Some def) (λ name h is bytes.
    none_some c.in_ok-name.field-0 name c.in_default.is
    (c.in_ok-name.ensures name is.name (ap (λ (l : List ℕ). take 33 (drop 1 l)) bytes ∙ row_type_name name h (length-name name is.name))))

pub returns-in_default-2-clause-found : goal.returns-in_default-2-clause-found
returns-in_default-2-clause-found c =
    row_types_only c.args.format (λ def. c.args.page.now ≡ def_bytes def → None ≡ Some def) (λ name h is bytes.
    none_some c.in_ok-stamp.field-0 h.stamp c.in_default-2.is
    (c.in_ok-stamp.ensures h.stamp is.stamp (ap (λ (l : List ℕ). take 33 (drop 34 l)) bytes ∙ row_type_stamp name h (length-name name is.name) (length-name h.stamp is.stamp))))

pub returns-then-not-branch-clause-found : goal.returns-then-not-branch-clause-found
returns-then-not-branch-clause-found c =
    row_types_only c.args.format (λ def. c.args.page.now ≡ def_bytes def → None ≡ Some def) (λ name h is bytes.
    let count = ap (λ (l : List ℕ). get_or l 67 0) bytes ∙ row_type_count name h (length-name name is.name) (length-name h.stamp is.stamp) in
    let found = c.in_ok-parse_columns.ensures.found h.columns (replicate (4028 - length (columns_bytes h.columns)) 0) (sym count) is.columns (behind_stamp c.args.page.now name h is bytes) in
    absurd (both_ways found.0 c.if-not-branch.true))

pub returns-then-not-is_of_format-clause-found : goal.returns-then-not-is_of_format-clause-found
returns-then-not-is_of_format-clause-found c =
    row_types_only c.args.format (λ def. c.args.page.now ≡ def_bytes def → None ≡ Some def) (λ name h is bytes.
    let count = ap (λ (l : List ℕ). get_or l 67 0) bytes ∙ row_type_count name h (length-name name is.name) (length-name h.stamp is.stamp) in
    let stamped = one c.in_ok-stamp.field-0 c.in-Some-2.stamp h.stamp c.in-Some-2.is
    (c.in_ok-stamp.ensures h.stamp is.stamp (ap (λ (l : List ℕ). take 33 (drop 34 l)) bytes ∙ row_type_stamp name h (length-name name is.name) (length-name h.stamp is.stamp))) in
    let found = c.in_ok-parse_columns.ensures.found h.columns (replicate (4028 - length (columns_bytes h.columns)) 0) (sym count) is.columns (behind_stamp c.args.page.now name h is bytes) in
    let columns = found.1 ∙ ap (λ (l : List Column). l ++ h.columns) c.in_ok-columns.ensures.items in
    let heading : c.in-Ok.kind ≡ h = c.in-Ok.ensures.ok ∙ (λ i. record { stamp = stamped i; columns = columns i }) in
    absurd (both_ways (c.is_of_format.ensures.1 (subst (IsOfFormat c.args.format) (sym heading) is.of_format)) c.if-not-is_of_format.true))

pub returns-in-Ok-clause-found : goal.returns-in-Ok-clause-found
returns-in-Ok-clause-found c =
    row_types_only c.args.format (λ def. c.args.page.now ≡ def_bytes def → Some (defs.RowType c.in-Some.name c.in-Ok.kind) ≡ Some def) (λ name h is bytes.
    let count = ap (λ (l : List ℕ). get_or l 67 0) bytes ∙ row_type_count name h (length-name name is.name) (length-name h.stamp is.stamp) in
    let named = one c.in_ok-name.field-0 c.in-Some.name name c.in-Some.is
    (c.in_ok-name.ensures name is.name (ap (λ (l : List ℕ). take 33 (drop 1 l)) bytes ∙ row_type_name name h (length-name name is.name))) in
    let stamped = one c.in_ok-stamp.field-0 c.in-Some-2.stamp h.stamp c.in-Some-2.is
    (c.in_ok-stamp.ensures h.stamp is.stamp (ap (λ (l : List ℕ). take 33 (drop 34 l)) bytes ∙ row_type_stamp name h (length-name name is.name) (length-name h.stamp is.stamp))) in
    let found = c.in_ok-parse_columns.ensures.found h.columns (replicate (4028 - length (columns_bytes h.columns)) 0) (sym count) is.columns (behind_stamp c.args.page.now name h is bytes) in
    let columns = found.1 ∙ ap (λ (l : List Column). l ++ h.columns) c.in_ok-columns.ensures.items in
    let heading : c.in-Ok.kind ≡ h = c.in-Ok.ensures.ok ∙ (λ i. record { stamp = stamped i; columns = columns i }) in
    λ i. Some (defs.RowType (named i) (heading i)))

pub returns-in-Err-Refused-clause-found : goal.returns-in-Err-Refused-clause-found
returns-in-Err-Refused-clause-found c =
    row_types_only c.args.format (λ def. c.args.page.now ≡ def_bytes def → None ≡ Some def) (λ name h is bytes.
    let count = ap (λ (l : List ℕ). get_or l 67 0) bytes ∙ row_type_count name h (length-name name is.name) (length-name h.stamp is.stamp) in
    let stamped = one c.in_ok-stamp.field-0 c.in-Some-2.stamp h.stamp c.in-Some-2.is
    (c.in_ok-stamp.ensures h.stamp is.stamp (ap (λ (l : List ℕ). take 33 (drop 34 l)) bytes ∙ row_type_stamp name h (length-name name is.name) (length-name h.stamp is.stamp))) in
    let found = c.in_ok-parse_columns.ensures.found h.columns (replicate (4028 - length (columns_bytes h.columns)) 0) (sym count) is.columns (behind_stamp c.args.page.now name h is bytes) in
    let columns = found.1 ∙ ap (λ (l : List Column). l ++ h.columns) c.in_ok-columns.ensures.items in
    let bad = c.in-Err-Refused.ensures.cause in
    none_some (bad_column h.stamp h.columns) bad.0 (good_columns h.stamp h.columns is.rules) ((λ i. bad_column (sym stamped i) (sym columns i)) ∙ bad.1))
