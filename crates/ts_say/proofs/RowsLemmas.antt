-- Values with commas between them, of one row or of two side by side.
use Rattle.std.proofs.Common.{◌≡◌, ℕ, suc, ◌≤◌, true, IsTrue, IfSome, ℤ, Option, Some, None, List, [], ◌∷◌, ◌++◌, length, replicate, Bor, refl, sym, ap, ◌∙◌, append_assoc, arith}
use Rattle.std.specs.Option.{option_copied}
use Rattle.std.proofs.lemmas.Bool.Decides.{nat_tests}
use Rattle.std.proofs.lemmas.List.{length-replicate}
use Rattle.ts_base.specs.Moment.{stamp_text}
use Rattle.ts_row.specs.declared.kind.Column.{Column}
use Rattle.ts_row.specs.declared.value.Value.TheVariants.{Null}
use Rattle.ts_row.specs.Row.{is_row_type, scale_of, Values, Row, hold, fits, visible, value_text, values_text, Extends}
use Rattle.ts_row.proofs.PrintLemmas.{print_more}
use Rattle.ts_combine.specs.Combine.{values_or_nulls}
use Rattle.ts_answer.specs.Reply.{element_line}

-- NULL is said, a comma, and NULL for the other columns
pub nulls_said : (columns cs : List Column) (c : Column) (old first comma new : List ℕ) → columns ≡ c ∷ cs → 1 ≤ length cs
    → first ≡ old ++ value_text 0 Null → comma ≡ first ++ 44 ∷ [] → new ≡ comma ++ values_text cs (replicate (length cs) Null)
    → new ≡ old ++ values_text columns (replicate (length columns) Null)
nulls_said columns cs c old first comma new split some one comma_is others =
    let taken : replicate (length columns) Null ≡ Null ∷ replicate (length cs) Null = ap (λ n. replicate n Null) (ap length split) in
    let more : 1 ≤ length (replicate (length cs) Null) = omega (arith, length-replicate (length cs) Null) in
    print_more columns cs c (replicate (length columns) Null) (replicate (length cs) Null) Null old first comma new split taken some more one comma_is others

-- a row that fits has a value for each column
hold_length : (columns : List Column) (values : Values) → hold columns values ≡ true → length values ≡ length columns
hold_length [] [] fit = refl
hold_length [] (v ∷ vs) fit = absurd (cc)
hold_length (c ∷ cs) [] fit = absurd (cc)
hold_length (c ∷ cs) (v ∷ vs) fit =
    let others : hold cs vs ≡ true = grind (arith, nat_tests) in
    ap suc (hold_length cs vs others)

-- so has a side, with a row or without
side_length : (columns : List Column) (row : Option (Bor Row)) → IfSome row (λ r. IsTrue (fits columns r.now))
    → length (values_or_nulls (length columns) (option_copied row)) ≡ length columns
side_length columns None fit = length-replicate (length columns) Null
side_length columns (Some r) fit = hold_length columns r.now.values fit

-- the values of two sides, with a comma between them
both_text : (cs ds : List Column) (vs ws : Values) → length vs ≡ length cs → 1 ≤ length cs → 1 ≤ length ds → 1 ≤ length ws
    → values_text (cs ++ ds) (vs ++ ws) ≡ values_text cs vs ++ (44 ∷ values_text ds ws)
both_text [] ds vs ws same some more there = absurd (omega arith)
both_text (c ∷ cs) ds [] ws same some more there = absurd (omega arith)
both_text (c ∷ []) [] (v ∷ vs) ws same some more there = absurd (omega arith)
both_text (c ∷ []) (d ∷ ds) (v ∷ []) [] same some more there = absurd (omega arith)
both_text (c ∷ []) (d ∷ ds) (v ∷ []) (w ∷ ws) same some more there = refl
both_text (c ∷ []) (d ∷ ds) (v ∷ u ∷ vs) ws same some more there = absurd (omega arith)
both_text (c ∷ b ∷ cs) ds (v ∷ []) ws same some more there = absurd (omega arith)
both_text (c ∷ b ∷ cs) ds (v ∷ u ∷ vs) ws same some more there =
    let rest : values_text (b ∷ (cs ++ ds)) (u ∷ (vs ++ ws)) ≡ values_text (b ∷ cs) (u ∷ vs) ++ (44 ∷ values_text ds ws) =
    both_text (b ∷ cs) ds (u ∷ vs) ws (omega arith) (omega arith) more there in
    ap (λ l. value_text (scale_of c.kind) v ++ (44 ∷ l)) rest
    ∙ sym (append_assoc (value_text (scale_of c.kind) v) (44 ∷ values_text (b ∷ cs) (u ∷ vs)) (44 ∷ values_text ds ws))

-- a row type has a column
pub some_columns : (stamp : List ℕ) (columns : List Column) → IsTrue (is_row_type stamp columns) → 1 ≤ length columns
some_columns stamp columns rules = grind (arith, nat_tests)

parts_in_line : (old s v w : List ℕ) → ((((old ++ s ++ 32 ∷ []) ++ v) ++ 44 ∷ []) ++ w) ++ 10 ∷ [] ≡ old ++ (((s ++ 32 ∷ []) ++ (v ++ (44 ∷ w))) ++ 10 ∷ [])
parts_in_line old s v w = simp append_assoc

-- a stamp and a blank, the values of two sides with a comma between them, and a line feed are a line
pub joined_said : (cs ds : List Column) (x y : Option (Bor Row)) (stamp : ℤ) (old first one comma two new : List ℕ) → 1 ≤ length cs → 1 ≤ length ds
    → IfSome x (λ r. IsTrue (fits cs r.now)) → IfSome y (λ r. IsTrue (fits ds r.now))
    → first ≡ old ++ stamp_text stamp ++ 32 ∷ [] → one ≡ first ++ values_text cs (values_or_nulls (length cs) (option_copied x)) → comma ≡ one ++ 44 ∷ []
    → two ≡ comma ++ values_text ds (values_or_nulls (length ds) (option_copied y)) → new ≡ two ++ 10 ∷ []
    → new ≡ old ++ element_line (cs ++ ds) (stamp, visible (values_or_nulls (length cs) (option_copied x) ++ values_or_nulls (length ds) (option_copied y)))
unfolding element_line
joined_said cs ds x y stamp old first one comma two new some more left right stamp_is one_is comma_is two_is new_is =
    let vs : Values = values_or_nulls (length cs) (option_copied x) in
    let ws : Values = values_or_nulls (length ds) (option_copied y) in
    let there : 1 ≤ length ws = omega (arith, side_length ds y right) in
    let text : values_text (cs ++ ds) (vs ++ ws) ≡ values_text cs vs ++ (44 ∷ values_text ds ws) = both_text cs ds vs ws (side_length cs x left) some more there in
    new_is ∙ ap (λ l. l ++ 10 ∷ []) (two_is ∙ ap (λ l. l ++ values_text ds ws) (comma_is ∙ ap (λ l. l ++ 44 ∷ []) (one_is ∙ ap (λ l. l ++ values_text cs vs) stamp_is)))
    ∙ parts_in_line old (stamp_text stamp) (values_text cs vs) (values_text ds ws)
    ∙ ap (λ l. old ++ (((stamp_text stamp ++ 32 ∷ []) ++ l) ++ 10 ∷ [])) (sym text)

-- what is longer at its end by more is longer
pub extends_then : (a b c : List ℕ) → Extends a b → Extends b c → Extends a c
extends_then a b c p q = (p.0 ++ q.0, q.1 ∙ ap (λ l. l ++ q.0) p.1 ∙ append_assoc a p.0 q.0)
