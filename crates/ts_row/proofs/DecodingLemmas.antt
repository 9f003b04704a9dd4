-- The values that bytes are, one column more.
use Rattle.std.proofs.Common.{◌≡◌, ℕ, zero, suc, ◌-◌, ◌<◌, ◌≤◌, ◌==◌, Bool, true, false, is_some, nat_le, if◌then◌else◌, Option, Some, None, MatchOption, List, [], ◌∷◌, ◌++◌, length, take, drop, refl, sym, ap, subst, ◌∙◌, arith, append_assoc, append-nil}
use Rattle.std.proofs.lemmas.Bool.Decides.{nat_tests}
use Rattle.ts_row.specs.declared.kind.ColumnKind.{ColumnKind}
use Rattle.ts_row.specs.declared.kind.Column.{Column}
use Rattle.ts_row.specs.declared.value.Value.{Value}
use Rattle.ts_row.specs.Row.{column_width, Values}
use Rattle.ts_row.specs.Decoding.{value_in, put_first, values_in}
use Rattle.ts_row.proofs.ValueBytesLemmas.{column_width-positive}

-- what is read where the first byte stands apart
first_apart : (kind : ColumnKind) (cs : List Column) (w flag : ℕ) (behind : List ℕ) → 0 < w
    → (if nat_le w (length (flag ∷ behind)) then put_first (value_in kind (take w (flag ∷ behind))) (values_in cs (drop w (flag ∷ behind))) else None)
    ≡ (if nat_le (w - 1) (length behind) then put_first (value_in kind (flag ∷ take (w - 1) behind)) (values_in cs (drop (w - 1) behind)) else None)
first_apart kind cs zero flag behind some = absurd (omega arith)
first_apart kind cs (suc n) flag behind some =
    let one : suc n - 1 ≡ n = omega arith in
    let same : nat_le (suc n) (length (flag ∷ behind)) ≡ nat_le n (length behind) = grind (arith, nat_tests) in
    rw (one, same) refl

-- the values of columns whose bytes begin with this one
pub values_in-apart : (columns cs : List Column) (c : Column) (flag : ℕ) (behind : List ℕ) → columns ≡ c ∷ cs
    → values_in columns (flag ∷ behind) ≡ (if nat_le (column_width c.kind - 1) (length behind) then put_first (value_in c.kind (flag ∷ take (column_width c.kind - 1) behind)) (values_in cs (drop (column_width c.kind - 1) behind)) else None)
values_in-apart columns cs c flag behind split = ap (λ l. values_in l (flag ∷ behind)) split ∙ first_apart c.kind cs (column_width c.kind) flag behind (column_width-positive c.kind)

-- of too few bytes there are none
pub none_of_few : (columns cs : List Column) (c : Column) (flag n : ℕ) (behind : List ℕ) → columns ≡ c ∷ cs → n ≡ column_width c.kind - 1 → length behind < n → values_in columns (flag ∷ behind) ≡ None
none_of_few columns cs c flag n behind split size short =
    let no : nat_le (column_width c.kind - 1) (length behind) ≡ false = grind (arith, nat_tests) in
    values_in-apart columns cs c flag behind split ∙ rw no refl

-- the value of one column before those of the others
pub one_more : (columns cs : List Column) (c : Column) (flag n : ℕ) (behind : List ℕ) → columns ≡ c ∷ cs → n ≡ column_width c.kind - 1 → n ≤ length behind
    → values_in columns (flag ∷ behind) ≡ put_first (value_in c.kind (flag ∷ take n behind)) (values_in cs (drop n behind))
one_more columns cs c flag n behind split size long =
    let yes : nat_le (column_width c.kind - 1) (length behind) ≡ true = grind (arith, nat_tests) in
    values_in-apart columns cs c flag behind split ∙ rw yes refl ∙ (λ j. put_first (value_in c.kind (flag ∷ take (sym size j) behind)) (values_in cs (drop (sym size j) behind)))

-- what is said of the values that bytes are: there are none, or they were put to the end of others
abbrev pub Decoded : Option Values → Bool → Values → Values → Type 0
Decoded o found old new = MatchOption o (found ≡ false) (λ values. (found ≡ true) × (new ≡ old ++ values))

-- one value put before the others
pub put_before : (o : Option Values) (v : Value) (found : Bool) (old mid new : Values) → mid ≡ old ++ v ∷ [] → Decoded o found mid new → Decoded (put_first (Some v) o) found old new
put_before None v found old mid new is none = none
put_before (Some values) v found old mid new is some =
    (some.0, some.1 ∙ ap (λ l. l ++ values) is ∙ append_assoc old (v ∷ []) values)

-- whether there are values where one is put before the others
pub some_more : (o : Option Value) (rest : Option Values) → is_some o ≡ true → is_some (put_first o rest) ≡ is_some rest
some_more None rest is = absurd (cc)
some_more (Some v) None is = refl
some_more (Some v) (Some values) is = refl

-- and where there is none
pub none_first : (o : Option Value) (rest : Option Values) → is_some o ≡ false → put_first o rest ≡ None
none_first None rest not = refl
none_first (Some v) rest not = absurd (cc)

-- where no bytes are left there are values only of no columns
pub at_end : (cs : List Column) (rest : List ℕ) (told : Bool) → length rest ≡ 0 → told ≡ (length cs == 0) → told ≡ is_some (values_in cs rest)
at_end [] [] told none ends = ends
at_end (c ∷ cs) [] told none ends =
    let short : nat_le (column_width c.kind) 0 ≡ false = grind (arith, nat_tests, column_width-positive c.kind) in
    let empty : values_in (c ∷ cs) [] ≡ None = rw short refl in
    let some : (length (c ∷ cs) == 0) ≡ false = grind (arith, nat_tests) in
    ends ∙ some ∙ ap is_some (sym empty)
at_end cs (b ∷ rest) told none ends = absurd (omega arith)

-- there are values where the first column has one and the others have theirs
pub judge_more : (columns cs : List Column) (c : Column) (flag n : ℕ) (behind bytes rest : List ℕ) (told others : Bool) → columns ≡ c ∷ cs → n ≡ column_width c.kind - 1 → n ≤ length behind
    → bytes ≡ take n behind → rest ≡ drop n behind → told ≡ is_some (value_in c.kind (flag ∷ bytes)) → told ≡ true → others ≡ is_some (values_in cs rest) → others ≡ is_some (values_in columns (flag ∷ behind))
judge_more columns cs c flag n behind bytes rest told others split size long front back is there further =
    let first : is_some (value_in c.kind (flag ∷ take n behind)) ≡ true = ap (λ l. is_some (value_in c.kind (flag ∷ l))) (sym front) ∙ sym is ∙ there in
    further ∙ ap (λ l. is_some (values_in cs l)) back ∙ sym (some_more (value_in c.kind (flag ∷ take n behind)) (values_in cs (drop n behind)) first)
    ∙ ap is_some (sym (one_more columns cs c flag n behind split size long))

-- and none where it has none
pub judge_none : (columns cs : List Column) (c : Column) (flag n : ℕ) (behind bytes : List ℕ) (told : Bool) → columns ≡ c ∷ cs → n ≡ column_width c.kind - 1 → n ≤ length behind
    → bytes ≡ take n behind → told ≡ is_some (value_in c.kind (flag ∷ bytes)) → told ≡ false → values_in columns (flag ∷ behind) ≡ None
judge_none columns cs c flag n behind bytes told split size long front is not =
    let first : is_some (value_in c.kind (flag ∷ take n behind)) ≡ false = ap (λ l. is_some (value_in c.kind (flag ∷ l))) (sym front) ∙ sym is ∙ not in
    one_more columns cs c flag n behind split size long ∙ none_first (value_in c.kind (flag ∷ take n behind)) (values_in cs (drop n behind)) first

-- the value of the first column stands before those of the others
pub decode_more : (columns cs : List Column) (c : Column) (flag n : ℕ) (behind bytes rest : List ℕ) (v : Value) (found : Bool) (old mid new : Values) → columns ≡ c ∷ cs → n ≡ column_width c.kind - 1 → n ≤ length behind
    → bytes ≡ take n behind → rest ≡ drop n behind → Some v ≡ value_in c.kind (flag ∷ bytes) → mid ≡ old ++ v ∷ [] → Decoded (values_in cs rest) found mid new → Decoded (values_in columns (flag ∷ behind)) found old new
decode_more columns cs c flag n behind bytes rest v found old mid new split size long front back first put others =
    let is : values_in columns (flag ∷ behind) ≡ put_first (Some v) (values_in cs rest) =
    one_more columns cs c flag n behind split size long
    ∙ (λ j. put_first (value_in c.kind (flag ∷ sym front j)) (values_in cs (sym back j)))
    ∙ ap (λ o. put_first o (values_in cs rest)) (sym first) in
    subst (λ o. Decoded o found old new) (sym is) (put_before (values_in cs rest) v found old mid new put others)

-- what was decoded of no bytes
pub decoded_end : (cs : List Column) (rest : List ℕ) (found : Bool) (values : Values) → length rest ≡ 0 → found ≡ (length cs == 0) → Decoded (values_in cs rest) found values values
decoded_end [] [] found values none ends = (ends, sym (append-nil values))
decoded_end (c ∷ cs) [] found values none ends =
    let short : nat_le (column_width c.kind) 0 ≡ false = grind (arith, nat_tests, column_width-positive c.kind) in
    let empty : values_in (c ∷ cs) [] ≡ None = rw short refl in
    let some : (length (c ∷ cs) == 0) ≡ false = grind (arith, nat_tests) in
    subst (λ o. Decoded o found values values) (sym empty) (ends ∙ some)
decoded_end cs (b ∷ rest) found values none ends = absurd (omega arith)

-- no values are decoded
pub decoded_none : (o : Option Values) (old new : Values) → o ≡ None → Decoded o false old new
decoded_none o old new is = subst (λ (p : Option Values). Decoded p false old new) (sym is) refl
