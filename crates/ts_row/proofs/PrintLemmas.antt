-- Printed digits.
use Rattle.std.proofs.Common.{◌≡◌, ℕ, zero, suc, Bool, false, ◌+◌, ◌/◌, ◌%◌, ◌^◌, ◌<◌, ◌≤◌, ◌⊎◌, inl, inr, length, take, List, [], ◌∷◌, ◌++◌, true, refl, sym, ap, ◌∙◌, append_assoc, arith, lit<}
use Rattle.std.specs.Fmt.{decimal}
use Rattle.ts_row.specs.declared.kind.Column.{Column}
use Rattle.ts_row.specs.declared.value.Value.{Value}
use Rattle.ts_row.specs.Row.{scale_of, Values, value_text, values_text, Extends}
use Rattle.std.proofs.Math.Seq.{take-append_seam}
use Rattle.std.proofs.lemmas.Fmt.{decimal_digit, decimal_step_wide}

-- a number of one digit
pub decimal-one : (n : ℕ) → n < 10 → decimal n ≡ (48 + n) ∷ []
decimal-one n below = decimal_digit n below

-- a number of more digits
pub decimal-more : (n : ℕ) → 10 ≤ n → n < 2 ^ 128 → decimal n ≡ decimal (n / 10) ++ (48 + n % 10) ∷ []
decimal-more n above below =
    let wide : 2 ^ 128 < 10 ^ 64 = lit< tt in
    decimal_step_wide n above (omega arith)

-- a value before others, with a comma between
values_text-cons : (c : Column) (cs : List Column) (v : Value) (vs : Values) → 1 ≤ length cs → 1 ≤ length vs → values_text (c ∷ cs) (v ∷ vs) ≡ value_text (scale_of c.kind) v ++ (44 ∷ values_text cs vs)
values_text-cons c [] v vs some more = absurd (omega arith)
values_text-cons c (d ∷ ds) v [] some more = absurd (omega arith)
values_text-cons c (d ∷ ds) v (u ∷ us) some more = refl

-- the last value
values_text-last : (c : Column) (cs : List Column) (v : Value) (vs : Values) → (length cs ≡ 0) ⊎ (length vs ≡ 0) → values_text (c ∷ cs) (v ∷ vs) ≡ value_text (scale_of c.kind) v
values_text-last c [] v vs last = refl
values_text-last c (d ∷ ds) v [] last = refl
values_text-last c (d ∷ ds) v (u ∷ us) (inl none) = absurd (omega arith)
values_text-last c (d ∷ ds) v (u ∷ us) (inr none) = absurd (omega arith)

pub print_last : (columns cs : List Column) (c : Column) (values vs : Values) (v : Value) (old new : List ℕ) → columns ≡ c ∷ cs → values ≡ v ∷ vs → (length cs ≡ 0) ⊎ (length vs ≡ 0) → new ≡ old ++ value_text (scale_of c.kind) v → new ≡ old ++ values_text columns values
print_last columns cs c values vs v old new split taken last is =
    let text : values_text columns values ≡ value_text (scale_of c.kind) v =
    ap (λ l. values_text l values) split ∙ ap (λ l. values_text (c ∷ cs) l) taken ∙ values_text-last c cs v vs last in
    is ∙ ap (λ l. old ++ l) (sym text)

-- where neither list is at its end
pub both_some : (a b : ℕ) (told : Bool) → ((a ≡ 0) ⊎ (b ≡ 0) → told ≡ true) → told ≡ false → (1 ≤ a) × (1 ≤ b)
both_some zero b told ends still = absurd (let yes = ends (inl refl) in let clash : ⊥ = cc in clash)
both_some (suc a) zero told ends still = absurd (let yes = ends (inr refl) in let clash : ⊥ = cc in clash)
both_some (suc a) (suc b) told ends still = (omega arith, omega arith)

-- one value more
pub print_more : (columns cs : List Column) (c : Column) (values vs : Values) (v : Value) (old first comma new : List ℕ) → columns ≡ c ∷ cs → values ≡ v ∷ vs → 1 ≤ length cs → 1 ≤ length vs → first ≡ old ++ value_text (scale_of c.kind) v → comma ≡ first ++ 44 ∷ [] → new ≡ comma ++ values_text cs vs → new ≡ old ++ values_text columns values
print_more columns cs c values vs v old first comma new split taken some more is then others =
    let text : values_text columns values ≡ value_text (scale_of c.kind) v ++ (44 ∷ values_text cs vs) =
    ap (λ l. values_text l values) split ∙ ap (λ l. values_text (c ∷ cs) l) taken ∙ values_text-cons c cs v vs some more in
    others ∙ ap (λ l. l ++ values_text cs vs) (then ∙ ap (λ l. l ++ 44 ∷ []) is)
    ∙ append_assoc (old ++ value_text (scale_of c.kind) v) (44 ∷ []) (values_text cs vs)
    ∙ append_assoc old (value_text (scale_of c.kind) v) (44 ∷ values_text cs vs)
    ∙ ap (λ l. old ++ l) (sym text)

-- for `grind`
pub ruleset digits = (decimal-one, decimal-more)

-- what was printed in part is cut off
pub cut_back : (old new cut : List ℕ) (n : ℕ) → Extends old new → n ≡ length old → cut ≡ take n new → cut ≡ old
cut_back old new cut n more size is = is ∙ (λ i. take (size i) (more.1 i)) ∙ take-append_seam old more.0
