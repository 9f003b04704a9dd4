-- Values with commas between them, each number with the digits of its scale.
use Rattle.std.proofs.Common.{◌≡◌, ℕ, ◌≤◌, ◌⊎◌, inl, inr, List, [], ◌∷◌, ◌++◌, length, map, Option, refl, sym, ap, ◌∙◌, append_assoc, arith}
use Rattle.std.specs.Prelude.{ℤ}
use Rattle.std.proofs.lemmas.List.{length-map}
use Rattle.ts_row.specs.declared.value.Value.{Value}
use Rattle.ts_row.specs.Row.{Values, value_text}
use Rattle.ts_running.specs.Binding.{value_if_any}
use Rattle.ts_answer.specs.Reply.{scaled_text}

-- a value before others, with a comma between
scaled-cons : (s : ℕ) (ss : List ℕ) (v : Value) (vs : Values) → 1 ≤ length ss → 1 ≤ length vs
    → scaled_text (s ∷ ss) (v ∷ vs) ≡ value_text s v ++ (44 ∷ scaled_text ss vs)
scaled-cons s [] v vs some more = absurd (omega arith)
scaled-cons s (t ∷ ts) v [] some more = absurd (omega arith)
scaled-cons s (t ∷ ts) v (u ∷ us) some more = refl

-- the last value
scaled-last : (s : ℕ) (ss : List ℕ) (v : Value) (vs : Values) → (length ss ≡ 0) ⊎ (length vs ≡ 0) → scaled_text (s ∷ ss) (v ∷ vs) ≡ value_text s v
scaled-last s [] v vs last = refl
scaled-last s (t ∷ ts) v [] last = refl
scaled-last s (t ∷ ts) v (u ∷ us) (inl none) = absurd (omega arith)
scaled-last s (t ∷ ts) v (u ∷ us) (inr none) = absurd (omega arith)

-- so it is said as the last
pub last_said : (scales ss : List ℕ) (s : ℕ) (values vs : Values) (v : Value) (old new : List ℕ) → scales ≡ s ∷ ss → values ≡ v ∷ vs
    → (length ss ≡ 0) ⊎ (length vs ≡ 0) → new ≡ old ++ value_text s v → new ≡ old ++ scaled_text scales values
last_said scales ss s values vs v old new split taken last is =
    let text : scaled_text scales values ≡ value_text s v =
    ap (λ l. scaled_text l values) split ∙ ap (λ l. scaled_text (s ∷ ss) l) taken ∙ scaled-last s ss v vs last in
    is ∙ ap (λ l. old ++ l) (sym text)

-- and before others
pub more_scaled : (scales ss : List ℕ) (s : ℕ) (values vs : Values) (v : Value) (old first comma new : List ℕ) → scales ≡ s ∷ ss → values ≡ v ∷ vs
    → 1 ≤ length ss → 1 ≤ length vs → first ≡ old ++ value_text s v → comma ≡ first ++ 44 ∷ [] → new ≡ comma ++ scaled_text ss vs
    → new ≡ old ++ scaled_text scales values
more_scaled scales ss s values vs v old first comma new split taken some more is then others =
    let text : scaled_text scales values ≡ value_text s v ++ (44 ∷ scaled_text ss vs) =
    ap (λ l. scaled_text l values) split ∙ ap (λ l. scaled_text (s ∷ ss) l) taken ∙ scaled-cons s ss v vs some more in
    others ∙ ap (λ l. l ++ scaled_text ss vs) (then ∙ ap (λ l. l ++ 44 ∷ []) is)
    ∙ append_assoc (old ++ value_text s v) (44 ∷ []) (scaled_text ss vs)
    ∙ append_assoc old (value_text s v) (44 ∷ scaled_text ss vs)
    ∙ ap (λ l. old ++ l) (sym text)

-- the same of numbers
pub last_number : (scales ss : List ℕ) (s : ℕ) (numbers ns : List (Option ℤ)) (n : Option ℤ) (old new : List ℕ) → scales ≡ s ∷ ss
    → numbers ≡ n ∷ ns → (length ss ≡ 0) ⊎ (length ns ≡ 0) → new ≡ old ++ value_text s (value_if_any n)
    → new ≡ old ++ scaled_text scales (map value_if_any numbers)
last_number scales ss s numbers ns n old new split taken last is =
    last_said scales ss s (map value_if_any numbers) (map value_if_any ns) (value_if_any n) old new split
    (ap (map value_if_any) taken) (mapped last) is where
      mapped : (length ss ≡ 0) ⊎ (length ns ≡ 0) → (length ss ≡ 0) ⊎ (length (map value_if_any ns) ≡ 0)
      mapped (inl none) = inl none
      mapped (inr none) = inr (length-map ns value_if_any ∙ none)

pub more_numbers : (scales ss : List ℕ) (s : ℕ) (numbers ns : List (Option ℤ)) (n : Option ℤ) (old first comma new : List ℕ)
    → scales ≡ s ∷ ss → numbers ≡ n ∷ ns → 1 ≤ length ss → 1 ≤ length ns → first ≡ old ++ value_text s (value_if_any n)
    → comma ≡ first ++ 44 ∷ [] → new ≡ comma ++ scaled_text ss (map value_if_any ns)
    → new ≡ old ++ scaled_text scales (map value_if_any numbers)
more_numbers scales ss s numbers ns n old first comma new split taken some more is then others =
    more_scaled scales ss s (map value_if_any numbers) (map value_if_any ns) (value_if_any n) old first comma new split
    (ap (map value_if_any) taken) some (omega (arith, more, length-map ns value_if_any)) is then others
