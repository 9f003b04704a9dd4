-- What the grammar of aggregate lists takes.
use Rattle.std.proofs.Common.{◌≡◌, ℕ, suc, ◌+◌, List, [], ◌∷◌, ◌++◌, Ok, Err, refl, sym, ◌∙◌, ap, arith, codes}
use Rattle.ts_text.specs.Misfit.{Refuses}
use Rattle.ts_text.specs.Phrase.{Read, behind, a_sign, phrases, onto, name_as, plain_front}
use Rattle.ts_text.specs.declared.misfit.Misfit.{Misfit}
use Rattle.ts_text.specs.declared.token.TokenKind.TheVariants.{Word}
use Rattle.ts_text.proofs.CallerLemmas.{Yields, chain, given, Any, of_token, behind_yields, brackets_yield, plain_laws, plain_sign}
use Rattle.ts_expr.specs.declared.function.Function.TheVariants.{Sum}
use Rattle.ts_expr.specs.declared.item.Item.{Item}
use Rattle.ts_expr.specs.Aggregates.{function_as, function_in, name_in, column_in, item_in, further}
use Rattle.ts_expr.proofs.ListLemmas.{few_more, few_end, few_full, few_refused}

function_yields : Yields plain_front Any function_in
unfolding function_in plain_front
function_yields = of_token plain_front plain_laws Any function_as (record { first = 115; more = codes "um"; kind = Word; found = Sum; holds = tt; stands = refl; accepted = refl }) (λ kind text a e. tt)

name_yields : Yields plain_front Any name_in
unfolding name_in plain_front
name_yields = of_token plain_front plain_laws Any name_as (record { first = 118; more = []; kind = Word; found = 118 ∷ []; holds = tt; stands = refl; accepted = refl }) (λ kind text a e. tt)

column_yields : Yields plain_front Any column_in
unfolding column_in
column_yields =
    brackets_yield plain_front plain_laws Any (plain_sign 40 refl refl refl) (plain_sign 41 refl refl refl) (behind 36 name_in) (behind_yields plain_front plain_laws Any 36 (plain_sign 36 refl refl refl) name_in name_yields)

pub item_yields : Yields plain_front Any item_in
unfolding item_in
item_yields =
    chain plain_front plain_laws Any Any function_in _ function_yields
    (λ function f. chain plain_front plain_laws Any Any column_in _ column_yields (λ column c. given plain_front Any _ tt))

-- one more item behind a comma
pub further_more : (m n : ℕ) → m ≡ n + 1 → (before : List Item) (bytes behind more : List ℕ) (found : Item) → a_sign 44 bytes ≡ Ok (tt, behind) → item_in behind ≡ Ok (found, more) →
    onto before (further m bytes) ≡ onto (before ++ found ∷ []) (further n more)
unfolding further
further_more m n is before bytes behind more found comma one =
    let next : m ≡ suc n = omega (arith, is) in
    ap (λ (k : ℕ). onto before (phrases item_in k bytes)) next ∙ few_more item_in n before bytes behind more found comma one

-- no comma
pub further_end : (m n : ℕ) → m ≡ n + 1 → (before : List Item) (bytes : List ℕ) (left : ℕ) → a_sign 44 bytes ≡ Err left → onto before (further m bytes) ≡ Ok (before, bytes)
unfolding further
further_end m n is before bytes left none =
    let next : m ≡ suc n = omega (arith, is) in
    ap (λ (k : ℕ). onto before (phrases item_in k bytes)) next ∙ few_end item_in n before bytes left none

-- as many as there may be
pub further_full : (m : ℕ) → m ≡ 0 → (before : List Item) (bytes : List ℕ) → onto before (further m bytes) ≡ Ok (before, bytes)
unfolding further
further_full m is before bytes = ap (λ (k : ℕ). onto before (phrases item_in k bytes)) is ∙ few_full item_in before bytes

-- what is refused behind a comma
pub further_refused : (m n : ℕ) → m ≡ n + 1 → (before first : List Item) (whole : Read (List Item)) (bytes behind : List ℕ) (misfit : Misfit) → onto before (further m bytes) ≡ onto first whole → a_sign 44 bytes ≡ Ok (tt, behind) → Refuses misfit (item_in behind) → Refuses misfit whole
unfolding further
further_refused m n is before first whole bytes behind misfit so_far comma refused =
    let next : m ≡ suc n = omega (arith, is) in
    few_refused item_in n before first whole bytes behind misfit (ap (λ (k : ℕ). onto before (phrases item_in k bytes)) (sym next) ∙ so_far) comma refused
