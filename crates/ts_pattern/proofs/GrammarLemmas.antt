-- What the grammar of patterns gives, and where it refuses.
use Rattle.std.proofs.Common.{◌≡◌, ◌<◌, ◌^◌, ◌++◌, true, ◌&&◌, nat_lt, List, [], ◌∷◌, refl, codes}
use Rattle.std.proofs.lemmas.Bool.{and_parts}
use Rattle.std.specs.List.{AllByRecursion}
use Rattle.ts_base.specs.declared.unit.Unit.TheVariants.{Day}
use Rattle.ts_text.specs.Phrase.{behind, closed, plain_front}
use Rattle.ts_text.specs.declared.token.TokenKind.TheVariants.{Word, Number}
use Rattle.ts_text.proofs.CallerLemmas.{Yields, Shrinks, shrinks_of, chain, given, Any, of_token, behind_yields, closed_yields, plain_laws, plain_sign}
use Rattle.ts_pattern.specs.declared.run.Run.{Run}
use Rattle.ts_pattern.specs.Patterns.{flag_as, flag_in, unit_as, unit_in, count_as, count_in, run_in, runs_in, pattern_in, are_counts}
use Rattle.ts_pattern.proofs.RunLemmas.{lt_yes}

-- a further count
pub are_counts-push : (rs : List Run) (r : Run) → are_counts rs ≡ true → 0 < r.count → r.count < 10 ^ 9 → are_counts (rs ++ r ∷ []) ≡ true
are_counts-push [] r h low high = rw (lt_yes 0 r.count low, lt_yes r.count (10 ^ 9) high) refl
are_counts-push (x ∷ rs) r h low high =
    let parts = and_parts (nat_lt 0 x.count && nat_lt x.count (10 ^ 9)) (are_counts rs) h in
    rw (parts.0, are_counts-push rs r parts.1 low high) refl

flag_yields : Yields plain_front Any flag_in
unfolding flag_in plain_front
flag_yields = of_token plain_front plain_laws Any flag_as (record { first = 111; more = 110 ∷ []; kind = Word; found = true; holds = tt; stands = refl; accepted = refl }) (λ kind text a e. tt)

unit_yields : Yields plain_front Any unit_in
unfolding unit_in plain_front
unit_yields = of_token plain_front plain_laws Any unit_as (record { first = 100; more = codes "ay"; kind = Word; found = Day; holds = tt; stands = refl; accepted = refl }) (λ kind text a e. tt)

count_yields : Yields plain_front Any count_in
unfolding count_in plain_front
count_yields = of_token plain_front plain_laws Any count_as (record { first = 49; more = []; kind = Number; found = 1; holds = tt; stands = refl; accepted = refl }) (λ kind text a e. tt)

pub run_yields : Yields plain_front Any run_in
unfolding run_in
run_yields =
    chain plain_front plain_laws Any Any count_in _ count_yields
    (λ count c. chain plain_front plain_laws Any Any flag_in _ flag_yields (λ on o. given plain_front Any _ tt))

pub run_shrinks : Shrinks run_in
run_shrinks = shrinks_of plain_front Any run_in run_yields

runs_yield : Yields plain_front Any runs_in
unfolding runs_in
runs_yield =
    chain plain_front plain_laws Any Any (behind 123 run_in) _ (behind_yields plain_front plain_laws Any 123 (plain_sign 123 refl refl refl) run_in run_yields)
    (λ first f. chain plain_front plain_laws (AllByRecursion Any) Any (closed 125 run_in) _ (closed_yields plain_front plain_laws Any 125 (plain_sign 44 refl refl refl) (plain_sign 125 refl refl refl) refl run_in run_yields) (λ others o. given plain_front Any _ tt))

pub pattern_yields : Yields plain_front Any pattern_in
unfolding pattern_in
pattern_yields =
    chain plain_front plain_laws Any Any runs_in _ runs_yield
    (λ runs r. chain plain_front plain_laws Any Any (behind 44 unit_in) _ (behind_yields plain_front plain_laws Any 44 (plain_sign 44 refl refl refl) unit_in unit_yields) (λ u any. given plain_front Any _ tt))
