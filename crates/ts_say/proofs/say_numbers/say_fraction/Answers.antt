-- The first of eight digits; those behind are cut off.
use Rattle.std.proofs.Common.{◌≡◌, ℕ, ◌<◌, ◌+◌, ◌*◌, ◌∷◌, ◌++◌, [], List, length, subst, sym, ap, ◌∙◌, arith}
use Rattle.std.proofs.lemmas.Result.{on_ok_weaker, on_err_weaker}
use Rattle.ts_row.specs.Row.{last_digits}
use Rattle.ts_say.proofs.NumberLemmas.{below_eight, cut_behind}
use Rattle.ts_say.proofs.say_numbers.say_fraction.Goals as goal

pub overflow_cast-part : goal.overflow_cast-part
overflow_cast-part c =
    let few : c.args.part * c.short_power.result < 100_000_000 = subst (λ (m : ℕ). c.args.part * m < 100_000_000) (sym c.short_power.ensures) (below_eight c.args.scale c.args.part (omega arith) c.requires.part) in
    omega (arith, few)

pub eight_digits-requires : goal.eight_digits-requires
eight_digits-requires c = subst (λ (m : ℕ). c.args.part * m < 100_000_000) (sym c.short_power.ensures) (below_eight c.args.scale c.args.part (omega arith) c.requires.part)

pub returns-clause-ok : goal.returns-clause-ok
returns-clause-ok c =
    let cut : c.truncate.new.self ≡ c.args.out.now ++ last_digits c.args.scale c.args.part =
    cut_behind c.args.scale c.args.part c.short_power.result _ c.args.out.now c.eight_digits.result c.extend_from_slice.new.self c.truncate.new.self (omega arith) c.short_power.ensures c.eight_digits.ensures
    c.in_ok-extend_from_slice.ensures.ok (ap (λ (l : List ℕ). length l + c.args.scale) c.as_slice-before.ensures) c.truncate.ensures in
    on_ok_weaker c.push.result (λ said. said ∙ ap (λ l. l ++ c.args.behind ∷ []) cut) c.push.ensures.ok

pub returns-clause-err : goal.returns-clause-err
returns-clause-err c =
    let cut : c.truncate.new.self ≡ c.args.out.now ++ last_digits c.args.scale c.args.part =
    cut_behind c.args.scale c.args.part c.short_power.result _ c.args.out.now c.eight_digits.result c.extend_from_slice.new.self c.truncate.new.self (omega arith) c.short_power.ensures c.eight_digits.ensures
    c.in_ok-extend_from_slice.ensures.ok (ap (λ (l : List ℕ). length l + c.args.scale) c.as_slice-before.ensures) c.truncate.ensures in
    on_err_weaker c.push.result (λ same. (last_digits c.args.scale c.args.part, same ∙ cut)) c.push.ensures.err
