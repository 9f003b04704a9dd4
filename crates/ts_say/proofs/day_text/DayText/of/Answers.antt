-- The text is that of the day's midnight.
use Rattle.std.proofs.Common.{◌≡◌, ℤ, List, ℕ, w64, FitsSigned, to_z, of_z, to_z-of_z, ◌++◌, take, drop, refl, ap, ◌∙◌, rules}
use Rattle.ts_base.specs.Moment.{day_of}
use Rattle.ts_say.specs.Day.{day_text, seconds_text, no_fraction}
use Rattle.ts_say.proofs.DayLemmas.{day_part}
use Rattle.ts_say.proofs.day_text.DayText.of.Goals as goal

pub invariant_of-result-clause-is_text : goal.invariant_of-result-clause-is_text
invariant_of-result-clause-is_text c =
    let fits : FitsSigned w64 c.midnight_before.result = search rules in
    let midnight : ℤ = to_z w64 (of_z w64 c.midnight_before.result) in
    let same : midnight ≡ c.midnight_before.result = to_z-of_z fits in
    let day : take 11 c.write_into.new.into ≡ day_text (day_of midnight) = day_part c.args.stamp midnight c.write_into.new.into c.write_into.ensures.text (ap day_of same ∙ c.midnight_before.ensures.day) in
    ap (take 11) c.midnight_text.ensures ∙ ap (λ (l : List ℕ). take 11 (l ++ seconds_text 0 ++ no_fraction)) day

pub invariant_of-result-clause-colon : goal.invariant_of-result-clause-colon
invariant_of-result-clause-colon c =
    let day : take 11 c.write_into.new.into ≡ day_text (day_of c.args.stamp) = day_part c.args.stamp c.args.stamp c.write_into.new.into c.write_into.ensures.text refl in
    ap (λ (l : List ℕ). take 1 (drop 13 l)) c.midnight_text.ensures ∙ ap (λ (l : List ℕ). take 1 (drop 13 (l ++ seconds_text 0 ++ no_fraction))) day

pub invariant_of-result-clause-next_colon : goal.invariant_of-result-clause-next_colon
invariant_of-result-clause-next_colon c =
    let day : take 11 c.write_into.new.into ≡ day_text (day_of c.args.stamp) = day_part c.args.stamp c.args.stamp c.write_into.new.into c.write_into.ensures.text refl in
    ap (λ (l : List ℕ). take 1 (drop 16 l)) c.midnight_text.ensures ∙ ap (λ (l : List ℕ). take 1 (drop 16 (l ++ seconds_text 0 ++ no_fraction))) day

pub invariant_of-result-clause-whole : goal.invariant_of-result-clause-whole
invariant_of-result-clause-whole c =
    let day : take 11 c.write_into.new.into ≡ day_text (day_of c.args.stamp) = day_part c.args.stamp c.args.stamp c.write_into.new.into c.write_into.ensures.text refl in
    ap (λ (l : List ℕ). take 7 (drop 19 l)) c.midnight_text.ensures ∙ ap (λ (l : List ℕ). take 7 (drop 19 (l ++ seconds_text 0 ++ no_fraction))) day
