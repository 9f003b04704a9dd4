use Rattle.std.proofs.Common.{◌≡◌, ◌+◌, ◌-◌, ◌/◌, ◌%◌, ◌^◌, ◌∷◌, ◌++◌, sym, ap, ◌∙◌, append_assoc, arith}
use Rattle.std.proofs.lemmas.Nat.{mod_below}
use Rattle.std.proofs.lemmas.List.{append-nil}
use Rattle.ts_rolling.specs.Sets.{digits_of}
use Rattle.ts_rolling.proofs.DigitLemmas.{power_pos, digits_of-none, digits_of-more}
use Rattle.ts_rolling.proofs.keys.push_digits.Goals as goal

pub loop-left-preserved : goal.loop-left-preserved
loop-left-preserved c =
    let l = c.loop-left in
    let w = l.left - 1 in
    let power : c.pow-power.result ≡ 10 ^ w = c.pow-power.ensures in
    let more = digits_of-more l.left l.rest (omega (arith, c.loop-left-test.true)) in
    let here : l.text.items ++ (48 + l.rest / c.pow-power.result) ∷ digits_of w (l.rest % c.pow-power.result) ≡ l.text.items ++ digits_of l.left l.rest =
    (λ i. l.text.items ++ (48 + l.rest / power i) ∷ digits_of w (l.rest % power i)) ∙ ap (λ d. l.text.items ++ d) (sym more) in
    record {
      written = ap (λ t. t ++ digits_of w (l.rest % c.pow-power.result)) c.push.ensures.items
          ∙ append_assoc l.text.items _ _ ∙ here ∙ l.invariant.written;
      few = (let small = mod_below l.rest (10 ^ w) (power_pos w) in omega (arith, small, ap (λ p. l.rest % p) power));
      within = omega (arith, l.invariant.within);
      room = omega (arith, l.invariant.room, c.push.ensures.len, c.loop-left-test.true);
    }

pub returns : goal.returns
returns c =
    let l = c.loop-left in
    let none : l.left ≡ 0 = omega (arith, c.loop-left-test.false) in
    sym (append-nil l.text.items)
    ∙ ap (λ d. l.text.items ++ d) (sym (ap (λ w. digits_of w l.rest) none ∙ digits_of-none l.rest))
    ∙ l.invariant.written
