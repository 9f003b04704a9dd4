use Rattle.std.proofs.Common.{◌≡◌, ◌-◌, ◌<◌, ℕ, false, length, inl, inr, sym, subst, ◌∙◌, arith}
use Rattle.std.proofs.lemmas.Bool.{cases_lt}
use Rattle.ts_regular.specs.OnePage.{cell_at, is_seen}
use Rattle.ts_regular.proofs.last.index_of_last.Goals as goal

pub loop-left-init : goal.loop-left-init
loop-left-init c = record {
  within = omega (arith, c.regular_room-left.ensures.value);
  none = λ cells are room same other above below. absurd (omega (arith, above, below, room, c.regular_room-left.ensures.value));
}

pub loop-left-preserved : goal.loop-left-preserved
loop-left-preserved c =
    let i = c.loop-left.invariant in
    record {
      within = omega (arith, i.within);
      none = λ cells are room same other above below. elim (cases_lt (c.loop-left.left - 1) other) [
        | inl after ↦ i.none cells are room same other (omega (arith, after)) below
        | inr before ↦
            let one : c.loop-left.left - 1 ≡ other = omega (arith, above, before) in
            let within : c.loop-left.left - 1 < length cells = omega (arith, i.within, room, c.loop-left-test.true) in
            subst (λ (n : ℕ). is_seen (cell_at cells n) ≡ false) one (sym (c.has_seen_at.ensures cells are within same) ∙ c.if-has_seen_at.false)
      ];
    }

pub returns-then-has_seen_at-clause-last : goal.returns-then-has_seen_at-clause-last
returns-then-has_seen_at-clause-last c = λ cells are room same.
    let i = c.loop-left.invariant in
    let within : c.loop-left.left - 1 < length cells = omega (arith, i.within, room, c.loop-left-test.true) in
    (sym (c.has_seen_at.ensures cells are within same) ∙ c.if-has_seen_at.true, λ other above below. i.none cells are room same other (omega (arith, above)) below)
