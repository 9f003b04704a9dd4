use Rattle.std.proofs.Common.{◌≡◌, ◌-◌, ◌<◌, true, false, List, length, sym, ◌∙◌, arith}
use Rattle.ts_row.specs.declared.kind.Column.{Column}
use Rattle.ts_irregular.proofs.BytesLemmas.{part}
use Rattle.ts_irregular.proofs.CellLemmas.{element_is}
use Rattle.ts_irregular.proofs.LastLemmas.{last_before, last_here, last_all}
use Rattle.ts_irregular.proofs.last.index_of_last.Goals as goal

pub loop-left-init : goal.loop-left-init
loop-left-init c = record { within = omega arith; seen = λ es order count same. last_all c.args.count es count }

pub loop-left-preserved : goal.loop-left-preserved
loop-left-preserved c =
    let i = c.loop-left.invariant in
    record {
      within = omega (arith, i.within);
      seen = λ es order count same.
          let columns : List Column = c.args.kind.now.columns in
          let below : c.loop-left.left - 1 < length es = omega (arith, i.within, count, c.loop-left-test.true) in
          let p = part columns (c.loop-left.left - 1) es c.args.behind.now order.each below same in
          let at = element_is columns (c.loop-left.left - 1) es c.args.behind.now p in
          let hidden : true ≡ p.element.1.hidden = sym c.if-not-is_hidden_at.false ∙ c.is_hidden_at.ensures es p.element order.each at same in
          i.seen es order count same ∙ last_before (c.loop-left.left - 1) c.loop-left.left es p.element at hidden (omega (arith, c.loop-left-test.true));
    }

pub returns-then-not-is_hidden_at-clause-last : goal.returns-then-not-is_hidden_at-clause-last
returns-then-not-is_hidden_at-clause-last c = λ es order count same.
    let i = c.loop-left.invariant in
    let columns : List Column = c.args.kind.now.columns in
    let below : c.loop-left.left - 1 < length es = omega (arith, i.within, count, c.loop-left-test.true) in
    let p = part columns (c.loop-left.left - 1) es c.args.behind.now order.each below same in
    let at = element_is columns (c.loop-left.left - 1) es c.args.behind.now p in
    let shown : false ≡ p.element.1.hidden = sym c.if-not-is_hidden_at.true ∙ c.is_hidden_at.ensures es p.element order.each at same in
    i.seen es order count same ∙ last_here (c.loop-left.left - 1) c.loop-left.left es p.element at shown (omega (arith, c.loop-left-test.true)) ∙ sym at
