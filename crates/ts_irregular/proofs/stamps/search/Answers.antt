use Rattle.std.proofs.Common.{◌≡◌, ℕ, List, length, sym, ap, subst, ◌∙◌, arith, of_z, w64}
use Rattle.ts_base.specs.Moment.{IsStamp}
use Rattle.ts_row.specs.declared.kind.Column.{Column}
use Rattle.ts_irregular.proofs.BytesLemmas.{cell_within, part, units_in}
use Rattle.ts_irregular.proofs.SearchLemmas.{search_there, search_none, stamp_one}
use Rattle.ts_irregular.proofs.stamps.search.Goals.{else-rank-count-via-then-rank-count+else-units_at-units, else-rank-count-via-else-rank-count}
use Rattle.ts_irregular.proofs.stamps.search.Goals as goal

pub units_at-requires-clause-within : goal.units_at-requires-clause-within
units_at-requires-clause-within c =
    cell_within c.args.kind.now.columns c.cell_size.result c.rank-rank.result (length c.args.behind.now) c.cell_size.ensures.value (omega arith) c.requires.size

pub returns-then-units_at-units-clause-ok : goal.returns-then-units_at-units-clause-ok
returns-then-units_at-units-clause-ok c = λ es order count same.
    let columns : List Column = c.args.kind.now.columns in
    let i : ℕ = c.rank-rank.result in
    let p = part columns i es c.args.behind.now order.each (omega arith) same in
    let read : c.units_at.result ≡ p.element.0 = c.units_at.ensures ∙ units_in columns c.cell_size.result i es c.args.behind.now p c.cell_size.ensures.value in
    let there : p.element.0 ≡ c.args.stamp =
    stamp_one p.element.0 c.args.stamp p.is.stamp (subst IsStamp c.units.ensures.value c.units.ensures.within)
    (ap (of_z w64) (sym read) ∙ c.if-units_at-units.true ∙ ap (of_z w64) c.units.ensures.value) in
    search_there columns c.args.stamp i es c.args.behind.now p order.rising there (c.rank-rank.ensures.ok es order count same)

pub returns-else-rank-count-clause-ok : goal.returns-else-rank-count-clause-ok
returns-else-rank-count-clause-ok c = λ es order count same.
    let columns : List Column = c.args.kind.now.columns in
    let i : ℕ = c.rank-rank.result in
    let none = search_none columns c.args.stamp i es c.args.behind.now order same (c.rank-rank.ensures.ok es order count same) in
    elim c.else-rank-count.branch [
      | else-rank-count-via-then-rank-count+else-units_at-units w ↦
          none (λ p within there. w.if-units_at-units.false
          (ap (of_z w64) (w.units_at.ensures ∙ units_in columns w.cell_size.result i es c.args.behind.now p w.cell_size.ensures.value ∙ there ∙ sym w.units.ensures.value)))
      | else-rank-count-via-else-rank-count w ↦ none (λ p within there. absurd (let past = w.if-rank-count.false in omega (arith, within, past, count)))
    ]
