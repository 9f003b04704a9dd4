use Rattle.std.proofs.Common.{◌+◌, ℤ, Option, take, sym, subst}
use Rattle.ts_entry.specs.declared.stamps.Stamps.{Stamps}
use Rattle.ts_entry.specs.Rows.{AreStamped, elements_in}
use Rattle.ts_aggregate.specs.Groups.{AreBefore, IsFirstBefore, IsAhead}
use Rattle.ts_aggregate.proofs.PieceLemmas.{none_behind, offsets_all, ahead_on}
use Rattle.ts_aggregate.proofs.run.cells_before.Goals as goal

pub returns-in_default-clause-before : goal.returns-in_default-clause-before
returns-in_default-clause-before c = λ columns found is are stamped first ordered.
    let left = c.args.cells.left in
    subst (λ (e : Option ℤ). AreBefore e (elements_in (take left found))) (sym c.in_default.is) (none_behind (elements_in (take left found)))

pub returns-in-InCells-clause-before : goal.returns-in-InCells-clause-before
returns-in-InCells-clause-before c = λ columns found is are stamped first ordered.
    let r = c.args.cells in
    let n = c.stamped_before.result in
    subst (λ (e : Option ℤ). AreBefore e (elements_in (take n found))) (sym c.in-Some.is)
    (c.stamped_before.ensures.before c.args.number columns found is are
    (subst (λ (s : Stamps). AreStamped s r.size c.args.number r.bytes.now found) c.in-InCells.is stamped)
    (subst (λ (e : Option ℤ). IsFirstBefore e found) c.in-Some.is first) ordered)

pub returns-in-OnGrid-clause-before : goal.returns-in-OnGrid-clause-before
returns-in-OnGrid-clause-before c = λ columns found is are stamped first ordered.
    let r = c.args.cells in
    let n = c.piece_before.result.count in
    subst (λ (e : Option ℤ). AreBefore e (elements_in (take n found))) (sym c.in-Some.is)
    (offsets_all c.in-OnGrid.grid c.in-OnGrid.first r.size c.in-Some.end n c.args.number r.bytes.now found
    (subst (λ (s : Stamps). AreStamped s r.size c.args.number r.bytes.now found) c.in-OnGrid.is stamped)
    (subst (λ (e : Option ℤ). IsFirstBefore e found) c.in-Some.is first)
    (λ k s laid some low at. c.piece_before.ensures.before k s laid some low at))

pub returns-in-OnGrid-clause-next : goal.returns-in-OnGrid-clause-next
returns-in-OnGrid-clause-next c =
    let p = c.piece_before.result in
    subst (λ (s : Stamps). IsAhead s (c.args.number + p.count) p.next) (sym c.in-OnGrid.is)
    (ahead_on c.in-OnGrid.grid c.in-OnGrid.first c.args.number p.count p.next c.piece_before.ensures.next)
