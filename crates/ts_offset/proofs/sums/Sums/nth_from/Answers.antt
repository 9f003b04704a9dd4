use Rattle.std.proofs.Common.{◌∙◌, sym, ap, arith, slice_get, pos, ◌+ℤ◌}
use Rattle.std.proofs.lemmas.Option.{slice_get_past}
use Rattle.ts_offset.specs.Grid.{gap, starts_among}
use Rattle.ts_offset.proofs.SumLemmas.{summed}
use Rattle.ts_offset.proofs.CursorLemmas.{among}
use Rattle.ts_offset.proofs.OnwardLemmas.{all-from}
use Rattle.ts_offset.proofs.sums.Sums.nth_from.Goals as goal

pub returns-then-n-from : goal.returns-then-n-from
returns-then-n-from c =
    let x = c.args.self.now in
    let n = c.args.from in
    let a = c.requires in
    let end = x.first +ℤ pos x.existing in
    let steps = gap n.interval end in
    let all = all-from x.calendar x.spans.items x.round x.each x.place x.existing x.first n.interval a.known x.facts a.is_known in
    let w = summed x.calendar x.spans.items x.round x.each x.place x.existing x.first n.interval steps a.known x.existing x.facts all.0 (omega arith) all.1 in
    sym (slice_get_past (starts_among x.calendar n.interval steps) c.args.n (omega (arith, w, a.before_is, a.left_is, c.if-n-from.true)))

pub start-requires-clause-from : goal.start-requires-clause-from
start-requires-clause-from c =
    let x = c.args.self.now in
    let a = c.requires in
    let r = c.new.result in
    (among x r.sums.now a.known x.existing c.args.n r.at r.index r.inside a.is_known.few (omega arith) c.new.ensures.sums r.stands
    (omega (arith, c.new.ensures.until, a.before_is)) (omega (arith, a.before_is, a.left_is, c.if-n-from.false))).from

pub start-requires-clause-to : goal.start-requires-clause-to
start-requires-clause-to c =
    let x = c.args.self.now in
    let a = c.requires in
    let r = c.new.result in
    (among x r.sums.now a.known x.existing c.args.n r.at r.index r.inside a.is_known.few (omega arith) c.new.ensures.sums r.stands
    (omega (arith, c.new.ensures.until, a.before_is)) (omega (arith, a.before_is, a.left_is, c.if-n-from.false))).to

pub returns : goal.returns
returns c =
    let x = c.args.self.now in
    let n = c.args.from in
    let a = c.requires in
    let r = c.new.result in
    let all = all-from x.calendar x.spans.items x.round x.each x.place x.existing x.first n.interval a.known x.facts a.is_known in
    let w = among x r.sums.now a.known x.existing c.args.n r.at r.index r.inside a.is_known.few (omega arith) c.new.ensures.sums r.stands
    (omega (arith, c.new.ensures.until, a.before_is)) (omega (arith, a.before_is, a.left_is, c.if-n-from.false)) in
    sym c.start.ensures ∙ w.start ∙ sym w.there ∙ sym (ap (λ l. slice_get l c.args.n) all.1)
