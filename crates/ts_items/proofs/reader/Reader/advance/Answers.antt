use Rattle.std.proofs.Common.{refl, arith}
use Rattle.ts_items.proofs.FeedLemmas.{items_more, place_more}
use Rattle.ts_items.proofs.RunLemmas.{none_earlier}
use Rattle.ts_items.proofs.reader.Reader.advance.Goals as goal

pub returns-then-plain-bytes-clause-first : goal.returns-then-plain-bytes-clause-first
returns-then-plain-bytes-clause-first c = λ k less. none_earlier c.args.self.now.place c.args.bytes.now k c.take_plain-plain.result (omega arith) c.take_plain-plain.ensures.items

pub returns-clause-items : goal.returns-clause-items
returns-clause-items c =
    let more = items_more c.args.self.now.place c.args.bytes.now c.take_plain-plain.result (omega (arith, c.take_plain-plain.ensures.within)) in
    rw (more, c.take_plain-plain.ensures.items, c.take_plain-plain.ensures.place, c.take-cut.ensures.after) refl

pub returns-clause-place : goal.returns-clause-place
returns-clause-place c =
    let more = place_more c.args.self.now.place c.args.bytes.now c.take_plain-plain.result (omega (arith, c.take_plain-plain.ensures.within)) in
    rw (more, c.take_plain-plain.ensures.place, c.take-cut.ensures.after) refl

pub returns-clause-first : goal.returns-clause-first
returns-clause-first c = λ k less. none_earlier c.args.self.now.place c.args.bytes.now k c.take_plain-plain.result (omega arith) c.take_plain-plain.ensures.items
