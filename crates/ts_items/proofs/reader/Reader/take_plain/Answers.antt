use Rattle.std.proofs.Common.{◌≡◌, length, arith}
use Rattle.ts_items.proofs.RunLemmas.{after_plain}
use Rattle.ts_items.proofs.reader.Reader.take_plain.Goals as goal

pub invariant_of-self : goal.invariant_of-self
invariant_of-self c =
    let size : c.len.result ≡ length c.self.inside.text.items = omega (arith, c.len.ensures, c.self.inside.text.ok.0) in
    let count = rw size at c.plain_in_front-count.ensures.value in
    let facts = after_plain c.self.inside.phase c.self.inside.text.items c.self.inside.even c.self.inside.blank c.args.bytes.now c.plain_in_front-count.result c.in-Within.is c.if-self.false c.self.invariant.1 count in
    (omega (arith, c.self.invariant.0, c.in-Ok.ensures.capacity), rw c.in-Ok.ensures.items facts.0)

pub returns-clause-items : goal.returns-clause-items
returns-clause-items c =
    let size : c.len.result ≡ length c.self.inside.text.items = omega (arith, c.len.ensures, c.self.inside.text.ok.0) in
    let count = rw size at c.plain_in_front-count.ensures.value in
    let facts = after_plain c.self.inside.phase c.self.inside.text.items c.self.inside.even c.self.inside.blank c.args.bytes.now c.plain_in_front-count.result c.in-Within.is c.if-self.false c.self.invariant.1 count in
    rw (← c.self.view_is) facts.1

pub returns-clause-place : goal.returns-clause-place
returns-clause-place c =
    let size : c.len.result ≡ length c.self.inside.text.items = omega (arith, c.len.ensures, c.self.inside.text.ok.0) in
    let count = rw size at c.plain_in_front-count.ensures.value in
    let facts = after_plain c.self.inside.phase c.self.inside.text.items c.self.inside.even c.self.inside.blank c.args.bytes.now c.plain_in_front-count.result c.in-Within.is c.if-self.false c.self.invariant.1 count in
    rw (← c.self.view_is, c.in-Ok.ensures.items) facts.2
