use Rattle.std.proofs.Common.{ℕ, List, take, refl, arith}
use Rattle.std.proofs.lemmas.List.{length-take}
use Rattle.ts_syntax.specs.declared.checker.Checker.{Checker}
use Rattle.ts_syntax.proofs.ReadLemmas.{feeds_of, body_reads}
use Rattle.ts_syntax.proofs.checker.Checker.read_body.Goals as goal

pub returns-clause-reads : goal.returns-clause-reads
returns-clause-reads c = λ front short has.
    let e : Checker = c.args.self.now in
    let fed = c.feed-fed in
    let bytes : List ℕ = c.args.bytes.now in
    let n = fed.result.taken in
    let f : Checker = record { alloc = e.alloc; reader = fed.new.self; text = c.extend_from_slice.new.self; begin = e.begin; end = c.behind-self.result; found = e.found } in
    body_reads front (take n bytes) fed.result.cut e f has c.requires.body
    (feeds_of e.reader.place fed.new.self.place bytes n fed.result.cut fed.new.self.text (fed.ensures.some c.requires.some) fed.ensures.taken fed.ensures.items fed.ensures.place fed.ensures.first fed.ensures.cut)
    c.in_ok-extend_from_slice.ensures.ok refl (c.behind-self.ensures front (omega (arith, short, length-take n bytes)) has.stands.end)
