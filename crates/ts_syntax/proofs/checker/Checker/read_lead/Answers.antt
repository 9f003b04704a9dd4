use Rattle.std.proofs.Common.{◌≡◌, ℕ, ◌++◌, List, take, refl, sym, ◌∙◌, ap, subst, arith}
use Rattle.std.proofs.lemmas.List.{length-take}
use Rattle.ts_syntax.specs.Places.{IsBehind}
use Rattle.ts_syntax.specs.declared.position.Position.{Position}
use Rattle.ts_syntax.specs.declared.checker.Checker.{Checker}
use Rattle.ts_syntax.specs.Reading.{shows_at}
use Rattle.ts_syntax.proofs.ReadLemmas.{lead_feeds, lead_reads, blank_reads}
use Rattle.ts_syntax.proofs.checker.Checker.read_lead.Goals as goal

pub returns-clause-reads : goal.returns-clause-reads
returns-clause-reads c = λ front short has.
    let e : Checker = c.args.self.now in
    let s : Checker = c.shows.new.self in
    let fed = c.feed-fed in
    let bytes : List ℕ = c.args.bytes.now in
    let n = fed.result.taken in
    let cut = fed.result.cut in
    let same = c.shows.ensures.others in
    let place : s.reader.place ≡ fed.new.self.place = ap (λ (k : Checker). k.reader.place) same in
    let one : n ≡ 1 = omega (arith, fed.ensures.taken, length-take 1 bytes, c.requires.some, fed.ensures.some) in
    let feeds = lead_feeds e.reader.place s.reader.place bytes n cut fed.new.self.text one c.requires.some fed.ensures.items (fed.ensures.place ∙ sym place) fed.ensures.cut in
    let f : Checker = record { alloc = s.alloc; reader = s.reader; text = c.extend_from_slice.new.self; begin = s.begin; end = s.end; found = s.found } in
    lead_reads front (take n bytes) cut e f has c.requires.lead feeds.0 feeds.1 (ap (shows_at cut) place ∙ sym c.shows.ensures.value ∙ c.if-not-shows.false)
    (c.in_ok-extend_from_slice.ensures.ok ∙ ap (λ (k : Checker). k.text ++ take n bytes) same) (ap (λ (k : Checker). k.begin) same)
    (subst (λ (p : Position). IsBehind (front ++ take n bytes) p) (sym (ap (λ (k : Checker). k.end) same)) (c.behind-self.ensures front (omega (arith, short, length-take n bytes)) has.stands.end))

pub returns-then-not-shows-clause-reads : goal.returns-then-not-shows-clause-reads
returns-then-not-shows-clause-reads c = λ front short has.
    let e : Checker = c.args.self.now in
    let s : Checker = c.shows.new.self in
    let fed = c.feed-fed in
    let bytes : List ℕ = c.args.bytes.now in
    let n = fed.result.taken in
    let cut = fed.result.cut in
    let same = c.shows.ensures.others in
    let place : s.reader.place ≡ fed.new.self.place = ap (λ (k : Checker). k.reader.place) same in
    let one : n ≡ 1 = omega (arith, fed.ensures.taken, length-take 1 bytes, c.requires.some, fed.ensures.some) in
    let feeds = lead_feeds e.reader.place s.reader.place bytes n cut fed.new.self.text one c.requires.some fed.ensures.items (fed.ensures.place ∙ sym place) fed.ensures.cut in
    let f : Checker = record { alloc = s.alloc; reader = s.reader; text = s.text; begin = s.end; end = s.end; found = s.found } in
    blank_reads front (take n bytes) cut e f has c.requires.lead feeds.0 (ap (shows_at cut) place ∙ sym c.shows.ensures.value ∙ c.if-not-shows.true)
    (ap (λ (k : Checker). k.text) same) refl
    (subst (λ (p : Position). IsBehind (front ++ take n bytes) p) (sym (ap (λ (k : Checker). k.end) same)) (c.behind-self.ensures front (omega (arith, short, length-take n bytes)) has.stands.end))
