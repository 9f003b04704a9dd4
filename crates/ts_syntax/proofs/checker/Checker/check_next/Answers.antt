use Rattle.std.proofs.Common.{Bool, ℕ, ◌<◌, ◌^◌, ◌++◌, List, [], take, drop, length, Ok, Err, sym, ◌∙◌, ap, subst, arith, take-append-drop, length-append}
use Rattle.std.proofs.lemmas.List.{length-take}
use Rattle.ts_items.specs.Items.{place_from}
use Rattle.ts_items.specs.Reader.{item_of}
use Rattle.ts_command.specs.Grammar.{request_of}
use Rattle.ts_syntax.specs.Mistakes.{Mistake, mistakes_of, mistakes_from, text_at}
use Rattle.ts_syntax.specs.Reading.{Told}
use Rattle.ts_syntax.specs.declared.checker.Checker.{Checker}
use Rattle.ts_syntax.proofs.MistakeLemmas.{mistakes_from-append}
use Rattle.ts_syntax.proofs.ReadLemmas.{reads_none, reads_some, restarted, stands-le}
use Rattle.ts_syntax.proofs.ToldLemmas.{told_none, told_of, told_as, told_failed, told_wanting}
use Rattle.ts_syntax.proofs.checker.Checker.check_next.Goals as goal

pub returns-in_default-clause-fault : goal.returns-in_default-clause-fault
returns-in_default-clause-fault g c = λ err front short has. told_wanting g.O.Output.tells (mistakes_from front c.args.self.now.reader.place c.args.bytes.now) _ _ _

pub returns-in_default-cut-clause-read : goal.returns-in_default-cut-clause-read
returns-in_default-cut-clause-read g c = λ front short has.
    (reads_none front (take c.in-Ok.fed.taken c.args.bytes.now) c.in-Ok.fed.cut c.args.self.now c.read_on.new.self c.in_default-cut.is (c.in-Ok.ensures.reads front short has)).0

pub returns-in_default-cut-clause-told : goal.returns-in_default-cut-clause-told
returns-in_default-cut-clause-told g c = λ front short has.
    let bytes : List ℕ = take c.in-Ok.fed.taken c.args.bytes.now in
    let none = (reads_none front bytes c.in-Ok.fed.cut c.args.self.now c.read_on.new.self c.in_default-cut.is (c.in-Ok.ensures.reads front short has)).1 in
    let e : Checker = c.args.self.now in
    let f : Checker = c.read_on.new.self in
    let v = g.O.Output.heard c.args.output.now in
    let told = told_of g.O.Output.tells [] (mistakes_from front e.reader.place bytes) (Ok c.in-Ok.fed.taken) e.found e.found v v (sym none) (told_none g.O.Output.tells c.in-Ok.fed.taken e.found v) in
    subst (λ (b : Bool). Told g.O.Output.tells (mistakes_from front e.reader.place bytes) (Ok c.in-Ok.fed.taken) e.found b v v) (sym c.in-Ok.ensures.found) told

pub tell-requires : goal.tell-requires
tell-requires g c =
    let reading = c.requires.reading in
    let bytes : List ℕ = take c.in-Ok.fed.taken c.args.bytes.now in
    let f : Checker = c.read_on.new.self in
    let reads = reads_some reading.0 bytes c.in-Ok.fed.cut c.in-Some.cut c.args.self.now f c.in-Some.is (c.in-Ok.ensures.reads reading.0 reading.1 reading.2) in
    omega (arith, reading.1, stands-le (reading.0 ++ bytes) (text_at c.args.self.now.reader.place ++ bytes) f reads.0, length-append reading.0 bytes, length-take c.in-Ok.fed.taken c.args.bytes.now)

pub returns-in-Ok-tell-clause-read : goal.returns-in-Ok-tell-clause-read
returns-in-Ok-tell-clause-read g c = λ front short has.
    let e : Checker = c.args.self.now in
    let f : Checker = c.read_on.new.self in
    let t : Checker = c.tell.new.self in
    let bytes : List ℕ = take c.in-Ok.fed.taken c.args.bytes.now in
    let reads = reads_some front bytes c.in-Ok.fed.cut c.in-Some.cut e f c.in-Some.is (c.in-Ok.ensures.reads front short has) in
    let same = c.tell.ensures.others in
    let h : Checker = record { alloc = t.alloc; reader = t.reader; text = c.clear.new.self; begin = t.end; end = t.end; found = t.found } in
    let end = ap (λ (k : Checker). k.end) same in
    restarted (front ++ bytes) f h reads.1 reads.2 reads.0.end (ap (λ (k : Checker). k.reader.place) same) c.clear.ensures end end

pub returns-in-Ok-tell-clause-told : goal.returns-in-Ok-tell-clause-told
returns-in-Ok-tell-clause-told g c = λ front short has.
    let e : Checker = c.args.self.now in
    let f : Checker = c.read_on.new.self in
    let n = c.in-Ok.fed.taken in
    let bytes : List ℕ = take n c.args.bytes.now in
    let cut = c.in-Some.cut in
    let text = text_at e.reader.place ++ bytes in
    let reads = reads_some front bytes c.in-Ok.fed.cut cut e f c.in-Some.is (c.in-Ok.ensures.reads front short has) in
    let v = g.O.Output.heard c.args.output.now in
    let w = g.O.Output.heard c.tell.new.output in
    let few : length (front ++ bytes) < 2 ^ 32 = omega (arith, short, length-append front bytes, length-take n c.args.bytes.now) in
    let told = c.in-Ok-tell.ensures.told (front ++ bytes) text few reads.0 in
    let named = told_of g.O.Output.tells (mistakes_of (front ++ bytes) text (request_of (item_of cut text))) (mistakes_from front e.reader.place bytes) (Ok n) f.found c.tell.new.self.found v w (sym reads.3)
    (told_as g.O.Output.tells (mistakes_of (front ++ bytes) text (request_of (item_of cut text))) c.in-Ok-tell.field-0 n f.found c.tell.new.self.found v w told) in
    subst (λ (b : Bool). Told g.O.Output.tells (mistakes_from front e.reader.place bytes) (Ok n) b c.tell.new.self.found v w) c.in-Ok.ensures.found named

pub returns-in-Err-clause-fault : goal.returns-in-Err-clause-fault
returns-in-Err-clause-fault g c = λ err front short has.
    let e : Checker = c.args.self.now in
    let f : Checker = c.read_on.new.self in
    let n = c.in-Ok.fed.taken in
    let bytes : List ℕ = take n c.args.bytes.now in
    let rest : List ℕ = drop n c.args.bytes.now in
    let cut = c.in-Some.cut in
    let text = text_at e.reader.place ++ bytes in
    let reads = reads_some front bytes c.in-Ok.fed.cut cut e f c.in-Some.is (c.in-Ok.ensures.reads front short has) in
    let v = g.O.Output.heard c.args.output.now in
    let w = g.O.Output.heard c.tell.new.output in
    let few : length (front ++ bytes) < 2 ^ 32 = omega (arith, short, length-append front bytes, length-take n c.args.bytes.now) in
    let here = mistakes_of (front ++ bytes) text (request_of (item_of cut text)) in
    let others = mistakes_from (front ++ bytes) (place_from e.reader.place bytes) rest in
    let told = c.in-Err.ensures.told (front ++ bytes) text few reads.0 in
    told_of g.O.Output.tells (here ++ others) (mistakes_from front e.reader.place c.args.bytes.now) (Err c.in-Err.fault) e.found c.tell.new.self.found v w
    (ap (λ (l : List Mistake). l ++ others) (sym reads.3) ∙ sym (mistakes_from-append front e.reader.place bytes rest) ∙ ap (mistakes_from front e.reader.place) (take-append-drop n c.args.bytes.now))
    (told_failed g.O.Output.tells here others c.in-Err.fault f.found c.tell.new.self.found e.found c.tell.new.self.found v w told)
