use Rattle.std.proofs.Common.{◌≡◌, ◌==◌, ℕ, suc, ◌+◌, ◌<◌, ◌^◌, true, length, List, [], ◌∷◌, ◌++◌, take, drop, Ok, Err, refl, sym, ◌∙◌, ap, subst, append_assoc, take-append-drop, arith, length-append}
use Rattle.std.proofs.lemmas.Bool.Decides.{nat_tests}
use Rattle.std.proofs.lemmas.List.{append-nil}
use Rattle.ts_items.proofs.RunLemmas.{rest_whole}
use Rattle.ts_syntax.specs.Mistakes.{mistakes_from}
use Rattle.ts_syntax.specs.Reading.{HasRead}
use Rattle.ts_syntax.specs.declared.checker.Checker.{Checker}
use Rattle.ts_syntax.proofs.MistakeLemmas.{mistakes_behind}
use Rattle.ts_syntax.proofs.ReadLemmas.{has_place}
use Rattle.ts_syntax.proofs.ToldLemmas.{told_none, told_of, told_as, told_fault, told_then}
use Rattle.ts_syntax.proofs.checker.Checker.check_piece.Goals as goal

-- nothing is left
no_rest : (rest : List ℕ) → (length rest == 0) ≡ true → rest ≡ []
no_rest [] none = refl
no_rest (b ∷ rest) none = absurd (let zero : suc (length rest) ≡ 0 = grind (arith, nat_tests) in omega (arith, zero))

pub loop-rest-init : goal.loop-rest-init
loop-rest-init g c =
    let e : Checker = c.args.self.now in record {
      reading = c.requires.reading;
      read = ([], refl, λ front short has. (subst (λ (l : List ℕ). HasRead l e) (sym (append-nil front)) has, told_none g.O.Output.tells (tt {0}) e.found (g.O.Output.heard c.args.output.now)));
    }

pub loop-rest-preserved : goal.loop-rest-preserved
loop-rest-preserved g c =
    let tells = g.O.Output.tells in
    let inv = c.loop-rest.invariant in
    let read = inv.read in
    let rest : List ℕ = c.loop-rest.rest.now in
    let n = c.in-Ok.count in
    let e : Checker = c.args.self.now in
    let x : Checker = c.loop-rest.self in
    let f : Checker = c.check_next.new.self in
    let v = g.O.Output.heard c.args.output.now in
    let y = g.O.Output.heard c.loop-rest.output in
    let w = g.O.Output.heard c.check_next.new.output in
    let ends = rest_whole rest n in
    let split : rest ≡ take n rest ++ drop n rest = sym (take-append-drop n rest) in
    let whole : c.args.piece.now ≡ (read.0 ++ take n rest) ++ drop n rest = read.1 ∙ ap (λ (l : List ℕ). read.0 ++ l) split ∙ sym (append_assoc read.0 (take n rest) (drop n rest)) in
    let reading = inv.reading in record {
      reading = (reading.0 ++ take n rest, omega (arith, reading.1, length-append reading.0 (take n rest), ap length split, length-append (take n rest) (drop n rest), ap length ends), c.in-Ok.ensures.read reading.0 reading.1 reading.2);
      read = (
        read.0 ++ take n rest,
        whole ∙ ap (λ (l : List ℕ). (read.0 ++ take n rest) ++ l) (sym ends),
        λ front short has.
            let before = read.2 front short has in
            let few : length (front ++ read.0) + length rest < 2 ^ 32 = omega (arith, short, ap length read.1, length-append front read.0, length-append read.0 rest) in
            let next = c.in-Ok.ensures.told (front ++ read.0) few before.0 in (
              subst (λ (l : List ℕ). HasRead l f) (append_assoc front read.0 (take n rest)) (c.in-Ok.ensures.read (front ++ read.0) few before.0),
              told_of tells _ (mistakes_from front e.reader.place (read.0 ++ take n rest)) (Ok (tt {0})) e.found f.found v w
                  (mistakes_behind front e.reader.place x.reader.place read.0 (take n rest) (has_place front read.0 e x has before.0))
                  (told_then tells (mistakes_from front e.reader.place read.0) (mistakes_from (front ++ read.0) x.reader.place (take n rest)) (tt {0}) (Ok (tt {0})) e.found x.found f.found v y w before.1
                  (told_as tells (mistakes_from (front ++ read.0) x.reader.place (take n rest)) n (tt {0}) x.found f.found y w next)),
            ),
      );
    }

pub returns-in-Err-clause-told : goal.returns-in-Err-clause-told
returns-in-Err-clause-told g c = λ front short has.
    let tells = g.O.Output.tells in
    let read = c.loop-rest.invariant.read in
    let rest : List ℕ = c.loop-rest.rest.now in
    let e : Checker = c.args.self.now in
    let x : Checker = c.loop-rest.self in
    let f : Checker = c.check_next.new.self in
    let v = g.O.Output.heard c.args.output.now in
    let y = g.O.Output.heard c.loop-rest.output in
    let w = g.O.Output.heard c.check_next.new.output in
    let before = read.2 front short has in
    let few : length (front ++ read.0) + length rest < 2 ^ 32 = omega (arith, short, ap length read.1, length-append front read.0, length-append read.0 rest) in
    let next = c.in-Err.ensures.fault refl (front ++ read.0) few before.0 in
    told_of tells _ (mistakes_from front e.reader.place c.args.piece.now) (Err c.in-Err.fault) e.found f.found v w
    (mistakes_behind front e.reader.place x.reader.place read.0 rest (has_place front read.0 e x has before.0) ∙ ap (mistakes_from front e.reader.place) (sym read.1))
    (told_then tells (mistakes_from front e.reader.place read.0) (mistakes_from (front ++ read.0) x.reader.place rest) (tt {0}) (Err c.in-Err.fault) e.found x.found f.found v y w before.1
    (told_fault tells (mistakes_from (front ++ read.0) x.reader.place rest) c.in-Err.fault x.found f.found y w next))

pub returns-clause-read : goal.returns-clause-read
returns-clause-read g c = λ front short has.
    let read = c.loop-rest.invariant.read in
    let none = no_rest c.loop-rest.rest.now (sym c.is_empty.ensures ∙ c.loop-rest-test.false) in
    let all : read.0 ≡ c.args.piece.now = sym (read.1 ∙ ap (λ (l : List ℕ). read.0 ++ l) none ∙ append-nil read.0) in
    subst (λ (l : List ℕ). HasRead (front ++ l) c.loop-rest.self) all (read.2 front short has).0

pub returns-clause-told : goal.returns-clause-told
returns-clause-told g c = λ front short has.
    let read = c.loop-rest.invariant.read in
    let e : Checker = c.args.self.now in
    let x : Checker = c.loop-rest.self in
    let none = no_rest c.loop-rest.rest.now (sym c.is_empty.ensures ∙ c.loop-rest-test.false) in
    let all : read.0 ≡ c.args.piece.now = sym (read.1 ∙ ap (λ (l : List ℕ). read.0 ++ l) none ∙ append-nil read.0) in
    told_of g.O.Output.tells (mistakes_from front e.reader.place read.0) (mistakes_from front e.reader.place c.args.piece.now) (Ok (tt {0})) e.found x.found (g.O.Output.heard c.args.output.now) (g.O.Output.heard c.loop-rest.output)
    (ap (mistakes_from front e.reader.place) all) (read.2 front short has).1
