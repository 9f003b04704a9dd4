use Rattle.std.proofs.Common.{◌≡◌, ℕ, ◌+◌, ◌<◌, ◌^◌, Bool, false, List, [], ◌++◌, length, take, Option, Some, Ok, Err, refl, sym, ◌∙◌, ap, subst, arith, length-append}
use Rattle.std.proofs.lemmas.List.{length-take-le}
use Rattle.ts_syntax.specs.Mistakes.{mistakes, mistakes_from, mistakes_at_end}
use Rattle.ts_syntax.specs.Reading.{Told}
use Rattle.ts_syntax.specs.Checked.{Checked}
use Rattle.ts_syntax.specs.declared.checker.Checker.{Checker}
use Rattle.ts_syntax.proofs.MistakeLemmas.{mistakes_behind}
use Rattle.ts_syntax.proofs.ToldLemmas.{told_none, told_of, told_then}
use Rattle.ts_syntax.proofs.CheckLemmas.{rose_on, stopped, overlong, failed, ended, taken_on, taken_all, nothing_left}
use Rattle.ts_syntax.proofs.check.check_source.Goals as goal

pub loop-checker-init : goal.loop-checker-init
loop-checker-init g c =
    let v = g.O.Output.heard c.args.output.now in record {
      within = omega arith;
      faults = refl;
      run = ([], refl, c.requires.start, λ told. refl, subst (λ (b : Bool). Told g.O.Output.tells [] (Ok (tt {0})) false b v v) (sym c.requires.found) (told_none g.O.Output.tells (tt {0}) false v));
    }

pub returns-in-Err : goal.returns-in-Err
returns-in-Err g c =
    let i = g.R.Source.input c.args.source.now in
    let x = g.R.Source.input c.loop-checker.source in
    let j = g.R.Source.input c.pull_front.new.source in
    let inv = c.loop-checker.invariant in
    stopped g.O.Output.tells g.R.Source.tells (g.O.Output.heard c.args.output.now) (g.O.Output.heard c.loop-checker.output) i j inv.run.0 x.left inv.run.3 (tt {0}) false c.loop-checker.checker.found
    (rose_on i.pull_faults x.pull_faults j.pull_faults (omega (arith, inv.faults)) (c.in-Err.ensures.pulled.cause refl)) inv.run.4

pub check_end-outcome-requires : goal.check_end-outcome-requires
check_end-outcome-requires g c = let inv = c.loop-checker.invariant in (inv.run.0, omega (arith, inv.run.1, inv.within), inv.run.2)

pub returns-in-Ok-eq0 : goal.returns-in-Ok-eq0
returns-in-Ok-eq0 g c =
    let tells = g.O.Output.tells in
    let told = g.R.Source.tells in
    let i = g.R.Source.input c.args.source.now in
    let x = g.R.Source.input c.loop-checker.source in
    let j = g.R.Source.input c.pull_front.new.source in
    let v = g.O.Output.heard c.args.output.now in
    let y = g.O.Output.heard c.loop-checker.output in
    let w = g.O.Output.heard c.check_end-outcome.new.output in
    let inv = c.loop-checker.invariant in
    let taken = inv.run.0 in
    let e : Checker = c.loop-checker.checker in
    let pulled = c.in-Ok-eq0.ensures.pulled in
    let few : length taken < 2 ^ 32 = omega (arith, inv.run.1, inv.within) in
    let found = c.check_end-outcome.new.self.found in
    let last = c.check_end-outcome.ensures taken few inv.run.2 in
    let run = told_of tells (mistakes_from [] (Some []) taken ++ mistakes_at_end taken e.reader.place) (mistakes taken) c.check_end-outcome.result false found v w
    (ap (λ (p : Option (List ℕ)). mistakes_from [] (Some []) taken ++ mistakes_at_end taken p) inv.run.2.place)
    (told_then tells (mistakes_from [] (Some []) taken) (mistakes_at_end taken e.reader.place) (tt {0}) c.check_end-outcome.result false e.found found v y w inv.run.4 last) in
    subst (λ (s : ℕ). Checked tells told s v w i j) (sym c.status_at_end.ensures)
    (ended tells told v w i j taken (omega (arith, inv.run.1, inv.within))
    (λ s. (taken_all i.left x.left taken (inv.run.3 s) (pulled.end s c.in-Ok-eq0.field-0-test), nothing_left x.left j.left c.pull_front.new.buffer c.in-Ok-eq0.field-0 c.in-Ok-eq0.field-0-test (pulled.end s c.in-Ok-eq0.field-0-test) (pulled.moved s)))
    (pulled.no_fault refl ∙ inv.faults) c.check_end-outcome.result found run)

pub returns-then-count-eq-LIMIT : goal.returns-then-count-eq-LIMIT
returns-then-count-eq-LIMIT g c =
    let i = g.R.Source.input c.args.source.now in
    let x = g.R.Source.input c.loop-checker.source in
    let j = g.R.Source.input c.pull_front.new.source in
    let inv = c.loop-checker.invariant in
    let pulled = c.in-Ok.ensures.pulled in
    let piece : List ℕ = take c.in-Ok.more c.pull_front.new.buffer in
    let size : length piece ≡ c.in-Ok.more = length-take-le c.in-Ok.more c.pull_front.new.buffer pulled.fits in
    overlong g.O.Output.tells g.R.Source.tells (g.O.Output.heard c.args.output.now) (g.O.Output.heard c.loop-checker.output) i j inv.run.0 x.left inv.run.3 (tt {0}) false c.loop-checker.checker.found
    (λ s. omega (arith, ap length (inv.run.3 s), length-append inv.run.0 x.left, ap length (pulled.moved s), length-append piece j.left, size, inv.run.1, c.if-count-eq-LIMIT.true, c.in-Ok.more-test))
    (pulled.no_fault refl ∙ inv.faults) inv.run.4

pub check_piece-requires : goal.check_piece-requires
check_piece-requires g c =
    let inv = c.loop-checker.invariant in
    let piece : List ℕ = take c.in-Ok.more c.pull_front.new.buffer in
    let size : length piece ≡ c.in-Ok.more = length-take-le c.in-Ok.more c.pull_front.new.buffer c.in-Ok.ensures.pulled.fits in
    record { reading = (inv.run.0, omega (arith, inv.run.1, inv.within, size, c.in-Ok.ensures.room, c.room_after.ensures.piece), inv.run.2) }

pub loop-checker-preserved : goal.loop-checker-preserved
loop-checker-preserved g c =
    let i = g.R.Source.input c.args.source.now in
    let x = g.R.Source.input c.loop-checker.source in
    let j = g.R.Source.input c.pull_front.new.source in
    let v = g.O.Output.heard c.args.output.now in
    let y = g.O.Output.heard c.loop-checker.output in
    let w = g.O.Output.heard c.check_piece.new.output in
    let inv = c.loop-checker.invariant in
    let taken = inv.run.0 in
    let e : Checker = c.loop-checker.checker in
    let f : Checker = c.check_piece.new.self in
    let pulled = c.in-Ok.ensures.pulled in
    let piece : List ℕ = take c.in-Ok.more c.pull_front.new.buffer in
    let size : length piece ≡ c.in-Ok.more = length-take-le c.in-Ok.more c.pull_front.new.buffer pulled.fits in
    let below : c.loop-checker.count < 268435456 = omega (arith, inv.within, c.if-count-eq-LIMIT.false) in
    let few : length taken + length piece < 2 ^ 32 = omega (arith, inv.run.1, inv.within, size, c.in-Ok.ensures.room, c.room_after.ensures.piece) in
    let told = c.in-Ok-check_piece.ensures.told taken few inv.run.2 in
    record {
      within = omega (arith, c.room_after.ensures.limit below, c.in-Ok.ensures.room);
      faults = pulled.no_fault refl ∙ inv.faults;
      run = (
        taken ++ piece,
        length-append taken piece ∙ (λ k. inv.run.1 k + size k),
        c.in-Ok-check_piece.ensures.read taken few inv.run.2,
        λ s. taken_on i.left x.left j.left taken piece (inv.run.3 s) (pulled.moved s),
        told_of g.O.Output.tells (mistakes_from [] (Some []) taken ++ mistakes_from taken e.reader.place piece) (mistakes_from [] (Some []) (taken ++ piece)) (Ok (tt {0})) false f.found v w
            (mistakes_behind [] (Some []) e.reader.place taken piece inv.run.2.place)
            (told_then g.O.Output.tells (mistakes_from [] (Some []) taken) (mistakes_from taken e.reader.place piece) (tt {0}) (Ok (tt {0})) false e.found f.found v y w inv.run.4 told),
      );
    }

pub returns-in-Err-check_piece : goal.returns-in-Err-check_piece
returns-in-Err-check_piece g c =
    let tells = g.O.Output.tells in
    let told = g.R.Source.tells in
    let i = g.R.Source.input c.args.source.now in
    let x = g.R.Source.input c.loop-checker.source in
    let j = g.R.Source.input c.pull_front.new.source in
    let v = g.O.Output.heard c.args.output.now in
    let y = g.O.Output.heard c.loop-checker.output in
    let w = g.O.Output.heard c.check_piece.new.output in
    let inv = c.loop-checker.invariant in
    let taken = inv.run.0 in
    let e : Checker = c.loop-checker.checker in
    let f : Checker = c.check_piece.new.self in
    let pulled = c.in-Ok.ensures.pulled in
    let piece : List ℕ = take c.in-Ok.more c.pull_front.new.buffer in
    let size : length piece ≡ c.in-Ok.more = length-take-le c.in-Ok.more c.pull_front.new.buffer pulled.fits in
    let few : length taken + length piece < 2 ^ 32 = omega (arith, inv.run.1, inv.within, size, c.in-Ok.ensures.room, c.room_after.ensures.piece) in
    let fault = c.in-Err-check_piece.fault in
    let last = c.in-Err-check_piece.ensures.told taken few inv.run.2 in
    let run = told_of tells (mistakes_from [] (Some []) taken ++ mistakes_from taken e.reader.place piece) (mistakes_from [] (Some []) (taken ++ piece)) (Err fault) false f.found v w
    (mistakes_behind [] (Some []) e.reader.place taken piece inv.run.2.place)
    (told_then tells (mistakes_from [] (Some []) taken) (mistakes_from taken e.reader.place piece) (tt {0}) (Err fault) false e.found f.found v y w inv.run.4 last) in
    subst (λ (s : ℕ). Checked tells told s v w i j) (sym c.status.ensures)
    (failed tells told v w i j (taken ++ piece) j.left (λ s. taken_on i.left x.left j.left taken piece (inv.run.3 s) (pulled.moved s)) fault false f.found (pulled.no_fault refl ∙ inv.faults) run)
