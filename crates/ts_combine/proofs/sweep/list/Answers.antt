-- Each start exists, and its row is listed.
use Rattle.std.proofs.Common.{◌≡◌, ◌∙◌, ◌++◌, ℕ, ℤ, pos, ◌+ℤ◌, to_z, of_z, w64, ap, subst, arith}
use Rattle.std.proofs.lemmas.Int.{ints}
use Rattle.ts_calendar.specs.Calendars.{start_at}
use Rattle.ts_combine.specs.Rows.{Gathers}
use Rattle.ts_combine.specs.Line.{starts_of_next}
use Rattle.ts_combine.specs.Reach.{rows_with}
use Rattle.ts_combine.proofs.ListingLemmas.{none-listed, one-listed}
use Rattle.ts_combine.proofs.sweep.list.Goals as goal

pub loop-n-init : goal.loop-n-init
loop-n-init c = none-listed c.args.rows.now c.args.line.now.calendar.now (to_z w64 (of_z w64 c.args.from)) c.args.first c.args.second

pub existing_start-stamp-requires : goal.existing_start-stamp-requires
existing_start-stamp-requires c =
    let near = c.args.line.now.near in
    let low = c.requires.low in
    let high = c.requires.high in
    let fits = c.requires.fits in
    let less = c.loop-n-test.true in
    c.args.line.now.exist (to_z w64 (of_z w64 (to_z w64 (of_z w64 c.args.from) +ℤ to_z w64 c.loop-n.n)))
    (omega (arith, ints, near.0.0, near.0.1, near.1.0, near.1.1, low, high, fits, less)) (omega (arith, ints, near.0.0, near.0.1, near.1.0, near.1.1, low, high, fits, less))

pub loop-n-preserved : goal.loop-n-preserved
loop-n-preserved c =
    let near = c.args.line.now.near in
    let low = c.requires.low in
    let high = c.requires.high in
    let fits = c.requires.fits in
    let less = c.loop-n-test.true in
    let line = c.args.line.now.calendar.now in
    let at : to_z w64 (of_z w64 c.args.from) +ℤ pos c.loop-n.n ≡ to_z w64 (of_z w64 (to_z w64 (of_z w64 c.args.from) +ℤ to_z w64 c.loop-n.n)) =
    omega (arith, ints, near.0.0, near.0.1, near.1.0, near.1.1, low, high, fits, less) in
    one-listed c.args.rows.now c.loop-n.rows c.push.new.self line (to_z w64 (of_z w64 c.args.from)) c.args.first c.args.second c.loop-n.n c.existing_start-stamp.result
    c.loop-n.invariant (ap (start_at line) at ∙ c.existing_start-stamp.ensures) c.in_ok-push.ensures.gathers c.in_ok-push.ensures.count

pub returns-clause-gathers : goal.returns-clause-gathers
returns-clause-gathers c = λ all here.
    let line = c.args.line.now.calendar.now in
    let rows = c.loop-n.rows in
    let end : c.loop-n.n ≡ c.args.count = omega arith in
    let from_is : to_z w64 (of_z w64 c.args.from) ≡ c.args.from = omega (arith, ints) in
    subst (λ (i : ℤ). Gathers rows (all ++ rows_with c.args.first c.args.second (starts_of_next line i c.args.count))) from_is
    (subst (λ (n : ℕ). Gathers rows (all ++ rows_with c.args.first c.args.second (starts_of_next line (to_z w64 (of_z w64 c.args.from)) n))) end
    (c.loop-n.invariant.gathers all here))
