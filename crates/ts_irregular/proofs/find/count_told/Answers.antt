use Rattle.std.proofs.Common.{sym, ◌∙◌, arith}
use Rattle.ts_irregular.proofs.FindLemmas.{told_on, untold_on}
use Rattle.ts_irregular.proofs.find.count_told.Goals as goal

pub returns-in_default-clause-told : goal.returns-in_default-clause-told
returns-in_default-clause-told c = λ es on. absurd (untold_on c.args.shelf.now.series c.args.shelf.now.kind.now.columns c.args.page.now.bytes c.args.place.now es (sym c.in_default.is ∙ c.told.ensures) on)

pub returns-then-series-shelf-clause-told : goal.returns-then-series-shelf-clause-told
returns-then-series-shelf-clause-told c = λ es on.
    let told = told_on c.args.shelf.now.series c.in-Some.series c.in-Some.count c.args.shelf.now.kind.now.columns c.args.page.now.bytes c.args.place.now es c.in-Some.ensures on in
    absurd (c.if-series-shelf.true told.0)

pub returns-then-not-is_count-clause-told : goal.returns-then-not-is_count-clause-told
returns-then-not-is_count-clause-told c = λ es on.
    let told = told_on c.args.shelf.now.series c.in-Some.series c.in-Some.count c.args.shelf.now.kind.now.columns c.args.page.now.bytes c.args.place.now es c.in-Some.ensures on in
    let yes = c.is_count.ensures.1 (told.1 ∙ on.count, omega (arith, told.1, on.bytes.fill.room)) in
    let no = c.if-not-is_count.true in
    let clash : ⊥ = cc in
    absurd clash

pub returns-clause-told : goal.returns-clause-told
returns-clause-told c = λ es on.
    sym (told_on c.args.shelf.now.series c.in-Some.series c.in-Some.count c.args.shelf.now.kind.now.columns c.args.page.now.bytes c.args.place.now es c.in-Some.ensures on).1
