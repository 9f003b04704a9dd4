use Rattle.std.proofs.Common.{◌∙◌, ◌<◌, Option, Some, None, [], length, get_or, ap, arith}
use Rattle.std.proofs.lemmas.Option.{slice_get-get_or}
use Rattle.ts_container.specs.declared.content.Content.{Content}
use Rattle.ts_check.specs.declared.page_list.PageRead.{PageRead}
use Rattle.ts_check.proofs.ListLemmas.{none_added, one_added, one_bad}
use Rattle.ts_check.proofs.page_list.add_all.Goals as goal

pub returns-in_default : goal.returns-in_default
returns-in_default c = λ d answers.
    let list = c.args.list.now in
    let place = c.loop-place.place in
    let blank : PageRead = record { number = 0; page = record { bytes = [] } } in
    let read : PageRead = get_or list place blank in
    let within : place < length list = omega (arith, c.loop-place-test.true, c.requires.as_many) in
    let there = slice_get-get_or list place blank within in
    let found = answers place read None there (slice_get-get_or c.args.answers.now place None c.loop-place-test.true ∙ ap (λ (o : Option Content). Some o) c.in_default.is) in
    record {
      added = tt;
      refused = one_bad d list place c.args.elements.now c.loop-place.elements read (c.loop-place.invariant d answers) there found;
      cause = λ failed. cc;
    }

pub loop-place-preserved : goal.loop-place-preserved
loop-place-preserved c = λ d answers.
    let list = c.args.list.now in
    let place = c.loop-place.place in
    let blank : PageRead = record { number = 0; page = record { bytes = [] } } in
    let read : PageRead = get_or list place blank in
    let within : place < length list = omega (arith, c.loop-place-test.true, c.requires.as_many) in
    let there = slice_get-get_or list place blank within in
    let found = answers place read (Some c.in-Some.content) there (slice_get-get_or c.args.answers.now place None c.loop-place-test.true ∙ ap (λ (o : Option Content). Some o) c.in-Some.is) in
    one_added d list place c.args.elements.now c.loop-place.elements read (c.loop-place.invariant d answers) there c.add.new.self c.in-Some.content found c.in_ok-add.ensures
