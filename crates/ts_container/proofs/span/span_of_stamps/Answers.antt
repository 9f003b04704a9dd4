use Rattle.std.proofs.Common.{◌∙◌, sym, rules, FitsSigned, to_z-of_z, w64}
use Rattle.ts_slots.proofs.ParseLemmas.{both_ways}
use Rattle.ts_container.proofs.ContentLemmas.{columns_valid, stamps_found, stamps_hidden}
use Rattle.ts_container.proofs.span.span_of_stamps.Goals as goal

pub returns-then-not-may_hide : goal.returns-then-not-may_hide
returns-then-not-may_hide c =
    let found = c.in_ok-extent.ensures.found in
    let kinds = columns_valid c.args.kind.now.stamp c.args.kind.now.columns c.columns-columns.ensures.rules in
    stamps_hidden c.args.slot found.0 c.args.format c.args.kind.now.columns found.1 c.in_ok-extent.extent c.args.page.now.bytes kinds c.requires found.2 found.3
    (λ allowed. both_ways (c.may_hide.ensures.1 (λ old. sym found.3.hides ∙ allowed old)) c.if-not-may_hide.true)

pub returns : goal.returns
returns c =
    let found = c.in_ok-extent.ensures.found in
    let extent = c.in_ok-extent.extent in
    let first : FitsSigned w64 c.units.result = search rules in
    let last : FitsSigned w64 c.units-2.result = search rules in
    stamps_found c.args.slot found.0 c.args.number c.args.format c.args.kind.now.columns found.1 extent c.args.page.now.bytes _ c.requires found.2 found.3
    (λ old. found.3.hides ∙ c.may_hide.ensures.0 c.if-not-may_hide.false old)
    (λ i. record {
      slot = c.args.slot;
      count = extent.count;
      page = c.args.number;
      first = (to_z-of_z first ∙ c.units.ensures.value) i;
      last = (to_z-of_z last ∙ c.units-2.ensures.value) i;
      hidden = extent.hidden;
    })
