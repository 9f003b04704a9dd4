use Rattle.std.proofs.Common.{◌∙◌, sym, w64}
use Rattle.std.proofs.lemmas.Int.{to_z_pos}
use Rattle.ts_regular.specs.RegularPage.{elements_from}
use Rattle.ts_slots.proofs.ParseLemmas.{both_ways}
use Rattle.ts_container.proofs.ContentLemmas.{columns_valid, grid_found, grid_refused, hidden_stamped}
use Rattle.ts_container.proofs.span.span_on_grid.Goals as goal
use Rattle.ts_container.proofs.span.span_on_grid.Goals.{then-not-have_starts-via-then-not-have_starts, then-not-have_starts-via-else-not-have_starts+then-not-may_hide}

pub returns-then-not-have_starts : goal.returns-then-not-have_starts
returns-then-not-have_starts c =
    let found = c.in_ok-extent.ensures.found in
    let grid = c.args.grid.now in
    let kinds = columns_valid c.args.kind.now.stamp c.args.kind.now.columns c.columns-columns.ensures.rules in
    grid_refused grid c.args.slot found.0 c.args.format found.1 c.args.kind.now.columns found.2 c.args.page.now.bytes kinds found.3 (λ starts allowed. elim c.then-not-have_starts.branch [
      | then-not-have_starts-via-then-not-have_starts w ↦ both_ways ((c.have_starts.ensures.starts found.1 found.2 found.4).1 starts) w.if-not-have_starts.true
      | then-not-have_starts-via-else-not-have_starts+then-not-may_hide w ↦
          both_ways (w.may_hide.ensures.1 (λ old. sym found.4.hides ∙ sym (hidden_stamped grid (elements_from found.1 found.2) starts) ∙ allowed old)) w.if-not-may_hide.true
    ])

pub returns : goal.returns
returns c =
    let found = c.in_ok-extent.ensures.found in
    let grid = c.args.grid.now in
    let extent = c.in_ok-extent.extent in
    let starts = (c.have_starts.ensures.starts found.1 found.2 found.4).0 c.if-not-have_starts.false in
    grid_found grid c.args.slot found.0 c.args.number c.args.format found.1 c.args.kind.now.columns found.2 extent c.args.page.now.bytes _ c.requires found.3 found.4 starts
    (λ old. hidden_stamped grid (elements_from found.1 found.2) starts ∙ found.4.hides ∙ c.may_hide.ensures.0 c.if-not-may_hide.false old)
    (λ i. record {
      slot = c.args.slot;
      count = extent.count;
      page = c.args.number;
      first = to_z_pos w64 extent.base (c.have_starts.ensures.low c.if-not-have_starts.false) i;
      last = to_z_pos w64 extent.base (c.have_starts.ensures.low c.if-not-have_starts.false) i;
      hidden = extent.hidden;
    })
