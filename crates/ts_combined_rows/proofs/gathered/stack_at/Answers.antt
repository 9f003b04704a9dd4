use Rattle.std.proofs.Common.{◌≡◌, List, length, subst, arith}
use Rattle.ts_space.specs.declared.place.Place.{Place}
use Rattle.ts_space.specs.Directory.{places_of}
use Rattle.ts_clip.specs.Series.{HoldRange}
use Rattle.ts_combined_rows.proofs.GatheredLemmas.{readable, read_within, own_pages}
use Rattle.ts_combined_rows.proofs.gathered.stack_at.Goals as goal

pub read_pages-requires : goal.read_pages-requires
read_pages-requires g c =
    let some = c.places_of_range-places in
    let found = c.shelf_at-shape in
    let columns = found.result.0.kind.now.columns in
    let places = places_of c.args.slot c.args.range.now.space.now in
    let holds = subst (λ (ps : List Place). HoldRange found.result.1 columns c.args.range.now.from c.args.range.now.to ps some.result.now) c.places-all_places.ensures.ok some.ensures.holds in
    let first = c.len-first.ensures in
    let fits = c.if-places-first.false in
    record {
      readable = readable found.result.1 columns (g.P.Pages.contents c.args.pages.now) places some.result.now found.ensures.places holds.among;
      room = omega (arith, first.value, first.few, fits);
    }

pub returns-clause-stack : goal.returns-clause-stack
returns-clause-stack g c =
    let some = c.places_of_range-places in
    let found = c.shelf_at-shape in
    let columns = found.result.0.kind.now.columns in
    let tells = g.P.Pages.tells in
    let pages = (g.P.Pages.contents c.args.pages.now).page in
    let old = c.args.held.now in
    let held = c.read_pages.new.held in
    let read = c.in_ok-read_pages.ensures.read in
    let long = read_within tells pages some.result.now old held read in
    let len = c.len-first.ensures.value in
    let begins : c.len-first.result ≡ length old = omega (arith, len) in
    record {
      series = found.ensures.slot;
      columns = found.ensures.columns;
      lies = found.ensures.lies;
      laid = found.ensures.laid;
      holds = subst (λ (ps : List Place). HoldRange found.result.1 columns c.args.range.now.from c.args.range.now.to ps some.result.now) c.places-all_places.ensures.ok some.ensures.holds;
      within = omega (arith, long, begins);
      pages = own_pages tells pages some.result.now old held c.len-first.result begins read;
    }

pub returns-clause-behind : goal.returns-clause-behind
returns-clause-behind g c =
    let read = c.in_ok-read_pages.ensures.read in
    (read.more, read.behind)
