use Rattle.ts_answer.specs.View.{view}
use Rattle.ts_layout.specs.Meaning.{catalogue_of}
use Rattle.ts_answer.proofs.CallerLemmas.{read_stopped_first, tried_stopped}
use Rattle.ts_shelf.proofs.MemoryLemmas.{few_elements}
use Rattle.ts_combined_rows.specs.Combining.{join_of}
use Rattle.ts_combined_rows.proofs.JoinLemmas.{first_unknown, second_unknown}
use Rattle.ts_combined_rows.proofs.combining.join.Goals as goal

pub join_on-requires-clause-first : goal.join_on-requires-clause-first
join_on-requires-clause-first g c =
    let found = c.in_ok-one.ensures in
    record {
      there = record { within = found.found.named.within; lies = found.found.lies };
      laid = found.laid;
      are = found.places;
      rising = found.rising;
      few = few_elements (view c.args.defs.now.definitions c.args.space.now (g.P.Pages.contents c.args.pages.now)) c.requires.seen.kept c.in_ok-one.one.0.series found.found.named.within;
    }

pub join_on-requires-clause-second : goal.join_on-requires-clause-second
join_on-requires-clause-second g c =
    let found = c.in_ok-other.ensures in
    record {
      there = record { within = found.found.named.within; lies = found.found.lies };
      laid = found.laid;
      are = found.places;
      rising = found.rising;
      few = few_elements (view c.args.defs.now.definitions c.args.space.now (g.P.Pages.contents c.args.pages.now)) c.requires.seen.kept c.in_ok-other.other.0.series found.found.named.within;
    }

pub returns-in_err-one-clause-read : goal.returns-in_err-one-clause-read
returns-in_err-one-clause-read g c =
    let x = view c.args.defs.now.definitions c.args.space.now (g.P.Pages.contents c.args.pages.now) in
    let command = join_of c.args.junction c.args.first.now c.args.second.now c.args.from c.args.to in
    let trouble = c.in_err-one.field-0.0 in
    read_stopped_first g.P.Pages.tells command c.args.out.now x c.from_residual.result _ c.from_residual.ensures.1
    (tried_stopped g.P.Pages.tells command c.args.out.now x trouble (λ l kept. first_unknown c.args.junction c.args.first.now c.args.second.now c.args.from c.args.to (catalogue_of l) trouble (c.in_err-one.ensures.tried l kept).err))

pub returns-in_err-other-clause-read : goal.returns-in_err-other-clause-read
returns-in_err-other-clause-read g c =
    let x = view c.args.defs.now.definitions c.args.space.now (g.P.Pages.contents c.args.pages.now) in
    let command = join_of c.args.junction c.args.first.now c.args.second.now c.args.from c.args.to in
    let trouble = c.in_err-other.field-0.0 in
    read_stopped_first g.P.Pages.tells command c.args.out.now x c.from_residual-in_err-other.result _ c.from_residual-in_err-other.ensures.1
    (tried_stopped g.P.Pages.tells command c.args.out.now x trouble (λ l kept.
    let one = (c.in_ok-one.ensures.tried l kept).ok in
    second_unknown c.args.junction c.args.first.now c.args.second.now c.args.from c.args.to (catalogue_of l) trouble one.0 one.1 (c.in_err-other.ensures.tried l kept).err))

pub returns-clause-read : goal.returns-clause-read
returns-clause-read g c = c.join_on.ensures.read c.args.first.now c.args.second.now c.in_ok-one.ensures.found c.in_ok-other.ensures.found
