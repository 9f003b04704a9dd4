use Rattle.std.proofs.Common.{subst, refl, arith}
use Rattle.std.specs.Prelude.{IfSome}
use Rattle.ts_base.specs.declared.fault.Trouble.TheVariants.{Refused}
use Rattle.ts_base.specs.declared.refusal.Refusal.TheVariants.{TooLarge}
use Rattle.ts_layout.specs.Meaning.{catalogue_of}
use Rattle.ts_answer.specs.View.{view}
use Rattle.ts_answer.proofs.CallerLemmas.{read_stopped_first, tried_stopped}
use Rattle.ts_shelf.proofs.SeenLemmas.{shelf_seen}
use Rattle.ts_shelf.proofs.ReadingLemmas.{failed_out, trouble_out, said_out}
use Rattle.ts_combine.specs.Call.{HaveNoGrid}
use Rattle.ts_combined_rows.specs.Combining.{join_of}
use Rattle.ts_combined_rows.specs.Pairs.{CanBeJoined}
use Rattle.ts_combined_rows.proofs.JoinLemmas.{join_said, join_many, joins_nowhere}
use Rattle.ts_combined_rows.proofs.combining.join_on.Goals as goal

pub returns-in-Some-clause-read : goal.returns-in-Some-clause-read
returns-in-Some-clause-read g c key key' one other =
    let pair = c.args.pair.now in
    let x = view pair.defs.now.definitions pair.space.now (g.P.Pages.contents c.args.pages.now) in
    let command = join_of pair.junction key key' c.args.from c.args.to in
    let a = pair.first.now in
    let b = pair.second.now in
    read_stopped_first g.P.Pages.tells command c.args.out.now x _ _ refl
    (tried_stopped g.P.Pages.tells command c.args.out.now x (Refused c.in-Some.why) (λ l kept.
    let first = shelf_seen x l kept key a.1 a.0.series a.0.kind.now one in
    let second = shelf_seen x l kept key' b.1 b.0.series b.0.kind.now other in
    joins_nowhere pair.junction key key' c.args.from c.args.to (catalogue_of l) a.1 b.1 c.in-Some.why first.0 second.0 first.1 second.1 first.2.lies second.2.lies
    (subst (λ r. IfSome r (HaveNoGrid a.1 b.1)) c.in-Some.is c.no_common_grid.ensures.some)))

pub returns-in_err-count-clause-read : goal.returns-in_err-count-clause-read
returns-in_err-count-clause-read g c key key' one other =
    let pair = c.args.pair.now in
    failed_out g.P.Pages.tells (join_of pair.junction key key' c.args.from c.args.to) _ (view pair.defs.now.definitions pair.space.now (g.P.Pages.contents c.args.pages.now)) _ _ c.in_err-count.field-0.0
    c.from_residual.ensures.1 c.in_err-count.ensures.call

pub returns-then-count-gt-MOST_ROWS-clause-read : goal.returns-then-count-gt-MOST_ROWS-clause-read
returns-then-count-gt-MOST_ROWS-clause-read g c key key' one other =
    let tells = g.P.Pages.tells in
    let pair = c.args.pair.now in
    let v = g.P.Pages.contents c.args.pages.now in
    let can : CanBeJoined pair v = record { first = c.requires.first; second = c.requires.second; grid = c.in_default.ensures.none } in
    let count = c.in_ok-count.count in
    trouble_out tells (join_of pair.junction key key' c.args.from c.args.to) _ (view pair.defs.now.definitions pair.space.now v) _ _ count (Refused (TooLarge count)) refl c.in_ok-count.ensures.call
    (λ told l shows. join_many tells pair v can key key' one other c.args.from c.args.to told l shows count c.args.out.now c.say_pair.new.out c.in_ok-count.ensures.said (omega (arith, c.if-count-gt-MOST_ROWS.true)))

pub returns-clause-read : goal.returns-clause-read
returns-clause-read g c key key' one other =
    let tells = g.P.Pages.tells in
    let pair = c.args.pair.now in
    let v = g.P.Pages.contents c.args.pages.now in
    let can : CanBeJoined pair v = record { first = c.requires.first; second = c.requires.second; grid = c.in_default.ensures.none } in
    let count = c.in_ok-count.count in
    said_out tells (join_of pair.junction key key' c.args.from c.args.to) c.say_count.new.out (view pair.defs.now.definitions pair.space.now v) _ count c.in_ok-count.ensures.call
    (λ told l shows. join_said tells pair v can key key' one other c.args.from c.args.to told l shows count c.args.out.now c.say_pair.new.out c.in_ok-count.ensures.said c.say_count.new.out
    (omega (arith, c.if-count-gt-MOST_ROWS.false)) c.requires.empty c.in_ok-say_count.ensures.ok)
