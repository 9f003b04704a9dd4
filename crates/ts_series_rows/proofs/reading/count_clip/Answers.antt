use Rattle.ts_command.specs.declared.command.Command.TheVariants.{ClipGetCount}
use Rattle.ts_answer.specs.Answer.{outcome, carried_out, count_clip}
use Rattle.ts_answer.specs.View.{view}
use Rattle.ts_answer.proofs.CallerLemmas.{read_stopped_first, tried_stopped, refused_as, said_line}
use Rattle.ts_shelf.proofs.ReadingLemmas.{failed_out}
use Rattle.ts_shelf.proofs.SeenLemmas.{read_out}
use Rattle.ts_series_rows.proofs.EntryLemmas.{count_comes}
use Rattle.ts_series_rows.proofs.reading.count_clip.Goals as goal

pub returns-in_err-shelf-clause-read : goal.returns-in_err-shelf-clause-read
unfolding outcome carried_out count_clip
returns-in_err-shelf-clause-read g c =
    let x = view c.args.defs.now.definitions c.args.space.now (g.P.Pages.contents c.args.pages.now) in
    let command = ClipGetCount c.args.key.now c.args.from c.args.to in
    let trouble = c.in_err-shelf.field-0.0 in
    read_stopped_first g.P.Pages.tells command c.args.out.now x c.from_residual.result _ c.from_residual.ensures.1
    (tried_stopped g.P.Pages.tells command c.args.out.now x trouble (λ l kept. refused_as trouble _ _ (c.in_err-shelf.ensures.tried l kept).err))

pub returns-in_err-count-clause-read : goal.returns-in_err-count-clause-read
returns-in_err-count-clause-read g c =
    let x = view c.args.defs.now.definitions c.args.space.now (g.P.Pages.contents c.args.pages.now) in
    failed_out g.P.Pages.tells (ClipGetCount c.args.key.now c.args.from c.args.to) _ x _ _ c.in_err-count.field-0.0 c.from_residual-in_err-count.ensures.1 c.in_err-count.ensures.call

pub returns-clause-read : goal.returns-clause-read
returns-clause-read g c =
    let tells = g.P.Pages.tells in
    let x = view c.args.defs.now.definitions c.args.space.now (g.P.Pages.contents c.args.pages.now) in
    let shelf = c.in_ok-shelf.shelf in
    let found = c.in_ok-shelf.ensures.found in
    let count = c.in_ok-count.count in
    read_out tells (ClipGetCount c.args.key.now c.args.from c.args.to) x (g.P.Pages.contents c.clip_len_shown.new.pages) count _ c.say_count.new.out
    (said_line _ c.args.out.now c.say_count.new.out c.requires.empty c.in_ok-say_count.ensures.ok) c.in_ok-count.ensures.call (λ told l shows.
    count_comes tells x l c.in_ok-shelf.shape c.in_ok-shelf.ensures.laid shelf.series shelf.kind.now c.args.key.now told shows found c.args.shown c.requires.shown c.args.from c.args.to count c.in_ok-count.ensures.read)
