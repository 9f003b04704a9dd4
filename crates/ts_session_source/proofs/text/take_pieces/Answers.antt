use Rattle.std.proofs.Common.{ℕ, List, length, take, sym, ◌∙◌, ap, subst, arith, length-append}
use Rattle.std.proofs.lemmas.List.{length-take-le}
use Rattle.std.proofs.lemmas.Result.{err_from_is_err_and}
use Rattle.ts_session_source.proofs.TextLemmas.{HasTaken, none_yet, stopped, ended, overlong, piece_more, wanting}
use Rattle.ts_session_source.proofs.text.take_pieces.Goals as goal

pub loop-text-init : goal.loop-text-init
loop-text-init g c =
    let i = g.R.Source.input c.args.source.now in
    subst (λ (t : List ℕ). HasTaken g.R.Source.tells t i i) (sym c.new-text.ensures) (none_yet g.R.Source.tells i)

pub room_after-requires : goal.room_after-requires
room_after-requires g c = let within = c.loop-text.invariant.within in omega (arith, within, ap length c.as_slice-count.ensures)

pub returns-in-Err : goal.returns-in-Err
returns-in-Err g c =
    stopped g.R.Source.tells c.loop-text.text (g.R.Source.input c.args.source.now) (g.R.Source.input c.loop-text.source) (g.R.Source.input c.pull_front.new.source) c.loop-text.invariant c.pull_front.new.buffer
    _ c.in-Err.ensures.pulled

pub returns-in-Ok-eq0 : goal.returns-in-Ok-eq0
returns-in-Ok-eq0 g c =
    ended g.R.Source.tells c.loop-text.text (g.R.Source.input c.args.source.now) (g.R.Source.input c.loop-text.source) (g.R.Source.input c.pull_front.new.source) c.loop-text.invariant c.pull_front.new.buffer
    c.in-Ok-eq0.field-0 c.in-Ok-eq0.ensures.pulled c.in-Ok-eq0.field-0-test

pub returns-then-count-eq-LIMIT : goal.returns-then-count-eq-LIMIT
returns-then-count-eq-LIMIT g c =
    overlong g.R.Source.tells c.loop-text.text (g.R.Source.input c.args.source.now) (g.R.Source.input c.loop-text.source) (g.R.Source.input c.pull_front.new.source) c.loop-text.invariant c.pull_front.new.buffer
    c.in-Ok.more c.in-Ok.ensures.pulled (omega (arith, c.in-Ok.more-test)) (sym (ap length c.as_slice-count.ensures) ∙ c.if-count-eq-LIMIT.true)

pub loop-text-smaller : goal.loop-text-smaller
loop-text-smaller g c =
    let count = ap length c.as_slice-count.ensures in
    let limit = c.room_after.ensures.limit in
    let room = c.in-Ok.ensures.room in
    let size = length-take-le c.in-Ok.more c.pull_front.new.buffer c.in-Ok.ensures.pulled.fits in
    let grown = ap length c.in_ok-extend_from_slice-in-Ok.ensures.ok ∙ length-append c.loop-text.text (take c.in-Ok.more c.pull_front.new.buffer) in
    let within = c.loop-text.invariant.within in
    omega (arith, count, size, grown, within, c.in-Ok.more-test, c.if-count-eq-LIMIT.false)

pub loop-text-preserved : goal.loop-text-preserved
loop-text-preserved g c =
    let count = ap length c.as_slice-count.ensures in
    let within = c.loop-text.invariant.within in
    let room = c.in-Ok.ensures.room in
    let limit = c.room_after.ensures.limit (let full = c.if-count-eq-LIMIT.false in omega (arith, count, within, full)) in
    let i = g.R.Source.input c.args.source.now in
    let j = g.R.Source.input c.pull_front.new.source in
    subst (λ (t : List ℕ). HasTaken g.R.Source.tells t i j) (sym c.in_ok-extend_from_slice-in-Ok.ensures.ok)
    (piece_more g.R.Source.tells c.loop-text.text i (g.R.Source.input c.loop-text.source) j c.loop-text.invariant c.pull_front.new.buffer
    c.in-Ok.more c.in-Ok.ensures.pulled (omega (arith, c.in-Ok.more-test)) (omega (arith, count, room, limit)))

pub returns-in_err-extend_from_slice-in-Ok : goal.returns-in_err-extend_from_slice-in-Ok
returns-in_err-extend_from_slice-in-Ok g c =
    let count = ap length c.as_slice-count.ensures in
    let within = c.loop-text.invariant.within in
    let room = c.in-Ok.ensures.room in
    let limit = c.room_after.ensures.limit (let full = c.if-count-eq-LIMIT.false in omega (arith, count, within, full)) in
    let i = g.R.Source.input c.args.source.now in
    let j = g.R.Source.input c.pull_front.new.source in
    let fault = err_from_is_err_and c.from_residual.result c.from_residual.ensures.1 in
    rw (fault.1, fault.2)
    (wanting g.R.Source.tells c.loop-text.text i (g.R.Source.input c.loop-text.source) j c.loop-text.invariant c.pull_front.new.buffer
    c.in-Ok.more c.in-Ok.ensures.pulled (omega (arith, c.in-Ok.more-test)) (omega (arith, count, room, limit)) c.in_err-extend_from_slice-in-Ok.field-0.0)
