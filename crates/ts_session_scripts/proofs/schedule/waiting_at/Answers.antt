use Rattle.std.proofs.Common.{◌+◌, ◌<◌, ◌≤◌, ℕ, List, [], length, map, get_or, ap, sym, ◌∙◌, subst, arith}
use Rattle.std.specs.Prelude.{slice_get}
use Rattle.ts_multi.specs.Schedule.{waiting}
use Rattle.ts_items.specs.Items.{Item}
use Rattle.ts_session_scripts.proofs.ScheduleLemmas.{found_here, found_none, is_none, is_some_of, passed_none, passed_one, same_here}
use Rattle.ts_session_scripts.proofs.schedule.waiting_at.Goals as goal

pub loop-who-preserved-then-left-eq0 : goal.loop-who-preserved-then-left-eq0
loop-who-preserved-then-left-eq0 c =
    let scripts = c.args.scripts.now in
    let who = c.loop-who.who in
    let within : who < length scripts = omega arith in
    let same = same_here scripts who c.index-scripts-who.result c.index-scripts-who.is within in
    let none = is_none c.left.result (length (get_or scripts who [])) (c.left.ensures ∙ sym (ap (λ (l : List Item). length l) same)) c.if-left-eq0.true in
    (c.loop-who.invariant.0 ∙ sym (passed_none scripts who within none), c.loop-who.invariant.1)

pub returns-then-passed-place-clause-value : goal.returns-then-passed-place-clause-value
returns-then-passed-place-clause-value c =
    let scripts = c.args.scripts.now in
    let who = c.loop-who.who in
    let within : who < length scripts = omega arith in
    let same = same_here scripts who c.index-scripts-who.result c.index-scripts-who.is within in
    let some = is_some_of c.left.result (length (get_or scripts who [])) (c.left.ensures ∙ sym (ap (λ (l : List Item). length l) same)) c.if-left-eq0.false in
    sym (ap (slice_get (waiting 0 (map length scripts))) (sym c.if-passed-place.true ∙ c.loop-who.invariant.0) ∙ found_here scripts who within some)

pub loop-who-preserved : goal.loop-who-preserved
loop-who-preserved c =
    let scripts = c.args.scripts.now in
    let who = c.loop-who.who in
    let within : who < length scripts = omega arith in
    let same = same_here scripts who c.index-scripts-who.result c.index-scripts-who.is within in
    let some = is_some_of c.left.result (length (get_or scripts who [])) (c.left.ensures ∙ sym (ap (λ (l : List Item). length l) same)) c.if-left-eq0.false in
    (ap (λ (n : ℕ). n + 1) c.loop-who.invariant.0 ∙ sym (passed_one scripts who within some), omega (arith, c.loop-who.invariant.1, c.if-passed-place.false))

pub returns-clause-value : goal.returns-clause-value
returns-clause-value c =
    let scripts = c.args.scripts.now in
    let who = c.loop-who.who in
    let all : length scripts ≤ who = omega arith in
    sym (found_none scripts who c.args.place all (subst (λ (n : ℕ). n ≤ c.args.place) c.loop-who.invariant.0 c.loop-who.invariant.1))
