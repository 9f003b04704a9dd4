use Rattle.std.proofs.Common.{◌<◌, ◌≤◌, None, Option, List, length, set, ap, sym, subst, ◌∙◌, arith}
use Rattle.std.specs.Bool.{⊤}
use Rattle.std.proofs.lemmas.List.{get_or_default}
use Rattle.std.proofs.lemmas.Result.{MatchResult-from_err}
use Rattle.ts_views.specs.declared.view.View.{View}
use Rattle.ts_views.specs.View.{KeepsImage, MayKeepImage, Turns, EachTurns}
use Rattle.ts_views.proofs.TurnLemmas.{TurnsBelow, none_turned, one_turned, all_turned, some_turned}
use Rattle.ts_views.proofs.views.Views.keep.Goals as goal

pub loop-who-init : goal.loop-who-init
loop-who-init c =
    let R = KeepsImage c.args.no c.args.page.now in
    let items = c.self.inside.views.items in
    subst (λ (l : List (Option View)). TurnsBelow R 0 l items) c.self.view_is (none_turned R items)

pub returns-in_err-keep_in-clause-err : goal.returns-in_err-keep_in-clause-err
returns-in_err-keep_in-clause-err c =
    let may = MayKeepImage c.args.no c.args.page.now in
    let items = c.loop-who.self-inside.views.items in
    let here = c.index_mut.result.now in
    let within : c.loop-who.who < length items = omega (arith, c.loop-who-test.true, c.len-who-end.ensures, c.self.inside.views.ok.0, ap length c.self.view_is, c.loop-who.invariant.count) in
    let found = get_or_default items c.loop-who.who None here within ∙ sym c.index_mut.ensures.value in
    let turns = subst (λ (o : Option View). Turns may o c.keep_in.new.place) (sym found) c.in_err-keep_in.ensures.err in
    MatchResult-from_err c.from_residual.result (λ _. ⊤) (λ _. EachTurns may c.args.self.now (set items c.loop-who.who c.keep_in.new.place)) c.from_residual.ensures.0
    (λ _. some_turned c.args.no c.args.page.now c.loop-who.who c.args.self.now items c.keep_in.new.place within c.loop-who.invariant turns)

pub loop-who-preserved : goal.loop-who-preserved
loop-who-preserved c =
    let R = KeepsImage c.args.no c.args.page.now in
    let items = c.loop-who.self-inside.views.items in
    let here = c.index_mut.result.now in
    let within : c.loop-who.who < length items = omega (arith, c.loop-who-test.true, c.len-who-end.ensures, c.self.inside.views.ok.0, ap length c.self.view_is, c.loop-who.invariant.count) in
    let found = get_or_default items c.loop-who.who None here within ∙ sym c.index_mut.ensures.value in
    one_turned R c.loop-who.who c.args.self.now items c.keep_in.new.place within c.loop-who.invariant
    (subst (λ (o : Option View). Turns R o c.keep_in.new.place) (sym found) c.in_ok-keep_in.ensures.ok)

pub returns-clause-ok : goal.returns-clause-ok
returns-clause-ok c =
    let all : length c.args.self.now ≤ c.loop-who.who = omega (arith, c.loop-who-test.false, c.len-who-end.ensures, c.self.inside.views.ok.0, ap length c.self.view_is) in
    all_turned (KeepsImage c.args.no c.args.page.now) c.loop-who.who c.args.self.now c.loop-who.self-inside.views.items all c.loop-who.invariant
