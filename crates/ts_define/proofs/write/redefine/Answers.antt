use Rattle.std.proofs.Common.{ℕ, Option, Result, Ok, IfOk, subst}
use Rattle.ts_base.specs.declared.fault.Trouble.{Trouble}
use Rattle.ts_model.specs.declared.def.Def.{Def}
use Rattle.ts_container.specs.Survey.{SlotWritten}
use Rattle.ts_answer.specs.Decided.{IsDecision, FitsSlot, made_line}
use Rattle.ts_define.proofs.RedefineLemmas.{redefined}
use Rattle.ts_answer.proofs.CallerLemmas.{said_line}
use Rattle.ts_define.proofs.write.redefine.Goals as goal

pub returns-clause-carried : goal.returns-clause-carried
returns-clause-carried g c command d space decision fits writes =
    let kind = c.args.kind in
    let v = g.P.Pages.contents c.args.pages.now in
    let w = g.P.Pages.contents c.write_slot.new.pages in
    redefined g.P.Pages.tells kind c.in_ok-slot.slot c.in_ok-slot.def command d space v w
    (subst (λ (r : Result (ℕ × Option Def) Trouble). IsDecision kind command r d v.count) c.in_ok-slot.was decision)
    (subst (λ (r : Result (ℕ × Option Def) Trouble). IfOk r (λ change. FitsSlot kind change.0 change.1 d)) c.in_ok-slot.was fits)
    (subst (λ (o : Option Def). SlotWritten g.P.Pages.tells kind c.in_ok-slot.slot o (Ok tt) v w) c.as_ref.ensures.value c.in_ok-write_slot.ensures.written)
    writes c.say_made.new.out (said_line (made_line c.in_ok-slot.def) c.args.out.now c.say_made.new.out c.requires.empty c.in_ok-say_made.ensures) c.write_slot.ensures.bytes
