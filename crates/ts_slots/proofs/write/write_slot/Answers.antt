use Rattle.std.proofs.Common.{ℕ, subst}
use Rattle.std.specs.Option.{option_copied}
use Rattle.std.specs.Prelude.{Contains}
use Rattle.ts_slots.proofs.WriteLemmas.{not_free, slot_written_at}
use Rattle.ts_slots.proofs.write.write_slot.Goals as goal

pub put-requires-clause-used : goal.put-requires-clause-used
put-requires-clause-used g c = λ free.
    let v = g.P.Pages.contents c.get.new.self in
    not_free g.P.Pages.tells v c.args.kind c.args.slot c.requires.slot (g.met.P.Pages.lawful c.get.new.self) (subst (λ (n : ℕ). Contains v.free n) c.page_of_slot-number.ensures free)

pub returns-clause-written : goal.returns-clause-written
returns-clause-written g c =
    slot_written_at g.P.Pages.tells c.args.kind c.args.slot c.page_of_slot-number.result (option_copied c.args.def) c.put.result (g.P.Pages.contents c.args.pages.now) (g.P.Pages.contents c.get.new.self) (g.P.Pages.contents c.put.new.self)
    c.get.new.into.bytes c.put_slot.new.page.bytes c.page_of_slot-number.ensures c.requires.slot c.requires.kind c.in_ok-get.ensures.got c.put_slot.ensures.before c.put_slot.ensures.after c.put_slot.ensures.bytes c.put.ensures.put
