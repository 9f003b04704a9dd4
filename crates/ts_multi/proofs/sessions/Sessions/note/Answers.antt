use Rattle.std.proofs.Common.{◌≡◌, length, map, get_or, Option, None, false, sym, ap, ◌∙◌, arith}
use Rattle.std.proofs.lemmas.List.{length-map}
use Rattle.ts_multi.specs.Slot.{Standing}
use Rattle.ts_multi.specs.Log.{Log, Pending, with_noted, after_note}
use Rattle.ts_multi.proofs.SlotLemmas.{put_seen, pending-at}
use Rattle.ts_multi.proofs.sessions.Sessions.note.Goals as goal

pub returns : goal.returns
returns c =
    let slots = c.self.inside.slots.items in
    let size : length c.args.self.now.sessions ≡ length slots = ap (λ (l : Log). length l.sessions) (sym c.self.view_is) ∙ length-map slots (λ (s : Standing). s.pending) in
    let here : c.index_mut.result.now.pending ≡ get_or (map (λ (s : Standing). s.pending) slots) c.args.session None =
    ap (λ (s : Standing). s.pending) c.index_mut.ensures.value ∙ pending-at slots c.args.session c.index_mut.result.now (omega (arith, size, c.requires.session)) in
    let more = c.note.ensures ∙ ap (λ (p : Option Pending). with_noted c.args.touched p) here in
    put_seen c.self.inside.commits.items false slots c.args.session c.note.new.self _ more
    ∙ ap (after_note c.args.session c.args.touched) c.self.view_is
