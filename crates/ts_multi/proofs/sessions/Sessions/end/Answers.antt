use Rattle.std.proofs.Common.{None, ap, ◌∙◌}
use Rattle.ts_multi.specs.Slot.{Standing}
use Rattle.ts_multi.specs.Log.{after_end}
use Rattle.ts_multi.proofs.SlotLemmas.{put_seen}
use Rattle.ts_multi.proofs.sessions.Sessions.end.Goals as goal

pub returns : goal.returns
returns c =
    let ends = ap (λ (s : Standing). s.pending) c.end.ensures in
    put_seen c.self.inside.commits.items c.self.inside.room c.self.inside.slots.items c.args.session c.end.new.self None ends
    ∙ ap (after_end c.args.session) c.self.view_is
