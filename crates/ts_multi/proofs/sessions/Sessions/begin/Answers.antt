use Rattle.std.proofs.Common.{◌≡◌, ℕ, [], length, Option, Some, ap, ◌∙◌, arith}
use Rattle.ts_multi.specs.Log.{Pending, after_begin}
use Rattle.ts_multi.proofs.SlotLemmas.{put_seen}
use Rattle.ts_multi.proofs.sessions.Sessions.begin.Goals as goal

pub returns : goal.returns
returns c =
    let count : c.len-commits.result ≡ length c.self.inside.commits.items = omega (arith, c.len-commits.ensures, c.self.inside.commits.ok.0) in
    let pending : ℕ → Option Pending = λ n. Some (record { begun = n; noted = [] }) in
    put_seen c.self.inside.commits.items c.self.inside.room c.self.inside.slots.items c.args.session c.begin.new.self
    (pending (length c.self.inside.commits.items)) (c.begin.ensures.pending ∙ ap pending count)
    ∙ ap (after_begin c.args.session) c.self.view_is
