use Rattle.std.proofs.Common.{refl, ap, ◌∙◌, reverse, Vec, Global, ℕ}
use Rattle.ts_store.specs.OpenBatch.{contents_over}
use Rattle.ts_views.specs.Pages.{view_contents}
use Rattle.ts_answer.specs.View.{view}
use Rattle.ts_session_engine.proofs.OwnLemmas.{seen_given}
use Rattle.ts_session_engine.proofs.ReadLemmas.{read_given, same_backwards}
use Rattle.ts_session_engine.proofs.ViewLemmas.{seen_lawful}
use Rattle.ts_session_engine.proofs.read.read_own.Goals as goal

pub read_in_view-came-requires-clause-seen : goal.read_in_view-came-requires-clause-seen
read_in_view-came-requires-clause-seen g c κs _ =
    seen_given g.V.Volume.tells c.args.engine.now (g.V.Volume.device c.args.vol.now) c.requires.ready c.requires.rests c.args.view.now c.new-changes.result.entries c.replace-free.result.items c.new-changes.ensures (ap (λ (n : Vec ℕ Global). n.items) c.replace-free.ensures.value) c.requires.view

pub read_in_view-came-requires-clause-lawful : goal.read_in_view-came-requires-clause-lawful
read_in_view-came-requires-clause-lawful g c κs _ =
    let x = c.args.view.now in
    seen_lawful g.V.Volume.tells (view x.defs.definitions x.space (view_contents x.old.entries x.own.entries c.new-changes.result.entries (reverse c.replace-free.result.items) (contents_over c.args.engine.now.store (g.V.Volume.device c.args.vol.now))))
    (seen_given g.V.Volume.tells c.args.engine.now (g.V.Volume.device c.args.vol.now) c.requires.ready c.requires.rests x c.new-changes.result.entries c.replace-free.result.items c.new-changes.ensures (ap (λ (n : Vec ℕ Global). n.items) c.replace-free.ensures.value) c.requires.view)

pub returns : goal.returns
returns g c =
    let came = c.read_in_view-came in
    let x = c.args.view.now in
    let free = ap (λ (n : Vec ℕ Global). n.items) c.replace-free.ensures.value in
    record {
      middle = came.new.self;
      is = came.ensures.others;
      drop = c.discard.ensures;
      calls = came.ensures.undisturbed;
      reads = came.ensures.same;
      same = record { definitions = refl; lists = refl; own = refl; old = refl; free = same_backwards came.new.free.items c.replace-free.result.items came.ensures.read.stays.free ∙ free };
      unnoted = refl;
      changes = came.new.changes.entries;
      free = came.new.free.items;
      read = read_given g.V.Volume.tells c.args.engine.now (g.V.Volume.device c.args.vol.now) c.requires.ready c.requires.rests x c.new-changes.result.entries c.replace-free.result.items c.new-changes.ensures free c.args.command.now came.result came.new.out
          (view_contents x.old.entries x.own.entries came.new.changes.entries (reverse came.new.free.items) (contents_over came.new.self.store (g.V.Volume.device came.new.vol))) came.ensures.read;
    }
