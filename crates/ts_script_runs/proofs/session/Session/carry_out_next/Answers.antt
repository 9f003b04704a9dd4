use Rattle.std.proofs.Common.{◌∙◌, ap}
use Rattle.ts_items.specs.Reader.{item_of, items_of}
use Rattle.ts_items.specs.declared.reader.Cut.{Cut}
use Rattle.std.specs.Prelude.{Option}
use Rattle.ts_script_runs.proofs.FeedLemmas.{next_none, next_done, next_failed}
use Rattle.ts_script_runs.proofs.session.Session.carry_out_next.Goals as goal

pub returns-in-None-clause-ran : goal.returns-in-None-clause-ran
returns-in-None-clause-ran g c =
    let v = g.S.Volume.device c.args.site.now in
    next_none g.S.Volume.tells c.args.self.now.reader.place c.args.bytes.now c.feed-fed.result.taken c.args.self.now.engine c.args.self.now.engine v v
    (c.feed-fed.ensures.items ∙ ap (λ (o : Option Cut). items_of o c.feed-fed.new.self.text) c.in-None.is) (g.met.S.Volume.lawful c.args.site.now) c.requires.ready

pub returns-in-Ok-clause-ran : goal.returns-in-Ok-clause-ran
returns-in-Ok-clause-ran g c =
    next_done g.S.Volume.tells c.args.self.now.reader.place c.args.bytes.now c.feed-fed.result.taken c.args.self.now.engine c.carry_out.new.self.engine (g.S.Volume.device c.args.site.now) (g.S.Volume.device c.carry_out.new.site)
    (item_of c.in-Some.cut c.feed-fed.new.self.text) (c.feed-fed.ensures.items ∙ ap (λ (o : Option Cut). items_of o c.feed-fed.new.self.text) c.in-Some.is) c.in-Ok.ensures.ran

pub returns-in-Err-clause-fault : goal.returns-in-Err-clause-fault
returns-in-Err-clause-fault g c = λ err.
    next_failed g.S.Volume.tells c.args.self.now.reader.place c.args.bytes.now c.feed-fed.result.taken c.args.self.now.engine c.carry_out.new.self.engine (g.S.Volume.device c.args.site.now) (g.S.Volume.device c.carry_out.new.site)
    (item_of c.in-Some.cut c.feed-fed.new.self.text) c.in-Err.fault (c.feed-fed.ensures.items ∙ ap (λ (o : Option Cut). items_of o c.feed-fed.new.self.text) c.in-Some.is) c.in-Err.ensures.ran
