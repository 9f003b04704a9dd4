use Rattle.std.proofs.Common.{refl, ap, ◌∙◌}
use Rattle.ts_store.specs.OpenBatch.{State, contents_over}
use Rattle.ts_store.proofs.CallerLemmas.{none_to_commit}
use Rattle.ts_layout.specs.Meaning.{catalogue_of}
use Rattle.ts_engine.proofs.OpenLemmas.{admitted, means_found, settle_moments, counted_found, settled_opened, unsettled}
use Rattle.ts_engine.proofs.open.settle.Goals as goal

pub settle-requires-clause-over : goal.settle-requires-clause-over
settle-requires-clause-over g c =
    admitted g.V.Volume.tells c.args.store c.admit.new.self (g.V.Volume.device c.args.vol.now) c.args.surveyed.defs.definitions c.args.surveyed.space c.args.surveyed.free.items
    c.requires.idle c.requires.found c.admit.ensures

pub returns-in-Ok : goal.returns-in-Ok
returns-in-Ok g c =
    let tells = g.V.Volume.tells in
    let v = g.V.Volume.device c.args.vol.now in
    let w = g.V.Volume.device c.settle.new.vol in
    record {
      opened = settled_opened tells c.args.store c.admit.new.self v c.args.surveyed.defs.definitions c.args.surveyed.space c.args.surveyed.free.items c.requires.idle c.requires.closed c.requires.found c.admit.ensures
          c.settle.new.self w c.args.surveyed.defs c.args.surveyed.hidden.items c.args.hidden c.names_stand_in_slots.ensures c.requires.marked c.requires.slots c.count.new.self c.count.ensures (g.met.V.Volume.lawful c.args.vol.now) c.places-slots.ensures.slots refl c.in-Ok.ensures.over c.in-Ok.ensures.settled c.in-Ok.ensures.lasts.ok (g.met.V.Volume.lawful c.settle.new.vol) c.settle.ensures.lasts.others c.settle.ensures.lasts.moments
          (c.in-Ok.ensures.lasts.no_fault (λ failed. absurd (cc)));
    }

pub returns-in-Err : goal.returns-in-Err
returns-in-Err g c =
    let tells = g.V.Volume.tells in
    let v = g.V.Volume.device c.args.vol.now in
    let w = g.V.Volume.device c.settle.new.vol in
    record {
      opened = unsettled tells v w (c.in-Err.ensures.lasts.cause refl) c.settle.ensures.lasts.others
          (settle_moments tells c.args.store c.admit.new.self v c.args.surveyed.defs.definitions c.args.surveyed.space c.args.surveyed.free.items c.requires.idle c.requires.closed c.requires.found c.admit.ensures
          (g.met.V.Volume.lawful c.args.vol.now) w c.settle.ensures.lasts.moments)
          (λ told. (
            catalogue_of (c.requires.found.layout told).0,
            means_found tells c.args.store c.admit.new.self v c.args.surveyed.defs.definitions c.args.surveyed.space c.args.surveyed.free.items c.requires.idle c.requires.closed c.requires.found c.admit.ensures (g.met.V.Volume.lawful c.args.vol.now) told,
          ));
    }

pub count-requires-clause-limits : goal.count-requires-clause-limits
count-requires-clause-limits g c = (counted_found g.V.Volume.tells c.args.store.pages (contents_over c.args.store (g.V.Volume.device c.args.vol.now)) c.args.surveyed.defs.definitions c.args.surveyed.space c.args.surveyed.free.items c.requires.found).limits

pub count-requires-clause-rules : goal.count-requires-clause-rules
count-requires-clause-rules g c = (counted_found g.V.Volume.tells c.args.store.pages (contents_over c.args.store (g.V.Volume.device c.args.vol.now)) c.args.surveyed.defs.definitions c.args.surveyed.space c.args.surveyed.free.items c.requires.found).rules

pub count-requires-clause-countable : goal.count-requires-clause-countable
count-requires-clause-countable g c = (counted_found g.V.Volume.tells c.args.store.pages (contents_over c.args.store (g.V.Volume.device c.args.vol.now)) c.args.surveyed.defs.definitions c.args.surveyed.space c.args.surveyed.free.items c.requires.found).countable

pub settle-requires-clause-closed : goal.settle-requires-clause-closed
settle-requires-clause-closed g c =
    none_to_commit c.admit.new.self (ap (λ (s : State). s.transaction) c.admit.ensures ∙ c.requires.closed.transaction) (ap (λ (s : State). s.batch) c.admit.ensures ∙ c.requires.idle.batch)
