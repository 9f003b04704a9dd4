use Rattle.std.proofs.Common.{Ok, Err, ℕ, List, sym, ap, subst, ◌∙◌}
use Rattle.std.specs.List.{flat_map}
use Rattle.std.specs.FinMap.{values}
use Rattle.ts_model.specs.declared.kind.Kind.TheVariants.{Series}
use Rattle.ts_model.specs.Definitions.{Definitions, slots, slots_by_name}
use Rattle.ts_dump.specs.Elements.{all_series_texts, series_texts}
use Rattle.ts_dump.specs.Held.{IsLayoutOf}
use Rattle.ts_dump.proofs.SayingLemmas.{caused_then, slots_cut, slots_next, texts_failed, texts_same}
use Rattle.ts_dump.proofs.series.say_all.Goals as goal

pub returns-in_err-say_slot-clause-said : goal.returns-in_err-say_slot-clause-said
returns-in_err-say_slot-clause-said g c = λ told l lay.
    let v = g.S.Volume.device c.args.site.now in
    let x = g.S.Volume.device c.loop-slot.site in
    let w = g.S.Volume.device c.say_slot.new.site in
    let before = c.args.grouping.now in
    let here = c.loop-slot.grouping in
    let behind = c.say_slot.new.grouping in
    let found = c.args.opened.now.found in
    let items : List ℕ = c.in_order-slot-items.result.now in
    let inv = c.loop-slot.invariant in
    let e = c.in_err-say_slot.field-0.0 in
    let lies = subst (λ (held : List ℕ). IsLayoutOf found.defs.definitions found.space held l) (sym inv.caused.stays.held) lay in
    texts_failed before behind behind (all_series_texts l) c.from_residual.result e v w c.from_residual.ensures.1
    (texts_same before behind (flat_map (series_texts l) items) (all_series_texts l) (Err e) v w
    (ap (flat_map (series_texts l)) (c.in_order-slot-items.ensures.value ∙ ap (λ (d : Definitions). values (slots_by_name (slots Series d))) lay.definitions))
    (slots_cut (series_texts l) items c.loop-slot.slot-index _ before here behind behind e v x w c.loop-slot-test.true (inv.said told l lay) (c.in_err-say_slot.ensures.said told l lies)))

pub loop-slot-preserved : goal.loop-slot-preserved
loop-slot-preserved g c =
    let v = g.S.Volume.device c.args.site.now in
    let x = g.S.Volume.device c.loop-slot.site in
    let w = g.S.Volume.device c.say_slot.new.site in
    let found = c.args.opened.now.found in
    let items : List ℕ = c.in_order-slot-items.result.now in
    let inv = c.loop-slot.invariant in
    record {
      caused = caused_then (Ok tt) v x w inv.caused c.in_ok-say_slot.ensures.caused;
      said = λ told l lay.
          let lies = subst (λ (held : List ℕ). IsLayoutOf found.defs.definitions found.space held l) (sym inv.caused.stays.held) lay in
          slots_next (series_texts l) items c.loop-slot.slot-index _ c.args.grouping.now c.loop-slot.grouping c.say_slot.new.grouping (Ok tt) v x w c.loop-slot-test.true (inv.said told l lay)
          (c.in_ok-say_slot.ensures.said told l lies);
    }
