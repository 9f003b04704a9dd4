use Rattle.std.proofs.Common.{◌≡◌, [], refl, ap, sym, ◌∙◌, subst}
use Rattle.ts_store.specs.OpenBatch.{CanJoin, to_commit, read_pages}
use Rattle.ts_answer.specs.CarriedOut.{definitions_after, lists_after}
use Rattle.ts_engine.specs.Engine.{Kept}
use Rattle.ts_effects.proofs.CallerLemmas.{can_charge_then}
use Rattle.ts_engine.proofs.EndLemmas.{joined_then, dropped_then}
use Rattle.ts_engine.proofs.engine.Engine.join.Goals as goal

pub keep-requires : goal.keep-requires
keep-requires c = record { prepared = subst (λ (k : Kept). CanJoin k.store) (sym c.self.view_is) c.in-Ok.ensures.join }

pub apply-requires-clause-charge : goal.apply-requires-clause-charge
apply-requires-clause-charge c =
    let effect = c.args.effect in
    let room = c.make_room_to_join.ensures in
    let old = c.args.self.now in
    let now = c.self.inside in
    let view_is = c.self.view_is in
    let definitions = ap (λ (k : Kept). k.tables.definitions) view_is ∙ room.definitions in
    let lists = ap (λ (k : Kept). k.space.lists) view_is ∙ room.lists in
    let charges = ap (λ (k : Kept). k.charges) view_is ∙ ap (λ (k : Kept). k.charges) room.others in
    can_charge_then effect old.charges now.charges old.tables.definitions now.defs.definitions old.space now.space c.requires.charge definitions lists charges

pub returns-in-Ok : goal.returns-in-Ok
returns-in-Ok c =
    let effect = c.args.effect in
    let room = c.make_room_to_join.ensures in
    let view_is = c.self.view_is in
    let is : c.self.inside.store ≡ c.make_room_to_join.new.self.store = ap (λ (k : Kept). k.store) view_is in
    record {
      joins = record {
        joined = joined_then c.args.self.now.store c.make_room_to_join.new.self.store c.keep.new.self (ap (λ (k : Kept). k.store) room.others)
            (c.keep.ensures.kept ∙ (λ i. record (is i) { transaction = to_commit (is i); batch = []; kept_free = (is i).free; join_spare = c.keep.new.self.join_spare }))
            (λ held number. c.keep.ensures.read held number ∙ (λ i. read_pages (is i) held number));
        definitions = c.apply.ensures.definitions ∙ ap (λ (k : Kept). definitions_after effect k.tables.definitions) view_is ∙ ap (definitions_after effect) room.definitions;
        lists = c.apply.ensures.lists ∙ ap (λ (k : Kept). lists_after effect k.space.lists) view_is ∙ ap (lists_after effect) room.lists;
        charges = c.apply.ensures.charges;
        fault = tt;
        dropped = tt;
        definitions_stay = tt;
        lists_stay = tt;
        charges_stay = tt;
        hidden = ap (λ (k : Kept). k.hidden) view_is ∙ ap (λ (k : Kept). k.hidden) room.others;
        saved = ap (λ (k : Kept). k.saved) view_is ∙ ap (λ (k : Kept). k.saved) room.others;
        spent = ap (λ (k : Kept). k.spent) view_is ∙ ap (λ (k : Kept). k.spent) room.others;
      };
    }

pub returns-in-Err : goal.returns-in-Err
returns-in-Err c =
    let room = c.make_room_to_join.ensures in
    let drop = c.discard.ensures in
    record {
      joins = record {
        joined = tt;
        definitions = tt;
        lists = tt;
        charges = tt;
        fault = (_, refl);
        dropped = dropped_then c.args.self.now.store c.make_room_to_join.new.self.store c.discard.new.self.store (ap (λ (k : Kept). k.store) room.others) (ap (λ (k : Kept). k.store) drop);
        definitions_stay = ap (λ (k : Kept). k.tables.definitions) drop ∙ room.definitions;
        lists_stay = ap (λ (k : Kept). k.space.lists) drop ∙ room.lists;
        charges_stay = ap (λ (k : Kept). k.charges) drop ∙ ap (λ (k : Kept). k.charges) room.others;
        hidden = ap (λ (k : Kept). k.hidden) drop ∙ ap (λ (k : Kept). k.hidden) room.others;
        saved = ap (λ (k : Kept). k.saved) drop ∙ ap (λ (k : Kept). k.saved) room.others;
        spent = ap (λ (k : Kept). k.spent) drop ∙ ap (λ (k : Kept). k.spent) room.others;
      };
    }
