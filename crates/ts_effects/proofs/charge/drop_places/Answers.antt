-- A series without places stays as it is.
use Rattle.std.proofs.Common.{List, [], sym, ap, ◌∙◌, set}
use Rattle.std.proofs.lemmas.List.{set-get_or}
use Rattle.ts_space.specs.declared.place.Place.{Place}
use Rattle.ts_effects.proofs.charge.drop_places.Goals as goal

pub returns-then-is_never_charged-clause-lists : goal.returns-then-is_never_charged-clause-lists
returns-then-is_never_charged-clause-lists c =
    let lists = c.args.space.now.lists in
    let none = c.is_never_charged.ensures c.if-is_never_charged.true in
    sym (ap (λ (places : List Place). set lists c.args.slot places) (sym none) ∙ set-get_or lists c.args.slot [])
