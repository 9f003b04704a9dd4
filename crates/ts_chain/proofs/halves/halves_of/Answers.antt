use Rattle.std.proofs.Common.{ℕ, List, ◌∷◌, ap, subst, ◌∙◌, arith}
use Rattle.std.specs.Int.{int_min}
use Rattle.ts_space.specs.declared.place.Place.{Place}
use Rattle.ts_row.specs.declared.kind.Column.{Column}
use Rattle.ts_chain.specs.Halves.{IsJoinedBefore, IsJoinedBehind}
use Rattle.ts_chain.proofs.EndLemmas.{begin_read, place_get}
use Rattle.ts_chain.proofs.halves.halves_of.Goals as goal

pub returns : goal.returns
returns c = λ front place back parts long.
    let columns : List Column = c.args.shelf.now.kind.now.columns in
    let first : Place = c.first_half-first.result in
    let second : Place = c.place_in-second.result in
    let value = c.page_room-room.ensures.value in
    let some = c.requires.some in
    let held = place_get c.args.places.now c.args.index _ front place back parts long in
    let count = c.first_half-first.ensures.count in record {
      page = c.first_half-first.ensures.page ∙ ap (λ (p : Place). p.page) held;
      first_count = count;
      both_count = omega (arith, c.place_in-second.ensures.count, count, value, some);
      first_at = c.first_half-first.ensures.at ∙ ap (λ (p : Place). int_min p.at c.args.stamp) held;
      second_at = begin_read c.args.shelf.now.series _ columns second c.args.others.now.bytes _ c.place_in-second.ensures.count c.place_in-second.ensures.listed;
      before = subst (λ (q : ℕ). IsJoinedBefore q first.count front c.before_within.result) value (c.before_within.ensures front (place ∷ back) parts long);
      behind = subst (λ (q : ℕ). IsJoinedBehind q second.count back c.behind_within.result) value (c.behind_within.ensures front place back parts long);
    }
