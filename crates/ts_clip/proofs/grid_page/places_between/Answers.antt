use Rattle.std.proofs.Common.{◌≡◌, ℕ, ◌+◌, ◌-◌, pos, List, ◌++◌, length, take, drop, refl, sym, ap, subst, ◌∙◌, arith}
use Rattle.std.proofs.lemmas.List.{drop_at, take_at, take_rest}
use Rattle.ts_space.specs.declared.place.Place.{Place}
use Rattle.ts_space.specs.Place.{AreBelow, rank_of}
use Rattle.ts_row.specs.declared.kind.Column.{Column}
use Rattle.ts_regular.specs.RegularPage.{base_of}
use Rattle.ts_regular.specs.Cut.{AreNotBelow, IsRange}
use Rattle.ts_regular.proofs.RankLemmas.{ranged, rest_rising}
use Rattle.ts_clip.specs.Between.{AreBetween}
use Rattle.ts_clip.proofs.grid_page.places_between.Goals as goal

-- the places of a range, as a part of all
part_between : (columns : List Column) (lower upper first more : ℕ) (places among : List Place) → IsRange columns lower upper places first (first + more)
    → among ≡ take more (take (length places - first) (drop first places)) → AreBetween columns lower upper places among
part_between columns lower upper first more places among r is =
    let rest : take (length places - first) (drop first places) ≡ r.mid ++ r.back = take_rest places first ∙ ap (drop first) r.parts ∙ drop_at r.front (r.mid ++ r.back) first r.first_is in
    let own : among ≡ r.mid = is ∙ ap (take more) rest ∙ take_at r.mid r.back more (omega (arith, r.first_is, r.stop_is)) in
    record {
      front = r.front;
      back = r.back;
      parts = r.parts ∙ ap (λ (l : List Place). r.front ++ (l ++ r.back)) (sym own);
      before = r.before;
      begins = subst (AreNotBelow (pos (base_of columns lower))) (sym own) r.begins;
      ends = subst (AreBelow (pos upper)) (sym own) r.ends;
      behind = r.behind;
    }

pub rank-requires-2-clause-rising : goal.rank-requires-2-clause-rising
rank-requires-2-clause-rising c = rest_rising (pos c.base_of.result) c.args.places.now c.requires.rising c.rank.result c.rank.ensures.rank

pub returns : goal.returns
returns c = record {
  between = part_between c.args.kind.now.columns c.args.lower c.args.upper c.rank.result c.rank-2.result c.args.places.now _
      (ranged c.args.kind.now.columns c.args.lower c.args.upper c.args.places.now c.rank.result c.rank-2.result c.requires.rising
      (c.rank.ensures.rank ∙ ap (λ (n : ℕ). rank_of (pos n) c.args.places.now) c.base_of.ensures.value) c.rank-2.ensures.rank)
      refl;
}
