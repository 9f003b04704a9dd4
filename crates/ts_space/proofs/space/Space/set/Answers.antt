use Rattle.std.proofs.Common.{◌≡◌, ◌<◌, ◌≤◌, None, length, set, ap, sym, ◌∙◌, arith, subst}
use Rattle.ts_space.specs.Place.{IsRising, place_at, put_place}
use Rattle.ts_space.specs.Directory.{Directory, ChangesOnly, places_of, spare_of, capacity_of}
use Rattle.ts_space.proofs.PlaceLemmas.{put_rising, length_put}
use Rattle.ts_space.proofs.DirectoryLemmas.{room_within, old_rising, old_places, places_set, changes_set, directory_set, count_fits, capacity_set, spare_left, directory}
use Rattle.ts_space.proofs.space.Space.set.Goals as goal

pub overflow_add-self : goal.overflow_add-self
overflow_add-self c = let few = count_fits c.self.inside.lists.items c.self.inside.used c.self.invariant.directory in omega (arith, few)

pub invariant_of-self : goal.invariant_of-self
invariant_of-self c =
    let vs = c.self.inside.lists.items in
    let n = c.self.inside.used in
    let old = c.index_mut-places.result.now in
    let room = subst (λ (d : Directory). place_at c.args.place.at (places_of c.args.series d) ≡ None → 1 ≤ spare_of c.args.series d) (sym c.self.view_is) c.requires.room in
    let within = room_within vs c.args.series c.args.place.at room in
    let value = c.index_mut-places.ensures.value in
    let rising = put_rising old.items c.args.place (old_rising vs c.args.series n old c.self.invariant.directory within value) in
    record {
      directory = rw (c.len-before.ensures, c.len-after.ensures)
          (directory_set vs c.args.series n c.put-count.result old c.put-count.new.list c.self.invariant.directory within value (subst IsRising (sym c.put-count.ensures.ok) rising) c.put-count.ensures.count);
      lists_room = c.self.invariant.lists_room;
      counts_room = c.self.invariant.counts_room;
    }

pub returns-clause-ok : goal.returns-clause-ok
returns-clause-ok c =
    let vs = c.self.inside.lists.items in
    let old = c.index_mut-places.result.now in
    let room = subst (λ (d : Directory). place_at c.args.place.at (places_of c.args.series d) ≡ None → 1 ≤ spare_of c.args.series d) (sym c.self.view_is) c.requires.room in
    let within = room_within vs c.args.series c.args.place.at room in
    let before = sym (old_places vs c.args.series old within c.index_mut-places.ensures.value) ∙ ap (places_of c.args.series) c.self.view_is in
    places_set vs c.args.series c.put-count.new.list within ∙ c.put-count.ensures.ok ∙ ap (put_place c.args.place) before

pub returns-clause-others : goal.returns-clause-others
returns-clause-others c =
    let vs = c.self.inside.lists.items in
    let room = subst (λ (d : Directory). place_at c.args.place.at (places_of c.args.series d) ≡ None → 1 ≤ spare_of c.args.series d) (sym c.self.view_is) c.requires.room in
    let within = room_within vs c.args.series c.args.place.at room in
    let new : Directory = directory (set vs c.args.series c.put-count.new.list) in
    subst (λ (old : Directory). ChangesOnly c.args.series old new) c.self.view_is (changes_set vs c.args.series c.put-count.new.list within)

pub returns-clause-memory : goal.returns-clause-memory
returns-clause-memory c =
    let vs = c.self.inside.lists.items in
    let old = c.index_mut-places.result.now in
    let room = subst (λ (d : Directory). place_at c.args.place.at (places_of c.args.series d) ≡ None → 1 ≤ spare_of c.args.series d) (sym c.self.view_is) c.requires.room in
    let within = room_within vs c.args.series c.args.place.at room in
    capacity_set vs c.args.series old c.put-count.new.list within c.index_mut-places.ensures.value c.put-count.ensures.memory
    ∙ ap (capacity_of c.args.series) c.self.view_is

pub returns-clause-spare : goal.returns-clause-spare
returns-clause-spare c =
    let vs = c.self.inside.lists.items in
    let old = c.index_mut-places.result.now in
    let room = subst (λ (d : Directory). place_at c.args.place.at (places_of c.args.series d) ≡ None → 1 ≤ spare_of c.args.series d) (sym c.self.view_is) c.requires.room in
    let within = room_within vs c.args.series c.args.place.at room in
    let left = spare_left vs c.args.series old c.put-count.new.list within c.index_mut-places.ensures.value c.put-count.ensures.memory in
    let bound = length_put old.items c.args.place (old_rising vs c.args.series c.self.inside.used old c.self.invariant.directory within c.index_mut-places.ensures.value) in
    let known = ap length c.put-count.ensures.ok in
    let before = ap (spare_of c.args.series) c.self.view_is in
    omega (arith, left, bound, known, before)
