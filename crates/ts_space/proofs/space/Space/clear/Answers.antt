use Rattle.std.proofs.Common.{◌<◌, length, set, ap, sym, ◌∙◌, arith, subst, w64}
use Rattle.std.proofs.lemmas.Int.{to_z-of_z}
use Rattle.ts_space.specs.Place.{IsRising, drop_place}
use Rattle.ts_space.specs.Directory.{Directory, ChangesOnly, places_of, spare_of, capacity_of}
use Rattle.ts_space.proofs.PlaceLemmas.{drop_rising, length_drop_place}
use Rattle.ts_space.proofs.DirectoryLemmas.{slots, count_kept, count_read, old_rising, old_places, places_set, changes_set, directory_set, count_fits, capacity_set, spare_left, directory}
use Rattle.ts_space.proofs.space.Space.clear.Goals as goal

pub drop_at-count-requires : goal.drop_at-count-requires
drop_at-count-requires c =
    let vs = c.self.inside.lists.items in
    let within : c.args.series < length vs = omega (arith, slots vs c.self.inside.used c.self.invariant.directory) in
    let value = c.index_mut-list.ensures.value in
    record { count = c.index-count.ensures ∙ count_kept vs c.args.series c.self.inside.used _ c.index_mut-list.result.now c.self.invariant.directory within value; rising = old_rising vs c.args.series c.self.inside.used c.index_mut-list.result.now c.self.invariant.directory within c.index_mut-list.ensures.value }

pub overflow_sub-self : goal.overflow_sub-self
overflow_sub-self c =
    let vs = c.self.inside.lists.items in
    let within : c.args.series < length vs = omega (arith, slots vs c.self.inside.used c.self.invariant.directory) in
    let part = count_read vs c.args.series c.self.inside.used c.index_mut-list.result.now c.self.invariant.directory within c.index_mut-list.ensures.value in
    omega (arith, part)

pub overflow_add-self : goal.overflow_add-self
overflow_add-self c = let few = count_fits c.self.inside.lists.items c.self.inside.used c.self.invariant.directory in omega (arith, few)

pub invariant_of-self : goal.invariant_of-self
invariant_of-self c =
    let vs = c.self.inside.lists.items in
    let n = c.self.inside.used in
    let old = c.index_mut-list.result.now in
    let within : c.args.series < length vs = omega (arith, slots vs n c.self.invariant.directory) in
    let value = c.index_mut-list.ensures.value in
    let rising = drop_rising old.items c.args.at (old_rising vs c.args.series n old c.self.invariant.directory within value) in
    let dropped = rw (to_z-of_z w64 c.args.at c.ranges.at) at c.drop_at-count.ensures.ok in
    record {
      directory = rw (c.len-before.ensures, c.len-after.ensures)
          (directory_set vs c.args.series n c.drop_at-count.result old c.drop_at-count.new.list c.self.invariant.directory within value (subst IsRising (sym dropped) rising) c.drop_at-count.ensures.count);
      lists_room = c.self.invariant.lists_room;
      counts_room = c.self.invariant.counts_room;
    }

pub returns-clause-ok : goal.returns-clause-ok
returns-clause-ok c =
    let vs = c.self.inside.lists.items in
    let old = c.index_mut-list.result.now in
    let within : c.args.series < length vs = omega (arith, slots vs c.self.inside.used c.self.invariant.directory) in
    let before = sym (old_places vs c.args.series old within c.index_mut-list.ensures.value) ∙ ap (places_of c.args.series) c.self.view_is in
    let dropped = rw (to_z-of_z w64 c.args.at c.ranges.at) at c.drop_at-count.ensures.ok in
    places_set vs c.args.series c.drop_at-count.new.list within ∙ dropped ∙ ap (drop_place c.args.at) before

pub returns-clause-others : goal.returns-clause-others
returns-clause-others c =
    let vs = c.self.inside.lists.items in
    let within : c.args.series < length vs = omega (arith, slots vs c.self.inside.used c.self.invariant.directory) in
    let new : Directory = directory (set vs c.args.series c.drop_at-count.new.list) in
    subst (λ (old : Directory). ChangesOnly c.args.series old new) c.self.view_is (changes_set vs c.args.series c.drop_at-count.new.list within)

pub returns-clause-memory : goal.returns-clause-memory
returns-clause-memory c =
    let vs = c.self.inside.lists.items in
    let old = c.index_mut-list.result.now in
    let within : c.args.series < length vs = omega (arith, slots vs c.self.inside.used c.self.invariant.directory) in
    capacity_set vs c.args.series old c.drop_at-count.new.list within c.index_mut-list.ensures.value c.drop_at-count.ensures.memory
    ∙ ap (capacity_of c.args.series) c.self.view_is

pub returns-clause-spare : goal.returns-clause-spare
returns-clause-spare c =
    let vs = c.self.inside.lists.items in
    let old = c.index_mut-list.result.now in
    let within : c.args.series < length vs = omega (arith, slots vs c.self.inside.used c.self.invariant.directory) in
    let left = spare_left vs c.args.series old c.drop_at-count.new.list within c.index_mut-list.ensures.value c.drop_at-count.ensures.memory in
    let bound = length_drop_place old.items c.args.at in
    let known = ap length (rw (to_z-of_z w64 c.args.at c.ranges.at) at c.drop_at-count.ensures.ok) in
    let before = ap (spare_of c.args.series) c.self.view_is in
    omega (arith, left, bound, known, before)
