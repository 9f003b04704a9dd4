use Rattle.std.proofs.Common.{◌<◌, length, set, ap, sym, ◌∙◌, arith, subst}
use Rattle.ts_space.specs.Place.{IsRising}
use Rattle.ts_space.specs.Moved.{moved_to}
use Rattle.ts_space.specs.Directory.{Directory, ChangesOnly, places_of, spare_of, capacity_of}
use Rattle.ts_space.proofs.DirectoryLemmas.{spare_within, count_kept, old_spare, old_places, places_set, changes_set, directory_set, count_fits, capacity_set, spare_left, directory}
use Rattle.ts_space.proofs.space.Space.splice.Goals as goal

pub exchange-count-requires : goal.exchange-count-requires
exchange-count-requires c =
    let vs = c.self.inside.lists.items in
    let old = c.index_mut-list.result.now in
    let within = spare_within vs c.args.series (omega (arith, ap (spare_of c.args.series) c.self.view_is, c.requires.room)) in
    let value = c.index_mut-list.ensures.value in
    let before = old_spare vs c.args.series old within value in
    let same = ap (spare_of c.args.series) c.self.view_is in
    let room = c.requires.room in
    record {
      room = omega (arith, before, same, room);
      count = c.index-count.ensures ∙ count_kept vs c.args.series c.self.inside.used _ old c.self.invariant.directory within value;
    }

pub overflow_add-self : goal.overflow_add-self
overflow_add-self c = let few = count_fits c.self.inside.lists.items c.self.inside.used c.self.invariant.directory in omega (arith, few)

pub invariant_of-self : goal.invariant_of-self
invariant_of-self c =
    let vs = c.self.inside.lists.items in
    let n = c.self.inside.used in
    let old = c.index_mut-list.result.now in
    let within = spare_within vs c.args.series (omega (arith, ap (spare_of c.args.series) c.self.view_is, c.requires.room)) in
    let value = c.index_mut-list.ensures.value in
    let before = sym (old_places vs c.args.series old within value) ∙ ap (places_of c.args.series) c.self.view_is in
    let rising = subst IsRising (ap (moved_to c.args.moved.now) (sym before) ∙ sym c.exchange-count.ensures.ok) c.requires.rising in
    record {
      directory = rw (c.len-before.ensures, c.len-after.ensures)
          (directory_set vs c.args.series n c.exchange-count.result old c.exchange-count.new.list c.self.invariant.directory within value rising c.exchange-count.ensures.count);
      lists_room = c.self.invariant.lists_room;
      counts_room = c.self.invariant.counts_room;
    }

pub returns-clause-ok : goal.returns-clause-ok
returns-clause-ok c =
    let vs = c.self.inside.lists.items in
    let old = c.index_mut-list.result.now in
    let within = spare_within vs c.args.series (omega (arith, ap (spare_of c.args.series) c.self.view_is, c.requires.room)) in
    let before = sym (old_places vs c.args.series old within c.index_mut-list.ensures.value) ∙ ap (places_of c.args.series) c.self.view_is in
    places_set vs c.args.series c.exchange-count.new.list within ∙ c.exchange-count.ensures.ok ∙ ap (moved_to c.args.moved.now) before

pub returns-clause-others : goal.returns-clause-others
returns-clause-others c =
    let vs = c.self.inside.lists.items in
    let within = spare_within vs c.args.series (omega (arith, ap (spare_of c.args.series) c.self.view_is, c.requires.room)) in
    let new : Directory = directory (set vs c.args.series c.exchange-count.new.list) in
    subst (λ (old : Directory). ChangesOnly c.args.series old new) c.self.view_is (changes_set vs c.args.series c.exchange-count.new.list within)

pub returns-clause-memory : goal.returns-clause-memory
returns-clause-memory c =
    let vs = c.self.inside.lists.items in
    let old = c.index_mut-list.result.now in
    let within = spare_within vs c.args.series (omega (arith, ap (spare_of c.args.series) c.self.view_is, c.requires.room)) in
    capacity_set vs c.args.series old c.exchange-count.new.list within c.index_mut-list.ensures.value c.exchange-count.ensures.memory
    ∙ ap (capacity_of c.args.series) c.self.view_is

pub returns-clause-spare : goal.returns-clause-spare
returns-clause-spare c =
    let vs = c.self.inside.lists.items in
    let old = c.index_mut-list.result.now in
    let new = c.exchange-count.new.list in
    let within = spare_within vs c.args.series (omega (arith, ap (spare_of c.args.series) c.self.view_is, c.requires.room)) in
    let left = spare_left vs c.args.series old new within c.index_mut-list.ensures.value c.exchange-count.ensures.memory in
    let longer = c.exchange-count.ensures.longer in
    let known = old.ok.0 in let also = new.ok.0 in
    let before = ap (spare_of c.args.series) c.self.view_is in
    omega (arith, left, longer, known, also, before)
