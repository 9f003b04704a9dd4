use Rattle.std.proofs.Common.{◌<◌, ◌∙◌, length, set, ap, arith, subst}
use Rattle.ts_space.specs.Place.{kept_count}
use Rattle.ts_space.specs.Directory.{Directory, ChangesOnly}
use Rattle.ts_space.proofs.DirectoryLemmas.{grown_all, counts_long, count_read, places_set, spare_set, changes_set, directory_set, count_fits, directory}
use Rattle.ts_space.proofs.space.Space.restore.Goals as goal

pub overflow_sub-self : goal.overflow_sub-self
overflow_sub-self c =
    let before = c.self.inside.lists.items in
    let vs = c.grow.new.lists.items in
    let all = grown_all before vs c.args.series c.self.inside.used c.requires.slot c.self.invariant.directory c.grow.ensures.grown in
    let within : c.args.series < length vs = c.grow.ensures.within in
    let part = count_read vs c.args.series c.self.inside.used c.index_mut-kept.result.now all.kept within c.index_mut-kept.ensures.value in
    omega (arith, part)

pub overflow_add-self : goal.overflow_add-self
overflow_add-self c = let few = count_fits c.self.inside.lists.items c.self.inside.used c.self.invariant.directory in omega (arith, few)

pub invariant_of-self : goal.invariant_of-self
invariant_of-self c =
    let before = c.self.inside.lists.items in
    let vs = c.grow.new.lists.items in
    let all = grown_all before vs c.args.series c.self.inside.used c.requires.slot c.self.invariant.directory c.grow.ensures.grown in
    let within : c.args.series < length vs = c.grow.ensures.within in
    record {
      directory = rw (c.len-before.ensures, c.len-after.ensures)
          (directory_set vs c.args.series c.self.inside.used c.counted-count.result c.index_mut-kept.result.now c.args.places all.kept within c.index_mut-kept.ensures.value c.requires.rising
          (c.counted-count.ensures ∙ ap kept_count c.deref.ensures.value));
      lists_room = omega (arith, c.self.invariant.lists_room, c.grow.ensures.room);
      counts_room = omega (arith, c.self.invariant.counts_room, c.grow.ensures.counts_room);
    }

pub returns-clause-ok : goal.returns-clause-ok
returns-clause-ok c =
    let before = c.self.inside.lists.items in
    let vs = c.grow.new.lists.items in
    let all = grown_all before vs c.args.series c.self.inside.used c.requires.slot c.self.invariant.directory c.grow.ensures.grown in
    let within : c.args.series < length vs = c.grow.ensures.within in
    places_set vs c.args.series c.args.places within

pub returns-clause-spare : goal.returns-clause-spare
returns-clause-spare c =
    let before = c.self.inside.lists.items in
    let vs = c.grow.new.lists.items in
    let all = grown_all before vs c.args.series c.self.inside.used c.requires.slot c.self.invariant.directory c.grow.ensures.grown in
    let within : c.args.series < length vs = c.grow.ensures.within in
    spare_set vs c.args.series c.args.places within

pub returns-clause-others : goal.returns-clause-others
returns-clause-others c =
    let before = c.self.inside.lists.items in
    let vs = c.grow.new.lists.items in
    let all = grown_all before vs c.args.series c.self.inside.used c.requires.slot c.self.invariant.directory c.grow.ensures.grown in
    let within : c.args.series < length vs = c.grow.ensures.within in
    let view = all.same ∙ c.self.view_is in
    let new : Directory = directory (set vs c.args.series c.args.places) in
    subst (λ (old : Directory). ChangesOnly c.args.series old new) view (changes_set vs c.args.series c.args.places within)

pub grow-requires-clause-same : goal.grow-requires-clause-same
grow-requires-clause-same c =
    omega (arith, counts_long c.self.inside.lists.items c.self.inside.used c.self.invariant.directory, c.self.inside.lists.ok.0, c.self.inside.counts.ok.0)
