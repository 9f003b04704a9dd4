use Rattle.std.proofs.Common.{◌≡◌, ◌<◌, List, [], length, set, ap, sym, ◌∙◌, arith, subst}
use Rattle.std.proofs.lemmas.Result.{on_ok_weaker, on_err_weaker}
use Rattle.ts_space.specs.declared.place.Place.{Place}
use Rattle.ts_space.specs.Directory.{Directory, IsDirectory, padded, ChangesOnly, spare_of}
use Rattle.ts_space.proofs.DirectoryLemmas.{grown_all, counts_long, spare_set, old_spare, changes_set, same_lists, same_spares, same_directory, directory, free_of}
use Rattle.ts_space.proofs.space.Space.reserve.Goals as goal

pub invariant_of-self : goal.invariant_of-self
invariant_of-self c =
    let before = c.self.inside.lists.items in
    let vs = c.grow.new.lists.items in
    let all = grown_all before vs c.args.series c.self.inside.used c.requires c.self.invariant.directory c.grow.ensures.grown in
    let within : c.args.series < length vs = c.grow.ensures.within in
    let same = same_lists vs c.args.series c.index_mut.result.now c.reserve.new.self within c.index_mut.ensures.value c.reserve.ensures.items in
    record {
      directory = subst (λ (lists : List (List Place)). IsDirectory lists c.grow.new.counts.items c.self.inside.used) (sym same) all.kept;
      lists_room = omega (arith, c.self.invariant.lists_room, c.grow.ensures.room);
      counts_room = omega (arith, c.self.invariant.counts_room, c.grow.ensures.counts_room);
    }

pub returns-clause-ok : goal.returns-clause-ok
returns-clause-ok c =
    let before = c.self.inside.lists.items in
    let vs = c.grow.new.lists.items in
    let all = grown_all before vs c.args.series c.self.inside.used c.requires c.self.invariant.directory c.grow.ensures.grown in
    let within : c.args.series < length vs = c.grow.ensures.within in
    let spare = spare_set vs c.args.series c.reserve.new.self within in
    on_ok_weaker c.reserve.result (λ room. omega (arith, room, spare)) c.reserve.ensures.ok

pub returns-clause-err : goal.returns-clause-err
returns-clause-err c =
    let before = c.self.inside.lists.items in
    let vs = c.grow.new.lists.items in
    let all = grown_all before vs c.args.series c.self.inside.used c.requires c.self.invariant.directory c.grow.ensures.grown in
    let within : c.args.series < length vs = c.grow.ensures.within in
    let view = all.same ∙ c.self.view_is in
    let old = c.index_mut.result.now in
    let new = c.reserve.new.self in
    let lists = same_lists vs c.args.series old new within c.index_mut.ensures.value c.reserve.ensures.items in
    let len = c.reserve.ensures.len in
    on_err_weaker c.reserve.result
    (λ capacity. same_directory vs (set vs c.args.series new) lists
    (same_spares vs c.args.series old new within c.index_mut.ensures.value (omega (arith, capacity, len)))
    ∙ view)
    c.reserve.ensures.err

pub returns-clause-places : goal.returns-clause-places
returns-clause-places c =
    let before = c.self.inside.lists.items in
    let vs = c.grow.new.lists.items in
    let all = grown_all before vs c.args.series c.self.inside.used c.requires c.self.invariant.directory c.grow.ensures.grown in
    let within : c.args.series < length vs = c.grow.ensures.within in
    let view = all.same ∙ c.self.view_is in
    ap (padded []) (same_lists vs c.args.series c.index_mut.result.now c.reserve.new.self within c.index_mut.ensures.value c.reserve.ensures.items)
    ∙ ap (λ (d : Directory). d.lists) view

pub returns-clause-spare : goal.returns-clause-spare
returns-clause-spare c =
    let before = c.self.inside.lists.items in
    let vs = c.grow.new.lists.items in
    let all = grown_all before vs c.args.series c.self.inside.used c.requires c.self.invariant.directory c.grow.ensures.grown in
    let within : c.args.series < length vs = c.grow.ensures.within in
    let view = all.same ∙ c.self.view_is in
    let before : spare_of c.args.series c.args.self.now ≡ free_of c.index_mut.result.now = ap (spare_of c.args.series) (sym view) ∙ old_spare vs c.args.series c.index_mut.result.now within c.index_mut.ensures.value in
    let after = spare_set vs c.args.series c.reserve.new.self within in
    let len = c.reserve.ensures.len in
    let capacity = c.reserve.ensures.capacity in
    omega (arith, before, after, len, capacity)

pub returns-clause-others : goal.returns-clause-others
returns-clause-others c =
    let before = c.self.inside.lists.items in
    let vs = c.grow.new.lists.items in
    let all = grown_all before vs c.args.series c.self.inside.used c.requires c.self.invariant.directory c.grow.ensures.grown in
    let within : c.args.series < length vs = c.grow.ensures.within in
    let view = all.same ∙ c.self.view_is in
    let new : Directory = directory (set vs c.args.series c.reserve.new.self) in
    subst (λ (old : Directory). ChangesOnly c.args.series old new) view (changes_set vs c.args.series c.reserve.new.self within)

pub grow-requires-clause-same : goal.grow-requires-clause-same
grow-requires-clause-same c =
    omega (arith, counts_long c.self.inside.lists.items c.self.inside.used c.self.invariant.directory, c.self.inside.lists.ok.0, c.self.inside.counts.ok.0)
