use Rattle.std.proofs.Common.{◌≡◌, ◌+◌, ◌<◌, ◌++◌, ◌∷◌, [], ℕ, List, take, length, map, get_or, arith, sym, ap, ◌∙◌, subst, Vec, Global}
use Rattle.std.proofs.lemmas.List.{map_more, map-append, take_all}
use Rattle.ts_space.specs.declared.place.Place.{Place}
use Rattle.ts_space.specs.Directory.{Directory, IsDirectory, padded}
use Rattle.ts_space.proofs.DirectoryLemmas.{items_of}
use Rattle.ts_space.proofs.space.Space.copy.Goals as goal

-- one list more, with the places of the next
more_copied : (vs made : List (Vec Place Global)) (i : ℕ) (old new : Vec Place Global) → i < length vs → map items_of made ≡ map items_of (take i vs) → old ≡ get_or vs i old
    → new.items ≡ old.items → map items_of (made ++ new ∷ []) ≡ map items_of (take (i + 1) vs)
more_copied vs made i old new within so_far here same =
    map-append items_of made (new ∷ []) ∙ ap (λ (l : List (List Place)). l ++ new.items ∷ []) so_far
    ∙ ap (λ (p : List Place). map items_of (take i vs) ++ p ∷ []) (same ∙ ap items_of here) ∙ sym (map_more items_of vs i old within)

pub loop-list-preserved : goal.loop-list-preserved
loop-list-preserved c =
    let vs = c.self.inside.lists.items in
    let whole = c.deref-list-items.ensures.value in
    let within : c.loop-list.list-index < length vs = omega (arith, c.loop-list-test.true, ap length whole) in
    let old = c.list-item.result in
    let here = c.list-item.is ∙ ap (λ (l : List (Vec Place Global)). get_or l c.loop-list.list-index old) whole in
    record {
      copied = ap (map items_of) c.in_ok-push.ensures.items
          ∙ more_copied vs c.loop-list.lists.items c.loop-list.list-index old c.in_ok-places.places within c.loop-list.invariant.copied here (c.in_ok-places.ensures.items ∙ c.deref.ensures.value);
      room = omega (arith, c.loop-list.invariant.room, c.in_ok-push.ensures.capacity);
    }

pub invariant_of-result : goal.invariant_of-result
invariant_of-result c =
    let vs = c.self.inside.lists.items in
    let all = take_all c.loop-list.list-index vs (omega (arith, c.loop-list-test.false)) in
    let same = c.loop-list.invariant.copied ∙ ap (map items_of) all in
    let counts : c.extend_from_slice.new.self.items ≡ c.self.inside.counts.items =
    c.in_ok-extend_from_slice.ensures.items ∙ ap (λ (l : List ℕ). l ++ c.deref-2.result.now) c.in_ok-counts.ensures.items ∙ c.deref-2.ensures.value in
    record {
      directory = subst (λ (lists : List (List Place)). IsDirectory lists c.extend_from_slice.new.self.items c.self.inside.used) (sym same)
          (subst (λ (counts : List ℕ). IsDirectory (map items_of vs) counts c.self.inside.used) (sym counts) c.self.invariant.directory);
      lists_room = c.loop-list.invariant.room;
      counts_room = omega (arith, c.in_ok-counts.ensures.capacity, c.extend_from_slice.ensures.capacity);
    }

pub returns : goal.returns
returns c =
    let vs = c.self.inside.lists.items in
    let all = take_all c.loop-list.list-index vs (omega (arith, c.loop-list-test.false)) in
    let same = c.loop-list.invariant.copied ∙ ap (map items_of) all in
    ap (padded []) same ∙ ap (λ (d : Directory). d.lists) c.self.view_is
