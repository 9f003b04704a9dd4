use Rattle.std.proofs.Common.{ap, sym, ◌∙◌, w64, arith, rules}
use Rattle.ts_space.specs.declared.place.Place.{Place}
use Rattle.std.proofs.lemmas.List.Sums.{sum_by-remove}
use Rattle.std.specs.List.{remove}
use Rattle.std.proofs.lemmas.Int.{to_z-of_z}
use Rattle.ts_space.specs.Place.{search_of, count_of}
use Rattle.ts_space.proofs.PlaceLemmas.{search_ok, search_err, drop_found, drop_none, found_below}
use Rattle.ts_space.proofs.place.drop_at.Goals as goal

pub returns-in-Ok-clause-ok : goal.returns-in-Ok-clause-ok
returns-in-Ok-clause-ok c =
    let ps = c.args.list.now.items in
    let at = c.args.at in
    let found = rw (to_z-of_z w64 at c.ranges.at) at (ap (search_of _) (sym c.deref.ensures.value) ∙ sym c.search.ensures.ok ∙ c.in-Ok.is) in
    let here = search_ok at ps c.in-Ok.index found in
    c.remove-gone.ensures.items ∙ ap (remove ps) here.1 ∙ sym (drop_found ps at c.requires.rising here.0)

pub returns-in-Err-clause-ok : goal.returns-in-Err-clause-ok
returns-in-Err-clause-ok c =
    let ps = c.args.list.now.items in
    let at = c.args.at in
    let none = rw (to_z-of_z w64 at c.ranges.at) at (ap (search_of _) (sym c.deref.ensures.value) ∙ sym c.search.ensures.ok ∙ c.in-Err.is) in
    sym (drop_none ps at (search_err at ps c.in-Err.field-0 none).0)

pub returns-in-Ok-clause-count : goal.returns-in-Ok-clause-count
returns-in-Ok-clause-count c =
    let ps = c.args.list.now.items in
    let at = c.args.at in
    let i = c.in-Ok.index in
    let found = rw (to_z-of_z w64 at c.ranges.at) at (ap (search_of _) (sym c.deref.ensures.value) ∙ sym c.search.ensures.ok ∙ c.in-Ok.is) in
    let read = rw (to_z-of_z w64 at c.ranges.at, c.deref.ensures.value) at c.in-Ok.ensures.place in
    let within = found_below ps at i read (search_ok at ps i found).0 in
    let sum = sum_by-remove (λ (p : Place). p.count) ps i c.remove-gone.result within in
    let here = ap (λ (p : Place). p.count) c.remove-gone.ensures.value in
    let items = ap count_of c.remove-gone.ensures.items in
    c.exchanged.ensures (count_of ps) (count_of c.remove-gone.new.self.items) c.remove-gone.result.count 0 (omega (arith, sum, here, items)) c.requires.count (search rules) (search rules)
