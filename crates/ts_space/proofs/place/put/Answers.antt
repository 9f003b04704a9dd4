use Rattle.std.proofs.Common.{ℕ, ap, sym, ◌∙◌, set, w64, rules, arith}
use Rattle.ts_space.specs.declared.place.Place.{Place}
use Rattle.std.proofs.lemmas.List.Sums.{sum_by-insert, sum_by-set}
use Rattle.std.specs.List.{insert}
use Rattle.std.proofs.lemmas.Int.{to_z-of_z}
use Rattle.ts_space.specs.Place.{search_of, count_of}
use Rattle.ts_space.proofs.PlaceLemmas.{search_ok, search_err, put_found, put_new, found_below}
use Rattle.ts_space.proofs.place.put.Goals as goal

pub returns-in-Ok-clause-ok : goal.returns-in-Ok-clause-ok
returns-in-Ok-clause-ok c =
    let ps = c.args.list.now.items in
    let at = c.args.place.at in
    let found = rw (to_z-of_z w64 at (search rules)) at (ap (search_of _) (sym c.deref.ensures.value) ∙ sym c.search.ensures.ok ∙ c.in-Ok.is) in
    let here = search_ok at ps c.in-Ok.index found in
    ap (λ (i : ℕ). set ps i c.args.place) here.1 ∙ sym (put_found ps c.args.place c.requires.rising here.0)

pub returns-in-Ok-insert-clause-ok : goal.returns-in-Ok-insert-clause-ok
returns-in-Ok-insert-clause-ok c =
    let ps = c.args.list.now.items in
    let at = c.args.place.at in
    let none = rw (to_z-of_z w64 at (search rules)) at (ap (search_of _) (sym c.deref.ensures.value) ∙ sym c.search.ensures.ok ∙ c.in-Err.is) in
    let here = search_err at ps c.in-Err.index none in
    c.in-Ok-insert.ensures.items ∙ ap (λ (i : ℕ). insert ps i c.args.place) here.1 ∙ sym (put_new ps c.args.place c.requires.rising here.0)

pub returns-in-Ok-clause-count : goal.returns-in-Ok-clause-count
returns-in-Ok-clause-count c =
    let ps = c.args.list.now.items in
    let at = c.args.place.at in
    let i = c.in-Ok.index in
    let found = rw (to_z-of_z w64 at (search rules)) at (ap (search_of _) (sym c.deref.ensures.value) ∙ sym c.search.ensures.ok ∙ c.in-Ok.is) in
    let read = rw (to_z-of_z w64 at (search rules), c.deref.ensures.value) at c.in-Ok.ensures.place in
    let within = found_below ps at i read (search_ok at ps i found).0 in
    let sum = sum_by-set (λ (p : Place). p.count) ps i c.args.place c.index.result.now within in
    let here = ap (λ (p : Place). p.count) c.index.ensures in
    c.exchanged.ensures (count_of ps) (count_of (set ps i c.args.place)) c.index.result.now.count c.args.place.count (omega (arith, sum, here)) c.requires.count (search rules) (search rules)

pub returns-in-Ok-insert-clause-count : goal.returns-in-Ok-insert-clause-count
returns-in-Ok-insert-clause-count c =
    let ps = c.args.list.now.items in
    let sum = sum_by-insert (λ (p : Place). p.count) ps c.in-Err.index c.args.place in
    let items = ap count_of c.in-Ok-insert.ensures.items in
    c.exchanged-in-Err.ensures (count_of ps) (count_of c.insert.new.self.items) 0 c.args.place.count (omega (arith, sum, items)) c.requires.count (search rules) (search rules)
