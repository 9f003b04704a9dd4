use Rattle.std.proofs.Common.{◌^◌, ℕ, Some, get_or, map, sym, ap, ◌∙◌, arith}
use Rattle.ts_journal.specs.Journal.{Entry, change_of}
use Rattle.ts_journal.specs.Place.{place_of, stands_at}
use Rattle.ts_journal.specs.Stored.{Listed, entry_of}
use Rattle.ts_journal.proofs.BatchLemmas.{no_entry, found_at, none_at}
use Rattle.ts_journal.proofs.StoredLemmas.{kept_within, kept_at}
use Rattle.ts_journal.proofs.images.Images.find.Goals as goal

pub index-requires : goal.index-requires
index-requires c =
    let within = kept_within c.deref-2.result.now c.place_in-place.result c.args.no (sym c.is_at.ensures ∙ c.if-is_at.true) in
    omega (arith, within, c.deref-2.ensures.len)

pub returns-then-is_at-clause-is : goal.returns-then-is_at-clause-is
returns-then-is_at-clause-is c =
    let xs = c.self.inside.items.items in
    let es = map entry_of xs in
    let p = c.place_in-place.result in
    let here = c.place_in-place.ensures.place ∙ (λ i. place_of c.args.no (map entry_of (c.deref.ensures.value i))) in
    let found = (λ i. stands_at (sym here i) c.args.no (map entry_of (sym c.deref-2.ensures.value i))) ∙ sym c.is_at.ensures ∙ c.if-is_at.true in
    let within = kept_within xs p c.args.no ((λ i. stands_at p c.args.no (map entry_of (sym c.deref-2.ensures.value i))) ∙ sym c.is_at.ensures ∙ c.if-is_at.true) in
    ap Some (c.deref-then-is_at.ensures ∙ (λ i. (c.index.ensures i).1.value) ∙ ap (λ (e : Entry). e.1) (sym (kept_at xs p c.index.result.now no_entry within)) ∙ ap (λ (q : ℕ). (get_or es q no_entry).1) here)
    ∙ sym (found_at es 0 (2 ^ 32) c.args.no no_entry c.self.invariant.rising found) ∙ ap (λ (b : Listed). change_of c.args.no b.entries) c.self.view_is

pub returns-else-is_at-clause-is : goal.returns-else-is_at-clause-is
returns-else-is_at-clause-is c =
    let es = map entry_of c.self.inside.items.items in
    let here = c.place_in-place.ensures.place ∙ (λ i. place_of c.args.no (map entry_of (c.deref.ensures.value i))) in
    let none = (λ i. stands_at (sym here i) c.args.no (map entry_of (sym c.deref-2.ensures.value i))) ∙ sym c.is_at.ensures ∙ c.if-is_at.false in
    sym (none_at es 0 (2 ^ 32) c.args.no c.self.invariant.rising none) ∙ ap (λ (b : Listed). change_of c.args.no b.entries) c.self.view_is
