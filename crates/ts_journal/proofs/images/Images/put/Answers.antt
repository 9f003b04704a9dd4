use Rattle.std.proofs.Common.{List, map, sym, ap, subst, ◌∙◌, arith}
use Rattle.ts_journal.specs.Journal.{Entry, put, IsBatch}
use Rattle.ts_journal.specs.Place.{place_of, stands_at}
use Rattle.ts_journal.specs.Stored.{Listed, entry_of}
use Rattle.ts_journal.proofs.BatchLemmas.{put_batch}
use Rattle.ts_journal.proofs.StoredLemmas.{kept_within, kept_found, kept_new}
use Rattle.ts_journal.proofs.images.Images.put.Goals as goal

pub index_mut-requires : goal.index_mut-requires
index_mut-requires c =
    let within = kept_within c.deref-2.result.now c.place_in-place.result c.args.no (sym c.is_at.ensures ∙ c.if-is_at.true) in
    omega (arith, within, c.deref-2.ensures.len)

pub invariant_of-self : goal.invariant_of-self
invariant_of-self c =
    let xs = c.self.inside.items.items in
    let here = c.place_in-place.ensures.place ∙ (λ i. place_of c.args.no (map entry_of (c.deref.ensures.value i))) in
    let found = (λ i. stands_at (sym here i) c.args.no (map entry_of (sym c.deref-2.ensures.value i))) ∙ sym c.is_at.ensures ∙ c.if-is_at.true in
    subst (λ (l : List Entry). IsBatch l) (sym (kept_found xs c.place_in-place.result c.args.no c.args.image here found))
    (put_batch (map entry_of xs) c.args.no c.args.image.value c.self.invariant (omega arith) c.requires)

pub returns-then-is_at-clause-ok : goal.returns-then-is_at-clause-ok
returns-then-is_at-clause-ok c =
    let xs = c.self.inside.items.items in
    let here = c.place_in-place.ensures.place ∙ (λ i. place_of c.args.no (map entry_of (c.deref.ensures.value i))) in
    let found = (λ i. stands_at (sym here i) c.args.no (map entry_of (sym c.deref-2.ensures.value i))) ∙ sym c.is_at.ensures ∙ c.if-is_at.true in
    kept_found xs c.place_in-place.result c.args.no c.args.image here found ∙ ap (λ (b : Listed). put c.args.no c.args.image.value b.entries) c.self.view_is

pub invariant_of-self-2 : goal.invariant_of-self-2
invariant_of-self-2 c =
    let xs = c.self.inside.items.items in
    let here = c.place_in-place.ensures.place ∙ (λ i. place_of c.args.no (map entry_of (c.deref.ensures.value i))) in
    let none = (λ i. stands_at (sym here i) c.args.no (map entry_of (sym c.deref-2.ensures.value i))) ∙ sym c.is_at.ensures ∙ c.if-is_at.false in
    subst (λ (l : List Entry). IsBatch l) (sym (ap (map entry_of) c.in_ok-insert.ensures.items ∙ kept_new xs c.place_in-place.result c.args.no c.args.image here none))
    (put_batch (map entry_of xs) c.args.no c.args.image.value c.self.invariant (omega arith) c.requires)

pub returns-clause-ok : goal.returns-clause-ok
returns-clause-ok c =
    let xs = c.self.inside.items.items in
    let here = c.place_in-place.ensures.place ∙ (λ i. place_of c.args.no (map entry_of (c.deref.ensures.value i))) in
    let none = (λ i. stands_at (sym here i) c.args.no (map entry_of (sym c.deref-2.ensures.value i))) ∙ sym c.is_at.ensures ∙ c.if-is_at.false in
    ap (map entry_of) c.in_ok-insert.ensures.items ∙ kept_new xs c.place_in-place.result c.args.no c.args.image here none ∙ ap (λ (b : Listed). put c.args.no c.args.image.value b.entries) c.self.view_is
