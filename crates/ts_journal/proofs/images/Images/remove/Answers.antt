use Rattle.std.proofs.Common.{◌≡◌, ◌<◌, ◌^◌, ℕ, Some, None, List, length, map, get_or, refl, sym, ap, subst, ◌∙◌, arith}
use Rattle.std.proofs.lemmas.Bool.{eqb-true}
use Rattle.ts_journal.specs.Journal.{Entry, IsWhole, IsBatch, change_of}
use Rattle.ts_journal.specs.Place.{place_of, stands_at}
use Rattle.ts_journal.specs.Stored.{Listed, entry_of, Sets}
use Rattle.ts_journal.proofs.BatchLemmas.{no_entry, stands_at-is, found_at, none_at}
use Rattle.ts_journal.proofs.StoredLemmas.{whole_at, kept_length, kept_within, kept_at, kept_removed, removed_batch, removed_sets}
use Rattle.ts_journal.proofs.images.Images.remove.Goals as goal

pub remove-requires : goal.remove-requires
remove-requires c =
    let within = kept_within c.deref-2.result.now c.place_in-place.result c.args.no (sym c.is_at.ensures ∙ c.if-is_at.true) in
    omega (arith, within, c.deref-2.ensures.len)

pub invariant_of-self : goal.invariant_of-self
invariant_of-self c =
    let xs = c.self.inside.items.items in
    let es = map entry_of xs in
    let p = c.place_in-place.result in
    let test = (λ i. stands_at p c.args.no (map entry_of (sym c.deref-2.ensures.value i))) ∙ sym c.is_at.ensures ∙ c.if-is_at.true in
    let within = kept_within xs p c.args.no test in
    let inside : p < length es = omega (arith, within, kept_length xs) in
    let is : (get_or es p no_entry).0 ≡ c.args.no = eqb-true _ _ (sym (stands_at-is es p c.args.no no_entry inside) ∙ test) in
    let left = ap (map entry_of) c.remove.ensures.by_index.2 ∙ kept_removed xs p in
    subst (λ (l : List Entry). IsBatch l) (sym left) (removed_batch es p c.args.no no_entry inside c.self.invariant)

pub returns-then-is_at-clause-value : goal.returns-then-is_at-clause-value
returns-then-is_at-clause-value c =
    let xs = c.self.inside.items.items in
    let es = map entry_of xs in
    let p = c.place_in-place.result in
    let test = (λ i. stands_at p c.args.no (map entry_of (sym c.deref-2.ensures.value i))) ∙ sym c.is_at.ensures ∙ c.if-is_at.true in
    let within = kept_within xs p c.args.no test in
    let inside : p < length es = omega (arith, within, kept_length xs) in
    let item = (λ i. (c.remove.ensures.value i).1.value) ∙ ap (λ (e : Entry). e.1) (sym (kept_at xs p c.remove.result no_entry within)) in
    let here = c.place_in-place.ensures.place ∙ (λ i. place_of c.args.no (map entry_of (c.deref.ensures.value i))) in
    let found = ap (λ (q : ℕ). stands_at q c.args.no es) (sym here) ∙ test in
    ap Some (item ∙ ap (λ (q : ℕ). (get_or es q no_entry).1) here) ∙ sym (found_at es 0 (2 ^ 32) c.args.no no_entry c.self.invariant.rising found) ∙ ap (λ (b : Listed). change_of c.args.no b.entries) c.self.view_is

pub returns-then-is_at-clause-whole : goal.returns-then-is_at-clause-whole
returns-then-is_at-clause-whole c =
    let xs = c.self.inside.items.items in
    let es = map entry_of xs in
    let p = c.place_in-place.result in
    let test = (λ i. stands_at p c.args.no (map entry_of (sym c.deref-2.ensures.value i))) ∙ sym c.is_at.ensures ∙ c.if-is_at.true in
    let within = kept_within xs p c.args.no test in
    let inside : p < length es = omega (arith, within, kept_length xs) in
    let item = (λ i. (c.remove.ensures.value i).1.value) ∙ ap (λ (e : Entry). e.1) (sym (kept_at xs p c.remove.result no_entry within)) in
    subst IsWhole (sym item) (whole_at es p no_entry c.self.invariant.whole inside)

pub returns-then-is_at-clause-rest : goal.returns-then-is_at-clause-rest
returns-then-is_at-clause-rest c =
    let xs = c.self.inside.items.items in
    let es = map entry_of xs in
    let p = c.place_in-place.result in
    let test = (λ i. stands_at p c.args.no (map entry_of (sym c.deref-2.ensures.value i))) ∙ sym c.is_at.ensures ∙ c.if-is_at.true in
    let within = kept_within xs p c.args.no test in
    let inside : p < length es = omega (arith, within, kept_length xs) in
    let is : (get_or es p no_entry).0 ≡ c.args.no = eqb-true _ _ (sym (stands_at-is es p c.args.no no_entry inside) ∙ test) in
    let left = ap (map entry_of) c.remove.ensures.by_index.2 ∙ kept_removed xs p in
    let sets = subst (Sets c.args.no None es) (sym left) (removed_sets es p c.args.no no_entry inside c.self.invariant is) in
    subst (λ (b : Listed). Sets c.args.no None b.entries (map entry_of c.remove.new.self.items)) c.self.view_is sets

pub returns-else-is_at-clause-value : goal.returns-else-is_at-clause-value
returns-else-is_at-clause-value c =
    let es = map entry_of c.self.inside.items.items in
    let here = c.place_in-place.ensures.place ∙ (λ i. place_of c.args.no (map entry_of (c.deref.ensures.value i))) in
    let none = (λ i. stands_at (sym here i) c.args.no (map entry_of (sym c.deref-2.ensures.value i))) ∙ sym c.is_at.ensures ∙ c.if-is_at.false in
    sym (none_at es 0 (2 ^ 32) c.args.no c.self.invariant.rising none) ∙ ap (λ (b : Listed). change_of c.args.no b.entries) c.self.view_is

pub returns-else-is_at-clause-rest : goal.returns-else-is_at-clause-rest
returns-else-is_at-clause-rest c =
    let es = map entry_of c.self.inside.items.items in
    let here = c.place_in-place.ensures.place ∙ (λ i. place_of c.args.no (map entry_of (c.deref.ensures.value i))) in
    let none = (λ i. stands_at (sym here i) c.args.no (map entry_of (sym c.deref-2.ensures.value i))) ∙ sym c.is_at.ensures ∙ c.if-is_at.false in
    record {
      at = ap (λ (b : Listed). change_of c.args.no b.entries) (sym c.self.view_is) ∙ none_at es 0 (2 ^ 32) c.args.no c.self.invariant.rising none;
      others = λ k other. refl;
    }
