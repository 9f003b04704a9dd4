use Rattle.std.proofs.Common.{◌≡◌, ℕ, List, [], ◌<◌, ◌+◌, ◌-◌, take, drop, refl, sym, ap, ◌∙◌, arith, inl, inr, Option, Some, None, false, is_some, length-drop}
use Rattle.std.proofs.lemmas.Bool.{cases_lt}
use Rattle.ts_items.specs.Items.{items_from, place_from}
use Rattle.ts_items.specs.Reader.{items_of}
use Rattle.ts_items.specs.declared.reader.Cut.{Cut}
use Rattle.ts_items.proofs.RunLemmas.{items_behind, place_behind, none_earlier, rest_whole}
use Rattle.ts_items.proofs.reader.Reader.feed.Goals as goal

no_cut : (o : Option Cut) (text : List ℕ) → is_some o ≡ false → (items_of o text ≡ []) × (o ≡ None)
no_cut None text h = (refl, refl)
no_cut (Some cut) text h = absurd (cc)

-- no item ends before these bytes
none_before : (place : Option (List ℕ)) (s : List ℕ) (taken n k : ℕ) → items_from place (take taken s) ≡ [] → ((j : ℕ) → j < n → items_from (place_from place (take taken s)) (take j (drop taken s)) ≡ []) → k < taken + n → items_from place (take k s) ≡ []
none_before place s taken n k none first less = elim (cases_lt k taken) [
  | inl before ↦ none_earlier place s k taken (omega arith) none
  | inr past ↦
      let size : taken + (k - taken) ≡ k = omega arith in
      ap (λ (m : ℕ). items_from place (take m s)) (sym size) ∙ items_behind place s taken (k - taken) none ∙ first (k - taken) (omega arith)
]

pub returns-then-is_some-clause-items : goal.returns-then-is_some-clause-items
returns-then-is_some-clause-items c =
    items_behind c.args.self.now.place c.args.piece.now c.loop-taken.taken c.advance-fed.result.taken c.loop-taken.invariant.none
    ∙ rw c.loop-taken.invariant.place (rw (rest_whole c.args.piece.now c.loop-taken.taken) at c.advance-fed.ensures.items)

pub returns-then-is_some-clause-place : goal.returns-then-is_some-clause-place
returns-then-is_some-clause-place c =
    place_behind c.args.self.now.place c.args.piece.now c.loop-taken.taken c.advance-fed.result.taken
    ∙ rw c.loop-taken.invariant.place (rw (rest_whole c.args.piece.now c.loop-taken.taken) at c.advance-fed.ensures.place)

pub returns-then-is_some-clause-first : goal.returns-then-is_some-clause-first
returns-then-is_some-clause-first c = λ k less.
    none_before c.args.self.now.place c.args.piece.now c.loop-taken.taken c.advance-fed.result.taken k c.loop-taken.invariant.none (rw c.loop-taken.invariant.place (rw (rest_whole c.args.piece.now c.loop-taken.taken) at c.advance-fed.ensures.first)) less

pub loop-taken-preserved : goal.loop-taken-preserved
loop-taken-preserved c =
    let gone = no_cut c.advance-fed.result.cut c.advance-fed.new.self.text (sym c.is_some.ensures ∙ c.if-is_some.false) in
    record {
      within = omega (arith, c.advance-fed.ensures.taken, length-drop c.loop-taken.taken c.args.piece.now);
      none = items_behind c.args.self.now.place c.args.piece.now c.loop-taken.taken c.advance-fed.result.taken c.loop-taken.invariant.none ∙ rw c.loop-taken.invariant.place ((rw (rest_whole c.args.piece.now c.loop-taken.taken) at c.advance-fed.ensures.items) ∙ gone.0);
      place = place_behind c.args.self.now.place c.args.piece.now c.loop-taken.taken c.advance-fed.result.taken ∙ rw c.loop-taken.invariant.place (rw (rest_whole c.args.piece.now c.loop-taken.taken) at c.advance-fed.ensures.place);
      text = rw gone.1 at c.advance-fed.ensures.text;
    }

pub returns-clause-first : goal.returns-clause-first
returns-clause-first c = λ k less. none_earlier c.args.self.now.place c.args.piece.now k c.loop-taken.taken (omega arith) c.loop-taken.invariant.none
