-- Neighbours of an irregular series that fit one page, among the spans of all.
use Rattle.std.proofs.Common.{◌≡◌, ℕ, ◌+◌, ◌-◌, ◌<◌, ◌≤◌, min, Option, Some, None, MatchOption, List, length, get_or, sym, ap, subst, ◌∙◌, arith, inl, inr}
use Rattle.std.specs.List.{AllAdjacentBelow}
use Rattle.std.proofs.lemmas.Bool.{cases_lt}
use Rattle.ts_model.specs.Definitions.{Definitions}
use Rattle.ts_volume.specs.FirstBad.{IsLeast}
use Rattle.ts_container.specs.declared.span.Span.{Span}
use Rattle.ts_container.specs.Spans.{AreMore, AreDense, IsThinPair, IsThin}
use Rattle.ts_container.specs.Lower.{lower_page}
use Rattle.ts_container.proofs.ClashLemmas.{placed, at_same, get_any}

-- two that have more than one page has room for don't fit one
never_thin : (d : Definitions) (a b : Span) → AreMore d a b → IsThinPair d a b → ⊥
never_thin d a b more pair = let past = more pair.series pair.lies pair.heading pair.columns in let fit = pair.fit in omega (arith, past, fit)

-- a pair of two places
at_places : (d : Definitions) (spans : List Span) (page : ℕ) (thin : IsThin d spans page) (e : Span) → IsThinPair d (get_or spans thin.at e) (get_or spans (thin.at + 1) e)
at_places d spans page thin e =
    let inside = thin.within in
    subst (λ (p : Span × Span). IsThinPair d p.0 p.1)
    (λ i. (sym (placed spans thin.at thin.a e (omega (arith, inside)) thin.first) i, sym (placed spans (thin.at + 1) thin.b e inside thin.second) i)) thin.pair

pub none_thin : (d : Definitions) (spans : List Span) → AreDense d spans → (page : ℕ) → IsThin d spans page → ⊥
unfolding at_places never_thin
none_thin d spans dense page thin = never_thin d (get_or spans thin.at thin.a) (get_or spans (thin.at + 1) thin.a) (dense thin.at thin.a thin.within) (at_places d spans page thin thin.a)

-- the least page of the neighbours below some place
pub record IsLeastThin (d : Definitions) (spans : List Span) (i page : ℕ) : Type 0 where
  pub has : IsThin d spans page
  pub least : (other : ℕ) (thin : IsThin d spans other) → thin.at + 1 < i → page ≤ other

abbrev pub ThinTo : Definitions → List Span → ℕ → Option ℕ → Type 0
ThinTo d spans i least = MatchOption least (AllAdjacentBelow (AreMore d) spans i) (IsLeastThin d spans i)

pub thin_none : (d : Definitions) (spans : List Span) → ThinTo d spans 1 None
thin_none d spans = λ k e within. absurd (omega (arith, within))

module _ (d : Definitions) (spans : List Span) (i : ℕ) (low : 1 ≤ i) (inside : i < length spans) where
  abbrev before : Span → Span
  before e = get_or spans (i - 1) e

  abbrev here : Span → Span
  here e = get_or spans i e

  next : i - 1 + 1 ≡ i
  next = omega (arith, low)

  -- a thin pair is of lower places, or this
  last_thin : (other : ℕ) (thin : IsThin d spans other) → thin.at + 1 < i + 1 → (thin.at + 1 < i → ⊥) → thin.at ≡ i - 1
  last_thin other thin below not = omega (arith, below, not_lt (thin.at + 1) i not) where
    not_lt : (a b : ℕ) → (a < b → ⊥) → b ≤ a
    not_lt a b never = elim (cases_lt a b) [ inl less ↦ absurd (never less) | inr past ↦ past ]

  page_of_last : (other : ℕ) (thin : IsThin d spans other) → thin.at ≡ i - 1 → (e : Span) → other ≡ (before e).page
  page_of_last other thin same e =
      thin.is ∙ ap (λ (a : Span). a.page) (sym (placed spans thin.at thin.a e (let w = thin.within in omega (arith, w)) thin.first)) ∙ ap (λ (n : ℕ). (get_or spans n e).page) same

  pair_of_last : (other : ℕ) (thin : IsThin d spans other) → thin.at ≡ i - 1 → (e : Span) → IsThinPair d (before e) (here e)
  unfolding next
  pair_of_last other thin same e =
      subst (λ (p : ℕ × ℕ). IsThinPair d (get_or spans p.0 e) (get_or spans p.1 e)) (λ j. (same j, (let z : thin.at + 1 ≡ i = omega (arith, same, low) in z) j)) (at_places d spans other thin e)

  more_adjacent : AllAdjacentBelow (AreMore d) spans i → ((e : Span) → AreMore d (before e) (here e)) → AllAdjacentBelow (AreMore d) spans (i + 1)
  more_adjacent all more k e within = elim (cases_lt (k + 1) i) [
    | inl less ↦ all k e less
    | inr past ↦ subst (λ (p : ℕ × ℕ). AreMore d (get_or spans p.0 e) (get_or spans p.1 e)) (λ j. ((let z : i - 1 ≡ k = omega (arith, past, within) in z) j, (let z : i ≡ k + 1 = omega (arith, past, within) in z) j)) (more e)
  ]

  this_thin : (page : ℕ) → ((e : Span) → (page ≡ (before e).page) × IsThinPair d (before e) (here e)) → (e : Span) → IsThin d spans page
  unfolding next
  this_thin page pair e =
      record {
        at = i - 1;
        a = before e;
        b = here e;
        within = omega (arith, inside, low);
        first = at_same spans (i - 1) e (omega (arith, inside, low));
        second = subst (λ (n : ℕ). get_or spans n (here e) ≡ here e) (sym next) (at_same spans i e inside);
        is = (pair e).0;
        pair = (pair e).1;
      }

  pub thin_more : (e : Span) (least r : Option ℕ) → MatchOption r ((e : Span) → AreMore d (before e) (here e)) (λ page. (e : Span) → (page ≡ (before e).page) × IsThinPair d (before e) (here e))
      → ThinTo d spans i least → ThinTo d spans (i + 1) (lower_page least r)
  unfolding last_thin page_of_last pair_of_last more_adjacent this_thin
  thin_more e None None more so_far = more_adjacent so_far more
  thin_more e None (Some page) pair so_far = record {
    has = this_thin page pair e;
    least = λ other thin below. elim (cases_lt (thin.at + 1) i) [
      | inl less ↦ absurd (never_thin d (get_or spans thin.at e) (get_or spans (thin.at + 1) e) (so_far thin.at e less) (at_places d spans other thin e))
      | inr past ↦
          let same : thin.at ≡ i - 1 = omega (arith, past, below) in
          omega (arith, page_of_last other thin same e, (pair e).0)
    ];
  }
  thin_more e (Some page) None more so_far = record {
    has = so_far.has;
    least = λ other thin below. elim (cases_lt (thin.at + 1) i) [
      | inl less ↦ so_far.least other thin less
      | inr past ↦
          let same : thin.at ≡ i - 1 = omega (arith, past, below) in
          absurd (never_thin d (before e) (here e) (more e) (pair_of_last other thin same e))
    ];
  }
  thin_more e (Some first) (Some second) pair so_far = record {
    has = elim (cases_lt first second) [
      | inl less ↦ subst (IsThin d spans) (let z : first ≡ min first second = omega (arith, less) in z) so_far.has
      | inr past ↦ subst (IsThin d spans) (let z : second ≡ min first second = omega (arith, past) in z) (this_thin second pair e)
    ];
    least = λ other thin below. elim (cases_lt (thin.at + 1) i) [
      | inl less ↦ let low' = so_far.least other thin less in omega (arith, low')
      | inr past ↦
          let same : thin.at ≡ i - 1 = omega (arith, past, below) in
          omega (arith, page_of_last other thin same e, (pair e).0)
    ];
  }

  -- as the code reads them
  pub thin_step : (e : Span) (least r : Option ℕ) → MatchOption r (AreMore d (before e) (here e)) (λ page. (page ≡ (before e).page) × IsThinPair d (before e) (here e)) → ThinTo d spans i least → ThinTo d spans (i + 1) (lower_page least r)
  thin_step e least r found so_far = thin_more e least r (any r found) so_far where
    any : (r : Option ℕ) → MatchOption r (AreMore d (before e) (here e)) (λ page. (page ≡ (before e).page) × IsThinPair d (before e) (here e))
        → MatchOption r ((x : Span) → AreMore d (before x) (here x)) (λ page. (x : Span) → (page ≡ (before x).page) × IsThinPair d (before x) (here x))
    any None more = λ x. subst (λ (p : Span × Span). AreMore d p.0 p.1) (λ j. (get_any spans (i - 1) e x (omega (arith, inside, low)) j, get_any spans i e x inside j)) more
    any (Some page) pair = λ x. subst (λ (p : Span × Span). (page ≡ p.0.page) × IsThinPair d p.0 p.1) (λ j. (get_any spans (i - 1) e x (omega (arith, inside, low)) j, get_any spans i e x inside j)) pair

pub thin_all : (d : Definitions) (spans : List Span) (i : ℕ) (least : Option ℕ) → length spans ≤ i → ThinTo d spans i least → MatchOption least (AreDense d spans) (IsLeast (IsThin d spans))
thin_all d spans i None past so_far = λ k e within. so_far k e (omega (arith, within, past))
thin_all d spans i (Some page) past so_far = record { has = so_far.has; least = λ other thin. so_far.least other thin (let w = thin.within in omega (arith, w, past)) }
