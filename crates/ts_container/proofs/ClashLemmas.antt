-- Pages of one series that overlap, among the spans of all, sorted.
use Rattle.std.specs.Prelude.{All, Contains}
use Rattle.std.proofs.Common.{◌≡◌, ℕ, zero, suc, ◌+◌, ◌<◌, ◌≤◌, Option, Some, None, List, [], ◌∷◌, length, get_or, refl, sym, ap, subst, ◌∙◌, arith, inl, inr, ◌<ℤ◌, ◌≤ℤ◌}
use Rattle.std.proofs.lemmas.Bool.{cases_lt, cases_eq}
use Rattle.std.proofs.lemmas.Int.{by_lt_z, ints}
use Rattle.ts_container.specs.declared.span.Span.{Span}
use Rattle.ts_container.specs.Spans.{IsSpan, Follows, AreSorted, AreDifferent, IsApart, AreApart, IsClash, HasClashTo, AreApartTo}
use Rattle.ts_volume.specs.FirstBad.{IsLeast}
use Rattle.ts_container.proofs.SettledLemmas.{at_any}

-- an element by its place, where it is given
pub placed : (spans : List Span) (i : ℕ) (a d : Span) → i < length spans → get_or spans i a ≡ a → get_or spans i d ≡ a
placed spans i a d within is = at_any spans i a within is d

-- an element is there whatever may stand in its place
pub get_any : (spans : List Span) (i : ℕ) (d e : Span) → i < length spans → get_or spans i d ≡ get_or spans i e
get_any [] i d e within = absurd (omega (arith, within))
get_any (a ∷ spans) zero d e within = refl
get_any (a ∷ spans) (suc i) d e within = get_any spans i d e (omega (arith, within))

pub at_same : (spans : List Span) (i : ℕ) (d : Span) → i < length spans → get_or spans i (get_or spans i d) ≡ get_or spans i d
at_same spans i d within = get_any spans i (get_or spans i d) d within

-- an element stands in the list
pub stands_at : (spans : List Span) (i : ℕ) (d : Span) → i < length spans → Contains spans (get_or spans i d)
stands_at spans i d within = (i, within, at_same spans i d within)

-- spans at two places, by any that may stand there
pub apart_any : (spans : List Span) (i j : ℕ) (d e : Span) → i < length spans → j < length spans → IsApart (get_or spans i d) (get_or spans j d) → IsApart (get_or spans i e) (get_or spans j e)
apart_any spans i j d e first second = subst (λ (p : Span × Span). IsApart p.0 p.1) (λ k. (get_any spans i d e first k, get_any spans j d e second k))

follows_on : (a b c : Span) → Follows a b → Follows b c → Follows a c
follows_on a b c first second = record {
  slots = (let x = first.slots in let y = second.slots in omega (arith, x, y));
  stamps = λ same.
      let x = first.slots in
      let y = second.slots in
      let p = first.stamps (omega (arith, x, y, same)) in
      let q = second.stamps (omega (arith, x, y, same)) in
      omega (arith, ints, p, q);
}

-- sorted spans are so at any two places
pub sorted_pairs : (spans : List Span) → AreSorted spans → (i j : ℕ) (d : Span) → i < j → j < length spans → Follows (get_or spans i d) (get_or spans j d)
sorted_pairs spans order i zero d before inside = absurd (omega (arith, before))
sorted_pairs spans order i (suc j) d before inside =
    let next : suc j ≡ j + 1 = omega arith in
    let step : Follows (get_or spans j d) (get_or spans (suc j) d) = subst (λ (n : ℕ). Follows (get_or spans j d) (get_or spans n d)) (sym next) (order j d (omega (arith, inside))) in
    elim (cases_lt i j) [
      | inl less ↦ follows_on (get_or spans i d) (get_or spans j d) (get_or spans (suc j) d) (sorted_pairs spans order i j d less (omega (arith, inside))) step
      | inr past ↦ let same : i ≡ j = omega (arith, past, before) in subst (λ (n : ℕ). Follows (get_or spans n d) (get_or spans (suc j) d)) (sym same) step
    ]

-- and those that are apart from the next are so from each of their series
pub apart_pairs : (spans : List Span) → AreSorted spans → All IsSpan spans → AreApart spans → (i j : ℕ) (d : Span) → i < j → j < length spans → (get_or spans i d).slot ≡ (get_or spans j d).slot → (get_or spans i d).last <ℤ (get_or spans j d).first
apart_pairs spans order ends apart i zero d before inside same = absurd (omega (arith, before))
apart_pairs spans order ends apart i (suc j) d before inside same =
    let next : suc j ≡ j + 1 = omega arith in
    let step : IsApart (get_or spans j d) (get_or spans (suc j) d) = subst (λ (n : ℕ). IsApart (get_or spans j d) (get_or spans n d)) (sym next) (apart j d (omega (arith, inside))) in
    let rise : Follows (get_or spans j d) (get_or spans (suc j) d) = sorted_pairs spans order j (suc j) d (omega arith) inside in
    elim (cases_lt i j) [
      | inl less ↦
          let own = sorted_pairs spans order i j d less (omega (arith, inside)) in
          let low = own.slots in
          let high = rise.slots in
          let here : (get_or spans i d).slot ≡ (get_or spans j d).slot = omega (arith, low, high, same) in
          let there : (get_or spans j d).slot ≡ (get_or spans (suc j) d).slot = omega (arith, low, high, same) in
          let first = apart_pairs spans order ends apart i j d less (omega (arith, inside)) here in
          let middle = ends j d (omega (arith, inside)) in
          let last = step there in
          omega (arith, ints, first, middle, last)
      | inr past ↦
          let e : i ≡ j = omega (arith, past, before) in
          subst (λ (n : ℕ). (get_or spans n d).last <ℤ (get_or spans (suc j) d).first) (sym e) (step (ap (λ (n : ℕ). (get_or spans n d).slot) (sym e) ∙ same))
    ]

-- a clash is one of two places
pub clash_places : (spans : List Span) (limit : ℕ) → ((i j : ℕ) (d : Span) → i < j → j < length spans → (get_or spans i d).page ≤ limit → (get_or spans j d).page ≤ limit → (get_or spans i d).slot ≡ (get_or spans j d).slot → (get_or spans i d).last <ℤ (get_or spans j d).first)
    → AreApartTo limit spans
clash_places spans limit apart page clash =
    elim (cases_lt limit page) [
      | inl past ↦ past
      | inr within ↦
          let a = clash.lower in
          let b = clash.upper in
          let i = clash.first.0 in
          let j = clash.second.0 in
          let a_is : get_or spans i a ≡ a = clash.first.2 in
          let b_is : get_or spans j b ≡ b = clash.second.2 in
          let b_too : get_or spans j a ≡ b = placed spans j b a clash.second.1 b_is in
          let below = clash.below in
          let is = clash.is in
          let low : a.page ≤ limit = omega (arith, within, below, is) in
          let high : b.page ≤ limit = omega (arith, within, is) in
          elim (cases_lt i j) [
            | inl less ↦
                let before = apart i j a less clash.second.1 (subst (λ (x : Span). x.page ≤ limit) (sym a_is) low) (subst (λ (x : Span). x.page ≤ limit) (sym b_too) high) (ap (λ (x : Span). x.slot) a_is ∙ clash.series ∙ sym (ap (λ (x : Span). x.slot) b_too)) in
                let ends = clash.ends in
                let z : a.last <ℤ b.first = subst (λ (p : Span × Span). p.0.last <ℤ p.1.first) (λ k. (a_is k, b_too k)) before in
                absurd (omega (arith, ints, ends, z))
            | inr past ↦ elim (cases_eq i j) [
              | inl same ↦
                  let e : a ≡ b = sym a_is ∙ ap (λ (n : ℕ). get_or spans n a) same ∙ b_too in
                  absurd (omega (arith, below, ap (λ (x : Span). x.page) e))
              | inr other ↦
                  let before = apart j i a (omega (arith, past, other)) clash.first.1 (subst (λ (x : Span). x.page ≤ limit) (sym b_too) high) (subst (λ (x : Span). x.page ≤ limit) (sym a_is) low) (ap (λ (x : Span). x.slot) b_too ∙ sym clash.series ∙ sym (ap (λ (x : Span). x.slot) a_is)) in
                  let begins = clash.begins in
                  let z : b.last <ℤ a.first = subst (λ (p : Span × Span). p.0.last <ℤ p.1.first) (λ k. (b_too k, a_is k)) before in
                  absurd (omega (arith, ints, begins, z))
            ]
          ]
    ]

-- so none clash where all are apart
pub none_clash : (spans : List Span) → AreSorted spans → All IsSpan spans → AreApart spans → (page : ℕ) → IsClash spans page → ⊥
none_clash spans order ends apart page clash =
    let past = clash_places spans page (λ i j d before inside low high same. apart_pairs spans order ends apart i j d before inside same) page clash in
    omega (arith, past)

-- where one isn't apart from a later one, one of them clashes
not_apart : (a b : Span) → (IsApart a b → ⊥) → (a.slot ≡ b.slot) × (b.first ≤ℤ a.last)
not_apart a b near =
    elim (cases_eq a.slot b.slot) [
      | inl same ↦ (same, by_lt_z a.last b.first (λ before. absurd (near (λ _. before))) (λ behind. behind))
      | inr other ↦ absurd (near (λ same. absurd (other same)))
    ]

pub clash_at : (spans : List Span) (limit i j : ℕ) (d : Span) → AreSorted spans → All IsSpan spans → AreDifferent spans → i < j → j < length spans → (get_or spans i d).page ≤ limit → (get_or spans j d).page ≤ limit
    → (IsApart (get_or spans i d) (get_or spans j d) → ⊥) → HasClashTo limit spans
clash_at spans limit i j d order ends different before inside low high near =
    let a = get_or spans i d in
    let b = get_or spans j d in
    let meet = not_apart a b near in
    let rise = (sorted_pairs spans order i j d before inside).stamps meet.0 in
    let end_a = ends i d (omega (arith, before, inside)) in
    let end_b = ends j d inside in
    let other = different i j d before inside in
    let at_a = stands_at spans i d (omega (arith, before, inside)) in
    let at_b = stands_at spans j d inside in
    let back = meet.1 in
    let on : a.first ≤ℤ b.last = omega (arith, ints, rise, end_b) in
    elim (cases_lt a.page b.page) [
      | inl below ↦ (b.page, record { lower = a; upper = b; first = at_a; second = at_b; below = below; is = refl; series = meet.0; begins = on; ends = back }, high)
      | inr past ↦ (a.page, record { lower = b; upper = a; first = at_b; second = at_a; below = (let z : b.page < a.page = omega (arith, past, other) in z); is = refl; series = sym meet.0; begins = back; ends = on }, low)
    ]

-- pages up to 0 can't clash
pub none_low : (spans : List Span) → AreApartTo 0 spans
none_low spans page clash = let below = clash.below in let is = clash.is in omega (arith, below, is)

-- the least page that clashes is the first up to which one does
pub least_clash : (spans : List Span) (low high : ℕ) → AreApartTo low spans → HasClashTo high spans → high ≤ low + 1 → IsLeast (IsClash spans) high
least_clash spans low high apart (page, clash, within) next =
    let past = apart page clash in
    let same : page ≡ high = omega (arith, past, within, next) in
    record {
      has = subst (IsClash spans) same clash;
      least = λ other found. let above = apart other found in omega (arith, above, next);
    }

pub low_below : (spans : List Span) (low high : ℕ) → AreApartTo low spans → HasClashTo high spans → low < high
low_below spans low high apart (page, clash, within) = let past = apart page clash in omega (arith, past, within)

-- so many spans were passed over: those of pages up to a number are apart, and none ends behind the last of them
pub record PassedTo (limit i : ℕ) (spans : List Span) (before : Option ℕ) : Type 0 where
  pub there : (k : ℕ) → before ≡ Some k → (k < i) × ((d : Span) → (get_or spans k d).page ≤ limit)
  pub ends : (k : ℕ) (d : Span) → k < i → (get_or spans k d).page ≤ limit
      → (m : ℕ) × (before ≡ Some m) × ((get_or spans k d).slot ≤ (get_or spans m d).slot) × ((get_or spans k d).slot ≡ (get_or spans m d).slot → (get_or spans k d).last ≤ℤ (get_or spans m d).last)
  pub apart : (j k : ℕ) (d : Span) → j < k → k < i → (get_or spans j d).page ≤ limit → (get_or spans k d).page ≤ limit → (get_or spans j d).slot ≡ (get_or spans k d).slot → (get_or spans j d).last <ℤ (get_or spans k d).first

pub passed_none : (limit : ℕ) (spans : List Span) → PassedTo limit 0 spans None
passed_none limit spans = record {
  there = λ k no. absurd (cc);
  ends = λ k d below low. absurd (omega (arith, below));
  apart = λ j k d before below first second same. absurd (omega (arith, below));
}

pub passed_over : (limit i : ℕ) (spans : List Span) (before : Option ℕ) → ((d : Span) → limit < (get_or spans i d).page) → PassedTo limit i spans before → PassedTo limit (i + 1) spans before
passed_over limit i spans before over passed = record {
  there = λ k is. let one = passed.there k is in (let low = one.0 in omega (arith, low), one.1);
  ends = λ k d below low. elim (cases_lt k i) [
    | inl less ↦ passed.ends k d less low
    | inr past ↦ let e : k ≡ i = omega (arith, past, below) in absurd (let high = over d in let own : (get_or spans i d).page ≤ limit = subst (λ (n : ℕ). (get_or spans n d).page ≤ limit) e low in omega (arith, high, own))
  ];
  apart = λ j k d before' below first second same. elim (cases_lt k i) [
    | inl less ↦ passed.apart j k d before' less first second same
    | inr past ↦ let e : k ≡ i = omega (arith, past, below) in absurd (let high = over d in let own : (get_or spans i d).page ≤ limit = subst (λ (n : ℕ). (get_or spans n d).page ≤ limit) e second in omega (arith, high, own))
  ];
}

pub passed_more : (limit i : ℕ) (spans : List Span) (before : Option ℕ) → AreSorted spans → All IsSpan spans → i < length spans → ((d : Span) → (get_or spans i d).page ≤ limit)
    → ((m : ℕ) → before ≡ Some m → (d : Span) → IsApart (get_or spans m d) (get_or spans i d)) → PassedTo limit i spans before → PassedTo limit (i + 1) spans (Some i)
passed_more limit i spans before order ends inside own near passed = record {
  there = λ k is. let e : i ≡ k = cc in (omega (arith, e), λ d. subst (λ (n : ℕ). (get_or spans n d).page ≤ limit) e (own d));
  ends = λ k d below low. (
    i,
    refl,
    up k d below,
    λ same. elim (cases_lt k i) [
      | inl less ↦ let z = behind k d less low same in let e = ends i d inside in omega (arith, ints, z, e)
      | inr past ↦ let e : k ≡ i = omega (arith, past, below) in subst (λ (n : ℕ). (get_or spans n d).last ≤ℤ (get_or spans i d).last) (sym e) (omega (arith, ints))
    ],
  );
  apart = λ j k d before' below first second same. elim (cases_lt k i) [
    | inl less ↦ passed.apart j k d before' less first second same
    | inr past ↦
        let e : k ≡ i = omega (arith, past, below) in
        subst (λ (n : ℕ). (get_or spans j d).last <ℤ (get_or spans n d).first) (sym e) (behind j d (omega (arith, before', e)) first (same ∙ ap (λ (n : ℕ). (get_or spans n d).slot) e))
  ];
} where
  up : (k : ℕ) (d : Span) → k < i + 1 → (get_or spans k d).slot ≤ (get_or spans i d).slot
  up k d below = elim (cases_lt k i) [
    | inl less ↦ (sorted_pairs spans order k i d less inside).slots
    | inr past ↦ let e : k ≡ i = omega (arith, past, below) in subst (λ (n : ℕ). (get_or spans n d).slot ≤ (get_or spans i d).slot) (sym e) (omega arith)
  ]

  behind : (k : ℕ) (d : Span) → k < i → (get_or spans k d).page ≤ limit → (get_or spans k d).slot ≡ (get_or spans i d).slot → (get_or spans k d).last <ℤ (get_or spans i d).first
  behind k d less low same =
      let last = passed.ends k d less low in
      let m = last.0 in
      let there = passed.there m last.1 in
      let rise = (sorted_pairs spans order m i d there.0 inside).slots in
      let below = last.2 in
      let one : (get_or spans k d).slot ≡ (get_or spans m d).slot = omega (arith, rise, below, same) in
      let two : (get_or spans m d).slot ≡ (get_or spans i d).slot = omega (arith, rise, below, same) in
      let first = last.3 one in
      let second = near m last.1 d two in
      omega (arith, ints, first, second)
