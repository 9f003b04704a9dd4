-- The spans of one series among those of all, which are sorted.
use Rattle.std.proofs.Common.{◌≡◌, ℕ, zero, suc, ◌+◌, ◌-◌, ◌<◌, ◌≤◌, List, [], ◌∷◌, length, get_or, map, replicate, take, drop, refl, sym, ap, subst, ◌∙◌, arith, inl, inr, get_or-set_other}
use Rattle.std.proofs.lemmas.List.{get_or-replicate, get_or_past, length-replicate}
use Rattle.std.specs.List.{AllWithin}
use Rattle.std.proofs.lemmas.Bool.{cases_eq, cases_lt}
use Rattle.ts_space.specs.declared.place.Place.{Place}
use Rattle.ts_space.specs.Directory.{Directory, places_of, ChangesOnly}
use Rattle.ts_container.specs.declared.span.Span.{Span}
use Rattle.ts_container.specs.Spans.{place_in, spans_in, places_in}
use Rattle.ts_container.proofs.SpanLemmas.{in_own, in_others}

-- some before them, those of the series, and those behind
record Cut (slot first n : ℕ) (spans : List Span) : Type 0 where
  before : (k : ℕ) (a : Span) → k < first → k < length spans → (get_or spans k a).slot < slot
  own : (k : ℕ) (a : Span) → first ≤ k → k < first + n → k < length spans → (get_or spans k a).slot ≡ slot
  behind : (k : ℕ) (a : Span) → first + n ≤ k → k < length spans → slot < (get_or spans k a).slot

between : (slot first n : ℕ) (spans : List Span) → Cut slot first n spans → spans_in slot spans ≡ take n (drop first spans)
between slot zero zero [] cut = refl
between slot zero (suc n) [] cut = refl
between slot (suc first) zero [] cut = refl
between slot (suc first) (suc n) [] cut = refl
between slot zero zero (a ∷ spans) cut =
    let later = cut.behind 0 a (omega arith) (omega arith) in
    in_others a slot spans (λ same. omega (arith, same, later))
    ∙ between slot zero zero spans (record {
      before = λ k b low within. absurd (omega (arith, low));
      own = λ k b low high within. absurd (omega (arith, low, high));
      behind = λ k b low within. cut.behind (suc k) b (omega arith) (omega (arith, within));
    })
between slot zero (suc n) (a ∷ spans) cut =
    in_own a slot spans (cut.own 0 a (omega arith) (omega arith) (omega arith))
    ∙ ap (λ (l : List Span). a ∷ l) (between slot zero n spans (record {
      before = λ k b low within. absurd (omega (arith, low));
      own = λ k b low high within. cut.own (suc k) b (omega arith) (omega (arith, high)) (omega (arith, within));
      behind = λ k b low within. cut.behind (suc k) b (omega (arith, low)) (omega (arith, within));
    }))
between slot (suc first) n (a ∷ spans) cut =
    let earlier = cut.before 0 a (omega arith) (omega arith) in
    in_others a slot spans (λ same. omega (arith, same, earlier))
    ∙ between slot first n spans (record {
      before = λ k b low within. cut.before (suc k) b (omega (arith, low)) (omega (arith, within));
      own = λ k b low high within. cut.own (suc k) b (omega (arith, low)) (omega (arith, high)) (omega (arith, within));
      behind = λ k b low within. cut.behind (suc k) b (omega (arith, low)) (omega (arith, within));
    })

-- the next series begins where those before it end
pub starts_first : (slot first stop : ℕ) (spans : List Span) → first ≤ length spans → AllWithin (λ (a : Span). a.slot < slot) spans 0 first → AllWithin (λ (a : Span). slot < a.slot) spans stop (length spans) → first ≤ stop
starts_first slot zero stop spans within before behind = omega arith
starts_first slot (suc first) stop [] within before behind = absurd (omega (arith, within))
starts_first slot (suc first) stop (a ∷ spans) within before behind = elim (cases_lt stop (suc first)) [
  | inl past ↦
      let low = before first a (omega arith) (omega arith) in
      let high = behind first a (omega (arith, past)) (omega (arith, within)) in
      absurd (omega (arith, low, high))
  | inr ok ↦ ok
]

pub spans_between : (slot first stop : ℕ) (spans : List Span) → first ≤ stop → AllWithin (λ (a : Span). a.slot < slot) spans 0 first → AllWithin (λ (a : Span). slot ≤ a.slot) spans first (length spans)
    → AllWithin (λ (a : Span). a.slot ≤ slot) spans 0 stop → AllWithin (λ (a : Span). slot < a.slot) spans stop (length spans) → spans_in slot spans ≡ take (stop - first) (drop first spans)
spans_between slot first stop spans after before from upto behind =
    let all : first + (stop - first) ≡ stop = omega (arith, after) in
    between slot first (stop - first) spans (record {
      before = λ k a low within. before k a (omega arith) low;
      own = λ k a low high within.
          let least = from k a low within in
          let most = upto k a (omega arith) (omega (arith, high, all)) in
          omega (arith, least, most);
      behind = λ k a low within. behind k a (omega (arith, low, all)) within;
    })

-- one series more is listed
pub places_more : (slot : ℕ) (spans : List Span) (old new : Directory) → ((t : ℕ) → t < slot → places_of t old ≡ places_in t spans) → ChangesOnly slot old new → places_of slot new ≡ places_in slot spans → (t : ℕ) → t < slot + 1 → places_of t new ≡ places_in t spans
places_more slot spans old new listed changes is t below = elim (cases_eq t slot) [
  | inl same ↦ subst (λ (n : ℕ). places_of n new ≡ places_in n spans) (sym same) is
  | inr other ↦
      ap (λ (l : List (List Place)). get_or l t []) changes.lists ∙ get_or-set_other old.lists slot t (places_of slot new) [] other
      ∙ listed t (earlier t slot below other)
] where
  earlier : (t slot : ℕ) → t < slot + 1 → (t ≡ slot → ⊥) → t < slot
  earlier t slot below other = omega (arith, below, other)

-- a directory without places has none of any series
pub none_listed : (n slot : ℕ) (space : Directory) → space.lists ≡ replicate n [] → places_of slot space ≡ []
none_listed n slot space empty = ap (λ (l : List (List Place)). get_or l slot []) empty ∙ elim (cases_lt slot n) [
  | inl below ↦ get_or-replicate n slot [] [] below
  | inr behind ↦ let most : n ≤ slot = omega (arith, behind) in get_or_past (replicate n []) slot [] (subst (λ (k : ℕ). k ≤ slot) (sym (length-replicate n [])) most)
]

-- the series behind the one that is listed have none still
pub none_behind : (slot : ℕ) (old new : Directory) → ((t : ℕ) → slot ≤ t → places_of t old ≡ []) → ChangesOnly slot old new → (t : ℕ) → slot + 1 ≤ t → places_of t new ≡ []
none_behind slot old new none changes t above =
    ap (λ (l : List (List Place)). get_or l t []) changes.lists ∙ get_or-set_other old.lists slot t (places_of slot new) [] (λ same. omega (arith, above, same))
    ∙ none t (omega (arith, above))

-- where all spans stand before a slot, the series from there on have none
none_from : (low slot : ℕ) (spans : List Span) → AllWithin (λ (a : Span). a.slot < low) spans 0 (length spans) → low ≤ slot → spans_in slot spans ≡ []
none_from low slot [] before least = refl
none_from low slot (a ∷ spans) before least =
    let earlier = before 0 a (omega arith) (omega arith) in
    in_others a slot spans (λ same. omega (arith, same, earlier, least))
    ∙ none_from low slot spans (λ k b low within. before (suc k) b (omega arith) (omega (arith, within))) least

-- so all are listed once none is left
pub all_listed : (low : ℕ) (spans : List Span) (space : Directory) → ((t : ℕ) → t < low → places_of t space ≡ places_in t spans) → ((t : ℕ) → low ≤ t → places_of t space ≡ [])
    → AllWithin (λ (a : Span). a.slot < low) spans 0 (length spans) → (t : ℕ) → places_of t space ≡ places_in t spans
all_listed low spans space listed none before t = elim (cases_lt t low) [
  | inl below ↦ listed t below
  | inr behind ↦ let from : low ≤ t = omega (arith, behind) in none t from ∙ sym (ap (map place_in) (none_from low t spans before from))
]
