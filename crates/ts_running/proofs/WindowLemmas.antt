-- What a push makes of the sum and the number of a window.
use Rattle.std.proofs.Common.{◌≡◌, ℕ, ◌+◌, ◌-◌, ◌*◌, ◌^◌, ◌<◌, ◌≤◌, nat_lt, true, false, List, [], ◌∷◌, ◌++◌, length, drop, Option, Some, None, IfSome, All, to_z, of_z, refl, sym, ap, ◌∙◌, subst, arith, length-append}
use Rattle.std.proofs.lemmas.Bool.{lt-ltb, ltb-true, ltb-false}
use Rattle.std.proofs.lemmas.Int.{ints, to_z-of_z, fits_signed_from_abs}
use Rattle.std.proofs.lemmas.List.Elements.{All-head, All-tail, All-push, All-drop}
use Rattle.std.specs.Int.{w128}
use Rattle.std.specs.List.{fold, slice_get}
use Rattle.std.specs.Option.{unwrap_or}
use Rattle.std.specs.Prelude.{ℤ, pos, negsuc, ◌+ℤ◌, ◌-ℤ◌, ◌≤ℤ◌, FitsSigned, unsigned_abs, if◌then◌else◌}
use Rattle.circular_buffer.specs.Buffer.{keep_last}
use Rattle.ts_running.specs.Rows.{window, IsSmall, IsWindow, present, count_of, total_of, number_of, tally_of}

abbrev Places : Type 0
Places = List (Option ℤ)

-- a sum from another start
shifted : (a : ℤ) (xs : List ℤ) → fold ◌+ℤ◌ a xs ≡ a +ℤ fold ◌+ℤ◌ (pos 0) xs
shifted a [] = omega (arith, ints)
shifted a (x ∷ xs) = omega (arith, ints, shifted (a +ℤ x) xs, shifted (pos 0 +ℤ x) xs)

-- the first place of more
pub total_first : (v : Option ℤ) (vs : Places) → total_of (v ∷ vs) ≡ number_of v +ℤ total_of vs
total_first None vs = omega (arith, ints)
total_first (Some x) vs = omega (arith, ints, shifted (pos 0 +ℤ x) (present vs))

pub count_first : (v : Option ℤ) (vs : Places) → count_of (v ∷ vs) ≡ tally_of v + count_of vs
count_first None vs = omega arith
count_first (Some x) vs = omega arith

-- the last place of more
pub total_last : (vs : Places) (v : Option ℤ) → total_of (vs ++ v ∷ []) ≡ total_of vs +ℤ number_of v
total_last [] v = omega (arith, ints, total_first v [])
total_last (w ∷ vs) v = omega (arith, ints, total_first w (vs ++ v ∷ []), total_first w vs, total_last vs v)

pub count_last : (vs : Places) (v : Option ℤ) → count_of (vs ++ v ∷ []) ≡ count_of vs + tally_of v
count_last [] v = omega (arith, count_first v [])
count_last (w ∷ vs) v = omega (arith, count_first w (vs ++ v ∷ []), count_first w vs, count_last vs v)

pub count_within : (vs : Places) → count_of vs ≤ length vs
count_within [] = omega arith
count_within (None ∷ vs) = omega (arith, count_within vs)
count_within (Some x ∷ vs) = omega (arith, count_within vs)

-- how far from 0 a sum is
abbrev Bounded : ℤ → ℕ → Type 0
Bounded z n = (z ≤ℤ pos n) × (pos 0 ≤ℤ (z +ℤ pos n))

number_bounded : (v : Option ℤ) → IfSome v IsSmall → Bounded (number_of v) (tally_of v * 10 ^ 28)
number_bounded None h = (omega (arith, ints), omega (arith, ints))
number_bounded (Some (pos x)) h = (omega (arith, ints), omega (arith, ints))
number_bounded (Some (negsuc x)) h = (omega (arith, ints), omega (arith, ints))

total_bounded : (vs : Places) → All (λ place. IfSome place IsSmall) vs → Bounded (total_of vs) (count_of vs * 10 ^ 28)
total_bounded [] h = (omega (arith, ints), omega (arith, ints))
total_bounded (v ∷ vs) h =
    let one = number_bounded v (All-head (λ place. IfSome place IsSmall) v vs h) in
    let rest = total_bounded vs (All-tail (λ place. IfSome place IsSmall) v vs h) in
    let whole = total_first v vs in
    let many = count_first v vs in
    (omega (arith, ints, one, rest, whole, many), omega (arith, ints, one, rest, whole, many))

size_within : (z : ℤ) (n : ℕ) → Bounded z n → unsigned_abs z ≤ n
size_within (pos x) n h = omega (arith, ints, h)
size_within (negsuc x) n h = omega (arith, ints, h)

-- what a push does to the sum and the number: the new place is added, the one that is given up is taken away
pub record Pushed (size : ℕ) (vs : Places) (v old : Option ℤ) : Type 0 where
  pub total : total_of (keep_last size (vs ++ v ∷ [])) ≡ (total_of vs +ℤ number_of v) -ℤ number_of old
  pub count : count_of (keep_last size (vs ++ v ∷ [])) + tally_of old ≡ count_of vs + tally_of v
  pub within : length (keep_last size (vs ++ v ∷ [])) ≤ size

abbrev given_up : ℕ → Places → Option ℤ → Option ℤ
given_up size vs v = unwrap_or (if nat_lt (length vs) size then None else slice_get (vs ++ v ∷ []) 0) None

with_room : (size : ℕ) (vs : Places) (v : Option ℤ) → length vs < size → Pushed size vs v None
with_room size vs v room =
    let long = length-append vs (v ∷ []) in
    let none : length (vs ++ v ∷ []) - size ≡ 0 = omega (arith, long) in
    let same : keep_last size (vs ++ v ∷ []) ≡ vs ++ v ∷ [] = ap (λ k. drop k (vs ++ v ∷ [])) none in
    record {
      total = ap total_of same ∙ omega (arith, ints, total_last vs v);
      count = omega (arith, ap count_of same, count_last vs v);
      within = omega (arith, ap length same, long);
    }

full : (size : ℕ) (w : Option ℤ) (ws : Places) (v : Option ℤ) → length (w ∷ ws) ≡ size → Pushed size (w ∷ ws) v w
full size w ws v all =
    let long = length-append (w ∷ ws) (v ∷ []) in
    let one : length ((w ∷ ws) ++ v ∷ []) - size ≡ 1 = omega (arith, long) in
    let same : keep_last size ((w ∷ ws) ++ v ∷ []) ≡ ws ++ v ∷ [] = ap (λ k. drop k ((w ∷ ws) ++ v ∷ [])) one in
    record {
      total = ap total_of same ∙ omega (arith, ints, total_last ws v, total_first w ws);
      count = omega (arith, ap count_of same, count_last ws v, count_first w ws);
      within = omega (arith, ap length same, length-append ws (v ∷ []));
    }

pub pushed : (size : ℕ) (vs : Places) (v : Option ℤ) → length vs ≤ size → 0 < size → Pushed size vs v (given_up size vs v)
pushed size [] v within positive =
    let test = lt-ltb 0 size positive in rw test (with_room size [] v positive)
pushed size (w ∷ ws) v within positive =
    (elim (nat_lt (length (w ∷ ws)) size) as (λ y. nat_lt (length (w ∷ ws)) size ≡ y → Pushed size (w ∷ ws) v (unwrap_or (if y then None else Some w) None)) [
      | true ↦ λ t. with_room size (w ∷ ws) v (ltb-true (length (w ∷ ws)) size t)
      | false ↦ λ t. let past = ltb-false (length (w ∷ ws)) size t in full size w ws v (omega (arith, past))
    ]) refl

pub push_is_window : (size : ℕ) (vs : Places) (v : Option ℤ) → IsWindow (window vs size) → IfSome v IsSmall → IsWindow (window (keep_last size (vs ++ v ∷ [])) size)
push_is_window size vs v h small =
    let Small = λ (place : Option ℤ). IfSome place IsSmall in
    record {
      small = All-drop Small (length (vs ++ v ∷ []) - size) (vs ++ v ∷ []) (All-push Small vs v h.small small);
      within = (pushed size vs v h.within h.positive).within;
      positive = h.positive;
      few = h.few;
    }

given_up_is_small : (size : ℕ) (vs : Places) (v : Option ℤ) → IsWindow (window vs size) → IfSome (given_up size vs v) IsSmall
given_up_is_small size [] v h = let positive = h.positive in let test = lt-ltb 0 size positive in rw test tt
given_up_is_small size (w ∷ ws) v h =
    (elim (nat_lt (length (w ∷ ws)) size) as (λ y. nat_lt (length (w ∷ ws)) size ≡ y → IfSome (unwrap_or (if y then None else Some w) None) IsSmall) [
      | true ↦ λ t. tt
      | false ↦ λ t. All-head (λ place. IfSome place IsSmall) w ws h.small
    ]) refl

pub tally_at_most_one : (v : Option ℤ) → tally_of v ≤ 1
tally_at_most_one None = omega arith
tally_at_most_one (Some x) = omega arith

-- numbers of 128 bits
fits_at : (z : ℤ) (n : ℕ) → Bounded z n → n < 2 ^ 127 → FitsSigned w128 z
fits_at (pos x) n h few = fits_signed_from_abs w128 (pos x) (omega (arith, ints, h))
fits_at (negsuc x) n h few = fits_signed_from_abs w128 (negsuc x) (omega (arith, ints, h))

total_fits : (size : ℕ) (vs : Places) → IsWindow (window vs size) → FitsSigned w128 (total_of vs)
total_fits size vs h =
    let within = h.within in let few = h.few in
    fits_at (total_of vs) (count_of vs * 10 ^ 28) (total_bounded vs h.small) (omega (arith, within, few, count_within vs))

number_fits : (v : Option ℤ) → IfSome v IsSmall → FitsSigned w128 (number_of v)
number_fits v small = fits_at (number_of v) (tally_of v * 10 ^ 28) (number_bounded v small) (omega (arith, tally_at_most_one v))

sum_fits : (size : ℕ) (vs : Places) (v : Option ℤ) → IsWindow (window vs size) → IfSome v IsSmall → FitsSigned w128 (total_of vs +ℤ number_of v)
sum_fits size vs v h small =
    let within = h.within in let few = h.few in
    let all = total_bounded vs h.small in
    let one = number_bounded v small in
    let n = (count_of vs + tally_of v) * 10 ^ 28 in
    fits_at (total_of vs +ℤ number_of v) n (omega (arith, ints, all, one), omega (arith, ints, all, one))
    (omega (arith, within, few, count_within vs, tally_at_most_one v))

abbrev same : ℤ → ℤ
same z = to_z w128 (of_z w128 z)

-- the sum that is kept is small
pub kept_small : (size : ℕ) (vs : Places) (t : ℤ) → IsWindow (window vs size) → t ≡ total_of vs → unsigned_abs (same t) ≤ count_of vs * 10 ^ 28
kept_small size vs t h is_t =
    let kept : same t ≡ total_of vs = ap same is_t ∙ to_z-of_z w128 (total_of vs) (total_fits size vs h) in
    size_within (same t) (count_of vs * 10 ^ 28) (subst (λ (z : ℤ). Bounded z (count_of vs * 10 ^ 28)) (sym kept) (total_bounded vs h.small))

-- what the code computes, as it stands in the goals
module _ (size : ℕ) (vs : Places) (v : Option ℤ) (t a : ℤ) (h : IsWindow (window vs size)) (small : IfSome v IsSmall) (is_t : t ≡ total_of vs) (is_a : a ≡ number_of v) where
  added : same t +ℤ same a ≡ total_of vs +ℤ number_of v
  added =
      ap (λ z. same z +ℤ same a) is_t ∙ ap (λ z. same (total_of vs) +ℤ same z) is_a
      ∙ ap (λ z. z +ℤ same (number_of v)) (to_z-of_z w128 (total_of vs) (total_fits size vs h))
      ∙ ap (λ z. total_of vs +ℤ z) (to_z-of_z w128 (number_of v) (number_fits v small))

  pub add_fits : FitsSigned w128 (same t +ℤ same a)
  add_fits = subst (FitsSigned w128) (sym added) (sum_fits size vs v h small)

  module _ (old : Option ℤ) (b : ℤ) (is_old : old ≡ given_up size vs v) (is_b : b ≡ number_of old) where
    taken_away : same (same t +ℤ same a) -ℤ same b ≡ total_of (keep_last size (vs ++ v ∷ []))
    taken_away =
        let given = is_b ∙ ap number_of is_old in
        ap (λ z. same z -ℤ same b) added
        ∙ ap (λ z. z -ℤ same b) (to_z-of_z w128 (total_of vs +ℤ number_of v) (sum_fits size vs v h small))
        ∙ ap (λ z. (total_of vs +ℤ number_of v) -ℤ same z) given
        ∙ ap (λ z. (total_of vs +ℤ number_of v) -ℤ z) (to_z-of_z w128 (number_of (given_up size vs v)) (number_fits (given_up size vs v) (given_up_is_small size vs v h)))
        ∙ sym (pushed size vs v h.within h.positive).total

    pub sub_fits : FitsSigned w128 (same (same t +ℤ same a) -ℤ same b)
    sub_fits = subst (FitsSigned w128) (sym taken_away) (total_fits size (keep_last size (vs ++ v ∷ [])) (push_is_window size vs v h small))

    pub new_total : same (same (same t +ℤ same a) -ℤ same b) ≡ total_of (keep_last size (vs ++ v ∷ []))
    new_total = to_z-of_z w128 (same (same t +ℤ same a) -ℤ same b) sub_fits ∙ taken_away

pub new_count : (size : ℕ) (vs : Places) (v old : Option ℤ) (count a b : ℕ) → IsWindow (window vs size) → old ≡ given_up size vs v
    → count ≡ count_of vs → a ≡ tally_of v → b ≡ tally_of old → count + a - b ≡ count_of (keep_last size (vs ++ v ∷ []))
new_count size vs v old count a b h is_old is_count is_a is_b =
    let given = is_b ∙ ap tally_of is_old in
    let all = (pushed size vs v h.within h.positive).count in
    omega (arith, given, all)
