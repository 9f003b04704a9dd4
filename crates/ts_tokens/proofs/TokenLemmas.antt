-- Where a text ends.
use Rattle.std.proofs.Common.{◌≡◌, ℕ, ◌+◌, ◌<◌, ◌≤◌, ◌==◌, true, false, List, [], ◌∷◌, length, drop, slice_index_or, Option, Some, None, refl, ◌∙◌, ap, arith, add-one, drop-cons, ◌≢◌}
use Rattle.std.proofs.Math.ListN.{drop_of_length-le}
use Rattle.std.proofs.lemmas.List.{get_or-drop, drop-drop}
use Rattle.std.proofs.lemmas.Bool.Decides.{nat_tests}
use Rattle.ts_base.specs.Name.{is_text_byte}
use Rattle.ts_tokens.specs.Tokens.{closing, later, or_before}

-- a byte of a text
pub text_byte : (b : ℕ) (t : List ℕ) → (b == 39) ≡ false → is_text_byte b ≡ true → closing (b ∷ t) ≡ later 1 (closing t)
unfolding closing
text_byte b [] other text = rw other refl
text_byte b (c ∷ t) other text = rw (other, text) refl

-- a byte that no text has
pub other_byte : (b : ℕ) (t : List ℕ) → (b == 39) ≡ false → is_text_byte b ≡ false → closing (b ∷ t) ≡ None
unfolding closing
other_byte b [] other text = rw other refl
other_byte b (c ∷ t) other text = rw (other, text) refl

-- a quote that isn't doubled
pub single_quote : (b : ℕ) (t : List ℕ) → (b == 39) ≡ true → (slice_index_or t 0 0 == 39) ≡ false → closing (b ∷ t) ≡ Some 1
unfolding closing
single_quote b [] quote single = rw quote refl
single_quote b (c ∷ t) quote single = rw (quote, single) refl

-- a doubled quote
pub doubled_quote : (b : ℕ) (t : List ℕ) → (b == 39) ≡ true → (slice_index_or t 0 0 == 39) ≡ true → closing (b ∷ t) ≡ or_before (Some 1) (later 2 (closing (drop 1 t)))
unfolding closing
doubled_quote b [] quote double = absurd (cc)
doubled_quote b (c ∷ t) quote double = rw (quote, double) refl

-- an end so many bytes later, and that so many later again
later-later : (i n : ℕ) (end : Option ℕ) → later i (later n end) ≡ later (i + n) end
later-later i n None = refl
later-later i n (Some end) = ap Some (omega arith)

-- the bytes from a place on
at_place : (s : List ℕ) (i : ℕ) → i < length s → drop i s ≡ slice_index_or s i 0 ∷ drop (i + 1) s
at_place s i within = rw add-one (drop-cons s i 0 within)

-- the scan goes past a byte of a text
pub past_byte : (before : Option ℕ) (s : List ℕ) (i : ℕ) → i < length s → slice_index_or s i 0 ≢ 39 → is_text_byte (slice_index_or s i 0) ≡ true →
    or_before before (later i (closing (drop i s))) ≡ or_before before (later (i + 1) (closing (drop (i + 1) s)))
past_byte before s i within other text =
    let differs : (slice_index_or s i 0 == 39) ≡ false = grind (arith, nat_tests) in
    ap (λ (e : Option ℕ). or_before before (later i e)) (ap closing (at_place s i within) ∙ text_byte (slice_index_or s i 0) (drop (i + 1) s) differs text)
    ∙ ap (or_before before) (later-later i 1 (closing (drop (i + 1) s)))

-- it stops at a byte that no text has
pub at_other_byte : (before : Option ℕ) (s : List ℕ) (i : ℕ) → i < length s → slice_index_or s i 0 ≢ 39 → is_text_byte (slice_index_or s i 0) ≡ false →
    or_before before (later i (closing (drop i s))) ≡ before
at_other_byte before s i within other text =
    let differs : (slice_index_or s i 0 == 39) ≡ false = grind (arith, nat_tests) in
    ap (λ (e : Option ℕ). or_before before (later i e)) (ap closing (at_place s i within) ∙ other_byte (slice_index_or s i 0) (drop (i + 1) s) differs text)

-- the byte behind
next_byte : (s : List ℕ) (i : ℕ) → slice_index_or (drop (i + 1) s) 0 0 ≡ slice_index_or s (i + 1) 0
next_byte s i = get_or-drop (i + 1) s 0 0 ∙ ap (λ (k : ℕ). slice_index_or s k 0) (omega arith)

-- it ends behind a quote that isn't doubled
pub at_single_quote : (before : Option ℕ) (s : List ℕ) (i : ℕ) → i < length s → slice_index_or s i 0 ≡ 39 → (slice_index_or s (i + 1) 0 == 39) ≡ false →
    or_before before (later i (closing (drop i s))) ≡ Some (i + 1)
at_single_quote before s i within quote single =
    let is : (slice_index_or s i 0 == 39) ≡ true = rw quote refl in
    let alone : (slice_index_or (drop (i + 1) s) 0 0 == 39) ≡ false = rw (next_byte s i) single in
    ap (λ (e : Option ℕ). or_before before (later i e)) (ap closing (at_place s i within) ∙ single_quote (slice_index_or s i 0) (drop (i + 1) s) is alone)

-- an end behind a doubled quote, or else behind its first half
after_quote : (before end : Option ℕ) (i : ℕ) → or_before before (later i (or_before (Some 1) (later 2 end))) ≡ or_before (Some (i + 1)) (later (i + 2) end)
after_quote before None i = refl
after_quote before (Some end) i = ap Some (omega arith)

-- it goes past a doubled quote, whose first half may close the text
pub past_doubled_quote : (before : Option ℕ) (s : List ℕ) (i : ℕ) → i < length s → slice_index_or s i 0 ≡ 39 → (slice_index_or s (i + 1) 0 == 39) ≡ true →
    or_before before (later i (closing (drop i s))) ≡ or_before (Some (i + 1)) (later (i + 2) (closing (drop (i + 2) s)))
past_doubled_quote before s i within quote double =
    let is : (slice_index_or s i 0 == 39) ≡ true = rw quote refl in
    let two : (slice_index_or (drop (i + 1) s) 0 0 == 39) ≡ true = rw (next_byte s i) double in
    let more : drop 1 (drop (i + 1) s) ≡ drop (i + 2) s = drop-drop 1 (i + 1) s ∙ ap (λ (k : ℕ). drop k s) (omega arith) in
    ap (λ (e : Option ℕ). or_before before (later i e)) (ap closing (at_place s i within) ∙ doubled_quote (slice_index_or s i 0) (drop (i + 1) s) is two ∙ ap (λ (t : List ℕ). or_before (Some 1) (later 2 (closing t))) more)
    ∙ after_quote before (closing (drop (i + 2) s)) i

-- it ends with the bytes
pub at_end : (before : Option ℕ) (s : List ℕ) (i : ℕ) → length s ≤ i → or_before before (later i (closing (drop i s))) ≡ before
unfolding closing
at_end before s i past = let none : drop i s ≡ [] = drop_of_length-le s past in rw none refl
