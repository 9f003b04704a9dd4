-- Keys, and the numbers that they have.
use Rattle.std.proofs.Common.{◌≡◌, ℕ, ◌+◌, ◌^◌, ◌<◌, ◌≤◌, ◌↔◌, Bool, true, false, ◌&&◌, ◌||◌, ◌==◌, not, cond, Option, Some, None, option_and_then, List, [], ◌∷◌, ◌++◌, length, take, drop, get_or, codes, bytes_eq, nat_le, refl, sym, ap, subst, ◌∙◌, arith}
use Rattle.std.proofs.Math.Seq.{take-append_seam, drop-append_seam}
use Rattle.std.proofs.lemmas.Slice.Eq.{bytes_eq-Decides}
use Rattle.std.proofs.lemmas.List.{take-append-drop, append_cancel_left, length-append}
use Rattle.std.proofs.lemmas.Bool.{and_parts, false≢true}
use Rattle.std.proofs.lemmas.Bool.Decides.{nat_tests}
use Rattle.std.proofs.lemmas.Option.{same_Some}
use Rattle.std.specs.List.{list_all, list_any}
use Rattle.std.specs.Char.{is_ascii_digit}
use Rattle.std.specs.Ordering.{nat_cmp, ordering_then}
use Rattle.std.specs.declared.cmp.Ordering.TheVariants.{Equal}
use Rattle.std.specs.Cmp.{nat_cmp_is}
use Rattle.ts_base.specs.Name.{is_key, is_text, is_text_byte}
use Rattle.ts_base.specs.Moment.{all_digits, number_of}
use Rattle.ts_model.specs.Catalogue.{name_cmp}
use Rattle.ts_rolling.specs.Sets.{most_windows, most_kept, is_set, digits_of, numbered_key, window_key, control_key, behind, number_in, read_number, read_window, kept_number, read_control}
use Rattle.ts_rolling.proofs.DigitLemmas.{length-digits_of, number_of-digits_of, number_of-below, digits_of-number_of, all_digits-digits_of, digits_cmp}

-- an option that has a value, by a test
tested : {X : Type 0} (b : Bool) (x y : X) → cond b (Some x) None ≡ Some y → (b ≡ true) × (x ≡ y)
tested true x y e = (refl, same_Some x y e)
tested false x y e = absurd (cc)

-- a value behind a value
chained : {X Y : Type 0} (f : X → Option Y) (o : Option X) (y : Y) → option_and_then f o ≡ Some y → (x : X) × (o ≡ Some x) × (f x ≡ Some y)
chained f None y e = absurd (cc)
chained f (Some x) y e = (x, refl, e)

-- what stands behind a front
pub behind_is : (front text rest : List ℕ) → behind front text ≡ Some rest → text ≡ front ++ rest
behind_is front text rest e =
    let h = tested (bytes_eq (take (length front) text) front) (drop (length front) text) rest e in
    sym (take-append-drop (length front) text) ∙ ap (λ f. f ++ drop (length front) text) ((bytes_eq-Decides _ _).0 h.0) ∙ ap (λ r. front ++ r) h.1

pub behind_front : (front rest : List ℕ) → behind front (front ++ rest) ≡ Some rest
behind_front front rest =
    ap (λ b. cond b (Some (drop (length front) (front ++ rest))) None) ((bytes_eq-Decides _ _).1 (take-append_seam front rest))
    ∙ ap Some (drop-append_seam front rest)

-- what so many digits write
pub number_in_is : (w : ℕ) (s : List ℕ) (n : ℕ) → number_in w s ≡ Some n → (n < 10 ^ w) × (s ≡ digits_of w n)
number_in_is w s n e =
    let h = tested ((length s == w) && all_digits s) (number_of s) n e in
    let both = and_parts (length s == w) (all_digits s) h.0 in
    let long : length s ≡ w = grind (arith, nat_tests, both.0) in (
      subst (λ k. k < 10 ^ w) h.1 (subst (λ k. number_of s < 10 ^ k) long (number_of-below s both.1)),
      sym (digits_of-number_of s both.1) ∙ (λ i. digits_of (long i) (h.1 i)),
    )

pub number_in_digits : (w n : ℕ) → n < 10 ^ w → number_in w (digits_of w n) ≡ Some n
number_in_digits w n h =
    let long : (length (digits_of w n) == w) ≡ true = let e = length-digits_of w n in grind (arith, nat_tests, e) in
    let all : ((length (digits_of w n) == w) && all_digits (digits_of w n)) ≡ true = (λ i. long i && all_digits-digits_of w n h i) in
    ap (λ b. cond b (Some (number_of (digits_of w n))) None) all ∙ ap Some (number_of-digits_of w n h)

-- a key is read as a number exactly where it is the key of that number
pub read_is : (sign : List ℕ) (w : ℕ) (key set : List ℕ) (n : ℕ) → read_number sign w key set ≡ Some n → (n < 10 ^ w) × (key ≡ numbered_key sign w set n)
read_is sign w key set n e =
    let digits = chained (number_in w) (option_and_then (behind sign) (behind set key)) n e in
    let rest = chained (behind sign) (behind set key) digits.0 digits.1 in
    let is = number_in_is w digits.0 n digits.2 in
    (is.0, behind_is set key rest.0 rest.1 ∙ ap (λ r. set ++ r) (behind_is sign rest.0 digits.0 rest.2) ∙ ap (λ d. set ++ (sign ++ d)) is.1)

pub read_key : (sign : List ℕ) (w : ℕ) (set : List ℕ) (n : ℕ) → n < 10 ^ w → read_number sign w (numbered_key sign w set n) set ≡ Some n
read_key sign w set n h =
    ap (λ o. option_and_then (number_in w) (option_and_then (behind sign) o)) (behind_front set (sign ++ digits_of w n))
    ∙ ap (option_and_then (number_in w)) (behind_front sign (digits_of w n))
    ∙ number_in_digits w n h

pub window_form : (key set : List ℕ) (j : ℕ) → (read_window key set ≡ Some j) ↔ ((j < most_windows) × (key ≡ window_key set j))
unfolding read_window window_key
window_form key set j = (
  read_is (codes "#") 12 key set j,
  λ h. ap (λ k. read_number (codes "#") 12 k set) h.1 ∙ read_key (codes "#") 12 set j h.0,
)

kept_is : (n m : ℕ) → kept_number n ≡ Some m → (n ≡ m) × (1 ≤ m) × (m ≤ most_kept)
kept_is n m e =
    let h = tested (nat_le 1 n && nat_le n most_kept) n m e in
    let both = and_parts (nat_le 1 n) (nat_le n most_kept) h.0 in
    let same = h.1 in
    (same, grind (arith, nat_tests, both.0, same), grind (arith, nat_tests, both.1, same))

kept_so : (n : ℕ) → 1 ≤ n → n ≤ most_kept → kept_number n ≡ Some n
kept_so n least most = grind (arith, nat_tests)

pub control_form : (key set : List ℕ) (n : ℕ) → (read_control key set ≡ Some n) ↔ ((1 ≤ n) × (n ≤ most_kept) × (key ≡ control_key set n))
unfolding read_control control_key
control_form key set n = (
  λ e.
      let h = chained kept_number (read_number (codes "#w") 4 key set) n e in
      let k = kept_is h.0 n h.2 in
      let is = read_is (codes "#w") 4 key set h.0 h.1 in
      (k.1, k.2, is.1 ∙ ap (numbered_key (codes "#w") 4 set) k.0),
  λ h.
      ap (λ k. option_and_then kept_number (read_number (codes "#w") 4 k set)) h.2
      ∙ ap (option_and_then kept_number) (read_key (codes "#w") 4 set n (omega (arith, h.1)))
      ∙ kept_so n h.0 h.1,
)

-- bytes of texts, one behind the other
pub list_all-append : (p : ℕ → Bool) (xs ys : List ℕ) → list_all p xs ≡ true → list_all p ys ≡ true → list_all p (xs ++ ys) ≡ true
list_all-append p [] ys h g = g
list_all-append p (x ∷ xs) ys h g =
    let both = and_parts (p x) (list_all p xs) h in
    λ i. both.0 i && list_all-append p xs ys both.1 g i

digit_is_text : (c : ℕ) → is_ascii_digit c ≡ true → is_text_byte c ≡ true
digit_is_text c h = grind (arith, nat_tests)

pub is_text-digits : (s : List ℕ) → all_digits s ≡ true → is_text s ≡ true
is_text-digits [] h = refl
is_text-digits (c ∷ s) h =
    let both = and_parts (is_ascii_digit c) (all_digits s) h in
    λ i. digit_is_text c both.0 i && is_text-digits s both.1 i

-- so such a key is one
pub is_key-numbered : (set sign : List ℕ) (w n : ℕ) → is_key set ≡ true → is_text sign ≡ true → length set + length sign + w ≤ 64 → n < 10 ^ w → is_key (numbered_key sign w set n) ≡ true
is_key-numbered set sign w n key text fits few =
    let parts = and_parts (nat_le 1 (length set) && nat_le (length set) 64) (is_text set) key in
    let ends = and_parts (nat_le 1 (length set)) (nat_le (length set) 64) parts.0 in
    let digits = is_text-digits (digits_of w n) (all_digits-digits_of w n few) in
    let whole = list_all-append is_text_byte set (sign ++ digits_of w n) parts.1 (list_all-append is_text_byte sign (digits_of w n) text digits) in
    let long : length (numbered_key sign w set n) ≡ length set + (length sign + w) =
    length-append set (sign ++ digits_of w n) ∙ ap (λ k. length set + k) (length-append sign (digits_of w n) ∙ ap (λ k. length sign + k) (length-digits_of w n)) in
    let least : nat_le 1 (length (numbered_key sign w set n)) ≡ true = at_least (length set) _ (length sign + w) ends.0 long in
    let most : nat_le (length (numbered_key sign w set n)) 64 ≡ true = at_most _ (length set + (length sign + w)) long (omega arith) in
    λ i. (least i && most i) && whole i
  where
    at_least : (a b c : ℕ) → nat_le 1 a ≡ true → b ≡ a + c → nat_le 1 b ≡ true
    at_least a b c h e = grind (arith, nat_tests)

    at_most : (a b : ℕ) → a ≡ b → b ≤ 64 → nat_le a 64 ≡ true
    at_most a b e h = grind (arith, nat_tests)

-- behind a common front the rest decides
pub cmp-front : (front xs ys : List ℕ) → name_cmp (front ++ xs) (front ++ ys) ≡ name_cmp xs ys
cmp-front [] xs ys = refl
cmp-front (c ∷ front) xs ys =
    ap (λ o. ordering_then o (name_cmp (front ++ xs) (front ++ ys))) (sym (nat_cmp_is c c Equal refl)) ∙ cmp-front front xs ys

pub numbered_cmp : (sign : List ℕ) (w : ℕ) (set : List ℕ) (m n : ℕ) → m < 10 ^ w → n < 10 ^ w → name_cmp (numbered_key sign w set m) (numbered_key sign w set n) ≡ nat_cmp m n
numbered_cmp sign w set m n h g =
    cmp-front set (sign ++ digits_of w m) (sign ++ digits_of w n) ∙ cmp-front sign (digits_of w m) (digits_of w n) ∙ digits_cmp w m n h g

later_none : (c : ℕ) (s : List ℕ) → list_any (λ k. k == 35) (c ∷ s) ≡ false → list_any (λ k. k == 35) s ≡ false
later_none c s h = or_false (c == 35) _ h
  where
    or_false : (a b : Bool) → (a || b) ≡ false → b ≡ false
    or_false true b h = absurd (false≢true (sym h))
    or_false false b h = h

no_sign : (c : ℕ) (s : List ℕ) → list_any (λ k. k == 35) (c ∷ s) ≡ false → 35 ≡ c → ⊥
no_sign c s h e = false≢true (sym h ∙ ap (λ k. (k == 35) || list_any (λ k. k == 35) s) (sym e))

pub windows_cmp : (set : List ℕ) (i j : ℕ) → i < most_windows → j < most_windows → name_cmp (window_key set i) (window_key set j) ≡ nat_cmp i j
unfolding window_key
windows_cmp set i j h g = numbered_cmp (codes "#") 12 set i j h g

pub controls_cmp : (set : List ℕ) (m n : ℕ) → m ≤ most_kept → n ≤ most_kept → name_cmp (control_key set m) (control_key set n) ≡ nat_cmp m n
unfolding control_key
controls_cmp set m n h g = numbered_cmp (codes "#w") 4 set m n (omega (arith, h)) (omega (arith, g))

-- what stands before the first `#` and behind it
pub split_at_sign : (a b x y : List ℕ) → list_any (λ c. c == 35) a ≡ false → list_any (λ c. c == 35) b ≡ false → a ++ 35 ∷ x ≡ b ++ 35 ∷ y → (a ≡ b) × (x ≡ y)
split_at_sign [] [] x y h g e = (refl, ap (drop 1) e)
split_at_sign [] (d ∷ b) x y h g e = absurd (no_sign d b g (ap (λ s. get_or s 0 0) e))
split_at_sign (c ∷ a) [] x y h g e = absurd (no_sign c a h (sym (ap (λ s. get_or s 0 0) e)))
split_at_sign (c ∷ a) (d ∷ b) x y h g e =
    let rest = split_at_sign a b x y (later_none c a h) (later_none d b g) (ap (drop 1) e) in
    ((λ i. get_or (e i) 0 0 ∷ rest.0 i), rest.1)

-- a set has no `#`
pub no_sign_in : (set : List ℕ) → is_set set ≡ true → list_any (λ c. c == 35) set ≡ false
no_sign_in set h = turned (list_any (λ c. c == 35) set) (and_parts (is_key set && nat_le (length set) 40) _ h).1
  where
    turned : (b : Bool) → not b ≡ true → b ≡ false
    turned true e = absurd (false≢true e)
    turned false e = refl

-- the set of a numbered key, and its number
pub numbered_same : (rest : List ℕ) (w : ℕ) (set other : List ℕ) (m n : ℕ) → is_set set ≡ true → is_set other ≡ true → m < 10 ^ w → n < 10 ^ w → numbered_key (35 ∷ rest) w set m ≡ numbered_key (35 ∷ rest) w other n → (set ≡ other) × (m ≡ n)
numbered_same rest w set other m n h g few less e =
    let split = split_at_sign set other (rest ++ digits_of w m) (rest ++ digits_of w n) (no_sign_in set h) (no_sign_in other g) e in
    let digits = append_cancel_left rest (digits_of w m) (digits_of w n) split.1 in
    (split.0, sym (number_of-digits_of w m few) ∙ ap number_of digits ∙ number_of-digits_of w n less)

-- a key isn't both a window's and a control's: what stands behind `#` has twelve bytes or five
pub never_both : (set other : List ℕ) (j n : ℕ) → is_set set ≡ true → is_set other ≡ true → window_key set j ≡ control_key other n → ⊥
unfolding window_key control_key
never_both set other j n h g e =
    let split = split_at_sign set other (digits_of 12 j) (119 ∷ digits_of 4 n) (no_sign_in set h) (no_sign_in other g) e in
    let twelve = length-digits_of 12 j in
    let four = length-digits_of 4 n in
    let same = ap length split.1 in
    omega (arith, twelve, four, same)

-- of one set by the lengths alone
pub never_own : (set : List ℕ) (j n : ℕ) → window_key set j ≡ control_key set n → ⊥
unfolding window_key control_key
never_own set j n e =
    let same = ap length (append_cancel_left set (35 ∷ digits_of 12 j) (35 ∷ 119 ∷ digits_of 4 n) e) in
    let twelve = length-digits_of 12 j in
    let four = length-digits_of 4 n in
    omega (arith, twelve, four, same)
