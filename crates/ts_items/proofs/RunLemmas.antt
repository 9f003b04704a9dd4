-- Plain bytes, many at once.
use Rattle.std.proofs.Common.{◌≡◌, ℕ, suc, ◌+◌, ◌-◌, ◌<◌, ◌≤◌, ◌==◌, ◌&&◌, Bool, true, false, not, cond, List, [], ◌∷◌, ◌++◌, length, take, drop, Option, Some, refl, sym, ◌∙◌, ap, arith, append_assoc, length-append, count_by, inl, inr}
use Rattle.std.proofs.Math.Seq.{take-add}
use Rattle.std.proofs.lemmas.Bool.{and_parts, cases_Bool}
use Rattle.std.proofs.lemmas.Bool.Decides.{nat_tests}
use Rattle.std.proofs.lemmas.List.{append-nil, length-take, take-take, take_all, length-drop}
use Rattle.std.proofs.lemmas.List.Folds.{list_all-append}
use Rattle.std.proofs.lemmas.List.Sums.{sum_by-append}
use Rattle.std.specs.List.{prefix_len, list_all}
use Rattle.ts_items.specs.Items.{Item, after, items_from, place_from, all_blank, quotes_match}
use Rattle.ts_base.specs.Name.{is_blank}
use Rattle.ts_items.proofs.ItemLaws.{items_from-append, place_from-append}
use Rattle.ts_items.specs.Reader.{is_plain, Tells, place_of}
use Rattle.ts_items.specs.declared.reader.Phase.{Phase}
use Rattle.ts_items.specs.declared.reader.Phase.TheVariants.{Within, Ended, Past}
use Rattle.ts_items.proofs.ItemLemmas.{goes_on, GoesOn}
use Rattle.std.proofs.lemmas.List.Sums.{prefix_len-le-length}

-- the front passes
pub front_passes : (p : ℕ → Bool) (s : List ℕ) → list_all p (take (prefix_len p s) s) ≡ true
front_passes p [] = refl
front_passes p (b ∷ s) = elim (cases_Bool (p b)) [
  | inl t ↦ let next : 1 + prefix_len p s ≡ suc (prefix_len p s) = omega arith in rw (t, next, t) (front_passes p s)
  | inr f ↦ rw f refl
]

plain_is : (b : ℕ) (rest : Bool) → (is_plain b && rest) ≡ true → ((b == 59) ≡ false) × ((b == 39) ≡ false) × (rest ≡ true)
plain_is b rest plain =
    let both = and_parts (is_plain b) rest plain in
    let parts = and_parts (not (b == 59)) (not (b == 39)) both.0 in
    (grind (arith, nat_tests), grind (arith, nat_tests), both.1)

-- a plain byte goes on a statement
plain_goes : (t : List ℕ) (b : ℕ) → (b == 59) ≡ false → GoesOn t b
plain_goes t b other = rw other refl

-- plain bytes end no item, and stand behind the text
pub plain_run : (t run : List ℕ) → list_all is_plain run ≡ true → length (t ++ run) < 65536 → (items_from (Some t) run ≡ []) × (place_from (Some t) run ≡ Some (t ++ run))
plain_run t [] plain short = (refl, ap Some (sym (append-nil t)))
plain_run t (b ∷ run) plain short =
    let is = plain_is b (list_all is_plain run) plain in
    let step : after (Some t) b ≡ ([], Some (t ++ b ∷ [])) = goes_on t b (plain_goes t b is.0) (λ e. omega (arith, length-append t (b ∷ run), length-append t (b ∷ []), e)) in
    let group : (t ++ b ∷ []) ++ run ≡ t ++ b ∷ run = append_assoc t (b ∷ []) run in
    let more = plain_run (t ++ b ∷ []) run is.2 (rw group short) in (
      ap (λ (x : List Item × Option (List ℕ)). x.0 ++ items_from x.1 run) step ∙ more.0,
      ap (λ (x : List Item × Option (List ℕ)). place_from x.1 run) step ∙ more.1 ∙ ap Some group,
    )

-- they have no quotes
no_quotes : (run : List ℕ) → list_all is_plain run ≡ true → count_by (λ b. b == 39) run ≡ 0
no_quotes [] plain = refl
no_quotes (b ∷ run) plain =
    let is = plain_is b (list_all is_plain run) plain in
    rw is.1 (omega (arith, no_quotes run is.2))

pub plain_quotes : (t run : List ℕ) → list_all is_plain run ≡ true → quotes_match (t ++ run) ≡ quotes_match t
plain_quotes t run plain =
    let sum = sum_by-append (λ (x : ℕ). cond (x == 39) 1 0) t run in
    let same : count_by (λ b. b == 39) (t ++ run) ≡ count_by (λ b. b == 39) t = omega (arith, sum, no_quotes run plain) in
    rw same refl

-- what isn't blank stays so
pub still_shows : (t run : List ℕ) → all_blank t ≡ false → all_blank (t ++ run) ≡ false
still_shows t run shows = list_all-append is_blank t run ∙ rw shows refl

-- the front that is plain
pub front_plain : (p : ℕ → Bool) (room : ℕ) (s : List ℕ) → list_all p (take (prefix_len p (take room s)) s) ≡ true
front_plain p room s =
    let most : prefix_len p (take room s) ≤ room = omega (arith, prefix_len-le-length p (take room s), length-take room s) in
    let same : take (prefix_len p (take room s)) (take room s) ≡ take (prefix_len p (take room s)) s = take-take (prefix_len p (take room s)) room s most in
    rw (← same) (front_passes p (take room s))

-- the items and the place behind more bytes
pub items_behind : (place : Option (List ℕ)) (s : List ℕ) (m n : ℕ) → items_from place (take m s) ≡ [] → items_from place (take (m + n) s) ≡ items_from (place_from place (take m s)) (take n (drop m s))
items_behind place s m n none = ap (items_from place) (take-add m n s) ∙ items_from-append place (take m s) (take n (drop m s)) ∙ ap (λ (l : List Item). l ++ items_from (place_from place (take m s)) (take n (drop m s))) none

pub place_behind : (place : Option (List ℕ)) (s : List ℕ) (m n : ℕ) → place_from place (take (m + n) s) ≡ place_from (place_from place (take m s)) (take n (drop m s))
place_behind place s m n = ap (place_from place) (take-add m n s) ∙ place_from-append place (take m s) (take n (drop m s))

nothing_of : (xs ys : List Item) → xs ++ ys ≡ [] → xs ≡ []
nothing_of [] ys none = refl
nothing_of (x ∷ xs) ys none = absurd (cc)

-- where no item ends, none ends earlier
pub none_earlier : (place : Option (List ℕ)) (s : List ℕ) (k n : ℕ) → k ≤ n → items_from place (take n s) ≡ [] → items_from place (take k s) ≡ []
none_earlier place s k n le none =
    let size : k + (n - k) ≡ n = omega arith in
    let split = ap (items_from place) (take-add k (n - k) s) ∙ items_from-append place (take k s) (take (n - k) (drop k s)) in
    nothing_of (items_from place (take k s)) (items_from (place_from place (take k s)) (take (n - k) (drop k s))) (sym split ∙ ap (λ (m : ℕ). items_from place (take m s)) size ∙ none)

-- a statement that isn't blank goes on by plain bytes
pub after_plain : (phase : Phase) (t : List ℕ) (even blank : Bool) (bytes : List ℕ) (n : ℕ) → phase ≡ Within → blank ≡ false → Tells phase t even blank → n ≡ prefix_len is_plain (take (65535 - length t) bytes) →
    Tells phase (t ++ take n bytes) even blank × (items_from (place_of phase t) (take n bytes) ≡ []) × (place_from (place_of phase t) (take n bytes) ≡ place_of phase (t ++ take n bytes))
after_plain Ended t even blank bytes n is shows tells count = absurd (cc)
after_plain Past t even blank bytes n is shows tells count = absurd (cc)
after_plain Within t even blank bytes n is shows tells count =
    let plain : list_all is_plain (take n bytes) ≡ true = rw count (front_plain is_plain (65535 - length t) bytes) in
    let most : n ≤ 65535 - length t = omega (arith, count, prefix_len-le-length is_plain (take (65535 - length t) bytes), length-take (65535 - length t) bytes) in
    let short : length (t ++ take n bytes) < 65536 = omega (arith, tells.0, most, length-append t (take n bytes), length-take n bytes) in
    let run = plain_run t (take n bytes) plain short in
    ((short, tells.1 ∙ sym (plain_quotes t (take n bytes) plain), shows ∙ sym (still_shows t (take n bytes) (sym tells.2 ∙ shows))), run.0, run.1)

-- all bytes from a place on
pub rest_whole : (s : List ℕ) (m : ℕ) → take (length s - m) (drop m s) ≡ drop m s
rest_whole s m = take_all (length s - m) (drop m s) (omega (arith, length-drop m s))
