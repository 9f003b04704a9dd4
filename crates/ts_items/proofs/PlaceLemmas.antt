-- Where a script stands behind its parts.
use Rattle.std.proofs.Common.{◌≡◌, ℕ, ◌<◌, Bool, true, false, List, [], ◌∷◌, ◌++◌, length, refl, sym, ◌∙◌, ap, append_assoc, length-append, Option, Some, None, arith, if◌then◌else◌}
use Rattle.std.proofs.lemmas.List.{append-nil}
use Rattle.std.specs.List.{flat_map, AllByRecursion}
use Rattle.ts_items.specs.Items.{Item, Statement, TooLong, after, place_from, all_blank, is_unended_at}
use Rattle.ts_items.specs.Parts.{IsOpen, HasNoEnd, Part, Whole, Blanks, Long, spelling, IsPart, Rest, Open, Skipped, rest_spelling, IsRest, Splits, is_unended_rest}
use Rattle.ts_items.proofs.ItemLemmas.{past_end, past_more, blank_end, statement_end, blank_limit, too_long, goes_on}
use Rattle.ts_items.proofs.PartsLemmas.{goes, regroup, blank_open}

-- a byte later
one_byte : (place next : Option (List ℕ)) (b : ℕ) (bytes : List ℕ) (items : List Item) → after place b ≡ (items, next) → place_from place (b ∷ bytes) ≡ place_from next bytes
one_byte place next b bytes items e = ap (λ (x : List Item × Option (List ℕ)). place_from x.1 bytes) e

-- within a statement
within_open : (t text more : List ℕ) → IsOpen (t ++ text) → length (t ++ text) < 65536 → place_from (Some t) (text ++ more) ≡ place_from (Some (t ++ text)) more
within_open t [] more opn short = rw (append-nil t) refl
within_open t (b ∷ text) more opn short =
    let step : after (Some t) b ≡ ([], Some (t ++ b ∷ [])) = goes_on t b (goes t b text opn) (λ e. omega (arith, length-append t (b ∷ text), length-append t (b ∷ []), e)) in
    let g : (t ++ b ∷ []) ++ text ≡ t ++ b ∷ text = regroup t b text in
    one_byte (Some t) (Some (t ++ b ∷ [])) b (text ++ more) [] step ∙ within_open (t ++ b ∷ []) text more (rw g opn) (rw g short) ∙ ap (λ (l : List ℕ). place_from (Some l) more) g

-- behind 65536 bytes of a statement
behind_limit : (t text more : List ℕ) (blank : Bool) → 0 < length text → length (t ++ text) ≡ 65536 → all_blank (t ++ text) ≡ blank → IsOpen (t ++ text) → place_from (Some t) (text ++ more) ≡ place_from (if blank then Some [] else None) more
behind_limit t [] more blank some size is opn = absurd (omega arith)
behind_limit t (b ∷ []) more true some size is opn = one_byte (Some t) (Some []) b more [] (blank_limit t b (goes t b [] opn) size is)
behind_limit t (b ∷ []) more false some size is opn = one_byte (Some t) None b more (TooLong ∷ []) (too_long t b (goes t b [] opn) size is)
behind_limit t (b ∷ c ∷ text) more blank some size is opn =
    let step : after (Some t) b ≡ ([], Some (t ++ b ∷ [])) = goes_on t b (goes t b (c ∷ text) opn) (λ e. omega (arith, length-append t (b ∷ c ∷ text), length-append t (b ∷ []), e)) in
    let g : (t ++ b ∷ []) ++ (c ∷ text) ≡ t ++ b ∷ c ∷ text = regroup t b (c ∷ text) in
    one_byte (Some t) (Some (t ++ b ∷ [])) b ((c ∷ text) ++ more) [] step ∙ (behind_limit (t ++ b ∷ []) (c ∷ text) more blank (omega arith) (rw g size) (rw g is) (rw g opn))

-- behind the front of a long statement
behind_long : (text more : List ℕ) → HasNoEnd text → place_from None (text ++ more) ≡ place_from None more
behind_long [] more none = refl
behind_long (b ∷ text) more none = one_byte None None b (text ++ more) [] (past_more b (λ e. none [] text (ap (λ (c : ℕ). c ∷ text) e))) ∙ (behind_long text more (λ front rest e. none (b ∷ front) rest (ap (λ (l : List ℕ). b ∷ l) e)))

-- behind a part a statement begins
behind_part : (part : Part) (more : List ℕ) → IsPart part → place_from (Some []) (spelling part ++ more) ≡ place_from (Some []) more
behind_part (Whole text) more is =
    ap (place_from (Some [])) (append_assoc text (59 ∷ []) more) ∙ within_open [] text (59 ∷ more) is.0 is.2 ∙ by_blank (all_blank text) refl where
      by_blank : (b : Bool) → all_blank text ≡ b → place_from (Some text) (59 ∷ more) ≡ place_from (Some []) more
      by_blank true t = one_byte (Some text) (Some []) 59 more [] (blank_end text 59 refl is.1 t)
      by_blank false f = one_byte (Some text) (Some []) 59 more (Statement (text ++ 59 ∷ []) ∷ []) (statement_end text 59 refl is.1 f)
behind_part (Blanks text) more is = behind_limit [] text more true (omega (arith, is.0)) is.0 is.1 (blank_open text is.1)
behind_part (Long text skipped) more is =
    ap (place_from (Some [])) (append_assoc text (skipped ++ 59 ∷ []) more) ∙ behind_limit [] text ((skipped ++ 59 ∷ []) ++ more) false (omega (arith, is.0)) is.0 is.2 is.1
    ∙ ap (place_from None) (append_assoc skipped (59 ∷ []) more) ∙ behind_long skipped (59 ∷ more) is.3 ∙ one_byte None (Some []) 59 more [] (past_end 59 refl)

-- how the rest ends
at_rest : (rest : Rest) → IsRest rest → is_unended_at (place_from (Some []) (rest_spelling rest)) ≡ is_unended_rest rest
at_rest (Open text) is = ap is_unended_at (ap (place_from (Some [])) (sym (append-nil text)) ∙ within_open [] text [] is.0 is.1)
at_rest (Skipped text skipped) is =
    ap is_unended_at (behind_limit [] text skipped false (omega (arith, is.0)) is.0 is.2 is.1 ∙ ap (place_from None) (sym (append-nil skipped)) ∙ behind_long skipped [] is.3)

behind_parts : (parts : List Part) (rest : Rest) → AllByRecursion IsPart parts → IsRest rest → is_unended_at (place_from (Some []) (flat_map spelling parts ++ rest_spelling rest)) ≡ is_unended_rest rest
behind_parts [] rest each last = at_rest rest last
behind_parts (part ∷ parts) rest each last =
    ap is_unended_at (ap (place_from (Some [])) (append_assoc (spelling part) (flat_map spelling parts) (rest_spelling rest)) ∙ behind_part part (flat_map spelling parts ++ rest_spelling rest) each.0)
    ∙ behind_parts parts rest each.1 last

-- Whatever parts a script is made of, it is unended exactly where its rest is.
pub unended_of_split : (bytes : List ℕ) (parts : List Part) (rest : Rest) → Splits bytes parts rest → is_unended_at (place_from (Some []) bytes) ≡ is_unended_rest rest
unended_of_split bytes parts rest splits = ap (λ (l : List ℕ). is_unended_at (place_from (Some []) l)) splits.whole ∙ behind_parts parts rest splits.each splits.last
