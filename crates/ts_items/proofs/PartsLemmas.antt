-- The items of parts.
use Rattle.std.proofs.Common.{◌≡◌, ◌⊎◌, ℕ, ◌<◌, ◌==◌, ◌&&◌, Bool, true, false, List, [], ◌∷◌, ◌++◌, length, refl, sym, ◌∙◌, ap, append_assoc, length-append, Some, None, arith, inl, inr}
use Rattle.std.proofs.lemmas.Bool.{cases_eq, cases_Bool}
use Rattle.std.proofs.lemmas.Bool.Decides.{nat_tests}
use Rattle.std.proofs.lemmas.List.{append-nil}
use Rattle.std.specs.List.{flat_map, AllByRecursion}
use Rattle.ts_items.specs.Items.{Item, TooLong, after, items_from, all_blank, quotes_match}
use Rattle.ts_items.specs.Parts.{IsOpen, HasNoEnd, Part, Whole, Blanks, Long, spelling, IsPart, Rest, Open, Skipped, rest_spelling, IsRest, Splits, item_of_part, item_of_rest}
use Rattle.ts_items.proofs.ItemLemmas.{past_end, past_more, blank_end, statement_end, blank_limit, too_long, goes_on, GoesOn}

-- a byte of an opn text doesn't end its statement
pub goes : (t : List ℕ) (b : ℕ) (text : List ℕ) → IsOpen (t ++ b ∷ text) → GoesOn t b
goes t b text opn = elim (cases_eq b 59) [
  | inl is ↦ let odd : quotes_match t ≡ false = opn t text (ap (λ (c : ℕ). t ++ c ∷ text) is) in rw (is, odd) refl
  | inr other ↦ let differs : (b == 59) ≡ false = grind (arith, nat_tests) in rw differs refl
]

pub regroup : (t : List ℕ) (b : ℕ) (text : List ℕ) → (t ++ b ∷ []) ++ text ≡ t ++ b ∷ text
regroup t b text = append_assoc t (b ∷ []) text

-- an opn text is read as the front of a statement
pub run_open : (t text more : List ℕ) → IsOpen (t ++ text) → length (t ++ text) < 65536 → items_from (Some t) (text ++ more) ≡ items_from (Some (t ++ text)) more
run_open t [] more opn short = rw (append-nil t) refl
run_open t (b ∷ text) more opn short =
    let step : after (Some t) b ≡ ([], Some (t ++ b ∷ [])) = goes_on t b (goes t b text opn) (λ e. omega (arith, length-append t (b ∷ text), length-append t (b ∷ []), e)) in
    let g : (t ++ b ∷ []) ++ text ≡ t ++ b ∷ text = regroup t b text in
    rw step (run_open (t ++ b ∷ []) text more (rw g opn) (rw g short) ∙ ap (λ (l : List ℕ). items_from (Some l) more) g)

-- blanks alone are read up to their number
run_blanks : (t text more : List ℕ) → 0 < length text → length (t ++ text) ≡ 65536 → all_blank (t ++ text) ≡ true → IsOpen (t ++ text) → items_from (Some t) (text ++ more) ≡ items_from (Some []) more
run_blanks t [] more some size blank opn = absurd (omega arith)
run_blanks t (b ∷ []) more some size blank opn = rw (blank_limit t b (goes t b [] opn) size blank) refl
run_blanks t (b ∷ c ∷ text) more some size blank opn =
    let step : after (Some t) b ≡ ([], Some (t ++ b ∷ [])) = goes_on t b (goes t b (c ∷ text) opn) (λ e. omega (arith, length-append t (b ∷ c ∷ text), length-append t (b ∷ []), e)) in
    let g : (t ++ b ∷ []) ++ (c ∷ text) ≡ t ++ b ∷ c ∷ text = regroup t b (c ∷ text) in
    rw step (run_blanks (t ++ b ∷ []) (c ∷ text) more (omega arith) (rw g size) (rw g blank) (rw g opn))

run_long : (t text more : List ℕ) → 0 < length text → length (t ++ text) ≡ 65536 → all_blank (t ++ text) ≡ false → IsOpen (t ++ text) → items_from (Some t) (text ++ more) ≡ TooLong ∷ items_from None more
run_long t [] more some size blank opn = absurd (omega arith)
run_long t (b ∷ []) more some size blank opn = rw (too_long t b (goes t b [] opn) size blank) refl
run_long t (b ∷ c ∷ text) more some size blank opn =
    let step : after (Some t) b ≡ ([], Some (t ++ b ∷ [])) = goes_on t b (goes t b (c ∷ text) opn) (λ e. omega (arith, length-append t (b ∷ c ∷ text), length-append t (b ∷ []), e)) in
    let g : (t ++ b ∷ []) ++ (c ∷ text) ≡ t ++ b ∷ c ∷ text = regroup t b (c ∷ text) in
    rw step (run_long (t ++ b ∷ []) (c ∷ text) more (omega arith) (rw g size) (rw g blank) (rw g opn))

run_skip : (text more : List ℕ) → HasNoEnd text → items_from None (text ++ more) ≡ items_from None more
run_skip [] more none = refl
run_skip (b ∷ text) more none = rw (past_more b (λ e. none [] text (ap (λ (c : ℕ). c ∷ text) e))) (run_skip text more (λ front rest e. none (b ∷ front) rest (ap (λ (l : List ℕ). b ∷ l) e)))

-- blanks hold no ';'
blank_no_end : (text : List ℕ) → all_blank text ≡ true → HasNoEnd text
blank_no_end [] blank [] rest e = absurd (cc)
blank_no_end [] blank (c ∷ front) rest e = absurd (cc)
blank_no_end (b ∷ text) blank [] rest e = let is : b ≡ 59 = cc in absurd (let no = rw is at blank in cc)
blank_no_end (b ∷ text) blank (c ∷ front) rest e = blank_no_end text (elim (cases_Bool (all_blank text)) [ inl t ↦ t | inr f ↦ grind (arith, nat_tests) ]) front rest (cc)

pub blank_open : (text : List ℕ) → all_blank text ≡ true → IsOpen text
blank_open text blank front rest e = absurd (blank_no_end text blank front rest e)

part_items : (part : Part) (more : List ℕ) → IsPart part → items_from (Some []) (spelling part ++ more) ≡ item_of_part part ++ items_from (Some []) more
part_items (Whole text) more is =
    ap (items_from (Some [])) (append_assoc text (59 ∷ []) more) ∙ run_open [] text (59 ∷ more) is.0 is.2 ∙ by_blank (all_blank text) refl where
      by_blank : (b : Bool) → all_blank text ≡ b → items_from (Some text) (59 ∷ more) ≡ item_of_part (Whole text) ++ items_from (Some []) more
      by_blank true t = rw (blank_end text 59 refl is.1 t, t) refl
      by_blank false f = rw (statement_end text 59 refl is.1 f, f) refl
part_items (Blanks text) more is = run_blanks [] text more (omega (arith, is.0)) is.0 is.1 (blank_open text is.1)
part_items (Long text skipped) more is =
    ap (items_from (Some [])) (append_assoc text (skipped ++ 59 ∷ []) more) ∙ run_long [] text ((skipped ++ 59 ∷ []) ++ more) (omega (arith, is.0)) is.0 is.2 is.1
    ∙ ap (λ (l : List Item). TooLong ∷ l) (ap (items_from None) (append_assoc skipped (59 ∷ []) more) ∙ run_skip skipped (59 ∷ more) is.3 ∙ rw (past_end 59 refl) refl)

rest_items : (rest : Rest) → IsRest rest → items_from (Some []) (rest_spelling rest) ≡ item_of_rest rest
rest_items (Open text) is = ap (items_from (Some [])) (sym (append-nil text)) ∙ run_open [] text [] is.0 is.1
rest_items (Skipped text skipped) is = run_long [] text skipped (omega (arith, is.0)) is.0 is.2 is.1 ∙ ap (λ (l : List Item). TooLong ∷ l) (ap (items_from None) (sym (append-nil skipped)) ∙ run_skip skipped [] is.3)

parts_items : (parts : List Part) (rest : Rest) → AllByRecursion IsPart parts → IsRest rest → items_from (Some []) (flat_map spelling parts ++ rest_spelling rest) ≡ flat_map item_of_part parts ++ item_of_rest rest
parts_items [] rest each last = rest_items rest last
parts_items (part ∷ parts) rest each last =
    ap (items_from (Some [])) (append_assoc (spelling part) (flat_map spelling parts) (rest_spelling rest))
    ∙ part_items part (flat_map spelling parts ++ rest_spelling rest) each.0
    ∙ ap (λ (l : List Item). item_of_part part ++ l) (parts_items parts rest each.1 last)
    ∙ sym (append_assoc (item_of_part part) (flat_map item_of_part parts) (item_of_rest rest))

-- Whatever parts a script is made of, its items are theirs.
pub items_of_split : (bytes : List ℕ) (parts : List Part) (rest : Rest) → Splits bytes parts rest → items_from (Some []) bytes ≡ flat_map item_of_part parts ++ item_of_rest rest
items_of_split bytes parts rest splits = ap (items_from (Some [])) splits.whole ∙ parts_items parts rest splits.each splits.last

push_cases : (t front rest : List ℕ) (b c : ℕ) → t ++ b ∷ [] ≡ front ++ c ∷ rest → ((front ≡ t) × (b ≡ c)) ⊎ ((before : List ℕ) × (t ≡ front ++ c ∷ before))
push_cases [] [] rest b c e = inl (refl, cc)
push_cases [] (x ∷ []) rest b c e = absurd (cc)
push_cases [] (x ∷ y ∷ front) rest b c e = absurd (cc)
push_cases (a ∷ t) [] rest b c e = inr (t, let is : a ≡ c = cc in cc)
push_cases (a ∷ t) (x ∷ front) rest b c e =
    let same : a ≡ x = cc in
    let tails : t ++ b ∷ [] ≡ front ++ c ∷ rest = cc in
    elim (push_cases t front rest b c tails) [
      | inl is ↦ inl (let f : front ≡ t = is.0 in cc, is.1)
      | inr is ↦ inr (is.0, let f : t ≡ front ++ c ∷ is.0 = is.1 in cc)
    ]

open_push : (t : List ℕ) (b : ℕ) → IsOpen t → GoesOn t b → IsOpen (t ++ b ∷ [])
open_push t b opn on front rest e = elim (push_cases t front rest b 59 e) [
  | inl is ↦ let odd : (b == 59 && quotes_match t) ≡ false = on in rw is.0 (rw is.1 at odd)
  | inr is ↦ opn front is.0 is.1
]

no_end_push : (t : List ℕ) (b : ℕ) → HasNoEnd t → (b ≡ 59 → ⊥) → HasNoEnd (t ++ b ∷ [])
no_end_push t b none other front rest e = elim (push_cases t front rest b 59 e) [
  | inl is ↦ other is.1
  | inr is ↦ none front is.0 is.1
]

record SplitsFrom (before bytes : List ℕ) : Type 0 where
  parts : List Part
  rest : Rest
  whole : before ++ bytes ≡ flat_map spelling parts ++ rest_spelling rest
  each : AllByRecursion IsPart parts
  last : IsRest rest

-- a part ends here
ends_part : (part : Part) (t bs bytes : List ℕ) → IsPart part → spelling part ++ bytes ≡ t ++ bs → SplitsFrom [] bytes → SplitsFrom t bs
ends_part part t bs bytes is e more = record {
  parts = part ∷ more.parts;
  rest = more.rest;
  whole = sym e ∙ ap (λ (l : List ℕ). spelling part ++ l) more.whole ∙ sym (append_assoc (spelling part) (flat_map spelling more.parts) (rest_spelling more.rest));
  each = (is, more.each);
  last = more.last;
}

ends_is : (b : ℕ) (q : Bool) → (b == 59 && q) ≡ true → (b ≡ 59) × (q ≡ true)
ends_is b q e = elim (cases_eq b 59) [
  | inl is ↦ (is, elim (cases_Bool q) [ inl t ↦ t | inr f ↦ grind (arith, nat_tests) ])
  | inr other ↦ let differs : (b == 59) ≡ false = grind (arith, nat_tests) in absurd (let no = rw differs at e in cc)
]

moved : (a b c d : List ℕ) → a ++ b ≡ c ++ d → SplitsFrom a b → SplitsFrom c d
moved a b c d e s = record { parts = s.parts; rest = s.rest; whole = sym e ∙ s.whole; each = s.each; last = s.last }

record Both (bytes : List ℕ) : Type 0 where
  within : (t : List ℕ) → IsOpen t → length t < 65536 → SplitsFrom t bytes
  past : (t skipped : List ℕ) → length t ≡ 65536 → IsOpen t → all_blank t ≡ false → HasNoEnd skipped → SplitsFrom (t ++ skipped) bytes

nothing_ends : HasNoEnd []
nothing_ends [] rest e = absurd (cc)
nothing_ends (b ∷ front) rest e = absurd (cc)

nothing_open : IsOpen []
nothing_open front rest e = absurd (nothing_ends front rest e)

both : (bytes : List ℕ) → Both bytes
both [] = record {
  within = λ t opn short. record { parts = []; rest = Open t; whole = append-nil t; each = tt; last = (opn, short) };
  past = λ t skipped size opn blank none. record { parts = []; rest = Skipped t skipped; whole = append-nil (t ++ skipped); each = tt; last = (size, opn, blank, none) };
}
both (b ∷ bytes) = go (both bytes) where
  go : Both bytes → Both (b ∷ bytes)
  go more = record {
    within = λ t opn short. elim (cases_Bool (b == 59 && quotes_match t)) [
      | inl t1 ↦ let is = ends_is b (quotes_match t) t1 in ends_part (Whole t) t (b ∷ bytes) bytes (opn, is.1, short) (regroup t 59 bytes ∙ ap (λ (c : ℕ). t ++ c ∷ bytes) (sym is.0)) (more.within [] nothing_open (omega arith))
      | inr on ↦ elim (cases_eq (length (t ++ b ∷ [])) 65536) [
        | inl size ↦ elim (cases_Bool (all_blank (t ++ b ∷ []))) [
          | inl blank ↦ ends_part (Blanks (t ++ b ∷ [])) t (b ∷ bytes) bytes (size, blank) (regroup t b bytes) (more.within [] nothing_open (omega arith))
          | inr shows ↦ moved ((t ++ b ∷ []) ++ []) bytes t (b ∷ bytes) (ap (λ (l : List ℕ). l ++ bytes) (append-nil (t ++ b ∷ [])) ∙ regroup t b bytes) (more.past (t ++ b ∷ []) [] size (open_push t b opn on) shows nothing_ends)
        ]
        | inr less ↦ moved (t ++ b ∷ []) bytes t (b ∷ bytes) (regroup t b bytes) (more.within (t ++ b ∷ []) (open_push t b opn on) (omega (arith, length-append t (b ∷ []), less)))
      ]
    ];
    past = λ t skipped size opn blank none. elim (cases_eq b 59) [
      | inl is ↦ ends_part (Long t skipped) (t ++ skipped) (b ∷ bytes) bytes (size, opn, blank, none) (append_assoc t (skipped ++ 59 ∷ []) bytes ∙ ap (λ (l : List ℕ). t ++ l) (regroup skipped 59 bytes ∙ ap (λ (c : ℕ). skipped ++ c ∷ bytes) (sym is)) ∙ sym (append_assoc t skipped (b ∷ bytes))) (more.within [] nothing_open (omega arith))
      | inr other ↦ moved (t ++ (skipped ++ b ∷ [])) bytes (t ++ skipped) (b ∷ bytes) (append_assoc t (skipped ++ b ∷ []) bytes ∙ ap (λ (l : List ℕ). t ++ l) (regroup skipped b bytes) ∙ sym (append_assoc t skipped (b ∷ bytes))) (more.past t (skipped ++ b ∷ []) size opn blank (no_end_push skipped b none other))
    ];
  }

-- Each script is made of parts.
pub split_of : (bytes : List ℕ) → (parts : List Part) × (rest : Rest) × Splits bytes parts rest
split_of bytes = let s = (both bytes).within [] nothing_open (omega arith) in (s.parts, s.rest, record { whole = s.whole; each = s.each; last = s.last })
