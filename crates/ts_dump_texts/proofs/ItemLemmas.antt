-- A script of lines is cut into them.
use Rattle.std.proofs.Common.{◌≡◌, ℕ, ◌+◌, ◌%◌, ◌<◌, ◌≤◌, ◌==◌, ◌&&◌, not, Bool, true, false, cond, Option, Some, Result, Ok, Err, List, [], ◌∷◌, ◌++◌, length, map, refl, ap, sym, ◌∙◌, length-append, arith, inl, inr, ◌⊎◌, add-zero}
use Rattle.std.specs.Prelude.{count_by}
use Rattle.std.proofs.lemmas.Bool.{cases_Bool, and_parts}
use Rattle.std.proofs.lemmas.Bool.Decides.{nat_tests}
use Rattle.std.proofs.lemmas.List.{append-nil, append_assoc}
use Rattle.std.proofs.lemmas.List.Folds.{list_all-append}
use Rattle.std.proofs.lemmas.List.Sums.{sum_by-append, sum_by-cons}
use Rattle.ts_base.specs.Name.{is_blank}
use Rattle.ts_text.specs.Phrase.{Read, outcome}
use Rattle.ts_items.specs.Items.{Item, Statement, Unended, all_blank, quotes_match, after, items_from, place_from, is_unended_at}
use Rattle.ts_items.proofs.ItemLaws.{items_from-append, place_from-append}
use Rattle.ts_command.specs.declared.command.Command.{Command}
use Rattle.ts_command.specs.Grammar.{a_routine, a_call, a_command, command_of, Request, or_syntax, request_of}
use Rattle.ts_dump_texts.specs.Script.{script_of, ends_once, IsLine, AreLines, ScriptsAskForLines}

-- one quote more
parity : (n : ℕ) → ((n + 1) % 2 == 0) ≡ not (n % 2 == 0)
parity n = elim (cases_Bool (n % 2 == 0)) [
  | inl even ↦ grind (arith, nat_tests)
  | inr odd ↦ grind (arith, nat_tests)
]

one_counted : (p : ℕ → Bool) (b : ℕ) → count_by p (b ∷ []) ≡ cond (p b) 1 0
one_counted p b = sum_by-cons (λ (x : ℕ). cond (p x) 1 0) b [] ∙ add-zero (cond (p b) 1 0)

count_joined : (p : ℕ → Bool) (xs ys : List ℕ) → count_by p (xs ++ ys) ≡ count_by p xs + count_by p ys
count_joined p xs ys = sum_by-append (λ (x : ℕ). cond (p x) 1 0) xs ys

abbrev is_quote : ℕ → Bool
is_quote b = b == 39

quote_more : (text : List ℕ) → quotes_match (text ++ 39 ∷ []) ≡ not (quotes_match text)
quote_more text =
    ap (λ (n : ℕ). n % 2 == 0) (count_joined is_quote text (39 ∷ []) ∙ ap (λ (n : ℕ). count_by is_quote text + n) (one_counted is_quote 39)) ∙ parity (count_by is_quote text)

other_more : (text : List ℕ) (b : ℕ) → (b == 39) ≡ false → quotes_match (text ++ b ∷ []) ≡ quotes_match text
other_more text b other =
    ap (λ (n : ℕ). n % 2 == 0)
    (count_joined is_quote text (b ∷ []) ∙ ap (λ (n : ℕ). count_by is_quote text + n) (one_counted is_quote b ∙ ap (λ (t : Bool). cond t 1 0) other) ∙ add-zero (count_by is_quote text))

-- the cut behind some bytes of a statement
record IsCut (text bytes : List ℕ) : Type 0 where
  items : items_from (Some text) bytes ≡ Statement (text ++ bytes) ∷ []
  place : place_from (Some text) bytes ≡ Some []

-- a byte that ends nothing
goes_on : (text : List ℕ) (b : ℕ) → ((b == 59) && quotes_match text) ≡ false → length text + 1 < 65536 → after (Some text) b ≡ ([], Some (text ++ b ∷ []))
unfolding after
goes_on text b other short =
    let size : (length (text ++ b ∷ []) == 65536) ≡ false = let l = length-append text (b ∷ []) in grind (arith, nat_tests) in
    rw (other, size) refl

ends_here : (text : List ℕ) → quotes_match text ≡ true → all_blank text ≡ false → after (Some text) 59 ≡ (Statement (text ++ 59 ∷ []) ∷ [], Some [])
unfolding after
ends_here text even some = rw (even, some) refl

step_on : (text : List ℕ) (b : ℕ) (bytes : List ℕ) → after (Some text) b ≡ ([], Some (text ++ b ∷ [])) → IsCut (text ++ b ∷ []) bytes → IsCut text (b ∷ bytes)
step_on text b bytes on rest = record {
  items = ap (λ (x : List Item × Option (List ℕ)). x.0 ++ items_from x.1 bytes) on ∙ rest.items ∙ ap (λ (l : List ℕ). Statement l ∷ []) (append_assoc text (b ∷ []) bytes);
  place = ap (λ (x : List Item × Option (List ℕ)). place_from x.1 bytes) on ∙ rest.place;
}

nothing_left : (bytes : List ℕ) → (length bytes == 0) ≡ true → bytes ≡ []
nothing_left [] is = refl
nothing_left (b ∷ bytes) is = absurd (let no : ⊥ = grind (arith, nat_tests) in no)

still_some : (text : List ℕ) (b : ℕ) → all_blank text ≡ false → all_blank (text ++ b ∷ []) ≡ false
still_some text b some = list_all-append is_blank text (b ∷ []) ∙ ap (λ (t : Bool). t && (is_blank b && true)) some

some_left : (inside : Bool) (bytes : List ℕ) → ends_once inside bytes ≡ true → 1 ≤ length bytes
some_left inside [] once = absurd (let no : ⊥ = cc in no)
some_left inside (b ∷ bytes) once = omega arith

-- behind text that isn't blank, the bytes up to the `;`
cut : (bytes text : List ℕ) (inside : Bool) → quotes_match text ≡ not inside → all_blank text ≡ false → ends_once inside bytes ≡ true → length text + length bytes ≤ 65536 → IsCut text bytes
cut [] text inside even some once short = absurd (let no : ⊥ = cc in no)
cut (b ∷ bytes) text inside even some once short = elim (cases_Bool (b == 39)) [
  | inl quote ↦
      let is : b ≡ 39 = grind (arith, nat_tests) in
      let later : ends_once (not inside) bytes ≡ true = rw quote at once in
      let other : ((b == 59) && quotes_match text) ≡ false = let no : (b == 59) ≡ false = grind (arith, nat_tests) in rw no refl in
      let left = some_left (not inside) bytes later in
      let more : quotes_match (text ++ b ∷ []) ≡ not (not inside) = ap (λ (c : ℕ). quotes_match (text ++ c ∷ [])) is ∙ quote_more text ∙ ap not even in
      step_on text b bytes (goes_on text b other (omega (arith, short, left))) (cut bytes (text ++ b ∷ []) (not inside) more (still_some text b some) later (let l = length-append text (b ∷ []) in omega (arith, short, l)))
  | inr plain ↦ elim (cases_Bool ((b == 59) && not inside)) [
    | inl last ↦
        let parts = and_parts (b == 59) (not inside) last in
        let is : b ≡ 59 = let first = parts.0 in grind (arith, nat_tests) in
        let none : bytes ≡ [] = nothing_left bytes (rw (plain, last) at once) in
        let ends = ap (after (Some text)) is ∙ ends_here text (even ∙ parts.1) some in
        record {
          items = ap (λ (l : List ℕ). (after (Some text) b).0 ++ items_from (after (Some text) b).1 l) none ∙ append-nil (after (Some text) b).0 ∙ ap (λ (x : List Item × Option (List ℕ)). x.0) ends
              ∙ (λ i. Statement (text ++ sym is i ∷ sym none i) ∷ []);
          place = ap (λ (l : List ℕ). place_from (after (Some text) b).1 l) none ∙ ap (λ (x : List Item × Option (List ℕ)). x.1) ends;
        }
    | inr on ↦
        let later : ends_once inside bytes ≡ true = rw (plain, on) at once in
        let other : ((b == 59) && quotes_match text) ≡ false = ap (λ (t : Bool). (b == 59) && t) even ∙ on in
        let left = some_left inside bytes later in
        step_on text b bytes (goes_on text b other (omega (arith, short, left))) (cut bytes (text ++ b ∷ []) inside (other_more text b plain ∙ even) (still_some text b some) later (let l = length-append text (b ∷ []) in omega (arith, short, l)))
  ]
]

-- a line behind blanks: a first byte that is none
line_cut : (blanks text : List ℕ) → blanks ≡ [] ⊎ blanks ≡ 10 ∷ [] → IsLine text → IsCut blanks text
line_cut blanks [] before line = absurd (let no = line.word in cc)
line_cut blanks (b ∷ bytes) before line =
    let begins = line.word in
    let plain : (b == 39) ≡ false = grind (arith, nat_tests) in
    let other : (b == 59) ≡ false = grind (arith, nat_tests) in
    let solid : is_blank b ≡ false = grind (arith, nat_tests) in
    let short = line.short in
    let later : ends_once false bytes ≡ true = rw (plain, other) at line.once in
    let few : length blanks ≤ 1 = elim before [ inl none ↦ let l = ap (λ (x : List ℕ). length x) none in omega (arith, l) | inr one ↦ let l = ap (λ (x : List ℕ). length x) one in omega (arith, l) ] in
    let even : quotes_match blanks ≡ true = elim before [ inl none ↦ ap quotes_match none | inr one ↦ ap quotes_match one ] in
    let some : all_blank (blanks ++ b ∷ []) ≡ false = list_all-append is_blank blanks (b ∷ []) ∙ ap (λ (t : Bool). all_blank blanks && (t && true)) solid ∙ nothing (all_blank blanks) in
    step_on blanks b bytes (goes_on blanks b (ap (λ (t : Bool). t && quotes_match blanks) other) (omega (arith, few)))
    (cut bytes (blanks ++ b ∷ []) false (other_more blanks b plain ∙ even) some later (let l = length-append blanks (b ∷ []) in omega (arith, l, few, short)))
  where
    nothing : (t : Bool) → (t && false) ≡ false
    nothing true = refl
    nothing false = refl

-- what a statement is read as, also behind a line feed
behind_feed : (text : List ℕ) → a_command (10 ∷ text) ≡ a_command text
unfolding a_command a_call a_routine
behind_feed text = refl

as_read : (size : ℕ) (other : ℕ) (r : Read Command) (command : Command) → outcome size r ≡ Ok command → outcome other r ≡ Ok command
as_read size other (Ok found) command is = is
as_read size other (Err left) command is = absurd (let no : ⊥ = cc in no)

read_behind : (blanks text : List ℕ) (command : Command) → blanks ≡ [] ⊎ blanks ≡ 10 ∷ [] → command_of text ≡ Ok command → command_of (blanks ++ text) ≡ Ok command
read_behind blanks text command (inl none) is = ap (λ (l : List ℕ). command_of (l ++ text)) none ∙ is
read_behind blanks text command (inr one) is =
    ap (λ (l : List ℕ). command_of (l ++ text)) one ∙ ap (outcome (length (10 ∷ text))) (behind_feed text) ∙ as_read (length text) (length (10 ∷ text)) (a_command text) command is

-- line by line
feed_on : after (Some []) 10 ≡ ([], Some (10 ∷ []))
unfolding after
feed_on = refl

record AreAsked (blanks bytes : List ℕ) (list : List Command) : Type 0 where
  asked : map request_of (items_from (Some blanks) bytes) ≡ map (λ (c : Command). let r : Request = Ok c in r) list
  place : (place_from (Some blanks) bytes ≡ Some []) ⊎ (place_from (Some blanks) bytes ≡ Some (10 ∷ []))

lines_asked : (texts : List (List ℕ)) (list : List Command) (blanks : List ℕ) → blanks ≡ [] ⊎ blanks ≡ 10 ∷ [] → AreLines texts
    → map command_of texts ≡ map (λ (c : Command). let r : Result Command ℕ = Ok c in r) list → AreAsked blanks (script_of texts) list
lines_asked [] [] blanks before lines read = record { asked = refl; place = elim before [ inl none ↦ inl (ap (λ (l : List ℕ). Some l) none) | inr one ↦ inr (ap (λ (l : List ℕ). Some l) one) ] }
lines_asked [] (c ∷ list) blanks before lines read = absurd (let no : ⊥ = cc in no)
lines_asked (text ∷ texts) [] blanks before lines read = absurd (let no : ⊥ = cc in no)
lines_asked (text ∷ texts) (c ∷ list) blanks before lines read =
    let first : command_of text ≡ Ok c = cc in
    let others : map command_of texts ≡ map (λ (x : Command). let r : Result Command ℕ = Ok x in r) list = cc in
    let one = line_cut blanks text before lines.0 in
    let rest = lines_asked texts list (10 ∷ []) (inr refl) lines.1 others in
    let more : List ℕ = script_of texts in
    let split : script_of (text ∷ texts) ≡ text ++ 10 ∷ more = append_assoc text (10 ∷ []) more in
    let fed : items_from (Some []) (10 ∷ more) ≡ items_from (Some (10 ∷ [])) more = ap (λ (x : List Item × Option (List ℕ)). x.0 ++ items_from x.1 more) feed_on in
    let placed : place_from (Some []) (10 ∷ more) ≡ place_from (Some (10 ∷ [])) more = ap (λ (x : List Item × Option (List ℕ)). place_from x.1 more) feed_on in
    let all : items_from (Some blanks) (script_of (text ∷ texts)) ≡ Statement (blanks ++ text) ∷ items_from (Some (10 ∷ [])) more =
    ap (items_from (Some blanks)) split ∙ items_from-append (Some blanks) text (10 ∷ more)
    ∙ (λ i. one.items i ++ items_from (one.place i) (10 ∷ more))
    ∙ ap (λ (l : List Item). Statement (blanks ++ text) ∷ l) fed in
    let at : place_from (Some blanks) (script_of (text ∷ texts)) ≡ place_from (Some (10 ∷ [])) more =
    ap (place_from (Some blanks)) split ∙ place_from-append (Some blanks) text (10 ∷ more) ∙ ap (λ (p : Option (List ℕ)). place_from p (10 ∷ more)) one.place ∙ placed in
    record {
      asked = ap (map request_of) all ∙ (λ i. ap or_syntax (read_behind blanks text c before first) i ∷ rest.asked i);
      place = elim rest.place [ inl none ↦ inl (at ∙ none) | inr fed ↦ inr (at ∙ fed) ];
    }

ended_so : (place : Option (List ℕ)) → (place ≡ Some []) ⊎ (place ≡ Some (10 ∷ [])) → is_unended_at place ≡ false
ended_so place (inl none) = ap is_unended_at none
ended_so place (inr one) = ap is_unended_at one

pub scripts_ask : ScriptsAskForLines
scripts_ask texts list lines read =
    let all = lines_asked texts list [] (inl refl) lines read in
    (all.asked, ap (λ (t : Bool). map request_of (cond t (Unended ∷ []) [])) (ended_so (place_from (Some []) (script_of texts)) all.place))
