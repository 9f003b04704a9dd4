-- The first line of a text, and its first section.
use Rattle.std.proofs.Common.{◌≡◌, ℕ, suc, ◌+◌, ◌<◌, ◌≤◌, true, false, nat_le, List, [], ◌∷◌, ◌++◌, length, map, take, drop, Some, None, refl, sym, ◌∙◌, ap, arith, append_assoc, length-append, inl, inr}
use Rattle.std.proofs.Math.Seq.{take-add}
use Rattle.std.proofs.lemmas.Bool.{cases_Bool}
use Rattle.std.proofs.lemmas.Bool.Decides.{nat_tests}
use Rattle.std.proofs.lemmas.List.{append-nil, drop-drop, take_all, drop_all, length-drop}
use Rattle.std.specs.List.{position_or_len, concat, slice_split, onto_first}
use Rattle.ts_multi.specs.Sections.{onto, is_line_feed, lines, first_line, is_mark, sections_of, sections, few_sections}

-- fronts before the first of some texts
pub onto-onto : (a b : List ℕ) (texts : List (List ℕ)) → onto a (onto b texts) ≡ onto (a ++ b) texts
onto-onto a b [] = refl
onto-onto a b (text ∷ texts) = ap (λ (t : List ℕ). t ∷ texts) (sym (append_assoc a b text))

onto-nothing : (texts : List (List ℕ)) → 0 < length texts → onto [] texts ≡ texts
onto-nothing [] some = absurd (omega arith)
onto-nothing (text ∷ texts) some = refl

onto_some : (front : List ℕ) (texts : List (List ℕ)) → 0 < length (onto front texts)
onto_some front [] = omega arith
onto_some front (text ∷ texts) = omega arith

-- there is always a section
pub some_section : (ls : List (List ℕ)) → 0 < length (sections_of ls)
some_section [] = omega arith
some_section (line ∷ ls) = elim (cases_Bool (is_mark line)) [
  | inl t ↦ rw t (omega arith)
  | inr f ↦ rw f (onto_some line (sections_of ls))
]

pub onto-sections : (bytes : List ℕ) → sections bytes ≡ onto [] (sections bytes)
onto-sections bytes = sym (onto-nothing (sections bytes) (some_section (lines bytes)))

-- the first line
first_line-once : (b : ℕ) (bytes : List ℕ) → is_line_feed b ≡ true → first_line (b ∷ bytes) ≡ b ∷ []
first_line-once b bytes t = rw t refl

first_line-more : (b : ℕ) (bytes : List ℕ) → is_line_feed b ≡ false → first_line (b ∷ bytes) ≡ b ∷ first_line bytes
first_line-more b bytes f =
    let next : 1 + position_or_len is_line_feed bytes + 1 ≡ suc (position_or_len is_line_feed bytes + 1) = omega arith in
    rw (f, next) refl

-- a line is the front of its text
pub first_line-front : (text : List ℕ) → take (length (first_line text)) text ≡ first_line text
first_line-front [] = refl
first_line-front (b ∷ bytes) = elim (cases_Bool (is_line_feed b)) [
  | inl t ↦ let once = first_line-once b bytes t in rw once refl
  | inr f ↦ let more = first_line-more b bytes f in rw more (ap (λ (l : List ℕ). b ∷ l) (first_line-front bytes))
]

pub lines-first : (text : List ℕ) → 0 < length text → lines text ≡ first_line text ∷ lines (drop (length (first_line text)) text)
lines-first [] some = absurd (omega arith)
lines-first (b ∷ []) some = elim (cases_Bool (is_line_feed b)) [
  | inl t ↦ rw t refl
  | inr f ↦ rw f refl
]
lines-first (b ∷ c ∷ bytes) some =
    let inner = lines-first (c ∷ bytes) (omega arith) in
    elim (cases_Bool (is_line_feed b)) [
      | inl t ↦ let once = first_line-once b (c ∷ bytes) t in rw (once, t) refl
      | inr f ↦ let more = first_line-more b (c ∷ bytes) f in rw (more, f) (ap (onto (b ∷ [])) inner)
    ]

-- a line that is no mark goes to the section
pub section_goes_on : (text : List ℕ) (len next : ℕ) (line : List ℕ) → len < length text → line ≡ first_line (drop len text) → next ≡ len + length line → is_mark line ≡ false
    → sections text ≡ onto (take len text) (sections (drop len text)) → sections text ≡ onto (take next text) (sections (drop next text))
section_goes_on text len next line less is size plain before =
    let rest = sections (drop (length line) (drop len text)) in
    let first : lines (drop len text) ≡ line ∷ lines (drop (length line) (drop len text)) = rw is (lines-first (drop len text) (omega (arith, length-drop len text))) in
    let front : take (length line) (drop len text) ≡ line = rw is (first_line-front (drop len text)) in
    let step : sections (drop len text) ≡ onto line rest = rw (first, plain) refl in
    let joined : take len text ++ line ≡ take next text = rw size (ap (λ (l : List ℕ). take len text ++ l) (sym front) ∙ sym (take-add len (length line) text)) in
    let gone : drop (length line) (drop len text) ≡ drop next text = rw size (drop-drop (length line) len text) in
    before ∙ ap (onto (take len text)) step ∙ onto-onto (take len text) line rest
    ∙ ap (λ (l : List ℕ). onto l rest) joined ∙ ap (λ (l : List ℕ). onto (take next text) (sections l)) gone

-- a marked line ends it
pub section_ends : (text : List ℕ) (len next : ℕ) (line : List ℕ) → len < length text → line ≡ first_line (drop len text) → next ≡ len + length line → is_mark line ≡ true
    → sections text ≡ onto (take len text) (sections (drop len text)) → sections text ≡ take len text ∷ sections (drop next text)
section_ends text len next line less is size marked before =
    let rest = sections (drop (length line) (drop len text)) in
    let first : lines (drop len text) ≡ line ∷ lines (drop (length line) (drop len text)) = rw is (lines-first (drop len text) (omega (arith, length-drop len text))) in
    let step : sections (drop len text) ≡ [] ∷ rest = rw (first, marked) refl in
    let gone : drop (length line) (drop len text) ≡ drop next text = rw size (drop-drop (length line) len text) in
    before ∙ ap (onto (take len text)) step ∙ ap (λ (l : List ℕ). l ∷ rest) (append-nil (take len text)) ∙ ap (λ (l : List ℕ). take len text ∷ sections l) gone

-- and so does the end of the text
pub section_is_last : (text : List ℕ) (len : ℕ) → length text ≤ len → sections text ≡ onto (take len text) (sections (drop len text)) → sections text ≡ text ∷ []
section_is_last text len past before =
    let ended : drop len text ≡ [] = drop_all len text past in
    let whole : take len text ≡ text = take_all len text past in
    before ∙ rw (ended, whole, append-nil text) refl

-- a line has a byte
pub some_line : (text : List ℕ) → 0 < length text → 0 < length (first_line text)
some_line [] some = absurd (omega arith)
some_line (b ∷ bytes) some = elim (cases_Bool (is_line_feed b)) [
  | inl t ↦ let once = first_line-once b bytes t in rw once (omega arith)
  | inr f ↦ let more = first_line-more b bytes f in rw more (omega arith)
]

-- a list of sections that ends, and one that goes on
pub few_found : (bytes : List ℕ) (found : List (List ℕ)) → sections bytes ≡ found → length found ≤ 16 → Some found ≡ few_sections bytes
few_found bytes found all few = let least : nat_le (length found) 16 ≡ true = grind (arith, nat_tests) in rw (all, least) refl

pub too_many : (bytes text : List ℕ) (found : List (List ℕ)) → sections bytes ≡ found ++ sections text → length found ≡ 16 → None ≡ few_sections bytes
too_many bytes text found all count =
    let more : nat_le (length (found ++ sections text)) 16 ≡ false = let size = length-append found (sections text) in let some = some_section (lines text) in grind (arith, nat_tests) in
    rw (all, more) refl

-- the lines are the text
concat-onto : (b : ℕ) (ls : List (List ℕ)) → concat (onto (b ∷ []) ls) ≡ b ∷ concat ls
concat-onto b [] = refl
concat-onto b (line ∷ ls) = refl

pub concat-lines : (text : List ℕ) → concat (lines text) ≡ text
concat-lines [] = refl
concat-lines (b ∷ bytes) = elim (cases_Bool (is_line_feed b)) [
  | inl t ↦ rw t (ap (λ (l : List ℕ). b ∷ l) (concat-lines bytes))
  | inr f ↦ rw f (concat-onto b (lines bytes) ∙ ap (λ (l : List ℕ). b ∷ l) (concat-lines bytes))
]

-- the sections are what the marked lines part
onto-parts : (line : List ℕ) (parts : List (List (List ℕ))) → onto line (map concat parts) ≡ map concat (onto_first line parts)
onto-parts line [] = ap (λ (l : List ℕ). l ∷ []) (sym (append-nil line))
onto-parts line (part ∷ parts) = refl

sections_of-split : (ls : List (List ℕ)) → sections_of ls ≡ map concat (slice_split is_mark ls)
sections_of-split [] = refl
sections_of-split (line ∷ ls) = elim (cases_Bool (is_mark line)) [
  | inl t ↦ rw t (ap (λ (s : List (List ℕ)). [] ∷ s) (sections_of-split ls))
  | inr f ↦ rw f (ap (onto line) (sections_of-split ls) ∙ onto-parts line (slice_split is_mark ls))
]

pub sections-split : (bytes : List ℕ) → sections bytes ≡ map concat (slice_split is_mark (lines bytes))
sections-split bytes = sections_of-split (lines bytes)
