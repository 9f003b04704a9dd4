-- The entry at a place, by its kind and its number.
use Rattle.std.proofs.Common.{◌≡◌, ℕ, ◌+◌, ◌-◌, ◌≤◌, Bool, true, false, ◌&&◌, not, leb, ltb, eqb, Some, None, List, length, take, drop, get_or, ap, sym, ◌∙◌, arith, length-drop}
use Rattle.std.specs.Int.{from_be_bytes, w32}
use Rattle.std.proofs.lemmas.Bool.{cond-true, cond-false, le-leb, lt-leb}
use Rattle.std.proofs.lemmas.List.{take-take, drop-take, drop-drop, get_or-take, length-replicate, length-take-le}
use Rattle.ts_page.specs.Pages.{bytes_at, zero_page, first_element_page}
use Rattle.ts_journal.specs.declared.batch.Change.TheVariants.{Image, Free}
use Rattle.ts_journal.specs.Journal.{is_region, entry_if_any, first_entry}

pub zero_length : length zero_page ≡ 4096
unfolding zero_page
zero_length = length-replicate {A = ℕ} 4096 0

-- five bytes are too few for none
pub too_short : (count least : ℕ) (bytes : List ℕ) → length bytes ≤ 4 → first_entry count least bytes ≡ None
unfolding first_entry
too_short count least bytes short = cond-false _ _ _ (lt-leb 5 (length bytes) (omega (arith, short)))

module _ (bytes : List ℕ) (count least left kind no : ℕ) (len : length bytes ≡ left) (enough : 5 ≤ left) (is_kind : kind ≡ get_or bytes 0 0) (is_no : no ≡ from_be_bytes w32 (bytes_at 1 4 bytes)) where
  abbrev tests : Bool
  tests = leb least no && ltb no count && not (is_region no)

  front : first_entry count least bytes ≡ entry_if_any count least kind no (drop 5 bytes)
  unfolding first_entry
  front = cond-true _ _ _ (le-leb 5 (length bytes) (omega (arith, len, enough))) ∙ (λ i. entry_if_any count least (sym is_kind i) (sym is_no i) (drop 5 bytes))

  pub not_allowed : tests ≡ false → first_entry count least bytes ≡ None
  unfolding entry_if_any
  not_allowed no_ = front ∙ cond-false _ _ _ no_

  behind : length (drop 5 bytes) ≡ left - 5
  behind = length-drop 5 bytes ∙ ap (λ (n : ℕ). n - 5) len

  pub an_image : tests ≡ true → (eqb kind 1 && leb 4096 (left - 5)) ≡ true → first_entry count least bytes ≡ Some (no, Image (record { bytes = take 4096 (drop 5 bytes) }))
  unfolding entry_if_any
  an_image good image = front ∙ cond-true _ _ _ good ∙ cond-true _ _ _ (ap (λ (n : ℕ). eqb kind 1 && leb 4096 n) behind ∙ image)

  pub a_freed : tests ≡ true → (eqb kind 1 && leb 4096 (left - 5)) ≡ false → (eqb kind 2 && leb first_element_page no) ≡ true → first_entry count least bytes ≡ Some (no, Free)
  unfolding entry_if_any
  a_freed good image freed = front ∙ cond-true _ _ _ good ∙ cond-false _ _ _ (ap (λ (n : ℕ). eqb kind 1 && leb 4096 n) behind ∙ image) ∙ cond-true _ _ _ freed

  pub neither : tests ≡ true → (eqb kind 1 && leb 4096 (left - 5)) ≡ false → (eqb kind 2 && leb first_element_page no) ≡ false → first_entry count least bytes ≡ None
  unfolding entry_if_any
  neither good image freed = front ∙ cond-true _ _ _ good ∙ cond-false _ _ _ (ap (λ (n : ℕ). eqb kind 1 && leb 4096 n) behind ∙ image) ∙ cond-false _ _ _ freed

-- the parts of the bytes that are left, by their places in the volume
module _ (held : List ℕ) (at left : ℕ) (enough : 5 ≤ left) (into : List ℕ) (five : length into ≡ 5) (read : into ≡ take (length into) (drop at held)) where
  abbrev b : List ℕ
  b = bytes_at at left held

  whole : into ≡ take 5 b
  whole = read ∙ ap (λ (n : ℕ). take n (drop at held)) five ∙ sym (take-take 5 left (drop at held) enough)

  pub kind_is : get_or into 0 0 ≡ get_or b 0 0
  kind_is = ap (λ (l : List ℕ). get_or l 0 0) whole ∙ get_or-take 5 b 0 0 (omega arith)

  pub number_is : bytes_at 1 4 into ≡ bytes_at 1 4 b
  number_is = ap (bytes_at 1 4) whole ∙ ap (take 4) (drop-take 1 4 b) ∙ take-take 4 4 (drop 1 b) (omega arith)

  pub image_is : 4101 ≤ left → take 4096 (drop 5 b) ≡ take 4096 (drop (at + 5) held)
  image_is more =
      let split : 5 + (left - 5) ≡ left = omega (arith, more) in
      ap (λ (n : ℕ). take 4096 (drop 5 (take n (drop at held)))) (sym split) ∙ ap (take 4096) (drop-take 5 (left - 5) (drop at held))
      ∙ take-take 4096 (left - 5) (drop 5 (drop at held)) (omega (arith, more)) ∙ ap (take 4096) (drop-drop 5 at held)

-- what is found of an entry whose front was read
module _ (held : List ℕ) (at left : ℕ) (fits : at + left ≤ length held) (enough : 5 ≤ left) (into : List ℕ) (five : length into ≡ 5) (read : into ≡ take (length into) (drop at held)) (count least no : ℕ) (is_no : no ≡ from_be_bytes w32 (bytes_at 1 4 into)) where
  abbrev part : List ℕ
  part = bytes_at at left held

  part_length : length part ≡ left
  part_length = length-take-le left (drop at held) (omega (arith, length-drop at held, fits))

  kind_at : get_or into 0 0 ≡ get_or part 0 0
  kind_at = kind_is held at left enough into five read

  number_at : no ≡ from_be_bytes w32 (bytes_at 1 4 part)
  number_at = is_no ∙ ap (from_be_bytes w32) (number_is held at left enough into five read)

  abbrev passes : Bool
  passes = leb least no && ltb no count && not (is_region no)

  pub found_not_allowed : passes ≡ false → None ≡ first_entry count least part
  found_not_allowed none = sym (not_allowed part count least left (get_or into 0 0) no part_length enough kind_at number_at none)

  pub found_image : passes ≡ true → (eqb (get_or into 0 0) 1 && leb 4096 (left - 5)) ≡ true → 4101 ≤ left → (page : List ℕ) → page ≡ take 4096 (drop (at + 5) held) → Some (no, Image (record { bytes = page })) ≡ first_entry count least part
  found_image good image more page is =
      ap (λ (l : List ℕ). Some (no, Image (record { bytes = l }))) (is ∙ sym (image_is held at left enough into five read more))
      ∙ sym (an_image part count least left (get_or into 0 0) no part_length enough kind_at number_at good image)

  pub found_freed : passes ≡ true → (eqb (get_or into 0 0) 1 && leb 4096 (left - 5)) ≡ false → (eqb (get_or into 0 0) 2 && leb first_element_page no) ≡ true → Some (no, Free) ≡ first_entry count least part
  found_freed good image freed = sym (a_freed part count least left (get_or into 0 0) no part_length enough kind_at number_at good image freed)

  pub found_neither : passes ≡ true → (eqb (get_or into 0 0) 1 && leb 4096 (left - 5)) ≡ false → (eqb (get_or into 0 0) 2 && leb first_element_page no) ≡ false → None ≡ first_entry count least part
  found_neither good image freed = sym (neither part count least left (get_or into 0 0) no part_length enough kind_at number_at good image freed)
