-- What is read of the bytes of entries.
use Rattle.std.proofs.Common.{◌≡◌, ◌⊎◌, inl, inr, ℕ, zero, suc, ◌+◌, ◌^◌, ◌<◌, ◌≤◌, true, ◌&&◌, not, leb, ltb, Some, None, option_and_then, List, [], ◌∷◌, ◌++◌, length, drop, refl, ap, sym, ◌∙◌, arith, length-append}
use Rattle.std.specs.Option.{option_map}
use Rattle.std.specs.Int.{to_be_bytes, w32}
use Rattle.std.proofs.lemmas.Nat.{from_be_bytes-to_be_bytes_4}
use Rattle.std.proofs.lemmas.Bool.{cond-true, and_from, and_right, not_from_false, le-leb, lt-leb, lt-ltb}
use Rattle.std.proofs.lemmas.List.{take_at, drop_at}
use Rattle.ts_page.specs.Pages.{first_element_page}
use Rattle.ts_journal.specs.declared.batch.Change.TheVariants.{Image, Free}
use Rattle.ts_journal.specs.Journal.{Entry, IsRising, IsWhole, AreWhole, IsAllowed, AreAllowed, is_region, entry_bytes, entries_bytes, entry_if_any, first_entry, entries_in}

-- a number outside of the region
pub no_region : (number : ℕ) → (number ≡ 0) ⊎ (256 < number) → not (is_region number) ≡ true
no_region number (inl none) = ap (λ (n : ℕ). not (is_region n)) none
no_region number (inr behind) = not_from_false _ (and_right (leb 1 number) (leb number 256) (lt-leb number 256 behind))

numbered : (count least number : ℕ) → least ≤ number → number < count → (number ≡ 0) ⊎ (256 < number) → (leb least number && ltb number count && not (is_region number)) ≡ true
numbered count least number from below outside =
    and_from _ _ (and_from _ _ (le-leb least number from) (lt-ltb number count below)) (no_region number outside)

-- an entry is read as it was written
pub entry_read : (count least : ℕ) (e : Entry) (rest : List ℕ) → count ≤ 2 ^ 32 → least ≤ e.0 → IsAllowed count e → IsWhole e.1 → first_entry count least (entry_bytes e ++ rest) ≡ Some e
unfolding first_entry entry_if_any
entry_read count least (number, Image page) rest small from allowed whole =
    let long : length (entry_bytes (number, Image page) ++ rest) ≡ 4101 + length rest = omega (arith, length-append (entry_bytes (number, Image page)) rest, whole) in
    let image : 4096 ≤ length (page.bytes ++ rest) = omega (arith, length-append page.bytes rest, whole) in
    cond-true _ _ _ (le-leb 5 (length (entry_bytes (number, Image page) ++ rest)) (omega (arith, long)))
    ∙ ap (λ (n : ℕ). entry_if_any count least 1 n (page.bytes ++ rest)) (from_be_bytes-to_be_bytes_4 number (omega (arith, small, allowed.below)))
    ∙ cond-true _ _ _ (numbered count least number from allowed.below allowed.outside)
    ∙ cond-true _ _ _ (le-leb 4096 (length (page.bytes ++ rest)) image)
    ∙ ap (λ (l : List ℕ). Some (number, Image (record { bytes = l }))) (take_at page.bytes rest 4096 whole)
entry_read count least (number, Free) rest small from allowed whole =
    let long : length (entry_bytes (number, Free) ++ rest) ≡ 5 + length rest = length-append (entry_bytes (number, Free)) rest in
    cond-true _ _ _ (le-leb 5 (length (entry_bytes (number, Free) ++ rest)) (omega (arith, long)))
    ∙ ap (λ (n : ℕ). entry_if_any count least 2 n rest) (from_be_bytes-to_be_bytes_4 number (omega (arith, small, allowed.below)))
    ∙ cond-true _ _ _ (numbered count least number from allowed.below allowed.outside)
    ∙ cond-true _ _ _ (le-leb first_element_page number allowed.freeable)

-- one entry more is read, or none
pub entries_step : (most count least byte : ℕ) (bytes : List ℕ) (e : Entry) → first_entry count least (byte ∷ bytes) ≡ Some e
    → entries_in (suc most) count least (byte ∷ bytes) ≡ option_map (λ es. e ∷ es) (entries_in most count (e.0 + 1) (drop (length (entry_bytes e)) (byte ∷ bytes)))
unfolding entries_in
entries_step most count least byte bytes e is =
    ap (option_and_then (λ (f : Entry). option_map (λ es. f ∷ es) (entries_in most count (f.0 + 1) (drop (length (entry_bytes f)) (byte ∷ bytes))))) is

pub entries_none : (most count least byte : ℕ) (bytes : List ℕ) → first_entry count least (byte ∷ bytes) ≡ None → entries_in most count least (byte ∷ bytes) ≡ None
unfolding entries_in
entries_none zero count least byte bytes is = refl
entries_none (suc most) count least byte bytes is =
    ap (option_and_then (λ (f : Entry). option_map (λ es. f ∷ es) (entries_in most count (f.0 + 1) (drop (length (entry_bytes f)) (byte ∷ bytes))))) is

pub entries_end : (most count least : ℕ) → entries_in most count least [] ≡ Some []
unfolding entries_in
entries_end zero count least = refl
entries_end (suc most) count least = refl

-- an entry has at least five bytes
pub entry_front : (e : Entry) → (byte : ℕ) × (bytes : List ℕ) × (entry_bytes e ≡ byte ∷ bytes)
entry_front (number, Image page) = (1, to_be_bytes w32 number ++ page.bytes, refl)
entry_front (number, Free) = (2, to_be_bytes w32 number, refl)

-- entries are read as they were written
pub entries_read : (most count least top : ℕ) (es : List Entry) → count ≤ 2 ^ 32 → length (entries_bytes es) ≤ most → IsRising least top es → AreAllowed count es → AreWhole es → entries_in most count least (entries_bytes es) ≡ Some es
entries_read most count least top [] small fits rising allowed whole = entries_end most count least
entries_read zero count least top (e ∷ es) small fits rising allowed whole =
    let front = entry_front e in
    absurd (omega (arith, fits, length-append (entry_bytes e) (entries_bytes es), ap length front.2))
entries_read (suc most) count least top (e ∷ es) small fits rising allowed whole =
    let front = entry_front e in
    let rest = entries_bytes es in
    let all : entries_bytes (e ∷ es) ≡ front.0 ∷ (front.1 ++ rest) = ap (λ (l : List ℕ). l ++ rest) front.2 in
    let head : first_entry count least (front.0 ∷ (front.1 ++ rest)) ≡ Some e = ap (first_entry count least) (sym all) ∙ entry_read count least e rest small rising.0 allowed.0 whole.0 in
    ap (entries_in (suc most) count least) all
    ∙ entries_step most count least front.0 (front.1 ++ rest) e head
    ∙ ap (λ (l : List ℕ). option_map (λ fs. e ∷ fs) (entries_in most count (e.0 + 1) l)) (ap (drop (length (entry_bytes e))) (sym all) ∙ drop_at (entry_bytes e) rest (length (entry_bytes e)) refl)
    ∙ ap (option_map (λ fs. e ∷ fs)) (entries_read most count (e.0 + 1) top es small (omega (arith, fits, length-append (entry_bytes e) rest, ap length front.2)) rising.1 allowed.1 whole.1)

pub entries_zero : (count least byte : ℕ) (bytes : List ℕ) → entries_in zero count least (byte ∷ bytes) ≡ None
unfolding entries_in
entries_zero count least byte bytes = refl
