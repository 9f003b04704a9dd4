-- A cell and its element: what is written is read again, and two elements with one cell are one.
use Rattle.std.proofs.Common.{◌≡◌, ℕ, ◌+◌, ◌^◌, ◌<◌, Bool, true, false, cond, ℤ, pos, neg_ℤ, int_lt, Option, Some, None, IfSome, IfNone, List, [], ◌∷◌, ◌++◌, length, take, drop, get_or, refl, sym, ap, subst, ◌∙◌, arith, inl, inr, lit<, length-take, length-drop}
use Rattle.std.specs.Int.{w64, to_be_bytes, from_be_bytes, cast_unsigned, cast_signed}
use Rattle.std.proofs.lemmas.Int.{to_z-of_z, of_z-to_z, ints}
use Rattle.std.proofs.Math.Facts.{Fits-of_z}
use Rattle.std.proofs.lemmas.Nat.{from_be_bytes-to_be_bytes_8, be_bytes_8}
use Rattle.std.proofs.Math.Seq.{drop-cons}
use Rattle.std.proofs.lemmas.List.{take-append-drop, get_or-take, get_or-drop, get_or_past}
use Rattle.std.proofs.lemmas.Bool.{cases_lt}
use Rattle.ts_base.specs.Moment.{IsStamp, stamp_if_any}
use Rattle.ts_row.specs.declared.kind.Column.{Column}
use Rattle.ts_row.specs.Row.{Row}
use Rattle.ts_row.specs.Encoding.{row_bytes, AreRowBytes}
use Rattle.ts_cells.specs.IrregularPage.{IsElement, stamp_bytes, cell_bytes, cell_size}

-- the units that the bytes of a stamp are
pub units_back : (z : ℤ) → IsStamp z → cast_signed w64 (from_be_bytes w64 (stamp_bytes z)) ≡ z
units_back z is =
    let small : cast_unsigned w64 z < 2 ^ 64 = (Fits-of_z {w = w64} {z = z} (omega (arith, ints, is.0, is.1))).fits in
    ap (cast_signed w64) (from_be_bytes-to_be_bytes_8 (cast_unsigned w64 z) small) ∙ to_z-of_z w64 z (omega (arith, ints, is.0, is.1))

-- the stamp of a number is that number
cases_stamp : (b d : Bool) (t s : ℤ) → cond b None (cond d None (Some t)) ≡ Some s → s ≡ t
cases_stamp true d t s e = absurd (cc)
cases_stamp false true t s e = absurd (cc)
cases_stamp false false t s e = cc

stamp_if_any_is : (t s : ℤ) → stamp_if_any t ≡ Some s → s ≡ t
stamp_if_any_is t s e = cases_stamp (int_lt t (neg_ℤ (pos 6_213_559_680_000_000))) (int_lt (pos 25_340_230_079_999_999) t) t s e

-- it lies in the range
within_stamp : (b d : Bool) (t s : ℤ) → int_lt t (neg_ℤ (pos 6_213_559_680_000_000)) ≡ b → int_lt (pos 25_340_230_079_999_999) t ≡ d → cond b None (cond d None (Some t)) ≡ Some s → IsStamp t
within_stamp true d t s low high e = absurd (cc)
within_stamp false true t s low high e = absurd (cc)
within_stamp false false t s low high e = grind (arith, ints)

stamp_if_any_within : (t s : ℤ) → stamp_if_any t ≡ Some s → IsStamp s
stamp_if_any_within t s e =
    let P : ℤ → Type 0 = IsStamp in
    subst P (sym (stamp_if_any_is t s e)) (within_stamp _ _ t s refl refl e)

pub length-stamp_bytes : (z : ℤ) → length (stamp_bytes z) ≡ 8
length-stamp_bytes z = refl

-- the bytes of the stamp that eight bytes are
pub stamp_again : (bytes : List ℕ) (z : ℤ) → length bytes ≡ 8 → ((i : ℕ) → get_or bytes i 0 < 256) → stamp_if_any (cast_signed w64 (from_be_bytes w64 bytes)) ≡ Some z → stamp_bytes z ≡ bytes
stamp_again bytes z long small is =
    let n : ℕ = from_be_bytes w64 bytes in
    let same : z ≡ cast_signed w64 n = stamp_if_any_is (cast_signed w64 n) z is in
    let bound : n < 2 ^ 64 = omega (arith, small 0, small 1, small 2, small 3, small 4, small 5, small 6, small 7) in
    ap (λ (y : ℤ). to_be_bytes w64 (cast_unsigned w64 y)) same ∙ ap (to_be_bytes w64) (of_z-to_z w64 n bound) ∙ be_bytes_8 bytes n long small refl

-- all but the first few
small-drop : (n : ℕ) (bytes : List ℕ) → ((i : ℕ) → get_or bytes i 0 < 256) → (i : ℕ) → get_or (drop n bytes) i 0 < 256
small-drop n bytes small i = rw (get_or-drop n bytes i 0) (small (n + i))

small-take : (n : ℕ) (bytes : List ℕ) → ((i : ℕ) → get_or bytes i 0 < 256) → (i : ℕ) → get_or (take n bytes) i 0 < 256
small-take n bytes small i =
    elim (cases_lt i n) [
      | inl below ↦ subst (λ b. b < 256) (sym (get_or-take n bytes i 0 below)) (small i)
      | inr above ↦ subst (λ b. b < 256) (sym (get_or_past (take n bytes) i 0 (omega (arith, length-take n bytes)))) (lit< tt)
    ]

-- the bytes behind a first one and eight more
drop_nine : (bytes : List ℕ) → drop 8 (drop 1 bytes) ≡ drop 9 bytes
drop_nine [] = refl
drop_nine (b ∷ bytes) = refl

-- a byte 1, a stamp and the bytes of a row are a cell
pub element_of : (columns : List Column) (cell : List ℕ) (z : ℤ) → length cell ≡ cell_size columns → ((i : ℕ) → get_or cell i 0 < 256) → get_or cell 0 0 ≡ 1 → AreRowBytes columns (drop 9 cell) → stamp_if_any (cast_signed w64 (from_be_bytes w64 (take 8 (drop 1 cell)))) ≡ Some z → (row : Row) × IsElement columns (z, row) × (cell ≡ cell_bytes columns (z, row))
element_of columns cell z long small flag row stamp =
    let bytes : List ℕ = take 8 (drop 1 cell) in
    let size : length bytes ≡ 8 = omega (arith, length-take 8 (drop 1 cell), length-drop 1 cell) in
    let again : stamp_bytes z ≡ bytes = stamp_again bytes z size (small-take 8 (drop 1 cell) (small-drop 1 cell small)) stamp in
    let first : cell ≡ 1 ∷ drop 1 cell = drop-cons cell 0 0 (omega arith) ∙ ap (λ (b : ℕ). b ∷ drop 1 cell) flag in
    let behind : drop 1 cell ≡ bytes ++ drop 8 (drop 1 cell) = sym (take-append-drop 8 (drop 1 cell)) in
    let further : drop 8 (drop 1 cell) ≡ row_bytes columns row.0 = drop_nine cell ∙ sym row.2 in
    (row.0, record { stamp = stamp_if_any_within (cast_signed w64 (from_be_bytes w64 bytes)) z stamp; row = row.1 }, first ∙ ap (λ (l : List ℕ). 1 ∷ l) (behind ∙ (λ j. (sym again) j ++ further j)))

-- what an option holds
pub if_some : {A : Type 0} (o p : Option A) (Q : A → Type 0) → o ≡ p → ((x : A) → p ≡ Some x → Q x) → IfSome o Q
if_some None p Q same each = tt
if_some (Some x) p Q same each = each x (sym same)

pub if_some_weaker : {A : Type 0} (o : Option A) (P Q : A → Type 0) → ((x : A) → P x → Q x) → IfSome o P → IfSome o Q
if_some_weaker None P Q each none = tt
if_some_weaker (Some x) P Q each some = each x some

pub if_none_weaker : {A : Type 0} (o : Option A) (P Q : Type 0) → (P → Q) → IfNone o P → IfNone o Q
if_none_weaker None P Q each none = each none
if_none_weaker (Some x) P Q each some = tt
