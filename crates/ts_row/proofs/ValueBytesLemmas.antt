-- Values and their bytes: what is written is read as the same value, and what is read was written so.
use Rattle.std.proofs.Common.{◌≡◌, ℕ, zero, suc, ◌+◌, ◌-◌, ◌^◌, ◌<◌, ◌≤◌, Bool, true, false, ◌&&◌, ◌==◌, nat_le, nat_lt, if◌then◌else◌, Some, None, List, [], ◌∷◌, ◌++◌, length, take, drop, get_or, replicate, IsTrue, ℤ, unsigned_abs, refl, sym, ap, ◌∙◌, arith, lit<, lit≤, length-append, length-take, length-drop}
use Rattle.std.specs.Int.{w16, w32, w64, w128, to_be_bytes, from_be_bytes, cast_unsigned, cast_signed}
use Rattle.std.proofs.lemmas.Bool.Decides.{nat_tests}
use Rattle.std.proofs.lemmas.Int.{to_z-of_z, of_z-to_z, fits_signed_from_abs}
use Rattle.std.proofs.lemmas.Nat.{be_bytes_2, be_bytes_4, be_bytes_8, from_be_bytes-to_be_bytes_2, from_be_bytes-to_be_bytes_4, from_be_bytes-to_be_bytes_8}
use Rattle.ts_row.proofs.SixteenLemmas.{from_be_bytes-to_be_bytes_16, from_be_bytes_16-below, to_be_bytes-from_be_bytes_16}
use Rattle.std.proofs.lemmas.List.{length-replicate, take-append-drop}
use Rattle.std.proofs.Math.Seq.{take-append_seam, drop-append_seam}
use Rattle.std.proofs.Math.Facts.{Fits-of_z, Fits-lt-pow}
use Rattle.ts_base.specs.Name.{is_text}
use Rattle.ts_row.specs.declared.kind.ColumnKind.{ColumnKind}
use Rattle.ts_row.specs.declared.kind.ColumnKind.TheVariants.{SmallInt, Integer, BigInt, Decimal, VarChar}
use Rattle.ts_row.specs.declared.value.Value.{Value}
use Rattle.ts_row.specs.declared.value.Value.TheVariants.{Null, Number, Text}
use Rattle.ts_row.specs.Row.{is_kind, column_width, holds, holds_size, holds_text}
use Rattle.ts_row.specs.Encoding.{number_bytes, text_bytes, value_bytes}
use Rattle.ts_row.specs.Decoding.{all_zero, number_in, number_if_held, text_in, filled_in, value_in}
use Rattle.ts_row.proofs.EncodingLemmas.{short_bound}
use Rattle.ts_row.proofs.LiteralLemmas.{held_bound}

-- a number of 16 bits, written and read
read_written_16 : (z : ℤ) → unsigned_abs z < 2 ^ 15 → cast_signed w16 (from_be_bytes w16 (to_be_bytes w16 (cast_unsigned w16 z))) ≡ z
read_written_16 z bound =
    let fit = fits_signed_from_abs w16 z bound in
    ap (cast_signed w16) (from_be_bytes-to_be_bytes_2 (cast_unsigned w16 z) (Fits-lt-pow (Fits-of_z fit))) ∙ to_z-of_z w16 z fit

-- of 32 bits
read_written_32 : (z : ℤ) → unsigned_abs z < 2 ^ 31 → cast_signed w32 (from_be_bytes w32 (to_be_bytes w32 (cast_unsigned w32 z))) ≡ z
read_written_32 z bound =
    let fit = fits_signed_from_abs w32 z bound in
    ap (cast_signed w32) (from_be_bytes-to_be_bytes_4 (cast_unsigned w32 z) (Fits-lt-pow (Fits-of_z fit))) ∙ to_z-of_z w32 z fit

-- of 64 bits
read_written_64 : (z : ℤ) → unsigned_abs z < 2 ^ 63 → cast_signed w64 (from_be_bytes w64 (to_be_bytes w64 (cast_unsigned w64 z))) ≡ z
read_written_64 z bound =
    let fit = fits_signed_from_abs w64 z bound in
    ap (cast_signed w64) (from_be_bytes-to_be_bytes_8 (cast_unsigned w64 z) (Fits-lt-pow (Fits-of_z fit))) ∙ to_z-of_z w64 z fit

-- of 128 bits
read_written_128 : (z : ℤ) → unsigned_abs z < 2 ^ 127 → cast_signed w128 (from_be_bytes w128 (to_be_bytes w128 (cast_unsigned w128 z))) ≡ z
read_written_128 z bound =
    let fit = fits_signed_from_abs w128 z bound in
    ap (cast_signed w128) (from_be_bytes-to_be_bytes_16 (cast_unsigned w128 z) (Fits-lt-pow (Fits-of_z fit))) ∙ to_z-of_z w128 z fit

-- of a decimal
read_written_decimal : (long : Bool) (z : ℤ) → (long ≡ false → unsigned_abs z < 2 ^ 63) → unsigned_abs z < 2 ^ 127 → (if long then cast_signed w128 (from_be_bytes w128 (if long then to_be_bytes w128 (cast_unsigned w128 z) else to_be_bytes w64 (cast_unsigned w64 z))) else cast_signed w64 (from_be_bytes w64 (if long then to_be_bytes w128 (cast_unsigned w128 z) else to_be_bytes w64 (cast_unsigned w64 z)))) ≡ z
read_written_decimal true z short wide = read_written_128 z wide
read_written_decimal false z short wide = read_written_64 z (short refl)

-- two bytes, read and written
written_read_16 : (bytes : List ℕ) → length bytes ≡ 2 → ((i : ℕ) → get_or bytes i 0 < 256) → to_be_bytes w16 (cast_unsigned w16 (cast_signed w16 (from_be_bytes w16 bytes))) ≡ bytes
written_read_16 bytes long small =
    let bound : from_be_bytes w16 bytes < 2 ^ 16 = omega (arith, small 0, small 1) in
    ap (to_be_bytes w16) (of_z-to_z w16 (from_be_bytes w16 bytes) bound) ∙ be_bytes_2 bytes (from_be_bytes w16 bytes) long small refl

-- four bytes
written_read_32 : (bytes : List ℕ) → length bytes ≡ 4 → ((i : ℕ) → get_or bytes i 0 < 256) → to_be_bytes w32 (cast_unsigned w32 (cast_signed w32 (from_be_bytes w32 bytes))) ≡ bytes
written_read_32 bytes long small =
    let bound : from_be_bytes w32 bytes < 2 ^ 32 = omega (arith, small 0, small 1, small 2, small 3) in
    ap (to_be_bytes w32) (of_z-to_z w32 (from_be_bytes w32 bytes) bound) ∙ be_bytes_4 bytes (from_be_bytes w32 bytes) long small refl

-- eight bytes
written_read_64 : (bytes : List ℕ) → length bytes ≡ 8 → ((i : ℕ) → get_or bytes i 0 < 256) → to_be_bytes w64 (cast_unsigned w64 (cast_signed w64 (from_be_bytes w64 bytes))) ≡ bytes
written_read_64 bytes long small =
    let bound : from_be_bytes w64 bytes < 2 ^ 64 = omega (arith, small 0, small 1, small 2, small 3, small 4, small 5, small 6, small 7) in
    ap (to_be_bytes w64) (of_z-to_z w64 (from_be_bytes w64 bytes) bound) ∙ be_bytes_8 bytes (from_be_bytes w64 bytes) long small refl

-- sixteen bytes
written_read_128 : (bytes : List ℕ) → length bytes ≡ 16 → ((i : ℕ) → get_or bytes i 0 < 256) → to_be_bytes w128 (cast_unsigned w128 (cast_signed w128 (from_be_bytes w128 bytes))) ≡ bytes
written_read_128 bytes long small =
    ap (to_be_bytes w128) (of_z-to_z w128 (from_be_bytes w128 bytes) (from_be_bytes_16-below bytes long small)) ∙ to_be_bytes-from_be_bytes_16 bytes long small

-- those of a decimal
written_read_decimal : (long : Bool) (bytes : List ℕ) → length bytes + 1 ≡ (if long then 17 else 9) → ((i : ℕ) → get_or bytes i 0 < 256) → (if long then to_be_bytes w128 (cast_unsigned w128 (if long then cast_signed w128 (from_be_bytes w128 bytes) else cast_signed w64 (from_be_bytes w64 bytes))) else to_be_bytes w64 (cast_unsigned w64 (if long then cast_signed w128 (from_be_bytes w128 bytes) else cast_signed w64 (from_be_bytes w64 bytes)))) ≡ bytes
written_read_decimal true bytes size small = written_read_128 bytes (omega arith) small
written_read_decimal false bytes size small = written_read_64 bytes (omega arith) small

-- a number that a column holds, written and read
number_in-number_bytes : (kind : ColumnKind) (z : ℤ) → IsTrue (is_kind kind) → holds_size kind (unsigned_abs z) ≡ true → number_in kind (number_bytes kind z) ≡ z
number_in-number_bytes SmallInt z valid held = read_written_16 z (grind (arith, nat_tests))
number_in-number_bytes Integer z valid held = read_written_32 z (grind (arith, nat_tests))
number_in-number_bytes BigInt z valid held = read_written_64 z (grind (arith, nat_tests))
number_in-number_bytes (Decimal digits scale) z valid held =
    let below : unsigned_abs z < 10 ^ digits = grind (arith, nat_tests) in
    read_written_decimal (nat_lt 18 digits) z (λ short. short_bound digits (unsigned_abs z) below (grind (arith, nat_tests))) (held_bound (Decimal digits scale) (unsigned_abs z) valid held)
number_in-number_bytes (VarChar most) z valid held = cc

-- a kind has numbers
abbrev pub has_numbers : ColumnKind → Bool
has_numbers (VarChar most) = false
has_numbers _ = true

-- bytes, read as a number and written
number_bytes-number_in : (kind : ColumnKind) (bytes : List ℕ) → has_numbers kind ≡ true → length bytes + 1 ≡ column_width kind → ((i : ℕ) → get_or bytes i 0 < 256) → number_bytes kind (number_in kind bytes) ≡ bytes
number_bytes-number_in SmallInt bytes has long small = written_read_16 bytes (omega arith) small
number_bytes-number_in Integer bytes has long small = written_read_32 bytes (omega arith) small
number_bytes-number_in BigInt bytes has long small = written_read_64 bytes (omega arith) small
number_bytes-number_in (Decimal digits scale) bytes has long small = written_read_decimal (nat_lt 18 digits) bytes long small
number_bytes-number_in (VarChar most) bytes has long small = cc

-- zeros are zeros
all_zero-replicate : (n : ℕ) → all_zero (replicate n 0) ≡ true
all_zero-replicate zero = refl
all_zero-replicate (suc n) = all_zero-replicate n

-- and nothing else is
all_zero-is : (bytes : List ℕ) → all_zero bytes ≡ true → bytes ≡ replicate (length bytes) 0
all_zero-is [] zeros = refl
all_zero-is (b ∷ bytes) zeros =
    let first : b ≡ 0 = grind (arith, nat_tests) in
    let others : all_zero bytes ≡ true = grind (arith, nat_tests) in
    ap (λ c. c ∷ bytes) first ∙ ap (λ l. 0 ∷ l) (all_zero-is bytes others)

-- so a test of all bytes tells zeros
pub zeros_told : (bytes : List ℕ) (told : Bool) → told ≡ all_zero bytes → (told ≡ true → bytes ≡ replicate (length bytes) 0) × (bytes ≡ replicate (length bytes) 0 → told ≡ true)
zeros_told bytes told is = (
  (λ yes. all_zero-is bytes (sym is ∙ yes)),
  (λ same. is ∙ ap all_zero same ∙ all_zero-replicate (length bytes)),
)

-- zeros are NULL's bytes
value_in-zeros : (kind : ColumnKind) (n : ℕ) → 0 < n → value_in kind (replicate n 0) ≡ Some Null
value_in-zeros kind zero some = absurd (omega arith)
value_in-zeros kind (suc n) some = rw (all_zero-replicate n) refl

-- a decimal has bytes
decimal_width-positive : (long : Bool) → 0 < (if long then 17 else 9)
decimal_width-positive true = lit< tt
decimal_width-positive false = lit< tt

-- each column has a byte
pub column_width-positive : (kind : ColumnKind) → 0 < column_width kind
column_width-positive SmallInt = lit< tt
column_width-positive Integer = lit< tt
column_width-positive BigInt = lit< tt
column_width-positive (Decimal digits scale) = decimal_width-positive (nat_lt 18 digits)
column_width-positive (VarChar most) = omega arith

-- a text that fits, written and read
text_in-text_bytes : (most : ℕ) (text : List ℕ) → holds_text (VarChar most) text ≡ true → text_in most (text_bytes (VarChar most) text) ≡ Some (Text text)
text_in-text_bytes most text held =
    let short : nat_le (length text) most ≡ true = grind (arith, nat_tests) in
    let form : is_text text ≡ true = grind (arith, nat_tests) in
    rw (short, drop-append_seam text (replicate (most - length text) 0), all_zero-replicate (most - length text), take-append_seam text (replicate (most - length text) 0), form) refl

-- a number, read where the column has numbers
filled_in-number : (kind : ColumnKind) (bytes : List ℕ) → has_numbers kind ≡ true → filled_in kind bytes ≡ number_if_held kind (number_in kind bytes)
filled_in-number SmallInt bytes has = refl
filled_in-number Integer bytes has = refl
filled_in-number BigInt bytes has = refl
filled_in-number (Decimal digits scale) bytes has = refl
filled_in-number (VarChar most) bytes has = cc

-- a column that holds a number has numbers
has_numbers-held : (kind : ColumnKind) (n : ℕ) → holds_size kind n ≡ true → has_numbers kind ≡ true
has_numbers-held SmallInt n held = refl
has_numbers-held Integer n held = refl
has_numbers-held BigInt n held = refl
has_numbers-held (Decimal digits scale) n held = refl
has_numbers-held (VarChar most) n held = cc

-- a text that a column holds, written and read
filled_in-text : (kind : ColumnKind) (text : List ℕ) → holds_text kind text ≡ true → filled_in kind (text_bytes kind text) ≡ Some (Text text)
filled_in-text SmallInt text held = cc
filled_in-text Integer text held = cc
filled_in-text BigInt text held = cc
filled_in-text (Decimal digits scale) text held = cc
filled_in-text (VarChar most) text held = text_in-text_bytes most text held

-- a value that a column holds, written and read
pub value_in-value_bytes : (kind : ColumnKind) (v : Value) → IsTrue (is_kind kind) → holds kind v ≡ true → value_in kind (value_bytes kind v) ≡ Some v
value_in-value_bytes kind Null valid held = value_in-zeros kind (column_width kind) (column_width-positive kind)
value_in-value_bytes kind (Number z) valid held =
    filled_in-number kind (number_bytes kind z) (has_numbers-held kind (unsigned_abs z) held)
    ∙ ap (number_if_held kind) (number_in-number_bytes kind z valid held) ∙ rw held refl
value_in-value_bytes kind (Text text) valid held = filled_in-text kind text held

-- the bytes of a decimal's number
length-decimal : (long : Bool) (z : ℤ) → length (1 ∷ (if long then to_be_bytes w128 (cast_unsigned w128 z) else to_be_bytes w64 (cast_unsigned w64 z))) ≡ (if long then 17 else 9)
length-decimal true z = refl
length-decimal false z = refl

-- the bytes of a value are as many as the column has
pub length-value_bytes : (kind : ColumnKind) (v : Value) → holds kind v ≡ true → length (value_bytes kind v) ≡ column_width kind
length-value_bytes kind Null held = length-replicate (column_width kind) 0
length-value_bytes SmallInt (Number z) held = refl
length-value_bytes Integer (Number z) held = refl
length-value_bytes BigInt (Number z) held = refl
length-value_bytes (Decimal digits scale) (Number z) held = length-decimal (nat_lt 18 digits) z
length-value_bytes (VarChar most) (Number z) held = cc
length-value_bytes SmallInt (Text text) held = cc
length-value_bytes Integer (Text text) held = cc
length-value_bytes BigInt (Text text) held = cc
length-value_bytes (Decimal digits scale) (Text text) held = cc
length-value_bytes (VarChar most) (Text text) held =
    let short : length text ≤ most = grind (arith, nat_tests) in
    simp (length-append, length-replicate) (omega arith)

-- a number that was read, written
number_if_held-bytes : (kind : ColumnKind) (bytes : List ℕ) (v : Value) → has_numbers kind ≡ true → number_if_held kind (number_in kind bytes) ≡ Some v → length bytes + 1 ≡ column_width kind → ((i : ℕ) → get_or bytes i 0 < 256) → (holds kind v ≡ true) × (value_bytes kind v ≡ 1 ∷ bytes)
number_if_held-bytes kind bytes v has is long small =
    elim (holds_size kind (unsigned_abs (number_in kind bytes))) as
    (λ b. holds_size kind (unsigned_abs (number_in kind bytes)) ≡ b → (if b then Some (Number (number_in kind bytes)) else None) ≡ Some v → (holds kind v ≡ true) × (value_bytes kind v ≡ 1 ∷ bytes)) [
      | true ↦ λ held some.
          let same : v ≡ Number (number_in kind bytes) = cc in
          (ap (holds kind) same ∙ held, ap (value_bytes kind) same ∙ ap (λ l. 1 ∷ l) (number_bytes-number_in kind bytes has long small))
      | false ↦ λ not none. cc
    ] refl is

-- a text that was read, written
text_in-bytes : (most n : ℕ) (rest : List ℕ) (v : Value) → text_in most (n ∷ rest) ≡ Some v → length rest ≡ most → (holds (VarChar most) v ≡ true) × (value_bytes (VarChar most) v ≡ 1 ∷ n ∷ rest)
text_in-bytes most n rest v is long =
    elim (nat_le n most && all_zero (drop n rest) && is_text (take n rest)) as
    (λ b. (nat_le n most && all_zero (drop n rest) && is_text (take n rest)) ≡ b → (if b then Some (Text (take n rest)) else None) ≡ Some v → (holds (VarChar most) v ≡ true) × (value_bytes (VarChar most) v ≡ 1 ∷ n ∷ rest)) [
      | true ↦ λ held some.
          let same : v ≡ Text (take n rest) = cc in
          let short : n ≤ most = grind (arith, nat_tests) in
          let zeros : all_zero (drop n rest) ≡ true = grind (arith, nat_tests) in
          let form : is_text (take n rest) ≡ true = grind (arith, nat_tests) in
          let size : length (take n rest) ≡ n = length-take n rest ∙ omega arith in
          let behind : replicate (most - length (take n rest)) 0 ≡ drop n rest =
          ap (λ k. replicate k 0) (omega (arith, length-drop n rest)) ∙ sym (all_zero-is (drop n rest) zeros) in
          let fit : nat_le (length (take n rest)) most ≡ true = rw size (grind (arith, nat_tests)) in (
            ap (holds (VarChar most)) same ∙ rw (fit, form) refl,
            ap (value_bytes (VarChar most)) same
                ∙ ap (λ k. 1 ∷ k ∷ take n rest ++ replicate (most - length (take n rest)) 0) size
                ∙ ap (λ l. 1 ∷ n ∷ take n rest ++ l) behind ∙ ap (λ l. 1 ∷ n ∷ l) (take-append-drop n rest),
          )
      | false ↦ λ not none. cc
    ] refl is

-- a value that was read, which isn't NULL, written
filled_in-bytes : (kind : ColumnKind) (bytes : List ℕ) (v : Value) → filled_in kind bytes ≡ Some v → length bytes + 1 ≡ column_width kind → ((i : ℕ) → get_or bytes i 0 < 256) → (holds kind v ≡ true) × (value_bytes kind v ≡ 1 ∷ bytes)
filled_in-bytes SmallInt bytes v is long small = number_if_held-bytes SmallInt bytes v refl is long small
filled_in-bytes Integer bytes v is long small = number_if_held-bytes Integer bytes v refl is long small
filled_in-bytes BigInt bytes v is long small = number_if_held-bytes BigInt bytes v refl is long small
filled_in-bytes (Decimal digits scale) bytes v is long small = number_if_held-bytes (Decimal digits scale) bytes v refl is long small
filled_in-bytes (VarChar most) [] v is long small = absurd (omega arith)
filled_in-bytes (VarChar most) (n ∷ rest) v is long small = text_in-bytes most n rest v is (omega arith)

-- a value that was read, written
pub value_bytes-value_in : (kind : ColumnKind) (bytes : List ℕ) (v : Value) → value_in kind bytes ≡ Some v → length bytes ≡ column_width kind → ((i : ℕ) → get_or bytes i 0 < 256) → (holds kind v ≡ true) × (value_bytes kind v ≡ bytes)
value_bytes-value_in kind [] v is long small = absurd (omega (arith, column_width-positive kind))
value_bytes-value_in kind (flag ∷ rest) v is long small =
    elim (flag == 0) as (λ b. (flag == 0) ≡ b → (if b then (if all_zero rest then Some Null else None) else (if flag == 1 then filled_in kind rest else None)) ≡ Some v → (holds kind v ≡ true) × (value_bytes kind v ≡ flag ∷ rest)) [
      | true ↦ λ null some.
          let none : flag ≡ 0 = grind (arith, nat_tests) in
          elim (all_zero rest) as (λ b. all_zero rest ≡ b → (if b then Some Null else None) ≡ Some v → (holds kind v ≡ true) × (value_bytes kind v ≡ flag ∷ rest)) [
            | true ↦ λ zeros is'.
                let same : v ≡ Null = cc in (
                  ap (holds kind) same,
                  ap (value_bytes kind) same ∙ ap (λ k. replicate k 0) (sym long) ∙ ap (λ l. 0 ∷ l) (sym (all_zero-is rest zeros)) ∙ ap (λ k. k ∷ rest) (sym none),
                )
            | false ↦ λ not is'. cc
          ] refl some
      | false ↦ λ not_null some.
          elim (flag == 1) as (λ b. (flag == 1) ≡ b → (if b then filled_in kind rest else None) ≡ Some v → (holds kind v ≡ true) × (value_bytes kind v ≡ flag ∷ rest)) [
            | true ↦ λ one is'.
                let there : flag ≡ 1 = grind (arith, nat_tests) in
                let both = filled_in-bytes kind rest v is' (omega arith) (λ i. small (suc i)) in
                (both.0, both.1 ∙ ap (λ k. k ∷ rest) (sym there))
            | false ↦ λ not is'. cc
          ] refl some
    ] refl is

-- zeros begin with 0
zeros-flag : (n : ℕ) → 0 < n → (flag : ℕ) × (rest : List ℕ) × (flag ≤ 1) × (replicate n 0 ≡ flag ∷ rest)
zeros-flag zero some = absurd (omega arith)
zeros-flag (suc n) some = (0, replicate n 0, lit≤ tt, refl)

-- the bytes of a value begin with 0 or 1
pub value_bytes-flag : (kind : ColumnKind) (v : Value) → (flag : ℕ) × (rest : List ℕ) × (flag ≤ 1) × (value_bytes kind v ≡ flag ∷ rest)
value_bytes-flag kind Null = zeros-flag (column_width kind) (column_width-positive kind)
value_bytes-flag kind (Number z) = (1, number_bytes kind z, lit≤ tt, refl)
value_bytes-flag kind (Text text) = (1, text_bytes kind text, lit≤ tt, refl)
