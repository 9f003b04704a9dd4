-- Numbers of sixteen bytes, the highest first: what is written is read as the same number, and what is read was written so.
use Rattle.std.proofs.Common.{◌≡◌, ℕ, zero, suc, ◌+◌, ◌*◌, ◌/◌, ◌%◌, ◌^◌, ◌<◌, List, [], ◌∷◌, length, get_or, refl, sym, ap, ◌∙◌, arith, lit<}
use Rattle.std.specs.List.{fold}
use Rattle.std.specs.Int.{w128, byte_at, bytes_high_first, to_be_bytes, from_be_bytes}
use Rattle.std.proofs.lemmas.Nat.{mod-mul-add, div-mul-add}
use Rattle.std.proofs.Math.Arith.{mod-mul}
use Rattle.std.proofs.Math.Nat.{pow-suc, mul_comm, mod-eq_of_lt, one-le-pow}

-- a number and one byte behind it
abbrev with_byte : ℕ → ℕ → ℕ
with_byte high byte = high * 256 + byte

-- 256 more places
place_above : (k : ℕ) → 256 ^ suc k ≡ 256 * 256 ^ k
place_above k = pow-suc 256 k ∙ mul_comm (256 ^ k) 256

-- a byte in its place
byte_at-place : (k n : ℕ) → byte_at k n ≡ n / 256 ^ k % 256
byte_at-place zero n = omega arith
byte_at-place (suc k) n = refl

-- one byte more in front of the lowest k
byte_in_front : (k n high : ℕ) → with_byte high (byte_at k n) * 256 ^ k + n % 256 ^ k ≡ high * 256 ^ suc k + n % 256 ^ suc k
byte_in_front zero n high = omega arith
byte_in_front (suc k) n high =
    rw (place_above (suc k), mod-mul n {m = 256} {c = 256 ^ suc k} (lit< tt) (one-le-pow (suc k) 256 (lit< tt))) (omega arith)

-- the lowest k bytes of a number, read behind another
fold-written : (k n high : ℕ) → fold with_byte high (bytes_high_first k n) ≡ high * 256 ^ k + n % 256 ^ k
fold-written zero n high = omega arith
fold-written (suc k) n high = fold-written k n (with_byte high (byte_at k n)) ∙ byte_in_front k n high

-- one byte in its place, and less than a place behind it
below_place : (b low p : ℕ) → b < 256 → low < p → b * p + low < 256 * p
below_place b low p small below = grind arith

-- bytes read behind a number: that number in its place, and less than a place
fold-split : (bytes : List ℕ) (high : ℕ) → ((i : ℕ) → get_or bytes i 0 < 256) → (low : ℕ) × (low < 256 ^ length bytes) × (fold with_byte high bytes ≡ high * 256 ^ length bytes + low)
fold-split [] high small = (0, lit< tt, omega arith)
fold-split (b ∷ bytes) high small =
    let rest = fold-split bytes (with_byte high b) (λ i. small (suc i)) in
    (b * 256 ^ length bytes + rest.0, rw (place_above (length bytes)) (below_place b rest.0 (256 ^ length bytes) (small 0) rest.1), rest.2 ∙ rw (place_above (length bytes)) (omega arith))

-- bytes that were read, written
written-fold : (bytes : List ℕ) (high : ℕ) → ((i : ℕ) → get_or bytes i 0 < 256) → bytes_high_first (length bytes) (fold with_byte high bytes) ≡ bytes
written-fold [] high small = refl
written-fold (b ∷ bytes) high small =
    let behind = fold-split bytes (with_byte high b) (λ i. small (suc i)) in
    let first : byte_at (length bytes) (fold with_byte (with_byte high b) bytes) ≡ b =
    byte_at-place (length bytes) (fold with_byte (with_byte high b) bytes)
    ∙ ap (λ n. n / 256 ^ length bytes % 256) behind.2
    ∙ ap (λ n. n % 256) (div-mul-add (with_byte high b) (256 ^ length bytes) behind.0 behind.1)
    ∙ mod-mul-add high 256 b (small 0) in
    rw (first, written-fold bytes (with_byte high b) (λ i. small (suc i))) refl

-- the sum of sixteen bytes in their places
from_sixteen : (bytes : List ℕ) → length bytes ≡ 16 → from_be_bytes w128 bytes ≡ fold with_byte 0 bytes
from_sixteen (a ∷ b ∷ c ∷ d ∷ e ∷ f ∷ g ∷ h ∷ i ∷ j ∷ k ∷ l ∷ m ∷ n ∷ o ∷ p ∷ []) long = omega arith
from_sixteen bytes long = absurd (omega arith)

-- a number of 128 bits, written and read
pub from_be_bytes-to_be_bytes_16 : (n : ℕ) → n < 2 ^ 128 → from_be_bytes w128 (to_be_bytes w128 n) ≡ n
from_be_bytes-to_be_bytes_16 n fits =
    let whole : 0 * 256 ^ 16 + n % 256 ^ 16 ≡ n = omega (arith, mod-eq_of_lt fits) in
    from_sixteen (to_be_bytes w128 n) refl ∙ fold-written 16 n 0 ∙ whole

-- sixteen bytes are a number of 128 bits
pub from_be_bytes_16-below : (bytes : List ℕ) → length bytes ≡ 16 → ((i : ℕ) → get_or bytes i 0 < 256) → from_be_bytes w128 bytes < 2 ^ 128
from_be_bytes_16-below bytes long small =
    let parts = fold-split bytes 0 small in
    let place : 256 ^ length bytes ≡ 2 ^ 128 = ap (λ k. 256 ^ k) long in
    omega (arith, from_sixteen bytes long, parts.1, parts.2, place)

-- sixteen bytes, read and written
pub to_be_bytes-from_be_bytes_16 : (bytes : List ℕ) → length bytes ≡ 16 → ((i : ℕ) → get_or bytes i 0 < 256) → to_be_bytes w128 (from_be_bytes w128 bytes) ≡ bytes
to_be_bytes-from_be_bytes_16 bytes long small =
    ap (to_be_bytes w128) (from_sixteen bytes long) ∙ ap (λ k. bytes_high_first k (fold with_byte 0 bytes)) (sym long) ∙ written-fold bytes 0 small
