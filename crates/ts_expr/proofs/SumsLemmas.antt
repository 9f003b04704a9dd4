-- Means, by quotient and remainder.
use Rattle.std.proofs.Common.{◌≡◌, ℕ, ◌+◌, ◌*◌, ◌/◌, ◌%◌, ◌<◌, sym, ◌∙◌, ap, arith}
use Rattle.std.proofs.Math.Nat.{mul-add-div_right}
use Rattle.std.proofs.lemmas.Nat.{div-add-mod'}

-- a size times a million, divided by a count and rounded
pub by_parts : (size count : ℕ) → 0 < count →
    size / count * 1_000_000 + (2 * (size % count * 1_000_000) + count) / (2 * count) ≡ (2 * (size * 1_000_000) + count) / (2 * count)
by_parts size count some =
    let q : ℕ = size / count in
    let r : ℕ = size % count in
    let whole : q * count + r ≡ size = div-add-mod' size count in
    let d : 0 < 2 * count = omega (arith, some) in
    let split : 2 * (size * 1_000_000) + count ≡ q * 1_000_000 * (2 * count) + (2 * (r * 1_000_000) + count) = regroup q count r size (sym whole) in
    sym (ap (λ (n : ℕ). n / (2 * count)) split ∙ mul-add-div_right d (q * 1_000_000) (2 * (r * 1_000_000) + count))
  where
    regroup : (q count r size : ℕ) → size ≡ q * count + r → 2 * (size * 1_000_000) + count ≡ q * 1_000_000 * (2 * count) + (2 * (r * 1_000_000) + count)
    regroup q count r size is = grind (arith, is)
