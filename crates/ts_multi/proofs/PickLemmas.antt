-- One pick more.
use Rattle.std.proofs.Common.{◌≡◌, ℕ, ◌+◌, ◌*◌, ◌/◌, ◌%◌, [], ◌∷◌, ◌++◌, refl, add-one}
use Rattle.ts_multi.specs.Picks.{drawn, picks_of}

pub drawn-more : (seed i : ℕ) → drawn seed (i + 1) ≡ (1_103_515_245 * drawn seed i + 12_345) % 2_147_483_648
unfolding drawn
drawn-more seed i = rw (add-one i) refl

pub picks_of-more : (seed i : ℕ) → picks_of seed (i + 1) ≡ picks_of seed i ++ (drawn seed (i + 1) / 1000) ∷ []
unfolding picks_of
picks_of-more seed i = rw (add-one i) refl

pub picks_of-none : (seed : ℕ) → picks_of seed 0 ≡ []
unfolding picks_of
picks_of-none seed = refl
