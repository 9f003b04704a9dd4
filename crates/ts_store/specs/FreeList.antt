-- The free pages of a store.
use Rattle.std.specs.Prelude.{ℕ, ◌-◌, ◌≤◌, List, ◌++◌, length, take, drop, reverse}

-- what contracts see of them
pub record FreePages : Type 0 where
  -- those that can be taken, the next one first
  pub free : List ℕ
  -- those that can be taken once the open batch is dropped
  pub kept : List ℕ
  -- those that can be taken once the transaction is rolled back
  pub base : List ℕ

-- The numbers stand in one list, of which each part ends where the next begins; of what isn't taken the next one to be
-- taken stands last. First those that a rollback goes back to: what isn't taken, what the open batch took, and what
-- batches of the transaction took before it. Then those that these batches freed: what isn't taken, and what the open
-- batch took. At the end what the open batch freed.
pub record ArePlaced (low kept base freed saved : ℕ) (numbers : List ℕ) : Type 0 where
  pub first : low ≤ kept
  pub second : kept ≤ base
  pub third : base ≤ freed
  pub fourth : freed ≤ saved
  pub within : saved ≤ length numbers

abbrev pub free_pages : ℕ → ℕ → ℕ → ℕ → ℕ → List ℕ → FreePages
free_pages low kept base freed saved numbers = record {
  free = reverse (take low numbers ++ take (freed - base) (drop base numbers) ++ drop saved numbers);
  kept = reverse (take kept numbers ++ take (saved - base) (drop base numbers));
  base = reverse (take base numbers);
}
