-- What is said of the keys of all sets.
use Rattle.std.specs.Prelude.{◌≡◌, ◌↔◌, ℕ, ◌<◌, ◌≤◌, true, Some, List}
use Rattle.std.specs.Ordering.{nat_cmp}
use Rattle.ts_model.specs.Catalogue.{name_cmp}
use Rattle.ts_rolling.specs.Sets.{is_set, most_windows, most_kept, window_key, control_key, read_window, read_control}

-- window keys of a set stand in the order of their numbers
abbrev pub WindowKeysRise : Type 0
WindowKeysRise =
    (set : List ℕ) (i j : ℕ) → i < most_windows → j < most_windows
    → name_cmp (window_key set i) (window_key set j) ≡ nat_cmp i j

-- and so do control keys
abbrev pub ControlKeysRise : Type 0
ControlKeysRise =
    (set : List ℕ) (m n : ℕ) → m ≤ most_kept → n ≤ most_kept
    → name_cmp (control_key set m) (control_key set n) ≡ nat_cmp m n

-- a key is read as a number exactly where it is the key of that number
pub record KeysAreReadExactly : Type 0 where
  pub window : (key set : List ℕ) (j : ℕ)
      → (read_window key set ≡ Some j) ↔ ((j < most_windows) × (key ≡ window_key set j))
  pub control : (key set : List ℕ) (n : ℕ)
      → (read_control key set ≡ Some n) ↔ ((1 ≤ n) × (n ≤ most_kept) × (key ≡ control_key set n))

-- the key of a window or a control tells its set and its number, and which of both it is
pub record SetsShareNoKeys : Type 0 where
  pub windows : (set other : List ℕ) (i j : ℕ) → is_set set ≡ true → is_set other ≡ true
      → i < most_windows → j < most_windows → window_key set i ≡ window_key other j → (set ≡ other) × (i ≡ j)
  pub controls : (set other : List ℕ) (m n : ℕ) → is_set set ≡ true → is_set other ≡ true
      → m ≤ most_kept → n ≤ most_kept → control_key set m ≡ control_key other n → (set ≡ other) × (m ≡ n)
  pub own : (set : List ℕ) (j n : ℕ) → window_key set j ≡ control_key set n → ⊥
  pub apart : (set other : List ℕ) (j n : ℕ) → is_set set ≡ true → is_set other ≡ true
      → window_key set j ≡ control_key other n → ⊥
