-- How the series of a set are found by their keys.
use Rattle.std.specs.Prelude.{◌≡◌, ℕ, ◌<◌, ◌≤◌, if◌then◌else◌, Option, Some, None, IsTrue, List}
use Rattle.std.specs.List.{AllByRecursion}
use Rattle.std.specs.List.Sorted.{IsStrictlyIncreasing}
use Rattle.std.specs.Ordering.{nat_cmp}
use Rattle.std.specs.FinMap.{find, get, is_sorted}
use Rattle.ts_model.specs.Catalogue.{Series, Catalogue}
use Rattle.ts_rolling.specs.Sets.{most_windows, most_kept, window_key, control_key, controls, may_be_window, windows}
use Rattle.ts_rolling.specs.Sets.{live}

-- the series, if it may be a window's
abbrev pub window_in : List ℕ → Option Series → Option Series
window_in container None = None
window_in container (Some s) = if may_be_window container s then Some s else None

-- The windows of a set stand in the order of their numbers, each once; the one of a number is the series with its key.
-- So do the controls.
pub record SeriesAreFoundByKeys : Type 0 where
  pub window : (set container : List ℕ) (cat : Catalogue) (j : ℕ) → j < most_windows
      → find nat_cmp j (windows set container cat) ≡ window_in container (get cat.series (window_key set j))
  pub windows_rise : (set container : List ℕ) (cat : Catalogue) → IsTrue (is_sorted nat_cmp (windows set container cat))
  pub windows_few : (set container : List ℕ) (cat : Catalogue)
      → AllByRecursion (λ w. w.0 < most_windows) (windows set container cat)
  pub live_rise : (set container : List ℕ) (cat : Catalogue) → IsStrictlyIncreasing (live set container cat)
  pub control : (set : List ℕ) (cat : Catalogue) (n : ℕ) → 1 ≤ n → n ≤ most_kept
      → find nat_cmp n (controls set cat) ≡ get cat.series (control_key set n)
  pub controls_rise : (set : List ℕ) (cat : Catalogue) → IsTrue (is_sorted nat_cmp (controls set cat))
  pub controls_few : (set : List ℕ) (cat : Catalogue)
      → AllByRecursion (λ e. (1 ≤ e.0) × (e.0 ≤ most_kept)) (controls set cat)
