use Rattle.std.proofs.Common.{◌≡◌, ℕ, ◌<◌, ◌≤◌, Bool, true, false, T, Some, None, Option, List, refl, sym, ap, ◌∙◌}
use Rattle.std.specs.FinMap.{entries, entries_sorted, get-entries, find}
use Rattle.ts_model.specs.Catalogue.{Series, name_cmp}
use Rattle.ts_rolling.specs.Sets.{read_window, window_key, read_control, control_key, most_windows, most_kept, windows, controls, may_be_window}
use Rattle.ts_rolling.specs.SetLaws.{window_in}
use Rattle.ts_rolling.proofs.KeyLemmas.{window_form, control_form, windows_cmp, controls_cmp}
use Rattle.ts_rolling.proofs.NumberedLemmas.{tested, find-picked, good-picked, sorted-picked, numbers_rise}
use Rattle.ts_rolling.proofs.laws.series_are_found_by_keys.Goals as goal

abbrev IsWindow : ℕ → Type 0
IsWindow j = j < most_windows

abbrev IsKept : ℕ → Type 0
IsKept n = (1 ≤ n) × (n ≤ most_kept)

same_test : (container : List ℕ) (o : Option Series) → tested (may_be_window container) o ≡ window_in container o
same_test container None = refl
same_test container (Some s) = refl

any : (o : Option Series) → tested (λ s. true) o ≡ o
any None = refl
any (Some s) = refl

truth : (b : Bool) → T b → b ≡ true
truth true h = refl
truth false h = absurd h

pub returns : goal.returns
unfolding windows controls
returns c = record {
  window = λ set container cat j few.
      find-picked (λ k. read_window k set) (window_key set) IsWindow (λ k j. (window_form k set j).0) (λ j h. (window_form (window_key set j) set j).1 (h, refl)) (λ i j. windows_cmp set i j)
      (may_be_window container) j few (entries cat.series) (entries_sorted cat.series)
      ∙ same_test container (find name_cmp (window_key set j) (entries cat.series))
      ∙ ap (window_in container) (sym (get-entries cat.series (window_key set j)));
  windows_rise = λ set container cat. truth _ (
      sorted-picked (λ k. read_window k set) (window_key set) IsWindow (λ k j. (window_form k set j).0) (λ j h. (window_form (window_key set j) set j).1 (h, refl)) (λ i j. windows_cmp set i j)
      (may_be_window container) (entries cat.series) (entries_sorted cat.series));
  windows_few = λ set container cat.
      good-picked (λ k. read_window k set) (window_key set) IsWindow (λ k j. (window_form k set j).0) (λ j h. (window_form (window_key set j) set j).1 (h, refl)) (λ i j. windows_cmp set i j)
      (may_be_window container) (entries cat.series);
  live_rise = λ set container cat.
      numbers_rise (windows set container cat)
      (sorted-picked (λ k. read_window k set) (window_key set) IsWindow (λ k j. (window_form k set j).0) (λ j h. (window_form (window_key set j) set j).1 (h, refl)) (λ i j. windows_cmp set i j)
      (may_be_window container) (entries cat.series) (entries_sorted cat.series));
  control = λ set cat n least most.
      find-picked (λ k. read_control k set) (control_key set) IsKept (λ k n e. let h = (control_form k set n).0 e in ((h.0, h.1), h.2)) (λ n h. (control_form (control_key set n) set n).1 (h.0, h.1, refl)) (λ i j h g. controls_cmp set i j h.1 g.1)
      (λ s. true) n (least, most) (entries cat.series) (entries_sorted cat.series)
      ∙ any (find name_cmp (control_key set n) (entries cat.series))
      ∙ sym (get-entries cat.series (control_key set n));
  controls_rise = λ set cat. truth _ (
      sorted-picked (λ k. read_control k set) (control_key set) IsKept (λ k n e. let h = (control_form k set n).0 e in ((h.0, h.1), h.2)) (λ n h. (control_form (control_key set n) set n).1 (h.0, h.1, refl)) (λ i j h g. controls_cmp set i j h.1 g.1)
      (λ s. true) (entries cat.series) (entries_sorted cat.series));
  controls_few = λ set cat.
      good-picked (λ k. read_control k set) (control_key set) IsKept (λ k n e. let h = (control_form k set n).0 e in ((h.0, h.1), h.2)) (λ n h. (control_form (control_key set n) set n).1 (h.0, h.1, refl)) (λ i j h g. controls_cmp set i j h.1 g.1)
      (λ s. true) (entries cat.series);
}
