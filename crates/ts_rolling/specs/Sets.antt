-- Rolling sets: the keys of windows, which series are of a set, and the windows of a put and of a clip.
use Rattle.std.specs.Prelude.{ℕ, zero, suc, ◌+◌, ◌/◌, ◌%◌, ◌^◌, Bool, ◌==◌, nat_lt, ◌&&◌, not, nat_le, if◌then◌else◌, ℤ}
use Rattle.std.specs.Prelude.{Option, Some, None, option_map, option_and_then, List, map, slice_get, [], ◌∷◌, filter}
use Rattle.std.specs.Prelude.{Result, ◌++◌, length, take, drop, codes, bytes_eq, Ok, Err}
use Rattle.std.specs.List.{list_any, filter_map, flat_map}
use Rattle.std.specs.FinMap.{entries}
use Rattle.ts_base.specs.declared.refusal.Refusal.{Refusal}
use Rattle.ts_base.specs.declared.refusal.Refusal.TheVariants.{WindowGone}
use Rattle.ts_base.specs.Name.{is_key}
use Rattle.ts_base.specs.Moment.{all_digits, number_of}
use Rattle.ts_row.specs.Row.{Element, seen}
use Rattle.ts_offset.specs.Grid.{GridPlan, offset_of}
use Rattle.ts_model.specs.Catalogue.{Series, Catalogue, is_regular}

-- The keys of a rolling set's series: its windows and its control.

-- the most bytes of a set's key
abbrev pub most_set_bytes : ℕ
most_set_bytes = 40

-- windows are numbered below this: no calendar has as many on starts
abbrev pub most_windows : ℕ
most_windows = 1_000_000_000_000

-- the most windows that a set keeps
abbrev pub most_kept : ℕ
most_kept = 1000

-- a key that a set may have: at most 40 bytes, none of them `#`
abbrev pub is_set : List ℕ → Bool
is_set text = is_key text && nat_le (length text) most_set_bytes && not (list_any (λ c. c == 35) text)

-- the digits of a number, so many, with zeros in front
unfoldable pub digits_of : ℕ → ℕ → List ℕ
digits_of zero n = []
digits_of (suc width) n = (48 + n / 10 ^ width) ∷ digits_of width (n % 10 ^ width)

-- the key of a set's series of a number: a sign, and the number in so many digits
abbrev pub numbered_key : List ℕ → ℕ → List ℕ → ℕ → List ℕ
numbered_key sign width set n = set ++ (sign ++ digits_of width n)

-- the key of a set's window
unfoldable pub window_key : List ℕ → ℕ → List ℕ
window_key set j = numbered_key (codes "#") 12 set j

-- the key of the control of a set that keeps n windows
unfoldable pub control_key : List ℕ → ℕ → List ℕ
control_key set n = numbered_key (codes "#w") 4 set n

-- what stands behind a front
abbrev pub behind : List ℕ → List ℕ → Option (List ℕ)
behind front text = if bytes_eq (take (length front) text) front then Some (drop (length front) text) else None

-- the number that so many digits write
abbrev pub number_in : ℕ → List ℕ → Option ℕ
number_in width text = if (length text == width) && all_digits text then Some (number_of text) else None

-- the number of a key behind a set's key and a sign
abbrev pub read_number : List ℕ → ℕ → List ℕ → List ℕ → Option ℕ
read_number sign width key set =
    option_and_then (number_in width) (option_and_then (behind sign) (behind set key))

-- the number of the window whose key this is
unfoldable pub read_window : List ℕ → List ℕ → Option ℕ
read_window key set = read_number (codes "#") 12 key set

-- a number of windows that a set may keep
abbrev pub kept_number : ℕ → Option ℕ
kept_number n = if nat_le 1 n && nat_le n most_kept then Some n else None

-- how many windows the set keeps whose control has this key
unfoldable pub read_control : List ℕ → List ℕ → Option ℕ
read_control key set = option_and_then kept_number (read_number (codes "#w") 4 key set)

-- Which series of a catalogue are of a rolling set.

-- the number of windows to keep, and the series, where a key is that of a control of the set
abbrev pub control_if_any : List ℕ → List ℕ × Series → Option (ℕ × Series)
control_if_any set e = option_map (λ n. (n, e.1)) (read_control e.0 set)

-- the controls of a set, in the order of their keys
unfoldable pub controls : List ℕ → Catalogue → List (ℕ × Series)
controls set cat = filter_map (control_if_any set) (entries cat.series)

-- the control of a set is the one of the least key
abbrev pub control_of : List ℕ → Catalogue → Option (ℕ × Series)
control_of set cat = slice_get (controls set cat) 0

-- an irregular series of a container: such a one may be a window's
abbrev pub may_be_window : List ℕ → Series → Bool
may_be_window container s = bytes_eq s.container container && not (is_regular s.kind)

-- the number of the window, and its series, where a key is that of a window of the set in its container
abbrev pub window_if_any : List ℕ → List ℕ → List ℕ × Series → Option (ℕ × Series)
window_if_any set container e =
    if may_be_window container e.1 then option_map (λ j. (j, e.1)) (read_window e.0 set) else None

-- the windows of a set whose control stands in a container, in the order of their keys
unfoldable pub windows : List ℕ → List ℕ → Catalogue → List (ℕ × Series)
windows set container cat = filter_map (window_if_any set container) (entries cat.series)

-- their numbers
abbrev pub live : List ℕ → List ℕ → Catalogue → List ℕ
live set container cat = map (λ w. w.0) (windows set container cat)

-- what is seen of their elements, window by window
abbrev pub window_elements : List ℕ → List ℕ → Catalogue → List Element
window_elements set container cat = flat_map (λ w. seen (entries w.1.elements)) (windows set container cat)

-- What a put into a rolling set asks for: its window, and the windows that go.

-- the window of a put, whether it is to be made, and the windows that go
pub record Planned : Type 0 where
  pub window : ℕ
  pub attach : Bool
  pub purge : List ℕ

abbrev pub a_plan : ℕ → Bool → List ℕ → Planned
a_plan window attach purge = record { window = window; attach = attach; purge = purge }

-- the later of two windows
abbrev pub later : ℕ → ℕ → ℕ
later j k = if nat_lt j k then k else j

-- the greatest of numbers; 0 of none
abbrev pub greatest : List ℕ → ℕ
greatest [] = 0
greatest (k ∷ ks) = later k (greatest ks)

-- Window k is none of the last n that end with window `top`.
abbrev pub is_old : ℕ → ℕ → ℕ → Bool
is_old n top k = nat_le (k + n) top

-- a window is older than those that are kept beside the live ones
abbrev pub is_gone : ℕ → List ℕ → ℕ → Bool
is_gone n live window = list_any (λ k. is_old n k window) live

-- the live windows that go when there is this one
abbrev pub going : ℕ → List ℕ → ℕ → List ℕ
going n live window = filter (is_old n (later (greatest live) window)) live

-- the plan for a put into a window, where n windows are kept and these are live
unfoldable pub plan_for : ℕ → List ℕ → ℕ → Result Planned Refusal
plan_for n live window =
    if is_gone n live window then Err (WindowGone (greatest live))
    else Ok (a_plan window (not (list_any (λ k. k == window) live)) (going n live window))

-- the same where the window of the stamp was found, or refused
abbrev pub plan_at : ℕ → List ℕ → Result ℕ Refusal → Result Planned Refusal
plan_at n live (Ok window) = plan_for n live window
plan_at n live (Err refusal) = Err refusal

-- the plan for a put at a stamp, whose window is its offset in the grid
abbrev pub planned : GridPlan → ℕ → List ℕ → ℤ → Result Planned Refusal
planned grid n live stamp = plan_at n live (offset_of grid stamp)
