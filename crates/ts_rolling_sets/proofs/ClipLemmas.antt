-- What is read of a window, and of windows one behind the other.
use Rattle.std.specs.Prelude.{nat_lt}
use Rattle.std.proofs.lemmas.List.{append-nil, length-map}
use Rattle.std.proofs.lemmas.Bool.Decides.{nat_tests}
use Rattle.std.proofs.Common.{◌≡◌, ℕ, ℤ, ◌+◌, ◌<◌, ◌≤◌, Bool, true, false, cond, IsTrue, Option, None, Some, IfSome, Ok, Err, Result, List, [], ◌∷◌, ◌++◌, map, length, zero, suc, take, get_or, length-append, append_assoc, refl, ap, sym, ◌∙◌, subst, arith}
use Rattle.std.specs.FinMap.{entries}
use Rattle.ts_base.specs.declared.refusal.Refusal.{Refusal}
use Rattle.ts_base.specs.declared.refusal.Refusal.TheVariants.{TooLarge}
use Rattle.ts_row.specs.declared.kind.Column.{Column}
use Rattle.ts_row.specs.Row.{Heading, Element, seen}
use Rattle.ts_space.specs.Directory.{places_of}
use Rattle.ts_entry.specs.Entry.{Entry, filled, reading, clipped}
use Rattle.ts_base.specs.Answer.{most_rows, within_rows}
use Rattle.ts_offset.specs.declared.shape.Shape.{Shape}
use Rattle.ts_offset.specs.declared.shape.Shape.TheVariants.{Irregular}
use Rattle.ts_layout.specs.Meaning.{Layout, elements_at, heading_at, shape_at}
use Rattle.ts_layout.proofs.CallerLemmas.{one_of}
use Rattle.ts_clip.specs.Call.{IsRead}
use Rattle.ts_clip.specs.Series.{IsTold}
use Rattle.ts_clip.proofs.ChainReadingLemmas.{clipped_filled}
use Rattle.ts_answer.specs.View.{View, Shows}
use Rattle.ts_shelf.proofs.SeenLemmas.{elements_seen, entries_in as entries_there}
use Rattle.ts_rolling_sets.specs.Windows.{seen_at, seen_in, entries_in, IsWindowSlot, HasColumns}

-- as many entries as elements
filled_long : (es : List Element) → length (map filled es) ≡ length es
filled_long es = length-map es filled

-- what was read of a window was taken, where it is no more than a reply may have
pub read_within : (took : List Entry → Type 0) (es : List Element) (count : ℕ) → IsRead took (within_rows (map filled es)) (Ok count) → took (map filled es) × (count ≡ length es)
read_within took es count = by (nat_lt most_rows (length (map filled es)))
  where
    by : (b : Bool) → IsRead took (cond b (Err (TooLarge (length (map filled es)))) (Ok (map filled es))) (Ok count) → took (map filled es) × (count ≡ length es)
    by true is = absurd is
    by false is = (is.taken, is.number ∙ filled_long es)

-- and else it is more
pub read_beyond : (took : List Entry → Type 0) (es : List Element) (refusal : Refusal) → IsRead took (within_rows (map filled es)) (Err refusal) → 1_000_000 < length es
read_beyond took es refusal = by (nat_lt most_rows (length (map filled es))) refl
  where
    by : (b : Bool) → nat_lt most_rows (length (map filled es)) ≡ b → IsRead took (cond b (Err (TooLarge (length (map filled es)))) (Ok (map filled es))) (Err refusal) → 1_000_000 < length es
    by true is read = subst (λ (n : ℕ). 1_000_000 < n) (filled_long es) (beyond (length (map filled es)) is)
      where
        beyond : (n : ℕ) → nat_lt most_rows n ≡ true → 1_000_000 < n
        beyond n is = grind (arith, nat_tests)
    by false is read = absurd read

module _ (tells : Bool) (x : View) (l : Layout) (told : IsTrue tells) (shows : Shows tells x l) (slot : ℕ) (h : Heading) (columns : heading_at x.definitions slot ≡ Some h)
    (lies : shape_at x.definitions slot ≡ Some Irregular) (within : slot < 4096) where
  -- what holds of the elements that are told holds of those of the layout
  pub told_here : (Q : List Element → Type 0) → IsTold tells Irregular slot h.columns (places_of slot x.space) x.pages Q → Q (entries (elements_at slot l.element_pages))
  told_here Q holds =
      let found = elements_seen tells x l Irregular tt slot h told shows columns lies within in
      subst Q (sym (entries_there Irregular slot h.columns x.pages.page (places_of slot x.space) l found.0 found.1)) (holds told found.0 found.1.have)

  -- the entries of a range are those of the elements that are seen in it
  pub clipped_here : (from to : ℤ) → clipped from to (reading Irregular (entries (elements_at slot l.element_pages))) ≡ map filled (seen_at l from to slot)
  clipped_here from to = clipped_filled from to (seen (entries (elements_at slot l.element_pages)))

  -- what was read of a window
  pub one_said : (Took : List Entry → Type 0) (from to : ℤ) (count : ℕ) → IsTold tells Irregular slot h.columns (places_of slot x.space) x.pages (λ es. IsRead Took (within_rows (clipped from to (reading Irregular es))) (Ok count))
      → Took (map filled (seen_at l from to slot)) × (count ≡ length (seen_at l from to slot))
  one_said Took from to count read =
      read_within Took (seen_at l from to slot) count
      (subst (λ (es : List Entry). IsRead Took (within_rows es) (Ok count)) (clipped_here from to) (told_here (λ es. IsRead Took (within_rows (clipped from to (reading Irregular es))) (Ok count)) read))

  pub one_beyond : (Took : List Entry → Type 0) (from to : ℤ) (refusal : Refusal) → IsTold tells Irregular slot h.columns (places_of slot x.space) x.pages (λ es. IsRead Took (within_rows (clipped from to (reading Irregular es))) (Err refusal))
      → 1_000_000 < length (seen_at l from to slot)
  one_beyond Took from to refusal read =
      read_beyond Took (seen_at l from to slot) refusal
      (subst (λ (es : List Entry). IsRead Took (within_rows es) (Err refusal)) (clipped_here from to) (told_here (λ es. IsRead Took (within_rows (clipped from to (reading Irregular es))) (Err refusal)) read))

  pub one_counted : (from to : ℤ) (count : ℕ) → IsTold tells Irregular slot h.columns (places_of slot x.space) x.pages (λ es. count ≡ length (clipped from to (reading Irregular es))) → count ≡ length (seen_at l from to slot)
  one_counted from to count read =
      told_here (λ es. count ≡ length (clipped from to (reading Irregular es))) read
      ∙ ap (λ (es : List Entry). length es) (clipped_here from to) ∙ filled_long (seen_at l from to slot)

-- windows and one more
pub seen_push : (l : Layout) (from to : ℤ) (slots : List ℕ) (slot : ℕ) → seen_in l from to (slots ++ slot ∷ []) ≡ seen_in l from to slots ++ seen_at l from to slot
seen_push l from to [] slot = append_none (seen_at l from to slot)
  where
    append_none : (es : List Element) → es ++ [] ≡ es
    append_none es = append-nil es
seen_push l from to (s ∷ slots) slot =
    ap (λ (es : List Element). seen_at l from to s ++ es) (seen_push l from to slots slot)
    ∙ sym (append_assoc (seen_at l from to s) (seen_in l from to slots) (seen_at l from to slot))

filled_append : (a b : List Element) → map filled (a ++ b) ≡ map filled a ++ map filled b
filled_append [] b = refl
filled_append (e ∷ a) b = ap (λ (es : List Entry). filled e ∷ es) (filled_append a b)

pub entries_push : (l : Layout) (from to : ℤ) (slots : List ℕ) (slot : ℕ) → entries_in l from to (slots ++ slot ∷ []) ≡ entries_in l from to slots ++ map filled (seen_at l from to slot)
entries_push l from to slots slot = ap (map filled) (seen_push l from to slots slot) ∙ filled_append (seen_in l from to slots) (seen_at l from to slot)

pub long_push : (l : Layout) (from to : ℤ) (slots : List ℕ) (slot : ℕ) → length (seen_in l from to (slots ++ slot ∷ [])) ≡ length (seen_in l from to slots) + length (seen_at l from to slot)
long_push l from to slots slot = ap (λ (es : List Element). length es) (seen_push l from to slots slot) ∙ length-append (seen_in l from to slots) (seen_at l from to slot)

-- a window's part of what is seen in all
pub long_part : (l : Layout) (from to : ℤ) (slots : List ℕ) (i : ℕ) → i < length slots → length (seen_in l from to (take i slots)) + length (seen_at l from to (get_or slots i 0)) ≤ length (seen_in l from to slots)
long_part l from to [] i within = absurd (omega (arith, within))
long_part l from to (s ∷ slots) zero within =
    let long = length-append (seen_at l from to s) (seen_in l from to slots) in
    omega (arith, long)
long_part l from to (s ∷ slots) (suc i) within =
    let rest = long_part l from to slots i (omega (arith, within)) in
    let some = length-append (seen_at l from to s) (seen_in l from to (take i slots)) in
    let all = length-append (seen_at l from to s) (seen_in l from to slots) in
    omega (arith, rest, some, all)

-- what was read of the window in a slot, as it was found
module _ (tells : Bool) (x : View) (slot : ℕ) (window : IsWindowSlot x.definitions slot) (h : Heading) (shape : Shape) (series : ℕ) (columns : heading_at x.definitions slot ≡ Some h) (lies : shape_at x.definitions slot ≡ Some shape) (is : series ≡ slot) where
  told_as : (Q : Shape → List Element → Type 0) → IsTold tells shape series h.columns (places_of series x.space) x.pages (Q shape) → IsTold tells Irregular slot h.columns (places_of slot x.space) x.pages (Q Irregular)
  told_as Q read =
      let same : shape ≡ Irregular = one_of (shape_at x.definitions slot) shape Irregular lies window.lies in
      subst (λ (n : ℕ). IsTold tells Irregular n h.columns (places_of n x.space) x.pages (Q Irregular)) is
      (subst (λ (f : Shape). IsTold tells f series h.columns (places_of series x.space) x.pages (Q f)) same read)

  abbrev IsReadOf : (List Entry → Type 0) → ℤ → ℤ → Result ℕ Refusal → Type 0
  IsReadOf Took from to done =
      IsTold tells shape series h.columns (places_of series x.space) x.pages (λ es. IsRead Took (within_rows (clipped from to (reading shape es))) done)

  pub window_said : (Took : List Entry → Type 0) (from to : ℤ) (done : Result ℕ Refusal) (count : ℕ) → done ≡ Ok count → IsReadOf Took from to done → IsTrue tells → (l : Layout) → Shows tells x l
      → Took (map filled (seen_at l from to slot)) × (count ≡ length (seen_at l from to slot))
  window_said Took from to done count given read told l shows =
      one_said tells x l told shows slot h columns window.lies window.named.within Took from to count
      (told_as (λ f es. IsRead Took (within_rows (clipped from to (reading f es))) (Ok count)) (subst (IsReadOf Took from to) given read))

  pub window_beyond : (Took : List Entry → Type 0) (from to : ℤ) (done : Result ℕ Refusal) (room : ℕ) → room ≤ 1_000_000 → ((n : ℕ) → done ≡ Ok n → room < n) → IsReadOf Took from to done → IsTrue tells → (l : Layout) → Shows tells x l
      → room < length (seen_at l from to slot)
  window_beyond Took from to (Ok n) room most more read told l shows =
      let over = more n refl in
      let number = (window_said Took from to (Ok n) n refl read told l shows).1 in
      omega (arith, over, number)
  window_beyond Took from to (Err refusal) room most more read told l shows =
      let over = one_beyond tells x l told shows slot h columns window.lies window.named.within Took from to refusal
      (told_as (λ f es. IsRead Took (within_rows (clipped from to (reading f es))) (Err refusal)) read) in
      omega (arith, over, most)

  pub window_counted : (from to : ℤ) (count : ℕ) → IsTold tells shape series h.columns (places_of series x.space) x.pages (λ es. count ≡ length (clipped from to (reading shape es))) → IsTrue tells → (l : Layout) → Shows tells x l
      → count ≡ length (seen_at l from to slot)
  window_counted from to count read told l shows =
      one_counted tells x l told shows slot h columns window.lies window.named.within from to count (told_as (λ f es. count ≡ length (clipped from to (reading f es))) read)

-- columns of a heading that is there
pub has_same : (columns : List Column) (o : Option Heading) (h : Heading) → o ≡ Some h → HasColumns columns o → h.columns ≡ columns
has_same columns o h is has = subst (HasColumns columns) is has

-- what holds of a value, if there is one, taken further
pub some_more : {A : Type 0} (o : Option A) (P Q : A → Type 0) → IfSome o P → ((a : A) → P a → Q a) → IfSome o Q
some_more None P Q is further = tt
some_more (Some a) P Q is further = further a is
