-- Elements of a regular series that are handed on so many on starts behind their own, one after the other: what comes of
-- all of them is what the series comes to against itself.
use Rattle.std.proofs.Common.{◌≡◌, ℕ, ◌+◌, ◌<◌, ◌≤◌, ◌^◌, ℤ, Bool, true, false, nat_lt, cond, Option, Some, None, Result, Ok, Err, List, [], ◌∷◌, All, length, map, filter_map, refl, ap, sym, subst, ◌∙◌, arith}
use Rattle.std.specs.Prelude.{not, option_map}
use Rattle.std.specs.List.{cons_option}
use Rattle.std.proofs.lemmas.Bool.{lt-ltb, le-ltb}
use Rattle.ts_base.specs.declared.refusal.Refusal.{Refusal}
use Rattle.ts_base.specs.declared.refusal.Refusal.TheVariants.{TooLarge}
use Rattle.ts_row.specs.declared.kind.Column.{Column}
use Rattle.ts_row.specs.Row.{Element, seen}
use Rattle.ts_space.specs.declared.place.Place.{Place}
use Rattle.ts_space.specs.Place.{IsRising, count_of}
use Rattle.ts_sheets.specs.Stamped.{within_range}
use Rattle.ts_calendar.specs.Calendars.{IsLaid}
use Rattle.ts_offset.specs.Grid.{GridPlan}
use Rattle.ts_offset.specs.declared.shape.Shape.{Shape}
use Rattle.ts_offset.specs.declared.shape.Shape.TheVariants.{Regular}
use Rattle.ts_entry.specs.Entry.{Entry, filled, elements_of}
use Rattle.ts_entry.specs.Handed.{AreHanded}
use Rattle.ts_base.specs.Answer.{most_rows, within_rows}
use Rattle.ts_clip.specs.Call.{AreElementsTaken}
use Rattle.ts_clip.specs.Series.{HaveElements}
use Rattle.ts_offset.specs.Shape.{IsLaidOut}
use Rattle.ts_combine.specs.Combine.{lagged}
use Rattle.ts_combine.specs.Moved.{moved, start_behind, last_offset}
use Rattle.ts_combine.specs.Series.{AreOnStarts, IsStartOf}
use Rattle.ts_combine.proofs.LagLemmas.{lagged-moved}
use Rattle.ts_aggregate.proofs.ToldLemmas.{few_kept, given_told}
use Rattle.ts_shelf.proofs.OrderLemmas.{in_order}
use Rattle.ts_combined_rows.specs.Moves.{Mover, Moves, IsMovedOn, mover, moved_by}
use Rattle.ts_combined_rows.specs.Placed.{NoneBefore, NoneAfter}
use Rattle.ts_combined_rows.proofs.PlacedLemmas.{within_placed, none_placed}
use Rattle.ts_combined_rows.proofs.SideLemmas.{HasSide, of_series, on_pages, tested}

-- one element more, which moves to a start
module _ {V : Type 0} (took : V → List Entry → V → Type 0) (v : Mover) (x : V) (e : Element) where
  pub moves_on : (w : Mover) (y : V) (start : ℤ) → start_behind v.grid v.by v.last e.0 ≡ Some start → IsMovedOn took v x (start, Some e.1) w y → Moves took v x (e ∷ []) w y
  moves_on w y start on handed =
      let one : moved_by v (e ∷ []) ≡ (start, e.1) ∷ [] = ap (λ o. cons_option (option_map (λ s. (s, e.1)) o) []) on in
      record {
        same = handed.same;
        more = handed.more;
        counted = λ few.
            subst (λ (l : List Element). w.count ≡ v.count + length l) (sym one)
            (handed.counted (subst (λ (l : List Element). v.count + length l < 2 ^ 64) one few));
        taken = λ few. subst (λ (l : List Element). took x (map filled l) y) (sym one) (handed.taken few);
      }

-- no more come than there were
module _ {A B : Type 0} (f : A → Option B) where
  one_given : (o : Option B) (ys : List B) (n : ℕ) → length ys ≤ n → length (cons_option o ys) ≤ n + 1
  one_given None ys n few = omega (arith, few)
  one_given (Some y) ys n few = omega (arith, few)

  few_given : (xs : List A) → length (filter_map f xs) ≤ length xs
  few_given [] = omega arith
  few_given (x ∷ xs) = omega (arith, one_given (f x) (filter_map f xs) (length xs) (few_given xs))

-- of a series, what its elements that aren't hidden come to
module _ (shape : Shape) (grid : GridPlan) (regular : shape ≡ Regular grid) (laid : IsLaidOut shape)
    (slot : ℕ) (columns : List Column) (pages : ℕ → List ℕ) (places : List Place) (es : List Element) (rising : IsRising places)
    (have : HaveElements shape slot columns pages places es) (by : ℤ) (last : ℕ) (last_is : last ≡ last_offset grid (seen es)) where
  pub has : HasSide shape columns (seen es)
  has = tested (λ (e : Element). not e.1.hidden) shape columns es
      (on_pages shape slot columns pages places es (in_order shape laid slot columns pages places es rising have) have)

  grid_laid : IsLaid grid.calendar
  grid_laid = subst IsLaidOut regular laid

  starts_in : All (λ e. IsStartOf grid e.0) (seen es)
  starts_in = (subst (λ (s : Shape). HasSide s columns (seen es)) regular has).starts

  are : lagged shape by (seen es) ≡ within_rows (filter_map (moved grid by last) (seen es))
  are =
      let series = (of_series shape columns (seen es) has).series in
      let on_starts = subst (λ (s : Shape). AreOnStarts s (seen es)) regular series.on_starts in
      ap (λ (s : Shape). lagged s by (seen es)) regular
      ∙ sym (ap (λ (n : ℕ). within_rows (filter_map (moved grid by n) (seen es))) last_is
      ∙ ap within_rows (lagged-moved grid grid_laid (seen es) series.rising on_starts by))

  -- nothing, where none has a place
  pub none_moved : ((stamp : ℤ) → IsStartOf grid stamp → start_behind grid by last stamp ≡ None) → (took : List Element → Type 0) → took [] → AreHanded took (lagged shape by (seen es)) (Ok 0)
  none_moved none took nothing =
      subst (λ (answer : Result (List Element) Refusal). AreHanded took answer (Ok 0))
      (sym (are ∙ ap within_rows (none_placed grid grid_laid by last (seen es) none starts_in))) (nothing, refl)

  -- else what was handed on of those in a range outside which none has one, once what took them is no longer borrowed
  module _ {V Name : Type 0} (took : V → List Entry → V → Type 0) (countable : count_of places < 2 ^ 32) (from to : ℤ) (near : NoneBefore grid by from) (far : NoneAfter grid by last to)
      (first final : V) (name begun going : Name) (v u : Mover) (x y : V) (begin : begun ≡ name) (starts : x ≡ first) (state : v ≡ mover grid by last 0)
      (taken : AreElementsTaken (λ entries. (going ≡ begun) × Moves took v x (elements_of entries) u y) from to es)
      (back : name ≡ going → final ≡ y) where
    abbrev rows : List Element
    rows = filter_map (moved grid by last) (seen es)

    within : filter_map (moved grid by last) (within_range from to (seen es)) ≡ rows
    within = within_placed grid grid_laid by last from to (seen es) near far starts_in

    moves : Moves took (mover grid by last 0) x (within_range from to (seen es)) u y
    moves =
        subst (λ (l : List Element). Moves took (mover grid by last 0) x l u y) taken.are
        (subst (λ (a : Mover). Moves took a x (elements_of taken.entries) u y) state taken.taken.1)

    counted : u.count ≡ length rows
    counted =
        let few = (given_told shape slot columns pages places es laid rising countable have).few in
        let least = few_kept (λ (e : Element). not e.1.hidden) es in
        let fewer : length rows ≤ length (seen es) = few_given (moved grid by last) (seen es) in
        let fits : 0 + length rows < 2 ^ 64 = omega (arith, few, least, fewer) in
        let is : u.count ≡ 0 + length (filter_map (moved grid by last) (within_range from to (seen es))) =
        moves.counted (subst (λ (l : List Element). 0 + length l < 2 ^ 64) (sym within) fits) in
        let same = ap (λ (l : List Element). length l) within in
        omega (arith, is, same)

    handed : u.count ≤ most_rows → took first (map filled rows) final
    handed few =
        subst (λ (s : V). took s (map filled rows) final) starts
        (subst (λ (s : V). took x (map filled rows) s) (sym (back (sym (taken.taken.0 ∙ begin))))
        (subst (λ (l : List Element). took x (map filled l) y) within (moves.taken few)))

    pub few_moved : (count : ℕ) → count ≡ u.count → count ≤ most_rows → AreHanded (λ rows. took first (map filled rows) final) (lagged shape by (seen es)) (Ok count)
    few_moved count is low =
        let test : nat_lt most_rows (length rows) ≡ false = le-ltb most_rows (length rows) (omega (arith, is, low, counted)) in
        subst (λ (answer : Result (List Element) Refusal). AreHanded (λ rows. took first (map filled rows) final) answer (Ok count))
        (sym (are ∙ ap (λ (b : Bool). cond b (Err (TooLarge (length rows))) (Ok rows)) test))
        (handed (omega (arith, is, low)), is ∙ counted)

    pub many_moved : (count : ℕ) → count ≡ u.count → most_rows < count → AreHanded (λ rows. took first (map filled rows) final) (lagged shape by (seen es)) (Err (TooLarge count))
    many_moved count is many =
        let test : nat_lt most_rows (length rows) ≡ true = lt-ltb most_rows (length rows) (omega (arith, is, many, counted)) in
        subst (λ (answer : Result (List Element) Refusal). AreHanded (λ rows. took first (map filled rows) final) answer (Err (TooLarge count)))
        (sym (are ∙ ap (λ (b : Bool). cond b (Err (TooLarge (length rows))) (Ok rows)) test))
        (ap TooLarge (is ∙ counted))
