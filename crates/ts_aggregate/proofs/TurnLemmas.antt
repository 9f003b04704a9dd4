-- Cells that are taken by the groups of their elements, one group after the other.
use Rattle.std.proofs.Common.{◌≡◌, ℕ, zero, suc, ◌+◌, ◌-◌, ◌*◌, ◌<◌, ◌≤◌, ℤ, Bool, true, false, not, Option, Some, None, List, [], ◌∷◌, ◌++◌, length, map, take, drop, refl, sym, ap, subst, ◌∙◌, arith, append_assoc, append-nil, length-take}
use Rattle.std.proofs.lemmas.List.{take-append-drop}
use Rattle.std.proofs.lemmas.Option.{same_Some}
use Rattle.std.proofs.Math.Nat.{suc-mul}
use Rattle.ts_row.specs.declared.kind.Column.{Column}
use Rattle.ts_row.specs.Row.{Row, width_of, Element}
use Rattle.ts_calendar.specs.Calendars.{IsBefore}
use Rattle.ts_entry.specs.declared.stamps.Stamps.{Stamps}
use Rattle.ts_entry.specs.Stamps.{HasStamp}
use Rattle.ts_entry.specs.Rows.{IsCellWith, AreCellsWith, AreStamped, AreCellsOf, elements_in, row_if_any, rows_in}
use Rattle.ts_entry.proofs.CallerLemmas.{elements_both, rows_held}
use Rattle.ts_aggregate.specs.Groups.{Grouping, AreBefore, AreOrdered, AreGrouped, IsFirstBefore, IsReady, MayTake, is_seen}
use Rattle.ts_aggregate.specs.GroupLaws.{grouped_none, grouped_then}
use Rattle.ts_aggregate.proofs.PieceLemmas.{cells_behind, stamped_behind}
use Rattle.ts_aggregate.proofs.RowLemmas.{no_cell}
use Rattle.ts_aggregate.proofs.StepLemmas.{hidden_passed, piece_grouped}

-- as many cells have no fewer bytes
pub few_cells : (left size len : ℕ) → 0 < size → len ≡ left * size → left ≤ len
few_cells zero size len some whole = omega arith
few_cells (suc n) size len some whole =
    let rest : n ≤ n * size = few_cells n size (n * size) some refl in
    omega (arith, rest, whole, some, suc-mul n size)

-- those that are left without some of them
pub less_cells : (n left size len rest : ℕ) → n ≤ left → len ≡ left * size → n * size + rest ≡ len → rest ≡ (left - n) * size
less_cells zero left size len rest within whole parts =
    let none : 0 * size ≡ 0 = omega arith in
    let same : left ≡ left - 0 = omega arith in
    let all : rest ≡ left * size = omega (arith, whole, parts, none) in
    all ∙ ap (λ (k : ℕ). k * size) same
less_cells (suc n) zero size len rest within whole parts = absurd (omega (arith, within))
less_cells (suc n) (suc left) size len rest within whole parts =
    let same : left - n ≡ suc left - suc n = omega arith in
    less_cells n left size (left * size) rest (omega (arith, within)) refl (omega (arith, whole, parts, suc-mul n size, suc-mul left size))
    ∙ ap (λ (k : ℕ). k * size) same

pub none_left : (left size len : ℕ) → left ≡ 0 → len ≡ left * size → len ≡ 0
none_left zero size len none whole = whole ∙ (let zero_ : 0 * size ≡ 0 = omega arith in zero_)
none_left (suc n) size len none whole = absurd (omega (arith, none))

shown_not : (b : Bool) → not b ≡ true → b ≡ false
shown_not true is = sym is
shown_not false is = refl

hidden_not : (b : Bool) → not b ≡ false → b ≡ true
hidden_not true is = refl
hidden_not false is = sym is

-- a cell without an element that isn't hidden
pub none_taken : {V : Type 0} (took : V → List Element → V → Type 0) (none : (x : V) → took x [] x) (columns : List Column) (front size : ℕ)
    (bytes : List ℕ) (found : List (Option Element)) (v : Grouping) (x : V) → size ≡ front + width_of columns
    → ((f : Option Row) → IsCellWith columns front (take size bytes) f → is_seen f ≡ false)
    → AreCellsWith columns front bytes (map row_if_any found) → AreGrouped took columns v x (elements_in (take 1 found)) v x
none_taken took none columns front size bytes [] v x is shown are = grouped_none took none columns v x
none_taken took none columns front size bytes (None ∷ fs) v x is shown are = grouped_none took none columns v x
none_taken took none columns front size bytes (Some e ∷ fs) v x is shown are =
    hidden_passed took none columns v x e (hidden_not e.1.hidden
    (shown (Some e.1) (subst (λ (n : ℕ). IsCellWith columns front (take n bytes) (Some e.1)) (sym is) are.0)))

-- one without a stamp
pub none_stamped : {V : Type 0} (took : V → List Element → V → Type 0) (none : (x : V) → took x [] x) (columns : List Column)
    (front size number : ℕ) (stamps : Stamps) (bytes : List ℕ) (found : List (Option Element)) (v : Grouping) (x : V) (o : Option ℤ)
    → o ≡ None → ((s : ℤ) → HasStamp stamps number (take size bytes) s → o ≡ Some s) → AreStamped stamps size number bytes found
    → AreGrouped took columns v x (elements_in (take 1 found)) v x
none_stamped took none columns front size number stamps bytes [] v x o is read are = grouped_none took none columns v x
none_stamped took none columns front size number stamps bytes (None ∷ fs) v x o is read are = grouped_none took none columns v x
none_stamped took none columns front size number stamps bytes (Some e ∷ fs) v x o is read are =
    let there = read e.0 are.0 in
    absurd (cc)

-- the cells of a group
module _ {V : Type 0} (took : V → List Element → V → Type 0) (columns : List Column) (front size number : ℕ) (stamps : Stamps)
    (bytes : List ℕ) (v u w : Grouping) (x y z : V) (stamp : ℤ) (o : Option ℤ) (some : 0 < length bytes)
    (size_is : size ≡ front + width_of columns)
    (shown : (f : Option Row) → IsCellWith columns front (take size bytes) f → is_seen f ≡ true)
    (read : (s : ℤ) → HasStamp stamps number (take size bytes) s → o ≡ Some s) (is : o ≡ Some stamp)
    (ready : IsReady took v x stamp u y) (here : IsBefore stamp u.span.end)
    (wanted : w.wanted ≡ u.wanted) (span : w.span ≡ u.span) (same : w.count ≡ u.count) (out : z ≡ y) where
  pub piece_taken : (count : ℕ) (found : List (Option Element)) → 1 ≤ count
      → (IsFirstBefore u.span.end found → AreOrdered (elements_in (take count found)) → AreBefore u.span.end (elements_in (take count found)))
      → MayTake u.span.start columns u.fold (rows_in (map row_if_any (take count found))) w.fold
      → AreCellsWith columns front bytes (map row_if_any found) → AreStamped stamps size number bytes found
      → AreGrouped took columns v x (elements_in (take count found)) w z
  piece_taken zero found one before takes are stamped = absurd (omega (arith, one))
  piece_taken (suc k) [] one before takes are stamped = absurd (let none : length bytes ≡ 0 = ap length are in omega (arith, none, some))
  piece_taken (suc k) (None ∷ fs) one before takes are stamped =
      let no_ = shown None (subst (λ (n : ℕ). IsCellWith columns front (take n bytes) None) (sym size_is) are.0) in
      absurd (cc)
  piece_taken (suc k) (Some e ∷ fs) one before takes are stamped =
      let seen_ = shown (Some e.1) (subst (λ (n : ℕ). IsCellWith columns front (take n bytes) (Some e.1)) (sym size_is) are.0) in
      let at : stamp ≡ e.0 = same_Some stamp e.0 (sym is ∙ read e.0 stamped.0) in
      let first : IsBefore e.0 u.span.end = subst (λ (s : ℤ). IsBefore s u.span.end) at here in
      piece_grouped took columns v u w x y z e (elements_in (take k fs)) (subst (λ (s : ℤ). IsReady took v x s u y) at ready)
      (shown_not e.1.hidden seen_) (λ ordered. (before first ordered).1) wanted span same out
      (subst (λ (l : List Row). MayTake u.span.start columns u.fold l w.fold) (rows_held (take (suc k) (Some e ∷ fs))) takes)

-- some of the cells are taken, and the others not yet
pub record Turn {V : Type 0} (took : V → List Element → V → Type 0) (columns : List Column) (front number : ℕ) (stamps : Stamps)
    (rest : List ℕ) (found : List (Option Element)) (v : Grouping) (x : V) (w : Grouping) (y : V) : Type 0 where
  pub done : List (Option Element)
  pub others : List (Option Element)
  pub parts : found ≡ done ++ others
  pub rows : AreCellsWith columns front rest (map row_if_any others)
  pub stamped : AreStamped stamps (front + width_of columns) number rest others
  pub grouped : AreGrouped took columns v x (elements_in done) w y

module _ {V : Type 0} (took : V → List Element → V → Type 0) (none : (x : V) → took x [] x)
    (then : (x y z : V) (es fs : List Element) → took x es y → took y fs z → took x (es ++ fs) z) (columns : List Column) (front : ℕ)
    (stamps : Stamps) (found : List (Option Element)) (v : Grouping) (x : V) where
  pub turn_first : (cells : List ℕ) → AreCellsOf columns front stamps cells found → Turn took columns front 0 stamps cells found v x v x
  turn_first cells are = record {
    done = [];
    others = found;
    parts = refl;
    rows = are.rows;
    stamped = are.stamped;
    grouped = grouped_none took none columns v x;
  }

  pub turn_next : (number n m : ℕ) (rest behind : List ℕ) (w u : Grouping) (y z : V) → m ≡ n * (front + width_of columns) → behind ≡ drop m rest
      → Turn took columns front number stamps rest found v x w y
      → ((others : List (Option Element)) → AreCellsWith columns front rest (map row_if_any others)
      → AreStamped stamps (front + width_of columns) number rest others → AreGrouped took columns w y (elements_in (take n others)) u z)
      → Turn took columns front (number + n) stamps behind found v x u z
  turn_next number n m rest behind w u y z is drops t takes = record {
    done = t.done ++ take n t.others;
    others = drop n t.others;
    parts = t.parts ∙ ap (λ (l : List (Option Element)). t.done ++ l) (sym (take-append-drop n t.others))
        ∙ sym (append_assoc t.done (take n t.others) (drop n t.others));
    rows = subst (λ (l : List ℕ). AreCellsWith columns front l (map row_if_any (drop n t.others))) (sym drops)
        (cells_behind columns front n m rest t.others is t.rows);
    stamped = subst (λ (l : List ℕ). AreStamped stamps (front + width_of columns) (number + n) l (drop n t.others)) (sym drops)
        (stamped_behind stamps (front + width_of columns) n m number rest t.others is t.stamped);
    grouped = subst (λ (l : List Element). AreGrouped took columns v x l u z) (sym (elements_both t.done (take n t.others)))
        (grouped_then took then columns v w u x y z (elements_in t.done) (elements_in (take n t.others)) t.grouped
        (takes t.others t.rows t.stamped));
  }

  pub turn_last : (number : ℕ) (rest : List ℕ) (w : Grouping) (y : V) → length rest ≡ 0 → Turn took columns front number stamps rest found v x w y
      → AreGrouped took columns v x (elements_in found) w y
  turn_last number rest w y over t =
      subst (λ (l : List (Option Element)). AreGrouped took columns v x (elements_in l) w y)
      (sym (t.parts ∙ ap (λ (l : List (Option Element)). t.done ++ l) (gone t.others t.rows) ∙ append-nil t.done)) t.grouped
    where
      gone : (others : List (Option Element)) → AreCellsWith columns front rest (map row_if_any others) → others ≡ []
      gone [] are = refl
      gone (f ∷ fs) are = absurd (no_cell columns front (take (front + width_of columns) rest) (row_if_any f)
          (omega (arith, over, length-take (front + width_of columns) rest)) are.0)
