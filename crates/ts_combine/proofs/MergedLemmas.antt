-- The walk over two lists of elements: what was gathered, and what is left.
use Rattle.std.proofs.Common.{◌≡◌, ◌∙◌, ℕ, zero, suc, ◌+◌, ◌≤◌, ◌<◌, Bool, true, false, cond, ℤ, Option, Some, None, IsSome, option_map, is_some, ◌⊎◌, inl, inr, List, [], ◌∷◌, ◌++◌, map, length, drop, refl, sym, ap, subst, arith, slice_get, All}
use Rattle.std.specs.Prelude.{◌&&◌, ◌||◌}
use Rattle.std.specs.List.{cons_option}
use Rattle.std.proofs.lemmas.List.{append-nil, append_assoc, map-append, drop_more, drop_all, length-map}
use Rattle.std.proofs.lemmas.List.Elements.{All-push}
use Rattle.std.proofs.lemmas.Option.{slice_get-map, slice_get_within, get_or_from_slice_get, same_Some}
use Rattle.ts_row.specs.declared.row.Elem.{Elem}
use Rattle.ts_row.specs.Row.{Row, visible, Element}
use Rattle.ts_cells.specs.IrregularPage.{AreRising}
use Rattle.ts_irregular.proofs.EditLemmas.{AreRising-tail}
use Rattle.ts_pattern.specs.declared.junction.Junction.{Junction}
use Rattle.ts_pattern.specs.declared.junction.Junction.TheVariants.{And, Or}
use Rattle.ts_combine.specs.Combine.{Side, is_kept, values_or_nulls, rows_there}
use Rattle.ts_base.specs.Moment.{is_between}
use Rattle.ts_combine.specs.Series.{side_of}
use Rattle.ts_entry.specs.Entry.{element_in, elements_in}
use Rattle.ts_combine.specs.Rows.{Gathers}
use Rattle.ts_combine.specs.Call.{row_at, joined_row, HasElements, GathersJoined, IsIndex}
use Rattle.ts_combine.specs.Merge.{stamp_at, IsTaken, behind}
use Rattle.ts_calendar.specs.Calendars.{IsBefore}
use Rattle.ts_combine.specs.declared.joined.Joined.{Joined}
use Rattle.ts_combine.specs.declared.rows.Rows.{Rows}
use Rattle.ts_combine.specs.declared.side.Side as given
use Rattle.ts_combine.proofs.OrderLemmas.{AreLater, later-earlier, later-rising}
use Rattle.ts_combine.proofs.MergeLemmas.{with_elements, row_there, next-first, next-second, next-both, next-none}

-- what was gathered, with the rows of what is left, are all rows
pub record IsUnderWay (junction : Junction) (a b : given.Side) (from to : ℤ) (rows : Rows Joined) (i j : ℕ) : Type 0 where
  pub i_within : i ≤ length a.elems.now
  pub j_within : j ≤ length b.elems.now
  pub few : rows.count ≤ i + j
  pub all : List Joined
  pub gathers : Gathers rows all
  pub elements : All (HasElements (length a.elems.now) (length b.elems.now)) all
  pub left : AreRising (elements_in a.elems.now) → AreRising (elements_in b.elems.now)
      → map (joined_row (side_of a) (side_of b)) all
      ++ rows_there junction (with_elements (side_of a) (drop i (elements_in a.elems.now))) (with_elements (side_of b) (drop j (elements_in b.elems.now))) from to
      ≡ rows_there junction (side_of a) (side_of b) from to

-- a list from an element on
drop-there : {A : Type 0} (xs : List A) (i : ℕ) (x : A) → slice_get xs i ≡ Some x → drop i xs ≡ x ∷ drop (i + 1) xs
drop-there xs i x there =
    drop_more xs i x (slice_get_within xs i x there) ∙ ap (λ y. y ∷ drop (i + 1) xs) (get_or_from_slice_get xs i x x there)

rising-drop : (es : List Element) (n : ℕ) → AreRising es → AreRising (drop n es)
rising-drop [] zero rising = tt
rising-drop [] (suc n) rising = tt
rising-drop (e ∷ es) zero rising = rising
rising-drop (e ∷ es) (suc n) rising = rising-drop es n (AreRising-tail e es rising)

mapped : {A B C : Type 0} (f : A → B) (g : B → C) (o : Option A) → option_map g (option_map f o) ≡ option_map (λ x. g (f x)) o
mapped f g None = refl
mapped f g (Some x) = refl

-- the element that stands at a stamp next
there-some : (o : Option Element) (s : ℤ) → option_map (λ e. e.0) o ≡ Some s → (e : Element) × (o ≡ Some e) × (e.0 ≡ s)
there-some (Some e) s at = (e, refl, same_Some e.0 s at)
there-some None s at = absurd (cc)

stamp-of : (elems : List Elem) (i : ℕ) → stamp_at elems i ≡ option_map (λ e. e.0) (slice_get (elements_in elems) i)
stamp-of elems i =
    sym (ap (option_map (λ e. e.0)) (slice_get-map element_in elems i) ∙ mapped element_in (λ e. e.0) (slice_get elems i))

next-there : (elems : List Elem) (i : ℕ) (s : ℤ) → stamp_at elems i ≡ Some s → (e : Element) × (slice_get (elements_in elems) i ≡ Some e) × (e.0 ≡ s)
next-there elems i s at = there-some (slice_get (elements_in elems) i) s (sym (stamp-of elems i) ∙ at)

-- the elements behind it are later
later-behind : (es : List Element) (i : ℕ) (e : Element) → AreRising es → slice_get es i ≡ Some e → AreLater e.0 (drop (i + 1) es)
later-behind es i e rising there =
    later-rising e (drop (i + 1) es) (subst AreRising (drop-there es i e there) (rising-drop es i rising))

-- where there is no further element
drop-none : {A : Type 0} (xs : List A) (i : ℕ) → slice_get xs i ≡ None → drop i xs ≡ []
drop-none [] zero none = refl
drop-none [] (suc i) none = refl
drop-none (x ∷ xs) zero none = absurd (cc)
drop-none (x ∷ xs) (suc i) none = drop-none xs i none

-- where the next one is later than a stamp, all are
later-next : (es : List Element) (i : ℕ) (s : ℤ) → AreRising es → IsBefore s (option_map (λ e. e.0) (slice_get es i)) → AreLater s (drop i es)
later-next es i s rising before = by (slice_get es i) refl before where
  by : (o : Option Element) → slice_get es i ≡ o → IsBefore s (option_map (λ e. e.0) o) → AreLater s (drop i es)
  by (Some e) there lt = subst (AreLater s) (sym (drop-there es i e there)) (lt, later-earlier s e.0 (drop (i + 1) es) lt (later-behind es i e rising there))
  by None there lt = subst (AreLater s) (sym (drop-none es i there)) tt

-- whether a row is kept is seen by its indices
pub kept-same : (junction : Junction) (x y : Option Row) (u v : Option ℕ) → is_some x ≡ is_some u → is_some y ≡ is_some v → is_kept junction x y ≡ is_kept junction u v
kept-same And x y u v p q = ap (λ b. b && is_some y) p ∙ ap (λ b. is_some u && b) q
kept-same Or x y u v p q = ap (λ b. b || is_some y) p ∙ ap (λ b. is_some u || b) q

both-tests : {A : Type 0} (p q : Bool) (x : A) → cond p (cond q (Some x) None) None ≡ cond (p && q) (Some x) None
both-tests true q x = refl
both-tests false q x = refl

abbrev row_of : ℤ → Option ℕ → Option ℕ → Joined
row_of s u v = record { stamp = s; first = u; second = v }

abbrev row_if : Junction → Side → Side → ℤ → ℤ → ℤ → Option ℕ → Option ℕ → Option Element
row_if junction a b from to s u v = cond (is_between from to s && is_kept junction u v) (Some (joined_row a b (row_of s u v))) None

row-same : (junction : Junction) (a b : Side) (from to t s : ℤ) (x y : Option Row) (u v : Option ℕ) → t ≡ s
    → row_at a.elements u ≡ x → row_at b.elements v ≡ y → is_some x ≡ is_some u → is_some y ≡ is_some v
    → row_there junction a b from to t x y ≡ row_if junction a b from to s u v
row-same junction a b from to t s x y u v same x_is y_is p q =
    ap (λ r. row_there junction a b from to r x y) same
    ∙ ap (λ k. cond (is_between from to s) (cond k (Some (s, visible (values_or_nulls a.columns x ++ values_or_nulls b.columns y))) None) None) (kept-same junction x y u v p q)
    ∙ both-tests (is_between from to s) (is_kept junction u v) (s, visible (values_or_nulls a.columns x ++ values_or_nulls b.columns y))
    ∙ ap (λ o. cond (is_between from to s && is_kept junction u v) (Some (s, visible (values_or_nulls a.columns o ++ values_or_nulls b.columns y))) None) (sym x_is)
    ∙ ap (λ o. cond (is_between from to s && is_kept junction u v) (Some (s, visible (values_or_nulls a.columns (row_at a.elements u) ++ values_or_nulls b.columns o))) None) (sym y_is)

row-there : (es : List Element) (i n : ℕ) (e : Element) → n ≡ i → slice_get es i ≡ Some e → row_at es (Some n) ≡ Some e.1
row-there es i n e same there = ap (λ k. option_map (λ e. e.1) (slice_get es k)) same ∙ ap (option_map (λ e. e.1)) there

-- the stamps that come next in two lists
abbrev next_at : List Element → ℕ → Option ℤ
next_at es i = option_map (λ e. e.0) (slice_get es i)

-- the rows from two elements on are the next one, where it is kept, and those behind it
next : (junction : Junction) (a b : Side) (from to : ℤ) (i j : ℕ) (s : ℤ) (u v : Option ℕ) → AreRising a.elements → AreRising b.elements
    → IsTaken (next_at a.elements i) i s u → IsTaken (next_at b.elements j) j s v → (IsSome u ⊎ IsSome v)
    → rows_there junction (with_elements a (drop i a.elements)) (with_elements b (drop j b.elements)) from to
    ≡ cons_option (row_if junction a b from to s u v)
    (rows_there junction (with_elements a (drop (behind u i) a.elements)) (with_elements b (drop (behind v j) b.elements)) from to)
next junction a b from to i j s (Some n) (Some m) a_rising b_rising u_is v_is some =
    let x = there-some (slice_get a.elements i) s u_is.1 in
    let y = there-some (slice_get b.elements j) s v_is.1 in
    let es = drop (i + 1) a.elements in
    let fs = drop (j + 1) b.elements in
    let e : Element = x.0 in
    let f : Element = y.0 in
    let same : e.0 ≡ f.0 = x.2 ∙ sym y.2 in
    ap (λ l. rows_there junction (with_elements a l) (with_elements b (drop j b.elements)) from to) (drop-there a.elements i e x.1)
    ∙ ap (λ l. rows_there junction (with_elements a (e ∷ es)) (with_elements b l) from to) (drop-there b.elements j f y.1)
    ∙ next-both junction a b e f es fs from to same (subst (λ r. AreLater r es) same (later-behind a.elements i e a_rising x.1)) (later-behind b.elements j f b_rising y.1)
    ∙ ap (λ o. cons_option o (rows_there junction (with_elements a es) (with_elements b fs) from to))
    (row-same junction a b from to f.0 s (Some e.1) (Some f.1) (Some n) (Some m) y.2 (row-there a.elements i n e u_is.0 x.1) (row-there b.elements j m f v_is.0 y.1) refl refl)
next junction a b from to i j s (Some n) None a_rising b_rising u_is v_is some =
    let x = there-some (slice_get a.elements i) s u_is.1 in
    let es = drop (i + 1) a.elements in
    let fs = drop j b.elements in
    let e : Element = x.0 in
    ap (λ l. rows_there junction (with_elements a l) (with_elements b fs) from to) (drop-there a.elements i e x.1)
    ∙ next-first junction a b e es fs from to (later-behind a.elements i e a_rising x.1) (subst (λ r. AreLater r fs) (sym x.2) (later-next b.elements j s b_rising v_is))
    ∙ ap (λ o. cons_option o (rows_there junction (with_elements a es) (with_elements b fs) from to))
    (row-same junction a b from to e.0 s (Some e.1) None (Some n) None x.2 (row-there a.elements i n e u_is.0 x.1) refl refl refl)
next junction a b from to i j s None (Some m) a_rising b_rising u_is v_is some =
    let y = there-some (slice_get b.elements j) s v_is.1 in
    let es = drop i a.elements in
    let fs = drop (j + 1) b.elements in
    let f : Element = y.0 in
    ap (λ l. rows_there junction (with_elements a es) (with_elements b l) from to) (drop-there b.elements j f y.1)
    ∙ next-second junction a b f es fs from to (subst (λ r. AreLater r es) (sym y.2) (later-next a.elements i s a_rising u_is)) (later-behind b.elements j f b_rising y.1)
    ∙ ap (λ o. cons_option o (rows_there junction (with_elements a es) (with_elements b fs) from to))
    (row-same junction a b from to f.0 s None (Some f.1) None (Some m) y.2 refl (row-there b.elements j m f v_is.0 y.1) refl refl)
next junction a b from to i j s None None a_rising b_rising u_is v_is (inl some) = absurd (cc)
next junction a b from to i j s None None a_rising b_rising u_is v_is (inr some) = absurd (cc)

cons-when : {A B : Type 0} (f : A → B) (all : List A) (b : Bool) (x : A) (rest : List B)
    → map f (all ++ cond b (x ∷ []) []) ++ rest ≡ map f all ++ cons_option (cond b (Some (f x)) None) rest
cons-when f all true x rest = ap (λ l. l ++ rest) (map-append f all (x ∷ [])) ∙ append_assoc (map f all) (f x ∷ []) rest
cons-when f all false x rest = ap (λ l. map f l ++ rest) (append-nil all)

all-when : {A : Type 0} (P : A → Type 0) (all : List A) (b : Bool) (x : A) → All P all → P x → All P (all ++ cond b (x ∷ []) [])
all-when P all true x each here = All-push P all x each here
all-when P all false x each here = subst (All P) (sym (append-nil all)) each

-- an element that is taken is there
stamp-within : (elems : List Elem) (i : ℕ) (s : ℤ) → stamp_at elems i ≡ Some s → i < length elems
stamp-within elems i s at = by (slice_get elems i) refl at where
  by : (o : Option Elem) → slice_get elems i ≡ o → option_map (λ e. e.stamp) o ≡ Some s → i < length elems
  by (Some e) there at = slice_get_within elems i e there
  by None there at = absurd (cc)

taken-within : (elems : List Elem) (i : ℕ) (s : ℤ) (u : Option ℕ) → i ≤ length elems → IsTaken (stamp_at elems i) i s u
    → (behind u i ≤ length elems) × IsIndex (length elems) u
taken-within elems i s None le taken = (le, tt)
taken-within elems i s (Some n) le taken = let lt = stamp-within elems i s taken.1 in (omega (arith, lt), omega (arith, lt, taken.0))

counted : (i j n : ℕ) (u v : Option ℕ) → (IsSome u ⊎ IsSome v) → n ≤ i + j + 1 → n ≤ behind u i + behind v j
counted i j n (Some k) (Some l) some le = omega (arith, le)
counted i j n (Some k) None some le = omega (arith, le)
counted i j n None (Some l) some le = omega (arith, le)
counted i j n None None (inl some) le = absurd (cc)
counted i j n None None (inr some) le = absurd (cc)

taken-same : (elems : List Elem) (i : ℕ) (s : ℤ) (u : Option ℕ) → IsTaken (stamp_at elems i) i s u → IsTaken (next_at (elements_in elems) i) i s u
taken-same elems i s u taken = subst (λ o. IsTaken o i s u) (stamp-of elems i) taken

-- one stamp on
pub one-on : (junction : Junction) (a b : given.Side) (from to : ℤ) (rows more : Rows Joined) (i j : ℕ) (row : Joined) → IsUnderWay junction a b from to rows i j
    → IsTaken (stamp_at a.elems.now i) i row.stamp row.first → IsTaken (stamp_at b.elems.now j) j row.stamp row.second → (IsSome row.first ⊎ IsSome row.second)
    → ((all : List Joined) → Gathers rows all → Gathers more (all ++ cond (is_between from to row.stamp && is_kept junction row.first row.second) (row ∷ []) []))
    → more.count ≤ rows.count + 1
    → IsUnderWay junction a b from to more (behind row.first i) (behind row.second j)
one-on junction a b from to rows more i j row way u_is v_is some gathers count =
    let kept = is_between from to row.stamp && is_kept junction row.first row.second in
    let u = taken-within a.elems.now i row.stamp row.first way.i_within u_is in
    let v = taken-within b.elems.now j row.stamp row.second way.j_within v_is in
    record {
      i_within = u.0;
      j_within = v.0;
      few = counted i j more.count row.first row.second some (let few = way.few in omega (arith, few, count));
      all = way.all ++ cond kept (row ∷ []) [];
      gathers = gathers way.all way.gathers;
      elements = all-when (HasElements (length a.elems.now) (length b.elems.now)) way.all kept row way.elements (record { first_is = u.1; second_is = v.1 });
      left = λ a_rising b_rising.
          cons-when (joined_row (side_of a) (side_of b)) way.all kept row (rows_there junction
          (with_elements (side_of a) (drop (behind row.first i) (elements_in a.elems.now))) (with_elements (side_of b) (drop (behind row.second j) (elements_in b.elems.now))) from to)
          ∙ ap (λ l. map (joined_row (side_of a) (side_of b)) way.all ++ l)
          (sym (next junction (side_of a) (side_of b) from to i j row.stamp row.first row.second a_rising b_rising
          (taken-same a.elems.now i row.stamp row.first u_is) (taken-same b.elems.now j row.stamp row.second v_is) some))
          ∙ way.left a_rising b_rising;
    }

-- where both lists are at their ends
pub all-gathered : (junction : Junction) (a b : given.Side) (from to : ℤ) (rows : Rows Joined) (i j : ℕ) → IsUnderWay junction a b from to rows i j
    → length a.elems.now ≤ i → length b.elems.now ≤ j → GathersJoined a b (rows_there junction (side_of a) (side_of b) from to) rows
all-gathered junction a b from to rows i j way i_end j_end =
    let es = elements_in a.elems.now in
    let fs = elements_in b.elems.now in
    record {
      all = way.all;
      gathers = way.gathers;
      within = way.elements;
      are = λ a_series b_series.
          sym (append-nil (map (joined_row (side_of a) (side_of b)) way.all))
          ∙ ap (λ l. map (joined_row (side_of a) (side_of b)) way.all ++ l)
          (sym (ap (λ l. rows_there junction (with_elements (side_of a) l) (with_elements (side_of b) (drop j fs)) from to)
          (drop_all i es (omega (arith, i_end, length-map {B = Element} a.elems.now element_in)))
          ∙ ap (λ l. rows_there junction (with_elements (side_of a) []) (with_elements (side_of b) l) from to)
          (drop_all j fs (omega (arith, j_end, length-map {B = Element} b.elems.now element_in)))
          ∙ next-none junction (side_of a) (side_of b) from to))
          ∙ way.left a_series.rising b_series.rising;
    }
