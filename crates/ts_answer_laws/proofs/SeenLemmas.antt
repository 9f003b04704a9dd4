-- The elements of a series that are seen: each is found at its stamp, their stamps rise, and the last stands last.
use Rattle.std.specs.Prelude.{All, AllPairs, int_lt}
use Rattle.std.proofs.Common.{◌≡◌, ℕ, suc, ◌-◌, Bool, true, false, cond, not, T, Option, Some, None, List, [], ◌∷◌, length, get_or, refl, sym, ap, subst, ◌∙◌, arith, inl, inr, ℤ, ◌<ℤ◌, ◌≤ℤ◌}
use Rattle.std.proofs.lemmas.Bool.{cases_lt}
use Rattle.std.proofs.lemmas.Int.{ints}
use Rattle.std.proofs.lemmas.List.Elements.{All-nil, All-cons}
use Rattle.std.proofs.lemmas.List.Kept.{AllPairs-cons, AllPairs-filter}
use Rattle.std.proofs.lemmas.Map.Lookups.{exact_signed}
use Rattle.std.proofs.lemmas.Option.{slice_get-get_or}
use Rattle.std.specs.FinMap.{entries, entries_sorted, find, get-entries, is_sorted}
use Rattle.std.specs.FinMap.Entries.{below_all}
use Rattle.std.specs.Cmp.{int_cmp_is, int_cmp_total, int_ranked, tied_itself}
use Rattle.std.specs.declared.cmp.Ordering.{Ordering}
use Rattle.std.specs.declared.cmp.Ordering.TheVariants.{Less, Equal, Greater}
use Rattle.std.specs.Ordering.{int_cmp, int_eq, is_eq, is_lt}
use Rattle.ts_row.specs.Row.{Row, Element, seen}
use Rattle.ts_calendar.proofs.StampLemmas.{int_lt_no, int_lt-false}
use Rattle.ts_irregular.specs.Edit.{last_of}
use Rattle.ts_entry.specs.Entry.{is_reached}
use Rattle.ts_model.specs.Catalogue.{Elements, Series}
use Rattle.ts_answer_laws.specs.ReadingLaws.{IsSeenAt, IsReached}
use Rattle.ts_answer_laws.proofs.PlacedLemmas.{first, second}
use Rattle.ts_answer_laws.proofs.RowLemmas.{Among, among_contains, among_place, among_filter, among_filtered, not_false}

-- elements whose stamps rise strictly
abbrev pub AreLater : List Element → Type 0
AreLater es = AllPairs (λ a b. a.0 <ℤ b.0) es

is_less : (x y : ℤ) → T (is_lt (int_cmp x y)) → x <ℤ y
is_less x y lt = elim (int_cmp x y) as (λ (r : Ordering). int_cmp x y ≡ r → T (is_lt r) → x <ℤ y) [
  | Less ↦ λ is lt. int_ranked x y Less (sym is)
  | Equal ↦ λ is lt. absurd lt
  | Greater ↦ λ is lt. absurd lt
] refl lt

all_above : (x : ℤ) (es : List Element) → T (below_all int_cmp x es) → All (λ (e : Element). x <ℤ e.0) es
all_above x [] below = All-nil (λ (e : Element). x <ℤ e.0)
all_above x (e ∷ es) below = All-cons (λ (e : Element). x <ℤ e.0) e es (is_less x e.0 (first _ _ below)) (all_above x es (second _ _ below))

sorted_later : (es : List Element) → T (is_sorted int_cmp es) → AreLater es
sorted_later [] sorted = λ i j d low within. absurd (omega (arith, within))
sorted_later (e ∷ es) sorted = AllPairs-cons (λ (a b : Element). a.0 <ℤ b.0) e es (all_above e.0 es (first _ _ sorted)) (sorted_later es (second _ _ sorted))

pub seen_later : (elements : Elements) → AreLater (seen (entries elements))
seen_later elements = AllPairs-filter (λ (a b : Element). a.0 <ℤ b.0) (λ (e : Element). not e.1.hidden) (entries elements) (sorted_later (entries elements) (entries_sorted elements))

-- of two among them one stands before
pub first_before : (e f : Element) (es : List Element) → AreLater (e ∷ es) → Among f es → e.0 <ℤ f.0
first_before e f es later there =
    let at = among_contains es f there in
    let low = at.1 in
    subst (λ (g : Element). e.0 <ℤ g.0) at.2 (later 0 (suc at.0) f (omega arith) (omega (arith, low)))

pub rest_later : (e : Element) (es : List Element) → AreLater (e ∷ es) → AreLater es
rest_later e es later = λ i j d low within. later (suc i) (suc j) d (omega (arith, low)) (omega (arith, within))

-- what is found at a stamp stands there
same_stamp : (x y : ℤ) → int_eq x y ≡ true → x ≡ y
same_stamp x y is = elim (int_cmp x y) as (λ (r : Ordering). int_cmp x y ≡ r → is_eq r ≡ true → x ≡ y) [
  | Less ↦ λ at t. absurd (let no : ⊥ = cc in no)
  | Equal ↦ λ at t. exact_signed x y at
  | Greater ↦ λ at t. absurd (let no : ⊥ = cc in no)
] refl is

pub found_among : (q : ℤ) (row : Row) (es : List Element) → find int_cmp q es ≡ Some row → Among (q, row) es
found_among q row [] is = absurd (let no : ⊥ = cc in no)
found_among q row (e ∷ es) is = elim (int_eq q e.0) as (λ (b : Bool). int_eq q e.0 ≡ b → cond b (Some e.1) (find int_cmp q es) ≡ Some row → Among (q, row) (e ∷ es)) [
  | true ↦ λ t at. inl (let same : row ≡ e.1 = cc in let stamp = same_stamp q e.0 t in λ i. (stamp i, same i))
  | false ↦ λ f at. inr (found_among q row es at)
] refl is

-- and what stands there is found
pub among_found : (q : ℤ) (row : Row) (es : List Element) → AreLater es → Among (q, row) es → find int_cmp q es ≡ Some row
among_found q row [] later there = absurd there
among_found q row (e ∷ es) later (inl is) =
    let tie = ap (λ (x : ℤ). is_eq (int_cmp x e.0)) (ap (λ (f : Element). f.0) is) ∙ ap is_eq (tied_itself int_cmp_total e.0) in
    ap (λ (b : Bool). cond b (Some e.1) (find int_cmp q es)) tie ∙ ap Some (sym (ap (λ (f : Element). f.1) is))
among_found q row (e ∷ es) later (inr there) =
    let after = first_before e (q, row) es later there in
    ap (λ (b : Bool). cond b (Some e.1) (find int_cmp q es)) (ap is_eq (sym (int_cmp_is q e.0 Greater after))) ∙ among_found q row es (rest_later e es later) there

-- the elements of a series that are seen are those of the map that aren't hidden
module _ (s : Series) where
  pub seen_there : (stamp : ℤ) (row : Row) → Among (stamp, row) (seen (entries s.elements)) → IsSeenAt s stamp row
  seen_there stamp row there =
      let kept = among_filtered (λ (e : Element). not e.1.hidden) (entries s.elements) (stamp, row) there in
      record {
        there = get-entries s.elements stamp ∙ among_found stamp row (entries s.elements) (sorted_later (entries s.elements) (entries_sorted s.elements)) kept.0;
        seen = not_false row.hidden kept.1;
      }

  pub there_seen : (stamp : ℤ) (row : Row) → IsSeenAt s stamp row → Among (stamp, row) (seen (entries s.elements))
  there_seen stamp row at =
      among_filter (λ (e : Element). not e.1.hidden) (entries s.elements) (stamp, row)
      (found_among stamp row (entries s.elements) (sym (get-entries s.elements stamp) ∙ at.there)) (ap not at.seen)

-- a stamp up to that of an element is reached
module _ (es : List Element) (f : Element) (later : AreLater es) (there : Among f es) where
  pub not_after_last : f.0 ≤ℤ (get_or es (length es - 1) f).0
  not_after_last =
      let at = among_contains es f there in
      let within = at.1 in
      let here = ap (λ (e : Element). e.0) at.2 in
      elim (cases_lt at.0 (length es - 1)) [
        | inl low ↦ let rise : (get_or es at.0 f).0 <ℤ (get_or es (length es - 1) f).0 = later at.0 (length es - 1) f low (omega (arith, within)) in omega (arith, ints, rise, here)
        | inr high ↦
            let last : at.0 ≡ length es - 1 = omega (arith, within, high) in
            let same = ap (λ (n : ℕ). (get_or es n f).0) (sym last) ∙ here in
            omega (arith, ints, same)
      ]

  pub reached : (start : ℤ) → start ≤ℤ f.0 → is_reached (last_of es) start ≡ true
  reached start before =
      let at = among_contains es f there in
      let within = at.1 in
      let after = not_after_last in
      ap (λ (o : Option Element). is_reached o start) (slice_get-get_or es (length es - 1) f (omega (arith, within)))
      ∙ ap not (int_lt_no (get_or es (length es - 1) f).0 start (omega (arith, ints, after, before)))

-- and what is reached isn't later than one that is seen
pub reached_by : (s : Series) (start : ℤ) → is_reached (last_of (seen (entries s.elements))) start ≡ true → IsReached s start
reached_by s start is = by (last_of (seen (entries s.elements))) refl is
  where
    by : (o : Option Element) → last_of (seen (entries s.elements)) ≡ o → is_reached o start ≡ true → IsReached s start
    by None none never = absurd (cc)
    by (Some e) last yes_ = record {
      last = e.0;
      row = e.1;
      at = seen_there s e.0 e.1 (among_place (seen (entries s.elements)) (length (seen (entries s.elements)) - 1) e last);
      until = int_lt-false e.0 start (not_false (int_lt e.0 start) yes_);
    }
