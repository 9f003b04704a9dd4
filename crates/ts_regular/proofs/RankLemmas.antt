-- The places whose pages have cells for the offsets of a range, by how many begin below its ends.
use Rattle.std.proofs.Common.{◌≡◌, ℕ, suc, ◌+◌, ◌-◌, ◌≤◌, Bool, ℤ, pos, ◌≤ℤ◌, List, [], ◌∷◌, ◌++◌, length, take, drop, refl, sym, ap, subst, ◌∙◌, arith, length-append}
use Rattle.std.proofs.lemmas.Int.{by_lt_z, ints}
use Rattle.std.proofs.lemmas.List.{drop_at}
use Rattle.std.proofs.Math.Seq.{take-length}
use Rattle.ts_space.specs.declared.place.Place.{Place}
use Rattle.ts_space.specs.Place.{AreAbove, AreBelow, IsRising, rank_of}
use Rattle.ts_page.specs.Pages.{Contents}
use Rattle.ts_row.specs.declared.kind.Column.{Column}
use Rattle.ts_regular.specs.RegularPage.{base_of, OffsetElement}
use Rattle.ts_regular.specs.Places.{all_in}
use Rattle.ts_regular.specs.Range.{within, HasNoneWithin}
use Rattle.ts_regular.specs.Cut.{AreNotBelow, IsRange}
use Rattle.ts_regular.proofs.PlaceLemmas.{rank_lower, rank_higher}
use Rattle.ts_regular.proofs.RangeLemmas.{between_none}

-- places, of which these begin below
record Ranked (at : ℤ) (places : List Place) : Type 0 where
  front : List Place
  back : List Place
  parts : places ≡ front ++ back
  number : length front ≡ rank_of at places
  below : AreBelow at front
  behind : AreNotBelow at back

not_below : (low high : ℤ) (places : List Place) → low ≤ℤ high → AreAbove high places → AreNotBelow low places
not_below low high [] under above = tt
not_below low high (q ∷ places) under above = let first = above.0 in (omega (arith, ints, under, first), not_below low high places under above.1)

ranked : (at : ℤ) (places : List Place) → IsRising places → Ranked at places
ranked at [] rising = record { front = []; back = []; parts = refl; number = refl; below = tt; behind = tt }
ranked at (q ∷ places) rising = by_rest (ranked at places rising.1)
  where
    by_rest : Ranked at places → Ranked at (q ∷ places)
    by_rest rest = by_lt_z q.at at
        (λ low. record {
          front = q ∷ rest.front;
          back = rest.back;
          parts = ap (λ (l : List Place). q ∷ l) rest.parts;
          number = ap suc rest.number ∙ sym (rank_lower at q places low);
          below = (low, rest.below);
          behind = rest.behind;
        })
        (λ high. record { front = []; back = q ∷ places; parts = refl; number = sym (rank_higher at q places high); below = tt; behind = (high, not_below at q.at places high rising.0) })

rising_back : (front back : List Place) → IsRising (front ++ back) → IsRising back
rising_back [] back rising = rising
rising_back (q ∷ front) back rising = rising_back front back rising.1

not_below_front : (at : ℤ) (front back : List Place) → AreNotBelow at (front ++ back) → AreNotBelow at front
not_below_front at [] back above = tt
not_below_front at (q ∷ front) back above = (above.0, not_below_front at front back above.1)

-- the places from an index on
module _ (at : ℤ) (places : List Place) (rising : IsRising places) (first : ℕ) (first_is : first ≡ rank_of at places) where
  rest_is : take (length places - first) (drop first places) ≡ (ranked at places rising).back
  rest_is =
      let one = ranked at places rising in
      let back : drop first places ≡ one.back = ap (drop first) one.parts ∙ drop_at one.front one.back first (one.number ∙ sym first_is) in
      let long : length places - first ≡ length one.back = omega (arith, ap length one.parts, length-append one.front one.back, one.number, first_is) in
      (λ j. take (long j) (back j)) ∙ take-length one.back

  pub rest_rising : IsRising (take (length places - first) (drop first places))
  rest_rising = let one = ranked at places rising in subst IsRising (sym rest_is) (rising_back one.front one.back (subst IsRising one.parts rising))

-- those of a range
pub ranged : (columns : List Column) (from to : ℕ) (places : List Place) (first more : ℕ) (rising : IsRising places) → first ≡ rank_of (pos (base_of columns from)) places
    → more ≡ rank_of (pos to) (take (length places - first) (drop first places)) → IsRange columns from to places first (first + more)
ranged columns from to places first more rising first_is more_is =
    let base : ℤ = pos (base_of columns from) in
    let one = ranked base places rising in
    let two = ranked (pos to) one.back (rising_back one.front one.back (subst IsRising one.parts rising)) in
    record {
      front = one.front;
      mid = two.front;
      back = two.back;
      parts = one.parts ∙ ap (λ (l : List Place). one.front ++ l) two.parts;
      first_is = one.number ∙ sym first_is;
      stop_is = omega (arith, one.number, first_is, two.number, more_is ∙ ap (rank_of (pos to)) (rest_is base places rising first first_is));
      before = one.below;
      begins = not_below_front base two.front two.back (subst (AreNotBelow base) two.parts one.behind);
      ends = two.below;
      behind = two.behind;
    }

-- a range that has no offsets
none_turned : (from to : ℕ) (es : List OffsetElement) → to ≤ from → within from to es ≡ []
none_turned from to [] turned = refl
none_turned from to (e ∷ es) turned = rw (between_none from to e.0 turned) (none_turned from to es turned)

pub turned : (tells : Bool) (slot : ℕ) (columns : List Column) (from to : ℕ) (places : List Place) (v : Contents) → to ≤ from → HasNoneWithin tells slot columns from to 0 places v v
turned tells slot columns from to places v none = record {
  number = refl;
  none = λ told ps on. none_turned from to (all_in ps) none;
  same = record { free = refl; pages = λ told number. refl };
}
