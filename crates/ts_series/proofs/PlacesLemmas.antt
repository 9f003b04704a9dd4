-- The places that hold a range, and those that come in their stead.
use Rattle.std.proofs.Common.{◌≡◌, ℕ, suc, ◌+◌, ◌≤◌, ℤ, ◌<ℤ◌, ◌≤ℤ◌, List, [], ◌∷◌, ◌++◌, length, get_or, refl, sym, ap, subst, ◌∙◌, arith, append_assoc, length-append}
use Rattle.std.proofs.lemmas.Int.{ints}
use Rattle.ts_space.specs.declared.place.Place.{Place}
use Rattle.ts_space.specs.Place.{AreAbove, IsRising}
use Rattle.ts_sheets.specs.Places.{IsHolder, IsBeginning}
use Rattle.ts_chain.proofs.PlaceLemmas.{above_than}
use Rattle.ts_series.specs.Ends.{BeginsAt, EndsAt, OthersAreAbove, IsRange}

above_front : (at : ℤ) (front back : List Place) → AreAbove at (front ++ back) → AreAbove at front
above_front at [] back above = tt
above_front at (p ∷ front) back above = (above.0, above_front at front back above.1)

above_in : (at : ℤ) (front : List Place) (p : Place) (back : List Place) → AreAbove at (front ++ p ∷ back) → at <ℤ p.at
above_in at [] p back above = above.0
above_in at (q ∷ front) p back above = above_in at front p back above.1

ends_last : (to : ℤ) (front : List Place) (p : Place) → p.at ≤ℤ to → EndsAt to (front ++ p ∷ [])
ends_last to [] p low = low
ends_last to (q ∷ []) p low = low
ends_last to (q ∷ r ∷ front) p low = ends_last to (r ∷ front) p low

-- the places from that of one stamp to that of another
record Between (from to : ℤ) (places : List Place) (first last : ℕ) : Type 0 where
  front : List Place
  mid : List Place
  back : List Place
  parts : places ≡ front ++ (mid ++ back)
  first_is : length front ≡ first
  last_is : length front + length mid ≡ last + 1
  some : 1 ≤ length mid
  begins : BeginsAt from mid
  others : OthersAreAbove from mid
  ends : EndsAt to mid
  above : AreAbove to back

between : (from to : ℤ) → from ≤ℤ to → (ff : List Place) (p : Place) (fb lf : List Place) (r : Place) (lb : List Place) → ff ++ p ∷ fb ≡ lf ++ r ∷ lb → p.at ≤ℤ from → AreAbove from fb → r.at ≤ℤ to → AreAbove to lb
    → Between from to (lf ++ r ∷ lb) (length ff) (length lf)
between from to order [] p fb [] r lb same begins above ends beyond =
    let one : p ≡ r = cc in record {
      front = [];
      mid = r ∷ [];
      back = lb;
      parts = refl;
      first_is = refl;
      last_is = refl;
      some = omega arith;
      begins = subst (λ (q : Place). q.at ≤ℤ from) one begins;
      others = tt;
      ends = ends;
      above = beyond;
    }
between from to order [] p fb (q ∷ lf) r lb same begins above ends beyond =
    let one : p ≡ q = cc in
    let rest : fb ≡ lf ++ r ∷ lb = cc in
    let whole : (lf ++ r ∷ []) ++ lb ≡ lf ++ r ∷ lb = append_assoc lf (r ∷ []) lb in record {
      front = [];
      mid = q ∷ (lf ++ r ∷ []);
      back = lb;
      parts = ap (λ (l : List Place). q ∷ l) (sym whole);
      first_is = refl;
      last_is = omega (arith, length-append lf (r ∷ []));
      some = omega arith;
      begins = subst (λ (z : Place). z.at ≤ℤ from) one begins;
      others = above_front from (lf ++ r ∷ []) lb (subst (AreAbove from) (rest ∙ sym whole) above);
      ends = ends_last to (q ∷ lf) r ends;
      above = beyond;
    }
between from to order (q ∷ ff) p fb [] r lb same begins above ends beyond =
    let rest : ff ++ p ∷ fb ≡ lb = cc in
    let high : to <ℤ p.at = above_in to ff p fb (subst (AreAbove to) (sym rest) beyond) in
    absurd (omega (arith, ints, high, begins, order))
between from to order (q ∷ ff) p fb (z ∷ lf) r lb same begins above ends beyond =
    let rest : ff ++ p ∷ fb ≡ lf ++ r ∷ lb = cc in
    let b = between from to order ff p fb lf r lb rest begins above ends beyond in record {
      front = z ∷ b.front;
      mid = b.mid;
      back = b.back;
      parts = ap (λ (l : List Place). z ∷ l) b.parts;
      first_is = ap suc b.first_is;
      last_is = omega (arith, b.last_is);
      some = b.some;
      begins = b.begins;
      others = b.others;
      ends = b.ends;
      above = b.above;
    }

pub range_from : (from to : ℤ) → from ≤ℤ to → (places : List Place) (first last : ℕ) → IsHolder from places first → IsHolder to places last → IsRange from to places first (last + 1)
range_from from to order places first last f l =
    let b = between from to order f.front f.place f.back l.front l.place l.back (sym f.parts ∙ l.parts) f.begins f.above l.begins l.above in record {
      front = b.front;
      mid = b.mid;
      back = b.back;
      parts = l.parts ∙ b.parts;
      first_is = b.first_is ∙ f.index_is;
      stop_is = b.last_is ∙ ap (λ (n : ℕ). n + 1) l.index_is;
      some = b.some;
      begins = λ more. b.begins;
      others = b.others;
      ends = b.ends;
      above = b.above;
    }

others_above : (from : ℤ) (places : List Place) → AreAbove from places → OthersAreAbove from places
others_above from [] above = tt
others_above from (p ∷ places) above = above.1

pub range_all : (from to : ℤ) (places : List Place) (last : ℕ) → AreAbove from places → IsHolder to places last → IsRange from to places 0 (last + 1)
range_all from to places last above l =
    let whole : (l.front ++ l.place ∷ []) ++ l.back ≡ l.front ++ l.place ∷ l.back = append_assoc l.front (l.place ∷ []) l.back in record {
      front = [];
      mid = l.front ++ l.place ∷ [];
      back = l.back;
      parts = l.parts ∙ sym whole;
      first_is = refl;
      stop_is = omega (arith, length-append l.front (l.place ∷ []), l.index_is);
      some = omega (arith, length-append l.front (l.place ∷ []));
      begins = λ more. absurd (omega (arith, more));
      others = others_above from (l.front ++ l.place ∷ []) (above_front from (l.front ++ l.place ∷ []) l.back (subst (AreAbove from) (l.parts ∙ sym whole) above));
      ends = ends_last to l.front l.place l.begins;
      above = l.above;
    }

-- where a page begins whose elements became others
pub begins_last : (place : Place) (back : List Place) (at begins : ℤ) → length back ≡ 0 → place.at ≤ℤ begins → (place.at ≤ℤ at → begins ≡ at) → IsBeginning at begins place back
begins_last place [] at begins none low told = record { low = low; above = tt; told = λ least above. told least }
begins_last place (p ∷ back) at begins none low told = absurd (omega (arith, none))

pub begins_below : (place : Place) (back : List Place) (d : Place) (at begins : ℤ) → (length back ≡ 0 → ⊥) → IsRising (place ∷ back) → place.at ≤ℤ begins → begins <ℤ (get_or back 0 d).at → (place.at ≤ℤ at → at <ℤ (get_or back 0 d).at → begins ≡ at)
    → IsBeginning at begins place back
begins_below place [] d at begins some rising low below told = absurd (some refl)
begins_below place (p ∷ back) d at begins some rising low below told =
    record { low = low; above = (below, above_than begins p.at back (omega (arith, ints, below)) rising.1.0); told = λ least above. told least above.0 }

pub next_above : (place : Place) (back : List Place) (d : Place) → (length back ≡ 0 → ⊥) → IsRising (place ∷ back) → place.at <ℤ (get_or back 0 d).at
next_above place [] d some rising = absurd (some refl)
next_above place (p ∷ back) d some rising = rising.0.0
