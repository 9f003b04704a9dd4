-- A chain without the elements of a range: what is left of some pages side by side, among those before and behind them.
use Rattle.std.proofs.Common.{◌≡◌, ℕ, ◌+◌, ◌<◌, ◌≤◌, ℤ, ◌<ℤ◌, ◌≤ℤ◌, Some, List, [], ◌∷◌, ◌++◌, length, refl, sym, ap, subst, ◌∙◌, arith, append-nil, length-append}
use Rattle.std.proofs.lemmas.Int.{ints}
use Rattle.ts_space.specs.declared.place.Place.{Place}
use Rattle.ts_space.specs.Place.{AreAbove, IsRising, count_of}
use Rattle.ts_row.specs.declared.kind.Column.{Column}
use Rattle.ts_row.specs.Row.{Element}
use Rattle.ts_cells.specs.IrregularPage.{page_room, first_stamp}
use Rattle.ts_sheets.specs.Stamped.{all_in, AreEarlier, AreLater, ArePages, AreSized, IsDense, earlier}
use Rattle.ts_sheets.specs.Places.{AreChained}
use Rattle.ts_sheets.proofs.OrderLemmas.{all_in-append, earlier_than, later_than}
use Rattle.ts_sheets.proofs.DenseLemmas.{MeetsLeft, MeetsRight, dense_left, dense_right, dense_made, meets_left, meets_right}
use Rattle.ts_chain.proofs.PlaceLemmas.{above_than, chain_earlier}
use Rattle.ts_chain.proofs.RemoveLemmas.{count_parts}
use Rattle.ts_chain.proofs.SpreadLemmas.{first_both}
use Rattle.ts_series.specs.Ends.{later, last_count, first_count, BeginsAt, EndsAt}
use Rattle.ts_series.proofs.RangeLemmas.{earlier_all, earlier_none, earlier_both, later_all, later_none, later_both}

-- a chain in two parts
pub record HasParts (slot : ℕ) (columns : List Column) (pages : ℕ → List ℕ) (front back : List Place) (chain : List (List Element)) : Type 0 where
  pub before : List (List Element)
  pub behind : List (List Element)
  pub parts : chain ≡ before ++ behind
  pub front_on : AreChained slot columns pages front before
  pub back_on : AreChained slot columns pages back behind

pub part_in : (slot : ℕ) (columns : List Column) (pages : ℕ → List ℕ) (front back : List Place) (chain : List (List Element)) → AreChained slot columns pages (front ++ back) chain → HasParts slot columns pages front back chain
part_in slot columns pages [] back chain on = record { before = []; behind = chain; parts = refl; front_on = tt; back_on = on }
part_in slot columns pages (p ∷ front) back [] on = absurd on
part_in slot columns pages (p ∷ front) back (es ∷ chain) on =
    let rest = part_in slot columns pages front back chain on.1 in
    record { before = es ∷ rest.before; behind = rest.behind; parts = ap (λ (l : List (List Element)). es ∷ l) rest.parts; front_on = (on.0, rest.front_on); back_on = rest.back_on }

-- how many elements they have
pub counted : (slot : ℕ) (columns : List Column) (pages : ℕ → List ℕ) (places : List Place) (chain : List (List Element)) → AreChained slot columns pages places chain → length (all_in chain) ≡ count_of places
counted slot columns pages [] [] on = refl
counted slot columns pages [] (es ∷ chain) on = absurd on
counted slot columns pages (p ∷ places) [] on = absurd on
counted slot columns pages (p ∷ places) (es ∷ chain) on =
    let rest = counted slot columns pages places chain on.1 in
    omega (arith, length-append es (all_in chain), on.0.count, rest, count_parts [] p places)

pub sized_on : (slot : ℕ) (columns : List Column) (pages : ℕ → List ℕ) (places : List Place) (chain : List (List Element)) → AreChained slot columns pages places chain → AreSized (page_room columns) chain
sized_on slot columns pages [] [] on = tt
sized_on slot columns pages [] (es ∷ chain) on = absurd on
sized_on slot columns pages (p ∷ places) [] on = absurd on
sized_on slot columns pages (p ∷ places) (es ∷ chain) on = (on.0.bytes.fill.some, on.0.bytes.fill.room, sized_on slot columns pages places chain on.1)

-- earlier elements, some, and later ones
module _ (from to : ℤ) (order : from ≤ℤ to) (before mid behind : List Element) (low : AreEarlier from before) (high : AreLater to behind) where
  pub earlier_around : earlier from (before ++ (mid ++ behind)) ≡ before ++ earlier from mid
  earlier_around =
      earlier_both from before (mid ++ behind) ∙ (λ j. earlier_all from before low j ++ earlier_both from mid behind j)
      ∙ ap (λ (l : List Element). before ++ (earlier from mid ++ l)) (earlier_none from behind (later_than from to behind order high)) ∙ ap (λ (l : List Element). before ++ l) (append-nil (earlier from mid))

  pub later_around : later to (before ++ (mid ++ behind)) ≡ later to mid ++ behind
  later_around =
      later_both to before (mid ++ behind) ∙ (λ j. later_none to before (earlier_than from to before order low) j ++ later_both to mid behind j)
      ∙ ap (λ (l : List Element). later to mid ++ l) (later_all to behind high)

-- all before the pages of a range are earlier
pub before_range : (slot : ℕ) (columns : List Column) (pages : ℕ → List ℕ) (from : ℤ) (front mid : List Place) (cf cm rest : List (List Element)) → 1 ≤ length mid → (1 ≤ length front → BeginsAt from mid) → AreChained slot columns pages front cf → AreChained slot columns pages mid cm
    → ArePages columns (cf ++ (cm ++ rest)) → AreEarlier from (all_in cf)
before_range slot columns pages from front [] cf cm rest some begins front_on mid_on are = absurd (omega (arith, some))
before_range slot columns pages from front (p ∷ mid) cf [] rest some begins front_on mid_on are = absurd mid_on
before_range slot columns pages from [] (p ∷ mid) [] (es ∷ cm) rest some begins front_on mid_on are = tt
before_range slot columns pages from [] (p ∷ mid) (fs ∷ cf) (es ∷ cm) rest some begins front_on mid_on are = absurd front_on
before_range slot columns pages from (q ∷ front) (p ∷ mid) cf (es ∷ cm) rest some begins front_on mid_on are =
    earlier_than p.at from (all_in cf) (begins (omega arith)) (chain_earlier columns p.at cf es (cm ++ rest) are mid_on.0.first)

-- the first stamp of pages
pub first_of_chain : (slot : ℕ) (columns : List Column) (pages : ℕ → List ℕ) (a : Place) (places : List Place) (chain : List (List Element)) → AreChained slot columns pages (a ∷ places) chain → first_stamp (all_in chain) ≡ Some a.at
first_of_chain slot columns pages a places [] on = absurd on
first_of_chain slot columns pages a places (es ∷ chain) on = first_both es (all_in chain) a.at on.0.first

-- elements of pages stand below the places behind them
earlier_back : (stamp : ℤ) (xs ys : List Element) → AreEarlier stamp (xs ++ ys) → AreEarlier stamp ys
earlier_back stamp [] ys earlier = earlier
earlier_back stamp (x ∷ xs) ys earlier = earlier_back stamp xs ys earlier.1

earlier_first : (at first : ℤ) (es : List Element) → AreEarlier at es → first_stamp es ≡ Some first → first <ℤ at
earlier_first at first [] earlier is = absurd (cc)
earlier_first at first (e ∷ es) earlier is = subst (λ (z : ℤ). z <ℤ at) (some_z is) earlier.0
  where
    some_z : {a b : ℤ} → Some a ≡ Some b → a ≡ b
    some_z same = cc

pub below_back : (slot : ℕ) (columns : List Column) (pages : ℕ → List ℕ) (at : ℤ) (back : List Place) (before cg ck : List (List Element)) (es : List Element) → IsRising back → AreChained slot columns pages back ck → ArePages columns ((before ++ cg) ++ ck)
    → ((z : ℤ) → AreEarlier z (all_in cg) → AreEarlier z es) → first_stamp es ≡ Some at → AreAbove at back
below_back slot columns pages at [] before cg ck es rising on are part first = tt
below_back slot columns pages at (q ∷ back) before cg [] es rising on are part first = absurd on
below_back slot columns pages at (q ∷ back) before cg (gs ∷ ck) es rising on are part first =
    let all : AreEarlier q.at (all_in (before ++ cg)) = chain_earlier columns q.at (before ++ cg) gs ck are on.0.first in
    let own : AreEarlier q.at (all_in cg) = earlier_back q.at (all_in before) (all_in cg) (subst (AreEarlier q.at) (all_in-append before cg) all) in
    let low : at <ℤ q.at = earlier_first q.at at es (part q.at own) first in
    (low, above_than at q.at back (omega (arith, ints, low)) rising.0)

-- the first of the places of a range begins no later than its end
ends_low : (to : ℤ) (p : Place) (places : List Place) → IsRising (p ∷ places) → EndsAt to (p ∷ places) → p.at ≤ℤ to
ends_low to p [] rising ends = ends
ends_low to p (r ∷ places) rising ends = let rest = ends_low to r places rising.1 ends in let next = rising.0.0 in omega (arith, ints, rest, next)

pub second_low : (to : ℤ) (before mid behind : List Place) → length before ≤ 1 → 2 ≤ length mid → IsRising mid → EndsAt to mid → (a b : Place) (gs : List Place) → before ++ (mid ++ behind) ≡ a ∷ b ∷ gs → b.at ≤ℤ to
second_low to [] [] behind one two rising ends a b gs same = absurd (omega (arith, two))
second_low to [] (p ∷ []) behind one two rising ends a b gs same = absurd (omega (arith, two))
second_low to [] (p ∷ r ∷ mid) behind one two rising ends a b gs same =
    let second : r ≡ b = cc in subst (λ (q : Place). q.at ≤ℤ to) second (ends_low to r mid rising.1 ends)
second_low to (l ∷ []) [] behind one two rising ends a b gs same = absurd (omega (arith, two))
second_low to (l ∷ []) (p ∷ mid) behind one two rising ends a b gs same =
    let second : p ≡ b = cc in subst (λ (q : Place). q.at ≤ℤ to) second (ends_low to p mid rising ends)
second_low to (l ∷ k ∷ before) mid behind one two rising ends a b gs same = absurd (omega (arith, one))

-- the elements of the piece and of what is joined to it
module _ (slot : ℕ) (columns : List Column) (pages : ℕ → List ℕ) (q : ℕ) where
  last_one : (front : List Place) (cf : List (List Element)) (k : ℕ) → AreChained slot columns pages front cf → (1 ≤ last_count front → q < last_count front + k) → MeetsLeft q cf k
  last_one [] [] k on meets = tt
  last_one [] (es ∷ cf) k on meets = absurd on
  last_one (p ∷ front) [] k on meets = absurd on
  last_one (p ∷ []) (es ∷ []) k on meets = let count = on.0.count in let some = on.0.bytes.fill.some in let more = meets (omega (arith, count, some)) in omega (arith, count, more)
  last_one (p ∷ []) (es ∷ fs ∷ cf) k on meets = absurd on.1
  last_one (p ∷ r ∷ front) (es ∷ []) k on meets = absurd on.1
  last_one (p ∷ r ∷ front) (es ∷ fs ∷ cf) k on meets = last_one (r ∷ front) (fs ∷ cf) k on.1 meets

  first_one : (back : List Place) (cb : List (List Element)) (k : ℕ) → AreChained slot columns pages back cb → (1 ≤ first_count back → q < k + first_count back) → MeetsRight q k cb
  first_one [] [] k on meets = tt
  first_one [] (es ∷ cb) k on meets = absurd on
  first_one (p ∷ back) [] k on meets = absurd on
  first_one (p ∷ back) (es ∷ cb) k on meets = let count = on.0.count in let some = on.0.bytes.fill.some in let more = meets (omega (arith, count, some)) in omega (arith, count, more)

  pub left_meets : (front joined : List Place) (cf cl : List (List Element)) (k : ℕ) → length joined ≤ 1 → AreChained slot columns pages front cf → AreChained slot columns pages joined cl → IsDense q (cf ++ cl) → length (all_in cl) ≤ k
      → (length joined ≡ 0 → 1 ≤ last_count (front ++ joined) → q < last_count (front ++ joined) + k) → MeetsLeft q cf k
  left_meets front [] cf [] k one front_on joined_on dense more meets =
      last_one front cf k front_on (subst (λ (l : List Place). 1 ≤ last_count l → q < last_count l + k) (append-nil front) (meets refl))
  left_meets front [] cf (es ∷ cl) k one front_on joined_on dense more meets = absurd joined_on
  left_meets front (p ∷ []) cf [] k one front_on joined_on dense more meets = absurd joined_on
  left_meets front (p ∷ []) cf (es ∷ []) k one front_on joined_on dense more meets = meets_left q cf (length es) k (omega (arith, more, length-append es [])) (dense_left q cf es [] dense)
  left_meets front (p ∷ []) cf (es ∷ fs ∷ cl) k one front_on joined_on dense more meets = absurd joined_on.1
  left_meets front (p ∷ r ∷ joined) cf cl k one front_on joined_on dense more meets = absurd (omega (arith, one))

  pub right_meets : (joined back : List Place) (cr ck : List (List Element)) (k : ℕ) → length joined ≤ 1 → AreChained slot columns pages joined cr → AreChained slot columns pages back ck → IsDense q (cr ++ ck) → length (all_in cr) ≤ k
      → (length joined ≡ 0 → 1 ≤ first_count (joined ++ back) → q < k + first_count (joined ++ back)) → MeetsRight q k ck
  right_meets [] back [] ck k one joined_on back_on dense more meets = first_one back ck k back_on (meets refl)
  right_meets [] back (es ∷ cr) ck k one joined_on back_on dense more meets = absurd joined_on
  right_meets (p ∷ []) back [] ck k one joined_on back_on dense more meets = absurd joined_on
  right_meets (p ∷ []) back (es ∷ []) ck k one joined_on back_on dense more meets = meets_right q (length es) k ck (omega (arith, more, length-append es [])) (dense_right q es ck dense)
  right_meets (p ∷ []) back (es ∷ fs ∷ cr) ck k one joined_on back_on dense more meets = absurd joined_on.1
  right_meets (p ∷ r ∷ joined) back cr ck k one joined_on back_on dense more meets = absurd (omega (arith, one))

  -- two pages that become neighbours
  pub dense_meet : (front back : List Place) (cf ck : List (List Element)) → AreChained slot columns pages front cf → AreChained slot columns pages back ck → IsDense q cf → IsDense q ck → (1 ≤ last_count front → 1 ≤ first_count back → q < last_count front + first_count back)
      → IsDense q (cf ++ ck)
  dense_meet front [] cf [] front_on back_on dense1 dense2 meets = subst (IsDense q) (sym (append-nil cf)) dense1
  dense_meet front [] cf (es ∷ ck) front_on back_on dense1 dense2 meets = absurd back_on
  dense_meet front (p ∷ back) cf [] front_on back_on dense1 dense2 meets = absurd back_on
  dense_meet front (p ∷ back) cf (es ∷ ck) front_on back_on dense1 dense2 meets =
      let count = back_on.0.count in
      let some = back_on.0.bytes.fill.some in
      dense_made q cf es ck dense1 (last_one front cf (length es) front_on (λ more. let m = meets more (omega (arith, count, some)) in omega (arith, count, m))) dense2
