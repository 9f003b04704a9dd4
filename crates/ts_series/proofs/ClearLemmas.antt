-- A series without the elements of a range, over all of its pages.
use Rattle.std.proofs.Common.{◌≡◌, ◌≢◌, ◌⊎◌, inl, inr, ⊎_elim, ℕ, zero, suc, ◌+◌, ◌-◌, ◌<◌, ◌≤◌, ℤ, ◌<ℤ◌, ◌≤ℤ◌, AllPairs, Bool, true, false, IsTrue, Some, List, [], ◌∷◌, ◌++◌, length, get_or, take, drop, not, refl, sym, ap, subst, ◌∙◌, arith, append_assoc, append-nil, length-append}
use Rattle.std.specs.Prelude.{Contains, int_lt}
use Rattle.std.proofs.lemmas.Int.{ints}
use Rattle.std.proofs.lemmas.List.{take_at, drop_at}
use Rattle.ts_space.specs.declared.place.Place.{Place}
use Rattle.ts_space.specs.declared.moved.Come.{Come}
use Rattle.ts_space.specs.declared.moved.Come.TheVariants.{Nothing, One, Two}
use Rattle.ts_space.specs.Place.{AreAbove, IsRising, count_of, pages_of}
use Rattle.ts_space.specs.Moved.{list_of}
use Rattle.ts_row.specs.declared.kind.Column.{Column}
use Rattle.ts_row.specs.Row.{Element}
use Rattle.ts_cells.specs.IrregularPage.{page_room, AreRising, AreInOrder, first_stamp}
use Rattle.ts_irregular.specs.OnePage.{IsOn}
use Rattle.ts_sheets.specs.Stamped.{all_in, AreEarlier, AreLater, ArePages, AreSized, IsDense, IsChain, earlier, is_within, within_range, without_range}
use Rattle.ts_sheets.specs.Places.{AreChained}
use Rattle.ts_sheets.proofs.OrderLemmas.{all_in-append, later_front, pages_in_order, sized_pages, sized_front, sized_back, sized_both, pages_made}
use Rattle.ts_sheets.proofs.DenseLemmas.{dense_front, dense_back, dense_cons, dense_made}
use Rattle.ts_chain.proofs.EditLemmas.{all_between}
use Rattle.ts_chain.proofs.PlaceLemmas.{chain_later, chained_both}
use Rattle.ts_chain.proofs.RemoveLemmas.{count_parts}
use Rattle.ts_series.specs.declared.joins.Joins.{Joins}
use Rattle.ts_series.specs.Ends.{later, last_count, first_count, joined_count, BeginsAt, EndsAt, FitTheirPages, AreJoined, AreParts, IsRange, HasShape, pieces, BeginTogether, BeginApart, CanBegin}
use Rattle.ts_series.proofs.RangeLemmas.{without_parts, all_counted, filter_earlier, filter_in_order, filter_first, first_earlier, first_later}
use Rattle.ts_series.proofs.EndsLemmas.{split_end}
use Rattle.ts_series.proofs.LayLemmas.{pairs_tail, rising_back_of, order_front, order_back}
use Rattle.ts_series.proofs.ChainLemmas.{counted, sized_on, earlier_around, later_around, before_range, first_of_chain, below_back, second_low, left_meets, right_meets, dense_meet}

-- the places of a range beside those that are joined
pub record RangeParts (from to : ℤ) (places : List Place) (first stop : ℕ) (joins : Joins) : Type 0 where
  pub p : AreParts places first stop joins
  pub begins : 1 ≤ length (p.front ++ p.before) → BeginsAt from p.mid
  pub ends : EndsAt to p.mid
  pub above : AreAbove to (p.behind ++ p.back)

record SplitLast (k : ℕ) (front : List Place) : Type 0 where
  ahead : List Place
  joined : List Place
  parts : front ≡ ahead ++ joined
  long : length joined ≡ k

split_last : (k : ℕ) (front : List Place) → k ≤ 1 → (1 ≤ k → 1 ≤ last_count front) → SplitLast k front
split_last zero front one some = record { ahead = front; joined = []; parts = sym (append-nil front); long = refl }
split_last (suc zero) [] one some = absurd (let none = some (omega arith) in omega (arith, none))
split_last (suc zero) (p ∷ front) one some = let h = split_end p front in record { ahead = h.ahead; joined = h.last ∷ []; parts = h.parts; long = refl }
split_last (suc (suc k)) front one some = absurd (omega (arith, one))

record SplitFirst (k : ℕ) (back : List Place) : Type 0 where
  joined : List Place
  rest : List Place
  parts : back ≡ joined ++ rest
  long : length joined ≡ k

split_first : (k : ℕ) (back : List Place) → k ≤ 1 → (1 ≤ k → 1 ≤ first_count back) → SplitFirst k back
split_first zero back one some = record { joined = []; rest = back; parts = refl; long = refl }
split_first (suc zero) [] one some = absurd (let none = some (omega arith) in omega (arith, none))
split_first (suc zero) (p ∷ back) one some = record { joined = p ∷ []; rest = back; parts = refl; long = refl }
split_first (suc (suc k)) back one some = absurd (omega (arith, one))

-- the places before an index, and from another on
range_front : (from to : ℤ) (places : List Place) (first stop : ℕ) (r : IsRange from to places first stop) → take first places ≡ r.front
range_front from to places first stop r = ap (take first) r.parts ∙ take_at r.front (r.mid ++ r.back) first r.first_is

range_back : (from to : ℤ) (places : List Place) (first stop : ℕ) (r : IsRange from to places first stop) → drop stop places ≡ r.back
range_back from to places first stop r =
    ap (drop stop) (r.parts ∙ sym (append_assoc r.front r.mid r.back)) ∙ drop_at (r.front ++ r.mid) r.back stop (length-append r.front r.mid ∙ r.stop_is)

pub range_mid : (from to : ℤ) (places : List Place) (first stop : ℕ) (r : IsRange from to places first stop) → take (stop - first) (drop first places) ≡ r.mid
range_mid from to places first stop r =
    ap (λ (l : List Place). take (stop - first) (drop first l)) r.parts ∙ ap (take (stop - first)) (drop_at r.front (r.mid ++ r.back) first r.first_is)
    ∙ take_at r.mid r.back (stop - first) (omega (arith, r.first_is, r.stop_is))

pub parts_of : (from to : ℤ) (places : List Place) (first stop : ℕ) (joins : Joins) → IsRange from to places first stop → joins.before ≤ 1 → joins.behind ≤ 1 → (1 ≤ joins.before → 1 ≤ last_count (take first places)) → (1 ≤ joins.behind → 1 ≤ first_count (drop stop places))
    → RangeParts from to places first stop joins
parts_of from to places first stop joins r one1 one2 some1 some2 =
    let s = split_last joins.before r.front one1 (λ more. subst (λ (l : List Place). 1 ≤ last_count l) (range_front from to places first stop r) (some1 more)) in
    let t = split_first joins.behind r.back one2 (λ more. subst (λ (l : List Place). 1 ≤ first_count l) (range_back from to places first stop r) (some2 more)) in
    let long : length r.front ≡ length s.ahead + length s.joined = ap length s.parts ∙ length-append s.ahead s.joined in record {
      p = record {
        front = s.ahead;
        before = s.joined;
        mid = r.mid;
        behind = t.joined;
        back = t.rest;
        parts = r.parts ∙ (λ j. s.parts j ++ (r.mid ++ t.parts j)) ∙ append_assoc s.ahead s.joined (r.mid ++ (t.joined ++ t.rest));
        first_is = sym long ∙ r.first_is;
        stop_is = omega (arith, long, r.stop_is);
        before_is = s.long;
        behind_is = t.long;
        some = r.some;
      };
      begins = λ more. r.begins (omega (arith, more, long, length-append s.ahead s.joined));
      ends = r.ends;
      above = subst (AreAbove to) t.parts r.above;
    }

-- of any such parts
module _ (places : List Place) (first stop : ℕ) (joins : Joins) (p : AreParts places first stop joins) where
  pub front_taken : take first places ≡ p.front ++ p.before
  front_taken =
      ap (take first) (p.parts ∙ sym (append_assoc p.front p.before (p.mid ++ (p.behind ++ p.back)))) ∙ take_at (p.front ++ p.before) (p.mid ++ (p.behind ++ p.back)) first (length-append p.front p.before ∙ p.first_is)

  pub back_dropped : drop stop places ≡ p.behind ++ p.back
  back_dropped =
      let whole : places ≡ (p.front ++ (p.before ++ p.mid)) ++ (p.behind ++ p.back) =
      p.parts ∙ sym (append_assoc p.front (p.before ++ p.mid) (p.behind ++ p.back) ∙ ap (λ (l : List Place). p.front ++ l) (append_assoc p.before p.mid (p.behind ++ p.back))) in
      ap (drop stop) whole ∙ drop_at (p.front ++ (p.before ++ p.mid)) (p.behind ++ p.back) stop (omega (arith, length-append p.front (p.before ++ p.mid), length-append p.before p.mid, p.stop_is))

last_end : (front : List Place) (q : Place) → last_count (front ++ q ∷ []) ≡ q.count
last_end [] q = refl
last_end (p ∷ []) q = refl
last_end (p ∷ r ∷ front) q = last_end (r ∷ front) q

joined_last : (front joined : List Place) (k : ℕ) → length joined ≡ k → k ≤ 1 → count_of joined ≡ joined_count k (last_count (front ++ joined))
joined_last front [] zero long one = refl
joined_last front [] (suc k) long one = absurd (omega (arith, long))
joined_last front (q ∷ []) zero long one = absurd (omega (arith, long))
joined_last front (q ∷ []) (suc k) long one = omega (arith, count_parts [] q [], last_end front q)
joined_last front (q ∷ r ∷ joined) k long one = absurd (omega (arith, long, one))

joined_first : (joined back : List Place) (k : ℕ) → length joined ≡ k → k ≤ 1 → count_of joined ≡ joined_count k (first_count (joined ++ back))
joined_first [] back zero long one = refl
joined_first [] back (suc k) long one = absurd (omega (arith, long))
joined_first (q ∷ []) back zero long one = absurd (omega (arith, long))
joined_first (q ∷ []) back (suc k) long one = omega (arith, count_parts [] q [])
joined_first (q ∷ r ∷ joined) back k long one = absurd (omega (arith, long, one))

module _ (places : List Place) (first stop : ℕ) (joins : Joins) (p : AreParts places first stop joins) (one1 : joins.before ≤ 1) (one2 : joins.behind ≤ 1) where
  pub before_counted : count_of p.before ≡ joined_count joins.before (last_count (take first places))
  before_counted = joined_last p.front p.before joins.before p.before_is one1 ∙ ap (λ (l : List Place). joined_count joins.before (last_count l)) (sym (front_taken places first stop joins p))

  pub behind_counted : count_of p.behind ≡ joined_count joins.behind (first_count (drop stop places))
  behind_counted = joined_first p.behind p.back joins.behind p.behind_is one2 ∙ ap (λ (l : List Place). joined_count joins.behind (first_count l)) (sym (back_dropped places first stop joins p))

-- what fits one page
fit_each : (apart : Bool) (room before x y behind jb jh : ℕ) → FitTheirPages apart room before x y behind jb jh → (x ≤ room) × (y ≤ room)
fit_each true room before x y behind jb jh fit = (fit.first, fit.second)
fit_each false room before x y behind jb jh fit = let all = fit.fits in (omega (arith, all), omega (arith, all))

fit_both : (apart : Bool) (room before x y behind jb jh : ℕ) → apart ≡ false → FitTheirPages apart room before x y behind jb jh → x + y ≤ room
fit_both true room before x y behind jb jh off fit = absurd (cc)
fit_both false room before x y behind jb jh off fit = fit.fits

module _ (places : List Place) (first stop : ℕ) (joins : Joins) (room n m : ℕ) (jo : AreJoined room (last_count (take first places)) n m (first_count (drop stop places)) joins) (p : AreParts places first stop joins) where
  pub room_each : (count_of p.before + n ≤ room) × (m + count_of p.behind ≤ room)
  room_each =
      let each = fit_each joins.apart room _ _ _ _ joins.before joins.behind jo.fit in
      let fit1 = each.0 in
      let fit2 = each.1 in
      (omega (arith, fit1, before_counted places first stop joins p jo.one_before jo.one_behind), omega (arith, fit2, behind_counted places first stop joins p jo.one_before jo.one_behind))

  pub room_both : joins.apart ≡ false → count_of p.before + n + (m + count_of p.behind) ≤ room
  room_both off =
      let fit = fit_both joins.apart room _ _ _ _ joins.before joins.behind off jo.fit in
      omega (arith, fit, before_counted places first stop joins p jo.one_before jo.one_behind, behind_counted places first stop joins p jo.one_before jo.one_behind)

earlier_last : (stamp : ℤ) (es fs : List Element) → AreEarlier stamp (es ++ fs) → AreEarlier stamp fs
earlier_last stamp [] fs low = low
earlier_last stamp (e ∷ es) fs low = earlier_last stamp es fs low.1

-- the elements that are left, part by part
shuffle : (f l e t r k : List Element) → ((f ++ l) ++ e) ++ (t ++ (r ++ k)) ≡ f ++ (((l ++ e) ++ (t ++ r)) ++ k)
shuffle f l e t r k =
    append_assoc (f ++ l) e (t ++ (r ++ k)) ∙ append_assoc f l (e ++ (t ++ (r ++ k)))
    ∙ ap (λ (x : List Element). f ++ x) (sym (append_assoc (l ++ e) (t ++ r) k ∙ append_assoc l e ((t ++ r) ++ k) ∙ ap (λ (x : List Element). l ++ (e ++ x)) (append_assoc t r k)))

can_begin : (apart : Bool) (goes back : List Place) (xs ys : List Element) → (IsTrue apart → BeginApart goes back xs ys) → BeginTogether goes back (xs ++ ys) → CanBegin apart goes back xs ys
can_begin true goes back xs ys two one = two refl
can_begin false goes back xs ys two one = one

pub none_of_length : (es : List Element) → length es ≡ 0 → es ≡ []
none_of_length [] same = refl
none_of_length (e ∷ es) same = absurd (omega (arith, same))

none_joined : (slot : ℕ) (columns : List Column) (pages : ℕ → List ℕ) (joined : List Place) (chain : List (List Element)) → AreChained slot columns pages joined chain → length (all_in chain) ≡ 0 → joined ≡ []
none_joined slot columns pages [] [] on none = refl
none_joined slot columns pages [] (es ∷ chain) on none = absurd on
none_joined slot columns pages (p ∷ joined) [] on none = absurd on
none_joined slot columns pages (p ∷ joined) (es ∷ chain) on none = absurd (let some = on.0.bytes.fill.some in omega (arith, length-append es (all_in chain), some, none))

mid_rising : (front mid back : List Place) → IsRising (front ++ (mid ++ back)) → IsRising mid
mid_rising front mid back rising = front_of mid (rising_back_of front (mid ++ back) rising)
  where
    above_of : (at : ℤ) (xs : List Place) → AreAbove at (xs ++ back) → AreAbove at xs
    above_of at [] above = tt
    above_of at (q ∷ xs) above = (above.0, above_of at xs above.1)

    front_of : (xs : List Place) → IsRising (xs ++ back) → IsRising xs
    front_of [] rise = tt
    front_of (q ∷ xs) rise = (above_of q.at xs rise.0, front_of xs rise.1)

-- whether a number is among those of some pages
contains_cases : (x : ℕ) (xs : List ℕ) (n : ℕ) → Contains (x ∷ xs) n → (x ≡ n) ⊎ Contains xs n
contains_cases x xs n has = by_index has.0 has.1 has.2
  where
    by_index : (i : ℕ) → i < length (x ∷ xs) → get_or (x ∷ xs) i n ≡ n → (x ≡ n) ⊎ Contains xs n
    by_index zero below same = inl same
    by_index (suc i) below same = inr (i, omega (arith, below), same)

there_more : (x : ℕ) (xs : List ℕ) (n : ℕ) → Contains xs n → Contains (x ∷ xs) n
there_more x xs n has = let below = has.1 in (suc has.0, omega (arith, below), has.2)

contains_none : (n : ℕ) → ¬ Contains [] n
contains_none n has = let below = has.1 in omega (arith, below)

contains_left : (goes back : List Place) (n : ℕ) → Contains (pages_of goes) n → Contains (pages_of (goes ++ back)) n
contains_left [] back n has = absurd (contains_none n has)
contains_left (g ∷ goes) back n has = ⊎_elim (λ same. (0, omega arith, same)) (λ rest. there_more g.page (pages_of (goes ++ back)) n (contains_left goes back n rest)) (contains_cases g.page (pages_of goes) n has)

contains_right : (goes back : List Place) (n : ℕ) → Contains (pages_of back) n → Contains (pages_of (goes ++ back)) n
contains_right [] back n has = has
contains_right (g ∷ goes) back n has = there_more g.page (pages_of (goes ++ back)) n (contains_right goes back n has)

pub contains_mid : (front goes back : List Place) (n : ℕ) → Contains (pages_of goes) n → Contains (pages_of (front ++ (goes ++ back))) n
contains_mid front goes back n has = contains_right front (goes ++ back) n (contains_left goes back n has)

alone : (x : ℕ) (xs : List ℕ) → AllPairs (λ a b. a ≢ b) (x ∷ xs) → ¬ Contains xs x
alone x xs pairs has = let below = has.1 in pairs 0 (suc has.0) x (omega arith) (omega (arith, below)) (sym has.2)

not_gone : (goes back : List Place) (n : ℕ) → AllPairs (λ a b. a ≢ b) (pages_of (goes ++ back)) → Contains (pages_of back) n → ¬ Contains (pages_of goes) n
not_gone [] back n pairs there has = contains_none n has
not_gone (g ∷ goes) back n pairs there has =
    ⊎_elim (λ same. alone g.page (pages_of (goes ++ back)) pairs (subst (Contains (pages_of (goes ++ back))) (sym same) (contains_right goes back n there)))
    (λ rest. not_gone goes back n (pairs_tail g.page (pages_of (goes ++ back)) pairs) there rest) (contains_cases g.page (pages_of goes) n has)

-- pages that stay have the elements that they had
module _ (slot : ℕ) (columns : List Column) (pages after : ℕ → List ℕ) (goes : List Place) (others : (number : ℕ) → ¬ Contains (pages_of goes) number → after number ≡ pages number) where
  stays : (places : List Place) (chain : List (List Element)) → ((n : ℕ) → Contains (pages_of places) n → ¬ Contains (pages_of goes) n) → AreChained slot columns pages places chain → AreChained slot columns after places chain
  stays [] [] free on = tt
  stays [] (es ∷ chain) free on = absurd on
  stays (p ∷ places) [] free on = absurd on
  stays (p ∷ places) (es ∷ chain) free on = (
    subst (λ (b : List ℕ). IsOn slot columns b p es) (sym (others p.page (free p.page (0, omega arith, refl)))) on.0,
    stays places chain (λ n has. free n (there_more p.page (pages_of places) n has)) on.1,
  )

  pub stays_front : (front back : List Place) (chain : List (List Element)) → AllPairs (λ a b. a ≢ b) (pages_of (front ++ (goes ++ back))) → AreChained slot columns pages front chain → AreChained slot columns after front chain
  stays_front [] back [] pairs on = tt
  stays_front [] back (es ∷ chain) pairs on = absurd on
  stays_front (p ∷ front) back [] pairs on = absurd on
  stays_front (p ∷ front) back (es ∷ chain) pairs on = (
    subst (λ (b : List ℕ). IsOn slot columns b p es) (sym (others p.page (λ has. alone p.page (pages_of (front ++ (goes ++ back))) pairs (contains_mid front goes back p.page has)))) on.0,
    stays_front front back chain (pairs_tail p.page (pages_of (front ++ (goes ++ back))) pairs) on.1,
  )

  pairs_behind : (front back : List Place) → AllPairs (λ a b. a ≢ b) (pages_of (front ++ back)) → AllPairs (λ a b. a ≢ b) (pages_of back)
  pairs_behind [] back pairs = pairs
  pairs_behind (p ∷ front) back pairs = pairs_behind front back (pairs_tail p.page (pages_of (front ++ back)) pairs)

  pub stays_back : (front back : List Place) (chain : List (List Element)) → AllPairs (λ a b. a ≢ b) (pages_of (front ++ (goes ++ back))) → AreChained slot columns pages back chain → AreChained slot columns after back chain
  stays_back front back chain pairs on = stays back chain (λ n has. not_gone goes back n (pairs_behind front (goes ++ back) pairs) has) on

-- the parts of a chain: F and K stay, L and R are joined to what is left of M
module _ (slot : ℕ) (columns : List Column) (from to : ℤ) (order : from ≤ℤ to) (front before mid behind back : List Place) (pages : ℕ → List ℕ) (rising : IsRising (front ++ (before ++ (mid ++ (behind ++ back)))))
    (some : 1 ≤ length mid) (begins : 1 ≤ length (front ++ before) → BeginsAt from mid) (ends : EndsAt to mid) (above : AreAbove to (behind ++ back))
    (cF cL cM cR cK : List (List Element)) (onF : AreChained slot columns pages front cF) (onL : AreChained slot columns pages before cL) (onM : AreChained slot columns pages mid cM) (onR : AreChained slot columns pages behind cR) (onK : AreChained slot columns pages back cK)
    (is : IsChain columns (cF ++ (cL ++ (cM ++ (cR ++ cK))))) where
  abbrev pub xs : List Element
  xs = all_in cL ++ earlier from (all_in cM)

  abbrev pub ys : List Element
  ys = later to (all_in cM) ++ all_in cR

  -- the elements of the pages that go
  abbrev window : List Element
  window = all_in cL ++ (all_in cM ++ all_in cR)

  two_parts : ArePages columns ((cF ++ cL) ++ (cM ++ (cR ++ cK)))
  two_parts = subst (ArePages columns) (sym (append_assoc cF cL (cM ++ (cR ++ cK)))) is.pages

  low_both : AreEarlier from (all_in (cF ++ cL))
  low_both = before_range slot columns pages from (front ++ before) mid (cF ++ cL) cM (cR ++ cK) some begins (chained_both slot columns pages front before cF cL onF onL) onM two_parts

  low_joined : AreEarlier from (all_in cL)
  low_joined = earlier_last from (all_in cF) (all_in cL) (subst (AreEarlier from) (all_in-append cF cL) low_both)

  high_both : AreLater to (all_in (cR ++ cK))
  high_both = chain_later slot columns pages to (behind ++ back) (cR ++ cK) (chained_both slot columns pages behind back cR cK onR onK) above

  high_joined : AreLater to (all_in cR)
  high_joined = later_front to (all_in cR) (all_in cK) (subst (AreLater to) (all_in-append cR cK) high_both)

  xs_is : earlier from window ≡ xs
  xs_is = earlier_around from to order (all_in cL) (all_in cM) (all_in cR) low_joined high_joined

  ys_is : later to window ≡ ys
  ys_is = later_around from to order (all_in cL) (all_in cM) (all_in cR) low_joined high_joined

  -- all elements
  abbrev all : List Element
  all = all_in (cF ++ (cL ++ (cM ++ (cR ++ cK))))

  all_parts : all ≡ all_in (cF ++ cL) ++ (all_in cM ++ all_in (cR ++ cK))
  all_parts = ap all_in (sym (append_assoc cF cL (cM ++ (cR ++ cK)))) ∙ all_between (cF ++ cL) cM (cR ++ cK)

  order_all : AreInOrder columns all
  order_all = pages_in_order columns (cF ++ (cL ++ (cM ++ (cR ++ cK)))) is.pages

  left_parts : without_range from to all ≡ (all_in (cF ++ cL) ++ earlier from (all_in cM)) ++ (later to (all_in cM) ++ all_in (cR ++ cK))
  left_parts =
      without_parts from to order all order_all.rising
      ∙ (λ j. earlier from (all_parts j) ++ later to (all_parts j))
      ∙ (λ j. earlier_around from to order (all_in (cF ++ cL)) (all_in cM) (all_in (cR ++ cK)) low_both high_both j ++ later_around from to order (all_in (cF ++ cL)) (all_in cM) (all_in (cR ++ cK)) low_both high_both j)

  pub left_is : without_range from to all ≡ all_in cF ++ ((xs ++ ys) ++ all_in cK)
  left_is =
      left_parts ∙ (λ j. (all_in-append cF cL j ++ earlier from (all_in cM)) ++ (later to (all_in cM) ++ all_in-append cR cK j))
      ∙ shuffle (all_in cF) (all_in cL) (earlier from (all_in cM)) (later to (all_in cM)) (all_in cR) (all_in cK)

  order_left : AreInOrder columns (all_in cF ++ ((xs ++ ys) ++ all_in cK))
  order_left = let P : List Element → Type 0 = AreInOrder columns in subst P left_is (filter_in_order (λ (e : Element). not (is_within from to e)) columns all order_all)

  pub order_both : AreInOrder columns (xs ++ ys)
  order_both = order_front columns (xs ++ ys) (all_in cK) (order_back columns (all_in cF) ((xs ++ ys) ++ all_in cK) order_left)

  -- how many go
  pub gone_count : (removed n m : ℕ) → length (earlier from (all_in cM)) ≡ n → length (later to (all_in cM)) ≡ m → removed + (n + m) ≡ count_of mid → removed ≡ length (within_range from to all)
  gone_count removed n m first second number =
      let whole = all_counted from to all in
      let left : length (without_range from to all) ≡ length (all_in (cF ++ cL)) + n + (m + length (all_in (cR ++ cK))) =
      ap length left_parts
      ∙ omega (
        arith,
        length-append (all_in (cF ++ cL) ++ earlier from (all_in cM)) (later to (all_in cM) ++ all_in (cR ++ cK)),
        length-append (all_in (cF ++ cL)) (earlier from (all_in cM)),
        length-append (later to (all_in cM)) (all_in (cR ++ cK)),
        first,
        second,
      ) in
      let long : length all ≡ length (all_in (cF ++ cL)) + (count_of mid + length (all_in (cR ++ cK))) =
      ap length all_parts ∙ omega (arith, length-append (all_in (cF ++ cL)) (all_in cM ++ all_in (cR ++ cK)), length-append (all_in cM) (all_in (cR ++ cK)), counted slot columns pages mid cM onM) in
      omega (arith, whole, left, long, number)

  -- the pages that go
  abbrev chain_gone : List (List Element)
  chain_gone = cL ++ (cM ++ cR)

  on_gone : AreChained slot columns pages (before ++ (mid ++ behind)) chain_gone
  on_gone = chained_both slot columns pages before (mid ++ behind) cL (cM ++ cR) onL (chained_both slot columns pages mid behind cM cR onM onR)

  all_gone : all_in chain_gone ≡ window
  all_gone = all_in-append cL (cM ++ cR) ∙ ap (λ (l : List Element). all_in cL ++ l) (all_in-append cM cR)

  three_parts : (cF ++ chain_gone) ++ cK ≡ cF ++ (cL ++ (cM ++ (cR ++ cK)))
  three_parts = append_assoc cF chain_gone cK ∙ ap (λ (l : List (List Element)). cF ++ l) (append_assoc cL (cM ++ cR) cK ∙ ap (λ (l : List (List Element)). cL ++ l) (append_assoc cM cR cK))

  gone_pages : ArePages columns ((cF ++ chain_gone) ++ cK)
  gone_pages = subst (ArePages columns) (sym three_parts) is.pages

  rising_window : AreRising window
  rising_window =
      let P : List Element → Type 0 = AreInOrder columns in
      let whole : AreInOrder columns (all_in (cF ++ chain_gone) ++ all_in cK) = subst P (all_in-append (cF ++ chain_gone) cK) (pages_in_order columns ((cF ++ chain_gone) ++ cK) gone_pages) in
      let some_first : AreInOrder columns (all_in cF ++ all_in chain_gone) = subst P (all_in-append cF chain_gone) (order_front columns (all_in (cF ++ chain_gone)) (all_in cK) whole) in
      subst AreRising all_gone (order_back columns (all_in cF) (all_in chain_gone) some_first).rising

  rising_back : IsRising back
  rising_back = rising_back_of behind back (rising_back_of mid (behind ++ back) (rising_back_of before (mid ++ (behind ++ back)) (rising_back_of front (before ++ (mid ++ (behind ++ back))) rising)))

  rising_mid : IsRising mid
  rising_mid = mid_rising before mid (behind ++ back) (rising_back_of front (before ++ (mid ++ (behind ++ back))) rising)

  first_window : (a : Place) (gs : List Place) → before ++ (mid ++ behind) ≡ a ∷ gs → first_stamp window ≡ Some a.at
  first_window a gs same = ap first_stamp (sym all_gone) ∙ first_of_chain slot columns pages a gs chain_gone (subst (λ (ps : List Place). AreChained slot columns pages ps chain_gone) same on_gone)

  below : (at : ℤ) (es : List Element) → ((z : ℤ) → AreEarlier z window → AreEarlier z es) → first_stamp es ≡ Some at → AreAbove at back
  below at es part first = below_back slot columns pages at back cF chain_gone cK es rising_back onK gone_pages (λ z low. part z (subst (AreEarlier z) all_gone low)) first

  begin_one : BeginTogether (before ++ (mid ++ behind)) back (xs ++ ys)
  begin_one a gs same at start =
      let both : without_range from to window ≡ xs ++ ys = without_parts from to order window rising_window ∙ (λ j. xs_is j ++ ys_is j) in (
        filter_first (λ (e : Element). not (is_within from to e)) a.at at window rising_window (first_window a gs same) (ap first_stamp both ∙ start),
        below at (xs ++ ys) (λ z low. subst (AreEarlier z) both (filter_earlier (λ (e : Element). not (is_within from to e)) z window low)) start,
      )

  begin_two : length before ≤ 1 → 2 ≤ length mid → 1 ≤ length xs → BeginApart (before ++ (mid ++ behind)) back xs ys
  begin_two one two few = record {
    first = λ a gs same. ap first_stamp (sym xs_is) ∙ first_earlier from window rising_window (subst (λ (l : List Element). 1 ≤ length l) (sym xs_is) few) ∙ first_window a gs same;
    second = λ a b gs same at start.
        let low : b.at ≤ℤ to = second_low to before mid behind one two rising_mid ends a b gs same in
        let high : to <ℤ at = first_later to at window (ap first_stamp ys_is ∙ start) in (
          omega (arith, ints, low, high),
          below at ys (λ z less. subst (AreEarlier z) ys_is (filter_earlier (λ (e : Element). int_lt to e.0) z window less)) start,
        );
  }

  pub begin_any : (apart : Bool) → length before ≤ 1 → (IsTrue apart → (2 ≤ length mid) × (1 ≤ length (earlier from (all_in cM)))) → CanBegin apart (before ++ (mid ++ behind)) back xs ys
  begin_any apart one two =
      can_begin apart (before ++ (mid ++ behind)) back xs ys
      (λ yes. let t = two yes in let few = t.1 in begin_two one t.0 (omega (arith, length-append (all_in cL) (earlier from (all_in cM)), few))) begin_one

  module _ (joins : Joins) (n m : ℕ) (jo : AreJoined (page_room columns) (last_count (front ++ before)) n m (first_count (behind ++ back)) joins) (long1 : length before ≡ joins.before) (long2 : length behind ≡ joins.behind)
      (number1 : length (earlier from (all_in cM)) ≡ n) (number2 : length (later to (all_in cM)) ≡ m) (after : ℕ → List ℕ) where
    x_is : length xs ≡ joined_count joins.before (last_count (front ++ before)) + n
    x_is = omega (arith, length-append (all_in cL) (earlier from (all_in cM)), counted slot columns pages before cL onL, number1, joined_last front before joins.before long1 jo.one_before)

    y_is : length ys ≡ m + joined_count joins.behind (first_count (behind ++ back))
    y_is = omega (arith, length-append (later to (all_in cM)) (all_in cR), counted slot columns pages behind cR onR, number2, joined_first behind back joins.behind long2 jo.one_behind)

    more_x : length (all_in cL) ≤ length xs
    more_x = omega (arith, length-append (all_in cL) (earlier from (all_in cM)))

    more_y : length (all_in cR) ≤ length ys
    more_y = omega (arith, length-append (later to (all_in cM)) (all_in cR))

    one_before : length before ≤ 1
    one_before = let one = jo.one_before in omega (arith, long1, one)

    one_behind : length behind ≤ 1
    one_behind = let one = jo.one_behind in omega (arith, long2, one)

    dense_joined : IsDense (page_room columns) (cF ++ cL)
    dense_joined = dense_front (page_room columns) (cF ++ cL) (cM ++ (cR ++ cK)) (subst (IsDense (page_room columns)) (sym (append_assoc cF cL (cM ++ (cR ++ cK)))) is.dense)

    dense_first : IsDense (page_room columns) cF
    dense_first = dense_front (page_room columns) cF cL dense_joined

    dense_behind : IsDense (page_room columns) (cR ++ cK)
    dense_behind = dense_back (page_room columns) cM (cR ++ cK) (dense_back (page_room columns) cL (cM ++ (cR ++ cK)) (dense_back (page_room columns) cF (cL ++ (cM ++ (cR ++ cK))) is.dense))

    dense_last : IsDense (page_room columns) cK
    dense_last = dense_back (page_room columns) cR cK dense_behind

    dense_new : (apart : Bool) (come : Come) → HasShape apart come
        → FitTheirPages apart (page_room columns) (last_count (front ++ before)) (joined_count joins.before (last_count (front ++ before)) + n) (m + joined_count joins.behind (first_count (behind ++ back))) (first_count (behind ++ back)) joins.before joins.behind
        → AreChained slot columns after (list_of come) (pieces come xs ys) → length (xs ++ ys) ≡ count_of (list_of come) → IsDense (page_room columns) (cF ++ (pieces come xs ys ++ cK))
    dense_new true Nothing shape fit here total = absurd (cc)
    dense_new true (One a) shape fit here total = absurd (cc)
    dense_new false (Two a b) shape fit here total = absurd (cc)
    dense_new true (Two a b) shape fit here total =
        let full = fit.full in
        dense_made (page_room columns) cF xs (ys ∷ cK) dense_first
        (left_meets slot columns pages (page_room columns) front before cF cL (length xs) one_before onF onL dense_joined more_x (λ none few. let meets = fit.meets_before (omega (arith, none, long1)) few in omega (arith, x_is, meets))) (
          omega (arith, x_is, y_is, full),
          dense_cons (page_room columns) ys cK
              (right_meets slot columns pages (page_room columns) behind back cR cK (length ys) one_behind onR onK dense_behind more_y (λ none few. let meets = fit.meets_behind (omega (arith, none, long2)) few in omega (arith, y_is, meets))) dense_last,
        )
    dense_new false (One a) shape fit here total =
        let few = here.0.bytes.fill.some in
        let both = length-append xs ys in
        dense_made (page_room columns) cF (xs ++ ys) cK dense_first
        (left_meets slot columns pages (page_room columns) front before cF cL (length (xs ++ ys)) one_before onF onL dense_joined (omega (arith, both, more_x)) (λ none least. let meets = fit.meets_before (omega (arith, few, both, x_is, y_is)) (omega (arith, none, long1)) least in omega (arith, both, x_is, y_is, meets)))
        (dense_cons (page_room columns) (xs ++ ys) cK
        (right_meets slot columns pages (page_room columns) behind back cR cK (length (xs ++ ys)) one_behind onR onK dense_behind (omega (arith, both, more_y)) (λ none least. let meets = fit.meets_behind (omega (arith, few, both, x_is, y_is)) (omega (arith, none, long2)) least in omega (arith, both, x_is, y_is, meets))) dense_last)
    dense_new false Nothing shape fit here total =
        let both = length-append xs ys in
        let front_none : before ≡ [] = none_joined slot columns pages before cL onL (omega (arith, both, total, more_x)) in
        let back_none : behind ≡ [] = none_joined slot columns pages behind cR onR (omega (arith, both, total, more_y)) in
        let first_same : last_count (front ++ before) ≡ last_count front = ap (λ (l : List Place). last_count (front ++ l)) front_none ∙ ap last_count (append-nil front) in
        let last_same : first_count (behind ++ back) ≡ first_count back = ap (λ (l : List Place). first_count (l ++ back)) back_none in
        dense_meet slot columns pages (page_room columns) front back cF cK onF onK dense_first dense_last
        (λ few least. let meets = fit.meet (omega (arith, both, total, x_is, y_is)) (omega (arith, first_same, few)) (omega (arith, last_same, least)) in omega (arith, first_same, last_same, meets))

    all_new : (come : Come) → length (xs ++ ys) ≡ count_of (list_of come) → all_in (pieces come xs ys) ≡ xs ++ ys
    all_new Nothing total = sym (none_of_length (xs ++ ys) total)
    all_new (One a) total = append-nil (xs ++ ys)
    all_new (Two a b) total = ap (λ (l : List Element). xs ++ l) (append-nil ys)

    module _ (come : Come) (shape : HasShape joins.apart come) (here : AreChained slot columns after (list_of come) (pieces come xs ys)) (total : length (xs ++ ys) ≡ count_of (list_of come)) where
      abbrev chain_new : List (List Element)
      chain_new = cF ++ (pieces come xs ys ++ cK)

      pub made : all_in chain_new ≡ without_range from to all
      made = all_between cF (pieces come xs ys) cK ∙ ap (λ (l : List Element). all_in cF ++ (l ++ all_in cK)) (all_new come total) ∙ sym left_is

      sizes : AreSized (page_room columns) chain_new
      sizes =
          let old = sized_pages columns ((cF ++ chain_gone) ++ cK) gone_pages in
          sized_both (page_room columns) cF (pieces come xs ys ++ cK) (sized_front (page_room columns) cF chain_gone (sized_front (page_room columns) (cF ++ chain_gone) cK old))
          (sized_both (page_room columns) (pieces come xs ys) cK (sized_on slot columns after (list_of come) (pieces come xs ys) here) (sized_back (page_room columns) (cF ++ chain_gone) cK old))

      pub is_new : IsChain columns chain_new
      is_new =
          let P : List Element → Type 0 = AreInOrder columns in record {
            pages = pages_made columns chain_new sizes (subst P (sym made) (filter_in_order (λ (e : Element). not (is_within from to e)) columns all order_all));
            dense = dense_new joins.apart come shape jo.fit here total;
          }

      pub on_new : AreChained slot columns after front cF → AreChained slot columns after back cK → AreChained slot columns after (front ++ (list_of come ++ back)) chain_new
      on_new onF2 onK2 = chained_both slot columns after front (list_of come ++ back) cF (pieces come xs ys ++ cK) onF2 (chained_both slot columns after (list_of come) back (pieces come xs ys) cK here onK2)
