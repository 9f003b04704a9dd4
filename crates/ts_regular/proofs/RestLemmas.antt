-- What is left of the pages of some places, by what is left of the first and the last.
use Rattle.std.proofs.Common.{◌≡◌, ◌≢◌, ℕ, zero, suc, ◌+◌, ◌-◌, ◌<◌, ◌≤◌, All, AllPairs, IsTrue, Bool, ℤ, pos, ◌<ℤ◌, ◌≤ℤ◌, None, List, [], ◌∷◌, length, get_or, refl, sym, ap, subst, ◌∙◌, arith}
use Rattle.std.specs.Prelude.{Contains}
use Rattle.std.proofs.lemmas.Int.{ints}
use Rattle.std.proofs.lemmas.List.Elements.{All-cons, All-nil, All-head, All-tail}
use Rattle.std.proofs.Math.Nat.{mod-add-div}
use Rattle.ts_space.specs.declared.place.Place.{Place}
use Rattle.ts_space.specs.Place.{AreAbove, AreBelow, IsRising, pages_of}
use Rattle.ts_page.specs.Pages.{Contents}
use Rattle.ts_row.specs.declared.kind.Column.{Column}
use Rattle.ts_regular.specs.RegularPage.{Cell, regular_room, base_of, filled_count}
use Rattle.ts_regular.specs.Places.{OffsetPage, IsOn, AreOn}
use Rattle.ts_regular.specs.OnePage.{KeepsOthers}
use Rattle.ts_regular.specs.Call.{Stays}
use Rattle.ts_regular.specs.Range.{is_between}
use Rattle.ts_regular.specs.Cut.{Cut, AreNotBelow, AreCutTo, AreRests, IsCutTo, IsRest, cells_outside, cuts_behind, cuts_of, recounted}
use Rattle.ts_regular.proofs.CellsLemmas.{count_within}
use Rattle.ts_regular.proofs.EditLemmas.{AreApart, apart_behind, whole_base}
use Rattle.ts_regular.proofs.PlaceLemmas.{above_than, multiples}
use Rattle.ts_regular.proofs.RangeLemmas.{between_in, either}

-- cells within a range
none_left : (from to at : ℕ) (cells : List Cell) → from ≤ at → at + length cells ≤ to → filled_count (cells_outside from to at cells) ≡ 0
none_left from to at [] low high = refl
none_left from to at (cell ∷ cells) low high =
    ap (λ (c : Cell). filled_count (c ∷ cells_outside from to (at + 1) cells)) (either (is_between from to at) None cell (between_in from to at low (omega (arith, high))))
    ∙ none_left from to (at + 1) cells (omega (arith, low)) (omega (arith, high))

-- the last of some places with one more before them
last_step : (q r : Place) (places : List Place) (d : Place) → get_or (r ∷ places) (length (r ∷ places) - 1) d ≡ get_or (q ∷ r ∷ places) (length (q ∷ r ∷ places) - 1) d
last_step q r places d = ap (λ (n : ℕ). get_or (q ∷ r ∷ places) n d) (let next : suc (length (r ∷ places) - 1) ≡ length (q ∷ r ∷ places) - 1 = omega arith in next)

-- an offset is one of those from its base on
within_base : (columns : List Column) (n : ℕ) → 1 ≤ regular_room columns → n < base_of columns n + regular_room columns
within_base columns n some = let parts = mod-add-div n (regular_room columns) in let few = some in grind arith

module _ (slot : ℕ) (columns : List Column) (from to : ℕ) (before pages : ℕ → List ℕ) where
  -- none is left of a page between others
  none_between : (q : Place) (p : OffsetPage) → IsOn slot columns (before q.page) q p → pos (base_of columns from) <ℤ q.at → p.0 + regular_room columns ≤ to → IsRest slot columns from to pages (q, 0) p
  none_between q p on above below =
      let room = on.bytes.fill.room in
      let some = on.bytes.fill.some in
      let at = on.at in
      let less : base_of columns from < p.0 = omega (arith, ints, above, at) in
      let step = multiples (regular_room columns) (base_of columns from) p.0 (whole_base columns from) on.bytes.whole less in
      let inside = within_base columns from (omega (arith, room, some, count_within p.1)) in
      record { number = none_left from to p.0 p.1 (omega (arith, step, inside)) (omega (arith, room, below)); on = λ more. absurd (omega (arith, more)) }

  -- the last of them is the end
  rests_behind : (back : ℕ) (b : Place) (places : List Place) (ps : List OffsetPage) (d : Place) → AreOn slot columns before places ps → IsRising places → AreBelow (pos to) places → AreAbove (pos (base_of columns from)) places → 1 ≤ length places
      → get_or places (length places - 1) d ≡ b → ((p : OffsetPage) → IsOn slot columns (before b.page) b p → IsRest slot columns from to pages (b, back) p) → AreRests slot columns from to pages (cuts_behind back places) ps
  rests_behind back b [] ps d on rising below above some last end = absurd (omega (arith, some))
  rests_behind back b (q ∷ places) [] d on rising below above some last end = absurd on
  rests_behind back b (q ∷ []) (p ∷ []) d on rising below above some last end =
      (subst (λ (k : Place). IsRest slot columns from to pages (k, back) p) (sym last) (end p (subst (λ (k : Place). IsOn slot columns (before k.page) k p) last on.0)), tt)
  rests_behind back b (q ∷ []) (p ∷ s ∷ ps) d on rising below above some last end = absurd on.1
  rests_behind back b (q ∷ r ∷ places) (p ∷ []) d on rising below above some last end = absurd on.1
  rests_behind back b (q ∷ r ∷ places) (p ∷ s ∷ ps) d on rising below above some last end =
      let up = rising.0.0 in
      let at = on.0.at in
      let next = on.1.0.at in
      let under = below.1.0 in
      let less : p.0 < s.0 = omega (arith, ints, up, at, next) in
      let step = multiples (regular_room columns) p.0 s.0 on.0.bytes.whole on.1.0.bytes.whole less in (
        none_between q p on.0 above.0 (omega (arith, ints, step, next, under)),
        rests_behind back b (r ∷ places) (s ∷ ps) d on.1 rising.1 below.1 above.1 (omega arith) (last_step q r places d ∙ last) end,
      )

-- the place of an index
pub not_below_at : (at : ℤ) (places : List Place) (i : ℕ) (d : Place) → AreNotBelow at places → i < length places → at ≤ℤ (get_or places i d).at
not_below_at at [] i d above within = absurd (omega (arith, within))
not_below_at at (q ∷ places) zero d above within = above.0
not_below_at at (q ∷ places) (suc i) d above within = not_below_at at places i d above.1 (omega (arith, within))

apart_at : (n : ℕ) (places : List Place) (i : ℕ) (d : Place) → AreApart n places → i < length places → (get_or places i d).page ≢ n
apart_at n [] i d apart within = absurd (omega (arith, within))
apart_at n (q ∷ places) zero d apart within = apart.0
apart_at n (q ∷ places) (suc i) d apart within = apart_at n places i d apart.1 (omega (arith, within))

page_at : (places : List Place) (i : ℕ) (d : Place) → i < length places → Contains (pages_of places) (get_or places i d).page
page_at [] i d within = absurd (omega (arith, within))
page_at (q ∷ places) zero d within = (0, omega arith, refl)
page_at (q ∷ places) (suc i) d within =
    let rest = page_at places i d (omega (arith, within)) in
    let below = rest.1 in
    (suc rest.0, omega (arith, below), rest.2)

-- what holds of each of the cuts behind the first
each_behind : (P : Cut → Type 0) (back : ℕ) (b : Place) (places : List Place) (d : Place) → ((q : Place) → P (q, 0)) → P (b, back) → get_or places (length places - 1) d ≡ b → All P (cuts_behind back places)
each_behind P back b [] d none end last = All-nil P
each_behind P back b (q ∷ []) d none end last = All-cons P (q, back) [] (subst (λ (k : Place). P (k, back)) (sym last) end) (All-nil P)
each_behind P back b (q ∷ r ∷ places) d none end last = All-cons P (q, 0) (cuts_behind back (r ∷ places)) (none q) (each_behind P back b (r ∷ places) d none end (last_step q r places d ∙ last))

end_behind : (P : Cut → Type 0) (back : ℕ) (b : Place) (places : List Place) (d : Place) → 1 ≤ length places → All P (cuts_behind back places) → get_or places (length places - 1) d ≡ b → P (b, back)
end_behind P back b [] d some all last = absurd (omega (arith, some))
end_behind P back b (q ∷ []) d some all last = subst (λ (k : Place). P (k, back)) last (All-head P (q, back) [] all)
end_behind P back b (q ∷ r ∷ places) d some all last = end_behind P back b (r ∷ places) d (omega arith) (All-tail P (q, 0) (cuts_behind back (r ∷ places)) all) (last_step q r places d ∙ last)

-- what is left of one page
pub alone_cut : (tells : Bool) (slot : ℕ) (columns : List Column) (from to front : ℕ) (places : List Place) (d : Place) (v w : Contents) → 1 ≤ length places → length places - 1 ≡ 0
    → IsCutTo tells slot columns from to front (get_or places 0 d) v w → (front ≡ (get_or places 0 d).count → Stays tells v w) → KeepsOthers tells (get_or places 0 d).page v w → w.free ≡ v.free
    → AreCutTo tells slot columns from to places (cuts_of front 0 places) v w
alone_cut tells slot columns from to front [] d v w some one cut same others free = absurd (omega (arith, some))
alone_cut tells slot columns from to front (a ∷ q ∷ places) d v w some one cut same others free = absurd (omega (arith, one))
alone_cut tells slot columns from to front (a ∷ []) d v w some one cut same others free = record {
  fewer = All-cons (λ (c : Cut). c.1 ≤ c.0.count) (a, front) [] cut.fewer (All-nil (λ (c : Cut). c.1 ≤ c.0.count));
  rests = rests;
  free = free;
  same = λ all. same (All-head (λ (c : Cut). c.1 ≡ c.0.count) (a, front) [] all);
  others = λ t number not. others t number (λ is. not (0, omega arith, sym is));
}
  where
    rests : IsTrue tells → (ps : List OffsetPage) → AreOn slot columns v.page (a ∷ []) ps → AreRests slot columns from to w.page ((a, front) ∷ []) ps
    rests t [] on = absurd on
    rests t (p ∷ []) on = (record { number = cut.number t p on.0; on = λ more. cut.on more t p on.0 }, tt)
    rests t (p ∷ s ∷ ps) on = absurd on.1

-- of more than one
pub ends_cut : (tells : Bool) (slot : ℕ) (columns : List Column) (from to front back : ℕ) (places : List Place) (d : Place) (v u w : Contents) → length places - 1 ≢ 0
    → IsRising places → AreNotBelow (pos (base_of columns from)) places → AreBelow (pos to) places → AllPairs (λ a b. a ≢ b) (pages_of places)
    → IsCutTo tells slot columns from to front (get_or places 0 d) v u → (front ≡ (get_or places 0 d).count → Stays tells v u) → KeepsOthers tells (get_or places 0 d).page v u → u.free ≡ v.free
    → IsCutTo tells slot columns from to back (get_or places (length places - 1) d) u w → (back ≡ (get_or places (length places - 1) d).count → Stays tells u w) → KeepsOthers tells (get_or places (length places - 1) d).page u w → w.free ≡ u.free
    → AreCutTo tells slot columns from to places (cuts_of front back places) v w
ends_cut tells slot columns from to front back [] d v u w many rising begins ends different cut same others free cut2 same2 others2 free2 = absurd (many refl)
ends_cut tells slot columns from to front back (a ∷ []) d v u w many rising begins ends different cut same others free cut2 same2 others2 free2 = absurd (many (omega arith))
ends_cut tells slot columns from to front back (a ∷ q ∷ places) d v u w many rising begins ends different cut same others free cut2 same2 others2 free2 =
    let Fewer : Cut → Type 0 = λ c. c.1 ≤ c.0.count in
    let Same : Cut → Type 0 = λ c. c.1 ≡ c.0.count in
    let b : Place = get_or (a ∷ q ∷ places) (length (a ∷ q ∷ places) - 1) d in
    record {
      fewer = All-cons Fewer (a, front) (cuts_behind back (q ∷ places)) cut.fewer (each_behind Fewer back b (q ∷ places) d (λ k. omega arith) cut2.fewer last);
      rests = rests;
      free = free2 ∙ free;
      same = λ all.
          let one = same (All-head Same (a, front) (cuts_behind back (q ∷ places)) all) in
          let two = same2 (end_behind Same back b (q ∷ places) d (omega arith) (All-tail Same (a, front) (cuts_behind back (q ∷ places)) all) last) in
          record { free = two.free ∙ one.free; pages = λ t number. two.pages t number ∙ one.pages t number };
      others = λ t number not.
          others2 t number (λ is. not (subst (Contains (pages_of (a ∷ q ∷ places))) (sym is) (page_at (a ∷ q ∷ places) (length (a ∷ q ∷ places) - 1) d (omega arith))))
          ∙ others t number (λ is. not (0, omega arith, sym is));
    }
  where
    last : get_or (q ∷ places) (length (q ∷ places) - 1) d ≡ get_or (a ∷ q ∷ places) (length (a ∷ q ∷ places) - 1) d
    last = last_step a q places d

    apart : (get_or (a ∷ q ∷ places) (length (a ∷ q ∷ places) - 1) d).page ≢ a.page
    apart = subst (λ (k : Place). k.page ≢ a.page) last (apart_at a.page (q ∷ places) (length (q ∷ places) - 1) d (apart_behind [] a (q ∷ places) different) (omega arith))

    rests : IsTrue tells → (ps : List OffsetPage) → AreOn slot columns v.page (a ∷ q ∷ places) ps → AreRests slot columns from to w.page (cuts_of front back (a ∷ q ∷ places)) ps
    rests t [] on = absurd on
    rests t (p ∷ ps) on = let b : Place = get_or (a ∷ q ∷ places) (length (a ∷ q ∷ places) - 1) d in (
      record { number = cut.number t p on.0; on = λ more. subst (λ (l : List ℕ). IsOn slot columns l (recounted a front) (p.0, cells_outside from to p.0 p.1)) (sym (others2 t a.page (λ is. apart (sym is)))) (cut.on more t p on.0) },
      rests_behind slot columns from to v.page w.page back b (q ∷ places) ps d on.1 rising.1 ends.1 (above_than (pos (base_of columns from)) a.at (q ∷ places) begins.0 rising.0) (omega arith) last
          (λ s is.
          let there : IsOn slot columns (u.page b.page) b s = subst (λ (l : List ℕ). IsOn slot columns l b s) (sym (others t b.page apart)) is in
          record { number = cut2.number t s there; on = λ more. cut2.on more t s there }),
    )
