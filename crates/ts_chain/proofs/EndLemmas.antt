-- Each end of a page that is parted in two, by its index.
use Rattle.std.proofs.Common.{◌≡◌, ◌≢◌, ℕ, suc, ◌+◌, ◌<◌, ◌≤◌, ℤ, ◌<ℤ◌, ◌≤ℤ◌, ◌⊎◌, inl, inr, Bool, Option, None, Some, Ok, List, [], ◌∷◌, ◌++◌, length, get_or, refl, sym, ap, subst, ◌∙◌, arith, append_assoc, append-nil, length-append}
use Rattle.std.specs.Prelude.{AllPairs, Contains, IfSome, option_to_list}
use Rattle.std.proofs.lemmas.Int.{ints}
use Rattle.std.proofs.Math.Seq.{get_or-append_seam}
use Rattle.ts_space.specs.declared.place.Place.{Place}
use Rattle.ts_space.specs.declared.moved.Moved.{Moved}
use Rattle.ts_space.specs.Place.{AreAbove, IsRising, count_of, pages_of, place_of}
use Rattle.ts_space.specs.Charge.{irregular_charge}
use Rattle.ts_space.specs.Moved.{moved_to}
use Rattle.ts_page.specs.Pages.{Answered, Contents, first_element_page}
use Rattle.ts_row.specs.declared.kind.Column.{Column}
use Rattle.ts_row.specs.Row.{Row, Element}
use Rattle.ts_cells.specs.IrregularPage.{IsElement, page_room, AreElements, irregular_page, first_stamp}
use Rattle.ts_irregular.specs.OnePage.{IsPlace}
use Rattle.ts_sheets.specs.Stamped.{all_in, IsDense}
use Rattle.ts_sheets.specs.Places.{AreChained, ArePlaces, FitsFirst, FitsLast, IsTarget}
use Rattle.ts_chain.specs.Call.{IsPutNew}
use Rattle.ts_chain.specs.declared.halves.Halves.{Halves}
use Rattle.ts_chain.specs.Window.{ArePartedOf, begin_of}
use Rattle.ts_chain.specs.Halves.{HasBefore, HasBehind, IsJoinedBefore, IsJoinedBehind, AreHalved, IsAlone, CanJoin, CanSpread, IsSpread}
use Rattle.ts_sheets.proofs.DenseLemmas.{MeetsLeft, MeetsRight, dense_left, dense_right, meets_left, meets_right}
use Rattle.ts_chain.proofs.PagesLemmas.{apart_behind}
use Rattle.ts_chain.proofs.LessLemmas.{get_next, split_last, meets_before, meets_behind}
use Rattle.ts_chain.proofs.AnswerLemmas.{split_first}
use Rattle.ts_chain.proofs.RemoveLemmas.{rising_at}
use Rattle.ts_chain.proofs.ChangeLemmas.{place_first}
use Rattle.ts_chain.proofs.HalfLemmas.{here, min_first, never, stand_low, stand_high, crowded, window_parts, spread_new, spread_rises}

-- an answer that says as much of the pages as another one
pub answered_ok : {S T : Type 0} (s : S) (t : T) (v w : Contents) → Answered {T = S} (Ok s) v w → Answered {T = T} (Ok t) v w
answered_ok s t v w a = record {
  count = a.count;
  faults = a.faults;
  cause = λ err. absurd (cc);
  no_fault = λ none. a.no_fault (λ err. absurd (cc));
}

-- the place of an index, and its neighbours
pub place_get : (places : List Place) (index : ℕ) (d : Place) (front : List Place) (place : Place) (back : List Place) → places ≡ front ++ place ∷ back → length front ≡ index → get_or places index d ≡ place
place_get places index d front place back parts long = (λ j. get_or (parts j) (sym long j) d) ∙ get_or-append_seam front place back d

pub target_get : (at : ℤ) (places : List Place) (index : ℕ) (d : Place) → (t : IsTarget at places index) → get_or places index d ≡ t.place
target_get at places index d t = place_get places index d t.front t.place t.back t.parts t.index_is

pub target_within : (at : ℤ) (places : List Place) (index : ℕ) → IsTarget at places index → index < length places
target_within at places index t = omega (arith, ap length t.parts, length-append t.front (t.place ∷ t.back), t.index_is)

pub has_before : (places : List Place) (index i : ℕ) (d : Place) (q n : ℕ) (front back : List Place) → places ≡ front ++ back → length front ≡ index → i + 1 ≡ index → FitsLast q n front → HasBefore front (get_or places i d) q n
has_before places index i d q n front back parts number next fit =
    let f = split_last q n front fit in
    let long : length f.ahead ≡ i = omega (arith, ap length f.parts, length-append f.ahead (f.last ∷ []), number, next) in
    let whole : places ≡ f.ahead ++ f.last ∷ back = parts ∙ ap (λ (l : List Place). l ++ back) f.parts ∙ append_assoc f.ahead (f.last ∷ []) back in
    let last : get_or places i d ≡ f.last = place_get places i d f.ahead f.last back whole long in
    let P : Place → Type 0 = (λ (p : Place). p.count + n ≤ q) in
    record { ahead = f.ahead; parts = f.parts ∙ ap (λ (p : Place). f.ahead ++ p ∷ []) (sym last); fits = subst P (sym last) f.fits }

pub has_behind : (places : List Place) (index : ℕ) (d : Place) (q n : ℕ) (front : List Place) (place : Place) (back : List Place) → places ≡ front ++ place ∷ back → length front ≡ index → FitsFirst q n back → HasBehind back (get_or places (index + 1) d) q n
has_behind places index d q n front place back parts number fit =
    let f = split_first q n back fit in
    let whole : places ≡ front ++ place ∷ f.first ∷ f.after = parts ∙ ap (λ (l : List Place). front ++ place ∷ l) f.parts in
    let spot : index + 1 ≡ suc (length front) = omega (arith, number) in
    let next : get_or places (index + 1) d ≡ f.first = (λ j. get_or (whole j) (spot j) d) ∙ get_next front place f.first f.after d in
    let P : Place → Type 0 = (λ (p : Place). n + p.count ≤ q) in
    let here : FitsFirst q n (f.first ∷ f.after) = subst (FitsFirst q n) f.parts fit in
    record { after = f.after; parts = f.parts ∙ ap (λ (p : Place). p ∷ f.after) (sym next); fits = subst P (sym next) here }

-- at most as many places go together with a page as stand before it
pub near_within : (q n index : ℕ) (front : List Place) (before : Option Place) → length front ≡ index → IsJoinedBefore q n front before → length (option_to_list before) ≤ index
near_within q n index front None number not = omega arith
near_within q n index front (Some b) number h = omega (arith, number, ap length h.parts, length-append h.ahead (b ∷ []))

place_among : (columns : List Column) (v : Contents) (xs : List Place) (p : Place) (ys : List Place) → ArePlaces columns v (xs ++ p ∷ ys) → IsPlace columns v p
place_among columns v xs p ys are =
    subst (IsPlace columns v) (get_or-append_seam xs p ys p) (are.each (length xs) p (omega (arith, length-append xs (p ∷ ys))))

module _ (at : ℤ) (places : List Place) (index : ℕ) (columns : List Column) (v : Contents) (t : IsTarget at places index) (are : ArePlaces columns v places) (first : Place) (own : first.page ≡ t.place.page) where
  -- the first half is on the page that was full
  pub first_place : 1 ≤ first.count → first.count ≤ page_room columns → IsPlace columns v first
  first_place some room =
      let is = are.each index first (target_within at places index t) in
      let same : (get_or places index first).page ≡ first.page = ap (λ (p : Place). p.page) (target_get at places index first t) ∙ sym own in
      record {
        element = subst (λ (n : ℕ). first_element_page ≤ n) same is.element;
        below = subst (λ (n : ℕ). n < v.count) same is.below;
        used = subst (λ (n : ℕ). ¬ Contains v.free n) same is.used;
        some = some;
        room = room;
      }

  -- which has no other place
  pub before_apart : (b : Place) (q n : ℕ) → HasBefore t.front b q n → b.page ≢ first.page
  before_apart b q n h same =
      let whole : places ≡ h.ahead ++ b ∷ t.place ∷ t.back = t.parts ∙ ap (λ (l : List Place). l ++ t.place ∷ t.back) h.parts ∙ append_assoc h.ahead (b ∷ []) (t.place ∷ t.back) in
      (apart_behind h.ahead b (t.place ∷ t.back) (subst (λ (ps : List Place). AllPairs (λ x y. x ≢ y) (pages_of ps)) whole are.different)).0 (sym own ∙ sym same)

  pub behind_apart : (b : Place) (q n : ℕ) → HasBehind t.back b q n → b.page ≢ first.page
  behind_apart b q n h same =
      let whole : places ≡ t.front ++ t.place ∷ b ∷ h.after = t.parts ∙ ap (λ (l : List Place). t.front ++ t.place ∷ l) h.parts in
      (apart_behind t.front t.place (b ∷ h.after) (subst (λ (ps : List Place). AllPairs (λ x y. x ≢ y) (pages_of ps)) whole are.different)).0 (same ∙ own)

  pub both_apart : (a b : Place) (q n r m : ℕ) → HasBefore t.front a q n → HasBehind t.back b r m → a.page ≢ b.page
  both_apart a b q n r m h k same =
      let whole : places ≡ h.ahead ++ a ∷ t.place ∷ b ∷ k.after = t.parts ∙ ap (λ (l : List Place). l ++ t.place ∷ t.back) h.parts ∙ append_assoc h.ahead (a ∷ []) (t.place ∷ t.back) ∙ ap (λ (l : List Place). h.ahead ++ a ∷ t.place ∷ l) k.parts in
      (apart_behind h.ahead a (t.place ∷ b ∷ k.after) (subst (λ (ps : List Place). AllPairs (λ x y. x ≢ y) (pages_of ps)) whole are.different)).1.0 (sym same)

module _ (tells : Bool) (slot : ℕ) (columns : List Column) (stamp : ℤ) (places : List Place) (index : ℕ) (v : Contents) (t : IsTarget stamp places index) (rising : IsRising places) (are : ArePlaces columns v places) (row : Row) (element : IsElement columns (stamp, row)) (halves : Halves) (page others : List ℕ)
    (halved : AreHalved slot columns stamp t.front t.place t.back others halves) (parted : ArePartedOf tells slot columns stamp row t.place page others v) (full : t.place.count ≡ page_room columns) (some : 1 ≤ page_room columns) where
  begins : (t.place.at ≤ℤ halves.first.at) ⊎ (t.front ≡ [])
  begins = elim t.begins [
    | inl early ↦ inl (let at = halved.first_at in omega (arith, ints, at, min_first t.place.at stamp early))
    | inr none ↦ inr none
  ]

  -- what was told can't be
  pub stands_not : (moved : Moved) → moved_to moved places ≡ places → (halves.first.at <ℤ halves.second.at → AreAbove halves.second.at t.back → ⊥) → IsPutNew tells slot columns stamp row places (moved_to moved places) v v
  stands_not moved same so = never tells slot columns stamp places index v t rising are row element halves page others halved parted full some moved same
      (λ told chain on is. so (stand_low tells slot columns stamp places index v t rising are row element halves page others halved parted full some told _ (here tells slot columns stamp places index v t rising are chain on).on)
      (stand_high tells slot columns stamp places index v t rising are row element halves page others halved parted full some told chain on is))

  pub spares_not : (moved : Moved) → moved_to moved places ≡ places → IsAlone halves → irregular_charge (page_room columns) (count_of places + 1) ≤ length places → IsPutNew tells slot columns stamp row places (moved_to moved places) v v
  spares_not moved same alone charge = never tells slot columns stamp places index v t rising are row element halves page others halved parted full some moved same
      (crowded tells slot columns stamp places index v t rising are row element halves page others halved parted full some
      (subst (IsJoinedBefore (page_room columns) halves.first.count t.front) alone.before halved.before) (subst (IsJoinedBehind (page_room columns) halves.second.count t.back) alone.behind halved.behind) charge)

  -- the places before those of a window, and what is so of their elements
  abbrev Left : List Place → List Place → Type 0
  Left ahead near = (n : ℕ) (xs zs rest : List (List Element)) → AreChained slot columns v.page ahead xs → AreChained slot columns v.page near zs → IsDense (page_room columns) (xs ++ (zs ++ rest)) → length (all_in zs) + halves.first.count ≤ n → MeetsLeft (page_room columns) xs n

  record IsLeft (before : Option Place) : Type 0 where
    ahead : List Place
    parts : t.front ≡ ahead ++ option_to_list before
    left : Left ahead (option_to_list before)
    first : Place
    more : List Place
    whole : t.front ++ t.place ∷ t.back ≡ ahead ++ first ∷ more
    begins : (first.at ≤ℤ begin_of (option_to_list before) halves.first) ⊎ (ahead ≡ [])
    low : begin_of (option_to_list before) halves.first <ℤ halves.second.at

  -- the page before begins before the second half does
  before_low : (b : Place) (q n : ℕ) → HasBefore t.front b q n → halves.first.at <ℤ halves.second.at → b.at <ℤ halves.second.at
  before_low b q n h apart =
      let whole : t.front ++ t.place ∷ t.back ≡ h.ahead ++ b ∷ t.place ∷ t.back = ap (λ (l : List Place). l ++ t.place ∷ t.back) h.parts ∙ append_assoc h.ahead (b ∷ []) (t.place ∷ t.back) in
      let above : AreAbove b.at (t.place ∷ t.back) = rising_at h.ahead b (t.place ∷ t.back) (subst IsRising (t.parts ∙ whole) rising) in
      let beyond = above.0 in
      elim begins [
        | inl early ↦ omega (arith, ints, early, apart, beyond)
        | inr none ↦ absurd (some_there h.ahead (sym none ∙ h.parts))
      ]
    where
      some_there : (l : List Place) → [] ≡ l ++ b ∷ [] → ⊥
      some_there [] same = cc
      some_there (p ∷ l) same = cc

  left_of : (before : Option Place) → IsJoinedBefore (page_room columns) halves.first.count t.front before → halves.first.at <ℤ halves.second.at → IsLeft before
  left_of None not apart = record {
    ahead = t.front;
    parts = sym (append-nil t.front);
    left = λ n xs zs rest on none dense more. meets_left (page_room columns) xs halves.first.count n (omega (arith, more)) (meets_before slot columns v.page (page_room columns) halves.first.count t.front xs on not);
    first = t.place;
    more = t.back;
    whole = refl;
    begins = begins;
    low = apart;
  }
  left_of (Some b) h apart = record {
    ahead = h.ahead;
    parts = h.parts;
    left = left_joined;
    first = b;
    more = t.place ∷ t.back;
    whole = ap (λ (l : List Place). l ++ t.place ∷ t.back) h.parts ∙ append_assoc h.ahead (b ∷ []) (t.place ∷ t.back);
    begins = inl (omega (arith, ints));
    low = before_low b (page_room columns) halves.first.count h apart;
  }
    where
      left_joined : Left h.ahead (b ∷ [])
      left_joined n xs [] rest on none dense more = absurd none
      left_joined n xs (es ∷ zs) rest on one dense more = meets_left (page_room columns) xs (length es) n (omega (arith, more, length-append es (all_in zs))) (dense_left (page_room columns) xs es (zs ++ rest) dense)

  -- and those behind it
  abbrev Right : List Place → List Place → Type 0
  Right next after = (n : ℕ) (us ys : List (List Element)) → AreChained slot columns v.page next ys → AreChained slot columns v.page after us → IsDense (page_room columns) (ys ++ us) → halves.second.count + length (all_in ys) ≤ n → MeetsRight (page_room columns) n us

  record IsRight (behind : Option Place) : Type 0 where
    after : List Place
    parts : t.back ≡ option_to_list behind ++ after
    right : Right (option_to_list behind) after

  right_of : (behind : Option Place) → IsJoinedBehind (page_room columns) halves.second.count t.back behind → IsRight behind
  right_of None not = record {
    after = t.back;
    parts = refl;
    right = λ n us ys none on dense more. meets_right (page_room columns) halves.second.count n us (omega (arith, more)) (meets_behind slot columns v.page (page_room columns) halves.second.count t.back us on not);
  }
  right_of (Some b) k = record { after = k.after; parts = k.parts; right = right_joined }
    where
      right_joined : Right (b ∷ []) k.after
      right_joined n us [] none on dense more = absurd none
      right_joined n us (es ∷ []) one on dense more = meets_right (page_room columns) (length es) n us (omega (arith, more, length-append es [])) (dense_right (page_room columns) es us dense)
      right_joined n us (es ∷ fs ∷ ys) one on dense more = absurd one.1

  -- so the row is put where the halves are
  pub halves_put : halves.first.at <ℤ halves.second.at → AreAbove halves.second.at t.back → (come : Place × Place) (w : Contents) → IsSpread tells slot columns halves page others come v w → (moved : Moved)
      → ((ahead gone after : List Place) → length ahead + length (option_to_list halves.before) ≡ index → length gone ≡ length (option_to_list halves.before) + 1 + length (option_to_list halves.behind) → moved_to moved (ahead ++ (gone ++ after)) ≡ ahead ++ come.0 ∷ come.1 ∷ after)
      → IsPutNew tells slot columns stamp row places (moved_to moved places) v w
  halves_put apart above come w s moved is =
      let l = left_of halves.before halved.before apart in
      let r = right_of halves.behind halved.behind in
      let near : List Place = option_to_list halves.before in
      let next : List Place = option_to_list halves.behind in
      let low = l.low in
      let at = s.first_at in
      let rises = spread_rises tells slot columns stamp places index v t rising are row element halves page others halved parted full some l.ahead near next r.after l.parts r.parts apart above l.left r.right come s.second_at
      (omega (arith, ints, low, at)) l.first l.more l.whole (elim l.begins [ inl early ↦ inl (omega (arith, ints, early, at)) | inr none ↦ inr none ]) in
      let parts = window_parts tells slot columns stamp places index v t rising are row element halves page others halved parted full some l.ahead near next r.after l.parts r.parts apart above l.left r.right in
      let long : length l.ahead + length near ≡ index = omega (arith, ap length l.parts, length-append l.ahead near, t.index_is) in
      let gone : length (near ++ t.place ∷ next) ≡ length near + 1 + length next = omega (arith, length-append near (t.place ∷ next)) in
      let P : List Place → Type 0 = (λ (new : List Place). IsPutNew tells slot columns stamp row places new v w) in
      subst P (sym (ap (moved_to moved) parts ∙ is l.ahead (near ++ t.place ∷ next) r.after long gone))
      (spread_new tells slot columns stamp places index v t rising are row element halves page others halved parted full some l.ahead near next r.after l.parts r.parts apart above l.left r.right come w s.spread s.first_at s.second_at rises)

-- and they can be put there
module _ (slot : ℕ) (columns : List Column) (stamp : ℤ) (places : List Place) (index : ℕ) (v : Contents) (t : IsTarget stamp places index) (are : ArePlaces columns v places) (others : List ℕ) (halves : Halves) (halved : AreHalved slot columns stamp t.front t.place t.back others halves) where
  joins_before : (before : Option Place) → IsJoinedBefore (page_room columns) halves.first.count t.front before → IfSome before (CanJoin columns v halves.first halves.first.count)
  joins_before None not = tt
  joins_before (Some b) h =
      let whole : places ≡ h.ahead ++ b ∷ t.place ∷ t.back = t.parts ∙ ap (λ (l : List Place). l ++ t.place ∷ t.back) h.parts ∙ append_assoc h.ahead (b ∷ []) (t.place ∷ t.back) in record {
        place = place_among columns v h.ahead b (t.place ∷ t.back) (subst (ArePlaces columns v) whole are);
        apart = before_apart stamp places index columns v t are halves.first halved.page b (page_room columns) halves.first.count h;
        room = h.fits;
      }

  joins_behind : (behind : Option Place) → IsJoinedBehind (page_room columns) halves.second.count t.back behind → IfSome behind (CanJoin columns v halves.first halves.second.count)
  joins_behind None not = tt
  joins_behind (Some b) k =
      let fits = k.fits in
      let whole : places ≡ (t.front ++ t.place ∷ []) ++ b ∷ k.after = t.parts ∙ ap (λ (l : List Place). t.front ++ t.place ∷ l) k.parts ∙ sym (append_assoc t.front (t.place ∷ []) (b ∷ k.after)) in record {
        place = place_among columns v (t.front ++ t.place ∷ []) b k.after (subst (ArePlaces columns v) whole are);
        apart = behind_apart stamp places index columns v t are halves.first halved.page b (page_room columns) halves.second.count k;
        room = omega (arith, fits);
      }

  joins_apart : (before behind : Option Place) → IsJoinedBefore (page_room columns) halves.first.count t.front before → IsJoinedBehind (page_room columns) halves.second.count t.back behind → IfSome before (λ b. IfSome behind (λ c. b.page ≢ c.page))
  joins_apart None behind not k = tt
  joins_apart (Some b) None h not = tt
  joins_apart (Some b) (Some c) h k = both_apart stamp places index columns v t are halves.first halved.page b c (page_room columns) halves.first.count (page_room columns) halves.second.count h k

  pub can_spread : 1 ≤ page_room columns → (IsAlone halves → 0 < length v.free) → CanSpread columns v halves
  can_spread some spare =
      let count1 = halved.first_count in
      let count2 = halved.both_count in record {
        first = first_place stamp places index columns v t are halves.first halved.page (omega (arith, count1, some)) (omega (arith, count1, some));
        second = record { some = omega (arith, count1, count2, some); room = omega (arith, count1, count2, some) };
        before = joins_before halves.before halved.before;
        behind = joins_behind halves.behind halved.behind;
        apart = joins_apart halves.before halves.behind halved.before halved.behind;
        spare = spare;
      }

-- the stamp that was read where the second half begins
pub begin_read : (slot number : ℕ) (columns : List Column) (second : Place) (others : List ℕ) (n : ℕ) → second.count ≡ n → ((es : List Element) → AreElements columns es → length es ≡ n → others ≡ irregular_page slot columns es → place_of number es ≡ second ∷ [])
    → (es : List Element) → AreElements columns es → length es ≡ second.count → others ≡ irregular_page slot columns es → first_stamp es ≡ Some second.at
begin_read slot number columns second others n same listed es each count is = place_first number es second (listed es each (count ∙ same) is)

-- there is room for one element at least
pub room_some : (at : ℤ) (places : List Place) (index : ℕ) (columns : List Column) (v : Contents) → IsTarget at places index → ArePlaces columns v places → 1 ≤ page_room columns
room_some at places index columns v t are =
    let is = are.each index t.place (target_within at places index t) in
    let some = is.some in
    let room = is.room in
    omega (arith, some, room)
