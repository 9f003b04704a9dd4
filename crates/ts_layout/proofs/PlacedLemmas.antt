-- Places and free pages stay apart where those of one series change or definitions do, whatever the pages hold.
use Rattle.std.specs.Prelude.{All, AllPairs, Contains, IsPermutation}
use Rattle.std.proofs.Common.{◌≡◌, ◌≢◌, ℕ, ◌+◌, ◌-◌, ◌<◌, ◌≤◌, Some, None, List, [], ◌++◌, length, get_or, set, length-set, get_or-set_same, get_or-set_other, refl, sym, ap, subst, ◌∙◌, arith, length-append, append_assoc, inl, inr}
use Rattle.std.specs.List.{flat_map}
use Rattle.std.proofs.lemmas.Bool.{cases_eq}
use Rattle.std.proofs.lemmas.List.{length-map, get_or-map}
use Rattle.std.proofs.lemmas.List.Sums.{sum_by-set}
use Rattle.std.proofs.lemmas.List.Elements.{All-append, All-map, All-weaker, Contains-get_or, Contains-append_left}
use Rattle.std.proofs.lemmas.List.Sorted.{All-permutation, Contains-permutation, IsPermutation-sym, IsPermutation-trans, IsPermutation-append_left, IsPermutation-append_right, length_permutation}
use Rattle.ts_row.specs.Row.{Heading}
use Rattle.ts_page.specs.Pages.{Contents, IsElementPage, first_element_page}
use Rattle.ts_space.specs.declared.place.Place.{Place}
use Rattle.ts_space.specs.Place.{IsRising, pages_of}
use Rattle.ts_space.specs.Directory.{Directory, places_of, used_of}
use Rattle.ts_cells.specs.IrregularPage.{page_room}
use Rattle.ts_irregular.specs.OnePage.{IsPlace}
use Rattle.ts_sheets.specs.Places as chain
use Rattle.ts_regular.specs.RegularPage.{regular_room}
use Rattle.ts_regular.specs.Places as regular
use Rattle.ts_offset.specs.Grid.{GridPlan}
use Rattle.ts_offset.specs.declared.shape.Shape.{Shape}
use Rattle.ts_offset.specs.declared.shape.Shape.TheVariants.{Irregular, Regular}
use Rattle.ts_model.specs.declared.kind.Kind.TheVariants as kinds
use Rattle.ts_model.specs.Definitions.{Definitions, with_slot}
use Rattle.ts_layout.specs.Sheets.{room_of}
use Rattle.ts_layout.specs.Meaning.{heading_at, shape_at, AreSound}
use Rattle.ts_layout.specs.Charges.{KeepQuotas}
use Rattle.ts_layout.specs.Placed.{IsPlaceIn, IsElementNumber, used_pages, AreMoved, ArePlaced, AreKept}
use Rattle.ts_layout.proofs.OptionLemmas.{one_of}
use Rattle.ts_layout.proofs.ReferLemmas.{KeepColumns, KeepShapes}
use Rattle.ts_layout.proofs.PermutedLemmas.{pairs_permuted, pairs_front, pairs_back, pairs_across, all_front, all_back, without_at, without_set, one_in_front}
use Rattle.ts_layout.proofs.ClearedLemmas.{heading_stays, shape_stays}

-- other definitions that keep the columns and the shapes of the series that have places
pub placed_defined : (d d' : Definitions) (space : Directory) (free : List ℕ) (count : ℕ) → ArePlaced d space free count
    → ((slot : ℕ) (h : Heading) → slot < 4096 → (places_of slot space ≡ [] → ⊥) → heading_at d slot ≡ Some h → heading_at d' slot ≡ Some h)
    → ((slot : ℕ) (shape : Shape) → slot < 4096 → (places_of slot space ≡ [] → ⊥) → shape_at d slot ≡ Some shape → shape_at d' slot ≡ Some shape) → ArePlaced d' space free count
placed_defined d d' space free count placed columns shapes = record {
  slots = placed.slots;
  rising = placed.rising;
  places = λ slot within k e inside.
      let one = placed.places slot within k e inside in
      let some : places_of slot space ≡ [] → ⊥ = λ none. let empty = ap (λ (ps : List Place). length ps) none in absurd (omega (arith, empty, inside)) in
      record {
        element = one.element;
        below = one.below;
        some = one.some;
        heading = one.heading;
        shape = one.shape;
        columns = columns slot one.heading within some one.columns;
        lies = shapes slot one.shape within some one.lies;
        room = one.room;
      };
  numbers = placed.numbers;
  different = placed.different;
  all = placed.all;
}

-- the same lists of places; memory that was taken plays no part
pub placed_same : (d : Definitions) (space space' : Directory) (free free' : List ℕ) (count count' : ℕ) → ArePlaced d space free count → space'.lists ≡ space.lists → free' ≡ free → count' ≡ count → ArePlaced d space' free' count'
placed_same d space space' free free' count count' placed lists frees counts =
    let alike : ArePlaced d (record { lists = space.lists; spares = space'.spares }) free count = record {
      slots = placed.slots;
      rising = placed.rising;
      places = placed.places;
      numbers = placed.numbers;
      different = placed.different;
      all = placed.all;
    } in
    subst (λ (n : ℕ). ArePlaced d space' free' n) (sym counts)
    (subst (λ (ns : List ℕ). ArePlaced d space' ns count) (sym frees)
    (subst (λ (ls : List (List Place)). ArePlaced d (record { lists = ls; spares = space'.spares }) free count) (sym lists) alike))

pub different_turned : (x y : ℕ) → x ≢ y → y ≢ x
different_turned x y other same = other (sym same)

-- The places of one series become these, and its pages and the free ones are together the same.
module _ (d : Definitions) (space space' : Directory) (count slot : ℕ) (new : List Place) (v w : List ℕ) (placed : ArePlaced d space v count) (within : slot < 4096) (lists : space'.lists ≡ set space.lists slot new) (moved : IsPermutation (v ++ pages_of (places_of slot space)) (w ++ pages_of new)) where
  own : places_of slot space' ≡ new
  own = ap (λ (ls : List (List Place)). get_or ls slot []) lists ∙ get_or-set_same space.lists slot new [] (omega (arith, within, placed.slots))

  others : (t : ℕ) → t ≢ slot → places_of t space' ≡ places_of t space
  others t other = ap (λ (ls : List (List Place)). get_or ls t []) lists ∙ get_or-set_other space.lists slot t new [] other

  -- the pages of all other series
  abbrev rest : List ℕ
  rest = flat_map pages_of (without_at pages_of slot space.lists)

  used_before : IsPermutation (used_pages space) (pages_of (places_of slot space) ++ rest)
  used_before = one_in_front pages_of space.lists slot [] (omega (arith, within, placed.slots))

  used_after : IsPermutation (used_pages space') (pages_of new ++ rest)
  used_after =
      let front = one_in_front pages_of (set space.lists slot new) slot [] (omega (arith, within, placed.slots, length-set space.lists slot new)) in
      let is : get_or (set space.lists slot new) slot [] ≡ new = get_or-set_same space.lists slot new [] (omega (arith, within, placed.slots)) in
      subst (λ (ls : List (List Place)). IsPermutation (flat_map pages_of ls) (pages_of new ++ rest)) (sym lists)
      (subst (λ (ls : List (List Place)). IsPermutation (used_pages (record { lists = set space.lists slot new; spares = [] })) (pages_of new ++ flat_map pages_of ls)) (without_set pages_of space.lists slot new)
      (subst (λ (ps : List Place). IsPermutation (used_pages (record { lists = set space.lists slot new; spares = [] })) (pages_of ps ++ flat_map pages_of (without_at pages_of slot (set space.lists slot new)))) is front))

  -- the free pages and those of all series are together the same
  used_moved : IsPermutation (v ++ used_pages space) (w ++ used_pages space')
  used_moved =
      let old : List ℕ = pages_of (places_of slot space) in
      let first : IsPermutation (v ++ used_pages space) ((v ++ old) ++ rest) =
      subst (λ (l : List ℕ). IsPermutation (v ++ used_pages space) l) (sym (append_assoc v old rest)) (IsPermutation-append_right v _ _ used_before) in
      let second : IsPermutation ((v ++ old) ++ rest) ((w ++ pages_of new) ++ rest) = IsPermutation-append_left rest _ _ moved in
      let third : IsPermutation ((w ++ pages_of new) ++ rest) (w ++ used_pages space') =
      subst (λ (l : List ℕ). IsPermutation l (w ++ used_pages space')) (sym (append_assoc w (pages_of new) rest)) (IsPermutation-append_right w _ _ (IsPermutation-sym _ _ used_after)) in
      IsPermutation-trans _ _ _ first (IsPermutation-trans _ _ _ second third)

  numbers_before : All (IsElementNumber count) (v ++ pages_of (places_of slot space))
  numbers_before =
      All-append (IsElementNumber count) v (pages_of (places_of slot space)) placed.numbers
      (All-map (IsElementNumber count) (λ (p : Place). p.page) (places_of slot space) (All-weaker (IsPlaceIn d count slot) (λ (p : Place). IsElementNumber count p.page) (λ p one. (one.element, one.below)) (places_of slot space) (placed.places slot within)))

  numbers_after : All (IsElementNumber count) (w ++ pages_of new)
  numbers_after = All-permutation (IsElementNumber count) (v ++ pages_of (places_of slot space)) (w ++ pages_of new) moved numbers_before

  -- the pages of the new places are element pages
  pub new_numbers : All (IsElementNumber count) (pages_of new)
  new_numbers = all_back (IsElementNumber count) w (pages_of new) numbers_after

  pub placed_moved : IsRising new → All (IsPlaceIn d count slot) new → ArePlaced d space' w count
  placed_moved rising each = record {
    slots = ap (λ (ls : List (List Place)). length ls) lists ∙ length-set space.lists slot new ∙ placed.slots;
    rising = λ t low. elim (cases_eq t slot) [
      | inl same ↦ subst IsRising (sym (ap (λ (n : ℕ). places_of n space') same ∙ own)) rising
      | inr other ↦ subst IsRising (sym (others t other)) (placed.rising t low)
    ];
    places = λ t low. elim (cases_eq t slot) [
      | inl same ↦ subst (λ (n : ℕ). All (IsPlaceIn d count n) (places_of n space')) (sym same) (subst (λ (ps : List Place). All (IsPlaceIn d count slot) ps) (sym own) each)
      | inr other ↦ subst (λ (ps : List Place). All (IsPlaceIn d count t) ps) (sym (others t other)) (placed.places t low)
    ];
    numbers = all_front (IsElementNumber count) w (pages_of new) numbers_after;
    different = pairs_permuted (λ (a b : ℕ). a ≢ b) different_turned (v ++ used_pages space) (w ++ used_pages space') used_moved placed.different;
    all =
        let used : used_of space' + length (places_of slot space) ≡ used_of space + length new =
        ap (λ (ls : List (List Place)). used_of (record { lists = ls; spares = [] }) + length (places_of slot space)) lists ∙ sum_by-set length space.lists slot new [] (omega (arith, within, placed.slots)) in
        let many = length_permutation (v ++ pages_of (places_of slot space)) (w ++ pages_of new) moved in
        let before : length (v ++ pages_of (places_of slot space)) ≡ length v + length (places_of slot space) = length-append v (pages_of (places_of slot space)) ∙ ap (λ (n : ℕ). length v + n) (length-map (places_of slot space) (λ (p : Place). p.page)) in
        let after : length (w ++ pages_of new) ≡ length w + length new = length-append w (pages_of new) ∙ ap (λ (n : ℕ). length w + n) (length-map new (λ (p : Place). p.page)) in
        omega (arith, used, many, before, after, placed.all);
  }

-- an edit moves the places of a series
pub places_moved : (d : Definitions) (space space' : Directory) (count slot : ℕ) (h : Heading) (shape : Shape) (new : List Place) (v w : Contents) → ArePlaced d space v.free count → slot < 4096 → heading_at d slot ≡ Some h → shape_at d slot ≡ Some shape
    → space'.lists ≡ set space.lists slot new → AreMoved (room_of shape h.columns) (places_of slot space) new v w → ArePlaced d space' w.free count
places_moved d space space' count slot h shape new v w placed within heading lies lists moved =
    placed_moved d space space' count slot new v.free w.free placed within lists moved.pages moved.rising (λ k e inside.
    let counted = moved.counts k e inside in
    let long = length-map new (λ (p : Place). p.page) in
    let is : get_or (pages_of new) k 0 ≡ (get_or new k e).page = get_or-map (λ (p : Place). p.page) new k e 0 inside in
    let number = subst (IsElementNumber count) is (new_numbers d space space' count slot new v.free w.free placed within lists moved.pages k 0 (omega (arith, inside, long))) in
    record { element = number.0; below = number.1; some = counted.some; heading = h; shape = shape; columns = heading; lies = lies; room = counted.most })

-- and finds them as it asks: each is that of an element page that isn't free, with some elements and no more than there is room for
record IsUsed (room : ℕ) (c : Contents) (place : Place) : Type 0 where
  element : IsElementPage place.page
  below : place.page < c.count
  used : ¬ Contains c.free place.page
  some : 1 ≤ place.count
  most : place.count ≤ room

module _ (d : Definitions) (space : Directory) (c : Contents) (slot : ℕ) (h : Heading) (placed : ArePlaced d space c.free c.count) (within : slot < 4096) (heading : heading_at d slot ≡ Some h) where
  front : IsPermutation (used_pages space) (pages_of (places_of slot space) ++ flat_map pages_of (without_at pages_of slot space.lists))
  front = one_in_front pages_of space.lists slot [] (omega (arith, within, placed.slots))

  places_used : (shape : Shape) → shape_at d slot ≡ Some shape → All (IsUsed (room_of shape h.columns) c) (places_of slot space)
  places_used shape lies k e inside =
      let places : List Place = places_of slot space in
      let one = placed.places slot within k e inside in
      let p : Place = get_or places k e in
      let same : one.heading ≡ h = one_of (heading_at d slot) one.heading h one.columns heading in
      let alike : one.shape ≡ shape = one_of (shape_at d slot) one.shape shape one.lies lies in
      let room : p.count ≤ room_of shape h.columns = subst (λ (x : Heading). p.count ≤ room_of shape x.columns) same (subst (λ (x : Shape). p.count ≤ room_of x one.heading.columns) alike one.room) in
      let is : get_or (pages_of places) k 0 ≡ p.page = get_or-map (λ (x : Place). x.page) places k e 0 inside in
      let long = length-map places (λ (x : Place). x.page) in
      let among : Contains (pages_of places) p.page = subst (Contains (pages_of places)) is (Contains-get_or (pages_of places) k 0 (omega (arith, inside, long))) in
      let others : List ℕ = flat_map pages_of (without_at pages_of slot space.lists) in
      let used : Contains (used_pages space) p.page = Contains-permutation (pages_of places ++ others) (used_pages space) p.page (IsPermutation-sym _ _ front) (Contains-append_left (pages_of places) others p.page among) in
      record {
        element = one.element;
        below = one.below;
        used = λ free. pairs_across (λ (a b : ℕ). a ≢ b) c.free (used_pages space) p.page p.page placed.different free used refl;
        some = one.some;
        most = room;
      }

  places_different : AllPairs (λ a b. a ≢ b) (pages_of (places_of slot space))
  places_different =
      let R : ℕ → ℕ → Type 0 = λ a b. a ≢ b in
      let others : List ℕ = flat_map pages_of (without_at pages_of slot space.lists) in
      pairs_front R (pages_of (places_of slot space)) others (pairs_permuted R different_turned (used_pages space) (pages_of (places_of slot space) ++ others) front (pairs_back R c.free (used_pages space) placed.different))

  pub places_edited : shape_at d slot ≡ Some Irregular → chain.ArePlaces h.columns c (places_of slot space)
  places_edited lies = record {
    each = All-weaker (IsUsed (page_room h.columns) c) (IsPlace h.columns c) (λ p one. record { element = one.element; below = one.below; used = one.used; some = one.some; room = one.most })
        (places_of slot space) (places_used Irregular lies);
    different = places_different;
  }

pub grid_places_edited : (d : Definitions) (space : Directory) (c : Contents) (slot : ℕ) (h : Heading) (grid : GridPlan) → ArePlaced d space c.free c.count → slot < 4096 → heading_at d slot ≡ Some h → shape_at d slot ≡ Some (Regular grid)
    → regular.ArePlaces h.columns c (places_of slot space)
grid_places_edited d space c slot h grid placed within heading lies = record {
  each = All-weaker (IsUsed (regular_room h.columns) c) (regular.IsPlace h.columns c)
      (λ p one. record { readable = record { element = one.element; below = one.below }; used = one.used; counted = record { some = one.some; room = one.most } })
      (places_of slot space) (places_used d space c slot h placed within heading (Regular grid) lies);
  different = places_different d space c slot h placed within heading;
}

-- a series goes from the definitions, and it has no place any more
pub placed_without : (d : Definitions) (space : Directory) (free : List ℕ) (count slot : ℕ) → ArePlaced d space free count → places_of slot space ≡ [] → ArePlaced (with_slot kinds.Series slot None d) space free count
placed_without d space free count slot placed none =
    placed_defined d (with_slot kinds.Series slot None d) space free count placed
    (λ t h low some there. heading_stays d slot t (λ same. some (ap (λ (n : ℕ). places_of n space) same ∙ none)) ∙ there)
    (λ t shape low some there. shape_stays d slot t (λ same. some (ap (λ (n : ℕ). places_of n space) same ∙ none)) ∙ there)

-- other definitions that keep the rules, the columns and the shapes
pub kept_defined : (d d' : Definitions) (space : Directory) (free : List ℕ) (count : ℕ) → AreKept d space free count → AreSound (count - first_element_page) d' → KeepColumns d d' → KeepShapes d d' → KeepQuotas d' space → AreKept d' space free count
kept_defined d d' space free count kept sound columns shapes quotas = record {
  some = kept.some;
  most = kept.most;
  sound = sound;
  placed = placed_defined d d' space free count kept.placed (λ slot h within some there. columns slot h there) (λ slot shape within some there. shapes slot shape there);
  quotas = quotas;
}
