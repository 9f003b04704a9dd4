-- What one page says of the element behind the last one of a second, and that it is so of the whole chain.
use Rattle.std.proofs.Common.{◌≡◌, ℕ, suc, ◌+◌, ◌*◌, ◌≤◌, true, cond, Bool, IsTrue, ℤ, pos, ◌+ℤ◌, ◌<ℤ◌, ◌≤ℤ◌, Option, Some, None, is_some, Result, Ok, Err, List, [], ◌∷◌, ◌++◌, length, take, drop, refl, sym, ap, subst, ◌∙◌, arith, of_z, w64}
use Rattle.std.specs.Option.{option_map, option_and_then}
use Rattle.std.specs.Int.{from_be_bytes, cast_signed}
use Rattle.std.proofs.lemmas.Int.{by_lt_z, ints, to_z-of_z}
use borrow.Rule.Slice.PartMut.{mid_of}
use Rattle.ts_base.specs.Moment.{IsStamp, stamp_if_any}
use Rattle.ts_base.specs.declared.fault.StoreFault.{StoreFault}
use Rattle.ts_space.specs.declared.place.Place.{Place}
use Rattle.ts_space.specs.Place.{AreAbove}
use Rattle.ts_page.specs.Pages.{Contents}
use Rattle.ts_row.specs.declared.kind.Column.{Column}
use Rattle.ts_row.specs.Row.{Row, Element}
use Rattle.ts_cells.specs.IrregularPage.{cell_size, page_room, AreInOrder, behind_head}
use Rattle.ts_irregular.specs.Edit.{element_at, search_of}
use Rattle.ts_irregular.specs.OnePage.{IsOn}
use Rattle.ts_irregular.specs.Call.{Reads}
use Rattle.ts_irregular.proofs.BytesLemmas.{Part, part, units_in}
use Rattle.ts_irregular.proofs.CellLemmas.{element_is}
use Rattle.ts_irregular.proofs.EditLemmas.{int_lt_yes, int_lt_no}
use Rattle.ts_irregular.proofs.HeadLemmas.{part_behind, length-page}
use Rattle.ts_irregular.proofs.SearchLemmas.{rank_less, search_ok, search_err}
use Rattle.ts_irregular.proofs.SeeLemmas.{behind_told}
use Rattle.ts_sheets.specs.Stamped.{all_in, IsChain, next_second, last_before, unit_after, place_for}
use Rattle.ts_sheets.specs.Places.{AreChained, IsHolder}
use Rattle.ts_chain.specs.Call.{IsPlaceIn}
use Rattle.ts_sheets.proofs.OrderLemmas.{all_in-append, some_z}
use Rattle.ts_chain.proofs.EditLemmas.{none_later}
use Rattle.ts_chain.proofs.WindowLemmas.{at_page}
use Rattle.ts_chain.proofs.PlaceLemmas.{chain_later, holder_around}
use Rattle.ts_chain.proofs.FindLemmas.{cut_told}
use Rattle.ts_chain.proofs.PlacingLemmas.{last_there, last_missing, missing_none, last_between}

-- a stamp is one again
stamp_is : (z : ℤ) → IsStamp z → stamp_if_any z ≡ Some z
stamp_is z is = λ i. cond (int_lt_no z _ is.0 i) None (cond (int_lt_no _ z is.1 i) None (Some z))

-- one element is at the last unit
pub full : (last : ℤ) (es : List Element) (i : ℕ) → (columns : List Column) → AreInOrder columns es → ◌≡◌ {A = Result ℕ ℕ} (Ok i) (search_of last es) → None ≡ option_and_then (unit_after (last +ℤ pos 1)) (last_before (last +ℤ pos 1) es)
full last es i columns order told =
    let there = search_ok last es i told in
    sym (ap (option_and_then (unit_after (last +ℤ pos 1))) (last_there last (last +ℤ pos 1) refl es order.rising there.0)
    ∙ (λ j. cond (int_lt_no (last +ℤ pos 1) (last +ℤ pos 1) (omega (arith, ints)) j) (Some (last +ℤ pos 1)) None))

-- all are behind the second
pub none_before : (last : ℤ) (es : List Element) (i : ℕ) → (columns : List Column) → AreInOrder columns es → ◌≡◌ {A = Result ℕ ℕ} (Err i) (search_of last es) → i ≡ 0 → None ≡ option_and_then (unit_after (last +ℤ pos 1)) (last_before (last +ℤ pos 1) es)
none_before last es i columns order told zero_is =
    let s = search_err last es i told in
    sym (ap (option_and_then (unit_after (last +ℤ pos 1))) (missing_none last (last +ℤ pos 1) refl es order.rising s.0 (sym s.1 ∙ zero_is)))

-- or the one before the rank is the last
module _ (columns : List Column) (last : ℤ) (size i k : ℕ) (units : ℤ) (es : List Element) (behind : List ℕ) (stamp : IsStamp last) (is : size ≡ cell_size columns) (next : i ≡ suc k) (order : AreInOrder columns es) (within : i ≤ length es)
    (same : behind ≡ behind_head columns es) (told : ◌≡◌ {A = Result ℕ ℕ} (Err i) (search_of last es)) (read : units ≡ cast_signed w64 (from_be_bytes w64 (take 8 (drop (size * k + 1) behind)))) where
  one : Part columns k es behind
  one = part columns k es behind order.each (omega (arith, next, within)) same

  early : one.element.0 <ℤ last
  early = by_lt_z one.element.0 last (λ low. low)
      (λ high. absurd (let few = rank_less columns last k es behind one high in let rank = (search_err last es i told).1 in omega (arith, few, rank, next)))

  the_last : last_before (last +ℤ pos 1) es ≡ Some one.element.0
  the_last =
      let s = search_err last es i told in
      ap (option_map (λ (f : Element). f.0)) (last_missing last (last +ℤ pos 1) refl es k one.element order.rising s.0 (sym s.1 ∙ next) (element_is columns k es behind one))

  units_is : stamp_if_any (cast_signed w64 (of_z w64 units)) ≡ Some one.element.0
  units_is =
      let own : units ≡ one.element.0 = read ∙ units_in columns size k es behind one is in
      let stamp = one.is.stamp in
      ap stamp_if_any (to_z-of_z w64 units (omega (arith, ints, own, stamp.0, stamp.1)) ∙ own) ∙ stamp_is one.element.0 stamp

  -- one unit behind it
  pub behind_it : (begins : ℤ) → Some begins ≡ stamp_if_any (cast_signed w64 (of_z w64 units)) → (result : Option ℤ) → result ≡ stamp_if_any (begins +ℤ pos 1) → result ≡ option_and_then (unit_after (last +ℤ pos 1)) (last_before (last +ℤ pos 1) es)
  behind_it begins begun result made =
      let own : begins ≡ one.element.0 = some_z (begun ∙ units_is) in
      let low : one.element.0 <ℤ last = early in
      let first = one.is.stamp.0 in
      made ∙ ap (λ (z : ℤ). stamp_if_any (z +ℤ pos 1)) own ∙ stamp_is (one.element.0 +ℤ pos 1) (omega (arith, ints, first), omega (arith, ints, low, stamp.1))
      ∙ sym (ap (option_and_then (unit_after (last +ℤ pos 1))) the_last
      ∙ (λ j. cond (int_lt_yes (one.element.0 +ℤ pos 1) (last +ℤ pos 1) (omega (arith, ints, low)) j) (Some (one.element.0 +ℤ pos 1)) None))

  -- it is a stamp
  pub is_stamp : None ≡ stamp_if_any (cast_signed w64 (of_z w64 units)) → ⊥
  is_stamp none = none_some (none ∙ units_is)
    where
      none_some : {a : ℤ} → None ≡ Some a → ⊥
      none_some same = cc

-- a stamp at which none stands, and one that is taken
free_for : (stamp : ℤ) (es : List Element) → element_at stamp es ≡ None → Some stamp ≡ place_for stamp es
free_for stamp es none = sym (ap (λ (o : Option Row). cond (is_some o) (option_and_then (unit_after (next_second stamp)) (last_before (next_second stamp) es)) (Some stamp)) none)

taken_for : (stamp : ℤ) (es : List Element) → is_some (element_at stamp es) ≡ true → place_for stamp es ≡ option_and_then (unit_after (next_second stamp)) (last_before (next_second stamp) es)
taken_for stamp es there = ap (λ (b : Bool). cond b (option_and_then (unit_after (next_second stamp)) (last_before (next_second stamp) es)) (Some stamp)) there

-- where all pages begin later, none stands there
pub place_before : (tells : Bool) (slot : ℕ) (columns : List Column) (stamp : ℤ) (places : List Place) (v : Contents) → AreAbove stamp places → IsPlaceIn tells slot columns stamp places v (Some stamp)
place_before tells slot columns stamp places v above = λ told chain on is. free_for stamp (all_in chain) (none_later stamp (all_in chain) (chain_later slot columns v.page stamp places chain on above))

-- a place that begins at a stamp or before it doesn't begin above a later one
pub no_holder : (stamp last : ℤ) (places : List Place) (index : ℕ) → IsHolder stamp places index → AreAbove last places → stamp ≤ℤ last → ⊥
no_holder stamp last places index h above later =
    let high = highest h.front (subst (AreAbove last) h.parts above) in
    let begins = h.begins in
    omega (arith, ints, high, begins, later)
  where
    highest : (front : List Place) → AreAbove last (front ++ h.place ∷ h.back) → last <ℤ h.place.at
    highest [] above = above.0
    highest (p ∷ front) above = highest front above.1

-- what was read of a page: its elements, and how many there are
abbrev pub IsCounted : Bool → ℕ → List Column → Place → List ℕ → ℕ → Contents → Type 0
IsCounted tells slot columns place bytes count v = IsTrue tells → (es : List Element) → IsOn slot columns (v.page place.page) place es → IsOn slot columns bytes place es × (length es ≡ count)

pub counted_since : {T : Type 0} (tells : Bool) (slot : ℕ) (columns : List Column) (place : Place) (bytes : List ℕ) (count : ℕ) (result : Result T StoreFault) (v w : Contents) → Reads tells result v w → IsCounted tells slot columns place bytes count w → IsCounted tells slot columns place bytes count v
counted_since tells slot columns place bytes count result v w reads counted = λ told es on.
    counted told es (subst (λ (b : List ℕ). IsOn slot columns b place es) (sym (reads.pages told place.page)) on)

-- what is said of its cells is said of its elements
abbrev pub IsSaid : List Column → ℕ → List ℕ → (List Element → Type 0) → Type 0
IsSaid columns count bytes P = (es : List Element) → AreInOrder columns es → length es ≡ count → mid_of 32 4064 bytes ≡ behind_head columns es → P es

said_of : (tells : Bool) (slot : ℕ) (columns : List Column) (place : Place) (bytes : List ℕ) (count : ℕ) (v : Contents) (P : List Element → Type 0) → IsCounted tells slot columns place bytes count v → count ≤ page_room columns → IsSaid columns count bytes P
    → IsTrue tells → (es : List Element) → IsOn slot columns (v.page place.page) place es → P es
said_of tells slot columns place bytes count v P counted room said told es on =
    let read = counted told es on in
    let order = read.0.bytes.fill.elements in
    let behind = behind_told slot columns es bytes read.0.bytes in
    said es order read.1 (part_behind 4064 bytes (length-page columns es bytes order.each (omega (arith, read.1, room)) behind) ∙ behind)

module _ (tells : Bool) (slot : ℕ) (columns : List Column) (stamp : ℤ) (places : List Place) (index : ℕ) (place : Place) (bytes : List ℕ) (count i : ℕ) (v : Contents) (h : IsHolder stamp places index) (here : place ≡ h.place)
    (counted : IsCounted tells slot columns place bytes count v) (room : count ≤ page_room columns) where
  in_chain : (result : Result ℕ ℕ) → IsSaid columns count bytes (λ es. result ≡ search_of stamp es) → IsTrue tells → (chain : List (List Element)) → AreChained slot columns v.page places chain → IsChain columns chain
      → (es : List Element) × (result ≡ search_of stamp es) × (element_at stamp (all_in chain) ≡ element_at stamp es)
  in_chain result said told chain on is =
      let c = cut_told slot columns stamp places index v.page chain h on in
      let around = holder_around slot columns v.page stamp h.front h.place h.back chain is.pages h.begins h.above c in (
        c.elements,
        said_of tells slot columns place bytes count v (λ es. result ≡ search_of stamp es) counted room said told c.elements (subst (λ (p : Place). IsOn slot columns (v.page p.page) p c.elements) (sym here) c.on),
        ap (λ (l : List (List Element)). element_at stamp (all_in l)) c.parts ∙ at_page stamp c.before c.elements c.behind around,
      )

  pub place_free : IsSaid columns count bytes (λ es. Err i ≡ search_of stamp es) → IsPlaceIn tells slot columns stamp places v (Some stamp)
  place_free said = λ told chain on is.
      let found = in_chain (Err i) said told chain on is in
      free_for stamp (all_in chain) (found.2 ∙ (search_err stamp found.0 i found.1).0)

  pub place_behind : IsSaid columns count bytes (λ es. Ok i ≡ search_of stamp es) → (last : ℤ) → last +ℤ pos 1 ≡ next_second stamp → (at : ℕ) (other : Place) (read : List ℕ) (many : ℕ) → (g : IsHolder last places at) → other ≡ g.place
      → IsCounted tells slot columns other read many v → many ≤ page_room columns → (result : Option ℤ)
      → IsSaid columns many read (λ es. result ≡ option_and_then (unit_after (last +ℤ pos 1)) (last_before (last +ℤ pos 1) es)) → IsPlaceIn tells slot columns stamp places v result
  place_behind said last next at other read many g there its few result made = λ told chain on is.
      let found = in_chain (Ok i) said told chain on is in
      let taken : is_some (element_at stamp (all_in chain)) ≡ true = ap is_some found.2 ∙ (search_ok stamp found.0 i found.1).0 in
      let c = cut_told slot columns last places at v.page chain g on in
      let around = holder_around slot columns v.page last g.front g.place g.back chain is.pages g.begins g.above c in
      let end : ℤ = last +ℤ pos 1 in
      let own = said_of tells slot columns other read many v (λ es. result ≡ option_and_then (unit_after (last +ℤ pos 1)) (last_before (last +ℤ pos 1) es)) its few made told c.elements
      (subst (λ (p : Place). IsOn slot columns (v.page p.page) p c.elements) (sym there) c.on) in
      let all : last_before end (all_in chain) ≡ last_before end c.elements =
      ap (λ (l : List (List Element)). last_before end (all_in l)) c.parts ∙ ap (last_before end) (all_in-append c.before (c.elements ∷ c.behind))
      ∙ last_between last end g.place.at (all_in c.before) c.elements (all_in c.behind) refl c.on.first g.begins around.later in
      own ∙ ap (option_and_then (unit_after end)) (sym all) ∙ ap (λ (z : ℤ). option_and_then (unit_after z) (last_before z (all_in chain))) next ∙ sym (taken_for stamp (all_in chain) taken)
