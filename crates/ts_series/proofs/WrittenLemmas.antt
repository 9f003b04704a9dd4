-- What the removal of a range does to a series: the answer, by what was kept of its pages.
use Rattle.std.proofs.Common.{◌≡◌, ◌≢◌, ℕ, zero, suc, ◌+◌, ◌-◌, ◌<◌, ◌≤◌, ◌^◌, ℤ, ◌+ℤ◌, ◌<ℤ◌, ◌≤ℤ◌, pos, All, AllPairs, Bool, IsTrue, List, [], ◌∷◌, ◌++◌, length, take, drop, refl, sym, ap, subst, ◌∙◌, arith, append_assoc, length-append}
use Rattle.std.specs.Prelude.{Contains, IsPermutation, int_lt}
use Rattle.std.proofs.lemmas.Int.{by_lt_z, ints}
use Rattle.std.proofs.lemmas.List.{take_at, drop_at}
use Rattle.std.proofs.lemmas.List.Elements.{All-head, All-append, All-take, All-drop}
use Rattle.std.proofs.lemmas.List.Sorted.{IsPermutation-trans, IsPermutation-append_comm, IsPermutation-append_left, IsPermutation-append_right}
use Rattle.ts_space.specs.declared.place.Place.{Place}
use Rattle.ts_space.specs.declared.moved.Moved.{Moved}
use Rattle.ts_space.specs.Place.{AreAbove, IsRising, count_of, pages_of}
use Rattle.ts_space.specs.Moved.{list_of, moved_to}
use Rattle.ts_page.specs.Pages.{Contents, EqualPages}
use Rattle.ts_row.specs.declared.kind.Column.{Column}
use Rattle.ts_row.specs.Row.{Element}
use Rattle.ts_cells.specs.IrregularPage.{page_room, AreElements, AreRising, AreInOrder}
use Rattle.ts_sheets.specs.Stamped.{all_in, AreBefore, AreLater, ArePages, IsChain, earlier, within_range, without_range}
use Rattle.ts_sheets.specs.Places.{AreChained, ArePlaces, AreMoved, IsCounted}
use Rattle.ts_chain.specs.Call.{AreWritten}
use Rattle.ts_sheets.proofs.OrderLemmas.{all_in-append, pages_in_order}
use Rattle.ts_irregular.proofs.EditLemmas.{int_lt_yes, int_lt_no}
use Rattle.ts_chain.proofs.PlaceLemmas.{chain_later}
use Rattle.ts_chain.proofs.RemoveLemmas.{count_parts, count_both, pages_from}
use Rattle.ts_chain.proofs.TakeLemmas.{are_counted, moved_middle}
use Rattle.ts_series.specs.declared.joins.Joins.{Joins}
use Rattle.ts_series.specs.Clip.{AreCleared, HasNoneWithin}
use Rattle.ts_series.specs.Ends.{later, last_count, first_count, AreJoined, AreParts, AreKept, AreEnds, AreEndsOf, IsRange, HasElements, HasShape, pieces, CanBegin}
use Rattle.ts_series.proofs.RangeLemmas.{filter_in_order}
use Rattle.ts_series.proofs.KeepLemmas.{gone, gone_parts, slice_mid, kept_since, chained_since}
use Rattle.ts_series.proofs.ChainLemmas.{part_in, counted}
use Rattle.ts_series.proofs.ClearLemmas.{RangeParts, front_taken, back_dropped, range_mid, xs, order_both, gone_count, begin_any, made, is_new, on_new, stays_front, stays_back, contains_mid, none_of_length}

-- elements in order are no more than there are stamps
few_from : (columns : List Column) (e : Element) (es : List Element) (k : ℕ) → AreElements columns (e ∷ es) → AreRising (e ∷ es) → length es ≡ k → (e.0 +ℤ pos k) ≤ℤ pos 25_340_230_079_999_999
few_from columns e [] k each rise long = let high = each.0.stamp.1 in omega (arith, ints, high, long)
few_from columns e (f ∷ es) zero each rise long = absurd (omega (arith, long))
few_from columns e (f ∷ es) (suc k) each rise long =
    let rest = few_from columns f es k each.1 rise.1 (omega (arith, long)) in
    let next = rise.0 in
    omega (arith, ints, rest, next)

pub few_elements : (columns : List Column) (es : List Element) → AreInOrder columns es → length es < 2 ^ 64
few_elements columns [] order = omega arith
few_elements columns (e ∷ es) order =
    let top = few_from columns e es (length es) order.each order.rising refl in
    let low = order.each.0.stamp.0 in
    omega (arith, ints, top, low)

-- the pages of places, of which some in the middle become others
pages_both : (front back : List Place) → pages_of (front ++ back) ≡ pages_of front ++ pages_of back
pages_both [] back = refl
pages_both (p ∷ front) back = ap (λ (l : List ℕ). p.page ∷ l) (pages_both front back)

pages_all : (front mid back : List Place) → pages_of (front ++ (mid ++ back)) ≡ pages_of front ++ (pages_of mid ++ pages_of back)
pages_all front mid back = pages_both front (mid ++ back) ∙ ap (λ (l : List ℕ). pages_of front ++ l) (pages_both mid back)

-- a list moves behind another
moved_in : (free front mid back : List ℕ) → IsPermutation (free ++ (front ++ (mid ++ back))) (front ++ ((free ++ mid) ++ back))
moved_in free front mid back =
    let one : (free ++ front) ++ (mid ++ back) ≡ free ++ (front ++ (mid ++ back)) = append_assoc free front (mid ++ back) in
    let two : (front ++ free) ++ (mid ++ back) ≡ front ++ ((free ++ mid) ++ back) = append_assoc front free (mid ++ back) ∙ ap (λ (l : List ℕ). front ++ l) (sym (append_assoc free mid back)) in
    subst (λ (l : List ℕ). IsPermutation l (front ++ ((free ++ mid) ++ back))) one
    (subst (λ (l : List ℕ). IsPermutation ((free ++ front) ++ (mid ++ back)) l) two (IsPermutation-append_left (mid ++ back) (free ++ front) (front ++ free) (IsPermutation-append_comm free front)))

moved_out : (free front mid back : List ℕ) → IsPermutation (front ++ ((free ++ mid) ++ back)) (free ++ (front ++ (mid ++ back)))
moved_out free front mid back =
    let one : (free ++ front) ++ (mid ++ back) ≡ free ++ (front ++ (mid ++ back)) = append_assoc free front (mid ++ back) in
    let two : (front ++ free) ++ (mid ++ back) ≡ front ++ ((free ++ mid) ++ back) = append_assoc front free (mid ++ back) ∙ ap (λ (l : List ℕ). front ++ l) (sym (append_assoc free mid back)) in
    subst (λ (l : List ℕ). IsPermutation (front ++ ((free ++ mid) ++ back)) l) one
    (subst (λ (l : List ℕ). IsPermutation l ((free ++ front) ++ (mid ++ back))) two (IsPermutation-append_left (mid ++ back) (front ++ free) (free ++ front) (IsPermutation-append_comm front free)))

around : (free now front mid come back : List ℕ) → IsPermutation (free ++ mid) (now ++ come) → IsPermutation (free ++ (front ++ (mid ++ back))) (now ++ (front ++ (come ++ back)))
around free now front mid come back same =
    IsPermutation-trans (free ++ (front ++ (mid ++ back))) (front ++ ((free ++ mid) ++ back)) (now ++ (front ++ (come ++ back))) (moved_in free front mid back)
    (IsPermutation-trans (front ++ ((free ++ mid) ++ back)) (front ++ ((now ++ come) ++ back)) (now ++ (front ++ (come ++ back)))
    (IsPermutation-append_right front ((free ++ mid) ++ back) ((now ++ come) ++ back) (IsPermutation-append_left back (free ++ mid) (now ++ come) same)) (moved_out now front come back))

-- they rise
above_swap : (at : ℤ) (front mid come back : List Place) → (AreAbove at mid → AreAbove at come) → AreAbove at (front ++ (mid ++ back)) → AreAbove at (front ++ (come ++ back))
above_swap at [] mid come back begins above = both come (begins (first mid above)) (last mid above)
  where
    first : (ps : List Place) → AreAbove at (ps ++ back) → AreAbove at ps
    first [] over = tt
    first (p ∷ ps) over = (over.0, first ps over.1)

    last : (ps : List Place) → AreAbove at (ps ++ back) → AreAbove at back
    last [] over = over
    last (p ∷ ps) over = last ps over.1

    both : (ps : List Place) → AreAbove at ps → AreAbove at back → AreAbove at (ps ++ back)
    both [] over rest = rest
    both (p ∷ ps) over rest = (over.0, both ps over.1 rest)
above_swap at (p ∷ front) mid come back begins above = (above.0, above_swap at front mid come back begins above.1)

rising_swap : (front mid come back : List Place) → ((at : ℤ) → AreAbove at mid → AreAbove at come) → IsRising (come ++ back) → IsRising (front ++ (mid ++ back)) → IsRising (front ++ (come ++ back))
rising_swap [] mid come back begins own rising = own
rising_swap (p ∷ front) mid come back begins own rising = (above_swap p.at front mid come back (begins p.at) rising.0, rising_swap front mid come back begins own rising.1)

all_first : (P : Place → Type 0) (front back : List Place) → All P (front ++ back) → All P front
all_first P front back all = subst (All P) (take_at front back (length front) refl) (All-take P (length front) (front ++ back) all)

all_last : (P : Place → Type 0) (front back : List Place) → All P (front ++ back) → All P back
all_last P front back all = subst (All P) (drop_at front back (length front) refl) (All-drop P (length front) (front ++ back) all)

-- what is kept of some of the places, among all
pub are_moved : (tells : Bool) (columns : List Column) (front goes come back : List Place) (v w : Contents) → IsRising (front ++ (goes ++ back)) → All (IsCounted columns) (front ++ (goes ++ back)) → AreKept tells columns goes come back v w
    → AreMoved columns (front ++ (goes ++ back)) (front ++ (come ++ back)) v w
are_moved tells columns front goes come back v w rising counts kept = record {
  pages =
      subst (λ (l : List ℕ). IsPermutation (v.free ++ l) (w.free ++ pages_of (front ++ (come ++ back)))) (sym (pages_all front goes back))
      (subst (λ (l : List ℕ). IsPermutation (v.free ++ (pages_of front ++ (pages_of goes ++ pages_of back))) (w.free ++ l)) (sym (pages_all front come back))
      (around v.free w.free (pages_of front) (pages_of goes) (pages_of come) (pages_of back) kept.pages));
  rising = rising_swap front goes come back kept.begins kept.rising rising;
  counts =
      All-append (IsCounted columns) front (come ++ back) (all_first (IsCounted columns) front (goes ++ back) counts)
      (All-append (IsCounted columns) come back kept.counts (all_last (IsCounted columns) goes back (all_last (IsCounted columns) front (goes ++ back) counts)));
}

-- the first of some pages
pages_first : (columns : List Column) (front back : List (List Element)) → ArePages columns (front ++ back) → ArePages columns front
pages_first columns [] back are = tt
pages_first columns (es ∷ front) back are = (are.0, before_first_of es (all_in front) (all_in back) (subst (AreBefore es) (all_in-append front back) are.1), pages_first columns front back are.2)
  where
    later_one : (z : ℤ) (xs zs : List Element) → AreLater z (xs ++ zs) → AreLater z xs
    later_one z [] zs later = tt
    later_one z (x ∷ xs) zs later = (later.0, later_one z xs zs later.1)

    before_first_of : (xs zs rest : List Element) → AreBefore xs (zs ++ rest) → AreBefore xs zs
    before_first_of [] zs rest before = tt
    before_first_of (x ∷ xs) zs rest before = (later_one x.0 zs rest before.0, before_first_of xs zs rest before.1)

-- a page alone has no more elements than there is room for
pub many_mid : (columns : List Column) (v : Contents) (places : List Place) (first stop : ℕ) (joins : Joins) (p : AreParts places first stop joins) (n m : ℕ) → ArePlaces columns v places
    → AreJoined (page_room columns) (last_count (take first places)) n m (first_count (drop stop places)) joins → n ≤ page_room columns → m ≤ page_room columns → n + m ≤ count_of p.mid → IsTrue joins.apart
    → (2 ≤ length p.mid) × (1 ≤ n) × (1 ≤ m)
many_mid columns v places first stop joins p n m are jo room1 room2 few apart =
    let full = jo.full apart in (long p.mid p.some few mid_counts, omega (arith, full, room2), omega (arith, full, room1))
  where
    mid_counts : All (IsCounted columns) p.mid
    mid_counts =
        let all = subst (All (IsCounted columns)) p.parts (are_counted columns v places are) in
        all_first (IsCounted columns) p.mid (p.behind ++ p.back) (all_last (IsCounted columns) p.before (p.mid ++ (p.behind ++ p.back)) (all_last (IsCounted columns) p.front (p.before ++ (p.mid ++ (p.behind ++ p.back))) all))

    long : (mid : List Place) → 1 ≤ length mid → n + m ≤ count_of mid → All (IsCounted columns) mid → 2 ≤ length mid
    long [] some less counts = absurd (omega (arith, some))
    long (q ∷ []) some less counts = absurd (let full = jo.full apart in let room = (All-head (IsCounted columns) q [] counts).room in omega (arith, full, room, less, count_parts [] q []))
    long (q ∷ r ∷ mid) some less counts = omega arith

number_of : (slot : ℕ) (columns : List Column) (pages : ℕ → List ℕ) (places : List Place) (chain : List (List Element)) → 1 ≤ length places → AreChained slot columns pages places chain → slot < 2 ^ 16
number_of slot columns pages [] chain some on = absurd (omega (arith, some))
number_of slot columns pages (p ∷ places) [] some on = absurd on
number_of slot columns pages (p ∷ places) (es ∷ chain) some on = on.0.bytes.number

part_mid : (places : List Place) (first stop : ℕ) (joins : Joins) (p : AreParts places first stop joins) → take (stop - first) (drop first places) ≡ p.mid
part_mid places first stop joins p =
    slice_mid places (p.front ++ p.before) p.mid (p.behind ++ p.back) first stop (p.parts ∙ sym (append_assoc p.front p.before (p.mid ++ (p.behind ++ p.back)))) (length-append p.front p.before ∙ p.first_is)
    (omega (arith, length-append p.front p.before, p.stop_is))

module _ (tells : Bool) (slot : ℕ) (columns : List Column) (from to : ℤ) (order : from ≤ℤ to) (places : List Place) (first stop : ℕ) (v : Contents) (rising : IsRising places) (n m removed : ℕ) (page behind : List ℕ) where
  -- nothing stands in the range
  pub none_removed : (u : Contents) (r : IsRange from to places first stop) → AreEndsOf tells slot columns from to (take (stop - first) (drop first places)) v n m page behind
      → (count_of (take (stop - first) (drop first places)) < 2 ^ 64 → removed + (n + m) ≡ count_of (take (stop - first) (drop first places))) → removed ≡ 0 → u.free ≡ v.free → (IsTrue tells → EqualPages v.page u.page)
      → HasNoneWithin tells slot columns from to 0 places v u
  none_removed u r ends exact zeroed free same = record {
    number = refl;
    none = λ told chain on is.
        let whole : AreChained slot columns v.page (r.front ++ (r.mid ++ r.back)) chain = subst (λ (ps : List Place). AreChained slot columns v.page ps chain) r.parts on in
        let c1 = part_in slot columns v.page r.front (r.mid ++ r.back) chain whole in
        let c2 = part_in slot columns v.page r.mid r.back c1.behind c1.back_on in
        let parts : chain ≡ c1.before ++ (c2.before ++ c2.behind) = c1.parts ∙ ap (λ (l : List (List Element)). c1.before ++ l) c2.parts in
        let chained : IsChain columns (c1.before ++ (c2.before ++ c2.behind)) = subst (IsChain columns) parts is in
        let same_mid : take (stop - first) (drop first places) ≡ r.mid = range_mid from to places first stop r in
        let mid_pages : ArePages columns c2.before = pages_first columns c2.before c2.behind (pages_from columns c1.before (c2.before ++ c2.behind) chained.pages) in
        let e = ends told c2.before (subst (λ (ps : List Place). AreChained slot columns v.page ps c2.before) (sym same_mid) c2.front_on) mid_pages in
        let fits : count_of (take (stop - first) (drop first places)) < 2 ^ 64 =
        omega (arith, counted slot columns v.page r.mid c2.before c2.front_on, ap count_of same_mid, few_elements columns (all_in c2.before) (pages_in_order columns c2.before mid_pages)) in
        let number : removed ≡ length (within_range from to (all_in (c1.before ++ (c2.before ++ c2.behind)))) =
        gone_count slot columns from to order r.front [] r.mid [] r.back v.page (subst IsRising r.parts rising) r.some (λ more. r.begins (omega (arith, more, length-append r.front []))) r.ends r.above
        c1.before [] c2.before [] c2.behind c1.front_on tt c2.front_on tt c2.back_on chained removed n m e.front.number e.back.number (exact fits ∙ ap count_of same_mid) in
        ap (λ (l : List (List Element)). within_range from to (all_in l)) parts ∙ none_of_length (within_range from to (all_in (c1.before ++ (c2.before ++ c2.behind)))) (sym number ∙ zeroed);
    same = record { free = free; pages = same };
  }

  module _ (u w : Contents) (joins : Joins) (rp : RangeParts from to places first stop joins) (are : ArePlaces columns v places) (jo : AreJoined (page_room columns) (last_count (take first places)) n m (first_count (drop stop places)) joins)
      (ends : AreEndsOf tells slot columns from to (take (stop - first) (drop first places)) v n m page behind)
      (exact : count_of (take (stop - first) (drop first places)) < 2 ^ 64 → removed + (n + m) ≡ count_of (take (stop - first) (drop first places))) (free : u.free ≡ v.free) (same : IsTrue tells → EqualPages v.page u.page)
      (room1 : n ≤ page_room columns) (room2 : m ≤ page_room columns) (few : n + m ≤ count_of (take (stop - first) (drop first places))) (moved : Moved)
      (index : (moved.index ≡ length rp.p.front) × (moved.gone ≡ length (gone places first stop joins rp.p)))
      (kept : AreKept tells columns (gone places first stop joins rp.p) (list_of moved.come) rp.p.back u w) (shape : HasShape joins.apart moved.come)
      (count : count_of (list_of moved.come) ≤ count_of rp.p.before + n + (m + count_of rp.p.behind))
      (put : IsTrue tells → slot < 2 ^ 16 → (cl cr : List (List Element)) (es fs : List Element) → AreChained slot columns u.page rp.p.before cl → AreChained slot columns u.page rp.p.behind cr → HasElements slot columns es n page → HasElements slot columns fs m behind
      → AreInOrder columns ((all_in cl ++ es) ++ (fs ++ all_in cr)) → CanBegin joins.apart (gone places first stop joins rp.p) rp.p.back (all_in cl ++ es) (fs ++ all_in cr) → AreChained slot columns w.page (list_of moved.come) (pieces moved.come (all_in cl ++ es) (fs ++ all_in cr)))
      (total : IsTrue tells → (cl cr : List (List Element)) (es fs : List Element) → AreChained slot columns u.page rp.p.before cl → AreChained slot columns u.page rp.p.behind cr → AreElements columns es → AreElements columns fs
      → HasElements slot columns es n page → HasElements slot columns fs m behind → length ((all_in cl ++ es) ++ (fs ++ all_in cr)) ≡ count_of (list_of moved.come)) where
    abbrev p : AreParts places first stop joins
    p = rp.p

    abbrev goes : List Place
    goes = gone places first stop joins p

    kept_all : AreKept tells columns goes (list_of moved.come) p.back v w
    kept_all = kept_since tells columns goes (list_of moved.come) p.back v u w free same kept

    new_places : moved_to moved places ≡ p.front ++ (list_of moved.come ++ p.back)
    new_places = moved_middle p.front goes (list_of moved.come) p.back moved places (gone_parts places first stop joins p) (sym index.0) (sym index.1) refl

    few_mid : n + m ≤ count_of p.mid
    few_mid = omega (arith, few, ap count_of (part_mid places first stop joins p))

    fewer : count_of (p.front ++ (list_of moved.come ++ p.back)) ≤ count_of places
    fewer =
        omega (
          arith,
          ap count_of (gone_parts places first stop joins p),
          count_both p.front (goes ++ p.back),
          count_both goes p.back,
          count_both p.before (p.mid ++ p.behind),
          count_both p.mid p.behind,
          count_both p.front (list_of moved.come ++ p.back),
          count_both (list_of moved.come) p.back,
          few_mid,
          count,
        )

    jo_parts : AreJoined (page_room columns) (last_count (p.front ++ p.before)) n m (first_count (p.behind ++ p.back)) joins
    jo_parts =
        subst (λ (l : List Place). AreJoined (page_room columns) (last_count l) n m (first_count (p.behind ++ p.back)) joins) (front_taken places first stop joins p)
        (subst (λ (l : List Place). AreJoined (page_room columns) (last_count (take first places)) n m (first_count l) joins) (back_dropped places first stop joins p) jo)

    -- in a told chain of these parts
    module _ (told : IsTrue tells) (cF cL cM cR cK : List (List Element)) (onF : AreChained slot columns v.page p.front cF) (onL : AreChained slot columns v.page p.before cL) (onM : AreChained slot columns v.page p.mid cM)
        (onR : AreChained slot columns v.page p.behind cR) (onK : AreChained slot columns v.page p.back cK) (is : IsChain columns (cF ++ (cL ++ (cM ++ (cR ++ cK))))) where
      mid_pages : ArePages columns cM
      mid_pages = pages_first columns cM (cR ++ cK) (pages_from columns cL (cM ++ (cR ++ cK)) (pages_from columns cF (cL ++ (cM ++ (cR ++ cK))) is.pages))

      mid_order : AreInOrder columns (all_in cM)
      mid_order = pages_in_order columns cM mid_pages

      abbrev front_end : List Element
      front_end = earlier from (all_in cM)

      abbrev back_end : List Element
      back_end = later to (all_in cM)

      are_ends : AreEnds slot columns from to (all_in cM) n m page behind
      are_ends = ends told cM (subst (λ (ps : List Place). AreChained slot columns v.page ps cM) (sym (part_mid places first stop joins p)) onM) mid_pages

      rising_parts : IsRising (p.front ++ (p.before ++ (p.mid ++ (p.behind ++ p.back))))
      rising_parts = subst IsRising p.parts rising

      since_before : AreChained slot columns u.page p.before cL
      since_before = chained_since slot columns v.page u.page p.before cL (same told) onL

      since_behind : AreChained slot columns u.page p.behind cR
      since_behind = chained_since slot columns v.page u.page p.behind cR (same told) onR

      one_before : length p.before ≤ 1
      one_before = let one = jo.one_before in omega (arith, one, p.before_is)

      can : CanBegin joins.apart goes p.back (all_in cL ++ front_end) (back_end ++ all_in cR)
      can =
          begin_any slot columns from to order p.front p.before p.mid p.behind p.back v.page rising_parts p.some rp.begins rp.ends rp.above cF cL cM cR cK onF onL onM onR onK is joins.apart one_before
          (λ apart. let many = many_mid columns v places first stop joins p n m are jo room1 room2 few_mid apart in let least = many.1 in (many.0, omega (arith, least, are_ends.front.number)))

      both_order : AreInOrder columns ((all_in cL ++ front_end) ++ (back_end ++ all_in cR))
      both_order = order_both slot columns from to order p.front p.before p.mid p.behind p.back v.page rising_parts p.some rp.begins rp.ends rp.above cF cL cM cR cK onF onL onM onR onK is

      here : AreChained slot columns w.page (list_of moved.come) (pieces moved.come (all_in cL ++ front_end) (back_end ++ all_in cR))
      here = put told (number_of slot columns v.page p.mid cM p.some onM) cL cR front_end back_end since_before since_behind are_ends.front are_ends.back both_order can

      all_here : length ((all_in cL ++ front_end) ++ (back_end ++ all_in cR)) ≡ count_of (list_of moved.come)
      all_here =
          total told cL cR front_end back_end since_before since_behind (filter_in_order (λ (e : Element). int_lt e.0 from) columns (all_in cM) mid_order).each (filter_in_order (λ (e : Element). int_lt to e.0) columns (all_in cM) mid_order).each
          are_ends.front are_ends.back

      abbrev whole : List Element
      whole = all_in (cF ++ (cL ++ (cM ++ (cR ++ cK))))

      pairs : AllPairs (λ a b. a ≢ b) (pages_of (p.front ++ (goes ++ p.back)))
      pairs = subst (λ (ps : List Place). AllPairs (λ a b. a ≢ b) (pages_of ps)) (gone_parts places first stop joins p) are.different

      written : AreWritten slot columns (without_range from to whole) places (p.front ++ (list_of moved.come ++ p.back)) v w
      written = record {
        chain = cF ++ (pieces moved.come (all_in cL ++ front_end) (back_end ++ all_in cR) ++ cK);
        is =
            is_new slot columns from to order p.front p.before p.mid p.behind p.back v.page rising_parts p.some rp.begins rp.ends rp.above cF cL cM cR cK onF onL onM onR onK is joins n m jo_parts p.before_is p.behind_is
            are_ends.front.number are_ends.back.number w.page moved.come shape here all_here;
        all =
            made slot columns from to order p.front p.before p.mid p.behind p.back v.page rising_parts p.some rp.begins rp.ends rp.above cF cL cM cR cK onF onL onM onR onK is joins n m jo_parts p.before_is p.behind_is
            are_ends.front.number are_ends.back.number w.page moved.come shape here all_here;
        on =
            on_new slot columns from to order p.front p.before p.mid p.behind p.back v.page rising_parts p.some rp.begins rp.ends rp.above cF cL cM cR cK onF onL onM onR onK is joins n m jo_parts p.before_is p.behind_is
            are_ends.front.number are_ends.back.number w.page moved.come shape here all_here
            (stays_front slot columns v.page w.page goes (kept_all.others told) p.front p.back cF pairs onF) (stays_back slot columns v.page w.page goes (kept_all.others told) p.front p.back cK pairs onK);
        others = λ number not free. kept_all.others told number
            (λ has. not (subst (λ (ps : List Place). Contains (pages_of ps) number) (sym (gone_parts places first stop joins p)) (contains_mid p.front goes p.back number has)));
      }

      fits : count_of (take (stop - first) (drop first places)) < 2 ^ 64
      fits = omega (arith, counted slot columns v.page p.mid cM onM, ap count_of (part_mid places first stop joins p), few_elements columns (all_in cM) mid_order)

      counted_gone : removed ≡ length (within_range from to whole)
      counted_gone =
          gone_count slot columns from to order p.front p.before p.mid p.behind p.back v.page rising_parts p.some rp.begins rp.ends rp.above cF cL cM cR cK onF onL onM onR onK is removed n m are_ends.front.number are_ends.back.number
          (exact fits ∙ ap count_of (part_mid places first stop joins p))

    -- a told chain in its parts
    told_chain : (P : List Element → Type 0) (told : IsTrue tells) (chain : List (List Element)) → AreChained slot columns v.page places chain → IsChain columns chain
        → ((cF cL cM cR cK : List (List Element)) → AreChained slot columns v.page p.front cF → AreChained slot columns v.page p.before cL → AreChained slot columns v.page p.mid cM → AreChained slot columns v.page p.behind cR → AreChained slot columns v.page p.back cK
        → IsChain columns (cF ++ (cL ++ (cM ++ (cR ++ cK)))) → P (all_in (cF ++ (cL ++ (cM ++ (cR ++ cK)))))) → P (all_in chain)
    told_chain P told chain on is give =
        let all_on : AreChained slot columns v.page (p.front ++ (p.before ++ (p.mid ++ (p.behind ++ p.back)))) chain = subst (λ (ps : List Place). AreChained slot columns v.page ps chain) p.parts on in
        let c1 = part_in slot columns v.page p.front (p.before ++ (p.mid ++ (p.behind ++ p.back))) chain all_on in
        let c2 = part_in slot columns v.page p.before (p.mid ++ (p.behind ++ p.back)) c1.behind c1.back_on in
        let c3 = part_in slot columns v.page p.mid (p.behind ++ p.back) c2.behind c2.back_on in
        let c4 = part_in slot columns v.page p.behind p.back c3.behind c3.back_on in
        let parts : chain ≡ c1.before ++ (c2.before ++ (c3.before ++ (c4.before ++ c4.behind))) =
        c1.parts ∙ ap (λ (l : List (List Element)). c1.before ++ l) (c2.parts ∙ ap (λ (l : List (List Element)). c2.before ++ l) (c3.parts ∙ ap (λ (l : List (List Element)). c3.before ++ l) c4.parts)) in
        subst (λ (l : List (List Element)). P (all_in l)) (sym parts)
        (give c1.before c2.before c3.before c4.before c4.behind c1.front_on c2.front_on c3.front_on c4.front_on c4.back_on (subst (IsChain columns) parts is))

    pub cleared : AreCleared tells slot columns from to removed places (moved_to moved places) v w
    cleared = subst (λ (ps : List Place). AreCleared tells slot columns from to removed places ps v w) (sym new_places) (record {
      places =
          subst (λ (ps : List Place). AreMoved columns ps (p.front ++ (list_of moved.come ++ p.back)) v w) (sym (gone_parts places first stop joins p))
          (are_moved tells columns p.front goes (list_of moved.come) p.back v w (subst IsRising (gone_parts places first stop joins p) rising)
          (subst (All (IsCounted columns)) (gone_parts places first stop joins p) (are_counted columns v places are)) kept_all);
      count = fewer;
      number = λ told chain on is. told_chain (λ (es : List Element). removed ≡ length (within_range from to es)) told chain on is
          (λ cF cL cM cR cK onF onL onM onR onK whole_is. counted_gone told cF cL cM cR cK onF onL onM onR onK whole_is);
      left = λ told chain on is. told_chain (λ (es : List Element). AreWritten slot columns (without_range from to es) places (p.front ++ (list_of moved.come ++ p.back)) v w) told chain on is
          (λ cF cL cM cR cK onF onL onM onR onK whole_is. written told cF cL cM cR cK onF onL onM onR onK whole_is);
    })

pub joined_at : (r q b c n m h i : ℕ) (joins : Joins) → r ≡ q → b ≡ c → h ≡ i → AreJoined r b n m h joins → AreJoined q c n m i joins
joined_at r q b c n m h i joins room before behind jo =
    subst (λ (x : ℕ). AreJoined x c n m i joins) room (subst (λ (x : ℕ). AreJoined r x n m i joins) before (subst (λ (x : ℕ). AreJoined r b n m x joins) behind jo))

pub many_slice : (columns : List Column) (v : Contents) (places : List Place) (first stop : ℕ) (joins : Joins) (p : AreParts places first stop joins) (n m : ℕ) → ArePlaces columns v places
    → AreJoined (page_room columns) (last_count (take first places)) n m (first_count (drop stop places)) joins → n ≤ page_room columns → m ≤ page_room columns → n + m ≤ count_of (take (stop - first) (drop first places)) → IsTrue joins.apart
    → (2 ≤ length p.mid) × (1 ≤ n) × (1 ≤ m)
many_slice columns v places first stop joins p n m are jo room1 room2 few apart =
    many_mid columns v places first stop joins p n m are jo room1 room2 (omega (arith, few, ap count_of (part_mid places first stop joins p))) apart

-- nothing stands from a later stamp to an earlier one, nor before all places
none_within : (from to : ℤ) → to <ℤ from → (es : List Element) → within_range from to es ≡ []
none_within from to under [] = refl
none_within from to under (e ∷ es) = by_lt_z e.0 from
    (λ low. let one : within_range from to (e ∷ es) ≡ within_range from to es = rw (int_lt_yes e.0 from low) refl in one ∙ none_within from to under es)
    (λ high. let one : within_range from to (e ∷ es) ≡ within_range from to es = rw (int_lt_no e.0 from high, int_lt_yes to e.0 (omega (arith, ints, under, high))) refl in one ∙ none_within from to under es)

none_later : (from to : ℤ) (es : List Element) → from ≤ℤ to → AreLater to es → within_range from to es ≡ []
none_later from to [] order later = refl
none_later from to (e ∷ es) order later =
    let first = later.0 in
    let one : within_range from to (e ∷ es) ≡ within_range from to es = rw (int_lt_no e.0 from (omega (arith, ints, first, order)), int_lt_yes to e.0 first) refl in
    one ∙ none_later from to es order later.1

pub none_turned : (tells : Bool) (slot : ℕ) (columns : List Column) (from to : ℤ) (places : List Place) (v : Contents) → to <ℤ from → HasNoneWithin tells slot columns from to 0 places v v
none_turned tells slot columns from to places v under = record {
  number = refl;
  none = λ told chain on is. none_within from to under (all_in chain);
  same = record { free = refl; pages = λ told n. refl };
}

pub none_before : (tells : Bool) (slot : ℕ) (columns : List Column) (from to : ℤ) (places : List Place) (v : Contents) → from ≤ℤ to → AreAbove to places → HasNoneWithin tells slot columns from to 0 places v v
none_before tells slot columns from to places v order above = record {
  number = refl;
  none = λ told chain on is. none_later from to (all_in chain) order (chain_later slot columns v.page to places chain on above);
  same = record { free = refl; pages = λ told n. refl };
}
