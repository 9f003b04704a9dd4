-- The elements of a series place by place: each page has its own, they stand at stamps, and together they are all.
use Rattle.std.proofs.Common.{◌≡◌, ℕ, zero, suc, ◌+◌, take, drop, ◌<◌, ◌≤◌, ℤ, negsuc, pos, Bool, true, false, not, ◌&&◌, cond, Some, IsSome, Result, Ok, Err, List, [], ◌∷◌, ◌++◌, length, get_or, refl, sym, ap, subst, ◌∙◌, arith, append-nil}
use Rattle.std.specs.Prelude.{All, int_lt}
use Rattle.std.specs.List.{flat_map}
use Rattle.std.proofs.lemmas.List.{take-append-drop, take_all}
use Rattle.std.proofs.lemmas.List.Concat.{flat_map-append}
use Rattle.std.proofs.lemmas.List.Elements.{All-head, All-tail, All-filter, filter_map-append}
use Rattle.std.proofs.lemmas.Option.{slice_get_within, slice_get-get_or, get_or_from_slice_get}
use Rattle.ts_base.specs.Moment.{IsStamp}
use Rattle.ts_calendar.specs.Calendars.{IsLaid}
use Rattle.ts_calendar.proofs.StampLemmas.{int_lt_no}
use Rattle.ts_offset.specs.Grid.{on_starts, GridPlan, stamp_of, starts_of}
use Rattle.ts_offset.specs.declared.shape.Shape.{Shape}
use Rattle.ts_offset.specs.declared.shape.Shape.TheVariants.{Irregular, Regular}
use Rattle.ts_offset.proofs.ListedLemmas.{start-listed}
use Rattle.ts_offset.proofs.StartLemmas.{on-line}
use Rattle.ts_row.specs.declared.kind.Column.{Column}
use Rattle.ts_row.specs.Row.{Element}
use Rattle.ts_space.specs.declared.place.Place.{Place}
use Rattle.ts_cells.specs.IrregularPage.{AreElements}
use Rattle.ts_sheets.specs.Stamped.{all_in, is_within, within_range, stamped, stamped_one, HaveStarts}
use Rattle.ts_sheets.specs.Places.{AreChained}
use Rattle.ts_regular.specs.RegularPage.{OffsetElement, elements_from}
use Rattle.ts_regular.specs.Places.{OffsetPage, AreOn, all_in as all_at}
use Rattle.ts_layout.proofs.CallerLemmas.{all_front, all_back}
use Rattle.ts_shelf.proofs.StartLemmas.{start_of, stamped_cons}
use Rattle.ts_page.specs.declared.page.Page.{Page}
use Rattle.ts_clip.specs.Series.{ArePagesOf, HaveElements, HaveOnPlaces}
use Rattle.ts_offset.specs.Shape.{IsLaidOut}
use Rattle.ts_dump.specs.declared.grouping.Grouping.{Grouping}
use Rattle.ts_dump.specs.Placed.{ArePut, SaysTexts}
use Rattle.ts_dump.specs.Elements.{texts_of_elements, texts_both, TextsPut}
use Rattle.ts_disk.specs.Device.{Device}
use Rattle.ts_journal.specs.Journal.{pages as volume_pages}
use Rattle.ts_dump.specs.declared.ended.Fault.{Fault}
use Rattle.ts_dump.specs.Held.{HaveParts}
use Rattle.ts_dump.proofs.SayingLemmas.{texts_then, texts_stop, texts_same}

-- the least and the greatest stamp
abbrev pub least : ℤ
least = negsuc 6_213_559_679_999_999

abbrev pub greatest : ℤ
greatest = pos 25_340_230_079_999_999

-- each stands at a stamp
abbrev AreAtStamps : List Element → Type 0
AreAtStamps [] = Unit {0}
AreAtStamps (e ∷ es) = IsStamp e.0 × AreAtStamps es

is_between : (e : Element) → IsStamp e.0 → is_within least greatest e ≡ true
is_between e stamp = both (int_lt e.0 least) (int_lt greatest e.0) (int_lt_no e.0 least stamp.0) (int_lt_no greatest e.0 stamp.1) where
  both : (a b : Bool) → a ≡ false → b ≡ false → (not a && not b) ≡ true
  both false false first second = refl
  both true b first second = absurd (cc)
  both false true first second = absurd (cc)

all_within : (es : List Element) → AreAtStamps es → within_range least greatest es ≡ es
all_within [] stamps = refl
all_within (e ∷ es) stamps =
    ap (λ (b : Bool). cond b (e ∷ within_range least greatest es) (within_range least greatest es)) (is_between e stamps.0)
    ∙ ap (λ (l : List Element). e ∷ l) (all_within es stamps.1)

-- of an irregular page
at_stamps : (columns : List Column) (es : List Element) → AreElements columns es → AreAtStamps es
at_stamps columns [] are = tt
at_stamps columns (e ∷ es) are = (are.0.stamp, at_stamps columns es are.1)

-- an on start of a grid is a stamp
start_is_stamp : (grid : GridPlan) → IsLaid grid.calendar → (n : ℕ) (s : ℤ) → stamp_of grid n ≡ Some s → IsStamp s
start_is_stamp grid laid n s is =
    let xs = on_starts grid.calendar in
    let all : All IsStamp xs = λ k d within.
    let on = start-listed grid.calendar (get_or xs k d) k (slice_get-get_or xs k d within) in
    (on-line grid.calendar on.interval (get_or xs k d) laid on.start).1 in
    let kept : All IsStamp (starts_of grid) = All-filter (λ x. not (int_lt x grid.origin)) IsStamp xs all in
    subst IsStamp (get_or_from_slice_get (starts_of grid) n s s is) (kept n s (slice_get_within (starts_of grid) n s is))

stamped_at : (grid : GridPlan) → IsLaid grid.calendar → (es : List OffsetElement) → HaveStarts grid es → AreAtStamps (stamped grid es)
stamped_at grid laid [] starts = tt
stamped_at grid laid (e ∷ es) starts =
    let t = start_of (stamp_of grid e.0) (All-head (λ x. IsSome (stamp_of grid x.0)) e es starts) in
    let rest = stamped_at grid laid es (All-tail (λ x. IsSome (stamp_of grid x.0)) e es starts) in
    subst AreAtStamps (sym (stamped_cons grid e es t.0 t.1)) (start_is_stamp grid laid e.0 t.0 t.1, rest)

-- the elements of a page are all within the stamps
pub page_within : (shape : Shape) → IsLaidOut shape → (slot : ℕ) (columns : List Column) (pages : ℕ → List ℕ) (place : Place) (es : List Element)
    → HaveOnPlaces shape slot columns pages (place ∷ []) es → within_range least greatest es ≡ es
page_within Irregular laid slot columns pages place es have = chained have.0 have.1 have.2 where
  chained : (chain : List (List Element)) → AreChained slot columns pages (place ∷ []) chain → all_in chain ≡ es → within_range least greatest es ≡ es
  chained [] on all = absurd on
  chained (fs ∷ []) on all =
      let same : es ≡ fs = sym all ∙ append-nil fs in
      all_within es (subst AreAtStamps (sym same) (at_stamps columns fs on.0.bytes.fill.elements.each))
  chained (fs ∷ gs ∷ chain) on all = absurd on.1
page_within (Regular grid) laid slot columns pages place es have =
    all_within es (subst AreAtStamps have.3 (stamped_at grid laid (all_at have.0) have.2))

-- what was taken of a page that was read, over all stamps, is the texts of its elements
module _ (shape : Shape) (laid : IsLaidOut shape) (slot : ℕ) (columns : List Column) (key : List ℕ) (pages : ℕ → List ℕ) (place : Place) (page : Page)
    (read : page.bytes ≡ pages place.page) (places : List Place) (one : places ≡ place ∷ []) (all : List Page) (alone : all ≡ page ∷ [])
    (g : Grouping) (own before : List ℕ) (start : Grouping) (same : List ℕ) (h : Grouping) (said piece : List ℕ) (from to : ℤ)
    (none : before ≡ []) (its : own ≡ key) (begins : start ≡ g) (first : from ≡ least) (ends : to ≡ greatest) (is : piece ≡ said)
    (took : (es : List Element) → ArePagesOf pages places all → HaveOnPlaces shape slot columns pages places es
    → TextsPut columns own start before (within_range from to es) same h said) where
  page_taken : (es : List Element) → HaveOnPlaces shape slot columns pages (place ∷ []) es → TextsPut columns own start before (within_range from to es) same h said
  page_taken es have =
      let are : ArePagesOf pages places all =
      subst (λ (ps : List Place). ArePagesOf pages ps all) (sym one) (subst (λ (qs : List Page). ArePagesOf pages (place ∷ []) qs) (sym alone) (read, tt)) in
      let on = subst (λ (ps : List Place). HaveOnPlaces shape slot columns pages ps es) (sym one) have in
      took es are on

  pub page_key : (es : List Element) → HaveOnPlaces shape slot columns pages (place ∷ []) es → same ≡ key
  page_key es have = (page_taken es have).one_key ∙ its

  pub page_texts : (es : List Element) → HaveOnPlaces shape slot columns pages (place ∷ []) es → ArePut g (texts_of_elements key columns es) h [] piece
  page_texts es have =
      let put = (page_taken es have).put in
      let within : within_range from to es ≡ es = (λ i. within_range (first i) (ends i) es) ∙ page_within shape laid slot columns pages place es have in
      subst (λ (bytes : List ℕ). ArePut g (texts_of_elements key columns es) h [] bytes) (sym is)
      (subst (λ (old : List ℕ). ArePut g (texts_of_elements key columns es) h old said) none
      (subst (λ (x : Grouping). ArePut x (texts_of_elements key columns es) h before said) begins
      (subst (λ (texts : List (List ℕ)). ArePut start texts h before said) (λ i. texts_of_elements (its i) columns (within i)) put)))

-- the pages of a series place by place
pub record Parts (shape : Shape) (slot : ℕ) (key : List ℕ) (columns : List Column) (pages : ℕ → List ℕ) (places : List Place) (es : List Element) : Type 0 where
  pub parts : List (List Element)
  pub have : HaveParts shape slot columns pages places parts
  pub texts : flat_map (texts_of_elements key columns) parts ≡ texts_of_elements key columns es

module _ (slot : ℕ) (key : List ℕ) (columns : List Column) (pages : ℕ → List ℕ) where
  chain_parts : (places : List Place) (chain : List (List Element)) → AreChained slot columns pages places chain → Parts Irregular slot key columns pages places (all_in chain)
  chain_parts [] [] on = record { parts = []; have = tt; texts = refl }
  chain_parts [] (es ∷ chain) on = absurd on
  chain_parts (place ∷ places) [] on = absurd on
  chain_parts (place ∷ places) (es ∷ chain) on =
      let rest = chain_parts places chain on.1 in
      record {
        parts = es ∷ rest.parts;
        have = ((es ∷ [], (on.0, tt), append-nil es), rest.have);
        texts = ap (λ (l : List (List ℕ)). texts_of_elements key columns es ++ l) rest.texts ∙ texts_both key columns es (all_in chain);
      }

  grid_parts : (grid : GridPlan) (places : List Place) (cells : List OffsetPage) → AreOn slot columns pages places cells → HaveStarts grid (all_at cells)
      → Parts (Regular grid) slot key columns pages places (stamped grid (all_at cells))
  grid_parts grid [] [] on starts = record { parts = []; have = tt; texts = refl }
  grid_parts grid [] (p ∷ cells) on starts = absurd on
  grid_parts grid (place ∷ places) [] on starts = absurd on
  grid_parts grid (place ∷ places) (p ∷ cells) on starts =
      let own = elements_from p.0 p.1 in
      let P : OffsetElement → Type 0 = λ e. IsSome (stamp_of grid e.0) in
      let first : HaveStarts grid own = all_front P own (all_at cells) starts in
      let rest = grid_parts grid places cells on.1 (all_back P own (all_at cells) starts) in
      let alone : own ++ [] ≡ own = append-nil own in
      record {
        parts = stamped grid own ∷ rest.parts;
        have = ((p ∷ [], (on.0, tt), subst (HaveStarts grid) (sym alone) first, ap (stamped grid) alone), rest.have);
        texts = ap (λ (l : List (List ℕ)). texts_of_elements key columns (stamped grid own) ++ l) rest.texts
            ∙ texts_both key columns (stamped grid own) (stamped grid (all_at cells))
            ∙ ap (texts_of_elements key columns) (sym (filter_map-append (stamped_one grid) own (all_at cells)));
      }

  pub parts_of : (shape : Shape) (places : List Place) (es : List Element) → HaveElements shape slot columns pages places es → Parts shape slot key columns pages places es
  parts_of Irregular places es have = subst (λ (l : List Element). Parts Irregular slot key columns pages places l) have.all (chain_parts places have.chain have.on)
  parts_of (Regular grid) places es have =
      subst (λ (l : List Element). Parts (Regular grid) slot key columns pages places l) have.all (grid_parts grid places have.cells have.on have.starts)

-- the part of the place at an index, with the others
pub record PartAt (shape : Shape) (slot : ℕ) (columns : List Column) (pages : ℕ → List ℕ) (place : Place) (parts : List (List Element)) (i : ℕ) : Type 0 where
  pub es : List Element
  pub have : HaveOnPlaces shape slot columns pages (place ∷ []) es
  pub more : take (suc i) parts ≡ take i parts ++ es ∷ []

pub part_at : (shape : Shape) (slot : ℕ) (columns : List Column) (pages : ℕ → List ℕ) (places : List Place) (parts : List (List Element)) (i : ℕ) (d : Place)
    → HaveParts shape slot columns pages places parts → i < length places → PartAt shape slot columns pages (get_or places i d) parts i
part_at shape slot columns pages [] parts i d have within = absurd (omega (arith, within))
part_at shape slot columns pages (place ∷ places) [] i d have within = absurd have
part_at shape slot columns pages (place ∷ places) (es ∷ parts) zero d have within = record { es = es; have = have.0; more = refl }
part_at shape slot columns pages (place ∷ places) (es ∷ parts) (suc i) d have within =
    let rest = part_at shape slot columns pages places parts i d have.1 (omega (arith, within)) in
    record { es = rest.es; have = rest.have; more = ap (λ (l : List (List Element)). es ∷ l) rest.more }

-- there are as many
pub as_many : (shape : Shape) (slot : ℕ) (columns : List Column) (pages : ℕ → List ℕ) (places : List Place) (parts : List (List Element))
    → HaveParts shape slot columns pages places parts → length parts ≡ length places
as_many shape slot columns pages [] [] have = refl
as_many shape slot columns pages [] (es ∷ parts) have = absurd have
as_many shape slot columns pages (place ∷ places) [] have = absurd have
as_many shape slot columns pages (place ∷ places) (es ∷ parts) have =
    let rest = as_many shape slot columns pages places parts have.1 in
    omega (arith, rest)

-- texts of parts so far and of the next one
pub texts_more : (key : List ℕ) (columns : List Column) (parts : List (List Element)) (i : ℕ) (es : List Element) → take (suc i) parts ≡ take i parts ++ es ∷ []
    → flat_map (texts_of_elements key columns) (take i parts) ++ texts_of_elements key columns es ≡ flat_map (texts_of_elements key columns) (take (i + 1) parts)
texts_more key columns parts i es more =
    let f = texts_of_elements key columns in
    ap (λ (l : List (List ℕ)). flat_map f (take i parts) ++ l) (sym (append-nil (f es)))
    ∙ sym (flat_map-append f (take i parts) (es ∷ []))
    ∙ ap (flat_map f) (sym more)
    ∙ ap (λ (n : ℕ). flat_map f (take n parts)) (let next : suc i ≡ i + 1 = omega arith in next)

-- and of all
pub texts_rest : (key : List ℕ) (columns : List Column) (parts : List (List Element)) (n : ℕ)
    → flat_map (texts_of_elements key columns) (take n parts) ++ flat_map (texts_of_elements key columns) (drop n parts) ≡ flat_map (texts_of_elements key columns) parts
texts_rest key columns parts n =
    sym (flat_map-append (texts_of_elements key columns) (take n parts) (drop n parts)) ∙ ap (flat_map (texts_of_elements key columns)) (take-append-drop n parts)

-- the parts so far were said, and then the next one, or a front of it
module _ (shape : Shape) (slot : ℕ) (columns : List Column) (key : List ℕ) (v : Device) (items : List Place) (parts : List (List Element))
    (have : HaveParts shape slot columns (volume_pages v.held) items parts) (i : ℕ) (g : Grouping) where
  pub parts_next : (h k : Grouping) (x w : Device) (d : Place) (r : Result Unit Fault) (Q : Type 0) → x.held ≡ v.held → i < length items
      → SaysTexts g (flat_map (texts_of_elements key columns) (take i parts)) h (Ok tt) v x
      → ((es : List Element) → HaveOnPlaces shape slot columns (volume_pages x.held) (get_or items i d ∷ []) es → SaysTexts h (texts_of_elements key columns es) k r x w × Q)
      → SaysTexts g (flat_map (texts_of_elements key columns) (take (i + 1) parts)) k r v w × Q
  parts_next h k x w d r Q held within said says =
      let p = part_at shape slot columns (volume_pages v.held) items parts i d have within in
      let last = says p.es (subst (λ (bytes : List ℕ). HaveOnPlaces shape slot columns (volume_pages bytes) (get_or items i d ∷ []) p.es) (sym held) p.have) in (
        texts_same g k (flat_map (texts_of_elements key columns) (take i parts) ++ texts_of_elements key columns p.es)
            (flat_map (texts_of_elements key columns) (take (i + 1) parts)) r v w (texts_more key columns parts i p.es p.more)
            (texts_then g h k (flat_map (texts_of_elements key columns) (take i parts)) (texts_of_elements key columns p.es) r v x w said last.0),
        last.1,
      )

  pub parts_cut : (h k : Grouping) (w : Device) (e : Fault) → SaysTexts g (flat_map (texts_of_elements key columns) (take (i + 1) parts)) h (Err e) v w
      → SaysTexts g (flat_map (texts_of_elements key columns) parts) k (Err e) v w
  parts_cut h k w e said =
      texts_same g k (flat_map (texts_of_elements key columns) (take (i + 1) parts) ++ flat_map (texts_of_elements key columns) (drop (i + 1) parts))
      (flat_map (texts_of_elements key columns) parts) (Err e) v w (texts_rest key columns parts (i + 1))
      (texts_stop g h k (flat_map (texts_of_elements key columns) (take (i + 1) parts)) (flat_map (texts_of_elements key columns) (drop (i + 1) parts)) e v w said)

  pub parts_end : (h : Grouping) (x : Device) → length items ≤ i → SaysTexts g (flat_map (texts_of_elements key columns) (take i parts)) h (Ok tt) v x
      → SaysTexts g (flat_map (texts_of_elements key columns) parts) h (Ok tt) v x
  parts_end h x past said =
      let same = as_many shape slot columns (volume_pages v.held) items parts have in
      texts_same g h (flat_map (texts_of_elements key columns) (take i parts)) (flat_map (texts_of_elements key columns) parts) (Ok tt) v x
      (ap (flat_map (texts_of_elements key columns)) (take_all i parts (omega (arith, same, past)))) said
