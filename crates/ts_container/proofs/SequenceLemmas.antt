-- The pages of one series are in sequence where their spans are apart and, if it is irregular, dense, and only there.
use Rattle.std.specs.Prelude.{All, AllPairs}
use Rattle.std.proofs.Common.{◌≡◌, ℕ, suc, ◌+◌, ◌<◌, Some, List, [], ◌∷◌, ◌++◌, map, refl, sym, subst, arith, ℤ, ◌<ℤ◌, ◌≤ℤ◌}
use Rattle.std.proofs.lemmas.Int.{ints}
use Rattle.std.proofs.lemmas.List.Elements.{All-cons, All-nil}
use Rattle.std.proofs.lemmas.List.Kept.{AllPairs-cons}
use Rattle.ts_row.specs.declared.kind.Column.{Column}
use Rattle.ts_cells.specs.IrregularPage.{Element, page_room, AreElements, AreRising, last_stamp}
use Rattle.ts_sheets.specs.Stamped.{all_in, AreLater, AreBefore, ArePages, AreSized, IsDense, IsChain}
use Rattle.ts_sheets.proofs.OrderLemmas.{later_than, later_of, later_back, rising_both, elements_both, pages_made}
use Rattle.ts_offset.specs.Grid.{GridPlan}
use Rattle.ts_offset.specs.declared.shape.Shape.{Shape}
use Rattle.ts_offset.specs.declared.shape.Shape.TheVariants.{Irregular, Regular}
use Rattle.ts_layout.specs.Sheets.{BeginInOrder, AreInSequence}
use Rattle.ts_container.specs.declared.span.Span.{Span}
use Rattle.ts_container.proofs.SpanLemmas.{Neighbours}
use Rattle.ts_container.proofs.SeenLemmas.{Seen, span, sheet, elements, lists_seen, IsSpanned, IsEnded, ended, first_low, spans_end}

-- where the last stamp of a page comes before the first one of the next
before_all : (es : List Element) (last : ℤ) (fs : List Element) → AreRising es → last_stamp es ≡ Some last → AreLater last fs → AreBefore es fs
before_all [] last fs rising is later = tt
before_all (e ∷ []) last fs rising is later = let same : last ≡ e.0 = cc in (subst (λ (z : ℤ). AreLater z fs) same later, tt)
before_all (e ∷ f ∷ es) last fs rising is later =
    let next = rising.0 in
    let low = first_low f es last rising.1 is in
    (later_than e.0 last fs (omega (arith, ints, next, low)) later, before_all (f ∷ es) last fs rising.1 is later)

later_all : (columns : List Column) (at : ℤ) (es fs : List Element) (first last : ℤ) → IsEnded columns es first last → at <ℤ first → AreRising (es ++ fs) → AreLater at (es ++ fs)
later_all columns at [] fs first last is below rising = absurd (let none = is.fill.some in omega (arith, none))
later_all columns at (e ∷ es) fs first last is below rising =
    let begins = is.begins in
    let same : first ≡ e.0 = cc in
    let next : at <ℤ e.0 = subst (λ (z : ℤ). at <ℤ z) same below in
    (next, later_than at e.0 (es ++ fs) (let z : at ≤ℤ e.0 = omega (arith, ints, next) in z) (later_of e (es ++ fs) rising))

-- one page ends before another begins
abbrev pub EndsBefore : Seen → Seen → Type 0
EndsBefore p q = p.0.last <ℤ q.0.first

-- two pages together have more elements than this
abbrev pub HaveMore : ℕ → Seen → Seen → Type 0
HaveMore room p q = room < p.0.count + q.0.count

all_tail : {X : Type 0} (P : X → Type 0) (x : X) (xs : List X) → All P (x ∷ xs) → All P xs
all_tail P x xs all k d within = all (suc k) d (omega (arith, within))

sized : (columns : List Column) (ps : List Seen) → All (IsSpanned Irregular columns) ps → AreSized (page_room columns) (map elements ps)
sized columns [] all = tt
sized columns (p ∷ ps) all = let fill = (all 0 p (omega arith)).fill.0 in (fill.some, fill.room, sized columns ps (all_tail (IsSpanned Irregular columns) p ps all))

elements_all : (columns : List Column) (ps : List Seen) → All (IsSpanned Irregular columns) ps → AreElements columns (all_in (map elements ps))
elements_all columns [] all = tt
elements_all columns (p ∷ ps) all = elements_both columns p.1.1 (all_in (map elements ps)) (all 0 p (omega arith)).fill.0.elements.each (elements_all columns ps (all_tail (IsSpanned Irregular columns) p ps all))

rising_all : (columns : List Column) (ps : List Seen) → All (IsSpanned Irregular columns) ps → Neighbours EndsBefore ps → AreRising (all_in (map elements ps))
rising_all columns [] all near = tt
rising_all columns (p ∷ []) all near = rising_both p.1.1 [] (all 0 p (omega arith)).fill.0.elements.rising tt (before_none p.1.1) where
  before_none : (es : List Element) → AreBefore es []
  before_none [] = tt
  before_none (e ∷ es) = (tt, before_none es)
rising_all columns (p ∷ q ∷ ps) all near =
    let own = ended columns p (all 0 p (omega arith)) in
    let next = ended columns q (all 1 p (omega arith)) in
    let rest = rising_all columns (q ∷ ps) (all_tail (IsSpanned Irregular columns) p (q ∷ ps) all) near.1 in
    rising_both p.1.1 (all_in (map elements (q ∷ ps))) own.fill.elements.rising rest
    (before_all p.1.1 p.0.last (all_in (map elements (q ∷ ps))) own.fill.elements.rising own.ends (later_all columns p.0.last q.1.1 (all_in (map elements ps)) q.0.first q.0.last next near.0 rest))

dense_all : (columns : List Column) (ps : List Seen) → All (IsSpanned Irregular columns) ps → Neighbours (HaveMore (page_room columns)) ps → IsDense (page_room columns) (map elements ps)
dense_all columns [] all near = tt
dense_all columns (p ∷ []) all near = tt
dense_all columns (p ∷ q ∷ ps) all near =
    let own = (all 0 p (omega arith)).count in
    let next = (all 1 p (omega arith)).count in
    let more = near.0 in
    (omega (arith, own, next, more), dense_all columns (q ∷ ps) (all_tail (IsSpanned Irregular columns) p (q ∷ ps) all) near.1)

-- pages of an irregular series that are apart and dense are a chain
pub chain_seen : (columns : List Column) (ps : List Seen) → All (IsSpanned Irregular columns) ps → Neighbours EndsBefore ps → Neighbours (HaveMore (page_room columns)) ps → IsChain columns (map elements ps)
chain_seen columns ps all apart more = record {
  pages = pages_made columns (map elements ps) (sized columns ps all) (record { each = elements_all columns ps all; rising = rising_all columns ps all apart });
  dense = dense_all columns ps all more;
}

-- and in a chain they are
last_before : (es : List Element) (last : ℤ) (fs : List Element) → last_stamp es ≡ Some last → AreBefore es fs → AreLater last fs
last_before [] last fs is before = absurd (let no : ⊥ = cc in no)
last_before (e ∷ []) last fs is before = let same : last ≡ e.0 = cc in subst (λ (z : ℤ). AreLater z fs) (sym same) before.0
last_before (e ∷ f ∷ es) last fs is before = last_before (f ∷ es) last fs is before.1

first_behind : (columns : List Column) (at : ℤ) (es fs : List Element) (first last : ℤ) → IsEnded columns es first last → AreLater at (es ++ fs) → at <ℤ first
first_behind columns at [] fs first last is later = absurd (let none = is.fill.some in omega (arith, none))
first_behind columns at (e ∷ es) fs first last is later =
    let begins = is.begins in
    let same : e.0 ≡ first = cc in
    subst (λ (z : ℤ). at <ℤ z) same later.0

each_later : (columns : List Column) (at : ℤ) (ps : List Seen) → All (IsSpanned Irregular columns) ps → AreLater at (all_in (map elements ps)) → All (λ (a : Span). at <ℤ a.first) (map span ps)
each_later columns at [] all later = All-nil (λ (a : Span). at <ℤ a.first)
each_later columns at (p ∷ ps) all later =
    All-cons (λ (b : Span). at <ℤ b.first) p.0 (map span ps)
    (first_behind columns at p.1.1 (all_in (map elements ps)) p.0.first p.0.last (ended columns p (all 0 p (omega arith))) later)
    (each_later columns at ps (all_tail (IsSpanned Irregular columns) p ps all) (later_back at p.1.1 (all_in (map elements ps)) later))

pub apart_seen : (columns : List Column) (ps : List Seen) → All (IsSpanned Irregular columns) ps → ArePages columns (map elements ps) → AllPairs (λ (a b : Span). a.last <ℤ b.first) (map span ps)
apart_seen columns [] all pages = λ i j d before within. absurd (omega (arith, within))
apart_seen columns (p ∷ ps) all pages =
    let others = all_tail (IsSpanned Irregular columns) p ps all in
    AllPairs-cons (λ (a b : Span). a.last <ℤ b.first) p.0 (map span ps)
    (each_later columns p.0.last ps others (last_before p.1.1 p.0.last (all_in (map elements ps)) (ended columns p (all 0 p (omega arith))).ends pages.1)) (apart_seen columns ps others pages.2)

pub more_seen : (columns : List Column) (ps : List Seen) → All (IsSpanned Irregular columns) ps → IsDense (page_room columns) (map elements ps) → Neighbours (HaveMore (page_room columns)) ps
more_seen columns [] all dense = tt
more_seen columns (p ∷ []) all dense = tt
more_seen columns (p ∷ q ∷ ps) all dense =
    let own = (all 0 p (omega arith)).count in
    let next = (all 1 p (omega arith)).count in
    let more = dense.0 in
    (omega (arith, own, next, more), more_seen columns (q ∷ ps) (all_tail (IsSpanned Irregular columns) p (q ∷ ps) all) dense.1)

-- pages on a grid that are apart begin in order
pub order_seen : (grid : GridPlan) (columns : List Column) (ps : List Seen) → All (IsSpanned (Regular grid) columns) ps → Neighbours EndsBefore ps → BeginInOrder (map sheet ps)
order_seen grid columns [] all near = tt
order_seen grid columns (p ∷ []) all near = tt
order_seen grid columns (p ∷ q ∷ ps) all near =
    let own = (all 0 p (omega arith)).last in
    let next = (all 1 p (omega arith)).first in
    let below = near.0 in
    (omega (arith, ints, own, next, below), order_seen grid columns (q ∷ ps) (all_tail (IsSpanned (Regular grid) columns) p (q ∷ ps) all) near.1)

-- and where they begin in order they are apart
ordered_near : (grid : GridPlan) (columns : List Column) (ps : List Seen) → All (IsSpanned (Regular grid) columns) ps → BeginInOrder (map sheet ps) → Neighbours EndsBefore ps
ordered_near grid columns [] all order = tt
ordered_near grid columns (p ∷ []) all order = tt
ordered_near grid columns (p ∷ q ∷ ps) all order =
    let own = (all 0 p (omega arith)).last in
    let next = (all 1 p (omega arith)).first in
    let below = order.0 in
    (omega (arith, ints, own, next, below), ordered_near grid columns (q ∷ ps) (all_tail (IsSpanned (Regular grid) columns) p (q ∷ ps) all) order.1)

later_than_all : (grid : GridPlan) (columns : List Column) (at : ℤ) (p : Seen) (ps : List Seen) → at <ℤ p.0.first → All (IsSpanned (Regular grid) columns) (p ∷ ps) → Neighbours EndsBefore (p ∷ ps) → All (λ (a : Span). at <ℤ a.first) (map span (p ∷ ps))
later_than_all grid columns at p [] below all near = All-cons (λ (a : Span). at <ℤ a.first) p.0 [] below (All-nil (λ (a : Span). at <ℤ a.first))
later_than_all grid columns at p (q ∷ ps) below all near =
    let own = spans_end (Regular grid) columns p (all 0 p (omega arith)) in
    let next = near.0 in
    All-cons (λ (a : Span). at <ℤ a.first) p.0 (map span (q ∷ ps)) below
    (later_than_all grid columns at q ps (omega (arith, ints, own, next, below)) (all_tail (IsSpanned (Regular grid) columns) p (q ∷ ps) all) near.1)

pairs_near : (grid : GridPlan) (columns : List Column) (ps : List Seen) → All (IsSpanned (Regular grid) columns) ps → Neighbours EndsBefore ps → AllPairs (λ (a b : Span). a.last <ℤ b.first) (map span ps)
pairs_near grid columns [] all near = λ i j d before within. absurd (omega (arith, within))
pairs_near grid columns (p ∷ []) all near = AllPairs-cons (λ (a b : Span). a.last <ℤ b.first) p.0 [] (All-nil (λ (a : Span). p.0.last <ℤ a.first)) (pairs_near grid columns [] (all_tail (IsSpanned (Regular grid) columns) p [] all) tt)
pairs_near grid columns (p ∷ q ∷ ps) all near =
    let others = all_tail (IsSpanned (Regular grid) columns) p (q ∷ ps) all in
    AllPairs-cons (λ (a b : Span). a.last <ℤ b.first) p.0 (map span (q ∷ ps)) (later_than_all grid columns p.0.last q ps near.0 others near.1) (pairs_near grid columns (q ∷ ps) others near.1)

pub apart_on_grid : (grid : GridPlan) (columns : List Column) (ps : List Seen) → All (IsSpanned (Regular grid) columns) ps → BeginInOrder (map sheet ps) → AllPairs (λ (a b : Span). a.last <ℤ b.first) (map span ps)
apart_on_grid grid columns ps all order = pairs_near grid columns ps all (ordered_near grid columns ps all order)

-- both, of any shape
pub sequence_of : (shape : Shape) (columns : List Column) (ps : List Seen) → All (IsSpanned shape columns) ps → Neighbours EndsBefore ps → (shape ≡ Irregular → Neighbours (HaveMore (page_room columns)) ps) → AreInSequence shape columns (map sheet ps)
sequence_of Irregular columns ps all ends more = subst (IsChain columns) (sym (lists_seen ps)) (chain_seen columns ps all ends (more refl))
sequence_of (Regular grid) columns ps all ends more = order_seen grid columns ps all ends

pub apart_of : (shape : Shape) (columns : List Column) (ps : List Seen) → All (IsSpanned shape columns) ps → AreInSequence shape columns (map sheet ps) → AllPairs (λ (a b : Span). a.last <ℤ b.first) (map span ps)
apart_of Irregular columns ps all sequence = apart_seen columns ps all (subst (IsChain columns) (lists_seen ps) sequence).pages
apart_of (Regular grid) columns ps all sequence = apart_on_grid grid columns ps all sequence

pub more_of : (shape : Shape) (columns : List Column) (ps : List Seen) → All (IsSpanned shape columns) ps → AreInSequence shape columns (map sheet ps) → shape ≡ Irregular → Neighbours (HaveMore (page_room columns)) ps
more_of Irregular columns ps all sequence is = more_seen columns ps all (subst (IsChain columns) (lists_seen ps) sequence).dense
more_of (Regular grid) columns ps all sequence is = absurd (cc)
