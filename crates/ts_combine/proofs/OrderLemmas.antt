-- Elements that are later than a stamp, and the map that elements make.
use Rattle.std.proofs.Common.{◌≡◌, ◌∙◌, ℤ, ◌<ℤ◌, None, List, [], ◌∷◌, ◌++◌, map, refl, sym, ap, arith}
use Rattle.std.specs.Ordering.{int_cmp}
use Rattle.std.specs.Cmp.{int_cmp_is, int_cmp_total}
use Rattle.std.specs.declared.cmp.Ordering.{Ordering}
use Rattle.std.specs.declared.cmp.Ordering.TheVariants.{Less, Equal, Greater}
use Rattle.std.specs.FinMap.{put, entries, empty, entries-insert, len-entries, len-empty}
use Rattle.std.specs.FinMap.Entries.{by_order}
use Rattle.std.proofs.lemmas.Int.{ints}
use Rattle.std.proofs.lemmas.List.{nil_from_length}
use Rattle.ts_row.specs.Row.{Row, Element}
use Rattle.ts_cells.specs.IrregularPage.{AreRising}
use Rattle.ts_irregular.specs.Edit.{element_at}
use Rattle.ts_irregular.proofs.EditLemmas.{AreRising-tail, element_at-higher}
use Rattle.ts_combine.specs.Combine.{by_stamp, merged_stamps}
use Rattle.ts_combine.proofs.RisingLemmas.{AreAbove, AreRisenBy}

-- each of some elements is later than a stamp
abbrev pub AreLater : ℤ → List Element → Type 0
AreLater stamp es = AreAbove (λ e. e.0) stamp es

pub later-earlier : (s t : ℤ) (es : List Element) → s <ℤ t → AreLater t es → AreLater s es
later-earlier s t [] lt later = tt
later-earlier s t (e ∷ es) lt later =
    let first = later.0 in
    (omega (arith, ints, lt, first), later-earlier s t es lt later.1)

pub later-rising : (e : Element) (es : List Element) → AreRising (e ∷ es) → AreLater e.0 es
later-rising e [] rising = tt
later-rising e (f ∷ es) rising = (rising.0, later-earlier e.0 f.0 es rising.0 (later-rising f es rising.1))

pub rising-risen : (es : List Element) → AreRising es → AreRisenBy (λ e. e.0) es
rising-risen [] rising = tt
rising-risen (e ∷ es) rising = (later-rising e es rising, rising-risen es (AreRising-tail e es rising))

pub risen-rising : (es : List Element) → AreRisenBy (λ e. e.0) es → AreRising es
risen-rising [] risen = tt
risen-rising (e ∷ []) risen = tt
risen-rising (e ∷ f ∷ es) risen = (risen.0.0, risen-rising (f ∷ es) risen.1)

pub later-append : (s : ℤ) (es fs : List Element) → AreLater s es → AreLater s fs → AreLater s (es ++ fs)
later-append s [] fs later then_ = then_
later-append s (e ∷ es) fs later then_ = (later.0, later-append s es fs later.1 then_)

pub none-later : (s : ℤ) (es : List Element) → AreLater s es → element_at s es ≡ None
none-later s [] later = refl
none-later s (e ∷ es) later = element_at-higher s e es later.0 ∙ none-later s es later.1

later-put : (s k : ℤ) (row : Row) (es : List Element) → s <ℤ k → AreLater s es → AreLater s (put int_cmp k row es)
later-put s k row [] lt later = (lt, tt)
later-put s k row (e ∷ es) lt later =
    elim (int_cmp k e.0) as (λ o. AreLater s (by_order o ((k, row) ∷ e ∷ es) ((e.0, row) ∷ es) (e ∷ put int_cmp k row es))) [
      | Less ↦ (lt, later)
      | Equal ↦ (later.0, later.1)
      | Greater ↦ (later.0, later-put s k row es lt later.1)
    ]

no-entries : entries (empty {X = Row} {R = int_cmp}) ≡ []
no-entries = nil_from_length (entries (empty {X = Row} {R = int_cmp})) (sym (len-entries (empty {R = int_cmp})) ∙ len-empty int_cmp Row)

entries-cons : (e : Element) (es : List Element) → entries (by_stamp (e ∷ es)) ≡ put int_cmp e.0 e.1 (entries (by_stamp es))
entries-cons e es = entries-insert int_cmp_total (by_stamp es) e.0 e.1

pub later-entries : (s : ℤ) (es : List Element) → AreLater s es → AreLater s (entries (by_stamp es))
later-entries s [] later = rw no-entries tt
later-entries s (e ∷ es) later = rw (entries-cons e es) (later-put s e.0 e.1 (entries (by_stamp es)) later.0 (later-entries s es later.1))

put-first : (k : ℤ) (row : Row) (es : List Element) → AreLater k es → put int_cmp k row es ≡ (k, row) ∷ es
put-first k row [] later = refl
put-first k row (e ∷ es) later =
    ap (λ (r : Ordering). by_order r ((k, row) ∷ e ∷ es) ((e.0, row) ∷ es) (e ∷ put int_cmp k row es)) (sym (int_cmp_is k e.0 Less later.0))

put-same : (k : ℤ) (row : Row) (e : Element) (es : List Element) → k ≡ e.0 → put int_cmp k row (e ∷ es) ≡ (e.0, row) ∷ es
put-same k row e es same =
    ap (λ (r : Ordering). by_order r ((k, row) ∷ e ∷ es) ((e.0, row) ∷ es) (e ∷ put int_cmp k row es)) (sym (int_cmp_is k e.0 Equal same))

put-behind : (k : ℤ) (row : Row) (e : Element) (es : List Element) → e.0 <ℤ k → put int_cmp k row (e ∷ es) ≡ e ∷ put int_cmp k row es
put-behind k row e es lt =
    ap (λ (r : Ordering). by_order r ((k, row) ∷ e ∷ es) ((e.0, row) ∷ es) (e ∷ put int_cmp k row es)) (sym (int_cmp_is k e.0 Greater lt))

-- the entry of an element that is earlier than the others comes first
first-entry : (e : Element) (es : List Element) → AreLater e.0 es → entries (by_stamp (e ∷ es)) ≡ e ∷ entries (by_stamp es)
first-entry e es later = entries-cons e es ∙ put-first e.0 e.1 (entries (by_stamp es)) (later-entries e.0 es later)

-- also where it stands behind others
second-entry : (f : Element) (es fs : List Element) → AreLater f.0 es → AreLater f.0 fs → entries (by_stamp (es ++ f ∷ fs)) ≡ f ∷ entries (by_stamp (es ++ fs))
second-entry f [] fs es_later later = first-entry f fs later
second-entry f (e ∷ es) fs es_later later =
    entries-cons e (es ++ f ∷ fs) ∙ ap (put int_cmp e.0 e.1) (second-entry f es fs es_later.1 later)
    ∙ put-behind e.0 e.1 f (entries (by_stamp (es ++ fs))) es_later.0 ∙ ap (λ l. f ∷ l) (sym (entries-cons e (es ++ fs)))

-- the stamps of two lists: the earlier of the first ones comes first
pub stamps-first : (e : Element) (es fs : List Element) → AreLater e.0 es → AreLater e.0 fs → merged_stamps (e ∷ es) fs ≡ e.0 ∷ merged_stamps es fs
stamps-first e es fs later then_ = ap (map (λ x. x.0)) (first-entry e (es ++ fs) (later-append e.0 es fs later then_))

pub stamps-second : (f : Element) (es fs : List Element) → AreLater f.0 es → AreLater f.0 fs → merged_stamps es (f ∷ fs) ≡ f.0 ∷ merged_stamps es fs
stamps-second f es fs later then_ = ap (map (λ x. x.0)) (second-entry f es fs later then_)

pub stamps-both : (e f : Element) (es fs : List Element) → e.0 ≡ f.0 → AreLater f.0 es → AreLater f.0 fs → merged_stamps (e ∷ es) (f ∷ fs) ≡ f.0 ∷ merged_stamps es fs
stamps-both e f es fs same later then_ =
    ap (map (λ x. x.0)) (entries-cons e (es ++ f ∷ fs) ∙ ap (put int_cmp e.0 e.1) (second-entry f es fs later then_) ∙ put-same e.0 e.1 f (entries (by_stamp (es ++ fs))) same)

pub stamps-none : merged_stamps [] [] ≡ []
stamps-none = ap (map (λ x. x.0)) no-entries
