-- The last element that isn't hidden, by the elements up to an index.
use Rattle.std.proofs.Common.{◌≡◌, ℕ, zero, suc, ◌-◌, Bool, true, false, not, if◌then◌else◌, Option, Some, Ok, List, [], ◌∷◌, ◌++◌, length, take, drop, sym, ap, ◌∙◌, arith, append-nil, length-append}
use Rattle.std.specs.List.{slice_get}
use Rattle.std.proofs.lemmas.List.Elements.{filter-append}
use Rattle.std.proofs.Math.Seq.{take-length}
use Rattle.ts_page.specs.Pages.{Contents, Got, IsElementPage}
use Rattle.ts_space.specs.declared.place.Place.{Place}
use Rattle.ts_row.specs.declared.kind.Column.{Column}
use Rattle.ts_row.specs.Row.{Element, seen}
use Rattle.ts_cells.specs.IrregularPage.{AreInOrder, behind_head}
use Rattle.ts_irregular.specs.Edit.{last_of, last_seen}
use Rattle.ts_irregular.specs.OnePage.{IsOn}
use Rattle.ts_irregular.specs.Call.{IsLast}
use Rattle.ts_irregular.proofs.CellLemmas.{at_index}
use Rattle.ts_irregular.proofs.SeeLemmas.{behind_told, some_one}
use Rattle.ts_irregular.proofs.FindLemmas.{read_on}

last_end : (front : List Element) (e : Element) → last_of (front ++ e ∷ []) ≡ Some e
last_end front e =
    let before : length (front ++ e ∷ []) - 1 ≡ length front = omega (arith, length-append front (e ∷ [])) in
    ap (slice_get (front ++ e ∷ [])) before ∙ at_index front e []

take_more : (i : ℕ) (es : List Element) (e : Element) → slice_get es i ≡ Some e → take (suc i) es ≡ take i es ++ e ∷ []
take_more i [] e at = absurd (cc)
take_more zero (x ∷ es) e at = ap (λ (y : Element). y ∷ []) (some_one at)
take_more (suc i) (x ∷ es) e at = ap (λ (l : List Element). x ∷ l) (take_more i es e at)

-- of one more that may be hidden
seen_more : (i : ℕ) (es : List Element) (e : Element) (hidden : Bool) → slice_get es i ≡ Some e → hidden ≡ e.1.hidden → seen (take (suc i) es) ≡ seen (take i es) ++ (if not hidden then e ∷ [] else [])
seen_more i es e hidden at is =
    ap seen (take_more i es e at) ∙ filter-append (λ (f : Element). not f.1.hidden) (take i es) (e ∷ [])
    ∙ (λ j. seen (take i es) ++ (if not (sym is j) then e ∷ [] else []))

-- a hidden one isn't the last, another one is
pub last_before : (i n : ℕ) (es : List Element) (e : Element) → slice_get es i ≡ Some e → true ≡ e.1.hidden → n ≡ suc i → last_seen (take n es) ≡ last_seen (take i es)
last_before i n es e at hidden is =
    ap (λ (m : ℕ). last_seen (take m es)) is ∙ ap last_of (seen_more i es e true at hidden ∙ append-nil (seen (take i es)))

pub last_here : (i n : ℕ) (es : List Element) (e : Element) → slice_get es i ≡ Some e → false ≡ e.1.hidden → n ≡ suc i → last_seen (take n es) ≡ Some e
last_here i n es e at shown is =
    ap (λ (m : ℕ). last_seen (take m es)) is ∙ ap last_of (seen_more i es e false at shown) ∙ last_end (seen (take i es)) e

-- all of them
pub last_all : (n : ℕ) (es : List Element) → length es ≡ n → last_seen es ≡ last_seen (take n es)
last_all n es count = ap last_seen (sym (take-length es) ∙ ap (λ (m : ℕ). take m es) count)

-- the last element that is found by the head is that of those elements
pub last_there : (tells : Bool) (slot count : ℕ) (columns : List Column) (places : List Place) (place : Place) (bytes : List ℕ) (last : Option Element) (v w : Contents) → places ≡ place ∷ [] → IsElementPage place.page → Got tells place.page bytes (Ok tt) v w
    → ((es : List Element) → IsOn slot columns bytes place es → length es ≡ count)
    → ((es : List Element) → AreInOrder columns es → length es ≡ count → drop 32 bytes ≡ behind_head columns es → last ≡ last_seen es)
    → IsLast tells slot columns places v last
last_there tells slot count columns places place bytes last v w one element got told found = λ t es on.
    let read = read_on tells slot columns places place bytes v w one element got t es on in
    found es read.bytes.fill.elements (told es read) (behind_told slot columns es bytes read.bytes)
