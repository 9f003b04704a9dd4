-- What is read of one page is so of the whole chain.
use Rattle.std.proofs.Common.{◌≡◌, ℕ, ◌<◌, ℤ, Bool, Option, None, List, [], ◌∷◌, length, sym, ap, subst, ◌∙◌, arith, get_or, length-append}
use Rattle.std.proofs.Math.Seq.{get_or-append_seam}
use Rattle.ts_space.specs.declared.place.Place.{Place}
use Rattle.ts_space.specs.Place.{AreAbove}
use Rattle.ts_page.specs.Pages.{Contents}
use Rattle.ts_row.specs.declared.kind.Column.{Column}
use Rattle.ts_row.specs.Row.{Row, Element}
use Rattle.ts_irregular.specs.Edit.{element_at}
use Rattle.ts_irregular.specs.OnePage.{IsOn}
use Rattle.ts_irregular.specs.Call.{IsRowThere}
use Rattle.ts_sheets.specs.Stamped.{all_in}
use Rattle.ts_sheets.specs.Places.{AreChained, IsHolder}
use Rattle.ts_chain.specs.Call.{IsRowIn}
use Rattle.ts_chain.proofs.EditLemmas.{none_later}
use Rattle.ts_chain.proofs.WindowLemmas.{at_page}
use Rattle.ts_chain.proofs.PlaceLemmas.{Cut, cut, chain_later, holder_around}

-- where all pages begin later, none is there
pub none_in : (tells : Bool) (slot : ℕ) (columns : List Column) (stamp : ℤ) (places : List Place) (v : Contents) → AreAbove stamp places → IsRowIn tells slot columns stamp places v None
none_in tells slot columns stamp places v above = λ told chain on is. sym (none_later stamp (all_in chain) (chain_later slot columns v.page stamp places chain on above))

-- the page of the place that holds the stamp, among those of a told chain
pub cut_told : (slot : ℕ) (columns : List Column) (stamp : ℤ) (places : List Place) (index : ℕ) (pages : ℕ → List ℕ) (chain : List (List Element)) (h : IsHolder stamp places index) → AreChained slot columns pages places chain
    → Cut slot columns pages h.front h.place h.back chain
cut_told slot columns stamp places index pages chain h on =
    cut slot columns pages h.front h.place h.back chain (subst (λ (ps : List Place). AreChained slot columns pages ps chain) h.parts on)

-- what its row is
pub row_in : (tells : Bool) (slot : ℕ) (columns : List Column) (stamp : ℤ) (places : List Place) (index : ℕ) (place : Place) (v : Contents) (row : Option Row) → (h : IsHolder stamp places index) → place ≡ h.place
    → IsRowThere tells slot columns stamp (place ∷ []) v row → IsRowIn tells slot columns stamp places v row
row_in tells slot columns stamp places index place v row h same there = λ told chain on is.
    let c = cut_told slot columns stamp places index v.page chain h on in
    let around = holder_around slot columns v.page stamp h.front h.place h.back chain is.pages h.begins h.above c in
    there told c.elements (subst (λ (p : Place). IsOn slot columns (v.page p.page) p c.elements) (sym same) c.on)
    ∙ sym (at_page stamp c.before c.elements c.behind around) ∙ ap (λ (l : List (List Element)). element_at stamp (all_in l)) (sym c.parts)

-- the place of an index
pub holder_get : (at : ℤ) (places : List Place) (index : ℕ) (d : Place) → (h : IsHolder at places index) → get_or places index d ≡ h.place
holder_get at places index d h = (λ j. get_or (h.parts j) (sym h.index_is j) d) ∙ get_or-append_seam h.front h.place h.back d

pub holder_within : (at : ℤ) (places : List Place) (index : ℕ) → IsHolder at places index → index < length places
holder_within at places index h = omega (arith, ap length h.parts, length-append h.front (h.place ∷ h.back), h.index_is)
