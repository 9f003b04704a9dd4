-- An offset for which the places have no page has no element.
use Rattle.std.proofs.Common.{◌≡◌, ℕ, ◌+◌, ◌*◌, ◌/◌, ◌%◌, ◌<◌, pos, Bool, Option, Some, None, is_some, Result, Ok, Err, cond, List, [], ◌∷◌, refl, ap, arith, inl, inr}
use Rattle.std.proofs.lemmas.Bool.{cases_lt}
use Rattle.std.proofs.Math.Nat.{mod-add-div}
use Rattle.ts_space.specs.declared.place.Place.{Place}
use Rattle.ts_space.specs.Place.{IsRising, place_at, rank_of}
use Rattle.ts_page.specs.Pages.{Contents}
use Rattle.ts_row.specs.declared.kind.Column.{Column}
use Rattle.ts_regular.specs.RegularPage.{regular_room, base_of, element_at}
use Rattle.ts_regular.specs.Places.{OffsetPage, AreOn, all_in}
use Rattle.ts_regular.specs.Call.{IsTold}
use Rattle.ts_regular.proofs.CellsLemmas.{count_within}
use Rattle.ts_regular.proofs.PlaceLemmas.{gap_err}
use Rattle.ts_regular.proofs.EditLemmas.{none_missing}
use Rattle.ts_regular_edits.specs.Edit.{NeedsPage}

-- pages that have no cells are none
no_pages : (slot : ℕ) (columns : List Column) (pages : ℕ → List ℕ) (places : List Place) (ps : List OffsetPage) → regular_room columns ≡ 0 → AreOn slot columns pages places ps → all_in ps ≡ []
no_pages slot columns pages [] [] none on = refl
no_pages slot columns pages [] (p ∷ ps) none on = absurd on
no_pages slot columns pages (q ∷ places) [] none on = absurd on
no_pages slot columns pages (q ∷ places) (p ∷ ps) none on =
    let fill = on.0.bytes.fill in
    absurd (omega (arith, none, fill.room, fill.some, count_within p.1))

not_found : (o : Option Place) (rank : ℕ) → o ≡ None → ◌≡◌ {A = Result ℕ ℕ} (Err rank) (cond (is_some o) (Ok rank) (Err rank))
not_found None rank none = refl
not_found (Some p) rank none = absurd (cc)

-- an offset within the cells from its base on
within_base : (r n : ℕ) → 0 < r → (n ≡ (n / r) * r + n % r) × (n % r < r)
within_base r n some = let parts = mod-add-div n r in (omega (arith, parts), omega (arith, some))

pub absent : (tells : Bool) (slot : ℕ) (columns : List Column) (offset : ℕ) (places : List Place) (v : Contents) → IsRising places → NeedsPage columns offset places
    → IsTold tells slot columns places v (λ ps. element_at offset (all_in ps) ≡ None)
absent tells slot columns offset places v rising needs told ps on = elim (cases_lt 0 (regular_room columns)) [
  | inl some ↦
      let at = pos (base_of columns offset) in
      let gap = gap_err at places (rank_of at places) rising (not_found (place_at at places) (rank_of at places) needs) in
      let inside = within_base (regular_room columns) offset some in
      (none_missing tells slot columns offset places (rank_of at places) v gap (offset % regular_room columns) inside.0 inside.1).absent told ps on
  | inr none ↦ ap (element_at offset) (no_pages slot columns v.page places ps (omega (arith, none)) on)
]
