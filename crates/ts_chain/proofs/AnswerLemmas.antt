-- Each end of a removal, by the index of the page.
use Rattle.std.proofs.Common.{◌≡◌, ℕ, suc, ◌+◌, ◌≤◌, ℤ, ◌≤ℤ◌, Bool, IsTrue, Some, List, [], ◌∷◌, ◌++◌, length, drop, get_or, refl, sym, ap, subst, ◌∙◌, arith, append_assoc, length-append}
use Rattle.std.proofs.Math.Seq.{get_or-append_seam}
use Rattle.ts_space.specs.declared.place.Place.{Place}
use Rattle.ts_space.specs.Place.{AreAbove, IsRising}
use Rattle.ts_page.specs.Pages.{zero_page, Contents, EqualPages, with_page}
use Rattle.ts_row.specs.declared.kind.Column.{Column}
use Rattle.ts_row.specs.Row.{Element}
use Rattle.ts_cells.specs.IrregularPage.{page_room, AreElements, behind_head, first_stamp, irregular_page}
use Rattle.ts_irregular.specs.Edit.{without_element}
use Rattle.ts_irregular.specs.OnePage.{IsOn, place_of}
use Rattle.ts_irregular.proofs.EditLemmas.{without_in_order}
use Rattle.ts_chain.proofs.ChangeLemmas.{place_first}
use Rattle.ts_space.specs.declared.moved.Come.TheVariants.{Nothing, One}
use Rattle.ts_space.specs.Moved.{moved_to}
use Rattle.ts_sheets.specs.Places.{ArePlaces, FitsFirst, FitsLast, IsBeginning, IsCounted, IsHolder}
use Rattle.ts_chain.specs.Call.{IsTakenAway}
use Rattle.ts_chain.specs.Window.{AreOnOne, IsRestOf}
use Rattle.ts_chain.proofs.FindLemmas.{holder_get}
use Rattle.ts_chain.proofs.LessLemmas.{get_next, split_last}
use Rattle.ts_chain.proofs.TakeLemmas.{moved_middle, take_freed, take_put}
use Rattle.ts_chain.proofs.MergeLemmas.{take_second, take_first}

-- the first of the places behind
pub record HasFirst (back : List Place) : Type 0 where
  pub first : Place
  pub after : List Place
  pub parts : back ≡ first ∷ after

pub split_first : (q n : ℕ) (back : List Place) → FitsFirst q n back → HasFirst back
split_first q n [] fit = absurd fit
split_first q n (p ∷ back) fit = record { first = p; after = back; parts = refl }

module _ (tells : Bool) (slot : ℕ) (columns : List Column) (stamp : ℤ) (places : List Place) (index : ℕ) (v w : Contents) (h : IsHolder stamp places index) (rising : IsRising places) (are : ArePlaces columns v places)
    (count : ℕ) (bytes : List ℕ) (rest : IsRestOf tells slot columns stamp h.place count bytes v) (d : Place) where
  held : get_or places index d ≡ h.place
  held = holder_get stamp places index d h

  abbrev Ends : List Place → Type 0
  Ends new = IsTakenAway tells slot columns stamp places new v w

  pub freed_answer : count ≡ 0 → w.free ≡ (get_or places index d).page ∷ v.free → (IsTrue tells → EqualPages (with_page (get_or places index d).page zero_page v.page) w.page)
      → IsTakenAway tells slot columns stamp places (moved_to (record { index = index; gone = 1; come = Nothing }) places) v w
  freed_answer none free put =
      subst Ends (sym (moved_middle h.front (h.place ∷ []) [] h.back (record { index = index; gone = 1; come = Nothing }) places h.parts h.index_is refl refl))
      (take_freed tells slot columns stamp places index v w h rising are count bytes rest none (subst (λ (p : Place). w.free ≡ p.page ∷ v.free) held free)
      (λ told. subst (λ (p : Place). EqualPages (with_page p.page zero_page v.page) w.page) held (put told)))

  pub put_answer : (one : Place) (at : ℤ) → 1 ≤ count → count ≤ page_room columns → count ≤ h.place.count → one.page ≡ (get_or places index d).page → one.count ≡ count → IsBeginning at one.at h.place h.back
      → (IsTrue tells → (es : List Element) → IsOn slot columns (v.page h.place.page) h.place es → first_stamp (without_element stamp es) ≡ Some at)
      → ¬ FitsLast (page_room columns) count h.front → ¬ FitsFirst (page_room columns) count h.back → w.free ≡ v.free → (IsTrue tells → EqualPages (with_page (get_or places index d).page bytes v.page) w.page)
      → IsTakenAway tells slot columns stamp places (moved_to (record { index = index; gone = 1; come = One one }) places) v w
  put_answer one at some room few page is begins read left right free put =
      subst Ends (sym (moved_middle h.front (h.place ∷ []) (one ∷ []) h.back (record { index = index; gone = 1; come = One one }) places h.parts h.index_is refl refl))
      (take_put tells slot columns stamp places index v w h rising are count bytes rest one at some room few (page ∙ ap (λ (p : Place). p.page) held) is begins read left right free
      (λ told. subst (λ (p : Place). EqualPages (with_page p.page bytes v.page) w.page) held (put told)))

  pub before_answer : (one : Place) (i : ℕ) (d2 : Place) → i + 1 ≡ index → FitsLast (page_room columns) count h.front → count ≤ h.place.count → IsCounted columns one → one.page ≡ (get_or places i d2).page → w.free ≡ (get_or places index d).page ∷ v.free
      → one.at ≡ (get_or places i d2).at → one.count ≤ (get_or places i d2).count + count
      → (IsTrue tells → (es fs : List Element) → IsOn slot columns (v.page (get_or places i d2).page) (get_or places i d2) es → AreElements columns fs → length fs ≡ count → drop 32 bytes ≡ behind_head columns fs
      → AreOnOne slot columns (es ++ fs) one (get_or places index d).page v w)
      → IsTakenAway tells slot columns stamp places (moved_to (record { index = i; gone = 2; come = One one }) places) v w
  before_answer one i d2 next fit few counted page free at all joined =
      let f = split_last (page_room columns) count h.front fit in
      let a : Place = get_or places i d2 in
      let b : Place = get_or places index d in
      let long : length f.ahead ≡ i = omega (arith, ap length f.parts, length-append f.ahead (f.last ∷ []), h.index_is, next) in
      let whole : places ≡ f.ahead ++ f.last ∷ h.place ∷ h.back = h.parts ∙ ap (λ (l : List Place). l ++ h.place ∷ h.back) f.parts ∙ append_assoc f.ahead (f.last ∷ []) (h.place ∷ h.back) in
      let last : a ≡ f.last = (λ j. get_or (whole j) (sym long j) d2) ∙ get_or-append_seam f.ahead f.last (h.place ∷ h.back) d2 in
      let parts : places ≡ f.ahead ++ a ∷ b ∷ h.back = whole ∙ (λ j. f.ahead ++ sym last j ∷ sym held j ∷ h.back) in
      let P : Place → Type 0 = (λ (p : Place). p.at ≤ℤ stamp) in
      let done = take_second tells slot columns stamp v w count bytes f.ahead a b h.back (subst IsRising parts rising) (subst (λ (ps : List Place). ArePlaces columns v ps) parts are) h.above one counted page free
      (subst P (sym held) h.begins) (subst (λ (p : Place). IsRestOf tells slot columns stamp p count bytes v) (sym held) rest) at (subst (λ (p : Place). count ≤ p.count) (sym held) few) all joined in
      subst Ends (sym (moved_middle f.ahead (a ∷ b ∷ []) (one ∷ []) h.back (record { index = i; gone = 2; come = One one }) places parts long refl refl))
      (subst (λ (ps : List Place). IsTakenAway tells slot columns stamp ps (f.ahead ++ one ∷ h.back) v w) (sym parts) done)

  pub behind_answer : (one : Place) (at : ℤ) (d2 : Place) → FitsFirst (page_room columns) count h.back → 1 ≤ count → count ≤ h.place.count → IsCounted columns one → one.page ≡ (get_or places index d).page → w.free ≡ (get_or places (index + 1) d2).page ∷ v.free
      → IsBeginning at one.at h.place h.back → one.count ≤ count + (get_or places (index + 1) d2).count
      → (IsTrue tells → (es : List Element) → IsOn slot columns (v.page h.place.page) h.place es → first_stamp (without_element stamp es) ≡ Some at)
      → (IsTrue tells → (fs es : List Element) → IsOn slot columns (v.page (get_or places (index + 1) d2).page) (get_or places (index + 1) d2) es → AreElements columns fs → length fs ≡ count → drop 32 bytes ≡ behind_head columns fs
      → AreOnOne slot columns (fs ++ es) one (get_or places (index + 1) d2).page v w)
      → IsTakenAway tells slot columns stamp places (moved_to (record { index = index; gone = 2; come = One one }) places) v w
  behind_answer one at d2 fit more few counted page free begin all read joined =
      let f = split_first (page_room columns) count h.back fit in
      let b : Place = get_or places (index + 1) d2 in
      let whole : places ≡ h.front ++ h.place ∷ f.first ∷ f.after = h.parts ∙ ap (λ (l : List Place). h.front ++ h.place ∷ l) f.parts in
      let spot : index + 1 ≡ suc (length h.front) = omega (arith, h.index_is) in
      let next : b ≡ f.first = (λ j. get_or (whole j) (spot j) d2) ∙ get_next h.front h.place f.first f.after d2 in
      let back : h.back ≡ b ∷ f.after = f.parts ∙ ap (λ (p : Place). p ∷ f.after) (sym next) in
      let parts : places ≡ h.front ++ h.place ∷ b ∷ f.after = h.parts ∙ ap (λ (l : List Place). h.front ++ h.place ∷ l) back in
      let beyond : AreAbove stamp (b ∷ f.after) = subst (AreAbove stamp) back h.above in
      let done = take_first tells slot columns stamp v w count bytes h.front h.place b f.after (subst IsRising parts rising) (subst (λ (ps : List Place). ArePlaces columns v ps) parts are) beyond.1 one counted (page ∙ ap (λ (p : Place). p.page) held) free
      at h.begins beyond rest (subst (IsBeginning at one.at h.place) back begin) more few all read joined in
      subst Ends (sym (moved_middle h.front (h.place ∷ b ∷ []) (one ∷ []) f.after (record { index = index; gone = 2; come = One one }) places parts h.index_is refl refl))
      (subst (λ (ps : List Place). IsTakenAway tells slot columns stamp ps (h.front ++ one ∷ f.after) v w) (sym parts) done)

-- the stamp that was read where a page begins
pub read_first : (tells : Bool) (slot : ℕ) (columns : List Column) (stamp : ℤ) (place read : Place) (number count : ℕ) (bytes : List ℕ) (v : Contents) → IsRestOf tells slot columns stamp place count bytes v
    → ((es : List Element) → AreElements columns es → length es ≡ count → bytes ≡ irregular_page slot columns es → place_of number es ≡ read ∷ [])
    → IsTrue tells → (es : List Element) → IsOn slot columns (v.page place.page) place es → first_stamp (without_element stamp es) ≡ Some read.at
read_first tells slot columns stamp place read number count bytes v rest listed told es on =
    let r = rest told es on in
    place_first number (without_element stamp es) read (listed (without_element stamp es) (without_in_order columns stamp es on.bytes.fill.elements).each r.count_is r.bytes_are)
