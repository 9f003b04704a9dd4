-- What a command that edits one element comes to.
use Rattle.std.proofs.Common.{◌≡◌, ℕ, ◌+◌, ◌<◌, ◌≤◌, ℤ, Option, Some, None, IsSome, is_some, Ok, Err, List, length, refl, ap, sym, ◌∙◌, subst, arith}
use Rattle.std.specs.Prelude.{if◌then◌else◌}
use Rattle.std.specs.Option.{option_map}
use Rattle.std.specs.FinMap.{get, insert, entries}
use Rattle.ts_base.specs.declared.refusal.Refusal.{Refusal}
use Rattle.ts_base.specs.declared.refusal.Refusal.TheVariants as refusals
use Rattle.ts_row.specs.declared.kind.Column.{Column}
use Rattle.ts_row.specs.declared.value.Literal.{Literal}
use Rattle.ts_row.specs.Row.{Heading, Row, Element}
use Rattle.ts_space.specs.declared.place.Place.{Place}
use Rattle.ts_space.specs.Place.{IsRising}
use Rattle.ts_space.specs.Directory.{Directory, places_of}
use Rattle.ts_cells.specs.IrregularPage.{page_room}
use Rattle.ts_irregular.specs.Edit.{element_at, with_element}
use Rattle.ts_sheets.specs.Stamped.{place_for}
use Rattle.ts_series.specs.declared.edits.EditKind.{EditKind}
use Rattle.ts_series.specs.declared.edits.EditKind.TheVariants.{Put, PutNoDups, Insert, Update}
use Rattle.ts_calendar.specs.Calendars.{CalendarPlan}
use Rattle.ts_offset.specs.Grid.{GridPlan}
use Rattle.ts_offset.specs.declared.shape.Shape.{Shape}
use Rattle.ts_offset.specs.declared.shape.Shape.TheVariants as shapes
use Rattle.ts_command.specs.declared.command.Command.{Command}
use Rattle.ts_model.specs.Catalogue.{Catalogue, Elements, Series, SeriesKind, Irregular, Regular, calendar_named, shape_of, columns_of, quota_of}
use Rattle.ts_model.specs.Charge.{elements_charge, container_charge as charge_by_name}
use Rattle.ts_layout.specs.Meaning.{Layout, IsSound, elements_at, series_of, catalogue_of, shape_of as shape_in}
use Rattle.ts_layout.specs.Charges.{container_charge}
use Rattle.ts_layout.specs.Surveyed.{ListsPlaces}
use Rattle.ts_layout.specs.Chains.{AreFilled, by_stamp}
use Rattle.ts_answer.specs.Answer.{Tried, Answered, ◌>>=◌, wanted, a_row, row_at, refused_if, placed, a_place, an_address, addressed, within_quota, with_elements, put_element, put_no_dups, insert_element, update_element, carried_out, outcome, with_element as with_element_of}
use Rattle.ts_answer.specs.Reply.{stamp_line}
use Rattle.ts_answer.proofs.CallerLemmas.{wanted-there, refused, passed, row-there, row-missing, quota-kept, quota-passed, on_ok, on_err}
use Rattle.ts_shelf.specs.Shelf.{IsSeries}
use Rattle.ts_shelf.proofs.LawLemmas.{charges}
use Rattle.ts_shelf.proofs.SeenLemmas.{SeriesIn, HasSeen, heading_there, entries_in}
use Rattle.ts_elements.specs.Elements.{edit_of}
use Rattle.ts_elements.specs.Room.{IsBudget}
use Rattle.ts_elements.specs.Stamps.{HaveElements, charge_by, target_from, target_in}
use Rattle.ts_offset.specs.Shape.{IsLaidOut}
use Rattle.ts_elements.proofs.LawLemmas.{as_maps}
use Rattle.ts_elements.proofs.AddressLemmas.{address_is}
use Rattle.ts_elements.proofs.SeriesLemmas.{costs}
use Rattle.ts_elements.proofs.FoundLemmas.{found_in}
use Rattle.ts_elements.proofs.MemoryLemmas.{charge_same}

-- it begins with the series of a key, and a row for it
abbrev pub BeginsWithRow : Command → List ℕ → List Literal → (Catalogue → Series → Row → Tried Answered) → Type 0
BeginsWithRow command key literals rest = (cat : Catalogue) → outcome (Ok command) cat ≡ (wanted key cat.series >>= (λ s. a_row (columns_of cat s) literals >>= rest cat s))

-- a row is put at a stamp, within the quota
abbrev pub add_rest : List ℕ → Row → Catalogue → Series → ℤ → Tried Answered
add_rest key row cat s at = within_quota (charge_by_name s.container (with_element_of key s at row cat)) (quota_of cat s) >>= (λ fits. Ok (stamp_line at, with_element_of key s at row cat))

-- each kind of edit, once it is known where the element stands that its stamp addresses
abbrev edit_from : EditKind → List ℕ → Catalogue → Series → Row → ℤ → Tried Answered
edit_from Put key cat s row at = a_place s.kind at s.elements >>= add_rest key row cat s
edit_from PutNoDups key cat s row at = add_rest key row cat s at
edit_from Insert key cat s row at = refused_if (is_some (get s.elements at)) refusals.Duplicate >>= (λ free. add_rest key row cat s at)
edit_from Update key cat s row at = row_at at s.elements >>= (λ old. Ok (stamp_line at, with_element_of key s at row cat))

-- and once there is a row for it
abbrev pub edit_rest : EditKind → List ℕ → ℤ → Catalogue → Series → Row → Tried Answered
edit_rest how key stamp cat s row = an_address s stamp cat >>= edit_from how key cat s row

pub edit_begins : (how : EditKind) (key : List ℕ) (stamp : ℤ) (literals : List Literal) → BeginsWithRow (edit_of how key stamp literals) key literals (edit_rest how key stamp)
unfolding outcome carried_out put_element put_no_dups insert_element update_element
edit_begins Put key stamp literals cat = refl
edit_begins PutNoDups key stamp literals cat = refl
edit_begins Insert key stamp literals cat = refl
edit_begins Update key stamp literals cat = refl

-- the place of a stamp, by the shape of the series
not_any : (o : Option CalendarPlan) (f : CalendarPlan → Shape) → ((c : CalendarPlan) → f c ≡ shapes.Irregular → ⊥) → option_map f o ≡ Some shapes.Irregular → ⊥
not_any None f grid is = absurd (cc)
not_any (Some c) f grid is = let same : f c ≡ shapes.Irregular = cc in grid c same

place_any : (cat : Catalogue) (kind : SeriesKind) (at : ℤ) (m : Elements) → shape_of cat kind ≡ Some shapes.Irregular → a_place kind at m ≡ placed (place_for at (entries m))
unfolding a_place
place_any cat Irregular at m is = refl
place_any cat (Regular calendar origin) at m is = absurd (not_any (calendar_named cat calendar) _ (λ c same. absurd (cc)) is)

place_same : (cat : Catalogue) (kind : SeriesKind) (grid : GridPlan) (at : ℤ) (m : Elements) → shape_of cat kind ≡ Some (shapes.Regular grid) → a_place kind at m ≡ Ok at
unfolding a_place
place_same cat Irregular grid at m is = absurd (cc)
place_same cat (Regular calendar origin) grid at m is = refl

place_from : (shape : Shape) (cat : Catalogue) (s : Series) (at : ℤ) (es : List Element) → shape_of cat s.kind ≡ Some shape → entries s.elements ≡ es → a_place s.kind at s.elements ≡ target_from shape Put at es
place_from shapes.Irregular cat s at es lies is = place_any cat s.kind at s.elements lies ∙ ap (λ (fs : List Element). placed (place_for at fs)) is
place_from (shapes.Regular grid) cat s at es lies is = place_same cat s.kind grid at s.elements lies

-- what the other kinds seek, whatever the shape
no_dups_from : (shape : Shape) (at : ℤ) (es : List Element) → target_from shape PutNoDups at es ≡ Ok at
no_dups_from shapes.Irregular at es = refl
no_dups_from (shapes.Regular grid) at es = refl

insert_from : (shape : Shape) (at : ℤ) (es : List Element) (o : Option Row) → element_at at es ≡ o → target_from shape Insert at es ≡ (if is_some o then Err refusals.Duplicate else Ok at)
insert_from shapes.Irregular at es o found = ap (λ (p : Option Row). if is_some p then Err refusals.Duplicate else Ok at) found
insert_from (shapes.Regular grid) at es (Some row) found = rw found refl
insert_from (shapes.Regular grid) at es None found = rw found refl

update_from : (shape : Shape) (at : ℤ) (es : List Element) (o : Option Row) → element_at at es ≡ o → target_from shape Update at es ≡ (if is_some o then Ok at else Err refusals.Missing)
update_from shapes.Irregular at es o found = ap (λ (p : Option Row). if is_some p then Ok at else Err refusals.Missing) found
update_from (shapes.Regular grid) at es (Some row) found = rw found refl
update_from (shapes.Regular grid) at es None found = rw found refl

-- Each kind of edit seeks the stamp at which its row is put, and then puts it.
module _ (shape : Shape) (key : List ℕ) (cat : Catalogue) (s : Series) (row : Row) (es : List Element) (lies : shape_of cat s.kind ≡ Some shape) (entries_are : entries s.elements ≡ es) (found : (at : ℤ) → get s.elements at ≡ element_at at es) where
  aims_insert : (at : ℤ) (o : Option Row) → element_at at es ≡ o → edit_from Insert key cat s row at ≡ (target_from shape Insert at es >>= add_rest key row cat s)
  aims_insert at (Some old) there =
      on_err _ refusals.Duplicate _ (refused _ refusals.Duplicate (ap (λ (p : Option Row). is_some p) (found at ∙ there)))
      ∙ sym (on_err (target_from shape Insert at es) refusals.Duplicate (add_rest key row cat s) (insert_from shape at es (Some old) there))
  aims_insert at None there =
      on_ok _ tt _ (passed _ refusals.Duplicate (ap (λ (p : Option Row). is_some p) (found at ∙ there)))
      ∙ sym (on_ok (target_from shape Insert at es) at (add_rest key row cat s) (insert_from shape at es None there))

  aims_update : (at : ℤ) (o : Option Row) → element_at at es ≡ o → (target_from shape Update at es ≡ Ok at → IsSome o → charge_by_name s.container (with_element_of key s at row cat) ≤ quota_of cat s)
      → edit_from Update key cat s row at ≡ (target_from shape Update at es >>= add_rest key row cat s)
  aims_update at (Some old) there pays =
      let target = update_from shape at es (Some old) there in
      on_ok _ old _ (row-there at s.elements old (found at ∙ there))
      ∙ sym (on_ok (target_from shape Update at es) at (add_rest key row cat s) target ∙ on_ok _ tt _ (quota-kept _ _ (pays target refl)))
  aims_update at None there pays =
      on_err _ refusals.Missing _ (row-missing at s.elements (found at ∙ there))
      ∙ sym (on_err (target_from shape Update at es) refusals.Missing (add_rest key row cat s) (update_from shape at es None there))

  aims_from : (how : EditKind) (at : ℤ) → (target_from shape how at es ≡ Ok at → IsSome (element_at at es) → charge_by_name s.container (with_element_of key s at row cat) ≤ quota_of cat s)
      → edit_from how key cat s row at ≡ (target_from shape how at es >>= add_rest key row cat s)
  aims_from Put at pays = ap (λ (t : Tried ℤ). t >>= add_rest key row cat s) (place_from shape cat s at es lies entries_are)
  aims_from PutNoDups at pays = sym (on_ok (target_from shape PutNoDups at es) at (add_rest key row cat s) (no_dups_from shape at es))
  aims_from Insert at pays = aims_insert at (element_at at es) refl
  aims_from Update at pays = aims_update at (element_at at es) refl pays

  module _ (how : EditKind) (stamp : ℤ) (pays : (at : ℤ) → target_in shape how stamp es ≡ Ok at → IsSome (element_at at es) → charge_by_name s.container (with_element_of key s at row cat) ≤ quota_of cat s) where
    aims_addressed : (t : Tried ℤ) → addressed shape stamp ≡ t → edit_rest how key stamp cat s row ≡ (target_in shape how stamp es >>= add_rest key row cat s)
    aims_addressed (Ok at) is =
        let address = address_is s stamp cat shape lies ∙ is in
        let target = on_ok (addressed shape stamp) at (λ at. target_from shape how at es) is in
        on_ok (an_address s stamp cat) at (edit_from how key cat s row) address
        ∙ aims_from how at (λ goes there. pays at (target ∙ goes) there)
        ∙ ap (λ (t : Tried ℤ). t >>= add_rest key row cat s) (sym target)
    aims_addressed (Err why) is =
        let address = address_is s stamp cat shape lies ∙ is in
        on_err (an_address s stamp cat) why (edit_from how key cat s row) address
        ∙ sym (on_err (target_in shape how stamp es) why (add_rest key row cat s) (on_err (addressed shape stamp) why (λ at. target_from shape how at es) is))

    pub edit_aims : edit_rest how key stamp cat s row ≡ (target_in shape how stamp es >>= add_rest key row cat s)
    edit_aims = aims_addressed (addressed shape stamp) refl

-- a stamp that is sought is one
one_target : (t : Tried ℤ) (at other : ℤ) → t ≡ Ok at → t ≡ Ok other → at ≡ other
one_target t at other first second = let same : ◌≡◌ {A = Tried ℤ} (Ok at) (Ok other) = sym first ∙ second in cc

no_target : (t : Tried ℤ) (at : ℤ) (why : Refusal) → t ≡ Err why → t ≡ Ok at → ⊥
no_target t at why first second = let same : ◌≡◌ {A = Tried ℤ} (Err why) (Ok at) = sym first ∙ second in cc

none_there : (o : Option Row) → o ≡ None → IsSome o → ⊥
none_there (Some row) none some = cc
none_there None none some = absurd (cc)

-- a series with its container, its columns, its shape and its elements in order
module _ (l : Layout) (space : Directory) (key : List ℕ) (shape : Shape) (laid : IsLaidOut shape) (slot : ℕ) (h : Heading) (row : Row) (pages : ℕ → List ℕ) (es : List Element) (sound : IsSound l) (filled : AreFilled l) (lists : ListsPlaces space l) (within : slot < 4096)
    (on : SeriesIn l key slot) (is : IsSeries slot on.s on.c h l.definitions) (lies : shape_in l.definitions on.s.regular ≡ Some shape) (kind : shape_of (catalogue_of l) (series_of l slot on.s).kind ≡ Some shape)
    (has : HasSeen shape slot h.columns pages (places_of slot space) l es) where
  abbrev q : ℕ
  q = page_room h.columns

  abbrev series : Series
  series = series_of l slot on.s

  quota_is : quota_of (catalogue_of l) series ≡ on.c.quota
  quota_is = charges.quota l (length l.element_pages) slot on.s on.c sound.definitions is.container

  -- what the container is charged with the row at a stamp
  abbrev pub charge_at : ℤ → ℕ
  charge_at at = charge_by_name series.container (with_element_of key series at row (catalogue_of l))

  charge_is : (at : ℤ) → charge_at at + charge_by shape h.columns (places_of slot space) ≡ container_charge l.definitions space on.s.container q + elements_charge h.columns shape (by_stamp (with_element at row es))
  charge_is at =
      let elements_now = elements_at slot l.element_pages in
      let put = as_maps.put at row es ∙ ap (λ (m : Elements). insert m at row) (sym has.elements) in
      let more = ap (elements_charge h.columns shape) put in
      let own = charges.elements l space slot on.s h shape sound filled lists within is.there (heading_there l.definitions slot on.s on.c h is) lies
      ∙ charge_same l.definitions on.s.regular shape lies h.columns (places_of slot space) in
      let with = charges.with l (length l.element_pages) slot on.s on.c h shape (insert elements_now at row) sound.definitions is.there is.container is.heading lies in
      let named = charges.name l on.s.container on.c h sound filled is.container is.heading in
      let placed = charges.pages l space on.s.container q sound.definitions.tables lists in
      let base : charge_by_name on.c.name (with_element_of on.s.key series at row (catalogue_of l)) + charge_by shape h.columns (places_of slot space)
      ≡ container_charge l.definitions space on.s.container q + elements_charge h.columns shape (by_stamp (with_element at row es)) = omega (arith, more, own, with, named, placed) in
      let name = ap (λ (name : List ℕ). charge_by_name name (with_element_of key series at row (catalogue_of l))) on.container
      ∙ ap (λ (k : List ℕ). charge_by_name on.c.name (with_element_of k series at row (catalogue_of l))) (sym on.named) in
      omega (arith, base, name)

  -- by what the others are charged, and what the elements cost with it
  module _ (others quota : ℕ) (budget : IsBudget slot on.s on.c h l.definitions space others quota) where
    pub charge_with : (at : ℤ) (n : ℕ) → elements_charge h.columns shape (by_stamp (with_element at row es)) ≡ n → charge_at at ≡ others + n
    charge_with at n costs =
        let charge = charge_is at in
        let all = budget.all in
        let own = charge_same l.definitions on.s.regular shape lies h.columns (places_of slot space) in
        omega (arith, charge, all, own, costs)

    -- where it is written on pages with these places
    pub charge_written : (at : ℤ) (new : List Place) (written : ℕ → List ℕ) → IsRising new → HaveElements shape slot h.columns written new (with_element at row es) → charge_at at ≡ others + charge_by shape h.columns new
    charge_written at new written rising have = charge_with at (charge_by shape h.columns new) (costs shape laid slot h.columns written new (with_element at row es) rising have)

  -- what the command comes to
  module _ (how : EditKind) (stamp : ℤ) (literals : List Literal) (good : a_row h.columns literals ≡ Ok row) where
    edit_outcome : ((at : ℤ) → target_in shape how stamp es ≡ Ok at → IsSome (element_at at es) → charge_at at ≤ on.c.quota)
        → outcome (Ok (edit_of how key stamp literals)) (catalogue_of l) ≡ (target_in shape how stamp es >>= add_rest key row (catalogue_of l) series)
    edit_outcome pays =
        let columns = charges.columns l (length l.element_pages) slot on.s on.c h sound.definitions is.container is.heading in
        edit_begins how key stamp literals (catalogue_of l) ∙ on_ok _ series _ (wanted-there key (catalogue_of l).series series on.listed)
        ∙ on_ok _ row _ (ap (λ (cs : List Column). a_row cs literals) columns ∙ good)
        ∙ edit_aims shape key (catalogue_of l) series row es kind (entries_in shape slot h.columns pages (places_of slot space) l es has) (found_in shape slot h.columns pages (places_of slot space) l es has) how stamp
        (λ at goes there. let charge = pays at goes there in omega (arith, charge, quota_is))

    pub edit_done : (at : ℤ) → target_in shape how stamp es ≡ Ok at → charge_at at ≤ on.c.quota
        → outcome (Ok (edit_of how key stamp literals)) (catalogue_of l) ≡ Ok (stamp_line at, with_elements key series (by_stamp (with_element at row es)) (catalogue_of l))
    edit_done at aims fits =
        edit_outcome (λ other goes there. subst (λ (s : ℤ). charge_at s ≤ on.c.quota) (one_target (target_in shape how stamp es) at other aims goes) fits)
        ∙ on_ok (target_in shape how stamp es) at (add_rest key row (catalogue_of l) series) aims ∙ on_ok _ tt _ (quota-kept _ _ (omega (arith, fits, quota_is)))
        ∙ ap (λ (m : Elements). Ok (stamp_line at, with_elements key series m (catalogue_of l))) (ap (λ (m : Elements). insert m at row) has.elements ∙ sym (as_maps.put at row es))

    pub edit_refused : (refusal : Refusal) → target_in shape how stamp es ≡ Err refusal → outcome (Ok (edit_of how key stamp literals)) (catalogue_of l) ≡ Err refusal
    edit_refused refusal why =
        edit_outcome (λ at goes there. absurd (no_target (target_in shape how stamp es) at refusal why goes))
        ∙ on_err (target_in shape how stamp es) refusal (add_rest key row (catalogue_of l) series) why

    pub edit_full : (at : ℤ) (charge quota : ℕ) → target_in shape how stamp es ≡ Ok at → element_at at es ≡ None → charge_at at ≡ charge → on.c.quota ≡ quota → quota < charge
        → outcome (Ok (edit_of how key stamp literals)) (catalogue_of l) ≡ Err (refusals.ContainerFull charge quota)
    edit_full at charge quota aims absent charged most over =
        edit_outcome (λ other goes there. absurd (
        none_there (element_at at es) absent (subst (λ (s : ℤ). IsSome (element_at s es)) (sym (one_target (target_in shape how stamp es) at other aims goes)) there)))
        ∙ on_ok (target_in shape how stamp es) at (add_rest key row (catalogue_of l) series) aims
        ∙ on_err _ (refusals.ContainerFull (charge_at at) (quota_of (catalogue_of l) series)) _ (quota-passed _ _ (omega (arith, charged, quota_is, most, over)))
        ∙ (λ i. Err (refusals.ContainerFull (charged i) ((quota_is ∙ most) i)))
