-- The texts of a series and of what it stands on, by their slots, are those of the catalogue of these alone.
use Rattle.std.proofs.Common.{◌≡◌, ℕ, ℤ, Option, Some, None, List, [], ◌∷◌, ◌++◌, map, refl, ap, sym, ◌∙◌, append-nil}
use Rattle.std.specs.Prelude.{option_to_list}
use Rattle.std.specs.Option.{option_map, option_and_then, unwrap_or}
use Rattle.std.specs.List.{flat_map}
use Rattle.std.specs.FinMap.{entries, get}
use Rattle.ts_row.specs.declared.kind.Column.{Column}
use Rattle.ts_row.specs.Row.{Heading}
use Rattle.ts_calendar.specs.declared.text.PatternPart.{PatternPart}
use Rattle.ts_calendar.specs.declared.text.CalendarText.{CalendarText}
use Rattle.ts_model.specs.declared.kind.Kind.{Kind}
use Rattle.ts_model.specs.declared.kind.Kind.TheVariants as kinds
use Rattle.ts_model.specs.declared.def.Def.{Def}
use Rattle.ts_model.specs.Catalogue.{Named, Container, SeriesKind, Series, Catalogue, columns_of, In, named}
use Rattle.ts_model.specs.Definitions.{Definitions, KindDef, RowTypeDef, PatternDef, CalendarDef, ContainerDef, SeriesDef, at_slot, to_def, of_series}
use Rattle.ts_layout.specs.Meaning.{Layout, IsSound, def_at, value_of, series_of, container_of, part_of, kind_in, catalogue_of}
use Rattle.ts_layout.specs.Lookup.{IsNamedAt}
use Rattle.ts_layout.proofs.CallerLemmas.{at_slot-map, container_of_series, row_type_of_container, grid_found, pattern_of_calendar, series_at}
use Rattle.ts_dump_texts.specs.OfCatalogue.{texts_of_definitions, texts_of_element, texts_of_series, texts_of}
use Rattle.ts_dump_laws.specs.Alone.{only, is_among, row_type_named, calendar_named_by, pattern_named_by, alone}
use Rattle.ts_dump_laws.specs.Alone.{pattern_of_calendar as patterns_named}
use Rattle.ts_dump_laws.proofs.AloneLemmas.{only_there, one_among}
use Rattle.ts_dump_laws.proofs.WishLemmas.{no_entry, one_entry}
use Rattle.ts_dump.specs.Listed.{text_if, text_at, text_in, found_by, row_type_of, pattern_of, calendar_of, container_slot, row_type_slot, calendar_slot, pattern_slot, texts_under}
use Rattle.ts_dump.specs.Listed.{container_of as container_of_def}
use Rattle.ts_dump.specs.Elements.{series_if, series_texts}
use Rattle.ts_dump.proofs.ListedLemmas.{text_of_value, text_alike}

-- the text in a slot is that of the one name that is left
module _ (kind : Kind) (l : Layout) (names : List (List ℕ)) (slot : Option ℕ) where
  abbrev Left : Type 0
  Left = text_in kind l.definitions slot ≡ map (text_of_value kind) (entries (only names (named kind (catalogue_of l))))

  none_left : names ≡ [] → slot ≡ None → Left
  none_left nameless empty =
      ap (text_in kind l.definitions) empty
      ∙ sym (ap (λ (ns : List (List ℕ)). map (text_of_value kind) (entries (only ns (named kind (catalogue_of l))))) nameless
      ∙ ap (map (text_of_value kind)) (no_entry (named kind (catalogue_of l))))

  one_left : (name : List ℕ) (at : ℕ) (a : KindDef kind) → IsNamedAt kind l at name a → names ≡ name ∷ [] → slot ≡ Some at → Left
  one_left name at a its one is =
      ap (text_in kind l.definitions) is
      ∙ ap (text_if l.definitions) its.def
      ∙ ap (λ (text : List ℕ). text ∷ []) (text_alike kind l at a)
      ∙ ap (λ (n : List ℕ). text_of_value kind (n, value_of kind l at a) ∷ []) its.its_name
      ∙ sym (ap (λ (ns : List (List ℕ)). map (text_of_value kind) (entries (only ns (named kind (catalogue_of l))))) one
      ∙ ap (map (text_of_value kind)) (one_entry name (named kind (catalogue_of l)) (value_of kind l at a) its.listed))

module _ (l : Layout) (sound : IsSound l) (slot : ℕ) (s : SeriesDef) (there : at_slot slot l.definitions.series ≡ Some s) where
  abbrev cat : Catalogue
  cat = catalogue_of l

  abbrev its : Series
  its = series_of l slot s

  abbrev sub : Catalogue
  sub = alone s.key its cat

  own_name : IsNamedAt kinds.Series l slot s.key s
  own_name = series_at l slot s sound there

  holder : (c : ContainerDef) × IsNamedAt kinds.Container l s.container its.container c
  holder = container_of_series l slot s sound there

  row_type : (r : RowTypeDef) × IsNamedAt kinds.RowType l holder.0.row_type (container_of l.definitions holder.0).row_type r
  row_type = row_type_of_container l s.container holder.0 sound holder.1.there

  -- its container, and the row type of that
  container_is : container_slot l.definitions slot ≡ Some s.container
  container_is = ap (option_and_then container_of_def) own_name.def

  row_type_is : row_type_slot l.definitions slot ≡ Some holder.0.row_type
  row_type_is =
      ap (option_and_then (found_by kinds.Container row_type_of l.definitions)) container_is
      ∙ ap (option_and_then row_type_of) holder.1.def

  row_type_name : row_type_named cat its ≡ (container_of l.definitions holder.0).row_type ∷ []
  row_type_name = ap (λ (o : Option Container). option_to_list (option_map (λ (c : Container). c.row_type) o)) holder.1.listed

  row_types_left : Left kinds.RowType l (row_type_named cat its) (row_type_slot l.definitions slot)
  row_types_left = one_left kinds.RowType l (row_type_named cat its) (row_type_slot l.definitions slot) (container_of l.definitions holder.0).row_type holder.0.row_type row_type.0 row_type.1 row_type_name row_type_is

  containers_left : Left kinds.Container l (its.container ∷ []) (container_slot l.definitions slot)
  containers_left = one_left kinds.Container l (its.container ∷ []) (container_slot l.definitions slot) its.container s.container holder.0 holder.1 refl container_is

  series_left : Left kinds.Series l (s.key ∷ []) (Some slot)
  series_left = one_left kinds.Series l (s.key ∷ []) (Some slot) s.key slot s own_name refl refl

  -- its calendar, if it is regular
  calendar_is : calendar_slot l.definitions slot ≡ option_map (λ (r : ℕ × ℤ). r.0) s.regular
  calendar_is = ap (option_and_then calendar_of) own_name.def

  calendars_left : Left kinds.Calendar l (calendar_named_by its.kind) (calendar_slot l.definitions slot)
  calendars_left = by s.regular refl
    where
      by : (regular : Option (ℕ × ℤ)) → s.regular ≡ regular → Left kinds.Calendar l (calendar_named_by its.kind) (calendar_slot l.definitions slot)
      by None is = none_left kinds.Calendar l (calendar_named_by its.kind) (calendar_slot l.definitions slot)
          (ap (λ (r : Option (ℕ × ℤ)). calendar_named_by (kind_in l.definitions r)) is)
          (calendar_is ∙ ap (option_map (λ (r : ℕ × ℤ). r.0)) is)
      by (Some (at, origin)) is =
          let grid = grid_found l slot at origin s sound there is in
          one_left kinds.Calendar l (calendar_named_by its.kind) (calendar_slot l.definitions slot) grid.0 at grid.1 grid.3
          (ap calendar_named_by grid.2)
          (calendar_is ∙ ap (option_map (λ (r : ℕ × ℤ). r.0)) is)

  -- the pattern of this, if it was made by its name
  abbrev patterns : List (List ℕ)
  patterns = flat_map (patterns_named cat) (calendar_named_by its.kind)

  pattern_is : (at : ℕ) (origin : ℤ) → s.regular ≡ Some (at, origin) → (name : List ℕ) (c : CalendarDef) → IsNamedAt kinds.Calendar l at name c → pattern_slot l.definitions slot ≡ c.by
  pattern_is at origin is name c named =
      ap (option_and_then (found_by kinds.Calendar pattern_of l.definitions)) (calendar_is ∙ ap (option_map (λ (r : ℕ × ℤ). r.0)) is)
      ∙ ap (option_and_then pattern_of) named.def

  of_calendar : (at : ℕ) (origin : ℤ) → s.regular ≡ Some (at, origin) → (name : List ℕ) (c : CalendarDef) → calendar_named_by its.kind ≡ name ∷ [] → IsNamedAt kinds.Calendar l at name c
      → (by : Option ℕ) → c.by ≡ by → Left kinds.Pattern l patterns (pattern_slot l.definitions slot)
  of_calendar at origin is name c one named None by =
      none_left kinds.Pattern l patterns (pattern_slot l.definitions slot)
      (ap (flat_map (patterns_named cat)) one
      ∙ ap (λ (o : Option CalendarText). flat_map (λ (t : CalendarText). pattern_named_by t.part) (option_to_list o) ++ []) named.listed
      ∙ ap (λ (o : Option ℕ). (pattern_named_by (part_of l.definitions c o) ++ []) ++ []) by)
      (pattern_is at origin is name c named ∙ by)
  of_calendar at origin is name c one named (Some pattern) by =
      let found = pattern_of_calendar l at pattern c sound named.there by in
      one_left kinds.Pattern l patterns (pattern_slot l.definitions slot) found.0 pattern found.1 found.3
      (ap (flat_map (patterns_named cat)) one
      ∙ ap (λ (o : Option CalendarText). flat_map (λ (t : CalendarText). pattern_named_by t.part) (option_to_list o) ++ []) named.listed
      ∙ ap (λ (p : PatternPart). (pattern_named_by p ++ []) ++ []) found.2)
      (pattern_is at origin is name c named ∙ by)

  patterns_left : Left kinds.Pattern l patterns (pattern_slot l.definitions slot)
  patterns_left = by s.regular refl
    where
      by : (regular : Option (ℕ × ℤ)) → s.regular ≡ regular → Left kinds.Pattern l patterns (pattern_slot l.definitions slot)
      by None is = none_left kinds.Pattern l patterns (pattern_slot l.definitions slot)
          (ap (λ (r : Option (ℕ × ℤ)). flat_map (patterns_named cat) (calendar_named_by (kind_in l.definitions r))) is)
          (ap (option_and_then (found_by kinds.Calendar pattern_of l.definitions)) (calendar_is ∙ ap (option_map (λ (r : ℕ × ℤ). r.0)) is))
      by (Some (at, origin)) is =
          let grid = grid_found l slot at origin s sound there is in
          of_calendar at origin is grid.0 grid.1 (ap calendar_named_by grid.2) grid.3 grid.1.by refl

  -- the definitions
  texts_left : texts_under l.definitions slot ≡ texts_of_definitions sub
  texts_left = λ i. row_types_left i ++ (patterns_left i ++ (calendars_left i ++ (containers_left i ++ series_left i)))

  -- the columns
  columns_left : columns_of sub its ≡ columns_of cat its
  columns_left = of_both sub (same_container ∙ holder.1.listed) (same_row_type ∙ row_type.1.listed) ∙ sym (of_both cat holder.1.listed row_type.1.listed)
    where
      same_container : get sub.containers its.container ≡ get cat.containers its.container
      same_container = only_there (its.container ∷ []) cat.containers its.container (one_among its.container [])

      name : List ℕ
      name = (container_of l.definitions holder.0).row_type

      same_row_type : get sub.row_types name ≡ get cat.row_types name
      same_row_type = only_there (row_type_named cat its) cat.row_types name (ap (λ (names : List (List ℕ)). is_among names name) row_type_name ∙ one_among name [])

      of_both : (c : Catalogue) → get c.containers its.container ≡ Some (container_of l.definitions holder.0) → get c.row_types name ≡ Some row_type.0.heading → columns_of c its ≡ row_type.0.heading.columns
      of_both c first second =
          ap (λ (o : Option Container). unwrap_or (option_map (λ (h : Heading). h.columns) (option_and_then (λ (x : Container). get c.row_types x.row_type) o)) []) first
          ∙ ap (λ (o : Option Heading). unwrap_or (option_map (λ (h : Heading). h.columns) o) []) second

  -- the elements
  elements_left : series_texts l slot ≡ flat_map (texts_of_series sub) (entries sub.series)
  elements_left =
      ap (series_if l slot) there
      ∙ (λ i. flat_map (texts_of_element s.key (sym columns_left i)) (entries its.elements))
      ∙ sym (append-nil (texts_of_series sub (s.key, its)))
      ∙ sym (ap (flat_map (texts_of_series sub)) (one_entry s.key cat.series its own_name.listed))

  pub alone_texts : texts_under l.definitions slot ++ series_texts l slot ≡ texts_of sub
  alone_texts = λ i. texts_left i ++ elements_left i
