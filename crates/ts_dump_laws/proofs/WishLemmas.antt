-- The texts of what is wished of a catalogue: of the same without elements, and of what is left of a map.
use Rattle.std.proofs.Common.{◌≡◌, ℕ, Bool, true, false, cond, ◌||◌, ◌&&◌, T, Some, None, List, [], ◌∷◌, ◌++◌, map, refl, ap, sym, ◌∙◌, subst, append-nil, inl, inr}
use Rattle.std.proofs.lemmas.Bool.{cases_Bool}
use Rattle.std.proofs.lemmas.List.{nil_from_length}
use Rattle.std.specs.List.{filter, flat_map}
use Rattle.std.specs.Ordering.{is_eq, eq_by_cmp, int_cmp}
use Rattle.std.specs.FinMap.{empty, entries, entries_sorted, find, get, get-entries, is_sorted, len-empty, len-entries}
use Rattle.std.specs.FinMap.Entries.{below_all}
use Rattle.ts_row.specs.Row.{Row, Heading}
use Rattle.ts_pattern.specs.Patterns.{Plan}
use Rattle.ts_calendar.specs.declared.text.CalendarText.{CalendarText}
use Rattle.ts_model.specs.Catalogue.{Named, name_cmp, Container, Series, Catalogue, columns_of}
use Rattle.ts_model.proofs.OrderLemmas.{both, eq_ties, less, ties-same}
use Rattle.ts_dump_texts.specs.Texts.{row_type_text, pattern_text, calendar_text, container_text}
use Rattle.ts_dump_texts.specs.OfCatalogue.{text_made_as, texts_of_definitions, texts_of_element, texts_of_series, texts_of}
use Rattle.ts_dump_laws.specs.Statements.{each_as, emptied, without_elements}
use Rattle.ts_dump_laws.specs.Alone.{is_among, only}
use Rattle.ts_dump_laws.proofs.AloneLemmas.{only_entries}
use Rattle.ts_dump_laws.proofs.MadeLemmas.{bare_entries}

-- the series without elements are made by the same texts
same_texts : (es : List (List ℕ × Series)) → map (λ (e : List ℕ × Series). text_made_as e.1.kind e.0 e.1.container) (each_as emptied es) ≡ map (λ (e : List ℕ × Series). text_made_as e.1.kind e.0 e.1.container) es
same_texts [] = refl
same_texts (e ∷ es) = ap (λ (l : List (List ℕ)). text_made_as e.1.kind e.0 e.1.container ∷ l) (same_texts es)

no_entries : entries (empty {X = Row} {R = int_cmp}) ≡ []
no_entries = nil_from_length (entries (empty {X = Row} {R = int_cmp})) (sym (len-entries (empty {X = Row} {R = int_cmp})) ∙ len-empty int_cmp Row)

-- and have no texts of elements
no_texts : (cat : Catalogue) (es : List (List ℕ × Series)) → flat_map (texts_of_series cat) (each_as emptied es) ≡ []
no_texts cat [] = refl
no_texts cat (e ∷ es) = λ i. flat_map (texts_of_element e.0 (columns_of cat (emptied e.1))) (no_entries i) ++ no_texts cat es i

-- the texts without elements are those of the definitions
pub bare_texts : (cat : Catalogue) → texts_of (without_elements cat) ≡ texts_of_definitions cat
bare_texts cat =
    let bare = without_elements cat in
    let es = entries cat.series in
    let made : map (λ (e : List ℕ × Series). text_made_as e.1.kind e.0 e.1.container) (entries bare.series) ≡ map (λ (e : List ℕ × Series). text_made_as e.1.kind e.0 e.1.container) es =
    ap (map (λ (e : List ℕ × Series). text_made_as e.1.kind e.0 e.1.container)) (bare_entries cat.series) ∙ same_texts es in
    let defined : texts_of_definitions bare ≡ texts_of_definitions cat =
    ap (λ (l : List (List ℕ)). map (λ (e : List ℕ × Heading). row_type_text e.0 e.1) (entries cat.row_types) ++ (map (λ (e : List ℕ × Plan). pattern_text e.0 e.1) (entries cat.patterns)
    ++ (map (λ (e : List ℕ × CalendarText). calendar_text e.0 e.1) (entries cat.calendars)
    ++ (map (λ (e : List ℕ × Container). container_text e.0 e.1.row_type e.1.quota) (entries cat.containers) ++ l)))) made in
    let within : flat_map (texts_of_series bare) (entries bare.series) ≡ [] = ap (flat_map (texts_of_series bare)) (bare_entries cat.series) ∙ no_texts bare es in
    (λ i. defined i ++ within i) ∙ append-nil (texts_of_definitions cat)

-- nothing is left under no name
none_left : {X : Type 0} (es : List (List ℕ × X)) → filter (λ e. is_among [] e.0) es ≡ []
none_left [] = refl
none_left (e ∷ es) = none_left es

pub no_entry : {X : Type 0} (m : Named X) → entries (only [] m) ≡ []
no_entry m = only_entries [] m ∙ none_left (entries m)

-- under one name that stands there one entry is left
none_behind : {X : Type 0} (name : List ℕ) (es : List (List ℕ × X)) → T (below_all name_cmp name es) → filter (λ e. is_among (name ∷ []) e.0) es ≡ []
none_behind name [] below = refl
none_behind {X} name (e ∷ es) below =
    let rest = filter (λ (f : List ℕ × X). is_among (name ∷ []) f.0) es in
    let other : is_among (name ∷ []) e.0 ≡ false = ap (λ (b : Bool). b || false) (eq_ties name e.0 ∙ ap is_eq (less _ (both _ _ below).0)) in
    ap (λ (b : Bool). cond b (e ∷ rest) rest) other ∙ none_behind name es (both _ _ below).1

one_left : {X : Type 0} (name : List ℕ) (x : X) (es : List (List ℕ × X)) → T (is_sorted name_cmp es) → find name_cmp name es ≡ Some x → filter (λ e. is_among (name ∷ []) e.0) es ≡ (name, x) ∷ []
one_left name x [] sorted found = absurd (let no : ⊥ = cc in no)
one_left {X} name x (e ∷ es) sorted found =
    let rest = filter (λ (f : List ℕ × X). is_among (name ∷ []) f.0) es in
    elim (cases_Bool (eq_by_cmp name_cmp name e.0)) [
      | inl is ↦
          let here : is_among (name ∷ []) e.0 ≡ true = ap (λ (b : Bool). b || false) (eq_ties name e.0 ∙ is) in
          let same : name ≡ e.0 = ties-same name e.0 is in
          let first : Some e.1 ≡ Some x = sym (ap (λ (b : Bool). cond b (Some e.1) (find name_cmp name es)) is) ∙ found in
          let its : e.1 ≡ x = cc in
          let none : rest ≡ [] = none_behind name es (subst (λ (n : List ℕ). T (below_all name_cmp n es)) (sym same) (both _ _ sorted).0) in
          ap (λ (b : Bool). cond b (e ∷ rest) rest) here ∙ (λ i. (sym same i, its i) ∷ none i)
      | inr other ↦
          let not_here : is_among (name ∷ []) e.0 ≡ false = ap (λ (b : Bool). b || false) (eq_ties name e.0 ∙ other) in
          let later : find name_cmp name es ≡ Some x = sym (ap (λ (b : Bool). cond b (Some e.1) (find name_cmp name es)) other) ∙ found in
          ap (λ (b : Bool). cond b (e ∷ rest) rest) not_here ∙ one_left name x es (both _ _ sorted).1 later
    ]

pub one_entry : {X : Type 0} (name : List ℕ) (m : Named X) (x : X) → get m name ≡ Some x → entries (only (name ∷ []) m) ≡ (name, x) ∷ []
one_entry name m x there = only_entries (name ∷ []) m ∙ one_left name x (entries m) (entries_sorted m) (sym (get-entries m name) ∙ there)
