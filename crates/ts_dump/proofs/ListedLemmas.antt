-- The texts of definitions and of series by their slots are those of the catalogue.
use Rattle.std.proofs.Common.{◌≡◌, ℕ, ◌≤◌, Option, Some, None, List, [], ◌∷◌, ◌++◌, map, refl, ap, sym, ◌∙◌, arith}
use Rattle.std.specs.Option.{option_map, unwrap_or}
use Rattle.std.specs.List.{flat_map}
use Rattle.std.specs.FinMap.{entries}
use Rattle.std.proofs.lemmas.List.{get_or_past}
use Rattle.ts_model.specs.declared.kind.Kind.{Kind}
use Rattle.ts_model.specs.declared.kind.Kind.TheVariants as kinds
use Rattle.ts_model.specs.declared.def.Def.{Def}
use Rattle.ts_model.specs.Catalogue.{Series, In}
use Rattle.ts_model.specs.Definitions.{Definitions, KindDef, SeriesDef, IsDefinitions, name_of, to_def, table_of, at_slot, slots, limit, of_series}
use Rattle.ts_model.specs.Definitions.{name_in as name_of_kind}
use Rattle.ts_layout.specs.Meaning.{Layout, def_at, name_at, named_in, value_of, series_of, catalogue_of}
use Rattle.ts_layout.proofs.CallerLemmas.{at_slot-map, sizes}
use Rattle.ts_check.proofs.WalkLemmas.{with_value, walk, index_walk, value_walk, Stands, AllStand, walk_stands}
use Rattle.ts_dump_texts.specs.Texts.{row_type_text, pattern_text, calendar_text, container_text}
use Rattle.ts_dump_texts.specs.OfCatalogue.{text_made_as, texts_of_definitions, texts_of_series, texts_of}
use Rattle.ts_dump.specs.Listed.{name_in, text_of_def, text_if, text_at, texts_of_kind, definition_texts}
use Rattle.ts_dump.specs.Elements.{series_if, series_texts, all_series_texts}

-- the name of what stands in a slot, in its own table
name_alike : {A : Type 0} (f : A → Def) (o : Option A) → unwrap_or (option_map name_of (option_map f o)) [] ≡ unwrap_or (option_map (λ (a : A). name_of (f a)) o) []
name_alike f None = refl
name_alike f (Some a) = refl

pub name_is : (kind : Kind) (slot : ℕ) (d : Definitions) → name_in kind slot d ≡ name_at (name_of_kind kind) slot (table_of kind d)
name_is kind slot d =
    ap (λ (o : Option Def). unwrap_or (option_map name_of o) []) (at_slot-map (to_def kind) slot (table_of kind d))
    ∙ name_alike (to_def kind) (at_slot slot (table_of kind d))

-- past the last slot nothing stands
pub none_past : (kind : Kind) (slot : ℕ) (d : Definitions) → IsDefinitions d → limit kind ≤ slot → None ≡ def_at kind slot d
none_past kind slot d rules past = sym (get_or_past (slots kind d) slot None (omega (arith, past, sizes d rules kind)))

-- the text of a definition by what it is in the catalogue
abbrev pub text_of_value : (kind : Kind) → List ℕ × In kind → List ℕ
text_of_value kinds.RowType e = row_type_text e.0 e.1
text_of_value kinds.Pattern e = pattern_text e.0 e.1
text_of_value kinds.Calendar e = calendar_text e.0 e.1
text_of_value kinds.Container e = container_text e.0 e.1.row_type e.1.quota
text_of_value kinds.Series e = text_made_as e.1.kind e.0 e.1.container

pub text_alike : (kind : Kind) (l : Layout) (slot : ℕ) (a : KindDef kind) → text_of_def l.definitions (to_def kind a) ≡ text_of_value kind (name_of_kind kind a, value_of kind l slot a)
text_alike kinds.RowType l slot a = refl
text_alike kinds.Pattern l slot a = refl
text_alike kinds.Calendar l slot a = refl
text_alike kinds.Container l slot a = refl
text_alike kinds.Series l slot a = refl

module _ (kind : Kind) (l : Layout) where
  -- what stands there as it is in the catalogue
  abbrev valued : List ℕ × (ℕ × KindDef kind) → List ℕ × In kind
  valued = with_value (λ p. value_of kind l p.0 p.1)

  one_text : (e : List ℕ × (ℕ × KindDef kind)) → Stands (name_of_kind kind) (to_def kind) (λ a. refl) (table_of kind l.definitions) e
      → text_at kind l.definitions e.1.0 ≡ text_of_value kind (valued e) ∷ []
  one_text e stands =
      ap (text_if l.definitions) (at_slot-map (to_def kind) e.1.0 (table_of kind l.definitions) ∙ ap (option_map (to_def kind)) stands.there)
      ∙ ap (λ (text : List ℕ). text ∷ []) (text_alike kind l e.1.0 e.1.1)
      ∙ ap (λ (n : List ℕ). text_of_value kind (n, value_of kind l e.1.0 e.1.1) ∷ []) (sym stands.its_name)

  each_text : (ws : List (List ℕ × (ℕ × KindDef kind))) → AllStand (name_of_kind kind) (to_def kind) (λ a. refl) (table_of kind l.definitions) ws
      → flat_map (text_at kind l.definitions) (map (λ e. e.1.0) ws) ≡ map (text_of_value kind) (map valued ws)
  each_text [] all = refl
  each_text (w ∷ ws) all = λ i. one_text w all.0 i ++ each_text ws all.1 i

  kind_texts : texts_of_kind kind l.definitions ≡ map (text_of_value kind) (entries (named_in kind l))
  kind_texts =
      ap (flat_map (text_at kind l.definitions)) (index_walk (name_of_kind kind) (to_def kind) (λ a. refl) (table_of kind l.definitions))
      ∙ each_text (walk (name_of_kind kind) (to_def kind) (λ a. refl) (table_of kind l.definitions))
      (walk_stands (name_of_kind kind) (to_def kind) (λ a. refl) (table_of kind l.definitions))
      ∙ ap (λ (es : List (List ℕ × In kind)). map (text_of_value kind) es)
      (sym (value_walk (name_of_kind kind) (to_def kind) (λ a. refl) (value_of kind l) (table_of kind l.definitions)))

module _ (l : Layout) where
  pub texts_of_all : definition_texts l.definitions ≡ texts_of_definitions (catalogue_of l)
  texts_of_all =
      λ i. kind_texts kinds.RowType l i ++ (kind_texts kinds.Pattern l i ++ (kind_texts kinds.Calendar l i ++ (kind_texts kinds.Container l i ++ kind_texts kinds.Series l i)))

  one_series : (e : List ℕ × (ℕ × SeriesDef)) → Stands (λ (s : SeriesDef). s.key) of_series (λ s. refl) l.definitions.series e
      → series_texts l e.1.0 ≡ texts_of_series (catalogue_of l) (with_value (λ p. series_of l p.0 p.1) e)
  one_series e stands =
      ap (series_if l e.1.0) stands.there
      ∙ ap (λ (key : List ℕ). texts_of_series (catalogue_of l) (key, series_of l e.1.0 e.1.1)) (sym stands.its_name)

  each_series : (ws : List (List ℕ × (ℕ × SeriesDef))) → AllStand (λ (s : SeriesDef). s.key) of_series (λ s. refl) l.definitions.series ws
      → flat_map (series_texts l) (map (λ e. e.1.0) ws)
      ≡ flat_map (texts_of_series (catalogue_of l)) (map (with_value (λ p. series_of l p.0 p.1)) ws)
  each_series [] all = refl
  each_series (w ∷ ws) all = λ i. one_series w all.0 i ++ each_series ws all.1 i

  all_series : all_series_texts l ≡ flat_map (texts_of_series (catalogue_of l)) (entries (catalogue_of l).series)
  all_series =
      ap (flat_map (series_texts l)) (index_walk (λ (s : SeriesDef). s.key) of_series (λ s. refl) l.definitions.series)
      ∙ each_series (walk (λ (s : SeriesDef). s.key) of_series (λ s. refl) l.definitions.series)
      (walk_stands (λ (s : SeriesDef). s.key) of_series (λ s. refl) l.definitions.series)
      ∙ ap (λ (es : List (List ℕ × Series)). flat_map (texts_of_series (catalogue_of l)) es)
      (sym (value_walk (λ (s : SeriesDef). s.key) of_series (λ s. refl) (series_of l) l.definitions.series))

  pub whole_texts : definition_texts l.definitions ++ all_series_texts l ≡ texts_of (catalogue_of l)
  whole_texts = λ i. texts_of_all i ++ all_series i
