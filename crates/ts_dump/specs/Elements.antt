-- The texts of elements.
use Rattle.std.specs.Prelude.{◌≡◌, ℕ, Option, Some, None, List, [], ◌∷◌, ◌++◌}
use Rattle.std.specs.List.{flat_map}
use Rattle.std.specs.FinMap.{values}
use Rattle.std.proofs.Common.{refl, sym, ap, ◌∙◌, subst}
use Rattle.std.proofs.lemmas.List.Concat.{flat_map-append}
use Rattle.ts_row.specs.declared.kind.Column.{Column}
use Rattle.ts_row.specs.Row.{Element}
use Rattle.ts_model.specs.declared.kind.Kind.TheVariants as kinds
use Rattle.ts_model.specs.Definitions.{SeriesDef, at_slot, slots, slots_by_name}
use Rattle.ts_layout.specs.Meaning.{Layout, series_of, catalogue_of}
use Rattle.ts_dump_texts.specs.OfCatalogue.{texts_of_element, texts_of_series}
use Rattle.ts_dump.specs.declared.grouping.Grouping.{Grouping}
use Rattle.ts_dump.specs.Placed.{ArePut, none_put, both_put}

-- the texts of elements of a series of a key
abbrev pub texts_of_elements : List ℕ → List Column → List Element → List (List ℕ)
texts_of_elements key columns es = flat_map (texts_of_element key columns) es

-- the element in a cell, if one stands there, as a list
abbrev pub one_of : Option Element → List Element
one_of None = []
one_of (Some e) = e ∷ []

-- The texts of these elements of a series were put behind others. The laws stand here since that of a trait takes its
-- proof from specs/.
pub record TextsPut (columns : List Column) (key : List ℕ) (g : Grouping) (old : List ℕ) (es : List Element)
    (same : List ℕ) (h : Grouping) (now : List ℕ) : Type 0 where
  pub one_key : same ≡ key
  pub put : ArePut g (texts_of_elements key columns es) h old now

pub none_taken : (columns : List Column) (key : List ℕ) (g : Grouping) (old : List ℕ)
    → TextsPut columns key g old [] key g old
none_taken columns key g old = record { one_key = refl; put = none_put g old }

pub texts_both : (key : List ℕ) (columns : List Column) (es others : List Element)
    → texts_of_elements key columns es ++ texts_of_elements key columns others
    ≡ texts_of_elements key columns (es ++ others)
texts_both key columns es others = sym (flat_map-append (texts_of_element key columns) es others)

pub both_taken : (columns : List Column) (key same last : List ℕ) (g h i : Grouping) (a b c : List ℕ)
    (es others : List Element) → TextsPut columns key g a es same h b → TextsPut columns same h b others last i c
    → TextsPut columns key g a (es ++ others) last i c
both_taken columns key same last g h i a b c es others p q = record {
  one_key = q.one_key ∙ p.one_key;
  put = subst (λ (texts : List (List ℕ)). ArePut g texts i a c) (texts_both key columns es others)
      (both_put g h i (texts_of_elements key columns es) (texts_of_elements key columns others) a b c p.put
      (subst (λ (k : List ℕ). ArePut h (texts_of_elements k columns others) i b c) p.one_key q.put));
}

-- the texts of the elements of the series in a slot, if one stands there
abbrev pub series_if : Layout → ℕ → Option SeriesDef → List (List ℕ)
series_if l slot None = []
series_if l slot (Some s) = texts_of_series (catalogue_of l) (s.key, series_of l slot s)

abbrev pub series_texts : Layout → ℕ → List (List ℕ)
series_texts l slot = series_if l slot (at_slot slot l.definitions.series)

-- those of all series, in the order of their keys
abbrev pub all_series_texts : Layout → List (List ℕ)
all_series_texts l = flat_map (series_texts l) (values (slots_by_name (slots kinds.Series l.definitions)))
