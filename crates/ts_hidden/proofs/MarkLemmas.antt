-- Marks on keys.
use Rattle.std.proofs.Common.{◌≡◌, ℕ, Bool, true, false, ◌||◌, Option, Some, None, List, [], ◌∷◌, map, refl, sym, ap, ◌∙◌}
use Rattle.std.specs.declared.cmp.Ordering.{Ordering}
use Rattle.std.specs.declared.cmp.Ordering.TheVariants.{Less, Equal, Greater}
use Rattle.std.specs.BTreeSet.{insert_key}
use Rattle.std.specs.Cmp.Lexicographic.{slice_cmp}
use Rattle.std.specs.List.{list_any}
use Rattle.std.specs.Option.{option_map}
use Rattle.std.specs.Ordering.{nat_cmp, is_eq, match_ordering}
use Rattle.std.specs.Prelude.{bytes_eq}
use Rattle.std.proofs.lemmas.Map.Text.{is_eq-slice_cmp}
use Rattle.std.proofs.lemmas.Slice.Eq.{bytes_eq-Decides}
use Rattle.ts_model.specs.declared.def.Def.{Def}
use Rattle.ts_model.specs.declared.kind.Kind.TheVariants as kinds
use Rattle.ts_model.specs.Definitions.{Definitions, SeriesDef, of_series, at_slot, def_at}
use Rattle.ts_layout.proofs.CallerLemmas.{at_slot-map}
use Rattle.ts_hidden.specs.Marks.{is_marked, Include}

or_true : (a : Bool) → (a || true) ≡ true
or_true true = refl
or_true false = refl

or_first : (a b : Bool) → a ≡ true → (a || b) ≡ true
or_first true b is = refl
or_first false b is = absurd (cc)

or_both : (a b : Bool) → (a || b) ≡ false → (a ≡ false) × (b ≡ false)
or_both true b none = absurd (cc)
or_both false b none = (refl, none)

neither : (a b : Bool) → a ≡ false → b ≡ false → (a || b) ≡ false
neither true b first second = absurd (cc)
neither false b first second = second

-- keys in the order of their bytes
module _ {K : Type 0} (bytes : K → List ℕ) where
  abbrev pub by_bytes : K → K → Ordering
  by_bytes x y = slice_cmp nat_cmp (bytes x) (bytes y)

  -- a search finds what is marked
  pub found : (key : List ℕ) (ks : List K) → list_any (λ k. is_eq (slice_cmp nat_cmp key (bytes k))) ks ≡ is_marked key (map bytes ks)
  found key [] = refl
  found key (x ∷ xs) =
      ap (λ (b : Bool). b || list_any (λ k. is_eq (slice_cmp nat_cmp key (bytes k))) xs) (is_eq-slice_cmp key (bytes x))
      ∙ ap (λ (b : Bool). bytes_eq key (bytes x) || b) (found key xs)

  -- what is put in is marked, and so is what was before
  pub marked_in : (key : K) (ks : List K) → is_marked (bytes key) (map bytes (insert_key by_bytes ks key)) ≡ true
  marked_in key [] = or_first (bytes_eq (bytes key) (bytes key)) false ((bytes_eq-Decides (bytes key) (bytes key)).1 refl)
  marked_in key (x ∷ xs) = by (by_bytes key x) refl (marked_in key xs)
    where
      by : (o : Ordering) → by_bytes key x ≡ o → is_marked (bytes key) (map bytes (insert_key by_bytes xs key)) ≡ true
          → is_marked (bytes key) (map bytes (match_ordering o (key ∷ x ∷ xs) (x ∷ xs) (x ∷ insert_key by_bytes xs key))) ≡ true
      by Less is rest = or_first _ (is_marked (bytes key) (map bytes (x ∷ xs))) ((bytes_eq-Decides (bytes key) (bytes key)).1 refl)
      by Equal is rest = or_first _ (is_marked (bytes key) (map bytes xs)) (sym (is_eq-slice_cmp (bytes key) (bytes x)) ∙ ap is_eq is)
      by Greater is rest = ap (λ (b : Bool). bytes_eq (bytes key) (bytes x) || b) rest ∙ or_true (bytes_eq (bytes key) (bytes x))

  pub marked_before : (key : K) (ks : List K) → Include (map bytes (insert_key by_bytes ks key)) (map bytes ks)
  marked_before key [] other none = refl
  marked_before key (x ∷ xs) other none = by (by_bytes key x) (marked_before key xs other) none
    where
      by : (o : Ordering) → (is_marked other (map bytes (insert_key by_bytes xs key)) ≡ false → is_marked other (map bytes xs) ≡ false)
          → is_marked other (map bytes (match_ordering o (key ∷ x ∷ xs) (x ∷ xs) (x ∷ insert_key by_bytes xs key))) ≡ false
          → is_marked other (map bytes (x ∷ xs)) ≡ false
      by Less rest none = (or_both (bytes_eq other (bytes key)) (is_marked other (map bytes (x ∷ xs))) none).1
      by Equal rest none = none
      by Greater rest none =
          let each = or_both (bytes_eq other (bytes x)) (is_marked other (map bytes (insert_key by_bytes xs key))) none in
          neither (bytes_eq other (bytes x)) (is_marked other (map bytes xs)) each.0 (rest each.1)

pub all_included : (marks : List (List ℕ)) → Include marks marks
all_included marks key none = none

-- the series of a definition in a slot
series_of_def : (o : Option SeriesDef) (def : Def) → option_map of_series o ≡ Some def → (s : SeriesDef) → o ≡ Some s → def ≡ of_series s
series_of_def None def is s there = absurd (cc)
series_of_def (Some t) def is s there = let same : of_series t ≡ def = cc in let own : t ≡ s = cc in sym same ∙ ap of_series own

pub series_in : (d : Definitions) (slot : ℕ) (def : Def) (s : SeriesDef) → def_at kinds.Series slot d ≡ Some def → at_slot slot d.series ≡ Some s → def ≡ of_series s
series_in d slot def s stands there = series_of_def (at_slot slot d.series) def (sym (at_slot-map of_series slot d.series) ∙ stands) s there

pub none_in : (d : Definitions) (slot : ℕ) (s : SeriesDef) → def_at kinds.Series slot d ≡ None → at_slot slot d.series ≡ Some s → ⊥
none_in d slot s none there = let never = sym none ∙ at_slot-map of_series slot d.series ∙ ap (option_map of_series) there in cc
