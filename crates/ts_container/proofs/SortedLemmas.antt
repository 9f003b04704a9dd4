-- The spans of all pages, sorted: they are apart and dense exactly where the pages of each series are in sequence.
use Rattle.std.specs.Prelude.{All, AllPairs, IsPermutation}
use Rattle.std.proofs.Common.{◌≡◌, ℕ, suc, ◌+◌, ◌<◌, ◌==◌, ◌⊎◌, Bool, true, false, cond, if◌then◌else◌, Option, Some, List, [], ◌∷◌, ◌++◌, map, filter, refl, sym, ap, subst, ◌∙◌, arith, inl, inr, ◌<ℤ◌}
use Rattle.std.specs.List.{flat_map}
use Rattle.std.proofs.lemmas.Bool.Decides.{nat_tests}
use Rattle.std.proofs.lemmas.Int.{ints}
use Rattle.std.proofs.lemmas.List.{map-append}
use Rattle.std.proofs.lemmas.List.Elements.{All-map, All-weaker, All-filter, filter-append, filter_passes}
use Rattle.std.proofs.lemmas.List.Sorted.{IsPermutation-map, IsPermutation-sym, IsPermutation-trans, All-permutation}
use Rattle.ts_row.specs.Row.{Heading}
use Rattle.ts_space.specs.declared.place.Place.{Place}
use Rattle.ts_cells.specs.IrregularPage.{page_room}
use Rattle.ts_page.specs.Pages.{first_element_page}
use Rattle.ts_offset.specs.declared.shape.Shape.{Shape}
use Rattle.ts_offset.specs.declared.shape.Shape.TheVariants.{Irregular}
use Rattle.ts_model.specs.Definitions.{Definitions}
use Rattle.ts_layout.specs.Sheets.{AreInSequence}
use Rattle.ts_layout.specs.Meaning.{ElementPage, Free, Cells, heading_at, shape_at, IsInSequence}
use Rattle.ts_layout.specs.Surveyed.{places_on, places_from}
use Rattle.ts_layout.proofs.CallerLemmas.{lifted, rising_once, pairs_permuted, flat_map_permuted}
use Rattle.ts_container.specs.declared.span.Span.{Span}
use Rattle.ts_container.specs.Spans.{span_on, spans_from, spans_in, place_in, places_in, IsSpan, Follows, AreSorted, IsApart, AreApart, AreMore, AreDense}
use Rattle.ts_container.proofs.SpanLemmas.{Neighbours, Ends, neighbours_from, neighbours_to, neighbours_pairs, neighbours_weaker, neighbours_both, neighbours_map, map_neighbours, near_in, near_all, in_series, rising_from, ends_in, rising_in}
use Rattle.ts_container.proofs.SeenLemmas.{Seen, span, sheet, seen_from, seen_in, spans_seen, spans_seen_in, sheets_seen, IsSpanned, IsSeen, AllHeld, all_seen, spanned_in, spans_end}
use Rattle.ts_container.proofs.SequenceLemmas.{EndsBefore, HaveMore, sequence_of, apart_of, more_of}

-- a test on lists in another order
as_flat_map : {X : Type 0} (p : X → Bool) (xs : List X) → filter p xs ≡ flat_map (λ x. cond (p x) (x ∷ []) []) xs
as_flat_map p [] = refl
as_flat_map p (x ∷ xs) = of_test (p x) x (filter p xs) ∙ ap (λ l. cond (p x) (x ∷ []) [] ++ l) (as_flat_map p xs) where
  of_test : {X : Type 0} (b : Bool) (x : X) (xs : List X) → cond b (x ∷ xs) xs ≡ cond b (x ∷ []) [] ++ xs
  of_test true x xs = refl
  of_test false x xs = refl

filter_permuted : {X : Type 0} (p : X → Bool) (xs ys : List X) → IsPermutation xs ys → IsPermutation (filter p xs) (filter p ys)
filter_permuted {X} p xs ys moved =
    subst (λ (l : List X). IsPermutation l (filter p ys)) (sym (as_flat_map p xs))
    (subst (λ (l : List X). IsPermutation (flat_map (λ x. cond (p x) (x ∷ []) []) xs) l) (sym (as_flat_map p ys)) (flat_map_permuted (λ (x : X). cond (p x) (x ∷ []) []) xs ys moved))

-- the places of the pages that were found
places_found_on : (d : Definitions) (slot number : ℕ) (e : ElementPage) → places_in slot (span_on d number e) ≡ places_on slot number e
places_found_on d slot number Free = refl
places_found_on d slot number (Cells s one) = of_test (s == slot) _ where
  of_test : (b : Bool) (a : Span) → map place_in (cond b (a ∷ []) []) ≡ (if b then place_in a ∷ [] else [])
  of_test true a = refl
  of_test false a = refl

pub places_found : (d : Definitions) (slot first : ℕ) (es : List ElementPage) → places_in slot (spans_from d first es) ≡ places_from slot first es
places_found d slot first [] = refl
places_found d slot first (e ∷ rest) =
    ap (map place_in) (filter-append (λ (a : Span). a.slot == slot) (span_on d first e) (spans_from d (suc first) rest))
    ∙ map-append place_in (spans_in slot (span_on d first e)) (spans_in slot (spans_from d (suc first) rest))
    ∙ (λ i. places_found_on d slot first e i ++ places_found d slot (suc first) rest i)

-- in any order
pub places_listed : (d : Definitions) (slot : ℕ) (es : List ElementPage) (sorted : List Span) → IsPermutation (spans_from d first_element_page es) sorted → IsPermutation (places_in slot sorted) (places_from slot first_element_page es)
places_listed d slot es sorted moved =
    subst (IsPermutation (places_in slot sorted)) (places_found d slot first_element_page es)
    (IsPermutation-sym (places_in slot (spans_from d first_element_page es)) (places_in slot sorted)
    (IsPermutation-map place_in (spans_in slot (spans_from d first_element_page es)) (spans_in slot sorted) (filter_permuted (λ (a : Span). a.slot == slot) (spans_from d first_element_page es) sorted moved)))

-- the pages of one series
in_slot : (slot : ℕ) (ps : List Seen) → All (λ p. p.0.slot ≡ slot) (seen_in slot ps)
in_slot slot ps = All-weaker (λ p. (p.0.slot == slot) ≡ true) (λ p. p.0.slot ≡ slot) (λ p same. grind (arith, nat_tests, same)) (seen_in slot ps) (filter_passes (λ (p : Seen). p.0.slot == slot) ps)

spanned_all : (d : Definitions) (slot : ℕ) (h : Heading) (shape : Shape) (ps : List Seen) → heading_at d slot ≡ Some h → shape_at d slot ≡ Some shape → All (IsSeen d) ps → All (IsSpanned shape h.columns) (seen_in slot ps)
spanned_all d slot h shape ps there lies all = spanned_in d slot h shape (seen_in slot ps) there lies (in_slot slot ps) (All-filter (λ (p : Seen). p.0.slot == slot) (IsSeen d) ps all)

-- neighbours of an irregular series that have more than one page has room for, by its columns
abbrev pub Exceed : Definitions → Span → Span → Type 0
Exceed d a b = shape_at d a.slot ≡ Some Irregular → (h : Heading) → heading_at d a.slot ≡ Some h → page_room h.columns < a.count + b.count

-- two spans don't overlap
abbrev Disjoint : Span → Span → Type 0
Disjoint a b = (a.last <ℤ b.first) ⊎ (b.last <ℤ a.first)

turned : (a b : Span) → Disjoint a b → Disjoint b a
turned a b (inl before) = inr before
turned a b (inr behind) = inl behind

in_order : (slot : ℕ) (a b : Span) → (a.slot ≡ slot) × IsSpan a → (b.slot ≡ slot) × IsSpan b → Disjoint a b × Follows a b → Ends a b
in_order slot a b first second (inl before, follows) = before
in_order slot a b first second (inr behind, follows) =
    let low = follows.stamps (first.0 ∙ sym second.0) in
    let own = second.1 in
    absurd (omega (arith, ints, low, own, behind))

-- the pages that were read, and their spans in the order of a sort
module _ (d : Definitions) (es : List ElementPage) (sorted : List Span) (held : AllHeld d es) (moved : IsPermutation (spans_from d first_element_page es) sorted) (order : AreSorted sorted) where
  -- what holds of the pages holds of their spans in any order
  spans_have : (P : Span → Type 0) → ((p : Seen) → IsSeen d p → P p.0) → All P sorted
  spans_have P so =
      All-permutation P (spans_from d first_element_page es) sorted moved
      (subst (All P) (spans_seen d first_element_page es) (All-map P span (seen_from d first_element_page es) (All-weaker (IsSeen d) (λ p. P p.0) so (seen_from d first_element_page es) (all_seen d first_element_page es held))))

  pub ends_found : All IsSpan sorted
  ends_found = spans_have IsSpan (λ p seen. spans_end seen.shape seen.heading.columns p seen.spanned)

  -- where the spans are apart and dense, the pages of a series are in sequence
  pub in_sequence : AreApart sorted → AreDense d sorted → (slot : ℕ) (h : Heading) (shape : Shape) → heading_at d slot ≡ Some h → shape_at d slot ≡ Some shape → IsInSequence shape slot h.columns es
  in_sequence apart dense slot h shape there lies =
      let found = lifted span (seen_from d first_element_page es) sorted (subst (λ (l : List Span). IsPermutation l sorted) (sym (spans_seen d first_element_page es)) moved) in
      let ps : List Seen = seen_in slot found.list in
      let all = spanned_all d slot h shape found.list there lies (All-permutation (IsSeen d) (seen_from d first_element_page es) found.list found.moved (all_seen d first_element_page es held)) in
      let own : spans_in slot sorted ≡ map span ps = ap (spans_in slot) (sym found.is) ∙ sym (spans_seen_in slot found.list) in
      let ends : Neighbours EndsBefore ps = neighbours_map span Ends ps (subst (Neighbours Ends) own (ends_in slot sorted order apart)) in
      let room : ℕ = page_room h.columns in
      let more : shape ≡ Irregular → Neighbours (λ (a b : Span). room < a.count + b.count) (spans_in slot sorted) = λ is.
      neighbours_weaker (λ a. a.slot ≡ slot) (AreMore d) (λ a b. room < a.count + b.count)
      (λ a b first second so. so (first ∙ sym second) (ap (shape_at d) first ∙ lies ∙ ap Some is) h (ap (heading_at d) first ∙ there)) (spans_in slot sorted) (in_series slot sorted)
      (near_in (AreMore d) slot sorted (neighbours_from Follows sorted order) (neighbours_from (AreMore d) sorted dense)) in
      record {
        sheets = map sheet ps;
        is = sequence_of shape h.columns ps all ends (λ is. neighbours_map span (λ (a b : Span). room < a.count + b.count) ps (subst (Neighbours (λ (a b : Span). room < a.count + b.count)) own (more is)));
        all = subst (IsPermutation (map sheet ps)) (sheets_seen d slot first_element_page es)
            (IsPermutation-map sheet ps (seen_in slot (seen_from d first_element_page es)) (filter_permuted (λ (p : Seen). p.0.slot == slot) found.list (seen_from d first_element_page es) (IsPermutation-sym (seen_from d first_element_page es) found.list found.moved)));
      }

  -- the pages of a series in sequence, with their spans
  record Sequenced (slot : ℕ) (h : Heading) (shape : Shape) : Type 0 where
    list : List Seen
    all : All (IsSpanned shape h.columns) list
    apart : AllPairs Ends (map span list)
    more : shape ≡ Irregular → Neighbours (HaveMore (page_room h.columns)) list
    spans : IsPermutation (map span list) (spans_in slot sorted)

  sequenced : (slot : ℕ) (h : Heading) (shape : Shape) → heading_at d slot ≡ Some h → shape_at d slot ≡ Some shape → IsInSequence shape slot h.columns es → Sequenced slot h shape
  sequenced slot h shape there lies sequence =
      let own : List Seen = seen_in slot (seen_from d first_element_page es) in
      let found = lifted sheet own sequence.sheets (IsPermutation-sym sequence.sheets (map sheet own) (subst (IsPermutation sequence.sheets) (sym (sheets_seen d slot first_element_page es)) sequence.all)) in
      let all = All-permutation (IsSpanned shape h.columns) own found.list found.moved (spanned_all d slot h shape (seen_from d first_element_page es) there lies (all_seen d first_element_page es held)) in
      let spans : map span own ≡ spans_in slot (spans_from d first_element_page es) = spans_seen_in slot (seen_from d first_element_page es) ∙ ap (spans_in slot) (spans_seen d first_element_page es) in
      let is = subst (AreInSequence shape h.columns) (sym found.is) sequence.is in
      record {
        list = found.list;
        all = all;
        apart = apart_of shape h.columns found.list all is;
        more = more_of shape h.columns found.list all is;
        spans = IsPermutation-trans (map span found.list) (map span own) (spans_in slot sorted)
            (IsPermutation-map span found.list own (IsPermutation-sym own found.list found.moved))
            (subst (λ (l : List Span). IsPermutation l (spans_in slot sorted)) (sym spans) (filter_permuted (λ (a : Span). a.slot == slot) (spans_from d first_element_page es) sorted moved));
      }

  ends_of : (slot : ℕ) (h : Heading) (shape : Shape) → Sequenced slot h shape → Neighbours Ends (spans_in slot sorted)
  ends_of slot h shape s =
      let own : List Span = spans_in slot sorted in
      let apart : AllPairs Disjoint own = pairs_permuted Disjoint turned (map span s.list) own s.spans (λ i j a before within. inl (s.apart i j a before within)) in
      let valid : All (λ a. (a.slot ≡ slot) × IsSpan a) own = λ k a within. (in_series slot sorted k a within, All-filter (λ (b : Span). b.slot == slot) IsSpan sorted ends_found k a within) in
      neighbours_weaker (λ a. (a.slot ≡ slot) × IsSpan a) (λ a b. Disjoint a b × Follows a b) Ends (in_order slot) own valid
      (neighbours_both Disjoint Follows own (neighbours_pairs Disjoint own apart) (near_in Follows slot sorted (neighbours_from Follows sorted order) (neighbours_from Follows sorted order)))

  more_than_room : AreApart sorted → (slot : ℕ) (h : Heading) (shape : Shape) → heading_at d slot ≡ Some h → shape_at d slot ≡ Some shape → Sequenced slot h shape → Neighbours (Exceed d) (spans_in slot sorted)
  more_than_room apart slot h shape there lies s =
      let own : List Span = spans_in slot sorted in
      let spans : List Span = map span s.list in
      let room : ℕ = page_room h.columns in
      let valid : All IsSpan spans = All-map IsSpan span s.list (All-weaker (IsSpanned shape h.columns) (λ p. IsSpan p.0) (λ p one. spans_end shape h.columns p one) s.list s.all) in
      let same : map place_in spans ≡ map place_in own =
      rising_once (map place_in spans) (map place_in own) (rising_from spans valid (neighbours_pairs Ends spans s.apart)) (rising_in slot sorted order ends_found apart) (IsPermutation-map place_in spans own s.spans) in
      let more : shape ≡ Irregular → Neighbours (λ (a b : Span). room < a.count + b.count) own = λ is.
      neighbours_map place_in (λ (a b : Place). room < a.count + b.count) own (subst (Neighbours (λ (a b : Place). room < a.count + b.count)) same
      (map_neighbours place_in (λ (a b : Place). room < a.count + b.count) spans (map_neighbours span (λ (a b : Span). room < a.count + b.count) s.list (s.more is)))) in
      irregular_only own (in_series slot sorted) more where
        one_room : (o : Option Heading) (g h : Heading) (a b : ℕ) → o ≡ Some g → o ≡ Some h → page_room h.columns < a + b → page_room g.columns < a + b
        one_room o g h a b first second so = let same : h ≡ g = cc in subst (λ (x : Heading). page_room x.columns < a + b) same so

        one_shape : (o : Option Shape) (s t : Shape) → o ≡ Some s → o ≡ Some t → s ≡ t
        one_shape o s t first second = cc

        irregular_only : (own : List Span) → All (λ a. a.slot ≡ slot) own → (shape ≡ Irregular → Neighbours (λ (a b : Span). page_room h.columns < a.count + b.count) own) → Neighbours (Exceed d) own
        irregular_only [] ours more = tt
        irregular_only (a ∷ []) ours more = tt
        irregular_only (a ∷ b ∷ own) ours more = (
          λ is g heading.
              let first = ours 0 a (omega arith) in
              one_room (heading_at d slot) g h a.count b.count (ap (heading_at d) (sym first) ∙ heading) there (more (one_shape (shape_at d slot) shape Irregular lies (ap (shape_at d) (sym first) ∙ is))).0,
          irregular_only (b ∷ own) (λ k x within. ours (suc k) x (omega (arith, within))) (λ is. (more is).1),
        )

  -- a span tells a series that is defined
  abbrev IsDefined : Span → Type 0
  IsDefined a = (h : Heading) × (shape : Shape) × (heading_at d a.slot ≡ Some h) × (shape_at d a.slot ≡ Some shape)

  -- what holds of the spans of each series that is defined, holds of those of each
  each_series : (R : Span → Span → Type 0) (slot : ℕ) (spans : List Span) → All IsDefined spans → All (λ a. a.slot ≡ slot) spans
      → ((h : Heading) (shape : Shape) → heading_at d slot ≡ Some h → shape_at d slot ≡ Some shape → Neighbours R spans) → Neighbours R spans
  each_series R slot [] defined own so = tt
  each_series R slot (a ∷ spans) defined own so =
      let one = defined 0 a (omega arith) in
      let same = own 0 a (omega arith) in
      so one.0 one.1 (ap (heading_at d) (sym same) ∙ one.2) (ap (shape_at d) (sym same) ∙ one.3)

  in_each : (R : Span → Span → Type 0) → ((slot : ℕ) (h : Heading) (shape : Shape) → heading_at d slot ≡ Some h → shape_at d slot ≡ Some shape → Neighbours R (spans_in slot sorted)) → Neighbours (λ a b. a.slot ≡ b.slot → R a b) sorted
  in_each R so =
      let defined = spans_have IsDefined (λ p seen. (seen.heading, seen.shape, seen.there, seen.lies)) in
      near_all R sorted (λ slot. each_series R slot (spans_in slot sorted) (All-filter (λ (a : Span). a.slot == slot) IsDefined sorted defined) (in_series slot sorted) (so slot))

  -- where the pages of each series are in sequence, the spans are apart, and then dense
  pub apart_there : ((slot : ℕ) (h : Heading) (shape : Shape) → heading_at d slot ≡ Some h → shape_at d slot ≡ Some shape → IsInSequence shape slot h.columns es) → AreApart sorted
  apart_there each = neighbours_to IsApart sorted (in_each Ends (λ slot h shape there lies. ends_of slot h shape (sequenced slot h shape there lies (each slot h shape there lies))))

  pub dense_there : AreApart sorted → ((slot : ℕ) (h : Heading) (shape : Shape) → heading_at d slot ≡ Some h → shape_at d slot ≡ Some shape → IsInSequence shape slot h.columns es) → AreDense d sorted
  dense_there apart each = neighbours_to (AreMore d) sorted (in_each (Exceed d) (λ slot h shape there lies. more_than_room apart slot h shape there lies (sequenced slot h shape there lies (each slot h shape there lies))))
