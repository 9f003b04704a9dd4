-- What spans element pages, by the spans of these, sorted: pages that overlap, neighbours that fit one page, and charges.
use Rattle.std.specs.Prelude.{All, Contains, IsPermutation}
use Rattle.std.proofs.Common.{◌≡◌, ◌≢◌, ℕ, zero, suc, ◌+◌, ◌<◌, ◌≤◌, Option, Some, None, List, [], ◌∷◌, length, get_or, refl, sym, ap, subst, ◌∙◌, arith, inl, inr, ◌<ℤ◌, ◌≤ℤ◌}
use Rattle.std.specs.Option.{unwrap_or}
use Rattle.std.proofs.lemmas.Bool.{cases_lt, cases_eq}
use Rattle.std.proofs.lemmas.Int.{ints}
use Rattle.std.proofs.lemmas.List.Sorted.{Contains-permutation, IsPermutation-sym}
use Rattle.ts_row.specs.Row.{Heading}
use Rattle.ts_cells.specs.IrregularPage.{page_room}
use Rattle.ts_page.specs.Pages.{first_element_page}
use Rattle.ts_offset.specs.declared.shape.Shape.{Shape}
use Rattle.ts_offset.specs.declared.shape.Shape.TheVariants.{Irregular, Regular}
use Rattle.ts_space.specs.Directory.{Directory}
use Rattle.ts_model.specs.Definitions.{Definitions, ContainerDef, IsDefinitions, at_slot}
use Rattle.ts_layout.specs.Sheets.{Sheet}
use Rattle.ts_layout.specs.Meaning.{ElementPage, Free, Cells, Layout, element_page, shape_at, heading_at, heading_of_container, HoldsElements}
use Rattle.ts_layout.specs.Charges.{container_charge}
use Rattle.ts_layout.proofs.CallerLemmas.{within_list, pairs_permuted, AreCounted, charge_same}
use Rattle.ts_volume.specs.FirstBad.{Meet, IsLeast, IsOverlap, IsSparse, IsOvercharged}
use Rattle.ts_container.specs.declared.span.Span.{Span}
use Rattle.ts_container.specs.Spans.{end_of, span_of, shape_in, spans_from, IsSpan, Follows, AreSorted, AreDifferent, IsApart, AreApart, IsClash, IsThin, IsOverQuota}
use Rattle.ts_container.proofs.SeenLemmas.{AllHeld}
use Rattle.ts_container.proofs.ClashLemmas.{placed, stands_at, sorted_pairs, apart_pairs}

-- a span is that of a page with a sheet
record IsOf (d : Definitions) (first : ℕ) (es : List ElementPage) (a : Span) : Type 0 where
  at : ℕ
  slot : ℕ
  sheet : Sheet
  there : element_page at es ≡ Cells slot sheet
  is : a ≡ span_of (shape_in d slot) slot (first + at) sheet

of_next : (d : Definitions) (first : ℕ) (e : ElementPage) (rest : List ElementPage) (a : Span) → IsOf d (suc first) rest a → IsOf d first (e ∷ rest) a
of_next d first e rest a of = record {
  at = suc of.at;
  slot = of.slot;
  sheet = of.sheet;
  there = of.there;
  is = of.is ∙ ap (λ (n : ℕ). span_of (shape_in d of.slot) of.slot n of.sheet) (let z : suc first + of.at ≡ first + suc of.at = omega arith in z);
}

span_found : (d : Definitions) (first : ℕ) (es : List ElementPage) (a : Span) → Contains (spans_from d first es) a → IsOf d first es a
span_found d first [] a (k, inside, is) = absurd (omega (arith, inside))
span_found d first (Free ∷ rest) a contained = of_next d first Free rest a (span_found d (suc first) rest a contained)
span_found d first (Cells slot sheet ∷ rest) a (zero, inside, is) = record {
  at = 0;
  slot = slot;
  sheet = sheet;
  there = refl;
  is = sym is ∙ ap (λ (n : ℕ). span_of (shape_in d slot) slot n sheet) (let z : first ≡ first + 0 = omega arith in z);
}
span_found d first (Cells slot sheet ∷ rest) a (suc k, inside, is) = of_next d first (Cells slot sheet) rest a (span_found d (suc first) rest a (k, omega (arith, inside), is))

pub span_there : (d : Definitions) (first : ℕ) (es : List ElementPage) (i slot : ℕ) (sheet : Sheet) → element_page i es ≡ Cells slot sheet → Contains (spans_from d first es) (span_of (shape_in d slot) slot (first + i) sheet)
span_there d first [] i slot sheet there = absurd (cc)
span_there d first (Free ∷ rest) zero slot sheet there = absurd (cc)
span_there d first (Free ∷ rest) (suc i) slot sheet there =
    subst (λ (n : ℕ). Contains (spans_from d (suc first) rest) (span_of (shape_in d slot) slot n sheet)) (let z : suc first + i ≡ first + suc i = omega arith in z) (span_there d (suc first) rest i slot sheet there)
span_there d first (Cells s one ∷ rest) zero slot sheet there =
    let slots : s ≡ slot = cc in
    let sheets : one ≡ sheet = cc in
    (0, omega arith, (λ i. span_of (shape_in d (slots i)) (slots i) ((let z : first ≡ first + 0 = omega arith in z) i) (sheets i)))
span_there d first (Cells s one ∷ rest) (suc i) slot sheet there =
    let more = subst (λ (n : ℕ). Contains (spans_from d (suc first) rest) (span_of (shape_in d slot) slot n sheet)) (let z : suc first + i ≡ first + suc i = omega arith in z) (span_there d (suc first) rest i slot sheet there) in
    (suc more.0, (let inside = more.1 in omega (arith, inside)), more.2)

-- each page has another number
low_from : (d : Definitions) (first : ℕ) (es : List ElementPage) → All (λ a. first ≤ a.page) (spans_from d first es)
low_from d first es k x inside =
    let of = span_found d first es (get_or (spans_from d first es) k x) (stands_at (spans_from d first es) k x inside) in
    let page = ap (λ (a : Span). a.page) of.is in
    omega (arith, page)

different_from : (d : Definitions) (first : ℕ) (es : List ElementPage) → AreDifferent (spans_from d first es)
different_from d first [] i j x before inside = absurd (omega (arith, inside))
different_from d first (Free ∷ rest) i j x before inside = different_from d (suc first) rest i j x before inside
different_from d first (Cells slot sheet ∷ rest) i zero x before inside = absurd (omega (arith, before))
different_from d first (Cells slot sheet ∷ rest) zero (suc j) x before inside = λ same. let low = low_from d (suc first) rest j x (omega (arith, inside)) in omega (arith, low, same)
different_from d first (Cells slot sheet ∷ rest) (suc i) (suc j) x before inside = different_from d (suc first) rest i j x (omega (arith, before)) (omega (arith, inside))

pub different_sorted : (d : Definitions) (es : List ElementPage) (sorted : List Span) → IsPermutation (spans_from d first_element_page es) sorted → AreDifferent sorted
different_sorted d es sorted moved = pairs_permuted (λ (a b : Span). a.page ≢ b.page) (λ a b other same. other (sym same)) (spans_from d first_element_page es) sorted moved (different_from d first_element_page es)

-- the ends of two sheets say whether they meet
meet_of : (shape : Shape) (a b : Sheet) → a.0 ≤ℤ end_of shape b → b.0 ≤ℤ end_of shape a → Meet shape a b
meet_of Irregular a b begins ends = (begins, ends)
meet_of (Regular grid) a b begins ends = omega (arith, ints, begins, ends)

ends_of : (shape : Shape) (a b : Sheet) → Meet shape a b → (a.0 ≤ℤ end_of shape b) × (b.0 ≤ℤ end_of shape a)
ends_of Irregular a b meet = meet
ends_of (Regular grid) a b meet = (omega (arith, ints, meet), omega (arith, ints, meet))

-- the layout of pages that were read, and their spans
module _ (d : Definitions) (es : List ElementPage) (sorted : List Span) (held : AllHeld d es) (moved : IsPermutation (spans_from d first_element_page es) sorted) (order : AreSorted sorted) (ends : All IsSpan sorted) where
  abbrev layout : Layout
  layout = record { definitions = d; element_pages = es }

  found : (a : Span) → Contains sorted a → IsOf d first_element_page es a
  found a contained = span_found d first_element_page es a (Contains-permutation sorted (spans_from d first_element_page es) a (IsPermutation-sym (spans_from d first_element_page es) sorted moved) contained)

  abbrev the_span : ℕ → ℕ → Sheet → Span
  the_span slot i sheet = span_of (shape_in d slot) slot (first_element_page + i) sheet

  there : (i slot : ℕ) (sheet : Sheet) → element_page i es ≡ Cells slot sheet → Contains sorted (the_span slot i sheet)
  there i slot sheet is = Contains-permutation (spans_from d first_element_page es) sorted (the_span slot i sheet) moved (span_there d first_element_page es i slot sheet is)

  -- the shape of a series that has a page
  shape_of_page : (i slot : ℕ) (sheet : Sheet) → element_page i es ≡ Cells slot sheet → (shape : Shape) × (shape_at d slot ≡ Some shape)
  shape_of_page i slot sheet is =
      let one = held i (within_list es i slot sheet is) in
      let series = subst (HoldsElements d one.0) is one.1 in
      (series.shape, series.lies)

  -- two pages that overlap
  overlap_to : (page : ℕ) → IsClash sorted page → IsOverlap layout page
  unfolding found shape_of_page
  overlap_to page clash =
      let a = found clash.lower clash.first in
      let b = found clash.upper clash.second in
      let shape = shape_of_page a.at a.slot a.sheet a.there in
      let slots : a.slot ≡ b.slot = sym (ap (λ (x : Span). x.slot) a.is) ∙ clash.series ∙ ap (λ (x : Span). x.slot) b.is in
      let in_a : shape_in d a.slot ≡ shape.0 = ap (λ (o : Option Shape). unwrap_or o Irregular) shape.1 in
      let in_b : shape_in d b.slot ≡ shape.0 = ap (shape_in d) (sym slots) ∙ in_a in
      let begins : a.sheet.0 ≤ℤ end_of shape.0 b.sheet = subst (λ (s : Shape). a.sheet.0 ≤ℤ end_of s b.sheet) in_b (subst (λ (p : Span × Span). p.0.first ≤ℤ p.1.last) (λ i. (a.is i, b.is i)) clash.begins) in
      let ends' : b.sheet.0 ≤ℤ end_of shape.0 a.sheet = subst (λ (s : Shape). b.sheet.0 ≤ℤ end_of s a.sheet) in_a (subst (λ (p : Span × Span). p.1.first ≤ℤ p.0.last) (λ i. (a.is i, b.is i)) clash.ends) in
      let below : first_element_page + a.at < first_element_page + b.at = subst (λ (p : Span × Span). p.0.page < p.1.page) (λ i. (a.is i, b.is i)) clash.below in
      record {
        slot = a.slot;
        shape = shape.0;
        lower = a.at;
        upper = b.at;
        a = a.sheet;
        b = b.sheet;
        lies = shape.1;
        first = a.there;
        second = b.there ∙ ap (λ (n : ℕ). Cells n b.sheet) (sym slots);
        below = omega (arith, below);
        page = clash.is ∙ ap (λ (x : Span). x.page) b.is;
        meet = meet_of shape.0 a.sheet b.sheet begins ends';
      }

  overlap_from : (page : ℕ) → IsOverlap layout page → IsClash sorted page
  unfolding there
  overlap_from page overlap =
      let in_it : shape_in d overlap.slot ≡ overlap.shape = ap (λ (o : Option Shape). unwrap_or o Irregular) overlap.lies in
      let meet = ends_of overlap.shape overlap.a overlap.b overlap.meet in
      let below = overlap.below in
      record {
        lower = the_span overlap.slot overlap.lower overlap.a;
        upper = the_span overlap.slot overlap.upper overlap.b;
        first = there overlap.lower overlap.slot overlap.a overlap.first;
        second = there overlap.upper overlap.slot overlap.b overlap.second;
        below = omega (arith, below);
        is = overlap.page;
        series = refl;
        begins = subst (λ (s : Shape). overlap.a.0 ≤ℤ end_of s overlap.b) (sym in_it) meet.0;
        ends = subst (λ (s : Shape). overlap.b.0 ≤ℤ end_of s overlap.a) (sym in_it) meet.1;
      }

  pub least_overlap : (page : ℕ) → IsLeast (IsClash sorted) page → IsLeast (IsOverlap layout) page
  unfolding overlap_to overlap_from
  least_overlap page least = record { has = overlap_to page least.has; least = λ other overlap. least.least other (overlap_from other overlap) }

  pub no_overlap : ((page : ℕ) → IsClash sorted page → ⊥) → (page : ℕ) → IsOverlap layout page → ⊥
  unfolding overlap_from
  no_overlap none page overlap = none page (overlap_from page overlap)

  -- neighbours that fit one page
  module _ (apart : AreApart sorted) where
    thin_to : (page : ℕ) → IsThin d sorted page → IsSparse layout page
    unfolding found there
    thin_to page thin =
        let k = thin.at in
        let inside = thin.within in
        let a_here : get_or sorted k thin.a ≡ thin.a = thin.first in
        let b_here : get_or sorted (k + 1) thin.a ≡ thin.b = placed sorted (k + 1) thin.b thin.a inside thin.second in
        let a = found thin.a (k, omega (arith, inside), thin.first) in
        let b = found thin.b (k + 1, inside, thin.second) in
        let slot_a : thin.a.slot ≡ a.slot = ap (λ (x : Span). x.slot) a.is in
        let slots : b.slot ≡ a.slot = sym (ap (λ (x : Span). x.slot) b.is) ∙ sym thin.pair.series ∙ slot_a in
        let first_a : thin.a.first ≡ a.sheet.0 = ap (λ (x : Span). x.first) a.is in
        let first_b : thin.b.first ≡ b.sheet.0 = ap (λ (x : Span). x.first) b.is in
        let apart' : thin.a.last <ℤ thin.b.first = subst (λ (p : Span × Span). IsApart p.0 p.1) (λ i. (a_here i, b_here i)) (apart k thin.a inside) thin.pair.series in
        let own : thin.a.first ≤ℤ thin.a.last = subst IsSpan a_here (ends k thin.a (omega (arith, inside))) in
        let counts = thin.pair.fit in
        let count_a : thin.a.count ≡ length a.sheet.1 = ap (λ (x : Span). x.count) a.is in
        let count_b : thin.b.count ≡ length b.sheet.1 = ap (λ (x : Span). x.count) b.is in
        record {
          slot = a.slot;
          heading = thin.pair.heading;
          at = a.at;
          a = a.sheet;
          b = b.sheet;
          lies = ap (shape_at d) (sym slot_a) ∙ thin.pair.lies;
          columns = ap (heading_at d) (sym slot_a) ∙ thin.pair.columns;
          there = a.there;
          next = record {
            at = b.at;
            there = b.there ∙ ap (λ (n : ℕ). Cells n b.sheet) slots;
            behind = omega (arith, ints, apart', own, first_a, first_b);
            least = λ i c is behind.
                let place = there i a.slot c is in
                let c_here : get_or sorted place.0 thin.a ≡ the_span a.slot i c = placed sorted place.0 (the_span a.slot i c) thin.a place.1 place.2 in
                elim (cases_lt k place.0) [
                  | inl past ↦ elim (cases_eq place.0 (k + 1)) [
                    | inl same ↦
                        let e : thin.b ≡ the_span a.slot i c = sym b_here ∙ ap (λ (n : ℕ). get_or sorted n thin.a) (sym same) ∙ c_here in
                        let f = ap (λ (x : Span). x.first) e in
                        omega (arith, ints, f, first_b)
                    | inr other ↦
                        let rise = subst (λ (p : Span × Span). Follows p.0 p.1) (λ j. (b_here j, c_here j)) (sorted_pairs sorted order (k + 1) place.0 thin.a (omega (arith, past, other)) place.1) in
                        let low = rise.stamps (sym thin.pair.series ∙ slot_a) in
                        omega (arith, ints, low, first_b)
                  ]
                  | inr not ↦ elim (cases_eq place.0 k) [
                    | inl same ↦
                        let e : thin.a ≡ the_span a.slot i c = sym a_here ∙ ap (λ (n : ℕ). get_or sorted n thin.a) (sym same) ∙ c_here in
                        let f = ap (λ (x : Span). x.first) e in
                        absurd (omega (arith, ints, f, first_a, behind))
                    | inr other ↦
                        let rise = subst (λ (p : Span × Span). Follows p.0 p.1) (λ j. (c_here j, a_here j)) (sorted_pairs sorted order place.0 k thin.a (omega (arith, not, other)) (omega (arith, inside))) in
                        let low = rise.stamps (sym slot_a) in
                        absurd (omega (arith, ints, low, first_a, behind))
                  ]
                ];
          };
          page = thin.is ∙ ap (λ (x : Span). x.page) a.is;
          fit = omega (arith, counts, count_a, count_b);
        }

    thin_from : (page : ℕ) → IsSparse layout page → IsThin d sorted page
    unfolding found there
    thin_from page sparse =
        let a = the_span sparse.slot sparse.at sparse.a in
        let b = the_span sparse.slot sparse.next.at sparse.b in
        let first = there sparse.at sparse.slot sparse.a sparse.there in
        let second = there sparse.next.at sparse.slot sparse.b sparse.next.there in
        let k = first.0 in
        let m = second.0 in
        let a_here : get_or sorted k a ≡ a = first.2 in
        let b_here : get_or sorted m a ≡ b = placed sorted m b a second.1 second.2 in
        let behind = sparse.next.behind in
        let before : k < m = elim (cases_lt k m) [
          | inl less ↦ less
          | inr past ↦ elim (cases_eq m k) [
            | inl same ↦ let e : b ≡ a = sym b_here ∙ ap (λ (n : ℕ). get_or sorted n a) same ∙ a_here in let f = ap (λ (x : Span). x.first) e in absurd (omega (arith, ints, f, behind))
            | inr other ↦
                let rise = subst (λ (p : Span × Span). Follows p.0 p.1) (λ j. (b_here j, a_here j)) (sorted_pairs sorted order m k a (omega (arith, past, other)) first.1) in
                let low = rise.stamps refl in
                absurd (omega (arith, ints, low, behind))
          ]
        ] in
        let inside : k + 1 < length sorted = (let high = second.1 in omega (arith, before, high)) in
        let next : m ≡ k + 1 = elim (cases_eq m (k + 1)) [
          | inl same ↦ same
          | inr other ↦
              let x = get_or sorted (k + 1) a in
              let rise = subst (λ (y : Span). Follows y x) a_here (sorted_pairs sorted order k (k + 1) a (omega arith) inside) in
              let rise' = subst (λ (y : Span). Follows x y) b_here (sorted_pairs sorted order (k + 1) m a (omega (arith, before, other)) second.1) in
              let low = rise.slots in
              let high = rise'.slots in
              let slot_x : sparse.slot ≡ x.slot = omega (arith, low, high) in
              let past = subst (λ (y : Span). IsApart y x) a_here (apart k a inside) slot_x in
              let past' = subst (λ (y : Span). x.slot ≡ y.slot → x.last <ℤ y.first) b_here (apart_pairs sorted order ends apart (k + 1) m a (omega (arith, before, other)) second.1) (sym slot_x) in
              let own_a = subst IsSpan a_here (ends k a first.1) in
              let own_x = ends (k + 1) a inside in
              let of = found x (stands_at sorted (k + 1) a inside) in
              let of_first : x.first ≡ of.sheet.0 = ap (λ (y : Span). y.first) of.is in
              let of_slot : of.slot ≡ sparse.slot = sym (ap (λ (y : Span). y.slot) of.is) ∙ sym slot_x in
              let least = sparse.next.least of.at of.sheet (of.there ∙ ap (λ (n : ℕ). Cells n of.sheet) of_slot) (omega (arith, ints, past, own_a, of_first)) in
              absurd (omega (arith, ints, least, of_first, past', own_x))
        ] in
        record {
          at = k;
          a = a;
          b = b;
          within = inside;
          first = a_here;
          second = placed sorted (k + 1) b b inside (subst (λ (n : ℕ). get_or sorted n b ≡ b) next second.2);
          is = sparse.page;
          pair = record { heading = sparse.heading; series = refl; lies = sparse.lies; columns = sparse.columns; fit = sparse.fit };
        }

    pub least_sparse : (page : ℕ) → IsLeast (IsThin d sorted) page → IsLeast (IsSparse layout) page
    unfolding thin_to thin_from
    least_sparse page least = record { has = thin_to page least.has; least = λ other sparse. least.least other (thin_from other sparse) }

    pub no_sparse : ((page : ℕ) → IsThin d sorted page → ⊥) → (page : ℕ) → IsSparse layout page → ⊥
    unfolding thin_from
    no_sparse none page sparse = none page (thin_from page sparse)

-- a container over its quota
pub over_quota : (d : Definitions) (space : Directory) (es : List ElementPage) → IsDefinitions d → ((slot : ℕ) → slot < 4096 → AreCounted space es slot) → IsOverQuota d space → IsLeast (IsOvercharged (record { definitions = d; element_pages = es })) 833
over_quota d space es rules counted (slot, within, over) = record {
  has = of_container (at_slot slot d.containers) refl;
  least = λ other found. let same = found.page in omega (arith, same);
} where
  one_of : {A : Type 0} (o : Option A) (a b : A) → o ≡ Some a → o ≡ Some b → a ≡ b
  one_of o a b first second = cc

  none_of : {A : Type 0} (o : Option A) (a : A) → o ≡ None → o ≡ Some a → ⊥
  none_of o a none some = cc

  of_container : (o : Option ContainerDef) → at_slot slot d.containers ≡ o → IsOvercharged (record { definitions = d; element_pages = es }) 833
  of_container None is = absurd (over (λ c h there heading. absurd (none_of (at_slot slot d.containers) c is there)))
  of_container (Some c) is = of_heading (heading_of_container d c) refl where
    of_heading : (o : Option Heading) → heading_of_container d c ≡ o → IsOvercharged (record { definitions = d; element_pages = es }) 833
    of_heading None none = absurd (over (λ c' h there heading. absurd (none_of (heading_of_container d c') h (ap (heading_of_container d) (one_of (at_slot slot d.containers) c' c there is) ∙ none) heading)))
    of_heading (Some h) some =
        elim (cases_lt c.quota (container_charge d space slot (page_room h.columns))) [
          | inl more ↦ record {
            slot = slot;
            c = c;
            heading = h;
            there = is;
            columns = some;
            page = refl;
            more = subst (λ (n : ℕ). c.quota < n) (charge_same d space es slot (page_room h.columns) rules counted) more;
          }
          | inr within ↦ absurd (over (λ c' h' there heading.
              let same : c ≡ c' = one_of (at_slot slot d.containers) c c' is there in
              let same' : h ≡ h' = one_of (heading_of_container d c) h h' some (ap (heading_of_container d) same ∙ heading) in
              subst (λ (p : ContainerDef × Heading). container_charge d space slot (page_room p.1.columns) ≤ p.0.quota) (λ i. (same i, same' i)) within))
        ]
