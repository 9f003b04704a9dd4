-- Element pages that are read one after the other.
use Rattle.std.proofs.Common.{◌≡◌, ℕ, suc, ◌+◌, ◌-◌, ◌<◌, ◌≤◌, Bool, IsTrue, Some, None, List, [], ◌∷◌, ◌++◌, length, refl, sym, ap, subst, ◌∙◌, arith, append_assoc, length-append, inl, inr}
use Rattle.std.proofs.lemmas.Bool.{cases_lt}
use Rattle.std.proofs.lemmas.List.{append-nil}
use Rattle.ts_page.specs.Pages.{Contents, first_element_page}
use Rattle.ts_model.specs.Definitions.{Definitions}
use Rattle.ts_layout.specs.Meaning.{ElementPage, Free, Cells, element_page, HoldsElements}
use Rattle.ts_layout.specs.Surveyed.{free_from}
use Rattle.ts_container.specs.declared.content.Content.{Content}
use Rattle.ts_container.specs.declared.span.Span.{Span}
use Rattle.ts_container.specs.Spans.{span_on, spans_from}
use Rattle.ts_container.specs.Elements.{Describes, IsContentOf, Listed, IsReadAs, AllRead, IsBadElement}
use Rattle.ts_volume.specs.FirstBad.{IsLeast}
use Rattle.ts_layout.proofs.CallerLemmas.{before, at_end, free_from-append}

-- the spans with one page more
spans_from-append : (d : Definitions) (first : ℕ) (es : List ElementPage) (e : ElementPage) → spans_from d first (es ++ e ∷ []) ≡ spans_from d first es ++ span_on d (first + length es) e
spans_from-append d first [] e = append-nil (span_on d first e) ∙ ap (λ (n : ℕ). span_on d n e) (let z : first ≡ first + 0 = omega arith in z)
spans_from-append d first (x ∷ es) e =
    ap (λ (l : List Span). span_on d first x ++ l) (spans_from-append d (suc first) es e)
    ∙ sym (append_assoc (span_on d first x) (spans_from d (suc first) es) (span_on d (suc first + length es) e))
    ∙ ap (λ (n : ℕ). span_on d first x ++ spans_from d (suc first) es ++ span_on d n e) (let z : suc first + length es ≡ first + suc (length es) = omega arith in z)

-- a free page is added
pub listed_free : (d : Definitions) (spans : List Span) (free : List ℕ) (number : ℕ) (es : List ElementPage) → number ≡ first_element_page + length es → Listed d spans free es → Listed d spans (free ++ number ∷ []) (es ++ Free ∷ [])
listed_free d spans free number es is listed = record {
  found = listed.found ∙ sym (append-nil (spans_from d first_element_page es)) ∙ sym (spans_from-append d first_element_page es Free);
  spare = (λ i. listed.spare i ++ is i ∷ []) ∙ sym (free_from-append first_element_page es Free);
}

-- a page of a series, of which this is the span
pub listed_page : (d : Definitions) (spans : List Span) (free : List ℕ) (number : ℕ) (span : Span) (es : List ElementPage) (e : ElementPage) → span_on d number e ≡ span ∷ [] → number ≡ first_element_page + length es → Listed d spans free es
    → Listed d (spans ++ span ∷ []) free (es ++ e ∷ [])
listed_page d spans free number span es Free has is listed = absurd (cc)
listed_page d spans free number span es (Cells slot sheet) has is listed = record {
  found = (λ i. listed.found i ++ sym has i) ∙ ap (λ (n : ℕ). spans_from d first_element_page es ++ span_on d n (Cells slot sheet)) is ∙ sym (spans_from-append d first_element_page es (Cells slot sheet));
  spare = listed.spare ∙ sym (append-nil (free_from first_element_page es)) ∙ sym (free_from-append first_element_page es (Cells slot sheet));
}

-- nothing was read yet
pub none_read : (tells : Bool) (d : Definitions) (v : Contents) (spans : List Span) (free : List ℕ) → spans ≡ [] → free ≡ [] → AllRead tells 0 d v spans free
none_read tells d v spans free no_spans none = record { elements = []; size = refl; listed = record { found = no_spans; spare = none }; seen = λ j below. absurd (omega arith) }

-- one page more was read
pub read_more : (tells : Bool) (d : Definitions) (v : Contents) (number : ℕ) (spans spans' : List Span) (free free' : List ℕ) (content : Content) (bytes : List ℕ) → first_element_page ≤ number
    → AllRead tells (number - first_element_page) d v spans free → IsContentOf d number bytes (Some content)
    → ((es : List ElementPage) (e : ElementPage) → number ≡ first_element_page + length es → Describes d number content e → Listed d spans free es → Listed d spans' free' (es ++ e ∷ []))
    → (IsTrue tells → v.page number ≡ bytes) → AllRead tells (number + 1 - first_element_page) d v spans' free'
read_more tells d v number spans spans' free free' content bytes low read found adds told =
    let e : ElementPage = found.0 in
    let at : number ≡ first_element_page + length read.elements = omega (arith, read.size, low) in
    record {
      elements = read.elements ++ e ∷ [];
      size = omega (arith, length-append read.elements (e ∷ []), read.size, low);
      listed = adds read.elements e at found.2 read.listed;
      seen = λ j below. elim (cases_lt j (number - first_element_page)) [
        | inl lower ↦ subst (λ (x : ElementPage). IsReadAs tells v d (first_element_page + j) x) (sym (before read.elements e j (omega (arith, lower, read.size)))) (read.seen j lower)
        | inr last ↦
            let end : j ≡ length read.elements = omega (arith, last, below, read.size) in
            subst (λ (x : ElementPage). IsReadAs tells v d (first_element_page + j) x) (sym (at_end read.elements e j end))
            (subst (λ (n : ℕ). IsReadAs tells v d n e) (let z : number ≡ first_element_page + j = omega (arith, at, end) in z) (bytes, found.1, told))
      ];
    }

-- a page without elements is read, behind those that have some
pub read_bad : (tells : Bool) (d : Definitions) (v : Contents) (number count : ℕ) (bytes : List ℕ) (spans : List Span) (free : List ℕ) → first_element_page ≤ number → number < count → v.page number ≡ bytes → IsContentOf d number bytes None → AllRead tells (number - first_element_page) d v spans free → IsTrue tells
    → IsLeast (IsBadElement (count - first_element_page) d v.page) number
read_bad tells d v number count bytes spans free low high is none read told = record {
  has = (low, omega (arith, low, high), λ e holds. none e (subst (λ (l : List ℕ). HoldsElements d l e) is holds));
  least = λ other (above, below, bad). elim (cases_lt other number) [
    | inl less ↦
        let at : first_element_page + (other - first_element_page) ≡ other = omega (arith, above) in
        let one = read.seen (other - first_element_page) (omega (arith, less, above)) in
        absurd (bad (element_page (other - first_element_page) read.elements) (subst (λ (l : List ℕ). HoldsElements d l (element_page (other - first_element_page) read.elements)) (sym (one.2 told) ∙ ap v.page at) one.1))
    | inr past ↦ past
  ];
}
