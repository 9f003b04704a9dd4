-- Slots are marked where a page of their series has a hidden element.
use Rattle.std.proofs.Common.{◌≡◌, ℕ, zero, suc, ◌+◌, ◌≤◌, Bool, true, false, IsTrue, List, [], ◌∷◌, length, get_or, set, refl, subst, arith}
use Rattle.ts_row.specs.Row.{has_hidden}
use Rattle.ts_page.specs.Pages.{first_element_page}
use Rattle.ts_model.specs.Definitions.{Definitions}
use Rattle.ts_layout.specs.Sheets.{Sheet}
use Rattle.ts_layout.specs.Meaning.{ElementPage, Cells, element_page}
use Rattle.ts_container.specs.declared.span.Span.{Span}
use Rattle.ts_container.specs.Spans.{AreMarked, shape_in, span_of, spans_from}
use Rattle.ts_container.specs.Survey.{TellsHidden}
use Rattle.ts_container.proofs.LateLemmas.{span_there}

-- a mark that is set stays, whatever else is set
pub mark_kept : (marks : List Bool) (i j : ℕ) → get_or marks j true ≡ true → get_or (set marks i true) j true ≡ true
mark_kept [] i j is = is
mark_kept (x ∷ marks) zero zero is = refl
mark_kept (x ∷ marks) zero (suc j) is = is
mark_kept (x ∷ marks) (suc i) zero is = is
mark_kept (x ∷ marks) (suc i) (suc j) is = mark_kept marks i j is

pub mark_set : (marks : List Bool) (i : ℕ) → get_or (set marks i true) i true ≡ true
mark_set [] i = refl
mark_set (x ∷ marks) zero = refl
mark_set (x ∷ marks) (suc i) = mark_set marks i

-- behind the marks all are marked
pub mark_past : (marks : List Bool) (i : ℕ) → length marks ≤ i → get_or marks i true ≡ true
mark_past [] i past = refl
mark_past (x ∷ marks) zero past = absurd (omega (arith, past))
mark_past (x ∷ marks) (suc i) past = mark_past marks i (omega (arith, past))

not_both : (b : Bool) → (IsTrue b → ⊥) → b ≡ false
not_both true not = absurd (not refl)
not_both false not = refl

-- what spans mark, the layout of their pages has
pub marked_layout : (d : Definitions) (spans : List Span) (es : List ElementPage) (marks : List Bool) → spans ≡ spans_from d first_element_page es → AreMarked spans marks → TellsHidden marks (record { definitions = d; element_pages = es })
marked_layout d spans es marks found marked = λ i slot sheet there none.
    let span : Span = span_of (shape_in d slot) slot (first_element_page + i) sheet in
    let all : AreMarked (spans_from d first_element_page es) marks = subst (λ (l : List Span). AreMarked l marks) found marked in
    let contained = span_there d first_element_page es i slot sheet there in
    let mark : IsTrue (has_hidden sheet.1) → get_or marks slot true ≡ true =
    subst (λ (s : Span). IsTrue s.hidden → get_or marks s.slot true ≡ true) contained.2 (all contained.0 span contained.1) in
    not_both (has_hidden sheet.1) (λ hides. true_false (get_or marks slot true) (mark hides) none)
  where
    true_false : (b : Bool) → b ≡ true → b ≡ false → ⊥
    true_false b set clear = cc
