-- Changes over pages.
use Rattle.std.proofs.Common.{◌≡◌, inl, inr, ℕ, ◌+◌, Bool, true, false, cond, eqb, Option, Some, None, List, [], ◌∷◌, refl, ap, sym, ◌∙◌, arith}
use Rattle.std.proofs.lemmas.Bool.{cond-true, cond-false, cases_eq, eq-eqb, ne_eqb}
use Rattle.ts_page.specs.Pages.{with_page}
use Rattle.ts_journal.specs.declared.batch.Change.{Change}
use Rattle.ts_journal.specs.Journal.{Entry, IsRising, change_of, content, put, put_all, put_page, put_pages, changed, change_or, over, own_page, pages, StandsOver}
use Rattle.ts_journal.proofs.BatchLemmas.{none_below}
use Rattle.ts_journal.proofs.OverlayLemmas.{change_of-put, pages_shown}

-- what is read after one change more
changed_cond : (b : Bool) (change : Change) (rest : Option Change) (page : List ℕ) → changed (cond b (Some change) rest) page ≡ cond b (content change) (changed rest page)
changed_cond true change rest page = refl
changed_cond false change rest page = refl

pub over_put : (es : List Entry) (number : ℕ) (change : Change) (own : ℕ → List ℕ) (k : ℕ) → over (put number change es) own k ≡ with_page number (content change) (over es own) k
over_put es number change own k =
    ap (λ (o : Option Change). changed o (own k)) (change_of-put es number change k) ∙ changed_cond (eqb number k) change (change_of k es) (own k)

-- rising entries put in order are what is found of each page
pub put_pages-over : (es : List Entry) (least top : ℕ) (own : ℕ → List ℕ) (k : ℕ) → IsRising least top es → put_pages es own k ≡ over es own k
put_pages-over [] least top own k rising = refl
put_pages-over (e ∷ es) least top own k rising =
    put_pages-over es (e.0 + 1) top (put_page e own) k rising.1 ∙ (elim (cases_eq e.0 k) [
      | inl here ↦
          let none : change_of k es ≡ None = none_below es (e.0 + 1) top k rising.1 (omega (arith, here)) in
          ap (λ (o : Option Change). changed o (put_page e own k)) none ∙ cond-true (eqb e.0 k) (content e.1) (own k) (eq-eqb e.0 k here)
          ∙ ap (λ (o : Option Change). changed o (own k)) (sym (cond-true (eqb e.0 k) (Some e.1) (change_of k es) (eq-eqb e.0 k here)))
      | inr there ↦
          ap (changed (change_of k es)) (cond-false (eqb e.0 k) (content e.1) (own k) (ne_eqb e.0 k there))
          ∙ ap (λ (o : Option Change). changed o (own k)) (sym (cond-false (eqb e.0 k) (Some e.1) (change_of k es) (ne_eqb e.0 k there)))
    ])

-- the overlay over the pages in their places is what the journal makes of them
pub over_pages : (position : ℕ) (overlay : List Entry) (held : List ℕ) → StandsOver position overlay held → (k : ℕ) → pages held k ≡ over overlay (own_page held) k
over_pages position overlay held stands k =
    pages_shown held stands.rs stands.stands.records k ∙ ap (λ (es : List Entry). over es (own_page held) k) (sym stands.covers)

-- no change comes of none
pub put_all_none : (k : ℕ) (old es : List Entry) → change_of k old ≡ None → change_of k es ≡ None → change_of k (put_all old es) ≡ None
put_all_none k old [] none less = none
put_all_none k old (e ∷ es) none less = elim (cases_eq e.0 k) [
  | inl here ↦ let some = sym (cond-true (eqb e.0 k) (Some e.1) (change_of k es) (eq-eqb e.0 k here)) ∙ less in absurd cc
  | inr there ↦
      put_all_none k (put e.0 e.1 old) es
      (change_of-put old e.0 e.1 k ∙ cond-false (eqb e.0 k) (Some e.1) (change_of k old) (ne_eqb e.0 k there) ∙ none)
      (sym (cond-false (eqb e.0 k) (Some e.1) (change_of k es) (ne_eqb e.0 k there)) ∙ less)
]

-- what is found after rising entries were put
put_all_or : (es old : List Entry) (least top k : ℕ) → IsRising least top es → change_of k (put_all old es) ≡ change_or (change_of k es) (change_of k old)
put_all_or [] old least top k rising = refl
put_all_or (e ∷ es) old least top k rising =
    put_all_or es (put e.0 e.1 old) (e.0 + 1) top k rising.1 ∙ ap (change_or (change_of k es)) (change_of-put old e.0 e.1 k) ∙ (elim (cases_eq e.0 k) [
      | inl here ↦
          let none : change_of k es ≡ None = none_below es (e.0 + 1) top k rising.1 (omega (arith, here)) in
          ap (λ (o : Option Change). change_or o (cond (eqb e.0 k) (Some e.1) (change_of k old))) none
          ∙ cond-true (eqb e.0 k) (Some e.1) (change_of k old) (eq-eqb e.0 k here)
          ∙ ap (λ (o : Option Change). change_or o (change_of k old)) (sym (cond-true (eqb e.0 k) (Some e.1) (change_of k es) (eq-eqb e.0 k here)))
      | inr there ↦
          ap (change_or (change_of k es)) (cond-false (eqb e.0 k) (Some e.1) (change_of k old) (ne_eqb e.0 k there))
          ∙ ap (λ (o : Option Change). change_or o (change_of k old)) (sym (cond-false (eqb e.0 k) (Some e.1) (change_of k es) (ne_eqb e.0 k there)))
    ])

changed_or : (first second : Option Change) (page : List ℕ) → changed (change_or first second) page ≡ changed first (changed second page)
changed_or None second page = refl
changed_or (Some change) second page = refl

-- rising entries put into others are over them
pub over_all : (old es : List Entry) (least top : ℕ) (own : ℕ → List ℕ) (k : ℕ) → IsRising least top es → over (put_all old es) own k ≡ over es (over old own) k
over_all old es least top own k rising =
    ap (λ (o : Option Change). changed o (own k)) (put_all_or es old least top k rising) ∙ changed_or (change_of k es) (change_of k old) (own k)
