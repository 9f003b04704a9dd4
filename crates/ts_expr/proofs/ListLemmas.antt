-- Lists of at most so many phrases, each behind a comma.
use Rattle.std.proofs.Common.{◌≡◌, ℕ, suc, List, [], ◌∷◌, ◌++◌, Ok, Err, refl, sym, ◌∙◌, ap, append_assoc}
use Rattle.std.proofs.lemmas.List.{append-nil}
use Rattle.ts_text.specs.Phrase.{Read, Phrase, go_on, give, a_sign, phrases, onto}
use Rattle.ts_text.specs.Misfit.{Refuses}
use Rattle.ts_text.specs.declared.misfit.Misfit.{Misfit}
use Rattle.ts_text.specs.declared.misfit.Misfit.TheVariants.{At, Memory}

-- A list goes on: a comma and a phrase stand there.
pub few_more : {A : Type 0} (phrase : Phrase A) (n : ℕ) (before : List A) (bytes behind more : List ℕ) (found : A) → a_sign 44 bytes ≡ Ok (tt, behind) → phrase behind ≡ Ok (found, more) →
    onto before (phrases phrase (suc n) bytes) ≡ onto (before ++ found ∷ []) (phrases phrase n more)
few_more {A} phrase n before bytes behind more found comma one =
    ap (onto before) (rw (comma, one) refl) ∙ by_others (phrases phrase n more) where
      by_others : (others : Read (List A)) → onto before (go_on others (λ rest. give (found ∷ rest))) ≡ onto (before ++ found ∷ []) others
      by_others (Err left) = refl
      by_others (Ok x) = ap (λ (l : List A). Ok (l, x.1)) (sym (append_assoc before (found ∷ []) x.0))

-- it ends where no comma stands
pub few_end : {A : Type 0} (phrase : Phrase A) (n : ℕ) (before : List A) (bytes : List ℕ) (left : ℕ) → a_sign 44 bytes ≡ Err left → onto before (phrases phrase (suc n) bytes) ≡ Ok (before, bytes)
few_end {A} phrase n before bytes left none =
    let nothing : phrases phrase (suc n) bytes ≡ Ok ([], bytes) = rw none refl in
    ap (onto before) nothing ∙ ap (λ (l : List A). Ok (l, bytes)) (append-nil before)

-- and where there are as many as there may be
pub few_full : {A : Type 0} (phrase : Phrase A) (before : List A) (bytes : List ℕ) → onto before (phrases phrase 0 bytes) ≡ Ok (before, bytes)
few_full {A} phrase before bytes = ap (λ (l : List A). Ok (l, bytes)) (append-nil before)

onto_refused : {A : Type 0} (before : List A) (read : Read (List A)) (left : ℕ) → onto before read ≡ Err left → read ≡ Err left
onto_refused before (Ok x) left is = absurd (cc)
onto_refused before (Err found) left is = let same : found ≡ left = cc in ap Err same

-- A misfit in a list: the phrase behind the comma is refused.
pub few_refused : {A : Type 0} (phrase : Phrase A) (n : ℕ) (before first : List A) (whole : Read (List A)) (bytes behind : List ℕ) (misfit : Misfit) → onto before (phrases phrase (suc n) bytes) ≡ onto first whole → a_sign 44 bytes ≡ Ok (tt, behind) → Refuses misfit (phrase behind) → Refuses misfit whole
few_refused phrase n before first whole bytes behind (Memory error) so_far comma is = tt
few_refused phrase n before first whole bytes behind (At left) so_far comma is =
    let refused : phrases phrase (suc n) bytes ≡ Err left = rw (comma, is) refl in
    onto_refused first whole left (sym so_far ∙ ap (onto before) refused)
