-- Texts that are placed one after the other stand in transactions of 32.
use Rattle.std.proofs.Common.{◌≡◌, ℕ, zero, suc, Bool, true, false, List, [], ◌∷◌, ◌++◌, refl, ap, sym, ◌∙◌, append_assoc, append-nil}
use Rattle.std.specs.Prelude.{codes}
use Rattle.std.proofs.lemmas.List.Concat.{flat_map-append}
use Rattle.ts_dump_texts.specs.Script.{line_of, script_of}
use Rattle.ts_dump_laws.specs.Said.{texts_in_groups}
use Rattle.ts_dump.specs.declared.grouping.Grouping.{Grouping}
use Rattle.ts_dump.specs.declared.grouping.Grouping.TheVariants.{Alone, First, Open}
use Rattle.ts_dump.specs.Grouping.{first_of, opening, next, ending, placed, behind}
use Rattle.ts_dump.specs.Placed.{lines_from, ArePut}
use Rattle.ts_dump.specs.Dumped.{grouped}

placed_alone : (texts : List (List ℕ)) → placed Alone texts ≡ texts
placed_alone [] = refl
placed_alone (text ∷ texts) = ap (λ (l : List (List ℕ)). text ∷ l) (placed_alone texts)

behind_alone : (texts : List (List ℕ)) → behind Alone texts ≡ Alone
behind_alone [] = refl
behind_alone (text ∷ texts) = behind_alone texts

placed_open : (room : ℕ) (texts : List (List ℕ)) → placed (Open room) texts ++ ending (behind (Open room) texts) ≡ texts_in_groups room texts
placed_open room [] = refl
placed_open zero (text ∷ texts) = ap (λ (l : List (List ℕ)). codes "Commit;" ∷ codes "Begin;" ∷ text ∷ l) (placed_open 31 texts)
placed_open (suc room) (text ∷ texts) = ap (λ (l : List (List ℕ)). text ∷ l) (placed_open room texts)

-- with what stands behind the last one they are those of the whole
placed_all : (in_transactions : Bool) (texts : List (List ℕ)) → placed (first_of in_transactions) texts ++ ending (behind (first_of in_transactions) texts) ≡ grouped in_transactions texts
placed_all false texts = (λ i. placed_alone texts i ++ ending (behind_alone texts i)) ∙ append-nil texts
placed_all true [] = refl
placed_all true (text ∷ texts) = ap (λ (l : List (List ℕ)). codes "Begin;" ∷ text ∷ l) (placed_open 31 texts)

pub lines_all : (in_transactions : Bool) (texts : List (List ℕ)) → lines_from (first_of in_transactions) texts ++ script_of (ending (behind (first_of in_transactions) texts)) ≡ script_of (grouped in_transactions texts)
lines_all in_transactions texts =
    sym (flat_map-append line_of (placed (first_of in_transactions) texts) (ending (behind (first_of in_transactions) texts)))
    ∙ ap script_of (placed_all in_transactions texts)

-- what stands before a text was put, then the text and a line feed
pub one_put : (g h : Grouping) (text old begun put now : List ℕ) → h ≡ next g → begun ≡ old ++ script_of (opening g) → put ≡ begun ++ text → now ≡ put ++ 10 ∷ []
    → ArePut g (text ∷ []) h old now
one_put g h text old begun put now is first second last = record {
  stands = is;
  text = last ∙ ap (λ (l : List ℕ). l ++ 10 ∷ []) second ∙ ap (λ (l : List ℕ). (l ++ text) ++ 10 ∷ []) first
      ∙ append_assoc (old ++ script_of (opening g)) text (10 ∷ [])
      ∙ append_assoc old (script_of (opening g)) (line_of text)
      ∙ ap (λ (l : List ℕ). old ++ (script_of (opening g) ++ l)) (sym (append-nil (line_of text)))
      ∙ ap (λ (l : List ℕ). old ++ l) (sym (flat_map-append line_of (opening g) (text ∷ [])));
}
