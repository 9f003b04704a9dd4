-- Texts that were put or said, each in a line, with what stands before it in transactions. The laws of texts behind
-- others stand here since the law of a trait takes its proof from specs/.
use Rattle.std.specs.Prelude.{◌≡◌, ℕ, Result, OnOk, OnErr, List, [], ◌∷◌, ◌++◌}
use Rattle.std.proofs.Common.{refl, sym, ap, ◌∙◌, append_assoc, append-nil}
use Rattle.std.proofs.lemmas.List.Concat.{flat_map-append}
use Rattle.ts_disk.specs.Device.{Device, Saying}
use Rattle.ts_dump_texts.specs.Script.{line_of, script_of}
use Rattle.ts_dump.specs.declared.ended.Fault.{Fault}
use Rattle.ts_dump.specs.declared.grouping.Grouping.{Grouping}
use Rattle.ts_dump.specs.Grouping.{opening, next, placed, behind}

-- the lines of texts, of which the first stands there
abbrev pub lines_from : Grouping → List (List ℕ) → List ℕ
lines_from g texts = script_of (placed g texts)

-- the lines of these texts were put behind others, and the next one stands there
pub record ArePut (g : Grouping) (texts : List (List ℕ)) (h : Grouping) (old now : List ℕ) : Type 0 where
  pub stands : h ≡ behind g texts
  pub text : now ≡ old ++ lines_from g texts

-- they were said, or after an error a front of them
pub record SaysTexts (g : Grouping) (texts : List (List ℕ)) (h : Grouping) (result : Result Unit Fault)
    (v w : Device) : Type 0 where
  pub whole : OnOk result (ArePut g texts h v.said w.said)
  pub part : OnErr result (Saying v.said (lines_from g texts) w.said)

-- texts and others behind them
pub behind_both : (g : Grouping) (xs ys : List (List ℕ)) → behind g (xs ++ ys) ≡ behind (behind g xs) ys
behind_both g [] ys = refl
behind_both g (y ∷ xs) ys = behind_both (next g) xs ys

pub placed_both : (g : Grouping) (xs ys : List (List ℕ))
    → placed g (xs ++ ys) ≡ placed g xs ++ placed (behind g xs) ys
placed_both g [] ys = refl
placed_both g (y ∷ xs) ys =
    ap (λ (l : List (List ℕ)). opening g ++ y ∷ l) (placed_both (next g) xs ys)
    ∙ sym (append_assoc (opening g) (y ∷ placed (next g) xs) (placed (behind (next g) xs) ys))

pub lines_both : (g : Grouping) (xs ys : List (List ℕ))
    → lines_from g (xs ++ ys) ≡ lines_from g xs ++ lines_from (behind g xs) ys
lines_both g xs ys =
    ap script_of (placed_both g xs ys) ∙ flat_map-append line_of (placed g xs) (placed (behind g xs) ys)

pub none_put : (g : Grouping) (old : List ℕ) → ArePut g [] g old old
none_put g old = record { stands = refl; text = sym (append-nil old) }

pub both_put : (g h i : Grouping) (xs ys : List (List ℕ)) (a b c : List ℕ) → ArePut g xs h a b → ArePut h ys i b c
    → ArePut g (xs ++ ys) i a c
both_put g h i xs ys a b c p q = record {
  stands = q.stands ∙ ap (λ (x : Grouping). behind x ys) p.stands ∙ sym (behind_both g xs ys);
  text = q.text ∙ (λ j. p.text j ++ lines_from (p.stands j) ys)
      ∙ append_assoc a (lines_from g xs) (lines_from (behind g xs) ys)
      ∙ ap (λ (l : List ℕ). a ++ l) (sym (lines_both g xs ys));
}
