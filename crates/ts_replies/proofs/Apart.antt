-- Replies that the memory line tells apart.
use Rattle.std.proofs.Common.{◌≡◌, ◌∙◌, ℕ, List, [], ◌++◌, Some, ap, refl}
use Rattle.ts_replies.specs.Acknowledged.{Protocol, behind, memory_line, AreApart, TellsApart}
use Rattle.ts_replies.proofs.Behind.{none-front}

-- where no other line stands in the place of a reply
pub by_memory_line : {C I : Type 0} (p : Protocol C I) → AreApart p.answer → ((item : I) (line : List ℕ) → p.stand_in item ≡ Some line → line ≡ memory_line) → TellsApart p
by_memory_line p apart only = record {
  line = λ cat item line x is. ap (λ (l : List ℕ). behind (p.answer cat item).0 (l ++ x)) (only item line is) ∙ apart.memory cat item x;
  reply = λ cat item line is. ap (λ (l : List ℕ). behind l (p.answer cat item).0) (only item line is) ∙ apart.reply cat item;
  some = λ cat item. none-front (p.answer cat item).0 [] memory_line (memory_line, refl) (apart.memory cat item []);
}
