use Rattle.std.proofs.Common.{List, ℕ, true, ◌≡◌, map, ap, sym, subst, ◌∙◌}
use Rattle.ts_hidden.specs.Marks.{is_marked, Include}
use Rattle.ts_hidden.proofs.MarkLemmas.{marked_in, marked_before}
use Rattle.ts_hidden.proofs.marks.Marks.mark.Goals as goal

pub returns-clause-marked : goal.returns-clause-marked
returns-clause-marked c =
    subst (λ (key : List ℕ). is_marked key (map (λ k. k.items) c.insert.new.self.keys) ≡ true) (c.in_ok-key.ensures.items ∙ c.as_slice.ensures.value)
    (ap (λ ks. is_marked c.in_ok-key.key.items (map (λ k. k.items) ks)) c.in_ok-insert.ensures.keys ∙ marked_in (λ k. k.items) c.in_ok-key.key c.self.inside.keys.keys)

pub returns-clause-more : goal.returns-clause-more
returns-clause-more c =
    let after = map (λ k. k.items) c.insert.new.self.keys in
    let before = c.self.inside.keys.keys in
    subst (Include after) c.self.view_is
    (subst (λ ks. Include (map (λ k. k.items) ks) (map (λ k. k.items) before)) (sym c.in_ok-insert.ensures.keys) (marked_before (λ k. k.items) c.in_ok-key.key before))
