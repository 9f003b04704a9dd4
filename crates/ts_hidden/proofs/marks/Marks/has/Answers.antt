use Rattle.std.proofs.Common.{ap, ◌∙◌, List, ℕ, map}
use Rattle.ts_hidden.specs.Marks.{is_marked}
use Rattle.ts_hidden.proofs.MarkLemmas.{found}
use Rattle.ts_hidden.proofs.marks.Marks.has.Goals as goal

pub returns : goal.returns
returns c =
    let keys = c.self.inside.keys.keys in
    c.contains.ensures
    ∙ found (λ k. k.items) c.as_slice.result.now keys
    ∙ ap (λ (key : List ℕ). is_marked key (map (λ k. k.items) keys)) c.as_slice.ensures.value ∙ ap (is_marked c.args.key.now) c.self.view_is
