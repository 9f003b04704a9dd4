use Rattle.std.proofs.Common.{◌≡◌, List, ℕ, ◌++◌, ◌∷◌, [], sym, subst}
use Rattle.ts_layout.specs.Meaning.{ElementPage, Free}
use Rattle.ts_container.specs.declared.content.Content.{Content}
use Rattle.ts_container.specs.declared.span.Span.{Span}
use Rattle.ts_container.specs.Elements.{Describes, Listed}
use Rattle.ts_container.proofs.ElementLemmas.{listed_free, listed_page}
use Rattle.ts_container.proofs.elements.Elements.add.Goals as goal

pub returns-in_ok-push-in-Free : goal.returns-in_ok-push-in-Free
returns-in_ok-push-in-Free c = λ d es e is described listed.
    let spans = c.args.self.now.spans.items in
    let same : e ≡ Free = subst (λ (x : Content). Describes d c.args.number x e) c.in-Free.is described in
    subst (λ (x : ElementPage). Listed d spans c.push.new.self.items (es ++ x ∷ [])) (sym same)
    (subst (λ (l : List ℕ). Listed d spans l (es ++ Free ∷ [])) (sym c.in_ok-push-in-Free.ensures.items)
    (listed_free d spans c.args.self.now.free.items c.args.number es is listed))

pub returns-in_ok-push-in-Series : goal.returns-in_ok-push-in-Series
returns-in_ok-push-in-Series c = λ d es e is described listed.
    let free = c.args.self.now.free.items in
    let found = subst (λ (x : Content). Describes d c.args.number x e) c.in-Series.is described in
    subst (λ (l : List Span). Listed d l free (es ++ e ∷ [])) (sym c.in_ok-push-in-Series.ensures.items)
    (listed_page d c.args.self.now.spans.items free c.args.number c.in-Series.span es e found is listed)
