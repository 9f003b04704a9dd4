use Rattle.std.proofs.Common.{◌≡◌, ◌<◌, ◌≤◌, ◌∷◌, ◌++◌, [], length, take, ℕ, ◌+◌, List, ap, ◌∙◌, arith, slice_set}
use Rattle.std.proofs.lemmas.List.{take_more_set, take-append-le, length_push}
use Rattle.ts_page.specs.declared.page.Page.{Page as ThePage}
use Rattle.ts_combined_rows.proofs.page_list.PageList.read.Goals.{then-self-len+in_ok-push, else-self-len}
use Rattle.ts_combined_rows.proofs.page_list.PageList.read.Goals as goal

-- those that were used stay behind one page more, and there is one more
grown : (used : ℕ) (old room : List ThePage) (page : ThePage) → used ≡ length old → room ≡ old ++ page ∷ [] → (take used room ≡ take used old) × (used < length room)
grown used old room page end pushed =
    let long = ap (λ (ps : List ThePage). length ps) pushed in
    let one = length_push old page in
    (ap (λ (ps : List ThePage). take used ps) pushed ∙ take-append-le used old (page ∷ []) (omega (arith, end)), omega (arith, end, long, one))

there : (used : ℕ) (old room : List ThePage) → used ≤ length old → (used ≡ length old → ⊥) → room ≡ old → (take used room ≡ take used old) × (used < length room)
there used old room within more same =
    let long = ap (λ (ps : List ThePage). length ps) same in
    (ap (λ (ps : List ThePage). take used ps) same, omega (arith, within, more, long))

pub returns-clause-read : goal.returns-clause-read
returns-clause-read g c =
    let used = c.self.inside.used in
    let old : List ThePage = c.self.inside.room.items in
    let room : List ThePage = c.if-self-len.self-inside.1.0.items in
    let page : ThePage = c.get.new.into in
    let same = c.self.inside.room.ok.0 in
    let fact = elim c.if-self-len.branch as (λ _. (take used room ≡ take used old) × (used < length room)) [
      | then-self-len+in_ok-push w ↦ grown used old room w.zero.result (omega (arith, w.if-self-len.true, c.len.ensures, same)) (ap (λ x. x.1.0.items) w.self-inside-is ∙ w.in_ok-push.ensures.items)
      | else-self-len w ↦ there used old room c.self.inside.within (λ end. w.if-self-len.false (omega (arith, end, c.len.ensures, same))) (ap (λ x. x.1.0.items) w.self-inside-is)
    ] in
    let more : take (used + 1) (slice_set room used page) ≡ take used room ++ page ∷ [] = take_more_set room used page fact.1 in
    (page, more ∙ ap (λ (ps : List ThePage). ps ++ page ∷ []) (fact.0 ∙ c.self.view_is), λ told. c.in_ok-get.ensures.got.read told)
