use Rattle.std.proofs.Common.{◌≡◌, ℕ, List, Option, length, get_or, option_to_list, ◌==◌, sym, ap, ◌∙◌, arith}
use Rattle.std.specs.List.{list_any}
use Rattle.ts_model.specs.Definitions.{Definitions}
use Rattle.ts_rolling_sets.specs.InMemory.{window_at, in_order}
use Rattle.ts_rolling_sets.specs.Near.{key_if}
use Rattle.ts_rolling_sets.proofs.SearchLemmas.{live_at, live_past}
use Rattle.ts_rolling_sets.proofs.NearLemmas.{found_key}
use Rattle.ts_rolling_sets.proofs.near.live_key.Goals as goal

pub returns-then-place-slots : goal.returns-then-place-slots
returns-then-place-slots c =
    let d : Definitions = c.args.defs.now.definitions in
    let set : List ℕ = c.args.set.now in
    let w = c.args.window in
    let same = c.in_order-slots.ensures.value in
    let size : length c.in_order-slots.result.now ≡ length (in_order d) = ap length same in
    let place = c.place_of-place.result in
    let inside = c.if-place-slots.true in
    c.key_of.ensures
    ∙ found_key set w c.window_in.result c.window_in.ensures.key
    ∙ ap (λ (o : Option ℕ). key_if set w (list_any (λ k. k == w) (option_to_list o))) (c.window_in.ensures.value ∙ ap (λ (ss : List ℕ). window_at d set c.args.container (get_or ss place 0)) same)
    ∙ ap (key_if set w) (live_at d set c.args.container w c.as_slice.result.now (c.as_slice.ensures.value ∙ c.requires.key) place c.place_of-place.ensures (omega (arith, size, inside)))

pub returns-else-place-slots : goal.returns-else-place-slots
returns-else-place-slots c =
    let d : Definitions = c.args.defs.now.definitions in
    let same = c.in_order-slots.ensures.value in
    let size : length c.in_order-slots.result.now ≡ length (in_order d) = ap length same in
    let place = c.place_of-place.result in
    let past = c.if-place-slots.false in
    ap (key_if c.args.set.now c.args.window) (sym (live_past d c.args.set.now c.args.container c.args.window c.as_slice.result.now (c.as_slice.ensures.value ∙ c.requires.key) place c.place_of-place.ensures (omega (arith, size, past))))
