use Rattle.std.proofs.Common.{◌≡◌, ℕ, List, Some, ap, sym, ◌∙◌}
use Rattle.ts_rolling.specs.Sets.{window_key}
use Rattle.ts_rolling_sets.specs.Near.{key_if}
use Rattle.ts_rolling_sets.specs.InMemory.{live_in}
use Rattle.ts_rolling_sets.proofs.NearLemmas.{any_newest, any_later}
use Rattle.ts_rolling_sets.proofs.near.own_of.Goals as goal

pub returns-then-last-window : goal.returns-then-last-window
returns-then-last-window c =
    let set : List ℕ = c.args.set.now in
    let live : List ℕ = live_in c.args.defs.now.definitions set c.args.container in
    let same : c.args.last.number ≡ c.args.window = c.if-last-window.true in
    ap Some (c.requires.key ∙ ap (window_key set) same) ∙ ap (key_if set c.args.window) (sym (any_newest live c.args.last.number c.args.window c.requires.newest same))

pub returns-then-last-window-2 : goal.returns-then-last-window-2
returns-then-last-window-2 c =
    let set : List ℕ = c.args.set.now in
    let live : List ℕ = live_in c.args.defs.now.definitions set c.args.container in
    ap (key_if set c.args.window) (sym (any_later live c.args.last.number c.args.window c.requires.newest c.if-last-window-2.true))
