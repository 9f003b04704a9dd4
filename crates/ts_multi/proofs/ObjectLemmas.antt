-- What the commands of a transaction wrote, one behind the other.
use Rattle.std.proofs.Common.{◌≡◌, Bool, ◌||◌, List, [], ◌∷◌, refl, ◌∙◌, ap}
use Rattle.std.proofs.lemmas.List.Folds.{list_any-append}
use Rattle.std.specs.List.{list_any}
use Rattle.ts_multi.specs.declared.object.Touched.{Touched}
use Rattle.ts_multi.specs.Objects.{written, meets, is_touched}

-- these commands meet others where one of them does
pub meets-written : (commands noted : List Touched) → meets (written commands) noted ≡ list_any (λ t. meets t.wrote noted) commands
meets-written [] noted = refl
meets-written (command ∷ commands) noted =
    list_any-append (λ object. is_touched object noted) command.wrote (written commands)
    ∙ ap (λ (b : Bool). meets command.wrote noted || b) (meets-written commands noted)
