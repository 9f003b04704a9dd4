-- Merged runs that grow at their end.
use Rattle.std.specs.Prelude.{ℕ, ◌+◌, Bool, false, if◌then◌else◌, List, [], ◌∷◌}
use Rattle.ts_pattern.specs.declared.run.Run.{Run}
use Rattle.ts_pattern.specs.Patterns.{run, same_flag}

-- merged runs with further intervals of one flag at their end
abbrev pub extended : List Run → Bool → ℕ → List Run
extended [] on more = run on more ∷ []
extended (r ∷ []) on more = if same_flag on r.on then run on (r.count + more) ∷ [] else r ∷ run on more ∷ []
extended (r ∷ s ∷ rest) on more = r ∷ extended (s ∷ rest) on more

-- the last run has this flag
abbrev pub ends_on : List Run → Bool → Bool
ends_on [] on = false
ends_on (r ∷ []) on = same_flag r.on on
ends_on (r ∷ s ∷ rest) on = ends_on (s ∷ rest) on
