-- Why a phrase isn't read.
use Rattle.std.specs.Prelude.{◌≡◌, Err}
use Rattle.ts_text.specs.Phrase.{Read}
use Rattle.ts_text.specs.declared.misfit.Misfit.{Misfit}
use Rattle.ts_text.specs.declared.misfit.Misfit.TheVariants.{At, Memory}

-- the misfit comes of what was read; want of memory may come at any time
abbrev pub Refuses : {A : Type 0} → Misfit → Read A → Type 0
Refuses (At left) read = read ≡ Err left
Refuses (Memory error) read = Unit {0}

-- the misfit comes of what was read, and of nothing else: nothing takes memory there
abbrev pub RefusesExactly : {A : Type 0} → Misfit → Read A → Type 0
RefusesExactly (At left) read = read ≡ Err left
RefusesExactly (Memory error) read = ⊥
