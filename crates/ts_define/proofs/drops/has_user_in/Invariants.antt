-- No definition before this slot refers to it.
use Rattle.std.proofs.Common.{◌≡◌, ℕ, ◌<◌, Some}
use Rattle.ts_model.specs.declared.def.Def.{Def}
use Rattle.ts_model.specs.Definitions.{def_at, Refers}
use Rattle.ts_define.proofs.drops.has_user_in.Given as goal

abbrev pub invariant-loop-user : goal.invariant-loop-user
invariant-loop-user l = (i : ℕ) (def : Def) → i < l.user → def_at l.users i l.defs.definitions ≡ Some def → Refers def l.kind l.slot → ⊥
