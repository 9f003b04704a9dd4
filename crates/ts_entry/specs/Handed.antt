-- What a call hands on of rows that it makes.
use Rattle.std.specs.Prelude.{◌≡◌, ℕ, Result, Ok, Err, List, length}
use Rattle.ts_base.specs.declared.refusal.Refusal.{Refusal}
use Rattle.ts_row.specs.Row.{Element}

-- these rows were handed on, as many as they are; or they are refused
abbrev pub AreHanded : (List Element → Type 0) → Result (List Element) Refusal → Result ℕ Refusal → Type 0
AreHanded took (Ok rows) (Ok count) = took rows × (count ≡ length rows)
AreHanded took (Ok rows) (Err refusal) = ⊥
AreHanded took (Err why) (Ok count) = ⊥
AreHanded took (Err why) (Err refusal) = refusal ≡ why
