-- What is made of the numbers of a row is what is made of its values.
use Rattle.std.proofs.Common.{◌≡◌, map, Option, Some, None, Err, get_or}
use Rattle.std.specs.Prelude.{pos}
use Rattle.std.proofs.Math.ListN.{get_or-map}
use Rattle.ts_row.specs.declared.value.Value.TheVariants.{Null}
use Rattle.ts_row.specs.Row.{Values}
use Rattle.ts_running.specs.declared.bind.Source.{Source}
use Rattle.ts_running.specs.declared.fault.ApplyError.{ApplyError}
use Rattle.ts_running.specs.declared.fault.ApplyError.TheVariants.{Overflow, Memory}
use Rattle.ts_running.specs.Binding.{operand, opposite_of, joined_of, number_if_any, numbers, numbers_of, over_numbers, Applies, ApplyFails}

-- what is made of the numbers of values is what is made of the values
pub numbers_are : (values : Values) → over_numbers (numbers_of values) ≡ numbers values
numbers_are values = λ j. record {
  column = λ s. Some (operand (at s j) s.scale);
  digits = λ n. Some (operand (Some (pos n)) 0);
  opposite = opposite_of;
  joined = joined_of;
} where
  at : (s : Source) → get_or (map number_if_any values) s.column None ≡ number_if_any (get_or values s.column Null)
  at s = get_or-map number_if_any values s.column Null

pub fails_applies : {A : Type 0} (answer : Option A) (error : ApplyError) → ApplyFails answer error → Applies answer (Err error)
fails_applies answer Overflow is = is
fails_applies answer (Memory error) is = tt
