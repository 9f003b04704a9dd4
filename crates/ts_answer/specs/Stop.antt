-- What other errors are to a command.
use Rattle.ts_base.specs.declared.fault.Trouble.{Trouble}
use Rattle.ts_base.specs.declared.fault.Trouble.TheVariants as troubles
use Rattle.ts_base.specs.declared.fault.StoreFault.{StoreFault}
use Rattle.ts_base.specs.declared.fault.StoreFault.TheVariants as faults
use Rattle.ts_answer.specs.declared.stop.Stop.{Stop}
use Rattle.ts_answer.specs.declared.stop.Stop.TheVariants.{Refused, Failed, Memory}

abbrev pub trouble_stop : Trouble → Stop
trouble_stop (troubles.Refused refusal) = Refused refusal
trouble_stop (troubles.Memory error) = Memory error

abbrev pub store_stop : StoreFault → Stop
store_stop faults.Failed = Failed
store_stop (faults.Memory error) = Memory error
