-- Faults of a survey.
use Rattle.ts_base.specs.declared.fault.StoreFault.{StoreFault}
use Rattle.ts_base.specs.declared.fault.StoreFault.TheVariants.{Failed as StoreFailed, Memory as StoreMemory}
use Rattle.ts_container.specs.declared.fault.SurveyFault.{SurveyFault}
use Rattle.ts_container.specs.declared.fault.SurveyFault.TheVariants.{Failed, Memory}

-- what a fault of the store is to a survey
abbrev pub survey_fault : StoreFault → SurveyFault
survey_fault StoreFailed = Failed
survey_fault (StoreMemory error) = Memory error
