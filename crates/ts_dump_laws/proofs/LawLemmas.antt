-- The laws of statements.
use Rattle.std.proofs.Common.{◌≡◌, IsTrue, Ok}
use Rattle.ts_pattern.specs.Patterns.{Plan, is_pattern, read_plan, printed_plan}
use Rattle.ts_calendar.specs.Calendars.{IsSound, read_calendar, printed_calendar}
use Rattle.ts_calendar.specs.declared.text.CalendarText.{CalendarText}
use Rattle.ts_model.specs.Catalogue.{in_newest_format}
use Rattle.ts_dump_laws.specs.Statements.{definitions_of, elements_of, statements_of, without_elements}
use Rattle.ts_dump_laws.specs.Laws.{empty_as, StatementsMakeCatalogues, TransactionsMakeCatalogues}
use Rattle.ts_dump_laws.proofs.StepLemmas.{steps_make, steps_in_transactions}
use Rattle.ts_catalogue_laws.specs.Laws.{VolumesMeanCatalogues}
use Rattle.ts_dump_laws.specs.Volumes.{StatementsMakeVolumes}
use Rattle.ts_dump_laws.proofs.RuleLemmas.{keeps_rules}
use Rattle.ts_dump_laws.proofs.MadeLemmas.{definitions_made, elements_made, all_made_of}

module _ (patterns_read : (p : Plan) → IsTrue (is_pattern p.runs) → read_plan (printed_plan p) ≡ Ok p)
    (calendars_read : (text : CalendarText) → IsSound text → read_calendar (printed_calendar text) ≡ Ok text) where
  pub catalogues_made : StatementsMakeCatalogues
  catalogues_made = record {
    all = λ written cat gives rules. steps_make (statements_of written cat) (empty_as cat) (in_newest_format cat) (all_made_of written gives cat rules patterns_read calendars_read);
    definitions = λ cat rules. steps_make (definitions_of cat) (empty_as cat) (in_newest_format (without_elements cat)) (definitions_made cat rules patterns_read calendars_read);
    elements = λ written cat gives rules. steps_make (elements_of written cat) (in_newest_format (without_elements cat)) (in_newest_format cat) (elements_made written gives cat rules);
  }

  pub catalogues_made_in_transactions : TransactionsMakeCatalogues
  catalogues_made_in_transactions = record {
    all = λ written cat gives rules. steps_in_transactions (statements_of written cat) (empty_as cat) (in_newest_format cat) (all_made_of written gives cat rules patterns_read calendars_read);
    definitions = λ cat rules. steps_in_transactions (definitions_of cat) (empty_as cat) (in_newest_format (without_elements cat)) (definitions_made cat rules patterns_read calendars_read);
    elements = λ written cat gives rules. steps_in_transactions (elements_of written cat) (in_newest_format (without_elements cat)) (in_newest_format cat) (elements_made written gives cat rules);
  }

-- of volumes
pub volumes_made : VolumesMeanCatalogues → StatementsMakeCatalogues → TransactionsMakeCatalogues → StatementsMakeVolumes
volumes_made catalogues made grouped = record {
  all = λ written bytes cat gives means. made.all written cat gives (keeps_rules cat (catalogues.bytes bytes cat means));
  definitions = λ bytes cat means. made.definitions cat (keeps_rules cat (catalogues.bytes bytes cat means));
  elements = λ written bytes cat gives means. made.elements written cat gives (keeps_rules cat (catalogues.bytes bytes cat means));
  all_in_transactions = λ written bytes cat gives means. grouped.all written cat gives (keeps_rules cat (catalogues.bytes bytes cat means));
  definitions_in_transactions = λ bytes cat means. grouped.definitions cat (keeps_rules cat (catalogues.bytes bytes cat means));
}
