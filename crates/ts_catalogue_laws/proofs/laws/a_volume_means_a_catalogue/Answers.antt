use Rattle.ts_catalogue_laws.proofs.MeantLemmas.{volumes_mean}
use Rattle.ts_catalogue_laws.proofs.laws.a_volume_means_a_catalogue.Goals as goal

pub returns : goal.returns
returns c = volumes_mean (record {
  names = c.names_stand_in_slots.ensures;
  references = c.references_are_names.ensures;
  counted = c.slots_are_counted.ensures;
  charges = c.charges_follow_the_directory.ensures;
  starts = c.a_regular_element_is_on_its_grid.ensures;
  filled = c.pages_that_hold_are_filled.ensures;
  formats = c.a_catalogue_keeps_its_format.ensures;
})
