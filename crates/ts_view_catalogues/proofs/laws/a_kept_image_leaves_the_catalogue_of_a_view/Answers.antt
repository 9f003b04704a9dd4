use Rattle.ts_view_catalogues.proofs.CatalogueLemmas.{kept_images_leave}
use Rattle.ts_view_catalogues.proofs.laws.a_kept_image_leaves_the_catalogue_of_a_view.Goals as goal

pub returns : goal.returns
returns c = kept_images_leave
