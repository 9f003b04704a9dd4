use Rattle.std.proofs.Common.{refl}
use Rattle.ts_page.specs.Pages.{zero_page}
use Rattle.ts_page.proofs.page.Page.zero.Goals as goal

pub returns : goal.returns
unfolding zero_page
returns c = refl
