use Rattle.std.proofs.Common.{◌≡◌, ℕ, Ok, sym, subst}
use Rattle.ts_model.specs.Catalogue.{Series}
use Rattle.ts_layout.specs.Meaning.{catalogue_of}
use Rattle.ts_answer.specs.Answer.{wanted}
use Rattle.ts_answer.specs.View.{view}
use Rattle.ts_answer.proofs.CallerLemmas.{defined_by, fails}
use Rattle.ts_shelf.specs.Shelf.{IsShelfIn}
use Rattle.ts_shelf.proofs.SeenLemmas.{shelf_tried}
use Rattle.ts_shelf.proofs.shelf.shelf_of.Goals as goal

pub returns-in_err-slot-clause-tried : goal.returns-in_err-slot-clause-tried
returns-in_err-slot-clause-tried g c l kept = fails c.in_err-slot.field-0.0 c.from_residual.ensures.1 (c.in_err-slot.ensures.tried _ l (defined_by kept))

pub returns-clause-tried : goal.returns-clause-tried
returns-clause-tried g c l kept =
    let x = view c.args.defs.now.definitions c.args.space.now (g.P.Pages.contents c.args.pages.now) in
    let r = c.shelf_at-found.result in
    let key = c.args.key.now in
    let tried = shelf_tried x l kept key c.in_ok-slot.slot r.0.kind.now r.1 c.shelf_at-found.ensures.columns c.shelf_at-found.ensures.lies (c.in_ok-slot.ensures.tried _ l (defined_by kept)) in
    record {
      ok = subst (λ (n : ℕ). (series : Series) × (wanted key (catalogue_of l).series ≡ Ok series) × IsShelfIn l key r.1 n r.0.kind.now series) (sym c.shelf_at-found.ensures.slot) tried;
      err = tt;
    }
