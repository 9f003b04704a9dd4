use Rattle.std.proofs.Common.{◌≡◌, ◌∙◌, Ok, Err, ℕ, List, sym, subst}
use Rattle.std.specs.Result.{OnOk}
use Rattle.std.specs.List.{flat_map}
use Rattle.ts_journal.specs.Journal.{pages}
use Rattle.ts_row.specs.declared.kind.Column.{Column}
use Rattle.ts_space.specs.declared.place.Place.{Place}
use Rattle.ts_dump.specs.Elements.{texts_of_elements}
use Rattle.ts_dump.specs.Held.{HaveParts}
use Rattle.ts_dump.specs.declared.grouping.Grouping.{Grouping}
use Rattle.ts_dump.specs.Placed.{SaysTexts}
use Rattle.ts_dump.proofs.SayingLemmas.{caused_then, texts_failed, texts_none}
use Rattle.ts_dump.proofs.PartLemmas.{parts_next, parts_cut, parts_end}
use Rattle.ts_dump.proofs.series.say_places.Goals as goal

pub returns-in_err-say_page-clause-said : goal.returns-in_err-say_page-clause-said
returns-in_err-say_page-clause-said g c = λ told parts have.
    let v = g.S.Volume.device c.args.site.now in
    let x = g.S.Volume.device c.loop-place.site in
    let w = g.S.Volume.device c.say_page.new.site in
    let columns : List Column = c.args.shelf.now.kind.now.columns in
    let slot = c.args.shelf.now.series in
    let shape = c.args.shape.now in
    let key : List ℕ = c.args.key.now in
    let items : List Place = c.places-place-items.result.now in
    let i = c.loop-place.place-index in
    let inv = c.loop-place.invariant in
    let e = c.in_err-say_page.field-0.0 in
    let before = c.args.grouping.now in
    let here = c.loop-place.texts.grouping in
    let behind = c.say_page.new.texts.grouping in
    let on = subst (λ (ps : List Place). HaveParts shape slot columns (pages v.held) ps parts) (sym c.places-place-items.ensures.ok) have in
    let so_far = inv.said told parts have in
    texts_failed before behind before (flat_map (texts_of_elements key columns) parts) c.from_residual.result e v w c.from_residual.ensures.1
    (parts_cut shape slot columns key v items parts on i before behind behind w e
    (parts_next shape slot columns key v items parts on i before here behind x w _ (Err e) (Unit {0}) inv.caused.stays.held c.loop-place-test.true so_far.0
    (λ es at. (subst (λ (k : List ℕ). SaysTexts here (texts_of_elements k columns es) behind (Err e) x w) so_far.1 (c.in_err-say_page.ensures.said told es at).0, tt))).0)

pub loop-place-preserved : goal.loop-place-preserved
loop-place-preserved g c =
    let v = g.S.Volume.device c.args.site.now in
    let x = g.S.Volume.device c.loop-place.site in
    let w = g.S.Volume.device c.say_page.new.site in
    let columns : List Column = c.args.shelf.now.kind.now.columns in
    let slot = c.args.shelf.now.series in
    let shape = c.args.shape.now in
    let key : List ℕ = c.args.key.now in
    let items : List Place = c.places-place-items.result.now in
    let i = c.loop-place.place-index in
    let inv = c.loop-place.invariant in
    let here = c.loop-place.texts.grouping in
    let behind = c.say_page.new.texts.grouping in
    record {
      caused = caused_then (Ok tt) v x w inv.caused c.in_ok-say_page.ensures.caused;
      said = λ told parts have.
          let on = subst (λ (ps : List Place). HaveParts shape slot columns (pages v.held) ps parts) (sym c.places-place-items.ensures.ok) have in
          let so_far = inv.said told parts have in
          parts_next shape slot columns key v items parts on i c.args.grouping.now here behind x w _ (Ok tt) (c.say_page.new.texts.key.now ≡ key) inv.caused.stays.held c.loop-place-test.true so_far.0
          (λ es at.
          let one = c.in_ok-say_page.ensures.said told es at in
          (subst (λ (k : List ℕ). SaysTexts here (texts_of_elements k columns es) behind (Ok tt) x w) so_far.1 one.0, one.1 ∙ so_far.1));
    }

pub returns-clause-said : goal.returns-clause-said
returns-clause-said g c = λ told parts have.
    let v = g.S.Volume.device c.args.site.now in
    let x = g.S.Volume.device c.loop-place.site in
    let columns : List Column = c.args.shelf.now.kind.now.columns in
    let slot = c.args.shelf.now.series in
    let shape = c.args.shape.now in
    let items : List Place = c.places-place-items.result.now in
    let on = subst (λ (ps : List Place). HaveParts shape slot columns (pages v.held) ps parts) (sym c.places-place-items.ensures.ok) have in
    subst (λ (h : Grouping). SaysTexts c.args.grouping.now (flat_map (texts_of_elements c.args.key.now columns) parts) h (Ok tt) v x) (sym c.grouping.ensures)
    (parts_end shape slot columns c.args.key.now v items parts on c.loop-place.place-index c.args.grouping.now c.loop-place.texts.grouping x c.loop-place-test.false
    (c.loop-place.invariant.said told parts have).0)
