use Rattle.std.proofs.Common.{◌-◌, ℤ, ◌∷◌, ℕ, sym, subst, refl, ◌∙◌, arith}
use Rattle.ts_cells.specs.IrregularPage.{page_room}
use Rattle.ts_sheets.specs.Places.{FitsFirst, FitsLast, IsBeginning}
use Rattle.ts_chain.proofs.LessLemmas.{before_room}
use Rattle.ts_chain.proofs.AnswerLemmas.{before_answer, behind_answer, put_answer, read_first}
use Rattle.ts_chain.proofs.remove.keep_rest.Goals as goal

pub merge_before-requires-clause-room : goal.merge_before-requires-clause-room
merge_before-requires-clause-room g c =
    let h = c.requires.holder in
    before_room c.args.places.now h.front (h.place ∷ h.back) c.args.index c.page_room-room.result (page_room c.args.shelf.now.kind.now.columns) c.args.count _ h.parts h.index_is (c.if-fits_before.ensures.low refl) c.page_room-room.ensures.value
    (c.if-fits_before.ensures.yes refl h.front (h.place ∷ h.back) h.parts h.index_is)

pub returns-then-fits_before-clause-ok : goal.returns-then-fits_before-clause-ok
returns-then-fits_before-clause-ok g c =
    let h = c.requires.holder in
    let e = c.in_ok-one.ensures in
    let low = c.if-fits_before.ensures.low refl in
    before_answer g.P.Pages.tells c.args.shelf.now.series c.args.shelf.now.kind.now.columns c.args.stamp c.args.places.now c.args.index (g.P.Pages.contents c.args.pages.now) (g.P.Pages.contents c.merge_before.new.pages) h c.requires.rising c.requires.places
    c.args.count c.args.page.now.bytes (c.requires.rest h) _ c.in_ok-one.one (c.args.index - 1) _ (omega (arith, low))
    (subst (λ (q : ℕ). FitsLast q c.args.count h.front) c.page_room-room.ensures.value (c.if-fits_before.ensures.yes refl h.front (h.place ∷ h.back) h.parts h.index_is))
    (c.requires.few h) e.counted e.page e.free e.at e.few e.joined

pub returns-then-fits_behind-clause-ok : goal.returns-then-fits_behind-clause-ok
returns-then-fits_behind-clause-ok g c =
    let h = c.requires.holder in
    let e = c.in_ok-one-2.ensures in
    let rest = c.requires.rest h in
    let begins = c.left_of-left.ensures.begins h.front h.place h.back h.parts h.index_is in
    behind_answer g.P.Pages.tells c.args.shelf.now.series c.args.shelf.now.kind.now.columns c.args.stamp c.args.places.now c.args.index (g.P.Pages.contents c.args.pages.now) (g.P.Pages.contents c.merge_behind.new.pages) h c.requires.rising c.requires.places
    c.args.count c.args.page.now.bytes rest _ c.in_ok-one-2.one c.place_in-read.result.at _
    (subst (λ (q : ℕ). FitsFirst q c.args.count h.back) c.page_room-room.ensures.value (c.if-fits_behind.ensures.yes refl h.front h.place h.back h.parts h.index_is))
    c.requires.some (c.requires.few h) e.counted (e.page ∙ c.left_of-left.ensures.page ∙ c.place_in-read.ensures.number) e.free
    (subst (λ (z : ℤ). IsBeginning c.place_in-read.result.at z h.place h.back) (sym e.at) begins) e.few
    (read_first g.P.Pages.tells c.args.shelf.now.series c.args.shelf.now.kind.now.columns c.args.stamp h.place c.place_in-read.result _ c.args.count c.args.page.now.bytes (g.P.Pages.contents c.args.pages.now) rest c.place_in-read.ensures.listed)
    e.joined

pub returns-clause-ok : goal.returns-clause-ok
returns-clause-ok g c =
    let h = c.requires.holder in
    let rest = c.requires.rest h in
    put_answer g.P.Pages.tells c.args.shelf.now.series c.args.shelf.now.kind.now.columns c.args.stamp c.args.places.now c.args.index (g.P.Pages.contents c.args.pages.now) (g.P.Pages.contents c.put.new.self) h c.requires.rising c.requires.places
    c.args.count c.args.page.now.bytes rest _ c.left_of-left.result c.place_in-read.result.at c.requires.some c.requires.room (c.requires.few h) (c.left_of-left.ensures.page ∙ c.place_in-read.ensures.number) (c.left_of-left.ensures.count ∙ c.place_in-read.ensures.count)
    (c.left_of-left.ensures.begins h.front h.place h.back h.parts h.index_is)
    (read_first g.P.Pages.tells c.args.shelf.now.series c.args.shelf.now.kind.now.columns c.args.stamp h.place c.place_in-read.result _ c.args.count c.args.page.now.bytes (g.P.Pages.contents c.args.pages.now) rest c.place_in-read.ensures.listed)
    (λ fit. absurd (let no = c.if-fits_before.ensures.no h.front (h.place ∷ h.back) h.parts h.index_is (subst (λ (q : ℕ). FitsLast q c.args.count h.front) (sym c.page_room-room.ensures.value) fit) in cc))
    (λ fit. absurd (let no = c.if-fits_behind.ensures.no h.front h.place h.back h.parts h.index_is (subst (λ (q : ℕ). FitsFirst q c.args.count h.back) (sym c.page_room-room.ensures.value) fit) in cc))
    c.in_ok-put.ensures.put.free c.in_ok-put.ensures.put.put
