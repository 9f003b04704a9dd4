use Rattle.std.proofs.Common.{◌≡◌, inr, ℕ, Ok, List, ap, sym, subst, ◌∙◌, arith}
use Rattle.ts_journal.specs.Journal.{pages}
use Rattle.ts_row.specs.declared.kind.Column.{Column}
use Rattle.ts_dump.specs.declared.ended.Fault.TheVariants.{Output, Volume, Memory}
use Rattle.ts_dump.specs.Elements.{texts_of_elements}
use Rattle.ts_dump.proofs.SayingLemmas.{page_unsaid, said_page, texts_cut, texts_said}
use Rattle.ts_dump.proofs.PartLemmas.{page_key, page_texts}
use Rattle.ts_dump.proofs.series.say_page.Goals as goal

pub returns-in_err-committed-clause-said : goal.returns-in_err-committed-clause-said
returns-in_err-committed-clause-said g c = λ told es have.
    let v = g.S.Volume.device c.args.site.now in
    let w = g.S.Volume.device c.committed.new.vol in
    let columns : List Column = c.args.shelf.now.kind.now.columns in
    let before = c.args.texts.now in
    let key : List ℕ = before.key.now in
    page_unsaid before.grouping before.grouping (texts_of_elements key columns es) c.from_residual.result Volume v w c.from_residual.ensures.1 (key ≡ key) c.in_err-committed.ensures.others.keeps.said

pub returns-in_err-rows_of_pages-clause-said : goal.returns-in_err-rows_of_pages-clause-said
returns-in_err-rows_of_pages-clause-said g c = λ told es have.
    let v = g.S.Volume.device c.args.site.now in
    let w = g.S.Volume.device c.committed.new.vol in
    let columns : List Column = c.args.shelf.now.kind.now.columns in
    let before = c.args.texts.now in
    let taken = c.rows_of_pages.new.visitor in
    let key : List ℕ = before.key.now in
    page_unsaid before.grouping taken.grouping (texts_of_elements key columns es) c.from_residual-in_err-rows_of_pages.result Memory v w c.from_residual-in_err-rows_of_pages.ensures.1 (taken.key.now ≡ key)
    c.in_ok-committed.ensures.others.keeps.said

pub returns-in_err-say-clause-said : goal.returns-in_err-say-clause-said
returns-in_err-say-clause-said g c = λ told es have.
    let tells = g.S.Volume.tells in
    let v = g.S.Volume.device c.args.site.now in
    let x = g.S.Volume.device c.committed.new.vol in
    let w = g.S.Volume.device c.say.new.self in
    let place = c.args.place.now in
    let page = c.committed.new.into in
    let columns : List Column = c.args.shelf.now.kind.now.columns in
    let before = c.args.texts.now in
    let key : List ℕ = before.key.now in
    let texts = c.clear.new.self in
    let taken = c.rows_of_pages.new.visitor in
    let read : page.bytes ≡ pages v.held place.page =
    c.in_ok-committed.ensures.read told (inr (omega (arith, c.requires.element))) ∙ ap (λ (f : ℕ → List ℕ). f place.page) (c.requires.store.reads told) in
    let put = page_texts c.args.shape.now c.requires.laid c.args.shelf.now.series columns key (pages v.held) place page read
    c.from_ref-2.result.now c.from_ref-2.ensures.value c.from_ref.result.now c.from_ref.ensures.value before.grouping texts.key.now texts.text texts.grouping
    taken.key.now taken.grouping taken.text c.as_slice.result.now c.least.result c.greatest.result
    c.clear.ensures.none c.clear.ensures.key c.clear.ensures.grouping c.least.ensures c.greatest.ensures
    c.as_slice.ensures (λ fs are on. c.in_ok-rows_of_pages.ensures.took c.requires.laid (pages v.held) fs are on) es have in
    said_page before.grouping taken.grouping (texts_of_elements key columns es) c.from_residual-in_err-say.result Output v w c.from_residual-in_err-say.ensures.1 (taken.key.now ≡ key)
    (texts_cut tells before.grouping taken.grouping taken.grouping (texts_of_elements key columns es) c.as_slice.result.now c.in_err-say.field-0.0 v x w put
    c.in_ok-committed.ensures.others.keeps.said c.in_err-say.ensures)

pub returns-clause-said : goal.returns-clause-said
returns-clause-said g c = λ told es have.
    let tells = g.S.Volume.tells in
    let v = g.S.Volume.device c.args.site.now in
    let x = g.S.Volume.device c.committed.new.vol in
    let w = g.S.Volume.device c.say.new.self in
    let place = c.args.place.now in
    let page = c.committed.new.into in
    let columns : List Column = c.args.shelf.now.kind.now.columns in
    let before = c.args.texts.now in
    let key : List ℕ = before.key.now in
    let texts = c.clear.new.self in
    let taken = c.rows_of_pages.new.visitor in
    let read : page.bytes ≡ pages v.held place.page =
    c.in_ok-committed.ensures.read told (inr (omega (arith, c.requires.element))) ∙ ap (λ (f : ℕ → List ℕ). f place.page) (c.requires.store.reads told) in
    let put = page_texts c.args.shape.now c.requires.laid c.args.shelf.now.series columns key (pages v.held) place page read
    c.from_ref-2.result.now c.from_ref-2.ensures.value c.from_ref.result.now c.from_ref.ensures.value before.grouping texts.key.now texts.text texts.grouping
    taken.key.now taken.grouping taken.text c.as_slice.result.now c.least.result c.greatest.result
    c.clear.ensures.none c.clear.ensures.key c.clear.ensures.grouping c.least.ensures c.greatest.ensures
    c.as_slice.ensures (λ fs are on. c.in_ok-rows_of_pages.ensures.took c.requires.laid (pages v.held) fs are on) es have in
    let same = page_key c.args.shape.now c.requires.laid c.args.shelf.now.series columns key (pages v.held) place page read
    c.from_ref-2.result.now c.from_ref-2.ensures.value c.from_ref.result.now c.from_ref.ensures.value before.grouping texts.key.now texts.text texts.grouping
    taken.key.now taken.grouping taken.text c.as_slice.result.now c.least.result c.greatest.result
    c.clear.ensures.none c.clear.ensures.key c.clear.ensures.grouping c.least.ensures c.greatest.ensures
    c.as_slice.ensures (λ fs are on. c.in_ok-rows_of_pages.ensures.took c.requires.laid (pages v.held) fs are on) es have in
    (texts_said tells told before.grouping taken.grouping (texts_of_elements key columns es) c.as_slice.result.now v x w put c.in_ok-committed.ensures.others.keeps.said c.in_ok-say.ensures, same)
