use Rattle.std.proofs.Common.{◌≡◌, Bool, Ok, Err, refl, sym, subst}
use Rattle.ts_answer.specs.Elements.{with_window}
use Rattle.ts_rolling_edits.specs.Parts.{seen_on, IsPart}
use Rattle.ts_rolling_edits.proofs.PartLemmas.{part_done, came_as, came_copied}
use Rattle.ts_rolling_edits.proofs.RollingLemmas.{not_made}
use Rattle.ts_rolling_edits.proofs.parts.open_window.Goals as goal

-- it isn't to be made
pub returns-then-not-attach-clause-part : goal.returns-then-not-attach-clause-part
returns-then-not-attach-clause-part g c =
    let tells = g.P.Pages.tells in
    let key = c.args.key.now in
    let container = c.args.container.now in
    let attach = c.args.attach in
    let copies = c.args.copies.now in
    let v = g.P.Pages.contents c.args.pages.now in
    let x = seen_on copies v in
    part_done tells (λ cat after. with_window attach key container cat ≡ Ok after) (λ refusal cat. with_window attach key container cat ≡ Err refusal) copies.charges x x
    (came_as tells (λ cat after. after ≡ cat) (λ cat after. with_window attach key container cat ≡ Ok after) x x (λ told l shows after is. not_made key container attach _ after c.if-not-attach.true is)
    (came_copied tells copies.defs.definitions copies.defs.definitions copies.space copies.space v refl refl)) c.requires.charged

-- it is
pub returns-clause-part : goal.returns-clause-part
returns-clause-part g c =
    let key = c.args.key.now in
    let container = c.args.container.now in
    let x = seen_on c.args.copies.now (g.P.Pages.contents c.args.pages.now) in
    let y = seen_on c.make_window.new.copies (g.P.Pages.contents c.make_window.new.pages) in
    subst
    (λ (b : Bool).
    IsPart g.P.Pages.tells (λ cat after. with_window b key container cat ≡ Ok after) (λ refusal cat. with_window b key container cat ≡ Err refusal) c.make_window.result c.make_window.new.copies.charges x y)
    (sym c.if-not-attach.false) c.make_window.ensures.part
