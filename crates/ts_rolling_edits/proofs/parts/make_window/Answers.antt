use Rattle.std.proofs.Common.{◌≡◌, ℕ, ◌<◌, true, Option, Ok, Err, Result, IfOk, IfSome, refl, arith}
use Rattle.ts_base.specs.declared.fault.Trouble.{Trouble}
use Rattle.ts_command.specs.declared.command.Command.TheVariants.{TSCreateIrr}
use Rattle.ts_model.specs.declared.kind.Kind.TheVariants as kinds
use Rattle.ts_model.specs.declared.def.Def.{Def}
use Rattle.ts_model.specs.Definitions.{Definitions, limit, kind_of}
use Rattle.ts_answer.specs.Decided.{FitsSlot}
use Rattle.ts_answer.specs.Elements.{with_window}
use Rattle.ts_rolling_edits.specs.Parts.{seen_on}
use Rattle.ts_rolling_edits.proofs.PartLemmas.{part_by, part_not, part_unkept, can_charge}
use Rattle.ts_rolling_edits.proofs.RollingLemmas.{made_came, made_refused}
use Rattle.ts_rolling_edits.proofs.parts.make_window.Goals as goal

-- what fits a slot is below its limit, and of its kind
slot_below : (d : Definitions) (r : Result (ℕ × Option Def) Trouble) → IfOk r (λ change. FitsSlot kinds.Series change.0 change.1 d) → IfOk r (λ change. change.0 < limit kinds.Series)
slot_below d (Ok change) fits = fits.within
slot_below d (Err trouble) fits = tt

of_kind : (d : Definitions) (r : Result (ℕ × Option Def) Trouble) → IfOk r (λ change. FitsSlot kinds.Series change.0 change.1 d) → IfOk r (λ change. IfSome change.1 (λ def. kind_of def ≡ kinds.Series))
of_kind d (Ok change) fits = fits.fits
of_kind d (Err trouble) fits = tt

pub redefine-requires-clause-within : goal.redefine-requires-clause-within
redefine-requires-clause-within g c = let some = c.requires.seen.kept.some in omega (arith, some)

pub redefine-requires-clause-slot : goal.redefine-requires-clause-slot
redefine-requires-clause-slot g c = slot_below c.args.copies.now.defs.definitions c.new_irregular-decided.result c.new_irregular-decided.ensures.fits

pub redefine-requires-clause-kind : goal.redefine-requires-clause-kind
redefine-requires-clause-kind g c = of_kind c.args.copies.now.defs.definitions c.new_irregular-decided.result c.new_irregular-decided.ensures.fits

pub take-requires-clause-can : goal.take-requires-clause-can
take-requires-clause-can g c =
    let copies = c.args.copies.now in
    let v = g.P.Pages.contents c.args.pages.now in
    let decided = c.new_irregular-decided.ensures in
    (c.in_ok-effect.ensures.carried (TSCreateIrr c.args.key.now c.args.container.now) copies.defs.definitions copies.space (decided.decision v.count) decided.fits refl).applies

pub take-requires-clause-charge : goal.take-requires-clause-charge
take-requires-clause-charge g c =
    let copies = c.args.copies.now in
    let v = g.P.Pages.contents c.args.pages.now in
    let command = TSCreateIrr c.args.key.now c.args.container.now in
    let decided = c.new_irregular-decided.ensures in
    can_charge g.P.Pages.tells command (seen_on copies v) copies.charges c.requires.seen.kept c.requires.charged c.in_ok-effect.effect c.redefine.new.out (g.P.Pages.contents c.redefine.new.pages)
    (c.in_ok-effect.ensures.carried command copies.defs.definitions copies.space (decided.decision v.count) decided.fits refl)

-- it is stopped
pub returns-in_err-effect-clause-part : goal.returns-in_err-effect-clause-part
returns-in_err-effect-clause-part g c =
    let key = c.args.key.now in
    let container = c.args.container.now in
    let copies = c.args.copies.now in
    let v = g.P.Pages.contents c.args.pages.now in
    let y = seen_on copies (g.P.Pages.contents c.redefine.new.pages) in
    let command = TSCreateIrr key container in
    let decided = c.new_irregular-decided.ensures in
    part_not g.P.Pages.tells (λ cat after. with_window true key container cat ≡ Ok after) (λ refusal cat. with_window true key container cat ≡ Err refusal) command c.redefine.new.out (seen_on copies v) copies.charges y
    c.from_residual.result _ c.from_residual.ensures.1 (c.in_err-effect.ensures.carried command copies.defs.definitions copies.space (decided.decision v.count) decided.fits refl) (λ refusal a no. made_refused key a container refusal no)

-- its effect finds no memory
pub returns-in_err-take-clause-part : goal.returns-in_err-take-clause-part
returns-in_err-take-clause-part g c =
    let key = c.args.key.now in
    let container = c.args.container.now in
    let copies = c.args.copies.now in
    let v = g.P.Pages.contents c.args.pages.now in
    let y = seen_on c.take.new.self (g.P.Pages.contents c.redefine.new.pages) in
    let command = TSCreateIrr key container in
    let decided = c.new_irregular-decided.ensures in
    part_unkept g.P.Pages.tells (λ cat after. with_window true key container cat ≡ Ok after) (λ refusal cat. with_window true key container cat ≡ Err refusal) command c.redefine.new.out (seen_on copies v) c.take.new.self.charges y
    c.in_ok-effect.effect c.from_residual-in_err-take.result _ c.from_residual-in_err-take.ensures.1 (c.in_ok-effect.ensures.carried command copies.defs.definitions copies.space (decided.decision v.count) decided.fits refl)

-- it is made
pub returns-clause-part : goal.returns-clause-part
returns-clause-part g c =
    let key = c.args.key.now in
    let container = c.args.container.now in
    let copies = c.args.copies.now in
    let v = g.P.Pages.contents c.args.pages.now in
    let w = g.P.Pages.contents c.redefine.new.pages in
    let took = c.in_ok-take.ensures in
    let now = c.take.new.self in
    let command = TSCreateIrr key container in
    let decided = c.new_irregular-decided.ensures in
    part_by g.P.Pages.tells (λ cat after. with_window true key container cat ≡ Ok after) (λ refusal cat. with_window true key container cat ≡ Err refusal) command c.redefine.new.out (seen_on copies v) c.in_ok-effect.effect w
    now.defs.definitions now.space now.charges (c.in_ok-effect.ensures.carried command copies.defs.definitions copies.space (decided.decision v.count) decided.fits refl) took.definitions took.lists took.charges
    (λ a b is. made_came key a container c.redefine.new.out b is)

pub returns-clause-grows : goal.returns-clause-grows
returns-clause-grows g c =
    let copies = c.args.copies.now in
    let v = g.P.Pages.contents c.args.pages.now in
    let decided = c.new_irregular-decided.ensures in
    (c.in_ok-effect.ensures.carried (TSCreateIrr c.args.key.now c.args.container.now) copies.defs.definitions copies.space (decided.decision v.count) decided.fits refl).grows
