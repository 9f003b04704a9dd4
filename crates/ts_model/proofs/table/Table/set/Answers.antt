use Rattle.std.proofs.Common.{◌≡◌, List, Option, Some, None, set, ap, sym, subst, ◌∙◌, set-set}
use Rattle.std.specs.Option.{IfSome}
use Rattle.ts_model.specs.Definitions.{slot_of, name_of, IsNewName}
use Rattle.ts_model.specs.Table.{Slots}
use Rattle.ts_model.specs.declared.def.Def.{Def}
use Rattle.ts_model.proofs.TableLemmas.{new-name}
use Rattle.ts_model.proofs.table.Table.set.Goals as goal

pub fill-requires-clause-name : goal.fill-requires-clause-name
fill-requires-clause-name c =
    let new = subst (λ (o : Option Def). IfSome o (λ d. IsNewName (name_of d) c.args.slot c.args.self.now.slots)) c.in-Some.is c.requires.name in
    ap (λ (t : Slots). slot_of (name_of c.in-Some.def) t.slots) c.clear.ensures.slot
    ∙ new-name c.args.self.now.slots c.args.slot (name_of c.in-Some.def) c.clear.ensures.apart new

pub returns-in-Some : goal.returns-in-Some
returns-in-Some c =
    let whole : set (set c.args.self.now.slots c.args.slot None) c.args.slot (Some c.in-Some.def) ≡ set c.args.self.now.slots c.args.slot c.args.def = set-set c.args.self.now.slots c.args.slot None (Some c.in-Some.def) ∙ ap (set c.args.self.now.slots c.args.slot) (sym c.in-Some.is) in
    c.fill.ensures ∙ ap (λ (t : Slots). record { count = t.count; slots = set t.slots c.args.slot (Some c.in-Some.def); room = t.room }) c.clear.ensures.slot
    ∙ ap (λ (l : List (Option Def)). record { count = c.args.self.now.count; slots = l; room = c.args.self.now.room }) whole
