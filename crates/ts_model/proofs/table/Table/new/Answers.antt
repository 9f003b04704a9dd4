use Rattle.std.proofs.Common.{ℕ, List, [], Option, Some, false, sym, subst}
use Rattle.std.specs.Vec.{vec_capacity}
use Rattle.ts_model.specs.Table.{IsIndexed}
use Rattle.ts_model.specs.declared.def.Def.{Def}
use Rattle.ts_model.proofs.TableLemmas.{kept-new, no-memory}
use Rattle.ts_model.proofs.table.Table.new.Goals as goal

pub invariant_of-result : goal.invariant_of-result
invariant_of-result c =
    record {
      kept =
          subst (λ (items : List (Option Def)). IsIndexed c.args.count items c.new-2.result.items (Some 0) false) (sym c.new.ensures.items)
          (subst (λ (order : List ℕ). IsIndexed c.args.count [] order (Some 0) false) (sym c.new-2.ensures.items) (kept-new c.args.count c.requires.some c.requires.most));
      memory = no-memory c.args.count (vec_capacity c.new.result) (vec_capacity c.new-2.result);
    }
