use Rattle.std.proofs.Common.{◌≡◌, ℕ, ◌+◌, ◌≤◌, ℤ, pos, negsuc, ◌≤ℤ◌, w64, unsigned_abs, List, length, Option, Some, Result, Ok, Err, refl, ap, sym, ◌∙◌, subst, arith}
use Rattle.std.proofs.lemmas.Bool.{lt-ltb, le-ltb}
use Rattle.std.proofs.lemmas.Int.{ints, to_z-of_z}
use Rattle.ts_base.specs.declared.refusal.Refusal.TheVariants as refusals
use Rattle.ts_base.specs.declared.fault.Trouble.{Trouble}
use Rattle.ts_base.specs.declared.fault.Trouble.TheVariants.{Refused}
use Rattle.ts_command.specs.declared.command.Command.TheVariants.{TSContainerCreate}
use Rattle.ts_model.specs.Catalogue.{Container, quotas, with_named}
use Rattle.ts_model.specs.Definitions.{Definitions, ContainerDef}
use Rattle.ts_model.specs.declared.kind.Kind.TheVariants.{RowType, Container as Containers}
use Rattle.ts_model.specs.declared.def.Def.{Def}
use Rattle.ts_model.specs.declared.def.Def.TheVariants as defs
use Rattle.ts_layout.specs.Meaning.{Layout, catalogue_of, sum_of_quotas}
use Rattle.ts_layout.proofs.CallerLemmas.{quotas_same, container_named}
use Rattle.ts_answer.specs.Answer.{Answered, outcome, carried_out, create_container, within_pages}
use Rattle.ts_answer.specs.Decided.{DefinesAs}
use Rattle.ts_answer.specs.Reply.{ok_line}
use Rattle.ts_answer.specs.Tried.{IsTried}
use Rattle.ts_answer.specs.View.{IsDefinedBy}
use Rattle.ts_answer.proofs.CallerLemmas.{goes, stops, no_memory, passes, refuses, comes}
use Rattle.ts_define.proofs.DefinedLemmas.{defined, fits_free, named_there}
use Rattle.ts_define.proofs.containers.new_container.Goals as goal

-- a quota in range
quota_bounds : (quota : ℤ) → pos 1 ≤ℤ quota → quota ≤ℤ pos 65536 → (1 ≤ unsigned_abs quota) × (unsigned_abs quota ≤ 65536)
quota_bounds (pos n) low high = (grind (arith, ints), grind (arith, ints))
quota_bounds (negsuc n) low high = absurd (grind (arith, ints))

-- the sum of the quotas, with the new one
sum_is : (d : Definitions) (count : ℕ) (l : Layout) (by : IsDefinedBy d count l) (sum granted size quota : ℕ) → sum ≡ granted + size → granted ≡ sum_of_quotas d.containers → size ≡ quota → quotas (catalogue_of l) + quota ≡ sum
sum_is d count l by sum granted size quota is all new =
    let same = ap (λ (x : Definitions). sum_of_quotas x.containers) by.definitions ∙ quotas_same l by.rules in omega (arith, same, is, all, new)

abbrev Created : List ℕ → List ℕ → ℤ → Layout → Result (ℕ × Option Def) Trouble → Type 0
Created name row_type quota l decided =
    IsTried decided (outcome (Ok (TSContainerCreate name row_type quota)) (catalogue_of l)) (λ change answered. DefinesAs Containers change.0 change.1 l answered)

pub returns-in_err-target-clause-decision : goal.returns-in_err-target-clause-decision
unfolding outcome carried_out create_container
returns-in_err-target-clause-decision c count pages l by = stops _ c.in_err-target.field-0.0 c.from_residual.ensures.1 (c.in_err-target.ensures.tried count l by)

pub returns-in_err-slot-clause-decision : goal.returns-in_err-slot-clause-decision
unfolding outcome carried_out create_container
returns-in_err-slot-clause-decision c count pages l by =
    goes _ c.in_ok-target.target (c.in_ok-target.ensures.tried count l by) (λ heading there. stops _ c.in_err-slot.field-0.0 c.from_residual-in_err-slot.ensures.1 (c.in_err-slot.ensures.tried count l by))

pub returns-then-sum-pages-clause-decision : goal.returns-then-sum-pages-clause-decision
unfolding outcome carried_out create_container within_pages
returns-then-sum-pages-clause-decision c count pages l by =
    let name = c.args.name.now in
    let row_type = c.args.row_type.now in
    let quota = unsigned_abs c.args.quota in
    let size = c.unsigned_abs-size.ensures.value ∙ ap unsigned_abs (to_z-of_z w64 c.args.quota c.ranges.quota) in
    let sum = sum_is c.args.defs.now.definitions count l by (c.sum_of_quotas-granted.result + c.unsigned_abs-size.result) c.sum_of_quotas-granted.result c.unsigned_abs-size.result quota refl c.sum_of_quotas-granted.ensures size in
    let some : length l.element_pages ≡ c.args.pages = omega (arith, pages, by.size) in
    subst (λ (n : ℕ). Created name row_type c.args.quota l (Err (Refused (refusals.VolumeFull n c.args.pages)))) sum
    (subst (λ (n : ℕ). Created name row_type c.args.quota l (Err (Refused (refusals.VolumeFull (quotas (catalogue_of l) + quota) n)))) some
    (goes _ c.in_ok-target.target (c.in_ok-target.ensures.tried count l by) (λ heading there. goes _ c.in_ok-slot.slot (c.in_ok-slot.ensures.tried count l by) (λ new free.
    refuses _ _ (lt-ltb _ _ (omega (arith, c.if-sum-pages.true, sum, some)))))))

pub returns-in_err-copied-clause-decision : goal.returns-in_err-copied-clause-decision
returns-in_err-copied-clause-decision c count pages l by = no_memory c.in_err-copied.field-0.0 c.from_residual-in_err-copied.ensures.1

pub returns-clause-decision : goal.returns-clause-decision
unfolding outcome carried_out create_container within_pages
returns-clause-decision c count pages l by =
    let quota = unsigned_abs c.args.quota in
    let size = c.unsigned_abs-size.ensures.value ∙ ap unsigned_abs (to_z-of_z w64 c.args.quota c.ranges.quota) in
    let sum = sum_is c.args.defs.now.definitions count l by (c.sum_of_quotas-granted.result + c.unsigned_abs-size.result) c.sum_of_quotas-granted.result c.unsigned_abs-size.result quota refl c.sum_of_quotas-granted.ensures size in
    let all = ap (λ (x : Definitions). sum_of_quotas x.containers) by.definitions in
    let target = c.in_ok-target.target in
    goes _ target (c.in_ok-target.ensures.tried count l by) (λ heading there. goes _ c.in_ok-slot.slot (c.in_ok-slot.ensures.tried count l by) (λ new free.
    passes _ _ (le-ltb _ _ (omega (arith, c.if-sum-pages.false, sum, pages, by.size)))
    (let name = c.args.name.now in
    let form = c.requires.form in
    let bounds = quota_bounds c.args.quota form.2 form.3 in
    let holder = c.args.row_type.now in
    let made : ContainerDef = record { name = name; row_type = target; quota = quota } in
    let value : Container = record { row_type = holder; quota = quota } in
    comes _ _ (subst (λ (x : Def). let a : Answered = (ok_line, with_named Containers name value (catalogue_of l)) in DefinesAs Containers c.in_ok-slot.slot (Some x) l a)
    (λ i. defs.Container (sym c.in_ok-copied.ensures i) target (sym size i))
    (defined l by.rules by.filled (defs.Container name target quota) c.in_ok-slot.slot made value refl free (record { name = form.0; row_type = there.at.within; some = bounds.0; most = bounds.1 })
    (named_there RowType l holder target by.rules there.at.is, tt) tt tt (omega (arith, c.if-sum-pages.false, sum, pages, by.size, all, c.sum_of_quotas-granted.ensures, size)) (container_named l made holder there.at.is))))))

pub returns-clause-fits : goal.returns-clause-fits
returns-clause-fits c = fits_free _ c.in_ok-slot.slot _ c.args.defs.now.definitions c.in_ok-copied.ensures c.in_ok-slot.ensures.free

-- the quota is in range
pub overflow_add-sum : goal.overflow_add-sum
overflow_add-sum c =
    let bounds = quota_bounds c.args.quota c.requires.form.2 c.requires.form.3 in
    let size = c.unsigned_abs-size.ensures.value ∙ ap unsigned_abs (to_z-of_z w64 c.args.quota c.ranges.quota) in
    omega (arith, bounds.1, size, c.sum_of_quotas-granted.ensures, c.requires.granted)

pub overflow_cast-result-2 : goal.overflow_cast-result-2
overflow_cast-result-2 c =
    let bounds = quota_bounds c.args.quota c.requires.form.2 c.requires.form.3 in
    let size = c.unsigned_abs-size.ensures.value ∙ ap unsigned_abs (to_z-of_z w64 c.args.quota c.ranges.quota) in
    omega (arith, bounds.1, size)
