use Rattle.std.proofs.Common.{◌≡◌, ℕ, Some, Option, refl, sym, ap, ◌∙◌, subst}
use Rattle.ts_model.specs.declared.kind.Kind.{Kind}
use Rattle.ts_model.specs.declared.kind.Kind.TheVariants as kinds
use Rattle.ts_model.specs.declared.def.Def.{Def}
use Rattle.ts_model.specs.Definitions.{Definitions, KindDef, kind_of, to_def, table_of, Refers, IsUsedBy}
use Rattle.ts_layout.proofs.CallerLemmas.{own}
use Rattle.ts_define.proofs.drops.has_user.Goals as goal

-- what stands in a slot of a kind is of that kind
its_kind : (kind : Kind) (a : KindDef kind) → kind_of (to_def kind a) ≡ kind
its_kind kinds.RowType a = refl
its_kind kinds.Pattern a = refl
its_kind kinds.Calendar a = refl
its_kind kinds.Container a = refl
its_kind kinds.Series a = refl

-- so where all that refer to a kind are of one kind of users, those that use it are
of_users : (users : Option Kind) (user kind : Kind) (slot : ℕ) (d : Definitions) → ((def : Def) (at : ℕ) → Refers def kind at → users ≡ Some (kind_of def)) → IsUsedBy user kind slot d → users ≡ Some user
of_users users user kind slot d refer (i, def, low, there, refers) =
    let its = own (to_def user) i (table_of user d) def there in
    refer def slot refers ∙ ap (λ (k : Kind). Some k) (ap kind_of (sym its.2) ∙ its_kind user its.0)

pub returns-in-Some-clause-none : goal.returns-in-Some-clause-none
returns-in-Some-clause-none c is (user, by) =
    let d = c.args.defs.now.definitions in
    let same : Some c.in-Some.users ≡ Some user = sym c.in-Some.is ∙ of_users c.user_kind.result user c.args.kind c.args.slot d c.user_kind.ensures by in
    let one : c.in-Some.users ≡ user = cc in
    c.has_user_in.ensures.none is (subst (λ (k : Kind). IsUsedBy k c.args.kind c.args.slot d) (sym one) by)

pub returns-in-None-clause-none : goal.returns-in-None-clause-none
returns-in-None-clause-none c is (user, by) =
    let none = sym c.in-None.is ∙ of_users c.user_kind.result user c.args.kind c.args.slot c.args.defs.now.definitions c.user_kind.ensures by in cc
