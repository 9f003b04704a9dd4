use Rattle.std.proofs.Common.{ℕ, ◌≡◌, ◌<◌, Some, subst, arith, inl, inr}
use Rattle.std.proofs.lemmas.Bool.{cases_lt}
use Rattle.ts_model.specs.Definitions.{def_at, limit, Refers}
use Rattle.ts_define.proofs.drops.has_user_in.Goals as goal

pub returns-then-is_user-clause-some : goal.returns-then-is_user-clause-some
returns-then-is_user-clause-some c is =
    let user = c.is_user.ensures.some c.if-is_user.true in
    let low : c.loop-user.user < limit c.args.users = omega (arith, c.loop-user-test.true, c.limit-user-end.ensures) in
    (c.loop-user.user, user.0, low, user.1, user.2)

pub loop-user-preserved : goal.loop-user-preserved
loop-user-preserved c i def below is =
    elim (cases_lt i c.loop-user.user) [
      | inl before ↦ c.loop-user.invariant i def before is
      | inr past ↦
          let same : c.loop-user.user ≡ i = omega (arith, below, past) in
          subst (λ (n : ℕ). def_at c.args.users n c.args.defs.now.definitions ≡ Some def → Refers def c.args.kind c.args.slot → ⊥) same (c.is_user.ensures.none c.if-is_user.false def) is
    ]

pub returns-clause-none : goal.returns-clause-none
returns-clause-none c is (i, def, low, there, refers) = c.loop-user.invariant i def (omega (arith, low, c.loop-user-test.false, c.limit-user-end.ensures)) there refers
