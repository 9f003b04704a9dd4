-- The column at hand is the first that breaks a rule, or one more keeps the rules.
use Rattle.std.proofs.Common.{◌≡◌, true, false, length, sym, ◌∙◌, arith, below_more}
use Rattle.std.proofs.lemmas.Bool.Decides.{nat_tests}
use Rattle.ts_row.proofs.RowTypeLemmas.{keep_rules-more, width_of-more, bad_column-some, bad_column-none}
use Rattle.ts_row.proofs.rules.first_bad.Goals as goal

pub returns-then-not-may_follow : goal.returns-then-not-may_follow
returns-then-not-may_follow c =
    let broken : c.may_follow.result ≡ false = grind (arith, nat_tests) in
    sym (bad_column-some c.args.stamp.now c.args.columns.now c.loop-index.index (omega arith) c.loop-index.invariant.kept
    (keep_rules-more c.args.stamp.now c.args.columns.now c.loop-index.index c.index-columns-index.result _ (omega arith) c.index-columns-index.is
    (c.loop-index.invariant.kept c.loop-index.index (omega arith)) c.may_follow.ensures ∙ broken))

pub loop-index-preserved : goal.loop-index-preserved
loop-index-preserved c =
    let follows : c.may_follow.result ≡ true = grind (arith, nat_tests) in
    record {
      kept = below_more _ _ c.loop-index.invariant.kept
          (keep_rules-more c.args.stamp.now c.args.columns.now c.loop-index.index c.index-columns-index.result _ (omega arith) c.index-columns-index.is
          (c.loop-index.invariant.kept c.loop-index.index (omega arith)) c.may_follow.ensures ∙ follows);
      width = omega (arith, width_of-more c.args.columns.now c.loop-index.index c.index-columns-index.result (omega arith) c.index-columns-index.is, c.loop-index.invariant.width);
    }

pub returns : goal.returns
returns c =
    let all : c.loop-index.index ≡ length c.args.columns.now = omega arith in
    sym (bad_column-none c.args.stamp.now c.args.columns.now (grind (arith, nat_tests)) (λ k below. c.loop-index.invariant.kept k (omega arith)))
