use Rattle.std.proofs.Common.{◌≢◌, ℕ, ◌<◌, ◌≤◌, List, [], ◌∷◌, cond, ltb, eqb, inr, sym, subst, arith}
use Rattle.std.proofs.lemmas.Bool.{cond_both}
use Rattle.ts_journal.specs.declared.batch.Change.{Change}
use Rattle.ts_journal.specs.declared.batch.Change.TheVariants.{Image, Free}
use Rattle.ts_journal.specs.Journal.{Entry, IsAllowed, AreAllowed, put}
use Rattle.ts_recover.proofs.CallerLemmas.{put_allowed}
use Rattle.ts_journal_vectors.proofs.long_record.many.Goals as goal

an_element : (count number : ℕ) (change : Change) → 930 ≤ number → number < count → IsAllowed count (number, change)
an_element count number (Image page) element below = record { below = below; outside = inr (omega arith); freeable = tt }
an_element count number Free element below = record { below = below; outside = inr (omega arith); freeable = element }

not_none : (e : Entry) (es : List Entry) → e ∷ es ≢ []
not_none e es none = cc

put_some : (number : ℕ) (change : Change) (es : List Entry) → put number change es ≢ []
put_some number change [] = not_none (number, change) []
put_some number change (e ∷ es) =
    cond_both (ltb number e.0) ((number, change) ∷ e ∷ es) (cond (eqb number e.0) ((number, change) ∷ es) (e ∷ put number change es)) (λ (l : List Entry). l ≢ [])
    (λ lower. not_none (number, change) (e ∷ es))
    (λ high.
    cond_both (eqb number e.0) ((number, change) ∷ es) (e ∷ put number change es) (λ (l : List Entry). l ≢ []) (λ same. not_none (number, change) es) (λ other. not_none e (put number change es)))

pub loop-no-preserved : goal.loop-no-preserved
loop-no-preserved c =
    record {
      allowed = subst (AreAllowed c.args.end) (sym c.in_ok-set.ensures.ok) (put_allowed c.args.end c.loop-no.batch.entries c.loop-no.no _ c.loop-no.invariant.allowed (an_element c.args.end c.loop-no.no _ (omega arith) (omega arith)));
      some = λ behind. subst (λ (l : List Entry). l ≢ []) (sym c.in_ok-set.ensures.ok) (put_some c.loop-no.no _ c.loop-no.batch.entries);
    }
