-- The best so far and those that are left have the same best as all.
use Rattle.std.proofs.Common.{◌≡◌, fold, map}
use Rattle.ts_row.specs.declared.value.Value.TheVariants.{Text}
use Rattle.ts_aggregate.specs.Column.{AreWhole, read_texts, better, text_if_any}
use Rattle.ts_aggregate.proofs.texts.best_text.Given as goal

abbrev pub invariant-loop-bytes : goal.invariant-loop-bytes
invariant-loop-bytes l = record {
  whole : AreWhole l.rest;
  best : fold (better l.most) (text_if_any l.best) (map (λ t. Text t) (read_texts l.rest))
      ≡ fold (better l.most) (text_if_any l.fn.start) (map (λ t. Text t) (read_texts l.cells));
}

abbrev pub decreases-loop-bytes : goal.decreases-loop-bytes
decreases-loop-bytes l = l.rest.left
