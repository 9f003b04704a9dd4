-- A script was said: its texts, and behind them the end of the last transaction.
use Rattle.std.proofs.Common.{◌≡◌, Bool, ℕ, Result, Ok, Err, List, ◌++◌, ap, sym, ◌∙◌, subst}
use Rattle.std.specs.Result.{IsErrAnd}
use Rattle.ts_disk.specs.Device.{Device}
use Rattle.ts_dump_texts.specs.Script.{script_of}
use Rattle.ts_dump.specs.declared.ended.Fault.{Fault}
use Rattle.ts_dump.specs.declared.grouping.Grouping.{Grouping}
use Rattle.ts_dump.specs.Grouping.{first_of, ending, behind}
use Rattle.ts_dump.specs.Saying.{SaysText}
use Rattle.ts_dump.specs.Placed.{lines_from, SaysTexts}
use Rattle.ts_dump.specs.Dumped.{grouped}
use Rattle.ts_dump.proofs.SayingLemmas.{text_failed, text_said, text_same, text_stop, text_then}
use Rattle.ts_dump.proofs.GroupingLemmas.{lines_all}

module _ (in_transactions : Bool) (texts : List (List ℕ)) where
  pub script_cut : (g h : Grouping) (r : Result Unit Fault) (e : Fault) (v w : Device) → g ≡ first_of in_transactions → IsErrAnd r (λ x. x ≡ e) → SaysTexts g texts h (Err e) v w
      → SaysText (script_of (grouped in_transactions texts)) r v w
  script_cut g h r e v w first is said =
      let g0 = first_of in_transactions in
      let cut : SaysTexts g0 texts h (Err e) v w = subst (λ (x : Grouping). SaysTexts x texts h (Err e) v w) first said in
      text_failed (script_of (grouped in_transactions texts)) r e v w is
      (text_same (lines_from g0 texts ++ script_of (ending (behind g0 texts))) (script_of (grouped in_transactions texts)) (Err e) v w (lines_all in_transactions texts)
      (text_stop (lines_from g0 texts) (script_of (ending (behind g0 texts))) e v w (record { whole = tt; part = cut.part })))

  pub script_said : (g h : Grouping) (r : Result Unit Fault) (v x w : Device) → g ≡ first_of in_transactions → SaysTexts g texts h (Ok tt) v x → SaysText (script_of (ending h)) r x w
      → SaysText (script_of (grouped in_transactions texts)) r v w
  script_said g h r v x w first said ends =
      let g0 = first_of in_transactions in
      let whole : SaysTexts g0 texts h (Ok tt) v x = subst (λ (y : Grouping). SaysTexts y texts h (Ok tt) v x) first said in
      let last : SaysText (script_of (ending (behind g0 texts))) r x w = subst (λ (y : Grouping). SaysText (script_of (ending y)) r x w) whole.whole.stands ends in
      text_same (lines_from g0 texts ++ script_of (ending (behind g0 texts))) (script_of (grouped in_transactions texts)) r v w (lines_all in_transactions texts)
      (text_then (lines_from g0 texts) (script_of (ending (behind g0 texts))) r v x w (text_said (lines_from g0 texts) v x whole.whole.text) last)
