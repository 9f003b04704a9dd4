use Rattle.std.proofs.Common.{◌≡◌, ℕ, Bool, Result, Ok, Err, sym, ◌∙◌, subst}
use Rattle.ts_base.specs.declared.fault.Trouble.{Trouble}
use Rattle.ts_base.specs.declared.refusal.Refusal.TheVariants.{OldFormat}
use Rattle.ts_answer.specs.Answer.{beyond_old_format}
use Rattle.ts_answer.specs.Tried.{IsTried}
use Rattle.ts_answer.proofs.CallerLemmas.{format-has, format-hasnt}
use Rattle.ts_define.specs.Format.{IsInFormat}
use Rattle.ts_define.proofs.format.in_format.Goals as goal
use Rattle.ts_define.proofs.format.in_format.Goals.{else-beyond-via-then-beyond+else-format-eq-OLD_FORMAT, else-beyond-via-else-beyond}

-- nothing goes beyond the format
within : (beyond : Bool) (format : ℕ) → IsInFormat beyond format → let result : Result Unit Trouble = Ok tt in IsTried result (beyond_old_format beyond format) (λ done has. IsInFormat beyond format)
within beyond format has = record { ok = (tt, format-has beyond format has, has); err = tt }

pub returns-then-format-eq-OLD_FORMAT : goal.returns-then-format-eq-OLD_FORMAT
returns-then-format-eq-OLD_FORMAT c =
    let format = c.args.defs.now.definitions.format in
    record {
      ok = tt;
      err = subst (λ (b : Bool). beyond_old_format b format ≡ Err OldFormat) (sym c.if-beyond.true) (format-hasnt format (sym c.format.ensures.value ∙ c.if-format-eq-OLD_FORMAT.true));
    }

pub returns : goal.returns
returns c = elim c.else-beyond.branch [
  | else-beyond-via-then-beyond+else-format-eq-OLD_FORMAT w ↦ within c.args.beyond c.args.defs.now.definitions.format (λ old. absurd (w.if-format-eq-OLD_FORMAT.false (w.format.ensures.value ∙ old)))
  | else-beyond-via-else-beyond w ↦ within c.args.beyond c.args.defs.now.definitions.format (λ old. w.if-beyond.false)
]
