use Rattle.std.proofs.Common.{ℕ, ◌≡◌, ◌+◌, ◌-◌, List, length, take, drop, get_or, ap, ◌∙◌, arith}
use Rattle.std.proofs.lemmas.Result.{IfOk-weaker}
use Rattle.ts_layout.proofs.CallerLemmas.{name_text}
use Rattle.ts_slots.proofs.ParseLemmas.{name_is}
use Rattle.ts_slots.proofs.pad.read_name.Goals as goal

pub returns : goal.returns
returns c =
    IfOk-weaker c.read.result _ _
    (λ found is name form bytes.
    let count : get_or c.args.bytes.now 0 0 ≡ length name = ap (λ (l : List ℕ). get_or l 0 0) bytes in
    let size : 1 + get_or c.args.bytes.now 0 0 - 1 ≡ length name = omega (arith, count) in
    let text : take (1 + get_or c.args.bytes.now 0 0 - 1) (drop 1 c.args.bytes.now) ≡ name = (λ i. take (size i) (drop 1 (bytes i))) ∙ name_text name in
    is ∙ name_is _ name text form)
    c.read.ensures
