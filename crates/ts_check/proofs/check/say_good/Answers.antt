use Rattle.std.proofs.Common.{◌≡◌, ◌+◌, ℕ, length, ap, arith}
use Rattle.std.proofs.lemmas.Result.{on_ok_weaker}
use Rattle.ts_layout.proofs.CallerLemmas.{quotas_countable}
use Rattle.ts_check.proofs.GoodLemmas.{report_said}
use Rattle.ts_check.proofs.check.say_good.Goals as goal

pub count-requires-clause-countable : goal.count-requires-clause-countable
count-requires-clause-countable c =
    let found = c.args.found.now in
    quotas_countable found.defs.definitions found.space found.free.items c.requires.kept.0 c.requires.kept.1

pub returns : goal.returns
returns c =
    let found = c.args.found.now in
    let known = found.free.ok.0 in
    let free : c.len.result ≡ length found.free.items = omega (arith, c.len.ensures, known) in
    on_ok_weaker c.say_pages.result
    (λ said. report_said found.defs.definitions found.space found.free.items c.count.new.self c.args.out.now c.say_containers.new.out c.say_pages.new.out c.used-used.result (c.used-used.result + c.len.result)
    c.requires.kept c.count.ensures c.requires.empty c.in_ok-say_containers.ensures c.used-used.ensures (ap (λ (n : ℕ). c.used-used.result + n) free) said)
    c.say_pages.ensures
