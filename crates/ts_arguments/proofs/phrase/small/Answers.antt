use Rattle.std.proofs.Common.{arith}
use Rattle.ts_text.proofs.CallerLemmas.{few_room}
use Rattle.ts_arguments.proofs.phrase.small.Goals as goal

pub overflow_cast-result : goal.overflow_cast-result
overflow_cast-result c = omega (arith, few_room c.magnitude.result c.args.token.now c.magnitude.ensures.bound c.if-token-le3.true)
