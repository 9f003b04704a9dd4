use Rattle.std.proofs.Common.{◌≡◌, None, replicate}
use Rattle.ts_views.proofs.views.Views.new.Given as goal

abbrev pub invariant-loop : goal.invariant-loop
invariant-loop l = l.views.items ≡ replicate l.counter None
