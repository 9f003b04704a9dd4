-- What the views end as, where a `&mut` to one of them is returned.
use Rattle.std.specs.Prelude.{ℕ, List, slice_set, Option, Some}
use Rattle.std.specs.Borrow.{LendsIf, Fml, MutBor}
use Rattle.ts_views.specs.declared.view.View.{View}
use Rattle.ts_views.specs.contracts.view.View as view
use Rattle.ts_views.specs.contracts.views.Views.{the_row}

-- once the borrow r ends, the session has the last view written through r; at `None` all stays as it is
abbrev pub lends_view : MutBor (List (Option View)) → ℕ → Option (MutBor View) → Fml
lends_view s who r = LendsIf the_row view.the_row s r (λ w. slice_set s.now who (Some w)) s.now
