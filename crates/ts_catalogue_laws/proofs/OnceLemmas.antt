-- Names and stamps rise, so none stands twice.
use Rattle.std.specs.Prelude.{AllPairs}
use Rattle.std.proofs.Common.{◌≡◌, ℤ, ◌<ℤ◌, subst, get_or}
use Rattle.std.specs.Ordering.{MatchOrdering, int_cmp}
use Rattle.std.specs.Cmp.{int_cmp_total, int_ranks}
use Rattle.std.specs.declared.cmp.Ordering.{Ordering}
use Rattle.std.specs.declared.cmp.Ordering.TheVariants.{Less}
use Rattle.std.specs.FinMap.{entries, int_cmp-IsAntisymmetric}
use Rattle.ts_model.specs.Catalogue.{Elements, Catalogue, named}
use Rattle.ts_model.specs.declared.kind.Kind.{Kind}
use Rattle.ts_model.proofs.OrderLemmas.{total, same_name}
use Rattle.ts_catalogue_laws.specs.Catalogue.{AreOnce}
use Rattle.ts_catalogue_laws.proofs.MapLemmas.{keys_once}

pub once : (cat : Catalogue) (kind : Kind) → AreOnce (named kind cat)
once cat kind = keys_once total same_name (named kind cat)

below : (a b : ℤ) → int_cmp a b ≡ Less → a <ℤ b
below a b less = subst (λ (r : Ordering). MatchOrdering r (a <ℤ b) (a ≡ b) (b <ℤ a)) less (int_ranks a b)

pub rising : (m : Elements) → AllPairs (λ a b. a.0 <ℤ b.0) (entries m)
rising m = λ i j d low within. below (get_or (entries m) i d).0 (get_or (entries m) j d).0 (keys_once int_cmp_total int_cmp-IsAntisymmetric m i j d low within)
