use Rattle.std.proofs.Common.{◌≡◌, map, take}
use Rattle.ts_container.specs.Spans.{place_in}
use Rattle.ts_container.proofs.directory.places_of.Given as goal

abbrev pub invariant-loop-span : goal.invariant-loop-span
invariant-loop-span l = l.places.items ≡ map place_in (take l.span-index l.own)
