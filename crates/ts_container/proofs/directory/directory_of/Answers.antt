use Rattle.std.proofs.Common.{ℕ, ◌<◌, List, [], length, map, sym, ap, subst, ◌∙◌, arith, length-set}
use Rattle.std.specs.List.{AllWithin}
use Rattle.std.proofs.lemmas.List.{length-replicate}
use Rattle.ts_space.specs.declared.place.Place.{Place}
use Rattle.ts_space.specs.Place.{IsRising}
use Rattle.ts_space.specs.Directory.{places_of}
use Rattle.ts_container.specs.declared.span.Span.{Span}
use Rattle.ts_container.specs.Spans.{place_in}
use Rattle.ts_container.proofs.SpanLemmas.{rising_in}
use Rattle.ts_container.proofs.DirectoryLemmas.{starts_first, spans_between, places_more, none_listed, none_behind, all_listed}
use Rattle.ts_container.proofs.directory.directory_of.Goals as goal

pub loop-slot-init : goal.loop-slot-init
loop-slot-init c =
    let empty = c.in_ok-space.ensures.ok in
    let nothing : List Place = [] in
    record {
      within = omega arith;
      before = λ k d low high. absurd (omega (arith, high));
      behind = λ k d low high. omega arith;
      slots = ap (λ (l : List (List Place)). length l) empty ∙ length-replicate 4096 nothing;
      places = λ slot below. absurd (omega (arith, below));
      none = λ slot low. none_listed 4096 slot c.in_ok-space.space empty;
    }

pub returns-then-first-spans : goal.returns-then-first-spans
returns-then-first-spans c =
    let so = c.loop-slot.invariant in
    let all = subst (λ (n : ℕ). AllWithin (λ (a : Span). a.slot < c.loop-slot.slot) c.args.spans.now 0 n) c.if-first-spans.true so.before in
    record {
      slots = so.slots;
      places = λ slot below. all_listed c.loop-slot.slot c.args.spans.now c.loop-slot.space so.places so.none all slot;
    }

pub places_of-requires-clause-order : goal.places_of-requires-clause-order
places_of-requires-clause-order c =
    let so = c.loop-slot.invariant in
    starts_first c.loop-slot.slot c.loop-slot.first c.end_of-end.result c.args.spans.now so.within so.before c.end_of-end.ensures.behind

pub restore-requires-clause-rising : goal.restore-requires-clause-rising
restore-requires-clause-rising c =
    let so = c.loop-slot.invariant in
    let spans = c.args.spans.now in
    let after = starts_first c.loop-slot.slot c.loop-slot.first c.end_of-end.result spans so.within so.before c.end_of-end.ensures.behind in
    let own = spans_between c.loop-slot.slot c.loop-slot.first c.end_of-end.result spans after so.before so.behind c.end_of-end.ensures.before c.end_of-end.ensures.behind in
    subst IsRising (ap (map place_in) own ∙ sym c.in_ok-places_of.ensures) (rising_in c.loop-slot.slot spans c.requires.order c.requires.ends c.requires.apart)

pub loop-slot-preserved : goal.loop-slot-preserved
loop-slot-preserved c =
    let so = c.loop-slot.invariant in
    let spans = c.args.spans.now in
    let after = starts_first c.loop-slot.slot c.loop-slot.first c.end_of-end.result spans so.within so.before c.end_of-end.ensures.behind in
    let own = spans_between c.loop-slot.slot c.loop-slot.first c.end_of-end.result spans after so.before so.behind c.end_of-end.ensures.before c.end_of-end.ensures.behind in
    record {
      within = c.end_of-end.ensures.within;
      before = λ k d low high. let z = c.end_of-end.ensures.before k d low high in omega (arith, z);
      behind = λ k d low high. let z = c.end_of-end.ensures.behind k d low high in omega (arith, z);
      slots = ap (λ (l : List (List Place)). length l) c.restore.ensures.others.lists ∙ length-set c.loop-slot.space.lists c.loop-slot.slot (places_of c.loop-slot.slot c.restore.new.self) ∙ so.slots;
      places = places_more c.loop-slot.slot spans c.loop-slot.space c.restore.new.self so.places c.restore.ensures.others (c.restore.ensures.ok ∙ c.in_ok-places_of.ensures ∙ sym (ap (map place_in) own));
      none = none_behind c.loop-slot.slot c.loop-slot.space c.restore.new.self so.none c.restore.ensures.others;
    }
