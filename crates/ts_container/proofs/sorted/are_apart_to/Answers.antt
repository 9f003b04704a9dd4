use Rattle.std.proofs.Common.{◌≡◌, ◌<◌, ◌≤◌, ◌+◌, ℕ, get_or, length, sym, subst, arith}
use Rattle.ts_slots.proofs.ParseLemmas.{both_ways}
use Rattle.ts_container.specs.declared.span.Span.{Span}
use Rattle.ts_container.specs.Spans.{IsApart}
use Rattle.ts_container.proofs.ClashLemmas.{PassedTo, get_any, apart_any, clash_at, clash_places, passed_over, passed_more}
use Rattle.ts_container.proofs.sorted.are_apart_to.Goals.{then-spans-i+in-Some+else-not-are_apart, then-spans-i+in_default, else-spans-i}
use Rattle.ts_container.proofs.sorted.are_apart_to.Goals as goal

pub returns-then-not-are_apart : goal.returns-then-not-are_apart
returns-then-not-are_apart c =
    let there = c.loop-i.invariant.there c.in-Some.k c.in-Some.is in
    clash_at c.args.spans.now c.args.limit c.in-Some.k c.loop-i.i _ c.requires.order c.requires.ends c.requires.pages there.0 c.loop-i-test.true (there.1 _) c.if-spans-i.true
    (λ apart. both_ways (c.are_apart.ensures.1 apart) c.if-not-are_apart.true)

pub loop-i-preserved : goal.loop-i-preserved
loop-i-preserved c =
    let spans = c.args.spans.now in
    let i = c.loop-i.i in
    let inside : i < length spans = c.loop-i-test.true in
    elim c.if-spans-i.branch [
      | then-spans-i+in-Some+else-not-are_apart w ↦ subst (PassedTo c.args.limit (i + 1) spans) (sym w.before-is)
          (passed_more c.args.limit i spans c.loop-i.before c.requires.order c.requires.ends inside (λ d. subst (λ (s : Span). s.page ≤ c.args.limit) (get_any spans i _ d inside) w.if-spans-i.true)
          (λ m is d.
          let same : w.in-Some.k ≡ m = (let first = w.in-Some.is in cc) in
          let low = (c.loop-i.invariant.there m is).0 in
          subst (λ (n : ℕ). IsApart (get_or spans n d) (get_or spans i d)) same
          (apart_any spans w.in-Some.k i _ d (omega (arith, low, inside, same)) inside (w.are_apart.ensures.0 w.if-not-are_apart.false))) c.loop-i.invariant)
      | then-spans-i+in_default w ↦ subst (PassedTo c.args.limit (i + 1) spans) (sym w.before-is)
          (passed_more c.args.limit i spans c.loop-i.before c.requires.order c.requires.ends inside (λ d. subst (λ (s : Span). s.page ≤ c.args.limit) (get_any spans i _ d inside) w.if-spans-i.true)
          (λ m is d. absurd (let none = w.in_default.is in cc)) c.loop-i.invariant)
      | else-spans-i w ↦ subst (PassedTo c.args.limit (i + 1) spans) (sym w.before-is)
          (passed_over c.args.limit i spans c.loop-i.before (λ d. subst (λ (s : Span). c.args.limit < s.page) (get_any spans i _ d inside) w.if-spans-i.false) c.loop-i.invariant)
    ]

pub returns : goal.returns
returns c =
    clash_places c.args.spans.now c.args.limit (λ i j d before inside low high same. c.loop-i.invariant.apart i j d before (omega (arith, inside, c.loop-i-test.false)) low high same)
