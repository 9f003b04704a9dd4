use Rattle.std.specs.Prelude.{All}
use Rattle.std.proofs.Common.{Bool, MatchBool, List, sym, subst, refl}
use Rattle.ts_container.specs.declared.span.Span.{Span}
use Rattle.ts_container.specs.Spans.{IsSpan, AreDifferent, AreApart, AreDense, IsClash, IsThin, IsOverQuota, Lists, AreMarked}
use Rattle.ts_layout.specs.Charges.{KeepQuotas}
use Rattle.ts_volume.specs.FirstBad.{IsLeast}
use Rattle.ts_container.proofs.FinishLemmas.{IsSortOf, ends_read, different_read, countable, finished_sound, finished_survey, finished_kept, late_overlap, late_sparse, late_charge}
use Rattle.ts_container.proofs.surveyed.finish.Goals as goal

pub overlapping-requires-clause-ends : goal.overlapping-requires-clause-ends
overlapping-requires-clause-ends c =
    let x = c.args.elements in
    subst (All IsSpan) (sym c.deref-2.ensures.value) (ends_read c.args.count c.args.defs.definitions x.spans.items c.sort.new.spans.items x.free.items c.requires.read.0 c.requires.read.1 (c.sort.ensures.all, c.sort.ensures.order))

pub overlapping-requires-clause-pages : goal.overlapping-requires-clause-pages
overlapping-requires-clause-pages c =
    let x = c.args.elements in
    subst AreDifferent (sym c.deref-2.ensures.value) (different_read c.args.count c.args.defs.definitions x.spans.items c.sort.new.spans.items x.free.items c.requires.read.0 c.requires.read.1 (c.sort.ensures.all, c.sort.ensures.order))

pub returns-in-Some-clause-refused : goal.returns-in-Some-clause-refused
returns-in-Some-clause-refused c = λ es read.
    let x = c.args.elements in
    late_overlap c.args.count c.args.defs.definitions x.spans.items c.sort.new.spans.items x.free.items es read (c.sort.ensures.all, c.sort.ensures.order) c.in-Some.bad (subst (λ (l : List Span). IsLeast (IsClash l) c.in-Some.bad) c.deref-2.ensures.value c.in-Some.ensures)

pub returns-in-Some-sparse-clause-refused : goal.returns-in-Some-sparse-clause-refused
returns-in-Some-sparse-clause-refused c = λ es read.
    let x = c.args.elements in
    late_sparse c.args.count c.args.defs.definitions x.spans.items c.sort.new.spans.items x.free.items es read (c.sort.ensures.all, c.sort.ensures.order) c.in-Some-sparse.bad (subst AreApart c.deref-2.ensures.value c.in_default.ensures)
    (subst (λ (l : List Span). IsLeast (IsThin c.args.defs.definitions l) c.in-Some-sparse.bad) c.deref-3.ensures.value c.in-Some-sparse.ensures)

pub directory_of-requires-clause-ends : goal.directory_of-requires-clause-ends
directory_of-requires-clause-ends c =
    let x = c.args.elements in
    subst (All IsSpan) (sym c.deref-4.ensures.value) (ends_read c.args.count c.args.defs.definitions x.spans.items c.sort.new.spans.items x.free.items c.requires.read.0 c.requires.read.1 (c.sort.ensures.all, c.sort.ensures.order))

pub keep_quotas-requires-clause-countable : goal.keep_quotas-requires-clause-countable
keep_quotas-requires-clause-countable c =
    let x = c.args.elements in
    countable c.args.count c.args.defs.definitions x.spans.items c.sort.new.spans.items x.free.items c.requires.read.0 c.requires.read.1 (c.sort.ensures.all, c.sort.ensures.order) c.in_ok-space.space c.requires.most
    (subst (λ (l : List Span). Lists l c.in_ok-space.space) c.deref-4.ensures.value c.in_ok-space.ensures)

pub returns-then-not-kept-clause-refused : goal.returns-then-not-kept-clause-refused
returns-then-not-kept-clause-refused c = λ es read.
    let x = c.args.elements in
    late_charge c.args.count c.args.defs.definitions x.spans.items c.sort.new.spans.items x.free.items es read (c.sort.ensures.all, c.sort.ensures.order) c.in_ok-space.space c.requires.sound (subst AreApart c.deref-2.ensures.value c.in_default.ensures)
    (subst (AreDense c.args.defs.definitions) c.deref-3.ensures.value c.in_default-sparse.ensures) (subst (λ (l : List Span). Lists l c.in_ok-space.space) c.deref-4.ensures.value c.in_ok-space.ensures) (subst (λ (b : Bool). MatchBool b (KeepQuotas c.args.defs.definitions c.in_ok-space.space) (IsOverQuota c.args.defs.definitions c.in_ok-space.space)) c.if-not-kept.true c.in_ok-kept.ensures)

pub returns-clause-ok : goal.returns-clause-ok
returns-clause-ok c =
    let x = c.args.elements in
    let space = c.in_ok-space.space in
    let moved : IsSortOf x.spans.items c.sort.new.spans.items = (c.sort.ensures.all, c.sort.ensures.order) in
    let apart = subst AreApart c.deref-2.ensures.value c.in_default.ensures in
    let dense = subst (AreDense c.args.defs.definitions) c.deref-3.ensures.value c.in_default-sparse.ensures in
    let lists = subst (λ (l : List Span). Lists l space) c.deref-4.ensures.value c.in_ok-space.ensures in
    let within = subst (λ (b : Bool). MatchBool b (KeepQuotas c.args.defs.definitions space) (IsOverQuota c.args.defs.definitions space)) c.if-not-kept.false c.in_ok-kept.ensures in (
      refl,
      finished_kept c.args.count c.args.defs.definitions x.spans.items c.sort.new.spans.items x.free.items c.requires.read.0 c.requires.read.1 moved space c.requires.some c.requires.most c.requires.sound apart dense lists within,
      λ es read. (
        finished_survey c.args.count c.args.defs.definitions x.spans.items c.sort.new.spans.items x.free.items es read moved space apart lists,
        finished_sound c.args.count c.args.defs.definitions x.spans.items c.sort.new.spans.items x.free.items es read moved space c.requires.some c.requires.most c.requires.sound apart dense lists within,
      ),
    )

pub returns-clause-marked : goal.returns-clause-marked
returns-clause-marked c = subst (λ (l : List Span). AreMarked l c.in_ok-hidden.hidden.items) c.deref.ensures.value c.in_ok-hidden.ensures
