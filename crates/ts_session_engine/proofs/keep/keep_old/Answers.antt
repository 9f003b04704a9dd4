use Rattle.std.proofs.Common.{◌≡◌, ◌++◌, ℕ, List, refl, sym, ◌∙◌, subst, arith}
use Rattle.ts_journal.specs.Journal.{over, own_page}
use Rattle.ts_store.specs.OpenBatch.{committed_pages}
use Rattle.ts_store.proofs.CallerLemmas.{reads_none, reads_then}
use Rattle.ts_views.specs.View.{HasImage, OfEachOpen}
use Rattle.ts_session_engine.specs.Beside.{AllHaveMore, AreCovered}
use Rattle.ts_disk.specs.Device.{Rose}
use Rattle.ts_session_engine.proofs.CoverLemmas.{covered_all, is_err, not_ok, one_covered}
use Rattle.ts_session_engine.proofs.StayLemmas.{more_none, more_then}
use Rattle.ts_session_engine.proofs.keep.keep_old.Goals as goal

pub loop-place-init : goal.loop-place-init
loop-place-init g c =
    record {
      more = more_none g.V.Volume.tells (committed_pages c.args.store.now (g.V.Volume.device c.args.vol.now).held) c.args.views.now;
      covered = λ k other lower. absurd (omega (arith, lower));
      reads = reads_none g.V.Volume.tells (g.V.Volume.device c.args.vol.now) (g.met.V.Volume.lawful c.args.vol.now);
      no_fault = refl;
    }

pub loop-place-preserved : goal.loop-place-preserved
loop-place-preserved g c =
    let tells = g.V.Volume.tells in
    let s = c.args.store.now in
    let v = g.V.Volume.device c.args.vol.now in
    let x = g.V.Volume.device c.loop-place.vol in
    let y = g.V.Volume.device c.keep_page.new.vol in
    let inv = c.loop-place.invariant in
    let kept = c.in_ok-keep_page.ensures in
    record {
      more = more_then tells (committed_pages s v.held) c.args.views.now c.loop-place.views c.keep_page.new.views inv.more
          (subst (λ (p : ℕ → List ℕ). AllHaveMore tells p c.loop-place.views c.keep_page.new.views) (λ i. over s.overlay (own_page (inv.reads.held i))) kept.more);
      covered = one_covered (s.transaction ++ s.batch) c.loop-place.place c.loop-place.views c.keep_page.new.views inv.covered kept.still
          (λ other. subst (λ (n : ℕ). OfEachOpen (HasImage n) c.keep_page.new.views) (c.changed_page.ensures.page other) kept.covered);
      reads = reads_then tells v x y inv.reads kept.reads;
      no_fault = kept.no_fault (λ failed. absurd (cc)) ∙ inv.no_fault;
    }

pub returns-in_err-keep_page : goal.returns-in_err-keep_page
returns-in_err-keep_page g c =
    let tells = g.V.Volume.tells in
    let s = c.args.store.now in
    let v = g.V.Volume.device c.args.vol.now in
    let x = g.V.Volume.device c.loop-place.vol in
    let y = g.V.Volume.device c.keep_page.new.vol in
    let inv = c.loop-place.invariant in
    let kept = c.in_err-keep_page.ensures in
    let r = c.from_residual.result in
    let fault = c.in_err-keep_page.field-0.0 in
    let is = is_err r fault c.from_residual.ensures.1 in
    record {
      more = more_then tells (committed_pages s v.held) c.args.views.now c.loop-place.views c.keep_page.new.views inv.more
          (subst (λ (p : ℕ → List ℕ). AllHaveMore tells p c.loop-place.views c.keep_page.new.views) (λ i. over s.overlay (own_page (inv.reads.held i))) kept.more);
      covered = not_ok r (AreCovered s c.keep_page.new.views) (λ k. k ≡ fault) c.from_residual.ensures.1;
      reads = reads_then tells v x y inv.reads kept.reads;
      cause = λ failed. subst (λ (n : ℕ). Rose n y.faults) inv.no_fault (kept.cause (sym is ∙ failed));
      no_fault = λ no. kept.no_fault (λ failed. no (is ∙ failed)) ∙ inv.no_fault;
    }

pub keep_page-requires : goal.keep_page-requires
keep_page-requires g c =
    record {
      size = c.loop-place.invariant.reads.keeps.size ∙ c.requires.size;
      within = c.changed_page.ensures.within;
      outside = c.changed_page.ensures.outside;
    }

pub returns : goal.returns
returns g c =
    let inv = c.loop-place.invariant in
    record {
      more = inv.more;
      covered = covered_all c.args.store.now c.loop-place.views (λ k other lower. inv.covered k other (omega (arith, lower, c.loop-place-test.false, c.changes-place-end.ensures)));
      reads = inv.reads;
      cause = λ failed. absurd (cc);
      no_fault = λ no. inv.no_fault;
    }
