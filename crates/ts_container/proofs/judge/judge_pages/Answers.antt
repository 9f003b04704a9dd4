use Rattle.std.proofs.Common.{Ok, sym, subst, ◌∙◌, arith, inl, inr}
use Rattle.std.proofs.lemmas.Bool.{cases_eq}
use Rattle.ts_volume.specs.FirstBad.{HoldsSlots}
use Rattle.ts_container.proofs.SurveyLemmas.{reads_none, reads_more, is_true}
use Rattle.ts_container.proofs.judge.judge_pages.Goals as goal

pub loop-number-init : goal.loop-number-init
loop-number-init g c = record {
  call = reads_none g.P.Pages.tells (g.P.Pages.contents c.args.pages.now);
  undisturbed = g.met.P.Pages.stays c.args.pages.now;
  all = λ told n low below. absurd (omega (arith, low, below));
}

pub loop-number-preserved : goal.loop-number-preserved
loop-number-preserved g c =
    let u = g.P.Pages.contents c.args.pages.now in
    let v = g.P.Pages.contents c.loop-number.pages in
    let w = g.P.Pages.contents c.read.new.pages in
    let got = c.in_ok-read.ensures.got in
    record {
      call = reads_more g.P.Pages.tells tt (Ok tt) u v w c.loop-number.invariant.call got.call;
      undisturbed = g.met.P.Pages.«then» c.args.pages.now c.loop-number.pages c.read.new.pages c.loop-number.invariant.undisturbed c.in_ok-read.ensures.undisturbed;
      all = λ told n low below. elim (cases_eq n c.loop-number.number) [
        | inl this ↦ subst (HoldsSlots c.args.format u.page) (sym this)
            (is_true c.in_ok-is_page_of.field-0 _ _ c.if-not-branch.false c.in_ok-is_page_of.ensures u.page (sym (got.read told ∙ c.loop-number.invariant.call.pages told c.loop-number.number)))
        | inr other ↦ c.loop-number.invariant.all told n low (omega (arith, below, other))
      ];
    }

pub returns-clause-judged : goal.returns-clause-judged
returns-clause-judged g c = record {
  call = c.loop-number.invariant.call;
  all = λ told n low high. c.loop-number.invariant.all told n low (omega (arith, high, c.loop-number-test.false));
  refused = tt;
}
