use Rattle.std.proofs.Common.{Ok, sym, subst, ◌∙◌}
use Rattle.ts_container.specs.Elements.{IsContentOf}
use Rattle.ts_container.proofs.SurveyLemmas.{reads_none, reads_more, reads_refused}
use Rattle.ts_container.proofs.ElementLemmas.{none_read, read_more, read_bad}
use Rattle.ts_container.proofs.elements.read_elements.Goals as goal

pub loop-number-init : goal.loop-number-init
loop-number-init g c = record {
  call = reads_none g.P.Pages.tells (g.P.Pages.contents c.args.pages.now);
  undisturbed = g.met.P.Pages.stays c.args.pages.now;
  read = none_read g.P.Pages.tells c.args.defs.now.definitions (g.P.Pages.contents c.args.pages.now) c.new.result.items c.new-2.result.items c.new.ensures.items c.new-2.ensures.items;
}

pub returns-in_default-clause-read : goal.returns-in_default-clause-read
returns-in_default-clause-read g c =
    let u = g.P.Pages.contents c.args.pages.now in
    let v = g.P.Pages.contents c.loop-number.pages in
    let w = g.P.Pages.contents c.read.new.pages in
    let got = c.in_ok-read.ensures.got in
    record {
      call = reads_refused g.P.Pages.tells tt c.loop-number.number u w (reads_more g.P.Pages.tells tt (Ok tt) u v w c.loop-number.invariant.call got.call);
      read = tt;
      refused = λ told. read_bad g.P.Pages.tells c.args.defs.now.definitions u c.loop-number.number c.args.count c.read.new.page.bytes c.loop-number.elements.spans.items c.loop-number.elements.free.items c.loop-number.auto.number c.loop-number-test.true
          (sym (got.read told ∙ c.loop-number.invariant.call.pages told c.loop-number.number)) (subst (IsContentOf c.args.defs.now.definitions c.loop-number.number c.read.new.page.bytes) c.in_default.is c.content_of.ensures) c.loop-number.invariant.read told;
    }

pub loop-number-preserved : goal.loop-number-preserved
loop-number-preserved g c =
    let u = g.P.Pages.contents c.args.pages.now in
    let v = g.P.Pages.contents c.loop-number.pages in
    let w = g.P.Pages.contents c.read.new.pages in
    let got = c.in_ok-read.ensures.got in
    record {
      call = reads_more g.P.Pages.tells tt (Ok tt) u v w c.loop-number.invariant.call got.call;
      undisturbed = g.met.P.Pages.«then» c.args.pages.now c.loop-number.pages c.read.new.pages c.loop-number.invariant.undisturbed c.in_ok-read.ensures.undisturbed;
      read = read_more g.P.Pages.tells c.args.defs.now.definitions u c.loop-number.number _ c.add.new.self.spans.items _ c.add.new.self.free.items c.in-Some.content c.read.new.page.bytes c.loop-number.auto.number
          c.loop-number.invariant.read (subst (IsContentOf c.args.defs.now.definitions c.loop-number.number c.read.new.page.bytes) c.in-Some.is c.content_of.ensures) (c.in_ok-add.ensures c.args.defs.now.definitions) (λ told. sym (got.read told ∙ c.loop-number.invariant.call.pages told c.loop-number.number));
    }
