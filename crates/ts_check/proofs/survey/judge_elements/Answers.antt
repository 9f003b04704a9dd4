use Rattle.std.proofs.Common.{◌≡◌, ◌+◌, ◌-◌, ◌≤◌, ℕ, List, Result, Ok, Err, length, refl, sym, ◌∙◌, subst, ap, arith}
use Rattle.ts_page.specs.Pages.{first_element_page}
use Rattle.ts_container.specs.declared.elements.Elements.{Elements}
use Rattle.ts_container.specs.declared.fault.SurveyFault.{SurveyFault}
use Rattle.ts_container.specs.Elements.{AllRead, ElementsRead}
use Rattle.ts_container.proofs.SurveyLemmas.{err_is}
use Rattle.ts_check.specs.declared.page_list.PageRead.{PageRead}
use Rattle.ts_check.specs.Judged.{ListAdded}
use Rattle.ts_check.proofs.ListLemmas.{list_added, bytes_before}
use Rattle.ts_check.proofs.ElementsLemmas.{kept_list, then_reads, fine_reads, list_refused}
use Rattle.ts_check.proofs.survey.judge_elements.Goals as goal

pub returns-in_err-judge_list-clause-read : goal.returns-in_err-judge_list-clause-read
returns-in_err-judge_list-clause-read g c =
    let tells = g.P.Pages.tells in
    let d = c.args.defs.now.definitions in
    let u = g.P.Pages.contents c.args.pages.now in
    let v = g.P.Pages.contents c.loop-number.pages in
    let w = g.P.Pages.contents c.read_list.new.pages in
    let inv = c.loop-number.invariant in
    let list = c.read_list.new.list in
    let e = c.in_err-judge_list.field-0.0 in
    let long : length list ≡ length c.truncate.new.self.items = omega (arith, c.read_list.auto.list, ap (λ (l : List PageRead). length l) c.deref_mut.ensures.value) in
    let all : c.truncate.new.self.len ≡ length list = omega (arith, c.read_list.auto.list, c.deref_mut.ensures.len) in
    let same : c.deref.result.now ≡ list = c.deref.ensures.value ∙ kept_list c.truncate.new.self.len list c.truncate.new.self.items long all in
    let within : c.loop-number.number + length list ≤ c.args.count = omega (arith, c.truncate.ensures.len, all, inv.high, c.loop-number-test.true) in
    let added = subst (λ (l : List PageRead). ListAdded d l (Err e) c.loop-number.elements c.judge_list.new.elements) same c.in_err-judge_list.ensures in
    subst (λ (r : Result Elements SurveyFault). ElementsRead tells (c.args.count - first_element_page) d r u w)
    (sym (err_is c.from_residual-in_err-judge_list.result e c.from_residual-in_err-judge_list.ensures.1))
    (list_refused tells c.args.count c.loop-number.number inv.low d list within u v w c.loop-number.elements.spans.items c.loop-number.elements.free.items inv.read inv.call c.in_ok-read_list.ensures.read e c.loop-number.elements c.judge_list.new.elements added)

pub loop-number-preserved : goal.loop-number-preserved
loop-number-preserved g c =
    let tells = g.P.Pages.tells in
    let d = c.args.defs.now.definitions in
    let u = g.P.Pages.contents c.args.pages.now in
    let v = g.P.Pages.contents c.loop-number.pages in
    let w = g.P.Pages.contents c.read_list.new.pages in
    let inv = c.loop-number.invariant in
    let got = c.in_ok-read_list.ensures.read in
    let list = c.read_list.new.list in
    let number = c.loop-number.number in
    let long : length list ≡ length c.truncate.new.self.items = omega (arith, c.read_list.auto.list, ap (λ (l : List PageRead). length l) c.deref_mut.ensures.value) in
    let all : c.truncate.new.self.len ≡ length list = omega (arith, c.read_list.auto.list, c.deref_mut.ensures.len) in
    let whole = kept_list c.truncate.new.self.len list c.truncate.new.self.items long all in
    let kept = ap (λ (l : List PageRead). length l) whole in
    let added = subst (λ (l : List PageRead). ListAdded d l (Ok c.in_ok-judge_list.field-0) c.loop-number.elements c.judge_list.new.elements) (c.deref.ensures.value ∙ whole) c.in_ok-judge_list.ensures in
    let counted : c.len.result ≡ length list = c.len.ensures ∙ all in
    let next : number + length list - first_element_page ≡ number + c.len.result - first_element_page = omega (arith, counted) in
    record {
      call = fine_reads tells _ (tt {0}) u w (then_reads tells (tt {0}) _ u v w inv.call got.call);
      undisturbed = g.met.P.Pages.«then» c.args.pages.now c.loop-number.pages c.read_list.new.pages inv.undisturbed c.in_ok-read_list.ensures.undisturbed;
      low = omega (arith, inv.low);
      high = omega (arith, counted, c.truncate.ensures.len, all, inv.high, c.loop-number-test.true);
      some = λ more. omega (arith, kept, counted, c.truncate.ensures.len, all, inv.some c.loop-number-test.true, c.loop-number-test.true, more);
      few = omega (arith, kept, c.truncate.ensures.len, all, inv.few);
      read = subst (λ (n : ℕ). AllRead tells n d u c.judge_list.new.elements.spans.items c.judge_list.new.elements.free.items) next
          (list_added tells d u number inv.low list got.numbers (bytes_before tells u v list (λ told n. inv.call.pages told n) got.bytes) c.loop-number.elements.spans.items c.loop-number.elements.free.items inv.read c.loop-number.elements c.judge_list.new.elements refl refl added.added);
    }
