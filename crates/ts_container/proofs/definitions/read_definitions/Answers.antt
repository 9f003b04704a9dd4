use Rattle.std.proofs.Common.{Ok, sym, subst, ◌∙◌, ◌≡◌, ℕ, arith}
use Rattle.ts_page.specs.Pages.{first_element_page}
use Rattle.ts_layout.specs.Rank.{rank_of_page}
use Rattle.ts_container.specs.declared.found.Found.{Found}
use Rattle.ts_container.specs.declared.found.Found.TheVariants as found
use Rattle.ts_container.specs.Reading.{IsReadTo, PageRead}
use Rattle.ts_container.proofs.SurveyLemmas.{reads_none, reads_more, reads_ok, reads_refused, known_none, known_more, known_bad, known_all, none_read_to, unresolved_read, judged_read, err_is, KnownTo}
use Rattle.ts_container.proofs.definitions.read_definitions.Goals as goal

pub loop-number-init : goal.loop-number-init
loop-number-init g c = record {
  call = reads_none g.P.Pages.tells (g.P.Pages.contents c.args.pages.now);
  undisturbed = g.met.P.Pages.stays c.args.pages.now;
  read = none_read_to c.args.defs.now.definitions c.new-broken.result.items c.requires.empty c.new-broken.ensures.items;
  known = λ told. known_none c.args.defs.now.definitions.format (g.P.Pages.contents c.args.pages.now).page c.args.defs.now.definitions c.new-broken.result.items c.new-broken.ensures.items;
}

pub read_page-requires-clause-before : goal.read_page-requires-clause-before
read_page-requires-clause-before g c =
    let read = c.loop-number.invariant.read in
    subst (λ (n : ℕ). IsReadTo n (rank_of_page c.loop-number.number) c.loop-number.defs.definitions c.loop-number.broken.items) (sym read.read.of_format) read

pub loop-number-preserved : goal.loop-number-preserved
loop-number-preserved g c =
    let u = g.P.Pages.contents c.args.pages.now in
    let v = g.P.Pages.contents c.loop-number.pages in
    let w = g.P.Pages.contents c.read.new.pages in
    let got = c.in_ok-read.ensures.got in
    let same = c.loop-number.invariant.read.read.of_format in
    let seen = subst (λ (f : Found). PageRead c.loop-number.defs.definitions.format c.loop-number.number c.read.new.page.bytes (c.loop-number.defs.definitions, c.loop-number.broken.items) (c.read_page.new.defs.definitions, c.read_page.new.broken.items) f) c.in-Good.is c.in_ok-read_page.ensures in
    let page = subst (λ (n : ℕ). PageRead n c.loop-number.number c.read.new.page.bytes (c.loop-number.defs.definitions, c.loop-number.broken.items) (c.read_page.new.defs.definitions, c.read_page.new.broken.items) found.Good) same seen in
    record {
      call = reads_more g.P.Pages.tells tt (Ok tt) u v w c.loop-number.invariant.call got.call;
      undisturbed = g.met.P.Pages.«then» c.args.pages.now c.loop-number.pages c.read.new.pages c.loop-number.invariant.undisturbed c.in_ok-read.ensures.undisturbed;
      read = page.1;
      known = λ told.
          known_more c.args.defs.now.definitions.format c.loop-number.number c.read.new.page.bytes u.page (c.loop-number.defs.definitions, c.loop-number.broken.items) (c.read_page.new.defs.definitions, c.read_page.new.broken.items)
          (sym (got.read told ∙ c.loop-number.invariant.call.pages told c.loop-number.number)) page (c.loop-number.invariant.known told);
    }

pub returns-in-Bad-clause-read : goal.returns-in-Bad-clause-read
returns-in-Bad-clause-read g c =
    let tells = g.P.Pages.tells in
    let u = g.P.Pages.contents c.args.pages.now in
    let v = g.P.Pages.contents c.loop-number.pages in
    let w = g.P.Pages.contents c.read.new.pages in
    let got = c.in_ok-read.ensures.got in
    let same = c.loop-number.invariant.read.read.of_format in
    let seen = subst (λ (f : Found). PageRead c.loop-number.defs.definitions.format c.loop-number.number c.read.new.page.bytes (c.loop-number.defs.definitions, c.loop-number.broken.items) (c.read_page.new.defs.definitions, c.read_page.new.broken.items) f) c.in-Bad.is c.in_ok-read_page.ensures in
    let page = subst (λ (n : ℕ). PageRead n c.loop-number.number c.read.new.page.bytes (c.loop-number.defs.definitions, c.loop-number.broken.items) (c.read_page.new.defs.definitions, c.read_page.new.broken.items) found.Bad) same seen in
    record {
      call = reads_refused tells (tt {0}) c.loop-number.number u w (reads_more tells (tt {0}) (Ok (tt {0})) u v w c.loop-number.invariant.call got.call);
      read = tt;
      known = tt;
      refused = λ told.
          known_bad c.args.defs.now.definitions.format c.loop-number.number c.read.new.page.bytes u.page c.loop-number.defs.definitions c.loop-number.broken.items
          (sym (got.read told ∙ c.loop-number.invariant.call.pages told c.loop-number.number)) c.loop-number.auto.number c.loop-number-test.true page (c.loop-number.invariant.known told);
    }

pub returns-in_err-judge_pages-in-Unresolved-clause-read : goal.returns-in_err-judge_pages-in-Unresolved-clause-read
returns-in_err-judge_pages-in-Unresolved-clause-read g c =
    let tells = g.P.Pages.tells in
    let u = g.P.Pages.contents c.args.pages.now in
    let v = g.P.Pages.contents c.loop-number.pages in
    let w = g.P.Pages.contents c.read.new.pages in
    let x = g.P.Pages.contents c.judge_pages.new.pages in
    let is = err_is c.from_residual-in_err-judge_pages-in-Unresolved.result c.in_err-judge_pages-in-Unresolved.field-0.0 c.from_residual-in_err-judge_pages-in-Unresolved.ensures.1 in
    let read = judged_read tells c.args.defs.now.definitions.format c.loop-number.number c.format-format.result c.in_err-judge_pages-in-Unresolved.field-0.0 c.loop-number.defs.definitions c.read_page.new.defs.definitions c.loop-number.broken.items u w x c.format-format.ensures.value
    (reads_more tells (tt {0}) (Ok (tt {0})) u v w c.loop-number.invariant.call c.in_ok-read.ensures.got.call) c.loop-number.invariant.known c.in_err-judge_pages-in-Unresolved.ensures.judged in
    rw is read

pub returns-in-Unresolved-clause-read : goal.returns-in-Unresolved-clause-read
returns-in-Unresolved-clause-read g c =
    let tells = g.P.Pages.tells in
    let u = g.P.Pages.contents c.args.pages.now in
    let v = g.P.Pages.contents c.loop-number.pages in
    let w = g.P.Pages.contents c.read.new.pages in
    let x = g.P.Pages.contents c.judge_pages.new.pages in
    let got = c.in_ok-read.ensures.got in
    let same = c.loop-number.invariant.read.read.of_format in
    let seen = subst (λ (f : Found). PageRead c.loop-number.defs.definitions.format c.loop-number.number c.read.new.page.bytes (c.loop-number.defs.definitions, c.loop-number.broken.items) (c.read_page.new.defs.definitions, c.read_page.new.broken.items) f) c.in-Unresolved.is c.in_ok-read_page.ensures in
    let page = subst (λ (n : ℕ). PageRead n c.loop-number.number c.read.new.page.bytes (c.loop-number.defs.definitions, c.loop-number.broken.items) (c.read_page.new.defs.definitions, c.read_page.new.broken.items) found.Unresolved) same seen in
    unresolved_read tells c.args.defs.now.definitions.format c.loop-number.number c.format-format.result c.read.new.page.bytes (c.loop-number.defs.definitions, c.loop-number.broken.items) (c.read_page.new.defs.definitions, c.read_page.new.broken.items) u w x c.format-format.ensures.value
    page (reads_more tells (tt {0}) (Ok (tt {0})) u v w c.loop-number.invariant.call got.call) (λ told. sym (got.read told ∙ c.loop-number.invariant.call.pages told c.loop-number.number)) c.loop-number.invariant.known c.in_ok-judge_pages-in-Unresolved.ensures.judged

pub returns-in_err-judge_pages-in-Unresolved-clause-undisturbed :
    goal.returns-in_err-judge_pages-in-Unresolved-clause-undisturbed
returns-in_err-judge_pages-in-Unresolved-clause-undisturbed g c =
    g.met.P.Pages.«then» c.args.pages.now c.read.new.pages c.judge_pages.new.pages
    (g.met.P.Pages.«then» c.args.pages.now c.loop-number.pages c.read.new.pages c.loop-number.invariant.undisturbed c.in_ok-read.ensures.undisturbed) c.in_err-judge_pages-in-Unresolved.ensures.undisturbed

pub returns-in-Unresolved-clause-undisturbed : goal.returns-in-Unresolved-clause-undisturbed
returns-in-Unresolved-clause-undisturbed g c =
    g.met.P.Pages.«then» c.args.pages.now c.read.new.pages c.judge_pages.new.pages
    (g.met.P.Pages.«then» c.args.pages.now c.loop-number.pages c.read.new.pages c.loop-number.invariant.undisturbed c.in_ok-read.ensures.undisturbed) c.in_ok-judge_pages-in-Unresolved.ensures.undisturbed

pub returns-clause-read : goal.returns-clause-read
returns-clause-read g c = record {
  call = reads_ok g.P.Pages.tells (tt {0}) _ (g.P.Pages.contents c.args.pages.now) (g.P.Pages.contents c.loop-number.pages) c.loop-number.invariant.call;
  read = subst (λ (n : ℕ). IsReadTo c.args.defs.now.definitions.format (rank_of_page n) c.loop-number.defs.definitions c.loop-number.broken.items) (let z : c.loop-number.number ≡ first_element_page = omega (arith, c.loop-number-test.false, c.loop-number.auto.number-end) in z) c.loop-number.invariant.read;
  known = λ told. known_all c.args.defs.now.definitions.format (g.P.Pages.contents c.args.pages.now).page c.loop-number.defs.definitions c.loop-number.broken.items
      (subst (λ (n : ℕ). KnownTo c.args.defs.now.definitions.format n (g.P.Pages.contents c.args.pages.now).page c.loop-number.defs.definitions c.loop-number.broken.items) (let z : c.loop-number.number ≡ first_element_page = omega (arith, c.loop-number-test.false, c.loop-number.auto.number-end) in z) (c.loop-number.invariant.known told));
  refused = tt;
}
