-- How the reading of element pages in lists ends.
use Rattle.std.proofs.Common.{◌≡◌, ℕ, ◌+◌, ◌-◌, ◌≤◌, Bool, IsTrue, Result, Ok, Err, List, [], ◌++◌, length, take, drop, refl, sym, ap, subst, ◌∙◌, arith}
use Rattle.std.proofs.Math.ListN.{drop_of_length-le}
use Rattle.std.proofs.Math.Seq.{take-append_seam}
use Rattle.ts_page.specs.Pages.{Contents, first_element_page}
use Rattle.ts_model.specs.Definitions.{Definitions}
use Rattle.ts_container.specs.declared.elements.Elements.{Elements}
use Rattle.ts_container.specs.declared.fault.SurveyFault.{SurveyFault}
use Rattle.ts_container.specs.declared.fault.SurveyFault.TheVariants.{NotAStore, Failed, Memory}
use Rattle.ts_container.specs.declared.span.Span.{Span}
use Rattle.ts_container.specs.Elements.{AllRead, IsBadElement, ElementsRead}
use Rattle.ts_container.specs.Survey.{Reads, IfRefused}
use Rattle.ts_volume.specs.FirstBad.{IsLeast}
use Rattle.ts_check.specs.declared.page_list.PageRead.{PageRead}
use Rattle.ts_check.specs.Judged.{AreNumbered, AreBytesOf, ListRead, IsFirstBadIn, ListAdded}
use Rattle.ts_check.proofs.ListLemmas.{list_bad, bytes_before}

-- a list that was written whole
pub kept_list : {X : Type 0} (n : ℕ) (new items : List X) → length new ≡ length items → n ≡ length new → take n (new ++ drop (length new) items) ≡ new
kept_list {X} n new items same is =
    let none : drop (length new) items ≡ [] = drop_of_length-le items {i = length new} (omega (arith, same)) in
    (λ i. take (is i) (new ++ none i)) ∙ take-append_seam new []

-- one call after another that went well
pub then_reads : {S T : Type 0} (tells : Bool) (x : S) (r : Result T SurveyFault) (u v w : Contents) → Reads tells (Ok x) u v → Reads tells r v w → Reads tells r u w
then_reads tells x r u v w first second = record {
  count = second.count ∙ first.count;
  faults = omega (arith, first.faults, second.faults);
  pages = λ told n. second.pages told n ∙ first.pages told n;
  free = second.free ∙ first.free;
  cause = λ failed. omega (arith, first.faults, second.cause failed);
  no_fault = λ fine. second.no_fault fine ∙ first.no_fault (λ failed. cc);
}

-- nothing was read yet
pub no_reads : (tells : Bool) (v : Contents) → Reads {T = Unit {0}} tells (Ok tt) v v
no_reads tells v = record { count = refl; faults = omega arith; pages = λ told n. refl; free = refl; cause = λ failed. absurd (cc); no_fault = λ fine. refl }

-- what went well, seen as another answer
pub fine_reads : {S T : Type 0} (tells : Bool) (x : S) (y : T) (v w : Contents) → Reads tells (Ok x) v w → Reads tells (Ok y) v w
fine_reads tells x y v w reads = record { count = reads.count; faults = reads.faults; pages = reads.pages; free = reads.free; cause = λ failed. absurd (cc); no_fault = λ fine. reads.no_fault (λ failed. cc) }

-- a failure of one call is one of another
same_failure : (S T : Type 0) (e : SurveyFault) → ◌≡◌ {A = Result T SurveyFault} (Err e) (Err Failed) → ◌≡◌ {A = Result S SurveyFault} (Err e) (Err Failed)
same_failure S T e same = let e' : e ≡ Failed = cc in ap Err e'

-- an error of what reads nothing
module _ {T : Type 0} (tells : Bool) (e : SurveyFault) (v w : Contents) (reads : Reads {T = Unit {0}} tells (Ok tt) v w) (other : ◌≡◌ {A = Result Unit SurveyFault} (Err e) (Err Failed) → ⊥) where
  pub quiet_reads : Reads {T = T} tells (Err e) v w
  quiet_reads = record {
    count = reads.count;
    faults = reads.faults;
    pages = reads.pages;
    free = reads.free;
    cause = λ failed. absurd (other (same_failure (Unit {0}) T e failed));
    no_fault = λ fine. reads.no_fault (λ failed. cc);
  }

-- there was no memory for a list
pub no_list : (tells : Bool) (count : ℕ) (d : Definitions) (error : _) (v : Contents) → ElementsRead tells count d (Err (Memory error)) v v
no_list tells count d error v = record {
  call = quiet_reads tells (Memory error) v v (no_reads tells v) (λ failed. cc);
  read = tt;
  refused = tt;
}

-- a list wasn't read
failed_so : (e : SurveyFault) (P : ℕ → Type 0) → IfRefused e (λ page. ⊥) → IfRefused e P
failed_so (NotAStore page) P never = absurd never
failed_so Failed P never = tt
failed_so (Memory error) P never = tt

pub list_unread : (tells : Bool) (count first : ℕ) (d : Definitions) (list : List PageRead) (e : SurveyFault) (u v w : Contents) → Reads {T = Unit {0}} tells (Ok tt) u v → ListRead tells first list (Err e) v w → ElementsRead tells count d (Err e) u w
list_unread tells count first d list e u v w before read =
    let whole = then_reads tells tt (Err e) u v w before read.call in
    record {
      call = record {
        count = whole.count;
        faults = whole.faults;
        pages = whole.pages;
        free = whole.free;
        cause = λ failed. whole.cause (same_failure (Unit {0}) Elements e failed);
        no_fault = λ fine. whole.no_fault (λ failed. fine (same_failure Elements (Unit {0}) e failed));
      };
      read = tt;
      refused = failed_so e (λ page. IsTrue tells → IsLeast (IsBadElement count d u.page) page) read.refused;
    }

-- a list was read, and a page of it is bad, or there was no memory for its judging
module _ (tells : Bool) (count number : ℕ) (low : first_element_page ≤ number) (d : Definitions) (list : List PageRead) (within : number + length list ≤ count) (u v w : Contents) (spans : List Span) (free : List ℕ)
    (read : AllRead tells (number - first_element_page) d u spans free) (before : Reads {T = Unit {0}} tells (Ok tt) u v) (got : ListRead tells number list (Ok tt) v w) where
  its_bytes : AreBytesOf tells u list
  its_bytes = bytes_before tells u v list (λ told n. before.pages told n) got.bytes

  refused_so : (e : SurveyFault) → IfRefused e (λ page. IsFirstBadIn d list page) → IfRefused e (λ page. IsTrue tells → IsLeast (IsBadElement (count - first_element_page) d u.page) page)
  refused_so (NotAStore page) bad = λ told. list_bad tells d u number low list got.numbers its_bytes spans free read count page within bad told
  refused_so Failed bad = tt
  refused_so (Memory error) bad = tt

  pub list_refused : (e : SurveyFault) (old new : Elements) → ListAdded d list (Err e) old new → ElementsRead tells (count - first_element_page) d (Err e) u w
  list_refused e old new added = record {
    call = quiet_reads tells e u w (then_reads tells tt (Ok tt) u v w before got.call) added.cause;
    read = tt;
    refused = refused_so e added.refused;
  }

  pub list_behind : AreBytesOf tells u list
  list_behind = its_bytes
