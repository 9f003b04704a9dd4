-- The first bad page of a volume, by what its parts say: definitions that pass, element pages, and what spans them.
use Rattle.std.proofs.Common.{◌≡◌, ℕ, ◌+◌, ◌-◌, ◌<◌, ◌≤◌, Bool, IsTrue, Result, Ok, Err, IfOk, IfErr, IsErrOf, List, [], ◌∷◌, length, sym, ap, subst, ◌∙◌, arith, inl, inr}
use Rattle.ts_page.specs.Pages.{Contents, first_element_page}
use Rattle.ts_model.specs.Definitions.{Definitions, IsDefinitions}
use Rattle.ts_layout.specs.Slot.{header_bytes}
use Rattle.ts_layout.specs.Meaning.{Layout, ElementPage, element_page, HoldsElements, HoldAll, KeepLimits, AreSound, IsSound, IsLaidOut}
use Rattle.ts_layout.proofs.CallerLemmas.{same_page, same_pages}
use Rattle.ts_volume.specs.FirstBad.{Elements, Overlaps, Neighbours, Charges, IsLeast, HasNone, AllSaid, Finds, IsOverlap, IsSparse, IsOvercharged, IsFirstIn, IsFirstBad}
use Rattle.ts_container.specs.declared.fault.SurveyFault.{SurveyFault}
use Rattle.ts_container.specs.declared.fault.SurveyFault.TheVariants.{Failed}
use Rattle.ts_container.specs.declared.span.Span.{Span}
use Rattle.ts_container.specs.declared.surveyed.Surveyed.{Surveyed}
use Rattle.ts_container.specs.Elements.{IsReadAs, AllRead, AreListed, IsBadElement, IsFinished, IsLateBad}
use Rattle.ts_container.specs.Spans.{AreMarked}
use Rattle.ts_container.specs.Survey.{Reads, IfRefused, PassDefinitions, IsFirstLate, IsFound, IsMarked}
use Rattle.ts_container.proofs.HiddenLemmas.{marked_layout}
use Rattle.ts_container.proofs.SurveyLemmas.{equal_pages, refused_so}

module _ (count : ℕ) (pages : ℕ → List ℕ) (d : Definitions) (pass : PassDefinitions count pages d) where
  -- behind the steps that found nothing
  behind : (number : ℕ) → IsFirstIn (Finds count pages) (Elements ∷ Overlaps ∷ Neighbours ∷ Charges ∷ []) number → IsFirstBad count pages number
  behind number rest = inr (pass.none.0, inr (pass.none.1.0, inr (pass.none.1.1.0, inr (pass.none.1.1.1.0, inr (pass.none.1.1.1.1.0, rest)))))

  -- the least bad element page
  pub element_bad : first_element_page ≤ count → (page : ℕ) → IsLeast (IsBadElement (count - first_element_page) d pages) page → IsFirstBad count pages page
  unfolding behind
  element_bad some page least = behind page (inl (record {
    has = (d, pass.said, record { low = least.has.0; high = (let high = least.has.1 in omega (arith, high, some)); bad = least.has.2 });
    least = λ other (s, said, found).
        let low = found.low in
        let high = found.high in
        let same = pass.only s said in
        least.least other (low, omega (arith, high, some), λ e holds. found.bad e (subst (λ (x : Definitions). HoldsElements x (pages other) e) (sym same) holds));
  }))

  -- element pages that hold something
  module _ (es : List ElementPage) (size : count ≡ first_element_page + length es) (limits : KeepLimits d) (rules : IsDefinitions d) (holds : HoldAll d pages es) where
    abbrev l : Layout
    l = record { definitions = d; element_pages = es }

    elements_none : HasNone (Finds count pages Elements)
    elements_none number (s, said, found) =
        let low = found.low in
        let high = found.high in
        let at : first_element_page + (number - first_element_page) ≡ number = omega (arith, low) in
        let e = element_page (number - first_element_page) es in
        found.bad e (subst (λ (x : Definitions). HoldsElements x (pages number) e) (sym (pass.only s said)) (subst (λ (n : ℕ). HoldsElements d (pages n) e) at (holds (number - first_element_page) (omega (arith, low, high, size)))))

    they_said : AllSaid count pages l
    they_said = record { definitions = pass.said; size = size; elements = holds }

    one_layout : (k : Layout) → AllSaid count pages k → k ≡ l
    one_layout k said =
        let definitions : k.definitions ≡ d = pass.only k.definitions said.definitions in
        let first = said.size in
        let long : length k.element_pages ≡ length es = omega (arith, first, size) in
        let element_pages : k.element_pages ≡ es = same_pages k.element_pages es long (λ i within.
        same_page d (pages (first_element_page + i)) (element_page i k.element_pages) (element_page i es) limits rules
        (subst (λ (x : Definitions). HoldsElements x (pages (first_element_page + i)) (element_page i k.element_pages)) definitions (said.elements i within))
        (holds i (omega (arith, within, long)))) in
        λ i. record { definitions = definitions i; element_pages = element_pages i }

    overlaps_none : HasNone (IsOverlap l) → HasNone (Finds count pages Overlaps)
    unfolding one_layout
    overlaps_none none number (k, said, found) = none number (subst (λ (x : Layout). IsOverlap x number) (one_layout k said) found)

    sparse_none : HasNone (IsSparse l) → HasNone (Finds count pages Neighbours)
    unfolding one_layout
    sparse_none none number (k, said, found) = none number (subst (λ (x : Layout). IsSparse x number) (one_layout k said) found)

    -- the page that the last steps find
    pub late_bad : (page : ℕ) → IsFirstLate l page → IsFirstBad count pages page
    unfolding behind elements_none they_said one_layout overlaps_none sparse_none
    late_bad page (inl least) = behind page (inr (
      elements_none,
      inl (record {
        has = (l, they_said, least.has);
        least = λ other (k, said, found). least.least other (subst (λ (x : Layout). IsOverlap x other) (one_layout k said) found);
      }),
    ))
    late_bad page (inr (none, inl least)) = behind page (inr (
      elements_none,
      inr (
        overlaps_none none,
        inl (record {
          has = (l, they_said, least.has);
          least = λ other (k, said, found). least.least other (subst (λ (x : Layout). IsSparse x other) (one_layout k said) found);
        }),
      ),
    ))
    late_bad page (inr (none, inr (none', inl least))) = behind page (inr (
      elements_none,
      inr (
        overlaps_none none,
        inr (
          sparse_none none',
          inl (record {
            has = (l, they_said, least.has);
            least = λ other (k, said, found). least.least other (subst (λ (x : Layout). IsOvercharged x other) (one_layout k said) found);
          }),
        ),
      ),
    ))
    late_bad page (inr (none, inr (none', inr (none'', nothing)))) = absurd nothing

    -- or the layout that they hold
    pub laid_out : IsSound l → IsLaidOut count pages l
    laid_out sound = record {
      size = size;
      bytes = record {
        header = pass.said.header.bytes ∙ ap (header_bytes d.format) (let z : count - first_element_page ≡ length es = omega (arith, size) in z);
        definitions = pass.said.bytes;
        elements = holds;
      };
      rules = sound;
    }

-- what was seen of pages that are told, they hold
pub told_pages : (tells : Bool) (count : ℕ) (d : Definitions) (v : Contents) (es : List ElementPage) → IsTrue tells → length es ≡ count → ((j : ℕ) → j < count → IsReadAs tells v d (first_element_page + j) (element_page j es)) → HoldAll d v.page es
told_pages tells count d v es told size seen j within =
    let at : j < count = omega (arith, within, size) in
    let one = seen j at in
    subst (λ (b : List ℕ). HoldsElements d b (element_page j es)) (sym (one.2 told)) one.1

-- what was read was found of so many pages
pub all_listed : (tells : Bool) (count : ℕ) (d : Definitions) (v : Contents) (spans : List Span) (spare : List ℕ) (read : AllRead tells count d v spans spare) → AreListed count d spans spare read.elements
all_listed tells count d v spans spare read = record {
  size = read.size;
  listed = read.listed;
  held = λ j within. let one = read.seen j (let s = read.size in omega (arith, within, s)) in (one.0, one.1);
}

-- what was read of pages that stayed was read of them as they were before
pub all_before : (tells : Bool) (count : ℕ) (d : Definitions) (u v : Contents) (spans : List Span) (spare : List ℕ) → Reads tells (Ok (tt {0})) u v → AllRead tells count d v spans spare → AllRead tells count d u spans spare
all_before tells count d u v spans spare first read = record {
  elements = read.elements;
  size = read.size;
  listed = read.listed;
  seen = λ j within. let one = read.seen j within in (one.0, one.1, λ told. sym (first.pages told (first_element_page + j)) ∙ one.2 told);
}

-- element pages that were read, and what is finished of them
module _ (tells : Bool) (count : ℕ) (d : Definitions) (v : Contents) (some : 931 ≤ count) (pass : IsTrue tells → PassDefinitions count v.page d) (sound : AreSound (count - first_element_page) d) where
  its_size : (es : List ElementPage) → length es ≡ count - first_element_page → count ≡ first_element_page + length es
  its_size es size = omega (arith, size, some)

  pub finished_found : (spans : List Span) (spare : List ℕ) (s : Surveyed) → AllRead tells (count - first_element_page) d v spans spare → IsFinished count d spans spare s → IsFound tells count v s.defs.definitions s.space s.free.items
  unfolding its_size
  finished_found spans spare s read finished =
      let listed = all_listed tells (count - first_element_page) d v spans spare read in
      let both = finished.2 read.elements listed in
      let l : Layout = record { definitions = d; element_pages = read.elements } in
      subst (λ (x : Definitions). IsFound tells count v x s.space s.free.items) (sym finished.0)
      (record {
        kept = finished.1;
        layout = λ told. (
          l,
          both.0,
          laid_out count v.page d (pass told) read.elements (its_size read.elements read.size) sound.limits sound.tables (told_pages tells (count - first_element_page) d v read.elements told read.size read.seen) both.1,
        );
      })

  -- and it tells which series have hidden elements
  marked_in : (spans : List Span) (spare : List ℕ) (s : Surveyed) → AllRead tells (count - first_element_page) d v spans spare → IsFinished count d spans spare s → AreMarked spans s.hidden.items
      → IsMarked tells count v s.defs.definitions s.space s.free.items s.hidden.items
  unfolding its_size
  marked_in spans spare s read finished marked =
      let listed = all_listed tells (count - first_element_page) d v spans spare read in
      let both = finished.2 read.elements listed in
      let l : Layout = record { definitions = d; element_pages = read.elements } in
      subst (λ (x : Definitions). IsMarked tells count v x s.space s.free.items s.hidden.items) (sym finished.0)
      (λ told. (
        l,
        both.0,
        laid_out count v.page d (pass told) read.elements (its_size read.elements read.size) sound.limits sound.tables (told_pages tells (count - first_element_page) d v read.elements told read.size read.seen) both.1,
        marked_layout d spans read.elements s.hidden.items read.listed.found marked,
      ))

  pub finished_marked : (spans : List Span) (spare : List ℕ) (r : Result Surveyed SurveyFault) → AllRead tells (count - first_element_page) d v spans spare → IfOk r (IsFinished count d spans spare) → IfOk r (λ s. AreMarked spans s.hidden.items)
      → IfOk r (λ s. IsMarked tells count v s.defs.definitions s.space s.free.items s.hidden.items)
  finished_marked spans spare (Ok s) read finished marked = marked_in spans spare s read finished marked
  finished_marked spans spare (Err e) read finished marked = tt

  pub late_refused : (spans : List Span) (spare : List ℕ) (e : SurveyFault) → AllRead tells (count - first_element_page) d v spans spare → IfRefused e (IsLateBad count d spans spare) → IfRefused e (λ page. IsTrue tells → IsFirstBad count v.page page)
  unfolding its_size
  late_refused spans spare e read refused =
      refused_so e (IsLateBad count d spans spare) (λ page. IsTrue tells → IsFirstBad count v.page page)
      (λ page late told.
      late_bad count v.page d (pass told) read.elements (its_size read.elements read.size) sound.limits sound.tables (told_pages tells (count - first_element_page) d v read.elements told read.size read.seen) page
      (late read.elements (all_listed tells (count - first_element_page) d v spans spare read))) refused

  pub elements_refused : (e : SurveyFault) → IfRefused e (λ page. IsTrue tells → IsLeast (IsBadElement (count - first_element_page) d v.page) page) → IfRefused e (λ page. IsTrue tells → IsFirstBad count v.page page)
  elements_refused e refused =
      refused_so e (λ page. IsTrue tells → IsLeast (IsBadElement (count - first_element_page) d v.page) page) (λ page. IsTrue tells → IsFirstBad count v.page page)
      (λ page least told. element_bad count v.page d (pass told) (omega (arith, some)) page (least told)) refused

  -- whatever the answer is
  pub refused_all : (spans : List Span) (spare : List ℕ) (r : Result Surveyed SurveyFault) → AllRead tells (count - first_element_page) d v spans spare → IfErr r (λ e. IfRefused e (IsLateBad count d spans spare)) → IfErr r (λ e. IfRefused e (λ page. IsTrue tells → IsFirstBad count v.page page))
  refused_all spans spare (Ok s) read refused = tt
  refused_all spans spare (Err e) read refused = late_refused spans spare e read refused

-- what was read of pages that stayed is bad of them as they were
pub bad_before : (tells : Bool) (count : ℕ) (e : SurveyFault) (d : Definitions) (u v : Contents) → Reads tells (Ok (tt {0})) u v → IfRefused e (λ page. IsTrue tells → IsLeast (IsBadElement (count - first_element_page) d v.page) page) → IfRefused e (λ page. IsTrue tells → IsLeast (IsBadElement (count - first_element_page) d u.page) page)
bad_before tells count e d u v first refused =
    refused_so e (λ page. IsTrue tells → IsLeast (IsBadElement (count - first_element_page) d v.page) page) (λ page. IsTrue tells → IsLeast (IsBadElement (count - first_element_page) d u.page) page)
    (λ page least told. subst (λ (p : ℕ → List ℕ). IsLeast (IsBadElement (count - first_element_page) d p) page) (equal_pages u.page v.page (first.pages told)) (least told)) refused

-- what reads nothing more only read
pub finish_reads : (tells : Bool) (r : Result Surveyed SurveyFault) (v w : Contents) → Reads tells (Ok (tt {0})) v w → ¬ IsErrOf r Failed → Reads tells r v w
finish_reads tells r v w reads done = record { count = reads.count; faults = reads.faults; pages = reads.pages; free = reads.free; cause = λ failed. absurd (done failed); no_fault = λ fine. reads.no_fault (λ failed. cc) }
