-- The element pages as they are read.
use Rattle.std.specs.Prelude.{◌≡◌, ℕ, ◌+◌, ◌-◌, ◌<◌, ◌≤◌, Bool, IsTrue, Option, Some, None, Result, IfOk, IfErr, List}
use Rattle.std.specs.Prelude.{[], ◌∷◌, length}
use Rattle.ts_page.specs.declared.page.Head.{Head}
use Rattle.ts_page.specs.declared.page.Head.TheVariants as heads
use Rattle.ts_page.specs.Pages.{first_element_page, Contents}
use Rattle.ts_model.specs.Definitions.{Definitions}
use Rattle.ts_container.specs.declared.content.Content.{Content}
use Rattle.ts_container.specs.declared.content.Content.TheVariants as content
use Rattle.ts_container.specs.declared.elements.Elements.{Elements}
use Rattle.ts_container.specs.declared.fault.SurveyFault.{SurveyFault}
use Rattle.ts_container.specs.declared.span.Span.{Span}
use Rattle.ts_layout.specs.Meaning.{ElementPage, Free, element_page, HoldsElements, IsSound}
use Rattle.ts_layout.specs.Surveyed.{free_from}
use Rattle.ts_container.specs.Spans.{span_on, spans_from}
use Rattle.ts_container.specs.declared.surveyed.Surveyed.{Surveyed}
use Rattle.ts_container.specs.Survey.{Reads, IfRefused, IsSurveyOf, IsFirstLate}
use Rattle.ts_volume.specs.FirstBad.{IsLeast}
use Rattle.ts_layout.specs.Placed.{AreKept}

-- what is found of the page of a number tells what stands on it
abbrev pub Describes : Definitions → ℕ → Content → ElementPage → Type 0
Describes d number content.Free e = e ≡ Free
Describes d number (content.Series span) e = span_on d number e ≡ span ∷ []

-- this is found of the page of a number, where it is free or has a sheet; else nothing
abbrev pub IsContentOf : Definitions → ℕ → List ℕ → Option Content → Type 0
IsContentOf d number page (Some content) = (e : ElementPage) × HoldsElements d page e × Describes d number content e
IsContentOf d number page None = (e : ElementPage) → HoldsElements d page e → ⊥

-- the slot of the series that the head of a page tells
abbrev pub slot_in : Option Head → Option ℕ
slot_in None = None
slot_in (Some heads.Free) = None
slot_in (Some (heads.Regular slot count base)) = Some slot
slot_in (Some (heads.Irregular slot count)) = Some slot

-- what was found of the pages: the spans of those of series, and the free ones
pub record Listed (d : Definitions) (spans : List Span) (free : List ℕ) (es : List ElementPage) : Type 0 where
  pub found : spans ≡ spans_from d first_element_page es
  pub spare : free ≡ free_from first_element_page es

-- the bytes that were read of a page hold this; where the pages are told, they are the page's
abbrev pub IsReadAs : Bool → Contents → Definitions → ℕ → ElementPage → Type 0
IsReadAs tells v d number e = (bytes : List ℕ) × HoldsElements d bytes e × (IsTrue tells → v.page number ≡ bytes)

-- an element page that is none of these definitions, in a volume with so many pages
abbrev pub IsBadElement : ℕ → Definitions → (ℕ → List ℕ) → ℕ → Type 0
IsBadElement count d pages number = (first_element_page ≤ number) × (number < first_element_page + count)
    × ((e : ElementPage) → HoldsElements d (pages number) e → ⊥)

-- all element pages were read, so many
pub record AllRead (tells : Bool) (count : ℕ) (d : Definitions) (v : Contents) (spans : List Span)
    (free : List ℕ) : Type 0 where
  pub elements : List ElementPage
  pub size : length elements ≡ count
  pub listed : Listed d spans free elements
  pub seen : (j : ℕ) → j < count → IsReadAs tells v d (first_element_page + j) (element_page j elements)

-- the call that reads them
pub record ElementsRead (tells : Bool) (count : ℕ) (d : Definitions) (result : Result Elements SurveyFault)
    (v w : Contents) : Type 0 where
  pub call : Reads tells result v w
  pub read : IfOk result (λ x. AllRead tells count d v x.spans.items x.free.items)
  pub refused : IfErr result (λ e. IfRefused e (λ page. IsTrue tells → IsLeast (IsBadElement count d v.page) page))

-- so many element pages hold what was found of them, each in some bytes
pub record AreListed (count : ℕ) (d : Definitions) (spans : List Span) (free : List ℕ)
    (es : List ElementPage) : Type 0 where
  pub size : length es ≡ count
  pub listed : Listed d spans free es
  pub held : (j : ℕ) → j < length es → (bytes : List ℕ) × HoldsElements d bytes (element_page j es)

-- some do
abbrev pub AreElements : ℕ → Definitions → List Span → List ℕ → Type 0
AreElements count d spans free = (es : List ElementPage) × AreListed count d spans free es

-- What was found of the element pages is finished: it keeps its rules, and is what the layout of each such pages has,
-- which keeps the rules.
abbrev pub IsFinished : ℕ → Definitions → List Span → List ℕ → Surveyed → Type 0
IsFinished count d spans free s =
    (s.defs.definitions ≡ d) × AreKept d s.space s.free.items count
    × ((es : List ElementPage) → AreListed (count - first_element_page) d spans free es
    → IsSurveyOf d s.space s.free.items (record { definitions = d; element_pages = es })
    × IsSound (record { definitions = d; element_pages = es }))

-- in the layout of each such pages this is the page that the first of the last steps with a bad page finds
abbrev pub IsLateBad : ℕ → Definitions → List Span → List ℕ → ℕ → Type 0
IsLateBad count d spans free page =
    (es : List ElementPage) → AreListed (count - first_element_page) d spans free es
    → IsFirstLate (record { definitions = d; element_pages = es }) page
