-- Element pages that are read into a list, and what is found of them.
use Rattle.std.specs.Prelude.{◌≡◌, ℕ, ◌+◌, ◌<◌, Bool, IsTrue, Option, Some, List, ◌++◌, length, slice_get, Result, OnOk}
use Rattle.std.specs.Prelude.{IfErr, IsErrOf}
use Rattle.ts_page.specs.Pages.{first_element_page, Contents}
use Rattle.ts_model.specs.Definitions.{Definitions}
use Rattle.ts_layout.specs.Meaning.{ElementPage, element_page, HoldsElements}
use Rattle.ts_container.specs.declared.content.Content.{Content}
use Rattle.ts_container.specs.declared.elements.Elements.{Elements}
use Rattle.ts_container.specs.declared.fault.SurveyFault.{SurveyFault}
use Rattle.ts_container.specs.declared.fault.SurveyFault.TheVariants.{Failed}
use Rattle.ts_container.specs.Elements.{IsContentOf, Listed}
use Rattle.ts_container.specs.Survey.{Reads, IfRefused}
use Rattle.ts_check.specs.declared.page_list.PageRead.{PageRead}

-- the pages of a list have numbers that follow one another, from a number on
abbrev pub AreNumbered : ℕ → List PageRead → Type 0
AreNumbered first list = (place : ℕ) (read : PageRead) → slice_get list place ≡ Some read → read.number ≡ first + place

-- where pages are told, those of a list have the bytes of their numbers
abbrev pub AreBytesOf : Bool → Contents → List PageRead → Type 0
AreBytesOf tells v list =
    (place : ℕ) (read : PageRead) → slice_get list place ≡ Some read → IsTrue tells
    → read.page.bytes ≡ v.page read.number

-- pages are read into a list, from a number on
pub record ListRead (tells : Bool) (first : ℕ) (list : List PageRead) (result : Result Unit SurveyFault)
    (v w : Contents) : Type 0 where
  pub call : Reads tells result v w
  pub numbers : OnOk result (AreNumbered first list)
  pub bytes : OnOk result (AreBytesOf tells v list)
  pub refused : IfErr result (λ e. IfRefused e (λ page. ⊥))

-- for each page of a list this was found of it
abbrev pub AreAnswers : Definitions → List PageRead → List (Option Content) → Type 0
AreAnswers d list answers =
    (place : ℕ) (read : PageRead) (answer : Option Content) → slice_get list place ≡ Some read → slice_get answers place
    ≡ Some answer
    → IsContentOf d read.number read.page.bytes answer

-- each of the first pages of a list is free or has a sheet, and stands behind what was found before
pub record AllAdded (d : Definitions) (list : List PageRead) (count : ℕ) (old new : Elements) : Type 0 where
  pub elements : List ElementPage
  pub size : length elements ≡ count
  pub held : (place : ℕ) (read : PageRead) → place < count → slice_get list place ≡ Some read
      → HoldsElements d read.page.bytes (element_page place elements)
  pub listed : (before : List ElementPage) → AreNumbered (first_element_page + length before) list
      → Listed d old.spans.items old.free.items before → Listed d new.spans.items new.free.items (before ++ elements)

-- of the pages of a list this is the first that is neither free nor has a sheet
pub record IsFirstBadIn (d : Definitions) (list : List PageRead) (page : ℕ) : Type 0 where
  pub place : ℕ
  pub read : PageRead
  pub there : slice_get list place ≡ Some read
  pub number : page ≡ read.number
  pub bad : (e : ElementPage) → HoldsElements d read.page.bytes e → ⊥
  pub before : (lower : ℕ) (other : PageRead) → lower < place → slice_get list lower ≡ Some other
      → (e : ElementPage) × HoldsElements d other.page.bytes e

-- the pages of a list are judged, and what they have is added
pub record ListAdded (d : Definitions) (list : List PageRead) (result : Result Unit SurveyFault)
    (old new : Elements) : Type 0 where
  pub added : OnOk result (AllAdded d list (length list) old new)
  pub refused : IfErr result (λ e. IfRefused e (λ page. IsFirstBadIn d list page))
  pub cause : IsErrOf result Failed → ⊥
