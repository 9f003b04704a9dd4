-- The calls that read pages, over what a keeper of pages means.
pub use Rattle.ts_slots.specs.Writing.{SlotWritten, HeaderWritten}
use Rattle.std.specs.Prelude.{◌≡◌, ℕ, ◌-◌, ◌<◌, ◌≤◌, ◌⊎◌, Bool, IsTrue, Result, IfOk, IfErr, OnOk, IsErrOf, List, []}
use Rattle.std.specs.Prelude.{◌∷◌, Any, Vec, true, false, slice_index_or}
use Rattle.ts_disk.specs.Device.{Rose}
use Rattle.ts_page.specs.Pages.{first_element_page, Contents, EqualPages}
use Rattle.ts_model.specs.declared.kind.Kind.TheVariants as kinds
use Rattle.ts_model.specs.declared.defs.Defs.{Defs}
use Rattle.ts_model.specs.Definitions.{Definitions}
use Rattle.ts_space.specs.Directory.{Directory}
use Rattle.ts_container.specs.declared.fault.SurveyFault.{SurveyFault}
use Rattle.ts_container.specs.declared.fault.SurveyFault.TheVariants.{NotAStore, Failed, Memory}
use Rattle.ts_layout.specs.Slot.{first_definition_page, page_of_slot}
use Rattle.ts_row.specs.Row.{has_hidden}
use Rattle.ts_layout.specs.Sheets.{Sheet}
use Rattle.ts_layout.specs.Meaning.{Layout, Cells, element_page, sum_of_quotas, HaveOrigins, AreSound, IsLaidOut}
use Rattle.ts_layout.specs.Surveyed.{ListsPlaces, free_pages}
use Rattle.ts_layout.specs.Chains.{AreFilled}
use Rattle.ts_layout.specs.Placed.{AreKept}
use Rattle.ts_layout.specs.Rank.{all_slots}
use Rattle.ts_container.specs.declared.found.Broken.{Broken}
use Rattle.ts_container.specs.Reading.{IsReadTo, AreOfVolume, AreWritten}
use Rattle.ts_volume.specs.FirstBad.{Step, Header, Slots, Names, Rules, Grants, Overlaps, Neighbours, Charges, HasNone}
use Rattle.ts_volume.specs.FirstBad.{IsLeast, HoldsSlots, AreSaid, IsUnresolved, IsOvergranted, IsAstray, IsOverlap}
use Rattle.ts_volume.specs.FirstBad.{IsSparse, IsOvercharged, Finds, IsFirstIn, IsFirstBad}

-- what a call that only reads pages leaves, and when it fails
pub record Reads {T : Type 0} (tells : Bool) (result : Result T SurveyFault) (v w : Contents) : Type 0 where
  pub count : w.count ≡ v.count
  pub faults : v.faults ≤ w.faults
  pub pages : IsTrue tells → EqualPages v.page w.page
  pub free : w.free ≡ v.free
  pub cause : IsErrOf result Failed → Rose v.faults w.faults
  -- any other answer leaves the count
  pub no_fault : ¬ IsErrOf result Failed → w.faults ≡ v.faults

-- the page that a verdict tells is this; other errors say nothing
abbrev pub IfRefused : SurveyFault → (ℕ → Type 0) → Type 0
IfRefused (NotAStore page) P = P page
IfRefused Failed P = Unit {0}
IfRefused (Memory error) P = Unit {0}

-- a page is read
pub record PageGot (tells : Bool) (number : ℕ) (into : List ℕ) (result : Result Unit SurveyFault)
    (v w : Contents) : Type 0 where
  pub call : Reads tells result v w
  pub read : OnOk result (IsTrue tells → into ≡ v.page number)
  pub refused : IfErr result (λ e. IfRefused e (λ page. ⊥))

-- all definition pages of a volume of a format are pages of definitions
abbrev pub HoldAllSlots : ℕ → (ℕ → List ℕ) → Type 0
HoldAllSlots format pages = (number : ℕ) → first_definition_page ≤ number → number < first_element_page
    → HoldsSlots format pages number

-- what was read of the definition pages: all pages are such, and whatever definitions a volume has, these were read
pub record AreKnown (format : ℕ) (pages : ℕ → List ℕ) (d : Definitions) (broken : List Broken) : Type 0 where
  pub slots : HoldAllSlots format pages
  pub of_volume : (s : Definitions) → AreWritten format pages s → AreOfVolume all_slots d broken s

-- a definition page that is none, in a volume of a format
abbrev pub IsNoDefinitionPage : ℕ → (ℕ → List ℕ) → ℕ → Type 0
IsNoDefinitionPage format pages number = (first_definition_page ≤ number) × (number < first_element_page)
    × (HoldsSlots format pages number → ⊥)

-- the least page that is none, or where all are, the least of a definition that has the name of a lower slot or refers
-- to an empty one, whatever definitions the volume has
abbrev pub IsBadDefinition : ℕ → (ℕ → List ℕ) → ℕ → Type 0
IsBadDefinition format pages number =
    IsLeast (IsNoDefinitionPage format pages) number
    ⊎ (HoldAllSlots format pages × ((s : Definitions) → AreWritten format pages s → IsLeast (IsUnresolved s) number))

-- all definition pages of a volume of a format are read
pub record DefinitionsRead {A : Type 0} (tells : Bool) (format : ℕ) (result : Result (Vec Broken A) SurveyFault)
    (d : Definitions) (v w : Contents) : Type 0 where
  pub call : Reads tells result v w
  pub read : IfOk result (λ broken. IsReadTo format all_slots d broken.items)
  pub known : IfOk result (λ broken. IsTrue tells → AreKnown format v.page d broken.items)
  pub refused : IfErr result (λ e. IfRefused e (λ page. IsTrue tells → IsBadDefinition format v.page page))

-- all definition pages from some number on are pages of definitions, or the least that isn't is told
pub record PagesJudged (tells : Bool) (format first : ℕ) (result : Result Unit SurveyFault)
    (v w : Contents) : Type 0 where
  pub call : Reads tells result v w
  pub all : OnOk result (IsTrue tells → (number : ℕ) → first ≤ number → number < first_element_page
      → HoldsSlots format v.page number)
  pub refused : IfErr result (λ e. IfRefused e (λ page. IsTrue tells
      → IsLeast (λ number. (first ≤ number) × IsNoDefinitionPage format v.page number) page))

-- what was found is what a layout has
pub record IsSurveyOf (d : Definitions) (space : Directory) (spare : List ℕ) (l : Layout) : Type 0 where
  pub definitions : d ≡ l.definitions
  pub places : ListsPlaces space l
  pub free : spare ≡ free_pages l
  pub filled : AreFilled l

-- What was found of the pages, so many in all: it keeps its rules on every keeper of pages, and where the pages are
-- told it is what a layout has that keeps the rules and that they hold.
pub record IsFound (tells : Bool) (count : ℕ) (v : Contents) (d : Definitions) (space : Directory)
    (free : List ℕ) : Type 0 where
  pub kept : AreKept d space free count
  pub layout : IsTrue tells → (l : Layout) × IsSurveyOf d space free l × IsLaidOut count v.page l

-- no element of a series whose slot isn't marked is hidden
abbrev pub TellsHidden : List Bool → Layout → Type 0
TellsHidden marks l =
    (i slot : ℕ) (sheet : Sheet) → element_page i l.element_pages ≡ Cells slot sheet
    → slice_index_or marks slot true ≡ false → has_hidden sheet.1 ≡ false

-- where the pages are told, so it is in a layout that was found of them
abbrev pub IsMarked : Bool → ℕ → Contents → Definitions → Directory → List ℕ → List Bool → Type 0
IsMarked tells count v d space free marks =
    IsTrue tells → (l : Layout) × IsSurveyOf d space free l × IsLaidOut count v.page l × TellsHidden marks l

-- the page of a calendar that breaks a rule
abbrev pub IsPageOfBroken : List Broken → ℕ → Type 0
IsPageOfBroken broken page = Any (λ b. page ≡ page_of_slot kinds.Calendar b.slot) broken

-- the page of containers, where their quotas are too much together, or that of a series whose origin is no on start
abbrev pub IsUngranted : ℕ → Definitions → ℕ → Type 0
IsUngranted count d page = IsOvergranted count d page ⊎ IsAstray d page

-- the quotas fit, and the origins are on starts
pub record AreGranted (count : ℕ) (d : Definitions) : Type 0 where
  pub quotas : sum_of_quotas d.containers ≤ count - first_element_page
  pub origins : HaveOrigins d

-- besides, no calendar breaks a rule
abbrev pub AreRight : ℕ → Definitions → List Broken → Type 0
AreRight count d broken = (broken ≡ []) × AreGranted count d

-- the least page of a calendar that breaks a rule; where there is none, the least page of those
abbrev pub IsWrong : ℕ → Definitions → List Broken → ℕ → Type 0
IsWrong count d broken page = IsLeast (IsPageOfBroken broken) page
    ⊎ ((broken ≡ []) × IsLeast (IsUngranted count d) page)

-- none of some steps finds a bad page
abbrev pub HaveNone : (Step → ℕ → Type 0) → List Step → Type 0
HaveNone F [] = Unit {0}
HaveNone F (step ∷ rest) = HasNone (F step) × HaveNone F rest

-- the steps that judge the header and the definitions, and those that judge what spans element pages
abbrev pub early_steps : List Step
early_steps = Header ∷ Slots ∷ Names ∷ Rules ∷ Grants ∷ []

abbrev pub late_steps : List Step
late_steps = Overlaps ∷ Neighbours ∷ Charges ∷ []

-- the definitions that pages say, and no others; no step before that of element pages finds a bad page
pub record PassDefinitions (count : ℕ) (pages : ℕ → List ℕ) (d : Definitions) : Type 0 where
  pub said : AreSaid count pages d
  pub only : (other : Definitions) → AreSaid count pages other → other ≡ d
  pub none : HaveNone (Finds count pages) early_steps

-- the header and the definitions are read
pub record SoundRead (tells : Bool) (count : ℕ) (result : Result Defs SurveyFault) (v w : Contents) : Type 0 where
  pub call : Reads tells result v w
  pub read : IfOk result (λ x. AreSound (count - first_element_page) x.definitions)
  pub known : IfOk result (λ x. IsTrue tells → PassDefinitions count v.page x.definitions)
  pub refused : IfErr result (λ e. IfRefused e (λ page. IsTrue tells → IsFirstBad count v.page page))

-- what a step finds bad in a layout, where pages say it and it spans element pages
abbrev pub FindsLate : Layout → Step → ℕ → Type 0
FindsLate l Overlaps number = IsOverlap l number
FindsLate l Neighbours number = IsSparse l number
FindsLate l Charges number = IsOvercharged l number
FindsLate l other number = ⊥

-- the page that the first of these steps with a bad page finds
abbrev pub IsFirstLate : Layout → ℕ → Type 0
IsFirstLate l number = IsFirstIn (FindsLate l) late_steps number
