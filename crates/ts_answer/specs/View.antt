-- What a command sees: the definitions, the places of the pages of each series, and pages, whatever keeps them.
use Rattle.std.specs.Prelude.{◌≡◌, ℕ, ◌+◌, Bool, IsTrue, length}
use Rattle.ts_page.specs.Pages.{Contents, first_element_page}
use Rattle.ts_space.specs.Directory.{Directory}
use Rattle.ts_model.specs.Definitions.{Definitions}
use Rattle.ts_layout.specs.Meaning.{Layout, HoldsLayout, IsSound}
use Rattle.ts_layout.specs.Chains.{AreFilled}
pub use Rattle.ts_layout.specs.Held.{IsHeldOf}
use Rattle.ts_layout.specs.Placed.{AreKept}

pub record View : Type 0 where
  pub definitions : Definitions
  pub space : Directory
  pub pages : Contents

abbrev pub view : Definitions → Directory → Contents → View
view d space c = record { definitions = d; space = space; pages = c }

-- Definitions and a number of pages alone are those of a layout that keeps the rules.
pub record IsDefinedBy (d : Definitions) (count : ℕ) (l : Layout) : Type 0 where
  pub definitions : d ≡ l.definitions
  pub size : count ≡ first_element_page + length l.element_pages
  pub rules : IsSound l
  pub filled : AreFilled l

abbrev pub IsViewOf : View → Layout → Type 0
IsViewOf x l = IsHeldOf x.definitions x.space x.pages.count x.pages.free l

-- a layout is seen: what is in memory is what it has, and where the pages are told, they hold it
pub record Shows (tells : Bool) (x : View) (l : Layout) : Type 0 where
  pub kept : IsViewOf x l
  pub holds : IsTrue tells → HoldsLayout x.pages.page l

-- some layout is seen
abbrev pub ShowsSome : Bool → View → Type 0
ShowsSome tells x = (l : Layout) × Shows tells x l

-- what is in memory keeps its rules, whatever the pages hold
abbrev pub KeepsRules : View → Type 0
KeepsRules x = AreKept x.definitions x.space x.pages.free x.pages.count

-- What is seen of a volume: on every keeper of pages, that what is in memory keeps its rules; and where the pages are
-- told, a layout.
pub record IsSeen (tells : Bool) (x : View) : Type 0 where
  pub kept : KeepsRules x
  pub layout : IsTrue tells → ShowsSome tells x
