-- What it is to carry out a command on pages. Nothing here speaks of a device, a journal or a commit.
pub use Rattle.ts_page.specs.Unchanged.{Stays}
use Rattle.std.specs.Prelude.{◌≡◌, ℕ, ◌<◌, ◌≤◌, ◌+◌, ◌*◌, Bool, true, false, IsTrue, None, Result, Ok, Err, IfOk, OnOk}
use Rattle.std.specs.Prelude.{IfErr, List, [], length, slice_set, slice_index_or, if◌then◌else◌}
use Rattle.ts_disk.specs.Device.{Rose}
use Rattle.ts_command.specs.declared.command.Command.{Command}
use Rattle.ts_command.specs.declared.command.Command.TheVariants as commands
use Rattle.ts_page.specs.Pages.{Contents}
use Rattle.ts_space.specs.declared.place.Place.{Place}
use Rattle.ts_space.specs.Moved.{moved_to}
use Rattle.ts_space.specs.Directory.{Directory, spare_of}
use Rattle.ts_model.specs.declared.kind.Kind.TheVariants as kinds
use Rattle.ts_model.specs.Definitions.{Definitions, Room, has_room, with_slot, series_slots}
use Rattle.ts_layout.specs.Meaning.{Layout, catalogue_of}
use Rattle.ts_answer.specs.declared.effect.Effect.{Effect}
use Rattle.ts_answer.specs.declared.effect.Effect.TheVariants.{Nothing, Pages, Slot, Places, Series, Whole}
use Rattle.ts_answer.specs.declared.stop.Stop.{Stop}
use Rattle.ts_answer.specs.declared.stop.Stop.TheVariants.{Refused, Failed, Memory}
use Rattle.ts_answer.specs.Answer.{outcome}
use Rattle.ts_command.specs.Boundary.{is_writing}
use Rattle.ts_answer.specs.Decided.{FitsSlot}
use Rattle.ts_answer.specs.View.{View, Shows, KeepsRules}

-- the definitions, and the lists of places, once a command's effect is applied
abbrev pub definitions_after : Effect → Definitions → Definitions
definitions_after Nothing d = d
definitions_after Pages d = d
definitions_after (Slot kind slot def) d = with_slot kind slot def d
definitions_after (Places slot moved) d = d
definitions_after (Series slot) d = with_slot kinds.Series slot None d
definitions_after (Whole tables space) d = tables.value.definitions

abbrev pub lists_after : Effect → List (List Place) → List (List Place)
lists_after Nothing lists = lists
lists_after Pages lists = lists
lists_after (Slot kind slot def) lists = lists
lists_after (Places slot moved) lists = slice_set lists slot (moved_to moved (slice_index_or lists slot []))
lists_after (Series slot) lists = slice_set lists slot []
lists_after (Whole tables space) lists = space.lists

-- what is seen then, on these pages
abbrev pub view_after : Effect → View → Contents → View
view_after effect x c = record {
  definitions = definitions_after effect x.definitions;
  space = record x.space { lists = lists_after effect x.space.lists };
  pages = c;
}

-- the effect can be applied
abbrev pub CanApply : Effect → Definitions → Type 0
CanApply Nothing d = Unit {0}
CanApply Pages d = Unit {0}
CanApply (Slot kind slot def) d = FitsSlot kind slot def d
CanApply (Places slot moved) d = slot < series_slots
CanApply (Series slot) d = slot < series_slots
CanApply (Whole tables space) d = Unit {0}

-- there is no effect
abbrev pub is_nothing : Effect → Bool
is_nothing Nothing = true
is_nothing Pages = false
is_nothing (Slot kind slot def) = false
is_nothing (Places slot moved) = false
is_nothing (Series slot) = false
is_nothing (Whole tables space) = false

-- all that applying it asks for
abbrev pub HasRoom : Effect → Room → Directory → Type 0
HasRoom Nothing room space = Unit {0}
HasRoom Pages room space = Unit {0}
HasRoom (Slot kind slot def) room space = has_room kind room ≡ true
HasRoom (Places slot moved) room space = 2 ≤ spare_of slot space
HasRoom (Series slot) room space = Unit {0}
HasRoom (Whole tables whole) room space = Unit {0}

-- A layout was seen, and by the catalogue of the one that is seen with the effect this is the answer.
pub record Comes (tells : Bool) (command : Command) (effect : Effect) (out : List ℕ) (x : View) (c : Contents)
    (l : Layout) : Type 0 where
  pub layout : Layout
  pub shows : Shows tells (view_after effect x c) layout
  pub comes : IsTrue tells → outcome (Ok command) (catalogue_of l) ≡ Ok (out, catalogue_of layout)

-- the command is carried out by several edits, one behind the other: where one of them is refused, those before it have
-- changed pages
abbrev pub has_parts : Command → Bool
has_parts (commands.RollingPut set stamp literals) = true
has_parts (commands.RollingDrop set) = true
has_parts command = false

-- so much at most a command of one edit adds to the bytes of a record and five for each page in use: four pages, and
-- the numbers of four
abbrev pub most_growth : ℕ
most_growth = 16424

-- So many edits add no more than that each. The pages in use are those that aren't free.
abbrev pub Grows : ℕ → Contents → Contents → Type 0
Grows edits v w = w.change_bytes + 5 * length v.free ≤ v.change_bytes + 5 * length w.free + edits * most_growth

-- what a command adds at most, in such edits: one that drops any number of series writes no more than the 96 pages that
-- slots of series stand on
abbrev pub growth_of : Command → ℕ
growth_of command = if has_parts command then 26 else 1

-- why a command isn't carried out
abbrev pub IsStopped : Bool → Command → Stop → View → Contents → Type 0
IsStopped tells command (Refused refusal) x c =
    (has_parts command ≡ false → Stays tells x.pages c) × (has_parts command ≡ false → Grows 1 x.pages c)
    × (c.faults ≡ x.pages.faults)
    × (IsTrue tells → (l : Layout) → Shows tells x l → outcome (Ok command) (catalogue_of l) ≡ Err refusal)
IsStopped tells command Failed x c = Rose x.pages.faults c.faults
IsStopped tells command (Memory error) x c = c.faults ≡ x.pages.faults

-- A command was carried out on pages, with this reply, or not. What was in memory stays, but for room: its effect isn't
-- applied. Only pages with an effect are to be kept: after all else the caller drops what was changed.
pub record CarriedOut (tells : Bool) (command : Command) (result : Result Effect Stop) (out : List ℕ) (x : View)
    (c : Contents) : Type 0 where
  -- on every keeper of pages, what is in memory keeps its rules with the effect
  pub keeps : IfOk result (λ effect. KeepsRules x → KeepsRules (view_after effect x c))
  -- where the pages are told, from each layout that is seen one comes that is seen with the effect
  pub done : IfOk result (λ effect. IsTrue tells → (l : Layout) → Shows tells x l
      → Comes tells command effect out x c l)
  pub applies : IfOk result (λ effect. CanApply effect x.definitions)
  -- a reading has no effect, and what has none leaves the pages
  pub reads : IfOk result (λ effect. is_writing command ≡ false → is_nothing effect ≡ true)
  pub stays : IfOk result (λ effect. is_nothing effect ≡ true → Stays tells x.pages c)
  pub stopped : IfErr result (λ stop. IsStopped tells command stop x c)
  pub count : c.count ≡ x.pages.count
  pub grows : IfOk result (λ effect. Grows (growth_of command) x.pages c)
  -- only a failed call of the disk raises the count
  pub no_fault : IfOk result (λ effect. c.faults ≡ x.pages.faults)

-- A command that only reads was answered so, or not.
pub record ReadOut (tells : Bool) (command : Command) (result : Result Unit Stop) (out : List ℕ) (x : View)
    (c : Contents) : Type 0 where
  pub said : OnOk result (IsTrue tells → (l : Layout) → Shows tells x l → outcome (Ok command) (catalogue_of l)
      ≡ Ok (out, catalogue_of l))
  pub stopped : IfErr result (λ stop. IsStopped tells command stop x c)
  pub stays : Stays tells x.pages c
  pub count : c.count ≡ x.pages.count
  pub bytes : c.change_bytes ≡ x.pages.change_bytes
  pub no_fault : OnOk result (c.faults ≡ x.pages.faults)
