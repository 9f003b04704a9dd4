-- What a checker holds of a script.
use Rattle.std.specs.Prelude.{◌≡◌, ℕ, ◌+◌, ◌<◌, ◌^◌, Bool, true, false, ◌||◌, ◌≤◌, codes, IsTrue, List, [], ◌∷◌, ◌++◌}
use Rattle.std.specs.Prelude.{length, Option, Some, None, Result, Ok, Err, OnOk, IsErrOf}
use Rattle.ts_disk.specs.Device.{Rose}
use Rattle.ts_base.specs.declared.refusal.Refusal.{Refusal}
use Rattle.ts_base.specs.declared.refusal.Refusal.TheVariants as refusals
use Rattle.ts_items.specs.Items.{place_from, is_unended_at}
use Rattle.ts_items.specs.Reader.{item_of}
use Rattle.ts_items.specs.declared.reader.Cut.{Cut}
use Rattle.ts_items.specs.declared.reader.Cut.TheVariants as cuts
use Rattle.ts_text.specs.Phrase.{unblanked}
use Rattle.ts_command.specs.Grammar.{request_of}
use Rattle.ts_command.specs.declared.command.Command.{Command}
use Rattle.ts_syntax.specs.Places.{IsBehind}
use Rattle.ts_syntax.specs.Mistakes.{Mistake, text_at, mistakes_from, mistakes_of}
use Rattle.ts_syntax.specs.Output.{Heard}
use Rattle.ts_syntax.specs.Lines.{SaysAll, SaysFirst}
use Rattle.ts_syntax.specs.declared.checker.Checker.{Checker}
use Rattle.ts_syntax.specs.declared.checker.CheckFault.{CheckFault}
use Rattle.ts_syntax.specs.declared.checker.CheckFault.TheVariants.{Output}

-- Behind the first part of a script, which ends with these bytes of a statement: it keeps them but for the blanks in
-- front, and knows where they begin and end.
pub record Stands (front text : List ℕ) (checker : Checker) : Type 0 where
  pub kept : checker.text ≡ unblanked text
  pub start : List ℕ
  pub whole : front ≡ start ++ checker.text
  pub begin : IsBehind start checker.begin
  pub end : IsBehind front checker.end

-- the first part of a script was read
pub record HasRead (front : List ℕ) (checker : Checker) : Type 0 where
  pub place : checker.reader.place ≡ place_from (Some []) front
  pub stands : Stands front (text_at checker.reader.place) checker

-- some first part of a script was read, and so many bytes more can be
abbrev pub IsReading : Checker → ℕ → Type 0
IsReading checker more = (front : List ℕ) × (length front + more < 2 ^ 32) × HasRead front checker

-- bytes were read that end no item, or an item that a cut ends
abbrev pub Reads : List ℕ → List ℕ → Option Cut → Checker → Checker → Type 0
Reads front bytes None e f = HasRead (front ++ bytes) f × (mistakes_from front e.reader.place bytes ≡ [])
Reads front bytes (Some cut) e f =
    let text = text_at e.reader.place ++ bytes in
    Stands (front ++ bytes) text f × (f.reader.place ≡ place_from (Some []) (front ++ bytes))
    × (text_at f.reader.place ≡ [])
    × (mistakes_from front e.reader.place bytes ≡ mistakes_of (front ++ bytes) text (request_of (item_of cut text)))

-- an item ended, or a statement that isn't blank goes on
abbrev pub shows_at : Option Cut → Option (List ℕ) → Bool
shows_at None place = is_unended_at place
shows_at (Some cut) place = true

-- there is one at least
abbrev pub are_some : List Mistake → Bool
are_some [] = false
are_some (mistake ∷ mistakes) = true

-- the place, if the grammar refuses the bytes
abbrev pub refused_at : Result Command ℕ → Option ℕ
refused_at (Ok command) = None
refused_at (Err place) = Some place

-- the place of a Syntax
abbrev pub syntax_place : Refusal → Option ℕ
syntax_place (refusals.Syntax place) = Some place
syntax_place other = None

-- the place that is told: of a statement without an end where it is refused, and else its end
abbrev pub told_at : Cut → ℕ → Option ℕ → Option ℕ
told_at cut size (Some place) = Some place
told_at cuts.Statement size None = None
told_at cuts.TooLong size None = Some size
told_at cuts.Unended size None = Some size

-- the name of a refusal, by how the item ends
abbrev pub name_of : Cut → List ℕ
name_of cuts.Statement = codes "Syntax"
name_of cuts.TooLong = codes "TooLong"
name_of cuts.Unended = codes "Unended"

-- These mistakes are told, or the first of them, where a fault ends it. `f` and `g` say whether any was told before and
-- behind it.
pub record Told {T : Type 0} (tells : Bool) (mistakes : List Mistake) (result : Result T CheckFault) (f g : Bool)
    (v w : Heard) : Type 0 where
  pub all : OnOk result (IsTrue tells → SaysAll mistakes v.said w.said)
  pub first : IsTrue tells → SaysFirst mistakes v.said w.said
  pub found : OnOk result (g ≡ (f || are_some mistakes))
  pub output : IsErrOf result Output → Rose v.say_faults w.say_faults
  pub no_fault : ¬ IsErrOf result Output → w.say_faults ≡ v.say_faults
  pub say_faults : v.say_faults ≤ w.say_faults
