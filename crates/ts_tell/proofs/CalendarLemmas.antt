-- What the routines on calendars say.
use Rattle.std.proofs.Common.{◌≡◌, ℕ, ◌<◌, Some, Ok, List, [], ◌++◌, ap, sym, subst, ◌∙◌}
use Rattle.std.specs.Option.{option_map}
use Rattle.ts_calendar.specs.declared.text.CalendarText.{CalendarText}
use Rattle.ts_space.specs.Directory.{Directory}
use Rattle.ts_model.specs.declared.kind.Kind.TheVariants as kinds
use Rattle.ts_model.specs.Definitions.{Definitions, CalendarDef, at_slot, of_calendar, pattern_reference, calendar_slots}
use Rattle.ts_layout.specs.Meaning.{Layout, IsSound, IsThere, text_of, catalogue_of}
use Rattle.ts_layout.proofs.CallerLemmas.{at_slot-map}
use Rattle.ts_answer.specs.Answer.{Answered}
use Rattle.ts_answer.specs.Reading.{SaysOnly}
use Rattle.ts_answer.specs.Slots.{Stands}
use Rattle.ts_answer.specs.Tried.{IsTried}
use Rattle.ts_answer.specs.View.{IsHeldOf}
use Rattle.ts_answer.proofs.CallerLemmas.{comes}
use Rattle.ts_tell.proofs.SaidLemmas.{says}

-- a text that is said first is the whole reply
pub said_alone : (l : Layout) (old out text wanted : List ℕ) → old ≡ [] → out ≡ old ++ text → text ≡ wanted → IsTried (Ok tt) (let a : Answered = (wanted, catalogue_of l) in Ok a) (SaysOnly out l)
said_alone l old out text wanted empty said same = comes tt _ (says l out wanted (said ∙ (λ i. empty i ++ same i)))

-- the pattern by whose name a calendar was made is there
reference_there : (l : Layout) (slot : ℕ) (c : CalendarDef) → IsSound l → slot < calendar_slots → at_slot slot l.definitions.calendars ≡ Some c → IsThere l.definitions (pattern_reference c.by)
reference_there l slot c sound below here =
    sound.definitions.references kinds.Calendar slot (of_calendar c) below (at_slot-map of_calendar slot l.definitions.calendars ∙ ap (option_map of_calendar) here)

-- the text of a calendar that is found by its name
pub text_found : (d : Definitions) (space : Directory) (count : ℕ) (free : List ℕ) (l : Layout) (name : List ℕ) (slot : ℕ) (text found : CalendarText) → IsHeldOf d space count free l → Stands kinds.Calendar name l slot found
    → ((c : CalendarDef) → at_slot slot d.calendars ≡ Some c → IsThere d (pattern_reference c.by) → text ≡ text_of d c) → text ≡ found
text_found d space count free l name slot text found held there is =
    let c = there.is.0 in
    let own = subst (λ (x : Definitions). (c : CalendarDef) → at_slot slot x.calendars ≡ Some c → IsThere x (pattern_reference c.by) → text ≡ text_of x c) held.definitions is in
    own c there.is.1 (reference_there l slot c held.rules there.at.within there.is.1) ∙ sym there.is.2
