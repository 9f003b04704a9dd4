-- What commands say of patterns, and what is found for them.
use Rattle.std.specs.Prelude.{◌≡◌, ◌<◌, ℕ, List, Option, Some, IfSome, option_map, Result, Ok}
use Rattle.ts_base.specs.declared.fault.Trouble.{Trouble}
use Rattle.ts_pattern.specs.declared.junction.Junction.{Junction}
use Rattle.ts_pattern.specs.declared.junction.Junction.TheVariants.{And, Or}
use Rattle.ts_pattern.specs.Patterns.{Plan}
use Rattle.ts_calendar.specs.declared.text.PatternPart.{PatternPart}
use Rattle.ts_calendar.specs.Calendars.{calendar_text}
use Rattle.ts_command.specs.declared.command.Command.{Command}
use Rattle.ts_command.specs.declared.command.Command.TheVariants.{AndPatterns, OrPatterns, AndCalendars, OrCalendars}
use Rattle.ts_model.specs.declared.kind.Kind.{Kind}
use Rattle.ts_model.specs.declared.def.Def.{Def}
use Rattle.ts_model.specs.Catalogue.{In, with_named}
use Rattle.ts_model.specs.Definitions.{Definitions, CalendarDef, pattern_slots, at_slot}
use Rattle.ts_layout.specs.Meaning.{Layout, catalogue_of, text_of}
use Rattle.ts_answer.specs.Decided.{DefinesAs}
use Rattle.ts_answer.specs.Reply.{ok_line}
use Rattle.ts_answer.specs.Tried.{IsTried}

-- the command that joins two patterns
abbrev pub join_of_patterns : Junction → List ℕ → List ℕ → List ℕ → Command
join_of_patterns And name first second = AndPatterns name first second
join_of_patterns Or name first second = OrPatterns name first second

-- the command that joins two calendars
abbrev pub join_of_calendars : Junction → List ℕ → List ℕ → List ℕ → Command
join_of_calendars And name first second = AndCalendars name first second
join_of_calendars Or name first second = OrCalendars name first second

-- where there is a slot, it has this pattern
abbrev pub IsPatternBy : Option ℕ → Plan → Definitions → Type 0
IsPatternBy by pattern d = IfSome by (λ slot. (slot < pattern_slots)
    × (option_map (λ p. p.pattern) (at_slot slot d.patterns) ≡ Some pattern))

-- The pattern that the text of a calendar gives: the one in the slot of the name there, or its own. A calendar that has
-- it so has this text.
pub record IsGivenPattern (part : PatternPart) (l : Layout) (found : Plan × Option ℕ) (pattern : Plan) : Type 0 where
  pub same : found.0 ≡ pattern
  pub by : IsPatternBy found.1 found.0 l.definitions
  pub text : (c : CalendarDef) → c.calendar.pattern ≡ found.0 → c.by ≡ found.1 → text_of l.definitions c
      ≡ calendar_text c.calendar.start c.calendar.patt_start part

-- what is decided puts this under a name of a kind
abbrev pub IsMade : (kind : Kind) → List ℕ → In kind → Layout → Result (ℕ × Option Def) Trouble → Type 0
IsMade kind name value l decided =
    IsTried decided (Ok (ok_line, with_named kind name value (catalogue_of l)))
    (λ change answered. DefinesAs kind change.0 change.1 l answered)
