use Rattle.std.proofs.Common.{ℕ, ◌≡◌, Some, List, take, drop, ap, ◌∙◌}
use Rattle.ts_cells.specs.IrregularPage.{stamp_bytes}
use Rattle.ts_layout.specs.Slot.{name_bytes, calendar_bytes}
use Rattle.ts_model.specs.Definitions.{CalendarDef}
use Rattle.ts_layout.specs.Meaning.{IsCalendarDef}
use Rattle.ts_layout.proofs.CallerLemmas.{length-name, calendar_name, calendar_start, calendar_patt_start, behind_starts}
use Rattle.ts_slots.specs.Written.{form_of}
use Rattle.ts_slots.proofs.ParseLemmas.{one, none_some}
use Rattle.ts_slots.proofs.calendar_slot.parse_calendar.Goals as goal

-- the fields of a calendar's page
name_there : (page : List ℕ) (d : CalendarDef) → IsCalendarDef d → page ≡ calendar_bytes d.name d.calendar d.by → take 33 (drop 1 page) ≡ name_bytes d.name
name_there page d is bytes = ap (λ (l : List ℕ). take 33 (drop 1 l)) bytes ∙ calendar_name d.name d.calendar d.by (length-name d.name is.name)

start_there : (page : List ℕ) (d : CalendarDef) → IsCalendarDef d → page ≡ calendar_bytes d.name d.calendar d.by → take 8 (drop 34 page) ≡ stamp_bytes d.calendar.start
start_there page d is bytes = ap (λ (l : List ℕ). take 8 (drop 34 l)) bytes ∙ calendar_start d.name d.calendar d.by (length-name d.name is.name)

patt_start_there : (page : List ℕ) (d : CalendarDef) → IsCalendarDef d → page ≡ calendar_bytes d.name d.calendar d.by → take 8 (drop 42 page) ≡ stamp_bytes d.calendar.patt_start
patt_start_there page d is bytes = ap (λ (l : List ℕ). take 8 (drop 42 l)) bytes ∙ calendar_patt_start d.name d.calendar d.by (length-name d.name is.name)

pub returns-in_default : goal.returns-in_default
returns-in_default c = λ d is bytes. none_some c.in_ok-name.field-0 d.name c.in_default.is (c.in_ok-name.ensures d.name is.name (name_there c.args.page.now d is bytes))

pub returns-in_default-parse_stamp : goal.returns-in_default-parse_stamp
returns-in_default-parse_stamp c = λ d is bytes.
    none_some c.parse_stamp.result d.calendar.start c.in_default-parse_stamp.is (c.parse_stamp.ensures d.calendar.start is.start (start_there c.args.page.now d is bytes))

pub returns-in_default-parse_stamp-2 : goal.returns-in_default-parse_stamp-2
returns-in_default-parse_stamp-2 c = λ d is bytes.
    none_some c.parse_stamp-2.result d.calendar.patt_start c.in_default-parse_stamp-2.is (c.parse_stamp-2.ensures d.calendar.patt_start is.patt_start (patt_start_there c.args.page.now d is bytes))

pub returns-in_default-2 : goal.returns-in_default-2
returns-in_default-2 c = λ d is bytes.
    none_some c.in_ok-part.field-0 (form_of d).part c.in_default-2.is (c.in_ok-part.ensures d.calendar.pattern d.by is.runs (behind_starts c.args.page.now d.name d.calendar d.by is bytes))

pub returns : goal.returns
returns c = λ d is bytes.
    let name = one c.in_ok-name.field-0 _ d.name c.in-Some.is (c.in_ok-name.ensures d.name is.name (name_there c.args.page.now d is bytes)) in
    let start = one c.parse_stamp.result _ d.calendar.start c.in-Some-parse_stamp.is (c.parse_stamp.ensures d.calendar.start is.start (start_there c.args.page.now d is bytes)) in
    let patt_start = one c.parse_stamp-2.result _ d.calendar.patt_start c.in-Some-parse_stamp-2.is (c.parse_stamp-2.ensures d.calendar.patt_start is.patt_start (patt_start_there c.args.page.now d is bytes)) in
    let part = one c.in_ok-part.field-0 _ (form_of d).part c.in-Some-2.is (c.in_ok-part.ensures d.calendar.pattern d.by is.runs (behind_starts c.args.page.now d.name d.calendar d.by is bytes)) in
    λ i. Some (record { name = name i; start = start i; patt_start = patt_start i; part = part i })
