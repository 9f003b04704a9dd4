use Rattle.std.proofs.Common.{◌≡◌, Option, Some, None}
use Rattle.ts_model.specs.Definitions.{CalendarDef}
use Rattle.ts_layout.specs.Slot.{def_bytes}
use Rattle.ts_layout.proofs.CallerLemmas.{calendars_only}
use Rattle.ts_slots.specs.declared.slot.Written.{Written}
use Rattle.ts_slots.specs.declared.slot.Written.TheVariants.{Form}
use Rattle.ts_slots.specs.Written.{form_of, written_of}
use Rattle.ts_slots.proofs.ParseLemmas.{one, none_some}
use Rattle.ts_slots.proofs.slot.parse_form.Goals as goal

pub returns-in-Some-clause-found : goal.returns-in-Some-clause-found
returns-in-Some-clause-found c =
    λ format. calendars_only format (λ def. c.args.bytes.now ≡ def_bytes def → ◌≡◌ {A = Option Written} (Some (Form c.in-Some.form)) (Some (written_of def))) (λ name calendar by is bytes.
    let d : CalendarDef = record { name = name; calendar = calendar; by = by } in
    let same = one c.in_ok-form.field-0 c.in-Some.form (form_of d) c.in-Some.is (c.in_ok-form.ensures d is bytes) in
    λ i. Some (Form (same i)))

pub returns-in-None-clause-found : goal.returns-in-None-clause-found
returns-in-None-clause-found c =
    λ format. calendars_only format (λ def. c.args.bytes.now ≡ def_bytes def → ◌≡◌ {A = Option Written} None (Some (written_of def))) (λ name calendar by is bytes.
    none_some c.in_ok-form.field-0 (form_of (record { name = name; calendar = calendar; by = by })) c.in-None.is (c.in_ok-form.ensures (record { name = name; calendar = calendar; by = by }) is bytes))
