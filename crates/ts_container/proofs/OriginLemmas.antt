-- The one interval that can start at a stamp, and the first series whose origin is no on start.
use Rattle.std.proofs.Common.{◌≡◌, ℕ, ◌<◌, Option, Some, None, IsSome, refl, sym, subst, arith, inl, inr, ℤ, ◌<ℤ◌}
use Rattle.std.specs.Option.{IfSome}
use Rattle.std.proofs.lemmas.Bool.{cases_lt}
use Rattle.std.proofs.lemmas.Int.{by_lt_z, ints}
use Rattle.ts_calendar.specs.Calendars.{CalendarPlan, start_at, IsAround}
use Rattle.ts_offset.specs.Grid.{IsOnStart}
use Rattle.ts_model.specs.declared.kind.Kind.TheVariants as kinds
use Rattle.ts_model.specs.Definitions.{Definitions, CalendarDef, SeriesDef, at_slot}
use Rattle.ts_layout.specs.Slot.{page_of_slot}
use Rattle.ts_layout.specs.Meaning.{IsOnCalendar}
use Rattle.ts_volume.specs.FirstBad.{IsLeast, IsAstray}

there_is : (o : Option ℤ) → IsSome o → (s : ℤ) × (o ≡ Some s)
there_is None some = absurd (cc)
there_is (Some s) some = (s, refl)

-- an interval that starts at a stamp is the one around it
pub starts_around : (c : CalendarPlan) (s k j : ℤ) → ((i j a b : ℤ) → i <ℤ j → start_at c i ≡ Some a → start_at c j ≡ Some b → a <ℤ b) → IsAround c s k → start_at c j ≡ Some s → j ≡ k
starts_around c s k j rising around is =
    by_lt_z j k
    (λ lt.
    let there = there_is (start_at c k) (around.here j (omega (arith, ints, lt)) (some_there (start_at c j) s is)) in
    let low = around.early k there.0 (omega (arith, ints)) there.1 in
    let high = rising j k s there.0 lt is there.1 in
    absurd (omega (arith, ints, low, high)))
    (λ ge. by_lt_z k j
    (λ lt. let later = around.late j s lt is in absurd (omega (arith, ints, later)))
    (λ le. omega (arith, ints, ge, le)))
  where
    some_there : (o : Option ℤ) (s : ℤ) → o ≡ Some s → IsSome o
    some_there None s is = absurd (cc)
    some_there (Some t) s is = refl

-- the origin of the series in a slot is an on start
abbrev HasOriginAt : Definitions → ℕ → Type 0
HasOriginAt d slot = (s : SeriesDef) → at_slot slot d.series ≡ Some s → IfSome s.regular (IsOnCalendar d)

-- the first that isn't has the least page
pub least_astray : (d : Definitions) (slot page : ℕ) → slot < 4096 → page ≡ page_of_slot kinds.Series slot → ((k : ℕ) → k < slot → HasOriginAt d k) → (HasOriginAt d slot → ⊥) → IsLeast (IsAstray d) page
least_astray d slot page within is before astray = record {
  has = of_series (at_slot slot d.series) refl;
  least = λ other found. elim (cases_lt found.slot slot) [
    | inl less ↦ absurd (found.astray (subst (λ (o : Option (ℕ × ℤ)). IfSome o (IsOnCalendar d)) found.lies (before found.slot less found.s found.there) found.c found.calendar))
    | inr past ↦ let at = found.page in omega (arith, is, at, past)
  ];
} where
  one_of : {A : Type 0} (o : Option A) (a b : A) → o ≡ Some a → o ≡ Some b → a ≡ b
  one_of o a b first second = cc

  none_of : {A : Type 0} (o : Option A) (a : A) → o ≡ None → o ≡ Some a → ⊥
  none_of o a none some = cc

  of_calendar : (s : SeriesDef) (regular : ℕ × ℤ) → at_slot slot d.series ≡ Some s → s.regular ≡ Some regular → (o : Option CalendarDef) → at_slot regular.0 d.calendars ≡ o → IsAstray d page
  of_calendar s regular there lies None none =
      absurd (astray (λ s' there'. subst (λ (x : SeriesDef). IfSome x.regular (IsOnCalendar d)) (one_of (at_slot slot d.series) s s' there there')
      (subst (λ (o : Option (ℕ × ℤ)). IfSome o (IsOnCalendar d)) (sym lies) (λ c calendar. absurd (none_of (at_slot regular.0 d.calendars) c none calendar)))))
  of_calendar s regular there lies (Some c) some = record {
    slot = slot;
    s = s;
    regular = regular;
    c = c;
    within = within;
    there = there;
    lies = lies;
    calendar = some;
    page = is;
    astray = λ on. astray (λ s' there'. subst (λ (x : SeriesDef). IfSome x.regular (IsOnCalendar d)) (one_of (at_slot slot d.series) s s' there there')
        (subst (λ (o : Option (ℕ × ℤ)). IfSome o (IsOnCalendar d)) (sym lies) (λ c' calendar. subst (λ (x : CalendarDef). IsOnStart x.calendar regular.1) (one_of (at_slot regular.0 d.calendars) c c' some calendar) on)));
  }

  of_regular : (s : SeriesDef) → at_slot slot d.series ≡ Some s → (o : Option (ℕ × ℤ)) → s.regular ≡ o → IsAstray d page
  of_regular s there None none =
      absurd (astray (λ s' there'. subst (λ (x : SeriesDef). IfSome x.regular (IsOnCalendar d)) (one_of (at_slot slot d.series) s s' there there') (subst (λ (o : Option (ℕ × ℤ)). IfSome o (IsOnCalendar d)) (sym none) tt)))
  of_regular s there (Some regular) some = of_calendar s regular there some (at_slot regular.0 d.calendars) refl

  of_series : (o : Option SeriesDef) → at_slot slot d.series ≡ o → IsAstray d page
  of_series None none = absurd (astray (λ s there. absurd (none_of (at_slot slot d.series) s none there)))
  of_series (Some s) some = of_regular s some s.regular refl
