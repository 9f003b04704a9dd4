-- A slot is read into the definitions before it.
use Rattle.std.specs.Prelude.{All, Any}
use Rattle.std.proofs.Common.{◌≡◌, ◌≢◌, ℕ, zero, suc, ◌+◌, ◌<◌, ◌⊎◌, Option, Some, None, IfSome, IsSome, Ok, Err, List, [], ◌∷◌, ◌++◌, length, length-append, get_or, refl, sym, ap, subst, ◌∙◌, arith, inl, inr}
use Rattle.std.specs.Option.{option_map}
use Rattle.std.proofs.lemmas.List.Elements.{All-push}
use Rattle.std.proofs.lemmas.List.Quantifiers.{Any-push, all_pairs_push}
use Rattle.ts_pattern.specs.Patterns.{Plan}
use Rattle.ts_calendar.specs.Calendars.{IsValid}
use Rattle.ts_model.specs.declared.kind.Kind.{Kind}
use Rattle.ts_model.specs.declared.kind.Kind.TheVariants as kinds
use Rattle.ts_model.specs.declared.def.Def.{Def}
use Rattle.ts_model.specs.declared.def.Def.TheVariants as defs
use Rattle.ts_model.specs.Definitions.{Definitions, PatternDef, CalendarDef, kind_of, limit, of_pattern, of_calendar, at_slot, def_at, references, pattern_reference, with_slot}
use Rattle.ts_slots.specs.declared.calendar_slot.CalendarForm.{CalendarForm}
use Rattle.ts_slots.specs.declared.slot.Written.{Written}
use Rattle.ts_slots.specs.declared.slot.Written.TheVariants.{Whole, Form}
use Rattle.ts_slots.specs.Written.{form_of, written_of, kind_written, name_written, written_bytes}
use Rattle.ts_slots.specs.Reading.{IsWrittenWith}
use Rattle.ts_slots.proofs.WrittenLemmas.{kind_same, bytes_same, whole}
use Rattle.ts_layout.specs.Slot.{slot_bytes}
use Rattle.ts_layout.specs.Meaning.{IsDef, Follows}
use Rattle.ts_layout.specs.Rank.{rank}
use Rattle.ts_layout.specs.Changed.{KeepsCalendarRules}
use Rattle.ts_layout.proofs.CallerLemmas.{own, slot_filled, at_slot-map, slot_written, this_or_other, apart_by_rank, as_written}
use Rattle.ts_volume.specs.FirstBad.{Repeats, Dangles, HavePatterns}
use Rattle.ts_container.specs.declared.found.Broken.{Broken}
use Rattle.ts_container.specs.declared.found.Found.{Found}
use Rattle.ts_container.specs.declared.found.Found.TheVariants as found
use Rattle.ts_container.specs.Reading.{IsFilledAmong, AreFilledAmong, AreBroken, IsReadTo, IsBrokenIn, IsLeftOut, AreOfVolume, IsWrittenAt, IsSlot, StandsFor, IsTakenAmong, Completes, Admitted, SlotRead, filled, references_written}
use Rattle.ts_container.proofs.FilledLemmas.{filled_same, filled_other, read_more, read_on}
use Rattle.ts_container.proofs.CompleteLemmas.{one_calendar}
use Rattle.ts_container.proofs.SettledLemmas.{StandsThere, stands_there, there_is, repeats, not_repeated, dangles, not_dangling, references_same}

-- what is filled stays so with more
some_more : (d e : Definitions) (broken more : List Broken) → ((kind : Kind) (slot : ℕ) → IsSome (def_at kind slot d) → IsSome (def_at kind slot e)) → ((slot : ℕ) → Any (λ b. b.slot ≡ slot) broken → Any (λ b. b.slot ≡ slot) more)
    → (targets : List (Kind × ℕ)) → AreFilledAmong d broken targets → AreFilledAmong e more targets
some_more d e broken more defs listed [] filled = tt
some_more d e broken more defs listed (t ∷ targets) (inl some, rest) = (inl (defs t.0 t.1 some), some_more d e broken more defs listed targets rest)
some_more d e broken more defs listed (t ∷ targets) (inr (calendar, there), rest) = (inr (calendar, listed t.1 there), some_more d e broken more defs listed targets rest)

-- a listed calendar stays listed
any_longer : {A : Type 0} (P : A → Type 0) (xs : List A) (y : A) → Any P xs → Any P (xs ++ y ∷ [])
any_longer P xs y (k, x, within, is, holds) = (k, x, omega (arith, within, length-append xs (y ∷ [])), before xs y k x within is, holds) where
  before : {A : Type 0} (xs : List A) (y : A) (k : ℕ) (x : A) → k < length xs → get_or xs k x ≡ x → get_or (xs ++ y ∷ []) k x ≡ x
  before [] y k x within is = absurd (omega (arith, within))
  before (z ∷ xs) y zero x within is = is
  before (z ∷ xs) y (suc k) x within is = before xs y k x (omega (arith, within)) is

-- the pattern of a calendar that was completed
plan_some : (o : Option PatternDef) (p : PatternDef) (q : Plan) → o ≡ Some p → option_map (λ (x : PatternDef). x.pattern) o ≡ Some q → q ≡ p.pattern
plan_some None p q is has = absurd (cc)
plan_some (Some x) p q is has = cc

plan_here : (o : Option PatternDef) (q : Plan) → option_map (λ (x : PatternDef). x.pattern) o ≡ Some q → (p : PatternDef) × (o ≡ Some p)
plan_here None q has = absurd (cc)
plan_here (Some x) q has = (x, refl)

-- a pattern as the table has it
pattern_stands : (d : Definitions) (slot : ℕ) (p : PatternDef) → at_slot slot d.patterns ≡ Some p → def_at kinds.Pattern slot d ≡ Some (of_pattern p)
pattern_stands d slot p there = at_slot-map of_pattern slot d.patterns ∙ ap (option_map of_pattern) there

pattern_own : (d : Definitions) (slot : ℕ) (p : PatternDef) → def_at kinds.Pattern slot d ≡ Some (of_pattern p) → (q : PatternDef) × (at_slot slot d.patterns ≡ Some q) × (q.pattern ≡ p.pattern)
pattern_own d slot p is = let its = own of_pattern slot d.patterns (of_pattern p) is in (its.0, its.1, (let e = its.2 in cc))

-- no slot was read into a place of a rank that wasn't reached, or what was read is one more
module _ (format reached : ℕ) (kind : Kind) (slot : ℕ) (within : slot < limit kind) (at : rank kind slot ≡ reached) where
  lower : (kind' : Kind) (slot' : ℕ) → rank kind' slot' < reached + 1 → rank kind' slot' ≢ rank kind slot → rank kind' slot' < reached
  lower kind' slot' below other = omega (arith, below, other, at)

  -- what was found of a volume's definitions with one more that is settled: it is the same there, or left out
  of_more : (d e s : Definitions) (broken more : List Broken) → AreOfVolume reached d broken s → ((def_at kind slot e ≡ def_at kind slot s) ⊎ IsLeftOut e more kind slot)
      → ((kind' : Kind) (slot' : ℕ) → slot' < limit kind' → rank kind' slot' ≢ rank kind slot → def_at kind' slot' e ≡ def_at kind' slot' d) → ((n : ℕ) → Any (λ b. b.slot ≡ n) broken → Any (λ b. b.slot ≡ n) more)
      → All (IsBrokenIn s) more → ((Repeats kind slot s ⊎ Dangles kind slot s) → ⊥) → AreOfVolume (reached + 1) e more s
  of_more d e s broken more of here others longer all settled = record {
    same = λ kind' slot' within' below. elim (this_or_other kind kind' slot slot' within within') [
      | inl same ↦ subst (λ (p : Kind × ℕ). (def_at p.0 p.1 e ≡ def_at p.0 p.1 s) ⊎ IsLeftOut e more p.0 p.1) (λ i. (sym same.0 i, sym same.1 i)) here
      | inr other ↦ elim (of.same kind' slot' within' (lower kind' slot' below other)) [
        | inl alike ↦ inl (others kind' slot' within' other ∙ alike)
        | inr out ↦ inr (record { calendar = out.calendar; listed = longer slot' out.listed; empty = others kind' slot' within' other ∙ out.empty })
      ]
    ];
    listed = all;
    resolved = λ kind' slot' within' below flaw. elim (this_or_other kind kind' slot slot' within within') [
      | inl same ↦ settled (subst (λ (p : Kind × ℕ). Repeats p.0 p.1 s ⊎ Dangles p.0 p.1 s) (λ i. (same.0 i, same.1 i)) flaw)
      | inr other ↦ of.resolved kind' slot' within' (lower kind' slot' below other) flaw
    ];
  }

  -- definitions with one more that is settled
  module _ (d : Definitions) (broken : List Broken) (read : IsReadTo format reached d broken) where
    empty_here : def_at kind slot d ≡ None
    empty_here = read.read.empty kind slot (omega (arith, at))

    broken_on : AreBroken (reached + 1) broken
    broken_on = record {
      below = λ k b inside. let low = read.listed.below k b inside in omega (arith, low);
      within = read.listed.within;
      rising = read.listed.rising;
    }

    -- nothing more
    pub read_nothing : IsReadTo format (reached + 1) d broken
    unfolding broken_on
    read_nothing = record { read = read_on format reached (reached + 1) d (omega arith) read.read; there = read.there; listed = broken_on }

    -- a definition
    pub read_def : (def : Def) → kind_of def ≡ kind → IsDef format def → KeepsCalendarRules def d → AreFilledAmong d broken (references def) → IsReadTo format (reached + 1) (with_slot kind slot (Some def) d) broken
    unfolding broken_on empty_here
    read_def def kinded is keeps there = record {
      read = read_more format kind slot reached (Some def) d within at (kinded, is) keeps read.read;
      there = λ kind' slot' def' within' here. elim (this_or_other kind kind' slot slot' within within') [
        | inl same ↦
            let own : Some def' ≡ Some def = sym here ∙ (λ i. def_at (same.0 i) (same.1 i) (with_slot kind slot (Some def) d)) ∙ put_here in
            let e : def' ≡ def = cc in
            subst (λ (x : Def). AreFilledAmong (with_slot kind slot (Some def) d) broken (references x)) (sym e) (stay (references def) there)
        | inr other ↦ stay (references def') (read.there kind' slot' def' within' (sym (filled_other kind kind' slot slot' (Some def) d (apart_by_rank kind kind' slot slot' other)) ∙ here))
      ];
      listed = broken_on;
    } where
      put_here : def_at kind slot (with_slot kind slot (Some def) d) ≡ Some def
      put_here = filled_same format kind slot (Some def) d (kinded, is) (omega (arith, within, read.read.sizes kind)) empty_here

      some_other : (kind' : Kind) (slot' : ℕ) → IsSome (def_at kind' slot' d) → rank kind' slot' ≢ rank kind slot
      some_other kind' slot' some same =
          let one = there_is (def_at kind' slot' d) some in
          none_or (def_at kind' slot' d) one.0 (read.read.empty kind' slot' (omega (arith, same, at))) one.1 where
            none_or : (o : Option Def) (a : Def) → o ≡ None → o ≡ Some a → ⊥
            none_or o a none some = cc

      stay : (targets : List (Kind × ℕ)) → AreFilledAmong d broken targets → AreFilledAmong (with_slot kind slot (Some def) d) broken targets
      stay = some_more d (with_slot kind slot (Some def) d) broken broken
          (λ kind' slot' some. subst IsSome (sym (filled_other kind kind' slot slot' (Some def) d (apart_by_rank kind kind' slot slot' (some_other kind' slot' some)))) some) (λ n listed. listed)

    -- a calendar that breaks a rule
    pub read_broken : (name : List ℕ) → kind ≡ kinds.Calendar → IsReadTo format (reached + 1) d (broken ++ record { slot = slot; name = name } ∷ [])
    unfolding broken_on
    read_broken name calendar =
        let b : Broken = record { slot = slot; name = name } in
        let own : rank kinds.Calendar slot ≡ reached = ap (λ (k : Kind). rank k slot) (sym calendar) ∙ at in
        record {
          read = read_on format reached (reached + 1) d (omega arith) read.read;
          there = λ kind' slot' def' within' here. some_more d d broken (broken ++ b ∷ []) (λ k n some. some) (λ n listed. any_longer (λ (x : Broken). x.slot ≡ n) broken b listed) (references def') (read.there kind' slot' def' within' here);
          listed = record {
            below = All-push (λ (x : Broken). rank kinds.Calendar x.slot < reached + 1) broken b broken_on.below (omega (arith, own));
            within = All-push (λ (x : Broken). x.slot < limit kinds.Calendar) broken b read.listed.within (subst (λ (k : Kind). slot < limit k) calendar within);
            rising = all_pairs_push (λ (x y : Broken). x.slot < y.slot) broken b read.listed.rising (λ k x inside. let low = read.listed.below k x inside in omega (arith, low, own));
          };
        }

    -- what pages hold of a volume
    module _ (s : Definitions) (of : AreOfVolume reached d broken s) (patterns : HavePatterns s) where
      -- a pattern of a lower slot is the volume's
      same_plan : (i : ℕ) (p : PatternDef) → i < 256 → 64 + i < reached → at_slot i d.patterns ≡ Some p → (q : PatternDef) × (at_slot i s.patterns ≡ Some q) × (q.pattern ≡ p.pattern)
      same_plan i p low below there =
          elim (of.same kinds.Pattern i low below) [
            | inl same ↦ pattern_own s i p (sym same ∙ pattern_stands d i p there)
            | inr out ↦ absurd (let no = out.calendar in cc)
          ]

      -- so a calendar of the volume follows the patterns that were read
      follows_here : (c : CalendarDef) → at_slot slot s.calendars ≡ Some c → kind ≡ kinds.Calendar → IfSome c.by (λ n. n < 256) → AreFilledAmong d broken (pattern_reference c.by) → Follows d.patterns c
      unfolding same_plan
      follows_here c there calendar low filled n by =
          of_target (subst (λ (o : Option ℕ). IfSome o (λ n. n < 256)) by low) (subst (λ (o : Option ℕ). AreFilledAmong d broken (pattern_reference o)) by filled).0 where
            own_rank : rank kinds.Calendar slot ≡ reached
            own_rank = ap (λ (k : Kind). rank k slot) (sym calendar) ∙ at

            of_target : n < 256 → IsFilledAmong d broken (kinds.Pattern, n) → option_map (λ (p : PatternDef). p.pattern) (at_slot n d.patterns) ≡ Some c.calendar.pattern
            of_target within' (inl some) =
                let one = there_is (def_at kinds.Pattern n d) some in
                let p = own of_pattern n d.patterns one.0 one.1 in
                let q = same_plan n p.0 within' (omega (arith, within', own_rank)) p.1 in
                ap (option_map (λ (x : PatternDef). x.pattern)) p.1 ∙ ap (λ (x : Plan). Some x) (sym (patterns slot n c q.0 there by q.1 ∙ q.2))
            of_target within' (inr (wrong, listed)) = absurd (cc)

      -- what was completed is what stands there in the volume
      same_def : (def def' : Def) → written_of def' ≡ written_of def → def_at kind slot s ≡ Some def → kind_of def ≡ kind → IsDef format def → KeepsCalendarRules def' d → AreFilledAmong d broken (references def) → def' ≡ def
      same_def def def' written there kinded is keeps filled = of_def def def' refl refl where
        two_kinds : kind_of def' ≡ kind_of def
        two_kinds = sym (kind_same def') ∙ ap kind_written written ∙ kind_same def

        of_whole : (kind_of def ≡ kinds.Calendar → ⊥) → def' ≡ def
        of_whole other =
            let e : Whole def' ≡ Whole def = sym (whole def' (λ calendar. other (sym two_kinds ∙ calendar))) ∙ written ∙ whole def other in
            cc

        of_def : (x x' : Def) → def ≡ x → def' ≡ x' → def' ≡ def
        of_def (defs.Calendar n c by) (defs.Calendar n' c' by') first second =
            let calendar : kind ≡ kinds.Calendar = sym kinded ∙ ap kind_of first in
            let stands = own of_calendar slot s.calendars (defs.Calendar n c by) ((λ i. def_at (sym calendar i) slot s) ∙ there ∙ ap (λ x. Some x) first) in
            let names : stands.0.name ≡ n = (let e = stands.2 in cc) in
            let plans : stands.0.calendar ≡ c = (let e = stands.2 in cc) in
            let bys : stands.0.by ≡ by = (let e = stands.2 in cc) in
            let same : stands.0 ≡ record { name = n; calendar = c; by = by } = λ i. record { name = names i; calendar = plans i; by = bys i } in
            let follows = follows_here (record { name = n; calendar = c; by = by }) (stands.1 ∙ ap (λ x. Some x) same) calendar (subst (IsDef format) first is).by (subst (λ (x : Def). AreFilledAmong d broken (references x)) first filled) in
            let follows' = (subst (λ (x : Def). KeepsCalendarRules x d) second keeps).1 in
            second ∙ one_calendar d.patterns n n' c c' by by' (let e : written_of (defs.Calendar n' c' by') ≡ written_of (defs.Calendar n c by) = ap written_of (sym second) ∙ written ∙ ap written_of first in cc) follows follows' ∙ sym first
        of_def (defs.Calendar n c by) (defs.RowType n' k) first second = absurd (let e = ap kind_of (sym second) ∙ two_kinds ∙ ap kind_of first in cc)
        of_def (defs.Calendar n c by) (defs.Pattern n' p) first second = absurd (let e = ap kind_of (sym second) ∙ two_kinds ∙ ap kind_of first in cc)
        of_def (defs.Calendar n c by) (defs.Container n' r q) first second = absurd (let e = ap kind_of (sym second) ∙ two_kinds ∙ ap kind_of first in cc)
        of_def (defs.Calendar n c by) (defs.Series n' k r) first second = absurd (let e = ap kind_of (sym second) ∙ two_kinds ∙ ap kind_of first in cc)
        of_def (defs.RowType n k) x first second = of_whole (λ calendar. let e = sym (ap kind_of first) ∙ calendar in let no : ⊥ = cc in no)
        of_def (defs.Pattern n p) x first second = of_whole (λ calendar. let e = sym (ap kind_of first) ∙ calendar in let no : ⊥ = cc in no)
        of_def (defs.Container n r q) x first second = of_whole (λ calendar. let e = sym (ap kind_of first) ∙ calendar in let no : ⊥ = cc in no)
        of_def (defs.Series n k r) x first second = of_whole (λ calendar. let e = sym (ap kind_of first) ∙ calendar in let no : ⊥ = cc in no)

      -- one that breaks a rule does in the volume
      is_broken : (def : Def) (form : CalendarForm) → written_of def ≡ Form form → def_at kind slot s ≡ Some def → kind_of def ≡ kind → IsDef format def → AreFilledAmong d broken (references def)
          → ((c : CalendarDef) → form_of c ≡ form → Follows d.patterns c → IsValid c.calendar → ⊥) → IsBrokenIn s (record { slot = slot; name = form.name })
      is_broken def form written there kinded is filled breaks = of_def def refl where
        of_def : (x : Def) → def ≡ x → IsBrokenIn s (record { slot = slot; name = form.name })
        of_def (defs.Calendar n c by) first =
            let calendar : kind ≡ kinds.Calendar = sym kinded ∙ ap kind_of first in
            let stands = own of_calendar slot s.calendars (defs.Calendar n c by) ((λ i. def_at (sym calendar i) slot s) ∙ there ∙ ap (λ x. Some x) first) in
            let names : stands.0.name ≡ n = (let e = stands.2 in cc) in
            let plans : stands.0.calendar ≡ c = (let e = stands.2 in cc) in
            let bys : stands.0.by ≡ by = (let e = stands.2 in cc) in
            let same : stands.0 ≡ record { name = n; calendar = c; by = by } = λ i. record { name = names i; calendar = plans i; by = bys i } in
            let own' : CalendarDef = record { name = n; calendar = c; by = by } in
            let is_there : at_slot slot s.calendars ≡ Some own' = stands.1 ∙ ap (λ x. Some x) same in
            let follows = follows_here own' is_there calendar (subst (IsDef format) first is).by (subst (λ (x : Def). AreFilledAmong d broken (references x)) first filled) in
            let forms : form_of own' ≡ form = (let e : written_of (defs.Calendar n c by) ≡ Form form = ap written_of (sym first) ∙ written in cc) in
            record { c = own'; there = is_there; named = ap (λ (f : CalendarForm). f.name) forms; breaks = breaks own' forms follows }
        of_def (defs.RowType n k) first = absurd (let e = ap written_of (sym first) ∙ written in cc)
        of_def (defs.Pattern n p) first = absurd (let e = ap written_of (sym first) ∙ written in cc)
        of_def (defs.Container n r q) first = absurd (let e = ap written_of (sym first) ∙ written in cc)
        of_def (defs.Series n k r) first = absurd (let e = ap written_of (sym first) ∙ written in cc)

-- an empty slot is empty in the volume
empty_there : (format : ℕ) (kind : Kind) (slot : ℕ) (bytes : List ℕ) (s : Definitions) → bytes ≡ slot_bytes kind None → IsWrittenAt format kind slot bytes s → def_at kind slot s ≡ None
empty_there format kind slot bytes s empty at = of_slot (def_at kind slot s) (slot_written format format kind (def_at kind slot s) None at.is tt (sym at.held ∙ empty)) where
  of_slot : (o : Option Def) → option_map as_written o ≡ None → o ≡ None
  of_slot None none = refl
  of_slot (Some x) none = absurd (cc)

none_twice : (kind : Kind) (slot : ℕ) (s : Definitions) → def_at kind slot s ≡ None → (Repeats kind slot s ⊎ Dangles kind slot s) → ⊥
none_twice kind slot s none (inl twice) = let there = twice.there in none_or (def_at kind slot s) twice.second none there where
  none_or : (o : Option Def) (a : Def) → o ≡ None → o ≡ Some a → ⊥
  none_or o a none some = cc
none_twice kind slot s none (inr dangling) = let there = dangling.there in none_or (def_at kind slot s) dangling.def none there where
  none_or : (o : Option Def) (a : Def) → o ≡ None → o ≡ Some a → ⊥
  none_or o a none some = cc

-- nothing is read of an empty slot
pub empty_read : (format : ℕ) (kind : Kind) (slot : ℕ) (bytes : List ℕ) (d : Definitions) (broken : List Broken) → slot < limit kind → bytes ≡ slot_bytes kind None → IsReadTo format (rank kind slot) d broken
    → SlotRead format kind slot bytes (d, broken) (d, broken) found.Good
empty_read format kind slot bytes d broken within empty read = (
  (None, tt, empty),
  read_nothing format (rank kind slot) kind slot within refl d broken read,
  λ s at of.
      let none = empty_there format kind slot bytes s empty at in
      of_more format (rank kind slot) kind slot within refl d d s broken broken of (inl (read.read.empty kind slot (omega arith) ∙ sym none)) (λ kind' slot' within' other. refl) (λ n listed. listed) of.listed (none_twice kind slot s none),
)

-- the bytes of what is written are those of a slot
pub is_slot : (format : ℕ) (kind : Kind) (bytes : List ℕ) (w : Written) → IsWrittenWith format kind bytes w → StandsFor format w → IsSlot format kind bytes
is_slot format kind bytes w read stands =
    let one = stands read.limits in (
      Some one.0,
      (sym (kind_same one.0) ∙ ap kind_written one.2 ∙ read.of_kind, one.1),
      read.is ∙ ap written_bytes (sym one.2) ∙ bytes_same one.0 ∙ sym (slot_filled kind one.0),
    )

module _ (format : ℕ) (kind : Kind) (slot : ℕ) (bytes : List ℕ) (w : Written) (d : Definitions) (broken : List Broken) (within : slot < limit kind) (written : IsWrittenWith format kind bytes w) (stands : StandsFor format w)
    (same : d.format ≡ format) (read : IsReadTo format (rank kind slot) d broken) where
  unresolved_read : (new : Definitions × List Broken) → Admitted kind slot w (d, broken) new found.Unresolved → SlotRead format kind slot bytes (d, broken) new found.Unresolved
  unresolved_read new flaw = (
    is_slot format kind bytes w written stands,
    λ s at of.
        let here = stands_there format kind slot bytes w s written at in
        elim flaw [
          | inl taken ↦ inl (repeats format (rank kind slot) d broken s read of kind slot w within refl here taken)
          | inr lacks ↦ inr (dangles format (rank kind slot) d broken s read of kind slot w within refl here lacks)
        ],
  )

  -- what was settled among those before is so in a volume
  settled_there : (s : Definitions) → AreOfVolume (rank kind slot) d broken s → (IsTakenAmong d broken kind (name_written w) → ⊥) → AreFilledAmong d broken (references_written w) → (here : StandsThere format kind slot w s)
      → (Repeats kind slot s ⊎ Dangles kind slot s) → ⊥
  settled_there s of new filled here (inl twice) = not_repeated format (rank kind slot) d broken s read of kind slot w within refl here new twice
  settled_there s of new filled here (inr dangling) = not_dangling format (rank kind slot) d broken s read of kind slot w within refl here filled dangling

  references_of : (def : Def) → written_of def ≡ w → AreFilledAmong d broken (references_written w) → AreFilledAmong d broken (references def)
  references_of def is filled = subst (AreFilledAmong d broken) (ap references_written (sym is) ∙ references_same def) filled

  def_read : (def : Def) → (IsTakenAmong d broken kind (name_written w) → ⊥) → AreFilledAmong d broken (references_written w) → Completes d w (Ok def) → SlotRead format kind slot bytes (d, broken) (with_slot kind slot (Some def) d, broken) found.Good
  def_read def new filled done =
      let kinded : kind_of def ≡ kind = sym (kind_same def) ∙ ap kind_written done.1 ∙ written.of_kind in
      let is : IsDef format def = subst (λ (n : ℕ). IsDef n def) same done.0 in (
        is_slot format kind bytes w written stands,
        read_def format (rank kind slot) kind slot within refl d broken read def kinded is done.2 (references_of def done.1 filled),
        λ s at of.
            let here = stands_there format kind slot bytes w s written at in
            let one = same_def format (rank kind slot) kind slot within refl d broken read s of at.patterns here.def def (done.1 ∙ here.written) here.there here.kinded here.is done.2 (references_of here.def (sym here.written) filled) in
            of_more format (rank kind slot) kind slot within refl d (with_slot kind slot (Some def) d) s broken broken of
            (inl (filled_same format kind slot (Some def) d (kinded, is) (omega (arith, within, read.read.sizes kind)) (read.read.empty kind slot (omega arith)) ∙ ap (λ x. Some x) one ∙ sym here.there))
            (λ kind' slot' within' other. filled_other kind kind' slot slot' (Some def) d (apart_by_rank kind kind' slot slot' other)) (λ n listed. listed) of.listed
            (settled_there s of new filled here),
      )

  broken_read : (name : List ℕ) → (IsTakenAmong d broken kind (name_written w) → ⊥) → AreFilledAmong d broken (references_written w) → Completes d w (Err name) → SlotRead format kind slot bytes (d, broken) (d, broken ++ record { slot = slot; name = name } ∷ []) found.Good
  broken_read name new filled done =
      let form = done.0 in
      let b : Broken = record { slot = slot; name = name } in
      let calendar : kind ≡ kinds.Calendar = sym written.of_kind ∙ ap kind_written done.1 in (
        is_slot format kind bytes w written stands,
        read_broken format (rank kind slot) kind slot within refl d broken read name calendar,
        λ s at of.
            let here = stands_there format kind slot bytes w s written at in
            let wrong = is_broken format (rank kind slot) kind slot within refl d broken read s of at.patterns here.def form (sym here.written ∙ done.1) here.there here.kinded here.is (references_of here.def (sym here.written) filled) done.3 in
            of_more format (rank kind slot) kind slot within refl d d s broken (broken ++ b ∷ []) of
            (inr (record { calendar = calendar; listed = Any-push (λ (x : Broken). x.slot ≡ slot) broken b refl; empty = read.read.empty kind slot (omega arith) }))
            (λ kind' slot' within' other. refl) (λ n listed. any_longer (λ (x : Broken). x.slot ≡ n) broken b listed)
            (All-push (IsBrokenIn s) broken b of.listed (subst (λ (n : List ℕ). IsBrokenIn s (record { slot = slot; name = n })) (sym done.2) wrong))
            (settled_there s of new filled here),
      )

  -- what was put into a slot, or not, was read
  pub slot_read : (g : Found) (new : Definitions × List Broken) → Admitted kind slot w (d, broken) new g → SlotRead format kind slot bytes (d, broken) new g
  unfolding unresolved_read def_read broken_read
  slot_read found.Bad new put = absurd put
  slot_read found.Unresolved new put = unresolved_read new put
  slot_read found.Good new (settled, (Ok def, done, put)) =
      subst (λ (p : Definitions × List Broken). SlotRead format kind slot bytes (d, broken) p found.Good) (λ i. (sym put.0 i, sym put.1 i)) (def_read def settled.0 settled.1 done)
  slot_read found.Good new (settled, (Err name, done, put)) =
      subst (λ (p : Definitions × List Broken). SlotRead format kind slot bytes (d, broken) p found.Good) (λ i. (sym put.0 i, sym put.1 i)) (broken_read name settled.0 settled.1 done)
