-- The first bad page by the header and the definition pages.
use Rattle.std.specs.Prelude.{Any, AllPairs, slice_get}
use Rattle.std.proofs.Common.{◌≡◌, Bool, IsTrue, Ok, Err, Vec, ℕ, zero, suc, get_or, ◌-◌, ◌<◌, ◌≤◌, Option, Some, None, MatchOption, List, [], ◌∷◌, map, length, refl, sym, ap, subst, ◌∙◌, arith, inl, inr}
use Rattle.std.specs.Option.{option_map, IfSome}
use Rattle.ts_calendar.specs.Calendars.{IsValid}
use Rattle.ts_layout.specs.Meaning.{IsThere, IsOnCalendar, HaveOrigins, sum_of_quotas}
use Rattle.std.proofs.lemmas.Bool.{cases_lt}
use Rattle.std.proofs.lemmas.List.{get_or_past, length-map}
use Rattle.ts_model.specs.declared.kind.Kind.{Kind}
use Rattle.ts_model.specs.declared.kind.Kind.TheVariants as kinds
use Rattle.ts_model.specs.Definitions.{Definitions, IsDefinitions, IsFormat, references, limit, KindDef, to_def, from_def, of_calendar, table_of, at_slot, def_at}
use Rattle.ts_model.proofs.PartsLemmas.{all-tables, forth}
use Rattle.ts_layout.specs.Slot.{header_bytes, page_of_slot}
use Rattle.ts_layout.specs.Rank.{all_slots}
use Rattle.ts_layout.proofs.CallerLemmas.{header_format, own, at_slot-map}
use Rattle.ts_volume.specs.FirstBad.{Header, Slots, Names, Rules, Grants, IsLeast, HasNone, HasHeader, HoldsSlots, AreSaid, IsInvalid, IsAstray, Finds, IsFirstBad}
use Rattle.ts_container.specs.declared.found.Broken.{Broken}
use Rattle.ts_container.specs.Reading.{AreFilledAmong, IsReadTo, IsBrokenIn, AreOfVolume, AreWritten}
use Rattle.ts_container.specs.Survey.{Reads, DefinitionsRead, SoundRead, HoldAllSlots, AreKnown, IsBadDefinition, IsPageOfBroken, IsUngranted, AreGranted, AreRight, IsWrong, PassDefinitions}
use Rattle.ts_page.specs.Pages.{Contents, first_element_page}
use Rattle.ts_model.specs.declared.defs.Defs.{Defs}
use Rattle.ts_container.specs.declared.fault.SurveyFault.{SurveyFault}
use Rattle.ts_container.specs.declared.fault.SurveyFault.TheVariants.{NotAStore}
use Rattle.ts_container.proofs.SurveyLemmas.{below_end, reads_more, reads_ok, reads_err, reads_refused, refused_so, equal_pages}
use Rattle.ts_container.proofs.SettledLemmas.{all_of, calendar_stands}
use Rattle.ts_container.proofs.WrittenLemmas.{some_written}

-- tables that are the same slot by slot
same_table : {A : Type 0} (t u : List (Option A)) → length t ≡ length u → ((i : ℕ) → at_slot i t ≡ at_slot i u) → t ≡ u
same_table [] [] long same = refl
same_table [] (p ∷ u) long same = absurd (omega (arith, long))
same_table (o ∷ t) [] long same = absurd (omega (arith, long))
same_table (o ∷ t) (p ∷ u) long same =
    let first : o ≡ p = same 0 in
    let others : t ≡ u = same_table t u (omega (arith, long)) (λ i. same (suc i)) in
    λ j. first j ∷ others j

-- what stands in two tables is the same where it is as definitions
same_one : (kind : Kind) (o p : Option (KindDef kind)) → option_map (to_def kind) o ≡ option_map (to_def kind) p → o ≡ p
same_one kind None None same = refl
same_one kind None (Some b) same = absurd (cc)
same_one kind (Some a) None same = absurd (cc)
same_one kind (Some a) (Some b) same = let e : to_def kind a ≡ to_def kind b = cc in sym (forth kind a) ∙ ap (from_def kind) e ∙ forth kind b

same_in : (kind : Kind) (i : ℕ) (t u : List (Option (KindDef kind))) → at_slot i (map (option_map (to_def kind)) t) ≡ at_slot i (map (option_map (to_def kind)) u) → at_slot i t ≡ at_slot i u
same_in kind i t u same = same_one kind (at_slot i t) (at_slot i u) (sym (at_slot-map (to_def kind) i t) ∙ same ∙ at_slot-map (to_def kind) i u)

-- another header
pub no_header : (count : ℕ) (pages : ℕ → List ℕ) (bytes : List ℕ) → bytes ≡ pages 0 → ((format : ℕ) → IsFormat format → bytes ≡ header_bytes format (count - first_element_page) → ⊥) → IsFirstBad count pages 0
no_header count pages bytes same other = inl (record {
  has = (refl, λ format header. other format header.one (same ∙ header.bytes));
  least = λ number found. omega arith;
})

-- the header of a format
module _ (count format : ℕ) (pages : ℕ → List ℕ) (header : HasHeader count pages format) where
  own_format : (f : ℕ) → HasHeader count pages f → f ≡ format
  own_format f h = header_format f format (count - first_element_page) (count - first_element_page) (sym h.bytes ∙ header.bytes)

  header_none : HasNone (Finds count pages Header)
  header_none number found = found.1 format header

  as_written : (s : Definitions) → AreSaid count pages s → AreWritten format pages s
  unfolding own_format
  as_written s said = record { of_format = own_format s.format said.header; sizes = said.sizes; bytes = said.bytes; limits = said.limits; patterns = said.patterns }

  as_said : (s : Definitions) → AreWritten format pages s → AreSaid count pages s
  as_said s written = record { header = subst (HasHeader count pages) (sym written.of_format) header; sizes = written.sizes; bytes = written.bytes; limits = written.limits; patterns = written.patterns }

  slots_none : HoldAllSlots format pages → HasNone (Finds count pages Slots)
  unfolding own_format
  slots_none all number found = found.bad (subst (λ (f : ℕ). HoldsSlots f pages number) (sym (own_format found.format found.header)) (all number found.low found.high))

  -- a bad definition page
  pub definition_bad : (page : ℕ) → IsBadDefinition format pages page → IsFirstBad count pages page
  unfolding own_format header_none as_written as_said slots_none
  definition_bad page (inl least) = inr (
    header_none,
    inl (record {
      has = record { format = format; header = header; low = least.has.0; high = least.has.1; bad = least.has.2 };
      least = λ other found. least.least other (found.low, found.high, λ holds. found.bad (subst (λ (f : ℕ). HoldsSlots f pages other) (sym (own_format found.format found.header)) holds));
    }),
  )
  definition_bad page (inr (all, unresolved)) =
      let s = some_written format pages all in
      inr (
        header_none,
        inr (
          slots_none all,
          inl (record {
            has = (s.0, as_said s.0 s.1, (unresolved s.0 s.1).has);
            least = λ other (d, said, found). (unresolved d (as_written d said)).least other found;
          }),
        ),
      )

  -- the definitions that were read
  module _ (d : Definitions) (broken : List Broken) (known : AreKnown format pages d broken) (read : IsReadTo format all_slots d broken) where
    of_said : (s : Definitions) → AreSaid count pages s → AreOfVolume all_slots d broken s
    unfolding as_written
    of_said s said = known.of_volume s (as_written s said)

    names_none : HasNone (Finds count pages Names)
    unfolding of_said
    names_none number (s, said, found) = (of_said s said).resolved found.kind found.slot found.within (below_end found.kind found.slot found.within) found.flaw

    -- a calendar of the volume that breaks a rule is listed
    invalid_listed : (s : Definitions) (number : ℕ) → AreSaid count pages s → IsInvalid s number → IsPageOfBroken broken number
    unfolding of_said
    invalid_listed s number said found =
        elim ((of_said s said).same kinds.Calendar found.slot found.within (below_end kinds.Calendar found.slot found.within)) [
          | inl same ↦
              let its = own of_calendar found.slot d.calendars (of_calendar found.c) (same ∙ calendar_stands s found.slot found.c found.there) in
              absurd (found.breaks (let e : its.0.calendar ≡ found.c.calendar = (let f = its.2 in cc) in subst IsValid e (read.read.valid found.slot its.0 its.1)))
          | inr out ↦
              let one = out.listed in
              (one.0, one.1, one.2, one.3, found.page ∙ ap (page_of_slot kinds.Calendar) (sym one.4))
        ]

    rules_bad : (page : ℕ) → IsLeast (IsPageOfBroken broken) page → IsFirstBad count pages page
    unfolding header_none slots_none names_none as_said of_said invalid_listed
    rules_bad page least =
        let s = some_written format pages known.slots in
        let said = as_said s.0 s.1 in
        let b = least.has in
        let one = all_of (IsBrokenIn s.0) broken b.0 b.1 (of_said s.0 said).listed b.2 b.3 in
        inr (
          header_none,
          inr (
            slots_none known.slots,
            inr (
              names_none,
              inl (record {
                has = (
                  s.0,
                  said,
                  record {
                    slot = b.1.slot;
                    c = one.c;
                    within = all_of (λ (x : Broken). x.slot < limit kinds.Calendar) broken b.0 b.1 read.listed.within b.2 b.3;
                    there = one.there;
                    page = b.4;
                    breaks = one.breaks;
                  },
                );
                least = λ other (e, its, found). least.least other (invalid_listed e other its found);
              }),
            ),
          ),
        )

    -- where none is, these are the definitions of the volume
    module _ (none : broken ≡ []) where
      same_def : (s : Definitions) → AreSaid count pages s → (kind : Kind) (slot : ℕ) → slot < limit kind → def_at kind slot d ≡ def_at kind slot s
      unfolding of_said
      same_def s said kind slot within = elim ((of_said s said).same kind slot within (below_end kind slot within)) [
        | inl same ↦ same
        | inr out ↦ absurd (nothing (subst (Any (λ b. b.slot ≡ slot)) none out.listed))
      ] where
        nothing : Any (λ (b : Broken). b.slot ≡ slot) [] → ⊥
        nothing (k, b, inside, is, same) = omega (arith, inside)

      same_slot : (s : Definitions) → AreSaid count pages s → (kind : Kind) (slot : ℕ) → at_slot slot (table_of kind s) ≡ at_slot slot (table_of kind d)
      unfolding same_def
      same_slot s said kind slot = elim (cases_lt slot (limit kind)) [
        | inl within ↦ same_in kind slot (table_of kind s) (table_of kind d) (sym (same_def s said kind slot within))
        | inr past ↦
            get_or_past (table_of kind s) slot None (let size = said.sizes kind in omega (arith, past, size))
            ∙ sym (get_or_past (table_of kind d) slot None (let size = read.read.sizes kind in omega (arith, past, size, length-map (table_of kind d) (option_map (to_def kind)))))
      ]

      only : (s : Definitions) → AreSaid count pages s → s ≡ d
      unfolding same_slot own_format
      only s said =
          all-tables s d (own_format s.format said.header ∙ sym read.read.of_format)
          (λ kind. same_table (table_of kind s) (table_of kind d) (said.sizes kind ∙ sym (read.read.sizes kind) ∙ length-map (table_of kind d) (option_map (to_def kind))) (same_slot s said kind))

      they_said : AreSaid count pages d
      unfolding only as_said
      they_said = let s = some_written format pages known.slots in let said = as_said s.0 s.1 in subst (AreSaid count pages) (only s.0 said) said

      rules_none : HasNone (Finds count pages Rules)
      unfolding invalid_listed
      rules_none number (s, said, found) = nothing (subst (λ (bs : List Broken). IsPageOfBroken bs number) none (invalid_listed s number said found)) where
        nothing : IsPageOfBroken [] number → ⊥
        nothing (k, b, inside, is, same) = omega (arith, inside)

      grants_bad : (page : ℕ) → IsLeast (IsUngranted count d) page → IsFirstBad count pages page
      unfolding header_none slots_none names_none rules_none they_said only
      grants_bad page least = inr (
        header_none,
        inr (
          slots_none known.slots,
          inr (
            names_none,
            inr (
              rules_none,
              inl (record {
                has = (d, they_said, least.has);
                least = λ other (s, said, found). least.least other (subst (λ (x : Definitions). IsUngranted count x other) (only s said) found);
              }),
            ),
          ),
        ),
      )

      grants_none : AreGranted count d → HasNone (Finds count pages Grants)
      unfolding only
      grants_none right number (s, said, found) = of_found (subst (λ (x : Definitions). IsUngranted count x number) (only s said) found) where
        of_found : IsUngranted count d number → ⊥
        of_found (inl over) = let more = over.more in let most = right.quotas in omega (arith, more, most)
        of_found (inr astray) =
            astray.astray
            (subst (λ o. IfSome o (IsOnCalendar d)) astray.lies (right.origins astray.slot astray.s astray.there) astray.c astray.calendar)

    -- what is wrong with them
    pub wrong_bad : (page : ℕ) → IsWrong count d broken page → IsFirstBad count pages page
    unfolding rules_bad grants_bad
    wrong_bad page (inl least) = rules_bad page least
    wrong_bad page (inr (none, least)) = grants_bad none page least

    -- or nothing
    pub right_pass : AreRight count d broken → PassDefinitions count pages d
    unfolding header_none slots_none names_none rules_none grants_none they_said only
    right_pass (none, right) = record {
      said = they_said none;
      only = only none;
      none = (header_none, (slots_none known.slots, (names_none, (rules_none none, (grants_none none right, tt)))));
    }

-- quotas that fit, and origins
pub granted : (count : ℕ) (d : Definitions) (r : Option ℕ) → sum_of_quotas d.containers ≤ count - first_element_page → MatchOption r (HaveOrigins d) (IsLeast (IsAstray d)) → MatchOption r (AreGranted count d) (IsLeast (IsUngranted count d))
granted count d None fits origins = record { quotas = fits; origins = origins }
granted count d (Some page) fits least = record { has = inr least.has; least = λ other found. of_found other found } where
  of_found : (other : ℕ) → IsUngranted count d other → page ≤ other
  of_found other (inl over) = let more = over.more in absurd (omega (arith, more, fits))
  of_found other (inr astray) = least.least other astray

-- a header that was read
pub header_read : (tells : Bool) (count own format : ℕ) (bytes : List ℕ) (pages : ℕ → List ℕ) → (IsTrue tells → bytes ≡ pages 0) → IsFormat format × (bytes ≡ header_bytes format (count - first_element_page)) → own ≡ format → IsTrue tells → HasHeader count pages own
header_read tells count own format bytes pages read is same told = subst (HasHeader count pages) (sym same) (record { one = is.0; bytes = sym (read told) ∙ is.1 })

pub sound_err : {A : Type 0} (tells : Bool) (format count : ℕ) (e : SurveyFault) (d : Definitions) (u v w : Contents) → (IsTrue tells → HasHeader count u.page format) → Reads tells (Ok (tt {0})) u v → DefinitionsRead {A = A} tells format (Err e) d v w → SoundRead tells count (Err e) u w
sound_err {A} tells format count e d u v w header first read = record {
  call = reads_more tells tt (Err e) u v w first (reads_err tells e v w read.call);
  read = tt;
  known = tt;
  refused = refused_so e (λ page. IsTrue tells → IsBadDefinition format v.page page) (λ page. IsTrue tells → IsFirstBad count u.page page)
      (λ page bad told. definition_bad count format u.page (header told) page (subst (λ (p : ℕ → List ℕ). IsBadDefinition format p page) (equal_pages u.page v.page (first.pages told)) (bad told))) read.refused;
}

-- what was read of pages that stayed, as they were before
known_before : (tells : Bool) (format : ℕ) (d : Definitions) (broken : List Broken) (u v : Contents) → Reads tells (Ok (tt {0})) u v → (IsTrue tells → AreKnown format v.page d broken) → IsTrue tells → AreKnown format u.page d broken
known_before tells format d broken u v first known told = subst (λ (p : ℕ → List ℕ). AreKnown format p d broken) (equal_pages u.page v.page (first.pages told)) (known told)

module _ {A : Type 0} (tells : Bool) (format count : ℕ) (broken : Vec Broken A) (x : Defs) (u v w : Contents) (header : IsTrue tells → HasHeader count u.page format) (first : Reads tells (Ok (tt {0})) u v) (read : DefinitionsRead tells format (Ok broken) x.definitions v w) where
  pub sound_wrong : (page : ℕ) → IsWrong count x.definitions broken.items page → SoundRead tells count (Err (NotAStore page)) u w
  sound_wrong page wrong = record {
    call = reads_refused tells broken page u w (reads_more tells tt (Ok broken) u v w first read.call);
    read = tt;
    known = tt;
    refused = λ told. wrong_bad count format u.page (header told) x.definitions broken.items (known_before tells format x.definitions broken.items u v first read.known told) read.read page wrong;
  }

  pub sound_right : IsDefinitions x.definitions → AreRight count x.definitions broken.items → SoundRead tells count (Ok x) u w
  sound_right tables (none, right) = record {
    call = reads_ok tells broken x u w (reads_more tells tt (Ok broken) u v w first read.call);
    read = record {
      tables = tables;
      limits = read.read.read.limits;
      references = λ kind slot def within here. all_there (references def) (subst (λ (bs : List Broken). AreFilledAmong x.definitions bs (references def)) none (read.read.there kind slot def within here));
      follow = read.read.read.follow;
      valid = read.read.read.valid;
      quotas = right.quotas;
      origins = right.origins;
    };
    known = λ told. right_pass count format u.page (header told) x.definitions broken.items (known_before tells format x.definitions broken.items u v first read.known told) read.read (none, right);
    refused = tt;
  } where
    all_there : (targets : List (Kind × ℕ)) → AreFilledAmong x.definitions [] targets → IsThere x.definitions targets
    all_there [] filled = tt
    all_there (t ∷ targets) (inl some, rest) = (some, all_there targets rest)
    all_there (t ∷ targets) (inr (calendar, (k, b, inside, is, same)), rest) = absurd (omega (arith, inside))

-- the first listed calendar has the least page
pub first_broken : (broken : List Broken) (b : Broken) (page : ℕ) → Some b ≡ slice_get broken 0 → AllPairs (λ x y. x.slot < y.slot) broken → page ≡ page_of_slot kinds.Calendar b.slot → IsLeast (IsPageOfBroken broken) page
first_broken [] b page first rising is = absurd (cc)
first_broken (x ∷ rest) b page first rising is =
    let same : b ≡ x = cc in record {
      has = (0, x, omega arith, refl, is ∙ ap (λ (y : Broken). page_of_slot kinds.Calendar y.slot) same);
      least = λ other found. of_place other found.0 found.1 found.2 found.3 found.4 (ap (λ (y : Broken). y.slot) same);
    } where
      of_place : (other k : ℕ) (y : Broken) → k < length (x ∷ rest) → get_or (x ∷ rest) k y ≡ y → other ≡ page_of_slot kinds.Calendar y.slot → b.slot ≡ x.slot → page ≤ other
      of_place other zero y inside there at same = let e = ap (λ (z : Broken). z.slot) there in omega (arith, is, at, same, e)
      of_place other (suc k) y inside there at same =
          let e = ap (λ (z : Broken). z.slot) there in
          let rise = rising 0 (suc k) y (omega arith) inside in
          omega (arith, is, at, same, e, rise)
