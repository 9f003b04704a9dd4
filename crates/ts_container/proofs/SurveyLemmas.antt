-- Pages read one after the other.
use Rattle.std.proofs.Common.{◌≡◌, ℕ, ◌+◌, ◌<◌, ◌≤◌, Bool, true, false, MatchBool, IsTrue, IsErrAnd, Option, Some, None, Result, Ok, Err, List, [], length, map, refl, sym, ap, subst, ◌∙◌, arith, inl, inr}
use Rattle.std.proofs.lemmas.Bool.{cases_lt, cases_eq}
use Rattle.std.proofs.lemmas.List.Elements.{All-nil}
use Rattle.ts_page.specs.Pages.{Contents, EqualPages, IsOutsideJournal, Got, first_element_page}
use Rattle.std.specs.Prelude.{All}
use Rattle.ts_model.specs.declared.def.Def.{Def}
use Rattle.ts_model.specs.declared.kind.Kind.{Kind}
use Rattle.ts_model.specs.declared.kind.Kind.TheVariants as kinds
use Rattle.std.specs.Option.{option_map}
use Rattle.ts_layout.proofs.CallerLemmas.{at_slot-map}
use Rattle.std.proofs.lemmas.List.{length-map, length-replicate}
use Rattle.ts_model.specs.Definitions.{Definitions, KindDef, CalendarDef, of_calendar, at_slot, to_def, table_of, limit, slots, with_format, no_definitions}
use Rattle.ts_model.proofs.PartsLemmas.{empty-table, nothing-defined, tables-stay}
use Rattle.ts_layout.specs.Meaning.{IsSlotOf, def_at}
use Rattle.ts_container.specs.declared.fault.SurveyFault.{SurveyFault}
use Rattle.ts_container.specs.declared.fault.SurveyFault.TheVariants.{NotAStore, Failed, Memory}
use Rattle.ts_container.specs.declared.found.Found.TheVariants as found
use Rattle.ts_container.specs.declared.found.Broken.{Broken}
use Rattle.ts_volume.specs.FirstBad.{IsLeast, HoldsSlots}
use Rattle.ts_container.specs.Reading.{AreReadTo, AreBroken, IsReadTo, IsBrokenIn, AreOfVolume, AreWritten, IsNoPageOf, PageRead}
use Rattle.ts_layout.specs.Rank.{rank, rank_of_page, all_slots}
use Rattle.ts_container.specs.Survey.{Reads, IfRefused, PageGot, AreKnown, IsNoDefinitionPage, IsBadDefinition, DefinitionsRead, PagesJudged}

-- a page that was got was read
pub got_read : (tells : Bool) (number : ℕ) (into : List ℕ) (v w : Contents) → IsOutsideJournal number → Got tells number into (Ok tt) v w → PageGot tells number into (Ok tt) v w
got_read tells number into v w outside got = record {
  call = record { count = got.call.count; faults = got.call.faults; pages = got.pages; free = got.free; cause = λ failed. absurd (cc); no_fault = λ fine. got.call.no_fault (λ failed. cc) };
  read = λ told. got.read told outside;
  refused = tt;
}

-- one call after another
pub reads_more : {S T : Type 0} (tells : Bool) (x : S) (r : Result T SurveyFault) (u v w : Contents) → Reads tells (Ok x) u v → Reads tells r v w → Reads tells r u w
reads_more tells x r u v w first second = record {
  count = second.count ∙ first.count;
  faults = omega (arith, first.faults, second.faults);
  pages = λ told n. second.pages told n ∙ first.pages told n;
  free = second.free ∙ first.free;
  cause = λ failed. omega (arith, first.faults, second.cause failed);
  no_fault = λ fine. second.no_fault fine ∙ first.no_fault (λ failed. cc);
}

-- a call that went well, seen as another answer
pub reads_ok : {S T : Type 0} (tells : Bool) (x : S) (y : T) (v w : Contents) → Reads tells (Ok x) v w → Reads tells (Ok y) v w
reads_ok tells x y v w reads = record { count = reads.count; faults = reads.faults; pages = reads.pages; free = reads.free; cause = λ failed. absurd (cc); no_fault = λ fine. reads.no_fault (λ failed. cc) }

-- and one that failed, seen as a failure of another call
pub reads_err : {S T : Type 0} (tells : Bool) (e : SurveyFault) (v w : Contents) → Reads {T = S} tells (Err e) v w → Reads {T = T} tells (Err e) v w
reads_err {S} {T} tells e v w reads = record { count = reads.count; faults = reads.faults; pages = reads.pages; free = reads.free; cause = λ failed. reads.cause (err_again S T e failed); no_fault = λ fine. reads.no_fault (λ failed. fine (err_again T S e failed)) } where
  err_again : (S T : Type 0) (e : SurveyFault) → ◌≡◌ {A = Result T SurveyFault} (Err e) (Err Failed) → ◌≡◌ {A = Result S SurveyFault} (Err e) (Err Failed)
  err_again S T e same = let e' : e ≡ Failed = cc in ap Err e'

-- nothing was read yet
pub reads_none : (tells : Bool) (v : Contents) → Reads {T = Unit {0}} tells (Ok tt) v v
reads_none tells v = record { count = refl; faults = omega arith; pages = λ told n. refl; free = refl; cause = λ failed. absurd (cc); no_fault = λ fine. refl }

-- a verdict without a call
pub reads_refused : {S T : Type 0} (tells : Bool) (x : S) (number : ℕ) (v w : Contents) → Reads tells (Ok x) v w → Reads {T = T} tells (Err (NotAStore number)) v w
reads_refused tells x number v w reads = record { count = reads.count; faults = reads.faults; pages = reads.pages; free = reads.free; cause = λ failed. absurd (cc); no_fault = λ fine. reads.no_fault (λ failed. cc) }

-- what is known of definition pages below some number
pub record KnownTo (format number : ℕ) (pages : ℕ → List ℕ) (d : Definitions) (broken : List Broken) : Type 0 where
  pub slots : (n : ℕ) → 257 ≤ n → n < number → HoldsSlots format pages n
  pub of_volume : (s : Definitions) → AreWritten format pages s → AreOfVolume (rank_of_page number) d broken s

-- one page more
pub known_more : (format number : ℕ) (page : List ℕ) (pages : ℕ → List ℕ) (old new : Definitions × List Broken) → pages number ≡ page → PageRead format number page old new found.Good → KnownTo format number pages old.0 old.1 → KnownTo format (number + 1) pages new.0 new.1
known_more format number page pages old new same read known = record {
  slots = λ n low below. elim (cases_eq n number) [
    | inl this ↦ subst (HoldsSlots format pages) (sym this) (read.0 pages same)
    | inr other ↦ known.slots n low (omega (arith, below, other))
  ];
  of_volume = λ s written. read.2 pages s same written (known.of_volume s written);
}

-- a page that is the first of a definition that has the name of a lower slot or refers to an empty one
pub known_unresolved : (format number : ℕ) (page : List ℕ) (pages : ℕ → List ℕ) (old new : Definitions × List Broken) → pages number ≡ page → PageRead format number page old new found.Unresolved → KnownTo format number pages old.0 old.1
    → ((n : ℕ) → number ≤ n → n < first_element_page → HoldsSlots format pages n) → IsBadDefinition format pages number
known_unresolved format number page pages old new same read known others = inr (
  λ n low high. elim (cases_lt n number) [ inl below ↦ known.slots n low below | inr past ↦ others n past high ],
  λ s written. read pages s same written (known.of_volume s written),
)

-- the least page that is none, of those from a number on and of all
pub least_none : (format number page : ℕ) (pages : ℕ → List ℕ) → ((n : ℕ) → 257 ≤ n → n < number → HoldsSlots format pages n) → IsLeast (λ n. (number ≤ n) × IsNoDefinitionPage format pages n) page → IsBadDefinition format pages page
least_none format number page pages before least = inl (record {
  has = least.has.1;
  least = λ other none. elim (cases_lt other number) [
    | inl below ↦ absurd (none.2 (before other none.0 below))
    | inr past ↦ least.least other (past, none)
  ];
})

-- a page that is none, behind those that are
pub known_bad : (format number : ℕ) (page : List ℕ) (pages : ℕ → List ℕ) (d : Definitions) (broken : List Broken) → pages number ≡ page → 257 ≤ number → number < first_element_page → IsNoPageOf format number page → KnownTo format number pages d broken → IsBadDefinition format pages number
known_bad format number page pages d broken same low high none known =
    least_none format number number pages known.slots (record { has = ((let z : number ≤ number = omega arith in z), (low, high, none pages same)); least = λ other found. found.0 })

-- all slots stand below the end
pub below_end : (kind : Kind) (slot : ℕ) → slot < limit kind → rank kind slot < all_slots
below_end kinds.RowType slot within = omega arith
below_end kinds.Pattern slot within = omega arith
below_end kinds.Calendar slot within = omega arith
below_end kinds.Container slot within = omega arith
below_end kinds.Series slot within = omega arith

-- all definition pages were read
pub known_all : (format : ℕ) (pages : ℕ → List ℕ) (d : Definitions) (broken : List Broken) → KnownTo format first_element_page pages d broken → AreKnown format pages d broken
known_all format pages d broken known = record { slots = known.slots; of_volume = known.of_volume }

-- nothing stands below the first page
pub known_none : (format : ℕ) (pages : ℕ → List ℕ) (d : Definitions) (broken : List Broken) → broken ≡ [] → KnownTo format 257 pages d broken
known_none format pages d broken none = record {
  slots = λ n low below. absurd (omega (arith, low, below));
  of_volume = λ s written. record {
    same = λ kind slot within below. absurd (omega (arith, below));
    listed = subst (All (IsBrokenIn s)) (sym none) (All-nil (IsBrokenIn s));
    resolved = λ kind slot within below flaw. omega (arith, below);
  };
}

-- no definitions were read yet
sizes_none : (kind : Kind) → length (slots kind no_definitions) ≡ limit kind
sizes_none kind =
    length-map (table_of kind no_definitions) (option_map (to_def kind)) ∙ ap (λ (t : List (Option (KindDef kind))). length t) (empty-table kind)
    ∙ length-replicate {A = Option (KindDef kind)} (limit kind) None

pub none_read : (d : Definitions) → d ≡ with_format d.format no_definitions → AreReadTo d.format 0 d
none_read d is = subst (AreReadTo d.format 0) (sym is) (record {
  of_format = refl;
  sizes = λ kind. ap (λ (t : List (Option (KindDef kind))). length (map (option_map (to_def kind)) t)) (tables-stay kind d.format no_definitions) ∙ sizes_none kind;
  empty = λ kind slot above. nothing_defined kind slot;
  limits = record { each = λ kind slot within. subst (IsSlotOf d.format kind) (sym (nothing_defined kind slot)) tt };
  follow = λ slot c there. absurd (no_calendar slot c there);
  valid = λ slot c there. absurd (no_calendar slot c there);
}) where
  nothing_defined : (kind : Kind) (slot : ℕ) → def_at kind slot (with_format d.format no_definitions) ≡ None
  nothing_defined kind slot =
      ap (λ (t : List (Option (KindDef kind))). at_slot slot (map (option_map (to_def kind)) t)) (tables-stay kind d.format no_definitions) ∙ nothing-defined kind slot

  no_calendar : (slot : ℕ) (c : CalendarDef) → at_slot slot (with_format d.format no_definitions).calendars ≡ Some c → ⊥
  no_calendar slot c there =
      let none = sym (at_slot-map of_calendar slot (with_format d.format no_definitions).calendars) ∙ nothing_defined kinds.Calendar slot in
      let some = ap (option_map of_calendar) there in
      cc

pub none_read_to : (d : Definitions) (broken : List Broken) → d ≡ with_format d.format no_definitions → broken ≡ [] → IsReadTo d.format 0 d broken
none_read_to d broken is none = record {
  read = none_read d is;
  there = λ kind slot def within here. absurd (none_or (def_at kind slot d) def ((none_read d is).empty kind slot (omega arith)) here);
  listed = subst (AreBroken 0) (sym none) (record {
    below = All-nil (λ (b : Broken). rank kinds.Calendar b.slot < 0);
    within = All-nil (λ (b : Broken). b.slot < limit kinds.Calendar);
    rising = λ i j x before inside. absurd (omega (arith, inside));
  });
} where
  none_or : (o : Option Def) (a : Def) → o ≡ None → o ≡ Some a → ⊥
  none_or o a none some = cc

-- a call that failed as this one
pub err_is : {T : Type 0} (r : Result T SurveyFault) (e : SurveyFault) → IsErrAnd r (λ x. x ≡ e) → r ≡ Err e
err_is (Ok x) e is = absurd is
err_is (Err x) e is = ap Err is

-- what a refusal says, said of something else
pub refused_so : (e : SurveyFault) (P Q : ℕ → Type 0) → ((page : ℕ) → P page → Q page) → IfRefused e P → IfRefused e Q
refused_so (NotAStore page) P Q so refused = so page refused
refused_so Failed P Q so refused = tt
refused_so (Memory error) P Q so refused = tt

-- the same pages
pub equal_pages : (a b : ℕ → List ℕ) → EqualPages a b → b ≡ a
equal_pages a b same = λ i n. same n i

-- the pages behind one where something isn't settled were judged
pub judged_read : {A : Type 0} (tells : Bool) (format number own : ℕ) (e : SurveyFault) (d x : Definitions) (broken : List Broken) (u v w : Contents) → own ≡ format → Reads tells (Ok (tt {0})) u v → (IsTrue tells → KnownTo format number u.page d broken) → PagesJudged tells own number (Err e) v w
    → DefinitionsRead {A = A} tells format (Err e) x u w
judged_read {A} tells format number own e d x broken u v w same first known judged = record {
  call = reads_more tells tt (Err e) u v w first (reads_err tells e v w judged.call);
  read = tt;
  known = tt;
  refused = refused_so e (λ page. IsTrue tells → IsLeast (λ n. (number ≤ n) × IsNoDefinitionPage own v.page n) page) (λ page. IsTrue tells → IsBadDefinition format u.page page)
      (λ page least told. least_none format number page u.page (known told).slots
      (subst (λ (p : ℕ × (ℕ → List ℕ)). IsLeast (λ n. (number ≤ n) × IsNoDefinitionPage p.0 p.1 n) page) (λ i. (same i, equal_pages u.page v.page (first.pages told) i)) (least told))) judged.refused;
}

pub unresolved_read : {A : Type 0} (tells : Bool) (format number own : ℕ) (page : List ℕ) (old new : Definitions × List Broken) (u v w : Contents) → own ≡ format → PageRead format number page old new found.Unresolved → Reads tells (Ok (tt {0})) u v → (IsTrue tells → u.page number ≡ page)
    → (IsTrue tells → KnownTo format number u.page old.0 old.1) → PagesJudged tells own number (Ok tt) v w → DefinitionsRead {A = A} tells format (Err (NotAStore number)) new.0 u w
unresolved_read {A} tells format number own page old new u v w same read first here known judged = record {
  call = reads_refused tells (tt {0}) number u w (reads_more tells (tt {0}) (Ok (tt {0})) u v w first judged.call);
  read = tt;
  known = tt;
  refused = λ told.
      known_unresolved format number page u.page old new (here told) read (known told)
      (subst (λ (p : ℕ × (ℕ → List ℕ)). (n : ℕ) → number ≤ n → n < first_element_page → HoldsSlots p.0 p.1 n) (λ i. (same i, equal_pages u.page v.page (first.pages told) i)) (judged.all told));
}

-- what an answer says
pub is_true : (b : Bool) (P Q : Type 0) → b ≡ true → MatchBool b P Q → P
is_true true P Q is holds = holds
is_true false P Q is holds = absurd (cc)
