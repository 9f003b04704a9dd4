-- The pages of series read into memory, as the stacks of the slots of a container.
use Rattle.std.proofs.Common.{◌≡◌, ℕ, ◌+◌, ◌-◌, ◌<◌, ◌≤◌, ℤ, Bool, true, false, cond, IsTrue, Option, IsSome, Ok, All, Contains, List, [], ◌∷◌, ◌++◌, length, take, drop, get_or, inr, append-nil, refl, ap, sym, subst, ◌∙◌, arith}
use Rattle.std.specs.List.{AllZip}
use Rattle.std.specs.Option.{option_map}
use Rattle.std.proofs.Math.Seq.{drop-append_seam}
use Rattle.std.proofs.lemmas.List.{take_more, take_all, get_or_default, append_assoc, length-append, length_push, length-drop, take-append-le, drop-append-le}
use Rattle.std.proofs.lemmas.List.Elements.{All-nil, All-cons, All-head, All-tail, All-contains, All-take, All-drop, filter_more}
use Rattle.std.proofs.lemmas.Slice.Zip.{all_zipped_more}
use Rattle.ts_page.specs.declared.page.Page.{Page}
use Rattle.ts_page.specs.Pages.{Contents, EqualPages, IsOutsideJournal}
use Rattle.ts_row.specs.declared.kind.Column.{Column}
use Rattle.ts_space.specs.declared.place.Place.{Place}
use Rattle.ts_space.specs.Directory.{Directory}
use Rattle.ts_irregular.specs.Call.{Reads}
use Rattle.ts_irregular.specs.OnePage.{IsPlace}
use Rattle.ts_sheets.specs.Places.{CanBeRead}
use Rattle.ts_regular.specs.Places as regular
use Rattle.ts_offset.specs.declared.shape.Shape.{Shape}
use Rattle.ts_offset.specs.declared.shape.Shape.TheVariants.{Irregular, Regular}
use Rattle.ts_clip.specs.Series.{ArePagesOf, ArePlaces}
use Rattle.ts_aggregate.specs.declared.series_pages.Stack.{Stack}
use Rattle.ts_aggregate.specs.Stacks.{pages_of}
use Rattle.ts_model.specs.declared.kind.Kind.TheVariants as kinds
use Rattle.ts_model.specs.Definitions.{Definitions, SeriesDef, of_series, at_slot, slots}
use Rattle.ts_layout.specs.Meaning.{heading_in}
use Rattle.ts_layout.proofs.CallerLemmas.{chained, at_slot-map}
use Rattle.ts_answer.specs.Slots.{IsSlotNamed}
use Rattle.ts_answer.specs.View.{View, view, KeepsRules}
use Rattle.ts_combined_rows.specs.declared.gathered.ContainerRange.{ContainerRange}
use Rattle.ts_combined_rows.specs.declared.gathered.Gathered.{Gathered}
use Rattle.ts_combined_rows.specs.Gathered.{stands_in, inside, IsStackOf, IsGathered, AreRead, HasSeries}
use Rattle.ts_combined_rows.proofs.EachSeriesLemmas.{key_kept, stands_some}

-- the pages of some of the places of a series can be read
pub readable : (shape : Shape) (columns : List Column) (c : Contents) (places some : List Place) → ArePlaces shape columns c places → All (λ place. Contains places place) some → All (CanBeRead c) some
readable Irregular columns c places some are among k d below =
    let is = All-contains (IsPlace columns c) places (get_or some k d) are.each (among k d below) in
    record { element = is.element; below = is.below }
readable (Regular grid) columns c places some are among k d below =
    let is = All-contains (regular.IsPlace columns c) places (get_or some k d) are.each (among k d below) in
    record { element = is.readable.element; below = is.readable.below }

pub readable_still : {A : Type 0} (tells : Bool) (a : A) (v w : Contents) (place : Place) → Reads tells (Ok a) v w → CanBeRead v place → CanBeRead w place
readable_still tells a v w place reads can =
    let count = reads.call.count in let below = can.below in
    record { element = can.element; below = omega (arith, count, below) }

-- a page that was read, after other readings
pub page_got : {A : Type 0} (tells : Bool) (a : A) (place : Place) (bytes : List ℕ) (u v : Contents) → Reads tells (Ok a) u v → CanBeRead v place
    → (IsTrue tells → IsOutsideJournal place.page → bytes ≡ v.page place.page) → IsTrue tells → bytes ≡ u.page place.page
page_got tells a place bytes u v reads can got told =
    let element = can.element in
    got told (inr (omega (arith, element))) ∙ reads.pages told place.page

-- one page more
pub pages_more : (pages : ℕ → List ℕ) (places : List Place) (i : ℕ) (d : Place) (read : List Page) (page : Page) → i < length places → ArePagesOf pages (take i places) read → page.bytes ≡ pages (get_or places i d).page
    → ArePagesOf pages (take (i + 1) places) (read ++ page ∷ [])
pages_more pages places i d read page below are is =
    let R : Place → Page → Type 0 = λ place page. page.bytes ≡ pages place.page in
    subst (λ (ps : List Place). ArePagesOf pages ps (read ++ page ∷ [])) (sym (take_more places i d below)) (all_zipped_more R (take i places) read (get_or places i d) page are is)

-- no page is read yet
pub none_read : (tells : Bool) (pages : ℕ → List ℕ) (held : List Page) → AreRead tells pages [] held held
none_read tells pages held = record { more = []; behind = sym (append-nil held); all = refl; read = λ told. tt }

-- one page more is read
pub read_more : (tells : Bool) (pages : ℕ → List ℕ) (places : List Place) (i : ℕ) (d : Place) (old held next : List Page) (page : Page) → i < length places → AreRead tells pages (take i places) old held
    → (IsTrue tells → page.bytes ≡ pages (get_or places i d).page) → next ≡ held ++ page ∷ [] → AreRead tells pages (take (i + 1) places) old next
read_more tells pages places i d old held next page below so_far is pushed = record {
  more = so_far.more ++ page ∷ [];
  behind = pushed ∙ ap (λ (ps : List Page). ps ++ page ∷ []) so_far.behind ∙ append_assoc old so_far.more (page ∷ []);
  all =
      length_push so_far.more page ∙ ap (λ (n : ℕ). n + 1) so_far.all
      ∙ sym (length_push (take i places) (get_or places i d)) ∙ sym (ap (λ (ps : List Place). length ps) (take_more places i d below));
  read = λ told. pages_more pages places i d so_far.more page below (so_far.read told) (is told);
}

-- what is read behind other pages is within the list, and is the stack's
pub read_within : (tells : Bool) (pages : ℕ → List ℕ) (places : List Place) (old held : List Page) → AreRead tells pages places old held → length old + length places ≡ length held
read_within tells pages places old held are =
    let all = are.all in
    let behind = ap (λ (ps : List Page). length ps) are.behind in
    let both = length-append old are.more in
    omega (arith, all, behind, both)

pub own_pages : (tells : Bool) (pages : ℕ → List ℕ) (places : List Place) (old held : List Page) (first : ℕ) → first ≡ length old → AreRead tells pages places old held → IsTrue tells → ArePagesOf pages places (take (length places) (drop first held))
own_pages tells pages places old held first begins are told =
    let size = length places in
    let all = are.all in
    let same : take size (drop first held) ≡ are.more =
    ap (λ (n : ℕ). take size (drop n held)) begins ∙ ap (λ (ps : List Page). take size (drop (length old) ps)) are.behind
    ∙ ap (λ (ps : List Page). take size ps) (drop-append_seam old are.more) ∙ take_all size are.more (omega (arith, all)) in
    subst (λ (ps : List Page). ArePagesOf pages places ps) (sym same) (are.read told)

-- the same of equal pages
pub pages_same : (u v : ℕ → List ℕ) → EqualPages u v → (places : List Place) (read : List Page) → ArePagesOf v places read → ArePagesOf u places read
pages_same u v same [] [] are = tt
pages_same u v same [] (page ∷ read) are = absurd are
pages_same u v same (place ∷ places) [] are = absurd are
pages_same u v same (place ∷ places) (page ∷ read) are = (are.0 ∙ same place.page, pages_same u v same places read are.1)

pub stack_same : {A : Type 0} (tells : Bool) (a : A) (d : Definitions) (space : Directory) (u v : Contents) (from to : ℤ) (read : List Page) (slot : ℕ) (stack : Stack) → Reads tells (Ok a) u v → IsStackOf tells (view d space v) from to read slot stack
    → IsStackOf tells (view d space u) from to read slot stack
stack_same tells a d space u v from to read slot stack reads is = record {
  series = is.series;
  columns = is.columns;
  lies = is.lies;
  laid = is.laid;
  holds = is.holds;
  within = is.within;
  pages = λ told. pages_same u.page v.page (reads.pages told) stack.places.now (pages_of read stack) (is.pages told);
}

pub stacks_same : {A : Type 0} (tells : Bool) (a : A) (d : Definitions) (space : Directory) (u v : Contents) (from to : ℤ) (read : List Page) (slots : List ℕ) (stacks : List Stack) → Reads tells (Ok a) u v
    → AllZip (IsStackOf tells (view d space v) from to read) slots stacks → AllZip (IsStackOf tells (view d space u) from to read) slots stacks
stacks_same tells a d space u v from to read [] [] reads are = tt
stacks_same tells a d space u v from to read [] (stack ∷ stacks) reads are = absurd are
stacks_same tells a d space u v from to read (slot ∷ slots) [] reads are = absurd are
stacks_same tells a d space u v from to read (slot ∷ slots) (stack ∷ stacks) reads are =
    (stack_same tells a d space u v from to read slot stack reads are.0, stacks_same tells a d space u v from to read slots stacks reads are.1)

-- a stack stays one when pages are added behind it
pages_still : (read more : List Page) (stack : Stack) → stack.first + length stack.places.now ≤ length read → pages_of (read ++ more) stack ≡ pages_of read stack
pages_still read more stack within =
    let size = length stack.places.now in
    let rest = length-drop stack.first read in
    ap (λ (ps : List Page). take size ps) (drop-append-le stack.first read more (omega (arith, within))) ∙ take-append-le size (drop stack.first read) more (omega (arith, within, rest))

pub stack_still : (tells : Bool) (x : View) (from to : ℤ) (read more : List Page) (slot : ℕ) (stack : Stack) → IsStackOf tells x from to read slot stack → IsStackOf tells x from to (read ++ more) slot stack
stack_still tells x from to read more slot stack is =
    let within = is.within in
    let long = length-append read more in
    record {
      series = is.series;
      columns = is.columns;
      lies = is.lies;
      laid = is.laid;
      holds = is.holds;
      within = omega (arith, within, long);
      pages = λ told. subst (λ (ps : List Page). ArePagesOf x.pages.page stack.places.now ps) (sym (pages_still read more stack is.within)) (is.pages told);
    }

stacks_append : (tells : Bool) (x : View) (from to : ℤ) (read more : List Page) (slots : List ℕ) (stacks : List Stack) → AllZip (IsStackOf tells x from to read) slots stacks → AllZip (IsStackOf tells x from to (read ++ more)) slots stacks
stacks_append tells x from to read more [] [] are = tt
stacks_append tells x from to read more [] (stack ∷ stacks) are = absurd are
stacks_append tells x from to read more (slot ∷ slots) [] are = absurd are
stacks_append tells x from to read more (slot ∷ slots) (stack ∷ stacks) are = (stack_still tells x from to read more slot stack are.0, stacks_append tells x from to read more slots stacks are.1)

pub stacks_still : (tells : Bool) (x : View) (from to : ℤ) (read more next : List Page) (slots : List ℕ) (stacks : List Stack) → next ≡ read ++ more → AllZip (IsStackOf tells x from to read) slots stacks → AllZip (IsStackOf tells x from to next) slots stacks
stacks_still tells x from to read more next slots stacks behind are =
    subst (λ (ps : List Page). AllZip (IsStackOf tells x from to ps) slots stacks) (sym behind) (stacks_append tells x from to read more slots stacks are)

-- a series that stands in the container is found by its key
pub stands_named : (x : View) → KeepsRules x → (container slot : ℕ) → slot < 4096 → stands_in container (at_slot slot x.definitions.series) ≡ true → (key : List ℕ) × IsSlotNamed kinds.Series slot key x.definitions
stands_named x kept container slot within stands =
    let there = stands_some container (at_slot slot x.definitions.series) stands in
    key_kept x kept slot there.0.key there.0.container there.0.regular within (at_slot-map of_series slot x.definitions.series ∙ ap (option_map of_series) there.1)

-- a slot more, by whether its series stands in the container
module _ (d : Definitions) (container : ℕ) (slots : List ℕ) (i e : ℕ) (below : i < length slots) where
  abbrev test : ℕ → Bool
  test slot = stands_in container (at_slot slot d.series)

  inside_more : (b : Bool) → test (get_or slots i e) ≡ b → inside d container (take (i + 1) slots) ≡ inside d container (take i slots) ++ cond b (get_or slots i e ∷ []) []
  inside_more b is = filter_more test slots i e below ∙ ap (λ (t : Bool). inside d container (take i slots) ++ cond t (get_or slots i e ∷ []) []) is

  pub one_outside : test (get_or slots i e) ≡ false → inside d container (take (i + 1) slots) ≡ inside d container (take i slots)
  one_outside is = inside_more false is ∙ append-nil (inside d container (take i slots))

  pub one_inside : test (get_or slots i e) ≡ true → inside d container (take (i + 1) slots) ≡ inside d container (take i slots) ++ get_or slots i e ∷ []
  one_inside is = inside_more true is

-- a stack's slot has a series
stack_series : (tells : Bool) (x : View) (from to : ℤ) (read : List Page) (slot : ℕ) (stack : Stack) → slot < 4096 → IsStackOf tells x from to read slot stack → HasSeries x.definitions stack
stack_series tells x from to read slot stack within is =
    let found = chained (λ (s : SeriesDef). heading_in x.definitions s.container) (at_slot slot x.definitions.series) stack.shelf.kind.now is.columns in
    let at = is.series in
    record {
      within = omega arith;
      some = subst (λ (o : Option SeriesDef). IsSome o) (sym (ap (λ (n : ℕ). at_slot n x.definitions.series) is.series ∙ found.1)) refl;
    }

pub all_series : (tells : Bool) (x : View) (from to : ℤ) (read : List Page) (slots : List ℕ) (stacks : List Stack) → All (λ slot. slot < 4096) slots → AllZip (IsStackOf tells x from to read) slots stacks → All (HasSeries x.definitions) stacks
all_series tells x from to read [] [] within are = All-nil (HasSeries x.definitions)
all_series tells x from to read [] (stack ∷ stacks) within are = absurd are
all_series tells x from to read (slot ∷ slots) [] within are = absurd are
all_series tells x from to read (slot ∷ slots) (stack ∷ stacks) within are =
    let Below : ℕ → Type 0 = λ slot. slot < 4096 in
    All-cons (HasSeries x.definitions) stack stacks (stack_series tells x from to read slot stack (All-head Below slot slots within) are.0) (all_series tells x from to read slots stacks (All-tail Below slot slots within) are.1)

-- the slots from an index on, which are series slots
pub rest_of : (slots : List ℕ) (at : ℕ) → take (length slots - at) (drop at slots) ≡ drop at slots
rest_of slots at = let long = length-drop at slots in take_all (length slots - at) (drop at slots) (omega (arith, long))

pub all_below : (slots : List ℕ) → ((k : ℕ) → k < length slots → get_or slots k 0 < 4096) → All (λ slot. slot < 4096) slots
all_below slots each k d below = subst (λ (n : ℕ). n < 4096) (get_or_default slots k 0 d below) (each k below)

pub rest_below : (slots : List ℕ) (at : ℕ) → ((k : ℕ) → k < length slots → get_or slots k 0 < 4096) → All (λ slot. slot < 4096) (take (length slots - at) (drop at slots))
rest_below slots at each = let Below : ℕ → Type 0 = λ slot. slot < 4096 in All-take Below (length slots - at) (drop at slots) (All-drop Below at slots (all_below slots each))

-- the first of these slots, and their stacks
pub passed_below : (slots : List ℕ) (at passed : ℕ) → ((k : ℕ) → k < length slots → get_or slots k 0 < 4096) → All (λ slot. slot < 4096) (take passed (drop at slots))
passed_below slots at passed each = let Below : ℕ → Type 0 = λ slot. slot < 4096 in All-take Below passed (drop at slots) (All-drop Below at slots (all_below slots each))

-- what is gathered of the slots from an index on, after other readings
pub gathered_rest : {A : Type 0} (tells : Bool) (a : A) (range : ContainerRange) (u v : Contents) (slots : List ℕ) (at : ℕ) (gathered : Gathered) → Reads tells (Ok a) u v → IsGathered tells v range (take (length slots - at) (drop at slots)) gathered
    → IsGathered tells u range (drop at slots) gathered
gathered_rest tells a range u v slots at gathered reads is =
    let own = subst (λ (ns : List ℕ). IsGathered tells v range ns gathered) (rest_of slots at) is in
    record {
      passed = own.passed;
      stacks = stacks_same tells a range.defs.now.definitions range.space.now u v range.from range.to gathered.pages
          (inside range.defs.now.definitions range.container (take gathered.passed (drop at slots))) gathered.stacks.items reads own.stacks;
    }
