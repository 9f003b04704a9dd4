-- The control of a set in the catalogue of what is held, and what comes of it.
use Rattle.std.proofs.Common.{◌≡◌, ℕ, ℤ, ◌≤◌, ◌==◌, ◌&&◌, Bool, true, false, not, nat_le, cond, length, Option, Some, None, Result, Ok, Err, IsErrAnd, List, [], ◌∷◌, slice_get, refl, ap, sym, ◌∙◌, subst, arith}
use Rattle.std.specs.List.{list_any}
use Rattle.std.specs.Option.{option_map}
use Rattle.std.proofs.lemmas.Bool.Decides.{nat_tests}
use Rattle.ts_base.specs.Name.{is_key}
use Rattle.std.specs.Ordering.{nat_cmp, is_eq, eq_by_cmp}
use Rattle.std.specs.Cmp.{nat_cmp_total, tied_itself}
use Rattle.std.specs.FinMap.{entries, entries_sorted, get, get-entries, find}
use Rattle.ts_base.specs.declared.refusal.Refusal.{Refusal}
use Rattle.ts_base.specs.declared.refusal.Refusal.TheVariants as refusals
use Rattle.ts_base.specs.declared.fault.Trouble.{Trouble}
use Rattle.ts_base.specs.declared.fault.Trouble.TheVariants.{Refused, Memory}
use Rattle.ts_row.specs.declared.value.Literal.{Literal}
use Rattle.ts_row.specs.Row.{Row, row_of, IsRowTrouble, Heading}
use Rattle.ts_row.specs.declared.kind.Column.{Column}
use Rattle.ts_offset.specs.Grid.{GridPlan}
use Rattle.ts_offset.specs.declared.shape.Shape.{Shape}
use Rattle.ts_offset.specs.declared.shape.Shape.TheVariants as shapes
use Rattle.ts_model.specs.declared.kind.Kind.TheVariants as kinds
use Rattle.ts_model.specs.Catalogue.{Series, Catalogue, name_cmp, columns_of, shape_of, without}
use Rattle.ts_model.specs.Definitions.{SeriesDef, at_slot}
use Rattle.ts_layout.specs.Meaning.{Layout, catalogue_of, heading_at, shape_at}
use Rattle.ts_layout.proofs.CallerLemmas.{one_of, series_at}
use Rattle.ts_rolling.specs.Sets.{most_kept, is_set, control_key, read_control, Planned, planned, controls, control_of, windows, live}
use Rattle.ts_rolling.proofs.KeyLemmas.{control_form, controls_cmp}
use Rattle.ts_rolling.proofs.NumberedLemmas.{tested, find-picked}
use Rattle.ts_answer.specs.Answer.{Tried, Answered, ◌>>=◌, known, a_row}
use Rattle.ts_answer.specs.Elements.{a_control, grid_in, control_grid, put_planned, roll_put, roll_drop, without_windows}
use Rattle.ts_answer.specs.Reply.{count_line}
use Rattle.ts_answer.specs.Tried.{IsTried, IsRefusedAs}
use Rattle.ts_answer.specs.Slots.{IsSlotNamed}
use Rattle.ts_answer.specs.View.{View, KeepsRules, IsViewOf}
use Rattle.ts_answer.proofs.CallerLemmas.{on_ok, on_err, good-row, bad-row, tried_ok}
use Rattle.ts_shelf.specs.Shelf.{IsShelf, IsShelfIn}
use Rattle.ts_shelf.proofs.MemoryLemmas.{bare_of, bare_rules}
use Rattle.ts_shelf.proofs.SeenLemmas.{shelf_seen}
use Rattle.ts_rolling_sets.specs.InMemory.{IsKeyIn, kept_in, gridded}
use Rattle.ts_rolling_sets.proofs.HomeLemmas.{within_table}
use Rattle.ts_rolling_sets.proofs.OrderLemmas.{control_number, no_control, one_control}

-- a control is the series with its key
abbrev IsKept : ℕ → Type 0
IsKept n = (1 ≤ n) × (n ≤ most_kept)

any : (o : Option Series) → tested (λ s. true) o ≡ o
any None = refl
any (Some s) = refl

by_key : (set : List ℕ) (cat : Catalogue) (n : ℕ) → 1 ≤ n → n ≤ most_kept → find nat_cmp n (controls set cat) ≡ get cat.series (control_key set n)
unfolding controls
by_key set cat n least most =
    find-picked (λ k. read_control k set) (control_key set) IsKept (λ k n e. let h = (control_form k set n).0 e in ((h.0, h.1), h.2)) (λ n h. (control_form (control_key set n) set n).1 (h.0, h.1, refl)) (λ i j h g. controls_cmp set i j h.1 g.1)
    (λ s. true) n (least, most) (entries cat.series) (entries_sorted cat.series)
    ∙ any (find name_cmp (control_key set n) (entries cat.series))
    ∙ sym (get-entries cat.series (control_key set n))

first_found : (ws : List (ℕ × Series)) (n : ℕ) (s : Series) → slice_get ws 0 ≡ Some (n, s) → find nat_cmp n ws ≡ Some s
first_found [] n s is = absurd (cc)
first_found (w ∷ ws) n s is =
    let number : w.0 ≡ n = cc in
    let series : w.1 ≡ s = cc in
    let ties : eq_by_cmp nat_cmp n w.0 ≡ true = ap (λ (k : ℕ). eq_by_cmp nat_cmp n k) number ∙ ap is_eq (tied_itself nat_cmp_total n) in
    ap (λ (b : Bool). cond b (Some w.1) (find nat_cmp n ws)) ties ∙ ap Some series

module _ (x : View) (l : Layout) (held : IsViewOf x l) (set : List ℕ) where
  kept_of_layout : kept_in x.definitions set ≡ kept_in l.definitions set
  kept_of_layout = ap (λ d. kept_in d set) held.definitions

  pub control_there : (n : ℕ) → Some n ≡ slice_get (kept_in x.definitions set) 0 → 1 ≤ n → n ≤ 1000
      → (s : Series) × (control_of set (catalogue_of l) ≡ Some (n, s)) × (get (catalogue_of l).series (control_key set n) ≡ Some s)
  control_there n is least most =
      let found = one_control (control_of set (catalogue_of l)) n (control_number l set (Some n) (is ∙ ap (λ (ns : List ℕ). slice_get ns 0) kept_of_layout)) in
      (found.0, found.1, sym (by_key set (catalogue_of l) n least most) ∙ first_found (controls set (catalogue_of l)) n found.0 found.1)

  pub control_missing : None ≡ slice_get (kept_in x.definitions set) 0 → control_of set (catalogue_of l) ≡ None
  control_missing is = no_control (control_of set (catalogue_of l)) (control_number l set None (is ∙ ap (λ (ns : List ℕ). slice_get ns 0) kept_of_layout))

-- its grid
module _ (set : List ℕ) (cat : Catalogue) where
  pub ungridded_none : control_of set cat ≡ None → gridded set cat ≡ Err refusals.UnknownName
  ungridded_none none = on_err (a_control set cat) refusals.UnknownName _ (ap known none)

  module _ (n : ℕ) (s : Series) (is : control_of set cat ≡ Some (n, s)) where
    pub controlled : a_control set cat ≡ Ok (n, s)
    controlled = ap known is

    pub ungridded : (shape : shape_of cat s.kind ≡ Some shapes.Irregular) → gridded set cat ≡ Err refusals.NotRegular
    unfolding control_grid
    ungridded shape = on_ok (a_control set cat) (n, s) _ controlled ∙ on_ok (known (shape_of cat s.kind)) shapes.Irregular grid_in (ap known shape)

    pub on_its_grid : (g : GridPlan) → shape_of cat s.kind ≡ Some (shapes.Regular g) → control_grid s cat ≡ Ok g
    unfolding control_grid
    on_its_grid g shape = on_ok (known (shape_of cat s.kind)) (shapes.Regular g) grid_in (ap known shape)

-- what refuses the first two tests refuses what goes on with them
pub first_two : {A B C : Type 0} (m : Tried A) (f : A → Tried B) (rest : A → B → Tried C) (refusal : Refusal) → (m >>= f) ≡ Err refusal → (m >>= λ a. f a >>= rest a) ≡ Err refusal
unfolding ◌>>=◌
first_two (Ok a) f rest refusal is = on_err (f a) refusal (rest a) is
first_two (Err other) f rest refusal is = let same : other ≡ refusal = cc in ap Err same

module _ (set : List ℕ) (stamp : ℤ) (literals : List Literal) (cat : Catalogue) where
  pub put_ungridded : (trouble : Trouble) → IsRefusedAs trouble (gridded set cat) → IsRefusedAs trouble (roll_put set stamp literals cat)
  unfolding roll_put
  put_ungridded (Refused refusal) is =
      first_two (a_control set cat) (λ control. control_grid control.1 cat) (λ control grid. a_row (columns_of cat control.1) literals >>= λ row. planned grid control.0 (live set control.1.container cat) stamp >>= λ plan. put_planned set control.1.container plan stamp literals cat) refusal is
  put_ungridded (Memory error) is = tt

  module _ (n : ℕ) (s : Series) (g : GridPlan) (is : control_of set cat ≡ Some (n, s)) (grid : control_grid s cat ≡ Ok g) where
    abbrev with_row : Tried Answered
    with_row = a_row (columns_of cat s) literals >>= λ row. planned g n (live set s.container cat) stamp >>= λ plan. put_planned set s.container plan stamp literals cat

    put_goes : roll_put set stamp literals cat ≡ with_row
    unfolding roll_put
    put_goes = on_ok (a_control set cat) (n, s) _ (controlled set cat n s is) ∙ on_ok (control_grid s cat) g _ grid

    pub put_misfits : (trouble : Trouble) → IsRefusedAs trouble (a_row (columns_of cat s) literals) → IsRefusedAs trouble (roll_put set stamp literals cat)
    put_misfits (Refused refusal) why = put_goes ∙ on_err (a_row (columns_of cat s) literals) refusal _ why
    put_misfits (Memory error) why = tt

    module _ (row : Row) (fits : a_row (columns_of cat s) literals ≡ Ok row) where
      pub put_unplanned : (trouble : Trouble) → IsRefusedAs trouble (planned g n (live set s.container cat) stamp) → IsRefusedAs trouble (roll_put set stamp literals cat)
      put_unplanned (Refused refusal) why = put_goes ∙ on_ok (a_row (columns_of cat s) literals) row _ fits ∙ on_err (planned g n (live set s.container cat) stamp) refusal _ why
      put_unplanned (Memory error) why = tt

      pub put_as_planned : (plan : Planned) → planned g n (live set s.container cat) stamp ≡ Ok plan → roll_put set stamp literals cat ≡ put_planned set s.container plan stamp literals cat
      put_as_planned plan given = put_goes ∙ on_ok (a_row (columns_of cat s) literals) row _ fits ∙ on_ok (planned g n (live set s.container cat) stamp) plan _ given

-- a set that goes
module _ (set : List ℕ) (cat : Catalogue) where
  pub drop_ungridded : (trouble : Trouble) → IsRefusedAs trouble (gridded set cat) → IsRefusedAs trouble (roll_drop set cat)
  unfolding roll_drop
  drop_ungridded (Refused refusal) is = first_two (a_control set cat) (λ control. control_grid control.1 cat) _ refusal is
  drop_ungridded (Memory error) is = tt

-- the key of a set is short
nat_small : (m : ℕ) → nat_le m 40 ≡ true → m ≤ 40
nat_small m is = grind (arith, nat_tests)

short_by : (a b c : Bool) → (a && b && c) ≡ true → b ≡ true
short_by true true c is = refl
short_by true false c is = absurd (cc)
short_by false b c is = absurd (cc)

pub short_set : (set : List ℕ) → is_set set ≡ true → length set ≤ 40
short_set set is = nat_small (length set) (short_by (is_key set) (nat_le (length set) 40) (not (list_any (λ c. c == 35) set)) is)

-- the same series under the same key
pub same_shelf : (l : Layout) (read key : List ℕ) (shape own : Shape) (slot : ℕ) (h : Heading) (s series : Series) → read ≡ key → shape ≡ own → get (catalogue_of l).series key ≡ Some s → IsShelfIn l read shape slot h series
    → IsShelfIn l key own slot h s
same_shelf l read key shape own slot h s series name lies there shelf =
    let same : series ≡ s = one_of (get (catalogue_of l).series key) series s (ap (λ (k : List ℕ). get (catalogue_of l).series k) (sym name) ∙ shelf.stands.listed) there in
    subst (λ (y : Series). IsShelfIn l key own slot h y) same (subst (λ (f : Shape). IsShelfIn l key f slot h series) lies (subst (λ (k : List ℕ). IsShelfIn l k shape slot h series) name shelf))

-- a series of a key in a slot that is kept in memory
named_in : (o : Option SeriesDef) (key : List ℕ) → option_map (λ (s : SeriesDef). s.key) o ≡ Some key → (s : SeriesDef) × (o ≡ Some s) × (s.key ≡ key)
named_in None key is = absurd (cc)
named_in (Some s) key is = let same : s.key ≡ key = cc in (s, refl, same)

pub key_named : (x : View) → KeepsRules x → (slot : ℕ) (key : List ℕ) → IsKeyIn x.definitions slot key → IsSlotNamed kinds.Series slot key x.definitions
key_named x kept slot key is =
    let there = named_in (at_slot slot x.definitions.series) key is in
    let below = within_table x.definitions.series slot there.0 there.1 in
    let size = kept.sound.tables.series.size in
    subst (λ (k : List ℕ). IsSlotNamed kinds.Series slot k x.definitions) there.2
    (record { within = omega (arith, below, size); is = (series_at (bare_of x) slot there.0 (bare_rules x kept) there.1).named })

-- it is a shelf with what stands there
pub shelf_is : (x : View) (kept : KeepsRules x) (slot : ℕ) (key : List ℕ) → IsKeyIn x.definitions slot key → (series : ℕ) (shape own : Shape) (h : Heading) → series ≡ slot → heading_at x.definitions slot ≡ Some h → shape_at x.definitions slot ≡ Some shape → shape ≡ own
    → IsShelf own series h key x.definitions
shelf_is x kept slot key is series shape own h same columns lies shapes =
    subst (λ (n : ℕ). IsShelf own n h key x.definitions) (sym same) (record { named = key_named x kept slot key is; columns = columns; lies = lies ∙ ap Some shapes })

-- and a control's is in each layout that is held
pub control_shelf : (x : View) (l : Layout) (held : IsViewOf x l) (read key : List ℕ) (shape : Shape) (slot : ℕ) (h : Heading) (s : Series) → read ≡ key → IsShelf shape slot h read x.definitions → get (catalogue_of l).series key ≡ Some s → IsShelfIn l key shape slot h s
control_shelf x l held read key shape slot h s name shelf there =
    let seen = shelf_seen x l held read shape slot h shelf in
    same_shelf l read key shape shape slot h s seen.0 name refl there seen.2

-- the answer of a drop
module _ (set : List ℕ) (cat : Catalogue) (n : ℕ) (s : Series) (g : GridPlan) (is : control_of set cat ≡ Some (n, s)) (grid : control_grid s cat ≡ Ok g) where
  pub drop_comes : (key js : List ℕ) → key ≡ control_key set n → js ≡ live set s.container cat → length (windows set s.container cat) ≡ length (live set s.container cat)
      → roll_drop set cat ≡ Ok (count_line (length js), without kinds.Series key (without_windows set js cat))
  unfolding roll_drop
  drop_comes key js name all many =
      on_ok (a_control set cat) (n, s) _ (controlled set cat n s is) ∙ on_ok (control_grid s cat) g _ grid
      ∙ (λ i. Ok (count_line ((many ∙ sym (ap (λ (ns : List ℕ). length ns) all)) i), without kinds.Series (sym name i) (without_windows set (sym all i) cat)))

-- literals are a row for columns, or not
pub row_fits : (columns : List Column) (read literals : List Literal) → read ≡ literals → (row : Row) → row_of columns read ≡ Ok row → IsTried (Ok tt) (a_row columns literals) (λ (done : Unit {0}) (found : Row). Unit {0})
row_fits columns read literals same row is = tried_ok tt row (good-row columns literals row (ap (λ (ls : List Literal). row_of columns ls) (sym same) ∙ is)) tt

pub row_misfits : (columns : List Column) (read literals : List Literal) → read ≡ literals → (r : Result (Unit {0}) Trouble) (trouble : Trouble) → IsErrAnd r (λ t. t ≡ trouble) → IsRowTrouble columns read trouble
    → IsTried r (a_row columns literals) (λ (done : Unit {0}) (found : Row). Unit {0})
row_misfits columns read literals same (Ok done) trouble is why = absurd is
row_misfits columns read literals same (Err other) trouble is why = record {
  ok = tt;
  err = subst (λ (t : Trouble). IsRefusedAs t (a_row columns literals)) (sym is) (misfit trouble why);
}
  where
    misfit : (t : Trouble) → IsRowTrouble columns read t → IsRefusedAs t (a_row columns literals)
    misfit (Refused refusal) why = bad-row columns literals why.0 (ap (λ (ls : List Literal). row_of columns ls) (sym same) ∙ why.1) ∙ ap (λ (why : Refusal). let t : Tried Row = Err why in t) (sym why.2)
    misfit (Memory error) why = tt
