-- What a list makes of each series of a container that is seen.
use Rattle.std.proofs.Common.{◌≡◌, ℕ, ◌+◌, ◌<◌, ℤ, Bool, true, false, cond, IsTrue, Option, Some, None, IsSome, Ok, List, [], ◌∷◌, ◌++◌, map, length, take, drop, get_or, refl, ap, sym, subst, ◌∙◌, arith, append_assoc, append-nil, length-append}
use Rattle.std.specs.List.{flat_map}
use Rattle.std.specs.Option.{option_map, option_and_then, unwrap_or}
use Rattle.std.proofs.lemmas.Bool.Decides.{nat_tests}
use Rattle.std.proofs.Math.Seq.{take-add}
use Rattle.std.proofs.lemmas.List.Concat.{flat_map-append}
use Rattle.ts_base.specs.declared.fault.Trouble.{Trouble}
use Rattle.ts_command.specs.declared.command.Command.TheVariants.{AggregateAll}
use Rattle.ts_row.specs.Row.{Heading, Row}
use Rattle.ts_row.specs.declared.kind.Column.{Column}
use Rattle.ts_space.specs.Directory.{places_of}
use Rattle.ts_sheets.specs.Stamped.{within_range}
use Rattle.ts_offset.specs.declared.shape.Shape.{Shape}
use Rattle.ts_expr.specs.declared.item.Item.{Item}
use Rattle.ts_expr.specs.Aggregates.{read_list, Binding, binding}
use Rattle.ts_clip.specs.Series.{IsTold}
use Rattle.ts_offset.specs.Shape.{IsLaidOut}
use Rattle.ts_aggregate.specs.Fold.{Fold, Folds}
use Rattle.ts_model.specs.declared.kind.Kind.TheVariants as kinds
use Rattle.ts_model.specs.declared.def.Def.TheVariants as defs
use Rattle.ts_model.specs.Catalogue.{Container, Series, Catalogue, series_in}
use Rattle.ts_model.specs.Definitions.{Definitions, RowTypeDef, SeriesDef, of_series, at_slot, slots}
use Rattle.ts_layout.specs.Meaning.{Layout, IsSound, heading_of_container, heading_in, heading_at, shape_at, elements_at, catalogue_of}
use Rattle.ts_layout.proofs.CallerLemmas.{one_of, own as own_def, container_found, row_type_of_container, series_at}
use Rattle.ts_answer.specs.Answer.{wanted, outcome, carried_out, aggregate_all, columns_in, scales_of, folded_range}
use Rattle.ts_answer.specs.Reply.{series_folded_line, series_folded_text, count_line}
use Rattle.ts_answer.specs.Slots.{IsSlotNamed, Stands}
use Rattle.ts_answer.specs.Tried.{IsRefusedAs}
use Rattle.ts_answer.specs.View.{View, Shows, KeepsRules}
use Rattle.ts_answer.proofs.CallerLemmas.{on_ok, refused_as}
use Rattle.ts_shelf.specs.Fresh.{IsFresh}
use Rattle.ts_shelf.proofs.FoldLemmas.{range_folded}
use Rattle.ts_shelf.proofs.MemoryLemmas.{bare_of, bare_rules}
use Rattle.ts_combined_rows.specs.Aggregates.{folded_if, folded_at, folded_in, AreSaid}
use Rattle.ts_combined_rows.specs.Gathered.{stands_in}
use Rattle.ts_combined_rows.proofs.InOrderLemmas.{made_in_order}

-- what they come to, test after test
module _ (text name : List ℕ) (from to : ℤ) (cat : Catalogue) where
  pub all_unread : (trouble : Trouble) → IsRefusedAs trouble (read_list text) → IsRefusedAs trouble (outcome (Ok (AggregateAll text name from to)) cat)
  unfolding outcome carried_out aggregate_all
  all_unread trouble is = refused_as trouble _ _ is

  module _ (items : List Item) (read : read_list text ≡ Ok items) where
    pub all_unknown : (trouble : Trouble) → IsRefusedAs trouble (wanted name cat.containers) → IsRefusedAs trouble (outcome (Ok (AggregateAll text name from to)) cat)
    unfolding outcome carried_out aggregate_all
    all_unknown trouble is = subst (IsRefusedAs trouble) (sym (on_ok _ items _ read)) (refused_as trouble _ _ is)

    module _ (container : Container) (there : wanted name cat.containers ≡ Ok container) where
      pub all_unbound : (trouble : Trouble) → IsRefusedAs trouble (binding (columns_in cat container) items) → IsRefusedAs trouble (outcome (Ok (AggregateAll text name from to)) cat)
      unfolding outcome carried_out aggregate_all
      all_unbound trouble is = subst (IsRefusedAs trouble) (sym (on_ok _ items _ read ∙ on_ok _ container _ there)) (refused_as trouble _ _ is)

      pub all_come : (b : Binding) → binding (columns_in cat container) items ≡ Ok b
          → outcome (Ok (AggregateAll text name from to)) cat ≡ Ok (series_folded_text (scales_of b) (map (λ s. (s.0, folded_range b from to s.1.elements)) (series_in name cat)), cat)
      unfolding outcome carried_out aggregate_all
      all_come b bound = on_ok _ items _ read ∙ on_ok _ container _ there ∙ on_ok _ b _ bound

-- the columns of a container, by its slot and by its name
pub container_columns : (l : Layout) (name : List ℕ) (slot : ℕ) (container : Container) (h : Heading) → IsSound l → Stands kinds.Container name l slot container → heading_in l.definitions slot ≡ Some h
    → columns_in (catalogue_of l) container ≡ h.columns
container_columns l name slot container h rules stands is =
    let c = stands.is.0 in
    let r = row_type_of_container l slot c rules stands.is.1 in
    let own : heading_in l.definitions slot ≡ Some r.0.heading = ap (option_and_then (heading_of_container l.definitions)) stands.is.1 ∙ ap (option_map (λ (x : RowTypeDef). x.heading)) r.1.there in
    let same : r.0.heading ≡ h = one_of (heading_in l.definitions slot) r.0.heading h own is in
    ap (columns_in (catalogue_of l)) stands.is.2 ∙ ap (λ (o : Option Heading). unwrap_or (option_map (λ (heading : Heading). heading.columns) o) []) (r.1.listed ∙ ap Some same)

module _ (x : View) (kept : KeepsRules x) where
  -- a container that is found has columns
  pub columns_kept : (slot : ℕ) (name : List ℕ) → IsSlotNamed kinds.Container slot name x.definitions → IsSome (heading_in x.definitions slot)
  columns_kept slot name named =
      let rules = bare_rules x kept in
      let c = container_found (bare_of x) name slot rules named.is in
      let r = row_type_of_container (bare_of x) slot c.0 rules c.1.there in
      let own : heading_in x.definitions slot ≡ Some r.0.heading = ap (option_and_then (heading_of_container x.definitions)) c.1.there ∙ ap (option_map (λ (y : RowTypeDef). y.heading)) r.1.there in
      subst (λ (o : Option Heading). IsSome o) (sym own) refl

  -- a series is found by the key that it has in its slot
  pub key_kept : (slot : ℕ) (key : List ℕ) (container : ℕ) (regular : Option (ℕ × ℤ)) → slot < 4096 → at_slot slot (slots kinds.Series x.definitions) ≡ Some (defs.Series key container regular)
      → (key' : List ℕ) × IsSlotNamed kinds.Series slot key' x.definitions
  key_kept slot key container regular within is =
      let there = own_def of_series slot x.definitions.series (defs.Series key container regular) is in
      let at = series_at (bare_of x) slot there.0 (bare_rules x kept) there.1 in
      (there.0.key, record { within = within; is = at.named })

-- of a slot whose series doesn't stand in the container nothing is said
pub outside_none : (b : Binding) (from to : ℤ) (l : Layout) (container slot : ℕ) (o : Option SeriesDef) → stands_in container o ≡ false → folded_if b from to l container slot o ≡ []
outside_none b from to l container slot None is = refl
outside_none b from to l container slot (Some s) is = ap (λ (t : Bool). cond t ((s.key, folded_range b from to (elements_at slot l.element_pages)) ∷ []) []) is

-- none of a slot that has no series of the container
pub none_said : (b : Binding) (rows : List (List ℕ × Row)) (out : List ℕ) → rows ≡ [] → AreSaid b rows out out 0
none_said b rows out none =
    let line = series_folded_line (scales_of b) in
    record { lines = sym (append-nil out) ∙ ap (λ (rs : List (List ℕ × Row)). out ++ flat_map line rs) (sym none); number = ap (λ (rs : List (List ℕ × Row)). length rs) (sym none) }

-- a series that stands in the container, and what is said of it
pub stands_some : (container : ℕ) (o : Option SeriesDef) → stands_in container o ≡ true → (s : SeriesDef) × (o ≡ Some s) × (s.container ≡ container)
stands_some container None is = absurd (cc)
stands_some container (Some s) is = (s, refl, grind (arith, nat_tests))

pub inside_one : (b : Binding) (from to : ℤ) (l : Layout) (container slot : ℕ) (o : Option SeriesDef) (key : List ℕ) (row : Row) → stands_in container o ≡ true → option_map (λ (s : SeriesDef). s.key) o ≡ Some key → row ≡ folded_range b from to (elements_at slot l.element_pages)
    → folded_if b from to l container slot o ≡ (key, row) ∷ []
inside_one b from to l container slot None key row is named made = absurd (cc)
inside_one b from to l container slot (Some s) key row is named made =
    let same : s.key ≡ key = cc in
    ap (λ (t : Bool). cond t ((s.key, folded_range b from to (elements_at slot l.element_pages)) ∷ []) []) is ∙ (λ i. (same i, sym made i) ∷ [])

-- the columns of the container of a series
pub own_columns : (x : View) (container slot : ℕ) (h : Heading) → stands_in container (at_slot slot x.definitions.series) ≡ true → heading_at x.definitions slot ≡ Some h → (columns : List Column)
    → option_map (λ (y : Heading). y.columns) (heading_in x.definitions container) ≡ Some columns → columns ≡ h.columns
own_columns x container slot h stands is columns of =
    let there = stands_some container (at_slot slot x.definitions.series) stands in
    let at : heading_in x.definitions container ≡ Some h =
    ap (λ (n : ℕ). heading_in x.definitions n) (sym there.2) ∙ sym (ap (option_and_then (λ (s : SeriesDef). heading_in x.definitions s.container)) there.1) ∙ is in
    one_of (option_map (λ (y : Heading). y.columns) (heading_in x.definitions container)) columns h.columns of (ap (option_map (λ (y : Heading). y.columns)) at)

-- the series in a slot of the container
module _ (tells : Bool) (x : View) (l : Layout) (shape : Shape) (laid : IsLaidOut shape) (slot : ℕ) (h : Heading) (told : IsTrue tells) (shows : Shows tells x l) (columns : heading_at x.definitions slot ≡ Some h) (lies : shape_at x.definitions slot ≡ Some shape)
    (within : slot < 4096) (container : ℕ) (stands : stands_in container (at_slot slot x.definitions.series) ≡ true) (key : List ℕ) (named : option_map (λ (s : SeriesDef). s.key) (at_slot slot x.definitions.series) ≡ Some key)
    (b : Binding) (of : option_map (λ (y : Heading). y.columns) (heading_in x.definitions container) ≡ Some b.columns) where
  pub one_said : (from to : ℤ) (v w : Fold) (row : Row) (out said scales : List ℕ) → IsFresh b v → IsTold tells shape slot h.columns (places_of slot x.space) x.pages (λ es. Folds h.columns v (map (λ e. e.1) (within_range from to es)) row w)
      → scales ≡ scales_of b → said ≡ out ++ series_folded_line scales (key, row) → IsFresh b w × AreSaid b (folded_at b from to l container slot) out said 1
  one_said from to v w row out said scales fresh folds are line =
      let made = range_folded tells x l shape laid slot h told shows columns lies within b (own_columns x container slot h stands columns b.columns of) v fresh from to row w folds in
      let whole : folded_at b from to l container slot ≡ (key, row) ∷ [] =
      ap (λ (d : Definitions). folded_if b from to l container slot (at_slot slot d.series)) (sym shows.kept.definitions) ∙ inside_one b from to l container slot (at_slot slot x.definitions.series) key row stands named made.0 in (
        made.1,
        record {
          lines = line ∙ (λ i. out ++ series_folded_line (are i) (key, row)) ∙ (λ i. out ++ sym (append-nil (series_folded_line (scales_of b) (key, row))) i)
              ∙ ap (λ (rs : List (List ℕ × Row)). out ++ flat_map (series_folded_line (scales_of b)) rs) (sym whole);
          number = ap (λ (rs : List (List ℕ × Row)). length rs) (sym whole);
        },
      )

-- one slot after others
pub said_behind : (b : Binding) (rows more : List (List ℕ × Row)) (out middle said : List ℕ) (m n : ℕ) → AreSaid b rows out middle m → AreSaid b more middle said n → AreSaid b (rows ++ more) out said (m + n)
said_behind b rows more out middle said m n first second =
    let line = series_folded_line (scales_of b) in
    record {
      lines = second.lines ∙ ap (λ (l : List ℕ). l ++ flat_map line more) first.lines ∙ append_assoc out (flat_map line rows) (flat_map line more) ∙ ap (λ (l : List ℕ). out ++ l) (sym (flat_map-append line rows more));
      number = (λ i. first.number i + second.number i) ∙ sym (length-append rows more);
    }

-- the series in the first of some slots
pub said_first : (b : Binding) (f : ℕ → List (List ℕ × Row)) (items : List ℕ) (d : ℕ) (out said : List ℕ) (n : ℕ) → 0 < length items → AreSaid b (f (get_or items 0 d)) out said n → AreSaid b (flat_map f (take 1 items)) out said n
said_first b f [] d out said n some one = absurd (omega arith)
said_first b f (item ∷ items) d out said n some one = subst (λ (rows : List (List ℕ × Row)). AreSaid b rows out said n) (sym (append-nil (f item))) one

-- those in the next of some slots
pub said_next : (b : Binding) (f : ℕ → List (List ℕ × Row)) (items next : List ℕ) (i k : ℕ) (out middle said : List ℕ) (m n : ℕ) → next ≡ drop i items → AreSaid b (flat_map f (take i items)) out middle m → AreSaid b (flat_map f (take k next)) middle said n
    → AreSaid b (flat_map f (take (i + k) items)) out said (m + n)
said_next b f items next i k out middle said m n is first second =
    let more : flat_map f (take (i + k) items) ≡ flat_map f (take i items) ++ flat_map f (take k next) =
    ap (flat_map f) (take-add i k items) ∙ flat_map-append f (take i items) (take k (drop i items)) ∙ ap (λ (rest : List ℕ). flat_map f (take i items) ++ flat_map f (take k rest)) (sym is) in
    subst (λ (rows : List (List ℕ × Row)). AreSaid b rows out said (m + n)) (sym more) (said_behind b (flat_map f (take i items)) (flat_map f (take k next)) out middle said m n first second)

-- all series of the container
pub all_listed : (l : Layout) (name : List ℕ) (holder : ℕ) (rules : IsSound l) (container : Container) → Stands kinds.Container name l holder container → (b : Binding) (from to : ℤ)
    → folded_in b from to l holder ≡ map (λ s. (s.0, folded_range b from to s.1.elements)) (series_in name (catalogue_of l))
all_listed l name holder rules container stands b from to =
    made_in_order l name holder rules stands.at.is (folded_at b from to l holder) (λ (s : List ℕ × Series). (s.0, folded_range b from to s.1.elements)) (λ slot s here. ap (folded_if b from to l holder slot) here)

-- they are said, and how many they are
pub all_said : (l : Layout) (name : List ℕ) (holder : ℕ) (rules : IsSound l) (container : Container) → Stands kinds.Container name l holder container → (b : Binding) (from to : ℤ) (empty middle out : List ℕ) (count : ℕ)
    → empty ≡ [] → AreSaid b (folded_in b from to l holder) empty middle count → out ≡ middle ++ count_line count
    → out ≡ series_folded_text (scales_of b) (map (λ s. (s.0, folded_range b from to s.1.elements)) (series_in name (catalogue_of l)))
unfolding series_folded_text
all_said l name holder rules container stands b from to empty middle out count none said counted =
    let rows = folded_in b from to l holder in
    let lines : middle ≡ flat_map (series_folded_line (scales_of b)) rows = said.lines ∙ ap (λ (t : List ℕ). t ++ flat_map (series_folded_line (scales_of b)) rows) none in
    counted ∙ (λ i. lines i ++ count_line (said.number i)) ∙ ap (series_folded_text (scales_of b)) (all_listed l name holder rules container stands b from to)
