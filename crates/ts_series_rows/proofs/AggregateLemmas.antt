-- What a list makes of the elements of a series that is seen, test after test: those of a range, or those of each on interval.
use Rattle.std.proofs.Common.{◌≡◌, ℕ, ◌<◌, ℤ, Bool, IsTrue, Result, Ok, Err, Some, List, [], ◌∷◌, ◌++◌, map, length, refl, ap, sym, subst, ◌∙◌}
use Rattle.std.specs.List.{flat_map}
use Rattle.std.specs.FinMap.{entries}
use Rattle.ts_base.specs.declared.refusal.Refusal.{Refusal}
use Rattle.ts_base.specs.declared.fault.Trouble.{Trouble}
use Rattle.ts_command.specs.declared.command.Command.TheVariants.{AggregateBy, AggregateRange}
use Rattle.ts_row.specs.declared.kind.Column.{Column}
use Rattle.ts_row.specs.Row.{Heading, Row, Element, seen}
use Rattle.ts_space.specs.Directory.{places_of}
use Rattle.ts_sheets.specs.Stamped.{within_range}
use Rattle.ts_calendar.specs.Calendars.{CalendarPlan}
use Rattle.ts_offset.specs.declared.shape.Shape.{Shape}
use Rattle.ts_base.specs.Answer.{within_rows}
use Rattle.ts_entry.specs.Entry.{by_interval}
use Rattle.ts_expr.specs.declared.item.Item.{Item}
use Rattle.ts_expr.specs.Aggregates.{read_list, Binding, binding, folded_row}
use Rattle.ts_clip.specs.Series.{IsTold}
use Rattle.ts_offset.specs.Shape.{IsLaidOut}
use Rattle.ts_aggregate.specs.Fold.{Fold, Folds, HasTaken}
use Rattle.ts_entry.specs.Handed.{AreHanded}
use Rattle.ts_model.specs.Catalogue.{Series, Catalogue, columns_of}
use Rattle.ts_layout.specs.Meaning.{Layout, elements_at, heading_at, shape_at, catalogue_of}
use Rattle.ts_answer.specs.Answer.{Tried, Answered, ◌>>=◌, wanted, a_calendar, outcome, carried_out, aggregate_by, aggregate_range, scales_of, folded_range, seen_elements}
use Rattle.ts_answer.specs.Reply.{folded_line, folded_text, count_line}
use Rattle.ts_answer.specs.Tried.{IsRefusedAs}
use Rattle.ts_answer.specs.View.{View, Shows}
use Rattle.ts_answer.proofs.CallerLemmas.{on_ok, on_err, refused_as}
use Rattle.ts_shelf.specs.Fresh.{IsFresh}
use Rattle.ts_shelf.specs.Shelf.{IsShelf}
use Rattle.ts_shelf.proofs.SeenLemmas.{HasSeen, elements_seen, entries_in, shelf_seen}
use Rattle.ts_shelf.proofs.FoldLemmas.{fresh_columns, range_folded}

-- rows that were handed on, and those that are refused
pub handed_all : (took : List Element → Type 0) (answer : Tried (List Element)) (count : ℕ) → AreHanded took answer (Ok count) → (rows : List Element) × (answer ≡ Ok rows) × took rows × (count ≡ length rows)
handed_all took (Ok rows) count is = (rows, refl, is.0, is.1)
handed_all took (Err why) count is = absurd is

pub handed_none : (took : List Element → Type 0) (answer : Tried (List Element)) (refusal : Refusal) → AreHanded took answer (Err refusal) → answer ≡ Err refusal
handed_none took (Ok rows) refusal is = absurd is
handed_none took (Err why) refusal is = ap Err (sym is)

-- what the elements of a range come to, test after test
module _ (text key : List ℕ) (from to : ℤ) (cat : Catalogue) where
  pub range_unread : (trouble : Trouble) → IsRefusedAs trouble (read_list text) → IsRefusedAs trouble (outcome (Ok (AggregateRange text key from to)) cat)
  unfolding outcome carried_out aggregate_range
  range_unread trouble is = refused_as trouble _ _ is

  module _ (items : List Item) (read : read_list text ≡ Ok items) where
    pub range_unknown : (trouble : Trouble) → IsRefusedAs trouble (wanted key cat.series) → IsRefusedAs trouble (outcome (Ok (AggregateRange text key from to)) cat)
    unfolding outcome carried_out aggregate_range
    range_unknown trouble is = subst (IsRefusedAs trouble) (sym (on_ok _ items _ read)) (refused_as trouble _ _ is)

    module _ (series : Series) (there : wanted key cat.series ≡ Ok series) where
      pub range_unbound : (trouble : Trouble) → IsRefusedAs trouble (binding (columns_of cat series) items) → IsRefusedAs trouble (outcome (Ok (AggregateRange text key from to)) cat)
      unfolding outcome carried_out aggregate_range
      range_unbound trouble is = subst (IsRefusedAs trouble) (sym (on_ok _ items _ read ∙ on_ok _ series _ there)) (refused_as trouble _ _ is)

      pub range_comes : (b : Binding) → binding (columns_of cat series) items ≡ Ok b
          → outcome (Ok (AggregateRange text key from to)) cat ≡ Ok (folded_text (scales_of b) ((from, folded_range b from to series.elements) ∷ []), cat)
      unfolding outcome carried_out aggregate_range
      range_comes b bound = on_ok _ items _ read ∙ on_ok _ series _ there ∙ on_ok _ b _ bound

-- what those of on intervals come to
module _ (text calendar key : List ℕ) (from to : ℤ) (cat : Catalogue) where
  pub by_unread : (trouble : Trouble) → IsRefusedAs trouble (read_list text) → IsRefusedAs trouble (outcome (Ok (AggregateBy text calendar key from to)) cat)
  unfolding outcome carried_out aggregate_by
  by_unread trouble is = refused_as trouble _ _ is

  module _ (items : List Item) (read : read_list text ≡ Ok items) where
    pub by_no_calendar : (trouble : Trouble) → IsRefusedAs trouble (a_calendar calendar cat) → IsRefusedAs trouble (outcome (Ok (AggregateBy text calendar key from to)) cat)
    unfolding outcome carried_out aggregate_by
    by_no_calendar trouble is = subst (IsRefusedAs trouble) (sym (on_ok _ items _ read)) (refused_as trouble _ _ is)

    module _ (plan : CalendarPlan) (laid : a_calendar calendar cat ≡ Ok plan) where
      pub by_unknown : (trouble : Trouble) → IsRefusedAs trouble (wanted key cat.series) → IsRefusedAs trouble (outcome (Ok (AggregateBy text calendar key from to)) cat)
      unfolding outcome carried_out aggregate_by
      by_unknown trouble is = subst (IsRefusedAs trouble) (sym (on_ok _ items _ read ∙ on_ok _ plan _ laid)) (refused_as trouble _ _ is)

      module _ (series : Series) (there : wanted key cat.series ≡ Ok series) where
        pub by_unbound : (trouble : Trouble) → IsRefusedAs trouble (binding (columns_of cat series) items) → IsRefusedAs trouble (outcome (Ok (AggregateBy text calendar key from to)) cat)
        unfolding outcome carried_out aggregate_by
        by_unbound trouble is = subst (IsRefusedAs trouble) (sym (on_ok _ items _ read ∙ on_ok _ plan _ laid ∙ on_ok _ series _ there)) (refused_as trouble _ _ is)

        pub by_comes : (b : Binding) → binding (columns_of cat series) items ≡ Ok b
            → outcome (Ok (AggregateBy text calendar key from to)) cat
            ≡ (within_rows (by_interval (folded_row b.items) plan from to (seen_elements series.elements)) >>= (λ rows. let a : Answered = (folded_text (scales_of b) rows, cat) in Ok a))
        unfolding outcome carried_out aggregate_by
        by_comes b bound = on_ok _ items _ read ∙ on_ok _ plan _ laid ∙ on_ok _ series _ there ∙ on_ok _ b _ bound

-- of a series that is seen, by a fold of this list that had taken nothing
module _ (tells : Bool) (x : View) (l : Layout) (shape : Shape) (laid : IsLaidOut shape) (slot : ℕ) (h : Heading) (told : IsTrue tells) (shows : Shows tells x l) (columns : heading_at x.definitions slot ≡ Some h) (lies : shape_at x.definitions slot ≡ Some shape)
    (within : slot < 4096) (b : Binding) (of : b.columns ≡ h.columns) (v : Fold) (fresh : IsFresh b v) (from to : ℤ) where
  abbrev all : (es : List Element) × HasSeen shape slot h.columns x.pages.page (places_of slot x.space) l es
  all = elements_seen tells x l shape laid slot h told shows columns lies within

  abbrev listed : entries (elements_at slot l.element_pages) ≡ all.0
  listed = entries_in shape slot h.columns x.pages.page (places_of slot x.space) l all.0 all.1

  -- the rows of on intervals
  pub intervals_handed : (took : List Element → Type 0) (plan : CalendarPlan) (done : Result ℕ Refusal)
      → IsTold tells shape slot h.columns (places_of slot x.space) x.pages (λ es. h.columns ≡ v.binding.columns → HasTaken v []
      → AreHanded took (within_rows (by_interval (folded_row v.binding.items) plan from to (seen es))) done)
      → AreHanded took (within_rows (by_interval (folded_row b.items) plan from to (seen_elements (elements_at slot l.element_pages)))) done
  intervals_handed took plan done read =
      let handed = read told all.0 all.1.have (fresh_columns b v h.columns of fresh) fresh.1 in
      subst (λ (es : List Element). AreHanded took (within_rows (by_interval (folded_row b.items) plan from to (seen es))) done) (sym listed)
      (subst (λ (c : Binding). AreHanded took (within_rows (by_interval (folded_row c.items) plan from to (seen all.0))) done) fresh.0 handed)

-- a list that is bound to the columns of a series that is seen
module _ (tells : Bool) (x : View) (l : Layout) (shape : Shape) (laid : IsLaidOut shape) (slot : ℕ) (h : Heading) (key : List ℕ) (told : IsTrue tells) (shows : Shows tells x l) (found : IsShelf shape slot h key x.definitions)
    (text : List ℕ) (items : List Item) (read : read_list text ≡ Ok items) (b : Binding) (bound : binding h.columns items ≡ Ok b) (of : b.columns ≡ h.columns) (v : Fold) (fresh : IsFresh b v) (from to : ℤ) where
  -- its row is said
  pub range_said : (row : Row) (w : Fold) → IsTold tells shape slot h.columns (places_of slot x.space) x.pages (λ es. Folds h.columns v (map (λ e. e.1) (within_range from to es)) row w)
      → outcome (Ok (AggregateRange text key from to)) (catalogue_of l) ≡ Ok (folded_text (scales_of b) ((from, row) ∷ []), catalogue_of l)
  range_said row w folds =
      let tried = shelf_seen x l shows.kept key shape slot h found in
      let made = (range_folded tells x l shape laid slot h told shows found.columns found.lies found.named.within b of v fresh from to row w folds).0 in
      let row_is : folded_range b from to tried.0.elements ≡ row = ap (λ (s : Series). folded_range b from to s.elements) tried.2.stands.is.2 ∙ sym made in
      range_comes text key from to (catalogue_of l) items read tried.0 tried.1 b (ap (λ (cs : List Column). binding cs items) tried.2.columns ∙ bound)
      ∙ ap (λ (r : Row). let a : Answered = (folded_text (scales_of b) ((from, r) ∷ []), catalogue_of l) in Ok a) row_is

  module _ (calendar : List ℕ) (plan : CalendarPlan) (there : a_calendar calendar (catalogue_of l) ≡ Ok plan) (took : List Element → Type 0) where
    by_outcome : outcome (Ok (AggregateBy text calendar key from to)) (catalogue_of l)
        ≡ (within_rows (by_interval (folded_row b.items) plan from to (seen_elements (elements_at slot l.element_pages))) >>= (λ rows. let a : Answered = (folded_text (scales_of b) rows, catalogue_of l) in Ok a))
    by_outcome =
        let tried = shelf_seen x l shows.kept key shape slot h found in
        by_comes text calendar key from to (catalogue_of l) items read plan there tried.0 tried.1 b (ap (λ (cs : List Column). binding cs items) tried.2.columns ∙ bound)
        ∙ ap (λ (s : Series). within_rows (by_interval (folded_row b.items) plan from to (seen_elements s.elements)) >>= (λ rows. let a : Answered = (folded_text (scales_of b) rows, catalogue_of l) in Ok a)) tried.2.stands.is.2

    abbrev Handed : Result ℕ Refusal → Type 0
    Handed done =
        IsTold tells shape slot h.columns (places_of slot x.space) x.pages (λ es. h.columns ≡ v.binding.columns → HasTaken v []
        → AreHanded took (within_rows (by_interval (folded_row v.binding.items) plan from to (seen es))) done)

    -- its rows are too many
    pub by_refused : (refusal : Refusal) → Handed (Err refusal) → outcome (Ok (AggregateBy text calendar key from to)) (catalogue_of l) ≡ Err refusal
    by_refused refusal handed =
        by_outcome ∙ on_err _ refusal _ (handed_none took _ refusal (intervals_handed tells x l shape laid slot h told shows found.columns found.lies found.named.within b of v fresh from to took plan (Err refusal) handed))

    -- they are said
    pub by_said : (count : ℕ) (out : List ℕ) → Handed (Ok count) → ((rows : List Element) → took rows → count ≡ length rows → out ≡ folded_text (scales_of b) rows)
        → outcome (Ok (AggregateBy text calendar key from to)) (catalogue_of l) ≡ Ok (out, catalogue_of l)
    by_said count out handed says =
        let all = handed_all took _ count (intervals_handed tells x l shape laid slot h told shows found.columns found.lies found.named.within b of v fresh from to took plan (Ok count) handed) in
        by_outcome ∙ on_ok _ all.0 _ all.1 ∙ ap (λ (t : List ℕ). let a : Answered = (t, catalogue_of l) in Ok a) (sym (says all.0 all.2 all.3))

-- Lines of rows behind nothing, and their number: what is said once the lines are no longer borrowed.
pub rows_said : {Name : Type 0} (scales ours : List ℕ) (rows : List Element) (empty begun ended given after : List ℕ) (given_scales : List ℕ) (count : ℕ) (name first last : Name) → empty ≡ [] → begun ≡ empty → first ≡ name
    → given_scales ≡ scales → scales ≡ ours → (last ≡ first) × (ended ≡ begun ++ flat_map (folded_line given_scales) rows) → count ≡ length rows → after ≡ given ++ count_line count → (name ≡ last → given ≡ ended)
    → after ≡ folded_text ours rows
unfolding folded_text
rows_said scales ours rows empty begun ended given after given_scales count name first last none begins same scaled are took number counted back =
    let lines = back (sym (took.0 ∙ same)) ∙ took.1 ∙ (λ i. (begins ∙ none) i ++ flat_map (folded_line ((scaled ∙ are) i)) rows) in
    counted ∙ (λ i. lines i ++ count_line (number i))
