-- What comes of the elements of a series that is seen, test after test, a row for each: running values, or those of expressions.
use Rattle.std.proofs.Common.{◌≡◌, ℕ, ℤ, Bool, true, false, IsTrue, Result, Ok, Err, Option, Some, None, List, [], ◌∷◌, length, refl, ap, sym, subst, ◌∙◌}
use Rattle.std.specs.FinMap.{entries}
use Rattle.std.specs.Prelude.{unsigned_abs, unwrap_or, if◌then◌else◌}
use Rattle.ts_base.specs.declared.refusal.Refusal.{Refusal}
use Rattle.ts_base.specs.declared.refusal.Refusal.TheVariants.{BadExpression}
use Rattle.ts_base.specs.declared.fault.Trouble.{Trouble}
use Rattle.ts_base.specs.Answer.{Answers, within_rows}
use Rattle.ts_command.specs.declared.command.Command.TheVariants.{Apply}
use Rattle.ts_row.specs.declared.kind.ColumnKind.{ColumnKind}
use Rattle.ts_row.specs.declared.kind.Column.{Column}
use Rattle.ts_row.specs.Row.{Heading, Element}
use Rattle.ts_space.specs.Directory.{places_of}
use Rattle.ts_sheets.specs.Stamped.{within_range}
use Rattle.ts_offset.specs.declared.shape.Shape.{Shape}
use Rattle.ts_expr.specs.declared.function.Function.{Function}
use Rattle.ts_expr.specs.declared.function.Function.TheVariants.{Sum, Avg, Count, Min, Max, First, Last}
use Rattle.ts_expr.specs.declared.item.BoundItem.{BoundItem}
use Rattle.ts_expr.specs.Aggregates.{item, column_from, takes_kind, bound_item, bound_to, bound}
use Rattle.ts_clip.specs.Series.{IsTold}
use Rattle.ts_offset.specs.Shape.{IsLaidOut}
use Rattle.ts_entry.specs.Handed.{AreHanded}
use Rattle.ts_running.specs.Grammar.{read_column, Named, read_exprs}
use Rattle.ts_running.specs.Binding.{Sourced, binding, part_scales, made_of_all}
use Rattle.ts_running.specs.Places.{is_running}
use Rattle.ts_running.specs.Rows.{running, scales_of, applied_rows, Window, window}
use Rattle.ts_running_rows.specs.Call.{rows_by, rows_within}
use Rattle.ts_running_rows.specs.Run.{Begins}
use Rattle.ts_model.specs.Catalogue.{Series, Catalogue, columns_of}
use Rattle.ts_layout.specs.Meaning.{Layout, elements_at, catalogue_of}
use Rattle.ts_answer.specs.Answer.{Tried, Answered, ◌>>=◌, wanted, outcome, carried_out, running_values, apply_exprs, seen_elements}
use Rattle.ts_answer.specs.Reply.{folded_text}
use Rattle.ts_answer.specs.Tried.{IsRefusedAs}
use Rattle.ts_answer.specs.View.{View, Shows}
use Rattle.ts_answer.proofs.CallerLemmas.{on_ok, refused_as}
use Rattle.ts_shelf.specs.Shelf.{IsShelf}
use Rattle.ts_shelf.proofs.SeenLemmas.{elements_seen, entries_in, shelf_seen}
use Rattle.ts_shelf.proofs.FoldLemmas.{not_answered}
use Rattle.ts_series_rows.specs.Running.{running_of}
use Rattle.ts_series_rows.proofs.AggregateLemmas.{handed_all, handed_none}

-- the command of a function that has running values is answered by it
pub running_is : (function : Function) → IsTrue (is_running function) → (text key : List ℕ) (span from to : ℤ) (cat : Catalogue) →
    outcome (Ok (running_of function text key span from to)) cat ≡ running_values function text key (unsigned_abs span) from to cat
unfolding outcome carried_out
running_is Sum is text key span from to cat = refl
running_is Avg is text key span from to cat = refl
running_is Count is text key span from to cat = absurd (cc)
running_is Min is text key span from to cat = absurd (cc)
running_is Max is text key span from to cat = absurd (cc)
running_is First is text key span from to cat = absurd (cc)
running_is Last is text key span from to cat = absurd (cc)

-- an item has the function that it is bound for
taken_function : (function : Function) (takes : Bool) (n : ℕ) (kind : ColumnKind) (b : BoundItem) →
    (if takes then Ok (bound_item function n kind) else Err (BadExpression 0)) ≡ Ok b → b.function ≡ function
taken_function function true n kind b is =
    let same : bound_item function n kind ≡ b = cc in sym (ap (λ (i : BoundItem). i.function) same)
taken_function function false n kind b is = absurd (cc)

found_function : (function : Function) (found : Option (ℕ × ColumnKind)) (b : BoundItem) → bound_to function found ≡ Ok b →
    b.function ≡ function
found_function function None b is = absurd (cc)
found_function function (Some c) b is = taken_function function (takes_kind function c.1) c.0 c.1 b is

-- an empty window and such an item begin running values
pub begins_with : (function : Function) → IsTrue (is_running function) → (columns : List Column) (name : List ℕ) (b : BoundItem) (w : Window)
    (n : ℕ) → bound columns (item function name) ≡ Ok b → w ≡ window [] n → Begins w b
begins_with function is columns name b w n found fresh = record {
  empty = ap (λ (x : Window). x.values) fresh;
  running = subst (λ (f : Function). IsTrue (is_running f)) (sym (found_function function (column_from 0 name columns) b found)) is;
}

-- what a text reads as, and how its answer stands where the text is another only by name
pub column_read : (bytes text column : List ℕ) → bytes ≡ text → Answers (read_column bytes) (Ok column) → read_column text ≡ Ok column
column_read bytes text column same is = ap read_column (sym same) ∙ is

pub column_unread : (bytes text : List ℕ) (trouble : Trouble) → bytes ≡ text → Answers {A = List ℕ} (read_column bytes) (Err trouble) →
    IsRefusedAs trouble (read_column text)
column_unread bytes text trouble same is =
    subst (λ (t : List ℕ). IsRefusedAs trouble (read_column t)) same (not_answered (read_column bytes) trouble is)

-- a name for which there is no column, by what they are
pub column_unbound : (function : Function) (columns same : List Column) (bytes column : List ℕ) (trouble : Trouble) → same ≡ columns →
    bytes ≡ column → Answers {A = BoundItem} (bound columns (item function bytes)) (Err trouble) →
    IsRefusedAs trouble (bound same (item function column))
column_unbound function columns same bytes column trouble is named fails =
    subst (λ (cs : List Column). IsRefusedAs trouble (bound cs (item function column))) (sym is)
    (subst (λ (name : List ℕ). IsRefusedAs trouble (bound columns (item function name))) named
    (not_answered (bound columns (item function bytes)) trouble fails))

pub exprs_read : (bytes text : List ℕ) (exprs : List Named) → bytes ≡ text → Answers (read_exprs bytes) (Ok exprs) →
    read_exprs text ≡ Ok exprs
exprs_read bytes text exprs same is = ap read_exprs (sym same) ∙ is

pub exprs_unread : (bytes text : List ℕ) (trouble : Trouble) → bytes ≡ text → Answers {A = List Named} (read_exprs bytes) (Err trouble) →
    IsRefusedAs trouble (read_exprs text)
exprs_unread bytes text trouble same is =
    subst (λ (t : List ℕ). IsRefusedAs trouble (read_exprs t)) same (not_answered (read_exprs bytes) trouble is)

pub exprs_unbound : (columns same : List Column) (exprs : List Named) (trouble : Trouble) → same ≡ columns →
    Answers {A = List Sourced} (binding columns exprs) (Err trouble) → IsRefusedAs trouble (binding same exprs)
exprs_unbound columns same exprs trouble is fails =
    subst (λ (cs : List Column). IsRefusedAs trouble (binding cs exprs)) (sym is) (not_answered (binding columns exprs) trouble fails)

-- rows that are said, where they are made, or refused
abbrev SaidBy : (List Element → Tried (List Element)) → Tried (List Element) → (List Element → Answered) → Tried Answered
SaidBy make few says = few >>= (λ es. make es >>= (λ rows. Ok (says rows)))

made_said : (make : List Element → Tried (List Element)) (few : Tried (List Element)) (says : List Element → Answered)
    (rows : List Element) → rows_by make few ≡ Ok rows → SaidBy make few says ≡ Ok (says rows)
unfolding ◌>>=◌
made_said make (Ok es) says rows is = ap (λ (t : Tried (List Element)). t >>= (λ rows. let a : Tried Answered = Ok (says rows) in a)) is
made_said make (Err why) says rows is = absurd (cc)

made_refused : (make : List Element → Tried (List Element)) (few : Tried (List Element)) (says : List Element → Answered)
    (why : Refusal) → rows_by make few ≡ Err why → SaidBy make few says ≡ Err why
unfolding ◌>>=◌
made_refused make (Ok es) says why is = ap (λ (t : Tried (List Element)). t >>= (λ rows. let a : Tried Answered = Ok (says rows) in a)) is
made_refused make (Err other) says why is = let same : other ≡ why = cc in ap (λ (r : Refusal). let a : Tried Answered = Err r in a) same

-- what running values come to, test after test
module _ (function : Function) (text key : List ℕ) (n : ℕ) (from to : ℤ) (cat : Catalogue) where
  pub run_unread : (trouble : Trouble) → IsRefusedAs trouble (read_column text) →
      IsRefusedAs trouble (running_values function text key n from to cat)
  unfolding running_values
  run_unread trouble is = refused_as trouble _ _ is

  module _ (column : List ℕ) (read : read_column text ≡ Ok column) where
    pub run_unknown : (trouble : Trouble) → IsRefusedAs trouble (wanted key cat.series) →
        IsRefusedAs trouble (running_values function text key n from to cat)
    unfolding running_values
    run_unknown trouble is = subst (IsRefusedAs trouble) (sym (on_ok _ column _ read)) (refused_as trouble _ _ is)

    module _ (series : Series) (there : wanted key cat.series ≡ Ok series) where
      pub run_unbound : (trouble : Trouble) → IsRefusedAs trouble (bound (columns_of cat series) (item function column)) →
          IsRefusedAs trouble (running_values function text key n from to cat)
      unfolding running_values
      run_unbound trouble is =
          subst (IsRefusedAs trouble) (sym (on_ok _ column _ read ∙ on_ok _ series _ there)) (refused_as trouble _ _ is)

      pub run_comes : (b : BoundItem) → bound (columns_of cat series) (item function column) ≡ Ok b →
          running_values function text key n from to cat
          ≡ SaidBy (λ es. Ok (running function b.column n es)) (within_rows (within_range from to (seen_elements series.elements)))
          (λ rows. (folded_text (b.scale ∷ []) rows, cat))
      unfolding running_values ◌>>=◌
      run_comes b is = on_ok _ column _ read ∙ on_ok _ series _ there ∙ on_ok _ b _ is

-- what expressions come to
module _ (text key : List ℕ) (from to : ℤ) (cat : Catalogue) where
  pub apply_unread : (trouble : Trouble) → IsRefusedAs trouble (read_exprs text) →
      IsRefusedAs trouble (outcome (Ok (Apply text key from to)) cat)
  unfolding outcome carried_out apply_exprs
  apply_unread trouble is = refused_as trouble _ _ is

  module _ (exprs : List Named) (read : read_exprs text ≡ Ok exprs) where
    pub apply_unknown : (trouble : Trouble) → IsRefusedAs trouble (wanted key cat.series) →
        IsRefusedAs trouble (outcome (Ok (Apply text key from to)) cat)
    unfolding outcome carried_out apply_exprs
    apply_unknown trouble is = subst (IsRefusedAs trouble) (sym (on_ok _ exprs _ read)) (refused_as trouble _ _ is)

    module _ (series : Series) (there : wanted key cat.series ≡ Ok series) where
      pub apply_unbound : (trouble : Trouble) → IsRefusedAs trouble (binding (columns_of cat series) exprs) →
          IsRefusedAs trouble (outcome (Ok (Apply text key from to)) cat)
      unfolding outcome carried_out apply_exprs
      apply_unbound trouble is =
          subst (IsRefusedAs trouble) (sym (on_ok _ exprs _ read ∙ on_ok _ series _ there)) (refused_as trouble _ _ is)

      pub apply_comes : (b : List Sourced) → binding (columns_of cat series) exprs ≡ Ok b →
          outcome (Ok (Apply text key from to)) cat
          ≡ SaidBy (applied_rows b) (within_rows (within_range from to (seen_elements series.elements)))
          (λ rows. (folded_text (scales_of b) rows, cat))
      unfolding outcome carried_out apply_exprs
      apply_comes b is = on_ok _ exprs _ read ∙ on_ok _ series _ there ∙ on_ok _ b _ is

-- of a series that is seen
module _ (tells : Bool) (x : View) (l : Layout) (shape : Shape) (laid : IsLaidOut shape) (slot : ℕ) (h : Heading) (key : List ℕ)
    (told : IsTrue tells) (shows : Shows tells x l) (found : IsShelf shape slot h key x.definitions) (took : List Element → Type 0)
    (make : List Element → Tried (List Element)) (from to : ℤ) where
  abbrev Handed : Result ℕ Refusal → Type 0
  Handed done =
      IsTold tells shape slot h.columns (places_of slot x.space) x.pages (λ es. AreHanded took (rows_within make from to es) done)

  -- its rows in a range
  rows_handed : (done : Result ℕ Refusal) → Handed done →
      AreHanded took (rows_within make from to (entries (elements_at slot l.element_pages))) done
  rows_handed done read =
      let all = elements_seen tells x l shape laid slot h told shows found.columns found.lies found.named.within in
      let listed = entries_in shape slot h.columns x.pages.page (places_of slot x.space) l all.0 all.1 in
      subst (λ (es : List Element). AreHanded took (rows_within make from to es) done) (sym listed) (read told all.0 all.1.have)

  abbrev few : Tried (List Element)
  few = within_rows (within_range from to (seen_elements (elements_at slot l.element_pages)))

  rows_refused : (says : List Element → Answered) (refusal : Refusal) → Handed (Err refusal) → SaidBy make few says ≡ Err refusal
  rows_refused says refusal read =
      made_refused make few says refusal (handed_none took (rows_by make few) refusal (rows_handed (Err refusal) read))

  rows_all : (says : List Element → Answered) (count : ℕ) → Handed (Ok count) →
      (rows : List Element) × took rows × (count ≡ length rows) × (SaidBy make few says ≡ Ok (says rows))
  rows_all says count read =
      let all = handed_all took (rows_by make few) count (rows_handed (Ok count) read) in
      (all.0, all.2, all.3, made_said make few says all.0 all.1)

-- running values of a series that is seen
module _ (tells : Bool) (x : View) (l : Layout) (shape : Shape) (laid : IsLaidOut shape) (slot : ℕ) (h : Heading) (key : List ℕ)
    (told : IsTrue tells) (shows : Shows tells x l) (found : IsShelf shape slot h key x.definitions) (took : List Element → Type 0)
    (function : Function) (text column : List ℕ) (read : read_column text ≡ Ok column) (b : BoundItem)
    (is : bound h.columns (item function column) ≡ Ok b) (n : ℕ) (from to : ℤ) where
  abbrev make : List Element → Tried (List Element)
  make es = Ok (running function b.column n es)

  abbrev says : List Element → Answered
  says rows = (folded_text (b.scale ∷ []) rows, catalogue_of l)

  run_outcome : running_values function text key n from to (catalogue_of l)
      ≡ SaidBy make (within_rows (within_range from to (seen_elements (elements_at slot l.element_pages)))) says
  run_outcome =
      let tried = shelf_seen x l shows.kept key shape slot h found in
      run_comes function text key n from to (catalogue_of l) column read tried.0 tried.1 b
      (ap (λ (cs : List Column). bound cs (item function column)) tried.2.columns ∙ is)
      ∙ ap (λ (s : Series). SaidBy make (within_rows (within_range from to (seen_elements s.elements))) says) tried.2.stands.is.2

  -- the rows of a function
  abbrev made_by : Function → List Element → Tried (List Element)
  made_by f es = Ok (running f b.column n es)

  -- what is handed on by the item's function is so by the function that it was bound for
  handed_by : (done : Result ℕ Refusal) →
      Handed tells x l shape laid slot h key told shows found took (made_by b.function) from to done →
      Handed tells x l shape laid slot h key told shows found took make from to done
  handed_by done = subst (λ (f : Function). Handed tells x l shape laid slot h key told shows found took (made_by f) from to done)
      (found_function function (column_from 0 column h.columns) b is)

  pub run_refused : (refusal : Refusal) →
      Handed tells x l shape laid slot h key told shows found took (made_by b.function) from to (Err refusal) →
      running_values function text key n from to (catalogue_of l) ≡ Err refusal
  run_refused refusal handed =
      run_outcome
      ∙ rows_refused tells x l shape laid slot h key told shows found took make from to says refusal (handed_by (Err refusal) handed)

  pub run_said : (count : ℕ) (out : List ℕ) →
      Handed tells x l shape laid slot h key told shows found took (made_by b.function) from to (Ok count) →
      ((rows : List Element) → took rows → count ≡ length rows → out ≡ folded_text (b.scale ∷ []) rows) →
      running_values function text key n from to (catalogue_of l) ≡ Ok (out, catalogue_of l)
  run_said count out handed is_said =
      let all = rows_all tells x l shape laid slot h key told shows found took make from to says count (handed_by (Ok count) handed) in
      run_outcome ∙ all.3 ∙ ap (λ (t : List ℕ). let a : Tried Answered = Ok (t, catalogue_of l) in a) (sym (is_said all.0 all.1 all.2))

-- expressions over the elements of a series that is seen
module _ (tells : Bool) (x : View) (l : Layout) (shape : Shape) (laid : IsLaidOut shape) (slot : ℕ) (h : Heading) (key : List ℕ)
    (told : IsTrue tells) (shows : Shows tells x l) (found : IsShelf shape slot h key x.definitions) (took : List Element → Type 0)
    (text : List ℕ) (exprs : List Named) (read : read_exprs text ≡ Ok exprs) (b : List Sourced)
    (is : binding h.columns exprs ≡ Ok b) (from to : ℤ) where
  abbrev tells_rows : List Element → Answered
  tells_rows rows = (folded_text (scales_of b) rows, catalogue_of l)

  apply_outcome : outcome (Ok (Apply text key from to)) (catalogue_of l)
      ≡ SaidBy (applied_rows b) (within_rows (within_range from to (seen_elements (elements_at slot l.element_pages)))) tells_rows
  apply_outcome =
      let tried = shelf_seen x l shows.kept key shape slot h found in
      apply_comes text key from to (catalogue_of l) exprs read tried.0 tried.1 b
      (ap (λ (cs : List Column). binding cs exprs) tried.2.columns ∙ is)
      ∙ ap (λ (s : Series). SaidBy (applied_rows b) (within_rows (within_range from to (seen_elements s.elements))) tells_rows)
      tried.2.stands.is.2

  pub apply_refused : (refusal : Refusal) →
      Handed tells x l shape laid slot h key told shows found took (applied_rows b) from to (Err refusal) →
      outcome (Ok (Apply text key from to)) (catalogue_of l) ≡ Err refusal
  apply_refused refusal handed =
      apply_outcome ∙ rows_refused tells x l shape laid slot h key told shows found took (applied_rows b) from to tells_rows refusal handed

  pub apply_said : (count : ℕ) (out : List ℕ) →
      Handed tells x l shape laid slot h key told shows found took (applied_rows b) from to (Ok count) →
      ((rows : List Element) → took rows → count ≡ length rows → out ≡ folded_text (scales_of b) rows) →
      outcome (Ok (Apply text key from to)) (catalogue_of l) ≡ Ok (out, catalogue_of l)
  apply_said count out handed is_said =
      let all = rows_all tells x l shape laid slot h key told shows found took (applied_rows b) from to tells_rows count handed in
      apply_outcome ∙ all.3 ∙ ap (λ (t : List ℕ). let a : Tried Answered = Ok (t, catalogue_of l) in a) (sym (is_said all.0 all.1 all.2))

-- the scales that a list of expressions tells
pub scales_are : (b : List Sourced) (scales : List ℕ) → made_of_all part_scales b ≡ Some scales → scales ≡ scales_of b
scales_are b scales is = ap (λ (found : Option (List ℕ)). unwrap_or found []) (sym is)
