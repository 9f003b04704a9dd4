-- The entries of a series that is seen, those of them that are chosen, and what is said of them.
use Rattle.std.proofs.Common.{◌≡◌, ℕ, ℤ, Bool, IsTrue, Result, Ok, Err, List, [], ◌++◌, length, refl, ap, sym, subst, ◌∙◌}
use Rattle.std.specs.List.{flat_map}
use Rattle.std.specs.FinMap.{entries}
use Rattle.ts_base.specs.declared.refusal.Refusal.{Refusal}
use Rattle.ts_base.specs.declared.fault.Trouble.{Trouble}
use Rattle.ts_command.specs.declared.command.Command.TheVariants.{ClipGetCount}
use Rattle.ts_row.specs.declared.kind.Column.{Column}
use Rattle.ts_row.specs.Row.{Heading, Element, has_hidden}
use Rattle.ts_space.specs.Directory.{places_of}
use Rattle.ts_offset.specs.declared.shape.Shape.{Shape}
use Rattle.ts_entry.specs.Entry.{Entry, AreTaken, reading, clipped}
use Rattle.ts_clip.specs.Call.{IsRead, IsShown}
use Rattle.ts_clip.specs.Series.{IsTold}
use Rattle.ts_offset.specs.Shape.{IsLaidOut}
use Rattle.ts_model.specs.Catalogue.{Series, Catalogue, columns_of, shape_of}
use Rattle.ts_layout.specs.Meaning.{Layout, catalogue_of}
use Rattle.ts_answer.specs.Answer.{Tried, Answered, ◌>>=◌, known, wanted, outcome, carried_out, a_reading, get_nth_element, clip_series, clip_counted, count_clip}
use Rattle.ts_answer.specs.Reply.{entry_line, entries_text, count_line}
use Rattle.ts_answer.specs.Tried.{IsRefusedAs}
use Rattle.ts_answer.specs.View.{View, Shows}
use Rattle.ts_answer.proofs.CallerLemmas.{on_ok, on_err, refused_as}
use Rattle.ts_hidden.specs.Hidden.{IsSeenShown}
use Rattle.ts_shelf.specs.Shelf.{IsShelf, IsShelfIn}
use Rattle.ts_shelf.proofs.SeenLemmas.{HasSeen, elements_seen, entries_in, shelf_seen}
use Rattle.ts_series_rows.specs.declared.reading.Choice.{Choice}
use Rattle.ts_series_rows.specs.declared.reading.Choice.TheVariants.{Number, Range, Count}
use Rattle.ts_series_rows.specs.Readings.{reading_of, chosen}

-- entries that were read, and those that are refused
pub read_all : (took : List Entry → Type 0) (answer : Result (List Entry) Refusal) (count : ℕ) → IsRead took answer (Ok count) → (entries : List Entry) × (answer ≡ Ok entries) × AreTaken took entries count
read_all took (Ok entries) count is = (entries, refl, is)
read_all took (Err why) count is = absurd is

pub read_none : (took : List Entry → Type 0) (answer : Result (List Entry) Refusal) (refusal : Refusal) → IsRead took answer (Err refusal) → answer ≡ Err refusal
read_none took (Ok entries) refusal is = absurd is
read_none took (Err why) refusal is = ap Err (sym is.0)

-- what a reading of chosen entries comes to
abbrev of_series : Choice → Catalogue → Series → Tried Answered
of_series choice cat series = a_reading series cat >>= (λ all. chosen choice all >>= (λ rows. Ok (entries_text (columns_of cat series) rows, cat)))

comes_to : (choice : Choice) (key : List ℕ) (cat : Catalogue) → outcome (Ok (reading_of choice key)) cat ≡ (wanted key cat.series >>= of_series choice cat)
unfolding outcome carried_out get_nth_element clip_series clip_counted ◌>>=◌
comes_to (Number index) key cat = refl
comes_to (Range from to) key cat = refl
comes_to (Count stamp count) key cat = refl

-- a series that no one knows
pub entries_unknown : (choice : Choice) (key : List ℕ) (cat : Catalogue) (trouble : Trouble) → IsRefusedAs trouble (wanted key cat.series) → IsRefusedAs trouble (outcome (Ok (reading_of choice key)) cat)
entries_unknown choice key cat trouble is = subst (IsRefusedAs trouble) (sym (comes_to choice key cat)) (refused_as trouble _ _ is)

-- Lines of entries behind nothing, and their number: what is said once the lines are no longer borrowed.
pub entries_said : {Name : Type 0} (columns : List Column) (entries : List Entry) (empty begun ended given after : List ℕ) (count : ℕ) (name first last : Name) → empty ≡ [] → begun ≡ empty → first ≡ name
    → (last ≡ first) × (ended ≡ begun ++ flat_map (entry_line columns) entries) → count ≡ length entries → after ≡ given ++ count_line count → (name ≡ last → given ≡ ended) → after ≡ entries_text columns entries
unfolding entries_text
entries_said columns entries empty begun ended given after count name first last none begins same took number counted back =
    let lines = back (sym (took.0 ∙ same)) ∙ took.1 ∙ ap (λ (b : List ℕ). b ++ flat_map (entry_line columns) entries) (begins ∙ none) in
    counted ∙ (λ i. lines i ++ count_line (number i))

-- of a series that is seen
module _ (tells : Bool) (x : View) (l : Layout) (shape : Shape) (laid : IsLaidOut shape) (slot : ℕ) (h : Heading) (key : List ℕ) (told : IsTrue tells) (shows : Shows tells x l) (found : IsShelf shape slot h key x.definitions)
    (shown : Bool) (none : IsSeenShown shown tells key x) where
  abbrev all : (es : List Element) × HasSeen shape slot h.columns x.pages.page (places_of slot x.space) l es
  all = elements_seen tells x l shape laid slot h told shows found.columns found.lies found.named.within

  abbrev seen_es : List Element
  seen_es = all.0

  abbrev has : HasSeen shape slot h.columns x.pages.page (places_of slot x.space) l seen_es
  has = all.1

  own_entries : (series : Series) → IsShelfIn l key shape slot h series → entries series.elements ≡ seen_es
  own_entries series is = ap (λ (s : Series). entries s.elements) is.stands.is.2 ∙ entries_in shape slot h.columns x.pages.page (places_of slot x.space) l seen_es has

  -- what is told of its elements is so
  all_shown : IsShown shown seen_es
  all_shown tells_it =
      let tried = shelf_seen x l shows.kept key shape slot h found in
      sym (ap has_hidden (own_entries tried.0 tried.2)) ∙ none tells_it told l shows tried.0 tried.2.stands.listed

  all_entries : (series : Series) → IsShelfIn l key shape slot h series → a_reading series (catalogue_of l) ≡ Ok (reading shape seen_es)
  unfolding a_reading
  all_entries series is =
      on_ok (known (shape_of (catalogue_of l) series.kind)) shape _ (ap known is.lies)
      ∙ ap (λ (es : List Element). let t : Tried (List Entry) = Ok (reading shape es) in t) (own_entries series is)

  entries_outcome : (choice : Choice) → outcome (Ok (reading_of choice key)) (catalogue_of l) ≡ (chosen choice (reading shape seen_es) >>= (λ rows. let a : Answered = (entries_text h.columns rows, catalogue_of l) in Ok a))
  entries_outcome choice =
      let tried = shelf_seen x l shows.kept key shape slot h found in
      comes_to choice key (catalogue_of l) ∙ on_ok _ tried.0 _ tried.1 ∙ on_ok _ (reading shape seen_es) _ (all_entries tried.0 tried.2)
      ∙ ap (λ (columns : List Column). chosen choice (reading shape seen_es) >>= (λ rows. let a : Answered = (entries_text columns rows, catalogue_of l) in Ok a)) tried.2.columns

  pub entries_refused : (took : List Entry → Type 0) (choice : Choice) (refusal : Refusal) → IsTold tells shape slot h.columns (places_of slot x.space) x.pages (λ es. IsShown shown es → IsRead took (chosen choice (reading shape es)) (Err refusal))
      → outcome (Ok (reading_of choice key)) (catalogue_of l) ≡ Err refusal
  entries_refused took choice refusal read = entries_outcome choice ∙ on_err _ refusal _ (read_none took _ refusal (read told seen_es has.have all_shown))

  pub entries_come : (took : List Entry → Type 0) (choice : Choice) (count : ℕ) (out : List ℕ) → IsTold tells shape slot h.columns (places_of slot x.space) x.pages (λ es. IsShown shown es → IsRead took (chosen choice (reading shape es)) (Ok count))
      → ((entries : List Entry) → AreTaken took entries count → out ≡ entries_text h.columns entries) → outcome (Ok (reading_of choice key)) (catalogue_of l) ≡ Ok (out, catalogue_of l)
  entries_come took choice count out read says =
      let all = read_all took _ count (read told seen_es has.have all_shown) in
      entries_outcome choice ∙ on_ok _ all.0 _ all.1 ∙ ap (λ (text : List ℕ). let a : Answered = (text, catalogue_of l) in Ok a) (sym (says all.0 all.2))

  -- how many entries stand between two stamps
  pub count_comes : (from to : ℤ) (count : ℕ) → IsTold tells shape slot h.columns (places_of slot x.space) x.pages (λ es. IsShown shown es → count ≡ length (clipped from to (reading shape es)))
      → outcome (Ok (ClipGetCount key from to)) (catalogue_of l) ≡ Ok (count_line count, catalogue_of l)
  unfolding outcome carried_out count_clip
  count_comes from to count read =
      let tried = shelf_seen x l shows.kept key shape slot h found in
      on_ok _ tried.0 _ tried.1 ∙ on_ok _ (reading shape seen_es) _ (all_entries tried.0 tried.2)
      ∙ ap (λ (n : ℕ). let a : Answered = (count_line n, catalogue_of l) in Ok a) (sym (read told seen_es has.have all_shown))
