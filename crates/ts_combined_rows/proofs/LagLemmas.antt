-- What a series comes to against itself, by the rows that were handed on.
use Rattle.std.proofs.Common.{◌≡◌, ℕ, ℤ, Bool, IsTrue, Result, Ok, Err, List, length, refl, ap, sym, ◌∙◌}
use Rattle.ts_base.specs.declared.refusal.Refusal.{Refusal}
use Rattle.ts_command.specs.declared.command.Command.TheVariants.{Lag}
use Rattle.ts_row.specs.declared.kind.Column.{Column}
use Rattle.ts_row.specs.Row.{Heading, Element, seen}
use Rattle.ts_space.specs.Directory.{places_of}
use Rattle.ts_offset.specs.declared.shape.Shape.{Shape}
use Rattle.ts_entry.specs.Handed.{AreHanded}
use Rattle.ts_clip.specs.Series.{IsTold}
use Rattle.ts_offset.specs.Shape.{IsLaidOut}
use Rattle.ts_combine.specs.Combine.{lagged}
use Rattle.ts_model.specs.Catalogue.{Catalogue, shape_of}
use Rattle.ts_layout.specs.Meaning.{Layout, catalogue_of}
use Rattle.ts_answer.specs.Answer.{Tried, Answered, ◌>>=◌, known, outcome, carried_out, lag_series}
use Rattle.ts_answer.specs.Reply.{elements_text}
use Rattle.ts_answer.specs.View.{View, Shows}
use Rattle.ts_answer.proofs.CallerLemmas.{on_ok, on_err}
use Rattle.ts_shelf.specs.Shelf.{IsShelf}
use Rattle.ts_combined_rows.proofs.SeenSideLemmas.{IsSide, seen_es, side_seen, told_seen}

-- rows that were handed on, and those that are refused
handed_all : (took : List Element → Type 0) (answer : Tried (List Element)) (count : ℕ) → AreHanded took answer (Ok count) → (rows : List Element) × (answer ≡ Ok rows) × took rows × (count ≡ length rows)
handed_all took (Ok rows) count is = (rows, refl, is.0, is.1)
handed_all took (Err why) count is = absurd is

handed_none : (took : List Element → Type 0) (answer : Tried (List Element)) (refusal : Refusal) → AreHanded took answer (Err refusal) → answer ≡ Err refusal
handed_none took (Ok rows) refusal is = absurd is
handed_none took (Err why) refusal is = ap Err (sym is)

-- what it comes to
lag_comes : (cat : Catalogue) (key : List ℕ) (shape : Shape) (columns : List Column) (es : List Element) (by : ℤ) → IsSide cat key shape columns es
    → outcome (Ok (Lag key by)) cat ≡ (lagged shape by es >>= (λ rows. let a : Answered = (elements_text columns rows, cat) in Ok a))
unfolding outcome carried_out lag_series
lag_comes cat key shape columns es by side =
    on_ok _ side.series _ side.there ∙ on_ok (known (shape_of cat side.series.kind)) shape _ (ap known side.lies)
    ∙ (λ i. lagged shape by (side.elements i) >>= (λ rows. let a : Answered = (elements_text (side.columns_are i) rows, cat) in Ok a))

-- of a series that is seen, by the rows that were handed on, or by the refusal
module _ (tells : Bool) (x : View) (l : Layout) (told : IsTrue tells) (shows : Shows tells x l) (shape : Shape) (laid : IsLaidOut shape) (slot : ℕ) (h : Heading) (key : List ℕ) (found : IsShelf shape slot h key x.definitions)
    (took : List Element → Type 0) (by : ℤ) where
  abbrev Handed : Result ℕ Refusal → Type 0
  Handed done = IsTold tells shape slot h.columns (places_of slot x.space) x.pages (λ es. AreHanded took (lagged shape by (seen es)) done)

  abbrev all_in : List Element
  all_in = seen_es tells x l told shows shape laid slot h key found

  lag_of : outcome (Ok (Lag key by)) (catalogue_of l) ≡ (lagged shape by all_in >>= (λ rows. let a : Answered = (elements_text h.columns rows, catalogue_of l) in Ok a))
  lag_of = lag_comes (catalogue_of l) key shape h.columns _ by (side_seen tells x l told shows shape laid slot h key found)

  handed_in : (done : Result ℕ Refusal) → Handed done → AreHanded took (lagged shape by all_in) done
  handed_in done reads = told_seen tells x l told shows shape laid slot h key found x.pages (λ es. AreHanded took (lagged shape by es) done) (λ k. refl) reads

  pub lag_refused : (refusal : Refusal) → Handed (Err refusal) → outcome (Ok (Lag key by)) (catalogue_of l) ≡ Err refusal
  lag_refused refusal reads = lag_of ∙ on_err _ refusal _ (handed_none took _ refusal (handed_in (Err refusal) reads))

  pub lag_said : (count : ℕ) (out : List ℕ) → Handed (Ok count) → ((rows : List Element) → took rows → count ≡ length rows → out ≡ elements_text h.columns rows) → outcome (Ok (Lag key by)) (catalogue_of l) ≡ Ok (out, catalogue_of l)
  lag_said count out reads says =
      let all = handed_all took _ count (handed_in (Ok count) reads) in
      lag_of ∙ on_ok _ all.0 _ all.1 ∙ ap (λ (text : List ℕ). let a : Answered = (text, catalogue_of l) in Ok a) (sym (says all.0 all.2 all.3))
