-- A list that is read and bound to columns, and what it makes of the elements of a series that is seen.
use Rattle.std.proofs.Common.{◌≡◌, ℕ, ◌<◌, ℤ, Bool, IsTrue, Ok, Err, Some, List, map, ap, sym, subst, ◌∙◌}
use Rattle.std.specs.FinMap.{entries}
use Rattle.ts_base.specs.declared.fault.Trouble.{Trouble}
use Rattle.ts_base.specs.declared.fault.Trouble.TheVariants.{Refused, Memory}
use Rattle.ts_row.specs.declared.kind.Column.{Column}
use Rattle.ts_row.specs.Row.{Heading, Row, Element}
use Rattle.ts_space.specs.Directory.{places_of}
use Rattle.ts_sheets.specs.Stamped.{within_range}
use Rattle.ts_offset.specs.declared.shape.Shape.{Shape}
use Rattle.ts_expr.specs.declared.item.Item.{Item}
use Rattle.ts_base.specs.Answer.{Answers}
use Rattle.ts_expr.specs.Aggregates.{read_list, Binding, binding, folded_row}
use Rattle.ts_clip.specs.Series.{IsTold}
use Rattle.ts_offset.specs.Shape.{IsLaidOut}
use Rattle.ts_aggregate.specs.Fold.{Fold, Folds}
use Rattle.ts_layout.specs.Meaning.{Layout, elements_at, heading_at, shape_at}
use Rattle.ts_answer.specs.Answer.{Tried, folded_range}
use Rattle.ts_answer.specs.Tried.{IsRefusedAs}
use Rattle.ts_answer.specs.View.{View, Shows}
use Rattle.ts_shelf.specs.Fresh.{IsFresh}
use Rattle.ts_shelf.proofs.SeenLemmas.{HasSeen, elements_seen, entries_in}

-- a call that fails for what it should answer
pub not_answered : {A : Type 0} (answer : Tried A) (trouble : Trouble) → Answers answer (Err trouble) → IsRefusedAs trouble answer
not_answered answer (Refused why) is = is
not_answered answer (Memory error) is = tt

-- a text that is read, or isn't, by its bytes
pub list_read : (bytes text : List ℕ) (items : List Item) → bytes ≡ text → Answers (read_list bytes) (Ok items) → read_list text ≡ Ok items
list_read bytes text items same is = ap read_list (sym same) ∙ is

pub list_unread : (bytes text : List ℕ) (trouble : Trouble) → bytes ≡ text → Answers (read_list bytes) (Err trouble) → IsRefusedAs trouble (read_list text)
list_unread bytes text trouble same is = subst (λ (t : List ℕ). IsRefusedAs trouble (read_list t)) same (not_answered (read_list bytes) trouble is)

-- a list that columns don't bear, by what they are
pub list_unbound : (columns same : List Column) (items : List Item) (trouble : Trouble) → same ≡ columns → Answers (binding columns items) (Err trouble) → IsRefusedAs trouble (binding same items)
list_unbound columns same items trouble is fails = subst (λ (cs : List Column). IsRefusedAs trouble (binding cs items)) (sym is) (not_answered (binding columns items) trouble fails)

-- the columns of a fold are those of its list
pub fresh_columns : (b : Binding) (v : Fold) (columns : List Column) → b.columns ≡ columns → IsFresh b v → columns ≡ v.binding.columns
fresh_columns b v columns is fresh = sym is ∙ ap (λ (x : Binding). x.columns) (sym fresh.0)

-- of a series that is seen, by a fold of this list that had taken nothing
module _ (tells : Bool) (x : View) (l : Layout) (shape : Shape) (laid : IsLaidOut shape) (slot : ℕ) (h : Heading) (told : IsTrue tells) (shows : Shows tells x l) (columns : heading_at x.definitions slot ≡ Some h) (lies : shape_at x.definitions slot ≡ Some shape)
    (within : slot < 4096) (b : Binding) (of : b.columns ≡ h.columns) (v : Fold) (fresh : IsFresh b v) (from to : ℤ) where
  abbrev all : (es : List Element) × HasSeen shape slot h.columns x.pages.page (places_of slot x.space) l es
  all = elements_seen tells x l shape laid slot h told shows columns lies within

  abbrev listed : entries (elements_at slot l.element_pages) ≡ all.0
  listed = entries_in shape slot h.columns x.pages.page (places_of slot x.space) l all.0 all.1

  -- the row of a range, and the fold, which again has taken nothing
  pub range_folded : (row : Row) (w : Fold) → IsTold tells shape slot h.columns (places_of slot x.space) x.pages (λ es. Folds h.columns v (map (λ e. e.1) (within_range from to es)) row w)
      → (row ≡ folded_range b from to (elements_at slot l.element_pages)) × IsFresh b w
  range_folded row w read =
      let folds = read told all.0 all.1.have in (
        folds.made (fresh_columns b v h.columns of fresh) fresh.1 ∙ ap (λ (c : Binding). folded_row c.items (map (λ e. e.1) (within_range from to all.0))) fresh.0
            ∙ ap (λ (es : List Element). folded_row b.items (map (λ e. e.1) (within_range from to es))) (sym listed),
        (folds.same ∙ fresh.0, folds.none),
      )
