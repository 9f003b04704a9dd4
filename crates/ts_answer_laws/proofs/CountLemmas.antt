-- The count of a column without NULLs is the number of the elements.
use Rattle.std.specs.Prelude.{int_lt}
use Rattle.std.proofs.Common.{◌≡◌, ℕ, Bool, true, false, cond, not, ◌&&◌, Ok, List, [], ◌∷◌, length, map, filter, refl, ap, ◌∙◌, arith, inl, inr, pos}
use Rattle.std.specs.FinMap.{entries}
use Rattle.ts_row.specs.declared.value.Value.{Value}
use Rattle.ts_row.specs.declared.value.Value.TheVariants.{Number}
use Rattle.ts_row.specs.Row.{Values, Row, visible, Element, seen}
use Rattle.ts_sheets.specs.Stamped.{is_within, within_range}
use Rattle.ts_offset.specs.declared.shape.Shape.TheVariants as shapes
use Rattle.ts_entry.specs.Entry.{Entry, filled, reading}
use Rattle.ts_expr.specs.declared.function.Function.{Function}
use Rattle.ts_expr.specs.declared.function.Function.TheVariants.{Count}
use Rattle.ts_expr.specs.declared.item.BoundItem.{BoundItem}
use Rattle.ts_expr.specs.Aggregates.{is_null, value_at, values_of, made, folded}
use Rattle.ts_model.specs.Catalogue.{shape_of}
use Rattle.ts_answer.specs.Answer.{Answered, Tried, outcome, carried_out, wanted, a_reading, scales_of, count_clip}
use Rattle.ts_answer.specs.Reply.{count_line, folded_text}
use Rattle.ts_answer.proofs.CallerLemmas.{on_ok, wanted-there}
use Rattle.ts_answer_laws.specs.AggregateLaws.{CountsAreOfElements}
use Rattle.ts_answer_laws.proofs.RowLemmas.{Among, among_filtered, between_true}
use Rattle.ts_answer_laws.proofs.SeenLemmas.{seen_there}
use Rattle.ts_answer_laws.proofs.ClipLemmas.{reading_there}
use Rattle.ts_answer_laws.proofs.RangeLemmas.{rows_of, shown, folded_seen, range_says}

-- a filter keeps as many of what is made
as_many : {X Y : Type 0} (p : Y → Bool) (f : X → Y) (xs : List X) → length (filter p (map f xs)) ≡ length (filter (λ x. p (f x)) xs)
as_many p f [] = refl
as_many {X} {Y} p f (x ∷ xs) = by (p (f x)) (as_many p f xs)
  where
    by : (b : Bool) → length (filter p (map f xs)) ≡ length (filter (λ (y : X). p (f y)) xs)
        → length (cond b (f x ∷ filter p (map f xs)) (filter p (map f xs))) ≡ length (cond b (x ∷ filter (λ (y : X). p (f y)) xs) (filter (λ (y : X). p (f y)) xs))
    by true more = omega (arith, more)
    by false more = more

-- each row is shown and has a value
all_valued : (column : ℕ) (es : List Element) → ((e : Element) → Among e es → (e.1.hidden ≡ false) × (is_null (value_at column e.1.values) ≡ false)) → length (values_of column (rows_of es)) ≡ length es
all_valued column [] each = refl
all_valued column (e ∷ es) each =
    let here = each e (inl refl) in
    let more = all_valued column es (λ f there. each f (inr there)) in
    let rest = shown (rows_of es) in
    let values = values_of column (rows_of es) in
    ap (λ (b : Bool). length (filter (λ (v : Value). not (is_null v)) (map (λ (r : Row). value_at column r.values) (cond (not b) (e.1 ∷ rest) rest)))) here.0
    ∙ ap (λ (b : Bool). length (cond (not b) (value_at column e.1.values ∷ values) values)) here.1 ∙ omega (arith, more)

-- how many they are
one_count : (items : List BoundItem) (item : BoundItem) (rows : List Row) → items ≡ item ∷ [] → item.function ≡ Count → folded items rows ≡ Number (pos (length (values_of item.column rows))) ∷ []
one_count items item rows one count =
    ap (λ (l : List BoundItem). folded l rows) one ∙ ap (λ (f : Function). made f (values_of item.column rows) ∷ []) count

pub counts_of_elements : CountsAreOfElements
unfolding outcome carried_out count_clip
counts_of_elements cat text key from to s b item there irregular bound one function valued =
    let es = within_range from to (seen (entries s.elements)) in
    let all = reading shapes.Irregular (entries s.elements) in
    let values : folded b.items (rows_of (within_range from to (entries s.elements))) ≡ Number (pos (length es)) ∷ [] =
    folded_seen b.items (is_within from to) (entries s.elements) ∙ one_count b.items item (rows_of es) one function
    ∙ ap (λ (n : ℕ). Number (pos n) ∷ []) (all_valued item.column es (λ e at.
    let kept = among_filtered (is_within from to) (seen (entries s.elements)) e at in
    let stands = seen_there s e.0 e.1 kept.0 in
    (stands.seen, valued e.0 e.1 (between_true from to e.0 kept.1) stands))) in
    record {
      count = length es;
      listed = on_ok (wanted key cat.series) s _ (wanted-there key cat.series s there)
          ∙ on_ok (a_reading s cat) all _ (reading_there cat s shapes.Irregular (ap (shape_of cat) irregular))
          ∙ ap (λ (n : ℕ). let tried : Tried Answered = Ok (count_line n, cat) in tried)
          (as_many (λ (e : Entry). not (int_lt e.0 from) && not (int_lt to e.0)) filled (seen (entries s.elements)));
      counted = range_says cat text key from to s bound.items b bound.read there bound.bound
          ∙ ap (λ (v : Values). let tried : Tried Answered = Ok (folded_text (scales_of b) ((from, visible v) ∷ []), cat) in tried) values;
    }
