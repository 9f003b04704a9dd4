-- What ClipCount lists is part of what Clip lists.
use Rattle.std.specs.Prelude.{int_lt, unsigned_abs}
use Rattle.std.proofs.Common.{◌≡◌, ℕ, Bool, cond, not, ◌&&◌, Some, Ok, List, [], ◌∷◌, filter, take, refl, sym, ap, ◌∙◌, arith, inl, inr, ℤ, pos, ◌<ℤ◌, ◌≤ℤ◌}
use Rattle.std.proofs.Math.Bool.{and-true}
use Rattle.std.proofs.lemmas.Int.{ints}
use Rattle.std.specs.FinMap.{entries, get}
use Rattle.ts_row.specs.Row.{seen}
use Rattle.ts_calendar.proofs.StampLemmas.{int_lt_yes, int_lt_no, int_lt-false}
use Rattle.ts_command.specs.declared.command.Command.TheVariants as commands
use Rattle.ts_irregular.specs.Edit.{last_of}
use Rattle.ts_offset.specs.Grid.{on_starts, starts_of}
use Rattle.ts_offset.specs.declared.shape.Shape.{Shape}
use Rattle.ts_offset.specs.declared.shape.Shape.TheVariants as shapes
use Rattle.ts_entry.specs.Entry.{Entry, filled, entry_at, is_reached, starts_to_last, reading, clipped, counted, last_ones}
use Rattle.ts_base.specs.Answer.{within_rows}
use Rattle.ts_model.specs.Catalogue.{Series, Catalogue, columns_of, shape_of}
use Rattle.ts_answer.specs.Answer.{Answered, outcome, carried_out, wanted, a_reading, clip_series, clip_counted}
use Rattle.ts_answer.specs.Reply.{entries_text}
use Rattle.ts_answer.proofs.CallerLemmas.{on_ok, wanted-there}
use Rattle.ts_answer_laws.specs.ReadingLaws.{IsReached, NoneBehind, NoneBefore, CountedClipsAreParts}
use Rattle.ts_answer_laws.proofs.RowLemmas.{Among, among_filtered, among_mapped, not_false}
use Rattle.ts_answer_laws.proofs.SeenLemmas.{seen_there, reached_by}
use Rattle.ts_answer_laws.proofs.ClipLemmas.{few_rows, reading_there}
use Rattle.ts_answer_laws.proofs.CameLemmas.{came, same_answer}

-- tests that agree on a list keep the same
same_kept : {X : Type 0} (p q : X → Bool) (xs : List X) → ((x : X) → Among x xs → p x ≡ q x) → filter p xs ≡ filter q xs
same_kept p q [] agree = refl
same_kept {X} p q (x ∷ xs) agree =
    ap (λ (b : Bool). cond b (x ∷ filter p xs) (filter p xs)) (agree x (inl refl))
    ∙ ap (λ (l : List X). cond (q x) (x ∷ l) l) (same_kept p q xs (λ y there. agree y (inr there)))

module _ (s : Series) where
  -- an entry isn't behind the last element that is seen
  entry_reached : (shape : Shape) (e : Entry) → Among e (reading shape (entries s.elements)) → IsReached s e.0
  entry_reached shapes.Irregular e there =
      let one = among_mapped filled (seen (entries s.elements)) e there in
      let at = ap (λ (f : Entry). f.0) one.2 in
      record { last = one.0.0; row = one.0.1; at = seen_there s one.0.0 one.0.1 one.1; until = omega (arith, ints, at) }
  entry_reached (shapes.Regular g) e there =
      let es = seen (entries s.elements) in
      let one = among_mapped (entry_at es) (starts_to_last g es) e there in
      let at = ap (λ (f : Entry). f.0) one.2 in
      let r = reached_by s one.0 (among_filtered (is_reached (last_of es)) (starts_of g) one.0 one.1).1 in
      let until = r.until in
      record { last = r.last; row = r.row; at = r.at; until = omega (arith, ints, at, until) }

  -- nor before the first, or before the origin
  entry_from : (shape : Shape) (first : ℤ) (e : Entry) → NoneBefore s shape first → Among e (reading shape (entries s.elements)) → first ≤ℤ e.0
  entry_from shapes.Irregular first e none there =
      let one = among_mapped filled (seen (entries s.elements)) e there in
      let at = ap (λ (f : Entry). f.0) one.2 in
      let low = none one.0.0 (one.0.1, seen_there s one.0.0 one.0.1 one.1) in
      omega (arith, ints, at, low)
  entry_from (shapes.Regular g) first e none there =
      let es = seen (entries s.elements) in
      let one = among_mapped (entry_at es) (starts_to_last g es) e there in
      let at = ap (λ (f : Entry). f.0) one.2 in
      let start = (among_filtered (is_reached (last_of es)) (starts_of g) one.0 one.1).0 in
      let kept = (among_filtered (λ x. not (int_lt x g.origin)) (on_starts g.calendar) one.0 start).1 in
      let low = int_lt-false one.0 g.origin (not_false (int_lt one.0 g.origin) kept) in
      omega (arith, ints, at, low, none)

  -- so a clip to the end keeps what comes from a stamp on, and one from the beginning what comes up to it
  from_on : (shape : Shape) (stamp last : ℤ) → NoneBehind s last
      → clipped stamp last (reading shape (entries s.elements)) ≡ filter (λ (e : Entry). not (int_lt e.0 stamp)) (reading shape (entries s.elements))
  from_on shape stamp last none =
      same_kept (λ (e : Entry). not (int_lt e.0 stamp) && not (int_lt last e.0)) (λ (e : Entry). not (int_lt e.0 stamp)) (reading shape (entries s.elements)) (λ e there.
      let r = entry_reached shape e there in
      let until = r.until in
      let behind = none r.last (r.row, r.at) in
      ap (λ (b : Bool). not (int_lt e.0 stamp) && not b) (int_lt_no last e.0 (omega (arith, ints, until, behind))) ∙ and-true (not (int_lt e.0 stamp)))

  up_to : (shape : Shape) (first stamp : ℤ) → NoneBefore s shape first
      → clipped first stamp (reading shape (entries s.elements)) ≡ filter (λ (e : Entry). not (int_lt stamp e.0)) (reading shape (entries s.elements))
  up_to shape first stamp none =
      same_kept (λ (e : Entry). not (int_lt e.0 first) && not (int_lt stamp e.0)) (λ (e : Entry). not (int_lt stamp e.0)) (reading shape (entries s.elements)) (λ e there.
      ap (λ (b : Bool). not b && not (int_lt stamp e.0)) (int_lt_no e.0 first (entry_from shape first e none there)))

-- the first of them, or the last
first_counted : (stamp n : ℤ) (all : List Entry) → pos 0 ≤ℤ n → counted stamp n all ≡ take (unsigned_abs n) (filter (λ (e : Entry). not (int_lt e.0 stamp)) all)
first_counted stamp n all some =
    ap (λ (b : Bool). cond b (last_ones (unsigned_abs n) (filter (λ (e : Entry). not (int_lt stamp e.0)) all)) (take (unsigned_abs n) (filter (λ (e : Entry). not (int_lt e.0 stamp)) all)))
    (int_lt_no n (pos 0) some)

last_counted : (stamp n : ℤ) (all : List Entry) → n <ℤ pos 0 → counted stamp n all ≡ last_ones (unsigned_abs n) (filter (λ (e : Entry). not (int_lt stamp e.0)) all)
last_counted stamp n all some =
    ap (λ (b : Bool). cond b (last_ones (unsigned_abs n) (filter (λ (e : Entry). not (int_lt stamp e.0)) all)) (take (unsigned_abs n) (filter (λ (e : Entry). not (int_lt e.0 stamp)) all)))
    (int_lt_yes n (pos 0) some)

-- what a clip lists, and what a count of it
clip_came : (cat : Catalogue) (whole : Answered) (key : List ℕ) (from to : ℤ) (s : Series) (shape : Shape) → get cat.series key ≡ Some s → shape_of cat s.kind ≡ Some shape
    → outcome (Ok (commands.Clip key from to)) cat ≡ Ok whole → whole ≡ (entries_text (columns_of cat s) (clipped from to (reading shape (entries s.elements))), cat)
unfolding outcome carried_out clip_series
clip_came cat whole key from to s shape there shaped is =
    let named = sym (on_ok (wanted key cat.series) s _ (wanted-there key cat.series s there)) ∙ is in
    let read = sym (on_ok (a_reading s cat) (reading shape (entries s.elements)) _ (reading_there cat s shape shaped)) ∙ named in
    let rows = came (within_rows (clipped from to (reading shape (entries s.elements)))) _ whole read in
    same_answer (entries_text (columns_of cat s) rows.0, cat) whole rows.2
    ∙ ap (λ (l : List Entry). let line : Answered = (entries_text (columns_of cat s) l, cat) in line) (sym (few_rows (clipped from to (reading shape (entries s.elements))) rows.0 rows.1))

count_there : (cat : Catalogue) (key : List ℕ) (stamp n : ℤ) (s : Series) (shape : Shape) → get cat.series key ≡ Some s → shape_of cat s.kind ≡ Some shape
    → outcome (Ok (commands.ClipCount key stamp n)) cat ≡ Ok (entries_text (columns_of cat s) (counted stamp n (reading shape (entries s.elements))), cat)
unfolding outcome carried_out clip_counted
count_there cat key stamp n s shape there shaped =
    on_ok (wanted key cat.series) s _ (wanted-there key cat.series s there)
    ∙ on_ok (a_reading s cat) (reading shape (entries s.elements)) _ (reading_there cat s shape shaped)

pub counted_parts : CountedClipsAreParts
counted_parts = record {
  first = λ cat whole key stamp last n s shape there shaped some none is. (
    (entries_text (columns_of cat s) (counted stamp n (reading shape (entries s.elements))), cat),
    count_there cat key stamp n s shape there shaped,
    record {
      columns = columns_of cat s;
      rows = clipped stamp last (reading shape (entries s.elements));
      lines = clip_came cat whole key stamp last s shape there shaped is;
      picked = ap (λ (l : List Entry). let line : Answered = (entries_text (columns_of cat s) l, cat) in line)
          (first_counted stamp n (reading shape (entries s.elements)) some ∙ ap (λ (l : List Entry). take (unsigned_abs n) l) (sym (from_on s shape stamp last none)));
    },
  );
  last = λ cat whole key first stamp n s shape there shaped some none is. (
    (entries_text (columns_of cat s) (counted stamp n (reading shape (entries s.elements))), cat),
    count_there cat key stamp n s shape there shaped,
    record {
      columns = columns_of cat s;
      rows = clipped first stamp (reading shape (entries s.elements));
      lines = clip_came cat whole key first stamp s shape there shaped is;
      picked = ap (λ (l : List Entry). let line : Answered = (entries_text (columns_of cat s) l, cat) in line)
          (last_counted stamp n (reading shape (entries s.elements)) some ∙ ap (λ (l : List Entry). last_ones (unsigned_abs n) l) (sym (up_to s shape first stamp none)));
    },
  );
}
