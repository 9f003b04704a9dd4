-- What AggregateRange says: a fold of the elements that are seen between two stamps.
use Rattle.std.specs.Prelude.{int_lt}
use Rattle.std.proofs.Common.{◌≡◌, ℕ, Bool, true, false, cond, not, ◌&&◌, Some, Ok, List, [], ◌∷◌, map, filter, refl, sym, ap, ◌∙◌, arith, inl, inr, ℤ, ◌<ℤ◌}
use Rattle.std.proofs.lemmas.Int.{ints}
use Rattle.std.proofs.lemmas.List.Kept.{AllPairs-filter}
use Rattle.std.specs.FinMap.{entries, get, insert, get-insert}
use Rattle.ts_row.specs.Row.{Values, Row, visible, Element, seen}
use Rattle.ts_sheets.specs.Stamped.{is_within, within_range}
use Rattle.ts_expr.specs.declared.item.Item.{Item}
use Rattle.ts_expr.specs.declared.item.BoundItem.{BoundItem}
use Rattle.ts_expr.specs.Aggregates.{read_list, Binding, binding, is_null, value_at, made, folded}
use Rattle.ts_command.specs.declared.command.Command.TheVariants as commands
use Rattle.ts_model.specs.Catalogue.{Named, Series, Catalogue, columns_of}
use Rattle.ts_model.proofs.OrderLemmas.{total, ties-refl}
use Rattle.ts_answer.specs.Answer.{Answered, Tried, outcome, carried_out, wanted, seen_elements, with_elements, scales_of, folded_range, aggregate_range}
use Rattle.ts_answer.specs.Reply.{folded_text}
use Rattle.ts_answer.proofs.CallerLemmas.{on_ok, wanted-there}
use Rattle.ts_answer_laws.specs.ReadingLaws.{IsSeenAt}
use Rattle.ts_answer_laws.specs.AggregateLaws.{AreSeenAt, AreFolded, IsFromTo, RangesAreFolded, OthersPlayNoPart}
use Rattle.ts_answer_laws.proofs.RowLemmas.{Among, among_from, among_contains, among_filter, among_filtered, between_true, between_yes}
use Rattle.ts_answer_laws.proofs.SeenLemmas.{AreLater, first_before, rest_later, seen_later, seen_there, there_seen}
use Rattle.ts_answer_laws.proofs.CameLemmas.{came, same_answer}

-- elements in order are given by what stands among them
same_first : (x y : Element) (xs ys : List Element) → AreLater (x ∷ xs) → AreLater (y ∷ ys) → Among x (y ∷ ys) → Among y (x ∷ xs) → x ≡ y
same_first x y xs ys first second (inl is) back = is
same_first x y xs ys first second (inr there) (inl is) = sym is
same_first x y xs ys first second (inr there) (inr back) =
    let after = first_before y x ys second there in
    let before = first_before x y xs first back in
    absurd (omega (arith, ints, after, before))

behind_first : (x y : Element) (xs ys : List Element) → AreLater (x ∷ xs) → x ≡ y → (e : Element) → Among e xs → Among e (y ∷ ys) → Among e ys
behind_first x y xs ys later one e there (inr rest) = rest
behind_first x y xs ys later one e there (inl is) =
    let after = first_before x e xs later there in
    let here = ap (λ (f : Element). f.0) (is ∙ sym one) in
    absurd (omega (arith, ints, after, here))

same_elements : (xs ys : List Element) → AreLater xs → AreLater ys → ((e : Element) → Among e xs → Among e ys) → ((e : Element) → Among e ys → Among e xs) → xs ≡ ys
same_elements [] [] first second there back = refl
same_elements [] (y ∷ ys) first second there back = absurd (back y (inl refl))
same_elements (x ∷ xs) [] first second there back = absurd (there x (inl refl))
same_elements (x ∷ xs) (y ∷ ys) first second there back =
    let one = same_first x y xs ys first second (there x (inl refl)) (back y (inl refl)) in
    let rest = same_elements xs ys (rest_later x xs first) (rest_later y ys second)
    (λ e at. behind_first x y xs ys first one e at (there e (inr at)))
    (λ e at. behind_first y x ys xs second (sym one) e at (back e (inr at))) in
    λ i. one i ∷ rest i

-- the rows of elements, and those that aren't hidden
abbrev pub rows_of : List Element → List Row
rows_of es = map (λ (e : Element). e.1) es

abbrev pub shown : List Row → List Row
shown rows = filter (λ (r : Row). not r.hidden) rows

-- the same are shown without the hidden elements
shown_same : (p : Element → Bool) (es : List Element) → shown (rows_of (filter p es)) ≡ shown (rows_of (filter p (seen es)))
shown_same p [] = refl
shown_same p (e ∷ es) = by e.1.hidden (p e) refl refl (shown_same p es)
  where
    by : (hidden passes : Bool) → e.1.hidden ≡ hidden → p e ≡ passes → shown (rows_of (filter p es)) ≡ shown (rows_of (filter p (seen es)))
        → shown (rows_of (cond passes (e ∷ filter p es) (filter p es))) ≡ shown (rows_of (filter p (cond (not hidden) (e ∷ seen es) (seen es))))
    by true true is on more = ap (λ (b : Bool). cond (not b) (e.1 ∷ shown (rows_of (filter p es))) (shown (rows_of (filter p es)))) is ∙ more
    by true false is off more = more
    by false true is on more =
        let others = filter p (seen es) in
        ap (λ (b : Bool). cond (not b) (e.1 ∷ shown (rows_of (filter p es))) (shown (rows_of (filter p es)))) is
        ∙ ap (λ (l : List Row). e.1 ∷ l) more
        ∙ sym (ap (λ (b : Bool). shown (rows_of (cond b (e ∷ others) others))) on
        ∙ ap (λ (b : Bool). cond (not b) (e.1 ∷ shown (rows_of others)) (shown (rows_of others))) is)
    by false false is off more = more ∙ sym (ap (λ (b : Bool). shown (rows_of (cond b (e ∷ filter p (seen es)) (filter p (seen es))))) off)

-- what items make of rows of which these are shown
abbrev made_of : List BoundItem → List Row → Values
made_of items rows = map (λ (i : BoundItem). made i.function (filter (λ v. not (is_null v)) (map (λ (r : Row). value_at i.column r.values) rows))) items

pub folded_seen : (items : List BoundItem) (p : Element → Bool) (es : List Element) → folded items (rows_of (filter p es)) ≡ folded items (rows_of (filter p (seen es)))
folded_seen items p es = ap (made_of items) (shown_same p es)

-- those of the elements that are seen whose stamps pass a test
pub chosen : (Within : ℤ → Type 0) (s : Series) (p : ℤ → Bool) → ((stamp : ℤ) (row : Row) → IsSeenAt s stamp row → p stamp ≡ true → Within stamp)
    → ((stamp : ℤ) (row : Row) → IsSeenAt s stamp row → Within stamp → p stamp ≡ true) → AreSeenAt Within s (filter (λ (e : Element). p e.0) (seen_elements s.elements))
chosen Within s p passes within = record {
  rising = AllPairs-filter (λ (a b : Element). a.0 <ℤ b.0) (λ (e : Element). p e.0) (seen (entries s.elements)) (seen_later s.elements);
  theirs = λ stamp row there.
      let kept = among_filtered (λ (e : Element). p e.0) (seen (entries s.elements)) (stamp, row) (among_from _ (stamp, row) there) in
      let at = seen_there s stamp row kept.0 in
      (passes stamp row at kept.1, at);
  each = λ stamp row inside at.
      among_contains _ (stamp, row) (among_filter (λ (e : Element). p e.0) (seen (entries s.elements)) (stamp, row) (there_seen s stamp row at) (within stamp row at inside));
}

-- what a fold over a range has
pub range_folded : (items : List BoundItem) (from to : ℤ) (s : Series) → AreFolded (IsFromTo from to) items s (folded items (rows_of (within_range from to (entries s.elements))))
range_folded items from to s = record {
  elements = within_range from to (seen (entries s.elements));
  are = chosen (IsFromTo from to) s (λ t. not (int_lt t from) && not (int_lt to t)) (λ stamp row at is. between_true from to stamp is)
      (λ stamp row at inside. between_yes from to stamp inside.0 inside.1);
  made = folded_seen items (is_within from to) (entries s.elements);
}

-- the same elements give the same values
pub same_folded : (V W : ℤ → Type 0) (items : List BoundItem) (s r : Series) (v w : Values) → AreFolded V items s v → AreFolded W items r w
    → ((stamp : ℤ) (row : Row) → V stamp → IsSeenAt s stamp row → W stamp × IsSeenAt r stamp row) → ((stamp : ℤ) (row : Row) → W stamp → IsSeenAt r stamp row → V stamp × IsSeenAt s stamp row)
    → v ≡ w
same_folded V W items s r v w first second there back =
    let same = same_elements first.elements second.elements first.are.rising second.are.rising
    (λ e at.
    let here = first.are.theirs e.0 e.1 (among_contains first.elements e at) in
    let gone = there e.0 e.1 here.0 here.1 in
    among_from second.elements e (second.are.each e.0 e.1 gone.0 gone.1))
    (λ e at.
    let here = second.are.theirs e.0 e.1 (among_contains second.elements e at) in
    let gone = back e.0 e.1 here.0 here.1 in
    among_from first.elements e (first.are.each e.0 e.1 gone.0 gone.1)) in
    first.made ∙ ap (λ (es : List Element). folded items (rows_of es)) same ∙ sym second.made

-- the reply of a list that is bound
pub range_says : (cat : Catalogue) (text key : List ℕ) (from to : ℤ) (s : Series) (items : List Item) (b : Binding) → read_list text ≡ Ok items → get cat.series key ≡ Some s
    → binding (columns_of cat s) items ≡ Ok b
    → outcome (Ok (commands.AggregateRange text key from to)) cat ≡ Ok (folded_text (scales_of b) ((from, folded_range b from to s.elements) ∷ []), cat)
unfolding outcome carried_out aggregate_range
range_says cat text key from to s items b read there bound =
    on_ok (read_list text) items _ read ∙ on_ok (wanted key cat.series) s _ (wanted-there key cat.series s there) ∙ on_ok (binding (columns_of cat s) items) b _ bound

-- a reply is so
record IsRange (text key : List ℕ) (from to : ℤ) (s : Series) (cat : Catalogue) (answered : Answered) : Type 0 where
  items : List Item
  b : Binding
  read : read_list text ≡ Ok items
  bound : binding (columns_of cat s) items ≡ Ok b
  line : answered ≡ (folded_text (scales_of b) ((from, folded_range b from to s.elements) ∷ []), cat)

range_came : (cat : Catalogue) (answered : Answered) (text key : List ℕ) (from to : ℤ) (s : Series) → get cat.series key ≡ Some s
    → outcome (Ok (commands.AggregateRange text key from to)) cat ≡ Ok answered → IsRange text key from to s cat answered
unfolding outcome carried_out aggregate_range
range_came cat answered text key from to s there is =
    let items = came (read_list text) _ answered is in
    let named = sym (on_ok (wanted key cat.series) s _ (wanted-there key cat.series s there)) ∙ items.2 in
    let b = came (binding (columns_of cat s) items.0) _ answered named in
    record {
      items = items.0;
      b = b.0;
      read = items.1;
      bound = b.1;
      line = same_answer (folded_text (scales_of b.0) ((from, folded_range b.0 from to s.elements) ∷ []), cat) answered b.2;
    }

pub ranges_folded : RangesAreFolded
ranges_folded cat answered text key from to s there is =
    let range = range_came cat answered text key from to s there is in
    record {
      b = range.b;
      bound = record { items = range.items; read = range.read; bound = range.bound };
      row = folded_range range.b from to s.elements;
      folded = range_folded range.b.items from to s;
      line = range.line;
    }

-- what is put under a key is there
put_there : {X : Type 0} (named : Named X) (key : List ℕ) (x : X) → get (insert named key x) key ≡ Some x
put_there named key x = get-insert total named key x key ∙ ap (λ (b : Bool). cond b (Some x) (get named key)) (ties-refl key)

pub others_no_part : OthersPlayNoPart
others_no_part cat answered text key from to s elements there same is =
    let range = range_came cat answered text key from to s there is in
    let other = with_elements key s elements cat in
    let r : Series = record s { elements = elements } in
    let says = range_says other text key from to r range.items range.b range.read (put_there cat.series key r) range.bound in
    let values = same_folded (IsFromTo from to) (IsFromTo from to) range.b.items r s (folded_range range.b from to elements).values (folded_range range.b from to s.elements).values
    (range_folded range.b.items from to r) (range_folded range.b.items from to s)
    (λ stamp row inside at. (inside, (same stamp row inside).1 at)) (λ stamp row inside at. (inside, (same stamp row inside).0 at)) in
    says
    ∙ ap (λ (v : Values). let tried : Tried Answered = Ok (folded_text (scales_of range.b) ((from, visible v) ∷ []), other) in tried) values
    ∙ ap (λ (a : Answered). let tried : Tried Answered = Ok (a.0, other) in tried) (sym range.line)
