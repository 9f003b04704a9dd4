-- All elements of a range grouped, and their groups handed on.
use Rattle.std.proofs.Common.{◌≡◌, ℕ, ◌<◌, ◌≤◌, ℤ, ◌<ℤ◌, ◌≤ℤ◌, Bool, true, false, cond, Option, Some, None, Result, Ok, Err, List, [], ◌∷◌, ◌++◌, length, map, refl, sym, ap, subst, ◌∙◌, arith, lt-ltb, le-ltb}
use Rattle.std.specs.Prelude.{filter, not, ◌&&◌, int_lt, nat_lt}
use Rattle.std.proofs.lemmas.Int.{by_lt_z, ints}
use Rattle.std.proofs.lemmas.Bool.{and_parts}
use Rattle.std.proofs.lemmas.List.{length-map}
use Rattle.ts_base.specs.Moment.{IsStamp}
use Rattle.ts_base.specs.declared.refusal.Refusal.{Refusal}
use Rattle.ts_base.specs.declared.refusal.Refusal.TheVariants.{TooLarge}
use Rattle.ts_row.specs.declared.kind.Column.{Column}
use Rattle.ts_row.specs.Row.{Element, seen}
use Rattle.ts_calendar.proofs.StampLemmas.{int_lt_no, int_lt-false}
use Rattle.ts_sheets.specs.Stamped.{is_within, within_range}
use Rattle.ts_offset.specs.Grid.{on_starts, held_start, starts_between}
use Rattle.ts_entry.specs.Entry.{Group, grouped, held_from, by_interval}
use Rattle.ts_base.specs.Answer.{most_rows, within_rows}
use Rattle.ts_expr.specs.Aggregates.{Binding, folded_row}
use Rattle.ts_expr.specs.declared.item.BoundItem.{BoundItem}
use Rattle.ts_aggregate.specs.Fold.{Fold}
use Rattle.ts_entry.specs.Handed.{AreHanded}
use Rattle.ts_aggregate.specs.Groups.{WantedPlan, is_asked, Grouping, closed, made_of, AreOrdered, AreGiven, Stands, AreMade, AreGrouped, IsClosed}
use Rattle.ts_aggregate.specs.GroupLaws.{made_both, made_as}
use Rattle.ts_aggregate.proofs.GroupLemmas.{Each, groups_same, kept_within}
use Rattle.ts_aggregate.proofs.StartLemmas.{each_pass, start_of, none_grouped}
use Rattle.ts_aggregate.proofs.SpanLemmas.{held_low}
use Rattle.ts_aggregate.proofs.ToldLemmas.{given_kept}

-- a test that fails
not_true : (b : Bool) → not b ≡ true → b ≡ false
not_true true is = sym is
not_true false is = refl

-- elements outside a range belong to no group that is asked for
module _ (wanted : WantedPlan) (last : ℤ) (behind : (t s : ℤ) → IsStamp t → last <ℤ t → held_start wanted.calendar t ≡ Some s
    → wanted.to <ℤ s) where
  inside : (s : ℤ) → is_asked wanted s ≡ true → (e : Element) → IsStamp e.0 → held_start wanted.calendar e.0 ≡ Some s
      → is_within wanted.from last e ≡ true
  inside s asked e stamp held =
      let parts = and_parts (not (int_lt s wanted.from)) (not (int_lt wanted.to s)) asked in
      let from = int_lt-false s wanted.from (not_true (int_lt s wanted.from) parts.0) in
      let to = int_lt-false wanted.to s (not_true (int_lt wanted.to s) parts.1) in
      let low = held_low wanted.calendar e.0 s held in
      let high : e.0 ≤ℤ last = by_lt_z last e.0 (λ late. let over = behind e.0 s stamp late held in absurd
      (omega (arith, ints, over, to))) (λ le. le) in
      ap (λ b. not b && not (int_lt last e.0)) (int_lt_no e.0 wanted.from (omega (arith, ints, from, low)))
      ∙ ap not (int_lt_no last e.0 high)

  all_inside : (s : ℤ) → is_asked wanted s ≡ true → (es : List Element) → AreOrdered es
      → Each (λ e. held_start wanted.calendar e.0 ≡ Some s → is_within wanted.from last e ≡ true) es
  all_inside s asked [] ordered = tt
  all_inside s asked (e ∷ es) ordered = (λ held. inside s asked e ordered.0 held, all_inside s asked es ordered.2)

  pub range_grouped : (es : List Element) → AreOrdered es
      → grouped wanted.calendar wanted.from wanted.to (within_range wanted.from last es) ≡ grouped wanted.calendar wanted.from wanted.to es
  range_grouped es ordered =
      groups_same (start_of wanted.calendar) (starts_between wanted.calendar wanted.from wanted.to) (within_range wanted.from last es) es
      (each_pass (is_asked wanted) (λ s. held_from wanted.calendar (within_range wanted.from last es) s ≡ held_from wanted.calendar es s)
      (λ s asked. kept_within (start_of wanted.calendar) s (is_within wanted.from last) es (all_inside s asked es ordered))
      (on_starts wanted.calendar))

module _ {V : Type 0} (took : V → List Element → V → Type 0)
    (then : (x y z : V) (es fs : List Element) → took x es y → took y fs z → took x (es ++ fs) z) where
  -- all groups were handed on, unless they are too many
  all_made : (columns : List Column) (v w u : Grouping) (x y z : V) (es : List Element) → AreGrouped took columns v x es w y
      → IsClosed took w y u z
      → columns ≡ v.fold.binding.columns → v.span.start ≡ None → Stands v [] → AreGiven es
      → (u.count ≡ length (closed v.wanted None (seen es)))
      × (u.count ≤ most_rows → took x (made_of v.fold.binding.items (closed v.wanted None (seen es))) z)
  all_made columns v w u x y z es p q own start stands are =
      let items : List BoundItem = v.fold.binding.items in
      let first = p.taken own [] are stands in
      let second = q.taken (seen es) (given_kept (λ e. not e.1.hidden) es are) first.0 in
      let both : AreMade took items (closed v.wanted v.span.start []) (closed v.wanted None (seen es)) u.count x z =
      made_both took then items (closed v.wanted v.span.start []) (closed v.wanted w.span.start (seen es))
      (closed v.wanted None (seen es)) w.count u.count x y z q.same.more first.1
      (made_as took w.fold.binding.items items (closed w.wanted w.span.start (seen es)) (closed v.wanted w.span.start (seen es))
      (closed w.wanted None (seen es)) (closed v.wanted None (seen es)) u.count y z
      (ap (λ (b : Binding). b.items) p.same.binding) (ap (λ (a : WantedPlan). closed a w.span.start (seen es)) p.same.wanted)
      (ap (λ (a : WantedPlan). closed a None (seen es)) p.same.wanted) second.1) in
      let none : closed v.wanted v.span.start [] ≡ [] = ap (λ (o : Option ℤ). closed v.wanted o []) start ∙ none_grouped v.wanted in
      let rows : made_of items (closed v.wanted None (seen es)) ≡ both.rows = both.behind
      ∙ ap (λ (l : List Group). made_of items l ++ both.rows) none in (
        second.0.number ∙ ap (λ (a : WantedPlan). length (closed a None (seen es))) (q.same.wanted ∙ p.same.wanted),
        λ few. subst (λ (l : List Element). took x l z) (sym rows) (both.taken few),
      )

-- of elements of a range those that aren't hidden
kept_both : (p q : Element → Bool) (es : List Element) → filter p (filter q es) ≡ filter q (filter p es)
kept_both p q [] = refl
kept_both p q (e ∷ es) = by (p e) (q e) refl refl (kept_both p q es)
  where
    by : (b c : Bool) → p e ≡ b → q e ≡ c → filter p (filter q es) ≡ filter q (filter p es)
        → filter p (cond (q e) (e ∷ filter q es) (filter q es)) ≡ filter q (cond (p e) (e ∷ filter p es) (filter p es))
    by b c first second rest =
        ap (λ k. filter p (cond k (e ∷ filter q es) (filter q es))) second ∙ one b c first second
        ∙ ap (λ k. filter q (cond k (e ∷ filter p es) (filter p es))) (sym first)
      where
        one : (b c : Bool) → p e ≡ b → q e ≡ c
            → filter p (cond c (e ∷ filter q es) (filter q es)) ≡ filter q (cond b (e ∷ filter p es) (filter p es))
        one true true first second = ap (λ k. cond k (e ∷ filter p (filter q es)) (filter p (filter q es))) first
            ∙ ap (λ (l : List Element). e ∷ l) rest ∙ ap (λ k. cond k (e ∷ filter q (filter p es)) (filter q (filter p es))) (sym second)
        one true false first second = rest ∙ ap (λ k. cond k (e ∷ filter q (filter p es)) (filter q (filter p es))) (sym second)
        one false true first second = ap (λ k. cond k (e ∷ filter p (filter q es)) (filter p (filter q es))) first ∙ rest
        one false false first second = rest

-- as a call answers
handed_few : (took : List Element → Type 0) (rows : List Element) (count : ℕ) → count ≡ length rows → count ≤ most_rows → took rows
    → AreHanded took (within_rows rows) (Ok count)
handed_few took rows count is few taken =
    let test : nat_lt most_rows (length rows) ≡ false = le-ltb most_rows (length rows) (omega (arith, is, few)) in
    subst (λ (b : Bool). AreHanded took (cond b (Err (TooLarge (length rows))) (Ok rows)) (Ok count)) (sym test) (taken, is)

handed_many : (took : List Element → Type 0) (rows : List Element) (count : ℕ) → count ≡ length rows → most_rows < count
    → AreHanded took (within_rows rows) (Err (TooLarge count))
handed_many took rows count is many =
    let test : nat_lt most_rows (length rows) ≡ true = lt-ltb most_rows (length rows) (omega (arith, is, many)) in
    subst (λ (b : Bool). AreHanded took (cond b (Err (TooLarge (length rows))) (Ok rows)) (Err (TooLarge count))) (sym test)
    (ap TooLarge is)

-- what an answer says, once what took the rows is no longer borrowed
module _ {V Name : Type 0} (took : V → List Element → V → Type 0)
    (then : (x y z : V) (es fs : List Element) → took x es y → took y fs z → took x (es ++ fs) z)
    (columns : List Column) (wanted : WantedPlan) (fold : Fold) (first final : V) (name begun going ended : Name) (last : ℤ)
    (behind : (t s : ℤ) → IsStamp t → last <ℤ t → held_start wanted.calendar t ≡ Some s → wanted.to <ℤ s)
    (v w u : Grouping) (x y z : V) (es : List Element) (begins : begun ≡ name) (starts : x ≡ first) (same : v.wanted ≡ wanted)
    (folds : v.fold ≡ fold) (start : v.span.start ≡ None) (stands : Stands v [])
    (taken : (going ≡ begun) × AreGrouped took columns v x (within_range wanted.from last es) w y)
    (ends : ended ≡ going) (closes : IsClosed took w y u z) (back : name ≡ ended → final ≡ z) (are : AreGiven es)
    (own : columns ≡ fold.binding.columns) where
  abbrev answer : Result (List Element) Refusal
  answer = within_rows (by_interval (folded_row fold.binding.items) wanted.calendar wanted.from wanted.to (seen es))

  abbrev rows : List Element
  rows = made_of fold.binding.items (grouped wanted.calendar wanted.from wanted.to (seen es))

  grouped_all : (u.count ≡ length rows) × (u.count ≤ most_rows → took first rows final)
  grouped_all =
      let given : AreGiven (seen es) = given_kept (λ e. not e.1.hidden) es are in
      let own_ : seen (within_range wanted.from last es) ≡ within_range wanted.from last (seen es) =
      kept_both (λ e. not e.1.hidden) (is_within wanted.from last) es in
      let made = all_made took then columns v w u x y z (within_range wanted.from last es) taken.1 closes
      (own ∙ ap (λ (f : Fold). f.binding.columns) (sym folds)) start stands (given_kept (is_within wanted.from last) es are) in
      let is : closed v.wanted None (seen (within_range wanted.from last es)) ≡ grouped wanted.calendar wanted.from wanted.to (seen es) =
      ap (closed v.wanted None) own_
      ∙ ap (λ (a : WantedPlan). closed a None (within_range wanted.from last (seen es))) same
      ∙ range_grouped wanted last behind (seen es) given.ordered in
      let all : made_of v.fold.binding.items (closed v.wanted None (seen (within_range wanted.from last es))) ≡ rows =
      ap (made_of v.fold.binding.items) is ∙ ap (λ (f : Fold). made_of f.binding.items
      (grouped wanted.calendar wanted.from wanted.to (seen es))) folds in
      let end : final ≡ z = back (sym (ends ∙ taken.0 ∙ begins)) in (
        made.0 ∙ sym (length-map (closed v.wanted None (seen (within_range wanted.from last es)))
            (λ (g : Group). (g.0, folded_row v.fold.binding.items (map (λ e. e.1) g.1)))) ∙ ap length all,
        λ few. subst (λ (s : V). took s rows final) starts
            (subst (λ (s : V). took x rows s) (sym end) (subst (λ (l : List Element). took x l z) all (made.1 few))),
      )

  pub few_handed : (count : ℕ) → count ≡ u.count → count ≤ most_rows → AreHanded (λ rows. took first rows final) answer (Ok count)
  few_handed count is few = handed_few (λ rows. took first rows final) rows count (is ∙ grouped_all.0) few
      (grouped_all.1 (omega (arith, is, few)))

  pub many_handed : (count : ℕ) → count ≡ u.count → most_rows < count
      → AreHanded (λ rows. took first rows final) answer (Err (TooLarge count))
  many_handed count is many = handed_many (λ rows. took first rows final) rows count (is ∙ grouped_all.0) many
