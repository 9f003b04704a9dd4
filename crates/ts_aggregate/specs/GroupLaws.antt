-- The laws of one that groups elements: it takes none, or some and then others. They stand here since the law of a
-- trait takes its proof from specs/.
use Rattle.std.proofs.Common.{◌≡◌, ℕ, ◌≤◌, ℤ, List, [], ◌∷◌, ◌++◌, length, refl, sym, ap, subst, ◌∙◌, zero-le}
use Rattle.std.proofs.Common.{append-nil, append_assoc}
use Rattle.std.proofs.Math.Nat.{le_refl, le_trans, lt_of_le_of_lt, suc-le-suc_iff}
use Rattle.ts_row.specs.declared.kind.Column.{Column}
use Rattle.ts_row.specs.Row.{Element, seen}
use Rattle.ts_sheets.specs.Stamped.{AreLater}
use Rattle.ts_entry.specs.Entry.{Group}
use Rattle.ts_expr.specs.declared.item.BoundItem.{BoundItem}
use Rattle.ts_expr.specs.Aggregates.{Binding}
use Rattle.ts_aggregate.specs.Groups.{WantedPlan, Grouping, AreGiven, AreOrdered, AreGrouped, AreMade, GoesOn, Stands}
use Rattle.ts_aggregate.specs.Groups.{closed, made_of}

-- elements in order, without the last ones
later_front : (stamp : ℤ) (es fs : List Element) → AreLater stamp (es ++ fs) → AreLater stamp es
later_front stamp [] fs later = tt
later_front stamp (e ∷ es) fs later = (later.0, later_front stamp es fs later.1)

ordered_front : (es fs : List Element) → AreOrdered (es ++ fs) → AreOrdered es
ordered_front [] fs ordered = tt
ordered_front (e ∷ es) fs ordered = (ordered.0, later_front e.0 es fs ordered.1, ordered_front es fs ordered.2)

front_fewer : (es fs : List Element) → length es ≤ length (es ++ fs)
front_fewer [] fs = zero-le
front_fewer (e ∷ es) fs = suc-le-suc_iff.1 (front_fewer es fs)

pub given_front : (es fs : List Element) → AreGiven (es ++ fs) → AreGiven es
given_front es fs given = record {
  ordered = ordered_front es fs given.ordered;
  few =
      lt_of_le_of_lt (front_fewer es fs) given.few;
}

module _ {V : Type 0} (took : V → List Element → V → Type 0) where
  -- no group was handed on
  pub made_same : (none : (x : V) → took x [] x) (items : List BoundItem) (before after : List Group) (count : ℕ)
      (x : V)
      → after ≡ before → AreMade took items before after count x x
  made_same none items before after count x same = record {
    rows = [];
    behind = ap (made_of items) same ∙ sym (append-nil (made_of items before));
    taken = λ few. none x;
  }

  -- some groups, and then others
  pub made_both : (then : (x y z : V) (es fs : List Element) → took x es y → took y fs z → took x (es ++ fs) z)
      (items : List BoundItem)
      (before mid after : List Group) (less more : ℕ) (x y z : V) → less ≤ more
      → AreMade took items before mid less x y → AreMade took items mid after more y z
      → AreMade took items before after more x z
  made_both then items before mid after less more x y z order p q = record {
    rows = p.rows ++ q.rows;
    behind = q.behind ∙ ap (λ (l : List Element). l ++ q.rows) p.behind ∙ append_assoc
        (made_of items before) p.rows q.rows;
    taken = λ few. then x y z p.rows q.rows (p.taken (le_trans order few)) (q.taken few);
  }

  -- groups that are others only by name
  pub made_as : (items items' : List BoundItem) (before before' after after' : List Group) (count : ℕ) (x y : V)
      → items ≡ items'
      → before ≡ before' → after ≡ after'
      → AreMade took items before after count x y → AreMade took items' before' after' count x y
  made_as items items' before before' after after' count x y a b c p =
      subst (λ (i : List BoundItem). AreMade took i before' after' count x y) a
      (subst (λ (g : List Group). AreMade took items g after' count x y) b
      (subst (λ (g : List Group). AreMade took items before g count x y) c p))

  pub grouped_none : (none : (x : V) → took x [] x) (columns : List Column) (v : Grouping) (x : V)
      → AreGrouped took columns v x [] v x
  grouped_none none columns v x = record {
    same = record { wanted = refl; binding = refl; more = le_refl v.count };
    taken = λ own given are stands.
        let all : seen (given ++ []) ≡ seen given = ap seen (append-nil given) in (
          subst (Stands v) (sym all) stands,
          made_same none v.fold.binding.items (closed v.wanted v.span.start (seen given))
              (closed v.wanted v.span.start (seen (given ++ []))) v.count x
              (ap (closed v.wanted v.span.start) all),
        );
  }

  goes_both : (u v w : Grouping) → GoesOn u v → GoesOn v w → GoesOn u w
  goes_both u v w p q = record {
    wanted = q.wanted ∙ p.wanted;
    binding = q.binding ∙ p.binding;
    more =
        le_trans p.more q.more;
  }

  pub grouped_then : (then : (x y z : V) (es fs : List Element) → took x es y → took y fs z → took x (es ++ fs) z)
      (columns : List Column)
      (u v w : Grouping) (x y z : V) (es fs : List Element)
      → AreGrouped took columns u x es v y → AreGrouped took columns v y fs w z
      → AreGrouped took columns u x (es ++ fs) w z
  grouped_then then columns u v w x y z es fs p q = record {
    same = goes_both u v w p.same q.same;
    taken = λ own given are stands.
        let assoc = append_assoc given es fs in
        let both : seen ((given ++ es) ++ fs) ≡ seen (given ++ (es ++ fs)) = ap seen assoc in
        let all : AreGiven ((given ++ es) ++ fs) = subst AreGiven (sym assoc) are in
        let first = p.taken own given (given_front (given ++ es) fs all) stands in
        let second = q.taken (own ∙ ap (λ (b : Binding). b.columns) (sym p.same.binding)) (given ++ es) all first.0 in (
          subst (Stands w) both second.0,
          made_both then u.fold.binding.items (closed u.wanted u.span.start (seen given))
              (closed u.wanted v.span.start (seen (given ++ es)))
              (closed u.wanted w.span.start (seen (given ++ (es ++ fs)))) v.count w.count x y z q.same.more first.1
              (made_as v.fold.binding.items u.fold.binding.items (closed v.wanted v.span.start (seen (given ++ es)))
              (closed u.wanted v.span.start (seen (given ++ es)))
              (closed v.wanted w.span.start (seen ((given ++ es) ++ fs)))
              (closed u.wanted w.span.start (seen (given ++ (es ++ fs)))) w.count y z
              (ap (λ (b : Binding). b.items) p.same.binding)
              (ap (λ (a : WantedPlan). closed a v.span.start (seen (given ++ es))) p.same.wanted)
              (ap (λ (a : WantedPlan). closed a w.span.start (seen ((given ++ es) ++ fs))) p.same.wanted ∙ ap
              (closed u.wanted w.span.start) both)
              second.1),
        );
  }
