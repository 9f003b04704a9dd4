-- What AggregateAll lists: each series of a container, in the order of the keys.
use Rattle.std.specs.Prelude.{All, AllPairs}
use Rattle.std.proofs.Common.{◌≡◌, ℕ, Bool, true, false, cond, T, Option, Some, None, option_and_then, option_map, unwrap_or, Ok, List, [], ◌∷◌, map, refl, sym, ap, subst, ◌∙◌, arith, inl, inr, ℤ}
use Rattle.std.proofs.lemmas.List.Elements.{All-nil, All-cons}
use Rattle.std.proofs.lemmas.List.Kept.{AllPairs-cons, AllPairs-filter}
use Rattle.std.specs.FinMap.{entries, entries_sorted, find, get, get-entries, is_sorted}
use Rattle.std.specs.FinMap.Entries.{below_all}
use Rattle.std.specs.Cmp.{tied_itself}
use Rattle.std.specs.declared.cmp.Ordering.{Ordering}
use Rattle.std.specs.declared.cmp.Ordering.TheVariants.{Less, Greater}
use Rattle.std.specs.Ordering.{is_eq, eq_by_cmp}
use Rattle.std.specs.Str.{bytes_eq}
use Rattle.ts_row.specs.Row.{Heading, Row}
use Rattle.ts_row.specs.declared.kind.Column.{Column}
use Rattle.ts_expr.specs.Aggregates.{read_list, Binding, binding}
use Rattle.ts_command.specs.declared.command.Command.TheVariants as commands
use Rattle.ts_model.specs.Catalogue.{Container, Series, Catalogue, name_cmp, columns_of, series_in}
use Rattle.ts_model.proofs.OrderLemmas.{total, both, less, turned, eq_ties, ties-refl, ties-same}
use Rattle.ts_answer.specs.Answer.{outcome, carried_out, known, wanted, scales_of, folded_range, columns_in, aggregate_all}
use Rattle.ts_answer.specs.Reply.{folded_text, series_folded_text}
use Rattle.ts_answer_laws.specs.AggregateLaws.{ContainersAreListed}
use Rattle.ts_answer_laws.proofs.RowLemmas.{Among, among_from, among_contains, among_filter, among_filtered, among_map, among_mapped, pairs_map}
use Rattle.ts_answer_laws.proofs.RangeLemmas.{range_says}
use Rattle.ts_answer_laws.proofs.CameLemmas.{came, same_answer}

module _ {X : Type 0} where
  -- entries in the order of their names
  abbrev AreNamed : List (List ℕ × X) → Type 0
  AreNamed es = AllPairs (λ a b. name_cmp a.0 b.0 ≡ Less) es

  all_behind : (q : List ℕ) (es : List (List ℕ × X)) → T (below_all name_cmp q es) → All (λ (e : List ℕ × X). name_cmp q e.0 ≡ Less) es
  all_behind q [] below = All-nil (λ (e : List ℕ × X). name_cmp q e.0 ≡ Less)
  all_behind q (e ∷ es) below = All-cons (λ (f : List ℕ × X). name_cmp q f.0 ≡ Less) e es (less _ (both _ _ below).0) (all_behind q es (both _ _ below).1)

  sorted_named : (es : List (List ℕ × X)) → T (is_sorted name_cmp es) → AreNamed es
  sorted_named [] sorted = λ i j d low within. absurd (omega (arith, within))
  sorted_named (e ∷ es) sorted = AllPairs-cons (λ (a b : List ℕ × X). name_cmp a.0 b.0 ≡ Less) e es (all_behind e.0 es (both _ _ sorted).0) (sorted_named es (both _ _ sorted).1)

  behind : (q : List ℕ) (es : List (List ℕ × X)) (e : List ℕ × X) → T (below_all name_cmp q es) → Among e es → name_cmp q e.0 ≡ Less
  behind q [] e below there = absurd there
  behind q (f ∷ es) e below (inl is) = ap (λ (g : List ℕ × X). name_cmp q g.0) is ∙ less _ (both _ _ below).0
  behind q (f ∷ es) e below (inr there) = behind q es e (both _ _ below).1 there

  -- each is found under its name, and what is found stands among them
  pub name_found : (es : List (List ℕ × X)) (e : List ℕ × X) → T (is_sorted name_cmp es) → Among e es → find name_cmp e.0 es ≡ Some e.1
  name_found [] e sorted there = absurd there
  name_found (f ∷ es) e sorted (inl is) =
      ap (λ (g : List ℕ × X). find name_cmp g.0 (f ∷ es)) is
      ∙ ap (λ (r : Ordering). cond (is_eq r) (Some f.1) (find name_cmp f.0 es)) (tied_itself total f.0) ∙ ap (λ (g : List ℕ × X). Some g.1) (sym is)
  name_found (f ∷ es) e sorted (inr there) =
      let after : name_cmp e.0 f.0 ≡ Greater = turned f.0 e.0 (behind f.0 es e (both _ _ sorted).0 there) in
      ap (λ (r : Ordering). cond (is_eq r) (Some f.1) (find name_cmp e.0 es)) after ∙ name_found es e (both _ _ sorted).1 there

  found_name : (q : List ℕ) (x : X) (es : List (List ℕ × X)) → find name_cmp q es ≡ Some x → Among (q, x) es
  found_name q x [] is = absurd (let never : ⊥ = cc in never)
  found_name q x (e ∷ es) is = elim (eq_by_cmp name_cmp q e.0) as (λ (b : Bool). eq_by_cmp name_cmp q e.0 ≡ b → cond b (Some e.1) (find name_cmp q es) ≡ Some x → Among (q, x) (e ∷ es)) [
    | true ↦ λ tie at. inl (let same : x ≡ e.1 = cc in let name = ties-same q e.0 tie in λ i. (name i, same i))
    | false ↦ λ other at. inr (found_name q x es at)
  ] refl is

known_there : {X : Type 0} (o : Option X) (x : X) → known o ≡ Ok x → o ≡ Some x
known_there (Some y) x is = let same : y ≡ x = cc in ap Some same
known_there None x is = absurd (cc)

-- a series with its key, as it stands in a container
module _ (cat : Catalogue) (container : List ℕ) where
  inside_there : (e : List ℕ × Series) → Among e (series_in container cat) → (get cat.series e.0 ≡ Some e.1) × (e.1.container ≡ container)
  inside_there e there =
      let kept = among_filtered (λ (f : List ℕ × Series). bytes_eq f.1.container container) (entries cat.series) e there in (
        get-entries cat.series e.0 ∙ name_found (entries cat.series) e (entries_sorted cat.series) kept.0,
        ties-same e.1.container container (sym (eq_ties e.1.container container) ∙ kept.1),
      )

  there_inside : (key : List ℕ) (s : Series) → get cat.series key ≡ Some s → s.container ≡ container → Among (key, s) (series_in container cat)
  there_inside key s there inside =
      among_filter (λ (f : List ℕ × Series). bytes_eq f.1.container container) (entries cat.series) (key, s)
      (found_name key s (entries cat.series) (sym (get-entries cat.series key) ∙ there))
      (ap (λ (c : List ℕ). bytes_eq c container) inside ∙ eq_ties container container ∙ ties-refl container)

  -- the columns of all its series are those of its row type
  same_columns : (s : Series) (c : Container) → get cat.containers container ≡ Some c → s.container ≡ container → columns_of cat s ≡ columns_in cat c
  same_columns s c there inside =
      ap (λ (o : Option Container). unwrap_or (option_map (λ (h : Heading). h.columns) (option_and_then (λ (k : Container). get cat.row_types k.row_type) o)) [])
      (ap (get cat.containers) inside ∙ there)

-- the line of a series
abbrev line_of : Binding → ℤ → ℤ → List ℕ × Series → List ℕ × Row
line_of b from to s = (s.0, folded_range b from to s.1.elements)

pub containers_listed : ContainersAreListed
unfolding outcome carried_out aggregate_all wanted
containers_listed cat answered text container from to is =
    let items = came (read_list text) _ answered is in
    let there = came (wanted container cat.containers) _ answered items.2 in
    let b = came (binding (columns_in cat there.0) items.0) _ answered there.2 in
    let all = series_in container cat in
    let stood = known_there (get cat.containers container) there.0 there.1 in
    record {
      scales = scales_of b.0;
      rows = map (line_of b.0 from to) all;
      rising = pairs_map (line_of b.0 from to) (λ (x y : List ℕ × Row). name_cmp x.0 y.0 ≡ Less) all
          (AllPairs-filter (λ (x y : List ℕ × Series). name_cmp x.0 y.0 ≡ Less) (λ (f : List ℕ × Series). bytes_eq f.1.container container) (entries cat.series)
          (sorted_named (entries cat.series) (entries_sorted cat.series)));
      inside = λ key row listed.
          let one = among_mapped (line_of b.0 from to) all (key, row) (among_from _ (key, row) listed) in
          let at = inside_there cat container one.0 one.1 in
          record { series = one.0.1; there = ap (λ (l : List ℕ × Row). get cat.series l.0) one.2 ∙ at.0; inside = at.1 };
      ranges = λ key row listed.
          let one = among_mapped (line_of b.0 from to) all (key, row) (among_from _ (key, row) listed) in
          let at = inside_there cat container one.0 one.1 in
          let columns = same_columns cat container one.0.1 there.0 stood at.1 in
          subst (λ (l : List ℕ × Row). outcome (Ok (commands.AggregateRange text l.0 from to)) cat ≡ Ok (folded_text (scales_of b.0) ((from, l.1) ∷ []), cat)) (sym one.2)
          (range_says cat text one.0.0 from to one.0.1 items.0 b.0 items.1 at.0 (ap (λ (cs : List Column). binding cs items.0) columns ∙ b.1));
      each = λ key stands.
          let one = there_inside cat container key stands.series stands.there stands.inside in (
            folded_range b.0 from to stands.series.elements,
            among_contains _ (line_of b.0 from to (key, stands.series)) (among_map (line_of b.0 from to) all (key, stands.series) one),
          );
      lines = same_answer (series_folded_text (scales_of b.0) (map (line_of b.0 from to) all), cat) answered b.2;
    }
