-- Elements at on starts behind their own, one after the other.
use Rattle.std.proofs.Common.{◌≡◌, ◌∙◌, ℕ, ◌+◌, ◌<◌, ◌≤◌, ℤ, Option, Some, None, option_map, unwrap_or, List, [], ◌∷◌, ◌++◌, All, length, map, filter_map, slice_get, take, refl, sym, ap, arith}
use Rattle.std.specs.List.{cons_option}
use Rattle.std.proofs.lemmas.List.{append-nil, map-append, length-map, take_more, take_all}
use Rattle.std.proofs.lemmas.List.Elements.{All-nil, All-push, filter_map-append}
use Rattle.std.proofs.lemmas.Option.{slice_get-map, slice_get_within, get_or_from_slice_get}
use Rattle.ts_row.specs.declared.row.Elem.{Elem}
use Rattle.ts_row.specs.Row.{visible, Element}
use Rattle.ts_offset.specs.Grid.{GridPlan}
use Rattle.ts_entry.specs.Entry.{element_in, elements_in}
use Rattle.ts_combine.specs.Rows.{Gathers}
use Rattle.ts_combine.specs.Moved.{start_behind, moved, lagged_row, GathersLagged}
use Rattle.ts_combine.specs.declared.joined.Lagged.{Lagged}
use Rattle.ts_combine.specs.declared.rows.Rows.{Rows}

-- of the first n elements those that move were gathered
pub record IsLagging (grid : GridPlan) (by : ℤ) (last : ℕ) (elems : List Elem) (rows : Rows Lagged) (n : ℕ) : Type 0 where
  pub few : rows.count ≤ n
  pub all : List Lagged
  pub gathers : Gathers rows all
  pub within : All (λ l. l.index < length elems) all
  pub are : map (lagged_row (elements_in elems)) all ≡ filter_map (moved grid by last) (take n (elements_in elems))

pub lagging-first : (grid : GridPlan) (by : ℤ) (last : ℕ) (elems : List Elem) (rows : Rows Lagged) → Gathers rows [] → IsLagging grid by last elems rows 0
lagging-first grid by last elems rows gathers = record {
  few = let number = gathers.number in omega (arith, number);
  all = [];
  gathers = gathers;
  within = All-nil (λ l. l.index < length elems);
  are = refl;
}

-- one element more
one-more : (grid : GridPlan) (by : ℤ) (last : ℕ) (elems : List Elem) (n : ℕ) (e : Elem) (o : Option ℤ) → slice_get elems n ≡ Some e → start_behind grid by last e.stamp ≡ o
    → filter_map (moved grid by last) (take (n + 1) (elements_in elems))
    ≡ filter_map (moved grid by last) (take n (elements_in elems)) ++ cons_option (option_map (λ s. (s, e.row)) o) []
one-more grid by last elems n e o there start =
    let es = elements_in elems in
    let at : slice_get es n ≡ Some (e.stamp, e.row) = slice_get-map element_in elems n ∙ ap (option_map element_in) there in
    let x : Element = (e.stamp, e.row) in
    ap (filter_map (moved grid by last)) (take_more es n x (slice_get_within es n x at) ∙ ap (λ y. take n es ++ y ∷ []) (get_or_from_slice_get es n x x at))
    ∙ filter_map-append (moved grid by last) (take n es) (x ∷ [])
    ∙ ap (λ p. filter_map (moved grid by last) (take n es) ++ cons_option (option_map (λ s. (s, e.row)) p) []) start

pub lagging-none : (grid : GridPlan) (by : ℤ) (last : ℕ) (elems : List Elem) (rows : Rows Lagged) (n : ℕ) (e : Elem) → IsLagging grid by last elems rows n
    → slice_get elems n ≡ Some e → start_behind grid by last e.stamp ≡ None → IsLagging grid by last elems rows (n + 1)
lagging-none grid by last elems rows n e way there start = record {
  few = let few = way.few in omega (arith, few);
  all = way.all;
  gathers = way.gathers;
  within = way.within;
  are = way.are ∙ sym (one-more grid by last elems n e None there start ∙ append-nil (filter_map (moved grid by last) (take n (elements_in elems))));
}

pub lagging-some : (grid : GridPlan) (by : ℤ) (last : ℕ) (elems : List Elem) (rows more : Rows Lagged) (n : ℕ) (e : Elem) (s : ℤ) → IsLagging grid by last elems rows n
    → slice_get elems n ≡ Some e → start_behind grid by last e.stamp ≡ Some s
    → ((all : List Lagged) → Gathers rows all → Gathers more (all ++ record { stamp = s; index = n } ∷ [])) → more.count ≡ rows.count + 1
    → IsLagging grid by last elems more (n + 1)
lagging-some grid by last elems rows more n e s way there start gathers count =
    let es = elements_in elems in
    let at : slice_get es n ≡ Some (e.stamp, e.row) = slice_get-map element_in elems n ∙ ap (option_map element_in) there in
    let row : Lagged = record { stamp = s; index = n } in
    record {
      few = let few = way.few in omega (arith, few, count);
      all = way.all ++ row ∷ [];
      gathers = gathers way.all way.gathers;
      within = All-push (λ l. l.index < length elems) way.all row way.within (slice_get_within elems n e there);
      are = map-append (lagged_row es) way.all (row ∷ [])
          ∙ ap (λ l. l ++ lagged_row es row ∷ []) way.are
          ∙ ap (λ o. filter_map (moved grid by last) (take n es) ++ (s, unwrap_or (option_map (λ x. x.1) o) (visible [])) ∷ []) at
          ∙ sym (one-more grid by last elems n e (Some s) there start);
    }

pub all-lagged : (grid : GridPlan) (by : ℤ) (last : ℕ) (elems : List Elem) (rows : Rows Lagged) (n : ℕ) → IsLagging grid by last elems rows n → length elems ≤ n
    → GathersLagged elems (filter_map (moved grid by last) (elements_in elems)) rows
all-lagged grid by last elems rows n way over = record {
  all = way.all;
  gathers = way.gathers;
  within = way.within;
  are = way.are ∙ ap (filter_map (moved grid by last)) (take_all n (elements_in elems) (let size = length-map {B = Element} elems element_in in omega (arith, size, over)));
}
