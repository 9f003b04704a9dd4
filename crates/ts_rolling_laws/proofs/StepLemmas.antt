-- A put, and another command: what stands of a set stays what the puts make it.
use Rattle.std.proofs.Common.{◌≡◌, ℕ, ◌<◌, ◌≤◌, ◌==◌, Bool, true, false, ◌&&◌, not, cond, Some, None, Ok, Err, Result, List, [], ◌∷◌, ◌++◌, refl, sym, ap, subst, ◌∙◌, ℤ}
use Rattle.std.specs.List.{AllByRecursion}
use Rattle.std.specs.Result.{result_unwrap_or}
use Rattle.std.specs.FinMap.{empty, get, get-empty, insert}
use Rattle.std.specs.Ordering.{int_cmp, eq_by_cmp, is_eq}
use Rattle.std.specs.Cmp.{tied_itself}
use Rattle.std.specs.Cmp.Lexicographic.{nat_list_cmp_total}
use Rattle.std.proofs.lemmas.Bool.{false≢true}
use Rattle.ts_base.specs.declared.refusal.Refusal.{Refusal}
use Rattle.ts_base.specs.declared.refusal.Refusal.TheVariants.{WindowGone}
use Rattle.ts_row.specs.declared.value.Literal.{Literal}
use Rattle.ts_row.specs.Row.{Row, Element}
use Rattle.ts_calendar.specs.Calendars.{IsLaid}
use Rattle.ts_offset.specs.declared.shape.Shape.TheVariants as shapes
use Rattle.ts_offset.specs.Grid.{GridPlan, offset_of}
use Rattle.ts_model.specs.Catalogue.{Catalogue, Named, Series, Elements, Irregular, name_cmp, columns_of, shape_of}
use Rattle.ts_rolling.specs.Sets.{most_windows, most_kept, window_key, control_key, Planned, a_plan, later, greatest, is_old, is_gone, going, plan_for, plan_at, planned, live, windows}
use Rattle.ts_rolling.specs.Kept.{last_puts, window_of}
use Rattle.ts_answer.specs.Answer.{Answered, known, a_row, an_address, addressed, wanted, put_no_dups, create_irregular}
use Rattle.ts_answer.specs.Elements.{with_window}
use Rattle.ts_rolling_laws.proofs.CameLemmas.{came, on_ok, same_Ok, wanted_is}
use Rattle.ts_rolling_laws.proofs.NumberLemmas.{has, stands, eq_refl, eq_same, eq_apart, same_newest, stands-other, stands-own, own_young, none_yet}
use Rattle.ts_rolling_laws.proofs.OffsetLemmas.{offset_few}
use Rattle.ts_rolling_laws.proofs.PartLemmas.{is_window, in_window, in_window-yes, part, numbers, ArePuts, part-put, part-other, part-none, last-push, last-none}
use Rattle.ts_rolling_laws.proofs.RemovedLemmas.{key_tie, inserted-other, removed, removed-none, inserted-window, removed-window, has-filter, all-filter, all-numbers}
use Rattle.ts_rolling.specs.SetLaws.{window_in}
use Rattle.ts_rolling_laws.proofs.SetLemmas.{Laws, a_window, IsAfter, live_stands, window_own, window_in-some, window_in-cut}

-- a plan that was made, of a window that isn't gone
pub record IsPlanned (n : ℕ) (l : List ℕ) (g : GridPlan) (stamp : ℤ) (plan : Planned) : Type 0 where
  pub j : ℕ
  pub at : offset_of g stamp ≡ Ok j
  pub there : is_gone n l j ≡ false
  pub is : plan ≡ a_plan j (not (has l j)) (going n l j)

pub planned_is : (n : ℕ) (l : List ℕ) (g : GridPlan) (stamp : ℤ) (plan : Planned) → planned g n l stamp ≡ Ok plan → IsPlanned n l g stamp plan
unfolding plan_for
planned_is n l g stamp plan is = by (offset_of g stamp) refl is
  where
    by : (o : Result ℕ Refusal) → offset_of g stamp ≡ o → plan_at n l o ≡ Ok plan → IsPlanned n l g stamp plan
    by (Err refusal) at e = absurd (cc)
    by (Ok j) at e = chosen (is_gone n l j) refl e
      where
        chosen : (b : Bool) → is_gone n l j ≡ b → cond b (Err (WindowGone (greatest l))) (Ok (a_plan j (not (has l j)) (going n l j))) ≡ Ok plan → IsPlanned n l g stamp plan
        chosen true gone f = absurd (cc)
        chosen false gone f = record { j = j; at = at; there = gone; is = sym (same_Ok _ plan f) }

-- an irregular series without elements
abbrev pub new_window : List ℕ → Series
new_window container = record { container = container; kind = Irregular; elements = empty }

-- the series with a window that is to be made, or the same
abbrev pub with_made : Bool → List ℕ → List ℕ → Named Series → Named Series
with_made true key container m = insert m key (new_window container)
with_made false key container m = m

pub made_is : (b : Bool) (key container : List ℕ) (cat made : Catalogue) → with_window b key container cat ≡ Ok made → made ≡ record cat { series = with_made b key container cat.series }
unfolding with_window create_irregular
made_is false key container cat made is = sym (same_Ok cat made is)
made_is true key container cat made is =
    let answered = came (create_irregular key container cat) (λ a. Ok a.1) made is in
    let there = came _ _ answered.0 answered.1 in
    let free = came _ _ answered.0 there.2 in
    sym (same_Ok answered.0.1 made answered.2) ∙ sym (ap (λ (a : Answered). a.1) (same_Ok _ answered.0 free.2))

-- what PutElemNoDups comes to in an irregular series
pub record IsPut (key : List ℕ) (stamp : ℤ) (literals : List Literal) (made : Catalogue) (answered : Answered) : Type 0 where
  pub s : Series
  pub there : get made.series key ≡ Some s
  pub row : Row
  pub row_is : a_row (columns_of made s) literals ≡ Ok row
  pub is : s.kind ≡ Irregular → answered.1 ≡ record made { series = insert made.series key (record s { elements = insert s.elements stamp row }) }

-- in an irregular series a stamp addresses itself
own_stamp : (s : Series) (made : Catalogue) (stamp at : ℤ) → s.kind ≡ Irregular → an_address s stamp made ≡ Ok at → at ≡ stamp
unfolding an_address
own_stamp s made stamp at irregular e =
    sym (same_Ok stamp at (sym (on_ok (known (shape_of made s.kind)) shapes.Irregular (λ shape. addressed shape stamp) (ap (λ k. known (shape_of made k)) irregular)) ∙ e))

pub put_is : (key : List ℕ) (stamp : ℤ) (literals : List Literal) (made : Catalogue) (answered : Answered) → put_no_dups key stamp literals made ≡ Ok answered → IsPut key stamp literals made answered
unfolding put_no_dups
put_is key stamp literals made answered is =
    let series = came (wanted key made.series) _ answered is in
    let row = came (a_row (columns_of made series.0) literals) _ answered series.2 in
    let at = came (an_address series.0 stamp made) _ answered row.2 in
    let fits = came _ _ answered at.2 in
    record {
      s = series.0;
      there = wanted_is key made.series series.0 series.1;
      row = row.0;
      row_is = row.1;
      is = λ irregular.
          sym (ap (λ (a : Answered). a.1) (same_Ok _ answered fits.2))
          ∙ ap (λ t. record made { series = insert made.series key (record series.0 { elements = insert series.0.elements t row.0 }) }) (own_stamp series.0 made stamp at.0 irregular at.1);
    }

map-push : (g : GridPlan) (ps : List Element) (e : Element) → numbers g (ps ++ e ∷ []) ≡ numbers g ps ++ window_of g e.0 ∷ []
map-push g [] e = refl
map-push g (p ∷ ps) e = ap (λ l. window_of g p.0 ∷ l) (map-push g ps e)

puts-push : (g : GridPlan) (ps : List Element) (e : Element) → ArePuts g ps → ((j : ℕ) × (offset_of g e.0 ≡ Ok j)) × (e.1.hidden ≡ false) → ArePuts g (ps ++ e ∷ [])
puts-push g [] e puts one = (one, tt)
puts-push g (p ∷ ps) e puts one = (puts.0, puts-push g ps e puts.1 one)

left : {X : Type 0} (a b : Bool) (x : X) → cond (a && b) None (cond a (Some x) None) ≡ cond (a && not b) (Some x) None
left true true x = refl
left true false x = refl
left false b x = refl

module _ (laws : Laws) (set : List ℕ) (n : ℕ) (g : GridPlan) (laid : IsLaid g.calendar) (least : 1 ≤ n) (most : n ≤ most_kept) where
  module _ (ps : List Element) (cat : Catalogue) (after : IsAfter set n g ps cat) where
    abbrev pub container : List ℕ
    container = after.control.container

    abbrev pub ks : List ℕ
    ks = numbers g ps

    abbrev pub l : List ℕ
    l = live set container cat

    alike : (k : ℕ) → has l k ≡ stands n ks k
    alike = live_stands laws set n g laid least most ps cat after

    -- a put into window j, which isn't gone
    module _ (stamp : ℤ) (row : Row) (j : ℕ) (at : offset_of g stamp ≡ Ok j) (there : is_gone n l j ≡ false) (shown : row.hidden ≡ false) where
      few : j < most_windows
      few = offset_few g stamp j at

      window : window_of g stamp ≡ j
      window = ap (λ r. result_unwrap_or r 0) at

      inside : in_window g j stamp ≡ true
      inside = in_window-yes g j stamp at

      abbrev pub next : List Element
      next = ps ++ (stamp, row) ∷ []

      next_numbers : numbers g next ≡ ks ++ j ∷ []
      next_numbers = map-push g ps (stamp, row) ∙ ap (λ k. ks ++ k ∷ []) window

      top : later (greatest l) j ≡ later (greatest ks) j
      top = ap (λ m. later m j) (same_newest n least ks l alike)

      abbrev pub less : Named Series
      less = removed set (going n l j) cat.series

      goes : (k : ℕ) → has (going n l j) k ≡ (stands n ks k && is_old n (later (greatest ks) j) k)
      goes k = has-filter (is_old n (later (greatest l) j)) l k ∙ (λ i. alike k i && is_old n (top i) k)

      purged_few : AllByRecursion (λ k. k < most_windows) (going n l j)
      purged_few = all-filter (λ k. k < most_windows) (is_old n (later (greatest l) j)) l (all-numbers (λ k. k < most_windows) (windows set container cat) (laws.found.windows_few set container cat))

      -- what is left of the windows
      less_is : (k : ℕ) → k < most_windows
          → window_in container (get less (window_key set k))
          ≡ cond (stands n ks k && not (is_old n (later (greatest ks) j) k)) (Some (a_window container g ps k)) None
      less_is k low =
          ap (window_in container) (removed-window laws.windows_rise set (going n l j) purged_few cat.series k low)
          ∙ window_in-cut container (has (going n l j) k) (get cat.series (window_key set k))
          ∙ (λ i. cond (goes k i) None (after.windows k low i))
          ∙ left (stands n ks k) (is_old n (later (greatest ks) j) k) (a_window container g ps k)

      abbrev pub more : Named Series
      more = with_made (not (has l j)) (window_key set j) container less

      more_other : (q : List ℕ) → (q ≡ window_key set j → ⊥) → get more q ≡ get less q
      more_other q other = by (not (has l j))
        where
          by : (b : Bool) → get (with_made b (window_key set j) container less) q ≡ get less q
          by true = inserted-other less (window_key set j) q (new_window container) other
          by false = refl

      -- the window is there, with the puts before
      pub more_own : get more (window_key set j) ≡ Some (a_window container g ps j)
      more_own = by (stands n ks j) refl
        where
          here : (b : Bool) → stands n ks j ≡ b → get (with_made (not b) (window_key set j) container less) (window_key set j) ≡ Some (a_window container g ps j)
          here true is =
              window_in-some container (get less (window_key set j)) (a_window container g ps j)
              (less_is j few ∙ (λ i. cond (is i && not (own_young n least ks l alike j there i)) (Some (a_window container g ps j)) None))
          here false is =
              inserted-window laws.windows_rise set less j j (new_window container) few few
              ∙ ap (λ b. cond b (Some (new_window container)) (get less (window_key set j))) (eq_refl j)
              ∙ ap (λ (e : Elements). Some (record { container = container; kind = Irregular; elements = e })) (sym (part-none g (last_puts ps) j (λ q in_j.
              last-none g j q ps empty after.puts in_j (none_yet n least ks l alike j there is) (get-empty int_cmp q))))

          by : (b : Bool) → stands n ks j ≡ b → get more (window_key set j) ≡ Some (a_window container g ps j)
          by b is = ap (λ c. get (with_made (not c) (window_key set j) container less) (window_key set j)) (alike j ∙ is) ∙ here b is

      abbrev pub put : Series
      put = record { container = container; kind = Irregular; elements = insert (part g (last_puts ps) j) stamp row }

      put_window : put ≡ a_window container g next j
      put_window = ap (λ (e : Elements). record { container = container; kind = Irregular; elements = e })
          (part-put g (last_puts ps) j stamp row inside ∙ ap (λ (p : Elements). part g p j) (sym (last-push ps stamp row)))

      abbrev pub final : Named Series
      final = insert more (window_key set j) put

      stands_next : (k : ℕ) (b : Bool) → (k == j) ≡ b → stands n (numbers g next) k ≡ cond b true (stands n ks k && not (is_old n (later (greatest ks) j) k))
      stands_next k true same = ap (λ x. stands n x k) next_numbers ∙ subst (λ x. stands n (ks ++ j ∷ []) x ≡ true) (sym (eq_same k j same)) (stands-own n least ks l alike j there)
      stands_next k false other = ap (λ x. stands n x k) next_numbers ∙ stands-other n least ks l alike j k (λ e. false≢true (sym other ∙ ap (λ x. x == j) e ∙ eq_refl j))

      window_next : (k : ℕ) → (k == j) ≡ false → a_window container g ps k ≡ a_window container g next k
      window_next k other = ap (λ (e : Elements). record { container = container; kind = Irregular; elements = e })
          (sym (ap (λ (p : Elements). part g p k) (last-push ps stamp row) ∙ part-other g (last_puts ps) k stamp row outside))
        where
          outside : in_window g k stamp ≡ false
          outside = ap (is_window k) at ∙ turned
            where
              turned : (j == k) ≡ false
              turned = eq_apart j k (λ e. false≢true (sym other ∙ ap (λ x. x == j) (sym e) ∙ eq_refl j))

      final_is : (k : ℕ) → k < most_windows
          → window_in container (get final (window_key set k))
          ≡ cond (stands n (numbers g next) k) (Some (a_window container g next k)) None
      final_is k low =
          ap (window_in container) (inserted-window laws.windows_rise set more j k put few low) ∙ by (k == j) refl
        where
          by : (b : Bool) → (k == j) ≡ b
              → window_in container (cond b (Some put) (get more (window_key set k)))
              ≡ cond (stands n (numbers g next) k) (Some (a_window container g next k)) None
          by true same =
              window_own container (insert (part g (last_puts ps) j) stamp row)
              ∙ ap Some (put_window ∙ ap (λ x. a_window container g next x) (sym (eq_same k j same)))
              ∙ sym (ap (λ b. cond b (Some (a_window container g next k)) None) (stands_next k true same))
          by false other =
              ap (window_in container) (more_other (window_key set k) (λ e. false≢true (sym other ∙ same_number e)))
              ∙ less_is k low
              ∙ (λ i. cond (sym (stands_next k false other) i) (Some (window_next k other i)) None)
            where
              same_number : window_key set k ≡ window_key set j → (k == j) ≡ true
              same_number e = sym (key_tie laws.windows_rise set k j low few) ∙ ap (λ q. eq_by_cmp name_cmp q (window_key set j)) e ∙ ap is_eq (tied_itself nat_list_cmp_total (window_key set j))

      control_stays : (m : ℕ) → get final (control_key set m) ≡ get cat.series (control_key set m)
      control_stays m =
          inserted-other more (window_key set j) (control_key set m) put (λ e. laws.share.own set j m (sym e))
          ∙ more_other (control_key set m) (λ e. laws.share.own set j m (sym e))
          ∙ removed-none set (going n l j) cat.series (control_key set m) (λ k e. laws.share.own set k m (sym e))

      pub final_after : IsAfter set n g next (record cat { series = final })
      final_after = record {
        control = after.control;
        there = control_stays n ∙ after.there;
        shaped = after.shaped;
        alone = λ m low high other. control_stays m ∙ after.alone m low high other;
        windows = final_is;
        puts = puts-push g ps (stamp, row) after.puts ((j, at), shown);
      }
