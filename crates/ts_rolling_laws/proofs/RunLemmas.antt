-- Whatever comes, what stands of a set stays what the puts make it.
use Rattle.std.specs.Prelude.{is_some, slice_get, option_and_then}
use Rattle.std.proofs.Common.{◌≡◌, ℕ, ◌<◌, ◌≤◌, true, false, not, cond, Option, Some, None, option_map, ok_or, Ok, Err, List, [], ◌∷◌, ◌++◌, append_assoc, refl, sym, ap, subst, ◌∙◌, inl, inr, ℤ}
use Rattle.std.proofs.lemmas.List.{append-nil}
use Rattle.std.specs.List.{AllByRecursion}
use Rattle.std.specs.FinMap.{empty, get, get-insert, insert, find}
use Rattle.std.specs.Ordering.{nat_cmp, is_eq}
use Rattle.std.specs.Cmp.{tied_itself}
use Rattle.std.specs.Cmp.Lexicographic.{nat_list_cmp_total}
use Rattle.std.proofs.lemmas.Bool.{false≢true}
use Rattle.std.proofs.lemmas.Option.{same_Some}
use Rattle.ts_base.specs.declared.refusal.Refusal.{Refusal}
use Rattle.ts_base.specs.declared.refusal.Refusal.TheVariants.{PastEnd}
use Rattle.ts_row.specs.declared.value.Literal.{Literal}
use Rattle.ts_row.specs.Row.{Row, Element}
use Rattle.ts_calendar.specs.Calendars.{IsLaid}
use Rattle.ts_offset.specs.declared.shape.Shape.TheVariants as shapes
use Rattle.ts_offset.specs.Grid.{GridPlan, grid_of, start_or_next, held_start}
use Rattle.ts_command.specs.declared.command.Command.{Command}
use Rattle.ts_model.specs.declared.kind.Kind.TheVariants as kinds
use Rattle.ts_model.specs.Catalogue.{Catalogue, Series, Regular, columns_of, shape_of, calendar_of}
use Rattle.ts_rolling.specs.Sets.{is_set, most_windows, most_kept, window_key, control_key, read_control, control_of, controls, live, Planned, going, planned}
use Rattle.ts_rolling.specs.SetLaws.{window_in}
use Rattle.ts_rolling.specs.Kept.{kept}
use Rattle.ts_answer.specs.Answer.{Tried, Answered, settled, answer, outcome, carried_out, known, a_row, a_calendar, wanted, create_regular, put_no_dups}
use Rattle.ts_multi.specs.Touched.{object}
use Rattle.ts_answer.specs.Elements.{a_control, control_grid, grid_in, without_windows, with_window, roll_put, roll_create}
use Rattle.ts_rolling_laws.specs.Content.{content, Deed, Put, Other, done, all_done, put_if_any, row_by, put_by, all_puts, IsOfSet, IsAside, Avoids, IsMade, ContentIsKept}
use Rattle.ts_answer_laws.specs.Objects.{set_of}
use Rattle.ts_rolling_laws.proofs.LeaveLemmas.{window_of_set, control_of_set, of_one_set, named_well}
use Rattle.ts_rolling_laws.proofs.CameLemmas.{came, on_ok, same_Ok, known_is, wanted_is, not_refused, row_seen}
use Rattle.ts_rolling_laws.proofs.NumberLemmas.{has}
use Rattle.ts_rolling_laws.proofs.RemovedLemmas.{inserted-other, without-is}
use Rattle.ts_rolling_laws.proofs.SetLemmas.{Laws, IsAfter, control_found, content_kept}
use Rattle.ts_rolling_laws.proofs.StepLemmas.{IsPlanned, planned_is, with_made, made_is, put_is, more_own, more, final_after}

module _ (laws : Laws) (set : List ℕ) (n : ℕ) (g : GridPlan) (laid : IsLaid g.calendar) (least : 1 ≤ n) (most : n ≤ most_kept) where
  -- a put that is accepted
  record Takes (ps : List Element) (cat : Catalogue) (stamp : ℤ) (literals : List Literal) (answered : Answered) : Type 0 where
    row : Row
    is : row_by (control_of set cat) literals cat ≡ Ok row
    after : IsAfter set n g (ps ++ (stamp, row) ∷ []) answered.1

  grid_found : (s : Series) (cat : Catalogue) → shape_of cat s.kind ≡ Some (shapes.Regular g) → control_grid s cat ≡ Ok g
  unfolding control_grid
  grid_found s cat shaped = on_ok (known (shape_of cat s.kind)) (shapes.Regular g) grid_in (ap known shaped)

  put_taken : (ps : List Element) (cat : Catalogue) (after : IsAfter set n g ps cat) (stamp : ℤ) (literals : List Literal) (answered : Answered)
      → (row : Row) → a_row (columns_of cat after.control) literals ≡ Ok row
      → (plan : Planned) (p : IsPlanned n (live set after.control.container cat) g stamp plan) (made : Catalogue)
      → with_window plan.attach (window_key set plan.window) after.control.container (without_windows set plan.purge cat) ≡ Ok made
      → put_no_dups (window_key set plan.window) stamp literals made ≡ Ok answered → Takes ps cat stamp literals answered
  put_taken ps cat after stamp literals answered row row_is plan p made made_so put_so =
      let l = live set after.control.container cat in
      let shown = row_seen (columns_of cat after.control) literals row row_is in
      let key = window_key set p.j in
      let m = more laws set n g laid least most ps cat after stamp row p.j p.at p.there shown in
      let with_plan = subst (λ (q : Planned). with_window q.attach (window_key set q.window) after.control.container (without_windows set q.purge cat) ≡ Ok made) p.is made_so in
      let made_at : made ≡ record cat { series = m } =
      made_is (not (has l p.j)) key after.control.container (without_windows set (going n l p.j) cat) made with_plan
      ∙ ap (λ (k : Catalogue). record k { series = with_made (not (has l p.j)) key after.control.container k.series }) (without-is set (going n l p.j) cat) in
      let put_at = subst (λ (k : Catalogue). put_no_dups key stamp literals k ≡ Ok answered) made_at (subst (λ (q : Planned). put_no_dups (window_key set q.window) stamp literals made ≡ Ok answered) p.is put_so) in
      let put = put_is key stamp literals (record cat { series = m }) answered put_at in
      let own = more_own laws set n g laid least most ps cat after stamp row p.j p.at p.there shown in
      let same = same_Some put.s _ (sym put.there ∙ own) in
      let same_row : put.row ≡ row = same_Ok put.row row (sym put.row_is ∙ ap (λ (s : Series). a_row (columns_of (record cat { series = m }) s) literals) same ∙ row_is) in
      let final = put.is (ap (λ (s : Series). s.kind) same)
      ∙ (λ i. record cat { series = insert m key (record (same i) { elements = insert (same i).elements stamp (same_row i) }) }) in
      record {
        row = row;
        is = ap (λ o. row_by o literals cat) (control_found laws set n g laid least most ps cat after) ∙ row_is;
        after = subst (IsAfter set n g (ps ++ (stamp, row) ∷ [])) (sym final) (final_after laws set n g laid least most ps cat after stamp row p.j p.at p.there shown);
      }

  taken : (ps : List Element) (cat : Catalogue) (after : IsAfter set n g ps cat) (stamp : ℤ) (literals : List Literal) (answered : Answered)
      → roll_put set stamp literals cat ≡ Ok answered → Takes ps cat stamp literals answered
  unfolding roll_put
  taken ps cat after stamp literals answered is =
      let found = control_found laws set n g laid least most ps cat after in
      let first = sym (on_ok (a_control set cat) (n, after.control) _ (ap known found)) ∙ is in
      let second = sym (on_ok (control_grid after.control cat) g _ (grid_found after.control cat after.shaped)) ∙ first in
      let row = came (a_row (columns_of cat after.control) literals) _ answered second in
      let plan = came (planned g n (live set after.control.container cat) stamp) _ answered row.2 in
      let made = came (with_window plan.0.attach (window_key set plan.0.window) after.control.container (without_windows set plan.0.purge cat)) _ answered plan.2 in
      put_taken ps cat after stamp literals answered row.0 row.1 plan.0 (planned_is n (live set after.control.container cat) g stamp plan.0 plan.1) made.0 made.1 made.2

  -- another command
  same_series : is_set set ≡ true → (cat : Catalogue) (command : Command) → Avoids set (Other command) → (key : List ℕ) → IsOfSet set key → get (answer cat (Ok command)).1.series key ≡ get cat.series key
  same_series good cat command avoids key of_set = by (set_of command) refl avoids
    where
      by : (o : Option (List ℕ)) → set_of command ≡ o → IsAside set o command → get (answer cat (Ok command)).1.series key ≡ get cat.series key
      by None is aside = (laws.others cat command is).others (object kinds.Series key) (aside key of_set)
      by (Some other) is aside =
          (laws.sets cat command other aside.0 is).others (object kinds.Series key)
          (λ theirs. aside.1 (sym (of_one_set laws.read set laws.share other key good (named_well command other aside.0 is) of_set theirs.1)))

  passed_by : is_set set ≡ true → (ps : List Element) (cat : Catalogue) → IsAfter set n g ps cat → (command : Command) → Avoids set (Other command) → IsAfter set n g ps (answer cat (Ok command)).1
  passed_by good ps cat after command avoids =
      let same = same_series good cat command avoids in
      let there = same (control_key set n) (control_of_set laws.read set n least most) ∙ after.there in
      record {
        control = after.control;
        there = there;
        shaped = (laws.shapes cat command (control_key set n) after.control after.control (shapes.Regular g) after.there there after.shaped).1;
        alone = λ m low high other. same (control_key set m) (control_of_set laws.read set m low high) ∙ after.alone m low high other;
        windows = λ j few.
            ap (window_in after.control.container) (same (window_key set j) (window_of_set laws.read set j few)) ∙ after.windows j few;
        puts = after.puts;
      }

  -- one after the other
  goes_on : is_set set ≡ true → (ps : List Element) (cat : Catalogue) → IsAfter set n g ps cat → (deed : Deed) → Avoids set deed → IsAfter set n g (ps ++ put_by set deed cat) (done set deed cat)
  unfolding answer outcome carried_out
  goes_on good ps cat after (Other command) avoids = subst (λ l. IsAfter set n g l (answer cat (Ok command)).1) (sym (append-nil ps)) (passed_by good ps cat after command avoids)
  goes_on good ps cat after (Put stamp literals) avoids = by (roll_put set stamp literals cat) refl
    where
      none : (row : Tried Row) (why : Refusal) → put_if_any stamp row (Err why) ≡ []
      none (Ok row) why = refl
      none (Err other) why = refl

      by : (o : Tried Answered) → roll_put set stamp literals cat ≡ o
          → IsAfter set n g (ps ++ put_if_any stamp (row_by (control_of set cat) literals cat) o) (settled cat o).1
      by (Ok answered) is =
          let t = taken ps cat after stamp literals answered is in
          subst (λ r. IsAfter set n g (ps ++ put_if_any stamp r (Ok answered)) answered.1) (sym t.is) t.after
      by (Err why) is =
          subst (λ l. IsAfter set n g l cat) (sym (append-nil ps) ∙ ap (λ l. ps ++ l) (sym (none (row_by (control_of set cat) literals cat) why))) after

  all_kept : is_set set ≡ true → (deeds : List Deed) (ps : List Element) (cat : Catalogue) → IsAfter set n g ps cat → AllByRecursion (Avoids set) deeds
      → content set (all_done set deeds cat) ≡ kept g n (ps ++ all_puts set deeds cat)
  all_kept good [] ps cat after avoid = content_kept laws set n g laid least most ps cat after ∙ ap (kept g n) (sym (append-nil ps))
  all_kept good (deed ∷ deeds) ps cat after avoid =
      all_kept good deeds (ps ++ put_by set deed cat) (done set deed cat) (goes_on good ps cat after deed avoid.0) avoid.1
      ∙ ap (kept g n) (append_assoc ps (put_by set deed cat) (all_puts set deeds (done set deed cat)))

-- the control of a set that was just made stands on its grid, alone
module _ (laws : Laws) (set : List ℕ) (n : ℕ) (g : GridPlan) (cat made : Catalogue) (m : IsMade set n g cat made) where
  no_control : control_of set cat ≡ None → (k : ℕ) → 1 ≤ k → k ≤ most_kept → get cat.series (control_key set k) ≡ None
  no_control none k low high = sym (laws.found.control set cat k low high) ∙ ap (find nat_cmp k) (empty_front (controls set cat) none)
    where
      empty_front : (cs : List (ℕ × Series)) → slice_get cs 0 ≡ None → cs ≡ []
      empty_front [] e = refl
      empty_front (x ∷ cs) e = absurd (cc)

  not_some : (o : Option (ℕ × Series)) → is_some o ≡ false → o ≡ None
  not_some None e = refl
  not_some (Some x) e = absurd (false≢true (sym e))

  grid_is : g.calendar ≡ m.plan
  grid_is = by (start_or_next m.plan m.origin (held_start m.plan m.origin)) m.gridded
    where
      by : (o : Option ℤ) → ok_or (option_map (λ s. record { calendar = m.plan; origin = s }) o) PastEnd ≡ Ok g → g.calendar ≡ m.plan
      by None e = absurd (cc)
      by (Some s) e = sym (ap (λ (h : GridPlan). h.calendar) (same_Ok _ g e))

  pub made_laid : IsLaid g.calendar
  made_laid = subst IsLaid (sym grid_is) m.laid

  abbrev control : Series
  control = record { container = m.container; kind = Regular m.calendar g.origin; elements = empty }

  record Created : Type 0 where
    none : control_of set cat ≡ None
    is : made ≡ record cat { series = insert cat.series (control_key set n) control }

  created : Created
  unfolding outcome carried_out roll_create create_regular
  created =
      let plan = came (a_calendar m.calendar cat) _ (m.line, made) m.created in
      let there = came _ _ (m.line, made) plan.2 in
      let free = came _ _ (m.line, made) there.2 in
      let again = came (a_calendar m.calendar cat) _ (m.line, made) free.2 in
      let stands = came _ _ (m.line, made) again.2 in
      let new = came _ _ (m.line, made) stands.2 in
      let same_plan : again.0 ≡ m.plan = same_Ok again.0 m.plan (sym again.1 ∙ m.found) in
      let grid = came (grid_of again.0 m.origin) _ (m.line, made) new.2 in
      let same_grid : grid.0 ≡ g = same_Ok grid.0 g (sym grid.1 ∙ ap (λ p. grid_of p m.origin) same_plan ∙ m.gridded) in
      record {
        none = not_some (control_of set cat) (not_refused _ _ free.0 free.1);
        is = sym (ap (λ (a : Answered). a.1) (same_Ok _ (m.line, made) grid.2))
            ∙ ap (λ (h : GridPlan). record cat { series = insert cat.series (control_key set n) (record { container = m.container; kind = Regular m.calendar h.origin; elements = empty }) }) same_grid;
      }

  calendar_there : (c : Catalogue) → a_calendar m.calendar c ≡ Ok m.plan → shape_of c (Regular m.calendar g.origin) ≡ Some (shapes.Regular g)
  unfolding a_calendar
  calendar_there c found =
      let text = came (wanted m.calendar c.calendars) _ m.plan found in
      let listed = wanted_is m.calendar c.calendars text.0 text.1 in
      let plan = known_is (calendar_of c text.0) m.plan text.2 in
      ap (λ o. option_map (λ p. shapes.Regular (record { calendar = p; origin = g.origin })) o) (ap (λ o. option_and_then (calendar_of c) o) listed ∙ plan)
      ∙ ap (λ p. Some (shapes.Regular (record { calendar = p; origin = g.origin }))) (sym grid_is)

  pub made_after : IsAfter set n g [] made
  made_after = subst (IsAfter set n g []) (sym created.is) (record {
    control = control;
    there = get-insert nat_list_cmp_total cat.series (control_key set n) control (control_key set n)
        ∙ ap (λ b. cond b (Some control) (get cat.series (control_key set n))) (ap is_eq (tied_itself nat_list_cmp_total (control_key set n)));
    shaped = calendar_there cat m.found;
    alone = λ k low high other.
        inserted-other cat.series (control_key set n) (control_key set k) control (λ e. other (one_control k low high e))
        ∙ no_control created.none k low high;
    windows = λ j few.
        ap (window_in m.container) (inserted-other cat.series (control_key set n) (window_key set j) control (laws.share.own set j n)) ∙ m.none j few;
    puts = tt;
  })
    where
      one_control : (k : ℕ) → 1 ≤ k → k ≤ most_kept → control_key set k ≡ control_key set n → k ≡ n
      one_control k low high e =
          let mine = (laws.read.control (control_key set k) set k).1 (low, high, refl) in
          let theirs = (laws.read.control (control_key set n) set n).1 (m.least, m.most, refl) in
          same_Some k n (sym mine ∙ ap (λ q. read_control q set) e ∙ theirs)

pub content_is_kept : Laws → ContentIsKept
content_is_kept laws set n g cat made deeds m avoid =
    all_kept laws set n g (made_laid laws set n g cat made m) m.least m.most m.named deeds [] made (made_after laws set n g cat made m) avoid
