-- What the routines of rolling sets leave of the series of a catalogue: none gets another kind.
use Rattle.std.proofs.Common.{◌≡◌, ℕ, Bool, true, false, ◌&&◌, not, cond, Option, Some, None, option_map, Ok, List, [], ◌∷◌, map, filter_map, refl, sym, ap, subst, ◌∙◌, ℤ, inl, inr}
use Rattle.std.specs.List.{AllByRecursion, fold, cons_option}
use Rattle.std.specs.Prelude.{bytes_eq}
use Rattle.std.specs.FinMap.{empty, entries, entries_sorted, get, get-entries, get-insert, get-remove, insert, remove}
use Rattle.std.specs.Ordering.{eq_by_cmp}
use Rattle.ts_offset.specs.Grid.{GridPlan}
use Rattle.ts_model.specs.declared.kind.Kind.TheVariants as kinds
use Rattle.ts_model.specs.Catalogue.{with_named, name_cmp, Named, SeriesKind, Irregular, Regular, Elements, Series, Catalogue, is_regular}
use Rattle.ts_model.proofs.OrderLemmas.{total, ties-same, both}
use Rattle.ts_rolling.specs.Sets.{window_key, read_window, Planned, planned, may_be_window, window_if_any, windows, live}
use Rattle.ts_rolling.specs.KeyLaws.{KeysAreReadExactly}
use Rattle.ts_rolling.proofs.PlanLemmas.{all_going}
use Rattle.ts_answer.specs.Elements.{without_windows, with_window}
use Rattle.ts_answer.specs.Reply.{ok_line}
use Rattle.ts_answer.specs.Answer.{Answered, Tried, wanted, a_new_name, with_elements, create_irregular}
use Rattle.ts_answer_laws.proofs.CameLemmas.{came}
use Rattle.ts_answer_laws.proofs.ShapeLemmas.{Keeps, there_is, is_new}
use Rattle.ts_answer_laws.proofs.ContainerLemmas.{name_found}
use Rattle.ts_answer_laws.proofs.RowLemmas.{Among}

-- the series without these windows
abbrev pub less : List ℕ → List ℕ → Named Series → Named Series
less set js m = fold (λ m j. remove m (window_key set j)) m js

pub less_is : (set js : List ℕ) (cat : Catalogue) → without_windows set js cat ≡ record cat { series = less set js cat.series }
less_is set [] cat = refl
less_is set (j ∷ js) cat = less_is set js (record cat { series = remove cat.series (window_key set j) })

kind_loose : (kind : SeriesKind) → not (is_regular kind) ≡ true → kind ≡ Irregular
kind_loose Irregular is = refl
kind_loose (Regular calendar origin) is = absurd (cc)

second : (a b : Bool) → (a && b) ≡ true → b ≡ true
second true b is = is
second false b is = absurd (cc)

same_found : {X : Type 0} (o : Option X) (a b : X) → o ≡ Some a → o ≡ Some b → b ≡ a
same_found o a b one other = let same = sym one ∙ other in cc

module _ (cat : Catalogue) (set : List ℕ) where
  -- a series under a key is irregular, if there is one
  abbrev pub IsLoose : List ℕ → Type 0
  IsLoose key = (s : Series) → get cat.series key ≡ Some s → s.kind ≡ Irregular

  -- those of windows are
  loose_among : (container : List ℕ) → KeysAreReadExactly → (es : List (List ℕ × Series)) → ((e : List ℕ × Series) → Among e es → get cat.series e.0 ≡ Some e.1)
      → AllByRecursion (λ (w : ℕ × Series). IsLoose (window_key set w.0)) (filter_map (window_if_any set container) es)
  loose_among container read [] there = tt
  loose_among container read (e ∷ es) there = by (may_be_window container e.1) refl (read_window e.0 set) refl (loose_among container read es (λ f among. there f (inr among)))
    where
      own : may_be_window container e.1 ≡ true → (j : ℕ) → read_window e.0 set ≡ Some j → IsLoose (window_key set j)
      own may j is s found =
          let key = ((read.window e.0 set j).0 is).1 in
          let same = same_found (get cat.series e.0) e.1 s (there e (inl refl)) (ap (get cat.series) key ∙ found) in
          ap (λ (x : Series). x.kind) same ∙ kind_loose e.1.kind (second (bytes_eq e.1.container container) (not (is_regular e.1.kind)) may)

      by : (b : Bool) → may_be_window container e.1 ≡ b → (o : Option ℕ) → read_window e.0 set ≡ o
          → AllByRecursion (λ (w : ℕ × Series). IsLoose (window_key set w.0)) (filter_map (window_if_any set container) es)
          → AllByRecursion (λ (w : ℕ × Series). IsLoose (window_key set w.0))
          (cons_option (cond b (option_map (λ j. (j, e.1)) o) None) (filter_map (window_if_any set container) es))
      by false may o is rest = rest
      by true may None is rest = rest
      by true may (Some j) is rest = (own may j is, rest)

  loose_numbers : (ws : List (ℕ × Series)) → AllByRecursion (λ (w : ℕ × Series). IsLoose (window_key set w.0)) ws → AllByRecursion (λ j. IsLoose (window_key set j)) (map (λ w. w.0) ws)
  loose_numbers [] all = tt
  loose_numbers (w ∷ ws) all = (all.0, loose_numbers ws all.1)

  pub live_loose : (container : List ℕ) → KeysAreReadExactly → AllByRecursion (λ j. IsLoose (window_key set j)) (live set container cat)
  unfolding windows
  live_loose container read =
      loose_numbers (windows set container cat)
      (loose_among container read (entries cat.series) (λ e among. get-entries cat.series e.0 ∙ name_found (entries cat.series) e (entries_sorted cat.series) among))

  -- those that a put lets go are among them
  pub purge_loose : KeysAreReadExactly → (grid : GridPlan) (n : ℕ) (container : List ℕ) (stamp : ℤ) (plan : Planned)
      → planned grid n (live set container cat) stamp ≡ Ok plan → AllByRecursion (λ j. IsLoose (window_key set j)) plan.purge
  purge_loose read grid n container stamp plan is =
      all_going (λ j. IsLoose (window_key set j)) grid n (live set container cat) stamp plan is (live_loose container read)

  -- what is left of the series stood there, and what went was irregular
  pub left_there : (js : List ℕ) (m : Named Series) (q : List ℕ) (s : Series) → get (less set js m) q ≡ Some s → get m q ≡ Some s
  left_there [] m q s is = is
  left_there (j ∷ js) m q s is = still (eq_by_cmp name_cmp q (window_key set j)) (sym (get-remove total m (window_key set j) q) ∙ left_there js (remove m (window_key set j)) q s is)
    where
      still : (b : Bool) → cond b None (get m q) ≡ Some s → get m q ≡ Some s
      still true at = absurd (cc)
      still false at = at

  pub gone_loose : (js : List ℕ) → AllByRecursion (λ j. IsLoose (window_key set j)) js → (m : Named Series) (q : List ℕ) (s : Series)
      → get m q ≡ Some s → get (less set js m) q ≡ None → IsLoose q
  gone_loose [] all m q s there none = absurd (let never = sym there ∙ none in cc)
  gone_loose (j ∷ js) all m q s there none =
      by (eq_by_cmp name_cmp q (window_key set j)) refl
      (λ apart. gone_loose js all.1 (remove m (window_key set j)) q s (get-remove total m (window_key set j) q ∙ ap (λ b. cond b None (get m q)) apart ∙ there) none)
    where
      by : (b : Bool) → eq_by_cmp name_cmp q (window_key set j) ≡ b → (eq_by_cmp name_cmp q (window_key set j) ≡ false → IsLoose q) → IsLoose q
      by true tie rest = subst IsLoose (sym (ties-same q (window_key set j) tie)) all.0
      by false apart rest = rest apart

  -- only series differ, and none has another kind
  series_keep : (m : Named Series) → ((q : List ℕ) (s t : Series) → get cat.series q ≡ Some s → get m q ≡ Some t → t.kind ≡ s.kind) → Keeps cat (record cat { series = m })
  series_keep m kinds = record { calendars = λ key s calendar origin text there kind is. is; patterns = λ calendar text pattern plan listed part is. is; kinds = kinds }

  same_kind : (q : List ℕ) (s t : Series) → get cat.series q ≡ Some s → get cat.series q ≡ Some t → t.kind ≡ s.kind
  same_kind q s t there left = ap (λ (x : Series). x.kind) (same_found (get cat.series q) s t there left)

  -- the windows and one more series go
  pub drop_keeps : (js : List ℕ) (key : List ℕ) → Keeps cat (record cat { series = remove (less set js cat.series) key })
  drop_keeps js key = series_keep (remove (less set js cat.series) key) (λ q s t there left.
      same_kind q s t there (left_there js cat.series q t (still (eq_by_cmp name_cmp q key) (get (less set js cat.series) q) t (sym (get-remove total (less set js cat.series) key q) ∙ left))))
    where
      still : (b : Bool) (o : Option Series) (t : Series) → cond b None o ≡ Some t → o ≡ Some t
      still true o t at = absurd (cc)
      still false o t at = at

  -- a new window
  abbrev new_window : List ℕ → Series
  new_window container = record { container = container; kind = Irregular; elements = empty }

  abbrev with_made : Bool → List ℕ → List ℕ → Named Series → Named Series
  with_made true key container m = insert m key (new_window container)
  with_made false key container m = m

  -- where one is to be made, its key is free
  abbrev IsFreeIf : Bool → List ℕ → Named Series → Type 0
  IsFreeIf true key m = get m key ≡ None
  IsFreeIf false key m = Unit {0}

  made_is : (b : Bool) (key container : List ℕ) (before made : Catalogue) → with_window b key container before ≡ Ok made
      → (made ≡ record before { series = with_made b key container before.series }) × IsFreeIf b key before.series
  unfolding with_window create_irregular
  made_is false key container before made is = (let same : before ≡ made = cc in sym same, tt)
  made_is true key container before made is =
      let answered = came (create_irregular key container before) (λ (a : Answered). Ok a.1) made is in
      let there = came _ _ answered.0 answered.1 in
      let new = came _ _ answered.0 there.2 in
      (same_end answered.0 made answered.2 ∙ new_end answered.0 new.2, is_new kinds.Series key before new.0 new.1)
    where
      same_end : (a : Answered) (c : Catalogue) → let left : Tried Catalogue = Ok a.1 in left ≡ Ok c → c ≡ a.1
      same_end a c e = cc

      new_end : (a : Answered) → let left : Tried Answered = Ok (ok_line, with_named kinds.Series key (new_window container) before) in left ≡ Ok a → a.1 ≡ with_named kinds.Series key (new_window container) before
      new_end a e = let same : (ok_line, with_named kinds.Series key (new_window container) before) ≡ a = cc in sym (ap (λ (x : Answered). x.1) same)

  module _ (js : List ℕ) (loose : AllByRecursion (λ j. IsLoose (window_key set j)) js) where
    -- what stands with a window that was perhaps made
    found_made : (b : Bool) (key container : List ℕ) → IsFreeIf b key (less set js cat.series) → (q : List ℕ) (s t : Series) → get cat.series q ≡ Some s
        → get (with_made b key container (less set js cat.series)) q ≡ Some t → t.kind ≡ s.kind
    found_made false key container free q s t there left = same_kind q s t there (left_there js cat.series q t left)
    found_made true key container free q s t there left =
        by (eq_by_cmp name_cmp q key) refl (sym (get-insert total (less set js cat.series) key (new_window container) q) ∙ left)
      where
        by : (tie : Bool) → eq_by_cmp name_cmp q key ≡ tie → cond tie (Some (new_window container)) (get (less set js cat.series) q) ≡ Some t → t.kind ≡ s.kind
        by true tie at =
            let same : new_window container ≡ t = cc in
            sym (ap (λ (x : Series). x.kind) same)
            ∙ sym (gone_loose js loose cat.series q s there (ap (get (less set js cat.series)) (ties-same q key tie) ∙ free) s there)
        by false apart at = same_kind q s t there (left_there js cat.series q t at)

    found_put : (m : Named Series) (key : List ℕ) (series : Series) (es : Elements) → get m key ≡ Some series
        → ((q : List ℕ) (s t : Series) → get cat.series q ≡ Some s → get m q ≡ Some t → t.kind ≡ s.kind) → (q : List ℕ) (s t : Series) → get cat.series q ≡ Some s
        → get (insert m key (record series { elements = es })) q ≡ Some t → t.kind ≡ s.kind
    found_put m key series es at kinds q s t there left = by (eq_by_cmp name_cmp q key) refl (sym (get-insert total m key (record series { elements = es }) q) ∙ left)
      where
        by : (tie : Bool) → eq_by_cmp name_cmp q key ≡ tie → cond tie (Some (record series { elements = es })) (get m q) ≡ Some t → t.kind ≡ s.kind
        by true tie is =
            let same : record series { elements = es } ≡ t = cc in
            sym (ap (λ (x : Series). x.kind) same) ∙ kinds q s series there (ap (get m) (ties-same q key tie) ∙ at)
        by false apart is = kinds q s t there is

    -- a put behind it
    pub put_keeps : (b : Bool) (key container : List ℕ) (made : Catalogue) → with_window b key container (without_windows set js cat) ≡ Ok made
        → (series : Series) → wanted key made.series ≡ Ok series → (es : Elements) → Keeps cat (with_elements key series es made)
    put_keeps b key container made is series there es =
        let was = made_is b key container (record cat { series = less set js cat.series }) made (ap (with_window b key container) (sym (less_is set js cat)) ∙ is) in
        let m = with_made b key container (less set js cat.series) in
        let at = ap (λ (c : Catalogue). get c.series key) (sym was.0) ∙ there_is key made.series series there in
        subst (λ (c : Catalogue). Keeps cat (with_elements key series es c)) (sym was.0)
        (series_keep (insert m key (record series { elements = es })) (found_put m key series es at (found_made b key container was.1)))
