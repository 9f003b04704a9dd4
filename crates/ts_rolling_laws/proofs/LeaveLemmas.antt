-- What a command of a rolling set leaves: all but series whose keys are of the set.
use Rattle.std.proofs.Common.{◌≡◌, ℕ, ◌<◌, ◌≤◌, Bool, true, false, Option, Some, None, Ok, Err, List, [], ◌∷◌, slice_get, refl, sym, ap, subst, ◌∙◌, arith, inl, inr, ℤ, pos, ◌≤ℤ◌}
use Rattle.std.specs.Prelude.{is_some, unsigned_abs}
use Rattle.std.proofs.lemmas.Int.{ints}
use Rattle.std.specs.List.{AllByRecursion}
use Rattle.std.specs.FinMap.{get, insert, remove}
use Rattle.ts_base.specs.declared.refusal.Refusal.{Refusal}
use Rattle.ts_row.specs.declared.value.Literal.{Literal}
use Rattle.ts_offset.specs.Grid.{GridPlan}
use Rattle.ts_command.specs.declared.command.Command.{Command}
use Rattle.ts_command.specs.declared.command.Command.TheVariants as commands
use Rattle.ts_command.specs.Form.{HasForm}
use Rattle.ts_model.specs.declared.kind.Kind.{Kind}
use Rattle.ts_model.specs.declared.kind.Kind.TheVariants as kinds
use Rattle.ts_model.specs.Catalogue.{Catalogue, Series, Named, named, with_named, without}
use Rattle.ts_rolling.specs.Sets.{is_set, most_windows, most_kept, window_key, control_key, read_window, read_control, Planned, is_old, later, greatest, planned, controls, control_of, windows, live}
use Rattle.ts_rolling.specs.KeyLaws.{KeysAreReadExactly, SetsShareNoKeys}
use Rattle.ts_rolling.specs.SetLaws.{SeriesAreFoundByKeys}
use Rattle.ts_multi.specs.declared.object.Object.{Object}
use Rattle.ts_answer.specs.Answer.{Tried, Answered, ◌>>=◌, settled, outcome, answer, carried_out, create_regular, put_no_dups}
use Rattle.ts_answer.specs.Elements.{with_window, without_windows, roll_create, roll_put, roll_clip, roll_drop}
use Rattle.ts_answer_laws.specs.Objects.{Leaves, set_of}
use Rattle.ts_rolling_laws.specs.Content.{IsOfSet, SetsStay}
use Rattle.ts_rolling_laws.proofs.CameLemmas.{known_is}
use Rattle.ts_rolling_laws.proofs.OffsetLemmas.{offset_few}
use Rattle.ts_rolling_laws.proofs.RemovedLemmas.{inserted-other, removed-other, removed, without-is, all-filter, all-numbers}
use Rattle.ts_rolling_laws.proofs.StepLemmas.{planned_is, with_made, made_is, new_window}

module _ (read : KeysAreReadExactly) (set : List ℕ) where
  pub window_of_set : (j : ℕ) → j < most_windows → IsOfSet set (window_key set j)
  window_of_set j few = inl (ap is_some ((read.window (window_key set j) set j).1 (few, refl)))

  pub control_of_set : (m : ℕ) → 1 ≤ m → m ≤ most_kept → IsOfSet set (control_key set m)
  control_of_set m low high = inr (ap is_some ((read.control (control_key set m) set m).1 (low, high, refl)))

  -- a key of the set is of no other
  some_number : (o : Option ℕ) → is_some o ≡ true → (j : ℕ) × (o ≡ Some j)
  some_number None is = absurd (cc)
  some_number (Some j) is = (j, refl)

  pub of_one_set : SetsShareNoKeys → (other key : List ℕ) → is_set set ≡ true → is_set other ≡ true → IsOfSet set key → IsOfSet other key → set ≡ other
  of_one_set share other key good fine (inl a) (inl b) =
      let i = some_number (read_window key set) a in
      let j = some_number (read_window key other) b in
      let mine = (read.window key set i.0).0 i.1 in
      let theirs = (read.window key other j.0).0 j.1 in
      (share.windows set other i.0 j.0 good fine mine.0 theirs.0 (sym mine.1 ∙ theirs.1)).0
  of_one_set share other key good fine (inl a) (inr b) =
      let i = some_number (read_window key set) a in
      let j = some_number (read_control key other) b in
      absurd (share.apart set other i.0 j.0 good fine (sym ((read.window key set i.0).0 i.1).1 ∙ ((read.control key other j.0).0 j.1).2))
  of_one_set share other key good fine (inr a) (inl b) =
      let i = some_number (read_control key set) a in
      let j = some_number (read_window key other) b in
      absurd (share.apart other set j.0 i.0 fine good (sym ((read.window key other j.0).0 j.1).1 ∙ ((read.control key set i.0).0 i.1).2))
  of_one_set share other key good fine (inr a) (inr b) =
      let i = some_number (read_control key set) a in
      let j = some_number (read_control key other) b in
      let mine = (read.control key set i.0).0 i.1 in
      let theirs = (read.control key other j.0).0 j.1 in
      (share.controls set other i.0 j.0 good fine mine.1 theirs.1 (sym mine.2 ∙ theirs.2)).0

  abbrev pub Ours : Object → Type 0
  Ours o = (o.kind ≡ kinds.Series) × IsOfSet set o.name

  module _ (found : SeriesAreFoundByKeys) (cat : Catalogue) where
    -- all other series are the same
    abbrev IsSame : Named Series → Type 0
    IsSame m = (q : List ℕ) → (IsOfSet set q → ⊥) → get m q ≡ get cat.series q

    leaves : (m : Named Series) → IsSame m → Leaves Ours cat (record cat { series = m })
    leaves m same = record { format = refl; pages = refl; others = λ o none. by o.kind o.name (λ is of. none (is, of)) }
      where
        by : (k : Kind) (q : List ℕ) → (k ≡ kinds.Series → IsOfSet set q → ⊥) → get (named k (record cat { series = m })) q ≡ get (named k cat) q
        by kinds.RowType q none = refl
        by kinds.Pattern q none = refl
        by kinds.Calendar q none = refl
        by kinds.Container q none = refl
        by kinds.Series q none = same q (none refl)

    whole : Leaves Ours cat cat
    whole = leaves cat.series (λ q none. refl)

    more : (m : Named Series) → IsSame m → (key : List ℕ) → IsOfSet set key → (v : Series) → IsSame (insert m key v)
    more m same key of v q none = inserted-other m key q v (λ e. none (subst (IsOfSet set) (sym e) of)) ∙ same q none

    one_less : (m : Named Series) → IsSame m → (key : List ℕ) → IsOfSet set key → IsSame (remove m key)
    one_less m same key of q none = removed-other m key q (λ e. none (subst (IsOfSet set) (sym e) of)) ∙ same q none

    less : (js : List ℕ) → AllByRecursion (λ j. j < most_windows) js → (m : Named Series) → IsSame m → IsSame (removed set js m)
    less [] all m same = same
    less (j ∷ js) all m same = less js all.1 (remove m (window_key set j)) (one_less m same (window_key set j) (window_of_set j all.0))

    few_live : (container : List ℕ) → AllByRecursion (λ j. j < most_windows) (live set container cat)
    few_live container = all-numbers (λ k. k < most_windows) (windows set container cat) (found.windows_few set container cat)

    with_one : (b : Bool) (key container : List ℕ) → IsOfSet set key → (m : Named Series) → IsSame m → IsSame (with_made b key container m)
    with_one true key container of m same = more m same key of (new_window container)
    with_one false key container of m same = same

    put_leaves : (g : GridPlan) (n : ℕ) (container : List ℕ) (stamp : ℤ) (plan : Planned) → planned g n (live set container cat) stamp ≡ Ok plan
        → (made : Catalogue) → with_window plan.attach (window_key set plan.window) container (without_windows set plan.purge cat) ≡ Ok made
        → (v : Series) → Leaves Ours cat (with_named kinds.Series (window_key set plan.window) v made)
    put_leaves g n container stamp plan is made made_so v =
        let l = live set container cat in
        let p = planned_is n l g stamp plan is in
        let key = window_key set plan.window in
        let of = window_of_set plan.window (subst (λ (q : Planned). q.window < most_windows) (sym p.is) (offset_few g stamp p.j p.at)) in
        let few = subst (λ (q : Planned). AllByRecursion (λ k. k < most_windows) q.purge) (sym p.is) (all-filter (λ k. k < most_windows) (is_old n (later (greatest l) p.j)) l (few_live container)) in
        let m = with_made plan.attach key container (removed set plan.purge cat.series) in
        let at : made ≡ record cat { series = m } =
        made_is plan.attach key container (without_windows set plan.purge cat) made made_so
        ∙ ap (λ (c : Catalogue). record c { series = with_made plan.attach key container c.series }) (without-is set plan.purge cat) in
        subst (λ (c : Catalogue). Leaves Ours cat (with_named kinds.Series key v c)) (sym at)
        (leaves (insert m key v) (more m (with_one plan.attach key container of (removed set plan.purge cat.series) (less plan.purge few cat.series (λ q none. refl))) key of v))

    -- the number of a control
    in_front : (cs : List (ℕ × Series)) → AllByRecursion (λ (e : ℕ × Series). (1 ≤ e.0) × (e.0 ≤ most_kept)) cs → (c : ℕ × Series) → slice_get cs 0 ≡ Some c → (1 ≤ c.0) × (c.0 ≤ most_kept)
    in_front [] all c is = absurd (cc)
    in_front (e ∷ cs) all c is = let same : e ≡ c = cc in subst (λ (x : ℕ × Series). (1 ≤ x.0) × (x.0 ≤ most_kept)) same all.0

    drop_leaves : (control : ℕ × Series) → control_of set cat ≡ Some control
        → Leaves Ours cat (without kinds.Series (control_key set control.0) (without_windows set (live set control.1.container cat) cat))
    drop_leaves control is =
        let l = live set control.1.container cat in
        let front = in_front (controls set cat) (found.controls_few set cat) control is in
        let m = remove (removed set l cat.series) (control_key set control.0) in
        subst (λ (c : Catalogue). Leaves Ours cat (without kinds.Series (control_key set control.0) c)) (sym (without-is set l cat))
        (leaves m (one_less (removed set l cat.series) (less l (few_live control.1.container) cat.series (λ q none. refl)) (control_key set control.0) (control_of_set control.0 front.0 front.1)))

    -- what is tried leaves them
    Tries : Tried Answered → Type 0
    Tries (Ok answered) = Leaves Ours cat answered.1
    Tries (Err refusal) = Unit {0}

    tries : {A : Type 0} (m : Tried A) (f : A → Tried Answered) → ((a : A) → m ≡ Ok a → Tries (f a)) → Tries (m >>= f)
    unfolding ◌>>=◌ Tries
    tries (Ok a) f each = each a refl
    tries (Err refusal) f each = tt

    settles : (m : Tried Answered) → Tries m → Leaves Ours cat (settled cat m).1
    unfolding Tries
    settles (Ok answered) leave = leave
    settles (Err refusal) leave = whole

    created : (calendar : List ℕ) (origin : ℤ) (container : List ℕ) (n : ℕ) → 1 ≤ n → n ≤ most_kept → Tries (roll_create set calendar origin container n cat)
    unfolding Tries roll_create create_regular
    created calendar origin container n low high = tries _ _ (λ plan a. tries _ _ (λ there b. tries _ _ (λ free c. tries _ _ (λ again d. tries _ _ (λ home e. tries _ _ (λ new f. tries _ _ (λ grid h.
        leaves _ (more cat.series (λ q none. refl) (control_key set n) (control_of_set n low high) _))))))))

    put : (stamp : ℤ) (literals : List Literal) → Tries (roll_put set stamp literals cat)
    unfolding Tries roll_put put_no_dups
    put stamp literals = tries _ _ (λ control a. tries _ _ (λ grid b. tries _ _ (λ row c. tries _ _ (λ plan is. tries _ _ (λ made made_so. tries _ _ (λ series d. tries _ _ (λ own e. tries _ _ (λ at f. tries _ _ (λ fits h.
        put_leaves grid control.0 control.1.container stamp plan is made made_so _)))))))))

    read_only : (from to : ℤ) → Tries (roll_clip set from to cat)
    unfolding Tries roll_clip
    read_only from to = tries _ _ (λ control a. tries _ _ (λ grid b. tries _ _ (λ rows c. whole)))

    dropped : Tries (roll_drop set cat)
    unfolding Tries roll_drop
    dropped = tries _ _ (λ control is. tries _ _ (λ grid b. drop_leaves control (known_is (control_of set cat) control is)))

-- the key of a statement of a set is a set's
pub named_well : (command : Command) (set : List ℕ) → HasForm command → set_of command ≡ Some set → is_set set ≡ true
named_well (commands.RollingCreate own calendar origin container kept) set form is = let same : own ≡ set = cc in subst (λ (s : List ℕ). is_set s ≡ true) same form.0
named_well (commands.RollingPut own stamp literals) set form is = let same : own ≡ set = cc in subst (λ (s : List ℕ). is_set s ≡ true) same form
named_well (commands.RollingClip own from to) set form is = let same : own ≡ set = cc in subst (λ (s : List ℕ). is_set s ≡ true) same form
named_well (commands.RollingDrop own) set form is = let same : own ≡ set = cc in subst (λ (s : List ℕ). is_set s ≡ true) same form
named_well command set form is = absurd (cc)

-- a number of windows of a statement
nat_of : (kept : ℤ) → pos 1 ≤ℤ kept → kept ≤ℤ pos 1000 → (1 ≤ unsigned_abs kept) × (unsigned_abs kept ≤ most_kept)
nat_of (pos n) low high = (omega (arith, ints, low), omega (arith, ints, high))
nat_of kept low high = absurd (omega (arith, ints, low))

pub sets_stay : KeysAreReadExactly → SeriesAreFoundByKeys → SetsStay
unfolding answer outcome carried_out
sets_stay read found cat (commands.RollingCreate own calendar origin container kept) set form is =
    let same : own ≡ set = cc in
    let kept_in = nat_of kept form.3 form.4 in
    subst (λ (s : List ℕ). Leaves (Ours read s) cat (settled cat (roll_create own calendar origin container (unsigned_abs kept) cat)).1) same
    (settles read own found cat _ (created read own found cat calendar origin container (unsigned_abs kept) kept_in.0 kept_in.1))
sets_stay read found cat (commands.RollingPut own stamp literals) set form is =
    let same : own ≡ set = cc in
    subst (λ (s : List ℕ). Leaves (Ours read s) cat (settled cat (roll_put own stamp literals cat)).1) same (settles read own found cat _ (put read own found cat stamp literals))
sets_stay read found cat (commands.RollingClip own from to) set form is =
    let same : own ≡ set = cc in
    subst (λ (s : List ℕ). Leaves (Ours read s) cat (settled cat (roll_clip own from to cat)).1) same (settles read own found cat _ (read_only read own found cat from to))
sets_stay read found cat (commands.RollingDrop own) set form is =
    let same : own ≡ set = cc in
    subst (λ (s : List ℕ). Leaves (Ours read s) cat (settled cat (roll_drop own cat)).1) same (settles read own found cat _ (dropped read own found cat))
sets_stay read found cat command set form is = absurd (cc)
