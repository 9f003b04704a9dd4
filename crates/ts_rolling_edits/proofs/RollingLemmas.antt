-- What a put into a set and a drop of one come to, of edits one behind the other.
use Rattle.std.proofs.Common.{◌≡◌, ℕ, suc, ◌+◌, not, Bool, true, false, cond, Option, Some, None, Ok, Err, List, [], ◌∷◌, ◌++◌, ◌<◌, length, take, get_or, refl, ap, sym, ◌∙◌, subst, arith, ℤ}
use Rattle.std.proofs.Math.Seq.{take-suc}
use Rattle.std.specs.FinMap.{get, remove, get-remove, same_map}
use Rattle.std.specs.Ordering.{eq_by_cmp}
use Rattle.ts_base.specs.declared.refusal.Refusal.{Refusal}
use Rattle.ts_base.specs.declared.refusal.Refusal.TheVariants as refusals
use Rattle.ts_command.specs.declared.command.Command.TheVariants.{DropSeries, TSCreateIrr, PutElemNoDups}
use Rattle.ts_row.specs.declared.value.Literal.{Literal}
use Rattle.ts_page.specs.Pages.{Contents}
use Rattle.ts_model.specs.Catalogue.{name_cmp, Named, Series, Catalogue, without}
use Rattle.ts_model.proofs.OrderLemmas.{total, same_name, ties-same}
use Rattle.ts_model.specs.declared.kind.Kind.TheVariants as kinds
use Rattle.ts_rolling.specs.Sets.{window_key, a_plan}
use Rattle.ts_rolling_sets.specs.Near.{key_if}
use Rattle.ts_answer.specs.Reply.{ok_line}
use Rattle.ts_answer.specs.Answer.{Answered, known, wanted, outcome, carried_out, drop_series, create_irregular, put_no_dups}
use Rattle.ts_answer.specs.Elements.{with_window, without_windows, put_planned}
use Rattle.ts_answer.specs.CarriedOut.{CarriedOut}
use Rattle.ts_answer.proofs.CallerLemmas.{on_ok, on_err, wanted-there}
use Rattle.ts_answer.specs.declared.stop.Stop.{Stop}
use Rattle.ts_answer.specs.declared.stop.Stop.TheVariants.{Refused}
use Rattle.ts_answer.specs.View.{View, view, Shows, KeepsRules}
use Rattle.ts_layout.specs.Meaning.{catalogue_of}
use Rattle.ts_container.specs.KeptCharges.{AreCharges}
use Rattle.ts_elements.specs.Drops.{LeavesRefused}
use Rattle.ts_rolling_edits.specs.Parts.{Came, IsPart, IsPartStopped, Never, IsWithout, GrowsByPages}
use Rattle.ts_rolling_edits.proofs.PartLemmas.{came_then, stopped_then, part_done}
use Rattle.ts_rolling_edits.proofs.GrowthLemmas.{still_grows}

module _ (set container : List ℕ) (w : ℕ) (stamp : ℤ) (values : List Literal) where
  -- a put into a window that is there, while none goes
  pub put_alone : (attach : Bool) (purge : List ℕ) (cat : Catalogue) → attach ≡ false → purge ≡ [] → put_planned set container (a_plan w attach purge) stamp values cat ≡ put_no_dups (window_key set w) stamp values cat
  unfolding with_window
  put_alone attach purge cat stands none =
      (λ i. put_planned set container (a_plan w (stands i) (none i)) stamp values cat)
      ∙ on_ok (with_window false (window_key set w) container cat) cat (put_no_dups (window_key set w) stamp values) refl

  module _ (attach : Bool) (purge : List ℕ) (key : List ℕ) (same : key ≡ window_key set w) where
    -- windows go, one is made, and the element is put
    pub put_joined : (out : List ℕ) (cat made after : Catalogue) → with_window attach key container (without_windows set purge cat) ≡ Ok made → put_no_dups key stamp values made ≡ Ok (out, after)
        → put_planned set container (a_plan w attach purge) stamp values cat ≡ Ok (out, after)
    put_joined out cat made after is put =
        on_ok (with_window attach (window_key set w) container (without_windows set purge cat)) made (put_no_dups (window_key set w) stamp values) (ap (λ (k : List ℕ). with_window attach k container (without_windows set purge cat)) (sym same) ∙ is)
        ∙ ap (λ (k : List ℕ). put_no_dups k stamp values made) (sym same) ∙ put

    pub put_refused : (refusal : Refusal) (cat made : Catalogue) → with_window attach key container (without_windows set purge cat) ≡ Ok made → put_no_dups key stamp values made ≡ Err refusal
        → put_planned set container (a_plan w attach purge) stamp values cat ≡ Err refusal
    put_refused refusal cat made is put =
        on_ok (with_window attach (window_key set w) container (without_windows set purge cat)) made (put_no_dups (window_key set w) stamp values) (ap (λ (k : List ℕ). with_window attach k container (without_windows set purge cat)) (sym same) ∙ is)
        ∙ ap (λ (k : List ℕ). put_no_dups k stamp values made) (sym same) ∙ put

    pub window_refused : (refusal : Refusal) (cat : Catalogue) → with_window attach key container (without_windows set purge cat) ≡ Err refusal
        → put_planned set container (a_plan w attach purge) stamp values cat ≡ Err refusal
    window_refused refusal cat is =
        on_err (with_window attach (window_key set w) container (without_windows set purge cat)) refusal (put_no_dups (window_key set w) stamp values) (ap (λ (k : List ℕ). with_window attach k container (without_windows set purge cat)) (sym same) ∙ is)

-- what is taken out where nothing stands
gone_already : {X : Type 0} (b : Bool) (there : Option X) → (b ≡ true → there ≡ None) → cond b None there ≡ there
gone_already true there is = sym (is refl)
gone_already false there is = refl

series_gone : (m : Named Series) (key : List ℕ) → get m key ≡ None → remove m key ≡ m
series_gone m key none =
    same_map total same_name (remove m key) m (λ q. get-remove total m key q ∙ gone_already (eq_by_cmp name_cmp q key) (get m q) (λ tie. ap (get m) (ties-same q key tie) ∙ none))

module _ (key : List ℕ) (a : Catalogue) where
  drop_there : (s : Series) → get a.series key ≡ Some s → outcome (Ok (DropSeries key)) a ≡ Ok (ok_line, without kinds.Series key a)
  unfolding outcome carried_out drop_series
  drop_there s there = on_ok _ s _ (wanted-there key a.series s there)

  drop_unknown : get a.series key ≡ None → outcome (Ok (DropSeries key)) a ≡ Err refusals.UnknownName
  unfolding outcome carried_out drop_series wanted
  drop_unknown none = on_err (wanted key a.series) refusals.UnknownName _ (ap known none)

  -- a drop that was accepted
  pub drop_came : (out : List ℕ) (b : Catalogue) → outcome (Ok (DropSeries key)) a ≡ Ok (out, b) → IsWithout key a b
  drop_came out b is = by (get a.series key) refl
    where
      by : (o : Option Series) → get a.series key ≡ o → IsWithout key a b
      by (Some s) there =
          let both = sym is ∙ drop_there s there in
          let same : (out, b) ≡ (ok_line, without kinds.Series key a) = cc in
          ap (λ (e : Answered). e.1) same
      by None none = absurd (let never = sym is ∙ drop_unknown none in cc)

  -- one that was refused had nothing to drop
  pub drop_missed : (refusal : Refusal) → outcome (Ok (DropSeries key)) a ≡ Err refusal → IsWithout key a a
  drop_missed refusal is = by (get a.series key) refl
    where
      by : (o : Option Series) → get a.series key ≡ o → IsWithout key a a
      by (Some s) there = absurd (let never = sym is ∙ drop_there s there in cc)
      by None none = sym (ap (λ (m : Named Series). record a { series = m }) (series_gone a.series key none))

  -- a window that was made
  pub made_came : (container out : List ℕ) (b : Catalogue) → outcome (Ok (TSCreateIrr key container)) a ≡ Ok (out, b) → with_window true key container a ≡ Ok b
  unfolding outcome carried_out with_window
  made_came container out b is = on_ok (create_irregular key container a) (out, b) _ is

  pub made_refused : (container : List ℕ) (refusal : Refusal) → outcome (Ok (TSCreateIrr key container)) a ≡ Err refusal → with_window true key container a ≡ Err refusal
  unfolding outcome carried_out with_window
  made_refused container refusal is = on_err (create_irregular key container a) refusal _ is

  -- an element that was put
  pub put_came : (stamp : ℤ) (values : List Literal) (out : List ℕ) (b : Catalogue) → outcome (Ok (PutElemNoDups key stamp values)) a ≡ Ok (out, b) → put_no_dups key stamp values a ≡ Ok (out, b)
  unfolding outcome carried_out
  put_came stamp values out b is = is

  pub put_not : (stamp : ℤ) (values : List Literal) (refusal : Refusal) → outcome (Ok (PutElemNoDups key stamp values)) a ≡ Err refusal → put_no_dups key stamp values a ≡ Err refusal
  unfolding outcome carried_out
  put_not stamp values refusal is = is

-- the key of a window that is there
pub own_window : (set : List ℕ) (w : ℕ) (attach : Bool) (key : List ℕ) → Some key ≡ key_if set w (not attach) → (attach ≡ false) × (key ≡ window_key set w)
own_window set w true key is = absurd (cc)
own_window set w false key is = let same : key ≡ window_key set w = cc in (refl, same)

-- a window that isn't to be made
pub not_made : (key container : List ℕ) (attach : Bool) (a b : Catalogue) → attach ≡ false → b ≡ a → with_window attach key container a ≡ Ok b
unfolding with_window
not_made key container attach a b stands same = (λ i. with_window (stands i) key container a) ∙ ap Ok (sym same)

-- a drop that was refused, which left the pages
missed_so : (tells : Bool) (key out : List ℕ) (refusal : Refusal) (x : View) (c : Contents) (sums : List ℕ) → c ≡ x.pages → AreCharges sums x.definitions x.space → CarriedOut tells (DropSeries key) (Err (Refused refusal)) out x c
    → IsPart tells (IsWithout key) Never (Ok tt) sums x (view x.definitions x.space c)
missed_so tells key out refusal x c sums same charged carried =
    let stopped = carried.stopped in
    part_done tells (IsWithout key) Never sums x (view x.definitions x.space c)
    (record {
      keeps = λ kept. subst (λ (v : Contents). KeepsRules (view x.definitions x.space v)) (sym same) kept;
      done = λ told l shows. (
        l,
        subst (λ (v : Contents). Shows tells (view x.definitions x.space v) l) (sym same) shows,
        drop_missed key (catalogue_of l) refusal (stopped.3 told l shows),
      );
      count = carried.count;
      no_fault = stopped.2;
    }) charged

pub missed : (tells : Bool) (key out : List ℕ) (stop : Stop) (refusal : Refusal) (x : View) (c : Contents) (sums : List ℕ) → stop ≡ Refused refusal → LeavesRefused stop x.pages c → AreCharges sums x.definitions x.space
    → CarriedOut tells (DropSeries key) (Err stop) out x c → IsPart tells (IsWithout key) Never (Ok tt) sums x (view x.definitions x.space c)
missed tells key out stop refusal x c sums is leaves charged carried =
    missed_so tells key out refusal x c sums (subst (λ (s : Stop). LeavesRefused s x.pages c) is leaves) charged (subst (λ (s : Stop). CarriedOut tells (DropSeries key) (Err s) out x c) is carried)

-- and so the bytes of the record
pub still_missed : (stop : Stop) (refusal : Refusal) (v w : Contents) → stop ≡ Refused refusal → LeavesRefused stop v w → GrowsByPages v w
still_missed stop refusal v w is leaves = still_grows v w (subst (λ (s : Stop). LeavesRefused s v w) is leaves)

-- windows that went, and one more
without_push : (set js : List ℕ) (j : ℕ) (cat : Catalogue) → without_windows set (js ++ j ∷ []) cat ≡ without kinds.Series (window_key set j) (without_windows set js cat)
without_push set [] j cat = refl
without_push set (k ∷ js) j cat = without_push set js j (without kinds.Series (window_key set k) cat)

pub windows_next : (set js : List ℕ) (i : ℕ) → i < length js → (key : List ℕ) → key ≡ window_key set (get_or js i 0) → (a b c : Catalogue) → b ≡ without_windows set (take i js) a → IsWithout key b c
    → c ≡ without_windows set (take (i + 1) js) a
windows_next set js i within key same a b c first second =
    second
    ∙ (λ k. without kinds.Series (same k) (first k))
    ∙ sym (without_push set (take i js) (get_or js i 0) a)
    ∙ ap (λ (ws : List ℕ). without_windows set ws a) (sym (ap (λ (n : ℕ). take n js) (let e : i + 1 ≡ suc i = omega arith in e) ∙ take-suc js i 0 within))

-- the parts of a put, one behind the other
module _ (tells : Bool) (set container : List ℕ) (w : ℕ) (stamp : ℤ) (values : List Literal) (attach : Bool) (purge key : List ℕ) (same : key ≡ window_key set w) where
  abbrev pub Gone : Catalogue → Catalogue → Type 0
  Gone a b = b ≡ without_windows set purge a

  abbrev pub Opens : Catalogue → Catalogue → Type 0
  Opens a b = with_window attach key container a ≡ Ok b

  abbrev pub Opened : Catalogue → Catalogue → Type 0
  Opened a b = with_window attach key container (without_windows set purge a) ≡ Ok b

  abbrev pub Done : List ℕ → Catalogue → Catalogue → Type 0
  Done out a b = put_planned set container (a_plan w attach purge) stamp values a ≡ Ok (out, b)

  abbrev pub Not : Refusal → Catalogue → Type 0
  Not refusal a = put_planned set container (a_plan w attach purge) stamp values a ≡ Err refusal

  -- from the copies on
  pub gone_first : (x y z : View) → Came tells (λ a b. b ≡ a) x y → Came tells Gone y z → Came tells Gone x z
  gone_first x y z = came_then tells (λ a b. b ≡ a) Gone Gone x y z (λ a b c one two. two ∙ ap (without_windows set purge) one)

  pub opened_then : (x y z : View) → Came tells Gone x y → Came tells Opens y z → Came tells Opened x z
  opened_then x y z = came_then tells Gone Opens Opened x y z (λ a b c one two. ap (with_window attach key container) (sym one) ∙ two)

  pub put_then : (out : List ℕ) (x y z : View) → Came tells Opened x y → Came tells (λ a b. put_no_dups key stamp values a ≡ Ok (out, b)) y z → Came tells (Done out) x z
  put_then out x y z = came_then tells Opened (λ a b. put_no_dups key stamp values a ≡ Ok (out, b)) (Done out) x y z (λ a b c one two. put_joined set container w stamp values attach purge key same out a b c one two)

  -- and where one is stopped
  pub gone_stopped : (stop : Stop) (x y : View) (c : Contents) → Came tells (λ a b. b ≡ a) x y → IsPartStopped tells Never stop y c → IsPartStopped tells Not stop x c
  gone_stopped stop x y c came why = stopped_then tells (λ a b. b ≡ a) Never Not stop x y c (λ refusal a b one never. absurd never) came why

  pub opened_stopped : (stop : Stop) (x y : View) (c : Contents) → Came tells Gone x y → IsPartStopped tells (λ refusal a. with_window attach key container a ≡ Err refusal) stop y c → IsPartStopped tells Not stop x c
  opened_stopped stop x y c came why =
      stopped_then tells Gone (λ refusal a. with_window attach key container a ≡ Err refusal) Not stop x y c
      (λ refusal a b one no. window_refused set container w stamp values attach purge key same refusal a (ap (with_window attach key container) (sym one) ∙ no)) came why

  pub put_stopped : (stop : Stop) (x y : View) (c : Contents) → Came tells Opened x y → IsPartStopped tells (λ refusal a. put_no_dups key stamp values a ≡ Err refusal) stop y c → IsPartStopped tells Not stop x c
  put_stopped stop x y c came why =
      stopped_then tells Opened (λ refusal a. put_no_dups key stamp values a ≡ Err refusal) Not stop x y c
      (λ refusal a b one no. put_refused set container w stamp values attach purge key same refusal a b one no) came why

-- the parts of a drop
module _ (tells : Bool) (set windows : List ℕ) where
  pub set_gone : (x y z : View) → Came tells (λ a b. b ≡ a) x y → Came tells (λ a b. b ≡ without_windows set windows a) y z → Came tells (λ a b. b ≡ without_windows set windows a) x z
  set_gone x y z =
      came_then tells (λ a b. b ≡ a) (λ a b. b ≡ without_windows set windows a) (λ a b. b ≡ without_windows set windows a) x y z (λ a b c one two. two ∙ ap (without_windows set windows) one)

  pub control_gone : (control : List ℕ) (x y z : View) → Came tells (λ a b. b ≡ without_windows set windows a) x y → Came tells (IsWithout control) y z
      → Came tells (λ a b. b ≡ without kinds.Series control (without_windows set windows a)) x z
  control_gone control x y z =
      came_then tells (λ a b. b ≡ without_windows set windows a) (IsWithout control) (λ a b. b ≡ without kinds.Series control (without_windows set windows a)) x y z
      (λ a b c one two. two ∙ ap (without kinds.Series control) one)
