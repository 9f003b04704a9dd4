-- Edits that are carried out one behind the other on copies of what is in memory.
use Rattle.std.specs.declared.alloc.AllocError.{AllocError}
use Rattle.std.specs.declared.boxed.Box.{Box}
use Rattle.std.proofs.Common.{◌≡◌, ℕ, Bool, true, IsTrue, IfOk, IfErr, Ok, Err, Result, IsErrAnd, List, Global, refl, sym, ◌∙◌, subst, arith}
use Rattle.ts_base.specs.declared.refusal.Refusal.{Refusal}
use Rattle.ts_disk.specs.Device.{Rose}
use Rattle.ts_command.specs.declared.command.Command.{Command}
use Rattle.ts_command.specs.Boundary.{is_writing}
use Rattle.ts_page.specs.Pages.{Contents}
use Rattle.ts_space.specs.Directory.{Directory}
use Rattle.ts_model.specs.Definitions.{Definitions, Tables}
use Rattle.ts_model.specs.Catalogue.{Catalogue}
use Rattle.ts_layout.specs.Meaning.{Layout, catalogue_of}
use Rattle.ts_layout.proofs.CallerLemmas.{kept_alike}
use Rattle.ts_container.specs.KeptCharges.{AreCharges}
use Rattle.ts_answer.specs.declared.effect.Effect.{Effect}
use Rattle.ts_answer.specs.declared.effect.Effect.TheVariants.{Nothing, Pages, Slot, Places, Series, Whole}
use Rattle.ts_answer.specs.declared.stop.Stop.{Stop}
use Rattle.ts_answer.specs.declared.stop.Stop.TheVariants.{Refused, Failed, Memory}
use Rattle.ts_answer.specs.Answer.{Tried, Answered, outcome}
use Rattle.ts_answer.specs.View.{View, view, Shows, IsSeen, KeepsRules}
use Rattle.ts_answer.specs.CarriedOut.{CarriedOut, IsStopped, Grows, growth_of, has_parts, definitions_after, lists_after}
use Rattle.ts_answer.proofs.CallerLemmas.{held_same}
use Rattle.ts_effects.specs.Applied.{CanCharge}
use Rattle.ts_effects.proofs.CallerLemmas.{can_count}
use Rattle.ts_elements.proofs.MemoryLemmas.{few_kept}
use Rattle.ts_rolling_edits.specs.declared.copies.Copies.{Copies}
use Rattle.ts_rolling_edits.specs.Parts.{seen_on, Came, IsPartStopped, IsPart, IsWholeOf, IsWholeDone}

-- a change of one catalogue, and why there is none
abbrev Change : Type 1
Change = Catalogue → Catalogue → Type 0

abbrev Reason : Type 1
Reason = Refusal → Catalogue → Type 0

-- the same rules are kept with the same definitions and lists
rules_alike : (d d' : Definitions) (space space' : Directory) (c : Contents) → KeepsRules (view d space c) → d' ≡ d → space'.lists ≡ space.lists → KeepsRules (view d' space' c)
rules_alike d d' space space' c kept definitions lists = kept_alike d d' space space' c.free c.free c.count c.count kept definitions lists refl refl

-- and the same layout is seen
shows_alike : (tells : Bool) (d d' : Definitions) (space space' : Directory) (c : Contents) (l : Layout) → Shows tells (view d space c) l → d' ≡ d → space'.lists ≡ space.lists → Shows tells (view d' space' c) l
shows_alike tells d d' space space' c l shows definitions lists = record {
  kept = held_same d d' space space' c.count c.count c.free c.free l shows.kept definitions lists refl refl;
  holds = shows.holds;
}

-- copies were made, and nothing changed
pub came_copied : (tells : Bool) (d d' : Definitions) (space space' : Directory) (c : Contents) → d' ≡ d → space'.lists ≡ space.lists → Came tells (λ cat after. after ≡ cat) (view d space c) (view d' space' c)
came_copied tells d d' space space' c definitions lists = record {
  keeps = λ kept. rules_alike d d' space space' c kept definitions lists;
  done = λ told l shows. (l, shows_alike tells d d' space space' c l shows definitions lists, refl);
  count = refl;
  no_fault = refl;
}

module _ (tells : Bool) where
  -- one behind the other
  pub came_then : (P Q R : Change) (x y z : View) → ((a b c : Catalogue) → P a b → Q b c → R a c) → Came tells P x y → Came tells Q y z → Came tells R x z
  came_then P Q R x y z joins first second = record {
    keeps = λ kept. second.keeps (first.keeps kept);
    done = λ told l shows.
        let one = first.done told l shows in
        let two = second.done told one.0 one.1 in
        (two.0, two.1, joins (catalogue_of l) (catalogue_of one.0) (catalogue_of two.0) one.2 two.2);
    count = second.count ∙ first.count;
    no_fault = second.no_fault ∙ first.no_fault;
  }

  -- what is seen then
  pub seen_then : (P : Change) (x y : View) → IsSeen tells x → Came tells P x y → IsSeen tells y
  seen_then P x y seen came = record {
    kept = came.keeps seen.kept;
    layout = λ told.
        let known = seen.layout told in
        let next = came.done told known.0 known.1 in
        (next.0, next.1);
  }

  -- a command was carried out, and its effect applied
  pub came_by : (command : Command) (effect : Effect) (out : List ℕ) (x : View) (c : Contents) (d : Definitions) (space : Directory) → CarriedOut tells command (Ok effect) out x c
      → d ≡ definitions_after effect x.definitions → space.lists ≡ lists_after effect x.space.lists → Came tells (λ a b. outcome (Ok command) a ≡ Ok (out, b)) x (view d space c)
  came_by command effect out x c d space carried definitions lists =
      let space_after : Directory = record x.space { lists = lists_after effect x.space.lists } in
      record {
        keeps = λ kept. rules_alike (definitions_after effect x.definitions) d space_after space c (carried.keeps kept) definitions lists;
        done = λ told l shows.
            let comes = carried.done told l shows in
            (comes.layout, shows_alike tells (definitions_after effect x.definitions) d space_after space c comes.layout comes.shows definitions lists, comes.comes told);
        count = carried.count;
        no_fault = carried.no_fault;
      }

  -- or it wasn't
  pub stopped_by : (command : Command) (stop : Stop) (x : View) (c : Contents) → IsStopped tells command stop x c → IsPartStopped tells (λ refusal cat. outcome (Ok command) cat ≡ Err refusal) stop x c
  stopped_by command (Refused refusal) x c stopped = (stopped.2, stopped.3)
  stopped_by command Failed x c rose = rose
  stopped_by command (Memory error) x c same = same

  -- behind other edits
  pub stopped_then : (P : Change) (S T : Reason) (stop : Stop) (x y : View) (c : Contents) → ((refusal : Refusal) (a b : Catalogue) → P a b → S refusal b → T refusal a) → Came tells P x y → IsPartStopped tells S stop y c
      → IsPartStopped tells T stop x c
  stopped_then P S T (Refused refusal) x y c says came stopped = (
    stopped.0 ∙ came.no_fault,
    λ told l shows.
        let one = came.done told l shows in
        says refusal (catalogue_of l) (catalogue_of one.0) one.2 (stopped.1 told one.0 one.1),
  )
  stopped_then P S T Failed x y c says came rose = subst (λ (n : ℕ). Rose n c.faults) came.no_fault rose
  stopped_then P S T (Memory error) x y c says came same = same ∙ came.no_fault

  -- the same for another reason
  pub stopped_as : (S T : Reason) (stop : Stop) (x : View) (c : Contents) → ((refusal : Refusal) (a : Catalogue) → S refusal a → T refusal a) → IsPartStopped tells S stop x c → IsPartStopped tells T stop x c
  stopped_as S T (Refused refusal) x c says stopped = (stopped.0, λ told l shows. says refusal (catalogue_of l) (stopped.1 told l shows))
  stopped_as S T Failed x c says rose = rose
  stopped_as S T (Memory error) x c says same = same

  module _ (P : Change) (S : Reason) (sums : List ℕ) (x y : View) where
    pub part_done : Came tells P x y → AreCharges sums y.definitions y.space → IsPart tells P S (Ok tt) sums x y
    part_done came charged = record { came = came; charged = charged; stopped = tt; count = came.count }

    pub part_stopped : (r : Result Unit Stop) (stop : Stop) → IsErrAnd r (λ s. s ≡ stop) → IsPartStopped tells S stop x y.pages → y.pages.count ≡ x.pages.count → IsPart tells P S r sums x y
    part_stopped (Ok done) stop is why count = absurd is
    part_stopped (Err other) stop is why count = record {
      came = tt;
      charged = tt;
      stopped = subst (λ (s : Stop). IsPartStopped tells S s x y.pages) (sym is) why;
      count = count;
    }

  -- what becomes of a catalogue that is seen, in other words
  pub came_as : (P Q : Change) (x y : View) → (IsTrue tells → (l : Layout) → Shows tells x l → (after : Catalogue) → P (catalogue_of l) after → Q (catalogue_of l) after) → Came tells P x y → Came tells Q x y
  came_as P Q x y says came = record {
    keeps = came.keeps;
    done = λ told l shows.
        let one = came.done told l shows in
        (one.0, one.1, says told l shows (catalogue_of one.0) one.2);
    count = came.count;
    no_fault = came.no_fault;
  }

  -- what a command does that was carried out, and its effect applied
  module _ (P : Change) (S : Reason) (command : Command) (out : List ℕ) (x : View) where
    pub part_by : (effect : Effect) (c : Contents) (d : Definitions) (space : Directory) (sums : List ℕ) → CarriedOut tells command (Ok effect) out x c → d ≡ definitions_after effect x.definitions → space.lists ≡ lists_after effect x.space.lists
        → AreCharges sums d space → ((a b : Catalogue) → outcome (Ok command) a ≡ Ok (out, b) → P a b) → IsPart tells P S (Ok tt) sums x (view d space c)
    part_by effect c d space sums carried definitions lists charged says =
        part_done P S sums x (view d space c)
        (came_as (λ a b. outcome (Ok command) a ≡ Ok (out, b)) P x (view d space c) (λ told l shows after is. says (catalogue_of l) after is) (came_by command effect out x c d space carried definitions lists)) charged

    -- that isn't carried out
    pub part_not : (sums : List ℕ) (y : View) (r : Result Unit Stop) (stop : Stop) → IsErrAnd r (λ s. s ≡ stop) → CarriedOut tells command (Err stop) out x y.pages → ((refusal : Refusal) (a : Catalogue) → outcome (Ok command) a ≡ Err refusal → S refusal a)
        → IsPart tells P S r sums x y
    part_not sums y r stop is carried says =
        part_stopped P S sums x y r stop is
        (stopped_as (λ refusal a. outcome (Ok command) a ≡ Err refusal) S stop x y.pages says (stopped_by command stop x y.pages carried.stopped)) carried.count

    -- since the disk failed, or for want of memory
    pub part_failed : (sums : List ℕ) (y : View) (stop : Stop) → stop ≡ Failed → CarriedOut tells command (Err stop) out x y.pages → IsPart tells P S (Err Failed) sums x y
    part_failed sums y stop is carried =
        let failed = subst (λ (s : Stop). CarriedOut tells command (Err s) out x y.pages) is carried in
        part_stopped P S sums x y (Err Failed) Failed refl failed.stopped failed.count

    pub part_lacking : (sums : List ℕ) (y : View) (stop : Stop) (error : AllocError) → stop ≡ Memory error → CarriedOut tells command (Err stop) out x y.pages → IsPart tells P S (Err (Memory error)) sums x y
    part_lacking sums y stop error is carried =
        let lacking = subst (λ (s : Stop). CarriedOut tells command (Err s) out x y.pages) is carried in
        part_stopped P S sums x y (Err (Memory error)) (Memory error) refl lacking.stopped lacking.count

    -- or whose effect finds no memory
    pub part_unkept : (sums : List ℕ) (y : View) (effect : Effect) (r : Result Unit Stop) (error : AllocError) → IsErrAnd r (λ s. s ≡ Memory error) → CarriedOut tells command (Ok effect) out x y.pages → IsPart tells P S r sums x y
    part_unkept sums y effect r error is carried = part_stopped P S sums x y r (Memory error) is carried.no_fault carried.count

  -- The effect of a command that was carried out on what is seen can be applied to what is kept of that, whoever keeps
  -- it.
  pub can_charge : (command : Command) (x : View) (sums : List ℕ) → KeepsRules x → AreCharges sums x.definitions x.space → (effect : Effect) (out : List ℕ) (c : Contents) → CarriedOut tells command (Ok effect) out x c → CanCharge effect sums x.definitions x.space
  can_charge command x sums kept charged effect out c carried =
      let comes = carried.keeps kept in
      record {
        charged = charged;
        few = few_kept x kept;
        before = can_count x.definitions x.space x.pages.free x.pages.count kept;
        after = can_count (definitions_after effect x.definitions) (record x.space { lists = lists_after effect x.space.lists }) c.free c.count comes;
        rising = comes.placed.rising;
      }

  -- what stops edits on copies stops all of them
  module _ (r : Result Effect Stop) (x : View) (c : Contents) where
    pub stops_all : (S : Reason) (stop : Stop) → IsErrAnd r (λ s. s ≡ stop) → IsPartStopped tells S stop x c → IfErr r (λ s. IsPartStopped tells S s x c)
    stops_all S stop is why = by r is
      where
        by : (q : Result Effect Stop) → IsErrAnd q (λ s. s ≡ stop) → IfErr q (λ s. IsPartStopped tells S s x c)
        by (Ok effect) none = absurd none
        by (Err other) same = subst (λ (s : Stop). IsPartStopped tells S s x c) (sym same) why

    -- in other words
    pub all_done_as : (P Q : Change) → ((a b : Catalogue) → P a b → Q a b) → IfOk r (λ effect. IsWholeDone tells P effect x c) → IfOk r (λ effect. IsWholeDone tells Q effect x c)
    all_done_as P Q says = by r
      where
        by : (q : Result Effect Stop) → IfOk q (λ effect. IsWholeDone tells P effect x c) → IfOk q (λ effect. IsWholeDone tells Q effect x c)
        by (Ok effect) done = record {
          copies = done.copies;
          whole = done.whole;
          came = came_as P Q x (seen_on done.copies c) (λ told l shows after is. says (catalogue_of l) after is) done.came;
          grows = done.grows;
        }
        by (Err stop) done = tt

    pub all_stopped_as : (S T : Reason) → ((refusal : Refusal) (a : Catalogue) → S refusal a → T refusal a) → IfErr r (λ s. IsPartStopped tells S s x c) → IfErr r (λ s. IsPartStopped tells T s x c)
    all_stopped_as S T says = by r
      where
        by : (q : Result Effect Stop) → IfErr q (λ s. IsPartStopped tells S s x c) → IfErr q (λ s. IsPartStopped tells T s x c)
        by (Ok effect) stopped = tt
        by (Err stop) stopped = stopped_as S T stop x c says stopped

  -- all of a command was carried out on copies, which are what is in memory then
  pub whole_carried : (command : Command) (out : List ℕ) (x : View) (c : Contents) (effect : Effect) → is_writing command ≡ true → growth_of command ≡ 26 → IsWholeDone tells (λ cat after. outcome (Ok command) cat ≡ Ok (out, after)) effect x c
      → CarriedOut tells command (Ok effect) out x c
  whole_carried command out x c effect writes parts done =
      by effect done.whole
    where
      carried : (tables : Box Tables Global) (space : Directory) → Came tells (λ cat after. outcome (Ok command) cat ≡ Ok (out, after)) x (view tables.value.definitions space c) → Grows 26 x.pages c → CarriedOut tells command (Ok (Whole tables space)) out x c
      carried tables space came grows =
          let space_after : Directory = record x.space { lists = space.lists } in
          record {
            keeps = λ kept. rules_alike tables.value.definitions tables.value.definitions space space_after c (came.keeps kept) refl refl;
            done = λ told l shows.
                let one = came.done told l shows in
                record {
                  layout = one.0;
                  shows = shows_alike tells tables.value.definitions tables.value.definitions space space_after c one.0 one.1 refl refl;
                  comes = λ again. one.2;
                };
            applies = tt;
            reads = λ reads. absurd (cc);
            stays = λ none. absurd (cc);
            stopped = tt;
            count = came.count;
            grows = subst (λ (n : ℕ). Grows n x.pages c) (sym parts) grows;
            no_fault = came.no_fault;
          }

      by : (e : Effect) → IsWholeOf done.copies e → CarriedOut tells command (Ok e) out x c
      by (Whole tables space) is =
          carried tables space (subst (λ (s : Directory). Came tells (λ cat after. outcome (Ok command) cat ≡ Ok (out, after)) x (view tables.value.definitions s c)) (sym is.1)
          (subst (λ (t : Tables). Came tells (λ cat after. outcome (Ok command) cat ≡ Ok (out, after)) x (view t.definitions done.copies.space c)) (sym is.0) done.came)) done.grows
      by Nothing none = absurd none
      by Pages none = absurd none
      by (Slot kind slot def) none = absurd none
      by (Places slot moved) none = absurd none
      by (Series slot) none = absurd none

  -- or it wasn't
  pub whole_stopped : (command : Command) (stop : Stop) (x : View) (c : Contents) → has_parts command ≡ true → IsPartStopped tells (λ refusal cat. outcome (Ok command) cat ≡ Err refusal) stop x c → IsStopped tells command stop x c
  whole_stopped command (Refused refusal) x c parts stopped = (λ one. absurd (cc), λ one. absurd (cc), stopped.0, stopped.1)
  whole_stopped command Failed x c parts rose = rose
  whole_stopped command (Memory error) x c parts same = same

  -- and why nothing becomes of it
  pub stopped_known : (S T : Reason) (stop : Stop) (x : View) (c : Contents) → (IsTrue tells → (l : Layout) → Shows tells x l → (refusal : Refusal) → S refusal (catalogue_of l) → T refusal (catalogue_of l))
      → IsPartStopped tells S stop x c → IsPartStopped tells T stop x c
  stopped_known S T (Refused refusal) x c says stopped = (stopped.0, λ told l shows. says told l shows refusal (stopped.1 told l shows))
  stopped_known S T Failed x c says rose = rose
  stopped_known S T (Memory error) x c says same = same

  more : (v w : Contents) → Grows 1 v w → Grows 26 v w
  more v w one = omega (arith, one)

  module _ (command : Command) (out : List ℕ) (x : View) (c : Contents) (writes : is_writing command ≡ true) (parts : has_parts command ≡ true) (large : growth_of command ≡ 26) where
    -- what another command of one edit does, where it answers the same
    pub carried_as : (one : Command) (r : Result Effect Stop) → growth_of one ≡ 1 → (IsTrue tells → (l : Layout) → Shows tells x l → outcome (Ok command) (catalogue_of l) ≡ outcome (Ok one) (catalogue_of l))
        → CarriedOut tells one r out x c → CarriedOut tells command r out x c
    carried_as one (Ok effect) small same carried = record {
      keeps = carried.keeps;
      done = λ told l shows.
          let comes = carried.done told l shows in
          record { layout = comes.layout; shows = comes.shows; comes = λ again. same told l shows ∙ comes.comes again };
      applies = carried.applies;
      reads = λ reads. absurd (cc);
      stays = carried.stays;
      stopped = tt;
      count = carried.count;
      grows = subst (λ (n : ℕ). Grows n x.pages c) (sym large) (more x.pages c (subst (λ (n : ℕ). Grows n x.pages c) small carried.grows));
      no_fault = carried.no_fault;
    }
    carried_as one (Err stop) small same carried = record {
      keeps = tt;
      done = tt;
      applies = tt;
      reads = tt;
      stays = tt;
      stopped = by stop carried.stopped;
      count = carried.count;
      grows = tt;
      no_fault = tt;
    }
      where
        by : (s : Stop) → IsStopped tells one s x c → IsStopped tells command s x c
        by (Refused refusal) stopped = (λ none. absurd (cc), λ none. absurd (cc), stopped.2, λ told l shows. same told l shows ∙ stopped.3 told l shows)
        by Failed rose = rose
        by (Memory error) same = same

    -- what edits on copies do
    pub carried_whole : (tries : Catalogue → Tried Answered) (r : Result Effect Stop) → (IsTrue tells → (l : Layout) → Shows tells x l → outcome (Ok command) (catalogue_of l) ≡ tries (catalogue_of l))
        → IfOk r (λ effect. IsWholeDone tells (λ cat after. tries cat ≡ Ok (out, after)) effect x c) → IfErr r (λ stop. IsPartStopped tells (λ refusal cat. tries cat ≡ Err refusal) stop x c)
        → c.count ≡ x.pages.count → CarriedOut tells command r out x c
    carried_whole tries (Ok effect) same done stopped count =
        whole_carried command out x c effect writes large (record {
          copies = done.copies;
          whole = done.whole;
          came = came_as (λ cat after. tries cat ≡ Ok (out, after)) (λ cat after. outcome (Ok command) cat ≡ Ok (out, after)) x (seen_on done.copies c) (λ told l shows after is. same told l shows ∙ is) done.came;
          grows = done.grows;
        })
    carried_whole tries (Err stop) same done stopped count =
        record {
          keeps = tt;
          done = tt;
          applies = tt;
          reads = tt;
          stays = tt;
          stopped = whole_stopped command stop x c parts
              (stopped_known (λ refusal cat. tries cat ≡ Err refusal) (λ refusal cat. outcome (Ok command) cat ≡ Err refusal) stop x c (λ told l shows refusal is. same told l shows ∙ is) stopped);
          count = count;
          grows = tt;
          no_fault = tt;
        }
