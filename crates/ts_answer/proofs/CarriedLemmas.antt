-- How a command on pages ends: it is stopped, or only read.
use Rattle.std.proofs.Common.{◌≡◌, ℕ, ◌+◌, ◌≤◌, Bool, true, false, cond, IsTrue, Result, Ok, Err, IsErrAnd, List, [], ◌++◌, length, refl, ap, sym, ◌∙◌, subst, arith}
use Rattle.ts_base.specs.declared.refusal.Refusal.{Refusal}
use Rattle.ts_base.specs.declared.fault.Trouble.{Trouble}
use Rattle.ts_base.specs.declared.fault.Trouble.TheVariants as troubles
use Rattle.ts_command.specs.declared.command.Command.{Command}
use Rattle.ts_page.specs.Pages.{Contents}
use Rattle.ts_space.specs.Directory.{Directory}
use Rattle.ts_model.specs.Definitions.{Definitions}
use Rattle.ts_layout.specs.Meaning.{Layout, HoldsLayout, catalogue_of}
use Rattle.ts_layout.specs.Placed.{AreKept}
use Rattle.ts_answer.specs.Answer.{outcome}
use Rattle.ts_answer.specs.declared.effect.Effect.{Effect}
use Rattle.ts_answer.specs.declared.effect.Effect.TheVariants.{Nothing}
use Rattle.ts_answer.specs.declared.stop.Stop.{Stop}
use Rattle.ts_answer.specs.declared.stop.Stop.TheVariants as stops
use Rattle.ts_answer.specs.Stop.{trouble_stop}
use Rattle.ts_answer.specs.View.{View, view, IsViewOf, Shows, KeepsRules}
use Rattle.ts_answer.specs.Tried.{IsRefusedAs}
use Rattle.ts_answer.specs.CarriedOut.{CarriedOut, ReadOut, IsStopped, Stays, Grows, most_growth, has_parts, growth_of}
use Rattle.ts_answer.specs.Reading.{IsSaid}
use Rattle.ts_answer.proofs.ViewLemmas.{held_same}

pub stays_none : (tells : Bool) (v : Contents) → Stays tells v v
stays_none tells v = record { free = refl; pages = λ told k. refl }

-- the same layout is seen on pages that stay
pub shows_still : (tells : Bool) (d : Definitions) (space : Directory) (v w : Contents) (l : Layout) → Shows tells (view d space v) l → w.count ≡ v.count → Stays tells v w → Shows tells (view d space w) l
shows_still tells d space v w l shows count stays = record {
  kept = held_same d d space space v.count w.count v.free w.free l shows.kept refl refl count stays.free;
  holds = λ told. subst (λ (p : ℕ → List ℕ). HoldsLayout p l) (sym (λ i k. stays.pages told k i)) (shows.holds told);
}

-- the same rules are kept on them
pub kept_still : (d : Definitions) (space : Directory) (tells : Bool) (v w : Contents) → KeepsRules (view d space v) → w.count ≡ v.count → Stays tells v w → KeepsRules (view d space w)
kept_still d space tells v w kept count stays =
    subst (λ (n : ℕ). AreKept d space w.free n) (sym count) (subst (λ (ns : List ℕ). AreKept d space ns v.count) (sym stays.free) kept)

-- pages that stay, with so many bytes more
pub grows_still : (tells : Bool) (v w : Contents) → Stays tells v w → w.change_bytes ≤ v.change_bytes + most_growth → Grows 1 v w
grows_still tells v w stays bytes = let free = ap (λ (ns : List ℕ). length ns) stays.free in omega (arith, free, bytes)

-- one edit is no more than a command adds
pub grows_one : (command : Command) (v w : Contents) → Grows 1 v w → Grows (growth_of command) v w
grows_one command v w one = by_parts (has_parts command)
  where
    by_parts : (parts : Bool) → Grows (cond parts 26 1) v w
    by_parts true = omega (arith, one)
    by_parts false = one

pub grows_none : (v : Contents) → Grows 1 v v
grows_none v = omega arith

module _ (tells : Bool) (command : Command) (out : List ℕ) (x : View) where
  -- a refusal, where the pages stay
  pub refuses_still : (refusal : Refusal) (c : Contents) → Stays tells x.pages c → c.change_bytes ≤ x.pages.change_bytes + most_growth → c.faults ≡ x.pages.faults
      → (IsTrue tells → (l : Layout) → Shows tells x l → outcome (Ok command) (catalogue_of l) ≡ Err refusal) → IsStopped tells command (stops.Refused refusal) x c
  refuses_still refusal c stays bytes no_fault refused = (λ one. stays, λ one. grows_still tells x.pages c stays bytes, no_fault, refused)

  -- it is stopped, by another call's error
  pub stopped : (r : Result Effect Stop) (stop : Stop) (c : Contents) → IsErrAnd r (λ s. s ≡ stop) → IsStopped tells command stop x c → c.count ≡ x.pages.count → CarriedOut tells command r out x c
  stopped (Ok effect) stop c is why count = absurd is
  stopped (Err other) stop c is why count = record {
    keeps = tt;
    done = tt;
    applies = tt;
    reads = tt;
    stays = tt;
    stopped = subst (λ (s : Stop). IsStopped tells command s x c) (sym is) why;
    count = count;
    grows = tt;
    no_fault = tt;
  }

  -- before any call on the pages
  pub stopped_first : (r : Result Effect Stop) (stop : Stop) → IsErrAnd r (λ s. s ≡ stop) → IsStopped tells command stop x x.pages → CarriedOut tells command r out x x.pages
  stopped_first r stop is why = stopped r stop x.pages is why refl

  pub read_stopped : (r : Result Unit Stop) (stop : Stop) (c : Contents) → IsErrAnd r (λ s. s ≡ stop) → IsStopped tells command stop x c → Stays tells x.pages c → c.count ≡ x.pages.count → c.change_bytes ≡ x.pages.change_bytes → ReadOut tells command r out x c
  read_stopped (Ok done) stop c is why stays count bytes = absurd is
  read_stopped (Err other) stop c is why stays count bytes = record {
    said = tt;
    stopped = subst (λ (s : Stop). IsStopped tells command s x c) (sym is) why;
    stays = stays;
    count = count;
    bytes = bytes;
    no_fault = tt;
  }

  pub read_stopped_first : (r : Result Unit Stop) (stop : Stop) → IsErrAnd r (λ s. s ≡ stop) → IsStopped tells command stop x x.pages → ReadOut tells command r out x x.pages
  read_stopped_first r stop is why = read_stopped r stop x.pages is why (stays_none tells x.pages) refl refl

  -- a test that isn't passed stops the command
  pub tried_stopped : (trouble : Trouble) → ((l : Layout) → IsViewOf x l → IsRefusedAs trouble (outcome (Ok command) (catalogue_of l))) → IsStopped tells command (trouble_stop trouble) x x.pages
  tried_stopped (troubles.Refused refusal) refused = (λ one. stays_none tells x.pages, λ one. grows_none x.pages, refl, λ told l shows. refused l shows.kept)
  tried_stopped (troubles.Memory error) refused = refl

-- a command that only read
module _ (tells : Bool) (command : Command) (d : Definitions) (space : Directory) (v w : Contents) (out : List ℕ) where
  pub read_carried : ReadOut tells command (Ok tt) out (view d space v) w → CarriedOut tells command (Ok Nothing) out (view d space v) w
  read_carried read = record {
    keeps = λ kept. kept_still d space tells v w kept read.count read.stays;
    done = λ told l shows. record {
      layout = l;
      shows = shows_still tells d space v w l shows read.count read.stays;
      comes = λ told. read.said told l shows;
    };
    applies = tt;
    reads = λ reads. refl;
    stays = λ none. read.stays;
    stopped = tt;
    count = read.count;
    grows = let bytes = read.bytes in grows_one command v w (grows_still tells v w read.stays (omega arith));
    no_fault = read.no_fault;
  }

-- of what is in memory
module _ (tells : Bool) (command : Command) (d : Definitions) (space : Directory) (v : Contents) (out : List ℕ) where
  pub said_carried : IsSaid command (Ok tt) out d space → CarriedOut tells command (Ok Nothing) out (view d space v) v
  said_carried says =
      read_carried tells command d space v v out
      (record { said = λ told l shows. let said = (says v.count v.free l shows.kept).ok in said.1 ∙ ap Ok said.2; stopped = tt; stays = stays_none tells v; count = refl; bytes = refl; no_fault = refl })

  pub said_not_carried : (r : Result Effect Stop) (trouble : Trouble) → IsErrAnd r (λ s. s ≡ trouble_stop trouble) → IsSaid command (Err trouble) out d space → CarriedOut tells command r out (view d space v) v
  said_not_carried r trouble is says =
      stopped_first tells command out (view d space v) r (trouble_stop trouble) is (tried_stopped tells command out (view d space v) trouble (λ l held. (says v.count v.free l held).err))

-- a line that is said behind nothing is all that is said
pub said_line : (line before after : List ℕ) → before ≡ [] → after ≡ before ++ line → after ≡ line
said_line line before after none said = said ∙ ap (λ (out : List ℕ). out ++ line) none
