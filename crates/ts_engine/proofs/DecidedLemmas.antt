-- What was decided or said on a command of one case, said of the command that was given.
use Rattle.std.proofs.Common.{◌≡◌, ℕ, ◌+◌, ◌<◌, ◌^◌, ℤ, pos, negsuc, neg_ℤ, ◌≤ℤ◌, unsigned_abs, Bool, true, Option, Result, IfOk, List, ap, sym, ◌∙◌, subst, arith}
use Rattle.std.proofs.lemmas.Int.{ints}
use Rattle.ts_base.specs.declared.fault.Trouble.{Trouble}
use Rattle.ts_command.specs.declared.command.Command.{Command}
use Rattle.ts_page.specs.Pages.{first_element_page, Contents}
use Rattle.ts_space.specs.Directory.{Directory}
use Rattle.ts_model.specs.declared.kind.Kind.{Kind}
use Rattle.ts_model.specs.declared.def.Def.{Def}
use Rattle.ts_model.specs.Definitions.{Definitions}
use Rattle.ts_answer.specs.declared.stop.Stop.{Stop}
use Rattle.ts_answer.specs.CarriedOut.{ReadOut}
use Rattle.ts_answer.specs.View.{View}
use Rattle.ts_command.specs.Boundary.{is_writing}
use Rattle.ts_answer.specs.Decided.{IsDecision, FitsSlot}
use Rattle.ts_answer.specs.Reading.{IsSaid}
use Rattle.ts_engine.specs.Work.{IsDecided}

pub decided_case : (kind : Kind) (command case : Command) (decided made : Result (ℕ × Option Def) Trouble) (d : Definitions) (pages : ℕ) → command ≡ case → decided ≡ made → is_writing case ≡ true
    → IfOk made (λ change. FitsSlot kind change.0 change.1 d) → ((count : ℕ) → count ≡ first_element_page + pages → IsDecision kind case made d count) → IsDecided kind command decided d pages
decided_case kind command case decided made d pages is came writes fits decision =
    subst (λ (r : Result (ℕ × Option Def) Trouble). IsDecided kind command r d pages) (sym came)
    (record {
      writes = ap is_writing is ∙ writes;
      fits = fits;
      decision = λ count size. subst (λ (k : Command). IsDecision kind k made d count) (sym is) (decision count size);
    })

pub said_case : (command case : Command) (result : Result Unit Trouble) (out : List ℕ) (d : Definitions) (space : Directory) → command ≡ case → IsSaid case result out d space → IsSaid command result out d space
said_case command case result out d space is said = subst (λ (k : Command). IsSaid k result out d space) (sym is) said

-- a number that isn't further from zero than a bound fits the type that it is read as
pub small_number : (most : ℕ) (number : ℤ) → most < 2 ^ 63 → neg_ℤ (pos most) ≤ℤ number → number ≤ℤ pos most → unsigned_abs number < 2 ^ 63
small_number most (pos n) fits low high = grind (arith, ints)
small_number most (negsuc n) fits low high = omega (arith, ints)

-- what was answered
pub read_case : (tells : Bool) (command case : Command) (result : Result Unit Stop) (out : List ℕ) (x : View) (c : Contents) → command ≡ case → ReadOut tells case result out x c → ReadOut tells command result out x c
read_case tells command case result out x c is read = subst (λ (k : Command). ReadOut tells k result out x c) (sym is) read
