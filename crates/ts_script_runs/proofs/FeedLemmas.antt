-- What the items of bytes ask for, one part behind another.
use Rattle.std.proofs.Common.{◌≡◌, ℕ, Bool, true, false, cond, List, [], ◌∷◌, ◌++◌, take, drop, map, Option, Some, None, Result, Ok, Err, refl, sym, ◌∙◌, ap, subst, take-append-drop}
use Rattle.std.proofs.lemmas.List.{map-append}
use Rattle.ts_disk.specs.Device.{Device, Lawful}
use Rattle.ts_items.specs.Items.{Item, items_from, place_from, is_unended_at, Unended}
use Rattle.ts_items.proofs.ItemLaws.{items_from-append}
use Rattle.ts_items.specs.declared.reader.Cut.{Cut}
use Rattle.ts_items.specs.declared.reader.Cut.TheVariants as cuts
use Rattle.ts_base.specs.declared.refusal.Refusal.TheVariants as refusals
use Rattle.ts_command.specs.Grammar.{Request, request_of, requests, last_request}
use Rattle.ts_opening.specs.Engine.{Kept, IsReady}
use Rattle.ts_carriers.specs.declared.fault.RunFault.{RunFault}
use Rattle.ts_script_runs.specs.Script.{script, by_engine, requests_from, requests_at_end}
use Rattle.ts_script_runs.proofs.ItemLemmas.{steady}
use Rattle.ts_carriers.specs.Run.{Ran}
use Rattle.ts_carriers.proofs.CallerLemmas.{ran_none, ran_as, ran_front, ran_then}

-- what a front asks for, and what comes behind it
pub requests_from-append : (place : Option (List ℕ)) (front rest : List ℕ) → requests_from place (front ++ rest) ≡ requests_from place front ++ requests_from (place_from place front) rest
requests_from-append place front rest = ap (map request_of) (items_from-append place front rest) ∙ map-append request_of (items_from place front) (items_from (place_from place front) rest)

pub requests_from-split : (place : Option (List ℕ)) (n : ℕ) (bytes : List ℕ) → requests_from place bytes ≡ requests_from place (take n bytes) ++ requests_from (place_from place (take n bytes)) (drop n bytes)
requests_from-split place n bytes = ap (requests_from place) (sym (take-append-drop n bytes)) ∙ requests_from-append place (take n bytes) (drop n bytes)

-- what the end asks for
pub requests_at_end-is : (bytes : List ℕ) → requests_at_end (place_from (Some []) bytes) ≡ last_request bytes
requests_at_end-is bytes = go (is_unended_at (place_from (Some []) bytes)) where
  go : (b : Bool) → cond {A = List Request} b (request_of Unended ∷ []) [] ≡ map request_of (cond b (Unended ∷ []) [])
  go true = refl
  go false = refl

-- a script that ends between two statements asks for nothing more
pub end_none : (unended : Bool) → cond {A = Option Cut} unended (Some cuts.Unended) None ≡ None → cond {A = List Request} unended (Err refusals.Unended ∷ []) [] ≡ []
end_none true is = absurd (cc)
end_none false is = refl

pub end_some : (unended : Bool) (cut : Cut) → cond {A = Option Cut} unended (Some cuts.Unended) None ≡ Some cut → cond {A = List Request} unended (Err refusals.Unended ∷ []) [] ≡ Err refusals.Unended ∷ []
end_some true cut is = refl
end_some false cut is = absurd (cc)

-- the same run of requests that are named otherwise
pub ran_of : {T : Type 0} (tells : Bool) (asked other : List Request) (r : Result T RunFault) (e f : Kept) (v w : Device) → asked ≡ other → Ran (by_engine tells) script asked r e f v w → Ran (by_engine tells) script other r e f v w
ran_of tells asked other r e f v w same run = subst (λ (l : List Request). Ran (by_engine tells) script l r e f v w) same run

-- one item read, or none
module _ (tells : Bool) (place : Option (List ℕ)) (bytes : List ℕ) (n : ℕ) (e f : Kept) (v w : Device) where
  pub next_none : items_from place (take n bytes) ≡ [] → Lawful tells v → IsReady tells e v → Ran (by_engine tells) script (requests_from place (take n bytes)) (Ok n) e e v v
  next_none none lawful ready = ran_of tells [] (requests_from place (take n bytes)) (Ok n) e e v v (ap (map request_of) (sym none)) (ran_none (by_engine tells) script (steady tells) n e v lawful ready)

  pub next_done : (item : Item) → items_from place (take n bytes) ≡ item ∷ [] → Ran (by_engine tells) script (request_of item ∷ []) (Ok (tt {0})) e f v w → Ran (by_engine tells) script (requests_from place (take n bytes)) (Ok n) e f v w
  next_done item one run = ran_of tells (request_of item ∷ []) (requests_from place (take n bytes)) (Ok n) e f v w (ap (map request_of) (sym one)) (ran_as (by_engine tells) script (steady tells) (request_of item ∷ []) (tt {0}) n e f v w run)

  pub next_failed : (item : Item) (fault : RunFault) → items_from place (take n bytes) ≡ item ∷ [] → Ran {T = Unit {0}} (by_engine tells) script (request_of item ∷ []) (Err fault) e f v w → Ran {T = ℕ} (by_engine tells) script (requests_from place bytes) (Err fault) e f v w
  next_failed item fault one run =
      let others = requests_from (place_from place (take n bytes)) (drop n bytes) in
      ran_of tells ((request_of item ∷ []) ++ others) (requests_from place bytes) (Err fault) e f v w
      (ap (λ (l : List Item). map request_of l ++ others) (sym one) ∙ sym (requests_from-split place n bytes))
      (ran_front (by_engine tells) script (steady tells) (request_of item ∷ []) others fault e f v w run)

-- bytes behind bytes
pub ran_behind : {T U : Type 0} (tells : Bool) (place mid : Option (List ℕ)) (front rest : List ℕ) (done : T) (r : Result U RunFault) (e f h : Kept) (v x w : Device) → Ran (by_engine tells) script (requests_from place front) (Ok done) e f v x → mid ≡ place_from place front → Ran (by_engine tells) script (requests_from mid rest) r f h x w
    → Ran (by_engine tells) script (requests_from place (front ++ rest)) r e h v w
ran_behind tells place mid front rest done r e f h v x w first same second =
    ran_of tells (requests_from place front ++ requests_from mid rest) (requests_from place (front ++ rest)) r e h v w
    (ap (λ (p : Option (List ℕ)). requests_from place front ++ requests_from p rest) same ∙ sym (requests_from-append place front rest))
    (ran_then (by_engine tells) script (steady tells) (requests_from place front) (requests_from mid rest) done e f h v x w first r second)

-- what the end asks for, behind all else
pub ran_to_end : {T U : Type 0} (tells : Bool) (taken : List ℕ) (place : Option (List ℕ)) (done : T) (r : Result U RunFault) (e f h : Kept) (v x w : Device) → Ran (by_engine tells) script (requests taken) (Ok done) e f v x → place ≡ place_from (Some []) taken → Ran (by_engine tells) script (requests_at_end place) r f h x w
    → Ran (by_engine tells) script (requests taken ++ last_request taken) r e h v w
ran_to_end tells taken place done r e f h v x w first same second =
    ran_of tells (requests taken ++ requests_at_end place) (requests taken ++ last_request taken) r e h v w
    (ap (λ (p : Option (List ℕ)). requests taken ++ requests_at_end p) same ∙ ap (λ (l : List Request). requests taken ++ l) (requests_at_end-is taken))
    (ran_then (by_engine tells) script (steady tells) (requests taken) (requests_at_end place) done e f h v x w first r second)
