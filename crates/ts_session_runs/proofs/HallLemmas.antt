-- Turns, one behind another.
use Rattle.std.proofs.Common.{◌≡◌, ℕ, suc, ◌+◌, ◌<◌, Bool, Option, Some, None, Result, Ok, Err, List, [], ◌∷◌, ◌++◌, length, map, drop, get_or, set, refl, ap, sym, ◌∙◌, subst, append_assoc, length-append, length-set, arith}
use Rattle.std.proofs.lemmas.List.{append-nil}
use Rattle.std.proofs.Math.Seq.{drop-cons}
use Rattle.ts_disk.specs.Device.{Device, Lawful}
use Rattle.ts_items.specs.Items.{Item}
use Rattle.ts_command.specs.Grammar.{request_of}
use Rattle.ts_multi.specs.Schedule.{next_session, order}
use Rattle.ts_sessions.specs.Steps.{Turn}
use Rattle.ts_carriers.specs.declared.fault.RunFault.{RunFault}
use Rattle.ts_carriers.proofs.CallerLemmas.{ran_front, ran_none, ran_then}
use Rattle.ts_session_turns.specs.Hand.{Hand, IsHandReady}
use Rattle.ts_session_runs.specs.Carrier.{sessions, by_sessions, turn_of}
use Rattle.ts_session_scripts.specs.Script.{requests_left}
use Rattle.ts_session_scripts.proofs.CallerLemmas.{one_fewer, turn_none, turn_some}
use Rattle.ts_session_runs.specs.Hall.{TurnsRan, IsBehindTurns}
use Rattle.ts_session_runs.proofs.CarrierLemmas.{steady}

-- turns behind turns
pub turns_then : (tells : Bool) (first second : List Turn) (r : Result Unit RunFault) (h k n : Hand) (v x w : Device) → TurnsRan tells first (Ok tt) h k v x → TurnsRan tells second r k n x w → TurnsRan tells (first ++ second) r h n v w
turns_then tells first second (Ok done) h k n v x w p q = record {
  ran = ran_then (by_sessions tells) sessions (steady tells) first second tt h k n v x w p.ran (Ok done) q.ran;
  count = q.count ∙ p.count;
  few = omega (arith, p.few, q.few, length-append first second);
}
turns_then tells first second (Err fault) h k n v x w p q = record {
  ran = ran_then (by_sessions tells) sessions (steady tells) first second tt h k n v x w p.ran (Err fault) q.ran;
  count = tt;
  few = omega (arith, p.few, q.few, length-append first second);
}

-- turns that ended before the others began
pub turns_front : (tells : Bool) (first others : List Turn) (fault : RunFault) (h k : Hand) (v w : Device) → TurnsRan tells first (Err fault) h k v w → TurnsRan tells (first ++ others) (Err fault) h k v w
turns_front tells first others fault h k v w p = record {
  ran = ran_front (by_sessions tells) sessions (steady tells) first others fault h k v w p.ran;
  count = tt;
  few = omega (arith, p.few, length-append first others);
}

-- on which session a pick falls, if on any
pub falls_on : (pick : ℕ) (kept left : List (List Item)) (found answer : Option ℕ) → kept ≡ left → found ≡ next_session pick (map length kept) → found ≡ answer → next_session pick (map length left) ≡ answer
falls_on pick kept left found answer same chosen is = sym (ap (λ (l : List (List Item)). next_session pick (map length l)) same) ∙ sym chosen ∙ is

-- no turn yet
pub behind_none : (tells : Bool) (scripts : List (List Item)) (picks : List ℕ) (h : Hand) (v : Device) → Lawful tells v → IsHandReady tells h v → IsBehindTurns tells scripts picks 0 scripts h h v v
behind_none tells scripts picks h v lawful ready = record {
  so_far = [];
  asked = refl;
  turns = record { ran = ran_none (by_sessions tells) sessions (steady tells) tt h v lawful ready; count = refl; few = omega arith };
  count = refl;
  taken = omega arith;
}

module _ (tells : Bool) (scripts : List (List Item)) (picks : List ℕ) (index : ℕ) (left : List (List Item)) (h k : Hand) (v x : Device) (behind : IsBehindTurns tells scripts picks index left h k v x) (within : index < length picks) where
  abbrev pick : ℕ
  pick = get_or picks index 0

  -- what the picks come to from this one on
  from_here : order (requests_left scripts) picks ≡ behind.so_far ++ order (requests_left left) (pick ∷ drop (suc index) picks)
  from_here = behind.asked ∙ ap (λ (l : List ℕ). behind.so_far ++ order (requests_left left) l) (drop-cons picks index 0 within)

  -- no item is left: these are all turns
  pub behind_all : next_session pick (map length left) ≡ None → TurnsRan tells (order (requests_left scripts) picks) (Ok tt) h k v x
  behind_all none =
      subst (λ (l : List Turn). TurnsRan tells l (Ok tt) h k v x)
      (sym (from_here ∙ ap (λ (l : List Turn). behind.so_far ++ l) (turn_none pick left (drop (suc index) picks) none) ∙ append-nil behind.so_far)) behind.turns

  -- the next turn
  module _ (who : ℕ) (item : Item) (rest : List Item) (falls : next_session pick (map length left) ≡ Some who) (is : get_or left who [] ≡ item ∷ rest) (n : Hand) (w : Device) where
    abbrev now : Turn
    now = turn_of who (request_of item)

    split : order (requests_left scripts) picks ≡ (behind.so_far ++ now ∷ []) ++ order (requests_left (set left who rest)) (drop (suc index) picks)
    split =
        from_here ∙ ap (λ (l : List Turn). behind.so_far ++ l) (turn_some pick left (drop (suc index) picks) who item rest falls is)
        ∙ sym (append_assoc behind.so_far (now ∷ []) (order (requests_left (set left who rest)) (drop (suc index) picks)))

    -- it was carried out
    module _ (there : who < length left) (turned : TurnsRan tells (now ∷ []) (Ok tt) k n x w) where
      behind_next : IsBehindTurns tells scripts picks (index + 1) (set left who rest) h n v w
      behind_next =
          let next : suc index ≡ index + 1 = omega arith in
          record {
            so_far = behind.so_far ++ now ∷ [];
            asked = split ∙ ap (λ (i : ℕ). (behind.so_far ++ now ∷ []) ++ order (requests_left (set left who rest)) (drop i picks)) next;
            turns = turns_then tells behind.so_far (now ∷ []) (Ok tt) h k n v x w behind.turns turned;
            count = length-set left who rest ∙ behind.count;
            taken = omega (arith, behind.taken, one_fewer left who item rest there is, length-append behind.so_far (now ∷ []));
          }

      pub behind_more : (more : List (List Item)) → more ≡ set left who rest → IsBehindTurns tells scripts picks (index + 1) more h n v w
      behind_more more same = subst (λ (l : List (List Item)). IsBehindTurns tells scripts picks (index + 1) l h n v w) (sym same) behind_next

    -- it wasn't, or not whole
    pub behind_stopped : (fault : RunFault) → TurnsRan tells (now ∷ []) (Err fault) k n x w → TurnsRan tells (order (requests_left scripts) picks) (Err fault) h n v w
    behind_stopped fault turned =
        subst (λ (l : List Turn). TurnsRan tells l (Err fault) h n v w) (sym split)
        (turns_front tells (behind.so_far ++ now ∷ []) (order (requests_left (set left who rest)) (drop (suc index) picks)) fault h n v w
        (turns_then tells behind.so_far (now ∷ []) (Err fault) h k n v x w behind.turns turned))
