-- What a stop leaves in each step of emptying the journal.
use Rattle.std.proofs.Common.{◌≡◌, inl, inr, ℕ, Bool, IsTrue, Result, Ok, Err, IsErr, List, replicate, ◌∙◌, ap, subst, arith}
use Rattle.std.proofs.lemmas.Bool.{false≢true}
use Rattle.ts_disk.specs.Device.{Device, Lawful, Only, Torn, LeavesOnly, WrittenAt, Synced, Rose, overwritten}
use Rattle.ts_disk.proofs.Moments.{calls_on, leaves_map}
use Rattle.ts_journal.specs.Journal.{Entry}
use Rattle.ts_journal.specs.Moment.{Keeps}
use Rattle.ts_journal.specs.Steps.{Beside, AreHome, BesideFrom, WritesHome, BroughtHome, Emptying, Empties}
use Rattle.ts_journal.proofs.WriteLemmas.{keeps_then, keeps_sync, keeps_write}
use Rattle.ts_journal.proofs.AppendLemmas.{on_ok_const, only_held}

module _ (tells : Bool) (es : List Entry) (v : Device) where
  -- a failure on the way
  pub empties_failed : {E : Type 0} (r : Result Unit E) (w : Device) → IsErr r → Keeps tells v w → Rose v.faults w.faults → (IsTrue tells → LeavesOnly v w (Emptying es v)) → Empties tells es r v w
  empties_failed (Ok done) w err keeps rose moments = absurd (false≢true err)
  empties_failed (Err e) w err keeps rose moments = record { keeps = keeps; emptied = tt; durable = tt; cause = λ failed. rose; no_fault = λ done. absurd (false≢true done); moments = moments }

  module _ {D : Type 0} (settled : Only v.held v.images) (d : Result Unit D) (w : Device) (home : WritesHome tells es d v w) where
    in_pages : (image : List ℕ) → w.images image → Beside es v.held image
    in_pages image now = let from = home.crash image now in subst (λ (f : List ℕ). Beside es f image) (settled from.0 from.1) from.2

    pub run_home : LeavesOnly v w (Emptying es v)
    run_home = leaves_map v w (BesideFrom es v) (Emptying es v) (λ image said torn. (inl (subst (λ (f : List ℕ). Beside es f image) (settled torn.0 torn.1) torn.2), torn.3)) home.moments

    module _ {E : Type 0} (s : Result Unit E) (x : Device) (sync : Synced tells s w x) where
      pub run_settled : LeavesOnly v x (Emptying es v)
      run_settled = calls_on tells s v w x (Emptying es v) run_home sync.call (λ image now. (inl (in_pages image (sync.crash image now)), home.keeps.said))

      module _ {F : Type 0} (only : Only w.held x.images) (q : Result Unit F) (y : Device) (gate : WrittenAt tells 4096 (replicate 8 0) q x y) where
        pub keeps_closed : Keeps tells v y
        keeps_closed = keeps_then tells v x y (keeps_then tells v w x home.keeps (keeps_sync tells s w x sync)) (keeps_write tells 4096 (replicate 8 0) q x y gate)

        module _ (brought : BroughtHome es v.held w.held) where
          closing : (image : List ℕ) → y.images image → (m : List ℕ) × BroughtHome es v.held m × Torn 4096 8 m image
          closing image now = let from = gate.crash image now in (w.held, brought, subst (λ (f : List ℕ). Torn 4096 8 f image) (only from.0 from.1) from.2)

          pub run_closed : LeavesOnly v y (Emptying es v)
          run_closed = calls_on tells q v x y (Emptying es v) run_settled gate.call (λ image now. (inr (closing image now), sync.call.said ∙ home.keeps.said))

          pub run_emptied : {G : Type 0} (p : Result Unit G) (z : Device) → Synced tells p y z → LeavesOnly v z (Emptying es v)
          run_emptied p z last =
              calls_on tells p v y z (Emptying es v) run_closed last.call (λ image now. (inr (closing image (last.crash image now)), gate.call.said ∙ (sync.call.said ∙ home.keeps.said)))

        -- the gate is closed, and the last sync answers
        pub empties_done : {G : Type 0} (p : Result Unit G) (z : Device) → (IsTrue tells → BroughtHome es v.held w.held) → (IsTrue tells → y.held ≡ overwritten 4096 (replicate 8 0) x.held) → Synced tells p y z → y.faults ≡ v.faults → Empties tells es p v z
        empties_done p z brought closed last still = record {
          keeps = keeps_then tells v y z keeps_closed (keeps_sync tells p y z last);
          emptied = on_ok_const p _ (λ told. (w.held, brought told, last.held ∙ closed told ∙ ap (overwritten 4096 (replicate 8 0)) sync.held));
          durable = only_held tells p y z last;
          cause = λ err. omega (arith, keeps_closed.faults, last.call.cause err);
          no_fault = λ done. last.call.no_fault done ∙ still;
          moments = λ told. run_emptied (brought told) p z last;
        }

    -- the bytes held are one of the images
    pub brought_home : Lawful tells w → IsTrue tells → AreHome es w.held → BroughtHome es v.held w.held
    brought_home lawful told homes = (in_pages w.held (lawful.held told), homes)
