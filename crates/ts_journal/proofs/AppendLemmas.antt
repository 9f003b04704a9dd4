-- What a stop leaves in each step of an append.
use Rattle.std.proofs.Common.{◌≡◌, inl, inr, ℕ, ◌+◌, Bool, IsTrue, Result, Ok, Err, OnOk, IsErr, List, length, sym, ◌∙◌, ap, subst, arith}
use Rattle.std.proofs.lemmas.Bool.{false≢true}
use Rattle.ts_disk.specs.Device.{Device, Only, Torn, LeavesOnly, WrittenAt, Synced, Rose, overwritten}
use Rattle.ts_disk.proofs.Moments.{calls_on, leaves_map}
use Rattle.ts_journal.specs.Journal.{open_gate, Entry, body_bytes}
use Rattle.ts_journal.specs.Moment.{Keeps, TornFrom, WritesWithin}
use Rattle.ts_journal.specs.Steps.{staged, Appending, Appends}
use Rattle.ts_journal.proofs.WriteLemmas.{on_ok_map, keeps_then, keeps_sync, keeps_write}

pub on_ok_const : {E : Type 0} (r : Result Unit E) (P : Type 0) → P → OnOk r P
on_ok_const (Ok done) P p = p
on_ok_const (Err e) P p = tt

-- after a sync the bytes held are still the only image
pub only_held : {E : Type 0} (tells : Bool) (r : Result Unit E) (v w : Device) → Synced tells r v w → OnOk r (Only w.held w.images)
only_held tells r v w sync = on_ok_map r (Only v.held w.images) (Only w.held w.images) (λ only image now. only image now ∙ sym sync.held) sync.durable

module _ (tells : Bool) (at : ℕ) (es : List Entry) (v : Device) where
  -- a failure on the way
  pub appends_failed : {E : Type 0} (r : Result Unit E) (w : Device) → IsErr r → Keeps tells v w → Rose v.faults w.faults → (IsTrue tells → LeavesOnly v w (Appending at es v)) → Appends tells at es r v w
  appends_failed (Ok done) w err keeps rose moments = absurd (false≢true err)
  appends_failed (Err e) w err keeps rose moments = record { keeps = keeps; written = tt; durable = tt; cause = λ failed. rose; no_fault = λ done. absurd (false≢true done); moments = moments }

  module _ (settled : Only v.held v.images) (w : Device) (body : WritesWithin tells (at + 8) (length (body_bytes es)) v w) where
    behind_gate : (image : List ℕ) → w.images image → Torn (at + 8) (length (body_bytes es)) v.held image
    behind_gate image now =
        let from = body.crash image now in subst (λ (f : List ℕ). Torn (at + 8) (length (body_bytes es)) f image) (settled from.0 from.1) from.2

    pub run_body : LeavesOnly v w (Appending at es v)
    run_body = leaves_map v w (TornFrom (at + 8) (length (body_bytes es)) v) (Appending at es v)
        (λ image said torn. (inl (subst (λ (f : List ℕ). Torn (at + 8) (length (body_bytes es)) f image) (settled torn.0 torn.1) torn.2), torn.3)) body.moments

    module _ {E : Type 0} (s : Result Unit E) (x : Device) (sync : Synced tells s w x) where
      pub run_sync : LeavesOnly v x (Appending at es v)
      run_sync = calls_on tells s v w x (Appending at es v) run_body sync.call (λ image now. (inl (behind_gate image (sync.crash image now)), body.keeps.said))

      module _ {F : Type 0} (only : Only w.held x.images) (q : Result Unit F) (y : Device) (gate : WrittenAt tells at open_gate q x y) where
        pub keeps_gate : Keeps tells v y
        keeps_gate = keeps_then tells v x y (keeps_then tells v w x body.keeps (keeps_sync tells s w x sync)) (keeps_write tells at open_gate q x y gate)

        module _ (written : w.held ≡ staged at es v.held) where
          torn_gate : (image : List ℕ) → y.images image → Torn at 8 (staged at es v.held) image
          torn_gate image now =
              let from = gate.crash image now in subst (λ (f : List ℕ). Torn at 8 f image) (only from.0 from.1 ∙ written) from.2

          pub run_gate : LeavesOnly v y (Appending at es v)
          run_gate = calls_on tells q v x y (Appending at es v) run_sync gate.call (λ image now. (inr (torn_gate image now), sync.call.said ∙ body.keeps.said))

          pub run_last : {G : Type 0} (p : Result Unit G) (z : Device) → Synced tells p y z → LeavesOnly v z (Appending at es v)
          run_last p z last =
              calls_on tells p v y z (Appending at es v) run_gate last.call (λ image now. (inr (torn_gate image (last.crash image now)), gate.call.said ∙ (sync.call.said ∙ body.keeps.said)))

        -- the gate is written, and the last sync answers
        pub appends_done : {G : Type 0} (p : Result Unit G) (z : Device) → (IsTrue tells → w.held ≡ staged at es v.held) → (IsTrue tells → y.held ≡ overwritten at open_gate x.held) → Synced tells p y z → y.faults ≡ v.faults → Appends tells at es p v z
        appends_done p z written opened last still = record {
          keeps = keeps_then tells v y z keeps_gate (keeps_sync tells p y z last);
          written = on_ok_const p _ (λ told. last.held ∙ opened told ∙ ap (overwritten at open_gate) (sync.held ∙ written told));
          durable = only_held tells p y z last;
          cause = λ err. omega (arith, keeps_gate.faults, last.call.cause err);
          no_fault = λ done. last.call.no_fault done ∙ still;
          moments = λ told. run_last (written told) p z last;
        }
