-- A volume that is put into the newest format.
use Rattle.std.proofs.Common.{◌≡◌, ◌-◌, ℕ, Bool, IsTrue, None, Result, Ok, Err, OnOk, IsErrAnd, List, length, refl, ap, sym, ◌∙◌, subst, arith}
use Rattle.ts_base.specs.declared.fault.StoreFault.{StoreFault}
use Rattle.ts_disk.specs.Device.{Device, Lawful}
use Rattle.ts_page.specs.Pages.{Contents, EqualPages, with_page, first_element_page}
use Rattle.ts_store.specs.OpenBatch.{read_pages, contents_over}
use Rattle.ts_store.specs.Undisturbed.{Undisturbed}
use Rattle.ts_model.specs.Catalogue.{Catalogue, in_newest_format, newest_format}
use Rattle.ts_answer.specs.Answer.{State, resting, newest}
use Rattle.ts_model.specs.Definitions.{Definitions, Tables, with_format}
use Rattle.ts_space.specs.Directory.{Directory}
use Rattle.ts_layout.specs.Slot.{header_bytes}
use Rattle.ts_layout.specs.Meaning.{Layout, catalogue_of}
use Rattle.ts_layout.specs.Changed.{layout_in}
use Rattle.ts_layout.proofs.CallerLemmas.{layout_renewed, sound_renewed, filled_renewed, kept_renewed, kept_alike}
use Rattle.ts_container.specs.Survey.{HeaderWritten}
use Rattle.ts_answer.specs.View.{IsHeldOf}
use Rattle.ts_answer.proofs.CallerLemmas.{held_same}
use Rattle.ts_engine.specs.declared.fault.StepFault.{StepFault}
use Rattle.ts_hidden.specs.Marks.{Cover, Include}
use Rattle.ts_hidden.proofs.CallerLemmas.{all_included}
use Rattle.ts_engine.specs.Engine.{Kept, IsKeptOf, IsReady}
use Rattle.ts_engine.specs.Migrate.{Migrated, state_renewed}
use Rattle.ts_engine.specs.Change.{Finished, Changed}
use Rattle.ts_engine.proofs.ChangeLemmas.{changed}
use Rattle.ts_effects.proofs.CallerLemmas.{charges_same}
use Rattle.ts_engine.proofs.StandLemmas.{same_copies, still_none, seen_means}
use Rattle.ts_engine.proofs.MovesLemmas.{Next, Follows, moves_ok, moves_fault, moves_still, stands_resting}

-- a catalogue of the newest format
newest_stays : (cat : Catalogue) → cat.format ≡ newest_format → in_newest_format cat ≡ cat
newest_stays cat newest = λ i. record cat { format = sym newest i }

-- a volume of the newest format stays as it is
pub migrated_none : (tells : Bool) (e : Kept) (v : Device) → Lawful tells v → IsReady tells e v → e.saved ≡ None → e.tables.definitions.format ≡ newest_format → Migrated tells (Ok tt) e e v v
migrated_none tells e v lawful ready none newest_is = record {
  moves = moves_still tells state_renewed e e v v ready (still_none tells e.store v lawful) ready.unspent refl refl refl (all_included e.hidden) e.saved refl (same_copies e.saved) ready.small
      (λ told state at.
      let is = stands_resting tells e v ready none told state at in
      let cat = catalogue_of (ready.seen.layout told).0 in
      let stays : in_newest_format cat ≡ cat = newest_stays cat (ap (λ (d : Definitions). d.format) (sym (ready.seen.layout told).1.kept.definitions) ∙ newest_is) in
      let P : State → Type 0 = λ s. Follows e.saved state (resting (in_newest_format s.base)) in
      subst P (sym is) (subst (λ (c : Catalogue). Follows e.saved state (resting c)) (sym stays) (subst (Follows e.saved state) is (record { base = refl; newest = refl; accepted = at.accepted }))));
  newest = newest_is;
}

module _ (tells : Bool) (e : Kept) (v : Device) (lawful : Lawful tells v) (ready : IsReady tells e v) (none : e.saved ≡ None) where
  abbrev Work : Contents → Contents → Type 0
  Work a c = HeaderWritten tells newest_format (e.store.pages - first_element_page) (Ok tt) a c

  next : (told : IsTrue tells) (read : Contents) → Work (contents_over e.store v) read → Next tells state_renewed (ready.seen.layout told).0 read
  next told read work =
      let l = (ready.seen.layout told).0 in
      let size = (ready.seen.layout told).1.kept.size in
      let number : e.store.pages - first_element_page ≡ length l.element_pages = omega (arith, size) in
      record {
        layout = layout_in newest_format l;
        size = refl;
        rules = sound_renewed l (ready.seen.layout told).1.kept.rules;
        holds = λ t. layout_renewed l (read_pages e.store v.held) read.page (subst (λ (n : ℕ). EqualPages (with_page 0 (header_bytes newest_format n) (read_pages e.store v.held)) read.page) number (work.written t)) ((ready.seen.layout told).1.holds told);
        comes = λ t. refl;
      }

  -- what is in memory is that of the layout in the newest format
  held_renewed : (l : Layout) → IsKeptOf e l → IsHeldOf (with_format newest_format e.tables.definitions) e.space e.store.pages e.store.free (layout_in newest_format l)
  held_renewed l kept = record {
    definitions = ap (with_format newest_format) kept.definitions;
    size = kept.size;
    places = kept.places;
    free = kept.free;
    rules = sound_renewed l kept.rules;
    filled = filled_renewed l kept.filled;
  }

  module _ (g ended : Kept) (x w : Device) (later : Lawful tells w) (put : Result Unit StoreFault) (is : g ≡ record e { store = g.store }) (calls : Undisturbed tells e.store g.store v x)
      (written : HeaderWritten tells newest_format (e.store.pages - first_element_page) put (contents_over e.store v) (contents_over g.store x)) where
    worked : (r : Result Unit StoreFault) (a c : Contents) → HeaderWritten tells newest_format (e.store.pages - first_element_page) r a c → OnOk r (Work a c)
    worked (Ok done) a c written = written
    worked (Err fault) a c written = tt

    ended_changed : (result : Result Unit StepFault) → Finished tells put result g ended x w → Changed tells Work result e.store ended.store ended.spent v w
    ended_changed result finished =
        changed tells Work put e g ended v x w lawful ready.idle (ready.closed none) calls (worked put (contents_over e.store v) (contents_over g.store x) written)
        written.cause written.no_fault result (ap (λ (k : Kept). k.spent) is ∙ ready.unspent) finished

    -- it is committed, and the format is set in memory
    pub migrated_ok : (f : Kept) → Finished tells put (Ok tt) g ended x w → f ≡ record ended { tables = record ended.tables { definitions = with_format newest_format ended.tables.definitions } } → Migrated tells (Ok tt) e f v w
    unfolding next
    migrated_ok f finished set =
        let tables : ended.tables ≡ e.tables = finished.tables ∙ ap (λ (k : Kept). k.tables) is in
        let space : ended.space ≡ e.space = finished.space ∙ ap (λ (k : Kept). k.space) is in
        let charges : ended.charges ≡ e.charges = finished.charges ∙ ap (λ (k : Kept). k.charges) is in
        let saved : ended.saved ≡ e.saved = finished.saved ∙ ap (λ (k : Kept). k.saved) is in
        let g' : Kept = record ended { tables = record ended.tables { definitions = with_format newest_format ended.tables.definitions } } in
        let now = ended_changed (Ok tt) finished in
        let work = now.done.work in
        let definitions : g'.tables.definitions ≡ with_format newest_format e.tables.definitions = ap (λ (t : Tables). with_format newest_format t.definitions) tables in
        let lists = ap (λ (s : Directory). s.lists) space in
        let pages = now.done.pages in
        let free = now.done.free ∙ work.free in
        subst (λ (k : Kept). Migrated tells (Ok tt) e k v w) (sym set)
        (record {
          moves = moves_ok tells state_renewed Work e g' v w lawful later ready none next now (saved ∙ none)
              (kept_alike (with_format newest_format e.tables.definitions) g'.tables.definitions e.space g'.space e.store.free g'.store.free e.store.pages g'.store.pages (kept_renewed e.tables.definitions e.space e.store.free e.store.pages ready.seen.kept) definitions lists free pages)
              (λ told. held_same (with_format newest_format e.tables.definitions) g'.tables.definitions e.space g'.space e.store.pages g'.store.pages e.store.free g'.store.free (layout_in newest_format (ready.seen.layout told).0) (held_renewed (ready.seen.layout told).0 (ready.seen.layout told).1.kept) definitions lists pages free)
              (λ told.
              let l = (ready.seen.layout told).0 in
              subst (λ (marks : List (List ℕ)). Cover marks (catalogue_of (layout_in newest_format l))) (sym (finished.hidden ∙ ap (λ (k : Kept). k.hidden) is)) (ready.marked told (catalogue_of l) (seen_means tells e v ready.seen told)))
              (charges_same e.charges g'.charges (with_format newest_format e.tables.definitions) g'.tables.definitions e.space g'.space ready.charges charges definitions lists);
          newest = refl;
        })

    -- it isn't committed
    pub migrated_fault : (fault : StepFault) → Finished tells put (Err fault) g ended x w → Migrated tells (Err fault) e ended v w
    migrated_fault fault finished =
        let tables : ended.tables ≡ e.tables = finished.tables ∙ ap (λ (k : Kept). k.tables) is in
        record {
          moves = moves_fault tells state_renewed Work e ended v w lawful later ready none next fault (ended_changed (Err fault) finished) (ap (λ (t : Tables). t.definitions) tables)
              (ap (λ (s : Directory). s.lists) (finished.space ∙ ap (λ (k : Kept). k.space) is)) (finished.charges ∙ ap (λ (k : Kept). k.charges) is) (subst (λ (marks : List (List ℕ)). Include marks e.hidden) (sym (finished.hidden ∙ ap (λ (k : Kept). k.hidden) is)) (all_included e.hidden)) (finished.saved ∙ ap (λ (k : Kept). k.saved) is);
          newest = tt;
        }

-- the same, where the fault is passed on
pub by_fault : (tells : Bool) (r : Result Unit StepFault) (fault : StepFault) (e f : Kept) (v w : Device) → IsErrAnd r (λ x. x ≡ fault) → Migrated tells (Err fault) e f v w → Migrated tells r e f v w
by_fault tells (Ok done) fault e f v w is migrated = absurd is
by_fault tells (Err x) fault e f v w is migrated = subst (λ (y : StepFault). Migrated tells (Err y) e f v w) (sym is) migrated
