-- How a batch ends in a transaction: it is joined, or dropped, after memory was taken.
use Rattle.std.specs.Prelude.{is_some}
use Rattle.std.proofs.Common.{◌≡◌, ℕ, ◌≤◌, Bool, true, false, if◌then◌else◌, Option, Some, None, IfSome, Ok, List, [], length, refl, ap, sym, ◌∙◌, arith}
use Rattle.ts_command.specs.declared.command.Command.{Command}
use Rattle.ts_disk.specs.Device.{Device}
use Rattle.ts_page.specs.Pages.{Contents}
use Rattle.ts_journal.specs.Journal.{Entry, entries_bytes}
use Rattle.ts_store.specs.OpenBatch.{State, IsClosed, to_commit, read_pages, contents_over}
use Rattle.ts_store.specs.OpenBatch.{rolled_back as store_rolled_back}
use Rattle.ts_store.proofs.CallerLemmas.{commit_bytes}
use Rattle.ts_space.specs.Directory.{Directory}
use Rattle.ts_model.specs.Definitions.{Definitions}
use Rattle.ts_layout.specs.Placed.{AreKept}
use Rattle.ts_answer.specs.declared.effect.Effect.{Effect}
use Rattle.ts_answer.specs.CarriedOut.{CarriedOut, Grows, growth_of, has_parts, definitions_after, lists_after}
use Rattle.ts_answer.specs.View.{view}
use Rattle.ts_engine.specs.declared.transaction.Saved.{Saved}
use Rattle.ts_engine.specs.Engine.{Kept, IsSmall, IsReady}
use Rattle.ts_engine.specs.Ended.{IsJoined}

-- memory was taken, and the batch joined
pub joined_then : (s m t : State) → m ≡ record s { spare = m.spare; join_spare = m.join_spare } → t ≡ record m { transaction = to_commit m; batch = []; kept_free = m.free; join_spare = t.join_spare }
    → ((held : List ℕ) (number : ℕ) → read_pages t held number ≡ read_pages m held number) → IsJoined s t
joined_then s m t prepared joined same = record {
  store = joined ∙ (λ i. record (prepared i) { transaction = to_commit (prepared i); batch = []; kept_free = (prepared i).free; join_spare = t.join_spare })
      ∙ (λ i. record s { transaction = to_commit s; batch = []; kept_free = s.free; spare = sym (ap (λ (x : State). x.spare) joined) i; join_spare = t.join_spare });
  same = λ held number. same held number ∙ (λ i. read_pages (prepared i) held number);
}

-- memory was perhaps taken, and the batch is dropped
pub dropped_then : (s m t : State) → m ≡ record s { spare = m.spare; join_spare = m.join_spare } → t ≡ record m { batch = []; free = m.kept_free }
    → t ≡ record s { batch = []; free = s.kept_free; spare = t.spare; join_spare = t.join_spare }
dropped_then s m t prepared dropped =
    dropped ∙ (λ i. record (prepared i) { batch = []; free = (prepared i).kept_free })
    ∙ (λ i. record s { batch = []; free = s.kept_free; spare = sym (ap (λ (x : State). x.spare) dropped) i; join_spare = sym (ap (λ (x : State). x.join_spare) dropped) i })

-- what an accepted command finds counted
pub few_then : (o p : Option Saved) (base now : Contents) → p ≡ o → IfSome o (λ s. IsSmall s.accepted base now) → IfSome p (λ s. s.accepted ≤ 32)
few_then o None base now same small = tt
few_then None (Some s) base now same small = absurd (cc)
few_then (Some t) (Some s) base now same small = let is : s.accepted ≡ t.accepted = cc in omega (arith, is, small.few)

-- so many free pages there are at most
few_free : (d : Definitions) (space : Directory) (free : List ℕ) (count : ℕ) → AreKept d space free count → length free ≤ 65536
few_free d space free count kept = omega (arith, kept.placed.all, kept.most)

short_of : (o : Option Saved) (base now : Contents) → IfSome o (λ s. IsSmall s.accepted base now) → (o ≡ None → now.change_bytes ≡ 0) → base.change_bytes ≡ 0 → length now.free ≤ 65536 → now.change_bytes ≤ 1048556
short_of None base now small none zero few = omega (arith, none refl)
short_of (Some s) base now small none zero few = omega (arith, small.few, small.grown, zero, few)

-- with no batch and no transaction no change is open
pub none_open : (s : State) (d : Device) → IsClosed s → s.batch ≡ [] → (contents_over s d).change_bytes ≡ 0
none_open s d closed none = omega (arith, ap (λ (es : List Entry). length (entries_bytes es)) closed.transaction, ap (λ (es : List Entry). length (entries_bytes es)) none)

-- the changes of a transaction have room in one record
pub short_all : (tells : Bool) (e : Kept) (v : Device) → IsReady tells e v → length (entries_bytes (to_commit e.store)) ≤ 1048556
short_all tells e v ready =
    let few = few_free e.tables.definitions e.space e.store.free e.store.pages ready.seen.kept in
    let all = short_of e.saved (contents_over (store_rolled_back e.store) v) (contents_over e.store v) ready.small (λ none. none_open e.store v (ready.closed none) ready.idle.batch) refl few in
    omega (arith, all, commit_bytes e.store v)

-- no command adds more than that of the most edits
most_edits : (command : Command) (v w : Contents) → Grows (growth_of command) v w → Grows 26 v w
most_edits command v w grows = by_parts (has_parts command) grows
  where
    by_parts : (parts : Bool) → Grows (if parts then 26 else 1) v w → Grows 26 v w
    by_parts true grown = grown
    by_parts false grown = omega (arith, grown)

-- and so have those of one command where none is open
pub short_one : (tells : Bool) (command : Command) (e g : Kept) (v x : Device) (effect : Effect) (out : List ℕ) → IsReady tells e v → e.saved ≡ None
    → CarriedOut tells command (Ok effect) out (view e.tables.definitions e.space (contents_over e.store v)) (contents_over g.store x) → length (entries_bytes (to_commit g.store)) ≤ 1048556
short_one tells command e g v x effect out ready none carried =
    let before = none_open e.store v (ready.closed none) ready.idle.batch in
    let now = contents_over g.store x in
    let few = few_free (definitions_after effect e.tables.definitions) (record e.space { lists = lists_after effect e.space.lists }) now.free now.count (carried.keeps ready.seen.kept) in
    let grown = most_edits command (contents_over e.store v) now carried.grows in
    omega (arith, before, grown, few, commit_bytes g.store x)

-- whether a transaction is open
pub saved_none : (o : Option Saved) → is_some o ≡ false → o ≡ None
saved_none None is = refl
saved_none (Some s) is = absurd (cc)

pub saved_some : (o : Option Saved) → is_some o ≡ true → o ≡ None → ⊥
saved_some o is none = let not : is_some o ≡ false = ap is_some none in cc
