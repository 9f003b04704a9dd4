-- What leaves the views beside an engine.
use Rattle.std.proofs.Common.{◌≡◌, ◌⊎◌, ℕ, Bool, IsTrue, Option, IsSome, List, [], reverse, refl, ap, ◌∙◌, subst}
use Rattle.ts_disk.specs.Device.{Device}
use Rattle.ts_page.specs.Pages.{Contents, EqualPages, SameButFreed}
use Rattle.ts_page.proofs.PagesLemmas.{same_trans, same_from_equal}
use Rattle.ts_space.specs.Directory.{Directory}
use Rattle.ts_journal.specs.Journal.{Entry, change_of, changed, over, own_page}
use Rattle.ts_store.specs.OpenBatch.{State as Store, committed_pages, read_pages, contents_over}
use Rattle.ts_store.specs.OpenBatch.{rolled_back as store_rolled_back}
use Rattle.ts_layout.proofs.CallerLemmas.{kept_alike}
use Rattle.ts_volume.proofs.CallerLemmas.{holds_still}
use Rattle.ts_answer.proofs.CallerLemmas.{held_same}
use Rattle.ts_views.specs.declared.view.View.{View}
use Rattle.ts_views.specs.View.{view_of, pages_of, HasImage, SameBesideOld}
use Rattle.ts_views.proofs.CallerLemmas.{commit_leaves, each_weaker}
use Rattle.ts_view_catalogues.specs.Catalogues.{IsViewReady}
use Rattle.ts_view_catalogues.proofs.CallerLemmas.{means_still}
use Rattle.ts_session_engine.specs.Beside.{Stays, AllStay, HasMore, AllHaveMore, AreCovered, SamePages}
use Rattle.ts_session_engine.proofs.TurnLemmas.{each_then, each_same, turns_with, for_all}

-- what a view reads stays where the newest pages do
pub reads_same : (v : View) (before after : ℕ → List ℕ) → EqualPages before after → EqualPages (pages_of v before) (pages_of v after)
reads_same v before after same k = ap (λ (p : List ℕ). changed (change_of k v.own.entries) (changed (change_of k v.old.entries) p)) (same k)

-- commands can be carried out on a view as on another one that keeps the same and reads the same
pub view_alike : (tells : Bool) (v w : View) (before after : Contents) → w.defs.definitions ≡ v.defs.definitions → w.space.lists ≡ v.space.lists → w.free.items ≡ v.free.items → after.count ≡ before.count
    → (IsTrue tells → SameButFreed (pages_of v before.page) (pages_of w after.page)) → IsViewReady tells v before → IsViewReady tells w after
view_alike tells v w before after definitions lists free count same seen =
    let f : reverse w.free.items ≡ reverse v.free.items = ap (λ (l : List ℕ). reverse l) free in
    record {
      kept = kept_alike v.defs.definitions w.defs.definitions v.space w.space (reverse v.free.items) (reverse w.free.items) before.count after.count seen.kept definitions lists f count;
      layout = λ told.
          let known = seen.layout told in (
            known.0,
            record {
              kept = held_same v.defs.definitions w.defs.definitions v.space w.space before.count after.count (reverse v.free.items) (reverse w.free.items) known.0 known.1.kept definitions lists count f;
              holds = λ t. holds_still (pages_of v before.page) (pages_of w after.page) known.0 (same told) (known.1.holds t);
            },
          );
    }

pub stays_by : (tells : Bool) (v w : View) (before after : Contents) → SameBesideOld v w → after.count ≡ before.count → (IsTrue tells → SameButFreed (pages_of v before.page) (pages_of w after.page)) → Stays tells before after v w
stays_by tells v w before after same count alike = record {
  same = same;
  catalogue = record {
    ready = view_alike tells v w before after (ap (λ t. t.definitions) same.defs) (ap (λ (s : Directory). s.lists) same.space) (ap (λ l. l.items) same.free) count alike;
    means = λ told cat. means_still before.count after.count (pages_of v before.page) (pages_of w after.page) cat count (alike told);
  };
}

same_beside : (v : View) → SameBesideOld v v
same_beside v = record { defs = refl; space = refl; free = refl; own = refl; commands = refl }

beside_then : (u v w : View) → SameBesideOld u v → SameBesideOld v w → SameBesideOld u w
beside_then u v w p q = record { defs = q.defs ∙ p.defs; space = q.space ∙ p.space; free = q.free ∙ p.free; own = q.own ∙ p.own; commands = q.commands ∙ p.commands }

-- one stay behind the other
stays_then : (tells : Bool) (a b c : Contents) (u v w : View) → Stays tells a b u v → Stays tells b c v w → Stays tells a c u w
stays_then tells a b c u v w p q = record {
  same = beside_then u v w p.same q.same;
  catalogue = record {
    ready = λ ready. q.catalogue.ready (p.catalogue.ready ready);
    means = λ told cat means. q.catalogue.means told cat (p.catalogue.means told cat means);
  };
}

pub stay_then : (tells : Bool) (a b c : Contents) (old mid new : List (Option View)) → AllStay tells a b old mid → AllStay tells b c mid new → AllStay tells a c old new
stay_then tells a b c old mid new p q = each_then (Stays tells a b) (Stays tells b c) (Stays tells a c) (stays_then tells a b c) old mid new p q

-- views stay where the newest pages do
pub same_stay : (tells : Bool) (a b : Contents) (views : List (Option View)) → SamePages a b → AllStay tells a b views views
same_stay tells a b views same =
    each_same (Stays tells a b) (λ v. stays_by tells v v a b (same_beside v) same.count (λ told. same_from_equal (pages_of v a.page) (pages_of v b.page) (reads_same v a.page b.page same.pages))) views

-- and where old images are kept
pub more_stay : (tells : Bool) (c : Contents) (old new : List (Option View)) → AllHaveMore tells c.page old new → AllStay tells c c old new
more_stay tells c old new more =
    each_weaker (HasMore tells c.page) (Stays tells c c)
    (λ v w has. stays_by tells v w c c has.same refl (λ told. same_from_equal (pages_of v c.page) (pages_of w c.page) (has.reads told))) old new more

-- where nothing is kept
pub more_none : (tells : Bool) (committed : ℕ → List ℕ) (views : List (Option View)) → AllHaveMore tells committed views views
more_none tells committed views = each_same (HasMore tells committed) (λ v. record { same = same_beside v; reads = λ told k. refl }) views

-- and where some are kept behind others
pub more_then : (tells : Bool) (committed : ℕ → List ℕ) (old mid new : List (Option View)) → AllHaveMore tells committed old mid → AllHaveMore tells committed mid new → AllHaveMore tells committed old new
more_then tells committed old mid new p q =
    each_then (HasMore tells committed) (HasMore tells committed) (HasMore tells committed)
    (λ u v w r s. record { same = beside_then u v w r.same s.same; reads = λ told k. s.reads told k ∙ r.reads told k }) old mid new p q

-- stores over which the same was committed
pub same_newest : (s t : Store) (v w : Device) → t.pages ≡ s.pages → t.overlay ≡ s.overlay → w.held ≡ v.held → SamePages (contents_over (store_rolled_back s) v) (contents_over (store_rolled_back t) w)
same_newest s t v w pages overlay held = record { count = pages; pages = λ k i. over (overlay i) (own_page (held i)) k }

-- A commit of this batch over what was committed leaves the views that have an old image of each of its pages.
module _ (tells : Bool) (s t : Store) (x w : Device) (batch : List Entry) (pages : t.pages ≡ s.pages) (transaction : t.transaction ≡ []) (none : t.batch ≡ [])
    (alike : IsTrue tells → SameButFreed (read_pages s x.held) (read_pages t w.held)) (is : (k : ℕ) → read_pages s x.held k ≡ over batch (committed_pages s x.held) k) where
  abbrev before : Contents
  before = contents_over (store_rolled_back s) x

  abbrev after : Contents
  after = contents_over (store_rolled_back t) w

  same_then : IsTrue tells → SameButFreed (over batch before.page) after.page
  same_then told =
      same_trans (over batch before.page) (read_pages s x.held) after.page (same_from_equal (over batch before.page) (read_pages s x.held) is)
      (subst (SameButFreed (read_pages s x.held)) (λ i k. over (none i) (over (transaction i) (committed_pages t w.held)) k) (alike told))

  abbrev Covers : View → Type 0
  Covers v = (number : ℕ) → IsSome (change_of number batch) → HasImage number v

  one_stays : (v : View) → Covers v → Stays tells before after v v
  one_stays v covers = stays_by tells v v before after (same_beside v) pages (λ told. commit_leaves v.old.entries v.own.entries batch before.page after.page covers (same_then told))

  one_more_stays : (v w : View) → HasMore tells before.page v w → Covers w → Stays tells before after v w
  one_more_stays v w has covers =
      stays_then tells before before after v w w (stays_by tells v w before before has.same refl (λ told. same_from_equal (pages_of v before.page) (pages_of w before.page) (has.reads told))) (one_stays w covers)

  pub committed_stay : (old new : List (Option View)) → AllHaveMore tells before.page old new → AreCovered s new → ((number : ℕ) → IsSome (change_of number batch) → IsSome (change_of number s.transaction) ⊎ IsSome (change_of number s.batch)) → AllStay tells before after old new
  committed_stay old new more covered among = record {
    count = more.count;
    each = λ who.
        turns_with (HasMore tells before.page) (Stays tells before after) Covers one_more_stays (view_of who old) (view_of who new) (more.each who)
        (for_all (λ number. IsSome (change_of number batch)) HasImage (view_of who new) (λ number some. covered number (among number some) who));
  }
