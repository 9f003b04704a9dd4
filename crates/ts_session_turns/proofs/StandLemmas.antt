-- Where what is in hand stands, once the machine went on.
use Rattle.std.proofs.Common.{◌≡◌, inl, inr, ℕ, ◌<◌, ◌≤◌, Bool, IsTrue, Option, Some, None, List, [], ◌∷◌, length, refl, ap, sym, ◌∙◌, subst}
use Rattle.std.proofs.lemmas.Bool.{cases_eq}
use Rattle.std.proofs.lemmas.List.{get_or-set_same, get_or-set_other}
use Rattle.ts_page.specs.Pages.{Contents}
use Rattle.ts_model.specs.Catalogue.{Catalogue}
use Rattle.ts_multi.specs.declared.object.Object.{Object}
use Rattle.ts_sessions.specs.Machine.{Snapshot, Machine, carried, snapshot_at, seen}
use Rattle.ts_sessions.specs.Steps.{with_snapshot, with_commit}
use Rattle.ts_sessions.specs.Laws.{IsSound}
use Rattle.ts_sessions.proofs.CallerLemmas.{begun_still, set_cases}
use Rattle.ts_views.specs.declared.view.View.{View}
use Rattle.ts_views.specs.View.{view_of, Turns}
use Rattle.ts_view_catalogues.specs.Catalogues.{ViewMeans}
use Rattle.ts_session_engine.specs.Beside.{Stays, AllStay, OthersStay}
use Rattle.ts_session_turns.specs.Hand.{ShowsSnapshot}

-- a view that stays shows what it showed
shows_turned : (tells : Bool) → IsTrue tells → (m : Machine) (before after : Contents) (o next : Option View) (p : Option Snapshot) → Turns (Stays tells before after) o next → ShowsSnapshot m before o p → ShowsSnapshot m after next p
shows_turned tells told m before after None None None turns shows = tt
shows_turned tells told m before after None None (Some s) turns shows = absurd shows
shows_turned tells told m before after None (Some w) p turns shows = absurd turns
shows_turned tells told m before after (Some v) None p turns shows = absurd turns
shows_turned tells told m before after (Some v) (Some w) None turns shows = absurd shows
shows_turned tells told m before after (Some v) (Some w) (Some s) turns shows =
    ((λ i. (turns.same.commands i).items) ∙ shows.0, turns.catalogue.means told (seen m s) shows.1)

-- another transaction of a session changes nothing of what others see
shows_with : (m : Machine) (who : ℕ) (q : Option Snapshot) (pages : Contents) (o : Option View) (p : Option Snapshot) → ShowsSnapshot m pages o p → ShowsSnapshot (with_snapshot who q m) pages o p
shows_with m who q pages None None shows = tt
shows_with m who q pages None (Some s) shows = shows
shows_with m who q pages (Some v) None shows = shows
shows_with m who q pages (Some v) (Some s) shows = shows

-- nor does a commit
seen_still : (m : Machine) (cat : Catalogue) (wrote : List Object) (s : Snapshot) → s.begun ≤ length m.commits → seen (with_commit cat wrote m) s ≡ seen m s
seen_still m cat wrote s begun = ap (λ (c : Catalogue). carried c s.commands) (begun_still m.first m.commits (record { catalogue = cat; wrote = wrote } ∷ []) s.begun begun)

shows_commit : (m : Machine) (cat : Catalogue) (wrote : List Object) (pages : Contents) (o : Option View) (p : Option Snapshot) → ((s : Snapshot) → p ≡ Some s → s.begun ≤ length m.commits) → ShowsSnapshot m pages o p → ShowsSnapshot (with_commit cat wrote m) pages o p
shows_commit m cat wrote pages None None begun shows = tt
shows_commit m cat wrote pages None (Some s) begun shows = shows
shows_commit m cat wrote pages (Some v) None begun shows = shows
shows_commit m cat wrote pages (Some v) (Some s) begun shows = (shows.0, subst (ViewMeans v pages) (sym (seen_still m cat wrote s (begun s refl))) shows.1)

-- transactions began behind commits that there are, also without that of one session
abbrev pub HaveBegun : Machine → Type 0
HaveBegun m = (who : ℕ) (s : Snapshot) → snapshot_at who m ≡ Some s → s.begun ≤ length m.commits

pub have_begun : (m : Machine) → IsSound m → HaveBegun m
have_begun m sound who s is = (sound who s is).begun

pub begun_without : (m : Machine) (who : ℕ) → IsSound m → HaveBegun (with_snapshot who None m)
begun_without m who sound k s is = elim (set_cases m.sessions who k None) [
  | inl same ↦ (sound k s (sym same ∙ is)).begun
  | inr gone ↦ let wrong : None ≡ Some s = sym gone.2 ∙ is in absurd (cc)
]

module _ (tells : Bool) (told : IsTrue tells) (m : Machine) (a b : Contents) (old new : List (Option View)) (shows : (who : ℕ) → ShowsSnapshot m a (view_of who old) (snapshot_at who m)) where
  -- every view stays
  pub all_show : AllStay tells a b old new → (who : ℕ) → ShowsSnapshot m b (view_of who new) (snapshot_at who m)
  all_show stay who = shows_turned tells told m a b (view_of who old) (view_of who new) (snapshot_at who m) (stay.each who) (shows who)

  -- every view but that of one session
  pub others_show : (who : ℕ) → OthersStay tells who a b old new → ShowsSnapshot m b (view_of who new) (snapshot_at who m) → (k : ℕ) → ShowsSnapshot m b (view_of k new) (snapshot_at k m)
  others_show who others own k = elim (cases_eq k who) [
    | inl same ↦ subst (λ (n : ℕ). ShowsSnapshot m b (view_of n new) (snapshot_at n m)) (sym same) own
    | inr off ↦ shows_turned tells told m a b (view_of k old) (view_of k new) (snapshot_at k m) (others.each k off) (shows k)
  ]

  -- and the transaction of that one is another one
  pub others_show_with : (who : ℕ) (p : Option Snapshot) → who < length m.sessions → OthersStay tells who a b old new → ShowsSnapshot m b (view_of who new) p
      → (k : ℕ) → ShowsSnapshot (with_snapshot who p m) b (view_of k new) (snapshot_at k (with_snapshot who p m))
  others_show_with who p within others own k = elim (cases_eq k who) [
    | inl same ↦
        subst (λ (n : ℕ). ShowsSnapshot (with_snapshot who p m) b (view_of n new) (snapshot_at n (with_snapshot who p m))) (sym same)
        (subst (λ (q : Option Snapshot). ShowsSnapshot (with_snapshot who p m) b (view_of who new) q) (sym (get_or-set_same m.sessions who p None within))
        (shows_with m who p b (view_of who new) p own))
    | inr off ↦
        subst (λ (q : Option Snapshot). ShowsSnapshot (with_snapshot who p m) b (view_of k new) q) (sym (get_or-set_other m.sessions who k p None off))
        (shows_with m who p b (view_of k new) (snapshot_at k m) (shows_turned tells told m a b (view_of k old) (view_of k new) (snapshot_at k m) (others.each k off) (shows k)))
  ]

-- one commit more
pub show_commit : (m : Machine) (cat : Catalogue) (wrote : List Object) (pages : Contents) (views : List (Option View)) → HaveBegun m → ((who : ℕ) → ShowsSnapshot m pages (view_of who views) (snapshot_at who m))
    → (who : ℕ) → ShowsSnapshot (with_commit cat wrote m) pages (view_of who views) (snapshot_at who (with_commit cat wrote m))
show_commit m cat wrote pages views begun shows who = shows_commit m cat wrote pages (view_of who views) (snapshot_at who m) (λ s is. begun who s is) (shows who)
