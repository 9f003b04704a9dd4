-- What keeping an image, and a commit, do to the views that are open.
use Rattle.std.proofs.Common.{◌≡◌, inl, inr, ℕ, Option, Some, None, IsSome, IfSome, List, ap, ◌∙◌, sym, subst}
use Rattle.ts_page.specs.declared.page.Page.{Page}
use Rattle.ts_page.specs.Pages.{EqualPages, SameButFreed}
use Rattle.ts_journal.specs.Journal.{Entry, change_of, over}
use Rattle.ts_views.specs.declared.view.View.{View}
use Rattle.ts_views.specs.Pages.{view_pages, keep_image}
use Rattle.ts_views.specs.View.{view_of, pages_of, HasImage, KeepsImage, MayKeepImage, Turns, EachTurns}
use Rattle.ts_views.specs.Laws.{KeepLeavesViews, KeepCoversViews, CommitLeavesViews}
use Rattle.ts_views.proofs.KeepLemmas.{keep_leaves, keep_covers, commit_leaves}
use Rattle.ts_views.proofs.TurnLemmas.{Relation, turns_weaker}

abbrev pub each_weaker : (R S : Relation) → ((v w : View) → R v w → S v w) → (old new : List (Option View)) → EachTurns R old new → EachTurns S old new
each_weaker R S weaker old new turns = record { count = turns.count; each = λ who. turns_weaker R S weaker (view_of who old) (view_of who new) (turns.each who) }

one_leaves : (newest : ℕ → List ℕ) (number : ℕ) (page : Page) → page.bytes ≡ newest number → (v w : View) → MayKeepImage number page v w → EqualPages (pages_of v newest) (pages_of w newest)
one_leaves newest number page is v w may k =
    let own : view_pages w.old.entries w.own.entries newest k ≡ view_pages w.old.entries v.own.entries newest k = ap (λ (es : List Entry). view_pages w.old.entries es newest k) (ap (λ b. b.entries) may.others.own) in
    own ∙ (elim may.old [
      | inl same ↦ ap (λ (es : List Entry). view_pages es v.own.entries newest k) same
      | inr keeps ↦ ap (λ (es : List Entry). view_pages es v.own.entries newest k) keeps ∙ keep_leaves v.old.entries v.own.entries newest number page is k
    ])

pub keep_leaves_views : KeepLeavesViews
keep_leaves_views old new newest number page is turns =
    each_weaker (MayKeepImage number page) (λ v w. EqualPages (pages_of v newest) (pages_of w newest)) (one_leaves newest number page is) old new turns

-- what holds of the new view by the old one
turned : (R : Relation) (P Q : View → Type 0) → ((v w : View) → R v w → P v → Q w) → (o p : Option View) → Turns R o p → IfSome o P → IfSome p Q
turned R P Q then None None turns had = tt
turned R P Q then None (Some w) turns had = absurd turns
turned R P Q then (Some v) None turns had = absurd turns
turned R P Q then (Some v) (Some w) turns had = then v w turns had

has_now : (number : ℕ) (page : Page) (other : ℕ) (v w : View) → KeepsImage number page v w → IsSome (change_of other (keep_image number page v.old.entries)) → HasImage other w
has_now number page other v w keeps some = subst (λ (es : List Entry). IsSome (change_of other es)) (sym keeps.old) some

any_view : (o : Option View) → IfSome o (λ v. Unit {0})
any_view None = tt
any_view (Some v) = tt

pub keep_covers_views : KeepCoversViews
keep_covers_views old new number page turns = (
  λ who. turned (KeepsImage number page) (λ v. Unit {0}) (HasImage number) (λ v w keeps had. has_now number page number v w keeps (keep_covers v.old.entries number page).0)
      (view_of who old) (view_of who new) (turns.each who) (any_view (view_of who old)),
  λ other had who. turned (KeepsImage number page) (HasImage other) (HasImage other) (λ v w keeps some. has_now number page other v w keeps ((keep_covers v.old.entries number page).1 other some))
      (view_of who old) (view_of who new) (turns.each who) (had who),
)

one_stays : (batch : List Entry) (before after : ℕ → List ℕ) → SameButFreed (over batch before) after → (o : Option View)
    → ((number : ℕ) → IsSome (change_of number batch) → IfSome o (HasImage number)) → IfSome o (λ v. SameButFreed (pages_of v before) (pages_of v after))
one_stays batch before after same None covers = tt
one_stays batch before after same (Some v) covers = commit_leaves v.old.entries v.own.entries batch before after covers same

pub commit_leaves_views : CommitLeavesViews
commit_leaves_views views batch before after covers same who = one_stays batch before after same (view_of who views) (λ number some. covers number some who)
