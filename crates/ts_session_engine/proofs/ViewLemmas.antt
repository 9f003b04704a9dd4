-- A command that was carried out on the pages of a view, and what the view keeps of it.
use Rattle.std.proofs.Common.{◌≡◌, ◌≢◌, ℕ, ◌+◌, Bool, true, if◌then◌else◌, IsTrue, Ok, Err, List, [], ◌∷◌, ◌++◌, reverse, refl, ap, sym, ◌∙◌, subst}
use Rattle.std.proofs.lemmas.List.Sorted.{All-permutation, IsPermutation-sym}
use Rattle.ts_base.specs.declared.refusal.Refusal.{Refusal}
use Rattle.ts_command.specs.declared.command.Command.{Command}
use Rattle.ts_command.specs.Boundary.{is_writing}
use Rattle.ts_page.specs.Pages.{Contents, EqualPages, IsLawful, IsFreePage}
use Rattle.ts_page.proofs.PagesLemmas.{same_from_equal}
use Rattle.ts_space.specs.declared.place.Place.{Place}
use Rattle.ts_model.specs.Catalogue.{Catalogue}
use Rattle.ts_model.specs.Definitions.{Definitions}
use Rattle.ts_layout.specs.Meaning.{ElementPage, HoldsElements, HoldsLayout, Layout, catalogue_of}
use Rattle.ts_layout.specs.Placed.{used_pages}
use Rattle.ts_layout.specs.Surveyed.{free_pages}
use Rattle.ts_layout.proofs.CallerLemmas.{free_at, kept_alike, pairs_front, same_catalogue}
use Rattle.ts_volume.proofs.CallerLemmas.{holds_still}
use Rattle.ts_answer.specs.declared.effect.Effect.{Effect}
use Rattle.ts_answer.specs.declared.effect.Effect.TheVariants.{Nothing, Pages, Slot, Places, Series, Whole}
use Rattle.ts_answer.specs.Reply.{Answered, Tried, refusal_line}
use Rattle.ts_answer.specs.Answer.{answer, outcome, settled}
use Rattle.ts_answer.specs.CarriedOut.{CarriedOut, Comes, definitions_after, lists_after, is_nothing}
use Rattle.ts_answer.specs.View.{View as Seen, view, IsSeen, Shows}
use Rattle.ts_answer.proofs.CallerLemmas.{held_same}
use Rattle.ts_views.specs.declared.view.View.{View}
use Rattle.ts_views.specs.View.{pages_of}
use Rattle.ts_views.specs.Pages.{view_contents}
use Rattle.ts_view_catalogues.specs.Catalogues.{IsViewReady, ViewMeans}
use Rattle.ts_session_engine.specs.Stepped.{AnsweredIn, noted_in}

-- the free pages that are seen are different element pages, and free
pub seen_lawful : (tells : Bool) (x : Seen) → IsSeen tells x → IsLawful tells x.pages
seen_lawful tells x seen =
    let placed = seen.kept.placed in
    record {
      different = pairs_front (λ a b. a ≢ b) x.pages.free (used_pages x.space) placed.different;
      listed = λ k e within.
          let one = placed.numbers k e within in
          record {
            element = one.0;
            below = one.1;
            free = λ told.
                let known = seen.layout told in
                let l = known.0 in
                All-permutation (λ n. IsFreePage (x.pages.page n)) (free_pages l) x.pages.free (IsPermutation-sym x.pages.free (free_pages l) known.1.kept.free)
                (λ j d inside.
                let at = free_at 930 l.element_pages j d inside in
                let Q : ElementPage → Type 0 = λ p. HoldsElements l.definitions (x.pages.page (930 + at.0)) p in
                subst (λ (n : ℕ). IsFreePage (x.pages.page n)) (sym at.2) (subst Q at.3 ((known.1.holds told).elements at.0 at.1))) k e within;
          };
    }

-- an effect that is none changes nothing in memory
pub none_defined : (effect : Effect) (d : Definitions) → is_nothing effect ≡ true → definitions_after effect d ≡ d
none_defined Nothing d is = refl
none_defined Pages d is = absurd (cc)
none_defined (Slot kind slot def) d is = absurd (cc)
none_defined (Places slot moved) d is = absurd (cc)
none_defined (Series slot) d is = absurd (cc)
none_defined (Whole tables space) d is = absurd (cc)

pub none_listed : (effect : Effect) (ls : List (List Place)) → is_nothing effect ≡ true → lists_after effect ls ≡ ls
none_listed Nothing ls is = refl
none_listed Pages ls is = absurd (cc)
none_listed (Slot kind slot def) ls is = absurd (cc)
none_listed (Places slot moved) ls is = absurd (cc)
none_listed (Series slot) ls is = absurd (cc)
none_listed (Whole tables space) ls is = absurd (cc)

-- what is answered, and what is refused
pub answered_as : (command : Command) (cat : Catalogue) (a : Answered) → outcome (Ok command) cat ≡ Ok a → answer cat (Ok command) ≡ a
unfolding answer
answered_as command cat a is = ap (settled cat) is

pub refused_as : (command : Command) (cat : Catalogue) (refusal : Refusal) → outcome (Ok command) cat ≡ Err refusal → answer cat (Ok command) ≡ (refusal_line refusal, cat)
unfolding answer
refused_as command cat refusal is = ap (settled cat) is

-- a command on a view, whose pages are those over these, read before and at its end
module _ (tells : Bool) (command : Command) (x : View) (before after : Contents) (ready : IsViewReady tells x before) where
  abbrev seen : Seen
  seen = view x.defs.definitions x.space (view_contents x.old.entries x.own.entries [] (reverse x.free.items) before)

  -- what the pages of the view mean is what is seen of it
  known_as : (told : IsTrue tells) (cat : Catalogue) → ViewMeans x before cat → cat ≡ catalogue_of (ready.layout told).0
  known_as told cat means =
      let known = ready.layout told in
      same_catalogue before.count (pages_of x before.page) cat (catalogue_of known.0) means
      (known.0, record { size = known.1.kept.size; bytes = known.1.holds told; rules = known.1.kept.rules }, refl)

  module _ (effect : Effect) (out : List ℕ) (c : Contents) (carried : CarriedOut tells command (Ok effect) out seen c) (y : View) (count : after.count ≡ before.count)
      (definitions : y.defs.definitions ≡ definitions_after effect x.defs.definitions) (lists : y.space.lists ≡ lists_after effect x.space.lists) (free : reverse y.free.items ≡ c.free)
      (pages : IsTrue tells → EqualPages c.page (pages_of y after.page)) where
    comes : (told : IsTrue tells) → Comes tells command effect out seen c (ready.layout told).0
    comes told = carried.done told (ready.layout told).0 (ready.layout told).1

    counted : after.count ≡ c.count
    counted = count ∙ sym carried.count

    holds : (told : IsTrue tells) → HoldsLayout (pages_of y after.page) (comes told).layout
    holds told = holds_still c.page (pages_of y after.page) (comes told).layout (same_from_equal c.page (pages_of y after.page) (pages told)) ((comes told).shows.holds told)

    -- commands can be carried out on it then
    pub ready_then : IsViewReady tells y after
    ready_then = record {
      kept = kept_alike (definitions_after effect x.defs.definitions) y.defs.definitions (record x.space { lists = lists_after effect x.space.lists }) y.space c.free (reverse y.free.items) c.count after.count (carried.keeps ready.kept) definitions lists free counted;
      layout = λ told. (
        (comes told).layout,
        record {
          kept = held_same (definitions_after effect x.defs.definitions) y.defs.definitions (record x.space { lists = lists_after effect x.space.lists }) y.space c.count after.count c.free (reverse y.free.items) (comes told).layout (comes told).shows.kept definitions lists counted free;
          holds = λ t. holds told;
        },
      );
    }

    -- and the command was answered
    pub answered_then : (noted : y.commands.items ≡ (if is_writing command then x.commands.items ++ command ∷ [] else x.commands.items)) → IsTrue tells → (cat : Catalogue) → ViewMeans x before cat → AnsweredIn command out before after x y cat
    answered_then noted told cat means =
        let next = catalogue_of (comes told).layout in
        let came : outcome (Ok command) cat ≡ Ok (out, next) = ap (outcome (Ok command)) (known_as told cat means) ∙ (comes told).comes told in
        let is = answered_as command cat (out, next) came in
        let kept = (comes told).shows.kept in
        record {
          means = subst (ViewMeans y after) (sym (ap (λ (a : Answered). a.1) is)) ((comes told).layout, record { size = counted ∙ kept.size; bytes = holds told; rules = kept.rules }, refl);
          said = sym (ap (λ (a : Answered). a.0) is);
          noted = noted ∙ sym (ap (λ (t : Tried Answered). noted_in command t x.commands.items) came);
        }

  -- it was refused, and the view stays
  pub refused_in : (y : View) (refusal : Refusal) → y.commands.items ≡ x.commands.items → (IsTrue tells → (l : Layout) → Shows tells seen l → outcome (Ok command) (catalogue_of l) ≡ Err refusal) → (IsTrue tells → (cat : Catalogue) → ViewMeans x before cat → ViewMeans y after cat)
      → IsTrue tells → (cat : Catalogue) → ViewMeans x before cat → AnsweredIn command (refusal_line refusal) before after x y cat
  refused_in y refusal unnoted refused stays told cat means =
      let came : outcome (Ok command) cat ≡ Err refusal = ap (outcome (Ok command)) (known_as told cat means) ∙ refused told (ready.layout told).0 (ready.layout told).1 in
      let is = refused_as command cat refusal came in
      record {
        means = subst (ViewMeans y after) (sym (ap (λ (a : Answered). a.1) is)) (stays told cat means);
        said = sym (ap (λ (a : Answered). a.0) is);
        noted = unnoted ∙ sym (ap (λ (t : Tried Answered). noted_in command t x.commands.items) came);
      }
