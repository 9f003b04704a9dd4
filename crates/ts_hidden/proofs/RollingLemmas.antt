-- What the routines of rolling sets leave of a series that has no hidden element.
use Rattle.std.proofs.Common.{◌≡◌, ℕ, Bool, true, false, Ok, Err, List, [], ◌∷◌, refl, ap, subst, ◌∙◌}
use Rattle.std.specs.FinMap.{empty}
use Rattle.ts_model.specs.declared.kind.Kind.TheVariants as kinds
use Rattle.ts_model.specs.Catalogue.{Irregular, Catalogue, with_named, without}
use Rattle.ts_rolling.specs.Sets.{window_key}
use Rattle.ts_answer.specs.Elements.{without_windows, with_window}
use Rattle.ts_answer.specs.Reply.{ok_line}
use Rattle.ts_answer.specs.Answer.{Answered, Tried, ◌>>=◌, create_irregular}
use Rattle.ts_hidden.proofs.ElementLemmas.{none_hidden}
use Rattle.ts_hidden.proofs.SpareLemmas.{Spares, whole, series_put, gone}

came : {A B : Type 0} (m : Tried A) (f : A → Tried B) (b : B) → (m >>= f) ≡ Ok b → (a : A) × (m ≡ Ok a) × (f a ≡ Ok b)
unfolding ◌>>=◌
came (Ok a) f b is = (a, refl, is)
came (Err refusal) f b is = absurd (cc)

module _ (q : List ℕ) where
  -- windows go
  pub windows_gone : (set js : List ℕ) (cat : Catalogue) → Spares q cat (without_windows set js cat)
  windows_gone set [] cat shown = shown
  windows_gone set (j ∷ js) cat shown = windows_gone set js (without kinds.Series (window_key set j) cat) (gone q cat (window_key set j) shown)

  -- a series without elements is made
  pub series_made : (cat : Catalogue) (name container : List ℕ) → Spares q cat (with_named kinds.Series name (record { container = container; kind = Irregular; elements = empty }) cat)
  series_made cat name container = series_put q cat name (record { container = container; kind = Irregular; elements = empty }) (λ same shown. none_hidden)

  -- a window is perhaps made
  pub window_made : (b : Bool) (key container : List ℕ) (cat made : Catalogue) → with_window b key container cat ≡ Ok made → Spares q cat made
  unfolding with_window create_irregular
  window_made false key container cat made is = let same : cat ≡ made = cc in subst (Spares q cat) same (whole q cat)
  window_made true key container cat made is =
      let answered = came (create_irregular key container cat) (λ (a : Answered). Ok a.1) made is in
      let there = came _ _ answered.0 answered.1 in
      let new = came _ _ answered.0 there.2 in
      subst (Spares q cat) (new_end answered.0 new.2 ∙ same_end answered.0 made answered.2) (series_made cat key container)
    where
      same_end : (a : Answered) (c : Catalogue) → let left : Tried Catalogue = Ok a.1 in left ≡ Ok c → a.1 ≡ c
      same_end a c e = cc

      new_end : (a : Answered) → let left : Tried Answered = Ok (ok_line, with_named kinds.Series key (record { container = container; kind = Irregular; elements = empty }) cat) in left ≡ Ok a
          → with_named kinds.Series key (record { container = container; kind = Irregular; elements = empty }) cat ≡ a.1
      new_end a e = let same : (ok_line, with_named kinds.Series key (record { container = container; kind = Irregular; elements = empty }) cat) ≡ a = cc in ap (λ (x : Answered). x.1) same
