-- The rows of two lists of elements, one stamp after the other.
use Rattle.std.proofs.Common.{◌≡◌, ◌∙◌, Bool, true, false, cond, ℤ, ◌<ℤ◌, Option, Some, None, List, [], ◌∷◌, ◌++◌, map, filter, filter_map, refl, ap, arith}
use Rattle.std.specs.List.{cons_option}
use Rattle.std.specs.FinMap.{entries}
use Rattle.std.proofs.lemmas.Int.{ints}
use Rattle.ts_row.specs.Row.{Row, Element}
use Rattle.ts_irregular.specs.Edit.{element_at}
use Rattle.ts_irregular.proofs.EditLemmas.{element_at-lower, element_at-same}
use Rattle.ts_pattern.specs.declared.junction.Junction.{Junction}
use Rattle.ts_combine.specs.Combine.{Side, by_stamp, merged_stamps, joined_at, rows_there}
use Rattle.ts_base.specs.Moment.{is_between}
use Rattle.ts_combine.proofs.OrderLemmas.{AreLater, later-append, later-entries, none-later, stamps-first, stamps-second, stamps-both, stamps-none}

-- a series with other elements
abbrev pub with_elements : Side → List Element → Side
with_elements s es = record s { elements = es }

-- what two functions give of the stamps of a list is the same where they agree on all that are later than one before
same-later : (s : ℤ) (f g : ℤ → Option Element) (p : ℤ → Bool) (es : List Element) → AreLater s es → ((t : ℤ) → s <ℤ t → f t ≡ g t)
    → filter_map f (filter p (map (λ e. e.0) es)) ≡ filter_map g (filter p (map (λ e. e.0) es))
same-later s f g p [] later same = refl
same-later s f g p (e ∷ es) later same = by (p e.0) (same-later s f g p es later.1 same) where
  by : (b : Bool) → filter_map f (filter p (map (λ e. e.0) es)) ≡ filter_map g (filter p (map (λ e. e.0) es))
      → filter_map f (cond b (e.0 ∷ filter p (map (λ e. e.0) es)) (filter p (map (λ e. e.0) es))) ≡ filter_map g (cond b (e.0 ∷ filter p (map (λ e. e.0) es)) (filter p (map (λ e. e.0) es)))
  by true rest = ap (λ o. cons_option o (filter_map f (filter p (map (λ e. e.0) es)))) (same e.0 later.0) ∙ ap (cons_option (g e.0)) rest
  by false rest = rest

-- the row at one stamp, where that is in the range
abbrev pub row_there : Junction → Side → Side → ℤ → ℤ → ℤ → Option Row → Option Row → Option Element
row_there junction a b from to s x y = cond (is_between from to s) (joined_at junction a b s x y) None

first-kept : (f : ℤ → Option Element) (p : ℤ → Bool) (s : ℤ) (ts : List ℤ) → filter_map f (filter p (s ∷ ts)) ≡ cons_option (cond (p s) (f s) None) (filter_map f (filter p ts))
first-kept f p s ts = by (p s) where
  by : (b : Bool) → filter_map f (cond b (s ∷ filter p ts) (filter p ts)) ≡ cons_option (cond b (f s) None) (filter_map f (filter p ts))
  by true = refl
  by false = refl

abbrev there : Junction → Side → Side → List Element → List Element → ℤ → Option Element
there junction a b es fs s = joined_at junction a b s (element_at s es) (element_at s fs)

-- one stamp of merged ones after the other
next-row : (junction : Junction) (a b : Side) (es fs us vs : List Element) (from to s : ℤ) (x y : Option Row)
    → merged_stamps us vs ≡ s ∷ merged_stamps es fs → AreLater s es → AreLater s fs
    → element_at s us ≡ x → element_at s vs ≡ y
    → ((t : ℤ) → s <ℤ t → element_at t us ≡ element_at t es) → ((t : ℤ) → s <ℤ t → element_at t vs ≡ element_at t fs)
    → rows_there junction (with_elements a us) (with_elements b vs) from to
    ≡ cons_option (row_there junction a b from to s x y) (rows_there junction (with_elements a es) (with_elements b fs) from to)
next-row junction a b es fs us vs from to s x y stamps es_later fs_later x_is y_is us_same vs_same =
    let f = there junction a b us vs in
    let p = is_between from to in
    ap (λ ts. filter_map f (filter p ts)) stamps ∙ first-kept f p s (merged_stamps es fs)
    ∙ ap (λ l. cons_option (cond (p s) (f s) None) l) (same-later s f (there junction a b es fs) p (entries (by_stamp (es ++ fs)))
    (later-entries s (es ++ fs) (later-append s es fs es_later fs_later))
    (λ t lt. ap (λ o. joined_at junction a b t o (element_at t vs)) (us_same t lt) ∙ ap (λ o. joined_at junction a b t (element_at t es) o) (vs_same t lt)))
    ∙ ap (λ o. cons_option (cond (p s) (joined_at junction a b s o (element_at s vs)) None) (rows_there junction (with_elements a es) (with_elements b fs) from to)) x_is
    ∙ ap (λ o. cons_option (cond (p s) (joined_at junction a b s x o) None) (rows_there junction (with_elements a es) (with_elements b fs) from to)) y_is

behind-it : (e : Element) (es : List Element) (s t : ℤ) → e.0 ≡ s → s <ℤ t → element_at t (e ∷ es) ≡ element_at t es
behind-it e es s t same lt = element_at-lower t e es (omega (arith, ints, same))

at-it : (e : Element) (es : List Element) (s : ℤ) → e.0 ≡ s → element_at s (e ∷ es) ≡ Some e.1
at-it e es s same = element_at-same s e es (omega (arith, ints, same)) (omega (arith, ints, same))

pub next-first : (junction : Junction) (a b : Side) (e : Element) (es fs : List Element) (from to : ℤ) → AreLater e.0 es → AreLater e.0 fs
    → rows_there junction (with_elements a (e ∷ es)) (with_elements b fs) from to
    ≡ cons_option (row_there junction a b from to e.0 (Some e.1) None) (rows_there junction (with_elements a es) (with_elements b fs) from to)
next-first junction a b e es fs from to later then_ =
    next-row junction a b es fs (e ∷ es) fs from to e.0 (Some e.1) None (stamps-first e es fs later then_) later then_
    (at-it e es e.0 refl) (none-later e.0 fs then_) (λ t lt. behind-it e es e.0 t refl lt) (λ t lt. refl)

pub next-second : (junction : Junction) (a b : Side) (f : Element) (es fs : List Element) (from to : ℤ) → AreLater f.0 es → AreLater f.0 fs
    → rows_there junction (with_elements a es) (with_elements b (f ∷ fs)) from to
    ≡ cons_option (row_there junction a b from to f.0 None (Some f.1)) (rows_there junction (with_elements a es) (with_elements b fs) from to)
next-second junction a b f es fs from to later then_ =
    next-row junction a b es fs es (f ∷ fs) from to f.0 None (Some f.1) (stamps-second f es fs later then_) later then_
    (none-later f.0 es later) (at-it f fs f.0 refl) (λ t lt. refl) (λ t lt. behind-it f fs f.0 t refl lt)

pub next-both : (junction : Junction) (a b : Side) (e f : Element) (es fs : List Element) (from to : ℤ) → e.0 ≡ f.0 → AreLater f.0 es → AreLater f.0 fs
    → rows_there junction (with_elements a (e ∷ es)) (with_elements b (f ∷ fs)) from to
    ≡ cons_option (row_there junction a b from to f.0 (Some e.1) (Some f.1)) (rows_there junction (with_elements a es) (with_elements b fs) from to)
next-both junction a b e f es fs from to same later then_ =
    next-row junction a b es fs (e ∷ es) (f ∷ fs) from to f.0 (Some e.1) (Some f.1) (stamps-both e f es fs same later then_) later then_
    (at-it e es f.0 same) (at-it f fs f.0 refl) (λ t lt. behind-it e es f.0 t same lt) (λ t lt. behind-it f fs f.0 t refl lt)

pub next-none : (junction : Junction) (a b : Side) (from to : ℤ) → rows_there junction (with_elements a []) (with_elements b []) from to ≡ []
next-none junction a b from to = ap (λ ts. filter_map (there junction a b [] []) (filter (is_between from to) ts)) stamps-none
