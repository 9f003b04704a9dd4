-- Entries of a map in the order of their keys: one that comes behind all others, and one that takes another's place.
use Rattle.std.proofs.Common.{◌≡◌, Bool, true, false, cond, ◌&&◌, T, Some, None, List, [], ◌∷◌, ◌++◌, refl, ap, sym, ◌∙◌, subst}
use Rattle.std.specs.declared.cmp.Ordering.{Ordering}
use Rattle.std.specs.declared.cmp.Ordering.TheVariants.{Less, Equal, Greater}
use Rattle.std.specs.Ordering.{is_lt, is_eq, ordering_reverse}
use Rattle.std.specs.Cmp.{IsTotalOrder, tied_itself}
use Rattle.std.specs.FinMap.{FinMap, entries, entries_sorted, entries-insert, get, get-entries, insert, find, put, is_sorted}
use Rattle.std.specs.FinMap.Entries.{below_all, by_order}

both : (a b : Bool) → T (a && b) → T a × T b
both true b h = (tt, h)
both false b h = absurd h

joined : (a b : Bool) → T a → T b → T (a && b)
joined true b h k = k
joined false b h k = absurd h

less : (r : Ordering) → T (is_lt r) → r ≡ Less
less Less h = refl
less Equal h = absurd h
less Greater h = absurd h

module _ {K X : Type 0} (R : K → K → Ordering) (o : IsTotalOrder R) where
  -- a key comes behind those of all entries
  abbrev pub IsBehind : K → List (K × X) → Type 0
  IsBehind k [] = Unit {0}
  IsBehind k (e ∷ es) = (R k e.0 ≡ Greater) × IsBehind k es

  pub find_behind : (k : K) (pre post : List (K × X)) → IsBehind k pre → find R k (pre ++ post) ≡ find R k post
  find_behind k [] post behind = refl
  find_behind k (e ∷ pre) post behind =
      ap (λ (r : Ordering). cond (is_eq r) (Some e.1) (find R k (pre ++ post))) behind.0 ∙ find_behind k pre post behind.1

  pub put_behind : (k : K) (v : X) (pre post : List (K × X)) → IsBehind k pre → put R k v (pre ++ post) ≡ pre ++ put R k v post
  put_behind k v [] post behind = refl
  put_behind k v (e ∷ pre) post behind =
      ap (λ (r : Ordering). by_order r ((k, v) ∷ e ∷ (pre ++ post)) ((e.0, v) ∷ (pre ++ post)) (e ∷ put R k v (pre ++ post))) behind.0
      ∙ ap (λ (l : List (K × X)). e ∷ l) (put_behind k v pre post behind.1)

  pub put_here : (k : K) (v w : X) (post : List (K × X)) → put R k v ((k, w) ∷ post) ≡ (k, v) ∷ post
  put_here k v w post = ap (λ (r : Ordering). by_order r ((k, v) ∷ (k, w) ∷ post) ((k, v) ∷ post) ((k, w) ∷ put R k v post)) (tied_itself o k)

  pub find_here : (k : K) (w : X) (post : List (K × X)) → find R k ((k, w) ∷ post) ≡ Some w
  find_here k w post = ap (λ (r : Ordering). cond (is_eq r) (Some w) (find R k post)) (tied_itself o k)

  below_behind : (f e : K × X) (pre post : List (K × X)) → T (below_all R f.0 (pre ++ e ∷ post)) → R e.0 f.0 ≡ Greater
  below_behind f e [] post below = o.antisymm e.0 f.0 ∙ ap ordering_reverse (less _ (both _ _ below).0)
  below_behind f e (g ∷ pre) post below = below_behind f e pre post (both _ _ below).1

  -- in a list in order each key comes behind those before it
  pub sorted_behind : (pre : List (K × X)) (e : K × X) (post : List (K × X)) → T (is_sorted R (pre ++ e ∷ post)) → IsBehind e.0 pre
  sorted_behind [] e post sorted = tt
  sorted_behind (f ∷ pre) e post sorted = (below_behind f e pre post (both _ _ sorted).0, sorted_behind pre e post (both _ _ sorted).1)

  below_front : (q : K) (pre : List (K × X)) (e : K × X) (post : List (K × X)) (v : X) → T (below_all R q (pre ++ e ∷ post)) → T (below_all R q (pre ++ (e.0, v) ∷ []))
  below_front q [] e post v below = joined (is_lt (R q e.0)) true (both _ _ below).0 tt
  below_front q (f ∷ pre) e post v below = joined (is_lt (R q f.0)) (below_all R q (pre ++ (e.0, v) ∷ [])) (both _ _ below).0 (below_front q pre e post v (both _ _ below).1)

  -- the front of a list in order, whatever stands under its last key
  pub sorted_front : (pre : List (K × X)) (e : K × X) (post : List (K × X)) (v : X) → T (is_sorted R (pre ++ e ∷ post)) → T (is_sorted R (pre ++ (e.0, v) ∷ []))
  sorted_front [] e post v sorted = tt
  sorted_front (f ∷ pre) e post v sorted =
      joined (below_all R f.0 (pre ++ (e.0, v) ∷ [])) (is_sorted R (pre ++ (e.0, v) ∷ [])) (below_front f.0 pre e post v (both _ _ sorted).0) (sorted_front pre e post v (both _ _ sorted).1)

  -- an entry that comes behind all
  pub pushed : (m : FinMap R X) (pre : List (K × X)) (e : K × X) (post : List (K × X)) → entries m ≡ pre → T (is_sorted R (pre ++ e ∷ post))
      → (get m e.0 ≡ None) × (entries (insert m e.0 e.1) ≡ pre ++ e ∷ [])
  pushed m pre e post is sorted =
      let behind = sorted_behind pre e post sorted in
      let none : find R e.0 pre ≡ None = ap (find R e.0) (sym (nothing_more pre)) ∙ find_behind e.0 pre [] behind in
      let last : put R e.0 e.1 pre ≡ pre ++ e ∷ [] = ap (put R e.0 e.1) (sym (nothing_more pre)) ∙ put_behind e.0 e.1 pre [] behind in
      (get-entries m e.0 ∙ ap (find R e.0) is ∙ none, entries-insert o m e.0 e.1 ∙ ap (put R e.0 e.1) is ∙ last)
    where
      nothing_more : (es : List (K × X)) → es ++ [] ≡ es
      nothing_more [] = refl
      nothing_more (x ∷ es) = ap (λ (l : List (K × X)). x ∷ l) (nothing_more es)

  -- an entry that takes the place of another
  pub replaced : (m : FinMap R X) (pre : List (K × X)) (k : K) (w v : X) (post : List (K × X)) → entries m ≡ pre ++ (k, w) ∷ post
      → (get m k ≡ Some w) × (entries (insert m k v) ≡ pre ++ (k, v) ∷ post)
  replaced m pre k w v post is =
      let sorted : T (is_sorted R (pre ++ (k, w) ∷ post)) = subst (λ (es : List (K × X)). T (is_sorted R es)) is (entries_sorted m) in
      let behind = sorted_behind pre (k, w) post sorted in (
        get-entries m k ∙ ap (find R k) is ∙ find_behind k pre ((k, w) ∷ post) behind ∙ find_here k w post,
        entries-insert o m k v ∙ ap (put R k v) is ∙ put_behind k v pre ((k, w) ∷ post) behind ∙ ap (λ (l : List (K × X)). pre ++ l) (put_here k v w post),
      )
