-- Maps: what stands under a key after a change, sums over what they have, and their keys.
use Rattle.std.specs.Prelude.{All, AllPairs}
use Rattle.std.proofs.Common.{◌≡◌, ℕ, ◌+◌, ◌<◌, ◌≤◌, Bool, true, false, cond, ◌&&◌, T, Option, Some, None, is_some, List, [], ◌∷◌, map, sum, refl, sym, ap, ◌∙◌, subst, arith, zero-add}
use Rattle.std.specs.List.{filter}
use Rattle.std.proofs.lemmas.List.Sums.{sum_by-cons}
use Rattle.std.proofs.lemmas.List.Elements.{All-nil, All-cons}
use Rattle.std.proofs.lemmas.List.Kept.{AllPairs-cons}
use Rattle.std.specs.Cmp.{IsTotalOrder, tied_itself}
use Rattle.std.specs.Ordering.{is_eq, is_lt, eq_by_cmp}
use Rattle.std.specs.declared.cmp.Ordering.{Ordering}
use Rattle.std.specs.declared.cmp.Ordering.TheVariants.{Less, Equal, Greater}
use Rattle.std.specs.FinMap.{FinMap, IsAntisymmetric, find, put, is_sorted, entries, entries_sorted, get, insert, remove, len, from_sorted, same_map, get-entries, get-insert, get-remove, get-from_sorted, entries-insert, entries-from_sorted, len-insert}
use Rattle.std.specs.FinMap.Entries.{by_order, where_key, below_all, find-where_key, is_sorted-where_key}

pub first : (a b : Bool) → T (a && b) → T a
first true b both = tt
first false b both = absurd both

pub second : (a b : Bool) → T (a && b) → T b
second true b both = both
second false b both = absurd both

pub less : (r : Ordering) → T (is_lt r) → r ≡ Less
less Less lt = refl
less Equal lt = absurd lt
less Greater lt = absurd lt

pub tied : (r : Ordering) → is_eq r ≡ true → r ≡ Equal
tied Less is = absurd (let never : ⊥ = cc in never)
tied Equal is = refl
tied Greater is = absurd (let never : ⊥ = cc in never)

shadowed : {A : Type 0} (b : Bool) (x y z : A) → cond b x z ≡ cond b x (cond b y z)
shadowed true x y z = refl
shadowed false x y z = refl

-- the sum over the entries of what their values weigh
abbrev pub total_of : {K X : Type 0} → (X → ℕ) → List (K × X) → ℕ
total_of w [] = 0
total_of w (e ∷ es) = w e.1 + total_of w es

pub filter_total : {K X : Type 0} (p : X → Bool) (g : X → ℕ) (es : List (K × X)) → sum (map (λ e. g e.1) (filter (λ e. p e.1) es)) ≡ total_of (λ x. cond (p x) (g x) 0) es
filter_total p g [] = refl
filter_total {K} {X} p g (e ∷ es) =
    let rest = filter_total p g es in
    elim (p e.1) as (λ (b : Bool). sum (map (λ (f : K × X). g f.1) (cond b (e ∷ filter (λ (f : K × X). p f.1) es) (filter (λ (f : K × X). p f.1) es))) ≡ cond b (g e.1) 0 + total_of (λ x. cond (p x) (g x) 0) es) [
      | true ↦ sum_by-cons (λ (y : ℕ). y) (g e.1) (map (λ (f : K × X). g f.1) (filter (λ (f : K × X). p f.1) es)) ∙ ap (λ (n : ℕ). g e.1 + n) rest
      | false ↦ rest ∙ sym (zero-add (total_of (λ x. cond (p x) (g x) 0) es))
    ]

pub values_total : {K X : Type 0} (g : X → ℕ) (es : List (K × X)) → sum (map g (map (λ e. e.1) es)) ≡ total_of g es
values_total g [] = refl
values_total {K} {X} g (e ∷ es) = sum_by-cons (λ (y : ℕ). y) (g e.1) (map g (map (λ (f : K × X). f.1) es)) ∙ ap (λ (n : ℕ). g e.1 + n) (values_total g es)

module _ {K X : Type 0} {R : K → K → Ordering} (o : IsTotalOrder R) (same : IsAntisymmetric R) where
  -- what stands under a key after another came: that one, or what stood there
  pub got_inserted : (P : K → X → Type 0) (m : FinMap R X) (k q : K) (v x : X) → ((y : X) → get m q ≡ Some y → P q y) → P k v → get (insert m k v) q ≡ Some x → P q x
  got_inserted P m k q v x old new is =
      elim (eq_by_cmp R q k) as (λ (b : Bool). eq_by_cmp R q k ≡ b → cond b (Some v) (get m q) ≡ Some x → P q x) [
        | true ↦ λ tie at.
            let name : q ≡ k = same q k (tied (R q k) tie) in
            let value : v ≡ x = cc in
            subst (λ (y : X). P q y) value (subst (λ (z : K). P z v) (sym name) new)
        | false ↦ λ other at. old x at
      ] refl (sym (get-insert o m k v q) ∙ is)

  pub got_removed : (m : FinMap R X) (k q : K) (x : X) → get (remove m k) q ≡ Some x → get m q ≡ Some x
  got_removed m k q x is =
      elim (eq_by_cmp R q k) as (λ (b : Bool). cond b None (get m q) ≡ Some x → get m q ≡ Some x) [
        | true ↦ λ at. absurd (let never : ⊥ = cc in never)
        | false ↦ λ at. at
      ] (sym (get-remove o m k q) ∙ is)

  -- under another key all is as before
  apart : (b : Bool) (v m : Option X) → (b ≡ true → ⊥) → cond b v m ≡ m
  apart true v m other = absurd (other refl)
  apart false v m other = refl

  pub others_inserted : (m : FinMap R X) (k q : K) (v : X) → (q ≡ k → ⊥) → get (insert m k v) q ≡ get m q
  others_inserted m k q v other = get-insert o m k v q ∙ apart (eq_by_cmp R q k) (Some v) (get m q) (λ tie. other (same q k (tied (R q k) tie)))

  pub others_removed : (m : FinMap R X) (k q : K) → (q ≡ k → ⊥) → get (remove m k) q ≡ get m q
  others_removed m k q other = get-remove o m k q ∙ apart (eq_by_cmp R q k) (let none : Option X = None in none) (get m q) (λ tie. other (same q k (tied (R q k) tie)))

  pub there_inserted : (m : FinMap R X) (k : K) (v : X) → get (insert m k v) k ≡ Some v
  there_inserted m k v = get-insert o m k v k ∙ ap (λ (r : Ordering). cond (is_eq r) (Some v) (get m k)) (tied_itself o k)

  -- one that stands under its key, and another under a free one, aren't at the same key
  pub other_key : (m : FinMap R X) (k q : K) (x : X) → get m k ≡ None → get m q ≡ Some x → q ≡ k → ⊥
  other_key m k q x none there at = let never = sym there ∙ ap (get m) at ∙ none in cc

  -- one entry of a new key more
  put_total : (w : X → ℕ) (k : K) (v : X) (es : List (K × X)) → find R k es ≡ None → total_of w (put R k v es) ≡ w v + total_of w es
  put_total w k v [] none = refl
  put_total w k v (e ∷ es) none =
      elim (R k e.0) as (λ (r : Ordering). cond (is_eq r) (Some e.1) (find R k es) ≡ None → total_of w (by_order r ((k, v) ∷ e ∷ es) ((e.0, v) ∷ es) (e ∷ put R k v es)) ≡ w v + (w e.1 + total_of w es)) [
        | Less ↦ λ here. refl
        | Equal ↦ λ here. absurd (let never : ⊥ = cc in never)
        | Greater ↦ λ here. let rest = put_total w k v es here in omega (arith, rest)
      ] none

  set_again : (m : FinMap R X) (k : K) (v : X) → insert (remove m k) k v ≡ insert m k v
  set_again m k v = same_map o same _ _ (λ q.
      get-insert o (remove m k) k v q ∙ ap (cond (eq_by_cmp R q k) (Some v)) (get-remove o m k q)
      ∙ sym (shadowed (eq_by_cmp R q k) (Some v) None (get m q)) ∙ sym (get-insert o m k v q))

  set_same : (m : FinMap R X) (k : K) (x : X) → get m k ≡ Some x → insert m k x ≡ m
  set_same m k x there = same_map o same _ _ (λ q.
      get-insert o m k x q ∙ elim (eq_by_cmp R q k) as (λ (b : Bool). eq_by_cmp R q k ≡ b → cond b (Some x) (get m q) ≡ get m q) [
        | true ↦ λ tie. sym there ∙ ap (get m) (sym (same q k (tied (R q k) tie)))
        | false ↦ λ other. refl
      ] refl)

  no_longer : (m : FinMap R X) (k : K) → find R k (entries (remove m k)) ≡ None
  no_longer m k = sym (get-entries (remove m k) k) ∙ get-remove o m k k ∙ ap (λ (r : Ordering). cond (is_eq r) None (get m k)) (tied_itself o k)

  pub set_total : (w : X → ℕ) (m : FinMap R X) (k : K) (v : X) → total_of w (entries (insert m k v)) ≡ w v + total_of w (entries (remove m k))
  set_total w m k v =
      ap (λ (n : FinMap R X). total_of w (entries n)) (sym (set_again m k v)) ∙ ap (total_of w) (entries-insert o (remove m k) k v) ∙ put_total w k v (entries (remove m k)) (no_longer m k)

  pub had_total : (w : X → ℕ) (m : FinMap R X) (k : K) (x : X) → get m k ≡ Some x → total_of w (entries m) ≡ w x + total_of w (entries (remove m k))
  had_total w m k x there = ap (λ (n : FinMap R X). total_of w (entries n)) (sym (set_same m k x there)) ∙ set_total w m k x

  pub new_total : (w : X → ℕ) (m : FinMap R X) (k : K) → get m k ≡ None → total_of w (entries (remove m k)) ≡ total_of w (entries m)
  new_total w m k none = ap (λ (n : FinMap R X). total_of w (entries n)) (same_map o same (remove m k) m (λ q.
      get-remove o m k q ∙ elim (eq_by_cmp R q k) as (λ (b : Bool). eq_by_cmp R q k ≡ b → cond b None (get m q) ≡ get m q) [
        | true ↦ λ tie. sym none ∙ ap (get m) (sym (same q k (tied (R q k) tie)))
        | false ↦ λ other. refl
      ] refl))

  -- a sum over other weights, which are the same for all that is there
  found_behind : (e : K × X) (es : List (K × X)) (q : K) (v : X) → T (below_all R e.0 es) → find R q es ≡ Some v → find R q (e ∷ es) ≡ Some v
  found_behind e es q v low there =
      elim (eq_by_cmp R q e.0) as (λ (b : Bool). eq_by_cmp R q e.0 ≡ b → cond b (Some e.1) (find R q es) ≡ Some v) [
        | true ↦ λ tie. absurd (let none = sym there ∙ ap (λ (n : K). find R n es) (same q e.0 (tied (R q e.0) tie)) ∙ none_below e.0 es low in cc)
        | false ↦ λ other. there
      ] refl where
        none_below : (q : K) (es : List (K × X)) → T (below_all R q es) → find R q es ≡ None
        none_below q [] low = refl
        none_below q (e ∷ es) low = ap (λ (r : Ordering). cond (is_eq r) (Some e.1) (find R q es)) (less (R q e.0) (first _ _ low)) ∙ none_below q es (second _ _ low)

  total_same : (w u : X → ℕ) (es : List (K × X)) → T (is_sorted R es) → ((q : K) (x : X) → find R q es ≡ Some x → w x ≡ u x) → total_of w es ≡ total_of u es
  total_same w u [] sorted alike = refl
  total_same w u (e ∷ es) sorted alike =
      let here : w e.1 ≡ u e.1 = alike e.0 e.1 (ap (λ (r : Ordering). cond (is_eq r) (Some e.1) (find R e.0 es)) (tied_itself o e.0)) in
      let rest : total_of w es ≡ total_of u es = total_same w u es (second _ _ sorted) (λ q x there. alike q x (found_behind e es q x (first _ _ sorted) there)) in
      ap (λ (n : ℕ). n + total_of w es) here ∙ ap (λ (n : ℕ). u e.1 + n) rest

  pub totals_same : (w u : X → ℕ) (m : FinMap R X) → ((q : K) (x : X) → get m q ≡ Some x → w x ≡ u x) → total_of w (entries m) ≡ total_of u (entries m)
  totals_same w u m alike = total_same w u (entries m) (entries_sorted m) (λ q x there. alike q x (get-entries m q ∙ there))

  -- keys in order
  all_behind : (q : K) (es : List (K × X)) → T (below_all R q es) → All (λ (e : K × X). R q e.0 ≡ Less) es
  all_behind q [] below = All-nil (λ (e : K × X). R q e.0 ≡ Less)
  all_behind q (e ∷ es) below = All-cons (λ (f : K × X). R q f.0 ≡ Less) e es (less _ (first _ _ below)) (all_behind q es (second _ _ below))

  sorted_once : (es : List (K × X)) → T (is_sorted R es) → AllPairs (λ (a b : K × X). R a.0 b.0 ≡ Less) es
  sorted_once [] sorted = λ i j d low within. absurd (omega (arith, within))
  sorted_once (e ∷ es) sorted = AllPairs-cons (λ (a b : K × X). R a.0 b.0 ≡ Less) e es (all_behind e.0 es (first _ _ sorted)) (sorted_once es (second _ _ sorted))

  pub keys_once : (m : FinMap R X) → AllPairs (λ (a b : K × X). R a.0 b.0 ≡ Less) (entries m)
  keys_once m = sorted_once (entries m) (entries_sorted m)

  -- a value in place of another leaves the keys
  put_keys : (k : K) (v x : X) (es : List (K × X)) → T (is_sorted R es) → find R k es ≡ Some x → map (λ e. e.0) (put R k v es) ≡ map (λ e. e.0) es
  put_keys k v x [] sorted there = absurd (let never : ⊥ = cc in never)
  put_keys k v x (e ∷ es) sorted there =
      elim (R k e.0) as (λ (r : Ordering). R k e.0 ≡ r → cond (is_eq r) (Some e.1) (find R k es) ≡ Some x → map (λ (f : K × X). f.0) (by_order r ((k, v) ∷ e ∷ es) ((e.0, v) ∷ es) (e ∷ put R k v es)) ≡ e.0 ∷ map (λ (f : K × X). f.0) es) [
        | Less ↦ λ is here. absurd (let low = none_lower e.0 k es is (first _ _ sorted) in let never : ⊥ = cc in never)
        | Equal ↦ λ is here. refl
        | Greater ↦ λ is here. ap (λ (ks : List K). e.0 ∷ ks) (put_keys k v x es (second _ _ sorted) here)
      ] refl there where
        none_lower : (a k : K) (es : List (K × X)) → R k a ≡ Less → T (below_all R a es) → find R k es ≡ None
        none_lower a k [] low below = refl
        none_lower a k (e ∷ es) low below =
            ap (λ (r : Ordering). cond (is_eq r) (Some e.1) (find R k es)) (o.trans k a e.0 low (less _ (first _ _ below))) ∙ none_lower a k es low (second _ _ below)

  pub keys_stay : (m : FinMap R X) (k : K) (v x : X) → get m k ≡ Some x → map (λ e. e.0) (entries (insert m k v)) ≡ map (λ e. e.0) (entries m)
  keys_stay m k v x there = ap (λ (es : List (K × X)). map (λ (e : K × X). e.0) es) (entries-insert o m k v) ∙ put_keys k v x (entries m) (entries_sorted m) (sym (get-entries m k) ∙ there)

  -- a map that has what another has under some keys alone has its entries with these keys
  pub kept_entries : (p : K → Bool) (m n : FinMap R X) → ((q : K) → get n q ≡ cond (p q) (get m q) None) → entries n ≡ where_key R p (entries m)
  kept_entries p m n is =
      let kept : List (K × X) = where_key R p (entries m) in
      let sorted : T (is_sorted R kept) = is_sorted-where_key R p (entries m) (entries_sorted m) in
      ap entries (same_map o same n (from_sorted kept) (λ q.
      is q ∙ ap (λ (x : Option X). cond (p q) x None) (get-entries m q)
      ∙ sym (find-where_key R p q (λ x tie. ap p (sym (same q x tie))) (entries m)) ∙ sym (get-from_sorted R kept q sorted)))
      ∙ entries-from_sorted R kept sorted

  -- a key that was free adds one, any other none
  pub few_inserted : (m : FinMap R X) (k : K) (v : X) (most : ℕ) → len m < most → len (insert m k v) ≤ most
  few_inserted m k v most few = elim (is_some (get m k)) as (λ (b : Bool). len (insert m k v) ≡ cond b (len m) (len m + 1) → len (insert m k v) ≤ most) [
    | true ↦ λ is. omega (arith, is)
    | false ↦ λ is. omega (arith, is)
  ] (len-insert o m k v)

  pub len_stays : (m : FinMap R X) (k : K) (v x : X) → get m k ≡ Some x → len (insert m k v) ≡ len m
  len_stays m k v x there = len-insert o m k v ∙ ap (λ (y : Option X). cond (is_some y) (len m) (len m + 1)) there
