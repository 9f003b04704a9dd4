-- The laws of a cache.
use Rattle.std.proofs.Common.{◌≡◌, ◌≢◌, ℕ, zero, suc, ◌<◌, true, false, nat_eq, List, [], ◌∷◌, ◌++◌, take, length, Option, Some, None, IsSome, IsNone, IfSome, refl, sym, ap, ◌∙◌, subst, arith, length-append}
use Rattle.std.proofs.lemmas.Bool.{eqb-true, eq-eqb}
use Rattle.std.proofs.lemmas.List.{take_all, take-append-le}
use Rattle.std.specs.Option.{option_map_or}
use Rattle.ts_cache.specs.Cache.{Cache, IsCache, cache, page_of, without, brought_forward, put_in_front, after_get, after_put, after_forget, EachPage}
use Rattle.ts_cache.proofs.CacheLemmas.{without_none, length_without_some}

abbrev Pairs : Type 0
Pairs = List (ℕ × List ℕ)

pub put_is_found : (most n : ℕ) (bytes : List ℕ) (ps : Pairs) → 0 < most → page_of n (put_in_front most n bytes ps) ≡ Some bytes
put_is_found zero n bytes ps h = absurd (omega arith)
put_is_found (suc most) n bytes ps h = rw (eq-eqb n n refl)

-- what is found in a front of the list is found in the list
in_front : (m k : ℕ) (ps : Pairs) → IfSome (page_of m (take k ps)) (λ bytes. page_of m ps ≡ Some bytes)
in_front m zero ps = tt
in_front m (suc k) [] = tt
in_front m (suc k) (p ∷ ps) = (elim (nat_eq m p.0) as (λ y. nat_eq m p.0 ≡ y → IfSome (page_of m (take (suc k) (p ∷ ps))) (λ bytes. page_of m (p ∷ ps) ≡ Some bytes)) [
  | true ↦ λ t. rw t refl
  | false ↦ λ t. rw t (in_front m k ps)
]) refl

-- another number is found as before
pub not_out : (m n : ℕ) (ps : Pairs) → m ≢ n → page_of m (without n ps) ≡ page_of m ps
not_out m n [] apart = refl
not_out m n (p ∷ ps) apart = (elim (nat_eq n p.0) as (λ y. nat_eq n p.0 ≡ y → page_of m (without n (p ∷ ps)) ≡ page_of m (p ∷ ps)) [
  | true ↦ λ t.
      (elim (nat_eq m p.0) as (λ y. nat_eq m p.0 ≡ y → page_of m (without n (p ∷ ps)) ≡ page_of m (p ∷ ps)) [
        | true ↦ λ u. absurd (apart (eqb-true m p.0 u ∙ sym (eqb-true n p.0 t)))
        | false ↦ λ u. rw t (rw u (not_out m n ps apart))
      ]) refl
  | false ↦ λ t.
      (elim (nat_eq m p.0) as (λ y. nat_eq m p.0 ≡ y → page_of m (without n (p ∷ ps)) ≡ page_of m (p ∷ ps)) [
        | true ↦ λ u. rw t (rw u)
        | false ↦ λ u. rw t (rw u (not_out m n ps apart))
      ]) refl
]) refl

other_front : (m n : ℕ) (bytes : List ℕ) (ps : Pairs) → m ≢ n → page_of m ((n, bytes) ∷ without n ps) ≡ page_of m ps
other_front m n bytes ps apart = (elim (nat_eq m n) as (λ y. nat_eq m n ≡ y → page_of m ((n, bytes) ∷ without n ps) ≡ page_of m ps) [
  | true ↦ λ t. absurd (apart (eqb-true m n t))
  | false ↦ λ t. rw t (not_out m n ps apart)
]) refl

pub others_are_found : (most n m : ℕ) (bytes : List ℕ) (ps : Pairs) → m ≢ n → IfSome (page_of m (put_in_front most n bytes ps)) (λ kept. page_of m ps ≡ Some kept)
others_are_found most n m bytes ps apart =
    subst (λ (o : Option (List ℕ)). IfSome (page_of m (put_in_front most n bytes ps)) (λ kept. o ≡ Some kept)) (other_front m n bytes ps apart)
    (in_front m most ((n, bytes) ∷ without n ps))

some_at : (o : Option (List ℕ)) → IsSome o → (bytes : List ℕ) × (o ≡ Some bytes)
some_at None h = absurd cc
some_at (Some bytes) h = (bytes, refl)

none_at : (o : Option (List ℕ)) → IsNone o → o ≡ None
none_at None h = refl
none_at (Some bytes) h = absurd cc

pub put_replaces : (c : Cache) (n : ℕ) (bytes : List ℕ) → IsCache c → IsSome (page_of n c.pages) → put_in_front c.capacity n bytes c.pages ≡ (n, bytes) ∷ without n c.pages
put_replaces c n bytes h there =
    let old = some_at (page_of n c.pages) there in
    let within = h.within in
    take_all c.capacity ((n, bytes) ∷ without n c.pages) (omega (arith, length_without_some n c.pages old.0 old.1))

pub put_has_room : (most n : ℕ) (bytes : List ℕ) (ps : Pairs) → IsNone (page_of n ps) → length ps < most → put_in_front most n bytes ps ≡ (n, bytes) ∷ ps
put_has_room most n bytes ps none room =
    let same = without_none n ps (none_at (page_of n ps) none) in
    ap (λ l. take most ((n, bytes) ∷ l)) same ∙ take_all most ((n, bytes) ∷ ps) (omega arith)

pub put_drops_the_last : (most n : ℕ) (bytes : List ℕ) (front : Pairs) (last : ℕ × List ℕ) → IsNone (page_of n (front ++ last ∷ []))
    → length (front ++ last ∷ []) ≡ most → put_in_front most n bytes (front ++ last ∷ []) ≡ (n, bytes) ∷ front
put_drops_the_last zero n bytes front last none full = absurd (omega (arith, length-append front (last ∷ [])))
put_drops_the_last (suc most) n bytes front last none full =
    let same = without_none n (front ++ last ∷ []) (none_at (page_of n (front ++ last ∷ [])) none) in
    let long : length front ≡ most = omega (arith, length-append front (last ∷ [])) in
    ap (λ l. (n, bytes) ∷ take most l) same
    ∙ ap (λ l. (n, bytes) ∷ l) (take-append-le most front (last ∷ []) (omega arith) ∙ take_all most front (omega arith))

-- what is forgotten isn't found
pub own_out : (n : ℕ) (ps : Pairs) → page_of n (without n ps) ≡ None
own_out n [] = refl
own_out n (p ∷ ps) = (elim (nat_eq n p.0) as (λ y. nat_eq n p.0 ≡ y → page_of n (without n (p ∷ ps)) ≡ None) [
  | true ↦ λ t. rw t (own_out n ps)
  | false ↦ λ t. rw t (rw t (own_out n ps))
]) refl

-- a page that is asked for is found as before, and so are the others
forward_at : (n m : ℕ) (ps : Pairs) (o : Option (List ℕ)) → page_of n ps ≡ o → page_of m (option_map_or (λ bytes. (n, bytes) ∷ without n ps) o ps) ≡ page_of m ps
forward_at n m ps None is = refl
forward_at n m ps (Some bytes) is = (elim (nat_eq m n) as (λ y. nat_eq m n ≡ y → page_of m ((n, bytes) ∷ without n ps) ≡ page_of m ps) [
  | true ↦ λ t. rw t (sym is ∙ ap (λ (k : ℕ). page_of k ps) (sym (eqb-true m n t)))
  | false ↦ λ t. other_front m n bytes ps (λ e. let same = eq-eqb m n e in cc)
]) refl

pub forward_found : (n m : ℕ) (ps : Pairs) → page_of m (brought_forward n ps) ≡ page_of m ps
forward_found n m ps = forward_at n m ps (page_of n ps) refl

if_some : (o : Option (List ℕ)) (P : List ℕ → Type 0) (bytes : List ℕ) → IfSome o P → o ≡ Some bytes → P bytes
if_some o P bytes h is = subst (λ (x : Option (List ℕ)). IfSome x P) is h

own_front : (n : ℕ) (bytes : List ℕ) (ps : Pairs) → page_of n ((n, bytes) ∷ ps) ≡ Some bytes
own_front n bytes ps = rw (eq-eqb n n refl)

pub none_has : (P : ℕ → List ℕ → Type 0) (capacity : ℕ) → EachPage P (cache [] capacity)
none_has P capacity k kept found = absurd cc

module _ (P : ℕ → List ℕ → Type 0) (n : ℕ) (c : Cache) (each : EachPage P c) where
  pub each_got : EachPage P (after_get n c)
  each_got k kept found = each k kept (sym (forward_found n k c.pages) ∙ found)

  pub each_put : (bytes : List ℕ) → P n bytes → EachPage P (after_put n bytes c)
  each_put bytes own k kept found = (elim (nat_eq k n) as (λ y. nat_eq k n ≡ y → P k kept) [
    | true ↦ λ t.
        let here : n ≡ k = sym (eqb-true k n t) in
        let same : Some bytes ≡ Some kept =
        sym (own_front n bytes (without n c.pages))
        ∙ if_some _ (λ b. page_of n ((n, bytes) ∷ without n c.pages) ≡ Some b) kept (in_front n c.capacity ((n, bytes) ∷ without n c.pages)) (ap (λ (m : ℕ). page_of m (put_in_front c.capacity n bytes c.pages)) here ∙ found) in
        subst (λ (m : ℕ). P m kept) here (subst (λ (o : Option (List ℕ)). IfSome o (P n)) same own)
    | false ↦ λ t.
        let apart : k ≢ n = λ e. let same_number = eq-eqb k n e in cc in
        each k kept (if_some _ (λ b. page_of k c.pages ≡ Some b) kept (others_are_found c.capacity n k bytes c.pages apart) found)
  ]) refl

  pub each_forgotten : (Q : ℕ → List ℕ → Type 0) → ((k : ℕ) (kept : List ℕ) → k ≢ n → P k kept → Q k kept) → EachPage Q (after_forget n c)
  each_forgotten Q others k kept found = (elim (nat_eq k n) as (λ y. nat_eq k n ≡ y → Q k kept) [
    | true ↦ λ t.
        let gone = sym (own_out n c.pages) ∙ ap (λ (m : ℕ). page_of m (without n c.pages)) (sym (eqb-true k n t)) ∙ found in
        absurd cc
    | false ↦ λ t.
        let apart : k ≢ n = λ e. let same_number = eq-eqb k n e in cc in
        others k kept apart (each k kept (sym (not_out k n c.pages apart) ∙ found))
  ]) refl
