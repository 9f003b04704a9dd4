-- Elements in groups by a start that each has or hasn't: what one more element makes of the groups, where starts rise.
use Rattle.std.proofs.Common.{◌≡◌, ◌⊎◌, inl, inr, ◌≤◌, ℤ, ◌<ℤ◌, ◌≤ℤ◌, Bool, true, false, cond, not, ◌&&◌, Option, Some, None, List, [], ◌∷◌, ◌++◌, length, map, refl, sym, ap, subst, ◌∙◌, arith, append-nil, lt-ltb}
use Rattle.std.specs.Prelude.{filter, int_lt, nat_lt}
use Rattle.std.proofs.lemmas.Int.{by_lt_z, ints}
use Rattle.std.proofs.lemmas.List.Elements.{filter-append}
use Rattle.ts_row.specs.Row.{Element}
use Rattle.ts_calendar.proofs.StampLemmas.{int_lt_yes, int_lt_no}
use Rattle.ts_entry.specs.Entry.{Group, is_start}

-- a claim of each of some things
abbrev pub Each : {A : Type 0} → (A → Type 0) → List A → Type 0
Each P [] = Unit {0}
Each P (x ∷ xs) = P x × Each P xs

-- one of them
abbrev pub IsOneOf : ℤ → List ℤ → Type 0
IsOneOf s [] = ⊥
IsOneOf s (z ∷ ss) = (z ≡ s) ⊎ IsOneOf s ss

-- each is below the later ones
abbrev pub AreRising : List ℤ → Type 0
AreRising [] = Unit {0}
AreRising (s ∷ ss) = Each (λ z. s <ℤ z) ss × AreRising ss

-- whether a start is that one
pub start_same : (s : ℤ) → is_start s (Some s) ≡ true
start_same s =
    let no_ = int_lt_no s s (omega (arith, ints)) in
    ap (λ b. not b && not b) no_

pub start_off : (s z : ℤ) → (s ≡ z → ⊥) → is_start s (Some z) ≡ false
start_off s z other =
    by_lt_z s z
    (λ lt. ap (λ b. not b && not (int_lt z s)) (int_lt_yes s z lt))
    (λ ge. by_lt_z z s
    (λ lt. ap (λ b. not (int_lt s z) && not b) (int_lt_yes z s lt) ∙ off (int_lt s z))
    (λ le. absurd (other (omega (arith, ints)))))
  where
    off : (b : Bool) → (not b && false) ≡ false
    off true = refl
    off false = refl

pub start_is : (s : ℤ) (o : Option ℤ) → is_start s o ≡ true → o ≡ Some s
start_is s None is = absurd (cc)
start_is s (Some z) is =
    by_lt_z s z
    (λ lt. let off = start_off s z (λ same. omega (arith, ints)) in absurd (cc))
    (λ ge. by_lt_z z s
    (λ lt. let off = start_off s z (λ same. omega (arith, ints)) in absurd (cc))
    (λ le. ap Some (let same : z ≡ s = omega (arith, ints) in same)))

pub start_unless : (s : ℤ) (o : Option ℤ) → (o ≡ Some s → ⊥) → is_start s o ≡ false
start_unless s None other = refl
start_unless s (Some z) other = start_off s z (λ same. other (ap Some (sym same)))

-- of some elements those that belong to a start
module _ (h : Element → Option ℤ) where
  abbrev of_start : List Element → ℤ → List Element
  of_start es s = filter (λ e. is_start s (h e)) es

  pub kept_more : (s : ℤ) (es : List Element) (e : Element) → h e ≡ Some s → of_start (es ++ e ∷ []) s ≡ of_start es s ++ e ∷ []
  kept_more s es e is =
      filter-append (λ e. is_start s (h e)) es (e ∷ [])
      ∙ ap (λ b. of_start es s ++ cond b (e ∷ []) []) (ap (is_start s) is ∙ start_same s)

  pub kept_less : (s : ℤ) (es : List Element) (e : Element) → (h e ≡ Some s → ⊥) → of_start (es ++ e ∷ []) s ≡ of_start es s
  kept_less s es e other =
      filter-append (λ e. is_start s (h e)) es (e ∷ [])
      ∙ ap (λ b. of_start es s ++ cond b (e ∷ []) []) (start_unless s (h e) other)
      ∙ append-nil (of_start es s)

  pub kept_none : (s : ℤ) (es : List Element) → Each (λ e. h e ≡ Some s → ⊥) es → of_start es s ≡ []
  kept_none s [] others = refl
  kept_none s (e ∷ es) others =
      ap (λ b. cond b (e ∷ of_start es s) (of_start es s)) (start_unless s (h e) others.0) ∙ kept_none s es others.1

  -- a filter that keeps those elements
  pub kept_within : (s : ℤ) (q : Element → Bool) (es : List Element) → Each (λ e. h e ≡ Some s → q e ≡ true) es
      → of_start (filter q es) s ≡ of_start es s
  kept_within s q [] keeps = refl
  kept_within s q (e ∷ es) keeps = by (q e) refl (is_start s (h e)) refl (kept_within s q es keeps.1)
    where
      by : (b : Bool) → q e ≡ b → (d : Bool) → is_start s (h e) ≡ d → of_start (filter q es) s ≡ of_start es s
          → of_start (cond b (e ∷ filter q es) (filter q es)) s ≡ cond (is_start s (h e)) (e ∷ of_start es s) (of_start es s)
      by true kept d is same = ap (λ l. cond (is_start s (h e)) (e ∷ l) l) same
      by false kept true is same = let yes_ = keeps.0 (start_is s (h e) is) in absurd (cc)
      by false kept false is same = same ∙ sym (ap (λ b. cond b (e ∷ of_start es s) (of_start es s)) is)

  -- a group before others, if it has elements
  abbrev before : ℤ → List Element → List Group → List Group
  before s es gs = cond (nat_lt 0 (length es)) ((s, es) ∷ gs) gs

  -- the groups of some starts that have elements, and those of them that start before one
  abbrev groups : List ℤ → List Element → List Group
  groups ss es = filter (λ g. nat_lt 0 (length g.1)) (map (λ s. (s, of_start es s)) ss)

  abbrev earlier : List ℤ → ℤ → List Element → List Group
  earlier ss s es = filter (λ g. int_lt g.0 s) (groups ss es)

  front_earlier : (s z : ℤ) (es : List Element) (gs : List Group)
      → filter (λ g. int_lt g.0 s) (before z es gs) ≡ cond (int_lt z s) (before z es (filter (λ g. int_lt g.0 s) gs))
      (filter (λ g. int_lt g.0 s) gs)
  front_earlier s z es gs = by (nat_lt 0 (length es)) (int_lt z s) refl
    where
      by : (b c : Bool) → int_lt z s ≡ c
          → filter (λ g. int_lt g.0 s) (cond b ((z, es) ∷ gs) gs) ≡ cond (int_lt z s)
          (cond b ((z, es) ∷ filter (λ g. int_lt g.0 s) gs) (filter (λ g. int_lt g.0 s) gs)) (filter (λ g. int_lt g.0 s) gs)
      by true c is = refl
      by false true is = sym (ap (λ b. cond b (filter (λ g. int_lt g.0 s) gs) (filter (λ g. int_lt g.0 s) gs)) is)
      by false false is = sym (ap (λ b. cond b (filter (λ g. int_lt g.0 s) gs) (filter (λ g. int_lt g.0 s) gs)) is)

  earlier_yes : (s z : ℤ) (ss : List ℤ) (es : List Element) → z <ℤ s → earlier (z ∷ ss) s es ≡ before z (of_start es z) (earlier ss s es)
  earlier_yes s z ss es lt = front_earlier s z (of_start es z) (groups ss es)
      ∙ ap (λ b. cond b (before z (of_start es z) (earlier ss s es)) (earlier ss s es)) (int_lt_yes z s lt)

  earlier_no : (s z : ℤ) (ss : List ℤ) (es : List Element) → s ≤ℤ z → earlier (z ∷ ss) s es ≡ earlier ss s es
  earlier_no s z ss es ge = front_earlier s z (of_start es z) (groups ss es)
      ∙ ap (λ b. cond b (before z (of_start es z) (earlier ss s es)) (earlier ss s es)) (int_lt_no z s ge)

  pub groups_same : (ss : List ℤ) (es fs : List Element) → Each (λ s. of_start es s ≡ of_start fs s) ss → groups ss es ≡ groups ss fs
  groups_same [] es fs same = refl
  groups_same (s ∷ ss) es fs same =
      ap (λ l. before s l (groups ss es)) same.0 ∙ ap (before s (of_start fs s)) (groups_same ss es fs same.1)

  -- none has elements
  pub groups_none : (ss : List ℤ) (es : List Element) → Each (λ s. of_start es s ≡ []) ss → groups ss es ≡ []
  groups_none [] es none = refl
  groups_none (s ∷ ss) es none = ap (λ l. before s l (groups ss es)) none.0 ∙ groups_none ss es none.1

  pub groups_empty : (ss : List ℤ) → groups ss [] ≡ []
  groups_empty [] = refl
  groups_empty (s ∷ ss) = groups_empty ss

  -- an element of the open group changes none of the closed ones
  pub earlier_same : (s : ℤ) (e : Element) → h e ≡ Some s → (ss : List ℤ) (es : List Element)
      → earlier ss s (es ++ e ∷ []) ≡ earlier ss s es
  earlier_same s e is [] es = refl
  earlier_same s e is (z ∷ ss) es = by_lt_z z s (less (earlier_same s e is ss es)) (more (earlier_same s e is ss es))
    where
      some_is : {a b : ℤ} → Some a ≡ Some b → a ≡ b
      some_is same = cc

      other : z <ℤ s → h e ≡ Some z → ⊥
      other lt own = let same : s ≡ z = some_is (sym is ∙ own) in omega (arith, ints, lt, same)

      less : earlier ss s (es ++ e ∷ []) ≡ earlier ss s es → z <ℤ s → earlier (z ∷ ss) s (es ++ e ∷ []) ≡ earlier (z ∷ ss) s es
      less rest lt =
          earlier_yes s z ss (es ++ e ∷ []) lt
          ∙ ap (λ (l : List Element). before z l (earlier ss s (es ++ e ∷ []))) (kept_less z es e (other lt))
          ∙ ap (before z (of_start es z)) rest ∙ sym (earlier_yes s z ss es lt)

      more : earlier ss s (es ++ e ∷ []) ≡ earlier ss s es → s ≤ℤ z → earlier (z ∷ ss) s (es ++ e ∷ []) ≡ earlier (z ∷ ss) s es
      more rest ge = earlier_no s z ss (es ++ e ∷ []) ge ∙ rest ∙ sym (earlier_no s z ss es ge)

  -- where all elements belong to earlier starts, all groups are earlier
  pub earlier_all : (s : ℤ) (es : List Element) → ((z : ℤ) → s ≤ℤ z → of_start es z ≡ []) → (ss : List ℤ) → earlier ss s es ≡ groups ss es
  earlier_all s es none [] = refl
  earlier_all s es none (z ∷ ss) =
      let rest = earlier_all s es none ss in
      by_lt_z z s
      (λ lt. earlier_yes s z ss es lt ∙ ap (before z (of_start es z)) rest)
      (λ ge. earlier_no s z ss es ge ∙ rest ∙ sym (ap (λ l. before z l (groups ss es)) (none z ge)))

  -- the open group stands behind those that are closed
  pub earlier_last : (s : ℤ) (es : List Element) → 1 ≤ length (of_start es s) → ((z : ℤ) → s <ℤ z → of_start es z ≡ []) → (ss : List ℤ)
      → AreRising ss → IsOneOf s ss
      → groups ss es ≡ earlier ss s es ++ (s, of_start es s) ∷ []
  earlier_last s es some none [] rising one = absurd one
  earlier_last s es some none (z ∷ ss) rising (inl same) =
      let rest : groups ss es ≡ [] = groups_none ss es (each_none ss (subst (λ (y : ℤ). Each (λ z. y <ℤ z) ss) same rising.0)) in
      let closed : earlier (z ∷ ss) s es ≡ [] = earlier_no s z ss es (omega (arith, ints, same)) ∙ ap (filter (λ g. int_lt g.0 s)) rest in
      ap (λ (y : ℤ). before y (of_start es y) (groups ss es)) same ∙ ap (before s (of_start es s)) rest ∙ filled (of_start es s) some
      ∙ sym (ap (λ (l : List Group). l ++ (s, of_start es s) ∷ []) closed)
    where
      each_none : (ss : List ℤ) → Each (λ z. s <ℤ z) ss → Each (λ z. of_start es z ≡ []) ss
      each_none [] above = tt
      each_none (z ∷ ss) above = (none z above.0, each_none ss above.1)

      filled : (l : List Element) → 1 ≤ length l → before s l [] ≡ (s, l) ∷ []
      filled [] few = absurd (omega (arith, few))
      filled (e ∷ l) few = ap (λ b. cond b ((s, e ∷ l) ∷ []) []) (lt-ltb 0 (length (e ∷ l)) few)
  earlier_last s es some none (z ∷ ss) rising (inr later) =
      let lt : z <ℤ s = one_above z ss rising.0 later in
      ap (before z (of_start es z)) (earlier_last s es some none ss rising.1 later)
      ∙ put (nat_lt 0 (length (of_start es z)))
      ∙ sym (ap (λ (l : List Group). l ++ (s, of_start es s) ∷ []) (earlier_yes s z ss es lt))
    where
      one_above : (y : ℤ) (ss : List ℤ) → Each (λ z. y <ℤ z) ss → IsOneOf s ss → y <ℤ s
      one_above y [] above one = absurd one
      one_above y (x ∷ ss) above (inl same) = subst (λ (x : ℤ). y <ℤ x) same above.0
      one_above y (x ∷ ss) above (inr one) = one_above y ss above.1 one

      put : (b : Bool) → cond b ((z, of_start es z) ∷ (earlier ss s es ++ (s, of_start es s) ∷ []))
          (earlier ss s es ++ (s, of_start es s) ∷ [])
          ≡ cond b ((z, of_start es z) ∷ earlier ss s es) (earlier ss s es) ++ (s, of_start es s) ∷ []
      put true = refl
      put false = refl
