-- The least number that passes a test, and row types with one column more.
use Rattle.std.proofs.Common.{◌≡◌, ℕ, zero, suc, ◌+◌, ◌<◌, ◌≤◌, Bool, true, false, not, ◌&&◌, ◌||◌, nat_lt, nat_le, nat_eq, Some, None, List, [], ◌∷◌, ◌++◌, length, take, refl, sym, ap, subst, ◌∙◌, arith, length-append, length-take, max, slice_index_or, if◌then◌else◌, inl, inr}
use Rattle.std.proofs.Math.Nat.{eq-or-lt_of_le}
use Rattle.std.specs.List.{list_all, list_any}
use Rattle.std.specs.Cmp.Lexicographic.{pointwise}
use Rattle.std.proofs.lemmas.Bool.Decides.{nat_tests}
use Rattle.std.proofs.lemmas.List.{map-append, take_more, take_all}
use Rattle.std.proofs.lemmas.List.Folds.{list_any-append, list_all-append}
use Rattle.std.proofs.lemmas.List.Sums.{sum_by-append}
use Rattle.ts_row.specs.declared.kind.Column.{Column}
use Rattle.ts_row.specs.Row.{column_width, is_kind, width_of, names_of, is_repeated, is_among, are_distinct, keep_rules, may_follow, is_row_type, least_from, bad_column}

-- no number passes
pub least_from-none : (first count : ℕ) (test : ℕ → Bool) → ((n : ℕ) → first ≤ n → n < first + count → test n ≡ false) → least_from first count test ≡ None
least_from-none first zero test fails = refl
least_from-none first (suc count) test fails =
    rw (fails first (omega arith) (omega arith)) (least_from-none (first + 1) count test (λ n above below. fails n (omega arith) (omega arith)))

-- the first that passes, which is `more` above the first of all
pub least_from-some : (first count : ℕ) (test : ℕ → Bool) (n more : ℕ) → n ≡ first + more → more < count → ((k : ℕ) → first ≤ k → k < n → test k ≡ false) → test n ≡ true → least_from first count test ≡ Some n
least_from-some first zero test n more is below fails passes = absurd (omega arith)
least_from-some first (suc count) test n zero is below fails passes =
    let same : n ≡ first = omega arith in
    let passes' : test first ≡ true = subst (λ k. test k ≡ true) same passes in
    rw passes' (ap (λ k. Some k) (sym same))
least_from-some first (suc count) test n (suc more) is below fails passes =
    rw (fails first (omega arith) (omega arith))
    (least_from-some (first + 1) count test n more (omega arith) (omega arith) (λ k above less. fails k (omega arith) less) passes)

-- the tests of a list with one name more, put in order
names_pushed : (a p d r : Bool) → (not (a || (p || false)) && (d && not r)) ≡ (not a && d && not (p || r))
names_pushed true p d r = refl
names_pushed false true true r = refl
names_pushed false true false r = refl
names_pushed false false true r = refl
names_pushed false false false r = refl

-- one name more
pub are_distinct-push : (names : List (List ℕ)) (name : List ℕ) → are_distinct (names ++ name ∷ []) ≡ (are_distinct names && not (is_repeated name names))
are_distinct-push [] name = refl
are_distinct-push (first ∷ names) name =
    rw (list_any-append (λ other. pointwise nat_eq first other) names (name ∷ []), are_distinct-push names name)
    (names_pushed (is_among first names) (pointwise nat_eq first name) (are_distinct names) (is_repeated name names))

-- the names of columns, and one that they repeat
pub is_repeated-names : (name : List ℕ) (columns : List Column) → is_repeated name (names_of columns) ≡ list_any (λ c. pointwise nat_eq c.name name) columns
is_repeated-names name [] = refl
is_repeated-names name (c ∷ columns) = ap (λ b. pointwise nat_eq c.name name || b) (is_repeated-names name columns)

-- four tests of a list and the four of its last element, put in order
rules_pushed : (few kinds width names few' kind width' name : Bool) → ((few && few') && (kinds && kind) && (width && width') && (names && name)) ≡ ((few && kinds && width && names) && (few' && kind && width' && name))
rules_pushed true true true true f k w n = refl
rules_pushed false kinds width names f k w n = refl
rules_pushed true false width names true k w n = refl
rules_pushed true false width names false k w n = refl
rules_pushed true true false names true true w n = refl
rules_pushed true true false names true false w n = refl
rules_pushed true true false names false k w n = refl
rules_pushed true true true false true true true n = refl
rules_pushed true true true false true true false n = refl
rules_pushed true true true false true false w n = refl
rules_pushed true true true false false k w n = refl

-- a test and nothing more
and-true : (b : Bool) → (b && true) ≡ b
and-true true = refl
and-true false = refl

-- what is at most a bound with something added was so before
nat_le-add : (a b most : ℕ) → nat_le (a + b) most ≡ (nat_le a most && nat_le (a + b) most)
nat_le-add a b most = grind (arith, nat_tests)

-- the width with one column more
pub width_of-push : (before : List Column) (c : Column) → width_of (before ++ c ∷ []) ≡ width_of before + column_width c.kind
width_of-push before c = omega (arith, sum_by-append (λ (d : Column). column_width d.kind) before (c ∷ []))

-- one column more
pub keep_rules-push : (stamp : List ℕ) (before : List Column) (c : Column) → keep_rules stamp (before ++ c ∷ []) ≡ (keep_rules stamp before && may_follow stamp before c)
keep_rules-push stamp before c =
    let few : nat_le (length (before ++ c ∷ [])) 32 ≡ (nat_le (length before) 32 && nat_lt (length before) 32) =
    rw (length-append before (c ∷ [])) (grind (arith, nat_tests)) in
    let kinds : list_all (λ d. is_kind d.kind) (before ++ c ∷ []) ≡ (list_all (λ d. is_kind d.kind) before && is_kind c.kind) =
    list_all-append (λ d. is_kind d.kind) before (c ∷ []) ∙ ap (λ b. list_all (λ d. is_kind d.kind) before && b) (and-true (is_kind c.kind)) in
    let width : nat_le (width_of (before ++ c ∷ [])) 1000 ≡ (nat_le (width_of before) 1000 && nat_le (width_of before + column_width c.kind) 1000) =
    ap (λ n. nat_le n 1000) (width_of-push before c)
    ∙ nat_le-add (width_of before) (column_width c.kind) 1000 in
    let names : are_distinct (stamp ∷ names_of (before ++ c ∷ [])) ≡ (are_distinct (stamp ∷ names_of before) && not (is_repeated c.name (stamp ∷ names_of before))) =
    ap (λ rest. are_distinct (stamp ∷ rest)) (map-append (λ d. d.name) before (c ∷ [])) ∙ are_distinct-push (stamp ∷ names_of before) c.name in
    rw (few, kinds, width, names)
    (rules_pushed (nat_le (length before) 32) (list_all (λ d. is_kind d.kind) before) (nat_le (width_of before) 1000) (are_distinct (stamp ∷ names_of before))
    (nat_lt (length before) 32) (is_kind c.kind) (nat_le (width_of before + column_width c.kind) 1000) (not (is_repeated c.name (stamp ∷ names_of before))))

-- the columns up to one more
pub taken : (columns : List Column) (i : ℕ) (c : Column) → i < length columns → c ≡ slice_index_or columns i c → take (i + 1) columns ≡ take i columns ++ c ∷ []
taken columns i c below is = take_more columns i c below ∙ ap (λ d. take i columns ++ d ∷ []) (sym is)

-- columns that keep the rules are a row type where there is one at least
first_columns : (stamp : List ℕ) (columns : List Column) (n : ℕ) → 1 ≤ n → 1 ≤ length columns → is_row_type stamp (take n columns) ≡ keep_rules stamp (take n columns)
first_columns stamp columns n above some =
    let more : 1 ≤ length (take n columns) = rw (length-take n columns) (omega arith) in
    let is : nat_le 1 (length (take n columns)) ≡ true = grind (arith, nat_tests) in
    rw is refl

-- the columns up to one more keep the rules exactly where that one may follow
pub keep_rules-more : (stamp : List ℕ) (columns : List Column) (i : ℕ) (c : Column) (b : Bool) → i < length columns → c ≡ slice_index_or columns i c → keep_rules stamp (take i columns) ≡ true → b ≡ may_follow stamp (take i columns) c → keep_rules stamp (take (i + 1) columns) ≡ b
keep_rules-more stamp columns i c b below is kept follows =
    ap (λ cs. keep_rules stamp cs) (taken columns i c below is) ∙ keep_rules-push stamp (take i columns) c ∙ ap (λ k. k && may_follow stamp (take i columns) c) kept ∙ sym follows

-- the width up to one column more
pub width_of-more : (columns : List Column) (i : ℕ) (c : Column) → i < length columns → c ≡ slice_index_or columns i c → width_of (take (i + 1) columns) ≡ width_of (take i columns) + column_width c.kind
width_of-more columns i c below is = ap (λ cs. width_of cs) (taken columns i c below is) ∙ width_of-push (take i columns) c

-- a width of columns that keep the rules
pub width_of-kept : (stamp : List ℕ) (columns : List Column) → keep_rules stamp columns ≡ true → width_of columns ≤ 1000
width_of-kept stamp columns kept = grind (arith, nat_tests)

-- the first column that breaks a rule
pub bad_column-some : (stamp : List ℕ) (columns : List Column) (i : ℕ) → i < length columns → ((k : ℕ) → k < i + 1 → keep_rules stamp (take k columns) ≡ true) → keep_rules stamp (take (i + 1) columns) ≡ false → bad_column stamp columns ≡ Some (i + 1)
bad_column-some stamp columns i below kept broken =
    least_from-some 1 (max 1 (length columns)) (λ n. not (is_row_type stamp (take n columns))) (i + 1) i (omega arith) (omega arith)
    (λ k above less. rw (first_columns stamp columns k above (omega arith), kept k less) refl)
    (rw (first_columns stamp columns (i + 1) (omega arith) (omega arith), broken) refl)

-- no column breaks a rule
pub bad_column-none : (stamp : List ℕ) (columns : List Column) → 1 ≤ length columns → ((k : ℕ) → k < length columns + 1 → keep_rules stamp (take k columns) ≡ true) → bad_column stamp columns ≡ None
bad_column-none stamp columns some kept =
    least_from-none 1 (max 1 (length columns)) (λ n. not (is_row_type stamp (take n columns)))
    (λ k above less. rw (first_columns stamp columns k above some, kept k (omega arith)) refl)

-- a number is the first, or above it
by_order : {P : Type 0} (a b : ℕ) → a ≤ b → (a ≡ b → P) → (a < b → P) → P
by_order a b le same less = elim (eq-or-lt_of_le le) [ inl is ↦ same is | inr below ↦ less below ]

-- no number passes that was tried
least_from-failed : (first count : ℕ) (test : ℕ → Bool) (n : ℕ) → least_from first count test ≡ None → first ≤ n → n < first + count → test n ≡ false
least_from-failed first zero test n none above below = absurd (omega arith)
least_from-failed first (suc count) test n none above below =
    elim (test first) as (λ b. test first ≡ b → (if b then Some first else least_from (first + 1) count test) ≡ None → test n ≡ false) [
      | true ↦ λ passes some. cc
      | false ↦ λ fails later.
          by_order first n above (λ same. subst (λ k. test k ≡ false) same fails) (λ less. least_from-failed (first + 1) count test n later (omega arith) (omega arith))
    ] refl none

-- columns none of which breaks a rule are a row type
pub is_row_type-good : (stamp : List ℕ) (columns : List Column) → bad_column stamp columns ≡ None → is_row_type stamp columns ≡ true
is_row_type-good stamp columns good =
    let most : ℕ = max 1 (length columns) in
    let fails : not (is_row_type stamp (take most columns)) ≡ false =
    least_from-failed 1 most (λ n. not (is_row_type stamp (take n columns))) most good (omega arith) (omega arith) in
    let whole : take most columns ≡ columns = take_all most columns (omega arith) in
    let same : not (is_row_type stamp columns) ≡ false = subst (λ cs. not (is_row_type stamp cs) ≡ false) whole fails in
    grind (arith, nat_tests)

-- the width of a row type
pub width_of-good : (stamp : List ℕ) (columns : List Column) → bad_column stamp columns ≡ None → width_of columns ≤ 1000
width_of-good stamp columns good =
    let is : is_row_type stamp columns ≡ true = is_row_type-good stamp columns good in
    grind (arith, nat_tests)

-- for `grind`
pub ruleset kept = (width_of-kept)

pub ruleset names = (is_repeated-names)

pub ruleset good = (is_row_type-good, width_of-good)
