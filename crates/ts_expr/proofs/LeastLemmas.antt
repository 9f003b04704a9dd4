-- The least and the greatest of values.
use Rattle.std.proofs.Common.{◌≡◌, zero, suc, ◌<◌, Bool, true, false, cond, List, [], ◌∷◌, ◌++◌, length, fold, All, refl, sym, ◌∙◌, arith, inl, inr}
use Rattle.std.specs.Prelude.{◌⊎◌, Contains}
use Rattle.std.specs.Cmp.{IsTotalOrder}
use Rattle.std.specs.Cmp.Lexicographic.{slice_cmp}
use Rattle.std.specs.Ordering.{is_lt, is_gt, nat_cmp, int_cmp, ordering_reverse}
use Rattle.std.specs.declared.cmp.Ordering.{Ordering}
use Rattle.std.specs.declared.cmp.Ordering.TheVariants.{Less, Equal, Greater}
use Rattle.std.proofs.lemmas.Bool.{cases_Bool}
use Rattle.std.proofs.lemmas.Cmp.{upto, int_cmp_total, nat_list_cmp_total}
use Rattle.std.proofs.lemmas.List.Elements.{All-nil, All-cons, All-head, All-tail, All-contains}
use Rattle.ts_row.specs.declared.value.Value.{Value}
use Rattle.ts_row.specs.declared.value.Value.TheVariants.{Null, Number, Text}
use Rattle.ts_expr.specs.declared.function.Function.{Function}
use Rattle.ts_expr.specs.declared.function.Function.TheVariants.{Sum, Avg, Count, Min, Max, First, Last}
use Rattle.ts_expr.specs.Aggregates.{is_null, value_cmp, lesser, greater, earlier, later, made}
use Rattle.ts_expr.specs.Laws.{is_number, is_text, AreAlike, IsLeast, IsGreatest}

-- `before a b` orders the values of one kind, and `pick kept v` is v where it is before the one kept
record IsPick (of_kind : Value → Bool) (before : Value → Value → Bool) (pick : Value → Value → Value) : Type 0 where
  through : (a b c : Value) → of_kind a ≡ true → of_kind b ≡ true → of_kind c ≡ true → before b a ≡ false → before c b ≡ false →
      before c a ≡ false
  one_way : (a b : Value) → of_kind a ≡ true → of_kind b ≡ true → before a b ≡ true → before b a ≡ false
  picks : (kept v : Value) → of_kind kept ≡ true → pick kept v ≡ cond (before v kept) v kept

-- one of the values, and none is before it
record IsBest (before : Value → Value → Bool) (values : List Value) (best : Value) : Type 0 where
  among : Contains values best
  first : All (λ v. before v best ≡ false) values

itself : (of_kind : Value → Bool) (before : Value → Value → Bool) (pick : Value → Value → Value) → IsPick of_kind before pick →
    (a : Value) → of_kind a ≡ true → before a a ≡ false
itself of_kind before pick is a kind = elim (cases_Bool (before a a)) [
  | inl t ↦ is.one_way a a kind kind t
  | inr f ↦ f
]

-- among one more value
among_front : (v : Value) (values : List Value) → Contains (v ∷ values) v
among_front v values = (0, omega arith, refl)

among_skip : (kept v best : Value) (values : List Value) → Contains (kept ∷ values) best → Contains (kept ∷ v ∷ values) best
among_skip kept v best values (zero, lt, e) = (0, omega arith, e)
among_skip kept v best values (suc k, lt, e) = (suc (suc k), omega (arith, lt), e)

among_rest : (v best : Value) (values : List Value) → Contains values best → Contains (v ∷ values) best
among_rest v best values (k, lt, e) = (suc k, omega (arith, lt), e)

best_of : (of_kind : Value → Bool) (before : Value → Value → Bool) (pick : Value → Value → Value) → IsPick of_kind before pick →
    (kept : Value) (values : List Value) → of_kind kept ≡ true → All (λ v. of_kind v ≡ true) values →
    IsBest before (kept ∷ values) (fold pick kept values)
best_of of_kind before pick is kept [] kind kinds = record {
  among = among_front kept [];
  first = All-cons (λ v. before v kept ≡ false) kept [] (itself of_kind before pick is kept kind) (All-nil (λ v. before v kept ≡ false));
}
best_of of_kind before pick is kept (v ∷ values) kind kinds = elim (cases_Bool (before v kept)) [
  | inl t ↦
      let best : IsBest before (v ∷ values) (fold pick v values) = best_of of_kind before pick is v values own others in
      let best_kind : of_kind (fold pick v values) ≡ true =
      All-contains (λ w. of_kind w ≡ true) (v ∷ values) (fold pick v values) kinds best.among in
      let of_kept : before kept (fold pick v values) ≡ false =
      is.through (fold pick v values) v kept best_kind own kind (All-head (λ w. before w (fold pick v values) ≡ false) v values best.first)
      (is.one_way v kept own kind t) in
      rw (is.picks kept v kind, t) (record {
        among = among_rest kept (fold pick v values) (v ∷ values) best.among;
        first = All-cons (λ w. before w (fold pick v values) ≡ false) kept (v ∷ values) of_kept best.first;
      })
  | inr f ↦
      let best : IsBest before (kept ∷ values) (fold pick kept values) = best_of of_kind before pick is kept values kind others in
      let best_kind : of_kind (fold pick kept values) ≡ true =
      All-contains (λ w. of_kind w ≡ true) (kept ∷ values) (fold pick kept values)
      (All-cons (λ w. of_kind w ≡ true) kept values kind others) best.among in
      let of_kept : before kept (fold pick kept values) ≡ false =
      All-head (λ w. before w (fold pick kept values) ≡ false) kept values best.first in
      let of_v : before v (fold pick kept values) ≡ false = is.through (fold pick kept values) kept v best_kind kind own of_kept f in
      let rest : All (λ w. before w (fold pick kept values) ≡ false) (v ∷ values) =
      All-cons (λ w. before w (fold pick kept values) ≡ false) v values of_v
      (All-tail (λ w. before w (fold pick kept values) ≡ false) kept values best.first) in
      rw (is.picks kept v kind, f) (record {
        among = among_skip kept v (fold pick kept values) values best.among;
        first = All-cons (λ w. before w (fold pick kept values) ≡ false) kept (v ∷ values) of_kept rest;
      })
] where
  own : of_kind v ≡ true
  own = All-head (λ w. of_kind w ≡ true) v values kinds

  others : All (λ w. of_kind w ≡ true) values
  others = All-tail (λ w. of_kind w ≡ true) v values kinds

-- which side of another a value is on

back : {K : Type 0} (R : K → K → Ordering) → IsTotalOrder R → (x y : K) → is_lt (R y x) ≡ is_gt (R x y)
back R total x y = by_case (R x y) (R y x) (total.antisymm y x) where
  by_case : (o p : Ordering) → p ≡ ordering_reverse o → is_lt p ≡ is_gt o
  by_case Less p e = rw e refl
  by_case Equal p e = rw e refl
  by_case Greater p e = rw e refl

one_sided : (o : Ordering) → is_gt o ≡ true → is_lt o ≡ false
one_sided Less e = absurd (cc)
one_sided Equal e = refl
one_sided Greater e = refl

no_less_through : {K : Type 0} (R : K → K → Ordering) → IsTotalOrder R → (a b c : K) → is_lt (R b a) ≡ false → is_lt (R c b) ≡ false →
    is_lt (R c a) ≡ false
no_less_through R total a b c f g = back R total a c ∙ upto total a b c (sym (back R total a b) ∙ f) (sym (back R total b c) ∙ g)

less_one_way : {K : Type 0} (R : K → K → Ordering) → IsTotalOrder R → (a b : K) → is_lt (R a b) ≡ true → is_lt (R b a) ≡ false
less_one_way R total a b t = one_sided (R b a) (sym (back R total b a) ∙ t)

no_greater_through : {K : Type 0} (R : K → K → Ordering) → IsTotalOrder R → (a b c : K) → is_gt (R b a) ≡ false → is_gt (R c b) ≡ false →
    is_gt (R c a) ≡ false
no_greater_through R total a b c f g = upto total c b a g f

greater_one_way : {K : Type 0} (R : K → K → Ordering) → IsTotalOrder R → (a b : K) → is_gt (R a b) ≡ true → is_gt (R b a) ≡ false
greater_one_way R total a b t = by_case (R a b) (R b a) (total.antisymm b a) t where
  by_case : (o p : Ordering) → p ≡ ordering_reverse o → is_gt o ≡ true → is_gt p ≡ false
  by_case Less p e t = absurd (cc)
  by_case Equal p e t = absurd (cc)
  by_case Greater p e t = rw e refl

-- numbers, and texts

least_number : IsPick is_number (λ v kept. is_lt (value_cmp v kept)) lesser
least_number = record { through = through; one_way = one_way; picks = picks } where
  through : (a b c : Value) → is_number a ≡ true → is_number b ≡ true → is_number c ≡ true → is_lt (value_cmp b a) ≡ false →
      is_lt (value_cmp c b) ≡ false → is_lt (value_cmp c a) ≡ false
  through (Number a) (Number b) (Number c) _ _ _ f g = no_less_through int_cmp int_cmp_total a b c f g
  through a b c is is' is'' f g = absurd (cc)

  one_way : (a b : Value) → is_number a ≡ true → is_number b ≡ true → is_lt (value_cmp a b) ≡ true → is_lt (value_cmp b a) ≡ false
  one_way (Number a) (Number b) _ _ t = less_one_way int_cmp int_cmp_total a b t
  one_way a b is is' t = absurd (cc)

  picks : (kept v : Value) → is_number kept ≡ true → lesser kept v ≡ cond (is_lt (value_cmp v kept)) v kept
  picks (Number kept) v _ = refl
  picks kept v is = absurd (cc)

greatest_number : IsPick is_number (λ v kept. is_gt (value_cmp v kept)) greater
greatest_number = record { through = through; one_way = one_way; picks = picks } where
  through : (a b c : Value) → is_number a ≡ true → is_number b ≡ true → is_number c ≡ true → is_gt (value_cmp b a) ≡ false →
      is_gt (value_cmp c b) ≡ false → is_gt (value_cmp c a) ≡ false
  through (Number a) (Number b) (Number c) _ _ _ f g = no_greater_through int_cmp int_cmp_total a b c f g
  through a b c is is' is'' f g = absurd (cc)

  one_way : (a b : Value) → is_number a ≡ true → is_number b ≡ true → is_gt (value_cmp a b) ≡ true → is_gt (value_cmp b a) ≡ false
  one_way (Number a) (Number b) _ _ t = greater_one_way int_cmp int_cmp_total a b t
  one_way a b is is' t = absurd (cc)

  picks : (kept v : Value) → is_number kept ≡ true → greater kept v ≡ cond (is_gt (value_cmp v kept)) v kept
  picks (Number kept) v _ = refl
  picks kept v is = absurd (cc)

least_text : IsPick is_text (λ v kept. is_lt (value_cmp v kept)) lesser
least_text = record { through = through; one_way = one_way; picks = picks } where
  through : (a b c : Value) → is_text a ≡ true → is_text b ≡ true → is_text c ≡ true → is_lt (value_cmp b a) ≡ false →
      is_lt (value_cmp c b) ≡ false → is_lt (value_cmp c a) ≡ false
  through (Text a) (Text b) (Text c) _ _ _ f g = no_less_through (slice_cmp nat_cmp) nat_list_cmp_total a b c f g
  through a b c is is' is'' f g = absurd (cc)

  one_way : (a b : Value) → is_text a ≡ true → is_text b ≡ true → is_lt (value_cmp a b) ≡ true → is_lt (value_cmp b a) ≡ false
  one_way (Text a) (Text b) _ _ t = less_one_way (slice_cmp nat_cmp) nat_list_cmp_total a b t
  one_way a b is is' t = absurd (cc)

  picks : (kept v : Value) → is_text kept ≡ true → lesser kept v ≡ cond (is_lt (value_cmp v kept)) v kept
  picks (Text kept) v _ = refl
  picks kept v is = absurd (cc)

greatest_text : IsPick is_text (λ v kept. is_gt (value_cmp v kept)) greater
greatest_text = record { through = through; one_way = one_way; picks = picks } where
  through : (a b c : Value) → is_text a ≡ true → is_text b ≡ true → is_text c ≡ true → is_gt (value_cmp b a) ≡ false →
      is_gt (value_cmp c b) ≡ false → is_gt (value_cmp c a) ≡ false
  through (Text a) (Text b) (Text c) _ _ _ f g = no_greater_through (slice_cmp nat_cmp) nat_list_cmp_total a b c f g
  through a b c is is' is'' f g = absurd (cc)

  one_way : (a b : Value) → is_text a ≡ true → is_text b ≡ true → is_gt (value_cmp a b) ≡ true → is_gt (value_cmp b a) ≡ false
  one_way (Text a) (Text b) _ _ t = greater_one_way (slice_cmp nat_cmp) nat_list_cmp_total a b t
  one_way a b is is' t = absurd (cc)

  picks : (kept v : Value) → is_text kept ≡ true → greater kept v ≡ cond (is_gt (value_cmp v kept)) v kept
  picks (Text kept) v _ = refl
  picks kept v is = absurd (cc)

pub least : (values : List Value) → 0 < length values → AreAlike values → IsLeast values (made Min values)
least [] some alike = absurd (omega (arith, some))
least (v ∷ values) some (inl numbers) =
    let best : IsBest (λ w kept. is_lt (value_cmp w kept)) (v ∷ values) (fold lesser v values) =
    best_of is_number (λ w kept. is_lt (value_cmp w kept)) lesser least_number v values
    (All-head (λ w. is_number w ≡ true) v values numbers) (All-tail (λ w. is_number w ≡ true) v values numbers) in
    record { among = best.among; no_less = best.first }
least (v ∷ values) some (inr texts) =
    let best : IsBest (λ w kept. is_lt (value_cmp w kept)) (v ∷ values) (fold lesser v values) =
    best_of is_text (λ w kept. is_lt (value_cmp w kept)) lesser least_text v values (All-head (λ w. is_text w ≡ true) v values texts)
    (All-tail (λ w. is_text w ≡ true) v values texts) in
    record { among = best.among; no_less = best.first }

pub greatest : (values : List Value) → 0 < length values → AreAlike values → IsGreatest values (made Max values)
greatest [] some alike = absurd (omega (arith, some))
greatest (v ∷ values) some (inl numbers) =
    let best : IsBest (λ w kept. is_gt (value_cmp w kept)) (v ∷ values) (fold greater v values) =
    best_of is_number (λ w kept. is_gt (value_cmp w kept)) greater greatest_number v values
    (All-head (λ w. is_number w ≡ true) v values numbers) (All-tail (λ w. is_number w ≡ true) v values numbers) in
    record { among = best.among; no_greater = best.first }
greatest (v ∷ values) some (inr texts) =
    let best : IsBest (λ w kept. is_gt (value_cmp w kept)) (v ∷ values) (fold greater v values) =
    best_of is_text (λ w kept. is_gt (value_cmp w kept)) greater greatest_text v values (All-head (λ w. is_text w ≡ true) v values texts)
    (All-tail (λ w. is_text w ≡ true) v values texts) in
    record { among = best.among; no_greater = best.first }

-- the values at the ends

earliest : (v : Value) (values : List Value) → is_null v ≡ false → fold earlier v values ≡ v
earliest v [] is = refl
earliest Null (w ∷ values) is = absurd (cc)
earliest (Number z) (w ∷ values) is = earliest (Number z) values is
earliest (Text text) (w ∷ values) is = earliest (Text text) values is

pub first : (v : Value) (values : List Value) → is_null v ≡ false → made First (v ∷ values) ≡ v
first v values is = earliest v values is

latest : (kept : Value) (values : List Value) (v : Value) → fold later kept (values ++ v ∷ []) ≡ v
latest kept [] v = refl
latest kept (w ∷ values) v = latest w values v

pub last : (values : List Value) (v : Value) → made Last (values ++ v ∷ []) ≡ v
last values v = latest Null values v

pub none : (function : Function) → (made function [] ≡ Null) ⊎ (function ≡ Count)
none Sum = inl refl
none Avg = inl refl
none Count = inr refl
none Min = inl refl
none Max = inl refl
none First = inl refl
none Last = inl refl
