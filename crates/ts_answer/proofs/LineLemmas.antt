-- The last lines of replies: `ok` of those that are no refusals.
use Rattle.std.proofs.Common.{◌≡◌, ◌⊎◌, inl, inr, ⊎_elim, ℕ, zero, suc, ◌+◌, ◌/◌, ◌%◌, ◌==◌, ◌&&◌, not, nat_eq, nat_lt, ℤ, pos, int_lt, unsigned_abs, Bool, true, false, cond, List, [], ◌∷◌, ◌++◌, length, codes, refl, sym, ◌∙◌, ap, subst, arith, append_assoc}
use Rattle.std.specs.List.{flat_map, starts_with}
use Rattle.std.specs.Fmt.{digits, digits_onto, digit_glyph, decimal}
use Rattle.std.proofs.lemmas.Bool.{ne_eqb}
use Rattle.std.proofs.lemmas.List.{append-nil}
use Rattle.ts_base.specs.Moment.{Civil, stamp_text, text_of}
use Rattle.ts_base.specs.declared.refusal.Refusal.{Refusal}
use Rattle.ts_base.specs.declared.refusal.Refusal.TheVariants as refusals
use Rattle.ts_row.specs.declared.kind.Column.{Column}
use Rattle.ts_row.specs.Row.{Element, Row, number_text, quoted}
use Rattle.ts_answer.specs.Reply.{ok_line, count_line, counts_line, number_line, stamp_line, refusal_line, stamp_row, stamps_text, element_line, elements_text, entry_line, entries_text, shape_word, series_line, series_text, scaled_text, folded_line, folded_text, series_folded_line, series_folded_text}
use Rattle.ts_answer.specs.Outcomes.{last_line_from, last_line, ends_with_ok}

-- no line feed stands in a text
abbrev Plain : List ℕ → Type 0
Plain [] = Unit {0}
Plain (b ∷ bs) = (b ≡ 10 → ⊥) × Plain bs

-- a text ends with a line feed
pub record IsEnded (text : List ℕ) : Type 0 where
  pub more : List ℕ
  pub is : text ≡ more ++ 10 ∷ []

abbrev IsBegun : List ℕ → Type 0
IsBegun front = (front ≡ []) ⊎ IsEnded front

-- the last line begins with `ok`
pub record EndsOk (text : List ℕ) : Type 0 where
  pub yes : ends_with_ok text ≡ true

plain-append : (xs ys : List ℕ) → Plain xs → Plain ys → Plain (xs ++ ys)
plain-append [] ys p q = q
plain-append (x ∷ xs) ys p q = (p.0, plain-append xs ys p.1 q)

pick : (t : Bool) (xs ys : List ℕ) → Plain xs → Plain ys → Plain (cond t xs ys)
pick true xs ys p q = p
pick false xs ys p q = q

-- digits are no line feeds
digit-plain : (n : ℕ) → 48 + n % 10 ≡ 10 → ⊥
digit-plain n e = omega (arith, e)

either-glyph : (t : Bool) (d : ℕ) → cond t (48 + d) (87 + d) ≡ 10 → ⊥
either-glyph true d e = omega (arith, e)
either-glyph false d e = omega (arith, e)

glyph-plain : (n : ℕ) → digit_glyph false (n % 10) ≡ 10 → ⊥
glyph-plain n e = either-glyph (nat_lt (n % 10) 10) (n % 10) e

onto-plain : (k n : ℕ) (acc : List ℕ) → Plain acc → Plain (digits_onto k 10 false n acc)
onto-plain zero n acc p = p
onto-plain (suc k) n acc p =
    pick (n / 10 == 0) (digit_glyph false (n % 10) ∷ acc) (digits_onto k 10 false (n / 10) (digit_glyph false (n % 10) ∷ acc))
    (glyph-plain n, p)
    (onto-plain k (n / 10) (digit_glyph false (n % 10) ∷ acc) (glyph-plain n, p))

decimal-plain : (n : ℕ) → Plain (decimal n)
unfolding digits
decimal-plain n = onto-plain 64 n [] tt

number-plain : (z : ℤ) → Plain (number_text 0 z)
number-plain z =
    plain-append (cond (int_lt z (pos 0)) (45 ∷ []) []) (decimal (unsigned_abs z / 1) ++ [])
    (pick (int_lt z (pos 0)) (45 ∷ []) [] ((λ e. omega (arith, e)), tt) tt)
    (plain-append (decimal (unsigned_abs z / 1)) [] (decimal-plain (unsigned_abs z / 1)) tt)

text-plain : (c : Civil) (clock : ℕ) → Plain (text_of c clock)
text-plain c clock =
    let d = λ (n : ℕ). digit-plain n in
    let dash : 45 ≡ 10 → ⊥ = λ e. omega (arith, e) in
    let space : 32 ≡ 10 → ⊥ = λ e. omega (arith, e) in
    let colon : 58 ≡ 10 → ⊥ = λ e. omega (arith, e) in
    let point : 46 ≡ 10 → ⊥ = λ e. omega (arith, e) in
    (d _, (d _, (d _, (d _, (dash, (d _, (d _, (dash, (d _, (d _, (space, (d _, (d _, (colon, (d _, (d _, (colon, (d _, (d _, (point, (d _, (d _, (d _, (d _, (d _, tt)))))))))))))))))))))))))

stamp-plain : (stamp : ℤ) → Plain (stamp_text stamp)
unfolding stamp_text
stamp-plain stamp = text-plain _ _

-- a line feed at the end begins no line
no_feed : (b : ℕ) (rest line : List ℕ) → (b ≡ 10 → ⊥) → cond ((b == 10) && not (length rest == 0)) rest line ≡ line
no_feed b rest line other = ap (λ (t : Bool). cond (t && not (length rest == 0)) rest line) (ne_eqb b 10 other)

last_kept : (line text : List ℕ) → Plain text → last_line_from line (text ++ 10 ∷ []) ≡ line
last_kept line [] plain = refl
last_kept line (b ∷ text) plain =
    ap (λ (l : List ℕ). last_line_from l (text ++ 10 ∷ [])) (no_feed b (text ++ 10 ∷ []) line plain.0) ∙ last_kept line text plain.1

-- what stands before a line plays no part
last_begun : (line front : List ℕ) (c : ℕ) (tail : List ℕ)
    → last_line_from line (front ++ 10 ∷ c ∷ tail) ≡ last_line_from (c ∷ tail) (c ∷ tail)
last_begun line [] c tail =
    ap (λ (t : Bool). last_line_from (cond (not t) (c ∷ tail) line) (c ∷ tail)) (ne_eqb (suc (length tail)) 0 (λ e. omega (arith, e)))
last_begun line (b ∷ front) c tail =
    last_begun (cond ((b == 10) && not (length (front ++ 10 ∷ c ∷ tail) == 0)) (front ++ 10 ∷ c ∷ tail) line) front c tail

-- a line that begins with `ok`
abbrev ok_with : List ℕ → List ℕ
ok_with rest = 111 ∷ 107 ∷ (rest ++ 10 ∷ [])

last_ok : (rest : List ℕ) → Plain rest → last_line_from (ok_with rest) (ok_with rest) ≡ ok_with rest
last_ok rest plain = last_kept (ok_with rest) (111 ∷ 107 ∷ rest) ((λ e. omega (arith, e)), ((λ e. omega (arith, e)), plain))

last_behind : (front rest : List ℕ) → IsBegun front → Plain rest → last_line (front ++ ok_with rest) ≡ ok_with rest
last_behind front rest begun plain = ⊎_elim
    (λ (none : front ≡ []). subst (λ (f : List ℕ). last_line (f ++ ok_with rest) ≡ ok_with rest) (sym none) (last_ok rest plain))
    (λ (ended : IsEnded front).
    subst (λ (f : List ℕ). last_line (f ++ ok_with rest) ≡ ok_with rest) (sym ended.is)
    (subst (λ (l : List ℕ). last_line l ≡ ok_with rest) (sym (append_assoc ended.more (10 ∷ []) (ok_with rest)))
    (last_begun (ended.more ++ 10 ∷ ok_with rest) ended.more 111 (107 ∷ (rest ++ 10 ∷ [])) ∙ last_ok rest plain)))
    begun

ends : (front rest : List ℕ) → IsBegun front → Plain rest → EndsOk (front ++ ok_with rest)
unfolding ends_with_ok
ends front rest begun plain = record { yes = ap (λ (l : List ℕ). starts_with nat_eq l (codes "ok")) (last_behind front rest begun plain) }

space_before : (text : List ℕ) → Plain text → Plain (32 ∷ text)
space_before text plain = ((λ e. omega (arith, e)), plain)

pub ok-ends : EndsOk ok_line
unfolding ok_line
ok-ends = ends [] [] (inl refl) tt

count-behind : (front : List ℕ) (n : ℕ) → IsBegun front → EndsOk (front ++ count_line n)
unfolding count_line
count-behind front n begun = ends front (32 ∷ decimal n) begun (space_before (decimal n) (decimal-plain n))

pub count-ends : (n : ℕ) → EndsOk (count_line n)
count-ends n = count-behind [] n (inl refl)

pub counts-ends : (n m : ℕ) → EndsOk (counts_line n m)
unfolding counts_line
counts-ends n m =
    ends [] (32 ∷ decimal n ++ 32 ∷ [] ++ decimal m) (inl refl)
    (plain-append (32 ∷ decimal n ++ 32 ∷ []) (decimal m)
    (plain-append (32 ∷ decimal n) (32 ∷ []) (space_before (decimal n) (decimal-plain n)) (space_before [] tt)) (decimal-plain m))

pub number-ends : (n : ℤ) → EndsOk (number_line n)
unfolding number_line
number-ends n = ends [] (32 ∷ number_text 0 n) (inl refl) (space_before (number_text 0 n) (number-plain n))

pub stamp-ends : (stamp : ℤ) → EndsOk (stamp_line stamp)
unfolding stamp_line
stamp-ends stamp = ends [] (32 ∷ stamp_text stamp) (inl refl) (space_before (stamp_text stamp) (stamp-plain stamp))

-- a text in lines of its own, and `ok`
pub above-ends : (text : List ℕ) → EndsOk (text ++ 10 ∷ [] ++ ok_line)
unfolding ok_line
above-ends text = ends (text ++ 10 ∷ []) [] (inr (record { more = text; is = refl })) tt

-- lines, one behind the other
lines-begun : {A : Type 0} (line : A → List ℕ) → ((a : A) → IsEnded (line a)) → (all : List A) → IsBegun (flat_map line all)
lines-begun line ended [] = inl refl
lines-begun line ended (a ∷ all) = ⊎_elim
    (λ (none : flat_map line all ≡ []). inr (record {
      more = (ended a).more;
      is = ap (λ (l : List ℕ). line a ++ l) none ∙ append-nil (line a) ∙ (ended a).is;
    }))
    (λ (some : IsEnded (flat_map line all)). inr (record {
      more = line a ++ some.more;
      is = ap (λ (l : List ℕ). line a ++ l) some.is ∙ sym (append_assoc (line a) some.more (10 ∷ []));
    }))
    (lines-begun line ended all)

stamp_row-ended : (stamp : ℤ) → IsEnded (stamp_row stamp)
stamp_row-ended stamp = record { more = stamp_text stamp; is = refl }

element-ended : (columns : List Column) (e : Element) → IsEnded (element_line columns e)
unfolding element_line
element-ended columns e = record { more = _; is = refl }

entry-ended : (columns : List Column) (e : _) → IsEnded (entry_line columns e)
unfolding entry_line
entry-ended columns e = record { more = _; is = refl }

series_line-ended : (s : List ℕ × Bool × ℕ) → IsEnded (series_line s)
unfolding series_line
series_line-ended s =
    record { more = codes "'" ++ flat_map quoted s.0 ++ codes "' " ++ shape_word s.1 ++ codes " " ++ decimal s.2; is = refl }

folded_line-ended : (scales : List ℕ) (e : Element) → IsEnded (folded_line scales e)
unfolding folded_line
folded_line-ended scales e = record { more = _; is = refl }

series_folded_line-ended : (scales : List ℕ) (s : List ℕ × Row) → IsEnded (series_folded_line scales s)
unfolding series_folded_line
series_folded_line-ended scales s =
    record { more = codes "'" ++ flat_map quoted s.0 ++ codes "' " ++ scaled_text scales s.1.values; is = refl }

pub stamps-end : (stamps : List ℤ) → EndsOk (stamps_text stamps)
unfolding stamps_text
stamps-end stamps = count-behind (flat_map stamp_row stamps) (length stamps) (lines-begun stamp_row stamp_row-ended stamps)

pub elements-end : (columns : List Column) (es : List Element) → EndsOk (elements_text columns es)
unfolding elements_text
elements-end columns es =
    count-behind (flat_map (element_line columns) es) (length es) (lines-begun (element_line columns) (element-ended columns) es)

pub entries-end : (columns : List Column) (es : _) → EndsOk (entries_text columns es)
unfolding entries_text
entries-end columns es =
    count-behind (flat_map (entry_line columns) es) (length es) (lines-begun (entry_line columns) (entry-ended columns) es)

pub series_text-ends : (ss : List (List ℕ × Bool × ℕ)) → EndsOk (series_text ss)
unfolding series_text
series_text-ends ss = count-behind (flat_map series_line ss) (length ss) (lines-begun series_line series_line-ended ss)

pub folded-end : (scales : List ℕ) (es : List Element) → EndsOk (folded_text scales es)
unfolding folded_text
folded-end scales es =
    count-behind (flat_map (folded_line scales) es) (length es) (lines-begun (folded_line scales) (folded_line-ended scales) es)

pub series_folded-end : (scales : List ℕ) (ss : List (List ℕ × Row)) → EndsOk (series_folded_text scales ss)
unfolding series_folded_text
series_folded-end scales ss =
    count-behind (flat_map (series_folded_line scales) ss) (length ss)
    (lines-begun (series_folded_line scales) (series_folded_line-ended scales) ss)

-- the line of a refusal doesn't
pub refusal-not : (refusal : Refusal) → ends_with_ok (refusal_line refusal) ≡ false
unfolding refusal_line digits ends_with_ok
refusal-not (refusals.Syntax place) = refl
refusal-not refusals.TooLong = refl
refusal-not refusals.Unended = refl
refusal-not refusals.UnknownName = refl
refusal-not refusals.NameTaken = refl
refusal-not (refusals.BadRowType column) = refl
refusal-not (refusals.BadPattern place) = refl
refusal-not (refusals.BadCalendar place) = refl
refusal-not refusals.AllOff = refl
refusal-not refusals.UnitMismatch = refl
refusal-not (refusals.PatternTooLong size runs) = refl
refusal-not refusals.NotAligned = refl
refusal-not refusals.OffStamp = refl
refusal-not refusals.BeforeOrigin = refl
refusal-not refusals.PastEnd = refl
refusal-not refusals.Duplicate = refl
refusal-not refusals.Missing = refl
refusal-not refusals.SecondFull = refl
refusal-not (refusals.RowMismatch column) = refl
refusal-not (refusals.ContainerFull charge quota) = refl
refusal-not (refusals.VolumeFull sum pages) = refl
refusal-not refusals.InUse = refl
refusal-not refusals.TooMany = refl
refusal-not (refusals.TooLarge rows) = refl
refusal-not refusals.NotRegular = refl
refusal-not (refusals.BadExpression place) = refl
refusal-not refusals.UnknownColumn = refl
refusal-not refusals.Overflow = refl
refusal-not refusals.OldFormat = refl
refusal-not (refusals.WindowGone newest) = refl
refusal-not refusals.NotOpen = refl
refusal-not refusals.AlreadyOpen = refl
refusal-not refusals.TransactionFull = refl
refusal-not (refusals.Conflict commit) = refl
