-- A list of expressions is read exactly from its tokens.
use Rattle.std.proofs.Common.{◌≡◌, ◌+◌, ◌≤◌, ℕ, zero, suc, ◌==◌, inl, inr, Bool, true, false, List, [], ◌∷◌, ◌++◌, length, Option, refl, sym, ap, ◌∙◌, arith, subst, Some, None, Ok, Err, nat_le, append_assoc}
use Rattle.std.proofs.lemmas.Bool.{and_parts, cases_Bool}
use Rattle.std.proofs.lemmas.Bool.Decides.{nat_tests}
use Rattle.std.proofs.lemmas.List.{append-nil}
use Rattle.std.specs.List.{prefix_len, list_all}
use Rattle.std.specs.Char.{is_ascii_digit}
use Rattle.ts_base.specs.Name.{begins_word, continues_word, is_blank, is_word, is_name, name_if_any}
use Rattle.ts_base.specs.Moment.{all_digits, number_of}
use Rattle.ts_text.specs.Phrase.{unblanked, magnitude_of, Read, Phrase, go_on, ◌>>=◌, give, a_sign, made, phrases, the_end, ended, outcome, token, name_as, is_sign, plain_front, if_sign, Signs, onward_most, onward, joined_by, sign_or, sign_in}
use Rattle.ts_text.specs.Parted.{IsParted}
use Rattle.ts_text.specs.declared.token.TokenKind.{TokenKind}
use Rattle.ts_text.specs.declared.token.TokenKind.TheVariants.{Word, Number, Text, Sign}
use Rattle.ts_text.proofs.CallerLemmas.{bind-ok, digits_kept, digits-end, end-found, end-read, ends-token, pair-parts, parted-token, sign-found, sign-read, sign_is, stops-word, token-first, token-found, token-read, token_is}
use Rattle.ts_expr.proofs.EndLemmas.{end_is}
use Rattle.ts_text.proofs.CallerLemmas.{by_sign_some, by_sign_none, one_more, onward_none, onward_some, sign_absent, sign_end, sign_other, sign_there, StopsWord}
use Rattle.ts_running.specs.declared.step.Operation.{Operation}
use Rattle.ts_running.specs.declared.step.Operation.TheVariants.{Plus, Less, Times}
use Rattle.ts_running.specs.Grammar.{Column, Digits, Opposite, Joined, is_operator, expr_front, Named, joined, name_in, digits_as, digits_in, leaf_in, times_signs, sum_signs, term_of, sum_of, in_bracket, factor_in, expr_in, further, list_in, written_exprs}
use Rattle.ts_running.specs.Spelling.{Level, Factor, Term, Sum, Tokens, IsWritten, column, digits, minus, brackets, factor, product, term, sum, difference, AreBehindCommas, AreWritten, IsListText}
use Rattle.ts_running.proofs.FrontLemmas.{expr_laws, operator_front, plain_is, word_front, digits_front}
use Rattle.ts_running.proofs.GrammarLemmas.{factor_shrinks, term_shrinks}

-- what was read, and its tokens
record Found (level : Level) (inside : ℕ) (text : List ℕ) (e : Named) (rest : List ℕ) : Type 0 where
  tokens : Tokens
  written : IsWritten level inside e tokens
  parted : (behind : Tokens) → IsParted behind rest → IsParted (tokens ++ behind) text

-- the same with another rest
found_same : (level : Level) (inside : ℕ) (text : List ℕ) (e x : Named) (rest other : List ℕ) → e ≡ x → rest ≡ other → Found level inside text e rest → Found level inside text x other
found_same level inside text e x rest other same_expr same_rest f =
    subst (λ (l : List ℕ). Found level inside text x l) same_rest (subst (λ (y : Named). Found level inside text y rest) same_expr f)

-- names and digits

name_is : (s n : List ℕ) → name_if_any s ≡ Some n → (s ≡ n) × (is_name s ≡ true)
name_is s n h = elim (cases_Bool (is_name s)) [
  | inl good ↦ let there = rw good at h in let same : s ≡ n = cc in (same, good)
  | inr bad ↦ absurd (let none = rw bad at h in cc)
]

name_accepted : (kind : TokenKind) (text n : List ℕ) → name_as kind text ≡ Some n → (text ≡ n) × (is_name text ≡ true)
name_accepted Word text n h = name_is text n h
name_accepted Number text n h = absurd (cc)
name_accepted Text text n h = absurd (cc)
name_accepted Sign text n h = absurd (cc)

-- a number that is accepted
record IsNumber (text : List ℕ) (n : ℕ) : Type 0 where
  few : length text ≤ 18
  value : magnitude_of text ≡ n

digits_accepted : (kind : TokenKind) (text : List ℕ) (n : ℕ) → digits_as kind text ≡ Some n → (kind ≡ Number) × IsNumber text n
digits_accepted Number text n h = elim (cases_Bool (nat_le (length text) 18)) [
  | inl good ↦ let there = rw good at h in let same : magnitude_of text ≡ n = cc in (refl, record { few = grind (arith, nat_tests); value = same })
  | inr bad ↦ absurd (let none = rw bad at h in cc)
]
digits_accepted Word text n h = absurd (cc)
digits_accepted Text text n h = absurd (cc)
digits_accepted Sign text n h = absurd (cc)

-- a run of bytes that is all of a token
run_all : (p : ℕ → Bool) (token rest : List ℕ) → prefix_len p (token ++ rest) ≡ length token → list_all p token ≡ true
run_all p [] rest is = refl
run_all p (b ∷ token) rest is = elim (cases_Bool (p b)) [
  | inl t ↦ let at = rw t at is in rw t (run_all p token rest (omega (arith, at)))
  | inr f ↦ absurd (let none = rw f at is in omega (arith, none))
]

-- a number in front is digits
number_digits : (text rest : List ℕ) → expr_front (text ++ rest) ≡ Some (Number, length text) → all_digits text ≡ true
unfolding plain_front
number_digits [] rest is = refl
number_digits (b ∷ text) rest is = elim (cases_Bool (is_operator b)) [
  | inl t ↦ let at = token_is Sign Number 1 (length (b ∷ text)) (sym (operator_front b (text ++ rest) t) ∙ is) in absurd (let none = at.0 in cc)
  | inr f ↦ plain (sym (plain_is b (text ++ rest) f) ∙ is)
] where
  plain : plain_front (b ∷ (text ++ rest)) ≡ Some (Number, length (b ∷ text)) → all_digits (b ∷ text) ≡ true
  plain at = elim (cases_Bool (begins_word b)) [
    | inl t ↦ let there = token_is Word Number (1 + prefix_len continues_word (text ++ rest)) (length (b ∷ text)) (rw t at at) in absurd (let none = there.0 in cc)
    | inr f1 ↦ elim (cases_Bool (is_ascii_digit b)) [
      | inl t ↦
          let there = token_is Number Number (1 + prefix_len is_ascii_digit (text ++ rest)) (length (b ∷ text)) (rw (f1, t) at at) in
          rw t (run_all is_ascii_digit text rest (omega (arith, there.1)))
      | inr f2 ↦ elim (cases_Bool (is_sign b)) [
        | inl t ↦ let there = token_is Sign Number 1 (length (b ∷ text)) (rw (f1, f2, t) at at) in absurd (let none = there.0 in cc)
        | inr f3 ↦ absurd (let none = rw (f1, f2, f3) at at in cc)
      ]
    ]
  ]

digits_some : (text rest : List ℕ) → expr_front (text ++ rest) ≡ Some (Number, length text) → 1 ≤ length text
digits_some text rest is = let some = expr_laws.some (text ++ rest) Number (length text) is in omega (arith, some)

-- a leaf that was read

column_found : (inside : ℕ) (text behind rest : List ℕ) (e : Named) → a_sign 36 text ≡ Ok (tt, behind) → made name_in (λ n. Column n) behind ≡ Ok (e, rest) → Found Factor inside text e rest
unfolding name_in
column_found inside text behind rest e dollar is =
    let first = bind-ok (name_in behind) (λ n. give (Column n)) (e, rest) is in
    let same = pair-parts (Column first.0.0) e first.0.1 rest first.2 in
    let there = token-found expr_front expr_laws name_as behind first.0.1 first.0.0 first.1 in
    let good = name_accepted there.kind there.text first.0.0 there.accepted in
    found_same Factor inside text (Column there.text) e first.0.1 rest (ap (λ (n : List ℕ). Column n) good.0 ∙ same.0) same.1 (record {
      tokens = (36 ∷ []) ∷ there.text ∷ [];
      written = column good.1;
      parted = λ more p. sign-found 36 text behind (there.text ∷ more) dollar (parted-token behind there.text first.0.1 more there.whole p);
    })

digits_found : (inside : ℕ) (text rest : List ℕ) (e : Named) → made digits_in (λ n. Digits n) text ≡ Ok (e, rest) → Found Factor inside text e rest
unfolding digits_in
digits_found inside text rest e is =
    let first = bind-ok (digits_in text) (λ n. give (Digits n)) (e, rest) is in
    let same = pair-parts (Digits first.0.0) e first.0.1 rest first.2 in
    let there = token-found expr_front expr_laws digits_as text first.0.1 first.0.0 first.1 in
    let good = digits_accepted there.kind there.text first.0.0 there.accepted in
    let stands : expr_front (there.text ++ first.0.1) ≡ Some (Number, length there.text) = there.stands ∙ ap (λ (k : TokenKind). Some (k, length there.text)) good.0 in
    let all = number_digits there.text first.0.1 stands in
    let value : number_of there.text ≡ first.0.0 = ap number_of (sym (digits_kept there.text all)) ∙ good.1.value in
    found_same Factor inside text (Digits (number_of there.text)) e first.0.1 rest (ap (λ (n : ℕ). Digits n) value ∙ same.0) same.1 (record {
      tokens = there.text ∷ [];
      written = digits all (digits_some there.text first.0.1 stands) good.1.few;
      parted = λ more p. parted-token text there.text first.0.1 more there.whole p;
    })

leaf_found : (inside : ℕ) (text rest : List ℕ) (e : Named) → leaf_in text ≡ Ok (e, rest) → Found Factor inside text e rest
unfolding leaf_in
leaf_found inside text rest e is = by_read (a_sign 36 text) refl where
  by_read : (read : Read (Unit {0})) → a_sign 36 text ≡ read → Found Factor inside text e rest
  by_read (Ok x) dollar =
      column_found inside text x.1 rest e dollar (sym (sign_there 36 (made name_in (λ n. Column n)) (made digits_in (λ n. Digits n)) text x.1 dollar) ∙ is)
  by_read (Err left) none =
      digits_found inside text rest e (sym (sign_absent 36 (made name_in (λ n. Column n)) (made digits_in (λ n. Digits n)) text left none) ∙ is)

-- expressions with signs between them that were read

-- what stands in front of a sign, and what behind it
signed : (sign : ℕ) (text middle behind rest : List ℕ) (first second : Tokens) → ((more : Tokens) → IsParted more middle → IsParted (first ++ more) text) → a_sign sign middle ≡ Ok (tt, behind) →
    ((more : Tokens) → IsParted more rest → IsParted (second ++ more) behind) → (more : Tokens) → IsParted more rest → IsParted ((first ++ (sign ∷ []) ∷ second) ++ more) text
signed sign text middle behind rest first second one is two more p =
    subst (λ (l : Tokens). IsParted l text) (sym (append_assoc first ((sign ∷ []) ∷ second) more))
    (one ((sign ∷ []) ∷ (second ++ more)) (sign-found sign middle behind (second ++ more) is (two more p)))

module _ (signs : Signs Operation) (phrase : Phrase Named) (high low : Level) (inside : ℕ)
    (one : (text rest : List ℕ) (e : Named) → phrase text ≡ Ok (e, rest) → Found low inside text e rest)
    (first : (text rest : List ℕ) (e : Named) → Found low inside text e rest → Found high inside text e rest)
    (both : (text middle rest : List ℕ) (x : Operation × List ℕ) (a b : Named) → Found high inside text a middle → sign_in signs middle ≡ Some x → Found low inside x.1 b rest → Found high inside text (Joined x.0 a b) rest) where
  most_found : (n : ℕ) (before e : Named) (text middle rest : List ℕ) → Found high inside text before middle → onward_most joined signs phrase n before middle ≡ Ok (e, rest) → Found high inside text e rest
  most_found zero before e text middle rest f is =
      let same = pair-parts {A = Named} {B = List ℕ} before e middle rest is in found_same high inside text before e middle rest same.0 same.1 f
  most_found (suc n) before e text middle rest f is = by_found (λ from at g. most_found n from e text at rest g) (sign_in signs middle) refl where
    by_phrase : ((from : Named) (at : List ℕ) → Found high inside text from at → onward_most joined signs phrase n from at ≡ Ok (e, rest) → Found high inside text e rest) → (x : Operation × List ℕ) → sign_in signs middle ≡ Some x →
        (read : Read Named) → phrase x.1 ≡ read → go_on read (λ next. onward_most joined signs phrase n (Joined x.0 before next)) ≡ Ok (e, rest) → Found high inside text e rest
    by_phrase again x sign (Err left) r at = absurd (cc)
    by_phrase again x sign (Ok y) r at = again (Joined x.0 before y.0) y.1 (both text middle y.1 x before y.0 f sign (one x.1 y.1 y.0 r)) at

    by_found : ((from : Named) (at : List ℕ) → Found high inside text from at → onward_most joined signs phrase n from at ≡ Ok (e, rest) → Found high inside text e rest) → (found : Option (Operation × List ℕ)) →
        sign_in signs middle ≡ found → Found high inside text e rest
    by_found again None none =
        let same = pair-parts {A = Named} {B = List ℕ} before e middle rest (sym (by_sign_none signs (one_more joined signs phrase n before) (give before) middle none) ∙ is) in
        found_same high inside text before e middle rest same.0 same.1 f
    by_found again (Some x) sign = by_phrase again x sign (phrase x.1) refl (sym (by_sign_some signs (one_more joined signs phrase n before) (give before) middle x sign) ∙ is)

  joined_found : (text rest : List ℕ) (e : Named) → joined_by joined signs phrase text ≡ Ok (e, rest) → Found high inside text e rest
  unfolding onward
  joined_found text rest e is =
      let begin = bind-ok (phrase text) (λ e. onward joined signs phrase e) (e, rest) is in
      most_found (length begin.0.1) begin.0.0 e text begin.0.1 rest (first text begin.0.1 begin.0.0 (one text begin.0.1 begin.0.0 begin.1)) begin.2

-- the sign that stands there

times_there : (bytes : List ℕ) (x : Operation × List ℕ) → sign_in times_signs bytes ≡ Some x → (x.0 ≡ Times) × (a_sign 42 bytes ≡ Ok (tt, x.1))
times_there bytes x is = by_read (a_sign 42 bytes) refl where
  by_read : (read : Read (Unit {0})) → a_sign 42 bytes ≡ read → (x.0 ≡ Times) × (a_sign 42 bytes ≡ Ok (tt, x.1))
  by_read (Err left) e = absurd (let none = rw e at is in cc)
  by_read (Ok y) e =
      let at : Some (Times, y.1) ≡ Some x = rw e at is in
      let pair : Operation × List ℕ = (Times, y.1) in
      let same : pair ≡ x = cc in
      (sym (ap (λ (p : Operation × List ℕ). p.0) same), e ∙ ap (λ (p : Operation × List ℕ). Ok (tt, p.1)) same)

-- a sign of a sum, and what it stands for
record IsSum (bytes : List ℕ) (x : Operation × List ℕ) : Type 0 where
  sign : ℕ
  there : a_sign sign bytes ≡ Ok (tt, x.1)
  makes : {inside : ℕ} (a b : Named) (one other : Tokens) → IsWritten Sum inside a one → IsWritten Term inside b other → IsWritten Sum inside (Joined x.0 a b) (one ++ (sign ∷ []) ∷ other)

sum_there : (bytes : List ℕ) (x : Operation × List ℕ) → sign_in sum_signs bytes ≡ Some x → IsSum bytes x
sum_there bytes x is = by_plus (a_sign 43 bytes) refl where
  by_less : (left : ℕ) → a_sign 43 bytes ≡ Err left → (read : Read (Unit {0})) → a_sign 45 bytes ≡ read → IsSum bytes x
  by_less left e (Err left_there) f = absurd (let none = rw (e, f) at is in cc)
  by_less left e (Ok y) f =
      let at : Some (Less, y.1) ≡ Some x = rw (e, f) at is in
      let pair : Operation × List ℕ = (Less, y.1) in
      let same : pair ≡ x = cc in
      subst (λ (p : Operation × List ℕ). IsSum bytes p) same (record { sign = 45; there = f; makes = λ a b one other w v. difference w v })

  by_plus : (read : Read (Unit {0})) → a_sign 43 bytes ≡ read → IsSum bytes x
  by_plus (Err left) e = by_less left e (a_sign 45 bytes) refl
  by_plus (Ok y) e =
      let at : Some (Plus, y.1) ≡ Some x = rw e at is in
      let pair : Operation × List ℕ = (Plus, y.1) in
      let same : pair ≡ x = cc in
      subst (λ (p : Operation × List ℕ). IsSum bytes p) same (record { sign = 43; there = e; makes = λ a b one other w v. sum w v })

module _ (inside : ℕ) (one : (text rest : List ℕ) (e : Named) → factor_in inside text ≡ Ok (e, rest) → Found Factor inside text e rest) where
  term_found : (text rest : List ℕ) (e : Named) → term_of (factor_in inside) text ≡ Ok (e, rest) → Found Term inside text e rest
  unfolding term_of
  term_found = joined_found times_signs (factor_in inside) Term Factor inside one
      (λ text rest e f. record { tokens = f.tokens; written = factor f.written; parted = f.parted }) both where
        both : (text middle rest : List ℕ) (x : Operation × List ℕ) (a b : Named) → Found Term inside text a middle → sign_in times_signs middle ≡ Some x → Found Factor inside x.1 b rest →
            Found Term inside text (Joined x.0 a b) rest
        both text middle rest x a b f is g =
            let there = times_there middle x is in
            subst (λ (operation : Operation). Found Term inside text (Joined operation a b) rest) (sym there.0) (record {
              tokens = f.tokens ++ (42 ∷ []) ∷ g.tokens;
              written = product f.written g.written;
              parted = signed 42 text middle x.1 rest f.tokens g.tokens f.parted there.1 g.parted;
            })

  sum_found : (text rest : List ℕ) (e : Named) → sum_of (factor_in inside) text ≡ Ok (e, rest) → Found Sum inside text e rest
  unfolding sum_of
  sum_found = joined_found sum_signs (term_of (factor_in inside)) Sum Term inside term_found
      (λ text rest e f. record { tokens = f.tokens; written = term f.written; parted = f.parted }) both where
        both : (text middle rest : List ℕ) (x : Operation × List ℕ) (a b : Named) → Found Sum inside text a middle → sign_in sum_signs middle ≡ Some x → Found Term inside x.1 b rest →
            Found Sum inside text (Joined x.0 a b) rest
        both text middle rest x a b f is g =
            let there = sum_there middle x is in
            record {
              tokens = f.tokens ++ (there.sign ∷ []) ∷ g.tokens;
              written = there.makes a b f.tokens g.tokens f.written g.written;
              parted = signed there.sign text middle x.1 rest f.tokens g.tokens f.parted there.there g.parted;
            }

factor_found : (inside : ℕ) (text rest : List ℕ) (e : Named) → factor_in inside text ≡ Ok (e, rest) → Found Factor inside text e rest
unfolding factor_in
factor_found zero text rest e is = leaf_found 0 text rest e is
factor_found (suc n) text rest e is = by_minus (λ at left got. factor_found n at left got) (a_sign 45 text) refl where
  Inner : Type 0
  Inner = (at left : List ℕ) (got : Named) → factor_in n at ≡ Ok (got, left) → Found Factor n at got left

  bracket : ((at left : List ℕ) (got : Named) → factor_in n at ≡ Ok (got, left) → Found Factor n at got left) → (behind : List ℕ) → a_sign 40 text ≡ Ok (tt, behind) → in_bracket (factor_in n) behind ≡ Ok (e, rest) → Found Factor (suc n) text e rest
  bracket inner behind there at =
      let one = bind-ok (sum_of (factor_in n) behind) (λ found. a_sign 41 >>= (λ close. give found)) (e, rest) at in
      let close = bind-ok (a_sign 41 one.0.1) (λ close. give one.0.0) (e, rest) one.2 in
      let same = pair-parts one.0.0 e close.0.1 rest close.2 in
      let f = sum_found n inner behind one.0.1 one.0.0 one.1 in
      found_same Factor (suc n) text one.0.0 e close.0.1 rest same.0 same.1 (record {
        tokens = (40 ∷ []) ∷ (f.tokens ++ (41 ∷ []) ∷ []);
        written = brackets f.written;
        parted = λ more p. sign-found 40 text behind ((f.tokens ++ (41 ∷ []) ∷ []) ++ more) there
            (subst (λ (l : Tokens). IsParted l behind) (sym (append_assoc f.tokens ((41 ∷ []) ∷ []) more)) (f.parted ((41 ∷ []) ∷ more) (sign-found 41 one.0.1 close.0.1 more close.1 p)));
      })

  by_bracket : ((at left : List ℕ) (got : Named) → factor_in n at ≡ Ok (got, left) → Found Factor n at got left) → (left : ℕ) → a_sign 45 text ≡ Err left → (read : Read (Unit {0})) → a_sign 40 text ≡ read → Found Factor (suc n) text e rest
  by_bracket inner left none (Ok x) there =
      bracket inner x.1 there (sym (sign_absent 45 (made (factor_in n) (λ e. Opposite e)) (if_sign 40 (in_bracket (factor_in n)) leaf_in) text left none ∙ sign_there 40 (in_bracket (factor_in n)) leaf_in text x.1 there) ∙ is)
  by_bracket inner left none (Err left_there) none_there =
      leaf_found (suc n) text rest e (sym (sign_absent 45 (made (factor_in n) (λ e. Opposite e)) (if_sign 40 (in_bracket (factor_in n)) leaf_in) text left none ∙ sign_absent 40 (in_bracket (factor_in n)) leaf_in text left_there none_there) ∙ is)

  by_minus : ((at left : List ℕ) (got : Named) → factor_in n at ≡ Ok (got, left) → Found Factor n at got left) → (read : Read (Unit {0})) → a_sign 45 text ≡ read → Found Factor (suc n) text e rest
  by_minus inner (Err left) none = by_bracket inner left none (a_sign 40 text) refl
  by_minus inner (Ok x) there =
      let one = bind-ok (factor_in n x.1) (λ e. give (Opposite e)) (e, rest)
      (sym (sign_there 45 (made (factor_in n) (λ e. Opposite e)) (if_sign 40 (in_bracket (factor_in n)) leaf_in) text x.1 there) ∙ is) in
      let same = pair-parts (Opposite one.0.0) e one.0.1 rest one.2 in
      let f = inner x.1 one.0.1 one.0.0 one.1 in
      found_same Factor (suc n) text (Opposite one.0.0) e one.0.1 rest same.0 same.1 (record {
        tokens = (45 ∷ []) ∷ f.tokens;
        written = minus f.written;
        parted = λ more p. sign-found 45 text x.1 (f.tokens ++ more) there (f.parted more p);
      })

expr_found : (text rest : List ℕ) (e : Named) → expr_in text ≡ Ok (e, rest) → Found Sum 63 text e rest
unfolding expr_in
expr_found = sum_found 63 (factor_found 63)

-- lists that were read

record MoreFound (most : ℕ) (text : List ℕ) (exprs : List Named) (rest : List ℕ) : Type 0 where
  tokens : Tokens
  few : length exprs ≤ most
  written : AreBehindCommas exprs tokens
  parted : (behind : Tokens) → IsParted behind rest → IsParted (tokens ++ behind) text

none_found : (most : ℕ) (text : List ℕ) (exprs : List Named) (rest : List ℕ) → ◌≡◌ {A = Read (List Named)} (Ok ([], text)) (Ok (exprs, rest)) → MoreFound most text exprs rest
none_found most text exprs rest is =
    let same = pair-parts {A = List Named} {B = List ℕ} [] exprs text rest is in
    subst (λ (l : List Named). MoreFound most text l rest) same.0 (record {
      tokens = [];
      few = omega arith;
      written = refl;
      parted = λ behind p. subst (λ (t : List ℕ). IsParted behind t) (sym same.1) p;
    })

more_found : (most : ℕ) (text : List ℕ) (exprs : List Named) (rest : List ℕ) → phrases expr_in most text ≡ Ok (exprs, rest) → MoreFound most text exprs rest
more_found zero text exprs rest is = none_found 0 text exprs rest is
more_found (suc n) text exprs rest is = by_sign_ (λ at got list. more_found n at got rest list) (a_sign 44 text) refl where
  by_others : ((at : List ℕ) (got : List Named) → phrases expr_in n at ≡ Ok (got, rest) → MoreFound n at got rest) → (comma : Unit {0} × List ℕ) → a_sign 44 text ≡ Ok comma → (x : Named × List ℕ) → expr_in comma.1 ≡ Ok x →
      (others : Read (List Named)) → phrases expr_in n x.1 ≡ others → go_on others (λ others. give (x.0 ∷ others)) ≡ Ok (exprs, rest) → MoreFound (suc n) text exprs rest
  by_others again comma e x one (Err left) two at = absurd (cc)
  by_others again comma e x one (Ok y) two at =
      let same = pair-parts (x.0 ∷ y.0) exprs y.1 rest at in
      let others = again x.1 y.0 (two ∙ ap (λ (l : List ℕ). Ok (y.0, l)) same.1) in
      let i = expr_found comma.1 x.1 x.0 one in
      subst (λ (l : List Named). MoreFound (suc n) text l rest) same.0 (record {
        tokens = (44 ∷ []) ∷ (i.tokens ++ others.tokens);
        few = omega (arith, others.few);
        written = (i.tokens, others.tokens, i.written, others.written, refl);
        parted = λ behind p. sign-found 44 text comma.1 ((i.tokens ++ others.tokens) ++ behind) e
            (subst (λ (l : Tokens). IsParted l comma.1) (sym (append_assoc i.tokens others.tokens behind)) (i.parted (others.tokens ++ behind) (others.parted behind p)));
      })

  by_first : ((at : List ℕ) (got : List Named) → phrases expr_in n at ≡ Ok (got, rest) → MoreFound n at got rest) → (comma : Unit {0} × List ℕ) → a_sign 44 text ≡ Ok comma → (read : Read Named) → expr_in comma.1 ≡ read →
      go_on read (λ first. phrases expr_in n >>= (λ others. give (first ∷ others))) ≡ Ok (exprs, rest) → MoreFound (suc n) text exprs rest
  by_first again comma e (Err left) one at = absurd (cc)
  by_first again comma e (Ok x) one at = by_others again comma e x one (phrases expr_in n x.1) refl at

  by_sign_ : ((at : List ℕ) (got : List Named) → phrases expr_in n at ≡ Ok (got, rest) → MoreFound n at got rest) → (read : Read (Unit {0})) → a_sign 44 text ≡ read → MoreFound (suc n) text exprs rest
  by_sign_ again (Err left) e = none_found (suc n) text exprs rest (rw e at is)
  by_sign_ again (Ok comma) e = by_first again comma e (expr_in comma.1) refl (rw e at is)

pub found : (text : List ℕ) (exprs : List Named) → written_exprs text ≡ Ok exprs → IsListText exprs text
unfolding list_in further
found text exprs h = by_read (ended [] list_in text) refl h where
  by_read : (read : Read (List Named)) → ended [] list_in text ≡ read → outcome (length text) read ≡ Ok exprs → IsListText exprs text
  by_read (Err left) e is = absurd (cc)
  by_read (Ok x) e is =
      let whole = bind-ok (list_in text) (λ found. the_end [] >>= (λ end. give found)) x e in
      let end = bind-ok (the_end [] whole.0.1) (λ end. give whole.0.0) x whole.2 in
      let same : x.0 ≡ exprs = cc in
      let is_list : whole.0.0 ≡ exprs = (pair-parts whole.0.0 x.0 end.0.1 x.1 end.2).0 ∙ same in
      let first = bind-ok (expr_in text) (λ first. further 31 >>= (λ others. give (first ∷ others))) whole.0 whole.1 in
      let others = bind-ok (further 31 first.0.1) (λ others. give (first.0.0 ∷ others)) whole.0 first.2 in
      let kept = pair-parts (first.0.0 ∷ others.0.0) whole.0.0 others.0.1 whole.0.1 others.2 in
      let one = expr_found text first.0.1 first.0.0 first.1 in
      let rest = more_found 31 first.0.1 others.0.0 others.0.1 others.1 in
      let blank : IsParted [] others.0.1 = subst (λ (l : List ℕ). IsParted [] l) (sym kept.1) (end-found whole.0.1 end.0 end.1) in
      subst (λ (l : List Named). IsListText l text) (kept.0 ∙ is_list) (record {
        tokens = one.tokens ++ rest.tokens;
        few = omega (arith, rest.few);
        written = (one.tokens, rest.tokens, one.written, rest.written, refl);
        parted = one.parted rest.tokens (subst (λ (l : Tokens). IsParted l first.0.1) (append-nil rest.tokens) (rest.parted [] blank));
      })

-- what is read of tokens

-- the phrase reads all of an expression, up to these tokens
record ReadTo (phrase : Phrase Named) (text : List ℕ) (e : Named) (behind : Tokens) : Type 0 where
  rest : List ℕ
  value : phrase text ≡ Ok (e, rest)
  parted : IsParted behind rest

-- the phrase has read an expression up to these tokens, and goes on from there
record LeadsTo (whole : Phrase Named) (signs : Signs Operation) (phrase : Phrase Named) (text : List ℕ) (e : Named) (behind : Tokens) : Type 0 where
  rest : List ℕ
  goes : whole text ≡ onward joined signs phrase e rest
  parted : IsParted behind rest

-- none of some signs begins these tokens
abbrev Without : Signs Operation → Tokens → Type 0
Without signs behind = (text : List ℕ) → IsParted behind text → sign_in signs text ≡ None

abbrev ReadAs : Level → ℕ → Named → Tokens → Type 0
ReadAs Factor inside e tokens = (text : List ℕ) (behind : Tokens) → StopsWord behind → IsParted (tokens ++ behind) text → ReadTo (factor_in inside) text e behind
ReadAs Term inside e tokens = (text : List ℕ) (behind : Tokens) → StopsWord behind → IsParted (tokens ++ behind) text → LeadsTo (term_of (factor_in inside)) times_signs (factor_in inside) text e behind
ReadAs Sum inside e tokens = (text : List ℕ) (behind : Tokens) → StopsWord behind → Without times_signs behind → IsParted (tokens ++ behind) text →
    LeadsTo (sum_of (factor_in inside)) sum_signs (term_of (factor_in inside)) text e behind

-- another sign stands there
other_first : (sign c : ℕ) (behind : Tokens) (text : List ℕ) → is_blank c ≡ false → (c == sign) ≡ false → IsParted ((c ∷ []) ∷ behind) text → (left : ℕ) × (a_sign sign text ≡ Err left)
other_first sign c behind text shows differs p = (length (unblanked text), sign_other sign c text p.1 differs (sign_is c text p.1 (sign-read c text behind shows p)))

without_times : (c : ℕ) (behind : Tokens) → is_blank c ≡ false → (c == 42) ≡ false → Without times_signs ((c ∷ []) ∷ behind)
without_times c behind shows differs text p =
    let none = other_first 42 c behind text shows differs p in ap (λ (r : Read (Unit {0})). sign_or Times r None) none.1

without_sum : (c : ℕ) (behind : Tokens) → is_blank c ≡ false → (c == 43) ≡ false → (c == 45) ≡ false → Without sum_signs ((c ∷ []) ∷ behind)
without_sum c behind shows differs differs_too text p =
    let plus = other_first 43 c behind text shows differs p in
    let less = other_first 45 c behind text shows differs_too p in
    ap (λ (r : Read (Unit {0})). sign_or Plus r (sign_or Less (a_sign 45 text) None)) plus.1 ∙ ap (λ (r : Read (Unit {0})). sign_or Less r None) less.1

-- a number ends before what stops a word
stops_digits : (behind : Tokens) (text : List ℕ) → StopsWord behind → IsParted behind text → prefix_len is_ascii_digit text ≡ 0
stops_digits [] [] stops p = refl
stops_digits [] (b ∷ text) stops p = let blank = (and_parts (is_blank b) (list_all is_blank text) p).0 in rw (blank_stops b blank) refl where
  blank_stops : (b : ℕ) → is_blank b ≡ true → is_ascii_digit b ≡ false
  blank_stops b blank = grind (arith, nat_tests)
stops_digits ([] ∷ behind) text stops p = absurd stops
stops_digits ((c ∷ token) ∷ behind) text stops p = ends-token is_ascii_digit c token text behind digits-end (stops_too c stops) p where
  stops_too : (c : ℕ) → continues_word c ≡ false → is_ascii_digit c ≡ false
  stops_too c h = grind (arith, nat_tests)

-- where neither a minus nor a bracket stands there is a leaf
leaf_at : (inside : ℕ) (text : List ℕ) (left left_there : ℕ) → a_sign 45 text ≡ Err left → a_sign 40 text ≡ Err left_there → factor_in inside text ≡ leaf_in text
unfolding factor_in
leaf_at zero text left left_there none none_there = refl
leaf_at (suc n) text left left_there none none_there =
    sign_absent 45 (made (factor_in n) (λ e. Opposite e)) (if_sign 40 (in_bracket (factor_in n)) leaf_in) text left none
    ∙ sign_absent 40 (in_bracket (factor_in n)) leaf_in text left_there none_there

name_some : (n : List ℕ) → is_name n ≡ true → name_if_any n ≡ Some n
name_some n h = rw h refl

column_read : (inside : ℕ) (name : List ℕ) → is_name name ≡ true → ReadAs Factor inside (Column name) ((36 ∷ []) ∷ name ∷ [])
unfolding leaf_in name_in
column_read inside name good text behind stops p =
    let q = p.4 in
    let word : is_word name ≡ true = (and_parts (is_word name) (nat_le (length name) 32) good).0 in
    let dollar = sign-read 36 text (name ∷ behind) refl p in
    let there = token-read expr_front expr_laws name_as p.1 name behind Word name q (word_front name q.1 word (stops-word behind q.1 stops q.4)) (name_some name good) in
    let minus_ = other_first 45 36 (name ∷ behind) text refl refl p in
    let bracket = other_first 40 36 (name ∷ behind) text refl refl p in
    record {
      rest = q.1;
      value = leaf_at inside text minus_.0 bracket.0 minus_.1 bracket.1
          ∙ sign_there 36 (made name_in (λ n. Column n)) (made digits_in (λ n. Digits n)) text p.1 dollar
          ∙ ap (λ (r : Read (List ℕ)). go_on r (λ n. give (Column n))) there;
      parted = q.4;
    }

-- no sign stands before digits
digit_first : (sign : ℕ) (token : List ℕ) (behind : Tokens) (text : List ℕ) → is_ascii_digit sign ≡ false → all_digits token ≡ true → 1 ≤ length token → IsParted (token ∷ behind) text → (left : ℕ) × (a_sign sign text ≡ Err left)
digit_first sign [] behind text plain all some p = absurd (omega (arith, some))
digit_first sign (b ∷ token) behind text plain all some p =
    let digit = (and_parts (is_ascii_digit b) (list_all is_ascii_digit token) all).0 in
    (length (unblanked text), sign_other sign b text (token ++ p.1) (differs sign b plain digit) (token-first text (b ∷ token) behind (solid b digit) p))
  where
    differs : (sign b : ℕ) → is_ascii_digit sign ≡ false → is_ascii_digit b ≡ true → (b == sign) ≡ false
    differs sign b plain digit = elim (cases_Bool (b == sign)) [
      | inl t ↦ let same : b ≡ sign = grind (arith, nat_tests) in absurd (let none = sym digit ∙ ap is_ascii_digit same ∙ plain in cc)
      | inr f ↦ f
    ]

    solid : (b : ℕ) → is_ascii_digit b ≡ true → is_blank b ≡ false
    solid b digit = grind (arith, nat_tests)

few_is : (n : ℕ) → n ≤ 18 → nat_le n 18 ≡ true
few_is n few = grind (arith, nat_tests)

digits_read : (inside : ℕ) (token : List ℕ) → all_digits token ≡ true → 1 ≤ length token → length token ≤ 18 → ReadAs Factor inside (Digits (number_of token)) (token ∷ [])
unfolding leaf_in digits_in
digits_read inside token all some few text behind stops p =
    let accepted : digits_as Number token ≡ Some (number_of token) = rw (few_is (length token) few) (ap (λ (l : List ℕ). Some (number_of l)) (digits_kept token all)) in
    let there = token-read expr_front expr_laws digits_as text token behind Number (number_of token) p (digits_front token p.1 all (omega (arith, some)) (stops_digits behind p.1 stops p.4)) accepted in
    let dollar = digit_first 36 token behind text refl all some p in
    let minus_ = digit_first 45 token behind text refl all some p in
    let bracket = digit_first 40 token behind text refl all some p in
    record {
      rest = p.1;
      value = leaf_at inside text minus_.0 bracket.0 minus_.1 bracket.1
          ∙ sign_absent 36 (made name_in (λ n. Column n)) (made digits_in (λ n. Digits n)) text dollar.0 dollar.1
          ∙ ap (λ (r : Read ℕ). go_on r (λ n. give (Digits n))) there;
      parted = p.4;
    }

minus_read : (inside : ℕ) (e : Named) (tokens : Tokens) → ReadAs Factor inside e tokens → ReadAs Factor (suc inside) (Opposite e) ((45 ∷ []) ∷ tokens)
unfolding factor_in
minus_read inside e tokens one text behind stops p =
    let sign = sign-read 45 text (tokens ++ behind) refl p in
    let inner = one p.1 behind stops p.4 in
    record {
      rest = inner.rest;
      value = sign_there 45 (made (factor_in inside) (λ e. Opposite e)) (if_sign 40 (in_bracket (factor_in inside)) leaf_in) text p.1 sign
          ∙ ap (λ (r : Read Named). go_on r (λ e. give (Opposite e))) inner.value;
      parted = inner.parted;
    }

bracket_read : (inside : ℕ) (e : Named) (tokens : Tokens) → ReadAs Sum inside e tokens → ReadAs Factor (suc inside) e ((40 ∷ []) ∷ (tokens ++ (41 ∷ []) ∷ []))
unfolding factor_in
bracket_read inside e tokens one text behind stops p =
    let sign = sign-read 40 text ((tokens ++ (41 ∷ []) ∷ []) ++ behind) refl p in
    let none = other_first 45 40 ((tokens ++ (41 ∷ []) ∷ []) ++ behind) text refl refl p in
    let q : IsParted (tokens ++ ((41 ∷ []) ∷ behind)) p.1 = subst (λ (l : Tokens). IsParted l p.1) (append_assoc tokens ((41 ∷ []) ∷ []) behind) p.4 in
    let inner = one p.1 ((41 ∷ []) ∷ behind) refl (without_times 41 behind refl refl) q in
    let all : sum_of (factor_in inside) p.1 ≡ Ok (e, inner.rest) =
    inner.goes ∙ onward_none joined sum_signs (term_of (factor_in inside)) e inner.rest (without_sum 41 behind refl refl refl inner.rest inner.parted) in
    let close = sign-read 41 inner.rest behind refl inner.parted in
    record {
      rest = inner.parted.1;
      value = sign_absent 45 (made (factor_in inside) (λ e. Opposite e)) (if_sign 40 (in_bracket (factor_in inside)) leaf_in) text none.0 none.1
          ∙ sign_there 40 (in_bracket (factor_in inside)) leaf_in text p.1 sign
          ∙ ap (λ (r : Read Named). go_on r (λ found. a_sign 41 >>= (λ close. give found))) all
          ∙ ap (λ (r : Read (Unit {0})). go_on r (λ close. give e)) close;
      parted = inner.parted.4;
    }

factor_leads : (inside : ℕ) (e : Named) (tokens : Tokens) → ReadAs Factor inside e tokens → ReadAs Term inside e tokens
unfolding term_of
factor_leads inside e tokens one text behind stops p =
    let inner = one text behind stops p in
    record { rest = inner.rest; goes = ap (λ (r : Read Named). go_on r (λ first. onward joined times_signs (factor_in inside) first)) inner.value; parted = inner.parted }

product_leads : (inside : ℕ) (a b : Named) (first second : Tokens) → ReadAs Term inside a first → ReadAs Factor inside b second → ReadAs Term inside (Joined Times a b) (first ++ (42 ∷ []) ∷ second)
product_leads inside a b first second one two text behind stops p =
    let q : IsParted (first ++ ((42 ∷ []) ∷ (second ++ behind))) text = subst (λ (l : Tokens). IsParted l text) (append_assoc first ((42 ∷ []) ∷ second) behind) p in
    let before = one text ((42 ∷ []) ∷ (second ++ behind)) refl q in
    let sign = sign-read 42 before.rest (second ++ behind) refl before.parted in
    let last = two before.parted.1 behind stops before.parted.4 in
    record {
      rest = last.rest;
      goes = before.goes
          ∙ onward_some joined times_signs (factor_in inside) (factor_shrinks inside) a before.rest (Times, before.parted.1) (ap (λ (r : Read (Unit {0})). sign_or Times r None) sign)
          ∙ ap (λ (r : Read Named). go_on r (λ next. onward joined times_signs (factor_in inside) (Joined Times a next))) last.value;
      parted = last.parted;
    }

-- a term that ends
term_ends : (inside : ℕ) (e : Named) (text : List ℕ) (behind : Tokens) → Without times_signs behind → LeadsTo (term_of (factor_in inside)) times_signs (factor_in inside) text e behind → ReadTo (term_of (factor_in inside)) text e behind
term_ends inside e text behind without t = record { rest = t.rest; value = t.goes ∙ onward_none joined times_signs (factor_in inside) e t.rest (without t.rest t.parted); parted = t.parted }

term_leads : (inside : ℕ) (e : Named) (tokens : Tokens) → ReadAs Term inside e tokens → ReadAs Sum inside e tokens
unfolding sum_of
term_leads inside e tokens one text behind stops without p =
    let inner = term_ends inside e text behind without (one text behind stops p) in
    record { rest = inner.rest; goes = ap (λ (r : Read Named). go_on r (λ first. onward joined sum_signs (term_of (factor_in inside)) first)) inner.value; parted = inner.parted }

sum_leads : (sign : ℕ) (operation : Operation) (inside : ℕ) (a b : Named) (first second : Tokens) → is_blank sign ≡ false → (sign == 42) ≡ false → continues_word sign ≡ false →
    ((bytes rest : List ℕ) → a_sign sign bytes ≡ Ok (tt, rest) → sign_in sum_signs bytes ≡ Some (operation, rest)) →
    ReadAs Sum inside a first → ReadAs Term inside b second → ReadAs Sum inside (Joined operation a b) (first ++ (sign ∷ []) ∷ second)
sum_leads sign operation inside a b first second shows differs ends is one two text behind stops without p =
    let q : IsParted (first ++ ((sign ∷ []) ∷ (second ++ behind))) text = subst (λ (l : Tokens). IsParted l text) (append_assoc first ((sign ∷ []) ∷ second) behind) p in
    let before = one text ((sign ∷ []) ∷ (second ++ behind)) ends (without_times sign (second ++ behind) shows differs) q in
    let there = sign-read sign before.rest (second ++ behind) shows before.parted in
    let last = term_ends inside b before.parted.1 behind without (two before.parted.1 behind stops before.parted.4) in
    record {
      rest = last.rest;
      goes = before.goes
          ∙ onward_some joined sum_signs (term_of (factor_in inside)) (term_shrinks (factor_in inside) (factor_shrinks inside)) a before.rest (operation, before.parted.1) (is before.rest before.parted.1 there)
          ∙ ap (λ (r : Read Named). go_on r (λ next. onward joined sum_signs (term_of (factor_in inside)) (Joined operation a next))) last.value;
      parted = last.parted;
    }

plus_is : (bytes rest : List ℕ) → a_sign 43 bytes ≡ Ok (tt, rest) → sign_in sum_signs bytes ≡ Some (Plus, rest)
plus_is bytes rest e = ap (λ (r : Read (Unit {0})). sign_or Plus r (sign_or Less (a_sign 45 bytes) None)) e

less_is : (bytes rest : List ℕ) → a_sign 45 bytes ≡ Ok (tt, rest) → sign_in sum_signs bytes ≡ Some (Less, rest)
less_is bytes rest e =
    let plus = sign_other 43 45 bytes rest refl (sign_is 45 bytes rest e) in
    ap (λ (r : Read (Unit {0})). sign_or Plus r (sign_or Less (a_sign 45 bytes) None)) plus ∙ ap (λ (r : Read (Unit {0})). sign_or Less r None) e

written_read : (level : Level) (inside : ℕ) (e : Named) (tokens : Tokens) → IsWritten level inside e tokens → ReadAs level inside e tokens
written_read Factor inside (Column name) tokens (column good) = column_read inside name good
written_read Factor inside e tokens (digits {token = token} all some few) = digits_read inside token all some few
written_read Factor (suc inside) (Opposite e) tokens (minus {tokens = rest} w) = minus_read inside e rest (written_read Factor inside e rest w)
written_read Factor (suc inside) e tokens (brackets {tokens = rest} w) = bracket_read inside e rest (written_read Sum inside e rest w)
written_read Term inside e tokens (factor w) = factor_leads inside e tokens (written_read Factor inside e tokens w)
written_read Term inside e tokens (product {a = a} {b = b} {first = first} {second = second} w v) = product_leads inside a b first second (written_read Term inside a first w) (written_read Factor inside b second v)
written_read Sum inside e tokens (term w) = term_leads inside e tokens (written_read Term inside e tokens w)
written_read Sum inside e tokens (sum {a = a} {b = b} {first = first} {second = second} w v) =
    sum_leads 43 Plus inside a b first second refl refl refl plus_is (written_read Sum inside a first w) (written_read Term inside b second v)
written_read Sum inside e tokens (difference {a = a} {b = b} {first = first} {second = second} w v) =
    sum_leads 45 Less inside a b first second refl refl refl less_is (written_read Sum inside a first w) (written_read Term inside b second v)

-- an expression before tokens that can't go on
expr_read : (text : List ℕ) (e : Named) (tokens behind : Tokens) → IsWritten Sum 63 e tokens → StopsWord behind → Without times_signs behind → Without sum_signs behind → IsParted (tokens ++ behind) text → ReadTo expr_in text e behind
unfolding expr_in
expr_read text e tokens behind w stops times sums p =
    let s = written_read Sum 63 e tokens w text behind stops times p in
    record { rest = s.rest; value = s.goes ∙ onward_none joined sum_signs (term_of (factor_in 63)) e s.rest (sums s.rest s.parted); parted = s.parted }

-- what stands behind commas begins with one, or is nothing
record Ends (behind : Tokens) : Type 0 where
  stops : StopsWord behind
  times : Without times_signs behind
  sums : Without sum_signs behind

nothing_ends : Ends []
nothing_ends = record {
  stops = tt;
  times = λ text p. ap (λ (r : Read (Unit {0})). sign_or Times r None) (sign_end 42 text (nothing_left text p));
  sums = λ text p.
      ap (λ (r : Read (Unit {0})). sign_or Plus r (sign_or Less (a_sign 45 text) None)) (sign_end 43 text (nothing_left text p))
      ∙ ap (λ (r : Read (Unit {0})). sign_or Less r None) (sign_end 45 text (nothing_left text p));
} where
  nothing_left : (text : List ℕ) → IsParted [] text → unblanked text ≡ []
  nothing_left text p = end_is text (tt, []) (end-read text p)

comma_ends : (behind : Tokens) → Ends ((44 ∷ []) ∷ behind)
comma_ends behind = record { stops = refl; times = without_times 44 behind refl refl; sums = without_sum 44 behind refl refl refl }

behind_ends : (exprs : List Named) (tokens : Tokens) → AreBehindCommas exprs tokens → Ends tokens
behind_ends [] tokens none = subst (λ (l : Tokens). Ends l) (sym none) nothing_ends
behind_ends (e ∷ exprs) tokens w = subst (λ (l : Tokens). Ends l) (sym w.4) (comma_ends (w.0 ++ w.1))

record MoreRead (most : ℕ) (exprs : List Named) (text : List ℕ) : Type 0 where
  rest : List ℕ
  value : phrases expr_in most text ≡ Ok (exprs, rest)
  parted : IsParted [] rest

comma_none : (text : List ℕ) → IsParted [] text → a_sign 44 text ≡ Err 0
comma_none text p = sign_end 44 text (end_is text (tt, []) (end-read text p))

more_read : (most : ℕ) (exprs : List Named) (tokens : Tokens) (text : List ℕ) → length exprs ≤ most → AreBehindCommas exprs tokens → IsParted tokens text → MoreRead most exprs text
more_read zero [] tokens text few w p = record { rest = text; value = refl; parted = subst (λ (l : Tokens). IsParted l text) w p }
more_read (suc n) [] tokens text few w p =
    let q = subst (λ (l : Tokens). IsParted l text) w p in
    record { rest = text; value = rw (comma_none text q) refl; parted = q }
more_read zero (e ∷ exprs) tokens text few w p = absurd (omega (arith, few))
more_read (suc n) (e ∷ exprs) tokens text few w p =
    let q : IsParted ((44 ∷ []) ∷ (w.0 ++ w.1)) text = subst (λ (l : Tokens). IsParted l text) w.4 p in
    let comma = sign-read 44 text (w.0 ++ w.1) refl q in
    let ends = behind_ends exprs w.1 w.3 in
    let one = expr_read q.1 e w.0 w.1 w.2 ends.stops ends.times ends.sums q.4 in
    let others = more_read n exprs w.1 one.rest (omega (arith, few)) w.3 one.parted in
    record { rest = others.rest; value = rw (comma, one.value, others.value) refl; parted = others.parted }

pub read : (text : List ℕ) (exprs : List Named) → IsListText exprs text → written_exprs text ≡ Ok exprs
unfolding list_in further
read text exprs t = by_exprs exprs t.few t.written where
  by_exprs : (list : List Named) → length list ≤ 32 → AreWritten list t.tokens → written_exprs text ≡ Ok list
  by_exprs [] few w = absurd w
  by_exprs (e ∷ list) few w =
      let ends = behind_ends list w.1 w.3 in
      let one = expr_read text e w.0 w.1 w.2 ends.stops ends.times ends.sums (subst (λ (l : Tokens). IsParted l text) w.4 t.parted) in
      let others = more_read 31 list w.1 one.rest (omega (arith, few)) w.3 one.parted in
      ap (λ (r : Read Named). outcome (length text) (go_on (go_on r (λ first. further 31 >>= (λ others. give (first ∷ others)))) (λ found. the_end [] >>= (λ end. give found)))) one.value
      ∙ ap (λ (r : Read (List Named)). outcome (length text) (go_on (go_on r (λ others. give (e ∷ others))) (λ found. the_end [] >>= (λ end. give found)))) others.value
      ∙ ap (λ (r : Read (Unit {0})). outcome (length text) (go_on r (λ end. give (e ∷ list)))) (end-read others.rest others.parted)
