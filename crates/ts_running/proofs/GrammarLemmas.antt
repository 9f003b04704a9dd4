-- What the grammar of expressions takes, and what its readers make of it.
use Rattle.std.proofs.Common.{◌≡◌, ℕ, zero, suc, ◌-◌, ◌≤◌, List, [], ◌∷◌, ◌++◌, length, Some, None, Ok, Err, refl, sym, ◌∙◌, ap, arith, append_assoc}
use Rattle.std.proofs.lemmas.List.{append-nil}
use Rattle.std.proofs.lemmas.Grind.{flat_map-append}
use Rattle.ts_text.specs.Misfit.{Refuses, RefusesExactly}
use Rattle.ts_text.specs.Phrase.{Read, Phrase, go_on, ◌>>=◌, give, a_sign, made, phrases, onto, the_end, ended, name_as, if_sign, Signs, onward, joined_by, sign_in, plain_front}
use Rattle.ts_text.specs.declared.misfit.Misfit.{Misfit}
use Rattle.ts_text.specs.declared.misfit.Misfit.TheVariants.{At, Memory}
use Rattle.ts_text.proofs.CallerLemmas.{Yields, Any, Shrinks, of_token, shrinks_of, sign_shrinks, sign_there, sign_absent, made_shrinks, if_sign_shrinks, joined_shrinks, onward_none, onward_some, pair-parts, bind-ok, exactly_refused}
use Rattle.ts_text.specs.declared.token.TokenKind.TheVariants.{Word, Number}
use Rattle.ts_expr.proofs.ListLemmas.{few_more, few_end, few_full}
use Rattle.ts_running.specs.declared.step.Operation.{Operation}
use Rattle.ts_running.specs.declared.step.Step.TheVariants as step
use Rattle.ts_running.specs.Grammar.{Column, Digits, Opposite, Joined, steps_of, all_steps, expr_front, most_exprs, Named, joined, name_in, digits_as, digits_in, leaf_in, times_signs, sum_signs, term_of, sum_of, in_bracket, factor_in, expr_in, further, list_in}
use Rattle.ts_running.specs.Reading.{NamedSteps, Reads, ReadsAll}
use Rattle.ts_running.proofs.FrontLemmas.{expr_laws}
use Rattle.ts_running.proofs.OnwardLemmas.{Onward}

-- what is read leaves no more bytes than there were

pub name_yields : Yields expr_front Any name_in
unfolding name_in expr_front plain_front
name_yields = of_token expr_front expr_laws Any name_as (record { first = 118; more = []; kind = Word; found = 118 ∷ []; holds = tt; stands = refl; accepted = refl }) (λ kind text a e. tt)

pub digits_yields : Yields expr_front Any digits_in
unfolding digits_in expr_front plain_front
digits_yields = of_token expr_front expr_laws Any digits_as (record { first = 48; more = []; kind = Number; found = 0; holds = tt; stands = refl; accepted = refl }) (λ kind text a e. tt)

name_shrinks : Shrinks name_in
name_shrinks = shrinks_of expr_front Any name_in name_yields

digits_shrinks : Shrinks digits_in
digits_shrinks = shrinks_of expr_front Any digits_in digits_yields

leaf_shrinks : Shrinks leaf_in
unfolding leaf_in
leaf_shrinks = if_sign_shrinks 36 (made name_in (λ name. Column name)) (made digits_in (λ n. Digits n)) (made_shrinks name_in (λ name. Column name) name_shrinks) (made_shrinks digits_in (λ n. Digits n) digits_shrinks)

pub sum_shrinks : (factor : Phrase Named) → Shrinks factor → Shrinks (sum_of factor)
unfolding sum_of term_of
sum_shrinks factor one = joined_shrinks joined sum_signs (term_of factor) (joined_shrinks joined times_signs factor one)

bracket_shrinks : (factor : Phrase Named) → Shrinks factor → Shrinks (in_bracket factor)
bracket_shrinks factor one bytes found is =
    let first = bind-ok (sum_of factor bytes) (λ found. a_sign 41 >>= (λ close. give found)) found is in
    let second = bind-ok (a_sign 41 first.0.1) (λ close. give first.0.0) found first.2 in
    let same = pair-parts first.0.0 found.0 second.0.1 found.1 second.2 in
    let less = sum_shrinks factor one bytes first.0 first.1 in
    let close = sign_shrinks 41 first.0.1 second.0 second.1 in
    omega (arith, less, close, ap length same.1)

pub factor_shrinks : (inside : ℕ) → Shrinks (factor_in inside)
unfolding factor_in
factor_shrinks zero = leaf_shrinks
factor_shrinks (suc inside) =
    if_sign_shrinks 45 (made (factor_in inside) (λ e. Opposite e)) (if_sign 40 (in_bracket (factor_in inside)) leaf_in)
    (made_shrinks (factor_in inside) (λ e. Opposite e) (factor_shrinks inside))
    (if_sign_shrinks 40 (in_bracket (factor_in inside)) leaf_in (bracket_shrinks (factor_in inside) (factor_shrinks inside)) leaf_shrinks)

pub term_shrinks : (factor : Phrase Named) → Shrinks factor → Shrinks (term_of factor)
unfolding term_of
term_shrinks factor one = joined_shrinks joined times_signs factor one

-- a misfit of what was read is one of the whole
pub refuses_as : {A B : Type 0} (misfit : Misfit) (read : Read A) (whole : Read B) → ((left : ℕ) → read ≡ Err left → whole ≡ Err left) → Refuses misfit read → Refuses misfit whole
refuses_as (At left) read whole goes is = goes left is
refuses_as (Memory error) read whole goes is = tt

-- what is refused before something is made of it
made_err : {A B : Type 0} (phrase : Phrase A) (make : A → B) (bytes : List ℕ) (left : ℕ) → phrase bytes ≡ Err left → made phrase make bytes ≡ Err left
made_err {A} phrase make bytes left e = ap (λ (r : Read A). go_on r (λ found. give (make found))) e

made_ok : {A B : Type 0} (phrase : Phrase A) (make : A → B) (bytes rest : List ℕ) (a : A) → phrase bytes ≡ Ok (a, rest) → made phrase make bytes ≡ Ok (make a, rest)
made_ok {A} phrase make bytes rest a e = ap (λ (r : Read A). go_on r (λ found. give (make found))) e

-- leaves

leaf_column : (text behind : List ℕ) → a_sign 36 text ≡ Ok (tt, behind) → leaf_in text ≡ made name_in (λ name. Column name) behind
unfolding leaf_in
leaf_column text behind e = sign_there 36 (made name_in (λ name. Column name)) (made digits_in (λ n. Digits n)) text behind e

leaf_digits : (text : List ℕ) (left : ℕ) → a_sign 36 text ≡ Err left → leaf_in text ≡ made digits_in (λ n. Digits n) text
unfolding leaf_in
leaf_digits text left e = sign_absent 36 (made name_in (λ name. Column name)) (made digits_in (λ n. Digits n)) text left e

pub column_read : (text behind rest name : List ℕ) (old new : NamedSteps) → a_sign 36 text ≡ Ok (tt, behind) → name_in behind ≡ Ok (name, rest) → new ≡ old ++ step.Column name ∷ [] →
    Reads leaf_in text old new rest
column_read text behind rest name old new sign one is = record {
  expr = Column name;
  read = leaf_column text behind sign ∙ made_ok name_in (λ name. Column name) behind rest name one;
  steps = is;
}

pub column_refused : (text behind : List ℕ) (misfit : Misfit) → a_sign 36 text ≡ Ok (tt, behind) → Refuses misfit (name_in behind) → Refuses misfit (leaf_in text)
column_refused text behind misfit sign is =
    refuses_as misfit (name_in behind) (leaf_in text) (λ left e. leaf_column text behind sign ∙ made_err name_in (λ name. Column name) behind left e) is

pub digits_read : (text rest : List ℕ) (left n : ℕ) (old new : NamedSteps) → a_sign 36 text ≡ Err left → digits_in text ≡ Ok (n, rest) → new ≡ old ++ step.Digits n ∷ [] →
    Reads leaf_in text old new rest
digits_read text rest left n old new sign one is = record {
  expr = Digits n;
  read = leaf_digits text left sign ∙ made_ok digits_in (λ n. Digits n) text rest n one;
  steps = is;
}

pub digits_refused : (text : List ℕ) (left : ℕ) (misfit : Misfit) → a_sign 36 text ≡ Err left → RefusesExactly misfit (digits_in text) → Refuses misfit (leaf_in text)
digits_refused text left misfit sign is =
    refuses_as misfit (digits_in text) (leaf_in text) (λ left_there e. leaf_digits text left sign ∙ made_err digits_in (λ n. Digits n) text left_there e) (exactly_refused misfit (digits_in text) is)

-- factors

pub factor_last : (m : ℕ) (text : List ℕ) → m ≡ 0 → factor_in m text ≡ leaf_in text
unfolding factor_in
factor_last m text is = ap (λ k. factor_in k text) is

abbrev inner : ℕ → Phrase Named
inner n = if_sign 40 (in_bracket (factor_in n)) leaf_in

factor_more : (m n : ℕ) (text : List ℕ) → m ≡ suc n → factor_in m text ≡ if_sign 45 (made (factor_in n) (λ e. Opposite e)) (inner n) text
unfolding factor_in
factor_more m n text is = ap (λ k. factor_in k text) is

factor_minus : (m n : ℕ) (text behind : List ℕ) → m ≡ suc n → a_sign 45 text ≡ Ok (tt, behind) → factor_in m text ≡ made (factor_in n) (λ e. Opposite e) behind
factor_minus m n text behind is e = factor_more m n text is ∙ sign_there 45 (made (factor_in n) (λ e. Opposite e)) (inner n) text behind e

factor_bracket : (m n : ℕ) (text behind : List ℕ) (left : ℕ) → m ≡ suc n → a_sign 45 text ≡ Err left → a_sign 40 text ≡ Ok (tt, behind) → factor_in m text ≡ in_bracket (factor_in n) behind
factor_bracket m n text behind left is none e =
    factor_more m n text is ∙ sign_absent 45 (made (factor_in n) (λ e. Opposite e)) (inner n) text left none ∙ sign_there 40 (in_bracket (factor_in n)) leaf_in text behind e

pub factor_leaf : (m n : ℕ) (text : List ℕ) (left left_there : ℕ) → m ≡ suc n → a_sign 45 text ≡ Err left → a_sign 40 text ≡ Err left_there → factor_in m text ≡ leaf_in text
factor_leaf m n text left left_there is none none_there =
    factor_more m n text is ∙ sign_absent 45 (made (factor_in n) (λ e. Opposite e)) (inner n) text left none ∙ sign_absent 40 (in_bracket (factor_in n)) leaf_in text left_there none_there

pub minus_read : (m n : ℕ) (text behind rest : List ℕ) (old middle new : NamedSteps) → m ≡ suc n → a_sign 45 text ≡ Ok (tt, behind) → Reads (factor_in n) behind old middle rest →
    new ≡ middle ++ step.Opposite ∷ [] → Reads (factor_in m) text old new rest
minus_read m n text behind rest old middle new is sign r steps = record {
  expr = Opposite r.expr;
  read = factor_minus m n text behind is sign ∙ made_ok (factor_in n) (λ e. Opposite e) behind rest r.expr r.read;
  steps = steps ∙ ap (λ (l : NamedSteps). l ++ step.Opposite ∷ []) r.steps ∙ append_assoc old (steps_of r.expr) (step.Opposite ∷ []);
}

pub minus_refused : (m n : ℕ) (text behind : List ℕ) (misfit : Misfit) → m ≡ suc n → a_sign 45 text ≡ Ok (tt, behind) → Refuses misfit (factor_in n behind) → Refuses misfit (factor_in m text)
minus_refused m n text behind misfit is sign r =
    refuses_as misfit (factor_in n behind) (factor_in m text) (λ left e. factor_minus m n text behind is sign ∙ made_err (factor_in n) (λ e. Opposite e) behind left e) r

pub bracket_read : (m n : ℕ) (text behind middle rest : List ℕ) (left : ℕ) (old new : NamedSteps) → m ≡ suc n → a_sign 45 text ≡ Err left → a_sign 40 text ≡ Ok (tt, behind) →
    Reads (sum_of (factor_in n)) behind old new middle → a_sign 41 middle ≡ Ok (tt, rest) → Reads (factor_in m) text old new rest
bracket_read m n text behind middle rest left old new is none sign r close = record {
  expr = r.expr;
  read = factor_bracket m n text behind left is none sign
      ∙ ap (λ (x : Read Named). go_on x (λ found. a_sign 41 >>= (λ close. give found))) r.read
      ∙ ap (λ (x : Read (Unit {0})). go_on x (λ close. give r.expr)) close;
  steps = r.steps;
}

pub inside_refused : (m n : ℕ) (text behind : List ℕ) (left : ℕ) (misfit : Misfit) → m ≡ suc n → a_sign 45 text ≡ Err left → a_sign 40 text ≡ Ok (tt, behind) →
    Refuses misfit (sum_of (factor_in n) behind) → Refuses misfit (factor_in m text)
inside_refused m n text behind left misfit is none sign r = refuses_as misfit (sum_of (factor_in n) behind) (factor_in m text)
    (λ left_there e. factor_bracket m n text behind left is none sign ∙ ap (λ (x : Read Named). go_on x (λ found. a_sign 41 >>= (λ close. give found))) e) r

pub close_refused : (m n : ℕ) (text behind middle : List ℕ) (left : ℕ) (misfit : Misfit) (old new : NamedSteps) → m ≡ suc n → a_sign 45 text ≡ Err left → a_sign 40 text ≡ Ok (tt, behind) →
    Reads (sum_of (factor_in n)) behind old new middle → RefusesExactly misfit (a_sign 41 middle) → Refuses misfit (factor_in m text)
close_refused m n text behind middle left misfit old new is none sign r close = refuses_as misfit (a_sign 41 middle) (factor_in m text)
    (λ left_there e.
    factor_bracket m n text behind left is none sign
    ∙ ap (λ (x : Read Named). go_on x (λ found. a_sign 41 >>= (λ close. give found))) r.read
    ∙ ap (λ (x : Read (Unit {0})). go_on x (λ close. give r.expr)) e) (exactly_refused misfit (a_sign 41 middle) close)

-- a phrase that reads the same
pub reads_same : (phrase other : Phrase Named) (text : List ℕ) (old new : NamedSteps) (rest : List ℕ) → other text ≡ phrase text → Reads phrase text old new rest → Reads other text old new rest
reads_same phrase other text old new rest same r = record { expr = r.expr; read = same ∙ r.read; steps = r.steps }

pub refused_same : (phrase other : Phrase Named) (text : List ℕ) (misfit : Misfit) → other text ≡ phrase text → Refuses misfit (phrase text) → Refuses misfit (other text)
refused_same phrase other text misfit same r = refuses_as misfit (phrase text) (other text) (λ left e. same ∙ e) r

-- what goes on behind signs

module _ (signs : Signs Operation) (phrase : Phrase Named) (shrinks : Shrinks phrase) where
  begins : (text rest : List ℕ) (old new : NamedSteps) → Reads phrase text old new rest → Onward (joined_by joined signs phrase) signs phrase text old new rest
  begins text rest old new r = record { expr = r.expr; goes = ap (λ (x : Read Named). go_on x (λ first. onward joined signs phrase first)) r.read; steps = r.steps }

  begins_refused : (text : List ℕ) (misfit : Misfit) → Refuses misfit (phrase text) → Refuses misfit (joined_by joined signs phrase text)
  begins_refused text misfit r =
      refuses_as misfit (phrase text) (joined_by joined signs phrase text) (λ left e. ap (λ (x : Read Named). go_on x (λ first. onward joined signs phrase first)) e) r

  pub goes : (whole : Phrase Named) (text bytes rest : List ℕ) (x : Operation × List ℕ) (old middle read new : NamedSteps) → Onward whole signs phrase text old middle bytes → sign_in signs bytes ≡ Some x →
      Reads phrase x.1 middle read rest → new ≡ read ++ step.Joined x.0 ∷ [] → Onward whole signs phrase text old new rest
  goes whole text bytes rest x old middle read new o sign r is = record {
    expr = Joined x.0 o.expr r.expr;
    goes = o.goes ∙ onward_some joined signs phrase shrinks o.expr bytes x sign ∙ ap (λ (y : Read Named). go_on y (λ next. onward joined signs phrase (Joined x.0 o.expr next))) r.read;
    steps = is
        ∙ ap (λ (l : NamedSteps). l ++ step.Joined x.0 ∷ []) (r.steps ∙ ap (λ (l : NamedSteps). l ++ steps_of r.expr) o.steps)
        ∙ append_assoc (old ++ steps_of o.expr) (steps_of r.expr) (step.Joined x.0 ∷ [])
        ∙ append_assoc old (steps_of o.expr) (steps_of r.expr ++ step.Joined x.0 ∷ []);
  }

  pub goes_refused : (whole : Phrase Named) (text bytes : List ℕ) (x : Operation × List ℕ) (old middle : NamedSteps) (misfit : Misfit) → Onward whole signs phrase text old middle bytes → sign_in signs bytes ≡ Some x →
      Refuses misfit (phrase x.1) → Refuses misfit (whole text)
  goes_refused whole text bytes x old middle misfit o sign r = refuses_as misfit (phrase x.1) (whole text)
      (λ left e. o.goes ∙ onward_some joined signs phrase shrinks o.expr bytes x sign ∙ ap (λ (y : Read Named). go_on y (λ next. onward joined signs phrase (Joined x.0 o.expr next))) e) r

  pub stays : (whole : Phrase Named) (text rest : List ℕ) (old new : NamedSteps) → Onward whole signs phrase text old new rest → sign_in signs rest ≡ None → Reads whole text old new rest
  stays whole text rest old new o none = record { expr = o.expr; read = o.goes ∙ onward_none joined signs phrase o.expr rest none; steps = o.steps }

-- terms and sums begin

pub term_begins : (factor : Phrase Named) → Shrinks factor → (text rest : List ℕ) (old new : NamedSteps) → Reads factor text old new rest → Onward (term_of factor) times_signs factor text old new rest
unfolding term_of
term_begins factor one text rest old new r = begins times_signs factor one text rest old new r

pub term_refused : (factor : Phrase Named) → Shrinks factor → (text : List ℕ) (misfit : Misfit) → Refuses misfit (factor text) → Refuses misfit (term_of factor text)
unfolding term_of
term_refused factor one text misfit r = begins_refused times_signs factor one text misfit r

pub sum_begins : (factor : Phrase Named) → Shrinks factor → (text rest : List ℕ) (old new : NamedSteps) → Reads (term_of factor) text old new rest →
    Onward (sum_of factor) sum_signs (term_of factor) text old new rest
unfolding sum_of
sum_begins factor one text rest old new r = begins sum_signs (term_of factor) (term_shrinks factor one) text rest old new r

pub sum_refused : (factor : Phrase Named) → Shrinks factor → (text : List ℕ) (misfit : Misfit) → Refuses misfit (term_of factor text) → Refuses misfit (sum_of factor text)
unfolding sum_of
sum_refused factor one text misfit r = begins_refused sum_signs (term_of factor) (term_shrinks factor one) text misfit r

-- a list that is read up to here
pub record MoreRead (most left : ℕ) (text : List ℕ) (old new : NamedSteps) (rest : List ℕ) : Type 0 where
  pub exprs : List Named
  pub goes : further most text ≡ onto exprs (further left rest)
  pub steps : new ≡ old ++ all_steps exprs

pub more_begins : (most : ℕ) (text : List ℕ) (old : NamedSteps) → MoreRead most most text old old text
more_begins most text old = record { exprs = []; goes = same (further most text); steps = sym (append-nil old) } where
  same : (read : Read (List Named)) → read ≡ onto [] read
  same (Ok found) = refl
  same (Err left) = refl

-- steps of a list and of one more
steps_more : (exprs : List Named) (e : Named) (old middle new : NamedSteps) → middle ≡ old ++ all_steps exprs → new ≡ middle ++ steps_of e → new ≡ old ++ all_steps (exprs ++ e ∷ [])
steps_more exprs e old middle new first is =
    is ∙ ap (λ (l : NamedSteps). l ++ steps_of e) first ∙ append_assoc old (all_steps exprs) (steps_of e)
    ∙ ap (λ (l : NamedSteps). old ++ l) (ap (λ (l : NamedSteps). all_steps exprs ++ l) (sym (append-nil (steps_of e))) ∙ sym (flat_map-append steps_of exprs (e ∷ [])))

pub more_goes : (most m n : ℕ) (text bytes behind rest : List ℕ) (old middle new : NamedSteps) → m ≡ suc n → MoreRead most m text old middle bytes → a_sign 44 bytes ≡ Ok (tt, behind) →
    Reads expr_in behind middle new rest → MoreRead most n text old new rest
unfolding further
more_goes most m n text bytes behind rest old middle new is o comma r = record {
  exprs = o.exprs ++ r.expr ∷ [];
  goes = o.goes ∙ ap (λ k. onto o.exprs (phrases expr_in k bytes)) is ∙ few_more expr_in n o.exprs bytes behind rest r.expr comma r.read;
  steps = steps_more o.exprs r.expr old middle new o.steps r.steps;
}

pub more_refused : (most m n : ℕ) (text bytes behind : List ℕ) (old middle : NamedSteps) (misfit : Misfit) → m ≡ suc n → MoreRead most m text old middle bytes → a_sign 44 bytes ≡ Ok (tt, behind) →
    Refuses misfit (expr_in behind) → Refuses misfit (further most text)
unfolding further
more_refused most m n text bytes behind old middle misfit is o comma r = refuses_as misfit (expr_in behind) (further most text)
    (λ left e. o.goes ∙ ap (λ k. onto o.exprs (phrases expr_in k bytes)) is ∙ ap (onto o.exprs) (behind_comma left e)) r where
      behind_comma : (left : ℕ) → expr_in behind ≡ Err left → phrases expr_in (suc n) bytes ≡ Err left
      behind_comma left e = rw (comma, e) refl

pub more_ends : (most m n : ℕ) (text rest : List ℕ) (old new : NamedSteps) (left : ℕ) → m ≡ suc n → MoreRead most m text old new rest → a_sign 44 rest ≡ Err left → ReadsAll (further most) text old new rest
unfolding further
more_ends most m n text rest old new left is o none = record {
  exprs = o.exprs;
  read = o.goes ∙ ap (λ k. onto o.exprs (phrases expr_in k rest)) is ∙ few_end expr_in n o.exprs rest left none;
  steps = o.steps;
}

pub more_full : (most m : ℕ) (text rest : List ℕ) (old new : NamedSteps) → m ≡ 0 → MoreRead most m text old new rest → ReadsAll (further most) text old new rest
unfolding further
more_full most m text rest old new is o = record {
  exprs = o.exprs;
  read = o.goes ∙ ap (λ k. onto o.exprs (phrases expr_in k rest)) is ∙ few_full expr_in o.exprs rest;
  steps = o.steps;
}

-- whole texts

abbrev others : Named → Phrase (List Named)
others first = further (most_exprs - 1) >>= (λ others. give (first ∷ others))

pub list_read : (text middle rest : List ℕ) (first all : NamedSteps) → Reads expr_in text [] first middle → ReadsAll (further (most_exprs - 1)) middle first all rest → the_end [] rest ≡ Ok (tt, []) →
    ReadsAll (ended [] list_in) text [] all []
unfolding list_in
list_read text middle rest first all r more end = record {
  exprs = r.expr ∷ more.exprs;
  read = ap (λ (x : Read Named). go_on (go_on x others) (λ found. the_end [] >>= (λ end. give found))) r.read
      ∙ ap (λ (x : Read (List Named)). go_on (go_on x (λ others. give (r.expr ∷ others))) (λ found. the_end [] >>= (λ end. give found))) more.read
      ∙ ap (λ (x : Read (Unit {0})). go_on x (λ end. give (r.expr ∷ more.exprs))) end;
  steps = more.steps ∙ ap (λ (l : NamedSteps). l ++ all_steps more.exprs) r.steps;
}

pub first_refused : (text : List ℕ) (misfit : Misfit) → Refuses misfit (expr_in text) → Refuses misfit (ended [] list_in text)
unfolding list_in
first_refused text misfit r = refuses_as misfit (expr_in text) (ended [] list_in text)
    (λ left e. ap (λ (x : Read Named). go_on (go_on x others) (λ found. the_end [] >>= (λ end. give found))) e) r

pub others_refused : (text middle : List ℕ) (first : NamedSteps) (misfit : Misfit) → Reads expr_in text [] first middle → Refuses misfit (further (most_exprs - 1) middle) → Refuses misfit (ended [] list_in text)
unfolding list_in
others_refused text middle first misfit r more = refuses_as misfit (further (most_exprs - 1) middle) (ended [] list_in text)
    (λ left e.
    ap (λ (x : Read Named). go_on (go_on x others) (λ found. the_end [] >>= (λ end. give found))) r.read
    ∙ ap (λ (x : Read (List Named)). go_on (go_on x (λ others. give (r.expr ∷ others))) (λ found. the_end [] >>= (λ end. give found))) e) more

pub end_refused : (text middle rest : List ℕ) (first all : NamedSteps) (misfit : Misfit) → Reads expr_in text [] first middle → ReadsAll (further (most_exprs - 1)) middle first all rest →
    RefusesExactly misfit (the_end [] rest) → Refuses misfit (ended [] list_in text)
unfolding list_in
end_refused text middle rest first all misfit r more end = refuses_as misfit (the_end [] rest) (ended [] list_in text)
    (λ left e.
    ap (λ (x : Read Named). go_on (go_on x others) (λ found. the_end [] >>= (λ end. give found))) r.read
    ∙ ap (λ (x : Read (List Named)). go_on (go_on x (λ others. give (r.expr ∷ others))) (λ found. the_end [] >>= (λ end. give found))) more.read
    ∙ ap (λ (x : Read (Unit {0})). go_on x (λ end. give (r.expr ∷ more.exprs))) e) (exactly_refused misfit (the_end [] rest) end)
