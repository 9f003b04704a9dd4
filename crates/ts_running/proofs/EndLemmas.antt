-- Expressions up to the end of a text: where they are refused, and what goes on to the end. What stands behind an expression
-- decides where it ends, so each lemma speaks of an expression and of what comes behind it.
use Rattle.std.proofs.Common.{◌≡◌, ℕ, zero, suc, ◌+◌, ◌-◌, ◌≤◌, ◌==◌, true, false, List, [], ◌∷◌, ◌++◌, length, length-append, length-drop, take, drop, take-append-drop, append_assoc, Option, Some, None, Ok, Err, refl, sym, ◌∙◌, ap, subst, arith, inl, inr}
use Rattle.std.proofs.Math.Seq.{take-append_seam}
use Rattle.std.proofs.lemmas.Bool.{cases_Bool, and_parts}
use Rattle.std.proofs.lemmas.List.{length-take}
use Rattle.std.proofs.lemmas.Slice.Eq.{bytes_eq-Decides}
use Rattle.std.specs.Str.{bytes_eq}
use Rattle.ts_base.specs.Name.{is_blank}
use Rattle.ts_text.specs.Phrase.{unblanked, are_blanks, Front, Read, Phrase, go_on, ◌>>=◌, give, behind_byte, a_sign, made, token, phrases, the_end, ended, outcome, parted_by, if_sign, Signs, by_sign, onward_most, onward, joined_by, sign_or, sign_in}
use Rattle.ts_text.specs.Place.{everywhere, RefusesInPlace}
use Rattle.ts_text.specs.declared.token.TokenKind.{TokenKind}
use Rattle.ts_text.specs.declared.token.TokenKind.TheVariants.{Sign}
use Rattle.ts_text.proofs.CallerLemmas.{by_sign_some, by_sign_none, onward_enough, one_more, sign_absent, sign_end, sign_other, sign_there, Alike, Any, Carries, Follows, Goes, IsSign, Shrinks, Stops, Yields, YieldsIn, begins, blanked, blanks_before, bind-ok, bytes_taking, in_bytes, sign_is, sign_left, sign_yields, split_same, stops-le, stops_here, token-found, token_is, unblanked_past}
use Rattle.ts_expr.proofs.EndLemmas.{Way, end_is}
use Rattle.ts_running.specs.declared.step.Operation.{Operation}
use Rattle.ts_running.specs.declared.step.Operation.TheVariants.{Plus, Less, Times}
use Rattle.ts_running.specs.Grammar.{Column, Digits, Opposite, Joined, expr_front, Named, joined, name_in, digits_as, digits_in, leaf_in, times_signs, sum_signs, term_of, sum_of, in_bracket, factor_in, expr_in, further, list_in}
use Rattle.ts_running.proofs.FrontLemmas.{expr_laws, operator_sign, other_sign}
use Rattle.ts_running.proofs.GrammarLemmas.{name_yields, digits_yields, factor_shrinks, term_shrinks}

-- bytes that can't be
abbrev Never : List ℕ → Type 0
Never before = ⊥

-- a phrase over these tokens
abbrev Takes : {A : Type 0} → Phrase A → Type 0
Takes phrase = YieldsIn expr_front (Carries expr_front) Never Any phrase

takes : {A : Type 0} (phrase : Phrase A) → Yields expr_front Any phrase → Takes phrase
takes phrase one = in_bytes expr_front expr_laws Never Any phrase one

-- A phrase that takes all up to the end. Where it is refused, tokens stand before; with the token that stands there it is
-- refused there, whatever comes behind; and what stands before goes on.
pub record Closes {A : Type 0} (phrase : Phrase A) : Type 0 where
  pub err : (bytes : List ℕ) (left : ℕ) → phrase bytes ≡ Err left → Stops (Carries expr_front) bytes left
  pub fails : (before here there : List ℕ) → phrase (before ++ here) ≡ Err (length here) → Alike expr_front here there → phrase (before ++ there) ≡ Err (length there)
  pub goes : (before here : List ℕ) → phrase (before ++ here) ≡ Err (length here) → Way phrase before
  pub some : Way phrase []

-- what is refused behind bytes that are taken
stops_on : (bytes middle : List ℕ) (left : ℕ) → Carries expr_front bytes middle → Stops (Carries expr_front) middle left → Stops (Carries expr_front) bytes left
stops_on bytes middle left first next = record {
  rest = next.rest;
  takes = (bytes_taking expr_front).on bytes middle next.rest first next.takes;
  here = next.here;
}

-- behind blanks
behind_blanks : (blanks rest other : List ℕ) → are_blanks blanks ≡ true → Follows expr_front rest other → Follows expr_front (blanks ++ rest) (blanks ++ other)
behind_blanks [] rest other all f = f
behind_blanks (b ∷ blanks) rest other all f =
    inr (record { first = b; more = blanks ++ other; split = refl; blank = (and_parts (is_blank b) (are_blanks blanks) all).0 })

-- A phrase has been read, and then it stops at `here`: so it does with other bytes that begin with the same token or a blank.
record Passes {A : Type 0} (phrase : Phrase A) (before here : List ℕ) (found : A × List ℕ) : Type 0 where
  middle : List ℕ
  rest : found.1 ≡ middle ++ here
  goes : (there : List ℕ) → Follows expr_front here there → phrase (before ++ there) ≡ Ok (found.0, middle ++ there)

passes : {A : Type 0} (phrase : Phrase A) → Takes phrase → (before here : List ℕ) (found : A × List ℕ) → phrase (before ++ here) ≡ Ok found → Stops (Carries expr_front) found.1 (length here) → Passes phrase before here found
passes {A} phrase one before here found is stops = record { middle = middle; rest = rest_is; goes = goes } where
  way : Carries expr_front (before ++ here) found.1
  way = (one.ok (before ++ here) found is).1

  far : Carries expr_front found.1 stops.rest
  far = stops.takes

  blanks : List ℕ
  blanks = (blanked stops.rest).blanks

  middle : List ℕ
  middle = far.used ++ blanks

  split : found.1 ≡ middle ++ unblanked stops.rest
  split = far.whole ∙ ap (λ (l : List ℕ). far.used ++ l) (blanked stops.rest).split ∙ sym (append_assoc far.used blanks (unblanked stops.rest))

  parts : (before ≡ way.used ++ middle) × (here ≡ unblanked stops.rest)
  parts = split_same before (way.used ++ middle) here (unblanked stops.rest) (way.whole ∙ ap (λ (l : List ℕ). way.used ++ l) split ∙ sym (append_assoc way.used middle (unblanked stops.rest))) stops.here

  rest_is : found.1 ≡ middle ++ here
  rest_is = split ∙ ap (λ (l : List ℕ). middle ++ l) (sym parts.1)

  stops_at : stops.rest ≡ blanks ++ here
  stops_at = (blanked stops.rest).split ∙ ap (λ (l : List ℕ). blanks ++ l) (sym parts.1)

  follows : (there : List ℕ) → Follows expr_front here there → Follows expr_front found.1 (middle ++ there)
  follows there f =
      let near : Follows expr_front stops.rest (blanks ++ there) = subst (λ (l : List ℕ). Follows expr_front l (blanks ++ there)) (sym stops_at) (behind_blanks blanks here there (blanked stops.rest).all f) in
      subst (λ (l : List ℕ). Follows expr_front found.1 l) (sym (append_assoc far.used blanks there)) (far.follows (blanks ++ there) near)

  goes : (there : List ℕ) → Follows expr_front here there → phrase (before ++ there) ≡ Ok (found.0, middle ++ there)
  goes there f =
      let at : phrase (way.used ++ found.1) ≡ Ok (found.0, found.1) = ap phrase (sym way.whole) ∙ is in
      ap (λ (l : List ℕ). phrase (l ++ there)) parts.0 ∙ ap phrase (append_assoc way.used middle there)
      ∙ one.keeps way.used found.1 (middle ++ there) found.0 at (follows there f)

-- one phrase, and then one up to the end
then_closes : {A B : Type 0} (first : Phrase A) (next : A → Phrase B) → Takes first → ((a : A) → Closes (next a)) → Closes (first >>= next)
then_closes {A} {B} first next one two = record {
  err = λ bytes left is. err_first bytes left (first bytes) refl is;
  fails = λ before here there is alike. fails_first before here there alike (first (before ++ here)) refl is;
  goes = λ before here is. goes_first before here (first (before ++ here)) refl is;
  some = on [] one.some;
} where
  -- the first goes on, and then the next
  on : (before : List ℕ) → Goes Any first before → Way (first >>= next) before
  on before goes =
      let way = (two goes.found).some in
      let tail = goes.starts way.more in
      record {
        more = tail.0;
        found = way.found;
        reads = ap (λ (l : List ℕ). (first >>= next) (before ++ l)) (sym tail.1)
            ∙ ap (λ (r : Read A). go_on r next) (goes.reads way.more)
            ∙ way.reads;
      }

  err_first : (bytes : List ℕ) (left : ℕ) (read : Read A) → first bytes ≡ read → go_on (first bytes) next ≡ Err left → Stops (Carries expr_front) bytes left
  err_first bytes left (Err before) e is = let at : Err before ≡ Err left = rw e at is in let same : before ≡ left = cc in one.err bytes left (e ∙ ap Err same)
  err_first bytes left (Ok x) e is = stops_on bytes x.1 left (one.ok bytes x e).1 ((two x.0).err x.1 left (rw e at is))

  fails_first : (before here there : List ℕ) → Alike expr_front here there → (read : Read A) → first (before ++ here) ≡ read → go_on (first (before ++ here)) next ≡ Err (length here) → go_on (first (before ++ there)) next ≡ Err (length there)
  fails_first before here there alike (Err left) e is =
      let at : Err left ≡ Err (length here) = rw e at is in
      let same : left ≡ length here = cc in
      ap (λ (r : Read A). go_on r next) (one.fails before here there (e ∙ ap Err same) (λ never. never) alike)
  fails_first before here there alike (Ok x) e is =
      let at : next x.0 x.1 ≡ Err (length here) = rw e at is in
      let lies = passes first one before here x e ((two x.0).err x.1 (length here) at) in
      ap (λ (r : Read A). go_on r next) (lies.goes there (inl alike))
      ∙ (two x.0).fails lies.middle here there (ap (next x.0) (sym lies.rest) ∙ at) alike

  goes_first : (before here : List ℕ) (read : Read A) → first (before ++ here) ≡ read → go_on (first (before ++ here)) next ≡ Err (length here) → Way (first >>= next) before
  goes_first before here (Err left) e is =
      let at : Err left ≡ Err (length here) = rw e at is in
      let same : left ≡ length here = cc in
      on before (one.goes before here (e ∙ ap Err same))
  goes_first before here (Ok x) e is =
      let at : next x.0 x.1 ≡ Err (length here) = rw e at is in
      let lies = passes first one before here x e ((two x.0).err x.1 (length here) at) in
      let way = (two x.0).goes lies.middle here (ap (next x.0) (sym lies.rest) ∙ at) in
      record {
        more = way.more;
        found = way.found;
        reads = ap (λ (r : Read A). go_on r next) (lies.goes (32 ∷ way.more) (inr (record { first = 32; more = way.more; split = refl; blank = refl }))) ∙ way.reads;
      }

-- what is read up to the end, as something else
made_closes : {A B : Type 0} (phrase : Phrase A) (make : A → B) → Closes phrase → Closes (phrase >>= (λ a. give (make a)))
made_closes {A} {B} phrase make one = record {
  err = λ bytes left is. one.err bytes left (was bytes left (phrase bytes) refl is);
  fails = λ before here there is alike. ap (λ (r : Read A). go_on r (λ a. give (make a))) (one.fails before here there (was (before ++ here) (length here) (phrase (before ++ here)) refl is) alike);
  goes = λ before here is. way before (one.goes before here (was (before ++ here) (length here) (phrase (before ++ here)) refl is));
  some = way [] one.some;
} where
  was : (bytes : List ℕ) (left : ℕ) (read : Read A) → phrase bytes ≡ read → go_on {A = A} {B = B} (phrase bytes) (λ a. give (make a)) ≡ Err left → phrase bytes ≡ Err left
  was bytes left (Ok x) e is = absurd (let no = rw e at is in cc)
  was bytes left (Err other) e is = let at : Err other ≡ Err left = rw e at is in let same : other ≡ left = cc in e ∙ ap Err same

  way : (before : List ℕ) → Way phrase before → Way (phrase >>= (λ a. give (make a))) before
  way before w = record { more = w.more; found = make w.found; reads = ap (λ (r : Read A). go_on r (λ a. give (make a))) w.reads }

-- a phrase that reads the same
closes_same : {A : Type 0} (phrase other : Phrase A) → ((bytes : List ℕ) → other bytes ≡ phrase bytes) → Closes phrase → Closes other
closes_same phrase other same one = record {
  err = λ bytes left is. one.err bytes left (sym (same bytes) ∙ is);
  fails = λ before here there is alike. same (before ++ there) ∙ one.fails before here there (sym (same (before ++ here)) ∙ is) alike;
  goes = λ before here is. way before (one.goes before here (sym (same (before ++ here)) ∙ is));
  some = way [] one.some;
} where
  way : (before : List ℕ) → Way phrase before → Way other before
  way before w = record { more = w.more; found = w.found; reads = same (before ++ 32 ∷ w.more) ∙ w.reads }

-- the end

end_at : (bytes : List ℕ) → unblanked bytes ≡ [] → the_end [] bytes ≡ Ok (tt, [])
unfolding the_end
end_at bytes is = let same : bytes_eq (unblanked bytes) [] ≡ true = (bytes_eq-Decides (unblanked bytes) []).1 is in rw same refl

end_left : (bytes : List ℕ) (left : ℕ) → the_end [] bytes ≡ Err left → left ≡ length (unblanked bytes)
unfolding the_end
end_left bytes left is = elim (cases_Bool (bytes_eq (unblanked bytes) [])) [
  | inl t ↦ absurd (let no = rw t at is in cc)
  | inr f ↦ let at : Err (length (unblanked bytes)) ≡ Err left = rw f at is in let same : length (unblanked bytes) ≡ left = cc in sym same
]

no_end : (bytes : List ℕ) → (unblanked bytes ≡ [] → ⊥) → the_end [] bytes ≡ Err (length (unblanked bytes))
unfolding the_end
no_end bytes differs = elim (cases_Bool (bytes_eq (unblanked bytes) [])) [
  | inl t ↦ absurd (differs ((bytes_eq-Decides (unblanked bytes) []).0 t))
  | inr f ↦ rw f refl
]

-- a token shows
token_shows : (here there : List ℕ) → Alike expr_front here there → (unblanked there ≡ there) × (there ≡ [] → ⊥)
token_shows here there alike =
    let t : TokenKind × ℕ = (alike.kind, alike.size) in
    let one = begins expr_front expr_laws there t alike.is in
    let at : expr_front (one.first ∷ one.more) ≡ Some t = ap expr_front (sym one.split) ∙ alike.is in
    let shows = expr_laws.shows one.first one.more t at in
    (rw one.split (rw shows refl), λ none. absurd (let no = sym one.split ∙ none in cc))

end_closes : Closes (the_end [])
end_closes = record {
  err = λ bytes left is. stops_here expr_front (Carries expr_front) (bytes_taking expr_front) bytes left (end_left bytes left is);
  fails = fails;
  goes = λ before here is. record { more = []; found = tt; reads = goes before here is };
  some = record { more = []; found = tt; reads = end_at (32 ∷ []) refl };
} where
  blanks : (before here : List ℕ) → the_end [] (before ++ here) ≡ Err (length here) → are_blanks before ≡ true
  blanks before here is = (blanks_before before here (sym (end_left (before ++ here) (length here) is))).0

  fails : (before here there : List ℕ) → the_end [] (before ++ here) ≡ Err (length here) → Alike expr_front here there → the_end [] (before ++ there) ≡ Err (length there)
  fails before here there is alike =
      let shows = token_shows here there alike in
      let at : unblanked (before ++ there) ≡ there = unblanked_past before there (blanks before here is) ∙ shows.0 in
      no_end (before ++ there) (λ none. shows.1 (sym at ∙ none)) ∙ ap (λ (l : List ℕ). Err (length l)) at

  goes : (before here : List ℕ) → the_end [] (before ++ here) ≡ Err (length here) → the_end [] (before ++ 32 ∷ []) ≡ Ok (tt, [])
  goes before here is = end_at (before ++ 32 ∷ []) (unblanked_past before (32 ∷ []) (blanks before here is))

-- signs that decide

-- where this phrase is read, the sign doesn't stand
abbrev Quiet : {A : Type 0} → ℕ → Phrase A → Type 0
Quiet {A} sign phrase = (bytes : List ℕ) (found : A × List ℕ) → phrase bytes ≡ Ok found → (left : ℕ) × (a_sign sign bytes ≡ Err left)

-- behind bytes that aren't all blank it plays no part what comes
sign_within : (sign : ℕ) (before here there : List ℕ) (left : ℕ) → are_blanks before ≡ false → a_sign sign (before ++ here) ≡ Err left → (other : ℕ) × (a_sign sign (before ++ there) ≡ Err other)
unfolding a_sign
sign_within sign [] here there left some is = absurd (cc)
sign_within sign (b ∷ before) here there left some is = elim (cases_Bool (is_blank b)) [
  | inl t ↦ let rest = sign_within sign before here there left (rw t at some) (rw t at is) in (rest.0, rw t rest.1)
  | inr f ↦ elim (cases_Bool (b == sign)) [
    | inl same ↦ absurd (let none = rw (f, same) at is in cc)
    | inr differs ↦ (suc (length (before ++ there)), rw (f, differs) refl)
  ]
]

-- a phrase behind a sign, and another where it doesn't stand
if_sign_closes : {B : Type 0} (sign : ℕ) → IsSign expr_front sign → (first other : Phrase B) → Closes first → Closes other → Quiet sign other → Closes (if_sign sign first other)
if_sign_closes {B} sign is_sign first other one two quiet = record {
  err = λ bytes left is. err_sign bytes left (a_sign sign bytes) refl is;
  fails = λ before here there is alike. fails_sign before here there alike (a_sign sign (before ++ here)) refl is;
  goes = λ before here is. goes_sign before here (a_sign sign (before ++ here)) refl is;
  some = by_other [] two.some;
} where
  whole : Phrase B
  whole = if_sign sign first other

  signs : Takes (a_sign sign)
  signs = takes (a_sign sign) (sign_yields expr_front expr_laws sign is_sign)

  by_other : (before : List ℕ) → Way other before → Way (if_sign sign first other) before
  by_other before way =
      let none = quiet (before ++ 32 ∷ way.more) (way.found, []) way.reads in
      record { more = way.more; found = way.found; reads = sign_absent sign first other (before ++ 32 ∷ way.more) none.0 none.1 ∙ way.reads }

  err_sign : (bytes : List ℕ) (left : ℕ) (read : Read (Unit {0})) → a_sign sign bytes ≡ read → if_sign sign first other bytes ≡ Err left → Stops (Carries expr_front) bytes left
  err_sign bytes left (Err before) e is = two.err bytes left (sym (sign_absent sign first other bytes before e) ∙ is)
  err_sign bytes left (Ok x) e is = stops_on bytes x.1 left (signs.ok bytes x e).1 (one.err x.1 left (sym (sign_there sign first other bytes x.1 e) ∙ is))

  -- where it doesn't stand it doesn't with the same token either
  still_none : (before here there : List ℕ) → Alike expr_front here there → (left : ℕ) → a_sign sign (before ++ here) ≡ Err left → (left_there : ℕ) × (a_sign sign (before ++ there) ≡ Err left_there)
  still_none before here there alike left e = elim (cases_Bool (are_blanks before)) [
    | inl all ↦
        let t : TokenKind × ℕ = (alike.kind, alike.size) in
        let begin = begins expr_front expr_laws here t alike.was in
        let at : expr_front (begin.first ∷ begin.more) ≡ Some t = ap expr_front (sym begin.split) ∙ alike.was in
        let shows = expr_laws.shows begin.first begin.more t at in
        let here_is : unblanked here ≡ here = rw begin.split (rw shows refl) in
        let size : left ≡ length here = sign_left sign (before ++ here) left e ∙ ap length (unblanked_past before here all ∙ here_is) in
        (length there, signs.fails before here there (e ∙ ap Err size) (λ never. never) alike)
    | inr some ↦ sign_within sign before here there left some e
  ]

  fails_sign : (before here there : List ℕ) → Alike expr_front here there → (read : Read (Unit {0})) → a_sign sign (before ++ here) ≡ read → if_sign sign first other (before ++ here) ≡ Err (length here) →
      if_sign sign first other (before ++ there) ≡ Err (length there)
  fails_sign before here there alike (Err left) e is =
      let at : other (before ++ here) ≡ Err (length here) = sym (sign_absent sign first other (before ++ here) left e) ∙ is in
      let none = still_none before here there alike left e in
      sign_absent sign first other (before ++ there) none.0 none.1 ∙ two.fails before here there at alike
  fails_sign before here there alike (Ok x) e is =
      let at : first x.1 ≡ Err (length here) = sym (sign_there sign first other (before ++ here) x.1 e) ∙ is in
      let lies = passes (a_sign sign) signs before here x e (one.err x.1 (length here) at) in
      sign_there sign first other (before ++ there) (lies.middle ++ there) (lies.goes there (inl alike))
      ∙ one.fails lies.middle here there (ap first (sym lies.rest) ∙ at) alike

  goes_sign : (before here : List ℕ) (read : Read (Unit {0})) → a_sign sign (before ++ here) ≡ read → if_sign sign first other (before ++ here) ≡ Err (length here) → Way (if_sign sign first other) before
  goes_sign before here (Err left) e is = by_other before (two.goes before here (sym (sign_absent sign first other (before ++ here) left e) ∙ is))
  goes_sign before here (Ok x) e is =
      let at : first x.1 ≡ Err (length here) = sym (sign_there sign first other (before ++ here) x.1 e) ∙ is in
      let lies = passes (a_sign sign) signs before here x e (one.err x.1 (length here) at) in
      let way = one.goes lies.middle here (ap first (sym lies.rest) ∙ at) in
      record {
        more = way.more;
        found = way.found;
        reads = sign_there sign first other (before ++ 32 ∷ way.more) (lies.middle ++ 32 ∷ way.more) (lies.goes (32 ∷ way.more) (inr (record { first = 32; more = way.more; split = refl; blank = refl }))) ∙ way.reads;
      }

-- what begins with another sign
quiet_behind : {A : Type 0} (sign other : ℕ) → (other == sign) ≡ false → (phrase : Unit {0} → Phrase A) → Quiet sign (a_sign other >>= phrase)
quiet_behind sign other differs phrase bytes found is =
    let first = bind-ok (a_sign other bytes) phrase found is in
    (length (unblanked bytes), sign_other sign other bytes first.0.1 differs (sign_is other bytes first.0.1 first.1))

-- what another sign decides
quiet_if : {A : Type 0} (sign other : ℕ) → (other == sign) ≡ false → (first rest : Phrase A) → Quiet sign rest → Quiet sign (if_sign other first rest)
quiet_if {A} sign other differs first rest quiet bytes found is = by_read (a_sign other bytes) refl where
  by_read : (read : Read (Unit {0})) → a_sign other bytes ≡ read → (left : ℕ) × (a_sign sign bytes ≡ Err left)
  by_read (Ok x) e = (length (unblanked bytes), sign_other sign other bytes x.1 differs (sign_is other bytes x.1 e))
  by_read (Err left) e = quiet bytes found (sym (sign_absent other first rest bytes left e) ∙ is)

-- what begins with digits
quiet_digits : {A : Type 0} (sign : ℕ) → IsSign expr_front sign → (phrase : ℕ → Phrase A) → Quiet sign (digits_in >>= phrase)
unfolding digits_in
quiet_digits {A} sign is_sign phrase bytes found is = by_read (a_sign sign bytes) refl where
  first : (x : ℕ × List ℕ) × (token expr_front digits_as bytes ≡ Ok x) × (phrase x.0 x.1 ≡ Ok found)
  first = bind-ok (token expr_front digits_as bytes) phrase found is

  no_sign : (kind : TokenKind) (text : List ℕ) → digits_as kind text ≡ Some first.0.0 → (size : ℕ) → ◌≡◌ {A = Option (TokenKind × ℕ)} (Some (Sign, 1)) (Some (kind, size)) → ⊥
  no_sign kind text accepted size at = let same = token_is Sign kind 1 size at in let none = subst (λ (k : TokenKind). digits_as k text ≡ Some first.0.0) (sym same.0) accepted in absurd (cc)

  by_read : (read : Read (Unit {0})) → a_sign sign bytes ≡ read → (left : ℕ) × (a_sign sign bytes ≡ Err left)
  by_read (Err left) e = (left, e)
  by_read (Ok x) e =
      let token_there = token-found expr_front expr_laws digits_as bytes first.0.1 first.0.0 first.1 in
      let here : sign ∷ x.1 ≡ token_there.text ++ first.0.1 = sym (sign_is sign bytes x.1 e) ∙ token_there.whole in
      let at : ◌≡◌ {A = Option (TokenKind × ℕ)} (Some (Sign, 1)) (Some (token_there.kind, length token_there.text)) = sym (is_sign x.1) ∙ ap expr_front here ∙ token_there.stands in
      absurd (no_sign token_there.kind token_there.text token_there.accepted (length token_there.text) at)

-- none of some signs stands where this phrase is read
abbrev QuietAll : {A : Type 0} → Signs Operation → Phrase A → Type 0
QuietAll {A} signs phrase = (bytes : List ℕ) (found : A × List ℕ) → phrase bytes ≡ Ok found → sign_in signs bytes ≡ None

-- what comes behind an expression

-- one phrase after the other, and then a third
behind_both : {A B C : Type 0} (first : Phrase A) (second : A → Phrase B) (last : B → Phrase C) (bytes : List ℕ) →
    ((first >>= second) >>= last) bytes ≡ (first >>= (λ a. second a >>= last)) bytes
behind_both {A} {B} {C} first second last bytes = by_read (first bytes) where
  by_read : (read : Read A) → go_on (go_on read second) last ≡ go_on read (λ a. second a >>= last)
  by_read (Ok x) = refl
  by_read (Err left) = refl

-- a sign decides what comes behind
behind_if : {A B : Type 0} (sign : ℕ) (first other : Phrase A) (last : A → Phrase B) (bytes : List ℕ) →
    (if_sign sign first other >>= last) bytes ≡ if_sign sign (first >>= last) (other >>= last) bytes
behind_if {A} {B} sign first other last bytes = by_read (a_sign sign bytes) where
  by_read : (read : Read (Unit {0})) → go_on (parted_by read first other bytes) last ≡ parted_by read (first >>= last) (other >>= last) bytes
  by_read (Ok x) = refl
  by_read (Err left) = refl

-- Expressions with signs between them, and then something that begins with none of these. Other signs may be asked not to
-- stand there, by what closes one of the expressions.
module _ {B : Type 0} (signs others : Signs Operation) (phrase : Phrase Named) (shrinks : Shrinks phrase)
    (apart : (bytes : List ℕ) (x : Operation × List ℕ) → sign_in signs bytes ≡ Some x → sign_in others bytes ≡ None)
    (parts_close : (behind : Operation → Phrase B) (other : Phrase B) → ((operation : Operation) → Closes (behind operation)) → Closes other → QuietAll signs other → Closes (by_sign signs behind other))
    (closing : (next : Named → Phrase B) → ((e : Named) → Closes (next e)) → ((e : Named) → QuietAll others (next e)) → Closes (phrase >>= next))
    (last : Named → Phrase B) (last_closes : (e : Named) → Closes (last e)) (quiet : (e : Named) → QuietAll signs (last e)) (hush : (e : Named) → QuietAll others (last e)) where
  -- behind a sign
  abbrev next_behind : ℕ → Named → Operation → Phrase B
  next_behind n e operation = phrase >>= (λ next. onward_most joined signs phrase n (Joined operation e next) >>= last)

  most_none : (n : ℕ) (e : Named) (bytes : List ℕ) → sign_in signs bytes ≡ None → (onward_most joined signs phrase n e >>= last) bytes ≡ last e bytes
  most_none zero e bytes none = refl
  most_none (suc n) e bytes none = ap (λ (r : Read Named). go_on r last) (by_sign_none signs (one_more joined signs phrase n e) (give e) bytes none)

  most_some : (n : ℕ) (e : Named) (bytes : List ℕ) (x : Operation × List ℕ) → sign_in signs bytes ≡ Some x → (onward_most joined signs phrase (suc n) e >>= last) bytes ≡ next_behind n e x.0 x.1
  most_some n e bytes x there =
      ap (λ (r : Read Named). go_on r last) (by_sign_some signs (one_more joined signs phrase n e) (give e) bytes x there)
      ∙ behind_both phrase (λ next. onward_most joined signs phrase n (Joined x.0 e next)) last x.1

  most_is : (n : ℕ) (e : Named) (bytes : List ℕ) → (onward_most joined signs phrase (suc n) e >>= last) bytes ≡ by_sign signs (next_behind n e) (last e) bytes
  most_is n e bytes = by_found (sign_in signs bytes) refl where
    by_found : (found : Option (Operation × List ℕ)) → sign_in signs bytes ≡ found → (onward_most joined signs phrase (suc n) e >>= last) bytes ≡ by_sign signs (next_behind n e) (last e) bytes
    by_found None none = most_none (suc n) e bytes none ∙ sym (by_sign_none signs (next_behind n e) (last e) bytes none)
    by_found (Some x) there = most_some n e bytes x there ∙ sym (by_sign_some signs (next_behind n e) (last e) bytes x there)

  most_hush : (n : ℕ) (e : Named) → QuietAll others (onward_most joined signs phrase n e >>= last)
  most_hush zero e bytes found is = hush e bytes found is
  most_hush (suc n) e bytes found is = by_found (sign_in signs bytes) refl where
    by_found : (read : Option (Operation × List ℕ)) → sign_in signs bytes ≡ read → sign_in others bytes ≡ None
    by_found None none = hush e bytes found (sym (most_none (suc n) e bytes none) ∙ is)
    by_found (Some x) there = apart bytes x there

  most_closes : (n : ℕ) (e : Named) → Closes (onward_most joined signs phrase n e >>= last)
  most_closes zero e = closes_same (last e) (onward_most joined signs phrase 0 e >>= last) (λ bytes. refl) (last_closes e)
  most_closes (suc n) e =
      closes_same (by_sign signs (next_behind n e) (last e)) (onward_most joined signs phrase (suc n) e >>= last) (most_is n e)
      (parts_close (next_behind n e) (last e)
      (λ operation. closing (λ next. onward_most joined signs phrase n (Joined operation e next) >>= last) (λ next. most_closes n (Joined operation e next)) (λ next. most_hush n (Joined operation e next)))
      (last_closes e) (quiet e))

  -- what is read of some is read of more
  most_more : (n m : ℕ) → n ≤ m → (e : Named) (bytes : List ℕ) (found : B × List ℕ) → (onward_most joined signs phrase n e >>= last) bytes ≡ Ok found → (onward_most joined signs phrase m e >>= last) bytes ≡ Ok found
  most_more zero m le e bytes found is = most_none m e bytes (quiet e bytes found is) ∙ is
  most_more (suc n) zero le e bytes found is = absurd (omega arith)
  most_more (suc n) (suc m) le e bytes found is = by_found (λ from at got. most_more n m (omega arith) from at found got) (sign_in signs bytes) refl where
    by_first : ((from : Named) (at : List ℕ) → (onward_most joined signs phrase n from >>= last) at ≡ Ok found → (onward_most joined signs phrase m from >>= last) at ≡ Ok found) → (x : Operation × List ℕ) (read : Read Named) → phrase x.1 ≡ read →
        next_behind n e x.0 x.1 ≡ Ok found → next_behind m e x.0 x.1 ≡ Ok found
    by_first again x (Err left) one at = absurd (let none = rw one at at in cc)
    by_first again x (Ok y) one at =
        ap (λ (r : Read Named). go_on r (λ next. onward_most joined signs phrase m (Joined x.0 e next) >>= last)) one
        ∙ again (Joined x.0 e y.0) y.1 (sym (ap (λ (r : Read Named). go_on r (λ next. onward_most joined signs phrase n (Joined x.0 e next) >>= last)) one) ∙ at)

    by_found : ((from : Named) (at : List ℕ) → (onward_most joined signs phrase n from >>= last) at ≡ Ok found → (onward_most joined signs phrase m from >>= last) at ≡ Ok found) → (read : Option (Operation × List ℕ)) →
        sign_in signs bytes ≡ read → (onward_most joined signs phrase (suc m) e >>= last) bytes ≡ Ok found
    by_found again None none = most_none (suc m) e bytes none ∙ sym (most_none (suc n) e bytes none) ∙ is
    by_found again (Some x) there = most_some m e bytes x there ∙ by_first again x (phrase x.1) refl (sym (most_some n e bytes x there) ∙ is)

  enough : (e : Named) (bytes : List ℕ) (n : ℕ) → length bytes ≤ n → (onward joined signs phrase e >>= last) bytes ≡ (onward_most joined signs phrase n e >>= last) bytes
  unfolding onward
  enough e bytes n le = ap (λ (r : Read Named). go_on r last) (onward_enough joined signs phrase shrinks (length bytes) n e bytes (omega arith) le)

  onward_closes : (e : Named) → Closes (onward joined signs phrase e >>= last)
  onward_closes e = record {
    err = λ bytes left is. (most_closes (length bytes) e).err bytes left (sym (enough e bytes (length bytes) (omega arith)) ∙ is);
    fails = λ before here there is alike.
        let n : ℕ = length (before ++ here) + length (before ++ there) in
        enough e (before ++ there) n (omega arith) ∙ (most_closes n e).fails before here there (sym (enough e (before ++ here) n (omega arith)) ∙ is) alike;
    goes = λ before here is.
        let n : ℕ = length (before ++ here) in
        by_most before n ((most_closes n e).goes before here (sym (enough e (before ++ here) n (omega arith)) ∙ is));
    some = by_most [] 0 (most_closes 0 e).some;
  } where
    by_most : (before : List ℕ) (n : ℕ) → Way (onward_most joined signs phrase n e >>= last) before → Way (onward joined signs phrase e >>= last) before
    by_most before n way =
        let bytes : List ℕ = before ++ 32 ∷ way.more in
        record { more = way.more; found = way.found; reads = enough e bytes (n + length bytes) (omega arith) ∙ most_more n (n + length bytes) (omega arith) e bytes (way.found, []) way.reads }

  onward_hush : (e : Named) → QuietAll others (onward joined signs phrase e >>= last)
  onward_hush e bytes found is = most_hush (length bytes) e bytes found (sym (enough e bytes (length bytes) (omega arith)) ∙ is)

  joined_closes : Closes (joined_by joined signs phrase >>= last)
  joined_closes =
      closes_same (phrase >>= (λ first. onward joined signs phrase first >>= last)) (joined_by joined signs phrase >>= last) (behind_both phrase (λ first. onward joined signs phrase first) last)
      (closing (λ first. onward joined signs phrase first >>= last) onward_closes onward_hush)

-- the signs of products and of sums

no_times : (bytes : List ℕ) (left : ℕ) → a_sign 42 bytes ≡ Err left → sign_in times_signs bytes ≡ None
no_times bytes left e = ap (λ (r : Read (Unit {0})). sign_or Times r None) e

no_sum : (bytes : List ℕ) (left left_there : ℕ) → a_sign 43 bytes ≡ Err left → a_sign 45 bytes ≡ Err left_there → sign_in sum_signs bytes ≡ None
no_sum bytes left left_there e f =
    ap (λ (r : Read (Unit {0})). sign_or Plus r (sign_or Less (a_sign 45 bytes) None)) e ∙ ap (λ (r : Read (Unit {0})). sign_or Less r None) f

times_none : (bytes : List ℕ) → sign_in times_signs bytes ≡ None → (left : ℕ) × (a_sign 42 bytes ≡ Err left)
times_none bytes none = by_read (a_sign 42 bytes) refl where
  by_read : (read : Read (Unit {0})) → a_sign 42 bytes ≡ read → (left : ℕ) × (a_sign 42 bytes ≡ Err left)
  by_read (Err left) e = (left, e)
  by_read (Ok x) e = absurd (let at = rw e at none in cc)

-- the signs of a sum, each for itself
sum_none : (bytes : List ℕ) → sign_in sum_signs bytes ≡ None → ((left : ℕ) × (a_sign 43 bytes ≡ Err left)) × ((left : ℕ) × (a_sign 45 bytes ≡ Err left))
sum_none bytes none = by_plus (a_sign 43 bytes) refl where
  by_less : (left : ℕ) → a_sign 43 bytes ≡ Err left → (read : Read (Unit {0})) → a_sign 45 bytes ≡ read → ((left : ℕ) × (a_sign 43 bytes ≡ Err left)) × ((left : ℕ) × (a_sign 45 bytes ≡ Err left))
  by_less left e (Err left_there) f = ((left, e), (left_there, f))
  by_less left e (Ok x) f = absurd (let at = rw (e, f) at none in cc)

  by_plus : (read : Read (Unit {0})) → a_sign 43 bytes ≡ read → ((left : ℕ) × (a_sign 43 bytes ≡ Err left)) × ((left : ℕ) × (a_sign 45 bytes ≡ Err left))
  by_plus (Err left) e = by_less left e (a_sign 45 bytes) refl
  by_plus (Ok x) e = absurd (let at = rw e at none in cc)

sum_apart : (bytes : List ℕ) (x : Operation × List ℕ) → sign_in sum_signs bytes ≡ Some x → sign_in times_signs bytes ≡ None
sum_apart bytes x there = by_plus (a_sign 43 bytes) refl where
  other : (sign : ℕ) (rest : List ℕ) → (sign == 42) ≡ false → a_sign sign bytes ≡ Ok (tt, rest) → sign_in times_signs bytes ≡ None
  other sign rest differs e = no_times bytes (length (unblanked bytes)) (sign_other 42 sign bytes rest differs (sign_is sign bytes rest e))

  by_less : (left : ℕ) → a_sign 43 bytes ≡ Err left → (read : Read (Unit {0})) → a_sign 45 bytes ≡ read → sign_in times_signs bytes ≡ None
  by_less left e (Err left_there) f = absurd (let none = sym there ∙ no_sum bytes left left_there e f in cc)
  by_less left e (Ok y) f = other 45 y.1 refl f

  by_plus : (read : Read (Unit {0})) → a_sign 43 bytes ≡ read → sign_in times_signs bytes ≡ None
  by_plus (Err left) e = by_less left e (a_sign 45 bytes) refl
  by_plus (Ok y) e = other 43 y.1 refl e

times_close : {B : Type 0} (behind : Operation → Phrase B) (other : Phrase B) → ((operation : Operation) → Closes (behind operation)) → Closes other → QuietAll times_signs other → Closes (by_sign times_signs behind other)
times_close behind other each rest quiet =
    if_sign_closes 42 (operator_sign 42 refl) (behind Times) other (each Times) rest (λ bytes found is. times_none bytes (quiet bytes found is))

sums_close : {B : Type 0} (behind : Operation → Phrase B) (other : Phrase B) → ((operation : Operation) → Closes (behind operation)) → Closes other → QuietAll sum_signs other → Closes (by_sign sum_signs behind other)
sums_close behind other each rest quiet =
    if_sign_closes 43 (operator_sign 43 refl) (behind Plus) (if_sign 45 (behind Less) other) (each Plus)
    (if_sign_closes 45 (operator_sign 45 refl) (behind Less) other (each Less) rest (λ bytes found is. (sum_none bytes (quiet bytes found is)).1))
    (quiet_if 43 45 refl (behind Less) other (λ bytes found is. (sum_none bytes (quiet bytes found is)).0))

-- sums, where factors close
sum_closes : {B : Type 0} (factor : Phrase Named) → Shrinks factor → ((next : Named → Phrase B) → ((e : Named) → Closes (next e)) → Closes (factor >>= next)) →
    (last : Named → Phrase B) → ((e : Named) → Closes (last e)) → ((e : Named) → QuietAll times_signs (last e)) → ((e : Named) → QuietAll sum_signs (last e)) → Closes (sum_of factor >>= last)
unfolding sum_of term_of
sum_closes factor shrinks one last closes quiet_times quiet_sum =
    joined_closes sum_signs times_signs (joined_by joined times_signs factor) (term_shrinks factor shrinks) sum_apart sums_close
    (λ next each quiet. joined_closes times_signs [] factor shrinks (λ bytes x there. refl) times_close (λ after each_after none. one after each_after) next each quiet (λ e bytes found is. refl))
    last closes quiet_sum quiet_times

-- leaves

leaf_closes : {B : Type 0} (last : Named → Phrase B) → ((e : Named) → Closes (last e)) → Closes (leaf_in >>= last)
unfolding leaf_in
leaf_closes {B} last closes = closes_same (if_sign 36 name digits) (leaf_in >>= last) same
    (if_sign_closes 36 dollar name digits (then_closes name_in (λ n. last (Column n)) (takes name_in name_yields) (λ n. closes (Column n)))
    (then_closes digits_in (λ n. last (Digits n)) (takes digits_in digits_yields) (λ n. closes (Digits n))) (quiet_digits 36 dollar (λ n. last (Digits n))))
  where
    dollar : IsSign expr_front 36
    dollar = other_sign 36 refl refl refl refl

    name : Phrase B
    name = name_in >>= (λ n. last (Column n))

    digits : Phrase B
    digits = digits_in >>= (λ n. last (Digits n))

    same : (bytes : List ℕ) → (leaf_in >>= last) bytes ≡ if_sign 36 name digits bytes
    same bytes = behind_if 36 (made name_in (λ n. Column n)) (made digits_in (λ n. Digits n)) last bytes ∙ by_read (a_sign 36 bytes) where
      by_read : (read : Read (Unit {0})) → parted_by read (made name_in (λ n. Column n) >>= last) (made digits_in (λ n. Digits n) >>= last) bytes ≡ parted_by read name digits bytes
      by_read (Ok x) = behind_both name_in (λ n. give (Column n)) last x.1
      by_read (Err left) = behind_both digits_in (λ n. give (Digits n)) last bytes

-- what begins with a leaf
leaf_quiet : {B : Type 0} (sign : ℕ) → IsSign expr_front sign → (36 == sign) ≡ false → (last : Named → Phrase B) → Quiet sign (leaf_in >>= last)
unfolding leaf_in
leaf_quiet {B} sign is_sign differs last bytes found is =
    quiet_if sign 36 differs (made name_in (λ n. Column n) >>= last) (made digits_in (λ n. Digits n) >>= last)
    (λ at got read. quiet_digits sign is_sign (λ n. last (Digits n)) at got (sym (behind_both digits_in (λ n. give (Digits n)) last at) ∙ read))
    bytes found (sym (behind_if 36 (made name_in (λ n. Column n)) (made digits_in (λ n. Digits n)) last bytes) ∙ is)

-- factors

factor_closes : {B : Type 0} (inside : ℕ) (last : Named → Phrase B) → ((e : Named) → Closes (last e)) → Closes (factor_in inside >>= last)
unfolding factor_in
factor_closes zero last closes = leaf_closes last closes
factor_closes {B} (suc inside) last closes = by_inner (λ next each. factor_closes inside next each) where
  minus : Phrase B
  minus = factor_in inside >>= (λ e. last (Opposite e))

  bracket : Phrase B
  bracket = sum_of (factor_in inside) >>= (λ e. a_sign 41 >>= (λ close. last e))

  same_inner : (bytes : List ℕ) → (if_sign 40 (in_bracket (factor_in inside)) leaf_in >>= last) bytes ≡ if_sign 40 bracket (leaf_in >>= last) bytes
  same_inner bytes = behind_if 40 (in_bracket (factor_in inside)) leaf_in last bytes ∙ by_read (a_sign 40 bytes) where
    by_read : (read : Read (Unit {0})) → parted_by read (in_bracket (factor_in inside) >>= last) (leaf_in >>= last) bytes ≡ parted_by read bracket (leaf_in >>= last) bytes
    by_read (Ok x) = behind_both (sum_of (factor_in inside)) (λ found. a_sign 41 >>= (λ close. give found)) last x.1 ∙ by_sum (sum_of (factor_in inside) x.1) where
      by_close : (e : Named) (read : Read (Unit {0})) → go_on (go_on read (λ close. give e)) last ≡ go_on read (λ close. last e)
      by_close e (Ok y) = refl
      by_close e (Err left) = refl

      by_sum : (read : Read Named) → go_on read (λ found. (a_sign 41 >>= (λ close. give found)) >>= last) ≡ go_on read (λ e. a_sign 41 >>= (λ close. last e))
      by_sum (Ok y) = by_close y.0 (a_sign 41 y.1)
      by_sum (Err left) = refl
    by_read (Err left) = refl

  same : (bytes : List ℕ) → (factor_in (suc inside) >>= last) bytes ≡ if_sign 45 minus (if_sign 40 bracket (leaf_in >>= last)) bytes
  same bytes = behind_if 45 (made (factor_in inside) (λ e. Opposite e)) (if_sign 40 (in_bracket (factor_in inside)) leaf_in) last bytes ∙ by_read (a_sign 45 bytes) where
    by_read : (read : Read (Unit {0})) → parted_by read (made (factor_in inside) (λ e. Opposite e) >>= last) (if_sign 40 (in_bracket (factor_in inside)) leaf_in >>= last) bytes ≡
        parted_by read minus (if_sign 40 bracket (leaf_in >>= last)) bytes
    by_read (Ok x) = behind_both (factor_in inside) (λ e. give (Opposite e)) last x.1
    by_read (Err left) = same_inner bytes

  round_open : IsSign expr_front 40
  round_open = other_sign 40 refl refl refl refl

  round_close : IsSign expr_front 41
  round_close = other_sign 41 refl refl refl refl

  behind_close : (e : Named) → Closes (a_sign 41 >>= (λ close. last e))
  behind_close e = then_closes (a_sign 41) (λ close. last e) (takes (a_sign 41) (sign_yields expr_front expr_laws 41 round_close)) (λ close. closes e)

  by_inner : ((next : Named → Phrase B) → ((e : Named) → Closes (next e)) → Closes (factor_in inside >>= next)) → Closes (factor_in (suc inside) >>= last)
  by_inner one =
      let close_times : (e : Named) → QuietAll times_signs (a_sign 41 >>= (λ close. last e)) =
      λ e bytes found is. let none = quiet_behind 42 41 refl (λ close. last e) bytes found is in no_times bytes none.0 none.1 in
      let close_sum : (e : Named) → QuietAll sum_signs (a_sign 41 >>= (λ close. last e)) =
      λ e bytes found is.
      let plus = quiet_behind 43 41 refl (λ close. last e) bytes found is in
      let less = quiet_behind 45 41 refl (λ close. last e) bytes found is in
      no_sum bytes plus.0 less.0 plus.1 less.1 in
      let inner : Closes (if_sign 40 bracket (leaf_in >>= last)) =
      if_sign_closes 40 round_open bracket (leaf_in >>= last)
      (sum_closes (factor_in inside) (factor_shrinks inside) one (λ e. a_sign 41 >>= (λ close. last e)) behind_close close_times close_sum)
      (leaf_closes last closes) (leaf_quiet 40 round_open refl last) in
      closes_same (if_sign 45 minus (if_sign 40 bracket (leaf_in >>= last))) (factor_in (suc inside) >>= last) same
      (if_sign_closes 45 (operator_sign 45 refl) minus (if_sign 40 bracket (leaf_in >>= last)) (one (λ e. last (Opposite e)) (λ e. closes (Opposite e))) inner
      (quiet_if 45 40 refl bracket (leaf_in >>= last) (leaf_quiet 45 (operator_sign 45 refl) refl last)))

-- an expression, and what comes behind it
expr_closes : {B : Type 0} (last : Named → Phrase B) → ((e : Named) → Closes (last e)) → ((e : Named) → QuietAll times_signs (last e)) → ((e : Named) → QuietAll sum_signs (last e)) → Closes (expr_in >>= last)
unfolding expr_in
expr_closes last closes quiet_times quiet_sum = sum_closes (factor_in 63) (factor_shrinks 63) (λ next each. factor_closes 63 next each) last closes quiet_times quiet_sum

-- lists

-- at most so many phrases behind commas, and then the end
abbrev listed : {A : Type 0} → Phrase A → ℕ → Phrase (List A)
listed phrase n = phrases phrase n >>= (λ found. the_end [] >>= (λ end. give found))

-- nothing but the end
abbrev nothing : {A : Type 0} → Phrase (List A)
nothing = the_end [] >>= (λ end. give [])

-- a phrase, and then a list
abbrev headed : {A : Type 0} → Phrase A → ℕ → Phrase (List A)
headed phrase n = phrase >>= (λ first. listed phrase n >>= (λ others. give (first ∷ others)))

-- without a comma, the end
listed_none : {A : Type 0} (phrase : Phrase A) (n : ℕ) (bytes : List ℕ) (left : ℕ) → a_sign 44 bytes ≡ Err left → listed phrase n bytes ≡ nothing bytes
listed_none phrase zero bytes left e = refl
listed_none phrase (suc n) bytes left e = rw e refl

-- the end of a list behind its first phrase
head_first : {A : Type 0} (phrase : Phrase A) (n : ℕ) (read : Read A) →
    go_on (go_on read (λ first. phrases phrase n >>= (λ others. give (first ∷ others)))) (λ found. the_end [] >>= (λ end. give found)) ≡ go_on read (λ first. listed phrase n >>= (λ others. give (first ∷ others)))
head_first {A} phrase n (Err left) = refl
head_first {A} phrase n (Ok x) = by_others x.0 (phrases phrase n x.1) where
  by_end : (first : A) (others : List A) (end : Read (Unit {0})) → go_on end (λ end. give (first ∷ others)) ≡ go_on (go_on end (λ end. give others)) (λ others. give (first ∷ others))
  by_end first others (Ok y) = refl
  by_end first others (Err left) = refl

  by_others : (first : A) (others : Read (List A)) →
      go_on (go_on others (λ others. give (first ∷ others))) (λ found. the_end [] >>= (λ end. give found)) ≡ go_on (go_on others (λ found. the_end [] >>= (λ end. give found))) (λ others. give (first ∷ others))
  by_others first (Ok y) = by_end first y.0 (the_end [] y.1)
  by_others first (Err left) = refl

listed_more : {A : Type 0} (phrase : Phrase A) (n : ℕ) (bytes : List ℕ) (comma : Unit {0} × List ℕ) → a_sign 44 bytes ≡ Ok comma → listed phrase (suc n) bytes ≡ headed phrase n comma.1
listed_more phrase n bytes comma e = rw e (head_first phrase n (phrase comma.1))

nothing_closes : {A : Type 0} → Closes {A = List A} nothing
nothing_closes {A} = made_closes (the_end []) (λ end. []) end_closes

-- where the end stands, no comma does
no_comma : {A : Type 0} (bytes : List ℕ) (found : List A × List ℕ) → nothing bytes ≡ Ok found → (left : ℕ) × (a_sign 44 bytes ≡ Err left)
no_comma {A} bytes found is = by_end (the_end [] bytes) refl is where
  by_end : (read : Read (Unit {0})) → the_end [] bytes ≡ read → go_on {A = Unit {0}} {B = List A} read (λ end. give []) ≡ Ok found → (left : ℕ) × (a_sign 44 bytes ≡ Err left)
  by_end (Err left) e at = absurd (cc)
  by_end (Ok x) e at = (0, sign_end 44 bytes (end_is bytes x e))

-- where the end doesn't stand, something else does
nothing_left : {A : Type 0} (bytes : List ℕ) (left : ℕ) → nothing {A = A} bytes ≡ Err left → left ≡ length (unblanked bytes)
nothing_left {A} bytes left is = by_end (the_end [] bytes) refl is where
  by_end : (read : Read (Unit {0})) → the_end [] bytes ≡ read → go_on {A = Unit {0}} {B = List A} read (λ end. give []) ≡ Err left → left ≡ length (unblanked bytes)
  by_end (Ok x) e at = absurd (cc)
  by_end (Err other) e at = let same : other ≡ left = cc in end_left bytes left (e ∙ ap Err same)

-- where a list is read, no sign but a comma stands
quiet_listed : {A C : Type 0} (sign : ℕ) → (44 == sign) ≡ false → (phrase : Phrase A) (n : ℕ) (make : List A → C) → Quiet sign (listed phrase n >>= (λ found. give (make found)))
quiet_listed {A} {C} sign differs phrase n make bytes found is = by_size n (bind-ok (listed phrase n bytes) (λ l. give (make l)) found is).1 where
  by_end : (got : List A × List ℕ) → nothing bytes ≡ Ok got → (left : ℕ) × (a_sign sign bytes ≡ Err left)
  by_end got at = let end = bind-ok (the_end [] bytes) (λ end. give []) got at in (0, sign_end sign bytes (end_is bytes end.0 end.1))

  by_comma : (m : ℕ) (got : List A × List ℕ) → (read : Read (Unit {0})) → a_sign 44 bytes ≡ read → listed phrase m bytes ≡ Ok got → (left : ℕ) × (a_sign sign bytes ≡ Err left)
  by_comma m got (Ok x) e at = (length (unblanked bytes), sign_other sign 44 bytes x.1 differs (sign_is 44 bytes x.1 e))
  by_comma m got (Err left) e at = by_end got (sym (listed_none phrase m bytes left e) ∙ at)

  by_size : (m : ℕ) {got : List A × List ℕ} → listed phrase m bytes ≡ Ok got → (left : ℕ) × (a_sign sign bytes ≡ Err left)
  by_size m {got} at = by_comma m got (a_sign 44 bytes) refl at

-- what comes behind an expression of a list
abbrev rest_of : ℕ → Named → Phrase (List Named)
rest_of n first = listed expr_in n >>= (λ others. give (first ∷ others))

rest_times : (n : ℕ) (e : Named) → QuietAll times_signs (rest_of n e)
rest_times n e bytes found is = let none = quiet_listed 42 refl expr_in n (λ (l : List Named). e ∷ l) bytes found is in no_times bytes none.0 none.1

rest_sum : (n : ℕ) (e : Named) → QuietAll sum_signs (rest_of n e)
rest_sum n e bytes found is =
    let plus = quiet_listed 43 refl expr_in n (λ (l : List Named). e ∷ l) bytes found is in
    let less = quiet_listed 45 refl expr_in n (λ (l : List Named). e ∷ l) bytes found is in
    no_sum bytes plus.0 less.0 plus.1 less.1

headed_closes : (n : ℕ) → Closes (listed expr_in n) → Closes (headed expr_in n)
headed_closes n others = expr_closes (rest_of n) (λ first. made_closes (listed expr_in n) (λ others. first ∷ others) others) (rest_times n) (rest_sum n)

-- a list up to the end
listed_closes : (n : ℕ) → Closes (listed expr_in n)
listed_closes zero = closes_same nothing (listed expr_in 0) (λ bytes. refl) nothing_closes
listed_closes (suc n) = closes_same (if_sign 44 (headed expr_in n) nothing) (listed expr_in (suc n)) same
    (if_sign_closes 44 (other_sign 44 refl refl refl refl) (headed expr_in n) nothing (headed_closes n (listed_closes n)) nothing_closes (λ bytes found is. no_comma bytes found is))
  where
    same : (bytes : List ℕ) → listed expr_in (suc n) bytes ≡ if_sign 44 (headed expr_in n) nothing bytes
    same bytes = by_read (a_sign 44 bytes) refl where
      by_read : (read : Read (Unit {0})) → a_sign 44 bytes ≡ read → listed expr_in (suc n) bytes ≡ if_sign 44 (headed expr_in n) nothing bytes
      by_read (Ok x) e = listed_more expr_in n bytes x e ∙ sym (sign_there 44 (headed expr_in n) nothing bytes x.1 e)
      by_read (Err left) e = listed_none expr_in (suc n) bytes left e ∙ sym (sign_absent 44 (headed expr_in n) nothing bytes left e)

-- a whole text is refused in its place
closed_in_place : {A : Type 0} (phrase : Phrase A) → Closes (ended [] phrase) → RefusesInPlace (everywhere expr_front) (λ text. outcome (length text) (ended [] phrase text))
closed_in_place {A} phrase one = record {
  goes_on = λ text place is. goes_on text place (ended [] phrase text) refl is;
  ends = λ text more place size kind front is holds was stays.
      let was_plain : expr_front (drop place text) ≡ Some (kind, size) = ap (λ (f : Front). f (drop place text)) (sym holds) ∙ was in
      let stays_plain : expr_front (take size (drop place text) ++ more) ≡ Some (kind, size) = ap (λ (f : Front). f (take size (drop place text) ++ more)) (sym holds) ∙ stays in
      refused text more place size kind was_plain stays_plain (ended [] phrase text) refl is;
} where
  fewer : (text : List ℕ) (left : ℕ) → ended [] phrase text ≡ Err left → left ≤ length text
  fewer text left is = stops-le expr_front (Carries expr_front) (bytes_taking expr_front) text left (one.err text left is)

  -- the bytes from the place on
  at_place : (text : List ℕ) (place left : ℕ) → ended [] phrase text ≡ Err left → length text - left ≡ place → ended [] phrase (take place text ++ drop place text) ≡ Err (length (drop place text))
  at_place text place left e same =
      let size_here : length (drop place text) ≡ left = omega (arith, length-drop place text, fewer text left e) in
      ap (ended [] phrase) (take-append-drop place text) ∙ e ∙ ap Err (sym size_here)

  goes_on : (text : List ℕ) (place : ℕ) (read : Read A) → ended [] phrase text ≡ read → outcome (length text) read ≡ Err place → (more : List ℕ) × (found : A) × (outcome (length (take place text ++ 32 ∷ more)) (ended [] phrase (take place text ++ 32 ∷ more)) ≡ Ok found)
  goes_on text place (Ok x) e is = absurd (cc)
  goes_on text place (Err left) e is =
      let same : length text - left ≡ place = cc in
      let way = one.goes (take place text) (drop place text) (at_place text place left e same) in
      (way.more, way.found, ap (outcome (length (take place text ++ 32 ∷ way.more))) way.reads)

  refused : (text more : List ℕ) (place size : ℕ) (kind : TokenKind) → expr_front (drop place text) ≡ Some (kind, size) → expr_front (take size (drop place text) ++ more) ≡ Some (kind, size) → (read : Read A) → ended [] phrase text ≡ read → outcome (length text) read ≡ Err place →
      outcome (length (take place text ++ (take size (drop place text) ++ more))) (ended [] phrase (take place text ++ (take size (drop place text) ++ more))) ≡ Err place
  refused text more place size kind was stays (Ok x) e is = absurd (cc)
  refused text more place size kind was stays (Err left) e is =
      let here : List ℕ = drop place text in
      let there : List ℕ = take size here ++ more in
      let same : length text - left ≡ place = cc in
      let all : left ≤ length text = fewer text left e in
      let size_token : length (take size here) ≡ size = omega (arith, length-take size here, expr_laws.within here kind size was) in
      let fronts_same : take size there ≡ take size here = ap (λ (n : ℕ). take n there) (sym size_token) ∙ take-append_seam (take size here) more in
      let again = one.fails (take place text) here there (at_place text place left e same) (record { kind = kind; size = size; was = was; is = stays; same = fronts_same }) in
      ap (outcome (length (take place text ++ there))) again ∙ ap Err (omega (arith, length-append (take place text) there, length-take place text))

-- a whole list is refused in its place
pub list_in_place : RefusesInPlace (everywhere expr_front) (λ text. outcome (length text) (ended [] list_in text))
unfolding list_in further
list_in_place = closed_in_place list_in (closes_same (headed expr_in 31) (ended [] list_in) (λ bytes. head_first expr_in 31 (expr_in bytes)) (headed_closes 31 (listed_closes 31)))
