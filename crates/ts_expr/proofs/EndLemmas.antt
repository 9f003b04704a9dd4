-- Phrases up to the end of a text: where they are refused, and what goes on to the end.
use Rattle.std.proofs.Common.{◌≡◌, ℕ, zero, suc, ◌-◌, ◌≤◌, true, List, [], ◌∷◌, ◌++◌, length, length-append, length-drop, take, drop, take-append-drop, append_assoc, Some, Ok, Err, refl, sym, ◌∙◌, ap, subst, arith, inl, inr}
use Rattle.std.proofs.Math.Seq.{take-append_seam}
use Rattle.std.proofs.lemmas.Bool.{cases_Bool, and_parts}
use Rattle.std.proofs.lemmas.List.{length-take}
use Rattle.std.proofs.lemmas.Slice.Eq.{bytes_eq-Decides}
use Rattle.std.specs.Str.{bytes_eq}
use Rattle.ts_base.specs.Name.{is_blank}
use Rattle.ts_text.specs.Phrase.{unblanked, are_blanks, Front, Read, Phrase, go_on, ◌>>=◌, give, a_sign, phrases, the_end, ended, outcome, plain_front}
use Rattle.ts_text.specs.Place.{everywhere, RefusesInPlace}
use Rattle.ts_text.specs.declared.token.TokenKind.{TokenKind}
use Rattle.ts_text.proofs.CallerLemmas.{Alike, Any, Carries, Follows, Goes, Stops, Yields, YieldsIn, begins, blanked, blanks_before, bytes_taking, in_bytes, plain_laws, plain_sign, sign_left, sign_yields, split_same, stops-le, stops_here, unblanked_past}

-- bytes that can't be
abbrev Never : List ℕ → Type 0
Never before = ⊥

-- a phrase over these tokens
abbrev Takes : {A : Type 0} → Phrase A → Type 0
Takes phrase = YieldsIn plain_front (Carries plain_front) Never Any phrase

takes : {A : Type 0} (phrase : Phrase A) → Yields plain_front Any phrase → Takes phrase
takes phrase one = in_bytes plain_front plain_laws Never Any phrase one

-- what stands before goes on to the end of a text, with a blank first
pub record Way {A : Type 0} (phrase : Phrase A) (before : List ℕ) : Type 0 where
  pub more : List ℕ
  pub found : A
  pub reads : phrase (before ++ 32 ∷ more) ≡ Ok (found, [])

-- A phrase that takes all up to the end. Where it is refused, tokens stand before; with the token that stands there it is
-- refused there, whatever comes behind; and what stands before goes on.
pub record Closes {A : Type 0} (phrase : Phrase A) : Type 0 where
  pub err : (bytes : List ℕ) (left : ℕ) → phrase bytes ≡ Err left → Stops (Carries plain_front) bytes left
  pub fails : (before here there : List ℕ) → phrase (before ++ here) ≡ Err (length here) → Alike plain_front here there → phrase (before ++ there) ≡ Err (length there)
  pub goes : (before here : List ℕ) → phrase (before ++ here) ≡ Err (length here) → Way phrase before
  pub some : Way phrase []

-- what is refused behind bytes that are taken
stops_on : (bytes middle : List ℕ) (left : ℕ) → Carries plain_front bytes middle → Stops (Carries plain_front) middle left → Stops (Carries plain_front) bytes left
stops_on bytes middle left first next = record {
  rest = next.rest;
  takes = (bytes_taking plain_front).on bytes middle next.rest first next.takes;
  here = next.here;
}

-- behind blanks
behind_blanks : (blanks rest other : List ℕ) → are_blanks blanks ≡ true → Follows plain_front rest other → Follows plain_front (blanks ++ rest) (blanks ++ other)
behind_blanks [] rest other all f = f
behind_blanks (b ∷ blanks) rest other all f =
    inr (record { first = b; more = blanks ++ other; split = refl; blank = (and_parts (is_blank b) (are_blanks blanks) all).0 })

-- A phrase has been read, and then it stops at `here`: so it does with other bytes that begin with the same token or a blank.
record Passes {A : Type 0} (phrase : Phrase A) (before here : List ℕ) (found : A × List ℕ) : Type 0 where
  middle : List ℕ
  rest : found.1 ≡ middle ++ here
  goes : (there : List ℕ) → Follows plain_front here there → phrase (before ++ there) ≡ Ok (found.0, middle ++ there)

passes : {A : Type 0} (phrase : Phrase A) → Takes phrase → (before here : List ℕ) (found : A × List ℕ) → phrase (before ++ here) ≡ Ok found → Stops (Carries plain_front) found.1 (length here) → Passes phrase before here found
passes {A} phrase one before here found is stops = record { middle = middle; rest = rest_is; goes = goes } where
  way : Carries plain_front (before ++ here) found.1
  way = (one.ok (before ++ here) found is).1

  far : Carries plain_front found.1 stops.rest
  far = stops.takes

  blanks : List ℕ
  blanks = (blanked stops.rest).blanks

  middle : List ℕ
  middle = far.used ++ blanks

  split : found.1 ≡ middle ++ unblanked stops.rest
  split = far.whole ∙ ap (λ (l : List ℕ). far.used ++ l) (blanked stops.rest).split ∙ sym (append_assoc far.used blanks (unblanked stops.rest))

  parts : (before ≡ way.used ++ middle) × (here ≡ unblanked stops.rest)
  parts = split_same before (way.used ++ middle) here (unblanked stops.rest) (way.whole ∙ ap (λ (l : List ℕ). way.used ++ l) split ∙ sym (append_assoc way.used middle (unblanked stops.rest))) stops.here

  rest_is : found.1 ≡ middle ++ here
  rest_is = split ∙ ap (λ (l : List ℕ). middle ++ l) (sym parts.1)

  stops_at : stops.rest ≡ blanks ++ here
  stops_at = (blanked stops.rest).split ∙ ap (λ (l : List ℕ). blanks ++ l) (sym parts.1)

  follows : (there : List ℕ) → Follows plain_front here there → Follows plain_front found.1 (middle ++ there)
  follows there f =
      let near : Follows plain_front stops.rest (blanks ++ there) = subst (λ (l : List ℕ). Follows plain_front l (blanks ++ there)) (sym stops_at) (behind_blanks blanks here there (blanked stops.rest).all f) in
      subst (λ (l : List ℕ). Follows plain_front found.1 l) (sym (append_assoc far.used blanks there)) (far.follows (blanks ++ there) near)

  goes : (there : List ℕ) → Follows plain_front here there → phrase (before ++ there) ≡ Ok (found.0, middle ++ there)
  goes there f =
      let at : phrase (way.used ++ found.1) ≡ Ok (found.0, found.1) = ap phrase (sym way.whole) ∙ is in
      ap (λ (l : List ℕ). phrase (l ++ there)) parts.0 ∙ ap phrase (append_assoc way.used middle there)
      ∙ one.keeps way.used found.1 (middle ++ there) found.0 at (follows there f)

-- one phrase, and then one up to the end
then_closes : {A B : Type 0} (first : Phrase A) (next : A → Phrase B) → Takes first → ((a : A) → Closes (next a)) → Closes (first >>= next)
then_closes {A} {B} first next one two = record {
  err = λ bytes left is. err_first bytes left (first bytes) refl is;
  fails = λ before here there is alike. fails_first before here there alike (first (before ++ here)) refl is;
  goes = λ before here is. goes_first before here (first (before ++ here)) refl is;
  some = on [] one.some;
} where
  -- the first goes on, and then the next
  on : (before : List ℕ) → Goes Any first before → Way (first >>= next) before
  on before goes =
      let way = (two goes.found).some in
      let tail = goes.starts way.more in
      record {
        more = tail.0;
        found = way.found;
        reads = ap (λ (l : List ℕ). (first >>= next) (before ++ l)) (sym tail.1)
            ∙ ap (λ (r : Read A). go_on r next) (goes.reads way.more)
            ∙ way.reads;
      }

  err_first : (bytes : List ℕ) (left : ℕ) (read : Read A) → first bytes ≡ read → go_on (first bytes) next ≡ Err left → Stops (Carries plain_front) bytes left
  err_first bytes left (Err before) e is = let at : Err before ≡ Err left = rw e at is in let same : before ≡ left = cc in one.err bytes left (e ∙ ap Err same)
  err_first bytes left (Ok x) e is = stops_on bytes x.1 left (one.ok bytes x e).1 ((two x.0).err x.1 left (rw e at is))

  fails_first : (before here there : List ℕ) → Alike plain_front here there → (read : Read A) → first (before ++ here) ≡ read → go_on (first (before ++ here)) next ≡ Err (length here) → go_on (first (before ++ there)) next ≡ Err (length there)
  fails_first before here there alike (Err left) e is =
      let at : Err left ≡ Err (length here) = rw e at is in
      let same : left ≡ length here = cc in
      ap (λ (r : Read A). go_on r next) (one.fails before here there (e ∙ ap Err same) (λ never. never) alike)
  fails_first before here there alike (Ok x) e is =
      let at : next x.0 x.1 ≡ Err (length here) = rw e at is in
      let lies = passes first one before here x e ((two x.0).err x.1 (length here) at) in
      ap (λ (r : Read A). go_on r next) (lies.goes there (inl alike))
      ∙ (two x.0).fails lies.middle here there (ap (next x.0) (sym lies.rest) ∙ at) alike

  goes_first : (before here : List ℕ) (read : Read A) → first (before ++ here) ≡ read → go_on (first (before ++ here)) next ≡ Err (length here) → Way (first >>= next) before
  goes_first before here (Err left) e is =
      let at : Err left ≡ Err (length here) = rw e at is in
      let same : left ≡ length here = cc in
      on before (one.goes before here (e ∙ ap Err same))
  goes_first before here (Ok x) e is =
      let at : next x.0 x.1 ≡ Err (length here) = rw e at is in
      let lies = passes first one before here x e ((two x.0).err x.1 (length here) at) in
      let way = (two x.0).goes lies.middle here (ap (next x.0) (sym lies.rest) ∙ at) in
      record {
        more = way.more;
        found = way.found;
        reads = ap (λ (r : Read A). go_on r next) (lies.goes (32 ∷ way.more) (inr (record { first = 32; more = way.more; split = refl; blank = refl }))) ∙ way.reads;
      }

-- what is read up to the end, as something else
made_closes : {A B : Type 0} (phrase : Phrase A) (make : A → B) → Closes phrase → Closes (phrase >>= (λ a. give (make a)))
made_closes {A} {B} phrase make one = record {
  err = λ bytes left is. one.err bytes left (was bytes left (phrase bytes) refl is);
  fails = λ before here there is alike. ap (λ (r : Read A). go_on r (λ a. give (make a))) (one.fails before here there (was (before ++ here) (length here) (phrase (before ++ here)) refl is) alike);
  goes = λ before here is. way before (one.goes before here (was (before ++ here) (length here) (phrase (before ++ here)) refl is));
  some = way [] one.some;
} where
  was : (bytes : List ℕ) (left : ℕ) (read : Read A) → phrase bytes ≡ read → go_on {A = A} {B = B} (phrase bytes) (λ a. give (make a)) ≡ Err left → phrase bytes ≡ Err left
  was bytes left (Ok x) e is = absurd (let no = rw e at is in cc)
  was bytes left (Err other) e is = let at : Err other ≡ Err left = rw e at is in let same : other ≡ left = cc in e ∙ ap Err same

  way : (before : List ℕ) → Way phrase before → Way (phrase >>= (λ a. give (make a))) before
  way before w = record { more = w.more; found = make w.found; reads = ap (λ (r : Read A). go_on r (λ a. give (make a))) w.reads }

-- a phrase that reads the same
closes_same : {A : Type 0} (phrase other : Phrase A) → ((bytes : List ℕ) → other bytes ≡ phrase bytes) → Closes phrase → Closes other
closes_same phrase other same one = record {
  err = λ bytes left is. one.err bytes left (sym (same bytes) ∙ is);
  fails = λ before here there is alike. same (before ++ there) ∙ one.fails before here there (sym (same (before ++ here)) ∙ is) alike;
  goes = λ before here is. way before (one.goes before here (sym (same (before ++ here)) ∙ is));
  some = way [] one.some;
} where
  way : (before : List ℕ) → Way phrase before → Way other before
  way before w = record { more = w.more; found = w.found; reads = same (before ++ 32 ∷ w.more) ∙ w.reads }

-- the end

end_at : (bytes : List ℕ) → unblanked bytes ≡ [] → the_end [] bytes ≡ Ok (tt, [])
unfolding the_end
end_at bytes is = let same : bytes_eq (unblanked bytes) [] ≡ true = (bytes_eq-Decides (unblanked bytes) []).1 is in rw same refl

pub end_is : (bytes : List ℕ) (found : Unit {0} × List ℕ) → the_end [] bytes ≡ Ok found → unblanked bytes ≡ []
unfolding the_end
end_is bytes found is = elim (cases_Bool (bytes_eq (unblanked bytes) [])) [
  | inl t ↦ (bytes_eq-Decides (unblanked bytes) []).0 t
  | inr f ↦ absurd (let no = rw f at is in cc)
]

end_left : (bytes : List ℕ) (left : ℕ) → the_end [] bytes ≡ Err left → left ≡ length (unblanked bytes)
unfolding the_end
end_left bytes left is = elim (cases_Bool (bytes_eq (unblanked bytes) [])) [
  | inl t ↦ absurd (let no = rw t at is in cc)
  | inr f ↦ let at : Err (length (unblanked bytes)) ≡ Err left = rw f at is in let same : length (unblanked bytes) ≡ left = cc in sym same
]

no_end : (bytes : List ℕ) → (unblanked bytes ≡ [] → ⊥) → the_end [] bytes ≡ Err (length (unblanked bytes))
unfolding the_end
no_end bytes differs = elim (cases_Bool (bytes_eq (unblanked bytes) [])) [
  | inl t ↦ absurd (differs ((bytes_eq-Decides (unblanked bytes) []).0 t))
  | inr f ↦ rw f refl
]

-- where nothing is left, no comma stands
pub end_no_comma : (bytes : List ℕ) → unblanked bytes ≡ [] → a_sign 44 bytes ≡ Err 0
unfolding a_sign
end_no_comma bytes none = rw none refl

-- a token shows
token_shows : (here there : List ℕ) → Alike plain_front here there → (unblanked there ≡ there) × (there ≡ [] → ⊥)
token_shows here there alike =
    let t : TokenKind × ℕ = (alike.kind, alike.size) in
    let one = begins plain_front plain_laws there t alike.is in
    let at : plain_front (one.first ∷ one.more) ≡ Some t = ap plain_front (sym one.split) ∙ alike.is in
    let shows = plain_laws.shows one.first one.more t at in
    (rw one.split (rw shows refl), λ none. absurd (let no = sym one.split ∙ none in cc))

end_closes : Closes (the_end [])
end_closes = record {
  err = λ bytes left is. stops_here plain_front (Carries plain_front) (bytes_taking plain_front) bytes left (end_left bytes left is);
  fails = fails;
  goes = λ before here is. record { more = []; found = tt; reads = goes before here is };
  some = record { more = []; found = tt; reads = end_at (32 ∷ []) refl };
} where
  blanks : (before here : List ℕ) → the_end [] (before ++ here) ≡ Err (length here) → are_blanks before ≡ true
  blanks before here is = (blanks_before before here (sym (end_left (before ++ here) (length here) is))).0

  fails : (before here there : List ℕ) → the_end [] (before ++ here) ≡ Err (length here) → Alike plain_front here there → the_end [] (before ++ there) ≡ Err (length there)
  fails before here there is alike =
      let shows = token_shows here there alike in
      let at : unblanked (before ++ there) ≡ there = unblanked_past before there (blanks before here is) ∙ shows.0 in
      no_end (before ++ there) (λ none. shows.1 (sym at ∙ none)) ∙ ap (λ (l : List ℕ). Err (length l)) at

  goes : (before here : List ℕ) → the_end [] (before ++ here) ≡ Err (length here) → the_end [] (before ++ 32 ∷ []) ≡ Ok (tt, [])
  goes before here is = end_at (before ++ 32 ∷ []) (unblanked_past before (32 ∷ []) (blanks before here is))

-- lists

-- at most so many phrases behind commas, and then the end
abbrev listed : {A : Type 0} → Phrase A → ℕ → Phrase (List A)
listed phrase n = phrases phrase n >>= (λ found. the_end [] >>= (λ end. give found))

-- nothing but the end
abbrev nothing : {A : Type 0} → Phrase (List A)
nothing = the_end [] >>= (λ end. give [])

-- a phrase, and then a list
abbrev headed : {A : Type 0} → Phrase A → ℕ → Phrase (List A)
headed phrase n = phrase >>= (λ first. listed phrase n >>= (λ others. give (first ∷ others)))

-- without a comma, the end
listed_none : {A : Type 0} (phrase : Phrase A) (n : ℕ) (bytes : List ℕ) (left : ℕ) → a_sign 44 bytes ≡ Err left → listed phrase n bytes ≡ nothing bytes
listed_none phrase zero bytes left e = refl
listed_none phrase (suc n) bytes left e = rw e refl

-- the end of a list behind its first phrase
head_first : {A : Type 0} (phrase : Phrase A) (n : ℕ) (read : Read A) →
    go_on (go_on read (λ first. phrases phrase n >>= (λ others. give (first ∷ others)))) (λ found. the_end [] >>= (λ end. give found)) ≡ go_on read (λ first. listed phrase n >>= (λ others. give (first ∷ others)))
head_first {A} phrase n (Err left) = refl
head_first {A} phrase n (Ok x) = by_others x.0 (phrases phrase n x.1) where
  by_end : (first : A) (others : List A) (end : Read (Unit {0})) → go_on end (λ end. give (first ∷ others)) ≡ go_on (go_on end (λ end. give others)) (λ others. give (first ∷ others))
  by_end first others (Ok y) = refl
  by_end first others (Err left) = refl

  by_others : (first : A) (others : Read (List A)) →
      go_on (go_on others (λ others. give (first ∷ others))) (λ found. the_end [] >>= (λ end. give found)) ≡ go_on (go_on others (λ found. the_end [] >>= (λ end. give found))) (λ others. give (first ∷ others))
  by_others first (Ok y) = by_end first y.0 (the_end [] y.1)
  by_others first (Err left) = refl

listed_more : {A : Type 0} (phrase : Phrase A) (n : ℕ) (bytes : List ℕ) (comma : Unit {0} × List ℕ) → a_sign 44 bytes ≡ Ok comma → listed phrase (suc n) bytes ≡ headed phrase n comma.1
listed_more phrase n bytes comma e = rw e (head_first phrase n (phrase comma.1))

nothing_closes : {A : Type 0} → Closes {A = List A} nothing
nothing_closes {A} = made_closes (the_end []) (λ end. []) end_closes

-- where the end stands, no comma does
no_comma : {A : Type 0} (bytes : List ℕ) (found : List A × List ℕ) → nothing bytes ≡ Ok found → (left : ℕ) × (a_sign 44 bytes ≡ Err left)
no_comma {A} bytes found is = by_end (the_end [] bytes) refl is where
  by_end : (read : Read (Unit {0})) → the_end [] bytes ≡ read → go_on {A = Unit {0}} {B = List A} read (λ end. give []) ≡ Ok found → (left : ℕ) × (a_sign 44 bytes ≡ Err left)
  by_end (Err left) e at = absurd (cc)
  by_end (Ok x) e at = (0, end_no_comma bytes (end_is bytes x e))

-- where the end doesn't stand, something else does
nothing_left : {A : Type 0} (bytes : List ℕ) (left : ℕ) → nothing {A = A} bytes ≡ Err left → left ≡ length (unblanked bytes)
nothing_left {A} bytes left is = by_end (the_end [] bytes) refl is where
  by_end : (read : Read (Unit {0})) → the_end [] bytes ≡ read → go_on {A = Unit {0}} {B = List A} read (λ end. give []) ≡ Err left → left ≡ length (unblanked bytes)
  by_end (Ok x) e at = absurd (cc)
  by_end (Err other) e at = let same : other ≡ left = cc in end_left bytes left (e ∙ ap Err same)

-- a list up to the end
listed_closes : {A : Type 0} (phrase : Phrase A) → Takes phrase → (n : ℕ) → Closes (listed phrase n)
listed_closes phrase one zero = closes_same nothing (listed phrase 0) (λ bytes. refl) nothing_closes
listed_closes {A} phrase one (suc n) = go (listed_closes phrase one n) where
  whole : Phrase (List A)
  whole = listed phrase (suc n)

  commas : Takes (a_sign 44)
  commas = takes (a_sign 44) (sign_yields plain_front plain_laws 44 (plain_sign 44 refl refl refl))

  end : Closes {A = List A} nothing
  end = nothing_closes

  go : Closes (listed phrase n) → Closes whole
  go more = record {
    err = λ bytes left is. err_sign bytes left (a_sign 44 bytes) refl is;
    fails = λ before here there is alike. fails_sign before here there alike (a_sign 44 (before ++ here)) refl is;
    goes = λ before here is. goes_sign before here (a_sign 44 (before ++ here)) refl is;
    some = by_end [] end.some;
  } where
    list : Closes (headed phrase n)
    list = then_closes phrase (λ first. listed phrase n >>= (λ others. give (first ∷ others))) one (λ first. made_closes (listed phrase n) (λ others. first ∷ others) more)

    by_end : (before : List ℕ) → Way {A = List A} nothing before → Way whole before
    by_end before way =
        let none = no_comma (before ++ 32 ∷ way.more) (way.found, []) way.reads in
        record { more = way.more; found = way.found; reads = listed_none phrase (suc n) (before ++ 32 ∷ way.more) none.0 none.1 ∙ way.reads }

    err_sign : (bytes : List ℕ) (left : ℕ) (read : Read (Unit {0})) → a_sign 44 bytes ≡ read → whole bytes ≡ Err left → Stops (Carries plain_front) bytes left
    err_sign bytes left (Err before) e is = end.err bytes left (sym (listed_none phrase (suc n) bytes before e) ∙ is)
    err_sign bytes left (Ok comma) e is = stops_on bytes comma.1 left (commas.ok bytes comma e).1 (list.err comma.1 left (sym (listed_more phrase n bytes comma e) ∙ is))

    fails_sign : (before here there : List ℕ) → Alike plain_front here there → (read : Read (Unit {0})) → a_sign 44 (before ++ here) ≡ read → whole (before ++ here) ≡ Err (length here) → whole (before ++ there) ≡ Err (length there)
    fails_sign before here there alike (Err left) e is =
        let at : nothing (before ++ here) ≡ Err (length here) = sym (listed_none phrase (suc n) (before ++ here) left e) ∙ is in
        let size : left ≡ length here = sign_left 44 (before ++ here) left e ∙ sym (nothing_left {A = A} (before ++ here) (length here) at) in
        let none : a_sign 44 (before ++ there) ≡ Err (length there) = commas.fails before here there (e ∙ ap Err size) (λ never. never) alike in
        listed_none phrase (suc n) (before ++ there) (length there) none ∙ end.fails before here there at alike
    fails_sign before here there alike (Ok comma) e is =
        let at : headed phrase n comma.1 ≡ Err (length here) = sym (listed_more phrase n (before ++ here) comma e) ∙ is in
        let lies = passes (a_sign 44) commas before here comma e (list.err comma.1 (length here) at) in
        listed_more phrase n (before ++ there) (comma.0, lies.middle ++ there) (lies.goes there (inl alike))
        ∙ list.fails lies.middle here there (ap (headed phrase n) (sym lies.rest) ∙ at) alike

    goes_sign : (before here : List ℕ) (read : Read (Unit {0})) → a_sign 44 (before ++ here) ≡ read → whole (before ++ here) ≡ Err (length here) → Way whole before
    goes_sign before here (Err left) e is = by_end before (end.goes before here (sym (listed_none phrase (suc n) (before ++ here) left e) ∙ is))
    goes_sign before here (Ok comma) e is =
        let at : headed phrase n comma.1 ≡ Err (length here) = sym (listed_more phrase n (before ++ here) comma e) ∙ is in
        let lies = passes (a_sign 44) commas before here comma e (list.err comma.1 (length here) at) in
        let way = list.goes lies.middle here (ap (headed phrase n) (sym lies.rest) ∙ at) in
        record {
          more = way.more;
          found = way.found;
          reads = listed_more phrase n (before ++ 32 ∷ way.more) (comma.0, lies.middle ++ 32 ∷ way.more) (lies.goes (32 ∷ way.more) (inr (record { first = 32; more = way.more; split = refl; blank = refl }))) ∙ way.reads;
        }

-- a phrase and at most so many more, each behind a comma
abbrev pub few : {A : Type 0} → Phrase A → ℕ → Phrase (List A)
few phrase n = phrase >>= (λ first. phrases phrase n >>= (λ others. give (first ∷ others)))

few_closes : {A : Type 0} (phrase : Phrase A) → Takes phrase → (n : ℕ) → Closes (ended [] (few phrase n))
few_closes phrase one n = closes_same (headed phrase n) (ended [] (few phrase n)) (λ bytes. head_first phrase n (phrase bytes))
    (then_closes phrase (λ first. listed phrase n >>= (λ others. give (first ∷ others))) one (λ first. made_closes (listed phrase n) (λ others. first ∷ others) (listed_closes phrase one n)))

-- a whole text is refused in its place
closed_in_place : {A : Type 0} (phrase : Phrase A) → Closes (ended [] phrase) → RefusesInPlace (everywhere plain_front) (λ text. outcome (length text) (ended [] phrase text))
closed_in_place {A} phrase one = record {
  goes_on = λ text place is. goes_on text place (ended [] phrase text) refl is;
  ends = λ text more place size kind front is holds was stays.
      let was_plain : plain_front (drop place text) ≡ Some (kind, size) = ap (λ (f : Front). f (drop place text)) (sym holds) ∙ was in
      let stays_plain : plain_front (take size (drop place text) ++ more) ≡ Some (kind, size) = ap (λ (f : Front). f (take size (drop place text) ++ more)) (sym holds) ∙ stays in
      refused text more place size kind was_plain stays_plain (ended [] phrase text) refl is;
} where
  fewer : (text : List ℕ) (left : ℕ) → ended [] phrase text ≡ Err left → left ≤ length text
  fewer text left is = stops-le plain_front (Carries plain_front) (bytes_taking plain_front) text left (one.err text left is)

  -- the bytes from the place on
  at_place : (text : List ℕ) (place left : ℕ) → ended [] phrase text ≡ Err left → length text - left ≡ place → ended [] phrase (take place text ++ drop place text) ≡ Err (length (drop place text))
  at_place text place left e same =
      let size_here : length (drop place text) ≡ left = omega (arith, length-drop place text, fewer text left e) in
      ap (ended [] phrase) (take-append-drop place text) ∙ e ∙ ap Err (sym size_here)

  goes_on : (text : List ℕ) (place : ℕ) (read : Read A) → ended [] phrase text ≡ read → outcome (length text) read ≡ Err place → (more : List ℕ) × (found : A) × (outcome (length (take place text ++ 32 ∷ more)) (ended [] phrase (take place text ++ 32 ∷ more)) ≡ Ok found)
  goes_on text place (Ok x) e is = absurd (cc)
  goes_on text place (Err left) e is =
      let same : length text - left ≡ place = cc in
      let way = one.goes (take place text) (drop place text) (at_place text place left e same) in
      (way.more, way.found, ap (outcome (length (take place text ++ 32 ∷ way.more))) way.reads)

  refused : (text more : List ℕ) (place size : ℕ) (kind : TokenKind) → plain_front (drop place text) ≡ Some (kind, size) → plain_front (take size (drop place text) ++ more) ≡ Some (kind, size) → (read : Read A) → ended [] phrase text ≡ read → outcome (length text) read ≡ Err place →
      outcome (length (take place text ++ (take size (drop place text) ++ more))) (ended [] phrase (take place text ++ (take size (drop place text) ++ more))) ≡ Err place
  refused text more place size kind was stays (Ok x) e is = absurd (cc)
  refused text more place size kind was stays (Err left) e is =
      let here : List ℕ = drop place text in
      let there : List ℕ = take size here ++ more in
      let same : length text - left ≡ place = cc in
      let all : left ≤ length text = fewer text left e in
      let size_token : length (take size here) ≡ size = omega (arith, length-take size here, plain_laws.within here kind size was) in
      let fronts_same : take size there ≡ take size here = ap (λ (n : ℕ). take n there) (sym size_token) ∙ take-append_seam (take size here) more in
      let again = one.fails (take place text) here there (at_place text place left e same) (record { kind = kind; size = size; was = was; is = stays; same = fronts_same }) in
      ap (outcome (length (take place text ++ there))) again ∙ ap Err (omega (arith, length-append (take place text) there, length-take place text))

-- A list of at most so many phrases is refused in its place.
pub few_in_place : {A : Type 0} (phrase : Phrase A) → Yields plain_front Any phrase → (n : ℕ) → RefusesInPlace (everywhere plain_front) (λ text. outcome (length text) (ended [] (few phrase n) text))
few_in_place phrase one n = closed_in_place (few phrase n) (few_closes phrase (takes phrase one) n)
