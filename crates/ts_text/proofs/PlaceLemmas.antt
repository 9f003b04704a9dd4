-- A whole text is its tokens, and is refused in its place.
use Rattle.std.proofs.Common.{◌≡◌, ℕ, ◌-◌, ◌≤◌, true, List, [], ◌∷◌, ◌++◌, length, length-append, length-drop, take, drop, take-append-drop, Some, None, Result, Ok, Err, refl, sym, ◌∙◌, ap, subst, arith, inl, inr}
use Rattle.std.proofs.Math.Seq.{take-append_seam}
use Rattle.std.proofs.lemmas.Bool.{cases_Bool}
use Rattle.std.proofs.lemmas.List.{length-take}
use Rattle.std.proofs.lemmas.Slice.Eq.{bytes_eq-Decides}
use Rattle.std.specs.Str.{bytes_eq}
use Rattle.ts_text.specs.Phrase.{unblanked, Front, Read, Phrase, go_on, ◌>>=◌, give, the_end, ended, outcome}
use Rattle.ts_text.proofs.FrontLemmas.{IsFront}
use Rattle.ts_text.specs.Spelling.{Lexeme, Spells, AreItsTokens}
use Rattle.ts_text.specs.Place.{everywhere, inside_or, RefusesInPlace}
use Rattle.ts_text.specs.declared.token.TokenKind.{TokenKind}
use Rattle.ts_text.proofs.SpellingLemmas.{Takes, Stops, unblanked_past, blanks_before}
use Rattle.ts_text.proofs.FollowLemmas.{Alike, IsTaking, tokens_taking, stops_on, stops-le, stops_here, front_unblanked}
use Rattle.ts_text.proofs.PhraseLemmas.{Yields, YieldsIn, Nowhere, passes}

-- What ends a text begins with no blank, and no token stands there.
pub record IsEnding (front : Front) (ending : List ℕ) : Type 0 where
  pub none : front ending ≡ None
  pub shows : unblanked ending ≡ ending

-- something that is told, and then blanks and what ends the text
record Ends (T : List ℕ → List ℕ → Type 0) (ending bytes : List ℕ) : Type 0 where
  before : List ℕ
  takes : T bytes before
  close : unblanked before ≡ ending

-- the end, where it stands
pub end_at : (ending bytes : List ℕ) → unblanked bytes ≡ ending → the_end ending bytes ≡ Ok (tt, [])
unfolding the_end
end_at ending bytes is = let same : bytes_eq (unblanked bytes) ending ≡ true = (bytes_eq-Decides (unblanked bytes) ending).1 is in rw same refl

pub end_is : (ending bytes : List ℕ) (found : Unit {0} × List ℕ) → the_end ending bytes ≡ Ok found → unblanked bytes ≡ ending
unfolding the_end
end_is ending bytes found is = elim (cases_Bool (bytes_eq (unblanked bytes) ending)) [
  | inl t ↦ (bytes_eq-Decides (unblanked bytes) ending).0 t
  | inr f ↦ absurd (let no = rw f at is in cc)
]

end_left : (ending bytes : List ℕ) (left : ℕ) → the_end ending bytes ≡ Err left → left ≡ length (unblanked bytes)
unfolding the_end
end_left ending bytes left is = elim (cases_Bool (bytes_eq (unblanked bytes) ending)) [
  | inl t ↦ absurd (let no = rw t at is in cc)
  | inr f ↦ let at : Err (length (unblanked bytes)) ≡ Err left = rw f at is in let same : length (unblanked bytes) ≡ left = cc in sym same
]

no_end : (ending bytes : List ℕ) → (unblanked bytes ≡ ending → ⊥) → the_end ending bytes ≡ Err (length (unblanked bytes))
unfolding the_end
no_end ending bytes differs = elim (cases_Bool (bytes_eq (unblanked bytes) ending)) [
  | inl t ↦ absurd (differs ((bytes_eq-Decides (unblanked bytes) ending).0 t))
  | inr f ↦ rw f refl
]

-- what a whole text gives, and where it is refused
record Whole {A : Type 0} (front : Front) (T : List ℕ → List ℕ → Type 0) (Other : List ℕ → Type 0) (P : A → Type 0) (ending : List ℕ) (phrase : Phrase A) : Type 0 where
  ok : (bytes : List ℕ) (found : A × List ℕ) → phrase bytes ≡ Ok found → P found.0 × Ends T ending bytes
  err : (bytes : List ℕ) (left : ℕ) → phrase bytes ≡ Err left → Stops T bytes left
  fails : (before here there : List ℕ) → phrase (before ++ here) ≡ Err (length here) → (Other before → ⊥) → Alike front here there → phrase (before ++ there) ≡ Err (length there)
  goes : (before here : List ℕ) → phrase (before ++ here) ≡ Err (length here) → (more : List ℕ) × (found : A) × (phrase (before ++ 32 ∷ more) ≡ Ok (found, []))

whole : {A : Type 0} (front : Front) → IsFront front → (T : List ℕ → List ℕ → Type 0) → IsTaking front T → (Other : List ℕ → Type 0) (P : A → Type 0) (ending : List ℕ) → IsEnding front ending → (phrase : Phrase A) → YieldsIn front T Other P phrase → Whole front T Other P ending (ended ending phrase)
whole {A} front laws T taking Other P ending ends phrase one = record {
  ok = λ bytes found is. ok_first bytes found (phrase bytes) refl is;
  err = λ bytes left is. err_first bytes left (phrase bytes) refl is;
  fails = λ before here there is free alike. fails_first before here there free alike (phrase (before ++ here)) refl is;
  goes = λ before here is. goes_first before here (phrase (before ++ here)) refl is;
} where
  next : A → Phrase A
  next a = the_end ending >>= (λ (end : Unit {0}). give a)

  next_ok : (a : A) (bytes : List ℕ) (found : A × List ℕ) (read : Read (Unit {0})) → the_end ending bytes ≡ read → go_on read (λ (end : Unit {0}). give a) ≡ Ok found → (a ≡ found.0) × (unblanked bytes ≡ ending)
  next_ok a bytes found (Err left) e is = absurd (cc)
  next_ok a bytes found (Ok x) e is =
      let pair : A × List ℕ = (a, x.1) in
      let same : pair ≡ found = cc in
      (ap (λ (p : A × List ℕ). p.0) same, end_is ending bytes x e)

  next_left : (a : A) (bytes : List ℕ) (left : ℕ) (read : Read (Unit {0})) → the_end ending bytes ≡ read → go_on read (λ (end : Unit {0}). give a) ≡ Err left → (left ≡ length (unblanked bytes)) × (the_end ending bytes ≡ Err left)
  next_left a bytes left (Ok x) e is = absurd (cc)
  next_left a bytes left (Err other) e is = let same : other ≡ left = cc in (end_left ending bytes left (e ∙ ap Err same), e ∙ ap Err same)

  next_at : (a : A) (bytes : List ℕ) → unblanked bytes ≡ ending → next a bytes ≡ Ok (a, [])
  next_at a bytes is = ap (λ (r : Read (Unit {0})). go_on r (λ (end : Unit {0}). give a)) (end_at ending bytes is)

  ok_first : (bytes : List ℕ) (found : A × List ℕ) (read : Read A) → phrase bytes ≡ read → go_on (phrase bytes) next ≡ Ok found → P found.0 × Ends T ending bytes
  ok_first bytes found (Err left) e is = absurd (let no = rw e at is in cc)
  ok_first bytes found (Ok x) e is =
      let before = one.ok bytes x e in
      let after = next_ok x.0 x.1 found (the_end ending x.1) refl (rw e at is) in
      (subst P after.0 before.0, record { before = x.1; takes = before.1; close = after.1 })

  err_first : (bytes : List ℕ) (left : ℕ) (read : Read A) → phrase bytes ≡ read → go_on (phrase bytes) next ≡ Err left → Stops T bytes left
  err_first bytes left (Err before) e is = let at : Err before ≡ Err left = rw e at is in let same : before ≡ left = cc in one.err bytes left (e ∙ ap Err same)
  err_first bytes left (Ok x) e is =
      stops_on front T taking bytes x.1 left (one.ok bytes x e).1 (stops_here front T taking x.1 left (next_left x.0 x.1 left (the_end ending x.1) refl (rw e at is)).0)

  fails_first : (before here there : List ℕ) → (Other before → ⊥) → Alike front here there → (read : Read A) → phrase (before ++ here) ≡ read → go_on (phrase (before ++ here)) next ≡ Err (length here) → go_on (phrase (before ++ there)) next ≡ Err (length there)
  fails_first before here there free alike (Err left) e is =
      let at : Err left ≡ Err (length here) = rw e at is in
      let same : left ≡ length here = cc in
      ap (λ (r : Read A). go_on r next) (one.fails before here there (e ∙ ap Err same) free alike)
  fails_first before here there free alike (Ok x) e is =
      let left = (next_left x.0 x.1 (length here) (the_end ending x.1) refl (rw e at is)).0 in
      let lies = passes front T taking Other P phrase one before here x e (stops_here front T taking x.1 (length here) left) in
      let blanks = blanks_before lies.middle here (ap (λ (l : List ℕ). length (unblanked l)) (sym lies.rest) ∙ sym left) in
      let there_is : unblanked (lies.middle ++ there) ≡ there = unblanked_past lies.middle there blanks.0 ∙ front_unblanked front laws there (alike.kind, alike.size) alike.is in
      let none : the_end ending (lies.middle ++ there) ≡ Err (length there) = no_end ending (lies.middle ++ there) (λ same. no_token (sym there_is ∙ same)) ∙ ap (λ (l : List ℕ). Err (length l)) there_is in
      ap (λ (r : Read A). go_on r next) (lies.goes there (inl alike)) ∙ ap (λ (r : Read (Unit {0})). go_on r (λ (end : Unit {0}). give x.0)) none
    where
      no_token : there ≡ ending → ⊥
      no_token same =
          let t : TokenKind × ℕ = (alike.kind, alike.size) in
          let stands : Some t ≡ None = sym alike.is ∙ ap front same ∙ ends.none in
          absurd (cc)

  goes_first : (before here : List ℕ) (read : Read A) → phrase (before ++ here) ≡ read → go_on (phrase (before ++ here)) next ≡ Err (length here) → (more : List ℕ) × (found : A) × (go_on (phrase (before ++ 32 ∷ more)) next ≡ Ok (found, []))
  goes_first before here (Err left) e is =
      let at : Err left ≡ Err (length here) = rw e at is in
      let same : left ≡ length here = cc in
      let goes = one.goes before here (e ∙ ap Err same) in
      let starts = goes.starts ending in
      (starts.0, goes.found, ap (λ (l : List ℕ). go_on (phrase (before ++ l)) next) (sym starts.1) ∙ ap (λ (r : Read A). go_on r next) (goes.reads ending) ∙ next_at goes.found (32 ∷ ending) ends.shows)
  goes_first before here (Ok x) e is =
      let left = (next_left x.0 x.1 (length here) (the_end ending x.1) refl (rw e at is)).0 in
      let lies = passes front T taking Other P phrase one before here x e (stops_here front T taking x.1 (length here) left) in
      let blanks = blanks_before lies.middle here (ap (λ (l : List ℕ). length (unblanked l)) (sym lies.rest) ∙ sym left) in
      let ends_here : unblanked (lies.middle ++ 32 ∷ ending) ≡ ending = unblanked_past lies.middle (32 ∷ ending) blanks.0 ∙ ends.shows in (
        ending,
        x.0,
        ap (λ (r : Read A). go_on r next) (lies.goes (32 ∷ ending) (inr (record { first = 32; more = ending; split = refl; blank = refl }))) ∙ next_at x.0 (lies.middle ++ 32 ∷ ending) ends_here,
      )

-- what a text is read as
abbrev pub reading : {A : Type 0} → List ℕ → Phrase A → List ℕ → Result A ℕ
reading ending phrase text = outcome (length text) (ended ending phrase text)

-- over one front alone
whole_tokens : {A : Type 0} (front : Front) → IsFront front → (P : A → Type 0) (ending : List ℕ) → IsEnding front ending → (phrase : Phrase A) → Yields front P phrase → Whole front (Takes front) Nowhere P ending (ended ending phrase)
whole_tokens front laws P ending ends phrase one = whole front laws (Takes front) (tokens_taking front laws) Nowhere P ending ends phrase one

-- no more bytes are left than there were
pub left-le : {A : Type 0} (front : Front) → IsFront front → (P : A → Type 0) (ending : List ℕ) → IsEnding front ending → (phrase : Phrase A) → Yields front P phrase → (text : List ℕ) (left : ℕ) → ended ending phrase text ≡ Err left → left ≤ length text
left-le front laws P ending ends phrase one text left is = stops-le front (Takes front) (tokens_taking front laws) text left ((whole_tokens front laws P ending ends phrase one).err text left is)

-- what is found has the property
pub found-holds : {A : Type 0} (front : Front) → IsFront front → (P : A → Type 0) (ending : List ℕ) → IsEnding front ending → (phrase : Phrase A) → Yields front P phrase → (text : List ℕ) (found : A × List ℕ) → ended ending phrase text ≡ Ok found → P found.0
found-holds front laws P ending ends phrase one text found is = ((whole_tokens front laws P ending ends phrase one).ok text found is).0

-- a whole text is its tokens
pub is_its_tokens : {A : Type 0} (front : Front) → IsFront front → (P : A → Type 0) (ending : List ℕ) → IsEnding front ending → (phrase : Phrase A) → Yields front P phrase → AreItsTokens front ending (reading ending phrase)
is_its_tokens {A} front laws P ending ends phrase one = record {
  read = λ text found is. by_read text found (ended ending phrase text) refl is;
  before = λ text place is. by_err text place (ended ending phrase text) refl is;
} where
  by_read : (text : List ℕ) (found : A) (read : Read A) → ended ending phrase text ≡ read → outcome (length text) read ≡ Ok found → (lexemes : List Lexeme) × (rest : List ℕ) × Spells front text lexemes rest × (unblanked rest ≡ ending)
  by_read text found (Err left) e is = absurd (cc)
  by_read text found (Ok x) e is =
      let at = ((whole_tokens front laws P ending ends phrase one).ok text x e).1 in
      (at.takes.lexemes, at.before, at.takes.spells, at.close)

  by_err : (text : List ℕ) (place : ℕ) (read : Read A) → ended ending phrase text ≡ read → outcome (length text) read ≡ Err place → (lexemes : List Lexeme) × (rest : List ℕ) × Spells front text lexemes rest × (place ≡ length text - length (unblanked rest))
  by_err text place (Ok x) e is = absurd (cc)
  by_err text place (Err left) e is =
      let stops = (whole_tokens front laws P ending ends phrase one).err text left e in
      let same : length text - left ≡ place = cc in
      (stops.takes.lexemes, stops.rest, stops.takes.spells, sym same ∙ ap (λ (n : ℕ). length text - n) stops.here)

-- a text is refused in its place, by what its phrase says of the bytes before and from there on
placed : {A : Type 0} (fronts : List ℕ → Front → Type 0) (ending : List ℕ) (phrase : Phrase A) →
    ((text : List ℕ) (left : ℕ) → ended ending phrase text ≡ Err left → left ≤ length text) →
    ((before : List ℕ) (front : Front) → fronts before front → (bytes : List ℕ) (kind : TokenKind) (size : ℕ) → front bytes ≡ Some (kind, size) → size ≤ length bytes) →
    ((before here there : List ℕ) (front : Front) → ended ending phrase (before ++ here) ≡ Err (length here) → fronts before front → Alike front here there → ended ending phrase (before ++ there) ≡ Err (length there)) →
    ((before here : List ℕ) → ended ending phrase (before ++ here) ≡ Err (length here) → (more : List ℕ) × (found : A) × (ended ending phrase (before ++ 32 ∷ more) ≡ Ok (found, []))) →
    RefusesInPlace fronts (reading ending phrase)
placed {A} fronts ending phrase few within fails goes = record {
  goes_on = λ text place is. goes_on text place (ended ending phrase text) refl is;
  ends = λ text more place size kind front is holds was stays. refused text more place size kind front holds was stays (ended ending phrase text) refl is;
} where
  -- the bytes from the place on
  at_place : (text : List ℕ) (place left : ℕ) → ended ending phrase text ≡ Err left → length text - left ≡ place → ended ending phrase (take place text ++ drop place text) ≡ Err (length (drop place text))
  at_place text place left e same =
      let size_here : length (drop place text) ≡ left = omega (arith, length-drop place text, few text left e) in
      ap (ended ending phrase) (take-append-drop place text) ∙ e ∙ ap Err (sym size_here)

  goes_on : (text : List ℕ) (place : ℕ) (read : Read A) → ended ending phrase text ≡ read → outcome (length text) read ≡ Err place → (more : List ℕ) × (found : A) × (reading ending phrase (take place text ++ 32 ∷ more) ≡ Ok found)
  goes_on text place (Ok x) e is = absurd (cc)
  goes_on text place (Err left) e is =
      let same : length text - left ≡ place = cc in
      let way = goes (take place text) (drop place text) (at_place text place left e same) in
      (way.0, way.1, ap (outcome (length (take place text ++ 32 ∷ way.0))) way.2)

  refused : (text more : List ℕ) (place size : ℕ) (kind : TokenKind) (front : Front) → fronts (take place text) front → front (drop place text) ≡ Some (kind, size) → front (take size (drop place text) ++ more) ≡ Some (kind, size) → (read : Read A) → ended ending phrase text ≡ read → outcome (length text) read ≡ Err place →
      reading ending phrase (take place text ++ (take size (drop place text) ++ more)) ≡ Err place
  refused text more place size kind front holds was stays (Ok x) e is = absurd (cc)
  refused text more place size kind front holds was stays (Err left) e is =
      let here : List ℕ = drop place text in
      let there : List ℕ = take size here ++ more in
      let same : length text - left ≡ place = cc in
      let all : left ≤ length text = few text left e in
      let size_token : length (take size here) ≡ size = omega (arith, length-take size here, within (take place text) front holds here kind size was) in
      let fronts_same : take size there ≡ take size here = ap (λ (n : ℕ). take n there) (sym size_token) ∙ take-append_seam (take size here) more in
      let again = fails (take place text) here there front (at_place text place left e same) holds (record { kind = kind; size = size; was = was; is = stays; same = fronts_same }) in
      ap (outcome (length (take place text ++ there))) again ∙ ap Err (omega (arith, length-append (take place text) there, length-take place text))

-- a whole text is refused in its place
pub in_place : {A : Type 0} (front : Front) → IsFront front → (P : A → Type 0) (ending : List ℕ) → IsEnding front ending → (phrase : Phrase A) → Yields front P phrase → RefusesInPlace (everywhere front) (reading ending phrase)
in_place {A} front laws P ending ends phrase one = placed (everywhere front) ending phrase (left-le front laws P ending ends phrase one)
    (λ before other holds bytes kind size is. laws.within bytes kind size (ap (λ (f : Front). f bytes) (sym holds) ∙ is))
    (λ before here there other is holds alike. (whole_tokens front laws P ending ends phrase one).fails before here there is (λ none. none) (subst (λ (f : Front). Alike f here there) holds alike))
    (λ before here is. (whole_tokens front laws P ending ends phrase one).goes before here is)

-- and so it is where another front holds behind some bytes
pub in_places : {A : Type 0} (front : Front) → IsFront front → (T : List ℕ → List ℕ → Type 0) → IsTaking front T → (Other : List ℕ → Type 0) (P : A → Type 0) (ending : List ℕ) → IsEnding front ending → (phrase : Phrase A) → YieldsIn front T Other P phrase →
    (inner : Front) → ((bytes : List ℕ) (kind : TokenKind) (size : ℕ) → inner bytes ≡ Some (kind, size) → size ≤ length bytes) →
    ((before here there : List ℕ) → ended ending phrase (before ++ here) ≡ Err (length here) → Other before → Alike inner here there → ended ending phrase (before ++ there) ≡ Err (length there)) →
    RefusesInPlace (inside_or Other inner front) (reading ending phrase)
in_places {A} front laws T taking Other P ending ends phrase one inner within fails = placed (inside_or Other inner front) ending phrase (λ text left is. stops-le front T taking text left (all.err text left is)) size_within refused all.goes where
  all : Whole front T Other P ending (ended ending phrase)
  all = whole front laws T taking Other P ending ends phrase one

  size_within : (before : List ℕ) (other : Front) → inside_or Other inner front before other → (bytes : List ℕ) (kind : TokenKind) (size : ℕ) → other bytes ≡ Some (kind, size) → size ≤ length bytes
  size_within before other (inl in_) bytes kind size is = within bytes kind size (ap (λ (f : Front). f bytes) (sym in_.1) ∙ is)
  size_within before other (inr out) bytes kind size is = laws.within bytes kind size (ap (λ (f : Front). f bytes) (sym out.1) ∙ is)

  refused : (before here there : List ℕ) (other : Front) → ended ending phrase (before ++ here) ≡ Err (length here) → inside_or Other inner front before other → Alike other here there → ended ending phrase (before ++ there) ≡ Err (length there)
  refused before here there other is (inl in_) alike = fails before here there is in_.0 (subst (λ (f : Front). Alike f here there) in_.1 alike)
  refused before here there other is (inr out) alike = all.fails before here there is out.0 (subst (λ (f : Front). Alike f here there) out.1 alike)
