-- What may stand behind tokens in place of what stands there: the same token, or a blank.
use Rattle.std.proofs.Common.{◌≡◌, ◌⊎◌, ℕ, zero, suc, ◌<◌, ◌≤◌, true, List, [], ◌∷◌, ◌++◌, length, length-append, append_assoc, take, Some, refl, sym, ◌∙◌, ap, subst, arith, inl, inr}
use Rattle.std.proofs.Math.Seq.{take-append_seam}
use Rattle.std.proofs.lemmas.Bool.{and_parts}
use Rattle.ts_base.specs.Name.{is_blank}
use Rattle.ts_text.specs.Phrase.{unblanked, are_blanks, Front}
use Rattle.ts_text.proofs.FrontLemmas.{IsFront}
use Rattle.ts_text.specs.Spelling.{Lexeme, spelled, AreTokens}
use Rattle.ts_text.specs.declared.token.TokenKind.{TokenKind}
use Rattle.ts_text.proofs.SpellingLemmas.{Takes, Stops, takes_none, takes_on, unblanked-le, blanked, split_same}

-- the same token begins both
pub record Alike (front : Front) (here there : List ℕ) : Type 0 where
  pub kind : TokenKind
  pub size : ℕ
  pub was : front here ≡ Some (kind, size)
  pub is : front there ≡ Some (kind, size)
  pub same : take size there ≡ take size here

-- a blank comes first
pub record StartsBlank (bytes : List ℕ) : Type 0 where
  pub first : ℕ
  pub more : List ℕ
  pub split : bytes ≡ first ∷ more
  pub blank : is_blank first ≡ true

-- the same token stands there, or a blank
abbrev pub Follows : Front → List ℕ → List ℕ → Type 0
Follows front rest other = Alike front rest other ⊎ StartsBlank other

-- the first byte of what begins with a token
pub record Begins (bytes : List ℕ) : Type 0 where
  pub first : ℕ
  pub more : List ℕ
  pub split : bytes ≡ first ∷ more

no_size : (front : Front) → IsFront front → (t : TokenKind × ℕ) → front [] ≡ Some t → ⊥
no_size front laws t is = let some = laws.some [] t.0 t.1 is in let within = laws.within [] t.0 t.1 is in absurd (omega arith)

pub begins : (front : Front) → IsFront front → (bytes : List ℕ) (t : TokenKind × ℕ) → front bytes ≡ Some t → Begins bytes
begins front laws [] t is = absurd (no_size front laws t is)
begins front laws (b ∷ bytes) t is = record { first = b; more = bytes; split = refl }

-- no blanks stand before a token that stands in front
pub front_unblanked : (front : Front) → IsFront front → (bytes : List ℕ) (t : TokenKind × ℕ) → front bytes ≡ Some t → unblanked bytes ≡ bytes
front_unblanked front laws [] t is = refl
front_unblanked front laws (b ∷ bytes) t is = rw (laws.shows b bytes t is) refl

-- of two lists whose fronts are the same
pub heads_same : (b c : ℕ) (s t : List ℕ) (n : ℕ) → 0 < n → take n (c ∷ t) ≡ take n (b ∷ s) → c ≡ b
heads_same b c s t zero some same = absurd (omega arith)
heads_same b c s t (suc n) some same = cc

-- the same first byte
pub record SameFirst (front : Front) (here there : List ℕ) : Type 0 where
  pub first : ℕ
  pub was_more : List ℕ
  pub is_more : List ℕ
  pub was : here ≡ first ∷ was_more
  pub is : there ≡ first ∷ is_more

pub alike_first : (front : Front) → IsFront front → (here there : List ℕ) → Alike front here there → SameFirst front here there
alike_first front laws here there alike =
    let t : TokenKind × ℕ = (alike.kind, alike.size) in
    let one = begins front laws here t alike.was in
    let other = begins front laws there t alike.is in
    let size : 0 < alike.size = laws.some here alike.kind alike.size alike.was in
    let fronts : take alike.size (other.first ∷ other.more) ≡ take alike.size (one.first ∷ one.more) =
    ap (take alike.size) (sym other.split) ∙ alike.same ∙ ap (take alike.size) one.split in
    let same : other.first ≡ one.first = heads_same one.first other.first one.more other.more alike.size size fronts in
    record {
      first = one.first;
      was_more = one.more;
      is_more = other.more;
      was = one.split;
      is = other.split ∙ ap (λ (b : ℕ). b ∷ other.more) same;
    }

-- a token before them stays
pub keeps_token : (front : Front) → IsFront front → (token rest other : List ℕ) (kind : TokenKind) → Follows front rest other → front (token ++ rest) ≡ Some (kind, length token) → front (token ++ other) ≡ Some (kind, length token)
keeps_token front laws [] rest other kind f is = absurd (let some = laws.some rest kind 0 is in omega (arith, some))
keeps_token front laws (c ∷ v) rest other kind (inl alike) is =
    let same = alike_first front laws rest other alike in
    let t : TokenKind × ℕ = (alike.kind, alike.size) in
    let at : front (c ∷ (v ++ same.first ∷ same.was_more)) ≡ Some (kind, length (c ∷ v)) = subst (λ (l : List ℕ). front (c ∷ (v ++ l)) ≡ Some (kind, length (c ∷ v))) same.was is in
    let token : front (same.first ∷ same.was_more) ≡ Some t = subst (λ (l : List ℕ). front l ≡ Some t) same.was alike.was in
    subst (λ (l : List ℕ). front (c ∷ (v ++ l)) ≡ Some (kind, length (c ∷ v))) (sym same.is) (laws.keeps c v same.was_more same.is_more same.first kind t token at)
keeps_token front laws (c ∷ v) rest other kind (inr blank) is =
    subst (λ (l : List ℕ). front (c ∷ (v ++ l)) ≡ Some (kind, length (c ∷ v))) (sym blank.split) (laws.stays c v rest blank.more blank.first kind blank.blank is)

-- behind blanks
pub behind_blanks : (front : Front) (blanks rest other : List ℕ) → are_blanks blanks ≡ true → Follows front rest other → Follows front (blanks ++ rest) (blanks ++ other)
behind_blanks front [] rest other all f = f
behind_blanks front (b ∷ blanks) rest other all f =
    inr (record { first = b; more = blanks ++ other; split = refl; blank = (and_parts (is_blank b) (are_blanks blanks) all).0 })

-- tokens before them: the first of these is the same
pub follows_on : (front : Front) → IsFront front → (lexemes : List Lexeme) (rest other : List ℕ) → AreTokens front lexemes rest → Follows front rest other → Follows front (spelled lexemes ++ rest) (spelled lexemes ++ other)
follows_on front laws [] rest other tokens f = f
follows_on front laws (l ∷ lexemes) rest other tokens f =
    let more = follows_on front laws lexemes rest other tokens.2 f in
    let text : List ℕ = l.token in
    let alike : Alike front (text ++ (spelled lexemes ++ rest)) (text ++ (spelled lexemes ++ other)) = record {
      kind = l.kind;
      size = length text;
      was = tokens.1;
      is = keeps_token front laws text (spelled lexemes ++ rest) (spelled lexemes ++ other) l.kind more tokens.1;
      same = take-append_seam text (spelled lexemes ++ other) ∙ sym (take-append_seam text (spelled lexemes ++ rest));
    } in
    let far = behind_blanks front l.blanks (text ++ (spelled lexemes ++ rest)) (text ++ (spelled lexemes ++ other)) tokens.0 (inl alike) in
    subst (λ (s : List ℕ). Follows front s (spelled (l ∷ lexemes) ++ other)) (sym (split rest)) (subst (λ (s : List ℕ). Follows front (l.blanks ++ (text ++ (spelled lexemes ++ rest))) s) (sym (split other)) far)
  where
    split : (end : List ℕ) → spelled (l ∷ lexemes) ++ end ≡ l.blanks ++ (l.token ++ (spelled lexemes ++ end))
    split end = ap (λ (s : List ℕ). s ++ end) (append_assoc l.blanks l.token (spelled lexemes)) ∙ append_assoc l.blanks (l.token ++ spelled lexemes) end ∙ ap (λ (s : List ℕ). l.blanks ++ s) (append_assoc l.token (spelled lexemes) end)

-- Bytes stand before the rest; with another rest that begins like it, they begin as before.
pub record Carries (front : Front) (bytes rest : List ℕ) : Type 0 where
  pub used : List ℕ
  pub whole : bytes ≡ used ++ rest
  pub follows : (other : List ℕ) → Follows front rest other → Follows front bytes (used ++ other)

-- What is told of the bytes that are taken: none may be taken, and one after the other; and they stay.
pub record IsTaking (front : Front) (T : List ℕ → List ℕ → Type 0) : Type 0 where
  pub none : (bytes : List ℕ) → T bytes bytes
  pub on : (bytes middle rest : List ℕ) → T bytes middle → T middle rest → T bytes rest
  pub carries : (bytes rest : List ℕ) → T bytes rest → Carries front bytes rest

-- tokens with their blanks
pub tokens_taking : (front : Front) → IsFront front → IsTaking front (Takes front)
tokens_taking front laws = record {
  none = takes_none front;
  on = takes_on front;
  carries = λ bytes rest takes. record {
    used = spelled takes.lexemes;
    whole = takes.spells.whole;
    follows = λ other f. subst (λ (l : List ℕ). Follows front l (spelled takes.lexemes ++ other)) (sym takes.spells.whole) (follows_on front laws takes.lexemes rest other takes.spells.tokens f);
  };
}

carries_on : (front : Front) (bytes middle rest : List ℕ) → Carries front bytes middle → Carries front middle rest → Carries front bytes rest
carries_on front bytes middle rest first next = record {
  used = first.used ++ next.used;
  whole = first.whole ∙ ap (λ (l : List ℕ). first.used ++ l) next.whole ∙ sym (append_assoc first.used next.used rest);
  follows = λ other f. subst (λ (l : List ℕ). Follows front bytes l) (sym (append_assoc first.used next.used other)) (first.follows (next.used ++ other) (next.follows other f));
}

-- no more than that they stay
pub bytes_taking : (front : Front) → IsTaking front (Carries front)
bytes_taking front = record {
  none = λ bytes. record { used = []; whole = refl; follows = λ other f. f };
  on = carries_on front;
  carries = λ bytes rest takes. takes;
}

pub stops_on : (front : Front) (T : List ℕ → List ℕ → Type 0) → IsTaking front T → (bytes middle : List ℕ) (left : ℕ) → T bytes middle → Stops T middle left → Stops T bytes left
stops_on front T taking bytes middle left first next = record { rest = next.rest; takes = taking.on bytes middle next.rest first next.takes; here = next.here }

-- the first byte that isn't blank can't stand there
pub stops_here : (front : Front) (T : List ℕ → List ℕ → Type 0) → IsTaking front T → (bytes : List ℕ) (left : ℕ) → left ≡ length (unblanked bytes) → Stops T bytes left
stops_here front T taking bytes left here = record { rest = bytes; takes = taking.none bytes; here = here }

-- no more bytes are left than there were
pub taken-le : (front : Front) (T : List ℕ → List ℕ → Type 0) → IsTaking front T → (bytes rest : List ℕ) → T bytes rest → length rest ≤ length bytes
taken-le front T taking bytes rest takes = let way = taking.carries bytes rest takes in omega (arith, ap length way.whole, length-append way.used rest)

pub stops-le : (front : Front) (T : List ℕ → List ℕ → Type 0) → IsTaking front T → (bytes : List ℕ) (left : ℕ) → Stops T bytes left → left ≤ length bytes
stops-le front T taking bytes left stops = omega (arith, stops.here, unblanked-le stops.rest, taken-le front T taking bytes stops.rest stops.takes)

-- Bytes were taken, then it stops at `here`: what lies between, and what may come in place of `here`.
pub record Between (front : Front) (before here used rest : List ℕ) : Type 0 where
  pub middle : List ℕ
  pub rest_is : rest ≡ middle ++ here
  pub before_is : before ≡ used ++ middle
  pub follows : (there : List ℕ) → Follows front here there → Follows front rest (middle ++ there)

pub between : (front : Front) (T : List ℕ → List ℕ → Type 0) → IsTaking front T → (before here used rest : List ℕ) → before ++ here ≡ used ++ rest → Stops T rest (length here) → Between front before here used rest
between front T taking before here used rest whole stops = record {
  middle = middle;
  rest_is = rest_is;
  before_is = parts.0;
  follows = λ there f. go there f;
} where
  way : Carries front rest stops.rest
  way = taking.carries rest stops.rest stops.takes

  blanks : List ℕ
  blanks = (blanked stops.rest).blanks

  middle : List ℕ
  middle = way.used ++ blanks

  split : rest ≡ middle ++ unblanked stops.rest
  split = way.whole ∙ ap (λ (l : List ℕ). way.used ++ l) (blanked stops.rest).split ∙ sym (append_assoc way.used blanks (unblanked stops.rest))

  parts : (before ≡ used ++ middle) × (here ≡ unblanked stops.rest)
  parts = split_same before (used ++ middle) here (unblanked stops.rest) (whole ∙ ap (λ (l : List ℕ). used ++ l) split ∙ sym (append_assoc used middle (unblanked stops.rest))) stops.here

  rest_is : rest ≡ middle ++ here
  rest_is = split ∙ ap (λ (l : List ℕ). middle ++ l) (sym parts.1)

  stops_at : stops.rest ≡ blanks ++ here
  stops_at = (blanked stops.rest).split ∙ ap (λ (l : List ℕ). blanks ++ l) (sym parts.1)

  go : (there : List ℕ) → Follows front here there → Follows front rest (middle ++ there)
  go there f =
      let near : Follows front stops.rest (blanks ++ there) = subst (λ (l : List ℕ). Follows front l (blanks ++ there)) (sym stops_at) (behind_blanks front blanks here there (blanked stops.rest).all f) in
      subst (λ (l : List ℕ). Follows front rest l) (sym (append_assoc way.used blanks there)) (way.follows (blanks ++ there) near)
