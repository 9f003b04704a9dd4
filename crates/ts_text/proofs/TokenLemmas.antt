-- Phrases of one token.
use Rattle.std.proofs.Common.{◌≡◌, ℕ, ◌<◌, ◌≤◌, true, List, [], ◌∷◌, ◌++◌, length, take, drop, take-append-drop, Option, Some, None, Ok, Err, refl, sym, ◌∙◌, ap, arith, append_assoc, length-drop}
use Rattle.std.proofs.Math.Seq.{take-append_seam, drop-append_seam}
use Rattle.std.proofs.lemmas.List.{append-nil, length-take}
use Rattle.std.proofs.lemmas.List.Folds.{list_all-append}
use Rattle.ts_base.specs.Name.{is_blank}
use Rattle.ts_text.specs.Phrase.{unblanked, are_blanks, Front, taken, taken_front, token}
use Rattle.ts_text.proofs.FrontLemmas.{IsFront}
use Rattle.ts_text.specs.declared.token.TokenKind.{TokenKind}
use Rattle.ts_text.proofs.SpellingLemmas.{Takes, takes_token, unblanked-le, blanked, unblanked_past, split_same, blanks_before}
use Rattle.ts_text.proofs.FollowLemmas.{Alike, Follows, tokens_taking, stops_here, front_unblanked, keeps_token}
use Rattle.ts_text.proofs.PhraseLemmas.{Goes, Yields}

-- a token takes at least one byte
pub token_shrinks : {A : Type 0} (front : Front) → IsFront front → (accept : TokenKind → List ℕ → Option A) (bytes : List ℕ) (found : A × List ℕ) → token front accept bytes ≡ Ok found → length found.1 < length bytes
token_shrinks {A} front laws accept bytes found is = by_front (front (unblanked bytes)) refl where
  here : List ℕ
  here = unblanked bytes

  by_taken : (n : ℕ) (taken_as : Option A) → 0 < n → n ≤ length here → taken here n taken_as ≡ Ok found → length found.1 < length bytes
  by_taken n None some there e = absurd (cc)
  by_taken n (Some a) some there e =
      let pair : A × List ℕ = (a, drop n here) in
      let same : pair ≡ found = cc in
      let rest : drop n here ≡ found.1 = ap (λ (p : A × List ℕ). p.1) same in
      omega (arith, ap length rest, length-drop n here, unblanked-le bytes)

  by_front : (front_is : Option (TokenKind × ℕ)) → front here ≡ front_is → length found.1 < length bytes
  by_front None e = absurd (let no = rw e at is in cc)
  by_front (Some t) e = by_taken t.1 (accept t.0 (take t.1 here)) (laws.some here t.0 t.1 e) (laws.within here t.0 t.1 e) (rw e at is)

-- a token behind blanks is taken
pub token_at : {A : Type 0} (front : Front) → IsFront front → (accept : TokenKind → List ℕ → Option A) (blanks text rest : List ℕ) (kind : TokenKind) (a : A) → are_blanks blanks ≡ true → front (text ++ rest) ≡ Some (kind, length text) → accept kind text ≡ Some a → token front accept (blanks ++ (text ++ rest)) ≡ Ok (a, rest)
token_at {A} front laws accept blanks text rest kind a all is as_this =
    let here : unblanked (blanks ++ (text ++ rest)) ≡ text ++ rest = unblanked_past blanks (text ++ rest) all ∙ front_unblanked front laws (text ++ rest) (kind, length text) is in
    ap (λ (l : List ℕ). taken_front accept l (front l)) here
    ∙ ap (taken_front accept (text ++ rest)) is
    ∙ ap (λ (l : List ℕ). taken (text ++ rest) (length text) (accept kind l)) (take-append_seam text rest)
    ∙ ap (taken (text ++ rest) (length text)) as_this
    ∙ ap (λ (l : List ℕ). Ok (a, l)) (drop-append_seam text rest)

-- a token is refused at the first byte that isn't blank
pub token_left : {A : Type 0} (front : Front) (accept : TokenKind → List ℕ → Option A) (bytes : List ℕ) (left : ℕ) → token front accept bytes ≡ Err left → left ≡ length (unblanked bytes)
token_left {A} front accept bytes left is = by_front (front (unblanked bytes)) refl is where
  by_taken : (n : ℕ) (taken_as : Option A) → taken (unblanked bytes) n taken_as ≡ Err left → left ≡ length (unblanked bytes)
  by_taken n None e = let same : length (unblanked bytes) ≡ left = cc in sym same
  by_taken n (Some a) e = absurd (cc)

  by_front : (front_is : Option (TokenKind × ℕ)) → front (unblanked bytes) ≡ front_is → token front accept bytes ≡ Err left → left ≡ length (unblanked bytes)
  by_front None e was =
      let left_is : Err (length (unblanked bytes)) ≡ Err left = rw e at was in
      let same : length (unblanked bytes) ≡ left = cc in
      sym same
  by_front (Some t) e was = by_taken t.1 (accept t.0 (take t.1 (unblanked bytes))) (rw e at was)

-- a token that may stand there
pub record Example {A : Type 0} (front : Front) (P : A → Type 0) (accept : TokenKind → List ℕ → Option A) : Type 0 where
  pub first : ℕ
  pub more : List ℕ
  pub kind : TokenKind
  pub found : A
  pub holds : P found
  pub stands : front (first ∷ more) ≡ Some (kind, length (first ∷ more))
  pub accepted : accept kind (first ∷ more) ≡ Some found

-- an example goes on from blanks
example_goes : {A : Type 0} (front : Front) → IsFront front → (P : A → Type 0) (accept : TokenKind → List ℕ → Option A) → Example front P accept → (blanks : List ℕ) → are_blanks blanks ≡ true → Goes P (token front accept) blanks
example_goes {A} front laws P accept example blanks all = record {
  more = 32 ∷ text;
  found = example.found;
  holds = example.holds;
  starts = λ other. (text ++ 32 ∷ other, refl);
  reads = λ other. ap (token front accept) (sym (append_assoc blanks (32 ∷ []) (text ++ 32 ∷ other)))
      ∙ token_at front laws accept (blanks ++ 32 ∷ []) text (32 ∷ other) example.kind example.found (list_all-append is_blank blanks (32 ∷ []) ∙ rw all refl) (stands other) example.accepted;
} where
  text : List ℕ
  text = example.first ∷ example.more

  stands : (other : List ℕ) → front (text ++ 32 ∷ other) ≡ Some (example.kind, length text)
  stands other = laws.stays example.first example.more [] other 32 example.kind refl (ap front (append-nil text) ∙ example.stands)

-- a token
pub of_token : {A : Type 0} (front : Front) → IsFront front → (P : A → Type 0) (accept : TokenKind → List ℕ → Option A) → Example front P accept → ((kind : TokenKind) (text : List ℕ) (a : A) → accept kind text ≡ Some a → P a) → Yields front P (token front accept)
of_token {A} front laws P accept example gives = record {
  ok = λ bytes found is. by_front bytes found (front (unblanked bytes)) refl is;
  err = λ bytes left is. stops_here front (Takes front) (tokens_taking front laws) bytes left (token_left front accept bytes left is);
  fails = λ before here there is free alike. fails before here there is alike;
  keeps = λ used rest other a is follows. keeps_front used rest other a follows (front (unblanked (used ++ rest))) refl is;
  goes = λ before here is. example_goes front laws P accept example before (blanks_before before here (sym (token_left front accept (before ++ here) (length here) is))).0;
  some = example_goes front laws P accept example [] refl;
} where
  by_taken : (bytes : List ℕ) (kind : TokenKind) (n : ℕ) (found : A × List ℕ) → front (unblanked bytes) ≡ Some (kind, n) → (taken_as : Option A) → accept kind (take n (unblanked bytes)) ≡ taken_as → taken (unblanked bytes) n taken_as ≡ Ok found → P found.0 × Takes front bytes found.1
  by_taken bytes kind n found at None e is = absurd (cc)
  by_taken bytes kind n found at (Some a) e is =
      let pair : A × List ℕ = (a, drop n (unblanked bytes)) in
      let same : pair ≡ found = cc in
      let first : a ≡ found.0 = ap (λ (p : A × List ℕ). p.0) same in
      let rest : drop n (unblanked bytes) ≡ found.1 = ap (λ (p : A × List ℕ). p.1) same in
      (rw (← first) (gives kind (take n (unblanked bytes)) a e), rw (← rest) (takes_token front laws bytes kind n at))

  by_front : (bytes : List ℕ) (found : A × List ℕ) (front_is : Option (TokenKind × ℕ)) → front (unblanked bytes) ≡ front_is → token front accept bytes ≡ Ok found → P found.0 × Takes front bytes found.1
  by_front bytes found None e is = absurd (let no = rw e at is in cc)
  by_front bytes found (Some t) e is = by_taken bytes t.0 t.1 found e (accept t.0 (take t.1 (unblanked bytes))) refl (rw e at is)

  -- what isn't accepted is accepted nowhere
  refused_as : (here : List ℕ) (n left : ℕ) (taken_as : Option A) → taken here n taken_as ≡ Err left → taken_as ≡ None
  refused_as here n left None is = refl
  refused_as here n left (Some a) is = absurd (cc)

  fails : (before here there : List ℕ) → token front accept (before ++ here) ≡ Err (length here) → Alike front here there → token front accept (before ++ there) ≡ Err (length there)
  fails before here there is alike =
      let t : TokenKind × ℕ = (alike.kind, alike.size) in
      let size : length (unblanked (before ++ here)) ≡ length here = sym (token_left front accept (before ++ here) (length here) is) in
      let found = blanks_before before here size in
      let at : taken here alike.size (accept alike.kind (take alike.size here)) ≡ Err (length here) =
      sym (ap (λ (l : List ℕ). taken_front accept l (front l)) found.1 ∙ ap (taken_front accept here) alike.was) ∙ is in
      let none : accept alike.kind (take alike.size here) ≡ None = refused_as here alike.size (length here) (accept alike.kind (take alike.size here)) at in
      let there_is : unblanked (before ++ there) ≡ there = unblanked_past before there found.0 ∙ front_unblanked front laws there t alike.is in
      ap (λ (l : List ℕ). taken_front accept l (front l)) there_is
      ∙ ap (taken_front accept there) alike.is
      ∙ ap (λ (l : List ℕ). taken there alike.size (accept alike.kind l)) alike.same
      ∙ ap (taken there alike.size) none

  keeps_taken : (used rest other : List ℕ) (a : A) (kind : TokenKind) (n : ℕ) → Follows front rest other → front (unblanked (used ++ rest)) ≡ Some (kind, n) → (taken_as : Option A) → accept kind (take n (unblanked (used ++ rest))) ≡ taken_as → taken (unblanked (used ++ rest)) n taken_as ≡ Ok (a, rest) → token front accept (used ++ other) ≡ Ok (a, other)
  keeps_taken used rest other a kind n follows at None e is = absurd (cc)
  keeps_taken used rest other a kind n follows at (Some b) e is =
      let here : List ℕ = unblanked (used ++ rest) in
      let text : List ℕ = take n here in
      let pair : A × List ℕ = (b, drop n here) in
      let wanted : A × List ℕ = (a, rest) in
      let same : pair ≡ wanted = cc in
      let value : b ≡ a = ap (λ (p : A × List ℕ). p.0) same in
      let behind : drop n here ≡ rest = ap (λ (p : A × List ℕ). p.1) same in
      let before = blanked (used ++ rest) in
      let size : length text ≡ n = omega (arith, length-take n here, laws.within here kind n at) in
      let whole : here ≡ text ++ rest = sym (take-append-drop n here) ∙ ap (λ (l : List ℕ). text ++ l) behind in
      let parts = split_same used (before.blanks ++ text) rest rest (before.split ∙ ap (λ (l : List ℕ). before.blanks ++ l) whole ∙ sym (append_assoc before.blanks text rest)) refl in
      let stands : front (text ++ rest) ≡ Some (kind, length text) = ap front (sym whole) ∙ at ∙ ap (λ (m : ℕ). Some (kind, m)) (sym size) in
      let there = keeps_token front laws text rest other kind follows stands in
      ap (λ (l : List ℕ). token front accept (l ++ other)) parts.0
      ∙ ap (token front accept) (append_assoc before.blanks text other)
      ∙ token_at front laws accept before.blanks text other kind a before.all there (e ∙ ap Some value)

  keeps_front : (used rest other : List ℕ) (a : A) → Follows front rest other → (front_is : Option (TokenKind × ℕ)) → front (unblanked (used ++ rest)) ≡ front_is → token front accept (used ++ rest) ≡ Ok (a, rest) → token front accept (used ++ other) ≡ Ok (a, other)
  keeps_front used rest other a follows None e is = absurd (let no = rw e at is in cc)
  keeps_front used rest other a follows (Some t) e is = keeps_taken used rest other a t.0 t.1 follows e (accept t.0 (take t.1 (unblanked (used ++ rest)))) refl (rw e at is)
