-- Phrases take whole tokens from the front, are refused at the right place, and go on from there.
use Rattle.std.proofs.Common.{◌≡◌, ℕ, ◌≤◌, List, [], ◌∷◌, ◌++◌, length, Ok, Err, refl, sym, ◌∙◌, ap, subst, append_assoc, inl, inr}
use Rattle.std.proofs.lemmas.List.{append_cancel_right}
use Rattle.ts_text.specs.Phrase.{Front, Read, Phrase, go_on, ◌>>=◌, give}
use Rattle.ts_text.proofs.FrontLemmas.{IsFront}
use Rattle.ts_text.proofs.SpellingLemmas.{Takes, Stops, takes_none, takes-le, split_same}
use Rattle.ts_text.proofs.FollowLemmas.{Alike, StartsBlank, Follows, Carries, IsTaking, tokens_taking, stops_on, between}

-- What is read leaves no more bytes than there were.
abbrev pub Shrinks : {A : Type 0} → Phrase A → Type 0
Shrinks {A} phrase = (bytes : List ℕ) (found : A × List ℕ) → phrase bytes ≡ Ok found → length found.1 ≤ length bytes

-- Bytes that go on from here: a blank comes first, and with any blank behind them the phrase is read.
pub record Goes {A : Type 0} (P : A → Type 0) (phrase : Phrase A) (before : List ℕ) : Type 0 where
  pub more : List ℕ
  pub found : A
  pub holds : P found
  pub starts : (other : List ℕ) → (tail : List ℕ) × (more ++ 32 ∷ other ≡ 32 ∷ tail)
  pub reads : (other : List ℕ) → phrase (before ++ (more ++ 32 ∷ other)) ≡ Ok (found, 32 ∷ other)

-- What a phrase gives has this property, and so much is told of what it takes: the same where what it leaves begins with
-- the same token or a blank. Where it is refused, something that is told stands before; with the token that stands there it
-- is refused there, whatever comes behind, but behind bytes where another front holds; and what stands before goes on.
-- Something is read.
pub record YieldsIn {A : Type 0} (front : Front) (T : List ℕ → List ℕ → Type 0) (Other : List ℕ → Type 0) (P : A → Type 0) (phrase : Phrase A) : Type 0 where
  pub ok : (bytes : List ℕ) (found : A × List ℕ) → phrase bytes ≡ Ok found → P found.0 × T bytes found.1
  pub err : (bytes : List ℕ) (left : ℕ) → phrase bytes ≡ Err left → Stops T bytes left
  pub fails : (before here there : List ℕ) → phrase (before ++ here) ≡ Err (length here) → (Other before → ⊥) → Alike front here there → phrase (before ++ there) ≡ Err (length there)
  pub keeps : (used rest other : List ℕ) (a : A) → phrase (used ++ rest) ≡ Ok (a, rest) → Follows front rest other → phrase (used ++ other) ≡ Ok (a, other)
  pub goes : (before here : List ℕ) → phrase (before ++ here) ≡ Err (length here) → Goes P phrase before
  pub some : Goes P phrase []

-- no bytes behind which another front holds
abbrev pub Nowhere : List ℕ → Type 0
Nowhere before = ⊥

-- a phrase over one front alone: it takes whole tokens
abbrev pub Yields : {A : Type 0} → Front → (A → Type 0) → Phrase A → Type 0
Yields front P phrase = YieldsIn front (Takes front) Nowhere P phrase

-- with no more told of what is taken, and another front behind some bytes
pub in_bytes : {A : Type 0} (front : Front) → IsFront front → (Other : List ℕ → Type 0) (P : A → Type 0) (phrase : Phrase A) → Yields front P phrase → YieldsIn front (Carries front) Other P phrase
in_bytes {A} front laws Other P phrase one = record {
  ok = λ bytes found is. let both = one.ok bytes found is in (both.0, (tokens_taking front laws).carries bytes found.1 both.1);
  err = λ bytes left is. let stops = one.err bytes left is in record { rest = stops.rest; takes = (tokens_taking front laws).carries bytes stops.rest stops.takes; here = stops.here };
  fails = λ before here there is free alike. one.fails before here there is (λ none. none) alike;
  keeps = one.keeps;
  goes = one.goes;
  some = one.some;
}

pub shrinks_of : {A : Type 0} (front : Front) (P : A → Type 0) (phrase : Phrase A) → Yields front P phrase → Shrinks phrase
shrinks_of front P phrase yields bytes found is = takes-le front bytes found.1 (yields.ok bytes found is).1

-- A phrase has been read, and then it stops at `here`: so it does with other bytes that begin with the same token or a blank.
pub record Passes {A : Type 0} (front : Front) (phrase : Phrase A) (before here : List ℕ) (found : A × List ℕ) : Type 0 where
  pub used : List ℕ
  pub middle : List ℕ
  pub split : before ≡ used ++ middle
  pub reads : phrase (used ++ found.1) ≡ Ok (found.0, found.1)
  pub rest : found.1 ≡ middle ++ here
  pub goes : (there : List ℕ) → Follows front here there → phrase (before ++ there) ≡ Ok (found.0, middle ++ there)

pub passes : {A : Type 0} (front : Front) (T : List ℕ → List ℕ → Type 0) → IsTaking front T → (Other : List ℕ → Type 0) (P : A → Type 0) (phrase : Phrase A) → YieldsIn front T Other P phrase → (before here : List ℕ) (found : A × List ℕ) → phrase (before ++ here) ≡ Ok found → Stops T found.1 (length here) → Passes front phrase before here found
passes front T taking Other P phrase one before here found is stops =
    let way = taking.carries (before ++ here) found.1 (one.ok (before ++ here) found is).1 in
    let lies = between front T taking before here way.used found.1 way.whole stops in
    let at : phrase (way.used ++ found.1) ≡ Ok (found.0, found.1) = ap phrase (sym way.whole) ∙ is in
    record {
      used = way.used;
      middle = lies.middle;
      split = lies.before_is;
      reads = at;
      rest = lies.rest_is;
      goes = λ there f.
          ap (λ (l : List ℕ). phrase (l ++ there)) lies.before_is ∙ ap phrase (append_assoc way.used lies.middle there)
          ∙ one.keeps way.used found.1 (lies.middle ++ there) found.0 at (lies.follows there f);
    }

-- A phrase has been read, and then more up to the rest: so they are before another rest.
pub record Leads {A : Type 0} (front : Front) (phrase : Phrase A) (used rest : List ℕ) (found : A × List ℕ) : Type 0 where
  pub middle : List ℕ
  pub split : found.1 ≡ middle ++ rest
  pub goes : (other : List ℕ) → Follows front rest other → phrase (used ++ other) ≡ Ok (found.0, middle ++ other)

pub leads : {A : Type 0} (front : Front) (T : List ℕ → List ℕ → Type 0) → IsTaking front T → (Other : List ℕ → Type 0) (P : A → Type 0) (phrase : Phrase A) → YieldsIn front T Other P phrase → (used rest : List ℕ) (found : A × List ℕ) → phrase (used ++ rest) ≡ Ok found → T found.1 rest → Leads front phrase used rest found
leads front T taking Other P phrase one used rest found is next =
    let way = taking.carries (used ++ rest) found.1 (one.ok (used ++ rest) found is).1 in
    let then_ = taking.carries found.1 rest next in
    let front_used : List ℕ = way.used in
    let middle : List ℕ = then_.used in
    let parts = split_same used (front_used ++ middle) rest rest (way.whole ∙ ap (λ (l : List ℕ). front_used ++ l) then_.whole ∙ sym (append_assoc front_used middle rest)) refl in
    record {
      middle = middle;
      split = then_.whole;
      goes = λ other follows.
          let at : phrase (front_used ++ found.1) ≡ Ok (found.0, found.1) = ap phrase (sym way.whole) ∙ is in
          ap (λ (l : List ℕ). phrase (l ++ other)) parts.0 ∙ ap phrase (append_assoc front_used middle other)
          ∙ one.keeps front_used found.1 (middle ++ other) found.0 at (then_.follows other follows);
    }

-- a blank comes first where bytes go on
starts_blank : (bytes tail : List ℕ) → bytes ≡ 32 ∷ tail → StartsBlank bytes
starts_blank bytes tail e = record { first = 32; more = tail; split = e; blank = refl }

-- a phrase goes on from the bytes behind what was read
goes_then : {A B : Type 0} (Q : B → Type 0) (first : Phrase A) (next : A → Phrase B) (a : A) (before middle : List ℕ) → ((there : List ℕ) → StartsBlank there → first (before ++ there) ≡ Ok (a, middle ++ there)) → Goes Q (next a) middle → Goes Q (first >>= next) before
goes_then {A} {B} Q first next a before middle reads more = record {
  more = more.more;
  found = more.found;
  holds = more.holds;
  starts = more.starts;
  reads = λ other.
      let tail = more.starts other in
      ap (λ (r : Read A). go_on r next) (reads (more.more ++ 32 ∷ other) (starts_blank (more.more ++ 32 ∷ other) tail.0 tail.1)) ∙ more.reads other;
}

-- two phrases go on, one after the other
goes_both : {A B : Type 0} (P : A → Type 0) (Q : B → Type 0) (first : Phrase A) (next : A → Phrase B) (before : List ℕ) → (one : Goes P first before) → Goes Q (next one.found) [] → Goes Q (first >>= next) before
goes_both {A} {B} P Q first next before one two = record {
  more = one.more ++ two.more;
  found = two.found;
  holds = two.holds;
  starts = λ other.
      let tail = two.starts other in
      let head = one.starts tail.0 in
      (head.0, split other tail.0 tail.1 ∙ head.1);
  reads = λ other.
      let tail = two.starts other in
      ap (λ (l : List ℕ). (first >>= next) (before ++ l)) (split other tail.0 tail.1)
      ∙ ap (λ (r : Read A). go_on r next) (one.reads tail.0)
      ∙ ap (next one.found) (sym tail.1)
      ∙ two.reads other;
} where
  split : (other tail : List ℕ) → two.more ++ 32 ∷ other ≡ 32 ∷ tail → (one.more ++ two.more) ++ 32 ∷ other ≡ one.more ++ 32 ∷ tail
  split other tail e = append_assoc one.more two.more (32 ∷ other) ∙ ap (λ (l : List ℕ). one.more ++ l) e

-- One phrase after the other; where another front holds in one of them, it does so in both.
pub chain_in : {A B : Type 0} (front : Front) (T : List ℕ → List ℕ → Type 0) → IsTaking front T → (Other One Two : List ℕ → Type 0) (P : A → Type 0) (Q : B → Type 0) (first : Phrase A) (next : A → Phrase B) → YieldsIn front T One P first → ((a : A) → P a → YieldsIn front T Two Q (next a)) →
    ((before : List ℕ) → One before → Other before) → ((used middle rest : List ℕ) (a : A) → first (used ++ rest) ≡ Ok (a, rest) → Two middle → Other (used ++ middle)) → YieldsIn front T Other Q (first >>= next)
chain_in {A} {B} front T taking Other One Two P Q first next one two in_first in_next = record {
  ok = λ bytes found is. by_first bytes found (first bytes) refl is;
  err = λ bytes left is. err_first bytes left (first bytes) refl is;
  fails = λ before here there is free alike. fails_first before here there free alike (first (before ++ here)) refl is;
  keeps = λ used rest other b is follows. keeps_first used rest other b follows (first (used ++ rest)) refl is;
  goes = λ before here is. goes_first before here (first (before ++ here)) refl is;
  some = goes_both P Q first next [] one.some (two one.some.found one.some.holds).some;
} where
  by_first : (bytes : List ℕ) (found : B × List ℕ) (read : Read A) → first bytes ≡ read → go_on (first bytes) next ≡ Ok found → Q found.0 × T bytes found.1
  by_first bytes found (Err left) e is = absurd (let no = rw e at is in cc)
  by_first bytes found (Ok x) e is =
      let before = one.ok bytes x e in
      let after = (two x.0 before.0).ok x.1 found (rw e at is) in
      (after.0, taking.on bytes x.1 found.1 before.1 after.1)

  err_first : (bytes : List ℕ) (left : ℕ) (read : Read A) → first bytes ≡ read → go_on (first bytes) next ≡ Err left → Stops T bytes left
  err_first bytes left (Err before) e is = let at : Err before ≡ Err left = rw e at is in let same : before ≡ left = cc in one.err bytes left (e ∙ ap Err same)
  err_first bytes left (Ok x) e is =
      let before = one.ok bytes x e in
      stops_on front T taking bytes x.1 left before.1 ((two x.0 before.0).err x.1 left (rw e at is))

  fails_first : (before here there : List ℕ) → (Other before → ⊥) → Alike front here there → (read : Read A) → first (before ++ here) ≡ read → go_on (first (before ++ here)) next ≡ Err (length here) → go_on (first (before ++ there)) next ≡ Err (length there)
  fails_first before here there free alike (Err left) e is =
      let at : Err left ≡ Err (length here) = rw e at is in
      let same : left ≡ length here = cc in
      let again = one.fails before here there (e ∙ ap Err same) (λ w. free (in_first before w)) alike in
      ap (λ (r : Read A). go_on r next) again
  fails_first before here there free alike (Ok x) e is =
      let given_is = (one.ok (before ++ here) x e).0 in
      let at : next x.0 x.1 ≡ Err (length here) = rw e at is in
      let lies = passes front T taking One P first one before here x e ((two x.0 given_is).err x.1 (length here) at) in
      let again = (two x.0 given_is).fails lies.middle here there (ap (next x.0) (sym lies.rest) ∙ at) (λ w. free (subst Other (sym lies.split) (in_next lies.used lies.middle x.1 x.0 lies.reads w))) alike in
      ap (λ (r : Read A). go_on r next) (lies.goes there (inl alike)) ∙ again

  keeps_first : (used rest other : List ℕ) (b : B) → Follows front rest other → (read : Read A) → first (used ++ rest) ≡ read → go_on (first (used ++ rest)) next ≡ Ok (b, rest) → go_on (first (used ++ other)) next ≡ Ok (b, other)
  keeps_first used rest other b follows (Err left) e is = absurd (let no = rw e at is in cc)
  keeps_first used rest other b follows (Ok x) e is =
      let given_is = (one.ok (used ++ rest) x e).0 in
      let at : next x.0 x.1 ≡ Ok (b, rest) = rw e at is in
      let way = leads front T taking One P first one used rest x e ((two x.0 given_is).ok x.1 (b, rest) at).1 in
      let again = (two x.0 given_is).keeps way.middle rest other b (ap (next x.0) (sym way.split) ∙ at) follows in
      ap (λ (r : Read A). go_on r next) (way.goes other follows) ∙ again

  goes_first : (before here : List ℕ) (read : Read A) → first (before ++ here) ≡ read → go_on (first (before ++ here)) next ≡ Err (length here) → Goes Q (first >>= next) before
  goes_first before here (Err left) e is =
      let at : Err left ≡ Err (length here) = rw e at is in
      let same : left ≡ length here = cc in
      let more = one.goes before here (e ∙ ap Err same) in
      goes_both P Q first next before more (two more.found more.holds).some
  goes_first before here (Ok x) e is =
      let given_is = (one.ok (before ++ here) x e).0 in
      let at : next x.0 x.1 ≡ Err (length here) = rw e at is in
      let lies = passes front T taking One P first one before here x e ((two x.0 given_is).err x.1 (length here) at) in
      goes_then Q first next x.0 before lies.middle (λ there blank. lies.goes there (inr blank)) ((two x.0 given_is).goes lies.middle here (ap (next x.0) (sym lies.rest) ∙ at))

pub chain : {A B : Type 0} (front : Front) → IsFront front → (P : A → Type 0) (Q : B → Type 0) (first : Phrase A) (next : A → Phrase B) → Yields front P first → ((a : A) → P a → Yields front Q (next a)) → Yields front Q (first >>= next)
chain front laws P Q first next one two = chain_in front (Takes front) (tokens_taking front laws) Nowhere Nowhere Nowhere P Q first next one two (λ before none. none) (λ used middle rest a is none. none)

-- nothing more
pub given_in : {A : Type 0} (front : Front) (T : List ℕ → List ℕ → Type 0) → ((bytes : List ℕ) → T bytes bytes) → (Other : List ℕ → Type 0) (P : A → Type 0) (a : A) → P a → YieldsIn front T Other P (give a)
given_in {A} front T none Other P a holds = record {
  ok = λ bytes found is. by_pair bytes found is;
  err = λ bytes left is. absurd (cc);
  fails = λ before here there is free alike. absurd (cc);
  keeps = λ used rest other b is follows. keeps_pair used rest other b is;
  goes = λ before here is. absurd (cc);
  some = record { more = []; found = a; holds = holds; starts = λ other. (other, refl); reads = λ other. refl };
} where
  by_pair : (bytes : List ℕ) (found : A × List ℕ) → give a bytes ≡ Ok found → P found.0 × T bytes found.1
  by_pair bytes found is =
      let pair : A × List ℕ = (a, bytes) in
      let same : pair ≡ found = cc in
      let rest : bytes ≡ found.1 = ap (λ (p : A × List ℕ). p.1) same in
      let first : a ≡ found.0 = ap (λ (p : A × List ℕ). p.0) same in
      (rw (← first) holds, rw (← rest) (none bytes))

  keeps_pair : (used rest other : List ℕ) (b : A) → give a (used ++ rest) ≡ Ok (b, rest) → give a (used ++ other) ≡ Ok (b, other)
  keeps_pair used rest other b is =
      let pair : A × List ℕ = (a, used ++ rest) in
      let wanted : A × List ℕ = (b, rest) in
      let same : pair ≡ wanted = cc in
      let value : a ≡ b = ap (λ (p : A × List ℕ). p.0) same in
      let empty : used ≡ [] = append_cancel_right used [] rest (ap (λ (p : A × List ℕ). p.1) same) in
      ap (λ (l : List ℕ). Ok (a, l ++ other)) empty ∙ ap (λ (c : A). Ok (c, other)) value

pub given : {A : Type 0} (front : Front) (P : A → Type 0) (a : A) → P a → Yields front P (give a)
given front P a holds = given_in front (Takes front) (takes_none front) Nowhere P a holds

-- anything
abbrev pub Any : {A : Type 0} → A → Type 0
Any a = Unit {0}

-- what goes on goes on for a phrase that reads the same
goes_same : {A : Type 0} (P : A → Type 0) (phrase other : Phrase A) → ((bytes : List ℕ) → other bytes ≡ phrase bytes) → (before : List ℕ) → Goes P phrase before → Goes P other before
goes_same P phrase other same before goes = record {
  more = goes.more;
  found = goes.found;
  holds = goes.holds;
  starts = goes.starts;
  reads = λ behind. same (before ++ (goes.more ++ 32 ∷ behind)) ∙ goes.reads behind;
}

-- a phrase that reads the same
pub yields_same : {A : Type 0} (front : Front) {T : List ℕ → List ℕ → Type 0} {Other : List ℕ → Type 0} (P : A → Type 0) (phrase other : Phrase A) → ((bytes : List ℕ) → other bytes ≡ phrase bytes) → YieldsIn front T Other P phrase → YieldsIn front T Other P other
yields_same front P phrase other same one = record {
  ok = λ bytes found is. one.ok bytes found (sym (same bytes) ∙ is);
  err = λ bytes left is. one.err bytes left (sym (same bytes) ∙ is);
  fails = λ before here there is free alike. same (before ++ there) ∙ one.fails before here there (sym (same (before ++ here)) ∙ is) free alike;
  keeps = λ used rest behind a is follows. same (used ++ behind) ∙ one.keeps used rest behind a (sym (same (used ++ rest)) ∙ is) follows;
  goes = λ before here is. goes_same P phrase other same before (one.goes before here (sym (same (before ++ here)) ∙ is));
  some = goes_same P phrase other same [] one.some;
}
