-- A calendar is read exactly from its tokens.
use Rattle.std.proofs.Common.{◌≡◌, ℕ, ◌≤◌, inl, inr, Bool, true, false, nat_le, List, [], ◌∷◌, ◌++◌, map, length, take, drop, reverse, refl, sym, ap, ◌∙◌, arith, subst, append_assoc, IsTrue, Option, Some, None, Ok, Err, ℤ}
use Rattle.std.specs.Prelude.{codes}
use Rattle.std.specs.List.{list_all}
use Rattle.std.specs.Str.{bytes_eq}
use Rattle.std.proofs.lemmas.Bool.{and_parts, cases_Bool}
use Rattle.std.proofs.lemmas.Bool.Decides.{nat_tests}
use Rattle.std.proofs.lemmas.List.{reverse-append, reverse-reverse, take-append-drop}
use Rattle.std.proofs.lemmas.Slice.Eq.{bytes_eq-Decides}
use Rattle.std.proofs.Math.Seq.{take-append_seam, drop-append_seam}
use Rattle.ts_base.specs.Name.{is_blank, is_word, is_name, name_if_any}
use Rattle.ts_base.specs.Moment.{read_stamp}
use Rattle.ts_text.specs.Phrase.{unblanked, are_blanks, Read, Phrase, go_on, ◌>>=◌, give, a_sign, behind, in_brackets, made, the_end, ended, outcome, name_as, plain_front, a_word}
use Rattle.ts_text.specs.Parted.{IsParted}
use Rattle.ts_text.specs.declared.token.TokenKind.{TokenKind}
use Rattle.ts_text.specs.declared.token.TokenKind.TheVariants.{Word as TheWord, Number, Text, Sign}
use Rattle.ts_text.proofs.CallerLemmas.{blanked, unblanked_past, unblanked-le, sign_at, plain_laws, word_stands, bind-ok, pair-parts, are_blanks-append, parted-blanks, parted-token, IsSolid, token-first, token-found, token-read, sign-found, sign-read, word-found, word-read, stops-word, end-found, end-read}
use Rattle.ts_pattern.specs.Patterns.{Plan, pattern_in}
use Rattle.ts_pattern.specs.Spelling.{Word, pattern_before, run_of}
use Rattle.ts_pattern.proofs.PatternTextLemmas.{pattern-found, pattern-read}
use Rattle.ts_calendar.specs.declared.text.PatternPart.{PatternPart}
use Rattle.ts_calendar.specs.declared.text.PatternPart.TheVariants.{Named, Own}
use Rattle.ts_calendar.specs.declared.text.CalendarText.{CalendarText}
use Rattle.ts_calendar.specs.Calendars.{calendar_text, inside_len, trimmed, inside, stamp_or_not, stamp_in, date_in, name_in, name_part_in, pattern_part_in, part_as, part_word_in, part_behind, part_in, dates_in, calendar_in, written_calendar}
use Rattle.ts_calendar.specs.Spelling.{part_tokens, IsPart, IsCalendarText}
use Rattle.ts_calendar.proofs.StampTextLemmas.{is_inner, IsPlain, stamp-plain}

-- blanks at the end

are_blanks-reverse : (b : List ℕ) → are_blanks b ≡ true → are_blanks (reverse b) ≡ true
are_blanks-reverse [] h = refl
are_blanks-reverse (x ∷ b) h =
    let parts = and_parts (is_blank x) (are_blanks b) h in
    ap are_blanks (reverse-append (x ∷ []) b)
    ∙ are_blanks-append (reverse b) (x ∷ []) (are_blanks-reverse b parts.1) (rw parts.0 refl)

-- a text is what is left of it, and then blanks
pub trimmed-split : (t : List ℕ) → (blanks : List ℕ) × IsTrue (are_blanks blanks) × (t ≡ trimmed t ++ blanks)
trimmed-split t =
    let s = blanked (reverse t) in
    (reverse s.blanks, are_blanks-reverse s.blanks s.all, sym (reverse-reverse t) ∙ ap reverse s.split ∙ reverse-append s.blanks (unblanked (reverse t)))

trimmed-blanks : (t blanks : List ℕ) → are_blanks blanks ≡ true → trimmed (t ++ blanks) ≡ trimmed t
trimmed-blanks t blanks h =
    ap (λ x. reverse (unblanked x)) (reverse-append t blanks)
    ∙ ap reverse (unblanked_past (reverse blanks) (reverse t) (are_blanks-reverse blanks h))

-- stamps

pub named-stamp : (o : Option ℤ) (t rest : List ℕ) (s : ℤ) → stamp_or_not o t ≡ Ok (s, rest) → (o ≡ Some s) × (drop (inside_len t) t ≡ rest)
named-stamp None t rest s h = absurd (cc)
named-stamp (Some x) t rest s h =
    let there = pair-parts x s (drop (inside_len t) t) rest h in
    (ap Some there.0, there.1)

-- a stamp that was read
record IsStampFound (text : List ℕ) (s : ℤ) (rest : List ℕ) : Type 0 where
  bytes : List ℕ
  value : read_stamp bytes ≡ Some s
  parted : (tokens : List (List ℕ)) → IsParted tokens rest → IsParted (bytes ∷ tokens) text

stamp-found : (text rest : List ℕ) (s : ℤ) → stamp_in text ≡ Ok (s, rest) → IsStampFound text s rest
stamp-found text rest s h =
    let t = unblanked text in
    let len = inside_len t in
    let is = named-stamp (read_stamp (inside t)) t rest s h in
    let ends = trimmed-split (take len t) in
    let whole : t ≡ inside t ++ (ends.0 ++ rest) =
    sym (take-append-drop len t) ∙ ap (λ x. x ++ drop len t) ends.2 ∙ append_assoc (inside t) ends.0 (drop len t)
    ∙ ap (λ x. inside t ++ (ends.0 ++ x)) is.1 in
    record {
      bytes = inside t;
      value = is.0;
      parted = λ tokens p. parted-token text (inside t) (ends.0 ++ rest) tokens whole (parted-blanks ends.0 rest tokens ends.1 p);
    }

-- what has no closing bracket stands before one
inside_len-front : (a b : List ℕ) → list_all is_inner a ≡ true → inside_len (a ++ 41 ∷ b) ≡ length a
inside_len-front [] b h = refl
inside_len-front (x ∷ a) b h =
    let parts = and_parts (is_inner x) (list_all is_inner a) h in
    rw parts.0 (omega (arith, inside_len-front a b parts.1))

inner-append : (a b : List ℕ) → list_all is_inner a ≡ true → list_all is_inner b ≡ true → list_all is_inner (a ++ b) ≡ true
inner-append [] b ha hb = hb
inner-append (x ∷ a) b ha hb =
    let parts = and_parts (is_inner x) (list_all is_inner a) ha in
    rw parts.0 (inner-append a b parts.1 hb)

blanks-inner : (b : List ℕ) → are_blanks b ≡ true → list_all is_inner b ≡ true
blanks-inner [] h = refl
blanks-inner (x ∷ b) h =
    let parts = and_parts (is_blank x) (are_blanks b) h in
    rw (no_bracket x parts.0) (blanks-inner b parts.1)
  where
    no_bracket : (x : ℕ) → is_blank x ≡ true → is_inner x ≡ true
    no_bracket x h = grind (arith, nat_tests)

plain-solid : (s : List ℕ) → IsPlain s → IsSolid s
plain-solid [] h = absurd (omega (arith, h.some))
plain-solid (b ∷ s) h = elim (cases_Bool (is_blank b)) [
  | inl blank ↦ absurd (let shorter = ap length (rw blank at h.front) in omega (arith, shorter, short s))
  | inr other ↦ other
]
  where
    short : (s : List ℕ) → length (unblanked s) ≤ length s
    short s = unblanked-le s

-- a stamp that is read
pub stamp-read : (text bytes : List ℕ) (s : ℤ) (tokens : List (List ℕ)) → read_stamp bytes ≡ Some s → (p : IsParted (bytes ∷ (41 ∷ []) ∷ tokens) text)
    → stamp_in text ≡ Ok (s, 41 ∷ p.4.1)
stamp-read text bytes s tokens h p =
    let plain = stamp-plain bytes s h in
    let blanks = p.4.0 in
    let rest = 41 ∷ p.4.1 in
    let t = unblanked text in
    let front = bytes ++ blanks in
    let first : t ≡ front ++ rest =
    token-first text bytes ((41 ∷ []) ∷ tokens) (plain-solid bytes plain) p ∙ ap (λ x. bytes ++ x) p.4.3 ∙ sym (append_assoc bytes blanks rest) in
    let len : inside_len t ≡ length front =
    ap inside_len first ∙ inside_len-front front p.4.1 (inner-append bytes blanks plain.inner (blanks-inner blanks p.4.2)) in
    let before : take (inside_len t) t ≡ front = ap (λ n. take n t) len ∙ ap (λ x. take (length front) x) first ∙ take-append_seam front rest in
    let behind : drop (inside_len t) t ≡ rest = ap (λ n. drop n t) len ∙ ap (λ x. drop (length front) x) first ∙ drop-append_seam front rest in
    let value : read_stamp (inside t) ≡ Some s = ap (λ x. read_stamp (trimmed x)) before ∙ ap read_stamp (trimmed-blanks bytes blanks p.4.2 ∙ plain.end) ∙ h in
    ap (λ o. stamp_or_not o t) value ∙ ap (λ x. Ok (s, x)) behind

-- dates

record IsDateFound (word text : List ℕ) (s : ℤ) (rest : List ℕ) : Type 0 where
  bytes : List ℕ
  value : read_stamp bytes ≡ Some s
  parted : (tokens : List (List ℕ)) → IsParted tokens rest → IsParted (word ∷ (40 ∷ []) ∷ bytes ∷ (41 ∷ []) ∷ tokens) text

-- the phrases of a date
abbrev pub in_date : Phrase ℤ
in_date = in_brackets stamp_in

date-found : (word text rest : List ℕ) (s : ℤ) → date_in word text ≡ Ok (s, rest) → IsDateFound word text s rest
unfolding date_in
date-found word text rest s h =
    let first = bind-ok (a_word word text) (λ name. in_date) (s, rest) h in
    let second = bind-ok (behind 40 stamp_in first.0.1) (λ found. a_sign 41 >>= (λ close. give found)) (s, rest) first.2 in
    let bracket = bind-ok (a_sign 40 first.0.1) (λ sign. stamp_in) second.0 second.1 in
    let third = bind-ok (a_sign 41 second.0.1) (λ close. give second.0.0) (s, rest) second.2 in
    let same = pair-parts second.0.0 s third.0.1 rest third.2 in
    let stamp = stamp-found bracket.0.1 second.0.1 second.0.0 bracket.2 in
    record {
      bytes = stamp.bytes;
      value = stamp.value ∙ ap Some same.0;
      parted = λ tokens p. word-found word text first.0.1 ((40 ∷ []) ∷ stamp.bytes ∷ (41 ∷ []) ∷ tokens) first.1
          (sign-found 40 first.0.1 bracket.0.1 (stamp.bytes ∷ (41 ∷ []) ∷ tokens) bracket.1
          (stamp.parted ((41 ∷ []) ∷ tokens)
          (sign-found 41 second.0.1 third.0.1 tokens third.1 (subst (λ t. IsParted tokens t) (sym same.1) p))));
    }

record IsDateRead (word text : List ℕ) (s : ℤ) (tokens : List (List ℕ)) : Type 0 where
  rest : List ℕ
  value : date_in word text ≡ Ok (s, rest)
  parted : IsParted tokens rest

date-read : (word text bytes : List ℕ) (s : ℤ) (tokens : List (List ℕ)) → is_word word ≡ true → read_stamp bytes ≡ Some s
    → IsParted (word ∷ (40 ∷ []) ∷ bytes ∷ (41 ∷ []) ∷ tokens) text → IsDateRead word text s tokens
unfolding date_in
date-read word text bytes s tokens w h p =
    let first = word-read word text ((40 ∷ []) ∷ bytes ∷ (41 ∷ []) ∷ tokens) w p (stops-word ((40 ∷ []) ∷ bytes ∷ (41 ∷ []) ∷ tokens) p.1 refl p.4) in
    let q = p.4 in
    let second = sign-read 40 p.1 (bytes ∷ (41 ∷ []) ∷ tokens) refl q in
    let third = stamp-read q.1 bytes s tokens h q.4 in
    let last = q.4.4 in
    let fourth = close-read last.1 in
    record {
      rest = last.1;
      value = ap (λ (x : Read (Unit {0})). go_on x (λ name. in_date)) first
          ∙ ap (λ (x : Read (Unit {0})). go_on (go_on x (λ sign. stamp_in)) (λ found. a_sign 41 >>= (λ close. give found))) second
          ∙ ap (λ (x : Read ℤ). go_on x (λ found. a_sign 41 >>= (λ close. give found))) third
          ∙ ap (λ (x : Read (Unit {0})). go_on x (λ close. give s)) fourth;
      parted = last.4;
    }
  where
    close-read : (rest : List ℕ) → a_sign 41 (41 ∷ rest) ≡ Ok (tt, rest)
    close-read rest = sign_at 41 (41 ∷ rest) rest refl

-- the part

name-is : (s n : List ℕ) → name_if_any s ≡ Some n → (s ≡ n) × (is_name s ≡ true)
name-is s n h = elim (cases_Bool (is_name s)) [
  | inl yes_ ↦ let there = rw yes_ at h in let same : s ≡ n = cc in (same, yes_)
  | inr no_ ↦ absurd (let none = rw no_ at h in cc)
]

name-some : (n : List ℕ) → is_name n ≡ true → name_if_any n ≡ Some n
name-some n h = rw h refl

record IsPartFound (text : List ℕ) (part : PatternPart) (rest : List ℕ) : Type 0 where
  words : List Word
  is : IsPart part words
  parted : are_blanks rest ≡ true → IsParted (part_tokens part words) text

-- what a word names
name_found : (kind : TokenKind) (text n : List ℕ) → name_as kind text ≡ Some n → (text ≡ n) × (is_name text ≡ true)
name_found TheWord text n h = name-is text n h
name_found Number text n h = absurd (cc)
name_found Text text n h = absurd (cc)
name_found Sign text n h = absurd (cc)

-- the word before a name, or before a pattern
abbrev part_name : Bool → List ℕ
part_name true = codes "pattname"
part_name false = codes "pattern"

part_word : (kind : TokenKind) (text : List ℕ) (is_named : Bool) → part_as kind text ≡ Some is_named → text ≡ part_name is_named
part_word TheWord text is_named h = elim (cases_Bool (bytes_eq text (codes "pattname"))) [
  | inl t ↦ let at = rw t at h in let same : true ≡ is_named = cc in (bytes_eq-Decides text (codes "pattname")).0 t ∙ ap part_name same
  | inr f ↦ elim (cases_Bool (bytes_eq text (codes "pattern"))) [
    | inl t ↦ let at = rw (f, t) at h in let same : false ≡ is_named = cc in (bytes_eq-Decides text (codes "pattern")).0 t ∙ ap part_name same
    | inr f2 ↦ absurd (let no = rw (f, f2) at h in cc)
  ]
]
part_word Number text is_named h = absurd (cc)
part_word Text text is_named h = absurd (cc)
part_word Sign text is_named h = absurd (cc)

-- what stands in brackets
record InBrackets {A : Type 0} (phrase : Phrase A) (text : List ℕ) (a : A) (rest : List ℕ) : Type 0 where
  inside_at : List ℕ
  behind_at : List ℕ
  opens : a_sign 40 text ≡ Ok (tt, inside_at)
  inner : phrase inside_at ≡ Ok (a, behind_at)
  closes : a_sign 41 behind_at ≡ Ok (tt, rest)

brackets-found : {A B : Type 0} (phrase : Phrase A) (make : A → B) (text rest : List ℕ) (b : B) → made (in_brackets phrase) make text ≡ Ok (b, rest) → (a : A) × (make a ≡ b) × InBrackets phrase text a rest
brackets-found {A} {B} phrase make text rest b h =
    let found = bind-ok (in_brackets phrase text) (λ found. give (make found)) (b, rest) h in
    let same = pair-parts (make found.0.0) b found.0.1 rest found.2 in
    let second = bind-ok (behind 40 phrase text) (λ found. a_sign 41 >>= (λ close. give found)) found.0 found.1 in
    let bracket = bind-ok (a_sign 40 text) (λ sign. phrase) second.0 second.1 in
    let third = bind-ok (a_sign 41 second.0.1) (λ close. give second.0.0) found.0 second.2 in
    let kept = pair-parts second.0.0 found.0.0 third.0.1 found.0.1 third.2 in (
      second.0.0,
      ap make kept.0 ∙ same.0,
      record { inside_at = bracket.0.1; behind_at = second.0.1; opens = bracket.1; inner = bracket.2; closes = third.1 ∙ ap (λ (l : List ℕ). Ok (tt, l)) (kept.1 ∙ same.1) },
    )

brackets-read : {A B : Type 0} (phrase : Phrase A) (make : A → B) (text rest : List ℕ) (a : A) → InBrackets phrase text a rest → made (in_brackets phrase) make text ≡ Ok (make a, rest)
brackets-read {A} {B} phrase make text rest a is =
    ap (λ (x : Read (Unit {0})). go_on (go_on (go_on x (λ sign. phrase)) (λ found. a_sign 41 >>= (λ close. give found))) (λ found. give (make found))) is.opens
    ∙ ap (λ (x : Read A). go_on (go_on x (λ found. a_sign 41 >>= (λ close. give found))) (λ found. give (make found))) is.inner
    ∙ ap (λ (x : Read (Unit {0})). go_on (go_on x (λ close. give a)) (λ found. give (make found))) is.closes

part-found : (text rest : List ℕ) (part : PatternPart) → part_in text ≡ Ok (part, rest) → IsPartFound text part rest
unfolding part_in part_word_in name_part_in pattern_part_in name_in
part-found text rest part h =
    let first = bind-ok (part_word_in text) part_behind (part, rest) h in
    let word = token-found plain_front plain_laws part_as text first.0.1 first.0.0 first.1 in
    go first.0.0 first.0.1 (λ tokens p. subst (λ (l : List ℕ). IsParted (l ∷ tokens) text) (part_word word.kind word.text first.0.0 word.accepted) (parted-token text word.text first.0.1 tokens word.whole p)) first.2
  where
    go : (is_named : Bool) (behind_word : List ℕ) → ((tokens : List (List ℕ)) → IsParted tokens behind_word → IsParted (part_name is_named ∷ tokens) text) → part_behind is_named behind_word ≡ Ok (part, rest) → IsPartFound text part rest
    go true behind_word word h =
        let is = brackets-found name_in Named behind_word rest part h in
        let b = is.2 in
        let name = token-found plain_front plain_laws name_as b.inside_at b.behind_at is.0 b.inner in
        let good = name_found name.kind name.text is.0 name.accepted in
        subst (λ (x : PatternPart). IsPartFound text x rest) is.1 (record {
          words = [];
          is = ap is_name (sym good.0) ∙ good.1;
          parted = λ blank. word ((40 ∷ []) ∷ is.0 ∷ (41 ∷ []) ∷ [])
              (sign-found 40 behind_word b.inside_at (is.0 ∷ (41 ∷ []) ∷ []) b.opens
              (subst (λ (l : List ℕ). IsParted (l ∷ (41 ∷ []) ∷ []) b.inside_at) good.0
              (parted-token b.inside_at name.text b.behind_at ((41 ∷ []) ∷ []) name.whole (sign-found 41 b.behind_at rest [] b.closes blank))));
        })
    go false behind_word word h =
        let is = brackets-found pattern_in Own behind_word rest part h in
        let b = is.2 in
        let p = is.0 in
        let pattern = pattern-found b.inside_at b.behind_at p b.inner in
        subst (λ (x : PatternPart). IsPartFound text x rest) is.1 (record {
          words = pattern.words;
          is = pattern.written;
          parted = λ blank. word ((40 ∷ []) ∷ pattern_before pattern.words p.unit ((41 ∷ []) ∷ []))
              (sign-found 40 behind_word b.inside_at (pattern_before pattern.words p.unit ((41 ∷ []) ∷ [])) b.opens
              (pattern.parted ((41 ∷ []) ∷ []) (sign-found 41 b.behind_at rest [] b.closes blank)));
        })

record IsPartRead (text : List ℕ) (part : PatternPart) : Type 0 where
  rest : List ℕ
  value : part_in text ≡ Ok (part, rest)
  blank : are_blanks rest ≡ true

part-read : (text : List ℕ) (part : PatternPart) (words : List Word) → IsPart part words → IsParted (part_tokens part words) text → IsPartRead text part
unfolding part_in part_word_in name_part_in pattern_part_in name_in
part-read text (Named name) words h p =
    let tokens = (40 ∷ []) ∷ name ∷ (41 ∷ []) ∷ [] in
    let word = token-read plain_front plain_laws part_as text (codes "pattname") tokens TheWord true p (word_stands (codes "pattname") p.1 refl (stops-word tokens p.1 refl p.4)) refl in
    let q = p.4 in
    let n = q.4 in
    let is_a_word : is_word name ≡ true = (and_parts (is_word name) (nat_le (length name) 32) h).0 in
    let inside_is = token-read plain_front plain_laws name_as q.1 name ((41 ∷ []) ∷ []) TheWord name n (word_stands name n.1 is_a_word (stops-word ((41 ∷ []) ∷ []) n.1 refl n.4)) (name-some name h) in
    record {
      rest = n.4.1;
      value = ap (λ (r : Read Bool). go_on r part_behind) word
          ∙ brackets-read name_in Named p.1 n.4.1 name (record {
            inside_at = q.1;
            behind_at = n.1;
            opens = sign-read 40 p.1 (name ∷ (41 ∷ []) ∷ []) refl q;
            inner = inside_is;
            closes = sign-read 41 n.1 [] refl n.4;
          });
      blank = n.4.4;
    }
part-read text (Own u) words h p =
    let inner = pattern_before words u.unit ((41 ∷ []) ∷ []) in
    let tokens = (40 ∷ []) ∷ inner in
    let word = token-read plain_front plain_laws part_as text (codes "pattern") tokens TheWord false p (word_stands (codes "pattern") p.1 refl (stops-word tokens p.1 refl p.4)) refl in
    let q = p.4 in
    let pattern = pattern-read words u.unit ((41 ∷ []) ∷ []) q.1 h.some h.counts refl q.4 in
    let made_plan : Plan = record { unit = u.unit; runs = map run_of words } in
    let plan_is : made_plan ≡ u = ap (λ rs. record { unit = u.unit; runs = rs }) h.value in
    record {
      rest = pattern.parted.1;
      value = ap (λ (r : Read Bool). go_on r part_behind) word
          ∙ brackets-read pattern_in Own p.1 pattern.parted.1 made_plan (record {
            inside_at = q.1;
            behind_at = pattern.rest;
            opens = sign-read 40 p.1 inner refl q;
            inner = pattern.value;
            closes = sign-read 41 pattern.rest [] refl pattern.parted;
          })
          ∙ ap (λ (v : Plan). Ok (Own v, pattern.parted.1)) plan_is;
      blank = pattern.parted.4;
    }

-- the whole text

-- the two dates that were read
record AreDates (text : List ℕ) (start patt_start : ℤ) (rest : List ℕ) : Type 0 where
  start_text : List ℕ
  patt_start_text : List ℕ
  start_is : read_stamp start_text ≡ Some start
  patt_start_is : read_stamp patt_start_text ≡ Some patt_start
  parted : (tokens : List (List ℕ)) → IsParted tokens rest → IsParted (codes "startdate" ∷ (40 ∷ []) ∷ start_text ∷ (41 ∷ []) ∷ (44 ∷ []) ∷ codes "pattstart" ∷ (40 ∷ []) ∷ patt_start_text ∷ (41 ∷ []) ∷ (44 ∷ []) ∷ tokens) text

dates-found : (text rest : List ℕ) (start patt_start : ℤ) → dates_in text ≡ Ok ((start, patt_start), rest) → AreDates text start patt_start rest
unfolding dates_in
dates-found text rest start patt_start h =
    let d : ℤ × ℤ = (start, patt_start) in
    let first = bind-ok (date_in (codes "startdate") text) (λ start. behind 44 (date_in (codes "pattstart")) >>= (λ patt_start. a_sign 44 >>= (λ comma. give (start, patt_start)))) (d, rest) h in
    let third = bind-ok (behind 44 (date_in (codes "pattstart")) first.0.1) (λ patt_start. a_sign 44 >>= (λ comma. give (first.0.0, patt_start))) (d, rest) first.2 in
    let second = bind-ok (a_sign 44 first.0.1) (λ sign. date_in (codes "pattstart")) third.0 third.1 in
    let fourth = bind-ok (a_sign 44 third.0.1) (λ comma. give (first.0.0, third.0.0)) (d, rest) third.2 in
    let made_dates : ℤ × ℤ = (first.0.0, third.0.0) in
    let same = pair-parts made_dates d fourth.0.1 rest fourth.2 in
    let one = date-found (codes "startdate") text first.0.1 first.0.0 first.1 in
    let two = date-found (codes "pattstart") second.0.1 third.0.1 third.0.0 second.2 in
    record {
      start_text = one.bytes;
      patt_start_text = two.bytes;
      start_is = one.value ∙ ap (λ (x : ℤ × ℤ). Some x.0) same.0;
      patt_start_is = two.value ∙ ap (λ (x : ℤ × ℤ). Some x.1) same.0;
      parted = λ tokens p. one.parted ((44 ∷ []) ∷ codes "pattstart" ∷ (40 ∷ []) ∷ two.bytes ∷ (41 ∷ []) ∷ (44 ∷ []) ∷ tokens)
          (sign-found 44 first.0.1 second.0.1 (codes "pattstart" ∷ (40 ∷ []) ∷ two.bytes ∷ (41 ∷ []) ∷ (44 ∷ []) ∷ tokens) second.1
          (two.parted ((44 ∷ []) ∷ tokens)
          (sign-found 44 third.0.1 fourth.0.1 tokens fourth.1 (subst (λ t. IsParted tokens t) (sym same.1) p))));
    }

pub found : (text : List ℕ) (c : CalendarText) → written_calendar text ≡ Ok c → IsCalendarText c text
unfolding calendar_in
found text c h = by_read (ended [] calendar_in text) refl h where
  by_read : (read : Read CalendarText) → ended [] calendar_in text ≡ read → outcome (length text) read ≡ Ok c → IsCalendarText c text
  by_read (Err left) e is = absurd (cc)
  by_read (Ok x) e is =
      let whole = bind-ok (calendar_in text) (λ found. the_end [] >>= (λ end. give found)) x e in
      let end = bind-ok (the_end [] whole.0.1) (λ end. give whole.0.0) x whole.2 in
      let same : x.0 ≡ c = cc in
      let dates = bind-ok (dates_in text) (λ dates. part_in >>= (λ part. give (calendar_text dates.0 dates.1 part))) whole.0 whole.1 in
      let part = bind-ok (part_in dates.0.1) (λ part. give (calendar_text dates.0.0.0 dates.0.0.1 part)) whole.0 dates.2 in
      let kept = pair-parts (calendar_text dates.0.0.0 dates.0.0.1 part.0.0) whole.0.0 part.0.1 whole.0.1 part.2 in
      let is_c : calendar_text dates.0.0.0 dates.0.0.1 part.0.0 ≡ c = kept.0 ∙ (pair-parts whole.0.0 x.0 end.0.1 x.1 end.2).0 ∙ same in
      let both = dates-found text dates.0.1 dates.0.0.0 dates.0.0.1 dates.1 in
      let one = part-found dates.0.1 part.0.1 part.0.0 part.1 in
      let blank : IsParted [] part.0.1 = subst (λ (l : List ℕ). IsParted [] l) (sym kept.1) (end-found whole.0.1 end.0 end.1) in
      subst (λ (y : CalendarText). IsCalendarText y text) is_c (record {
        start_text = both.start_text;
        patt_start_text = both.patt_start_text;
        words = one.words;
        start_is = both.start_is;
        patt_start_is = both.patt_start_is;
        part_is = one.is;
        parted = both.parted (part_tokens part.0.0 one.words) (one.parted blank);
      })

pub read : (text : List ℕ) (c : CalendarText) → IsCalendarText c text → written_calendar text ≡ Ok c
unfolding calendar_in dates_in
read text c t =
    let tail = part_tokens c.part t.words in
    let start = date-read (codes "startdate") text t.start_text c.start
    ((44 ∷ []) ∷ codes "pattstart" ∷ (40 ∷ []) ∷ t.patt_start_text ∷ (41 ∷ []) ∷ (44 ∷ []) ∷ tail) refl t.start_is t.parted in
    let first = sign-read 44 start.rest (codes "pattstart" ∷ (40 ∷ []) ∷ t.patt_start_text ∷ (41 ∷ []) ∷ (44 ∷ []) ∷ tail) refl start.parted in
    let patt = date-read (codes "pattstart") start.parted.1 t.patt_start_text c.patt_start ((44 ∷ []) ∷ tail) refl t.patt_start_is start.parted.4 in
    let second = sign-read 44 patt.rest tail refl patt.parted in
    let part = part-read patt.parted.1 c.part t.words t.part_is patt.parted.4 in
    let dates : dates_in text ≡ Ok ((c.start, c.patt_start), patt.parted.1) =
    ap (λ (x : Read ℤ). go_on x (λ start. behind 44 (date_in (codes "pattstart")) >>= (λ patt_start. a_sign 44 >>= (λ comma. give (start, patt_start))))) start.value
    ∙ ap (λ (x : Read (Unit {0})). go_on (go_on x (λ sign. date_in (codes "pattstart"))) (λ patt_start. a_sign 44 >>= (λ comma. give (c.start, patt_start)))) first
    ∙ ap (λ (x : Read ℤ). go_on x (λ patt_start. a_sign 44 >>= (λ comma. give (c.start, patt_start)))) patt.value
    ∙ ap (λ (x : Read (Unit {0})). go_on x (λ comma. give (c.start, c.patt_start))) second in
    let whole : calendar_in text ≡ Ok (calendar_text c.start c.patt_start c.part, part.rest) =
    ap (λ (x : Read (ℤ × ℤ)). go_on x (λ dates. part_in >>= (λ part. give (calendar_text dates.0 dates.1 part)))) dates
    ∙ ap (λ (x : Read PatternPart). go_on x (λ part. give (calendar_text c.start c.patt_start part))) part.value in
    ap (λ (x : Read CalendarText). outcome (length text) (go_on x (λ found. the_end [] >>= (λ end. give found)))) whole
    ∙ ap (λ (x : Read (Unit {0})). outcome (length text) (go_on x (λ end. give (calendar_text c.start c.patt_start c.part)))) (end-read part.rest part.blank)
