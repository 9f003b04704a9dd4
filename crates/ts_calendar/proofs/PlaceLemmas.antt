-- Where the text of a calendar is refused: a stamp in its brackets counts as one token.
use Rattle.std.proofs.Common.{◌≡◌, ◌==◌, ℕ, zero, suc, ◌+◌, ◌<◌, ◌≤◌, inl, inr, ◌⊎◌, Bool, true, false, List, [], ◌∷◌, ◌++◌, length, length-append, length-drop, take, drop, take-append-drop, append_assoc, refl, sym, ap, ◌∙◌, arith, subst, Option, Some, None, Ok, Err, ℤ}
use Rattle.std.specs.Prelude.{codes, if◌then◌else◌}
use Rattle.std.proofs.Math.Seq.{take-append_seam}
use Rattle.std.specs.Str.{bytes_eq}
use Rattle.std.proofs.lemmas.Bool.{and_parts, cases_Bool}
use Rattle.std.proofs.lemmas.Bool.Decides.{nat_tests}
use Rattle.std.proofs.lemmas.List.{append-nil, append_cancel_right}
use Rattle.ts_base.specs.Name.{is_blank, is_word}
use Rattle.ts_base.specs.Moment.{read_stamp, moment_in, units_of as moment_units}
use Rattle.ts_text.specs.Phrase.{unblanked, are_blanks, Read, Phrase, go_on, ◌>>=◌, give, word_in, a_sign, behind, in_brackets, the_end, ended, name_as, plain_front, a_word}
use Rattle.ts_text.specs.Parted.{IsParted}
use Rattle.ts_text.specs.Place.{RefusesInPlace}
use Rattle.ts_text.specs.declared.token.TokenKind.{TokenKind}
use Rattle.ts_text.specs.declared.token.TokenKind.TheVariants.{Word, Text, Sign}
use Rattle.ts_text.proofs.CallerLemmas.{Alike, Any, Carries, Follows, Goes, IsSign, StandsBefore, Stops, Yields, YieldsIn, are_blanks-append, before-sign, before-then, before-word, begins, bind-ok, blanked, blanks_before, brackets_yield, bytes_taking, chain, chain_in, given, in_bytes, in_places, made_yields, of_token, pair-parts, plain_ending, plain_laws, plain_sign, sign-read, sign_at, sign_is, sign_left, sign_yields, split_same, stops-le, stops-word, stops_here, token_is, unblanked-le, unblanked_past, word-read}
use Rattle.ts_pattern.specs.Patterns.{pattern_in}
use Rattle.ts_pattern.proofs.GrammarLemmas.{pattern_yields}
use Rattle.ts_calendar.specs.declared.text.PatternPart.TheVariants.{Named, Own}
use Rattle.ts_calendar.specs.declared.text.CalendarText.{CalendarText}
use Rattle.ts_calendar.specs.Calendars.{calendar_text, inside_len, inside, trimmed, stamp_or_not, stamp_in, date_in, name_in, name_part_in, pattern_part_in, part_as, part_word_in, part_behind, part_in, dates_in, calendar_in, written_calendar}
use Rattle.ts_calendar.specs.Front.{stamp_front, IsBeforeStamp, calendar_fronts}
use Rattle.ts_calendar.proofs.StampTextLemmas.{is_inner, stamp-plain}
use Rattle.ts_calendar.proofs.TextLemmas.{in_date, trimmed-split, named-stamp, stamp-read}

-- no bytes behind which another front holds
abbrev Nowhere : List ℕ → Type 0
Nowhere before = ⊥

open_sign : IsSign plain_front 40
open_sign = plain_sign 40 refl refl refl

close_sign : IsSign plain_front 41
close_sign = plain_sign 41 refl refl refl

comma_sign : IsSign plain_front 44
comma_sign = plain_sign 44 refl refl refl

-- a stamp in brackets

-- its bytes, with blanks before each of its three tokens
abbrev bracket : List ℕ → List ℕ → List ℕ → List ℕ → List ℕ
bracket b i s e = b ++ 40 ∷ (i ++ (s ++ (e ++ 41 ∷ [])))

bracket-then : (b i s e other : List ℕ) → bracket b i s e ++ other ≡ b ++ 40 ∷ (i ++ (s ++ (e ++ 41 ∷ other)))
bracket-then b i s e other =
    append_assoc b (40 ∷ (i ++ (s ++ (e ++ 41 ∷ [])))) other
    ∙ ap (λ (l : List ℕ). b ++ 40 ∷ l) (append_assoc i (s ++ (e ++ 41 ∷ [])) other ∙ ap (λ (l : List ℕ). i ++ l) (append_assoc s (e ++ 41 ∷ []) other ∙ ap (λ (l : List ℕ). s ++ l) (append_assoc e (41 ∷ []) other)))

-- one token that stands for all the rest
abbrev the_rest : (rest : List ℕ) → IsParted (rest ∷ []) rest
the_rest rest = ([], [], refl, sym (append-nil rest), refl)

bracket-read : (b i s e other : List ℕ) (stamp : ℤ) → are_blanks b ≡ true → are_blanks i ≡ true → are_blanks e ≡ true → read_stamp s ≡ Some stamp → in_date (bracket b i s e ++ other) ≡ Ok (stamp, other)
bracket-read b i s e other stamp all_b all_i all_e is =
    let inner : List ℕ = i ++ (s ++ (e ++ 41 ∷ other)) in
    let parts : IsParted (s ∷ (41 ∷ []) ∷ other ∷ []) inner = (i, e ++ 41 ∷ other, all_i, refl, (e, other, all_e, refl, the_rest other)) in
    let opens_ : a_sign 40 (b ++ 40 ∷ inner) ≡ Ok (tt, inner) = sign_at 40 (b ++ 40 ∷ inner) inner (unblanked_past b (40 ∷ inner) all_b) in
    let stamp_is : stamp_in inner ≡ Ok (stamp, 41 ∷ other) = stamp-read inner s stamp (other ∷ []) is parts in
    ap in_date (bracket-then b i s e other)
    ∙ ap (λ (x : Read (Unit {0})). go_on (go_on x (λ sign. stamp_in)) (λ found. a_sign 41 >>= (λ close. give found))) opens_
    ∙ ap (λ (x : Read ℤ). go_on x (λ found. a_sign 41 >>= (λ close. give found))) stamp_is
    ∙ ap (λ (x : Read (Unit {0})). go_on x (λ close. give stamp)) (sign_at 41 (41 ∷ other) other refl)

record IsBracket (text : List ℕ) (stamp : ℤ) (rest : List ℕ) : Type 0 where
  b : List ℕ
  i : List ℕ
  s : List ℕ
  e : List ℕ
  all_b : are_blanks b ≡ true
  all_i : are_blanks i ≡ true
  all_e : are_blanks e ≡ true
  value : read_stamp s ≡ Some stamp
  whole : text ≡ bracket b i s e ++ rest

-- the bytes before the next closing bracket are the stamp's text and blanks
inside-split : (t : List ℕ) → (blanks : List ℕ) × (are_blanks blanks ≡ true) × (t ≡ inside t ++ (blanks ++ drop (inside_len t) t))
inside-split t =
    let ends = trimmed-split (take (inside_len t) t) in
    (ends.0, ends.1, sym (take-append-drop (inside_len t) t) ∙ ap (λ (l : List ℕ). l ++ drop (inside_len t) t) ends.2 ∙ append_assoc (inside t) ends.0 (drop (inside_len t) t))

bracket-found : (text rest : List ℕ) (stamp : ℤ) → in_date text ≡ Ok (stamp, rest) → IsBracket text stamp rest
bracket-found text rest stamp h =
    let second = bind-ok (behind 40 stamp_in text) (λ found. a_sign 41 >>= (λ close. give found)) (stamp, rest) h in
    let first = bind-ok (a_sign 40 text) (λ sign. stamp_in) second.0 second.1 in
    let third = bind-ok (a_sign 41 second.0.1) (λ close. give second.0.0) (stamp, rest) second.2 in
    let same = pair-parts second.0.0 stamp third.0.1 rest third.2 in
    let inner : List ℕ = first.0.1 in
    let t : List ℕ = unblanked inner in
    let named = named-stamp (read_stamp (inside t)) t second.0.1 second.0.0 first.2 in
    let ends = inside-split t in
    let outer = blanked text in
    let middle = blanked inner in
    let close = blanked second.0.1 in
    let behind_stamp : drop (inside_len t) t ≡ close.blanks ++ 41 ∷ rest =
    named.1 ∙ close.split ∙ ap (λ (l : List ℕ). close.blanks ++ l) (sign_is 41 second.0.1 third.0.1 third.1 ∙ ap (λ (l : List ℕ). 41 ∷ l) same.1) in
    let stamp_whole : t ≡ inside t ++ ((ends.0 ++ close.blanks) ++ 41 ∷ rest) =
    ends.2 ∙ ap (λ (l : List ℕ). inside t ++ l) (ap (λ (l : List ℕ). ends.0 ++ l) behind_stamp ∙ sym (append_assoc ends.0 close.blanks (41 ∷ rest))) in
    record {
      b = outer.blanks;
      i = middle.blanks;
      s = inside t;
      e = ends.0 ++ close.blanks;
      all_b = outer.all;
      all_i = middle.all;
      all_e = are_blanks-append ends.0 close.blanks ends.1 close.all;
      value = named.0 ∙ ap Some same.0;
      whole = outer.split ∙ ap (λ (l : List ℕ). outer.blanks ++ l) (sign_is 40 text inner first.1)
          ∙ ap (λ (l : List ℕ). outer.blanks ++ 40 ∷ l) (middle.split ∙ ap (λ (l : List ℕ). middle.blanks ++ l) stamp_whole)
          ∙ sym (bracket-then outer.blanks middle.blanks (inside t) (ends.0 ++ close.blanks) rest);
    }

bracket-before : (b i s e : List ℕ) → are_blanks b ≡ true → are_blanks i ≡ true → are_blanks e ≡ true → StandsBefore ((40 ∷ []) ∷ s ∷ (41 ∷ []) ∷ []) (bracket b i s e)
bracket-before b i s e all_b all_i all_e = λ more other p.
    subst (λ (l : List ℕ). IsParted ((40 ∷ []) ∷ s ∷ (41 ∷ []) ∷ more) l) (sym (bracket-then b i s e other))
    (b, i ++ (s ++ (e ++ 41 ∷ other)), all_b, refl, (i, e ++ 41 ∷ other, all_i, refl, (e, other, all_e, refl, p)))

-- where it is refused
data RefusedAt (bytes : List ℕ) (left : ℕ) : Type 0 where
  at_open : left ≡ length (unblanked bytes) → a_sign 40 bytes ≡ Err left → RefusedAt bytes left
  at_stamp : (b inner : List ℕ) → are_blanks b ≡ true → bytes ≡ b ++ 40 ∷ inner → left ≡ length (unblanked inner) → RefusedAt bytes left
  at_close : (b i s e : List ℕ) (stamp : ℤ) → are_blanks b ≡ true → are_blanks i ≡ true → are_blanks e ≡ true → read_stamp s ≡ Some stamp → bytes ≡ b ++ 40 ∷ (i ++ (s ++ e)) → left ≡ 0 → RefusedAt bytes left

-- behind the bytes inside stands the bracket, or nothing
drop_inside : (t : List ℕ) → (drop (inside_len t) t ≡ []) ⊎ ((more : List ℕ) × (drop (inside_len t) t ≡ 41 ∷ more))
drop_inside [] = inl refl
drop_inside (x ∷ t) = elim (cases_Bool (is_inner x)) [
  | inl y ↦ let more : 1 + inside_len t ≡ suc (inside_len t) = omega arith in rw (y, more) (drop_inside t)
  | inr n ↦ let same : x ≡ 41 = grind (arith, nat_tests) in rw n (inr (t, ap (λ (c : ℕ). c ∷ t) same))
]

refusal : (bytes : List ℕ) (left : ℕ) → in_date bytes ≡ Err left → RefusedAt bytes left
refusal bytes left is = by_open (a_sign 40 bytes) refl is where
  outer_whole : (inner : List ℕ) → a_sign 40 bytes ≡ Ok (tt, inner) → bytes ≡ (blanked bytes).blanks ++ 40 ∷ inner
  outer_whole inner e = (blanked bytes).split ∙ ap (λ (l : List ℕ). (blanked bytes).blanks ++ l) (sign_is 40 bytes inner e)

  by_end : (inner : List ℕ) (stamp : ℤ) → a_sign 40 bytes ≡ Ok (tt, inner) → read_stamp (inside (unblanked inner)) ≡ Some stamp → (l : ℕ) → a_sign 41 (drop (inside_len (unblanked inner)) (unblanked inner)) ≡ Err l → l ≡ left →
      (drop (inside_len (unblanked inner)) (unblanked inner) ≡ []) ⊎ ((more : List ℕ) × (drop (inside_len (unblanked inner)) (unblanked inner) ≡ 41 ∷ more)) → RefusedAt bytes left
  by_end inner stamp e value l refused same (inl none) =
      let t : List ℕ = unblanked inner in
      let ends = inside-split t in
      let middle = blanked inner in
      let whole : t ≡ inside t ++ ends.0 = ends.2 ∙ ap (λ (l : List ℕ). inside t ++ l) (ap (λ (l : List ℕ). ends.0 ++ l) none ∙ append-nil ends.0) in
      at_close (blanked bytes).blanks middle.blanks (inside t) ends.0 stamp (blanked bytes).all middle.all ends.1 value
      (outer_whole inner e ∙ ap (λ (l : List ℕ). (blanked bytes).blanks ++ 40 ∷ l) (middle.split ∙ ap (λ (l : List ℕ). middle.blanks ++ l) whole))
      (sym same ∙ sign_left 41 (drop (inside_len t) t) l refused ∙ ap (λ (l : List ℕ). length (unblanked l)) none)
  by_end inner stamp e value l refused same (inr more) =
      let t : List ℕ = unblanked inner in
      let found : a_sign 41 (drop (inside_len t) t) ≡ Ok (tt, more.0) = sign_at 41 (drop (inside_len t) t) more.0 (ap unblanked more.1) in
      absurd (let no : Ok (tt, more.0) ≡ Err l = sym found ∙ refused in cc)

  by_close : (inner : List ℕ) (stamp : ℤ) → a_sign 40 bytes ≡ Ok (tt, inner) → read_stamp (inside (unblanked inner)) ≡ Some stamp → (read : Read (Unit {0})) → a_sign 41 (drop (inside_len (unblanked inner)) (unblanked inner)) ≡ read → go_on {A = Unit {0}} {B = ℤ} read (λ close. give stamp) ≡ Err left → RefusedAt bytes left
  by_close inner stamp e value (Ok x) close at = absurd (cc)
  by_close inner stamp e value (Err l) close at = let same : l ≡ left = cc in by_end inner stamp e value l close same (drop_inside (unblanked inner))

  by_stamp : (inner : List ℕ) → a_sign 40 bytes ≡ Ok (tt, inner) → (value : Option ℤ) → read_stamp (inside (unblanked inner)) ≡ value → go_on (stamp_or_not value (unblanked inner)) (λ found. a_sign 41 >>= (λ close. give found)) ≡ Err left → RefusedAt bytes left
  by_stamp inner e None value at = let same : length (unblanked inner) ≡ left = cc in at_stamp (blanked bytes).blanks inner (blanked bytes).all (outer_whole inner e) (sym same)
  by_stamp inner e (Some stamp) value at = by_close inner stamp e value (a_sign 41 (drop (inside_len (unblanked inner)) (unblanked inner))) refl at

  by_open : (read : Read (Unit {0})) → a_sign 40 bytes ≡ read → go_on (go_on (a_sign 40 bytes) (λ sign. stamp_in)) (λ found. a_sign 41 >>= (λ close. give found)) ≡ Err left → RefusedAt bytes left
  by_open (Err l) e at =
      let there : Err l ≡ Err left = rw e at at in
      let same : l ≡ left = cc in
      at_open (sign_left 40 bytes left (e ∙ ap Err same)) (e ∙ ap Err same)
  by_open (Ok x) e at = by_stamp x.1 e (read_stamp (inside (unblanked x.1))) refl (rw e at at)

-- what begins with a bracket behind blanks begins so whatever comes behind
opens : (b x y : List ℕ) → are_blanks b ≡ true → Follows plain_front (b ++ 40 ∷ x) (b ++ 40 ∷ y)
opens [] x y all = inl (record { kind = Sign; size = 1; was = open_sign x; is = open_sign y; same = refl })
opens (c ∷ b) x y all = inr (record { first = c; more = b ++ 40 ∷ y; split = refl; blank = (and_parts (is_blank c) (are_blanks b) all).0 })

taken : (bytes b m rest : List ℕ) → are_blanks b ≡ true → bytes ≡ b ++ 40 ∷ (m ++ rest) → Carries plain_front bytes rest
taken bytes b m rest all whole = record {
  used = b ++ 40 ∷ m;
  whole = whole ∙ sym (append_assoc b (40 ∷ m) rest);
  follows = λ other f. subst (λ (l : List ℕ). Follows plain_front l ((b ++ 40 ∷ m) ++ other)) (sym whole)
      (subst (λ (l : List ℕ). Follows plain_front (b ++ 40 ∷ (m ++ rest)) l) (sym (append_assoc b (40 ∷ m) other)) (opens b (m ++ rest) (m ++ other) all));
}

-- bytes that go on to a stamp in brackets
goes_bracket : (before more b i s e : List ℕ) (stamp : ℤ) → are_blanks b ≡ true → are_blanks i ≡ true → are_blanks e ≡ true → read_stamp s ≡ Some stamp → ((other : List ℕ) → (tail : List ℕ) × (more ++ 32 ∷ other ≡ 32 ∷ tail)) →
    ((other : List ℕ) → before ++ (more ++ 32 ∷ other) ≡ bracket b i s e ++ 32 ∷ other) → Goes Any in_date before
goes_bracket before more b i s e stamp all_b all_i all_e value starts whole = record {
  more = more;
  found = stamp;
  holds = tt;
  starts = starts;
  reads = λ other. ap in_date (whole other) ∙ bracket-read b i s e (32 ∷ other) stamp all_b all_i all_e value;
}

goes_blank : (before s : List ℕ) (stamp : ℤ) → read_stamp s ≡ Some stamp → are_blanks before ≡ true → Goes Any in_date before
goes_blank before s stamp value all =
    goes_bracket before (32 ∷ 40 ∷ (s ++ 41 ∷ [])) (before ++ 32 ∷ []) [] s [] stamp (are_blanks-append before (32 ∷ []) all refl) refl refl value
    (λ other. (40 ∷ ((s ++ 41 ∷ []) ++ 32 ∷ other), refl))
    (λ other. sym (append_assoc (before ++ 32 ∷ []) (40 ∷ (s ++ 41 ∷ [])) (32 ∷ other) ∙ append_assoc before (32 ∷ []) (40 ∷ ((s ++ 41 ∷ []) ++ 32 ∷ other))))

goes_open : (before b i s : List ℕ) (stamp : ℤ) → read_stamp s ≡ Some stamp → are_blanks b ≡ true → are_blanks i ≡ true → before ≡ b ++ 40 ∷ i → Goes Any in_date before
goes_open before b i s stamp value all_b all_i is =
    goes_bracket before (32 ∷ (s ++ 41 ∷ [])) b (i ++ 32 ∷ []) s [] stamp all_b (are_blanks-append i (32 ∷ []) all_i refl) refl value
    (λ other. ((s ++ 41 ∷ []) ++ 32 ∷ other, refl))
    (λ other. ap (λ (l : List ℕ). l ++ 32 ∷ ((s ++ 41 ∷ []) ++ 32 ∷ other)) is ∙ append_assoc b (40 ∷ i) (32 ∷ ((s ++ 41 ∷ []) ++ 32 ∷ other))
    ∙ ap (λ (l : List ℕ). b ++ 40 ∷ l) (ap (λ (l : List ℕ). i ++ 32 ∷ l) (append_assoc s (41 ∷ []) (32 ∷ other)) ∙ sym (append_assoc i (32 ∷ []) (s ++ 41 ∷ 32 ∷ other)))
    ∙ sym (bracket-then b (i ++ 32 ∷ []) s [] (32 ∷ other)))

goes_close : (before b i s e : List ℕ) (stamp : ℤ) → read_stamp s ≡ Some stamp → are_blanks b ≡ true → are_blanks i ≡ true → are_blanks e ≡ true → before ≡ b ++ 40 ∷ (i ++ (s ++ e)) → Goes Any in_date before
goes_close before b i s e stamp value all_b all_i all_e is =
    goes_bracket before (32 ∷ 41 ∷ []) b i s (e ++ 32 ∷ []) stamp all_b all_i (are_blanks-append e (32 ∷ []) all_e refl) value
    (λ other. (41 ∷ 32 ∷ other, refl))
    (λ other. ap (λ (l : List ℕ). l ++ 32 ∷ 41 ∷ 32 ∷ other) is ∙ append_assoc b (40 ∷ (i ++ (s ++ e))) (32 ∷ 41 ∷ 32 ∷ other)
    ∙ ap (λ (l : List ℕ). b ++ 40 ∷ l) (append_assoc i (s ++ e) (32 ∷ 41 ∷ 32 ∷ other) ∙ ap (λ (l : List ℕ). i ++ l) (append_assoc s e (32 ∷ 41 ∷ 32 ∷ other) ∙ ap (λ (l : List ℕ). s ++ l) (sym (append_assoc e (32 ∷ []) (41 ∷ 32 ∷ other)))))
    ∙ sym (bracket-then b i s (e ++ 32 ∷ []) (32 ∷ other)))

-- a stamp
an_example : read_stamp (codes "1970-01-01 00:00:00") ≡ Some (moment_units (moment_in (codes "1970-01-01 00:00:00")))
unfolding read_stamp
an_example = refl

-- behind the bracket a stamp stands
abbrev AtStamp : List ℕ → Type 0
AtStamp before = IsParted ((40 ∷ []) ∷ []) before

bracket_yields : YieldsIn plain_front (Carries plain_front) AtStamp Any in_date
bracket_yields = record {
  ok = λ bytes found is.
      let f = bracket-found bytes found.1 found.0 is in
      (tt, taken bytes f.b (f.i ++ (f.s ++ (f.e ++ 41 ∷ []))) found.1 f.all_b (f.whole ∙ append_assoc f.b (40 ∷ (f.i ++ (f.s ++ (f.e ++ 41 ∷ [])))) found.1));
  err = λ bytes left is. err_at bytes left (refusal bytes left is);
  fails = λ before here there is free alike. fails_at before here there free alike (refusal (before ++ here) (length here) is);
  keeps = λ used rest other a is follows.
      let f = bracket-found (used ++ rest) rest a is in
      let same : used ≡ bracket f.b f.i f.s f.e = append_cancel_right used (bracket f.b f.i f.s f.e) rest f.whole in
      ap (λ (l : List ℕ). in_date (l ++ other)) same ∙ bracket-read f.b f.i f.s f.e other a f.all_b f.all_i f.all_e f.value;
  goes = λ before here is. goes_at before here (refusal (before ++ here) (length here) is);
  some = goes_blank [] (codes "1970-01-01 00:00:00") (moment_units (moment_in (codes "1970-01-01 00:00:00"))) an_example refl;
} where
  err_at : (bytes : List ℕ) (left : ℕ) → RefusedAt bytes left → Stops (Carries plain_front) bytes left
  err_at bytes left (at_open size e) = stops_here plain_front (Carries plain_front) (bytes_taking plain_front) bytes left size
  err_at bytes left (at_stamp b inner all whole size) = record { rest = inner; takes = taken bytes b [] inner all whole; here = size }
  err_at bytes left (at_close b i s e stamp all_b all_i all_e value whole none) =
      record { rest = []; takes = taken bytes b (i ++ (s ++ e)) [] all_b (whole ∙ ap (λ (l : List ℕ). b ++ 40 ∷ l) (sym (append-nil (i ++ (s ++ e))))); here = none }

  opened : (before here b inner : List ℕ) → before ++ here ≡ b ++ 40 ∷ inner → length here ≡ length (unblanked inner) → before ≡ b ++ 40 ∷ (blanked inner).blanks
  opened before here b inner whole size =
      (split_same before (b ++ 40 ∷ (blanked inner).blanks) here (unblanked inner) (whole ∙ ap (λ (l : List ℕ). b ++ 40 ∷ l) (blanked inner).split ∙ sym (append_assoc b (40 ∷ (blanked inner).blanks) (unblanked inner))) size).0

  fails_at : (before here there : List ℕ) → (AtStamp before → ⊥) → Alike plain_front here there → RefusedAt (before ++ here) (length here) → in_date (before ++ there) ≡ Err (length there)
  fails_at before here there free alike (at_open size e) =
      ap (λ (x : Read (Unit {0})). go_on (go_on x (λ sign. stamp_in)) (λ found. a_sign 41 >>= (λ close. give found))) ((sign_yields plain_front plain_laws 40 open_sign).fails before here there e (λ none. none) alike)
  fails_at before here there free alike (at_stamp b inner all whole size) =
      absurd (free (subst (λ (l : List ℕ). AtStamp l) (sym (opened before here b inner whole size)) (b, (blanked inner).blanks, all, refl, (blanked inner).all)))
  fails_at before here there free alike (at_close b i s e stamp all_b all_i all_e value whole none) =
      let first = begins plain_front plain_laws here (alike.kind, alike.size) alike.was in
      absurd (omega (arith, none, ap length first.split))

  goes_at : (before here : List ℕ) → RefusedAt (before ++ here) (length here) → Goes Any in_date before
  goes_at before here (at_open size e) =
      goes_blank before (codes "1970-01-01 00:00:00") (moment_units (moment_in (codes "1970-01-01 00:00:00"))) an_example (blanks_before before here (sym size)).0
  goes_at before here (at_stamp b inner all whole size) =
      goes_open before b (blanked inner).blanks (codes "1970-01-01 00:00:00") (moment_units (moment_in (codes "1970-01-01 00:00:00"))) an_example all (blanked inner).all (opened before here b inner whole size)
  goes_at before here (at_close b i s e stamp all_b all_i all_e value whole none) =
      goes_close before b i s e stamp value all_b all_i all_e (split_same before (b ++ 40 ∷ (i ++ (s ++ e))) here [] (whole ∙ sym (append-nil (b ++ 40 ∷ (i ++ (s ++ e))))) none).0

-- the dates

start_word : Yields plain_front Any (a_word (codes "startdate"))
unfolding a_word plain_front
start_word = of_token plain_front plain_laws Any (word_in (codes "startdate")) (record { first = 115; more = codes "tartdate"; kind = Word; found = tt; holds = tt; stands = refl; accepted = refl }) (λ kind text a e. tt)

patt_word : Yields plain_front Any (a_word (codes "pattstart"))
unfolding a_word plain_front
patt_word = of_token plain_front plain_laws Any (word_in (codes "pattstart")) (record { first = 112; more = codes "attstart"; kind = Word; found = tt; holds = tt; stands = refl; accepted = refl }) (λ kind text a e. tt)

-- behind the word and the bracket a stamp stands
abbrev AtDate : List ℕ → List ℕ → Type 0
AtDate word before = IsParted (word ∷ (40 ∷ []) ∷ []) before

abbrev AtComma : List ℕ → List ℕ → Type 0
AtComma word before = IsParted ((44 ∷ []) ∷ word ∷ (40 ∷ []) ∷ []) before

date_yields : (word : List ℕ) → Yields plain_front Any (a_word word) → YieldsIn plain_front (Carries plain_front) (AtDate word) Any (date_in word)
unfolding date_in
date_yields word one =
    chain_in plain_front (Carries plain_front) (bytes_taking plain_front) (AtDate word) (AtDate word) AtStamp Any Any (a_word word) (λ name. in_date)
    (in_bytes plain_front plain_laws (AtDate word) Any (a_word word) one) (λ name any. bracket_yields) (λ before w. w)
    (λ used middle rest a is w. before-word word used rest is ((40 ∷ []) ∷ []) middle w)

comma_yields : (word : List ℕ) → Yields plain_front Any (a_word word) → YieldsIn plain_front (Carries plain_front) (AtComma word) Any (behind 44 (date_in word))
comma_yields word one =
    chain_in plain_front (Carries plain_front) (bytes_taking plain_front) (AtComma word) (AtComma word) (AtDate word) Any Any (a_sign 44) (λ sign. date_in word)
    (in_bytes plain_front plain_laws (AtComma word) Any (a_sign 44) (sign_yields plain_front plain_laws 44 comma_sign)) (λ sign any. date_yields word one) (λ before w. w)
    (λ used middle rest a is w. before-sign 44 used rest is (word ∷ (40 ∷ []) ∷ []) middle w)

-- a date that was read stands before what comes behind it
record IsDateBefore (word used : List ℕ) (stamp : ℤ) : Type 0 where
  text : List ℕ
  value : read_stamp text ≡ Some stamp
  stands : StandsBefore (word ∷ (40 ∷ []) ∷ text ∷ (41 ∷ []) ∷ []) used

date-before : (word used rest : List ℕ) (stamp : ℤ) → Yields plain_front Any (a_word word) → date_in word (used ++ rest) ≡ Ok (stamp, rest) → IsDateBefore word used stamp
unfolding date_in
date-before word used rest stamp one h =
    let first = bind-ok (a_word word (used ++ rest)) (λ name. in_date) (stamp, rest) h in
    let inner : List ℕ = first.0.1 in
    let way : Carries plain_front (used ++ rest) inner = ((in_bytes plain_front plain_laws Nowhere Any (a_word word) one).ok (used ++ rest) first.0 first.1).1 in
    let named : StandsBefore (word ∷ []) way.used = before-word word way.used inner (ap (a_word word) (sym way.whole) ∙ first.1) in
    let f = bracket-found inner rest stamp first.2 in
    let bytes : List ℕ = bracket f.b f.i f.s f.e in
    let same : used ≡ way.used ++ bytes = append_cancel_right used (way.used ++ bytes) rest (way.whole ∙ ap (λ (l : List ℕ). way.used ++ l) f.whole ∙ sym (append_assoc way.used bytes rest)) in
    record {
      text = f.s;
      value = f.value;
      stands = subst (λ (l : List ℕ). StandsBefore (word ∷ (40 ∷ []) ∷ f.s ∷ (41 ∷ []) ∷ []) l) (sym same)
          (before-then (word ∷ []) ((40 ∷ []) ∷ f.s ∷ (41 ∷ []) ∷ []) way.used bytes named (bracket-before f.b f.i f.s f.e f.all_b f.all_i f.all_e));
    }

-- the comma behind both dates
abbrev behind_dates : ℤ → ℤ → Phrase (ℤ × ℤ)
behind_dates start patt_start = a_sign 44 >>= (λ comma. give (start, patt_start))

-- what stands behind the start
abbrev behind_start : ℤ → Phrase (ℤ × ℤ)
behind_start start = behind 44 (date_in (codes "pattstart")) >>= (λ patt_start. behind_dates start patt_start)

behind_dates_yields : (start patt_start : ℤ) → Yields plain_front Any (behind_dates start patt_start)
behind_dates_yields start patt_start = let dates : ℤ × ℤ = (start, patt_start) in chain plain_front plain_laws Any Any (a_sign 44) (λ comma. give dates) (sign_yields plain_front plain_laws 44 comma_sign) (λ comma c. given plain_front Any dates tt)

-- behind both dates no stamp stands
comma_then : (start : ℤ) → YieldsIn plain_front (Carries plain_front) (AtComma (codes "pattstart")) Any (behind_start start)
comma_then start =
    chain_in plain_front (Carries plain_front) (bytes_taking plain_front) (AtComma (codes "pattstart")) (AtComma (codes "pattstart")) Nowhere Any Any (behind 44 (date_in (codes "pattstart"))) (behind_dates start)
    (comma_yields (codes "pattstart") patt_word)
    (λ patt_start any. in_bytes plain_front plain_laws Nowhere Any (behind_dates start patt_start) (behind_dates_yields start patt_start))
    (λ before w. w) (λ used middle rest a is none. absurd none)

dates_yield : YieldsIn plain_front (Carries plain_front) IsBeforeStamp Any dates_in
unfolding dates_in
dates_yield =
    chain_in plain_front (Carries plain_front) (bytes_taking plain_front) IsBeforeStamp (AtDate (codes "startdate")) (AtComma (codes "pattstart")) Any Any (date_in (codes "startdate")) behind_start
    (date_yields (codes "startdate") start_word) (λ start any. comma_then start) (λ before w. inl w)
    (λ used middle rest start is w.
    let d = date-before (codes "startdate") used rest start start_word is in
    inr (record { start_text = d.text; start = start; start_is = d.value; parted = d.stands ((44 ∷ []) ∷ codes "pattstart" ∷ (40 ∷ []) ∷ []) middle w }))

-- the part

name_yields : Yields plain_front Any name_in
unfolding name_in plain_front
name_yields = of_token plain_front plain_laws Any name_as (record { first = 97; more = []; kind = Word; found = 97 ∷ []; holds = tt; stands = refl; accepted = refl }) (λ kind text a e. tt)

part_word_yields : Yields plain_front Any part_word_in
unfolding part_word_in plain_front
part_word_yields = of_token plain_front plain_laws Any part_as (record { first = 112; more = codes "attname"; kind = Word; found = true; holds = tt; stands = refl; accepted = refl }) (λ kind text a e. tt)

behind_word_yields : (is_named : Bool) → Yields plain_front Any (part_behind is_named)
unfolding name_part_in pattern_part_in
behind_word_yields true = made_yields plain_front plain_laws Any Any (in_brackets name_in) Named (brackets_yield plain_front plain_laws Any open_sign close_sign name_in name_yields) (λ a any. tt)
behind_word_yields false = made_yields plain_front plain_laws Any Any (in_brackets pattern_in) Own (brackets_yield plain_front plain_laws Any open_sign close_sign pattern_in pattern_yields) (λ a any. tt)

part_yields : Yields plain_front Any part_in
unfolding part_in
part_yields = chain plain_front plain_laws Any Any part_word_in part_behind part_word_yields (λ is_named any. behind_word_yields is_named)

part_then : (dates : ℤ × ℤ) → Yields plain_front Any (part_in >>= (λ part. give (calendar_text dates.0 dates.1 part)))
part_then dates = chain plain_front plain_laws Any Any part_in (λ part. give (calendar_text dates.0 dates.1 part)) part_yields (λ part any. given plain_front Any (calendar_text dates.0 dates.1 part) tt)

calendar_yields : YieldsIn plain_front (Carries plain_front) IsBeforeStamp Any calendar_in
unfolding calendar_in
calendar_yields =
    chain_in plain_front (Carries plain_front) (bytes_taking plain_front) IsBeforeStamp IsBeforeStamp Nowhere Any Any dates_in (λ dates. part_in >>= (λ part. give (calendar_text dates.0 dates.1 part)))
    dates_yield (λ dates any. in_bytes plain_front plain_laws Nowhere Any (part_in >>= (λ part. give (calendar_text dates.0 dates.1 part))) (part_then dates))
    (λ before w. w) (λ used middle rest a is none. absurd none)

-- where a stamp stands

-- no more bytes are left than there were
record Bounded {A : Type 0} (read : Read A) (n : ℕ) : Type 0 where
  left : (l : ℕ) → read ≡ Err l → l ≤ n
  rest : (x : A × List ℕ) → read ≡ Ok x → length x.1 ≤ n

bounded_then : {A B : Type 0} (read : Read A) (next : A → Phrase B) (n : ℕ) → Bounded read n → ((a : A) (bytes : List ℕ) → Bounded (next a bytes) (length bytes)) → Bounded (go_on read next) n
bounded_then (Err l) next n first after = record { left = λ m e. let same : l ≡ m = cc in omega (arith, first.left l refl, same); rest = λ x e. absurd (cc) }
bounded_then (Ok x) next n first after = record {
  left = λ m e. omega (arith, first.rest x refl, (after x.0 x.1).left m e);
  rest = λ y e. omega (arith, first.rest x refl, (after x.0 x.1).rest y e);
}

bounded_yields : {A : Type 0} (Other : List ℕ → Type 0) (phrase : Phrase A) → YieldsIn plain_front (Carries plain_front) Other Any phrase → (bytes : List ℕ) → Bounded (phrase bytes) (length bytes)
bounded_yields Other phrase one bytes = record {
  left = λ l e. stops-le plain_front (Carries plain_front) (bytes_taking plain_front) bytes l (one.err bytes l e);
  rest = λ x e. let way = (one.ok bytes x e).1 in omega (arith, ap length way.whole, length-append way.used x.1);
}

bounded_end : (c : CalendarText) (bytes : List ℕ) → Bounded ((the_end [] >>= (λ end. give c)) bytes) (length bytes)
unfolding the_end
bounded_end c bytes = elim (cases_Bool (bytes_eq (unblanked bytes) [])) [
  | inl t ↦ rw t (record { left = λ l e. absurd (cc); rest = λ x e. let pair : CalendarText × List ℕ = (c, []) in let same : pair ≡ x = cc in omega (arith, ap (λ (p : CalendarText × List ℕ). length p.1) same) })
  | inr f ↦ rw f (record { left = λ l e. let same : length (unblanked bytes) ≡ l = cc in omega (arith, same, unblanked-le bytes); rest = λ x e. absurd (cc) })
]

-- Behind these bytes a stamp is read: with none the phrase is refused there, and else nowhere before its end.
record Waits {A : Type 0} (phrase : Phrase A) (before : List ℕ) : Type 0 where
  blanks : List ℕ
  all : are_blanks blanks ≡ true
  after : Read ℤ → Read A
  reads : (here : List ℕ) → phrase (before ++ here) ≡ after (stamp_in (blanks ++ here))
  refuses : (l : ℕ) → after (Err l) ≡ Err l
  bounds : (stamp : ℤ) (rest : List ℕ) → Bounded (after (Ok (stamp, rest))) (length rest)

waits_then : {A B : Type 0} (first : Phrase A) (next : A → Phrase B) (before : List ℕ) → Waits first before → ((a : A) (bytes : List ℕ) → Bounded (next a bytes) (length bytes)) → Waits (first >>= next) before
waits_then {A} {B} first next before one two = record {
  blanks = one.blanks;
  all = one.all;
  after = λ r. go_on (one.after r) next;
  reads = λ here. ap (λ (r : Read A). go_on r next) (one.reads here);
  refuses = λ l. ap (λ (r : Read A). go_on r next) (one.refuses l);
  bounds = λ stamp rest. bounded_then (one.after (Ok (stamp, rest))) next (length rest) (one.bounds stamp rest) two;
}

waits_behind : {A B : Type 0} (first : Phrase A) (next : A → Phrase B) (a : A) (before middle : List ℕ) → ((there : List ℕ) → first (before ++ there) ≡ Ok (a, middle ++ there)) → Waits (next a) middle → Waits (first >>= next) before
waits_behind {A} first next a before middle one two = record {
  blanks = two.blanks;
  all = two.all;
  after = two.after;
  reads = λ here. ap (λ (r : Read A). go_on r next) (one here) ∙ two.reads here;
  refuses = two.refuses;
  bounds = two.bounds;
}

waits_stamp : (blanks : List ℕ) → are_blanks blanks ≡ true → Waits stamp_in blanks
waits_stamp blanks all = record {
  blanks = blanks;
  all = all;
  after = λ r. r;
  reads = λ here. refl;
  refuses = λ l. refl;
  bounds = λ stamp rest. record { left = λ l e. absurd (cc); rest = λ x e. let pair : ℤ × List ℕ = (stamp, rest) in let same : pair ≡ x = cc in omega (arith, ap (λ (p : ℤ × List ℕ). length p.1) same) };
}

-- the first token of a text, and all the rest as another
abbrev with_rest : (token before there : List ℕ) (tokens : List (List ℕ)) (p : IsParted (token ∷ tokens) before) → IsParted (token ∷ (p.1 ++ there) ∷ []) (before ++ there)
with_rest token before there tokens p =
    (p.0, p.1 ++ there, p.2, ap (λ (l : List ℕ). l ++ there) p.3 ∙ append_assoc p.0 (token ++ p.1) there ∙ ap (λ (l : List ℕ). p.0 ++ l) (append_assoc token p.1 there), the_rest (p.1 ++ there))

sign-there : (sign : ℕ) (before there : List ℕ) (tokens : List (List ℕ)) → is_blank sign ≡ false → (p : IsParted ((sign ∷ []) ∷ tokens) before) → a_sign sign (before ++ there) ≡ Ok (tt, p.1 ++ there)
sign-there sign before there tokens shows p = sign-read sign (before ++ there) ((p.1 ++ there) ∷ []) shows (with_rest (sign ∷ []) before there tokens p)

word-there : (word before there : List ℕ) (tokens : List (List ℕ)) → is_word word ≡ true → (p : IsParted (word ∷ (40 ∷ []) ∷ tokens) before) → a_word word (before ++ there) ≡ Ok (tt, p.1 ++ there)
word-there word before there tokens w p =
    let q = with_rest (40 ∷ []) p.1 there tokens p.4 in
    word-read word (before ++ there) ((p.1 ++ there) ∷ []) w (with_rest word before there ((40 ∷ []) ∷ tokens) p) (stops-word ((40 ∷ []) ∷ (p.4.1 ++ there) ∷ []) (p.1 ++ there) refl q)

date-there : (word before there text : List ℕ) (stamp : ℤ) (tokens : List (List ℕ)) → is_word word ≡ true → read_stamp text ≡ Some stamp → (p : IsParted (word ∷ (40 ∷ []) ∷ text ∷ (41 ∷ []) ∷ tokens) before) → date_in word (before ++ there) ≡ Ok (stamp, p.4.4.4.1 ++ there)
unfolding date_in
date-there word before there text stamp tokens w value p =
    let q = p.4 in
    let rest : List ℕ = q.4.4.1 in
    let bytes : List ℕ = bracket q.0 q.4.0 text q.4.4.0 in
    let whole : p.1 ≡ bytes ++ rest =
    q.3 ∙ ap (λ (l : List ℕ). q.0 ++ 40 ∷ l) (q.4.3 ∙ ap (λ (l : List ℕ). q.4.0 ++ (text ++ l)) q.4.4.3) ∙ sym (bracket-then q.0 q.4.0 text q.4.4.0 rest) in
    ap (λ (x : Read (Unit {0})). go_on x (λ name. in_date)) (word-there word before there (text ∷ (41 ∷ []) ∷ tokens) w p)
    ∙ ap in_date (ap (λ (l : List ℕ). l ++ there) whole ∙ append_assoc bytes rest there)
    ∙ bracket-read q.0 q.4.0 text q.4.4.0 (rest ++ there) stamp q.2 q.4.2 q.4.4.2 value

-- behind the word and its bracket
waits_date : (word before : List ℕ) → is_word word ≡ true → AtDate word before → Waits (date_in word) before
unfolding date_in
waits_date word before w p =
    waits_behind (a_word word) (λ name. in_date) tt before p.1 (λ there. word-there word before there [] w p)
    (waits_then (behind 40 stamp_in) (λ found. a_sign 41 >>= (λ close. give found)) p.1
    (waits_behind (a_sign 40) (λ sign. stamp_in) tt p.1 p.4.1 (λ there. sign-there 40 p.1 there [] refl p.4) (waits_stamp p.4.1 p.4.4))
    (λ found bytes. bounded_yields Nowhere (a_sign 41 >>= (λ close. give found)) (closing found) bytes)) where
      closing : (found : ℤ) → YieldsIn plain_front (Carries plain_front) Nowhere Any (a_sign 41 >>= (λ close. give found))
      closing found = in_bytes plain_front plain_laws Nowhere Any (a_sign 41 >>= (λ close. give found)) (chain plain_front plain_laws Any Any (a_sign 41) (λ close. give found) (sign_yields plain_front plain_laws 41 close_sign) (λ close any. given plain_front Any found tt))

waits_dates : (before : List ℕ) → IsBeforeStamp before → Waits dates_in before
unfolding dates_in
waits_dates before (inl p) =
    waits_then (date_in (codes "startdate")) behind_start before (waits_date (codes "startdate") before refl p)
    (λ start bytes. bounded_yields (AtComma (codes "pattstart")) (behind_start start) (comma_then start) bytes)
waits_dates before (inr d) =
    let p = d.parted in
    let middle : List ℕ = p.4.4.4.1 in
    let q = p.4.4.4.4 in
    waits_behind (date_in (codes "startdate")) behind_start d.start before middle
    (λ there. date-there (codes "startdate") before there d.start_text d.start ((44 ∷ []) ∷ codes "pattstart" ∷ (40 ∷ []) ∷ []) refl d.start_is p)
    (waits_then (behind 44 (date_in (codes "pattstart"))) (behind_dates d.start) middle
    (waits_behind (a_sign 44) (λ sign. date_in (codes "pattstart")) tt middle q.1 (λ there. sign-there 44 middle there (codes "pattstart" ∷ (40 ∷ []) ∷ []) refl q) (waits_date (codes "pattstart") q.1 refl q.4))
    (λ patt_start bytes. bounded_yields Nowhere (behind_dates d.start patt_start) (in_bytes plain_front plain_laws Nowhere Any (behind_dates d.start patt_start) (behind_dates_yields d.start patt_start)) bytes))

waits_calendar : (before : List ℕ) → IsBeforeStamp before → Waits (ended [] calendar_in) before
unfolding calendar_in
waits_calendar before at =
    waits_then calendar_in (λ found. the_end [] >>= (λ end. give found)) before
    (waits_then dates_in (λ dates. part_in >>= (λ part. give (calendar_text dates.0 dates.1 part))) before (waits_dates before at)
    (λ dates bytes. bounded_yields Nowhere (part_in >>= (λ part. give (calendar_text dates.0 dates.1 part))) (in_bytes plain_front plain_laws Nowhere Any (part_in >>= (λ part. give (calendar_text dates.0 dates.1 part))) (part_then dates)) bytes))
    bounded_end

-- the token where a stamp stands
data StampFront (bytes : List ℕ) (kind : TokenKind) (size : ℕ) : Type 0 where
  is_close : unblanked bytes ≡ bytes → 0 < length bytes → inside bytes ≡ [] → Sign ≡ kind → 1 ≡ size → StampFront bytes kind size
  is_text : unblanked bytes ≡ bytes → 0 < length bytes → Text ≡ kind → length (inside bytes) ≡ size → StampFront bytes kind size

stamp_token : (bytes : List ℕ) (kind : TokenKind) (size : ℕ) → stamp_front bytes ≡ Some (kind, size) → StampFront bytes kind size
stamp_token [] kind size is = absurd (cc)
stamp_token (b ∷ bytes) kind size is = by_blank (is_blank b) refl is where
  nothing : (b == 41) ≡ true → inside (b ∷ bytes) ≡ []
  nothing close = rw close refl

  shows : is_blank b ≡ false → unblanked (b ∷ bytes) ≡ b ∷ bytes
  shows f = rw f refl

  by_close : is_blank b ≡ false → (close : Bool) → (b == 41) ≡ close → ◌≡◌ {A = Option (TokenKind × ℕ)} (if close then Some (Sign, 1) else Some (Text, length (inside (b ∷ bytes)))) (Some (kind, size)) → StampFront (b ∷ bytes) kind size
  by_close f true e at = let same = token_is Sign kind 1 size at in is_close (shows f) (omega arith) (nothing e) same.0 same.1
  by_close f false e at = let same = token_is Text kind (length (inside (b ∷ bytes))) size at in is_text (shows f) (omega arith) same.0 same.1

  by_blank : (blank : Bool) → is_blank b ≡ blank → ◌≡◌ {A = Option (TokenKind × ℕ)} (if blank then None else (if b == 41 then Some (Sign, 1) else Some (Text, length (inside (b ∷ bytes))))) (Some (kind, size)) → StampFront (b ∷ bytes) kind size
  by_blank true e at = absurd (cc)
  by_blank false e at = by_close e (b == 41) refl at

-- a stamp's text is the front of the bytes
inside_front : (t : List ℕ) → take (length (inside t)) t ≡ inside t
inside_front t =
    let ends = inside-split t in
    ap (take (length (inside t))) ends.2 ∙ take-append_seam (inside t) (ends.0 ++ drop (inside_len t) t)

inside-le : (t : List ℕ) → length (inside t) ≤ length t
inside-le t = let ends = inside-split t in omega (arith, ap length ends.2, length-append (inside t) (ends.0 ++ drop (inside_len t) t))

stamp_within : (bytes : List ℕ) (kind : TokenKind) (size : ℕ) → stamp_front bytes ≡ Some (kind, size) → size ≤ length bytes
stamp_within bytes kind size is = by_token (stamp_token bytes kind size is) where
  by_token : StampFront bytes kind size → size ≤ length bytes
  by_token (is_close shows some none k n) = omega (arith, some, n)
  by_token (is_text shows some k n) = omega (arith, n, inside-le bytes)

-- where the same token stands, the same text does
inside_same : (here there : List ℕ) → Alike stamp_front here there → inside there ≡ inside here
inside_same here there alike = by_tokens (stamp_token here alike.kind alike.size alike.was) (stamp_token there alike.kind alike.size alike.is) where
  by_tokens : StampFront here alike.kind alike.size → StampFront there alike.kind alike.size → inside there ≡ inside here
  by_tokens (is_close s1 p1 none k1 n1) (is_close s2 p2 empty k2 n2) = empty ∙ sym none
  by_tokens (is_close s1 p1 none k1 n1) (is_text s2 p2 k2 n2) = absurd (let kinds : Sign ≡ Text = k1 ∙ sym k2 in cc)
  by_tokens (is_text s1 p1 k1 n1) (is_close s2 p2 empty k2 n2) = absurd (let kinds : Text ≡ Sign = k1 ∙ sym k2 in cc)
  by_tokens (is_text s1 p1 k1 n1) (is_text s2 p2 k2 n2) =
      sym (inside_front there) ∙ ap (λ (n : ℕ). take n there) n2 ∙ alike.same ∙ ap (λ (n : ℕ). take n here) (sym n1) ∙ inside_front here

shows_is : (bytes : List ℕ) (kind : TokenKind) (size : ℕ) → StampFront bytes kind size → (unblanked bytes ≡ bytes) × (0 < length bytes)
shows_is bytes kind size (is_close shows some none k n) = (shows, some)
shows_is bytes kind size (is_text shows some k n) = (shows, some)

-- a stamp that is read takes bytes
stamp_takes : (t : List ℕ) (stamp : ℤ) → read_stamp (inside t) ≡ Some stamp → 0 < length t → length (drop (inside_len t) t) < length t
stamp_takes t stamp is some = by_size (inside_len t) refl where
  by_size : (n : ℕ) → inside_len t ≡ n → length (drop (inside_len t) t) < length t
  by_size zero e =
      let none : inside t ≡ [] = ap (λ (n : ℕ). trimmed (take n t)) e in
      absurd (let plain = stamp-plain (inside t) stamp is in omega (arith, plain.some, ap length none))
  by_size (suc n) e = rw e (omega (arith, length-drop (suc n) t, some))

stamp_there : (blanks here : List ℕ) → are_blanks blanks ≡ true → unblanked here ≡ here → stamp_in (blanks ++ here) ≡ stamp_or_not (read_stamp (inside here)) here
stamp_there blanks here all shows = ap (λ (l : List ℕ). stamp_or_not (read_stamp (inside l)) l) (unblanked_past blanks here all ∙ shows)

-- what is no stamp is refused, whatever comes behind it
stamp_fails : (before here there : List ℕ) → ended [] calendar_in (before ++ here) ≡ Err (length here) → IsBeforeStamp before → Alike stamp_front here there → ended [] calendar_in (before ++ there) ≡ Err (length there)
stamp_fails before here there is at alike = by_value (read_stamp (inside here)) refl where
  way : Waits (ended [] calendar_in) before
  way = waits_calendar before at

  here_is : (unblanked here ≡ here) × (0 < length here)
  here_is = shows_is here alike.kind alike.size (stamp_token here alike.kind alike.size alike.was)

  there_is : (unblanked there ≡ there) × (0 < length there)
  there_is = shows_is there alike.kind alike.size (stamp_token there alike.kind alike.size alike.is)

  by_value : (value : Option ℤ) → read_stamp (inside here) ≡ value → ended [] calendar_in (before ++ there) ≡ Err (length there)
  by_value None e =
      let none : read_stamp (inside there) ≡ None = ap read_stamp (inside_same here there alike) ∙ e in
      way.reads there ∙ ap way.after (stamp_there way.blanks there way.all there_is.0 ∙ ap (λ (o : Option ℤ). stamp_or_not o there) none) ∙ way.refuses (length there)
  by_value (Some stamp) e =
      let rest : List ℕ = drop (inside_len here) here in
      let found : way.after (Ok (stamp, rest)) ≡ Err (length here) =
      sym (way.reads here ∙ ap way.after (stamp_there way.blanks here way.all here_is.0 ∙ ap (λ (o : Option ℤ). stamp_or_not o here) e)) ∙ is in
      absurd (omega (arith, (way.bounds stamp rest).left (length here) found, stamp_takes here stamp e here_is.1))

-- a calendar's text is refused in its place
pub in_its_place : RefusesInPlace calendar_fronts written_calendar
in_its_place = in_places plain_front plain_laws (Carries plain_front) (bytes_taking plain_front) IsBeforeStamp Any [] plain_ending calendar_in calendar_yields stamp_front stamp_within stamp_fails
