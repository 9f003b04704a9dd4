-- A pattern is read exactly from its tokens.
use Rattle.std.proofs.Common.{◌≡◌, ◌<◌, ℕ, inl, inr, Bool, true, false, List, [], ◌∷◌, length, map, refl, sym, ap, ◌∙◌, arith, subst, Some, Ok, Err, ◌&&◌, nat_le, nat_lt}
use Rattle.std.specs.Prelude.{codes}
use Rattle.std.specs.List.{prefix_len, list_all}
use Rattle.std.specs.Char.{is_ascii_digit}
use Rattle.std.specs.Str.{bytes_eq}
use Rattle.std.proofs.lemmas.Bool.{and_parts, cases_Bool}
use Rattle.std.proofs.lemmas.Bool.Decides.{nat_tests}
use Rattle.std.proofs.lemmas.Slice.Eq.{bytes_eq-Decides}
use Rattle.ts_base.specs.Name.{is_word}
use Rattle.ts_base.specs.Moment.{all_digits, number_of}
use Rattle.ts_base.specs.declared.unit.Unit as unit
use Rattle.ts_base.specs.declared.unit.Unit.TheVariants.{Second, Minute, Hour, Day, Week, Month, Year}
use Rattle.ts_text.specs.Parted.{IsParted}
use Rattle.ts_text.specs.Phrase.{Read, go_on, ◌>>=◌, give, a_sign, behind, closed, the_end, ended, outcome, plain_front}
use Rattle.ts_text.specs.declared.token.TokenKind.{TokenKind}
use Rattle.ts_text.specs.declared.token.TokenKind.TheVariants.{Word as TheWord, Number, Text, Sign}
use Rattle.ts_text.proofs.CallerLemmas.{plain_laws, word_stands, digits_stand, bind-ok, pair-parts, parted-token, token-found, token-read, sign-found, sign-read, ends-token, digits-end, StopsWord, stops-word, end-found, end-read, IsListed, listed_found, listed_read}
use Rattle.ts_pattern.specs.declared.run.Run.{Run}
use Rattle.ts_pattern.specs.Patterns.{Plan, run, flag_of_word, unit_among, unit_of_word, unit_name, flag_as, flag_in, unit_as, unit_in, is_count, count_as, count_in, run_in, runs_in, pattern_in, written_plan}
use Rattle.ts_pattern.specs.Spelling.{Word, flag_word, runs_before, pattern_before, run_of, AreRuns, IsPatternText}
use Rattle.ts_pattern.proofs.GrammarLemmas.{run_shrinks}

bytes_eq-is : (a b : List ℕ) → bytes_eq a b ≡ true → a ≡ b
bytes_eq-is a b h = (bytes_eq-Decides a b).0 h

-- what a word names

flag-word : (word : List ℕ) (on : Bool) → flag_of_word word ≡ Some on → word ≡ flag_word on
flag-word word on h = elim (cases_Bool (bytes_eq word (codes "on"))) [
  | inl is_on ↦
      let some = rw is_on at h in
      let value : true ≡ on = cc in
      bytes_eq-is word (codes "on") is_on ∙ ap flag_word value
  | inr not_on ↦ elim (cases_Bool (bytes_eq word (codes "off"))) [
    | inl is_off ↦
        let some = rw (not_on, is_off) at h in
        let value : false ≡ on = cc in
        bytes_eq-is word (codes "off") is_off ∙ ap flag_word value
    | inr neither ↦ absurd (let none = rw (not_on, neither) at h in cc)
  ]
]

unit-word : (units : List unit.Unit) (word : List ℕ) (u : unit.Unit) → unit_among units word ≡ Some u → word ≡ unit_name u
unit-word [] word u h = absurd (cc)
unit-word (v ∷ units) word u h = elim (cases_Bool (bytes_eq word (unit_name v))) [
  | inl same ↦
      let some = rw same at h in
      let value : v ≡ u = cc in
      bytes_eq-is word (unit_name v) same ∙ ap unit_name value
  | inr other ↦ unit-word units word u (rw other at h)
]

flag-names : (on : Bool) → flag_of_word (flag_word on) ≡ Some on
flag-names true = refl
flag-names false = refl

unit-names : (u : unit.Unit) → unit_of_word (unit_name u) ≡ Some u
unit-names Second = refl
unit-names Minute = refl
unit-names Hour = refl
unit-names Day = refl
unit-names Week = refl
unit-names Month = refl
unit-names Year = refl

flag-is_word : (on : Bool) → is_word (flag_word on) ≡ true
flag-is_word true = refl
flag-is_word false = refl

unit-is_word : (u : unit.Unit) → is_word (unit_name u) ≡ true
unit-is_word Second = refl
unit-is_word Minute = refl
unit-is_word Hour = refl
unit-is_word Day = refl
unit-is_word Week = refl
unit-is_word Month = refl
unit-is_word Year = refl

flag_found : (kind : TokenKind) (text : List ℕ) (on : Bool) → flag_as kind text ≡ Some on → text ≡ flag_word on
flag_found TheWord text on h = flag-word text on h
flag_found Number text on h = absurd (cc)
flag_found Text text on h = absurd (cc)
flag_found Sign text on h = absurd (cc)

unit_found : (kind : TokenKind) (text : List ℕ) (u : unit.Unit) → unit_as kind text ≡ Some u → text ≡ unit_name u
unit_found TheWord text u h = unit-word (Second ∷ Minute ∷ Hour ∷ Day ∷ Week ∷ Month ∷ Year ∷ []) text u h
unit_found Number text u h = absurd (cc)
unit_found Text text u h = absurd (cc)
unit_found Sign text u h = absurd (cc)

count_found : (kind : TokenKind) (text : List ℕ) (n : ℕ) → count_as kind text ≡ Some n → (is_count text ≡ true) × (number_of text ≡ n)
count_found TheWord text n h = absurd (cc)
count_found Number text n h = elim (cases_Bool (is_count text)) [
  | inl t ↦ let at : Some (number_of text) ≡ Some n = rw t at h in let same : number_of text ≡ n = cc in (t, same)
  | inr f ↦ absurd (let no = rw f at h in cc)
]
count_found Text text n h = absurd (cc)
count_found Sign text n h = absurd (cc)

-- a run

run-found : (text rest : List ℕ) (r : Run) → run_in text ≡ Ok (r, rest)
    → (w : Word) × (is_count w.digits ≡ true) × (run_of w ≡ r) × ((tokens : List (List ℕ)) → IsParted tokens rest → IsParted (w.digits ∷ flag_word w.on ∷ tokens) text)
unfolding run_in count_in flag_in
run-found text rest r h =
    let first = bind-ok (count_in text) (λ count. flag_in >>= (λ on. give (run on count))) (r, rest) h in
    let second = bind-ok (flag_in first.0.1) (λ on. give (run on first.0.0)) (r, rest) first.2 in
    let made = pair-parts (run second.0.0 first.0.0) r second.0.1 rest second.2 in
    let count = token-found plain_front plain_laws count_as text first.0.1 first.0.0 first.1 in
    let flag = token-found plain_front plain_laws flag_as first.0.1 second.0.1 second.0.0 second.1 in
    let digits = count_found count.kind count.text first.0.0 count.accepted in
    let word = flag_found flag.kind flag.text second.0.0 flag.accepted in
    let w : Word = record { digits = count.text; on = second.0.0 } in (
      w,
      digits.0,
      ap (run second.0.0) digits.1 ∙ made.0,
      λ tokens p. parted-token text count.text first.0.1 (flag_word second.0.0 ∷ tokens) count.whole
          (subst (λ (l : List ℕ). IsParted (l ∷ tokens) first.0.1) word (parted-token first.0.1 flag.text second.0.1 tokens flag.whole (subst (λ (t : List ℕ). IsParted tokens t) (sym made.1) p))),
    )

flag-no_digit : (on : Bool) (tokens : List (List ℕ)) (text : List ℕ) → IsParted (flag_word on ∷ tokens) text → prefix_len is_ascii_digit text ≡ 0
flag-no_digit true tokens text p = ends-token is_ascii_digit 111 (110 ∷ []) text tokens digits-end refl p
flag-no_digit false tokens text p = ends-token is_ascii_digit 111 (102 ∷ 102 ∷ []) text tokens digits-end refl p

run-read : (text : List ℕ) (w : Word) (tokens : List (List ℕ)) → is_count w.digits ≡ true → StopsWord tokens → (p : IsParted (w.digits ∷ flag_word w.on ∷ tokens) text)
    → run_in text ≡ Ok (run_of w, p.4.1)
unfolding run_in count_in flag_in
run-read text w tokens h stops p =
    let parts = and_parts (all_digits w.digits) (nat_le 1 (length w.digits) && nat_le (length w.digits) 9 && nat_lt 0 (number_of w.digits)) h in
    let some : 0 < length w.digits = grind (arith, nat_tests) in
    let accepted : count_as Number w.digits ≡ Some (number_of w.digits) = rw h refl in
    let count = token-read plain_front plain_laws count_as text w.digits (flag_word w.on ∷ tokens) Number (number_of w.digits) p (digits_stand w.digits p.1 parts.0 some (flag-no_digit w.on tokens p.1 p.4)) accepted in
    let flag = token-read plain_front plain_laws flag_as p.1 (flag_word w.on) tokens TheWord w.on p.4 (word_stands (flag_word w.on) p.4.1 (flag-is_word w.on) (stops-word tokens p.4.1 stops p.4.4)) (flag-names w.on) in
    ap (λ (r : Read ℕ). go_on r (λ count. flag_in >>= (λ on. give (run on count)))) count
    ∙ ap (λ (r : Read Bool). go_on r (λ on. give (run on (number_of w.digits)))) flag

-- runs

abbrev counts_of : List Word → Bool
counts_of = list_all (λ (w : Word). is_count w.digits)

-- the tokens of runs behind commas, before further tokens
abbrev behind_commas : List Word → List (List ℕ) → List (List ℕ)
behind_commas [] more = more
behind_commas (w ∷ words) more = (44 ∷ []) ∷ w.digits ∷ flag_word w.on ∷ behind_commas words more

before-is : (w : Word) (words : List Word) (more : List (List ℕ)) → runs_before (w ∷ words) more ≡ w.digits ∷ flag_word w.on ∷ behind_commas words more
before-is w [] more = refl
before-is w (v ∷ words) more = ap (λ (l : List (List ℕ)). w.digits ∷ flag_word w.on ∷ (44 ∷ []) ∷ l) (before-is v words more)

-- runs that were read behind commas, and their tokens
record More (text : List ℕ) (rs : List Run) (rest : List ℕ) : Type 0 where
  words : List Word
  counts : counts_of words ≡ true
  value : map run_of words ≡ rs
  parted : (tokens : List (List ℕ)) → IsParted tokens rest → IsParted (behind_commas words ((125 ∷ []) ∷ tokens)) text

more-found : (rs : List Run) (text rest : List ℕ) → IsListed 125 run_in text rs rest → More text rs rest
more-found [] text rest h = record { words = []; counts = refl; value = refl; parted = λ tokens p. sign-found 125 text rest tokens h p }
more-found (r ∷ rs) text rest h =
    let one = run-found h.0 h.1 r h.3 in
    let others = more-found rs h.1 rest h.4 in
    record {
      words = one.0 ∷ others.words;
      counts = rw one.1 others.counts;
      value = ap (λ (x : Run). x ∷ map run_of others.words) one.2 ∙ ap (λ (l : List Run). r ∷ l) others.value;
      parted = λ tokens p. sign-found 44 text h.0 ((one.0).digits ∷ flag_word (one.0).on ∷ behind_commas others.words ((125 ∷ []) ∷ tokens)) h.2 (one.3 (behind_commas others.words ((125 ∷ []) ∷ tokens)) (others.parted tokens p));
    }

-- runs in braces that were read, and their tokens
record AreFound (text : List ℕ) (rs : List Run) (rest : List ℕ) : Type 0 where
  words : List Word
  written : AreRuns words rs
  parted : (tokens : List (List ℕ)) → IsParted tokens rest → IsParted ((123 ∷ []) ∷ runs_before words ((125 ∷ []) ∷ tokens)) text

runs-found : (text rest : List ℕ) (rs : List Run) → runs_in text ≡ Ok (rs, rest) → AreFound text rs rest
unfolding runs_in
runs-found text rest rs h =
    let first = bind-ok (behind 123 run_in text) (λ first. closed 125 run_in >>= (λ others. give (first ∷ others))) (rs, rest) h in
    let brace = bind-ok (a_sign 123 text) (λ sign. run_in) first.0 first.1 in
    let others = bind-ok (closed 125 run_in first.0.1) (λ others. give (first.0.0 ∷ others)) (rs, rest) first.2 in
    let made = pair-parts (first.0.0 ∷ others.0.0) rs others.0.1 rest others.2 in
    let one = run-found brace.0.1 first.0.1 first.0.0 brace.2 in
    let more = more-found others.0.0 first.0.1 others.0.1 (listed_found 125 run_in first.0.1 others.0.1 others.0.0 others.1) in
    let words : List Word = one.0 ∷ more.words in
    let value : map run_of words ≡ first.0.0 ∷ others.0.0 = ap (λ (x : Run). x ∷ map run_of more.words) one.2 ∙ ap (λ (l : List Run). first.0.0 ∷ l) more.value in
    record {
      words = words;
      written = record { some = omega arith; counts = rw one.1 more.counts; value = value ∙ made.0 };
      parted = λ tokens p. sign-found 123 text brace.0.1 (runs_before words ((125 ∷ []) ∷ tokens)) brace.1
          (subst (λ (l : List (List ℕ)). IsParted l brace.0.1) (sym (before-is one.0 more.words ((125 ∷ []) ∷ tokens)))
          (one.3 (behind_commas more.words ((125 ∷ []) ∷ tokens)) (more.parted tokens (subst (λ (t : List ℕ). IsParted tokens t) (sym made.1) p))));
    }

-- tokens of runs behind commas that are read
record MoreRead (words : List Word) (tokens : List (List ℕ)) (text : List ℕ) : Type 0 where
  rest : List ℕ
  list : IsListed 125 run_in text (map run_of words) rest
  parted : IsParted tokens rest

stops-more : (words : List Word) (tokens : List (List ℕ)) → StopsWord (behind_commas words ((125 ∷ []) ∷ tokens))
stops-more [] tokens = refl
stops-more (w ∷ words) tokens = refl

more-read : (words : List Word) (text : List ℕ) (tokens : List (List ℕ)) → counts_of words ≡ true → IsParted (behind_commas words ((125 ∷ []) ∷ tokens)) text → MoreRead words tokens text
more-read [] text tokens counts p = record { rest = p.1; list = sign-read 125 text tokens refl p; parted = p.4 }
more-read (w ∷ words) text tokens counts p =
    let parts = and_parts (is_count w.digits) (counts_of words) counts in
    let more : List (List ℕ) = behind_commas words ((125 ∷ []) ∷ tokens) in
    let comma = sign-read 44 text (w.digits ∷ flag_word w.on ∷ more) refl p in
    let one = run-read p.1 w more parts.0 (stops-more words tokens) p.4 in
    let others = more-read words p.4.4.1 tokens parts.1 p.4.4.4 in
    record { rest = others.rest; list = (p.1, p.4.4.1, comma, one, others.list); parted = others.parted }

-- tokens of runs in braces that are read
record AreRead (words : List Word) (tokens : List (List ℕ)) (text : List ℕ) : Type 0 where
  rest : List ℕ
  value : runs_in text ≡ Ok (map run_of words, rest)
  parted : IsParted tokens rest

runs-read : (words : List Word) (text : List ℕ) (tokens : List (List ℕ)) → 0 < length words → counts_of words ≡ true → IsParted ((123 ∷ []) ∷ runs_before words ((125 ∷ []) ∷ tokens)) text → AreRead words tokens text
unfolding runs_in
runs-read [] text tokens some counts p = absurd (omega arith)
runs-read (w ∷ words) text tokens some counts p =
    let parts = and_parts (is_count w.digits) (counts_of words) counts in
    let more : List (List ℕ) = behind_commas words ((125 ∷ []) ∷ tokens) in
    let brace = sign-read 123 text (runs_before (w ∷ words) ((125 ∷ []) ∷ tokens)) refl p in
    let q : IsParted (w.digits ∷ flag_word w.on ∷ more) p.1 = subst (λ (l : List (List ℕ)). IsParted l p.1) (before-is w words ((125 ∷ []) ∷ tokens)) p.4 in
    let one = run-read p.1 w more parts.0 (stops-more words tokens) q in
    let others = more-read words q.4.1 tokens parts.1 q.4.4 in
    record {
      rest = others.rest;
      value = ap (λ (r : Read (Unit {0})). go_on (go_on r (λ sign. run_in)) (λ first. closed 125 run_in >>= (λ others. give (first ∷ others)))) brace
          ∙ ap (λ (r : Read Run). go_on r (λ first. closed 125 run_in >>= (λ others. give (first ∷ others)))) one
          ∙ ap (λ (r : Read (List Run)). go_on r (λ others. give (run_of w ∷ others))) (listed_read 125 refl run_in run_shrinks (map run_of words) q.4.1 others.rest others.list);
      parted = others.parted;
    }

-- patterns

-- a pattern that was read, and its tokens
pub record IsFound (text : List ℕ) (p : Plan) (rest : List ℕ) : Type 0 where
  pub words : List Word
  pub written : AreRuns words p.runs
  pub parted : (tokens : List (List ℕ)) → IsParted tokens rest → IsParted (pattern_before words p.unit tokens) text

pub pattern-found : (text rest : List ℕ) (p : Plan) → pattern_in text ≡ Ok (p, rest) → IsFound text p rest
unfolding pattern_in unit_in
pattern-found text rest p h =
    let runs = bind-ok (runs_in text) (λ runs. behind 44 unit_in >>= (λ u. give (record { unit = u; runs = runs }))) (p, rest) h in
    let u = bind-ok (behind 44 unit_in runs.0.1) (λ u. give (record { unit = u; runs = runs.0.0 })) (p, rest) runs.2 in
    let comma = bind-ok (a_sign 44 runs.0.1) (λ sign. unit_in) u.0 u.1 in
    let made = pair-parts (record { unit = u.0.0; runs = runs.0.0 }) p u.0.1 rest u.2 in
    let found_unit = token-found plain_front plain_laws unit_as comma.0.1 u.0.1 u.0.0 comma.2 in
    let word = unit_found found_unit.kind found_unit.text u.0.0 found_unit.accepted in
    let found_runs = runs-found text runs.0.1 runs.0.0 runs.1 in
    subst (λ (q : Plan). IsFound text q rest) made.0 (record {
      words = found_runs.words;
      written = found_runs.written;
      parted = λ tokens t. found_runs.parted ((44 ∷ []) ∷ unit_name u.0.0 ∷ tokens)
          (sign-found 44 runs.0.1 comma.0.1 (unit_name u.0.0 ∷ tokens) comma.1
          (subst (λ (l : List ℕ). IsParted (l ∷ tokens) comma.0.1) word (parted-token comma.0.1 found_unit.text u.0.1 tokens found_unit.whole (subst (λ (x : List ℕ). IsParted tokens x) (sym made.1) t))));
    })

-- tokens of a pattern that are read
pub record IsRead (words : List Word) (u : unit.Unit) (tokens : List (List ℕ)) (text : List ℕ) : Type 0 where
  pub rest : List ℕ
  pub value : pattern_in text ≡ Ok (record { unit = u; runs = map run_of words }, rest)
  pub parted : IsParted tokens rest

pub pattern-read : (words : List Word) (u : unit.Unit) (tokens : List (List ℕ)) (text : List ℕ) → 0 < length words → counts_of words ≡ true → StopsWord tokens
    → IsParted (pattern_before words u tokens) text → IsRead words u tokens text
unfolding pattern_in unit_in
pattern-read words u tokens text some counts stops p =
    let more = (44 ∷ []) ∷ unit_name u ∷ tokens in
    let runs = runs-read words text more some counts p in
    let q = runs.parted in
    let comma = sign-read 44 runs.rest (unit_name u ∷ tokens) refl q in
    let unit_is = token-read plain_front plain_laws unit_as q.1 (unit_name u) tokens TheWord u q.4 (word_stands (unit_name u) q.4.1 (unit-is_word u) (stops-word tokens q.4.1 stops q.4.4)) (unit-names u) in
    record {
      rest = q.4.1;
      value = ap (λ (x : Read (List Run)). go_on x (λ runs. behind 44 unit_in >>= (λ u. give (record { unit = u; runs = runs })))) runs.value
          ∙ ap (λ (x : Read (Unit {0})). go_on (go_on x (λ sign. unit_in)) (λ u. give (record { unit = u; runs = map run_of words }))) comma
          ∙ ap (λ (x : Read unit.Unit). go_on x (λ u. give (record { unit = u; runs = map run_of words }))) unit_is;
      parted = q.4.4;
    }

pub found : (text : List ℕ) (p : Plan) → written_plan text ≡ Ok p → IsPatternText p text
found text p h = by_read (ended [] pattern_in text) refl h where
  by_read : (read : Read Plan) → ended [] pattern_in text ≡ read → outcome (length text) read ≡ Ok p → IsPatternText p text
  by_read (Err left) e is = absurd (cc)
  by_read (Ok x) e is =
      let first = bind-ok (pattern_in text) (λ found. the_end [] >>= (λ end. give found)) x e in
      let end = bind-ok (the_end [] first.0.1) (λ end. give first.0.0) x first.2 in
      let same : x.0 ≡ p = cc in
      let made = pattern-found text first.0.1 first.0.0 first.1 in
      let is_p : first.0.0 ≡ p = (pair-parts first.0.0 x.0 end.0.1 x.1 end.2).0 ∙ same in
      subst (λ (q : Plan). IsPatternText q text) is_p (record {
        words = made.words;
        written = made.written;
        parted = made.parted [] (end-found first.0.1 end.0 end.1);
      })

pub read : (text : List ℕ) (p : Plan) → IsPatternText p text → written_plan text ≡ Ok p
read text p t =
    let r = pattern-read t.words p.unit [] text t.written.some t.written.counts tt t.parted in
    ap (λ (x : Read Plan). outcome (length text) (go_on x (λ found. the_end [] >>= (λ end. give found)))) r.value
    ∙ ap (λ (x : Read (Unit {0})). outcome (length text) (go_on x (λ end. give (record { unit = p.unit; runs = map run_of t.words })))) (end-read r.rest r.parted)
    ∙ ap (λ (rs : List Run). Ok (record { unit = p.unit; runs = rs })) t.written.value
