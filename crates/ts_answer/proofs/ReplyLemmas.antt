-- Replies and the memory line: what tells them apart.
use Rattle.std.proofs.Common.{◌≡◌, ℕ, ◌+◌, ◌%◌, ℤ, Bool, cond, None, List, [], ◌∷◌, ◌++◌, length, drop, codes, refl, ap, sym, subst, arith}
use Rattle.std.specs.List.{flat_map}
use Rattle.std.specs.Fmt.{digits}
use Rattle.std.proofs.lemmas.Bool.{ne_eqb}
use Rattle.ts_pattern.specs.Patterns.{Plan}
use Rattle.ts_calendar.specs.declared.text.CalendarText.{CalendarText}
use Rattle.ts_base.specs.Moment.{stamp_text}
use Rattle.ts_base.specs.declared.refusal.Refusal.{Refusal}
use Rattle.ts_base.specs.declared.refusal.Refusal.TheVariants as refusals
use Rattle.ts_row.specs.declared.kind.Column.{Column}
use Rattle.ts_row.specs.Row.{Element, Row, row_text}
use Rattle.ts_entry.specs.Entry.{Entry}
use Rattle.ts_replies.specs.Acknowledged.{behind, memory_line}
use Rattle.ts_answer.specs.Reply.{ok_line, count_line, counts_line, number_line, stamp_line, refusal_line, pattern_lines, calendar_lines, stamp_row, stamps_text, element_line, elements_text, row_or_none, entry_line, entries_text, series_line, series_text, scaled_text, folded_line, folded_text, series_folded_line, series_folded_text}

-- neither begins with the other
pub record IsApart (text : List ℕ) : Type 0 where
  pub memory : (x : List ℕ) → behind text (memory_line ++ x) ≡ None
  pub reply : behind memory_line text ≡ None

-- a text that begins with another byte
pub record Begins (text : List ℕ) : Type 0 where
  pub first : ℕ
  pub rest : List ℕ
  pub is : text ≡ first ∷ rest
  pub other : first ≡ 101 → ⊥

apart-first : (b : ℕ) (rest : List ℕ) → (b ≡ 101 → ⊥) → IsApart (b ∷ rest)
apart-first b rest other = record {
  memory = λ x. ap (λ (t : Bool). cond t (behind rest (drop 1 memory_line ++ x)) None) (ne_eqb b 101 other);
  reply = ap (λ (t : Bool). cond t (behind (drop 1 memory_line) rest) None) (ne_eqb 101 b (λ e. other (sym e)));
}

pub apart-begins : (text : List ℕ) → Begins text → IsApart text
apart-begins text b = subst IsApart (sym b.is) (apart-first b.first b.rest b.other)

pub begins-append : (text more : List ℕ) → Begins text → Begins (text ++ more)
begins-append text more b = record { first = b.first; rest = b.rest ++ more; is = ap (λ (l : List ℕ). l ++ more) b.is; other = b.other }

pub ok-begins : Begins ok_line
unfolding ok_line
ok-begins = record { first = 111; rest = _; is = refl; other = λ e. omega (arith, e) }

pub count-begins : (n : ℕ) → Begins (count_line n)
unfolding count_line
count-begins n = record { first = 111; rest = _; is = refl; other = λ e. omega (arith, e) }

pub counts-begins : (n m : ℕ) → Begins (counts_line n m)
unfolding counts_line
counts-begins n m = record { first = 111; rest = _; is = refl; other = λ e. omega (arith, e) }

pub stamp-begins : (stamp : ℤ) → Begins (stamp_line stamp)
unfolding stamp_line
stamp-begins stamp = record { first = 111; rest = _; is = refl; other = λ e. omega (arith, e) }

pub number-begins : (n : ℤ) → Begins (number_line n)
unfolding number_line
number-begins n = record { first = 111; rest = _; is = refl; other = λ e. omega (arith, e) }

pub pattern-begins : (pattern : Plan) → Begins (pattern_lines pattern)
unfolding pattern_lines
pattern-begins pattern = record { first = 123; rest = _; is = refl; other = λ e. omega (arith, e) }

pub calendar-begins : (text : CalendarText) → Begins (calendar_lines text)
unfolding calendar_lines
calendar-begins text = record { first = 115; rest = _; is = refl; other = λ e. omega (arith, e) }

digit-other : (n : ℕ) → 48 + n % 10 ≡ 101 → ⊥
digit-other n e = omega (arith, e)

stamp_text-begins : (stamp : ℤ) → Begins (stamp_text stamp)
unfolding stamp_text
stamp_text-begins stamp = record { first = _; rest = _; is = refl; other = digit-other _ }

element-begins : (columns : List Column) (e : Element) → Begins (element_line columns e)
unfolding element_line
element-begins columns e =
    let stamp = stamp_text e.0 in
    let row = row_text columns e.1 in
    begins-append ((stamp ++ codes " ") ++ row) (codes "\n") (begins-append (stamp ++ codes " ") row (begins-append stamp (codes " ") (stamp_text-begins e.0)))

series-begins : (s : List ℕ × Bool × ℕ) → Begins (series_line s)
unfolding series_line
series-begins s = record { first = 39; rest = _; is = refl; other = λ e. omega (arith, e) }

lines-begin : {A : Type 0} (line : A → List ℕ) → ((a : A) → Begins (line a)) → (all : List A) (last : List ℕ) → Begins last → Begins (flat_map line all ++ last)
lines-begin line begins [] last end = end
lines-begin line begins (a ∷ all) last end = begins-append (line a ++ flat_map line all) last (begins-append (line a) (flat_map line all) (begins a))

stamp_row-begins : (stamp : ℤ) → Begins (stamp_row stamp)
stamp_row-begins stamp = begins-append (stamp_text stamp) (codes "\n") (stamp_text-begins stamp)

pub stamps-begin : (stamps : List ℤ) → Begins (stamps_text stamps)
unfolding stamps_text
stamps-begin stamps = lines-begin stamp_row stamp_row-begins stamps (count_line (length stamps)) (count-begins (length stamps))

pub elements-begin : (columns : List Column) (es : List Element) → Begins (elements_text columns es)
unfolding elements_text
elements-begin columns es = lines-begin (element_line columns) (element-begins columns) es (count_line (length es)) (count-begins (length es))

entry-begins : (columns : List Column) (e : Entry) → Begins (entry_line columns e)
unfolding entry_line
entry-begins columns e =
    let stamp = stamp_text e.0 in
    let row = row_or_none columns e.1 in
    begins-append ((stamp ++ codes " ") ++ row) (codes "\n") (begins-append (stamp ++ codes " ") row (begins-append stamp (codes " ") (stamp_text-begins e.0)))

pub entries-begin : (columns : List Column) (es : List Entry) → Begins (entries_text columns es)
unfolding entries_text
entries-begin columns es = lines-begin (entry_line columns) (entry-begins columns) es (count_line (length es)) (count-begins (length es))

pub series_text-begins : (ss : List (List ℕ × Bool × ℕ)) → Begins (series_text ss)
unfolding series_text
series_text-begins ss = lines-begin series_line series-begins ss (count_line (length ss)) (count-begins (length ss))

folded_line-begins : (scales : List ℕ) (e : Element) → Begins (folded_line scales e)
unfolding folded_line
folded_line-begins scales e =
    let stamp = stamp_text e.0 in
    let values = scaled_text scales e.1.values in
    begins-append ((stamp ++ codes " ") ++ values) (codes "\n") (begins-append (stamp ++ codes " ") values (begins-append stamp (codes " ") (stamp_text-begins e.0)))

pub folded-begin : (scales : List ℕ) (es : List Element) → Begins (folded_text scales es)
unfolding folded_text
folded-begin scales es = lines-begin (folded_line scales) (folded_line-begins scales) es (count_line (length es)) (count-begins (length es))

series_folded_line-begins : (scales : List ℕ) (s : List ℕ × Row) → Begins (series_folded_line scales s)
unfolding series_folded_line
series_folded_line-begins scales s = record { first = 39; rest = _; is = refl; other = λ e. omega (arith, e) }

pub series_folded-begin : (scales : List ℕ) (ss : List (List ℕ × Row)) → Begins (series_folded_text scales ss)
unfolding series_folded_text
series_folded-begin scales ss = lines-begin (series_folded_line scales) (series_folded_line-begins scales) ss (count_line (length ss)) (count-begins (length ss))

pub refusal-apart : (refusal : Refusal) → IsApart (refusal_line refusal)
unfolding refusal_line digits
refusal-apart (refusals.Syntax place) = record { memory = λ x. refl; reply = refl }
refusal-apart refusals.TooLong = record { memory = λ x. refl; reply = refl }
refusal-apart refusals.Unended = record { memory = λ x. refl; reply = refl }
refusal-apart refusals.UnknownName = record { memory = λ x. refl; reply = refl }
refusal-apart refusals.NameTaken = record { memory = λ x. refl; reply = refl }
refusal-apart (refusals.BadRowType column) = record { memory = λ x. refl; reply = refl }
refusal-apart (refusals.BadPattern place) = record { memory = λ x. refl; reply = refl }
refusal-apart (refusals.BadCalendar place) = record { memory = λ x. refl; reply = refl }
refusal-apart refusals.AllOff = record { memory = λ x. refl; reply = refl }
refusal-apart refusals.UnitMismatch = record { memory = λ x. refl; reply = refl }
refusal-apart (refusals.PatternTooLong size runs) = record { memory = λ x. refl; reply = refl }
refusal-apart refusals.NotAligned = record { memory = λ x. refl; reply = refl }
refusal-apart refusals.OffStamp = record { memory = λ x. refl; reply = refl }
refusal-apart refusals.BeforeOrigin = record { memory = λ x. refl; reply = refl }
refusal-apart refusals.PastEnd = record { memory = λ x. refl; reply = refl }
refusal-apart refusals.Duplicate = record { memory = λ x. refl; reply = refl }
refusal-apart refusals.Missing = record { memory = λ x. refl; reply = refl }
refusal-apart refusals.SecondFull = record { memory = λ x. refl; reply = refl }
refusal-apart (refusals.RowMismatch column) = record { memory = λ x. refl; reply = refl }
refusal-apart (refusals.ContainerFull charge quota) = record { memory = λ x. refl; reply = refl }
refusal-apart (refusals.VolumeFull sum pages) = record { memory = λ x. refl; reply = refl }
refusal-apart refusals.InUse = record { memory = λ x. refl; reply = refl }
refusal-apart refusals.TooMany = record { memory = λ x. refl; reply = refl }
refusal-apart (refusals.TooLarge rows) = record { memory = λ x. refl; reply = refl }
refusal-apart refusals.NotRegular = record { memory = λ x. refl; reply = refl }
refusal-apart (refusals.BadExpression place) = record { memory = λ x. refl; reply = refl }
refusal-apart refusals.UnknownColumn = record { memory = λ x. refl; reply = refl }
refusal-apart refusals.Overflow = record { memory = λ x. refl; reply = refl }
refusal-apart refusals.OldFormat = record { memory = λ x. refl; reply = refl }
refusal-apart (refusals.WindowGone newest) = record { memory = λ x. refl; reply = refl }
refusal-apart refusals.NotOpen = record { memory = λ x. refl; reply = refl }
refusal-apart refusals.AlreadyOpen = record { memory = λ x. refl; reply = refl }
refusal-apart refusals.TransactionFull = record { memory = λ x. refl; reply = refl }
refusal-apart (refusals.Conflict commit) = record { memory = λ x. refl; reply = refl }
