-- An aggregate list is read exactly from its tokens.
use Rattle.std.proofs.Common.{◌≡◌, ◌≤◌, ℕ, zero, suc, inl, inr, Bool, true, false, List, [], ◌∷◌, length, map, refl, sym, ap, ◌∙◌, arith, subst, Some, Ok, Err, nat_le}
use Rattle.std.proofs.lemmas.Bool.{and_parts, cases_Bool}
use Rattle.std.proofs.lemmas.Slice.Eq.{bytes_eq-Decides}
use Rattle.std.specs.List.{list_all}
use Rattle.std.specs.Str.{bytes_eq}
use Rattle.ts_base.specs.Name.{is_word, is_name, name_if_any}
use Rattle.ts_text.specs.Parted.{IsParted}
use Rattle.ts_text.specs.Phrase.{Read, go_on, ◌>>=◌, give, a_sign, behind, phrases, the_end, ended, outcome, name_as, plain_front}
use Rattle.ts_text.specs.declared.token.TokenKind.{TokenKind}
use Rattle.ts_text.specs.declared.token.TokenKind.TheVariants.{Word, Number, Text, Sign}
use Rattle.ts_text.proofs.CallerLemmas.{plain_laws, word_stands, bind-ok, pair-parts, parted-token, token-found, token-read, sign-found, sign-read, stops-word, end-found, end-read}
use Rattle.ts_expr.specs.declared.function.Function.{Function}
use Rattle.ts_expr.specs.declared.function.Function.TheVariants.{Sum, Avg, Count, Min, Max, First, Last}
use Rattle.ts_expr.specs.declared.item.Item.{Item}
use Rattle.ts_expr.specs.Aggregates.{function_word, names, function_among, function_of_word, function_as, function_in, name_in, column_in, item, item_in, further, list_in, written_list}
use Rattle.ts_expr.specs.Spelling.{Written, item_before, items_before, item_of, IsListText}
use Rattle.ts_expr.proofs.EndLemmas.{end_is, end_no_comma}

bytes_eq-is : (a b : List ℕ) → bytes_eq a b ≡ true → a ≡ b
bytes_eq-is a b h = (bytes_eq-Decides a b).0 h

-- what a word names

names-word : (word : List ℕ) (f : Function) → names word f ≡ true → (upper : Bool) × (word ≡ function_word upper f)
names-word word f h = elim (cases_Bool (bytes_eq word (function_word false f))) [
  | inl t ↦ (false, bytes_eq-is word (function_word false f) t)
  | inr n ↦ (true, bytes_eq-is word (function_word true f) (rw n at h))
]

function-word : (functions : List Function) (word : List ℕ) (f : Function) → function_among functions word ≡ Some f → (upper : Bool) × (word ≡ function_word upper f)
function-word [] word f h = absurd (cc)
function-word (g ∷ functions) word f h = elim (cases_Bool (names word g)) [
  | inl t ↦
      let some = rw t at h in
      let value : g ≡ f = cc in
      let is = names-word word g t in
      (is.0, is.1 ∙ ap (function_word is.0) value)
  | inr n ↦ function-word functions word f (rw n at h)
]

function_found : (kind : TokenKind) (text : List ℕ) (f : Function) → function_as kind text ≡ Some f → (upper : Bool) × (text ≡ function_word upper f)
function_found Word text f h = function-word (Sum ∷ Avg ∷ Count ∷ Min ∷ Max ∷ First ∷ Last ∷ []) text f h
function_found Number text f h = absurd (cc)
function_found Text text f h = absurd (cc)
function_found Sign text f h = absurd (cc)

function-names : (upper : Bool) (f : Function) → function_of_word (function_word upper f) ≡ Some f
function-names true Sum = refl
function-names true Avg = refl
function-names true Count = refl
function-names true Min = refl
function-names true Max = refl
function-names true First = refl
function-names true Last = refl
function-names false Sum = refl
function-names false Avg = refl
function-names false Count = refl
function-names false Min = refl
function-names false Max = refl
function-names false First = refl
function-names false Last = refl

function-is_word : (upper : Bool) (f : Function) → is_word (function_word upper f) ≡ true
function-is_word true Sum = refl
function-is_word true Avg = refl
function-is_word true Count = refl
function-is_word true Min = refl
function-is_word true Max = refl
function-is_word true First = refl
function-is_word true Last = refl
function-is_word false Sum = refl
function-is_word false Avg = refl
function-is_word false Count = refl
function-is_word false Min = refl
function-is_word false Max = refl
function-is_word false First = refl
function-is_word false Last = refl

name-is : (s n : List ℕ) → name_if_any s ≡ Some n → (s ≡ n) × (is_name s ≡ true)
name-is s n h = elim (cases_Bool (is_name s)) [
  | inl yes_ ↦ let there = rw yes_ at h in let same : s ≡ n = cc in (same, yes_)
  | inr no_ ↦ absurd (let none = rw no_ at h in cc)
]

name-some : (n : List ℕ) → is_name n ≡ true → name_if_any n ≡ Some n
name-some n h = rw h refl

name_found : (kind : TokenKind) (text n : List ℕ) → name_as kind text ≡ Some n → (text ≡ n) × (is_name text ≡ true)
name_found Word text n h = name-is text n h
name_found Number text n h = absurd (cc)
name_found Text text n h = absurd (cc)
name_found Sign text n h = absurd (cc)

-- the tokens of a column, before further tokens
abbrev column_before : List ℕ → List (List ℕ) → List (List ℕ)
column_before column more = (40 ∷ []) ∷ (36 ∷ []) ∷ column ∷ (41 ∷ []) ∷ more

column-found : (text rest column : List ℕ) → column_in text ≡ Ok (column, rest)
    → (is_name column ≡ true) × ((tokens : List (List ℕ)) → IsParted tokens rest → IsParted (column_before column tokens) text)
unfolding column_in name_in
column-found text rest column h =
    let inner = bind-ok (behind 40 (behind 36 name_in) text) (λ found. a_sign 41 >>= (λ close. give found)) (column, rest) h in
    let opens = bind-ok (a_sign 40 text) (λ sign. behind 36 name_in) inner.0 inner.1 in
    let dollar = bind-ok (a_sign 36 opens.0.1) (λ sign. name_in) inner.0 opens.2 in
    let close = bind-ok (a_sign 41 inner.0.1) (λ close. give inner.0.0) (column, rest) inner.2 in
    let made = pair-parts inner.0.0 column close.0.1 rest close.2 in
    let name = token-found plain_front plain_laws name_as dollar.0.1 inner.0.1 inner.0.0 dollar.2 in
    let good = name_found name.kind name.text inner.0.0 name.accepted in
    let word : name.text ≡ column = good.0 ∙ made.0 in (
      ap is_name (sym word) ∙ good.1,
      λ tokens p. sign-found 40 text opens.0.1 ((36 ∷ []) ∷ column ∷ (41 ∷ []) ∷ tokens) opens.1
          (sign-found 36 opens.0.1 dollar.0.1 (column ∷ (41 ∷ []) ∷ tokens) dollar.1
          (subst (λ (l : List ℕ). IsParted (l ∷ (41 ∷ []) ∷ tokens) dollar.0.1) word
          (parted-token dollar.0.1 name.text inner.0.1 ((41 ∷ []) ∷ tokens) name.whole
          (sign-found 41 inner.0.1 close.0.1 tokens close.1 (subst (λ (t : List ℕ). IsParted tokens t) (sym made.1) p))))),
    )

-- what is left behind a column, and its tokens
record ColumnRead (column : List ℕ) (tokens : List (List ℕ)) (text : List ℕ) : Type 0 where
  rest : List ℕ
  value : column_in text ≡ Ok (column, rest)
  parted : IsParted tokens rest

column-read : (text column : List ℕ) (tokens : List (List ℕ)) → is_name column ≡ true → IsParted (column_before column tokens) text → ColumnRead column tokens text
unfolding column_in name_in
column-read text column tokens h p =
    let q = p.4 in
    let n = q.4 in
    let e = n.4 in
    let is_a_word : is_word column ≡ true = (and_parts (is_word column) (nat_le (length column) 32) h).0 in
    let opens = sign-read 40 text ((36 ∷ []) ∷ column ∷ (41 ∷ []) ∷ tokens) refl p in
    let dollar = sign-read 36 p.1 (column ∷ (41 ∷ []) ∷ tokens) refl q in
    let name = token-read plain_front plain_laws name_as q.1 column ((41 ∷ []) ∷ tokens) Word column n (word_stands column n.1 is_a_word (stops-word ((41 ∷ []) ∷ tokens) n.1 refl e)) (name-some column h) in
    let close = sign-read 41 n.1 tokens refl e in
    record {
      rest = e.1;
      value = ap (λ (r : Read (Unit {0})). go_on (go_on r (λ sign. behind 36 name_in)) (λ found. a_sign 41 >>= (λ close. give found))) opens
          ∙ ap (λ (r : Read (Unit {0})). go_on (go_on r (λ sign. name_in)) (λ found. a_sign 41 >>= (λ close. give found))) dollar
          ∙ ap (λ (r : Read (List ℕ)). go_on r (λ found. a_sign 41 >>= (λ close. give found))) name
          ∙ ap (λ (r : Read (Unit {0})). go_on r (λ close. give column)) close;
      parted = e.4;
    }

-- an item that was read, and its tokens
record ItemFound (text : List ℕ) (i : Item) (rest : List ℕ) : Type 0 where
  written : Written
  column : is_name written.column ≡ true
  value : item_of written ≡ i
  parted : (tokens : List (List ℕ)) → IsParted tokens rest → IsParted (item_before written tokens) text

item-found : (text rest : List ℕ) (i : Item) → item_in text ≡ Ok (i, rest) → ItemFound text i rest
unfolding item_in function_in
item-found text rest i h =
    let first = bind-ok (function_in text) (λ function. column_in >>= (λ column. give (item function column))) (i, rest) h in
    let second = bind-ok (column_in first.0.1) (λ column. give (item first.0.0 column)) (i, rest) first.2 in
    let made = pair-parts (item first.0.0 second.0.0) i second.0.1 rest second.2 in
    let token = token-found plain_front plain_laws function_as text first.0.1 first.0.0 first.1 in
    let word = function_found token.kind token.text first.0.0 token.accepted in
    let column = column-found first.0.1 second.0.1 second.0.0 second.1 in
    record {
      written = record { upper = word.0; function = first.0.0; column = second.0.0 };
      column = column.0;
      value = made.0;
      parted = λ tokens p.
          subst (λ (l : List ℕ). IsParted (l ∷ column_before second.0.0 tokens) text) word.1
          (parted-token text token.text first.0.1 (column_before second.0.0 tokens) token.whole (column.1 tokens (subst (λ (t : List ℕ). IsParted tokens t) (sym made.1) p)));
    }

-- tokens of an item that are read
record ItemRead (w : Written) (tokens : List (List ℕ)) (text : List ℕ) : Type 0 where
  rest : List ℕ
  value : item_in text ≡ Ok (item_of w, rest)
  parted : IsParted tokens rest

item-read : (text : List ℕ) (w : Written) (tokens : List (List ℕ)) → is_name w.column ≡ true → IsParted (item_before w tokens) text → ItemRead w tokens text
unfolding item_in function_in
item-read text w tokens h p =
    let word = function_word w.upper w.function in
    let function = token-read plain_front plain_laws function_as text word (column_before w.column tokens) Word w.function p (word_stands word p.1 (function-is_word w.upper w.function) (stops-word (column_before w.column tokens) p.1 refl p.4)) (function-names w.upper w.function) in
    let column = column-read p.1 w.column tokens h p.4 in
    record {
      rest = column.rest;
      value = ap (λ (r : Read Function). go_on r (λ function. column_in >>= (λ column. give (item function column)))) function
          ∙ ap (λ (r : Read (List ℕ)). go_on r (λ column. give (item w.function column))) column.value;
      parted = column.parted;
    }

-- items

abbrev columns_of : List Written → Bool
columns_of = list_all (λ (w : Written). is_name w.column)

-- the tokens of items behind commas, before further tokens
abbrev behind_commas : List Written → List (List ℕ) → List (List ℕ)
behind_commas [] more = more
behind_commas (w ∷ written) more = (44 ∷ []) ∷ item_before w (behind_commas written more)

before-is : (w : Written) (written : List Written) (more : List (List ℕ)) → items_before (w ∷ written) more ≡ item_before w (behind_commas written more)
before-is w [] more = refl
before-is w (v ∷ written) more = ap (λ (l : List (List ℕ)). item_before w ((44 ∷ []) ∷ l)) (before-is v written more)

-- items that were read behind commas, and their tokens
record MoreFound (most : ℕ) (text : List ℕ) (items : List Item) (rest : List ℕ) : Type 0 where
  written : List Written
  few : length written ≤ most
  columns : columns_of written ≡ true
  value : map item_of written ≡ items
  parted : (tokens : List (List ℕ)) → IsParted tokens rest → IsParted (behind_commas written tokens) text

none-found : (most : ℕ) (text : List ℕ) (items : List Item) (rest : List ℕ) → ◌≡◌ {A = Read (List Item)} (Ok ([], text)) (Ok (items, rest)) → MoreFound most text items rest
none-found most text items rest is =
    let same = pair-parts {A = List Item} {B = List ℕ} [] items text rest is in
    record {
      written = [];
      few = omega arith;
      columns = refl;
      value = same.0;
      parted = λ tokens p. subst (λ (t : List ℕ). IsParted tokens t) (sym same.1) p;
    }

more-found : (most : ℕ) (text : List ℕ) (items : List Item) (rest : List ℕ) → phrases item_in most text ≡ Ok (items, rest) → MoreFound most text items rest
more-found zero text items rest is = none-found 0 text items rest is
more-found (suc n) text items rest is = by_sign (λ at got list. more-found n at got rest list) (a_sign 44 text) refl where
  by_others : ((at : List ℕ) (got : List Item) → phrases item_in n at ≡ Ok (got, rest) → MoreFound n at got rest) → (comma : Unit {0} × List ℕ) → a_sign 44 text ≡ Ok comma → (x : Item × List ℕ) → item_in comma.1 ≡ Ok x → (others : Read (List Item)) → phrases item_in n x.1 ≡ others →
      go_on others (λ others. give (x.0 ∷ others)) ≡ Ok (items, rest) → MoreFound (suc n) text items rest
  by_others more comma e x one (Err left) two at = absurd (cc)
  by_others more comma e x one (Ok y) two at =
      let same = pair-parts (x.0 ∷ y.0) items y.1 rest at in
      let others = more x.1 y.0 (two ∙ ap (λ (l : List ℕ). Ok (y.0, l)) same.1) in
      let i = item-found comma.1 x.1 x.0 one in
      record {
        written = i.written ∷ others.written;
        few = omega (arith, others.few);
        columns = rw i.column others.columns;
        value = ap (λ (z : Item). z ∷ map item_of others.written) i.value ∙ ap (λ (l : List Item). x.0 ∷ l) others.value ∙ same.0;
        parted = λ tokens p. sign-found 44 text comma.1 (item_before i.written (behind_commas others.written tokens)) e (i.parted (behind_commas others.written tokens) (others.parted tokens p));
      }

  by_first : ((at : List ℕ) (got : List Item) → phrases item_in n at ≡ Ok (got, rest) → MoreFound n at got rest) → (comma : Unit {0} × List ℕ) → a_sign 44 text ≡ Ok comma → (read : Read Item) → item_in comma.1 ≡ read → go_on read (λ first. phrases item_in n >>= (λ others. give (first ∷ others))) ≡ Ok (items, rest) → MoreFound (suc n) text items rest
  by_first more comma e (Err left) one at = absurd (cc)
  by_first more comma e (Ok x) one at = by_others more comma e x one (phrases item_in n x.1) refl at

  by_sign : ((at : List ℕ) (got : List Item) → phrases item_in n at ≡ Ok (got, rest) → MoreFound n at got rest) → (read : Read (Unit {0})) → a_sign 44 text ≡ read → MoreFound (suc n) text items rest
  by_sign more (Err left) e = none-found (suc n) text items rest (rw e at is)
  by_sign more (Ok comma) e = by_first more comma e (item_in comma.1) refl (rw e at is)

-- tokens of items behind commas that are read up to the end
record MoreRead (most : ℕ) (written : List Written) (text : List ℕ) : Type 0 where
  rest : List ℕ
  value : phrases item_in most text ≡ Ok (map item_of written, rest)
  parted : IsParted [] rest

comma-none : (text : List ℕ) → IsParted [] text → a_sign 44 text ≡ Err 0
comma-none text p = end_no_comma text (end_is text (tt, []) (end-read text p))

more-read : (most : ℕ) (written : List Written) (text : List ℕ) → length written ≤ most → columns_of written ≡ true → IsParted (behind_commas written []) text → MoreRead most written text
more-read zero [] text few columns p = record { rest = text; value = refl; parted = p }
more-read (suc n) [] text few columns p = record { rest = text; value = rw (comma-none text p) refl; parted = p }
more-read zero (w ∷ written) text few columns p = absurd (omega (arith, few))
more-read (suc n) (w ∷ written) text few columns p =
    let parts = and_parts (is_name w.column) (columns_of written) columns in
    let comma = sign-read 44 text (item_before w (behind_commas written [])) refl p in
    let one = item-read p.1 w (behind_commas written []) parts.0 p.4 in
    let others = more-read n written one.rest (omega (arith, few)) parts.1 one.parted in
    record { rest = others.rest; value = rw (comma, one.value, others.value) refl; parted = others.parted }

-- a whole text

pub found : (text : List ℕ) (items : List Item) → written_list text ≡ Ok items → IsListText items text
unfolding list_in further
found text items h = by_read (ended [] list_in text) refl h where
  by_read : (read : Read (List Item)) → ended [] list_in text ≡ read → outcome (length text) read ≡ Ok items → IsListText items text
  by_read (Err left) e is = absurd (cc)
  by_read (Ok x) e is =
      let whole = bind-ok (list_in text) (λ found. the_end [] >>= (λ end. give found)) x e in
      let end = bind-ok (the_end [] whole.0.1) (λ end. give whole.0.0) x whole.2 in
      let same : x.0 ≡ items = cc in
      let is_items : whole.0.0 ≡ items = (pair-parts whole.0.0 x.0 end.0.1 x.1 end.2).0 ∙ same in
      let first = bind-ok (item_in text) (λ first. further 31 >>= (λ others. give (first ∷ others))) whole.0 whole.1 in
      let others = bind-ok (further 31 first.0.1) (λ others. give (first.0.0 ∷ others)) whole.0 first.2 in
      let kept = pair-parts (first.0.0 ∷ others.0.0) whole.0.0 others.0.1 whole.0.1 others.2 in
      let one = item-found text first.0.1 first.0.0 first.1 in
      let more = more-found 31 first.0.1 others.0.0 others.0.1 others.1 in
      let blank : IsParted [] others.0.1 = subst (λ (l : List ℕ). IsParted [] l) (sym kept.1) (end-found whole.0.1 end.0 end.1) in
      record {
        written = one.written ∷ more.written;
        some = omega arith;
        few = omega (arith, more.few);
        columns = rw one.column more.columns;
        value = ap (λ (z : Item). z ∷ map item_of more.written) one.value ∙ ap (λ (l : List Item). first.0.0 ∷ l) more.value ∙ kept.0 ∙ is_items;
        parted = subst (λ (l : List (List ℕ)). IsParted l text) (sym (before-is one.written more.written [])) (one.parted (behind_commas more.written []) (more.parted [] blank));
      }

pub read : (text : List ℕ) (items : List Item) → IsListText items text → written_list text ≡ Ok items
unfolding list_in further
read text items t = by_written t.written t.some t.few t.columns t.parted ∙ ap (λ (l : List Item). Ok l) t.value where
  by_written : (written : List Written) → 1 ≤ length written → length written ≤ 32 → columns_of written ≡ true → IsParted (items_before written []) text → written_list text ≡ Ok (map item_of written)
  by_written [] some few columns p = absurd (omega (arith, some))
  by_written (w ∷ written) some few columns p =
      let parts = and_parts (is_name w.column) (columns_of written) columns in
      let one = item-read text w (behind_commas written []) parts.0 (subst (λ (l : List (List ℕ)). IsParted l text) (before-is w written []) p) in
      let others = more-read 31 written one.rest (omega (arith, few)) parts.1 one.parted in
      ap (λ (r : Read Item). outcome (length text) (go_on (go_on r (λ first. further 31 >>= (λ others. give (first ∷ others)))) (λ found. the_end [] >>= (λ end. give found)))) one.value
      ∙ ap (λ (r : Read (List Item)). outcome (length text) (go_on (go_on r (λ others. give (item_of w ∷ others))) (λ found. the_end [] >>= (λ end. give found)))) others.value
      ∙ ap (λ (r : Read (Unit {0})). outcome (length text) (go_on r (λ end. give (item_of w ∷ map item_of written)))) (end-read others.rest others.parted)
