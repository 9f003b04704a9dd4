-- Bytes of a statement, and what comes before one.
use Rattle.std.proofs.Common.{◌≡◌, ℕ, ◌+◌, ◌-◌, ◌<◌, ◌≤◌, ◌==◌, ◌&&◌, true, false, not, cond, List, [], ◌∷◌, ◌++◌, length, take, Option, Some, None, refl, sym, ◌∙◌, ap, subst, arith, append_assoc, length-append, inl, inr, get_or}
use Rattle.std.specs.List.{flat_map}
use Rattle.std.proofs.lemmas.Bool.{and_parts, cases_Bool}
use Rattle.std.proofs.lemmas.List.{append-nil, take_more, take-take}
use Rattle.std.proofs.lemmas.List.Folds.{list_all-append}
use Rattle.ts_base.specs.Name.{is_blank}
use Rattle.ts_text.specs.Phrase.{unblanked}
use Rattle.ts_items.specs.Items.{Item, Statement, TooLong, Unended, after, items_from, place_from, all_blank, is_unended_at, quotes_match}
use Rattle.ts_items.specs.Reader.{item_of, items_of}
use Rattle.ts_items.specs.declared.reader.Cut.{Cut}
use Rattle.ts_items.specs.declared.reader.Cut.TheVariants as cuts
use Rattle.ts_items.proofs.ItemLemmas.{all_blank-push}
use Rattle.ts_items.proofs.ItemLaws.{items_from-append, place_from-append}
use Rattle.ts_command.specs.Grammar.{request_of}
use Rattle.ts_syntax.specs.Mistakes.{Mistake, mistakes_of, mistakes_from, mistakes_at_end, text_at}
use Rattle.ts_syntax.specs.Places.{IsBehind}
use Rattle.ts_syntax.specs.Reading.{Stands, HasRead, Reads, shows_at}
use Rattle.ts_syntax.specs.declared.checker.Checker.{Checker}
use Rattle.ts_syntax.proofs.MistakeLemmas.{mistakes_from-append, no_mistakes}

-- blanks alone, and bytes behind
pub unblanked_blank : (text rest : List ℕ) → all_blank text ≡ true → unblanked (text ++ rest) ≡ unblanked rest
unblanked_blank [] rest blank = refl
unblanked_blank (b ∷ text) rest blank = elim (cases_Bool (is_blank b)) [
  | inl t ↦ rw t (unblanked_blank text rest (rw t at blank))
  | inr f ↦ absurd (let no = rw f at blank in cc)
]

-- text, and bytes behind
pub unblanked_shown : (text rest : List ℕ) → all_blank text ≡ false → unblanked (text ++ rest) ≡ unblanked text ++ rest
unblanked_shown [] rest shows = absurd (cc)
unblanked_shown (b ∷ text) rest shows = elim (cases_Bool (is_blank b)) [
  | inl t ↦ rw t (unblanked_shown text rest (rw t at shows))
  | inr f ↦ rw f refl
]

pub blank_none : (text : List ℕ) → all_blank text ≡ true → unblanked text ≡ []
blank_none text blank = ap unblanked (sym (append-nil text)) ∙ unblanked_blank text [] blank

pub none_blank : (text : List ℕ) → unblanked text ≡ [] → all_blank text ≡ true
none_blank [] none = refl
none_blank (b ∷ text) none = elim (cases_Bool (is_blank b)) [
  | inl t ↦ rw t (none_blank text (rw t at none))
  | inr f ↦ absurd (let no = rw f at none in cc)
]

blank_front : (text : List ℕ) (b : ℕ) → all_blank (text ++ b ∷ []) ≡ true → all_blank text ≡ true
blank_front text b blank = (and_parts (all_blank text) (is_blank b) (sym (all_blank-push text b) ∙ blank)).0

pub shows_on : (text rest : List ℕ) → all_blank text ≡ false → all_blank (text ++ rest) ≡ false
shows_on text rest shows = list_all-append is_blank text rest ∙ rw shows refl

-- what a byte behind the text of a statement does
pub data Outcome (text : List ℕ) (b : ℕ) : Type 0 where
  GoesOn : after (Some text) b ≡ ([], Some (text ++ b ∷ [])) → Outcome text b
  Ends : after (Some text) b ≡ (Statement (text ++ b ∷ []) ∷ [], Some []) → all_blank text ≡ false → Outcome text b
  Overflows : after (Some text) b ≡ (TooLong ∷ [], None) → all_blank (text ++ b ∷ []) ≡ false → Outcome text b
  Restarts : after (Some text) b ≡ ([], Some []) → all_blank text ≡ true → Outcome text b

pub outcome_of : (text : List ℕ) (b : ℕ) → Outcome text b
unfolding after
outcome_of text b = elim (cases_Bool (b == 59 && quotes_match text)) [
  | inl e ↦ elim (cases_Bool (all_blank text)) [
    | inl k ↦ Restarts (rw (e, k) refl) k
    | inr k ↦ Ends (rw (e, k) refl) k
  ]
  | inr e ↦ elim (cases_Bool (length (text ++ b ∷ []) == 65536)) [
    | inl l ↦ elim (cases_Bool (all_blank (text ++ b ∷ []))) [
      | inl k ↦ Restarts (rw (e, l, k) refl) (blank_front text b k)
      | inr k ↦ Overflows (rw (e, l, k) refl) k
    ]
    | inr l ↦ GoesOn (rw (e, l) refl)
  ]
]

nothing_of : (xs ys : List Item) → xs ++ ys ≡ [] → (xs ≡ []) × (ys ≡ [])
nothing_of [] ys none = (refl, none)
nothing_of (x ∷ xs) ys none = absurd (cc)

-- a statement that isn't blank goes on by bytes that end no item
pub text_goes : (text bytes : List ℕ) → all_blank text ≡ false → items_from (Some text) bytes ≡ [] → place_from (Some text) bytes ≡ Some (text ++ bytes)
text_goes text [] shows none = ap Some (sym (append-nil text))
text_goes text (b ∷ bytes) shows none = go (outcome_of text b) (nothing_of (after (Some text) b).0 (items_from (after (Some text) b).1 bytes) none) (text_goes (text ++ b ∷ []) bytes (shows_on text (b ∷ []) shows)) where
  go : Outcome text b → ((after (Some text) b).0 ≡ []) × (items_from (after (Some text) b).1 bytes ≡ []) → (items_from (Some (text ++ b ∷ [])) bytes ≡ [] → place_from (Some (text ++ b ∷ [])) bytes ≡ Some ((text ++ b ∷ []) ++ bytes))
      → place_from (after (Some text) b).1 bytes ≡ Some (text ++ b ∷ bytes)
  go (GoesOn e) parts later =
      ap (λ (x : List Item × Option (List ℕ)). place_from x.1 bytes) e
      ∙ later (sym (ap (λ (x : List Item × Option (List ℕ)). items_from x.1 bytes) e) ∙ parts.1)
      ∙ ap Some (append_assoc text (b ∷ []) bytes)
  go (Ends e k) parts later = absurd (let no : Statement (text ++ b ∷ []) ∷ [] ≡ [] = sym (ap (λ (x : List Item × Option (List ℕ)). x.0) e) ∙ parts.0 in cc)
  go (Overflows e k) parts later = absurd (let no : TooLong ∷ [] ≡ [] = sym (ap (λ (x : List Item × Option (List ℕ)). x.0) e) ∙ parts.0 in cc)
  go (Restarts e k) parts later = absurd (let no : true ≡ false = sym k ∙ shows in cc)

-- the byte that ends an item
pub record Last (place : Option (List ℕ)) (b : ℕ) (cut : Cut) : Type 0 where
  pub text : List ℕ
  pub at : place ≡ Some text
  pub item : (after place b).0 ≡ item_of cut (text ++ b ∷ []) ∷ []
  pub next : text_at (after place b).1 ≡ []
  pub shows : all_blank (text ++ b ∷ []) ≡ false

nothing_past : (b : ℕ) → (after None b).0 ≡ []
unfolding after
nothing_past b = refl

pub last_byte : (place : Option (List ℕ)) (b : ℕ) (cut : Cut) (x : List ℕ) → (cut ≡ cuts.Unended → ⊥) → (after place b).0 ≡ item_of cut x ∷ [] → Last place b cut
last_byte None b cut x other is = absurd (let no : [] ≡ item_of cut x ∷ [] = sym (nothing_past b) ∙ is in cc)
last_byte (Some text) b cut x other is = go (outcome_of text b) cut other is where
  go : Outcome text b → (cut : Cut) → (cut ≡ cuts.Unended → ⊥) → (after (Some text) b).0 ≡ item_of cut x ∷ [] → Last (Some text) b cut
  go (GoesOn e) cut other is = absurd (let no : [] ≡ item_of cut x ∷ [] = sym (ap (λ (y : List Item × Option (List ℕ)). y.0) e) ∙ is in cc)
  go (Restarts e k) cut other is = absurd (let no : [] ≡ item_of cut x ∷ [] = sym (ap (λ (y : List Item × Option (List ℕ)). y.0) e) ∙ is in cc)
  go (Ends e k) cuts.Statement other is = record {
    text = text;
    at = refl;
    item = ap (λ (y : List Item × Option (List ℕ)). y.0) e;
    next = ap (λ (y : List Item × Option (List ℕ)). text_at y.1) e;
    shows = shows_on text (b ∷ []) k;
  }
  go (Ends e k) cuts.TooLong other is = absurd (let no : Statement (text ++ b ∷ []) ∷ [] ≡ TooLong ∷ [] = sym (ap (λ (y : List Item × Option (List ℕ)). y.0) e) ∙ is in cc)
  go (Ends e k) cuts.Unended other is = absurd (other refl)
  go (Overflows e k) cuts.TooLong other is = record {
    text = text;
    at = refl;
    item = ap (λ (y : List Item × Option (List ℕ)). y.0) e;
    next = ap (λ (y : List Item × Option (List ℕ)). text_at y.1) e;
    shows = k;
  }
  go (Overflows e k) cuts.Statement other is = absurd (let no : TooLong ∷ [] ≡ Statement x ∷ [] = sym (ap (λ (y : List Item × Option (List ℕ)). y.0) e) ∙ is in cc)
  go (Overflows e k) cuts.Unended other is = absurd (other refl)

-- What a feed tells of the bytes that it took: none ends an item but the last.
pub record Feeds (place next : Option (List ℕ)) (bytes : List ℕ) (cut : Option Cut) : Type 0 where
  pub init : List ℕ
  pub b : ℕ
  pub whole : bytes ≡ init ++ b ∷ []
  pub none : items_from place init ≡ []
  pub shown : List ℕ
  pub items : items_from place bytes ≡ items_of cut shown
  pub behind : next ≡ place_from place bytes
  pub known : cut ≡ Some cuts.Unended → ⊥

pub feeds_of : (place next : Option (List ℕ)) (bytes : List ℕ) (n : ℕ) (cut : Option Cut) (x : List ℕ) → 0 < n → n ≤ length bytes → items_from place (take n bytes) ≡ items_of cut x → place_from place (take n bytes) ≡ next
    → ((k : ℕ) → k < n → items_from place (take k bytes) ≡ []) → (cut ≡ Some cuts.Unended → ⊥) → Feeds place next (take n bytes) cut
feeds_of place next bytes n cut x some within items behind first known =
    let size : (n - 1) + 1 ≡ n = omega arith in record {
      init = take (n - 1) bytes;
      b = get_or bytes (n - 1) 0;
      whole = ap (λ (m : ℕ). take m bytes) (sym size) ∙ take_more bytes (n - 1) 0 (omega arith);
      none = first (n - 1) (omega arith);
      shown = x;
      items = items;
      behind = sym behind;
      known = known;
    }

-- the mistakes of an item are those of its last byte
end_mistakes : (front init : List ℕ) (place : Option (List ℕ)) (b : ℕ) (item : Item) → items_from place init ≡ [] → (after (place_from place init) b).0 ≡ item ∷ []
    → mistakes_from front place (init ++ b ∷ []) ≡ mistakes_of (front ++ (init ++ b ∷ [])) (text_at (place_from place init) ++ b ∷ []) (request_of item)
end_mistakes front init place b item none one =
    let last = place_from place init in
    let of_item = λ (l : List ℕ) (i : Item). mistakes_of l (text_at last ++ b ∷ []) (request_of i) in
    mistakes_from-append front place init (b ∷ [])
    ∙ ap (λ (l : List Mistake). l ++ mistakes_from (front ++ init) last (b ∷ [])) (no_mistakes front place init none)
    ∙ append-nil (flat_map (of_item ((front ++ init) ++ b ∷ [])) (after last b).0)
    ∙ ap (flat_map (of_item ((front ++ init) ++ b ∷ []))) one
    ∙ append-nil (of_item ((front ++ init) ++ b ∷ []) item)
    ∙ ap (λ (l : List ℕ). of_item l item) (append_assoc front init (b ∷ []))

-- the items of the last byte alone
last_items : (place : Option (List ℕ)) (init : List ℕ) (b : ℕ) (items : List Item) → items_from place init ≡ [] → items_from place (init ++ b ∷ []) ≡ items → (after (place_from place init) b).0 ≡ items
last_items place init b items none is =
    sym (append-nil (after (place_from place init) b).0) ∙ sym (ap (λ (l : List Item). l ++ items_from (place_from place init) (b ∷ [])) none) ∙ sym (items_from-append place init (b ∷ [])) ∙ is

-- What a checker holds behind bytes of a statement that it keeps.
stands_on : (front text bytes : List ℕ) (e f : Checker) → Stands front text e → f.text ≡ e.text ++ bytes → unblanked (text ++ bytes) ≡ unblanked text ++ bytes → f.begin ≡ e.begin → IsBehind (front ++ bytes) f.end → Stands (front ++ bytes) (text ++ bytes) f
stands_on front text bytes e f stands kept shows begin end = record {
  kept = kept ∙ ap (λ (l : List ℕ). l ++ bytes) stands.kept ∙ sym shows;
  start = stands.start;
  whole = ap (λ (l : List ℕ). l ++ bytes) stands.whole ∙ append_assoc stands.start e.text bytes ∙ ap (λ (l : List ℕ). stands.start ++ l) (sym kept);
  begin = subst (IsBehind stands.start) (sym begin) stands.begin;
  end = end;
}

place_on : (front bytes : List ℕ) (e f : Checker) → e.reader.place ≡ place_from (Some []) front → f.reader.place ≡ place_from e.reader.place bytes → f.reader.place ≡ place_from (Some []) (front ++ bytes)
place_on front bytes e f at next = next ∙ ap (λ (p : Option (List ℕ)). place_from p bytes) at ∙ sym (place_from-append (Some []) front bytes)

-- An item ends. Before its last byte the statement went on.
item_reads : (front bytes : List ℕ) (cut : Cut) (e f : Checker) (has : HasRead front e) (feeds : Feeds e.reader.place f.reader.place bytes (Some cut)) → text_at (place_from e.reader.place feeds.init) ≡ text_at e.reader.place ++ feeds.init
    → ((place : Option (List ℕ)) → place ≡ place_from e.reader.place feeds.init → Last place feeds.b cut → unblanked (text_at e.reader.place ++ bytes) ≡ unblanked (text_at e.reader.place) ++ bytes)
    → f.text ≡ e.text ++ bytes → f.begin ≡ e.begin → IsBehind (front ++ bytes) f.end → Reads front bytes (Some cut) e f
item_reads front bytes cut e f has feeds goes shows kept begin end =
    let place = e.reader.place in
    let before = place_from place feeds.init in
    let one = last_items place feeds.init feeds.b (item_of cut feeds.shown ∷ []) feeds.none (ap (items_from place) (sym feeds.whole) ∙ feeds.items) in
    let last = last_byte before feeds.b cut feeds.shown (λ is. feeds.known (ap Some is)) one in
    let text : last.text ≡ text_at place ++ feeds.init = sym (ap text_at last.at) ∙ goes in
    let whole : last.text ++ feeds.b ∷ [] ≡ text_at place ++ bytes = ap (λ (l : List ℕ). l ++ feeds.b ∷ []) text ∙ append_assoc (text_at place) feeds.init (feeds.b ∷ []) ∙ ap (λ (l : List ℕ). text_at place ++ l) (sym feeds.whole) in
    let next : place_from place bytes ≡ (after before feeds.b).1 = ap (place_from place) feeds.whole ∙ place_from-append place feeds.init (feeds.b ∷ []) in (
      stands_on front (text_at place) bytes e f has.stands kept (shows before refl last) begin end,
      place_on front bytes e f has.place feeds.behind,
      ap text_at (feeds.behind ∙ next) ∙ last.next,
      ap (mistakes_from front place) feeds.whole ∙ end_mistakes front feeds.init place feeds.b (item_of cut (last.text ++ feeds.b ∷ [])) feeds.none last.item
          ∙ ap (λ (l : List ℕ). mistakes_of (front ++ l) (text_at before ++ feeds.b ∷ []) (request_of (item_of cut (last.text ++ feeds.b ∷ [])))) (sym feeds.whole)
          ∙ ap (λ (l : List ℕ). mistakes_of (front ++ bytes) (l ++ feeds.b ∷ []) (request_of (item_of cut (last.text ++ feeds.b ∷ [])))) (ap text_at last.at)
          ∙ ap (λ (l : List ℕ). mistakes_of (front ++ bytes) l (request_of (item_of cut l))) whole,
    )

some_text : (place : Option (List ℕ)) (kept : List ℕ) → kept ≡ unblanked (text_at place) → 0 < length kept → (text : List ℕ) × (place ≡ Some text) × (all_blank text ≡ false)
some_text None kept is some = absurd (let none : length kept ≡ 0 = ap length is in omega (arith, none, some))
some_text (Some text) kept is some = (
  text,
  refl,
  elim (cases_Bool (all_blank text)) [
    | inl t ↦ absurd (let none : length kept ≡ 0 = ap length (is ∙ blank_none text t) in omega (arith, none, some))
    | inr f ↦ f
  ],
)

shown_at : (place : Option (List ℕ)) (text bytes : List ℕ) → place ≡ Some text → all_blank text ≡ false → unblanked (text_at place ++ bytes) ≡ unblanked (text_at place) ++ bytes
shown_at place text bytes is shows = ap (λ (p : Option (List ℕ)). unblanked (text_at p ++ bytes)) is ∙ unblanked_shown text bytes shows ∙ sym (ap (λ (p : Option (List ℕ)). unblanked (text_at p) ++ bytes) is)

-- bytes of a statement that isn't blank
pub body_reads : (front bytes : List ℕ) (cut : Option Cut) (e f : Checker) → HasRead front e → 0 < length e.text → Feeds e.reader.place f.reader.place bytes cut → f.text ≡ e.text ++ bytes → f.begin ≡ e.begin → IsBehind (front ++ bytes) f.end → Reads front bytes cut e f
body_reads front bytes None e f has some feeds kept begin end =
    let found = some_text e.reader.place e.text has.stands.kept some in
    let place = e.reader.place in
    let goes : place_from place bytes ≡ Some (found.0 ++ bytes) = ap (λ (p : Option (List ℕ)). place_from p bytes) found.1 ∙ text_goes found.0 bytes found.2 (sym (ap (λ (p : Option (List ℕ)). items_from p bytes) found.1) ∙ feeds.items) in
    let same : text_at f.reader.place ≡ text_at place ++ bytes = ap text_at (feeds.behind ∙ goes) ∙ sym (ap (λ (p : Option (List ℕ)). text_at p ++ bytes) found.1) in
    let shows : unblanked (text_at place ++ bytes) ≡ unblanked (text_at place) ++ bytes = shown_at place found.0 bytes found.1 found.2 in (
      record {
        place = place_on front bytes e f has.place feeds.behind;
        stands = subst (λ (l : List ℕ). Stands (front ++ bytes) l f) (sym same) (stands_on front (text_at place) bytes e f has.stands kept shows begin end);
      },
      no_mistakes front place bytes feeds.items,
    )
body_reads front bytes (Some cut) e f has some feeds kept begin end =
    let found = some_text e.reader.place e.text has.stands.kept some in
    let place = e.reader.place in
    let goes : place_from place feeds.init ≡ Some (found.0 ++ feeds.init) = ap (λ (p : Option (List ℕ)). place_from p feeds.init) found.1 ∙ text_goes found.0 feeds.init found.2 (sym (ap (λ (p : Option (List ℕ)). items_from p feeds.init) found.1) ∙ feeds.none) in
    item_reads front bytes cut e f has feeds (ap text_at goes ∙ sym (ap (λ (p : Option (List ℕ)). text_at p ++ feeds.init) found.1)) (λ p is last. shown_at place found.0 bytes found.1 found.2) kept begin end

-- the first byte of a statement
shown_byte : (text : List ℕ) (b : ℕ) → all_blank text ≡ true → all_blank (text ++ b ∷ []) ≡ false → unblanked (text ++ b ∷ []) ≡ unblanked text ++ b ∷ []
shown_byte text b blank shows =
    let both : (all_blank text && is_blank b) ≡ false = sym (all_blank-push text b) ∙ shows in
    let other : is_blank b ≡ false = rw blank at both in
    unblanked_blank text (b ∷ []) blank ∙ rw other refl ∙ sym (ap (λ (l : List ℕ). l ++ b ∷ []) (blank_none text blank))

unended_past : (b : ℕ) → is_unended_at (after None b).1 ≡ false
unfolding after
unended_past b = elim (cases_Bool (b == 59)) [
  | inl t ↦ rw t refl
  | inr f ↦ rw f refl
]

-- a byte behind which a statement isn't blank any more, and no item ended
begins_here : (place : Option (List ℕ)) (b : ℕ) → unblanked (text_at place) ≡ [] → (after place b).0 ≡ [] → is_unended_at (after place b).1 ≡ true
    → (text_at (after place b).1 ≡ text_at place ++ b ∷ []) × (unblanked (text_at place ++ b ∷ []) ≡ unblanked (text_at place) ++ b ∷ [])
begins_here None b blank none shows = absurd (let no : true ≡ false = sym shows ∙ unended_past b in cc)
begins_here (Some text) b blank none shows = go (outcome_of text b) where
  go : Outcome text b → (text_at (after (Some text) b).1 ≡ text ++ b ∷ []) × (unblanked (text ++ b ∷ []) ≡ unblanked text ++ b ∷ [])
  go (GoesOn e) =
      let seen : not (all_blank (text ++ b ∷ [])) ≡ true = sym (ap (λ (x : List Item × Option (List ℕ)). is_unended_at x.1) e) ∙ shows in
      let other : all_blank (text ++ b ∷ []) ≡ false = elim (cases_Bool (all_blank (text ++ b ∷ []))) [
        | inl t ↦ absurd (let no = rw t at seen in cc)
        | inr f ↦ f
      ] in
      (ap (λ (x : List Item × Option (List ℕ)). text_at x.1) e, shown_byte text b (none_blank text blank) other)
  go (Ends e k) = absurd (let no : Statement (text ++ b ∷ []) ∷ [] ≡ [] = sym (ap (λ (x : List Item × Option (List ℕ)). x.0) e) ∙ none in cc)
  go (Overflows e k) = absurd (let no : TooLong ∷ [] ≡ [] = sym (ap (λ (x : List Item × Option (List ℕ)). x.0) e) ∙ none in cc)
  go (Restarts e k) = absurd (let no : false ≡ true = sym (ap (λ (x : List Item × Option (List ℕ)). is_unended_at x.1) e) ∙ shows in cc)

blank_text : (place : Option (List ℕ)) (text : List ℕ) → unblanked (text_at place) ≡ [] → place ≡ Some text → all_blank text ≡ true
blank_text place text blank is = none_blank text (sym (ap (λ (p : Option (List ℕ)). unblanked (text_at p)) is) ∙ blank)

shown_last : (place : Option (List ℕ)) (b : ℕ) (cut : Cut) → unblanked (text_at place) ≡ [] → Last place b cut → unblanked (text_at place ++ b ∷ []) ≡ unblanked (text_at place) ++ b ∷ []
shown_last place b cut blank last =
    ap (λ (p : Option (List ℕ)). unblanked (text_at p ++ b ∷ [])) last.at ∙ shown_byte last.text b (blank_text place last.text blank last.at) last.shows ∙ sym (ap (λ (p : Option (List ℕ)). unblanked (text_at p) ++ b ∷ []) last.at)

-- one byte, with which a statement begins
pub lead_reads : (front bytes : List ℕ) (cut : Option Cut) (e f : Checker) → HasRead front e → e.text ≡ [] → (feeds : Feeds e.reader.place f.reader.place bytes cut) → feeds.init ≡ [] → shows_at cut f.reader.place ≡ true
    → f.text ≡ e.text ++ bytes → f.begin ≡ e.begin → IsBehind (front ++ bytes) f.end → Reads front bytes cut e f
lead_reads front bytes None e f has empty feeds one shown kept begin end =
    let place = e.reader.place in
    let byte : bytes ≡ feeds.b ∷ [] = feeds.whole ∙ ap (λ (l : List ℕ). l ++ feeds.b ∷ []) one in
    let next : f.reader.place ≡ (after place feeds.b).1 = feeds.behind ∙ ap (place_from place) byte in
    let none : (after place feeds.b).0 ≡ [] = sym (append-nil (after place feeds.b).0) ∙ sym (ap (items_from place) byte) ∙ feeds.items in
    let here = begins_here place feeds.b (sym has.stands.kept ∙ empty) none (sym (ap is_unended_at next) ∙ shown) in
    let shows : unblanked (text_at place ++ bytes) ≡ unblanked (text_at place) ++ bytes = ap (λ (l : List ℕ). unblanked (text_at place ++ l)) byte ∙ here.1 ∙ sym (ap (λ (l : List ℕ). unblanked (text_at place) ++ l) byte) in
    let same : text_at f.reader.place ≡ text_at place ++ bytes = ap text_at next ∙ here.0 ∙ sym (ap (λ (l : List ℕ). text_at place ++ l) byte) in (
      record {
        place = place_on front bytes e f has.place feeds.behind;
        stands = subst (λ (l : List ℕ). Stands (front ++ bytes) l f) (sym same) (stands_on front (text_at place) bytes e f has.stands kept shows begin end);
      },
      no_mistakes front place bytes feeds.items,
    )
lead_reads front bytes (Some cut) e f has empty feeds one shown kept begin end =
    let place = e.reader.place in
    let byte : bytes ≡ feeds.b ∷ [] = feeds.whole ∙ ap (λ (l : List ℕ). l ++ feeds.b ∷ []) one in
    let goes : text_at (place_from place feeds.init) ≡ text_at place ++ feeds.init = ap (λ (l : List ℕ). text_at (place_from place l)) one ∙ sym (append-nil (text_at place)) ∙ sym (ap (λ (l : List ℕ). text_at place ++ l) one) in
    item_reads front bytes cut e f has feeds goes
    (λ p is last.
    let same : p ≡ place = is ∙ ap (place_from place) one in
    let here : Last place feeds.b cut = subst (λ (q : Option (List ℕ)). Last q feeds.b cut) same last in
    ap (λ (l : List ℕ). unblanked (text_at place ++ l)) byte ∙ shown_last place feeds.b cut (sym has.stands.kept ∙ empty) here ∙ sym (ap (λ (l : List ℕ). unblanked (text_at place) ++ l) byte))
    kept begin end

blank_at : (place : Option (List ℕ)) → is_unended_at place ≡ false → unblanked (text_at place) ≡ []
blank_at None ended = refl
blank_at (Some text) ended = blank_none text (elim (cases_Bool (all_blank text)) [
  | inl t ↦ t
  | inr f ↦ absurd (let no = rw f at ended in cc)
])

-- one byte of what comes before a statement
pub blank_reads : (front bytes : List ℕ) (cut : Option Cut) (e f : Checker) → HasRead front e → e.text ≡ [] → Feeds e.reader.place f.reader.place bytes cut → shows_at cut f.reader.place ≡ false → f.text ≡ e.text → f.begin ≡ f.end → IsBehind (front ++ bytes) f.end → Reads front bytes cut e f
blank_reads front bytes (Some cut) e f has empty feeds shown kept begin end = absurd (cc)
blank_reads front bytes None e f has empty feeds shown kept begin end =
    let none : f.text ≡ [] = kept ∙ empty in (
      record {
        place = place_on front bytes e f has.place feeds.behind;
        stands = record {
          kept = none ∙ sym (blank_at f.reader.place shown);
          start = front ++ bytes;
          whole = sym (append-nil (front ++ bytes)) ∙ sym (ap (λ (l : List ℕ). (front ++ bytes) ++ l) none);
          begin = subst (IsBehind (front ++ bytes)) (sym begin) end;
          end = end;
        };
      },
      no_mistakes front e.reader.place bytes feeds.items,
    )

-- what a feed of one byte tells
pub lead_feeds : (place next : Option (List ℕ)) (bytes : List ℕ) (n : ℕ) (cut : Option Cut) (x : List ℕ) → n ≡ 1 → 0 < length bytes → items_from place (take n (take 1 bytes)) ≡ items_of cut x → place_from place (take n (take 1 bytes)) ≡ next → (cut ≡ Some cuts.Unended → ⊥)
    → (feeds : Feeds place next (take n bytes) cut) × (feeds.init ≡ [])
lead_feeds place next bytes n cut x one some items behind known =
    let same : take n (take 1 bytes) ≡ take n bytes = take-take n 1 bytes (omega (arith, one)) in
    let byte : take 1 bytes ≡ [] ++ get_or bytes 0 0 ∷ [] = take_more bytes 0 0 some in (
      record {
        init = [];
        b = get_or bytes 0 0;
        whole = ap (λ (m : ℕ). take m bytes) one ∙ byte;
        none = refl;
        shown = x;
        items = ap (items_from place) (sym same) ∙ items;
        behind = sym behind ∙ ap (place_from place) same;
        known = known;
      },
      refl,
    )

-- behind an item a checker stands at the start of a statement
pub restarted : (front : List ℕ) (f h : Checker) → f.reader.place ≡ place_from (Some []) front → text_at f.reader.place ≡ [] → IsBehind front f.end → h.reader.place ≡ f.reader.place → h.text ≡ [] → h.begin ≡ f.end → h.end ≡ f.end → HasRead front h
restarted front f h at none behind place empty begin end = record {
  place = place ∙ at;
  stands = record {
    kept = empty ∙ sym (ap unblanked (ap text_at place ∙ none));
    start = front;
    whole = sym (append-nil front) ∙ sym (ap (λ (l : List ℕ). front ++ l) empty);
    begin = subst (IsBehind front) (sym begin) behind;
    end = subst (IsBehind front) (sym end) behind;
  };
}

-- the statement that ended is no longer than what was read
pub stands-le : (front text : List ℕ) (f : Checker) → Stands front text f → length f.text ≤ length front
stands-le front text f stands = omega (arith, ap length stands.whole, length-append stands.start f.text)

-- what was read, by whether an item ended
pub reads_none : (front bytes : List ℕ) (cut : Option Cut) (e f : Checker) → cut ≡ None → Reads front bytes cut e f → HasRead (front ++ bytes) f × (mistakes_from front e.reader.place bytes ≡ [])
reads_none front bytes None e f is reads = reads
reads_none front bytes (Some cut) e f is reads = absurd (cc)

pub reads_some : (front bytes : List ℕ) (cut : Option Cut) (one : Cut) (e f : Checker) → cut ≡ Some one → Reads front bytes cut e f → Reads front bytes (Some one) e f
reads_some front bytes cut one e f is reads = let P : Option Cut → Type 0 = λ o. Reads front bytes o e f in subst P is reads

-- the same statement is kept
pub stands_same : (front text : List ℕ) (e f : Checker) → Stands front text e → f.text ≡ e.text → f.begin ≡ e.begin → f.end ≡ e.end → Stands front text f
stands_same front text e f stands kept begin end = record {
  kept = kept ∙ stands.kept;
  start = stands.start;
  whole = stands.whole ∙ ap (λ (l : List ℕ). stands.start ++ l) (sym kept);
  begin = subst (IsBehind stands.start) (sym begin) stands.begin;
  end = subst (IsBehind front) (sym end) stands.end;
}

-- the end of a script within a statement, and elsewhere
pub end_some : (script : List ℕ) (place : Option (List ℕ)) (cut : Cut) → cond {A = Option Cut} (is_unended_at place) (Some cuts.Unended) None ≡ Some cut → mistakes_at_end script place ≡ mistakes_of script (text_at place) (request_of Unended)
end_some script place cut is = elim (cases_Bool (is_unended_at place)) [
  | inl t ↦ rw t refl
  | inr f ↦ absurd (let no = rw f at is in cc)
]

pub end_none : (script : List ℕ) (place : Option (List ℕ)) → cond {A = Option Cut} (is_unended_at place) (Some cuts.Unended) None ≡ None → mistakes_at_end script place ≡ []
end_none script place is = elim (cases_Bool (is_unended_at place)) [
  | inl t ↦ absurd (let no = rw t at is in cc)
  | inr f ↦ rw f refl
]

-- where a checker stands behind more bytes
pub has_place : (front bytes : List ℕ) (e f : Checker) → HasRead front e → HasRead (front ++ bytes) f → f.reader.place ≡ place_from e.reader.place bytes
has_place front bytes e f has more = more.place ∙ place_from-append (Some []) front bytes ∙ ap (λ (p : Option (List ℕ)). place_from p bytes) (sym has.place)
