-- The entries of one batch put among those of another.
use Rattle.std.proofs.Common.{◌≡◌, ℕ, ◌+◌, ◌<◌, ◌≤◌, ◌^◌, ltb, eqb, true, false, IsTrue, Option, Some, None, List, [], ◌∷◌, ◌++◌, length, refl, ap, sym, subst, ◌∙◌, arith, length-append, append_assoc}
use Rattle.std.specs.Int.{to_be_bytes, w32}
use Rattle.std.proofs.lemmas.Bool.{cond_both, cond-true, cond-false, ltb-true, eqb-true, eq-eqb, ne_eqb}
use Rattle.std.proofs.lemmas.List.{append-nil}
use Rattle.ts_page.specs.declared.page.Page.{Page}
use Rattle.ts_journal.specs.declared.batch.Change.{Change}
use Rattle.ts_journal.specs.declared.batch.Change.TheVariants.{Image, Free}
use Rattle.ts_journal.specs.Journal.{Entry, AreAllowed, AreWhole, IsWhole, IsRising, change_of, entry_bytes, entries_bytes, is_image, put, put_all}
use Rattle.ts_journal.proofs.BatchLemmas.{length_rising}
use Rattle.ts_journal.proofs.CallerLemmas.{none_below, put_rising}
use Rattle.ts_recover.proofs.CallerLemmas.{put_allowed}

pub all_allowed : (count : ℕ) (old es : List Entry) → AreAllowed count old → AreAllowed count es → AreAllowed count (put_all old es)
all_allowed count old [] allowed more = allowed
all_allowed count old (e ∷ es) allowed more = all_allowed count (put e.0 e.1 old) es (put_allowed count old e.0 e.1 allowed more.0) more.1

pub joined_rising : (es old : List Entry) (least top : ℕ) → IsRising 0 top old → IsRising least top es → IsRising 0 top (put_all old es)
joined_rising [] old least top rising more = rising
joined_rising (e ∷ es) old least top rising more =
    joined_rising es (put e.0 e.1 old) (e.0 + 1) top (put_rising old 0 top e.0 e.1 rising (omega arith) (omega (arith, length_rising es (e.0 + 1) top more.1))) more.1

pub image_bytes : (number : ℕ) (page : Page) → length page.bytes ≡ 4096 → length (entry_bytes (number, Image page)) ≡ 4101
image_bytes number page whole = omega (arith, length-append (1 ∷ to_be_bytes w32 number) page.bytes, whole)

-- what one entry more adds to a record
pub put_bytes : (es : List Entry) (number : ℕ) (change : Change) → length (entries_bytes (put number change es)) ≤ length (entries_bytes es) + length (entry_bytes (number, change))
put_bytes [] number change = omega (arith, length-append (entry_bytes (number, change)) [])
put_bytes (e ∷ es) number change =
    let most = length (entries_bytes (e ∷ es)) + length (entry_bytes (number, change)) in
    let P : List Entry → Type 0 = λ l. length (entries_bytes l) ≤ most in
    let old = length-append (entry_bytes e) (entries_bytes es) in
    cond_both (ltb number e.0) _ _ P
    (λ lower. omega (arith, length-append (entry_bytes (number, change)) (entries_bytes (e ∷ es)), old))
    (λ high.
    cond_both (eqb number e.0) _ _ P
    (λ same. omega (arith, length-append (entry_bytes (number, change)) (entries_bytes es), old))
    (λ other. omega (arith, length-append (entry_bytes e) (entries_bytes (put number change es)), old, put_bytes es number change)))

some_bytes : (e : Entry) → IsWhole e.1 → IsTrue (is_image (Some e.1)) → length (entry_bytes e) ≡ 4101
some_bytes (number, Image page) whole image = image_bytes number page whole
some_bytes (number, Free) whole image = absurd (cc)

-- nothing, where an image was already
pub put_again : (es : List Entry) (least top number : ℕ) (page : Page) → IsRising least top es → AreWhole es → length page.bytes ≡ 4096 → IsTrue (is_image (change_of number es))
    → length (entries_bytes (put number (Image page) es)) ≤ length (entries_bytes es)
put_again [] least top number page rising whole long there = absurd (cc)
put_again (e ∷ es) least top number page rising whole long there =
    let P : List Entry → Type 0 = λ l. length (entries_bytes l) ≤ length (entries_bytes (e ∷ es)) in
    let first : (eqb e.0 number ≡ true) → IsTrue (is_image (Some e.1)) = λ here. subst (λ (o : Option Change). IsTrue (is_image o)) (cond-true (eqb e.0 number) (Some e.1) (change_of number es) here) there in
    let behind : (eqb e.0 number ≡ false) → IsTrue (is_image (change_of number es)) = λ off. subst (λ (o : Option Change). IsTrue (is_image o)) (cond-false (eqb e.0 number) (Some e.1) (change_of number es) off) there in
    let old = length-append (entry_bytes e) (entries_bytes es) in
    cond_both (ltb number e.0) _ _ P
    (λ lower.
    let below : number < e.0 = ltb-true number e.0 lower in
    let none : change_of number es ≡ None = none_below es (e.0 + 1) top number rising.1 (omega (arith, below)) in
    absurd (no_image (subst (λ (o : Option Change). IsTrue (is_image o)) none (behind (ne_eqb e.0 number (λ same. omega (arith, same, below)))))))
    (λ high.
    cond_both (eqb number e.0) _ _ P
    (λ same.
    let here : eqb e.0 number ≡ true = eq-eqb e.0 number (sym (eqb-true number e.0 same)) in
    omega (arith, length-append (entry_bytes (number, Image page)) (entries_bytes es), old, image_bytes number page long, some_bytes e whole.0 (first here)))
    (λ other.
    let off : eqb e.0 number ≡ false = ne_eqb e.0 number (λ same. differs (sym (eq-eqb number e.0 (sym same)) ∙ other)) in
    omega (arith, length-append (entry_bytes e) (entries_bytes (put number (Image page) es)), old, put_again es (e.0 + 1) top number page rising.1 whole.1 long (behind off))))
  where
    no_image : IsTrue (is_image None) → ⊥
    no_image is = cc

    differs : true ≡ false → ⊥
    differs is = cc

-- a record of both has at most the bytes of two
pub joined_bytes : (old es : List Entry) → length (entries_bytes (put_all old es)) ≤ length (entries_bytes old) + length (entries_bytes es)
joined_bytes old [] = omega arith
joined_bytes old (e ∷ es) =
    omega (arith, joined_bytes (put e.0 e.1 old) es, put_bytes old e.0 e.1, length-append (entry_bytes e) (entries_bytes es))

put_length : (es : List Entry) (number : ℕ) (change : Change) → length (put number change es) ≤ length es + 1
put_length [] number change = omega arith
put_length (e ∷ es) number change =
    let P : List Entry → Type 0 = λ l. length l ≤ length (e ∷ es) + 1 in
    cond_both (ltb number e.0) _ _ P (λ lower. omega arith) (λ high. cond_both (eqb number e.0) _ _ P (λ same. omega arith) (λ other. omega (arith, put_length es number change)))

pub joined_length : (old es : List Entry) → length (put_all old es) ≤ length old + length es
joined_length old [] = omega arith
joined_length old (e ∷ es) = omega (arith, joined_length (put e.0 e.1 old) es, put_length old e.0 e.1)

put_some : (es : List Entry) (number : ℕ) (change : Change) → 1 ≤ length (put number change es)
put_some [] number change = omega arith
put_some (e ∷ es) number change =
    let P : List Entry → Type 0 = λ l. 1 ≤ length l in
    cond_both (ltb number e.0) _ _ P (λ lower. omega arith) (λ high. cond_both (eqb number e.0) _ _ P (λ same. omega arith) (λ other. omega arith))

-- none come of none alone
pub none_joined : (old es : List Entry) → put_all old es ≡ [] → (old ≡ []) × (es ≡ [])
none_joined old [] none = (none, refl)
none_joined old (e ∷ es) none = absurd (omega (arith, put_some old e.0 e.1, ap length (none_joined (put e.0 e.1 old) es none).0))

-- a number above all others comes last
put_last : (es : List Entry) (least number : ℕ) (change : Change) → IsRising least number es → put number change es ≡ es ++ (number, change) ∷ []
put_last [] least number change rising = refl
put_last (e ∷ es) least number change rising =
    let above = length_rising es (e.0 + 1) number rising.1 in
    let P : List Entry → Type 0 = λ l. l ≡ e ∷ es ++ (number, change) ∷ [] in
    cond_both (ltb number e.0) _ _ P
    (λ lower. absurd (omega (arith, above, ltb-true number e.0 lower)))
    (λ high.
    cond_both (eqb number e.0) _ _ P
    (λ same. absurd (omega (arith, above, eqb-true number e.0 same)))
    (λ other. ap (λ (l : List Entry). e ∷ l) (put_last es (e.0 + 1) number change rising.1)))

raised : (es : List Entry) (least top higher : ℕ) → IsRising least top es → top ≤ higher → IsRising least higher es
raised [] least top higher rising le = omega (arith, rising, le)
raised (e ∷ es) least top higher rising le = (rising.0, raised es (e.0 + 1) top higher rising.1 le)

-- entries above others come behind them
joined_behind : (es old : List Entry) (least top : ℕ) → IsRising 0 least old → IsRising least top es → put_all old es ≡ old ++ es
joined_behind [] old least top low rising = sym (append-nil old)
joined_behind (e ∷ es) old least top low rising =
    let below : IsRising 0 e.0 old = raised old 0 least e.0 low rising.0 in
    joined_behind es (put e.0 e.1 old) (e.0 + 1) top (put_rising old 0 (e.0 + 1) e.0 e.1 (raised old 0 e.0 (e.0 + 1) below (omega arith)) (omega arith) (omega arith)) rising.1
    ∙ ap (λ (l : List Entry). l ++ es) (put_last old 0 e.0 e.1 below) ∙ append_assoc old (e ∷ []) es

-- those of a batch put among none are the batch
pub joined_alone : (es : List Entry) → IsRising 0 (2 ^ 32) es → put_all [] es ≡ es
joined_alone es rising = joined_behind es [] 0 (2 ^ 32) (omega arith) rising
