-- Texts that are put one behind the other.
use Rattle.std.proofs.Common.{◌≡◌, ℕ, ◌+◌, ℤ, Bool, true, false, ◌||◌, List, [], ◌∷◌, ◌++◌, refl, ap, sym, ◌∙◌, append_assoc, arith}
use Rattle.std.specs.Prelude.{◌/◌, ◌%◌, ◌==◌, if◌then◌else◌, codes}
use Rattle.std.specs.List.{list_any}
use Rattle.std.proofs.lemmas.Bool.Decides.{nat_tests}
use Rattle.std.proofs.lemmas.List.Concat.{flat_map-append}
use Rattle.ts_base.specs.Moment.{Civil, civil_of, day_of, clock_of, digit, two_digits, four_digits, five_digits, text_of, stamp_text}
use Rattle.std.specs.Fmt.{decimal}
use Rattle.ts_row.specs.declared.kind.ColumnKind.{ColumnKind}
use Rattle.ts_row.specs.declared.kind.ColumnKind.TheVariants.{SmallInt, Integer, BigInt, Decimal, VarChar}
use Rattle.ts_row.specs.declared.kind.Column.{Column}
use Rattle.std.specs.List.{flat_map}
use Rattle.ts_row.specs.Row.{quoted}
use Rattle.ts_dump_texts.specs.Texts.{quoted_before, kind_before, columns_before}

-- what is put behind a text that was put is put behind both
pub behind : (a b c p rest : List ℕ) → b ≡ a ++ p → c ≡ b ++ rest → c ≡ a ++ (p ++ rest)
behind a b c p rest first second = second ∙ ap (λ (l : List ℕ). l ++ rest) first ∙ append_assoc a p rest

-- the text of a type, and what stands behind it
pub kind_rest : (k : ColumnKind) (rest : List ℕ) → kind_before k [] ++ rest ≡ kind_before k rest
kind_rest SmallInt rest = refl
kind_rest Integer rest = refl
kind_rest BigInt rest = refl
kind_rest (Decimal digits scale) rest =
    ap (λ (l : List ℕ). codes "decimal(" ++ l)
    (append_assoc (decimal digits) (44 ∷ (decimal scale ++ 41 ∷ [])) rest
    ∙ ap (λ (l : List ℕ). decimal digits ++ 44 ∷ l) (append_assoc (decimal scale) (41 ∷ []) rest))
kind_rest (VarChar most) rest = ap (λ (l : List ℕ). codes "varchar(" ++ l) (append_assoc (decimal most) (41 ∷ []) rest)

-- the texts of columns, and what stands behind them
pub columns_rest : (cs : List Column) (rest : List ℕ) → columns_before cs [] ++ rest ≡ columns_before cs rest
columns_rest [] rest = refl
columns_rest (c ∷ cs) rest =
    let more : kind_before c.kind (columns_before cs []) ++ rest ≡ kind_before c.kind (columns_before cs rest) =
    ap (λ (l : List ℕ). l ++ rest) (sym (kind_rest c.kind (columns_before cs [])))
    ∙ append_assoc (kind_before c.kind []) (columns_before cs []) rest
    ∙ ap (λ (l : List ℕ). kind_before c.kind [] ++ l) (columns_rest cs rest)
    ∙ kind_rest c.kind (columns_before cs rest) in
    ap (λ (l : List ℕ). 44 ∷ 32 ∷ l)
    (append_assoc c.name (32 ∷ kind_before c.kind (columns_before cs [])) rest ∙ ap (λ (l : List ℕ). c.name ++ 32 ∷ l) more)

-- a text in quotes, and what stands behind it
pub quoted_rest : (text rest : List ℕ) → quoted_before text [] ++ rest ≡ quoted_before text rest
quoted_rest text rest = ap (λ (l : List ℕ). 39 ∷ l) (append_assoc (flat_map quoted text) (39 ∷ []) rest)

-- a stamp has no quotes
digit_quoted : (n : ℕ) (bytes : List ℕ) → flat_map quoted bytes ≡ bytes → flat_map quoted (digit n ∷ bytes) ≡ digit n ∷ bytes
digit_quoted n bytes rest =
    let other : (48 + n % 10 == 39) ≡ false = grind (arith, nat_tests) in
    ap (λ (b : Bool). (if b then 39 ∷ 39 ∷ [] else digit n ∷ []) ++ flat_map quoted bytes) other ∙ ap (λ (l : List ℕ). digit n ∷ l) rest

two_quoted : (sign n : ℕ) → quoted sign ≡ sign ∷ [] → flat_map quoted (sign ∷ two_digits n) ≡ sign ∷ two_digits n
two_quoted sign n plain =
    (λ i. plain i ++ digit_quoted (n / 10) (digit n ∷ []) (digit_quoted n [] refl) i)

four_quoted : (n : ℕ) → flat_map quoted (four_digits n) ≡ four_digits n
four_quoted n = digit_quoted (n / 1000) (digit (n / 100) ∷ digit (n / 10) ∷ digit n ∷ []) (digit_quoted (n / 100) (digit (n / 10) ∷ digit n ∷ []) (digit_quoted (n / 10) (digit n ∷ []) (digit_quoted n [] refl)))

five_quoted : (n : ℕ) → flat_map quoted (46 ∷ five_digits n) ≡ 46 ∷ five_digits n
five_quoted n = ap (λ (l : List ℕ). 46 ∷ l) (digit_quoted (n / 10_000) (four_digits n) (four_quoted n))

quoted_joined : (a b : List ℕ) → flat_map quoted a ≡ a → flat_map quoted b ≡ b → flat_map quoted (a ++ b) ≡ a ++ b
quoted_joined a b first second = flat_map-append quoted a b ∙ (λ i. first i ++ second i)

moment_quoted : (c : Civil) (clock : ℕ) → flat_map quoted (text_of c clock) ≡ text_of c clock
moment_quoted c clock =
    let y : List ℕ = four_digits c.year in
    let m : List ℕ = 45 ∷ two_digits c.month in
    let d : List ℕ = 45 ∷ two_digits c.day in
    let h : List ℕ = 32 ∷ two_digits (clock / 360_000_000) in
    let n : List ℕ = 58 ∷ two_digits (clock / 6_000_000 % 60) in
    let s : List ℕ = 58 ∷ two_digits (clock / 100_000 % 60) in
    let f : List ℕ = 46 ∷ five_digits (clock % 100_000) in
    quoted_joined (y ++ m ++ d ++ h ++ n ++ s) f
    (quoted_joined (y ++ m ++ d ++ h ++ n) s
    (quoted_joined (y ++ m ++ d ++ h) n
    (quoted_joined (y ++ m ++ d) h
    (quoted_joined (y ++ m) d
    (quoted_joined y m (four_quoted c.year) (two_quoted 45 c.month refl))
    (two_quoted 45 c.day refl))
    (two_quoted 32 (clock / 360_000_000) refl))
    (two_quoted 58 (clock / 6_000_000 % 60) refl))
    (two_quoted 58 (clock / 100_000 % 60) refl))
    (five_quoted (clock % 100_000))

pub stamp_quoted : (t : ℤ) → flat_map quoted (stamp_text t) ≡ stamp_text t
unfolding stamp_text
stamp_quoted t = moment_quoted (civil_of (day_of t)) (clock_of t)

-- nor has a text that has none
pub plain_quoted : (bytes : List ℕ) → list_any (λ c. c == 39) bytes ≡ false → flat_map quoted bytes ≡ bytes
plain_quoted [] none = refl
plain_quoted (c ∷ bytes) none =
    let parts = neither (c == 39) (list_any (λ (b : ℕ). b == 39) bytes) none in
    ap (λ (b : Bool). (if b then 39 ∷ 39 ∷ [] else c ∷ []) ++ flat_map quoted bytes) parts.0 ∙ ap (λ (l : List ℕ). c ∷ l) (plain_quoted bytes parts.1)
  where
    neither : (a b : Bool) → (a || b) ≡ false → (a ≡ false) × (b ≡ false)
    neither true b none_of = absurd (cc)
    neither false b none_of = (refl, none_of)

-- a stamp was put between quotes
pub stamp_put : (a b c d text : List ℕ) (t : ℤ) → b ≡ a ++ 39 ∷ [] → c ≡ b ++ text → d ≡ c ++ 39 ∷ [] → text ≡ stamp_text t → d ≡ a ++ quoted_before (stamp_text t) []
stamp_put a b c d text t first second last is =
    last ∙ ap (λ (l : List ℕ). l ++ 39 ∷ []) second ∙ ap (λ (l : List ℕ). (l ++ text) ++ 39 ∷ []) first
    ∙ append_assoc (a ++ 39 ∷ []) text (39 ∷ []) ∙ append_assoc a (39 ∷ []) (text ++ 39 ∷ [])
    ∙ ap (λ (l : List ℕ). a ++ 39 ∷ (l ++ 39 ∷ [])) (is ∙ sym (stamp_quoted t))
