-- The pages of places: those of which none was changed have the elements that they had.
use Rattle.std.proofs.Common.{◌≡◌, ◌≢◌, ℕ, suc, ◌<◌, ◌==◌, true, false, AllPairs, List, [], ◌∷◌, ◌++◌, length, get_or, refl, sym, subst, ◌∙◌, arith}
use Rattle.std.specs.Prelude.{Contains}
use Rattle.std.proofs.lemmas.Bool.Decides.{nat_tests}
use Rattle.ts_space.specs.declared.place.Place.{Place}
use Rattle.ts_page.specs.Pages.{EqualPages, with_page}
use Rattle.ts_row.specs.declared.kind.Column.{Column}
use Rattle.ts_row.specs.Row.{Element}
use Rattle.ts_irregular.specs.OnePage.{IsOn}
use Rattle.ts_space.specs.Place.{pages_of}
use Rattle.ts_sheets.specs.Places.{AreChained}

-- the page under a number that was changed, and one under another
pub changed_page : (n : ℕ) (bytes : List ℕ) (pages : ℕ → List ℕ) → with_page n bytes pages n ≡ bytes
changed_page n bytes pages = let same : (n == n) ≡ true = grind (arith, nat_tests) in rw same refl

pub other_page : (n m : ℕ) (bytes : List ℕ) (pages : ℕ → List ℕ) → m ≢ n → with_page n bytes pages m ≡ pages m
other_page n m bytes pages other = let no : (n == m) ≡ false = grind (arith, nat_tests) in rw no refl

-- the page of a place among all
pub page_there : (front : List Place) (place : Place) (back : List Place) → Contains (pages_of (front ++ place ∷ back)) place.page
page_there [] place back = (0, omega arith, refl)
page_there (p ∷ front) place back =
    let rest = page_there front place back in
    let below = rest.1 in
    (suc rest.0, omega (arith, below), rest.2)

-- each place has another page than this
abbrev pub AreApart : ℕ → List Place → Type 0
AreApart n [] = Unit {0}
AreApart n (p ∷ places) = (p.page ≢ n) × AreApart n places

pub pairs_tail : (x : ℕ) (xs : List ℕ) → AllPairs (λ a b. a ≢ b) (x ∷ xs) → AllPairs (λ a b. a ≢ b) xs
pairs_tail x xs pairs i j d before within = pairs (suc i) (suc j) d (omega arith) (omega arith)

-- those behind a place, and those before it
behind_apart : (n : ℕ) (places : List Place) → ((j : ℕ) (d : ℕ) → j < length (pages_of places) → n ≢ get_or (pages_of places) j d) → AreApart n places
behind_apart n [] others = tt
behind_apart n (p ∷ places) others = ((λ same. others 0 0 (omega arith) (sym same)), behind_apart n places (λ j d within. others (suc j) d (omega arith)))

pub apart_behind : (front : List Place) (place : Place) (back : List Place) → AllPairs (λ a b. a ≢ b) (pages_of (front ++ place ∷ back)) → AreApart place.page back
apart_behind [] place back pairs = behind_apart place.page back (λ j d within. pairs 0 (suc j) d (omega arith) (omega arith))
apart_behind (p ∷ front) place back pairs = apart_behind front place back (pairs_tail p.page (pages_of (front ++ place ∷ back)) pairs)

pub apart_before : (front : List Place) (place : Place) (back : List Place) → AllPairs (λ a b. a ≢ b) (pages_of (front ++ place ∷ back)) → AreApart place.page front
apart_before [] place back pairs = tt
apart_before (p ∷ front) place back pairs =
    let here = page_there front place back in
    let below = here.1 in (
      (λ same. pairs 0 (suc here.0) place.page (omega arith) (omega (arith, below)) (same ∙ sym here.2)),
      apart_before front place back (pairs_tail p.page (pages_of (front ++ place ∷ back)) pairs),
    )

-- pages of which none is the one that changed
pub chained_other : (slot : ℕ) (columns : List Column) (n : ℕ) (bytes : List ℕ) (v w : ℕ → List ℕ) (places : List Place) (chain : List (List Element)) → EqualPages (with_page n bytes v) w → AreApart n places → AreChained slot columns v places chain
    → AreChained slot columns w places chain
chained_other slot columns n bytes v w [] [] put apart on = tt
chained_other slot columns n bytes v w [] (es ∷ chain) put apart on = absurd on
chained_other slot columns n bytes v w (p ∷ places) [] put apart on = absurd on
chained_other slot columns n bytes v w (p ∷ places) (es ∷ chain) put apart on =
    let same : w p.page ≡ v p.page = put p.page ∙ other_page n p.page bytes v apart.0 in
    (subst (λ (b : List ℕ). IsOn slot columns b p es) (sym same) on.0, chained_other slot columns n bytes v w places chain put apart.1 on.1)
