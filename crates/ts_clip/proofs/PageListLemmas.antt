-- Pages that were read, each at the index of its place.
use Rattle.std.proofs.Common.{◌≡◌, ℕ, zero, suc, ◌<◌, List, [], ◌∷◌, length, get_or, sym, ap, subst, ◌∙◌, arith}
use Rattle.ts_page.specs.declared.page.Page.{Page}
use Rattle.ts_space.specs.declared.place.Place.{Place}
use Rattle.ts_clip.specs.Series.{ArePagesOf}

-- the page of an index is that of its place
page_there : (pages : ℕ → List ℕ) (places : List Place) (read : List Page) (i : ℕ) (d : Place) (e : Page) → ArePagesOf pages places read → i < length places → (get_or read i e).bytes ≡ pages (get_or places i d).page
page_there pages [] read i d e are within = absurd (omega (arith, within))
page_there pages (p ∷ places) [] i d e are within = absurd are
page_there pages (p ∷ places) (page ∷ read) zero d e are within = are.0
page_there pages (p ∷ places) (page ∷ read) (suc i) d e are within = page_there pages places read i d e are.1 (omega (arith, within))

-- what is so of the page of a place is so of the one that was read
pub read_there : (pages : ℕ → List ℕ) (places : List Place) (read : List Page) (i : ℕ) (place : Place) (page : Page) → ArePagesOf pages places read → i < length places → place ≡ get_or places i place → page ≡ get_or read i page
    → (P : List ℕ → Place → Type 0) → P (pages (get_or places i place).page) (get_or places i place) → P page.bytes place
read_there pages places read i place page are within place_is page_is P holds =
    let bytes : page.bytes ≡ pages (get_or places i place).page = ap (λ (q : Page). q.bytes) page_is ∙ page_there pages places read i place page are within in
    subst (λ (p : Place). P page.bytes p) (sym place_is) (subst (λ (b : List ℕ). P b (get_or places i place)) (sym bytes) holds)
