-- A cache of pages: pairs of a number and the bytes of the page, the one that was used last first.
use Rattle.std.specs.Prelude.{◌≡◌, ℕ, ◌<◌, ◌≤◌, List, ◌∷◌, map, filter, take, length, not, nat_eq, Option, Some}
use Rattle.std.specs.List.{IsDistinct}
use Rattle.std.specs.Option.{option_map_or}
use Rattle.std.specs.Map.{lookup, keys_of}
use Rattle.std.specs.declared.boxed.Box.{Box}
use Rattle.ts_page.specs.declared.page.Page.{Page}

-- what is meant by a cache
pub record Cache : Type 0 where
  -- the number and the bytes of each page, the most recent first
  pub pages : List (ℕ × List ℕ)
  -- how many there may be
  pub capacity : ℕ

abbrev pub cache : List (ℕ × List ℕ) → ℕ → Cache
cache pages capacity = record { pages = pages; capacity = capacity }

-- what holds of each cache: no number comes twice
pub record IsCache (c : Cache) : Type 0 where
  pub distinct : IsDistinct nat_eq (keys_of c.pages)
  pub within : length c.pages ≤ c.capacity
  pub positive : 0 < c.capacity

-- the bytes of the page of that number
abbrev pub page_of : ℕ → List (ℕ × List ℕ) → Option (List ℕ)
page_of number = lookup (nat_eq number)

-- the pages of the other numbers, in their order
abbrev pub without : ℕ → List (ℕ × List ℕ) → List (ℕ × List ℕ)
without number = filter (λ p. not (nat_eq number p.0))

-- with the page of that number, if it is there, in front of the others
abbrev pub brought_forward : ℕ → List (ℕ × List ℕ) → List (ℕ × List ℕ)
brought_forward number pages =
    option_map_or (λ bytes. (number, bytes) ∷ without number pages) (page_of number pages) pages

-- with a page in front of those of the other numbers, as many as there may be
abbrev pub put_in_front : ℕ → ℕ → List ℕ → List (ℕ × List ℕ) → List (ℕ × List ℕ)
put_in_front capacity number bytes pages = take capacity ((number, bytes) ∷ without number pages)

-- after a page was asked for, put or forgotten
abbrev pub after_get : ℕ → Cache → Cache
after_get number c = cache (brought_forward number c.pages) c.capacity

abbrev pub after_put : ℕ → List ℕ → Cache → Cache
after_put number bytes c = cache (put_in_front c.capacity number bytes c.pages) c.capacity

abbrev pub after_forget : ℕ → Cache → Cache
after_forget number c = cache (without number c.pages) c.capacity

-- each page that is found has this property, of its number and its bytes
abbrev pub EachPage : (ℕ → List ℕ → Type 0) → Cache → Type 0
EachPage P c = (number : ℕ) (bytes : List ℕ) → page_of number c.pages ≡ Some bytes → P number bytes

-- the number and the bytes of each page that is kept
abbrev pub pairs_of : {A : Type 0} → List (ℕ × Box Page A) → List (ℕ × List ℕ)
pairs_of = map (λ e. (e.0, e.1.value.bytes))
