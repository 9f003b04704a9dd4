-- How many pages the series take, by what their containers are charged.
use Rattle.std.proofs.Common.{◌≡◌, ℕ, ℤ, zero, suc, ◌+◌, ◌<◌, ◌≤◌, ◌==◌, ◌≢◌, Bool, true, false, if◌then◌else◌, IsSome, Option, Some, None, List, [], ◌∷◌, length, get_or, refl, sym, ap, subst, ◌∙◌, arith, inl, inr, ◌⊎◌, lit≤}
use Rattle.std.specs.Option.{option_map, option_and_then, unwrap_or}
use Rattle.std.specs.List.{sum_by}
use Rattle.std.proofs.lemmas.Bool.{cases_eq}
use Rattle.std.proofs.lemmas.Bool.Decides.{nat_tests}
use Rattle.std.proofs.lemmas.List.Sums.{sum_by-cons}
use Rattle.ts_row.specs.Row.{Heading}
use Rattle.ts_space.specs.declared.place.Place.{Place}
use Rattle.ts_space.specs.Directory.{Directory, places_of, used_of}
use Rattle.ts_cells.specs.IrregularPage.{page_room}
use Rattle.ts_model.specs.declared.kind.Kind.TheVariants as kinds
use Rattle.ts_model.specs.declared.def.Def.{Def}
use Rattle.ts_model.specs.Definitions.{Definitions, RowTypeDef, ContainerDef, SeriesDef, at_slot, of_row_type, of_container, of_series}
use Rattle.ts_layout.specs.Meaning.{def_at, heading_of_container, AreThere, AreSound, quota_in, sum_of_quotas}
use Rattle.ts_layout.specs.Charges.{places_charge, charge_listed, charges_listed, container_charge, KeepQuotas}
use Rattle.ts_layout.proofs.PlaceLemmas.{at_slot-map}
use Rattle.ts_layout.proofs.LayoutLemmas.{within_table}

-- what definitions refer to
some_heading : (o : Option RowTypeDef) → IsSome (option_map of_row_type o) → (h : Heading) × (option_map (λ r. r.heading) o ≡ Some h)
some_heading None none = absurd (let never : ⊥ = cc in never)
some_heading (Some r) some = (r.heading, refl)

some_container : (o : Option ContainerDef) → IsSome (option_map of_container o) → (c : ContainerDef) × (o ≡ Some c)
some_container None none = absurd (let never : ⊥ = cc in never)
some_container (Some c) some = (c, refl)

-- each container has columns, and each series a container
pub has_heading : (d : Definitions) → AreThere d → (slot : ℕ) (c : ContainerDef) → slot < 64 → at_slot slot d.containers ≡ Some c → (h : Heading) × (heading_of_container d c ≡ Some h)
has_heading d references slot c within there =
    let here : def_at kinds.Container slot d ≡ Some (of_container c) = at_slot-map of_container slot d.containers ∙ ap (option_map of_container) there in
    let is = (references kinds.Container slot (of_container c) within here).0 in
    some_heading (at_slot c.row_type d.row_types) (subst (λ (o : Option Def). IsSome o) (at_slot-map of_row_type c.row_type d.row_types) is)

pub has_container : (d : Definitions) → AreThere d → (slot : ℕ) (s : SeriesDef) → slot < 4096 → at_slot slot d.series ≡ Some s → (c : ContainerDef) × (at_slot s.container d.containers ≡ Some c)
has_container d references slot s within there =
    let here : def_at kinds.Series slot d ≡ Some (of_series s) = at_slot-map of_series slot d.series ∙ ap (option_map of_series) there in
    let is = (references kinds.Series slot (of_series s) within here).0 in
    some_container (at_slot s.container d.containers) (subst (λ (o : Option Def). IsSome o) (at_slot-map of_container s.container d.containers) is)

-- a series without places is charged nothing
pub nothing_charged : (room : ℕ) (regular : Option (ℕ × ℤ)) → places_charge room regular [] ≡ 0
nothing_charged room None = refl
nothing_charged room (Some regular) = refl

-- sums over a table of containers, by slot
abbrev pub sum_at : (ℕ → Option ContainerDef → ℕ) → ℕ → List (Option ContainerDef) → ℕ
sum_at f first [] = 0
sum_at f first (x ∷ xs) = f first x + sum_at f (suc first) xs

sum_add : (f g : ℕ → Option ContainerDef → ℕ) (first : ℕ) (xs : List (Option ContainerDef)) → sum_at (λ k x. f k x + g k x) first xs ≡ sum_at f first xs + sum_at g first xs
sum_add f g first [] = refl
sum_add f g first (x ∷ xs) = let rest = sum_add f g (suc first) xs in omega (arith, rest)

sum_le : (f g : ℕ → Option ContainerDef → ℕ) (first : ℕ) (xs : List (Option ContainerDef)) → ((j : ℕ) → j < length xs → f (first + j) (at_slot j xs) ≤ g (first + j) (at_slot j xs)) → sum_at f first xs ≤ sum_at g first xs
sum_le f g first [] each = lit≤ tt
sum_le f g first (x ∷ xs) each =
    let at : first + 0 ≡ first = omega arith in
    let here : f first x ≤ g first x = subst (λ (n : ℕ). f n x ≤ g n x) at (each 0 (omega arith)) in
    let rest = sum_le f g (suc first) xs (λ j within. let next : first + suc j ≡ suc first + j = omega arith in subst (λ (n : ℕ). f n (at_slot j xs) ≤ g n (at_slot j xs)) next (each (suc j) (omega arith))) in
    omega (arith, here, rest)

sum_one : (f : ℕ → Option ContainerDef → ℕ) (first j : ℕ) (xs : List (Option ContainerDef)) → j < length xs → f (first + j) (at_slot j xs) ≤ sum_at f first xs
sum_one f first j [] within = absurd (omega arith)
sum_one f first zero (x ∷ xs) within =
    let at : first ≡ first + 0 = omega arith in
    subst (λ (n : ℕ). f n x ≤ f first x + sum_at f (suc first) xs) at (let z : f first x ≤ f first x + sum_at f (suc first) xs = omega arith in z)
sum_one f first (suc j) (x ∷ xs) within =
    let next : suc first + j ≡ first + suc j = omega arith in
    let rest = sum_one f (suc first) j xs (omega arith) in
    subst (λ (n : ℕ). f n (at_slot j xs) ≤ f first x + sum_at f (suc first) xs) next (let z : f (suc first + j) (at_slot j xs) ≤ f first x + sum_at f (suc first) xs = omega (arith, rest) in z)

quotas_at : (first : ℕ) (xs : List (Option ContainerDef)) → sum_of_quotas xs ≡ sum_at (λ k o. quota_in o) first xs
quotas_at first [] = refl
quotas_at first (x ∷ xs) = sum_by-cons quota_in x xs ∙ ap (λ (n : ℕ). quota_in x + n) (quotas_at (suc first) xs)

-- what a container is charged, if there is one
abbrev pub charge_if : Option ContainerDef → ℕ → ℕ
charge_if None n = 0
charge_if (Some c) n = n

charge_if-add : (o : Option ContainerDef) (a b : ℕ) → charge_if o (a + b) ≡ charge_if o a + charge_if o b
charge_if-add None a b = refl
charge_if-add (Some c) a b = refl

abbrev pub room_if : Definitions → Option ContainerDef → ℕ
room_if d o = unwrap_or (option_map (λ h. page_room h.columns) (option_and_then (heading_of_container d) o)) 0

abbrev pub charged : Definitions → Directory → ℕ → List (Option SeriesDef) → ℕ → Option ContainerDef → ℕ
charged d space first table k o = charge_if o (charges_listed space k (room_if d o) first table)

abbrev pub one_charged : Definitions → Directory → ℕ → Option SeriesDef → ℕ → Option ContainerDef → ℕ
one_charged d space slot s k o = charge_if o (charge_listed space k (room_if d o) slot s)

-- the places of all series are at most as many as all containers are charged
used_most : (d : Definitions) (space : Directory) (first : ℕ) (table : List (Option SeriesDef)) (lists : List (List Place)) → length lists ≡ length table
    → ((j : ℕ) → j < length lists → length (get_or lists j []) ≤ sum_at (one_charged d space (first + j) (at_slot j table)) 0 d.containers) → sum_by length lists ≤ sum_at (charged d space first table) 0 d.containers
used_most d space first [] [] same each = omega arith
used_most d space first [] (p ∷ lists) same each = absurd (omega arith)
used_most d space first (s ∷ table) [] same each = absurd (omega arith)
used_most d space first (s ∷ table) (p ∷ lists) same each =
    let at : first + 0 ≡ first = omega arith in
    let here : length p ≤ sum_at (one_charged d space first s) 0 d.containers = subst (λ (n : ℕ). length p ≤ sum_at (one_charged d space n s) 0 d.containers) at (each 0 (omega arith)) in
    let rest = used_most d space (suc first) table lists (omega arith) (λ j within.
    let next : first + suc j ≡ suc first + j = omega arith in
    subst (λ (n : ℕ). length (get_or lists j []) ≤ sum_at (one_charged d space n (at_slot j table)) 0 d.containers) next (each (suc j) (omega arith))) in
    let split : sum_at (charged d space first (s ∷ table)) 0 d.containers ≡ sum_at (one_charged d space first s) 0 d.containers + sum_at (charged d space (suc first) table) 0 d.containers =
    (λ i. sum_at (λ k o. charge_if-add o (charge_listed space k (room_if d o) first s) (charges_listed space k (room_if d o) (suc first) table) i) 0 d.containers)
    ∙ sum_add (one_charged d space first s) (charged d space (suc first) table) 0 d.containers in
    omega (arith, here, rest, split, sum_by-cons length p lists)

-- a series with places is charged for as many at least, to its container
pub record IsCharged (d : Definitions) (places : List Place) (slot : ℕ) : Type 0 where
  pub series : SeriesDef
  pub container : ContainerDef
  pub heading : Heading
  pub series_there : at_slot slot d.series ≡ Some series
  pub container_there : at_slot series.container d.containers ≡ Some container
  pub columns : heading_of_container d container ≡ Some heading
  pub within : length places ≤ places_charge (page_room heading.columns) series.regular places

abbrev pub AreCharged : Definitions → Directory → Type 0
AreCharged d space = (slot : ℕ) → slot < 4096 → (places_of slot space ≡ []) ⊎ IsCharged d (places_of slot space) slot

one_kept : (d : Definitions) (space : Directory) (j n k : ℕ) (o : Option SeriesDef) (at : Option ContainerDef) (s : SeriesDef) (c : ContainerDef) (h : Heading) → n ≡ j → o ≡ Some s → k ≡ s.container → at ≡ Some c → heading_of_container d c ≡ Some h
    → one_charged d space n o k at ≡ places_charge (page_room h.columns) s.regular (places_of j space)
one_kept d space j n k o at s c h n_is o_is k_is at_is heading =
    let t : (s.container == s.container) ≡ true = grind (arith, nat_tests) in
    (λ i. one_charged d space (n_is i) (o_is i) (k_is i) (at_is i))
    ∙ (λ i. if t i then places_charge (unwrap_or (option_map (λ x. page_room x.columns) (heading i)) 0) s.regular (places_of j space) else 0)

each_kept : (d : Definitions) (space : Directory) → AreCharged d space → (j : ℕ) → j < 4096 → length (places_of j space) ≤ sum_at (one_charged d space (0 + j) (at_slot j d.series)) 0 d.containers
each_kept d space charged j within = elim (charged j within) [
  | inl none ↦ subst (λ (l : List Place). length l ≤ sum_at (one_charged d space (0 + j) (at_slot j d.series)) 0 d.containers) (sym none) (let z : 0 ≤ sum_at (one_charged d space (0 + j) (at_slot j d.series)) 0 d.containers = omega arith in z)
  | inr is ↦
      let below = sum_one (one_charged d space (0 + j) (at_slot j d.series)) 0 is.series.container d.containers (within_table d.containers is.series.container is.container is.container_there) in
      let n_is : 0 + j ≡ j = omega arith in
      let k_is : 0 + is.series.container ≡ is.series.container = omega arith in
      let one = one_kept d space j (0 + j) (0 + is.series.container) (at_slot j d.series) (at_slot is.series.container d.containers) is.series is.container is.heading n_is is.series_there k_is is.container_there is.columns in
      let most = is.within in
      omega (arith, one, below, most)
]

-- each container is charged its quota at most
charged_is : (d : Definitions) (space : Directory) (j n : ℕ) (o : Option ContainerDef) (c : ContainerDef) (h : Heading) → n ≡ j → o ≡ Some c → heading_of_container d c ≡ Some h → charged d space 0 d.series n o ≡ container_charge d space j (page_room h.columns)
charged_is d space j n o c h is there heading =
    (λ i. charged d space 0 d.series n (there i)) ∙ (λ i. charges_listed space (is i) (unwrap_or (option_map (λ x. page_room x.columns) (heading i)) 0) 0 d.series)

quota_at : (d : Definitions) (space : Directory) (pages j n : ℕ) → AreSound pages d → KeepQuotas d space → j < 64 → n ≡ j → (o : Option ContainerDef) → at_slot j d.containers ≡ o → charged d space 0 d.series n o ≤ quota_in o
quota_at d space pages j n sound kept within is None there = lit≤ tt
quota_at d space pages j n sound kept within is (Some c) there =
    let h = has_heading d sound.references j c within there in
    subst (λ (m : ℕ). m ≤ c.quota) (sym (charged_is d space j n (Some c) c h.0 is refl h.1)) (kept j within c h.0 there h.1)

-- one container is charged so much more
abbrev pub more_at : ℕ → ℕ → ℕ → Option ContainerDef → ℕ
more_at k more n o = if n == k then more else 0

quota_more : (d : Definitions) (space : Directory) (pages k more j n : ℕ) (c : ContainerDef) (h : Heading) → AreSound pages d → KeepQuotas d space → at_slot k d.containers ≡ Some c → heading_of_container d c ≡ Some h → container_charge d space k (page_room h.columns) + more ≤ c.quota → j < 64 → n ≡ j
    → charged d space 0 d.series n (at_slot j d.containers) + more_at k more n (at_slot j d.containers) ≤ quota_in (at_slot j d.containers)
quota_more d space pages k more j n c h sound kept there heading paid within is = elim (cases_eq j k) [
  | inl same ↦
      let here : at_slot j d.containers ≡ Some c = ap (λ (m : ℕ). at_slot m d.containers) same ∙ there in
      let t : (n == k) ≡ true = let at : n ≡ k = is ∙ same in grind (arith, nat_tests) in
      let all = charged_is d space k n (at_slot j d.containers) c h (is ∙ same) here heading in
      let beside : more_at k more n (at_slot j d.containers) ≡ more = ap (λ (b : Bool). if b then more else 0) t in
      let quota : quota_in (at_slot j d.containers) ≡ c.quota = ap quota_in here in
      omega (arith, all, beside, quota, paid)
  | inr other ↦
      let f : (n == k) ≡ false = let at : n ≢ k = λ same. other (sym is ∙ same) in grind (arith, nat_tests) in
      let beside : more_at k more n (at_slot j d.containers) ≡ 0 = ap (λ (b : Bool). if b then more else 0) f in
      let before = quota_at d space pages j n sound kept within is (at_slot j d.containers) refl in
      omega (arith, beside, before)
]

-- All series together have at most as many places as there are pages, and as many fewer as a container may be charged more.
pub used_more : (d : Definitions) (space : Directory) (pages k more : ℕ) (c : ContainerDef) (h : Heading) → AreSound pages d → KeepQuotas d space → AreCharged d space → length space.lists ≡ 4096 → at_slot k d.containers ≡ Some c → heading_of_container d c ≡ Some h
    → container_charge d space k (page_room h.columns) + more ≤ c.quota → used_of space + more ≤ pages
used_more d space pages k more c h sound kept each size there heading paid =
    let most : used_of space ≤ sum_at (charged d space 0 d.series) 0 d.containers =
    used_most d space 0 d.series space.lists (size ∙ sym sound.tables.series.size) (λ j within. each_kept d space each j (omega (arith, within, size))) in
    let both = sum_add (charged d space 0 d.series) (more_at k more) 0 d.containers in
    let one = sum_one (more_at k more) 0 k d.containers (within_table d.containers k c there) in
    let t : (0 + k == k) ≡ true = grind (arith, nat_tests) in
    let is : more_at k more (0 + k) (at_slot k d.containers) ≡ more = ap (λ (b : Bool). if b then more else 0) t in
    let quotas : sum_at (λ n o. charged d space 0 d.series n o + more_at k more n o) 0 d.containers ≤ sum_at (λ n o. quota_in o) 0 d.containers =
    sum_le (λ n o. charged d space 0 d.series n o + more_at k more n o) (λ n o. quota_in o) 0 d.containers (λ j within.
    let small : j < 64 = omega (arith, within, sound.tables.containers.size) in
    let at : 0 + j ≡ j = omega arith in
    quota_more d space pages k more j (0 + j) c h sound kept there heading paid small at) in
    omega (arith, most, both, one, is, quotas, quotas_at 0 d.containers, sound.quotas)
