-- The charges of all series of a container, added up in the order of their keys.
use Rattle.std.proofs.Common.{◌≡◌, ◌≢◌, ℕ, ℤ, zero, suc, get_or, set, get_or-set_same, get_or-set_other, ◌+◌, ◌<◌, ◌≤◌, ◌==◌, Bool, true, false, cond, if◌then◌else◌, Option, Some, None, List, [], ◌∷◌, map, length, refl, ap, sym, ◌∙◌, subst, arith, inl, inr}
use Rattle.std.specs.List.{sum_by}
use Rattle.std.specs.Option.{option_map, unwrap_or}
use Rattle.std.specs.Ordering.{is_eq}
use Rattle.std.specs.declared.cmp.Ordering.{Ordering}
use Rattle.std.specs.declared.cmp.Ordering.TheVariants.{Less, Equal, Greater}
use Rattle.std.specs.FinMap.{FinMap, find, put, entries, values, from_entries, get-entries, get-from_entries, entries-insert, len-entries, len-empty}
use Rattle.std.specs.FinMap as finmap
use Rattle.std.specs.FinMap.Entries.{by_order}
use Rattle.std.proofs.lemmas.Bool.{cases_eq}
use Rattle.std.proofs.lemmas.Bool.Decides.{nat_tests}
use Rattle.std.proofs.lemmas.List.{length-map}
use Rattle.std.proofs.lemmas.List.Sums.{sum_by-cons}
use Rattle.ts_row.specs.Row.{Heading}
use Rattle.ts_space.specs.Directory.{Directory, places_of}
use Rattle.ts_cells.specs.IrregularPage.{page_room}
use Rattle.ts_model.specs.declared.kind.Kind.TheVariants as kinds
use Rattle.ts_model.specs.declared.def.Def.{Def}
use Rattle.ts_model.specs.declared.def.Def.TheVariants as defs
use Rattle.ts_model.specs.Catalogue.{name_cmp}
use Rattle.ts_model.specs.Definitions.{Definitions, SeriesDef, of_series, name_of, at_slot, slots, filled_from, slots_by_name, IsDefinitions}
use Rattle.ts_model.proofs.OrderLemmas.{total}
use Rattle.ts_model.proofs.SlotLemmas.{AreApart, apart-rest, find-other}
use Rattle.ts_model.proofs.IndexLemmas.{empty-list}
use Rattle.ts_layout.specs.Meaning.{heading_in}
use Rattle.ts_layout.specs.Charges.{places_charge, charge_listed, charges_listed, container_charge, charge_in}
use Rattle.ts_layout.proofs.CallerLemmas.{own, at_slot-map}
use Rattle.ts_container.specs.KeptCharges.{charged_to}

-- what the numbers of entries weigh together
abbrev weight : (ℕ → ℕ) → List (List ℕ × ℕ) → ℕ
weight w [] = 0
weight w (e ∷ es) = w e.1 + weight w es

values_weigh : (w : ℕ → ℕ) (es : List (List ℕ × ℕ)) → sum_by w (map (λ e. e.1) es) ≡ weight w es
values_weigh w [] = refl
values_weigh w (e ∷ es) = sum_by-cons w e.1 (map (λ (x : List ℕ × ℕ). x.1) es) ∙ ap (λ (n : ℕ). w e.1 + n) (values_weigh w es)

-- an entry of a new name weighs what its number does
put_weighs : (w : ℕ → ℕ) (k : List ℕ) (v : ℕ) (es : List (List ℕ × ℕ)) → find name_cmp k es ≡ None → weight w (put name_cmp k v es) ≡ w v + weight w es
put_weighs w k v [] none = refl
put_weighs w k v (e ∷ es) none =
    elim (name_cmp k e.0) as (λ (r : Ordering). cond (is_eq r) (Some e.1) (find name_cmp k es) ≡ None → weight w (by_order r ((k, v) ∷ e ∷ es) ((e.0, v) ∷ es) (e ∷ put name_cmp k v es)) ≡ w v + (w e.1 + weight w es)) [
      | Less ↦ λ here. refl
      | Equal ↦ λ here. absurd (let never : ⊥ = cc in never)
      | Greater ↦ λ here. let rest = put_weighs w k v es here in omega (arith, rest)
    ] none

-- the filled slots and their numbers, from a first one on
abbrev filled : ℕ → List (Option Def) → List (List ℕ × ℕ)
filled first table = filled_from name_of (λ slot def. slot) first table

-- in the order of their names they weigh the same
table_weighs : (w : ℕ → ℕ) (first : ℕ) (table : List (Option Def)) → AreApart name_of table → weight w (entries (from_entries {R = name_cmp} (filled first table))) ≡ weight w (filled first table)
table_weighs w first [] apart =
    ap (weight w) (empty-list (entries (finmap.empty {X = ℕ} {R = name_cmp})) (sym (len-entries (finmap.empty {X = ℕ} {R = name_cmp})) ∙ len-empty name_cmp ℕ))
table_weighs w first (None ∷ table) apart = table_weighs w (first + 1) table (apart-rest name_of None table apart)
table_weighs w first (Some a ∷ table) apart =
    let rest = table_weighs w (first + 1) table (apart-rest name_of (Some a) table apart) in
    let m : FinMap name_cmp ℕ = from_entries (filled (first + 1) table) in
    let none : find name_cmp (name_of a) (entries m) ≡ None =
    sym (get-entries m (name_of a)) ∙ get-from_entries total (filled (first + 1) table) (name_of a)
    ∙ find-other name_of (λ slot def. slot) table (first + 1) (name_of a) (λ i b there same. never_later i (apart (suc i) 0 b a there refl (sym same))) in
    ap (weight w) (entries-insert total m (name_of a) first) ∙ put_weighs w (name_of a) first (entries m) none ∙ ap (λ (n : ℕ). w first + n) rest where
      never_later : (i : ℕ) → suc i ≡ 0 → ⊥
      never_later i is = omega arith

-- no two series have one key
series_apart : (d : Definitions) → IsDefinitions d → AreApart name_of (slots kinds.Series d)
series_apart d rules i j a b first second same =
    let s = own of_series i d.series a first in
    let t = own of_series j d.series b second in
    rules.series.apart i j s.0 t.0 s.1 t.1 (ap name_of s.2 ∙ same ∙ sym (ap name_of t.2))

-- the numbers of the series, in the order of their keys
abbrev pub series_order : Definitions → List ℕ
series_order d = values (slots_by_name (slots kinds.Series d))

order_weighs : (w : ℕ → ℕ) (d : Definitions) → IsDefinitions d → sum_by w (series_order d) ≡ weight w (filled 0 (slots kinds.Series d))
order_weighs w d rules = values_weigh w (entries (slots_by_name (slots kinds.Series d))) ∙ table_weighs w 0 (slots kinds.Series d) (series_apart d rules)

-- there are no more of them than slots
filled_few : (first : ℕ) (table : List (Option Def)) → length (filled first table) ≤ length table
filled_few first [] = omega arith
filled_few first (None ∷ table) = let rest = filled_few (first + 1) table in omega (arith, rest)
filled_few first (Some a ∷ table) = let rest = filled_few (first + 1) table in omega (arith, rest)

ones : (es : List (List ℕ × ℕ)) → weight (λ n. 1) es ≡ length es
ones [] = refl
ones (e ∷ es) = let rest = ones es in omega (arith, rest)

pub order_few : (d : Definitions) → IsDefinitions d → length (series_order d) ≤ 4096
order_few d rules =
    let es = entries (slots_by_name (slots kinds.Series d)) in
    let all = filled 0 (slots kinds.Series d) in
    let size : length (slots kinds.Series d) ≡ 4096 = length-map d.series (option_map of_series) ∙ rules.series.size in
    let few = filled_few 0 (slots kinds.Series d) in
    let same : length es ≡ length all = sym (ones es) ∙ table_weighs (λ n. 1) 0 (slots kinds.Series d) (series_apart d rules) ∙ ones all in
    let numbers : length (series_order d) ≡ length es = length-map es (λ (e : List ℕ × ℕ). e.1) in
    omega (arith, size, few, same, numbers)

later : (w : ℕ → ℕ) (space : Directory) (container room first : ℕ) (o : Option SeriesDef) (table : List (Option SeriesDef)) → ((i : ℕ) → w (first + i) ≡ charge_listed space container room (first + i) (at_slot i (o ∷ table)))
    → (i : ℕ) → w (first + 1 + i) ≡ charge_listed space container room (first + 1 + i) (at_slot i table)
later w space container room first o table is i =
    let at : first + suc i ≡ first + 1 + i = omega arith in
    subst (λ (n : ℕ). w n ≡ charge_listed space container room n (at_slot i table)) at (is (suc i))

-- what a series weighs by its slot, they weigh slot by slot
listed_weighs : (w : ℕ → ℕ) (space : Directory) (container room first : ℕ) (table : List (Option SeriesDef)) → ((i : ℕ) → w (first + i) ≡ charge_listed space container room (first + i) (at_slot i table))
    → weight w (filled first (map (option_map of_series) table)) ≡ charges_listed space container room first table
listed_weighs w space container room first [] is = refl
listed_weighs w space container room first (None ∷ table) is =
    let at : first + 1 ≡ suc first = omega arith in
    listed_weighs w space container room (first + 1) table (later w space container room first None table is)
    ∙ ap (λ (n : ℕ). charges_listed space container room n table) at ∙ (let none : charges_listed space container room (suc first) table ≡ 0 + charges_listed space container room (suc first) table = omega arith in none)
listed_weighs w space container room first (Some s ∷ table) is =
    let at : first + 1 ≡ suc first = omega arith in
    let rest = listed_weighs w space container room (first + 1) table (later w space container room first (Some s) table is) ∙ ap (λ (n : ℕ). charges_listed space container room n table) at in
    let zero : first + 0 ≡ first = omega arith in
    let one : w first ≡ charge_listed space container room first (Some s) = subst (λ (n : ℕ). w n ≡ charge_listed space container room n (Some s)) zero (is 0) in
    (λ i. one i + rest i)

-- all series of a container are charged together what each of them is
series_charged : (d : Definitions) (space : Directory) (container room : ℕ) → IsDefinitions d → sum_by (λ slot. charge_listed space container room slot (at_slot slot d.series)) (series_order d) ≡ container_charge d space container room
series_charged d space container room rules =
    let w : ℕ → ℕ = λ slot. charge_listed space container room slot (at_slot slot d.series) in
    order_weighs w d rules ∙ listed_weighs w space container room 0 d.series (λ i.
    let at : i ≡ 0 + i = omega arith in
    ap (λ (n : ℕ). charge_listed space container room (0 + i) (at_slot n d.series)) (sym at))

nothing : (numbers : List ℕ) → sum_by (λ slot. 0) numbers ≡ 0
nothing [] = refl
nothing (n ∷ numbers) = let rest = nothing numbers in let first = sum_by-cons (λ (x : ℕ). 0) n numbers in omega (arith, first, rest)

pub all_charged : (d : Definitions) (space : Directory) (container : ℕ) → IsDefinitions d → sum_by (charged_to d space container) (series_order d) ≡ charge_in d space container
all_charged d space container rules =
    elim (heading_in d container) as (λ (o : Option Heading). sum_by (λ slot. unwrap_or (option_map (λ h. charge_listed space container (page_room h.columns) slot (at_slot slot d.series)) o) 0) (series_order d)
    ≡ unwrap_or (option_map (λ h. container_charge d space container (page_room h.columns)) o) 0) [
      | None ↦ nothing (series_order d)
      | Some h ↦ series_charged d space container (page_room h.columns) rules
    ]

-- where no series stands, nothing is charged
pub none_charged : (d : Definitions) (space : Directory) (container slot : ℕ) → at_slot slot d.series ≡ None → charged_to d space container slot ≡ 0
none_charged d space container slot empty = elim (heading_in d container) as (λ (o : Option Heading). unwrap_or (option_map (λ h. charge_listed space container (page_room h.columns) slot (at_slot slot d.series)) o) 0 ≡ 0) [
  | None ↦ refl
  | Some h ↦ ap (charge_listed space container (page_room h.columns) slot) empty
]

-- a series is charged to its own container alone
pub other_charged : (d : Definitions) (space : Directory) (container slot : ℕ) (s : SeriesDef) → at_slot slot d.series ≡ Some s → container ≢ s.container → charged_to d space container slot ≡ 0
other_charged d space container slot s there other = elim (heading_in d container) as (λ (o : Option Heading). unwrap_or (option_map (λ h. charge_listed space container (page_room h.columns) slot (at_slot slot d.series)) o) 0 ≡ 0) [
  | None ↦ refl
  | Some h ↦
      let test : (s.container == container) ≡ false = grind (arith, nat_tests) in
      ap (charge_listed space container (page_room h.columns) slot) there ∙ ap (λ (b : Bool). if b then places_charge (page_room h.columns) s.regular (places_of slot space) else 0) test
]

pub own_charged : (d : Definitions) (space : Directory) (slot : ℕ) (s : SeriesDef) (h : Heading) → at_slot slot d.series ≡ Some s → heading_in d s.container ≡ Some h → charged_to d space s.container slot ≡ places_charge (page_room h.columns) s.regular (places_of slot space)
own_charged d space slot s h there heading =
    let test : (s.container == s.container) ≡ true = grind (arith, nat_tests) in
    ap (λ (o : Option Heading). unwrap_or (option_map (λ x. charge_listed space s.container (page_room x.columns) slot (at_slot slot d.series)) o) 0) heading
    ∙ ap (charge_listed space s.container (page_room h.columns) slot) there
    ∙ ap (λ (b : Bool). if b then places_charge (page_room h.columns) s.regular (places_of slot space) else 0) test

-- what an empty slot is charged, by what stands in the slots of all kinds
no_series : (o : Option SeriesDef) → option_map of_series o ≡ None → o ≡ None
no_series None none = refl
no_series (Some s) none = absurd (let never : ⊥ = cc in never)

pub empty_charged : (d : Definitions) (space : Directory) (container slot : ℕ) → at_slot slot (slots kinds.Series d) ≡ None → charged_to d space container slot ≡ 0
empty_charged d space container slot empty = none_charged d space container slot (no_series (at_slot slot d.series) (sym (at_slot-map of_series slot d.series) ∙ empty))

one_series : (o : Option SeriesDef) (key : List ℕ) (container : ℕ) (regular : Option (ℕ × ℤ)) → option_map of_series o ≡ Some (defs.Series key container regular) → o ≡ Some (record { key = key; container = container; regular = regular })
one_series None key container regular is = absurd (let never : ⊥ = cc in never)
one_series (Some s) key container regular is =
    let keys : s.key ≡ key = cc in
    let containers : s.container ≡ container = cc in
    let regulars : s.regular ≡ regular = cc in
    λ i. Some (record { key = keys i; container = containers i; regular = regulars i })

module _ (d : Definitions) (space : Directory) (slot : ℕ) (key : List ℕ) (container : ℕ) (regular : Option (ℕ × ℤ)) (is : at_slot slot (slots kinds.Series d) ≡ Some (defs.Series key container regular)) where
  abbrev this : SeriesDef
  this = record { key = key; container = container; regular = regular }

  there : at_slot slot d.series ≡ Some this
  there = one_series (at_slot slot d.series) key container regular (sym (at_slot-map of_series slot d.series) ∙ is)

  -- the sums with what a series is charged added to that of its container
  pub series_added : (h : Heading) (sums : List ℕ) (charge : ℕ) → Some h ≡ heading_in d container → charge ≡ places_charge (page_room h.columns) regular (places_of slot space) → container < length sums
      → (k : ℕ) → get_or (set sums container (get_or sums container 0 + charge)) k 0 ≡ get_or sums k 0 + charged_to d space k slot
  series_added h sums charge heading cost within k =
      let v : ℕ = get_or sums container 0 + charge in
      elim (cases_eq k container) [
        | inl same ↦
            let read : get_or (set sums container v) k 0 ≡ v = ap (λ (i : ℕ). get_or (set sums container v) i 0) same ∙ get_or-set_same sums container v 0 within in
            let old : get_or sums k 0 ≡ get_or sums container 0 = ap (λ (i : ℕ). get_or sums i 0) same in
            let own : charged_to d space k slot ≡ charge = ap (λ (i : ℕ). charged_to d space i slot) same ∙ own_charged d space slot this h there (sym heading) ∙ sym cost in
            omega (arith, read, old, own)
        | inr other ↦
            let read = get_or-set_other sums container k v 0 other in
            let own = other_charged d space k slot this there other in
            omega (arith, read, own)
      ]

-- an element of a list is the same whatever is read behind the list
pub read_within : (xs : List ℕ) (k x : ℕ) → k < length xs → x ≡ get_or xs k x → x ≡ get_or xs k 0
read_within [] k x within is = absurd (omega (arith, within))
read_within (y ∷ xs) zero x within is = is
read_within (y ∷ xs) (suc k) x within is = read_within xs k x (omega (arith, within)) is
