-- What containers are charged by a directory of which one list changes.
use Rattle.std.proofs.Common.{◌≡◌, ◌≢◌, ℕ, zero, suc, ◌+◌, ◌<◌, ◌≤◌, ◌==◌, true, false, if◌then◌else◌, Option, Some, None, List, [], ◌∷◌, length, refl, sym, subst, ◌∙◌, arith}
use Rattle.std.proofs.lemmas.Bool.Decides.{nat_tests}
use Rattle.ts_space.specs.Directory.{Directory, places_of}
use Rattle.ts_model.specs.Definitions.{Definitions, SeriesDef, at_slot, IsDefinitions}
use Rattle.ts_layout.specs.Charges.{places_charge, charge_listed, charges_listed, container_charge}

-- a slot of which the places stay
listed_same : (space space' : Directory) (container room slot : ℕ) (o : Option SeriesDef) → places_of slot space' ≡ places_of slot space → charge_listed space' container room slot o ≡ charge_listed space container room slot o
listed_same space space' container room slot None same = refl
listed_same space space' container room slot (Some s) same = λ i. if s.container == container then places_charge room s.regular (same i) else 0

-- slots of which all places stay
charges_same : (space space' : Directory) (container room first : ℕ) (table : List (Option SeriesDef)) → ((t : ℕ) → first ≤ t → t < first + length table → places_of t space' ≡ places_of t space)
    → charges_listed space' container room first table ≡ charges_listed space container room first table
charges_same space space' container room first [] same = refl
charges_same space space' container room first (o ∷ table) same =
    let here = listed_same space space' container room first o (same first (omega arith) (omega arith)) in
    let rest = charges_same space space' container room (suc first) table (λ t above below. same t (omega (arith, above)) (omega (arith, below))) in
    λ i. here i + rest i

-- slots of which one has other places
charges_one : (space space' : Directory) (container room first j : ℕ) (table : List (Option SeriesDef)) (s : SeriesDef) → at_slot j table ≡ Some s → ((t : ℕ) → first ≤ t → t < first + length table → t ≢ first + j → places_of t space' ≡ places_of t space)
    → charges_listed space' container room first table + charge_listed space container room (first + j) (Some s) ≡ charges_listed space container room first table + charge_listed space' container room (first + j) (Some s)
charges_one space space' container room first j [] s there same = absurd (let never : ⊥ = cc in never)
charges_one space space' container room first zero (o ∷ table) s there same =
    let at : first ≡ first + 0 = omega arith in
    let rest = charges_same space space' container room (suc first) table (λ t above below. same t (omega (arith, above)) (omega (arith, below)) (behind t first above)) in
    let old : charge_listed space container room first o ≡ charge_listed space container room (first + 0) (Some s) = λ i. charge_listed space container room (at i) (there i) in
    let new : charge_listed space' container room first o ≡ charge_listed space' container room (first + 0) (Some s) = λ i. charge_listed space' container room (at i) (there i) in
    omega (arith, rest, old, new) where
      behind : (t first : ℕ) → suc first ≤ t → t ≢ first + 0
      behind t first above is = omega arith
charges_one space space' container room first (suc j) (o ∷ table) s there same =
    let at : suc first + j ≡ first + suc j = omega arith in
    let here = listed_same space space' container room first o (same first (omega arith) (omega arith) (ahead first j)) in
    let rest = charges_one space space' container room (suc first) j table s there (λ t above below other. same t (omega (arith, above)) (omega (arith, below)) (λ is. other (is ∙ sym at))) in
    let both = subst (λ (n : ℕ). charges_listed space' container room (suc first) table + charge_listed space container room n (Some s) ≡ charges_listed space container room (suc first) table + charge_listed space' container room n (Some s)) at rest in
    omega (arith, here, both) where
      ahead : (first j : ℕ) → first ≢ first + suc j
      ahead first j is = omega arith

charged_own : (space : Directory) (room slot n : ℕ) (s : SeriesDef) → n ≡ slot → charge_listed space s.container room n (Some s) ≡ places_charge room s.regular (places_of slot space)
charged_own space room slot n s is =
    let t : (s.container == s.container) ≡ true = grind (arith, nat_tests) in
    (λ i. if t i then places_charge room s.regular (places_of (is i) space) else 0)

charged_other : (space : Directory) (container room n : ℕ) (s : SeriesDef) → container ≢ s.container → charge_listed space container room n (Some s) ≡ 0
charged_other space container room n s other =
    let f : (s.container == container) ≡ false = grind (arith, nat_tests) in
    (λ i. if f i then places_charge room s.regular (places_of n space) else 0)

-- the container of a series of which the places change
pub charge_own : (d : Definitions) (space space' : Directory) (slot : ℕ) (s : SeriesDef) (room : ℕ) → IsDefinitions d → at_slot slot d.series ≡ Some s → ((t : ℕ) → t < 4096 → t ≢ slot → places_of t space' ≡ places_of t space)
    → container_charge d space' s.container room + places_charge room s.regular (places_of slot space) ≡ container_charge d space s.container room + places_charge room s.regular (places_of slot space')
charge_own d space space' slot s room rules there same =
    let at : 0 + slot ≡ slot = omega arith in
    let both = charges_one space space' s.container room 0 slot d.series s there (λ t above below other. same t (omega (arith, below, rules.series.size)) (λ is. other (is ∙ sym at))) in
    omega (arith, both, charged_own space room slot (0 + slot) s at, charged_own space' room slot (0 + slot) s at)

-- every other container
pub charge_others : (d : Definitions) (space space' : Directory) (slot : ℕ) (s : SeriesDef) (container room : ℕ) → IsDefinitions d → at_slot slot d.series ≡ Some s → ((t : ℕ) → t < 4096 → t ≢ slot → places_of t space' ≡ places_of t space) → container ≢ s.container
    → container_charge d space' container room ≡ container_charge d space container room
charge_others d space space' slot s container room rules there same other =
    let at : 0 + slot ≡ slot = omega arith in
    let both = charges_one space space' container room 0 slot d.series s there (λ t above below apart. same t (omega (arith, below, rules.series.size)) (λ is. apart (is ∙ sym at))) in
    omega (arith, both, charged_other space container room (0 + slot) s other, charged_other space' container room (0 + slot) s other)
