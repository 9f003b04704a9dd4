-- What containers are charged, when a definition comes or goes on which no charge depends.
use Rattle.std.proofs.Common.{◌≡◌, ℕ, zero, suc, ◌+◌, ◌==◌, if◌then◌else◌, Bool, true, false, Option, Some, None, List, [], ◌∷◌, set, refl, sym, ap, ◌∙◌, arith}
use Rattle.std.specs.Option.{option_map, option_and_then, unwrap_or}
use Rattle.ts_row.specs.Row.{Heading}
use Rattle.ts_space.specs.Directory.{Directory, places_of}
use Rattle.ts_cells.specs.IrregularPage.{page_room}
use Rattle.ts_model.specs.declared.kind.Kind.{Kind}
use Rattle.ts_model.specs.declared.kind.Kind.TheVariants as kinds
use Rattle.ts_model.specs.declared.def.Def.{Def}
use Rattle.ts_model.specs.Definitions.{Definitions, SeriesDef, from_def, with_slot}
use Rattle.ts_layout.specs.Meaning.{heading_in}
use Rattle.ts_layout.specs.Charges.{places_charge, charge_listed, charges_listed, container_charge}
use Rattle.ts_layout.proofs.CallerLemmas.{nothing_charged}
use Rattle.ts_container.specs.KeptCharges.{AreCharges}
use Rattle.ts_effects.specs.Charged.{IsNeverCharged}

-- a series without places is charged nothing
none_if : (b : Bool) (n : ℕ) → n ≡ 0 → ◌≡◌ {A = ℕ} (if b then n else 0) 0
none_if true n is = is
none_if false n is = refl

unplaced : (space : Directory) (k q slot : ℕ) (o : Option SeriesDef) → places_of slot space ≡ [] → charge_listed space k q slot o ≡ 0
unplaced space k q slot None is = refl
unplaced space k q slot (Some s) is = none_if (s.container == k) (places_charge q s.regular (places_of slot space)) (ap (places_charge q s.regular) is ∙ nothing_charged q s.regular)

listed_unplaced : (space : Directory) (k q first i slot : ℕ) (o : Option SeriesDef) (table : List (Option SeriesDef)) → slot ≡ first + i → places_of slot space ≡ [] → charges_listed space k q first (set table i o) ≡ charges_listed space k q first table
listed_unplaced space k q first i slot o [] at is = refl
listed_unplaced space k q first zero slot o (x ∷ table) at is =
    let here : places_of first space ≡ [] = ap (λ (n : ℕ). places_of n space) (let e : first ≡ slot = omega (arith, at) in e) ∙ is in
    ap (λ (n : ℕ). n + charges_listed space k q (suc first) table) (unplaced space k q first o here ∙ sym (unplaced space k q first x here))
listed_unplaced space k q first (suc i) slot o (x ∷ table) at is =
    ap (λ (n : ℕ). charge_listed space k q first x + n) (listed_unplaced space k q (suc first) i slot o table (omega (arith, at)) is)

charge_by : (d : Definitions) (space : Directory) (table : List (Option SeriesDef)) (k : ℕ) (o : Option Heading) → ((q : ℕ) → charges_listed space k q 0 table ≡ charges_listed space k q 0 d.series)
    → unwrap_or (option_map (λ h. charges_listed space k (page_room h.columns) 0 table) o) 0 ≡ unwrap_or (option_map (λ h. container_charge d space k (page_room h.columns)) o) 0
charge_by d space table k None same = refl
charge_by d space table k (Some h) same = same (page_room h.columns)

-- so sums stay right
pub charges_stay : (d : Definitions) (space : Directory) (slot : ℕ) (def : Option Def) (sums : List ℕ) → places_of slot space ≡ [] → AreCharges sums d space → AreCharges sums (with_slot kinds.Series slot def d) space
charges_stay d space slot def sums none are k below =
    are k below ∙ sym (charge_by d space (set d.series slot (option_and_then (from_def kinds.Series) def)) k (heading_in d k) (λ q. listed_unplaced space k q 0 slot slot (option_and_then (from_def kinds.Series) def) d.series (omega arith) none))

-- and so they do with any definition on which no charge depends
pub charges_stay_with : (kind : Kind) (d : Definitions) (space : Directory) (slot : ℕ) (def : Option Def) (sums : List ℕ) → IsNeverCharged kind slot space → AreCharges sums d space → AreCharges sums (with_slot kind slot def d) space
charges_stay_with kinds.RowType d space slot def sums never are = absurd never
charges_stay_with kinds.Pattern d space slot def sums never are = are
charges_stay_with kinds.Calendar d space slot def sums never are = are
charges_stay_with kinds.Container d space slot def sums never are = absurd never
charges_stay_with kinds.Series d space slot def sums never are = charges_stay d space slot def sums never are
