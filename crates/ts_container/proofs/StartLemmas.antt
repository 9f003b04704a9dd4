-- The elements in cells have on starts where the last of them has one.
use Rattle.std.specs.Prelude.{All}
use Rattle.std.proofs.Common.{◌≡◌, ℕ, suc, ◌+◌, ◌-◌, ◌<◌, ◌≤◌, ◌^◌, Option, Some, None, IsSome, List, [], ◌∷◌, length, slice_get, refl, sym, ap, subst, ◌∙◌, arith, append-nil}
use Rattle.std.specs.Option.{option_map}
use Rattle.std.proofs.lemmas.List.Elements.{All-nil, All-cons, All-weaker}
use Rattle.std.proofs.lemmas.Option.{slice_get_within, slice_get-get_or, get_or_from_slice_get}
use Rattle.ts_offset.specs.Grid.{GridPlan, starts_of, stamp_of}
use Rattle.ts_regular.specs.declared.extent.RegularExtent.{RegularExtent}
use Rattle.ts_regular.specs.RegularPage.{Cell, OffsetElement, elements_from, AreRising, last_of, last_offset, HasExtent}
use Rattle.ts_regular.proofs.CellsLemmas.{rising_cells}
use Rattle.ts_sheets.specs.Stamped.{HaveStarts}
use Rattle.ts_sheets.proofs.StartLemmas.{few_starts}

there_is : {A : Type 0} (o : Option A) → IsSome o → (a : A) × (o ≡ Some a)
there_is None some = absurd (cc)
there_is (Some a) some = (a, refl)

is_there : {A : Type 0} (o : Option A) (a : A) → o ≡ Some a → IsSome o
is_there o a is = subst (λ x. IsSome x) (sym is) refl

-- a lower offset has an on start too
stamp_below : (grid : GridPlan) (m n : ℕ) → m ≤ n → IsSome (stamp_of grid n) → IsSome (stamp_of grid m)
stamp_below grid m n below some =
    let s = there_is (stamp_of grid n) some in
    let within = slice_get_within (starts_of grid) n s.0 s.1 in
    is_there (stamp_of grid m) _ (slice_get-get_or (starts_of grid) m s.0 (omega (arith, below, within)))

-- no offset is above the last
last_more : (x y : OffsetElement) (ys : List OffsetElement) → last_of (x ∷ y ∷ ys) ≡ last_of (y ∷ ys)
last_more x y ys = ap (slice_get (x ∷ y ∷ ys)) (let one : length (x ∷ y ∷ ys) - 1 ≡ suc (length (y ∷ ys) - 1) = omega arith in one)

below_last : (es : List OffsetElement) (last : ℕ) → AreRising es → last_offset es ≡ Some last → All (λ e. e.0 ≤ last) es
below_last [] last rising is = All-nil (λ (e : OffsetElement). e.0 ≤ last)
below_last (e ∷ []) last rising is =
    let same : e.0 ≡ last = cc in
    All-cons (λ (x : OffsetElement). x.0 ≤ last) e [] (omega (arith, same)) (All-nil (λ (x : OffsetElement). x.0 ≤ last))
below_last (e ∷ f ∷ es) last rising is =
    let rest = below_last (f ∷ es) last rising.1 (sym (ap (option_map (λ (x : OffsetElement). x.0)) (last_more e f es)) ∙ is) in
    let next = rest 0 f (omega arith) in
    let up = rising.0 in
    All-cons (λ (x : OffsetElement). x.0 ≤ last) e (f ∷ es) (omega (arith, next, up)) rest

rising_alone : (base : ℕ) (cells : List Cell) → AreRising (elements_from base cells)
rising_alone base cells = subst AreRising (append-nil (elements_from base cells)) (rising_cells base cells [] (λ n below. tt) tt)

-- so all have where the last has
pub starts_all : (grid : GridPlan) (base : ℕ) (cells : List Cell) (extent : RegularExtent) → HasExtent base cells extent → IsSome (stamp_of grid (base + extent.last)) → HaveStarts grid (elements_from base cells)
starts_all grid base cells extent has some =
    All-weaker (λ e. e.0 ≤ base + extent.last) (λ e. IsSome (stamp_of grid e.0)) (λ e low. stamp_below grid e.0 (base + extent.last) low some) (elements_from base cells)
    (below_last (elements_from base cells) (base + extent.last) (rising_alone base cells) has.last)

-- and the last has where all have
its_offset : (o : Option OffsetElement) (n : ℕ) → option_map (λ (e : OffsetElement). e.0) o ≡ Some n → (e : OffsetElement) × (o ≡ Some e) × (e.0 ≡ n)
its_offset None n is = absurd (cc)
its_offset (Some e) n is = (e, refl, let same : e.0 ≡ n = cc in same)

pub start_last : (grid : GridPlan) (base : ℕ) (cells : List Cell) (extent : RegularExtent) → HasExtent base cells extent → HaveStarts grid (elements_from base cells) → IsSome (stamp_of grid (base + extent.last))
start_last grid base cells extent has all =
    let es : List OffsetElement = elements_from base cells in
    let last = its_offset (last_of es) (base + extent.last) has.last in
    let within = slice_get_within es (length es - 1) last.0 last.1 in
    let is = get_or_from_slice_get es (length es - 1) last.0 last.0 last.1 in
    subst (λ (n : ℕ). IsSome (stamp_of grid n)) (ap (λ (e : OffsetElement). e.0) is ∙ last.2) (all (length es - 1) last.0 within)

-- an offset with an on start is not so great
pub few_with_start : (grid : GridPlan) (n : ℕ) → IsSome (stamp_of grid n) → n < 2 ^ 63
few_with_start grid n some = let s = there_is (stamp_of grid n) some in few_starts grid n s.0 s.1
