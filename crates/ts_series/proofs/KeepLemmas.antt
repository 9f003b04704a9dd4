-- The places that a range stands on, with those joined to them, as parts of all.
use Rattle.std.proofs.Common.{◌≡◌, ◌≢◌, ℕ, zero, suc, ◌+◌, ◌-◌, ◌<◌, ◌≤◌, AllPairs, Bool, IsTrue, List, [], ◌∷◌, ◌++◌, length, get_or, take, drop, refl, sym, ap, subst, ◌∙◌, arith, append_assoc, length-append}
use Rattle.std.specs.Prelude.{IsPermutation}
use Rattle.std.proofs.lemmas.List.{take_at, drop_at}
use Rattle.std.proofs.lemmas.List.Elements.{All-take, All-drop}
use Rattle.ts_space.specs.declared.place.Place.{Place}
use Rattle.ts_space.specs.Place.{IsRising, pages_of}
use Rattle.ts_page.specs.Pages.{Contents, EqualPages}
use Rattle.ts_row.specs.declared.kind.Column.{Column}
use Rattle.ts_irregular.specs.OnePage.{IsOn, IsPlace}
use Rattle.ts_sheets.specs.Places.{AreChained, ArePlaces}
use Rattle.ts_chain.proofs.RestLemmas.{places_same}
use Rattle.ts_series.specs.declared.joins.Joins.{Joins}
use Rattle.ts_row.specs.Row.{Element}
use Rattle.ts_series.specs.Ends.{AreParts, AreKept, CanBegin}
use Rattle.ts_series.proofs.LayLemmas.{pairs_rest, rest_all, rising_back_of}

-- some in the middle
pub slice_mid : (places front mid back : List Place) (a b : ℕ) → places ≡ front ++ (mid ++ back) → length front ≡ a → length front + length mid ≡ b → take (b - a) (drop a places) ≡ mid
slice_mid places front mid back a b parts first last =
    ap (λ (l : List Place). take (b - a) (drop a l)) parts ∙ ap (take (b - a)) (drop_at front (mid ++ back) a first) ∙ take_at mid back (b - a) (omega (arith, first, last))

slice_back : (places front back : List Place) (a : ℕ) → places ≡ front ++ back → length front ≡ a → take (length places - a) (drop a places) ≡ back
slice_back places front back a parts first = rest_all a places ∙ ap (drop a) parts ∙ drop_at front back a first

module _ (places : List Place) (first stop : ℕ) (joins : Joins) (p : AreParts places first stop joins) where
  abbrev pub gone : List Place
  gone = p.before ++ (p.mid ++ p.behind)

  pub gone_parts : places ≡ p.front ++ (gone ++ p.back)
  gone_parts = p.parts ∙ ap (λ (l : List Place). p.front ++ l) (sym (append_assoc p.before (p.mid ++ p.behind) p.back ∙ ap (λ (l : List Place). p.before ++ l) (append_assoc p.mid p.behind p.back)))

  pub before_slice : take (first - (first - joins.before)) (drop (first - joins.before) places) ≡ p.before
  before_slice = slice_mid places p.front p.before (p.mid ++ (p.behind ++ p.back)) (first - joins.before) first p.parts (omega (arith, p.first_is, p.before_is)) p.first_is

  pub behind_slice : take ((stop + joins.behind) - stop) (drop stop places) ≡ p.behind
  behind_slice =
      let whole : places ≡ (p.front ++ (p.before ++ p.mid)) ++ (p.behind ++ p.back) =
      p.parts ∙ sym (append_assoc p.front (p.before ++ p.mid) (p.behind ++ p.back) ∙ ap (λ (l : List Place). p.front ++ l) (append_assoc p.before p.mid (p.behind ++ p.back))) in
      let long : length (p.front ++ (p.before ++ p.mid)) ≡ stop = omega (arith, length-append p.front (p.before ++ p.mid), length-append p.before p.mid, p.stop_is) in
      slice_mid places (p.front ++ (p.before ++ p.mid)) p.behind p.back stop (stop + joins.behind) whole long (omega (arith, long, p.behind_is))

  gone_long : length gone ≡ length p.before + (length p.mid + length p.behind)
  gone_long = omega (arith, length-append p.before (p.mid ++ p.behind), length-append p.mid p.behind)

  pub gone_slice : take ((stop + joins.behind) - (first - joins.before)) (drop (first - joins.before) places) ≡ gone
  gone_slice =
      slice_mid places p.front gone p.back (first - joins.before) (stop + joins.behind) gone_parts (omega (arith, p.first_is, p.before_is)) (omega (arith, gone_long, p.stop_is, p.behind_is))

  pub back_slice : take (length places - (stop + joins.behind)) (drop (stop + joins.behind) places) ≡ p.back
  back_slice =
      slice_back places (p.front ++ gone) p.back (stop + joins.behind) (gone_parts ∙ sym (append_assoc p.front gone p.back)) (omega (arith, length-append p.front gone, gone_long, p.stop_is, p.behind_is))

  pub gone_rising : IsRising places → IsRising (gone ++ p.back)
  gone_rising rising = rising_back_of p.front (gone ++ p.back) (subst IsRising gone_parts rising)

  pub gone_many : 1 ≤ length gone
  gone_many = let some = p.some in omega (arith, gone_long, some)

  pub gone_index : (first - joins.before ≡ length p.front) × ((stop + joins.behind) - (first - joins.before) ≡ length gone)
  gone_index = (omega (arith, p.first_is, p.before_is), omega (arith, gone_long, p.first_is, p.before_is, p.stop_is, p.behind_is))

  pub gone_within : length gone ≤ length places
  gone_within = omega (arith, ap length gone_parts, length-append p.front (gone ++ p.back), length-append gone p.back)

  -- what was said of these parts as slices
  pub slices_rising :
      IsRising places
      → IsRising (take ((stop + joins.behind) - (first - joins.before)) (drop (first - joins.before) places) ++ take (length places - (stop + joins.behind)) (drop (stop + joins.behind) places))
  slices_rising rising =
      subst (λ (l : List Place). IsRising (l ++ take (length places - (stop + joins.behind)) (drop (stop + joins.behind) places))) (sym gone_slice)
      (subst (λ (l : List Place). IsRising (gone ++ l)) (sym back_slice) (gone_rising rising))

  pub kept_slices : (tells : Bool) (columns : List Column) (come : List Place) (v w : Contents)
      → AreKept tells columns (take ((stop + joins.behind) - (first - joins.before)) (drop (first - joins.before) places)) come (take (length places - (stop + joins.behind)) (drop (stop + joins.behind) places)) v w
      → AreKept tells columns gone come p.back v w
  kept_slices tells columns come v w kept =
      subst (λ (l : List Place). AreKept tells columns gone come l v w) back_slice
      (subst (λ (l : List Place). AreKept tells columns l come (take (length places - (stop + joins.behind)) (drop (stop + joins.behind) places)) v w) gone_slice kept)

  pub begin_slices : (apart : Bool) (xs ys : List Element) → CanBegin apart gone p.back xs ys
      → CanBegin apart (take ((stop + joins.behind) - (first - joins.before)) (drop (first - joins.before) places)) (take (length places - (stop + joins.behind)) (drop (stop + joins.behind) places)) xs ys
  begin_slices apart xs ys can =
      subst (λ (l : List Place). CanBegin apart l (take (length places - (stop + joins.behind)) (drop (stop + joins.behind) places)) xs ys) (sym gone_slice)
      (subst (λ (l : List Place). CanBegin apart gone l xs ys) (sym back_slice) can)

  pub two_slices : 2 ≤ length p.mid → 2 ≤ length (take ((stop + joins.behind) - (first - joins.before)) (drop (first - joins.before) places))
  two_slices two = let long : length (take ((stop + joins.behind) - (first - joins.before)) (drop (first - joins.before) places)) ≡ length gone = ap length gone_slice in omega (arith, long, gone_long, two)

-- what holds of a part of the places
taken_at : (n : ℕ) (places : List Place) (i d : ℕ) → i < length (pages_of (take n places)) → (get_or (pages_of (take n places)) i d ≡ get_or (pages_of places) i d) × (i < length (pages_of places))
taken_at zero places i d within = absurd (omega (arith, within))
taken_at (suc n) [] i d within = absurd (omega (arith, within))
taken_at (suc n) (p ∷ places) zero d within = (refl, omega arith)
taken_at (suc n) (p ∷ places) (suc i) d within =
    let rest = taken_at n places i d (omega (arith, within)) in
    let below = rest.1 in
    (rest.0, omega (arith, below))

pairs_first : (n : ℕ) (places : List Place) → AllPairs (λ a b. a ≢ b) (pages_of places) → AllPairs (λ a b. a ≢ b) (pages_of (take n places))
pairs_first n places pairs i j d before within same =
    let first = taken_at n places i d (omega (arith, before, within)) in
    let second = taken_at n places j d within in
    pairs i j d before second.1 (sym first.0 ∙ same ∙ second.0)

pub places_part : (columns : List Column) (c : Contents) (n k : ℕ) (places : List Place) → ArePlaces columns c places → ArePlaces columns c (take n (drop k places))
places_part columns c n k places are = record {
  each = All-take (IsPlace columns c) n (drop k places) (All-drop (IsPlace columns c) k places are.each);
  different = pairs_first n (drop k places) (pairs_rest k places are.different);
}

pub part_since : (columns : List Column) (v u : Contents) (n k : ℕ) (places : List Place) → u.count ≡ v.count → u.free ≡ v.free → ArePlaces columns v places → ArePlaces columns u (take n (drop k places))
part_since columns v u n k places count free are = places_same columns v u (take n (drop k places)) count free (places_part columns v n k places are)

-- what was said of pages that were read before
pub kept_since : (tells : Bool) (columns : List Column) (gone come back : List Place) (v u w : Contents) → u.free ≡ v.free → (IsTrue tells → EqualPages v.page u.page) → AreKept tells columns gone come back u w → AreKept tells columns gone come back v w
kept_since tells columns gone come back v u w free same kept = record {
  pages = subst (λ (l : List ℕ). IsPermutation (l ++ pages_of gone) (w.free ++ pages_of come)) free kept.pages;
  counts = kept.counts;
  rising = kept.rising;
  begins = kept.begins;
  others = λ told n not. kept.others told n not ∙ same told n;
}

pub chained_since : (slot : ℕ) (columns : List Column) (v u : ℕ → List ℕ) (places : List Place) (chain : List (List Element)) → EqualPages v u → AreChained slot columns v places chain → AreChained slot columns u places chain
chained_since slot columns v u [] [] same on = tt
chained_since slot columns v u [] (es ∷ chain) same on = absurd on
chained_since slot columns v u (p ∷ places) [] same on = absurd on
chained_since slot columns v u (p ∷ places) (es ∷ chain) same on = (subst (λ (b : List ℕ). IsOn slot columns b p es) (sym (same p.page)) on.0, chained_since slot columns v u places chain same on.1)
