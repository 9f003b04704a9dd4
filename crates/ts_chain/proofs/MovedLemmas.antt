-- The places of a series after a change of them.
use Rattle.std.proofs.Common.{◌≡◌, ◌≢◌, ℕ, zero, suc, ◌<◌, Bool, All, AllPairs, List, [], ◌∷◌, ◌++◌, length, get_or, refl, sym, subst, arith}
use Rattle.std.specs.Prelude.{Contains}
use Rattle.std.proofs.lemmas.List.Elements.{All-nil, All-cons, All-append, All-head, All-tail, All-weaker}
use Rattle.std.proofs.lemmas.List.Kept.{AllPairs-cons}
use Rattle.std.proofs.lemmas.List.Sorted.{All-permutation}
use Rattle.ts_space.specs.declared.place.Place.{Place}
use Rattle.ts_space.specs.Place.{pages_of}
use Rattle.ts_page.specs.Pages.{Contents, IsElementPage, IsLawful, IsListed}
use Rattle.ts_row.specs.declared.kind.Column.{Column}
use Rattle.ts_irregular.specs.OnePage.{IsPlace}
use Rattle.ts_sheets.specs.Places.{AreMoved, ArePlaces, CanBeFreed, CanBeRead, IsCounted}
use Rattle.ts_chain.proofs.FreeLemmas.{pairs_moved}
use Rattle.ts_chain.proofs.PutLemmas.{apart_parts, pairs_from, place_used}

-- an element page of the volume
record IsWithin (c : Contents) (number : ℕ) : Type 0 where
  element : IsElementPage number
  below : number < c.count

-- two lists of different numbers that share none
both_apart : (xs ys : List ℕ) → AllPairs (λ a b. a ≢ b) xs → AllPairs (λ a b. a ≢ b) ys → ((n : ℕ) → Contains ys n → ¬ Contains xs n) → AllPairs (λ a b. a ≢ b) (xs ++ ys)
both_apart [] ys first second apart = second
both_apart (x ∷ xs) ys first second apart =
    AllPairs-cons (λ a b. a ≢ b) x (xs ++ ys)
    (All-append (λ b. x ≢ b) xs ys (λ k d within. first 0 (suc k) d (omega arith) (omega (arith, within)))
    (λ k d within same. apart x (k, within, found ys k d within same) (0, omega arith, refl)))
    (both_apart xs ys (λ i j d before within. first (suc i) (suc j) d (omega (arith, before)) (omega (arith, within))) second
    (λ n has own. apart n has (suc own.0, (let below = own.1 in omega (arith, below)), own.2)))
  where
    found : (ys : List ℕ) (k : ℕ) (d : ℕ) → k < length ys → x ≡ get_or ys k d → get_or ys k x ≡ x
    found [] k d within same = absurd (omega (arith, within))
    found (y ∷ ys) zero d within same = sym same
    found (y ∷ ys) (suc k) d within same = found ys k d (omega (arith, within)) same

pages_within : (columns : List Column) (c : Contents) (places : List Place) → All (IsPlace columns c) places → All (IsWithin c) (pages_of places)
pages_within columns c [] each = All-nil (IsWithin c)
pages_within columns c (p ∷ places) each =
    let is = All-head (IsPlace columns c) p places each in
    All-cons (IsWithin c) p.page (pages_of places) (record { element = is.element; below = is.below }) (pages_within columns c places (All-tail (IsPlace columns c) p places each))

pub places_readable : (columns : List Column) (c : Contents) (places : List Place) → ArePlaces columns c places → All (CanBeRead c) places
places_readable columns c places are = All-weaker (IsPlace columns c) (CanBeRead c) (λ p is. record { element = is.element; below = is.below }) places are.each

pub places_freeable : (columns : List Column) (c : Contents) (places : List Place) → ArePlaces columns c places → All (CanBeFreed c) (pages_of places)
places_freeable columns c places are = freeable places are.each
  where
    freeable : (places : List Place) → All (IsPlace columns c) places → All (CanBeFreed c) (pages_of places)
    freeable [] each = All-nil (CanBeFreed c)
    freeable (p ∷ places) each =
        let is = All-head (IsPlace columns c) p places each in
        All-cons (CanBeFreed c) p.page (pages_of places) (record { element = is.element; below = is.below; used = is.used }) (freeable places (All-tail (IsPlace columns c) p places each))

-- they are places again
pub moved_are : (tells : Bool) (columns : List Column) (old new : List Place) (v w : Contents) → IsLawful tells v → ArePlaces columns v old → AreMoved columns old new v w → w.count ≡ v.count → ArePlaces columns w new
moved_are tells columns old new v w lawful are moved count =
    let all : AllPairs (λ a b. a ≢ b) (v.free ++ pages_of old) = both_apart v.free (pages_of old) lawful.different are.different (λ n has. place_used columns v old are.each n has) in
    let within : All (IsWithin v) (v.free ++ pages_of old) =
    All-append (IsWithin v) v.free (pages_of old) (All-weaker (IsListed tells v) (IsWithin v) (λ n is. record { element = is.element; below = is.below }) v.free lawful.listed) (pages_within columns v old are.each) in
    let pairs = pairs_moved (v.free ++ pages_of old) (w.free ++ pages_of new) moved.pages all in
    let there = All-permutation (IsWithin v) (v.free ++ pages_of old) (w.free ++ pages_of new) moved.pages within in
    record {
      each = each_of new moved.counts (rest_of w.free (pages_of new) there) (λ n own free. apart_parts w.free (pages_of new) pairs n free own);
      different = pairs_from w.free (pages_of new) pairs;
    }
  where
    rest_of : (xs ys : List ℕ) → All (IsWithin v) (xs ++ ys) → All (IsWithin v) ys
    rest_of [] ys all = all
    rest_of (x ∷ xs) ys all = rest_of xs ys (All-tail (IsWithin v) x (xs ++ ys) all)

    each_of : (places : List Place) → All (IsCounted columns) places → All (IsWithin v) (pages_of places) → ((n : ℕ) → Contains (pages_of places) n → ¬ Contains w.free n) → All (IsPlace columns w) places
    each_of [] counted within used = All-nil (IsPlace columns w)
    each_of (p ∷ places) counted within used =
        let c = All-head (IsCounted columns) p places counted in
        let i = All-head (IsWithin v) p.page (pages_of places) within in
        All-cons (IsPlace columns w) p places
        (record { element = i.element; below = subst (λ (n : ℕ). p.page < n) (sym count) i.below; used = used p.page (0, omega arith, refl); some = c.some; room = c.room })
        (each_of places (All-tail (IsCounted columns) p places counted) (All-tail (IsWithin v) p.page (pages_of places) within)
        (λ n has. used n (suc has.0, (let below = has.1 in omega (arith, below)), has.2)))

-- they can be read as long as the pages are as many
pub places_read : (columns : List Column) (places : List Place) (v w : Contents) → ArePlaces columns v places → w.count ≡ v.count → All (CanBeRead w) places
places_read columns places v w are count =
    All-weaker (CanBeRead v) (CanBeRead w) (λ p is. record { element = is.element; below = subst (λ (n : ℕ). p.page < n) (sym count) is.below }) places (places_readable columns v places are)
