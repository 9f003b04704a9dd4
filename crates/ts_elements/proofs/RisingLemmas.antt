-- Rising offsets with one more.
use Rattle.std.proofs.Common.{ℕ, ◌<◌, List, [], ◌∷◌, sym, subst, arith}
use Rattle.ts_row.specs.Row.{Row}
use Rattle.ts_regular.specs.RegularPage.{OffsetElement, AreRising, with_element}
use Rattle.ts_regular.proofs.OffsetLemmas.{AreMore, by_order, rising_first, with_above, with_below, with_same}

more_lower : (m n : ℕ) (es : List OffsetElement) → m < n → AreMore n es → AreMore m es
more_lower m n [] below more = tt
more_lower m n (e ∷ es) below more = let first = more.0 in (omega (arith, below, first), more_lower m n es below more.1)

more_of : (e : OffsetElement) (es : List OffsetElement) → AreRising (e ∷ es) → AreMore e.0 es
more_of e [] rising = tt
more_of e (f ∷ es) rising = (rising.0, more_lower e.0 f.0 es rising.0 (more_of f es rising.1))

rising_tail : (e : OffsetElement) (es : List OffsetElement) → AreRising (e ∷ es) → AreRising es
rising_tail e [] rising = tt
rising_tail e (f ∷ es) rising = rising.1

more_put : (m n : ℕ) (row : Row) (es : List OffsetElement) → m < n → AreMore m es → AreMore m (with_element n row es)
more_put m n row [] below more = (below, tt)
more_put m n row (e ∷ es) below more = by_order n e.0 (AreMore m (with_element n row (e ∷ es)))
    (λ less. subst (AreMore m) (sym (with_above n row e es less)) (below, more))
    (λ same. subst (AreMore m) (sym (with_same n row e es same)) (more.0, more.1))
    (λ above. subst (AreMore m) (sym (with_below n row e es above)) (more.0, more_put m n row es below more.1))

pub rising_put : (n : ℕ) (row : Row) (es : List OffsetElement) → AreRising es → AreRising (with_element n row es)
rising_put n row [] rising = tt
rising_put n row (e ∷ es) rising = by_order n e.0 (AreRising (with_element n row (e ∷ es)))
    (λ less. subst AreRising (sym (with_above n row e es less)) (less, rising))
    (λ same. subst AreRising (sym (with_same n row e es same)) (rising_first (e.0, row) es (more_of e es rising) (rising_tail e es rising)))
    (λ above. subst AreRising (sym (with_below n row e es above)) (rising_first e (with_element n row es) (more_put e.0 n row es above (more_of e es rising)) (rising_put n row es (rising_tail e es rising))))
