-- An overlay has the last change of each page that records name.
use Rattle.std.proofs.Common.{◌≡◌, ℕ, suc, ◌+◌, Some, cond, eqb, List, [], ◌∷◌, ◌++◌, All, reverse, refl, ap, sym, ◌∙◌, arith, append_assoc}
use Rattle.std.specs.List.{flat_map}
use Rattle.std.proofs.lemmas.List.{reverse-append, append-nil}
use Rattle.ts_journal.specs.Journal.{Entry, IsRising, change_of, put, put_all, overlay_from, overlay_of, last_change}
use Rattle.ts_journal.proofs.BatchLemmas.{put_rising}
use Rattle.ts_journal.proofs.HomeLemmas.{rising_bound}
use Rattle.ts_journal.proofs.OverlayLemmas.{change_of-put}

-- what is found behind other entries
behind : (xs a b : List Entry) (k : ℕ) → change_of k a ≡ change_of k b → change_of k (xs ++ a) ≡ change_of k (xs ++ b)
behind [] a b k same = same
behind (x ∷ xs) a b k same = ap (cond (eqb x.0 k) (Some x.1)) (behind xs a b k same)

last_put : (es old : List Entry) (k : ℕ) → change_of k (put_all old es) ≡ change_of k (reverse es ++ old)
last_put [] old k = refl
last_put (e ∷ es) old k =
    last_put es (put e.0 e.1 old) k ∙ behind (reverse es) (put e.0 e.1 old) (e ∷ old) k (change_of-put old e.0 e.1 k)
    ∙ ap (change_of k) (sym (append_assoc (reverse es) (e ∷ []) old) ∙ ap (λ (l : List Entry). l ++ old) (sym (turned e es)))
  where
    turned : (e : Entry) (es : List Entry) → reverse (e ∷ es) ≡ reverse es ++ e ∷ []
    turned e es = reverse-append (e ∷ []) es

abbrev all_of : List (List Entry) → List Entry
all_of = flat_map (λ r. r)

last_from : (rs : List (List Entry)) (base : List Entry) (k : ℕ) → change_of k (overlay_from base rs) ≡ change_of k (reverse (all_of rs) ++ base)
last_from [] base k = refl
last_from (r ∷ rs) base k =
    last_from rs (put_all base r) k ∙ behind (reverse (all_of rs)) (put_all base r) (reverse r ++ base) k (last_put r base k)
    ∙ ap (change_of k) (sym (append_assoc (reverse (all_of rs)) (reverse r) base) ∙ ap (λ (l : List Entry). l ++ base) (sym (reverse-append r (all_of rs))))

pub last_there : (rs : List (List Entry)) (k : ℕ) → change_of k (overlay_of rs) ≡ last_change k rs
last_there rs k = last_from rs [] k ∙ ap (change_of k) (append-nil (reverse (all_of rs)))

-- its numbers rise, so there is one entry for each
put_all_rising : (es old : List Entry) (least top : ℕ) → IsRising 0 top old → IsRising least top es → IsRising 0 top (put_all old es)
put_all_rising [] old least top rising more = rising
put_all_rising (e ∷ es) old least top rising more =
    put_all_rising es (put e.0 e.1 old) (e.0 + 1) top (put_rising old 0 top e.0 e.1 rising (omega arith) (omega (arith, rising_bound es (e.0 + 1) top more.1))) more.1

overlay_rising : (rs : List (List Entry)) (base : List Entry) (top : ℕ) → IsRising 0 top base → All (IsRising 0 top) rs → IsRising 0 top (overlay_from base rs)
overlay_rising [] base top rising all = rising
overlay_rising (r ∷ rs) base top rising all =
    overlay_rising rs (put_all base r) top (put_all_rising r base 0 top rising (all 0 [] (omega arith))) (λ k d within. all (suc k) d (omega (arith, within)))

pub one_each : (rs : List (List Entry)) (top : ℕ) → All (IsRising 0 top) rs → IsRising 0 top (overlay_of rs)
one_each rs top all = overlay_rising rs [] top (omega arith) all
