-- What is wanted of elements, and elements that are passed one after the other.
use Rattle.std.proofs.Common.{◌≡◌, ℕ, zero, suc, ◌-◌, ◌<◌, false, not, cond, List, [], ◌∷◌, ◌++◌, map, take, drop, refl, sym, ap, subst, ◌∙◌, arith, append_assoc, length-append}
use Rattle.ts_row.specs.Row.{Element, seen}
use Rattle.ts_entry.specs.Entry.{Entry, filled}
use Rattle.ts_clip.specs.declared.chain_cells.Wanted.{Wanted}
use Rattle.ts_clip.specs.Chain.{wanted_of, ArePassed}

-- no element
pub passed_none : (took : List Entry → Type 0) (a : Wanted) → took [] → ArePassed took a a []
passed_none took a none = record { entries = []; taken = none; number = omega arith; are = λ rest. refl }

-- none is wanted any more
pub passed_full : (took : List Entry → Type 0) (a : Wanted) (es : List Element) → took [] → a.most ≡ 0 → ArePassed took a a es
passed_full took a es none full = record {
  entries = [];
  taken = none;
  number = omega arith;
  are = λ rest. ap (λ (n : ℕ). map filled (take n (drop a.skip (es ++ rest)))) full ∙ sym (ap (λ (n : ℕ). map filled (take n (drop a.skip rest))) full);
}

-- some elements and then others
pub passed_both : (first second both : List Entry → Type 0) (a b c : Wanted) (es fs : List Element) → ((xs ys : List Entry) → first xs → second ys → both (xs ++ ys))
    → ArePassed first a b es → ArePassed second b c fs → ArePassed both a c (es ++ fs)
passed_both first second both a b c es fs join p q = record {
  entries = p.entries ++ q.entries;
  taken = join p.entries q.entries p.taken q.taken;
  number = omega (arith, p.number, q.number, length-append p.entries q.entries);
  are = λ rest.
      ap (wanted_of a) (append_assoc es fs rest) ∙ p.are (fs ++ rest) ∙ ap (λ (l : List Entry). p.entries ++ l) (q.are rest)
      ∙ sym (append_assoc p.entries q.entries (wanted_of c rest));
}

-- one that isn't hidden is passed over
skipped : (n m : ℕ) (e : Element) (rest : List Element) → 0 < n → map filled (take m (drop n (e ∷ rest))) ≡ map filled (take m (drop (n - 1) rest))
skipped zero m e rest some = absurd (omega (arith, some))
skipped (suc n) m e rest some = ap (λ (k : ℕ). map filled (take m (drop k rest))) (let one : n ≡ suc n - 1 = omega arith in one)

pub passed_over : (took : List Entry → Type 0) (a : Wanted) (e : Element) → took [] → 0 < a.skip → ArePassed took a (record { skip = a.skip - 1; most = a.most }) (e ∷ [])
passed_over took a e none some = record { entries = []; taken = none; number = omega arith; are = λ rest. skipped a.skip a.most e rest some }

-- or it is taken
picked : (n m : ℕ) (e : Element) (rest : List Element) → n ≡ 0 → 0 < m → map filled (take m (drop n (e ∷ rest))) ≡ (filled e ∷ []) ++ map filled (take (m - 1) rest)
picked zero zero e rest first some = absurd (omega (arith, some))
picked zero (suc m) e rest first some = ap (λ (k : ℕ). filled e ∷ map filled (take k rest)) (let one : m ≡ suc m - 1 = omega arith in one)
picked (suc n) m e rest first some = absurd (omega (arith, first))

pub passed_one : (took : List Entry → Type 0) (a : Wanted) (e : Element) → took (filled e ∷ []) → a.skip ≡ 0 → 0 < a.most → ArePassed took a (record { skip = 0; most = a.most - 1 }) (e ∷ [])
passed_one took a e one first some = record { entries = filled e ∷ []; taken = one; number = omega (arith, some); are = λ rest. picked a.skip a.most e rest first some }

-- one that isn't hidden is seen
pub passed_shown : (took : List Entry → Type 0) (a b : Wanted) (e : Element) → e.1.hidden ≡ false → ArePassed took a b (e ∷ []) → ArePassed took a b (seen (e ∷ []))
passed_shown took a b e shown passed = subst (ArePassed took a b) (sym (ap (λ h. cond (not h) (e ∷ []) []) shown)) passed

-- the same elements
pub passed_same : (took : List Entry → Type 0) (a b : Wanted) (es fs : List Element) → es ≡ fs → ArePassed took a b es → ArePassed took a b fs
passed_same took a b es fs same passed = subst (ArePassed took a b) same passed
