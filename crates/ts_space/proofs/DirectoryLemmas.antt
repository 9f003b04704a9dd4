-- The lists behind a directory: what a change of one of them leaves.
use Rattle.std.proofs.Common.{◌≡◌, ℕ, ℤ, None, inl, inr, zero, suc, replicate, ◌+◌, ◌-◌, ◌*◌, ◌^◌, ◌<◌, ◌≤◌, List, [], ◌∷◌, ◌++◌, append_assoc, length-append, length, get_or, set, map, All, sum_by, vec_len, vec_capacity, Vec, Global, refl, ap, sym, ◌∙◌, arith, subst, length-set}
use Rattle.std.proofs.lemmas.List.{length-map, length-replicate, replicate_more, replicate-append-replicate, map-append, get_or_append_left, get_or_past, set-append_left, get_or-map, get_or-set_same, set-get_or, map-set}
use Rattle.std.proofs.lemmas.List.Elements.{All-append, All-replicate, All-set, All-get_or, All-map}
use Rattle.std.proofs.lemmas.List.Sums.{sum_by-append, sum_by-cons, sum_by-set, sum_by-le, get_or-le-sum_by}
use Rattle.ts_space.specs.declared.place.Place.{Place}
use Rattle.std.proofs.lemmas.Bool.{cases_lt}
use Rattle.ts_space.specs.Place.{IsRising, kept_count, place_at}
use Rattle.ts_space.specs.Directory.{Directory, IsDirectory, HasGrown, padded, ChangesOnly, places_of, spare_of, capacity_of, used_of}

abbrev pub Lists : Type 0
Lists = List (Vec Place Global)

abbrev pub items_of : Vec Place Global → List Place
items_of list = list.items

abbrev pub free_of : Vec Place Global → ℕ
free_of list = vec_capacity list - vec_len list

-- what contracts see of these lists
abbrev pub directory : Lists → Directory
directory vs = record { lists = padded [] (map items_of vs); spares = padded 0 (map free_of vs) }

pub slots : {cs : List ℕ} (vs : Lists) (n : ℕ) → IsDirectory (map items_of vs) cs n → length vs ≤ 4096
slots vs n is = let few = is.slots in let same = length-map vs items_of in omega (arith, few, same)

module _ {A : Type 0} where
  pub padded-read : (a : A) (xs : List A) (i : ℕ) → i < length xs → get_or (padded a xs) i a ≡ get_or xs i a
  padded-read a xs i within = get_or_append_left xs (replicate (4096 - length xs) a) a i within

  pub padded-set : (a : A) (xs : List A) (i : ℕ) (x : A) → i < length xs → padded a (set xs i x) ≡ set (padded a xs) i x
  padded-set a xs i x within =
      ap (λ (n : ℕ). set xs i x ++ replicate (4096 - n) a) (length-set xs i x)
      ∙ sym (set-append_left xs (replicate (4096 - length xs) a) i x within)

  alike : (n i : ℕ) (a : A) → get_or (replicate n a) i a ≡ a
  alike zero i a = refl
  alike (suc n) zero a = refl
  alike (suc n) (suc i) a = alike n i a

  -- behind the first slots
  pub padded-past : (a : A) (xs : List A) (i : ℕ) → length xs ≤ i → get_or (padded a xs) i a ≡ a
  padded-past a xs i past = behind xs i (4096 - length xs) past where
    behind : (ys : List A) (j n : ℕ) → length ys ≤ j → get_or (ys ++ replicate n a) j a ≡ a
    behind [] j n within = alike n j a
    behind (y ∷ ys) zero n within = absurd (omega arith)
    behind (y ∷ ys) (suc j) n within = behind ys j n (omega arith)

  pub padded-more : (a : A) (xs : List A) (k : ℕ) → length xs + k ≤ 4096 → padded a (xs ++ replicate k a) ≡ padded a xs
  padded-more a xs k few =
      let rest : 4096 - length (xs ++ replicate k a) ≡ 4096 - (length xs + k) = omega (arith, length-append xs (replicate k a), length-replicate k a) in
      append_assoc xs (replicate k a) (replicate (4096 - length (xs ++ replicate k a)) a)
      ∙ ap (λ (l : List A). xs ++ l) (replicate-append-replicate k (4096 - length (xs ++ replicate k a)) a)
      ∙ ap (λ (n : ℕ). xs ++ replicate n a) (let e : k + (4096 - length (xs ++ replicate k a)) ≡ 4096 - length xs = omega (arith, rest, few) in e)

-- the list of one slot
pub listed : (vs : Lists) (i : ℕ) → i < length vs → places_of i (directory vs) ≡ get_or (map items_of vs) i []
listed vs i within = padded-read [] (map items_of vs) i (omega (arith, within, length-map vs items_of))

pub places_read : (vs : Lists) (i : ℕ) (d : Vec Place Global) → i < length vs → places_of i (directory vs) ≡ (get_or vs i d).items
places_read vs i d within = listed vs i within ∙ get_or-map items_of vs i d [] within

pub spare_read : (vs : Lists) (i : ℕ) (d : Vec Place Global) → i < length vs → spare_of i (directory vs) ≡ free_of (get_or vs i d)
spare_read vs i d within = padded-read 0 (map free_of vs) i (omega (arith, within, length-map vs free_of)) ∙ get_or-map free_of vs i d 0 within

-- behind the first slots
pub places_past : (vs : Lists) (i : ℕ) → length vs ≤ i → places_of i (directory vs) ≡ []
places_past vs i past = padded-past [] (map items_of vs) i (omega (arith, past, length-map vs items_of))

pub spare_past : (vs : Lists) (i : ℕ) → length vs ≤ i → spare_of i (directory vs) ≡ 0
spare_past vs i past = padded-past 0 (map free_of vs) i (omega (arith, past, length-map vs free_of))

pub lists_long : (vs : Lists) → length vs ≤ 4096 → length (directory vs).lists ≡ 4096
lists_long vs few =
    let none : List Place = [] in
    let all = length-append (map items_of vs) (replicate (4096 - length (map items_of vs)) none) in
    let rest = length-replicate (4096 - length (map items_of vs)) none in
    omega (arith, all, rest, few, length-map vs items_of)

-- what no list has
pub counts_none : (n : ℕ) → replicate n 0 ≡ map kept_count (replicate n [])
counts_none zero = refl
counts_none (suc n) = ap (λ (l : List ℕ). 0 ∷ l) (counts_none n)

-- a directory without places
pub used_none : (n : ℕ) → sum_by (λ (l : List Place). length l) (replicate n []) ≡ 0
used_none zero = refl
used_none (suc n) = omega (arith, sum_by-cons (λ (l : List Place). length l) [] (replicate n []), used_none n)

pub used_padded : (vs : Lists) → used_of (directory vs) ≡ sum_by length (map items_of vs)
used_padded vs =
    let none : List Place = [] in
    let all = sum_by-append length (map items_of vs) (replicate (4096 - length (map items_of vs)) none) in
    let rest = used_none (4096 - length (map items_of vs)) in
    omega (arith, all, rest)

pub rising_read : {cs : List ℕ} (vs : Lists) (i n : ℕ) (d : Vec Place Global) → IsDirectory (map items_of vs) cs n → i < length vs → IsRising (get_or vs i d).items
rising_read vs i n d is within =
    subst IsRising (get_or-map items_of vs i d [] within) (All-get_or IsRising (map items_of vs) i [] (omega (arith, within, length-map vs items_of)) is.rising)

-- after a change of it
pub places_set : (vs : Lists) (i : ℕ) (w : Vec Place Global) → i < length vs → places_of i (directory (set vs i w)) ≡ w.items
places_set vs i w within = places_read (set vs i w) i w (omega (arith, within, length-set vs i w)) ∙ ap items_of (get_or-set_same vs i w w within)

pub spare_set : (vs : Lists) (i : ℕ) (w : Vec Place Global) → i < length vs → spare_of i (directory (set vs i w)) ≡ free_of w
spare_set vs i w within = spare_read (set vs i w) i w (omega (arith, within, length-set vs i w)) ∙ ap free_of (get_or-set_same vs i w w within)

-- how many places there are then
pub used_set : (vs : Lists) (i : ℕ) (w : Vec Place Global) → i < length vs
    → used_of (directory (set vs i w)) + length (places_of i (directory vs)) ≡ used_of (directory vs) + length (places_of i (directory (set vs i w)))
used_set vs i w within =
    let changed = sum_by-set length (map items_of vs) i w.items [] (omega (arith, within, length-map vs items_of)) in
    let whole : sum_by length (map items_of (set vs i w)) ≡ sum_by length (set (map items_of vs) i w.items) = ap (sum_by length) (map-set items_of vs i w) in
    let new_count : length (places_of i (directory (set vs i w))) ≡ length w.items = ap length (places_set vs i w within) in
    let old_count : length (places_of i (directory vs)) ≡ length (get_or (map items_of vs) i []) = ap length (listed vs i within) in
    let before = used_padded vs in
    let after = used_padded (set vs i w) in
    omega (arith, changed, whole, new_count, old_count, before, after)

pub changes_set : (vs : Lists) (i : ℕ) (w : Vec Place Global) → i < length vs → ChangesOnly i (directory vs) (directory (set vs i w))
changes_set vs i w within = record {
  used = used_set vs i w within;
  lists =
      ap (padded []) (map-set items_of vs i w) ∙ padded-set [] (map items_of vs) i w.items (omega (arith, within, length-map vs items_of))
      ∙ ap (set (padded [] (map items_of vs)) i) (sym (places_set vs i w within));
  spares =
      ap (padded 0) (map-set free_of vs i w) ∙ padded-set 0 (map free_of vs) i (free_of w) (omega (arith, within, length-map vs free_of))
      ∙ ap (set (padded 0 (map free_of vs)) i) (sym (spare_set vs i w within));
}

-- how many places it had is part of the whole
pub count_read : {cs : List ℕ} (vs : Lists) (i n : ℕ) (old : Vec Place Global) → IsDirectory (map items_of vs) cs n → i < length vs → old ≡ get_or vs i old → vec_len old ≤ n
count_read vs i n old is within here =
    let part = get_or-le-sum_by length (map items_of vs) i [] (omega (arith, within, length-map vs items_of)) in
    let same : length (get_or (map items_of vs) i []) ≡ length old.items = ap length (get_or-map items_of vs i old [] within ∙ sym (ap items_of here)) in
    let total = is.used in
    let known = old.ok.0 in
    omega (arith, part, same, total, known)

-- what is kept of the counts
pub counts_set : {cs : List ℕ} (vs : Lists) (i k : ℕ) (w : Vec Place Global) → cs ≡ map kept_count (map items_of vs) → k ≡ kept_count w.items
    → set cs i k ≡ map kept_count (map items_of (set vs i w))
counts_set vs i k w counts kept =
    ap (λ (l : List ℕ). set l i k) counts ∙ ap (set (map kept_count (map items_of vs)) i) kept
    ∙ sym (map-set kept_count (map items_of vs) i w.items) ∙ ap (map kept_count) (sym (map-set items_of vs i w))

-- of one list
pub count_kept : {cs : List ℕ} (vs : Lists) (i n d : ℕ) (old : Vec Place Global) → IsDirectory (map items_of vs) cs n → i < length vs → old ≡ get_or vs i old → get_or cs i d ≡ kept_count old.items
count_kept vs i n d old is within here =
    ap (λ (l : List ℕ). get_or l i d) is.counts_are ∙ get_or-map kept_count (map items_of vs) i [] d (omega (arith, within, length-map vs items_of))
    ∙ ap kept_count (get_or-map items_of vs i old [] within ∙ sym (ap items_of here))

pub counts_long : {cs : List ℕ} (vs : Lists) (n : ℕ) → IsDirectory (map items_of vs) cs n → length cs ≡ length vs
counts_long vs n is = ap length is.counts_are ∙ length-map (map items_of vs) kept_count ∙ length-map vs items_of

pub directory_set : {cs : List ℕ} (vs : Lists) (i n k : ℕ) (old w : Vec Place Global) → IsDirectory (map items_of vs) cs n → i < length vs → old ≡ get_or vs i old → IsRising w.items
    → k ≡ kept_count w.items → IsDirectory (map items_of (set vs i w)) (set cs i k) (n - vec_len old + vec_len w)
directory_set vs i n k old w is within here rising kept = record {
  slots = omega (arith, length-map (set vs i w) items_of, length-set vs i w, slots vs n is);
  rising = subst (All IsRising) (sym (map-set items_of vs i w)) (All-set IsRising (map items_of vs) i w.items rising is.rising);
  counts_are = counts_set vs i k w is.counts_are kept;
  used =
      let same : length (get_or (map items_of vs) i []) ≡ length old.items = ap length (get_or-map items_of vs i old [] within ∙ sym (ap items_of here)) in
      let changed = sum_by-set length (map items_of vs) i w.items [] (omega (arith, within, length-map vs items_of)) in
      let whole : sum_by length (map items_of (set vs i w)) ≡ sum_by length (set (map items_of vs) i w.items) = ap (sum_by length) (map-set items_of vs i w) in
      let total = is.used in
      let known = old.ok.0 in
      let also = w.ok.0 in
      let part = count_read vs i n old is within here in
      omega (arith, same, changed, whole, total, known, also, part);
}

-- the whole number of places fits 128 bits
pub count_fits : {cs : List ℕ} (vs : Lists) (n : ℕ) → IsDirectory (map items_of vs) cs n → n ≤ 4096 * 2 ^ 64
count_fits vs n is =
    let each : All (λ (l : List Place). length l ≤ 2 ^ 64) (map items_of vs) = All-map (λ (l : List Place). length l ≤ 2 ^ 64) items_of vs (λ k d within. let v = get_or vs k d in let known = v.ok.0 in let few = v.small in omega (arith, known, few)) in
    let bound = sum_by-le length (2 ^ 64) (map items_of vs) each in
    let total = is.used in
    let many = is.slots in
    omega (arith, total, bound, many)

-- its memory stays
pub capacity_set : (vs : Lists) (i : ℕ) (old w : Vec Place Global) → i < length vs → old ≡ get_or vs i old → vec_capacity w ≡ vec_capacity old
    → capacity_of i (directory (set vs i w)) ≡ capacity_of i (directory vs)
capacity_set vs i old w within here same =
    let new_count : length (places_of i (directory (set vs i w))) ≡ length w.items = ap length (places_set vs i w within) in
    let old_count : length (places_of i (directory vs)) ≡ length old.items = ap length (places_read vs i old within ∙ sym (ap items_of here)) in
    let new_spare = spare_set vs i w within in
    let old_spare : spare_of i (directory vs) ≡ free_of old = spare_read vs i old within ∙ sym (ap free_of here) in
    let k = w.ok.0 in let l = old.ok.0 in let m = w.small in let n = old.small in
    omega (arith, new_count, old_count, new_spare, old_spare, k, l, m, n, same)

-- the same at what an index gave
pub old_rising : {cs : List ℕ} (vs : Lists) (i n : ℕ) (old : Vec Place Global) → IsDirectory (map items_of vs) cs n → i < length vs → old ≡ get_or vs i old → IsRising old.items
old_rising vs i n old is within here = subst (λ (v : Vec Place Global). IsRising v.items) (sym here) (rising_read vs i n old is within)

pub old_places : (vs : Lists) (i : ℕ) (old : Vec Place Global) → i < length vs → old ≡ get_or vs i old → places_of i (directory vs) ≡ old.items
old_places vs i old within here = places_read vs i old within ∙ sym (ap items_of here)

pub old_spare : (vs : Lists) (i : ℕ) (old : Vec Place Global) → i < length vs → old ≡ get_or vs i old → spare_of i (directory vs) ≡ free_of old
old_spare vs i old within here = spare_read vs i old within ∙ sym (ap free_of here)

-- a list with the same places, as after more memory was taken
pub same_lists : (vs : Lists) (i : ℕ) (old w : Vec Place Global) → i < length vs → old ≡ get_or vs i old → w.items ≡ old.items → map items_of (set vs i w) ≡ map items_of vs
same_lists vs i old w within here same =
    map-set items_of vs i w ∙ ap (set (map items_of vs) i) (same ∙ ap items_of here ∙ sym (get_or-map items_of vs i old [] within)) ∙ set-get_or (map items_of vs) i []

pub same_spares : (vs : Lists) (i : ℕ) (old w : Vec Place Global) → i < length vs → old ≡ get_or vs i old → free_of w ≡ free_of old → map free_of (set vs i w) ≡ map free_of vs
same_spares vs i old w within here same =
    map-set free_of vs i w ∙ ap (set (map free_of vs) i) (same ∙ ap free_of here ∙ sym (get_or-map free_of vs i old 0 within)) ∙ set-get_or (map free_of vs) i 0

pub same_directory : (vs ws : Lists) → map items_of ws ≡ map items_of vs → map free_of ws ≡ map free_of vs → directory ws ≡ directory vs
same_directory vs ws lists spares = λ i. record { lists = padded [] (lists i); spares = padded 0 (spares i) }

-- what is left of the memory, where the memory stays
pub spare_left : (vs : Lists) (i : ℕ) (old w : Vec Place Global) → i < length vs → old ≡ get_or vs i old → vec_capacity w ≡ vec_capacity old
    → spare_of i (directory vs) + length old.items ≡ spare_of i (directory (set vs i w)) + length w.items
spare_left vs i old w within here same =
    let new_spare = spare_set vs i w within in
    let before = old_spare vs i old within here in
    let k = w.ok.0 in let l = old.ok.0 in let m = w.ok.1 in let n = old.ok.1 in
    omega (arith, new_spare, before, k, l, m, n, same)

-- what the number of all places is after a call, from its clauses
pub used_more : (series : ℕ) (old new : Directory) → ChangesOnly series old new → capacity_of series new ≡ capacity_of series old → spare_of series old ≤ spare_of series new + 1
    → used_of new ≤ used_of old + 1
used_more series old new changes capacity spare = let total = changes.used in omega (arith, total, capacity, spare)

pub used_less : (series : ℕ) (old new : Directory) → ChangesOnly series old new → capacity_of series new ≡ capacity_of series old → spare_of series old ≤ spare_of series new
    → used_of new ≤ used_of old
used_less series old new changes capacity spare = let total = changes.used in omega (arith, total, capacity, spare)

pub used_same : (old new : Directory) → new.lists ≡ old.lists → used_of new ≡ used_of old
used_same old new lists = ap (sum_by (λ (l : List Place). length l)) lists

-- lists came behind those that there were
abbrev pub Grown : ℕ → Lists → Lists → List ℕ → List ℕ → Type 0
Grown n vs ws cs ds = HasGrown n (map items_of vs) (map items_of ws) (map free_of vs) (map free_of ws) cs ds

pub grown : {cs ds : List ℕ} (vs ws : Lists) (k n : ℕ) → k + length vs ≤ 4096 → IsDirectory (map items_of vs) cs n → Grown k vs ws cs ds → IsDirectory (map items_of ws) ds n
grown vs ws k n below is more =
    let none : List Place = [] in
    record {
      slots = (let size = ap length more.lists_come in let all = length-append (map items_of vs) (replicate k none) in let rest = length-replicate k none in
          let same = length-map vs items_of in omega (arith, size, all, rest, same, below));
      rising = subst (All IsRising) (sym more.lists_come) (All-append IsRising (map items_of vs) (replicate k none) is.rising (All-replicate IsRising k none tt));
      counts_are =
          more.counts_come ∙ ap (λ (l : List ℕ). l ++ replicate k 0) is.counts_are ∙ ap (λ (l : List ℕ). map kept_count (map items_of vs) ++ l) (counts_none k)
          ∙ sym (map-append kept_count (map items_of vs) (replicate k none)) ∙ ap (map kept_count) (sym more.lists_come);
      used =
          let all = sum_by-append length (map items_of vs) (replicate k none) in
          let rest = used_none k in
          let same = ap (sum_by length) more.lists_come in
          let total = is.used in
          omega (arith, all, rest, same, total);
    }

pub grown_same : {cs ds : List ℕ} (vs ws : Lists) (k : ℕ) → k + length vs ≤ 4096 → Grown k vs ws cs ds → directory ws ≡ directory vs
grown_same vs ws k below more =
    let lists = ap (padded []) more.lists_come ∙ padded-more [] (map items_of vs) k (omega (arith, below, length-map vs items_of)) in
    let spares = ap (padded 0) more.spares_come ∙ padded-more 0 (map free_of vs) k (omega (arith, below, length-map vs free_of)) in
    λ i. record { lists = lists i; spares = spares i }

-- lists up to that of a slot
pub record HasAll (vs ws : Lists) (ds : List ℕ) (n : ℕ) : Type 0 where
  pub kept : IsDirectory (map items_of ws) ds n
  pub same : directory ws ≡ directory vs

pub grown_all : {cs ds : List ℕ} (vs ws : Lists) (i n : ℕ) → i < 4096 → IsDirectory (map items_of vs) cs n → Grown (i + 1 - length vs) vs ws cs ds → HasAll vs ws ds n
grown_all vs ws i n below is more =
    let few = slots vs n is in
    let all : i + 1 - length vs + length vs ≤ 4096 = omega (arith, few, below) in
    record { kept = grown vs ws (i + 1 - length vs) n all is more; same = grown_same vs ws (i + 1 - length vs) all more }

-- one list more
pub more_grown : {cs ds es : List ℕ} (vs ws xs : Lists) (w : Vec Place Global) (k : ℕ) → Grown k vs ws cs ds → xs ≡ ws ++ w ∷ [] → es ≡ ds ++ 0 ∷ [] → w.items ≡ [] → free_of w ≡ 0
    → Grown (k + 1) vs xs cs es
more_grown {cs} vs ws xs w k so_far here count empty none = record {
  lists_come =
      ap (map items_of) here ∙ map-append items_of ws (w ∷ []) ∙ (λ i. so_far.lists_come i ++ empty i ∷ []) ∙ append_assoc (map items_of vs) (replicate k []) ([] ∷ [])
      ∙ ap (λ (l : List (List Place)). map items_of vs ++ l) (replicate_more k []);
  spares_come =
      ap (map free_of) here ∙ map-append free_of ws (w ∷ []) ∙ (λ i. so_far.spares_come i ++ none i ∷ []) ∙ append_assoc (map free_of vs) (replicate k 0) (0 ∷ [])
      ∙ ap (λ (l : List ℕ). map free_of vs ++ l) (replicate_more k 0);
  counts_come = count ∙ ap (λ (l : List ℕ). l ++ 0 ∷ []) so_far.counts_come ∙ append_assoc cs (replicate k 0) (0 ∷ []) ∙ ap (λ (l : List ℕ). cs ++ l) (replicate_more k 0);
}

-- a slot that holds a place or has memory is one of the first
pub spare_within : (vs : Lists) (i : ℕ) → 1 ≤ spare_of i (directory vs) → i < length vs
spare_within vs i some = elim (cases_lt i (length vs)) [ inl low ↦ low | inr high ↦ absurd (omega (arith, some, spare_past vs i high)) ]

pub room_within : (vs : Lists) (i : ℕ) (at : ℤ) → (place_at at (places_of i (directory vs)) ≡ None → 1 ≤ spare_of i (directory vs)) → i < length vs
room_within vs i at room = elim (cases_lt i (length vs)) [
  | inl low ↦ low
  | inr high ↦ spare_within vs i (room (ap (place_at at) (places_past vs i high)))
]
