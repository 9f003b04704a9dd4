-- A list of numbers that is cut off, or closed up.
use Rattle.std.proofs.Common.{◌≡◌, ℕ, ◌+◌, ◌-◌, ◌≤◌, ◌<◌, List, [], ◌∷◌, ◌++◌, get_or, length, take, drop, reverse, sym, ap, ◌∙◌, arith, append-nil, append_assoc}
use Rattle.std.proofs.lemmas.List.{take-take, drop-take, take_all, drop_all, take_rest, take_more, get_or-drop, length-drop, reverse-append, take-append-le, drop-append-le, length-take-le}
use Rattle.ts_store.specs.FreeList.{ArePlaced}

-- the part behind a mark, of what is cut off behind it
middle_cut : (b s : ℕ) (ns : List ℕ) → b ≤ s → drop b (take s ns) ≡ take (s - b) (drop b ns)
middle_cut b s ns le =
    let is : s ≡ b + (s - b) = omega (arith, le) in
    ap (λ (n : ℕ). drop b (take n ns)) is ∙ drop-take b (s - b) ns

-- what is cut off behind the kept numbers
module _ (low kept base freed saved : ℕ) (ns cut : List ℕ) (placed : ArePlaced low kept base freed saved ns) (is : cut ≡ take saved ns) where
  front : take kept cut ≡ take kept ns
  front = ap (take kept) is ∙ take-take kept saved ns (omega (arith, placed.second, placed.third, placed.fourth))

  middle : take (saved - base) (drop base cut) ≡ take (saved - base) (drop base ns)
  middle = ap (λ (l : List ℕ). take (saved - base) (drop base l)) is ∙ ap (take (saved - base)) (middle_cut base saved ns (omega (arith, placed.third, placed.fourth)))
      ∙ take-take (saved - base) (saved - base) (drop base ns) (omega arith)

  back : drop saved cut ≡ []
  back = ap (drop saved) is ∙ drop_all saved (take saved ns) (let size = length-take-le saved ns placed.within in omega (arith, size))

  pub kept_again : reverse (take kept cut ++ take (saved - base) (drop base cut)) ≡ reverse (take kept ns ++ take (saved - base) (drop base ns))
  kept_again = λ i. reverse (front i ++ middle i)

  pub all_again : reverse (take kept cut ++ take (saved - base) (drop base cut) ++ drop saved cut) ≡ reverse (take kept ns ++ take (saved - base) (drop base ns))
  all_again = (λ i. reverse ((front i ++ middle i) ++ back i)) ∙ ap reverse (append-nil (take kept ns ++ take (saved - base) (drop base ns)))

-- the gap of what was taken of what was freed is closed
module _ (low kept base freed saved : ℕ) (ns closed : List ℕ) (placed : ArePlaced low kept base freed saved ns) (is : closed ≡ take freed ns ++ drop (freed + (saved - freed)) ns) where
  at_saved : freed + (saved - freed) ≡ saved
  at_saved = let le = placed.fourth in omega (arith, le)

  short : length (take freed ns) ≡ freed
  short = length-take-le freed ns (omega (arith, placed.fourth, placed.within))

  first : take low closed ≡ take low ns
  first = ap (take low) is ∙ take-append-le low (take freed ns) _ (omega (arith, short, placed.first, placed.second, placed.third)) ∙ take-take low freed ns (omega (arith, placed.first, placed.second, placed.third))

  rest : drop base closed ≡ take (freed - base) (drop base ns) ++ drop saved ns
  rest = ap (drop base) is ∙ drop-append-le base (take freed ns) _ (omega (arith, short, placed.third)) ∙ (λ i. middle_cut base freed ns placed.third i ++ drop (at_saved i) ns)

  whole : take (length closed - base) (drop base closed) ≡ take (freed - base) (drop base ns) ++ drop saved ns
  whole = take_rest closed base ∙ rest

  none : drop (length closed) closed ≡ []
  none = drop_all (length closed) closed (omega arith)

  parts : take low ns ++ (take (freed - base) (drop base ns) ++ drop saved ns) ≡ (take low ns ++ take (freed - base) (drop base ns)) ++ drop saved ns
  parts = sym (append_assoc (take low ns) (take (freed - base) (drop base ns)) (drop saved ns))

  pub kept_now : reverse (take low closed ++ take (length closed - base) (drop base closed)) ≡ reverse (take low ns ++ take (freed - base) (drop base ns) ++ drop saved ns)
  kept_now = (λ i. reverse (first i ++ whole i)) ∙ ap reverse parts

  pub all_now : reverse (take low closed ++ take (length closed - base) (drop base closed) ++ drop (length closed) closed) ≡ reverse (take low ns ++ take (freed - base) (drop base ns) ++ drop saved ns)
  all_now = (λ i. reverse ((first i ++ whole i) ++ none i)) ∙ ap reverse (append-nil (take low ns ++ (take (freed - base) (drop base ns) ++ drop saved ns)) ∙ parts)

  -- and so is that of what was taken of the base
  module _ (both : List ℕ) (again : both ≡ take low closed ++ drop (low + (base - low)) closed) where
    at_base : low + (base - low) ≡ base
    at_base = omega (arith, placed.first, placed.second)

    pub both_now : both ≡ take low ns ++ take (freed - base) (drop base ns) ++ drop saved ns
    both_now = again ∙ (λ i. first i ++ drop (at_base i) closed) ∙ ap (λ (l : List ℕ). take low ns ++ l) rest ∙ parts

    pub base_now : reverse (take (length both) both) ≡ reverse (take low ns ++ take (freed - base) (drop base ns) ++ drop saved ns)
    base_now = ap reverse (take_all (length both) both (omega arith) ∙ both_now)

    none_behind : drop (length both) both ≡ []
    none_behind = drop_all (length both) both (omega arith)

    no_middle : take (length both - length both) (drop (length both) both) ≡ []
    no_middle = ap (take (length both - length both)) none_behind ∙ take_all (length both - length both) [] (omega arith)

    pub kept_all : reverse (take (length both) both ++ take (length both - length both) (drop (length both) both)) ≡ reverse (take low ns ++ take (freed - base) (drop base ns) ++ drop saved ns)
    kept_all = (λ i. reverse (take_all (length both) both (omega arith) i ++ no_middle i)) ∙ ap reverse (append-nil both ∙ both_now)

    pub free_all : reverse (take (length both) both ++ take (length both - length both) (drop (length both) both) ++ drop (length both) both) ≡ reverse (take low ns ++ take (freed - base) (drop base ns) ++ drop saved ns)
    free_all = (λ i. reverse ((take_all (length both) both (omega arith) i ++ no_middle i) ++ none_behind i)) ∙ ap reverse (append-nil (both ++ []) ∙ append-nil both ∙ both_now)

-- the last of what was freed is taken
pub taken : (low base freed saved : ℕ) (ns : List ℕ) (d : ℕ) → base < freed → freed ≤ length ns → length ns ≤ saved
    → reverse ((take low ns ++ take (freed - base) (drop base ns)) ++ drop saved ns) ≡ get_or ns (freed - 1) d ∷ reverse ((take low ns ++ take (freed - 1 - base) (drop base ns)) ++ drop saved ns)
taken low base freed saved ns d some within end =
    let more : freed - base ≡ (freed - 1 - base) + 1 = omega (arith, some) in
    let there : freed - 1 - base < length (drop base ns) = let size = length-drop base ns in omega (arith, some, within, size) in
    let at : base + (freed - 1 - base) ≡ freed - 1 = omega (arith, some) in
    let none : drop saved ns ≡ [] = drop_all saved ns end in
    let y = get_or ns (freed - 1) d in
    let mid = take (freed - 1 - base) (drop base ns) in
    let split : take (freed - base) (drop base ns) ≡ mid ++ y ∷ [] =
    ap (λ (n : ℕ). take n (drop base ns)) more ∙ take_more (drop base ns) (freed - 1 - base) d there
    ∙ ap (λ (z : ℕ). mid ++ z ∷ []) (get_or-drop base ns (freed - 1 - base) d ∙ ap (λ (n : ℕ). get_or ns n d) at) in
    (λ i. reverse ((take low ns ++ split i) ++ none i)) ∙ ap reverse (append-nil (take low ns ++ (mid ++ y ∷ [])) ∙ sym (append_assoc (take low ns) mid (y ∷ [])))
    ∙ reverse-append (take low ns ++ mid) (y ∷ []) ∙ ap (λ (l : List ℕ). y ∷ reverse l) (sym (append-nil (take low ns ++ mid))) ∙ (λ i. y ∷ reverse ((take low ns ++ mid) ++ sym none i))
