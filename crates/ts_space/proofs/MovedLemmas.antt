-- Changes of the places of a series, and what they leave of the count.
use Rattle.std.proofs.Common.{◌≡◌, ℕ, ◌+◌, ◌-◌, ◌≤◌, min, List, [], ◌∷◌, ◌++◌, length, take, drop, ap, sym, ◌∙◌, arith, append_assoc, inl, inr}
use Rattle.std.specs.List.{insert}
use Rattle.std.proofs.lemmas.Bool.{cases_lt}
use Rattle.std.proofs.lemmas.List.{take_at, drop_at, take_all, drop_all, drop-drop, length-take-le, length-append}
use Rattle.std.proofs.lemmas.List.Sums.{sum_by-append, sum_by-take-drop}
use Rattle.ts_space.specs.declared.place.Place.{Place}
use Rattle.ts_space.specs.declared.moved.Moved.{Moved}
use Rattle.ts_space.specs.Place.{count_of}
use Rattle.ts_space.specs.Moved.{list_of, moved_to}

-- what stands before and behind a place that was put in between
pub inserted_front : (ps : List Place) (i : ℕ) (p : Place) → i ≤ length ps → take (i + 1) (insert ps i p) ≡ take i ps ++ p ∷ []
inserted_front ps i p within =
    let long = length-take-le i ps within in
    ap (take (i + 1)) (sym (append_assoc (take i ps) (p ∷ []) (drop i ps)))
    ∙ take_at (take i ps ++ p ∷ []) (drop i ps) (i + 1) (omega (arith, long, length-append (take i ps) (p ∷ [])))

pub inserted_back : (ps : List Place) (i : ℕ) (p : Place) → i ≤ length ps → drop (i + 1) (insert ps i p) ≡ drop i ps
inserted_back ps i p within =
    let long = length-take-le i ps within in
    ap (drop (i + 1)) (sym (append_assoc (take i ps) (p ∷ []) (drop i ps)))
    ∙ drop_at (take i ps ++ p ∷ []) (drop i ps) (i + 1) (omega (arith, long, length-append (take i ps) (p ∷ [])))

-- how many elements there are once some places went and others came
pub count_exchanged : (ps come : List Place) (s e : ℕ) → s ≤ e → count_of (take s ps ++ come ++ drop e ps) + count_of (take (e - s) (drop s ps)) ≡ count_of ps + count_of come
count_exchanged ps come s e order =
    let f : Place → ℕ = λ place. place.count in
    let whole = sum_by-append f (take s ps ++ come) (drop e ps) in
    let front = sum_by-append f (take s ps) come in
    let parts = sum_by-take-drop f ps s in
    let rest = sum_by-take-drop f (drop s ps) (e - s) in
    let exact : s + (e - s) ≡ e = omega (arith, order) in
    let behind : count_of (drop (e - s) (drop s ps)) ≡ count_of (drop e ps) = ap count_of (drop-drop (e - s) s ps ∙ ap (λ (n : ℕ). drop n ps) exact) in
    omega (arith, whole, front, parts, rest, behind)

-- a change past the end is one at the end
pub moved_within : (moved : Moved) (ps : List Place) (s e : ℕ) → s ≡ min moved.index (length ps) → e ≡ s + min moved.gone (length ps - s)
    → take s ps ++ list_of moved.come ++ drop e ps ≡ moved_to moved ps
moved_within moved ps s e start end =
    ap (λ (l : List Place). l ++ list_of moved.come ++ drop e ps) front ∙ ap (λ (l : List Place). take moved.index ps ++ list_of moved.come ++ l) back
  where
    front : take s ps ≡ take moved.index ps
    front = elim (cases_lt moved.index (length ps)) [
      | inl below ↦ ap (λ (n : ℕ). take n ps) (omega (arith, start, below))
      | inr past ↦ take_all s ps (omega (arith, start, past)) ∙ sym (take_all moved.index ps past)
    ]

    back : drop e ps ≡ drop (moved.index + moved.gone) ps
    back = elim (cases_lt (moved.index + moved.gone) (length ps)) [
      | inl below ↦ ap (λ (n : ℕ). drop n ps) (omega (arith, start, end, below))
      | inr past ↦ drop_all e ps (omega (arith, start, end, past)) ∙ sym (drop_all (moved.index + moved.gone) ps past)
    ]
