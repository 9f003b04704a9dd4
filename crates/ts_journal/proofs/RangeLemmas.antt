-- What a torn or a written range leaves outside of it and within it.
use Rattle.std.proofs.Common.{◌≡◌, ◌⊎◌, ℕ, ◌+◌, ◌≤◌, List, [], ◌++◌, length, take, drop, refl, sym, ◌∙◌, ap, inl, inr, arith, append_assoc, length-append, length-drop, take-append-drop, add-zero}
use Rattle.std.proofs.lemmas.List.{append-nil, take_at, drop_at, take-take, drop-drop, drop-take, length-take-le, take-append-le, drop-append-le}
use Rattle.ts_disk.specs.Device.{Torn, overwritten}
use Rattle.ts_disk.proofs.Ranges.{drop_further}
use Rattle.ts_page.specs.Pages.{bytes_at}

pub Torn-refl : (at n : ℕ) (bytes : List ℕ) → Torn at n bytes bytes
Torn-refl at n bytes = record { len = refl; before = refl; after = refl }

-- bytes that end before the range, or begin behind it, are the same
pub outside : (at n m l : ℕ) (old new : List ℕ) → Torn at n old new → (m + l ≤ at) ⊎ (at + n ≤ m) → bytes_at m l new ≡ bytes_at m l old
outside at n m l old new torn (inl before) =
    let start : (image : List ℕ) → bytes_at m l image ≡ drop m (take (m + l) (take at image)) =
    λ image. sym (drop-take m l image) ∙ ap (drop m) (sym (take-take (m + l) at image before)) in
    start new ∙ ap (λ (b : List ℕ). drop m (take (m + l) b)) torn.before ∙ sym (start old)
outside at n m l old new torn (inr behind) = ap (take l) (drop_further (at + n) m old new behind torn.after)

pub overwritten-length : (at : ℕ) (bytes old : List ℕ) → at + length bytes ≤ length old → length (overwritten at bytes old) ≡ length old
overwritten-length at bytes old room =
    omega (arith, length-append (take at old ++ bytes) (drop (at + length bytes) old), length-append (take at old) bytes, length-take-le at old (omega arith), length-drop (at + length bytes) old)

pub Torn-overwritten : (at : ℕ) (bytes old : List ℕ) → at + length bytes ≤ length old → Torn at (length bytes) old (overwritten at bytes old)
Torn-overwritten at bytes old room =
    let front = take at old in
    let size : length front ≡ at = length-take-le at old (omega arith) in
    let both : length (front ++ bytes) ≡ at + length bytes = omega (arith, length-append front bytes, size) in
    record {
      len = overwritten-length at bytes old room;
      before = ap (take at) (append_assoc front bytes (drop (at + length bytes) old)) ∙ take_at front (bytes ++ drop (at + length bytes) old) at size;
      after = drop_at (front ++ bytes) (drop (at + length bytes) old) (at + length bytes) both;
    }

pub overwritten-none : (at : ℕ) (old : List ℕ) → overwritten at [] old ≡ old
overwritten-none at old = ap (λ (l : List ℕ). l ++ drop (at + 0) old) (append-nil (take at old)) ∙ ap (λ (n : ℕ). take at old ++ drop n old) (add-zero at) ∙ take-append-drop at old

-- what was written is there
pub written_part : (at : ℕ) (bytes old : List ℕ) (i l : ℕ) → at + length bytes ≤ length old → i + l ≤ length bytes → bytes_at (at + i) l (overwritten at bytes old) ≡ bytes_at i l bytes
written_part at bytes old i l room within =
    let front = take at old in
    let rest = drop (at + length bytes) old in
    let size : length front ≡ at = length-take-le at old (omega arith) in
    ap (λ (b : List ℕ). bytes_at (at + i) l b) (append_assoc front bytes rest)
    ∙ ap (take l) (sym (drop-drop i at (front ++ (bytes ++ rest))) ∙ ap (drop i) (drop_at front (bytes ++ rest) at size) ∙ drop-append-le i bytes rest (omega arith))
    ∙ take-append-le l (drop i bytes) rest (omega (arith, length-drop i bytes))
