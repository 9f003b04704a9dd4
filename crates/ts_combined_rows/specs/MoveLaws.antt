-- The laws of one that hands on elements at other on starts: it takes none, or some and then others. They stand here
-- since the law of a trait takes its proof from specs/.
use Rattle.std.proofs.Common.{◌≡◌, ℕ, ◌+◌, ◌<◌, ◌^◌, List, [], ◌++◌, length, length-append, map}
use Rattle.std.proofs.Common.{refl, sym, ap, subst, ◌∙◌}
use Rattle.std.proofs.Math.Nat.{le_refl, le_trans, add-zero, add_assoc, lt_of_le_of_lt, le-add_right}
use Rattle.std.proofs.lemmas.List.{map-append}
use Rattle.std.proofs.lemmas.List.Elements.{filter_map-append}
use Rattle.ts_row.specs.Row.{Element}
use Rattle.ts_entry.specs.Entry.{Entry, filled, element_of, elements_of}
use Rattle.ts_combine.specs.Moved.{moved}
use Rattle.ts_combined_rows.specs.Moves.{Mover, Moves, moved_by, with_count}

module _ {V : Type 0} (took : V → List Entry → V → Type 0) where
  pub moves_none : (none : (x : V) → took x [] x) (v : Mover) (x : V) → Moves took v x [] v x
  moves_none none v x = record {
    same = refl;
    more = le_refl v.count;
    counted = λ few. sym (add-zero v.count);
    taken = λ few. none x;
  }

  -- how many come of both
  both_length : (u : Mover) (es fs : List Element) →
      u.count + length (moved_by u (es ++ fs)) ≡ (u.count + length (moved_by u es)) + length (moved_by u fs)
  both_length u es fs =
      ap (λ (l : List Element). u.count + length l) (filter_map-append (moved u.grid u.by u.last) es fs)
      ∙ ap (λ (n : ℕ). u.count + n) (length-append (moved_by u es) (moved_by u fs))
      ∙ sym (add_assoc u.count (length (moved_by u es)) (length (moved_by u fs)))

  both_entries : (u : Mover) (es fs : List Element) →
      map filled (moved_by u (es ++ fs)) ≡ map filled (moved_by u es) ++ map filled (moved_by u fs)
  both_entries u es fs =
      ap (map filled) (filter_map-append (moved u.grid u.by u.last) es fs)
      ∙ map-append filled (moved_by u es) (moved_by u fs)

  moves_both : (then : (x y z : V) (es fs : List Entry) → took x es y → took y fs z → took x (es ++ fs) z)
      (u v w : Mover) (x y z : V) (es fs : List Element) → Moves took u x es v y → Moves took v y fs w z →
      Moves took u x (es ++ fs) w z
  moves_both then u v w x y z es fs p q =
      let rest : moved_by v fs ≡ moved_by u fs = ap (λ (t : Mover). moved_by t fs) p.same in
      record {
        same = q.same ∙ ap (λ (t : Mover). with_count t w.count) p.same;
        more = le_trans p.more q.more;
        counted = λ few.
            let others = length (moved_by u fs) in
            let all : (u.count + length (moved_by u es)) + others < 2 ^ 64 =
            subst (λ (n : ℕ). n < 2 ^ 64) (both_length u es fs) few in
            let first = p.counted (lt_of_le_of_lt (le-add_right (u.count + length (moved_by u es)) others) all) in
            let second : v.count + length (moved_by v fs) ≡ (u.count + length (moved_by u es)) + others =
            ap (λ (l : List Element). v.count + length l) rest ∙ ap (λ (n : ℕ). n + others) first in
            q.counted (subst (λ (n : ℕ). n < 2 ^ 64) (sym second) all) ∙ second ∙ sym (both_length u es fs);
        taken = λ few.
            subst (λ (l : List Entry). took x l z) (sym (both_entries u es fs))
            (then x y z (map filled (moved_by u es)) (map filled (moved_by u fs)) (p.taken (le_trans q.more few))
            (subst (λ (l : List Element). took y (map filled l) z) rest (q.taken few)));
      }

  pub moves_then : (then : (x y z : V) (es fs : List Entry) → took x es y → took y fs z → took x (es ++ fs) z)
      (u v w : Mover) (x y z : V) (es fs : List Entry) → Moves took u x (elements_of es) v y →
      Moves took v y (elements_of fs) w z → Moves took u x (elements_of (es ++ fs)) w z
  moves_then then u v w x y z es fs p q =
      subst (λ (l : List Element). Moves took u x l w z) (sym (filter_map-append element_of es fs))
      (moves_both then u v w x y z (elements_of es) (elements_of fs) p q)
