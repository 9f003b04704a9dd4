-- An edit of a list is that of the part which the stamp belongs to.
use Rattle.std.proofs.Common.{◌≡◌, ℤ, ◌<ℤ◌, ◌≤ℤ◌, Some, None, List, [], ◌∷◌, ◌++◌, refl, sym, ap, ◌∙◌, arith}
use Rattle.std.proofs.lemmas.Int.{by_lt_z, ints}
use Rattle.ts_row.specs.Row.{Row, Element}
use Rattle.ts_irregular.specs.Edit.{element_at, with_element, without_element}
use Rattle.ts_irregular.proofs.EditLemmas.{int_lt_yes, int_lt_no}
use Rattle.ts_sheets.specs.Stamped.{all_in, AreEarlier, AreLater, IsAround}
use Rattle.ts_sheets.proofs.OrderLemmas.{all_in-append}

-- an earlier element, a later one and one at the stamp
pub at_lower : (stamp : ℤ) (e : Element) (es : List Element) → e.0 <ℤ stamp → element_at stamp (e ∷ es) ≡ element_at stamp es
at_lower stamp e es low = rw (int_lt_no stamp e.0 (omega (arith, ints, low)), int_lt_yes e.0 stamp low) refl

pub at_higher : (stamp : ℤ) (e : Element) (es : List Element) → stamp <ℤ e.0 → element_at stamp (e ∷ es) ≡ element_at stamp es
at_higher stamp e es high = rw (int_lt_yes stamp e.0 high) refl

pub at_same : (stamp : ℤ) (e : Element) (es : List Element) → stamp ≤ℤ e.0 → e.0 ≤ℤ stamp → element_at stamp (e ∷ es) ≡ Some e.1
at_same stamp e es low high = rw (int_lt_no stamp e.0 high, int_lt_no e.0 stamp low) refl

pub with_lower : (stamp : ℤ) (row : Row) (e : Element) (es : List Element) → e.0 <ℤ stamp → with_element stamp row (e ∷ es) ≡ e ∷ with_element stamp row es
with_lower stamp row e es low = rw (int_lt_no stamp e.0 (omega (arith, ints, low)), int_lt_yes e.0 stamp low) refl

pub with_higher : (stamp : ℤ) (row : Row) (e : Element) (es : List Element) → stamp <ℤ e.0 → with_element stamp row (e ∷ es) ≡ (stamp, row) ∷ e ∷ es
with_higher stamp row e es high = rw (int_lt_yes stamp e.0 high) refl

pub with_same : (stamp : ℤ) (row : Row) (e : Element) (es : List Element) → stamp ≤ℤ e.0 → e.0 ≤ℤ stamp → with_element stamp row (e ∷ es) ≡ (e.0, row) ∷ es
with_same stamp row e es low high = rw (int_lt_no stamp e.0 high, int_lt_no e.0 stamp low) refl

pub without_lower : (stamp : ℤ) (e : Element) (es : List Element) → e.0 <ℤ stamp → without_element stamp (e ∷ es) ≡ e ∷ without_element stamp es
without_lower stamp e es low = rw (int_lt_no stamp e.0 (omega (arith, ints, low)), int_lt_yes e.0 stamp low) refl

pub without_higher : (stamp : ℤ) (e : Element) (es : List Element) → stamp <ℤ e.0 → without_element stamp (e ∷ es) ≡ e ∷ without_element stamp es
without_higher stamp e es high = rw (int_lt_yes stamp e.0 high) refl

pub without_same : (stamp : ℤ) (e : Element) (es : List Element) → stamp ≤ℤ e.0 → e.0 ≤ℤ stamp → without_element stamp (e ∷ es) ≡ without_element stamp es
without_same stamp e es low high = rw (int_lt_no stamp e.0 high, int_lt_no e.0 stamp low) refl

-- behind elements that are earlier
pub at_behind : (stamp : ℤ) (xs ys : List Element) → AreEarlier stamp xs → element_at stamp (xs ++ ys) ≡ element_at stamp ys
at_behind stamp [] ys earlier = refl
at_behind stamp (x ∷ xs) ys earlier = at_lower stamp x (xs ++ ys) earlier.0 ∙ at_behind stamp xs ys earlier.1

pub with_behind : (stamp : ℤ) (row : Row) (xs ys : List Element) → AreEarlier stamp xs → with_element stamp row (xs ++ ys) ≡ xs ++ with_element stamp row ys
with_behind stamp row [] ys earlier = refl
with_behind stamp row (x ∷ xs) ys earlier = with_lower stamp row x (xs ++ ys) earlier.0 ∙ ap (λ (l : List Element). x ∷ l) (with_behind stamp row xs ys earlier.1)

pub without_behind : (stamp : ℤ) (xs ys : List Element) → AreEarlier stamp xs → without_element stamp (xs ++ ys) ≡ xs ++ without_element stamp ys
without_behind stamp [] ys earlier = refl
without_behind stamp (x ∷ xs) ys earlier = without_lower stamp x (xs ++ ys) earlier.0 ∙ ap (λ (l : List Element). x ∷ l) (without_behind stamp xs ys earlier.1)

-- none of later elements is at the stamp
pub none_later : (stamp : ℤ) (ys : List Element) → AreLater stamp ys → element_at stamp ys ≡ None
none_later stamp [] later = refl
none_later stamp (y ∷ ys) later = at_higher stamp y ys later.0 ∙ none_later stamp ys later.1

with_first : (stamp : ℤ) (row : Row) (ys : List Element) → AreLater stamp ys → with_element stamp row ys ≡ (stamp, row) ∷ ys
with_first stamp row [] later = refl
with_first stamp row (y ∷ ys) later = with_higher stamp row y ys later.0

pub without_none : (stamp : ℤ) (ys : List Element) → AreLater stamp ys → without_element stamp ys ≡ ys
without_none stamp [] later = refl
without_none stamp (y ∷ ys) later = without_higher stamp y ys later.0 ∙ ap (λ (l : List Element). y ∷ l) (without_none stamp ys later.1)

-- before elements that are later
pub at_before : (stamp : ℤ) (xs ys : List Element) → AreLater stamp ys → element_at stamp (xs ++ ys) ≡ element_at stamp xs
at_before stamp [] ys later = none_later stamp ys later
at_before stamp (x ∷ xs) ys later = by_lt_z x.0 stamp
    (λ low. at_lower stamp x (xs ++ ys) low ∙ at_before stamp xs ys later ∙ sym (at_lower stamp x xs low))
    (λ high. by_lt_z stamp x.0
    (λ above. at_higher stamp x (xs ++ ys) above ∙ at_before stamp xs ys later ∙ sym (at_higher stamp x xs above))
    (λ below. at_same stamp x (xs ++ ys) high below ∙ sym (at_same stamp x xs high below)))

pub with_before : (stamp : ℤ) (row : Row) (xs ys : List Element) → AreLater stamp ys → with_element stamp row (xs ++ ys) ≡ with_element stamp row xs ++ ys
with_before stamp row [] ys later = with_first stamp row ys later
with_before stamp row (x ∷ xs) ys later = by_lt_z x.0 stamp
    (λ low. with_lower stamp row x (xs ++ ys) low ∙ ap (λ (l : List Element). x ∷ l) (with_before stamp row xs ys later) ∙ ap (λ (l : List Element). l ++ ys) (sym (with_lower stamp row x xs low)))
    (λ high. by_lt_z stamp x.0
    (λ above. with_higher stamp row x (xs ++ ys) above ∙ ap (λ (l : List Element). l ++ ys) (sym (with_higher stamp row x xs above)))
    (λ below. with_same stamp row x (xs ++ ys) high below ∙ ap (λ (l : List Element). l ++ ys) (sym (with_same stamp row x xs high below))))

pub without_before : (stamp : ℤ) (xs ys : List Element) → AreLater stamp ys → without_element stamp (xs ++ ys) ≡ without_element stamp xs ++ ys
without_before stamp [] ys later = without_none stamp ys later
without_before stamp (x ∷ xs) ys later = by_lt_z x.0 stamp
    (λ low. without_lower stamp x (xs ++ ys) low ∙ ap (λ (l : List Element). x ∷ l) (without_before stamp xs ys later) ∙ ap (λ (l : List Element). l ++ ys) (sym (without_lower stamp x xs low)))
    (λ high. by_lt_z stamp x.0
    (λ above. without_higher stamp x (xs ++ ys) above ∙ ap (λ (l : List Element). x ∷ l) (without_before stamp xs ys later) ∙ ap (λ (l : List Element). l ++ ys) (sym (without_higher stamp x xs above)))
    (λ below. without_same stamp x (xs ++ ys) high below ∙ without_before stamp xs ys later ∙ ap (λ (l : List Element). l ++ ys) (sym (without_same stamp x xs high below))))

-- some pages between others
pub all_between : (front mid back : List (List Element)) → all_in (front ++ (mid ++ back)) ≡ all_in front ++ (all_in mid ++ all_in back)
all_between front mid back = all_in-append front (mid ++ back) ∙ ap (λ (l : List Element). all_in front ++ l) (all_in-append mid back)

module _ (stamp : ℤ) (front mid back : List (List Element)) (around : IsAround stamp front back) where
  pub at_around : element_at stamp (all_in (front ++ (mid ++ back))) ≡ element_at stamp (all_in mid)
  at_around = ap (element_at stamp) (all_between front mid back) ∙ at_behind stamp (all_in front) (all_in mid ++ all_in back) around.earlier ∙ at_before stamp (all_in mid) (all_in back) around.later

  pub with_around : (row : Row) → with_element stamp row (all_in (front ++ (mid ++ back))) ≡ all_in front ++ (with_element stamp row (all_in mid) ++ all_in back)
  with_around row =
      ap (with_element stamp row) (all_between front mid back) ∙ with_behind stamp row (all_in front) (all_in mid ++ all_in back) around.earlier
      ∙ ap (λ (l : List Element). all_in front ++ l) (with_before stamp row (all_in mid) (all_in back) around.later)

  pub without_around : without_element stamp (all_in (front ++ (mid ++ back))) ≡ all_in front ++ (without_element stamp (all_in mid) ++ all_in back)
  without_around =
      ap (without_element stamp) (all_between front mid back) ∙ without_behind stamp (all_in front) (all_in mid ++ all_in back) around.earlier
      ∙ ap (λ (l : List Element). all_in front ++ l) (without_before stamp (all_in mid) (all_in back) around.later)
