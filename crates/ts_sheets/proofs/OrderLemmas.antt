-- The order of elements over several pages.
use Rattle.std.proofs.Common.{◌≡◌, ℕ, ℤ, ◌<ℤ◌, ◌≤ℤ◌, Some, List, [], ◌∷◌, ◌++◌, take, drop, refl, sym, ap, subst, ◌∙◌, arith, append_assoc}
use Rattle.std.proofs.lemmas.Int.{ints}
use Rattle.std.proofs.lemmas.List.{take-append-drop}
use Rattle.ts_row.specs.declared.kind.Column.{Column}
use Rattle.ts_row.specs.Row.{Element}
use Rattle.ts_cells.specs.IrregularPage.{page_room, AreElements, AreRising, AreInOrder, first_stamp}
use Rattle.ts_sheets.specs.Stamped.{all_in, AreEarlier, AreLater, AreBefore, ArePages, AreSized}

-- the elements of two parts of a chain
pub all_in-append : (front back : List (List Element)) → all_in (front ++ back) ≡ all_in front ++ all_in back
all_in-append [] back = refl
all_in-append (es ∷ front) back = ap (λ (l : List Element). es ++ l) (all_in-append front back) ∙ sym (append_assoc es (all_in front) (all_in back))

-- two lists together
pub later_both : (stamp : ℤ) (xs ys : List Element) → AreLater stamp xs → AreLater stamp ys → AreLater stamp (xs ++ ys)
later_both stamp [] ys first second = second
later_both stamp (x ∷ xs) ys first second = (first.0, later_both stamp xs ys first.1 second)

pub later_front : (stamp : ℤ) (xs ys : List Element) → AreLater stamp (xs ++ ys) → AreLater stamp xs
later_front stamp [] ys later = tt
later_front stamp (x ∷ xs) ys later = (later.0, later_front stamp xs ys later.1)

pub later_back : (stamp : ℤ) (xs ys : List Element) → AreLater stamp (xs ++ ys) → AreLater stamp ys
later_back stamp [] ys later = later
later_back stamp (x ∷ xs) ys later = later_back stamp xs ys later.1

pub earlier_both : (stamp : ℤ) (xs ys : List Element) → AreEarlier stamp xs → AreEarlier stamp ys → AreEarlier stamp (xs ++ ys)
earlier_both stamp [] ys first second = second
earlier_both stamp (x ∷ xs) ys first second = (first.0, earlier_both stamp xs ys first.1 second)

-- an earlier stamp, and a later one
pub later_than : (low high : ℤ) (es : List Element) → low ≤ℤ high → AreLater high es → AreLater low es
later_than low high [] below later = tt
later_than low high (e ∷ es) below later =
    let first = later.0 in
    (omega (arith, ints, below, first), later_than low high es below later.1)

pub earlier_than : (low high : ℤ) (es : List Element) → low ≤ℤ high → AreEarlier low es → AreEarlier high es
earlier_than low high [] below earlier = tt
earlier_than low high (e ∷ es) below earlier =
    let first = earlier.0 in
    (omega (arith, ints, below, first), earlier_than low high es below earlier.1)

-- all that is behind the first of elements in order is later
pub later_of : (x : Element) (es : List Element) → AreRising (x ∷ es) → AreLater x.0 es
later_of x [] rise = tt
later_of x (e ∷ es) rise =
    let first = rise.0 in
    (first, later_than x.0 e.0 es (omega (arith, ints, first)) (later_of e es rise.1))

pub rising_of : (x : Element) (es : List Element) → AreLater x.0 es → AreRising es → AreRising (x ∷ es)
rising_of x [] later rise = tt
rising_of x (e ∷ es) later rise = (later.0, rise)

pub rising_tail : (x : Element) (es : List Element) → AreRising (x ∷ es) → AreRising es
rising_tail x [] rise = tt
rising_tail x (e ∷ es) rise = rise.1

-- two lists in order, of which the first is before the second
pub rising_both : (xs ys : List Element) → AreRising xs → AreRising ys → AreBefore xs ys → AreRising (xs ++ ys)
rising_both [] ys first second before = second
rising_both (x ∷ xs) ys first second before =
    rising_of x (xs ++ ys) (later_both x.0 xs ys (later_of x xs first) before.0) (rising_both xs ys (rising_tail x xs first) second before.1)

pub rising_front : (xs ys : List Element) → AreRising (xs ++ ys) → AreRising xs
rising_front [] ys rise = tt
rising_front (x ∷ xs) ys rise = rising_of x xs (later_front x.0 xs ys (later_of x (xs ++ ys) rise)) (rising_front xs ys (rising_tail x (xs ++ ys) rise))

pub rising_back : (xs ys : List Element) → AreRising (xs ++ ys) → AreRising ys
rising_back [] ys rise = rise
rising_back (x ∷ xs) ys rise = rising_back xs ys (rising_tail x (xs ++ ys) rise)

pub rising_before : (xs ys : List Element) → AreRising (xs ++ ys) → AreBefore xs ys
rising_before [] ys rise = tt
rising_before (x ∷ xs) ys rise = (later_back x.0 xs ys (later_of x (xs ++ ys) rise), rising_before xs ys (rising_tail x (xs ++ ys) rise))

pub elements_both : (columns : List Column) (xs ys : List Element) → AreElements columns xs → AreElements columns ys → AreElements columns (xs ++ ys)
elements_both columns [] ys first second = second
elements_both columns (x ∷ xs) ys first second = (first.0, elements_both columns xs ys first.1 second)

pub elements_front : (columns : List Column) (xs ys : List Element) → AreElements columns (xs ++ ys) → AreElements columns xs
elements_front columns [] ys are = tt
elements_front columns (x ∷ xs) ys are = (are.0, elements_front columns xs ys are.1)

pub elements_back : (columns : List Column) (xs ys : List Element) → AreElements columns (xs ++ ys) → AreElements columns ys
elements_back columns [] ys are = are
elements_back columns (x ∷ xs) ys are = elements_back columns xs ys are.1

-- the elements of all pages are in order
pub pages_in_order : (columns : List Column) (chain : List (List Element)) → ArePages columns chain → AreInOrder columns (all_in chain)
pages_in_order columns [] pages = record { each = tt; rising = tt }
pages_in_order columns (es ∷ chain) pages =
    let own = pages.0.elements in
    let rest = pages_in_order columns chain pages.2 in
    record { each = elements_both columns es (all_in chain) own.each rest.each; rising = rising_both es (all_in chain) own.rising rest.rising pages.1 }

-- the sizes of pages
pub sized_pages : (columns : List Column) (chain : List (List Element)) → ArePages columns chain → AreSized (page_room columns) chain
sized_pages columns [] pages = tt
sized_pages columns (es ∷ chain) pages = (pages.0.some, pages.0.room, sized_pages columns chain pages.2)

pub sized_both : (q : ℕ) (front back : List (List Element)) → AreSized q front → AreSized q back → AreSized q (front ++ back)
sized_both q [] back first second = second
sized_both q (es ∷ front) back first second = (first.0, first.1, sized_both q front back first.2 second)

pub sized_front : (q : ℕ) (front back : List (List Element)) → AreSized q (front ++ back) → AreSized q front
sized_front q [] back sized = tt
sized_front q (es ∷ front) back sized = (sized.0, sized.1, sized_front q front back sized.2)

pub sized_back : (q : ℕ) (front back : List (List Element)) → AreSized q (front ++ back) → AreSized q back
sized_back q [] back sized = sized
sized_back q (es ∷ front) back sized = sized_back q front back sized.2

-- such pages of elements in order are the pages of a chain
pub pages_made : (columns : List Column) (chain : List (List Element)) → AreSized (page_room columns) chain → AreInOrder columns (all_in chain) → ArePages columns chain
pages_made columns [] sized order = tt
pages_made columns (es ∷ chain) sized order = (
  record {
    some = sized.0;
    room = sized.1;
    elements = record { each = elements_front columns es (all_in chain) order.each; rising = rising_front es (all_in chain) order.rising };
  },
  rising_before es (all_in chain) order.rising,
  pages_made columns chain sized.2 (record { each = elements_back columns es (all_in chain) order.each; rising = rising_back es (all_in chain) order.rising }),
)

-- the first of elements in order, and the others
pub order_first : (columns : List Column) (k : ℕ) (es : List Element) → AreInOrder columns es → AreInOrder columns (take k es)
order_first columns k es order =
    let P : List Element → Type 0 = AreInOrder columns in
    let whole : AreInOrder columns (take k es ++ drop k es) = subst P (sym (take-append-drop k es)) order in
    record { each = elements_front columns (take k es) (drop k es) whole.each; rising = rising_front (take k es) (drop k es) whole.rising }

pub order_others : (columns : List Column) (k : ℕ) (es : List Element) → AreInOrder columns es → AreInOrder columns (drop k es)
order_others columns k es order =
    let P : List Element → Type 0 = AreInOrder columns in
    let whole : AreInOrder columns (take k es ++ drop k es) = subst P (sym (take-append-drop k es)) order in
    record { each = elements_back columns (take k es) (drop k es) whole.each; rising = rising_back (take k es) (drop k es) whole.rising }

-- elements that are all earlier, by their two parts
pub earlier_front : (stamp : ℤ) (xs ys : List Element) → AreEarlier stamp (xs ++ ys) → AreEarlier stamp xs
earlier_front stamp [] ys earlier = tt
earlier_front stamp (x ∷ xs) ys earlier = (earlier.0, earlier_front stamp xs ys earlier.1)

pub earlier_back : (stamp : ℤ) (xs ys : List Element) → AreEarlier stamp (xs ++ ys) → AreEarlier stamp ys
earlier_back stamp [] ys earlier = earlier
earlier_back stamp (x ∷ xs) ys earlier = earlier_back stamp xs ys earlier.1

pub some_z : {a b : ℤ} → Some a ≡ Some b → a ≡ b
some_z same = cc

-- where elements begin that are all earlier
pub first_earlier : (at first : ℤ) (es : List Element) → AreEarlier at es → first_stamp es ≡ Some first → first <ℤ at
first_earlier at first [] earlier is = absurd (cc)
first_earlier at first (e ∷ es) earlier is = subst (λ (z : ℤ). z <ℤ at) (some_z is) earlier.0
