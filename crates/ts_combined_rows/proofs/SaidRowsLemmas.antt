-- Rows that are said one after the other.
use Rattle.std.proofs.Common.{◌≡◌, ℕ, ℤ, ◌+◌, ◌<◌, ◌≤◌, IsTrue, Option, Some, None, IfSome, List, [], ◌∷◌, ◌++◌, map, take, length, get_or, refl, ap, sym, subst, ◌∙◌, append_assoc, append-nil}
use Rattle.std.specs.Prelude.{slice_get}
use Rattle.std.specs.Borrow.{Bor}
use Rattle.std.specs.List.{flat_map}
use Rattle.std.specs.Option.{option_map, option_copied}
use Rattle.std.proofs.lemmas.List.{map_more, take_all, length-map}
use Rattle.std.proofs.lemmas.List.Concat.{flat_map-append}
use Rattle.std.proofs.lemmas.Option.{slice_get_within, get_or_from_slice_get}
use Rattle.ts_row.specs.declared.kind.Column.{Column}
use Rattle.ts_row.specs.Row.{Row, fits, visible, Element}
use Rattle.ts_combine.specs.Combine.{values_or_nulls}
use Rattle.ts_combine.specs.Call.{row_at}
use Rattle.ts_entry.specs.Entry.{filled}
use Rattle.ts_answer.specs.Reply.{element_line, elements_text, entry_line, count_line}
use Rattle.ts_combined_rows.specs.Combining.{AllFit}

-- one more
pub said_more : {T : Type 0} (line : Element → List ℕ) (f : T → Element) (rows : List T) (i : ℕ) (row : T) (begun out after : List ℕ) → i < length rows → row ≡ get_or rows i row → out ≡ begun ++ flat_map line (map f (take i rows))
    → after ≡ out ++ line (f row) → after ≡ begun ++ flat_map line (map f (take (i + 1) rows))
said_more line f rows i row begun out after below is said one =
    let front = flat_map line (map f (take i rows)) in
    let lines : flat_map line (map f (take (i + 1) rows)) ≡ front ++ line (f row) =
    ap (flat_map line) (map_more f rows i row below ∙ ap (λ r. map f (take i rows) ++ f r ∷ []) (sym is))
    ∙ flat_map-append line (map f (take i rows)) (f row ∷ []) ∙ ap (λ l. front ++ l) (append-nil (line (f row))) in
    one ∙ ap (λ l. l ++ line (f row)) said ∙ append_assoc begun front (line (f row)) ∙ ap (λ l. begun ++ l) (sym lines)

-- all of them
pub said_all : {T : Type 0} (line : Element → List ℕ) (f : T → Element) (rows : List T) (i : ℕ) (begun out : List ℕ) → length rows ≤ i → out ≡ begun ++ flat_map line (map f (take i rows))
    → out ≡ begun ++ flat_map line (map f rows)
said_all line f rows i begun out past said = said ∙ ap (λ r. begun ++ flat_map line (map f r)) (take_all i rows past)

fits_at : (columns : List Column) (es : List Element) (i : ℕ) (found : Option Element) (r : Row) → slice_get es i ≡ found → option_map (λ (e : Element). e.1) found ≡ Some r → AllFit columns es → IsTrue (fits columns r)
fits_at columns es i None r at is all = absurd (cc)
fits_at columns es i (Some e) r at is all =
    let row : e.1 ≡ r = cc in
    subst (λ (x : Row). IsTrue (fits columns x)) (ap (λ (x : Element). x.1) (get_or_from_slice_get es i e e at) ∙ row) (all i e (slice_get_within es i e at))

-- a row that is there fits, where all do
pub row_fits : (columns : List Column) (es : List Element) (index : Option ℕ) (found : Option (Bor Row)) → option_copied found ≡ row_at es index → AllFit columns es → IfSome found (λ r. IsTrue (fits columns r.now))
row_fits columns es index None is all = tt
row_fits columns es None (Some r) is all = absurd (cc)
row_fits columns es (Some i) (Some r) is all = fits_at columns es i (slice_get es i) r.now refl (sym is) all

-- a joined line, by the columns and rows of its sides
pub joined_line : (line : Element → List ℕ) (stamp : ℤ) (m n a b : ℕ) (x y x' y' : Option Row) (out after : List ℕ) → after ≡ out ++ line (stamp, visible (values_or_nulls m x ++ values_or_nulls n y)) → a ≡ m → b ≡ n → x ≡ x' → y ≡ y'
    → after ≡ out ++ line (stamp, visible (values_or_nulls a x' ++ values_or_nulls b y'))
joined_line line stamp m n a b x y x' y' out after said first second one other =
    let left : m ≡ a = sym first in
    let right : n ≡ b = sym second in
    said ∙ (λ i. out ++ line (stamp, visible (values_or_nulls (left i) (one i) ++ values_or_nulls (right i) (other i))))

-- the lines of entries that have an element each
entry_lines : (columns : List Column) (rows : List Element) → flat_map (entry_line columns) (map filled rows) ≡ flat_map (element_line columns) rows
unfolding entry_line element_line
entry_lines columns [] = refl
entry_lines columns (e ∷ rows) = ap (λ (l : List ℕ). element_line columns e ++ l) (entry_lines columns rows)

-- Such lines behind nothing, and their number: what is said once the lines are no longer borrowed.
pub entries_said : {Name : Type 0} (columns : List Column) (rows : List Element) (empty begun ended given after : List ℕ) (count : ℕ) (name first last : Name) → empty ≡ [] → begun ≡ empty → first ≡ name
    → (last ≡ first) × (ended ≡ begun ++ flat_map (entry_line columns) (map filled rows)) → count ≡ length rows → after ≡ given ++ count_line count → (name ≡ last → given ≡ ended) → after ≡ elements_text columns rows
unfolding elements_text
entries_said columns rows empty begun ended given after count name first last none begins same took number counted back =
    let lines : given ≡ flat_map (element_line columns) rows =
    back (sym (took.0 ∙ same)) ∙ took.1 ∙ ap (λ (b : List ℕ). b ++ flat_map (entry_line columns) (map filled rows)) (begins ∙ none) ∙ entry_lines columns rows in
    counted ∙ (λ i. lines i ++ count_line (number i))
