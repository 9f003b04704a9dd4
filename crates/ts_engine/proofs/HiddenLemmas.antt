-- What a survey tells of hidden elements, as marks that cover the catalogue of what it found.
use Rattle.std.proofs.Common.{◌≡◌, ℕ, zero, suc, ◌<◌, Bool, true, false, ◌==◌, if◌then◌else◌, Option, Some, List, [], ◌∷◌, length, refl, ap, sym, subst, arith}
use Rattle.std.proofs.lemmas.Bool.{eqb-true}
use Rattle.ts_row.specs.Row.{Element, has_hidden}
use Rattle.ts_model.specs.declared.kind.Kind.TheVariants as kinds
use Rattle.ts_model.specs.Catalogue.{Series}
use Rattle.ts_model.specs.Definitions.{at_slot}
use Rattle.ts_layout.specs.Laws.{NamesStandInSlots}
use Rattle.ts_layout.specs.Sheets.{Sheet}
use Rattle.ts_layout.specs.Meaning.{Layout, ElementPage, Free, Cells, IsSound, element_page, elements_on, elements_of, catalogue_of}
use Rattle.ts_container.specs.Survey.{TellsHidden}
use Rattle.ts_hidden.specs.Hidden.{AreShown}
use Rattle.ts_hidden.specs.Marks.{is_marked, Cover, AreOfSlots}
use Rattle.ts_hidden.proofs.CallerLemmas.{joined_listed, listed_shown}

-- on one page, and on all
none_if : (b : Bool) (es : List Element) → (b ≡ true → has_hidden es ≡ false) → has_hidden (if b then es else []) ≡ false
none_if true es none = none refl
none_if false es none = refl

none_on : (slot : ℕ) (e : ElementPage) → ((sheet : Sheet) → e ≡ Cells slot sheet → has_hidden sheet.1 ≡ false) → has_hidden (elements_on slot e) ≡ false
none_on slot Free each = refl
none_on slot (Cells s sheet) each = none_if (s == slot) sheet.1 (λ same. each sheet (ap (λ (n : ℕ). Cells n sheet) (eqb-true s slot same)))

none_of : (slot : ℕ) (pages : List ElementPage) → ((i : ℕ) (sheet : Sheet) → element_page i pages ≡ Cells slot sheet → has_hidden sheet.1 ≡ false) → has_hidden (elements_of slot pages) ≡ false
none_of slot [] each = refl
none_of slot (e ∷ pages) each =
    joined_listed (elements_on slot e) (elements_of slot pages) (none_on slot e (λ sheet is. each 0 sheet is)) (none_of slot pages (λ i sheet is. each (suc i) sheet is))

-- a filled slot is one of the table
within_table : {A : Type 0} (table : List (Option A)) (slot : ℕ) (a : A) → at_slot slot table ≡ Some a → slot < length table
within_table [] slot a there = absurd (cc)
within_table (x ∷ table) zero a there = omega arith
within_table (x ∷ table) (suc slot) a there = let rest = within_table table slot a there in omega (arith, rest)

pub slots_cover : NamesStandInSlots → (slots : List Bool) (marks : List (List ℕ)) (l : Layout) → IsSound l → TellsHidden slots l → AreOfSlots l.definitions slots marks → Cover marks (catalogue_of l)
slots_cover names slots marks l rules tells of key none s there =
    let at = names.listed kinds.Series l key s rules there in
    let unmarked : is_marked at.1.key marks ≡ false = subst (λ (k : List ℕ). is_marked k marks ≡ false) (sym at.2.its_name) none in
    let within = within_table l.definitions.series at.0 at.1 at.2.there in
    let clear = of at.0 at.1 (omega (arith, within, rules.definitions.tables.series.size)) at.2.there unmarked in
    subst (λ (x : Series). AreShown x.elements) (sym at.3) (listed_shown (elements_of at.0 l.element_pages) (none_of at.0 l.element_pages (λ i sheet is. tells i at.0 sheet is clear)))
