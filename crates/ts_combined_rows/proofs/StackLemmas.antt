-- What a list makes of stacks, and what is said of them.
use Rattle.std.proofs.Common.{◌≡◌, ℕ, ◌+◌, ◌<◌, ◌≤◌, ℤ, Bool, true, false, cond, IsTrue, Option, Some, None, IsSome, All, List, [], ◌∷◌, ◌++◌, map, length, take, get_or, append-nil, refl, ap, sym, subst, ◌∙◌, arith}
use Rattle.std.specs.List.{AllZip, filter, flat_map}
use Rattle.std.specs.Option.{option_map}
use Rattle.std.proofs.lemmas.List.{take_more, map_push}
use Rattle.std.proofs.lemmas.List.Elements.{All-head, All-tail}
use Rattle.std.proofs.lemmas.Slice.Zip.{all_zipped_more, AllZip-long}
use Rattle.ts_page.specs.declared.page.Page.{Page}
use Rattle.ts_row.specs.Row.{Heading, Row, Element}
use Rattle.ts_space.specs.Directory.{places_of}
use Rattle.ts_sheets.specs.Stamped.{within_range}
use Rattle.ts_expr.specs.Aggregates.{Binding, folded_row}
use Rattle.ts_clip.specs.Series.{HaveOnPlaces}
use Rattle.ts_aggregate.specs.declared.series_pages.Stack.{Stack}
use Rattle.ts_aggregate.specs.Stacks.{IsFoldOf}
use Rattle.ts_model.specs.declared.kind.Kind.TheVariants as kinds
use Rattle.ts_model.specs.declared.def.Def.TheVariants as defs
use Rattle.ts_model.specs.Definitions.{Definitions, SeriesDef, of_series, at_slot, slots}
use Rattle.ts_layout.specs.Meaning.{Layout, heading_in, elements_at}
use Rattle.ts_layout.proofs.CallerLemmas.{own, at_slot-map}
use Rattle.ts_answer.specs.Answer.{scales_of, folded_range}
use Rattle.ts_answer.specs.Reply.{series_folded_line}
use Rattle.ts_answer.specs.View.{View, Shows, KeepsRules}
use Rattle.ts_shelf.proofs.MemoryLemmas.{few_elements}
use Rattle.ts_shelf.proofs.SeenLemmas.{elements_seen, entries_in}
use Rattle.ts_combined_rows.specs.Aggregates.{folded_if, folded_at, AreSaid}
use Rattle.ts_combined_rows.specs.Gathered.{stands_in, inside, IsStackOf, AreLinesOf}
use Rattle.ts_combined_rows.proofs.EachSeriesLemmas.{outside_none, inside_one, own_columns, said_behind}

-- a line begins with the key of a stack's series
abbrev pub IsKeyed : Definitions → Stack → List ℕ × Row → Type 0
IsKeyed d stack line = option_map (λ (s : SeriesDef). s.key) (at_slot stack.shelf.series d.series) ≡ Some line.0

-- what is said of a stack: the key of its series, and the row that a list makes of its pages among those that were read
pub record IsLineOf (b : Binding) (from to : ℤ) (d : Definitions) (read : List Page) (stack : Stack) (line : List ℕ × Row) : Type 0 where
  pub key : IsKeyed d stack line
  pub row : IsFoldOf b from to read stack line.1

-- the lines of stacks, where their rows are what a list makes of them
its_lines : (b : Binding) (from to : ℤ) (d : Definitions) (read : List Page) (stacks : List Stack) (lines : List (List ℕ × Row)) → AllZip (IsFoldOf b from to read) stacks (map (λ line. line.1) lines) → AllZip (IsKeyed d) stacks lines
    → AllZip (IsLineOf b from to d read) stacks lines
its_lines b from to d read [] [] folds are = tt
its_lines b from to d read [] (line ∷ lines) folds are = absurd are
its_lines b from to d read (stack ∷ stacks) [] folds are = absurd are
its_lines b from to d read (stack ∷ stacks) (line ∷ lines) folds are = (record { key = are.0; row = folds.0 }, its_lines b from to d read stacks lines folds.1 are.1)

pub lines_of : (b : Binding) (from to : ℤ) (d : Definitions) (read : List Page) (stacks : List Stack) (rows : List Row) (lines : List (List ℕ × Row)) → AllZip (IsFoldOf b from to read) stacks rows → AreLinesOf d stacks rows lines
    → AllZip (IsLineOf b from to d read) stacks lines
lines_of b from to d read stacks rows lines folds are = its_lines b from to d read stacks lines (subst (AllZip (IsFoldOf b from to read) stacks) (sym are.folded) folds) are.keyed

-- what is said of the stacks of a container is what a list makes of its series
module _ (tells : Bool) (x : View) (l : Layout) (kept : KeepsRules x) (told : IsTrue tells) (shows : Shows tells x l) (b : Binding) (from to : ℤ) (read : List Page)
    (container : ℕ) (of : option_map (λ (y : Heading). y.columns) (heading_in x.definitions container) ≡ Some b.columns) where
  module _ (slot : ℕ) (within : slot < 4096) (stands : stands_in container (at_slot slot x.definitions.series) ≡ true) (stack : Stack) (is : IsStackOf tells x from to read slot stack) where
    abbrev h : Heading
    h = stack.shelf.kind.now

    row_made : (row : Row) → IsFoldOf b from to read stack row → row ≡ folded_range b from to (elements_at slot l.element_pages)
    row_made row folds =
        let all = elements_seen tells x l stack.shape is.laid slot h told shows is.columns is.lies within in
        let own = is.holds.all slot x.pages.page all.0 all.1.have in
        let few = is.holds.few in
        let most = few_elements x kept slot within in
        let have = subst (λ (n : ℕ). HaveOnPlaces stack.shape n h.columns x.pages.page stack.places.now own.0) (sym is.series) own.1 in
        folds is.laid (omega (arith, few, most)) (sym (own_columns x container slot h stands is.columns b.columns of)) x.pages.page own.0 (is.pages told) have
        ∙ ap (λ (es : List Element). folded_row b.items (map (λ e. e.1) es)) own.2
        ∙ ap (λ (es : List Element). folded_row b.items (map (λ e. e.1) (within_range from to es))) (sym (entries_in stack.shape slot h.columns x.pages.page (places_of slot x.space) l all.0 all.1))

    line_made : (line : List ℕ × Row) → IsLineOf b from to x.definitions read stack line → folded_at b from to l container slot ≡ line ∷ []
    line_made line said =
        ap (λ (d : Definitions). folded_if b from to l container slot (at_slot slot d.series)) (sym shows.kept.definitions)
        ∙ inside_one b from to l container slot (at_slot slot x.definitions.series) line.0 line.1 stands
        (sym (ap (λ (n : ℕ). option_map (λ (s : SeriesDef). s.key) (at_slot n x.definitions.series)) is.series) ∙ said.key) (row_made line.1 said.row)

  abbrev f : ℕ → List (List ℕ × Row)
  f = folded_at b from to l container

  abbrev Are : List ℕ → List Stack → List (List ℕ × Row) → Type 0
  Are slots stacks lines = AllZip (IsStackOf tells x from to read) slots stacks × AllZip (IsLineOf b from to x.definitions read) stacks lines

  next_made : (slot : ℕ) → slot < 4096 → (rest : List ℕ) (more : List (List ℕ × Row)) (t : Bool) → stands_in container (at_slot slot x.definitions.series) ≡ t → ((stacks : List Stack) (lines : List (List ℕ × Row)) → Are rest stacks lines → more ≡ lines)
      → (stacks : List Stack) (lines : List (List ℕ × Row)) → Are (cond t (slot ∷ rest) rest) stacks lines → f slot ++ more ≡ lines
  next_made slot within rest more false other behind stacks lines are =
      let none : f slot ≡ [] =
      ap (λ (d : Definitions). folded_if b from to l container slot (at_slot slot d.series)) (sym shows.kept.definitions) ∙ outside_none b from to l container slot (at_slot slot x.definitions.series) other in
      ap (λ (first : List (List ℕ × Row)). first ++ more) none ∙ behind stacks lines are
  next_made slot within rest more true stands behind [] lines are = absurd are.0
  next_made slot within rest more true stands behind (stack ∷ stacks) [] are = absurd are.1
  next_made slot within rest more true stands behind (stack ∷ stacks) (line ∷ lines) are =
      let first = line_made slot within stands stack are.0.0 line are.1.0 in
      let others = behind stacks lines (are.0.1, are.1.1) in
      (λ i. first i ++ others i)

  pub lines_made : (slots : List ℕ) (stacks : List Stack) (lines : List (List ℕ × Row)) → All (λ slot. slot < 4096) slots → AllZip (IsStackOf tells x from to read) (inside x.definitions container slots) stacks → AllZip (IsLineOf b from to x.definitions read) stacks lines
      → flat_map f slots ≡ lines
  lines_made [] [] [] within are said = refl
  lines_made [] [] (line ∷ lines) within are said = absurd said
  lines_made [] (stack ∷ stacks) lines within are said = absurd are
  lines_made (slot ∷ slots) stacks lines within are said =
      let Below : ℕ → Type 0 = λ slot. slot < 4096 in
      next_made slot (All-head Below slot slots within) (inside x.definitions container slots) (flat_map f slots) (stands_in container (at_slot slot x.definitions.series)) refl
      (λ stacks lines both. lines_made slots stacks lines (All-tail Below slot slots within) both.0 both.1) stacks lines (are, said)

-- no more slots have stacks than there are
few_pass : (test : ℕ → Bool) (items : List ℕ) → length (filter test items) ≤ length items
few_pass test [] = omega arith
few_pass test (item ∷ items) =
    let rest = few_pass test items in
    elim (test item) as (λ (t : Bool). length (cond t (item ∷ filter test items) (filter test items)) ≤ length (item ∷ items)) [ true ↦ omega arith | false ↦ omega arith ]

pub few_lines : (tells : Bool) (x : View) (from to : ℤ) (read : List Page) (b : Binding) (container : ℕ) (passed : List ℕ) (stacks : List Stack) (lines : List (List ℕ × Row)) → AllZip (IsStackOf tells x from to read) (inside x.definitions container passed) stacks
    → AllZip (IsLineOf b from to x.definitions read) stacks lines → length lines ≤ length passed
few_lines tells x from to read b container passed stacks lines are said =
    let first = AllZip-long (IsStackOf tells x from to read) (inside x.definitions container passed) stacks are in
    let second = AllZip-long (IsLineOf b from to x.definitions read) stacks lines said in
    let few = few_pass (λ slot. stands_in container (at_slot slot x.definitions.series)) passed in
    omega (arith, first, second, few)

-- some stacks are said, each with its row
abbrev pub AreStacksSaid : Binding → Definitions → List Stack → List Row → List ℕ → List ℕ → ℕ → Type 0
AreStacksSaid b d stacks rows out said count = (lines : List (List ℕ × Row)) × AreLinesOf d stacks rows lines × AreSaid b lines out said count

-- one stack more
pub stack_said : (b : Binding) (d : Definitions) (stacks : List Stack) (rows : List Row) (i : ℕ) (stack : Stack) (row : Row) (key scales out middle said : List ℕ) → i < length stacks → i < length rows → stack ≡ get_or stacks i stack → row ≡ get_or rows i row
    → option_map (λ (s : SeriesDef). s.key) (at_slot stack.shelf.series d.series) ≡ Some key → scales ≡ scales_of b → said ≡ middle ++ series_folded_line scales (key, row)
    → AreStacksSaid b d (take i stacks) (take i rows) out middle i → AreStacksSaid b d (take (i + 1) stacks) (take (i + 1) rows) out said (i + 1)
stack_said b d stacks rows i stack row key scales out middle said below within here there named are line so_far =
    let Is : Stack → List ℕ × Row → Type 0 = IsKeyed d in
    let its_row : List ℕ × Row → Row = λ line. line.1 in
    let last : take (i + 1) stacks ≡ take i stacks ++ stack ∷ [] = take_more stacks i stack below ∙ ap (λ (s : Stack). take i stacks ++ s ∷ []) (sym here) in
    let last_row : take (i + 1) rows ≡ take i rows ++ row ∷ [] = take_more rows i row within ∙ ap (λ (r : Row). take i rows ++ r ∷ []) (sym there) in
    let next : AreSaid b ((key, row) ∷ []) middle said 1 = record {
      lines = line ∙ (λ i. middle ++ series_folded_line (are i) (key, row)) ∙ (λ i. middle ++ sym (append-nil (series_folded_line (scales_of b) (key, row))) i);
      number = refl;
    } in (
      so_far.0 ++ (key, row) ∷ [],
      record {
        keyed = subst (λ (ss : List Stack). AllZip Is ss (so_far.0 ++ (key, row) ∷ [])) (sym last) (all_zipped_more Is (take i stacks) so_far.0 stack (key, row) so_far.1.keyed named);
        folded = map_push its_row so_far.0 (key, row) ∙ ap (λ (rs : List Row). rs ++ row ∷ []) so_far.1.folded ∙ sym last_row;
      },
      said_behind b so_far.0 ((key, row) ∷ []) out middle said i 1 so_far.2 next,
    )

-- the definition of the series in a slot, and its key
some_value : {A : Type 0} (o : Option A) → IsSome o → (a : A) × (o ≡ Some a)
some_value None is = absurd (cc)
some_value (Some a) is = (a, refl)

pub series_there : (d : Definitions) (slot : ℕ) → IsSome (at_slot slot d.series) → (s : SeriesDef) × (at_slot slot (slots kinds.Series d) ≡ Some (of_series s))
series_there d slot some =
    let there = some_value (at_slot slot d.series) some in
    (there.0, at_slot-map of_series slot d.series ∙ ap (option_map of_series) there.1)

pub key_there : (d : Definitions) (slot : ℕ) (key : List ℕ) (container : ℕ) (regular : Option (ℕ × ℤ)) → at_slot slot (slots kinds.Series d) ≡ Some (defs.Series key container regular) → option_map (λ (s : SeriesDef). s.key) (at_slot slot d.series) ≡ Some key
key_there d slot key container regular is =
    let there = own of_series slot d.series (defs.Series key container regular) is in
    let def = there.2 in
    let same : there.0.key ≡ key = cc in
    ap (option_map (λ (s : SeriesDef). s.key)) there.1 ∙ ap Some same
