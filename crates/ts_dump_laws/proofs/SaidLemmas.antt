-- The texts of a catalogue are read as its statements.
use Rattle.std.proofs.Common.{◌≡◌, ℕ, zero, suc, ◌≤◌, ℤ, Bool, true, false, IsTrue, Option, Some, None, Result, Ok, List, [], ◌∷◌, ◌++◌, length, map, refl, ap, sym, ◌∙◌, subst, arith}
use Rattle.std.specs.Option.{option_map, option_and_then, unwrap_or}
use Rattle.std.specs.List.{flat_map, list_all}
use Rattle.std.specs.declared.cmp.Ordering.{Ordering}
use Rattle.std.specs.Ordering.{int_cmp}
use Rattle.std.specs.Cmp.{IsTotalOrder, int_cmp_total}
use Rattle.std.specs.FinMap.{FinMap, entries, get}
use Rattle.std.specs.Prelude.{nat_le, codes}
use Rattle.std.proofs.lemmas.Bool.{and_parts}
use Rattle.std.proofs.lemmas.Bool.Decides.{nat_tests}
use Rattle.std.proofs.lemmas.List.{append_assoc, map-append}
use Rattle.ts_row.specs.declared.kind.Column.{Column}
use Rattle.ts_row.specs.Row.{Heading, is_kind, is_row_type, keep_rules, Row}
use Rattle.ts_calendar.specs.declared.text.CalendarText.{CalendarText}
use Rattle.ts_calendar.specs.Calendars.{CalendarPlan}
use Rattle.ts_offset.specs.declared.shape.Shape.{Shape}
use Rattle.ts_offset.specs.declared.shape.Shape.TheVariants as shapes
use Rattle.ts_offset.proofs.StartLemmas.{on-line}
use Rattle.ts_base.specs.Name.{is_name, is_key}
use Rattle.ts_base.specs.Moment.{IsStamp}
use Rattle.ts_command.specs.declared.command.Command.{Command}
use Rattle.ts_command.specs.declared.command.Command.TheVariants as commands
use Rattle.ts_command.specs.Routines.{routine_of}
use Rattle.ts_command.specs.Grammar.{command_of, a_command, a_call, a_routine, opening, arguments}
use Rattle.ts_text.specs.Phrase.{the_end}
use Rattle.ts_tokens.specs.Tokens.{front}
use Rattle.ts_model.specs.Catalogue.{name_cmp, Container, SeriesKind, Irregular, Regular, Series, Catalogue, calendar_of, shape_of, columns_of}
use Rattle.ts_model.proofs.OrderLemmas.{total}
use Rattle.ts_catalogue_laws.specs.Catalogue.{IsCatalogue}
use Rattle.ts_dump_laws.specs.Rules.{HasOrigin}
use Rattle.ts_dump_texts.specs.Texts.{row_type_text, pattern_text, calendar_text, container_text, literals_read}
use Rattle.ts_dump_texts.specs.Laws.{TextsAreReadAgain, LiteralsGiveRows, TextsAreLines}
use Rattle.ts_dump_texts.specs.Script.{script_of, IsLine, AreLines, ScriptsAskForLines}
use Rattle.ts_dump_laws.specs.Statements.{row_type_statement, pattern_statement, calendar_statement, container_statement, made_as, series_statement, hiding, element_statements, elements_of_series, definitions_of, elements_of, statements_of, in_groups, in_transactions}
use Rattle.ts_dump_laws.specs.Said.{text_made_as, texts_of_definitions, texts_of_hiding, texts_of_element, texts_of_series, texts_of, texts_in_groups, texts_in_transactions, AsksFor, ScriptsMakeCatalogues, ScriptsMakeSeries, ScriptsMakeVolumes}
use Rattle.ts_dump_laws.specs.Alone.{alone, SeriesStandAlone}
use Rattle.ts_dump_laws.specs.Laws.{GivesRows, StatementsMakeCatalogues, TransactionsMakeCatalogues}
use Rattle.ts_catalogue_laws.specs.Laws.{VolumesMeanCatalogues}
use Rattle.ts_dump_laws.proofs.MapLemmas.{replaced}
use Rattle.ts_dump_laws.proofs.RuleLemmas.{something, keeps_rules}

-- what a text is read as
abbrev Asked : Type 0
Asked = Result Command ℕ

abbrev asked : Command → Asked
asked command = Ok command

lines_join : (xs ys : List (List ℕ)) → AreLines xs → AreLines ys → AreLines (xs ++ ys)
lines_join [] ys first rest = rest
lines_join (x ∷ xs) ys first rest = (first.0, lines_join xs ys first.1 rest)

-- each entry of a map, by one text
module _ {K X : Type 0} (R : K → K → Ordering) (o : IsTotalOrder R) (m : FinMap R X) where
  one_each : (text : K × X → List ℕ) (statement : K × X → Command) → ((k : K) (x : X) → get m k ≡ Some x → command_of (text (k, x)) ≡ Ok (statement (k, x)))
      → (pre es : List (K × X)) → entries m ≡ pre ++ es → map command_of (map text es) ≡ map asked (map statement es)
  one_each text statement reads pre [] all = refl
  one_each text statement reads pre (e ∷ es) all =
      let there = (replaced R o m pre e.0 e.1 e.1 es all).0 in
      let first = reads e.0 e.1 there in
      let rest = one_each text statement reads (pre ++ e ∷ []) es (all ∙ sym (append_assoc pre (e ∷ []) es)) in
      (λ i. first i ∷ rest i)

  -- by some texts
  some_each : (texts : K × X → List (List ℕ)) (statements : K × X → List Command) → ((k : K) (x : X) → get m k ≡ Some x → map command_of (texts (k, x)) ≡ map asked (statements (k, x)))
      → (pre es : List (K × X)) → entries m ≡ pre ++ es → map command_of (flat_map texts es) ≡ map asked (flat_map statements es)
  some_each texts statements reads pre [] all = refl
  some_each texts statements reads pre (e ∷ es) all =
      let there = (replaced R o m pre e.0 e.1 e.1 es all).0 in
      let first = reads e.0 e.1 there in
      let rest = some_each texts statements reads (pre ++ e ∷ []) es (all ∙ sym (append_assoc pre (e ∷ []) es)) in
      map-append command_of (texts e) (flat_map texts es)
      ∙ (λ i. first i ++ rest i)
      ∙ sym (map-append asked (statements e) (flat_map statements es))

-- each is a line
module _ {K X : Type 0} (R : K → K → Ordering) (o : IsTotalOrder R) (m : FinMap R X) where
  each_line : (text : K × X → List ℕ) → ((k : K) (x : X) → get m k ≡ Some x → IsLine (text (k, x))) → (pre es : List (K × X)) → entries m ≡ pre ++ es → AreLines (map text es)
  each_line text line pre [] all = tt
  each_line text line pre (e ∷ es) all =
      (line e.0 e.1 (replaced R o m pre e.0 e.1 e.1 es all).0, each_line text line (pre ++ e ∷ []) es (all ∙ sym (append_assoc pre (e ∷ []) es)))

  some_lines : (texts : K × X → List (List ℕ)) → ((k : K) (x : X) → get m k ≡ Some x → AreLines (texts (k, x))) → (pre es : List (K × X)) → entries m ≡ pre ++ es → AreLines (flat_map texts es)
  some_lines texts lines pre [] all = tt
  some_lines texts lines pre (e ∷ es) all =
      lines_join (texts e) (flat_map texts es) (lines e.0 e.1 (replaced R o m pre e.0 e.1 e.1 es all).0) (some_lines texts lines (pre ++ e ∷ []) es (all ∙ sym (append_assoc pre (e ∷ []) es)))

joined_read : (xs ys : List (List ℕ)) (cs ds : List Command) → map command_of xs ≡ map asked cs → map command_of ys ≡ map asked ds → map command_of (xs ++ ys) ≡ map asked (cs ++ ds)
joined_read xs ys cs ds first rest = map-append command_of xs ys ∙ (λ i. first i ++ rest i) ∙ sym (map-append asked cs ds)

row_type_kinds : (stamp : List ℕ) (columns : List Column) → is_row_type stamp columns ≡ true → list_all (λ (c : Column). is_kind c.kind) columns ≡ true
row_type_kinds stamp columns good =
    let kept = (and_parts (nat_le 1 (length columns)) (keep_rules stamp columns) good).1 in
    grind (arith, nat_tests)

row_type_few : (stamp : List ℕ) (columns : List Column) → is_row_type stamp columns ≡ true → length columns ≤ 32
row_type_few stamp columns good = let kept = (and_parts (nat_le 1 (length columns)) (keep_rules stamp columns) good).1 in grind (arith, nat_tests)

row_type_some : (stamp : List ℕ) (columns : List Column) → is_row_type stamp columns ≡ true → 1 ≤ length columns
row_type_some stamp columns good = let some = (and_parts (nat_le 1 (length columns)) (keep_rules stamp columns) good).0 in grind (arith, nat_tests)

module _ (reads : TextsAreReadAgain) (lines : TextsAreLines) (cat : Catalogue) (is : IsCatalogue cat) where
  row_types_read : map command_of (map (λ (e : List ℕ × Heading). row_type_text e.0 e.1) (entries cat.row_types)) ≡ map asked (map row_type_statement (entries cat.row_types))
  row_types_read = one_each name_cmp total cat.row_types (λ e. row_type_text e.0 e.1) row_type_statement
      (λ name h there. let its = is.row_types name h there in reads.row_type name h its.word its.stamp_word its.column_words its.rules) [] (entries cat.row_types) refl

  patterns_read : map command_of (map (λ e. pattern_text e.0 e.1) (entries cat.patterns)) ≡ map asked (map pattern_statement (entries cat.patterns))
  patterns_read = one_each name_cmp total cat.patterns (λ e. pattern_text e.0 e.1) pattern_statement
      (λ name p there. let its = is.patterns name p there in reads.pattern name p its.word its.runs) [] (entries cat.patterns) refl

  calendars_read : map command_of (map (λ (e : List ℕ × CalendarText). calendar_text e.0 e.1) (entries cat.calendars)) ≡ map asked (map calendar_statement (entries cat.calendars))
  calendars_read = one_each name_cmp total cat.calendars (λ e. calendar_text e.0 e.1) calendar_statement
      (λ name text there. reads.calendar name text (is.calendars name text there).word ((keeps_rules cat is).calendars name text there).sound) [] (entries cat.calendars) refl

  containers_read : map command_of (map (λ (e : List ℕ × Container). container_text e.0 e.1.row_type e.1.quota) (entries cat.containers)) ≡ map asked (map container_statement (entries cat.containers))
  containers_read = one_each name_cmp total cat.containers (λ e. container_text e.0 e.1.row_type e.1.quota) container_statement
      (λ name c there.
      let its = is.containers name c there in
      let h = something (get cat.row_types c.row_type) its.row_type_there in
      reads.container name c.row_type c.quota its.word (is.row_types c.row_type h.0 h.1).word its.some its.most)
      [] (entries cat.containers) refl

  -- the calendar and the origin of a regular series
  regular_parts : (calendar : List ℕ) (start : ℤ) (shape : Shape) → shape_of cat (Regular calendar start) ≡ Some shape → HasOrigin shape → IsTrue (is_name calendar) × IsStamp start
  regular_parts calendar start shape lies origin = by (get cat.calendars calendar) refl lies
    where
      with_origin : (plan : CalendarPlan) → HasOrigin (shapes.Regular (record { calendar = plan; origin = start })) → IsStamp start
      with_origin plan own = (on-line plan own.1.interval start own.0 own.1.start).1

      of_plan : (o : Option CalendarPlan) → option_map (λ (plan : CalendarPlan). shapes.Regular (record { calendar = plan; origin = start })) o ≡ Some shape → IsStamp start
      of_plan None absent = absurd (let never : ⊥ = cc in never)
      of_plan (Some plan) found = let same : shapes.Regular (record { calendar = plan; origin = start }) ≡ shape = cc in with_origin plan (subst HasOrigin (sym same) origin)

      by : (o : Option CalendarText) → get cat.calendars calendar ≡ o
          → option_map (λ (plan : CalendarPlan). shapes.Regular (record { calendar = plan; origin = start })) (option_and_then (calendar_of cat) o) ≡ Some shape
          → IsTrue (is_name calendar) × IsStamp start
      by None there absent = absurd (let never : ⊥ = cc in never)
      by (Some text) there found = ((is.calendars calendar text there).word, of_plan (calendar_of cat text) found)

  -- a series
  named : (key container : List ℕ) (kind : SeriesKind) (shape : Shape) → IsTrue (is_key key) → IsTrue (is_name container) → shape_of cat kind ≡ Some shape → HasOrigin shape
      → command_of (text_made_as kind key container) ≡ Ok (made_as kind key container)
  named key container Irregular shape keyed word lies origin = reads.irregular key container keyed word
  named key container (Regular calendar start) shape keyed word lies origin =
      let parts = regular_parts calendar start shape lies origin in
      reads.regular key calendar start container keyed parts.0 parts.1 word

  columns_hold : (key : List ℕ) (s : Series) → get cat.series key ≡ Some s → (1 ≤ length (columns_of cat s)) × (length (columns_of cat s) ≤ 32) × IsTrue (list_all (λ (c : Column). is_kind c.kind) (columns_of cat s))
  columns_hold key s there =
      let its = is.series key s there in
      let c = something (get cat.containers s.container) its.container_there in
      let h = something (get cat.row_types c.0.row_type) (is.containers s.container c.0 c.1).row_type_there in
      let same : columns_of cat s ≡ h.0.columns =
      ap (λ (o : Option Container). unwrap_or (option_map (λ (x : Heading). x.columns) (option_and_then (λ (k : Container). get cat.row_types k.row_type) o)) []) c.1
      ∙ ap (λ (o : Option Heading). unwrap_or (option_map (λ (x : Heading). x.columns) o) []) h.1 in
      let good = (is.row_types c.0.row_type h.0 h.1).rules in (
        subst (λ (cs : List Column). 1 ≤ length cs) (sym same) (row_type_some h.0.stamp h.0.columns good),
        subst (λ (cs : List Column). length cs ≤ 32) (sym same) (row_type_few h.0.stamp h.0.columns good),
        subst (λ (cs : List Column). IsTrue (list_all (λ (x : Column). is_kind x.kind) cs)) (sym same) (row_type_kinds h.0.stamp h.0.columns good),
      )

  elements_read : (key : List ℕ) (s : Series) → get cat.series key ≡ Some s → map command_of (texts_of_series cat (key, s)) ≡ map asked (elements_of_series literals_read cat (key, s))
  elements_read key s there =
      let its = is.series key s there in
      let columns = columns_hold key s there in
      some_each int_cmp int_cmp_total s.elements (texts_of_element key (columns_of cat s)) (element_statements literals_read key (columns_of cat s))
      (λ stamp row has.
      let first = reads.element key stamp (columns_of cat s) row its.text (its.stamps stamp row has) columns.0 columns.2 (its.rows stamp row has) in
      let rest = hiding_read key stamp row its.text (its.stamps stamp row has) row.hidden in
      (λ i. first i ∷ rest i))
      [] (entries s.elements) refl
    where
      hiding_read : (key : List ℕ) (stamp : ℤ) (row : Row) → IsTrue (is_key key) → IsStamp stamp → (hidden : Bool) → map command_of (texts_of_hiding hidden key (stamp, row)) ≡ map asked (hiding hidden key (stamp, row))
      hiding_read key stamp row keyed at true = ap (λ (x : Asked). x ∷ []) (reads.hiding key stamp keyed at)
      hiding_read key stamp row keyed at false = refl

  series_read : map command_of (map (λ (e : List ℕ × Series). text_made_as e.1.kind e.0 e.1.container) (entries cat.series)) ≡ map asked (map series_statement (entries cat.series))
  series_read = one_each name_cmp total cat.series (λ e. text_made_as e.1.kind e.0 e.1.container) series_statement
      (λ key s there.
      let has = (keeps_rules cat is).series key s there in
      named key s.container s.kind has.shape (is.series key s there).text (is.containers s.container has.container has.listed).word has.lies has.origin)
      [] (entries cat.series) refl

  pub definitions_read : map command_of (texts_of_definitions cat) ≡ map asked (definitions_of cat)
  definitions_read =
      joined_read (map (λ (e : List ℕ × Heading). row_type_text e.0 e.1) (entries cat.row_types)) _ (map row_type_statement (entries cat.row_types)) _ row_types_read
      (joined_read (map (λ e. pattern_text e.0 e.1) (entries cat.patterns)) _ (map pattern_statement (entries cat.patterns)) _ patterns_read
      (joined_read (map (λ (e : List ℕ × CalendarText). calendar_text e.0 e.1) (entries cat.calendars)) _ (map calendar_statement (entries cat.calendars)) _ calendars_read
      (joined_read (map (λ (e : List ℕ × Container). container_text e.0 e.1.row_type e.1.quota) (entries cat.containers)) _ (map container_statement (entries cat.containers)) _ containers_read series_read)))

  pub all_read : map command_of (texts_of cat) ≡ map asked (statements_of literals_read cat)
  all_read = joined_read (texts_of_definitions cat) (flat_map (texts_of_series cat) (entries cat.series)) (definitions_of cat) (elements_of literals_read cat) definitions_read
      (some_each name_cmp total cat.series (texts_of_series cat) (elements_of_series literals_read cat) elements_read [] (entries cat.series) refl)

  -- each text is a line
  series_line : (key container : List ℕ) (kind : SeriesKind) (shape : Shape) → IsTrue (is_key key) → IsTrue (is_name container) → shape_of cat kind ≡ Some shape → HasOrigin shape
      → IsLine (text_made_as kind key container)
  series_line key container Irregular shape keyed word lies origin = lines.irregular key container keyed word
  series_line key container (Regular calendar start) shape keyed word lies origin = lines.regular key calendar start container keyed (regular_parts calendar start shape lies origin).0 word

  pub definition_lines : AreLines (texts_of_definitions cat)
  definition_lines =
      lines_join (map (λ (e : List ℕ × Heading). row_type_text e.0 e.1) (entries cat.row_types)) _
      (each_line name_cmp total cat.row_types (λ e. row_type_text e.0 e.1) (λ name h there. let its = is.row_types name h there in lines.row_type name h its.word its.stamp_word its.column_words its.rules) [] (entries cat.row_types) refl)
      (lines_join (map (λ e. pattern_text e.0 e.1) (entries cat.patterns)) _
      (each_line name_cmp total cat.patterns (λ e. pattern_text e.0 e.1) (λ name p there. let its = is.patterns name p there in lines.pattern name p its.word its.runs) [] (entries cat.patterns) refl)
      (lines_join (map (λ (e : List ℕ × CalendarText). calendar_text e.0 e.1) (entries cat.calendars)) _
      (each_line name_cmp total cat.calendars (λ e. calendar_text e.0 e.1) (λ name text there. lines.calendar name text (is.calendars name text there).word ((keeps_rules cat is).calendars name text there).sound) [] (entries cat.calendars) refl)
      (lines_join (map (λ (e : List ℕ × Container). container_text e.0 e.1.row_type e.1.quota) (entries cat.containers)) _
      (each_line name_cmp total cat.containers (λ e. container_text e.0 e.1.row_type e.1.quota) (λ name c there.
      let its = is.containers name c there in
      let h = something (get cat.row_types c.row_type) its.row_type_there in
      lines.container name c.row_type c.quota its.word (is.row_types c.row_type h.0 h.1).word its.most) [] (entries cat.containers) refl)
      (each_line name_cmp total cat.series (λ e. text_made_as e.1.kind e.0 e.1.container) (λ key s there.
      let has = (keeps_rules cat is).series key s there in
      series_line key s.container s.kind has.shape (is.series key s there).text (is.containers s.container has.container has.listed).word has.lies has.origin) [] (entries cat.series) refl))))

  hiding_lines : (key : List ℕ) (stamp : ℤ) (row : Row) → IsTrue (is_key key) → (hidden : Bool) → AreLines (texts_of_hiding hidden key (stamp, row))
  hiding_lines key stamp row keyed true = (lines.hiding key stamp keyed, tt)
  hiding_lines key stamp row keyed false = tt

  element_lines : (key : List ℕ) (s : Series) → get cat.series key ≡ Some s → AreLines (texts_of_series cat (key, s))
  element_lines key s there =
      let its = is.series key s there in
      let columns = columns_hold key s there in
      some_lines int_cmp int_cmp_total s.elements (texts_of_element key (columns_of cat s))
      (λ stamp row has. (lines.element key stamp (columns_of cat s) row its.text columns.1 columns.2 (its.rows stamp row has), hiding_lines key stamp row its.text row.hidden))
      [] (entries s.elements) refl

  pub all_lines : AreLines (texts_of cat)
  all_lines = lines_join (texts_of_definitions cat) (flat_map (texts_of_series cat) (entries cat.series)) definition_lines
      (some_lines name_cmp total cat.series (texts_of_series cat) element_lines [] (entries cat.series) refl)

-- in transactions
commit_read : command_of (codes "Commit;") ≡ Ok commands.Commit
unfolding a_command a_call a_routine routine_of front opening arguments the_end
commit_read = refl

begin_read : command_of (codes "Begin;") ≡ Ok commands.Begin
unfolding a_command a_call a_routine routine_of front opening arguments the_end
begin_read = refl

commit_line : IsLine (codes "Commit;")
commit_line = record { word = refl; once = refl; short = omega arith }

begin_line : IsLine (codes "Begin;")
begin_line = record { word = refl; once = refl; short = omega arith }

groups_read : (room : ℕ) (texts : List (List ℕ)) (list : List Command) → map command_of texts ≡ map asked list → map command_of (texts_in_groups room texts) ≡ map asked (in_groups room list)
groups_read room [] [] read = ap (λ (x : Asked). x ∷ []) commit_read
groups_read room [] (c ∷ list) read = absurd (let no : ⊥ = cc in no)
groups_read room (text ∷ texts) [] read = absurd (let no : ⊥ = cc in no)
groups_read zero (text ∷ texts) (c ∷ list) read =
    let first : command_of text ≡ Ok c = cc in
    let rest = groups_read 31 texts list (let others : map command_of texts ≡ map asked list = cc in others) in
    (λ i. commit_read i ∷ begin_read i ∷ first i ∷ rest i)
groups_read (suc room) (text ∷ texts) (c ∷ list) read =
    let first : command_of text ≡ Ok c = cc in
    let rest = groups_read room texts list (let others : map command_of texts ≡ map asked list = cc in others) in
    (λ i. first i ∷ rest i)

pub transactions_read : (texts : List (List ℕ)) (list : List Command) → map command_of texts ≡ map asked list → map command_of (texts_in_transactions texts) ≡ map asked (in_transactions list)
transactions_read [] [] read = refl
transactions_read [] (c ∷ list) read = absurd (let no : ⊥ = cc in no)
transactions_read (text ∷ texts) [] read = absurd (let no : ⊥ = cc in no)
transactions_read (text ∷ texts) (c ∷ list) read =
    let first : command_of text ≡ Ok c = cc in
    let rest = groups_read 31 texts list (let others : map command_of texts ≡ map asked list = cc in others) in
    (λ i. begin_read i ∷ first i ∷ rest i)

groups_lines : (room : ℕ) (texts : List (List ℕ)) → AreLines texts → AreLines (texts_in_groups room texts)
groups_lines room [] lines = (commit_line, tt)
groups_lines zero (text ∷ texts) lines = (commit_line, (begin_line, (lines.0, groups_lines 31 texts lines.1)))
groups_lines (suc room) (text ∷ texts) lines = (lines.0, groups_lines room texts lines.1)

pub transactions_lines : (texts : List (List ℕ)) → AreLines texts → AreLines (texts_in_transactions texts)
transactions_lines [] lines = tt
transactions_lines (text ∷ texts) lines = (begin_line, (lines.0, groups_lines 31 texts lines.1))

-- of catalogues
module _ (reads : TextsAreReadAgain) (rows : LiteralsGiveRows) (lines : TextsAreLines) (asks : ScriptsAskForLines) (made : StatementsMakeCatalogues) (grouped : TransactionsMakeCatalogues) where
  gives : GivesRows literals_read
  gives columns row some good fit = rows columns row some good fit

  asks_for : (texts : List (List ℕ)) (list : List Command) → AreLines texts → map command_of texts ≡ map asked list → AsksFor (script_of texts) list
  asks_for texts list each read = let both = asks texts list each read in record { asked = both.0; whole = both.1 }

  pub scripts_make : ScriptsMakeCatalogues
  scripts_make cat is =
      let rules = keeps_rules cat is in
      record {
        all = record {
          commands = statements_of literals_read cat;
          asks = asks_for (texts_of cat) (statements_of literals_read cat) (all_lines reads lines cat is) (all_read reads lines cat is);
          makes = made.all literals_read cat gives rules;
        };
        in_transactions = record {
          commands = in_transactions (statements_of literals_read cat);
          asks = asks_for (texts_in_transactions (texts_of cat)) (in_transactions (statements_of literals_read cat)) (transactions_lines (texts_of cat) (all_lines reads lines cat is))
              (transactions_read (texts_of cat) (statements_of literals_read cat) (all_read reads lines cat is));
          makes = grouped.all literals_read cat gives rules;
        };
        definitions = record {
          commands = definitions_of cat;
          asks = asks_for (texts_of_definitions cat) (definitions_of cat) (definition_lines reads lines cat is) (definitions_read reads lines cat is);
          makes = made.definitions cat rules;
        };
        definitions_in_transactions = record {
          commands = in_transactions (definitions_of cat);
          asks = asks_for (texts_in_transactions (texts_of_definitions cat)) (in_transactions (definitions_of cat)) (transactions_lines (texts_of_definitions cat) (definition_lines reads lines cat is))
              (transactions_read (texts_of_definitions cat) (definitions_of cat) (definitions_read reads lines cat is));
          makes = grouped.definitions cat rules;
        };
      }

-- of volumes
pub scripts_of_volumes : VolumesMeanCatalogues → ScriptsMakeCatalogues → ScriptsMakeVolumes
scripts_of_volumes catalogues make bytes cat means = make cat (catalogues.bytes bytes cat means)

-- of series of volumes
pub scripts_of_series : VolumesMeanCatalogues → ScriptsMakeCatalogues → SeriesStandAlone → ScriptsMakeSeries
scripts_of_series catalogues make stand bytes cat key s means there =
    make (alone key s cat) (stand key s cat (catalogues.bytes bytes cat means) there).is
