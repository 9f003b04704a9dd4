-- What is said of the windows of a set, and when there are too many rows.
use Rattle.std.proofs.Common.{◌≡◌, ℕ, ℤ, ◌+◌, ◌*◌, ◌^◌, ◌<◌, ◌≤◌, Bool, true, false, cond, Some, Ok, Err, List, [], ◌∷◌, ◌++◌, map, filter, length, length-append, suc, EachIndex, slice_index, take, get_or, refl, ap, sym, ◌∙◌, arith}
use Rattle.std.proofs.lemmas.Bool.{lt-ltb, le-ltb}
use Rattle.std.specs.List.{flat_map}
use Rattle.std.specs.FinMap.{entries, len-entries}
use Rattle.ts_base.specs.declared.refusal.Refusal.{Refusal}
use Rattle.ts_base.specs.declared.refusal.Refusal.TheVariants.{TooLarge}
use Rattle.ts_base.specs.declared.fault.Trouble.{Trouble}
use Rattle.ts_base.specs.declared.fault.Trouble.TheVariants.{Refused, Memory}
use Rattle.ts_command.specs.declared.command.Command.TheVariants.{RollingClip}
use Rattle.ts_row.specs.declared.kind.Column.{Column}
use Rattle.ts_row.specs.Row.{Element, seen}
use Rattle.ts_sheets.specs.Stamped.{within_range}
use Rattle.ts_entry.specs.Entry.{filled}
use Rattle.ts_base.specs.Answer.{most_rows, within_rows}
use Rattle.ts_offset.specs.Grid.{GridPlan}
use Rattle.ts_model.specs.Catalogue.{Series, Catalogue, columns_of}
use Rattle.ts_layout.specs.Meaning.{Layout, elements_at}
use Rattle.ts_layout.proofs.CallerLemmas.{len_counted}
use Rattle.ts_rolling.specs.Sets.{control_of, window_elements}
use Rattle.ts_answer.specs.Answer.{Tried, Answered, ◌>>=◌, outcome, carried_out}
use Rattle.ts_answer.specs.Elements.{a_control, control_grid, roll_clip}
use Rattle.ts_answer.specs.Reply.{element_line, elements_text, entry_line, count_line}
use Rattle.ts_answer.specs.Tried.{IsRefusedAs}
use Rattle.ts_answer.specs.View.{View, IsViewOf, KeepsRules}
use Rattle.ts_answer.proofs.CallerLemmas.{on_ok, on_err}
use Rattle.ts_shelf.proofs.MemoryLemmas.{few_elements}
use Rattle.ts_rolling_sets.specs.InMemory.{gridded}
use Rattle.ts_rolling_sets.specs.Windows.{seen_at, seen_in, IsWindowSlot}
use Rattle.ts_rolling_sets.proofs.ClipLemmas.{long_part}
use Rattle.ts_rolling_sets.proofs.ControlLemmas.{first_two, controlled}

-- the line of an element is that of its entry
line_same : (columns : List Column) (e : Element) → entry_line columns (filled e) ≡ element_line columns e
unfolding entry_line element_line
line_same columns e = refl

lines_same : (columns : List Column) (es : List Element) → flat_map (entry_line columns) (map filled es) ≡ flat_map (element_line columns) es
lines_same columns [] = refl
lines_same columns (e ∷ es) = λ i. line_same columns e i ++ lines_same columns es i

-- Lines of elements behind nothing, and their number: what is said once the lines are no longer borrowed.
pub elements_said : {Name : Type 0} (columns : List Column) (es : List Element) (empty begun ended given after : List ℕ) (count : ℕ) (name first last : Name) → empty ≡ [] → begun ≡ empty → first ≡ name
    → (last ≡ first) × (ended ≡ begun ++ flat_map (entry_line columns) (map filled es)) → count ≡ length es → after ≡ given ++ count_line count → (name ≡ last → given ≡ ended) → after ≡ elements_text columns es
unfolding elements_text
elements_said columns es empty begun ended given after count name first last none begins same took number counted back =
    let lines : given ≡ flat_map (element_line columns) es =
    back (sym (took.0 ∙ same)) ∙ took.1 ∙ ap (λ (b : List ℕ). b ++ flat_map (entry_line columns) (map filled es)) (begins ∙ none) ∙ lines_same columns es in
    counted ∙ (λ i. lines i ++ count_line (number i))

-- rows within a reply, and too many
pub rows_within : (es : List Element) (count : ℕ) → count ≡ length es → count ≤ 1_000_000 → within_rows es ≡ Ok es
rows_within es count number few =
    ap (λ (b : Bool). let r : Tried (List Element) = cond b (Err (TooLarge (length es))) (Ok es) in r) (le-ltb most_rows (length es) (omega (arith, number, few)))

pub rows_beyond : (es : List Element) (rows : ℕ) → 1_000_000 < length es → rows ≡ length es → within_rows es ≡ Err (TooLarge rows)
rows_beyond es rows many number =
    ap (λ (b : Bool). let r : Tried (List Element) = cond b (Err (TooLarge (length es))) (Ok es) in r) (lt-ltb most_rows (length es) many)
    ∙ ap (λ (n : ℕ). let r : Tried (List Element) = Err (TooLarge n) in r) (sym number)

-- the elements of a window can be counted
filtered : {A : Type 0} (p : A → Bool) (xs : List A) → length (filter p xs) ≤ length xs
filtered p [] = omega arith
filtered {A} p (x ∷ xs) = by (p x) (filtered p xs)
  where
    by : (b : Bool) → length (filter p xs) ≤ length xs → length (cond b (x ∷ filter p xs) (filter p xs)) ≤ length (x ∷ xs)
    by true rest = omega (arith, rest)
    by false rest = omega (arith, rest)

pub few_seen : (x : View) (kept : KeepsRules x) (l : Layout) (held : IsViewOf x l) (from to : ℤ) (slot : ℕ) → slot < 4096 → length (seen_at l from to slot) < 2 ^ 32
few_seen x kept l held from to slot within =
    let es = entries (elements_at slot l.element_pages) in
    let all = sym (len-entries (elements_at slot l.element_pages)) ∙ len_counted l x.space slot held.rules held.filled held.places within in
    let few = few_elements x kept slot within in
    let unhidden : length (seen es) ≤ length es = filtered _ es in
    let ranged : length (within_range from to (seen es)) ≤ length (seen es) = filtered _ (seen es) in
    omega (arith, all, few, unhidden, ranged)

-- so can those of all windows
each_few : (l : Layout) (from to : ℤ) (slots : List ℕ) → ((k : ℕ) → k < length slots → length (seen_at l from to (get_or slots k 0)) < 2 ^ 32) → length (seen_in l from to slots) ≤ length slots * 2 ^ 32
each_few l from to [] few = omega arith
each_few l from to (s ∷ slots) few =
    let own = few 0 (omega arith) in
    let rest = each_few l from to slots (λ k within. few (suc k) (omega (arith, within))) in
    let both = length-append (seen_at l from to s) (seen_in l from to slots) in
    omega (arith, own, rest, both)

pub few_so_far : (x : View) (kept : KeepsRules x) (l : Layout) (held : IsViewOf x l) (from to : ℤ) (slots : List ℕ) (i : ℕ) → EachIndex slots (λ k. IsWindowSlot x.definitions (slice_index slots k)) → length slots ≤ 4096 → i < length slots
    → length (seen_in l from to (take i slots)) + length (seen_at l from to (get_or slots i 0)) < 2 ^ 64
few_so_far x kept l held from to slots i windows few within =
    let part = long_part l from to slots i within in
    let all = each_few l from to slots (λ k below. few_seen x kept l held from to (get_or slots k 0) (windows k below).named.within) in
    omega (arith, part, all, few)

-- a reading of a set without a grid
pub clip_ungridded : (set : List ℕ) (from to : ℤ) (cat : Catalogue) (trouble : Trouble) → IsRefusedAs trouble (gridded set cat) → IsRefusedAs trouble (outcome (Ok (RollingClip set from to)) cat)
unfolding outcome carried_out roll_clip
clip_ungridded set from to cat (Refused refusal) is = first_two (a_control set cat) (λ control. control_grid control.1 cat) _ refusal is
clip_ungridded set from to cat (Memory error) is = tt

-- and of one with a grid
module _ (set : List ℕ) (from to : ℤ) (cat : Catalogue) (n : ℕ) (s : Series) (g : GridPlan) (is : control_of set cat ≡ Some (n, s)) (grid : control_grid s cat ≡ Ok g) where
  clip_goes : outcome (Ok (RollingClip set from to)) cat ≡ (within_rows (within_range from to (window_elements set s.container cat)) >>= λ rows. let a : Answered = (elements_text (columns_of cat s) rows, cat) in Ok a)
  unfolding outcome carried_out roll_clip
  clip_goes = on_ok (a_control set cat) (n, s) _ (controlled set cat n s is) ∙ on_ok (control_grid s cat) g _ grid

  module _ (es : List Element) (same : within_range from to (window_elements set s.container cat) ≡ es) where
    pub clip_refused : (refusal : Refusal) → within_rows es ≡ Err refusal → outcome (Ok (RollingClip set from to)) cat ≡ Err refusal
    clip_refused refusal why = clip_goes ∙ on_err (within_rows (within_range from to (window_elements set s.container cat))) refusal _ (ap (λ (rows : List Element). within_rows rows) same ∙ why)

    pub clip_said : (columns : List Column) (out : List ℕ) → columns_of cat s ≡ columns → within_rows es ≡ Ok es → out ≡ elements_text columns es → outcome (Ok (RollingClip set from to)) cat ≡ Ok (out, cat)
    clip_said columns out own given says =
        clip_goes ∙ on_ok (within_rows (within_range from to (window_elements set s.container cat))) es _ (ap (λ (rows : List Element). within_rows rows) same ∙ given)
        ∙ ap (λ (cs : List Column). let a : Answered = (elements_text cs es, cat) in Ok a) own
        ∙ ap (λ (text : List ℕ). let a : Answered = (text, cat) in Ok a) (sym says)
