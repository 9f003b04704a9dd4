-- What AggregateBy lists: a row for each on interval that holds an element which is seen.
use Rattle.std.specs.Prelude.{AllPairs, Contains, int_lt, nat_lt}
use Rattle.std.proofs.Common.{◌≡◌, ℕ, ◌<◌, Bool, true, not, ◌&&◌, Option, Some, None, Ok, List, [], ◌∷◌, length, map, get_or, refl, sym, ap, subst, ◌∙◌, arith, inl, ℤ, pos, ◌+ℤ◌, ◌-ℤ◌, ◌<ℤ◌, ◌≤ℤ◌}
use Rattle.std.proofs.lemmas.Bool.{lt-ltb}
use Rattle.std.proofs.lemmas.Int.{ints}
use Rattle.std.proofs.lemmas.List.Kept.{AllPairs-filter}
use Rattle.std.proofs.lemmas.Option.{slice_get-get_or}
use Rattle.std.specs.FinMap.{get}
use Rattle.ts_base.specs.Moment.{IsStamp}
use Rattle.ts_row.specs.Row.{Row, visible, Element}
use Rattle.ts_calendar.specs.Calendars.{CalendarPlan, IsLaid, IsBefore, start_at}
use Rattle.ts_offset.specs.Grid.{IsOnStart, on_starts, starts_between, IsHeldFrom, held_start}
use Rattle.ts_offset.proofs.ListedLemmas.{listed-start, start-listed, listed-rise}
use Rattle.ts_offset.proofs.OwnLemmas.{held-from, from-held}
use Rattle.ts_offset.proofs.StartLemmas.{start-one}
use Rattle.ts_base.specs.Answer.{within_rows}
use Rattle.ts_entry.specs.Entry.{Group, is_start, held_from, grouped, by_interval}
use Rattle.ts_expr.specs.declared.item.Item.{Item}
use Rattle.ts_expr.specs.declared.item.BoundItem.{BoundItem}
use Rattle.ts_expr.specs.Aggregates.{read_list, Binding, binding, folded, folded_row}
use Rattle.ts_command.specs.declared.command.Command.TheVariants as commands
use Rattle.ts_model.specs.Catalogue.{Series, Catalogue, columns_of}
use Rattle.ts_answer.specs.Answer.{Answered, outcome, carried_out, wanted, a_calendar, seen_elements, scales_of, folded_range, aggregate_by}
use Rattle.ts_answer.specs.Reply.{folded_text}
use Rattle.ts_answer.proofs.CallerLemmas.{on_ok, wanted-there}
use Rattle.ts_answer_laws.specs.AggregateLaws.{AreSeenAt, AreFolded, IsFromTo, HoldsSeen, IsLastOf, SaysAsRange, HasStamps, ListsIntervals, IntervalsAreListed}
use Rattle.ts_answer_laws.proofs.RowLemmas.{Among, Rise, among_from, among_contains, among_place, place_among, among_filter, among_filtered, among_map, among_mapped, pairs_map, between_true, between_yes}
use Rattle.ts_answer_laws.proofs.ClipLemmas.{few_rows}
use Rattle.ts_answer_laws.proofs.RangeLemmas.{chosen, range_folded, same_folded, range_says}
use Rattle.ts_answer_laws.proofs.CameLemmas.{came, same_answer}

-- the start of the interval that holds a stamp
is_that : (start : ℤ) (o : Option ℤ) → is_start start o ≡ true → o ≡ Some start
is_that start None is = absurd (cc)
is_that start (Some other) is =
    let same = between_true other other start is in
    let one : other ≡ start = omega (arith, ints, same.0, same.1) in
    ap Some one

that_is : (start : ℤ) (o : Option ℤ) → o ≡ Some start → is_start start o ≡ true
that_is start o is = ap (is_start start) is ∙ between_yes start start start (omega (arith, ints)) (omega (arith, ints))

-- some stand there
one_of : (es : List Element) → nat_lt 0 (length es) ≡ true → (e : Element) × Among e es
one_of [] some = absurd (cc)
one_of (e ∷ es) some = (e, inl refl)

some_of : (es : List Element) (e : Element) → Among e es → nat_lt 0 (length es) ≡ true
some_of [] e there = absurd there
some_of (f ∷ es) e there = lt-ltb 0 (length (f ∷ es)) (omega arith)

-- the last stamp of an interval: that before the next one, or the last of all
abbrev last_stamp : Option ℤ → ℤ
last_stamp None = pos 25_340_230_079_999_999
last_stamp (Some next) = next -ℤ pos 1

until_last : (t : ℤ) (o : Option ℤ) → IsStamp t → IsBefore t o → t ≤ℤ last_stamp o
until_last t None stamp before = stamp.1
until_last t (Some next) stamp before = omega (arith, ints, before)

last_until : (t : ℤ) (o : Option ℤ) → t ≤ℤ last_stamp o → IsBefore t o
last_until t None until = tt
last_until t (Some next) until = omega (arith, ints, until)

some_one : (a b : ℤ) (o : Option ℤ) → o ≡ Some a → o ≡ Some b → a ≡ b
some_one a b o first second = let same = sym first ∙ second in cc

module _ (plan : CalendarPlan) (laid : IsLaid plan) where
  all_rise : Rise (on_starts plan)
  all_rise = λ i j d below within.
      let xs = on_starts plan in
      let few : i < length xs = omega (arith, below, within) in
      listed-rise plan i j (get_or xs i d) (get_or xs j d) laid below (slice_get-get_or xs i d few) (slice_get-get_or xs j d within)

  -- the stamps that the interval of an on start holds
  held_range : (start : ℤ) → IsOnStart plan start → (last : ℤ) × IsLastOf plan start last
  held_range start on = (
    last_stamp (start_at plan (on.interval +ℤ pos 1)),
    λ stamp is. (
      (λ held.
          let same = start-one plan held.interval on.interval start laid held.start on.start in
          let from = some_one held.held.from start (start_at plan held.interval) held.held.exists_from held.start in
          let after = held.held.after in
          let before = subst (λ (k : ℤ). IsBefore stamp (start_at plan (k +ℤ pos 1))) same held.held.before in
          (omega (arith, ints, from, after), until_last stamp (start_at plan (on.interval +ℤ pos 1)) is before)),
      (λ inside.
          record {
            interval = on.interval;
            on = on.on;
            start = on.start;
            held = record { from = start; exists_from = on.start; after = inside.0; before = last_until stamp (start_at plan (on.interval +ℤ pos 1)) inside.1 };
          }),
    ),
  )

  module _ (s : Series) (stamps : HasStamps s) (items : List BoundItem) (from to : ℤ) where
    -- the elements that an interval holds
    abbrev members : ℤ → List Element
    members start = held_from plan (seen_elements s.elements) start

    members_seen : (start : ℤ) → AreSeenAt (λ stamp. IsHeldFrom plan stamp start) s (members start)
    members_seen start = chosen (λ stamp. IsHeldFrom plan stamp start) s (λ t. is_start start (held_start plan t))
        (λ stamp row at is. from-held plan stamp start (is_that start (held_start plan stamp) is))
        (λ stamp row at held. that_is start (held_start plan stamp) (held-from plan stamp start laid (stamps stamp row at) held))

    members_folded : (start : ℤ) → AreFolded (λ stamp. IsHeldFrom plan stamp start) items s (folded items (map (λ (e : Element). e.1) (members start)))
    members_folded start = record { elements = members start; are = members_seen start; made = refl }

    -- a start with them, and its row
    abbrev group_at : ℤ → Group
    group_at start = (start, members start)

    abbrev row_of : Group → Element
    row_of g = (g.0, folded_row items (map (λ (e : Element). e.1) g.1))

    abbrev has_some : Group → Bool
    has_some g = nat_lt 0 (length g.1)

    abbrev all_rows : List Element
    all_rows = by_interval (folded_row items) plan from to (seen_elements s.elements)

    rows_rise : AllPairs (λ (a b : Element). a.0 <ℤ b.0) all_rows
    rows_rise = pairs_map row_of (λ (a b : Element). a.0 <ℤ b.0) (grouped plan from to (seen_elements s.elements))
        (AllPairs-filter (λ (a b : Group). a.0 <ℤ b.0) has_some (map group_at (starts_between plan from to))
        (pairs_map group_at (λ (a b : Group). a.0 <ℤ b.0) (starts_between plan from to)
        (AllPairs-filter (λ a b. a <ℤ b) (λ x. not (int_lt x from) && not (int_lt to x)) (on_starts plan) all_rise)))

    -- where a row comes from
    record IsGroupAt (start : ℤ) : Type 0 where
      on : IsOnStart plan start
      inside : IsFromTo from to start
      some : has_some (group_at start) ≡ true

    row_came : (e : Element) → Contains all_rows e → (start : ℤ) × IsGroupAt start × (e ≡ row_of (group_at start))
    row_came e there =
        let group = among_mapped row_of (grouped plan from to (seen_elements s.elements)) e (among_from all_rows e there) in
        let kept = among_filtered has_some (map group_at (starts_between plan from to)) group.0 group.1 in
        let start = among_mapped group_at (starts_between plan from to) group.0 kept.0 in
        let stood = among_filtered (λ x. not (int_lt x from) && not (int_lt to x)) (on_starts plan) start.0 start.1 in
        let place = place_among (on_starts plan) start.0 stood.0 in (
          start.0,
          record { on = start-listed plan start.0 place.0 place.1; inside = between_true from to start.0 stood.1; some = sym (ap has_some start.2) ∙ kept.1 },
          group.2 ∙ ap row_of start.2,
        )

    came_row : (start : ℤ) → IsGroupAt start → Contains all_rows (row_of (group_at start))
    came_row start at =
        let listed = listed-start plan start laid at.on in
        among_contains all_rows (row_of (group_at start))
        (among_map row_of (grouped plan from to (seen_elements s.elements)) (group_at start)
        (among_filter has_some (map group_at (starts_between plan from to)) (group_at start)
        (among_map group_at (starts_between plan from to) start
        (among_filter (λ x. not (int_lt x from) && not (int_lt to x)) (on_starts plan) start (among_place (on_starts plan) listed.0 start listed.1)
        (between_yes from to start at.inside.0 at.inside.1))) at.some))

    -- an interval holds some exactly where it has members
    holds_some : (start : ℤ) → has_some (group_at start) ≡ true → HoldsSeen plan s start
    holds_some start some =
        let e = one_of (members start) some in
        let at = (members_seen start).theirs e.0.0 e.0.1 (among_contains (members start) e.0 e.1) in
        record { stamp = e.0.0; row = e.0.1; at = at.1; held = at.0 }

    some_held : (start : ℤ) → HoldsSeen plan s start → has_some (group_at start) ≡ true
    some_held start holds = some_of (members start) (holds.stamp, holds.row)
        (among_from (members start) (holds.stamp, holds.row) ((members_seen start).each holds.stamp holds.row holds.held holds.at))

    -- the values of an interval are those of the range from its start to its last stamp
    same_values : (start last : ℤ) → IsLastOf plan start last → (b : Binding) → b.items ≡ items → folded_range b start last s.elements ≡ folded_row items (map (λ (e : Element). e.1) (members start))
    same_values start last is b same =
        ap (λ (l : List BoundItem). folded_range (record b { items = l }) start last s.elements) same
        ∙ ap visible (same_folded (IsFromTo start last) (λ stamp. IsHeldFrom plan stamp start) items s s _ _ (range_folded items start last s) (members_folded start)
        (λ stamp row inside at. ((is stamp (stamps stamp row at)).1 inside, at))
        (λ stamp row held at. ((is stamp (stamps stamp row at)).0 held, at)))

-- such rows are those of intervals
module _ (cat : Catalogue) (text key : List ℕ) (from to : ℤ) (s : Series) (plan : CalendarPlan) (laid : IsLaid plan) (stamps : HasStamps s) (items : List Item) (b : Binding) where
  abbrev its_rows : List Element
  its_rows = all_rows plan laid s stamps b.items from to

  range_of : (start : ℤ) → IsOnStart plan start → get cat.series key ≡ Some s → read_list text ≡ Ok items → binding (columns_of cat s) items ≡ Ok b
      → SaysAsRange text key plan (scales_of b) start (folded_row b.items (map (λ (e : Element). e.1) (members plan laid s stamps b.items from to start))) cat
  range_of start on there read bound =
      let range = held_range plan laid start on in
      record {
        last = range.0;
        is = range.1;
        says = subst (λ (r : Row). outcome (Ok (commands.AggregateRange text key start range.0)) cat ≡ Ok (folded_text (scales_of b) ((start, r) ∷ []), cat))
            (same_values plan laid s stamps b.items from to start range.0 range.1 b refl) (range_says cat text key start range.0 s items b read there bound);
      }

  rows_listed : (rows : List Element) (answered : Answered) → get cat.series key ≡ Some s → read_list text ≡ Ok items → binding (columns_of cat s) items ≡ Ok b → its_rows ≡ rows
      → answered ≡ (folded_text (scales_of b) rows, cat) → ListsIntervals text key plan from to s cat answered
  rows_listed rows answered there read bound same lines = record {
    b = b;
    bound = record { items = items; read = read; bound = bound };
    rows = rows;
    rising = subst (λ (l : List Element). AllPairs (λ (a c : Element). a.0 <ℤ c.0) l) same (rows_rise plan laid s stamps b.items from to);
    starts = λ start row listed.
        let group = came_back (start, row) listed in
        subst (λ (e : Element). IsOnStart plan e.0 × IsFromTo from to e.0 × HoldsSeen plan s e.0) (sym group.2)
        (group.1.on, group.1.inside, holds_some plan laid s stamps b.items from to group.0 group.1.some);
    folded = λ start row listed.
        let group = came_back (start, row) listed in
        subst (λ (e : Element). AreFolded (λ stamp. IsHeldFrom plan stamp e.0) b.items s e.1.values) (sym group.2)
        (members_folded plan laid s stamps b.items from to group.0);
    ranges = λ start row listed.
        let group = came_back (start, row) listed in
        subst (λ (e : Element). SaysAsRange text key plan (scales_of b) e.0 e.1 cat) (sym group.2) (range_of group.0 group.1.on there read bound);
    each = λ start on inside holds. (
      folded_row b.items (map (λ (e : Element). e.1) (members plan laid s stamps b.items from to start)),
      subst (λ (l : List Element). Contains l (row_of plan laid s stamps b.items from to (group_at plan laid s stamps b.items from to start))) same
          (came_row plan laid s stamps b.items from to start (record { on = on; inside = inside; some = some_held plan laid s stamps b.items from to start holds })),
    );
    lines = lines;
  } where
    came_back : (e : Element) → Contains rows e → (start : ℤ) × IsGroupAt plan laid s stamps b.items from to start
        × (e ≡ row_of plan laid s stamps b.items from to (group_at plan laid s stamps b.items from to start))
    came_back e listed = row_came plan laid s stamps b.items from to e (subst (λ (l : List Element). Contains l e) (sym same) listed)

pub intervals_listed : IntervalsAreListed
unfolding outcome carried_out aggregate_by
intervals_listed cat answered text calendar key from to s plan there stamps calendared laid is =
    let items = came (read_list text) _ answered is in
    let planned = sym (on_ok (a_calendar calendar cat) plan _ calendared) ∙ items.2 in
    let named = sym (on_ok (wanted key cat.series) s _ (wanted-there key cat.series s there)) ∙ planned in
    let b = came (binding (columns_of cat s) items.0) _ answered named in
    let all = its_rows cat text key from to s plan laid stamps items.0 b.0 in
    let rows = came (within_rows all) _ answered b.2 in
    rows_listed cat text key from to s plan laid stamps items.0 b.0 rows.0 answered there items.1 b.1 (few_rows all rows.0 rows.1)
    (same_answer (folded_text (scales_of b.0) rows.0, cat) answered rows.2)
