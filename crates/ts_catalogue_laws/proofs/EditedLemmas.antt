-- What accepted edits put and marked, and where.
use Rattle.std.specs.Prelude.{AllPairs, int_lt}
use Rattle.std.proofs.Common.{◌≡◌, ◌⊎◌, ℕ, ℤ, pos, ◌+ℤ◌, ◌-ℤ◌, ◌*ℤ◌, ◌≤ℤ◌, ◌<ℤ◌, ◌-◌, ◌<◌, Bool, true, false, cond, Option, Some, None, is_some, option_map, option_and_then, Ok, Err, List, length, slice_get, get_or, refl, sym, ap, subst, ◌∙◌, arith, inl, inr}
use Rattle.std.proofs.lemmas.Int.{ints}
use Rattle.std.proofs.lemmas.Bool.{cases_lt}
use Rattle.std.proofs.lemmas.List.Kept.{AllPairs-filter}
use Rattle.std.specs.Int.{int_div_euclid}
use Rattle.std.specs.Cmp.{int_cmp_total}
use Rattle.std.specs.FinMap.{entries, get, insert, get-entries, int_cmp-IsAntisymmetric}
use Rattle.jiff_core.proofs.SignedLemmas.{signed_arith, int_div_euclid-parts}
use Rattle.ts_base.specs.declared.refusal.Refusal.TheVariants as refusals
use Rattle.ts_row.specs.declared.value.Literal.{Literal}
use Rattle.ts_row.specs.Row.{Row, marked, Element}
use Rattle.ts_calendar.proofs.StampLemmas.{int_lt_yes, int_lt-false, int_lt-true}
use Rattle.ts_offset.specs.Grid.{GridPlan, held_start}
use Rattle.ts_offset.specs.declared.shape.Shape.{Shape}
use Rattle.ts_offset.specs.declared.shape.Shape.TheVariants as shapes
use Rattle.ts_offset.proofs.OwnLemmas.{from-held}
use Rattle.ts_irregular.specs.Edit.{last_of}
use Rattle.ts_sheets.specs.Stamped.{earlier, last_before, next_second, unit_after, place_for}
use Rattle.ts_command.specs.declared.command.Command.{Command}
use Rattle.ts_command.specs.declared.command.Command.TheVariants as commands
use Rattle.ts_model.specs.declared.kind.Kind.TheVariants as kinds
use Rattle.ts_model.specs.Catalogue.{SeriesKind, Irregular, Regular, Series, Catalogue, shape_of, columns_of, quota_of}
use Rattle.ts_model.specs.Charge.{container_charge}
use Rattle.ts_model.proofs.OrderLemmas.{total, same_name}
use Rattle.ts_multi.specs.Touched.{one, objects}
use Rattle.ts_answer.specs.Answer.{Answered, Tried, settled, outcome, answer, carried_out, wanted, known, refused_if, beyond_old_format, a_row, row_at, addressed, on_grid, an_address, a_place, within_quota, with_element, put_element, put_no_dups, insert_element, update_element, mark_element}
use Rattle.ts_answer.specs.Reply.{stamp_line}
use Rattle.ts_answer.proofs.CallerLemmas.{on_ok, wanted-there}
use Rattle.ts_answer_laws.specs.Laws.{OthersStay}
use Rattle.ts_answer_laws.specs.Objects.{StaysBut, set_of}
use Rattle.ts_catalogue_laws.specs.OfCatalogues.{Lies}
use Rattle.ts_catalogue_laws.specs.EditLaws.{Addresses, Stands, PutsAt, IsFree, IsTaken, IsBehind, IsPlace, RowsArePut, Marks, ElementsAreMarked}
use Rattle.ts_catalogue_laws.proofs.MapLemmas.{there_inserted, others_inserted}
use Rattle.ts_catalogue_laws.proofs.ListLemmas.{Among, one_of, entry_found, among_filter, among_filtered, among_place, place_among, at_place, found_listed}
use Rattle.ts_catalogue_laws.proofs.OnceLemmas.{rising}
use Rattle.ts_catalogue_laws.proofs.CommandLemmas.{came, known_is, row_is, row_there, none_there, not_so, placed_at}
use Rattle.ts_catalogue_laws.proofs.OfCatalogueLemmas.{regular_shape}

same_answer : (a b : Answered) → let left : Tried Answered = Ok a in left ≡ Ok b → b ≡ a
same_answer a b is = cc

-- the last of rising elements has the greatest stamp
last_most : (xs : List Element) (e f : Element) → AllPairs (λ (a b : Element). a.0 <ℤ b.0) xs → slice_get xs (length xs - 1) ≡ Some e → Among f xs → f.0 ≤ℤ e.0
last_most xs e f rise is there =
    let place = place_among xs f there in
    let here = at_place xs place.0 f e place.1 in
    let last = at_place xs (length xs - 1) e e is in
    elim (cases_lt place.0 (length xs - 1)) [
      | inl lt ↦
          let low : f.0 <ℤ e.0 = subst (λ (x : Element). x.0 <ℤ e.0) here.1 (subst (λ (x : Element). (get_or xs place.0 e).0 <ℤ x.0) last.1 (rise place.0 (length xs - 1) e lt last.0)) in
          omega (arith, ints, low)
      | inr ge ↦
          let within = here.0 in
          let at : place.0 ≡ length xs - 1 = omega (arith, ge, within) in
          let same : f ≡ e = one_of (slice_get xs (length xs - 1)) f e (subst (λ (n : ℕ). slice_get xs n ≡ Some f) at place.1) is in
          subst (λ (x : Element). x.0 ≤ℤ e.0) (sym same) (omega (arith, ints))
    ]

-- where a second ends
record IsSecond (stamp end : ℤ) : Type 0 where
  whole : (seconds : ℤ) × (end ≡ seconds *ℤ pos 100_000)
  inside : stamp <ℤ end
  near : end ≤ℤ (stamp +ℤ pos 100_000)

second_of : (stamp : ℤ) → IsSecond stamp (next_second stamp)
second_of stamp =
    let q = int_div_euclid stamp (pos 100_000) in
    let some : 0 < 100_000 = omega arith in
    let parts = int_div_euclid-parts stamp 100_000 some in
    record {
      whole = (q +ℤ pos 1, omega (arith, signed_arith));
      inside = omega (arith, signed_arith, parts.0, parts.1);
      near = omega (arith, signed_arith, parts.0, parts.1);
    }

-- behind the last element of a second
module _ (s : Series) (stamp place : ℤ) where
  abbrev end : ℤ
  end = next_second stamp

  abbrev before_end : List Element
  before_end = earlier end (entries s.elements)

  listed_before : (at : ℤ) (row : Row) → get s.elements at ≡ Some row → at <ℤ end → Among (at, row) before_end
  listed_before at row there low = among_filter (λ (e : Element). int_lt e.0 end) (entries s.elements) (at, row) (found_listed int_cmp-IsAntisymmetric s.elements at row there) (int_lt_yes at end low)

  module _ (e : Element) (last : last_of before_end ≡ Some e) where
    most : (at : ℤ) (row : Row) → get s.elements at ≡ Some row → at <ℤ end → at ≤ℤ e.0
    most at row there low =
        last_most before_end e (at, row) (AllPairs-filter (λ (a b : Element). a.0 <ℤ b.0) (λ (f : Element). int_lt f.0 end) (entries s.elements) (rising s.elements)) last (listed_before at row there low)

    stands_there : get s.elements e.0 ≡ Some e.1
    stands_there = entry_found int_cmp_total s.elements e (among_filtered (λ (f : Element). int_lt f.0 end) (entries s.elements) e (among_place before_end (length before_end - 1) e last))

    none_later : (other : ℤ) → (e.0 +ℤ pos 1) ≤ℤ other → other <ℤ end → IsFree s other
    none_later other high low = by (get s.elements other) refl where
      by : (o : Option Row) → get s.elements other ≡ o → get s.elements other ≡ None
      by None is = is
      by (Some row) is = let below = most other row is low in absurd (omega (arith, ints, below, high))

    behind_last : (row : Row) → get s.elements stamp ≡ Some row → place ≡ e.0 +ℤ pos 1 → (e.0 +ℤ pos 1) <ℤ end → IsBehind s stamp place
    behind_last row there next low =
        let second = second_of stamp in
        let inside = second.inside in
        let own = most stamp row there inside in
        let back : place -ℤ pos 1 ≡ e.0 = omega (arith, ints, next) in
        record {
          taken = (row, there);
          end = end;
          whole = second.whole;
          inside = inside;
          near = second.near;
          later = omega (arith, ints, own, next);
          before = subst (λ (z : ℤ). z <ℤ end) (sym next) low;
          behind = (e.1, ap (get s.elements) back ∙ stands_there);
          last = λ other high less. none_later other (subst (λ (z : ℤ). z ≤ℤ other) next high) less;
        }

  by_last : (row : Row) → get s.elements stamp ≡ Some row → (o : Option Element) → last_of before_end ≡ o → option_and_then (unit_after end) (option_map (λ (e : Element). e.0) o) ≡ Some place → IsBehind s stamp place
  by_last row there None at given = absurd (let never : ⊥ = cc in never)
  by_last row there (Some e) at given = by (int_lt (e.0 +ℤ pos 1) end) refl given where
    by : (b : Bool) → int_lt (e.0 +ℤ pos 1) end ≡ b → cond b (Some (e.0 +ℤ pos 1)) None ≡ Some place → IsBehind s stamp place
    by true less is = let same : place ≡ e.0 +ℤ pos 1 = cc in behind_last e at row there same (int_lt-true (e.0 +ℤ pos 1) end less)
    by false less is = absurd (let never : ⊥ = cc in never)

  by_own : (o : Option Row) → get s.elements stamp ≡ o → cond (is_some o) (option_and_then (unit_after end) (last_before end (entries s.elements))) (Some stamp) ≡ Some place
      → ((place ≡ stamp) × IsFree s stamp) ⊎ IsBehind s stamp place
  by_own None there given = inl (let same : place ≡ stamp = cc in same, there)
  by_own (Some row) there given = inr (by_last row there (last_of before_end) refl given)

  place_is : place_for stamp (entries s.elements) ≡ Some place → ((place ≡ stamp) × IsFree s stamp) ⊎ IsBehind s stamp place
  place_is given =
      by_own (get s.elements stamp) refl
      (ap (λ (o : Option Row). cond (is_some o) (option_and_then (unit_after end) (last_before end (entries s.elements))) (Some stamp)) (get-entries s.elements stamp) ∙ given)

-- what is addressed
grid_addressed : (grid : GridPlan) (stamp at : ℤ) (o : Option ℤ) → held_start grid.calendar stamp ≡ o → on_grid grid o ≡ Ok at → Addresses (shapes.Regular grid) stamp at
grid_addressed grid stamp at None held is = absurd (let never : ⊥ = cc in never)
grid_addressed grid stamp at (Some start) held is = by (int_lt start grid.origin) refl is where
  by : (b : Bool) → int_lt start grid.origin ≡ b → cond b (Err refusals.BeforeOrigin) (Ok start) ≡ Ok at → Addresses (shapes.Regular grid) stamp at
  by true early is = absurd (let never : ⊥ = cc in never)
  by false late is =
      let same : start ≡ at = cc in
      subst (λ (z : ℤ). Addresses (shapes.Regular grid) stamp z) same (from-held grid.calendar stamp start held, int_lt-false start grid.origin late)

shape_addressed : (shape : Shape) (stamp at : ℤ) → addressed shape stamp ≡ Ok at → Addresses shape stamp at
shape_addressed shapes.Irregular stamp at is = let same : at ≡ stamp = cc in same
shape_addressed (shapes.Regular grid) stamp at is = grid_addressed grid stamp at (held_start grid.calendar stamp) refl is

record IsAddress (cat : Catalogue) (s : Series) (stamp at : ℤ) : Type 0 where
  shape : Shape
  is : shape_of cat s.kind ≡ Some shape
  addressed : Addresses shape stamp at

an_address_is : (cat : Catalogue) (s : Series) (stamp at : ℤ) → an_address s stamp cat ≡ Ok at → IsAddress cat s stamp at
unfolding an_address
an_address_is cat s stamp at is =
    let shape = came (known (shape_of cat s.kind)) _ at is in
    record { shape = shape.0; is = known_is (shape_of cat s.kind) shape.0 shape.1; addressed = shape_addressed shape.0 stamp at shape.2 }

-- where an element is put
on_shape : (cat : Catalogue) (s : Series) (calendar : List ℕ) (origin : ℤ) (kind : SeriesKind) (shape : Shape) (stamp at : ℤ) → kind ≡ Regular calendar origin → shape_of cat kind ≡ Some shape → Addresses shape stamp at → IsPlace s shape stamp at
on_shape cat s calendar origin kind shapes.Irregular stamp at is lies here = absurd (regular_shape cat calendar origin kind shapes.Irregular is lies refl)
on_shape cat s calendar origin kind (shapes.Regular grid) stamp at is lies here = here

a_place_is : (cat : Catalogue) (s : Series) (kind : SeriesKind) (shape : Shape) (stamp at place : ℤ) → shape_of cat kind ≡ Some shape → Addresses shape stamp at → a_place kind at s.elements ≡ Ok place → IsPlace s shape stamp place
unfolding a_place
a_place_is cat s Irregular shape stamp at place lies here given =
    let same : shapes.Irregular ≡ shape = cc in
    let own : at ≡ stamp = subst (λ (x : Shape). Addresses x stamp at) (sym same) here in
    let free = placed_at (place_for at (entries s.elements)) place given in
    subst (λ (x : Shape). IsPlace s x stamp place) same (place_is s stamp place (ap (λ (z : ℤ). place_for z (entries s.elements)) (sym own) ∙ free))
a_place_is cat s (Regular calendar origin) shape stamp at place lies here given =
    let same : at ≡ place = cc in
    subst (λ (z : ℤ). IsPlace s shape stamp z) same (on_shape cat s calendar origin (Regular calendar origin) shape stamp at refl lies here)

module _ (others : OthersStay) where
  rest_stays : (cat : Catalogue) (command : Command) (answered : Answered) → set_of command ≡ None → outcome (Ok command) cat ≡ Ok answered → StaysBut (objects command).wrote cat answered.1
  unfolding answer
  rest_stays cat command answered single is = subst (λ (a : Catalogue). StaysBut (objects command).wrote cat a) (ap (λ (m : Tried Answered). (settled cat m).1) is) (others cat command single)

  stands : (cat : Catalogue) (answered : Answered) (key : List ℕ) (s : Series) (at : ℤ) (row : Row) → StaysBut (one kinds.Series key) cat answered.1 → answered ≡ (stamp_line at, with_element key s at row cat) → Stands at row key s cat answered
  stands cat answered key s at row rest is = record {
    line = ap (λ (a : Answered). a.0) is;
    series = record s { elements = insert s.elements at row };
    listed = ap (λ (a : Answered). get a.1.series key) is ∙ there_inserted total same_name cat.series key (record s { elements = insert s.elements at row });
    container = refl;
    kind = refl;
    here = there_inserted int_cmp_total int_cmp-IsAntisymmetric s.elements at row;
    others = λ stamp other. others_inserted int_cmp_total int_cmp-IsAntisymmetric s.elements at stamp row other;
    rest = rest;
  }

  abbrev charge : Catalogue → List ℕ → Series → ℤ → Row → Tried (Unit {0})
  charge cat key s at row = within_quota (container_charge s.container (with_element key s at row cat)) (quota_of cat s)

  inserted : (cat : Catalogue) (answered : Answered) (key : List ℕ) (stamp : ℤ) (literals : List Literal) (s : Series) → get cat.series key ≡ Some s → outcome (Ok (commands.InsElem key stamp literals)) cat ≡ Ok answered
      → Lies cat s (λ shape. PutsAt (λ at. Addresses shape stamp at × IsFree s at) literals key s cat answered)
  unfolding outcome carried_out insert_element
  inserted cat answered key stamp literals s listed is =
      let named = sym (on_ok (wanted key cat.series) s _ (wanted-there key cat.series s listed)) ∙ is in
      let row = came (a_row (columns_of cat s) literals) _ answered named in
      let at = came (an_address s stamp cat) _ answered row.2 in
      let free = came (refused_if (is_some (get s.elements at.0)) refusals.Duplicate) _ answered at.2 in
      let fits = came (charge cat key s at.0 row.0) _ answered free.2 in
      let address = an_address_is cat s stamp at.0 at.1 in
      record {
        shape = address.shape;
        is = address.is;
        so = record {
          at = at.0;
          place = (address.addressed, none_there (get s.elements at.0) (not_so (is_some (get s.elements at.0)) refusals.Duplicate free.0 free.1));
          row = row.0;
          given = row_is (columns_of cat s) literals row.0 row.1;
          stands = stands cat answered key s at.0 row.0 (rest_stays cat (commands.InsElem key stamp literals) answered refl is) (same_answer (stamp_line at.0, with_element key s at.0 row.0 cat) answered fits.2);
        };
      }

  updated : (cat : Catalogue) (answered : Answered) (key : List ℕ) (stamp : ℤ) (literals : List Literal) (s : Series) → get cat.series key ≡ Some s → outcome (Ok (commands.UpdElem key stamp literals)) cat ≡ Ok answered
      → Lies cat s (λ shape. PutsAt (λ at. Addresses shape stamp at × IsTaken s at) literals key s cat answered)
  unfolding outcome carried_out update_element
  updated cat answered key stamp literals s listed is =
      let named = sym (on_ok (wanted key cat.series) s _ (wanted-there key cat.series s listed)) ∙ is in
      let row = came (a_row (columns_of cat s) literals) _ answered named in
      let at = came (an_address s stamp cat) _ answered row.2 in
      let old = came (row_at at.0 s.elements) _ answered at.2 in
      let address = an_address_is cat s stamp at.0 at.1 in
      record {
        shape = address.shape;
        is = address.is;
        so = record {
          at = at.0;
          place = (address.addressed, (old.0, row_there at.0 s.elements old.0 old.1));
          row = row.0;
          given = row_is (columns_of cat s) literals row.0 row.1;
          stands = stands cat answered key s at.0 row.0 (rest_stays cat (commands.UpdElem key stamp literals) answered refl is) (same_answer (stamp_line at.0, with_element key s at.0 row.0 cat) answered old.2);
        };
      }

  put_once : (cat : Catalogue) (answered : Answered) (key : List ℕ) (stamp : ℤ) (literals : List Literal) (s : Series) → get cat.series key ≡ Some s → outcome (Ok (commands.PutElemNoDups key stamp literals)) cat ≡ Ok answered
      → Lies cat s (λ shape. PutsAt (Addresses shape stamp) literals key s cat answered)
  unfolding outcome carried_out put_no_dups
  put_once cat answered key stamp literals s listed is =
      let named = sym (on_ok (wanted key cat.series) s _ (wanted-there key cat.series s listed)) ∙ is in
      let row = came (a_row (columns_of cat s) literals) _ answered named in
      let at = came (an_address s stamp cat) _ answered row.2 in
      let fits = came (charge cat key s at.0 row.0) _ answered at.2 in
      let address = an_address_is cat s stamp at.0 at.1 in
      record {
        shape = address.shape;
        is = address.is;
        so = record {
          at = at.0;
          place = address.addressed;
          row = row.0;
          given = row_is (columns_of cat s) literals row.0 row.1;
          stands = stands cat answered key s at.0 row.0 (rest_stays cat (commands.PutElemNoDups key stamp literals) answered refl is) (same_answer (stamp_line at.0, with_element key s at.0 row.0 cat) answered fits.2);
        };
      }

  put_placed : (cat : Catalogue) (answered : Answered) (key : List ℕ) (stamp : ℤ) (literals : List Literal) (s : Series) → get cat.series key ≡ Some s → outcome (Ok (commands.PutElem key stamp literals)) cat ≡ Ok answered
      → Lies cat s (λ shape. PutsAt (IsPlace s shape stamp) literals key s cat answered)
  unfolding outcome carried_out put_element
  put_placed cat answered key stamp literals s listed is =
      let named = sym (on_ok (wanted key cat.series) s _ (wanted-there key cat.series s listed)) ∙ is in
      let row = came (a_row (columns_of cat s) literals) _ answered named in
      let at = came (an_address s stamp cat) _ answered row.2 in
      let place = came (a_place s.kind at.0 s.elements) _ answered at.2 in
      let fits = came (charge cat key s place.0 row.0) _ answered place.2 in
      let address = an_address_is cat s stamp at.0 at.1 in
      record {
        shape = address.shape;
        is = address.is;
        so = record {
          at = place.0;
          place = a_place_is cat s s.kind address.shape stamp at.0 place.0 address.is address.addressed place.1;
          row = row.0;
          given = row_is (columns_of cat s) literals row.0 row.1;
          stands = stands cat answered key s place.0 row.0 (rest_stays cat (commands.PutElem key stamp literals) answered refl is) (same_answer (stamp_line place.0, with_element key s place.0 row.0 cat) answered fits.2);
        };
      }

  marked_so : (hidden : Bool) (cat : Catalogue) (answered : Answered) (key : List ℕ) (stamp : ℤ) (s : Series) → get cat.series key ≡ Some s → mark_element hidden key stamp cat ≡ Ok answered → StaysBut (one kinds.Series key) cat answered.1
      → Lies cat s (λ shape. Marks hidden stamp key s cat shape answered)
  unfolding mark_element
  marked_so hidden cat answered key stamp s listed is rest =
      let named = sym (on_ok (wanted key cat.series) s _ (wanted-there key cat.series s listed)) ∙ is in
      let marks = came (beyond_old_format true cat.format) _ answered named in
      let at = came (an_address s stamp cat) _ answered marks.2 in
      let row = came (row_at at.0 s.elements) _ answered at.2 in
      let address = an_address_is cat s stamp at.0 at.1 in
      record {
        shape = address.shape;
        is = address.is;
        so = record {
          at = at.0;
          addressed = address.addressed;
          old = row.0;
          there = row_there at.0 s.elements row.0 row.1;
          row = marked hidden row.0;
          values = refl;
          mark = refl;
          stands = stands cat answered key s at.0 (marked hidden row.0) rest (same_answer (stamp_line at.0, with_element key s at.0 (marked hidden row.0) cat) answered row.2);
        };
      }

  pub rows_put : RowsArePut
  rows_put = record { insert = inserted; update = updated; no_dups = put_once; put = put_placed }

  pub elements_marked : ElementsAreMarked
  unfolding outcome carried_out
  elements_marked = record {
    hide = λ cat answered key stamp s listed is. marked_so true cat answered key stamp s listed is (rest_stays cat (commands.HideElem key stamp) answered refl is);
    reveal = λ cat answered key stamp s listed is. marked_so false cat answered key stamp s listed is (rest_stays cat (commands.RevealElem key stamp) answered refl is);
  }
