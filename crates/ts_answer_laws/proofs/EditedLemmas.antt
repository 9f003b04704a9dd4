-- What an accepted PutElem, DelElem and DelClip did.
use Rattle.std.proofs.Common.{◌≡◌, ℕ, ◌+◌, ◌-◌, ◌≤◌, ℤ, Bool, true, false, cond, not, ◌&&◌, T, Option, Some, None, is_some, Ok, Err, List, [], ◌∷◌, length, filter, refl, sym, ap, ◌∙◌, arith}
use Rattle.std.specs.Prelude.{int_lt}
use Rattle.std.specs.FinMap.{entries, entries_sorted, entries-from_sorted, find, from_entries, from_sorted, get, get-entries, get-from_entries, get-from_sorted, get-remove, int_cmp-IsAntisymmetric, is_sorted, len, len-entries, len-remove, remove, same_map}
use Rattle.std.specs.FinMap.Entries.{find-where_key, is_sorted-where_key}
use Rattle.std.specs.Cmp.{int_cmp_total}
use Rattle.std.specs.Ordering.{int_cmp, int_eq}
use Rattle.ts_base.specs.Moment.{is_between}
use Rattle.ts_base.specs.declared.refusal.Refusal.{Refusal}
use Rattle.ts_row.specs.declared.value.Literal.{Literal}
use Rattle.ts_row.specs.Row.{Element, Row}
use Rattle.ts_command.specs.declared.command.Command.TheVariants as commands
use Rattle.ts_sheets.specs.Stamped.{place_for, is_within, within_range, without_range}
use Rattle.ts_model.specs.Catalogue.{Elements, SeriesKind, Irregular, Regular, Series, Catalogue, columns_of, quota_of}
use Rattle.ts_model.specs.Charge.{container_charge}
use Rattle.ts_answer.specs.Answer.{Answered, outcome, carried_out, put_element, delete_element, delete_range, Tried, reached, wanted, a_row, an_address, a_place, placed, within_quota, with_element, with_elements, count_if_any, count_at, without_one}
use Rattle.ts_answer.specs.Reply.{count_line, stamp_line}
use Rattle.ts_answer.proofs.CallerLemmas.{wanted-there, on_ok}
use Rattle.ts_answer_laws.specs.Edited.{Adds, Puts, TakesAway}
use Rattle.ts_answer_laws.proofs.CameLemmas.{came, same_answer}
use Rattle.ts_answer_laws.proofs.PlacedLemmas.{place_free}

placed_at : (o : Option ℤ) (place : ℤ) → placed o ≡ Ok place → o ≡ Some place
placed_at (Some stamp) place is = let same : stamp ≡ place = cc in ap Some same
placed_at None place is = absurd (cc)

given_place : (stamp place : ℤ) (elements : Elements) → a_place Irregular stamp elements ≡ Ok place → get elements place ≡ None
unfolding a_place
given_place stamp place elements is =
    get-entries elements place ∙ place_free stamp place (entries elements) (entries_sorted elements) (placed_at (place_for stamp (entries elements)) place is)

pub put_adds : (cat : Catalogue) (answered : Answered) (key : List ℕ) (stamp : ℤ) (literals : List Literal) (s : Series) → get cat.series key ≡ Some s
    → s.kind ≡ Irregular → outcome (Ok (commands.PutElem key stamp literals)) cat ≡ Ok answered → Adds key s cat answered
unfolding outcome carried_out put_element
put_adds cat answered key stamp literals s there irregular is =
    let known = sym (on_ok (wanted key cat.series) s _ (wanted-there key cat.series s there)) ∙ is in
    let row = came (a_row (columns_of cat s) literals) _ answered known in
    let at = came (an_address s stamp cat) _ answered row.2 in
    let place = came (a_place s.kind at.0 s.elements) _ answered at.2 in
    let given = sym (ap (λ (kind : SeriesKind). a_place kind at.0 s.elements) irregular) ∙ place.1 in
    let fits = came (within_quota (container_charge s.container (with_element key s place.0 row.0 cat)) (quota_of cat s)) _ answered place.2 in
    let same = same_answer (stamp_line place.0, with_element key s place.0 row.0 cat) answered fits.2 in
    record { stamp = place.0; row = row.0; free = given_place at.0 place.0 s.elements given; line = ap (λ (a : Answered). a.0) same; comes = ap (λ (a : Answered). a.1) same }

-- on a grid: at its address
placed_there : (calendar : List ℕ) (origin place at : ℤ) (kind : SeriesKind) (elements : Elements) → kind ≡ Regular calendar origin → a_place kind at elements ≡ Ok place → place ≡ at
unfolding a_place
placed_there calendar origin place at Irregular elements is given = absurd (cc)
placed_there calendar origin place at (Regular name start) elements is given = cc

pub put_stands : (cat : Catalogue) (answered : Answered) (key : List ℕ) (stamp at : ℤ) (literals : List Literal) (s : Series) (calendar : List ℕ) (origin : ℤ) → get cat.series key ≡ Some s
    → s.kind ≡ Regular calendar origin → an_address s stamp cat ≡ Ok at → outcome (Ok (commands.PutElem key stamp literals)) cat ≡ Ok answered → Puts at key s cat answered
unfolding outcome carried_out put_element
put_stands cat answered key stamp at literals s calendar origin there regular address is =
    let known = sym (on_ok (wanted key cat.series) s _ (wanted-there key cat.series s there)) ∙ is in
    let row = came (a_row (columns_of cat s) literals) _ answered known in
    let rest = sym (on_ok (an_address s stamp cat) at _ address) ∙ row.2 in
    let place = came (a_place s.kind at s.elements) _ answered rest in
    let fits = came (within_quota (container_charge s.container (with_element key s place.0 row.0 cat)) (quota_of cat s)) _ answered place.2 in
    let same = same_answer (stamp_line place.0, with_element key s place.0 row.0 cat) answered fits.2 in
    let at_it = placed_there calendar origin place.0 at s.kind s.elements regular place.1 in
    record {
      row = row.0;
      line = ap (λ (a : Answered). a.0) same ∙ ap stamp_line at_it;
      comes = ap (λ (a : Answered). a.1) same ∙ ap (λ (x : ℤ). with_element key s x row.0 cat) at_it;
    }

-- one element fewer, where one is there
some_listed : (stamp : ℤ) (row : Row) (es : List Element) → find int_cmp stamp es ≡ Some row → 1 ≤ length es
some_listed stamp row [] there = absurd (cc)
some_listed stamp row (e ∷ es) there = omega arith

fewer : (elements : Elements) (stamp : ℤ) (o : Option Row) → get elements stamp ≡ o → len (remove elements stamp) + count_if_any o ≡ len elements
fewer elements stamp None is =
    let same = len-remove int_cmp_total elements stamp ∙ ap (λ (o : Option Row). cond (is_some o) (len elements - 1) (len elements)) is in
    omega (arith, same)
fewer elements stamp (Some row) is =
    let less = len-remove int_cmp_total elements stamp ∙ ap (λ (o : Option Row). cond (is_some o) (len elements - 1) (len elements)) is in
    let some = some_listed stamp row (entries elements) (sym (get-entries elements stamp) ∙ is) in
    omega (arith, less, some, len-entries elements)

module _ (cat : Catalogue) (answered : Answered) (key : List ℕ) (stamp : ℤ) (s : Series) (there : get cat.series key ≡ Some s) (is : outcome (Ok (commands.DelElem key stamp)) cat ≡ Ok answered) where
  -- what is answered where a stamp addresses this, or nothing
  abbrev deleted : Option ℤ → Answered
  deleted address = (count_line (count_at address s.elements), with_elements key s (without_one address s.elements) cat)

  deleted_at : (address : Tried ℤ) → an_address s stamp cat ≡ address → answered ≡ deleted (reached address)
  unfolding outcome carried_out delete_element
  deleted_at address at =
      let known = sym (on_ok (wanted key cat.series) s _ (wanted-there key cat.series s there)) ∙ is in
      same_answer (deleted (reached (an_address s stamp cat))) answered known ∙ ap (λ (t : Tried ℤ). deleted (reached t)) at

pub element_taken : (cat : Catalogue) (answered : Answered) (key : List ℕ) (stamp at : ℤ) (s : Series) → get cat.series key ≡ Some s → an_address s stamp cat ≡ Ok at
    → outcome (Ok (commands.DelElem key stamp)) cat ≡ Ok answered → TakesAway (λ other. int_eq other at) key s cat answered
element_taken cat answered key stamp at s there address is =
    let same = deleted_at cat answered key stamp s there is (Ok at) address in
    record {
      elements = remove s.elements at;
      gone = count_if_any (get s.elements at);
      left = λ other. get-remove int_cmp_total s.elements at other;
      count = fewer s.elements at (get s.elements at) refl;
      line = ap (λ (a : Answered). a.0) same;
      comes = ap (λ (a : Answered). a.1) same;
    }

pub none_taken : (cat : Catalogue) (answered : Answered) (key : List ℕ) (stamp : ℤ) (why : Refusal) (s : Series) → get cat.series key ≡ Some s → an_address s stamp cat ≡ Err why
    → outcome (Ok (commands.DelElem key stamp)) cat ≡ Ok answered → TakesAway (λ other. false) key s cat answered
none_taken cat answered key stamp why s there address is =
    let same = deleted_at cat answered key stamp s there is (Err why) address in
    record {
      elements = s.elements;
      gone = 0;
      left = λ other. refl;
      count = omega arith;
      line = ap (λ (a : Answered). a.0) same;
      comes = ap (λ (a : Answered). a.1) same;
    }

turned : {X : Type 0} (b : Bool) (x y : X) → cond (not b) x y ≡ cond b y x
turned true x y = refl
turned false x y = refl

module _ (from to : ℤ) (elements : Elements) where
  abbrev left_listed : List Element
  left_listed = without_range from to (entries elements)

  abbrev left_elements : Elements
  left_elements = from_entries left_listed

  left_at : (at : ℤ) → get left_elements at ≡ cond (is_between from to at) None (get elements at)
  left_at at =
      get-from_entries int_cmp_total left_listed at
      ∙ find-where_key int_cmp (λ x. not (is_between from to x)) at (λ x tie. ap (λ (z : ℤ). not (is_between from to z)) (sym (int_cmp-IsAntisymmetric at x tie))) (entries elements)
      ∙ turned (is_between from to at) (find int_cmp at (entries elements)) None
      ∙ ap (λ (o : Option Row). cond (is_between from to at) None o) (sym (get-entries elements at))

  left_sorted : T (is_sorted int_cmp left_listed)
  left_sorted = is_sorted-where_key int_cmp (λ x. not (is_between from to x)) (entries elements) (entries_sorted elements)

  left_count : len left_elements ≡ length left_listed
  left_count =
      ap len (same_map int_cmp_total int_cmp-IsAntisymmetric left_elements (from_sorted left_listed) (λ at. get-from_entries int_cmp_total left_listed at ∙ sym (get-from_sorted int_cmp left_listed at left_sorted)))
      ∙ len-entries (from_sorted left_listed) ∙ ap (λ (es : List Element). length es) (entries-from_sorted int_cmp left_listed left_sorted)

-- those that pass a test and the others are all
parted : (test : Element → Bool) (es : List Element) → length (filter (λ e. not (test e)) es) + length (filter test es) ≡ length es
parted test [] = refl
parted test (e ∷ es) =
    one_of (test e) (filter (λ f. not (test f)) es) (filter test es) (parted test es) where
      one_of : (b : Bool) (others passed : List Element) → length others + length passed ≡ length es
          → length (cond (not b) (e ∷ others) others) + length (cond b (e ∷ passed) passed) ≡ length (e ∷ es)
      one_of true others passed all = omega (arith, all)
      one_of false others passed all = omega (arith, all)

pub range_taken : (cat : Catalogue) (answered : Answered) (key : List ℕ) (from to : ℤ) (s : Series) → get cat.series key ≡ Some s
    → outcome (Ok (commands.DelClip key from to)) cat ≡ Ok answered → TakesAway (λ at. not (int_lt at from) && not (int_lt to at)) key s cat answered
unfolding outcome carried_out delete_range
range_taken cat answered key from to s there is =
    let known = sym (on_ok (wanted key cat.series) s _ (wanted-there key cat.series s there)) ∙ is in
    let gone = length (within_range from to (entries s.elements)) in
    let same = same_answer (count_line gone, with_elements key s (left_elements from to s.elements) cat) answered known in
    let all = parted (is_within from to) (entries s.elements) in
    let left = left_count from to s.elements in
    record {
      elements = left_elements from to s.elements;
      gone = gone;
      left = left_at from to s.elements;
      count = omega (arith, all, left, len-entries s.elements);
      line = ap (λ (a : Answered). a.0) same;
      comes = ap (λ (a : Answered). a.1) same;
    }
