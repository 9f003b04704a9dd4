-- What GetFirstElem and GetLastElem list.
use Rattle.std.specs.Prelude.{Contains}
use Rattle.std.proofs.Common.{◌≡◌, ◌-◌, Option, List, [], ◌∷◌, length, slice_get, get_or, refl, sym, ap, subst, ◌∙◌, arith, inl, inr, ℤ, ◌≤ℤ◌}
use Rattle.std.proofs.lemmas.Int.{ints}
use Rattle.std.proofs.lemmas.List.{get_or_default}
use Rattle.std.proofs.lemmas.Option.{slice_get-get_or}
use Rattle.std.specs.FinMap.{entries}
use Rattle.std.specs.Option.{option_to_list}
use Rattle.ts_row.specs.Row.{Row, Element, seen}
use Rattle.ts_model.specs.Catalogue.{Catalogue, Series, columns_of}
use Rattle.ts_answer.specs.Answer.{Answered, outcome, carried_out, wanted, get_first_element, get_last_element, last_element}
use Rattle.ts_answer.specs.Elements.{first_element}
use Rattle.ts_answer.specs.Reply.{elements_text}
use Rattle.ts_answer.proofs.CallerLemmas.{on_ok, wanted-there}
use Rattle.ts_answer_laws.specs.ReadingLaws.{IsSeenAt, ListsEnd, EndsAreListed}
use Rattle.ts_answer_laws.proofs.RowLemmas.{Among, among_from}
use Rattle.ts_answer_laws.proofs.SeenLemmas.{AreLater, first_before, not_after_last, seen_later, seen_there, there_seen}
use Rattle.ts_answer_laws.proofs.CameLemmas.{same_answer}

-- of a list that is an element or none
only : (e f : Element) → Contains (e ∷ []) f → f ≡ e
only e f there = elim (among_from (e ∷ []) f there) [ inl is ↦ is | inr none ↦ absurd none ]

no_more : (f : Element) → Contains [] f → ⊥
no_more f there = among_from [] f there

-- the first of some elements
module _ (s : Series) (Before : ℤ → ℤ → Type 0) (cat : Catalogue) where
  -- one of them is before all others
  ends_with : (es : List Element) (e : Element) → ((stamp : ℤ) (row : Row) → Among (stamp, row) es → IsSeenAt s stamp row)
      → ((stamp : ℤ) (row : Row) → IsSeenAt s stamp row → Among (stamp, row) es) → Among e es → ((f : Element) → Among f es → Before e.0 f.0)
      → ListsEnd Before s cat (elements_text (columns_of cat s) (e ∷ []), cat)
  ends_with es e theirs ours there before = record {
    rows = e ∷ [];
    one = omega arith;
    theirs = λ stamp row at. theirs stamp row (subst (λ (f : Element). Among f es) (sym (only e (stamp, row) at)) there);
    end = λ stamp other row another at seen.
        subst (λ (t : ℤ). Before t other) (sym (ap (λ (f : Element). f.0) (only e (stamp, row) at))) (before (other, another) (ours other another seen));
    none = λ no. absurd (cc);
    lines = refl;
  }

  ends_none : ((stamp : ℤ) (row : Row) → IsSeenAt s stamp row → ⊥) → ListsEnd Before s cat (elements_text (columns_of cat s) [], cat)
  ends_none none = record {
    rows = [];
    one = omega arith;
    theirs = λ stamp row at. absurd (no_more (stamp, row) at);
    end = λ stamp other row another at seen. absurd (no_more (stamp, row) at);
    none = λ no stamp row. none stamp row;
    lines = refl;
  }

-- before the first none stands
first_of_all : (e : Element) (es : List Element) → AreLater (e ∷ es) → (f : Element) → Among f (e ∷ es) → e.0 ≤ℤ f.0
first_of_all e es later f (inl is) = let same = ap (λ (g : Element). g.0) is in omega (arith, ints, same)
first_of_all e es later f (inr there) = let before = first_before e f es later there in omega (arith, ints, before)

first_listed : (s : Series) (cat : Catalogue) (es : List Element) → AreLater es → ((stamp : ℤ) (row : Row) → Among (stamp, row) es → IsSeenAt s stamp row)
    → ((stamp : ℤ) (row : Row) → IsSeenAt s stamp row → Among (stamp, row) es)
    → ListsEnd (λ stamp other. stamp ≤ℤ other) s cat (elements_text (columns_of cat s) (option_to_list (slice_get es 0)), cat)
first_listed s cat [] later theirs ours = ends_none s (λ stamp other. stamp ≤ℤ other) cat ours
first_listed s cat (e ∷ es) later theirs ours = ends_with s (λ stamp other. stamp ≤ℤ other) cat (e ∷ es) e theirs ours (inl refl) (first_of_all e es later)

-- after the last none stands
last_listed : (s : Series) (cat : Catalogue) (es : List Element) → AreLater es → ((stamp : ℤ) (row : Row) → Among (stamp, row) es → IsSeenAt s stamp row)
    → ((stamp : ℤ) (row : Row) → IsSeenAt s stamp row → Among (stamp, row) es)
    → ListsEnd (λ stamp other. other ≤ℤ stamp) s cat (elements_text (columns_of cat s) (option_to_list (slice_get es (length es - 1))), cat)
last_listed s cat [] later theirs ours = ends_none s (λ stamp other. other ≤ℤ stamp) cat ours
last_listed s cat (e ∷ es) later theirs ours =
    let n = length (e ∷ es) - 1 in
    let last = get_or (e ∷ es) n e in
    subst (λ (o : Option Element). ListsEnd (λ stamp other. other ≤ℤ stamp) s cat (elements_text (columns_of cat s) (option_to_list o), cat))
    (sym (slice_get-get_or (e ∷ es) n e (omega arith)))
    (ends_with s (λ stamp other. other ≤ℤ stamp) cat (e ∷ es) last theirs ours
    (among_from (e ∷ es) last (n, omega arith, get_or_default (e ∷ es) n last e (omega arith)))
    (λ f there. subst (λ (g : Element). f.0 ≤ℤ g.0) (get_or_default (e ∷ es) n f e (omega arith)) (not_after_last (e ∷ es) f later there)))

pub ends_listed : EndsAreListed
unfolding outcome carried_out get_first_element get_last_element
ends_listed = record {
  first = λ cat answered key s there is.
      let listed : Answered = (elements_text (columns_of cat s) (first_element s.elements), cat) in
      let same = same_answer listed answered (sym (on_ok (wanted key cat.series) s _ (wanted-there key cat.series s there)) ∙ is) in
      subst (ListsEnd (λ stamp other. stamp ≤ℤ other) s cat) (sym same)
      (first_listed s cat (seen (entries s.elements)) (seen_later s.elements) (seen_there s) (there_seen s));
  last = λ cat answered key s there is.
      let listed : Answered = (elements_text (columns_of cat s) (last_element s.elements), cat) in
      let same = same_answer listed answered (sym (on_ok (wanted key cat.series) s _ (wanted-there key cat.series s there)) ∙ is) in
      subst (ListsEnd (λ stamp other. other ≤ℤ stamp) s cat) (sym same)
      (last_listed s cat (seen (entries s.elements)) (seen_later s.elements) (seen_there s) (there_seen s));
}
