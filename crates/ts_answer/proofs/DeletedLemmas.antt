-- A deletion of what isn't there leaves the catalogue.
use Rattle.std.proofs.Common.{◌≡◌, ℕ, ℤ, Bool, true, false, cond, not, Option, Some, None, List, [], ◌∷◌, refl, sym, ap, ◌∙◌}
use Rattle.std.specs.Prelude.{IfSome}
use Rattle.std.specs.FinMap.{entries, from_entries, get, get-entries, get-from_entries, get-insert, get-remove, get_tied, insert, int_cmp-IsAntisymmetric, remove, same_map}
use Rattle.std.specs.Cmp.{int_cmp_total}
use Rattle.std.specs.declared.cmp.Ordering.{Ordering}
use Rattle.std.specs.declared.cmp.Ordering.TheVariants.{Less, Equal, Greater}
use Rattle.std.specs.Ordering.{is_eq, eq_by_cmp, int_cmp}
use Rattle.ts_row.specs.Row.{Element}
use Rattle.ts_sheets.specs.Stamped.{is_within, within_range, without_range}
use Rattle.ts_model.specs.Catalogue.{name_cmp, Named, Elements, Series, Catalogue}
use Rattle.ts_model.proofs.OrderLemmas.{total, same_name, ties-same}
use Rattle.ts_answer.specs.Elements.{with_elements, without_one}

-- a value that is put where it stands already
put_again : {X : Type 0} (b : Bool) (there : Option X) (v : X) → (b ≡ true → there ≡ Some v) → cond b (Some v) there ≡ there
put_again true there v is = sym (is refl)
put_again false there v is = refl

same_value : {X : Type 0} (m : Named X) (name : List ℕ) (v : X) → get m name ≡ Some v → insert m name v ≡ m
same_value m name v there =
    same_map total same_name (insert m name v) m
    (λ q. get-insert total m name v q ∙ put_again (eq_by_cmp name_cmp q name) (get m q) v (λ same. ap (get m) (ties-same q name same) ∙ there))

-- the catalogue with the elements that a series has
same_elements : (key : List ℕ) (s : Series) (elements : Elements) (cat : Catalogue) → get cat.series key ≡ Some s → elements ≡ s.elements → with_elements key s elements cat ≡ cat
same_elements key s elements cat there same =
    ap (λ (es : Elements). with_elements key s es cat) same
    ∙ ap (λ (named : Named Series). record cat { series = named }) (same_value cat.series key s there)

-- what is taken out where nothing stands
gone_already : {X : Type 0} (b : Bool) (there : Option X) → (b ≡ true → there ≡ None) → cond b None there ≡ there
gone_already true there is = sym (is refl)
gone_already false there is = refl

is_equal : (r : Ordering) → is_eq r ≡ true → r ≡ Equal
is_equal Less h = absurd (cc)
is_equal Equal h = refl
is_equal Greater h = absurd (cc)

nothing_removed : (elements : Elements) (stamp : ℤ) → get elements stamp ≡ None → remove elements stamp ≡ elements
nothing_removed elements stamp none =
    same_map int_cmp_total int_cmp-IsAntisymmetric (remove elements stamp) elements
    (λ q. get-remove int_cmp_total elements stamp q
    ∙ gone_already (eq_by_cmp int_cmp q stamp) (get elements q) (λ same. sym (get_tied int_cmp_total elements q stamp (is_equal (int_cmp q stamp) same)) ∙ none))

none_there : (elements : Elements) (address : Option ℤ) → IfSome address (λ at. get elements at ≡ None) → without_one address elements ≡ elements
none_there elements None none = refl
none_there elements (Some at) none = nothing_removed elements at none

-- at an address, if there is one
pub element_not_there : (key : List ℕ) (s : Series) (address : Option ℤ) (cat : Catalogue) → get cat.series key ≡ Some s
    → IfSome address (λ at. get s.elements at ≡ None) → with_elements key s (without_one address s.elements) cat ≡ cat
element_not_there key s address cat there none = same_elements key s (without_one address s.elements) cat there (none_there s.elements address none)

-- what is left where nothing goes
all_left : (b : Bool) (e : Element) (gone left es : List Element) → (gone ≡ [] → left ≡ es) → cond b (e ∷ gone) gone ≡ [] → cond (not b) (e ∷ left) left ≡ e ∷ es
all_left true e gone left es is none = absurd (cc)
all_left false e gone left es is none = ap (λ (fs : List Element). e ∷ fs) (is none)

none_within : (from to : ℤ) (es : List Element) → within_range from to es ≡ [] → without_range from to es ≡ es
none_within from to [] none = refl
none_within from to (e ∷ es) none = all_left (is_within from to e) e (within_range from to es) (without_range from to es) es (none_within from to es) none

listed_again : (elements : Elements) → from_entries (entries elements) ≡ elements
listed_again elements =
    same_map int_cmp_total int_cmp-IsAntisymmetric (from_entries (entries elements)) elements
    (λ q. get-from_entries int_cmp_total (entries elements) q ∙ sym (get-entries elements q))

pub range_not_there : (key : List ℕ) (s : Series) (from to : ℤ) (cat : Catalogue) → get cat.series key ≡ Some s → within_range from to (entries s.elements) ≡ []
    → with_elements key s (from_entries (without_range from to (entries s.elements))) cat ≡ cat
range_not_there key s from to cat there none =
    same_elements key s (from_entries (without_range from to (entries s.elements))) cat there
    (ap (λ (es : List Element). let m : Elements = from_entries es in m) (none_within from to (entries s.elements) none) ∙ listed_again s.elements)
