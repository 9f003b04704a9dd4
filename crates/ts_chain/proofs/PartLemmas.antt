-- The two pages that the halves of a page are put on, each alone or with the elements of a neighbour.
use Rattle.std.proofs.Common.{◌≡◌, ◌≢◌, ℕ, suc, ◌+◌, ◌*◌, ◌<◌, ◌≤◌, Bool, IsTrue, Option, Some, List, [], ◌∷◌, ◌++◌, length, drop, get_or, refl, sym, ap, subst, ◌∙◌, arith, append-nil, length-append}
use Rattle.std.specs.Prelude.{Contains, IfSome, IsPermutation, option_to_list}
use Rattle.std.proofs.lemmas.List.Elements.{All-nil, All-cons}
use Rattle.ts_space.specs.declared.place.Place.{Place}
use Rattle.ts_space.specs.Place.{count_of, pages_of}
use Rattle.ts_page.specs.Pages.{zero_page, Contents, EqualPages, Taken, with_page}
use Rattle.ts_row.specs.declared.kind.Column.{Column}
use Rattle.ts_row.specs.Row.{Element}
use Rattle.ts_cells.specs.IrregularPage.{AreElements, behind_head, irregular_page}
use Rattle.ts_cells.proofs.HeadLemmas.{irregular_behind}
use Rattle.ts_irregular.specs.OnePage.{IsOn}
use Rattle.ts_sheets.specs.Stamped.{all_in}
use Rattle.ts_sheets.specs.Places.{AreChained, IsCounted}
use Rattle.ts_chain.specs.declared.halves.Halves.{Halves}
use Rattle.ts_chain.specs.Window.{AreSpread, begin_of}
use Rattle.ts_chain.specs.Halves.{IsSpread}
use Rattle.ts_chain.proofs.TakenLemmas.{first_put, second_put, none_put, one_taken, one_freed}
use Rattle.ts_chain.proofs.PagesLemmas.{other_page}

-- the elements of no page, and of one
none_on : (slot : ℕ) (columns : List Column) (pages : ℕ → List ℕ) (xs : List (List Element)) → AreChained slot columns pages [] xs → all_in xs ≡ []
none_on slot columns pages [] on = refl
none_on slot columns pages (es ∷ xs) on = absurd on

record IsOne (slot : ℕ) (columns : List Column) (pages : ℕ → List ℕ) (p : Place) (xs : List (List Element)) : Type 0 where
  es : List Element
  on : IsOn slot columns (pages p.page) p es
  all : all_in xs ≡ es

one_on : (slot : ℕ) (columns : List Column) (pages : ℕ → List ℕ) (p : Place) (xs : List (List Element)) → AreChained slot columns pages (p ∷ []) xs → IsOne slot columns pages p xs
one_on slot columns pages p [] on = absurd on
one_on slot columns pages p (es ∷ []) on = record { es = es; on = on.0; all = append-nil es }
one_on slot columns pages p (es ∷ fs ∷ xs) on = absurd on.1

-- what the pages of two places have
pub record ArePages (first : Place) (one two : List ℕ) (come : Place × Place) (v w : ℕ → List ℕ) : Type 0 where
  pub first_is : w come.0.page ≡ one
  pub second_is : w come.1.page ≡ two
  pub others : (n : ℕ) → n ≢ come.0.page → n ≢ come.1.page → n ≢ first.page → w n ≡ v n

-- pages were read, and two of them put
pub two_put : (first : Place) (one two : List ℕ) (come : Place × Place) (v u w : ℕ → List ℕ) → come.0.page ≢ come.1.page → EqualPages v u → EqualPages (with_page come.1.page two (with_page come.0.page one u)) w → ArePages first one two come v w
two_put first one two come v u w apart read put = record {
  first_is = first_put come.0.page come.1.page one two u w put apart;
  second_is = second_put come.0.page come.1.page one two u w put;
  others = λ n other1 other2 own. none_put come.0.page come.1.page one two u w put n other1 other2 ∙ read n;
}

-- and one was freed
pub one_less : (first : Place) (one two : List ℕ) (come : Place × Place) (v u w : ℕ → List ℕ) → come.0.page ≢ first.page → come.1.page ≢ first.page → ArePages first one two come v u → EqualPages (with_page first.page zero_page u) w → ArePages first one two come v w
one_less first one two come v u w apart1 apart2 have freed = record {
  first_is = freed come.0.page ∙ other_page first.page come.0.page zero_page u apart1 ∙ have.first_is;
  second_is = freed come.1.page ∙ other_page first.page come.1.page zero_page u apart2 ∙ have.second_is;
  others = λ n other1 other2 own. freed n ∙ other_page first.page n zero_page u own ∙ have.others n other1 other2 own;
}

-- the first half alone, or behind the elements of a page
abbrev pub HasFirst : Bool → ℕ → List Column → List Place → Place → List ℕ → List ℕ → ℕ → Contents → Type 0
HasFirst tells slot columns before first page one count v =
    IsTrue tells → (xs : List (List Element)) (fs : List Element) → AreChained slot columns v.page before xs → AreElements columns fs → length fs ≡ first.count → page ≡ irregular_page slot columns fs
    → (length (all_in xs ++ fs) ≡ count) × (one ≡ irregular_page slot columns (all_in xs ++ fs))

pub first_alone : (tells : Bool) (slot : ℕ) (columns : List Column) (first : Place) (page : List ℕ) (v : Contents) → HasFirst tells slot columns [] first page page first.count v
first_alone tells slot columns first page v told xs fs on each count is =
    let none : all_in xs ++ fs ≡ fs = ap (λ (l : List Element). l ++ fs) (none_on slot columns v.page xs on) in
    (ap length none ∙ count, is ∙ ap (irregular_page slot columns) (sym none))

pub first_joined : (tells : Bool) (slot : ℕ) (columns : List Column) (before first : Place) (page one : List ℕ) (count : ℕ) (v : Contents)
    → (IsTrue tells → (es fs : List Element) → IsOn slot columns (v.page before.page) before es → AreElements columns fs → length fs ≡ first.count → drop 32 page ≡ behind_head columns fs → (count ≡ before.count + first.count) × (one ≡ irregular_page slot columns (es ++ fs)))
    → HasFirst tells slot columns (before ∷ []) first page one count v
first_joined tells slot columns before first page one count v joined told xs fs on each long is =
    let k = one_on slot columns v.page before xs on in
    let j = joined told k.es fs k.on each long (ap (drop 32) is ∙ irregular_behind slot columns fs) in
    let all : all_in xs ++ fs ≡ k.es ++ fs = ap (λ (l : List Element). l ++ fs) k.all in
    let own = k.on.count in
    (omega (arith, ap length all, length-append k.es fs, own, long, j.0), j.1 ∙ ap (irregular_page slot columns) (sym all))

-- the second half alone, or in front of them
abbrev pub HasSecond : Bool → ℕ → List Column → List Place → Place → List ℕ → List ℕ → ℕ → Contents → Type 0
HasSecond tells slot columns behind second others two count v =
    IsTrue tells → (ys : List (List Element)) (gs : List Element) → AreChained slot columns v.page behind ys → AreElements columns gs → length gs ≡ second.count → others ≡ irregular_page slot columns gs
    → (length (gs ++ all_in ys) ≡ count) × (two ≡ irregular_page slot columns (gs ++ all_in ys))

pub second_alone : (tells : Bool) (slot : ℕ) (columns : List Column) (second : Place) (others : List ℕ) (v : Contents) → HasSecond tells slot columns [] second others others second.count v
second_alone tells slot columns second others v told ys gs on each count is =
    let none : gs ++ all_in ys ≡ gs = ap (λ (l : List Element). gs ++ l) (none_on slot columns v.page ys on) ∙ append-nil gs in
    (ap length none ∙ count, is ∙ ap (irregular_page slot columns) (sym none))

pub second_joined : (tells : Bool) (slot : ℕ) (columns : List Column) (second behind : Place) (others two : List ℕ) (count : ℕ) (v u : Contents) → (IsTrue tells → EqualPages v.page u.page)
    → (IsTrue tells → (fs es : List Element) → IsOn slot columns (u.page behind.page) behind es → AreElements columns fs → length fs ≡ second.count → drop 32 others ≡ behind_head columns fs → (count ≡ second.count + behind.count) × (two ≡ irregular_page slot columns (fs ++ es)))
    → HasSecond tells slot columns (behind ∷ []) second others two count v
second_joined tells slot columns second behind others two count v u read joined told ys gs on each long is =
    let k = one_on slot columns v.page behind ys on in
    let here : IsOn slot columns (u.page behind.page) behind k.es = subst (λ (b : List ℕ). IsOn slot columns b behind k.es) (sym (read told behind.page)) k.on in
    let j = joined told gs k.es here each long (ap (drop 32) is ∙ irregular_behind slot columns gs) in
    let all : gs ++ all_in ys ≡ gs ++ k.es = ap (λ (l : List Element). gs ++ l) k.all in
    let own = k.on.count in
    (omega (arith, ap length all, length-append gs k.es, own, long, j.0), j.1 ∙ ap (irregular_page slot columns) (sym all))

-- so the halves are spread
pub spread_made : (tells : Bool) (slot : ℕ) (columns : List Column) (before : List Place) (first second : Place) (behind : List Place) (page others one two : List ℕ) (come : Place × Place) (v w : Contents)
    → IsPermutation (v.free ++ pages_of (before ++ first ∷ behind)) (w.free ++ come.0.page ∷ come.1.page ∷ []) → IsCounted columns come.0 → IsCounted columns come.1 → come.0.count + come.1.count ≤ count_of before + (first.count + second.count) + count_of behind
    → (IsTrue tells → ArePages first one two come v.page w.page) → ((n : ℕ) → ¬ Contains (pages_of (before ++ first ∷ behind)) n → ¬ Contains v.free n → (n ≢ come.0.page) × (n ≢ come.1.page) × (n ≢ first.page))
    → HasFirst tells slot columns before first page one come.0.count v → HasSecond tells slot columns behind second others two come.1.count v
    → AreSpread tells slot columns before first second behind page others come v w
spread_made tells slot columns before first second behind page others one two come v w moved counted1 counted2 few have apart has1 has2 = record {
  window = record {
    pages = moved;
    counts = All-cons (IsCounted columns) come.0 (come.1 ∷ []) counted1 (All-cons (IsCounted columns) come.1 [] counted2 (All-nil (IsCounted columns)));
    others = λ told n not free. let other = apart n not free in (have told).others n other.0 other.1 other.2;
  };
  count = few;
  told = λ told xs ys fs gs on1 on2 each1 each2 count1 count2 is1 is2.
      let h1 = has1 told xs fs on1 each1 count1 is1 in
      let h2 = has2 told ys gs on2 each2 count2 is2 in
      let h = have told in
      record { first_count = h1.0; second_count = h2.0; first_page = h.first_is ∙ h1.1; second_page = h.second_is ∙ h2.1 };
}

-- whatever neighbours there are
pub is_spread : (tells : Bool) (slot : ℕ) (columns : List Column) (h : Halves) (before behind : Option Place) (page others : List ℕ) (come : Place × Place) (v w : Contents) → h.before ≡ before → h.behind ≡ behind → come.0.at ≡ begin_of (option_to_list before) h.first → come.1.at ≡ h.second.at
    → w.change_bytes + 5 * length v.free ≤ v.change_bytes + 5 * length w.free + 8207 → AreSpread tells slot columns (option_to_list before) h.first h.second (option_to_list behind) page others come v w → IsSpread tells slot columns h page others come v w
is_spread tells slot columns h before behind page others come v w first_is second_is first second grows spread = record {
  first_at = first ∙ ap (λ (o : Option Place). begin_of (option_to_list o) h.first) (sym first_is);
  second_at = second;
  spread =
      subst (λ (o : Option Place). AreSpread tells slot columns (option_to_list o) h.first h.second (option_to_list h.behind) page others come v w) (sym first_is)
      (subst (λ (o : Option Place). AreSpread tells slot columns (option_to_list before) h.first h.second (option_to_list o) page others come v w) (sym second_is) spread);
  grows = grows;
}

-- a neighbour that is known
pub joined : (P : Place → Type 0) (near : Option Place) (p : Place) → near ≡ Some p → IfSome near P → P p
joined P near p is some = subst (λ (o : Option Place). IfSome o P) is some

pub joined_both : (P : Place → Place → Type 0) (before behind : Option Place) (p q : Place) → before ≡ Some p → behind ≡ Some q → IfSome before (λ b. IfSome behind (P b)) → P p q
joined_both P before behind p q first second some = joined (P p) behind q second (joined (λ b. IfSome behind (P b)) before p first some)

-- what is none of some numbers
pub none_of_one : (x n : ℕ) → ¬ Contains (x ∷ []) n → n ≢ x
none_of_one x n not same = not (0, omega arith, sym same)

pub none_of_two : (x y n : ℕ) → ¬ Contains (x ∷ y ∷ []) n → (n ≢ x) × (n ≢ y)
none_of_two x y n not = ((λ same. not (0, omega arith, sym same)), (λ same. not (1, omega arith, sym same)))

pub none_of_three : (x y z n : ℕ) → ¬ Contains (x ∷ y ∷ z ∷ []) n → (n ≢ x) × (n ≢ y) × (n ≢ z)
none_of_three x y z n not = ((λ same. not (0, omega arith, sym same)), (λ same. not (1, omega arith, sym same)), (λ same. not (2, omega arith, sym same)))

-- the pages of each end
pub moved_apart : (v u w : Contents) (n p : ℕ) → v.free ≡ n ∷ u.free → w.free ≡ u.free → IsPermutation (v.free ++ p ∷ []) (w.free ++ p ∷ n ∷ [])
moved_apart v u w n p taken same =
    subst (λ (l : List ℕ). IsPermutation (l ++ p ∷ []) (w.free ++ p ∷ n ∷ [])) (sym taken) (subst (λ (l : List ℕ). IsPermutation ((n ∷ u.free) ++ p ∷ []) (l ++ p ∷ n ∷ [])) (sym same) (one_taken u.free n p))

pub moved_both_freed : (v w : Contents) (a p b : ℕ) → w.free ≡ p ∷ v.free → IsPermutation (v.free ++ a ∷ p ∷ b ∷ []) (w.free ++ a ∷ b ∷ [])
moved_both_freed v w a p b freed = subst (λ (l : List ℕ). IsPermutation (v.free ++ a ∷ p ∷ b ∷ []) (l ++ a ∷ b ∷ [])) (sym freed) (one_freed v.free (a ∷ []) p (b ∷ []))

-- a page that was taken isn't one of the others
pub taken_apart : (tells : Bool) (n p : ℕ) (v u : Contents) → Taken tells n v u → ¬ Contains v.free p → p ≢ n
taken_apart tells n p v u taken used same = used (subst (λ (l : List ℕ). Contains l p) (sym taken.listed) (0, omega arith, sym same))

pub taken_used : (tells : Bool) (n p : ℕ) (v u : Contents) → Taken tells n v u → ¬ Contains v.free p → ¬ Contains u.free p
taken_used tells n p v u taken used has = used (subst (λ (l : List ℕ). Contains l p) (sym taken.listed) (has.0 + 1, more has.0 has.1, later has.0 has.2))
  where
    more : (k : ℕ) → k < length u.free → k + 1 < length (n ∷ u.free)
    more k within = omega (arith, within)

    later : (k : ℕ) → get_or u.free k p ≡ p → get_or (n ∷ u.free) (k + 1) p ≡ p
    later k is = let next : k + 1 ≡ suc k = omega arith in ap (λ (m : ℕ). get_or (n ∷ u.free) m p) next ∙ is
