-- The laws of one that applies expressions: it takes none, or some and then others. They stand here since the law of a
-- trait takes its proof from specs/.
use Rattle.std.proofs.Common.{◌≡◌, ℕ, ◌+◌, ◌<◌, ◌^◌, Bool, true, false, List, [], ◌∷◌, ◌++◌, length, length-append}
use Rattle.std.proofs.Common.{Option, Some, None, refl, sym, ap, subst, ◌∙◌}
use Rattle.std.specs.Prelude.{MatchOption}
use Rattle.std.proofs.Math.Nat.{le_refl, le_trans, add-zero, add_assoc, lt_of_le_of_lt, le-add_right}
use Rattle.std.proofs.lemmas.List.Elements.{filter_map-append}
use Rattle.ts_row.specs.Row.{Element}
use Rattle.ts_entry.specs.Entry.{Entry, element_of, elements_of}
use Rattle.ts_running.specs.Binding.{with_others, Sourced}
use Rattle.ts_running.specs.Rows.{applied_to, applied_all}
use Rattle.ts_running_rows.specs.Application.{Applier, Applies}

-- some rows and then others, where both are there
abbrev pub and_then : Option (List Element) → Option (List Element) → Option (List Element)
and_then None others = None
and_then (Some rows) None = None
and_then (Some rows) (Some others) = Some (rows ++ others)

before_both : (first : Option Element) (rows others : Option (List Element)) →
    with_others first (and_then rows others) ≡ and_then (with_others first rows) others
before_both None rows others = refl
before_both (Some e) None others = refl
before_both (Some e) (Some rows) None = refl
before_both (Some e) (Some rows) (Some others) = refl

none_before : (others : Option (List Element)) → others ≡ and_then (Some []) others
none_before None = refl
none_before (Some others) = refl

applied_both : (exprs : List Sourced) (es fs : List Element) →
    applied_all exprs (es ++ fs) ≡ and_then (applied_all exprs es) (applied_all exprs fs)
applied_both exprs [] fs = none_before (applied_all exprs fs)
applied_both exprs (e ∷ es) fs =
    ap (λ (rows : Option (List Element)). with_others (applied_to exprs e) rows) (applied_both exprs es fs)
    ∙ before_both (applied_to exprs e) (applied_all exprs es) (applied_all exprs fs)

module _ {V : Type 0} (took : V → List Element → V → Type 0) where
  -- what was made of rows, or that a number has no place
  abbrev Made : Option (List Element) → Bool → V → V → Type 0
  Made rows overflowed x y = MatchOption rows (overflowed ≡ true) (λ some. (overflowed ≡ false) × took x some y)

  pub applies_none : (none : (x : V) → took x [] x) (v : Applier) (x : V) → Applies took v x [] v x
  applies_none none v x = record {
    exprs = refl;
    more = le_refl v.count;
    counted = λ few. sym (add-zero v.count);
    kept = λ over. over;
    taken = λ fine few. (fine, none x);
  }

  made_both : (then : (x y z : V) (es fs : List Element) → took x es y → took y fs z → took x (es ++ fs) z)
      (rows others : Option (List Element)) (middle last : Bool) (x y z : V) → Made rows middle x y →
      (middle ≡ true → last ≡ true) → (middle ≡ false → Made others last y z) → Made (and_then rows others) last x z
  made_both then None others middle last x y z first kept second = kept first
  made_both then (Some rows) None middle last x y z first kept second = second first.0
  made_both then (Some rows) (Some others) middle last x y z first kept second =
      ((second first.0).0, then x y z rows others first.1 (second first.0).1)

  applies_both : (then : (x y z : V) (es fs : List Element) → took x es y → took y fs z → took x (es ++ fs) z)
      (u v w : Applier) (x y z : V) (es fs : List Element) → Applies took u x es v y → Applies took v y fs w z →
      Applies took u x (es ++ fs) w z
  applies_both then u v w x y z es fs p q = record {
    exprs = q.exprs ∙ p.exprs;
    more = le_trans p.more q.more;
    counted = λ few.
        let whole : u.count + length (es ++ fs) ≡ (u.count + length es) + length fs =
        ap (λ (n : ℕ). u.count + n) (length-append es fs) ∙ sym (add_assoc u.count (length es) (length fs)) in
        let all : (u.count + length es) + length fs < 2 ^ 64 = subst (λ (n : ℕ). n < 2 ^ 64) whole few in
        let first = p.counted (lt_of_le_of_lt (le-add_right (u.count + length es) (length fs)) all) in
        q.counted (subst (λ (n : ℕ). n + length fs < 2 ^ 64) (sym first) all)
        ∙ ap (λ (n : ℕ). n + length fs) first ∙ sym whole;
    kept = λ over. q.kept (p.kept over);
    taken = λ fine few.
        subst (λ (rows : Option (List Element)). Made rows w.overflowed x z) (sym (applied_both u.exprs es fs))
        (made_both then (applied_all u.exprs es) (applied_all u.exprs fs) v.overflowed w.overflowed x y z
        (p.taken fine (le_trans q.more few)) q.kept
        (λ middle. subst (λ (exprs : List Sourced). Made (applied_all exprs fs) w.overflowed y z) p.exprs
        (q.taken middle few)));
  }

  pub applies_then : (then : (x y z : V) (es fs : List Element) → took x es y → took y fs z → took x (es ++ fs) z)
      (u v w : Applier) (x y z : V) (es fs : List Entry) → Applies took u x (elements_of es) v y →
      Applies took v y (elements_of fs) w z → Applies took u x (elements_of (es ++ fs)) w z
  applies_then then u v w x y z es fs p q =
      subst (λ (l : List Element). Applies took u x l w z) (sym (filter_map-append element_of es fs))
      (applies_both then u v w x y z (elements_of es) (elements_of fs) p q)
