-- Definitions with what was read into one slot more.
use Rattle.std.proofs.Common.{◌≡◌, ℕ, ◌+◌, ◌<◌, ◌≤◌, Option, Some, None, IfSome, length, refl, sym, subst, ◌∙◌, arith, inl, inr}
use Rattle.std.specs.Option.{option_map}
use Rattle.std.proofs.lemmas.List.{length-map}
use Rattle.ts_model.specs.declared.kind.Kind.{Kind}
use Rattle.ts_model.specs.declared.def.Def.{Def}
use Rattle.ts_model.specs.Definitions.{Definitions, kind_of, limit, slots, to_def, table_of}
use Rattle.ts_model.proofs.PartsLemmas.{format-stays}
use Rattle.ts_container.proofs.FollowLemmas.{follow_more, valid_more}
use Rattle.ts_layout.specs.Meaning.{IsSlotOf, def_at, AreFollowing, AreValid}
use Rattle.ts_layout.specs.Changed.{KeepsCalendarRules}
use Rattle.ts_container.specs.Reading.{AreReadTo, filled}
use Rattle.ts_layout.specs.Rank.{rank}
use Rattle.ts_layout.proofs.CallerLemmas.{apart_by_rank, this_or_other, def_at-with_slot, def_at-other, length-with_slot}

-- a slot with what was read into it
pub filled_same : (format : ℕ) (kind : Kind) (slot : ℕ) (o : Option Def) (d : Definitions) → IsSlotOf format kind o → slot < length (slots kind d) → def_at kind slot d ≡ None → def_at kind slot (filled kind slot o d) ≡ o
filled_same format kind slot None d is within empty = empty
filled_same format kind slot (Some def) d is within empty = def_at-with_slot kind slot def d is.0 within

pub filled_other : (kind kind' : Kind) (slot slot' : ℕ) (o : Option Def) (d : Definitions) → (kind' ≡ kind → slot' ≡ slot → ⊥) → def_at kind' slot' (filled kind slot o d) ≡ def_at kind' slot' d
filled_other kind kind' slot slot' None d other = refl
filled_other kind kind' slot slot' (Some def) d other = def_at-other kind kind' slot slot' (Some def) d other

filled_sizes : (kind kind' : Kind) (slot : ℕ) (o : Option Def) (d : Definitions) → length (slots kind' (filled kind slot o d)) ≡ length (slots kind' d)
filled_sizes kind kind' slot None d = refl
filled_sizes kind kind' slot (Some def) d = length-with_slot kind kind' slot (Some def) d

filled_format : (kind : Kind) (slot : ℕ) (o : Option Def) (d : Definitions) → (filled kind slot o d).format ≡ d.format
filled_format kind slot None d = refl
filled_format kind slot (Some def) d = format-stays kind slot (Some def) d

filled_follow : (kind : Kind) (slot : ℕ) (o : Option Def) (d : Definitions) → IfSome o (λ def. kind_of def ≡ kind) → slot < length (table_of kind d) → def_at kind slot d ≡ None → IfSome o (λ def. KeepsCalendarRules def d) → AreFollowing d → AreFollowing (filled kind slot o d)
filled_follow kind slot None d is within empty rules follow = follow
filled_follow kind slot (Some def) d is within empty rules follow =
    subst (λ (k : Kind). slot < length (table_of k d) → def_at k slot d ≡ None → AreFollowing (filled k slot (Some def) d)) is (λ within' empty'. follow_more d slot def within' empty' rules follow) within empty

filled_valid : (kind : Kind) (slot : ℕ) (o : Option Def) (d : Definitions) → IfSome o (λ def. kind_of def ≡ kind) → slot < length (table_of kind d) → IfSome o (λ def. KeepsCalendarRules def d) → AreValid d → AreValid (filled kind slot o d)
filled_valid kind slot None d is within rules valid = valid
filled_valid kind slot (Some def) d is within rules valid = subst (λ (k : Kind). slot < length (table_of k d) → AreValid (filled k slot (Some def) d)) is (λ within'. valid_more d slot def within' rules valid) within

-- what stands in a slot of a kind is of the kind
its_kind : (format : ℕ) (kind : Kind) (o : Option Def) → IsSlotOf format kind o → IfSome o (λ def. kind_of def ≡ kind)
its_kind format kind None is = tt
its_kind format kind (Some def) is = is.0

-- one slot more is read
pub read_more : (format : ℕ) (kind : Kind) (slot reached : ℕ) (o : Option Def) (d : Definitions) → slot < limit kind → rank kind slot ≡ reached → IsSlotOf format kind o → IfSome o (λ def. KeepsCalendarRules def d) → AreReadTo format reached d → AreReadTo format (reached + 1) (filled kind slot o d)
read_more format kind slot reached o d within at is rules read = record {
  of_format = filled_format kind slot o d ∙ read.of_format;
  sizes = λ kind'. filled_sizes kind kind' slot o d ∙ read.sizes kind';
  empty = λ kind' slot' above. filled_other kind kind' slot slot' o d (apart_by_rank kind kind' slot slot' (λ same. omega (arith, above, at, same))) ∙ read.empty kind' slot' (omega (arith, above));
  limits = record {
    each = λ kind' slot' within'.
        subst (λ (n : ℕ). IsSlotOf n kind' (def_at kind' slot' (filled kind slot o d))) (sym (filled_format kind slot o d ∙ read.of_format)) (elim (this_or_other kind kind' slot slot' within within') [
          | inl same ↦
              let here = filled_same format kind slot o d is (omega (arith, within, read.sizes kind)) (read.empty kind slot (omega (arith, at))) in
              subst (λ (p : Kind × ℕ). IsSlotOf format p.0 (def_at p.0 p.1 (filled kind slot o d))) (λ i. (sym same.0 i, sym same.1 i)) (subst (IsSlotOf format kind) (sym here) is)
          | inr other ↦ subst (IsSlotOf format kind') (sym (filled_other kind kind' slot slot' o d (apart_by_rank kind kind' slot slot' other))) (subst (λ (n : ℕ). IsSlotOf n kind' (def_at kind' slot' d)) read.of_format (read.limits.each kind' slot' within'))
        ]);
  };
  follow = filled_follow kind slot o d (its_kind format kind o is) (in_table kind slot d within (read.sizes kind)) (read.empty kind slot (omega (arith, at))) rules read.follow;
  valid = filled_valid kind slot o d (its_kind format kind o is) (in_table kind slot d within (read.sizes kind)) rules read.valid;
} where
  in_table : (kind : Kind) (slot : ℕ) (d : Definitions) → slot < limit kind → length (slots kind d) ≡ limit kind → slot < length (table_of kind d)
  in_table kind slot d within size = omega (arith, within, size, length-map (table_of kind d) (option_map (to_def kind)))

-- what was read as far as some rank was read further
pub read_on : (format : ℕ) (reached further : ℕ) (d : Definitions) → reached ≤ further → AreReadTo format reached d → AreReadTo format further d
read_on format reached further d above read = record {
  of_format = read.of_format;
  sizes = read.sizes;
  empty = λ kind slot past. read.empty kind slot (omega (arith, past, above));
  limits = read.limits;
  follow = read.follow;
  valid = read.valid;
}
