use Rattle.std.proofs.Common.{◌≡◌, ◌∙◌, sym, ap, Some, to_z, of_z, w64, to_z-of_z}
use Rattle.ts_pattern.specs.Patterns.{Plan, smaller_unit, least_common_multiple, joined_length}
use Rattle.ts_pattern.proofs.PlanLemmas.{answer-joined, flags-joined, length-joined}
use Rattle.ts_pattern.proofs.pattern.Pattern.join_shifted.Goals as goal

pub returns-clause-answer : goal.returns-clause-answer
returns-clause-answer c =
    let a = c.args.self.now in
    let b = c.args.other.now in
    let u = c.in-Some.unit in
    let unit : smaller_unit a.unit b.unit ≡ Some u =
    sym (ap (λ (p : Plan). smaller_unit p.unit b.unit) c.self.view_is) ∙ sym (ap (λ (p : Plan). smaller_unit c.self.inside.unit p.unit) c.other.view_is)
    ∙ sym c.smaller_unit.ensures ∙ c.in-Some.is in
    let length : c.common_multiple-length.result ≡ joined_length u a b =
    c.common_multiple-length.ensures.value ∙ ap (λ n. least_common_multiple n c.length_in-2.result) c.length_in.ensures.value
    ∙ ap (least_common_multiple _) c.length_in-2.ensures.value in
    let shift = to_z w64 (of_z w64 c.args.shift) in
    let other_shift = to_z w64 (of_z w64 c.args.other_shift) in
    let answer = answer-joined c.args.junction a b shift other_shift u c.common_multiple-length.result c.joined_in.result unit length c.joined_in.ensures.answer in
    rw (to_z-of_z c.ranges.shift, to_z-of_z c.ranges.other_shift) at answer

pub returns-clause-flags : goal.returns-clause-flags
returns-clause-flags c =
    let a = c.args.self.now in
    let b = c.args.other.now in
    let u = c.in-Some.unit in
    let unit : smaller_unit a.unit b.unit ≡ Some u =
    sym (ap (λ (p : Plan). smaller_unit p.unit b.unit) c.self.view_is) ∙ sym (ap (λ (p : Plan). smaller_unit c.self.inside.unit p.unit) c.other.view_is)
    ∙ sym c.smaller_unit.ensures ∙ c.in-Some.is in
    let length : c.common_multiple-length.result ≡ joined_length u a b =
    c.common_multiple-length.ensures.value ∙ ap (λ n. least_common_multiple n c.length_in-2.result) c.length_in.ensures.value
    ∙ ap (least_common_multiple _) c.length_in-2.ensures.value in
    let shift = to_z w64 (of_z w64 c.args.shift) in
    let other_shift = to_z w64 (of_z w64 c.args.other_shift) in
    let flags = flags-joined c.args.junction a b shift other_shift u c.common_multiple-length.result c.joined_in.result
    c.length_in.ensures.pattern c.length_in-2.ensures.pattern unit length c.joined_in.ensures.answer in
    rw (to_z-of_z c.ranges.shift, to_z-of_z c.ranges.other_shift) at flags

pub returns-clause-length : goal.returns-clause-length
returns-clause-length c =
    let a = c.args.self.now in
    let b = c.args.other.now in
    let u = c.in-Some.unit in
    let length : c.common_multiple-length.result ≡ joined_length u a b =
    c.common_multiple-length.ensures.value ∙ ap (λ n. least_common_multiple n c.length_in-2.result) c.length_in.ensures.value
    ∙ ap (least_common_multiple _) c.length_in-2.ensures.value in
    length-joined a b u _ c.common_multiple-length.result c.joined_in.result length c.joined_in.ensures.answer
