use Rattle.std.proofs.Common.{◌≡◌, sym, ap, ◌∙◌, Option, Some, IfSome, subst}
use Rattle.ts_slots.specs.Written.{written_of, written_bytes}
use Rattle.ts_slots.proofs.ParseLemmas.{none_some, one, both_ways, reads_empty, reads_bad, not_empty}
use Rattle.ts_slots.proofs.WrittenLemmas.{bytes_same}
use Rattle.ts_slots.proofs.slot.read_slot.Goals as goal

-- what holds of what there is
some_of : {A : Type 0} (o : Option A) (a : A) (P : A → Type 0) → o ≡ Some a → IfSome o P → P a
some_of {A} o a P is holds = let Q : Option A → Type 0 = λ x. IfSome x P in subst Q is holds

pub returns-then-is_zero : goal.returns-then-is_zero
returns-then-is_zero c = reads_empty c.args.format c.args.kind c.args.bytes.now c.requires (c.is_zero.ensures.zeros.0 c.if-is_zero.true)

pub returns-in_default : goal.returns-in_default
returns-in_default c =
    reads_bad c.args.format c.args.kind c.args.bytes.now c.requires (λ zeros. both_ways (c.is_zero.ensures.zeros.1 zeros) c.if-is_zero.false)
    (λ def kind is bytes. none_some c.in_ok-written.field-0 (written_of def) c.in_default.is (c.in_ok-written.ensures.found def kind is bytes))

pub returns-then-is_written : goal.returns-then-is_written
returns-then-is_written c =
    let rules = some_of c.in_ok-written.field-0 c.in-Some.written _ c.in-Some.is c.in_ok-written.ensures.rules in
    record {
      of_kind = rules.0;
      limits = rules.1;
      is = c.is_written.ensures.0 c.if-is_written.true;
      only = λ def kind is bytes. one c.in_ok-written.field-0 c.in-Some.written (written_of def) c.in-Some.is (c.in_ok-written.ensures.found def kind is bytes);
      some = not_empty c.args.kind c.args.bytes.now c.requires (λ zeros. both_ways (c.is_zero.ensures.zeros.1 zeros) c.if-is_zero.false);
    }

pub returns : goal.returns
returns c =
    reads_bad c.args.format c.args.kind c.args.bytes.now c.requires (λ zeros. both_ways (c.is_zero.ensures.zeros.1 zeros) c.if-is_zero.false)
    (λ def kind is bytes.
    let same = one c.in_ok-written.field-0 c.in-Some.written (written_of def) c.in-Some.is (c.in_ok-written.ensures.found def kind is bytes) in
    both_ways (c.is_written.ensures.1 (bytes ∙ sym (bytes_same def) ∙ ap written_bytes (sym same))) c.if-is_written.false)
