use Rattle.std.proofs.Common.{ℕ, ◌≡◌, ◌≤◌, ◌+◌, ◌-◌, ℤ, Option, Some, None, List, length, take, drop, get_or, ap, ◌∙◌, arith, inl, inr}
use Rattle.ts_model.specs.declared.def.Def.TheVariants as defs
use Rattle.ts_layout.specs.Slot.{def_bytes, series_bytes}
use Rattle.ts_layout.proofs.CallerLemmas.{series_length, series_key, series_container, length-key, series_only}
use Rattle.ts_slots.proofs.ParseLemmas.{one, none_some, key_is}
use Rattle.ts_slots.proofs.series_slot.parse_series.Goals as goal

-- the text where the key stands
text : (slot key : List ℕ) (container : ℕ) (regular : Option (ℕ × ℤ)) → length key ≤ 64 → slot ≡ series_bytes key container regular → take (2 + get_or slot 1 0 - 2) (drop 2 slot) ≡ key
text slot key container regular short is =
    let count : get_or slot 1 0 ≡ length key = ap (λ (l : List ℕ). get_or l 1 0) is ∙ series_length key container regular in
    let size : 2 + get_or slot 1 0 - 2 ≡ length key = omega (arith, count) in
    (λ i. take (size i) (drop 2 (is i))) ∙ series_key key container regular short

pub returns-then-length-gt-KEY-clause-found : goal.returns-then-length-gt-KEY-clause-found
returns-then-length-gt-KEY-clause-found c =
    λ format. series_only format (λ def. c.args.slot.now ≡ def_bytes def → None ≡ Some def) (λ key container regular is bytes.
    let short = length-key key is.key in
    let count = ap (λ (l : List ℕ). get_or l 1 0) bytes ∙ series_length key container regular in
    let slot = ap (λ (l : List ℕ). get_or l 66 0) bytes ∙ series_container key container regular short in
    absurd (elim c.then-length-gt-KEY.either [ inl over ↦ omega (arith, count, over, short) | inr over ↦ omega (arith, slot, over.1, is.container) ]))

pub returns-in_default-clause-found : goal.returns-in_default-clause-found
returns-in_default-clause-found c =
    λ format. series_only format (λ def. c.args.slot.now ≡ def_bytes def → None ≡ Some def) (λ key container regular is bytes.
    none_some c.parse_regular.result regular c.in_default.is (c.parse_regular.ensures.found key container regular (length-key key is.key) is.regular bytes))

pub returns-in_default-2-clause-found : goal.returns-in_default-2-clause-found
returns-in_default-2-clause-found c =
    λ format. series_only format (λ def. c.args.slot.now ≡ def_bytes def → None ≡ Some def) (λ key container regular is bytes.
    none_some c.in_ok-key.field-0 key c.in_default-2.is
    (c.in_ok-key.ensures ∙ key_is _ key (text c.args.slot.now key container regular (length-key key is.key) bytes) is.key))

pub returns-clause-found : goal.returns-clause-found
returns-clause-found c =
    λ format. series_only format (λ def. c.args.slot.now ≡ def_bytes def → Some (defs.Series c.in-Some-2.key (get_or c.args.slot.now 66 0) c.in-Some.regular) ≡ Some def) (λ key container regular is bytes.
    let short = length-key key is.key in
    let same = one c.in_ok-key.field-0 c.in-Some-2.key key c.in-Some-2.is
    (c.in_ok-key.ensures ∙ key_is _ key (text c.args.slot.now key container regular short bytes) is.key) in
    let slot = ap (λ (l : List ℕ). get_or l 66 0) bytes ∙ series_container key container regular short in
    let regulars = one c.parse_regular.result c.in-Some.regular regular c.in-Some.is (c.parse_regular.ensures.found key container regular short is.regular bytes) in
    λ i. Some (defs.Series (same i) (slot i) (regulars i)))
