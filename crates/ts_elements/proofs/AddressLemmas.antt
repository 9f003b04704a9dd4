-- Where the element stands that a stamp addresses, and where an edit puts its row then.
use Rattle.std.proofs.Common.{◌≡◌, ℕ, ℤ, Bool, true, false, cond, Option, Some, None, is_some, Result, Ok, Err, List, refl, sym, ap, ◌∙◌}
use Rattle.std.specs.Prelude.{int_lt}
use Rattle.ts_base.specs.declared.refusal.Refusal.{Refusal}
use Rattle.ts_base.specs.declared.refusal.Refusal.TheVariants as refusals
use Rattle.ts_row.specs.Row.{Row, Element}
use Rattle.ts_irregular.specs.Edit.{element_at}
use Rattle.ts_series.specs.declared.edits.EditKind.{EditKind}
use Rattle.ts_series.specs.Edit.{target}
use Rattle.ts_regular_edits.specs.Address.{IsAddressed}
use Rattle.ts_regular_edits.specs.Edit.{refusal_if}
use Rattle.ts_offset.specs.Grid.{GridPlan, held_start, offset_at, offset_of, starts_before}
use Rattle.ts_offset.specs.declared.shape.Shape.{Shape}
use Rattle.ts_offset.specs.declared.shape.Shape.TheVariants.{Irregular, Regular}
use Rattle.ts_model.specs.Catalogue.{Catalogue, Series, shape_of}
use Rattle.ts_answer.specs.Answer.{Tried, known, an_address, addressed, on_grid}
use Rattle.ts_answer.proofs.CallerLemmas.{on_ok, on_err}
use Rattle.ts_elements.specs.Stamps.{target_from, target_in, unless}

-- in a series of a catalogue whose shape is known
pub address_is : (s : Series) (stamp : ℤ) (cat : Catalogue) (shape : Shape) → shape_of cat s.kind ≡ Some shape → an_address s stamp cat ≡ addressed shape stamp
unfolding an_address
address_is s stamp cat shape lies = on_ok (known (shape_of cat s.kind)) shape (λ shape. addressed shape stamp) (ap known lies)

-- on a grid it stands at the start of the interval of its offset
started : (grid : GridPlan) (start : ℤ) (offset : ℕ) (b : Bool) → let r : Result ℕ Refusal = cond b (Err refusals.BeforeOrigin) (Ok (starts_before grid start)) in r ≡ Ok offset → let t : Tried ℤ = cond b (Err refusals.BeforeOrigin) (Ok start) in t ≡ Ok start
started grid start offset true is = absurd (cc)
started grid start offset false is = refl

pub on_address : (grid : GridPlan) (stamp : ℤ) (offset : ℕ) (start : ℤ) → IsAddressed grid stamp offset start → addressed (Regular grid) stamp ≡ Ok start
on_address grid stamp offset start is =
    ap (on_grid grid) is.held
    ∙ started grid start offset (int_lt start grid.origin) (ap (offset_at grid) (sym is.held) ∙ is.offset_is)

-- where it addresses none, for the same reason
not_started : (grid : GridPlan) (start : ℤ) (why : Refusal) (b : Bool) → let r : Result ℕ Refusal = cond b (Err refusals.BeforeOrigin) (Ok (starts_before grid start)) in r ≡ Err why → let t : Tried ℤ = cond b (Err refusals.BeforeOrigin) (Ok start) in t ≡ Err why
not_started grid start why true is = ap Err (let same : refusals.BeforeOrigin ≡ why = cc in same)
not_started grid start why false is = absurd (cc)

not_held : (grid : GridPlan) (why : Refusal) (held : Option ℤ) → offset_at grid held ≡ Err why → on_grid grid held ≡ Err why
not_held grid why None is = ap Err (let same : refusals.OffStamp ≡ why = cc in same)
not_held grid why (Some start) is = not_started grid start why (int_lt start grid.origin) is

pub no_address : (grid : GridPlan) (stamp : ℤ) (why : Refusal) → offset_of grid stamp ≡ Err why → addressed (Regular grid) stamp ≡ Err why
no_address grid stamp why is = not_held grid why (held_start grid.calendar stamp) is

-- the two don't go together
pub one_address : (shape : Shape) (stamp at start : ℤ) → addressed shape stamp ≡ Ok start → addressed shape stamp ≡ Ok at → at ≡ start
one_address shape stamp at start is other = let same : ◌≡◌ {A = Tried ℤ} (Ok at) (Ok start) = sym other ∙ is in cc

pub not_both : (shape : Shape) (stamp at : ℤ) (why : Refusal) → addressed shape stamp ≡ Err why → addressed shape stamp ≡ Ok at → ⊥
not_both shape stamp at why off there = let same : ◌≡◌ {A = Tried ℤ} (Err why) (Ok at) = sym off ∙ there in cc

-- in an irregular series a row is put at any stamp
pub aims_at_any : (how : EditKind) (stamp : ℤ) (es : List Element) → target_in Irregular how stamp es ≡ target how stamp es
aims_at_any how stamp es = on_ok (Ok stamp) stamp (λ at. target_from Irregular how at es) refl

-- on a grid at the start, where nothing refuses it
pub aims_at : (grid : GridPlan) (how : EditKind) (stamp start : ℤ) (es : List Element) (o : Option Row) → addressed (Regular grid) stamp ≡ Ok start → element_at start es ≡ o → (why : Option Refusal) → refusal_if how (is_some o) ≡ why
    → target_in (Regular grid) how stamp es ≡ unless start why
aims_at grid how stamp start es o at found why is =
    on_ok (addressed (Regular grid) stamp) start (λ at. target_from (Regular grid) how at es) at
    ∙ ap (λ (p : Option Row). unless start (refusal_if how (is_some p))) found ∙ ap (unless start) is

pub aims_at_none : (grid : GridPlan) (how : EditKind) (stamp : ℤ) (es : List Element) (why : Refusal) → addressed (Regular grid) stamp ≡ Err why → target_in (Regular grid) how stamp es ≡ Err why
aims_at_none grid how stamp es why off = on_err (addressed (Regular grid) stamp) why (λ at. target_from (Regular grid) how at es) off
