-- A catalogue of which one series has other elements is one, where these fit and the charges stay within the quotas.
use Rattle.std.proofs.Common.{◌≡◌, ℕ, ℤ, ◌+◌, ◌<◌, ◌≤◌, Bool, true, false, cond, Option, Some, None, option_map, unwrap_or, List, refl, sym, ap, subst, ◌∙◌, arith, zero-add, IsTrue}
use Rattle.std.specs.Option.{IsSome}
use Rattle.std.specs.Str.{bytes_eq}
use Rattle.std.specs.Cmp.{int_cmp_total}
use Rattle.std.specs.Ordering.{int_cmp}
use Rattle.std.specs.FinMap.{empty, get, get-empty, insert, len, int_cmp-IsAntisymmetric}
use Rattle.ts_base.specs.Moment.{IsStamp}
use Rattle.ts_base.specs.Name.{is_key}
use Rattle.ts_row.specs.Row.{Row, fits}
use Rattle.ts_offset.specs.declared.shape.Shape.{Shape}
use Rattle.ts_model.specs.declared.kind.Kind.{Kind}
use Rattle.ts_model.specs.declared.kind.Kind.TheVariants as kinds
use Rattle.ts_model.specs.Catalogue.{Container, Elements, Series, Catalogue, old_format, shape_of, columns_of, quota_of, named, with_named}
use Rattle.ts_model.specs.Charge.{elements_charge, series_charge, container_charge}
use Rattle.ts_model.specs.Definitions.{limit}
use Rattle.ts_model.proofs.OrderLemmas.{total, same_name}
use Rattle.ts_answer.specs.Elements.{with_elements}
use Rattle.ts_answer_laws.specs.ReadingLaws.{CanStand}
use Rattle.ts_catalogue_laws.specs.Catalogue.{IsSeries, IsCatalogue, EachElement, HasOrigin}
use Rattle.ts_catalogue_laws.proofs.MapLemmas.{got_inserted, few_inserted, len_stays}
use Rattle.ts_catalogue_laws.proofs.OnceLemmas.{once, rising}
use Rattle.ts_catalogue_laws.proofs.ChargeLemmas.{charged_less, charged_same, charged_none}
use Rattle.ts_catalogue_laws.proofs.SameLemmas.{same_bytes, others, charge_with, charge_had, charge_new, charge_shaped, columns_roomy, quota_there}

pub one_of : {X : Type 0} (o : Option X) (a b : X) → o ≡ Some a → o ≡ Some b → a ≡ b
one_of o a b one other = let same = sym one ∙ other in cc

module _ (cat : Catalogue) (good : IsCatalogue cat) (key : List ℕ) (s : Series) (listed : get cat.series key ≡ Some s) where
  abbrev pub own : Shape
  own = (good.series key s listed).shape

  -- elements that the series can have
  pub record CanHave (es : Elements) : Type 0 where
    pub stamps : EachElement es (λ stamp row. IsStamp stamp)
    pub rows : EachElement es (λ stamp row. IsTrue (fits (columns_of cat s) row))
    pub starts : EachElement es (λ stamp row. CanStand own stamp)
    pub visible : cat.format ≡ old_format → EachElement es (λ stamp row. row.hidden ≡ false)

  abbrev KeepsCharges : Elements → Type 0
  KeepsCharges es = (name : List ℕ) (c : Container) → get cat.containers name ≡ Some c → container_charge name (with_elements key s es cat) ≤ c.quota

  edited_few : (es : Elements) (kind : Kind) → len (named kind (with_elements key s es cat)) ≤ limit kind
  edited_few es kinds.RowType = good.few kinds.RowType
  edited_few es kinds.Pattern = good.few kinds.Pattern
  edited_few es kinds.Calendar = good.few kinds.Calendar
  edited_few es kinds.Container = good.few kinds.Container
  edited_few es kinds.Series = let most : len cat.series ≤ limit kinds.Series = good.few kinds.Series in omega (arith, most, len_stays total same_name cat.series key (record s { elements = es }) s listed)

  edited : (es : Elements) → CanHave es → KeepsCharges es → IsCatalogue (with_elements key s es cat)
  edited es have charges =
      let x = good.series key s listed in
      record {
        format = good.format;
        some_pages = good.some_pages;
        most_pages = good.most_pages;
        few = edited_few es;
        once = once (with_elements key s es cat);
        row_types = good.row_types;
        patterns = good.patterns;
        calendars = good.calendars;
        containers = λ n c there.
            let was = good.containers n c there in
            record { word = was.word; row_type_there = was.row_type_there; some = was.some; most = was.most; charge = charges n c there };
        quotas = good.quotas;
        series = λ q t there. got_inserted total same_name (λ q t. IsSeries cat.format (get cat.containers t.container) (shape_of cat t.kind) (columns_of cat t) q t) cat.series key q (record s { elements = es }) t
            (good.series q)
            (record {
              text = x.text;
              container_there = x.container_there;
              shape = x.shape;
              shape_there = x.shape_there;
              origin = x.origin;
              rising = rising es;
              stamps = have.stamps;
              rows = have.rows;
              starts = have.starts;
              visible = have.visible;
            }) there;
      }

  -- charges of the other containers stay, and that of its own is that of the others and its own
  module _ (es : Elements) (name : List ℕ) where
    abbrev now : Series
    now = record s { elements = es }

    elsewhere : bytes_eq s.container name ≡ false → container_charge name (with_elements key s es cat) ≡ container_charge name cat
    elsewhere apart =
        charge_with cat key name now ∙ ap (λ (b : Bool). cond b (series_charge cat now) 0 + others cat key name) apart
        ∙ sym (charge_had cat key name s listed ∙ ap (λ (b : Bool). cond b (series_charge cat s) 0 + others cat key name) apart)

    here : bytes_eq s.container name ≡ true → container_charge name (with_elements key s es cat) + series_charge cat s ≡ container_charge name cat + series_charge cat now
    here same =
        let a : container_charge name (with_elements key s es cat) ≡ series_charge cat now + others cat key name =
        charge_with cat key name now ∙ ap (λ (b : Bool). cond b (series_charge cat now) 0 + others cat key name) same in
        let b : container_charge name cat ≡ series_charge cat s + others cat key name =
        charge_had cat key name s listed ∙ ap (λ (b : Bool). cond b (series_charge cat s) 0 + others cat key name) same in
        omega (arith, a, b)

  charges_less : (es : Elements) → series_charge cat (record s { elements = es }) ≤ series_charge cat s → KeepsCharges es
  charges_less es less name c there = by (bytes_eq s.container name) refl where
    most : container_charge name cat ≤ c.quota
    most = (good.containers name c there).charge

    by : (b : Bool) → bytes_eq s.container name ≡ b → container_charge name (with_elements key s es cat) ≤ c.quota
    by true same = omega (arith, less, most, here es name same)
    by false apart = omega (arith, most, elsewhere es name apart)

  charges_fit : (es : Elements) → container_charge s.container (with_elements key s es cat) ≤ quota_of cat s → KeepsCharges es
  charges_fit es fit name c there = by (bytes_eq s.container name) refl where
    by : (b : Bool) → bytes_eq s.container name ≡ b → container_charge name (with_elements key s es cat) ≤ c.quota
    by true same =
        let its = quota_there cat good key s listed in
        let at : s.container ≡ name = same_bytes s.container name same in
        let c_is : its.0 ≡ c = one_of (get cat.containers name) its.0 c (subst (λ (n : List ℕ). get cat.containers n ≡ Some its.0) at its.1) there in
        let quota : quota_of cat s ≡ c.quota = its.2 ∙ ap (λ (x : Container). x.quota) c_is in
        subst (λ (n : List ℕ). container_charge n (with_elements key s es cat) ≤ c.quota) at (subst (λ (q : ℕ). container_charge s.container (with_elements key s es cat) ≤ q) quota fit)
    by false apart = let most : container_charge name cat ≤ c.quota = (good.containers name c there).charge in omega (arith, most, elsewhere es name apart)

  -- the elements that it has
  abbrev x : IsSeries cat.format (get cat.containers s.container) (shape_of cat s.kind) (columns_of cat s) key s
  x = good.series key s listed

  with_have : (at : ℤ) (row : Row) → IsStamp at → IsTrue (fits (columns_of cat s) row) → CanStand own at → (cat.format ≡ old_format → row.hidden ≡ false) → CanHave (insert s.elements at row)
  with_have at row stamp fit stand seen = record {
    stamps = λ q r there. got_inserted int_cmp_total int_cmp-IsAntisymmetric (λ q r. IsStamp q) s.elements at q row r (x.stamps q) stamp there;
    rows = λ q r there. got_inserted int_cmp_total int_cmp-IsAntisymmetric (λ q r. IsTrue (fits (columns_of cat s) r)) s.elements at q row r (x.rows q) fit there;
    starts = λ q r there. got_inserted int_cmp_total int_cmp-IsAntisymmetric (λ q r. CanStand own q) s.elements at q row r (x.starts q) stand there;
    visible = λ old q r there. got_inserted int_cmp_total int_cmp-IsAntisymmetric (λ q r. r.hidden ≡ false) s.elements at q row r (x.visible old q) (seen old) there;
  }

  -- an element comes, or stands in place of another, where the charge is within the quota then
  pub element_put : (at : ℤ) (row : Row) → IsStamp at → IsTrue (fits (columns_of cat s) row) → CanStand own at → (cat.format ≡ old_format → row.hidden ≡ false)
      → container_charge s.container (with_elements key s (insert s.elements at row) cat) ≤ quota_of cat s → IsCatalogue (with_elements key s (insert s.elements at row) cat)
  element_put at row stamp fit stand seen charge = edited (insert s.elements at row) (with_have at row stamp fit stand seen) (charges_fit (insert s.elements at row) charge)

  -- a row in place of another
  pub row_put : (at : ℤ) (old row : Row) → get s.elements at ≡ Some old → IsTrue (fits (columns_of cat s) row) → (cat.format ≡ old_format → row.hidden ≡ false) → IsCatalogue (with_elements key s (insert s.elements at row) cat)
  row_put at old row there fit seen =
      let es : Elements = insert s.elements at row in
      let charge : series_charge cat (record s { elements = es }) ≡ series_charge cat s =
      charge_shaped cat good key s es listed ∙ charged_same (columns_of cat s) own s.elements at old row there ∙ sym (charge_shaped cat good key s s.elements listed) in
      edited es (with_have at row (x.stamps at old there) fit (x.starts at old there) seen) (charges_less es (omega (arith, charge)))

  -- some elements go
  pub elements_gone : (p : ℤ → Bool) (es : Elements) → ((q : ℤ) → get es q ≡ cond (p q) (get s.elements q) None) → IsCatalogue (with_elements key s es cat)
  elements_gone p es is =
      let was : (q : ℤ) (r : Row) → get es q ≡ Some r → get s.elements q ≡ Some r = λ q r there. still (p q) (get s.elements q) r (sym (is q) ∙ there) in
      let less : elements_charge (columns_of cat s) own es ≤ elements_charge (columns_of cat s) own s.elements =
      charged_less (columns_of cat s) s.elements es p own (columns_roomy cat good key s listed) is in
      let a = charge_shaped cat good key s es listed in
      let b = charge_shaped cat good key s s.elements listed in
      edited es
      (record {
        stamps = λ q r there. x.stamps q r (was q r there);
        rows = λ q r there. x.rows q r (was q r there);
        starts = λ q r there. x.starts q r (was q r there);
        visible = λ old q r there. x.visible old q r (was q r there);
      })
      (charges_less es (omega (arith, less, a, b))) where
        still : (b : Bool) (o : Option Row) (r : Row) → cond b o None ≡ Some r → o ≡ Some r
        still true o r is = is
        still false o r is = absurd (let never : ⊥ = cc in never)

  pub elements_same : IsCatalogue (with_elements key s s.elements cat)
  elements_same = edited s.elements (record { stamps = x.stamps; rows = x.rows; starts = x.starts; visible = x.visible }) (charges_less s.elements (omega arith))

-- a series without elements comes
module _ (cat : Catalogue) (good : IsCatalogue cat) (key : List ℕ) (s : Series) (new : get cat.series key ≡ None) (text : IsTrue (is_key key)) (container : IsSome (get cat.containers s.container))
    (shape : Shape) (lies : shape_of cat s.kind ≡ Some shape) (origin : HasOrigin shape) (none : s.elements ≡ empty) (room : len cat.series < limit kinds.Series) where
  abbrev with_series : Catalogue
  with_series = with_named kinds.Series key s cat

  series_few : (kind : Kind) → len (named kind with_series) ≤ limit kind
  series_few kinds.RowType = good.few kinds.RowType
  series_few kinds.Pattern = good.few kinds.Pattern
  series_few kinds.Calendar = good.few kinds.Calendar
  series_few kinds.Container = good.few kinds.Container
  series_few kinds.Series = few_inserted total same_name cat.series key s (limit kinds.Series) room

  never_there : (q : ℤ) (r : Row) → get s.elements q ≡ Some r → ⊥
  never_there q r there =
      let nothing = sym there ∙ ap (λ (m : Elements). get m q) none ∙ get-empty int_cmp q in cc

  uncharged : series_charge cat s ≡ 0
  uncharged =
      ap (λ (o : Option Shape). unwrap_or (option_map (λ (x : Shape). elements_charge (columns_of cat s) x s.elements) o) 0) lies
      ∙ ap (elements_charge (columns_of cat s) shape) none ∙ charged_none (columns_of cat s) shape

  charge_same : (name : List ℕ) → container_charge name with_series ≡ container_charge name cat
  charge_same name = charge_with cat key name s ∙ ap (λ (n : ℕ). n + others cat key name) (weightless (bytes_eq s.container name)) ∙ zero-add (others cat key name) ∙ sym (charge_new cat key name new) where
    weightless : (b : Bool) → cond b (series_charge cat s) 0 ≡ 0
    weightless true = uncharged
    weightless false = refl

  pub series_made : IsCatalogue with_series
  series_made = record {
    format = good.format;
    some_pages = good.some_pages;
    most_pages = good.most_pages;
    few = series_few;
    once = once with_series;
    row_types = good.row_types;
    patterns = good.patterns;
    calendars = good.calendars;
    containers = λ n c there.
        let was = good.containers n c there in
        let most : container_charge n cat ≤ c.quota = was.charge in
        record { word = was.word; row_type_there = was.row_type_there; some = was.some; most = was.most; charge = omega (arith, most, charge_same n) };
    quotas = good.quotas;
    series = λ q t there. got_inserted total same_name (λ q t. IsSeries cat.format (get cat.containers t.container) (shape_of cat t.kind) (columns_of cat t) q t) cat.series key q s t
        (good.series q)
        (record {
          text = text;
          container_there = container;
          shape = shape;
          shape_there = lies;
          origin = origin;
          rising = rising s.elements;
          stamps = λ at row is. absurd (never_there at row is);
          rows = λ at row is. absurd (never_there at row is);
          starts = λ at row is. absurd (never_there at row is);
          visible = λ old at row is. absurd (never_there at row is);
        }) there;
  }
