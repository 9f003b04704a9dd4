use Rattle.std.proofs.Common.{◌≡◌, ℕ, None, false, replicate, refl, ap, sym, subst, ◌∙◌, inr}
use Rattle.ts_model.specs.Catalogue.{newest_format}
use Rattle.ts_model.specs.declared.kind.Kind.{Kind}
use Rattle.ts_model.specs.declared.kind.Kind.TheVariants as kinds
use Rattle.ts_model.specs.Definitions.{no_tables, limit}
use Rattle.ts_model.specs.Table.{Slots}
use Rattle.ts_model.specs.Parts.{tables_of, IsPart}
use Rattle.ts_model.proofs.PartsLemmas.{part-new, read-none}
use Rattle.ts_model.proofs.defs.Defs.new.Goals as goal

abbrev empty : ℕ → Slots
empty count = record { count = count; slots = replicate count None; room = false }

empty-tables : tables_of newest_format (empty 64) (empty 256) (empty 256) (empty 64) (empty 4096) ≡ no_tables
empty-tables = λ i. record {
  definitions = record {
    format = newest_format;
    row_types = read-none kinds.RowType 64 i;
    patterns = read-none kinds.Pattern 256 i;
    calendars = read-none kinds.Calendar 256 i;
    containers = read-none kinds.Container 64 i;
    series = read-none kinds.Series 4096 i;
  };
  room = record { row_types = false; patterns = false; calendars = false; containers = false; series = false };
}

empty-part : (kind : Kind) (table : Slots) (count : ℕ) → table ≡ empty count → count ≡ limit kind → IsPart kind table
empty-part kind table count is size = subst (IsPart kind) (sym is) (part-new kind count false size)

pub invariant_of-result : goal.invariant_of-result
invariant_of-result c = record {
  format = inr refl;
  of_row_types = empty-part kinds.RowType c.new.result c.limit.result c.new.ensures c.limit.ensures;
  of_patterns = empty-part kinds.Pattern c.new-2.result c.limit-2.result c.new-2.ensures c.limit-2.ensures;
  of_calendars = empty-part kinds.Calendar c.new-3.result c.limit-3.result c.new-3.ensures c.limit-3.ensures;
  of_containers = empty-part kinds.Container c.new-4.result c.limit-4.result c.new-4.ensures c.limit-4.ensures;
  of_series = empty-part kinds.Series c.new-5.result c.limit-5.result c.new-5.ensures c.limit-5.ensures;
}

pub returns : goal.returns
returns c =
    (λ i. tables_of newest_format
    ((c.new.ensures ∙ ap empty c.limit.ensures) i)
    ((c.new-2.ensures ∙ ap empty c.limit-2.ensures) i)
    ((c.new-3.ensures ∙ ap empty c.limit-3.ensures) i)
    ((c.new-4.ensures ∙ ap empty c.limit-4.ensures) i)
    ((c.new-5.ensures ∙ ap empty c.limit-5.ensures) i))
    ∙ empty-tables
