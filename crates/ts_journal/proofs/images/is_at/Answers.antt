use Rattle.std.proofs.Common.{eqb, map, sym, ap, ◌∙◌, arith}
use Rattle.std.proofs.lemmas.Bool.{le-ltb}
use Rattle.ts_journal.specs.Journal.{Entry}
use Rattle.ts_journal.specs.Stored.{entry_of}
use Rattle.ts_journal.proofs.BatchLemmas.{no_entry, stands_at-is, stands_at-past}
use Rattle.ts_journal.proofs.StoredLemmas.{kept_length, kept_at}
use Rattle.ts_journal.proofs.images.is_at.Goals as goal

pub returns-then-place-items : goal.returns-then-place-items
returns-then-place-items c =
    let xs = c.args.items.now in
    let is = kept_at xs c.args.place c.index-items-place.result no_entry c.if-place-items.true in
    ap (λ (e : Entry). eqb e.0 c.args.no) (sym is) ∙ sym (stands_at-is (map entry_of xs) c.args.place c.args.no no_entry (omega (arith, kept_length xs, c.if-place-items.true)))

pub returns-else-place-items : goal.returns-else-place-items
returns-else-place-items c =
    le-ltb _ _ c.if-place-items.false ∙ sym (stands_at-past (map entry_of c.args.items.now) c.args.place c.args.no (omega (arith, kept_length c.args.items.now, c.if-place-items.false)))
