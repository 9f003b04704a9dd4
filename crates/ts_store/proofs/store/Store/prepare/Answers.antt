use Rattle.std.proofs.Common.{◌^◌, List, length, ap, arith}
use Rattle.std.proofs.lemmas.Result.{on_ok_weaker}
use Rattle.ts_journal.specs.Journal.{Entry, put_all}
use Rattle.ts_journal.proofs.BatchLemmas.{length_rising}
use Rattle.ts_store.proofs.JoinLemmas.{joined_length}
use Rattle.ts_store.proofs.store.Store.prepare.Goals as goal

pub overflow_add-kept : goal.overflow_add-kept
overflow_add-kept c =
    let s = c.self.inside in
    omega (
      arith,
      c.len-more.ensures,
      c.len-kept.ensures,
      length_rising s.batch.entries 0 (2 ^ 32) c.self.invariant.batch_sound.rising,
      length_rising s.transaction.entries 0 (2 ^ 32) c.self.invariant.transaction_sound.rising,
    )

pub returns-then-kept-eq0-clause-ok : goal.returns-then-kept-eq0-clause-ok
returns-then-kept-eq0-clause-ok c =
    let s = c.self.inside in
    omega (
      arith,
      joined_length s.transaction.entries s.batch.entries,
      c.len-more.ensures,
      c.len-kept.ensures,
      c.in_ok-reserve.ensures.ok,
      c.in_ok-reserve.ensures.images,
    )

pub returns-clause-ok : goal.returns-clause-ok
returns-clause-ok c =
    let s = c.self.inside in
    on_ok_weaker c.reserve-2.result (λ done. omega (
      arith,
      joined_length s.transaction.entries s.batch.entries,
      ap (λ (es : List Entry). length (put_all es s.batch.entries)) c.reserve-2.ensures.others,
      c.len-more.ensures,
      c.len-kept.ensures,
      c.in_ok-reserve.ensures.ok,
      c.in_ok-reserve.ensures.images,
    )) c.reserve-2.ensures.ok
