use Rattle.std.proofs.Common.{◌≡◌, arith, sym, ◌∙◌, Result, Ok, Err, OnOk, IsOk, false, is_err, refl}
use Rattle.ts_recover.proofs.CallerLemmas.{reads_none}
use Rattle.ts_recover.proofs.ReadLemmas.{reads_one}
use Rattle.ts_store.proofs.GetLemmas.{own_cache, cache_twice, got_memory, read_cached, got_cached, lawful_but_cache, size_but_cache, undisturbed_but_cache, got_clean, not_in_memory}
use Rattle.ts_store.proofs.on.OnPages.get.Goals as goal

at_ok : {T E : Type 0} (r : Result T E) (P : Type 0) → is_err r ≡ false → OnOk r P → P
at_ok (Ok x) P no_err done = done
at_ok (Err e) P no_err done = absurd (cc)

answered : {T E : Type 0} (r : Result T E) → is_err r ≡ false → IsOk r
answered (Ok x) no_err = refl
answered (Err e) no_err = absurd (cc)

pub invariant_of-self-clause-size : goal.invariant_of-self-clause-size
invariant_of-self-clause-size g c =
    let s = c.args.self.now.store.now in
    let v = g.V.Volume.device c.args.self.now.vol.now in
    size_but_cache g.V.Volume.tells s c.read.new.self v v (own_cache s c.read.new.self _ c.read.ensures.cache) refl refl c.args.self.now.size

pub invariant_of-self-clause-lawful : goal.invariant_of-self-clause-lawful
invariant_of-self-clause-lawful g c =
    let s = c.args.self.now.store.now in
    let v = g.V.Volume.device c.args.self.now.vol.now in
    lawful_but_cache g.V.Volume.tells s c.read.new.self v v (own_cache s c.read.new.self _ c.read.ensures.cache) refl c.args.self.now.lawful

pub invariant_of-self-clause-cached : goal.invariant_of-self-clause-cached
invariant_of-self-clause-cached g c told =
    let v = g.V.Volume.device c.args.self.now.vol.now in
    read_cached c.args.self.now.store.now c.read.new.self v.held v.held c.args.no c.read.ensures.cache refl (c.args.self.now.cached told)

pub returns-then-read-clause-got : goal.returns-then-read-clause-got
returns-then-read-clause-got g c =
    let s = c.args.self.now.store.now in
    got_memory g.V.Volume.tells s c.read.new.self c.args.no c.read.new.into.bytes (g.V.Volume.device c.args.self.now.vol.now) (own_cache s c.read.new.self _ c.read.ensures.cache)
    (c.read.ensures.found.0 c.if-read.true) c.read.ensures.page c.args.self.now.cached

pub returns-then-read-clause-undisturbed : goal.returns-then-read-clause-undisturbed
returns-then-read-clause-undisturbed g c =
    let s = c.args.self.now.store.now in
    let v = g.V.Volume.device c.args.self.now.vol.now in (
      refl,
      refl,
      undisturbed_but_cache g.V.Volume.tells s c.read.new.self v v (own_cache s c.read.new.self _ c.read.ensures.cache) (reads_none g.V.Volume.tells v (g.met.V.Volume.lawful c.args.self.now.vol.now))
          (λ told now. read_cached s c.read.new.self v.held v.held c.args.no c.read.ensures.cache refl now),
    )

pub invariant_of-self-then-is_err-clause-size : goal.invariant_of-self-then-is_err-clause-size
invariant_of-self-then-is_err-clause-size g c =
    let s = c.args.self.now.store.now in
    let read = c.read_at-read.ensures in
    size_but_cache g.V.Volume.tells s c.read.new.self (g.V.Volume.device c.args.self.now.vol.now) (g.V.Volume.device c.read_at-read.new.self) (own_cache s c.read.new.self _ c.read.ensures.cache) read.held read.size c.args.self.now.size

pub invariant_of-self-then-is_err-clause-lawful : goal.invariant_of-self-then-is_err-clause-lawful
invariant_of-self-then-is_err-clause-lawful g c =
    let s = c.args.self.now.store.now in
    lawful_but_cache g.V.Volume.tells s c.read.new.self (g.V.Volume.device c.args.self.now.vol.now) (g.V.Volume.device c.read_at-read.new.self) (own_cache s c.read.new.self _ c.read.ensures.cache)
    c.read_at-read.ensures.held c.args.self.now.lawful

pub invariant_of-self-then-is_err-clause-cached : goal.invariant_of-self-then-is_err-clause-cached
invariant_of-self-then-is_err-clause-cached g c told =
    read_cached c.args.self.now.store.now c.read.new.self (g.V.Volume.device c.args.self.now.vol.now).held (g.V.Volume.device c.read_at-read.new.self).held c.args.no c.read.ensures.cache c.read_at-read.ensures.held (c.args.self.now.cached told)

pub returns-then-is_err-clause-undisturbed : goal.returns-then-is_err-clause-undisturbed
returns-then-is_err-clause-undisturbed g c =
    let s = c.args.self.now.store.now in
    let v = g.V.Volume.device c.args.self.now.vol.now in
    let w = g.V.Volume.device c.read_at-read.new.self in
    let read = c.read_at-read.ensures in (
      refl,
      refl,
      undisturbed_but_cache g.V.Volume.tells s c.read.new.self v w (own_cache s c.read.new.self _ c.read.ensures.cache)
          (reads_one g.V.Volume.tells _ c.read_at-read.new.into c.read_at-read.result v w (g.met.V.Volume.lawful c.args.self.now.vol.now) read)
          (λ told now. read_cached s c.read.new.self v.held w.held c.args.no c.read.ensures.cache read.held now),
    )

pub invariant_of-self-2-clause-size : goal.invariant_of-self-2-clause-size
invariant_of-self-2-clause-size g c =
    let s = c.args.self.now.store.now in
    let read = c.read_at-read.ensures in
    size_but_cache g.V.Volume.tells s c.keep_read.new.self (g.V.Volume.device c.args.self.now.vol.now) (g.V.Volume.device c.read_at-read.new.self)
    (cache_twice s c.read.new.self c.keep_read.new.self _ c.read.ensures.cache c.keep_read.ensures.others) read.held read.size c.args.self.now.size

pub invariant_of-self-2-clause-lawful : goal.invariant_of-self-2-clause-lawful
invariant_of-self-2-clause-lawful g c =
    let s = c.args.self.now.store.now in
    lawful_but_cache g.V.Volume.tells s c.keep_read.new.self (g.V.Volume.device c.args.self.now.vol.now) (g.V.Volume.device c.read_at-read.new.self)
    (cache_twice s c.read.new.self c.keep_read.new.self _ c.read.ensures.cache c.keep_read.ensures.others) c.read_at-read.ensures.held c.args.self.now.lawful

pub invariant_of-self-2-clause-cached : goal.invariant_of-self-2-clause-cached
invariant_of-self-2-clause-cached g c told =
    got_cached g.V.Volume.tells c.args.self.now.store.now c.read.new.self c.keep_read.new.self c.args.no _ c.read_at-read.new.into c.read_at-read.result (g.V.Volume.device c.args.self.now.vol.now) (g.V.Volume.device c.read_at-read.new.self)
    c.read.ensures.cache c.keep_read.ensures.cache (omega arith) (omega (arith, c.read_at-read.auto.into)) c.read_at-read.ensures
    (at_ok c.read_at-read.result _ (sym c.is_err.ensures.value ∙ c.if-is_err.false) c.read_at-read.ensures.read told) (c.args.self.now.cached told)

pub returns-clause-got : goal.returns-clause-got
returns-clause-got g c =
    let s = c.args.self.now.store.now in
    got_clean g.V.Volume.tells s c.keep_read.new.self c.args.no _ c.read_at-read.new.into c.read_at-read.result (g.V.Volume.device c.args.self.now.vol.now) (g.V.Volume.device c.read_at-read.new.self)
    (cache_twice s c.read.new.self c.keep_read.new.self _ c.read.ensures.cache c.keep_read.ensures.others) (omega arith) (omega (arith, c.read_at-read.auto.into))
    (not_in_memory c.args.no s c.read.result c.if-read.false c.read.ensures.found.1) c.read_at-read.ensures
    (answered c.read_at-read.result (sym c.is_err.ensures.value ∙ c.if-is_err.false))
    (at_ok c.read_at-read.result _ (sym c.is_err.ensures.value ∙ c.if-is_err.false) c.read_at-read.ensures.read)

pub returns-clause-undisturbed : goal.returns-clause-undisturbed
returns-clause-undisturbed g c =
    let s = c.args.self.now.store.now in
    let v = g.V.Volume.device c.args.self.now.vol.now in
    let w = g.V.Volume.device c.read_at-read.new.self in (
      refl,
      refl,
      undisturbed_but_cache g.V.Volume.tells s c.keep_read.new.self v w (cache_twice s c.read.new.self c.keep_read.new.self _ c.read.ensures.cache c.keep_read.ensures.others)
          (reads_one g.V.Volume.tells _ c.read_at-read.new.into c.read_at-read.result v w (g.met.V.Volume.lawful c.args.self.now.vol.now) c.read_at-read.ensures)
          (λ told now. got_cached g.V.Volume.tells s c.read.new.self c.keep_read.new.self c.args.no _ c.read_at-read.new.into c.read_at-read.result v w
          c.read.ensures.cache c.keep_read.ensures.cache (omega arith) (omega (arith, c.read_at-read.auto.into)) c.read_at-read.ensures
          (at_ok c.read_at-read.result _ (sym c.is_err.ensures.value ∙ c.if-is_err.false) c.read_at-read.ensures.read told) now),
    )
