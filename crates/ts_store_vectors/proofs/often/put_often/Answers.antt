use Rattle.std.proofs.Common.{◌≡◌, ◌+◌, ◌≤◌, inl, inr, ℕ, IsTrue, List, Contains, subst, ◌∙◌, arith}
use Rattle.std.proofs.lemmas.Bool.{cases_lt}
use Rattle.ts_page.specs.Pages.{Contents}
use Rattle.ts_store_vectors.proofs.often.put_often.Goals as goal

-- the first put adds an image, and each of the others nothing
one_image : (v u w : Contents) (time : ℕ) → (time ≡ 0 → u.change_bytes ≤ v.change_bytes) → (1 ≤ time → IsTrue (u.imaged 930)) → u.change_bytes ≤ v.change_bytes + 4101
    → w.change_bytes ≤ u.change_bytes + 4101 → (IsTrue (u.imaged 930) → w.change_bytes ≤ u.change_bytes) → w.change_bytes ≤ v.change_bytes + 4101
one_image v u w time none imaged bytes more again = elim (cases_lt 0 time) [
  | inl some ↦ omega (arith, bytes, again (imaged (omega (arith, some))))
  | inr first ↦ omega (arith, more, none (omega (arith, first)))
]

pub put-requires-clause-used : goal.put-requires-clause-used
put-requires-clause-used g c found =
    c.requires.used (subst (λ (free : List ℕ). Contains free 930) c.loop-time.invariant.free found)

pub loop-time-preserved : goal.loop-time-preserved
loop-time-preserved g c =
    let inv = c.loop-time.invariant in
    let put = c.in_ok-put.ensures.put in
    record {
      undisturbed = g.met.P.Pages.«then» c.args.pages.now c.loop-time.pages c.put.new.self inv.undisturbed c.in_ok-put.ensures.undisturbed;
      count = put.call.count ∙ inv.count;
      free = put.free ∙ inv.free;
      none = λ zero. absurd (omega (arith, zero));
      bytes = one_image (g.P.Pages.contents c.args.pages.now) (g.P.Pages.contents c.loop-time.pages) (g.P.Pages.contents c.put.new.self) c.loop-time.time inv.none inv.imaged inv.bytes put.change_bytes put.again;
      imaged = λ some. put.imaged;
    }

pub returns-in_err-put-clause-bytes : goal.returns-in_err-put-clause-bytes
returns-in_err-put-clause-bytes g c =
    let inv = c.loop-time.invariant in
    let put = c.put.ensures.put in
    one_image (g.P.Pages.contents c.args.pages.now) (g.P.Pages.contents c.loop-time.pages) (g.P.Pages.contents c.put.new.self) c.loop-time.time inv.none inv.imaged inv.bytes put.change_bytes put.again
